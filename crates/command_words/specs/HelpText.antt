-- What help prints: a line for each command, and one for their options.
use Rattle.std.specs.Prelude.{ℕ, List, [], ◌∷◌, ◌++◌, codes}

abbrev line : List ℕ → List ℕ
line text = text ++ 10 ∷ []

abbrev pub help_text : List ℕ
help_text =
    line (codes "beam_run panes FILE SIZE [OPTIONS]")
    ++ line (codes "beam_run run PLAN [OPTIONS]")
    ++ line (codes "beam_run replay PLAN SCHEDULE [OPTIONS]")
    ++ line (codes "beam_run make COUNT NUMBER")
    ++ line (codes "beam_run drill COUNT NUMBER [OPTIONS]")
    ++ line (codes "beam_run combine PLAN [OPTIONS]")
    ++ line (codes "OPTIONS: --workers N --bundle N --chunk N --attempts N")
