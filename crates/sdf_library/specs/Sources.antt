-- What a look at a position of a source item tells, and what a call there answers.
use Rattle.std.specs.Prelude.{◌≡◌, ℕ, ◌+◌, ◌-◌, if◌then◌else◌, List, Result, Ok, Err}
use Rattle.beam_ports.specs.Counts.{raised}
use Rattle.beam_values.specs.Lines.{next_start}
use Rattle.beam_values.specs.declared.plan.Args.{Args}
use Rattle.beam_values.specs.declared.plan.SourceKind.{SourceKind}
use Rattle.beam_values.specs.declared.plan.SourceKind.TheVariants.{Lines, TimedLines, Count, Made}
use Rattle.beam_model.specs.Positions as model
use Rattle.beam_model.specs.Positions.{emission_within}
use Rattle.dofn_traits.specs.Calls.{is_cut_short, AddsEmission}
use Rattle.dofn_traits.specs.declared.calls.CallRefusal.{CallRefusal}
use Rattle.dofn_traits.specs.declared.calls.CallRefusal.TheVariants.{Failed, NoMemory}
use Rattle.dofn_traits.specs.declared.calls.Emission.{Emission}
use Rattle.dofn_traits.specs.declared.calls.Found.{Found}
use Rattle.dofn_traits.specs.declared.calls.Found.TheVariants.{Here, More}

-- what is seen of a position: its line goes on past the bytes; or what it emits, and the position after it
pub data Seen : Type 0 where
  CutShort : Seen
  Whole : model.Emission → ℕ → Seen

-- What a position emits, and the one after it, as the bytes show them: the bytes from `base` on are as a file of their own, in which the position is
-- counted from `base`. What is counted or made needs none. By hand: of `ab LF cd LF`, the bytes `LF cd LF` from 2 on show that position 3 emits `cd`
-- and the next one is 6, and that position 4 emits nothing and the next one is 6 too.
abbrev pub emission_seen : SourceKind → Args → List ℕ → ℕ → ℕ → model.Emission
emission_seen Lines args bytes base p = emission_within Lines args bytes (p - base)
emission_seen TimedLines args bytes base p = emission_within TimedLines args bytes (p - base)
emission_seen Count args bytes base p = emission_within Count args bytes p
emission_seen Made args bytes base p = emission_within Made args bytes p

abbrev pub next_seen : SourceKind → List ℕ → ℕ → ℕ → ℕ
next_seen Lines bytes base p = base + next_start bytes (p - base)
next_seen TimedLines bytes base p = base + next_start bytes (p - base)
next_seen Count bytes base p = p + 1
next_seen Made bytes base p = p + 1

-- The position `p` of an item with `len` positions, of which the bytes from `base` on are looked at. By hand: of the six bytes `ab LF cd LF`, the
-- bytes `LF cd` from 2 on cut position 3 short; with the last LF, or as the last bytes of a file of five, they show it whole.
abbrev pub seen : SourceKind → Args → List ℕ → ℕ → ℕ → ℕ → Seen
seen kind args bytes base len p =
    if is_cut_short kind bytes base len p then CutShort else Whole (emission_seen kind args bytes base p) (next_seen kind bytes base p)

-- A call answers what is seen, and adds what is emitted. It fails on poison alone, and there and where more bytes are wanted it asks for no memory. By
-- hand: at a mark line `!7` it answers the next position, adds no value, and the mark is 7 from then on.
abbrev pub Tells : Seen → Emission → Emission → Result Found CallRefusal → Type 0
Tells CutShort old new (Ok More) = new ≡ old
Tells CutShort old new (Ok (Here at)) = ⊥
Tells CutShort old new (Err e) = ⊥
Tells (Whole (model.Emits values declared) next) old new (Ok (Here at)) = (at ≡ next) × AddsEmission (model.Emits values declared) old new
Tells (Whole (model.Emits values declared) next) old new (Ok More) = ⊥
Tells (Whole (model.Emits values declared) next) old new (Err NoMemory) = Unit {0}
Tells (Whole (model.Emits values declared) next) old new (Err Failed) = ⊥
Tells (Whole model.Poison next) old new (Ok found) = ⊥
Tells (Whole model.Poison next) old new (Err NoMemory) = ⊥
Tells (Whole model.Poison next) old new (Err Failed) = Unit {0}

-- the same of what a position emits alone
abbrev pub Adds : model.Emission → Emission → Emission → Result (Unit {0}) CallRefusal → Type 0
Adds (model.Emits values declared) old new (Ok done) = AddsEmission (model.Emits values declared) old new
Adds (model.Emits values declared) old new (Err NoMemory) = Unit {0}
Adds (model.Emits values declared) old new (Err Failed) = ⊥
Adds model.Poison old new (Ok done) = ⊥
Adds model.Poison old new (Err NoMemory) = ⊥
Adds model.Poison old new (Err Failed) = Unit {0}

-- the count of faults after a call that answers so: 3 after poison where it was 2, and else 2
abbrev pub counted : ℕ → Result Found CallRefusal → ℕ
counted faults (Ok found) = faults
counted faults (Err NoMemory) = faults
counted faults (Err Failed) = raised faults
