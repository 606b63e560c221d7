use Rattle.std.proofs.Common.{◌≡◌, ◌+◌, ◌-◌, ◌<◌, ◌≤◌, ℕ, Option, Some, subst, sym}
use Rattle.std.specs.Prelude.{IfSome, OnSome}
use Rattle.beam_values.specs.Lines.{next_start}
use Rattle.chain_exec.specs.Sources.{IsPagerOf}
use Rattle.combine_views.specs.Lines.{HasAdded, outputs_seen}
use Rattle.combine_views.proofs.Skimming.{pager_noted, worked_held}
use Rattle.combine_views.proofs.skim.add_noted.Goals as goal

found : (P : ℕ → Type 0) (o : Option ℕ) (n : ℕ) → o ≡ Some n → IfSome o P → P n
found P o n is holds = subst (λ (x : Option ℕ). IfSome x P) is holds

there : (P : Type 0) (o : Option ℕ) (n : ℕ) → o ≡ Some n → OnSome o P → P
there P o n is holds = subst (λ (x : Option ℕ). OnSome x P) is holds

pub returns-in-Some-clause-step : goal.returns-in-Some-clause-step
returns-in-Some-clause-step g c = λ opening shown.
    worked_held c.args.work c.requires.work opening c.args.pager.now c.args.p c.requires.serves c.requires.whole shown g.C.Combiner.stands c.args.graph.now c.args.source
    c.args.partials.now c.add_held.new.partials c.in-Some.next
    (found (λ n. (c.args.p < n) × (n ≤ c.args.pager.now.len)) c.in_ok-next.field-0 c.in-Some.next c.in-Some.is c.in_ok-next.ensures.within).0
    (found (λ n. n ≡ c.args.pager.now.base + next_start c.args.pager.now.bytes (c.args.p - c.args.pager.now.base)) c.in_ok-next.field-0 c.in-Some.next c.in-Some.is c.in_ok-next.ensures.next)
    (there (HasAdded g.C.Combiner.stands (outputs_seen c.args.graph.now c.args.source c.args.work c.args.pager.now.bytes c.args.pager.now.base c.args.p) c.args.partials.now c.add_held.new.partials) c.in_ok-next.field-0 c.in-Some.next c.in-Some.is c.in_ok-next.ensures.added)

pub returns-in-Some-clause-held : goal.returns-in-Some-clause-held
returns-in-Some-clause-held g c = λ opening shown held.
    subst (IsPagerOf opening) (sym c.note_line.ensures)
    (pager_noted c.args.work c.requires.work opening c.args.pager.now c.args.p c.requires.serves c.requires.whole shown c.in-Some.next
    (found (λ n. n ≡ c.args.pager.now.base + next_start c.args.pager.now.bytes (c.args.p - c.args.pager.now.base)) c.in_ok-next.field-0 c.in-Some.next c.in-Some.is c.in_ok-next.ensures.next) held)
