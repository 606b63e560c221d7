use Rattle.std.proofs.Common.{◌≡◌, ℕ, true, false, Option, Some, None, subst, sym, ◌∙◌}
use Rattle.std.specs.Option.{MatchOption}
use Rattle.std.proofs.lemmas.Option.{none-some, same_Some}
use Rattle.cell_index.specs.declared.index_key.CellKey.{CellKey}
use Rattle.stateful_core.specs.Cells.{number_of}
use Rattle.stateful_core.specs.Routes.{is_cell_at}
use Rattle.stateful_core.specs.Seen.{cells_of}
use Rattle.stateful_core.proofs.Sought.{no_number, number_there}
use Rattle.stateful_core.proofs.finding.indexed.Goals as goal

pub returns-in_err-number : goal.returns-in_err-number
returns-in_err-number c =
    c.from_residual.ensures
    ∙ no_number c.args.index.now.numbers.places (cells_of c.args.slots.now) c.args.wanted.now c.requires (λ at e. absurd (none-some at (sym c.in_err-number.was ∙ c.get.ensures ∙ e)))

either : (o n : Option ℕ) (P : Type 0) (Q : ℕ → Type 0) → MatchOption o P Q → (P → None ≡ n) → ((at : ℕ) → Q at → Some at ≡ n) → o ≡ n
either None n P Q h none some = none h
either (Some at) n P Q h none some = some at h

pub returns : goal.returns
returns c =
    let places = c.args.index.now.numbers.places in
    let wanted = c.args.wanted.now in
    let cells = cells_of c.args.slots.now in
    let own = subst (λ (k : CellKey). MatchOption c.own.result (is_cell_at k.node k.key k.span (cells_of c.args.slots.now) c.in_ok-number.number ≡ false)
    (λ same. (same ≡ c.in_ok-number.number) × (is_cell_at k.node k.key k.span (cells_of c.args.slots.now) same ≡ true))) c.cell-cell.ensures c.own.ensures in
    either c.own.result (number_of wanted.node wanted.key wanted.span cells) _ _ own
    (λ off. no_number places cells wanted c.requires
    (λ at e. subst (λ (n : ℕ). is_cell_at c.args.wanted.now.node c.args.wanted.now.key c.args.wanted.now.span (cells_of c.args.slots.now) n ≡ false)
    (same_Some c.in_ok-number.number at (sym c.in_ok-number.was ∙ c.get.ensures ∙ e)) off))
    (λ at h. number_there places cells wanted at c.requires h.1)
