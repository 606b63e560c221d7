use Rattle.std.proofs.Common.{◌≡◌, ℕ, ◌++◌, false, Option, Some, None, ap, subst, sym, ◌∙◌}
use Rattle.std.specs.BTreeMap as tree
use Rattle.std.specs.Option.{MatchOption}
use Rattle.std.proofs.lemmas.Option.{none-some, same_Some}
use Rattle.cell_index.specs.Indexes.{cell_key_cmp}
use Rattle.cell_index.specs.declared.index_key.CellKey.{CellKey}
use Rattle.stateful_core.specs.Routes.{belongs_at}
use Rattle.stateful_core.specs.Seen.{cells_of}
use Rattle.stateful_core.proofs.ByIndex.{none_is}
use Rattle.stateful_core.proofs.routing.found.Goals as goal

at_none : {X : Type 0} (o : Option X) (P : Type 0) (Q : X → Type 0) → o ≡ None → P → MatchOption o P Q
at_none None P Q e p = p
at_none (Some x) P Q e p = absurd (cc)

matched : {X : Type 0} (o : Option X) (P R : Type 0) (Q S : X → Type 0) → MatchOption o P Q → (P → R) → ((x : X) → Q x → S x) → MatchOption o R S
matched None P R Q S h f g = f h
matched (Some x) P R Q S h f g = g x h

pub returns-in_err-number : goal.returns-in_err-number
returns-in_err-number c =
    at_none c.from_residual.result _ _ c.from_residual.ensures
    (none_is c.args.index.now.numbers.places (cells_of c.args.slots.now ++ cells_of c.args.fresh.now) c.args.arrival.now c.requires.found
    (λ at e. absurd (none-some at
    (sym (c.in_err-number.was) ∙ c.get.ensures ∙ ap (λ (k : CellKey). tree.get cell_key_cmp c.args.index.now.numbers.places k) c.requires.key ∙ e))))

pub returns : goal.returns
returns c =
    matched c.own.result _ _ _ _ c.own.ensures
    (λ off. none_is c.args.index.now.numbers.places (cells_of c.args.slots.now ++ cells_of c.args.fresh.now) c.args.arrival.now c.requires.found
    (λ at e.
    subst (λ (n : ℕ). belongs_at c.args.arrival.now (cells_of c.args.slots.now ++ cells_of c.args.fresh.now) n ≡ false)
    (same_Some c.in_ok-number.number at
    (sym (c.in_ok-number.was) ∙ c.get.ensures ∙ ap (λ (k : CellKey). tree.get cell_key_cmp c.args.index.now.numbers.places k) c.requires.key ∙ e)) off))
    (λ number h. h.1)
