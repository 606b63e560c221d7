-- What is dead in an outcome: how it failed, and that at the end of a run all poison is dead.
use Rattle.std.proofs.Common.{◌≡◌, ◌⊎◌, inl, inr, ℕ, ◌+◌, ◌*◌, ◌<◌, ◌≤◌, ◌==◌, Bool, true, false, ◌&&◌, ◌||◌, cond, List, [], ◌∷◌, ◌++◌, length, map, refl, sym, ap, ap₂, subst, ◌∙◌, arith}
use Rattle.std.specs.Prelude.{Option, Some}
use Rattle.std.specs.List.{All, flat_map, list_any, sum_by}
use Rattle.std.proofs.lemmas.Bool.{and_parts, cases_lt, eqb-true}
use Rattle.std.proofs.lemmas.Bool.Decides.{nat_tests}
use Rattle.std.proofs.lemmas.List.Sums.{sum_by-append, sum_by-cons}
use Rattle.beam_values.specs.Cover.{Place, times_at, times_dead, times_done, times_listed, whole}
use Rattle.beam_values.specs.Intervals.{Offsets, times_in}
use Rattle.beam_values.specs.declared.arrival.Arrival.{Arrival}
use Rattle.beam_values.specs.declared.file_text.FileText.{FileText}
use Rattle.beam_values.specs.declared.outcome.Outcome.{Outcome}
use Rattle.beam_values.specs.declared.piece.Dead.{Dead}
use Rattle.beam_values.specs.declared.piece.Done.{Done}
use Rattle.beam_values.specs.declared.piece.FileLen.{FileLen}
use Rattle.beam_values.specs.declared.plan.Plan.{Plan}
use Rattle.beam_model.specs.Account.{arrivals_of}
use Rattle.beam_model.specs.Chains.{Output, Arrives}
use Rattle.beam_model.specs.Coverings.{is_item, item_at, spread_done, spread_dones, spread_of}
use Rattle.beam_model.specs.Flow.{log_chains, pane_chains}
use Rattle.beam_model.specs.Positions.{SourceItem, item_len, items, len_of}
use Rattle.beam_model.specs.Spread.{is_poison, outputs_at}
use Rattle.stateful_core.specs.Cells.{key_arrivals, logs_of}
use Rattle.book_core.specs.Book.{SeenBook, HeldPane, panes_of, sets_aside}
use Rattle.book_core.specs.Calls.{IsOutcomeOf}
use Rattle.book_core.specs.Facts.{AreAttemptsCounted, ArePartitioned, AreSetAside, IsBalanced, IsLastCall, IsWellFormed, held_chains}
use Rattle.book_core.specs.Runs.{AreTold, IsThrough}
use Rattle.ended_runs.specs.DeadLetters.{AreDeadNoted, ArePoisonDead, IsPositionOf}
use Rattle.ended_runs.proofs.Listed.{done_covers}
use Rattle.ended_runs.proofs.Poisons.{any_at, any_left, any_right}

-- ---- how they failed

pub none_dead : (b : SeenBook) (o : Outcome) → AreSetAside b → sets_aside b.plan ≡ false → IsOutcomeOf b o → o.dead ≡ []
none_dead b o aside never of = of.dead ∙ (aside.none never).dead

pub dead_noted : (b : SeenBook) (o : Outcome) → AreAttemptsCounted b → AreSetAside b → IsOutcomeOf b o → AreDeadNoted b o
dead_noted b o counted aside of = record {
  none = λ never. none_dead b o aside (subst (λ (p : Plan). sets_aside p ≡ false) of.plan never) of;
  notes = subst (All (λ (d : Dead). IsLastCall b.options.attempts d.note)) (sym of.dead) aside.dead;
  counted = subst (λ (l : List Dead). b.options.attempts * length l ≤ b.calls + b.reads) (sym of.dead) (omega (arith, counted.together));
}

-- ---- a position of an item is listed, and is no more done where it is poison

abbrev place_of : SourceItem → ℕ → Place
place_of item p = record { node = item.node; item = item.item; offset = p }

own_listed : (sources : List SourceItem) (item : SourceItem) (p : ℕ) → item_at sources item.node item.item ≡ Some item → p < len_of item
    → 1 ≤ times_listed (map item_len sources) (place_of item p)
own_listed [] item p found inside = absurd (cc)
own_listed (x ∷ sources) item p found inside =
    by (is_item item.node item.item x) refl found (own_listed sources item p)
    (sum_by-cons (λ (f : FileLen). times_at f.node f.item (whole f.len) (place_of item p)) (item_len x) (map item_len sources))
  where
    held : (len q : ℕ) → q < len → times_in (whole len) q ≡ 1
    held len q h = grind (arith, nat_tests)

    by : (t : Bool) → is_item item.node item.item x ≡ t → cond t (Some x) (item_at sources item.node item.item) ≡ Some item
        → (item_at sources item.node item.item ≡ Some item → p < len_of item → 1 ≤ times_listed (map item_len sources) (place_of item p))
        → times_listed (map item_len (x ∷ sources)) (place_of item p) ≡ times_at x.node x.item (whole (len_of x)) (place_of item p) + times_listed (map item_len sources) (place_of item p)
        → 1 ≤ times_listed (map item_len (x ∷ sources)) (place_of item p)
    by true e is onward sum =
        let same : x ≡ item = cc in
        let at : times_at x.node x.item (whole (len_of x)) (place_of item p) ≡ times_in (whole (len_of x)) p = ap (λ t. cond t (times_in (whole (len_of x)) p) 0) e in
        let long : p < len_of x = subst (λ (y : SourceItem). p < len_of y) (sym same) inside in
        omega (arith, sum, at, held (len_of x) p long)
    by false e is onward sum = omega (arith, sum, onward is inside)

module _ (plan : Plan) (sources : List SourceItem) (item : SourceItem) (p : ℕ) (found : item_at sources item.node item.item ≡ Some item) (poison : list_any is_poison (outputs_at plan item p) ≡ true) where
  one_away : (r : Done) → (list_any is_poison (spread_done plan sources r) ≡ true → ⊥) → times_at r.node r.item r.range (place_of item p) ≡ 0
  one_away r clean = by (r.node == item.node && r.item == item.item) refl
    where
      in_case : (r.node == item.node && r.item == item.item) ≡ true → (p < r.range.from) ⊎ (r.range.from ≤ p) → (p < r.range.to) ⊎ (r.range.to ≤ p) → times_in r.range p ≡ 0
      in_case here (inl before) upto = before_it r.range before
        where
          before_it : (o : Offsets) → p < o.from → times_in o p ≡ 0
          before_it o h = grind (arith, nat_tests)
      in_case here (inr low) (inr behind) = behind_it r.range behind
        where
          behind_it : (o : Offsets) → o.to ≤ p → times_in o p ≡ 0
          behind_it o h = grind (arith, nat_tests)
      in_case here (inr low) (inl high) =
          let parts = and_parts (r.node == item.node) (r.item == item.item) here in
          let at : item_at sources r.node r.item ≡ Some item = ap₂ (item_at sources) (eqb-true r.node item.node parts.0) (eqb-true r.item item.item parts.1) ∙ found in
          absurd (clean (ap (λ (f : Option SourceItem). list_any is_poison (spread_of plan r.range f)) at ∙ any_at (outputs_at plan item) r.range.from p r.range.to low high poison))

      by : (t : Bool) → (r.node == item.node && r.item == item.item) ≡ t → cond t (times_in r.range p) 0 ≡ 0
      by false away = refl
      by true here = in_case here (cases_lt p r.range.from) (cases_lt p r.range.to)

  all_away : (done : List Done) → (list_any is_poison (spread_dones plan sources done) ≡ true → ⊥) → times_done done (place_of item p) ≡ 0
  all_away [] clean = refl
  all_away (r ∷ done) clean = omega (
    arith,
    sum_by-cons (λ (d : Done). times_at d.node d.item d.range (place_of item p)) r done,
    one_away r (λ any. clean (any_left (spread_done plan sources r) (spread_dones plan sources done) any)),
    all_away done (λ any. clean (any_right (spread_done plan sources r) (spread_dones plan sources done) any)),
  )

-- ---- no poison comes to a barrier

abbrev poison_weight : Output → ℕ
poison_weight output = cond (is_poison output) 1 0

poison_weighs : (outputs : List Output) → list_any is_poison outputs ≡ true → 1 ≤ sum_by poison_weight outputs
poison_weighs [] e = absurd (cc)
poison_weighs (output ∷ outputs) e = by (is_poison output) refl e (sum_by-cons poison_weight output outputs) (poison_weighs outputs)
  where
    by : (t : Bool) → is_poison output ≡ t → (t || list_any is_poison outputs) ≡ true → sum_by poison_weight (output ∷ outputs) ≡ poison_weight output + sum_by poison_weight outputs
        → (list_any is_poison outputs ≡ true → 1 ≤ sum_by poison_weight outputs) → 1 ≤ sum_by poison_weight (output ∷ outputs)
    by true is h sum onward =
        let one : poison_weight output ≡ 1 = ap {B = ℕ} (λ t. cond t 1 0) is in
        omega (arith, sum, one)
    by false is h sum onward = omega (arith, sum, onward h)

arrivals_clean : (arrivals : List Arrival) → sum_by poison_weight (map Arrives arrivals) ≡ 0
arrivals_clean [] = refl
arrivals_clean (a ∷ arrivals) = omega (arith, arrivals_clean arrivals, sum_by-cons poison_weight (Arrives a) (map Arrives arrivals))

-- ---- all poison is dead

module _ (told : List FileText) (b : SeenBook) (lengths : AreTold told b) (partitioned : ArePartitioned b) (formed : IsWellFormed b) (balanced : IsBalanced told b) (through : IsThrough b) where
  done_clean : list_any is_poison (spread_dones b.plan (items told b.plan) b.done) ≡ true → ⊥
  done_clean any =
      let done = spread_dones b.plan (items told b.plan) b.done in
      let flows = pane_chains b.plan b.panes ++ log_chains b.plan (logs_of b.keys) in
      let came = arrivals_of b.cells b.dropped [] b.written ++ key_arrivals b.keys in
      let none : held_chains b ≡ [] = ap (λ (hs : List HeldPane). flat_map (λ h. pane_chains b.plan (panes_of b.panes (h.waiting ∷ []))) hs) through.held in
      omega (
        arith,
        balanced.weighs poison_weight,
        sum_by-append poison_weight done flows,
        sum_by-append poison_weight (map Arrives came) (held_chains b),
        arrivals_clean came,
        ap (sum_by poison_weight) none,
        poison_weighs done any,
      )

  position_dead : (item : SourceItem) (p : ℕ) → IsPositionOf told b.plan item p → list_any is_poison (outputs_at b.plan item p) ≡ true → 1 ≤ times_dead b.dead (place_of item p)
  position_dead item p is poison = omega (
    arith,
    done_covers b partitioned formed through.pending through.idle (place_of item p),
    ap (λ (l : List FileLen). times_listed l (place_of item p)) lengths,
    own_listed (items told b.plan) item p is.0 is.1,
    all_away b.plan (items told b.plan) item p is.0 poison b.done done_clean,
  )

  pub poison_dead : (o : Outcome) → IsOutcomeOf b o → ArePoisonDead told o
  poison_dead o of =
      subst (λ (l : List Dead). (item : SourceItem) (p : ℕ) → IsPositionOf told o.plan item p → list_any is_poison (outputs_at o.plan item p) ≡ true → 1 ≤ times_dead l (place_of item p)) (sym of.dead)
      (subst (λ (plan : Plan). (item : SourceItem) (p : ℕ) → IsPositionOf told plan item p → list_any is_poison (outputs_at plan item p) ≡ true → 1 ≤ times_dead b.dead (place_of item p)) (sym of.plan) position_dead)
