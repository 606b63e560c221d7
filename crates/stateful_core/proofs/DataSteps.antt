-- How key cells are made again of data, which data is sane, and what the data of a sane cell stands for.
use Rattle.std.proofs.Common.{◌≡◌, ℕ, zero, suc, ◌+◌, ◌<◌, ◌≤◌, ◌↔◌, ℤ, Bool, true, false, List, [], ◌∷◌, ◌++◌, length, replicate, Option, Some, None}
use Rattle.std.proofs.Common.{Result, Ok, Err, refl, sym, ap, subst, ◌∙◌, inl, inr, arith}
use Rattle.std.specs.Prelude.{count_by, slice_get, IfOk}
use Rattle.std.specs.BTreeMap as tree
use Rattle.std.specs.BTreeMap.{BTreeMap}
use Rattle.std.specs.List.{All}
use Rattle.std.proofs.lemmas.List.{length-append, length-map, map-append}
use Rattle.std.proofs.lemmas.List.Elements.{All-cons, All-head, All-nil, All-tail}
use Rattle.beam_values.specs.States.{timer_of}
use Rattle.beam_values.specs.declared.marks.CommitMarks.{CommitMarks}
use Rattle.beam_values.specs.declared.plan.Plan.{Plan}
use Rattle.cell_index.specs.Indexes.{cell_key_cmp}
use Rattle.cell_index.specs.declared.index_key.CellKey.{CellKey}
use Rattle.stateful_core.specs.Cells.{KeyCell}
use Rattle.stateful_core.specs.Data.{AreKeysFormed, IsKeyFormed, cell_of_data, cells_of_data, is_timer, key_data_of, timer_holds_of, timers_from, times_of}
use Rattle.stateful_core.specs.Facts.{AreKeysSane, AreOnce, IsCellSane}
use Rattle.stateful_core.specs.Names.{AreFound, is_name, name_of, names_of}
use Rattle.stateful_core.specs.Ready.{AreKept}
use Rattle.stateful_core.specs.SaneData.{IsKeySane}
use Rattle.stateful_core.specs.Seen.{cell_of, cells_of}
use Rattle.stateful_core.specs.Taking.{is_some}
use Rattle.stateful_core.specs.Trees.{AreTrees, AreTreesBut, HasPlace, IsAmong}
use Rattle.stateful_core.specs.declared.data.KeyData.{KeyData}
use Rattle.stateful_core.specs.declared.data.SetTimer.{SetTimer}
use Rattle.stateful_core.specs.declared.node_tree.NodeTree.{NodeTree}
use Rattle.stateful_core.specs.declared.slot.Slot.{Slot}
use Rattle.stateful_core.proofs.ByIndex.{found_more}
use Rattle.stateful_core.proofs.Distinct.{AreUnlike, is_like}
use Rattle.stateful_core.proofs.FormedTimers.{allowed_in, at_most_one, holds_alike, holds_sized, in_allowed}
use Rattle.stateful_core.proofs.KeptSteps.{no_places}
use Rattle.stateful_core.proofs.Named.{bare, stored_bare}
use Rattle.stateful_core.proofs.NextReady.{got_cases}
use Rattle.stateful_core.proofs.OfSane.{cell_timers}

-- ---- one cell more

unlike_at : (cell : KeyCell) (cells : List KeyCell) → AreUnlike cell cells → (at : ℕ) (name : CellKey) → slice_get (names_of cells) at ≡ Some name
    → is_name (name_of cell) name ≡ false
unlike_at cell [] h at name e = absurd (cc)
unlike_at cell (c ∷ cells) h zero name e = ap (is_name (name_of cell)) (same e) ∙ All-head (λ other. is_like cell other ≡ false) c cells h
  where
    same : Some (name_of c) ≡ Some name → name ≡ name_of c
    same f = cc
unlike_at cell (c ∷ cells) h (suc at) name e = unlike_at cell cells (All-tail (λ other. is_like cell other ≡ false) c cells h) at name e

-- the lists of nodes have all entries but its own
trees_but : (trees : List NodeTree) (cells : List KeyCell) (cell : KeyCell) (n : ℕ) → n ≡ length cells → AreTrees trees cells → HasPlace trees cell.log.node n
    → AreTreesBut (Some n) trees (cells ++ cell ∷ [])
trees_but trees cells cell n last h place = record {
  each = λ k tree e.
      let was = h.each k tree e in
      record {
        own = λ at c f same apart. elim (got_cases cells cell c at f) [
          | inl g ↦ was.own at c g same (λ z. none z)
          | inr g ↦ absurd (apart (ap (λ (m : ℕ). Some m) (last ∙ sym g.0)))
        ];
        other = λ at c f differ. elim (got_cases cells cell c at f) [ inl g ↦ was.other at c g differ | inr g ↦ was.idle at (omega (arith, g.0)) ];
        long = λ at c f same. elim (got_cases cells cell c at f) [
          | inl g ↦ was.long at c g same
          | inr g ↦ let less = place.long k tree e (sym (ap (λ (x : KeyCell). x.log.node) g.1 ∙ same)) in omega (arith, less, g.0, last)
        ];
        idle = λ at less. was.idle at (omega (arith, less, length-append cells (cell ∷ [])));
      };
  has = λ at c f. elim (got_cases cells cell c at f) [
    | inl g ↦ h.has at c g
    | inr g ↦ subst (λ (x : KeyCell). IsAmong trees x.log.node) g.1 place.among
  ];
}
  where
    none : {m : ℕ} → None ≡ Some m → ⊥
    none z = cc

pub restored_more : (old new : BTreeMap CellKey ℕ) (trees grown after : List NodeTree) (slots all : List Slot) (slot : Slot) (cell : KeyCell) (number : ℕ)
    → AreKept old trees slots []
    → all ≡ slots ++ slot ∷ [] → cell_of slot ≡ cell → AreUnlike cell (cells_of slots) → number ≡ length slots → number + 1 < 4294967296
    → tree.Updates cell_key_cmp old new (name_of cell) (Some number) → (AreTrees trees (cells_of slots) → AreTrees grown (cells_of slots))
    → HasPlace grown cell.log.node number
    → (AreTreesBut (Some number) grown (cells_of all) → AreTrees after (cells_of all)) → AreKept new after all []
restored_more old new trees grown after slots all slot cell number h pushed is other last few updates grows place renews = record {
  stored = stored_bare new all [] refl (omega (arith, few, last, ap length pushed, length-append slots (slot ∷ [])))
      (subst (λ (l : List KeyCell). AreFound new (names_of l)) (sym cells) found);
  due = renews (subst (AreTreesBut (Some number) grown) (sym cells) (trees_but grown (cells_of slots) cell number sized (grows h.due) place));
  grown = no_places after (length all);
}
  where
    cells : cells_of all ≡ cells_of slots ++ cell ∷ []
    cells = ap cells_of pushed ∙ map-append cell_of slots (slot ∷ []) ∙ ap (λ (c : KeyCell). cells_of slots ++ c ∷ []) is

    sized : number ≡ length (cells_of slots)
    sized = last ∙ sym (length-map slots cell_of)

    found : AreFound new (names_of (cells_of slots ++ cell ∷ []))
    found = subst (AreFound new) (sym (map-append name_of (cells_of slots) (cell ∷ [])))
        (found_more old new (name_of cell) number (names_of (cells_of slots)) updates (sized ∙ sym (length-map (cells_of slots) name_of))
        (unlike_at cell (cells_of slots) other)
        (bare old slots [] h.stored))

-- ---- sane data

sane_formed : (plan : Plan) (d : KeyData) → IsKeySane plan d → IsKeyFormed d
sane_formed plan d h =
    let all = allowed_in (slice_get plan.nodes d.node) d.timers h.timers in
    record { states = h.states; named = all.named; once = all.once }

sane_cell : (plan : Plan) (commits : List CommitMarks) (d : KeyData) → IsKeySane plan d → IsCellSane plan commits (cell_of_data d)
sane_cell plan commits d h =
    let all = allowed_in (slice_get plan.nodes d.node) d.timers h.timers in
    record { timers = all.are_in; states = h.states; works = tt; sized = holds_sized d.timers; holds = holds_alike d.timers }

cell_sane : (plan : Plan) (commits : List CommitMarks) (d : KeyData) → IsKeyFormed d → IsCellSane plan commits (cell_of_data d) → IsKeySane plan d
cell_sane plan commits d formed h = record {
  states = formed.states;
  timers = in_allowed (slice_get plan.nodes d.node) d.timers (record { named = formed.named; once = formed.once; are_in = h.timers });
}

all_formed : (plan : Plan) (keys : List KeyData) → All (IsKeySane plan) keys → AreKeysFormed keys
all_formed plan [] h = All-nil IsKeyFormed
all_formed plan (d ∷ keys) h =
    All-cons IsKeyFormed d keys (sane_formed plan d (All-head (IsKeySane plan) d keys h)) (all_formed plan keys (All-tail (IsKeySane plan) d keys h))

all_sane : (plan : Plan) (commits : List CommitMarks) (keys : List KeyData) → All (IsKeySane plan) keys → All (IsCellSane plan commits) (cells_of_data keys)
all_sane plan commits [] h = All-nil (IsCellSane plan commits)
all_sane plan commits (d ∷ keys) h =
    All-cons (IsCellSane plan commits) (cell_of_data d) (cells_of_data keys) (sane_cell plan commits d (All-head (IsKeySane plan) d keys h))
    (all_sane plan commits keys (All-tail (IsKeySane plan) d keys h))

sane_all : (plan : Plan) (commits : List CommitMarks) (keys : List KeyData) → AreKeysFormed keys → All (IsCellSane plan commits) (cells_of_data keys)
    → All (IsKeySane plan) keys
sane_all plan commits [] formed h = All-nil (IsKeySane plan)
sane_all plan commits (d ∷ keys) formed h =
    All-cons (IsKeySane plan) d keys (cell_sane plan commits d (All-head IsKeyFormed d keys formed)
    (All-head (IsCellSane plan commits) (cell_of_data d) (cells_of_data keys) h))
    (sane_all plan commits keys (All-tail IsKeyFormed d keys formed) (All-tail (IsCellSane plan commits) (cell_of_data d) (cells_of_data keys) h))

abbrev pub AreSaneKeys : Plan → List KeyData → Type 0
AreSaneKeys plan keys = AreKeysFormed keys × ((commits : List CommitMarks) → AreKeysSane plan commits (cells_of_data keys))

pub sane_keys : (plan : Plan) (keys : List KeyData) → All (IsKeySane plan) keys → AreOnce (cells_of_data keys) → AreSaneKeys plan keys
sane_keys plan keys each once = (all_formed plan keys each, λ commits. record { each = all_sane plan commits keys each; once = once })

pub keys_sane : (plan : Plan) (keys : List KeyData) → AreSaneKeys plan keys → All (IsKeySane plan) keys × AreOnce (cells_of_data keys)
keys_sane plan keys h =
    let sane = h.1 [] in
    (sane_all plan [] keys h.0 sane.each, sane.once)

pub told_sane : {E : Type 0} (plan : Plan) (keys : List KeyData) (r : Result Bool E) → All (IsKeySane plan) keys
    → IfOk r (λ are. (are ≡ true) ↔ AreOnce (cells_of_data keys))
    → IfOk r (λ is. (is ≡ true) ↔ AreSaneKeys plan keys)
told_sane plan keys (Ok is) each told = (λ e. sane_keys plan keys each (told.0 e), λ h. told.1 (keys_sane plan keys h).1)
told_sane plan keys (Err e) each told = tt

-- ---- the data of a sane cell

none_more : (k : ℕ) (holds : List (Option ℤ)) → length holds ≡ k → ((name : ℕ) → is_some (timer_of holds name) ≡ false) → holds ≡ replicate k None
none_more zero [] sized h = refl
none_more (suc k) [] sized h = absurd (omega (arith, sized))
none_more zero (x ∷ holds) sized h = absurd (omega (arith, sized))
none_more (suc k) (x ∷ holds) sized h = λ i. first x (h 0) i ∷ none_more k holds (omega (arith, sized)) (λ name. h (suc name)) i
  where
    first : (o : Option ℤ) → is_some o ≡ false → o ≡ None
    first None e = refl
    first (Some z) e = absurd (cc)

unset : (name : ℕ) → is_some (timer_of (replicate 7 None) name) ≡ false
unset zero = refl
unset (suc zero) = refl
unset (suc (suc zero)) = refl
unset (suc (suc (suc zero))) = refl
unset (suc (suc (suc (suc zero)))) = refl
unset (suc (suc (suc (suc (suc zero))))) = refl
unset (suc (suc (suc (suc (suc (suc zero)))))) = refl
unset (suc (suc (suc (suc (suc (suc (suc k))))))) = refl

-- timer 0 and its hold, both set or neither
record AreFirst (times holds : List (Option ℤ)) : Type 0 where
  time : Option ℤ
  hold : Option ℤ
  times_are : times ≡ time ∷ replicate 7 None
  holds_are : holds ≡ hold ∷ replicate 7 None
  both : is_some hold ≡ is_some time

first_of : (time : Option ℤ) (times holds : List (Option ℤ)) → times ≡ time ∷ replicate 7 None → length holds ≡ 8
    → ((name : ℕ) → is_some (timer_of holds name) ≡ is_some (timer_of times name)) → AreFirst times holds
first_of time times [] is sized h = absurd (omega (arith, sized))
first_of time times (hold ∷ holds) is sized h = record {
  time = time;
  hold = hold;
  times_are = is;
  holds_are = ap (λ l. hold ∷ l) (none_more 7 holds (omega (arith, sized))
      (λ name. h (suc name) ∙ ap (λ (l : List (Option ℤ)). is_some (timer_of l (suc name))) is ∙ unset name));
  both = h 0 ∙ ap (λ (l : List (Option ℤ)). is_some (timer_of l 0)) is;
}

-- what the timers of a cell are as data, and as what that stands for
record IsGivenBack (times holds : List (Option ℤ)) : Type 0 where
  named : All (λ (s : SetTimer). s.timer.name < 8) (timers_from 0 times holds)
  once : (name : ℕ) → count_by (is_timer name) (timers_from 0 times holds) ≤ 1
  times_back : times_of (timers_from 0 times holds) ≡ times
  holds_back : timer_holds_of (timers_from 0 times holds) ≡ holds

first_back : (time hold : Option ℤ) → is_some hold ≡ is_some time → IsGivenBack (time ∷ replicate 7 None) (hold ∷ replicate 7 None)
first_back None None e = record { named = All-nil (λ (s : SetTimer). s.timer.name < 8); once = λ name. omega arith; times_back = refl; holds_back = refl }
first_back None (Some h) e = absurd (cc)
first_back (Some t) None e = absurd (cc)
first_back (Some t) (Some h) e = record {
  named = All-cons (λ (s : SetTimer). s.timer.name < 8) only [] (omega arith) (All-nil (λ (s : SetTimer). s.timer.name < 8));
  once = λ name. at_most_one (is_timer name) only;
  times_back = refl;
  holds_back = refl;
}
  where
    only : SetTimer
    only = record { timer = record { name = 0; time = t }; hold = h }

given_back : (times holds : List (Option ℤ)) → AreFirst times holds → IsGivenBack times holds
given_back times holds f =
    subst (λ (l : List (Option ℤ)). IsGivenBack l holds) (sym f.times_are)
    (subst (IsGivenBack (f.time ∷ replicate 7 None)) (sym f.holds_are) (first_back f.time f.hold f.both))

module _ (plan : Plan) (commits : List CommitMarks) (cell : KeyCell) (h : IsCellSane plan commits cell) where
  timers_back : IsGivenBack cell.kept.timers cell.timer_holds
  timers_back =
      let work = cell_timers plan commits cell h in
      given_back cell.kept.timers cell.timer_holds (first_of work.1.first cell.kept.timers cell.timer_holds work.1.is h.sized h.holds)

  pub data_formed : IsKeyFormed (key_data_of cell)
  data_formed = record { states = h.states; named = timers_back.named; once = timers_back.once }

  pub data_back : cell.live ≡ None → cell_of_data (key_data_of cell) ≡ cell
  data_back free = λ i. record {
    log = cell.log;
    kept = record { cells = cell.kept.cells; timers = timers_back.times_back i };
    timer_holds = timers_back.holds_back i;
    waiting = cell.waiting;
    live = sym free i;
    attempts = cell.attempts;
  }
