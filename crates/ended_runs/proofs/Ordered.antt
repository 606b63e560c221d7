-- The panes of an outcome are legal: its cells are the book's in another order, and legal panes don't look at the order.
use Rattle.std.proofs.Common.{◌≡◌, ℕ, zero, suc, ◌-◌, ◌≤◌, ℤ, Bool, true, false, cond, List, [], ◌∷◌, length, refl, sym, ap, subst, ◌∙◌}
use Rattle.std.specs.Prelude.{map, nat_le, nat_lt, ◌==◌, ◌&&◌, Option, Some, None}
use Rattle.std.specs.List.{All, filter}
use Rattle.std.specs.List.Sorted.{IsPermutation}
use Rattle.std.proofs.lemmas.List.Elements.{All-nil, All-cons, All-head, All-tail}
use Rattle.std.proofs.lemmas.List.Sorted.{All-permutation}
use Rattle.beam_values.specs.Bags.{IsSameBag}
use Rattle.beam_values.specs.Intervals.{Interval}
use Rattle.beam_values.specs.Nodes.{is_group}
use Rattle.beam_values.specs.Spans.{same_span}
use Rattle.beam_values.specs.declared.cell.Cell.{Cell}
use Rattle.beam_values.specs.declared.cell.Dropped.{Dropped}
use Rattle.beam_values.specs.declared.cell.Entry.{Entry}
use Rattle.beam_values.specs.declared.cell.Pane.{Pane}
use Rattle.beam_values.specs.declared.marks.CommitMarks.{CommitMarks}
use Rattle.beam_values.specs.declared.plan.Plan.{Plan}
use Rattle.beam_values.specs.declared.outcome.Outcome.{Outcome}
use Rattle.beam_values.specs.declared.value.Value.{Value}
use Rattle.beam_values.proofs.Bags.{bag_count, bag_filter, bag_flat_map, bag_from_permutation, bag_trans}
use Rattle.beam_model.specs.Panes.{ArePanesLegal, AreLegalCells, GroupRules, HasEntries, IsKeyed, IsLegalHistory, Stands, StandsNext, Taken, TellsPanes, arrives, belongs, entries_upto, is_at_key, is_cell_at_key, is_late, mark_after, panes_at, panes_before, panes_in, rules_of, taken_at, taken_by, taken_drop, taken_entry}
use Rattle.group_cells.proofs.LongerHistory.{fired_moved}
use Rattle.book_core.specs.Book.{SeenBook}
use Rattle.book_core.specs.Calls.{IsOutcomeOf}
use Rattle.book_core.proofs.Through.{passes_have}

-- the elements of a list one by one, or in another order
module _ (rules : GroupRules) (mark : ℕ → ℤ) (taken others : List Taken) (same : IsSameBag taken others) where
  pub arrives_alike : (c : ℕ) → arrives taken c ≡ arrives others c
  arrives_alike c = λ i w. nat_le 1 (bag_count (λ t. t.commit == c && same_span t.element.span w) taken others same i)

  pub stands_alike : (c : ℕ) → Stands rules mark (arrives taken) c ≡ Stands rules mark (arrives others) c
  stands_alike zero = refl
  stands_alike (suc c) =
      let stood = stands_alike c in
      let more = arrives_alike (suc c) in
      λ i w. StandsNext rules (mark c) (stood i) (λ v. more i v ≡ true) w

  pub stands_to : (c : ℕ) (w : Interval) → Stands rules mark (arrives taken) c w ≡ Stands rules mark (arrives others) c w
  stands_to c w = λ i. stands_alike c i w

module _ (rules : GroupRules) (node : ℕ) (key : Value) (mark : ℕ → ℤ) (last : ℕ) (taken others dropped : List Taken) (panes : List Pane) (same : IsSameBag taken others) where
  onto : (c : ℕ) (w : Interval) → Stands rules mark (arrives taken) c w → Stands rules mark (arrives others) c w
  onto c w stands = subst (λ (A : Type 0). A) (stands_to rules mark taken others same c w) stands

  back : (c : ℕ) (w : Interval) → Stands rules mark (arrives others) c w → Stands rules mark (arrives taken) c w
  back c w stands = subst (λ (A : Type 0). A) (sym (stands_to rules mark taken others same c w)) stands

  upto_alike : (w : Interval) (c : ℕ) → IsSameBag (entries_upto rules w c taken) (entries_upto rules w c others)
  upto_alike w c = bag_filter (λ t. belongs rules w t && nat_le t.commit c) taken others same

  pub history_alike : IsLegalHistory rules node key mark last taken dropped panes → IsLegalHistory rules node key mark last others dropped panes
  history_alike h = record {
    kept = sym (bag_count (λ t. is_late rules mark t.commit t.element.span) taken others same) ∙ h.kept;
    late = h.late;
    taken_commits = sym (bag_count (λ t. nat_lt last t.commit) taken others same) ∙ h.taken_commits;
    dropped_commits = h.dropped_commits;
    pane_commits = h.pane_commits;
    onward = λ c within v stands. let next = h.onward c within v (back c v stands) in (next.0, onto (suc c) next.0 next.1, next.2);
    placed = λ c within v now. let at = h.placed c within v (ap (λ (f : Interval → Bool). f v) (arrives_alike rules mark taken others same c) ∙ now) in (at.0, onto c at.0 at.1, at.2);
    fired = λ c w first within stands.
        fired_moved rules node key c (mark c) w (entries_upto rules w c taken) (entries_upto rules w c others) (panes_before c panes) (panes_in c w panes) (upto_alike w c)
        (h.fired c w first within (back c w stands));
    only = λ k d inside. onto _ _ (h.only k d inside);
  }

  has_alike : (w : Interval) (entries : List Entry) (into : Option Interval) → HasEntries rules node mark last taken w entries into → HasEntries rules node mark last others w entries into
  has_alike w entries None has =
      (onto last w has.0, bag_trans (map (taken_entry node) entries) (filter (belongs rules w) taken) (filter (belongs rules w) others) has.1 (bag_filter (belongs rules w) taken others same))
  has_alike w entries (Some into) has = (
    (λ stands. has.0 (back last w stands)),
    has.1,
    record {
      c = has.2.c;
      within = has.2.within;
      stood = onto has.2.c w has.2.stood;
      stands_no_more = λ stands. has.2.stands_no_more (back (suc has.2.c) w stands);
      stands = onto (suc has.2.c) into has.2.stands;
      lies = has.2.lies;
    },
  )

  pub cells_alike : (cells more : List Cell) → IsSameBag cells more → ((P : Cell → Type 0) → All P cells → All P more)
      → AreLegalCells rules node mark last taken panes cells → AreLegalCells rules node mark last others panes more
  cells_alike cells more bag moved h = record {
    has = moved (λ cell. HasEntries rules node mark last others cell.span cell.entries cell.merged_into) (λ k d inside. has_alike _ _ _ (h.has k d inside));
    tells = moved (TellsPanes rules node panes) h.tells;
    once = λ w. subst (λ (n : ℕ). n ≤ 1) (bag_count (λ cell. same_span cell.span w) cells more bag) (h.once w);
    ever = λ c w within stands. subst (λ (n : ℕ). 1 ≤ n) (bag_count (λ cell. same_span cell.span w) cells more bag) (h.ever c w within (back c w stands));
  }

-- what holds of each that passes holds of those that are kept
pub filter_has : {X : Type 0} (p : X → Bool) (P : X → Type 0) (xs : List X) → All (λ x. p x ≡ true → P x) xs → All P (filter p xs)
filter_has p P [] h = All-nil P
filter_has p P (x ∷ xs) h = by (p x) refl (All-head (λ y. p y ≡ true → P y) x xs h) (filter_has p P xs (All-tail (λ y. p y ≡ true → P y) x xs h))
  where
    by : (t : Bool) → p x ≡ t → (p x ≡ true → P x) → All P (filter p xs) → All P (cond t (x ∷ filter p xs) (filter p xs))
    by true e here later = All-cons P x (filter p xs) (here e) later
    by false e here later = later

passes_moved : {X : Type 0} (p : X → Bool) (xs ys : List X) → IsPermutation xs ys → (P : X → Type 0) → All P (filter p xs) → All P (filter p ys)
passes_moved p xs ys moved P all = filter_has p P ys (All-permutation (λ x. p x ≡ true → P x) xs ys moved (passes_have p P xs all))

pub legal_alike : (plan : Plan) (commits : List CommitMarks) (cells more : List Cell) (dropped : List Dropped) (panes : List Pane) → IsPermutation cells more
    → ArePanesLegal plan commits cells dropped panes → ArePanesLegal plan commits more dropped panes
legal_alike plan commits cells more dropped panes moved h =
    let bag = bag_from_permutation cells more moved in
    let taken = bag_flat_map (λ (cell : Cell). map (taken_entry cell.node) cell.entries) cells more bag in
    record {
      sized = h.sized;
      cells_at = All-permutation (λ cell. is_group plan cell.node ≡ true) cells more moved h.cells_at;
      dropped_at = h.dropped_at;
      panes_at = h.panes_at;
      each = λ node key group.
          let own = bag_filter (is_at_key node key) (taken_by cells) (taken_by more) taken in
          let old = h.each node key group in
          record {
            history = history_alike (rules_of plan node) node key (mark_after commits node) (length commits - 1) (taken_at node key (taken_by cells)) (taken_at node key (taken_by more))
                (taken_at node key (map taken_drop dropped)) (panes_at node key panes) own old.history;
            cells_tell = cells_alike (rules_of plan node) node key (mark_after commits node) (length commits - 1) (taken_at node key (taken_by cells)) (taken_at node key (taken_by more))
                (taken_at node key (map taken_drop dropped)) (panes_at node key panes) own (filter (is_cell_at_key node key) cells) (filter (is_cell_at_key node key) more)
                (bag_filter (is_cell_at_key node key) cells more bag) (passes_moved (is_cell_at_key node key) cells more moved) old.cells_tell;
          };
      keyed = All-permutation IsKeyed cells more moved h.keyed;
      ordered = h.ordered;
    }

pub outcome_legal : (b : SeenBook) (o : Outcome) → ArePanesLegal b.plan b.commits b.cells b.dropped b.panes → IsOutcomeOf b o
    → ArePanesLegal o.plan o.commits o.cells o.dropped o.panes
outcome_legal b o legal of =
    subst (λ (p : Plan). ArePanesLegal p o.commits o.cells o.dropped o.panes) (sym of.plan)
    (subst (λ (l : List CommitMarks). ArePanesLegal b.plan l o.cells o.dropped o.panes) (sym of.commits)
    (subst (λ (l : List Dropped). ArePanesLegal b.plan b.commits o.cells l o.panes) (sym of.dropped)
    (subst (λ (l : List Pane). ArePanesLegal b.plan b.commits o.cells b.dropped l) (sym of.panes)
    (legal_alike b.plan b.commits b.cells o.cells b.dropped b.panes of.cells legal))))
