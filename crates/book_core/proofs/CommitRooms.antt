-- Marks and panes are moved one after another: what is held, where panes wait, and the room that is left.
use Rattle.std.proofs.Common.{◌≡◌, ◌⊎◌, inl, inr, ℕ, suc, ◌+◌, ◌-◌, ◌≤◌, ◌<◌, ℤ, Bool, true, false, cond, List, [], ◌∷◌, ◌++◌, length, map, take, drop, get_or, refl, sym, ap, subst, ◌∙◌, arith}
use Rattle.std.specs.Prelude.{Option, Some, None, slice_get, slice_set, unwrap_or, ◌==◌}
use Rattle.std.specs.Option.{option_map}
use Rattle.std.specs.List.{All, enumerate_from}
use Rattle.std.proofs.Math.Seq.{drop-cons, map-set_same}
use Rattle.std.proofs.lemmas.List.{append-nil, drop_all, length-set, map-append, take_all, take_more}
use Rattle.std.proofs.lemmas.List.Elements.{All-weaker}
use Rattle.std.proofs.lemmas.List.Sums.{sum_by-cons, sum_by-append}
use Rattle.std.proofs.lemmas.Option.{slice_get-map, slice_get-get_or}
use Rattle.beam_values.specs.declared.cell.Pane.{Pane}
use Rattle.beam_values.specs.Nodes.{is_group, is_group_kind}
use Rattle.beam_values.specs.declared.marks.StageMarks.{StageMarks}
use Rattle.beam_values.specs.declared.plan.Node.{Node}
use Rattle.beam_values.specs.declared.plan.Plan.{Plan}
use Rattle.beam_model.specs.Holds.{Hold}
use Rattle.watermarks.specs.Holds.{SeenHolds, hold_at}
use Rattle.beam_values.specs.Marks.{least_mark}
use Rattle.book_core.specs.Changes.{as_waiting, fired_at, with_fired}
use Rattle.book_core.specs.Committing.{list_at, queue_room, HasRoom}
use Rattle.book_core.specs.Indexes.{AreHeldIn, least_in, room_in}
use Rattle.book_core.specs.Queues.{SeenQueue}
use Rattle.book_core.specs.declared.live.WaitingPane.{WaitingPane}
use Rattle.book_core.proofs.CommitParts.{fired_step, queues_fired}
use Rattle.book_core.proofs.HeldMarks.{eq_true, eq_false, same_or_not, slice_get-set_same, slice_get-set_other}
use Rattle.book_core.proofs.Holding.{bag_held}
use Rattle.book_core.proofs.Opened.{hold_at_least}
use Rattle.book_core.proofs.Rooms.{lists_of, lists_length}

-- ---- marks

-- one more is held
pub one_more : {X : Type 0} (f : X → Hold) (xs : List X) (i : ℕ) (x : X) (held new : List SeenHolds) (holds : List Hold) → i < length xs → x ≡ get_or xs i x
    → ((hs : List Hold) → AreHeldIn held hs → AreHeldIn new (f x ∷ hs))
    → AreHeldIn held (map f (take i xs) ++ holds) → AreHeldIn new (map f (take (i + 1) xs) ++ holds)
one_more {X} f xs i x held new holds less is add h =
    let all : map f (take (i + 1) xs) ≡ map f (take i xs) ++ f x ∷ [] =
    ap (map f) (take_more xs i x less ∙ ap (λ (y : X). take i xs ++ y ∷ []) (sym is)) ∙ map-append f (take i xs) (x ∷ []) in
    subst (λ (l : List Hold). AreHeldIn new (l ++ holds)) (sym all)
    (bag_held new (f x ∷ (map f (take i xs) ++ holds)) ((map f (take i xs) ++ f x ∷ []) ++ holds)
    (record {
      weighs = λ w. omega (
        arith,
        sum_by-cons w (f x) (map f (take i xs) ++ holds),
        sum_by-append w (map f (take i xs)) holds,
        sum_by-append w (map f (take i xs) ++ f x ∷ []) holds,
        sum_by-append w (map f (take i xs)) (f x ∷ []),
        sum_by-cons w (f x) [],
      );
    })
    (add (map f (take i xs) ++ holds) h))

-- those of all items are held
pub all_held : {X : Type 0} (f : X → Hold) (xs : List X) (i : ℕ) (held : List SeenHolds) (holds : List Hold) → length xs ≤ i
    → AreHeldIn held (map f (take i xs) ++ holds) → AreHeldIn held (map f xs ++ holds)
all_held {X} f xs i held holds less h = subst (λ (l : List X). AreHeldIn held (map f l ++ holds)) (take_all i xs less) h

-- the first of those that are left
pub first_left : {X : Type 0} (f : X → Hold) (xs : List X) (i : ℕ) (x : X) (held : List SeenHolds) (holds : List Hold) → i < length xs → x ≡ get_or xs i x
    → AreHeldIn held (map f (drop i xs) ++ holds) → AreHeldIn held (f x ∷ (map f (drop (i + 1) xs) ++ holds))
first_left {X} f xs i x held holds less is h =
    let next : suc i ≡ i + 1 = omega arith in
    subst (λ (l : List X). AreHeldIn held (map f l ++ holds))
    (drop-cons xs i x less ∙ ap (λ (y : X). y ∷ drop (suc i) xs) (sym is) ∙ ap (λ (k : ℕ). x ∷ drop k xs) next) h

pub none_left : {X : Type 0} (f : X → Hold) (xs : List X) (i : ℕ) (held : List SeenHolds) (holds : List Hold) → length xs ≤ i
    → AreHeldIn held (map f (drop i xs) ++ holds) → AreHeldIn held holds
none_left {X} f xs i held holds less h = subst (λ (l : List X). AreHeldIn held (map f l ++ holds)) (drop_all i xs less) h

pub hold_is_least : (held : List SeenHolds) (least : List ℤ) → least ≡ map (λ (h : SeenHolds). least_mark h.marks) held → (n : ℕ) → hold_at least n ≡ least_in held n
hold_is_least held least e n = ap (λ (l : List ℤ). hold_at l n) e ∙ hold_at_least held n

-- ---- queues

queue_list : Option SeenQueue → List WaitingPane
queue_list o = unwrap_or (option_map (λ (q : SeenQueue). q.panes) o) []

room_of : Option SeenQueue → ℕ
room_of o = unwrap_or (option_map (λ (q : SeenQueue). q.room) o) 0

module _ (queues : List SeenQueue) (node : ℕ) (old new : SeenQueue) (within : node < length queues) (is : old ≡ get_or queues node old) where
  pub list_set : (waiting : WaitingPane) → new.panes ≡ old.panes ++ waiting ∷ []
      → (n : ℕ) → list_at (slice_set queues node new) n ≡ list_at queues n ++ cond (node == n) (waiting ∷ []) []
  unfolding queue_list
  list_set waiting e n = by (same_or_not n node)
    where
      by : (n ≡ node) ⊎ (n ≡ node → ⊥) → list_at (slice_set queues node new) n ≡ list_at queues n ++ cond (node == n) (waiting ∷ []) []
      by (inr other) =
          ap queue_list (slice_get-set_other queues node n new other) ∙ sym (append-nil (list_at queues n))
          ∙ ap (λ (t : Bool). list_at queues n ++ cond t (waiting ∷ []) []) (sym (eq_false node n other))
      by (inl here) =
          let now : list_at (slice_set queues node new) n ≡ new.panes = ap (list_at (slice_set queues node new)) here ∙ ap queue_list (slice_get-set_same queues node new within) in
          let was : list_at queues n ≡ old.panes = ap (list_at queues) here ∙ ap queue_list (slice_get-get_or queues node old within) ∙ ap (λ (q : SeenQueue). q.panes) (sym is) in
          now ∙ e ∙ ap (λ (l : List WaitingPane). l ++ waiting ∷ []) (sym was)
          ∙ ap (λ (t : Bool). list_at queues n ++ cond t (waiting ∷ []) []) (sym (eq_true node n (sym here)))

  pub queue_room_set : (more : ℕ) → old.room ≤ new.room + more → (n : ℕ) → queue_room queues n ≤ queue_room (slice_set queues node new) n + more
  unfolding room_of
  queue_room_set more room n = by (same_or_not n node)
    where
      by : (n ≡ node) ⊎ (n ≡ node → ⊥) → queue_room queues n ≤ queue_room (slice_set queues node new) n + more
      by (inr other) = omega (arith, ap room_of (slice_get-set_other queues node n new other))
      by (inl here) =
          let now : queue_room (slice_set queues node new) n ≡ new.room = ap (queue_room (slice_set queues node new)) here ∙ ap room_of (slice_get-set_same queues node new within) in
          let was : queue_room queues n ≡ old.room = ap (queue_room queues) here ∙ ap room_of (slice_get-get_or queues node old within) ∙ ap (λ (q : SeenQueue). q.room) (sym is) in
          omega (arith, now, was, room)

  pub lists_stay : new.panes ≡ old.panes → lists_of (slice_set queues node new) ≡ lists_of queues
  lists_stay e = map-set_same (λ (q : SeenQueue). q.panes) queues node new old (e ∙ ap (λ (q : SeenQueue). q.panes) is)

  pub one_less : (held after : List SeenHolds) → old.room ≤ new.room + 1 → ((n : ℕ) → room_in held n ≤ room_in after n + 1) → length after ≡ length held
      → (n k : ℕ) → HasRoom queues held n (k + 1) → HasRoom (slice_set queues node new) after n k
  one_less held after room marks sized n k h = record {
    queued = omega (arith, h.queued, length-set queues node new);
    holding = omega (arith, h.holding, sized);
    queue = omega (arith, h.queue, queue_room_set 1 room n);
    marks = omega (arith, h.marks, marks n);
  }

  -- room that is kept stays, and at this node there is as much as was asked for
  pub kept_at : (held after : List SeenHolds) → old.room ≤ new.room → ((n : ℕ) → room_in held n ≤ room_in after n) → length after ≡ length held
      → (n k : ℕ) → HasRoom queues held n k → HasRoom (slice_set queues node new) after n k
  kept_at held after room marks sized n k h = record {
    queued = omega (arith, h.queued, length-set queues node new);
    holding = omega (arith, h.holding, sized);
    queue = omega (arith, h.queue, queue_room_set 0 (omega (arith, room)) n);
    marks = omega (arith, h.marks, marks n);
  }

  pub room_at : (after : List SeenHolds) (places : ℕ) → node < length after → places ≤ new.room → places ≤ room_in after node → HasRoom (slice_set queues node new) after node places
  unfolding room_of
  room_at after places holding room marks = record {
    queued = omega (arith, within, length-set queues node new);
    holding = holding;
    queue = omega (arith, room, ap room_of (slice_get-set_same queues node new within));
    marks = marks;
  }

-- ---- panes that fire

module _ (before : List StageMarks) (first : ℕ) (fired : List Pane) where
  abbrev pub still : ℕ → ℕ → List WaitingPane
  still n i = map (as_waiting before) (fired_at n (enumerate_from (first + i) (drop i fired)))

  pub one_waits : (n i place : ℕ) (pane : Pane) (old now next : List WaitingPane) → i < length fired → pane ≡ get_or fired i pane → place ≡ first + i
      → next ≡ now ++ cond (pane.node == n) (as_waiting before (place, pane) ∷ []) [] → now ++ still n i ≡ old → next ++ still n (i + 1) ≡ old
  one_waits n i place pane old now next less is at added was =
      let shift : first + i + 1 ≡ first + (i + 1) = omega arith in
      let follow : suc i ≡ i + 1 = omega arith in
      let rest : drop i fired ≡ pane ∷ drop (i + 1) fired =
      drop-cons fired i pane less ∙ ap (λ (p : Pane). p ∷ drop (suc i) fired) (sym is) ∙ ap (λ (k : ℕ). pane ∷ drop k fired) follow in
      let parts : enumerate_from (first + i) (drop i fired) ≡ (place, pane) ∷ enumerate_from (first + (i + 1)) (drop (i + 1) fired) =
      ap (enumerate_from (first + i)) rest ∙ ap (λ (k : ℕ). (first + i, pane) ∷ enumerate_from k (drop (i + 1) fired)) shift
      ∙ ap (λ (k : ℕ). (k, pane) ∷ enumerate_from (first + (i + 1)) (drop (i + 1) fired)) (sym at) in
      fired_step before place n pane (enumerate_from (first + (i + 1)) (drop (i + 1) fired)) old now next
      (ap (λ (l : List (ℕ × Pane)). now ++ map (as_waiting before) (fired_at n l)) (sym parts) ∙ was) added

  list_is : (queues : List SeenQueue) (n : ℕ) → unwrap_or (slice_get (lists_of queues) n) [] ≡ list_at queues n
  list_is queues n = ap (λ (o : Option (List WaitingPane)). unwrap_or o []) (slice_get-map (λ (q : SeenQueue). q.panes) queues n)

  pub all_wait : (i : ℕ) (old new : List SeenQueue) → length fired ≤ i → length new ≡ length old
      → ((n : ℕ) → list_at new n ++ still n i ≡ list_at old n ++ still n 0)
      → lists_of new ≡ map (with_fired before (enumerate_from first fired)) (enumerate_from 0 (lists_of old))
  all_wait i old new less count h =
      queues_fired before (enumerate_from first fired) 0 (lists_of old) (lists_of new) (lists_length new ∙ count ∙ sym (lists_length old))
      (λ n. list_is new n ∙ sym (append-nil (list_at new n))
      ∙ ap (λ (l : List Pane). list_at new n ++ map (as_waiting before) (fired_at n (enumerate_from (first + i) l))) (sym (drop_all i fired less))
      ∙ h n ∙ ap (λ (l : List WaitingPane). l ++ still n 0) (sym (list_is old n))
      ∙ here n)
    where
      here : (n : ℕ) → unwrap_or (slice_get (lists_of old) n) [] ++ still n 0 ≡ unwrap_or (slice_get (lists_of old) n) [] ++ map (as_waiting before) (fired_at (0 + n) (enumerate_from first fired))
      here n =
          let start : first + 0 ≡ first = omega arith in
          let same : n ≡ 0 + n = omega arith in
          ap (λ (k : ℕ). unwrap_or (slice_get (lists_of old) n) [] ++ map (as_waiting before) (fired_at n (enumerate_from k fired))) start
          ∙ ap (λ (k : ℕ). unwrap_or (slice_get (lists_of old) n) [] ++ map (as_waiting before) (fired_at k (enumerate_from first fired))) same

  pub room_less : (i : ℕ) (queues next : List SeenQueue) (held after : List SeenHolds) → i < length fired
      → ((n k : ℕ) → HasRoom queues held n (k + 1) → HasRoom next after n k)
      → All (λ pane. HasRoom queues held pane.node (length fired - i)) fired → All (λ pane. HasRoom next after pane.node (length fired - (i + 1))) fired
  room_less i queues next held after less onward all =
      let e : length fired - i ≡ length fired - (i + 1) + 1 = omega (arith, less) in
      All-weaker (λ pane. HasRoom queues held pane.node (length fired - i)) (λ pane. HasRoom next after pane.node (length fired - (i + 1)))
      (λ pane h. onward pane.node (length fired - (i + 1)) (subst (HasRoom queues held pane.node) e h)) fired all

  pub first_room : (i : ℕ) (pane : Pane) (queues : List SeenQueue) (held : List SeenHolds) → i < length fired → pane ≡ get_or fired i pane
      → All (λ p. HasRoom queues held p.node (length fired - i)) fired → HasRoom queues held pane.node 1
  first_room i pane queues held less is all =
      let h = subst (λ (p : Pane). HasRoom queues held p.node (length fired - i)) (sym is) (all i pane less) in
      record {
        queued = h.queued;
        holding = h.holding;
        queue = omega (arith, h.queue, less);
        marks = omega (arith, h.marks, less);
      }

-- ---- room at Groups

pub rooms_more : (nodes : List Node) (i : ℕ) (item : Node) (queues next : List SeenQueue) (held after : List SeenHolds) (places : ℕ) → i < length nodes → item ≡ get_or nodes i item
    → (is_group_kind item.kind ≡ true → HasRoom next after i places) → ((n k : ℕ) → HasRoom queues held n k → HasRoom next after n k)
    → ((k : ℕ) (node : Node) → k < i → slice_get nodes k ≡ Some node → is_group_kind node.kind ≡ true → HasRoom queues held k places)
    → (k : ℕ) (node : Node) → k < i + 1 → slice_get nodes k ≡ Some node → is_group_kind node.kind ≡ true → HasRoom next after k places
rooms_more nodes i item queues next held after places less is here onward below k node within at group = by (below_or_at k i within)
  where
    below_or_at : (k i : ℕ) → k < i + 1 → (k < i) ⊎ (k ≡ i)
    below_or_at k i within = grind arith

    by : (k < i) ⊎ (k ≡ i) → HasRoom next after k places
    by (inl low) = onward k places (below k node low at group)
    by (inr e) =
        let found : slice_get nodes i ≡ Some item = slice_get-get_or nodes i item less ∙ ap Some (sym is) in
        let there : slice_get nodes i ≡ Some node = ap (slice_get nodes) (sym e) ∙ at in
        let same : node ≡ item = cc in
        subst (λ (n : ℕ). HasRoom next after n places) (sym e) (here (subst (λ (x : Node). is_group_kind x.kind ≡ true) same group))

pub group_rooms : (plan : Plan) (nodes : List Node) (P : ℕ → Type 0) → nodes ≡ plan.nodes
    → ((n : ℕ) (node : Node) → slice_get nodes n ≡ Some node → is_group_kind node.kind ≡ true → P n) → (n : ℕ) → is_group plan n ≡ true → P n
group_rooms plan nodes P e all n group = by (slice_get plan.nodes n) refl group
  where
    by : (found : Option Node) → slice_get plan.nodes n ≡ found → unwrap_or (option_map (λ (x : Node). is_group_kind x.kind) found) false ≡ true → P n
    by None at g = absurd (cc)
    by (Some node) at g = all n node (ap (λ (l : List Node). slice_get l n) e ∙ at) g
