-- The marks that are held at each node, as holds come and go.
use Rattle.std.proofs.Common.{◌≡◌, ◌⊎◌, inl, inr, ℕ, zero, suc, ◌<◌, ℤ, Bool, true, false, cond, List, [], ◌∷◌, map, length, refl, sym, ap, subst, ◌∙◌, arith}
use Rattle.std.specs.Prelude.{slice_get, slice_set, get_or, ◌==◌, ◌+◌, ◌≤◌, Contains, unwrap_or, Option, Some, None}
use Rattle.std.specs.Int.{int_min}
use Rattle.std.specs.Option.{option_map}
use Rattle.std.specs.List.{sum_by, filter, fold}
use Rattle.std.proofs.lemmas.Int.{ints}
use Rattle.std.proofs.lemmas.List.Sums.{sum_by-cons}
use Rattle.std.proofs.lemmas.Option.{slice_get-get_or, slice_get_within}
use Rattle.beam_values.specs.Bags.{IsSameBag}
use Rattle.beam_values.specs.Marks.{least_mark, node_marks, AreMarks}
use Rattle.beam_values.specs.declared.marks.StageMarks.{StageMarks}
use Rattle.beam_values.specs.declared.plan.Plan.{Plan}
use Rattle.beam_values.specs.Times.{final_mark}
use Rattle.beam_values.proofs.Bags.{bag_sym, bag_trans, bag_cons}
use Rattle.beam_model.specs.Holds.{Hold, marks_held, least_hold}
use Rattle.watermarks.proofs.BagMembers.{bag_least, bag_contains, bag_length}
use Rattle.watermarks.specs.Holds.{SeenHolds}
use Rattle.book_core.specs.Indexes.{marks_in, least_in, room_in, AreHeldIn}

-- ---- one node's marks are set

pub slice_get-set_same : {X : Type 0} (xs : List X) (i : ℕ) (x : X) → i < length xs → slice_get (slice_set xs i x) i ≡ Some x
slice_get-set_same [] i x h = absurd (omega arith)
slice_get-set_same (y ∷ ys) zero x h = refl
slice_get-set_same (y ∷ ys) (suc i) x h = slice_get-set_same ys i x (omega arith)

pub slice_get-set_other : {X : Type 0} (xs : List X) (i j : ℕ) (x : X) → (j ≡ i → ⊥) → slice_get (slice_set xs i x) j ≡ slice_get xs j
slice_get-set_other [] i j x h = refl
slice_get-set_other (y ∷ ys) zero zero x h = absurd (h refl)
slice_get-set_other (y ∷ ys) zero (suc j) x h = refl
slice_get-set_other (y ∷ ys) (suc i) zero x h = refl
slice_get-set_other (y ∷ ys) (suc i) (suc j) x h = slice_get-set_other ys i j x (λ e. h (ap suc e))

held_cons : (h : Hold) (holds : List Hold) (n : ℕ) (t : Bool) → (h.node == n) ≡ t → marks_held (h ∷ holds) n ≡ cond t (h.mark ∷ marks_held holds n) (marks_held holds n)
held_cons h holds n true e = ap (λ (b : Bool). map (λ (x : Hold). x.mark) (cond b (h ∷ filter (λ (x : Hold). x.node == n) holds) (filter (λ (x : Hold). x.node == n) holds))) e
held_cons h holds n false e = ap (λ (b : Bool). map (λ (x : Hold). x.mark) (cond b (h ∷ filter (λ (x : Hold). x.node == n) holds) (filter (λ (x : Hold). x.node == n) holds))) e

pub eq_true : (a b : ℕ) → a ≡ b → (a == b) ≡ true
eq_true a b e = grind (arith, Rattle.std.proofs.lemmas.Bool.Decides.nat_tests)

pub eq_false : (a b : ℕ) → (b ≡ a → ⊥) → (a == b) ≡ false
eq_false a b e = grind (arith, Rattle.std.proofs.lemmas.Bool.Decides.nat_tests)

pub same_or_not : (a b : ℕ) → (a ≡ b) ⊎ (a ≡ b → ⊥)
same_or_not a b = grind arith

pub marks_here : (held : List SeenHolds) (node : ℕ) (new : SeenHolds) → node < length held → marks_in (slice_set held node new) node ≡ new.marks
marks_here held node new within = ap (λ (o : Option SeenHolds). unwrap_or (option_map (λ (h : SeenHolds). h.marks) o) []) (slice_get-set_same held node new within)

pub marks_there : (held : List SeenHolds) (node n : ℕ) (new : SeenHolds) → (n ≡ node → ⊥) → marks_in (slice_set held node new) n ≡ marks_in held n
marks_there held node n new other = ap (λ (o : Option SeenHolds). unwrap_or (option_map (λ (h : SeenHolds). h.marks) o) []) (slice_get-set_other held node n new other)

pub marks_read : (held : List SeenHolds) (node : ℕ) (old : SeenHolds) → node < length held → old ≡ get_or held node old → marks_in held node ≡ old.marks
marks_read held node old within is =
    ap (λ (o : Option SeenHolds). unwrap_or (option_map (λ (h : SeenHolds). h.marks) o) []) (slice_get-get_or held node old within) ∙ ap (λ (h : SeenHolds). h.marks) (sym is)

pub added : (held : List SeenHolds) (node : ℕ) (mark : ℤ) (old new : SeenHolds) → node < length held → old ≡ get_or held node old → IsSameBag new.marks (mark ∷ old.marks)
    → (holds : List Hold) → AreHeldIn held holds → AreHeldIn (slice_set held node new) (record { node = node; mark = mark } ∷ holds)
added held node mark old new within is bag holds h = record { each = λ n. by n (same_or_not n node) }
  where
    by : (n : ℕ) → (n ≡ node) ⊎ (n ≡ node → ⊥) → IsSameBag (marks_in (slice_set held node new) n) (marks_held (record { node = node; mark = mark } ∷ holds) n)
    by n (inr other) =
        subst (λ (ms : List ℤ). IsSameBag (marks_in (slice_set held node new) n) ms) (sym (held_cons (record { node = node; mark = mark }) holds n false (eq_false node n other)))
        (subst (λ (ms : List ℤ). IsSameBag ms (marks_held holds n)) (sym (marks_there held node n new other)) (h.each n))
    by n (inl e) =
        subst (λ (ms : List ℤ). IsSameBag (marks_in (slice_set held node new) n) ms) (sym (held_cons (record { node = node; mark = mark }) holds n true (eq_true node n (sym e))))
        (subst (λ (ms : List ℤ). IsSameBag ms (mark ∷ marks_held holds n)) (sym (ap (marks_in (slice_set held node new)) e ∙ marks_here held node new within))
        (bag_trans new.marks (mark ∷ old.marks) (mark ∷ marks_held holds n) bag (bag_cons mark old.marks (marks_held holds n)
        (subst (λ (ms : List ℤ). IsSameBag ms (marks_held holds n)) (ap (marks_in held) e ∙ marks_read held node old within is) (h.each n)))))

-- a mark that is listed is taken out
pub removed : (held : List SeenHolds) (node : ℕ) (mark : ℤ) (old new : SeenHolds) → node < length held → old ≡ get_or held node old → IsSameBag old.marks (mark ∷ new.marks)
    → (holds : List Hold) → AreHeldIn held (record { node = node; mark = mark } ∷ holds) → AreHeldIn (slice_set held node new) holds
removed held node mark old new within is bag holds h = record { each = λ n. by n (same_or_not n node) }
  where
    by : (n : ℕ) → (n ≡ node) ⊎ (n ≡ node → ⊥) → IsSameBag (marks_in (slice_set held node new) n) (marks_held holds n)
    by n (inr other) =
        subst (λ (ms : List ℤ). IsSameBag ms (marks_held holds n)) (sym (marks_there held node n new other))
        (subst (λ (ms : List ℤ). IsSameBag (marks_in held n) ms) (held_cons (record { node = node; mark = mark }) holds n false (eq_false node n other)) (h.each n))
    by n (inl e) =
        let here : IsSameBag old.marks (mark ∷ marks_held holds n) =
        subst (λ (ms : List ℤ). IsSameBag ms (mark ∷ marks_held holds n)) (ap (marks_in held) e ∙ marks_read held node old within is)
        (subst (λ (ms : List ℤ). IsSameBag (marks_in held n) ms) (held_cons (record { node = node; mark = mark }) holds n true (eq_true node n (sym e))) (h.each n)) in
        subst (λ (ms : List ℤ). IsSameBag ms (marks_held holds n)) (sym (ap (marks_in (slice_set held node new)) e ∙ marks_here held node new within))
        (record { weighs = λ w. omega (arith, bag.weighs w, here.weighs w, sum_by-cons w mark new.marks, sum_by-cons w mark (marks_held holds n)) })

-- ---- once more

pub among_new : (held : List SeenHolds) (node : ℕ) (mark : ℤ) (old new : SeenHolds) → node < length held → IsSameBag new.marks (mark ∷ old.marks)
    → Contains (marks_in (slice_set held node new) node) mark
among_new held node mark old new within bag =
    subst (λ (ms : List ℤ). Contains ms mark) (sym (marks_here held node new within))
    (bag_contains (mark ∷ old.marks) new.marks mark (bag_sym new.marks (mark ∷ old.marks) bag) (0, omega arith, refl))

pub longer_new : (held : List SeenHolds) (node : ℕ) (mark : ℤ) (old new : SeenHolds) → node < length held → old ≡ get_or held node old → IsSameBag new.marks (mark ∷ old.marks)
    → length (marks_in (slice_set held node new) node) ≡ length (marks_in held node) + 1
longer_new held node mark old new within is bag =
    omega (arith, ap length (marks_here held node new within), ap length (marks_read held node old within is), bag_length new.marks (mark ∷ old.marks) bag)

-- a node has no more marks than there are holds
few_here : (holds : List Hold) (n : ℕ) → length (marks_held holds n) ≤ length holds
few_here [] n = omega arith
few_here (h ∷ holds) n = by (h.node == n) refl (few_here holds n)
  where
    by : (t : Bool) → (h.node == n) ≡ t → length (marks_held holds n) ≤ length holds → length (marks_held (h ∷ holds) n) ≤ length (h ∷ holds)
    by true e few = omega (arith, ap length (held_cons h holds n true e), few)
    by false e few = omega (arith, ap length (held_cons h holds n false e), few)

pub few_marks : (held : List SeenHolds) (holds : List Hold) → AreHeldIn held holds → (n : ℕ) → length (marks_in held n) ≤ length holds
few_marks held holds h n = omega (arith, few_here holds n, bag_length (marks_in held n) (marks_held holds n) (h.each n))

-- ---- room

room_of : Option SeenHolds → ℕ
room_of o = unwrap_or (option_map (λ (h : SeenHolds). h.room) o) 0

-- one node's marks are set: each node has as much room, but for so many places
pub room_set : (held : List SeenHolds) (node : ℕ) (old new : SeenHolds) (more : ℕ) → node < length held → old ≡ get_or held node old → old.room ≤ new.room + more
    → (n : ℕ) → room_in held n ≤ room_in (slice_set held node new) n + more
unfolding room_of
room_set held node old new more within is room n = by (same_or_not n node)
  where
    by : (n ≡ node) ⊎ (n ≡ node → ⊥) → room_in held n ≤ room_in (slice_set held node new) n + more
    by (inr other) = omega (arith, ap room_of (slice_get-set_other held node n new other))
    by (inl e) =
        let was : room_in held n ≡ old.room = ap (room_in held) e ∙ ap room_of (slice_get-get_or held node old within) ∙ ap (λ (h : SeenHolds). h.room) (sym is) in
        let now : room_in (slice_set held node new) n ≡ new.room = ap (room_in (slice_set held node new)) e ∙ ap room_of (slice_get-set_same held node new within) in
        omega (arith, was, now, room)

pub room_kept : (held : List SeenHolds) (node : ℕ) (old new : SeenHolds) → node < length held → old ≡ get_or held node old → old.room ≤ new.room
    → (n : ℕ) → room_in held n ≤ room_in (slice_set held node new) n
room_kept held node old new within is room n = omega (arith, room_set held node old new 0 within is (omega (arith, room)) n)

-- a hold that is listed is of a node that has marks
pub held_within : (held : List SeenHolds) (h : Hold) (holds : List Hold) → AreHeldIn held (h ∷ holds) → h.node < length held
held_within held h holds k = by (slice_get held h.node) refl
  where
    some : 0 < sum_by (λ (x : ℤ). 1) (marks_held (h ∷ holds) h.node)
    some =
        subst (λ (ms : List ℤ). 0 < sum_by (λ (x : ℤ). 1) ms) (sym (held_cons h holds h.node true (eq_true h.node h.node refl)))
        (omega (arith, sum_by-cons (λ (x : ℤ). 1) h.mark (marks_held holds h.node)))

    by : (o : Option SeenHolds) → slice_get held h.node ≡ o → h.node < length held
    by (Some x) e = slice_get_within held h.node x e
    by None e =
        let none : marks_in held h.node ≡ [] = ap (λ (o : Option SeenHolds). unwrap_or (option_map (λ (y : SeenHolds). y.marks) o) []) e in
        absurd (omega (arith, some, (k.each h.node).weighs (λ x. 1), ap (sum_by (λ (x : ℤ). 1)) none))

-- the mark of a hold that is listed is held
pub held_mark : (held : List SeenHolds) (h : Hold) (holds : List Hold) → AreHeldIn held (h ∷ holds) → Contains (marks_in held h.node) h.mark
held_mark held h holds k =
    bag_contains (marks_held (h ∷ holds) h.node) (marks_in held h.node) h.mark (bag_sym (marks_in held h.node) (marks_held (h ∷ holds) h.node) (k.each h.node))
    (subst (λ (ms : List ℤ). Contains ms h.mark) (sym (held_cons h holds h.node true (eq_true h.node h.node refl))) (0, omega arith, refl))

-- ---- the least marks

pub least_held : (held : List SeenHolds) (holds : List Hold) → AreHeldIn held holds → (n : ℕ) → least_in held n ≡ least_hold holds n
least_held held holds h n = bag_least (marks_in held n) (marks_held holds n) (h.each n)

min_twice : (a m : ℤ) → int_min (int_min a m) m ≡ int_min a m
min_twice a m = grind (arith, ints)

-- what is held twice is held no lower
pub least_twice : (h : Hold) (holds : List Hold) (n : ℕ) → least_hold (h ∷ h ∷ holds) n ≡ least_hold (h ∷ holds) n
least_twice h holds n = by (h.node == n) refl
  where
    by : (t : Bool) → (h.node == n) ≡ t → least_hold (h ∷ h ∷ holds) n ≡ least_hold (h ∷ holds) n
    by true e =
        ap least_mark (held_cons h (h ∷ holds) n true e ∙ ap (λ (ms : List ℤ). h.mark ∷ ms) (held_cons h holds n true e))
        ∙ ap (λ (m : ℤ). fold int_min m (marks_held holds n)) (min_twice final_mark h.mark)
        ∙ sym (ap least_mark (held_cons h holds n true e))
    by false e = ap least_mark (held_cons h (h ∷ holds) n false e)

pub marks_as : (plan : Plan) (hold other : ℕ → ℤ) (marks : List StageMarks) → ((n : ℕ) → hold n ≡ other n) → AreMarks plan hold marks → AreMarks plan other marks
marks_as plan hold other marks same h = record {
  sized = h.sized;
  each = λ n node at. h.each n node at ∙ ap (λ (m : ℤ). node_marks marks node.inputs m) (same n);
}

-- the marks of all nodes stay
pub held_as : (held new : List SeenHolds) (holds : List Hold) → ((n : ℕ) → marks_in new n ≡ marks_in held n) → AreHeldIn held holds → AreHeldIn new holds
held_as held new holds same h = record { each = λ n. subst (λ (ms : List ℤ). IsSameBag ms (marks_held holds n)) (sym (same n)) (h.each n) }
