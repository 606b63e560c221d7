-- Marks are compared node by node, and commits in pairs.
use Rattle.std.proofs.Common.{◌≡◌, ℕ, suc, ◌+◌, ◌-◌, ◌<◌, ◌≤◌, ℤ, Bool, true, false, nat_lt, List, length, get_or, slice_get, Some, refl, sym, ap, subst, ◌∙◌, arith, ltb-true, ltb-false}
use Rattle.std.proofs.lemmas.Int.{ints}
use Rattle.std.proofs.lemmas.List.{get_or_default, get_or_past}
use Rattle.std.proofs.lemmas.Option.{get_or_from_slice_get, slice_get_read, slice_get_within}
use Rattle.beam_values.specs.Marks.{marks_at, node_marks}
use Rattle.beam_values.specs.declared.marks.CommitMarks.{CommitMarks}
use Rattle.beam_values.specs.declared.marks.StageMarks.{StageMarks}
use Rattle.beam_values.specs.declared.plan.Node.{Node}
use Rattle.beam_values.specs.declared.plan.Plan.{Plan}
use Rattle.watermarks.proofs.NodeMarks.{AreMarksBelow, final_stage, marks_at-is}
use Rattle.piece_checks.specs.MarksOfCommits.{IsRising, NeverFall, NoneFalls}

pub marks_read : (marks : List StageMarks) (n : ℕ) (read : StageMarks) → n < length marks → read ≡ get_or marks n read → marks_at marks n ≡ read
marks_read marks n read within is = marks_at-is marks n ∙ get_or_default marks n final_stage read within ∙ sym is

-- ---- the nodes of two commits

abbrev pub RiseBelow : List StageMarks → List StageMarks → ℕ → Type 0
RiseBelow before after n = (k : ℕ) → k < n → IsRising (marks_at before k) (marks_at after k)

final_rises : IsRising final_stage final_stage
final_rises = (omega (arith, ints), omega (arith, ints))

pub rise_more : (before after : List StageMarks) (n : ℕ) (old new : StageMarks) → n < length before → length before ≡ length after
    → old ≡ get_or before n old → new ≡ get_or after n new → IsRising old new → RiseBelow before after n → RiseBelow before after (n + 1)
rise_more before after n old new within sized old_is new_is rises below k less = by (nat_lt k n) refl
  where
    here : IsRising (marks_at before n) (marks_at after n)
    here =
        subst (λ m. IsRising m (marks_at after n)) (sym (marks_read before n old within old_is))
        (subst (λ m. IsRising old m) (sym (marks_read after n new (omega arith) new_is)) rises)

    by : (lower : Bool) → nat_lt k n ≡ lower → IsRising (marks_at before k) (marks_at after k)
    by true e = below k (ltb-true k n e)
    by false e = subst (λ m. IsRising (marks_at before m) (marks_at after m)) (same (ltb-false k n e)) here
      where
        same : n ≤ k → n ≡ k
        same up = omega arith

pub all_rise : (before after : List StageMarks) (n : ℕ) → length before ≤ n → length before ≡ length after → RiseBelow before after n → NoneFalls before after
all_rise before after n all sized below k = by (nat_lt k n) refl
  where
    by : (lower : Bool) → nat_lt k n ≡ lower → IsRising (marks_at before k) (marks_at after k)
    by true e = below k (ltb-true k n e)
    by false e = past (ltb-false k n e)
      where
        past : n ≤ k → IsRising (marks_at before k) (marks_at after k)
        past up =
            subst (λ m. IsRising m (marks_at after k)) (sym (marks_at-is before k ∙ get_or_past before k final_stage (omega arith)))
            (subst (λ m. IsRising final_stage m) (sym (marks_at-is after k ∙ get_or_past after k final_stage (omega arith))) final_rises)

pub falls_at : (before after : List StageMarks) (n : ℕ) (old new : StageMarks) → n < length before → length before ≡ length after
    → old ≡ get_or before n old → new ≡ get_or after n new → NoneFalls before after → IsRising old new
falls_at before after n old new within sized old_is new_is none =
    subst (λ m. IsRising m new) (marks_read before n old within old_is)
    (subst (λ m. IsRising (marks_at before n) m) (marks_read after n new (omega arith) new_is) (none n))

-- ---- commits

pub none_alike : {old before new after : List StageMarks} → old ≡ before → new ≡ after → NoneFalls old new → NoneFalls before after
none_alike {old} {before} {new} {after} e f none = subst (λ l. NoneFalls before l) f (subst (λ l. NoneFalls l new) e none)

-- no mark falls up to a commit
abbrev pub NeverBelow : List CommitMarks → ℕ → Type 0
NeverBelow commits next =
    (c : ℕ) (old new : CommitMarks) → suc c < next → slice_get commits c ≡ Some old → slice_get commits (suc c) ≡ Some new → NoneFalls old.marks new.marks

pub never_at_first : (commits : List CommitMarks) → NeverBelow commits 1
never_at_first commits c old new less = absurd (omega (arith, less))

pub never_more : (commits : List CommitMarks) (next : ℕ) (before after : CommitMarks) → 1 ≤ next → next < length commits
    → before ≡ get_or commits (next - 1) before → after ≡ get_or commits next after → NoneFalls before.marks after.marks
    → NeverBelow commits next → NeverBelow commits (next + 1)
never_more commits next before after from within before_is after_is none below c old new less old_at new_at = by (nat_lt (suc c) next) refl
  where
    by : (lower : Bool) → nat_lt (suc c) next ≡ lower → NoneFalls old.marks new.marks
    by true e = below c old new (ltb-true (suc c) next e) old_at new_at
    by false e = here (ltb-false (suc c) next e)
      where
        here : next ≤ suc c → NoneFalls old.marks new.marks
        here up =
            let c_is : next - 1 ≡ c = omega arith in
            let next_is : next ≡ suc c = omega arith in
            let old_is : before ≡ old = before_is ∙ ap (λ n. get_or commits n before) c_is ∙ get_or_from_slice_get commits c old before old_at in
            let new_is : after ≡ new = after_is ∙ ap (λ n. get_or commits n after) next_is ∙ get_or_from_slice_get commits (suc c) new after new_at in
            subst (λ (o : CommitMarks). NoneFalls o.marks new.marks) old_is (subst (λ (n : CommitMarks). NoneFalls before.marks n.marks) new_is none)

pub never_all : (commits : List CommitMarks) (next : ℕ) → length commits ≤ next → NeverBelow commits next → NeverFall commits
never_all commits next all below c old new old_at new_at =
    below c old new (omega (arith, slice_get_within commits (suc c) new new_at)) old_at new_at

pub falls_between : (commits : List CommitMarks) (next : ℕ) (before after : CommitMarks) → 1 ≤ next → next < length commits
    → before ≡ get_or commits (next - 1) before → after ≡ get_or commits next after → NeverFall commits → NoneFalls before.marks after.marks
falls_between commits next before after from within before_is after_is never =
    never (next - 1) before after (slice_get_read commits (length commits) (next - 1) before refl (omega arith) before_is)
    (subst (λ n. slice_get commits n ≡ Some after) next_is (slice_get_read commits (length commits) next after refl within after_is))
  where
    next_is : next ≡ suc (next - 1)
    next_is = omega arith

-- ---- the marks of a plan

pub right_more : (plan : Plan) (hold : ℕ → ℤ) (marks : List StageMarks) (n : ℕ) (node : Node) → AreMarksBelow plan hold marks n → slice_get plan.nodes n ≡ Some node
    → marks_at marks n ≡ node_marks marks node.inputs (hold n) → AreMarksBelow plan hold marks (n + 1)
right_more plan hold marks n node below at here = record { sized = below.sized; each = λ k other less other_at. by k other less other_at (nat_lt k n) refl }
  where
    by : (k : ℕ) (other : Node) → k < n + 1 → slice_get plan.nodes k ≡ Some other → (lower : Bool) → nat_lt k n ≡ lower → marks_at marks k ≡ node_marks marks other.inputs (hold k)
    by k other less other_at true e = below.each k other (ltb-true k n e) other_at
    by k other less other_at false e =
        let same : n ≡ k = is_last k less (ltb-false k n e) in
        subst (λ m. marks_at marks m ≡ node_marks marks other.inputs (hold m)) same
        (subst (λ (o : Node). marks_at marks n ≡ node_marks marks o.inputs (hold n)) (some_same node other (sym at ∙ subst (λ m. slice_get plan.nodes m ≡ Some other) (sym same) other_at)) here)
      where
        is_last : (k : ℕ) → k < n + 1 → n ≤ k → n ≡ k
        is_last k less up = omega arith

        some_same : (a b : Node) → Some a ≡ Some b → a ≡ b
        some_same a b e = cc
