-- What the book's own calls say of the step that an act makes.
use Rattle.std.proofs.Common.{◌≡◌, ℕ, List, subst, arith}
use Rattle.std.specs.Prelude.{Option, None, Result, Ok, Err, IfErr, IfOk, OnOk, OnErr}
use Rattle.beam_values.specs.declared.file_text.FileText.{FileText}
use Rattle.bundle_commit.specs.declared.job.Receipt.{Receipt}
use Rattle.book_core.specs.Book.{SeenBook}
use Rattle.book_core.specs.Calls.{Makes, answer_of}
use Rattle.book_core.specs.Steps.{CanCommit, Enroll, Enrolled, IsCommitting, IsFree, IsMostLeft, IsWithinLimits, Split, SplitAt, Step, Take}
use Rattle.book_core.specs.declared.live.Taken.{Taken}
use Rattle.book_core.specs.declared.live.Unplaced.{Unplaced}
use Rattle.worker_table.specs.Calls.{Placing, enroll_answer, enrolled_slot, take_answer}

pub enrolled_step : {E : Type 0} (b new : SeenBook) (answer : Result ℕ E) → IfOk answer (λ i. Makes b i Enroll (Enrolled i) new) → OnErr answer (new ≡ b)
    → Makes b (enrolled_slot answer) Enroll (enroll_answer answer) new
enrolled_step {E} b new (Ok i) ok err = ok
enrolled_step {E} b new (Err e) ok err = λ told. err

pub taken_step : {E : Type 0} (b new : SeenBook) (slot : ℕ) (answer : Result Taken E) → IsFree b slot → IfOk answer (λ taken. Makes b slot Take (answer_of taken) new) → OnErr answer (new ≡ b)
    → Makes b slot Take (take_answer answer) new
taken_step {E} b new slot (Ok taken) free ok err = ok
taken_step {E} b new slot (Err e) free ok err = λ told. (free, err)

pub placed_step : {U : Type 0} (b new : SeenBook) (slot : ℕ) (receipt : Receipt) (answer : Result U Unplaced)
    → OnOk answer ((told : Option (List FileText)) → CanCommit told b slot receipt → IsCommitting told b slot receipt new × IsWithinLimits new)
    → IfErr answer (λ unplaced. (unplaced.receipt ≡ receipt) × (new ≡ b)) → Placing b slot receipt answer new
placed_step {U} b new slot receipt (Ok u) ok err = ok
placed_step {U} b new slot receipt (Err unplaced) ok err = err

-- a range that would split is split
pub always_cut : (b new : SeenBook) (slot other : ℕ) (found : Option ℕ) → IsMostLeft b slot other → Makes b other (Split 1 2) (SplitAt found) new → found ≡ None → ⊥
always_cut b new slot other found most makes none =
    let step : Step None b other (Split 1 2) (SplitAt None) new = subst (λ (at : Option ℕ). Step None b other (Split 1 2) (SplitAt at) new) none (makes None) in
    let low = step.0 most.piece most.attempted most.would.works in
    let high = most.would.splits in
    omega arith
