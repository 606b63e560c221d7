-- The slots of a run are enrolled, one after another.
use Rattle.std.proofs.Common.{◌≡◌, ◌⊎◌, inl, inr, ℕ, ◌<◌, zero, suc, ◌+◌, List, [], ◌∷◌, ◌++◌, length, map, refl, sym, ap, ◌∙◌, subst, arith}
use Rattle.std.specs.Prelude.{Option, Some, None, replicate, slice_get}
use Rattle.std.proofs.lemmas.List.{length-replicate, map-append, replicate-append-replicate}
use Rattle.beam_values.specs.Lines.{offsets}
use Rattle.beam_values.specs.declared.file_text.FileText.{FileText}
use Rattle.book_core.specs.Book.{SeenBook}
use Rattle.book_core.specs.Calls.{Makes}
use Rattle.book_core.specs.Runs.{MadeStep, Run}
use Rattle.book_core.specs.Steps.{Enroll, Enrolled, Step}
use Rattle.book_core.specs.declared.live.Live.{Live}
use Rattle.known_jobs.specs.Jobs.{known_at, known_in}
use Rattle.lone_worker.specs.Alone.{IsBookIn}
use Rattle.lone_worker.specs.Work.{Base}
use Rattle.lone_worker.specs.declared.work.Work.{Work}
use Rattle.schedule_replay.specs.Replays.{enrolls}
use Rattle.schedule_replay.specs.Shown.{shown_slot}
use Rattle.schedule_replay.specs.Standing.{IsSlotAt, IsStanding}
use Rattle.schedule_replay.specs.Stands.{Working}
use Rattle.schedule_replay.specs.declared.stand.Stand.{Stand as Stood}

-- ---- steps

run_then : (told : Option (List FileText)) (steps : List MadeStep) (b mid end : SeenBook) (made : MadeStep) → Run told b steps mid → Step told mid made.slot made.action made.answer end → Run told b (steps ++ made ∷ []) end
run_then told [] b mid end made run step = (end, subst (λ (x : SeenBook). Step told x made.slot made.action made.answer end) run step, refl)
run_then told (first ∷ steps) b mid end made run step = (run.0, run.1, run_then told steps run.0 mid end made run.2 step)

offsets_more : (from n : ℕ) → offsets from (n + 1) ≡ offsets from n ++ (from + n) ∷ []
unfolding offsets
offsets_more from zero = let same : from ≡ from + 0 = omega arith in ap (λ (k : ℕ). k ∷ []) same
offsets_more from (suc n) =
    let step : suc n + 1 ≡ suc (n + 1) = omega arith in
    let same : suc from + n ≡ from + suc n = omega arith in
    let later : offsets (suc from) (n + 1) ≡ offsets (suc from) n ++ (from + suc n) ∷ [] = offsets_more (suc from) n ∙ ap (λ (k : ℕ). offsets (suc from) n ++ k ∷ []) same in
    ap (offsets from) step ∙ ap (λ (l : List ℕ). from ∷ l) later

enrolls_more : (n : ℕ) → enrolls (n + 1) ≡ enrolls n ++ record { slot = n; action = Enroll; answer = Enrolled n } ∷ []
enrolls_more n =
    let made : ℕ → MadeStep = λ number. record { slot = number; action = Enroll; answer = Enrolled number } in
    ap (map made) (offsets_more 0 n) ∙ map-append made (offsets 0 n) ((0 + n) ∷ []) ∙ ap (λ (k : ℕ). map made (offsets 0 n) ++ made k ∷ []) (omega arith)

enrolls_none : enrolls 0 ≡ []
unfolding offsets
enrolls_none = refl

pub run_none : (told : Option (List FileText)) (b : SeenBook) → Run told b (enrolls 0) b
run_none told b = subst (λ (l : List MadeStep). Run told b l b) (sym enrolls_none) refl

-- one more slot
module _ (first b new : SeenBook) (n number : ℕ) (free : b.slots ≡ replicate n None) (makes : Makes b number Enroll (Enrolled number) new) where
  number_is : number ≡ n
  number_is = (makes None).0 ∙ ap length free ∙ length-replicate n None

  pub run_enrolled : ((told : Option (List FileText)) → Run told first (enrolls n) b) → (told : Option (List FileText)) → Run told first (enrolls (n + 1)) new
  run_enrolled run told =
      let step : Step told b n Enroll (Enrolled n) new = subst (λ (k : ℕ). Step told b k Enroll (Enrolled k) new) number_is (makes told) in
      subst (λ (l : List MadeStep). Run told first l new) (sym (enrolls_more n)) (run_then told (enrolls n) first b new (record { slot = n; action = Enroll; answer = Enrolled n }) (run told) step)

  pub slots_enrolled : new.slots ≡ replicate (n + 1) None
  slots_enrolled = ap (λ (x : SeenBook). x.slots) (makes None).2 ∙ ap (λ (l : List (Option Live)). l ++ None ∷ []) free ∙ replicate-append-replicate n 1 None

  pub plan_enrolled : new.plan ≡ b.plan
  plan_enrolled = ap (λ (x : SeenBook). x.plan) (makes None).2

  pub files_enrolled : new.files ≡ b.files
  files_enrolled = ap (λ (x : SeenBook). x.files) (makes None).2

  pub options_enrolled : new.options ≡ b.options
  options_enrolled = ap (λ (x : SeenBook). x.options) (makes None).2

pub none_more : {A : Type 0} (n : ℕ) (works : List (Option A)) → works ≡ replicate n None → works ++ None ∷ [] ≡ replicate (n + 1) None
none_more {A} n works is = ap (λ (l : List (Option A)). l ++ None ∷ []) is ∙ replicate-append-replicate n 1 None

-- ---- where no slot works

pub shown_free : (n : ℕ) → map shown_slot (replicate n None) ≡ replicate n None
shown_free zero = refl
shown_free (suc n) = ap (λ (l : List (Option Working)). None ∷ l) (shown_free n)

get_replicate : {A : Type 0} (n k : ℕ) (a : A) → (slice_get (replicate n a) k ≡ None) ⊎ (slice_get (replicate n a) k ≡ Some a)
get_replicate zero k a = inl refl
get_replicate (suc n) zero a = inr refl
get_replicate (suc n) (suc k) a = get_replicate n k a

pub stands_first : (base : Base) (stood : Stood) (n : ℕ) → 0 < n → IsBookIn base.setting stood.book → stood.book.slots ≡ replicate n None → stood.works.items ≡ replicate n None → IsStanding base stood
stands_first base stood n some inside slots works = record {
  inside = inside;
  count = ap length works ∙ length-replicate {A = Option Work} n None ∙ sym (ap length slots ∙ length-replicate {A = Option Live} n None);
  some = omega (arith, some, ap length works, length-replicate {A = Option Work} n None);
  each = λ slot. at_slot slot (known slot) (get_replicate {A = Option Work} n slot None);
}
  where
    known : (slot : ℕ) → known_at stood.book slot ≡ None
    known slot = by (get_replicate {A = Option Live} n slot None)
      where
        by : (slice_get (replicate {A = Option Live} n None) slot ≡ None) ⊎ (slice_get (replicate {A = Option Live} n None) slot ≡ Some None) → known_at stood.book slot ≡ None
        by (inl out) = ap (known_in stood.book.panes) (ap (λ (l : List (Option Live)). slice_get l slot) slots ∙ out)
        by (inr free) = ap (known_in stood.book.panes) (ap (λ (l : List (Option Live)). slice_get l slot) slots ∙ free)

    at_slot : (slot : ℕ) → known_at stood.book slot ≡ None
        → (slice_get (replicate {A = Option Work} n None) slot ≡ None) ⊎ (slice_get (replicate {A = Option Work} n None) slot ≡ Some None)
        → IsSlotAt base (known_at stood.book slot) (slice_get stood.works.items slot)
    at_slot slot none (inl out) = subst (IsSlotAt base (known_at stood.book slot)) (sym (ap (λ (l : List (Option Work)). slice_get l slot) works ∙ out)) tt
    at_slot slot none (inr free) = subst (IsSlotAt base (known_at stood.book slot)) (sym (ap (λ (l : List (Option Work)). slice_get l slot) works ∙ free)) none
