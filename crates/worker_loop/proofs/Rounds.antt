-- From job to job of a worker: what stays noted, and how its fails are counted.
use Rattle.std.proofs.Common.{◌≡◌, inl, inr, ℕ, ◌+◌, ◌≤◌, Bool, true, false, List, refl, sym, ap, subst, ◌∙◌, arith}
use Rattle.std.specs.Prelude.{Option, Some, None, IsSomeAnd, nat_le, unwrap_or}
use Rattle.std.proofs.lemmas.Bool.Decides.{nat_tests}
use Rattle.beam_ports.specs.Counts.{greatest_count, rise}
use Rattle.book_core.specs.Steps.{Action, Answer, Step}
use Rattle.retry_core.specs.Shares.{risen}
use Rattle.retry_core.specs.declared.share.FaultShare.{FaultShare}
use Rattle.turn_desk.specs.declared.held.Note.{Note}
use Rattle.worker_table.specs.Moves.{made_in}
use Rattle.worker_table.specs.Notes.{Entry}
use Rattle.known_jobs.specs.Jobs.{Setting}
use Rattle.worker_table.specs.Turns.{HasStepped, first_entry}
use Rattle.worker_loop.specs.Workers.{HasMadeLast, RisesWith, share_with}

-- ---- the last turn

pub stepped_last : (setting : Setting) (m n : Note (List Entry)) (slot : ℕ) (action : Action) (answer : Answer) → (first_entry n).slot ≡ Some slot → HasStepped setting m n slot action answer
    → HasMadeLast setting (first_entry n) action answer
stepped_last setting m n slot action answer at turn =
    let same : slot ≡ unwrap_or (first_entry n).slot 0 = ap (λ (s : Option ℕ). unwrap_or s 0) (sym at) in
    record {
      lent = turn.lent;
      back = turn.back;
      book = turn.book;
      made = subst (λ (i : ℕ). Step setting.known.told turn.lent i action answer turn.back) same turn.made;
      last = ap (λ (e : Entry). e.last) turn.first ∙ ap (λ (i : ℕ). made_in turn.lent i action answer) same;
    }

-- ---- fails, as they are counted

-- a number of fails that are at most the rise of a count since its first value stays so
pub rises_on : (first before after fails later : ℕ) → first ≤ before → before ≤ after → fails ≤ rise first before → RisesWith fails later before after → later ≤ greatest_count → later ≤ rise first after
rises_on first before after fails later low high was (inl same) few = kept (nat_le greatest_count before) (nat_le greatest_count after) refl refl
  where
    kept : (b a : Bool) → nat_le greatest_count before ≡ b → nat_le greatest_count after ≡ a → later ≤ rise first after
    kept true true is_b is_a = grind (arith, nat_tests)
    kept true false is_b is_a = grind (arith, nat_tests)
    kept false true is_b is_a = grind (arith, nat_tests)
    kept false false is_b is_a = grind (arith, nat_tests)
rises_on first before after fails later low high was (inr (one, rose)) few = kept (nat_le greatest_count before) (nat_le greatest_count after) refl refl
  where
    kept : (b a : Bool) → nat_le greatest_count before ≡ b → nat_le greatest_count after ≡ a → later ≤ rise first after
    kept true true is_b is_a = grind (arith, nat_tests)
    kept true false is_b is_a = grind (arith, nat_tests)
    kept false true is_b is_a = grind (arith, nat_tests)
    kept false false is_b is_a = grind (arith, nat_tests)

-- at most one more
pub rises_few : (fails later before after : ℕ) → RisesWith fails later before after → later ≤ fails + 1
rises_few fails later before after (inl same) = omega arith
rises_few fails later before after (inr (one, rose)) = omega arith

-- a turn of whichever slot the pass has
pub stepped_at : (setting : Setting) (m n : Note (List Entry)) (at : Option ℕ) (action : Action) (answer : Answer) → IsSomeAnd at (λ slot. HasStepped setting m n slot action answer)
    → (first_entry n).slot ≡ at → HasMadeLast setting (first_entry n) action answer
stepped_at setting m n None action answer turn same = absurd turn
stepped_at setting m n (Some slot) action answer turn same = stepped_last setting m n slot action answer same turn

-- a share that counts no more fails is as it was
pub share_same : (share : FaultShare) (calls reads : ℕ) → share.calls ≤ greatest_count → share.reads ≤ greatest_count → calls ≡ 0 → reads ≡ 0 → share ≡ share_with share calls reads
share_same share calls reads low low' none none' =
    let one : share.calls ≡ risen share.calls calls = omega arith in
    let two : share.reads ≡ risen share.reads reads = omega arith in
    ap (λ (n : ℕ). record { calls = n; reads = share.reads }) one ∙ ap (λ (n : ℕ). record { calls = risen share.calls calls; reads = n }) two
