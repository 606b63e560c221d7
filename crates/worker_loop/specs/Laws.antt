-- Claims of a pass: what they leave of its note, and that they follow on one another.
use Rattle.std.specs.Prelude.{Bool, IsSome, IsSomeAnd, ◌≡◌, ℕ, [], ◌∷◌, ◌++◌}
use Rattle.std.proofs.Common.{List, refl, subst, sym, ◌∙◌}
use Rattle.turn_desk.specs.declared.held.Note.{Note}
use Rattle.book_core.specs.Steps.{Claim, Claimed}
use Rattle.known_jobs.specs.Jobs.{Setting}
use Rattle.worker_table.specs.Calls.{GoesOnAs, KeepsSlot}
use Rattle.worker_table.specs.Notes.{Entry}
use Rattle.worker_table.specs.Turns.{HasStepped, KeepsOthers, first_entry}

-- one turn of the pass, which was a claim
abbrev pub HasClaimed : Setting → Note (List Entry) → Note (List Entry) → Type 0
HasClaimed setting m n = (p : ℕ) × (granted : Bool) × IsSomeAnd (first_entry m).slot (λ i. HasStepped setting m n i (Claim p) (Claimed granted))

-- claims one after another, and the notes before them, that of the latest one first
abbrev pub AreClaims : Setting → Note (List Entry) → List (Note (List Entry)) → Note (List Entry) → Type 0
AreClaims setting m [] n = n ≡ m
AreClaims setting m (k ∷ earlier) n = HasClaimed setting k n × AreClaims setting m earlier k

-- The turns of the pass were claims alone. They change nothing of what is noted but the job of the pass, of which there still is one.
pub record OnlyClaims (setting : Setting) (m n : Note (List Entry)) : Type 0 where
  pub earlier : List (Note (List Entry))
  pub claims : AreClaims setting m earlier n
  pub stays : GoesOnAs (first_entry m) (first_entry n)
  pub others : KeepsOthers m n
  pub job : IsSome (first_entry m).job → IsSome (first_entry n).job

pub others_same : (m : Note (List Entry)) → KeepsOthers m m
others_same m = record { numbers = refl; free = refl; others = refl; count = refl }

pub others_onward : (m n o : Note (List Entry)) → KeepsOthers m n → KeepsOthers n o → KeepsOthers m o
others_onward m n o one two = record {
  numbers = two.numbers ∙ one.numbers;
  free = two.free ∙ one.free;
  others = two.others ∙ one.others;
  count = two.count ∙ one.count;
}

pub keeps_onward : (e f k : Entry) → KeepsSlot e f → KeepsSlot f k → KeepsSlot e k
keeps_onward e f k one two = record { slot = two.slot ∙ one.slot; calls = two.calls ∙ one.calls; reads = two.reads ∙ one.reads }

pub claims_same : (setting : Setting) (m : Note (List Entry)) → OnlyClaims setting m m
claims_same setting m = record {
  earlier = [];
  claims = refl;
  stays = record { keeps = record { slot = refl; calls = refl; reads = refl }; owes = refl; ending = refl };
  others = others_same m;
  job = λ some. some;
}

claims_join : (setting : Setting) (m n : Note (List Entry)) (earlier : List (Note (List Entry))) → AreClaims setting m earlier n
    → (later : List (Note (List Entry))) (o : Note (List Entry)) → AreClaims setting n later o → AreClaims setting m (later ++ earlier) o
claims_join setting m n earlier one [] o two = subst (AreClaims setting m earlier) (sym two) one
claims_join setting m n earlier one (k ∷ later) o two = (two.0, claims_join setting m n earlier one later k two.1)

pub claims_onward : (setting : Setting) (m n o : Note (List Entry)) → OnlyClaims setting m n → OnlyClaims setting n o → OnlyClaims setting m o
claims_onward setting m n o one two = record {
  earlier = two.earlier ++ one.earlier;
  claims = claims_join setting m n one.earlier one.claims two.earlier o two.claims;
  stays = record {
    keeps = keeps_onward (first_entry m) (first_entry n) (first_entry o) one.stays.keeps two.stays.keeps;
    owes = two.stays.owes ∙ one.stays.owes;
    ending = two.stays.ending ∙ one.stays.ending;
  };
  others = others_onward m n o one.others two.others;
  job = λ some. two.job (one.job some);
}
