-- What a test says of a fact where another fact stands on it.
use Rattle.std.proofs.Common.{◌≡◌, Bool, false, ◌↔◌, IsTrue, sym, subst, ◌∙◌}
use Rattle.std.specs.Prelude.{IfOk, Result, Ok, Err}
use Rattle.std.proofs.lemmas.Bool.{false≢true}

-- a fact that needs one that fails, fails
pub fails_with : {P Q : Type 0} {r : Bool} → IsTrue r ↔ P → r ≡ false → (Q → P) → IsTrue false ↔ Q
fails_with says off needs = (λ fails. absurd (false≢true fails), λ q. sym off ∙ says.1 (needs q))

-- the last test decides where all others passed
pub decided_by : {P Q E : Type 0} (r : Result Bool E) → IfOk r (λ is. IsTrue is ↔ P) → (P → Q) → (Q → P) → IfOk r (λ is. IsTrue is ↔ Q)
decided_by (Ok is) says there back = (λ yes. there (says.0 yes), λ q. says.1 (back q))
decided_by (Err e) says there back = tt

pub alike : {A B : Type 0} (P : A → B → Type 0) {a a' : A} {b b' : B} → a ≡ a' → b ≡ b' → P a b → P a' b'
alike P {a} {a'} {b} {b'} e f p = subst (λ x. P a' x) f (subst (λ x. P x b) e p)
