-- Claims of one slot lead from a book to another, and follow on one another.
use Rattle.std.proofs.Common.{◌≡◌, ℕ, Bool, List, [], ◌∷◌, ◌++◌, refl, subst}
use Rattle.book_core.specs.Book.{SeenBook}
use Rattle.book_core.specs.Steps.{IsClaiming}

-- a claim of a position, and whether it was granted
pub record MadeClaim : Type 0 where
  pub p : ℕ
  pub granted : Bool

abbrev pub ClaimsLead : ℕ → SeenBook → List MadeClaim → SeenBook → Type 0
ClaimsLead slot b [] new = new ≡ b
ClaimsLead slot b (claim ∷ later) new = (next : SeenBook) × IsClaiming b slot claim.p claim.granted next × ClaimsLead slot next later new

pub record AreClaims (slot : ℕ) (b new : SeenBook) : Type 0 where
  pub claims : List MadeClaim
  pub lead : ClaimsLead slot b claims new

pub claims_none : (slot : ℕ) (b : SeenBook) → AreClaims slot b b
claims_none slot b = record { claims = []; lead = refl }

lead_on : (slot : ℕ) (claims others : List MadeClaim) (b mid new : SeenBook) → ClaimsLead slot b claims mid → ClaimsLead slot mid others new → ClaimsLead slot b (claims ++ others) new
lead_on slot [] others b mid new one two = subst (λ (x : SeenBook). ClaimsLead slot x others new) one two
lead_on slot (claim ∷ claims) others b mid new one two = (one.0, one.1, lead_on slot claims others one.0 mid new one.2 two)

pub claims_onward : (slot : ℕ) (b mid new : SeenBook) → AreClaims slot b mid → AreClaims slot mid new → AreClaims slot b new
claims_onward slot b mid new one two = record { claims = one.claims ++ two.claims; lead = lead_on slot one.claims two.claims b mid new one.lead two.lead }
