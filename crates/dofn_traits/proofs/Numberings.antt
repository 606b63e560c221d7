-- The numbers of the kinds.
use Rattle.std.proofs.Common.{◌≡◌, ℕ, zero, suc, ◌==◌, ◌<◌, Bool, true, false, ◌&&◌, List, length, get_or, refl, subst, inl, inr, eqb-true, arith, rules}
use Rattle.std.proofs.lemmas.Bool.{cases_lt}
use Rattle.beam_values.specs.declared.plan.FnKind.{FnKind}
use Rattle.beam_values.specs.declared.plan.FnKind.TheVariants.{KeyField}
use Rattle.beam_values.specs.declared.plan.SourceKind.{SourceKind}
use Rattle.beam_values.specs.declared.plan.SourceKind.TheVariants.{Lines}
use Rattle.beam_values.specs.declared.plan.StateKind.{StateKind}
use Rattle.beam_values.specs.declared.plan.StateKind.TheVariants.{Dedupe}
use Rattle.dofn_traits.specs.Shelves.{fn_kinds, fn_number, source_kinds, source_number, state_kinds, state_number}

-- the number of a kind is its place among all kinds, and each place is a number
pub record IsNumbering {K : Type 0} (number : K → ℕ) (kinds : List K) (any : K) : Type 0 where
  pub listed : (kind : K) → get_or kinds (number kind) any ≡ kind
  pub within : (kind : K) → number kind < length kinds
  pub numbered : (n : ℕ) → n < length kinds → number (get_or kinds n any) ≡ n

-- a test that passes at each number below one passes at any of them
abbrev all_below : (ℕ → Bool) → ℕ → Bool
all_below test zero = true
all_below test (suc n) = test n && all_below test n

both : (a b : Bool) → (a && b) ≡ true → (a ≡ true) × (b ≡ true)
both true b all = (refl, all)
both false b all = absurd cc

all_below_at : (test : ℕ → Bool) (n k : ℕ) → all_below test n ≡ true → k < n → test k ≡ true
all_below_at test zero k all below = absurd (omega arith)
all_below_at test (suc n) k all below =
    let parts = both (test n) (all_below test n) all in
    elim (cases_lt k n) [
      | inl lower ↦ all_below_at test n k parts.1 lower
      | inr last ↦
          let same : n ≡ k = omega arith in
          subst (λ m. test m ≡ true) same parts.0
    ]

-- in a list of all, each stands at its number

fn_listed : (kind : FnKind) → get_or fn_kinds (fn_number kind) KeyField ≡ kind
fn_listed KeyField = refl
fn_listed _ = refl

fn_within : (kind : FnKind) → fn_number kind < length fn_kinds
fn_within KeyField = search rules
fn_within _ = search rules

pub fn_numbering : IsNumbering fn_number fn_kinds KeyField
fn_numbering = record {
  listed = fn_listed;
  within = fn_within;
  numbered = λ n below. eqb-true _ _ (all_below_at (λ n. fn_number (get_or fn_kinds n KeyField) == n) (length fn_kinds) n refl below);
}

source_listed : (kind : SourceKind) → get_or source_kinds (source_number kind) Lines ≡ kind
source_listed Lines = refl
source_listed _ = refl

source_within : (kind : SourceKind) → source_number kind < length source_kinds
source_within Lines = search rules
source_within _ = search rules

pub source_numbering : IsNumbering source_number source_kinds Lines
source_numbering = record {
  listed = source_listed;
  within = source_within;
  numbered = λ n below. eqb-true _ _ (all_below_at (λ n. source_number (get_or source_kinds n Lines) == n) (length source_kinds) n refl below);
}

state_listed : (kind : StateKind) → get_or state_kinds (state_number kind) Dedupe ≡ kind
state_listed Dedupe = refl
state_listed _ = refl

state_within : (kind : StateKind) → state_number kind < length state_kinds
state_within Dedupe = search rules
state_within _ = search rules

pub state_numbering : IsNumbering state_number state_kinds Dedupe
state_numbering = record {
  listed = state_listed;
  within = state_within;
  numbered = λ n below. eqb-true _ _ (all_below_at (λ n. state_number (get_or state_kinds n Dedupe) == n) (length state_kinds) n refl below);
}
