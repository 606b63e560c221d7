-- How often work failed, from call to call, and what that was counted as.
use Rattle.std.proofs.Common.{◌≡◌, ℕ, ◌+◌, ◌≤◌, Bool, true, false, List, [], ◌∷◌, ◌++◌, refl, ap, ◌∙◌, arith}
use Rattle.std.specs.Prelude.{Option, nat_le}
use Rattle.std.specs.List.{list_any}
use Rattle.std.proofs.lemmas.Bool.Decides.{nat_tests}
use Rattle.beam_values.specs.declared.fault.Cause.{Cause}
use Rattle.beam_values.specs.declared.fault.Cause.TheVariants.{Call, Read}
use Rattle.beam_values.specs.declared.file_text.FileText.{FileText}
use Rattle.beam_values.specs.declared.piece.Done.{Done}
use Rattle.beam_values.specs.declared.plan.Plan.{Plan}
use Rattle.beam_model.specs.Chains.{Output}
use Rattle.beam_model.specs.Coverings.{spread_done, spread_dones}
use Rattle.beam_model.specs.Positions.{SourceItem, items}
use Rattle.beam_model.specs.Premises.{done_range}
use Rattle.beam_model.specs.Spread.{is_poison}
use Rattle.beam_ports.specs.Counts.{Rose, greatest_count, rise}
use Rattle.beam_ports.specs.Files.{Opening}
use Rattle.beam_ports.specs.Observed.{ObservedStore, observed_store}
use Rattle.book_core.specs.Work.{Surroundings}
use Rattle.bundle_work.specs.Bundles.{IsCountedAs}
use Rattle.bundle_work.specs.Outside.{IsKitKept}
use Rattle.chain_exec.specs.Causes.{ObservedShelf, observed_shelf}
use Rattle.combine_plan.specs.Folding.{AreTries, HasFailed, IsPoisonWithin}
use Rattle.combine_plan.proofs.Outputs.{any_within, first_any}
use Rattle.combine_plan.proofs.Ranges.{one_range, range_join}

-- ---- how far a count rose

-- it goes on
rise_on : (s0 s1 s2 n : ℕ) → s0 ≤ s1 → s1 ≤ s2 → n ≤ rise s0 s1 → n ≤ greatest_count → n ≤ rise s0 s2
rise_on s0 s1 s2 n low high rose few = by (nat_le greatest_count s1) (nat_le greatest_count s2) refl refl
  where
    by : (a b : Bool) → nat_le greatest_count s1 ≡ a → nat_le greatest_count s2 ≡ b → n ≤ rise s0 s2
    by true true is_a is_b = grind (arith, nat_tests)
    by true false is_a is_b = grind (arith, nat_tests)
    by false true is_a is_b = grind (arith, nat_tests)
    by false false is_a is_b = grind (arith, nat_tests)

-- it began lower
rise_from : (s0 s1 s2 n : ℕ) → s0 ≤ s1 → n ≤ rise s1 s2 → n ≤ rise s0 s2
rise_from s0 s1 s2 n low rose = by (nat_le greatest_count s2) refl
  where
    by : (b : Bool) → nat_le greatest_count s2 ≡ b → n ≤ rise s0 s2
    by true is = grind (arith, nat_tests)
    by false is = grind (arith, nat_tests)

rise_more : (s0 s1 s2 n : ℕ) → s0 ≤ s1 → s1 ≤ s2 → n ≤ rise s0 s1 → Rose s1 s2 → n + 1 ≤ greatest_count → n + 1 ≤ rise s0 s2
rise_more s0 s1 s2 n low high rose more few = by (nat_le greatest_count s1) (nat_le greatest_count s2) refl refl
  where
    by : (a b : Bool) → nat_le greatest_count s1 ≡ a → nat_le greatest_count s2 ≡ b → n + 1 ≤ rise s0 s2
    by true true is_a is_b = grind (arith, nat_tests)
    by true false is_a is_b = grind (arith, nat_tests)
    by false true is_a is_b = grind (arith, nat_tests)
    by false false is_a is_b = grind (arith, nat_tests)

-- ---- poison in a part of a range

pub poison_within : (plan : Plan) (items : List SourceItem) (node item lo from to hi : ℕ) → lo ≤ from → to ≤ hi → (at : ℕ) → IsPoisonWithin plan items (done_range node item from to) at
    → list_any is_poison (spread_dones plan items (done_range node item lo hi ∷ [])) ≡ true
poison_within plan items node item lo from to hi low high at poison =
    let p = poison.at in
    let brings = λ (a b : ℕ). spread_done plan items (done_range node item a b) in
    let cut : spread_done plan items (done_range node item lo hi) ≡ brings lo p ++ (brings p (p + 1) ++ brings (p + 1) hi) =
    range_join plan items node item lo p hi (omega (arith, low, poison.from)) (omega (arith, high, poison.below))
    ∙ ap (λ (l : List Output). brings lo p ++ l) (range_join plan items node item p (p + 1) hi (omega arith) (omega (arith, high, poison.below))) in
    ap (list_any is_poison) (one_range plan items (done_range node item lo hi) ∙ cut)
    ∙ any_within is_poison (brings lo p) (brings p (p + 1)) (brings (p + 1) hi) (first_any (brings p (p + 1)) at poison.poison)

-- ---- what kits observe from call to call

module _ {F S : Type 0} (strict : F → Bool) (faults : F → ℕ) (files : S → Option (List FileText)) (fails : S → ℕ) (opened : S → ℕ → Option Opening) where
  abbrev pub Kept : F → F → S → S → Type 0
  Kept shelf later store after = IsKitKept faults strict fails files opened shelf later store after

  abbrev at_shelf : F → F → ObservedShelf
  at_shelf shelf later = observed_shelf strict faults shelf later

  abbrev at_store : S → S → ObservedStore
  at_store store after = observed_store files fails store after

  module _ (f0 f1 f2 : F) (s0 s1 s2 : S) where
    -- what was counted is so from an earlier time on
    pub counted_from : Kept f0 f1 s0 s1 → (cause : Cause) → IsCountedAs (at_shelf f1 f2) (at_store s1 s2) cause → IsCountedAs (at_shelf f0 f2) (at_store s0 s2) cause
    counted_from kept Call counted = rise_from (faults f0) (faults f1) (faults f2) 1 kept.counts counted
    counted_from kept Read counted = rise_from (fails s0) (fails s1) (fails s2) 1 kept.reading.counts counted

  module _ (known : Surroundings) (plan : Plan) where
    abbrev Tries : F → F → S → S → List Done → ℕ → Type 0
    Tries shelf later store after ranges tries = AreTries known (at_shelf shelf later) (at_store store after) plan ranges tries

    abbrev Failed : F → F → S → S → Done → ℕ → Cause → Type 0
    Failed shelf later store after range at cause = HasFailed known (at_shelf shelf later) (at_store store after) plan range at cause

    -- the poison of some ranges is among that of others
    abbrev HoldsPoison : List Done → List Done → Type 0
    HoldsPoison ranges others = (items : List SourceItem) → list_any is_poison (spread_dones plan items ranges) ≡ true → list_any is_poison (spread_dones plan items others) ≡ true

    pub tries_none : (shelf later : F) (store after : S) (ranges : List Done) → Tries shelf later store after ranges 0
    tries_none shelf later store after ranges =
        record { calls = 0; reads = 0; all = refl; calls_counted = omega arith; reads_counted = omega arith; poison = λ some. absurd (omega arith) }

    module _ (f0 f1 f2 : F) (s0 s1 s2 : S) where
      -- no call failed since
      pub tries_on : (ranges : List Done) (n : ℕ) → n ≤ 1000 → Kept f0 f1 s0 s1 → Kept f1 f2 s1 s2 → Tries f0 f1 s0 s1 ranges n → Tries f0 f2 s0 s2 ranges n
      tries_on ranges n few kept onward tries = record {
        calls = tries.calls;
        reads = tries.reads;
        all = tries.all;
        calls_counted = rise_on (faults f0) (faults f1) (faults f2) tries.calls kept.counts onward.counts tries.calls_counted (omega (arith, tries.all));
        reads_counted = rise_on (fails s0) (fails s1) (fails s2) tries.reads kept.reading.counts onward.reading.counts tries.reads_counted (omega (arith, tries.all));
        poison = tries.poison;
      }

      -- the same of more ranges, from an earlier time on
      pub tries_from : (ranges others : List Done) (n : ℕ) → Kept f0 f1 s0 s1 → HoldsPoison ranges others → Tries f1 f2 s1 s2 ranges n → Tries f0 f2 s0 s2 others n
      tries_from ranges others n kept among tries = record {
        calls = tries.calls;
        reads = tries.reads;
        all = tries.all;
        calls_counted = rise_from (faults f0) (faults f1) (faults f2) tries.calls kept.counts tries.calls_counted;
        reads_counted = rise_from (fails s0) (fails s1) (fails s2) tries.reads kept.reading.counts tries.reads_counted;
        poison = λ some is told files. among (items told plan) (tries.poison some is told files);
      }

      -- it failed once more
      pub tries_more : (ranges : List Done) (range : Done) (n at : ℕ) (cause : Cause) → n + 1 ≤ 1000 → Kept f0 f1 s0 s1 → Kept f1 f2 s1 s2
          → ((items : List SourceItem) → IsPoisonWithin plan items range at → list_any is_poison (spread_dones plan items ranges) ≡ true)
          → Tries f0 f1 s0 s1 ranges n → Failed f1 f2 s1 s2 range at cause → Tries f0 f2 s0 s2 ranges (n + 1)
      tries_more ranges range n at Call few kept onward within tries failed = record {
        calls = tries.calls + 1;
        reads = tries.reads;
        all = omega (arith, tries.all);
        calls_counted = rise_more (faults f0) (faults f1) (faults f2) tries.calls kept.counts onward.counts tries.calls_counted failed.counted (omega (arith, tries.all));
        reads_counted = rise_on (fails s0) (fails s1) (fails s2) tries.reads kept.reading.counts onward.reading.counts tries.reads_counted (omega (arith, tries.all));
        poison = λ some is told files. within (items told plan) (failed.call refl is told files);
      }
      tries_more ranges range n at Read few kept onward within tries failed = record {
        calls = tries.calls;
        reads = tries.reads + 1;
        all = omega (arith, tries.all);
        calls_counted = rise_on (faults f0) (faults f1) (faults f2) tries.calls kept.counts onward.counts tries.calls_counted (omega (arith, tries.all));
        reads_counted = rise_more (fails s0) (fails s1) (fails s2) tries.reads kept.reading.counts onward.reading.counts tries.reads_counted failed.counted (omega (arith, tries.all));
        poison = tries.poison;
      }
