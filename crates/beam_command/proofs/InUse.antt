-- The kits in use are split off at the front, and put back before the others.
use Rattle.std.proofs.Common.{◌≡◌, ℕ, zero, suc, ◌+◌, min, List, [], ◌∷◌, ◌++◌, Option, length, take, drop, refl, sym, ap, subst, ◌∙◌, arith, length-append}
use Rattle.std.proofs.Math.Seq.{take-append_seam}
use Rattle.beam_ports.specs.declared.sink.Sink.{Ghosts as SinkGhosts}
use Rattle.beam_ports.specs.declared.store.Store.{Ghosts as StoreGhosts}
use Rattle.beam_values.specs.declared.outcome.Outcome.{Outcome}
use Rattle.command_words.specs.Commands.{Asked}
use Rattle.dofn_traits.specs.declared.shelf.Shelf.{Ghosts as ShelfGhosts}
use Rattle.bundle_work.specs.Kits.{EachBecomes}
use Rattle.bundle_work.specs.declared.kit.Kit.{Kit}
use Rattle.run_engine.specs.Kits.{KeepsKit}
use Rattle.run_engine.specs.Openings.{TriesKits}
use Rattle.command_ends.specs.declared.status.Status.{Status}
use Rattle.beam_command.specs.Clauses.{attempts_of}
use Rattle.beam_command.specs.Ends.{IsEndOf}
use Rattle.beam_command.specs.Kits.{AreKitsLeft, HasNotBegun, IsOutcomeOfKits, IsOutcomeOfOpened, KeepsShelf, TriesUnbegun, first_files, in_use, observed_for, observed_in_use, workers_of}
use Rattle.beam_command.specs.Promises.{IsPlanAsked}
use Rattle.beam_command.proofs.Kept.{all_same, become_front, become_length, idle_same, keeps_same}

module _ {K : Type 0} where
  -- a front that has as many as are wanted, or all
  take_front : (n : ℕ) (front back : List K) → length front ≡ min (length front + length back) n → take n (front ++ back) ≡ front
  take_front zero [] back is = refl
  take_front zero (k ∷ front) back is = absurd (omega arith)
  take_front (suc n) [] [] is = refl
  take_front (suc n) [] (k ∷ back) is = absurd (omega arith)
  take_front (suc n) (k ∷ front) back is = ap (λ (ks : List K). k ∷ ks) (take_front n front back (omega arith))

  drop_front : (n : ℕ) (front back : List K) → length front ≡ min (length front + length back) n → drop n (front ++ back) ≡ back
  drop_front zero [] back is = refl
  drop_front zero (k ∷ front) back is = absurd (omega arith)
  drop_front (suc n) [] [] is = refl
  drop_front (suc n) [] (k ∷ back) is = absurd (omega arith)
  drop_front (suc n) (k ∷ front) back is = drop_front n front back (omega arith)

  module _ (n : ℕ) (kits front back after : List K) (are : kits ≡ front ++ back) (split : length front ≡ min (length kits) n) (same : length after ≡ length front) where
    whole : length kits ≡ length front + length back
    whole = ap length are ∙ length-append front back

    pub used : take n kits ≡ front
    used = ap (take n) are ∙ take_front n front back (omega (arith, split, whole))

    pub used_after : take n (after ++ back) ≡ after
    used_after = take_front n after back (omega (arith, split, whole, same))

    pub left_unused : drop n (after ++ back) ≡ drop n kits
    left_unused = drop_front n after back (omega (arith, split, whole, same)) ∙ sym (ap (drop n) are ∙ drop_front n front back (omega (arith, split, whole)))

  -- what a borrow of a whole vector of this length leaves there
  abbrev pub written_back : ℕ → List K → List K → List K
  written_back n kits after = take n (after ++ drop (length after) kits)

  pub all_written : (n : ℕ) (kits after : List K) → length after ≡ n → written_back n kits after ≡ after
  all_written n kits after is = ap (λ (m : ℕ). written_back m kits after) (sym is) ∙ take-append_seam after (drop (length after) kits)

-- ---- what a run with the kits in use leaves of all kits

module _ {F S : Type 0} (of_shelf : ShelfGhosts F) (of_store : StoreGhosts S) (asked : Option Asked) where
  pub kits_same : (s : Status) (kits : List (Kit F S)) → AreKitsLeft of_shelf of_store asked s kits kits
  kits_same s kits = record { idle = λ none. idle_same kits; kept = all_same of_shelf of_store kits; unused = refl }

  module _ (workers : ℕ) (asks : workers_of asked ≡ workers) (kits front back news : List (Kit F S)) (are : kits ≡ front ++ back) (split : length front ≡ min (length kits) workers)
      (kept : EachBecomes front news (KeepsKit of_shelf of_store)) where
    as_many : length news ≡ length front
    as_many = become_length (KeepsKit of_shelf of_store) front news kept

    in_use_before : in_use asked kits ≡ front
    in_use_before = ap (λ (n : ℕ). take n kits) asks ∙ used workers kits front back news are split as_many

    in_use_after : in_use asked (news ++ back) ≡ news
    in_use_after = ap (λ (n : ℕ). take n (news ++ back)) asks ∙ used_after workers kits front back news are split as_many

    pub kits_left : (s : Status) → (HasNotBegun s → EachBecomes front news KeepsShelf) → AreKitsLeft of_shelf of_store asked s kits (news ++ back)
    kits_left s idle = record {
      idle = λ none.
          subst (λ (olds : List (Kit F S)). EachBecomes olds (news ++ back) KeepsShelf) (sym are) (become_front KeepsShelf (λ kit. refl) front news back (idle none));
      kept = subst (λ (olds : List (Kit F S)). EachBecomes olds (news ++ back) (KeepsKit of_shelf of_store)) (sym are)
          (become_front (KeepsKit of_shelf of_store) (keeps_same of_shelf of_store) front news back kept);
      unused = subst (λ (n : ℕ). drop n (news ++ back) ≡ drop n kits) (sym asks) (left_unused workers kits front back news are split as_many);
    }

    pub outcome_left : (o : Outcome) → IsPlanAsked (first_files of_store.files kits) asked o.plan → IsOutcomeOfOpened of_store news o
        → IsOutcomeOfKits of_store asked kits (news ++ back) o
    outcome_left o plan opened = record { plan = plan; opened = subst (λ (own : List (Kit F S)). IsOutcomeOfOpened of_store own o) (sym in_use_after) opened }

    pub tries_left : (attempts : ℕ) → attempts_of asked ≡ attempts → (end : Status) → TriesUnbegun of_store attempts 0 front news end
        → TriesUnbegun of_store (attempts_of asked) 0 (in_use asked kits) (in_use asked (news ++ back)) end
    tries_left attempts most end told = λ none.
        subst (λ (n : ℕ). TriesKits of_store n 0 (in_use asked kits) (in_use asked (news ++ back)) end) (sym most)
        (subst (λ (olds : List (Kit F S)). TriesKits of_store attempts 0 olds (in_use asked (news ++ back)) end) (sym in_use_before)
        (subst (λ (after : List (Kit F S)). TriesKits of_store attempts 0 front after end) (sym in_use_after) (told none)))

    pub end_in_use : {W : Type 0} (of_sink : SinkGhosts W) (out_old out_new : W) (s : Status) (outcome : Option Outcome)
        → IsEndOf asked (observed_for of_shelf of_store of_sink asked front news out_old out_new) s outcome
        → IsEndOf asked (observed_in_use of_shelf of_store of_sink asked kits (news ++ back) out_old out_new) s outcome
    end_in_use of_sink out_old out_new s outcome end =
        subst (λ (both : List (Kit F S) × List (Kit F S)). IsEndOf asked (observed_for of_shelf of_store of_sink asked both.0 both.1 out_old out_new) s outcome)
        (λ i. (sym in_use_before i, sym in_use_after i)) end
