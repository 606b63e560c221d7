-- Refusals of a part of the work are refusals of the whole.
use Rattle.std.proofs.Common.{◌≡◌, ℕ, ◌+◌, ◌<◌, ◌==◌, ◌&&◌, Bool, true, false, List, [], ◌∷◌, ◌++◌, map, refl, sym, ap, subst, ◌∙◌, arith}
use Rattle.std.specs.Prelude.{◌||◌, Option}
use Rattle.std.specs.List.{count_by, list_any}
use Rattle.std.proofs.lemmas.Grind.{flat_map-append}
use Rattle.beam_values.specs.declared.arrival.Arrival.{Arrival}
use Rattle.beam_values.specs.declared.fault.FaultNote.{FaultNote}
use Rattle.beam_values.specs.declared.file_text.FileText.{FileText}
use Rattle.beam_values.specs.declared.piece.Done.{Done}
use Rattle.beam_values.specs.declared.plan.Plan.{Plan}
use Rattle.beam_values.specs.declared.value.Value.{Value}
use Rattle.beam_model.specs.Chains.{Output, Arrives}
use Rattle.beam_model.specs.Coverings.{spread_done, spread_dones}
use Rattle.beam_model.specs.Positions.{SourceItem, items}
use Rattle.beam_model.specs.Premises.{done_range}
use Rattle.beam_model.specs.Spread.{is_poison}
use Rattle.beam_ports.specs.Files.{Opening}
use Rattle.beam_ports.specs.Observed.{ObservedStore, WhereTold, observed_store}
use Rattle.book_core.specs.Work.{Surroundings}
use Rattle.chain_exec.specs.Causes.{ObservedShelf, observed_shelf}
use Rattle.combine_lift.specs.Tables.{Table}
use Rattle.combine_lift.specs.declared.refusal.LiftRefusal.TheVariants as lift
use Rattle.combine_laws.specs.Brought.{is_arrival, is_untaken}
use Rattle.combine_laws.specs.Combined.{most_parts}
use Rattle.combine_plan.specs.Folding.{HasFolded, IsAddRefused, IsFoldRefused}
use Rattle.combine_plan.specs.declared.refusal.CombineRefusal.{CombineRefusal}
use Rattle.combine_plan.specs.declared.refusal.CombineRefusal.TheVariants.{Lift, Fault, NoMemory}
use Rattle.combine_plan.proofs.Outputs.{any_front, any_within, arrivals_counted, arrivals_untaken, count_within}
use Rattle.combine_plan.proofs.Tried.{Kept, counted_from, tries_from}

-- what three lists of ranges bring, one after another
thirds : (plan : Plan) (items : List SourceItem) (before ranges after : List Done)
    → spread_dones plan items (before ++ (ranges ++ after)) ≡ spread_dones plan items before ++ (spread_dones plan items ranges ++ spread_dones plan items after)
thirds plan items before ranges after =
    flat_map-append (spread_done plan items) before (ranges ++ after)
    ∙ ap (λ (l : List Output). spread_dones plan items before ++ l) (flat_map-append (spread_done plan items) ranges after)

abbrev pub names_job : FaultNote → Done → Bool
names_job note range = range.node == note.node && range.item == note.item

-- one range of a job names it, where one of its two parts does
pub names_once : (node item from middle to : ℕ) (note : FaultNote) → list_any (names_job note) (done_range node item from middle ∷ done_range node item middle to ∷ []) ≡ true
    → list_any (names_job note) (done_range node item from to ∷ []) ≡ true
names_once node item from middle to note is = by (names_job note (done_range node item from to)) is
  where
    by : (b : Bool) → (b || (b || false)) ≡ true → (b || false) ≡ true
    by true is = refl
    by false is = is

module _ (takes : Value → Bool) (known : Surroundings) (shelf : ObservedShelf) (store : ObservedStore) (plan : Plan) (attempts : ℕ) where
  -- arrivals that were not added are of ranges that were not folded
  pub added_refused : (ranges after : List Done) (parts : ℕ) (arrivals : List Arrival) → WhereTold known.told (λ files. map Arrives arrivals ≡ spread_dones plan (items files plan) ranges)
      → (refusal : CombineRefusal) → IsAddRefused takes parts arrivals refusal → IsFoldRefused takes known shelf store plan attempts (ranges ++ after) parts refusal
  added_refused ranges after parts arrivals told (Lift lift.Part) refused = λ files is.
      let its = items files plan in
      ap (list_any (is_untaken takes)) (flat_map-append (spread_done plan its) ranges after)
      ∙ any_front (is_untaken takes) (spread_dones plan its ranges) (spread_dones plan its after)
      (ap (list_any (is_untaken takes)) (sym (told files is)) ∙ sym (arrivals_untaken takes arrivals) ∙ refused)
  added_refused ranges after parts arrivals told (Lift lift.Many) refused = λ files is.
      let its = items files plan in
      let all = ap (count_by is_arrival) (flat_map-append (spread_done plan its) ranges after) in
      let low = count_within is_arrival [] (spread_dones plan its ranges) (spread_dones plan its after) in
      let came = ap (count_by is_arrival) (told files is) in
      omega (arith, all, low, came, arrivals_counted arrivals, refused)
  added_refused ranges after parts arrivals told (Lift lift.Shape) refused = refused
  added_refused ranges after parts arrivals told (Lift lift.Sum) refused = refused
  added_refused ranges after parts arrivals told (Fault note) refused = absurd refused
  added_refused ranges after parts arrivals told NoMemory refused = tt

  -- the same of other ranges that bring the same
  pub refused_as : (ranges others : List Done) (parts : ℕ) → ((items : List SourceItem) → spread_dones plan items ranges ≡ spread_dones plan items others)
      → ((note : FaultNote) → list_any (names_job note) ranges ≡ true → list_any (names_job note) others ≡ true)
      → (refusal : CombineRefusal) → IsFoldRefused takes known shelf store plan attempts ranges parts refusal → IsFoldRefused takes known shelf store plan attempts others parts refusal
  refused_as ranges others parts same names (Lift lift.Part) refused = λ files is. ap (list_any (is_untaken takes)) (sym (same (items files plan))) ∙ refused files is
  refused_as ranges others parts same names (Lift lift.Many) refused = λ files is.
      subst (λ (l : List Output). most_parts < parts + count_by is_arrival l) (same (items files plan)) (refused files is)
  refused_as ranges others parts same names (Lift lift.Shape) refused = refused
  refused_as ranges others parts same names (Lift lift.Sum) refused = refused
  refused_as ranges others parts same names (Fault note) refused =
      let t = refused.tries in
      record {
        listed = names note refused.listed;
        attempt = refused.attempt;
        tries = record {
          calls = t.calls;
          reads = t.reads;
          all = t.all;
          calls_counted = t.calls_counted;
          reads_counted = t.reads_counted;
          poison = λ some is files told. ap (list_any is_poison) (sym (same (items files plan))) ∙ t.poison some is files told;
        };
        cause = refused.cause;
        call = refused.call;
        read = refused.read;
      }
  refused_as ranges others parts same names NoMemory refused = tt

module _ {F S : Type 0} (strict : F → Bool) (faults : F → ℕ) (files_of : S → Option (List FileText)) (fails : S → ℕ) (opened : S → ℕ → Option Opening) (known : Surroundings) (plan : Plan)
    (takes : Value → Bool) (attempts : ℕ) where
  abbrev Refused : F → F → S → S → List Done → ℕ → CombineRefusal → Type 0
  Refused shelf later store after ranges parts refusal =
      IsFoldRefused takes known (observed_shelf strict faults shelf later) (observed_store files_of fails store after) plan attempts ranges parts refusal

  module _ {A : Type 0} (stands : A → List Value → Type 0) (before ranges after : List Done) (start mid : Table A) (folded : HasFolded stands known plan before start mid)
      (f0 f1 f2 : F) (s0 s1 s2 : S) (kept : Kept strict faults files_of fails opened f0 f1 s0 s1) where
    -- A refusal of some ranges, behind others that were folded and before more, is one of all of them.
    pub refused_within : (refusal : CombineRefusal) → Refused f1 f2 s1 s2 ranges mid.parts refusal → Refused f0 f2 s0 s2 (before ++ (ranges ++ after)) start.parts refusal
    refused_within (Lift lift.Part) refused = λ files is.
        let its = items files plan in
        ap (list_any (is_untaken takes)) (thirds plan its before ranges after)
        ∙ any_within (is_untaken takes) (spread_dones plan its before) (spread_dones plan its ranges) (spread_dones plan its after) (refused files is)
    refused_within (Lift lift.Many) refused = λ files is.
        let its = items files plan in
        let all = ap (count_by is_arrival) (thirds plan its before ranges after) in
        let low = count_within is_arrival (spread_dones plan its before) (spread_dones plan its ranges) (spread_dones plan its after) in
        let came = ap (count_by is_arrival) (folded.told files is) in
        omega (arith, all, low, came, arrivals_counted folded.arrivals, folded.parts, refused files is)
    refused_within (Lift lift.Shape) refused = refused
    refused_within (Lift lift.Sum) refused = refused
    refused_within (Fault note) refused = record {
      listed = any_within (names_job note) before ranges after refused.listed;
      attempt = refused.attempt;
      tries = tries_from strict faults files_of fails opened known plan f0 f1 f2 s0 s1 s2 ranges (before ++ (ranges ++ after)) attempts kept
          (λ its is. ap (list_any is_poison) (thirds plan its before ranges after)
          ∙ any_within is_poison (spread_dones plan its before) (spread_dones plan its ranges) (spread_dones plan its after) is)
          refused.tries;
      cause = counted_from strict faults files_of fails opened f0 f1 f2 s0 s1 s2 kept note.cause refused.cause;
      call = refused.call;
      read = refused.read;
    }
    refused_within NoMemory refused = tt
