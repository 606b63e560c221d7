-- What the definitions refuse and admit, on computed examples: no outcome passes by putting things where they don't belong.
use Rattle.std.proofs.Common.{◌≡◌, ℕ, zero, suc, ◌+◌, ◌<◌, ◌&&◌, ◌==◌, ℤ, pos, negsuc, FitsSigned, w64, Bool, true, false, cond, min, List, [], ◌∷◌, map, Some, None, refl, sym, ap, subst, ◌∙◌, arith}
use Rattle.std.specs.Prelude.{codes}
use Rattle.std.proofs.lemmas.Bool.{true≢false, false≢true}
use Rattle.std.proofs.lemmas.Bool.Decides.{nat_tests}
use Rattle.std.proofs.lemmas.Int.{ints}
use Rattle.std.proofs.lemmas.List.Elements.{All-nil, All-cons}
use Rattle.beam_values.specs.Bags.{IsSameBag}
use Rattle.beam_values.specs.Grouping.{pane_with}
use Rattle.beam_values.specs.Intervals.{Interval, times_in}
use Rattle.beam_values.specs.Lines.{offsets}
use Rattle.beam_values.specs.Nodes.{is_group, is_stateful, is_write}
use Rattle.beam_values.specs.Spelling.{varint, two's_complement, spelling}
use Rattle.beam_values.specs.Windows.{global_window}
use Rattle.beam_values.specs.declared.arrival.Arrival.{Arrival}
use Rattle.beam_values.specs.declared.cell.Cell.{Cell}
use Rattle.beam_values.specs.declared.cell.Dropped.{Dropped}
use Rattle.beam_values.specs.declared.cell.Pane.{Pane}
use Rattle.beam_values.specs.declared.element.Element.{Element}
use Rattle.beam_values.specs.declared.log.KeyLog.{KeyLog}
use Rattle.beam_values.specs.declared.log.LogInput.TheVariants.{Arrived}
use Rattle.beam_values.specs.declared.outcome.Outcome.{Outcome}
use Rattle.beam_values.specs.declared.fault.Cause.TheVariants.{Call}
use Rattle.beam_values.specs.declared.piece.Dead.{Dead}
use Rattle.beam_values.specs.declared.piece.Done.{Done}
use Rattle.beam_values.specs.declared.piece.FileLen.{FileLen}
use Rattle.beam_values.specs.declared.plan.Args.TheVariants.{Nothing, Two}
use Rattle.beam_values.specs.declared.plan.Estimator.TheVariants as estimator
use Rattle.beam_values.specs.declared.plan.NodeKind.TheVariants.{Source, Group, Write}
use Rattle.beam_values.specs.declared.plan.Plan.{Plan}
use Rattle.beam_values.specs.declared.plan.SourceKind.TheVariants.{Lines, TimedLines, Count, Made}
use Rattle.beam_values.specs.declared.value.Value.{Value}
use Rattle.beam_values.specs.declared.value.Value.TheVariants.{rolls-Int}
use Rattle.beam_values.specs.Storable.{IsStorable}
use Rattle.beam_values.proofs.Bags.{bag_from_same}
use Rattle.beam_values.proofs.Induction.{spelling-Int}
use Rattle.beam_values.proofs.Storable.{fits-Int}
use Rattle.beam_model.specs.Account.{arrivals, IsAccounted}
use Rattle.beam_model.specs.Chains.{Arrives}
use Rattle.beam_model.specs.Covers.{IsCovered}
use Rattle.beam_model.specs.Dead.{items_without}
use Rattle.beam_model.specs.Flow.{flow}
use Rattle.beam_model.specs.Holds.{HeldTimer, timer_after}
use Rattle.beam_model.specs.Plain.{IsPlainRun, ArePlainlyWritten}
use Rattle.beam_model.specs.Plans.{node, default_trigger, panes_plan}
use Rattle.beam_model.specs.Positions.{SourceItem, items, emission, nothing}
use Rattle.beam_model.specs.Spread.{from_source, spread_all}
use Rattle.beam_model.specs.Values.{null, int, blob}
use Rattle.beam_model.proofs.Agreement.{pane_fits}

-- what a run of a plan came to, where it has nothing but these
abbrev outcome : Plan → List FileLen → List Done → List Dropped → List KeyLog → List Arrival → Outcome
outcome plan files done dropped logs written = record {
  plan = plan;
  files = files;
  done = done;
  dead = [];
  cells = [];
  panes = [];
  dropped = dropped;
  logs = logs;
  written = written;
  commits = [];
  stopped = None;
}

-- ---- the account

-- a source of one number, a Group and a Write
abbrev counted : Plan
counted = record {
  version = 1;
  nodes = node (Source Count (Two 1 0) [] estimator.None) [] ∷ node (Group default_trigger) (0 ∷ []) ∷ node (Write (codes "out")) (1 ∷ []) ∷ [];
}

abbrev number : Element
number = from_source (record { value = int (pos 0); time = pos 0 })

-- what the Group took is given out as written
abbrev misplaced : Outcome
misplaced = outcome counted [] [] [] [] (record { node = 1; element = number } ∷ [])

-- as a bag, this is all that flows
misplaced_as_one_bag : IsSameBag (flow counted (items [] counted) [] []) (map Arrives (arrivals misplaced))
unfolding offsets
misplaced_as_one_bag = bag_from_same (flow counted (items [] counted) [] []) (map Arrives (arrivals misplaced)) refl

cells_taken_for_writes_are_refused : (items : List SourceItem) → IsAccounted items misplaced → ⊥
cells_taken_for_writes_are_refused items h = false≢true (h.written 0 (record { node = 1; element = number }) (omega arith))

-- a log at the Group: the element that it took, and the same element given out
abbrev group_log : KeyLog
group_log = record { node = 1; key = null; span = global_window; entries = record { input = Arrived number; commit = 1; outputs = number ∷ [] } ∷ [] }

-- the element that the log gives out is written
abbrev logged : Outcome
logged = outcome counted [] [] [] (group_log ∷ []) (record { node = 2; element = number } ∷ [])

-- as a bag, this is all that flows
logged_as_one_bag : IsSameBag (flow counted (items [] counted) [] (group_log ∷ [])) (map Arrives (arrivals logged))
unfolding offsets
logged_as_one_bag = bag_from_same (flow counted (items [] counted) [] (group_log ∷ [])) (map Arrives (arrivals logged)) refl

logs_at_a_group_are_refused : (items : List SourceItem) → IsAccounted items logged → ⊥
logs_at_a_group_are_refused items h = false≢true (h.logs 0 group_log (omega arith))

-- ---- what is written

no_stateful_node : (name : List ℕ) (size : ℤ) (node : ℕ) → is_stateful (panes_plan name size) node ≡ false
no_stateful_node name size zero = refl
no_stateful_node name size (suc zero) = refl
no_stateful_node name size (suc (suc zero)) = refl
no_stateful_node name size (suc (suc (suc zero))) = refl
no_stateful_node name size (suc (suc (suc (suc zero)))) = refl
no_stateful_node name size (suc (suc (suc (suc (suc node))))) = refl

abbrev all_dropped : List ℕ → ℤ → Element → Outcome
all_dropped name size e = outcome (panes_plan name size) [] [] (record { node = 3; element = e; commit = 1 } ∷ []) [] []

dropping_everything_is_refused : (items : List SourceItem) (name : List ℕ) (size : ℤ) (e : Element)
    → ArePlainlyWritten items (all_dropped name size e) → ⊥
dropping_everything_is_refused items name size e h =
    true≢false ((h 4 refl (λ upper above. no_stateful_node name size upper)).undropped 0 (record { node = 3; element = e; commit = 1 }) (omega arith))

-- the Group dropped all that it took
abbrev lost : Dropped
lost = record { node = 1; element = number; commit = 1 }

abbrev all_lost : Outcome
all_lost = outcome counted [] [] (lost ∷ []) [] []

-- the account admits this outcome, so that it is the plain grouping alone that refuses it
everything_dropped_is_accounted : IsAccounted (items [] counted) all_lost
unfolding offsets
everything_dropped_is_accounted = record {
  cells = All-nil (λ (cell : Cell). is_group counted cell.node ≡ true);
  dropped = All-cons (λ (dropped : Dropped). is_group counted dropped.node ≡ true) lost [] refl (All-nil (λ (dropped : Dropped). is_group counted dropped.node ≡ true));
  panes = All-nil (λ (pane : Pane). is_group counted pane.node ≡ true);
  logs = All-nil (λ (log : KeyLog). is_stateful counted log.node ≡ true);
  written = All-nil (λ (arrival : Arrival). is_write counted arrival.node ≡ true);
  flow = bag_from_same (flow counted (items [] counted) [] []) (map Arrives (arrivals all_lost)) refl;
}

no_stateful_counted : (node : ℕ) → is_stateful counted node ≡ false
no_stateful_counted zero = refl
no_stateful_counted (suc zero) = refl
no_stateful_counted (suc (suc zero)) = refl
no_stateful_counted (suc (suc (suc node))) = refl

everything_dropped_is_refused : ArePlainlyWritten (items [] counted) all_lost → ⊥
everything_dropped_is_refused h = true≢false ((h 2 refl (λ upper above. no_stateful_counted upper)).undropped 0 lost (omega arith))

-- 7 less 2 ^ 64 is spelled as 7 is, but no program can hold it
abbrev beyond : ℤ
beyond = negsuc 18446744073709551608

spelled : (n : ℤ) → spelling (int n) ≡ 1 ∷ varint (two's_complement n)
spelled n = ap spelling (rolls-Int n) ∙ spelling-Int n

spelled_as_seven : spelling (int beyond) ≡ spelling (int (pos 7))
spelled_as_seven =
    let bits : two's_complement beyond ≡ 7 = refl in
    spelled beyond ∙ ap (λ (n : ℕ). 1 ∷ varint n) bits ∙ sym (spelled (pos 7))

beyond_is_refused : IsStorable (int beyond) → ⊥
beyond_is_refused fits =
    let held : FitsSigned w64 beyond = fits-Int beyond (subst IsStorable (rolls-Int beyond) fits) in
    absurd (omega (arith, ints))

keys_beyond_64_bits_are_refused : (plan : Plan) (items : List SourceItem) (barrier node : ℕ) (span : Interval) (parts : List Value) (arrivals more : List Arrival)
    → IsPlainRun plan items barrier arrivals (record { node = node; element = pane_with (int beyond) span parts } ∷ more) → ⊥
keys_beyond_64_bits_are_refused plan items barrier node span parts arrivals more run =
    let pane : Element = pane_with (int beyond) span parts in
    let fits = pane_fits pane (int beyond) span parts refl (run.storable 0 (record { node = node; element = pane }) (omega arith)) in
    beyond_is_refused fits.0

numbers_beyond_64_bits_are_refused : (plan : Plan) (items : List SourceItem) (barrier node : ℕ) (span : Interval) (arrivals more : List Arrival)
    → IsPlainRun plan items barrier arrivals (record { node = node; element = pane_with (blob (codes "a")) span (int beyond ∷ []) } ∷ more) → ⊥
numbers_beyond_64_bits_are_refused plan items barrier node span arrivals more run =
    let pane : Element = pane_with (blob (codes "a")) span (int beyond ∷ []) in
    let fits = pane_fits pane (blob (codes "a")) span (int beyond ∷ []) refl (run.storable 0 (record { node = node; element = pane }) (omega arith)) in
    beyond_is_refused fits.1.0

-- ---- covers

abbrev item : FileLen
item = record { node = 0; item = 0; len = 1 }

abbrev range : Done
range = record { node = 0; item = 0; range = record { from = 0; to = 1 } }

-- an item that is listed twice is covered by one range of it, and not by two
an_item_listed_twice_is_covered_once : IsCovered (outcome counted (item ∷ item ∷ []) (range ∷ []) [] [] [])
an_item_listed_twice_is_covered_once place =
    by_test (0 == place.node && 0 == place.item) (times_in (record { from = 0; to = 1 }) place.offset) (held_once place.offset)
  where
    held_once : (p : ℕ) → times_in (record { from = 0; to = 1 }) p < 2
    held_once p = grind (arith, nat_tests)

    by_test : (own : Bool) (times : ℕ) → times < 2 → (0 + cond own times 0) + 0 ≡ min 1 ((0 + cond own times 0) + cond own times 0)
    by_test true times once = omega arith
    by_test false times once = omega arith

an_item_listed_twice_is_not_covered_twice : IsCovered (outcome counted (item ∷ item ∷ []) (range ∷ range ∷ []) [] [] []) → ⊥
an_item_listed_twice_is_not_covered_twice h =
    let twice : ◌≡◌ {A = ℕ} 2 1 = h (record { node = 0; item = 0; offset = 0 }) in
    absurd (omega arith)

-- an item of three positions, the second of which was set aside
abbrev dead_at : ℕ → Dead
dead_at position = record { node = 0; item = 0; at = position; note = record { node = 0; item = 0; at = 0; attempt = 3; cause = Call } }

abbrev part : ℕ → ℕ → Done
part from to = record { node = 0; item = 0; range = record { from = from; to = to } }

abbrev set_aside : List Done → List Dead → Outcome
set_aside done dead = record (outcome counted (record { node = 0; item = 0; len = 3 } ∷ []) done [] [] []) { dead = dead }

a_dead_position_and_the_ranges_beside_it_cover_an_item : IsCovered (set_aside (part 0 1 ∷ part 2 3 ∷ []) (dead_at 1 ∷ []))
a_dead_position_and_the_ranges_beside_it_cover_an_item place =
    by_test (0 == place.node && 0 == place.item)
    (times_in (record { from = 0; to = 1 }) place.offset) (times_in (record { from = 2; to = 3 }) place.offset) (times_in (record { from = 1; to = 2 }) place.offset)
    (times_in (record { from = 0; to = 3 }) place.offset) (once place.offset) (one place.offset)
  where
    once : (p : ℕ) → times_in (record { from = 0; to = 1 }) p + times_in (record { from = 2; to = 3 }) p + times_in (record { from = 1; to = 2 }) p
        ≡ times_in (record { from = 0; to = 3 }) p
    once p = grind (arith, nat_tests)

    one : (p : ℕ) → times_in (record { from = 0; to = 3 }) p < 2
    one p = grind (arith, nat_tests)

    by_test : (own : Bool) (first last dead whole : ℕ) → first + last + dead ≡ whole → whole < 2
        → ((0 + cond own first 0) + cond own last 0) + (0 + cond own dead 0) ≡ min 1 (0 + cond own whole 0)
    by_test true first last dead whole sum one = omega (arith, sum, one)
    by_test false first last dead whole sum one = omega arith

-- a dead position that is committed too is no cover, and neither is one that is dead twice
a_dead_position_that_is_committed_is_refused : IsCovered (set_aside (part 0 3 ∷ []) (dead_at 1 ∷ [])) → ⊥
a_dead_position_that_is_committed_is_refused h =
    let twice : ◌≡◌ {A = ℕ} 2 1 = h (record { node = 0; item = 0; offset = 1 }) in
    absurd (omega arith)

a_position_that_is_dead_twice_is_refused : IsCovered (set_aside (part 0 1 ∷ part 2 3 ∷ []) (dead_at 1 ∷ dead_at 1 ∷ [])) → ⊥
a_position_that_is_dead_twice_is_refused h =
    let twice : ◌≡◌ {A = ℕ} 2 1 = h (record { node = 0; item = 0; offset = 1 }) in
    absurd (omega arith)

-- what such an item brings has nothing of the position that was set aside
abbrev three : SourceItem
three = record { node = 0; item = 0; work = Count; args = Two 3 0; file = []; left_out = [] }

a_dead_position_brings_nothing : spread_all counted (items_without (dead_at 1 ∷ []) (three ∷ []))
    ≡ Arrives (record { node = 1; element = from_source (record { value = int (pos 0); time = pos 0 }) })
    ∷ Arrives (record { node = 1; element = from_source (record { value = int (pos 2); time = pos 0 }) }) ∷ []
unfolding offsets
a_dead_position_brings_nothing = refl

-- ---- timers and their holds, after a commit

abbrev timer : ℤ → ℤ → HeldTimer
timer time hold = record { time = time; hold = hold }

a_timer_holds_at_the_mark : timer_after (pos 2000) None (Some (pos 1500)) ≡ Some (timer (pos 1500) (pos 2000))
a_timer_holds_at_the_mark = refl

a_timer_that_stays_keeps_its_hold : timer_after (pos 3000) (Some (timer (pos 1500) (pos 2000))) (Some (pos 1500)) ≡ Some (timer (pos 1500) (pos 2000))
a_timer_that_stays_keeps_its_hold = refl

a_timer_that_is_set_anew_holds_anew : timer_after (pos 3000) (Some (timer (pos 1500) (pos 2000))) (Some (pos 4000)) ≡ Some (timer (pos 4000) (pos 4000))
a_timer_that_is_set_anew_holds_anew = refl

a_timer_that_is_cleared_holds_nothing : timer_after (pos 3000) (Some (timer (pos 1500) (pos 2000))) None ≡ None
a_timer_that_is_cleared_holds_nothing = refl

-- ---- the end of an item

nothing_is_emitted_at_the_end_of_an_empty_file : emission TimedLines Nothing [] 0 ≡ nothing
nothing_is_emitted_at_the_end_of_an_empty_file = refl

nothing_is_emitted_after_the_last_line_feed : emission Lines Nothing (codes "a\n") 2 ≡ nothing
nothing_is_emitted_after_the_last_line_feed = refl

nothing_is_counted_past_the_last_number : emission Count (Two 3 1000) [] 3 ≡ nothing
nothing_is_counted_past_the_last_number = refl

nothing_is_made_past_the_last_line : emission Made (Two 3 7) [] 3 ≡ nothing
nothing_is_made_past_the_last_line = refl
