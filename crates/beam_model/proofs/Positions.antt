-- Positions of a source: nothing is emitted between one and the next or at the end, the next lies above, and what a range brings goes from one to
-- the next.
use Rattle.std.proofs.Common.{◌≡◌, inl, inr, ℕ, ◌<◌, ◌≤◌, nat_lt, Bool, true, false, cond, List, [], ◌++◌, refl, sym, ap, ◌∙◌, arith}
use Rattle.std.proofs.lemmas.Bool.{cases_lt, cond-false, le-ltb}
use Rattle.beam_values.specs.Functions.{timed_line}
use Rattle.beam_values.specs.Lines.{starts_line, line_at}
use Rattle.beam_values.specs.Times.{least_time}
use Rattle.beam_values.specs.declared.plan.Args.{Args}
use Rattle.beam_values.specs.declared.plan.Plan.{Plan}
use Rattle.beam_values.specs.declared.plan.SourceKind.{SourceKind}
use Rattle.beam_values.specs.declared.plan.SourceKind.TheVariants.{Lines, TimedLines, Count, Made}
use Rattle.beam_values.proofs.Spreads.{starts_line-between, next_start-above, spread-step, spread-nothing}
use Rattle.beam_model.specs.Positions.{Emission, nothing, emits_one, line_emission, positions_in, emission_within, emission, next_position, SourceItem, len_of}
use Rattle.beam_model.specs.Spread.{is_left_out, emission_outputs, outputs_at, spread_range}
use Rattle.beam_model.specs.Values.{blob}

pub past_nothing : (kind : SourceKind) (args : Args) (file : List ℕ) (p : ℕ) → positions_in kind args file ≤ p → emission kind args file p ≡ nothing
past_nothing kind args file p past =
    cond-false (nat_lt p (positions_in kind args file)) (emission_within kind args file p) nothing (le-ltb p (positions_in kind args file) past)

within_nothing : (kind : SourceKind) (args : Args) (file : List ℕ) (p q : ℕ) → p < q → q < next_position kind file p → emission_within kind args file q ≡ nothing
within_nothing Lines args file p q above below =
    cond-false (starts_line file q) (emits_one (blob (line_at file q)) least_time) nothing (starts_line-between file p q above below)
within_nothing TimedLines args file p q above below =
    cond-false (starts_line file q) (line_emission (timed_line (line_at file q))) nothing (starts_line-between file p q above below)
within_nothing Count args file p q above below = absurd (omega arith)
within_nothing Made args file p q above below = absurd (omega arith)

pub between_nothing : (kind : SourceKind) (args : Args) (file : List ℕ) (p q : ℕ) → p < q → q < next_position kind file p → emission kind args file q ≡ nothing
between_nothing kind args file p q above below =
    by_test (nat_lt q (positions_in kind args file)) (emission_within kind args file q) (within_nothing kind args file p q above below)
  where
    by_test : (inside : Bool) (emitted : Emission) → emitted ≡ nothing → cond inside emitted nothing ≡ nothing
    by_test true emitted none = none
    by_test false emitted none = refl

pub next_rises : (kind : SourceKind) (args : Args) (file : List ℕ) (p : ℕ) → p < positions_in kind args file
    → (p < next_position kind file p) × (next_position kind file p ≤ positions_in kind args file)
next_rises Lines args file p inside = (next_start-above file p inside, omega arith)
next_rises TimedLines args file p inside = (next_start-above file p inside, omega arith)
next_rises Count args file p inside = (omega arith, omega arith)
next_rises Made args file p inside = (omega arith, omega arith)

-- from the end of an item on no step leads back
next_past : (kind : SourceKind) (args : Args) (file : List ℕ) (p : ℕ) → positions_in kind args file ≤ p → positions_in kind args file ≤ next_position kind file p
next_past Lines args file p past = omega arith
next_past TimedLines args file p past = omega arith
next_past Count args file p past = omega arith
next_past Made args file p past = omega arith

-- a position that emits nothing brings nothing
nothing_at : (plan : Plan) (item : SourceItem) (p : ℕ) → emission item.work item.args item.file p ≡ nothing → outputs_at plan item p ≡ []
nothing_at plan item p none =
    ap (λ (emitted : Emission). cond (is_left_out item p) [] (emission_outputs plan item.node emitted)) none ∙ by_test (is_left_out item p)
  where
    by_test : (left_out : Bool) → cond left_out [] (emission_outputs plan item.node nothing) ≡ []
    by_test true = refl
    by_test false = refl

pub spread_steps : (plan : Plan) (item : SourceItem) (p to : ℕ) → p < to
    → spread_range plan item p to ≡ outputs_at plan item p ++ spread_range plan item (next_position item.work item.file p) to
spread_steps plan item p to before =
    elim (cases_lt p (len_of item)) [
      | inl inside ↦
          spread-step (outputs_at plan item) p next to before (next_rises item.work item.args item.file p inside).0
          (λ q above below. nothing_at plan item q (between_nothing item.work item.args item.file p q above below))
      | inr past ↦
          spread-nothing (outputs_at plan item) p to (λ q low high. past_gives q (omega arith))
          ∙ sym
          (ap (λ outputs. outputs ++ spread_range plan item next to) (past_gives p past)
          ∙ spread-nothing (outputs_at plan item) next to (λ q low high. past_gives q (omega (arith, next_past item.work item.args item.file p past))))
    ]
  where
    next : ℕ
    next = next_position item.work item.file p

    past_gives : (q : ℕ) → len_of item ≤ q → outputs_at plan item q ≡ []
    past_gives q beyond = nothing_at plan item q (past_nothing item.work item.args item.file q beyond)
