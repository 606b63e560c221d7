-- What was staged before stays in front, and so what is staged can be taken back.
use Rattle.std.proofs.Common.{◌≡◌, ℕ, ◌≤◌, List, length, take, Option, sym, ap, ◌∙◌, arith}
use Rattle.std.specs.Prelude.{ℤ}
use Rattle.std.proofs.lemmas.List.{length-take, take-take}
use Rattle.beam_values.specs.declared.arrival.Arrival.{Arrival}
use Rattle.bundle_commit.specs.declared.job.Logged.{Logged}
use Rattle.bundle_commit.specs.declared.job.Receipt.{Receipt}

-- what is in front of what is in front is in front
pub front_after : (first second third : List Arrival) → take (length first) second ≡ first → take (length second) third ≡ second → take (length first) third ≡ first
front_after first second third here there =
    let fits : length first ≤ length second = omega (arith, ap length here, length-take (length first) second) in
    sym (take-take (length first) (length second) third fits) ∙ ap (take (length first)) there ∙ here

-- After a look of the estimator and more arrivals, the first arrivals and what was seen before are the receipt of before.
pub taken_back : (old observed sent back : Receipt) (count : ℕ) (seen looked : ℤ) → count ≡ length old.arrivals → seen ≡ old.seen
    → observed ≡ record old { seen = looked } → sent ≡ record observed { arrivals = sent.arrivals }
    → take (length observed.arrivals) sent.arrivals ≡ observed.arrivals
    → back ≡ record sent { arrivals = take count sent.arrivals; seen = seen } → back ≡ old
taken_back old observed sent back count seen looked counted saw noted only front is =
    let logged : sent.logged ≡ old.logged = ap (λ (r : Receipt). r.logged) only ∙ ap (λ (r : Receipt). r.logged) noted in
    let same : observed.arrivals ≡ old.arrivals = ap (λ (r : Receipt). r.arrivals) noted in
    let kept : take count sent.arrivals ≡ old.arrivals = cc in
    is
    ∙ ap (λ (l : List Arrival). record sent { arrivals = l; seen = seen }) kept
    ∙ ap (λ (s : ℤ). record sent { arrivals = old.arrivals; seen = s }) saw
    ∙ ap (λ (l : Option Logged). record old { logged = l }) logged
