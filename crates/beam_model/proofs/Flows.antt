-- Sums over runs: how often ranges hold a place, and what a flow has more with more panes, items or logs.
use Rattle.std.proofs.Common.{◌≡◌, ℕ, ◌+◌, ◌≤◌, Bool, true, false, ◌&&◌, ◌==◌, cond, List, ◌++◌, [], ◌∷◌, arith}
use Rattle.std.specs.List.{flat_map}
use Rattle.std.proofs.lemmas.Grind.{flat_map-append}
use Rattle.std.proofs.lemmas.List.Sums.{sum_by-append}
use Rattle.std.proofs.lemmas.Bool.Decides.{nat_tests}
use Rattle.beam_values.specs.Bags.{IsSameBag}
use Rattle.beam_values.specs.Cover.{Place, times_done}
use Rattle.beam_values.specs.Intervals.{times_in}
use Rattle.beam_values.specs.declared.log.KeyLog.{KeyLog}
use Rattle.beam_values.specs.declared.cell.Pane.{Pane}
use Rattle.beam_values.specs.declared.plan.Plan.{Plan}
use Rattle.beam_model.specs.Chains.{chain}
use Rattle.beam_model.specs.Flow.{pane_chains, log_chains, flow}
use Rattle.beam_model.specs.Premises.{done_range}
use Rattle.beam_model.specs.Positions.{SourceItem, len_of}
use Rattle.beam_model.specs.Spread.{spread_range, spread_all}

pub times_in-cut : (from middle to offset : ℕ) → from ≤ middle → middle ≤ to
    → times_in (record { from = from; to = to }) offset ≡ times_in (record { from = from; to = middle }) offset + times_in (record { from = middle; to = to }) offset
times_in-cut from middle to offset low high = grind (arith, nat_tests)

-- a range holds a place once or not at all, and only of its own item
at_item : (here : Bool) (whole first second : ℕ) → whole ≡ first + second → cond here whole 0 ≡ cond here first 0 + cond here second 0
at_item true whole first second e = e
at_item false whole first second e = omega arith

pub times_done-cut : (node item from middle to : ℕ) (place : Place) → from ≤ middle → middle ≤ to
    → times_done (done_range node item from to ∷ []) place ≡ times_done (done_range node item from middle ∷ done_range node item middle to ∷ []) place
times_done-cut node item from middle to place low high =
    let cut = at_item (node == place.node && item == place.item) _ _ _ (times_in-cut from middle to place.offset low high) in
    omega arith

-- what is added to one of three lists stands, as a bag, behind all of them
module _ {X : Type 0} (xs ys zs more : List X) where
  added_first : IsSameBag ((xs ++ more) ++ (ys ++ zs)) ((xs ++ (ys ++ zs)) ++ more)
  added_first = record {
    weighs = λ w. omega (arith, sum_by-append w (xs ++ more) (ys ++ zs), sum_by-append w xs more, sum_by-append w (xs ++ (ys ++ zs)) more, sum_by-append w xs (ys ++ zs));
  }

  added_second : IsSameBag (xs ++ ((ys ++ more) ++ zs)) ((xs ++ (ys ++ zs)) ++ more)
  added_second = record {
    weighs = λ w.
        omega (arith, sum_by-append w xs ((ys ++ more) ++ zs), sum_by-append w (ys ++ more) zs, sum_by-append w ys more, sum_by-append w (xs ++ (ys ++ zs)) more, sum_by-append w xs (ys ++ zs), sum_by-append w ys zs);
  }

  added_third : IsSameBag (xs ++ (ys ++ (zs ++ more))) ((xs ++ (ys ++ zs)) ++ more)
  added_third = record {
    weighs = λ w.
        omega (arith, sum_by-append w xs (ys ++ (zs ++ more)), sum_by-append w ys (zs ++ more), sum_by-append w zs more, sum_by-append w (xs ++ (ys ++ zs)) more, sum_by-append w xs (ys ++ zs), sum_by-append w ys zs);
  }

pub flow-panes : (plan : Plan) (items : List SourceItem) (panes more : List Pane) (logs : List KeyLog)
    → IsSameBag (flow plan items (panes ++ more) logs) (flow plan items panes logs ++ pane_chains plan more)
flow-panes plan items panes more logs =
    rw (flat_map-append (λ (pane : Pane). chain plan pane.node pane.element) panes more)
    (added_second (spread_all plan items) (pane_chains plan panes) (log_chains plan logs) (pane_chains plan more))

pub flow-items : (plan : Plan) (items more : List SourceItem) (panes : List Pane) (logs : List KeyLog)
    → IsSameBag (flow plan (items ++ more) panes logs) (flow plan items panes logs ++ spread_all plan more)
flow-items plan items more panes logs =
    rw (flat_map-append (λ (item : SourceItem). spread_range plan item 0 (len_of item)) items more)
    (added_first (spread_all plan items) (pane_chains plan panes) (log_chains plan logs) (spread_all plan more))

pub flow-logs : (plan : Plan) (items : List SourceItem) (panes : List Pane) (logs more : List KeyLog)
    → IsSameBag (flow plan items panes (logs ++ more)) (flow plan items panes logs ++ log_chains plan more)
flow-logs plan items panes logs more =
    rw (flat_map-append (λ (log : KeyLog). flat_map (λ entry. flat_map (chain plan log.node) entry.outputs) log.entries) logs more)
    (added_third (spread_all plan items) (pane_chains plan panes) (log_chains plan logs) (log_chains plan more))
