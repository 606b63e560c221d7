-- Stretches of positions that are worked, one after another, and what is left of one that ends past the end of the range.
use Rattle.std.proofs.Common.{◌≡◌, inl, inr, Bool, true, false, cond, ℕ, ◌+◌, ◌<◌, ◌≤◌, ℤ, List, [], ◌∷◌, ◌++◌, length, map, take, refl, sym, ap, subst, ◌∙◌, append_assoc, arith}
use Rattle.std.specs.Prelude.{Option, Some, None, nat_le, nat_lt}
use Rattle.std.specs.List.{All}
use Rattle.std.proofs.Math.Seq.{take-append_seam}
use Rattle.std.proofs.lemmas.Bool.{cases_lt}
use Rattle.std.proofs.lemmas.Bool.Decides.{nat_tests}
use Rattle.std.proofs.lemmas.List.{append-nil}
use Rattle.beam_values.specs.Tracking.{first_unattempted}
use Rattle.beam_values.specs.declared.arrival.Arrival.{Arrival}
use Rattle.beam_values.specs.declared.piece.Piece.{Piece}
use Rattle.beam_values.specs.declared.plan.Plan.{Plan}
use Rattle.beam_values.specs.declared.plan.SourceKind.{SourceKind}
use Rattle.beam_model.specs.Chains.{Output, Arrives}
use Rattle.beam_model.specs.Positions.{Emission}
use Rattle.beam_model.specs.Spread.{emission_outputs}
use Rattle.beam_ports.specs.Files.{Opening}
use Rattle.book_core.specs.Changes.{cut_to}
use Rattle.book_core.specs.Work.{IsPlausible, IsWorkOn, worked_to}
use Rattle.bundle_commit.specs.declared.job.Receipt.{Receipt}
use Rattle.chain_exec.specs.Causes.{ObservedShelf}
use Rattle.chain_exec.specs.Positions.{IsTimely, StoreCounts}
use Rattle.chain_exec.specs.Sources.{IsText, SourceWork, source_at}
use Rattle.chain_exec.specs.declared.position.Step.{Step}
use Rattle.chain_exec.specs.declared.refusal.ExecRefusal.{ExecRefusal}
use Rattle.known_jobs.specs.Calls.{AfterClaim, EndsAt}
use Rattle.known_jobs.specs.Jobs.{KnownJob}
use Rattle.bundle_work.specs.Bundles.{HasClaimed, HasClaimedTo, HasWorked, IsFit, IsPieceRefused, IsPieceWorked, IsRefusedAt, item_of}
use Rattle.bundle_work.specs.Stretches.{CanClaimFrom, Grows, IsAllClaimed, IsCutAt, IsLatest, IsStretchDone, IsStretchRefused, IsTrail, IsWorkedOver, IsWorkedTo, attempted_of, first_open}
use Rattle.bundle_work.specs.Trails.{back_to, cut_back}
use Rattle.bundle_work.specs.declared.bench.Progress.{Progress}
use Rattle.bundle_work.specs.declared.bench.Stretch.{Stretch}
use Rattle.bundle_work.specs.declared.bench.Stretch.TheVariants.{Claimed, Cut}
use Rattle.bundle_work.specs.declared.trail.Before.{Before}
use Rattle.bundle_work.proofs.Claiming.{IsClaimOf, can_later, claim_made}
use Rattle.bundle_work.proofs.PieceWork.{fit_more, fit_none, fit_plausible, staged_all, staged_none, staged_one, staged_then}

-- ---- what a receipt has grown by

le_true : (m n : ℕ) → nat_le m n ≡ true → m ≤ n
le_true m n is = grind (arith, nat_tests)

le_false : (m n : ℕ) → nat_le m n ≡ false → n < m
le_false m n is = grind (arith, nat_tests)

grows_none : (receipt : Receipt) → Grows receipt receipt
grows_none receipt = record { more = []; arrivals = sym (append-nil receipt.arrivals); logged = refl }

grows_then : (old mid new : Receipt) → Grows old mid → Grows mid new → Grows old new
grows_then old mid new front back = record {
  more = front.more ++ back.more;
  arrivals = back.arrivals ∙ ap (λ (t : List Arrival). t ++ back.more) front.arrivals ∙ append_assoc old.arrivals front.more back.more;
  logged = back.logged ∙ front.logged;
}

arrives_behind : (xs ys : List Arrival) (outs : List Output) → map Arrives ys ≡ map Arrives xs ++ outs → (more : List Arrival) × (ys ≡ xs ++ more)
arrives_behind [] ys outs is = (ys, refl)
arrives_behind (x ∷ xs) [] outs is = absurd (cc)
arrives_behind (x ∷ xs) (y ∷ ys) outs is =
    let head : y ≡ x = cc in
    let tail : map Arrives ys ≡ map Arrives xs ++ outs = cc in
    let rest = arrives_behind xs ys outs tail in
    (rest.0, ap (λ (l : List Arrival). y ∷ l) rest.1 ∙ ap (λ (z : Arrival). z ∷ (xs ++ rest.0)) head)

-- what it has grown by is dropped again
put_back_is : (old new : Receipt) (count : ℕ) (seen : ℤ) → count ≡ length old.arrivals → seen ≡ old.seen → Grows old new → record new { arrivals = take count new.arrivals; seen = seen } ≡ old
put_back_is old new count seen counted saw grows =
    let front : take count new.arrivals ≡ old.arrivals =
    ap (λ (n : ℕ). take n new.arrivals) counted ∙ ap (λ (l : List Arrival). take (length old.arrivals) l) grows.arrivals ∙ take-append_seam old.arrivals grows.more in
    λ k. record { arrivals = front k; seen = saw k; logged = grows.logged k }

module _ (plan : Plan) (piece : Piece) where
  module _ (opening : Option Opening) (len : ℕ) where
    -- ---- what was worked

    pub over_none : (p : ℕ) (receipt : Receipt) → IsWorkedOver plan opening len piece p p p receipt receipt
    over_none p receipt = record {
      first = omega arith;
      ordered = omega arith;
      told = λ source is text told. staged_none plan piece source text p receipt;
      fit = λ fit. fit;
      grows = grows_none receipt;
    }

    over_one : (p : ℕ) (old new : Receipt) (step : Step) → HasWorked plan piece.node opening len p old new step → p < step.next
        → ((emitted : Emission) → IsTimely emitted → All (IsFit plan piece.node) (emission_outputs plan piece.node emitted)) → IsWorkedOver plan opening len piece p (p + 1) step.next old new
    over_one p old new step has rises fits =
        let behind = arrives_behind old.arrivals new.arrivals (emission_outputs plan piece.node has.emitted) has.worked.arrivals in
        record {
          first = omega arith;
          ordered = omega arith;
          told = λ source is text told.
              let emits = has.told source is text told in
              staged_one plan piece source text p step.next old new has.emitted step has.worked emits.0 emits.1;
          fit = λ fit. fit_more plan piece old new has.emitted step fit has.worked (fits has.emitted has.worked.timely);
          grows = record { more = behind.0; arrivals = behind.1; logged = has.worked.logged };
        }

    over_then : (p upto middle after next : ℕ) (old mid new : Receipt) → IsWorkedOver plan opening len piece p upto middle old mid → IsWorkedOver plan opening len piece middle after next mid new
        → IsWorkedOver plan opening len piece p after next old new
    over_then p upto middle after next old mid new front back = record {
      first = omega (arith, front.first, front.ordered, back.first);
      ordered = back.ordered;
      told = λ source is text told. staged_then plan piece source text p upto middle after next old mid new front.first front.ordered back.first (front.told source is text told) (back.told source is text told);
      fit = λ fit. back.fit (front.fit fit);
      grows = grows_then old mid new front.grows back.grows;
    }

    -- what is worked of the piece is so of the piece as it is now
    work_cut : (now : Piece) (to : ℕ) (source : SourceWork) (text : List ℕ) (receipt : Receipt) → now ≡ cut_to piece (record { from = piece.range.from; to = now.range.to })
        → IsWorkOn plan piece to (item_of piece source text) receipt → IsWorkOn plan now to (item_of now source text) receipt
    work_cut now to source text receipt same work =
        subst (λ (x : Piece). IsWorkOn plan x to (item_of x source text) receipt) (sym same) (record { arrivals = work.arrivals; seen = work.seen })

    plausible_cut : (now : Piece) (receipt : Receipt) → now ≡ cut_to piece (record { from = piece.range.from; to = now.range.to }) → IsPlausible plan piece receipt → IsPlausible plan now receipt
    plausible_cut now receipt same is =
        subst (λ (x : Piece). IsPlausible plan x receipt) (sym same)
        (record { at_barriers = is.at_barriers; gaps = is.gaps; ends = is.ends; times = is.times; seen = is.seen; seen_time = is.seen_time })

    -- of the piece as it is now, up to the last attempted position
    pub over_all : (upto next : ℕ) (old new : Receipt) → old ≡ record { arrivals = []; seen = piece.seen; logged = None } → IsWorkedOver plan opening len piece piece.range.from upto next old new
        → (now : Piece) (attempted : Option ℕ) → now ≡ cut_to piece (record { from = piece.range.from; to = now.range.to }) → upto ≤ worked_to now attempted → worked_to now attempted ≤ next
        → IsPieceWorked plan opening len now attempted new
    over_all upto next old new empty over now attempted same low high =
        let fit = over.fit (fit_none plan piece old empty) in
        record {
          told = λ source is text told.
              work_cut now (worked_to now attempted) source text new same
              (staged_all plan piece source text upto next (worked_to now attempted) old new empty over.first low high
              (over.told source (ap (source_at plan) (sym (ap (λ (x : Piece). x.node) same)) ∙ is) text told));
          plausible = λ time. plausible_cut now new same (fit_plausible plan piece new fit time);
          logged = fit.logged;
        }

    -- ---- positions that were worked ahead

    pub trail_low : (p next : ℕ) (old now : Receipt) (trail : List Before) → IsTrail plan opening len piece p old next now trail → p ≤ next
    trail_low p next old now [] is = omega (arith, is.0)
    trail_low p next old now (before ∷ earlier) is = omega (arith, trail_low p before.p old (back_to before now) earlier is.1, is.0.ordered)

    -- the first one of the stretch is the next
    pub trail_none : (p : ℕ) (old : Receipt) (trail : List Before) → trail ≡ [] → IsTrail plan opening len piece p old p old trail
    trail_none p old trail is = subst (λ (t : List Before). IsTrail plan opening len piece p old p old t) (sym is) (refl, refl)

    -- one more was worked
    pub trail_more : (p at next : ℕ) (old now new : Receipt) (trail later : List Before) (step : Step) → IsTrail plan opening len piece p old at now trail → HasWorked plan piece.node opening len at now new step
        → at < step.next → ((emitted : Emission) → IsTimely emitted → All (IsFit plan piece.node) (emission_outputs plan piece.node emitted))
        → later ≡ record { p = at; count = length now.arrivals; seen = now.seen } ∷ trail → next ≡ step.next → IsTrail plan opening len piece p old next new later × IsLatest at later
    trail_more p at next old now new trail later step is has rises fits noted onward =
        let before : Before = record { p = at; count = length now.arrivals; seen = now.seen } in
        let over = over_one at now new step has rises fits in
        let back : back_to before new ≡ now = put_back_is now new (length now.arrivals) now.seen refl refl over.grows in
        subst (λ (t : List Before). IsTrail plan opening len piece p old next new t × IsLatest at t) (sym noted) (
          (
            subst (λ (n : ℕ). IsWorkedOver plan opening len piece at (at + 1) n (back_to before new) new) (sym onward)
                (subst (λ (r : Receipt). IsWorkedOver plan opening len piece at (at + 1) step.next r new) (sym back) over),
            subst (λ (r : Receipt). IsTrail plan opening len piece p old at r trail) (sym back) is,
          ),
          refl,
        )

    -- so all are worked up to the latest
    trail_over : (p next : ℕ) (old now : Receipt) (before : Before) (earlier : List Before) → IsTrail plan opening len piece p old next now (before ∷ earlier)
        → IsWorkedOver plan opening len piece p (before.p + 1) next old now
    trail_over p next old now before [] is =
        subst (λ (q : ℕ). IsWorkedOver plan opening len piece q (before.p + 1) next old now) is.1.0
        (subst (λ (r : Receipt). IsWorkedOver plan opening len piece before.p (before.p + 1) next r now) is.1.1 is.0)
    trail_over p next old now before (other ∷ earlier) is =
        over_then p (other.p + 1) before.p (before.p + 1) next old (back_to before now) now (trail_over p before.p old (back_to before now) other earlier is.1) is.0

    pub latest_low : (p last next : ℕ) (old now : Receipt) (trail : List Before) → IsTrail plan opening len piece p old next now trail → IsLatest last trail → (p ≤ last) × (last < next)
    latest_low p last next old now [] is latest = absurd latest
    latest_low p last next old now (before ∷ earlier) is latest =
        (omega (arith, latest, trail_low p before.p old (back_to before now) earlier is.1), omega (arith, latest, is.0.ordered))

    latest_over : (p last next : ℕ) (old now : Receipt) (trail : List Before) → IsTrail plan opening len piece p old next now trail → IsLatest last trail
        → IsWorkedOver plan opening len piece p (last + 1) next old now
    latest_over p last next old now [] is latest = absurd latest
    latest_over p last next old now (before ∷ earlier) is latest =
        subst (λ (q : ℕ). IsWorkedOver plan opening len piece p (q + 1) next old now) latest (trail_over p next old now before earlier is)

    -- what is left of them where the range ends before the next one
    trail_cut : (p end next : ℕ) (old now : Receipt) (trail : List Before) → IsTrail plan opening len piece p old next now trail → end ≤ next
        → (end ≤ p → cut_back end now trail ≡ old) × (p < end → IsWorkedTo plan opening len piece p end old (cut_back end now trail))
    trail_cut p end next old now [] is past = (λ _. is.1, λ inside. absurd (omega (arith, is.0, past, inside)))
    trail_cut p end next old now (before ∷ earlier) is past =
        by (nat_le end before.p) refl (trail_cut p end before.p old (back_to before now) earlier is.1)
      where
        by : (cut : Bool) → nat_le end before.p ≡ cut
            → (end ≤ before.p → (end ≤ p → cut_back end (back_to before now) earlier ≡ old) × (p < end → IsWorkedTo plan opening len piece p end old (cut_back end (back_to before now) earlier)))
            → (end ≤ p → cond cut (cut_back end (back_to before now) earlier) now ≡ old)
            × (p < end → IsWorkedTo plan opening len piece p end old (cond cut (cut_back end (back_to before now) earlier) now))
        by true at further = further (le_true end before.p at)
        by false at further =
            let below = le_false end before.p at in
            let low = trail_low p before.p old (back_to before now) earlier is.1 in (
              λ out. absurd (omega (arith, below, low, out)),
              λ inside. record { upto = before.p + 1; next = next; inside = omega (arith, below); past = past; worked = trail_over p next old now before earlier is },
            )

    -- ---- what came of a stretch, once its last position is claimed

    module _ (p last end : ℕ) (before known : Option KnownJob) (can : CanClaimFrom piece before p) (made : AfterClaim before last (nat_lt last end) known) (ends : EndsAt known end) where
      -- all of them are
      pub stretch_claimed : (onward : Progress) (old now : Receipt) (trail : List Before) → IsTrail plan opening len piece p old onward.next now trail → IsLatest last trail → onward.end ≡ end → last < end
          → IsAllClaimed plan opening len piece p known onward old now
      stretch_claimed onward old now trail is latest same inside =
          let low = (latest_low p last onward.next old now trail is latest).0 in
          let claim = claim_made piece before last (nat_lt last end) end known (can_later piece before p last can low) made ends in
          record {
            now = claim.now;
            last = last;
            claimed = claim.claimed;
            ends = claim.ends ∙ sym same;
            first = low;
            inside = omega (arith, same, inside);
            worked = latest_over p last onward.next old now trail is latest;
          }

      cut_at : (next : ℕ) (old now : Receipt) (trail : List Before) → p ≤ last → IsTrail plan opening len piece p old next now trail → end ≤ next → end ≤ last
          → IsCutAt plan opening len piece p before known old (cut_back end now trail)
      cut_at next old now trail low is past out =
          let claim = claim_made piece before last (nat_lt last end) end known (can_later piece before p last can low) made ends in
          let cut = trail_cut p end next old now trail is past in
          record {
            now = claim.now;
            last = last;
            claimed = claim.claimed;
            past = omega (arith, claim.ends, out);
            behind = omega (arith, claim.ends, claim.behind);
            none = λ low. cut.0 (omega (arith, claim.ends, low));
            some = λ inside. subst (λ (e : ℕ). IsWorkedTo plan opening len piece p e old (cut_back end now trail)) (sym claim.ends) (cut.1 (omega (arith, claim.ends, inside)));
          }

      -- the range ends before the last of them
      pub stretch_cut : (next : ℕ) (old now new : Receipt) (trail : List Before) → IsTrail plan opening len piece p old next now trail → IsLatest last trail → end ≤ last → new ≡ cut_back end now trail
          → IsCutAt plan opening len piece p before known old new
      stretch_cut next old now new trail is latest out cut =
          let low = latest_low p last next old now trail is latest in
          subst (λ (r : Receipt). IsCutAt plan opening len piece p before known old r) (sym cut) (cut_at next old now trail low.0 is (omega (arith, low.1, out)) out)

      -- or before the one that was refused
      pub stretch_cut_first : (old now new : Receipt) (trail : List Before) → IsTrail plan opening len piece p old last now trail → end ≤ last → new ≡ cut_back end now trail
          → IsCutAt plan opening len piece p before known old new
      stretch_cut_first old now new trail is out cut =
          subst (λ (r : Receipt). IsCutAt plan opening len piece p before known old r) (sym cut) (cut_at last old now trail (trail_low p last old now trail is) is out out)

      pub stretch_refused : (old now : Receipt) (trail : List Before) (shelf : ObservedShelf) (store : StoreCounts) (refusal : ExecRefusal) → IsTrail plan opening len piece p old last now trail → last < end
          → IsRefusedAt shelf store plan piece.node opening len last refusal → IsStretchRefused shelf store plan opening len piece known refusal
      stretch_refused old now trail shelf store refusal is inside refused =
          let low = trail_low p last old now trail is in
          let claim = claim_made piece before last (nat_lt last end) end known (can_later piece before p last can low) made ends in
          let node : claim.now.node ≡ piece.node = ap (λ (x : Piece). x.node) claim.claimed.same in
          let from : claim.now.range.from ≡ piece.range.from = ap (λ (x : Piece). x.range.from) claim.claimed.same in
          record {
            now = claim.now;
            last = last;
            claimed = claim.claimed;
            refused = record {
              p = last;
              last = refl;
              from_start = omega (arith, from, can.start, low);
              inside = omega (arith, inside, claim.ends);
              refused = subst (λ (n : ℕ). IsRefusedAt shelf store plan n opening len last refusal) (sym node) refused;
            };
          }

    -- the first position of a piece is refused once it is claimed
    pub first_refused : (end : ℕ) (known : Option KnownJob) (shelf : ObservedShelf) (store : StoreCounts) (refusal : ExecRefusal) (claim : HasClaimedTo piece end known) → piece.range.from < end
        → IsRefusedAt shelf store plan piece.node opening len piece.range.from refusal → IsPieceRefused shelf store plan opening len claim.now (Some piece.range.from) refusal
    first_refused end known shelf store refusal claim inside refused =
        let node : claim.now.node ≡ piece.node = ap (λ (x : Piece). x.node) claim.claimed.same in
        let from : claim.now.range.from ≡ piece.range.from = ap (λ (x : Piece). x.range.from) claim.claimed.same in
        record {
          p = piece.range.from;
          last = refl;
          from_start = omega (arith, from);
          inside = omega (arith, inside, claim.ends);
          refused = subst (λ (n : ℕ). IsRefusedAt shelf store plan n opening len piece.range.from refusal) (sym node) refused;
        }

    -- ---- the work on a piece, so far

    -- all that is claimed is worked, and the range ends at `end` at most
    pub record IsUnderWay (known : Option KnownJob) (p end : ℕ) (start receipt : Receipt) : Type 0 where
      pub fresh : piece.spent ≡ None
      pub now : Piece
      pub last : ℕ
      pub claimed : HasClaimed piece now (Some last) known
      pub behind : last + 1 ≤ now.range.to
      pub ends : now.range.to ≤ end
      pub below : end ≤ piece.range.to
      pub worked : IsWorkedOver plan opening len piece piece.range.from (last + 1) p start receipt

    -- the first position is worked, and was claimed before
    pub under_first : (known : Option KnownJob) (p end : ℕ) (old new : Receipt) (step : Step) → HasClaimedTo piece end known → p ≡ piece.range.from → p < end
        → HasWorked plan piece.node opening len p old new step → p < step.next → ((emitted : Emission) → IsTimely emitted → All (IsFit plan piece.node) (emission_outputs plan piece.node emitted))
        → IsUnderWay known step.next end old new
    under_first known p end old new step claim at inside has rises fits = record {
      fresh = claim.fresh;
      now = claim.now;
      last = piece.range.from;
      claimed = claim.claimed;
      behind = omega (arith, at, inside, claim.ends);
      ends = omega (arith, claim.ends);
      below = omega (arith, claim.ends, claim.claimed.below);
      worked = subst (λ (q : ℕ). IsWorkedOver plan opening len piece q (q + 1) step.next old new) at (over_one p old new step has rises fits);
    }

    module _ (known : Option KnownJob) (p end : ℕ) (start receipt : Receipt) (under : IsUnderWay known p end start receipt) where
      pub last_is : Some under.last ≡ attempted_of known
      last_is = sym (ap attempted_of under.claimed.is)

      pub next_is : under.last + 1 ≡ first_open piece known
      next_is = ap (first_unattempted piece.range.from) last_is

      abbrev pub under_can : CanClaimFrom piece known p
      under_can = record {
        fresh = under.fresh;
        now = under.now;
        claimed = subst (λ (a : Option ℕ). HasClaimed piece under.now a known) last_is under.claimed;
        start = omega (arith, under.worked.first, under.worked.ordered);
        next = omega (arith, next_is, under.worked.ordered);
        within = omega (arith, next_is, under.behind);
      }

      -- and the next stretch
      pub under_more : (after : Option KnownJob) (onward : Progress) (new : Receipt) → IsAllClaimed plan opening len piece p after onward receipt new → IsUnderWay after onward.next onward.end start new
      under_more after onward new done = record {
        fresh = under.fresh;
        now = done.now;
        last = done.last;
        claimed = done.claimed;
        behind = omega (arith, done.ends, done.inside);
        ends = omega (arith, done.ends);
        below = omega (arith, done.ends, done.claimed.below);
        worked = over_then piece.range.from (under.last + 1) p (done.last + 1) onward.next start receipt new under.worked done.worked;
      }

      module _ (empty : start ≡ record { arrivals = []; seen = piece.seen; logged = None }) where
        -- the bundle is full
        pub under_done : IsPieceWorked plan opening len under.now (Some under.last) receipt
        under_done =
            over_all (under.last + 1) p start receipt empty under.worked under.now (Some under.last) under.claimed.same (omega (arith, under.behind)) (omega (arith, under.worked.ordered))

        -- the range is worked, of which one claim tells
        pub under_past : (end_now : ℕ) (after : Option KnownJob) (made : IsClaimOf piece under.now known p end_now after) → end ≤ p → IsPieceWorked plan opening len made.now (Some p) receipt
        under_past end_now after made past =
            over_all (under.last + 1) p start receipt empty under.worked made.now (Some p) made.claimed.same (omega (arith, next_is, made.ends, made.behind, under.worked.ordered))
            (omega (arith, made.ends, made.below, under.ends, past))

        -- others have taken the rest
        pub under_cut : (after : Option KnownJob) (new : Receipt) (cut : IsCutAt plan opening len piece p known after receipt new) → IsPieceWorked plan opening len cut.now (Some cut.last) new
        under_cut after new cut = elim (cases_lt p cut.now.range.to) [
          | inl inside ↦
              let some = cut.some inside in
              over_all some.upto some.next start new empty (over_then piece.range.from (under.last + 1) p some.upto some.next start receipt new under.worked some.worked) cut.now (Some cut.last)
              cut.claimed.same (omega (arith, cut.past, some.inside)) (omega (arith, some.past))
          | inr past ↦
              over_all (under.last + 1) p start new empty
              (subst (λ (r : Receipt). IsWorkedOver plan opening len piece piece.range.from (under.last + 1) p start r) (sym (cut.none past)) under.worked) cut.now (Some cut.last) cut.claimed.same
              (omega (arith, next_is, cut.past, cut.behind)) (omega (arith, past))
        ]

  -- ---- what was worked later, seen from the start of the work

  module _ (opening later : Option Opening) (len length_now : ℕ) (texts : (work : SourceKind) (text : List ℕ) → IsText work opening len text → IsText work later length_now text) where
    over_first : (p upto next : ℕ) (old new : Receipt) → IsWorkedOver plan later length_now piece p upto next old new → IsWorkedOver plan opening len piece p upto next old new
    over_first p upto next old new over = record {
      first = over.first;
      ordered = over.ordered;
      told = λ source is text told. over.told source is text (texts source.work text told);
      fit = over.fit;
      grows = over.grows;
    }

    pub worked_first : (p : ℕ) (old new : Receipt) (step : Step) → HasWorked plan piece.node later length_now p old new step → HasWorked plan piece.node opening len p old new step
    worked_first p old new step has = record { emitted = has.emitted; worked = has.worked; told = λ source is text told. has.told source is text (texts source.work text told) }

    pub done_first : (p : ℕ) (before known : Option KnownJob) (old new : Receipt) (stretch : Stretch) → IsStretchDone plan later length_now piece p before known old new stretch
        → IsStretchDone plan opening len piece p before known old new stretch
    done_first p before known old new (Claimed onward) done = record {
      now = done.now;
      last = done.last;
      claimed = done.claimed;
      ends = done.ends;
      first = done.first;
      inside = done.inside;
      worked = over_first p (done.last + 1) onward.next old new done.worked;
    }
    done_first p before known old new Cut done = record {
      now = done.now;
      last = done.last;
      claimed = done.claimed;
      past = done.past;
      behind = done.behind;
      none = done.none;
      some = λ inside.
          let some = done.some inside in
          record { upto = some.upto; next = some.next; inside = some.inside; past = some.past; worked = over_first p some.upto some.next old new some.worked };
    }
