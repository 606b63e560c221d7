-- Stretches of positions: what was worked of a piece, and how far it is claimed.
use Rattle.std.specs.Prelude.{◌≡◌, ℕ, ◌<◌, ◌≤◌, ◌+◌, ◌≤ℤ◌, List, [], ◌∷◌, ◌++◌, map, Option, Some, None}
use Rattle.std.specs.List.{All}
use Rattle.std.specs.Option.{ForSome}
use Rattle.beam_values.specs.Tracking.{first_unattempted}
use Rattle.beam_values.specs.declared.arrival.Arrival.{Arrival}
use Rattle.beam_values.specs.declared.piece.Piece.{Piece}
use Rattle.beam_values.specs.declared.plan.Plan.{Plan}
use Rattle.beam_model.specs.Chains.{Arrives}
use Rattle.beam_model.specs.Estimators.{emission_at}
use Rattle.beam_model.specs.Holds.{estimator_of}
use Rattle.beam_model.specs.Positions.{SourceItem, nothing}
use Rattle.beam_model.specs.Spread.{spread_range}
use Rattle.beam_ports.specs.Files.{Opening}
use Rattle.book_core.specs.Work.{seen_over}
use Rattle.bundle_commit.specs.declared.job.Receipt.{Receipt}
use Rattle.chain_exec.specs.Causes.{ObservedShelf}
use Rattle.chain_exec.specs.Positions.{StoreCounts}
use Rattle.chain_exec.specs.Sources.{IsText, source_at}
use Rattle.chain_exec.specs.declared.refusal.ExecRefusal.{ExecRefusal}
use Rattle.known_jobs.specs.Jobs.{KnownJob}
use Rattle.bundle_work.specs.Bundles.{HasClaimed, IsFit, IsPieceRefused, IsRefusedAt, item_of}
use Rattle.bundle_work.specs.Trails.{back_to}
use Rattle.bundle_work.specs.declared.bench.Ahead.{Ahead}
use Rattle.bundle_work.specs.declared.bench.Ahead.TheVariants.{Worked, Refused}
use Rattle.bundle_work.specs.declared.bench.Progress.{Progress}
use Rattle.bundle_work.specs.declared.bench.Stretch.{Stretch}
use Rattle.bundle_work.specs.declared.bench.Stretch.TheVariants.{Claimed, Cut}
use Rattle.bundle_work.specs.declared.trail.Before.{Before}

-- ---- what was worked

-- Where the item's text is this, the receipt got the outputs of the offsets from `p` below `upto`, and what was seen over them, and the offsets from there
-- below `next` emit nothing.
pub record HasStaged (plan : Plan) (piece : Piece) (item : SourceItem) (p upto next : ℕ) (old new : Receipt) : Type 0 where
  pub arrived : map Arrives new.arrivals ≡ map Arrives old.arrivals ++ spread_range plan item p upto
  pub seen : new.seen ≡ seen_over (estimator_of plan piece.node) item p upto old.seen
  pub quiet : (q : ℕ) → upto ≤ q → q < next → emission_at item q ≡ nothing

-- outputs so far are fit, whatever the text is, and what was seen never falls
pub record IsFitSoFar (plan : Plan) (piece : Piece) (receipt : Receipt) : Type 0 where
  pub outputs : All (IsFit plan piece.node) (map Arrives receipt.arrivals)
  pub seen : piece.seen ≤ℤ receipt.seen
  pub logged : receipt.logged ≡ None

-- arrivals were put behind those that there were
pub record Grows (old new : Receipt) : Type 0 where
  pub more : List Arrival
  pub arrivals : new.arrivals ≡ old.arrivals ++ more
  pub logged : new.logged ≡ old.logged

-- The offsets from `p` below `upto` were worked, and `next` is the position after them.
pub record IsWorkedOver (plan : Plan) (opening : Option Opening) (len : ℕ) (piece : Piece) (p upto next : ℕ) (old new : Receipt) : Type 0 where
  pub first : p ≤ upto
  pub ordered : upto ≤ next
  pub told : ForSome (source_at plan piece.node) (λ source. (text : List ℕ) → IsText source.work opening len text
      → HasStaged plan piece (item_of piece source text) p upto next old new)
  pub fit : IsFitSoFar plan piece old → IsFitSoFar plan piece new
  pub grows : Grows old new

-- ---- how far it is claimed

abbrev pub attempted_of : Option KnownJob → Option ℕ
attempted_of None = None
attempted_of (Some known) = known.attempted

-- the first offset of the piece that the pass has not attempted
abbrev pub first_open : Piece → Option KnownJob → ℕ
first_open piece known = first_unattempted piece.range.from (attempted_of known)

-- the piece isn't spent, and the pass has attempted nothing of it from this position on, which it may claim
pub record CanClaimFrom (piece : Piece) (known : Option KnownJob) (p : ℕ) : Type 0 where
  pub fresh : piece.spent ≡ None
  pub now : Piece
  pub claimed : HasClaimed piece now (attempted_of known) known
  pub start : piece.range.from ≤ p
  pub next : first_open piece known ≤ p
  pub within : first_open piece known ≤ now.range.to

-- ---- positions that are worked ahead of a claim

-- What was staged of a stretch from position `p` on: position after position, up to the next one. The trail says what was staged before each of them.
abbrev pub IsTrail : Plan → Option Opening → ℕ → Piece → ℕ → Receipt → ℕ → Receipt → List Before → Type 0
IsTrail plan opening len piece p old next now [] = (next ≡ p) × (now ≡ old)
IsTrail plan opening len piece p old next now (before ∷ earlier) =
    IsWorkedOver plan opening len piece before.p (before.p + 1) next (back_to before now) now × IsTrail plan opening len piece p old before.p (back_to before now) earlier

abbrev pub IsLatest : ℕ → List Before → Type 0
IsLatest p [] = ⊥
IsLatest p (before ∷ earlier) = before.p ≡ p

-- the positions of the stretch up to the last one were worked, or up to the one that was refused
abbrev pub IsAhead : Plan → Option Opening → ℕ → Piece → Progress → Receipt → Receipt → List Before → Ahead → Type 0
IsAhead plan opening len piece from old now trail (Worked last onward) =
    IsTrail plan opening len piece from.next old onward.next now trail × IsLatest last trail × (last < from.end)
IsAhead plan opening len piece from old now trail (Refused p refusal) = IsTrail plan opening len piece from.next old p now trail × (p < from.end)

abbrev pub IsAheadRefused : ObservedShelf → StoreCounts → Plan → ℕ → Option Opening → ℕ → Ahead → Type 0
IsAheadRefused shelf store plan node opening len (Worked last onward) = Unit {0}
IsAheadRefused shelf store plan node opening len (Refused p refusal) = IsRefusedAt shelf store plan node opening len p refusal

-- ---- what came of a stretch that begins at a position

-- The last position of the stretch was claimed, and so all of them.
pub record IsAllClaimed (plan : Plan) (opening : Option Opening) (len : ℕ) (piece : Piece) (p : ℕ) (known : Option KnownJob) (onward : Progress) (old new : Receipt) : Type 0 where
  pub now : Piece
  pub last : ℕ
  pub claimed : HasClaimed piece now (Some last) known
  pub ends : now.range.to ≡ onward.end
  pub first : p ≤ last
  pub inside : last < onward.end
  pub worked : IsWorkedOver plan opening len piece p (last + 1) onward.next old new

-- of the stretch the offsets below `end` are worked, and nothing is staged of the others
pub record IsWorkedTo (plan : Plan) (opening : Option Opening) (len : ℕ) (piece : Piece) (p end : ℕ) (old new : Receipt) : Type 0 where
  pub upto : ℕ
  pub next : ℕ
  pub inside : upto ≤ end
  pub past : end ≤ next
  pub worked : IsWorkedOver plan opening len piece p upto next old new

-- The range ends at the last position of the stretch, which was attempted, or before it, and what lies past its end isn't staged.
pub record IsCutAt (plan : Plan) (opening : Option Opening) (len : ℕ) (piece : Piece) (p : ℕ) (before known : Option KnownJob) (old new : Receipt) : Type 0 where
  pub now : Piece
  pub last : ℕ
  pub claimed : HasClaimed piece now (Some last) known
  pub past : now.range.to ≤ last
  pub behind : first_open piece before ≤ now.range.to
  pub none : now.range.to ≤ p → new ≡ old
  pub some : p < now.range.to → IsWorkedTo plan opening len piece p now.range.to old new

abbrev pub IsStretchDone : Plan → Option Opening → ℕ → Piece → ℕ → Option KnownJob → Option KnownJob → Receipt → Receipt → Stretch → Type 0
IsStretchDone plan opening len piece p before known old new (Claimed onward) = IsAllClaimed plan opening len piece p known onward old new
IsStretchDone plan opening len piece p before known old new Cut = IsCutAt plan opening len piece p before known old new

-- work on its last position was refused, which the pass has claimed
pub record IsStretchRefused (shelf : ObservedShelf) (store : StoreCounts) (plan : Plan) (opening : Option Opening) (len : ℕ) (piece : Piece) (known : Option KnownJob) (refusal : ExecRefusal) : Type 0 where
  pub now : Piece
  pub last : ℕ
  pub claimed : HasClaimed piece now (Some last) known
  pub refused : IsPieceRefused shelf store plan opening len now (Some last) refusal
