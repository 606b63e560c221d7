-- A pass claims positions of its piece, which others may shorten meanwhile, and works them, one after another.
use Rattle.std.proofs.Common.{◌≡◌, ℕ, ◌<◌, ◌≤◌, Bool, true, false, List, length, refl, sym, ap, subst, ◌∙◌, arith}
use Rattle.std.specs.Prelude.{Option, Some, None, IsSome, Result, Err, nat_lt, slice_get}
use Rattle.std.specs.Option.{is_some, option_and_then}
use Rattle.std.proofs.lemmas.Option.{slice_get_within}
use Rattle.beam_values.specs.Nodes.{is_source_kind}
use Rattle.beam_values.specs.Tracking.{IsLater, first_unattempted}
use Rattle.beam_values.specs.declared.fault.Cause.TheVariants.{Call, Read}
use Rattle.beam_values.specs.declared.fault.FaultNote.{FaultNote}
use Rattle.beam_values.specs.declared.file_text.FileText.{FileText}
use Rattle.beam_values.specs.declared.piece.Piece.{Piece}
use Rattle.beam_values.specs.declared.plan.Node.{Node}
use Rattle.beam_values.specs.declared.plan.NodeKind.{NodeKind}
use Rattle.beam_values.specs.declared.plan.NodeKind.TheVariants.{Source, ParDo, Flatten, WindowInto, Group, Stateful, Write}
use Rattle.beam_values.specs.declared.plan.Plan.{Plan}
use Rattle.beam_ports.specs.Files.{KeepsOpenings, Opening}
use Rattle.book_core.specs.Changes.{cut_to}
use Rattle.bundle_commit.specs.declared.job.Job.{Job}
use Rattle.bundle_commit.specs.declared.job.Job.TheVariants as job
use Rattle.bundle_commit.specs.declared.job.Receipt.{Receipt}
use Rattle.chain_exec.specs.Causes.{ObservedShelf}
use Rattle.chain_exec.specs.Positions.{IsPositionRefused, StoreCounts}
use Rattle.chain_exec.specs.Sources.{SourceWork, source_at, source_in}
use Rattle.chain_exec.specs.declared.refusal.ExecRefusal.{ExecRefusal}
use Rattle.chain_exec.specs.declared.refusal.ExecRefusal.TheVariants.{Faulted, NoMemory}
use Rattle.chain_exec.proofs.Looks.{text_later}
use Rattle.chain_exec.proofs.Poisons.{rose_after}
use Rattle.known_jobs.specs.Calls.{AfterClaim, CanClaimAs, EndsAt, HasAttempted}
use Rattle.known_jobs.specs.Jobs.{IsShortened, KnownJob}
use Rattle.bundle_work.specs.Bundles.{HasClaimed, HasClaimedTo, IsPieceEnd, IsPieceRefused, IsRefusedAt}
use Rattle.bundle_work.specs.Outside.{IsKitKept}
use Rattle.bundle_work.specs.Stretches.{CanClaimFrom, IsStretchRefused, attempted_of, first_open}

-- ---- what the pass knows

-- a claim: the range may have been shortened behind what was attempted before
pub record IsClaimOf (piece was : Piece) (before : Option KnownJob) (p end : ℕ) (known : Option KnownJob) : Type 0 where
  pub now : Piece
  pub claimed : HasClaimed piece now (Some p) known
  pub ends : now.range.to ≡ end
  pub below : end ≤ was.range.to
  pub behind : first_open piece before ≤ end

abbrev known_span : Piece → Option ℕ → KnownJob
known_span piece attempted = record { job = job.Span piece; attempted = attempted }

abbrev piece_in : Piece → Job → Piece
piece_in none (job.Span piece) = piece
piece_in none _ = none

abbrev piece_known : Piece → Option KnownJob → Piece
piece_known none None = none
piece_known none (Some known) = piece_in none known.job

pub claim_made : (piece : Piece) (known : Option KnownJob) (p : ℕ) (granted : Bool) (end : ℕ) (after : Option KnownJob) (can : CanClaimFrom piece known p) → AfterClaim known p granted after → EndsAt after end
    → IsClaimOf piece can.now known p end after
claim_made piece known p granted end after can made ends =
    let was : Piece = can.now in
    let one : Some (known_span made.noted made.attempted) ≡ Some (known_span was (attempted_of known)) = sym made.was ∙ can.claimed.is in
    let noted : made.noted ≡ was = ap (piece_known was) one in
    let tried : made.attempted ≡ attempted_of known = ap attempted_of one in
    let short : IsShortened was (attempted_of known) made.now =
    subst (λ (a : Option ℕ). IsShortened was a made.now) tried (subst (λ (x : Piece). IsShortened x made.attempted made.now) noted made.short) in
    let first : was.range.from ≡ piece.range.from = ap (λ (x : Piece). x.range.from) can.claimed.same in
    let at : made.now.range.to ≡ end = subst (λ (k : Option KnownJob). EndsAt k end) made.is ends in
    let fresh : first_unattempted was.range.from (attempted_of known) ≡ first_open piece known = ap (λ (from : ℕ). first_unattempted from (attempted_of known)) first in
    let behind = short.above (omega (arith, fresh, can.within)) in
    record {
      now = made.now;
      claimed = record {
        is = made.is;
        same =
            short.same
            ∙ ap (λ (x : Piece). cut_to x (record { from = was.range.from; to = made.now.range.to })) can.claimed.same
            ∙ ap (λ (from : ℕ). cut_to piece (record { from = from; to = made.now.range.to })) first;
        below = omega (arith, short.below, can.claimed.below);
      };
      ends = at;
      below = omega (arith, at, short.below);
      behind = omega (arith, at, behind, fresh);
    }

-- a range of which a position was claimed goes on
pub goes_on : (piece now : Piece) (last : ℕ) (known : Option KnownJob) → HasClaimed piece now (Some last) known → HasAttempted known
goes_on piece now last known claimed = subst HasAttempted (sym claimed.is) tt

-- ---- positions that may be claimed

pub unspent : (piece : Piece) (is_spent : Bool) → is_spent ≡ is_some piece.spent → is_spent ≡ false → piece.spent ≡ None
unspent piece is_spent is none = by piece.spent (sym is ∙ none)
  where
    by : (spent : Option FaultNote) → is_some spent ≡ false → spent ≡ None
    by None is = refl
    by (Some note) is = cc

-- a piece that isn't spent isn't once it is cut
pub fresh_now : (piece now : Piece) (attempted : Option ℕ) (known : Option KnownJob) → HasClaimed piece now attempted known → piece.spent ≡ None → now.spent ≡ None
fresh_now piece now attempted known claimed fresh = ap (λ (x : Piece). x.spent) claimed.same ∙ fresh

-- later ones too
pub can_later : (piece : Piece) (known : Option KnownJob) (p later : ℕ) → CanClaimFrom piece known p → p ≤ later → CanClaimFrom piece known later
can_later piece known p later can up =
    record { fresh = can.fresh; now = can.now; claimed = can.claimed; start = omega (arith, can.start, up); next = omega (arith, can.next, up); within = can.within }

is_later : (from : ℕ) (attempted : Option ℕ) (p : ℕ) → first_unattempted from attempted ≤ p → IsLater attempted p
is_later from None p behind = tt
is_later from (Some last) p behind = omega (arith, behind)

pub can_claim : (piece : Piece) (known : Option KnownJob) (p : ℕ) → CanClaimFrom piece known p → CanClaimAs known p
can_claim piece known p can =
    let from : can.now.range.from ≡ piece.range.from = ap (λ (x : Piece). x.range.from) can.claimed.same in
    subst (λ (k : Option KnownJob). CanClaimAs k p) (sym can.claimed.is) (
      fresh_now piece can.now (attempted_of known) known can.claimed can.fresh,
      record { from_start = omega (arith, from, can.start); ascending = is_later piece.range.from (attempted_of known) p can.next },
    )

-- ---- the first position of a piece

pub can_first : (piece : Piece) (known : Option KnownJob) → piece.spent ≡ None → known ≡ Some (record { job = job.Span piece; attempted = None }) → piece.range.from ≤ piece.range.to
    → CanClaimFrom piece known piece.range.from
can_first piece known unspent is ordered =
    let none : None ≡ attempted_of known = sym (ap attempted_of is) in
    let fresh : piece.range.from ≡ first_open piece known = ap (first_unattempted piece.range.from) none in
    record {
      fresh = unspent;
      now = piece;
      claimed = subst (λ (a : Option ℕ). HasClaimed piece piece a known) none (record { is = is; same = refl; below = omega arith });
      start = omega arith;
      next = omega (arith, fresh);
      within = omega (arith, fresh, ordered);
    }

pub first_claimed : (piece : Piece) (known : Option KnownJob) (p end : ℕ) (after : Option KnownJob) → piece.spent ≡ None → p ≡ piece.range.from → known ≡ Some (record { job = job.Span piece; attempted = None })
    → piece.range.from ≤ piece.range.to → AfterClaim known p (nat_lt p end) after → EndsAt after end → HasClaimedTo piece end after × (piece.range.from ≤ end)
first_claimed piece known p end after unspent at is ordered made ends =
    let fresh : piece.range.from ≡ first_open piece known = ap (first_unattempted piece.range.from) (sym (ap attempted_of is)) in
    let told : AfterClaim known piece.range.from (nat_lt piece.range.from end) after = subst (λ (q : ℕ). AfterClaim known q (nat_lt q end) after) at made in
    let claim = claim_made piece known piece.range.from (nat_lt piece.range.from end) end after (can_first piece known unspent is ordered) told ends in
    (record { fresh = unspent; now = claim.now; claimed = claim.claimed; ends = claim.ends }, omega (arith, fresh, claim.behind))

-- ---- a refusal, seen from the start of the work

position_first : (strict now : Bool) (s0 s1 s2 t0 t1 t2 : ℕ) (plan : Plan) (node : ℕ) (source : SourceWork) (old new : ℕ → Option Opening) (file later len length_now p : ℕ) → now ≡ strict → s0 ≤ s1 → t0 ≤ t1
    → KeepsOpenings old new → later ≡ file → length_now ≡ len → (refusal : ExecRefusal)
    → IsPositionRefused (record { strict = now; before = s1; after = s2 }) (record { before = t1; after = t2 }) plan node source (new later) length_now p refusal
    → IsPositionRefused (record { strict = strict; before = s0; after = s2 }) (record { before = t0; after = t2 }) plan node source (old file) len p refusal
position_first strict now s0 s1 s2 t0 t1 t2 plan node source old new file later len length_now p same low low' kept same_file same_len (Faulted at Read) is = (rose_after t0 t1 t2 low' is.0, is.1, is.2)
position_first strict now s0 s1 s2 t0 t1 t2 plan node source old new file later len length_now p same low low' kept same_file same_len (Faulted at Call) is = (
  rose_after s0 s1 s2 low is.0,
  λ holds text told. is.1 (same ∙ holds) text (text_later source.work old new file later len length_now text kept same_file same_len told),
)
position_first strict now s0 s1 s2 t0 t1 t2 plan node source old new file later len length_now p same low low' kept same_file same_len NoMemory is = tt

-- ---- the sources of a plan

pub source_node : (plan : Plan) (n : ℕ) → IsSome (source_at plan n) → (node : Node) × (slice_get plan.nodes n ≡ Some node) × (is_source_kind node.kind ≡ true) × (n < length plan.nodes)
source_node plan n some = by (slice_get plan.nodes n) refl some
  where
    kind : (k : NodeKind) → IsSome (source_in k) → is_source_kind k ≡ true
    kind (Source work args files estimator) some = refl
    kind (ParDo work args) some = absurd (cc)
    kind Flatten some = absurd (cc)
    kind (WindowInto strategy) some = absurd (cc)
    kind (Group trigger) some = absurd (cc)
    kind (Stateful work args log) some = absurd (cc)
    kind (Write label) some = absurd (cc)

    by : (found : Option Node) → slice_get plan.nodes n ≡ found → IsSome (option_and_then (λ x. source_in x.kind) found)
        → (node : Node) × (slice_get plan.nodes n ≡ Some node) × (is_source_kind node.kind ≡ true) × (n < length plan.nodes)
    by None at some = absurd (cc)
    by (Some node) at some = (node, at, kind node.kind some, slice_get_within plan.nodes n node at)

-- ---- how the work on a piece ended

pub end_refused : {U : Type 0} (shelf : ObservedShelf) (store : StoreCounts) (plan : Plan) (opening : Option Opening) (len : ℕ) (piece : Piece) (known : Option KnownJob) (receipt : Receipt)
    (now : Piece) (last : ℕ) → HasClaimed piece now (Some last) known → (refusal : ExecRefusal) → IsPieceRefused shelf store plan opening len now (Some last) refusal
    → (result : Result U ExecRefusal) → result ≡ Err refusal → IsPieceEnd {U = U} shelf store plan opening len piece known receipt result
end_refused {U} shelf store plan opening len piece known receipt now last claimed refusal refused result is =
    subst (λ (r : Result U ExecRefusal). IsPieceEnd {U = U} shelf store plan opening len piece known receipt r) (sym is)
    (record { now = now; last = last; claimed = claimed; worked = tt; refused = refused })

module _ {F S : Type 0} (faults : F → ℕ) (strict : F → Bool) (fails : S → ℕ) (files : S → Option (List FileText)) (opened : S → ℕ → Option Opening) where
  pub refused_first : (shelf mid later : F) (store between after : S) → IsKitKept faults strict fails files opened shelf mid store between
      → (plan : Plan) (node file now len length_now p : ℕ) → now ≡ file → length_now ≡ len → (refusal : ExecRefusal)
      → IsRefusedAt (record { strict = strict mid; before = faults mid; after = faults later }) (record { before = fails between; after = fails after }) plan node (opened between now) length_now p refusal
      → IsRefusedAt (record { strict = strict shelf; before = faults shelf; after = faults later }) (record { before = fails store; after = fails after }) plan node (opened store file) len p refusal
  refused_first shelf mid later store between after kept plan node file now len length_now p same_file same_len refusal is = λ source at.
      position_first (strict shelf) (strict mid) (faults shelf) (faults mid) (faults later) (fails store) (fails between) (fails after) plan node source (opened store) (opened between) file now len length_now p
      kept.strict kept.counts kept.reading.counts kept.reading.openings same_file same_len refusal (is source at)

  pub piece_refused_first : (shelf mid later : F) (store between after : S) → IsKitKept faults strict fails files opened shelf mid store between
      → (plan : Plan) (file now_file len length_now : ℕ) → now_file ≡ file → length_now ≡ len → (piece : Piece) (attempted : Option ℕ) (refusal : ExecRefusal)
      → IsPieceRefused (record { strict = strict mid; before = faults mid; after = faults later }) (record { before = fails between; after = fails after }) plan (opened between now_file) length_now piece attempted refusal
      → IsPieceRefused (record { strict = strict shelf; before = faults shelf; after = faults later }) (record { before = fails store; after = fails after }) plan (opened store file) len piece attempted refusal
  piece_refused_first shelf mid later store between after kept plan file now_file len length_now same_file same_len piece attempted refusal is = record {
    p = is.p;
    last = is.last;
    from_start = is.from_start;
    inside = is.inside;
    refused = refused_first shelf mid later store between after kept plan piece.node file now_file len length_now is.p same_file same_len refusal is.refused;
  }

  pub stretch_refused_first : (shelf mid later : F) (store between after : S) → IsKitKept faults strict fails files opened shelf mid store between
      → (plan : Plan) (file now_file len length_now : ℕ) → now_file ≡ file → length_now ≡ len → (piece : Piece) (known : Option KnownJob) (refusal : ExecRefusal)
      → IsStretchRefused (record { strict = strict mid; before = faults mid; after = faults later }) (record { before = fails between; after = fails after }) plan (opened between now_file) length_now piece known refusal
      → IsStretchRefused (record { strict = strict shelf; before = faults shelf; after = faults later }) (record { before = fails store; after = fails after }) plan (opened store file) len piece known refusal
  stretch_refused_first shelf mid later store between after kept plan file now_file len length_now same_file same_len piece known refusal is = record {
    now = is.now;
    last = is.last;
    claimed = is.claimed;
    refused = piece_refused_first shelf mid later store between after kept plan file now_file len length_now same_file same_len is.now (Some is.last) refusal is.refused;
  }
