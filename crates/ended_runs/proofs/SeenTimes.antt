-- Where the files are told, what was seen before each piece is a time: every step keeps it.
use Rattle.std.proofs.Common.{◌≡◌, ℕ, ◌-◌, ℤ, Bool, true, false, cond, List, [], ◌∷◌, ◌++◌, refl, sym, subst, arith}
use Rattle.std.specs.Prelude.{Option, Some, None, fold, nat_lt, slice_set}
use Rattle.std.specs.Int.{int_max}
use Rattle.std.specs.List.{All, flat_map}
use Rattle.std.proofs.lemmas.Int.{ints, clamps}
use Rattle.std.proofs.lemmas.List.Elements.{All-nil, All-cons, All-head, All-tail, All-append}
use Rattle.beam_values.specs.Lines.{offsets}
use Rattle.beam_values.specs.Marks.{later_of}
use Rattle.beam_values.specs.Times.{IsTime}
use Rattle.beam_values.specs.declared.fault.Cause.{Cause}
use Rattle.beam_values.specs.declared.fault.Cause.TheVariants.{Call, Read}
use Rattle.beam_values.specs.declared.fault.FaultNote.{FaultNote}
use Rattle.beam_values.specs.declared.file_text.FileText.{FileText}
use Rattle.beam_values.specs.declared.piece.Piece.{Piece}
use Rattle.beam_values.specs.declared.plan.Estimator.{Estimator}
use Rattle.beam_values.specs.declared.plan.Estimator.TheVariants as estimator
use Rattle.beam_model.specs.Coverings.{is_item, item_at}
use Rattle.beam_model.specs.Estimators.{declared_marks, emission_at, later_time, latest_time, seen_with}
use Rattle.beam_model.specs.Holds.{estimator_of}
use Rattle.beam_model.specs.Positions.{Emission, Emits, Poison, SourceItem, TimedValue, items}
use Rattle.bundle_commit.specs.declared.job.Receipt.{Receipt}
use Rattle.split_core.specs.Order.{with_piece, with_pieces}
use Rattle.split_core.proofs.Ordered.{All-with_piece}
use Rattle.book_core.specs.Book.{SeenBook, piece_of, live_pieces}
use Rattle.book_core.specs.Changes.{with_slot, broken_parts, cut_to, rest_of, given_back, tried_piece, counted, stopped_where, ends_run, note_of, pending_after, pending_with, residual_of, with_residual}
use Rattle.book_core.specs.Jobs.{Next, attempted_of, job_of, with_key}
use Rattle.book_core.specs.Runs.{Reached, IsOpening, pieces_of}
use Rattle.book_core.specs.Steps.{IsWorking}
use Rattle.book_core.specs.Work.{IsGiven, IsWorkOnItem, worked_to}
use Rattle.book_core.specs.declared.live.Live.{Live}
use Rattle.book_core.specs.declared.live.Live.TheVariants as live
use Rattle.book_core.proofs.Broken.{All-with_pieces, broken_all}
use Rattle.book_core.proofs.Cases.{Keeps, AreAlways, Both, kept_with, always_reached}
use Rattle.book_core.proofs.CellsKept.{found_has}
use Rattle.book_core.proofs.EarlyEnds.{items_set}
use Rattle.book_core.proofs.OpenedPieces.{all_pieces, enrolled_of}
use Rattle.book_core.proofs.Reaching.{HasSamePlan, opening_of, reached_more}
use Rattle.book_core.proofs.SaneAlways.{reached_sane}
use Rattle.book_core.proofs.Slotted.{All-append_left, All-append_right, All-flat_set, All-flat_at}
use Rattle.book_core.proofs.Taking.{take_cases}
use Rattle.ended_runs.proofs.Above.{KnownLaws}
use Rattle.ended_runs.proofs.Bounds.{IsTimely}
use Rattle.ended_runs.proofs.ToCome.{HasArgument, emission_of}

-- ---- what an estimator sees

abbrev IsTimeIf : Option ℤ → Type 0
IsTimeIf None = Unit {0}
IsTimeIf (Some time) = IsTime time

greater_time : (a b : ℤ) → IsTime a → IsTime b → IsTime (int_max a b)
greater_time a b p q = let r = p.0 in let s = p.1 in let t = q.0 in let u = q.1 in (omega (arith, ints, clamps, r, t), omega (arith, ints, clamps, s, u))

latest_is_time : (values : List TimedValue) (some : Option ℤ) → IsTimeIf some → All (λ v. IsTime v.time) values → IsTimeIf (fold later_time some values)
latest_is_time [] some is all = is
latest_is_time (v ∷ values) None is all =
    latest_is_time values (Some v.time) (All-head (λ (x : TimedValue). IsTime x.time) v values all) (All-tail (λ (x : TimedValue). IsTime x.time) v values all)
latest_is_time (v ∷ values) (Some time) is all =
    latest_is_time values (Some (int_max time v.time)) (greater_time time v.time is (All-head (λ (x : TimedValue). IsTime x.time) v values all))
    (All-tail (λ (x : TimedValue). IsTime x.time) v values all)

later_is_time : (seen : ℤ) (time : Option ℤ) → IsTime seen → IsTimeIf time → IsTime (later_of seen time)
later_is_time seen None is h = is
later_is_time seen (Some time) is h = greater_time seen time is h

declared_is_time : (declared : Option ℤ) → All IsTime (declared_marks declared) → IsTimeIf declared
declared_is_time None all = tt
declared_is_time (Some mark) all = All-head IsTime mark [] all

seen_is_time : (e : Estimator) (seen : ℤ) (emission : Emission) → IsTimely emission → IsTime seen → IsTime (seen_with e seen emission)
seen_is_time estimator.None seen (Emits values declared) timely is = is
seen_is_time estimator.Monotonic seen (Emits values declared) timely is = later_is_time seen (latest_time values) is (latest_is_time values None tt timely.values_are)
seen_is_time (estimator.Lag delay) seen (Emits values declared) timely is = later_is_time seen (latest_time values) is (latest_is_time values None tt timely.values_are)
seen_is_time estimator.Declared seen (Emits values declared) timely is = later_is_time seen declared is (declared_is_time declared timely.declared_are)
seen_is_time e seen Poison timely is = is

over_is_time : (e : Estimator) (item : SourceItem) → HasArgument item → (ps : List ℕ) (seen : ℤ) → IsTime seen
    → IsTime (fold (λ before p. seen_with e before (emission_at item p)) seen ps)
over_is_time e item set [] seen is = is
over_is_time e item set (p ∷ ps) seen is =
    over_is_time e item set ps (seen_with e seen (emission_at item p)) (seen_is_time e seen (emission_at item p) (emission_of item set p) is)

-- ---- reached books as a fact that each step keeps

pub opening_reached : (told : Option (List FileText)) (b first : SeenBook) → IsOpening b.plan b.files b.options first → Reached told first
opening_reached told b first opening = record {
  first = first;
  opening = opening_of first b first (subst (HasSamePlan b) (sym opening.is) (record { plan = refl; files = refl; options = refl })) opening;
  steps = [];
  run = refl;
}

pub reached_always : (told : Option (List FileText)) → AreAlways told (Reached told)
reached_always told = record {
  opens = opening_reached told;
  steps = λ b new slot action answer step h. reached_more told b new slot action answer step h;
}

-- ---- pieces

abbrev pub IsSeenTime : Piece → Type 0
IsSeenTime piece = IsTime piece.seen

abbrev pub AreSeenTimes : SeenBook → Type 0
AreSeenTimes b = All IsSeenTime (b.pending ++ live_pieces b)

module _ (b : SeenBook) (h : AreSeenTimes b) where
  pending_times : All IsSeenTime b.pending
  pending_times = All-append_left IsSeenTime b.pending (live_pieces b) h

  live_times : All IsSeenTime (live_pieces b)
  live_times = All-append_right IsSeenTime b.pending (live_pieces b) h

  set_times : (pending : List Piece) (slot : ℕ) (new : Option Live) → All IsSeenTime pending → All IsSeenTime (piece_of new)
      → All IsSeenTime (pending ++ flat_map piece_of (slice_set b.slots slot new))
  set_times pending slot new all one =
      All-append IsSeenTime pending (flat_map piece_of (slice_set b.slots slot new)) all (All-flat_set piece_of b.slots slot IsSeenTime new one live_times)

  one_time : (piece : Piece) → IsSeenTime piece → All IsSeenTime (piece ∷ [])
  one_time piece is = All-cons IsSeenTime piece [] is (All-nil IsSeenTime)

  worked_time : (slot : ℕ) (piece : Piece) (attempted : Option ℕ) → IsWorking b slot (live.Span piece attempted) → IsSeenTime piece
  worked_time slot piece attempted works = All-head IsSeenTime piece [] (All-flat_at piece_of b.slots slot IsSeenTime (Some (live.Span piece attempted)) works live_times)

  take_times : (slot : ℕ) (piece : Piece) (later : List Piece) → b.pending ≡ piece ∷ later → All IsSeenTime (later ++ flat_map piece_of (slice_set b.slots slot (Some (live.Span piece None))))
  take_times slot piece later e =
      let all = subst (All IsSeenTime) e pending_times in
      set_times later slot (Some (live.Span piece None)) (All-tail IsSeenTime piece later all) (one_time piece (All-head IsSeenTime piece later all))

  residual_times : (piece : Piece) (attempted : Option ℕ) (receipt : Receipt) → IsTime receipt.seen → All IsSeenTime (with_residual (residual_of piece attempted receipt) b.pending)
  residual_times piece attempted receipt is = by (nat_lt (worked_to piece attempted) piece.range.to)
    where
      by : (t : Bool)
          → All IsSeenTime (with_residual (cond t (Some (record piece { range = record { from = worked_to piece attempted; to = piece.range.to }; seen = receipt.seen; attempts = 0 })) None) b.pending)
      by true = All-with_piece IsSeenTime (record piece { range = record { from = worked_to piece attempted; to = piece.range.to }; seen = receipt.seen; attempts = 0 }) b.pending is pending_times
      by false = pending_times

  back_times : (slot : ℕ) (job : Live) (at : ℕ) (cause : Cause) → IsWorking b slot job → AreSeenTimes (counted (given_back (with_slot b slot None) job at cause) cause)
  back_times slot (live.Span piece attempted) at Call works =
      set_times (with_piece (tried_piece piece) b.pending) slot None (All-with_piece IsSeenTime (tried_piece piece) b.pending (worked_time slot piece attempted works) pending_times) (All-nil IsSeenTime)
  back_times slot (live.Span piece attempted) at Read works =
      set_times (with_piece (tried_piece piece) b.pending) slot None (All-with_piece IsSeenTime (tried_piece piece) b.pending (worked_time slot piece attempted works) pending_times) (All-nil IsSeenTime)
  back_times slot (live.Batch batch) at Call works = set_times b.pending slot None pending_times (All-nil IsSeenTime)
  back_times slot (live.Batch batch) at Read works = set_times b.pending slot None pending_times (All-nil IsSeenTime)
  back_times slot (live.Key turn) at Call works = set_times b.pending slot None pending_times (All-nil IsSeenTime)
  back_times slot (live.Key turn) at Read works = set_times b.pending slot None pending_times (All-nil IsSeenTime)

stop_times : (spent : Bool) (x : SeenBook) (note : FaultNote) → AreSeenTimes x → AreSeenTimes (stopped_where spent x note)
stop_times true x note h = h
stop_times false x note h = h

first_times : (b first : SeenBook) → IsOpening b.plan b.files b.options first → AreSeenTimes first
first_times b first opening =
    subst AreSeenTimes (sym opening.is)
    (All-append IsSeenTime (pieces_of b.options.chunk b.files) []
    (all_pieces IsSeenTime (λ node item chunk len i. (omega (arith, ints), omega (arith, ints))) b.options.chunk b.files [] (All-nil IsSeenTime)) (All-nil IsSeenTime))

module _ (laws : KnownLaws) (told : List FileText) where
  receipt_time : (b : SeenBook) → Reached (Some told) b → (piece : Piece) (upto : ℕ) (receipt : Receipt) → IsTime piece.seen → (found : Option SourceItem)
      → item_at (items told b.plan) piece.node piece.item ≡ found → IsWorkOnItem b.plan piece upto found receipt → IsTime receipt.seen
  receipt_time b reached piece upto receipt is None at work = subst IsTime (sym work.1) is
  receipt_time b reached piece upto receipt is (Some item) at work =
      let checked = (reached_sane (Some told) b reached).formed.checked in
      let set = found_has (is_item piece.node piece.item) HasArgument (items told b.plan) item
      (items_set laws.windows b.plan (λ n node here. laws.settings b.plan n node checked here) told) at in
      subst IsTime (sym work.seen) (over_is_time (estimator_of b.plan piece.node) item set (offsets piece.range.from (upto - piece.range.from)) piece.seen is)

  commit_times : (b : SeenBook) (slot : ℕ) (job : Live) (receipt : Receipt) → Reached (Some told) b → AreSeenTimes b → IsWorking b slot job
      → IsGiven (Some told) b.plan (job_of b.panes job) (attempted_of job) receipt → All IsSeenTime (pending_after b.pending job receipt ++ flat_map piece_of (slice_set b.slots slot None))
  commit_times b slot (live.Span piece attempted) receipt reached h works given = by piece.spent
    where
      by : (spent : Option FaultNote) → All IsSeenTime (pending_with spent piece attempted receipt b.pending ++ flat_map piece_of (slice_set b.slots slot None))
      by (Some note) = set_times b h b.pending slot None (pending_times b h) (All-nil IsSeenTime)
      by None =
          set_times b h (with_residual (residual_of piece attempted receipt) b.pending) slot None
          (residual_times b h piece attempted receipt
          (receipt_time b reached piece (worked_to piece attempted) receipt (worked_time b h slot piece attempted works) (item_at (items told b.plan) piece.node piece.item) refl given.0)) (All-nil IsSeenTime)
  commit_times b slot (live.Batch batch) receipt reached h works given = set_times b h b.pending slot None (pending_times b h) (All-nil IsSeenTime)
  commit_times b slot (live.Key turn) receipt reached h works given = set_times b h b.pending slot None (pending_times b h) (All-nil IsSeenTime)

  keeps_times : Keeps (Some told) (Reached (Some told)) AreSeenTimes
  keeps_times = record {
    opens = first_times;
    enrolls = λ b known h within. subst (λ (l : List Piece). All IsSeenTime (b.pending ++ l)) (sym (enrolled_of piece_of b.slots refl)) h;
    takes = λ b slot next known h running free is within.
        take_cases b (λ (n : Next). AreSeenTimes (with_slot n.rest slot (Some n.job)))
        (λ batch among. set_times b h b.pending slot (Some (live.Batch batch)) (pending_times b h) (All-nil IsSeenTime))
        (λ batch oldest. set_times b h b.pending slot (Some (live.Batch batch)) (pending_times b h) (All-nil IsSeenTime))
        (λ place cell found. set_times b h b.pending slot (Some (with_key b place.at cell).job) (pending_times b h) (All-nil IsSeenTime))
        (λ piece later e. take_times b h slot piece later e) next is;
    claims = λ b slot p piece attempted known h works may.
        set_times b h b.pending slot (Some (live.Span piece (Some p))) (pending_times b h) (one_time b h piece (worked_time b h slot piece attempted works.works));
    splits = λ b slot at piece attempted known h works inside behind within.
        let front = cut_to piece (record { from = piece.range.from; to = at }) in
        let rest = rest_of piece (record { from = at; to = piece.range.to }) in
        let is = worked_time b h slot piece attempted works in
        set_times b h (with_piece rest b.pending) slot (Some (live.Span front attempted)) (All-with_piece IsSeenTime rest b.pending is (pending_times b h)) (one_time b h front is);
    commits = λ b slot job receipt cells fired marks known h made. commit_times b slot job receipt known h made.works made.given;
    fails = λ b slot at job cause known h works fresh unbroken.
        stop_times (ends_run b job cause) (counted (given_back (with_slot b slot None) job at cause) cause) (note_of job at cause) (back_times b h slot job at cause works);
    breaks = λ b slot at piece attempted known h works fresh is.
        let note = note_of (live.Span piece attempted) at Call in
        let parts = broken_parts piece attempted note in
        let was = worked_time b h slot piece attempted works in
        set_times b h (with_pieces parts b.pending) slot None
        (All-with_pieces IsSeenTime parts b.pending (broken_all IsSeenTime piece attempted note (λ from to low high. was) (λ one. was)) (pending_times b h)) (All-nil IsSeenTime);
    stops = λ b known h. h;
  }

  pub seen_times_always : AreAlways (Some told) (Both (Reached (Some told)) AreSeenTimes)
  seen_times_always = kept_with (Some told) (Reached (Some told)) AreSeenTimes (reached_always (Some told)) keeps_times

  pub reached_seen_times : (b : SeenBook) → Reached (Some told) b → AreSeenTimes b
  reached_seen_times b reached = (always_reached (Some told) (Both (Reached (Some told)) AreSeenTimes) seen_times_always b reached).1
