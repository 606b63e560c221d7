-- A position of a range is granted, and worked with the reader that a worker has turned to.
use Rattle.std.proofs.Common.{◌≡◌, ◌⊎◌, ℕ, ◌<◌, ◌≤◌, true, List, refl, sym, ap, subst, ◌∙◌, arith}
use Rattle.std.specs.Prelude.{IsSome, Option, Some, slice_get}
use Rattle.std.specs.List.{All}
use Rattle.beam_ports.specs.Files.{KeepsOpenings, Opening}
use Rattle.beam_ports.specs.Observed.{ObservedStore}
use Rattle.beam_values.specs.declared.piece.Piece.{Piece}
use Rattle.beam_values.specs.declared.plan.Plan.{Plan}
use Rattle.beam_values.specs.declared.plan.SourceKind.{SourceKind}
use Rattle.beam_model.specs.Positions.{Emission}
use Rattle.beam_model.specs.Spread.{emission_outputs}
use Rattle.book_core.specs.Work.{is_known}
use Rattle.bundle_commit.specs.declared.job.Job.{Job}
use Rattle.bundle_commit.specs.declared.job.Job.TheVariants as job
use Rattle.bundle_commit.specs.declared.job.Receipt.{Receipt}
use Rattle.chain_exec.specs.Causes.{ObservedShelf}
use Rattle.chain_exec.specs.Positions.{IsNextOf, IsTimely}
use Rattle.chain_exec.specs.Sources.{IsText, source_at}
use Rattle.chain_exec.specs.declared.position.Step.{Step}
use Rattle.chain_exec.specs.declared.refusal.ExecRefusal.{ExecRefusal}
use Rattle.chain_exec.proofs.Looks.{text_later}
use Rattle.sdf_library.specs.Paging.{Paged}
use Rattle.known_jobs.specs.Jobs.{KnownJob}
use Rattle.bundle_work.specs.Bundles.{CanRead, HasWorked, IsFit, IsJobRefused, IsRefusedAt}
use Rattle.bundle_work.specs.Reading.{HasTurned, IsPagerFor}
use Rattle.bundle_work.specs.Stretches.{CanClaimFrom}
use Rattle.bundle_work.specs.declared.reading.Reader.{Reader}
use Rattle.bundle_work.proofs.Claiming.{IsClaimOf}
use Rattle.bundle_work.proofs.PieceReads.{IsPieceReader, reader_for, reading_after, reading_same, turned_able}
use Rattle.bundle_work.proofs.Stretching.{worked_first}
use Rattle.lone_worker.specs.Work.{Base, IsEmittedBy, IsFresh, IsGoing, IsNextOfJob, IsReadingOn, IsSound}
use Rattle.lone_worker.proofs.Bases.{reading_on}
use Rattle.lone_worker.proofs.Ranges.{emitted_where, fails, going_on, next_after, sound}

module _ (base : Base) (opened : ℕ → Option Opening) (readers : List Reader) (place : ℕ) (pager : Paged) (on : IsReadingOn base opened readers place pager)
    (piece : Piece) (later : ℕ) (new : Paged) (turned : HasTurned piece readers place later pager new) where
  abbrev plan : Plan
  plan = base.setting.plan

  abbrev reader : Reader
  reader = turned.reader

  abbrev for_reader : IsPagerFor opened plan reader new
  for_reader = turned_able base.setting.known.told opened plan readers place piece later pager new on.now turned

  abbrev here : slice_get base.readers later ≡ Some reader
  here = ap (λ (l : List Reader). slice_get l later) (sym on.same) ∙ turned.at

  abbrev is : IsPieceReader piece reader
  is = reader_for piece reader turned.is_for

  able_now : CanRead plan piece.node (opened new.file) new
  able_now = subst (λ (n : ℕ). CanRead plan n (opened new.file) new) is.node for_reader.able

  -- positions can be worked
  pub able : (now : Plan) → now ≡ plan → CanRead now piece.node (opened new.file) new
  able now same = subst (λ (p : Plan). CanRead p piece.node (opened new.file) new) (sym same) able_now

  -- all of the range
  pub reaches : piece.range.to ≤ new.len
  reaches = omega (arith, for_reader.len, is.reaches)

  texts : (work : SourceKind) (text : List ℕ) → IsText work (base.opened reader.file) reader.len text → IsText work (opened new.file) new.len text
  texts work text whole = text_later work base.opened opened reader.file new.file reader.len new.len text on.kept for_reader.file for_reader.len whole

  -- the worker's item after a position was worked
  pub reading_then : (now : Plan) → now ≡ plan → (onward : ℕ → Option Opening) (others : List Reader) (at : ℕ) (last : Paged) → KeepsOpenings opened onward → others ≡ readers → at ≡ later → last.file ≡ new.file
      → last.len ≡ new.len → CanRead now piece.node (onward last.file) last → IsReadingOn base onward others at last
  reading_then now same onward others at last keeps stays there file len can =
      let here_can : CanRead plan piece.node (onward last.file) last = subst (λ (p : Plan). CanRead p piece.node (onward last.file) last) same can in
      let able_then : CanRead plan reader.node (onward last.file) last = subst (λ (n : ℕ). CanRead plan n (onward last.file) last) (sym is.node) here_can in
      reading_on base opened readers place pager on plan refl onward others at last keeps stays
      (reading_same base.setting.known.told onward plan readers others later at last last stays there refl
      (reading_after base.setting.known.told opened plan readers later onward keeps on.now.all reader turned.at last
      (record { file = file ∙ for_reader.file; len = len ∙ for_reader.len; able = able_then })))

  module _ (was : Piece) (known : Option KnownJob) (p end : ℕ) (after : Option KnownJob) (made : IsClaimOf piece was known p end after) (inside : p < end) where
    -- ---- it was worked

    module _ (now : Plan) (same : now ≡ plan) (old receipt : Receipt) (step : Step) (worked : HasWorked now piece.node (opened new.file) new.len p old receipt step) (next : IsNextOf p new.len step.next) where
      has : HasWorked plan piece.node (base.opened reader.file) reader.len p old receipt step
      has =
          worked_first plan piece (base.opened reader.file) (opened new.file) reader.len new.len texts p old receipt step
          (subst (λ (q : Plan). HasWorked q piece.node (opened new.file) new.len p old receipt step) same worked)

      next_in : IsNextOf p reader.len step.next
      next_in = (next.0, omega (arith, next.1, for_reader.len))

      pub next_worked : (whole : Job) → whole ≡ job.Span piece → IsNextOfJob base.setting.known.told plan base.setting.files whole p step.next
      next_worked whole is_range =
          subst (λ (j : Job). IsNextOfJob base.setting.known.told plan base.setting.files j p step.next) (sym is_range)
          (next_after base piece on.first later reader here turned.is_for p old receipt step has next_in on.lengths)

      pub emitted_worked : (whole : Job) → whole ≡ job.Span piece → IsEmittedBy base.setting.known.told plan whole p step.emitted
      emitted_worked whole is_range =
          subst (λ (j : Job). IsEmittedBy base.setting.known.told plan j p step.emitted) (sym is_range)
          (emitted_where base piece on.first later reader here turned.is_for p old receipt step has (is_known base.setting.known.told plan piece.node) refl)

      pub sound_worked : IsSound base.setting after
      sound_worked = sound base piece on.first later reader here turned.is_for p old receipt step has made.now after made.claimed

      pub goes_worked : IsFresh piece known p old ⊎ IsGoing base piece known p old
          → ((source : ℕ) → IsSome (source_at now source) → (emission : Emission) → IsTimely emission → All (IsFit now source) (emission_outputs now source emission)) → IsGoing base piece after step.next receipt
      goes_worked goes fits =
          let all = subst (λ (q : Plan). (source : ℕ) → IsSome (source_at q source) → (emission : Emission) → IsTimely emission → All (IsFit q source) (emission_outputs q source emission)) same fits in
          going_on base piece on.first later reader here turned.is_for was known p old goes end after made inside receipt step has next.0 (all piece.node able_now.source)

    -- ---- its work failed

    pub failed_at : (can : CanClaimFrom piece known p) → (now : Plan) → now ≡ plan → (staged : Receipt) (shelf : ObservedShelf) (store : ObservedStore) → (base.setting.known.strict ≡ true → shelf.strict ≡ true)
        → (refusal : ExecRefusal) → IsRefusedAt shelf (record { before = store.before; after = store.after }) now piece.node (opened new.file) new.len p refusal → IsJobRefused base.setting shelf store after refusal
    failed_at can now same staged shelf store stricter refusal refused =
        fails base.setting opened plan refl readers on.now.all later reader turned.at piece turned.is_for can.fresh new for_reader was known p end after made can.start inside staged shelf store stricter refusal
        (subst (λ (q : Plan). IsRefusedAt shelf (record { before = store.before; after = store.after }) q piece.node (opened new.file) new.len p refusal) same refused)
