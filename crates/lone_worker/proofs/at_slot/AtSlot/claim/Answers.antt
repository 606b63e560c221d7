use Rattle.std.proofs.Common.{◌≡◌, inr, ℤ, ◌<◌, ◌≤◌, Bool, true, false, refl, ap, subst, ◌∙◌, arith}
use Rattle.std.specs.Prelude.{◌≤ℤ◌, nat_lt}
use Rattle.std.specs.List.{list_any}
use Rattle.std.proofs.lemmas.Bool.Decides.{nat_tests}
use Rattle.beam_ports.specs.Observed.{observed_store}
use Rattle.beam_values.specs.Times.{greatest_time}
use Rattle.book_core.specs.Calls.{Makes}
use Rattle.book_core.specs.Steps.{Claim, Claimed}
use Rattle.chain_exec.specs.Causes.{observed_shelf}
use Rattle.chain_exec.specs.declared.refusal.ExecRefusal.{ExecRefusal}
use Rattle.known_jobs.specs.Calls.{IsJobIn, holds_end}
use Rattle.known_jobs.specs.Jobs.{known_at}
use Rattle.bundle_work.specs.Bundles.{IsJobRefused}
use Rattle.bundle_work.proofs.PieceReads.{readers_hold}
use Rattle.lone_worker.specs.declared.work.Stage.TheVariants as stage
use Rattle.lone_worker.specs.declared.work.Work.{Work}
use Rattle.lone_worker.proofs.Bases.{lengths_on}
use Rattle.lone_worker.proofs.Claiming.{can, going, made}
use Rattle.lone_worker.proofs.Granted.{able, emitted_worked, failed_at, goes_worked, next_worked, reaches, reading_then, sound_worked}
use Rattle.lone_worker.proofs.Ranges.{failed_inside, refused_given}
use Rattle.lone_worker.proofs.Works.{no_receipt, opened, work_failed, work_goes, work_over}
use Rattle.lone_worker.proofs.at_slot.AtSlot.claim.Goals as goal

pub returns-then-p-end-clause-step : goal.returns-then-p-end-clause-step
returns-then-p-end-clause-step g c =
    let past : c.claim_end-end.result ≤ c.args.work.now.next = omega (arith, c.if-p-end.true) in
    let none : nat_lt c.args.work.now.next c.claim_end-end.result ≡ false = grind (arith, nat_tests) in
    subst (λ (granted : Bool). Makes c.args.book.now c.args.self.now.slot (Claim c.args.work.now.next) (Claimed granted) c.claim_end-end.new.book) none c.claim_end-end.ensures.step

pub returns-then-p-end-clause-work : goal.returns-then-p-end-clause-work
returns-then-p-end-clause-work g c =
    let r = c.requires.1.1.1.1 in
    let b = c.args.book.now in
    let slot = c.args.self.now.slot in
    let work = c.args.work.now in
    let piece = c.in-Span.piece in
    let held = c.is_sane.ensures.held in
    let new = c.claim_end-end.new.book in
    let end = c.claim_end-end.result in
    let goes = going g.base b slot piece held work c.in-Span.is r.1.1.1.1.1 r.1.1.1.1.0 in
    let from = can g.base b slot piece held work c.in-Span.is r.1.1.1.1.1 r.1.1.1.1.0 in
    let claim = made g.base b slot piece held work c.in-Span.is r.1.1.1.1.1 r.1.1.1.1.0 new end c.claim_end-end.ensures.step c.claim_end-end.ensures.end in
    let later : Work = record work { stage = stage.Over } in
    let past : end ≤ work.next = omega (arith, c.if-p-end.true) in
    let time : work.staged.seen ≤ℤ greatest_time = subst (λ (t : ℤ). t ≤ℤ greatest_time) c.seen.ensures c.ms-ms.ensures.within.1 in
    work_over g.base (known_at new slot) later piece c.in-Span.is refl (no_receipt g.base (known_at b slot) work piece c.in-Span.is r.1.1.1.1.0)
    (refused_given g.base piece r.1.1.0.first from.now (known_at b slot) work.next work.staged goes end (known_at new slot) claim past time)

pub turn_to-requires : goal.turn_to-requires
turn_to-requires g c =
    let r = c.requires.1.1.1.1 in
    let b = c.args.book.now in
    let slot = c.args.self.now.slot in
    let work = c.args.work.now in
    let worker = c.args.worker.now in
    let piece = c.in-Span.piece in
    let held = c.is_sane.ensures.held in
    let new = c.claim_end-end.new.book in
    let end = c.claim_end-end.result in
    let from = can g.base b slot piece held work c.in-Span.is r.1.1.1.1.1 r.1.1.1.1.0 in
    let claim = made g.base b slot piece held work c.in-Span.is r.1.1.1.1.1 r.1.1.1.1.0 new end c.claim_end-end.ensures.step c.claim_end-end.ensures.end in
    let inside = subst (IsJobIn g.base.setting) c.in-Span.is r.1.1.1.0 in
    let some : piece.range.from < piece.range.to = omega (arith, c.if-p-end.false, from.start, claim.below, from.claimed.below) in
    readers_hold piece worker.readers.items
    ∙ ap (list_any (holds_end piece)) (lengths_on g.base (g.S.Store.opened c.args.kit.now.store) worker.readers.items worker.place worker.bench.pager r.1.1.0)
    ∙ inside some

pub work_at-requires-clause-able : goal.work_at-requires-clause-able
work_at-requires-clause-able g c κs within =
    let r = c.requires.1.1.1.1 in
    let worker = c.args.worker.now in
    let turned = c.turn_to.new.worker in
    able g.base (g.S.Store.opened c.args.kit.now.store) worker.readers.items worker.place worker.bench.pager r.1.1.0 c.in-Span.piece turned.place turned.bench.pager c.turn_to.ensures.turned c.args.graph.now r.0

pub work_at-requires-clause-inside : goal.work_at-requires-clause-inside
work_at-requires-clause-inside g c κs within =
    let r = c.requires.1.1.1.1 in
    let b = c.args.book.now in
    let slot = c.args.self.now.slot in
    let work = c.args.work.now in
    let worker = c.args.worker.now in
    let piece = c.in-Span.piece in
    let held = c.is_sane.ensures.held in
    let new = c.claim_end-end.new.book in
    let end = c.claim_end-end.result in
    let turned = c.turn_to.new.worker in
    let from = can g.base b slot piece held work c.in-Span.is r.1.1.1.1.1 r.1.1.1.1.0 in
    let claim = made g.base b slot piece held work c.in-Span.is r.1.1.1.1.1 r.1.1.1.1.0 new end c.claim_end-end.ensures.step c.claim_end-end.ensures.end in
    let most = reaches g.base (g.S.Store.opened c.args.kit.now.store) worker.readers.items worker.place worker.bench.pager r.1.1.0 piece turned.place turned.bench.pager c.turn_to.ensures.turned in
    omega (arith, c.if-p-end.false, claim.below, from.claimed.below, most)

pub returns-in-Ok-clause-step : goal.returns-in-Ok-clause-step
returns-in-Ok-clause-step g c =
    let inside : c.args.work.now.next < c.claim_end-end.result = omega (arith, c.if-p-end.false) in
    let some : nat_lt c.args.work.now.next c.claim_end-end.result ≡ true = grind (arith, nat_tests) in
    subst (λ (granted : Bool). Makes c.args.book.now c.args.self.now.slot (Claim c.args.work.now.next) (Claimed granted) c.claim_end-end.new.book) some c.claim_end-end.ensures.step

pub returns-in-Ok-clause-done : goal.returns-in-Ok-clause-done
returns-in-Ok-clause-done g c =
    let r = c.requires.1.1.1.1 in
    let b = c.args.book.now in
    let slot = c.args.self.now.slot in
    let work = c.args.work.now in
    let worker = c.args.worker.now in
    let piece = c.in-Span.piece in
    let held = c.is_sane.ensures.held in
    let new = c.claim_end-end.new.book in
    let end = c.claim_end-end.result in
    let turned = c.turn_to.new.worker in
    let opened = g.S.Store.opened c.args.kit.now.store in
    let from = can g.base b slot piece held work c.in-Span.is r.1.1.1.1.1 r.1.1.1.1.0 in
    let claim = made g.base b slot piece held work c.in-Span.is r.1.1.1.1.1 r.1.1.1.1.0 new end c.claim_end-end.ensures.step c.claim_end-end.ensures.end in
    let inside : work.next < end = omega (arith, c.if-p-end.false) in
    let done = c.in-Ok.ensures in (
      refl,
      next_worked g.base opened worker.readers.items worker.place worker.bench.pager r.1.1.0 piece turned.place turned.bench.pager c.turn_to.ensures.turned from.now (known_at b slot) work.next end (known_at new slot) claim inside
          c.args.graph.now r.0 work.staged c.work_at.new.staged c.in-Ok.step done.worked done.next work.job c.in-Span.is,
      emitted_worked g.base opened worker.readers.items worker.place worker.bench.pager r.1.1.0 piece turned.place turned.bench.pager c.turn_to.ensures.turned from.now (known_at b slot) work.next end (known_at new slot) claim inside
          c.args.graph.now r.0 work.staged c.work_at.new.staged c.in-Ok.step done.worked done.next work.job c.in-Span.is,
      sound_worked g.base opened worker.readers.items worker.place worker.bench.pager r.1.1.0 piece turned.place turned.bench.pager c.turn_to.ensures.turned from.now (known_at b slot) work.next end (known_at new slot) claim inside
          c.args.graph.now r.0 work.staged c.work_at.new.staged c.in-Ok.step done.worked done.next,
    )

pub returns-in-Ok-clause-work : goal.returns-in-Ok-clause-work
returns-in-Ok-clause-work g c =
    let r = c.requires.1.1.1.1 in
    let b = c.args.book.now in
    let slot = c.args.self.now.slot in
    let work = c.args.work.now in
    let worker = c.args.worker.now in
    let piece = c.in-Span.piece in
    let held = c.is_sane.ensures.held in
    let new = c.claim_end-end.new.book in
    let end = c.claim_end-end.result in
    let turned = c.turn_to.new.worker in
    let opened_now = g.S.Store.opened c.args.kit.now.store in
    let goes = going g.base b slot piece held work c.in-Span.is r.1.1.1.1.1 r.1.1.1.1.0 in
    let from = can g.base b slot piece held work c.in-Span.is r.1.1.1.1.1 r.1.1.1.1.0 in
    let claim = made g.base b slot piece held work c.in-Span.is r.1.1.1.1.1 r.1.1.1.1.0 new end c.claim_end-end.ensures.step c.claim_end-end.ensures.end in
    let inside : work.next < end = omega (arith, c.if-p-end.false) in
    let done = c.in-Ok.ensures in
    let later : Work = record work { next = c.in-Ok.step.next; staged = c.work_at.new.staged } in
    work_goes g.base (known_at new slot) later piece c.in-Span.is (opened g.base (known_at b slot) work piece c.in-Span.is r.1.1.1.1.1) (no_receipt g.base (known_at b slot) work piece c.in-Span.is r.1.1.1.1.0)
    (inr (goes_worked g.base opened_now worker.readers.items worker.place worker.bench.pager r.1.1.0 piece turned.place turned.bench.pager c.turn_to.ensures.turned from.now (known_at b slot) work.next end (known_at new slot) claim
    inside c.args.graph.now r.0 work.staged c.work_at.new.staged c.in-Ok.step done.worked done.next goes c.outputs_are_fit.ensures))

pub returns-in-Ok-clause-reading : goal.returns-in-Ok-clause-reading
returns-in-Ok-clause-reading g c =
    let r = c.requires.1.1.1.1 in
    let worker = c.args.worker.now in
    let turned = c.turn_to.new.worker in
    let last = c.work_at.new.worker in
    let stays = c.in-Ok.ensures.stays in
    reading_then g.base (g.S.Store.opened c.args.kit.now.store) worker.readers.items worker.place worker.bench.pager r.1.1.0 c.in-Span.piece turned.place turned.bench.pager c.turn_to.ensures.turned c.args.graph.now r.0
    (g.S.Store.opened c.work_at.new.kit.store) last.readers.items last.place last.bench.pager stays.kept.reading.openings (c.in-Ok.ensures.readers ∙ c.turn_to.ensures.readers) c.in-Ok.ensures.place stays.file stays.len stays.able

pub returns-in-Err-Faulted-clause-step : goal.returns-in-Err-Faulted-clause-step
returns-in-Err-Faulted-clause-step g c =
    let inside : c.args.work.now.next < c.claim_end-end.result = omega (arith, c.if-p-end.false) in
    let some : nat_lt c.args.work.now.next c.claim_end-end.result ≡ true = grind (arith, nat_tests) in
    subst (λ (granted : Bool). Makes c.args.book.now c.args.self.now.slot (Claim c.args.work.now.next) (Claimed granted) c.claim_end-end.new.book) some c.claim_end-end.ensures.step

pub returns-in-Err-Faulted-clause-done : goal.returns-in-Err-Faulted-clause-done
returns-in-Err-Faulted-clause-done g c =
    let r = c.requires.1.1.1.1 in
    let b = c.args.book.now in
    let slot = c.args.self.now.slot in
    let work = c.args.work.now in
    let worker = c.args.worker.now in
    let piece = c.in-Span.piece in
    let held = c.is_sane.ensures.held in
    let new = c.claim_end-end.new.book in
    let end = c.claim_end-end.result in
    let turned = c.turn_to.new.worker in
    let from = can g.base b slot piece held work c.in-Span.is r.1.1.1.1.1 r.1.1.1.1.0 in
    let claim = made g.base b slot piece held work c.in-Span.is r.1.1.1.1.1 r.1.1.1.1.0 new end c.claim_end-end.ensures.step c.claim_end-end.ensures.end in
    let inside : work.next < end = omega (arith, c.if-p-end.false) in
    let shelf = observed_shelf g.F.Shelf.strict g.F.Shelf.faults c.args.kit.now.shelf c.work_at.new.kit.shelf in
    let store = observed_store g.S.Store.files g.S.Store.faults c.args.kit.now.store c.work_at.new.kit.store in
    let refused =
    failed_at g.base (g.S.Store.opened c.args.kit.now.store) worker.readers.items worker.place worker.bench.pager r.1.1.0 piece turned.place turned.bench.pager c.turn_to.ensures.turned from.now (known_at b slot) work.next end
    (known_at new slot) claim inside from c.args.graph.now r.0 work.staged shelf store r.1.0 c.in-Err-Faulted.field-0 c.in-Err-Faulted.ensures.refused in
    let fails = subst (λ (e : ExecRefusal). IsJobRefused g.base.setting shelf store (known_at new slot) e) c.in-Err-Faulted.field-0-is refused in
    (refl, (fails.0, fails.1))

pub returns-in-Err-Faulted-clause-work : goal.returns-in-Err-Faulted-clause-work
returns-in-Err-Faulted-clause-work g c =
    let r = c.requires.1.1.1.1 in
    let b = c.args.book.now in
    let slot = c.args.self.now.slot in
    let work = c.args.work.now in
    let piece = c.in-Span.piece in
    let held = c.is_sane.ensures.held in
    let new = c.claim_end-end.new.book in
    let end = c.claim_end-end.result in
    let from = can g.base b slot piece held work c.in-Span.is r.1.1.1.1.1 r.1.1.1.1.0 in
    let claim = made g.base b slot piece held work c.in-Span.is r.1.1.1.1.1 r.1.1.1.1.0 new end c.claim_end-end.ensures.step c.claim_end-end.ensures.end in
    let inside : work.next < end = omega (arith, c.if-p-end.false) in
    let later : Work = record work { stage = stage.Faulted c.in-Err-Faulted.at c.in-Err-Faulted.cause; staged = c.work_at.new.staged } in
    work_failed g.base (known_at new slot) later piece c.in-Span.is c.in-Err-Faulted.at c.in-Err-Faulted.cause refl (no_receipt g.base (known_at b slot) work piece c.in-Span.is r.1.1.1.1.0)
    (failed_inside g.base piece from.now (known_at b slot) work.next end (known_at new slot) claim from.start inside)

pub returns-in-Err-Faulted-clause-reading : goal.returns-in-Err-Faulted-clause-reading
returns-in-Err-Faulted-clause-reading g c =
    let r = c.requires.1.1.1.1 in
    let worker = c.args.worker.now in
    let turned = c.turn_to.new.worker in
    let last = c.work_at.new.worker in
    let stays = c.in-Err-Faulted.ensures.stays in
    reading_then g.base (g.S.Store.opened c.args.kit.now.store) worker.readers.items worker.place worker.bench.pager r.1.1.0 c.in-Span.piece turned.place turned.bench.pager c.turn_to.ensures.turned c.args.graph.now r.0
    (g.S.Store.opened c.work_at.new.kit.store) last.readers.items last.place last.bench.pager stays.kept.reading.openings (c.in-Err-Faulted.ensures.readers ∙ c.turn_to.ensures.readers) c.in-Err-Faulted.ensures.place stays.file
    stays.len stays.able

pub returns-in-Err-NoMemory-clause-claimed : goal.returns-in-Err-NoMemory-clause-claimed
returns-in-Err-NoMemory-clause-claimed g c =
    let inside : c.args.work.now.next < c.claim_end-end.result = omega (arith, c.if-p-end.false) in
    let some : nat_lt c.args.work.now.next c.claim_end-end.result ≡ true = grind (arith, nat_tests) in
    subst (λ (granted : Bool). Makes c.args.book.now c.args.self.now.slot (Claim c.args.work.now.next) (Claimed granted) c.claim_end-end.new.book) some c.claim_end-end.ensures.step

pub returns-in-Err-NoMemory-clause-reading : goal.returns-in-Err-NoMemory-clause-reading
returns-in-Err-NoMemory-clause-reading g c =
    let r = c.requires.1.1.1.1 in
    let worker = c.args.worker.now in
    let turned = c.turn_to.new.worker in
    let last = c.work_at.new.worker in
    let stays = c.in-Err-NoMemory.ensures.stays in
    reading_then g.base (g.S.Store.opened c.args.kit.now.store) worker.readers.items worker.place worker.bench.pager r.1.1.0 c.in-Span.piece turned.place turned.bench.pager c.turn_to.ensures.turned c.args.graph.now r.0
    (g.S.Store.opened c.work_at.new.kit.store) last.readers.items last.place last.bench.pager stays.kept.reading.openings (c.in-Err-NoMemory.ensures.readers ∙ c.turn_to.ensures.readers) c.in-Err-NoMemory.ensures.place stays.file
    stays.len stays.able
