use Rattle.std.proofs.Common.{◌≡◌, ℕ, ◌<◌, Some, None, ap, refl, sym, subst, ◌∙◌, arith}
use Rattle.std.specs.List.{list_any}
use Rattle.beam_ports.specs.Observed.{observed_store}
use Rattle.book_core.specs.Work.{worked_to}
use Rattle.bundle_commit.specs.declared.job.Job.TheVariants as job
use Rattle.chain_exec.specs.Causes.{observed_shelf}
use Rattle.known_jobs.specs.Calls.{CanClaimAs, holds_end}
use Rattle.bundle_work.specs.Bundles.{CanRead}
use Rattle.bundle_work.proofs.Claiming.{can_claim, can_first, first_claimed, goes_on, unspent}
use Rattle.bundle_work.proofs.Jobs.{job_given}
use Rattle.bundle_work.proofs.PieceReads.{end_given, end_honest, none_claimed, nothing_given, reader_for, readers_hold, reading_after, reading_same, turned_able}
use Rattle.bundle_work.proofs.bundles.Worker.work_span.Goals as goal

pub claim_end-end-requires-clause-may : goal.claim_end-end-requires-clause-may
claim_end-end-requires-clause-may g c =
    let piece = c.args.piece.now in
    let known = g.C.Claims.known c.args.claims.now c.args.pass.now in
    subst (λ (q : ℕ). CanClaimAs known q) (sym c.from-from.ensures.value) (can_claim piece known piece.range.from (can_first piece known (unspent piece c.is_some.result c.is_some.ensures c.if-is_some.false) c.requires.1.1.1.1.1.1.1.0 c.from-from.ensures.ordered))

pub returns-then-is_some-clause-given : goal.returns-then-is_some-clause-given
returns-then-is_some-clause-given g c =
    let plan = c.args.graph.now in
    let piece = c.args.piece.now in
    let known = g.C.Claims.known c.args.claims.now c.args.pass.now in
    let none : worked_to piece None ≡ piece.range.from = omega (arith, c.from-from.ensures.ordered) in
    let receipt = c.take_receipt.result in
    let is = c.take_receipt.ensures.same ∙ c.expecting.ensures in
    let time = c.take_receipt.ensures.time in
    job_given g.setting plan c.requires.1.1.1.1.1.1.1.1.0 (job.Span piece) None known c.requires.1.1.1.1.1.1.1.0 receipt (nothing_given None plan piece None receipt none is time)
    (nothing_given g.setting.known.told plan piece None receipt none is time)

pub returns-then-end-from-clause-given : goal.returns-then-end-from-clause-given
returns-then-end-from-clause-given g c =
    let plan = c.args.graph.now in
    let piece = c.args.piece.now in
    let end = c.claim_end-end.result in
    let known = g.C.Claims.known c.args.claims.now c.claim_end-end.new.pass in
    let claim = first_claimed piece (g.C.Claims.known c.args.claims.now c.args.pass.now) c.from-from.result end known (unspent piece c.is_some.result c.is_some.ensures c.if-is_some.false) c.from-from.ensures.value c.requires.1.1.1.1.1.1.1.0 c.from-from.ensures.ordered c.claim_end-end.ensures.told
    c.claim_end-end.ensures.end in
    let empty : piece.range.from ≡ end = omega (arith, claim.1, c.if-end-from.true, c.from-from.ensures.value) in
    let receipt = c.take_receipt-then-end-from.result in
    let is = c.take_receipt-then-end-from.ensures.same ∙ c.expecting.ensures in
    let time = c.take_receipt-then-end-from.ensures.time in
    job_given g.setting plan c.requires.1.1.1.1.1.1.1.1.0 (job.Span claim.0.now) (Some piece.range.from) known claim.0.claimed.is receipt (none_claimed None plan piece end known claim.0 empty receipt is time)
    (none_claimed g.setting.known.told plan piece end known claim.0 empty receipt is time)

pub returns-then-end-from-clause-reading : goal.returns-then-end-from-clause-reading
returns-then-end-from-clause-reading g c =
    let self = c.args.self.now in
    reading_same g.setting.known.told (g.S.Store.opened c.args.kit.now.store) c.args.graph.now self.readers.items self.readers.items self.place self.place self.bench.pager c.take_receipt-then-end-from.new.self.pager refl refl
    c.take_receipt-then-end-from.ensures.pager c.requires.1.1.1.1.1.1.1.1.1.1.0

pub returns-then-end-from-clause-goes_on : goal.returns-then-end-from-clause-goes_on
returns-then-end-from-clause-goes_on g c =
    let piece = c.args.piece.now in
    let known = g.C.Claims.known c.args.claims.now c.claim_end-end.new.pass in
    let claim = first_claimed piece (g.C.Claims.known c.args.claims.now c.args.pass.now) c.from-from.result c.claim_end-end.result known (unspent piece c.is_some.result c.is_some.ensures c.if-is_some.false) c.from-from.ensures.value c.requires.1.1.1.1.1.1.1.0 c.from-from.ensures.ordered
    c.claim_end-end.ensures.told c.claim_end-end.ensures.end in
    goes_on piece claim.0.now piece.range.from known claim.0.claimed

pub turn_to-requires : goal.turn_to-requires
turn_to-requires g c =
    let piece = c.args.piece.now in
    let known = g.C.Claims.known c.args.claims.now c.claim_end-end.new.pass in
    let claim = first_claimed piece (g.C.Claims.known c.args.claims.now c.args.pass.now) c.from-from.result c.claim_end-end.result known (unspent piece c.is_some.result c.is_some.ensures c.if-is_some.false) c.from-from.ensures.value c.requires.1.1.1.1.1.1.1.0 c.from-from.ensures.ordered
    c.claim_end-end.ensures.told c.claim_end-end.ensures.end in
    let some : piece.range.from < piece.range.to = omega (arith, claim.0.ends, claim.0.claimed.below, c.if-end-from.false, c.from-from.ensures.value) in
    readers_hold piece c.args.self.now.readers.items ∙ ap (list_any (holds_end piece)) c.requires.1.1.1.1.1.1.1.1.1.1.1.1 ∙ c.requires.1.1.1.1.1.1.1.1.1.1.1.0 some

pub work_positions-requires-clause-claimed : goal.work_positions-requires-clause-claimed
work_positions-requires-clause-claimed g c κs within =
    (first_claimed c.args.piece.now (g.C.Claims.known c.args.claims.now c.args.pass.now) c.from-from.result c.claim_end-end.result (g.C.Claims.known c.args.claims.now c.claim_end-end.new.pass) (unspent c.args.piece.now c.is_some.result c.is_some.ensures c.if-is_some.false) c.from-from.ensures.value
    c.requires.1.1.1.1.1.1.1.0 c.from-from.ensures.ordered c.claim_end-end.ensures.told c.claim_end-end.ensures.end).0

pub work_positions-requires-clause-inside : goal.work_positions-requires-clause-inside
work_positions-requires-clause-inside g c κs within = omega (arith, c.from-from.ensures.value, c.if-end-from.false)

pub work_positions-requires-clause-nothing : goal.work_positions-requires-clause-nothing
work_positions-requires-clause-nothing g c κs within = c.turn_to.ensures.staging ∙ c.expecting.ensures

pub work_positions-requires-clause-able : goal.work_positions-requires-clause-able
work_positions-requires-clause-able g c κs within =
    let self = c.args.self.now in
    let new = c.turn_to.new.self in
    let turned = c.turn_to.ensures.turned in
    let opened = g.S.Store.opened c.args.kit.now.store in
    let is = turned_able g.setting.known.told opened c.args.graph.now self.readers.items self.place c.args.piece.now new.place self.bench.pager new.bench.pager c.requires.1.1.1.1.1.1.1.1.1.1.0 turned in
    subst (λ (n : ℕ). CanRead c.args.graph.now n (opened new.bench.pager.file) new.bench.pager) (reader_for c.args.piece.now turned.reader turned.is_for).node is.able

pub work_positions-requires-clause-reaches : goal.work_positions-requires-clause-reaches
work_positions-requires-clause-reaches g c κs within =
    let self = c.args.self.now in
    let new = c.turn_to.new.self in
    let turned = c.turn_to.ensures.turned in
    let is = turned_able g.setting.known.told (g.S.Store.opened c.args.kit.now.store) c.args.graph.now self.readers.items self.place c.args.piece.now new.place self.bench.pager new.bench.pager c.requires.1.1.1.1.1.1.1.1.1.1.0 turned in
    omega (arith, is.len, (reader_for c.args.piece.now turned.reader turned.is_for).reaches)

pub returns-in-Ok-clause-claims : goal.returns-in-Ok-clause-claims
returns-in-Ok-clause-claims g c =
    g.met.C.Claims.stays_on c.args.claims.now c.args.pass.now c.claim_end-end.new.pass c.work_positions.new.pass c.claim_end-end.ensures.stays c.in-Ok.ensures.claims

pub returns-in-Ok-clause-given : goal.returns-in-Ok-clause-given
returns-in-Ok-clause-given g c =
    let self = c.args.self.now in
    let new = c.turn_to.new.self in
    let plan = c.args.graph.now in
    let turned = c.turn_to.ensures.turned in
    let opened = g.S.Store.opened c.args.kit.now.store in
    let is = turned_able g.setting.known.told opened plan self.readers.items self.place c.args.piece.now new.place self.bench.pager new.bench.pager c.requires.1.1.1.1.1.1.1.1.1.1.0 turned in
    end_given g.setting opened plan c.requires.1.1.1.1.1.1.1.1.0 self.readers.items c.requires.1.1.1.1.1.1.1.1.1.1.0.all new.place turned.reader turned.at c.args.piece.now turned.is_for (unspent c.args.piece.now c.is_some.result c.is_some.ensures c.if-is_some.false) new.bench.pager is
    (g.C.Claims.known c.args.claims.now c.work_positions.new.pass) c.work_positions.new.self.bench.staging _ _ tt c.in-Ok.ensures.end c.take_receipt-in-Ok.result c.take_receipt-in-Ok.ensures.same
    c.take_receipt-in-Ok.ensures.time

pub returns-in-Ok-clause-goes_on : goal.returns-in-Ok-clause-goes_on
returns-in-Ok-clause-goes_on g c =
    let end = c.in-Ok.ensures.end in
    goes_on c.args.piece.now end.now end.last (g.C.Claims.known c.args.claims.now c.work_positions.new.pass) end.claimed

pub returns-in-Ok-clause-reading : goal.returns-in-Ok-clause-reading
returns-in-Ok-clause-reading g c =
    let self = c.args.self.now in
    let new = c.turn_to.new.self in
    let last = c.work_positions.new.self in
    let plan = c.args.graph.now in
    let told = g.setting.known.told in
    let turned = c.turn_to.ensures.turned in
    let opened = g.S.Store.opened c.args.kit.now.store in
    let later = g.S.Store.opened c.work_positions.new.kit.store in
    let is = turned_able told opened plan self.readers.items self.place c.args.piece.now new.place self.bench.pager new.bench.pager c.requires.1.1.1.1.1.1.1.1.1.1.0 turned in
    let stays = c.in-Ok.ensures.stays in
    let able = subst (λ (n : ℕ). CanRead plan n (later last.bench.pager.file) last.bench.pager) (sym (reader_for c.args.piece.now turned.reader turned.is_for).node) stays.able in
    reading_same told later plan self.readers.items last.readers.items new.place last.place last.bench.pager c.take_receipt-in-Ok.new.self.pager
    (c.in-Ok.ensures.readers ∙ c.turn_to.ensures.readers) c.in-Ok.ensures.place c.take_receipt-in-Ok.ensures.pager
    (reading_after told opened plan self.readers.items new.place later stays.kept.reading.openings c.requires.1.1.1.1.1.1.1.1.1.1.0.all turned.reader turned.at last.bench.pager
    (record { file = stays.file ∙ is.file; len = stays.len ∙ is.len; able = able }))

pub returns-in-Err-clause-claims : goal.returns-in-Err-clause-claims
returns-in-Err-clause-claims g c =
    g.met.C.Claims.stays_on c.args.claims.now c.args.pass.now c.claim_end-end.new.pass c.work_positions.new.pass c.claim_end-end.ensures.stays c.in-Err.ensures.claims

pub returns-in-Err-clause-refused : goal.returns-in-Err-clause-refused
returns-in-Err-clause-refused g c =
    let self = c.args.self.now in
    let new = c.turn_to.new.self in
    let plan = c.args.graph.now in
    let turned = c.turn_to.ensures.turned in
    let opened = g.S.Store.opened c.args.kit.now.store in
    let is = turned_able g.setting.known.told opened plan self.readers.items self.place c.args.piece.now new.place self.bench.pager new.bench.pager c.requires.1.1.1.1.1.1.1.1.1.1.0 turned in
    end_honest g.setting opened plan c.requires.1.1.1.1.1.1.1.1.0 self.readers.items c.requires.1.1.1.1.1.1.1.1.1.1.0.all new.place turned.reader turned.at c.args.piece.now turned.is_for (unspent c.args.piece.now c.is_some.result c.is_some.ensures c.if-is_some.false) new.bench.pager is
    (g.C.Claims.known c.args.claims.now c.work_positions.new.pass) c.work_positions.new.self.bench.staging (Unit {0}) (observed_shelf g.F.Shelf.strict g.F.Shelf.faults c.args.kit.now.shelf c.work_positions.new.kit.shelf)
    (observed_store g.S.Store.files g.S.Store.faults c.args.kit.now.store c.work_positions.new.kit.store) c.requires.1.1.1.1.1.1.1.1.1.0 c.in-Err.refusal c.in-Err.ensures.end

pub returns-in-Err-clause-reading : goal.returns-in-Err-clause-reading
returns-in-Err-clause-reading g c =
    let self = c.args.self.now in
    let new = c.turn_to.new.self in
    let last = c.work_positions.new.self in
    let plan = c.args.graph.now in
    let told = g.setting.known.told in
    let turned = c.turn_to.ensures.turned in
    let opened = g.S.Store.opened c.args.kit.now.store in
    let later = g.S.Store.opened c.work_positions.new.kit.store in
    let is = turned_able told opened plan self.readers.items self.place c.args.piece.now new.place self.bench.pager new.bench.pager c.requires.1.1.1.1.1.1.1.1.1.1.0 turned in
    let stays = c.in-Err.ensures.stays in
    let able = subst (λ (n : ℕ). CanRead plan n (later last.bench.pager.file) last.bench.pager) (sym (reader_for c.args.piece.now turned.reader turned.is_for).node) stays.able in
    reading_same told later plan self.readers.items last.readers.items new.place last.place last.bench.pager last.bench.pager (c.in-Err.ensures.readers ∙ c.turn_to.ensures.readers) c.in-Err.ensures.place refl
    (reading_after told opened plan self.readers.items new.place later stays.kept.reading.openings c.requires.1.1.1.1.1.1.1.1.1.1.0.all turned.reader turned.at last.bench.pager
    (record { file = stays.file ∙ is.file; len = stays.len ∙ is.len; able = able }))
