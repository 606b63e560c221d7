use Rattle.std.proofs.Common.{◌∷◌, [], None, false, refl}
use Rattle.std.specs.Prelude.{nat_lt}
use Rattle.known_jobs.specs.Calls.{CanClaimAs}
use Rattle.known_jobs.specs.Carried.{can_claim}
use Rattle.known_jobs.specs.Jobs.{known_at, setting_for}
use Rattle.known_jobs.specs.Known.{known_where}
use Rattle.known_jobs.proofs.Claims.{claim_ends, claim_told}
use Rattle.lone_worker.proofs.at_slot.AtSlotClaims.claim_end.Goals as goal

pub claim_end-requires : goal.claim_end-requires
claim_end-requires c =
    let b = c.args.pass.now in
    let slot = c.args.self.now.slot in
    can_claim (setting_for (record { told = None; strict = false }) b) b slot (known_at b slot) refl (known_where (λ known. CanClaimAs known c.args.p) (λ h. h) b slot c.is_sane.ensures.held c.requires.may) c.args.p c.requires.may

pub returns-clause-told : goal.returns-clause-told
returns-clause-told c =
    let b = c.args.pass.now in
    let slot = c.args.self.now.slot in
    claim_told b c.claim_end.new.book slot c.args.p (nat_lt c.args.p c.claim_end.result) (known_at b slot) (known_where (λ known. CanClaimAs known c.args.p) (λ h. h) b slot c.is_sane.ensures.held c.requires.may)
    (c.claim_end.ensures.step None)

pub returns-clause-end : goal.returns-clause-end
returns-clause-end c = claim_ends c.claim_end.new.book c.args.self.now.slot c.claim_end.result c.claim_end.ensures.end

pub returns-clause-stays : goal.returns-clause-stays
returns-clause-stays c = record { claims = record { p = c.args.p; granted = nat_lt c.args.p c.claim_end.result } ∷ []; lead = (c.claim_end.new.book, c.claim_end.ensures.step None, refl) }
