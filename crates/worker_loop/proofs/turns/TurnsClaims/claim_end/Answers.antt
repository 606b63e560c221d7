use Rattle.std.proofs.Common.{IsSome, [], ◌∷◌, nat_lt, refl, subst, sym}
use Rattle.worker_table.specs.Passes.{note_of_pass}
use Rattle.worker_loop.proofs.turns.TurnsClaims.claim_end.Goals as goal

pub returns-clause-stays : goal.returns-clause-stays
returns-clause-stays g c =
    let claimed = c.claim_end.ensures in
    record {
      earlier = note_of_pass c.args.pass.now ∷ [];
      claims = ((c.args.p, nat_lt c.args.p c.claim_end.result, claimed.turn), refl);
      stays = claimed.stays;
      others = claimed.others;
      job = λ some. subst IsSome (sym claimed.told.is) refl;
    }
