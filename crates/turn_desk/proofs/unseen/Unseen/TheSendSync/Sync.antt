-- It owns nothing, so any thread may share it.
use denote.RattleType.{RattleType}
use denote.Param.Send.{IsSync, part_keyless}
use Rattle.turn_desk.specs.contracts.unseen.Unseen.{the_row}
use Rattle.turn_desk.proofs.unseen.Unseen.TheSendSync.Send.{send}

pub sync : (Y : RattleType) → IsSync (the_row Y)
sync Y = record { shared = λ d b o κ q. part_keyless (the_row Y) (send Y) q d b o }
