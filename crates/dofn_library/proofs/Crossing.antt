-- The objects of functions may cross threads, with the keys that they keep, and so may one that fails at listed calls.
use denote.RattleType.{RattleType}
use denote.Param.Send.{IsSend, sendable, view_send}
use denote.Param.SendFields.{as_row_send, declared_send}
use Rattle.std.proofs.Crossing.{crosses}
use Rattle.beam_values.proofs.Crossing.{Boxed-send, List-send, Value-send, Value-sync}
use Rattle.dofn_library.specs.contracts.scripted.Scripted as Scripted
use Rattle.dofn_library.specs.contracts.scripted.Scripted.TheInside as ScriptedInside
use Rattle.dofn_library.specs.contracts.shared_keys.SharedKeys as SharedKeys
use Rattle.dofn_library.specs.contracts.strict.Strict as Strict
use Rattle.dofn_library.specs.contracts.strict.Strict.TheInside as StrictInside

SharedKeys-send : IsSend SharedKeys.the_row
SharedKeys-send = declared_send SharedKeys.the_type (search (Boxed-send, Value-send, Value-sync, as_row_send, sendable, crosses) depth 40)

pub Strict-send : (W : RattleType) → IsSend W → IsSend (Strict.the_row W)
Strict-send W s = view_send _ _ _ _ _ (declared_send (StrictInside.the_type W) (search (SharedKeys-send, as_row_send, sendable, crosses) depth 40))

pub Scripted-send : (D : RattleType) → IsSend D → IsSend (Scripted.the_row D)
Scripted-send D s = view_send _ _ _ _ _ (declared_send (ScriptedInside.the_type D) (search (List-send, as_row_send, sendable, crosses) depth 40))
