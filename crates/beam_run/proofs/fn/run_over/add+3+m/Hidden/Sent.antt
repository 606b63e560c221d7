-- The functions of this shelf may cross threads.
use denote.Param.Send.{sendable}
use denote.Param.Sent.{Sends}
use Rattle.dofn_library.proofs.Crossing.{Strict-send}
use Rattle.beam_run.proofs.fn.run_over.add+3+m.Hides as hides

pub sends-part-1-1 : Sends hides.part-1-1
sends-part-1-1 = search (Strict-send, sendable) depth 40

pub sends-part-1-2 : Sends hides.part-1-2
sends-part-1-2 = search (Strict-send, sendable) depth 40

pub sends-part-1-3 : Sends hides.part-1-3
sends-part-1-3 = search (Strict-send, sendable) depth 40

pub sends-part-1-4 : Sends hides.part-1-4
sends-part-1-4 = search (Strict-send, sendable) depth 40
