-- Which of the data may cross threads.
use denote.RattleType.{RattleType}
use denote.Param.Send.{IsSend, IsSync, sendable}
use denote.Param.SendFields.{as_row_send, as_row_sync, declared_send, declared_sync, variants_send, variants_sync}
use denote.Hole.FixSend.{Crosses, both_send, both_sync}
use Rattle.std.proofs.Crossing.{crosses}
use Rattle.beam_containers.specs.contracts.boxed.Boxed as Boxed
use Rattle.beam_containers.specs.contracts.bytes.Bytes as Bytes
use Rattle.beam_containers.specs.contracts.list.List as List
use Rattle.beam_values.specs.contracts.element.Element as Element
use Rattle.beam_values.specs.contracts.arrival.Arrival as Arrival
use Rattle.beam_values.specs.contracts.cell.Pane as Pane
use Rattle.beam_values.specs.contracts.cell.Entry as Entry
use Rattle.beam_values.specs.contracts.cell.Dropped as Dropped
use Rattle.beam_values.specs.contracts.cell.Cell as Cell
use Rattle.beam_values.specs.contracts.state_cell.StateCell as StateCell
use Rattle.beam_values.specs.contracts.log.LogEntry as LogEntry
use Rattle.beam_values.specs.contracts.log.LogInput as LogInput
use Rattle.beam_values.specs.contracts.log.KeyLog as KeyLog
use Rattle.beam_values.specs.contracts.plan.Args as Args
use Rattle.beam_values.specs.contracts.plan.Bar as Bar
use Rattle.beam_values.specs.contracts.plan.Trigger as Trigger
use Rattle.beam_values.specs.contracts.plan.Node as Node
use Rattle.beam_values.specs.contracts.plan.NodeKind as NodeKind
use Rattle.beam_values.specs.contracts.plan.Plan as Plan
use Rattle.beam_values.specs.contracts.marks.CommitMarks as CommitMarks
use Rattle.beam_values.specs.contracts.marks.StageMarks as StageMarks
use Rattle.beam_values.specs.contracts.value.Value as Value
use Rattle.beam_values.specs.contracts.value.Value.TheKnot as knot

pub Boxed-send : (T : RattleType) → IsSend T → IsSync T → IsSend (Boxed.the_row T)
Boxed-send T s y = search (sendable, crosses) depth 40

pub Boxed-sync : (T : RattleType) → IsSend T → IsSync T → IsSync (Boxed.the_row T)
Boxed-sync T s y = search (sendable, crosses) depth 40

pub Bytes-send : IsSend Bytes.the_row
Bytes-send = search (sendable, crosses) depth 40

pub Bytes-sync : IsSync Bytes.the_row
Bytes-sync = search (sendable, crosses) depth 40

pub List-send : (T : RattleType) → IsSend T → IsSend (List.the_row T)
List-send T s = search (sendable, crosses) depth 40

pub List-sync : (T : RattleType) → IsSync T → IsSync (List.the_row T)
List-sync T y = search (sendable, crosses) depth 40

step : (i : knot.the_members) → Crosses Value.the_ring i
step = Value.by_members (Crosses Value.the_ring) (record {
  send = λ h s y. let Value-s = s Value.the_member in let Value-y = y Value.the_member in variants_send (knot.type-Value (h Value.the_member) (h Value.the_member) (h Value.the_member)) (search (as_row_send, Boxed-send, Bytes-send, List-send, Value-s, Value-y, sendable) depth 40);
  sync = λ h s y. let Value-s = s Value.the_member in let Value-y = y Value.the_member in variants_sync (knot.type-Value (h Value.the_member) (h Value.the_member) (h Value.the_member)) (search (as_row_sync, Boxed-sync, Bytes-sync, List-sync, Value-s, Value-y, sendable) depth 40);
})

hole_send : IsSend Value.the_hole
hole_send = both_send Value.the_ring step Value.the_member

hole_sync : IsSync Value.the_hole
hole_sync = both_sync Value.the_ring step Value.the_member

pub Value-send : IsSend Value.the_row
Value-send = search (Boxed-send, Bytes-send, List-send, hole_send, hole_sync, sendable) depth 40

pub Value-sync : IsSync Value.the_row
Value-sync = search (Boxed-sync, Bytes-sync, List-sync, hole_send, hole_sync, sendable) depth 40

pub Element-send : IsSend Element.the_row
Element-send = declared_send Element.the_type (search (Value-send, as_row_send, sendable) depth 40)

pub Arrival-send : IsSend Arrival.the_row
Arrival-send = declared_send Arrival.the_type (search (Element-send, as_row_send, sendable) depth 40)

pub Pane-send : IsSend Pane.the_row
Pane-send = declared_send Pane.the_type (search (Element-send, as_row_send, sendable) depth 40)

pub Entry-send : IsSend Entry.the_row
Entry-send = declared_send Entry.the_type (search (Element-send, as_row_send, sendable) depth 40)

pub Dropped-send : IsSend Dropped.the_row
Dropped-send = declared_send Dropped.the_type (search (Element-send, as_row_send, sendable) depth 40)

pub Cell-send : IsSend Cell.the_row
Cell-send = declared_send Cell.the_type (search (Value-send, Entry-send, List-send, as_row_send, sendable) depth 40)

pub StateCell-send : IsSend StateCell.the_row
StateCell-send = variants_send StateCell.enum (search (Bytes-send, Value-send, List-send, as_row_send, sendable) depth 40)

pub LogInput-send : IsSend LogInput.the_row
LogInput-send = variants_send LogInput.enum (search (Element-send, as_row_send, sendable) depth 40)

pub LogEntry-send : IsSend LogEntry.the_row
LogEntry-send = declared_send LogEntry.the_type (search (LogInput-send, Element-send, List-send, as_row_send, sendable) depth 40)

pub KeyLog-send : IsSend KeyLog.the_row
KeyLog-send = declared_send KeyLog.the_type (search (Value-send, LogEntry-send, List-send, as_row_send, sendable) depth 40)

pub StageMarks-send : IsSend StageMarks.the_row
StageMarks-send = declared_send StageMarks.the_type (search (as_row_send, sendable) depth 40)

StageMarks-sync : IsSync StageMarks.the_row
StageMarks-sync = declared_sync StageMarks.the_type (search (as_row_sync, sendable) depth 40)

marks-send : IsSend (List.the_row StageMarks.the_row)
marks-send = List-send StageMarks.the_row StageMarks-send

marks-sync : IsSync (List.the_row StageMarks.the_row)
marks-sync = List-sync StageMarks.the_row StageMarks-sync

boxed_marks-send : IsSend (Boxed.the_row (List.the_row StageMarks.the_row))
boxed_marks-send = Boxed-send (List.the_row StageMarks.the_row) marks-send marks-sync

pub CommitMarks-send : IsSend CommitMarks.the_row
CommitMarks-send = declared_send CommitMarks.the_type (search (boxed_marks-send, as_row_send, sendable) depth 40)

pub Args-send : IsSend Args.the_row
Args-send = variants_send Args.enum (search (Bytes-send, as_row_send, sendable) depth 40)

pub Bar-send : IsSend Bar.the_row
Bar-send = declared_send Bar.the_type (search (as_row_send, sendable) depth 40)

pub Trigger-send : IsSend Trigger.the_row
Trigger-send = declared_send Trigger.the_type (search (Bar-send, List-send, as_row_send, sendable) depth 40)

pub NodeKind-send : IsSend NodeKind.the_row
NodeKind-send = variants_send NodeKind.enum (search (Args-send, Bytes-send, List-send, Trigger-send, as_row_send, sendable) depth 40)

pub Node-send : IsSend Node.the_row
Node-send = declared_send Node.the_type (search (NodeKind-send, List-send, as_row_send, sendable) depth 40)

pub Plan-send : IsSend Plan.the_row
Plan-send = declared_send Plan.the_type (search (Node-send, List-send, as_row_send, sendable) depth 40)

pub Args-sync : IsSync Args.the_row
Args-sync = variants_sync Args.enum (search (Bytes-sync, as_row_sync, sendable) depth 40)

pub Bar-sync : IsSync Bar.the_row
Bar-sync = declared_sync Bar.the_type (search (as_row_sync, sendable) depth 40)

pub Trigger-sync : IsSync Trigger.the_row
Trigger-sync = declared_sync Trigger.the_type (search (Bar-sync, List-sync, as_row_sync, sendable) depth 40)

pub NodeKind-sync : IsSync NodeKind.the_row
NodeKind-sync = variants_sync NodeKind.enum (search (Args-sync, Bytes-sync, List-sync, Trigger-sync, as_row_sync, sendable) depth 40)

pub Node-sync : IsSync Node.the_row
Node-sync = declared_sync Node.the_type (search (NodeKind-sync, List-sync, as_row_sync, sendable) depth 40)

pub Plan-sync : IsSync Plan.the_row
Plan-sync = declared_sync Plan.the_type (search (Node-sync, List-sync, as_row_sync, sendable) depth 40)
