-- What a worker has of its own may cross threads, and so may the call that the workers share.
use Prim.Native.Nat.{ℕ}
use mathlib.Core.List.{List, [], ◌∷◌}
use mir.Syntax.{Sym, Ty}
use denote.Exit.{no}
use denote.RattleType.{RattleType}
use denote.Ref.{NamedLft, ShrRef}
use denote.Param.{arg, param}
use denote.Param.Send.{IsSend, IsSync, arg_sync, param_sync, sendable, shr_sync}
use denote.Param.SendFields.{as_row_send, as_row_sync, declared_send, declared_sync}
use denote.Struct.Field.{row_field}
use denote.Struct.Tuple.{TupleAt, type_at}
use Rattle.std.specs.contracts.alloc.Global as Global
use Rattle.beam_values.specs.contracts.options.Options as Options
use Rattle.pipeline_graph.specs.contracts.graph.Graph as Graph
use Rattle.worker_table.specs.contracts.pass.Table as Table
use Rattle.worker_table.proofs.Crossing.{Graph-sync, Table-sync, WorkerPass-send}
use Rattle.std.proofs.Crossing.{crosses}
use Rattle.worker_loop.specs.contracts.crew.Seat as Seat

pub Seat-send : IsSend Seat.the_row
Seat-send = declared_send Seat.the_type (search (WorkerPass-send, as_row_send, sendable) depth 40)

Global-sync : IsSync Global.the_row
Global-sync = search (sendable, crosses) depth 40

Options-sync : IsSync Options.the_row
Options-sync = search sendable depth 40

-- references to what the workers share
abbrev shared_rows : (R G : RattleType) (r a t g o h : NamedLft) → List RattleType
shared_rows R G r a t g o h =
    ShrRef r.mir r.lft R ∷ ShrRef a.mir a.lft Global.the_row ∷ ShrRef t.mir t.lft Table.the_row ∷ ShrRef g.mir g.lft Graph.the_row ∷ ShrRef o.mir o.lft Options.the_row ∷ ShrRef h.mir h.lft G ∷ []

-- a call that has them may be shared by threads, where the runtime and the gate may
pub call_sync : (i : ℕ) (δ : Ty) (ν : Sym) (R G : RattleType) (r a t g o h : NamedLft) → IsSync R → IsSync G → IsSync (param i (arg δ no (TupleAt ν (shared_rows R G r a t g o h))))
call_sync i δ ν R G r a t g o h sr sg =
    let rows : List RattleType = shared_rows R G r a t g o h in
    param_sync i (arg δ no (TupleAt ν rows)) (arg_sync δ no (TupleAt ν rows) (declared_sync (type_at ν rows) (
      as_row_sync (row_field (ShrRef r.mir r.lft R)) (shr_sync r.mir r.lft R sr),
      (
        as_row_sync (row_field (ShrRef a.mir a.lft Global.the_row)) (shr_sync a.mir a.lft Global.the_row Global-sync),
        (
          as_row_sync (row_field (ShrRef t.mir t.lft Table.the_row)) (shr_sync t.mir t.lft Table.the_row Table-sync),
          (
            as_row_sync (row_field (ShrRef g.mir g.lft Graph.the_row)) (shr_sync g.mir g.lft Graph.the_row Graph-sync),
            (
              as_row_sync (row_field (ShrRef o.mir o.lft Options.the_row)) (shr_sync o.mir o.lft Options.the_row Options-sync),
              (as_row_sync (row_field (ShrRef h.mir h.lft G)) (shr_sync h.mir h.lft G sg), tt),
            ),
          ),
        ),
      ),
    )))
