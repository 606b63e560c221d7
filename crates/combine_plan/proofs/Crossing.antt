-- What a kit has of its own may cross threads, and so may the call that the kits share.
use Prim.Native.Nat.{ℕ}
use mathlib.Core.List.{List, [], ◌∷◌}
use mir.Syntax.{Sym, Ty}
use denote.Exit.{no}
use denote.RattleType.{RattleType}
use denote.Ref.{NamedLft, ShrRef}
use denote.Param.{arg, param}
use denote.Param.Send.{IsSend, IsSync, arg_sync, param_sync, sendable, shr_sync, view_send, view_sync}
use denote.Param.SendFields.{as_row_send, as_row_sync, declared_send, declared_sync}
use denote.Struct.Field.{row_field}
use denote.Struct.Tuple.{TupleAt, type_at}
use Rattle.std.proofs.Crossing.{crosses}
use Rattle.std.proofs.MapsCrossing.{crosses as maps}
use Rattle.std.specs.contracts.alloc.Global as Global
use Rattle.beam_values.proofs.Crossing.{List-send, List-sync, Plan-sync, Value-send}
use Rattle.beam_values.specs.contracts.options.Options as Options
use Rattle.beam_values.specs.contracts.piece.Piece as Piece
use Rattle.windowing.specs.contracts.facts.NodeFacts as NodeFacts
use Rattle.pipeline_graph.specs.contracts.graph.Graph as Graph
use Rattle.pipeline_graph.specs.contracts.graph.Graph.TheInside as GraphInside
use Rattle.cell_index.specs.contracts.index.CellIndex as CellIndex
use Rattle.cell_index.specs.contracts.index_key.CellKey as CellKey
use Rattle.cell_index.specs.contracts.index_key.IndexKey as IndexKey
use Rattle.cell_index.specs.contracts.index_key.IndexKey.TheInside as IndexKeyInside
use Rattle.combine_lift.specs.contracts.partials.Partials as Partials
use Rattle.combine_lift.specs.contracts.partials.Partials.TheInside as PartialsInside
use Rattle.combine_lift.specs.contracts.row.Row as Row
use Rattle.combine_lift.specs.declared.combiner.Combiner.{Ghosts}
use Rattle.combine_plan.specs.contracts.crew.Seat as Seat

-- ---- seats

CellKey-send : IsSend CellKey.the_row
CellKey-send = declared_send CellKey.the_type (search (Value-send, as_row_send, sendable) depth 40)

IndexKey-send : IsSend IndexKey.the_row
IndexKey-send = view_send _ _ _ _ _ (declared_send IndexKeyInside.the_type (search (CellKey-send, as_row_send, sendable) depth 40))

CellIndex-send : IsSend CellIndex.the_row
CellIndex-send = declared_send CellIndex.the_type (search (IndexKey-send, as_row_send, sendable, crosses, maps) depth 40)

Row-send : (A : RattleType) → IsSend A → IsSend (Row.the_row A)
Row-send A s = declared_send (Row.the_type A) (search (Value-send, as_row_send, sendable) depth 40)

pub Partials-send : (C A : RattleType) (g : Ghosts C.Denot A.Denot) → IsSend C → IsSend A → IsSend (Partials.the_row C A g)
Partials-send C A g s a = view_send _ _ _ _ _ (declared_send (PartialsInside.the_type C A g) (search (Row-send, CellIndex-send, as_row_send, sendable, crosses) depth 40))

Piece-send : IsSend Piece.the_row
Piece-send = search (sendable, crosses) depth 40

pub Seat-send : (P : RattleType) → IsSend P → IsSend (Seat.the_row P)
Seat-send P s = declared_send (Seat.the_type P) (search (List-send, Piece-send, as_row_send, sendable, crosses) depth 40)

-- ---- the call

NodeFacts-sync : IsSync NodeFacts.the_row
NodeFacts-sync = search sendable depth 40

Graph-sync : IsSync Graph.the_row
Graph-sync = view_sync _ _ _ _ _ (declared_sync GraphInside.the_type (search (Plan-sync, NodeFacts-sync, List-sync, as_row_sync, sendable) depth 40))

Global-sync : IsSync Global.the_row
Global-sync = search (sendable, crosses) depth 40

Options-sync : IsSync Options.the_row
Options-sync = search sendable depth 40

-- references to what the kits share
abbrev shared_rows : (C : RattleType) (a g o c : NamedLft) → List RattleType
shared_rows C a g o c = ShrRef a.mir a.lft Global.the_row ∷ ShrRef g.mir g.lft Graph.the_row ∷ ShrRef o.mir o.lft Options.the_row ∷ ShrRef c.mir c.lft C ∷ []

-- a call that has them may be shared by threads, where the combiner may
pub call_sync : (i : ℕ) (δ : Ty) (ν : Sym) (C : RattleType) (a g o c : NamedLft) → IsSync C → IsSync (param i (arg δ no (TupleAt ν (shared_rows C a g o c))))
call_sync i δ ν C a g o c s =
    let rows : List RattleType = shared_rows C a g o c in
    param_sync i (arg δ no (TupleAt ν rows)) (arg_sync δ no (TupleAt ν rows) (declared_sync (type_at ν rows) (
      as_row_sync (row_field (ShrRef a.mir a.lft Global.the_row)) (shr_sync a.mir a.lft Global.the_row Global-sync),
      (
        as_row_sync (row_field (ShrRef g.mir g.lft Graph.the_row)) (shr_sync g.mir g.lft Graph.the_row Graph-sync),
        (
          as_row_sync (row_field (ShrRef o.mir o.lft Options.the_row)) (shr_sync o.mir o.lft Options.the_row Options-sync),
          (as_row_sync (row_field (ShrRef c.mir c.lft C)) (shr_sync c.mir c.lft C s), tt),
        ),
      ),
    )))
