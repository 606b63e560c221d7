-- The form of a book that is stored.
use Rattle.std.specs.Prelude.{◌≡◌, ℕ, ℤ, true, List}
use Rattle.beam_values.specs.declared.arrival.Arrival.{Arrival}
use Rattle.beam_values.specs.declared.cell.Cell.{Cell}
use Rattle.beam_values.specs.declared.cell.Dropped.{Dropped}
use Rattle.beam_values.specs.declared.cell.Pane.{Pane}
use Rattle.beam_values.specs.declared.marks.CommitMarks.{CommitMarks}
use Rattle.beam_values.specs.declared.options.Options.{Options}
use Rattle.beam_values.specs.declared.piece.Dead.{Dead}
use Rattle.beam_values.specs.declared.piece.Done.{Done}
use Rattle.beam_values.specs.declared.piece.FileLen.{FileLen}
use Rattle.beam_values.specs.declared.piece.Piece.{Piece}
use Rattle.beam_values.specs.declared.plan.Plan.{Plan}
use Rattle.value_forms.specs.Cells.{pane_form, cell_form, dropped_form}
use Rattle.value_forms.specs.Commits.{commit_form}
use Rattle.value_forms.specs.Elements.{arrival_form}
use Rattle.value_forms.specs.Forms.{Form, list_form}
use Rattle.value_forms.specs.Numbers.{u32_form, bits_form, mark_form}
use Rattle.value_forms.specs.Pieces.{file_form, piece_form, done_form, dead_form}
use Rattle.value_forms.specs.Plans.{are_options, options_form, plan_form}
use Rattle.value_forms.specs.Structs.{no_more, ◌&◌, struct_form}
use Rattle.stateful_core.specs.declared.data.KeyData.{KeyData}
use Rattle.book_core.specs.declared.data.BookData.{BookData}
use Rattle.book_core.specs.declared.live.Batch.{Batch}
use Rattle.book_core.specs.declared.live.WaitingPane.{WaitingPane}
use Rattle.stateful_core.specs.KeyForms.{key_form}

abbrev pub waiting_pane_fields : WaitingPane → ℕ × (ℤ × Unit {0})
waiting_pane_fields w = (w.pane, (w.hold, tt))

abbrev pub waiting_pane_of : ℕ × (ℤ × Unit {0}) → WaitingPane
waiting_pane_of x = record { pane = x.0; hold = x.1.0 }

abbrev pub waiting_pane_form : Form WaitingPane
waiting_pane_form = struct_form (u32_form & mark_form & no_more) waiting_pane_fields waiting_pane_of

abbrev pub batch_fields : Batch → ℕ × (List WaitingPane × (ℕ × Unit {0}))
batch_fields b = (b.node, (b.panes, (b.attempts, tt)))

abbrev pub batch_from : ℕ × (List WaitingPane × (ℕ × Unit {0})) → Batch
batch_from x = record { node = x.0; panes = x.1.0; attempts = x.1.1.0 }

-- The pane 7 of the node 3, which holds it back at 20 and whose work failed once, is `Seq[Int(3), Seq[Seq[Int(7), Int(20)]], Int(1)]`.
abbrev pub batch_form : Form Batch
batch_form = struct_form (u32_form & list_form waiting_pane_form & u32_form & no_more) batch_fields batch_from

-- the fields from the panes on
abbrev pub EndParts : Type 0
EndParts = List Pane × (List Done × (List Dead × (List Arrival × (List CommitMarks × (ℕ × (ℕ × Unit {0}))))))

abbrev pub BookParts : Type 0
BookParts = Plan × (List FileLen × (Options × (List Piece × (List WaitingPane × (List Batch × (List Cell × (List Dropped × (List KeyData × EndParts))))))))

abbrev pub book_fields : BookData → BookParts
book_fields d = (
  d.plan,
  (
    d.files,
    (
      d.options,
      (
        d.pending,
        (
          d.waiting,
          (
            d.returned,
            (
              d.cells,
              (
                d.dropped,
                (
                  d.keys,
                  (d.panes, (d.done, (d.dead, (d.written, (d.commits, (d.calls, (d.reads, tt))))))),
                ),
              ),
            ),
          ),
        ),
      ),
    ),
  ),
)

abbrev pub book_from : BookParts → BookData
book_from x =
    let end = x.1.1.1.1.1.1.1.1.1 in
    record {
      plan = x.0;
      files = x.1.0;
      options = x.1.1.0;
      pending = x.1.1.1.0;
      waiting = x.1.1.1.1.0;
      returned = x.1.1.1.1.1.0;
      cells = x.1.1.1.1.1.1.0;
      dropped = x.1.1.1.1.1.1.1.0;
      keys = x.1.1.1.1.1.1.1.1.0;
      panes = end.0;
      done = end.1.0;
      dead = end.1.1.0;
      written = end.1.1.1.0;
      commits = end.1.1.1.1.0;
      calls = end.1.1.1.1.1.0;
      reads = end.1.1.1.1.1.1.0;
    }

-- A book is the Seq of its sixteen fields. One over a plan of version 1 without nodes, with the options of a run with no words and nothing else, begins
-- `Seq[Seq[Int(1), Seq[]], Seq[], Seq[Int(4), Int(64), Int(65536), Int(3)], Seq[], ..` and ends `.., Seq[], Int(0), Int(0)]`.
abbrev pub book_form : Form BookData
book_form =
    struct_form
    (plan_form & list_form file_form & options_form & list_form piece_form & list_form waiting_pane_form & list_form batch_form & list_form cell_form & list_form dropped_form
    & list_form key_form & list_form pane_form & list_form done_form & list_form dead_form & list_form arrival_form & list_form commit_form & bits_form & bits_form & no_more)
    book_fields book_from

-- of data that is read again: its options lie within their bounds too
abbrev pub FitsBook : BookData → Type 0
FitsBook d = book_form.Fits d × (are_options d.options ≡ true)
