-- Runs of the pipeline over one file by one worker: the books, the marks of a commit, and what keeps panes legal where all that the Group takes has the key `a`.
use Rattle.std.proofs.Common.{◌≡◌, ℕ, zero, suc, ◌≤◌, ℤ, Bool, true, false, List, [], ◌∷◌, length, map, cond, refl, sym, ap, subst, arith}
use Rattle.std.specs.Prelude.{◌≤ℤ◌, bytes_eq, slice_get, Option, Some, None}
use Rattle.std.specs.List.{All}
use Rattle.std.proofs.lemmas.Int.{ints}
use Rattle.std.proofs.lemmas.List.Elements.{All-nil, All-cons}
use Rattle.beam_values.specs.Grouping.{pane_as, part_of}
use Rattle.beam_values.specs.Intervals.{Interval}
use Rattle.beam_values.specs.Marks.{AreMarks, marks_at, node_marks}
use Rattle.beam_values.specs.Nodes.{is_group, strategy_of}
use Rattle.beam_values.specs.Times.{final_mark, least_time}
use Rattle.beam_values.specs.declared.arrival.Arrival.{Arrival}
use Rattle.beam_values.specs.declared.cell.Cell.{Cell}
use Rattle.beam_values.specs.declared.cell.Dropped.{Dropped}
use Rattle.beam_values.specs.declared.cell.Pane.{Pane}
use Rattle.beam_values.specs.declared.element.Element.{Element}
use Rattle.beam_values.specs.declared.marks.CommitMarks.{CommitMarks}
use Rattle.beam_values.specs.declared.marks.StageMarks.{StageMarks}
use Rattle.beam_values.specs.declared.options.Options.{Options}
use Rattle.beam_values.specs.declared.piece.Done.{Done}
use Rattle.beam_values.specs.declared.piece.Piece.{Piece}
use Rattle.beam_values.specs.declared.plan.Estimator.{Estimator}
use Rattle.beam_values.specs.declared.plan.Node.{Node}
use Rattle.beam_values.specs.declared.plan.Plan.{Plan}
use Rattle.beam_values.specs.declared.plan.Trigger.{Trigger}
use Rattle.beam_values.specs.declared.value.Value.{Value}
use Rattle.beam_values.specs.Spelling.{spelling}
use Rattle.beam_values.specs.declared.element.Timing.{Timing}
use Rattle.beam_values.specs.declared.value.Value.TheViews.{out-roll-Value}
use Rattle.beam_values.proofs.Bags.{bag_from_same}
use Rattle.beam_model.specs.Panes.{GroupRules, IsFiredAs, IsPaneOf, Taken, panes_at, rules_of, taken_entry}
use Rattle.beam_model.specs.Values.{blob}
use Rattle.group_cells.specs.Cells.{FiresIts, entries_held, firing_of, once_fired}
use Rattle.group_cells.specs.Commits.{HasLength, NeverFalls, NoneFalls, AreRounds, cells_keyed, elements_keyed}
use Rattle.group_cells.specs.Rounds.{IsRound}
use Rattle.book_core.specs.Book.{SeenBook}
use Rattle.book_core.specs.Runs.{AreOptions}
use Rattle.book_core.specs.declared.live.Live.{Live}
use Rattle.book_core.specs.declared.live.WaitingPane.{WaitingPane}
use Rattle.ended_runs.proofs.Pipeline.{pipeline, key, of_group}

pub none : {X : Type 0} (P : X → Type 0) → All P []
none P = All-nil P

pub one : {X : Type 0} (P : X → Type 0) (x : X) → P x → All P (x ∷ [])
one P x h = All-cons P x [] h (All-nil P)

-- ---- books

-- bundles of one line
abbrev pub options : Options
options = record { workers = 1; bundle = 1; chunk = 65536; attempts = 3 }

pub allowed : AreOptions options
allowed = record {
  workers = (omega arith, omega arith);
  bundle = (omega arith, omega arith);
  chunk = (omega arith, omega arith);
  attempts = (omega arith, omega arith);
}

-- the first piece, of a file of this length, and what a first commit up to the offset 1 leaves of it
abbrev pub whole : ℕ → Piece
whole len = record { node = 0; item = 0; range = record { from = 0; to = len }; seen = least_time; attempts = 0; spent = None }

abbrev pub rest : ℕ → ℤ → Piece
rest len seen = record { node = 0; item = 0; range = record { from = 1; to = len }; seen = seen; attempts = 0; spent = None }

abbrev pub done_to : ℕ → ℕ → Done
done_to from to = record { node = 0; item = 0; range = record { from = from; to = to } }

-- what a run came to so far
pub record SoFar : Type 0 where
  pub cells : List Cell
  pub dropped : List Dropped
  pub panes : List Pane
  pub done : List Done
  pub written : List Arrival
  pub commits : List CommitMarks

-- its book: pieces that wait, slots, and panes that wait at the Group
abbrev pub book_of : Plan → ℕ → SoFar → List Piece → List (Option Live) → List WaitingPane → SeenBook
book_of plan len so_far pending slots waiting = record {
  plan = plan;
  files = record { node = 0; item = 0; len = len } ∷ [];
  options = options;
  pending = pending;
  slots = slots;
  queues = [] ∷ [] ∷ [] ∷ waiting ∷ [] ∷ [];
  returned = [];
  cells = so_far.cells;
  dropped = so_far.dropped;
  keys = [];
  panes = so_far.panes;
  done = so_far.done;
  dead = [];
  written = so_far.written;
  commits = so_far.commits;
  calls = 0;
  reads = 0;
  stopped = None;
}

-- ---- marks

abbrev pub stage : ℤ → ℤ → StageMarks
stage into after = record { mark_in = into; mark_out = after }

-- the marks of the five nodes, where the source is held at one mark and the Group at another
abbrev pub marks_of : ℤ → ℤ → List StageMarks
marks_of source group = stage final_mark source ∷ stage source source ∷ stage source source ∷ stage source group ∷ stage group group ∷ []

-- marks that rise at the source and at the Group fall nowhere
pub none_falls : (source group later_source later_group : ℤ) → source ≤ℤ later_source → group ≤ℤ later_group → NoneFalls (marks_of source group) (marks_of later_source later_group)
none_falls source group later_source later_group h g zero = (omega (arith, ints), h)
none_falls source group later_source later_group h g (suc zero) = (h, h)
none_falls source group later_source later_group h g (suc (suc zero)) = (h, h)
none_falls source group later_source later_group h g (suc (suc (suc zero))) = (h, g)
none_falls source group later_source later_group h g (suc (suc (suc (suc zero)))) = (g, g)
none_falls source group later_source later_group h g (suc (suc (suc (suc (suc n))))) = (omega (arith, ints), omega (arith, ints))

-- after the opening alone
pub opening_never_falls : (opening : CommitMarks) → NeverFalls (opening ∷ [])
opening_never_falls opening = record { each = λ c old new first second. absurd (cc) }

same_some : (a b : Node) → Some a ≡ Some b → a ≡ b
same_some a b e = cc

-- ---- a round of the Group

abbrev pub rules : Trigger → GroupRules
rules trigger = record { merges = false; trigger = trigger }

-- of a key that neither the commit nor the Group has
pub nothing_round : (trigger : Trigger) (k : Value) (c : ℕ) (before after : ℤ) → IsRound (rules trigger) 3 k c before after [] [] [] []
nothing_round trigger k c before after = record {
  openings = [];
  keyed = none _;
  windows = λ w. (λ h. h, λ h. h);
  placed = [];
  places = refl;
  fires = refl;
  panes = record { each = none _; only = none _ };
}

-- of a commit that brings nothing to the Group, where its cell fires nothing
pub quiet_round : (trigger : Trigger) (cell : Cell) (k : Value) (own : Bool) (c : ℕ) (before after : ℤ) → firing_of (rules trigger) after cell ≡ None
    → IsRound (rules trigger) 3 k c before after [] (cond own (cell ∷ []) []) (cond own (cell ∷ []) []) []
quiet_round trigger cell k false c before after quiet = nothing_round trigger k c before after
quiet_round trigger cell k true c before after quiet = record {
  openings = [];
  keyed = none _;
  windows = λ w. (λ h. h, λ h. h);
  placed = cell ∷ [];
  places = refl;
  fires = ap (λ (timing : Option Timing). once_fired timing cell ∷ []) (sym quiet);
  panes = record {
    each = one (FiresIts (rules trigger) 3 k c after []) cell
        (λ stands. subst (λ (timing : Option Timing). IsFiredAs 3 k c cell.span cell.next_index (map (taken_entry 3) (entries_held trigger.mode cell.entries)) timing []) (sym quiet) refl);
    only = none _;
  };
}

-- the pane of a cell that holds one entry
pub shows_one : (k : Value) → bytes_eq (spelling key) (spelling k) ≡ true → (c : ℕ) (w : Interval) (timing : Timing) (index : ℕ) (text : List ℕ) (t : Taken) → part_of t.element ≡ blob text
    → IsPaneOf 3 k c w timing index (t ∷ []) (record { node = 3; element = pane_as (record { timing = timing; index = index }) key w (blob text ∷ []); commit = c })
shows_one k own c w timing index text t part = record {
  parts = blob text ∷ [];
  holds = simp out-roll-Value refl;
  keyed = simp out-roll-Value own;
  ascending = λ j d from within. absurd (omega arith);
  all = bag_from_same (blob text ∷ []) (map (λ (u : Taken). part_of u.element) (t ∷ [])) (ap (λ (v : Value). v ∷ []) (sym part));
  here = refl;
  commit = refl;
}

module _ (estimator : Estimator) (trigger : Trigger) where
  pub are_marks : (hold : ℕ → ℤ) (marks : List StageMarks) → length marks ≡ 5
      → marks_at marks 0 ≡ node_marks marks [] (hold 0) → marks_at marks 1 ≡ node_marks marks (0 ∷ []) (hold 1) → marks_at marks 2 ≡ node_marks marks (1 ∷ []) (hold 2)
      → marks_at marks 3 ≡ node_marks marks (2 ∷ []) (hold 3) → marks_at marks 4 ≡ node_marks marks (3 ∷ []) (hold 4)
      → AreMarks (pipeline estimator trigger) hold marks
  are_marks hold marks sized at0 at1 at2 at3 at4 = record { sized = sized; each = each }
    where
      of : (n : ℕ) (a node : Node) → marks_at marks n ≡ node_marks marks a.inputs (hold n) → Some a ≡ Some node → marks_at marks n ≡ node_marks marks node.inputs (hold n)
      of n a node is e = subst (λ (it : Node). marks_at marks n ≡ node_marks marks it.inputs (hold n)) (same_some a node e) is

      each : (n : ℕ) (node : Node) → slice_get (pipeline estimator trigger).nodes n ≡ Some node → marks_at marks n ≡ node_marks marks node.inputs (hold n)
      each zero node e = of 0 _ node at0 e
      each (suc zero) node e = of 1 _ node at1 e
      each (suc (suc zero)) node e = of 2 _ node at2 e
      each (suc (suc (suc zero))) node e = of 3 _ node at3 e
      each (suc (suc (suc (suc zero)))) node e = of 4 _ node at4 e
      each (suc (suc (suc (suc (suc n))))) node e = absurd (cc)

  -- ---- a commit

  no_gap : (n : ℕ) → (e : Element) → HasLength (strategy_of (pipeline estimator trigger) n) e.span
  no_gap zero e = tt
  no_gap (suc zero) e = tt
  no_gap (suc (suc zero)) e = tt
  no_gap (suc (suc (suc zero))) e = tt
  no_gap (suc (suc (suc (suc zero)))) e = tt
  no_gap (suc (suc (suc (suc (suc n))))) e = tt

  -- the rounds of all keys, where one cell is left and at most one pane fires
  pub all_rounds : (c : ℕ) (before after : List StageMarks) (arrivals : List Arrival) (cells : List Cell) (cell : Cell) (fired : List Pane)
      → ((k : Value) → IsRound (rules trigger) 3 k c (marks_at before 3).mark_in (marks_at after 3).mark_in (elements_keyed 3 k arrivals) (cells_keyed 3 k cells) (cells_keyed 3 k (cell ∷ [])) (panes_at 3 k fired))
      → is_group (pipeline estimator trigger) cell.node ≡ true → All (λ pane. is_group (pipeline estimator trigger) pane.node ≡ true) fired → All (λ pane. pane.commit ≡ c) fired
      → length fired ≤ 1 → AreRounds (pipeline estimator trigger) c before after arrivals cells (cell ∷ []) fired
  all_rounds c before after arrivals cells cell fired rounds here at_groups of_commit few = record {
    each = λ n k group.
        of_group estimator trigger
        (λ g. IsRound (rules_of (pipeline estimator trigger) g) g k c (marks_at before g).mark_in (marks_at after g).mark_in (elements_keyed g k arrivals) (cells_keyed g k cells) (cells_keyed g k (cell ∷ [])) (panes_at g k fired))
        (rounds k) n group;
    cells_at = one (λ (it : Cell). is_group (pipeline estimator trigger) it.node ≡ true) cell here;
    at_groups = at_groups;
    of_commit = of_commit;
    ordered = λ j d from within. absurd (omega (arith, few));
  }
