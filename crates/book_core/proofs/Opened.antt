-- A book is opened: its pieces, what holds its nodes back, and the marks of these.
use Rattle.std.proofs.Common.{◌≡◌, ℕ, ◌+◌, ◌<◌, zero, suc, ℤ, Bool, true, false, cond, List, [], ◌∷◌, ◌++◌, map, length, reverse, replicate, take, drop, get_or, refl, sym, ap, subst, ◌∙◌, arith}
use Rattle.std.specs.Prelude.{slice_get, unwrap_or, Option, Some, None}
use Rattle.std.specs.Option.{option_map}
use Rattle.std.specs.List.{All, sum_by, flat_map, enumerate_from}
use Rattle.std.proofs.lemmas.List.{take_more, map-append, append-nil}
use Rattle.std.proofs.Math.Seq.{take-append_seam}
use Rattle.std.proofs.lemmas.List.Sums.{sum_by-cons, sum_by-append}
use Rattle.std.proofs.lemmas.List.Elements.{All-nil, All-cons, All-head, All-tail, All-append}
use Rattle.std.proofs.lemmas.Option.{slice_get-map}
use Rattle.beam_values.specs.Bags.{IsSameBag}
use Rattle.beam_values.proofs.Bags.{sum_by-map, bag_map, bag_sym, bag_middle, bag_from_same, bag_trans, bag_refl}
use Rattle.beam_values.specs.Checked.{IsChecked}
use Rattle.beam_values.specs.Marks.{least_mark, AreMarks}
use Rattle.beam_values.specs.Times.{final_mark}
use Rattle.beam_values.specs.declared.marks.StageMarks.{StageMarks}
use Rattle.beam_values.specs.declared.options.Options.{Options}
use Rattle.beam_values.specs.declared.piece.FileLen.{FileLen}
use Rattle.beam_values.specs.declared.piece.Piece.{Piece}
use Rattle.beam_values.specs.declared.plan.Node.{Node}
use Rattle.beam_values.specs.declared.plan.Plan.{Plan}
use Rattle.beam_model.specs.Holds.{Hold, piece_hold, least_hold}
use Rattle.beam_model.specs.Positions.{items}
use Rattle.split_core.proofs.Ordered.{reverse-cons}
use Rattle.watermarks.specs.Holds.{SeenHolds, hold_at}
use Rattle.group_cells.specs.Commits.{as_commit}
use Rattle.book_core.specs.Book.{SeenBook, HeldPane, held_at, most_parts, sets_aside}
use Rattle.book_core.specs.Indexes.{IsIndexed, AreHeldIn, marks_in, least_in, all_holds, own_holds}
use Rattle.book_core.proofs.HoldBags.{all_of, least_of_bag}
use Rattle.book_core.specs.Runs.{AreOptions, AreLengthsOf, IsOpening, opened, pieces_of}
use Rattle.book_core.proofs.HeldMarks.{least_held, marks_as, held_as}
use Rattle.book_core.proofs.Holding.{bag_held, all_weigh, pane_weight}
use Rattle.book_core.proofs.OpenedPieces.{IsPieceOf, all_pieces_below}
use Rattle.book_core.proofs.SaneAlways.{opened_sane}
use Rattle.book_core.specs.declared.live.WaitingPane.{WaitingPane}

-- ---- holds

no_marks : (count n : ℕ) → marks_in (replicate count (record { marks = []; room = 0 })) n ≡ []
no_marks count n = none (replicate count (record { marks = []; room = 0 })) n (same count)
  where
    none : (held : List SeenHolds) (n : ℕ) → All (λ (h : SeenHolds). h.marks ≡ []) held → marks_in held n ≡ []
    none [] n all = refl
    none (h ∷ held) zero all = All-head (λ (x : SeenHolds). x.marks ≡ []) h held all
    none (h ∷ held) (suc n) all = none held n (All-tail (λ (x : SeenHolds). x.marks ≡ []) h held all)

    same : (count : ℕ) → All (λ (h : SeenHolds). h.marks ≡ []) (replicate count (record { marks = []; room = 0 }))
    same zero = All-nil (λ (h : SeenHolds). h.marks ≡ [])
    same (suc count) = All-cons (λ (h : SeenHolds). h.marks ≡ []) (record { marks = []; room = 0 }) (replicate count (record { marks = []; room = 0 })) refl (same count)

pub none_held : (held : List SeenHolds) (count : ℕ) → held ≡ replicate count (record { marks = []; room = 0 }) → AreHeldIn held []
none_held held count e = record { each = λ n. bag_from_same (marks_in held n) [] (ap (λ (h : List SeenHolds). marks_in h n) e ∙ no_marks count n) }

pub one_more_held : (held kept new : List SeenHolds) (plan : Plan) (pieces : List Piece) (i : ℕ) (piece : Piece) (mark : ℤ) → i < length pieces → piece ≡ get_or pieces i piece
    → mark ≡ (piece_hold plan piece).mark → ((n : ℕ) → marks_in kept n ≡ marks_in held n)
    → ((holds : List Hold) → AreHeldIn kept holds → AreHeldIn new (record { node = piece.node; mark = mark } ∷ holds))
    → AreHeldIn held (map (piece_hold plan) (take i pieces)) → AreHeldIn new (map (piece_hold plan) (take (i + 1) pieces))
one_more_held held kept new plan pieces i piece mark less is mark_is same add h =
    let front = map (piece_hold plan) (take i pieces) in
    let all : map (piece_hold plan) (take (i + 1) pieces) ≡ front ++ piece_hold plan piece ∷ [] =
    ap (map (piece_hold plan)) (take_more pieces i piece less ∙ ap (λ (p : Piece). take i pieces ++ p ∷ []) (sym is)) ∙ map-append (piece_hold plan) (take i pieces) (piece ∷ []) in
    subst (AreHeldIn new) (sym all)
    (bag_held new (piece_hold plan piece ∷ front) (front ++ piece_hold plan piece ∷ [])
    (bag_sym (front ++ piece_hold plan piece ∷ []) (piece_hold plan piece ∷ front)
    (bag_trans (front ++ piece_hold plan piece ∷ []) (piece_hold plan piece ∷ (front ++ [])) (piece_hold plan piece ∷ front) (bag_middle front (piece_hold plan piece) [])
    (bag_from_same (piece_hold plan piece ∷ (front ++ [])) (piece_hold plan piece ∷ front) (ap (λ (l : List Hold). piece_hold plan piece ∷ l) (append-nil front)))))
    (subst (λ (m : ℤ). AreHeldIn new (record { node = piece.node; mark = m } ∷ front)) mark_is (add front (held_as held kept front same h))))

pub hold_at_least : (held : List SeenHolds) (n : ℕ) → hold_at (map (λ (h : SeenHolds). least_mark h.marks) held) n ≡ least_in held n
hold_at_least held n = ap (λ (o : Option ℤ). unwrap_or o final_mark) (slice_get-map (λ (h : SeenHolds). least_mark h.marks) held n) ∙ by (slice_get held n)
  where
    by : (o : Option SeenHolds) → unwrap_or (option_map (λ (h : SeenHolds). least_mark h.marks) o) final_mark ≡ least_mark (unwrap_or (option_map (λ (h : SeenHolds). h.marks) o) [])
    by None = refl
    by (Some h) = refl

pub marks_written : (plan : Plan) (held : List SeenHolds) (least : List ℤ) (old new : List StageMarks) (count : ℕ) (marks : List StageMarks) → least ≡ map (λ (h : SeenHolds). least_mark h.marks) held
    → AreMarks plan (hold_at least) new → length new ≡ count → marks ≡ take count (new ++ drop (length new) old) → AreMarks plan (least_in held) marks
marks_written plan held least old new count marks e h sized is =
    let all : marks ≡ new = is ∙ ap (λ (n : ℕ). take n (new ++ drop (length new) old)) (sym sized) ∙ take-append_seam new (drop (length new) old) in
    subst (AreMarks plan (least_in held)) (sym all)
    (marks_as plan (hold_at least) (least_in held) new (λ n. ap (λ (l : List ℤ). hold_at l n) e ∙ hold_at_least held n) h)

-- ---- the book

no_queue : (n : ℕ) (nodes : List Node) → flat_map (λ (p : ℕ × List WaitingPane). held_at p.0 p.1) (enumerate_from n (map (λ (node : Node). []) nodes)) ≡ []
no_queue n [] = refl
no_queue n (node ∷ nodes) = no_queue (n + 1) nodes

queue_weight : (w : HeldPane → ℕ) (n : ℕ) (nodes : List Node) → sum_by w (flat_map (λ (p : ℕ × List WaitingPane). held_at p.0 p.1) (enumerate_from n (map (λ (node : Node). []) nodes))) ≡ 0
queue_weight w n nodes = ap (sum_by w) (no_queue n nodes)

opened_holds : (plan : Plan) (files : List FileLen) (options : Options) (marks : List StageMarks)
    → IsSameBag (map (piece_hold plan) (pieces_of options.chunk files)) (own_holds (opened plan files options marks))
opened_holds plan files options marks = record {
  weighs = λ w. omega (
    arith,
    all_weigh w (opened plan files options marks),
    sum_by-map w (piece_hold plan) (pieces_of options.chunk files),
    queue_weight (pane_weight w) 0 plan.nodes,
  );
}

pub reverse_bag : (xs : List Piece) → IsSameBag (reverse xs) xs
reverse_bag [] = bag_refl []
reverse_bag (x ∷ xs) =
    let e : reverse (x ∷ xs) ≡ reverse xs ++ x ∷ [] = reverse-cons x xs in
    record { weighs = λ w. omega (arith, ap (sum_by w) e, sum_by-append w (reverse xs) (x ∷ []), sum_by-cons w x [], sum_by-cons w x xs, (reverse_bag xs).weighs w) }

All-reversed : (P : Piece → Type 0) (xs : List Piece) → All P xs → All P (reverse xs)
All-reversed P [] h = h
All-reversed P (x ∷ xs) h =
    subst (All P) (sym (reverse-cons x xs))
    (All-append P (reverse xs) (x ∷ []) (All-reversed P xs (All-tail P x xs h)) (All-cons P x [] (All-head P x xs h) (All-nil P)))

-- the pieces as they are listed, the first one last
pub listed_below : (plan : Plan) (files : List FileLen) (chunk : ℕ) (pending listed : List Piece) → AreLengthsOf (items [] plan) files → pending ≡ pieces_of chunk files → listed ≡ reverse pending
    → All (IsPieceOf (length plan.nodes)) listed
listed_below plan files chunk pending listed lengths e f =
    subst (All (IsPieceOf (length plan.nodes))) (sym f)
    (All-reversed (IsPieceOf (length plan.nodes)) pending (subst (All (IsPieceOf (length plan.nodes))) (sym e) (all_pieces_below plan files chunk lengths)))

listed_held : (plan : Plan) (files : List FileLen) (options : Options) (held : List SeenHolds) (pending listed : List Piece) (marks : List StageMarks) → pending ≡ pieces_of options.chunk files
    → listed ≡ reverse pending → AreHeldIn held (map (piece_hold plan) listed) → AreHeldIn held (own_holds (opened plan files options marks))
listed_held plan files options held pending listed marks e f h =
    let back : IsSameBag listed (pieces_of options.chunk files) =
    subst (λ (l : List Piece). IsSameBag l (pieces_of options.chunk files)) (sym f) (subst (λ (p : List Piece). IsSameBag (reverse pending) p) e (reverse_bag pending)) in
    bag_held held (map (piece_hold plan) (pieces_of options.chunk files)) (own_holds (opened plan files options marks)) (opened_holds plan files options marks)
    (bag_held held (map (piece_hold plan) listed) (map (piece_hold plan) (pieces_of options.chunk files)) (bag_map (piece_hold plan) listed (pieces_of options.chunk files) back) h)

-- what is found before a book is opened
pub record IsFound (plan : Plan) (files : List FileLen) (options : Options) (held : List SeenHolds) (pending listed : List Piece) (marks : List StageMarks) : Type 0 where
  pub checked : IsChecked plan
  pub lengths : AreLengthsOf (items [] plan) files
  pub allowed : AreOptions options
  pub pending_is : pending ≡ pieces_of options.chunk files
  pub listed_is : listed ≡ reverse pending
  pub few : length pending < 4294967295
  pub holds_back : AreHeldIn held (map (piece_hold plan) listed)
  pub sized : length held ≡ length plan.nodes
  pub marked : AreMarks plan (least_in held) marks

-- no place is kept while no piece is worked
none_kept : (plan : Plan) → most_parts plan 0 ≡ 0
none_kept plan = by (sets_aside plan)
  where
    by : (t : Bool) → cond {A = ℕ} t 0 0 ≡ 0
    by true = refl
    by false = refl

module _ (plan : Plan) (files : List FileLen) (options : Options) (held : List SeenHolds) (pending listed : List Piece) (marks : List StageMarks)
    (h : IsFound plan files options held pending listed marks) where
  all_held : AreHeldIn held (own_holds (opened plan files options marks))
  all_held = listed_held plan files options held pending listed marks h.pending_is h.listed_is h.holds_back

  -- no key cell stands yet
  none_keyed_yet : (n : ℕ) → least_hold (all_holds (opened plan files options marks)) n ≡ least_hold (own_holds (opened plan files options marks)) n
  none_keyed_yet n =
      least_of_bag (all_holds (opened plan files options marks)) (own_holds (opened plan files options marks) ++ []) (all_of (opened plan files options marks)) n
      ∙ ap (λ (l : List Hold). least_hold l n) (append-nil (own_holds (opened plan files options marks)))

  pub is_opening : IsOpening plan files options (opened plan files options marks)
  is_opening = record {
    checked = h.checked;
    lengths = h.lengths;
    allowed = h.allowed;
    marks = marks;
    is = refl;
    marked = marks_as plan (least_in held) (least_hold (all_holds (opened plan files options marks))) marks
        (λ n. least_held held (own_holds (opened plan files options marks)) all_held n ∙ sym (none_keyed_yet n)) h.marked;
    within = record {
      commits = omega arith;
      panes = omega arith;
      dropped = omega arith;
      cells = omega arith;
      keys = omega arith;
      waiting = omega arith;
      slots = omega arith;
      pieces = omega (arith, h.few, ap (length {A = Piece}) h.pending_is, none_kept plan);
    };
  }

  pub is_indexed : (piece_room batch_room : ℕ) → IsIndexed (opened plan files options marks) held piece_room batch_room
  is_indexed piece_room batch_room = record {
    sane = opened_sane plan files options (opened plan files options marks) is_opening;
    sized = h.sized;
    holds_back = all_held;
    pieces = omega (arith, none_kept plan);
    batches = omega arith;
  }

-- the book as its fields are made
pub opened_as : (plan : Plan) (files : List FileLen) (options : Options) (marks : List StageMarks) (b : SeenBook) → b.plan ≡ plan → b.files ≡ files → b.options ≡ options
    → b.pending ≡ pieces_of options.chunk files → b.slots ≡ [] → b.queues ≡ map (λ (node : Node). []) plan.nodes → b.returned ≡ [] → b.cells ≡ [] → b.dropped ≡ [] → b.keys ≡ [] → b.panes ≡ []
    → b.done ≡ [] → b.dead ≡ [] → b.written ≡ [] → b.commits ≡ as_commit marks ∷ [] → b.calls ≡ 0 → b.reads ≡ 0 → b.stopped ≡ None → opened plan files options marks ≡ b
opened_as plan files options marks b e1 e2 e3 e4 e5 e6 e7 e8 e9 e_keys e10 e11 e_dead e12 e13 e14 e15 e16 = sym (
    ap (λ x. record b { plan = x }) e1
    ∙ ap (λ x. record b { plan = plan; files = x }) e2
    ∙ ap (λ x. record b { plan = plan; files = files; options = x }) e3
    ∙ ap (λ x. record b { plan = plan; files = files; options = options; pending = x }) e4
    ∙ ap (λ x. record b { plan = plan; files = files; options = options; pending = pieces_of options.chunk files; slots = x }) e5
    ∙ ap (λ x. record b { plan = plan; files = files; options = options; pending = pieces_of options.chunk files; slots = []; queues = x }) e6
    ∙ ap (λ x. record b { plan = plan; files = files; options = options; pending = pieces_of options.chunk files; slots = []; queues = map (λ (node : Node). []) plan.nodes; returned = x }) e7
    ∙ ap (λ x. record (opened plan files options marks) { cells = x; dropped = b.dropped; keys = b.keys; panes = b.panes; done = b.done; dead = b.dead; written = b.written; commits = b.commits; calls = b.calls; reads = b.reads; stopped = b.stopped }) e8
    ∙ ap (λ x. record (opened plan files options marks) { dropped = x; keys = b.keys; panes = b.panes; done = b.done; dead = b.dead; written = b.written; commits = b.commits; calls = b.calls; reads = b.reads; stopped = b.stopped }) e9
    ∙ ap (λ x. record (opened plan files options marks) { keys = x; panes = b.panes; done = b.done; dead = b.dead; written = b.written; commits = b.commits; calls = b.calls; reads = b.reads; stopped = b.stopped }) e_keys
    ∙ ap (λ x. record (opened plan files options marks) { panes = x; done = b.done; dead = b.dead; written = b.written; commits = b.commits; calls = b.calls; reads = b.reads; stopped = b.stopped }) e10
    ∙ ap (λ x. record (opened plan files options marks) { done = x; dead = b.dead; written = b.written; commits = b.commits; calls = b.calls; reads = b.reads; stopped = b.stopped }) e11
    ∙ ap (λ x. record (opened plan files options marks) { dead = x; written = b.written; commits = b.commits; calls = b.calls; reads = b.reads; stopped = b.stopped }) e_dead
    ∙ ap (λ x. record (opened plan files options marks) { written = x; commits = b.commits; calls = b.calls; reads = b.reads; stopped = b.stopped }) e12
    ∙ ap (λ x. record (opened plan files options marks) { commits = x; calls = b.calls; reads = b.reads; stopped = b.stopped }) e13
    ∙ ap (λ x. record (opened plan files options marks) { calls = x; reads = b.reads; stopped = b.stopped }) e14
    ∙ ap (λ x. record (opened plan files options marks) { reads = x; stopped = b.stopped }) e15
    ∙ ap (λ x. record (opened plan files options marks) { stopped = x }) e16
    )
