-- Each piece and each done range is of a listed item: from the opening on. So each piece is of a node of the plan, and where it isn't empty it ends where no item
-- is longer.
use Rattle.std.proofs.Common.{◌≡◌, inl, inr, ℕ, zero, suc, ◌-◌, ◌<◌, ◌≤◌, Bool, true, false, cond, List, [], ◌∷◌, ◌++◌, length, get_or, refl, sym, ap, subst, arith}
use Rattle.std.specs.Prelude.{Option, Some, None, ◌==◌, ◌&&◌, nat_le, nat_lt, slice_set}
use Rattle.std.specs.List.{All, flat_map, sum_by}
use Rattle.std.specs.Ordering.{is_lt}
use Rattle.std.proofs.lemmas.Bool.{and_from, and_parts, cases_lt, eq-eqb, eqb-true}
use Rattle.std.proofs.lemmas.Bool.Decides.{nat_tests}
use Rattle.std.proofs.lemmas.List.Elements.{All-nil, All-cons, All-head, All-tail, All-append, All-weaker}
use Rattle.std.proofs.lemmas.List.Sums.{sum_by-cons}
use Rattle.beam_values.specs.Cover.{Place, times_at, times_listed, whole}
use Rattle.beam_values.specs.declared.fault.Cause.{Cause}
use Rattle.beam_values.specs.declared.fault.Cause.TheVariants.{Call, Read}
use Rattle.beam_values.specs.declared.fault.FaultNote.{FaultNote}
use Rattle.beam_values.specs.declared.file_text.FileText.{FileText}
use Rattle.beam_values.specs.declared.piece.Done.{Done}
use Rattle.beam_values.specs.declared.piece.FileLen.{FileLen}
use Rattle.beam_values.specs.declared.piece.Piece.{Piece}
use Rattle.bundle_commit.specs.declared.job.Receipt.{Receipt}
use Rattle.group_cells.proofs.Counting.{count_member, counted_has}
use Rattle.split_core.specs.Order.{with_piece, with_pieces}
use Rattle.split_core.specs.Partition.{IsListed}
use Rattle.split_core.proofs.Ordered.{All-with_piece}
use Rattle.book_core.specs.Book.{SeenBook, piece_of, live_pieces}
use Rattle.book_core.specs.Changes.{with_slot, cut_to, rest_of, split_off, given_back, tried_piece, counted, done_with, done_after, done_cmp, done_of, stopped_where, ends_run, broken, broken_parts, note_of, pending_with, pending_after, residual_of, with_done, with_residual}
use Rattle.book_core.specs.Facts.{ArePartitioned, IsWellFormed}
use Rattle.book_core.specs.Jobs.{Next, with_key}
use Rattle.book_core.specs.Left.{all_lengths}
use Rattle.book_core.specs.Runs.{IsOpening, opened}
use Rattle.book_core.specs.Sane.{AreListed}
use Rattle.book_core.specs.Steps.{IsWorking}
use Rattle.book_core.specs.Work.{worked_to}
use Rattle.book_core.specs.declared.live.Live.{Live}
use Rattle.book_core.specs.declared.live.Live.TheVariants as live
use Rattle.book_core.proofs.Broken.{All-with_pieces, broken_all}
use Rattle.book_core.proofs.Cases.{Keeps, Anything}
use Rattle.book_core.proofs.OpenedPieces.{IsFileBelow, all_files_below, enrolled_of, pieces_of_files}
use Rattle.book_core.proofs.Slotted.{All-append_left, All-append_right, All-flat_set, All-flat_at}
use Rattle.book_core.proofs.Taking.{take_cases}

abbrev IsOf : List FileLen → Piece → Type 0
IsOf files piece = IsListed files piece.node piece.item

abbrev IsDoneOf : List FileLen → Done → Type 0
IsDoneOf files d = IsListed files d.node d.item

-- ---- done ranges

All-with_done : (P : Done → Type 0) (new : Done) (done : List Done) → P new → All P done → All P (with_done new done)
All-with_done P new [] one all = All-cons P new [] one all
All-with_done P new (x ∷ xs) one all = by (is_lt (done_cmp x new)) (All-with_done P new xs one (All-tail P x xs all))
  where
    by : (t : Bool) → All P (with_done new xs) → All P (cond t (x ∷ with_done new xs) (new ∷ x ∷ xs))
    by true later = All-cons P x (with_done new xs) (All-head P x xs all) later
    by false later = All-cons P new (x ∷ xs) one all

-- ---- the steps

module _ (b : SeenBook) (h : AreListed b) where
  pending_listed : All (IsOf b.files) b.pending
  pending_listed = All-append_left (IsOf b.files) b.pending (live_pieces b) h.pieces

  live_listed : All (IsOf b.files) (live_pieces b)
  live_listed = All-append_right (IsOf b.files) b.pending (live_pieces b) h.pieces

  set_listed : (pending : List Piece) (slot : ℕ) (new : Option Live) → All (IsOf b.files) pending → All (IsOf b.files) (piece_of new)
      → All (IsOf b.files) (pending ++ flat_map piece_of (slice_set b.slots slot new))
  set_listed pending slot new all one =
      All-append (IsOf b.files) pending (flat_map piece_of (slice_set b.slots slot new)) all (All-flat_set piece_of b.slots slot (IsOf b.files) new one live_listed)

  one_listed : (piece : Piece) → IsOf b.files piece → All (IsOf b.files) (piece ∷ [])
  one_listed piece is = All-cons (IsOf b.files) piece [] is (All-nil (IsOf b.files))

  worked_listed : (slot : ℕ) (piece : Piece) (attempted : Option ℕ) → IsWorking b slot (live.Span piece attempted) → IsOf b.files piece
  worked_listed slot piece attempted works =
      All-head (IsOf b.files) piece [] (All-flat_at piece_of b.slots slot (IsOf b.files) (Some (live.Span piece attempted)) works live_listed)

  take_listed : (slot : ℕ) (piece : Piece) (later : List Piece) → b.pending ≡ piece ∷ later
      → All (IsOf b.files) (later ++ flat_map piece_of (slice_set b.slots slot (Some (live.Span piece None))))
  take_listed slot piece later e =
      let all = subst (All (IsOf b.files)) e pending_listed in
      set_listed later slot (Some (live.Span piece None)) (All-tail (IsOf b.files) piece later all) (one_listed piece (All-head (IsOf b.files) piece later all))

  split_listed : (slot at : ℕ) (piece : Piece) (attempted : Option ℕ) → IsWorking b slot (live.Span piece attempted) → AreListed (split_off b slot piece attempted at)
  split_listed slot at piece attempted works =
      let front = cut_to piece (record { from = piece.range.from; to = at }) in
      let rest = rest_of piece (record { from = at; to = piece.range.to }) in
      let was = worked_listed slot piece attempted works in
      record {
        pieces = set_listed (with_piece rest b.pending) slot (Some (live.Span front attempted)) (All-with_piece (IsOf b.files) rest b.pending was pending_listed) (one_listed front was);
        done = h.done;
      }

  residual_listed : (slot : ℕ) (piece : Piece) (attempted : Option ℕ) (receipt : Receipt) → IsWorking b slot (live.Span piece attempted)
      → All (IsOf b.files) (with_residual (residual_of piece attempted receipt) b.pending)
  residual_listed slot piece attempted receipt works = by (nat_lt (worked_to piece attempted) piece.range.to)
    where
      by : (t : Bool) → All (IsOf b.files) (with_residual (cond t (Some (record piece { range = record { from = worked_to piece attempted; to = piece.range.to }; seen = receipt.seen; attempts = 0 })) None) b.pending)
      by true =
          All-with_piece (IsOf b.files) (record piece { range = record { from = worked_to piece attempted; to = piece.range.to }; seen = receipt.seen; attempts = 0 }) b.pending
          (worked_listed slot piece attempted works) pending_listed
      by false = pending_listed

  commit_pieces : (slot : ℕ) (job : Live) (receipt : Receipt) → IsWorking b slot job → All (IsOf b.files) (pending_after b.pending job receipt ++ flat_map piece_of (slice_set b.slots slot None))
  commit_pieces slot (live.Span piece attempted) receipt works = by piece.spent
    where
      by : (spent : Option FaultNote) → All (IsOf b.files) (pending_with spent piece attempted receipt b.pending ++ flat_map piece_of (slice_set b.slots slot None))
      by None = set_listed (with_residual (residual_of piece attempted receipt) b.pending) slot None (residual_listed slot piece attempted receipt works) (All-nil (IsOf b.files))
      by (Some note) = set_listed b.pending slot None pending_listed (All-nil (IsOf b.files))
  commit_pieces slot (live.Batch batch) receipt works = set_listed b.pending slot None pending_listed (All-nil (IsOf b.files))
  commit_pieces slot (live.Key turn) receipt works = set_listed b.pending slot None pending_listed (All-nil (IsOf b.files))

  commit_done : (slot : ℕ) (job : Live) → IsWorking b slot job → All (IsDoneOf b.files) (done_after b.done job)
  commit_done slot (live.Span piece attempted) works = by piece.spent
    where
      by : (spent : Option FaultNote) → All (IsDoneOf b.files) (done_with spent piece attempted b.done)
      by None = All-with_done (IsDoneOf b.files) (done_of piece attempted) b.done (worked_listed slot piece attempted works) h.done
      by (Some note) = h.done
  commit_done slot (live.Batch batch) works = h.done
  commit_done slot (live.Key turn) works = h.done

back_listed : (b : SeenBook) (slot : ℕ) (job : Live) (at : ℕ) (cause : Cause) → AreListed b → IsWorking b slot job → AreListed (given_back (with_slot b slot None) job at cause)
back_listed b slot (live.Span piece attempted) at cause h works = record {
  pieces = set_listed b h (with_piece (tried_piece piece) b.pending) slot None
      (All-with_piece (IsOf b.files) (tried_piece piece) b.pending (worked_listed b h slot piece attempted works) (pending_listed b h)) (All-nil (IsOf b.files));
  done = h.done;
}
back_listed b slot (live.Batch batch) at cause h works = record { pieces = set_listed b h b.pending slot None (pending_listed b h) (All-nil (IsOf b.files)); done = h.done }
back_listed b slot (live.Key turn) at cause h works = record { pieces = set_listed b h b.pending slot None (pending_listed b h) (All-nil (IsOf b.files)); done = h.done }

broken_listed : (b : SeenBook) (slot : ℕ) (piece : Piece) (attempted : Option ℕ) (note : FaultNote) → AreListed b → IsWorking b slot (live.Span piece attempted)
    → AreListed (broken b slot piece attempted note)
broken_listed b slot piece attempted note h works =
    let was = worked_listed b h slot piece attempted works in
    let parts = broken_parts piece attempted note in
    record {
      pieces = set_listed b h (with_pieces parts b.pending) slot None
          (All-with_pieces (IsOf b.files) parts b.pending (broken_all (IsOf b.files) piece attempted note (λ from to low high. was) (λ one. was)) (pending_listed b h)) (All-nil (IsOf b.files));
      done = h.done;
    }

counted_listed : (x : SeenBook) (cause : Cause) → AreListed x → AreListed (counted x cause)
counted_listed x Call h = record { pieces = h.pieces; done = h.done }
counted_listed x Read h = record { pieces = h.pieces; done = h.done }

stop_listed : (spent : Bool) (x : SeenBook) (note : FaultNote) → AreListed x → AreListed (stopped_where spent x note)
stop_listed true x note h = record { pieces = h.pieces; done = h.done }
stop_listed false x note h = h

-- ---- the opening

itself_listed : (files : List FileLen) → All (λ file. IsListed files file.node file.item) files
itself_listed files k d inside =
    let file = get_or files k d in
    let one = count_member (λ (f : FileLen). f.node == file.node && f.item == file.item) files k d inside (both file) in
    omega (arith, one)
  where
    both : (f : FileLen) → (f.node == f.node && f.item == f.item) ≡ true
    both f = and_from (f.node == f.node) (f.item == f.item) (eq-eqb f.node f.node refl) (eq-eqb f.item f.item refl)

opening_listed : (b first : SeenBook) → IsOpening b.plan b.files b.options first → AreListed first
opening_listed b first opening =
    let x = opened b.plan b.files b.options opening.marks in
    subst AreListed (sym opening.is) (record {
      pieces =
          All-append (IsOf b.files) x.pending []
          (pieces_of_files (IsOf b.files) b.options.chunk b.files []
          (All-weaker (λ file. IsListed b.files file.node file.item) (λ file. (i : ℕ) → IsListed b.files file.node file.item) (λ file is i. is) b.files (itself_listed b.files)) (All-nil (IsOf b.files)))
          (All-nil (IsOf b.files));
      done = All-nil (IsDoneOf b.files);
    })

pub keeps_listed : (told : Option (List FileText)) → Keeps told Anything AreListed
keeps_listed told = record {
  opens = opening_listed;
  enrolls = λ b known h within. record {
    pieces = subst (λ (l : List Piece). All (IsOf b.files) (b.pending ++ l)) (sym (enrolled_of piece_of b.slots refl)) h.pieces;
    done = h.done;
  };
  takes = λ b slot next known h running free is within.
      take_cases b (λ (n : Next). AreListed (with_slot n.rest slot (Some n.job)))
      (λ batch among. record { pieces = set_listed b h b.pending slot (Some (live.Batch batch)) (pending_listed b h) (All-nil (IsOf b.files)); done = h.done })
      (λ batch oldest. record { pieces = set_listed b h b.pending slot (Some (live.Batch batch)) (pending_listed b h) (All-nil (IsOf b.files)); done = h.done })
      (λ place cell found. record { pieces = set_listed b h b.pending slot (Some (with_key b place.at cell).job) (pending_listed b h) (All-nil (IsOf b.files)); done = h.done })
      (λ piece later e. record { pieces = take_listed b h slot piece later e; done = h.done }) next is;
  claims = λ b slot p piece attempted known h works may. record {
    pieces = set_listed b h b.pending slot (Some (live.Span piece (Some p))) (pending_listed b h) (one_listed b h piece (worked_listed b h slot piece attempted works.works));
    done = h.done;
  };
  splits = λ b slot at piece attempted known h works inside behind within. split_listed b h slot at piece attempted works;
  commits = λ b slot job receipt cells fired marks known h made. record {
    pieces = commit_pieces b h slot job receipt made.works;
    done = commit_done b h slot job made.works;
  };
  fails = λ b slot at job cause known h works fresh unbroken.
      stop_listed (ends_run b job cause) (counted (given_back (with_slot b slot None) job at cause) cause) (note_of job at cause)
      (counted_listed (given_back (with_slot b slot None) job at cause) cause (back_listed b slot job at cause h works));
  breaks = λ b slot at piece attempted known h works fresh is. broken_listed b slot piece attempted (note_of (live.Span piece attempted) at Call) h works;
  stops = λ b known h. record { pieces = h.pieces; done = h.done };
}

-- ---- where pieces lie

-- a piece is of a node of the plan, and where it isn't empty it ends where no item is longer
abbrev pub IsPlaced : SeenBook → Piece → Type 0
IsPlaced b piece = (piece.node < length b.plan.nodes) × (piece.range.from < piece.range.to → piece.range.to ≤ all_lengths b)

abbrev pub ArePlaced : SeenBook → Type 0
ArePlaced b = All (IsPlaced b) (b.pending ++ live_pieces b)

-- what an element weighs is in the sum
pub at_most : {X : Type 0} (f : X → ℕ) (xs : List X) (k : ℕ) (d : X) → k < length xs → f (get_or xs k d) ≤ sum_by f xs
at_most f [] k d inside = absurd (omega (arith, inside))
at_most f (x ∷ xs) zero d inside = omega (arith, sum_by-cons f x xs)
at_most f (x ∷ xs) (suc k) d inside = omega (arith, sum_by-cons f x xs, at_most f xs k d (omega (arith, inside)))

past_end : (p len : ℕ) → len ≤ p → cond {A = ℕ} (nat_le 0 p && nat_lt p len) 1 0 ≡ 0
past_end p len high = grind (arith, nat_tests)

off_item : (t : Bool) (n : ℕ) → n ≡ 0 → cond {A = ℕ} t n 0 ≡ 0
off_item true n e = e
off_item false n e = refl

-- an offset that is listed is below the sum of the lengths
listed_within : (files : List FileLen) (place : Place) → 1 ≤ times_listed files place → place.offset < sum_by (λ file. file.len) files
listed_within [] place some = absurd (omega (arith, some))
listed_within (file ∷ files) place some =
    let lengths = sum_by-cons (λ (f : FileLen). f.len) file files in
    let times = sum_by-cons (λ (f : FileLen). times_at f.node f.item (whole f.len) place) file files in
    elim (cases_lt place.offset file.len) [
      | inl less ↦ omega (arith, less, lengths)
      | inr high ↦
          let none = off_item (file.node == place.node && file.item == place.item) _ (past_end place.offset file.len high) in
          omega (arith, lengths, listed_within files place (omega (arith, some, times, none)))
    ]

-- the last offset of a range that isn't empty
in_range : (from to : ℕ) → from < to → cond {A = ℕ} (nat_le from (to - 1) && nat_lt (to - 1) to) 1 0 ≡ 1
in_range from to some = grind (arith, nat_tests)

own_item : (n i v : ℕ) → cond {A = ℕ} (n == n && i == i) v 0 ≡ v
own_item n i v = ap (λ (t : Bool). cond {A = ℕ} t v 0) (and_from (n == n) (i == i) (eq-eqb n n refl) (eq-eqb i i refl))

node_below : (limit : ℕ) (files : List FileLen) (node item : ℕ) → All (IsFileBelow limit) files → IsListed files node item → node < limit
node_below limit files node item all listed =
    counted_has (λ (f : FileLen). f.node == node && f.item == item) (IsFileBelow limit) (node < limit) files (omega (arith, listed)) all
    (λ f passes low. let same = eqb-true f.node node (and_parts (f.node == node) (f.item == item) passes).0 in subst (λ (n : ℕ). n < limit) same low)

pub placed_of : (b : SeenBook) → IsWellFormed b → AreListed b → ArePartitioned b → ArePlaced b
placed_of b formed listed parts k d inside = (
  node_below (length b.plan.nodes) b.files piece.node piece.item (all_files_below b.plan b.files formed.lengths) (listed.pieces k d inside),
  λ some. ends some,
)
  where
    pieces : List Piece
    pieces = b.pending ++ live_pieces b

    piece : Piece
    piece = get_or (b.pending ++ live_pieces b) k d

    last : Place
    last = record { node = (get_or (b.pending ++ live_pieces b) k d).node; item = (get_or (b.pending ++ live_pieces b) k d).item; offset = (get_or (b.pending ++ live_pieces b) k d).range.to - 1 }

    ends : piece.range.from < piece.range.to → piece.range.to ≤ all_lengths b
    ends some =
        let own = own_item piece.node piece.item (cond {A = ℕ} (nat_le piece.range.from (piece.range.to - 1) && nat_lt (piece.range.to - 1) piece.range.to) 1 0) in
        let one = in_range piece.range.from piece.range.to some in
        let held = at_most (λ (q : Piece). times_at q.node q.item q.range last) pieces k d inside in
        let low = listed_within b.files last (omega (arith, own, one, held, parts.times last)) in
        omega (arith, low)
