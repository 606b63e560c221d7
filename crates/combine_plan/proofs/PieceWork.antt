-- The work on a piece, bundle by bundle, and on one piece after another.
use Rattle.std.proofs.Common.{◌≡◌, inl, inr, ℕ, ◌+◌, ◌<◌, ◌≤◌, Bool, false, List, [], ◌∷◌, ◌++◌, length, get_or, take, drop, map, refl, sym, ap, subst, ◌∙◌, add-one, arith}
use Rattle.std.specs.Prelude.{◌||◌, Option}
use Rattle.std.proofs.Math.Seq.{drop-cons}
use Rattle.std.proofs.lemmas.Bool.{and_from, eq-eqb}
use Rattle.std.proofs.lemmas.List.{map-append, take-append-drop, take_all, take_more}
use Rattle.beam_values.specs.declared.fault.FaultNote.{FaultNote}
use Rattle.beam_values.specs.declared.file_text.FileText.{FileText}
use Rattle.beam_values.specs.declared.piece.Done.{Done}
use Rattle.beam_values.specs.declared.piece.Piece.{Piece}
use Rattle.beam_values.specs.declared.plan.Plan.{Plan}
use Rattle.beam_values.specs.declared.value.Value.{Value}
use Rattle.beam_model.specs.Coverings.{spread_done}
use Rattle.beam_model.specs.Positions.{items}
use Rattle.beam_model.specs.Premises.{done_range}
use Rattle.beam_model.specs.Spread.{first_poison}
use Rattle.beam_ports.specs.Files.{Opening}
use Rattle.beam_ports.specs.Observed.{observed_store}
use Rattle.book_core.specs.Work.{Surroundings}
use Rattle.chain_exec.specs.Causes.{observed_shelf}
use Rattle.split_core.specs.Partition.{range_of}
use Rattle.combine_lift.specs.Tables.{StandsFor, Table}
use Rattle.combine_plan.specs.Folding.{AreTries, FailsAgain, HasFolded, IsBundleDone, IsBundleRefused, IsFold, IsFoldRefused, IsLastFailure, IsLeftBehind, IsSpent}
use Rattle.combine_plan.specs.declared.refusal.CombineRefusal.{CombineRefusal}
use Rattle.combine_plan.specs.declared.refusal.CombineRefusal.TheVariants.{Lift, Fault, NoMemory}
use Rattle.combine_plan.proofs.Folded.{folded_empty, folded_from, folded_more, folded_then}
use Rattle.combine_plan.proofs.Ranges.{parts_join}
use Rattle.combine_plan.proofs.Refused.{names_once, refused_as, refused_within}
use Rattle.combine_plan.proofs.Tried.{Kept, counted_from, poison_within, tries_more, tries_none, tries_on}

-- what is left of a piece from an offset on, after so many attempts
abbrev left_of : Piece → ℕ → ℕ → Piece
left_of piece from attempts = record piece { range = record { from = from; to = piece.range.to }; attempts = attempts }

module _ {F S : Type 0} (strict : F → Bool) (faults : F → ℕ) (files : S → Option (List FileText)) (fails : S → ℕ) (opened : S → ℕ → Option Opening)
    {A : Type 0} (stands : A → List Value → Type 0) (takes : Value → Bool) (known : Surroundings) (plan : Plan) (attempts : ℕ) where
  -- This is left of a piece. What lies before it was folded into the table, and bundles failed as often as it says.
  pub record IsLeft (piece rest : Piece) (shelf later : F) (store after : S) (old new : Table A) : Type 0 where
    pub same : rest ≡ left_of piece rest.range.from rest.attempts
    pub behind : piece.range.from ≤ rest.range.from
    pub within : rest.range.from ≤ piece.range.to
    pub limit : rest.attempts < attempts
    pub folded : HasFolded stands known plan (done_range piece.node piece.item piece.range.from rest.range.from ∷ []) old new
    pub tries : AreTries known (observed_shelf strict faults shelf later) (observed_store files fails store after) plan (range_of piece ∷ []) rest.attempts

  module _ (piece : Piece) (f0 f1 f2 : F) (s0 s1 s2 : S) (old mid new : Table A) where
    -- all of a piece is left
    pub left_none : (rest : Piece) → rest ≡ left_of piece piece.range.from 0 → piece.range.from ≤ piece.range.to → 0 < attempts → IsLeft piece rest f0 f0 s0 s0 old old
    left_none rest is ordered some =
        subst (λ (r : Piece). IsLeft piece r f0 f0 s0 s0 old old) (sym is)
        (record {
          same = refl;
          behind = omega arith;
          within = ordered;
          limit = some;
          folded = folded_empty stands known plan piece.node piece.item piece.range.from piece.range.from old (omega arith);
          tries = tries_none strict faults files fails opened known plan f0 f0 s0 s0 (range_of piece ∷ []);
        })

    -- nothing is left of it
    pub left_all : (rest : Piece) → piece.range.to ≤ rest.range.from → IsLeft piece rest f0 f1 s0 s1 old mid → HasFolded stands known plan (range_of piece ∷ []) old mid
    left_all rest past left =
        let end : rest.range.from ≡ piece.range.to = omega (arith, left.within, past) in
        subst (λ (to : ℕ). HasFolded stands known plan (done_range piece.node piece.item piece.range.from to ∷ []) old mid) end left.folded

    module _ (few : attempts ≤ 1000) (kept : Kept strict faults files fails opened f0 f1 s0 s1) where
      module _ (onward : Kept strict faults files fails opened f1 f2 s1 s2) where
        tried : (from n more : ℕ) → piece.range.from ≤ from → n < attempts → AreTries known (observed_shelf strict faults f0 f1) (observed_store files fails s0 s1) plan (range_of piece ∷ []) n
            → FailsAgain known (observed_shelf strict faults f1 f2) (observed_store files fails s1 s2) plan (left_of piece from n) more
            → AreTries known (observed_shelf strict faults f0 f2) (observed_store files fails s0 s2) plan (range_of piece ∷ []) more
        tried from n more low limit tries (inl same) =
            subst (λ (k : ℕ). AreTries known (observed_shelf strict faults f0 f2) (observed_store files fails s0 s2) plan (range_of piece ∷ []) k) (sym same)
            (tries_on strict faults files fails opened known plan f0 f1 f2 s0 s1 s2 (range_of piece ∷ []) n (omega arith) kept onward tries)
        tried from n more low limit tries (inr (one, at, cause, failed)) =
            subst (λ (k : ℕ). AreTries known (observed_shelf strict faults f0 f2) (observed_store files fails s0 s2) plan (range_of piece ∷ []) k) (sym one)
            (tries_more strict faults files fails opened known plan f0 f1 f2 s0 s1 s2 (range_of piece ∷ []) (range_of (left_of piece from n)) n at cause (omega arith) kept onward
            (λ its poison. poison_within plan its piece.node piece.item piece.range.from from piece.range.to piece.range.to low (omega arith) at poison)
            tries failed)

        -- lines more were worked
        pub left_behind : (rest left : Piece) → IsLeft piece rest f0 f1 s0 s1 old mid
            → IsLeftBehind stands known (observed_shelf strict faults f1 f2) (observed_store files fails s1 s2) plan attempts rest left mid new → IsLeft piece left f0 f2 s0 s2 old new
        left_behind rest left was done =
            let from = rest.range.from in
            let n = rest.attempts in
            let bundle = subst (λ (r : Piece). IsLeftBehind stands known (observed_shelf strict faults f1 f2) (observed_store files fails s1 s2) plan attempts r left mid new) was.same done in
            record {
              same = bundle.same;
              behind = omega (arith, was.behind, bundle.behind);
              within = bundle.within;
              limit = bundle.limit;
              folded = folded_more stands known plan piece.node piece.item piece.range.from from left.range.from old mid new was.behind bundle.behind was.folded bundle.folded;
              tries = tried from n left.attempts was.behind was.limit was.tries bundle.fails;
            }

        -- a bundle more was worked, or failed
        pub left_more : (rest left : Piece) → IsLeft piece rest f0 f1 s0 s1 old mid
            → IsBundleDone stands known (observed_shelf strict faults f1 f2) (observed_store files fails s1 s2) plan attempts rest left mid new → IsLeft piece left f0 f2 s0 s2 old new
        left_more rest left was done =
            left_behind rest left was
            (record { same = done.same; behind = done.behind; within = done.within; limit = done.limit; more = no_fewer done.fails; folded = done.folded; fails = done.fails })
          where
            no_fewer : FailsAgain known (observed_shelf strict faults f1 f2) (observed_store files fails s1 s2) plan rest left.attempts → rest.attempts ≤ left.attempts
            no_fewer (inl same) = omega arith
            no_fewer (inr (one, at, cause, failed)) = omega arith

      -- ---- a bundle was refused

      module _ (onward : Kept strict faults files fails opened f1 f2 s1 s2) where
        spent : (from n : ℕ) (note : FaultNote) → piece.range.from ≤ from → n < attempts → AreTries known (observed_shelf strict faults f0 f1) (observed_store files fails s0 s1) plan (range_of piece ∷ []) n
            → IsLastFailure known (observed_shelf strict faults f1 f2) (observed_store files fails s1 s2) plan attempts (left_of piece from n) note
            → IsSpent known (observed_shelf strict faults f0 f2) (observed_store files fails s0 s2) plan attempts (range_of piece ∷ []) note
        spent from n note low limit tries last = record {
          listed = ap (λ (b : Bool). b || false) (and_from _ _ (eq-eqb piece.node note.node (sym last.node)) (eq-eqb piece.item note.item (sym last.item)));
          attempt = last.attempt;
          tries =
              subst (λ (k : ℕ). AreTries known (observed_shelf strict faults f0 f2) (observed_store files fails s0 s2) plan (range_of piece ∷ []) k) last.last
              (tries_more strict faults files fails opened known plan f0 f1 f2 s0 s1 s2 (range_of piece ∷ []) (range_of (left_of piece from n)) n note.at note.cause (omega arith) kept onward
              (λ its poison. poison_within plan its piece.node piece.item piece.range.from from piece.range.to piece.range.to low (omega arith) note.at poison)
              tries last.failed);
          cause = counted_from strict faults files fails opened f0 f1 f2 s0 s1 s2 kept note.cause last.failed.counted;
          call = λ is stricter told from_files.
              let within = last.failed.call is stricter told from_files in
              record {
                at = within.at;
                poison =
                    ap first_poison
                    (ap (λ (node : ℕ). spread_done plan (items told plan) (done_range node note.item within.at (within.at + 1))) last.node
                    ∙ ap (λ (item : ℕ). spread_done plan (items told plan) (done_range piece.node item within.at (within.at + 1))) last.item)
                    ∙ within.poison;
              };
          read = λ is. last.failed.read is ∙ sym last.node;
        }

        whole : (from n : ℕ) → piece.range.from ≤ from → from ≤ piece.range.to → HasFolded stands known plan (done_range piece.node piece.item piece.range.from from ∷ []) old mid → (refusal : CombineRefusal)
            → IsFoldRefused takes known (observed_shelf strict faults f1 f2) (observed_store files fails s1 s2) plan attempts (range_of (left_of piece from n) ∷ []) mid.parts refusal
            → IsFoldRefused takes known (observed_shelf strict faults f0 f2) (observed_store files fails s0 s2) plan attempts (range_of piece ∷ []) old.parts refusal
        whole from n low high folded refusal refused =
            refused_as takes known (observed_shelf strict faults f0 f2) (observed_store files fails s0 s2) plan attempts
            (done_range piece.node piece.item piece.range.from from ∷ done_range piece.node piece.item from piece.range.to ∷ []) (range_of piece ∷ []) old.parts
            (λ its. parts_join plan its piece.node piece.item piece.range.from from piece.range.to low high)
            (names_once piece.node piece.item piece.range.from from piece.range.to)
            refusal
            (refused_within strict faults files fails opened known plan takes attempts stands (done_range piece.node piece.item piece.range.from from ∷ []) (done_range piece.node piece.item from piece.range.to ∷ []) []
            old mid folded f0 f1 f2 s0 s1 s2 kept refusal refused)

        left_refused_at : (from n : ℕ) → piece.range.from ≤ from → from ≤ piece.range.to → n < attempts → HasFolded stands known plan (done_range piece.node piece.item piece.range.from from ∷ []) old mid
            → AreTries known (observed_shelf strict faults f0 f1) (observed_store files fails s0 s1) plan (range_of piece ∷ []) n → (refusal : CombineRefusal)
            → IsBundleRefused takes known (observed_shelf strict faults f1 f2) (observed_store files fails s1 s2) plan attempts (left_of piece from n) mid.parts refusal
            → IsFoldRefused takes known (observed_shelf strict faults f0 f2) (observed_store files fails s0 s2) plan attempts (range_of piece ∷ []) old.parts refusal
        left_refused_at from n low high limit folded tries (Lift why) refused = whole from n low high folded (Lift why) refused
        left_refused_at from n low high limit folded tries (Fault note) refused = spent from n note low limit tries refused
        left_refused_at from n low high limit folded tries NoMemory refused = tt

        pub left_refused : (rest : Piece) → IsLeft piece rest f0 f1 s0 s1 old mid → (refusal : CombineRefusal)
            → IsBundleRefused takes known (observed_shelf strict faults f1 f2) (observed_store files fails s1 s2) plan attempts rest mid.parts refusal
            → IsFoldRefused takes known (observed_shelf strict faults f0 f2) (observed_store files fails s0 s2) plan attempts (range_of piece ∷ []) old.parts refusal
        left_refused rest was refusal refused =
            left_refused_at rest.range.from rest.attempts was.behind was.within was.limit was.folded was.tries refusal
            (subst (λ (r : Piece). IsBundleRefused takes known (observed_shelf strict faults f1 f2) (observed_store files fails s1 s2) plan attempts r mid.parts refusal) was.same refused)

  -- ---- one piece after another

  module _ (pieces : List Piece) (i : ℕ) (piece : Piece) (inside : i < length pieces) (is : piece ≡ get_or pieces i piece) where
    ranges_more : map range_of (take (i + 1) pieces) ≡ map range_of (take i pieces) ++ range_of piece ∷ []
    ranges_more =
        ap (map range_of) (take_more pieces i piece inside)
        ∙ map-append range_of (take i pieces) (get_or pieces i piece ∷ [])
        ∙ ap (λ (x : Piece). map range_of (take i pieces) ++ range_of x ∷ []) (sym is)

    ranges_cut : map range_of pieces ≡ map range_of (take i pieces) ++ (range_of piece ∷ map range_of (drop (i + 1) pieces))
    ranges_cut =
        let split : drop i pieces ≡ get_or pieces i piece ∷ drop (i + 1) pieces = rw add-one (drop-cons pieces i piece inside) in
        ap (map range_of) (sym (take-append-drop i pieces))
        ∙ map-append range_of (take i pieces) (drop i pieces)
        ∙ ap (λ (l : List Piece). map range_of (take i pieces) ++ map range_of l) split
        ∙ ap (λ (x : Piece). map range_of (take i pieces) ++ (range_of x ∷ map range_of (drop (i + 1) pieces))) (sym is)

    module _ (f0 f1 f2 : F) (s0 s1 s2 : S) (old mid new : Table A) (folded : HasFolded stands known plan (map range_of (take i pieces)) old mid) where
      pub pieces_more : HasFolded stands known plan (range_of piece ∷ []) mid new → HasFolded stands known plan (map range_of (take (i + 1) pieces)) old new
      pieces_more next =
          subst (λ (l : List Done). HasFolded stands known plan l old new) (sym ranges_more)
          (folded_then stands known plan (map range_of (take i pieces)) (range_of piece ∷ []) old mid new folded next)

      -- a refusal of one piece is one of all pieces, where the table had nothing at first
      pub pieces_refused : old.parts ≡ 0 → Kept strict faults files fails opened f0 f1 s0 s1 → (refusal : CombineRefusal)
          → IsFoldRefused takes known (observed_shelf strict faults f1 f2) (observed_store files fails s1 s2) plan attempts (range_of piece ∷ []) mid.parts refusal
          → IsFoldRefused takes known (observed_shelf strict faults f0 f2) (observed_store files fails s0 s2) plan attempts (map range_of pieces) 0 refusal
      pieces_refused none kept refusal refused =
          subst (λ (parts : ℕ). IsFoldRefused takes known (observed_shelf strict faults f0 f2) (observed_store files fails s0 s2) plan attempts (map range_of pieces) parts refusal) none
          (subst (λ (l : List Done). IsFoldRefused takes known (observed_shelf strict faults f0 f2) (observed_store files fails s0 s2) plan attempts l old.parts refusal) (sym ranges_cut)
          (refused_within strict faults files fails opened known plan takes attempts stands (map range_of (take i pieces)) (range_of piece ∷ []) (map range_of (drop (i + 1) pieces)) old mid folded f0 f1 f2 s0 s1 s2 kept
          refusal refused))

  pub pieces_all : (pieces : List Piece) (n : ℕ) (old new : Table A) → length pieces ≤ n → StandsFor stands old [] → HasFolded stands known plan (map range_of (take n pieces)) old new
      → IsFold stands known plan (map range_of pieces) new
  pieces_all pieces n old new past nothing folded =
      folded_from stands known plan (map range_of pieces) old new nothing
      (subst (λ (l : List Piece). HasFolded stands known plan (map range_of l) old new) (take_all n pieces past) folded)
