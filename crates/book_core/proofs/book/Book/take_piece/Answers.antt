use Rattle.std.proofs.Common.{◌≡◌, ◌+◌, ◌∷◌, ◌<◌, [], cond, is_none, length, arith, rules, sym, subst, ap, ◌∙◌}
use Rattle.std.specs.Prelude.{List, Option, Some, None, slice_set}
use Rattle.std.specs.List.{flat_map, list_all}
use Rattle.std.proofs.lemmas.Option.{slice_get_within}
use Rattle.beam_values.specs.declared.plan.Plan.{Plan}
use Rattle.split_core.specs.SeenPieces.{SeenPieces}
use Rattle.book_core.specs.Book.{SeenBook, most_parts, piece_of, places_kept}
use Rattle.book_core.specs.Calls.{Makes, answer_of}
use Rattle.book_core.specs.Inside.{data_of, IsKept}
use Rattle.book_core.specs.Jobs.{first_due, next_cell}
use Rattle.book_core.specs.Steps.{IsRunning, IsFree, Take, TakenJob}
use Rattle.book_core.specs.declared.live.Live.{Live}
use Rattle.book_core.specs.declared.live.Taken.TheVariants as taken
use Rattle.book_core.proofs.Steady.{makes_seen}
use Rattle.book_core.proofs.Takings.{makes_nothing, takes_piece, piece_indexed}
use Rattle.book_core.proofs.book.Book.take_piece.Goals as goal

pub keep_parts-requires : goal.keep_parts-requires
keep_parts-requires c =
    let b = data_of c.self.inside in
    let within = c.self.invariant.indexed.sane.formed.within in
    let worked_is = c.count_pieces-worked.ensures.exact ∙ ap (λ (s : List (Option Live)). length (flat_map piece_of s)) c.as_slice-2.ensures.value in
    let places_are : most_parts c.plan.result.now c.count_pieces-worked.result ≡ places_kept b =
    ap (λ (plan : Plan). most_parts plan c.count_pieces-worked.result) c.plan.ensures.value ∙ ap (most_parts c.self.inside.graph) worked_is in
    record {
      worked = omega (arith, c.count_pieces-worked.ensures.within, c.as_slice-2.ensures.len, c.self.inside.slots.ok, within.slots);
      room = omega (arith, c.self.invariant.indexed.pieces, places_are);
      few = omega (arith, within.pieces, places_are);
    }

pub index_mut-requires : goal.index_mut-requires
index_mut-requires c =
    let free = subst (λ (b : SeenBook). IsFree b c.args.slot) (sym c.self.view_is) c.requires.free in
    omega (arith, slice_get_within c.self.inside.slots.items c.args.slot None free, c.self.inside.slots.ok)

-- one piece more is worked
more_are : (c : goal.After-piece_job) → most_parts c.plan.result.now (c.count_pieces-worked.result + 1) ≡ most_parts c.self.inside.graph (length (flat_map piece_of c.self.inside.slots.items) + 1)
more_are c =
    let worked_is = c.count_pieces-worked.ensures.exact ∙ ap (λ (s : List (Option Live)). length (flat_map piece_of s)) c.as_slice-2.ensures.value in
    ap (λ (plan : Plan). most_parts plan (c.count_pieces-worked.result + 1)) c.plan.ensures.value ∙ ap (λ n. most_parts c.self.inside.graph (n + 1)) worked_is

few_parts : (c : goal.After-piece_job) → length c.self.inside.pieces.pending + most_parts c.self.inside.graph (length (flat_map piece_of c.self.inside.slots.items) + 1) < 4294967296
few_parts c = omega (arith, more_are c, c.in_ok-keep_parts.ensures.few)

taken_first : (c : goal.After-piece_job) → c.self.inside.pieces.pending ≡ c.in-Some.piece ∷ c.take.new.self.pending
taken_first c = sym c.in_ok-keep_parts.ensures.pending ∙ c.in-Some.ensures.first

-- where no places are kept nothing is changed
pub invariant_of-self : goal.invariant_of-self
invariant_of-self c = subst (λ (pieces : SeenPieces). IsKept (record c.self.inside { pieces = pieces })) (sym c.in_err-keep_parts.ensures.err) c.self.invariant

pub invariant_of-self-2 : goal.invariant_of-self-2
invariant_of-self-2 c = record {
  indexed =
      piece_indexed (data_of c.self.inside) c.args.slot c.in-Some.piece c.take.new.self.pending _ (subst IsRunning (sym c.self.view_is) c.requires.running)
      (subst (λ (b : SeenBook). IsFree b c.args.slot) (sym c.self.view_is) c.requires.free)
      (subst (λ (b : SeenBook). first_due b ≡ None) (sym c.self.view_is) c.requires.none)
      (subst (λ (b : SeenBook). next_cell b ≡ None) (sym c.self.view_is) c.requires.no_cell) (taken_first c)
      (ap (λ j. slice_set c.self.inside.slots.items c.args.slot (Some j)) c.started.ensures) (few_parts c) c.self.invariant.indexed.sane
      c.self.inside.held c.self.inside.pieces.room c.self.inside.returned.room c.take.new.self.room
      (omega (arith, more_are c, c.in_ok-keep_parts.ensures.room, c.in-Some.ensures.kept)) c.self.invariant.indexed;
  grouped = c.self.invariant.grouped;
  counted = c.self.invariant.counted;
}

pub returns-clause-ok : goal.returns-clause-ok
returns-clause-ok c =
    makes_seen (data_of c.self.inside) _ _ c.args.slot Take (TakenJob c.piece_job.result) c.self.view_is
    (takes_piece (data_of c.self.inside) c.args.slot c.in-Some.piece c.take.new.self.pending _ (subst IsRunning (sym c.self.view_is) c.requires.running)
    (subst (λ (b : SeenBook). IsFree b c.args.slot) (sym c.self.view_is) c.requires.free)
    (subst (λ (b : SeenBook). first_due b ≡ None) (sym c.self.view_is) c.requires.none)
    (subst (λ (b : SeenBook). next_cell b ≡ None) (sym c.self.view_is) c.requires.no_cell) (taken_first c)
    (ap (λ j. slice_set c.self.inside.slots.items c.args.slot (Some j)) c.started.ensures) (few_parts c) c.self.invariant.indexed.sane c.piece_job.result c.piece_job.ensures)

pub returns-then-is_empty-clause-ok : goal.returns-then-is_empty-clause-ok
returns-then-is_empty-clause-ok c =
    let b = data_of c.self.inside in
    let empty : b.pending ≡ [] = c.if-is_empty.ensures.0 (search rules) in
    subst (λ (d : SeenBook). Makes d c.args.slot Take (answer_of c.idle_answer.result) d) c.self.view_is
    (subst (λ t. Makes b c.args.slot Take (answer_of t) b) (sym (c.idle_answer.ensures ∙ ap (λ (l : List (Option Live)). cond (list_all is_none l) taken.Finished taken.Nothing) c.as_slice.ensures.value))
    (makes_nothing b c.args.slot (subst IsRunning (sym c.self.view_is) c.requires.running) (subst (λ (x : SeenBook). IsFree x c.args.slot) (sym c.self.view_is) c.requires.free)
    (subst (λ (x : SeenBook). first_due x ≡ None) (sym c.self.view_is) c.requires.none)
    (subst (λ (x : SeenBook). next_cell x ≡ None) (sym c.self.view_is) c.requires.no_cell) empty))
