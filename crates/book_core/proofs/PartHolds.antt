-- A range is broken: how its parts hold its source back.
use Rattle.std.proofs.Common.{◌≡◌, ℕ, zero, suc, List, [], ◌∷◌, ◌++◌, map, length, replicate, refl, sym, ap, subst, ◌∙◌}
use Rattle.std.specs.Prelude.{Option}
use Rattle.std.specs.List.{All}
use Rattle.std.proofs.lemmas.List.Elements.{All-head, All-tail}
use Rattle.beam_model.specs.Holds.{Hold, piece_hold}
use Rattle.beam_values.specs.declared.fault.FaultNote.{FaultNote}
use Rattle.beam_values.specs.declared.piece.Piece.{Piece}
use Rattle.beam_values.specs.declared.plan.Plan.{Plan}
use Rattle.watermarks.specs.Holds.{SeenHolds}
use Rattle.book_core.specs.Changes.{broken_parts}
use Rattle.book_core.specs.Indexes.{AreHeldIn}
use Rattle.book_core.proofs.Broken.{broken_all}

-- each part holds as the range did
all_alike : (plan : Plan) (hold : Hold) (pieces : List Piece) → All (λ piece. piece_hold plan piece ≡ hold) pieces → map (piece_hold plan) pieces ≡ replicate (length pieces) hold
all_alike plan hold [] all = refl
all_alike plan hold (piece ∷ pieces) all =
    ap (λ (h : Hold). h ∷ map (piece_hold plan) pieces) (All-head (λ (p : Piece). piece_hold plan p ≡ hold) piece pieces all)
    ∙ ap (λ (l : List Hold). hold ∷ l) (all_alike plan hold pieces (All-tail (λ (p : Piece). piece_hold plan p ≡ hold) piece pieces all))

pub parts_alike : (plan : Plan) (piece : Piece) (attempted : Option ℕ) (note : FaultNote)
    → map (piece_hold plan) (broken_parts piece attempted note) ≡ replicate (length (broken_parts piece attempted note)) (piece_hold plan piece)
parts_alike plan piece attempted note =
    all_alike plan (piece_hold plan piece) (broken_parts piece attempted note)
    (broken_all (λ (part : Piece). piece_hold plan part ≡ piece_hold plan piece) piece attempted note (λ from to low high. refl) (λ one. refl))

one_behind : (n : ℕ) (hold : Hold) (holds : List Hold) → replicate n hold ++ (hold ∷ holds) ≡ hold ∷ (replicate n hold ++ holds)
one_behind zero hold holds = refl
one_behind (suc n) hold holds = ap (λ (l : List Hold). hold ∷ l) (one_behind n hold holds)

-- the range's own hold, and one more for each further part
pub held_once_more : (held : List SeenHolds) (plan : Plan) (piece : Piece) (attempted : Option ℕ) (note : FaultNote) (more : ℕ) (holds : List Hold)
    → length (broken_parts piece attempted note) ≡ suc more → AreHeldIn held (replicate more (piece_hold plan piece) ++ (piece_hold plan piece ∷ holds))
    → AreHeldIn held (map (piece_hold plan) (broken_parts piece attempted note) ++ holds)
held_once_more held plan piece attempted note more holds many h =
    subst (AreHeldIn held)
    (one_behind more (piece_hold plan piece) holds ∙ sym (ap (λ (l : List Hold). l ++ holds) (parts_alike plan piece attempted note ∙ ap (λ (n : ℕ). replicate n (piece_hold plan piece)) many))) h
