use Rattle.std.proofs.Common.{◌≡◌, ◌∷◌, List, ℕ, ℤ, arith, get_or, subst}
use Rattle.beam_values.specs.Bags.{IsSameBag}
use Rattle.beam_values.proofs.Bags.{bag_cons, bag_sym, bag_trans}
use Rattle.watermarks.specs.declared.listed.Held.{Held}
use Rattle.watermarks.specs.HeldMarks.{marks_of}
use Rattle.watermarks.proofs.BagMembers.{bag_length}
use Rattle.watermarks.proofs.KeptMarks.{count_within, held}
use Rattle.watermarks.proofs.listed.Listed.add_again.Goals as goal

-- an item counts no more than the marks that are held
pub raise_at-requires-clause-room : goal.raise_at-requires-clause-room
raise_at-requires-clause-room c = λ d.
    let old = c.args.self.now.items.items in
    let found = c.place_to_take-at.new.self.items.items in
    omega (
      arith,
      count_within found c.place_to_take-at.result d c.place_to_take-at.ensures.place.within,
      bag_length (marks_of old) (marks_of found) c.place_to_take-at.ensures.same,
      c.requires.few,
    )

-- the mark is held once more than by those that were listed once its place was found
added : (old found new : List Held) (m : ℤ) (at : ℕ) → IsSameBag (marks_of old) (marks_of found) → ((d : Held) → (get_or found at d).mark ≡ m)
    → ((d : Held) → IsSameBag (marks_of new) ((get_or found at d).mark ∷ marks_of found)) → IsSameBag (marks_of new) (m ∷ marks_of old)
added old found new m at same is one =
    let d : Held = held m 0 in
    bag_trans (marks_of new) (m ∷ marks_of found) (m ∷ marks_of old) (subst (λ (z : ℤ). IsSameBag (marks_of new) (z ∷ marks_of found)) (is d) (one d))
    (bag_cons m (marks_of found) (marks_of old) (bag_sym (marks_of old) (marks_of found) same))

pub returns-clause-added : goal.returns-clause-added
returns-clause-added c =
    added c.args.self.now.items.items c.place_to_take-at.new.self.items.items c.raise_at.new.self.items.items c.args.m c.place_to_take-at.result c.place_to_take-at.ensures.same
    c.place_to_take-at.ensures.place.is c.raise_at.ensures.added
