use Rattle.std.proofs.Common.{◌≡◌, ◌∷◌, List, ℕ, ℤ, get_or, subst}
use Rattle.beam_values.specs.Bags.{IsSameBag}
use Rattle.beam_values.proofs.Bags.{bag_trans}
use Rattle.watermarks.specs.declared.listed.Held.{Held}
use Rattle.watermarks.specs.HeldMarks.{marks_of}
use Rattle.watermarks.proofs.KeptMarks.{held}
use Rattle.watermarks.proofs.listed.Listed.remove.Goals as goal

-- the mark is taken out of those that are listed once its place was found
taken : (old found new : List Held) (m : ℤ) (at : ℕ) → IsSameBag (marks_of old) (marks_of found) → ((d : Held) → (get_or found at d).mark ≡ m)
    → ((d : Held) → IsSameBag (marks_of found) ((get_or found at d).mark ∷ marks_of new)) → IsSameBag (marks_of old) (m ∷ marks_of new)
taken old found new m at same is one =
    let d : Held = held m 0 in
    bag_trans (marks_of old) (marks_of found) (m ∷ marks_of new) same (subst (λ (z : ℤ). IsSameBag (marks_of found) (z ∷ marks_of new)) (is d) (one d))

pub returns-then-at-self-clause-taken : goal.returns-then-at-self-clause-taken
returns-then-at-self-clause-taken c =
    taken c.args.self.now.items.items c.place_to_take-at.new.self.items.items c.take_ordered.new.self.items.items c.args.m c.place_to_take-at.result c.place_to_take-at.ensures.same
    c.place_to_take-at.ensures.place.is c.take_ordered.ensures.taken

pub returns-else-at-self-clause-taken : goal.returns-else-at-self-clause-taken
returns-else-at-self-clause-taken c =
    taken c.args.self.now.items.items c.place_to_take-at.new.self.items.items c.take_added.new.self.items.items c.args.m c.place_to_take-at.result c.place_to_take-at.ensures.same
    c.place_to_take-at.ensures.place.is c.take_added.ensures.taken
