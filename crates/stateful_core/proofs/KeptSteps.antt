-- What all key cells keep, step by step.
use Rattle.std.proofs.Common.{◌≡◌, ℕ, ◌+◌, ◌<◌, List, [], ◌++◌, length, Some, refl, sym, ap, subst, ◌∙◌, arith}
use Rattle.std.specs.Prelude.{slice_get}
use Rattle.std.specs.BTreeMap.{BTreeMap}
use Rattle.std.proofs.lemmas.List.{length-map, map-append}
use Rattle.beam_values.specs.declared.arrival.Arrival.{Arrival}
use Rattle.beam_values.specs.declared.plan.Plan.{Plan}
use Rattle.cell_index.specs.declared.index_key.CellKey.{CellKey}
use Rattle.stateful_core.specs.Cells.{KeyCell}
use Rattle.stateful_core.specs.Names.{AreFound, AreStored, names_of}
use Rattle.stateful_core.specs.Opening.{fresh_all}
use Rattle.stateful_core.specs.Ready.{AreKept}
use Rattle.stateful_core.specs.Seen.{cell_of, cells_of}
use Rattle.stateful_core.specs.Taking.{change, tried, with_job}
use Rattle.stateful_core.specs.Trees.{AreTrees, AreTreesBut, HasPlace, HavePlaces}
use Rattle.stateful_core.specs.declared.node_tree.NodeTree.{NodeTree}
use Rattle.stateful_core.specs.declared.slot.Slot.{Slot}
use Rattle.stateful_core.proofs.Named.{stored_bare, stored_job, stored_tried}
use Rattle.stateful_core.proofs.TreeSteps.{changed_by, opened, quiet_at}

abbrev pub KeepPlaces : List NodeTree → List NodeTree → Type 0
KeepPlaces trees after = (n i : ℕ) → HasPlace trees n i → HasPlace after n i

places_kept : (trees after : List NodeTree) (first n : ℕ) (cells : List KeyCell) → n ≡ first → KeepPlaces trees after → HavePlaces trees first cells → HavePlaces after n cells
places_kept trees after first n cells same keeps h = record {
  each = λ k cell e. subst (λ (m : ℕ). HasPlace after cell.log.node (m + k)) (sym same) (keeps cell.log.node (first + k) (h.each k cell e));
}

pub no_places : (trees : List NodeTree) (n : ℕ) → HavePlaces trees n []
no_places trees n = record { each = λ k cell e. absurd (none k cell e) }
  where
    none : (k : ℕ) (cell : KeyCell) → slice_get [] k ≡ Some cell → ⊥
    none k cell e = cc

-- a step of the cell with one number; `seen` are the cells as its entry was made anew
module _ (places : BTreeMap CellKey ℕ) (trees after : List NodeTree) (slots new seen fresh : List Slot) (at : ℕ) (same : seen ≡ new) (less : at < length slots)
    (sized : length new ≡ length slots) (renews : AreTreesBut (Some at) trees (cells_of seen) → AreTrees after (cells_of seen)) (keeps : KeepPlaces trees after) (h : AreKept places trees slots fresh) where
  inside : at < length (cells_of slots)
  inside = omega (arith, less, length-map slots cell_of)

  due_after : (cells : List KeyCell) → cells_of new ≡ cells → AreTreesBut (Some at) trees cells → AreTrees after (cells_of new)
  due_after cells is but =
      subst (λ (l : List Slot). AreTrees after (cells_of l)) same
      (renews (subst (λ (l : List KeyCell). AreTreesBut (Some at) trees l) (sym (ap cells_of same ∙ is)) but))

  pub kept_job : (bundle : ℕ) → cells_of new ≡ change (with_job bundle) at (cells_of slots) → AreKept places after new fresh
  kept_job bundle is = record {
    stored = stored_job places slots new fresh bundle at sized is h.stored;
    due = due_after (change (with_job bundle) at (cells_of slots)) is (changed_by (with_job bundle) (λ cell. refl) (cells_of slots) at inside trees h.due);
    grown = places_kept trees after (length slots) (length new) (cells_of fresh) sized keeps h.grown;
  }

  pub kept_tried : cells_of new ≡ change tried at (cells_of slots) → AreKept places after new fresh
  kept_tried is = record {
    stored = stored_tried places slots new fresh at sized is h.stored;
    due = due_after (change tried at (cells_of slots)) is (changed_by tried (λ cell. refl) (cells_of slots) at inside trees h.due);
    grown = places_kept trees after (length slots) (length new) (cells_of fresh) sized keeps h.grown;
  }

-- no commit is prepared
pub kept_bare : (old new : BTreeMap CellKey ℕ) (trees after : List NodeTree) (slots bare fresh none : List Slot) → none ≡ [] → length bare ≡ length slots → cells_of bare ≡ cells_of slots
    → AreFound new (names_of (cells_of bare)) → (AreTrees trees (cells_of bare) → AreTrees after (cells_of bare)) → AreKept old trees slots fresh → AreKept new after bare none
kept_bare old new trees after slots bare fresh none is sized same found keeps h = record {
  stored = stored_bare new bare none is (omega (arith, sized, h.stored.few)) found;
  due = keeps (subst (AreTrees trees) (sym same) h.due);
  grown = subst (λ (l : List Slot). HavePlaces after (length bare) (cells_of l)) (sym is) (no_places after (length bare));
}

-- a commit is prepared
pub kept_fresh : (places : BTreeMap CellKey ℕ) (trees after : List NodeTree) (slots new routed fresh : List Slot) → AreStored places new fresh → length new ≡ length slots
    → cells_of new ≡ cells_of slots → cells_of fresh ≡ cells_of routed → (AreTrees trees (cells_of slots) → AreTrees after (cells_of slots)) → AreTrees trees (cells_of slots)
    → HavePlaces after (length slots) (cells_of routed) → AreKept places after new fresh
kept_fresh places trees after slots new routed fresh stored sized same opens keeps due grown = record {
  stored = stored;
  due = subst (AreTrees after) (sym same) (keeps due);
  grown = subst (λ (n : ℕ). HavePlaces after n (cells_of fresh)) (sym sized) (subst (HavePlaces after (length slots)) (sym opens) grown);
}

-- the new cells of a commit stand
pub due_opened : (plan : Plan) (arrivals : List Arrival) (cells : List KeyCell) (trees after : List NodeTree) (slots finished fresh all : List Slot) → all ≡ finished ++ fresh
    → length finished ≡ length slots → cells_of fresh ≡ fresh_all plan cells arrivals → AreTrees after (cells_of finished) → KeepPlaces trees after
    → HavePlaces trees (length slots) (cells_of fresh) → AreTrees after (cells_of all)
due_opened plan arrivals cells trees after slots finished fresh all stands sized opens due keeps grown =
    subst (AreTrees after) (sym (ap cells_of stands ∙ map-append cell_of finished fresh))
    (opened after (cells_of finished) (cells_of fresh) due
    (λ k cell e.
    let first : length slots ≡ length (cells_of finished) = omega (arith, sized, length-map finished cell_of) in (
      subst (λ (n : ℕ). HasPlace after cell.log.node (n + k)) first (keeps cell.log.node (length slots + k) (grown.each k cell e)),
      quiet_at plan cells arrivals (cells_of fresh) opens k cell e,
    )))

pub kept_placed : (places : BTreeMap CellKey ℕ) (trees : List NodeTree) (slots none : List Slot) → AreStored places slots none → AreTrees trees (cells_of slots) → none ≡ []
    → AreKept places trees slots none
kept_placed places trees slots none stored due is = record {
  stored = stored;
  due = due;
  grown = subst (λ (l : List Slot). HavePlaces trees (length slots) (cells_of l)) (sym is) (no_places trees (length slots));
}
