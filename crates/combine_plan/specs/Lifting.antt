-- The steps to the end of a lifted plan: its function, and all that comes to its Group, folded.
use Rattle.std.specs.Prelude.{◌≡◌, ℕ, ◌==◌, ◌&&◌, Bool, true, List, [], map, Option}
use Rattle.std.specs.List.{list_any}
use Rattle.beam_values.specs.Bags.{IsSameBag}
use Rattle.beam_values.specs.Checked.{IsChecked}
use Rattle.beam_values.specs.declared.file_text.FileText.{FileText}
use Rattle.beam_values.specs.declared.piece.Done.{Done}
use Rattle.beam_values.specs.declared.piece.FileLen.{FileLen}
use Rattle.beam_values.specs.declared.plan.FnKind.{FnKind}
use Rattle.beam_values.specs.declared.plan.Plan.{Plan}
use Rattle.beam_values.specs.declared.value.Value.{Value}
use Rattle.beam_model.specs.Coverings.{spread_dones}
use Rattle.beam_model.specs.Positions.{item_len, items}
use Rattle.beam_model.specs.Spread.{spread_all}
use Rattle.beam_ports.specs.Observed.{ObservedStore, WhereTold}
use Rattle.book_core.specs.Runs.{AreLengthsOf}
use Rattle.chain_exec.specs.Causes.{ObservedShelf}
use Rattle.combine_lift.specs.Lifting.{IsLiftable}
use Rattle.combine_lift.specs.Tables.{Table}
use Rattle.combine_laws.specs.Combined.{HasFunction}
use Rattle.combine_plan.specs.Combined.{known_of}
use Rattle.combine_plan.specs.Folding.{IsFold, IsFoldRefused}
use Rattle.combine_plan.specs.declared.refusal.CombineRefusal.{CombineRefusal}
use Rattle.combine_plan.specs.declared.refusal.CombineRefusal.TheVariants.{NoMemory}

-- a checked plan that is lifted, where this function takes the Group
pub record IsLiftedAt (plan : Plan) (function : ℕ) (work : FnKind) : Type 0 where
  pub checked : IsChecked plan
  pub liftable : IsLiftable plan
  pub group : ℕ
  pub has : HasFunction plan group function work

-- the lengths of the items of a plan, as they were opened; and where the files are told, as they are
pub record AreLengths (told : Option (List FileText)) (plan : Plan) (lengths : List FileLen) : Type 0 where
  pub each : AreLengthsOf (items [] plan) lengths
  pub told_are : WhereTold told (λ files. lengths ≡ map item_len (items files plan))

-- ranges of the items of a plan bring together what all positions do
pub record AreAllRanges (told : Option (List FileText)) (plan : Plan) (ranges : List Done) : Type 0 where
  pub brings : WhereTold told (λ files. IsSameBag (spread_dones plan (items files plan) ranges) (spread_all plan (items files plan)))
  pub of_items : (node item : ℕ) → list_any (λ range. range.node == node && range.item == item) ranges ≡ true
      → list_any (λ source. source.node == node && source.item == item) (items [] plan) ≡ true

-- all ranges were folded into a table
pub record AreAllFolded {A : Type 0} (stands : A → List Value → Type 0) (shelf : ObservedShelf) (store : ObservedStore) (plan : Plan) (table : Table A) : Type 0 where
  pub ranges : List Done
  pub all : AreAllRanges store.files plan ranges
  pub fold : IsFold stands (known_of shelf store) plan ranges table

-- or there is a cause why they weren't
abbrev pub AreAllRefused : (Value → Bool) → ObservedShelf → ObservedStore → Plan → ℕ → CombineRefusal → Type 0
AreAllRefused takes shelf store plan attempts NoMemory = Unit {0}
AreAllRefused takes shelf store plan attempts refusal =
    (ranges : List Done) × AreAllRanges store.files plan ranges × IsFoldRefused takes (known_of shelf store) shelf store plan attempts ranges 0 refusal
