-- The sources of a plan, and what must be held of an item for its positions to be worked (Splittable DoFn).
use Rattle.std.specs.Prelude.{◌≡◌, ◌⊎◌, ℕ, ◌*◌, ◌≤◌, Bool, true, false, List, [], length, slice_get, if◌then◌else◌, IsSomeAnd, Option, Some, None}
use Rattle.std.specs.Option.{option_and_then}
use Rattle.beam_values.specs.Checked.{reads_file}
use Rattle.beam_values.specs.declared.plan.Args.{Args}
use Rattle.beam_values.specs.declared.plan.NodeKind.{NodeKind}
use Rattle.beam_values.specs.declared.plan.NodeKind.TheVariants.{Source}
use Rattle.beam_values.specs.declared.plan.Plan.{Plan}
use Rattle.beam_values.specs.declared.plan.SourceKind.{SourceKind}
use Rattle.beam_model.specs.Positions.{positions_in}
use Rattle.beam_ports.specs.Files.{Opening}
use Rattle.dofn_traits.specs.Calls.{is_cut_short, IsView, IsViewOf}
use Rattle.sdf_library.specs.Paging.{Paged, HoldsFile, IsLean, KnowsQuiet, Serves, block, noted_next}

-- what a source reads or makes
pub record SourceWork : Type 0 where
  pub work : SourceKind
  pub args : Args

abbrev pub source_in : NodeKind → Option SourceWork
source_in (Source work args files estimator) = Some (record { work = work; args = args })
source_in _ = None

-- the source of this number, if the node is one
abbrev pub source_at : Plan → ℕ → Option SourceWork
source_at plan node = option_and_then (λ n. source_in n.kind) (slice_get plan.nodes node)

-- What a pager must be where the positions of an item are worked: of a file it is that of its opening, what it holds are the file's bytes, and what it has
-- noted of a line is so of that file.
pub record IsPagerOf (opening : Option Opening) (pager : Paged) : Type 0 where
  pub opened : IsSomeAnd opening (λ o. o.len ≡ pager.len)
  pub held : HoldsFile opening pager
  pub quiet : KnowsQuiet opening pager

abbrev pub IsHeldFor : SourceKind → Option Opening → Paged → Type 0
IsHeldFor work opening pager = reads_file work ≡ true → IsPagerOf opening pager

-- what is counted or made has as many positions as the pager says
abbrev pub IsCounted : SourceWork → Paged → Type 0
IsCounted source pager = reads_file source.work ≡ false → positions_in source.work source.args [] ≡ pager.len

-- `text` is the item's text: of an opened file its told bytes, of what is counted or made none
pub record IsText (work : SourceKind) (opening : Option Opening) (len : ℕ) (text : List ℕ) : Type 0 where
  pub told : reads_file work ≡ true → opening ≡ Some (record { len = len; text = Some text })
  pub whole : reads_file work ≡ true → length text ≡ len
  pub none : reads_file work ≡ false → text ≡ []

-- what is looked at of an item: of a file the bytes that are held, of what is counted or made none
abbrev pub looked_at : SourceKind → Paged → Paged
looked_at work pager = if reads_file work then pager else record pager { base = 0; bytes = [] }

-- the bytes looked at are enough to work position p
abbrev pub IsLookAt : SourceWork → Paged → ℕ → Type 0
IsLookAt source pager p =
    IsView source.work source.args (looked_at source.work pager).bytes (looked_at source.work pager).base (looked_at source.work pager).len p

-- the bytes looked at are part of this text
abbrev pub IsLookInto : List ℕ → SourceWork → Paged → Type 0
IsLookInto text source pager =
    IsViewOf text source.work source.args (looked_at source.work pager).bytes (looked_at source.work pager).base (looked_at source.work pager).len

-- the line at the position goes on past what is looked at
abbrev pub is_look_cut_short : SourceWork → Paged → ℕ → Bool
is_look_cut_short source pager p =
    is_cut_short source.work (looked_at source.work pager).bytes (looked_at source.work pager).base (looked_at source.work pager).len p

-- what is held of the item is enough for this position: the line there ends within it, or the item has no bytes
abbrev pub IsEnoughAt : SourceWork → Paged → ℕ → Type 0
IsEnoughAt source pager p = (reads_file source.work ≡ true → Serves pager p) × (is_look_cut_short source pager p ≡ false)

-- of a file at most two blocks more are held than there are of the line at the position
abbrev pub IsLeanAt : SourceWork → Paged → ℕ → Type 0
IsLeanAt source pager p = reads_file source.work ≡ true → IsLean p pager

-- the same, or no more is held than before
abbrev pub IsLeanOrLess : SourceWork → ℕ → Paged → Paged → Type 0
IsLeanOrLess source p old new = IsLeanAt source new p ⊎ (length new.bytes ≤ length old.bytes)

-- of a file the next line start, where it is noted that no line starts at the position; nothing is emitted there
abbrev pub skipped_to : SourceKind → Paged → ℕ → Option ℕ
skipped_to work pager p = if reads_file work then noted_next p pager.quiet else None

-- where at most two blocks were held, the same bytes are held still
abbrev pub KeepsBytes : Paged → Paged → Type 0
KeepsBytes old new = length old.bytes ≤ 2 * block → (new.base ≡ old.base) × (new.bytes ≡ old.bytes)
