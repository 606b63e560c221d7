-- Positions of a file: what the bytes show of one is what the model says, and one more is worked behind others.
use Rattle.std.proofs.Common.{◌≡◌, ℕ, pos, ◌+◌, ◌-◌, ◌<◌, ◌≤◌, Bool, true, false, cond, drop, min, List, [], ◌++◌, length, map, Option, Some, None, refl, sym, ap, subst, ◌∙◌, arith, append-nil, append_assoc, length-append}
use Rattle.std.specs.Prelude.{IsSomeAnd}
use Rattle.std.proofs.lemmas.Bool.{false≢true}
use Rattle.std.proofs.lemmas.List.{length-drop, map-append}
use Rattle.beam_values.specs.Checked.{reads_file}
use Rattle.beam_values.specs.Functions.{timed_line}
use Rattle.beam_values.specs.Lines.{line_at, line_len, next_start, spread, starts_line}
use Rattle.beam_values.specs.Times.{least_time}
use Rattle.beam_values.specs.declared.arrival.Arrival.{Arrival}
use Rattle.beam_values.specs.declared.plan.Args.{Args}
use Rattle.beam_values.specs.declared.plan.Args.TheVariants.{Number}
use Rattle.beam_values.specs.declared.plan.Plan.{Plan}
use Rattle.beam_values.specs.declared.plan.SourceKind.{SourceKind}
use Rattle.beam_values.specs.declared.plan.SourceKind.TheVariants.{Lines, TimedLines, Count, Made}
use Rattle.beam_values.specs.declared.value.Value.{Value}
use Rattle.beam_values.proofs.Spreads.{spread-empty, spread-join, spread-step}
use Rattle.beam_model.specs.Chains.{Output, Arrives}
use Rattle.beam_model.specs.Positions.{Emission, emission, emits_one, line_emission, next_position, nothing}
use Rattle.beam_model.specs.Spread.{emission_outputs}
use Rattle.beam_model.specs.Values.{blob}
use Rattle.beam_model.proofs.Positions.{between_nothing}
use Rattle.beam_ports.specs.Files.{KeepsOpenings, Opening}
use Rattle.dofn_traits.specs.Calls.{is_cut_short}
use Rattle.sdf_library.specs.Paging.{HoldsFile, IsQuiet, Paged, Serves, ShowsText, is_line_cut, noted_next}
use Rattle.sdf_library.specs.Sources.{emission_seen, next_seen}
use Rattle.sdf_library.proofs.Pages.{told_before}
use Rattle.sdf_library.proofs.Views.{emission_is_seen, next_is_seen, next_seen_within}
use Rattle.chain_exec.specs.Sources.{IsPagerOf, IsText, skipped_to}
use Rattle.chain_exec.proofs.Looks.{skips}
use Rattle.combine_lift.specs.Tables.{Added, StandsFor, Table}
use Rattle.combine_laws.specs.Brought.{added_by, added_of}
use Rattle.combine_views.specs.Lines.{HasAdded, outputs_seen}
use Rattle.combine_views.specs.Skims.{HasSkimmed, HasWorkedAt, outputs_of}

-- ---- what the bytes show of a position

module _ (plan : Plan) (source : ℕ) where
  -- a line is emitted where one starts
  where_starts : (starts : Bool) (emitted : Emission)
      → emission_outputs plan source (cond starts emitted nothing) ≡ cond starts (emission_outputs plan source emitted) []
  where_starts true emitted = refl
  where_starts false emitted = refl

  outputs_are_seen : (work : SourceKind) (args : Args) (bytes : List ℕ) (base p : ℕ) → reads_file work ≡ true
      → emission_outputs plan source (emission_seen work args bytes base p) ≡ outputs_seen plan source work bytes base p
  outputs_are_seen Lines args bytes base p reads = where_starts (starts_line bytes (p - base)) (emits_one (blob (line_at bytes (p - base))) least_time)
  outputs_are_seen TimedLines args bytes base p reads = where_starts (starts_line bytes (p - base)) (line_emission (timed_line (line_at bytes (p - base))))
  outputs_are_seen Count args bytes base p reads = absurd (false≢true reads)
  outputs_are_seen Made args bytes base p reads = absurd (false≢true reads)

cut_of_file : (work : SourceKind) (pager : Paged) (p : ℕ) → reads_file work ≡ true → is_line_cut p pager ≡ false
    → is_cut_short work pager.bytes pager.base pager.len p ≡ false
cut_of_file Lines pager p reads whole = whole
cut_of_file TimedLines pager p reads whole = whole
cut_of_file Count pager p reads whole = absurd (false≢true reads)
cut_of_file Made pager p reads whole = absurd (false≢true reads)

next_of_file : (work : SourceKind) (bytes : List ℕ) (base p : ℕ) → reads_file work ≡ true → next_seen work bytes base p ≡ base + next_start bytes (p - base)
next_of_file Lines bytes base p reads = refl
next_of_file TimedLines bytes base p reads = refl
next_of_file Count bytes base p reads = absurd (false≢true reads)
next_of_file Made bytes base p reads = absurd (false≢true reads)

-- a position whose line is held
module _ (work : SourceKind) (reads : reads_file work ≡ true) (opening : Option Opening) (pager : Paged) (p : ℕ) (serves : Serves pager p) (whole : is_line_cut p pager ≡ false)
    (shown : ShowsText opening pager) where
  emission_held : (args : Args) (text : List ℕ) → IsText work opening pager.len text → emission work args text p ≡ emission_seen work args pager.bytes pager.base p
  emission_held args text is =
      emission_is_seen work args text pager.bytes pager.base pager.len p (serves.view work args reads) (shown text (is.told reads) (is.whole reads) work args reads)
      (cut_of_file work pager p reads whole)

  next_held : (args : Args) (text : List ℕ) → IsText work opening pager.len text → next_position work text p ≡ pager.base + next_start pager.bytes (p - pager.base)
  next_held args text is =
      next_is_seen work args text pager.bytes pager.base pager.len p (serves.view work args reads) (shown text (is.told reads) (is.whole reads) work args reads)
      (cut_of_file work pager p reads whole)
      ∙ next_of_file work pager.bytes pager.base p reads

  -- that the next line starts there may be noted
  pub pager_noted : (next : ℕ) → next ≡ pager.base + next_start pager.bytes (p - pager.base) → IsPagerOf opening pager
      → IsPagerOf opening (record pager { quiet = record { from = p; to = next } })
  pager_noted next is held = record {
    opened = held.opened;
    held = held.held;
    quiet = λ text told long above.
        is
        ∙ sym
        (next_is_seen Lines (Number (pos 0)) text pager.bytes pager.base pager.len p (serves.view Lines (Number (pos 0)) refl) (shown text told long Lines (Number (pos 0)) refl) whole);
  }

  module _ {A : Type 0} (stands : A → List Value → Type 0) (plan : Plan) (source : ℕ) (old new : Table A) where
    pub worked_held : (next : ℕ) → p < next → next ≡ pager.base + next_start pager.bytes (p - pager.base)
        → HasAdded stands (outputs_seen plan source work pager.bytes pager.base p) old new → HasWorkedAt stands plan source work opening pager.len p next old new
    worked_held next above is added = record {
      arrivals = added.arrivals;
      above = above;
      all = λ args text known. (
        added.all ∙ sym (outputs_are_seen plan source work args pager.bytes pager.base p reads) ∙ ap (emission_outputs plan source) (sym (emission_held args text known)),
        is ∙ sym (next_held args text known),
      );
      parts = added.parts;
      standing = added.standing;
    }

-- the bytes from a position on are looked through for the end of the line there
module _ (pager : Paged) (p base next : ℕ) (rest shown : List ℕ) (serves : Serves pager p) (from : base ≡ pager.base) (bytes : shown ≡ pager.bytes) (back : rest ≡ drop (p - base) shown)
    (ends : next ≡ min (line_len rest + 1) (length rest)) where
  base_before : base ≤ p
  base_before = let low = (serves.view Lines (Number (pos 0)) refl).from_base refl in omega arith

  pub next_found : p + next ≡ pager.base + next_start pager.bytes (p - pager.base)
  next_found =
      let reached = serves.reached in
      let low = base_before in
      let here : rest ≡ drop (p - pager.base) pager.bytes = back ∙ ap (drop (p - base)) bytes ∙ ap (λ (b : ℕ). drop (p - b) pager.bytes) from in
      let len = ap line_len here in
      omega (arith, ap (λ (l : List ℕ). length l) here, length-drop (p - pager.base) pager.bytes)

  pub next_within : is_line_cut p pager ≡ false → (p < p + next) × (p + next ≤ pager.len)
  next_within whole =
      let inside = next_seen_within Lines (Number (pos 0)) pager.bytes pager.base pager.len p (serves.view Lines (Number (pos 0)) refl) whole in
      let found = next_found in (omega (arith, inside.0), omega (arith, inside.1))

-- ---- a position inside a line, as is noted

skipped_noted : (work : SourceKind) (pager : Paged) (p : ℕ) → reads_file work ≡ true → skipped_to work pager p ≡ noted_next p pager.quiet
skipped_noted work pager p reads = ap (λ (b : Bool). cond b (noted_next p pager.quiet) None) reads

module _ {A : Type 0} (stands : A → List Value → Type 0) (plan : Plan) (source : ℕ) (work : SourceKind) where
  pub worked_noted : (reads : reads_file work ≡ true) (opening : Option Opening) (pager : Paged) (p next : ℕ) (table : Table A) → Some next ≡ noted_next p pager.quiet → p < next
      → IsPagerOf opening pager → HasWorkedAt stands plan source work opening pager.len p next table table
  worked_noted reads opening pager p next table noted above held = record {
    arrivals = [];
    above = above;
    all = λ args text is.
        let skipped = skips work args opening pager p next (skipped_noted work pager p reads ∙ sym noted) (λ _. held) text is in
        (ap (emission_outputs plan source) skipped.0, skipped.1);
    parts = omega arith;
    standing = λ added stood. subst (StandsFor stands table) (sym (append-nil added)) stood;
  }

  -- ---- one position behind others

  pub skimmed_none : (opening : Option Opening) (len from : ℕ) (table : Table A) → HasSkimmed stands plan source work opening len from from table table
  skimmed_none opening len from table = record {
    arrivals = [];
    all = λ args text is. sym (spread-empty (outputs_of plan source work args text) from from (omega arith));
    parts = omega arith;
    standing = λ added stood. subst (StandsFor stands table) (sym (append-nil added)) stood;
  }

  module _ (opening later : Option Opening) (len long from p next to : ℕ) (old mid new : Table A) (low : from ≤ p) (inside : p < to)
      (told : (text : List ℕ) → IsText work opening len text → IsText work later long text) where
    one_more : (args : Args) (text : List ℕ) → p < next → next ≡ next_position work text p
        → spread (outputs_of plan source work args text) from (min next to) ≡ spread (outputs_of plan source work args text) from p ++ outputs_of plan source work args text p
    one_more args text above is =
        let at : ℕ → List Output = outputs_of plan source work args text in
        let quiet : (q : ℕ) → p < q → q < next → at q ≡ [] = λ q low high. ap (emission_outputs plan source) (between_nothing work args text p q low (omega (arith, is))) in
        spread-join at from p (min next to) low (omega arith)
        ∙ ap (λ (l : List Output). spread at from p ++ l)
        (spread-step at p next (min next to) (omega arith) above quiet
        ∙ ap (λ (l : List Output). at p ++ l) (spread-empty at next (min next to) (omega arith)) ∙ append-nil (at p))

    pub skimmed_more : HasSkimmed stands plan source work opening len from p old mid → HasWorkedAt stands plan source work later long p next mid new
        → HasSkimmed stands plan source work opening len from (min next to) old new
    skimmed_more first one = record {
      arrivals = first.arrivals ++ one.arrivals;
      all = λ args text is.
          let here = one.all args text (told text is) in
          map-append Arrives first.arrivals one.arrivals
          ∙ ap (λ (l : List Output). l ++ map Arrives one.arrivals) (first.all args text is)
          ∙ ap (λ (l : List Output). spread (outputs_of plan source work args text) from p ++ l) here.0
          ∙ sym (one_more args text one.above here.1);
      parts = omega (arith, first.parts, one.parts, length-append first.arrivals one.arrivals);
      standing = λ added stood.
          subst (StandsFor stands new)
          (append_assoc added (added_by first.arrivals) (added_by one.arrivals)
          ∙ ap (λ (l : List Added). added ++ l) (sym (map-append (λ (arrival : Arrival). added_of arrival.element) first.arrivals one.arrivals)))
          (one.standing (added ++ added_by first.arrivals) (first.standing added stood));
    }

-- ---- the pager after a read

pub pager_later : (old new : ℕ → Option Opening) (pager later : Paged) → KeepsOpenings old new → later.file ≡ pager.file → later.len ≡ pager.len → later.quiet ≡ pager.quiet
    → IsSomeAnd (new later.file) (λ o. o.len ≡ later.len) → HoldsFile (new later.file) later → IsPagerOf (old pager.file) pager → IsPagerOf (new later.file) later
pager_later old new pager later kept file len quiet opened held was = record {
  opened = opened;
  held = held;
  quiet = λ text told whole.
      let before : new pager.file ≡ Some (record { len = pager.len; text = Some text }) =
      ap new (sym file) ∙ told ∙ ap (λ (n : ℕ). Some (record { len = n; text = Some text })) len in
      subst (IsQuiet text) (sym quiet) (was.quiet text (told_before (old pager.file) (new pager.file) pager.len text was.opened (kept pager.file) before) (whole ∙ len));
}
