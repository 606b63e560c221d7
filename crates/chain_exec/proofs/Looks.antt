-- Looks at positions, and what they tell of the text of an item.
use Rattle.std.proofs.Common.{◌≡◌, ℕ, zero, suc, ◌+◌, ◌-◌, ◌<◌, ◌≤◌, Bool, true, false, cond, not, nat_lt, ◌&&◌, if◌then◌else◌, List, [], ◌∷◌, ◌++◌, drop, map, Option, Some, None, refl, sym, ap, ◌∙◌, arith}
use Rattle.std.specs.Prelude.{IsSomeAnd}
use Rattle.std.proofs.lemmas.Bool.{ltb-true, false≢true}
use Rattle.std.proofs.lemmas.List.{drop-drop}
use Rattle.beam_values.specs.Checked.{reads_file}
use Rattle.beam_values.specs.Lines.{is_line_feed, line_len, next_start}
use Rattle.beam_values.specs.declared.fault.Cause.TheVariants.{Call, Read}
use Rattle.beam_values.specs.declared.plan.Args.{Args}
use Rattle.beam_values.specs.declared.plan.SourceKind.{SourceKind}
use Rattle.beam_values.specs.declared.plan.SourceKind.TheVariants.{Lines, TimedLines, Count, Made}
use Rattle.beam_model.specs.Positions as model
use Rattle.beam_model.specs.Positions.{next_position}
use Rattle.beam_model.proofs.Positions.{between_nothing}
use Rattle.beam_ports.specs.Files.{Opening, KeepsOpenings}
use Rattle.dofn_traits.specs.Calls.{AddsEmission, IsView, declared_after, timed_value}
use Rattle.dofn_traits.specs.declared.calls.Emission.{Emission}
use Rattle.sdf_library.specs.Paging.{Paged, is_line_cut, noted_next}
use Rattle.sdf_library.specs.declared.quiet.Quiet.{Quiet}
use Rattle.chain_exec.specs.Positions.{StoreCounts, IsSeenRefused, IsSourceRefused, emission_of}
use Rattle.chain_exec.specs.Sources.{SourceWork, IsHeldFor, IsLookAt, IsLookInto, IsPagerOf, IsText, is_look_cut_short, skipped_to}
use Rattle.chain_exec.specs.declared.refusal.ExecRefusal.{ExecRefusal}
use Rattle.chain_exec.specs.declared.refusal.ExecRefusal.TheVariants.{Faulted, NoMemory}
use Rattle.chain_exec.proofs.Poisons.{rose_after}

-- of a file what is held is looked at
pub look_at_file : (work : SourceKind) (args : Args) (pager : Paged) (p : ℕ) → reads_file work ≡ true → IsView work args pager.bytes pager.base pager.len p
    → IsLookAt (record { work = work; args = args }) pager p
look_at_file Lines args pager p reads view = view
look_at_file TimedLines args pager p reads view = view
look_at_file Count args pager p reads view = absurd (false≢true reads)
look_at_file Made args pager p reads view = absurd (false≢true reads)

-- what is held of a file has the line at a position where a look there isn't cut short
pub file_cut : (work : SourceKind) (args : Args) (pager : Paged) (p : ℕ) → reads_file work ≡ true
    → is_look_cut_short (record { work = work; args = args }) pager p ≡ is_line_cut p pager
file_cut Lines args pager p reads = refl
file_cut TimedLines args pager p reads = refl
file_cut Count args pager p reads = absurd (false≢true reads)
file_cut Made args pager p reads = absurd (false≢true reads)

-- ---- what is noted of a line

next_of_file : (work : SourceKind) (text : List ℕ) (p : ℕ) → reads_file work ≡ true → next_position work text p ≡ next_start text p
next_of_file Lines text p reads = refl
next_of_file TimedLines text p reads = refl
next_of_file Count text p reads = absurd (false≢true reads)
next_of_file Made text p reads = absurd (false≢true reads)

noted_inside : (p : ℕ) (quiet : Quiet) (next : ℕ) → noted_next p quiet ≡ Some next → (quiet.from < p) × (p < quiet.to) × (quiet.to ≡ next)
noted_inside p quiet next is = by_test (nat_lt quiet.from p) (nat_lt p quiet.to) refl refl is
  where
    by_test : (above below : Bool) → nat_lt quiet.from p ≡ above → nat_lt p quiet.to ≡ below → (if above && below then Some quiet.to else None) ≡ Some next
        → (quiet.from < p) × (p < quiet.to) × (quiet.to ≡ next)
    by_test true true above below is = (ltb-true quiet.from p above, ltb-true p quiet.to below, cc)
    by_test true false above below is = absurd cc
    by_test false below_is above below is = absurd cc

skipped_inside : (work : SourceKind) (pager : Paged) (p next : ℕ) → skipped_to work pager p ≡ Some next → (reads_file work ≡ true) × (noted_next p pager.quiet ≡ Some next)
skipped_inside Lines pager p next is = (refl, is)
skipped_inside TimedLines pager p next is = (refl, is)
skipped_inside Count pager p next is = absurd cc
skipped_inside Made pager p next is = absurd cc

line_len-drop : (k : ℕ) (rest : List ℕ) → k ≤ line_len rest → k + line_len (drop k rest) ≡ line_len rest
line_len-drop zero rest within = omega arith
line_len-drop (suc k) [] within = absurd (omega arith)
line_len-drop (suc k) (byte ∷ bytes) within = by_test (is_line_feed byte) within (line_len-drop k bytes)
  where
    by_test : (feed : Bool) → suc k ≤ cond (not feed) (1 + line_len bytes) 0 → (k ≤ line_len bytes → k + line_len (drop k bytes) ≡ line_len bytes)
        → suc k + line_len (drop k bytes) ≡ cond (not feed) (1 + line_len bytes) 0
    by_test true inside rest = absurd (omega arith)
    by_test false inside rest = omega (arith, rest (omega arith))

-- inside a line the next line start stays the same
next_start-inside : (file : List ℕ) (p q : ℕ) → p < q → q < next_start file p → next_start file q ≡ next_start file p
next_start-inside file p q above below =
    let there : p + (q - p) ≡ q = omega arith in
    let len = line_len-drop (q - p) (drop p file) (omega arith) in
    let same : line_len (drop (q - p) (drop p file)) ≡ line_len (drop q file) = ap line_len (drop-drop (q - p) p file ∙ ap (λ n. drop n file) there) in
    omega (arith, len, same)

-- a position that is skipped emits nothing, and the next line start comes after it
pub skips : (work : SourceKind) (args : Args) (opening : Option Opening) (pager : Paged) (p next : ℕ) → skipped_to work pager p ≡ Some next → IsHeldFor work opening pager
    → (text : List ℕ) → IsText work opening pager.len text → (model.nothing ≡ model.emission work args text p) × (next ≡ model.next_position work text p)
skips work args opening pager p next skipped held text is =
    let noted = skipped_inside work pager p next skipped in
    let reads = noted.0 in
    let inside = noted_inside p pager.quiet next noted.1 in
    let quiet : pager.quiet.to ≡ next_start text pager.quiet.from = (held reads).quiet text (is.told reads) (is.whole reads) (omega (arith, inside.0, inside.1)) in
    let below : p < next_start text pager.quiet.from = omega (arith, inside.1, quiet) in
    let after : next_position work text pager.quiet.from ≡ next_start text pager.quiet.from = next_of_file work text pager.quiet.from reads in (
      sym (between_nothing work args text pager.quiet.from p inside.0 (omega (arith, below, after))),
      sym inside.2 ∙ quiet ∙ sym (next_start-inside text pager.quiet.from p inside.0 below) ∙ sym (next_of_file work text p reads),
    )

-- a pager that holds nothing yet
pub fresh_pager : (opening : Option Opening) (file len : ℕ) → IsSomeAnd opening (λ o. o.len ≡ len)
    → IsPagerOf opening (record { file = file; len = len; base = 0; bytes = []; quiet = record { from = 0; to = 0 } })
fresh_pager opening file len opened = record { opened = opened; held = λ text told whole. refl; quiet = λ text told whole above. absurd (omega arith) }

-- one that was released
pub released_pager : (work : SourceKind) (opening : Option Opening) (pager : Paged) → IsHeldFor work opening pager → IsHeldFor work opening (record pager { base = 0; bytes = [] })
released_pager work opening pager held reads =
    let is = held reads in record { opened = is.opened; held = λ text told whole. refl; quiet = is.quiet }

-- a text that is known stays known
pub text_later : (work : SourceKind) (old new : ℕ → Option Opening) (file now len length_now : ℕ) (text : List ℕ) → KeepsOpenings old new → now ≡ file → length_now ≡ len
    → IsText work (old file) len text → IsText work (new now) length_now text
text_later work old new file now len length_now text kept same length_same is = record {
  told = λ reads. ap new same ∙ kept file _ (is.told reads) ∙ ap (λ (n : ℕ). Some (record { len = n; text = Some text })) (sym length_same);
  whole = λ reads. is.whole reads ∙ sym length_same;
  none = is.none;
}

-- what was added to nothing is all that there is
pub adds_all : (e : model.Emission) (old new : Emission) → old ≡ record { items = []; declared = None } → AddsEmission e old new → emission_of new ≡ e
adds_all (model.Emits values declared) old new none adds =
    let items = adds.0 ∙ ap (λ (o : Emission). map timed_value o.items ++ values) none in
    let mark = adds.1 ∙ ap (λ (o : Emission). declared_after o.declared declared) none ∙ by_mark declared in
    ap (λ vs. model.Emits vs new.declared) items ∙ ap (model.Emits values) mark
  where
    by_mark : (d : Option _) → declared_after None d ≡ d
    by_mark None = refl
    by_mark (Some m) = refl
adds_all model.Poison old new none adds = absurd adds

-- a refused call is a refusal of the whole work on a position
pub seen_refused : (strict : Bool) (start before after : ℕ) (store : StoreCounts) (node : ℕ) (source : SourceWork) (pager : Paged) (opening : Option Opening) (len p : ℕ)
    → start ≤ before → ((text : List ℕ) → IsText source.work opening len text → IsLookInto text source pager)
    → (refusal : ExecRefusal) → IsSeenRefused (record { strict = strict; before = before; after = after }) node source pager p refusal
    → IsSourceRefused (record { strict = strict; before = start; after = after }) store node source opening len p refusal
seen_refused strict start before after store node source pager opening len p kept shown (Faulted at Call) is =
    (rose_after start before after kept is.0, is.1, λ s text known. is.2 s text (shown text known))
seen_refused strict start before after store node source pager opening len p kept shown (Faulted at Read) is = absurd is
seen_refused strict start before after store node source pager opening len p kept shown NoMemory is = tt
