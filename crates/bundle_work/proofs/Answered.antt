-- What holds of an answer, or of a kit before and after a call, holds in another form too.
use Rattle.std.proofs.Common.{ℕ, Bool, refl, ◌∙◌, arith}
use Rattle.std.specs.Prelude.{List, Option, Result, Ok, Err, IfOk, IfErr}
use Rattle.beam_values.specs.declared.file_text.FileText.{FileText}
use Rattle.beam_values.specs.declared.plan.Plan.{Plan}
use Rattle.beam_values.specs.declared.plan.SourceKind.{SourceKind}
use Rattle.beam_ports.specs.Files.{Opening}
use Rattle.chain_exec.specs.Sources.{IsText}
use Rattle.chain_exec.proofs.Looks.{text_later}
use Rattle.sdf_library.specs.Paging.{Paged}
use Rattle.bundle_work.specs.Bundles.{CanRead, StaysAble}
use Rattle.bundle_work.specs.Outside.{IsKitKept}
use Rattle.bundle_work.specs.declared.kit.Kit.{Kit}

pub if_ok : {A E : Type 0} {P Q : A → Type 0} (r : Result A E) → ((a : A) → P a → Q a) → IfOk r P → IfOk r Q
if_ok (Ok a) f h = f a h
if_ok (Err e) f h = tt

pub if_err : {A E : Type 0} {P Q : E → Type 0} (r : Result A E) → ((e : E) → P e → Q e) → IfErr r P → IfErr r Q
if_err (Ok a) f h = tt
if_err (Err e) f h = f e h

module _ {F S : Type 0} (faults : F → ℕ) (strict : F → Bool) (fails : S → ℕ) (files : S → Option (List FileText)) (opened : S → ℕ → Option Opening) where
  pub kit_same : (shelf : F) (store : S) → IsKitKept faults strict fails files opened shelf shelf store store
  kit_same shelf store = record { counts = omega arith; strict = refl; reading = record { counts = omega arith; files = refl; openings = λ file opening is. is } }

  pub kit_onward : (shelf mid later : F) (store between after : S) → IsKitKept faults strict fails files opened shelf mid store between → IsKitKept faults strict fails files opened mid later between after
      → IsKitKept faults strict fails files opened shelf later store after
  kit_onward shelf mid later store between after one two = record {
    counts = omega (arith, one.counts, two.counts);
    strict = two.strict ∙ one.strict;
    reading = record {
      counts = omega (arith, one.reading.counts, two.reading.counts);
      files = two.reading.files ∙ one.reading.files;
      openings = λ file opening is. two.reading.openings file opening (one.reading.openings file opening is);
    };
  }

  module _ (plan : Plan) (node : ℕ) where
    pub able_same : (kit : Kit F S) (pager : Paged) → CanRead plan node (opened kit.store pager.file) pager → StaysAble faults strict fails files opened plan node kit kit pager pager
    able_same kit pager able = record { able = able; file = refl; len = refl; kept = kit_same kit.shelf kit.store; files = refl }

    pub able_onward : (kit mid later : Kit F S) (pager next last : Paged) → StaysAble faults strict fails files opened plan node kit mid pager next
        → StaysAble faults strict fails files opened plan node mid later next last → StaysAble faults strict fails files opened plan node kit later pager last
    able_onward kit mid later pager next last one two = record {
      able = two.able;
      file = two.file ∙ one.file;
      len = two.len ∙ one.len;
      kept = kit_onward kit.shelf mid.shelf later.shelf kit.store mid.store later.store one.kept two.kept;
      files = two.files ∙ one.files;
    }

    -- a text of the item, as it was opened first, is so later
    pub texts_later : (kit after : Kit F S) (pager later : Paged) → StaysAble faults strict fails files opened plan node kit after pager later → (work : SourceKind) (text : List ℕ)
        → IsText work (opened kit.store pager.file) pager.len text → IsText work (opened after.store later.file) later.len text
    texts_later kit after pager later stays work text told =
        text_later work (opened kit.store) (opened after.store) pager.file later.file pager.len later.len text stays.kept.reading.openings stays.file stays.len told
