-- A snapshot is read again as the book that it was made of, and what is read was written so.
use Rattle.std.proofs.Common.{◌≡◌, ℕ, ◌^◌, ◌<◌, ◌≤◌, Bool, true, false, cond, List, [], ◌∷◌, ◌++◌, length, take, drop, Option, Some, None, Result, Ok, Err, refl, sym, ap, ap₂, subst, ◌∙◌, arith}
use Rattle.std.proofs.lemmas.List.{append-nil, take-append-drop, length-append}
use Rattle.std.proofs.lemmas.Slice.Eq.{bytes_eq-Decides}
use Rattle.std.specs.Prelude.{bytes_eq}
use Rattle.beam_values.specs.declared.value.Value.{Value}
use Rattle.beam_values.specs.Spelling.{spelling}
use Rattle.beam_values.specs.Storable.{IsStorable}
use Rattle.beam_coders.specs.Readable.{nesting, depth_limit}
use Rattle.beam_coders.specs.Reading.{Reading, value_at}
use Rattle.beam_coders.proofs.Parts.{IsBytes, IsBytes-drop}
use Rattle.beam_coders.proofs.ValueLaws.{value_again, value_takes}
use Rattle.book_core.specs.declared.data.BookData.{BookData}
use Rattle.book_core.specs.BookForms.{book_form, FitsBook}
use Rattle.book_core.proofs.BookFormLaws.{book_is_form}
use Rattle.snapshot_refusal.specs.declared.refusal.SnapRefusal.{SnapRefusal}
use Rattle.snapshot_refusal.specs.declared.refusal.SnapRefusal.TheVariants.{Magic}
use Rattle.snapshot_store.specs.Snapshots.{magic, snap, ◌>>=◌, after_magic, alone, whole, value_meaning, formed, snap_meaning}

-- ---- again

value_read_again : (v : Value) → nesting v ≤ depth_limit → IsStorable v → length (spelling v) < 2 ^ 64 → value_meaning (spelling v) ≡ Ok v
unfolding value_meaning
value_read_again v within words small =
    let front = subst (λ (text : List ℕ). value_at depth_limit text ≡ Ok (v, [])) (append-nil (spelling v)) (value_again v depth_limit [] within words small) in
    ap whole front

magic_read_again : (text : List ℕ) → after_magic (magic ++ text) ≡ Ok text
unfolding after_magic
magic_read_again text = refl

pub snap_again : (d : BookData) → FitsBook d → book_form.depth d ≤ 200 → length (snap d) < 2 ^ 64 → snap_meaning (snap d) ≡ Ok d
snap_again d fits deep small =
    let v = book_form.to d in
    let within : nesting v ≤ depth_limit = omega (arith, book_is_form.shallow d) in
    let size : length (spelling v) < 2 ^ 64 = omega (arith, length-append magic (spelling v)) in
    rw (magic_read_again (spelling v), value_read_again v within (book_is_form.words d fits) size, book_is_form.again d fits) refl

-- ---- exactly

-- what a step that is answered began with
bind_ok : {A B : Type 0} (r : Result A SnapRefusal) (f : A → Result B SnapRefusal) (y : B) → (r >>= f) ≡ Ok y → (x : A) × (r ≡ Ok x) × (f x ≡ Ok y)
bind_ok (Ok x) f y e = (x, refl, e)
bind_ok (Err e) f y e' = absurd cc

-- a test that passed
test_ok : {A : Type 0} (b : Bool) (r : SnapRefusal) (x y : A) → cond b (Ok x) (Err r) ≡ Ok y → (b ≡ true) × (x ≡ y)
test_ok true r x y e = (refl, cc)
test_ok false r x y e = absurd cc

formed_is : (r : Option BookData) (d : BookData) → formed r ≡ Ok d → r ≡ Some d
formed_is (Some x) d e = cc
formed_is None d e = absurd cc

alone_is : (v w : Value) (rest : List ℕ) → alone v rest ≡ Ok w → (v ≡ w) × (rest ≡ [])
alone_is v w [] e = (cc, refl)
alone_is v w (byte ∷ rest) e = absurd cc

whole_is : (r : Reading Value) (w : Value) → whole r ≡ Ok w → r ≡ Ok (w, [])
whole_is (Ok x) w e = let p = alone_is x.0 w x.1 e in ap (λ (y : Value × List ℕ). Ok y) (rw (p.0, p.1) refl)
whole_is (Err refusal) w e = absurd cc

magic_is : (bytes text : List ℕ) → after_magic bytes ≡ Ok text → (take 4 bytes ≡ magic) × (drop 4 bytes ≡ text)
unfolding after_magic
magic_is bytes text e =
    let p = test_ok (bytes_eq (take 4 bytes) magic) Magic (drop 4 bytes) text e in
    ((bytes_eq-Decides (take 4 bytes) magic).0 p.0, p.1)

value_is : (text : List ℕ) (v : Value) → value_meaning text ≡ Ok v → value_at depth_limit text ≡ Ok (v, [])
unfolding value_meaning
value_is text v e = whole_is (value_at depth_limit text) v e

-- what was read, and from what
record Parts (bytes : List ℕ) (d : BookData) : Type 0 where
  value : Value
  text : bytes ≡ magic ++ spelling value
  words : IsStorable value
  formed : book_form.of value ≡ Some d

parts_of : (bytes : List ℕ) (d : BookData) → IsBytes bytes → snap_meaning bytes ≡ Ok d → Parts bytes d
parts_of bytes d fits e =
    let a = bind_ok (after_magic bytes) (λ spelled. value_meaning spelled >>= λ v. formed (book_form.of v)) d e in
    let b = bind_ok (value_meaning a.0) (λ v. formed (book_form.of v)) d a.2 in
    let m = magic_is bytes a.0 a.1 in
    let bytes_fit : IsBytes a.0 = subst IsBytes m.1 (IsBytes-drop 4 bytes fits) in
    let so = value_takes depth_limit a.0 (b.0, []) bytes_fit (value_is a.0 b.0 b.1) in
    let whole_text : a.0 ≡ spelling b.0 = so.takes.parts ∙ append-nil (spelling b.0) in
    record {
      value = b.0;
      text = sym (take-append-drop 4 bytes) ∙ ap₂ (λ (s t : List ℕ). s ++ t) m.0 (m.1 ∙ whole_text);
      words = so.words;
      formed = formed_is (book_form.of b.0) d b.2;
    }

pub snap_exact : (bytes : List ℕ) (d : BookData) → IsBytes bytes → snap_meaning bytes ≡ Ok d → bytes ≡ snap d
snap_exact bytes d fits e =
    let p = parts_of bytes d fits e in
    p.text ∙ ap (λ (v : Value). magic ++ spelling v) (sym (book_is_form.exact p.value d p.formed))

pub snap_fits : (bytes : List ℕ) (d : BookData) → IsBytes bytes → snap_meaning bytes ≡ Ok d → FitsBook d
snap_fits bytes d fits e = let p = parts_of bytes d fits e in book_is_form.fits p.value d p.words p.formed
