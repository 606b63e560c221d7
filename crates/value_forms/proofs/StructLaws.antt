-- What every form of a struct meets: from its fields, and from the fields of each thing making that thing.
use Rattle.std.proofs.Common.{◌≡◌, ℕ, zero, suc, ◌+◌, ◌≤◌, max, List, [], ◌∷◌, ◌++◌, length, drop, map, eqb, Some, slice_get, refl, sym, ap, ap₂, subst, ◌∙◌, append_assoc, add-one, drop-cons, arith}
use Rattle.std.proofs.lemmas.Bool.{eqb-true, eq-eqb}
use Rattle.std.proofs.lemmas.List.{append-nil, length-append, drop_all}
use Rattle.std.proofs.lemmas.Option.{cond_some, slice_get_within, get_or_from_slice_get}
use Rattle.std.specs.List.{AllByRecursion}
use Rattle.beam_values.specs.declared.value.Value.{Value}
use Rattle.beam_values.specs.declared.value.Value.TheVariants.{Seq}
use Rattle.beam_values.specs.Storable.{IsStorable}
use Rattle.beam_values.proofs.Storable.{Seq-fits}
use Rattle.beam_coders.specs.Readable.{nesting, greatest_of}
use Rattle.beam_coders.proofs.NestingLaws.{nesting-Seq}
use Rattle.value_forms.specs.Forms.{Form}
use Rattle.value_forms.specs.Parts.{◌>>=◌, items_at, field_at, ends_at}
use Rattle.value_forms.specs.Structs.{Row, no_more, ◌&◌, struct_form}
use Rattle.value_forms.proofs.PartLaws.{bind_some, items_at-Seq, items_at-is}
use Rattle.value_forms.proofs.FormLaws.{IsForm, some_is, items_fit}

-- of fields, as `IsForm` of one form
pub record IsRow {A : Type 0} (row : Row A) (P : A → Type 0) (deep : ℕ) : Type 0 where
  pub again : (front : List Value) (x : A) → P x → row.of (length front) (front ++ row.to x) ≡ Some x
  pub exact : (from : ℕ) (vs : List Value) (x : A) → row.of from vs ≡ Some x → row.to x ≡ drop from vs
  pub shallow : (x : A) → greatest_of (map nesting (row.to x)) ≤ deep + row.depth x
  pub words : (x : A) → P x → AllByRecursion IsStorable (row.to x)
  pub fits : (from : ℕ) (vs : List Value) (x : A) → AllByRecursion IsStorable vs → row.of from vs ≡ Some x → P x

module _ {A : Type 0} {row : Row A} {P : A → Type 0} {deep : ℕ} (is : IsRow row P deep) where
  -- the fields that are all of the items
  pub row_alone : (x : A) → P x → row.of 0 (row.to x) ≡ Some x
  row_alone x h = is.again [] x h

  pub row_whole : (vs : List Value) (x : A) → row.of 0 vs ≡ Some x → row.to x ≡ vs
  row_whole vs x e = is.exact 0 vs x e

-- ---- one field

ends_again : (front : List Value) (x : Unit {0}) → Unit {0} → ends_at (front ++ []) (length front) ≡ Some x
unfolding ends_at
ends_again front x h = rw (append-nil front, eq-eqb (length front) (length front) refl) refl

ends_exact : (from : ℕ) (vs : List Value) (x : Unit {0}) → ends_at vs from ≡ Some x → [] ≡ drop from vs
unfolding ends_at
ends_exact from vs x e =
    let same : length vs ≡ from = eqb-true (length vs) from (cond_some (eqb (length vs) from) tt x e).0 in
    sym (drop_all from vs (omega arith))

pub no_more_is_row : IsRow no_more (λ _. Unit {0}) 0
no_more_is_row = record {
  again = ends_again;
  exact = ends_exact;
  shallow = λ x. omega arith;
  words = λ x _. tt;
  fits = λ from vs x s e. tt;
}

slice_get_after : (front : List Value) (v : Value) (vs : List Value) → slice_get (front ++ v ∷ vs) (length front) ≡ Some v
slice_get_after [] v vs = refl
slice_get_after (w ∷ front) v vs = slice_get_after front v vs

field_fits : (vs : List Value) (place : ℕ) (v : Value) → AllByRecursion IsStorable vs → slice_get vs place ≡ Some v → IsStorable v
field_fits [] place v s e = absurd cc
field_fits (w ∷ vs) zero v s e = subst IsStorable (some_is w v e) s.0
field_fits (w ∷ vs) (suc place) v s e = field_fits vs place v s.1 e

drop_at : (from : ℕ) (vs : List Value) (v : Value) → slice_get vs from ≡ Some v → drop from vs ≡ v ∷ drop (from + 1) vs
drop_at from vs v e = rw (drop-cons vs from v (slice_get_within vs from v e), get_or_from_slice_get vs from v v e, add-one) refl

module _ {A B : Type 0} {form : Form A} {row : Row B} {P : A → Type 0} {Q : B → Type 0} {deep more : ℕ} (is : IsForm form P deep) (others : IsRow row Q more) where
  row_again : (front : List Value) (x : A × B) → P x.0 × Q x.1 → (form & row).of (length front) (front ++ (form & row).to x) ≡ Some x
  unfolding field_at
  row_again front x h =
      let v = form.to x.0 in
      let more : row.of (length front + 1) (front ++ v ∷ row.to x.1) ≡ Some x.1 =
      subst (λ (n : ℕ). row.of n (front ++ v ∷ row.to x.1) ≡ Some x.1) (length-append front (v ∷ [])) (subst (λ (vs : List Value). row.of (length (front ++ v ∷ [])) vs ≡ Some x.1) (append_assoc front (v ∷ []) (row.to x.1)) (others.again (front ++ v ∷ []) x.1 h.1)) in
      rw (slice_get_after front v (row.to x.1), is.again x.0 h.0, more) refl

  row_exact : (from : ℕ) (vs : List Value) (x : A × B) → (form & row).of from vs ≡ Some x → (form & row).to x ≡ drop from vs
  unfolding field_at
  row_exact from vs x e =
      let first = bind_some (field_at form.of vs from) _ x e in
      let v = bind_some (slice_get vs from) form.of first.0 first.1 in
      let rest = bind_some (row.of (from + 1) vs) _ x first.2 in
      let same = some_is (first.0, rest.0) x rest.2 in
      ap (λ (p : A × B). form.to p.0 ∷ row.to p.1) (sym same) ∙ ap₂ (λ (w : Value) (ws : List Value). w ∷ ws) (is.exact v.0 first.0 v.2) (others.exact (from + 1) vs rest.0 rest.1) ∙ sym (drop_at from vs v.0 v.1)

  row_fits : (from : ℕ) (vs : List Value) (x : A × B) → AllByRecursion IsStorable vs → (form & row).of from vs ≡ Some x → P x.0 × Q x.1
  unfolding field_at
  row_fits from vs x s e =
      let first = bind_some (field_at form.of vs from) _ x e in
      let v = bind_some (slice_get vs from) form.of first.0 first.1 in
      let rest = bind_some (row.of (from + 1) vs) _ x first.2 in
      subst (λ (p : A × B). P p.0 × Q p.1) (some_is (first.0, rest.0) x rest.2) (is.fits v.0 first.0 (field_fits vs from v.0 s v.1) v.2, others.fits (from + 1) vs rest.0 s rest.1)

  row_shallow : (x : A × B) → greatest_of (map nesting ((form & row).to x)) ≤ max deep more + (form & row).depth x
  row_shallow x = omega (arith, is.shallow x.0, others.shallow x.1)

  pub and_is_row : IsRow (form & row) (λ x. P x.0 × Q x.1) (max deep more)
  and_is_row = record {
    again = row_again;
    exact = row_exact;
    shallow = row_shallow;
    words = λ x h. (is.words x.0 h.0, others.words x.1 h.1);
    fits = row_fits;
  }

module _ {S A : Type 0} {row : Row A} {P : A → Type 0} {deep : ℕ} (fields : S → A) (whole : A → S) (is : IsRow row P deep)
    (back : (s : S) → whole (fields s) ≡ s) (forth : (x : A) → fields (whole x) ≡ x) where
  struct_again : (s : S) → P (fields s) → (struct_form row fields whole).of ((struct_form row fields whole).to s) ≡ Some s
  struct_again s h = rw (items_at-Seq (row.to (fields s)), row_alone is (fields s) h) (ap Some (back s))

  struct_exact : (v : Value) (s : S) → (struct_form row fields whole).of v ≡ Some s → (struct_form row fields whole).to s ≡ v
  struct_exact v s e =
      let read = bind_some (items_at v >>= row.of 0) _ s e in
      let items = bind_some (items_at v) (row.of 0) read.0 read.1 in
      let same : fields s ≡ read.0 = ap fields (sym (some_is (whole read.0) s read.2)) ∙ forth read.0 in
      ap (λ (x : A). Seq (row.to x)) same ∙ ap Seq (row_whole is items.0 read.0 items.2) ∙ items_at-is v items.0 items.1

  struct_fits : (v : Value) (s : S) → IsStorable v → (struct_form row fields whole).of v ≡ Some s → P (fields s)
  struct_fits v s stored e =
      let read = bind_some (items_at v >>= row.of 0) _ s e in
      let items = bind_some (items_at v) (row.of 0) read.0 read.1 in
      let same : read.0 ≡ fields s = sym (forth read.0) ∙ ap fields (some_is (whole read.0) s read.2) in
      subst P same (is.fits 0 items.0 read.0 (items_fit v items.0 stored items.1) items.2)

  pub struct_is_form : IsForm (struct_form row fields whole) (λ s. P (fields s)) (1 + deep)
  struct_is_form = record {
    again = struct_again;
    exact = struct_exact;
    shallow = λ s. rw nesting-Seq (omega (arith, is.shallow (fields s)));
    words = λ s h. Seq-fits (row.to (fields s)) (is.words (fields s) h);
    fits = struct_fits;
  }
