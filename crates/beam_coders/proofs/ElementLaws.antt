-- An element that was written is read, and what is read is an element that was written.
use Rattle.std.proofs.Common.{◌≡◌, ℕ, ◌^◌, ◌<◌, ℤ, List, ◌++◌, length, Ok, refl, ap, subst, ◌∙◌, append_assoc, arith}
use Rattle.std.proofs.lemmas.List.{length-append}
use Rattle.beam_values.specs.declared.element.Element.{Element}
use Rattle.beam_values.specs.declared.element.PaneTag.{PaneTag}
use Rattle.beam_values.specs.declared.value.Value.{Value}
use Rattle.beam_values.specs.Intervals.{Interval}
use Rattle.beam_values.specs.Spelling.{ms_spelling, pane_spelling, spelling, element_spelling}
use Rattle.beam_coders.specs.Readable.{depth_limit, FitsPlaces, IsReadableElement}
use Rattle.beam_coders.specs.Reading.{◌>>=◌, time_at, span_at, pane_at, value_at, element_at}
use Rattle.beam_coders.proofs.Fronts.{Front, front_of}
use Rattle.beam_coders.proofs.Parts.{IsBytes, bind_ok, ok_is, Takes, Takes-then}
use Rattle.beam_coders.proofs.PlaceLaws.{time_takes, time_again, span_takes, span_again, pane_takes, pane_again}
use Rattle.beam_coders.proofs.ValueLaws.{value_takes, value_again}

record ElementReadSo (bytes : List ℕ) (x : Element × List ℕ) : Type 0 where
  takes : Takes bytes (element_spelling x.0) x.1
  readable : IsReadableElement x.0

abbrev element_of : ℤ → Interval → PaneTag → Value → Element
element_of time span pane value = record { value = value; time = time; span = span; pane = pane }

element_takes : (bytes : List ℕ) (x : Element × List ℕ) → IsBytes bytes → element_at bytes ≡ Ok x → ElementReadSo bytes x
unfolding element_at
element_takes bytes x fits e =
    let a = bind_ok (time_at bytes) (λ time. span_at time.1 >>= λ span. pane_at span.1 >>= λ pane. value_at depth_limit pane.1 >>= λ value. Ok (element_of time.0 span.0 pane.0 value.0, value.1)) x e in
    let time = a.0 in
    let b = bind_ok (span_at time.1) (λ span. pane_at span.1 >>= λ pane. value_at depth_limit pane.1 >>= λ value. Ok (element_of time.0 span.0 pane.0 value.0, value.1)) x a.2 in
    let span = b.0 in
    let c = bind_ok (pane_at span.1) (λ pane. value_at depth_limit pane.1 >>= λ value. Ok (element_of time.0 span.0 pane.0 value.0, value.1)) x b.2 in
    let pane = c.0 in
    let d = bind_ok (value_at depth_limit pane.1) (λ value. Ok (element_of time.0 span.0 pane.0 value.0, value.1)) x c.2 in
    let value = d.0 in
    let t0 = time_takes bytes time fits a.1 in
    let t1 = span_takes time.1 span t0.takes.rest_fits b.1 in
    let t2 = pane_takes span.1 pane t1.takes.rest_fits c.1 in
    let t3 = value_takes depth_limit pane.1 value t2.takes.rest_fits d.1 in
    let at = ms_spelling time.0 in
    let from = ms_spelling span.0.start in
    let to = ms_spelling span.0.end in
    let tag = pane_spelling pane.0 in
    let text = spelling value.0 in
    let last = Takes-then span.1 tag pane.1 text value.1 t2.takes t3.takes in
    let windowed : Takes time.1 (from ++ (to ++ (tag ++ text))) value.1 =
    subst (λ (t : List ℕ). Takes time.1 t value.1) (append_assoc from to (tag ++ text)) (Takes-then time.1 (from ++ to) span.1 (tag ++ text) value.1 t1.takes last) in
    let whole = Takes-then bytes at time.1 (from ++ (to ++ (tag ++ text))) value.1 t0.takes windowed in
    let places : FitsPlaces (element_of time.0 span.0 pane.0 value.0) = record { time = t0.within; start = t1.start; end = t1.end; ordered = t1.ordered; index = t2.index; words = t3.words } in
    let read : Element × List ℕ = (element_of time.0 span.0 pane.0 value.0, value.1) in
    subst (ElementReadSo bytes) {x = read} (ok_is read x d.2)
    record { takes = whole; readable = record { within = t3.within; places = places } }

element_again : (e : Element) (rest : List ℕ) → IsReadableElement e → length (spelling e.value) < 2 ^ 64 → element_at (element_spelling e ++ rest) ≡ Ok (e, rest)
unfolding element_at
element_again e rest readable small =
    let at = ms_spelling e.time in
    let from = ms_spelling e.span.start in
    let to = ms_spelling e.span.end in
    let tag = pane_spelling e.pane in
    let text = spelling e.value in
    let grouped : element_spelling e ++ rest ≡ at ++ (from ++ (to ++ (tag ++ (text ++ rest)))) = simp append_assoc in
    let p = readable.places in
    ap element_at grouped
    ∙ rw (time_again e.time (from ++ (to ++ (tag ++ (text ++ rest)))) p.time, span_again e.span (tag ++ (text ++ rest)) p.start p.end p.ordered, pane_again e.pane (text ++ rest) p.index, value_again e.value depth_limit rest readable.within p.words small) refl

pub record ElementFront (bytes : List ℕ) (e : Element) (rest : List ℕ) : Type 0 where
  pub readable : IsReadableElement e
  pub at : Front bytes (element_spelling e) rest

pub element_front : (bytes : List ℕ) (e : Element) (rest : List ℕ) → IsBytes bytes → element_at bytes ≡ Ok (e, rest) → ElementFront bytes e rest
element_front bytes e rest fits h =
    let so = element_takes bytes (e, rest) fits h in
    record { readable = so.readable; at = front_of bytes (element_spelling e) rest so.takes }

pub element_only : (bytes : List ℕ) (e : Element) (rest : List ℕ) → length bytes < 2 ^ 64 → IsReadableElement e → bytes ≡ element_spelling e ++ rest → element_at bytes ≡ Ok (e, rest)
element_only bytes e rest small readable h =
    let at = ms_spelling e.time in
    let from = ms_spelling e.span.start in
    let to = ms_spelling e.span.end in
    let tag = pane_spelling e.pane in
    let text = spelling e.value in
    let grouped : bytes ≡ at ++ (from ++ (to ++ (tag ++ (text ++ rest)))) = h ∙ simp append_assoc in
    let size = ap length grouped in
    let room : length text < 2 ^ 64 =
    omega (arith, length-append at (from ++ (to ++ (tag ++ (text ++ rest)))), length-append from (to ++ (tag ++ (text ++ rest))), length-append to (tag ++ (text ++ rest)), length-append tag (text ++ rest), length-append text rest) in
    ap element_at h ∙ element_again e rest readable room
