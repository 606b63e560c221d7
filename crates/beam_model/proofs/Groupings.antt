-- Plain groupings have each cell once, and only cells that have an element.
use Rattle.std.proofs.Common.{◌≡◌, ◌≤◌, Bool, true, ◌&&◌, List, get_or, refl, arith}
use Rattle.std.specs.List.{All, count_by}
use Rattle.std.specs.Ordering.{int_eq}
use Rattle.std.specs.Str.{bytes_eq}
use Rattle.std.proofs.lemmas.Bool.{and_from, and_parts}
use Rattle.std.proofs.lemmas.Bool.Decides.{Decides-int_eq}
use Rattle.std.proofs.lemmas.Slice.Eq.{bytes_eq-Decides}
use Rattle.beam_values.specs.Intervals.{Interval}
use Rattle.beam_values.specs.Grouping.{key_of, is_in_cell, IsPlainGrouping}
use Rattle.beam_values.specs.Spelling.{spelling}
use Rattle.beam_values.specs.declared.value.Value.{Value}
use Rattle.beam_values.specs.declared.element.Element.{Element}
use Rattle.beam_model.proofs.Matching.{count_member}

-- whether an element is in the cell of another
abbrev pub own_cell : Element → Element → Bool
own_cell a b = is_in_cell (key_of a) a.span b

pub in_own_cell : (e : Element) → own_cell e e ≡ true
in_own_cell e =
    and_from _ _
    (and_from _ _ ((bytes_eq-Decides (spelling (key_of e)) (spelling (key_of e))).1 refl) ((Decides-int_eq e.span.start e.span.start).1 refl))
    ((Decides-int_eq e.span.end e.span.end).1 refl)

-- elements of one cell have one window, and keys that are spelled alike
pub record IsSameCell (a b : Element) : Type 0 where
  pub keys : spelling (key_of b) ≡ spelling (key_of a)
  pub spans : b.span ≡ a.span

pub same_span : (a b : Interval) → a.start ≡ b.start → a.end ≡ b.end → a ≡ b
same_span a b p q = λ i. record { start = p i; end = q i }

pub same_cell : (a b : Element) → own_cell a b ≡ true → IsSameCell a b
same_cell a b inside =
    let outer = and_parts (bytes_eq (spelling (key_of b)) (spelling (key_of a)) && int_eq b.span.start a.span.start) (int_eq b.span.end a.span.end) inside in
    let inner = and_parts (bytes_eq (spelling (key_of b)) (spelling (key_of a))) (int_eq b.span.start a.span.start) outer.0 in
    record {
      keys = (bytes_eq-Decides (spelling (key_of b)) (spelling (key_of a))).0 inner.0;
      spans = same_span b.span a.span ((Decides-int_eq b.span.start a.span.start).0 inner.1) ((Decides-int_eq b.span.end a.span.end).0 outer.1);
    }

pub cells_once : (elements panes : List Element) (key : Value) (span : Interval) → IsPlainGrouping elements panes → count_by (is_in_cell key span) panes ≤ 1
cells_once elements panes key span g = omega (arith, g.once key span)

pub cells_held : (elements panes : List Element) → IsPlainGrouping elements panes
    → All (λ pane. 1 ≤ count_by (is_in_cell (key_of pane) pane.span) elements) panes
cells_held elements panes g k d within =
    let pane = get_or panes k d in
    omega (arith, g.once (key_of pane) pane.span, count_member (own_cell pane) panes k d within (in_own_cell pane))
