-- The panes of a Group whose windows don't merge, at the end of a run, are the plain grouping of what it took.
use Rattle.std.proofs.Common.{◌≡◌, ℕ, ◌≤◌, min, ℤ, Bool, true, false, cond, List, get_or, map, refl, sym, ap, subst, ◌∙◌}
use Rattle.std.specs.Prelude.{◌==◌, ◌&&◌, ◌≤ℤ◌, bytes_eq}
use Rattle.std.specs.Ordering.{int_eq}
use Rattle.std.specs.List.{All, count_by, filter, sum_by}
use Rattle.std.proofs.lemmas.Bool.{and_from}
use Rattle.std.proofs.lemmas.List.Elements.{All-filter, All-map, filter_passes}
use Rattle.std.proofs.lemmas.Slice.Eq.{bytes_eq-Decides}
use Rattle.beam_values.specs.Bags.{IsSameBag}
use Rattle.beam_values.specs.Grouping.{IsPlainGrouping, IsPlainPane, is_in_cell, key_of, part_of}
use Rattle.beam_values.specs.Intervals.{Interval}
use Rattle.beam_values.specs.Spans.{same_span}
use Rattle.beam_values.specs.Spelling.{spelling}
use Rattle.beam_values.specs.Times.{final_mark}
use Rattle.beam_values.specs.declared.cell.Pane.{Pane}
use Rattle.beam_values.specs.declared.element.Element.{Element}
use Rattle.beam_values.specs.declared.value.Value.{Value}
use Rattle.beam_values.proofs.Bags.{bag_trans, sum_by-filter, sum_by-map}
use Rattle.beam_model.specs.Panes.{IsLegalHistory, Taken, is_at_key, is_of_window, is_pane_at_key, panes_at, taken_at}
use Rattle.beam_model.specs.Plans.{default_trigger}
use Rattle.beam_model.specs.Sessions.{is_keyed}
use Rattle.book_core.proofs.Through.{passes_have}
use Rattle.ended_runs.proofs.Passing.{all_fired, once_each, own_alone, whole_pane}

-- ---- what is at a node, element by element

module _ {X : Type 0} (node_of : X → ℕ) (element : X → Element) (node : ℕ) where
  -- a sum over what is at a node
  pub sum_at : (w : Element → ℕ) (xs : List X) → sum_by w (map element (filter (λ x. node_of x == node) xs)) ≡ sum_by (λ x. cond (node_of x == node) (w (element x)) 0) xs
  sum_at w xs = sum_by-map w element (filter (λ x. node_of x == node) xs) ∙ sum_by-filter (λ x. w (element x)) (λ x. node_of x == node) xs

abbrev pub taken_elements : ℕ → List Taken → List Element
taken_elements node taken = map (λ t. t.element) (filter (λ t. t.node == node) taken)

abbrev pub pane_elements : ℕ → List Pane → List Element
pane_elements node panes = map (λ p. p.element) (filter (λ p. p.node == node) panes)

pub sum_alike : {X : Type 0} (f g : X → ℕ) → ((x : X) → f x ≡ g x) → (xs : List X) → sum_by f xs ≡ sum_by g xs
sum_alike f g same xs = λ i. sum_by (λ x. same x i) xs

-- tests one after another
nested : (a b c d : Bool) (n : ℕ) → cond a (cond ((b && c) && d) n 0) 0 ≡ cond (a && b) (cond (c && d) n 0) 0
nested true true c d n = refl
nested true false c d n = refl
nested false b c d n = refl

-- ---- all panes of a node

-- what holds of the panes of each key holds of all at the node
pub lift_node : (node : ℕ) (panes : List Pane) (Q : Pane → Type 0) → ((key : Value) → All Q (panes_at node key panes)) → All Q (filter (λ p. p.node == node) panes)
lift_node node panes Q each k d inside =
    let here = filter_passes (λ (p : Pane). p.node == node) panes k d inside in
    All-filter (λ (p : Pane). p.node == node) (λ (p : Pane). (p.node == node) ≡ true → Q p) panes
    (λ j e within at. passes_have (is_pane_at_key node (key_of (get_or panes j e).element)) Q panes (each (key_of (get_or panes j e).element)) j e within
    (and_from ((get_or panes j e).node == node) (bytes_eq (spelling (key_of (get_or panes j e).element)) (spelling (key_of (get_or panes j e).element))) at
    ((bytes_eq-Decides (spelling (key_of (get_or panes j e).element)) (spelling (key_of (get_or panes j e).element))).1 refl)))
    k d inside here

module _ (node : ℕ) (mark : ℕ → ℤ) (last : ℕ) (taken dropped : List Taken) (panes : List Pane)
    (histories : (key : Value) → IsLegalHistory (record { merges = false; trigger = default_trigger }) node key mark last (taken_at node key taken) (taken_at node key dropped) (panes_at node key panes))
    (rises : (a b : ℕ) → a ≤ b → b ≤ last → mark a ≤ℤ mark b) (final : mark last ≡ final_mark) (early : All (λ t. t.element.span.end ≤ℤ final_mark) taken) where
  key_early : (key : Value) → All (λ t. t.element.span.end ≤ℤ final_mark) (taken_at node key taken)
  key_early key = All-filter (is_at_key node key) (λ t. t.element.span.end ≤ℤ final_mark) taken early

  -- what belongs to the window of a pane, of its key and of all at the node
  same_cell : (key : Value) (w : Interval) → IsSameBag (map (λ t. part_of t.element) (filter (λ t. same_span t.element.span w) (taken_at node key taken)))
      (map part_of (filter (is_in_cell key w) (taken_elements node taken)))
  same_cell key w = record {
    weighs = λ f.
        sum_by-map f (λ (t : Taken). part_of t.element) (filter (λ t. same_span t.element.span w) (taken_at node key taken))
        ∙ sum_by-filter (λ (t : Taken). f (part_of t.element)) (λ t. same_span t.element.span w) (taken_at node key taken)
        ∙ sum_by-filter (λ (t : Taken). cond (same_span t.element.span w) (f (part_of t.element)) 0) (is_at_key node key) taken
        ∙ sum_alike (λ (t : Taken). cond (is_at_key node key t) (cond (same_span t.element.span w) (f (part_of t.element)) 0) 0)
        (λ t. cond (t.node == node) (cond (is_in_cell key w t.element) (f (part_of t.element)) 0) 0)
        (λ t. sym (nested (t.node == node) (is_keyed key t.element) (int_eq t.element.span.start w.start) (int_eq t.element.span.end w.end) (f (part_of t.element)))) taken
        ∙ sym (sum_at (λ (t : Taken). t.node) (λ t. t.element) node (λ e. cond (is_in_cell key w e) (f (part_of e)) 0) taken)
        ∙ sym (sum_by-filter (λ e. f (part_of e)) (is_in_cell key w) (taken_elements node taken))
        ∙ sym (sum_by-map f part_of (filter (is_in_cell key w) (taken_elements node taken)));
  }

  count_taken : (key : Value) (w : Interval) → count_by (is_in_cell key w) (taken_elements node taken) ≡ count_by (λ t. same_span t.element.span w) (taken_at node key taken)
  count_taken key w =
      sum_at (λ (t : Taken). t.node) (λ t. t.element) node (λ e. cond (is_in_cell key w e) 1 0) taken
      ∙ sum_alike (λ (t : Taken). cond (t.node == node) (cond (is_in_cell key w t.element) 1 0) 0) (λ t. cond (is_at_key node key t) (cond (same_span t.element.span w) 1 0) 0)
      (λ t. nested (t.node == node) (is_keyed key t.element) (int_eq t.element.span.start w.start) (int_eq t.element.span.end w.end) 1) taken
      ∙ sym (sum_by-filter (λ (t : Taken). cond (same_span t.element.span w) 1 0) (is_at_key node key) taken)

  count_panes : (key : Value) (w : Interval) → count_by (is_in_cell key w) (pane_elements node panes) ≡ count_by (is_of_window w) (panes_at node key panes)
  count_panes key w =
      sum_at (λ (p : Pane). p.node) (λ p. p.element) node (λ e. cond (is_in_cell key w e) 1 0) panes
      ∙ sum_alike (λ (p : Pane). cond (p.node == node) (cond (is_in_cell key w p.element) 1 0) 0) (λ p. cond (is_pane_at_key node key p) (cond (is_of_window w p) 1 0) 0)
      (λ p. nested (p.node == node) (is_keyed key p.element) (int_eq p.element.span.start w.start) (int_eq p.element.span.end w.end) 1) panes
      ∙ sym (sum_by-filter (λ (p : Pane). cond (is_of_window w p) 1 0) (is_pane_at_key node key) panes)

  -- a pane of a key, which is the pane's own by its spelling
  plain_pane : (key : Value) → All (λ p. IsPlainPane (taken_elements node taken) p.element) (panes_at node key panes)
  plain_pane key k d inside =
      let p = get_or (panes_at node key panes) k d in
      let fired = all_fired false node key mark last (taken_at node key taken) (taken_at node key dropped) (panes_at node key panes) (histories key) rises k d inside in
      let whole = whole_pane false node key mark last (taken_at node key taken) (taken_at node key dropped) (panes_at node key panes) (histories key) rises
      (own_alone node key mark last (taken_at node key taken) (taken_at node key dropped) (panes_at node key panes) (histories key) rises final (key_early key)) p fired in
      let own : spelling (key_of p.element) ≡ spelling key = (bytes_eq-Decides (spelling (key_of p.element)) (spelling key)).0 fired.is.keyed in
      record {
        parts = whole.parts;
        holds = whole.holds;
        ascending = whole.ascending;
        all = bag_trans whole.parts (map (λ t. part_of t.element) (filter (λ t. same_span t.element.span p.element.span) (taken_at node key taken)))
            (map part_of (filter (is_in_cell (key_of p.element) p.element.span) (taken_elements node taken))) whole.all
            (subst (λ (ks : List ℕ). IsSameBag (map (λ t. part_of t.element) (filter (λ t. same_span t.element.span p.element.span) (taken_at node key taken)))
            (map part_of (filter (λ e. (bytes_eq (spelling (key_of e)) ks && int_eq e.span.start p.element.span.start) && int_eq e.span.end p.element.span.end) (taken_elements node taken))))
            (sym own) (same_cell key p.element.span));
      }

  -- each key and window has one pane, with all its parts
  pub plainly_grouped : IsPlainGrouping (taken_elements node taken) (pane_elements node panes)
  plainly_grouped = record {
    each = All-map (IsPlainPane (taken_elements node taken)) (λ (p : Pane). p.element) (filter (λ p. p.node == node) panes)
        (lift_node node panes (λ (p : Pane). IsPlainPane (taken_elements node taken) p.element) plain_pane);
    once = λ key w.
        count_panes key w
        ∙ once_each node key mark last (taken_at node key taken) (taken_at node key dropped) (panes_at node key panes) (histories key) rises final (key_early key) w
        ∙ ap (min 1) (sym (count_taken key w));
  }
