-- No entry is lost: neither where a cell is opened nor where one is put.
use Rattle.std.proofs.Common.{◌≡◌, ℕ, ◌+◌, ◌≤◌, ℤ, Bool, true, false, cond, List, [], ◌∷◌, ◌++◌, map, get_or, refl, sym, ap, subst, ◌∙◌, arith}
use Rattle.std.specs.Prelude.{Some}
use Rattle.std.specs.List.{All, count_by, sum_by, list_any, flat_map}
use Rattle.std.proofs.lemmas.Bool.{and_from, and_parts}
use Rattle.std.proofs.lemmas.List.Elements.{All-head, All-tail}
use Rattle.std.proofs.lemmas.List.Sums.{sum_by-cons, sum_by-append}
use Rattle.beam_values.specs.Bags.{IsSameBag}
use Rattle.beam_values.specs.Intervals.{Interval}
use Rattle.beam_values.specs.declared.cell.Cell.{Cell}
use Rattle.beam_values.specs.declared.cell.Entry.{Entry}
use Rattle.beam_values.proofs.Bags.{sum_by-map, sum_by-flat_map}
use Rattle.beam_model.specs.Panes.{Taken, GroupRules, taken_entry}
use Rattle.group_cells.specs.Placing.{is_standing, stands_as, gives_way, once_opened, handed_over, fresh_cell, Opening, opened, opened_all, takes, with_entry, put, put_all}
use Rattle.group_cells.proofs.WindowTests.{fits, span_sound}
use Rattle.group_cells.proofs.OpenedCells.{has_window}

-- all entries of the cells of a node
abbrev pub all_taken : ℕ → List Cell → List Taken
all_taken node cells = flat_map (λ cell. map (taken_entry node) cell.entries) cells

-- ---- the weight of entries

module _ (node : ℕ) (weight : Taken → ℕ) where
  abbrev weigh : List Entry → ℕ
  weigh entries = sum_by weight (map (taken_entry node) entries)

  weigh-all : (cells : List Cell) → sum_by weight (all_taken node cells) ≡ sum_by (λ cell. weigh cell.entries) cells
  weigh-all cells = sum_by-flat_map weight (λ cell. map (taken_entry node) cell.entries) cells

  weigh-flat_map : (f : Cell → List Entry) (cells : List Cell) → weigh (flat_map f cells) ≡ sum_by (λ cell. weigh (f cell)) cells
  weigh-flat_map f cells =
      sum_by-map weight (taken_entry node) (flat_map f cells) ∙ sum_by-flat_map (λ e. weight (taken_entry node e)) f cells
      ∙ (λ i. sum_by (λ cell. sym (sum_by-map weight (taken_entry node) (f cell)) i) cells)

  weigh-append : (xs ys : List Entry) → weigh (xs ++ ys) ≡ weigh xs + weigh ys
  weigh-append xs ys =
      let a = sum_by-map weight (taken_entry node) (xs ++ ys) in
      let b = sum_by-append (λ e. weight (taken_entry node e)) xs ys in
      omega (arith, sum_by-map weight (taken_entry node) xs, sum_by-map weight (taken_entry node) ys)

  module _ (rules : GroupRules) (before : ℤ) (opening : Opening) where
    abbrev s : Interval
    s = opening.span

    left_taken : (cell : Cell) → weigh (once_opened rules before s cell).entries + weigh (handed_over rules before s cell) ≡ weigh cell.entries
    left_taken cell = by (gives_way rules before s cell)
      where
        by : (b : Bool) → weigh (cond b (record cell { entries = []; merged_into = Some s }) cell).entries + weigh (cond b cell.entries []) ≡ weigh cell.entries
        by true = omega arith
        by false = omega arith

    all_left_taken : (cells : List Cell) → sum_by (λ cell. weigh (once_opened rules before s cell).entries) cells + sum_by (λ cell. weigh (handed_over rules before s cell)) cells ≡ sum_by (λ cell. weigh cell.entries) cells
    all_left_taken [] = refl
    all_left_taken (cell ∷ cells) =
        omega (arith, left_taken cell, all_left_taken cells, sum_by-cons (λ c. weigh (once_opened rules before s c).entries) cell cells, sum_by-cons (λ c. weigh (handed_over rules before s c)) cell cells, sum_by-cons (λ c. weigh c.entries) cell cells)

    pub opened_weighs : (cells : List Cell) → sum_by weight (all_taken node (opened rules before node cells opening)) ≡ sum_by weight (all_taken node cells)
    opened_weighs cells = by (list_any (stands_as s) cells)
      where
        by : (b : Bool) → sum_by weight (all_taken node (cond b cells (map (once_opened rules before s) cells ++ fresh_cell node opening.key s (flat_map (handed_over rules before s) cells) ∷ []))) ≡ sum_by weight (all_taken node cells)
        by true = refl
        by false =
            let new = fresh_cell node opening.key s (flat_map (handed_over rules before s) cells) in
            let a = weigh-all (map (once_opened rules before s) cells ++ new ∷ []) in
            let b = sum_by-append (λ cell. weigh cell.entries) (map (once_opened rules before s) cells) (new ∷ []) in
            let c = sum_by-map (λ cell. weigh cell.entries) (once_opened rules before s) cells in
            let d = sum_by-cons (λ (cell : Cell). weigh cell.entries) new [] in
            let e = weigh-flat_map (handed_over rules before s) cells in
            let f = all_left_taken cells in
            omega (arith, weigh-all cells)

  pub put_weighs : (rules : GroupRules) (entry : Entry) (cells : List Cell) → 1 ≤ count_by (takes rules entry) cells
      → sum_by weight (all_taken node (put rules entry cells)) ≡ sum_by weight (all_taken node cells) + weight (taken_entry node entry)
  put_weighs rules entry [] some = absurd (omega arith)
  put_weighs rules entry (cell ∷ cells) some =
      by (takes rules entry cell) refl (put_weighs rules entry cells)
    where
      W : Cell → ℕ
      W = λ c. weigh c.entries

      by : (b : Bool) → (takes rules entry cell) ≡ b
          → (1 ≤ count_by (takes rules entry) cells → sum_by weight (all_taken node (put rules entry cells)) ≡ sum_by weight (all_taken node cells) + weight (taken_entry node entry))
          → sum_by weight (all_taken node (cond b (with_entry entry cell ∷ cells) (cell ∷ put rules entry cells))) ≡ sum_by weight (all_taken node (cell ∷ cells)) + weight (taken_entry node entry)
      by true e onward =
          let a = sum_by-append weight (map (taken_entry node) (cell.entries ++ entry ∷ [])) (all_taken node cells) in
          let b = sum_by-append weight (map (taken_entry node) cell.entries) (all_taken node cells) in
          let c = weigh-append cell.entries (entry ∷ []) in
          let d = sum_by-cons weight (taken_entry node entry) [] in
          omega arith
      by false e onward =
          let here : cond {A = ℕ} (takes rules entry cell) 1 0 ≡ 0 = ap (λ (b : Bool). cond {A = ℕ} b 1 0) e in
          let rest = onward (omega (arith, sum_by-cons (λ (c : Cell). cond {A = ℕ} (takes rules entry c) 1 0) cell cells)) in
          let a = sum_by-append weight (map (taken_entry node) cell.entries) (all_taken node (put rules entry cells)) in
          let b = sum_by-append weight (map (taken_entry node) cell.entries) (all_taken node cells) in
          omega arith

abbrev tally : (Cell → Bool) → Cell → ℕ
tally p c = cond {A = ℕ} (p c) 1 0

pub put_same : (rules : GroupRules) (entry : Entry) (p : Cell → Bool) → ((cell : Cell) (entries : List Entry) → p (record cell { entries = entries }) ≡ p cell) → (cells : List Cell)
    → count_by p (put rules entry cells) ≡ count_by p cells
put_same rules entry p same [] = refl
put_same rules entry p same (cell ∷ cells) = by (takes rules entry cell) (put_same rules entry p same cells)
  where
    by : (b : Bool) → count_by p (put rules entry cells) ≡ count_by p cells
        → count_by p (cond b (with_entry entry cell ∷ cells) (cell ∷ put rules entry cells)) ≡ count_by p (cell ∷ cells)
    by true rest =
        let here : tally p (with_entry entry cell) ≡ tally p cell = ap (λ (b : Bool). cond {A = ℕ} b 1 0) (same cell (cell.entries ++ entry ∷ [])) in
        omega (arith, sum_by-cons (tally p) (with_entry entry cell) cells, sum_by-cons (tally p) cell cells)
    by false rest = omega (arith, sum_by-cons (tally p) cell (put rules entry cells), sum_by-cons (tally p) cell cells)

pub has_place : (rules : GroupRules) (entry : Entry) (w : Interval) → fits rules.merges entry.element.span w ≡ true → (cells : List Cell) → 1 ≤ count_by (stands_as w) cells
    → 1 ≤ count_by (takes rules entry) cells
has_place rules entry w own [] some = some
has_place rules entry w own (cell ∷ cells) some = by (stands_as w cell) refl (has_place rules entry w own cells)
  where
    q : Cell → Bool
    q = takes rules entry

    by : (b : Bool) → stands_as w cell ≡ b → (1 ≤ count_by (stands_as w) cells → 1 ≤ count_by q cells) → 1 ≤ count_by q (cell ∷ cells)
    by true e onward =
        let parts = and_parts (is_standing cell.merged_into) (has_window w cell) e in
        let yes_ : q cell ≡ true = and_from _ _ parts.0 (subst (λ (u : Interval). fits rules.merges entry.element.span u ≡ true) (sym (span_sound cell.span w parts.1)) own) in
        let here : cond {A = ℕ} (q cell) 1 0 ≡ 1 = ap (λ (b : Bool). cond {A = ℕ} b 1 0) yes_ in
        omega (arith, sum_by-cons (λ (x : Cell). cond {A = ℕ} (q x) 1 0) cell cells)
    by false e onward =
        let here : cond {A = ℕ} (stands_as w cell) 1 0 ≡ 0 = ap (λ (b : Bool). cond {A = ℕ} b 1 0) e in
        let rest = onward (omega (arith, some, sum_by-cons (λ (x : Cell). cond {A = ℕ} (stands_as w x) 1 0) cell cells)) in
        omega (arith, sum_by-cons (λ (x : Cell). cond {A = ℕ} (q x) 1 0) cell cells)

-- an entry has a place: a window that stands, to which it belongs
abbrev pub HasPlace : GroupRules → List Cell → Entry → Type 0
HasPlace rules cells entry = (w : Interval) × (1 ≤ count_by (stands_as w) cells) × (fits rules.merges entry.element.span w ≡ true)

place_stays : (rules : GroupRules) (entry : Entry) (cells : List Cell) (other : Entry) → HasPlace rules cells other → HasPlace rules (put rules entry cells) other
place_stays rules entry cells other h =
    (h.0, subst (λ (n : ℕ). 1 ≤ n) (sym (put_same rules entry (stands_as h.0) (λ cell entries. refl) cells)) h.1, h.2)

pub all_put_weighs : (node : ℕ) (weight : Taken → ℕ) (rules : GroupRules) (entries : List Entry) (cells : List Cell) → All (HasPlace rules cells) entries
    → sum_by weight (all_taken node (put_all rules entries cells)) ≡ sum_by weight (all_taken node cells) + sum_by weight (map (taken_entry node) entries)
all_put_weighs node weight rules [] cells places = omega arith
all_put_weighs node weight rules (entry ∷ entries) cells places =
    let here = All-head (HasPlace rules cells) entry entries places in
    let one = put_weighs node weight rules entry cells (has_place rules entry here.0 here.2 cells here.1) in
    let rest = all_put_weighs node weight rules entries (put rules entry cells)
    (λ k d within. place_stays rules entry cells (get_or entries k d) (All-tail (HasPlace rules cells) entry entries places k d within)) in
    omega (arith, sum_by-cons weight (taken_entry node entry) (map (taken_entry node) entries))

pub all_put_count : (p : Cell → Bool) → ((cell : Cell) (entries : List Entry) → p (record cell { entries = entries }) ≡ p cell) → (rules : GroupRules) (entries : List Entry) (cells : List Cell)
    → count_by p (put_all rules entries cells) ≡ count_by p cells
all_put_count p same rules [] cells = refl
all_put_count p same rules (entry ∷ entries) cells = all_put_count p same rules entries (put rules entry cells) ∙ put_same rules entry p same cells

pub all_opened_weighs : (node : ℕ) (weight : Taken → ℕ) (rules : GroupRules) (before : ℤ) (openings : List Opening) (cells : List Cell)
    → sum_by weight (all_taken node (opened_all rules before node openings cells)) ≡ sum_by weight (all_taken node cells)
all_opened_weighs node weight rules before [] cells = refl
all_opened_weighs node weight rules before (opening ∷ openings) cells =
    all_opened_weighs node weight rules before openings (opened rules before node cells opening) ∙ opened_weighs node weight rules before opening cells

-- the entries after a commit are those before it and the new ones, where each of these has a place
pub moved_put : (rules : GroupRules) (before : ℤ) (node : ℕ) (openings : List Opening) (entries : List Entry) (cells : List Cell)
    → All (HasPlace rules (opened_all rules before node openings cells)) entries
    → IsSameBag (all_taken node (put_all rules entries (opened_all rules before node openings cells))) (all_taken node cells ++ map (taken_entry node) entries)
moved_put rules before node openings entries cells places = record {
  weighs = λ weight.
      let a = all_put_weighs node weight rules entries (opened_all rules before node openings cells) places in
      let b = all_opened_weighs node weight rules before openings cells in
      omega (arith, sum_by-append weight (all_taken node cells) (map (taken_entry node) entries));
}
