-- An entry is put into a cell: what the cells tell is kept.
use Rattle.std.proofs.Common.{◌≡◌, ℕ, ◌≤◌, Bool, true, false, cond, List, [], ◌∷◌, ◌++◌, refl, sym, subst}
use Rattle.std.specs.Prelude.{◌&&◌, Option, Some, None}
use Rattle.std.specs.List.{All, list_any}
use Rattle.std.proofs.lemmas.List.Elements.{All-nil, All-cons, All-head, All-tail, All-append}
use Rattle.beam_values.specs.Intervals.{Interval}
use Rattle.beam_values.specs.declared.cell.Cell.{Cell}
use Rattle.beam_values.specs.declared.cell.Entry.{Entry}
use Rattle.beam_values.specs.declared.cell.Pane.{Pane}
use Rattle.beam_model.specs.Panes.{GroupRules, taken_entry, shows, TellsPanes}
use Rattle.group_cells.specs.Placing.{is_standing, stands_as, takes, put, put_all}
use Rattle.group_cells.proofs.WindowTests.{fits}
use Rattle.group_cells.proofs.OpenedCells.{has_window, KeepsEntries, AreKept}
use Rattle.group_cells.proofs.MovedEntries.{put_same}

module _ (rules : GroupRules) (node : ℕ) (panes : List Pane) (A N : Interval → Type 0) (TakenBy : Interval → Interval → Type 0) (entry : Entry)
    (unshown : entry.shown ≡ list_any (shows rules (taken_entry node entry)) panes) where
  abbrev HasSo : Cell → Type 0
  HasSo cell = KeepsEntries rules.merges A N TakenBy cell.span cell.entries cell.merged_into

  put_has : (cells : List Cell) → All HasSo cells → All HasSo (put rules entry cells)
  put_has [] h = h
  put_has (cell ∷ cells) h =
      by cell.merged_into (fits rules.merges entry.element.span cell.span) refl (All-head HasSo cell cells h) (put_has cells (All-tail HasSo cell cells h))
    where
      by : (o : Option Interval) (b : Bool) → fits rules.merges entry.element.span cell.span ≡ b → KeepsEntries rules.merges A N TakenBy cell.span cell.entries o
          → All HasSo (put rules entry cells)
          → All HasSo (cond (is_standing o && b) (record cell { entries = cell.entries ++ entry ∷ []; merged_into = o } ∷ cells) (record cell { merged_into = o } ∷ put rules entry cells))
      by None true e here rest =
          All-cons HasSo (record cell { entries = cell.entries ++ entry ∷ []; merged_into = None }) cells (
            here.0,
            All-append (λ n. fits rules.merges n.element.span cell.span ≡ true) cell.entries (entry ∷ []) here.1
                (All-cons (λ n. fits rules.merges n.element.span cell.span ≡ true) entry [] e (All-nil (λ n. fits rules.merges n.element.span cell.span ≡ true))),
          )
          (All-tail HasSo cell cells h)
      by None false e here rest = All-cons HasSo (record cell { merged_into = None }) (put rules entry cells) here rest
      by (Some into) b e here rest = All-cons HasSo (record cell { merged_into = Some into }) (put rules entry cells) here rest

  put_tells : (cells : List Cell) → All (TellsPanes rules node panes) cells → All (TellsPanes rules node panes) (put rules entry cells)
  put_tells [] h = h
  put_tells (cell ∷ cells) h =
      by (takes rules entry cell) (All-head (TellsPanes rules node panes) cell cells h) (put_tells cells (All-tail (TellsPanes rules node panes) cell cells h))
    where
      by : (b : Bool) → TellsPanes rules node panes cell → All (TellsPanes rules node panes) (put rules entry cells)
          → All (TellsPanes rules node panes) (cond b (record cell { entries = cell.entries ++ entry ∷ [] } ∷ cells) (cell ∷ put rules entry cells))
      by true here rest =
          All-cons (TellsPanes rules node panes) (record cell { entries = cell.entries ++ entry ∷ [] }) cells
          (record {
            index = here.index;
            on_time = here.on_time;
            shown = All-append (λ n. n.shown ≡ list_any (shows rules (taken_entry node n)) panes) cell.entries (entry ∷ []) here.shown
                (All-cons (λ n. n.shown ≡ list_any (shows rules (taken_entry node n)) panes) entry [] unshown (All-nil (λ n. n.shown ≡ list_any (shows rules (taken_entry node n)) panes)));
          })
          (All-tail (TellsPanes rules node panes) cell cells h)
      by false here rest = All-cons (TellsPanes rules node panes) cell (put rules entry cells) here rest

  pub put_kept : (cells : List Cell) → AreKept rules node panes A N TakenBy cells → AreKept rules node panes A N TakenBy (put rules entry cells)
  put_kept cells kept = record {
    has = put_has cells kept.has;
    tells = put_tells cells kept.tells;
    once = λ w. subst (λ (n : ℕ). n ≤ 1) (sym (put_same rules entry (has_window w) (λ cell entries. refl) cells)) (kept.once w);
    every = λ w a. subst (λ (n : ℕ). 1 ≤ n) (sym (put_same rules entry (stands_as w) (λ cell entries. refl) cells)) (kept.every w a);
  }

pub all_put_kept : (rules : GroupRules) (node : ℕ) (panes : List Pane) (A N : Interval → Type 0) (TakenBy : Interval → Interval → Type 0) (entries : List Entry)
    → All (λ entry. entry.shown ≡ list_any (shows rules (taken_entry node entry)) panes) entries → (cells : List Cell)
    → AreKept rules node panes A N TakenBy cells → AreKept rules node panes A N TakenBy (put_all rules entries cells)
all_put_kept rules node panes A N TakenBy [] unshown cells kept = kept
all_put_kept rules node panes A N TakenBy (entry ∷ entries) unshown cells kept =
    all_put_kept rules node panes A N TakenBy entries (All-tail Shown entry entries unshown) (put rules entry cells)
    (put_kept rules node panes A N TakenBy entry (All-head Shown entry entries unshown) cells kept)
  where
    Shown : Entry → Type 0
    Shown = λ entry. entry.shown ≡ list_any (shows rules (taken_entry node entry)) panes
