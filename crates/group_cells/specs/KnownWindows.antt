-- Which windows of a Group and key stand and aren't expired: by the cells, as they are listed by their ends, and what a commit knows of them.
use Rattle.std.specs.Prelude.{◌≡◌, ℕ, ◌<◌, ℤ, ◌≤ℤ◌, ◌<ℤ◌, int_lt, Bool, true, false, ◌&&◌, ◌⊎◌, List, [], ◌∷◌, ◌++◌, length, map, Option, Some, None, Contains, MatchOption}
use Rattle.std.specs.BTreeMap as tree
use Rattle.std.specs.BTreeMap.{BTreeMap}
use Rattle.std.specs.Int.{w64}
use Rattle.std.specs.Int.RustNames.{FitsSigned}
use Rattle.std.specs.List.{All}
use Rattle.std.specs.List.Sorted.{IsStrictlySortedBy}
use Rattle.std.specs.Option.{IsSome}
use Rattle.std.specs.Ordering.{nat_cmp, int_cmp}
use denote.Ref.{Bor}
use Rattle.beam_values.specs.Firing.{is_expired}
use Rattle.beam_values.specs.Intervals.{Interval}
use Rattle.beam_values.specs.Nodes.{is_group}
use Rattle.beam_values.specs.Sessions.{IsApart, IsNonEmpty}
use Rattle.beam_values.specs.Spans.{same_span, lies_in}
use Rattle.beam_values.specs.declared.cell.Cell.{Cell}
use Rattle.beam_values.specs.declared.cell.Entry.{Entry}
use Rattle.beam_values.specs.declared.plan.Plan.{Plan}
use Rattle.beam_values.specs.declared.plan.Trigger.{Trigger}
use Rattle.beam_values.specs.declared.value.Value.{Value}
use Rattle.beam_model.specs.Panes.{GroupRules, is_cell_at_key, rules_of}
use Rattle.group_cells.specs.AtPlaces.{at_place, changed_at}
use Rattle.group_cells.specs.KeyLists.{led_key_cmp, places_from, stands_here}
use Rattle.group_cells.specs.Placing.{fresh_cell, with_entry}
use Rattle.group_cells.specs.Plain.{once_opened_at, opening_of, put_at}
use Rattle.group_cells.specs.Rounds.{is_open}
use Rattle.group_cells.specs.declared.groups.keyed.GroupKey.{GroupKey}
use Rattle.group_cells.specs.declared.groups.standing.Known.{Known}
use Rattle.group_cells.specs.declared.groups.standing.Known.TheVariants.{Apart, Nothing}
use Rattle.group_cells.specs.declared.groups.standing.Standing.{Standing}

-- no cell of the Group and key stands
abbrev pub HasNone : ℕ → Value → List Cell → Type 0
HasNone node key cells = (place : ℕ) → at_place (stands_here node key) false cells place ≡ false

-- ---- windows that stand and aren't expired at a mark

-- two windows have an instant in common
abbrev pub overlaps : Interval → Interval → Bool
overlaps a b = int_lt a.start b.end && int_lt b.start a.end

-- a cell of the Group and key is open and has this window
abbrev pub opens_as : GroupRules → ℤ → ℕ → Value → Interval → Cell → Bool
opens_as rules mark node key span cell = is_cell_at_key node key cell && (is_open rules mark cell && same_span cell.span span)

-- the cell at the place is that
abbrev pub opens : GroupRules → ℤ → ℕ → Value → List Cell → ℕ → Interval → Bool
opens rules mark node key cells place span = at_place (opens_as rules mark node key span) false cells place

-- a cell of the Group and key is open and its window overlaps another
abbrev pub meets : GroupRules → ℤ → ℕ → Value → Interval → Cell → Bool
meets rules mark node key span cell = is_cell_at_key node key cell && (is_open rules mark cell && overlaps span cell.span)

-- Of `[0, 10)`, `[30, 40)` and `[12, 20)` at the places 0, 1 and 2, all open and of one key, `[5, 13)` meets those at 0 and 2.
abbrev pub meeting_places : GroupRules → ℤ → ℕ → Value → Interval → List Cell → List ℕ
meeting_places rules mark node key span cells = places_from (meets rules mark node key span) 0 cells

-- ---- windows listed by their ends

abbrev pub places_of : List Standing → List ℕ
places_of windows = map (λ window. window.place) windows

abbrev pub window_at : BTreeMap ℤ Standing → ℤ → Option Standing
window_at by_end e = tree.get int_cmp by_end e

-- none is empty, and each ends before the next one begins
pub record AreListedApart (by_end : BTreeMap ℤ Standing) : Type 0 where
  pub ends : (e : ℤ) (t : Standing) → window_at by_end e ≡ Some t → (t.span.end ≡ e) × IsNonEmpty t.span
  pub apart : (a b : ℤ) (s t : Standing) → window_at by_end a ≡ Some s → window_at by_end b ≡ Some t → a <ℤ b → a ≤ℤ t.span.start

-- listed are just the places and windows that pass a test
pub record AreListed (test : ℕ → Interval → Bool) (by_end : BTreeMap ℤ Standing) : Type 0 where
  pub apart : AreListedApart by_end
  pub all : (place : ℕ) (span : Interval) → test place span ≡ true → window_at by_end span.end ≡ Some (record { span = span; place = place })
  pub only : (e : ℤ) (t : Standing) → window_at by_end e ≡ Some t → test t.place t.span ≡ true

-- some leave
pub record IsWithout (gone : Interval → Bool) (old new : BTreeMap ℤ Standing) : Type 0 where
  pub kept : (e : ℤ) (t : Standing) → window_at new e ≡ Some t → (window_at old e ≡ Some t) × (gone t.span ≡ false)
  pub left : (e : ℤ) (t : Standing) → window_at old e ≡ Some t → gone t.span ≡ false → window_at new e ≡ Some t

abbrev pub IsFirstExpired : Trigger → ℤ → BTreeMap ℤ Standing → Option ℤ → Type 0
IsFirstExpired trigger mark by_end None = (e : ℤ) (t : Standing) → window_at by_end e ≡ Some t → is_expired trigger e mark ≡ false
IsFirstExpired trigger mark by_end (Some e) = IsSome (window_at by_end e) × (is_expired trigger e mark ≡ true) × FitsSigned w64 e

-- the first that ends after a time, with its end
abbrev pub IsNextAfter : ℤ → BTreeMap ℤ Standing → Option (ℤ × Standing) → Type 0
IsNextAfter time by_end None = (e : ℤ) (t : Standing) → window_at by_end e ≡ Some t → e ≤ℤ time
IsNextAfter time by_end (Some next) =
    (window_at by_end next.0 ≡ Some next.1) × (time <ℤ next.0) × ((e : ℤ) (t : Standing) → window_at by_end e ≡ Some t → time <ℤ e → next.0 ≤ℤ e) × FitsSigned w64 next.0

abbrev pub IsFirstAfter : ℤ → BTreeMap ℤ Standing → Option (Bor ℤ × Bor Standing) → Type 0
IsFirstAfter time by_end None = (e : ℤ) (t : Standing) → window_at by_end e ≡ Some t → e ≤ℤ time
IsFirstAfter time by_end (Some next) =
    (end : ℤ) × (end ≡ next.0.now) × (window_at by_end end ≡ Some next.1.now) × (time <ℤ end) × ((e : ℤ) (t : Standing) → window_at by_end e ≡ Some t → time <ℤ e → end ≤ℤ e)

-- the place of the only one in which a window lies
abbrev pub IsHolder : Interval → BTreeMap ℤ Standing → Option ℕ → Type 0
IsHolder span by_end None = (e : ℤ) (t : Standing) → window_at by_end e ≡ Some t → lies_in span t.span ≡ false
IsHolder span by_end (Some place) =
    (holder : Standing) × (window_at by_end holder.span.end ≡ Some holder) × (holder.place ≡ place) × (lies_in span holder.span ≡ true)
    × ((e : ℤ) (t : Standing) → window_at by_end e ≡ Some t → lies_in span t.span ≡ true → t ≡ holder)

-- those that overlap a window
pub record AreMet (span : Interval) (by_end : BTreeMap ℤ Standing) (met : List Standing) : Type 0 where
  pub each : All (λ t. (window_at by_end t.span.end ≡ Some t) × (overlaps span t.span ≡ true)) met
  pub whole : (e : ℤ) (t : Standing) → window_at by_end e ≡ Some t → overlaps span t.span ≡ true → Contains met t

-- a window overlaps none of them
abbrev pub IsAlone : Interval → BTreeMap ℤ Standing → Type 0
IsAlone span by_end = (e : ℤ) (t : Standing) → window_at by_end e ≡ Some t → overlaps span t.span ≡ false

-- the places, ascending, of the windows that pass a test and overlap another
pub record ArePlacesMet (test : ℕ → Interval → Bool) (span : Interval) (places : List ℕ) : Type 0 where
  pub ascend : IsStrictlySortedBy nat_cmp places
  pub each : (p : ℕ) → Contains places p → (s : Interval) × (test p s ≡ true) × (overlaps span s ≡ true)
  pub whole : (p : ℕ) (s : Interval) → test p s ≡ true → overlaps span s ≡ true → Contains places p

-- ---- what is known of a Group and key

-- that windows are apart and just these, at a mark, or nothing
abbrev pub AreKnown : ℤ → (ℕ → Interval → Bool) → Known → Type 0
AreKnown mark test (Apart listed) = (listed.mark ≡ mark) × AreListed test listed.by_end
AreKnown mark test Nothing = Unit {0}

-- these are those that overlap a window, where windows are known
abbrev pub AreKnownMet : Interval → Known → List Standing → Type 0
AreKnownMet span (Apart listed) met = AreListedApart listed.by_end → AreMet span listed.by_end met
AreKnownMet span Nothing met = Unit {0}

abbrev pub IsKnown : GroupRules → ℕ → Value → List Cell → Known → Type 0
IsKnown rules node key cells (Apart listed) = AreListed (opens rules listed.mark node key cells) listed.by_end
IsKnown rules node key cells Nothing = Unit {0}

-- a Group and key of which nothing is noted has no cell that stands
abbrev pub IsKnownOf : GroupRules → ℕ → Value → List Cell → Option Known → Type 0
IsKnownOf rules node key cells None = HasNone node key cells
IsKnownOf rules node key cells (Some known) = IsKnown rules node key cells known

abbrev pub known_of : BTreeMap GroupKey Known → GroupKey → Option Known
known_of standing q = tree.get led_key_cmp standing q

-- what is noted of each Group of sessions and key is so
pub record AreStanding (plan : Plan) (standing : BTreeMap GroupKey Known) (cells : List Cell) : Type 0 where
  pub each : (q : GroupKey) → is_group plan q.node ≡ true → (rules_of plan q.node).merges ≡ true → IsKnownOf (rules_of plan q.node) q.node q.key cells (known_of standing q)

-- a window has no instant in common with another one, and none of them is empty
abbrev pub IsWellApart : Interval → Interval → Type 0
IsWellApart s t = IsNonEmpty s × IsNonEmpty t × IsApart s t

-- the open windows that merge with some own ones are near; each other one is apart from all these
pub record AreNear (own open_ near : List Interval) : Type 0 where
  pub each : All (Contains open_) near
  pub others : (s : Interval) → Contains open_ s → Contains near s ⊎ All (IsWellApart s) (near ++ own)

-- each window of the key that is open holds some time
abbrev pub AreFilled : GroupRules → ℤ → ℕ → Value → List Cell → Type 0
AreFilled rules mark node key cells = All (λ cell. (is_cell_at_key node key cell && is_open rules mark cell) ≡ true → IsNonEmpty cell.span) cells

-- the cell of a session, which isn't expired, was opened at a place
pub record HasOpened (rules : GroupRules) (mark : ℤ) (node : ℕ) (key : Value) (span : Interval) (place : ℕ) (old new : List Cell) : Type 0 where
  pub given : List Entry
  pub is : new ≡ map (once_opened_at rules mark node (opening_of key span)) old ++ fresh_cell node key span given ∷ []
  pub at : place ≡ length old
  pub open_ : is_expired rules.trigger span.end mark ≡ false

-- the place of the first cell of the Group and key that takes an entry
abbrev pub IsTaker : GroupRules → ℕ → Value → Entry → List Cell → Option ℕ → Type 0
IsTaker rules node key entry cells o =
    MatchOption o (put_at rules node key entry cells ≡ cells) (λ place. (place < length cells) × (put_at rules node key entry cells ≡ changed_at (with_entry entry) cells place))
