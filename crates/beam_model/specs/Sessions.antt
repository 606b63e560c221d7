-- Sessions of elements: the overlapping windows of one key are merged (Beam Programming Guide, Session windows; The Dataflow Model, window merging).
use Rattle.std.specs.Prelude.{◌≡◌, Bool, List, map, bytes_eq}
use Rattle.std.specs.List.{All, filter}
use Rattle.beam_values.specs.Intervals.{Interval}
use Rattle.beam_values.specs.Grouping.{key_of}
use Rattle.beam_values.specs.Sessions.{LiesIn, IsSession}
use Rattle.beam_values.specs.Spelling.{spelling}
use Rattle.beam_values.specs.declared.value.Value.{Value}
use Rattle.beam_values.specs.declared.element.Element.{Element}

-- an element has this key
abbrev pub is_keyed : Value → Element → Bool
is_keyed key e = bytes_eq (spelling (key_of e)) (spelling key)

-- the windows of the elements of a key
abbrev pub spans_of : Value → List Element → List Interval
spans_of key elements = map (λ e. e.span) (filter (is_keyed key) elements)

-- an element, and the session that its window becomes part of
pub record Merged : Type 0 where
  pub element : Element
  pub session : Interval

abbrev pub IsMergedIn : List Element → Merged → Type 0
IsMergedIn elements merged =
    IsSession (spans_of (key_of merged.element) elements) merged.session × LiesIn merged.element.span merged.session

abbrev pub in_session : Merged → Element
in_session merged = record merged.element { span = merged.session }

-- each element in the session of its key that its window lies in, and otherwise as it was
pub record IsMerging (elements sessioned : List Element) : Type 0 where
  pub merged : List Merged
  pub those : elements ≡ map (λ m. m.element) merged
  pub each : All (IsMergedIn elements) merged
  pub moved : sessioned ≡ map in_session merged
