-- Sessions as they are found: a part of a session, and elements that are in theirs.
use Rattle.std.specs.Prelude.{◌≡◌, ◌⊎◌, ℤ, ◌<ℤ◌, List}
use Rattle.std.specs.List.{Any}
use Rattle.beam_values.specs.Intervals.{Interval}
use Rattle.beam_values.specs.Grouping.{key_of}
use Rattle.beam_values.specs.declared.element.Element.{Element}
use Rattle.beam_values.specs.Sessions.{IsApart, LiesIn, IsInside, IsSession}
use Rattle.beam_model.specs.Sessions.{spans_of}

-- a window is in a session or apart from it
abbrev pub IsSettled : Interval → Interval → Type 0
IsSettled session span = LiesIn span session ⊎ IsApart span session

abbrev pub IsOneOf : List Interval → Interval → Type 0
IsOneOf spans span = Any (λ other. other ≡ span) spans

-- a part of a session: it begins and ends where windows do, and has no gap
pub record IsPart (spans : List Interval) (part : Interval) : Type 0 where
  pub ordered : part.start <ℤ part.end
  pub begins : Any (λ span. span.start ≡ part.start) spans
  pub ends : Any (λ span. span.end ≡ part.end) spans
  pub joined : (x : ℤ) → IsInside part x → Any (λ span. IsInside span x) spans

-- the windows of the elements that have this one's key
abbrev pub spans_with : Element → List Element → List Interval
spans_with e elements = spans_of (key_of e) elements

-- an element whose window is a session of its key
abbrev pub IsInSession : List Element → Element → Type 0
IsInSession elements e = IsSession (spans_with e elements) e.span
