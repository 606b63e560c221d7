-- The parts that a rendering is written in.
use Rattle.std.specs.Prelude.{◌≡◌, ℕ, ◌<◌, Bool, false, List, [], ◌∷◌, ◌++◌, Vec, codes, decimal, length, map, slice_index_or}
use Rattle.std.specs.Fmt.{signed_decimal}
use Rattle.std.specs.Borrow.{Bor}
use Rattle.std.specs.List.{flat_map}
use Rattle.std.specs.declared.alloc.Global.{Global}
use Rattle.beam_values.specs.Texts.{is_escaped, timing_text}
use Rattle.beam_values.specs.declared.element.Element.{Element}
use Rattle.beam_values.specs.declared.arrival.Arrival.{Arrival}
use Rattle.beam_values.specs.declared.log.KeyLog.{KeyLog}
use Rattle.beam_values.specs.declared.plan.NodeKind.{NodeKind}
use Rattle.beam_values.specs.declared.plan.NodeKind.TheVariants.{Write}
use Rattle.beam_values.specs.declared.value.Value.{Value}
use Rattle.beam_model.specs.Flow.{elements_at}
use Rattle.beam_model.specs.Rendering.{IsLines, items_written, title}

-- such a text was added at the end
abbrev pub AppendsText : (List ℕ → Type 0) → List ℕ → List ℕ → Type 0
AppendsText IsText before after = (text : List ℕ) × IsText text × (after ≡ before ++ text)

-- what references point to
abbrev pub elements_in : List (Bor Element) → List Element
elements_in elements = map (λ element. element.now) elements

abbrev pub logs_in : List (Bor KeyLog) → List KeyLog
logs_in logs = map (λ log. log.now) logs

abbrev pub contents : List (Vec (Bor Element) Global) → List (List Element)
contents lists = map (λ elements. elements_in elements.items) lists

-- for each node below the count the elements that arrived at it
pub record IsByNode (node_count : ℕ) (written : List Arrival) (lists : List (Vec (Bor Element) Global)) : Type 0 where
  pub count : length lists ≡ node_count
  pub arrived : (node : ℕ) → node < node_count → slice_index_or (contents lists) node [] ≡ elements_at node written

-- the text of a node at which these elements arrived: what a Write took, and nothing of another one
abbrev pub IsNodeText : Bool → NodeKind → List Element → List ℕ → Type 0
IsNodeText labelled (Write label) elements text = (lines : List ℕ) × IsLines elements lines × (text ≡ title labelled label ++ lines)
IsNodeText labelled _ elements text = text ≡ []

-- the front of a call's line: its node and its window, with a TAB after each
abbrev pub call_place : KeyLog → List ℕ
call_place log =
    codes "log" ++ 9 ∷ (decimal log.node ++ 9 ∷ (signed_decimal log.span.start ++ 9 ∷ (signed_decimal log.span.end ++ 9 ∷ [])))

-- the items of the sequences of what was written
abbrev pub items_in : List Arrival → List Value
items_in written = flat_map (λ arrival. items_written arrival.element) written

-- a byte that is printed as it is
abbrev pub IsPlain : ℕ → Type 0
IsPlain byte = is_escaped byte ≡ false

-- the front of an element's line: its window, and its pane's timing and index, with a TAB after each
abbrev pub line_front : Element → List ℕ
line_front e =
    signed_decimal e.span.start ++ 9 ∷ (signed_decimal e.span.end ++ 9 ∷ (timing_text e.pane.timing ++ 9 ∷ (decimal e.pane.index ++ 9 ∷ [])))
