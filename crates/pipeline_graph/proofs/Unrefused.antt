-- Nodes that break no rule, one after another.
use Rattle.std.proofs.Common.{◌≡◌, ℕ, ◌+◌, ◌<◌, ◌≤◌, ◌&&◌, nat_lt, Bool, true, false, cond, List, [], ◌∷◌, ◌++◌, length, get_or, take, drop, Option, Some, None, refl, sym, ap, ◌∙◌, arith}
use Rattle.std.specs.Prelude.{not}
use Rattle.std.specs.Option.{option_or}
use Rattle.std.specs.List.{list_all, list_any}
use Rattle.std.proofs.lemmas.Bool.{and_parts, and_right, both_ways, leb-true, not-false}
use Rattle.std.proofs.lemmas.Grind.{fold-append}
use Rattle.std.proofs.lemmas.List.{take_more, drop_more}
use Rattle.beam_values.specs.Checked.{file_count, files_of_kind, has_arity, has_input, is_set, is_source_allowed, is_write_in, node_refusal, nodes_refusal}
use Rattle.beam_values.specs.Nodes.{NodeFacts, facts_of, is_source_kind, with_facts}
use Rattle.beam_values.specs.declared.graph_refusal.GraphRefusal.{GraphRefusal}
use Rattle.beam_values.specs.declared.plan.Args.{Args}
use Rattle.beam_values.specs.declared.plan.Node.{Node}
use Rattle.beam_values.specs.declared.plan.NodeKind.{NodeKind}
use Rattle.beam_values.specs.declared.plan.NodeKind.TheVariants.{Source, ParDo, Flatten, WindowInto, Group, Stateful, Write}
use Rattle.beam_values.specs.declared.plan.SourceKind.{SourceKind}
use Rattle.beam_values.specs.declared.plan.SourceKind.TheVariants.{Lines, TimedLines, Count, Made}

-- ---- rules one after another

pub unbroken : {X : Type 0} (broken : Bool) (rule : X) (rest : Option X) → cond broken (Some rule) rest ≡ None → (broken ≡ false) × (rest ≡ None)
unbroken true rule rest none = absurd cc
unbroken false rule rest none = (refl, none)

pub neither : {X : Type 0} (first second : Option X) → option_or first second ≡ None → (first ≡ None) × (second ≡ None)
neither None second none = (refl, none)
neither (Some x) second none = absurd cc

-- what a node that no rule refuses has
pub record IsUnrefused (before : List Node) (node : Node) : Type 0 where
  pub no_input_of_a_source : (is_source_kind node.kind && has_input node.inputs) ≡ false
  pub arity : has_arity node.kind node.inputs ≡ true
  pub lower : list_all (λ input. nat_lt input (length before)) node.inputs ≡ true
  pub no_write : list_any (is_write_in before) node.inputs ≡ false
  pub settings : is_set before node.kind node.inputs ≡ true

pub unrefused : (before : List Node) (node : Node) → node_refusal before node ≡ None → IsUnrefused before node
unrefused before node none =
    let sources = unbroken (is_source_kind node.kind && has_input node.inputs) _ _ none in
    let arity = unbroken (not (has_arity node.kind node.inputs)) _ _ sources.1 in
    let inputs = unbroken (not (list_all (λ input. nat_lt input (length before)) node.inputs)) _ _ arity.1 in
    let writes = unbroken (list_any (is_write_in before) node.inputs) _ _ inputs.1 in
    let settings = unbroken (not (is_set before node.kind node.inputs)) _ _ writes.1 in
    record {
      no_input_of_a_source = sources.0;
      arity = not-false _ arity.0;
      lower = not-false _ inputs.0;
      no_write = writes.0;
      settings = not-false _ settings.0;
    }

-- ---- files

few_files : (earlier : ℕ) (work : SourceKind) (args : Args) (files : List (List ℕ)) → earlier ≤ 256
    → is_source_allowed earlier work args files ≡ true → earlier + length files ≤ 256
few_files earlier Lines args files few allowed = leb-true _ _ (and_parts _ _ (and_parts _ _ allowed).1).1
few_files earlier TimedLines args files few allowed = leb-true _ _ (and_parts _ _ (and_parts _ _ allowed).1).1
few_files earlier Count args [] few allowed = omega arith
few_files earlier Count args (file ∷ files) few allowed = absurd (both_ways _ (and_right _ _ refl) allowed)
few_files earlier Made args [] few allowed = omega arith
few_files earlier Made args (file ∷ files) few allowed = absurd (both_ways _ (and_right _ _ refl) allowed)

pub set_files : (before : List Node) (kind : NodeKind) (inputs : List ℕ) → file_count before ≤ 256 → is_set before kind inputs ≡ true
    → file_count before + files_of_kind kind ≤ 256
set_files before (Source work args files estimator) inputs few set = few_files (file_count before) work args files few (and_parts _ _ set).0
set_files before (ParDo work args) inputs few set = omega arith
set_files before Flatten inputs few set = omega arith
set_files before (WindowInto strategy) inputs few set = omega arith
set_files before (Group trigger) inputs few set = omega arith
set_files before (Stateful work args log) inputs few set = omega arith
set_files before (Write label) inputs few set = omega arith

pub file_count-push : (nodes : List Node) (node : Node) → file_count (nodes ++ node ∷ []) ≡ file_count nodes + files_of_kind node.kind
file_count-push [] node = omega arith
file_count-push (first ∷ nodes) node = omega (arith, file_count-push nodes node)

pub facts_of-push : (nodes : List Node) (node : Node) → facts_of (nodes ++ node ∷ []) ≡ with_facts (facts_of nodes) node
facts_of-push nodes node = fold-append with_facts [] nodes (node ∷ [])

-- ---- the nodes so far

-- the nodes before this one break no rule, and this is known of them
pub record IsCheckedTo (number : ℕ) (nodes : List Node) (facts : List NodeFacts) (files : ℕ) : Type 0 where
  pub known : facts ≡ facts_of (take number nodes)
  pub read : files ≡ file_count (take number nodes)
  pub few_files : files ≤ 256
  pub left : nodes_refusal [] nodes ≡ nodes_refusal (take number nodes) (drop number nodes)

pub none_checked : (nodes : List Node) → IsCheckedTo 0 nodes [] 0
none_checked nodes = record { known = refl; read = refl; few_files = omega arith; left = refl }

pub checked_more : (number : ℕ) (nodes : List Node) (facts : List NodeFacts) (files : ℕ) (node d : Node) → number < length nodes → get_or nodes number d ≡ node
    → node_refusal (take number nodes) node ≡ None → IsCheckedTo number nodes facts files
    → IsCheckedTo (number + 1) nodes (with_facts facts node) (files + files_of_kind node.kind)
checked_more number nodes facts files node d within is none so_far =
    let before : List Node = take number nodes in
    let step : take (number + 1) nodes ≡ before ++ node ∷ [] = take_more nodes number d within ∙ ap (λ (it : Node). before ++ it ∷ []) is in
    let rest : drop number nodes ≡ node ∷ drop (number + 1) nodes = drop_more nodes number d within ∙ ap (λ (it : Node). it ∷ drop (number + 1) nodes) is in
    let few : file_count before ≤ 256 = omega (arith, so_far.read, so_far.few_files) in
    record {
      known = ap (λ (known : List NodeFacts). with_facts known node) so_far.known ∙ sym (ap facts_of step ∙ facts_of-push before node);
      read = ap (λ (count : ℕ). count + files_of_kind node.kind) so_far.read ∙ sym (ap file_count step ∙ file_count-push before node);
      few_files = omega (arith, so_far.read, set_files before node.kind node.inputs few (unrefused before node none).settings);
      left =
          so_far.left
          ∙ ap (nodes_refusal before) rest
          ∙ ap (λ (first : Option GraphRefusal). option_or first (nodes_refusal (before ++ node ∷ []) (drop (number + 1) nodes))) none
          ∙ ap (λ (front : List Node). nodes_refusal front (drop (number + 1) nodes)) (sym step);
    }

-- the same, as a turn of the loop has it
pub checked_turn : (number : ℕ) (nodes before : List Node) (facts facts' : List NodeFacts) (files read : ℕ) (node : Node) → number < length nodes
    → node ≡ get_or nodes number node → before ≡ take number nodes → None ≡ node_refusal before node
    → facts' ≡ with_facts facts node → read ≡ files_of_kind node.kind → IsCheckedTo number nodes facts files → IsCheckedTo (number + 1) nodes facts' (files + read)
checked_turn number nodes before facts facts' files read node within is front none pushed counted so_far =
    rw (pushed, counted)
    (checked_more number nodes facts files node node within (sym is) (ap (λ (list : List Node). node_refusal list node) (sym front) ∙ sym none) so_far)
