-- What is written for each node in turn.
use Rattle.std.proofs.Common.{◌≡◌, ℕ, ◌+◌, ◌<◌, ◌≤◌, suc, cond, nat_lt, Bool, List, [], ◌∷◌, ◌++◌, Vec, map, length, count_by, get_or, set, drop, append_assoc, append-nil, add-one, drop-cons, length-set, ap, refl, subst, sym, ◌∙◌, arith}
use Rattle.std.specs.Borrow.{Bor}
use Rattle.std.specs.declared.alloc.Global.{Global}
use Rattle.std.proofs.lemmas.List.{drop_all, length-map, map-append, get_or-map, map-set, get_or-set_same, get_or-set_other}
use Rattle.std.proofs.lemmas.List.Sums.{sum_by-cons}
use Rattle.beam_values.specs.Nodes.{is_write_kind}
use Rattle.beam_values.specs.declared.element.Element.{Element}
use Rattle.beam_values.specs.declared.arrival.Arrival.{Arrival}
use Rattle.beam_values.specs.declared.plan.Node.{Node}
use Rattle.beam_values.specs.declared.plan.NodeKind.{NodeKind}
use Rattle.beam_values.specs.declared.plan.NodeKind.TheVariants.{Source, ParDo, Flatten, WindowInto, Group, Stateful, Write}
use Rattle.beam_values.specs.declared.plan.Plan.{Plan}
use Rattle.beam_model.specs.Flow.{elements_at}
use Rattle.beam_model.specs.Rendering.{IsLines, IsWritten, Labelled, label_of, writes, writes_from, title}
use Rattle.beam_text.specs.Parts.{AppendsText, IsNodeText, contents, elements_in}

-- an element that is put at the end of one list
pub put_here : (lists : List (Vec (Bor Element) Global)) (n : ℕ) (old new : Vec (Bor Element) Global) (element : Bor Element) → n < length lists
    → old ≡ get_or lists n old → new.items ≡ old.items ++ element ∷ []
    → get_or (contents (set lists n new)) n [] ≡ get_or (contents lists) n [] ++ element.now ∷ []
put_here lists n old new element within found pushed =
    let f : Vec (Bor Element) Global → List Element = λ l. elements_in l.items in
    ap (λ l. get_or l n []) (map-set f lists n new)
    ∙ get_or-set_same (map f lists) n (f new) [] (omega (arith, length-map lists f))
    ∙ ap elements_in pushed
    ∙ map-append (λ e. e.now) old.items (element ∷ [])
    ∙ ap (λ l. l ++ element.now ∷ []) (ap f found ∙ sym (get_or-map f lists n old [] within))

pub put_elsewhere : (lists : List (Vec (Bor Element) Global)) (n : ℕ) (new : Vec (Bor Element) Global) (other : ℕ) → (other ≡ n → ⊥)
    → get_or (contents (set lists n new)) other [] ≡ get_or (contents lists) other []
put_elsewhere lists n new other apart =
    let f : Vec (Bor Element) Global → List Element = λ l. elements_in l.items in
    ap (λ l. get_or l other []) (map-set f lists n new) ∙ get_or-set_other (map f lists) n other (f new) [] apart

one_more : (n : ℕ) (kind : NodeKind) (ws : List Labelled) → cond (is_write_kind kind) 1 0 + length ws ≡ length (label_of n kind ++ ws)
one_more n (Source work args files estimator) ws = omega arith
one_more n (ParDo work args) ws = omega arith
one_more n Flatten ws = omega arith
one_more n (WindowInto strategy) ws = omega arith
one_more n (Group trigger) ws = omega arith
one_more n (Stateful work args log) ws = omega arith
one_more n (Write label) ws = omega arith

-- the Writes are as many as the nodes that are Writes
pub count_writes : (n : ℕ) (nodes : List Node) → count_by (λ node. is_write_kind node.kind) nodes ≡ length (writes_from n nodes)
count_writes n [] = refl
count_writes n (node ∷ nodes) =
    sum_by-cons (λ (node : Node). cond (is_write_kind node.kind) 1 0) node nodes
    ∙ ap (λ k. cond (is_write_kind node.kind) 1 0 + k) (count_writes (n + 1) nodes)
    ∙ one_more n node.kind (writes_from (n + 1) nodes)

nothing_first : (labelled : Bool) (written : List Arrival) (ws : List Labelled) (text rest : List ℕ) → text ≡ [] → IsWritten labelled written ws rest
    → IsWritten labelled written ws (text ++ rest)
nothing_first labelled written ws text rest e more = subst (λ (l : List ℕ). IsWritten labelled written ws (l ++ rest)) (sym e) more

-- the text of a node, and then what later Writes took
node_first : (labelled : Bool) (written : List Arrival) (n : ℕ) (kind : NodeKind) (ws : List Labelled) (elements : List Element) (text rest : List ℕ)
    → IsNodeText labelled kind elements text → elements ≡ elements_at n written → IsWritten labelled written ws rest
    → IsWritten labelled written (label_of n kind ++ ws) (text ++ rest)
node_first labelled written n (Write label) ws elements text rest (lines, is, e) same more =
    (lines, rest, subst (λ (l : List Element). IsLines l lines) same is, more, ap (λ l. l ++ rest) e ∙ append_assoc (title labelled label) lines rest)
node_first labelled written n (Source work args files estimator) ws elements text rest e same more = nothing_first labelled written ws text rest e more
node_first labelled written n (ParDo work args) ws elements text rest e same more = nothing_first labelled written ws text rest e more
node_first labelled written n Flatten ws elements text rest e same more = nothing_first labelled written ws text rest e more
node_first labelled written n (WindowInto strategy) ws elements text rest e same more = nothing_first labelled written ws text rest e more
node_first labelled written n (Group trigger) ws elements text rest e same more = nothing_first labelled written ws text rest e more
node_first labelled written n (Stateful work args log) ws elements text rest e same more = nothing_first labelled written ws text rest e more

-- the nodes below this number are written
pub record IsBegun (labelled : Bool) (written : List Arrival) (nodes : List Node) (node : ℕ) (before after : List ℕ) : Type 0 where
  pub front : List ℕ
  pub added : after ≡ before ++ front
  pub whole : (rest : List ℕ) → IsWritten labelled written (writes_from node (drop node nodes)) rest
      → IsWritten labelled written (writes_from 0 nodes) (front ++ rest)

-- the lists of the nodes from this number on are as they were made
pub record IsLeft (node count : ℕ) (written : List Arrival) (lists : List (Vec (Bor Element) Global)) : Type 0 where
  pub count_is : length lists ≡ count
  pub arrived : (later : ℕ) → node ≤ later → later < count → get_or (contents lists) later [] ≡ elements_at later written

pub begun_none : (labelled : Bool) (written : List Arrival) (nodes : List Node) (before : List ℕ) → IsBegun labelled written nodes 0 before before
begun_none labelled written nodes before = record { front = []; added = sym (append-nil before); whole = λ rest h. h }

pub begun_more : (labelled : Bool) (written : List Arrival) (nodes : List Node) (i : ℕ) (node : Node) (elements : List Element) (before after more : List ℕ)
    → i < length nodes → node ≡ get_or nodes i node → elements ≡ elements_at i written → AppendsText (IsNodeText labelled node.kind elements) after more
    → IsBegun labelled written nodes i before after → IsBegun labelled written nodes (i + 1) before more
begun_more labelled written nodes i node elements before after more within is same (text, at_node, grown) g =
    let left : drop i nodes ≡ node ∷ drop (i + 1) nodes = rw (add-one, drop-cons nodes i node) (ap (λ (n : Node). n ∷ drop (suc i) nodes) (sym is)) in
    record {
      front = g.front ++ text;
      added = grown ∙ ap (λ l. l ++ text) g.added ∙ append_assoc before g.front text;
      whole = λ rest h.
          subst (λ (l : List ℕ). IsWritten labelled written (writes_from 0 nodes) l) (sym (append_assoc g.front text rest))
          (g.whole (text ++ rest)
          (subst (λ (l : List Node). IsWritten labelled written (writes_from i l) (text ++ rest)) (sym left)
          (node_first labelled written i node.kind (writes_from (i + 1) (drop (i + 1) nodes)) elements text rest at_node same h)));
    }

pub begun_all : (labelled : Bool) (written : List Arrival) (nodes : List Node) (i : ℕ) (before after : List ℕ) → length nodes ≤ i
    → IsBegun labelled written nodes i before after → AppendsText (IsWritten labelled written (writes_from 0 nodes)) before after
begun_all labelled written nodes i before after end g = (
  g.front,
  subst (λ (l : List ℕ). IsWritten labelled written (writes_from 0 nodes) l) (append-nil g.front)
      (g.whole [] (subst (λ (l : List Node). IsWritten labelled written (writes_from i l) []) (sym (drop_all i nodes end)) refl)),
  g.added,
)

-- the list of one node was sorted
pub left_more : (i count : ℕ) (written : List Arrival) (lists : List (Vec (Bor Element) Global)) (new : Vec (Bor Element) Global)
    → IsLeft i count written lists → IsLeft (i + 1) count written (set lists i new)
left_more i count written lists new g = record {
  count_is = omega (arith, length-set lists i new, g.count_is);
  arrived = λ later above within.
      let apart : later ≡ i → ⊥ = λ e. omega arith in
      put_elsewhere lists i new later apart ∙ g.arrived later (omega arith) within;
}

-- the list of the next node
pub next_list : (i count : ℕ) (written : List Arrival) (lists : List (Vec (Bor Element) Global)) (list : Vec (Bor Element) Global) → i < count
    → list ≡ get_or lists i list → IsLeft i count written lists → elements_in list.items ≡ elements_at i written
next_list i count written lists list within found g =
    let f : Vec (Bor Element) Global → List Element = λ l. elements_in l.items in
    let inside : i < length lists = omega (arith, g.count_is) in
    ap f found ∙ sym (get_or-map f lists i list [] inside) ∙ g.arrived i (omega arith) within

-- all nodes are written
pub adds_writes : (plan : Plan) (written : List Arrival) (nodes : List Node) (write_count i : ℕ) (before after : List ℕ) → nodes ≡ plan.nodes
    → write_count ≡ count_by (λ node. is_write_kind node.kind) nodes → length nodes ≤ i → IsBegun (nat_lt 1 write_count) written nodes i before after
    → AppendsText (IsWritten (nat_lt 1 (length (writes plan))) written (writes plan)) before after
adds_writes plan written nodes write_count i before after same counted end g =
    let count_is : write_count ≡ length (writes plan) = counted ∙ count_writes 0 nodes ∙ ap (λ l. length (writes_from 0 l)) same in
    subst (λ (n : ℕ). AppendsText (IsWritten (nat_lt 1 n) written (writes plan)) before after) count_is
    (subst (λ (l : List Node). AppendsText (IsWritten (nat_lt 1 write_count) written (writes_from 0 l)) before after) same
    (begun_all (nat_lt 1 write_count) written nodes i before after end g))
