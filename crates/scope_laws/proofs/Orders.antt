-- Two roots of one case have ended alike, where no message of them is queued.
use Rattle.std.proofs.Common.{◌≡◌, ℕ, zero, suc, ◌+◌, ◌≤◌, true, false, List, Option, Some, option_and_then}
use Rattle.std.proofs.Common.{ap, ap₂, sym, subst, ◌∙◌, arith}
use Rattle.std.proofs.Math.Path.{fun_ext}
use Rattle.blocks_subprocs.specs.Ends.{ends_of}
use Rattle.core_laws.proofs.Completed.{all_known}
use Rattle.core_laws.specs.RightStates.{input_now, known_now, messages_in, note_queue, IsRightState}
use Rattle.flow_core.specs.Answers.{instance_of}
use Rattle.flow_core.specs.Driving.{graph_now, templates}
use Rattle.flow_core.specs.declared.state.Core.{Core}
use Rattle.flow_model.specs.ScopeContainers.{graph_of, output_by}
use Rattle.flow_model.specs.Scopes.{Known, at, output, tree_ends}
use Rattle.flow_model.specs.declared.graphs.Container.{Container}
use Rattle.flow_model.specs.declared.graphs.Graph.{Graph}
use Rattle.flow_model.specs.declared.graphs.Template.{Template}
use Rattle.flow_model.specs.declared.instances.Part.{Part}
use Rattle.library_laws.proofs.SameGraphs.{ServedInside, same_graphs}
use Rattle.library_laws.proofs.SameScopes.{ends_same}
use Rattle.navigator.specs.Serving.{Served}
use Rattle.navigator.specs.declared.instance.Instance.{Instance}
use Rattle.navigator.specs.declared.scopes.ScopeState.{out-ScopeState}
use Rattle.root_laws.proofs.EndsSaid.{is_whole}
use Rattle.view_laws.specs.Runs.{Event}
use Rattle.scope_laws.proofs.Quiet.{none_queued}
use Rattle.scope_laws.specs.Laws.{AreOfOneCase, IsQuietRoot, QuietRootsAreOrderFree}

-- ---- levels

-- the activities of a graph that nests no deeper end alike with more levels
tree_deeper : (ts : List Template) (depth n : ℕ) → depth ≤ n → (k : Known) (g : Graph) (input : Container)
    → Served ts depth g → tree_ends ts n k g input ≡ tree_ends ts depth k g input
tree_deeper ts zero n le k g input served =
    ends_same ts ts k (output ts zero) (output ts n) (ServedInside ts zero) (λ q h i never. absurd never) g
    (same_graphs ts ts zero g (λ t h is. is) served) input
tree_deeper ts (suc depth) zero le k g input served = absurd (omega (arith, le))
tree_deeper ts (suc depth) (suc n) le k g input served =
    ends_same ts ts k (output ts (suc depth)) (output ts (suc n)) (ServedInside ts (suc depth))
    (λ q h i inner. ap (output_by h i) (tree_deeper ts depth n (omega (arith, le)) (at q k) h i inner)) g
    (same_graphs ts ts (suc depth) g (λ t h is. is) served) input

trees_one : (ts : List Template) (d d' : ℕ) (k : Known) (g : Graph) (input : Container) → Served ts d g
    → Served ts d' g → tree_ends ts d' k g input ≡ tree_ends ts d k g input
trees_one ts d d' k g input first second =
    sym (tree_deeper ts d' (d + d') (omega arith) k g input second)
    ∙ tree_deeper ts d (d + d') (omega arith) k g input first

-- the same of equal libraries, graphs, inputs and completions
trees_same : (ts ts' : List Template) (d d' : ℕ) (k k' : Known) (g g' : Graph) (input input' : Container) → ts' ≡ ts
    → k' ≡ k → g' ≡ g → input' ≡ input → Served ts d g → Served ts' d' g'
    → tree_ends ts' d' k' g' input' ≡ tree_ends ts d k g input
trees_same ts ts' d d' k k' g g' input input' templates_same known_same graph_same input_same first second =
    let moved : Served ts d' g =
    subst (λ xs. Served xs d' g) templates_same (subst (λ h. Served ts' d' h) graph_same second) in
    ap (λ xs. tree_ends xs d' k' g' input') templates_same ∙ ap (λ x. tree_ends ts d' x g' input') known_same
    ∙ ap (λ h. tree_ends ts d' k h input') graph_same ∙ ap (λ x. tree_ends ts d' k g x) input_same
    ∙ trees_one ts d d' k g input first moved

-- ---- what is known

abbrev known_by : ℕ → (List Part → Option Container) → Known
known_by most given = record {
  most = most;
  begun = λ p. true;
  closed = λ p. true;
  sent = λ p a b v. v;
  given = given;
}

known_one : (c c' : Core) (root root' : ℕ) → AreOfOneCase c root c' root' → known_now c' root' ≡ known_now c root
known_one c c' root root' one =
    ap₂ known_by one.count (fun_ext one.outputs)

-- ---- one root

same_some : {X : Type 0} (x y : X) → Some x ≡ Some y → x ≡ y
same_some x y is = cc

module _ (c : Core) (runs : ℕ → List Event) (right : IsRightState c runs) (root : ℕ) (i : Instance)
    (live : instance_of c root ≡ Some i) where
  graph_so : graph_now c root ≡ Some (right.are root i live).right.graph
  graph_so =
      ap (λ o. option_and_then (λ x. graph_of (templates c) x.template) o) live ∙ (right.are root i live).right.process

  pub whole_so : i.terminated ≡ false → IsQuietRoot c root → (a : ℕ)
      → ends_of (out-ScopeState i.scope).ends.items a
      ≡ tree_ends (templates c) (right.are root i live).right.depth (known_now c root) (right.are root i live).right.graph
      (input_now c root) a
  whole_so lives quiet a =
      let one = (right.are root i live).right in
      is_whole (templates c) (note_queue c root) (runs root) (messages_in c.queues root) (input_now c root) i a one lives
      (none_queued root c.queues quiet)
      ∙ ap (λ k. tree_ends (templates c) one.depth k one.graph (input_now c root) a) (all_known c runs right root i live)

pub order_free : QuietRootsAreOrderFree
order_free c c' root root' i i' right right' live live' one lives lives' quiet quiet' a =
    let was = (right.1.are root i live).right in
    let was' = (right'.1.are root' i' live').right in
    let graphs : was'.graph ≡ was.graph =
    same_some was'.graph was.graph (sym (graph_so c' right'.0 right'.1 root' i' live') ∙ one.graph
    ∙ graph_so c right.0 right.1 root i live) in
    whole_so c' right'.0 right'.1 root' i' live' lives' quiet' a
    ∙ ap (λ e. e a) (trees_same (templates c) (templates c') was.depth was'.depth (known_now c root)
    (known_now c' root') was.graph was'.graph (input_now c root) (input_now c' root') one.library
    (known_one c c' root root' one) graphs one.input was.served.served was'.served.served)
    ∙ sym (whole_so c right.0 right.1 root i live lives quiet a)
