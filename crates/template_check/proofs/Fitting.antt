-- Rules 13, 14 and 18 find the same places over a table that has the leaves of all containers of a text as over its structures.
use Rattle.std.proofs.Common.{◌≡◌, ℕ, List, Option, Some, None, refl, sym, ◌∙◌, inl}
use Rattle.std.specs.List.{All}
use Rattle.std.specs.Option.{option_and_then}
use Rattle.std.specs.Prelude.{slice_get}
use Rattle.std.proofs.lemmas.List.Elements.{All-contains, All-map}
use Rattle.conditions.specs.Faults.{unknown_leaf, mismatch}
use Rattle.flow_model.specs.declared.graphs.Leaf.{Leaf}
use Rattle.flow_model.specs.declared.graphs.Library.{Library}
use Rattle.flow_model.specs.declared.trees.ActivityTree.{ActivityTree}
use Rattle.flow_model.specs.declared.trees.ItemTree.{ItemTree}
use Rattle.flow_model.specs.declared.trees.ProcessTree.{ProcessTree}
use Rattle.leaf_rules.specs.LeafUses.{IsNoLeafIn, IsMixed, ReadsUnknownLeaf, MixesKinds}
use Rattle.leaf_rules.specs.StructureLeaves.{Leafing}
use Rattle.leaf_rules.specs.Tables.{HasContainers}
use Rattle.leaf_rules.proofs.Agreeing.{least_agreed, flipped}
use Rattle.process_rules.specs.Callees.{called, callee_input, callee_output, AreAlike, IsFitting, IsMisfit, HasMisfit}
use Rattle.process_rules.specs.Knowing.{callee_named}
use Rattle.process_rules.specs.declared.people.Callee.{Callee}
use Rattle.process_rules.specs.declared.people.Callee.TheVariants as callee
use Rattle.text_graphs.specs.Graphs.{GraphAt, graph_at, graphs_in, process_at, AreGraphsOf, InGraphs, IsGraphOf}
use Rattle.text_graphs.specs.Places.{IsLeastOf, AnyAt}
use Rattle.text_graphs.specs.Texts.{activities_in, processes_in}
use Rattle.text_graphs.specs.declared.scopes.Scope.{Scope}
use Rattle.text_graphs.proofs.Finding.{least_same}
use Rattle.template_check.proofs.InText.{container, contained, in_text}

alike : (a b c d : Option (List Leaf)) → a ≡ b → c ≡ d → AreAlike a c → AreAlike b d
alike a b c d ours theirs h = (h.0, sym ours ∙ h.1, sym theirs ∙ h.2)

-- two kinds of leaves agree on the containers of something that has an input and an output
abbrev AgreeOn : Leafing → Leafing → List ℕ → List ℕ → Type 0
AgreeOn x y input output = (x input ≡ y input) × (x output ≡ y output)

module _ (library : Library) (processes : List ProcessTree) (x y : Leafing) (callees : (number : ℕ) (p : ProcessTree) → slice_get processes number ≡ Some p → AgreeOn x y p.input.name p.output.name) where
  input_same : (c : Callee) → callee_input x library processes c ≡ callee_input y library processes c
  input_same (callee.Library place) = refl
  input_same (callee.Text number) = at (slice_get processes number) refl
    where
      at : (o : Option ProcessTree) → slice_get processes number ≡ o → option_and_then (λ p. x p.input.name) o ≡ option_and_then (λ p. y p.input.name) o
      at None is = refl
      at (Some p) is = (callees number p is).0

  output_same : (c : Callee) → callee_output x library processes c ≡ callee_output y library processes c
  output_same (callee.Library place) = refl
  output_same (callee.Text number) = at (slice_get processes number) refl
    where
      at : (o : Option ProcessTree) → slice_get processes number ≡ o → option_and_then (λ p. x p.output.name) o ≡ option_and_then (λ p. y p.output.name) o
      at None is = refl
      at (Some p) is = (callees number p is).1

  fitting : (a : ActivityTree) → AgreeOn x y a.input.name a.output.name → (c : Callee) → IsFitting x library processes a c → IsFitting y library processes a c
  fitting a agree c h = (
    alike (x a.input.name) (y a.input.name) (callee_input x library processes c) (callee_input y library processes c) agree.0 (input_same c) h.0,
    alike (x a.output.name) (y a.output.name) (callee_output x library processes c) (callee_output y library processes c) agree.1 (output_same c) h.1,
  )

  misfit : (a : ActivityTree) (p : ℕ) → AgreeOn x y a.input.name a.output.name → (o : Option Callee) → IsMisfit y library processes a o p → IsMisfit x library processes a o p
  misfit a p agree None h = h
  misfit a p agree (Some c) h = (λ fits. h.0 (fitting a agree c fits), h.1)

  misfits : (g : GraphAt) (p : ℕ) → HasContainers y x g → HasMisfit y library processes g p → HasMisfit x library processes g p
  misfits g p h found =
      let calls = callee_named library processes in
      let r = container (λ (a : ActivityTree). IsMisfit y library processes a (called calls g.process a.work)) (activities_in g.elements) p found in
      contained (λ (a : ActivityTree). IsMisfit x library processes a (called calls g.process a.work)) (activities_in g.elements) r.0 p r.1
      (misfit r.0 p (All-contains (λ (a : ActivityTree). AgreeOn x y a.input.name a.output.name) (activities_in g.elements) r.0 h.activities r.1) (called calls g.process r.0.work) r.2)

module _ (items : List ItemTree) (scopes : List Scope) (graphs : AreGraphsOf items (graphs_in scopes)) (wanted there : Leafing) (all : All (λ s. HasContainers wanted there (graph_at s)) scopes) where
  pub of_graph : (g : GraphAt) → IsGraphOf items g → HasContainers wanted there g
  of_graph g is = All-contains (HasContainers wanted there) (graphs_in scopes) g (All-map (HasContainers wanted there) graph_at scopes all) (graphs.whole g is)

  of_process : (number : ℕ) (p : ProcessTree) → slice_get (processes_in items) number ≡ Some p → AgreeOn there wanted p.input.name p.output.name
  of_process number p is = let h = of_graph (process_at number p) (number, p, is, inl refl) in (h.input, h.output)

  pub unknown_leaves_found : (found : Option ℕ) → IsLeastOf (AnyAt (λ s. ReadsUnknownLeaf there (graph_at s)) scopes) found → IsLeastOf (InGraphs items (ReadsUnknownLeaf wanted)) found
  unknown_leaves_found found h = in_text items scopes graphs (ReadsUnknownLeaf wanted) found (least_agreed unknown_leaf IsNoLeafIn wanted there scopes found all h)

  pub mixed_kinds_found : (found : Option ℕ) → IsLeastOf (AnyAt (λ s. MixesKinds there (graph_at s)) scopes) found → IsLeastOf (InGraphs items (MixesKinds wanted)) found
  mixed_kinds_found found h = in_text items scopes graphs (MixesKinds wanted) found (least_agreed mismatch IsMixed wanted there scopes found all h)

  pub misfits_found : (library : Library) (found : Option ℕ) → IsLeastOf (AnyAt (λ s. HasMisfit there library (processes_in items) (graph_at s)) scopes) found → IsLeastOf (InGraphs items (HasMisfit wanted library (processes_in items))) found
  misfits_found library found h =
      let processes = processes_in items in
      least_same (InGraphs items (HasMisfit there library processes)) (InGraphs items (HasMisfit wanted library processes)) found
      (λ p r. (r.0, r.1, misfits library processes wanted there (λ number q is. let same = of_process number q is in (sym same.0, sym same.1)) r.0 p (flipped wanted there r.0 (of_graph r.0 r.1)) r.2))
      (λ p r. (r.0, r.1, misfits library processes there wanted of_process r.0 p (of_graph r.0 r.1) r.2))
      (in_text items scopes graphs (HasMisfit there library processes) found h)
