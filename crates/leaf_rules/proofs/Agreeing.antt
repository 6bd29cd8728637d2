-- A rule on the uses of leaves finds the same places over two kinds of leaves that agree on the containers of a graph.
use Rattle.std.proofs.Common.{◌≡◌, ℕ, List, [], ◌∷◌, get_or, Option, Some, None, refl, sym, ap, subst, inl, inr, ⊎_elim, suc, arith}
use Rattle.std.specs.Prelude.{slice_get}
use Rattle.std.specs.List.{All}
use Rattle.std.specs.Option.{option_and_then}
use Rattle.std.proofs.lemmas.List.Elements.{All-contains}
use Rattle.std.proofs.lemmas.Option.{slice_get_within, get_or_from_slice_get}
use Rattle.flow_model.specs.declared.graphs.Leaf.{Leaf}
use Rattle.flow_model.specs.declared.trees.ActivityTree.{ActivityTree}
use Rattle.flow_model.specs.declared.trees.Cond.{Cond}
use Rattle.flow_model.specs.declared.trees.EndTree.{EndTree}
use Rattle.flow_model.specs.declared.trees.EndTree.TheVariants as end
use Rattle.flow_model.specs.declared.trees.EndsTree.{EndsTree}
use Rattle.flow_model.specs.declared.trees.EndsTree.TheVariants as ends
use Rattle.flow_model.specs.declared.trees.MapTree.{MapTree}
use Rattle.text_graphs.specs.Attributes.{exit_said}
use Rattle.text_graphs.specs.Graphs.{GraphAt, graph_at}
use Rattle.text_graphs.specs.Places.{IsLeastOf, AnyAt}
use Rattle.text_graphs.specs.Texts.{activities_in, controls_in, lines_in, number_in, activity_named}
use Rattle.text_graphs.specs.declared.scopes.Scope.{Scope}
use Rattle.text_graphs.proofs.Finding.{least_same, any_to}
use Rattle.leaf_rules.specs.Leaves.{with_code, input_leaves, output_leaves, source_leaves, target_leaves, line_source, line_target}
use Rattle.leaf_rules.specs.LeafUses.{text_at, IsInCond, IsInExit, when_said, IsInTransition, IsInMaps, IsInLine, IsInUses}
use Rattle.leaf_rules.specs.StructureLeaves.{Leafing}
use Rattle.leaf_rules.specs.Tables.{HasContainers}

-- where each place of one is one of the other, for elements of which something holds
any_all : {X : Type 0} (Q : X → Type 0) (R S : X → ℕ → Type 0) (p : ℕ) → ((x : X) → Q x → R x p → S x p) → (xs : List X) → All Q xs → AnyAt R xs p → AnyAt S xs p
any_all Q R S p to [] all h = h
any_all Q R S p to (x ∷ xs) all h = ⊎_elim (λ here. inl (to x (all 0 x (omega arith)) here)) (λ there. inr (any_all Q R S p to xs (λ k d less. all (suc k) d (omega arith)) there)) h

-- the leaves agree both ways
pub flipped : (a b : Leafing) (g : GraphAt) → HasContainers a b g → HasContainers b a g
flipped a b g h = record { input = sym h.input; output = sym h.output; activities = λ k d less. (sym (h.activities k d less).0, sym (h.activities k d less).1) }

module _ (a b : Leafing) (g : GraphAt) (h : HasContainers a b g) where
  of_named : (name : List ℕ) → (of : Leafing → ActivityTree → Option (List Leaf)) → ((x : ActivityTree) → (b x.input.name ≡ a x.input.name) × (b x.output.name ≡ a x.output.name) → of b x ≡ of a x) → option_and_then (of b) (activity_named g.elements name) ≡ option_and_then (of a) (activity_named g.elements name)
  of_named name of same = at (number_in g.elements name)
    where
      P : ActivityTree → Type 0
      P x = (b x.input.name ≡ a x.input.name) × (b x.output.name ≡ a x.output.name)

      found : (k : ℕ) (o : Option ActivityTree) → slice_get (activities_in g.elements) k ≡ o → option_and_then (of b) o ≡ option_and_then (of a) o
      found k None is = refl
      found k (Some x) is = same x (All-contains (λ (y : ActivityTree). (b y.input.name ≡ a y.input.name) × (b y.output.name ≡ a y.output.name)) (activities_in g.elements) x h.activities (k, slice_get_within (activities_in g.elements) k x is, get_or_from_slice_get (activities_in g.elements) k x x is))

      at : (o : Option ℕ) → option_and_then (of b) (option_and_then (λ k. slice_get (activities_in g.elements) k) o) ≡ option_and_then (of a) (option_and_then (λ k. slice_get (activities_in g.elements) k) o)
      at None = refl
      at (Some k) = found k (slice_get (activities_in g.elements) k) refl

  output_same : (name : List ℕ) → output_leaves b g.elements name ≡ output_leaves a g.elements name
  output_same name = of_named name (λ leaves x. with_code (leaves x.output.name)) (λ x same. ap with_code same.1)

  input_same : (name : List ℕ) → input_leaves b g.elements name ≡ input_leaves a g.elements name
  input_same name = of_named name (λ leaves x. leaves x.input.name) (λ x same. same.0)

  source_same : (e : EndTree) → source_leaves b (text_at g) e ≡ source_leaves a (text_at g) e
  source_same end.Border = h.input
  source_same (end.Activity name) = output_same name.name

  target_same : (e : EndTree) → target_leaves b (text_at g) e ≡ target_leaves a (text_at g) e
  target_same end.Border = h.output
  target_same (end.Activity name) = input_same name.name

  from_same : (e : EndsTree) → line_source b (text_at g) e ≡ line_source a (text_at g) e
  from_same (ends.Line from to) = source_same from
  from_same (ends.Loop name) = output_same name.name

  to_same : (e : EndsTree) → line_target b (text_at g) e ≡ line_target a (text_at g) e
  to_same (ends.Line from to) = target_same to
  to_same (ends.Loop name) = input_same name.name

  module _ (finds : List Leaf → Cond → Option ℕ) (breaks : List Leaf → List Leaf → MapTree → ℕ → Type 0) (p : ℕ) where
    exits_to : AnyAt (IsInExit finds b) (activities_in g.elements) p → AnyAt (IsInExit finds a) (activities_in g.elements) p
    exits_to =
        any_all (λ x. (b x.input.name ≡ a x.input.name) × (b x.output.name ≡ a x.output.name)) (IsInExit finds b) (IsInExit finds a) p
        (λ x same. subst (λ (o : Option (List Leaf)). AnyAt (λ y. IsInCond finds (with_code o) (exit_said y.what)) x.attrs p) same.1) (activities_in g.elements) h.activities

    transitions_to : AnyAt (IsInTransition finds b g.elements) (controls_in g.elements) p → AnyAt (IsInTransition finds a g.elements) (controls_in g.elements) p
    transitions_to =
        any_to (IsInTransition finds b g.elements) (IsInTransition finds a g.elements) (controls_in g.elements) p
        (λ c. subst (λ (o : Option (List Leaf)). IsInCond finds o (when_said c.when) p) (output_same c.from.name))

    lines_to : AnyAt (IsInLine breaks b (text_at g)) (lines_in g.elements) p → AnyAt (IsInLine breaks a (text_at g)) (lines_in g.elements) p
    lines_to =
        any_to (IsInLine breaks b (text_at g)) (IsInLine breaks a (text_at g)) (lines_in g.elements) p
        (λ l found.
        subst (λ (o : Option (List Leaf)). IsInMaps breaks o (line_target a (text_at g) l.ends) l.maps p) (from_same l.ends)
        (subst (λ (o : Option (List Leaf)). IsInMaps breaks (line_source b (text_at g) l.ends) o l.maps p) (to_same l.ends) found))

    pub uses_to : IsInUses finds breaks b g p → IsInUses finds breaks a g p
    uses_to = ⊎_elim (⊎_elim (λ e. inl (inl (exits_to e))) (λ t. inl (inr (transitions_to t)))) (λ l. inr (lines_to l))

-- so the least place is the same
pub least_agreed : (finds : List Leaf → Cond → Option ℕ) (breaks : List Leaf → List Leaf → MapTree → ℕ → Type 0) (wanted there : Leafing) (scopes : List Scope) (found : Option ℕ) → All (λ s. HasContainers wanted there (graph_at s)) scopes
    → IsLeastOf (AnyAt (λ s. IsInUses finds breaks there (graph_at s)) scopes) found → IsLeastOf (AnyAt (λ s. IsInUses finds breaks wanted (graph_at s)) scopes) found
least_agreed finds breaks wanted there scopes found all =
    least_same (AnyAt (λ s. IsInUses finds breaks there (graph_at s)) scopes) (AnyAt (λ s. IsInUses finds breaks wanted (graph_at s)) scopes) found
    (λ p. any_all (λ s. HasContainers wanted there (graph_at s)) (λ s. IsInUses finds breaks there (graph_at s)) (λ s. IsInUses finds breaks wanted (graph_at s)) p (λ s h. uses_to wanted there (graph_at s) h finds breaks p) scopes all)
    (λ p.
    any_all (λ s. HasContainers wanted there (graph_at s)) (λ s. IsInUses finds breaks wanted (graph_at s)) (λ s. IsInUses finds breaks there (graph_at s)) p
    (λ s h. uses_to there wanted (graph_at s) (flipped wanted there (graph_at s) h) finds breaks p) scopes all)

-- leaves that agree on all names agree on the containers of all graphs
pub agreed_everywhere : (wanted there : Leafing) → ((name : List ℕ) → there name ≡ wanted name) → (scopes : List Scope) → All (λ s. HasContainers wanted there (graph_at s)) scopes
agreed_everywhere wanted there same scopes = λ k d less. on (graph_at (get_or scopes k d))
  where
    on : (g : GraphAt) → HasContainers wanted there g
    on g = record {
      input = same g.input.name;
      output = same g.output.name;
      activities = λ k d less. let a = get_or (activities_in g.elements) k d in (same a.input.name, same a.output.name);
    }
