-- What holds of the graphs of a text where a rule finds nothing in them.
use Rattle.std.proofs.Common.{◌≡◌, ℕ, zero, suc, ◌<◌, List, [], ◌∷◌, length, get_or, map, Option, Some, None, refl, ap, subst, inl, inr, ◌⊎◌, arith}
use Rattle.std.specs.List.{All}
use Rattle.std.proofs.lemmas.List.Elements.{Contains-get_or}
use Rattle.flow_model.specs.declared.trees.ActivityTree.{ActivityTree}
use Rattle.flow_model.specs.declared.trees.ItemTree.{ItemTree}
use Rattle.flow_model.specs.declared.trees.NameAt.{NameAt}
use Rattle.flow_model.specs.declared.trees.StructDef.{StructDef}
use Rattle.text_graphs.specs.ClosedWalks.{IsAcyclic}
use Rattle.connector_rules.specs.Connectors.{IsDouble, IsEmptyGraph}
use Rattle.text_graphs.specs.Graphs.{graph_at, graphs_in, AreGraphsOf, InGraphs}
use Rattle.text_graphs.specs.Meeting.{IsAgainAt}
use Rattle.name_rules.specs.Names.{AreActivityEnds, IsItemEnd, IsEndWrong, IsInsideAgain, IsItemAgain, IsPartAgain, IsTwice}
use Rattle.process_rules.specs.Counts.{IsExtra, IsTooMuch, IsTooMuchOf}
use Rattle.process_rules.specs.Numbers.{IsNumberWrong}
use Rattle.text_graphs.specs.Places.{IsLeastOf, AnyAt, PairAt, lesser_of}
use Rattle.text_graphs.proofs.Finding.{least_either, least_is}
use Rattle.leaf_rules.specs.ArrayCounts.{IsCountOutside}
use Rattle.leaf_rules.specs.Structures.{AreNoKinds, AreNoContainersIn, NamesNoStructure}
use Rattle.text_graphs.specs.Texts.{activities_in, controls_in, edges_in, AllDiffer, AreNamesApart, IsConnected, processes_in, structures_in}
use Rattle.text_graphs.specs.declared.scopes.Scope.{Scope}
use Rattle.connector_rules.proofs.Doubling.{edges_differ}
use Rattle.template_check.proofs.InText.{contained, in_both}

-- a name at a later place comes again
again : (n : NameAt) (ns : List NameAt) (j : ℕ) (d : List ℕ) → j < length (map (λ m. m.name) ns) → n.name ≡ get_or (map (λ m. m.name) ns) j d → (p : ℕ) × AnyAt (IsAgainAt n) ns p
again n [] j d less same = absurd (omega arith)
again n (m ∷ ns) zero d less same = (m.place, inl (same, refl))
again n (m ∷ ns) (suc j) d less same = let r = again n ns j d (omega arith) same in (r.0, inr r.1)

names_differ : (ns : List NameAt) → ((p : ℕ) → PairAt IsAgainAt ns p → ⊥) → AllDiffer (map (λ n. n.name) ns)
names_differ [] none i j d less within same = absurd (omega arith)
names_differ (n ∷ ns) none zero zero d less within same = absurd (omega arith)
names_differ (n ∷ ns) none zero (suc j) d less within same = let r = again n ns j d (omega arith) same in none r.0 (inl r.1)
names_differ (n ∷ ns) none (suc i) zero d less within same = absurd (omega arith)
names_differ (n ∷ ns) none (suc i) (suc j) d less within same = names_differ ns (λ p h. none p (inr h)) i j d (omega arith) (omega arith) same

names_of : (as_ : List ActivityTree) → map (λ n. n.name) (map (λ a. a.name) as_) ≡ map (λ a. a.name.name) as_
names_of [] = refl
names_of (a ∷ as_) = ap (λ (ns : List (List ℕ)). a.name.name ∷ ns) (names_of as_)

-- rule 5 finds nothing
pub names_apart : (items : List ItemTree) (scopes : List Scope) → IsLeastOf (IsTwice items (AnyAt (λ s. IsInsideAgain (graph_at s)) scopes)) None → All (λ s. AreNamesApart s.elements.now) scopes
names_apart items scopes none k d less =
    let s = get_or scopes k d in
    subst AllDiffer (names_of (activities_in s.elements.now))
    (names_differ (map (λ (a : ActivityTree). a.name) (activities_in s.elements.now)) (λ p h. none p (inr (contained (λ (t : Scope). IsInsideAgain (graph_at t)) scopes s p (Contains-get_or scopes k d less) (inl h)))))

peopled : (as_ : List ActivityTree) → (as_ ≡ [] → ⊥) → 0 < length as_
peopled [] none = absurd (none refl)
peopled (a ∷ as_) none = omega arith

-- rules 10 to 12 find nothing
pub connected : (scopes : List Scope) → IsLeastOf (AnyAt (λ s. IsDouble (graph_at s)) scopes) None → All (λ s. IsAcyclic (edges_in s.elements.now)) scopes → IsLeastOf (AnyAt (λ s. IsEmptyGraph (graph_at s)) scopes) None
    → All (λ s. IsConnected s.elements.now) scopes
connected scopes single acyclic full k d less =
    let s = get_or scopes k d in
    let here = Contains-get_or scopes k d less in
    record {
      simple = edges_differ s.elements.now (controls_in s.elements.now) (λ p h. single p (contained (λ (t : Scope). IsDouble (graph_at t)) scopes s p here h));
      acyclic = acyclic k d less;
      peopled = peopled (activities_in s.elements.now) (λ none. full s.place (contained (λ (t : Scope). IsEmptyGraph (graph_at t)) scopes s s.place here (none, refl)));
    }

-- ---- rules 4 to 6, by what their searches find in the graphs that are listed

module _ (items : List ItemTree) (scopes : List Scope) (graphs : AreGraphsOf items (graphs_in scopes)) where
  pub ends_found : (found : Option ℕ) → IsLeastOf (IsEndWrong items (AnyAt (λ s. AreActivityEnds (graph_at s)) scopes)) found → IsLeastOf (IsEndWrong items (InGraphs items AreActivityEnds)) found
  ends_found found h = in_both items scopes graphs (AnyAt IsItemEnd items) AreActivityEnds found h

  pub twice_found : (found : Option ℕ) → IsLeastOf (IsTwice items (AnyAt (λ s. IsInsideAgain (graph_at s)) scopes)) found → IsLeastOf (IsTwice items (InGraphs items IsInsideAgain)) found
  twice_found found h = in_both items scopes graphs (λ p. IsItemAgain items p ⊎ AnyAt IsPartAgain items p) IsInsideAgain found h

  pub unknown_found : (structures : List StructDef) (found : Option ℕ) → structures ≡ structures_in items → IsLeastOf (NamesNoStructure structures (AnyAt (λ s. AreNoContainersIn structures (graph_at s)) scopes)) found
      → IsLeastOf (NamesNoStructure (structures_in items) (InGraphs items (AreNoContainersIn (structures_in items)))) found
  unknown_found structures found same h =
      in_both items scopes graphs (AnyAt (AreNoKinds (structures_in items)) (structures_in items)) (AreNoContainersIn (structures_in items)) found
      (subst (λ (ss : List StructDef). IsLeastOf (NamesNoStructure ss (AnyAt (λ s. AreNoContainersIn ss (graph_at s)) scopes)) found) same h)

-- ---- rules 23 and 24

module _ (items : List ItemTree) (scopes : List Scope) (graphs : AreGraphsOf items (graphs_in scopes)) where
  pub numbers_found : (structures : List StructDef) (a b found : Option ℕ) → structures ≡ structures_in items → IsLeastOf (IsCountOutside structures) a → IsLeastOf (AnyAt (λ s. IsNumberWrong (graph_at s)) scopes) b → found ≡ lesser_of a b
      → IsLeastOf (λ p. IsCountOutside (structures_in items) p ⊎ InGraphs items IsNumberWrong p) found
  numbers_found structures a b found same outside wrong is =
      let counts = IsCountOutside (structures_in items) in
      let numbers = AnyAt (λ (s : Scope). IsNumberWrong (graph_at s)) scopes in
      in_both items scopes graphs counts IsNumberWrong found
      (least_is (λ p. counts p ⊎ numbers p) (lesser_of a b) found is (least_either counts numbers a b (subst (λ (ss : List StructDef). IsLeastOf (IsCountOutside ss) a) same outside) wrong))

  pub extra_found : (found : Option ℕ) → IsLeastOf (IsTooMuchOf (processes_in items) (AnyAt (λ s. IsTooMuch (graph_at s)) scopes)) found → IsLeastOf (IsTooMuchOf (processes_in items) (InGraphs items IsTooMuch)) found
  extra_found found h = in_both items scopes graphs (IsExtra (λ q. q.place) 256 (processes_in items)) IsTooMuch found h

-- ---- what is found, and what is not

pub is_none : {X : Type 0} (o : Option X) → ((x : X) → o ≡ Some x → ⊥) → o ≡ None
is_none None not_some = refl
is_none (Some x) not_some = absurd (not_some x refl)

pub none_found : (A : ℕ → Type 0) (o : Option ℕ) → ((x : ℕ) → o ≡ Some x → ⊥) → IsLeastOf A o → IsLeastOf A None
none_found A o not_some h = subst (IsLeastOf A) (is_none o not_some) h

pub some_found : (A : ℕ → Type 0) (o : Option ℕ) (x : ℕ) → o ≡ Some x → IsLeastOf A o → IsLeastOf A (Some x)
some_found A o x some h = subst (IsLeastOf A) some h

pub none_is : (A : ℕ → Type 0) (o : Option ℕ) → o ≡ None → IsLeastOf A o → IsLeastOf A None
none_is A o none h = subst (IsLeastOf A) none h
