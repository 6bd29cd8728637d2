-- Which names are those of manual activities that lead to another one.
use Rattle.std.proofs.Common.{◌≡◌, ℕ, zero, suc, ◌<◌, Bool, true, false, List, [], ◌∷◌, length, map, Option, Some, None, Bor, refl, sym, subst, ◌∙◌, ⊎_elim}
use Rattle.std.specs.Prelude.{◌||◌, slice_get}
use Rattle.std.specs.Bool.{Decides}
use Rattle.std.specs.List.{list_any}
use Rattle.std.proofs.lemmas.Bool.{or_left, or_right, both_ways}
use Rattle.flow_model.specs.declared.trees.ActivityTree.{ActivityTree}
use Rattle.flow_model.specs.declared.trees.AttrAt.{AttrAt}
use Rattle.flow_model.specs.declared.trees.AttrTree.{AttrTree}
use Rattle.flow_model.specs.declared.trees.AttrTree.TheVariants as attr
use Rattle.flow_model.specs.declared.trees.ElementTree.{ElementTree}
use Rattle.connector_rules.specs.Walking.{IsWalkTold}
use Rattle.graph_check.specs.Walks.{Reaches}
use Rattle.text_graphs.specs.Attributes.{is_start_manual}
use Rattle.text_graphs.specs.Places.{AnyAt}
use Rattle.text_graphs.specs.Texts.{activities_in, activity_named, edges_in, number_in}
use Rattle.text_graphs.proofs.Naming.{first_below}
use Rattle.process_rules.specs.Doers.{Leads, IsManual, IsNoPerformer, is_performer}
use Rattle.process_rules.specs.Numbering.{NumberedAt}

some_same : {X : Type 0} (a b : X) → Some a ≡ Some b → a ≡ b
some_same a b e = cc

pub decides_leads : (elements : List ElementTree) (name : List ℕ) (number to : ℕ) (b : Bool) → Some number ≡ number_in elements name → to < length (activities_in elements)
    → IsWalkTold elements number to b → Decides b (Leads elements name to)
decides_leads elements name number to b is within told = (
  λ yes. (number, sym is, (told below within).0 yes),
  λ leads.
      let same : leads.0 ≡ number = some_same leads.0 number (sym leads.1 ∙ sym is) in
      (told below within).1 (subst (λ (n : ℕ). Reaches (edges_in elements) n to) same leads.2),
)
  where
    below : number < length (activities_in elements)
    below = first_below _ (activities_in elements) number (sym is)

pub decides_manual : (elements : List ElementTree) (name : List ℕ) (a : ActivityTree) (b : Bool) → Some a ≡ activity_named elements name → b ≡ list_any (λ x. is_start_manual x.what) a.attrs → Decides b (IsManual elements name)
decides_manual elements name a b is tells = (
  λ yes. (a, sym is, sym tells ∙ yes),
  λ manual.
      let same : manual.0 ≡ a = some_same manual.0 a (sym manual.1 ∙ sym is) in
      tells ∙ subst (λ (x : ActivityTree). list_any (λ y. is_start_manual y.what) x.attrs ≡ true) same manual.2,
)

-- where PERFORMER OF isn't said, no name is wrong
none_wrong : (elements : List ElementTree) (to : ℕ) (what : AttrTree) (p : ℕ) → IsNoPerformer elements to what p → is_performer what ≡ true
none_wrong elements to (attr.When j) p h = absurd h
none_wrong elements to (attr.Exit c) p h = absurd h
none_wrong elements to (attr.Start manual) p h = absurd h
none_wrong elements to (attr.Expires number) p h = absurd h
none_wrong elements to (attr.Role name) p h = absurd h
none_wrong elements to (attr.Person name) p h = absurd h
none_wrong elements to attr.Starter p h = absurd h
none_wrong elements to (attr.Performer name) p h = refl

some_said : (elements : List ElementTree) (to : ℕ) (attrs : List AttrAt) (p : ℕ) → AnyAt (λ x. IsNoPerformer elements to x.what) attrs p → list_any (λ x. is_performer x.what) attrs ≡ true
some_said elements to [] p h = absurd h
some_said elements to (a ∷ attrs) p h =
    ⊎_elim
    (λ here. or_left (is_performer a.what) (list_any (λ x. is_performer x.what) attrs) (none_wrong elements to a.what p here))
    (λ there. or_right (is_performer a.what) (list_any (λ x. is_performer x.what) attrs) (some_said elements to attrs p there))
    h

none_said : (elements : List ElementTree) (to : ℕ) (attrs : List AttrAt) → list_any (λ x. is_performer x.what) attrs ≡ false → (p : ℕ) → AnyAt (λ x. IsNoPerformer elements to x.what) attrs p → ⊥
none_said elements to attrs none p h = both_ways (list_any (λ x. is_performer x.what) attrs) none (some_said elements to attrs p h)

-- nor in a graph where no activity says it
pub none_asked : (elements : List ElementTree) (items : List (Bor ActivityTree)) → list_any (λ a. list_any (λ x. is_performer x.what) a.now.attrs) items ≡ false → (p : ℕ)
    → NumberedAt (λ number a. AnyAt (λ x. IsNoPerformer elements number x.what) a.attrs) (map (λ a. a.now) items) p → ⊥
none_asked elements items none p h = none_said elements h.0 h.1.attrs (unsaid items h.0 h.1 none h.2) p h.3
  where
    neither : (a b : Bool) → (a || b) ≡ false → (a ≡ false) × (b ≡ false)
    neither true b e = cc
    neither false b e = (refl, e)

    unsaid : (items : List (Bor ActivityTree)) (n : ℕ) (a : ActivityTree) → list_any (λ x. list_any (λ y. is_performer y.what) x.now.attrs) items ≡ false → slice_get (map (λ x. x.now) items) n ≡ Some a
        → list_any (λ y. is_performer y.what) a.attrs ≡ false
    unsaid [] n a none is = let e : ◌≡◌ {A = Option ActivityTree} None (Some a) = is in cc
    unsaid (x ∷ items) zero a none is = subst (λ (z : ActivityTree). list_any (λ y. is_performer y.what) z.attrs ≡ false) (some_same x.now a is) (neither _ _ none).0
    unsaid (x ∷ items) (suc n) a none is = unsaid items n a (neither _ _ none).1 is
