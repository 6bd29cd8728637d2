-- What a complete scope gives, came from an accepted output of its own.
use Rattle.fate_laws.proofs.Attempts.{closed}
use Rattle.fate_laws.proofs.Complete.{settled_at}
use Rattle.fate_laws.proofs.Forward.{forward}
use Rattle.fate_laws.proofs.Rounds.{solved}
use Rattle.fate_laws.proofs.Steps.{closed_of}
use Rattle.fate_laws.specs.Causes.{HasGiven}
use Rattle.fate_laws.specs.WellFormed.{IsWell, Well}
use Rattle.flow_model.specs.Containers.{with_return_code}
use Rattle.flow_model.specs.Fates.{Ends, joined, fate_by, ended, is_settled}
use Rattle.flow_model.specs.ScopeContainers.{graph_of, graph_in, base_of, is_complete}
use Rattle.flow_model.specs.Scopes.{Known, at, Gives, Runs, Trial, tries, part, scope_gives, gives, is_fed, trial, attempts_at, values_at, step, rounds, output, tree_ends}
use Rattle.flow_model.specs.declared.graphs.Activity.{Activity}
use Rattle.flow_model.specs.declared.graphs.Container.{Container}
use Rattle.flow_model.specs.declared.graphs.Control.{Control}
use Rattle.flow_model.specs.declared.graphs.Graph.{Graph, out-Graph}
use Rattle.flow_model.specs.declared.graphs.Join.{Join}
use Rattle.flow_model.specs.declared.graphs.Template.{Template}
use Rattle.flow_model.specs.declared.graphs.Work.{Work, Program, Block, Process}
use Rattle.flow_model.specs.declared.instances.Part.{Part}
use Rattle.flow_model.specs.declared.names.Name.{Name}
use Rattle.std.proofs.Common.{◌≡◌, ℕ, zero, suc, ◌<◌, ◌==◌, Bool, true, false, List, [], ◌∷◌, length, refl, sym, ap, ◌∙◌, Option, Some, None, arith, inl, inr}
use Rattle.std.proofs.lemmas.Bool.Decides.{eqb_tells}
use Rattle.std.specs.List.{filter, All, last_or}
use Rattle.std.specs.Option.{option_map}
use Rattle.std.specs.Prelude.{slice_get, slice_index}
use Rattle.flow_model.specs.declared.graphs.Join.TheVariants as join

none_into : (cs : List Control) (a : ℕ) → All (λ c. c.to ≡ a → ⊥) cs → filter (λ c. c.to == a) cs ≡ []
none_into [] a none = refl
none_into (c ∷ cs) a none = elim (eqb_tells c.to a) [
  | inl is ↦ absurd (none 0 c (omega arith) is.1)
  | inr other ↦ rw other.0 (none_into cs a (λ i d less. none (suc i) d (omega arith)))
]

empty_join : (rule : Join) → joined rule [] ≡ Some true
empty_join join.All = refl
empty_join join.AtLeastOne = refl
empty_join (join.AtLeast n) = refl

first_given : (given : Gives) (t : Trial) (n j : ℕ) (i : Container) → closed t.exit (tries n given t j i) ≡ true → (o : Container) × (given j i ≡ Some o)
first_given given t zero j i h = absurd (no_end h)
  where
    no_end : false ≡ true → ⊥
    no_end h = cc
first_given given t (suc n) j i h = go (given j i) refl
  where
    no_end : false ≡ true → ⊥
    no_end h = cc

    go : (r : Option Container) → given j i ≡ r → (o : Container) × (given j i ≡ Some o)
    go None is = absurd (no_end (rw is at h))
    go (Some o) is = (o, is)

some_given : (f : Container → Container) (r : Option Container) (o : Container) → option_map f r ≡ Some o → (u : Container) × (r ≡ Some u)
some_given f None o h = absurd (no_some h)
  where
    no_some : None ≡ Some o → ⊥
    no_some h = cc
some_given f (Some u) o h = (u, refl)

-- what an attempt gives, came from an item
given_below : (ts : List Template) (k : Known) (runs : Runs) (name : Name) (w : Work) (inner : Graph → Type 0)
    → ((h : Graph) → graph_in ts w ≡ Some h → inner h)
    → ((q : Part) (h : Graph) (i o : Container) → inner h → runs (at q k) h i ≡ Some o → HasGiven (at q k))
    → (j : ℕ) (i o : Container) → gives ts k runs name w j i ≡ Some o → HasGiven k
given_below ts k runs name (Program p) inner ok below j i o h = (part name j, [], o, h)
given_below ts k runs name (Block g) inner ok below j i o h = of_scope (Some g) ok h
  where
    no_some : None ≡ Some o → ⊥
    no_some h = cc

    of_scope : (r : Option Graph) → ((h : Graph) → r ≡ Some h → inner h) → scope_gives k runs r (part name j) i ≡ Some o → HasGiven k
    of_scope None ok h = absurd (no_some h)
    of_scope (Some g') ok h = go (k.closed (part name j ∷ [])) refl
      where
        go : (b : Bool) → k.closed (part name j ∷ []) ≡ b → HasGiven k
        go false is = absurd (no_some (rw is at h))
        go true is =
            let r = some_given with_return_code (runs (at (part name j) k) g' i) o (rw is at h) in
            let s = below (part name j) g' i r.0 (ok g' refl) r.1 in
            (part name j, s.0 ∷ s.1, s.2, s.3)
given_below ts k runs name (Process t) inner ok below j i o h = of_scope (graph_of ts t) ok h
  where
    no_some : None ≡ Some o → ⊥
    no_some h = cc

    of_scope : (r : Option Graph) → ((h : Graph) → r ≡ Some h → inner h) → scope_gives k runs r (part name j) i ≡ Some o → HasGiven k
    of_scope None ok h = absurd (no_some h)
    of_scope (Some g') ok h = go (k.closed (part name j ∷ [])) refl
      where
        go : (b : Bool) → k.closed (part name j ∷ []) ≡ b → HasGiven k
        go false is = absurd (no_some (rw is at h))
        go true is =
            let r = some_given with_return_code (runs (at (part name j) k) g' i) o (rw is at h) in
            let s = below (part name j) g' i r.0 (ok g' refl) r.1 in
            (part name j, s.0 ∷ s.1, s.2, s.3)

module _ (ts : List Template) (k : Known) (runs : Runs) (g : Graph) (i : Container) (inner : Graph → Type 0) (well : IsWell ts g inner)
    (below : (q : Part) (h : Graph) (j o : Container) → inner h → runs (at q k) h j ≡ Some o → HasGiven (at q k)) where
  abbrev ev : Ends
  ev = rounds (step ts k runs g i) (length (out-Graph g).activities)

  of_attempts : (a : ℕ) (activity : Activity) → slice_get (out-Graph g).activities a ≡ Some activity
      → closed activity.exit (attempts_at ts k runs g i ev a (Some activity)) ≡ true → HasGiven k
  of_attempts a activity is done = go (is_fed (out-Graph g).lines a ev) refl
    where
      no_end : false ≡ true → ⊥
      no_end h = cc

      go : (b : Bool) → is_fed (out-Graph g).lines a ev ≡ b → HasGiven k
      go false fed = absurd (no_end (rw fed at done))
      go true fed =
          let r = first_given (gives ts k runs activity.name activity.work) (trial g a activity (base_of g activity a i ev)) k.most 1 (base_of g activity a i ev) (rw fed at done) in
          given_below ts k runs activity.name activity.work inner (well.inside a activity is) below 1 (base_of g activity a i ev) r.0 r.1

  -- an activity with no connector into it
  of_free : (a : ℕ) → filter (λ c. c.to == a) (out-Graph g).controls ≡ [] → is_settled (step ts k runs g i ev a) ≡ true → HasGiven k
  of_free a free settled = go (k.begun []) refl (slice_get (out-Graph g).activities a) refl
    where
      no_end : false ≡ true → ⊥
      no_end h = cc

      go : (b : Bool) → k.begun [] ≡ b → (o : Option Activity) → slice_get (out-Graph g).activities a ≡ o → HasGiven k
      go false no_ o is = absurd (no_end (rw no_ at settled))
      go true yes_ None is = absurd (no_end (rw (yes_, is) at settled))
      go true yes_ (Some activity) is =
          let outs = attempts_at ts k runs g i ev a (Some activity) in
          let open_ : joined activity.join (values_at k (out-Graph g).controls ev a) ≡ Some true = rw free (empty_join activity.join) in
          let s : is_settled (ended (fate_by activity (joined activity.join (values_at k (out-Graph g).controls ev a)) outs) outs) ≡ true = rw (yes_, is) at settled in
          let t : is_settled (ended (fate_by activity (Some true) outs) outs) ≡ true = ap (λ v. is_settled (ended (fate_by activity v outs) outs)) (sym open_) ∙ s in
          of_attempts a activity is (closed_of activity (length outs) outs (last_or None outs) t)

  pub complete_given : is_complete g ev ≡ true → HasGiven k
  complete_given whole =
      let long : length well.order ≡ length (out-Graph g).activities = well.flow.ordered.long in
      let some : 0 < length well.order = omega (arith, well.peopled) in
      let a = slice_index well.order 0 in
      let inside = well.flow.ordered.in_range 0 0 some in
      let settled = settled_at ev (length (out-Graph g).activities) 0 a whole (omega arith) (omega (arith, inside)) in
      let now = solved (step ts k runs g i) well.order (forward ts k runs g i well.order well.flow) (length (out-Graph g).activities) (omega arith) 0 some in
      let free = none_into (out-Graph g).controls a (λ n d less to. let s = well.flow.ordered.forward 0 some n d less to in absurd (not_below s.0 s.1)) in
      of_free a free (ap is_settled (sym now) ∙ settled)
    where
      not_below : (j : ℕ) → j < 0 → ⊥
      not_below j h = omega arith

-- a complete scope has an accepted completion at or below it
pub output_given : (ts : List Template) (depth : ℕ) (k : Known) (g : Graph) (i o : Container) → Well ts depth g → output ts (suc depth) k g i ≡ Some o → HasGiven k
output_given ts zero k g i o well h = go (is_complete g (tree_ends ts zero k g i)) refl
  where
    no_some : None ≡ Some o → ⊥
    no_some h = cc

    nothing : (u : Container) → None ≡ Some u → ⊥
    nothing u h = cc

    go : (b : Bool) → is_complete g (tree_ends ts zero k g i) ≡ b → HasGiven k
    go false is = absurd (no_some (rw is at h))
    go true is = complete_given ts k (output ts zero) g i (λ x. Unit {0}) well (λ q x j u ok gave. absurd (nothing u gave)) is
output_given ts (suc depth) k g i o well h = go (is_complete g (tree_ends ts (suc depth) k g i)) refl (λ q x j u ok gave. output_given ts depth (at q k) x j u ok gave)
  where
    no_some : None ≡ Some o → ⊥
    no_some h = cc

    go : (b : Bool) → is_complete g (tree_ends ts (suc depth) k g i) ≡ b
        → ((q : Part) (x : Graph) (j u : Container) → Well ts depth x → output ts (suc depth) (at q k) x j ≡ Some u → HasGiven (at q k)) → HasGiven k
    go false is below = absurd (no_some (rw is at h))
    go true is below = complete_given ts k (output ts (suc depth)) g i (Well ts depth) well below is
