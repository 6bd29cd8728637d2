-- A row that is shown of a root is that of an activity of a scope that starts.
use Rattle.std.proofs.Common.{◌≡◌, ℕ, zero, suc, ◌+◌, ◌<◌, ◌≤◌, ◌==◌, ◌&&◌, Bool, true, false, if◌then◌else◌, List, [], ◌∷◌, length, Option, Some, None, refl, sym, ap, ◌∙◌, arith, inl, inr}
use Rattle.std.specs.Prelude.{option_map, option_and_then, slice_get, slice_index_or}
use Rattle.std.specs.List.{Contains, flat_map}
use Rattle.std.proofs.lemmas.Bool.{cond-false, cond-true}
use Rattle.std.proofs.lemmas.List.Elements.{Contains-append_cases, Contains-append_right}
use Rattle.flow_model.specs.declared.graphs.Activity.{Activity}
use Rattle.flow_model.specs.declared.graphs.Container.{Container}
use Rattle.flow_model.specs.declared.graphs.Graph.{Graph, out-Graph}
use Rattle.flow_model.specs.declared.instances.FateRow.{FateRow}
use Rattle.flow_model.specs.declared.instances.Part.{Part}
use Rattle.flow_model.specs.declared.instances.Path.{Path}
use Rattle.flow_model.specs.Conditions.{holds}
use Rattle.flow_model.specs.Fates.{is_open}
use Rattle.flow_model.specs.Rows.{below, rows, rows_below, rows_of}
use Rattle.flow_model.specs.ScopeContainers.{graph_in, up_to}
use Rattle.flow_model.specs.Scopes.{Gives, Known, Start, Trial, at, is_fed, output, part, started_at, starts, then_start, tree_ends}
use Rattle.fate_laws.specs.WellFormed.{Well}
use Rattle.certificates.specs.Told.{Basis, Placed}
use Rattle.certificate_laws.specs.Right.{root_in}
use Rattle.certificate_laws.specs.Standings.{Standing, after, attempt_input, base_in, ends_in, fate_in, gives_in, input_in, scope_in, step_by, step_down, step_to, trial_in}
use Rattle.certificate_laws.proofs.Chains.{first_attempt}
use Rattle.certificate_laws.proofs.Steps.{one_down}
use Rattle.explanation_laws.specs.Certified.{AreReadScopes}
use Rattle.explanation_laws.proofs.Names.{other_number, placed_here}

-- ---- lists

none_contains : {X : Type 0} (x : X) → Contains [] x → ⊥
none_contains x h = let less = h.1 in omega (arith, less)

one_contains : {X : Type 0} (x y : X) → Contains (x ∷ []) y → x ≡ y
one_contains x y h = go h.0 h.1 h.2
  where
    go : (k : ℕ) → k < length (x ∷ []) → slice_index_or (x ∷ []) k y ≡ y → x ≡ y
    go zero less is = is
    go (suc k) less is = absurd (omega (arith, less))

-- what a list of lists contains, is in one of them
flat_contains : {X Y : Type 0} (f : X → List Y) (xs : List X) (y : Y) → Contains (flat_map f xs) y → (x : X) × Contains xs x × Contains (f x) y
flat_contains f [] y h = absurd (none_contains y h)
flat_contains f (x ∷ xs) y h = elim (Contains-append_cases (f x) (flat_map f xs) y h) [
  | inl here ↦ (x, (0, omega arith, refl), here)
  | inr later ↦
      let found = flat_contains f xs y later in
      (found.0, Contains-append_right (x ∷ []) xs found.0 found.1, found.2)
]

-- ---- attempts that start

starts_input : (n : ℕ) (gives : Gives) (t : Trial) (j : ℕ) (i : Container) (s : Start) → Contains (starts n gives t j i) s
    → (j ≤ s.attempt) × (attempt_input n gives t j i s.attempt ≡ Some s.input)
starts_input zero gives t j i s h = absurd (none_contains s h)
starts_input (suc n) gives t j i s h =
    elim (Contains-append_cases (first ∷ []) (then_start t (gives j i) (λ out. starts n gives t (j + 1) (t.loops out))) s h) [
      | inl one ↦ here (one_contains first s one)
      | inr more ↦ behind (gives j i) refl more (λ o later. starts_input n gives t (j + 1) (t.loops o) s later)
    ]
  where
    first : Start
    first = record { attempt = j; input = i }

    Goal : Type 0
    Goal = (j ≤ s.attempt) × (attempt_input (suc n) gives t j i s.attempt ≡ Some s.input)

    here : first ≡ s → Goal
    here same =
        let attempts : j ≡ s.attempt = ap (λ (u : Start). u.attempt) same in
        (omega (arith, attempts), first_attempt n gives t j s.attempt i attempts ∙ ap (λ (u : Start). Some u.input) same)

    Rest : Type 0
    Rest = (o : Container) → Contains (starts n gives t (j + 1) (t.loops o)) s → (j + 1 ≤ s.attempt) × (attempt_input n gives t (j + 1) (t.loops o) s.attempt ≡ Some s.input)

    behind : (r : Option Container) → gives j i ≡ r → Contains (then_start t r (λ out. starts n gives t (j + 1) (t.loops out))) s → Rest → Goal
    behind None gave more rest = absurd (none_contains s more)
    behind (Some o) gave more rest = on_exit (holds t.exit o) refl more
      where
        on_exit : (c : Bool) → holds t.exit o ≡ c → Contains (if c then [] else starts n gives t (j + 1) (t.loops o)) s → Goal
        on_exit true closes later = absurd (none_contains s later)
        on_exit false goes later =
            let found = rest o later in
            let beyond = found.0 in (
              omega (arith, beyond),
              cond-false (j == s.attempt) (Some i) _ (other_number j s.attempt (λ e. omega (arith, e, beyond)))
                  ∙ ap (option_and_then (after t (λ (k : Container). attempt_input n gives t (j + 1) k s.attempt))) gave
                  ∙ cond-false (holds t.exit o) None (attempt_input n gives t (j + 1) (t.loops o) s.attempt) goes
                  ∙ found.1,
            )

-- ---- rows

module _ (b : Basis) (g : Graph) (total most : ℕ) (named : AreReadScopes b g total most) (r : FateRow) where
  -- the row is that of an activity of a scope that starts
  pub record HasPlace : Type 0 where
    pub scope : Standing
    pub there : scope_in b.templates (root_in b g total most) r.scope.parts ≡ Some scope
    pub place : ℕ
    pub activity : Activity
    pub is : slice_get (out-Graph scope.graph).activities place ≡ Some activity
    pub name : r.name ≡ activity.name
    pub fate : r.fate ≡ fate_in b.templates scope place

  -- the rows of one scope, where that is so of those below it
  module _ (st : Standing) (s : Path) (there : scope_in b.templates (root_in b g total most) s.parts ≡ Some st) (rows_in : Known → Graph → Container → Path → List FateRow)
      (inside : (a : ℕ) (x : Activity) → slice_get (out-Graph st.graph).activities a ≡ Some x → (h : Graph) → graph_in b.templates x.work ≡ Some h
      → (start : Start) → Contains (started_at b.templates st.known (output b.templates st.depth) st.graph st.input (ends_in b.templates st) a x) start
      → Contains (rows_in (at (part x.name start.attempt) st.known) h start.input (below s (part x.name start.attempt))) r → HasPlace) where
    own_place : (a : ℕ) (x : Activity) → slice_get (out-Graph st.graph).activities a ≡ Some x → record { scope = s; name = x.name; fate = fate_in b.templates st a } ≡ r → HasPlace
    own_place a x is same = record {
      scope = st;
      there = ap (λ (u : FateRow). scope_in b.templates (root_in b g total most) u.scope.parts) (sym same) ∙ there;
      place = a;
      activity = x;
      is = is;
      name = ap (λ (u : FateRow). u.name) (sym same);
      fate = ap (λ (u : FateRow). u.fate) (sym same);
    }

    inner_place : (a : ℕ) (x : Activity) → slice_get (out-Graph st.graph).activities a ≡ Some x → (o : Option Graph) → graph_in b.templates x.work ≡ o
        → Contains (rows_below rows_in st.known x o (started_at b.templates st.known (output b.templates st.depth) st.graph st.input (ends_in b.templates st) a x) s) r → HasPlace
    inner_place a x is None runs h = absurd (none_contains r h)
    inner_place a x is (Some k) runs h =
        let found = flat_contains (λ (start : Start). rows_in (at (part x.name start.attempt) st.known) k start.input (below s (part x.name start.attempt)))
        (started_at b.templates st.known (output b.templates st.depth) st.graph st.input (ends_in b.templates st) a x) r h in
        inside a x is k runs found.0 found.1 found.2

    place_of : (a : ℕ) (o : Option Activity) → slice_get (out-Graph st.graph).activities a ≡ o → Contains (rows_of b.templates st.depth rows_in st.known st.graph st.input s a o) r → HasPlace
    place_of a None is h = absurd (none_contains r h)
    place_of a (Some x) is h =
        elim (Contains-append_cases (record { scope = s; name = x.name; fate = fate_in b.templates st a } ∷ [])
        (rows_below rows_in st.known x (graph_in b.templates x.work) (started_at b.templates st.known (output b.templates st.depth) st.graph st.input (ends_in b.templates st) a x) s) r h) [
          | inl own ↦ own_place a x is (one_contains _ r own)
          | inr inner ↦ inner_place a x is (graph_in b.templates x.work) refl inner
        ]

    scope_place : Contains (flat_map (λ a. rows_of b.templates st.depth rows_in st.known st.graph st.input s a (slice_get (out-Graph st.graph).activities a)) (up_to (length (out-Graph st.graph).activities) 0)) r → HasPlace
    scope_place h =
        let found = flat_contains (λ (a : ℕ). rows_of b.templates st.depth rows_in st.known st.graph st.input s a (slice_get (out-Graph st.graph).activities a)) (up_to (length (out-Graph st.graph).activities) 0) r h in
        place_of found.0 (slice_get (out-Graph st.graph).activities found.0) refl found.2

  -- an attempt that starts is a scope one step down
  module _ (d : ℕ) (k : Known) (h : Graph) (i : Container) (s : Path) (well : Well b.templates (suc d) h)
      (there : scope_in b.templates (root_in b g total most) s.parts ≡ Some (record { depth = suc d; known = k; graph = h; input = i }))
      (a : ℕ) (x : Activity) (is : slice_get (out-Graph h).activities a ≡ Some x) (inner : Graph) (runs : graph_in b.templates x.work ≡ Some inner) (start : Start)
      (started : Contains (started_at b.templates k (output b.templates (suc d)) h i (tree_ends b.templates (suc d) k h i) a x) start) where
    abbrev st : Standing
    st = record { depth = suc d; known = k; graph = h; input = i }

    abbrev placed_x : Placed
    placed_x = record { place = a; activity = x }

    abbrev q : Part
    q = part x.name start.attempt

    abbrev active : Bool
    active = is_open (fate_in b.templates st a) && is_fed (out-Graph h).lines a (ends_in b.templates st)

    input_there : input_in b.templates st placed_x start.attempt ≡ Some start.input
    input_there = by_active active refl started
      where
        by_active : (c : Bool) → active ≡ c
            → Contains (if c then starts (suc k.most) (gives_in b.templates st placed_x) (trial_in b.templates st placed_x) 1 (base_in b.templates st placed_x) else []) start
            → input_in b.templates st placed_x start.attempt ≡ Some start.input
        by_active false off h_ = absurd (none_contains start h_)
        by_active true on h_ =
            cond-true active (attempt_input (suc k.most) (gives_in b.templates st placed_x) (trial_in b.templates st placed_x) 1 (base_in b.templates st placed_x) start.attempt) None on
            ∙ (starts_input (suc k.most) (gives_in b.templates st placed_x) (trial_in b.templates st placed_x) 1 (base_in b.templates st placed_x) start h_).1

    step_there : scope_in b.templates (root_in b g total most) (below s q).parts ≡ Some (record { depth = d; known = at q k; graph = inner; input = start.input })
    step_there =
        one_down b.templates (root_in b g total most) s.parts q
        ∙ ap (option_and_then (step_down b.templates q)) there
        ∙ ap (option_and_then (step_by b.templates d q st)) (placed_here b.templates (suc d) h well (named s.parts st there) a x is)
        ∙ ap (option_and_then (step_to b.templates d q st placed_x)) runs
        ∙ ap (option_map (λ (j : Container). let u : Standing = record { depth = d; known = at q k; graph = inner; input = j } in u)) input_there

  pub rows_place : (d : ℕ) (k : Known) (h : Graph) (i : Container) (s : Path) → Well b.templates d h
      → scope_in b.templates (root_in b g total most) s.parts ≡ Some (record { depth = d; known = k; graph = h; input = i }) → Contains (rows b.templates d k h i s) r → HasPlace
  rows_place zero k h i s well there shown =
      scope_place (record { depth = zero; known = k; graph = h; input = i }) s there (λ k' h' j p. []) (λ a x is inner runs start started below_. absurd (none_contains r below_)) shown
  rows_place (suc d) k h i s well there shown =
      scope_place (record { depth = suc d; known = k; graph = h; input = i }) s there (rows b.templates d)
      (λ a x is inner runs start started below_.
      rows_place d (at (part x.name start.attempt) k) inner start.input (below s (part x.name start.attempt)) (well.inside a x is inner runs)
      (step_there d k h i s well there a x is inner runs start started) below_) shown
