-- A state within its bounds stands in range: its items, the messages at the fronts of its queues, its newest templates.
use Rattle.std.proofs.Common.{◌≡◌, ℕ, zero, suc, ◌^◌, ◌<◌, ◌≤◌, ◌&&◌, nat_le, Bool, true, false, List, [], ◌∷◌, length, Option, Some, None}
use Rattle.std.proofs.Common.{option_and_then, refl, ap, ◌∙◌, arith}
use Rattle.std.specs.Prelude.{slice_get, if◌then◌else◌}
use Rattle.std.proofs.lemmas.Option.{none-some}
use Rattle.activity_states.specs.States.{State as ItemState, waiting, dead, opened, finished, fate_of, next_take}
use Rattle.flow_model.specs.ScopeContainers.{graph_of}
use Rattle.flow_model.specs.declared.graphs.Activity.{Activity}
use Rattle.flow_model.specs.declared.graphs.Graph.{Graph, out-Graph}
use Rattle.flow_model.specs.declared.graphs.Program.{Program as ProgramOf}
use Rattle.flow_model.specs.declared.graphs.Template.{Template}
use Rattle.flow_model.specs.declared.instances.Part.{Part}
use Rattle.flow_model.specs.declared.instances.Path.{Path}
use Rattle.flow_model.specs.declared.names.Name.{Name}
use Rattle.machine.specs.Items.{Entry, attempts_in, entry_of, entry_in, entry_at, stand_by, program_in, entry_with, program_entry}
use Rattle.machine.specs.Moves.{graph_under}
use Rattle.machine.specs.Rows.{Row, Standing, Item, Inner, Scopes, inside, place_of, attempt_place}
use Rattle.machine.specs.States.{Root, State, templates, item_in, item_of}
use Rattle.machine.specs.Verdicts.{newest_of}
use Rattle.process_rules.specs.Imports.{newest_place}
use Rattle.reopening_laws.specs.Ranges.{ItemIsInRange, TemplateIsInRange, StandsInRange}
use Rattle.range_laws.specs.Bounds.{IsInBounds, IsBounded}
use Rattle.range_laws.specs.Standing.{StaysInBounds}
use Rattle.range_laws.proofs.Queues.{all_at, front_fits}
use Rattle.range_laws.proofs.Scenes.{some_is}
use Rattle.range_laws.proofs.Steps.{graph_bounded}
use Rattle.range_laws.proofs.Walks.{runs_graph}

-- ---- the activity of an item stands in its graph

module _ (g : Graph) (e : Entry) where
  -- at a place
  abbrev StandsThere : Type 0
  StandsThere = (a : ℕ) × (slice_get (out-Graph g).activities a ≡ Some e.activity)

  by_attempt : (b : Bool) (r : Row) (j a : ℕ) (activity : Activity) (p : ItemState)
      → slice_get (out-Graph g).activities a ≡ Some activity
      → (if b then Some (record { graph = g; row = r; number = a; activity = activity; state = p; attempt = j })
      else None) ≡ Some e → StandsThere
  by_attempt false r j a activity p at none = absurd (none-some e none)
  by_attempt true r j a activity p at is = (a, at ∙ ap (λ (x : Entry). Some x.activity) (some_is _ e is))

  by_standing : (r : Row) (j a : ℕ) (o : Option Activity) (state : Option Standing)
      → slice_get (out-Graph g).activities a ≡ o → entry_of g r j a o state ≡ Some e → StandsThere
  by_standing r j a None state at none = absurd (none-some e none)
  by_standing r j a (Some activity) None at none = absurd (none-some e none)
  by_standing r j a (Some activity) (Some (Inner stage n)) at none = absurd (none-some e none)
  by_standing r j a (Some activity) (Some (Item p)) at is =
      by_attempt (nat_le 1 j && nat_le j (attempts_in (fate_of p))) r j a activity p at is

  by_place : (r : Row) (j : ℕ) (o : Option ℕ)
      → option_and_then (λ a. entry_of g r j a (slice_get (out-Graph g).activities a) (slice_get r.standings a)) o
      ≡ Some e → StandsThere
  by_place r j None none = absurd (none-some e none)
  by_place r j (Some a) is =
      by_standing r j a (slice_get (out-Graph g).activities a) (slice_get r.standings a) refl is

  by_begun : (b : Bool) (x : Option Entry) → (x ≡ Some e → StandsThere) → (if b then x else None) ≡ Some e
      → StandsThere
  by_begun false x goes none = absurd (none-some e none)
  by_begun true x goes is = goes is

  entry_there : (q : Part) (o : Option Row) → entry_in g q o ≡ Some e → StandsThere
  entry_there q None none = absurd (none-some e none)
  entry_there q (Some r) is =
      by_begun r.begun
      (option_and_then (λ a. entry_of g r q.attempt a (slice_get (out-Graph g).activities a)
      (slice_get r.standings a)) (place_of g q.name)) (by_place r q.attempt (place_of g q.name)) is

-- ---- an item is as deep as its graph nests at most, and its output is small

module _ (ts : List Template) (e : Entry) where
  record EntryFits (parts : List Part) (levels : ℕ) : Type 0 where
    pub deep : length parts ≤ levels
    pub small : length e.activity.output.leaves < 2 ^ 16

  -- further in
  module _ (r : Part) (qs : List Part) (levels : ℕ)
      (below : (h : Graph) (u : Scopes) → IsInBounds ts levels h
      → entry_at ts (r ∷ qs) (record { graph = h; scopes = u }) ≡ Some e → EntryFits (r ∷ qs) levels) where
    by_number : (u : Scopes) (a : ℕ) (h : Graph) (i : Option ℕ) → IsInBounds ts levels h
        → option_and_then (entry_at ts (r ∷ qs)) (stand_by u a (Some h) i) ≡ Some e → EntryFits (r ∷ qs) levels
    by_number u a h None here none = absurd (none-some e none)
    by_number u a h (Some i) here is = below h (inside a i u) here is

    by_graph : (u : Scopes) (a : ℕ) (o : Option Graph) (i : Option ℕ)
        → ((h : Graph) → o ≡ Some h → IsInBounds ts levels h)
        → option_and_then (entry_at ts (r ∷ qs)) (stand_by u a o i) ≡ Some e → EntryFits (r ∷ qs) levels
    by_graph u a None i here none = absurd (none-some e none)
    by_graph u a (Some h) i here is = by_number u a h i (here h refl) is

    under : (g : Graph) (a : ℕ) → IsInBounds ts (suc levels) g → (o : Option Activity)
        → slice_get (out-Graph g).activities a ≡ o → (h : Graph) → graph_under ts o ≡ Some h → IsInBounds ts levels h
    under g a here None at h none = absurd (none-some h none)
    under g a here (Some activity) at h there =
        runs_graph ts (IsInBounds ts levels) activity.work h (here.each a activity at).inside there

    by_part : (g : Graph) (u : Scopes) (j : ℕ) → IsInBounds ts (suc levels) g → (o : Option ℕ)
        → option_and_then (entry_at ts (r ∷ qs)) (option_and_then
        (λ a. stand_by u a (graph_under ts (slice_get (out-Graph g).activities a)) (attempt_place j)) o) ≡ Some e
        → EntryFits (r ∷ qs) levels
    by_part g u j here None none = absurd (none-some e none)
    by_part g u j here (Some a) is =
        by_graph u a (graph_under ts (slice_get (out-Graph g).activities a)) (attempt_place j)
        (under g a here (slice_get (out-Graph g).activities a) refl) is

  entry_fits : (q : Part) (qs : List Part) (levels : ℕ) (g : Graph) (u : Scopes) → IsInBounds ts levels g
      → entry_at ts (q ∷ qs) (record { graph = g; scopes = u }) ≡ Some e → EntryFits (q ∷ qs) levels
  entry_fits q qs zero g u here is = absurd here
  entry_fits q [] (suc levels) g u here is =
      let there = entry_there g e q (u []) is in
      record { deep = omega arith; small = (here.each there.0 e.activity there.1).small }
  entry_fits q (r ∷ qs) (suc levels) g u here is =
      let more = by_part r qs levels (λ h v inner at. entry_fits r qs levels h v inner at) g u q.attempt here
      (place_of g q.name) is in
      let deep = more.deep in
      record { deep = omega (arith, deep); small = more.small }

  pub entry_bounded : (parts : List Part) (levels : ℕ) (g : Graph) (u : Scopes) → IsInBounds ts levels g
      → entry_at ts parts (record { graph = g; scopes = u }) ≡ Some e
      → (length parts ≤ levels) × (length e.activity.output.leaves < 2 ^ 16)
  entry_bounded [] levels g u here none = absurd (none-some e none)
  entry_bounded (q ∷ qs) levels g u here is = let fits = entry_fits q qs levels g u here is in (fits.deep, fits.small)

-- ---- takes

take_small : (p : ItemState) → next_take p < 2 ^ 64
take_small waiting = omega arith
take_small dead = omega arith
take_small (opened cs hold takes since) = omega arith
take_small (finished cs) = omega arith

-- ---- in a state

module _ (s : State) (ok : StaysInBounds s) where
  module _ (path : Path) (e : Entry) where
    in_graph : (r : Root) (o : Option Graph) → graph_of (templates s) r.template ≡ o
        → option_and_then (λ g. entry_at (templates s) path.parts (record { graph = g; scopes = r.scopes })) o ≡ Some e
        → ItemIsInRange path e
    in_graph r None there none = absurd (none-some e none)
    in_graph r (Some g) there is =
        let has = graph_bounded (templates s) (templates s) r.template g ok.bounded there in
        let both = entry_bounded (templates s) e path.parts has.levels g r.scopes has.bounded is in
        let deep = both.0 in
        let few = has.few in
        record { shallow = omega (arith, deep, few); small = both.1; takes = take_small e.state }

    in_root : (o : Option Root) → option_and_then (item_in (templates s) (templates s) path) o ≡ Some e
        → ItemIsInRange path e
    in_root None none = absurd (none-some e none)
    in_root (Some r) is = in_graph r (graph_of (templates s) r.template) refl is

    with_program : (f : Entry) (o : Option ProgramOf) → entry_with f o ≡ Some e → Some f ≡ Some e
    with_program f None none = absurd (none-some e none)
    with_program f (Some p) is = is

    that_entry : (o : Option Entry) → program_entry o ≡ Some e → o ≡ Some e
    that_entry None none = absurd (none-some e none)
    that_entry (Some f) is = with_program f (program_in f.activity.work) is

    item_bounded : item_of s path ≡ Some e → ItemIsInRange path e
    item_bounded is =
        in_root (s.roots path.root)
        (that_entry (option_and_then (item_in (templates s) (templates s) path) (s.roots path.root)) is)

  newest_bounded : (process : Name) (t : Template) → newest_of s process ≡ Some t → TemplateIsInRange t
  newest_bounded process t is = go (newest_place s.library process) is
    where
      go : (o : Option ℕ) → option_and_then (λ place. slice_get (templates s) place) o ≡ Some t → TemplateIsInRange t
      go None none = absurd (none-some t none)
      go (Some place) at = (all_at (IsBounded (templates s)) (templates s) place t ok.bounded at).fits

  pub stands_in_range : StandsInRange s
  stands_in_range =
      let limit = ok.limit in
      let few = ok.queues in
      record {
        limit = omega (arith, limit);
        queues = omega (arith, few);
        fronts = λ queue m is. front_fits s.queues queue m ok.fit is;
        items = λ path e is. item_bounded path e is;
        newest = λ process t is. newest_bounded process t is;
      }
