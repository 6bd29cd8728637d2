-- The item of a path is the machine's.
use Rattle.std.proofs.Common.{◌≡◌, ℕ, Bool, true, false, ◌&&◌, if◌then◌else◌, List, [], ◌∷◌, map, Option, Some, None}
use Rattle.std.proofs.Common.{option_map, option_and_then, refl, sym, ap, ◌∙◌}
use Rattle.std.specs.Prelude.{nat_le, slice_get}
use Rattle.std.proofs.Math.Path.{fun_ext}
use Rattle.activity_states.specs.States.{fate_of}
use Rattle.flow_core.specs.Answers.{instance_of}
use Rattle.flow_core.specs.Driving as d
use Rattle.flow_core.specs.Driving.{templates}
use Rattle.flow_core.specs.declared.state.Core.{Core}
use Rattle.flow_model.specs.ScopeContainers.{graph_in, graph_of}
use Rattle.flow_model.specs.declared.graphs.Activity.{Activity}
use Rattle.flow_model.specs.declared.graphs.Graph.{Graph, out-Graph}
use Rattle.flow_model.specs.declared.graphs.Program.{Program as ProgramOf}
use Rattle.flow_model.specs.declared.graphs.Template.{Template}
use Rattle.flow_model.specs.declared.instances.Part.{Part}
use Rattle.flow_model.specs.declared.instances.Path.{Path}
use Rattle.machine.specs.Items as m
use Rattle.machine.specs.Moves.{graph_under}
use Rattle.machine.specs.Rows.{Standing, Step, Scopes, inside, attempt_place}
use Rattle.machine.specs.States as s
use Rattle.machine_scopes.specs.Seen.{standing_of, row_of, scope_in, inner_at, scopes_of}
use Rattle.machine_scopes.proofs.Lists.{map_read, map_none}
use Rattle.navigator.specs.Items as n
use Rattle.navigator.specs.Reading.{place_of, inner_of, scope_of}
use Rattle.navigator.specs.Steps.{fields}
use Rattle.navigator.specs.declared.instance.Instance.{Instance}
use Rattle.navigator.specs.declared.scopes.ActivityState.{ActivityState, Program, Nested}
use Rattle.navigator.specs.declared.scopes.NestedState.{out-NestedState}
use Rattle.navigator.specs.declared.scopes.ScopeState.{ScopeState, out-ScopeState}
use Rattle.machine_laws.specs.Viewed.{root_of, entry_of, view}

-- ---- in one scope

if_so : (b : Bool) (e : n.Entry) → (if b then Some (entry_of e) else None)
    ≡ option_map entry_of (if b then Some e else None)
if_so true e = refl
if_so false e = refl

entry_state : (g : Graph) (t : ScopeState) (j a : ℕ) (activity : Activity) (state : ActivityState)
    → m.entry_of g (row_of (fields t)) j a (Some activity) (Some (standing_of state))
    ≡ option_map entry_of (n.entry_of_state (n.stand g t) j a activity state)
entry_state g t j a activity (Program p) =
    if_so (nat_le 1 j && nat_le j (n.attempts_in (fate_of p))) (n.entry_of g t a activity p j)
entry_state g t j a activity (Nested k) = refl

entry_here : (g : Graph) (t : ScopeState) (j a : ℕ) (o : Option Activity) (x : Option ActivityState)
    (y : Option Standing) → y ≡ option_map standing_of x
    → m.entry_of g (row_of (fields t)) j a o y ≡ option_map entry_of (n.entry (n.stand g t) j a o x)
entry_here g t j a None x y same = refl
entry_here g t j a (Some activity) None y same = ap (m.entry_of g (row_of (fields t)) j a (Some activity)) same
entry_here g t j a (Some activity) (Some state) y same =
    ap (m.entry_of g (row_of (fields t)) j a (Some activity)) same ∙ entry_state g t j a activity state

standing_at : (states : List ActivityState) (a : ℕ) (o : Option ActivityState) → slice_get states a ≡ o
    → slice_get (map standing_of states) a ≡ option_map standing_of (slice_get states a)
standing_at states a None at = map_none standing_of states a at ∙ sym (ap (option_map standing_of) at)
standing_at states a (Some state) at = map_read standing_of states a state at ∙ sym (ap (option_map standing_of) at)

at_place : (g : Graph) (q : Part) (t : ScopeState) (o : Option ℕ)
    → option_and_then (λ a. m.entry_of g (row_of (fields t)) q.attempt a (slice_get (out-Graph g).activities a)
    (slice_get (map standing_of (fields t).states) a)) o
    ≡ option_map entry_of (option_and_then (λ a. n.entry (n.stand g t) q.attempt a
    (slice_get (out-Graph g).activities a) (slice_get (out-ScopeState t).states.items a)) o)
at_place g q t None = refl
at_place g q t (Some a) =
    entry_here g t q.attempt a (slice_get (out-Graph g).activities a) (slice_get (fields t).states a)
    (slice_get (map standing_of (fields t).states) a)
    (standing_at (fields t).states a (slice_get (fields t).states a) refl)

begun_so : (b : Bool) (x : Option m.Entry) (y : Option n.Entry) → x ≡ option_map entry_of y
    → (if b then x else None) ≡ option_map entry_of (if b then y else None)
begun_so true x y same = same
begun_so false x y same = refl

-- ---- further in

-- the scopes of a scope that is there or not
abbrev seen_stand : n.Stand → m.Stand
seen_stand at = record { graph = at.graph; scopes = scopes_of at.scope }

-- a scope that isn't there has no item
deeper : (ts : List Template) (r : Part) (p : List Part) (u : Scopes)
    → ((k : Graph) (v : Scopes) → ((x : List Step) → v x ≡ None)
    → m.entry_at ts (r ∷ p) (record { graph = k; scopes = v }) ≡ None) → ((x : List Step) → u x ≡ None)
    → (a : ℕ) (o : Option Graph) (i : Option ℕ) → option_and_then (m.entry_at ts (r ∷ p)) (m.stand_by u a o i) ≡ None
deeper ts r p u below none a None i = refl
deeper ts r p u below none a (Some k) None = refl
deeper ts r p u below none a (Some k) (Some i) = below k (inside a i u) (λ x. none ((a, i) ∷ x))

on_place : (ts : List Template) (r : Part) (p : List Part) (j : ℕ) (h : Graph) (u : Scopes)
    → ((k : Graph) (v : Scopes) → ((x : List Step) → v x ≡ None)
    → m.entry_at ts (r ∷ p) (record { graph = k; scopes = v }) ≡ None) → ((x : List Step) → u x ≡ None)
    → (o : Option ℕ) → option_and_then (m.entry_at ts (r ∷ p)) (option_and_then
    (λ a. m.stand_by u a (graph_under ts (slice_get (out-Graph h).activities a)) (attempt_place j)) o) ≡ None
on_place ts r p j h u below none None = refl
on_place ts r p j h u below none (Some a) =
    deeper ts r p u below none a (graph_under ts (slice_get (out-Graph h).activities a)) (attempt_place j)

nowhere : (ts : List Template) (p : List Part) (q : Part) (h : Graph) (u : Scopes) → ((x : List Step) → u x ≡ None)
    → m.entry_at ts (q ∷ p) (record { graph = h; scopes = u }) ≡ None
nowhere ts [] q h u none = ap (m.entry_in h q) (none [])
nowhere ts (r ∷ p) q h u none =
    on_place ts r p q.attempt h u (λ k v nothing. nowhere ts p r k v nothing) none (place_of h q.name)

-- the scope of an attempt
attempt_of : (state : ActivityState) (j i : ℕ) → attempt_place j ≡ Some i → scope_of state j ≡ scope_in state i
attempt_of (Program p) j i at = refl
attempt_of (Nested k) j i at = ap (option_and_then (slice_get (out-NestedState k).scopes.items)) at

attempt_in : (states : Option ActivityState) (j i : ℕ) → attempt_place j ≡ Some i
    → option_and_then (λ state. scope_of state j) states ≡ option_and_then (λ state. scope_in state i) states
attempt_in None j i at = refl
attempt_in (Some state) j i at = attempt_of state j i at

no_attempt : (states : Option ActivityState) (j : ℕ) → attempt_place j ≡ None
    → option_and_then (λ state. scope_of state j) states ≡ None
no_attempt None j at = refl
no_attempt (Some (Program p)) j at = refl
no_attempt (Some (Nested k)) j at = ap (option_and_then (slice_get (out-NestedState k).scopes.items)) at

module _ (ts : List Template) (r : Part) (p : List Part)
    (below : (k : Graph) (t : ScopeState) → m.entry_at ts (r ∷ p) (record { graph = k; scopes = scopes_of t })
    ≡ option_map entry_of (n.entry_at ts (r ∷ p) (n.stand k t))) where
  by_scope : (h : Graph) (t : ScopeState) (a i : ℕ) (o : Option ScopeState) → inner_at (fields t).states a i ≡ o
      → m.entry_at ts (r ∷ p) (record { graph = h; scopes = inside a i (scopes_of t) })
      ≡ option_map entry_of (option_and_then (n.entry_at ts (r ∷ p)) (n.both (Some h) o))
  by_scope h t a i None none =
      nowhere ts p r h (inside a i (scopes_of t)) (λ x. ap (option_and_then (λ u. scopes_of u x)) none)
  by_scope h t a i (Some inner) at =
      ap (λ u. m.entry_at ts (r ∷ p) (record { graph = h; scopes = u }))
      (fun_ext (λ x. ap (option_and_then (λ u. scopes_of u x)) at)) ∙ below h inner

  by_attempt : (h : Graph) (t : ScopeState) (a j : ℕ) (i : Option ℕ) → attempt_place j ≡ i
      → option_and_then (m.entry_at ts (r ∷ p)) (m.stand_by (scopes_of t) a (Some h) i)
      ≡ option_map entry_of (option_and_then (n.entry_at ts (r ∷ p)) (n.both (Some h) (inner_of t a j)))
  by_attempt h t a j None at =
      sym (ap (λ o. option_map entry_of (option_and_then (n.entry_at ts (r ∷ p)) (n.both (Some h) o)))
      (no_attempt (slice_get (fields t).states a) j at))
  by_attempt h t a j (Some i) at =
      by_scope h t a i (inner_at (fields t).states a i) refl
      ∙ sym (ap (λ o. option_map entry_of (option_and_then (n.entry_at ts (r ∷ p)) (n.both (Some h) o)))
      (attempt_in (slice_get (fields t).states a) j i at))

  by_graph : (t : ScopeState) (a j : ℕ) (o : Option Graph)
      → option_and_then (m.entry_at ts (r ∷ p)) (m.stand_by (scopes_of t) a o (attempt_place j))
      ≡ option_map entry_of (option_and_then (n.entry_at ts (r ∷ p)) (n.both o (inner_of t a j)))
  by_graph t a j None = refl
  by_graph t a j (Some h) = by_attempt h t a j (attempt_place j) refl

  by_activity : (t : ScopeState) (a j : ℕ) (o : Option Activity)
      → option_and_then (m.entry_at ts (r ∷ p)) (m.stand_by (scopes_of t) a (graph_under ts o) (attempt_place j))
      ≡ option_map entry_of (option_and_then (n.entry_at ts (r ∷ p))
      (option_and_then (λ activity. n.both (graph_in ts activity.work) (inner_of t a j)) o))
  by_activity t a j None = refl
  by_activity t a j (Some activity) = by_graph t a j (graph_in ts activity.work)

  by_place : (g : Graph) (t : ScopeState) (j : ℕ) (o : Option ℕ)
      → option_and_then (m.entry_at ts (r ∷ p))
      (option_and_then (λ a. m.stand_by (scopes_of t) a (graph_under ts (slice_get (out-Graph g).activities a))
      (attempt_place j)) o)
      ≡ option_map entry_of (option_and_then (n.entry_at ts (r ∷ p))
      (option_and_then (n.into_place ts (n.stand g t) j) o))
  by_place g t j None = refl
  by_place g t j (Some a) = by_activity t a j (slice_get (out-Graph g).activities a)

-- an item of a scope
along : (ts : List Template) (p : List Part) (q : Part) (g : Graph) (t : ScopeState)
    → m.entry_at ts (q ∷ p) (record { graph = g; scopes = scopes_of t })
    ≡ option_map entry_of (n.entry_at ts (q ∷ p) (n.stand g t))
along ts [] q g t = begun_so (out-ScopeState t).begun _ _ (at_place g q t (place_of g q.name))
along ts (r ∷ p) q g t = by_place ts r p (λ k u. along ts p r k u) g t q.attempt (place_of g q.name)

pub entries : (ts : List Template) (p : List Part) (g : Graph) (t : ScopeState)
    → m.entry_at ts p (record { graph = g; scopes = scopes_of t }) ≡ option_map entry_of (n.entry_at ts p (n.stand g t))
entries ts [] g t = refl
entries ts (q ∷ p) g t = along ts p q g t

-- ---- in a state

runs_program : (e : n.Entry) (o : Option ProgramOf)
    → m.entry_with (entry_of e) o ≡ option_map entry_of (d.entry_with e o)
runs_program e None = refl
runs_program e (Some p) = refl

program_so : (o : Option n.Entry) → m.program_entry (option_map entry_of o) ≡ option_map entry_of (d.program_entry o)
program_so None = refl
program_so (Some e) = runs_program e (d.program_in e.activity.work)

in_graph : (ts : List Template) (item : Path) (i : Instance) (o : Option Graph)
    → option_and_then (λ g. m.entry_at ts item.parts (record { graph = g; scopes = scopes_of i.scope })) o
    ≡ option_map entry_of (option_and_then (λ g. n.entry_at ts item.parts (n.stand g i.scope)) o)
in_graph ts item i None = refl
in_graph ts item i (Some g) = entries ts item.parts g i.scope

in_root : (ts : List Template) (item : Path) (o : Option Instance)
    → option_and_then (s.item_in ts ts item) (option_map root_of o)
    ≡ option_map entry_of (option_and_then (d.entry_in ts item) o)
in_root ts item None = refl
in_root ts item (Some i) = in_graph ts item i (graph_of ts i.template)

pub items : (c : Core) (item : Path) → s.item_of (view c) item ≡ option_map entry_of (d.item_of c item)
items c item =
    ap m.program_entry (in_root (templates c) item (instance_of c item.root))
    ∙ program_so (option_and_then (d.entry_in (templates c) item) (instance_of c item.root))
