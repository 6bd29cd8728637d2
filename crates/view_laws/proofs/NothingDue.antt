-- Before a root has started nothing is due.
use Rattle.flow_model.specs.Fates.{Ends}
use Rattle.flow_model.specs.ScopeContainers.{graph_in, up_to}
use Rattle.flow_model.specs.Scopes.{Known, Runs, step, rounds, output, tree_ends, started_at}
use Rattle.flow_model.specs.declared.graphs.Activity.{Activity}
use Rattle.flow_model.specs.declared.graphs.Container.{Container}
use Rattle.flow_model.specs.declared.graphs.Control.{Control}
use Rattle.flow_model.specs.declared.graphs.Graph.{Graph, out-Graph}
use Rattle.flow_model.specs.declared.graphs.Template.{Template}
use Rattle.std.proofs.Common.{◌≡◌, ℕ, zero, suc, ◌+◌, List, [], ◌∷◌, ◌++◌, length, refl, ap, ◌∙◌, Option, Some, None}
use Rattle.std.specs.List.{flat_map}
use Rattle.std.specs.Prelude.{slice_get}
use Rattle.view_laws.specs.Messages.{Note, notes, due_at, due_with, due_in}
use Rattle.view_laws.specs.Queues.{times}
use Rattle.view_laws.specs.Runs.{Root, known, due, engine}
use Rattle.flow_model.specs.declared.instances.SourceEnd.TheVariants as end

abbrev no_one : Known
no_one = known [] []

still : (ts : List Template) (runs : Runs) (g : Graph) (i : Container) (n a : ℕ) → rounds (step ts no_one runs g i) n a ≡ end.Unsettled
still ts runs g i zero a = refl
still ts runs g i (suc n) a = refl

no_notes : (controls cs : List Control) (e : Ends) → ((a : ℕ) → e a ≡ end.Unsettled) → notes controls cs e ≡ []
no_notes controls [] e h = refl
no_notes controls (c ∷ cs) e h = rw (h c.from) (no_notes controls cs e h)

no_places : (f : ℕ → List Note) → ((a : ℕ) → f a ≡ []) → (n j : ℕ) → flat_map f (up_to n j) ≡ []
no_places f h zero j = refl
no_places f h (suc n) j = rw (h j) (no_places f h n (j + 1))

no_place : (ts : List Template) (runs : Runs) (below : Known → Graph → Container → List Note) (g : Graph) (i : Container) (e : Ends) (a : ℕ) (o : Option Activity)
    → due_at ts runs below no_one g i e a o ≡ []
no_place ts runs below g i e a None = refl
no_place ts runs below g i e a (Some activity) = go (graph_in ts activity.work)
  where
    go : (h : Option Graph) → due_with runs below no_one activity.name h (started_at ts no_one runs g i e a activity) ≡ []
    go None = refl
    go (Some h) = refl

nothing_in : (ts : List Template) (depth : ℕ) (g : Graph) (i : Container) → due_in ts depth no_one g i ≡ []
nothing_in ts zero g i = no_notes (out-Graph g).controls (out-Graph g).controls (tree_ends ts zero no_one g i) (λ a. still ts (output ts zero) g i (length (out-Graph g).activities) a)
nothing_in ts (suc depth) g i =
    let own = no_notes (out-Graph g).controls (out-Graph g).controls (tree_ends ts (suc depth) no_one g i) (λ a. still ts (output ts (suc depth)) g i (length (out-Graph g).activities) a) in
    let below = no_places
    (λ a. due_at ts (output ts (suc depth)) (due_in ts depth) no_one g i (tree_ends ts (suc depth) no_one g i) a (slice_get (out-Graph g).activities a))
    (λ a. no_place ts (output ts (suc depth)) (due_in ts depth) g i (tree_ends ts (suc depth) no_one g i) a (slice_get (out-Graph g).activities a))
    (length (out-Graph g).activities) 0 in
    ap (λ l. l ++ flat_map (λ a. due_at ts (output ts (suc depth)) (due_in ts depth) no_one g i (tree_ends ts (suc depth) no_one g i) a (slice_get (out-Graph g).activities a)) (up_to (length (out-Graph g).activities) 0)) own
    ∙ below

pub nothing : (r : Root) (q : Note → ℕ) (m : Note) → times (engine r q) (due r []) m ≡ 0
nothing r q m = ap (λ l. times (engine r q) l m) (nothing_in r.templates r.depth r.graph r.input)
