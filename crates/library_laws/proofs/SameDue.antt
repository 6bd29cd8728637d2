-- The same messages are due in a larger library, and each is named by the same places.
use Rattle.std.proofs.Common.{◌≡◌, ℕ, zero, suc, List, [], ◌∷◌, ◌++◌, length, Option, Some, None, refl, ap, ◌∙◌}
use Rattle.std.proofs.Math.Path.{fun_ext}
use Rattle.std.proofs.lemmas.Option.{none-some, option_and_then_some}
use Rattle.std.specs.List.{flat_map}
use Rattle.std.specs.Prelude.{if◌then◌else◌, slice_get, option_and_then}
use Rattle.flow_model.specs.Fates.{Ends}
use Rattle.flow_model.specs.ScopeContainers.{graph_in, up_to}
use Rattle.flow_model.specs.Scopes.{Known, at, part, Runs, Start, started_at, output, tree_ends}
use Rattle.flow_model.specs.declared.graphs.Activity.{Activity}
use Rattle.flow_model.specs.declared.graphs.Container.{Container}
use Rattle.flow_model.specs.declared.graphs.Graph.{Graph, out-Graph}
use Rattle.flow_model.specs.declared.graphs.Template.{Template}
use Rattle.flow_model.specs.declared.instances.Message.{Message}
use Rattle.flow_model.specs.declared.instances.Message.TheVariants.{Begin, Signal, End}
use Rattle.flow_model.specs.declared.instances.Part.{Part}
use Rattle.flow_model.specs.declared.names.Name.{Name}
use Rattle.navigator.specs.Reading.{place_of}
use Rattle.navigator.specs.Serving.{Served}
use Rattle.navigator.specs.Showing.{graph_under, graph_along, signal_in, note_in}
use Rattle.view_laws.specs.Messages.{Note, BeginNote, notes, due_of, due_with, due_at, due_in, same_note}
use Rattle.view_laws.specs.Queues.{Engine}
use Rattle.view_laws.specs.Runs.{Root, Event, running, has_started, seen, due, turned, kind}
use Rattle.library_laws.proofs.SameGraphs.{and_then_same, HasSameGraphs, ServedInside, same_graphs}
use Rattle.library_laws.proofs.SameScopes.{starts_same, output_same, scope_kept}
use Rattle.library_laws.specs.Larger.{Agrees, moved}
use Rattle.library_laws.specs.Laws.{KeepsMessages}

-- ---- one scope, where the same is due in the scopes below it

abbrev pub Below : Type 0
Below = Known → Graph → Container → List Note

module _ (ts ts' : List Template) (k : Known) (runs runs' : Runs) (below below' : Below) (inner : Graph → Type 0)
    (same : (q : Part) (h : Graph) (i : Container) → inner h → runs' (at q k) h i ≡ runs (at q k) h i)
    (notes_same : (q : Part) (h : Graph) (i : Container) → inner h → below' (at q k) h i ≡ below (at q k) h i) where
  attempts_due : (name : Name) (o : Option Graph) → ((h : Graph) → o ≡ Some h → inner h) → (begun : List Start) → due_with runs' below' k name o begun ≡ due_with runs below k name o begun
  attempts_due name None ok begun = refl
  attempts_due name (Some h) ok begun =
      ap (λ (f : Start → List Note). flat_map f begun)
      (fun_ext (λ s. ap (λ out. due_of k (part name s.attempt) out (below' (at (part name s.attempt) k) h s.input)) (same (part name s.attempt) h s.input (ok h refl))
      ∙ ap (λ ms. due_of k (part name s.attempt) (runs (at (part name s.attempt) k) h s.input) ms) (notes_same (part name s.attempt) h s.input (ok h refl))))

  module _ (g : Graph) (inside : HasSameGraphs ts ts' g inner) (input : Container) where
    pub activity_due : (e : Ends) (a : ℕ) (o : Option Activity) → slice_get (out-Graph g).activities a ≡ o → due_at ts' runs' below' k g input e a o ≡ due_at ts runs below k g input e a o
    activity_due e a None is = refl
    activity_due e a (Some activity) is =
        ap (λ o. due_with runs' below' k activity.name o (started_at ts' k runs' g input e a activity)) (inside.graphs a activity is)
        ∙ ap (λ begun. due_with runs' below' k activity.name (graph_in ts activity.work) begun) (starts_same ts ts' k runs runs' inner same g inside input e a activity is)
        ∙ attempts_due activity.name (graph_in ts activity.work) (inside.inside a activity is) (started_at ts k runs g input e a activity)

-- ---- to any depth

pub due_same : (ts ts' : List Template) → Agrees ts ts' → (depth levels : ℕ) (k : Known) (g : Graph) (input : Container) → ServedInside ts levels g
    → due_in ts' depth k g input ≡ due_in ts depth k g input
due_same ts ts' agrees depth zero k g input served = absurd served
due_same ts ts' agrees zero (suc levels) k g input served =
    ap (λ e. notes (out-Graph g).controls (out-Graph g).controls e) (scope_kept ts ts' levels zero k g input agrees served).ends
due_same ts ts' agrees (suc depth) (suc levels) k g input served =
    ap (λ e. notes (out-Graph g).controls (out-Graph g).controls e
    ++ flat_map (λ a. due_at ts' (output ts' (suc depth)) (due_in ts' depth) k g input e a (slice_get (out-Graph g).activities a)) (up_to (length (out-Graph g).activities) 0))
    (scope_kept ts ts' levels (suc depth) k g input agrees served).ends
    ∙ ap (λ (f : ℕ → List Note). notes (out-Graph g).controls (out-Graph g).controls (tree_ends ts (suc depth) k g input) ++ flat_map f (up_to (length (out-Graph g).activities) 0))
    (fun_ext (λ a. activity_due ts ts' k (output ts (suc depth)) (output ts' (suc depth)) (due_in ts depth) (due_in ts' depth) (ServedInside ts levels)
    (λ q h i ok. output_same ts ts' agrees (suc depth) levels (at q k) h i ok)
    (λ q h i ok. due_same ts ts' agrees depth levels (at q k) h i ok)
    g (same_graphs ts ts' levels g agrees served) input (tree_ends ts (suc depth) k g input) a (slice_get (out-Graph g).activities a) refl))

-- ---- the places that a message names

module _ (ts ts' : List Template) (g : Graph) (inner : Graph → Type 0) (inside : HasSameGraphs ts ts' g inner) where
  under_same : (o : Option ℕ) → graph_under ts' g o ≡ graph_under ts g o
  under_same None = refl
  under_same (Some a) =
      and_then_same (slice_get (out-Graph g).activities a) (λ activity. graph_in ts activity.work) (λ activity. graph_in ts' activity.work) (λ activity is. inside.graphs a activity is)

  under_inside : (o : Option ℕ) (h : Graph) → graph_under ts g o ≡ Some h → inner h
  under_inside None h of = absurd (none-some h of)
  under_inside (Some a) h of =
      option_and_then_some (λ activity. graph_in ts activity.work) (slice_get (out-Graph g).activities a) h of (λ activity is of'. inside.inside a activity is h of')

along_same : (ts ts' : List Template) → Agrees ts ts' → (p : List Part) (levels : ℕ) (g : Graph) → ServedInside ts levels g → graph_along ts' p g ≡ graph_along ts p g
along_same ts ts' agrees [] levels g served = refl
along_same ts ts' agrees (q ∷ p) zero g served = absurd served
along_same ts ts' agrees (q ∷ p) (suc levels) g served =
    ap (option_and_then (graph_along ts' p)) (under_same ts ts' g (ServedInside ts levels) (same_graphs ts ts' levels g agrees served) (place_of g q.name))
    ∙ and_then_same (graph_under ts g (place_of g q.name)) (graph_along ts p) (graph_along ts' p)
    (λ h of. along_same ts ts' agrees p levels h (under_inside ts ts' g (ServedInside ts levels) (same_graphs ts ts' levels g agrees served) (place_of g q.name) h of))

pub note_same : (ts ts' : List Template) (levels : ℕ) (g : Graph) → Agrees ts ts' → Served ts levels g → (m : Message) → note_in ts' g m ≡ note_in ts g m
note_same ts ts' levels g agrees served (Begin path) = refl
note_same ts ts' levels g agrees served (Signal path from to v) =
    ap (signal_in path.parts from to v) (along_same ts ts' agrees path.parts (suc levels) g served)
note_same ts ts' levels g agrees served (End path) = refl

-- ---- a root

abbrev engine_by : (Note → ℕ) → (List Event → List Note) → Engine Note Event
engine_by q messages = record { same = same_note; due = messages; turned = turned; kind = kind; queue_of = q }

pub messages_kept : (ts' : List Template) (r : Root) (q : Note → ℕ) → Agrees r.templates ts' → Served r.templates r.depth r.graph → KeepsMessages ts' r q
messages_kept ts' r q agrees served = record {
  queues = ap (engine_by q) (fun_ext each);
  places = note_same r.templates ts' r.depth r.graph agrees served;
}
  where
    each : (h : List Event) → due (moved ts' r) h ≡ due r h
    each h =
        ap (λ ms. (if has_started (running h) then BeginNote [] ∷ [] else []) ++ ms)
        (due_same r.templates ts' agrees r.depth (suc r.depth) (seen (running h)) r.graph r.input served)
