-- The rows of a scope are the same in a larger library.
use Rattle.std.proofs.Common.{◌≡◌, ℕ, zero, suc, List, [], ◌∷◌, length, Option, Some, None, refl, ap, ◌∙◌}
use Rattle.std.proofs.Math.Path.{fun_ext}
use Rattle.std.specs.List.{flat_map}
use Rattle.std.specs.Prelude.{if◌then◌else◌, slice_get}
use Rattle.flow_model.specs.Fates.{Ends}
use Rattle.flow_model.specs.Rows.{below, rows_below, rows_of, rows}
use Rattle.flow_model.specs.ScopeContainers.{graph_in, up_to}
use Rattle.flow_model.specs.Scopes.{Known, at, part, Runs, Start, fate_given, started_at, scope_ends, output, tree_fate}
use Rattle.flow_model.specs.declared.graphs.Activity.{Activity}
use Rattle.flow_model.specs.declared.graphs.Container.{Container}
use Rattle.flow_model.specs.declared.graphs.Graph.{Graph, out-Graph}
use Rattle.flow_model.specs.declared.graphs.Template.{Template}
use Rattle.flow_model.specs.declared.instances.Fate.{Fate}
use Rattle.flow_model.specs.declared.instances.FateRow.{FateRow}
use Rattle.flow_model.specs.declared.instances.Part.{Part}
use Rattle.flow_model.specs.declared.instances.Path.{Path}
use Rattle.navigator.specs.Reading.{hold_in, with_hold, inner_of}
use Rattle.navigator.specs.Serving.{Served}
use Rattle.navigator.specs.ViewRows.{ScopeRows, attempt_rows, activity_rows, rows_within}
use Rattle.navigator.specs.declared.scopes.ScopeState.{ScopeState}
use Rattle.view_laws.specs.Coming.{started_in}
use Rattle.library_laws.proofs.SameGraphs.{HasSameGraphs, ServedInside, same_graphs}
use Rattle.library_laws.proofs.SameScopes.{fate_same, starts_same, ends_same, output_same, scope_kept}
use Rattle.library_laws.specs.Larger.{Agrees}
use Rattle.library_laws.specs.Laws.{KeepsScope, KeepsRows}

-- ---- by what is known

abbrev pub KnownRows : Type 0
KnownRows = Known → Graph → Container → Path → List FateRow

module _ (ts ts' : List Template) (depth : ℕ) (k : Known) (more more' : KnownRows) (inner : Graph → Type 0)
    (same : (q : Part) (h : Graph) (i : Container) (s : Path) → inner h → more' (at q k) h i s ≡ more (at q k) h i s) where
  attempts_known : (activity : Activity) (o : Option Graph) → ((h : Graph) → o ≡ Some h → inner h) → (begun : List Start) (s : Path)
      → rows_below more' k activity o begun s ≡ rows_below more k activity o begun s
  attempts_known activity None ok begun s = refl
  attempts_known activity (Some h) ok begun s =
      ap (λ (f : Start → List FateRow). flat_map f begun)
      (fun_ext (λ start. same (part activity.name start.attempt) h start.input (below s (part activity.name start.attempt)) (ok h refl)))

  module _ (g : Graph) (inside : HasSameGraphs ts ts' g inner) (input : Container) (kept : KeepsScope ts ts' depth k g input) where
    activity_known : (s : Path) (a : ℕ) (o : Option Activity) → slice_get (out-Graph g).activities a ≡ o → rows_of ts' depth more' k g input s a o ≡ rows_of ts depth more k g input s a o
    activity_known s a None is = refl
    activity_known s a (Some activity) is =
        ap (λ (fate : Fate). record { scope = s; name = activity.name; fate = fate } ∷ rows_below more' k activity (graph_in ts' activity.work) (started_in ts' depth k g input a activity) s) (kept.fates a)
        ∙ ap (λ (rest : List FateRow). record { scope = s; name = activity.name; fate = tree_fate ts depth k g input a } ∷ rest)
        (ap (λ o. rows_below more' k activity o (started_in ts' depth k g input a activity) s) (inside.graphs a activity is)
        ∙ ap (λ begun. rows_below more' k activity (graph_in ts activity.work) begun s) (kept.starts a activity is)
        ∙ attempts_known activity (graph_in ts activity.work) (inside.inside a activity is) (started_in ts depth k g input a activity) s)

    pub scope_known : (s : Path)
        → flat_map (λ a. rows_of ts' depth more' k g input s a (slice_get (out-Graph g).activities a)) (up_to (length (out-Graph g).activities) 0)
        ≡ flat_map (λ a. rows_of ts depth more k g input s a (slice_get (out-Graph g).activities a)) (up_to (length (out-Graph g).activities) 0)
    scope_known s =
        ap (λ (f : ℕ → List FateRow). flat_map f (up_to (length (out-Graph g).activities) 0))
        (fun_ext (λ a. activity_known s a (slice_get (out-Graph g).activities a) refl))

known_rows : (ts ts' : List Template) → Agrees ts ts' → (depth levels : ℕ) (k : Known) (g : Graph) (input : Container) (s : Path) → ServedInside ts levels g
    → rows ts' depth k g input s ≡ rows ts depth k g input s
known_rows ts ts' agrees depth zero k g input s served = absurd served
known_rows ts ts' agrees zero (suc levels) k g input s served =
    scope_known ts ts' zero k (λ k' h i p. []) (λ k' h i p. []) (ServedInside ts levels) (λ q h i p ok. refl)
    g (same_graphs ts ts' levels g agrees served) input (scope_kept ts ts' levels zero k g input agrees served) s
known_rows ts ts' agrees (suc depth) (suc levels) k g input s served =
    scope_known ts ts' (suc depth) k (rows ts depth) (rows ts' depth) (ServedInside ts levels) (λ q h i p ok. known_rows ts ts' agrees depth levels (at q k) h i p ok)
    g (same_graphs ts ts' levels g agrees served) input (scope_kept ts ts' levels (suc depth) k g input agrees served) s

-- ---- as a state shows them

module _ (ts ts' : List Template) (k : Known) (runs runs' : Runs) (more more' : ScopeRows) (inner : Graph → Type 0)
    (same : (q : Part) (h : Graph) (i : Container) → inner h → runs' (at q k) h i ≡ runs (at q k) h i)
    (same_rows : (q : Part) (h : Graph) (i : Container) (s : ScopeState) (path : Path) → inner h → more' (at q k) h i s path ≡ more (at q k) h i s path) where
  attempt_shown : (activity : Activity) (o : Option Graph) → ((h : Graph) → o ≡ Some h → inner h) → (s : Option ScopeState) (path : Path) (start : Start)
      → attempt_rows more' k activity o s path start ≡ attempt_rows more k activity o s path start
  attempt_shown activity None ok s path start = refl
  attempt_shown activity (Some h) ok None path start = refl
  attempt_shown activity (Some h) ok (Some s) path start =
      ap (λ (rs : List FateRow). if k.begun (part activity.name start.attempt ∷ []) then rs else [])
      (same_rows (part activity.name start.attempt) h start.input s (below path (part activity.name start.attempt)) (ok h refl))

  module _ (g : Graph) (inside : HasSameGraphs ts ts' g inner) (input : Container) where
    activity_shown : (e : Ends) (s : ScopeState) (path : Path) (a : ℕ) (o : Option Activity) → slice_get (out-Graph g).activities a ≡ o
        → activity_rows ts' runs' more' k g input e s path a o ≡ activity_rows ts runs more k g input e s path a o
    activity_shown e s path a None is = refl
    activity_shown e s path a (Some activity) is =
        ap (λ (fate : Fate). record { scope = path; name = activity.name; fate = with_hold (hold_in s a) fate }
        ∷ flat_map (λ start. attempt_rows more' k activity (graph_in ts' activity.work) (inner_of s a start.attempt) path start) (started_at ts' k runs' g input e a activity))
        (fate_same ts ts' k runs runs' inner same g inside input e a)
        ∙ ap (λ (rest : List FateRow). record { scope = path; name = activity.name; fate = with_hold (hold_in s a) (fate_given ts k runs g input e a) } ∷ rest)
        (ap (λ o. flat_map (λ start. attempt_rows more' k activity o (inner_of s a start.attempt) path start) (started_at ts' k runs' g input e a activity)) (inside.graphs a activity is)
        ∙ ap (λ begun. flat_map (λ start. attempt_rows more' k activity (graph_in ts activity.work) (inner_of s a start.attempt) path start) begun)
        (starts_same ts ts' k runs runs' inner same g inside input e a activity is)
        ∙ ap (λ (f : Start → List FateRow). flat_map f (started_at ts k runs g input e a activity))
        (fun_ext (λ start. attempt_shown activity (graph_in ts activity.work) (inside.inside a activity is) (inner_of s a start.attempt) path start)))

    pub scope_rows : (s : ScopeState) (path : Path)
        → flat_map (λ a. activity_rows ts' runs' more' k g input (scope_ends ts' k runs' g input) s path a (slice_get (out-Graph g).activities a)) (up_to (length (out-Graph g).activities) 0)
        ≡ flat_map (λ a. activity_rows ts runs more k g input (scope_ends ts k runs g input) s path a (slice_get (out-Graph g).activities a)) (up_to (length (out-Graph g).activities) 0)
    scope_rows s path =
        ap (λ e. flat_map (λ a. activity_rows ts' runs' more' k g input e s path a (slice_get (out-Graph g).activities a)) (up_to (length (out-Graph g).activities) 0))
        (ends_same ts ts' k runs runs' inner same g inside input)
        ∙ ap (λ (f : ℕ → List FateRow). flat_map f (up_to (length (out-Graph g).activities) 0))
        (fun_ext (λ a. activity_shown (scope_ends ts k runs g input) s path a (slice_get (out-Graph g).activities a) refl))

shown_rows : (ts ts' : List Template) → Agrees ts ts' → (depth levels : ℕ) (k : Known) (g : Graph) (input : Container) (s : ScopeState) (path : Path) → ServedInside ts levels g
    → rows_within ts' depth k g input s path ≡ rows_within ts depth k g input s path
shown_rows ts ts' agrees zero levels k g input s path served = refl
shown_rows ts ts' agrees (suc depth) zero k g input s path served = absurd served
shown_rows ts ts' agrees (suc depth) (suc levels) k g input s path served =
    scope_rows ts ts' k (output ts depth) (output ts' depth) (rows_within ts depth) (rows_within ts' depth) (ServedInside ts levels)
    (λ q h i ok. output_same ts ts' agrees depth levels (at q k) h i ok)
    (λ q h i t p ok. shown_rows ts ts' agrees depth levels (at q k) h i t p ok)
    g (same_graphs ts ts' levels g agrees served) input s path

pub rows_kept : (ts ts' : List Template) (levels depth : ℕ) (k : Known) (g : Graph) (input : Container) → Agrees ts ts' → Served ts levels g
    → KeepsRows ts ts' depth k g input
rows_kept ts ts' levels depth k g input agrees served = record {
  known = λ s. known_rows ts ts' agrees depth (suc levels) k g input s served;
  shown = λ s path. shown_rows ts ts' agrees (suc depth) (suc levels) k g input s path served;
}
