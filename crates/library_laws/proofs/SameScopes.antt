-- A scope is the same in a larger library: what its attempts give, their fates and ends, the attempts that start, and its output.
use Rattle.std.proofs.Common.{◌≡◌, ℕ, zero, suc, List, [], ◌∷◌, length, Option, Some, None, refl, ap, ◌∙◌}
use Rattle.std.proofs.Math.Path.{fun_ext}
use Rattle.std.specs.Option.{option_map}
use Rattle.std.specs.Prelude.{◌&&◌, if◌then◌else◌, slice_get}
use Rattle.flow_model.specs.Containers.{with_return_code}
use Rattle.flow_model.specs.Fates.{Ends, ended, is_open}
use Rattle.flow_model.specs.ScopeContainers.{base_of, graph_in, graph_of, output_by}
use Rattle.flow_model.specs.Scopes.{Known, at, part, Runs, Gives, scope_gives, gives, tries, starts, is_fed, trial, attempts, attempts_at, fate_at, fate_given, step, rounds, scope_ends, started_at, output, tree_ends}
use Rattle.flow_model.specs.declared.graphs.Activity.{Activity}
use Rattle.flow_model.specs.declared.graphs.Container.{Container}
use Rattle.flow_model.specs.declared.graphs.Graph.{Graph, out-Graph}
use Rattle.flow_model.specs.declared.graphs.Template.{Template}
use Rattle.flow_model.specs.declared.graphs.Work.{Work, Program, Block, Process}
use Rattle.flow_model.specs.declared.instances.Fate.TheVariants.{Waiting}
use Rattle.flow_model.specs.declared.instances.Part.{Part}
use Rattle.flow_model.specs.declared.names.Name.{Name}
use Rattle.navigator.specs.Serving.{Served}
use Rattle.library_laws.proofs.SameGraphs.{HasSameGraphs, ServedInside, same_graphs}
use Rattle.library_laws.specs.Larger.{Agrees}
use Rattle.library_laws.specs.Laws.{KeepsScope}

-- ---- one scope, where the scopes below it give the same

module _ (ts ts' : List Template) (k : Known) (runs runs' : Runs) (inner : Graph → Type 0)
    (same : (q : Part) (h : Graph) (i : Container) → inner h → runs' (at q k) h i ≡ runs (at q k) h i) where
  scope_same : (o : Option Graph) → ((h : Graph) → o ≡ Some h → inner h) → (q : Part) (i : Container) → scope_gives k runs' o q i ≡ scope_gives k runs o q i
  scope_same None ok q i = refl
  scope_same (Some h) ok q i = ap (λ o. if k.closed (q ∷ []) then option_map with_return_code o else None) (same q h i (ok h refl))

  work_same : (name : Name) (w : Work) → graph_in ts' w ≡ graph_in ts w → ((h : Graph) → graph_in ts w ≡ Some h → inner h) → (j : ℕ) (i : Container)
      → gives ts' k runs' name w j i ≡ gives ts k runs name w j i
  work_same name (Program p) graphs ok j i = refl
  work_same name (Block g) graphs ok j i = scope_same (Some g) ok (part name j) i
  work_same name (Process t) graphs ok j i = ap (λ o. scope_gives k runs' o (part name j) i) graphs ∙ scope_same (graph_of ts t) ok (part name j) i

  module _ (g : Graph) (inside : HasSameGraphs ts ts' g inner) (input : Container) where
    gives_same : (a : ℕ) (activity : Activity) → slice_get (out-Graph g).activities a ≡ Some activity
        → gives ts' k runs' activity.name activity.work ≡ gives ts k runs activity.name activity.work
    gives_same a activity is = fun_ext (λ j. fun_ext (λ i. work_same activity.name activity.work (inside.graphs a activity is) (inside.inside a activity is) j i))

    attempts_same : (e : Ends) (a : ℕ) (o : Option Activity) → slice_get (out-Graph g).activities a ≡ o
        → attempts_at ts' k runs' g input e a o ≡ attempts_at ts k runs g input e a o
    attempts_same e a None is = refl
    attempts_same e a (Some activity) is =
        let base : Container = base_of g activity a input e in
        ap (λ (give : Gives). if is_fed (out-Graph g).lines a e then tries k.most give (trial g a activity base) 1 base else []) (gives_same a activity is)

    pub outputs_same : (e : Ends) (a : ℕ) → attempts ts' k runs' g input e a ≡ attempts ts k runs g input e a
    outputs_same e a = attempts_same e a (slice_get (out-Graph g).activities a) refl

    pub fate_same : (e : Ends) (a : ℕ) → fate_given ts' k runs' g input e a ≡ fate_given ts k runs g input e a
    fate_same e a =
        ap (λ os. if k.begun [] then fate_at k (out-Graph g).controls e a (slice_get (out-Graph g).activities a) os else Waiting) (outputs_same e a)

    pub starts_same : (e : Ends) (a : ℕ) (activity : Activity) → slice_get (out-Graph g).activities a ≡ Some activity
        → started_at ts' k runs' g input e a activity ≡ started_at ts k runs g input e a activity
    starts_same e a activity is =
        let base : Container = base_of g activity a input e in
        ap (λ f. if is_open f && is_fed (out-Graph g).lines a e then starts (suc k.most) (gives ts' k runs' activity.name activity.work) (trial g a activity base) 1 base else []) (fate_same e a)
        ∙ ap (λ (give : Gives). if is_open (fate_given ts k runs g input e a) && is_fed (out-Graph g).lines a e then starts (suc k.most) give (trial g a activity base) 1 base else []) (gives_same a activity is)

    pub ends_same : scope_ends ts' k runs' g input ≡ scope_ends ts k runs g input
    ends_same =
        let steps : step ts' k runs' g input ≡ step ts k runs g input = fun_ext (λ e. fun_ext (λ a.
        ap (λ f. ended f (attempts ts' k runs' g input e a)) (fate_same e a) ∙ ap (λ os. ended (fate_given ts k runs g input e a) os) (outputs_same e a))) in
        ap (λ next. rounds next (length (out-Graph g).activities)) steps

-- ---- to any depth

pub output_same : (ts ts' : List Template) → Agrees ts ts' → (depth levels : ℕ) (k : Known) (g : Graph) (input : Container) → ServedInside ts levels g
    → output ts' depth k g input ≡ output ts depth k g input
output_same ts ts' agrees zero levels k g input served = refl
output_same ts ts' agrees (suc depth) zero k g input served = absurd served
output_same ts ts' agrees (suc depth) (suc levels) k g input served =
    ap (output_by g input)
    (ends_same ts ts' k (output ts depth) (output ts' depth) (ServedInside ts levels) (λ q h i ok. output_same ts ts' agrees depth levels (at q k) h i ok)
    g (same_graphs ts ts' levels g agrees served) input)

pub scope_kept : (ts ts' : List Template) (levels depth : ℕ) (k : Known) (g : Graph) (input : Container) → Agrees ts ts' → Served ts levels g
    → KeepsScope ts ts' depth k g input
scope_kept ts ts' levels depth k g input agrees served =
    by
    (ends_same ts ts' k (output ts depth) (output ts' depth) (ServedInside ts levels) below g inside input)
    (fate_same ts ts' k (output ts depth) (output ts' depth) (ServedInside ts levels) below g inside input)
    (starts_same ts ts' k (output ts depth) (output ts' depth) (ServedInside ts levels) below g inside input)
  where
    below : (q : Part) (h : Graph) (i : Container) → ServedInside ts levels h → output ts' depth (at q k) h i ≡ output ts depth (at q k) h i
    below q h i ok = output_same ts ts' agrees depth levels (at q k) h i ok

    inside : HasSameGraphs ts ts' g (ServedInside ts levels)
    inside = same_graphs ts ts' levels g agrees served

    by : tree_ends ts' depth k g input ≡ tree_ends ts depth k g input
        → ((e : Ends) (a : ℕ) → fate_given ts' k (output ts' depth) g input e a ≡ fate_given ts k (output ts depth) g input e a)
        → ((e : Ends) (a : ℕ) (activity : Activity) → slice_get (out-Graph g).activities a ≡ Some activity
        → started_at ts' k (output ts' depth) g input e a activity ≡ started_at ts k (output ts depth) g input e a activity)
        → KeepsScope ts ts' depth k g input
    by ends fates begun = record {
      gives = output_same ts ts' agrees depth (suc levels) k g input served;
      ends = ends;
      fates = λ a. fates (tree_ends ts' depth k g input) a ∙ ap (λ e. fate_given ts k (output ts depth) g input e a) ends;
      starts = λ a activity is. begun (tree_ends ts' depth k g input) a activity is ∙ ap (λ e. started_at ts k (output ts depth) g input e a activity) ends;
    }
