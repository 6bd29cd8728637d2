-- The scope at the end of a path, by the completions alone.
use Rattle.std.specs.Prelude.{ℕ, zero, suc, ◌+◌, ◌==◌, ◌&&◌, if◌then◌else◌, Option, Some, None, option_map}
use Rattle.std.specs.Prelude.{option_and_then, List, [], ◌∷◌, reverse}
use Rattle.flow_model.specs.declared.graphs.Container.{Container}
use Rattle.flow_model.specs.declared.graphs.Graph.{Graph, out-Graph}
use Rattle.flow_model.specs.declared.graphs.Template.{Template}
use Rattle.flow_model.specs.declared.instances.Fate.{Fate}
use Rattle.flow_model.specs.declared.instances.Part.{Part}
use Rattle.flow_model.specs.Conditions.{holds}
use Rattle.flow_model.specs.Fates.{Ends, is_open}
use Rattle.flow_model.specs.ScopeContainers.{base_of, graph_in}
use Rattle.flow_model.specs.Scopes.{Known, at, Gives, Trial, gives, is_fed, trial, output, tree_ends, tree_fate}
use Rattle.certificates.specs.Told.{Placed, activity_at}

-- a scope: how deep scopes lie inside it at most, what is known from there on, its graph and its input
pub record Standing : Type 0 where
  pub depth : ℕ
  pub known : Known
  pub graph : Graph
  pub input : Container

module _ (ts : List Template) where
  -- how its activities have ended
  abbrev pub ends_in : Standing → Ends
  ends_in st = tree_ends ts st.depth st.known st.graph st.input

  -- the fate of an activity
  abbrev pub fate_in : Standing → ℕ → Fate
  fate_in st a = tree_fate ts st.depth st.known st.graph st.input a

  -- what an attempt of an activity gives
  abbrev pub gives_in : Standing → Placed → Gives
  gives_in st x = gives ts st.known (output ts st.depth) x.activity.name x.activity.work

  -- the input of its first attempt
  abbrev pub base_in : Standing → Placed → Container
  base_in st x = base_of st.graph x.activity x.place st.input (ends_in st)

  -- what repeats it
  abbrev pub trial_in : Standing → Placed → Trial
  trial_in st x = trial st.graph x.place x.activity (base_in st x)

-- what follows an attempt that gave this
abbrev pub after : Trial → (Container → Option Container) → Container → Option Container
after t next out = if holds t.exit out then None else next (t.loops out)

-- the input of attempt c, where it is one of n attempts from attempt j on this input
abbrev pub attempt_input : ℕ → Gives → Trial → ℕ → Container → ℕ → Option Container
attempt_input zero gives t j i c = None
attempt_input (suc n) gives t j i c = if j == c then Some i else option_and_then
    (after t (λ k. attempt_input n gives t (j + 1) k c)) (gives j i)

module _ (ts : List Template) where
  -- the input of an attempt that starts
  abbrev pub input_in : Standing → Placed → ℕ → Option Container
  input_in st x c =
      if is_open (fate_in ts st x.place) && is_fed (out-Graph st.graph).lines x.place (ends_in ts st)
      then attempt_input (suc st.known.most) (gives_in ts st x) (trial_in ts st x) 1 (base_in ts st x) c
      else None

  -- the scope of an attempt of an activity, one step down
  abbrev pub step_to : ℕ → Part → Standing → Placed → Graph → Option Standing
  step_to d q st x h = option_map (λ i. record { depth = d; known = at q st.known; graph = h; input = i })
      (input_in st x q.attempt)

  -- so, where the activity is a block or a process activity
  abbrev pub step_by : ℕ → Part → Standing → Placed → Option Standing
  step_by d q st x = option_and_then (step_to d q st x) (graph_in ts x.activity.work)

  -- so, where scopes may lie inside
  abbrev pub step_at : Part → Standing → ℕ → Option Standing
  step_at q st zero = None
  step_at q st (suc d) = option_and_then (step_by d q st) (activity_at st.graph q.name)

  -- the scope one step down, where it starts
  abbrev pub step_down : Part → Standing → Option Standing
  step_down q st = step_at q st st.depth

  -- the scope at the end of a path whose last step comes first
  abbrev pub scope_back : Standing → List Part → Option Standing
  scope_back root [] = Some root
  scope_back root (q ∷ path) = option_and_then (step_down q) (scope_back root path)

  -- the scope at the end of a path, where it starts
  abbrev pub scope_in : Standing → List Part → Option Standing
  scope_in root path = scope_back root (reverse path)
