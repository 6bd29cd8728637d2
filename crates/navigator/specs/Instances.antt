-- A root instance: how it starts, and its mode.
use Rattle.std.specs.Prelude.{◌≡◌, ℕ, Bool, true, false, Option, Some, None, List}
use Rattle.flow_model.specs.ScopeContainers.{graph_of}
use Rattle.flow_model.specs.declared.graphs.Container.{Container}
use Rattle.flow_model.specs.declared.graphs.Graph.{Graph}
use Rattle.flow_model.specs.declared.graphs.Template.{Template}
use Rattle.flow_model.specs.declared.instances.Mode.{Mode}
use Rattle.flow_model.specs.declared.instances.Mode.TheVariants.{Active, Suspended, Done, Terminated}
use Rattle.flow_model.specs.declared.names.Name.{Name}
use Rattle.navigator.specs.Fresh.{IsFresh}
use Rattle.navigator.specs.declared.instance.Instance.{Instance}

-- the mode of a root that is terminated, complete and suspended, or not
abbrev pub mode_of : Bool → Bool → Bool → Mode
mode_of true complete suspended = Terminated
mode_of false true suspended = Done
mode_of false false true = Suspended
mode_of false false false = Active

-- a root that was started with this input, and whose scope hasn't begun
pub record IsStarted (ts : List Template) (t : ℕ) (number : ℕ) (name : Name) (input : Container)
    (i : Instance) : Type 0 where
  pub root : i.root ≡ number
  pub template : i.template ≡ t
  pub starter : i.starter ≡ name
  pub active : i.suspended ≡ false
  pub lives : i.terminated ≡ false
  pub scope : (g : Graph) → graph_of ts t ≡ Some g → IsFresh g input i.scope

-- there is a root exactly where there is the template
abbrev pub Starts : List Template → ℕ → ℕ → Name → Container → Option Instance → Type 0
Starts ts t number name input None = graph_of ts t ≡ None
Starts ts t number name input (Some i) = IsStarted ts t number name input i
