-- What happens to one root by an event, whatever is known in its scopes.
use Rattle.std.specs.Prelude.{◌≡◌, ℕ, true, false, Some, List, []}
use Rattle.flow_model.specs.ScopeContainers.{graph_of}
use Rattle.flow_model.specs.declared.graphs.Container.{Container}
use Rattle.flow_model.specs.declared.graphs.Graph.{Graph}
use Rattle.flow_model.specs.declared.graphs.Template.{Template}
use Rattle.flow_model.specs.declared.instances.Message.{Message}
use Rattle.flow_model.specs.declared.instances.Path.{Path}
use Rattle.navigator.specs.Giving.{GivesTaken, GivesCompleted}
use Rattle.navigator.specs.Holding.{HoldsChanged}
use Rattle.navigator.specs.Showing.{ShowsTaken, ShowsCompleted, StaysShown}
use Rattle.navigator.specs.declared.instance.HoldChange.{HoldChange}
use Rattle.navigator.specs.declared.instance.Instance.{Instance}

-- it takes a message: a root that is terminated stays as it is and gives nothing, each other one goes on showing its
-- view, and gives what became due
pub record TakesIn (ts : List Template) (message : Message) (given : List Message) (i i' : Instance) : Type 0 where
  pub kept : i' ≡ record i { scope = i'.scope }
  pub idle : i.terminated ≡ true → (i' ≡ i) × (given ≡ [])
  pub shows : i.terminated ≡ false → (g : Graph) → graph_of ts i.template ≡ Some g
      → ShowsTaken ts g message i.scope i'.scope
  pub gives : i.terminated ≡ false → (g : Graph) → graph_of ts i.template ≡ Some g
      → GivesTaken ts g message i.scope given

-- an item of it is completed with this output
pub record CompletesIn (ts : List Template) (item : Path) (out : Container) (given : List Message)
    (i i' : Instance) : Type 0 where
  pub kept : i' ≡ record i { scope = i'.scope }
  pub shows : (g : Graph) → graph_of ts i.template ≡ Some g → ShowsCompleted ts g item.parts out i.scope i'.scope
  pub gives : (g : Graph) → graph_of ts i.template ≡ Some g → GivesCompleted ts g item out i.scope given

-- the hold of an item of it is changed so
pub record HoldsIn (ts : List Template) (item : Path) (change : HoldChange) (i i' : Instance) : Type 0 where
  pub kept : i' ≡ record i { scope = i'.scope }
  pub shows : (g : Graph) → graph_of ts i.template ≡ Some g → StaysShown ts g i.scope i'.scope
  pub sets : (g : Graph) → graph_of ts i.template ≡ Some g
      → (take : ℕ) × HoldsChanged ts item.parts change g i.scope i'.scope take
