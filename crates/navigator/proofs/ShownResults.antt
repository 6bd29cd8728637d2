-- What a call gives tells what is shown after it.
use Rattle.std.proofs.Common.{◌≡◌, ℕ, List, ◌∷◌, [], ◌++◌, Some, Result, Ok, Err, IfOk, OnOk}
use Rattle.activity_states.specs.declared.states.Completed.{Completed}
use Rattle.flow_model.specs.ScopeContainers.{graph_of}
use Rattle.flow_model.specs.declared.graphs.Graph.{Graph}
use Rattle.flow_model.specs.declared.graphs.Template.{Template}
use Rattle.flow_model.specs.declared.instances.Message.{Message}
use Rattle.flow_model.specs.declared.instances.Part.{Part}
use Rattle.flow_model.specs.declared.instances.Path.{Path}
use Rattle.navigator.specs.Events.{Completes, Happens, Takes}
use Rattle.navigator.specs.Giving.{GivesTaken, GivesCompleted}
use Rattle.navigator.specs.Showing.{ShowsTaken, ShowsCompleted}
use Rattle.navigator.specs.declared.scopes.ScopeState.{ScopeState}
use Rattle.navigator.proofs.Given.{taken_given, completed_given}
use Rattle.navigator.proofs.TakesShown.{taken_shown, completed_shown}

module _ {T E : Type 0} (first : T → List Message) (second : T → List Path) (r : Result T E) (ts : List Template) (clock t : ℕ) (s s' : ScopeState) where
  pub taken_result : (message : Message) → IfOk r (λ x. (g : Graph) → graph_of ts t ≡ Some g → Takes ts clock message g s s' (first x) (second x))
      → OnOk r ((g : Graph) → graph_of ts t ≡ Some g → ShowsTaken ts g message s s')
  taken_result message takes = go r takes
    where
      go : (q : Result T E) → IfOk q (λ x. (g : Graph) → graph_of ts t ≡ Some g → Takes ts clock message g s s' (first x) (second x))
          → OnOk q ((g : Graph) → graph_of ts t ≡ Some g → ShowsTaken ts g message s s')
      go (Ok x) is = λ g of. taken_shown ts clock message g s s' (first x) (second x) (is g of)
      go (Err e) is = is

  pub completed_result : (root : ℕ) (item : List Part) (c : Completed)
      → IfOk r (λ x. (g : Graph) → graph_of ts t ≡ Some g → (around : List Part) (q : Part) → item ≡ around ++ q ∷ [] → Happens ts (record { root = root; parts = around }) clock (Completes q.name c) g s s' (first x) (second x))
      → OnOk r ((g : Graph) → graph_of ts t ≡ Some g → ShowsCompleted ts g item c.output s s')
  completed_result root item c completes = go r completes
    where
      go : (q : Result T E)
          → IfOk q (λ x. (g : Graph) → graph_of ts t ≡ Some g → (around : List Part) (p : Part) → item ≡ around ++ p ∷ [] → Happens ts (record { root = root; parts = around }) clock (Completes p.name c) g s s' (first x) (second x))
          → OnOk q ((g : Graph) → graph_of ts t ≡ Some g → ShowsCompleted ts g item c.output s s')
      go (Ok x) is = λ g of. completed_shown ts clock root item c g s s' (first x) (second x) (is g of)
      go (Err e) is = is

  pub taken_result_given : (message : Message) → IfOk r (λ x. (g : Graph) → graph_of ts t ≡ Some g → Takes ts clock message g s s' (first x) (second x))
      → IfOk r (λ x. (g : Graph) → graph_of ts t ≡ Some g → GivesTaken ts g message s (first x))
  taken_result_given message takes = go r takes
    where
      go : (q : Result T E) → IfOk q (λ x. (g : Graph) → graph_of ts t ≡ Some g → Takes ts clock message g s s' (first x) (second x))
          → IfOk q (λ x. (g : Graph) → graph_of ts t ≡ Some g → GivesTaken ts g message s (first x))
      go (Ok x) is = λ g of. taken_given ts clock message g s s' (first x) (second x) (is g of)
      go (Err e) is = is

  pub completed_result_given : (item : Path) (c : Completed)
      → IfOk r (λ x. (g : Graph) → graph_of ts t ≡ Some g → (around : List Part) (q : Part) → item.parts ≡ around ++ q ∷ [] → Happens ts (record { root = item.root; parts = around }) clock (Completes q.name c) g s s' (first x) (second x))
      → IfOk r (λ x. (g : Graph) → graph_of ts t ≡ Some g → GivesCompleted ts g item c.output s (first x))
  completed_result_given item c completes = go r completes
    where
      go : (q : Result T E)
          → IfOk q (λ x. (g : Graph) → graph_of ts t ≡ Some g → (around : List Part) (p : Part) → item.parts ≡ around ++ p ∷ [] → Happens ts (record { root = item.root; parts = around }) clock (Completes p.name c) g s s' (first x) (second x))
          → IfOk q (λ x. (g : Graph) → graph_of ts t ≡ Some g → GivesCompleted ts g item c.output s (first x))
      go (Ok x) is = λ g of. completed_given ts clock item c g s s' (first x) (second x) (is g of)
      go (Err e) is = is
