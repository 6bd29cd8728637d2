-- What is shown of the containers of roots and of items.
use Rattle.std.proofs.Common.{◌≡◌, ℕ, ◌+◌, ◌<◌, ◌^◌, true, List, Some, inr, subst, Result, Ok, Err, IfOk}
use Rattle.flow_model.specs.ScopeContainers.{graph_of, is_complete}
use Rattle.flow_model.specs.Scopes.{Known, tree_ends, output}
use Rattle.flow_model.specs.Wiring.{IsFeeding, IsLooping, IsSinking}
use Rattle.flow_model.specs.declared.graphs.Container.{Container}
use Rattle.flow_model.specs.declared.graphs.Graph.{Graph}
use Rattle.flow_model.specs.declared.graphs.Template.{Template}
use Rattle.navigator.specs.ItemInputs.{ReadsAttempt}
use Rattle.navigator.specs.Items.{Entry, item_input}
use Rattle.navigator.specs.Views.{Shows}
use Rattle.navigator.specs.declared.instance.Instance.{Instance}
use Rattle.std.specs.Global.{Vec}
use Rattle.flow_core.specs.Allowing.{known_entry}
use Rattle.flow_core.specs.Containing.{IsOutputOf, IsInputOf, IsInputShown, IsInputAnswer}
use Rattle.flow_core.specs.Refusals.{IsFound}
use Rattle.flow_core.specs.declared.items.Found.{Found}
use Rattle.flow_core.specs.declared.state.Core.{Core}

-- the output of a root by its template in this library
abbrev pub Outputs : List Template → Instance → Container → Type 0
Outputs ts i out =
    (h : Graph) → graph_of ts i.template ≡ Some h → IsSinking h → (depth : ℕ) → (k : Known) → (input : Container) → Shows ts depth k h input i.scope
    → is_complete h (tree_ends ts depth k h input) ≡ true → output ts (depth + 1) k h input ≡ Some out

pub shown_output : {E : Type 0} (r : Result Container E) (ts ts' : List Template) (g : Graph) (i : Instance) → ts' ≡ ts → graph_of ts i.template ≡ Some g
    → IfOk r (Outputs ts' i) → IfOk r (IsOutputOf ts g i)
shown_output (Ok out) ts ts' g i same there says =
    let at : Outputs ts i out = subst (λ (us : List Template). Outputs us i out) same says in
    λ sinks depth k input shows whole. at g there sinks depth k input shows whole
shown_output (Err e) ts ts' g i same there says = tt

-- what an item reads is both what its state tells and what a view tells
pub input_read : {E : Type 0} (r : Result Container E) (e : Entry)
    → (e.number < 2 ^ 32 → IsFeeding e.graph → IsLooping e.graph → IfOk r (λ c. c ≡ item_input e.graph e.scope e.number e.state e.attempt))
    → (e.number < 2 ^ 32 → IsFeeding e.graph → IsLooping e.graph → IfOk r (λ c. ReadsAttempt e.graph e.scope e.number e.state e.attempt c)) → IfOk r (IsInputOf e)
input_read (Ok read) e state shows = λ few feeds loops. (state few feeds loops, shows few feeds loops)
input_read (Err x) e state shows = tt

-- the input of the item that is found of a token
pub input_answer : {E : Type 0} (r : Result (Vec ℕ) E) (c : Core) (token : List ℕ) (f : Found) → IsFound c token (Some f)
    → IfOk r (λ out. IsInputShown f.path (known_entry f.known) out.items) → IfOk r (λ out. IsInputAnswer c token out.items)
input_answer (Ok out) c token f found shown = inr (f.path, known_entry f.known, found.0, found.1.there, shown)
input_answer (Err e) c token f found shown = tt
