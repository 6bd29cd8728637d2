-- What is replied to OUTPUT and INPUT: the container of a root that is done, and the one that an item reads.
use Rattle.std.specs.Prelude.{◌≡◌, ◌⊎◌, ℕ, ◌+◌, ◌<◌, ◌^◌, true, Option, Some, None, List, [], ◌∷◌, ◌++◌, length, codes}
use Rattle.std.specs.Fmt.{decimal}
use Rattle.flow_model.specs.Paths.{Spells}
use Rattle.flow_model.specs.ScopeContainers.{graph_of, is_complete}
use Rattle.flow_model.specs.Scopes.{Known, tree_ends, output}
use Rattle.flow_model.specs.Wiring.{IsFeeding, IsLooping, IsSinking}
use Rattle.flow_model.specs.declared.graphs.Container.{Container}
use Rattle.flow_model.specs.declared.graphs.Graph.{Graph, out-Graph}
use Rattle.flow_model.specs.declared.graphs.Leaves.{Leaves}
use Rattle.flow_model.specs.declared.graphs.Template.{Template}
use Rattle.flow_model.specs.declared.instances.Mode.{Mode}
use Rattle.flow_model.specs.declared.instances.Mode.TheVariants.{Active, Suspended, Done, Terminated}
use Rattle.flow_model.specs.declared.instances.Path.{Path}
use Rattle.navigator.specs.ItemInputs.{ReadsAttempt}
use Rattle.navigator.specs.Items.{Entry, item_input}
use Rattle.navigator.specs.Views.{Shows}
use Rattle.navigator.specs.declared.instance.Instance.{Instance}
use Rattle.reply_text.specs.Leaves.{container_text}
use Rattle.reply_text.specs.Replies.{path_in_quotes}
use Rattle.flow_core.specs.Answers.{mode_now}
use Rattle.flow_core.specs.Driving.{templates, item_of}
use Rattle.flow_core.specs.Refusals.{between, IsNamed}
use Rattle.flow_core.specs.Replies.{refusal_text}
use Rattle.flow_core.specs.declared.refusals.Refusal.TheVariants as refused
use Rattle.flow_core.specs.declared.state.Core.{Core}

-- ---- OUTPUT

-- the root and the number of values, then a line for each leaf
abbrev pub output_text : ℕ → Leaves → Container → List ℕ
output_text root leaves c =
    codes "ok OUTPUT " ++ decimal root ++ 32 ∷ [] ++ decimal (length c.values) ++ 10 ∷ [] ++ container_text leaves c

-- the container is the output of the root, by whatever view its scopes show, where that is complete
abbrev pub IsOutputOf : List Template → Graph → Instance → Container → Type 0
IsOutputOf ts g i out =
    IsSinking g → (depth : ℕ) → (k : Known) → (input : Container) → Shows ts depth k g input i.scope
    → is_complete g (tree_ends ts depth k g input) ≡ true
    → output ts (depth + 1) k g input ≡ Some out

abbrev pub IsOutputShown : List Template → ℕ → Graph → Instance → List ℕ → Type 0
IsOutputShown ts root g i text =
    (out : Container) × IsOutputOf ts g i out × (text ≡ output_text root (out-Graph g).output out)

-- it is shown of a root that is done, and else refused by the mode
abbrev pub IsOutputBy : List Template → ℕ → Graph → Instance → Mode → List ℕ → Type 0
IsOutputBy ts root g i Done text = IsOutputShown ts root g i text
IsOutputBy ts root g i Active text = text ≡ refusal_text (refused.Mode Active)
IsOutputBy ts root g i Suspended text = text ≡ refusal_text (refused.Mode Suspended)
IsOutputBy ts root g i Terminated text = text ≡ refusal_text (refused.Mode Terminated)

-- of a root whose template is there
abbrev pub IsOutputWith : List Template → ℕ → Instance → Option Graph → List ℕ → Type 0
IsOutputWith ts root i None text = text ≡ refusal_text (refused.Root root)
IsOutputWith ts root i (Some g) text = IsOutputBy ts root g i (mode_now i) text

-- OUTPUT shows the output of a live root, and else is refused
abbrev pub IsOutputAnswer : Core → ℕ → Option Instance → List ℕ → Type 0
IsOutputAnswer c root None text = text ≡ refusal_text (refused.Root root)
IsOutputAnswer c root (Some i) text = IsOutputWith (templates c) root i (graph_of (templates c) i.template) text

-- ---- INPUT

-- the item and the number of values, then a line for each leaf
abbrev pub input_text : Path → Leaves → Container → List ℕ
input_text path leaves c =
    codes "ok INPUT " ++ path_in_quotes path ++ 32 ∷ [] ++ decimal (length c.values) ++ 10 ∷ []
    ++ container_text leaves c

-- the container is what the item reads: the base input, with the LOOP maps from the output of the attempt before, as in
-- whatever view its scope shows
abbrev pub IsInputOf : Entry → Container → Type 0
IsInputOf e read =
    e.number < 2 ^ 32 → IsFeeding e.graph → IsLooping e.graph
    → (read ≡ item_input e.graph e.scope e.number e.state e.attempt)
    × ReadsAttempt e.graph e.scope e.number e.state e.attempt read

abbrev pub IsInputShown : Path → Entry → List ℕ → Type 0
IsInputShown path e text = (read : Container) × IsInputOf e read × (text ≡ input_text path e.activity.input read)

-- INPUT shows the input of the item that its token names, and is refused where there is none
abbrev pub IsInputAnswer : Core → List ℕ → List ℕ → Type 0
IsInputAnswer c token text =
    (IsNamed c token None × (text ≡ refusal_text (refused.Item token)))
    ⊎ ((path : Path) × (e : Entry) × Spells (between token) path × (item_of c path ≡ Some e) × IsInputShown path e text)
