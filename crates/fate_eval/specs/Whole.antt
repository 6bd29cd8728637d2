-- All that is so after this many completions is found by a pass, with a number of completions that is no greater.
use Rattle.std.specs.Prelude.{◌≡◌, ℕ, suc, ◌+◌, ◌≤◌, ◌==◌, true, false, map, is_none, if◌then◌else◌, Option, Some, None}
use Rattle.std.specs.Prelude.{List, [], ◌∷◌, length}
use Rattle.std.specs.List.{All, Contains, filter, list_any, last_or}
use Rattle.std.specs.Option.{option_map}
use Rattle.blocks_subprocs.specs.Ends.{ends_of}
use Rattle.flow_model.specs.Containers.{with_return_code}
use Rattle.flow_model.specs.Fates.{Ends, connector_value, tried, ended, is_settled, goes_on}
use Rattle.flow_model.specs.Rows.{rows_below, rows as rows_in, below}
use Rattle.flow_model.specs.ScopeContainers.{graph_in, base_of}
use Rattle.flow_model.specs.Scopes.{at, part, gives, trial, starts, is_fed, tries_on, attempts_at}
use Rattle.flow_model.specs.Scopes.{output as output_of_scope}
use Rattle.flow_model.specs.declared.graphs.Activity.{Activity}
use Rattle.flow_model.specs.declared.graphs.Container.{Container}
use Rattle.flow_model.specs.declared.graphs.Control.{Control}
use Rattle.flow_model.specs.declared.graphs.DataLine.{DataLine}
use Rattle.flow_model.specs.declared.graphs.Graph.{Graph, out-Graph}
use Rattle.flow_model.specs.declared.graphs.MapEnd.TheVariants.{Activity as At}
use Rattle.flow_model.specs.declared.graphs.Template.{Template}
use Rattle.flow_model.specs.declared.graphs.Work.{Work, Program, Block, Process}
use Rattle.flow_model.specs.declared.instances.Fate.TheVariants.{Ready}
use Rattle.flow_model.specs.declared.instances.Part.{Part}
use Rattle.flow_model.specs.declared.instances.Path.{Path}
use Rattle.flow_model.specs.declared.instances.SourceEnd.{SourceEnd}
use Rattle.fate_laws.specs.WellFormed.{Well}
use Rattle.fate_eval.specs.Entries.{Dated, dated_in, by_then, known_after}
use Rattle.fate_eval.specs.Passing.{rows_inside, rows_by_ends, end_by_ends}
use Rattle.fate_eval.specs.declared.accepted.Entry.{Entry}
use Rattle.fate_eval.specs.Timely.{IsShownReady, after_of, tried_rows}

-- an attempt of a program activity, by what is known of its item
pub record IsWholeProgram (known : Option Dated) (since : ℕ) (out : Option Container) (after : ℕ)
    (ready : List ℕ) : Type 0 where
  pub gave : (n : ℕ) (o : Container) → since ≤ n → by_then n known ≡ Some o → (out ≡ Some o) × (after ≤ n)
  pub own : (i : ℕ) (o : Container) → since ≤ i → known ≡ Some (record { after = i + 1; output = o }) → Contains ready i

-- attempt j
pub record IsWholeAttempt (ts : List Template) (depth most : ℕ) (es : List Entry) (s : Path) (activity : Activity)
    (j : ℕ) (input : Container) (since : ℕ)
    (out : Option Container) (after : ℕ) (ready : List ℕ) : Type 0 where
  pub gave : (n : ℕ) (o : Container) → since ≤ n
      → gives ts (known_after most es n) (output_of_scope ts depth) activity.name activity.work j input ≡ Some o
      → (out ≡ Some o) × (after ≤ n)
  pub own : (i : ℕ) (o : Container) → since ≤ i → goes_on activity.work j ≡ Ready j
      → dated_in es (part activity.name j ∷ []) ≡ Some (record { after = i + 1; output = o }) → Contains ready i
  pub inside : (i : ℕ) → since ≤ i
      → IsShownReady es s (rows_below (rows_inside ts depth) (known_after most es i) activity
      (graph_in ts activity.work) (record { attempt = j; input = input } ∷ []) s) i → Contains ready i

-- an attempt behind the last one that counts, with the completions below those before it
pub record IsWholeLast (ts : List Template) (depth most : ℕ) (es : List Entry) (s : Path) (activity : Activity) (j : ℕ)
    (input : Container) (since : ℕ)
    (before ready : List ℕ) : Type 0 where
  pub kept : (i : ℕ) → Contains before i → Contains ready i
  pub own : (i : ℕ) (o : Container) → since ≤ i → goes_on activity.work j ≡ Ready j
      → dated_in es (part activity.name j ∷ []) ≡ Some (record { after = i + 1; output = o }) → Contains ready i
  pub inside : (i : ℕ) → since ≤ i
      → IsShownReady es s (rows_below (rows_inside ts depth) (known_after most es i) activity
      (graph_in ts activity.work) (record { attempt = j; input = input } ∷ []) s) i → Contains ready i

-- an attempt that runs a graph
pub record IsWholeScope (ts : List Template) (depth most : ℕ) (es : List Entry) (s : Path) (q : Part) (g : Graph)
    (input : Container) (since : ℕ)
    (out : Option Container) (after : ℕ) (ready : List ℕ) : Type 0 where
  pub gave : (n : ℕ) (o : Container) → since ≤ n
      → option_map with_return_code (output_of_scope ts (suc depth) (at q (known_after most es n)) g input) ≡ Some o
      → (out ≡ Some o) × (after ≤ n)
  pub inside : (i : ℕ) → since ≤ i → IsShownReady es s
      (rows_in ts depth (at q (known_after most es i)) g input (below s q)) i → Contains ready i

-- a scope
pub record IsWholePass (ts : List Template) (depth most : ℕ) (es : List Entry) (g : Graph) (input : Container)
    (s : Path) (since : ℕ)
    (out : Option Container) (after : ℕ) (ready : List ℕ) : Type 0 where
  pub gave : (n : ℕ) (o : Container) → since ≤ n
      → output_of_scope ts (suc depth) (known_after most es n) g input ≡ Some o → (out ≡ Some o) × (after ≤ n)
  pub inside : (i : ℕ) → since ≤ i → IsShownReady es s (rows_in ts depth (known_after most es i) g input s) i
      → Contains ready i

-- the attempts of an activity
pub record AreWhole (ts : List Template) (depth most : ℕ) (es : List Entry) (g : Graph) (s : Path) (a : ℕ)
    (activity : Activity) (base : Container) (since : ℕ)
    (end : SourceEnd) (after : ℕ) (ready : List ℕ) : Type 0 where
  pub ending : (n : ℕ) → since ≤ n
      → let outs = tries_on ts (known_after most es n) (output_of_scope ts depth) g a activity base in let e = ended
      (tried activity (length outs) (last_or None outs)) outs in
      is_settled e ≡ true → (end ≡ e) × (after ≤ n)
  pub inside : (i : ℕ) → since ≤ i → IsShownReady es s
      (tried_rows ts depth most es s activity i (tries_on ts (known_after most es i)
      (output_of_scope ts depth) g a activity base)
      (starts (suc most) (gives ts (known_after most es i) (output_of_scope ts depth) activity.name activity.work)
      (trial g a activity base) 1 base)) i → Contains ready i

-- what is kept tells of a source all that is settled after n completions
abbrev pub Tells : ℕ → List SourceEnd → List ℕ → Ends → ℕ → Type 0
Tells n ends afters e b = is_settled (e b) ≡ true → (ends_of ends b ≡ e b) × (after_of afters b ≤ n)

abbrev pub TellsControls : ℕ → List SourceEnd → List ℕ → Ends → List Control → ℕ → Type 0
TellsControls n ends afters e controls a = All (λ c. c.to ≡ a → Tells n ends afters e c.from) controls

abbrev pub TellsLines : ℕ → List SourceEnd → List ℕ → Ends → List DataLine → ℕ → Type 0
TellsLines n ends afters e lines a = All (λ l. l.to ≡ At a → (b : ℕ) → l.from ≡ At b → Tells n ends afters e b) lines

-- the attempts of an activity whose join is true, by how the others have ended
pub record IsWholeOpen (ts : List Template) (depth most : ℕ) (es : List Entry) (g : Graph) (input : Container)
    (s : Path) (ends : List SourceEnd) (afters : List ℕ) (a : ℕ)
    (activity : Activity) (since : ℕ) (end : SourceEnd) (after : ℕ) (ready : List ℕ) : Type 0 where
  pub ending : (n : ℕ) (e : Ends) → since ≤ n → TellsLines n ends afters e (out-Graph g).lines a
      → let outs = attempts_at ts (known_after most es n) (output_of_scope ts depth) g input e a
      (Some activity) in let f = ended (tried activity (length outs) (last_or None outs)) outs in
      is_settled f ≡ true → (end ≡ f) × (after ≤ n)
  pub inside : (i : ℕ) (e : Ends) → since ≤ i → TellsLines i ends afters e (out-Graph g).lines a
      → is_fed (out-Graph g).lines a e ≡ true → IsShownReady es s
      (tried_rows ts depth most es s activity i (attempts_at ts (known_after most es i)
      (output_of_scope ts depth) g input e a (Some activity))
      (if is_fed (out-Graph g).lines a e
      then starts (suc most) (gives ts (known_after most es i) (output_of_scope ts depth) activity.name activity.work)
      (trial g a activity (base_of g activity a input e)) 1 (base_of g activity a input e)
      else [])) i → Contains ready i

-- all that feeds an activity whose join is known is settled, as in a graph that is well
abbrev pub IsFedWhereKnown : Graph → Ends → ℕ → Type 0
IsFedWhereKnown g e a =
    list_any is_none (map (λ c. connector_value (out-Graph g).controls c (e c.from))
    (filter (λ c. c.to == a) (out-Graph g).controls)) ≡ false → is_fed (out-Graph g).lines a e ≡ true

-- the activity at a place
pub record IsWholeFound (ts : List Template) (depth most : ℕ) (es : List Entry) (g : Graph) (input : Container)
    (s : Path) (since : ℕ) (ends : List SourceEnd) (afters : List ℕ) (a : ℕ)
    (activity : Option Activity) (end : SourceEnd) (after : ℕ) (ready : List ℕ) : Type 0 where
  pub ending : (n : ℕ) (e : Ends) → since ≤ n → TellsControls n ends afters e (out-Graph g).controls a
      → TellsLines n ends afters e (out-Graph g).lines a
      → let f = end_by_ends ts depth (known_after most es n) g input e a activity in is_settled f ≡ true
      → (end ≡ f) × (after ≤ n)
  pub inside : (i : ℕ) (e : Ends) → since ≤ i → TellsControls i ends afters e (out-Graph g).controls a
      → TellsLines i ends afters e (out-Graph g).lines a → IsFedWhereKnown g e a
      → IsShownReady es s (rows_by_ends ts depth (known_after most es i) g input s e a activity) i → Contains ready i

-- an activity that runs a graph
abbrev pub IsNested : Work → Type 0
IsNested (Program p) = ⊥
IsNested (Block h) = Unit {0}
IsNested (Process t) = Unit {0}

-- one level further in
abbrev pub WellBelow : List Template → ℕ → Graph → Type 0
WellBelow ts depth h = (d : ℕ) → depth ≡ suc d → Well ts d h
