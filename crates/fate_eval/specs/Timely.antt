-- What a pass finds is so after the number of completions that it tells: how activities have ended, what attempts gave,
-- and which completions are ready in their turn.
use Rattle.std.specs.Prelude.{◌≡◌, ℕ, suc, ◌+◌, ◌≤◌, true, ◌⊎◌, if◌then◌else◌, unwrap_or, Option, Some, None, List, []}
use Rattle.std.specs.Prelude.{◌∷◌, ◌++◌, length, slice_get}
use Rattle.std.specs.List.{All, Contains, last_or}
use Rattle.std.specs.Option.{option_map}
use Rattle.blocks_subprocs.specs.Ends.{ends_of}
use Rattle.flow_model.specs.Containers.{with_return_code}
use Rattle.flow_model.specs.Fates.{Ends, tried, ended, is_settled, goes_on}
use Rattle.flow_model.specs.Rows.{rows_below, rows as rows_in, below}
use Rattle.flow_model.specs.ScopeContainers.{graph_in, base_of}
use Rattle.flow_model.specs.Scopes.{Start, at, part, gives, trial, starts, is_fed, tries_on, attempts_at}
use Rattle.flow_model.specs.Scopes.{output as output_of_scope}
use Rattle.flow_model.specs.declared.graphs.Activity.{Activity}
use Rattle.flow_model.specs.declared.graphs.Container.{Container}
use Rattle.flow_model.specs.declared.graphs.Control.{Control}
use Rattle.flow_model.specs.declared.graphs.DataLine.{DataLine}
use Rattle.flow_model.specs.declared.graphs.Graph.{Graph, out-Graph}
use Rattle.flow_model.specs.declared.graphs.MapEnd.TheVariants.{Activity as At}
use Rattle.flow_model.specs.declared.graphs.Template.{Template}
use Rattle.flow_model.specs.declared.instances.Fate.TheVariants.{Ready}
use Rattle.flow_model.specs.declared.instances.FateRow.{FateRow}
use Rattle.flow_model.specs.declared.instances.Part.{Part}
use Rattle.flow_model.specs.declared.instances.Path.{Path}
use Rattle.flow_model.specs.declared.instances.SourceEnd.{SourceEnd}
use Rattle.flow_model.specs.declared.instances.SourceEnd.TheVariants.{Unsettled}
use Rattle.fate_eval.specs.Entries.{Dated, dated_in, by_then, known_after}
use Rattle.fate_eval.specs.Passing.{rows_inside, rows_by_ends, end_by_ends}
use Rattle.fate_eval.specs.declared.accepted.Entry.{Entry}

-- ---- one completion

-- the rows show the item of completion i ready, which lies below a scope
pub record IsShownReady (es : List Entry) (s : Path) (rows : List FateRow) (i : ℕ) : Type 0 where
  pub scope : Path
  pub last : Part
  pub rest : List Part
  pub output : Container
  pub item : below scope last ≡ record { root = s.root; parts = s.parts ++ rest }
  pub dated : dated_in es rest ≡ Some (record { after = i + 1; output = output })
  pub shown : Contains rows (record { scope = scope; name = last.name; fate = Ready last.attempt })

-- completion i is that of attempt j of a program activity, which has given nothing before it
pub record IsOwnItem (ts : List Template) (depth most : ℕ) (es : List Entry) (activity : Activity) (j : ℕ)
    (input : Container) (i : ℕ) : Type 0 where
  pub open_ : goes_on activity.work j ≡ Ready j
  pub none : gives ts (known_after most es i) (output_of_scope ts depth) activity.name activity.work j input ≡ None
  pub output : Container
  pub dated : dated_in es (part activity.name j ∷ []) ≡ Some (record { after = i + 1; output = output })

-- ---- ends, and what knows them in time

-- after how many completions it is known how the activity at a place has ended
abbrev pub after_of : List ℕ → ℕ → ℕ
after_of afters b = unwrap_or (slice_get afters b) 0

-- what was settled after n completions has ended so
abbrev pub Knows : ℕ → List SourceEnd → List ℕ → Ends → Type 0
Knows n ends afters e = (b : ℕ) → is_settled (ends_of ends b) ≡ true → after_of afters b ≤ n → e b ≡ ends_of ends b

-- a number that is no less than those of the sources of the connectors that lead to an activity
abbrev pub AfterControls : List Control → List ℕ → ℕ → ℕ → Type 0
AfterControls controls afters a known = All (λ c. c.to ≡ a → after_of afters c.from ≤ known) controls

-- nor than those of the activities that feed it
abbrev pub AfterLines : List DataLine → List ℕ → ℕ → ℕ → Type 0
AfterLines lines afters a known = All (λ l. l.to ≡ At a → (b : ℕ) → l.from ≡ At b → after_of afters b ≤ known) lines

-- ---- what is found, with the number of completions after which it is so

-- completion i is that of an attempt, or of an item below it which is shown ready
abbrev pub IsReadyAttempt : List Template → ℕ → ℕ → List Entry → Path → Activity → ℕ → Container → ℕ → Type 0
IsReadyAttempt ts depth most es s activity j input i =
    IsOwnItem ts depth most es activity j input i
    ⊎ IsShownReady es s (rows_below (rows_inside ts depth) (known_after most es i) activity (graph_in ts activity.work)
    (record { attempt = j; input = input } ∷ []) s) i

-- an attempt of a program activity, by what is known of its item
pub record IsTimelyProgram (known : Option Dated) (since : ℕ) (out : Option Container) (after : ℕ)
    (ready : List ℕ) : Type 0 where
  pub later : since ≤ after
  pub gave : (n : ℕ) (o : Container) → out ≡ Some o → after ≤ n → by_then n known ≡ Some o
  pub each : All (λ i. (since ≤ i) × ((o : Container) × (known ≡ Some (record { after = i + 1; output = o })))) ready

-- attempt j, which may begin after this many completions
pub record IsTimelyAttempt (ts : List Template) (depth most : ℕ) (es : List Entry) (s : Path) (activity : Activity)
    (j : ℕ) (input : Container) (since : ℕ)
    (out : Option Container) (after : ℕ) (ready : List ℕ) : Type 0 where
  pub later : since ≤ after
  pub gave : (n : ℕ) (o : Container) → out ≡ Some o → after ≤ n
      → gives ts (known_after most es n) (output_of_scope ts depth) activity.name activity.work j input ≡ Some o
  pub each : All (λ i. (since ≤ i) × IsReadyAttempt ts depth most es s activity j input i) ready

-- an attempt behind the last one that counts, with the completions below those before it
pub record IsTimelyLast (ts : List Template) (depth most : ℕ) (es : List Entry) (s : Path) (activity : Activity) (j : ℕ)
    (input : Container) (since : ℕ)
    (before : List ℕ) (end : SourceEnd) (ready : List ℕ) : Type 0 where
  pub ending : end ≡ Unsettled
  pub each : All (λ i. Contains before i ⊎ ((since ≤ i) × IsReadyAttempt ts depth most es s activity j input i)) ready

-- an attempt that runs a graph
pub record IsTimelyScope (ts : List Template) (depth most : ℕ) (es : List Entry) (s : Path) (q : Part) (g : Graph)
    (input : Container) (since : ℕ)
    (out : Option Container) (after : ℕ) (ready : List ℕ) : Type 0 where
  pub later : since ≤ after
  pub gave : (n : ℕ) (o : Container) → out ≡ Some o → after ≤ n
      → option_map with_return_code (output_of_scope ts (suc depth) (at q (known_after most es n)) g input) ≡ Some o
  pub each : All (λ i. (since ≤ i) × IsShownReady es s
      (rows_in ts depth (at q (known_after most es i)) g input (below s q)) i) ready

-- a scope
pub record IsTimelyPass (ts : List Template) (depth most : ℕ) (es : List Entry) (g : Graph) (input : Container)
    (s : Path) (since : ℕ)
    (out : Option Container) (after : ℕ) (ready : List ℕ) : Type 0 where
  pub later : since ≤ after
  pub gave : (n : ℕ) (o : Container) → out ≡ Some o → after ≤ n
      → output_of_scope ts (suc depth) (known_after most es n) g input ≡ Some o
  pub each : All (λ i. (since ≤ i) × IsShownReady es s (rows_in ts depth (known_after most es i) g input s) i) ready

-- the row of an activity with these outputs, and those below it
abbrev pub tried_rows : List Template → ℕ → ℕ → List Entry → Path → Activity → ℕ → List Container → List Start
    → List FateRow
tried_rows ts depth most es s activity n outs xs =
    record { scope = s; name = activity.name; fate = tried activity (length outs) (last_or None outs) }
    ∷ rows_below (rows_inside ts depth) (known_after most es n) activity (graph_in ts activity.work) xs s

-- the attempts of an activity, of which the first may begin after this many completions
pub record AreTimely (ts : List Template) (depth most : ℕ) (es : List Entry) (g : Graph) (s : Path) (a : ℕ)
    (activity : Activity) (base : Container) (since : ℕ)
    (end : SourceEnd) (after : ℕ) (ready : List ℕ) : Type 0 where
  pub later : is_settled end ≡ true → since ≤ after
  pub ending : (n : ℕ) → is_settled end ≡ true → after ≤ n
      → let outs = tries_on ts (known_after most es n) (output_of_scope ts depth) g a activity base in ended
      (tried activity (length outs) (last_or None outs)) outs ≡ end
  pub each : All (λ i. (since ≤ i) × IsShownReady es s
      (tried_rows ts depth most es s activity i (tries_on ts (known_after most es i)
      (output_of_scope ts depth) g a activity base)
      (starts (suc most) (gives ts (known_after most es i) (output_of_scope ts depth) activity.name activity.work)
      (trial g a activity base) 1 base)) i) ready

-- the attempts of an activity whose join is true after this many completions, by how the others have ended
pub record IsTimelyOpen (ts : List Template) (depth most : ℕ) (es : List Entry) (g : Graph) (input : Container)
    (s : Path) (ends : List SourceEnd) (afters : List ℕ) (a : ℕ)
    (activity : Activity) (since : ℕ) (end : SourceEnd) (after : ℕ) (ready : List ℕ) : Type 0 where
  pub later : is_settled end ≡ true → since ≤ after
  pub ending : (n : ℕ) (e : Ends) → Knows n ends afters e → is_settled end ≡ true → after ≤ n
      → let outs = attempts_at ts (known_after most es n) (output_of_scope ts depth) g input e a
      (Some activity) in ended (tried activity (length outs) (last_or None outs)) outs ≡ end
  pub each : All (λ i. (since ≤ i) × ((e : Ends) → Knows i ends afters e → IsShownReady es s
      (tried_rows ts depth most es s activity i (attempts_at ts (known_after most es i)
      (output_of_scope ts depth) g input e a (Some activity))
      (if is_fed (out-Graph g).lines a e
      then starts (suc most) (gives ts (known_after most es i) (output_of_scope ts depth) activity.name activity.work)
      (trial g a activity (base_of g activity a input e)) 1 (base_of g activity a input e)
      else [])) i)) ready

-- the activity at a place
pub record IsTimelyFound (ts : List Template) (depth most : ℕ) (es : List Entry) (g : Graph) (input : Container)
    (s : Path) (since : ℕ) (ends : List SourceEnd) (afters : List ℕ) (a : ℕ)
    (activity : Option Activity) (end : SourceEnd) (after : ℕ) (ready : List ℕ) : Type 0 where
  pub ending : (n : ℕ) (e : Ends) → Knows n ends afters e → is_settled end ≡ true → after ≤ n
      → end_by_ends ts depth (known_after most es n) g input e a activity ≡ end
  pub each : All (λ i. (since ≤ i) × ((e : Ends) → Knows i ends afters e → IsShownReady es s
      (rows_by_ends ts depth (known_after most es i) g input s e a activity) i)) ready
