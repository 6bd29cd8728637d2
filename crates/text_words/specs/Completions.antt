-- What the lines behind a text say in turn: completions of root 1, up to the first line that can't be accepted.
use Rattle.std.specs.Prelude.{◌≡◌, ◌⊎◌, ℕ, ◌+◌, ◌-◌, ◌^◌, ◌≤◌, ◌<◌, min, Option, Some, None, Result, Ok, Err, List, []}
use Rattle.std.specs.Prelude.{◌∷◌, ◌++◌, length, bytes_eq}
use Rattle.std.specs.List.{All, find}
use Rattle.std.specs.Option.{option_and_then}
use Rattle.command_lang.specs.Reading.{AreLineTokens, SaysCompletion, IsOnlyCompletion, IsRefusal, RefusesFirst}
use Rattle.command_lang.specs.Refusing.{SomeCompletion}
use Rattle.command_lang.specs.declared.reading.CommandFault.TheVariants.{Word as WordAt}
use Rattle.containers.specs.Settings.{filled, outcome_by}
use Rattle.flow_model.specs.Containers.{fresh}
use Rattle.flow_model.specs.ScopeContainers.{graph_in}
use Rattle.flow_model.specs.declared.commands.Completion.{Completion}
use Rattle.flow_model.specs.declared.commands.Outcome.{Outcome}
use Rattle.flow_model.specs.declared.commands.Target.{Target as TargetOf}
use Rattle.flow_model.specs.declared.commands.Target.TheVariants as target
use Rattle.flow_model.specs.declared.graphs.Activity.{Activity}
use Rattle.flow_model.specs.declared.graphs.Container.{Container}
use Rattle.flow_model.specs.declared.graphs.Graph.{Graph, out-Graph}
use Rattle.flow_model.specs.declared.graphs.Template.{Template}
use Rattle.flow_model.specs.declared.graphs.Work.{Work}
use Rattle.flow_model.specs.declared.graphs.Work.{Program, Block, Process}
use Rattle.flow_model.specs.declared.instances.Fact.{Fact}
use Rattle.flow_model.specs.declared.instances.Part.{Part}
use Rattle.flow_model.specs.declared.instances.Path.{Path}
use Rattle.flow_model.specs.declared.transactions.Setting.{Setting}
use Rattle.text_words.specs.Attempts.{next_of}
use Rattle.text_words.specs.Items.{WritesItem}
use Rattle.text_words.specs.declared.completions.LineFault.{LineFault}
use Rattle.text_words.specs.declared.completions.LineFault.TheVariants.{Word, Target, Value}
use Rattle.text_words.specs.declared.completions.Read.{Read}
use Rattle.text_words.specs.declared.input.Numbered.{Numbered}

-- ---- what was read

-- completions, the number of the line of each, and the first line that can't be accepted with its fault
pub record Said : Type 0 where
  pub facts : List Fact
  pub lines : List ℕ
  pub fault : Option (ℕ × LineFault)

-- nothing was said
abbrev pub unsaid : Said
unsaid = record { facts = []; lines = []; fault = None }

-- what a reading holds
abbrev pub said : Read → Said
said read = record { facts = read.counted.facts.items; lines = read.lines.items; fault = read.fault }

-- the line of this number says one more completion
abbrev pub with_fact : ℕ → Fact → Said → Said
with_fact number fact s = record { facts = s.facts ++ fact ∷ []; lines = s.lines ++ number ∷ []; fault = s.fault }

-- the line of this number can't be accepted
abbrev pub with_fault : ℕ → LineFault → Said → Said
with_fault number fault s = record { facts = s.facts; lines = s.lines; fault = Some (number, fault) }

-- ---- which item a line completes

-- the item that a target names: the attempt of an activity of the root scope that may be ready, or the path that is
-- written
abbrev pub NamesItem : List Fact → TargetOf → Option Path → Type 0
NamesItem facts (target.Activity name) item = item ≡ Some (next_of name facts)
NamesItem facts (target.Item token) item = WritesItem token item

-- the activity of this name
abbrev pub activity_of : List ℕ → Graph → Option Activity
activity_of name g = find (λ (a : Activity). bytes_eq a.name name) (out-Graph g).activities

-- the graph that the activity of this name runs
abbrev pub graph_below : List Template → List ℕ → Graph → Option Graph
graph_below ts name g = option_and_then (λ (a : Activity). graph_in ts a.work) (activity_of name g)

-- the activity to which these steps lead down from a graph, through blocks and subprocesses
abbrev pub activity_at : List Template → List Part → Graph → Option Activity
activity_at ts [] g = None
activity_at ts (q ∷ []) g = activity_of q.name g
activity_at ts (q ∷ r ∷ qs) g = option_and_then (activity_at ts (r ∷ qs)) (graph_below ts q.name g)

-- an activity, if it runs a program
abbrev pub if_program : Activity → Work → Option Activity
if_program a (Program p) = Some a
if_program a (Block g) = None
if_program a (Process k) = None

-- the program activity to which these steps lead down
abbrev pub program_at : List Template → List Part → Graph → Option Activity
program_at ts qs g = option_and_then (λ (a : Activity). if_program a a.work) (activity_at ts qs g)

-- ---- what a completion says

-- the settings that an outcome writes for the output of an activity, or the place of the first that is wrong
abbrev pub AreSettings : Activity → Outcome → Result (List Setting) ℕ → Type 0
AreSettings a o made = made ≡ outcome_by a.output o.rc o.settings

-- the item is completed with its settings; if a value is refused, the item counts with its first output, since only an
-- item that is ready has its values judged
abbrev pub with_settings : ℕ → Path → Container → Result (List Setting) ℕ → Said → Said
with_settings number item output (Ok settings) s = with_fact number
    (record { item = item; output = filled settings output }) s
with_settings number item output (Err place) s =
    with_fact number (record { item = item; output = output })
    (with_fault number (Value (min (place + 1) (2 ^ 32 - 1))) s)

-- what is said of an item, by the activity that it is of: it can't be ready where there is none
abbrev pub SaysOf : ℕ → Outcome → Path → Option Activity → Said → Said → Type 0
SaysOf number o item None old new = new ≡ with_fault number Target old
SaysOf number o item (Some a) old new =
    (made : Result (List Setting) ℕ) × AreSettings a o made
    × (new ≡ with_settings number item (fresh a.output) made old)

-- what is said of the item that a target names
abbrev pub SaysItem : List Template → Graph → ℕ → Outcome → Option Path → Said → Said → Type 0
SaysItem ts g number o None old new = new ≡ with_fault number Target old
SaysItem ts g number o (Some item) old new = SaysOf number o item (program_at ts item.parts g) old new

-- a completion is said of the item that its target names
pub record SaysIt (ts : List Template) (g : Graph) (number : ℕ) (c : Completion) (old new : Said) : Type 0 where
  pub item : Option Path
  pub named : NamesItem old.facts c.target item
  pub says : SaysItem ts g number c.outcome item old new

-- ---- what a line says

-- blanks and comments alone, which say nothing
pub record IsBlank (line : List ℕ) (old new : Said) : Type 0 where
  pub short : length line ≤ 65536
  pub blank : AreLineTokens line []
  pub same : new ≡ old

-- a completion, and no other
pub record IsCompletionLine (ts : List Template) (g : Graph) (line : Numbered) (old new : Said) : Type 0 where
  pub short : length line.line.items ≤ 65536
  pub completion : Completion
  pub spoken : SaysCompletion line.line.items (Some completion)
  pub one : IsOnlyCompletion line.line.items (Some completion)
  pub says : SaysIt ts g line.number completion old new

-- the line says no completion, and this is the place: of its first wrong byte, or of the first token that can't stand
-- there
pub record IsWrongAt (line : List ℕ) (place : ℕ) : Type 0 where
  pub refused : IsRefusal line (WordAt place)
  pub none : IsOnlyCompletion line None
  pub first : RefusesFirst SomeCompletion line (WordAt place)

-- the place for which a line is refused: behind the longest line that can be served, or where it is wrong
abbrev pub IsWordPlace : List ℕ → ℕ → Type 0
IsWordPlace line place = (65536 < length line) × (place ≡ 65537) ⊎ (length line ≤ 65536) × IsWrongAt line place

-- a line that is refused
pub record IsRefusedLine (line : Numbered) (old new : Said) : Type 0 where
  pub place : ℕ
  pub there : IsWordPlace line.line.items place
  pub stops : new ≡ with_fault line.number (Word place) old

-- what a line says: nothing, a completion, or that it is refused
abbrev pub SaysLine : List Template → Graph → Numbered → Said → Said → Type 0
SaysLine ts g line old new =
    IsBlank line.line.items old new ⊎ (IsCompletionLine ts g line old new ⊎ IsRefusedLine line old new)

-- a line says what it says, and nothing where one before it can't be accepted
abbrev pub SaysBehind : List Template → Graph → Numbered → Option (ℕ × LineFault) → Said → Said → Type 0
SaysBehind ts g line None old new = SaysLine ts g line old new
SaysBehind ts g line (Some fault) old new = new ≡ old

-- ---- what lines say

-- these lines lead in turn from what was said before them to what is said with them
abbrev pub AreRead : List Template → Graph → List Numbered → Said → Said → Type 0
AreRead ts g [] old new = new ≡ old
AreRead ts g (line ∷ lines) old new = (mid : Said) × SaysBehind ts g line old.fault old mid × AreRead ts g lines mid new

-- exactly what these lines say was read
abbrev pub IsRead : List Template → Graph → List Numbered → Read → Type 0
IsRead ts g lines read = AreRead ts g lines unsaid (said read)

-- each of these completions is of root 1
abbrev pub AreOfOne : List Fact → Type 0
AreOfOne facts = All (λ (fact : Fact). fact.item.root ≡ 1) facts
