-- What the word `fate` answers.
use Rattle.std.specs.Prelude.{◌≡◌, ℕ, ◌<◌, ◌-◌, ◌⊎◌, Option, Some, None, List, [], ◌∷◌, ◌++◌, bytes_eq, codes, length}
use Rattle.std.specs.Prelude.{slice_get, unwrap_or}
use Rattle.std.specs.List.{flat_map}
use Rattle.std.specs.Fmt.{decimal}
use Rattle.flow_model.specs.Containers.{fresh}
use Rattle.flow_model.specs.Rows.{fate_rows, fate_output, AreReady, IsReadyBy}
use Rattle.flow_model.specs.declared.graphs.Container.{Container}
use Rattle.flow_model.specs.declared.graphs.Graph.{Graph, out-Graph}
use Rattle.flow_model.specs.declared.graphs.Leaves.{Leaves}
use Rattle.flow_model.specs.declared.graphs.Template.{Template}
use Rattle.flow_model.specs.declared.instances.Fact.{Fact}
use Rattle.flow_model.specs.declared.instances.FateRow.{FateRow}
use Rattle.flow_model.specs.declared.trees.ProcessTree.{ProcessTree}
use Rattle.flow_model.specs.declared.trees.Tree.{Tree}
use Rattle.reply_text.specs.Leaves.{container_text}
use Rattle.reply_text.specs.Replies.{row_text}
use Rattle.text_words.specs.Answers.{no_imports, Tells, Refuses, RefusesFirst}
use Rattle.template_check.specs.Judged.{IsFaultless}
use Rattle.template_check.specs.Built.{AreSound}
use Rattle.process_rules.specs.Calling.{before_this}
use Rattle.template_check.specs.Compiling.{AreLeavesOf, HasTree, IsNamedBy}
use Rattle.process_rules.specs.Imports.{last_place}
use Rattle.template_check.specs.Meant.{Reading, AreMeantFrom}
use Rattle.text_graphs.specs.Texts.{processes_in}
use Rattle.text_words.specs.declared.check.Answer.{Answer}
use Rattle.text_words.specs.declared.completions.LineFault.{LineFault}
use Rattle.text_words.specs.declared.completions.LineFault.TheVariants.{Word, Target, Value}
use Rattle.text_words.specs.declared.completions.Read.{Read}
use Rattle.text_words.specs.declared.input.Numbered.{Numbered}
use Rattle.text_words.specs.Completions.{IsRead}

-- DONE where the root has an output, else OPEN
abbrev pub state_word : Option Container → List ℕ
state_word (Some output) = codes "DONE "
state_word None = codes "OPEN "

-- a line that ends with a number
abbrev pub counted : List ℕ → ℕ → List ℕ
counted words number = words ++ decimal number ++ 10 ∷ []

-- a line with the number of values, and a line for each
abbrev pub complete_text : Leaves → Container → List ℕ
complete_text of output = counted (codes "ok OUTPUT 1 ") (length output.values) ++ container_text of output

-- the output of a root, where it has one
abbrev pub output_text : Leaves → Option Container → List ℕ
output_text of None = []
output_text of (Some output) = complete_text of output

-- the state and the number of rows, a line for each row, and the output of a root that is complete
abbrev pub fates_text : Leaves → List FateRow → Option Container → List ℕ
fates_text of rows output = codes "ok FATE " ++ state_word output ++ decimal (length rows) ++ 10 ∷ []
    ++ flat_map row_text rows ++ output_text of output

-- the fates of root 1 of a process by these completions
abbrev pub fates_by : List Template → Graph → List Fact → List ℕ
fates_by ts g facts =
    let input = fresh (out-Graph g).input in
    fates_text (out-Graph g).output (fate_rows ts g 1 input (length facts) facts)
    (fate_output ts g input (length facts) facts)

-- the refusal of a line whose item could be ready
abbrev pub RefusesLine : Answer → ℕ → LineFault → Type 0
RefusesLine answer line (Word place) = Refuses answer (codes "WORD") (line ∷ place ∷ [])
RefusesLine answer line Target = Refuses answer (codes "NOTREADY") (line ∷ [])
RefusesLine answer line (Value place) = Refuses answer (codes "VALUE") (line ∷ place ∷ [])

-- the text of the fates, unless a line can't be accepted
abbrev pub TellsFates : Answer → List ℕ → Option (ℕ × LineFault) → Type 0
TellsFates answer text None = Tells answer text
TellsFates answer text (Some fault) = RefusesLine answer fault.0 fault.1

-- each completion is ready by those before it, and so the fates are told
pub record IsAccepted (answer : Answer) (ts : List Template) (g : Graph) (read : Read) : Type 0 where
  pub ready : AreReady ts g 1 (fresh (out-Graph g).input) read.counted.facts.items (length read.counted.facts.items)
  pub tells : TellsFates answer (fates_by ts g read.counted.facts.items) read.fault

-- completion n is the first that isn't ready by those before it, and its line is named
pub record IsNotReady (answer : Answer) (ts : List Template) (g : Graph) (read : Read) (n : ℕ) : Type 0 where
  pub within : n < length read.counted.facts.items
  pub before : AreReady ts g 1 (fresh (out-Graph g).input) read.counted.facts.items n
  pub here : (f : Fact) → slice_get read.counted.facts.items n ≡ Some f
      → IsReadyBy ts g 1 (fresh (out-Graph g).input) read.counted.facts.items n f → ⊥
  pub refuses : Refuses answer (codes "NOTREADY") (unwrap_or (slice_get read.lines.items n) 0 ∷ [])

-- the answer to the completions that were read
abbrev pub AnswersRead : Answer → List Template → Graph → Read → Type 0
AnswersRead answer ts g read = IsAccepted answer ts g read ⊎ (n : ℕ) × IsNotReady answer ts g read n

-- the last process of the text, by the completions that were read
pub record IsOfLast (answer : Answer) (ts : List Template) (last : Template) (read : Read) : Type 0 where
  pub there : slice_get ts (length ts - 1) ≡ Some last
  pub answers : AnswersRead answer ts last.graph read

-- the answer over the processes of a text: there is none, or the last one is asked by exactly the completions that the
-- lines behind it say
abbrev pub AnswersLibrary : Answer → List Template → List Numbered → Type 0
AnswersLibrary answer ts behind = ((ts ≡ []) × Refuses answer (codes "PROCESS") []) ⊎ (last : Template) × (read : Read)
    × IsOfLast answer ts last read × IsRead ts last.graph behind read

-- the number of the process that an activity in the process of this number runs by a name: it stands before in the text
abbrev pub number_named : List ProcessTree → ℕ → List ℕ → Option ℕ
number_named processes number name = before_this number (last_place (λ p. bytes_eq p.name.name name) processes)

-- the graphs of these templates are what a text means behind an empty library: there is one reading of its names, the
-- same
-- for all its processes, by which each is meant; its leaves are those of the structures, and a process stands at the
-- place of
-- its number
pub record IsMeantAlone (text : List ℕ) (ts : List Template) : Type 0 where
  pub tree : Tree
  pub has : HasTree text tree
  pub reading : Reading
  pub leaves : AreLeavesOf tree.items reading.leaves
  pub places : (number : ℕ) (name : List ℕ) → reading.place number name
      ≡ number_named (processes_in tree.items) number name
  pub meant : AreMeantFrom reading 0 (processes_in tree.items) ts

-- the processes of a text, in order, by their names and with the graphs that the text means, each of them sound
pub record IsAnsweredBy (text : List ℕ) (answer : Answer) (ts : List Template) (behind : List Numbered) : Type 0 where
  pub named : IsNamedBy text ts
  pub meant : IsMeantAlone text ts
  pub sound : AreSound ts
  pub answers : AnswersLibrary answer ts behind

-- the answer to a text that has an end: the refusal of the first rule that it breaks, or it breaks none, and this is
-- the answer
-- over its processes
abbrev pub AnswersText : List ℕ → Answer → List Numbered → Type 0
AnswersText text answer behind = RefusesFirst text answer
    ⊎ (IsFaultless no_imports text × (ts : List Template) × IsAnsweredBy text answer ts behind)
