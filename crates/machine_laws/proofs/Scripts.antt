-- A script has one list of replies, and leads to one state.
use Rattle.std.proofs.Common.{◌≡◌, ℕ, Bool, true, false, List, [], ◌∷◌, Option, Some, None, refl, sym, ap, ap₂, subst}
use Rattle.std.proofs.Common.{◌∙◌, ◌+◌, arith}
use Rattle.flow_core.specs.Answers.{view_text, worklist_text}
use Rattle.flow_core.specs.Containing.{input_text}
use Rattle.flow_model.specs.declared.commands.Command.{Command}
use Rattle.flow_model.specs.declared.commands.Command.TheVariants.{Import, Start, Turn, Drain, Claim, Release, Transfer}
use Rattle.flow_model.specs.declared.commands.Command.TheVariants.{Take, Done, Force, Restart, Suspend, Resume}
use Rattle.flow_model.specs.declared.commands.Command.TheVariants.{Terminate, Delete, Clock, Checkpoint, Ask}
use Rattle.flow_model.specs.declared.commands.Query.{Query}
use Rattle.flow_model.specs.declared.commands.Query.TheVariants as ask
use Rattle.flow_model.specs.ScopeContainers.{graph_of}
use Rattle.flow_model.specs.declared.graphs.Graph.{Graph}
use Rattle.flow_model.specs.declared.graphs.PersonDef.{PersonDef}
use Rattle.flow_model.specs.declared.graphs.Template.{Template}
use Rattle.flow_model.specs.declared.instances.FateRow.{FateRow}
use Rattle.flow_model.specs.declared.instances.Path.{Path}
use Rattle.machine.specs.Rows.{Scopes}
use Rattle.machine.specs.States.{Root, State, templates}
use Rattle.machine.specs.Answers.{IsAnswer, IsListed, InputSays, item_input, AreAllRows, ViewSays, ShowSays}
use Rattle.machine.specs.Answers.{root_path}
use Rattle.machine.specs.Verdicts.{Subject, person_of, between, mode_in}
use Rattle.machine.specs.Scripts.{Unended, no_lines, is_end, long_text, word_text}
use Rattle.machine.specs.Scripts.{Given, Line, Long, End, Answers, IsCommanded, IsObeyed, Reads}
use Rattle.machine.specs.Scripts.{AsLong, AsBlank, AsCommand, AsWrong, ServesRead, ServesLine}
use Rattle.machine.specs.Scripts.{ServesText, ServesTextLine, ServesInput, Sitting, Replies}
use Rattle.machine_laws.proofs.Draining.{drain_one}
use Rattle.machine_laws.proofs.Ordering.{worklist_one}
use Rattle.machine_laws.proofs.Reading.{line_read_one}
use Rattle.machine_laws.proofs.Verdicts.{named_one, commands}
use Rattle.worklist_laws.proofs.Spelled.{spells_one}

abbrev One : State → State → Option Unended → Option Unended → List ℕ → List ℕ → Type 0
One s s' u u' r r' = (s ≡ s') × (u ≡ u') × (r ≡ r')

answers_one : (old s s' : State) (g u u' : Option Unended) (text r r' : List ℕ) → Answers old s g u text r
    → Answers old s' g u' text r' → One s s' u u' r r'
answers_one old s s' g u u' text r r' a b =
    (a.same ∙ sym b.same, a.gathers ∙ sym b.gathers, a.replies ∙ sym b.replies)

obeyed_one : (old s s' : State) (command : Command) (u u' : Option Unended) (r r' : List ℕ)
    → IsObeyed old s command r × (u ≡ None) → IsObeyed old s' command r' × (u' ≡ None) → One s s' u u' r r'
obeyed_one old s s' command u u' r r' a b =
    let same = commands old s s' command r r' a.0 b.0 in (same.0, a.1 ∙ sym b.1, same.1)

-- ---- queries

-- the rows with all levels are one list: with as many levels as are enough for both
rows_one : (ts : List Template) (g : Graph) (s : Scopes) (path : Path) (xs ys : List FateRow)
    → AreAllRows ts g s path xs → AreAllRows ts g s path ys → xs ≡ ys
rows_one ts g s path xs ys a b =
    a.all (a.enough + b.enough) (omega arith) ∙ sym (b.all (a.enough + b.enough) (omega arith))

view_one : (ts : List Template) (root : ℕ) (r : Root) (o : Option Graph) (x y : List ℕ) → ViewSays ts root r o x
    → ViewSays ts root r o y → x ≡ y
view_one ts root r None x y a b = a ∙ sym b
view_one ts root r (Some g) x y a b =
    a.2 ∙ ap (view_text root (mode_in r)) (rows_one ts g r.scopes (root_path root) a.0 b.0 a.1 b.1) ∙ sym b.2

show_one : (ts : List Template) (root : ℕ) (o : Option Root) (x y : List ℕ) → ShowSays ts root o x
    → ShowSays ts root o y → x ≡ y
show_one ts root None x y a b = a ∙ sym b
show_one ts root (Some r) x y a b = view_one ts root r (graph_of ts r.template) x y a b

says_one : (token : List ℕ) (o : Option Subject) (r r' : List ℕ) → InputSays token o r → InputSays token o r' → r ≡ r'
says_one token None r r' a b = a ∙ sym b
says_one token (Some s) r r' a b =
    a.2 ∙ ap (λ p. input_text p s.item.activity.input (item_input s.item))
    (spells_one (between token) a.0 b.0 a.1 b.1) ∙ sym b.2

listed_one : (s : State) (name : List ℕ) (o : Option PersonDef) (r r' : List ℕ) → IsListed s name o r
    → IsListed s name o r' → r ≡ r'
listed_one s name None r r' a b = a ∙ sym b
listed_one s name (Some person) r r' a b =
    a.2 ∙ ap (worklist_text name) (worklist_one s person a.0 b.0 a.1 b.1) ∙ sym b.2

pub answer_one : (s : State) (query : Query) (r r' : List ℕ) → IsAnswer s query r → IsAnswer s query r' → r ≡ r'
answer_one s (ask.Show root) r r' a b = show_one (templates s) root (s.roots root) r r' a b
answer_one s (ask.Output root) r r' a b = a ∙ sym b
answer_one s (ask.Input token) r r' a b =
    says_one token b.0 r r' (subst (λ o. InputSays token o r) (named_one s token a.0 b.0 a.1 b.1) a.2) b.2
answer_one s (ask.Worklist name) r r' a b = listed_one s name (person_of s name) r r' a b
answer_one s (ask.Queue number) r r' a b = a ∙ sym b
answer_one s (ask.Audit root) r r' a b = a ∙ sym b
answer_one s ask.Templates r r' a b = a ∙ sym b

-- ---- a line

commanded_one : (old s s' : State) (command : Command) (u u' : Option Unended) (r r' : List ℕ)
    → IsCommanded old s command u r → IsCommanded old s' command u' r' → One s s' u u' r r'
commanded_one old s s' (Import text) u u' r r' a b = answers_one old s s' (Some no_lines) u u' [] r r' a b
commanded_one old s s' Drain u u' r r' a b =
    let same = drain_one old s s' r r' a.0 b.0 in (same.0, a.1 ∙ sym b.1, same.1)
commanded_one old s s' Checkpoint u u' r r' a b = answers_one old s s' None u u' _ r r' a b
commanded_one old s s' (Ask query) u u' r r' a b = (a.0 ∙ sym b.0, a.1 ∙ sym b.1, answer_one old query r r' a.2 b.2)
commanded_one old s s' (Start process starter key written) u u' r r' a b =
    obeyed_one old s s' (Start process starter key written) u u' r r' a b
commanded_one old s s' (Turn queue) u u' r r' a b = obeyed_one old s s' (Turn queue) u u' r r' a b
commanded_one old s s' (Claim token name) u u' r r' a b = obeyed_one old s s' (Claim token name) u u' r r' a b
commanded_one old s s' (Release token name) u u' r r' a b = obeyed_one old s s' (Release token name) u u' r r' a b
commanded_one old s s' (Transfer token from to) u u' r r' a b =
    obeyed_one old s s' (Transfer token from to) u u' r r' a b
commanded_one old s s' (Take token) u u' r r' a b = obeyed_one old s s' (Take token) u u' r r' a b
commanded_one old s s' (Done token by outcome) u u' r r' a b =
    obeyed_one old s s' (Done token by outcome) u u' r r' a b
commanded_one old s s' (Force token outcome) u u' r r' a b =
    obeyed_one old s s' (Force token outcome) u u' r r' a b
commanded_one old s s' (Restart token) u u' r r' a b = obeyed_one old s s' (Restart token) u u' r r' a b
commanded_one old s s' (Suspend root) u u' r r' a b = obeyed_one old s s' (Suspend root) u u' r r' a b
commanded_one old s s' (Resume root) u u' r r' a b = obeyed_one old s s' (Resume root) u u' r r' a b
commanded_one old s s' (Terminate root) u u' r r' a b = obeyed_one old s s' (Terminate root) u u' r r' a b
commanded_one old s s' (Delete root) u u' r r' a b = obeyed_one old s s' (Delete root) u u' r r' a b
commanded_one old s s' (Clock number) u u' r r' a b = obeyed_one old s s' (Clock number) u u' r r' a b

read_one : (old s s' : State) (what : Reads) (u u' : Option Unended) (r r' : List ℕ) → ServesRead what old s u r
    → ServesRead what old s' u' r' → One s s' u u' r r'
read_one old s s' AsLong u u' r r' a b = answers_one old s s' None u u' long_text r r' a b
read_one old s s' AsBlank u u' r r' a b = answers_one old s s' None u u' [] r r' a b
read_one old s s' (AsCommand command) u u' r r' a b = commanded_one old s s' command u u' r r' a b
read_one old s s' (AsWrong place) u u' r r' a b = answers_one old s s' None u u' (word_text place) r r' a b

line_one : (line : List ℕ) (old s s' : State) (u u' : Option Unended) (r r' : List ℕ) → ServesLine line old s u r
    → ServesLine line old s' u' r' → One s s' u u' r r'
line_one line old s s' u u' r r' a b =
    read_one old s s' b.0 u u' r r' (subst (λ what. ServesRead what old s u r)
    (line_read_one line a.0 b.0 a.1 b.1) a.2) b.2

-- ---- an input

text_one : (long : Bool) (text : List ℕ) (old s s' : State) (u u' : Option Unended) (r r' : List ℕ)
    → ServesText long text old s u r → ServesText long text old s' u' r' → One s s' u u' r r'
text_one true text old s s' u u' r r' a b = answers_one old s s' None u u' long_text r r' a b
text_one false text old s s' u u' r r' a b = obeyed_one old s s' (Import text) u u' r r' a b

text_line_one : (ends : Bool) (g : Unended) (line : List ℕ) (old s s' : State) (u u' : Option Unended)
    (r r' : List ℕ) → ServesTextLine ends g line old s u r → ServesTextLine ends g line old s' u' r'
    → One s s' u u' r r'
text_line_one true g line old s s' u u' r r' a b = text_one g.has_long g.text old s s' u u' r r' a b
text_line_one false g line old s s' u u' r r' a b = answers_one old s s' _ u u' [] r r' a b

input_one : (g : Option Unended) (input : Given) (old s s' : State) (u u' : Option Unended) (r r' : List ℕ)
    → ServesInput g input old s u r → ServesInput g input old s' u' r' → One s s' u u' r r'
input_one None (Line line) old s s' u u' r r' a b = line_one line old s s' u u' r r' a b
input_one None Long old s s' u u' r r' a b = answers_one old s s' None u u' long_text r r' a b
input_one None End old s s' u u' r r' a b = answers_one old s s' None u u' [] r r' a b
input_one (Some g) (Line line) old s s' u u' r r' a b =
    text_line_one (is_end line) g line old s s' u u' r r' a b
input_one (Some g) Long old s s' u u' r r' a b = answers_one old s s' _ u u' [] r r' a b
input_one (Some g) End old s s' u u' r r' a b = answers_one old s s' None u u' _ r r' a b

-- ---- a script

pub scripts : (inputs : List Given) (a b c : Sitting) (rs rs' : List (List ℕ)) → Replies a inputs rs b
    → Replies a inputs rs' c → (b ≡ c) × (rs ≡ rs')
scripts [] a b c [] [] x y = (x ∙ sym y, refl)
scripts [] a b c [] (r ∷ rs) x y = absurd y
scripts [] a b c (r ∷ rs) rs' x y = absurd x
scripts (i ∷ is) a b c [] rs' x y = absurd x
scripts (i ∷ is) a b c (r ∷ rs) [] x y = absurd y
scripts (i ∷ is) a b c (r ∷ rs) (r' ∷ rs') x y =
    let one = input_one a.unended i a.state x.0.state y.0.state x.0.unended y.0.unended r r' x.1 y.1 in
    let mid : x.0 ≡ y.0 = λ j. record { state = one.0 j; unended = one.1 j } in
    let rest = scripts is y.0 b c rs rs' (subst (λ m. Replies m is rs b) mid x.2) y.2 in
    (rest.0, ap₂ (λ q qs. q ∷ qs) one.2 rest.1)
