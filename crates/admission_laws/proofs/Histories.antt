-- Leaves have names apart in each state to which steps lead.
use Rattle.std.proofs.Common.{◌≡◌, ℕ, List, [], ◌∷◌, ◌++◌, ◌-◌, refl, sym, ap, subst}
use Rattle.std.proofs.lemmas.List.Elements.{All-nil, All-append}
use Rattle.compaction_laws.specs.Compact.{IsRemade, LeadBy, counted_blank, IsMadeAnew}
use Rattle.flow_core.specs.declared.judging.Verdict.TheVariants.{Do}
use Rattle.flow_model.specs.declared.commands.Command.{Command}
use Rattle.flow_model.specs.declared.graphs.Library.{Library}
use Rattle.flow_model.specs.declared.graphs.Template.{Template}
use Rattle.flow_model.specs.declared.transactions.Numbered.{Numbered}
use Rattle.flow_model.specs.declared.transactions.Transaction.{Transaction}
use Rattle.flow_model.specs.declared.transactions.Transaction.TheVariants.{Import, Start, Turn, Claim, Release}
use Rattle.flow_model.specs.declared.transactions.Transaction.TheVariants.{Transfer, Take, Done, Force, Restart}
use Rattle.flow_model.specs.declared.transactions.Transaction.TheVariants.{Suspend, Resume, Terminate, Delete, Clock}
use Rattle.flow_model.specs.declared.trees.Tree.{Tree}
use Rattle.machine.specs.Imports.{Added, nothing_added, Adds, IsMeaning}
use Rattle.machine.specs.States.{State, templates}
use Rattle.machine.specs.Steps.{Steps}
use Rattle.machine.specs.Verdicts.{IsVerdict}
use Rattle.reopening_laws.specs.Making.{MadeByCommands}
use Rattle.text_graphs.specs.Texts.{structures_in}
use Rattle.text_laws.proofs.Trees.{tree_one}
use Rattle.admission_laws.specs.ApartLeaves.{HasLeavesApart, HaveLeavesApart}
use Rattle.admission_laws.proofs.Declared.{declares_once}
use Rattle.admission_laws.proofs.Meant.{templates_apart}
use Rattle.admission_laws.proofs.Structures.{DeclareOnce}

-- ---- what a transaction adds

pub none_apart : HaveLeavesApart []
none_apart = All-nil (λ (t : Template). HasLeavesApart t.graph)

nothing_apart : (added : Added) → added ≡ nothing_added → HaveLeavesApart added.templates
nothing_apart added is = subst (λ (x : Added). HaveLeavesApart x.templates) (sym is) none_apart

meaning_apart : (library : Library) (text : List ℕ) (added : Added) → IsMeaning library text added
    → HaveLeavesApart added.templates
meaning_apart library text added is =
    let meant = is.meant in
    let tree = tree_one text is.faultless.tree meant.tree is.faultless.has meant.has in
    let once : DeclareOnce (structures_in meant.tree.items) =
    subst (λ (t : Tree). DeclareOnce (structures_in t.items)) tree
    (declares_once library is.faultless.tree.items is.faultless.none) in
    templates_apart meant.tree.items meant.reading meant.read.leaves once added.templates meant.meant

added_apart : (library : Library) (t : Transaction) (added : Added) → Adds library t added
    → HaveLeavesApart added.templates
added_apart library (Import text) added is = meaning_apart library text added is
added_apart library (Start root process version starter key settings) added is = nothing_apart added is
added_apart library (Turn queue message) added is = nothing_apart added is
added_apart library (Claim item who) added is = nothing_apart added is
added_apart library (Release item who) added is = nothing_apart added is
added_apart library (Transfer item who to) added is = nothing_apart added is
added_apart library (Take item take) added is = nothing_apart added is
added_apart library (Done item who settings) added is = nothing_apart added is
added_apart library (Force item settings) added is = nothing_apart added is
added_apart library (Restart item) added is = nothing_apart added is
added_apart library (Suspend root) added is = nothing_apart added is
added_apart library (Resume root) added is = nothing_apart added is
added_apart library (Terminate root) added is = nothing_apart added is
added_apart library (Delete root) added is = nothing_apart added is
added_apart library (Clock minutes) added is = nothing_apart added is

-- ---- steps

pub step_apart : (s : State) (t : Transaction) (s' : State) → Steps s t s' → HaveLeavesApart (templates s)
    → HaveLeavesApart (templates s')
step_apart s t s' step apart =
    subst HaveLeavesApart (sym (ap templates step.next))
    (All-append (λ (x : Template). HasLeavesApart x.graph) (templates s) step.added.templates apart
    (added_apart s.library t step.added step.adds))

pub made_apart : (s : State) (ts : List Transaction) (s' : State) → MadeByCommands s ts s'
    → HaveLeavesApart (templates s) → HaveLeavesApart (templates s')
made_apart s [] s' all apart = subst HaveLeavesApart (sym (ap templates all)) apart
made_apart s (t ∷ ts) s' all apart = made_apart all.1 ts s' all.4 (step_apart s t all.1 all.3 apart)

-- ---- records

-- leaves have names apart behind records, since each is a step under its number
records_apart : (P : State → Numbered → Type 0) (s : State) (ns : List Numbered) (s' : State) → LeadBy P s ns s'
    → HaveLeavesApart (templates s) → HaveLeavesApart (templates s')
records_apart P s [] s' all apart = subst HaveLeavesApart (sym (ap templates all)) apart
records_apart P s (n ∷ ns) s' all apart =
    let one = all.2 in
    let next = step_apart (record s { transactions = n.number - 1 }) n.transaction one.0 one.1 apart in
    records_apart P all.0 ns s' all.3 (subst HaveLeavesApart (sym (ap templates one.2)) next)

pub anew_apart : (s : State) → IsMadeAnew s → HaveLeavesApart (templates s)
anew_apart s anew = records_apart IsRemade (counted_blank s) s.live s anew.remade none_apart

-- ---- one more transaction

-- a history of commands with one more command behind it
pub made_on : (s : State) (ts : List Transaction) (mid : State) (command : Command) (t : Transaction) (s' : State)
    → MadeByCommands s ts mid → IsVerdict mid command (Do t) → Steps mid t s' → MadeByCommands s (ts ++ t ∷ []) s'
made_on s [] mid command t s' all judged step = (
  command,
  s',
  subst (λ x. IsVerdict x command (Do t)) all judged,
  subst (λ x. Steps x t s') all step,
  refl,
)
made_on s (u ∷ ts) mid command t s' all judged step =
    (all.0, all.1, all.2, all.3, made_on all.1 ts mid command t s' all.4 judged step)
