-- How far the forms of activities and elements are read.
use Rattle.std.proofs.Common.{◌≡◌, ℕ, suc, zero, ◌-◌, ◌<◌, List, [], ◌∷◌, ◌++◌, Some, refl, sym, subst, arith, inl, inr}
use Rattle.std.specs.Prelude.{◌≢◌}
use Rattle.flow_table.specs.declared.keyword.Keyword.TheVariants as word
use Rattle.flow_model.specs.declared.trees.NameAt.{NameAt}
use Rattle.flow_model.specs.declared.trees.JoinTree.{JoinTree}
use Rattle.flow_model.specs.declared.trees.AttrTree.{AttrTree}
use Rattle.flow_model.specs.declared.trees.AttrAt.{AttrAt}
use Rattle.flow_model.specs.declared.trees.ActivityTree.{ActivityTree}
use Rattle.flow_model.specs.declared.trees.ElementTree.{ElementTree}
use Rattle.fdl_lexer.specs.declared.kinds.What.{What}
use Rattle.fdl_lexer.specs.declared.kinds.What.TheVariants.{Word, Name, Number, Mark}
use Rattle.fdl_lexer.specs.declared.kinds.Mark.TheVariants as mark
use Rattle.fdl_parser.specs.declared.cursor.SyntaxFault.{SyntaxFault}
use Rattle.fdl_parser.specs.Tokens.{Tokens, first_kind, IsName, IsNumber}
use Rattle.fdl_parser.specs.Tiers.{Looser}
use Rattle.fdl_parser.specs.Stops.{Reads, Structures, common_kinds, attribute_kinds, element_kinds, Anything, IsTaken, Stops}
use Rattle.fdl_parser.specs.Conditions.{IsCondition}
use Rattle.fdl_parser.specs.Lines.{IsControl, IsDataLine}
use Rattle.fdl_parser.specs.Activities.{AreStructures, InputOutput, IsClosing, EndName, ConnectorsTrue, BothWords, IsJoin, AllTrue, OneTrue, SomeTrue, IsCommonAttribute, WhenJoin, ExitWhen, AreCommonAttributes, NoCommon, MoreCommon, IsDoneBy, ByRole, ByPerson, ByStarter, ByPerformer, IsStart, Manually, Automatically, IsAttribute, CommonAttribute, StartAttribute, ExpiresAttribute, DoneByAttribute, AreAttributes, NoAttribute, MoreAttributes, IsProgramActivity, ProgramActivity, IsProcessActivity, ProcessActivity, IsBlock, BlockActivity, IsElement, BlockElement, ProcessElement, ProgramElement, ControlElement, DataElement, AreElements, NoElement, MoreElements}
use Rattle.fdl_parser.proofs.Stops.{Seq, Either, Star, None, More, star_snoc, Through, Empty, through_none, taken_many, stops_many, taken_less, stops_less}
use Rattle.fdl_parser.proofs.Shapes.{Among, NotAmong, Shape, Loose, Same, Loops, WordForm, MarkForm, word_shape, mark_shape, name_shape, number_shape, shape_as, loose_as, takes_as, stops_as, widen, with_more, seq, skip, no_shape, sure, either, take_left, take_right, stop_left, stop_right, star, loop_more, loop_taken, loop_stops, through_all, any_stops, free_taken, among_apart}
use Rattle.fdl_parser.proofs.StopsConditions.{condition_shape}
use Rattle.fdl_parser.proofs.StopsLines.{control_shape, data_shape}

-- ---- the structures of a container, the end of an activity

abbrev StructuresForm : Tokens → Tokens → Type 0
StructuresForm = Seq (MarkForm mark.Open) (Seq (Reads IsName) (Seq (MarkForm mark.Comma) (Seq (Reads IsName) (MarkForm mark.Close))))

structures_into : (a b : Tokens) → StructuresForm a b → Structures a b
structures_into a b h = (h.2.1.0, h.2.2.2.1.0, InputOutput h.1.1 h.2.1.1 h.2.2.1.1 h.2.2.2.1.1 h.2.2.2.2.1)

structures_out : (a b : Tokens) → Structures a b → StructuresForm a b
structures_out a b h = go h.2
  where
    go : {x y : NameAt} → AreStructures x y a b → StructuresForm a b
    go (InputOutput j k l m n) = (_, (_, j), (_, (_, k), (_, (_, l), (_, (_, m), (_, n)))))

pub structures_same : Same StructuresForm Structures
structures_same = record { into = structures_into; out = structures_out }

pub structures_close : Shape (Name ∷ []) 10 (Seq (Reads IsName) (MarkForm mark.Close))
structures_close = seq name_shape (mark_shape mark.Close) refl

pub structures_output : Shape (Mark mark.Comma ∷ []) 10 (Seq (MarkForm mark.Comma) (Seq (Reads IsName) (MarkForm mark.Close)))
structures_output = seq (mark_shape mark.Comma) structures_close refl

pub structures_input : Shape (Name ∷ []) 10 (Seq (Reads IsName) (Seq (MarkForm mark.Comma) (Seq (Reads IsName) (MarkForm mark.Close))))
structures_input = seq name_shape structures_output refl

pub structures_shape : Shape (Mark mark.Open ∷ []) 10 Structures
structures_shape = shape_as structures_same (seq (mark_shape mark.Open) structures_input refl)

closing_into : (a b : Tokens) → Seq (WordForm word.End) (Reads IsName) a b → Reads IsClosing a b
closing_into a b h = (_, EndName h.1.1 h.2.1)

closing_out : (a b : Tokens) → Reads IsClosing a b → Seq (WordForm word.End) (Reads IsName) a b
closing_out a b h = go h.1
  where
    go : {n : NameAt} → IsClosing n a b → Seq (WordForm word.End) (Reads IsName) a b
    go (EndName j k) = (_, (_, j), (_, k))

pub closing_same : Same (Seq (WordForm word.End) (Reads IsName)) (Reads IsClosing)
closing_same = record { into = closing_into; out = closing_out }

pub closing_shape : Shape (Word word.End ∷ []) 10 (Reads IsClosing)
closing_shape = shape_as closing_same (seq (word_shape word.End) name_shape refl)

-- ---- joins

connectors_into : (a b : Tokens) → Seq (WordForm word.Connectors) (WordForm word.True) a b → ConnectorsTrue a b
connectors_into a b h = BothWords h.1.1 h.2.1

connectors_out : (a b : Tokens) → ConnectorsTrue a b → Seq (WordForm word.Connectors) (WordForm word.True) a b
connectors_out a b (BothWords j k) = (_, (_, j), (_, k))

pub connectors_same : Same (Seq (WordForm word.Connectors) (WordForm word.True)) ConnectorsTrue
connectors_same = record { into = connectors_into; out = connectors_out }

pub connectors_shape : Shape (Word word.Connectors ∷ []) 10 ConnectorsTrue
connectors_shape = shape_as connectors_same (seq (word_shape word.Connectors) (word_shape word.True) refl)

abbrev OneForm : Tokens → Tokens → Type 0
OneForm = Seq (WordForm word.AtLeastOne) (Seq (WordForm word.Connector) (WordForm word.True))

abbrev SomeForm : Tokens → Tokens → Type 0
SomeForm = Seq (WordForm word.AtLeast) (Seq (Reads IsNumber) ConnectorsTrue)

abbrev AllForm : Tokens → Tokens → Type 0
AllForm = Seq (WordForm word.All) ConnectorsTrue

abbrev JoinForm : Tokens → Tokens → Type 0
JoinForm = Either OneForm (Either SomeForm AllForm)

join_into : (a b : Tokens) → JoinForm a b → Reads IsJoin a b
join_into a b (inl h) = (_, OneTrue h.1.1 h.2.1.1 h.2.2.1)
join_into a b (inr (inl h)) = (_, SomeTrue h.1.1 h.2.1.1 h.2.2)
join_into a b (inr (inr h)) = (_, AllTrue h.1.1 h.2)

join_out : (a b : Tokens) → Reads IsJoin a b → JoinForm a b
join_out a b h = go h.1
  where
    go : {j : JoinTree} → IsJoin j a b → JoinForm a b
    go (AllTrue j k) = inr (inr (_, (_, j), k))
    go (OneTrue j k l) = inl (_, (_, j), (_, (_, k), (_, l)))
    go (SomeTrue j k l) = inr (inl (_, (_, j), (_, (_, k), l)))

pub join_same : Same JoinForm (Reads IsJoin)
join_same = record { into = join_into; out = join_out }

pub one_rest : Shape (Word word.Connector ∷ []) 10 (Seq (WordForm word.Connector) (WordForm word.True))
one_rest = seq (word_shape word.Connector) (word_shape word.True) refl

pub one_shape : Shape (Word word.AtLeastOne ∷ []) 10 OneForm
one_shape = seq (word_shape word.AtLeastOne) one_rest refl

pub some_rest : Shape (Number 0 ∷ []) 10 (Seq (Reads IsNumber) ConnectorsTrue)
some_rest = seq number_shape connectors_shape refl

pub some_shape : Shape (Word word.AtLeast ∷ []) 10 SomeForm
some_shape = seq (word_shape word.AtLeast) some_rest refl

pub all_shape : Shape (Word word.All ∷ []) 10 AllForm
all_shape = seq (word_shape word.All) connectors_shape refl

pub some_all : Shape (Word word.AtLeast ∷ Word word.All ∷ []) 10 (Either SomeForm AllForm)
some_all = either some_shape all_shape refl

pub join_shape : Shape (Word word.AtLeastOne ∷ Word word.AtLeast ∷ Word word.All ∷ []) 10 (Reads IsJoin)
join_shape = shape_as join_same (either one_shape some_all refl)

-- ---- attributes of any activity

abbrev WhenForm : Tokens → Tokens → Type 0
WhenForm = Seq (WordForm word.When) (Reads IsJoin)

abbrev ExitForm : Tokens → Tokens → Type 0
ExitForm = Seq (WordForm word.Exit) (Seq (WordForm word.When) (Reads IsCondition))

common_into : (a b : Tokens) → Either WhenForm ExitForm a b → Reads IsCommonAttribute a b
common_into a b (inl h) = (_, WhenJoin h.1.1 h.2.1)
common_into a b (inr h) = (_, ExitWhen h.1.1 h.2.1.1 h.2.2.1)

common_out : (a b : Tokens) → Reads IsCommonAttribute a b → Either WhenForm ExitForm a b
common_out a b h = go h.1
  where
    go : {x : AttrAt} → IsCommonAttribute x a b → Either WhenForm ExitForm a b
    go (WhenJoin j k) = inl (_, (_, j), (_, k))
    go (ExitWhen j k l) = inr (_, (_, j), (_, (_, k), (_, l)))

pub common_same : Same (Either WhenForm ExitForm) (Reads IsCommonAttribute)
common_same = record { into = common_into; out = common_out }

pub when_shape : Shape (Word word.When ∷ []) 10 WhenForm
when_shape = seq (word_shape word.When) join_shape refl

pub exit_when : Shape (Word word.When ∷ []) 10 (Seq (WordForm word.When) (Reads IsCondition))
exit_when = seq (word_shape word.When) condition_shape refl

pub exit_shape : Shape (Word word.Exit ∷ []) 10 ExitForm
exit_shape = seq (word_shape word.Exit) exit_when refl

pub common_shape : Shape common_kinds 10 (Reads IsCommonAttribute)
common_shape = shape_as common_same (either when_shape exit_shape refl)

commons_form : {xs : List AttrAt} {a b : Tokens} → AreCommonAttributes xs a b → Star (Reads IsCommonAttribute) a b
commons_form NoCommon = None
commons_form (MoreCommon h j) = star_snoc (commons_form h) (_, j)

commons_on : {xs : List AttrAt} {a b c : Tokens} → AreCommonAttributes xs a b → Star (Reads IsCommonAttribute) b c → Reads AreCommonAttributes a c
commons_on {xs = xs} h None = (xs, h)
commons_on h (More g s) = commons_on (MoreCommon h g.1) s

commons_same : Same (Star (Reads IsCommonAttribute)) (Reads AreCommonAttributes)
commons_same = record { into = λ a b s. commons_on NoCommon s; out = λ a b h. commons_form h.1 }

common_loops : Loops common_kinds 10 4 (Reads IsCommonAttribute)
common_loops = record { one = common_shape; begun = refl; calm = refl; less = refl }

pub commons_loose : Loose common_kinds 4 (Reads AreCommonAttributes)
commons_loose = loose_as commons_same (star common_loops)

pub commons_taken : {xs : List AttrAt} {a b : Tokens} → AreCommonAttributes xs a b → NotAmong common_kinds (first_kind b) → IsTaken (Looser 4) (Reads AreCommonAttributes) a b
commons_taken h not = takes_as commons_same (taken_many (loop_taken common_loops (through_all common_loops through_none (commons_form h)) not))

pub stops_commons : {xs : List AttrAt} {a b r : Tokens} {e : SyntaxFault} → AreCommonAttributes xs a b → Among common_kinds (first_kind b) → Stops Anything (Reads IsCommonAttribute) b r e → Stops (Looser 4) (Reads AreCommonAttributes) a r e
stops_commons h here s = stops_as commons_same (stops_many (loop_stops common_loops (through_all common_loops through_none (commons_form h)) here (any_stops s)))

-- ---- who does an activity, how it is started

abbrev RoleForm : Tokens → Tokens → Type 0
RoleForm = Seq (WordForm word.Role) (Reads IsName)

abbrev PersonForm : Tokens → Tokens → Type 0
PersonForm = Seq (WordForm word.Person) (Reads IsName)

abbrev PerformerForm : Tokens → Tokens → Type 0
PerformerForm = Seq (WordForm word.Performer) (Seq (WordForm word.Of) (Reads IsName))

abbrev DoneByForm : Tokens → Tokens → Type 0
DoneByForm = Either RoleForm (Either PersonForm (Either (WordForm word.Starter) PerformerForm))

done_by_into : (a b : Tokens) → DoneByForm a b → Reads IsDoneBy a b
done_by_into a b (inl h) = (_, ByRole h.1.1 h.2.1)
done_by_into a b (inr (inl h)) = (_, ByPerson h.1.1 h.2.1)
done_by_into a b (inr (inr (inl h))) = (_, ByStarter h.1)
done_by_into a b (inr (inr (inr h))) = (_, ByPerformer h.1.1 h.2.1.1 h.2.2.1)

done_by_out : (a b : Tokens) → Reads IsDoneBy a b → DoneByForm a b
done_by_out a b h = go h.1
  where
    go : {x : AttrTree} → IsDoneBy x a b → DoneByForm a b
    go (ByRole j k) = inl (_, (_, j), (_, k))
    go (ByPerson j k) = inr (inl (_, (_, j), (_, k)))
    go (ByStarter j) = inr (inr (inl (_, j)))
    go (ByPerformer j k l) = inr (inr (inr (_, (_, j), (_, (_, k), (_, l)))))

pub done_by_same : Same DoneByForm (Reads IsDoneBy)
done_by_same = record { into = done_by_into; out = done_by_out }

pub role_shape : Shape (Word word.Role ∷ []) 10 RoleForm
role_shape = seq (word_shape word.Role) name_shape refl

pub person_shape : Shape (Word word.Person ∷ []) 10 PersonForm
person_shape = seq (word_shape word.Person) name_shape refl

pub performer_of : Shape (Word word.Of ∷ []) 10 (Seq (WordForm word.Of) (Reads IsName))
performer_of = seq (word_shape word.Of) name_shape refl

performer_shape : Shape (Word word.Performer ∷ []) 10 PerformerForm
performer_shape = seq (word_shape word.Performer) performer_of refl

pub starter_or : Shape (Word word.Starter ∷ Word word.Performer ∷ []) 10 (Either (WordForm word.Starter) PerformerForm)
starter_or = either (word_shape word.Starter) performer_shape refl

pub person_or : Shape (Word word.Person ∷ Word word.Starter ∷ Word word.Performer ∷ []) 10 (Either PersonForm (Either (WordForm word.Starter) PerformerForm))
person_or = either person_shape starter_or refl

pub done_by_shape : Shape (Word word.Role ∷ Word word.Person ∷ Word word.Starter ∷ Word word.Performer ∷ []) 10 (Reads IsDoneBy)
done_by_shape = shape_as done_by_same (either role_shape person_or refl)

start_into : (a b : Tokens) → Either (WordForm word.Manual) (WordForm word.Automatic) a b → Reads IsStart a b
start_into a b (inl h) = (_, Manually h.1)
start_into a b (inr h) = (_, Automatically h.1)

start_out : (a b : Tokens) → Reads IsStart a b → Either (WordForm word.Manual) (WordForm word.Automatic) a b
start_out a b h = go h.1
  where
    go : {x : AttrTree} → IsStart x a b → Either (WordForm word.Manual) (WordForm word.Automatic) a b
    go (Manually j) = inl (_, j)
    go (Automatically j) = inr (_, j)

pub start_same : Same (Either (WordForm word.Manual) (WordForm word.Automatic)) (Reads IsStart)
start_same = record { into = start_into; out = start_out }

pub start_shape : Shape (Word word.Manual ∷ Word word.Automatic ∷ []) 10 (Reads IsStart)
start_shape = shape_as start_same (either (word_shape word.Manual) (word_shape word.Automatic) refl)

-- ---- attributes of program activities

abbrev BeginForm : Tokens → Tokens → Type 0
BeginForm = Seq (WordForm word.Start) (Reads IsStart)

abbrev ExpiresForm : Tokens → Tokens → Type 0
ExpiresForm = Seq (WordForm word.Expires) (Reads IsNumber)

abbrev ByForm : Tokens → Tokens → Type 0
ByForm = Seq (WordForm word.DoneBy) (Reads IsDoneBy)

abbrev AttributeForm : Tokens → Tokens → Type 0
AttributeForm = Either (Reads IsCommonAttribute) (Either BeginForm (Either ExpiresForm ByForm))

attribute_into : (a b : Tokens) → AttributeForm a b → Reads IsAttribute a b
attribute_into a b (inl h) = (_, CommonAttribute h.1)
attribute_into a b (inr (inl h)) = (_, StartAttribute h.1.1 h.2.1)
attribute_into a b (inr (inr (inl h))) = (_, ExpiresAttribute h.1.1 h.2.1)
attribute_into a b (inr (inr (inr h))) = (_, DoneByAttribute h.1.1 h.2.1)

attribute_out : (a b : Tokens) → Reads IsAttribute a b → AttributeForm a b
attribute_out a b h = go h.1
  where
    go : {x : AttrAt} → IsAttribute x a b → AttributeForm a b
    go (CommonAttribute j) = inl (_, j)
    go (StartAttribute j k) = inr (inl (_, (_, j), (_, k)))
    go (ExpiresAttribute j k) = inr (inr (inl (_, (_, j), (_, k))))
    go (DoneByAttribute j k) = inr (inr (inr (_, (_, j), (_, k))))

pub attribute_same : Same AttributeForm (Reads IsAttribute)
attribute_same = record { into = attribute_into; out = attribute_out }

pub begin_shape : Shape (Word word.Start ∷ []) 10 BeginForm
begin_shape = seq (word_shape word.Start) start_shape refl

pub expires_shape : Shape (Word word.Expires ∷ []) 10 ExpiresForm
expires_shape = seq (word_shape word.Expires) number_shape refl

pub by_shape : Shape (Word word.DoneBy ∷ []) 10 ByForm
by_shape = seq (word_shape word.DoneBy) done_by_shape refl

pub expires_or : Shape (Word word.Expires ∷ Word word.DoneBy ∷ []) 10 (Either ExpiresForm ByForm)
expires_or = either expires_shape by_shape refl

pub begin_or : Shape (Word word.Start ∷ Word word.Expires ∷ Word word.DoneBy ∷ []) 10 (Either BeginForm (Either ExpiresForm ByForm))
begin_or = either begin_shape expires_or refl

attribute_shape : Shape attribute_kinds 10 (Reads IsAttribute)
attribute_shape = shape_as attribute_same (either common_shape begin_or refl)

attributes_form : {xs : List AttrAt} {a b : Tokens} → AreAttributes xs a b → Star (Reads IsAttribute) a b
attributes_form NoAttribute = None
attributes_form (MoreAttributes h j) = star_snoc (attributes_form h) (_, j)

attributes_on : {xs : List AttrAt} {a b c : Tokens} → AreAttributes xs a b → Star (Reads IsAttribute) b c → Reads AreAttributes a c
attributes_on {xs = xs} h None = (xs, h)
attributes_on h (More g s) = attributes_on (MoreAttributes h g.1) s

attributes_same : Same (Star (Reads IsAttribute)) (Reads AreAttributes)
attributes_same = record { into = λ a b s. attributes_on NoAttribute s; out = λ a b h. attributes_form h.1 }

attribute_loops : Loops attribute_kinds 10 4 (Reads IsAttribute)
attribute_loops = record { one = attribute_shape; begun = refl; calm = refl; less = refl }

pub attributes_loose : Loose attribute_kinds 4 (Reads AreAttributes)
attributes_loose = loose_as attributes_same (star attribute_loops)

pub attributes_taken : {xs : List AttrAt} {a b : Tokens} → AreAttributes xs a b → NotAmong attribute_kinds (first_kind b) → IsTaken (Looser 4) (Reads AreAttributes) a b
attributes_taken h not = takes_as attributes_same (taken_many (loop_taken attribute_loops (through_all attribute_loops through_none (attributes_form h)) not))

pub stops_attributes : {xs : List AttrAt} {a b r : Tokens} {e : SyntaxFault} → AreAttributes xs a b → Among attribute_kinds (first_kind b) → Stops Anything (Reads IsAttribute) b r e → Stops (Looser 4) (Reads AreAttributes) a r e
stops_attributes h here s = stops_as attributes_same (stops_many (loop_stops attribute_loops (through_all attribute_loops through_none (attributes_form h)) here (any_stops s)))

-- ---- program activities

abbrev ProgramForm : Tokens → Tokens → Type 0
ProgramForm = Seq (WordForm word.ProgramActivity) (Seq (Reads IsName) (Seq Structures (Seq (Reads AreAttributes) (Reads IsClosing))))

program_into : (a b : Tokens) → ProgramForm a b → Reads IsProgramActivity a b
program_into a b h = (_, ProgramActivity h.1.1 h.2.1.1 h.2.2.1.2 h.2.2.2.1.1 h.2.2.2.2.1)

program_out : (a b : Tokens) → Reads IsProgramActivity a b → ProgramForm a b
program_out a b h = go h.1
  where
    go : {x : ActivityTree} → IsProgramActivity x a b → ProgramForm a b
    go (ProgramActivity j k l m n) = (_, (_, j), (_, (_, k), (_, (_, _, l), (_, (_, m), (_, n)))))

pub program_same : Same ProgramForm (Reads IsProgramActivity)
program_same = record { into = program_into; out = program_out }

pub program_attributes : Shape (attribute_kinds ++ Word word.End ∷ []) 10 (Seq (Reads AreAttributes) (Reads IsClosing))
program_attributes = skip attributes_loose closing_shape refl

pub program_structures : Shape (Mark mark.Open ∷ []) 10 (Seq Structures (Seq (Reads AreAttributes) (Reads IsClosing)))
program_structures = seq structures_shape program_attributes refl

pub program_name : Shape (Name ∷ []) 10 (Seq (Reads IsName) (Seq Structures (Seq (Reads AreAttributes) (Reads IsClosing))))
program_name = seq name_shape program_structures refl

pub program_shape : Shape (Word word.ProgramActivity ∷ []) 10 (Reads IsProgramActivity)
program_shape = shape_as program_same (seq (word_shape word.ProgramActivity) program_name refl)

-- ---- process activities

abbrev ProcessForm : Tokens → Tokens → Type 0
ProcessForm = Seq (WordForm word.ProcessActivity) (Seq (Reads IsName) (Seq Structures (Seq (WordForm word.Process) (Seq (Reads IsName) (Seq (Reads AreCommonAttributes) (Reads IsClosing))))))

process_into : (a b : Tokens) → ProcessForm a b → Reads IsProcessActivity a b
process_into a b h = (_, ProcessActivity h.1.1 h.2.1.1 h.2.2.1.2 h.2.2.2.1.1 h.2.2.2.2.1.1 h.2.2.2.2.2.1.1 h.2.2.2.2.2.2.1)

process_out : (a b : Tokens) → Reads IsProcessActivity a b → ProcessForm a b
process_out a b h = go h.1
  where
    go : {x : ActivityTree} → IsProcessActivity x a b → ProcessForm a b
    go (ProcessActivity j k l m n o p) = (_, (_, j), (_, (_, k), (_, (_, _, l), (_, (_, m), (_, (_, n), (_, (_, o), (_, p)))))))

pub process_same : Same ProcessForm (Reads IsProcessActivity)
process_same = record { into = process_into; out = process_out }

pub process_attributes : Shape (common_kinds ++ Word word.End ∷ []) 10 (Seq (Reads AreCommonAttributes) (Reads IsClosing))
process_attributes = skip commons_loose closing_shape refl

pub process_called : Shape (Name ∷ []) 10 (Seq (Reads IsName) (Seq (Reads AreCommonAttributes) (Reads IsClosing)))
process_called = seq name_shape process_attributes refl

pub process_word : Shape (Word word.Process ∷ []) 10 (Seq (WordForm word.Process) (Seq (Reads IsName) (Seq (Reads AreCommonAttributes) (Reads IsClosing))))
process_word = seq (word_shape word.Process) process_called refl

pub process_structures : Shape (Mark mark.Open ∷ []) 10 (Seq Structures (Seq (WordForm word.Process) (Seq (Reads IsName) (Seq (Reads AreCommonAttributes) (Reads IsClosing)))))
process_structures = seq structures_shape process_word refl

pub process_name : Shape (Name ∷ []) 10 (Seq (Reads IsName) (Seq Structures (Seq (WordForm word.Process) (Seq (Reads IsName) (Seq (Reads AreCommonAttributes) (Reads IsClosing))))))
process_name = seq name_shape process_structures refl

pub process_shape : Shape (Word word.ProcessActivity ∷ []) 10 (Reads IsProcessActivity)
process_shape = shape_as process_same (seq (word_shape word.ProcessActivity) process_name refl)

-- ---- blocks, by how many levels are left

abbrev BlockEnd : ℕ → Tokens → Tokens → Type 0
BlockEnd n = Seq (Reads (AreElements (n - 1))) (Reads IsClosing)

abbrev BlockForm : ℕ → Tokens → Tokens → Type 0
BlockForm n = Seq (WordForm word.Block) (Seq (Reads IsName) (Seq Structures (Seq (Reads AreCommonAttributes) (BlockEnd n))))

block_into : (n : ℕ) → 0 < n → (a b : Tokens) → BlockForm n a b → Reads (IsBlock n) a b
block_into n some a b h = (_, BlockActivity some h.1.1 h.2.1.1 h.2.2.1.2 h.2.2.2.1.1 h.2.2.2.2.1.1 h.2.2.2.2.2.1)

block_out : (n : ℕ) (a b : Tokens) → Reads (IsBlock n) a b → BlockForm n a b
block_out n a b h = go h.1
  where
    go : {x : ActivityTree} → IsBlock n x a b → BlockForm n a b
    go (BlockActivity some j k l m n o) = (_, (_, j), (_, (_, k), (_, (_, _, l), (_, (_, m), (_, (_, n), (_, o))))))

pub block_same : (n : ℕ) → 0 < n → Same (BlockForm n) (Reads (IsBlock n))
block_same n some = record { into = block_into n some; out = block_out n }

-- ---- elements

abbrev flat_kinds : List What
flat_kinds = Word word.Control ∷ Word word.Data ∷ Word word.ProcessActivity ∷ Word word.ProgramActivity ∷ []

abbrev WorkForm : Tokens → Tokens → Type 0
WorkForm = Either (Reads IsProcessActivity) (Reads IsProgramActivity)

abbrev DataForm : Tokens → Tokens → Type 0
DataForm = Either (Reads IsDataLine) WorkForm

abbrev FlatForm : Tokens → Tokens → Type 0
FlatForm = Either (Reads IsControl) DataForm

abbrev ElementForm : ℕ → Tokens → Tokens → Type 0
ElementForm n = Either (Reads (IsBlock n)) FlatForm

flat_into : (n : ℕ) (a b : Tokens) → FlatForm a b → Reads (IsElement n) a b
flat_into n a b (inl h) = (_, ControlElement h.1)
flat_into n a b (inr (inl h)) = (_, DataElement h.1)
flat_into n a b (inr (inr (inl h))) = (_, ProcessElement h.1)
flat_into n a b (inr (inr (inr h))) = (_, ProgramElement h.1)

element_into : (n : ℕ) (a b : Tokens) → ElementForm n a b → Reads (IsElement n) a b
element_into n a b (inl h) = (_, BlockElement h.1)
element_into n a b (inr h) = flat_into n a b h

element_out : (n : ℕ) (a b : Tokens) → Reads (IsElement n) a b → ElementForm n a b
element_out n a b h = go h.1
  where
    go : {x : ElementTree} → IsElement n x a b → ElementForm n a b
    go (BlockElement j) = inl (_, j)
    go (ControlElement j) = inr (inl (_, j))
    go (DataElement j) = inr (inr (inl (_, j)))
    go (ProcessElement j) = inr (inr (inr (inl (_, j))))
    go (ProgramElement j) = inr (inr (inr (inr (_, j))))

element_same : (n : ℕ) → Same (ElementForm n) (Reads (IsElement n))
element_same n = record { into = element_into n; out = element_out n }

no_block : {x : ActivityTree} {a b : Tokens} → IsBlock 0 x a b → ⊥
no_block (BlockActivity some j k l m n o) = omega (arith, some)

last_out : (a b : Tokens) → Reads (IsElement 0) a b → FlatForm a b
last_out a b h = go (element_out 0 a b h)
  where
    go : ElementForm 0 a b → FlatForm a b
    go (inl j) = absurd (no_block j.1)
    go (inr j) = j

last_same : Same FlatForm (Reads (IsElement 0))
last_same = record { into = flat_into 0; out = last_out }

process_wide : Shape (Word word.ProcessActivity ∷ []) 4 (Reads IsProcessActivity)
process_wide = widen process_shape refl

program_wide : Shape (Word word.ProgramActivity ∷ []) 4 (Reads IsProgramActivity)
program_wide = widen program_shape refl

data_wide : Shape (Word word.Data ∷ []) 4 (Reads IsDataLine)
data_wide = widen data_shape refl

work_shape : Shape (Word word.ProcessActivity ∷ Word word.ProgramActivity ∷ []) 4 WorkForm
work_shape = either process_wide program_wide refl

line_shape : Shape (Word word.Data ∷ Word word.ProcessActivity ∷ Word word.ProgramActivity ∷ []) 4 DataForm
line_shape = either data_wide work_shape refl

flat_shape : Shape flat_kinds 4 FlatForm
flat_shape = either control_shape line_shape refl

elements_form : {n : ℕ} {xs : List ElementTree} {a b : Tokens} → AreElements n xs a b → Star (Reads (IsElement n)) a b
elements_form NoElement = None
elements_form (MoreElements h j) = star_snoc (elements_form h) (_, j)

elements_on : {n : ℕ} {xs : List ElementTree} {a b c : Tokens} → AreElements n xs a b → Star (Reads (IsElement n)) b c → Reads (AreElements n) a c
elements_on {xs = xs} h None = (xs, h)
elements_on h (More g s) = elements_on (MoreElements h g.1) s

elements_same : (n : ℕ) → Same (Star (Reads (IsElement n))) (Reads (AreElements n))
elements_same n = record { into = λ a b s. elements_on NoElement s; out = λ a b h. elements_form h.1 }

loops_of : (n : ℕ) → Shape element_kinds 4 (Reads (IsElement n)) → Loops element_kinds 4 3 (Reads (IsElement n))
loops_of n f = record { one = f; begun = refl; calm = refl; less = refl }

elements_of : (n : ℕ) → Shape element_kinds 4 (Reads (IsElement n)) → Loose element_kinds 3 (Reads (AreElements n))
elements_of n f = loose_as (elements_same n) (star (loops_of n f))

block_end_of : (n : ℕ) → Shape element_kinds 4 (Reads (IsElement (n - 1))) → Shape (element_kinds ++ Word word.End ∷ []) 10 (BlockEnd n)
block_end_of n f = skip (elements_of (n - 1) f) closing_shape refl

block_attributes_of : (n : ℕ) → Shape element_kinds 4 (Reads (IsElement (n - 1))) → Shape (common_kinds ++ element_kinds ++ Word word.End ∷ []) 10 (Seq (Reads AreCommonAttributes) (BlockEnd n))
block_attributes_of n f = skip commons_loose (block_end_of n f) refl

block_structures_of : (n : ℕ) → Shape element_kinds 4 (Reads (IsElement (n - 1))) → Shape (Mark mark.Open ∷ []) 10 (Seq Structures (Seq (Reads AreCommonAttributes) (BlockEnd n)))
block_structures_of n f = seq structures_shape (block_attributes_of n f) refl

block_name_of : (n : ℕ) → Shape element_kinds 4 (Reads (IsElement (n - 1))) → Shape (Name ∷ []) 10 (Seq (Reads IsName) (Seq Structures (Seq (Reads AreCommonAttributes) (BlockEnd n))))
block_name_of n f = seq name_shape (block_structures_of n f) refl

block_of : (n : ℕ) → 0 < n → Shape element_kinds 4 (Reads (IsElement (n - 1))) → Shape (Word word.Block ∷ []) 4 (Reads (IsBlock n))
block_of n some f = widen (shape_as (block_same n some) (seq (word_shape word.Block) (block_name_of n f) refl)) refl

element_shape : (n : ℕ) → Shape element_kinds 4 (Reads (IsElement n))
element_shape zero = with_more (Word word.Block ∷ []) (shape_as last_same flat_shape)
element_shape (suc n) =
    let less : n ≡ suc n - 1 = omega arith in
    let f = subst (λ (k : ℕ). Shape element_kinds 4 (Reads (IsElement k))) less (element_shape n) in
    shape_as (element_same (suc n)) (either (block_of (suc n) (omega arith) f) flat_shape refl)

-- ---- where a block stops

pub block_name : (n : ℕ) → Shape (Name ∷ []) 10 (Seq (Reads IsName) (Seq Structures (Seq (Reads AreCommonAttributes) (BlockEnd n))))
block_name n = block_name_of n (element_shape (n - 1))

pub block_structures : (n : ℕ) → Shape (Mark mark.Open ∷ []) 10 (Seq Structures (Seq (Reads AreCommonAttributes) (BlockEnd n)))
block_structures n = block_structures_of n (element_shape (n - 1))

pub block_attributes : (n : ℕ) → Shape (common_kinds ++ element_kinds ++ Word word.End ∷ []) 10 (Seq (Reads AreCommonAttributes) (BlockEnd n))
block_attributes n = block_attributes_of n (element_shape (n - 1))

pub block_end : (n : ℕ) → Shape (element_kinds ++ Word word.End ∷ []) 10 (BlockEnd n)
block_end n = block_end_of n (element_shape (n - 1))

-- ---- where an element is taken and where it stops

block_shape : (n : ℕ) → 0 < n → Shape (Word word.Block ∷ []) 4 (Reads (IsBlock n))
block_shape n some = block_of n some (element_shape (n - 1))

block_some : {n : ℕ} {x : ActivityTree} {a b : Tokens} → IsBlock n x a b → 0 < n
block_some (BlockActivity some j k l m n o) = some

pub element_block : {n : ℕ} {a b : Tokens} → Reads (IsBlock n) a b → IsTaken (Looser 4) (Reads (IsElement n)) a b
element_block {n} h =
    let some : 0 < n = block_some h.1 in
    let f : Shape (Word word.Block ∷ []) 10 (Reads (IsBlock n)) = shape_as (block_same n some) (seq (word_shape word.Block) (block_name n) refl) in
    takes_as (element_same n) (take_left (block_shape n some) flat_shape refl (free_taken (sure f h)))

-- at any level
flat_taken : (n : ℕ) {a b : Tokens} → IsTaken (Looser 4) FlatForm a b → IsTaken (Looser 4) (Reads (IsElement n)) a b
flat_taken zero h = takes_as last_same h
flat_taken (suc n) h = takes_as (element_same (suc n)) (take_right (block_shape (suc n) (omega arith)) flat_shape refl h)

pub element_control : (n : ℕ) {a b : Tokens} → IsTaken (Looser 4) (Reads IsControl) a b → IsTaken (Looser 4) (Reads (IsElement n)) a b
element_control n h = flat_taken n (take_left control_shape line_shape refl h)

work_taken : (n : ℕ) {a b : Tokens} → IsTaken (Looser 4) WorkForm a b → IsTaken (Looser 4) (Reads (IsElement n)) a b
work_taken n h = flat_taken n (take_right control_shape line_shape refl (take_right data_wide work_shape refl h))

looser_data : {a b : Tokens} → IsTaken (Looser 5) (Reads IsDataLine) a b → IsTaken (Looser 4) (Reads IsDataLine) a b
looser_data h = taken_less (λ x q. omega (arith, q)) h

pub element_data : (n : ℕ) {a b : Tokens} → IsTaken (Looser 5) (Reads IsDataLine) a b → IsTaken (Looser 4) (Reads (IsElement n)) a b
element_data n h = flat_taken n (take_right control_shape line_shape refl (take_left data_wide work_shape refl (looser_data h)))

pub element_process : (n : ℕ) {a b : Tokens} → Reads IsProcessActivity a b → IsTaken (Looser 4) (Reads (IsElement n)) a b
element_process n h = work_taken n (take_left process_wide program_wide refl (free_taken (sure process_shape h)))

pub element_program : (n : ℕ) {a b : Tokens} → Reads IsProgramActivity a b → IsTaken (Looser 4) (Reads (IsElement n)) a b
element_program n h = work_taken n (take_right process_wide program_wide refl (free_taken (sure program_shape h)))

-- at the last level a block stops at once
pub stops_block : (n : ℕ) {a r : Tokens} {e : SyntaxFault} → first_kind a ≡ Some (Word word.Block) → (n ≡ 0 → r ≡ a) → (0 < n → Stops Anything (Reads (IsBlock n)) a r e) → Stops (Looser 4) (Reads (IsElement n)) a r e
stops_block zero {a} {r} {e} here last h =
    subst (λ (x : Tokens). Stops (Looser 4) (Reads (IsElement 0)) a x e) (sym (last refl))
    (stops_as last_same (record { stop = λ place is q. no_shape flat_shape (λ k. among_apart (Word word.Block ∷ []) flat_kinds (first_kind a) refl (inl here) k) }))
stops_block (suc n) here last h = stops_as (element_same (suc n)) (stop_left (block_shape (suc n) (omega arith)) flat_shape refl (inl here) (any_stops (h (omega arith))))

flat_stops : (n : ℕ) {a r : Tokens} {e : SyntaxFault} → first_kind a ≢ Some (Word word.Block) → Stops (Looser 4) FlatForm a r e → Stops (Looser 4) (Reads (IsElement n)) a r e
flat_stops zero not h = stops_as last_same h
flat_stops (suc n) not h = stops_as (element_same (suc n)) (stop_right (block_shape (suc n) (omega arith)) (not, tt) h)

pub stops_control : (n : ℕ) {a r : Tokens} {e : SyntaxFault} → first_kind a ≢ Some (Word word.Block) → first_kind a ≡ Some (Word word.Control) → Stops (Looser 4) (Reads IsControl) a r e → Stops (Looser 4) (Reads (IsElement n)) a r e
stops_control n not here h = flat_stops n not (stop_left control_shape line_shape refl (inl here) h)

line_stops : (n : ℕ) {a r : Tokens} {e : SyntaxFault} → first_kind a ≢ Some (Word word.Block) → first_kind a ≢ Some (Word word.Control) → Stops (Looser 4) DataForm a r e → Stops (Looser 4) (Reads (IsElement n)) a r e
line_stops n not nor h = flat_stops n not (stop_right control_shape (nor, tt) h)

pub stops_data : (n : ℕ) {a r : Tokens} {e : SyntaxFault} → first_kind a ≢ Some (Word word.Block) → first_kind a ≢ Some (Word word.Control) → first_kind a ≡ Some (Word word.Data) → Stops (Looser 5) (Reads IsDataLine) a r e
    → Stops (Looser 4) (Reads (IsElement n)) a r e
stops_data n not nor here h = line_stops n not nor (stop_left data_wide work_shape refl (inl here) (stops_less (λ x q. omega (arith, q)) h))

pub stops_process : (n : ℕ) {a r : Tokens} {e : SyntaxFault} → first_kind a ≢ Some (Word word.Block) → first_kind a ≢ Some (Word word.Control) → first_kind a ≢ Some (Word word.Data) → first_kind a ≡ Some (Word word.ProcessActivity)
    → Stops Anything (Reads IsProcessActivity) a r e → Stops (Looser 4) (Reads (IsElement n)) a r e
stops_process n not nor data_ here h = line_stops n not nor (stop_right data_wide (data_, tt) (stop_left process_wide program_wide refl (inl here) (any_stops h)))

pub stops_program : (n : ℕ) {a r : Tokens} {e : SyntaxFault} → first_kind a ≢ Some (Word word.Block) → first_kind a ≢ Some (Word word.Control) → first_kind a ≢ Some (Word word.Data) → first_kind a ≢ Some (Word word.ProcessActivity)
    → Stops Anything (Reads IsProgramActivity) a r e → Stops (Looser 4) (Reads (IsElement n)) a r e
stops_program n not nor data_ process h = line_stops n not nor (stop_right data_wide (data_, tt) (stop_right process_wide (process, tt) (any_stops h)))

-- the elements up to some place
abbrev pub ElementsSoFar : ℕ → Tokens → Tokens → Type 0
ElementsSoFar n a b = Through (Looser 3) Empty (Reads (IsElement n)) a b

pub elements_none : {n : ℕ} {a : Tokens} → ElementsSoFar n a a
elements_none = through_none

pub elements_more : {n : ℕ} {a b c : Tokens} → ElementsSoFar n a b → IsTaken (Looser 4) (Reads (IsElement n)) b c → ElementsSoFar n a c
elements_more {n} s h = loop_more (loops_of n (element_shape n)) s h

pub elements_taken : {n : ℕ} {a b : Tokens} → ElementsSoFar n a b → NotAmong element_kinds (first_kind b) → IsTaken (Looser 3) (Reads (AreElements n)) a b
elements_taken {n} s not = takes_as (elements_same n) (taken_many (loop_taken (loops_of n (element_shape n)) s not))

pub stops_elements : {n : ℕ} {a b r : Tokens} {e : SyntaxFault} → ElementsSoFar n a b → Among element_kinds (first_kind b) → Stops (Looser 4) (Reads (IsElement n)) b r e → Stops (Looser 3) (Reads (AreElements n)) a r e
stops_elements {n} s here h = stops_as (elements_same n) (stops_many (loop_stops (loops_of n (element_shape n)) s here h))

pub elements_loose : (n : ℕ) → Loose element_kinds 3 (Reads (AreElements n))
elements_loose n = elements_of n (element_shape n)
