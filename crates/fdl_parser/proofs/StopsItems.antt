-- How far the items of a text are read, and where a text is refused.
use Rattle.std.proofs.Common.{◌≡◌, ℕ, ◌==◌, Bool, true, false, List, [], ◌∷◌, ◌++◌, length, Option, Some, None as Nothing, refl, ap, sym, ◌∙◌, subst, inl, inr, append-nil}
use Rattle.std.specs.Prelude.{◌≢◌}
use Rattle.flow_table.specs.declared.keyword.Keyword.TheVariants as word
use Rattle.flow_model.specs.declared.trees.NameAt.{NameAt}
use Rattle.flow_model.specs.declared.trees.NumberAt.{NumberAt}
use Rattle.flow_model.specs.declared.trees.KindTree.{KindTree}
use Rattle.flow_model.specs.declared.trees.Member.{Member}
use Rattle.flow_model.specs.declared.trees.StructDef.{StructDef}
use Rattle.flow_model.specs.declared.trees.PersonTree.{PersonTree}
use Rattle.flow_model.specs.declared.trees.ProcessTree.{ProcessTree}
use Rattle.flow_model.specs.declared.trees.ItemTree.{ItemTree}
use Rattle.fdl_lexer.specs.declared.kinds.Token.{Token}
use Rattle.fdl_lexer.specs.declared.kinds.What.{What}
use Rattle.fdl_lexer.specs.declared.kinds.What.TheVariants.{Word, Name, Number, Mark}
use Rattle.fdl_lexer.specs.declared.kinds.Mark.TheVariants as mark
use Rattle.fdl_parser.specs.declared.cursor.SyntaxFault.{SyntaxFault}
use Rattle.fdl_parser.specs.declared.cursor.SyntaxFault.TheVariants.{At, NoMemory}
use Rattle.fdl_parser.specs.Tokens.{Tokens, Reading, reading, spell, first_kind, IsWord, IsMark, IsName, IsNumber, IsRest}
use Rattle.fdl_parser.specs.Faults.{Names}
use Rattle.fdl_parser.specs.Tiers.{Looser}
use Rattle.fdl_parser.specs.Stops.{Reads, Structures, Anything, AtEnd, first_and, IsTaken, IsStop, Stops}
use Rattle.fdl_parser.specs.Refusing.{SomeTree, IsFirstFault, Refuses, RefusesFirst, HaveNoTree}
use Rattle.fdl_parser.specs.Activities.{IsClosing, AreElements}
use Rattle.fdl_parser.specs.Items.{block_levels, IsKind, LongKind, StringKind, StructKind, IsCount, NoCount, OneCount, IsMember, OneMember, AreMembers, NoMember, MoreMembers, IsStructure, OneStructure, AreNamed, FirstRole, NextRole, AreRoles, NoRoles, SomeRoles, IsPerson, OnePerson, IsProcess, OneProcess, IsItem, StructureItem, PersonItem, ProcessItem, AreItems, NoItem, MoreItems}
use Rattle.fdl_parser.proofs.Quoted.{tokens_quoted}
use Rattle.fdl_parser.proofs.Stops.{Seq, Either, Maybe, Star, None, More, star_snoc, Through, Opens, Empty, through_none, through_more, stops_loop, taken_many, stops_many, stops_first, stops_second}
use Rattle.fdl_parser.proofs.Shapes.{Among, Shape, Loose, Same, Loops, WordForm, MarkForm, word_shape, mark_shape, name_shape, number_shape, shape_as, loose_as, takes_as, stops_as, before, seq, seq_end, skip, sure, stop_now, stop_then, either, stop_left, stop_right, maybe, take_none, take_some, stop_some, star, loop_first, loop_more, loop_taken, loop_stops, loop_now, through_all, any_stops, free_taken, free_stops}
use Rattle.fdl_parser.proofs.StopsActivities.{structures_shape, closing_shape, elements_loose}

-- ---- members

abbrev KindForm : Tokens → Tokens → Type 0
KindForm = Either (WordForm word.Long) (Either (WordForm word.String) (Reads IsName))

kind_into : (a b : Tokens) → KindForm a b → Reads IsKind a b
kind_into a b (inl h) = (_, LongKind h.1)
kind_into a b (inr (inl h)) = (_, StringKind h.1)
kind_into a b (inr (inr h)) = (_, StructKind h.1)

kind_out : (a b : Tokens) → Reads IsKind a b → KindForm a b
kind_out a b h = go h.1
  where
    go : {k : KindTree} → IsKind k a b → KindForm a b
    go (LongKind j) = inl (_, j)
    go (StringKind j) = inr (inl (_, j))
    go (StructKind j) = inr (inr (_, j))

pub kind_same : Same KindForm (Reads IsKind)
kind_same = record { into = kind_into; out = kind_out }

string_or : Shape (Word word.String ∷ Name ∷ []) 10 (Either (WordForm word.String) (Reads IsName))
string_or = either (word_shape word.String) name_shape refl

pub kind_shape : Shape (Word word.Long ∷ Word word.String ∷ Name ∷ []) 10 (Reads IsKind)
kind_shape = shape_as kind_same (either (word_shape word.Long) string_or refl)

abbrev SomeCount : Tokens → Tokens → Type 0
SomeCount = Seq (MarkForm mark.Open) (Seq (Reads IsNumber) (MarkForm mark.Close))

count_into : (a b : Tokens) → Maybe SomeCount a b → Reads IsCount a b
count_into a b (inl e) = (Nothing, subst (λ (x : Tokens). IsCount Nothing a x) (sym e) NoCount)
count_into a b (inr h) = (_, OneCount h.1.1 h.2.1.1 h.2.2.1)

count_out : (a b : Tokens) → Reads IsCount a b → Maybe SomeCount a b
count_out a b h = go h.1
  where
    go : {n : Option NumberAt} {a b : Tokens} → IsCount n a b → Maybe SomeCount a b
    go NoCount = inl refl
    go (OneCount j k l) = inr (_, (_, j), (_, (_, k), (_, l)))

count_same : Same (Maybe SomeCount) (Reads IsCount)
count_same = record { into = count_into; out = count_out }

pub count_number : Shape (Number 0 ∷ []) 10 (Seq (Reads IsNumber) (MarkForm mark.Close))
count_number = seq number_shape (mark_shape mark.Close) refl

some_count : Shape (Mark mark.Open ∷ []) 10 SomeCount
some_count = seq (mark_shape mark.Open) count_number refl

pub count_loose : Loose (Mark mark.Open ∷ []) 1 (Reads IsCount)
count_loose = loose_as count_same (maybe some_count refl refl)

pub count_none : {a : Tokens} → first_kind a ≢ Some (Mark mark.Open) → IsTaken (Looser 1) (Reads IsCount) a a
count_none not = takes_as count_same (take_none {n = 10} some_count refl (not, tt))

pub count_some : {n : NumberAt} {p q : ℕ} {a b c d : Tokens} → IsMark mark.Open p a b → IsNumber n b c → IsMark mark.Close q c d → IsTaken (Looser 1) (Reads IsCount) a d
count_some m n k = takes_as count_same (take_some {n = 10} some_count refl (free_taken (sure some_count (_, (_, m), (_, (_, n), (_, k))))))

count_stops : {a r : Tokens} {e : SyntaxFault} → first_kind a ≡ Some (Mark mark.Open) → Stops (Looser 10) SomeCount a r e → Stops (Looser 1) (Reads IsCount) a r e
count_stops here h = stops_as count_same (stop_some {n = 10} some_count refl (inl here) (free_stops h))

pub stops_count : {p : ℕ} {a b r : Tokens} {e : SyntaxFault} → IsMark mark.Open p a b → Stops Anything (Reads IsNumber) b r e → Stops (Looser 1) (Reads IsCount) a r e
stops_count m h = count_stops (ap first_kind m.first) (stop_then (mark_shape mark.Open) (_, m) (stop_now (mark_shape mark.Close).can h))

pub stops_count_close : {n : NumberAt} {p : ℕ} {a b c r : Tokens} {e : SyntaxFault} → IsMark mark.Open p a b → IsNumber n b c → Stops Anything (MarkForm mark.Close) c r e → Stops (Looser 1) (Reads IsCount) a r e
stops_count_close m n h = count_stops (ap first_kind m.first) (stop_then (mark_shape mark.Open) (_, m) (stop_then number_shape (_, n) (any_stops h)))

abbrev MemberForm : Tokens → Tokens → Type 0
MemberForm = Seq (Reads IsName) (Seq (MarkForm mark.Colon) (Seq (Reads IsKind) (Seq (Reads IsCount) (MarkForm mark.Semicolon))))

member_into : (a b : Tokens) → MemberForm a b → Reads IsMember a b
member_into a b h = (_, OneMember h.1.1 h.2.1.1 h.2.2.1.1 h.2.2.2.1.1 h.2.2.2.2.1)

member_out : (a b : Tokens) → Reads IsMember a b → MemberForm a b
member_out a b h = go h.1
  where
    go : {x : Member} → IsMember x a b → MemberForm a b
    go (OneMember j k l m n) = (_, (_, j), (_, (_, k), (_, (_, l), (_, (_, m), (_, n)))))

pub member_same : Same MemberForm (Reads IsMember)
member_same = record { into = member_into; out = member_out }

pub member_count : Shape (Mark mark.Open ∷ Mark mark.Semicolon ∷ []) 10 (Seq (Reads IsCount) (MarkForm mark.Semicolon))
member_count = skip count_loose (mark_shape mark.Semicolon) refl

pub member_kind : Shape (Word word.Long ∷ Word word.String ∷ Name ∷ []) 10 (Seq (Reads IsKind) (Seq (Reads IsCount) (MarkForm mark.Semicolon)))
member_kind = seq kind_shape member_count refl

pub member_colon : Shape (Mark mark.Colon ∷ []) 10 (Seq (MarkForm mark.Colon) (Seq (Reads IsKind) (Seq (Reads IsCount) (MarkForm mark.Semicolon))))
member_colon = seq (mark_shape mark.Colon) member_kind refl

member_shape : Shape (Name ∷ []) 10 (Reads IsMember)
member_shape = shape_as member_same (seq name_shape member_colon refl)

members_form : {xs : List Member} {a b : Tokens} → AreMembers xs a b → Star (Reads IsMember) a b
members_form NoMember = None
members_form (MoreMembers h j) = star_snoc (members_form h) (_, j)

members_on : {xs : List Member} {a b c : Tokens} → AreMembers xs a b → Star (Reads IsMember) b c → Reads AreMembers a c
members_on {xs = xs} h None = (xs, h)
members_on h (More g s) = members_on (MoreMembers h g.1) s

members_same : Same (Star (Reads IsMember)) (Reads AreMembers)
members_same = record { into = λ a b s. members_on NoMember s; out = λ a b h. members_form h.1 }

member_loops : Loops (Name ∷ []) 10 2 (Reads IsMember)
member_loops = record { one = member_shape; begun = refl; calm = refl; less = refl }

members_loose : Loose (Name ∷ []) 2 (Reads AreMembers)
members_loose = loose_as members_same (star member_loops)

-- ---- structures

abbrev StructureForm : Tokens → Tokens → Type 0
StructureForm = Seq (WordForm word.Structure) (Seq (Reads IsName) (Seq (Reads AreMembers) (Reads IsClosing)))

structure_into : (a b : Tokens) → StructureForm a b → Reads IsStructure a b
structure_into a b h = (_, OneStructure h.1.1 h.2.1.1 h.2.2.1.1 h.2.2.2.1)

structure_out : (a b : Tokens) → Reads IsStructure a b → StructureForm a b
structure_out a b h = go h.1
  where
    go : {x : StructDef} → IsStructure x a b → StructureForm a b
    go (OneStructure j k l m) = (_, (_, j), (_, (_, k), (_, (_, l), (_, m))))

pub structure_same : Same StructureForm (Reads IsStructure)
structure_same = record { into = structure_into; out = structure_out }

pub structure_members : Shape (Name ∷ Word word.End ∷ []) 10 (Seq (Reads AreMembers) (Reads IsClosing))
structure_members = skip members_loose closing_shape refl

pub structure_name : Shape (Name ∷ []) 10 (Seq (Reads IsName) (Seq (Reads AreMembers) (Reads IsClosing)))
structure_name = seq name_shape structure_members refl

structure_shape : Shape (Word word.Structure ∷ []) 10 (Reads IsStructure)
structure_shape = shape_as structure_same (seq (word_shape word.Structure) structure_name refl)

-- where a member stops
pub stops_member : {xs : List Member} {a b r : Tokens} {e : SyntaxFault} → AreMembers xs a b → first_kind b ≡ Some Name → Stops Anything (Reads IsMember) b r e → Stops (Looser 10) (Seq (Reads AreMembers) (Reads IsClosing)) a r e
stops_member h here s =
    stops_first (before {n = 2} closing_shape refl) (stops_as members_same (stops_many (loop_stops member_loops (through_all member_loops through_none (members_form h)) (inl here) (any_stops s)))) closing_shape.can

-- and the end behind the members
pub stops_members_end : {xs : List Member} {a b r : Tokens} {e : SyntaxFault} → AreMembers xs a b → first_kind b ≢ Some Name → Stops Anything (Reads IsClosing) b r e → Stops (Looser 10) (Seq (Reads AreMembers) (Reads IsClosing)) a r e
stops_members_end h not s =
    stops_second (before {n = 2} closing_shape refl) (takes_as members_same (taken_many (loop_taken member_loops (through_all member_loops through_none (members_form h)) (not, tt)))) (any_stops s)

-- ---- persons

abbrev FirstRoleForm : Tokens → Tokens → Type 0
FirstRoleForm = Seq (WordForm word.Roles) (Reads IsName)

abbrev NextRoleForm : Tokens → Tokens → Type 0
NextRoleForm = Seq (MarkForm mark.Comma) (Reads IsName)

abbrev RolesForm : Tokens → Tokens → Type 0
RolesForm = Seq FirstRoleForm (Star NextRoleForm)

named_on : {ns : List NameAt} {a b c : Tokens} → AreNamed ns a b → Star NextRoleForm b c → Reads AreNamed a c
named_on {ns} h None = (ns, h)
named_on h (More g s) = named_on (NextRole h g.1.1 g.2.1) s

named_form : {ns : List NameAt} {a b : Tokens} → AreNamed ns a b → RolesForm a b
named_form (FirstRole t j) = (_, (_, (_, t), (_, j)), None)
named_form (NextRole h m j) = let w = named_form h in (w.0, w.1, star_snoc w.2 (_, (_, m), (_, j)))

roles_into : (a b : Tokens) → Maybe RolesForm a b → Reads AreRoles a b
roles_into a b (inl e) = ([], subst (λ (x : Tokens). AreRoles [] a x) (sym e) NoRoles)
roles_into a b (inr h) = let w = named_on (FirstRole h.1.1.1 h.1.2.1) h.2 in (w.0, SomeRoles w.1)

roles_out : (a b : Tokens) → Reads AreRoles a b → Maybe RolesForm a b
roles_out a b h = go h.1
  where
    go : {ns : List NameAt} {a b : Tokens} → AreRoles ns a b → Maybe RolesForm a b
    go NoRoles = inl refl
    go (SomeRoles j) = inr (named_form j)

roles_same : Same (Maybe RolesForm) (Reads AreRoles)
roles_same = record { into = roles_into; out = roles_out }

first_role : Shape (Word word.Roles ∷ []) 10 FirstRoleForm
first_role = seq (word_shape word.Roles) name_shape refl

role_loops : Loops (Mark mark.Comma ∷ []) 10 4 NextRoleForm
role_loops = record { one = seq (mark_shape mark.Comma) name_shape refl; begun = refl; calm = refl; less = refl }

roles_shape : Shape (Word word.Roles ∷ []) 4 RolesForm
roles_shape = seq_end first_role (star role_loops) refl refl

pub roles_loose : Loose (Word word.Roles ∷ []) 4 (Reads AreRoles)
roles_loose = loose_as roles_same (maybe roles_shape refl refl)

-- the roles up to some place
roles_so_far : {ns : List NameAt} {a b : Tokens} → AreNamed ns a b → Through (Looser 4) FirstRoleForm NextRoleForm a b
roles_so_far (FirstRole t j) = loop_first role_loops (sure first_role (_, (_, t), (_, j)))
roles_so_far (NextRole h m j) = loop_more role_loops (roles_so_far h) (sure (seq (mark_shape mark.Comma) name_shape refl) (_, (_, m), (_, j)))

roles_begin : {ns : List NameAt} {a b : Tokens} → AreNamed ns a b → first_kind a ≡ Some (Word word.Roles)
roles_begin (FirstRole t j) = ap first_kind t.first
roles_begin (NextRole h m j) = roles_begin h

pub roles_none : {a : Tokens} → first_kind a ≢ Some (Word word.Roles) → IsTaken (Looser 4) (Reads AreRoles) a a
roles_none not = takes_as roles_same (take_none {n = 4} roles_shape refl (not, tt))

pub roles_taken : {ns : List NameAt} {a b : Tokens} → AreNamed ns a b → first_kind b ≢ Some (Mark mark.Comma) → IsTaken (Looser 4) (Reads AreRoles) a b
roles_taken h not = takes_as roles_same (take_some {n = 4} roles_shape refl (loop_taken role_loops (roles_so_far h) (not, tt)))

pub stops_first_role : {p : ℕ} {a b r : Tokens} {e : SyntaxFault} → IsWord word.Roles p a b → Stops Anything (Reads IsName) b r e → Stops (Looser 4) (Reads AreRoles) a r e
stops_first_role t h = stops_as roles_same (stop_some {n = 4} roles_shape refl (inl (ap first_kind t.first)) (loop_now role_loops (stop_then (word_shape word.Roles) (_, t) (any_stops h))))

pub stops_next_role : {ns : List NameAt} {p : ℕ} {a b c r : Tokens} {e : SyntaxFault} → AreNamed ns a b → IsMark mark.Comma p b c → Stops Anything (Reads IsName) c r e → Stops (Looser 4) (Reads AreRoles) a r e
stops_next_role s m h =
    stops_as roles_same (stop_some {n = 4} roles_shape refl (inl (roles_begin s)) (loop_stops role_loops (roles_so_far s) (inl (ap first_kind m.first)) (stop_then (mark_shape mark.Comma) (_, m) (any_stops h))))

abbrev PersonForm : Tokens → Tokens → Type 0
PersonForm = Seq (WordForm word.Person) (Seq (Reads IsName) (Seq (Reads AreRoles) (Reads IsClosing)))

person_into : (a b : Tokens) → PersonForm a b → Reads IsPerson a b
person_into a b h = (_, OnePerson h.1.1 h.2.1.1 h.2.2.1.1 h.2.2.2.1)

person_out : (a b : Tokens) → Reads IsPerson a b → PersonForm a b
person_out a b h = go h.1
  where
    go : {x : PersonTree} → IsPerson x a b → PersonForm a b
    go (OnePerson j k l m) = (_, (_, j), (_, (_, k), (_, (_, l), (_, m))))

pub person_same : Same PersonForm (Reads IsPerson)
person_same = record { into = person_into; out = person_out }

pub person_roles : Shape (Word word.Roles ∷ Word word.End ∷ []) 10 (Seq (Reads AreRoles) (Reads IsClosing))
person_roles = skip roles_loose closing_shape refl

pub person_name : Shape (Name ∷ []) 10 (Seq (Reads IsName) (Seq (Reads AreRoles) (Reads IsClosing)))
person_name = seq name_shape person_roles refl

person_shape : Shape (Word word.Person ∷ []) 10 (Reads IsPerson)
person_shape = shape_as person_same (seq (word_shape word.Person) person_name refl)

-- ---- processes

abbrev ProcessForm : Tokens → Tokens → Type 0
ProcessForm = Seq (WordForm word.Process) (Seq (Reads IsName) (Seq Structures (Seq (Reads (AreElements block_levels)) (Reads IsClosing))))

process_into : (a b : Tokens) → ProcessForm a b → Reads IsProcess a b
process_into a b h = (_, OneProcess h.1.1 h.2.1.1 h.2.2.1.2 h.2.2.2.1.1 h.2.2.2.2.1)

process_out : (a b : Tokens) → Reads IsProcess a b → ProcessForm a b
process_out a b h = go h.1
  where
    go : {x : ProcessTree} → IsProcess x a b → ProcessForm a b
    go (OneProcess j k l m n) = (_, (_, j), (_, (_, k), (_, (_, _, l), (_, (_, m), (_, n)))))

pub process_same : Same ProcessForm (Reads IsProcess)
process_same = record { into = process_into; out = process_out }

pub process_elements : Shape (Word word.Block ∷ Word word.Control ∷ Word word.Data ∷ Word word.ProcessActivity ∷ Word word.ProgramActivity ∷ Word word.End ∷ []) 10 (Seq (Reads (AreElements block_levels)) (Reads IsClosing))
process_elements = skip (elements_loose block_levels) closing_shape refl

pub process_structures : Shape (Mark mark.Open ∷ []) 10 (Seq Structures (Seq (Reads (AreElements block_levels)) (Reads IsClosing)))
process_structures = seq structures_shape process_elements refl

pub process_name : Shape (Name ∷ []) 10 (Seq (Reads IsName) (Seq Structures (Seq (Reads (AreElements block_levels)) (Reads IsClosing))))
process_name = seq name_shape process_structures refl

process_shape : Shape (Word word.Process ∷ []) 10 (Reads IsProcess)
process_shape = shape_as process_same (seq (word_shape word.Process) process_name refl)

-- ---- items

abbrev ItemForm : Tokens → Tokens → Type 0
ItemForm = Either (Reads IsStructure) (Either (Reads IsPerson) (Reads IsProcess))

item_into : (a b : Tokens) → ItemForm a b → Reads IsItem a b
item_into a b (inl h) = (_, StructureItem h.1)
item_into a b (inr (inl h)) = (_, PersonItem h.1)
item_into a b (inr (inr h)) = (_, ProcessItem h.1)

item_out : (a b : Tokens) → Reads IsItem a b → ItemForm a b
item_out a b h = go h.1
  where
    go : {x : ItemTree} → IsItem x a b → ItemForm a b
    go (StructureItem j) = inl (_, j)
    go (PersonItem j) = inr (inl (_, j))
    go (ProcessItem j) = inr (inr (_, j))

item_same : Same ItemForm (Reads IsItem)
item_same = record { into = item_into; out = item_out }

person_or : Shape (Word word.Person ∷ Word word.Process ∷ []) 10 (Either (Reads IsPerson) (Reads IsProcess))
person_or = either person_shape process_shape refl

item_shape : Shape (Word word.Structure ∷ Word word.Person ∷ Word word.Process ∷ []) 10 (Reads IsItem)
item_shape = shape_as item_same (either structure_shape person_or refl)

pub stops_structure : {a r : Tokens} {e : SyntaxFault} → first_kind a ≡ Some (Word word.Structure) → Stops Anything (Reads IsStructure) a r e → Stops Anything (Reads IsItem) a r e
stops_structure here h = free_stops (stops_as item_same (stop_left structure_shape person_or refl (inl here) (any_stops h)))

pub stops_person : {a r : Tokens} {e : SyntaxFault} → first_kind a ≢ Some (Word word.Structure) → first_kind a ≡ Some (Word word.Person) → Stops Anything (Reads IsPerson) a r e → Stops Anything (Reads IsItem) a r e
stops_person not here h = free_stops (stops_as item_same (stop_right structure_shape (not, tt) (stop_left person_shape process_shape refl (inl here) (any_stops h))))

pub stops_process : {a r : Tokens} {e : SyntaxFault} → first_kind a ≢ Some (Word word.Structure) → first_kind a ≢ Some (Word word.Person) → Stops Anything (Reads IsProcess) a r e → Stops Anything (Reads IsItem) a r e
stops_process not nor h = free_stops (stops_as item_same (stop_right structure_shape (not, tt) (stop_right person_shape (nor, tt) (any_stops h))))

-- ---- texts

items_form : {xs : List ItemTree} {a b : Tokens} → AreItems xs a b → Star (Reads IsItem) a b
items_form NoItem = None
items_form (MoreItems h j) = star_snoc (items_form h) (_, j)

-- a token is left
abbrev pub SomeToken : Option What → Type 0
SomeToken k = k ≢ Nothing

is_some : (w : What) (k : Option What) → k ≡ Some w → SomeToken k
is_some w k e n = no (sym e ∙ n)
  where
    no : Some w ≡ Nothing → ⊥
    no f = cc

item_some : (a b : Tokens) → Reads IsItem a b → SomeToken (first_kind a)
item_some a b h = go (item_shape.begins a b h)
  where
    go : Among (Word word.Structure ∷ Word word.Person ∷ Word word.Process ∷ []) (first_kind a) → SomeToken (first_kind a)
    go (inl e) = is_some (Word word.Structure) (first_kind a) e
    go (inr (inl e)) = is_some (Word word.Person) (first_kind a) e
    go (inr (inr (inl e))) = is_some (Word word.Process) (first_kind a) e
    go (inr (inr (inr e))) = absurd e

items_open : Opens SomeToken AtEnd (Reads IsItem)
items_open = record { begins = item_some; closes = λ b p k. k (ap first_kind p) }

items_on : {a b c : Tokens} → Through AtEnd Empty (Reads IsItem) a b → Star (Reads IsItem) b c → Through AtEnd Empty (Reads IsItem) a c
items_on t None = t
items_on t (More g s) = items_on (through_more items_open t (free_taken (sure item_shape g))) s

items_read : {xs : List ItemTree} {a b c : Tokens} → AreItems xs a b → Star (Reads IsItem) b c → Reads AreItems a c
items_read {xs = xs} h None = (xs, h)
items_read h (More g s) = items_read (MoreItems h g.1) s

tree_of : {a : Tokens} → Star (Reads IsItem) a [] → SomeTree a
tree_of {a} s = let w : Reads AreItems a [] = items_read NoItem s in (record { items = w.0 }, w.1)

-- where an item stops, the text does
pub refuses_item : {xs : List ItemTree} {a b r : Tokens} {e : SyntaxFault} → AreItems xs a b → SomeToken (first_kind b) → Stops Anything (Reads IsItem) b r e → Refuses SomeTree a r e
refuses_item {a = a} {r = r} {e = e} items here s = record { first = λ place is q. fault (whole.stop place is q) }
  where
    whole : Stops AtEnd (Star (Reads IsItem)) a r e
    whole = stops_many (stops_loop items_open (items_on through_none (items_form items)) here s)

    fault : IsStop AtEnd (Star (Reads IsItem)) a r → IsFirstFault SomeTree a r
    fault h = record {
      front = h.front;
      cut = h.cut;
      more = h.more;
      lexed = h.lexed;
      begins = subst (λ (x : Tokens). SomeTree (h.front ++ x)) (append-nil h.more) (tree_of (h.goes_on [] refl));
      blocked = λ others t. h.blocked others [] refl (items_form t.1);
    }

pub some_left : (b : Tokens) (ended : Bool) → ended ≡ (length b == 0) → ended ≡ false → SomeToken (first_kind b)
some_left [] ended is e n = no (sym is ∙ e)
  where
    no : true ≡ false → ⊥
    no f = cc
some_left (t ∷ ts) ended is e n = no n
  where
    no : Some t.kind ≡ Nothing → ⊥
    no f = cc

-- what the cursor refuses, the text does
pub refused_first : (text : List ℕ) (tokens : List Token) (e : SyntaxFault) (after : Reading) → IsRest (reading text tokens) after.left after.end → Names after e → Refuses SomeTree (spell text tokens) after.left e
    → RefusesFirst text tokens e
refused_first text tokens NoMemory after rest names refuses = tt
refused_first text tokens (At place) after rest names refuses = λ lexed. (after.left, after.end, rest, names, refuses.first place refl (tokens_quoted text tokens lexed))

-- tokens that are refused at some place have no tree
whole : {all rest : Tokens} → IsFirstFault SomeTree all rest → SomeTree all → ⊥
whole {all} {rest} h said = go rest h.cut h.blocked
  where
    go : (rest : Tokens) → all ≡ h.front ++ rest → ((others : Tokens) → SomeTree (h.front ++ first_and rest others) → ⊥) → ⊥
    go [] cut not = not [] (subst SomeTree cut said)
    go (t ∷ ts) cut not = not ts (subst SomeTree cut said)

pub refused_none : (text : List ℕ) (tokens : List Token) (e : SyntaxFault) → RefusesFirst text tokens e → HaveNoTree text tokens e
refused_none text tokens NoMemory refuses = λ lexed tree is. refl
refused_none text tokens (At place) refuses = λ lexed tree is. absurd (whole (refuses lexed).4 (tree, is))
