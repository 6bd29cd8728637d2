-- The names of activities are names in the tree of a text: what the lexer reads between quotes is handed on by each form.
use Rattle.std.proofs.Common.{◌≡◌, ℕ, zero, suc, true, List, [], ◌∷◌, ◌++◌, Option, Some, None, refl, sym, ap, subst, ◌∙◌}
use Rattle.std.specs.List.{All, cons_option}
use Rattle.std.proofs.lemmas.List.Elements.{All-nil, All-cons, All-append, filter_map-append}
use Rattle.std.proofs.lemmas.Option.{none-some}
use Rattle.fdl_lexer.specs.declared.kinds.What.{What}
use Rattle.fdl_parser.specs.Activities.{AreStructures, InputOutput, IsClosing, EndName, ConnectorsTrue, BothWords}
use Rattle.fdl_parser.specs.Activities.{IsJoin, AllTrue, OneTrue, SomeTrue, IsCommonAttribute, WhenJoin, ExitWhen}
use Rattle.fdl_parser.specs.Activities.{AreCommonAttributes, NoCommon, MoreCommon, IsDoneBy, ByRole, ByPerson, ByStarter}
use Rattle.fdl_parser.specs.Activities.{ByPerformer, IsStart, Manually, Automatically, IsAttribute, CommonAttribute}
use Rattle.fdl_parser.specs.Activities.{StartAttribute, ExpiresAttribute, DoneByAttribute, AreAttributes, NoAttribute}
use Rattle.fdl_parser.specs.Activities.{MoreAttributes, IsProgramActivity, ProgramActivity, IsProcessActivity, ProcessActivity}
use Rattle.fdl_parser.specs.Activities.{IsBlock, BlockActivity, IsElement, BlockElement, ProcessElement, ProgramElement}
use Rattle.fdl_parser.specs.Activities.{ControlElement, DataElement, AreElements, NoElement, MoreElements}
use Rattle.fdl_parser.specs.Conditions.{IsOperand, LeafOperand, NumberOperand, IsNextTerm, PlusTerm, MinusTerm, IsSum, FirstTerm}
use Rattle.fdl_parser.specs.Conditions.{MoreTerms, IsSide, TextSide, SumSide, IsComparison, Compared, IsNegation, Comparison}
use Rattle.fdl_parser.specs.Conditions.{Denied, Bracketed, AreConjoined, TwoNegations, MoreNegations, IsConjunction, OneNegation}
use Rattle.fdl_parser.specs.Conditions.{Negations, AreDisjoined, TwoConjunctions, MoreConjunctions, IsDisjunction, OneConjunction}
use Rattle.fdl_parser.specs.Conditions.{Conjunctions, IsCondition, Whole}
use Rattle.fdl_parser.specs.Items.{IsKind, LongKind, StringKind, StructKind, IsCount, NoCount, OneCount, IsMember, OneMember}
use Rattle.fdl_parser.specs.Items.{AreMembers, NoMember, MoreMembers, IsStructure, OneStructure, AreNamed, FirstRole, NextRole}
use Rattle.fdl_parser.specs.Items.{AreRoles, NoRoles, SomeRoles, IsPerson, OnePerson, IsProcess, OneProcess, IsItem, StructureItem}
use Rattle.fdl_parser.specs.Items.{PersonItem, ProcessItem, AreItems, NoItem, MoreItems}
use Rattle.fdl_parser.specs.Lexed.{AreQuoted}
use Rattle.fdl_parser.specs.Lines.{IsTransition, Unconditional, Otherwise, Conditional, IsControl, ControlLine, IsEnd, BorderEnd}
use Rattle.fdl_parser.specs.Lines.{ActivityEnd, AreEnds, LoopEnds, LineEnds, IsMap, LeafToLeaf, AreMaps, FirstMap, MoreMaps}
use Rattle.fdl_parser.specs.Lines.{IsDataLine, DataLine}
use Rattle.fdl_parser.specs.Tokens.{Tokens, IsToken, IsName, IsQuote, IsNumber, IsSigned, Unsigned, Negative}
use Rattle.fdl_parser.specs.Tokens.{IsFirstStep, RcFirst, NameFirst, IsNextStep, MemberNext, PlaceNext, IsLeaf, FirstStep, MoreSteps}
use Rattle.fdl_parser.proofs.Quoted.{tokens_quoted}
use Rattle.flow_model.specs.Words.{is_name}
use Rattle.flow_model.specs.declared.trees.ActivityTree.{ActivityTree}
use Rattle.flow_model.specs.declared.trees.AttrAt.{AttrAt}
use Rattle.flow_model.specs.declared.trees.AttrTree.{AttrTree}
use Rattle.flow_model.specs.declared.trees.Cond.{Cond}
use Rattle.flow_model.specs.declared.trees.CondAt.{CondAt}
use Rattle.flow_model.specs.declared.trees.ControlTree.{ControlTree}
use Rattle.flow_model.specs.declared.trees.DataTree.{DataTree}
use Rattle.flow_model.specs.declared.trees.ElementTree.{ElementTree}
use Rattle.flow_model.specs.declared.trees.ElementTree.TheVariants as element
use Rattle.flow_model.specs.declared.trees.ElementTree.TheOpen.{WorkTree-F}
use Rattle.flow_model.specs.declared.trees.EndTree.{EndTree}
use Rattle.flow_model.specs.declared.trees.EndsTree.{EndsTree}
use Rattle.flow_model.specs.declared.trees.ItemTree.{ItemTree}
use Rattle.flow_model.specs.declared.trees.JoinTree.{JoinTree}
use Rattle.flow_model.specs.declared.trees.KindTree.{KindTree}
use Rattle.flow_model.specs.declared.trees.LeafAt.{LeafAt}
use Rattle.flow_model.specs.declared.trees.MapTree.{MapTree}
use Rattle.flow_model.specs.declared.trees.Member.{Member}
use Rattle.flow_model.specs.declared.trees.NameAt.{NameAt}
use Rattle.flow_model.specs.declared.trees.NumberAt.{NumberAt}
use Rattle.flow_model.specs.declared.trees.OperandTree.{OperandTree}
use Rattle.flow_model.specs.declared.trees.PersonTree.{PersonTree}
use Rattle.flow_model.specs.declared.trees.ProcessTree.{ProcessTree}
use Rattle.flow_model.specs.declared.trees.Side.{Side}
use Rattle.flow_model.specs.declared.trees.StepTree.{StepTree}
use Rattle.flow_model.specs.declared.trees.StructDef.{StructDef}
use Rattle.flow_model.specs.declared.trees.TermTree.{TermTree}
use Rattle.flow_model.specs.declared.trees.Tree.{Tree}
use Rattle.flow_model.specs.declared.trees.WhenTree.{WhenTree}
use Rattle.flow_model.specs.declared.trees.WorkTree.{out-WorkTree}
use Rattle.flow_model.specs.declared.trees.WorkTree.TheVariants as work
use Rattle.flow_model.specs.declared.trees.WorkTree.TheVariants.{outs-Program, outs-Process, outs-Block}
use Rattle.flow_table.specs.declared.keyword.Keyword.{Keyword}
use Rattle.template_check.specs.Compiling.{HasTree}
use Rattle.text_graphs.specs.Blocks.{IsBlockOf}
use Rattle.text_graphs.specs.Texts.{activity_of, activities_in, process_of, processes_in}

-- ---- what is left behind a form is quoted where the whole is

token_keeps : {k : What} {p : ℕ} {a b : Tokens} → IsToken k p a b → AreQuoted a → AreQuoted b
token_keeps h q = (subst AreQuoted h.first q).1

name_keeps : {n : NameAt} {a b : Tokens} → IsName n a b → AreQuoted a → AreQuoted b
name_keeps h q = (subst AreQuoted h.first q).1

quote_keeps : {v : List ℕ} {p : ℕ} {a b : Tokens} → IsQuote v p a b → AreQuoted a → AreQuoted b
quote_keeps h q = (subst AreQuoted h.first q).1

-- what a name stands for is one
name_named : {n : NameAt} {a b : Tokens} → IsName n a b → AreQuoted a → is_name n.name ≡ true
name_named {n} h q =
    let whole = (subst AreQuoted h.first q).0 in
    ap is_name (h.inside whole.0 whole.1) ∙ whole.2

number_keeps : {n : NumberAt} {a b : Tokens} → IsNumber n a b → AreQuoted a → AreQuoted b
number_keeps h q = token_keeps h.first q

signed_keeps : {n : NumberAt} {a b : Tokens} → IsSigned n a b → AreQuoted a → AreQuoted b
signed_keeps (Unsigned h) q = number_keeps h q
signed_keeps (Negative h j) q = number_keeps j (token_keeps h q)

first_step_keeps : {s : StepTree} {p : ℕ} {a b : Tokens} → IsFirstStep s p a b → AreQuoted a → AreQuoted b
first_step_keeps (RcFirst h) q = token_keeps h q
first_step_keeps (NameFirst h) q = name_keeps h q

next_step_keeps : {s : StepTree} {a b : Tokens} → IsNextStep s a b → AreQuoted a → AreQuoted b
next_step_keeps (MemberNext h j) q = name_keeps j (token_keeps h q)
next_step_keeps (PlaceNext h j k) q = token_keeps k (number_keeps j (token_keeps h q))

leaf_keeps : {l : LeafAt} {a b : Tokens} → IsLeaf l a b → AreQuoted a → AreQuoted b
leaf_keeps (FirstStep h) q = first_step_keeps h q
leaf_keeps (MoreSteps h j) q = next_step_keeps j (leaf_keeps h q)

-- ---- conditions

operand_keeps : {o : OperandTree} {a b : Tokens} → IsOperand o a b → AreQuoted a → AreQuoted b
operand_keeps (LeafOperand h) q = leaf_keeps h q
operand_keeps (NumberOperand h) q = signed_keeps h q

term_keeps : {t : TermTree} {a b : Tokens} → IsNextTerm t a b → AreQuoted a → AreQuoted b
term_keeps (PlusTerm h j) q = operand_keeps j (token_keeps h q)
term_keeps (MinusTerm h j) q = operand_keeps j (token_keeps h q)

sum_keeps : {ts : List TermTree} {a b : Tokens} → IsSum ts a b → AreQuoted a → AreQuoted b
sum_keeps (FirstTerm h) q = operand_keeps h q
sum_keeps (MoreTerms h j) q = term_keeps j (sum_keeps h q)

side_keeps : {s : Side} {a b : Tokens} → IsSide s a b → AreQuoted a → AreQuoted b
side_keeps (TextSide h) q = quote_keeps h q
side_keeps (SumSide h) q = sum_keeps h q

comparison_keeps : {x : Cond} {a b : Tokens} → IsComparison x a b → AreQuoted a → AreQuoted b
comparison_keeps (Compared h j k) q = side_keeps k (token_keeps j (side_keeps h q))

mutual
  negation_keeps : {n : ℕ} {x : Cond} {a b : Tokens} → IsNegation n x a b → AreQuoted a → AreQuoted b
  negation_keeps (Comparison h) q = comparison_keeps h q
  negation_keeps (Denied less h j) q = negation_keeps j (token_keeps h q)
  negation_keeps (Bracketed less h j k) q = token_keeps k (disjunction_keeps j (token_keeps h q))

  conjoined_keep : {n : ℕ} {xs : List Cond} {a b : Tokens} → AreConjoined n xs a b → AreQuoted a → AreQuoted b
  conjoined_keep (TwoNegations h j k) q = negation_keeps k (token_keeps j (negation_keeps h q))
  conjoined_keep (MoreNegations h j k) q = negation_keeps k (token_keeps j (conjoined_keep h q))

  conjunction_keeps : {n : ℕ} {x : Cond} {a b : Tokens} → IsConjunction n x a b → AreQuoted a → AreQuoted b
  conjunction_keeps (OneNegation h) q = negation_keeps h q
  conjunction_keeps (Negations h) q = conjoined_keep h q

  disjoined_keep : {n : ℕ} {xs : List Cond} {a b : Tokens} → AreDisjoined n xs a b → AreQuoted a → AreQuoted b
  disjoined_keep (TwoConjunctions h j k) q = conjunction_keeps k (token_keeps j (conjunction_keeps h q))
  disjoined_keep (MoreConjunctions h j k) q = conjunction_keeps k (token_keeps j (disjoined_keep h q))

  disjunction_keeps : {n : ℕ} {x : Cond} {a b : Tokens} → IsDisjunction n x a b → AreQuoted a → AreQuoted b
  disjunction_keeps (OneConjunction h) q = conjunction_keeps h q
  disjunction_keeps (Conjunctions h) q = disjoined_keep h q

condition_keeps : {x : CondAt} {a b : Tokens} → IsCondition x a b → AreQuoted a → AreQuoted b
condition_keeps (Whole h j k) q = token_keeps k (disjunction_keeps j (token_keeps h q))

-- ---- lines

transition_keeps : {w : WhenTree} {a b : Tokens} → IsTransition w a b → AreQuoted a → AreQuoted b
transition_keeps Unconditional q = q
transition_keeps (Otherwise h) q = token_keeps h q
transition_keeps (Conditional h j) q = condition_keeps j (token_keeps h q)

control_keeps : {c : ControlTree} {a b : Tokens} → IsControl c a b → AreQuoted a → AreQuoted b
control_keeps (ControlLine h1 h2 h3 h4 h5 h6) q =
    transition_keeps h6 (name_keeps h5 (token_keeps h4 (name_keeps h3 (token_keeps h2 (token_keeps h1 q)))))

end_keeps : {border : Keyword} {e : EndTree} {a b : Tokens} → IsEnd border e a b → AreQuoted a → AreQuoted b
end_keeps (BorderEnd h) q = token_keeps h q
end_keeps (ActivityEnd h) q = name_keeps h q

ends_keep : {e : EndsTree} {a b : Tokens} → AreEnds e a b → AreQuoted a → AreQuoted b
ends_keep (LoopEnds h j) q = name_keeps j (token_keeps h q)
ends_keep (LineEnds h1 h2 h3 h4) q = end_keeps h4 (token_keeps h3 (end_keeps h2 (token_keeps h1 q)))

map_keeps : {m : MapTree} {a b : Tokens} → IsMap m a b → AreQuoted a → AreQuoted b
map_keeps (LeafToLeaf h j k) q = leaf_keeps k (token_keeps j (leaf_keeps h q))

maps_keep : {ms : List MapTree} {a b : Tokens} → AreMaps ms a b → AreQuoted a → AreQuoted b
maps_keep (FirstMap h j) q = map_keeps j (token_keeps h q)
maps_keep (MoreMaps h j k) q = map_keeps k (token_keeps j (maps_keep h q))

data_keeps : {d : DataTree} {a b : Tokens} → IsDataLine d a b → AreQuoted a → AreQuoted b
data_keeps (DataLine h j k) q = maps_keep k (ends_keep j (token_keeps h q))

-- ---- attributes

structures_keep : {x y : NameAt} {a b : Tokens} → AreStructures x y a b → AreQuoted a → AreQuoted b
structures_keep (InputOutput h1 h2 h3 h4 h5) q =
    token_keeps h5 (name_keeps h4 (token_keeps h3 (name_keeps h2 (token_keeps h1 q))))

closing_keeps : {n : NameAt} {a b : Tokens} → IsClosing n a b → AreQuoted a → AreQuoted b
closing_keeps (EndName h j) q = name_keeps j (token_keeps h q)

connectors_keep : {a b : Tokens} → ConnectorsTrue a b → AreQuoted a → AreQuoted b
connectors_keep (BothWords h j) q = token_keeps j (token_keeps h q)

join_keeps : {x : JoinTree} {a b : Tokens} → IsJoin x a b → AreQuoted a → AreQuoted b
join_keeps (AllTrue h j) q = connectors_keep j (token_keeps h q)
join_keeps (OneTrue h j k) q = token_keeps k (token_keeps j (token_keeps h q))
join_keeps (SomeTrue h j k) q = connectors_keep k (number_keeps j (token_keeps h q))

common_keeps : {x : AttrAt} {a b : Tokens} → IsCommonAttribute x a b → AreQuoted a → AreQuoted b
common_keeps (WhenJoin h j) q = join_keeps j (token_keeps h q)
common_keeps (ExitWhen h j k) q = condition_keeps k (token_keeps j (token_keeps h q))

commons_keep : {xs : List AttrAt} {a b : Tokens} → AreCommonAttributes xs a b → AreQuoted a → AreQuoted b
commons_keep NoCommon q = q
commons_keep (MoreCommon h j) q = common_keeps j (commons_keep h q)

done_keeps : {x : AttrTree} {a b : Tokens} → IsDoneBy x a b → AreQuoted a → AreQuoted b
done_keeps (ByRole h j) q = name_keeps j (token_keeps h q)
done_keeps (ByPerson h j) q = name_keeps j (token_keeps h q)
done_keeps (ByStarter h) q = token_keeps h q
done_keeps (ByPerformer h j k) q = name_keeps k (token_keeps j (token_keeps h q))

start_keeps : {x : AttrTree} {a b : Tokens} → IsStart x a b → AreQuoted a → AreQuoted b
start_keeps (Manually h) q = token_keeps h q
start_keeps (Automatically h) q = token_keeps h q

attribute_keeps : {x : AttrAt} {a b : Tokens} → IsAttribute x a b → AreQuoted a → AreQuoted b
attribute_keeps (CommonAttribute h) q = common_keeps h q
attribute_keeps (StartAttribute h j) q = start_keeps j (token_keeps h q)
attribute_keeps (ExpiresAttribute h j) q = number_keeps j (token_keeps h q)
attribute_keeps (DoneByAttribute h j) q = done_keeps j (token_keeps h q)

attributes_keep : {xs : List AttrAt} {a b : Tokens} → AreAttributes xs a b → AreQuoted a → AreQuoted b
attributes_keep NoAttribute q = q
attributes_keep (MoreAttributes h j) q = attribute_keeps j (attributes_keep h q)

-- ---- elements

-- an activity has a name, and if it is a block, its elements have this property
abbrev IsNamedWith : (List ElementTree → Type 0) → ActivityTree → Type 0
IsNamedWith P a = (is_name a.name.name ≡ true) × ((inner : List ElementTree) → IsBlockOf a inner → P inner)

-- the activities of elements have names, and so have those of blocks fewer than this many levels deep
abbrev pub AreNamedTo : ℕ → List ElementTree → Type 0
AreNamedTo zero elements = Unit {0}
AreNamedTo (suc depth) elements =
    All (λ a. (is_name a.name.name ≡ true) × ((inner : List ElementTree) → IsBlockOf a inner → AreNamedTo depth inner))
    (activities_in elements)

-- with all blocks inside them
abbrev pub AreAllNamed : List ElementTree → Type 0
AreAllNamed elements = (depth : ℕ) → AreNamedTo depth elements

pub program_no_block : (es : List ElementTree) → work.Program ≡ work.Block es → ⊥
program_no_block es e =
    let h : WorkTree-F.Program ≡ WorkTree-F.Block es = sym outs-Program ∙ ap out-WorkTree e ∙ outs-Block es in cc

pub process_no_block : (n : NameAt) (es : List ElementTree) → work.Process n ≡ work.Block es → ⊥
process_no_block n es e =
    let h : WorkTree-F.Process n ≡ WorkTree-F.Block es = sym (outs-Process n) ∙ ap out-WorkTree e ∙ outs-Block es in
    cc

pub block_one : (es fs : List ElementTree) → work.Block es ≡ work.Block fs → es ≡ fs
block_one es fs e =
    let h : WorkTree-F.Block es ≡ WorkTree-F.Block fs = sym (outs-Block es) ∙ ap out-WorkTree e ∙ outs-Block fs in cc

-- an activity is named to every depth
abbrev IsAllNamed : ActivityTree → Type 0
IsAllNamed a = (depth : ℕ) → IsNamedWith (AreNamedTo depth) a

-- if an element is an activity, it is named
abbrev ElementNamed : ElementTree → Type 0
ElementNamed x = (a : ActivityTree) → activity_of x ≡ Some a → IsAllNamed a

same_activity : (x a : ActivityTree) → IsAllNamed x → activity_of (element.Activity x) ≡ Some a → IsAllNamed a
same_activity x a named is = let e : x ≡ a = cc in subst IsAllNamed e named

more_named : (xs : List ElementTree) (x : ElementTree) → AreAllNamed xs → ElementNamed x → AreAllNamed (xs ++ x ∷ [])
more_named xs x all one zero = tt
more_named xs x all one (suc depth) =
    subst (All (IsNamedWith (AreNamedTo depth))) (sym (filter_map-append activity_of xs (x ∷ [])))
    (All-append (IsNamedWith (AreNamedTo depth)) (activities_in xs) (cons_option (activity_of x) []) (all (suc depth))
    (last (activity_of x) refl))
  where
    last : (o : Option ActivityTree) → activity_of x ≡ o → All (IsNamedWith (AreNamedTo depth)) (cons_option o [])
    last None is = All-nil (IsNamedWith (AreNamedTo depth))
    last (Some a) is =
        All-cons (IsNamedWith (AreNamedTo depth)) a [] (one a is depth) (All-nil (IsNamedWith (AreNamedTo depth)))

none_named : AreAllNamed []
none_named zero = tt
none_named (suc depth) = All-nil (IsNamedWith (AreNamedTo depth))

program_named : {x : ActivityTree} {a b : Tokens} → IsProgramActivity x a b → AreQuoted a → IsAllNamed x × AreQuoted b
program_named (ProgramActivity h1 h2 h3 h4 h5) q =
    let first = token_keeps h1 q in (
      (λ depth. (name_named h2 first, λ inner is. absurd (program_no_block inner is))),
      closing_keeps h5 (attributes_keep h4 (structures_keep h3 (name_keeps h2 first))),
    )

process_named : {x : ActivityTree} {a b : Tokens} → IsProcessActivity x a b → AreQuoted a → IsAllNamed x × AreQuoted b
process_named (ProcessActivity {process} h1 h2 h3 h4 h5 h6 h7) q =
    let first = token_keeps h1 q in (
      (λ depth. (name_named h2 first, λ inner is. absurd (process_no_block process inner is))),
      closing_keeps h7 (commons_keep h6 (name_keeps h5 (token_keeps h4 (structures_keep h3 (name_keeps h2 first))))),
    )

mutual
  block_named : {n : ℕ} {x : ActivityTree} {a b : Tokens} → IsBlock n x a b → AreQuoted a
      → IsAllNamed x × AreQuoted b
  block_named (BlockActivity {elements} less h1 h2 h3 h4 h5 h6) q =
      let first = token_keeps h1 q in
      let inside = elements_named h5 (commons_keep h4 (structures_keep h3 (name_keeps h2 first))) in (
        (λ depth. (
          name_named h2 first,
          λ inner is. subst (AreNamedTo depth) (block_one elements inner is) (inside.0 depth),
        )),
        closing_keeps h6 inside.1,
      )

  element_named : {n : ℕ} {x : ElementTree} {a b : Tokens} → IsElement n x a b → AreQuoted a
      → ElementNamed x × AreQuoted b
  element_named (BlockElement {x} h) q = let r = block_named h q in ((λ a is. same_activity x a r.0 is), r.1)
  element_named (ProcessElement {x} h) q = let r = process_named h q in ((λ a is. same_activity x a r.0 is), r.1)
  element_named (ProgramElement {x} h) q = let r = program_named h q in ((λ a is. same_activity x a r.0 is), r.1)
  element_named (ControlElement h) q = ((λ a none. absurd (none-some a none)), control_keeps h q)
  element_named (DataElement h) q = ((λ a none. absurd (none-some a none)), data_keeps h q)

  elements_named : {n : ℕ} {xs : List ElementTree} {a b : Tokens} → AreElements n xs a b → AreQuoted a
      → AreAllNamed xs × AreQuoted b
  elements_named NoElement q = (none_named, q)
  elements_named (MoreElements {xs} {x} h j) q =
      let front = elements_named h q in
      let last = element_named j front.1 in
      (more_named xs x front.0 last.0, last.1)

-- ---- items

kind_keeps : {k : KindTree} {a b : Tokens} → IsKind k a b → AreQuoted a → AreQuoted b
kind_keeps (LongKind h) q = token_keeps h q
kind_keeps (StringKind h) q = token_keeps h q
kind_keeps (StructKind h) q = name_keeps h q

count_keeps : {n : Option NumberAt} {a b : Tokens} → IsCount n a b → AreQuoted a → AreQuoted b
count_keeps NoCount q = q
count_keeps (OneCount h j k) q = token_keeps k (number_keeps j (token_keeps h q))

member_keeps : {m : Member} {a b : Tokens} → IsMember m a b → AreQuoted a → AreQuoted b
member_keeps (OneMember h1 h2 h3 h4 h5) q =
    token_keeps h5 (count_keeps h4 (kind_keeps h3 (token_keeps h2 (name_keeps h1 q))))

members_keep : {ms : List Member} {a b : Tokens} → AreMembers ms a b → AreQuoted a → AreQuoted b
members_keep NoMember q = q
members_keep (MoreMembers h j) q = member_keeps j (members_keep h q)

structure_keeps : {s : StructDef} {a b : Tokens} → IsStructure s a b → AreQuoted a → AreQuoted b
structure_keeps (OneStructure h1 h2 h3 h4) q =
    closing_keeps h4 (members_keep h3 (name_keeps h2 (token_keeps h1 q)))

named_keep : {ns : List NameAt} {a b : Tokens} → AreNamed ns a b → AreQuoted a → AreQuoted b
named_keep (FirstRole h j) q = name_keeps j (token_keeps h q)
named_keep (NextRole h j k) q = name_keeps k (token_keeps j (named_keep h q))

roles_keep : {ns : List NameAt} {a b : Tokens} → AreRoles ns a b → AreQuoted a → AreQuoted b
roles_keep NoRoles q = q
roles_keep (SomeRoles h) q = named_keep h q

person_keeps : {p : PersonTree} {a b : Tokens} → IsPerson p a b → AreQuoted a → AreQuoted b
person_keeps (OnePerson h1 h2 h3 h4) q = closing_keeps h4 (roles_keep h3 (name_keeps h2 (token_keeps h1 q)))

-- the elements of a process are named
abbrev ProcessNamed : ProcessTree → Type 0
ProcessNamed p = AreAllNamed p.elements

one_process : {p : ProcessTree} {a b : Tokens} → IsProcess p a b → AreQuoted a → ProcessNamed p × AreQuoted b
one_process (OneProcess h1 h2 h3 h4 h5) q =
    let inside = elements_named h4 (structures_keep h3 (name_keeps h2 (token_keeps h1 q))) in
    (inside.0, closing_keeps h5 inside.1)

item_named : {x : ItemTree} {a b : Tokens} → IsItem x a b → AreQuoted a
    → ((p : ProcessTree) → process_of x ≡ Some p → ProcessNamed p) × AreQuoted b
item_named (StructureItem h) q = ((λ p none. absurd (none-some p none)), structure_keeps h q)
item_named (PersonItem h) q = ((λ p none. absurd (none-some p none)), person_keeps h q)
item_named (ProcessItem {x} h) q =
    let r = one_process h q in
    ((λ p is. let e : x ≡ p = cc in subst ProcessNamed e r.0), r.1)

items_named : {xs : List ItemTree} {a b : Tokens} → AreItems xs a b → AreQuoted a
    → All ProcessNamed (processes_in xs) × AreQuoted b
items_named NoItem q = (All-nil ProcessNamed, q)
items_named (MoreItems {xs} {x} h j) q =
    let front = items_named h q in
    let one = item_named j front.1 in (
      subst (All ProcessNamed) (sym (filter_map-append process_of xs (x ∷ [])))
          (All-append ProcessNamed (processes_in xs) (cons_option (process_of x) []) front.0
          (last_process (process_of x) one.0)),
      one.1,
    )
  where
    last_process : (o : Option ProcessTree) → ((p : ProcessTree) → o ≡ Some p → ProcessNamed p)
        → All ProcessNamed (cons_option o [])
    last_process None one = All-nil ProcessNamed
    last_process (Some p) one = All-cons ProcessNamed p [] (one p refl) (All-nil ProcessNamed)

-- the processes of a text have named activities
pub text_named : (text : List ℕ) (tree : Tree) → HasTree text tree → All (λ p. AreAllNamed p.elements) (processes_in tree.items)
text_named text tree has = (items_named has.parsed (tokens_quoted text has.tokens has.scanned)).0
