-- Trees that are the same but for places have the same pieces.
use Rattle.std.proofs.Common.{◌≡◌, false, List, ◌∷◌, ◌++◌, Option, map, refl, sym, ap, ◌∙◌, flat_map}
use Rattle.flow_table.specs.declared.keyword.Keyword.{Keyword}
use Rattle.flow_table.specs.declared.keyword.Keyword.TheVariants as keyword
use Rattle.flow_model.specs.declared.trees.NameAt.{NameAt}
use Rattle.flow_model.specs.declared.trees.NumberAt.{NumberAt}
use Rattle.flow_model.specs.declared.trees.OperandTree.{OperandTree}
use Rattle.flow_model.specs.declared.trees.TermTree.{TermTree}
use Rattle.flow_model.specs.declared.trees.Side.{Side}
use Rattle.flow_model.specs.declared.trees.Cond.{Cond}
use Rattle.flow_model.specs.declared.trees.CondAt.{CondAt}
use Rattle.flow_model.specs.declared.trees.WhenTree.{WhenTree}
use Rattle.flow_model.specs.declared.trees.ControlTree.{ControlTree}
use Rattle.flow_model.specs.declared.trees.EndTree.{EndTree}
use Rattle.flow_model.specs.declared.trees.EndsTree.{EndsTree}
use Rattle.flow_model.specs.declared.trees.MapTree.{MapTree}
use Rattle.flow_model.specs.declared.trees.DataTree.{DataTree}
use Rattle.flow_model.specs.declared.trees.JoinTree.{JoinTree}
use Rattle.flow_model.specs.declared.trees.AttrTree.{AttrTree}
use Rattle.flow_model.specs.declared.trees.AttrAt.{AttrAt}
use Rattle.flow_model.specs.declared.trees.WorkTree.{WorkTree}
use Rattle.flow_model.specs.declared.trees.ActivityTree.{ActivityTree}
use Rattle.flow_model.specs.declared.trees.ElementTree.{ElementTree}
use Rattle.flow_model.specs.declared.trees.KindTree.{KindTree}
use Rattle.flow_model.specs.declared.trees.Member.{Member}
use Rattle.flow_model.specs.declared.trees.ItemTree.{ItemTree}
use Rattle.flow_model.specs.declared.trees.Tree.{Tree}
use Rattle.fdl_print.specs.Pieces.{Piece, text, word, name}
use Rattle.fdl_print.specs.Parts.{number_pieces, steps_pieces, operand_pieces, later_term, sum_pieces, side_pieces}
use Rattle.fdl_print.specs.Conditions.{Shown, shown, condition_pieces, in_parentheses}
use Rattle.fdl_print.specs.Elements.{join_pieces, attr_pieces, attr_line, when_pieces, control_pieces, end_piece, ends_pieces, map_pieces, later_map, maps_pieces, data_pieces, kind_piece, count_pieces, member_line, first_role, later_role, roles_pieces}
use Rattle.fdl_print.specs.Canonical.{worked, activity_pieces, element_pieces, item_pieces, canonical_text}
use Rattle.fdl_print.specs.Same.{Each, NoneLeft, OneMore, SameName, SameNumber, SameMap, SameOperand, TwoLeaves, TwoNumbers, SameTerm, SameSide, TwoTexts, TwoSums, SameCond, TwoComparisons, TwoDenials, TwoAnds, TwoOrs, SameConds, NoConds, MoreConds, SameCondAt, SameWhen, TwoAlways, TwoOtherwise, TwoWhen, SameControl, SameEnd, TwoBorders, TwoActivities, SameEnds, TwoLines, TwoLoops, SameData, SameJoin, TwoAll, TwoAtLeastOne, TwoAtLeast, SameWhat, TwoJoins, TwoExits, TwoExpires, TwoRoles, TwoPersons, TwoPerformers, TwoStarts, TwoStarters, SameAttr, SameWork, TwoPrograms, TwoCalls, TwoBlocks, SameActivity, TwoActivityTrees, SameElement, TwoActs, TwoControls, TwoData, SameElements, NoElements, MoreElements, SameKind, TwoLong, TwoString, TwoStructs, SameCount, NoCounts, TwoCounts, SameMember, SameItem, TwoStructures, TwoPeople, TwoProcesses, SameButPlaces}
use Rattle.fdl_print.proofs.Blocks.{worked_process, worked_block, element_activity, element_control, element_line}
use Rattle.fdl_print.proofs.ShowsConditions.{shown_compare, shown_and, shown_or, shown_not}

each_same : {A : Type 0} {R : A → A → Type 0} {xs ys : List A} (f : A → List Piece) → ((x y : A) → R x y → f x ≡ f y) → Each A R xs ys → flat_map f xs ≡ flat_map f ys
each_same f one NoneLeft = refl
each_same f one (OneMore {x = x} {y = y} {xs = xs} {ys = ys} h r) = ap (λ (ps : List Piece). ps ++ flat_map f xs) (one x y h) ∙ ap (λ (ps : List Piece). f y ++ ps) (each_same f one r)

number_same : (x y : NumberAt) → SameNumber x y → number_pieces x ≡ number_pieces y
number_same x y s = rw (s.sign, s.size) refl

-- ---- conditions

operand_same : (x y : OperandTree) → SameOperand x y → operand_pieces x ≡ operand_pieces y
operand_same x y (TwoLeaves h) = ap steps_pieces h
operand_same x y (TwoNumbers {x = n} {y = m} h) = number_same n m h

term_same : (x y : TermTree) → SameTerm x y → later_term x ≡ later_term y
unfolding later_term
term_same x y s = rw (s.sign, operand_same x.operand y.operand s.operand) refl

sum_same : {xs ys : List TermTree} → Each TermTree SameTerm xs ys → sum_pieces xs ≡ sum_pieces ys
sum_same NoneLeft = refl
sum_same (OneMore {x = x} {y = y} {xs = xs} {ys = ys} h r) = rw (operand_same x.operand y.operand h.operand, each_same later_term term_same r) refl

side_same : (x y : Side) → SameSide x y → side_pieces x ≡ side_pieces y
side_same x y TwoTexts = refl
side_same x y (TwoSums h) = sum_same h

mutual
  cond_same : {x y : Cond} → SameCond x y → shown x ≡ shown y
  cond_same (TwoComparisons {l = l} {r = r} {k = k} {s = s} {o = o} h j) =
      shown_compare l r o ∙ rw (side_same l k h, side_same r s j) (sym (shown_compare k s o))
  cond_same (TwoDenials {x = x} {y = y} s) = shown_not x ∙ rw (cond_same s) (sym (shown_not y))
  cond_same (TwoAnds {xs = xs} {ys = ys} s) = shown_and xs ∙ rw (conds_same s) (sym (shown_and ys))
  cond_same (TwoOrs {xs = xs} {ys = ys} s) = shown_or xs ∙ rw (conds_same s) (sym (shown_or ys))

  conds_same : {xs ys : List Cond} → SameConds xs ys → map shown xs ≡ map shown ys
  conds_same NoConds = refl
  conds_same (MoreConds h r) = rw (cond_same h, conds_same r) refl

condition_same : (x y : CondAt) → SameCondAt x y → condition_pieces x ≡ condition_pieces y
condition_same x y s = ap (λ (w : Shown). in_parentheses w.bare) (cond_same s)

-- ---- lines

when_same : (x y : WhenTree) → SameWhen x y → when_pieces x ≡ when_pieces y
when_same x y TwoAlways = refl
when_same x y TwoOtherwise = refl
when_same x y (TwoWhen {x = u} {y = v} h) = ap (λ (ps : List Piece). word keyword.When ∷ ps) (condition_same u v h)

control_same : (x y : ControlTree) → SameControl x y → control_pieces x ≡ control_pieces y
control_same x y s = rw (s.from, s.to, when_same x.when y.when s.when) refl

end_same : (x y : EndTree) (border : Keyword) → SameEnd x y → end_piece x border ≡ end_piece y border
end_same x y border TwoBorders = refl
end_same x y border (TwoActivities h) = ap name h

ends_same : (x y : EndsTree) → SameEnds x y → ends_pieces x ≡ ends_pieces y
ends_same x y (TwoLines {from = from} {to = to} {out = out} {into = into} h j) = rw (end_same from out keyword.Source h, end_same to into keyword.Sink j) refl
ends_same x y (TwoLoops h) = rw h refl

map_same : (x y : MapTree) → SameMap x y → map_pieces x ≡ map_pieces y
unfolding map_pieces
map_same x y s = rw (s.from, s.to) refl

later_map_same : (x y : MapTree) → SameMap x y → later_map x ≡ later_map y
unfolding later_map
later_map_same x y s = rw (map_same x y s) refl

maps_same : {xs ys : List MapTree} → Each MapTree SameMap xs ys → maps_pieces xs ≡ maps_pieces ys
maps_same NoneLeft = refl
maps_same (OneMore {x = x} {y = y} h r) = rw (map_same x y h, each_same later_map later_map_same r) refl

data_same : (x y : DataTree) → SameData x y → data_pieces x ≡ data_pieces y
data_same x y s = rw (ends_same x.ends y.ends s.ends, maps_same s.maps) refl

-- ---- activities

join_same : (x y : JoinTree) → SameJoin x y → join_pieces x ≡ join_pieces y
join_same x y TwoAll = refl
join_same x y TwoAtLeastOne = refl
join_same x y (TwoAtLeast {x = n} {y = m} h) = rw (number_same n m h) refl

what_same : (x y : AttrTree) → SameWhat x y → attr_pieces x ≡ attr_pieces y
what_same x y (TwoJoins {x = u} {y = v} h) = join_same u v h
what_same x y (TwoExits {x = u} {y = v} h) = rw (condition_same u v h) refl
what_same x y (TwoExpires {x = n} {y = m} h) = rw (number_same n m h) refl
what_same x y (TwoRoles h) = rw h refl
what_same x y (TwoPersons h) = rw h refl
what_same x y (TwoPerformers h) = rw h refl
what_same x y TwoStarts = refl
what_same x y TwoStarters = refl

attr_same : (x y : AttrAt) → SameAttr x y → attr_line x ≡ attr_line y
unfolding attr_line
attr_same x y s = rw (what_same x.what y.what s) refl

mutual
  work_same : {x y : WorkTree} → SameWork x y → worked x ≡ worked y
  work_same TwoPrograms = refl
  work_same (TwoCalls {x = n} {y = m} h) = worked_process n ∙ rw h (sym (worked_process m))
  work_same (TwoBlocks {xs = xs} {ys = ys} h) = worked_block xs ∙ rw (elements_same h) (sym (worked_block ys))

  activity_same : {x y : ActivityTree} → SameActivity x y → activity_pieces x ≡ activity_pieces y
  activity_same (TwoActivityTrees w n i o s d) = rw (work_same w, n, i, o, each_same attr_line attr_same s, d) refl

  element_same : {x y : ElementTree} → SameElement x y → element_pieces x ≡ element_pieces y
  element_same (TwoActs {x = u} {y = v} h) = element_activity u ∙ activity_same h ∙ sym (element_activity v)
  element_same (TwoControls {x = u} {y = v} h) = element_control u ∙ control_same u v h ∙ sym (element_control v)
  element_same (TwoData {x = u} {y = v} h) = element_line u ∙ data_same u v h ∙ sym (element_line v)

  elements_same : {xs ys : List ElementTree} → SameElements xs ys → flat_map element_pieces xs ≡ flat_map element_pieces ys
  elements_same NoElements = refl
  elements_same (MoreElements h r) = rw (element_same h, elements_same r) refl

-- ---- items

kind_same : (x y : KindTree) → SameKind x y → kind_piece x ≡ kind_piece y
kind_same x y TwoLong = refl
kind_same x y TwoString = refl
kind_same x y (TwoStructs h) = ap name h

count_same : (x y : Option NumberAt) → SameCount x y → count_pieces x ≡ count_pieces y
count_same x y NoCounts = refl
count_same x y (TwoCounts {x = n} {y = m} h) = rw (number_same n m h) refl

member_same : (x y : Member) → SameMember x y → member_line x ≡ member_line y
unfolding member_line
member_same x y s = rw (s.name, kind_same x.kind y.kind s.kind, count_same x.count y.count s.count) refl

role_same : (x y : NameAt) → SameName x y → later_role x ≡ later_role y
unfolding later_role
role_same x y h = rw h refl

first_same : (x y : NameAt) → SameName x y → first_role x ≡ first_role y
unfolding first_role
first_same x y h = rw h refl

roles_same : {xs ys : List NameAt} → Each NameAt SameName xs ys → roles_pieces xs ≡ roles_pieces ys
roles_same NoneLeft = refl
roles_same (OneMore {x = x} {y = y} h r) = rw (first_same x y h, each_same later_role role_same r) refl

item_same : (x y : ItemTree) → SameItem x y → item_pieces x ≡ item_pieces y
unfolding item_pieces
item_same x y (TwoStructures s) = rw (s.name, each_same member_line member_same s.members, s.end) refl
item_same x y (TwoPeople s) = rw (s.name, roles_same s.roles, s.end) refl
item_same x y (TwoProcesses s) = rw (s.name, s.input, s.output, elements_same s.elements, s.end) refl

-- trees that are the same but for places have one canonical text
pub one_text : (x y : Tree) → SameButPlaces x y → canonical_text x ≡ canonical_text y
one_text x y s = ap (text false) (each_same item_pieces item_same s)
