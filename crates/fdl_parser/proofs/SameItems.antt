-- A text's tokens have one tree.
use Rattle.std.proofs.Common.{◌≡◌, ℕ, ◌<◌, ◌≤◌, List, [], ◌∷◌, ◌++◌, Option, Some, refl, ap, sym, ◌∙◌, arith}
use Rattle.fdl_lexer.specs.declared.kinds.What.TheVariants.{Mark}
use Rattle.flow_model.specs.declared.trees.NameAt.{NameAt}
use Rattle.flow_model.specs.declared.trees.NumberAt.{NumberAt}
use Rattle.flow_model.specs.declared.trees.KindTree.{KindTree}
use Rattle.flow_model.specs.declared.trees.KindTree.TheVariants as kind
use Rattle.flow_model.specs.declared.trees.Member.{Member}
use Rattle.flow_model.specs.declared.trees.StructDef.{StructDef}
use Rattle.flow_model.specs.declared.trees.PersonTree.{PersonTree}
use Rattle.flow_model.specs.declared.trees.ProcessTree.{ProcessTree}
use Rattle.flow_model.specs.declared.trees.ItemTree.{ItemTree}
use Rattle.flow_model.specs.declared.trees.ItemTree.TheVariants as item
use Rattle.flow_model.specs.declared.trees.Tree.{Tree}
use Rattle.fdl_lexer.specs.declared.kinds.Mark.TheVariants as mark
use Rattle.fdl_lexer.specs.declared.kinds.Token.{Token}
use Rattle.fdl_lexer.specs.Tokens.{AreTokens}
use Rattle.fdl_parser.specs.Tokens.{Tokens, spell, IsWord, IsName}
use Rattle.fdl_parser.specs.Lexed.{AreQuoted}
use Rattle.fdl_parser.specs.Items.{IsKind, LongKind, StringKind, StructKind, IsCount, NoCount, OneCount, IsMember, OneMember, AreMembers, NoMember, MoreMembers, IsStructure, OneStructure, AreNamed, FirstRole, NextRole, AreRoles, NoRoles, SomeRoles, IsPerson, OnePerson, IsProcess, OneProcess, IsItem, StructureItem, PersonItem, ProcessItem, AreItems, NoItem, MoreItems, IsTree}
use Rattle.flow_table.specs.declared.keyword.Keyword.TheVariants as word
use Rattle.fdl_parser.proofs.Same.{tier, lead, At, Same, word_same, lead_token, tier_token, calm_token, lead_name, tier_name, apart, name_same, number_same, Chain, Done, snoc, chain_same, Behind, behind_same, behind_begins, cons_eq}
use Rattle.fdl_parser.proofs.Quoted.{tokens_quoted}
use Rattle.fdl_parser.proofs.SameActivities.{structures_same, closing_same, closing_calm, elements_same}

abbrev kind_code : {x : KindTree} {a b : Tokens} → IsKind x a b → ℕ
kind_code (LongKind h) = 109
kind_code (StringKind h) = 110
kind_code (StructKind h) = 50

kind_lead : {x : KindTree} {a b : Tokens} → (h : IsKind x a b) → lead a ≡ kind_code h
kind_lead (LongKind h) = lead_token h
kind_lead (StringKind h) = lead_token h
kind_lead (StructKind h) = lead_name h

kind_same : {x y : KindTree} {a a' b b' : Tokens} → IsKind x a b → IsKind y a' b' → At a a' → Same x y b b'
kind_same (LongKind h) (LongKind j) at = let s = word_same h j at in record { tree = refl; rest = s.rest }
kind_same (StringKind h) (StringKind j) at = let s = word_same h j at in record { tree = refl; rest = s.rest }
kind_same (StructKind h) (StructKind j) at = let s = name_same h j at in record { tree = ap (λ (n : NameAt). kind.Struct n) s.tree; rest = s.rest }
kind_same h j at = apart lead (kind_lead h) (kind_lead j) at refl

count_same : {x y : Option NumberAt} {a a' b b' : Tokens} → IsCount x a b → IsCount y a' b' → tier b < 1 → tier b' < 1 → At a a' → Same x y b b'
count_same NoCount NoCount c c' at = record { tree = refl; rest = at }
count_same (OneCount h1 h2 h3) (OneCount j1 j2 j3) c c' at =
    let s1 = word_same h1 j1 at in
    let s2 = number_same h2 j2 s1.rest in
    let s3 = word_same h3 j3 s2.rest in
    record { tree = ap (λ (n : NumberAt). Some n) s2.tree; rest = s3.rest }
count_same NoCount (OneCount j1 j2 j3) c c' at = let e = ap tier at.same in let f = tier_token j1 in absurd (omega (arith, e, f))
count_same (OneCount h1 h2 h3) NoCount c c' at = let e = ap tier at.same in let f = tier_token h1 in absurd (omega (arith, e, f))

member_same : {x y : Member} {a a' b b' : Tokens} → IsMember x a b → IsMember y a' b' → At a a' → Same x y b b'
member_same (OneMember h1 h2 h3 h4 h5) (OneMember j1 j2 j3 j4 j5) at =
    let s1 = name_same h1 j1 at in
    let s2 = word_same h2 j2 s1.rest in
    let s3 = kind_same h3 j3 s2.rest in
    let s4 = count_same h4 j4 (calm_token h5 (omega arith)) (calm_token j5 (omega arith)) s3.rest in
    let s5 = word_same h5 j5 s4.rest in
    record { tree = rw (s1.tree, s3.tree, s4.tree) refl; rest = s5.rest }

member_begins : {x : Member} {a b : Tokens} → IsMember x a b → (2 ≤ tier a) × (tier a < 3)
member_begins (OneMember h1 h2 h3 h4 h5) = let e = tier_name h1 in (omega (arith, e), omega (arith, e))

member_chain : {xs : List Member} {a b : Tokens} → AreMembers xs a b → Chain Member IsMember xs a b
member_chain NoMember = Done
member_chain (MoreMembers h j) = snoc (member_chain h) j

members_same : {xs ys : List Member} {a a' b b' : Tokens} → AreMembers xs a b → AreMembers ys a' b' → tier b < 2 → tier b' < 2 → At a a' → Same xs ys b b'
members_same h j c c' at = chain_same 2 3 (omega arith) (λ x y a b d e h j c k at. member_same h j at) (λ x a b h. member_begins h) (member_chain h) (member_chain j) c c' at

structure_same : {x y : StructDef} {a a' b b' : Tokens} → IsStructure x a b → IsStructure y a' b' → At a a' → Same x y b b'
structure_same (OneStructure h1 h2 h3 h4) (OneStructure j1 j2 j3 j4) at =
    let c = closing_calm h4 in
    let d = closing_calm j4 in
    let s1 = word_same h1 j1 at in
    let s2 = name_same h2 j2 s1.rest in
    let s3 = members_same h3 j3 (omega (arith, c)) (omega (arith, d)) s2.rest in
    let s4 = closing_same h4 j4 s3.rest in
    record { tree = rw (s2.tree, s3.tree, s4.tree) refl; rest = s4.rest }

-- roles: the first, and the others as a chain
record RoleParts (names : List NameAt) (a b : Tokens) : Type 0 where
  pub first : NameAt
  pub more : List NameAt
  pub place : ℕ
  pub start : Tokens
  pub middle : Tokens
  pub are : names ≡ first ∷ more
  pub opens : IsWord word.Roles place a start
  pub begins : IsName first start middle
  pub goes_on : Chain NameAt (Behind NameAt (Mark mark.Comma) IsName) more middle b

role_parts : {names : List NameAt} {a b : Tokens} → AreNamed names a b → RoleParts names a b
role_parts (FirstRole {n = n} {p = p} {b = b} {c = c} h j) = record { first = n; more = []; place = p; start = b; middle = c; are = refl; opens = h; begins = j; goes_on = Done }
role_parts (NextRole {n = n} {p = p} {c = c} h k j) =
    let r = role_parts h in
    record { first = r.first; more = r.more ++ n ∷ []; place = r.place; start = r.start; middle = r.middle; are = ap (λ (l : List NameAt). l ++ n ∷ []) r.are; opens = r.opens; begins = r.begins; goes_on = snoc r.goes_on (record { place = p; middle = c; token = k; item = j }) }

named_same : {x y : List NameAt} {a a' b b' : Tokens} → AreNamed x a b → AreNamed y a' b' → tier b < 5 → tier b' < 5 → At a a' → Same x y b b'
named_same h j c c' at =
    let p = role_parts h in
    let q = role_parts j in
    let s1 = word_same p.opens q.opens at in
    let s2 = name_same p.begins q.begins s1.rest in
    let s3 = chain_same 5 6 (omega arith) (behind_same NameAt IsName (Mark mark.Comma) 6 (λ x y a b d e h j c k at. name_same h j at)) (behind_begins NameAt IsName (Mark mark.Comma) 5 6 (omega arith) (omega arith)) p.goes_on q.goes_on c c' s2.rest in
    record { tree = p.are ∙ (cons_eq p.first q.first p.more q.more s2.tree s3.tree ∙ sym q.are); rest = s3.rest }

named_tier : {x : List NameAt} {a b : Tokens} → AreNamed x a b → tier a ≡ 4
named_tier h = let p = role_parts h in tier_token p.opens

roles_same : {x y : List NameAt} {a a' b b' : Tokens} → AreRoles x a b → AreRoles y a' b' → tier b < 4 → tier b' < 4 → At a a' → Same x y b b'
roles_same NoRoles NoRoles c c' at = record { tree = refl; rest = at }
roles_same (SomeRoles h) (SomeRoles j) c c' at = named_same h j (omega arith) (omega arith) at
roles_same NoRoles (SomeRoles j) c c' at = let e = ap tier at.same in let f = named_tier j in absurd (omega (arith, e, f))
roles_same (SomeRoles h) NoRoles c c' at = let e = ap tier at.same in let f = named_tier h in absurd (omega (arith, e, f))

person_same : {x y : PersonTree} {a a' b b' : Tokens} → IsPerson x a b → IsPerson y a' b' → At a a' → Same x y b b'
person_same (OnePerson h1 h2 h3 h4) (OnePerson j1 j2 j3 j4) at =
    let c = closing_calm h4 in
    let d = closing_calm j4 in
    let s1 = word_same h1 j1 at in
    let s2 = name_same h2 j2 s1.rest in
    let s3 = roles_same h3 j3 (omega (arith, c)) (omega (arith, d)) s2.rest in
    let s4 = closing_same h4 j4 s3.rest in
    record { tree = rw (s2.tree, s3.tree, s4.tree) refl; rest = s4.rest }

process_same : {x y : ProcessTree} {a a' b b' : Tokens} → IsProcess x a b → IsProcess y a' b' → At a a' → Same x y b b'
process_same (OneProcess h1 h2 h3 h4 h5) (OneProcess j1 j2 j3 j4 j5) at =
    let c = closing_calm h5 in
    let d = closing_calm j5 in
    let s1 = word_same h1 j1 at in
    let s2 = name_same h2 j2 s1.rest in
    let s3 = structures_same h3 j3 s2.rest in
    let s4 = elements_same _ _ _ _ _ _ _ h4 j4 (omega (arith, c)) (omega (arith, d)) s3.rest in
    let s5 = closing_same h5 j5 s4.rest in
    record { tree = rw (s1.tree, s2.tree, s3.input, s3.output, s4.tree, s5.tree) refl; rest = s5.rest }

abbrev item_code : {x : ItemTree} {a b : Tokens} → IsItem x a b → ℕ
item_code (StructureItem h) = 101
item_code (PersonItem h) = 102
item_code (ProcessItem h) = 104

item_lead : {x : ItemTree} {a b : Tokens} → (h : IsItem x a b) → lead a ≡ item_code h
item_lead (StructureItem (OneStructure h1 h2 h3 h4)) = lead_token h1
item_lead (PersonItem (OnePerson h1 h2 h3 h4)) = lead_token h1
item_lead (ProcessItem (OneProcess h1 h2 h3 h4 h5)) = lead_token h1

item_same : {x y : ItemTree} {a a' b b' : Tokens} → IsItem x a b → IsItem y a' b' → At a a' → Same x y b b'
item_same (StructureItem h) (StructureItem j) at = let s = structure_same h j at in record { tree = ap (λ (k : StructDef). item.Structure k) s.tree; rest = s.rest }
item_same (PersonItem h) (PersonItem j) at = let s = person_same h j at in record { tree = ap (λ (k : PersonTree). item.Person k) s.tree; rest = s.rest }
item_same (ProcessItem h) (ProcessItem j) at = let s = process_same h j at in record { tree = ap (λ (k : ProcessTree). item.Process k) s.tree; rest = s.rest }
item_same h j at = apart lead (item_lead h) (item_lead j) at refl

item_begins : {x : ItemTree} {a b : Tokens} → IsItem x a b → (1 ≤ tier a) × (tier a < 2)
item_begins (StructureItem (OneStructure h1 h2 h3 h4)) = let e = tier_token h1 in (omega (arith, e), omega (arith, e))
item_begins (PersonItem (OnePerson h1 h2 h3 h4)) = let e = tier_token h1 in (omega (arith, e), omega (arith, e))
item_begins (ProcessItem (OneProcess h1 h2 h3 h4 h5)) = let e = tier_token h1 in (omega (arith, e), omega (arith, e))

item_chain : {xs : List ItemTree} {a b : Tokens} → AreItems xs a b → Chain ItemTree IsItem xs a b
item_chain NoItem = Done
item_chain (MoreItems h j) = snoc (item_chain h) j

-- all items of the same tokens
pub items_same : {xs ys : List ItemTree} {a : Tokens} → AreItems xs a [] → AreItems ys a [] → AreQuoted a → xs ≡ ys
items_same h j q =
    let s = chain_same 1 2 (omega arith) (λ x y a b d e h j c k at. item_same h j at) (λ x a b h. item_begins h) (item_chain h) (item_chain j) (omega arith) (omega arith) (record { same = refl; quoted = q }) in
    s.tree

tree_eq : (t u : Tree) → t.items ≡ u.items → t ≡ u
tree_eq t u e = ap (λ (xs : List ItemTree). let made : Tree = record { items = xs } in made) e

-- the tokens of a text have one tree
pub trees_are_one : (text : List ℕ) (tokens : List Token) (t u : Tree) → AreTokens text tokens → IsTree t (spell text tokens) → IsTree u (spell text tokens) → t ≡ u
trees_are_one text tokens t u lexed h j = tree_eq t u (items_same h j (tokens_quoted text tokens lexed))
