-- The tokens of activities and elements have one tree.
use Rattle.std.proofs.Common.{◌≡◌, ℕ, zero, suc, ◌<◌, ◌≤◌, ◌-◌, ◌==◌, ◌||◌, List, refl, ap, subst, arith}
use Rattle.std.specs.Prelude.{if◌then◌else◌}
use Rattle.flow_model.specs.declared.trees.NameAt.{NameAt}
use Rattle.flow_model.specs.declared.trees.NumberAt.{NumberAt}
use Rattle.flow_model.specs.declared.trees.JoinTree.{JoinTree}
use Rattle.flow_model.specs.declared.trees.JoinTree.TheVariants as join
use Rattle.flow_model.specs.declared.trees.AttrTree.{AttrTree}
use Rattle.flow_model.specs.declared.trees.AttrTree.TheVariants as attr
use Rattle.flow_model.specs.declared.trees.AttrAt.{AttrAt}
use Rattle.flow_model.specs.declared.trees.ControlTree.{ControlTree}
use Rattle.flow_model.specs.declared.trees.DataTree.{DataTree}
use Rattle.flow_model.specs.declared.trees.ActivityTree.{ActivityTree}
use Rattle.flow_model.specs.declared.trees.ElementTree.{ElementTree}
use Rattle.flow_model.specs.declared.trees.ElementTree.TheVariants as element
use Rattle.fdl_parser.specs.Tokens.{Tokens}
use Rattle.fdl_parser.specs.Lines.{ControlLine, DataLine}
use Rattle.fdl_parser.specs.Activities.{AreStructures, InputOutput, IsClosing, EndName, ConnectorsTrue, BothWords, IsJoin, AllTrue, OneTrue, SomeTrue, IsCommonAttribute, WhenJoin, ExitWhen, AreCommonAttributes, NoCommon, MoreCommon, IsDoneBy, ByRole, ByPerson, ByStarter, ByPerformer, IsStart, Manually, Automatically, IsAttribute, CommonAttribute, StartAttribute, ExpiresAttribute, DoneByAttribute, AreAttributes, NoAttribute, MoreAttributes, IsProgramActivity, ProgramActivity, IsProcessActivity, ProcessActivity, IsBlock, BlockActivity, IsElement, BlockElement, ProcessElement, ProgramElement, ControlElement, DataElement, AreElements, NoElement, MoreElements}
use Rattle.fdl_parser.proofs.Same.{tier, lead, At, Same, word_same, lead_token, tier_token, apart, name_same, number_same, Chain, Done, snoc, HasOne, chain_calm, chain_same}
use Rattle.fdl_parser.proofs.SameConditions.{condition_same}
use Rattle.fdl_parser.proofs.SameLines.{control_same, data_same}

pub record SameTwo (x y u v : NameAt) (a b : Tokens) : Type 0 where
  pub input : x ≡ y
  pub output : u ≡ v
  pub rest : At a b

pub structures_same : {x y u v : NameAt} {a a' b b' : Tokens} → AreStructures x u a b → AreStructures y v a' b' → At a a' → SameTwo x y u v b b'
structures_same (InputOutput h1 h2 h3 h4 h5) (InputOutput j1 j2 j3 j4 j5) at =
    let s1 = word_same h1 j1 at in
    let s2 = name_same h2 j2 s1.rest in
    let s3 = word_same h3 j3 s2.rest in
    let s4 = name_same h4 j4 s3.rest in
    let s5 = word_same h5 j5 s4.rest in
    record { input = s2.tree; output = s4.tree; rest = s5.rest }

pub closing_same : {x y : NameAt} {a a' b b' : Tokens} → IsClosing x a b → IsClosing y a' b' → At a a' → Same x y b b'
closing_same (EndName h1 h2) (EndName j1 j2) at = let s = word_same h1 j1 at in name_same h2 j2 s.rest

-- END goes on with nothing
pub closing_calm : {x : NameAt} {a b : Tokens} → IsClosing x a b → tier a ≡ 0
closing_calm (EndName h1 h2) = tier_token h1

connectors_same : {a a' b b' : Tokens} → ConnectorsTrue a b → ConnectorsTrue a' b' → At a a' → At b b'
connectors_same (BothWords h1 h2) (BothWords j1 j2) at = let s1 = word_same h1 j1 at in let s2 = word_same h2 j2 s1.rest in s2.rest

abbrev join_kind : {x : JoinTree} {a b : Tokens} → IsJoin x a b → ℕ
join_kind (AllTrue h j) = 115
join_kind (OneTrue h j k) = 119
join_kind (SomeTrue h j k) = 166

join_lead : {x : JoinTree} {a b : Tokens} → (h : IsJoin x a b) → lead a ≡ join_kind h
join_lead (AllTrue h j) = lead_token h
join_lead (OneTrue h j k) = lead_token h
join_lead (SomeTrue h j k) = lead_token h

join_same : {x y : JoinTree} {a a' b b' : Tokens} → IsJoin x a b → IsJoin y a' b' → At a a' → Same x y b b'
join_same (AllTrue h1 h2) (AllTrue j1 j2) at = let s1 = word_same h1 j1 at in record { tree = refl; rest = connectors_same h2 j2 s1.rest }
join_same (OneTrue h1 h2 h3) (OneTrue j1 j2 j3) at =
    let s1 = word_same h1 j1 at in
    let s2 = word_same h2 j2 s1.rest in
    let s3 = word_same h3 j3 s2.rest in
    record { tree = refl; rest = s3.rest }
join_same (SomeTrue h1 h2 h3) (SomeTrue j1 j2 j3) at =
    let s1 = word_same h1 j1 at in
    let s2 = number_same h2 j2 s1.rest in
    record { tree = ap (λ (n : NumberAt). join.AtLeast n) s2.tree; rest = connectors_same h3 j3 s2.rest }
join_same h j at = apart lead (join_lead h) (join_lead j) at refl

common_same : {x y : AttrAt} {a a' b b' : Tokens} → IsCommonAttribute x a b → IsCommonAttribute y a' b' → At a a' → Same x y b b'
common_same (WhenJoin h1 h2) (WhenJoin j1 j2) at =
    let s1 = word_same h1 j1 at in
    let s2 = join_same h2 j2 s1.rest in
    record { tree = rw (s1.tree, s2.tree) refl; rest = s2.rest }
common_same (ExitWhen h1 h2 h3) (ExitWhen j1 j2 j3) at =
    let s1 = word_same h1 j1 at in
    let s2 = word_same h2 j2 s1.rest in
    let s3 = condition_same h3 j3 s2.rest in
    record { tree = rw (s1.tree, s3.tree) refl; rest = s3.rest }
common_same (WhenJoin h1 h2) (ExitWhen j1 j2 j3) at = apart lead (lead_token h1) (lead_token j1) at refl
common_same (ExitWhen h1 h2 h3) (WhenJoin j1 j2) at = apart lead (lead_token h1) (lead_token j1) at refl

common_begins : {x : AttrAt} {a b : Tokens} → IsCommonAttribute x a b → (4 ≤ tier a) × (tier a < 5)
common_begins (WhenJoin h1 h2) = let e = tier_token h1 in (omega (arith, e), omega (arith, e))
common_begins (ExitWhen h1 h2 h3) = let e = tier_token h1 in (omega (arith, e), omega (arith, e))

common_chain : {xs : List AttrAt} {a b : Tokens} → AreCommonAttributes xs a b → Chain AttrAt IsCommonAttribute xs a b
common_chain NoCommon = Done
common_chain (MoreCommon h j) = snoc (common_chain h) j

commons_same : {xs ys : List AttrAt} {a a' b b' : Tokens} → AreCommonAttributes xs a b → AreCommonAttributes ys a' b' → tier b < 4 → tier b' < 4 → At a a' → Same xs ys b b'
commons_same h j c c' at = chain_same 4 5 (omega arith) (λ x y a b d e h j c k at. common_same h j at) (λ x a b h. common_begins h) (common_chain h) (common_chain j) c c' at

abbrev done_kind : {x : AttrTree} {a b : Tokens} → IsDoneBy x a b → ℕ
done_kind (ByRole h j) = 122
done_kind (ByPerson h j) = 102
done_kind (ByStarter h) = 123
done_kind (ByPerformer h j k) = 124

done_lead : {x : AttrTree} {a b : Tokens} → (h : IsDoneBy x a b) → lead a ≡ done_kind h
done_lead (ByRole h j) = lead_token h
done_lead (ByPerson h j) = lead_token h
done_lead (ByStarter h) = lead_token h
done_lead (ByPerformer h j k) = lead_token h

done_same : {x y : AttrTree} {a a' b b' : Tokens} → IsDoneBy x a b → IsDoneBy y a' b' → At a a' → Same x y b b'
done_same (ByRole h1 h2) (ByRole j1 j2) at =
    let s1 = word_same h1 j1 at in
    let s2 = name_same h2 j2 s1.rest in
    record { tree = ap (λ (n : NameAt). attr.Role n) s2.tree; rest = s2.rest }
done_same (ByPerson h1 h2) (ByPerson j1 j2) at =
    let s1 = word_same h1 j1 at in
    let s2 = name_same h2 j2 s1.rest in
    record { tree = ap (λ (n : NameAt). attr.Person n) s2.tree; rest = s2.rest }
done_same (ByStarter h) (ByStarter j) at = let s = word_same h j at in record { tree = refl; rest = s.rest }
done_same (ByPerformer h1 h2 h3) (ByPerformer j1 j2 j3) at =
    let s1 = word_same h1 j1 at in
    let s2 = word_same h2 j2 s1.rest in
    let s3 = name_same h3 j3 s2.rest in
    record { tree = ap (λ (n : NameAt). attr.Performer n) s3.tree; rest = s3.rest }
done_same h j at = apart lead (done_lead h) (done_lead j) at refl

start_same : {x y : AttrTree} {a a' b b' : Tokens} → IsStart x a b → IsStart y a' b' → At a a' → Same x y b b'
start_same (Manually h) (Manually j) at = let s = word_same h j at in record { tree = refl; rest = s.rest }
start_same (Automatically h) (Automatically j) at = let s = word_same h j at in record { tree = refl; rest = s.rest }
start_same (Manually h) (Automatically j) at = apart lead (lead_token h) (lead_token j) at refl
start_same (Automatically h) (Manually j) at = apart lead (lead_token h) (lead_token j) at refl

-- WHEN and EXIT are one class, each other word its own
abbrev attribute_class : ℕ → ℕ
attribute_class n = if n == 114 || n == 120 then 1 else n

abbrev attribute_kind : {x : AttrAt} {a b : Tokens} → IsAttribute x a b → ℕ
attribute_kind (CommonAttribute h) = 1
attribute_kind (StartAttribute h j) = 111
attribute_kind (ExpiresAttribute h j) = 126
attribute_kind (DoneByAttribute h j) = 121

attribute_lead : {x : AttrAt} {a b : Tokens} → (h : IsAttribute x a b) → attribute_class (lead a) ≡ attribute_kind h
attribute_lead (CommonAttribute (WhenJoin h j)) = ap attribute_class (lead_token h)
attribute_lead (CommonAttribute (ExitWhen h j k)) = ap attribute_class (lead_token h)
attribute_lead (StartAttribute h j) = ap attribute_class (lead_token h)
attribute_lead (ExpiresAttribute h j) = ap attribute_class (lead_token h)
attribute_lead (DoneByAttribute h j) = ap attribute_class (lead_token h)

attribute_same : {x y : AttrAt} {a a' b b' : Tokens} → IsAttribute x a b → IsAttribute y a' b' → At a a' → Same x y b b'
attribute_same (CommonAttribute h) (CommonAttribute j) at = common_same h j at
attribute_same (StartAttribute h1 h2) (StartAttribute j1 j2) at =
    let s1 = word_same h1 j1 at in
    let s2 = start_same h2 j2 s1.rest in
    record { tree = rw (s1.tree, s2.tree) refl; rest = s2.rest }
attribute_same (ExpiresAttribute h1 h2) (ExpiresAttribute j1 j2) at =
    let s1 = word_same h1 j1 at in
    let s2 = number_same h2 j2 s1.rest in
    record { tree = rw (s1.tree, s2.tree) refl; rest = s2.rest }
attribute_same (DoneByAttribute h1 h2) (DoneByAttribute j1 j2) at =
    let s1 = word_same h1 j1 at in
    let s2 = done_same h2 j2 s1.rest in
    record { tree = rw (s1.tree, s2.tree) refl; rest = s2.rest }
attribute_same h j at = apart (λ t. attribute_class (lead t)) (attribute_lead h) (attribute_lead j) at refl

attribute_begins : {x : AttrAt} {a b : Tokens} → IsAttribute x a b → (4 ≤ tier a) × (tier a < 5)
attribute_begins (CommonAttribute h) = common_begins h
attribute_begins (StartAttribute h j) = let e = tier_token h in (omega (arith, e), omega (arith, e))
attribute_begins (ExpiresAttribute h j) = let e = tier_token h in (omega (arith, e), omega (arith, e))
attribute_begins (DoneByAttribute h j) = let e = tier_token h in (omega (arith, e), omega (arith, e))

attribute_chain : {xs : List AttrAt} {a b : Tokens} → AreAttributes xs a b → Chain AttrAt IsAttribute xs a b
attribute_chain NoAttribute = Done
attribute_chain (MoreAttributes h j) = snoc (attribute_chain h) j

attributes_same : {xs ys : List AttrAt} {a a' b b' : Tokens} → AreAttributes xs a b → AreAttributes ys a' b' → tier b < 4 → tier b' < 4 → At a a' → Same xs ys b b'
attributes_same h j c c' at = chain_same 4 5 (omega arith) (λ x y a b d e h j c k at. attribute_same h j at) (λ x a b h. attribute_begins h) (attribute_chain h) (attribute_chain j) c c' at

program_same : {x y : ActivityTree} {a a' b b' : Tokens} → IsProgramActivity x a b → IsProgramActivity y a' b' → At a a' → Same x y b b'
program_same (ProgramActivity h1 h2 h3 h4 h5) (ProgramActivity j1 j2 j3 j4 j5) at =
    let c = closing_calm h5 in
    let d = closing_calm j5 in
    let s1 = word_same h1 j1 at in
    let s2 = name_same h2 j2 s1.rest in
    let s3 = structures_same h3 j3 s2.rest in
    let s4 = attributes_same h4 j4 (omega (arith, c)) (omega (arith, d)) s3.rest in
    let s5 = closing_same h5 j5 s4.rest in
    record { tree = rw (s1.tree, s2.tree, s3.input, s3.output, s4.tree, s5.tree) refl; rest = s5.rest }

process_same : {x y : ActivityTree} {a a' b b' : Tokens} → IsProcessActivity x a b → IsProcessActivity y a' b' → At a a' → Same x y b b'
process_same (ProcessActivity h1 h2 h3 h4 h5 h6 h7) (ProcessActivity j1 j2 j3 j4 j5 j6 j7) at =
    let c = closing_calm h7 in
    let d = closing_calm j7 in
    let s1 = word_same h1 j1 at in
    let s2 = name_same h2 j2 s1.rest in
    let s3 = structures_same h3 j3 s2.rest in
    let s4 = word_same h4 j4 s3.rest in
    let s5 = name_same h5 j5 s4.rest in
    let s6 = commons_same h6 j6 (omega (arith, c)) (omega (arith, d)) s5.rest in
    let s7 = closing_same h7 j7 s6.rest in
    record { tree = rw (s1.tree, s2.tree, s3.input, s3.output, s5.tree, s6.tree, s7.tree) refl; rest = s7.rest }

element_begins : {n : ℕ} {x : ElementTree} {a b : Tokens} → IsElement n x a b → (3 ≤ tier a) × (tier a < 4)
element_begins (BlockElement (BlockActivity lt h1 h2 h3 h4 h5 h6)) = let e = tier_token h1 in (omega (arith, e), omega (arith, e))
element_begins (ProcessElement (ProcessActivity h1 h2 h3 h4 h5 h6 h7)) = let e = tier_token h1 in (omega (arith, e), omega (arith, e))
element_begins (ProgramElement (ProgramActivity h1 h2 h3 h4 h5)) = let e = tier_token h1 in (omega (arith, e), omega (arith, e))
element_begins (ControlElement (ControlLine h1 h2 h3 h4 h5 h6)) = let e = tier_token h1 in (omega (arith, e), omega (arith, e))
element_begins (DataElement (DataLine h1 h2 h3)) = let e = tier_token h1 in (omega (arith, e), omega (arith, e))

element_chain : {n : ℕ} {xs : List ElementTree} {a b : Tokens} → AreElements n xs a b → Chain ElementTree (IsElement n) xs a b
element_chain NoElement = Done
element_chain (MoreElements h j) = snoc (element_chain h) j

pub elements_calm : {n : ℕ} {xs : List ElementTree} {a b : Tokens} → AreElements n xs a b → tier b < 3 → tier a < 4
elements_calm h c = chain_calm 3 4 (omega arith) (λ x a b h. element_begins h) (element_chain h) c

abbrev element_kind : {n : ℕ} {x : ElementTree} {a b : Tokens} → IsElement n x a b → ℕ
element_kind (BlockElement h) = 107
element_kind (ProcessElement h) = 106
element_kind (ProgramElement h) = 105
element_kind (ControlElement h) = 127
element_kind (DataElement h) = 131

element_lead : {n : ℕ} {x : ElementTree} {a b : Tokens} → (h : IsElement n x a b) → lead a ≡ element_kind h
element_lead (BlockElement (BlockActivity lt h1 h2 h3 h4 h5 h6)) = lead_token h1
element_lead (ProcessElement (ProcessActivity h1 h2 h3 h4 h5 h6 h7)) = lead_token h1
element_lead (ProgramElement (ProgramActivity h1 h2 h3 h4 h5)) = lead_token h1
element_lead (ControlElement (ControlLine h1 h2 h3 h4 h5 h6)) = lead_token h1
element_lead (DataElement (DataLine h1 h2 h3)) = lead_token h1

block_same : {n : ℕ} {x y : ActivityTree} {a a' b b' : Tokens} → ((m : ℕ) → n ≡ suc m → HasOne (List ElementTree) (AreElements m) 3) → IsBlock n x a b → IsBlock n y a' b' → At a a' → Same x y b b'
block_same {n} rec (BlockActivity lt h1 h2 h3 h4 h5 h6) (BlockActivity lt' j1 j2 j3 j4 j5 j6) at =
    let e : n ≡ suc (n - 1) = omega (arith, lt) in
    let c = closing_calm h6 in
    let d = closing_calm j6 in
    let s1 = word_same h1 j1 at in
    let s2 = name_same h2 j2 s1.rest in
    let s3 = structures_same h3 j3 s2.rest in
    let s4 = commons_same h4 j4 (elements_calm h5 (omega (arith, c))) (elements_calm j5 (omega (arith, d))) s3.rest in
    let s5 = rec (n - 1) e _ _ _ _ _ _ h5 j5 (omega (arith, c)) (omega (arith, d)) s4.rest in
    let s6 = closing_same h6 j6 s5.rest in
    record { tree = rw (s1.tree, s2.tree, s3.input, s3.output, s4.tree, s5.tree, s6.tree) refl; rest = s6.rest }

element_same : {n : ℕ} {x y : ElementTree} {a a' b b' : Tokens} → ((m : ℕ) → n ≡ suc m → HasOne (List ElementTree) (AreElements m) 3) → IsElement n x a b → IsElement n y a' b' → tier b < 4 → tier b' < 4 → At a a' → Same x y b b'
element_same rec (BlockElement h) (BlockElement j) c c' at = let s = block_same rec h j at in record { tree = ap (λ (k : ActivityTree). element.Activity k) s.tree; rest = s.rest }
element_same rec (ProcessElement h) (ProcessElement j) c c' at = let s = process_same h j at in record { tree = ap (λ (k : ActivityTree). element.Activity k) s.tree; rest = s.rest }
element_same rec (ProgramElement h) (ProgramElement j) c c' at = let s = program_same h j at in record { tree = ap (λ (k : ActivityTree). element.Activity k) s.tree; rest = s.rest }
element_same rec (ControlElement h) (ControlElement j) c c' at = let s = control_same h j c c' at in record { tree = ap (λ (k : ControlTree). element.Control k) s.tree; rest = s.rest }
element_same rec (DataElement h) (DataElement j) c c' at = let s = data_same h j (omega arith) (omega arith) at in record { tree = ap (λ (k : DataTree). element.Line k) s.tree; rest = s.rest }
element_same rec h j c c' at = apart lead (element_lead h) (element_lead j) at refl

elements_step : (n : ℕ) → ((m : ℕ) → n ≡ suc m → HasOne (List ElementTree) (AreElements m) 3) → HasOne (List ElementTree) (AreElements n) 3
elements_step n rec xs ys a a' b b' h j c c' at =
    chain_same 3 4 (omega arith) (λ x y a b d e h j c k at. element_same rec h j c k at) (λ x a b h. element_begins h) (element_chain h) (element_chain j) c c' at

pub elements_same : (n : ℕ) → HasOne (List ElementTree) (AreElements n) 3
elements_same zero = elements_step zero (λ m e. absurd (omega (arith, e)))
elements_same (suc n) = elements_step (suc n) (λ m e. let k : n ≡ m = omega (arith, e) in subst (λ (i : ℕ). HasOne (List ElementTree) (AreElements i) 3) k (elements_same n))
