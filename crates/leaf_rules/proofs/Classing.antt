-- Structures of one class have the same leaves.
use Rattle.std.proofs.Common.{◌≡◌, ◌⊎◌, inl, inr, ℕ, zero, suc, ◌+◌, ◌-◌, ◌<◌, ◌≤◌, List, [], ◌∷◌, ◌++◌, map, take, drop, length, get_or, is_some, true, Option, Some, None, Bor, refl, sym, ap, ap₂, subst, ◌∙◌, ⊎_elim, append-nil, append_assoc, arith}
use Rattle.std.specs.Prelude.{slice_get, slice_set, Result, Ok, Err, IfOk, IfSome, OnOk, OnErr}
use Rattle.std.specs.List.{flat_map, range_with_len}
use Rattle.std.specs.Option.{option_map, option_and_then}
use Rattle.std.proofs.lemmas.Grind.{flat_map-append}
use Rattle.std.proofs.lemmas.List.{length-append, map-append, take-append-drop, take_at}
use Rattle.text_graphs.proofs.Finding.{taken_more}
use Rattle.flow_model.specs.declared.graphs.Leaf.{Leaf}
use Rattle.flow_model.specs.declared.graphs.Step.TheVariants as step
use Rattle.flow_model.specs.declared.trees.KindTree.{KindTree}
use Rattle.flow_model.specs.declared.trees.KindTree.TheVariants as kind
use Rattle.flow_model.specs.declared.trees.Member.{Member}
use Rattle.flow_model.specs.declared.trees.NumberAt.{NumberAt}
use Rattle.flow_model.specs.declared.trees.StructDef.{StructDef}
use Rattle.leaf_rules.specs.Classes.{Numbering, class_leaves, form_leaves, kind_told, forms_leaves, IsClassMade, AreClassesMade, AreMadeBehind, IsClassOf, AreClassed, class_named, kind_form, member_form, size_said, AreLeavesKnown}
use Rattle.leaf_rules.specs.Structures.{structure_in}
use Rattle.leaf_rules.specs.StructureLeaves.{below, place_step, count_said, kind_leaves, member_leaves, members_leaves}
use Rattle.leaf_rules.specs.declared.leaf_classes.LeafClass.{LeafClass}
use Rattle.leaf_rules.specs.declared.leaf_classes.MemberForm.{MemberForm}
use Rattle.leaf_rules.specs.declared.leaf_classes.MemberKind.{MemberKind}
use Rattle.leaf_rules.specs.declared.leaf_classes.MemberKind.TheVariants as form
use Rattle.leaf_rules.specs.declared.rows.Run.{Run}

some_same : {X : Type 0} (a b : X) → Some a ≡ Some b → a ≡ b
some_same a b e = cc

-- ---- places in a list that gets longer

there_still : {X : Type 0} (xs ys : List X) (i : ℕ) (x : X) → slice_get xs i ≡ Some x → slice_get (xs ++ ys) i ≡ Some x
there_still [] ys i x is = cc
there_still (a ∷ xs) ys zero x is = is
there_still (a ∷ xs) ys (suc i) x is = there_still xs ys i x is

pub there_last : {X : Type 0} (xs : List X) (x : X) → slice_get (xs ++ x ∷ []) (length xs) ≡ Some x
there_last [] x = refl
there_last (a ∷ xs) x = there_last xs x

-- an element of two lists stands in the first, or in the second
either : {X : Type 0} (xs ys : List X) (i : ℕ) (x : X) → slice_get (xs ++ ys) i ≡ Some x → (slice_get xs i ≡ Some x) ⊎ ((j : ℕ) × (slice_get ys j ≡ Some x))
either [] ys i x is = inr (i, is)
either (a ∷ xs) ys zero x is = inl is
either (a ∷ xs) ys (suc i) x is = either xs ys i x is

-- with what stands before it
either_taken : {X : Type 0} (xs : List X) (y : X) (i : ℕ) (x : X) → slice_get (xs ++ y ∷ []) i ≡ Some x
    → ((slice_get xs i ≡ Some x) × (take i (xs ++ y ∷ []) ≡ take i xs)) ⊎ ((y ≡ x) × (take i (xs ++ y ∷ []) ≡ xs))
either_taken [] y zero x is = inr (some_same y x is, refl)
either_taken [] y (suc i) x is = cc
either_taken (a ∷ xs) y zero x is = inl (is, refl)
either_taken (a ∷ xs) y (suc i) x is = ⊎_elim (λ l. inl (l.0, ap (λ (zs : List _). a ∷ zs) l.1)) (λ r. inr (r.0, ap (λ (zs : List _). a ∷ zs) r.1)) (either_taken xs y i x is)

-- ---- results

-- a list that is as it was, or longer by one element
pub one_or_none : {X E : Type 0} (r : Result (Unit {0}) E) (old new : List X) (x : X) → OnOk r (new ≡ old ++ x ∷ []) → OnErr r (new ≡ old) → (P : List X → Type 0) → P old → P (old ++ x ∷ []) → P new
one_or_none (Ok u) old new x ok err P before after = subst P (sym ok) after
one_or_none (Err e) old new x ok err P before after = subst P (sym err) before

pub found_weaker : {X E : Type 0} (r : Result (Option X) E) (P Q : X → Type 0) → ((x : X) → P x → Q x) → IfOk r (λ o. IfSome o P) → IfOk r (λ o. IfSome o Q)
found_weaker (Ok None) P Q h p = p
found_weaker (Ok (Some x)) P Q h p = h x p
found_weaker (Err e) P Q h p = p

-- ---- classes that are known stay known

-- what is known by one numbering is so by another one
abbrev pub IsKeptBy : Numbering → Numbering → Type 0
IsKeptBy old new = (number : ℕ) (leaves : List Leaf) → old number ≡ Some leaves → new number ≡ Some leaves

class_kept : (o : Option LeafClass) (p : Option LeafClass) (leaves : List Leaf) → ((c : LeafClass) → o ≡ Some c → p ≡ Some c) → option_map (λ c. c.leaves.leaves) o ≡ Some leaves → option_map (λ c. c.leaves.leaves) p ≡ Some leaves
class_kept None p leaves h is = cc
class_kept (Some c) p leaves h is = ap (option_map (λ (c : LeafClass). c.leaves.leaves)) (h c refl) ∙ is

pub classes_kept : (classes more : List LeafClass) → IsKeptBy (class_leaves classes) (class_leaves (classes ++ more))
classes_kept classes more number leaves is = class_kept (slice_get classes number) (slice_get (classes ++ more) number) leaves (λ c there. there_still classes more number c there) is

kind_kept : (old new : Numbering) → IsKeptBy old new → (k : MemberKind) (leaves : List Leaf) → kind_told old k ≡ Some leaves → kind_told new k ≡ Some leaves
kind_kept old new kept form.Long leaves is = is
kind_kept old new kept form.Str leaves is = is
kind_kept old new kept (form.Class c) leaves is = kept c leaves is

pub forms_kept : (old new : Numbering) → IsKeptBy old new → (ms : List MemberForm) (leaves : List Leaf) → forms_leaves old ms ≡ Some leaves → forms_leaves new ms ≡ Some leaves
forms_kept old new kept [] leaves is = is
forms_kept old new kept (m ∷ later) leaves is = by (kind_told old m.kind) (forms_leaves old later) refl refl (λ ls rest. forms_kept old new kept later ls rest) is
  where
    by : (k : Option (List Leaf)) (l : Option (List Leaf)) → kind_told old m.kind ≡ k → forms_leaves old later ≡ l → ((ls : List Leaf) → forms_leaves old later ≡ Some ls → forms_leaves new later ≡ Some ls)
        → option_and_then (λ inner. option_map (λ rest. form_leaves m inner ++ rest) l) k ≡ Some leaves → forms_leaves new (m ∷ later) ≡ Some leaves
    by None l kind rest behind is = cc
    by (Some inner) None kind rest behind is = cc
    by (Some inner) (Some ls) kind rest behind is =
        ap₂ (λ (k l : Option (List Leaf)). option_and_then (λ inner. option_map (λ rest. form_leaves m inner ++ rest) l) k) (kind_kept old new kept m.kind inner kind) (behind ls rest) ∙ is

pub made_kept : (old new : Numbering) → IsKeptBy old new → (c : LeafClass) → IsClassMade old c → IsClassMade new c
made_kept old new kept c made = forms_kept old new kept c.members c.leaves.leaves made

-- ---- classes of those before them

pub made_more : (classes : List LeafClass) (c : LeafClass) → AreClassesMade classes → IsClassMade (class_leaves classes) c → AreClassesMade (classes ++ c ∷ [])
made_more classes c made here number x is = ⊎_elim
    (λ l. made_kept (class_leaves classes) (class_leaves (classes ++ c ∷ [])) (classes_kept classes (c ∷ [])) x (made number x l.0))
    (λ r. made_kept (class_leaves classes) (class_leaves (classes ++ c ∷ [])) (classes_kept classes (c ∷ [])) x (subst (IsClassMade (class_leaves classes)) r.0 here))
    (either_taken classes c number x is)

pub behind_more : (before added : List LeafClass) (c : LeafClass) → AreMadeBehind before added → IsClassMade (class_leaves (before ++ added)) c → AreMadeBehind before (added ++ c ∷ [])
behind_more before added c made here i x is = ⊎_elim
    (λ l. subst (λ (zs : List LeafClass). IsClassMade (class_leaves (before ++ zs)) x) (sym l.1) (made i x l.0))
    (λ r. subst (λ (zs : List LeafClass). IsClassMade (class_leaves (before ++ zs)) x) (sym r.1) (subst (IsClassMade (class_leaves (before ++ added))) r.0 here))
    (either_taken added c i x is)

-- those of earlier texts, and those that are added, together
pub made_all : (before added : List LeafClass) → AreClassesMade before → AreMadeBehind before added → AreClassesMade (before ++ added)
made_all before added made behind number x is = ⊎_elim
    (λ here. made_kept (class_leaves before) (class_leaves (before ++ added)) (classes_kept before added) x (made number x here))
    (λ there. later there.0 there.1)
    (either before added number x is)
  where
    later : (j : ℕ) → slice_get added j ≡ Some x → IsClassMade (class_leaves (before ++ added)) x
    later j there = subst (λ (zs : List LeafClass). IsClassMade (class_leaves zs) x) (append_assoc before (take j added) (drop j added) ∙ ap (λ (zs : List LeafClass). before ++ zs) (take-append-drop j added))
        (made_kept (class_leaves (before ++ take j added)) (class_leaves ((before ++ take j added) ++ drop j added)) (classes_kept (before ++ take j added) (drop j added)) x (behind j x there))

-- the class that is added last
pub last_leaves : (before added new : List LeafClass) (c : LeafClass) (number : ℕ) → number ≡ length before + length added → new ≡ added ++ c ∷ [] → class_leaves (before ++ new) number ≡ Some c.leaves.leaves
last_leaves before added new c number at now =
    ap₂ (λ (zs : List LeafClass) (n : ℕ). class_leaves (before ++ zs) n) now (at ∙ sym (length-append before added))
    ∙ ap (λ (zs : List LeafClass). class_leaves zs (length (before ++ added))) (sym (append_assoc before added (c ∷ [])))
    ∙ ap (option_map (λ (x : LeafClass). x.leaves.leaves)) (there_last (before ++ added) c)

-- a class of such members has the leaves that they make
pub found_leaves : (classes : List LeafClass) → AreClassesMade classes → (number : ℕ) (c : LeafClass) (members : List MemberForm) (leaves : List Leaf) → slice_get classes number ≡ Some c → c.members ≡ members → forms_leaves (class_leaves classes) members ≡ Some leaves
    → class_leaves classes number ≡ Some leaves
found_leaves classes made number c members leaves is same made_of =
    ap (option_map (λ (x : LeafClass). x.leaves.leaves)) is ∙ sym (made number c is) ∙ ap (forms_leaves (class_leaves classes)) same ∙ made_of

-- the next of those that are added
there_next : {X : Type 0} (xs ys : List X) (x : X) → slice_get (xs ++ x ∷ ys) (length xs) ≡ Some x
there_next [] ys x = refl
there_next (a ∷ xs) ys x = there_next xs ys x

pub next_made : (before now added yielded rest : List LeafClass) (c : LeafClass) → added ≡ yielded ++ c ∷ rest → now ≡ before ++ yielded → AreMadeBehind before added → IsClassMade (class_leaves now) c
next_made before now added yielded rest c is at made =
    subst (λ (zs : List LeafClass). IsClassMade (class_leaves zs) c) (ap (λ (zs : List LeafClass). before ++ zs) (ap (take (length yielded)) is ∙ take_at yielded (c ∷ rest) (length yielded) refl) ∙ sym at)
    (made (length yielded) c (ap (λ (zs : List LeafClass). slice_get zs (length yielded)) is ∙ there_next yielded rest c))

-- ---- members

pub members_push : (inner : List ℕ → List Leaf) (xs : List Member) (m : Member) → members_leaves inner (xs ++ m ∷ []) ≡ members_leaves inner xs ++ member_leaves inner m
members_push inner xs m = flat_map-append (member_leaves inner) xs (m ∷ []) ∙ ap (λ (ls : List Leaf). members_leaves inner xs ++ ls) (append-nil (member_leaves inner m))

-- one more member, by a list that leaves out those without leaves
pub leafy_more : (inner : List ℕ → List Leaf) (members : List Member) (i : ℕ) (m : Bor Member) → i < length members → m.now ≡ get_or members i m.now → (found new : List (Bor Member)) → new ≡ found ++ m ∷ []
    → members_leaves inner (map (λ x. x.now) found) ≡ members_leaves inner (take i members) → members_leaves inner (map (λ x. x.now) new) ≡ members_leaves inner (take (i + 1) members)
leafy_more inner members i m less is found new now so_far =
    ap (λ (ms : List (Bor Member)). members_leaves inner (map (λ x. x.now) ms)) now
    ∙ ap (members_leaves inner) (map-append (λ (x : Bor Member). x.now) found (m ∷ []))
    ∙ members_push inner (map (λ x. x.now) found) m.now
    ∙ ap (λ (ls : List Leaf). ls ++ member_leaves inner m.now) so_far
    ∙ sym (members_push inner (take i members) m.now)
    ∙ ap (members_leaves inner) (taken_more members i m.now less is)

pub bare_more : (inner : List ℕ → List Leaf) (members : List Member) (i : ℕ) (m : Member) → i < length members → m ≡ get_or members i m → (found : List (Bor Member)) → member_leaves inner m ≡ []
    → members_leaves inner (map (λ x. x.now) found) ≡ members_leaves inner (take i members) → members_leaves inner (map (λ x. x.now) found) ≡ members_leaves inner (take (i + 1) members)
bare_more inner members i m less is found bare so_far =
    so_far
    ∙ sym (append-nil (members_leaves inner (take i members)))
    ∙ ap (λ (ls : List Leaf). members_leaves inner (take i members) ++ ls) (sym bare)
    ∙ sym (members_push inner (take i members) m)
    ∙ ap (members_leaves inner) (taken_more members i m less is)

-- the leaves of a member are those that its form tells
spread : (name : List ℕ) (count : Option NumberAt) (k : MemberKind) (inner : List Leaf)
    → form_leaves (record { name = name; size = option_map (λ n. n.size) count; kind = k }) inner ≡ flat_map (λ i. map (below (step.Member name ∷ place_step count i)) inner) (range_with_len 0 (count_said count))
spread name None k inner = refl
spread name (Some n) k inner = refl

module _ (structures : List StructDef) (runs : List Run) (table : List Leaf) (inner : List ℕ → List Leaf) (leaves : Numbering) (known : AreLeavesKnown structures runs table inner leaves) (classes : List LeafClass) (found : List (Option ℕ)) (classed : AreClassed leaves classes found) where
  named_told : (name : List ℕ) (class : ℕ) (number : Option ℕ) → structure_in structures name ≡ number → option_and_then (λ c. c) (option_and_then (λ n. slice_get found n) number) ≡ Some class → class_leaves classes class ≡ Some (inner name)
  named_told name class None number is = cc
  named_told name class (Some n) number is = by (slice_get found n) refl is
    where
      by : (o : Option (Option ℕ)) → slice_get found n ≡ o → option_and_then (λ c. c) o ≡ Some class → class_leaves classes class ≡ Some (inner name)
      by None there is = cc
      by (Some None) there is = cc
      by (Some (Some c)) there is =
          (classed n class (there ∙ ap (λ (o : Option ℕ). Some o) is)).0 ∙ known.named name n number

  kind_is : (k : KindTree) (f : MemberKind) → kind_form structures found k ≡ Some f → kind_told (class_leaves classes) f ≡ Some (kind_leaves inner k)
  kind_is kind.Long f is = ap (kind_told (class_leaves classes)) (sym (some_same form.Long f is))
  kind_is kind.Str f is = ap (kind_told (class_leaves classes)) (sym (some_same form.Str f is))
  kind_is (kind.Struct name) f is = by (class_named structures found name.name) refl is
    where
      by : (o : Option ℕ) → class_named structures found name.name ≡ o → option_map (λ class. form.Class class) o ≡ Some f → kind_told (class_leaves classes) f ≡ Some (inner name.name)
      by None class is = cc
      by (Some c) class is = ap (kind_told (class_leaves classes)) (sym (some_same (form.Class c) f is)) ∙ named_told name.name c (structure_in structures name.name) refl class

  form_is : (m : Member) (f : MemberForm) → member_form structures found m ≡ Some f → (kind_told (class_leaves classes) f.kind ≡ Some (kind_leaves inner m.kind)) × (form_leaves f (kind_leaves inner m.kind) ≡ member_leaves inner m)
  form_is m f is = by (kind_form structures found m.kind) refl is
    where
      by : (o : Option MemberKind) → kind_form structures found m.kind ≡ o → option_map (λ k. record { name = m.name.name; size = size_said m; kind = k }) o ≡ Some f
          → (kind_told (class_leaves classes) f.kind ≡ Some (kind_leaves inner m.kind)) × (form_leaves f (kind_leaves inner m.kind) ≡ member_leaves inner m)
      by None kind is = cc
      by (Some k) kind is =
          let same : record { name = m.name.name; size = size_said m; kind = k } ≡ f = some_same _ f is in (
            subst (λ (x : MemberForm). kind_told (class_leaves classes) x.kind ≡ Some (kind_leaves inner m.kind)) same (kind_is m.kind k kind),
            subst (λ (x : MemberForm). form_leaves x (kind_leaves inner m.kind) ≡ member_leaves inner m) same (spread m.name.name m.count k (kind_leaves inner m.kind)),
          )

  -- so are those of members
  pub forms_tell : (members : List Member) (forms : List MemberForm) → map (λ f. Some f) forms ≡ map (member_form structures found) members → forms_leaves (class_leaves classes) forms ≡ Some (members_leaves inner members)
  forms_tell [] [] same = refl
  forms_tell [] (f ∷ forms) same = cc
  forms_tell (m ∷ members) [] same = cc
  forms_tell (m ∷ members) (f ∷ forms) same =
      let first : member_form structures found m ≡ Some f = cc in
      let later : map (λ (f : MemberForm). Some f) forms ≡ map (member_form structures found) members = cc in
      let told = form_is m f first in
      ap₂ (λ (k l : Option (List Leaf)). option_and_then (λ inner. option_map (λ rest. form_leaves f inner ++ rest) l) k) told.0 (forms_tell members forms later)
      ∙ ap (λ (ls : List Leaf). Some (ls ++ members_leaves inner members)) told.1

-- ---- what is found of structures

of_kept : (old new : Numbering) (number : ℕ) (leaves : Option (List Leaf)) → IsKeptBy old new → (old number ≡ leaves) × (is_some leaves ≡ true) → (new number ≡ leaves) × (is_some leaves ≡ true)
of_kept old new number None kept is = cc
of_kept old new number (Some ls) kept is = (kept number ls is.0, is.1)

pub classed_kept : (leaves : Numbering) (old new : List LeafClass) (found : List (Option ℕ)) → IsKeptBy (class_leaves old) (class_leaves new) → AreClassed leaves old found → AreClassed leaves new found
classed_kept leaves old new found kept classed number class is = of_kept (class_leaves old) (class_leaves new) class (leaves number) kept (classed number class is)

set_either : {X : Type 0} (xs : List X) (i : ℕ) (y : X) (n : ℕ) (z : X) → slice_get (slice_set xs i y) n ≡ Some z → ((n ≡ i) × (y ≡ z)) ⊎ (slice_get xs n ≡ Some z)
set_either [] i y n z is = inr is
set_either (x ∷ xs) zero y zero z is = inl (refl, some_same y z is)
set_either (x ∷ xs) zero y (suc n) z is = inr is
set_either (x ∷ xs) (suc i) y zero z is = inr is
set_either (x ∷ xs) (suc i) y (suc n) z is = ⊎_elim (λ a. inl (ap suc a.0, a.1)) (λ b. inr b) (set_either xs i y n z is)

-- the class of one more structure is found
pub classed_set : (leaves : Numbering) (classes : List LeafClass) (found : List (Option ℕ)) (number class : ℕ) → IsClassOf classes class (leaves number) → AreClassed leaves classes found → AreClassed leaves classes (slice_set found number (Some class))
classed_set leaves classes found number class here before n c is = ⊎_elim
    (λ a. subst (λ (x : ℕ). IsClassOf classes c (leaves x)) (sym a.0) (subst (λ (x : ℕ). IsClassOf classes x (leaves number)) (some_same class c a.1) here))
    (λ b. before n c b)
    (set_either found number (Some class) n (Some c) is)

-- one more form
pub forms_more : (form_of : Member → Option MemberForm) (members : List (Bor Member)) (i : ℕ) (m : Bor Member) (forms new : List MemberForm) (f : MemberForm) → i < length members → m ≡ get_or members i m → form_of m.now ≡ Some f → new ≡ forms ++ f ∷ []
    → map (λ x. Some x) forms ≡ map form_of (map (λ x. x.now) (take i members)) → map (λ x. Some x) new ≡ map form_of (map (λ x. x.now) (take (i + 1) members))
forms_more form_of members i m forms new f less is here now so_far =
    ap (map (λ (x : MemberForm). Some x)) now
    ∙ map-append (λ (x : MemberForm). Some x) forms (f ∷ [])
    ∙ ap₂ (λ (xs ys : List (Option MemberForm)). xs ++ ys) so_far (ap (λ (o : Option MemberForm). o ∷ []) (sym here))
    ∙ sym (map-append form_of (map (λ x. x.now) (take i members)) (m.now ∷ []))
    ∙ ap (map form_of) (sym (map-append (λ (x : Bor Member). x.now) (take i members) (m ∷ [])))
    ∙ ap (λ (ms : List (Bor Member)). map form_of (map (λ x. x.now) ms)) (taken_more members i m less is)
