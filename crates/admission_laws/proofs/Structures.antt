-- The leaves of a structure have names apart where no structure declares a member twice.
use Rattle.std.proofs.Common.{◌≡◌, ℕ, zero, suc, ◌+◌, ◌≤◌, List, [], ◌∷◌, ◌++◌, map, length, Option, Some, None}
use Rattle.std.proofs.Common.{option_map, option_and_then, refl, sym, subst, ◌∙◌, arith}
use Rattle.std.specs.List.{All, flat_map, range_with_len}
use Rattle.std.specs.Prelude.{slice_get}
use Rattle.std.proofs.lemmas.List.Elements.{All-nil, All-cons, All-head, All-tail, All-append, All-map, All-weaker}
use Rattle.std.proofs.lemmas.Option.{none-some}
use Rattle.flow_model.specs.declared.graphs.Leaf.{Leaf}
use Rattle.flow_model.specs.declared.graphs.Step.{Step}
use Rattle.flow_model.specs.declared.graphs.Step.TheVariants.{Member, Rc, Place}
use Rattle.flow_model.specs.declared.trees.KindTree.{KindTree}
use Rattle.flow_model.specs.declared.trees.KindTree.TheVariants as kind
use Rattle.flow_model.specs.declared.trees.Member.{Member as MemberTree}
use Rattle.flow_model.specs.declared.trees.NumberAt.{NumberAt}
use Rattle.flow_model.specs.declared.trees.StructDef.{StructDef}
use Rattle.leaf_rules.specs.Leaves.{with_code}
use Rattle.leaf_rules.specs.ReturnCodes.{return_code}
use Rattle.leaf_rules.specs.StructureLeaves.{place_step, element_steps, below, kind_leaves, element_leaves, count_said}
use Rattle.leaf_rules.specs.StructureLeaves.{member_leaves, members_leaves, members_said, members_named, leaves_to}
use Rattle.leaf_rules.specs.StructureLeaves.{leaves_of, leaves_in}
use Rattle.leaf_rules.specs.Structures.{structure_in}
use Rattle.admission_laws.specs.ApartLeaves.{IsNamedApart, AreLeavesApart}
use Rattle.admission_laws.proofs.Written.{at_place}

-- ---- lists

-- all have what each has
all_of : {X : Type 0} (P : X → Type 0) → ((x : X) → P x) → (xs : List X) → All P xs
all_of P each [] = All-nil P
all_of P each (x ∷ xs) = All-cons P x xs (each x) (all_of P each xs)

all_in : {X : Type 0} (P : Leaf → Type 0) (f : X → List Leaf) → ((x : X) → All P (f x)) → (xs : List X)
    → All P (flat_map f xs)
all_in P f each [] = All-nil P
all_in P f each (x ∷ xs) = All-append P (f x) (flat_map f xs) (each x) (all_in P f each xs)

cancelled : (steps a b : List Step) → steps ++ a ≡ steps ++ b → a ≡ b
cancelled [] a b same = same
cancelled (s ∷ steps) a b same = cancelled steps a b (let rest : steps ++ a ≡ steps ++ b = cc in rest)

-- ---- two lists of leaves

-- leaves of two lists have names apart where those of each list have, and each one of the first from all of the second
both_apart : (xs ys : List Leaf) → AreLeavesApart xs → AreLeavesApart ys → All (λ x. All (IsNamedApart x) ys) xs
    → AreLeavesApart (xs ++ ys)
both_apart [] ys first second across = second
both_apart (x ∷ xs) ys first second across = (
  All-append (IsNamedApart x) xs ys first.0 (All-head (λ z. All (IsNamedApart z) ys) x xs across),
  both_apart xs ys first.1 second (All-tail (λ z. All (IsNamedApart z) ys) x xs across),
)

-- so they have where leaves with one property have names apart from those with another
across : (P Q : Leaf → Type 0) → ((x y : Leaf) → P x → Q y → IsNamedApart x y) → (xs ys : List Leaf) → All P xs
    → All Q ys → All (λ x. All (IsNamedApart x) ys) xs
across P Q apart xs ys first second =
    All-weaker P (λ x. All (IsNamedApart x) ys)
    (λ x one. All-weaker Q (IsNamedApart x) (λ y other. apart x y one other) ys second) xs first

-- leaves have names apart further in as well
below_apart : (steps : List Step) (leaves : List Leaf) → AreLeavesApart leaves
    → AreLeavesApart (map (below steps) leaves)
below_apart steps [] apart = tt
below_apart steps (x ∷ xs) apart = (
  All-map (IsNamedApart (below steps x)) (below steps) xs
      (All-weaker (IsNamedApart x) (λ y. IsNamedApart (below steps x) (below steps y))
      (λ y other. λ same. other (cancelled steps y.name.steps x.name.steps same)) xs apart.0),
  below_apart steps xs apart.1,
)

-- ---- how names begin

-- a name begins with these steps
abbrev BeginsWith : List Step → Leaf → Type 0
BeginsWith steps leaf = (rest : List Step) × (leaf.name.steps ≡ steps ++ rest)

-- with a member of this name, and a place from this one on
abbrev IsPlacedFrom : List ℕ → ℕ → Leaf → Type 0
IsPlacedFrom name least leaf = (i : ℕ) × (least ≤ i) × BeginsWith (Member name ∷ Place i ∷ []) leaf

-- with a member of another name
abbrev IsOfOther : List ℕ → Leaf → Type 0
IsOfOther name leaf = (other : List ℕ) × (other ≡ name → ⊥) × BeginsWith (Member other ∷ []) leaf

-- with a member
abbrev IsOfMember : Leaf → Type 0
IsOfMember leaf = (name : List ℕ) × BeginsWith (Member name ∷ []) leaf

placed_apart : (name : List ℕ) (k : ℕ) (x y : Leaf) → BeginsWith (Member name ∷ Place k ∷ []) x
    → IsPlacedFrom name (k + 1) y → IsNamedApart x y
placed_apart name k x y here later same =
    let names : Member name ∷ (Place later.0 ∷ later.2.0) ≡ Member name ∷ (Place k ∷ here.0) =
    sym later.2.1 ∙ same ∙ here.1 in
    let places : later.0 ≡ k = cc in
    let least = later.1 in
    omega (arith, places, least)

others_apart : (name : List ℕ) (x y : Leaf) → BeginsWith (Member name ∷ []) x → IsOfOther name y → IsNamedApart x y
others_apart name x y here other same =
    let names : Member other.0 ∷ other.2.0 ≡ Member name ∷ here.0 = sym other.2.1 ∙ same ∙ here.1 in
    let one : other.0 ≡ name = cc in
    other.1 one

code_apart : (x : Leaf) → IsOfMember x → IsNamedApart return_code x
code_apart x member same =
    let names : Member member.0 ∷ member.1.0 ≡ Rc ∷ [] = sym member.1.1 ∙ same in
    let never : ⊥ = cc in never

-- ---- the leaves of a member

-- the elements of an array have names apart
module _ (f : ℕ → List Leaf) (name : List ℕ) (each : (i : ℕ) → AreLeavesApart (f i))
    (begins : (i : ℕ) → All (BeginsWith (Member name ∷ Place i ∷ [])) (f i)) where
  placed_from : (k n : ℕ) → All (IsPlacedFrom name k) (flat_map f (range_with_len k n))
  placed_from k zero = All-nil (IsPlacedFrom name k)
  placed_from k (suc n) =
      All-append (IsPlacedFrom name k) (f k) (flat_map f (range_with_len (k + 1) n))
      (All-weaker (BeginsWith (Member name ∷ Place k ∷ [])) (IsPlacedFrom name k) (λ x here. (k, omega arith, here))
      (f k) (begins k))
      (All-weaker (IsPlacedFrom name (k + 1)) (IsPlacedFrom name k)
      (λ x later. (later.0, (let least = later.1 in omega (arith, least)), later.2))
      (flat_map f (range_with_len (k + 1) n)) (placed_from (k + 1) n))

  places_apart : (k n : ℕ) → AreLeavesApart (flat_map f (range_with_len k n))
  places_apart k zero = tt
  places_apart k (suc n) =
      both_apart (f k) (flat_map f (range_with_len (k + 1) n)) (each k) (places_apart (k + 1) n)
      (across (BeginsWith (Member name ∷ Place k ∷ [])) (IsPlacedFrom name (k + 1)) (placed_apart name k) (f k)
      (flat_map f (range_with_len (k + 1) n)) (begins k) (placed_from (k + 1) n))

module _ (inner : List ℕ → List Leaf) (inside : (name : List ℕ) → AreLeavesApart (inner name)) where
  kind_apart : (k : KindTree) → AreLeavesApart (kind_leaves inner k)
  kind_apart kind.Long = (All-nil _, tt)
  kind_apart kind.Str = (All-nil _, tt)
  kind_apart (kind.Struct name) = inside name.name

  element_apart : (m : MemberTree) (i : ℕ) → AreLeavesApart (element_leaves inner m i)
  element_apart m i = below_apart (element_steps m i) (kind_leaves inner m.kind) (kind_apart m.kind)

  element_begins : (m : MemberTree) (i : ℕ) → All (BeginsWith (element_steps m i)) (element_leaves inner m i)
  element_begins m i =
      All-map (BeginsWith (element_steps m i)) (below (element_steps m i)) (kind_leaves inner m.kind)
      (all_of (λ leaf. BeginsWith (element_steps m i) (below (element_steps m i) leaf))
      (λ leaf. (leaf.name.steps, refl)) (kind_leaves inner m.kind))

  by_count : (m : MemberTree) (count : Option NumberAt) → m.count ≡ count
      → AreLeavesApart (flat_map (element_leaves inner m) (range_with_len 0 (count_said count)))
  by_count m None is =
      both_apart (element_leaves inner m 0) [] (element_apart m 0) tt
      (all_of (λ x. All (IsNamedApart x) []) (λ x. All-nil (IsNamedApart x)) (element_leaves inner m 0))
  by_count m (Some number) is =
      places_apart (element_leaves inner m) m.name.name (element_apart m)
      (λ i. subst (λ c. All (BeginsWith (Member m.name.name ∷ place_step c i)) (element_leaves inner m i)) is
      (element_begins m i)) 0 number.size

  member_apart : (m : MemberTree) → AreLeavesApart (member_leaves inner m)
  member_apart m = by_count m m.count refl

  member_begins : (m : MemberTree) → All (BeginsWith (Member m.name.name ∷ [])) (member_leaves inner m)
  member_begins m =
      all_in (BeginsWith (Member m.name.name ∷ [])) (element_leaves inner m)
      (λ i. All-weaker (BeginsWith (element_steps m i)) (BeginsWith (Member m.name.name ∷ []))
      (λ x here. (place_step m.count i ++ here.0, here.1)) (element_leaves inner m i) (element_begins m i))
      (range_with_len 0 (count_said m.count))

  -- ---- the leaves of members

  of_members : (ms : List MemberTree) → All IsOfMember (members_leaves inner ms)
  of_members ms =
      all_in IsOfMember (member_leaves inner)
      (λ m. All-weaker (BeginsWith (Member m.name.name ∷ [])) IsOfMember (λ x here. (m.name.name, here))
      (member_leaves inner m) (member_begins m)) ms

-- a member has another name
abbrev pub IsOtherMember : List ℕ → MemberTree → Type 0
IsOtherMember name m = m.name.name ≡ name → ⊥

-- no two members have one name
abbrev pub DifferInName : List MemberTree → Type 0
DifferInName [] = Unit {0}
DifferInName (m ∷ ms) = All (IsOtherMember m.name.name) ms × DifferInName ms

module _ (inner : List ℕ → List Leaf) (inside : (name : List ℕ) → AreLeavesApart (inner name)) where
  of_others : (name : List ℕ) (ms : List MemberTree) → All (IsOtherMember name) ms
      → All (IsOfOther name) (members_leaves inner ms)
  of_others name [] others = All-nil (IsOfOther name)
  of_others name (m ∷ ms) others =
      All-append (IsOfOther name) (member_leaves inner m) (members_leaves inner ms)
      (All-weaker (BeginsWith (Member m.name.name ∷ [])) (IsOfOther name)
      (λ x here. (m.name.name, All-head (IsOtherMember name) m ms others, here)) (member_leaves inner m)
      (member_begins inner inside m)) (of_others name ms (All-tail (IsOtherMember name) m ms others))

  members_apart : (ms : List MemberTree) → DifferInName ms → AreLeavesApart (members_leaves inner ms)
  members_apart [] differ = tt
  members_apart (m ∷ ms) differ =
      both_apart (member_leaves inner m) (members_leaves inner ms) (member_apart inner inside m)
      (members_apart ms differ.1)
      (across (BeginsWith (Member m.name.name ∷ [])) (IsOfOther m.name.name) (others_apart m.name.name)
      (member_leaves inner m) (members_leaves inner ms) (member_begins inner inside m)
      (of_others m.name.name ms differ.0))

-- ---- the leaves of structures

-- no structure declares a member twice
abbrev pub DeclareOnce : List StructDef → Type 0
DeclareOnce structures = All (λ s. DifferInName s.members) structures

-- leaves have names apart, and from the return code
abbrev pub AreBesideCode : List Leaf → Type 0
AreBesideCode leaves = AreLeavesApart leaves × All (IsNamedApart return_code) leaves

module _ (structures : List StructDef) (once : DeclareOnce structures) where
  said_differ : (k : ℕ) (o : Option StructDef) → slice_get structures k ≡ o → DifferInName (members_said o)
  said_differ k None there = tt
  said_differ k (Some s) there = at_place (λ (x : StructDef). DifferInName x.members) structures k s once there

  named_differ : (o : Option ℕ) → DifferInName (members_said (option_and_then (λ k. slice_get structures k) o))
  named_differ None = tt
  named_differ (Some k) = said_differ k (slice_get structures k) refl

  to_apart : (depth : ℕ) (name : List ℕ) → AreLeavesApart (leaves_to structures depth name)
  unfolding leaves_to
  to_apart zero name = tt
  to_apart (suc depth) name =
      members_apart (leaves_to structures depth) (to_apart depth) (members_named structures name)
      (named_differ (structure_in structures name))

  structure_apart : (s : StructDef) → DifferInName s.members → AreBesideCode (leaves_of structures s)
  structure_apart s differ =
      let inner = leaves_to structures (length structures) in
      let inside = to_apart (length structures) in (
        members_apart inner inside s.members differ,
        All-weaker IsOfMember (IsNamedApart return_code) code_apart (members_leaves inner s.members)
            (of_members inner inside s.members),
      )

  by_structure : (k : ℕ) (o : Option StructDef) (leaves : List Leaf) → slice_get structures k ≡ o
      → option_map (leaves_of structures) o ≡ Some leaves → AreBesideCode leaves
  by_structure k None leaves there none = absurd (none-some leaves none)
  by_structure k (Some s) leaves there is =
      let same : leaves_of structures s ≡ leaves = cc in
      subst AreBesideCode same (structure_apart s (said_differ k (Some s) there))

  by_number : (o : Option ℕ) (leaves : List Leaf)
      → option_map (leaves_of structures) (option_and_then (λ k. slice_get structures k) o) ≡ Some leaves
      → AreBesideCode leaves
  by_number None leaves none = absurd (none-some leaves none)
  by_number (Some k) leaves is = by_structure k (slice_get structures k) leaves refl is

  -- the leaves of a structure of a text
  pub leaves_apart : (name : List ℕ) (leaves : List Leaf) → leaves_in structures name ≡ Some leaves
      → AreBesideCode leaves
  leaves_apart name leaves is = by_number (structure_in structures name) leaves is

-- with the return code before them
pub code_before : (o : Option (List Leaf)) (leaves : List Leaf)
    → ((found : List Leaf) → o ≡ Some found → AreBesideCode found) → with_code o ≡ Some leaves → AreLeavesApart leaves
code_before None leaves beside none = absurd (none-some leaves none)
code_before (Some found) leaves beside is =
    let both = beside found refl in
    let same : return_code ∷ found ≡ leaves = cc in
    subst AreLeavesApart same (both.1, both.0)
