-- Where structures have an order, going deeper adds no leaves: so each has those of its members, by name and by number.
use Rattle.std.proofs.Common.{◌≡◌, ℕ, zero, suc, ◌<◌, ◌≤◌, List, [], ◌∷◌, ◌++◌, length, map, get_or, Option, Some, None, refl, sym, ap, ap₂, subst, ◌∙◌, arith}
use Rattle.std.specs.Prelude.{slice_get}
use Rattle.std.specs.List.{Contains, flat_map, range_with_len}
use Rattle.std.specs.Option.{option_map, option_and_then}
use Rattle.std.proofs.lemmas.Option.{slice_get_within, slice_get-get_or}
use Rattle.flow_model.specs.declared.graphs.Leaf.{Leaf}
use Rattle.flow_model.specs.declared.trees.KindTree.{KindTree}
use Rattle.flow_model.specs.declared.trees.KindTree.TheVariants as kind
use Rattle.flow_model.specs.declared.trees.Member.{Member}
use Rattle.flow_model.specs.declared.trees.StructDef.{StructDef}
use Rattle.text_graphs.proofs.Naming.{first_below}
use Rattle.leaf_rules.specs.Classes.{Numbering, leaves_at, AreLeavesKnown, HasKnownLeaves}
use Rattle.leaf_rules.specs.KindEdges.{kind_in}
use Rattle.leaf_rules.specs.Ordered.{IsOrdered}
use Rattle.leaf_rules.specs.ReturnCodes.{return_code}
use Rattle.leaf_rules.specs.Runs.{leaves_in_run, IsRun, IsMadeBy, IsKindMade, AreLeavesMade}
use Rattle.leaf_rules.specs.Structures.{structure_in}
use Rattle.leaf_rules.specs.StructureLeaves.{below, element_steps, element_count, kind_leaves, member_leaves, members_leaves, members_said, leaves_to, leaves_of}
use Rattle.leaf_rules.specs.declared.forms.StructureLeaves.{StructureLeaves}
use Rattle.leaf_rules.specs.declared.rows.Run.{Run}
use Rattle.leaf_rules.proofs.Counting.{leaves_to-zero, leaves_to-suc}
use Rattle.leaf_rules.proofs.Edging.{has_kind_edge}
use Rattle.leaf_rules.proofs.Tabling.{numbered_leaves}

there_is : {X : Type 0} (xs : List X) (i : ℕ) → i < length xs → (x : X) × (slice_get xs i ≡ Some x)
there_is [] i less = absurd (omega arith)
there_is (x ∷ xs) zero less = (x, refl)
there_is (x ∷ xs) (suc i) less = there_is xs i (omega arith)

-- ---- members whose kinds have the same leaves

member_by : (f g : List ℕ → List Leaf) (m : Member) → kind_leaves f m.kind ≡ kind_leaves g m.kind → member_leaves f m ≡ member_leaves g m
member_by f g m same = ap (λ (ls : List Leaf). flat_map (λ i. map (below (element_steps m i)) ls) (range_with_len 0 (element_count m))) same

members_by : (f g : List ℕ → List Leaf) (members : List Member) → ((m : Member) → Contains members m → kind_leaves f m.kind ≡ kind_leaves g m.kind) → members_leaves f members ≡ members_leaves g members
members_by f g [] same = refl
members_by f g (m ∷ later) same =
    ap₂ (λ (ls ms : List Leaf). ls ++ ms) (member_by f g m (same m (0, omega arith, refl))) (members_by f g later (λ x has. same x (suc has.0, (let l = has.1 in omega arith), has.2)))

-- ---- the leaves of a name

no_leaves : (structures : List StructDef) (depth : ℕ) (name : List ℕ) → structure_in structures name ≡ None → leaves_to structures depth name ≡ []
no_leaves structures zero name none = leaves_to-zero structures name
no_leaves structures (suc depth) name none =
    leaves_to-suc structures depth name ∙ ap (λ (o : Option ℕ). members_leaves (leaves_to structures depth) (members_said (option_and_then (λ n. slice_get structures n) o))) none

named_leaves : (structures : List StructDef) (depth number : ℕ) (name : List ℕ) (s : StructDef) → structure_in structures name ≡ Some number → slice_get structures number ≡ Some s → leaves_to structures (suc depth) name ≡ members_leaves (leaves_to structures depth) s.members
named_leaves structures depth number name s known is =
    leaves_to-suc structures depth name
    ∙ ap (λ (o : Option ℕ). members_leaves (leaves_to structures depth) (members_said (option_and_then (λ n. slice_get structures n) o))) known
    ∙ ap (λ (o : Option StructDef). members_leaves (leaves_to structures depth) (members_said o)) is

module _ (structures : List StructDef) (order : List ℕ) (is_order : IsOrdered structures order) where
  -- ---- the leaves of the structure at a place of the order are there from that depth on

  abbrev AreSettled : ℕ → Type 0
  AreSettled limit = (j number depth : ℕ) (s : StructDef) → j < limit → slice_get order j ≡ Some number → slice_get structures number ≡ Some s → j ≤ depth → members_leaves (leaves_to structures depth) s.members ≡ members_leaves (leaves_to structures j) s.members

  settled_next : (limit : ℕ) → AreSettled limit → AreSettled (suc limit)
  settled_next limit before j number depth s less at is deep = members_by (leaves_to structures depth) (leaves_to structures j) s.members (λ m has. kinds m has m.kind refl)
    where
      inner_same : (far near i inner : ℕ) (name : List ℕ) → i < far → i < near → i < limit → slice_get order i ≡ Some inner → structure_in structures name ≡ Some inner → leaves_to structures far name ≡ leaves_to structures near name
      inner_same zero near i inner name a b c placed known = absurd (omega arith)
      inner_same (suc far) zero i inner name a b c placed known = absurd (omega arith)
      inner_same (suc far) (suc near) i inner name a b c placed known =
          let within : inner < length structures = first_below _ structures inner known in
          let t : StructDef = get_or structures inner s in
          let there : slice_get structures inner ≡ Some t = slice_get-get_or structures inner s within in
          named_leaves structures far inner name t known there
          ∙ before i inner far t c placed there (omega arith)
          ∙ sym (before i inner near t c placed there (omega arith))
          ∙ sym (named_leaves structures near inner name t known there)

      named : (m : Member) → Contains s.members m → (name : List ℕ) (o : Option ℕ) → structure_in structures name ≡ o → kind_in structures m.kind ≡ o → leaves_to structures depth name ≡ leaves_to structures j name
      named m has name None known kind_is = no_leaves structures depth name known ∙ sym (no_leaves structures j name known)
      named m has name (Some n) known kind_is =
          let there = is_order.forward n number j (has_kind_edge structures number s m n is has kind_is) at in
          let l = there.1 in
          inner_same depth j there.0 n name (omega arith) (omega arith) (omega arith) there.2 known

      kinds : (m : Member) → Contains s.members m → (k : KindTree) → m.kind ≡ k → kind_leaves (leaves_to structures depth) k ≡ kind_leaves (leaves_to structures j) k
      kinds m has kind.Long e = refl
      kinds m has kind.Str e = refl
      kinds m has (kind.Struct name) e = named m has name.name (structure_in structures name.name) refl (ap (kind_in structures) e)

  settled : (limit : ℕ) → AreSettled limit
  settled zero j number depth s less at is deep = absurd (omega arith)
  settled (suc limit) j number depth s less at is deep = settled_next limit (settled limit) j number depth s less at is deep

  -- so the leaves of a name are those of its structure
  whole : (depth number : ℕ) (name : List ℕ) (s : StructDef) → length structures ≤ depth → structure_in structures name ≡ Some number → slice_get structures number ≡ Some s → leaves_to structures depth name ≡ members_leaves (leaves_to structures depth) s.members
  whole zero number name s deep known is = absurd (let l = slice_get_within structures number s is in omega arith)
  whole (suc depth) number name s deep known is =
      let there = is_order.covers number (slice_get_within structures number s is) in
      let placed : slice_get order there.0 ≡ Some number = slice_get-get_or order there.0 number there.1 ∙ ap (λ (n : ℕ). Some n) there.2 in
      let l = there.1 in
      let n = is_order.long in
      named_leaves structures depth number name s known is
      ∙ settled (suc there.0) there.0 number depth s (omega arith) placed is (omega arith)
      ∙ sym (settled (suc there.0) there.0 number (suc depth) s (omega arith) placed is (omega arith))

  -- ---- the leaves of the runs of a table

  module _ (runs : List Run) (table : List Leaf) (made : AreLeavesMade structures runs table) where
    abbrev all : List ℕ → List Leaf
    all = leaves_to structures (length structures)

    abbrev by_number : Numbering
    by_number number = option_map (leaves_of structures) (slice_get structures number)

    by_name : (name : List ℕ) (number : ℕ) → structure_in structures name ≡ Some number → by_number number ≡ Some (all name)
    by_name name number known =
        let within : number < length structures = first_below _ structures number known in
        let s = there_is structures number within in
        ap (option_map (leaves_of structures)) s.1 ∙ ap (λ (ls : List Leaf). Some ls) (sym (whole (length structures) number name s.0 (omega arith) known s.1))

    kind_made : (k : KindTree) → IsKindMade structures runs table all k
    kind_made kind.Long = tt
    kind_made kind.Str = tt
    kind_made (kind.Struct name) = by (structure_in structures name.name) refl
      where
        by : (o : Option ℕ) → structure_in structures name.name ≡ o → IsMadeBy table (option_and_then (λ n. slice_get runs n) o) (all name.name)
        by None known = no_leaves structures (length structures) name.name known
        by (Some number) known =
            let s = there_is structures number (first_below _ structures number known) in
            let run = made.right number s.0 s.1 in
            subst (λ (o : Option Run). IsMadeBy table o (all name.name)) (sym run.1)
            (subst (λ (ls : List Leaf). IsRun table run.0 (return_code ∷ ls)) (sym (whole (length structures) number name.name s.0 (omega arith) known s.1)) run.2)

    pub are_known : AreLeavesKnown structures runs table all by_number
    are_known = record {
      whole = λ number s is. ap (option_map (leaves_of structures)) is;
      named = by_name;
      made = λ number s is m has. kind_made m.kind;
    }

    -- so it is of the leaves that are made by the table
    pub has_known : (forms : List StructureLeaves) → map (λ f. f.coded.leaves) forms ≡ map (leaves_in_run table) runs → HasKnownLeaves structures runs forms
    has_known forms same = record {
      table = table;
      inner = all;
      known = record {
        whole = λ number s is. numbered_leaves structures runs table forms made same number ∙ are_known.whole number s is;
        named = λ name number is. numbered_leaves structures runs table forms made same number ∙ are_known.named name number is;
        made = are_known.made;
      };
    }
