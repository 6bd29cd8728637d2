-- The number of leaves of structures, counted kinds first.
use Rattle.std.proofs.Common.{◌≡◌, ◌≢◌, ℕ, zero, suc, ◌+◌, ◌-◌, ◌*◌, ◌^◌, ◌<◌, ◌≤◌, min, List, [], ◌∷◌, length, get_or, set, replicate, Option, Some, None, refl, sym, ap, ◌∙◌, ⊎_elim, arith}
use Rattle.std.specs.Prelude.{slice_get}
use Rattle.std.specs.List.{Contains, flat_map, range_with_len}
use Rattle.std.specs.Option.{option_and_then}
use Rattle.std.proofs.Math.ListN.{length-set}
use Rattle.std.proofs.lemmas.Bool.{cases_eq, cases_lt}
use Rattle.std.proofs.lemmas.List.{length-map, length-append, length-replicate, get_or-set_same, get_or-set_other}
use Rattle.std.proofs.lemmas.Option.{slice_get_within, slice_get-get_or}
use Rattle.flow_model.specs.declared.graphs.Leaf.{Leaf}
use Rattle.flow_model.specs.declared.trees.KindTree.{KindTree}
use Rattle.flow_model.specs.declared.trees.KindTree.TheVariants as kind
use Rattle.flow_model.specs.declared.trees.Member.{Member}
use Rattle.flow_model.specs.declared.trees.StructDef.{StructDef}
use Rattle.graph_check.specs.Walks.{IsOrder}
use Rattle.text_graphs.proofs.Naming.{first_below}
use Rattle.leaf_rules.specs.Structures.{structure_in}
use Rattle.leaf_rules.specs.StructureLeaves.{element_count, below, element_steps, kind_leaves, element_leaves, member_leaves, members_leaves, members_said, members_named, leaves_to, leaves_of}
use Rattle.leaf_rules.specs.KindEdges.{kind_in, kind_edges}
use Rattle.text_graphs.specs.Places.{IsLeastOf}
use Rattle.text_graphs.proofs.Finding.{least_same}
use Rattle.leaf_rules.specs.Counts.{IsLarge, told, AreCounted, count_at, kind_count, members_count}
use Rattle.leaf_rules.proofs.Edging.{has_kind_edge}

-- ---- what the definition says

pub leaves_to-suc : (structures : List StructDef) (depth : ℕ) (name : List ℕ) → leaves_to structures (suc depth) name ≡ members_leaves (leaves_to structures depth) (members_named structures name)
unfolding leaves_to
leaves_to-suc structures depth name = refl

pub leaves_to-zero : (structures : List StructDef) (name : List ℕ) → leaves_to structures 0 name ≡ []
unfolding leaves_to
leaves_to-zero structures name = refl

-- ---- how many

pub elements_length : (inner : List ℕ → List Leaf) (m : Member) (from count : ℕ) → length (flat_map (element_leaves inner m) (range_with_len from count)) ≡ length (kind_leaves inner m.kind) * count
elements_length inner m from zero = omega arith
elements_length inner m from (suc count) =
    length-append (element_leaves inner m from) (flat_map (element_leaves inner m) (range_with_len (from + 1) count))
    ∙ (let one : length (element_leaves inner m from) ≡ length (kind_leaves inner m.kind) = length-map (kind_leaves inner m.kind) (below (element_steps m from)) in let rest = elements_length inner m (from + 1) count in omega arith)

pub members_length : (inner : List ℕ → List Leaf) (m : Member) (later : List Member) → length (members_leaves inner (m ∷ later)) ≡ length (kind_leaves inner m.kind) * element_count m + length (members_leaves inner later)
members_length inner m later =
    length-append (member_leaves inner m) (members_leaves inner later) ∙ ap (λ (n : ℕ). n + length (members_leaves inner later)) (elements_length inner m 0 (element_count m))

-- ---- as far as a limit

sum_to : (most a e r q : ℕ) → min r most ≡ min q most → min (min a most * e + r) most ≡ min (a * e + q) most
sum_to most a e r q same = ⊎_elim (λ (less : a < most). small less) (λ (more : most ≤ a). large e more) (cases_lt a most)
  where
    small : a < most → min (min a most * e + r) most ≡ min (a * e + q) most
    small less = let is : min a most ≡ a = omega arith in ap (λ (n : ℕ). min (n * e + r) most) is ∙ (let p = a * e in omega arith)

    large : (f : ℕ) → most ≤ a → min (min a most * f + r) most ≡ min (a * f + q) most
    large zero more = omega arith
    large (suc f) more = let is : min a most ≡ most = omega arith in ap (λ (n : ℕ). min (n * suc f + r) most) is ∙ omega arith

pub told_sum : (a e r q : ℕ) → told r ≡ told q → told (told a * e + r) ≡ told (a * e + q)
told_sum a e r q same = sum_to (2 ^ 64 - 1) a e r q same

add_to : (most a b r : ℕ) → min (min (a + min b most) most + r) most ≡ min (a + (b + r)) most
add_to most a b r = omega arith

pub told_add : (a b r : ℕ) → told (told (a + told b) + r) ≡ told (a + (b + r))
told_add a b r = add_to (2 ^ 64 - 1) a b r

-- ---- the counts of kinds tell those of structures

-- what is counted for a kind is its number of leaves
abbrev pub IsKindCounted : List StructDef → List ℕ → (List ℕ → List Leaf) → Member → Type 0
IsKindCounted structures counts inner m = kind_count structures counts m.kind ≡ told (length (kind_leaves inner m.kind))

pub members_told : (structures : List StructDef) (counts : List ℕ) (inner : List ℕ → List Leaf) (members : List Member) → ((m : Member) → Contains members m → IsKindCounted structures counts inner m)
    → told (members_count structures counts members) ≡ told (length (members_leaves inner members))
members_told structures counts inner [] kinds = refl
members_told structures counts inner (m ∷ later) kinds =
    let rest = members_told structures counts inner later (λ x has. kinds x (suc has.0, (let l = has.1 in omega arith), has.2)) in
    let here = kinds m (0, omega arith, refl) in
    ap (λ (n : ℕ). told (n * element_count m + members_count structures counts later)) here
    ∙ told_sum (length (kind_leaves inner m.kind)) (element_count m) (members_count structures counts later) (length (members_leaves inner later)) rest
    ∙ ap told (sym (members_length inner m later))

-- ---- in an order in which kinds come first

-- the first of an order are counted, and going deeper adds none
pub record AreCountedTo (structures : List StructDef) (order : List ℕ) (i : ℕ) (counts : List ℕ) : Type 0 where
  pub long : length counts ≡ length structures
  pub right : (j number depth : ℕ) (s : StructDef) → j < i → slice_get order j ≡ Some number → slice_get structures number ≡ Some s → j ≤ depth → get_or counts number 0 ≡ told (length (members_leaves (leaves_to structures depth) s.members))

module _ (structures : List StructDef) (order : List ℕ) where
  pub counted_none : (counts : List ℕ) → counts ≡ replicate (length structures) 0 → AreCountedTo structures order 0 counts
  counted_none counts is = record { long = ap length is ∙ length-replicate (length structures) 0; right = λ j number depth s less. absurd (omega arith) }

  module _ (is_order : IsOrder (length structures) (kind_edges structures) order) where
    module _ (i : ℕ) (counts : List ℕ) (so_far : AreCountedTo structures order i counts) (number : ℕ) (at : slice_get order i ≡ Some number) (s : StructDef) (is : slice_get structures number ≡ Some s) where
      no_leaves : (depth : ℕ) (name : List ℕ) → structure_in structures name ≡ None → leaves_to structures depth name ≡ []
      no_leaves zero name none = leaves_to-zero structures name
      no_leaves (suc depth) name none =
          leaves_to-suc structures depth name ∙ ap (λ (o : Option ℕ). members_leaves (leaves_to structures depth) (members_said (option_and_then (λ n. slice_get structures n) o))) none

      inner_right : (depth j inner : ℕ) (name : List ℕ) → i ≤ depth → j < i → slice_get order j ≡ Some inner → structure_in structures name ≡ Some inner → get_or counts inner 0 ≡ told (length (leaves_to structures depth name))
      inner_right zero j inner name deep less placed known = absurd (omega arith)
      inner_right (suc depth) j inner name deep less placed known =
          let within : inner < length structures = first_below _ structures inner known in
          let t : StructDef = get_or structures inner s in
          let there : slice_get structures inner ≡ Some t = slice_get-get_or structures inner s within in
          let members : members_named structures name ≡ t.members = ap (λ (o : Option ℕ). members_said (option_and_then (λ n. slice_get structures n) o)) known ∙ ap members_said there in
          so_far.right j inner depth t less placed there (omega arith)
          ∙ ap (λ (ms : List Member). told (length (members_leaves (leaves_to structures depth) ms))) (sym members)
          ∙ ap (λ (ls : List Leaf). told (length ls)) (sym (leaves_to-suc structures depth name))

      struct_right : (depth : ℕ) (name : List ℕ) (o : Option ℕ) → i ≤ depth → structure_in structures name ≡ o → ((inner : ℕ) → o ≡ Some inner → (j : ℕ) × (j < i) × (slice_get order j ≡ Some inner))
          → count_at counts o ≡ told (length (leaves_to structures depth name))
      struct_right depth name None deep known before = ap (λ (ls : List Leaf). told (length ls)) (sym (no_leaves depth name known))
      struct_right depth name (Some inner) deep known before = let b = before inner refl in inner_right depth b.0 inner name deep b.1 b.2 known

      kind_right : (depth : ℕ) (k : KindTree) → i ≤ depth → ((inner : ℕ) → kind_in structures k ≡ Some inner → (j : ℕ) × (j < i) × (slice_get order j ≡ Some inner))
          → kind_count structures counts k ≡ told (length (kind_leaves (leaves_to structures depth) k))
      kind_right depth kind.Long deep before = refl
      kind_right depth kind.Str deep before = refl
      kind_right depth (kind.Struct name) deep before = struct_right depth name.name (structure_in structures name.name) deep refl before

      -- what is counted is the number of leaves, however deep
      pub count_right : (count depth : ℕ) → count ≡ told (members_count structures counts s.members) → i ≤ depth → count ≡ told (length (members_leaves (leaves_to structures depth) s.members))
      count_right count depth counted deep =
          counted
          ∙ members_told structures counts (leaves_to structures depth) s.members
          (λ m has. kind_right depth m.kind deep (λ inner known. is_order.forward inner number i (has_kind_edge structures number s m inner is has known) at))

      pub counted_next : (count : ℕ) (next : List ℕ) → count ≡ told (members_count structures counts s.members) → next ≡ set counts number count → AreCountedTo structures order (i + 1) next
      counted_next count next counted now = record {
        long = ap length now ∙ length-set counts number count ∙ so_far.long;
        right = λ j other depth t less placed there deep.
            ⊎_elim
            (λ (same : other ≡ number).
            let t_is : Some t ≡ Some s = sym there ∙ ap (slice_get structures) same ∙ is in
            let t_same : t ≡ s = cc in
            ap (λ (n : ℕ). get_or next n 0) same ∙ ap (λ (l : List ℕ). get_or l number 0) now ∙ get_or-set_same counts number count 0 in_range ∙
            again count counted j depth less (ap (λ (n : ℕ). Some n) (sym same) ∙ sym placed) deep ∙ ap (λ (v : StructDef). told (length (members_leaves (leaves_to structures depth) v.members))) (sym t_same))
            (λ (differs : other ≢ number).
            ap (λ (l : List ℕ). get_or l other 0) now ∙ get_or-set_other counts number other count 0 differs ∙
            so_far.right j other depth t
            (⊎_elim (λ (last : j ≡ i). absurd (differs (let e : Some other ≡ Some number = sym placed ∙ ap (slice_get order) last ∙ at in cc))) (λ (before : j ≢ i). omega arith) (cases_eq j i))
            placed there deep)
            (cases_eq other number);
      }
        where
          in_range : number < length counts
          in_range = let l = slice_get_within structures number s is in let n = so_far.long in omega arith

          again : (c : ℕ) → c ≡ told (members_count structures counts s.members) → (j depth : ℕ) → j < i + 1 → Some number ≡ slice_get order j → j ≤ depth → c ≡ told (length (members_leaves (leaves_to structures depth) s.members))
          again c tells j depth less placed deep =
              ⊎_elim
              (λ (last : j ≡ i). count_right c depth tells (omega arith))
              (λ (before : j ≢ i).
              count_right c i tells (omega arith)
              ∙ sym (so_far.right j number i s (omega arith) (sym placed) is (omega arith))
              ∙ so_far.right j number depth s (omega arith) (sym placed) is deep)
              (cases_eq j i)

    pub counted_all : (i : ℕ) (counts : List ℕ) → length order ≤ i → AreCountedTo structures order i counts → AreCounted structures counts
    counted_all i counts past h = record {
      right = λ number depth s is deep.
          let there = is_order.covers number (slice_get_within structures number s is) in
          let placed : slice_get order there.0 ≡ Some number = slice_get-get_or order there.0 number there.1 ∙ ap (λ (n : ℕ). Some n) there.2 in
          h.right there.0 number depth s (let l = there.1 in omega arith) placed is (let l = there.1 in let n = is_order.long in omega arith);
    }

-- ---- too many

pub large_where : (structures : List StructDef) (counts : List ℕ) → AreCounted structures counts → (i : ℕ) (s : StructDef) (found : Option ℕ) → slice_get structures i ≡ Some s
    → IsLeastOf (λ p. (512 < get_or counts i 0) × (s.name.place ≡ p)) found → IsLeastOf (IsLarge structures s) found
large_where structures counts h i s found is least =
    let tells = h.right i (length structures) s is (omega arith) in
    least_same (λ p. (512 < get_or counts i 0) × (s.name.place ≡ p)) (IsLarge structures s) found (λ p a. (below_limit (length (leaves_of structures s)) (get_or counts i 0) tells a.0, a.1))
    (λ p a. (above_limit (length (leaves_of structures s)) (get_or counts i 0) tells a.0, a.1)) least
  where
    below_limit : (n c : ℕ) → c ≡ told n → 512 < c → 512 < n
    below_limit n c is less = omega arith

    above_limit : (n c : ℕ) → c ≡ told n → 512 < n → 512 < c
    above_limit n c is less = omega arith

pub told_whole : (count n : ℕ) → count < 2 ^ 64 → told (count + 0) ≡ told n → count ≡ told n
told_whole count n fits same = omega arith
