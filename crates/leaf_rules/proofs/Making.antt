-- The rows of structures, made in an order in which kinds come first.
use Rattle.std.proofs.Common.{◌≡◌, ◌≢◌, ◌⊎◌, inl, inr, ℕ, zero, suc, ◌+◌, ◌-◌, ◌<◌, ◌≤◌, List, [], ◌∷◌, length, get_or, set, Option, Some, None, refl, sym, ap, subst, ◌∙◌, arith}
use Rattle.std.specs.Prelude.{slice_get}
use Rattle.std.specs.Option.{option_and_then}
use Rattle.std.proofs.Math.ListN.{length-set}
use Rattle.std.proofs.lemmas.Bool.{cases_eq}
use Rattle.std.proofs.lemmas.List.{get_or-set_same, get_or-set_other}
use Rattle.std.proofs.lemmas.Option.{slice_get_within, slice_get-get_or, get_or_from_slice_get}
use Rattle.flow_model.specs.declared.graphs.Leaf.{Leaf}
use Rattle.flow_model.specs.declared.trees.KindTree.{KindTree}
use Rattle.flow_model.specs.declared.trees.KindTree.TheVariants as kind
use Rattle.flow_model.specs.declared.trees.StructDef.{StructDef}
use Rattle.graph_check.specs.Walks.{IsOrder}
use Rattle.text_graphs.proofs.Naming.{first_below}
use Rattle.leaf_rules.specs.KindEdges.{kind_in, kind_edges}
use Rattle.leaf_rules.specs.ReturnCodes.{return_code}
use Rattle.leaf_rules.specs.Runs.{leaves_in_run, IsRun, IsMadeBy, IsKindMade, AreKindsMade, AreLeavesMade, IsRowed}
use Rattle.leaf_rules.specs.Structures.{structure_in}
use Rattle.leaf_rules.specs.StructureLeaves.{members_leaves, members_said, members_named, leaves_to}
use Rattle.leaf_rules.specs.declared.rows.Run.{Run}
use Rattle.leaf_rules.proofs.Counting.{leaves_to-zero, leaves_to-suc}
use Rattle.leaf_rules.proofs.Edging.{has_kind_edge}
use Rattle.leaf_rules.proofs.Rowing.{run_grown, rowed_run}

-- the leaves of a structure are there, down to a depth
abbrev pub IsMadeAt : List StructDef → List Run → List Leaf → ℕ → StructDef → ℕ → Type 0
IsMadeAt structures runs table number s depth = (run : Run) × (slice_get runs number ≡ Some run) × IsRun table run (return_code ∷ members_leaves (leaves_to structures depth) s.members)

-- those of the first structures of an order are there, and going deeper adds none
pub record AreMadeTo (structures : List StructDef) (order : List ℕ) (i : ℕ) (runs : List Run) (table : List Leaf) : Type 0 where
  pub long : length runs ≡ length structures
  pub right : (j number depth : ℕ) (s : StructDef) → j < i → slice_get order j ≡ Some number → slice_get structures number ≡ Some s → j ≤ depth → IsMadeAt structures runs table number s depth

module _ (structures : List StructDef) (order : List ℕ) where
  pub made_none : (runs : List Run) (table : List Leaf) → length runs ≡ length structures → AreMadeTo structures order 0 runs table
  made_none runs table long = record { long = long; right = λ j number depth s less. absurd (omega arith) }

  module _ (is_order : IsOrder (length structures) (kind_edges structures) order) where
    module _ (i : ℕ) (runs : List Run) (table : List Leaf) (so_far : AreMadeTo structures order i runs table) (number : ℕ) (at : slice_get order i ≡ Some number) (s : StructDef) (is : slice_get structures number ≡ Some s) where
      no_leaves : (depth : ℕ) (name : List ℕ) → structure_in structures name ≡ None → leaves_to structures depth name ≡ []
      no_leaves zero name none = leaves_to-zero structures name
      no_leaves (suc depth) name none =
          leaves_to-suc structures depth name ∙ ap (λ (o : Option ℕ). members_leaves (leaves_to structures depth) (members_said (option_and_then (λ n. slice_get structures n) o))) none

      inner_made : (depth j inner : ℕ) (name : List ℕ) → i ≤ depth → j < i → slice_get order j ≡ Some inner → structure_in structures name ≡ Some inner → IsMadeBy table (slice_get runs inner) (leaves_to structures depth name)
      inner_made zero j inner name deep less placed known = absurd (omega arith)
      inner_made (suc depth) j inner name deep less placed known =
          let within : inner < length structures = first_below _ structures inner known in
          let t : StructDef = get_or structures inner s in
          let there : slice_get structures inner ≡ Some t = slice_get-get_or structures inner s within in
          let members : members_named structures name ≡ t.members = ap (λ (o : Option ℕ). members_said (option_and_then (λ n. slice_get structures n) o)) known ∙ ap members_said there in
          let made = so_far.right j inner depth t less placed there (omega arith) in
          let leaves : members_leaves (leaves_to structures depth) t.members ≡ leaves_to structures (suc depth) name = ap (members_leaves (leaves_to structures depth)) (sym members) ∙ sym (leaves_to-suc structures depth name) in
          subst (λ (o : Option Run). IsMadeBy table o (leaves_to structures (suc depth) name)) (sym made.1) (subst (λ (ls : List Leaf). IsRun table made.0 (return_code ∷ ls)) leaves made.2)

      struct_made : (depth : ℕ) (name : List ℕ) (o : Option ℕ) → i ≤ depth → structure_in structures name ≡ o → ((inner : ℕ) → o ≡ Some inner → (j : ℕ) × (j < i) × (slice_get order j ≡ Some inner))
          → IsMadeBy table (option_and_then (λ n. slice_get runs n) o) (leaves_to structures depth name)
      struct_made depth name None deep known before = no_leaves depth name known
      struct_made depth name (Some inner) deep known before = let b = before inner refl in inner_made depth b.0 inner name deep b.1 b.2 known

      kind_made : (depth : ℕ) (k : KindTree) → i ≤ depth → ((inner : ℕ) → kind_in structures k ≡ Some inner → (j : ℕ) × (j < i) × (slice_get order j ≡ Some inner)) → IsKindMade structures runs table (leaves_to structures depth) k
      kind_made depth kind.Long deep before = tt
      kind_made depth kind.Str deep before = tt
      kind_made depth (kind.Struct name) deep before = struct_made depth name.name (structure_in structures name.name) deep refl before

      kinds_made : (depth : ℕ) → i ≤ depth → AreKindsMade structures runs table (leaves_to structures depth) s.members
      kinds_made depth deep = λ m has. kind_made depth m.kind deep (λ inner known. is_order.forward inner number i (has_kind_edge structures number s m inner is has known) at)

      module _ (run : Run) (new : List Leaf) (rowed : (inner : List ℕ → List Leaf) → AreKindsMade structures runs table inner s.members → IsRowed table new run (return_code ∷ members_leaves inner s.members)) where
        last_made : (depth : ℕ) → i ≤ depth → IsRun new run (return_code ∷ members_leaves (leaves_to structures depth) s.members)
        last_made depth deep = rowed_run table new run (return_code ∷ members_leaves (leaves_to structures depth) s.members) (rowed (leaves_to structures depth) (kinds_made depth deep))

        grown : (old : Run) (leaves : List Leaf) → IsRun table old leaves → IsRun new old leaves
        grown old leaves h =
            let more = return_code ∷ members_leaves (leaves_to structures i) s.members in
            subst (λ (ls : List Leaf). IsRun ls old leaves) (sym (rowed (leaves_to structures i) (kinds_made i (omega arith))).added) (run_grown table more old leaves h)

        -- what one run has is one
        one_run : (a b : Run) (left right : List Leaf) → Some a ≡ Some b → IsRun table a left → IsRun table b right → left ≡ right
        one_run a b left right same h k = let e : a ≡ b = inside a b same in sym h.whole ∙ ap (leaves_in_run table) e ∙ k.whole
          where
            inside : (x y : Run) → Some x ≡ Some y → x ≡ y
            inside x y e = cc

        set_there : number < length runs → slice_get (set runs number run) number ≡ Some run
        set_there less = slice_get-get_or (set runs number run) number run (rw length-set less) ∙ ap (λ (r : Run). Some r) (get_or-set_same runs number run run less)

        set_elsewhere : (other : ℕ) (old : Run) → other ≢ number → slice_get runs other ≡ Some old → slice_get (set runs number run) other ≡ Some old
        set_elsewhere other old apart there =
            let less = slice_get_within runs other old there in
            slice_get-get_or (set runs number run) other run (rw length-set less)
            ∙ ap (λ (r : Run). Some r) (get_or-set_other runs number other run run apart ∙ get_or_from_slice_get runs other old run there)

        pub made_next : AreMadeTo structures order (i + 1) (set runs number run) new
        made_next = record {
          long = length-set runs number run ∙ so_far.long;
          right = λ j other depth t less placed there deep. by j other depth t less placed there deep (cases_eq j i) (cases_eq other number);
        }
          where
            within : number < length runs
            within = let l = slice_get_within structures number s is in let n = so_far.long in omega arith

            same_structure : (other : ℕ) (t : StructDef) → other ≡ number → slice_get structures other ≡ Some t → t ≡ s
            same_structure other t e there = inside t s (sym there ∙ ap (slice_get structures) e ∙ is)
              where
                inside : (x y : StructDef) → Some x ≡ Some y → x ≡ y
                inside x y q = cc

            -- the structure that came last, at a depth that was known before too
            again : (j other depth : ℕ) (t : StructDef) → j < i → slice_get order j ≡ Some other → slice_get structures other ≡ Some t → j ≤ depth → other ≡ number → IsMadeAt structures (set runs number run) new other t depth
            again j other depth t less placed there deep e =
                let old = so_far.right j other depth t less placed there deep in
                let far = so_far.right j other i t less placed there (omega arith) in
                let same : return_code ∷ members_leaves (leaves_to structures i) t.members ≡ return_code ∷ members_leaves (leaves_to structures depth) t.members = one_run far.0 old.0 _ _ (sym far.1 ∙ old.1) far.2 old.2 in
                let t_is = same_structure other t e there in
                let made : IsRun new run (return_code ∷ members_leaves (leaves_to structures i) t.members) = subst (λ (x : StructDef). IsRun new run (return_code ∷ members_leaves (leaves_to structures i) x.members)) (sym t_is) (last_made i (omega arith)) in
                (run, ap (slice_get (set runs number run)) e ∙ set_there within, subst (λ (ls : List Leaf). IsRun new run ls) same made)

            last : (j other depth : ℕ) (t : StructDef) → j ≡ i → slice_get order j ≡ Some other → slice_get structures other ≡ Some t → j ≤ depth → IsMadeAt structures (set runs number run) new other t depth
            last j other depth t here placed there deep =
                let e : other ≡ number = inside other number (sym placed ∙ ap (slice_get order) here ∙ at) in
                let t_is = same_structure other t e there in (
                  run,
                  ap (slice_get (set runs number run)) e ∙ set_there within,
                  subst (λ (x : StructDef). IsRun new run (return_code ∷ members_leaves (leaves_to structures depth) x.members)) (sym t_is) (last_made depth (omega arith)),
                )
              where
                inside : (x y : ℕ) → Some x ≡ Some y → x ≡ y
                inside x y q = cc

            by : (j other depth : ℕ) (t : StructDef) → j < i + 1 → slice_get order j ≡ Some other → slice_get structures other ≡ Some t → j ≤ depth → (j ≡ i) ⊎ (j ≢ i) → (other ≡ number) ⊎ (other ≢ number) → IsMadeAt structures (set runs number run) new other t depth
            by j other depth t less placed there deep (inl here) which = last j other depth t here placed there deep
            by j other depth t less placed there deep (inr before) (inl e) = again j other depth t (omega arith) placed there deep e
            by j other depth t less placed there deep (inr before) (inr apart) =
                let old = so_far.right j other depth t (omega arith) placed there deep in
                (old.0, set_elsewhere other old.0 apart old.1, grown old.0 (return_code ∷ members_leaves (leaves_to structures depth) t.members) old.2)

    pub made_all : (i : ℕ) (runs : List Run) (table : List Leaf) → length order ≤ i → AreMadeTo structures order i runs table → AreLeavesMade structures runs table
    made_all i runs table past h = record {
      long = h.long;
      right = λ number s is.
          let there = is_order.covers number (slice_get_within structures number s is) in
          let placed : slice_get order there.0 ≡ Some number = slice_get-get_or order there.0 number there.1 ∙ ap (λ (n : ℕ). Some n) there.2 in
          h.right there.0 number (length structures) s (let l = there.1 in omega arith) placed is (let l = there.1 in let n = is_order.long in omega arith);
    }
