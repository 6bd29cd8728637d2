-- The leaves of a table are those of structures.
use Rattle.std.proofs.Common.{◌≡◌, ℕ, zero, suc, ◌<◌, ◌≤◌, ⊎_elim, List, [], ◌∷◌, map, length, Option, Some, None, refl, sym, ap, ◌∙◌, arith}
use Rattle.std.specs.Prelude.{slice_get}
use Rattle.std.specs.Option.{option_map, option_and_then}
use Rattle.std.proofs.lemmas.Bool.{cases_lt}
use Rattle.std.proofs.lemmas.List.{length-map}
use Rattle.std.proofs.lemmas.Option.{slice_get_past}
use Rattle.flow_model.specs.declared.graphs.Leaf.{Leaf}
use Rattle.flow_model.specs.declared.trees.StructDef.{StructDef}
use Rattle.text_graphs.proofs.Naming.{first_below}
use Rattle.leaf_rules.specs.Classes.{leaves_at}
use Rattle.leaf_rules.specs.ReturnCodes.{return_code}
use Rattle.leaf_rules.specs.Runs.{leaves_in_run, IsRun, AreLeavesMade, AreOutputRuns}
use Rattle.leaf_rules.specs.Structures.{structure_in}
use Rattle.leaf_rules.specs.StructureLeaves.{leaves_of, leaves_in}
use Rattle.leaf_rules.specs.declared.forms.StructureLeaves.{StructureLeaves}
use Rattle.leaf_rules.specs.declared.rows.Run.{Run}

there_is : {X : Type 0} (xs : List X) (i : ℕ) → i < length xs → (x : X) × (slice_get xs i ≡ Some x)
there_is [] i less = absurd (omega arith)
there_is (x ∷ xs) zero less = (x, refl)
there_is (x ∷ xs) (suc i) less = there_is xs i (omega arith)

within : {X : Type 0} (xs : List X) (i : ℕ) (x : X) → slice_get xs i ≡ Some x → i < length xs
within [] i x h = cc
within (y ∷ xs) zero x h = omega arith
within (y ∷ xs) (suc i) x h = let l = within xs i x h in omega arith

-- each run begins with a return code
pub output_runs : (structures : List StructDef) (runs : List Run) (table : List Leaf) → AreLeavesMade structures runs table → AreOutputRuns table runs
output_runs structures runs table h = λ number run is.
    let s = there_is structures number (let l = within runs number run is in let n = h.long in omega arith) in
    let made = h.right number s.0 s.1 in
    (leaves_of structures s.0, at made.0 run (sym made.1 ∙ is) made.2)
  where
    at : {leaves : List Leaf} (a b : Run) → Some a ≡ Some b → IsRun table a leaves → IsRun table b leaves
    at a b e h = let same : a ≡ b = cc in rw (sym same) h

-- the forms of a run
form_at : (forms : List StructureLeaves) (runs : List Run) (table : List Leaf) (i : ℕ) (run : Run) → map (λ f. f.coded.leaves) forms ≡ map (leaves_in_run table) runs → slice_get runs i ≡ Some run
    → (form : StructureLeaves) × (slice_get forms i ≡ Some form) × (form.coded.leaves ≡ leaves_in_run table run)
form_at [] [] table i run same is = cc
form_at [] (r ∷ runs) table i run same is = cc
form_at (f ∷ forms) [] table i run same is = cc
form_at (f ∷ forms) (r ∷ runs) table zero run same is = (f, refl, head f.coded.leaves (leaves_in_run table r) (map (λ (x : StructureLeaves). x.coded.leaves) forms) (map (leaves_in_run table) runs) same ∙ ap (leaves_in_run table) (some_same r run is))
  where
    head : (a b : List Leaf) (xs ys : List (List Leaf)) → a ∷ xs ≡ b ∷ ys → a ≡ b
    head a b xs ys e = cc

    some_same : (a b : Run) → Some a ≡ Some b → a ≡ b
    some_same a b e = cc
form_at (f ∷ forms) (r ∷ runs) table (suc i) run same is = form_at forms runs table i run (tail f.coded.leaves (leaves_in_run table r) (map (λ (x : StructureLeaves). x.coded.leaves) forms) (map (leaves_in_run table) runs) same) is
  where
    tail : (a b : List Leaf) (xs ys : List (List Leaf)) → a ∷ xs ≡ b ∷ ys → xs ≡ ys
    tail a b xs ys e = cc

-- what stands behind the return code
plain_is : (form : StructureLeaves) (leaves : List Leaf) → form.coded.leaves ≡ return_code ∷ leaves → form.plain.leaves ≡ leaves
plain_is form leaves is = tail return_code form.plain.leaves leaves (sym form.begun ∙ is)
  where
    tail : (c : Leaf) (xs ys : List Leaf) → c ∷ xs ≡ c ∷ ys → xs ≡ ys
    tail c xs ys e = cc

-- so a table has the leaves of each structure
pub has_leaves : (structures : List StructDef) (runs : List Run) (table : List Leaf) (forms : List StructureLeaves) → AreLeavesMade structures runs table → map (λ f. f.coded.leaves) forms ≡ map (leaves_in_run table) runs
    → (name : List ℕ) → option_map (λ f. f.plain.leaves) (option_and_then (λ number. slice_get forms number) (structure_in structures name)) ≡ leaves_in structures name
has_leaves structures runs table forms h same name = by (structure_in structures name) refl
  where
    by : (o : Option ℕ) → structure_in structures name ≡ o
        → option_map (λ (f : StructureLeaves). f.plain.leaves) (option_and_then (λ number. slice_get forms number) o) ≡ option_map (leaves_of structures) (option_and_then (λ number. slice_get structures number) o)
    by None known = refl
    by (Some number) known =
        let s = there_is structures number (first_below _ structures number known) in
        let made = h.right number s.0 s.1 in
        let form = form_at forms runs table number made.0 same made.1 in
        ap (option_map (λ (f : StructureLeaves). f.plain.leaves)) form.1 ∙ ap (λ (ls : List Leaf). Some ls) (plain_is form.0 (leaves_of structures s.0) (form.2 ∙ made.2.whole)) ∙ ap (option_map (leaves_of structures)) (sym s.1)

-- by number too
pub numbered_leaves : (structures : List StructDef) (runs : List Run) (table : List Leaf) (forms : List StructureLeaves) → AreLeavesMade structures runs table → map (λ f. f.coded.leaves) forms ≡ map (leaves_in_run table) runs → (number : ℕ)
    → leaves_at forms number ≡ option_map (leaves_of structures) (slice_get structures number)
numbered_leaves structures runs table forms h same number = ⊎_elim there past (cases_lt number (length structures))
  where
    there : number < length structures → leaves_at forms number ≡ option_map (leaves_of structures) (slice_get structures number)
    there less =
        let s = there_is structures number less in
        let made = h.right number s.0 s.1 in
        let form = form_at forms runs table number made.0 same made.1 in
        ap (option_map (λ (f : StructureLeaves). f.plain.leaves)) form.1 ∙ ap (λ (ls : List Leaf). Some ls) (plain_is form.0 (leaves_of structures s.0) (form.2 ∙ made.2.whole)) ∙ ap (option_map (leaves_of structures)) (sym s.1)

    past : length structures ≤ number → leaves_at forms number ≡ option_map (leaves_of structures) (slice_get structures number)
    past more =
        let long : length forms ≡ length structures = sym (length-map forms (λ (f : StructureLeaves). f.coded.leaves)) ∙ ap (length {A = List Leaf}) same ∙ length-map runs (leaves_in_run table) ∙ h.long in
        ap (option_map (λ (f : StructureLeaves). f.plain.leaves)) (slice_get_past forms number (omega arith)) ∙ sym (ap (option_map (leaves_of structures)) (slice_get_past structures number more))
