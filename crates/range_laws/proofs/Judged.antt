-- What the rules leave of a text that is accepted: structures are small (rule 8), processes nest at most 16 levels deep
-- (rule 21), and graphs have few activities (rule 24).
use Rattle.std.proofs.Common.{◌≡◌, ◌⊎◌, inl, inr, ℕ, zero, suc, ◌<◌, ◌≤◌, List, [], ◌∷◌, ◌++◌, length, Option, Some, None, refl, sym, subst}
use Rattle.std.specs.Option.{option_map, option_and_then}
use Rattle.std.specs.Prelude.{slice_get}
use Rattle.std.proofs.lemmas.Bool.{cases_lt}
use Rattle.std.proofs.lemmas.Option.{none-some}
use Rattle.flow_model.specs.declared.graphs.Leaf.{Leaf}
use Rattle.flow_model.specs.declared.graphs.Library.{Library}
use Rattle.flow_model.specs.declared.trees.ItemTree.{ItemTree}
use Rattle.flow_model.specs.declared.trees.ProcessTree.{ProcessTree}
use Rattle.flow_model.specs.declared.trees.StructDef.{StructDef}
use Rattle.leaf_rules.specs.ArrayCounts.{IsCountOutside}
use Rattle.leaf_rules.specs.Counts.{IsLarge, HasTooManyLeaves}
use Rattle.leaf_rules.specs.KindEdges.{IsInStructureCycle}
use Rattle.leaf_rules.specs.StructureLeaves.{leaves_of, leaves_in}
use Rattle.leaf_rules.specs.Structures.{structure_in}
use Rattle.process_rules.specs.Counts.{IsTooMuch, IsTooMuchOf}
use Rattle.process_rules.specs.Numbers.{IsNumberWrong}
use Rattle.process_rules.specs.Shapes.{shape_at, shapes_of, IsDeep, IsLargeProcess}
use Rattle.template_check.specs.Rules.{Rule, IsFirstBroken, rules_on_names, rules_on_structures, rules_on_connectors, rules_on_leaves}
use Rattle.template_check.specs.Rules.{rules_on_lines, rules_on_callees, rules_on_people, rules_on_counts, from_sizes, from_callees}
use Rattle.template_check.specs.Rules.{from_leaves, from_connectors, later_rules}
use Rattle.text_graphs.specs.Graphs.{GraphAt, InGraphs, IsGraphOf}
use Rattle.text_graphs.specs.Places.{AnyAt}
use Rattle.text_graphs.specs.Texts.{activities_in, processes_in, structures_in}
use Rattle.range_laws.proofs.Scenes.{some_is}
use Rattle.range_laws.proofs.Shapes.{there}

-- ---- rules that find nothing

passed : (rule : Rule) (rules : List Rule) → IsFirstBroken (rule ∷ rules) None
    → ((p : ℕ) → rule.1 p → ⊥) × IsFirstBroken rules None
passed rule rules (inl here) = absurd (none-some (rule.0, here.0) here.1)
passed rule rules (inr past) = past

-- the rules on structures, sizes and counts
pub record FindNone (library : Library) (items : List ItemTree) : Type 0 where
  pub small : (p : ℕ) → HasTooManyLeaves (structures_in items) p → ⊥
  pub shallow : (p : ℕ) → IsDeep library (processes_in items) p → ⊥
  pub few : (p : ℕ) → IsTooMuchOf (processes_in items) (InGraphs items IsTooMuch) p → ⊥

behind : (first second : List Rule) → IsFirstBroken (first ++ second) None → IsFirstBroken second None
behind [] second none = none
behind (rule ∷ rules) second none = behind rules second (passed rule (rules ++ second) none).1

pub find_none : (library : Library) (items : List ItemTree) → IsFirstBroken (later_rules library items) None
    → FindNone library items
find_none library items none =
    let structures = structures_in items in
    let from_structures = behind (rules_on_names items) (rules_on_structures items ++ from_connectors library items)
    none in
    let rule_7 = passed (7, IsInStructureCycle structures)
    ((8, HasTooManyLeaves structures) ∷ from_connectors library items) from_structures in
    let rule_8 = passed (8, HasTooManyLeaves structures) (from_connectors library items) rule_7.1 in
    let leaves = behind (rules_on_connectors items) (from_leaves library items) rule_8.1 in
    let callees = behind (rules_on_leaves items ++ rules_on_lines items) (from_callees library items) leaves in
    let sizes = behind (rules_on_callees library items ++ rules_on_people library items) (from_sizes library items)
    callees in
    let rule_21 = passed (21, IsDeep library (processes_in items))
    ((22, IsLargeProcess library (processes_in items)) ∷ rules_on_counts items) sizes in
    let counts = behind ((22, IsLargeProcess library (processes_in items)) ∷ []) (rules_on_counts items) rule_21.1 in
    let rule_23 = passed (23, λ p. IsCountOutside (structures_in items) p ⊎ InGraphs items IsNumberWrong p)
    ((24, IsTooMuchOf (processes_in items) (InGraphs items IsTooMuch)) ∷ []) counts in
    let rule_24 = passed (24, IsTooMuchOf (processes_in items) (InGraphs items IsTooMuch)) [] rule_23.1 in
    record { small = rule_8.0; shallow = rule_21.0; few = rule_24.0 }

-- ---- rule 8

at_place : {X : Type 0} (R : X → ℕ → Type 0) (xs : List X) (k : ℕ) (x : X) (p : ℕ) → slice_get xs k ≡ Some x → R x p
    → AnyAt R xs p
at_place R [] k x p at r = absurd (none-some x at)
at_place {X} R (y ∷ ys) zero x p at r = inl (subst (λ (z : X). R z p) (sym (some_is y x at)) r)
at_place R (y ∷ ys) (suc k) x p at r = inr (at_place R ys k x p at r)

module _ (structures : List StructDef) (none : (p : ℕ) → HasTooManyLeaves structures p → ⊥) (leaves : List Leaf) where
  few : (k : ℕ) (s : StructDef) → slice_get structures k ≡ Some s → (512 < length (leaves_of structures s))
      ⊎ (length (leaves_of structures s) ≤ 512) → length (leaves_of structures s) ≤ 512
  few k s at (inl large) =
      absurd (none s.name.place (at_place (IsLarge structures) structures k s s.name.place at (large, refl)))
  few k s at (inr small) = small

  by_structure : (k : ℕ) (o : Option StructDef) → slice_get structures k ≡ o
      → option_map (leaves_of structures) o ≡ Some leaves → length leaves ≤ 512
  by_structure k None at nothing = absurd (none-some leaves nothing)
  by_structure k (Some s) at found =
      subst (λ (ls : List Leaf). length ls ≤ 512) (some_is (leaves_of structures s) leaves found)
      (few k s at (cases_lt 512 (length (leaves_of structures s))))

  by_number : (o : Option ℕ)
      → option_map (leaves_of structures) (option_and_then (λ number. slice_get structures number) o) ≡ Some leaves
      → length leaves ≤ 512
  by_number None nothing = absurd (none-some leaves nothing)
  by_number (Some k) found = by_structure k (slice_get structures k) refl found

  -- the leaves of a structure of the text are few
  pub leaves_small : (name : List ℕ) → leaves_in structures name ≡ Some leaves → length leaves ≤ 512
  leaves_small name is = by_number (structure_in structures name) is

-- ---- rule 21

pub nests_shallow : (library : Library) (items : List ItemTree) → FindNone library items → (k : ℕ) (p : ProcessTree)
    → slice_get (processes_in items) k ≡ Some p → (shape_at (shapes_of library (processes_in items)) k).depth ≤ 16
nests_shallow library items none k p at =
    go (cases_lt 16 (shape_at (shapes_of library (processes_in items)) k).depth)
  where
    go : (16 < (shape_at (shapes_of library (processes_in items)) k).depth)
        ⊎ ((shape_at (shapes_of library (processes_in items)) k).depth ≤ 16)
        → (shape_at (shapes_of library (processes_in items)) k).depth ≤ 16
    go (inl deep) = absurd (none.shallow p.place (k, p, at, (deep, refl)))
    go (inr shallow) = shallow

-- ---- rule 24

-- a graph of the text has few activities
pub activities_few : (library : Library) (items : List ItemTree) → FindNone library items → (g : GraphAt)
    → IsGraphOf items g → length (activities_in g.elements) ≤ 1024
activities_few library items none g is = go (cases_lt 1024 (length (activities_in g.elements)))
  where
    go : (1024 < length (activities_in g.elements)) ⊎ (length (activities_in g.elements) ≤ 1024)
        → length (activities_in g.elements) ≤ 1024
    go (inl many) =
        let extra = there (activities_in g.elements) 1024 many in
        absurd (none.few extra.0.place (inr (g, is, inl (inl (extra.0, extra.1, refl)))))
    go (inr fits) = fits
