use Rattle.std.proofs.Common.{◌≡◌, List, [], ◌∷◌, ◌++◌, sym, subst, ◌∙◌, arith}
use Rattle.flow_model.specs.declared.graphs.Leaf.{Leaf}
use Rattle.leaf_rules.specs.ReturnCodes.{return_code}
use Rattle.leaf_rules.specs.Runs.{AreKindsMade}
use Rattle.leaf_rules.specs.Structures.{behind}
use Rattle.leaf_rules.specs.StructureLeaves.{members_leaves}
use Rattle.leaf_rules.proofs.Rowing.{kinds_grown, rowed}
use Rattle.leaf_rules.proofs.structures.Structures.add_structure.Goals as goal

pub returns : goal.returns
returns c = λ inner made.
    let structures = behind c.args.self.now.definitions.items in
    let runs = c.args.runs.now in
    let members = c.args.structure.now.members in
    let old = c.args.table.now in
    let new = c.add_members.new.table in
    let coded : c.add_row.new.table ≡ old ++ return_code ∷ [] = rw c.in_ok-new.ensures.ok at c.in_ok-add_row.ensures in
    let adds = rw c.as_slice.ensures at c.in_ok-add_members.ensures in
    let now_made = subst (λ (ls : List Leaf). AreKindsMade structures runs ls inner members) (sym coded) (kinds_grown structures runs inner old (return_code ∷ []) members made) in
    rowed old c.add_row.new.table new (members_leaves inner members) c.in_ok-narrow.field-0 c.in_ok-narrow-2.field-0 coded (adds inner now_made) (c.in_ok-narrow.ensures ∙ c.len-first.ensures)
    (let a = c.in_ok-narrow-2.ensures in let b = c.saturating_sub.ensures in let l = c.len.ensures in let f = c.len-first.ensures in omega arith)
