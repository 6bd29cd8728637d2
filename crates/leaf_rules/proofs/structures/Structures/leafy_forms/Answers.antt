use Rattle.std.proofs.Common.{◌≡◌, List, Some, ap, map, sym, ◌∙◌}
use Rattle.flow_model.specs.declared.graphs.Leaf.{Leaf}
use Rattle.leaf_rules.specs.Classes.{HasKnownLeaves, AreClassed, class_leaves, forms_leaves, leaves_at, member_form}
use Rattle.leaf_rules.specs.Structures.{behind}
use Rattle.leaf_rules.specs.declared.forms.StructureLeaves.{StructureLeaves}
use Rattle.leaf_rules.specs.declared.leaf_classes.LeafClass.{LeafClass}
use Rattle.leaf_rules.proofs.Classing.{forms_tell, found_weaker}
use Rattle.leaf_rules.proofs.structures.Structures.leafy_forms.Goals as goal

pub returns : goal.returns
returns c =
    let structures = behind c.args.self.now.definitions.items in
    let found = c.args.found.now in
    let number = c.args.number in
    let members = behind c.in_ok-members.members.items in
    let s = c.structure.result.now in
    found_weaker c.forms.result (λ forms. map (λ f. Some f) forms ≡ map (member_form structures found) members)
    (λ forms. (made : List StructureLeaves) (classes : List LeafClass) → HasKnownLeaves structures c.args.runs.now made → AreClassed (leaves_at made) classes found → forms_leaves (class_leaves classes) forms ≡ leaves_at made number)
    (λ forms same made classes known classed.
    forms_tell structures c.args.runs.now known.table known.inner (leaves_at made) known.known classes found classed members forms same
    ∙ ap (λ (ls : List Leaf). Some ls) (c.in_ok-members.ensures known.table known.inner (known.known.made number s c.structure.ensures))
    ∙ sym (known.known.whole number s c.structure.ensures))
    (rw c.deref.ensures.value at c.forms.ensures)
