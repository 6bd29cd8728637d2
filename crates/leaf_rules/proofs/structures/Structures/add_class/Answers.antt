use Rattle.std.proofs.Common.{Option, List, is_some, ap, sym, ◌∙◌}
use Rattle.std.specs.Option.{option_map}
use Rattle.flow_model.specs.declared.graphs.Leaf.{Leaf}
use Rattle.leaf_rules.specs.Classes.{leaves_at}
use Rattle.leaf_rules.specs.TableClasses.{text_classes}
use Rattle.leaf_rules.specs.declared.forms.StructureLeaves.{StructureLeaves}
use Rattle.leaf_rules.proofs.Classing.{classed_kept}
use Rattle.leaf_rules.proofs.structures.Structures.add_class.Goals as goal

pub class_of-requires : goal.class_of-requires
class_of-requires c =
    let made = c.args.made.now in
    let there = sym (rw c.in-Some-leaves_of.is at c.leaves_of.ensures) in
    (rw (c.in-Some.is, c.deref.ensures.value) at c.in_ok-forms.ensures) made (text_classes c.args.text.now) c.requires.made c.requires.classed
    ∙ ap (option_map (λ (both : StructureLeaves). both.plain.leaves)) there

pub returns-clause-classed : goal.returns-clause-classed
returns-clause-classed c =
    let made = c.args.made.now in
    let there = sym (rw c.in-Some-leaves_of.is at c.leaves_of.ensures) in
    let at = ap (option_map (λ (both : StructureLeaves). both.plain.leaves)) there in
    c.set_class.ensures (leaves_at made) (text_classes c.class_of.new.self) (c.in_ok-class.ensures.leaves ∙ sym at, ap (λ (o : Option (List Leaf)). is_some o) at)
    (classed_kept (leaves_at made) (text_classes c.args.text.now) (text_classes c.class_of.new.self) c.args.found.now.items c.in_ok-class.ensures.kept c.requires.classed)
