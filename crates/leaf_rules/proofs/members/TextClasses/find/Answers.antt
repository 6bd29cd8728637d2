use Rattle.std.proofs.Common.{sym, refl, ◌∙◌}
use Rattle.leaf_rules.specs.TableClasses.{text_classes}
use Rattle.leaf_rules.proofs.Classing.{made_all, found_leaves}
use Rattle.leaf_rules.proofs.members.TextClasses.find.Goals as goal

pub returns-then-is_of_members : goal.returns-then-is_of_members
returns-then-is_of_members c = λ leaves told.
    let text = c.args.self.now in
    let class = c.if-is_of_members.ensures refl in
    found_leaves (text_classes text) (made_all text.known.now.classes text.added text.known.now.made text.made) c.match-number.number class.0 c.args.members.now leaves (sym c.nth.ensures ∙ class.1) class.2 told
