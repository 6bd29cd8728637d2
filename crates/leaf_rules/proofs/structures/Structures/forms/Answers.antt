use Rattle.std.proofs.Common.{List, Bor, ap, map, sym, ◌∙◌}
use Rattle.std.proofs.lemmas.List.{take_all}
use Rattle.flow_model.specs.declared.trees.Member.{Member}
use Rattle.leaf_rules.specs.Classes.{member_form}
use Rattle.leaf_rules.specs.Structures.{behind}
use Rattle.leaf_rules.proofs.Classing.{forms_more}
use Rattle.leaf_rules.proofs.structures.Structures.forms.Goals as goal

pub loop-member-preserved : goal.loop-member-preserved
loop-member-preserved c =
    forms_more (member_form (behind c.args.self.now.definitions.items) c.args.found.now) c.args.members.now c.loop-member.member-index c.member-item.result c.loop-member.forms c.push.new.self c.in-Some.form c.loop-member-test.true c.member-item.is
    (sym c.in_ok-member_form.ensures ∙ c.in-Some.is) c.in_ok-push-in-Some.ensures.ok c.loop-member.invariant

pub returns : goal.returns
returns c =
    c.loop-member.invariant
    ∙ ap (λ (ms : List (Bor Member)). map (member_form (behind c.args.self.now.definitions.items) c.args.found.now) (behind ms)) (take_all c.loop-member.member-index c.args.members.now c.loop-member-test.false)
