use Rattle.std.proofs.Common.{List, [], ◌∷◌, ◌++◌, ap, append_assoc, sym, ◌∙◌}
use Rattle.leaf_rules.specs.declared.leaf_classes.LeafClass.{LeafClass}
use Rattle.leaf_rules.proofs.Classing.{next_made}
use Rattle.leaf_rules.proofs.leaf_classes.LeafClasses.extend.Goals as goal

pub push-requires : goal.push-requires
push-requires c =
    let yielded = c.loop-class.yielded in
    let added = c.loop-class.invariant.2 ∙ ap (λ (zs : List LeafClass). yielded ++ zs) c.in-Some.ensures.steps.0 in
    next_made c.args.self.now.classes c.loop-class.self.classes c.args.added yielded c.next.new.self.rest.items c.in-Some.class added c.loop-class.invariant.0 c.requires

pub loop-class-preserved : goal.loop-class-preserved
loop-class-preserved c =
    let yielded = c.loop-class.yielded in
    let class = c.in-Some.class in
    let rest = c.next.new.self.rest.items in (
      c.in_ok-push.ensures.added ∙ ap (λ (zs : List LeafClass). zs ++ class ∷ []) c.loop-class.invariant.0 ∙ append_assoc c.args.self.now.classes yielded (class ∷ []),
      λ number leaves is. c.push.ensures.kept number leaves (c.loop-class.invariant.1 number leaves is),
      c.loop-class.invariant.2 ∙ ap (λ (zs : List LeafClass). yielded ++ zs) c.in-Some.ensures.steps.0 ∙ sym (append_assoc yielded (class ∷ []) rest),
    )
