use Rattle.std.proofs.Common.{subst}
use Rattle.std.proofs.lemmas.List.{take_all}
use Rattle.name_rules.specs.KindsMet.{IsKindMet, AreOfKind}
use Rattle.text_graphs.specs.Places.{IsLeastOf, PairAt}
use Rattle.text_graphs.proofs.Finding.{taken_more}
use Rattle.name_rules.proofs.names.second_of_kind.Goals as goal

pub loop-attribute-preserved : goal.loop-attribute-preserved
loop-attribute-preserved c =
    subst (IsKindMet c.meet.new.self c.args.kind) (taken_more c.args.attributes.now c.loop-attribute.attribute-index c.attribute-item.result c.loop-attribute-test.true c.attribute-item.is)
    (c.meet.ensures c.args.kind _ c.loop-attribute.invariant)

pub returns : goal.returns
returns c =
    subst (λ xs. IsLeastOf (PairAt (AreOfKind c.args.kind) xs) c.loop-attribute.of_kind.second) (take_all c.loop-attribute.attribute-index c.args.attributes.now c.loop-attribute-test.false) c.loop-attribute.invariant.least
