use Rattle.std.proofs.Common.{◌≡◌, sym, ◌∙◌, rules}
use denote.Enum.Bare.{differs_true, differs_false}
use Rattle.name_rules.specs.Names.{kind_said}
use Rattle.name_rules.specs.contracts.names.AttributeKind.{the_type}
use Rattle.name_rules.proofs.SameKinds.{kind_past, unmet_past, met_stays, kind_first, kind_again, first_met}
use Rattle.name_rules.proofs.names.OfKind.meet.Goals as goal

pub returns-then-ne : goal.returns-then-ne
returns-then-ne c = λ kind attrs met.
    let differ = differs_true the_type _ _ (sym c.ne.ensures ∙ c.if-ne.true) in
    let other : kind_said c.args.attribute.now.what ≡ kind → ⊥ = λ same. differ (c.attribute_kind.ensures ∙ same ∙ sym met.of) in
    record {
      of = met.of;
      seen = λ yes. met_stays kind attrs c.args.attribute.now (met.seen yes);
      unseen = λ no. unmet_past kind attrs c.args.attribute.now other (met.unseen no);
      least = kind_past kind attrs c.args.attribute.now c.args.self.now.second other met.least;
    }

pub returns-then-self : goal.returns-then-self
returns-then-self c = λ kind attrs met.
    let same = differs_false the_type (search rules) _ _ (sym c.ne.ensures ∙ c.if-ne.false) in
    record {
      of = met.of;
      seen = λ yes. met_stays kind attrs c.args.attribute.now (met.seen yes);
      unseen = λ no. cc;
      least = kind_again kind attrs c.args.attribute.now c.args.self.now.second c.lesser-self.result (sym c.attribute_kind.ensures ∙ same ∙ met.of) c.lesser-self.ensures.least (met.seen c.if-self.true) met.least;
    }

pub returns : goal.returns
returns c = λ kind attrs met.
    let same = differs_false the_type (search rules) _ _ (sym c.ne.ensures ∙ c.if-ne.false) in
    record {
      of = met.of;
      seen = λ yes. first_met kind attrs c.args.attribute.now (sym c.attribute_kind.ensures ∙ same ∙ met.of);
      unseen = λ no. cc;
      least = kind_first kind attrs c.args.attribute.now c.args.self.now.second (met.unseen c.if-self.false) met.least;
    }
