use Rattle.std.proofs.Common.{◌≡◌, false, true, refl}
use Rattle.flow_core.proofs.Admitting.{no_place, admitted_there, refused_there}
use Rattle.flow_core.proofs.state.Core.admits.Goals as goal

pub returns-then-not-allows_place-clause-refused : goal.returns-then-not-allows_place-clause-refused
returns-then-not-allows_place-clause-refused c = λ no.
    no_place c.args.self.now c.args.number c.args.t.now (λ place. (let wrong : false ≡ true = c.if-not-allows_place.ensures.exact.1 place in let n : ⊥ = cc in absurd n))

pub returns-clause-admitted : goal.returns-clause-admitted
returns-clause-admitted c =
    admitted_there c.args.self.now c.args.number c.args.t.now c.allows.result (c.if-not-allows_place.ensures.exact.0 refl) c.allows.ensures.due

pub returns-clause-refused : goal.returns-clause-refused
returns-clause-refused c = refused_there c.args.self.now c.args.number c.args.t.now c.allows.result c.allows.ensures.due
