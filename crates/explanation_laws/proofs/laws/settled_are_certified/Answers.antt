use Rattle.explanation_laws.proofs.Scopes.{began_at, settled_certified}
use Rattle.explanation_laws.proofs.laws.settled_are_certified.Goals as goal

pub returns : goal.returns
returns c = λ b g depth most r p scope s.
    settled_certified b g depth most r.bounded r.graph r.well r.own r.scopes p s.read s.own
    (began_at b g depth most r.bounded r.graph r.well r.own r.scopes p s.read s.own scope s.there) scope s.there
