use Rattle.std.proofs.Common.{◌==◌, ◌&&◌, Bool, ap, ◌∙◌, sym}
use Rattle.navigator.specs.declared.scopes.ScopeState.{out-ScopeState}
use Rattle.navigator.proofs.ReadScopes.{shown_complete}
use Rattle.navigator.proofs.scopes.ScopeState.is_complete.Goals as goal

pub returns-then-self-clause-shows : goal.returns-then-self-clause-shows
returns-then-self-clause-shows c = λ ts depth k g input shows.
    ap (λ (b : Bool). b && ((out-ScopeState c.args.self.now).unsettled == 0)) (sym c.if-self.true) ∙ shown_complete ts depth k g input c.args.self.now shows
