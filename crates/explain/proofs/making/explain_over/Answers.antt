use Rattle.std.proofs.Common.{ℕ, sym, subst}
use Rattle.std.proofs.lemmas.Result.{err_from_is_err_and}
use Rattle.explain.specs.Explained.{EndsWith}
use Rattle.certificates.specs.Naming.{activity_spelling}
use Rattle.explain.specs.Shown.{fate_at, IsShown}
use Rattle.explain.proofs.Shown.{facts_here, has_none}
use Rattle.explain.proofs.making.explain_over.Goals as goal

pub fates_shown-requires : goal.fates_shown-requires
fates_shown-requires c = facts_here c.args.core.now c.args.scope.now.root c.args.facts.now c.requires

pub returns-in_err-lines-clause-fault : goal.returns-in_err-lines-clause-fault
returns-in_err-lines-clause-fault c =
    let p = err_from_is_err_and c.from_residual-in_err-lines.result c.from_residual-in_err-lines.ensures.1 in
    let text = activity_spelling c.args.scope.now c.args.activity.now in
    let found = fate_at c.in_ok-shown.shown.fates text in
    let shown = subst (λ (root : ℕ). IsShown c.args.core.now root text found) c.requires.number (c.in_ok-shown.ensures text) in
    rw (p.1, p.2) (has_none c.args.core.now c.args.scope.now c.args.activity.now found c.in_err-lines.field-0.0 shown c.in_err-lines.ensures.fault)

pub returns-clause-certificate : goal.returns-clause-certificate
returns-clause-certificate c =
    let text = activity_spelling c.args.scope.now c.args.activity.now in
    let found = fate_at c.in_ok-shown.shown.fates text in
    let shown = subst (λ (root : ℕ). IsShown c.args.core.now root text found) c.requires.number (c.in_ok-shown.ensures text) in
    let ends = c.in_ok-lines.ensures.certificate in
    record {
      facts = c.args.facts.now;
      of_root = c.requires;
      justified = c.in_ok-checked.ensures.justified;
      fate = ends.0;
      shown = subst (IsShown c.args.core.now c.args.scope.now.root text) ends.1 shown;
      last = subst (EndsWith c.args.scope.now c.args.activity.now ends.0) (sym c.in_ok-checked.ensures.same) ends.2;
    }
