use Rattle.std.proofs.Common.{Some, None}
use Rattle.std.proofs.lemmas.Result.{err_from_is_err_and}
use Rattle.template_check.specs.Rules.{later_rules, IsFirstBroken}
use Rattle.template_check.proofs.Refused.{early_judged, refused_judged}
use Rattle.template_check.proofs.compiling.compile.Goals as goal

pub returns-in_err-tree-clause-judged : goal.returns-in_err-tree-clause-judged
returns-in_err-tree-clause-judged c =
    let p = err_from_is_err_and c.from_residual.result c.from_residual.ensures.1 in
    rw (p.1, p.2) (early_judged c.args.earlier.now.library c.args.text.now c.in_err-tree.field-0.0 c.in_err-tree.ensures.early)

pub returns-in-Ok-clause-judged : goal.returns-in-Ok-clause-judged
returns-in-Ok-clause-judged c =
    let none : IsFirstBroken (later_rules c.args.earlier.now.library c.in_ok-tree.tree.items) None = rw c.in-Ok.is at c.in_ok-compiled.ensures.first in
    record { short = c.in_ok-tree.ensures.short; tree = c.in_ok-tree.tree; has = c.in_ok-tree.ensures.tree; none = none }

pub returns-clause-judged : goal.returns-clause-judged
returns-clause-judged c =
    let first : IsFirstBroken (later_rules c.args.earlier.now.library c.in_ok-tree.tree.items) (Some (c.in-Err.rule, c.in-Err.place)) = rw c.in-Err.is at c.in_ok-compiled.ensures.first in
    refused_judged c.args.earlier.now.library c.args.text.now c.fault.result c.in-Err.rule c.in-Err.place c.in_ok-tree.tree c.in_ok-tree.ensures.short c.in_ok-tree.ensures.tree first c.fault.ensures
