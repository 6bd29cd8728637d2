use Rattle.std.proofs.Common.{refl, subst}
use Rattle.fdl_parser.specs.Refusing.{RefusesFirst, HaveNoTree}
use Rattle.fdl_parser.specs.declared.cursor.SyntaxFault.TheVariants.{At}
use Rattle.template_check.specs.Judged.{NoTree}
use Rattle.template_check.proofs.Refused.{early_fault}
use Rattle.template_check.proofs.compiling.syntax_tree.Goals as goal

pub returns-in-Err-At-clause-early : goal.returns-in-Err-At-clause-early
returns-in-Err-At-clause-early c =
    let text = c.args.text.now in
    let tokens = c.in-Ok.tokens.items in
    let first : RefusesFirst text tokens (At c.in-Err-At.place) = subst (RefusesFirst text tokens) c.in-Err-At.field-0-is c.in-Err-At.ensures.first in
    let none : HaveNoTree text tokens (At c.in-Err-At.place) = subst (HaveNoTree text tokens) c.in-Err-At.field-0-is c.in-Err-At.ensures.none in
    early_fault text 3 c.in-Err-At.place c.fault-in-Err-At.result c.fault-in-Err-At.ensures (NoTree c.if-text-gt-MOST_BYTES.false refl tokens c.in-Ok.ensures.tokens first none)
