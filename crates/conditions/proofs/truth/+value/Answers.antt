use Rattle.std.proofs.Common.{◌≡◌, refl, sym, ap, ◌∙◌, not}
use Rattle.flow_model.specs.Conditions.{truth}
use Rattle.flow_model.specs.declared.graphs.Container.{Container}
use Rattle.flow_model.specs.declared.graphs.Expr.{Expr, Not}
use Rattle.flow_model.specs.declared.graphs.Expr.TheBlock.{hidden-the_row-Expr-1}
use denote.Hole.Carrier.{hidden}
use Rattle.conditions.proofs.truth.+value.Goals as goal

-- what is denied is true where its member isn't
denied : (member : Expr) (container : Container) → not (truth member container) ≡ truth (Not member) container
unfolding hidden-the_row-Expr-1 hidden
denied member container = refl

pub returns-in-Not : goal.returns-in-Not
returns-in-Not t c =
    let container = c.args.container.now in
    ap not (c.value-in-Not.ensures ∙ ap (λ (e : Expr). truth e container) c.get.ensures)
    ∙ denied c.in-Not.member container ∙ sym (ap (λ (e : Expr). truth e container) c.in-Not.is)
