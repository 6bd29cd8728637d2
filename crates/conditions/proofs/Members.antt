-- The value of OR and AND, by the lists of their members.
use Rattle.std.proofs.Common.{◌≡◌, ◌||◌, ◌&&◌, List, refl, ap, ◌∙◌}
use Rattle.std.specs.List.{list_any, list_all}
use Rattle.flow_model.specs.declared.graphs.Container.{Container}
use Rattle.flow_model.specs.declared.graphs.Expr.{Expr, Or, And, Row_of-Expr, end_of-Expr, more_of-Expr, items-the_row-Expr, items_hidden-the_row-Expr-0}
use Rattle.flow_model.specs.declared.graphs.Expr.TheBlock.{hidden-the_row-Expr-0}
use Rattle.flow_model.specs.Conditions.{truth, some_truth, each_truth}

some_items : (n : _) (row : Row_of-Expr n) (c : Container) → some_truth row c ≡ list_any (λ e. truth e c) (items-the_row-Expr n row)
some_items n end_of-Expr c = refl
some_items n (more_of-Expr e row) c = ap (λ b. truth e c || b) (some_items _ row c)

each_items : (n : _) (row : Row_of-Expr n) (c : Container) → each_truth row c ≡ list_all (λ e. truth e c) (items-the_row-Expr n row)
each_items n end_of-Expr c = refl
each_items n (more_of-Expr e row) c = ap (λ b. truth e c && b) (each_items _ row c)

-- OR is true where a member is
pub truth_or : (members : List Expr) (c : Container) → truth (Or members) c ≡ list_any (λ e. truth e c) members
truth_or members c = some_items _ (hidden-the_row-Expr-0 members) c ∙ ap (list_any (λ e. truth e c)) (items_hidden-the_row-Expr-0 members)

-- AND is true where each member is
pub truth_and : (members : List Expr) (c : Container) → truth (And members) c ≡ list_all (λ e. truth e c) members
truth_and members c = each_items _ (hidden-the_row-Expr-0 members) c ∙ ap (list_all (λ e. truth e c)) (items_hidden-the_row-Expr-0 members)
