-- What is told of a condition, by its members.
use Rattle.std.proofs.Common.{◌≡◌, List, map, sym, ap, ◌∙◌}
use Rattle.flow_model.specs.declared.graphs.Operator.{Operator}
use Rattle.flow_model.specs.declared.trees.Side.{Side}
use Rattle.flow_model.specs.declared.trees.Cond.{Cond, Or, And, Compare}
use Rattle.flow_model.specs.declared.trees.Cond.TheVariants.{rolls-Or, rolls-And, rolls-Compare}
use Rattle.flow_model.specs.declared.trees.Cond.TheOpen.{Cond-F}
use Rattle.flow_model.specs.declared.trees.Cond.TheFolds.{fold-Cond, fold-roll-Cond}

module _ {A : Type 0} (step : Cond-F A → A) where
  pub fold_or : (members : List Cond) → fold-Cond A step (Or members) ≡ step (Cond-F.Or (map (fold-Cond A step) members))
  fold_or members = ap (λ (c : Cond). fold-Cond A step c) (sym (rolls-Or members)) ∙ fold-roll-Cond A step (Cond-F.Or members)

  pub fold_and : (members : List Cond) → fold-Cond A step (And members) ≡ step (Cond-F.And (map (fold-Cond A step) members))
  fold_and members = ap (λ (c : Cond). fold-Cond A step c) (sym (rolls-And members)) ∙ fold-roll-Cond A step (Cond-F.And members)

  pub fold_compare : (left : Side) (operator : Operator) (right : Side) → fold-Cond A step (Compare left operator right) ≡ step (Cond-F.Compare left operator right)
  fold_compare left operator right = ap (λ (c : Cond). fold-Cond A step c) (sym (rolls-Compare left operator right)) ∙ fold-roll-Cond A step (Cond-F.Compare left operator right)
