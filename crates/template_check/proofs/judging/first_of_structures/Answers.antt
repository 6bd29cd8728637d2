use Rattle.std.proofs.Common.{List, Some, None, refl, subst, ◌∙◌, inl, inr}
use Rattle.flow_model.specs.declared.trees.StructDef.{StructDef}
use Rattle.leaf_rules.specs.Counts.{HasTooManyLeaves}
use Rattle.leaf_rules.specs.KindEdges.{IsInStructureCycle}
use Rattle.text_graphs.specs.Places.{IsLeastOf}
use Rattle.template_check.proofs.Passing.{none_found, some_found}
use Rattle.template_check.proofs.judging.first_of_structures.Goals as goal

pub returns-in-Some-clause-first : goal.returns-in-Some-clause-first
returns-in-Some-clause-first c =
    let p = c.in-Some.place in
    let least = subst (λ (ss : List StructDef). IsLeastOf (IsInStructureCycle ss) c.in_ok-place.field-0) c.requires c.in_ok-place.ensures.least in
    let h = some_found _ c.in_ok-place.field-0 p c.in-Some.is least in
    inl (p, refl, h.0, h.1)

pub returns-in-Some-too_many_leaves-clause-first : goal.returns-in-Some-too_many_leaves-clause-first
returns-in-Some-too_many_leaves-clause-first c =
    let p = c.in-Some-too_many_leaves.place in
    let least = subst (λ (ss : List StructDef). IsLeastOf (IsInStructureCycle ss) c.in_ok-place.field-0) c.requires c.in_ok-place.ensures.least in
    let none = none_found _ c.in_ok-place.field-0 c.in_default.not-Some least in
    let h = subst (λ (ss : List StructDef). IsLeastOf (HasTooManyLeaves ss) (Some p)) (c.in_ok-place.ensures.kept ∙ c.requires) c.in-Some-too_many_leaves.ensures in
    inr (none, inl (p, refl, h.0, h.1))

pub returns-in-None-clause-first : goal.returns-in-None-clause-first
returns-in-None-clause-first c =
    let least = subst (λ (ss : List StructDef). IsLeastOf (IsInStructureCycle ss) c.in_ok-place.field-0) c.requires c.in_ok-place.ensures.least in
    let none = none_found _ c.in_ok-place.field-0 c.in_default.not-Some least in
    let none' = subst (λ (ss : List StructDef). IsLeastOf (HasTooManyLeaves ss) None) (c.in_ok-place.ensures.kept ∙ c.requires) c.in-None.ensures in
    inr (none, inr (none', refl))
