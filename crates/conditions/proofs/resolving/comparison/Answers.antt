use Rattle.std.proofs.Common.{sym, ◌∙◌, inl, inr}
use Rattle.conditions.specs.Resolving.{TextsOf}
use Rattle.conditions.proofs.Clear.{numbers_both}
use Rattle.conditions.proofs.resolving.comparison.Goals as goal

pub returns-in-None : goal.returns-in-None
returns-in-None c = λ few clear.
    let both = numbers_both c.args.leaves.now.leaves c.args.left.now c.args.right.now c.args.operator clear (inl (sym (c.in_ok-text_of.ensures few) ∙ c.in-None.is)) in
    c.numbers.ensures few both.0 both.1

pub returns-in-None-2 : goal.returns-in-None-2
returns-in-None-2 c = λ few clear.
    let both = numbers_both c.args.leaves.now.leaves c.args.left.now c.args.right.now c.args.operator clear (inr (sym (c.in_ok-text_of-in-Some.ensures few) ∙ c.in-None-2.is)) in
    c.numbers-in-None-2.ensures few both.0 both.1

pub returns-in-Some-2 : goal.returns-in-Some-2
returns-in-Some-2 c = λ few clear. TextsOf (sym (c.in_ok-text_of.ensures few) ∙ c.in-Some.is) (sym (c.in_ok-text_of-in-Some.ensures few) ∙ c.in-Some-2.is)
