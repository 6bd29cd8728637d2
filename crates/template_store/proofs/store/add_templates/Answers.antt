use Rattle.std.proofs.Common.{◌≡◌, ℕ, zero, suc, Some, List, [], ◌∷◌, drop, ap, sym, subst, ◌∙◌}
use Rattle.std.specs.Prelude.{slice_get}
use Rattle.flow_model.specs.declared.graphs.Template.{Template}
use Rattle.template_store.proofs.store.add_templates.Goals as goal

-- the first template of those that are left behind a place stands at that place
first_left : (i : ℕ) (ts : List Template) (t : Template) (rest : List Template) → drop i ts ≡ t ∷ rest → slice_get ts i ≡ Some t
first_left zero ts t rest is = ap (λ (l : List Template). slice_get l 0) is
first_left (suc i) [] t rest is = ap (λ (l : List Template). slice_get l 0) is
first_left (suc i) (x ∷ ts) t rest is = first_left i ts t rest is

pub add_template-requires : goal.add_template-requires
add_template-requires c =
    let ts = c.args.templates.items in
    let step = c.in-Some.ensures.steps in
    let there = first_left _ ts c.in-Some.template _ (c.loop-i.invariant.left ∙ step.0.0) in
    let here = subst (λ (k : ℕ). slice_get ts k ≡ Some c.in-Some.template) (sym step.1) there in
    rw c.loop-i.invariant.classes (c.containers_at.ensures _ ts _ c.requires here)
