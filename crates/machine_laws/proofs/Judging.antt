-- A text is judged in one way: it breaks one rule first, at one place, or none.
use Rattle.std.proofs.Common.{◌≡◌, ℕ, List, Option, Some, None, refl, sym, ap, ap₂, ◌∙◌}
use Rattle.flow_core.specs.declared.refusals.Refusal.{Refusal}
use Rattle.flow_core.specs.declared.refusals.Refusal.TheVariants as refused
use Rattle.machine.specs.States.{State}
use Rattle.machine.specs.Verdicts.{IsRuleOf}
use Rattle.template_check.specs.Judged.{line_at}
use Rattle.text_laws.proofs.Judged.{refused_one, refused_faultless}

-- the refusal by a rule at a place
abbrev by_rule : List ℕ → ℕ → ℕ → Refusal
by_rule text rule place = refused.Rule rule (line_at text place)

pub rule_one : (c : State) (text : List ℕ) (r r' : Option Refusal) → IsRuleOf c text r → IsRuleOf c text r' → r ≡ r'
rule_one c text None None a b = refl
rule_one c text None (Some r) a b = absurd (refused_faultless c.library text b.0 b.1 b.2 a)
rule_one c text (Some r) None a b = absurd (refused_faultless c.library text a.0 a.1 a.2 b)
rule_one c text (Some r) (Some r') a b =
    let one = refused_one c.library text a.0 a.1 b.0 b.1 a.2 b.2 in
    ap Some (a.3 ∙ ap₂ (by_rule text) one.0 one.1 ∙ sym b.3)
