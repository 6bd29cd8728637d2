use Rattle.std.proofs.Common.{sym, ◌∙◌}
use Rattle.std.specs.Cmp.Lexicographic.{bytes_decides}
use Rattle.std.proofs.lemmas.Bool.{eqb-true}
use Rattle.fate_eval.proofs.Groups.{led_by, whole}
use Rattle.fate_eval.proofs.accepted.leads_to.Goals as goal

pub returns-then-eq : goal.returns-then-eq
returns-then-eq c = λ number.
    let name = sym c.as_slice.ensures ∙ (bytes_decides c.as_slice.result.now c.as_slice-in-len1-up.result.now).0 (sym c.eq.ensures ∙ c.if-eq.true) ∙ c.as_slice-in-len1-up.ensures in
    led_by c.args.entry.now c.first-item.result c.args.part.now (whole c.args.entry.now.parts.now c.first-item.result c.in-len1-up.len_at_least c.first-item.is) name
    (eqb-true c.first-item.result.attempt c.args.part.now.attempt number)
