use Rattle.std.proofs.Common.{List, drop, subst, take}
use Rattle.std.specs.List.{All}
use Rattle.std.proofs.lemmas.List.{take_rest}
use Rattle.fate_eval.specs.Grouped.{LeadsBelow}
use Rattle.fate_eval.specs.declared.accepted.Entry.{Entry}
use Rattle.fate_eval.proofs.Groups.{all_led, whole}
use Rattle.fate_eval.proofs.accepted.add_front.Goals as goal

pub returns-in_ok-add_run-in-len1-up-parts-clause-added : goal.returns-in_ok-add_run-in-len1-up-parts-clause-added
returns-in_ok-add_run-in-len1-up-parts-clause-added c =
    let first = whole c.args.entries.now c.first-item.result c.in-len1-up.len_at_least c.first-item.is in
    let part = whole c.first-item.result.parts.now c.part-item.result c.in-len1-up-parts.len_at_least c.part-item.is in
    let behind = subst (λ (es : List Entry). All (LeadsBelow c.part-item.result) (take c.run_len-count.result es)) (take_rest c.args.entries.now 1) c.run_len-count.ensures.run in
    c.in_ok-add_run-in-len1-up-parts.ensures (all_led c.args.entries.now c.first-item.result c.part-item.result c.run_len-count.result first (drop 1 c.first-item.result.parts.now, part) behind)
