use Rattle.std.proofs.Common.{rules, refl, ap, ◌∙◌, ◌∷◌, []}
use Rattle.std.specs.Option.{option_map_or, option_or}
use Rattle.fate_eval.specs.Entries.{dated_in}
use Rattle.fate_eval.proofs.Groups.{run_added}
use Rattle.fate_eval.proofs.accepted.add_run.Goals as goal

pub returns-in-Some : goal.returns-in-Some
returns-in-Some c = λ all.
    run_added c.args.groups.now (c.get_mut.follows.lender c.extend.new.group) c.as_slice.result.now c.args.part.now.attempt c.extend.new.group c.args.part.now c.args.run.now c.as_slice.ensures refl all
    (λ p. c.in_ok-extend.ensures c.args.part.now all p ∙ ap (λ o. option_or (dated_in (option_map_or (λ group. group.items) o []) p) (dated_in c.args.run.now (c.args.part.now ∷ p))) c.in-Some.ensures.value)
    ((c.get_mut.follows.holds c.extend.new.group).3 (search rules))

pub returns : goal.returns
returns c = λ all.
    run_added c.args.groups.now c.insert.new.self c.as_slice.result.now c.args.part.now.attempt c.extend-2.new.group c.args.part.now c.args.run.now c.as_slice.ensures refl all
    (λ p. c.in_ok-extend-2.ensures c.args.part.now all p ∙ ap (λ xs. option_or (dated_in xs p) (dated_in c.args.run.now (c.args.part.now ∷ p))) c.in_ok-group.ensures.items
    ∙ ap (λ o. option_or (dated_in (option_map_or (λ group. group.items) o []) p) (dated_in c.args.run.now (c.args.part.now ∷ p))) c.in_default.ensures.value)
    (rw c.get_mut.follows.holds-at-none at c.in_ok-insert.ensures.updates)
