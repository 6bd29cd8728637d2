use Rattle.std.proofs.Common.{refl, inl, inr}
use Rattle.template_check.proofs.Passing.{none_found}
use Rattle.text_graphs.specs.Texts.{processes_in}
use Rattle.template_check.proofs.judging.first_of_sizes.Goals as goal

pub returns-in-Some : goal.returns-in-Some
returns-in-Some c =
    let p = c.in-Some.place in
    let h = c.in-Some.ensures (processes_in c.args.tree.now.items) c.requires.knowing c.requires.shapes in
    inl (p, refl, h.0, h.1)

pub returns-in-Some-large_processes : goal.returns-in-Some-large_processes
returns-in-Some-large_processes c =
    let processes = processes_in c.args.tree.now.items in
    let none = none_found _ c.deep_processes.result c.in_default.not-Some (c.deep_processes.ensures processes c.requires.knowing c.requires.shapes) in
    let p = c.in-Some-large_processes.place in
    let h = c.in-Some-large_processes.ensures processes c.requires.knowing c.requires.shapes in
    inr (none, inl (p, refl, h.0, h.1))

pub returns-in-None : goal.returns-in-None
returns-in-None c =
    let processes = processes_in c.args.tree.now.items in
    let none = none_found _ c.deep_processes.result c.in_default.not-Some (c.deep_processes.ensures processes c.requires.knowing c.requires.shapes) in
    inr (none, inr (c.in-None.ensures processes c.requires.knowing c.requires.shapes, refl))
