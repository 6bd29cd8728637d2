use Rattle.std.proofs.Common.{Some, None, refl, inl, inr}
use Rattle.leaf_rules.specs.Leaves.{table_leaves}
use Rattle.leaf_rules.specs.StructureLeaves.{leaves_in}
use Rattle.process_rules.specs.Callees.{NamesNoProcess, NamesNone}
use Rattle.process_rules.specs.Calling.{callee_meant}
use Rattle.text_graphs.specs.Texts.{processes_in, structures_in}
use Rattle.template_check.proofs.Fitting.{misfits_found}
use Rattle.template_check.proofs.InText.{in_text}
use Rattle.template_check.proofs.Passing.{none_found, none_is, some_found}
use Rattle.template_check.proofs.judging.first_of_callees.Goals as goal

pub returns-in-Some-clause-first : goal.returns-in-Some-clause-first
returns-in-Some-clause-first c =
    let items = c.args.tree.now.items in
    let p = c.in-Some.place in
    let h = in_text items c.args.scopes.now c.requires.graphs (NamesNoProcess c.args.known.now.catalog.now.library (processes_in items)) (Some p) (c.in-Some.ensures.named (processes_in items) c.requires.knowing) in
    inl (p, refl, h.0, h.1)

pub returns-in-Some-2-clause-first : goal.returns-in-Some-2-clause-first
returns-in-Some-2-clause-first c =
    let items = c.args.tree.now.items in
    let library = c.args.known.now.catalog.now.library in
    let none =
    in_text items c.args.scopes.now c.requires.graphs (NamesNoProcess library (processes_in items)) None
    (none_found _ c.unknown_processes.result c.in_default.not-Some (c.unknown_processes.ensures.named (processes_in items) c.requires.knowing)) in
    let p = c.in-Some-2.place in
    let h =
    misfits_found items c.args.scopes.now c.requires.graphs (leaves_in (structures_in items)) (table_leaves c.args.table.now) c.requires.leaves library (Some p)
    (some_found _ c.in_ok-place.field-0 p c.in-Some-2.is (c.in_ok-place.ensures (processes_in items) c.requires.knowing)) in
    inr (none, inl (p, refl, h.0, h.1))

pub returns-in-None-clause-first : goal.returns-in-None-clause-first
returns-in-None-clause-first c =
    let items = c.args.tree.now.items in
    let library = c.args.known.now.catalog.now.library in
    let none =
    in_text items c.args.scopes.now c.requires.graphs (NamesNoProcess library (processes_in items)) None
    (none_found _ c.unknown_processes.result c.in_default.not-Some (c.unknown_processes.ensures.named (processes_in items) c.requires.knowing)) in
    let none' =
    misfits_found items c.args.scopes.now c.requires.graphs (leaves_in (structures_in items)) (table_leaves c.args.table.now) c.requires.leaves library None
    (none_is _ c.in_ok-place.field-0 c.in-None.is (c.in_ok-place.ensures (processes_in items) c.requires.knowing)) in
    inr (none, inr (none', refl))

pub returns-in-None-clause-called : goal.returns-in-None-clause-called
returns-in-None-clause-called c = λ none.
    in_text c.args.tree.now.items c.args.scopes.now c.requires.graphs (NamesNone (callee_meant c.args.known.now)) None
    (none_found _ c.unknown_processes.result c.in_default.not-Some c.unknown_processes.ensures.known)
