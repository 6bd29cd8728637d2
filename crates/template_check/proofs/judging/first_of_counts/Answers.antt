use Rattle.std.proofs.Common.{Some, None, refl, sym, inl, inr, ◌∙◌}
use Rattle.leaf_rules.specs.Structures.{behind}
use Rattle.text_graphs.specs.Texts.{processes_in}
use Rattle.template_check.proofs.Passing.{numbers_found, extra_found, is_none}
use Rattle.template_check.proofs.judging.first_of_counts.Goals as goal

pub returns-in-Some-clause-first : goal.returns-in-Some-clause-first
returns-in-Some-clause-first c =
    let p = c.in-Some.place in
    let h =
    numbers_found c.args.tree.now.items c.args.scopes.now c.requires.graphs (behind c.args.structures.now.definitions.items) c.count_fault.result c.in_ok-graph_numbers.field-0 (Some p)
    c.requires.structures c.count_fault.ensures c.in_ok-graph_numbers.ensures c.in-Some.ensures.least in
    inl (p, refl, h.0, h.1)

pub returns-in-Some-count_limit-clause-first : goal.returns-in-Some-count_limit-clause-first
returns-in-Some-count_limit-clause-first c =
    let items = c.args.tree.now.items in
    let none =
    numbers_found items c.args.scopes.now c.requires.graphs (behind c.args.structures.now.definitions.items) c.count_fault.result c.in_ok-graph_numbers.field-0 None
    c.requires.structures c.count_fault.ensures c.in_ok-graph_numbers.ensures (sym (is_none c.lesser.result c.in_default.not-Some) ∙ c.lesser.ensures.least) in
    let p = c.in-Some-count_limit.place in
    let h = extra_found items c.args.scopes.now c.requires.graphs (Some p) (c.in-Some-count_limit.ensures.found (processes_in items) c.requires.knowing) in
    inr (none, inl (p, refl, h.0, h.1))

pub returns-in-None-clause-first : goal.returns-in-None-clause-first
returns-in-None-clause-first c =
    let items = c.args.tree.now.items in
    let none =
    numbers_found items c.args.scopes.now c.requires.graphs (behind c.args.structures.now.definitions.items) c.count_fault.result c.in_ok-graph_numbers.field-0 None
    c.requires.structures c.count_fault.ensures c.in_ok-graph_numbers.ensures (sym (is_none c.lesser.result c.in_default.not-Some) ∙ c.lesser.ensures.least) in
    inr (none, inr (extra_found items c.args.scopes.now c.requires.graphs None (c.in-None.ensures.found (processes_in items) c.requires.knowing), refl))
