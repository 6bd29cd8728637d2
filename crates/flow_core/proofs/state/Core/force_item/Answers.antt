use Rattle.flow_core.proofs.state.Core.force_item.Goals as goal

pub returns-clause-opened : goal.returns-clause-opened
returns-clause-opened c = c.in_ok-may_force.ensures.opened c.args.found.path c.requires
