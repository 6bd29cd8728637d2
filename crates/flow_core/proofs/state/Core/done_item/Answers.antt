use Rattle.flow_core.proofs.state.Core.done_item.Goals as goal

pub returns-clause-opened : goal.returns-clause-opened
returns-clause-opened c = c.in_ok-may_complete.ensures.opened c.args.found.path c.requires
