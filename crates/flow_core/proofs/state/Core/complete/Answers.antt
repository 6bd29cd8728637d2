use Rattle.std.proofs.Common.{option_map, ap, sym, ◌∙◌}
use Rattle.flow_core.specs.Driving.{item_of}
use Rattle.flow_core.proofs.Shelved.{completion_shelves, completes_shelves}
use Rattle.flow_core.proofs.state.Core.complete.Goals as goal

pub returns-clause-shelves : goal.returns-clause-shelves
returns-clause-shelves c =
    let before = c.args.self.now in
    completes_shelves before c.follow.new.self c.args.item.now c.args.performer c.args.settings.now c.in-Some.output (item_of before c.args.item.now) (ap (option_map (λ o. o.0)) (sym c.in-Some.is) ∙ c.in_ok-output.ensures.output)
    (completion_shelves before c.unlist_item.new.self c.complete_in_root.new.self c.follow.new.self c.args.item.now _ c.in_ok-messages.ready.items c.in_ok-unlist_item.ensures.rest c.in_ok-unlist_item.ensures.shelves
    c.in_ok-messages.ensures.rest c.in_ok-follow.ensures.rest c.in_ok-messages.ensures.ready c.in_ok-follow.ensures.shelves)
