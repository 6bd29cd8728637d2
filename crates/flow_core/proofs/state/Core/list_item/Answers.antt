use Rattle.std.proofs.Common.{◌≡◌, ◌∷◌, Some, option_map, option_copied, sym, ap, ◌∙◌}
use Rattle.flow_core.specs.Driving.{templates}
use Rattle.flow_core.specs.Shelving.{rank_now, rank_on, stands}
use Rattle.flow_core.proofs.Shelved.{listed_here}
use Rattle.flow_core.proofs.Written.{on_ok_so}
use Rattle.flow_core.proofs.state.Core.list_item.Goals as goal

pub returns-clause-shelves : goal.returns-clause-shelves
returns-clause-shelves c =
    let core = c.args.self.now in
    let path = c.args.item.now in
    let ranked : rank_now core path ≡ Some c.in_ok-rank.rank.items
    = ap (option_map (λ g. path.root ∷ rank_on (templates core) path.parts g)) (sym c.root_graph.ensures ∙ ap option_copied c.in-Some-root_graph.is)
    ∙ ap Some (sym (rw c.library.ensures at c.in_ok-rank.ensures)) in
    on_ok_so _ _ c.set.result
    (listed_here core path c.in-Some.line c.in_ok-rank.rank.items (stands (record core { worklists = c.set.new.self })) (sym c.in_ok-line.ensures ∙ c.in-Some.is) ranked)
    c.set.ensures.ok
