use Rattle.std.proofs.Common.{List, ◌∙◌, subst}
use Rattle.navigator.specs.Items.{stand}
use Rattle.navigator.specs.Views.{Shows}
use Rattle.root_laws.proofs.OpenItems.{open_awaited}
use Rattle.root_laws.proofs.said.open_items_are_awaited.Goals as goal
use Rattle.view_laws.proofs.WholeRuns.{running_is}
use Rattle.view_laws.specs.Runs.{Event, seen}

pub returns : goal.returns
returns c = λ ts q h queued input i item e right lives found goes.
    open_awaited ts item.parts right.depth (seen h) input (stand right.graph i.scope) e
    (subst (λ (a : List Event). Shows ts right.depth (seen a) right.graph input i.scope) (running_is h (right.stopped ∙ lives)) right.shows)
    goes found
