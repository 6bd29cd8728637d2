use Rattle.flow_core.proofs.state.Root.change_hold.Goals as goal

pub returns-clause-held : goal.returns-clause-held
returns-clause-held c = record {
  kept = c.change_hold-take.ensures.kept;
  shows = c.change_hold-take.ensures.shows;
  sets = λ g is. (c.change_hold-take.result, c.change_hold-take.ensures.sets g is);
}
