use Rattle.graph_check.proofs.Groups.{release_first, release_next, release_inside, released_none}
use Rattle.std.proofs.Common.{◌∙◌, sym}
use Rattle.graph_check.proofs.strong.Grouping.release.Goals as goal

pub set_mark-requires : goal.set_mark-requires
set_mark-requires c = release_first c.loop-self.self c.pop_held.new.self c.in-Some.node c.loop-self.invariant.inside c.in-Some.ensures.found c.pop_held.ensures.after

pub loop-self-preserved-in-Some : goal.loop-self-preserved-in-Some
loop-self-preserved-in-Some c = record {
  same = release_next c.loop-self.self c.pop_held.new.self c.set_mark.new.self c.args.place c.in-Some.node c.loop-self-test.ensures c.in-Some.ensures.found c.pop_held.ensures.after c.set_mark.ensures
      ∙ c.loop-self.invariant.same;
  inside = release_inside c.loop-self.self c.pop_held.new.self c.set_mark.new.self c.args.place c.in-Some.node c.loop-self.invariant.inside c.pop_held.ensures.after c.set_mark.ensures;
}

pub returns : goal.returns
returns c = sym (released_none c.loop-self.self c.args.place c.loop-self-test.ensures) ∙ c.loop-self.invariant.same
