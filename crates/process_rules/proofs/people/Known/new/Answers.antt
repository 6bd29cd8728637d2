use Rattle.std.proofs.Common.{List, sym, subst, take}
use Rattle.flow_model.specs.declared.trees.PersonTree.{PersonTree}
use Rattle.flow_model.specs.declared.trees.ProcessTree.{ProcessTree}
use Rattle.process_rules.specs.Knowing.{IsKnowing, ArePeople}
use Rattle.text_graphs.specs.Texts.{process_of, processes_in, person_of, people_in}
use Rattle.text_graphs.proofs.Sorting.{one_more}
use Rattle.process_rules.proofs.people.Known.new.Goals as goal

pub loop-item-preserved : goal.loop-item-preserved
loop-item-preserved c =
    let items = c.as_slice-item-items.result.now in
    let i = c.loop-item.item-index in
    let so_far = c.loop-item.invariant in
    record {
      catalog = rw c.in_ok-add.ensures.catalog so_far.catalog;
      knowing = subst (λ (ps : List ProcessTree). IsKnowing c.add.new.self ps) (sym (one_more process_of items i c.item-item.result c.loop-item-test.true c.item-item.is))
          (c.in_ok-add.ensures.knowing (processes_in (take i items)) so_far.knowing);
      people = subst (λ (ps : List PersonTree). ArePeople c.add.new.self ps) (sym (one_more person_of items i c.item-item.result c.loop-item-test.true c.item-item.is))
          (c.in_ok-add.ensures.people (people_in (take i items)) so_far.people);
    }
