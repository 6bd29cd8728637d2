use Rattle.std.proofs.Common.{◌≡◌, take}
use Rattle.process_rules.specs.Knowing.{IsKnowing, ArePeople}
use Rattle.text_graphs.specs.Texts.{processes_in, people_in}
use Rattle.process_rules.proofs.people.Known.new.Given as goal

abbrev pub invariant-loop-item : goal.invariant-loop-item
invariant-loop-item l = record {
  catalog : l.known.catalog.now ≡ l.catalog;
  knowing : IsKnowing l.known (processes_in (take l.item-index l.item-items));
  people : ArePeople l.known (people_in (take l.item-index l.item-items));
}
