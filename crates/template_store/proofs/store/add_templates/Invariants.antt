use Rattle.std.proofs.Common.{◌≡◌, ◌++◌, drop}
use Rattle.std.specs.Iterator.Adapters.{enumerate_count, enumerate_source}
use Rattle.std.specs.Vec.Iter.{into_iter_items}
use Rattle.template_store.proofs.store.add_templates.Given as goal

abbrev pub invariant-loop-i : goal.invariant-loop-i
invariant-loop-i l = record {
  templates : l.catalog.library.templates ++ into_iter_items (enumerate_source l.i-iterator) ≡ l.initial.catalog.library.templates ++ l.fn.templates.items;
  people : l.catalog.library.people ≡ l.initial.catalog.library.people;
  left : drop (enumerate_count l.i-iterator) l.fn.templates.items ≡ into_iter_items (enumerate_source l.i-iterator);
  classes : l.catalog.classes ≡ l.initial.catalog.classes;
}
