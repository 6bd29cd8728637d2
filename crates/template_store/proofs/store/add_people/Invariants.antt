use Rattle.std.proofs.Common.{◌≡◌, ◌++◌}
use Rattle.template_store.proofs.store.add_people.Given as goal

abbrev pub invariant-loop-person : goal.invariant-loop-person
invariant-loop-person l = l.catalog.library ≡ record { templates = l.initial.catalog.library.templates; people = l.initial.catalog.library.people ++ l.yielded }
