use Rattle.template_store.proofs.store.add.Goals as goal

pub add_processes-requires-clause-containers : goal.add_processes-requires-clause-containers
add_processes-requires-clause-containers c = rw c.as_slice.ensures c.requires.containers
