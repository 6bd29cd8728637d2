use Rattle.template_store.proofs.store.add_processes.Goals as goal

pub add_templates-requires : goal.add_templates-requires
add_templates-requires c = rw (c.into_vec.ensures, c.in_ok-add_classes.ensures.added) c.requires.containers
