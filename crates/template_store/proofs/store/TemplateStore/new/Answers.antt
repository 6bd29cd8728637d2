use Rattle.template_check.proofs.Calling.{sound_none}
use Rattle.template_store.proofs.store.TemplateStore.new.Goals as goal

pub returns-clause-sound : goal.returns-clause-sound
returns-clause-sound c = rw c.new.ensures (sound_none 0)
