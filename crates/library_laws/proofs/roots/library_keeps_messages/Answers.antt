use Rattle.library_laws.proofs.SameDue.{messages_kept}
use Rattle.library_laws.proofs.roots.library_keeps_messages.Goals as goal

pub returns : goal.returns
returns c = λ ts' r q agrees served. messages_kept ts' r q agrees served
