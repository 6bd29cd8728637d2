use Rattle.root_laws.proofs.GoesOn.{imports_right}
use Rattle.root_laws.proofs.right.imports_right.Goals as goal

pub returns : goal.returns
returns c = λ ts ts' q h queued input i agrees right. imports_right ts ts' q h queued input i agrees right
