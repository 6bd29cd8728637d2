use Rattle.text_laws.proofs.Trees.{tree_one}
use Rattle.text_laws.proofs.judgements.texts_have_one_tree.Goals as goal

pub returns : goal.returns
returns c = tree_one
