use Rattle.text_laws.proofs.Graphs.{process_means_one}
use Rattle.text_laws.proofs.meanings.graphs_are_one.Goals as goal

pub returns : goal.returns
returns c = process_means_one
