use Rattle.std.proofs.Common.{ap, ◌∙◌, sym}
use Rattle.std.specs.List.{list_all}
use Rattle.blocks_subprocs.specs.Ends.{ends_of}
use Rattle.flow_model.specs.ScopeContainers.{same_end}
use Rattle.flow_model.specs.Scopes.{is_ready_source}
use Rattle.flow_model.specs.declared.graphs.DataLine.{DataLine}
use Rattle.flow_model.specs.declared.graphs.Graph.{out-Graph}
use Rattle.flow_model.specs.declared.graphs.MapEnd.TheVariants.{Activity as At}
use Rattle.flow_model.specs.Wiring.{row_at, at_places}
use Rattle.dead_paths.proofs.Places.{at_places_are}
use Rattle.fate_eval.proofs.Rows.{all_at, fed_by_lines}
use Rattle.fate_eval.proofs.scopes.is_fed.Goals as goal

pub returns : goal.returns
returns c = λ feeding.
    let lines = (out-Graph c.args.graph.now).lines in
    let e = ends_of c.args.ends.now in
    let f = λ (l : DataLine). is_ready_source l.from e in
    let named = c.row-places.ensures ∙ ap (λ rows. row_at rows c.args.place) c.as_slice.ensures ∙ feeding c.args.place in
    c.are_ready_lines.ensures
    ∙ rw c.as_slice-2.ensures (all_at f lines _)
    ∙ ap (λ ps. list_all f (at_places lines ps)) named
    ∙ ap (list_all f) (at_places_are (λ l. same_end l.to (At c.args.place)) lines)
    ∙ sym (fed_by_lines lines c.args.place e)
