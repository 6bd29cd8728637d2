use Rattle.std.proofs.Common.{◌≡◌, List, ◌++◌, suc, subst, sym, ◌∙◌, ap}
use Rattle.flow_model.specs.declared.graphs.Graph.{Graph}
use Rattle.flow_model.specs.declared.instances.FateRow.{FateRow}
use Rattle.flow_model.specs.declared.instances.Part.{Part}
use Rattle.flow_model.specs.declared.instances.Path.{Path}
use Rattle.navigator.specs.ViewRows.{view_rows}
use Rattle.navigator.specs.Views.{Shows}
use Rattle.navigator.proofs.instance.Instance.rows.Goals as goal

pub returns : goal.returns
returns c = λ g is depth k input shows.
    let ts = c.args.library.now.templates in
    let scope = c.args.self.now.scope in
    let known = c.in-Some.ensures in
    let same : c.in-Some.graph.now ≡ g = cc in
    let path : Path = record { root = c.args.self.now.root; parts = c.new.result } in
    let here = subst (λ (x : Graph). Shows ts depth k x input scope) (sym same) shows in
    let rows : List FateRow = view_rows ts depth k c.in-Some.graph.now input scope path in
    c.in_ok-add_rows.ensures (suc depth) k input here
    ∙ ap (λ (xs : List FateRow). xs ++ rows) c.new-rows.ensures
    ∙ ap (λ (x : Graph). view_rows ts depth k x input scope path) same
    ∙ ap (λ (ps : List Part). view_rows ts depth k g input scope (record { root = c.args.self.now.root; parts = ps })) c.new.ensures
