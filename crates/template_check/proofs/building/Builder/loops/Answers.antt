use Rattle.std.proofs.Common.{◌<◌, Option, length, arith, subst}
use Rattle.std.proofs.lemmas.List.Elements.{All-push}
use Rattle.flow_model.specs.declared.graphs.LoopLine.{LoopLine}
use Rattle.text_graphs.specs.GraphTexts.{text_of}
use Rattle.leaf_rules.specs.Leaves.{table_leaves}
use Rattle.template_check.specs.Found.{IsLineFound}
use Rattle.template_check.specs.Meant.{NoneLeft, IsLoopLine}
use Rattle.text_graphs.specs.Texts.{activities_in, lines_in}
use Rattle.text_graphs.proofs.Judging.{read_behind}
use Rattle.template_check.proofs.Meaning.{parts_next, parts_past, parts_all, seen_more, seen_all}
use Rattle.template_check.proofs.building.Builder.loops.Goals as goal
use Rattle.template_check.proofs.building.Builder.loops.Goals.{in-None, in-Some+in_ok-push-in-Some}

pub loop_line-requires : goal.loop_line-requires
loop_line-requires c =
    let scope = c.args.scope.now in
    let less = rw c.deref-line-items.ensures.value at c.loop-line-test.true in
    let is = rw c.deref-line-items.ensures.value at c.line-item.is in
    read_behind (IsLineFound (table_leaves c.args.self.now.table) (text_of scope)) scope.lines.items (lines_in scope.elements.now) c.loop-line.line-index c.line-item.result scope.with_lines c.requires less is

pub loop-line-init : goal.loop-line-init
loop-line-init c = rw c.new-loops.ensures (record { within = λ k d less. absurd (omega (arith, less)); meant = NoneLeft })

pub loop-line-preserved : goal.loop-line-preserved
loop-line-preserved c =
    let P = λ (l : LoopLine). l.activity < length (activities_in c.args.scope.now.elements.now) in
    let R = IsLoopLine (table_leaves c.args.self.now.table) (text_of c.args.scope.now) in
    let items = c.args.scope.now.lines.items in
    let x = c.line-item.result in
    let less = rw c.deref-line-items.ensures.value at c.loop-line-test.true in
    let is = rw c.deref-line-items.ensures.value at c.line-item.is in
    let more = seen_more items c.loop-line.line-index x less is in
    let so_far = c.loop-line.invariant in
    let meant = c.in_ok-loop_line.ensures.meant in
    elim c.match-branch-2.branch [
      | in-None w ↦
          let here = subst (λ (o : Option LoopLine). R x.now o) w.in-None.is meant in
          rw w.loops-is (record { within = so_far.within; meant = parts_past R _ _ x.now c.loop-line.loops more here so_far.meant })
      | in-Some+in_ok-push-in-Some w ↦
          let within = rw w.in-Some.is at c.in_ok-loop_line.ensures.within in
          let here = subst (λ (o : Option LoopLine). R x.now o) w.in-Some.is meant in
          rw w.loops-is (record {
            within = rw w.in_ok-push-in-Some.ensures.ok (All-push P c.loop-line.loops w.in-Some.line so_far.within within);
            meant = parts_next R _ _ x.now c.loop-line.loops w.push.new.self w.in-Some.line more w.in_ok-push-in-Some.ensures.ok here so_far.meant;
          })
    ]

pub returns-clause-meant : goal.returns-clause-meant
returns-clause-meant c =
    let scope = c.args.scope.now in
    let past = rw c.deref-line-items.ensures.value at c.loop-line-test.false in
    parts_all (IsLoopLine (table_leaves c.args.self.now.table) (text_of scope)) _ (lines_in scope.elements.now) c.loop-line.loops (seen_all scope.lines.items c.loop-line.line-index (lines_in scope.elements.now) past scope.with_lines) c.loop-line.invariant.meant
