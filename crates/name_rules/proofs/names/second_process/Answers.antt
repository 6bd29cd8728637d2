use Rattle.std.proofs.Common.{ap, map, sym, subst, List}
use Rattle.std.proofs.lemmas.List.{take_all}
use Rattle.std.specs.List.{filter_map}
use Rattle.flow_model.specs.declared.trees.ItemTree.{ItemTree}
use Rattle.flow_model.specs.declared.trees.ProcessTree.{ProcessTree}
use Rattle.text_graphs.specs.Places.{IsLeastOf, PairAt}
use Rattle.text_graphs.specs.Meeting.{IsAgainAt}
use Rattle.text_graphs.specs.Texts.{process_of}
use Rattle.text_graphs.proofs.Meetings.{names_past, names_next}
use Rattle.name_rules.proofs.names.second_process.Goals as goal
use Rattle.name_rules.proofs.names.second_process.Goals.{in-Process+in_ok-meet-in-Process, in-Structure, in-Person}

pub loop-item-preserved : goal.loop-item-preserved
loop-item-preserved c =
    let items = c.args.items.now in
    let i = c.loop-item.item-index in
    let x = c.item-item.result in
    let less = c.loop-item-test.true in
    let is = c.item-item.is in
    elim c.match-item.branch [
      | in-Process+in_ok-meet-in-Process w ↦ rw w.processes-is (names_next process_of (λ (s : ProcessTree). s.name) items i x less is w.meet.new.self w.in-Process.process (ap process_of w.in-Process.is) (w.in_ok-meet-in-Process.ensures _ c.loop-item.invariant))
      | in-Structure w ↦ rw w.processes-is (names_past process_of (λ (s : ProcessTree). s.name) items i x less is c.loop-item.processes (ap process_of w.in-Structure.is) c.loop-item.invariant)
      | in-Person w ↦ rw w.processes-is (names_past process_of (λ (s : ProcessTree). s.name) items i x less is c.loop-item.processes (ap process_of w.in-Person.is) c.loop-item.invariant)
    ]

pub returns : goal.returns
returns c =
    let whole = ap (λ (xs : List ItemTree). map (λ (s : ProcessTree). s.name) (filter_map process_of xs)) (take_all c.loop-item.item-index c.args.items.now c.loop-item-test.false) in
    subst (IsLeastOf (PairAt IsAgainAt (map (λ (s : ProcessTree). s.name) (filter_map process_of c.args.items.now)))) (sym c.first.ensures) (subst (λ ns. IsLeastOf (PairAt IsAgainAt ns) c.loop-item.processes.first) whole c.loop-item.invariant.least)
