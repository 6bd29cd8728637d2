use Rattle.std.proofs.Common.{ap, map, sym, subst, List}
use Rattle.std.proofs.lemmas.List.{take_all}
use Rattle.std.specs.List.{filter_map}
use Rattle.flow_model.specs.declared.trees.ItemTree.{ItemTree}
use Rattle.flow_model.specs.declared.trees.PersonTree.{PersonTree}
use Rattle.text_graphs.specs.Places.{IsLeastOf, PairAt}
use Rattle.text_graphs.specs.Meeting.{IsAgainAt}
use Rattle.text_graphs.specs.Texts.{person_of}
use Rattle.text_graphs.proofs.Meetings.{names_past, names_next}
use Rattle.name_rules.proofs.names.second_person.Goals as goal
use Rattle.name_rules.proofs.names.second_person.Goals.{in-Person+in_ok-meet-in-Person, in-Structure, in-Process}

pub loop-item-preserved : goal.loop-item-preserved
loop-item-preserved c =
    let items = c.args.items.now in
    let i = c.loop-item.item-index in
    let x = c.item-item.result in
    let less = c.loop-item-test.true in
    let is = c.item-item.is in
    elim c.match-item.branch [
      | in-Person+in_ok-meet-in-Person w ↦ rw w.people-is (names_next person_of (λ (s : PersonTree). s.name) items i x less is w.meet.new.self w.in-Person.person (ap person_of w.in-Person.is) (w.in_ok-meet-in-Person.ensures _ c.loop-item.invariant))
      | in-Structure w ↦ rw w.people-is (names_past person_of (λ (s : PersonTree). s.name) items i x less is c.loop-item.people (ap person_of w.in-Structure.is) c.loop-item.invariant)
      | in-Process w ↦ rw w.people-is (names_past person_of (λ (s : PersonTree). s.name) items i x less is c.loop-item.people (ap person_of w.in-Process.is) c.loop-item.invariant)
    ]

pub returns : goal.returns
returns c =
    let whole = ap (λ (xs : List ItemTree). map (λ (s : PersonTree). s.name) (filter_map person_of xs)) (take_all c.loop-item.item-index c.args.items.now c.loop-item-test.false) in
    subst (IsLeastOf (PairAt IsAgainAt (map (λ (s : PersonTree). s.name) (filter_map person_of c.args.items.now)))) (sym c.first.ensures) (subst (λ ns. IsLeastOf (PairAt IsAgainAt ns) c.loop-item.people.first) whole c.loop-item.invariant.least)
