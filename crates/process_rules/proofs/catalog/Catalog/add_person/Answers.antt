use Rattle.std.proofs.Common.{◌∙◌, Some}
use Rattle.std.specs.HashMap as hash
use Rattle.std.specs.Str.{bytes_eq}
use Rattle.process_rules.proofs.Indexing.{pushed, still_indexed, went_well}
use Rattle.process_rules.proofs.catalog.Catalog.add_person.Goals as goal

pub invariant_of-self-2-clause-people_indexed : goal.invariant_of-self-2-clause-people_indexed
invariant_of-self-2-clause-people_indexed c =
    let s = c.args.self.now in
    let kept = still_indexed (λ q. q.name) s.library.people s.people c.reserve.new.self s.people_indexed c.reserve.ensures.entries in
    let updates = went_well c.insert.result
    (hash.UpdatesBy (λ x y. bytes_eq x.items y.items) (λ k. bytes_eq c.in_ok-name.name.items k.items) c.reserve.new.self c.insert.new.self (Some c.in_ok-place.place))
    (c.insert.ensures.succeeds c.in_ok-reserve.ensures.ok) c.insert.ensures.updates in
    let added = pushed (λ q. q.name) s.library.people c.args.person c.in_ok-name.name.items c.in_ok-place.place c.reserve.new.self c.insert.new.self kept
    (c.in_ok-name.ensures.items ∙ c.as_slice.ensures) (c.in_ok-place.ensures ∙ c.len.ensures) updates in
    rw c.in_ok-push.ensures.ok added
