use Rattle.std.proofs.Common.{◌∙◌, Some}
use Rattle.std.specs.HashMap as hash
use Rattle.std.specs.Str.{bytes_eq}
use Rattle.process_rules.proofs.Classed.{kept_behind, kept_for, same_classed}
use Rattle.process_rules.proofs.Indexing.{pushed, still_indexed, went_well}
use Rattle.process_rules.proofs.catalog.Catalog.add_template.Goals as goal

pub invariant_of-self-in-Break-branch-4 : goal.invariant_of-self-in-Break-branch-4
invariant_of-self-in-Break-branch-4 c =
    let s = c.args.self.now in
    record {
      few = s.few;
      templates_indexed = still_indexed (λ t. t.name) s.library.templates s.templates c.reserve.new.self s.templates_indexed c.reserve.ensures.entries;
      people_indexed = s.people_indexed;
      classed = same_classed s.classes.classes s.library.templates s.containers c.insert.new.self s.classed c.in_err-insert.ensures.err;
    }

pub invariant_of-self-in-Break-branch-5 : goal.invariant_of-self-in-Break-branch-5
invariant_of-self-in-Break-branch-5 c =
    let s = c.args.self.now in
    let behind = c.in_ok-place.ensures ∙ c.len.ensures in
    let kept = still_indexed (λ t. t.name) s.library.templates s.templates c.reserve.new.self s.templates_indexed c.reserve.ensures.entries in
    let known = kept_behind s.classes.classes s.library.templates c.args.template c.args.containers c.in_ok-place.place s.containers c.insert.new.self s.classed behind c.in_ok-insert.ensures.updates in
    record {
      few = rw c.in_err-push.ensures.err s.few;
      templates_indexed = rw c.in_err-push.ensures.err kept;
      people_indexed = s.people_indexed;
      classed = rw c.in_err-push.ensures.err known;
    }

pub invariant_of-self-2-clause-templates_indexed : goal.invariant_of-self-2-clause-templates_indexed
invariant_of-self-2-clause-templates_indexed c =
    let s = c.args.self.now in
    let kept = still_indexed (λ t. t.name) s.library.templates s.templates c.reserve.new.self s.templates_indexed c.reserve.ensures.entries in
    let updates = went_well c.insert-2.result
    (hash.UpdatesBy (λ x y. bytes_eq x.items y.items) (λ k. bytes_eq c.in_ok-name.name.items k.items) c.reserve.new.self c.insert-2.new.self (Some c.in_ok-place.place))
    (c.insert-2.ensures.succeeds c.in_ok-reserve.ensures.ok) c.insert-2.ensures.updates in
    let added = pushed (λ t. t.name) s.library.templates c.args.template c.in_ok-name.name.items c.in_ok-place.place c.reserve.new.self c.insert-2.new.self kept
    (c.in_ok-name.ensures.items ∙ c.as_slice.ensures) (c.in_ok-place.ensures ∙ c.len.ensures) updates in
    rw c.in_ok-push.ensures.ok added

pub invariant_of-self-2-clause-classed : goal.invariant_of-self-2-clause-classed
invariant_of-self-2-clause-classed c =
    let s = c.args.self.now in
    let behind = c.in_ok-place.ensures ∙ c.len.ensures in
    let known = kept_for s.classes.classes s.library.templates c.args.template c.args.containers c.in_ok-place.place s.containers c.insert.new.self s.classed behind c.in_ok-insert.ensures.updates c.requires in
    rw c.in_ok-push.ensures.ok known
