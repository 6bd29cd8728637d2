use Rattle.std.proofs.Common.{◌≡◌, ℕ, ◌+◌, List, ◌++◌, take, length, Some, None, sym, ap, subst, ◌∙◌, rules}
use Rattle.std.proofs.lemmas.List.{take_all}
use Rattle.flow_model.specs.declared.trees.ItemTree.{ItemTree}
use Rattle.flow_model.specs.declared.trees.ProcessTree.{ProcessTree}
use Rattle.leaf_rules.specs.TableClasses.{table_classes}
use Rattle.leaf_rules.specs.declared.leaf_classes.LeafClass.{LeafClass}
use Rattle.template_check.specs.Built.{IsSound}
use Rattle.template_check.specs.Classed.{HaveClasses}
use Rattle.template_check.specs.Compiling.{declared_people, process_names, template_names}
use Rattle.process_rules.specs.Calling.{IsCalling}
use Rattle.process_rules.specs.declared.sizes.Shape.{Shape}
use Rattle.template_check.specs.Meant.{AreMeantFrom, reading_of}
use Rattle.template_check.specs.Numbered.{HasToldShape}
use Rattle.text_graphs.specs.Texts.{person_of, process_of, processes_in}
use Rattle.template_check.proofs.Classing.{classes_next, has_classes, one_longer}
use Rattle.template_check.proofs.Meaning.{kind_next, kind_past, meant_next}
use Rattle.template_check.proofs.Performers.{all_performed}
use Rattle.template_check.proofs.Calling.{alone_push, ordered_push}
use Rattle.template_check.proofs.Found.{process_found, process_listed}
use Rattle.template_check.proofs.Numbers.{all_numbered, next_versions, people_next, people_past, told_next, versions_next, versions_of, versions_past}
use Rattle.template_check.proofs.ProcessNames.{named_next, named_past}
use Rattle.text_graphs.proofs.Judging.{all_kept}
use Rattle.template_check.proofs.compiling.built.Goals as goal
use Rattle.template_check.proofs.compiling.built.Goals.{in-Structure, in-Person+in_ok-person-in-Person+in_ok-push-in-Person, in-Process+in_ok-narrow-in-Process+in_ok-template-in-Process+in_ok-push-in-Process+in_ok-push-in-Process-2}

pub template-requires-clause-found : goal.template-requires-clause-found
template-requires-clause-found c =
    let items = c.args.tree.now.items in
    let less = rw c.as_slice-item-items.ensures at c.loop-item-test.true in
    let is = rw c.as_slice-item-items.ensures at c.item-item.is in
    let number : c.in_ok-narrow-in-Process.field-0 ≡ length c.loop-item.templates = c.in_ok-narrow-in-Process.ensures ∙ c.len-number.ensures in
    process_found (reading_of c.args.builder) items c.in_ok-narrow-in-Process.field-0 c.in-Process.process c.requires.found
    (process_listed items c.loop-item.item-index c.item-item.result c.in-Process.process c.loop-item.templates c.in_ok-narrow-in-Process.field-0 less is (ap process_of c.in-Process.is) c.loop-item.invariant.named number)

pub template-requires-clause-sound : goal.template-requires-clause-sound
template-requires-clause-sound c =
    let less = rw c.as_slice-item-items.ensures at c.loop-item-test.true in
    let is = rw c.as_slice-item-items.ensures at c.item-item.is in
    all_kept process_of (λ (p : ProcessTree). IsSound p.elements) c.args.tree.now.items c.loop-item.item-index c.item-item.result c.in-Process.process c.requires.sound less is (ap process_of c.in-Process.is)

pub loop-item-preserved : goal.loop-item-preserved
loop-item-preserved c =
    let items = c.args.tree.now.items in
    let i = c.loop-item.item-index in
    let x = c.item-item.result in
    let less = rw c.as_slice-item-items.ensures at c.loop-item-test.true in
    let is = rw c.as_slice-item-items.ensures at c.item-item.is in
    let so_far = c.loop-item.invariant in
    let past = λ (none : process_of x ≡ None). named_past items i x less is c.loop-item.templates none so_far.named in
    let r = reading_of c.args.builder in
    let people_past = λ (none : person_of x ≡ None). people_past items i x less is c.loop-item.people none so_far.people in
    let library = c.args.builder.known.catalog.now.library in
    let versions_past = λ (none : process_of x ≡ None). versions_past items i x less is library c.loop-item.templates none so_far.versions in
    let not_meant = λ (none : process_of x ≡ None). subst (λ (ps : List ProcessTree). AreMeantFrom r 0 ps c.loop-item.templates) (sym (kind_past process_of items i x less is none)) so_far.meant in
    elim c.match-item.branch [
      | in-Structure w ↦ rw (w.templates-is, w.people-is, w.containers-is) (record { alone = so_far.alone; ordered = so_far.ordered; named = past (ap process_of w.in-Structure.is); meant = not_meant (ap process_of w.in-Structure.is); people = people_past (ap person_of w.in-Structure.is); versions = versions_past (ap process_of w.in-Structure.is); told = so_far.told; even = so_far.even; classed = so_far.classed })
      | in-Person+in_ok-person-in-Person+in_ok-push-in-Person w ↦ rw (w.templates-is, w.people-is, w.containers-is) (record { alone = so_far.alone; ordered = so_far.ordered; named = past (ap process_of w.in-Person.is); meant = not_meant (ap process_of w.in-Person.is); people = people_next items i x less is c.loop-item.people w.push.new.self w.in_ok-person-in-Person.field-0 w.in-Person.person (ap person_of w.in-Person.is) w.in_ok-push-in-Person.ensures.ok w.in_ok-person-in-Person.ensures so_far.people; versions = versions_past (ap process_of w.in-Person.is); told = so_far.told; even = so_far.even; classed = so_far.classed })
      | in-Process+in_ok-narrow-in-Process+in_ok-template-in-Process+in_ok-push-in-Process+in_ok-push-in-Process-2 w ↦
          let before = length c.args.builder.known.catalog.now.library.templates in
          let built = w.in_ok-template-in-Process in
          let calls = subst (λ (k : ℕ). IsCalling (before + k) built.template.graph) (w.in_ok-narrow-in-Process.ensures ∙ w.len-number.ensures) built.ensures.calls in
          let number : w.in_ok-narrow-in-Process.field-0 ≡ length c.loop-item.templates = w.in_ok-narrow-in-Process.ensures ∙ w.len-number.ensures in
          let some : process_of x ≡ Some w.in-Process.process = ap process_of w.in-Process.is in
          rw (w.templates-is, w.people-is, w.containers-is) (record {
            alone = rw w.in_ok-push-in-Process.ensures.ok (alone_push c.loop-item.templates built.template so_far.alone built.ensures.sound);
            ordered = rw w.in_ok-push-in-Process.ensures.ok (ordered_push before c.loop-item.templates built.template so_far.ordered calls);
            named = named_next items i x less is c.loop-item.templates w.push-in-Process.new.self built.template w.in-Process.process some w.in_ok-push-in-Process.ensures.ok built.ensures.named so_far.named;
            meant = subst (λ (ps : List ProcessTree). AreMeantFrom r 0 ps w.push-in-Process.new.self) (sym (kind_next process_of items i x w.in-Process.process less is some))
                (meant_next r (processes_in (take i items)) c.loop-item.templates w.push-in-Process.new.self w.in-Process.process built.template w.in_ok-narrow-in-Process.field-0 number w.in_ok-push-in-Process.ensures.ok so_far.meant built.ensures.meant);
            people = people_past (ap person_of w.in-Process.is);
            versions = versions_next items i x less is library c.loop-item.templates w.push-in-Process.new.self built.template w.in-Process.process some w.in_ok-push-in-Process.ensures.ok built.ensures.version so_far.versions;
            told = told_next c.args.shapes.now c.loop-item.templates w.push-in-Process.new.self built.template w.len-number.result w.len-number.ensures w.in_ok-push-in-Process.ensures.ok
                (subst (λ (s : Shape). HasToldShape built.template s) w.shape_of-shape.ensures built.ensures.shape) so_far.told;
            even = rw (w.in_ok-push-in-Process.ensures.ok, w.in_ok-push-in-Process-2.ensures.ok) (one_longer c.loop-item.templates c.loop-item.containers built.template w.containers-classes.result so_far.even);
            classed = classes_next (table_classes c.args.builder.table) c.loop-item.templates w.push-in-Process.new.self c.loop-item.containers w.push-in-Process-2.new.self built.template w.containers-classes.result so_far.even
                w.in_ok-push-in-Process.ensures.ok w.in_ok-push-in-Process-2.ensures.ok so_far.classed
                (has_classes c.args.builder w.in_ok-narrow-in-Process.field-0 w.in-Process.process built.template w.containers-classes.result built.ensures.meant w.containers-classes.ensures.input w.containers-classes.ensures.output);
          })
    ]

pub returns-clause-built : goal.returns-clause-built
returns-clause-built c =
    let items = c.args.tree.now.items in
    let all = take_all c.loop-item.item-index items (rw c.as_slice-item-items.ensures at c.loop-item-test.false) in
    let so_far = c.loop-item.invariant in
    let r = reading_of c.args.builder in
    let meant = subst (λ (xs : List ItemTree). AreMeantFrom r 0 (processes_in xs) c.loop-item.templates) all so_far.meant in
    let library = c.args.builder.known.catalog.now.library in
    let versions = subst (λ (xs : List ItemTree). versions_of c.loop-item.templates ≡ next_versions library (processes_in xs)) all so_far.versions in
    record {
      people = so_far.people ∙ ap declared_people all;
      numbered = all_numbered c.args.builder.known.catalog.now.library (processes_in items) c.loop-item.templates c.args.shapes.now c.requires.shapes versions so_far.told;
      sound = record { alone = so_far.alone; ordered = so_far.ordered; performed = all_performed items r c.loop-item.templates c.requires.performers meant };
      named = subst (λ (xs : List ItemTree). template_names c.loop-item.templates ≡ process_names xs) all so_far.named;
      reading = r;
      read = search rules;
      meant = meant;
    }

pub returns-clause-classed : goal.returns-clause-classed
returns-clause-classed c =
    let table = c.args.builder.table in
    record {
      made = c.into_added.ensures.made;
      containers = subst (λ (added : List LeafClass). HaveClasses (table.known.now.classes ++ added) c.loop-item.templates c.loop-item.containers) (sym c.into_added.ensures.added) c.loop-item.invariant.classed;
    }
