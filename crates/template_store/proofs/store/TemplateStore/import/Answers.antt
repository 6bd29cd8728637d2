use Rattle.std.proofs.Common.{sym, subst}
use Rattle.flow_model.specs.declared.graphs.Library.{Library}
use Rattle.template_check.proofs.Calling.{sound_added}
use Rattle.template_check.specs.Built.{AreSound}
use Rattle.template_store.proofs.store.TemplateStore.import.Goals as goal

pub returns-clause-sound : goal.returns-clause-sound
returns-clause-sound c =
    let v = c.self.view_is in
    rw (← v) (λ sound.
    subst (λ (library : Library). AreSound library.templates) (sym c.in_ok-add.ensures.added.1)
    (sound_added c.self.inside.catalog.library.templates c.in_ok-compiled.compiled.templates sound
    c.in_ok-compiled.ensures.compiled.sound))

pub returns-clause-of_text : goal.returns-clause-of_text
returns-clause-of_text c =
    let v = c.self.view_is in
    rw (← v) (record {
      added = c.in_ok-compiled.compiled;
      named = c.in_ok-compiled.ensures.compiled.named;
      meant = c.in_ok-compiled.ensures.compiled.meant;
      people = c.in_ok-compiled.ensures.compiled.people;
      behind = c.in_ok-add.ensures.added.1;
    })
