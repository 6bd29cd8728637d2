use Rattle.std.proofs.Common.{Option, Some, sym, ap, ◌∙◌}
use Rattle.process_rules.specs.Shapes.{callee_shape, told_shape}
use Rattle.process_rules.specs.declared.people.Callee.{Callee}
use Rattle.process_rules.proofs.Shaping.{nth_told}
use Rattle.process_rules.proofs.sizes.named_shape.Goals as goal

pub returns-in-None : goal.returns-in-None
returns-in-None c = λ before same. c.nothing.ensures ∙ ap (λ (o : Option Callee). told_shape (callee_shape c.args.known.now.catalog.now.library before o)) c.in-None.ensures.meant

pub returns-in-Some-Text : goal.returns-in-Some-Text
returns-in-Some-Text c = λ before same.
    let found = c.in-Some-Text in
    nth_told c.args.shapes.now before found.number c.nth_shape.result same c.nth_shape.ensures
    ∙ ap (λ (o : Option Callee). told_shape (callee_shape c.args.known.now.catalog.now.library before o)) (ap (λ (f : Callee). Some f) (sym found.field-0-is) ∙ found.ensures.meant)

pub returns-in-Some-Library : goal.returns-in-Some-Library
returns-in-Some-Library c = λ before same.
    let found = c.in-Some-Library in
    c.stored_shape.ensures before
    ∙ ap (λ (o : Option Callee). told_shape (callee_shape c.args.known.now.catalog.now.library before o)) (ap (λ (f : Callee). Some f) (sym found.field-0-is) ∙ found.ensures.meant)
