use Rattle.std.proofs.Common.{ap, ◌∙◌}
use Rattle.std.proofs.lemmas.Option.{get_or_from_slice_get}
use Rattle.number_map.proofs.Rows.{found, missed}
use Rattle.number_map.proofs.map.NumberMap.get.Goals as goal

pub returns-in-Ok : goal.returns-in-Ok
returns-in-Ok g c =
    let at = rw c.deref.ensures.value at c.in-Ok.ensures in
    let row = c.index.ensures ∙ get_or_from_slice_get c.self.inside.rows.items c.in-Ok.place at.0 c.index.result.now at.1 in
    rw (← c.self.view_is) (c.as_ref.ensures.value ∙ ap (λ r. r.value) row ∙ found c.args.number c.self.inside.rows.items c.in-Ok.place at.0 c.self.invariant at.1 at.2)

pub returns-in-Err : goal.returns-in-Err
returns-in-Err g c =
    let at = rw c.deref.ensures.value at c.in-Err.ensures in
    rw (← c.self.view_is) (missed c.args.number c.self.inside.rows.items c.in-Err.field-0 c.self.invariant at.1 at.2)
