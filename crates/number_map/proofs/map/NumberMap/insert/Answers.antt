use Rattle.std.proofs.Common.{Some, sym, ap, subst, ◌∙◌}
use Rattle.std.proofs.lemmas.Option.{slice_get_within}
use Rattle.number_map.specs.Entries.{value_under}
use Rattle.number_map.specs.Rows.{IsRising, entries_of}
use Rattle.number_map.proofs.Rows.{changed, added, rising_set, rising_put}
use Rattle.number_map.proofs.map.NumberMap.insert.Goals as goal

pub put_row-requires : goal.put_row-requires
put_row-requires g c =
    let at = rw c.deref.ensures.value at c.in-Ok.ensures in
    slice_get_within c.self.inside.rows.items c.in-Ok.place at.0 at.1

pub invariant_of-self : goal.invariant_of-self
invariant_of-self g c =
    let at = rw c.deref.ensures.value at c.in-Ok.ensures in
    subst IsRising (sym c.put_row.ensures) (rising_set c.self.inside.rows.items c.in-Ok.place at.0 (record { number = c.args.number; value = Some c.args.value }) at.1 (sym at.2) c.self.invariant)

pub invariant_of-self-in-Err : goal.invariant_of-self-in-Err
invariant_of-self-in-Err g c =
    let at = rw c.deref.ensures.value at c.in-Err.ensures in
    subst IsRising (sym c.in_ok-insert-in-Err.ensures.items) (rising_put c.self.inside.rows.items c.in-Err.place (record { number = c.args.number; value = Some c.args.value }) c.self.invariant at.1 at.2)

pub returns-in-Ok-clause-ok : goal.returns-in-Ok-clause-ok
returns-in-Ok-clause-ok g c = λ other.
    let at = rw c.deref.ensures.value at c.in-Ok.ensures in
    rw (← c.self.view_is)
    (ap (λ rows. value_under other (record { entries = entries_of rows })) c.put_row.ensures
    ∙ changed other c.self.inside.rows.items c.in-Ok.place at.0 (record { number = c.args.number; value = Some c.args.value }) at.1 at.2 c.self.invariant)

pub returns-in_ok-insert-in-Err-clause-ok : goal.returns-in_ok-insert-in-Err-clause-ok
returns-in_ok-insert-in-Err-clause-ok g c = λ other.
    let at = rw c.deref.ensures.value at c.in-Err.ensures in
    rw (← c.self.view_is)
    (ap (λ rows. value_under other (record { entries = entries_of rows })) c.in_ok-insert-in-Err.ensures.items
    ∙ added other c.self.inside.rows.items c.in-Err.place (record { number = c.args.number; value = Some c.args.value }) c.self.invariant at.1 at.2)
