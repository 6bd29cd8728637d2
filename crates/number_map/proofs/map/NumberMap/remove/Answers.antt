use Rattle.std.proofs.Common.{◌==◌, None, sym, ap, subst, ◌∙◌}
use Rattle.std.proofs.lemmas.Option.{slice_get_within}
use Rattle.number_map.specs.Entries.{value_under}
use Rattle.number_map.specs.Rows.{IsRising, entries_of}
use Rattle.number_map.proofs.Rows.{found, missed, changed, rising_set, stays_none, same_number, some_is}
use Rattle.number_map.proofs.map.NumberMap.remove.Goals as goal

pub returns-in_default-clause-value : goal.returns-in_default-clause-value
returns-in_default-clause-value g c =
    let at = rw c.deref.ensures.value at c.in_default.ensures in
    rw (← c.self.view_is) (missed c.args.number c.self.inside.rows.items c.in_default.field-0 c.self.invariant at.1 at.2)

pub returns-in_default-clause-others : goal.returns-in_default-clause-others
returns-in_default-clause-others g c = λ other.
    let at = rw c.deref.ensures.value at c.in_default.ensures in
    rw (← c.self.view_is)
    (stays_none (c.args.number == other) (value_under other (record { entries = entries_of c.self.inside.rows.items }))
    (λ same. missed c.args.number c.self.inside.rows.items c.in_default.field-0 c.self.invariant at.1 at.2
    ∙ ap (λ n. value_under n (record { entries = entries_of c.self.inside.rows.items })) (same_number c.args.number other same)))

pub replace_row-value-requires : goal.replace_row-value-requires
replace_row-value-requires g c =
    let at = rw c.deref.ensures.value at c.in-Ok.ensures in
    slice_get_within c.self.inside.rows.items c.in-Ok.place at.0 at.1

pub invariant_of-self : goal.invariant_of-self
invariant_of-self g c =
    let at = rw c.deref.ensures.value at c.in-Ok.ensures in
    subst IsRising (sym c.replace_row-value.ensures.rows) (rising_set c.self.inside.rows.items c.in-Ok.place at.0 (record { number = c.args.number; value = None }) at.1 (sym at.2) c.self.invariant)

pub returns-clause-value : goal.returns-clause-value
returns-clause-value g c =
    let at = rw c.deref.ensures.value at c.in-Ok.ensures in
    let same = some_is (sym at.1 ∙ c.replace_row-value.ensures.replaced) in
    rw (← c.self.view_is) (ap (λ row. row.value) (sym same) ∙ found c.args.number c.self.inside.rows.items c.in-Ok.place at.0 c.self.invariant at.1 at.2)

pub returns-clause-others : goal.returns-clause-others
returns-clause-others g c = λ other.
    let at = rw c.deref.ensures.value at c.in-Ok.ensures in
    rw (← c.self.view_is)
    (ap (value_under other) c.tidy.ensures
    ∙ ap (λ rows. value_under other (record { entries = entries_of rows })) c.replace_row-value.ensures.rows
    ∙ changed other c.self.inside.rows.items c.in-Ok.place at.0 (record { number = c.args.number; value = None }) at.1 at.2 c.self.invariant)
