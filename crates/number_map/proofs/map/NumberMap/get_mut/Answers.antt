use Rattle.std.proofs.Common.{◌≡◌, Some, refl, sym, ap, ◌∙◌}
use Rattle.std.specs.List.{slice_get}
use Rattle.std.proofs.lemmas.Option.{get_or_from_slice_get}
use Rattle.number_map.specs.Rows.{entries_of}
use Rattle.number_map.proofs.Rows.{found, missed, rising_set, set_same, written, on_some}
use Rattle.number_map.proofs.map.NumberMap.get_mut.Goals as goal

pub invariant_of-self-lent : goal.invariant_of-self-lent
invariant_of-self-lent g c =
    let rows = c.self.inside.rows.items in
    let at = rw c.deref.ensures.value at c.in-Ok.ensures in
    let row = c.index_mut.result.now in
    let same = c.index_mut.ensures.value ∙ get_or_from_slice_get rows c.in-Ok.place at.0 row at.1 in
    let here : slice_get rows c.in-Ok.place ≡ Some row = at.1 ∙ ap Some (sym same) in
    λ _. (
      λ w. rising_set rows c.in-Ok.place row (record { number = row.number; value = Some w }) here refl c.self.invariant,
      rising_set rows c.in-Ok.place row row here refl c.self.invariant,
    )

pub returns-in-Ok : goal.returns-in-Ok
returns-in-Ok g c =
    let rows = c.self.inside.rows.items in
    let at = rw c.deref.ensures.value at c.in-Ok.ensures in
    let row = c.index_mut.result.now in
    let same = c.index_mut.ensures.value ∙ get_or_from_slice_get rows c.in-Ok.place at.0 row at.1 in
    let here : slice_get rows c.in-Ok.place ≡ Some row = at.1 ∙ ap Some (sym same) in (
      (
        refl,
        λ w. on_some c.value_mut.result (rw (← c.self.view_is) (written c.args.number rows c.in-Ok.place row w here (ap (λ r. r.number) same ∙ at.2) c.self.invariant)),
        ap (λ rs. record { entries = entries_of rs }) (set_same rows c.in-Ok.place row here) ∙ c.self.view_is,
      ),
      record {
        writes_back = tt;
        value = rw (← c.self.view_is) (c.value_mut.ensures.value ∙ ap (λ r. r.value) same ∙ found c.args.number rows c.in-Ok.place at.0 c.self.invariant at.1 at.2);
      },
    )

pub returns-in-Err : goal.returns-in-Err
returns-in-Err g c =
    let at = rw c.deref.ensures.value at c.in-Err.ensures in (
      (refl, λ _. tt, c.self.view_is),
      record {
        writes_back = tt;
        value = rw (← c.self.view_is) (missed c.args.number c.self.inside.rows.items c.in-Err.field-0 c.self.invariant at.1 at.2);
      },
    )
