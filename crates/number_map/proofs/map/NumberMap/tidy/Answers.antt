use Rattle.std.proofs.Common.{sym, ap, subst, ◌∙◌}
use Rattle.number_map.specs.Rows.{IsRising, entries_of}
use Rattle.number_map.proofs.Rows.{rising_kept, entries_kept}
use Rattle.number_map.proofs.map.NumberMap.tidy.Goals as goal

pub invariant_of-self : goal.invariant_of-self
invariant_of-self g c = subst IsRising (sym c.keep_valued.ensures) (rising_kept c.self.inside.rows.items c.self.invariant)

pub returns-then-self-len : goal.returns-then-self-len
returns-then-self-len g c =
    ap (λ rows. record { entries = entries_of rows }) c.keep_valued.ensures
    ∙ ap (λ es. record { entries = es }) (entries_kept c.self.inside.rows.items) ∙ c.self.view_is
