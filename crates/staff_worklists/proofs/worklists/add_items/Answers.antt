use Rattle.std.proofs.Common.{◌∷◌, ap, sym, subst, ◌∙◌, cond, Some}
use Rattle.std.specs.Str.{bytes_eq}
use Rattle.std.specs.Option.{option_or}
use Rattle.std.specs.Map.Iter.{deref_pair}
use Rattle.std.proofs.lemmas.Map.Iter.{rest_more}
use Rattle.staff_worklists.specs.Listing.{found_at}
use Rattle.staff_worklists.proofs.Found.{at, IsRising, one_found, rising_tail, found_next}
use Rattle.staff_worklists.proofs.worklists.add_items.Goals as goal

pub loop-rank-preserved : goal.loop-rank-preserved
loop-rank-preserved c =
    let k = c.in-Some.rank.now in
    let v = c.in-Some.listed.now in
    let rest = c.next.new.self in
    let e = rest_more deref_pair c.loop-rank.rank-iterator rest c.next.result (c.in-Some.rank, c.in-Some.listed) c.in-Some.is c.next.ensures.steps in
    let rising : IsRising ((k, v) ∷ rest) = subst IsRising e c.loop-rank.invariant.0 in (
      rising_tail k v rest rising,
      λ r. one_found k v rest r (found_at c.loop-rank.found r) (found_at c.insert.new.self r) rising
          (found_next c.loop-rank.found c.insert.new.self c.as_slice.result.now c.in-Some.listed c.in_ok-insert.ensures.updates r
          ∙ ap (λ bs. cond (bytes_eq bs r) (Some v) (found_at c.loop-rank.found r)) c.as_slice.ensures.value)
          ∙ ap (λ es. option_or (at r es) (found_at c.loop-rank.found r)) (sym e) ∙ c.loop-rank.invariant.1 r,
    )
