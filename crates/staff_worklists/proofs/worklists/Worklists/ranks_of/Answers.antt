use Rattle.std.proofs.Common.{◌≡◌, List, ap, sym, subst, ◌∙◌, inr, true, ℕ, Option}
use Rattle.std.specs.Global.{Vec}
use Rattle.std.specs.List.Sorted.{IsStrictlySortedBy}
use Rattle.std.specs.Ordering.{nat_cmp}
use Rattle.std.specs.Cmp.Lexicographic.{slice_cmp}
use Rattle.std.specs.Option.{IsSome}
use Rattle.std.specs.List.{AllByRecursion}
use Rattle.std.specs.Map.{keys_of}
use Rattle.std.specs.Map.Iter.{deref_pair}
use Rattle.std.proofs.lemmas.Map.Iter.{rest_more}
use Rattle.std.proofs.lemmas.Map.Keys.{sorted_tail}
use Rattle.staff_worklists.specs.Standing.{begins_with, is_among}
use Rattle.staff_worklists.specs.declared.worklists.Shelf.{Shelf}
use Rattle.staff_worklists.proofs.Steps.{not_among}
use Rattle.staff_worklists.proofs.Roots.{from_first, started, all_found, one_more_found}
use Rattle.staff_worklists.proofs.worklists.Worklists.ranks_of.Goals as goal

pub returns-then-not-begins-clause-all : goal.returns-then-not-begins-clause-all
returns-then-not-begins-clause-all c = λ r begins some.
    let e = rest_more deref_pair c.loop-rank.rank-iterator c.next.new.self c.next.result (c.in-Some.rank, c.in-Some._shelf) c.in-Some.is c.next.ensures.steps in
    all_found c.args.root c.in-Some.rank.now c.in-Some._shelf.now c.loop-rank.rank-iterator c.next.new.self r (is_among c.loop-rank.ranks.items r ≡ true) e
    (sym c.begins.ensures ∙ c.if-not-begins.true) c.loop-rank.invariant.1 c.loop-rank.invariant.2 begins (c.loop-rank.invariant.3 r begins some)

pub loop-rank-init : goal.loop-rank-init
loop-rank-init c =
    let s = started c.args.root c.in_ok-from.from c.args.self.now.places.entries c.into_iter-rank-iterator.result c.in_ok-from.ensures.items
    (c.into_iter-rank-iterator.ensures.into_iter_gives ∙ c.range-rank-items.ensures.between tt) c.range-rank-items.ensures.ordered in (
      λ r other. ap (λ (l : List (Vec ℕ)). is_among l r) c.new-ranks.ensures.items,
      s.0,
      s.1,
      λ r begins some. inr (subst (λ (o : Option Shelf). IsSome o) (sym (s.2 r begins)) some),
    )

pub loop-rank-preserved : goal.loop-rank-preserved
loop-rank-preserved c =
    let rest = c.next.new.self in
    let e = rest_more deref_pair c.loop-rank.rank-iterator rest c.next.result (c.in-Some.rank, c.in-Some._shelf) c.in-Some.is c.next.ensures.steps in
    let k = c.in-Some.rank.now in
    let copy = c.in_ok-copied.field-0 in
    let copied = c.in_ok-copied.ensures ∙ c.as_slice.ensures.value in
    let begins = ap (begins_with c.args.root) copied ∙ sym c.begins.ensures ∙ c.if-not-begins.false in
    let i = c.loop-rank.invariant in (
      λ r other. ap (λ (l : List (Vec ℕ)). is_among l r) c.in_ok-push.ensures.items ∙ not_among c.args.root c.loop-rank.ranks.items copy begins i.0 r other,
      sorted_tail (λ x y. slice_cmp nat_cmp x.items y.items) k (keys_of rest) (subst (λ (l : List (Vec ℕ × Shelf)). IsStrictlySortedBy (λ x y. slice_cmp nat_cmp x.items y.items) (keys_of l)) e i.1),
      (subst (λ (l : List (Vec ℕ × Shelf)). AllByRecursion (λ k. from_first c.args.root k ≡ true) (keys_of l)) e i.2).1,
      λ r own some. one_more_found c.args.root k c.in-Some._shelf.now copy c.loop-rank.ranks.items c.push.new.self.items c.loop-rank.rank-iterator rest r e copied c.in_ok-push.ensures.items (i.3 r own some),
    )
