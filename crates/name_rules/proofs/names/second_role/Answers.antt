use Rattle.std.proofs.Common.{subst, sym}
use Rattle.std.proofs.lemmas.List.{take_all}
use Rattle.text_graphs.specs.Meeting.{AreMet, IsAgainAt}
use Rattle.text_graphs.specs.Places.{IsLeastOf, PairAt}
use Rattle.text_graphs.proofs.Finding.{taken_more}
use Rattle.name_rules.proofs.names.second_role.Goals as goal

pub loop-role-preserved : goal.loop-role-preserved
loop-role-preserved c =
    let items = c.args.person.now.roles in
    let less = rw c.as_slice-role-items.ensures at c.loop-role-test.true in
    let is = rw c.as_slice-role-items.ensures at c.role-item.is in
    subst (AreMet c.meet.new.self) (taken_more items c.loop-role.role-index c.role-item.result less is) (c.in_ok-meet.ensures _ c.loop-role.invariant)

pub returns : goal.returns
returns c =
    let roles = c.args.person.now.roles in
    let past = rw c.as_slice-role-items.ensures at c.loop-role-test.false in
    subst (IsLeastOf (PairAt IsAgainAt roles)) (sym c.first.ensures) (subst (λ ns. IsLeastOf (PairAt IsAgainAt ns) c.loop-role.roles.first) (take_all c.loop-role.role-index roles past) c.loop-role.invariant.least)
