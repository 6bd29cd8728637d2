use Rattle.std.proofs.Common.{sym, subst, take}
use Rattle.certificates.specs.Told.{taken}
use Rattle.certificates.specs.Kept.{basis_of, told_by, TellNoMore, Takes}
use Rattle.certificates.specs.declared.grounds.Grounds.{Grounds}
use Rattle.certificates.proofs.Progress.{laid_kept, told_again, first_unjustified, progress_more}
use Rattle.certificates.proofs.accepting.accept.Goals as goal

pub returns-then-not-branch-clause-exact : goal.returns-then-not-branch-clause-exact
returns-then-not-branch-clause-exact c = λ all.
    let b = basis_of c.args.grounds.now in
    let lines = c.args.lines.now in
    let old = told_by c.loop-number.scopes in
    let new = told_by c.take_once.new.scopes in
    let line = c.index-lines-number.result in
    let so_far = c.loop-number.invariant all in
    let again = subst (λ (g : Grounds). TellNoMore (basis_of g) old (take c.loop-number.number lines)) (sym c.in_ok-checker.ensures.grounds) (told_again b lines c.loop-number.number old so_far) in
    let takes = subst (λ (g : Grounds). Takes old new (taken (basis_of g) old line) c.in_ok-take_once.field-0) c.in_ok-checker.ensures.grounds (c.in_ok-take_once.ensures (laid_kept b lines c.loop-number.number old so_far) again) in
    first_unjustified b lines c.loop-number.number old so_far line c.loop-number-test.true c.index-lines-number.is new c.in_ok-take_once.field-0 takes c.if-not-branch.true

pub loop-number-preserved : goal.loop-number-preserved
loop-number-preserved c = λ all.
    let b = basis_of c.args.grounds.now in
    let lines = c.args.lines.now in
    let old = told_by c.loop-number.scopes in
    let new = told_by c.take_once.new.scopes in
    let line = c.index-lines-number.result in
    let so_far = c.loop-number.invariant all in
    let again = subst (λ (g : Grounds). TellNoMore (basis_of g) old (take c.loop-number.number lines)) (sym c.in_ok-checker.ensures.grounds) (told_again b lines c.loop-number.number old so_far) in
    let takes = subst (λ (g : Grounds). Takes old new (taken (basis_of g) old line) c.in_ok-take_once.field-0) c.in_ok-checker.ensures.grounds (c.in_ok-take_once.ensures (laid_kept b lines c.loop-number.number old so_far) again) in
    progress_more b lines c.loop-number.number old so_far line c.loop-number-test.true c.index-lines-number.is new c.in_ok-take_once.field-0 takes all c.if-not-branch.false
