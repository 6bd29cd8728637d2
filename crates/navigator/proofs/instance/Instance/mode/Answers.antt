use Rattle.std.proofs.Common.{refl}
use Rattle.navigator.proofs.instance.Instance.mode.Goals as goal

pub returns-then-is_complete-clause-shows : goal.returns-then-is_complete-clause-shows
returns-then-is_complete-clause-shows c = λ ts depth k g input shows. let e = c.if-is_complete.ensures.shows ts depth k g input shows in let t = c.if-self.false in rw (← e, t) refl

pub returns-then-self-2-clause-shows : goal.returns-then-self-2-clause-shows
returns-then-self-2-clause-shows c = λ ts depth k g input shows. let e = c.if-is_complete.ensures.shows ts depth k g input shows in let t = c.if-self.false in let s = c.if-self-2.true in rw (← e, t, s) refl

pub returns-else-self-2-clause-shows : goal.returns-else-self-2-clause-shows
returns-else-self-2-clause-shows c = λ ts depth k g input shows. let e = c.if-is_complete.ensures.shows ts depth k g input shows in let t = c.if-self.false in let s = c.if-self-2.false in rw (← e, t, s) refl
