use Rattle.std.proofs.Common.{◌∙◌, ◌<◌, [], ◌∷◌, inr, ap, refl, arith}
use Rattle.core_laws.specs.RightStates.{IsRightCore}
use Rattle.flow_core.specs.Summaries.{Summary, summary}
use Rattle.machine_laws.specs.Applied.{Applied}
use Rattle.machine_laws.specs.Viewed.{view}
use Rattle.flow_session.specs.Leading.{LeadsBy}
use Rattle.flow_session.proofs.Leading.{leads_adopted, one_step}
use Rattle.standby.specs.Stages.{Adopts}
use Rattle.standby.proofs.Taken.{IsNext, next_one}
use Rattle.standby.proofs.Waiting.{waits_none, waits_one}
use Rattle.standby.proofs.following.Standby.take.Given as given
use Rattle.standby.proofs.following.Standby.take.Goals.{In-Ok}
use Rattle.standby.proofs.following.Standby.take.Goals as goal

pub returns-then-number-clause-waits : goal.returns-then-number-clause-waits
returns-then-number-clause-waits g c = waits_none c.args.self.now.core c.args.batch.now

pub returns-in-Err-NotAllowed-clause-waits : goal.returns-in-Err-NotAllowed-clause-waits
returns-in-Err-NotAllowed-clause-waits g c = (c.args.self.now.core, waits_none c.args.self.now.core c.args.batch.now)

pub returns-in-Err-NoMemory-clause-waits : goal.returns-in-Err-NoMemory-clause-waits
returns-in-Err-NoMemory-clause-waits g c = (c.args.self.now.core, waits_none c.args.self.now.core c.args.batch.now)

pub returns-in-Err-clause-waits : goal.returns-in-Err-clause-waits
returns-in-Err-clause-waits g c = rw c.in-Err.ensures (c.args.self.now.core, waits_none c.args.self.now.core c.args.batch.now)

pub returns-in-Err-NotAllowed-clause-stops : goal.returns-in-Err-NotAllowed-clause-stops
returns-in-Err-NotAllowed-clause-stops g c right =
    let lt : c.args.self.now.core.number < c.args.numbered.number = rw c.number.ensures at c.if-number.false in
    (refl, lt, c.in-Err-NotAllowed.ensures.refused c.in-Err-NotAllowed.field-0-is)

-- ---- a transaction that is adopted

beyond : (g : given.Over) (c : goal.In-Ok g) → c.args.self.now.core.number < c.args.numbered.number
beyond g c = rw c.number.ensures at c.if-number.false

-- it is the next one
next_here : (g : given.Over) (c : goal.In-Ok g) → IsNext c.args.self.now.core c.args.numbered.number c.args.numbered.transaction
next_here g c =
    next_one c.args.self.now.core.kept (summary c.args.self.now.core) (record { number = c.args.numbered.number; transaction = c.args.numbered.transaction }) (beyond g c) c.in-Ok.ensures.follows

applied : (g : given.Over) (c : goal.In-Ok g) → Applied c.args.self.now.core c.args.numbered.transaction c.adopt.new.self
applied g c = record {
  drives = c.in-Ok.ensures.drives;
  came = c.in-Ok.ensures.taken ∙ (next_here g c).1;
  clock = c.in-Ok.ensures.clock;
  store = c.in-Ok.ensures.store;
  keys = c.in-Ok.ensures.keys;
  exact = c.in-Ok.ensures.exact;
}

leads : (g : given.Over) (c : goal.In-Ok g) → LeadsBy c.args.self.now.core (c.args.numbered.transaction ∷ []) c.adopt.new.self
leads g c =
    leads_adopted c.args.self.now.core c.adopt.new.self c.args.numbered.number c.args.numbered.transaction
    c.in-Ok.ensures.admitted c.in-Ok.ensures.allowed (applied g c) c.in-Ok.ensures.counts

-- from a right state on it is adopted
adopts : (g : given.Over) (c : goal.In-Ok g) → IsRightCore c.args.self.now.core
    → Adopts c.args.self.now.core c.args.numbered.number c.args.numbered.transaction c.adopt.new.self
adopts g c right = record {
  beyond = beyond g c;
  admitted = c.in-Ok.ensures.admitted;
  makes = record {
    allowed = c.in-Ok.ensures.allowed;
    drives = c.in-Ok.ensures.drives;
    counts = c.in-Ok.ensures.counts;
    lives = (c.args.numbered.number, ap (λ (s : Summary). s.live) c.in-Ok.ensures.taken);
  };
  applied = applied g c;
  steps = one_step (view c.args.self.now.core) c.args.numbered.transaction (view c.adopt.new.self)
      ((leads g c).steps right);
}

pub returns-clause-waits : goal.returns-clause-waits
returns-clause-waits g c =
    let here = (goal.at.returns-clause-waits g c).In-Ok in
    waits_one c.args.self.now.core c.adopt.new.self c.args.numbered.number c.args.numbered.transaction
    c.args.payload.now c.args.batch.now c.push.new.self (next_here g here).0 c.requires.spelled c.requires.range
    (leads g here) (adopts g here) c.in-Ok-push.ensures

pub returns-clause-takes : goal.returns-clause-takes
returns-clause-takes g c right =
    let here = (goal.at.returns-clause-takes g c).In-Ok in
    inr (adopts g here right, omega (arith, c.saturating_add-self.ensures, c.requires.room))
