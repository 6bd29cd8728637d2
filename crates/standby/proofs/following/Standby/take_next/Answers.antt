use Rattle.std.proofs.Common.{◌≡◌, ◌∙◌, inl, ◌+◌, ◌≤◌, Bool, true, false, ℕ, List, [], refl, sym, subst, rules}
use Rattle.flow_model.specs.declared.transactions.Transaction.{Transaction}
use Rattle.flow_core.specs.Summaries.{Summary, summary}
use Rattle.flow_session.specs.Histories.{AreInRangeBehind, payloads_behind}
use Rattle.flow_session.specs.Keeping.{IsOpen}
use Rattle.standby.specs.Adopting.{EndsTaken}
use Rattle.flow_session.proofs.Calls.{makes_all}
use Rattle.standby.specs.Stages.{Here, Reaches, TakesPayload, stage}
use Rattle.standby.specs.Waiting.{StandsUpTo, TakesUpTo, Waits}
use Rattle.standby.specs.Followed.{StandsForEither}
use Rattle.standby.proofs.Adopting.{ends_none}
use Rattle.standby.proofs.Taken.{left_alone, stands_for_either, untouched}
use Rattle.standby.proofs.Waiting.{leaves_up_to, waits_behind, waits_all, waits_nothing, kept_on, takes_on, new_stops, waits_more, takes_up_to, kept_so, unkept_so}
use Rattle.standby.proofs.following.Standby.take_next.Given as given
use Rattle.standby.proofs.following.Standby.take_next.Goals.{In-Ok, After-gather-end}
use Rattle.standby.proofs.following.Standby.take_next.Goals as goal

-- ---- the first frame isn't taken

pub returns-in_default-clause-makes : goal.returns-in_default-clause-makes
returns-in_default-clause-makes g c = untouched g.D.Disk.tells g.D.Disk.moment g.D.Disk.left_since g.D.Disk.seen
    g.D.Disk.images g.met.D.Disk.only_now c.args.self.now.journal.log c.args.self.now.journal.disk
    (summary c.args.self.now.core) _ c.requires.open (ends_none _ c.args.self.now.core c.args.self.now.core tt)

pub returns-in-Err-clause-makes : goal.returns-in-Err-clause-makes
returns-in-Err-clause-makes g c = rw c.take_payload.ensures.journal
    (untouched g.D.Disk.tells g.D.Disk.moment g.D.Disk.left_since g.D.Disk.seen g.D.Disk.images g.met.D.Disk.only_now
    c.args.self.now.journal.log c.args.self.now.journal.disk (summary c.args.self.now.core) _ c.requires.open
    (ends_none _ c.args.self.now.core c.take_payload.new.self.core tt))

pub returns-in-Err-clause-left : goal.returns-in-Err-clause-left
returns-in-Err-clause-left g c right = inl c.take_payload.ensures.journal

pub returns-in-Err-clause-cause : goal.returns-in-Err-clause-cause
returns-in-Err-clause-cause g c source = rw c.take_payload.ensures.journal (c.in-Err.ensures.cause source (g.D.Disk.faults c.args.self.now.journal.disk))

-- ---- what waits

-- the first frame is taken
first : (g : given.Over) (c : goal.In-Ok g) → Waits c.args.self.now.core [] c.take_payload.new.self.core c.take_payload.new.batch
first g c = subst (λ (batch : List (List ℕ)). Waits c.args.self.now.core batch c.take_payload.new.self.core c.take_payload.new.batch) c.new-batch.ensures c.in-Ok.ensures.waits

-- transactions wait that lead to the state at the end
waiting : (g : given.Over) (c : goal.After-gather-end g) → Waits c.args.self.now.core [] c.take_payload.new.self.core c.take_payload.new.batch
    → (ts : List Transaction) × (c.gather-end.new.batch ≡ payloads_behind c.args.self.now.core.number ts) × EndsTaken
    c.args.self.now.core c.gather-end.new.self.core c.gather-end.result ts
    × AreInRangeBehind c.args.self.now.core.number ts
waiting g c first =
    waits_all c.gather-end.result c.args.self.now.core c.gather-end.new.self.core c.gather-end.new.batch
    (waits_behind c.gather-end.result c.args.self.now.core c.take_payload.new.self.core c.gather-end.new.self.core [] c.take_payload.new.batch c.gather-end.new.batch first c.gather-end.ensures.waits)

-- transactions wait that lead to the state at the stage that is reached
led : (g : given.Over) (c : goal.After-gather-end g) → Waits c.args.self.now.core [] c.take_payload.new.self.core c.take_payload.new.batch
    → Waits c.args.self.now.core [] c.gather-end.ensures.waiting.core c.gather-end.new.batch
led g c first =
    let w = c.gather-end.ensures.waiting in
    waits_more c.args.self.now.core c.take_payload.new.self.core w.core [] c.take_payload.new.batch c.gather-end.new.batch first w.waits

-- the journal is as it was
same : (g : given.Over) (c : goal.After-gather-end g) → c.gather-end.new.self.journal ≡ c.args.self.now.journal
same g c = c.gather-end.ensures.journal ∙ c.take_payload.ensures.journal

-- ---- the first frame is passed over

pub returns-then-is_empty-clause-makes : goal.returns-then-is_empty-clause-makes
returns-then-is_empty-clause-makes g c =
    let here = (goal.at.returns-then-is_empty-clause-makes g c).In-Ok in
    rw c.take_payload.ensures.journal (untouched g.D.Disk.tells g.D.Disk.moment g.D.Disk.left_since g.D.Disk.seen g.D.Disk.images g.met.D.Disk.only_now c.args.self.now.journal.log c.args.self.now.journal.disk (summary c.args.self.now.core) _ c.requires.open
    (record {
      last = c.take_payload.new.self.core;
      takes = waits_nothing c.args.self.now.core c.take_payload.new.self.core c.take_payload.new.batch (search rules)
          (first g here);
      done = refl;
    }))

pub returns-then-is_empty-clause-kept : goal.returns-then-is_empty-clause-kept
returns-then-is_empty-clause-kept g c told =
    let here = (goal.at.returns-then-is_empty-clause-kept g c).In-Ok in
    let leads = (waits_nothing c.args.self.now.core c.take_payload.new.self.core c.take_payload.new.batch
    (search rules) (first g here)).leads in
    rw c.take_payload.ensures.journal (subst (λ (s : Summary). IsOpen g.D.Disk.seen g.D.Disk.images c.args.self.now.journal.log c.args.self.now.journal.disk s) (sym leads.came) (c.requires.open told))

pub returns-then-is_empty-clause-takes : goal.returns-then-is_empty-clause-takes
returns-then-is_empty-clause-takes g c right =
    let mid = c.take_payload.new.self in
    let is : c.in-Some.number ≡ c.args.last + 1 = search rules in
    record {
      mid = mid.core;
      count = mid.taken;
      first = subst (λ (n : ℕ). TakesPayload n c.args.payload.now c.args.self.now.core c.args.self.now.taken mid.core mid.taken) is (c.in-Ok.ensures.takes right);
      behind = λ left. subst (λ (n : ℕ). Reaches (stage mid.core mid.taken n c.args.blocks.now left) (stage mid.core mid.taken c.in-Some.number c.args.blocks.now left)) is Here;
    }

-- ---- what waits is kept

pub returns-in-Ok-keep_all-clause-kept : goal.returns-in-Ok-keep_all-clause-kept
returns-in-Ok-keep_all-clause-kept g c =
    let d = g.D.Disk in
    let core = c.args.self.now.core in
    let here = goal.at.returns-in-Ok-keep_all-clause-kept g c in
    let w = waiting g here.After-gather-end (first g here.In-Ok) in
    let kept = rw (same g here.After-gather-end) at c.in-Ok-keep_all.ensures.kept in
    kept_on c.gather-end.result core c.gather-end.new.self.core w.0
    (λ s. d.tells → IsOpen d.seen d.images c.keep_all.new.self.log c.keep_all.new.self.disk s)
    (λ told. kept (summary core) w.0 told (c.requires.open told) w.1 w.3) w.2

pub returns-in-Ok-keep_all-clause-makes : goal.returns-in-Ok-keep_all-clause-makes
returns-in-Ok-keep_all-clause-makes g c =
    let d = g.D.Disk in
    let s = summary c.args.self.now.core in
    let here = goal.at.returns-in-Ok-keep_all-clause-makes g c in
    let w = waiting g here.After-gather-end (first g here.In-Ok) in
    let leaves = rw (same g here.After-gather-end) at c.keep_all.ensures.any_moment in
    let fits = rw (same g here.After-gather-end) at c.keep_all.ensures.fit in
    makes_all d.tells d.moment d.left_since c.args.self.now.journal.disk c.keep_all.new.self.disk s w.0 _
    (λ told. leaves s w.0 told (c.requires.open told) w.1 w.3)
    (λ told. fits s w.0 told (c.requires.open told) w.1 w.3) w.2

pub returns-in-Ok-keep_all-clause-left : goal.returns-in-Ok-keep_all-clause-left
returns-in-Ok-keep_all-clause-left g c right =
    let d = g.D.Disk in
    let core = c.args.self.now.core in
    let now = c.keep_all.new.self in
    let here = goal.at.returns-in-Ok-keep_all-clause-left g c in
    let before = first g here.In-Ok in
    let w = led g here.After-gather-end before in
    let is : c.in-Some.number ≡ c.args.last + 1 = search rules in
    let kept = rw (same g here.After-gather-end) at c.in-Ok-keep_all.ensures.kept in
    kept_so c.gather-end.result (now ≡ c.args.self.now.journal)
    (TakesUpTo c.args.last c.args.payload.now c.args.blocks.now core c.args.self.now.taken)
    (λ x. d.tells → IsOpen d.seen d.images now.log now.disk (summary x)) (StandsForEither d.tells (d.images now.disk) core)
    c.gather-end.ensures.memory
    (takes_up_to c.args.last c.in-Some.number c.args.payload.now c.args.blocks.now c.gather-end.new.blocks core c.take_payload.new.self.core
    c.args.self.now.taken c.take_payload.new.self.taken c.take_payload.new.batch c.gather-end.new.batch _
    is (c.in-Ok.ensures.takes right) (before.takes.leads.right right) c.gather-end.ensures.waiting
    (λ told. subst (λ (s : Summary). IsOpen d.seen d.images now.log now.disk s) (sym w.takes.leads.came)
    (kept (summary core) w.transactions told (c.requires.open told) w.put w.fits)))

pub returns-in-Ok-keep_all-clause-takes : goal.returns-in-Ok-keep_all-clause-takes
returns-in-Ok-keep_all-clause-takes g c right =
    let here = goal.at.returns-in-Ok-keep_all-clause-takes g c in
    let is : c.in-Some.number ≡ c.args.last + 1 = search rules in
    takes_on c.gather-end.result c.args.last c.in-Some.number c.args.payload.now c.args.blocks.now c.gather-end.new.blocks
    c.args.self.now.core c.take_payload.new.self.core c.gather-end.new.self.core
    c.args.self.now.taken c.take_payload.new.self.taken c.gather-end.new.self.taken
    is (c.in-Ok.ensures.takes right) (c.gather-end.ensures.reaches ((first g here.In-Ok).takes.leads.right right))

-- ---- what waits may not be kept

pub returns-clause-makes : goal.returns-clause-makes
returns-clause-makes g c =
    let d = g.D.Disk in
    let s = summary c.args.self.now.core in
    let here = goal.at.returns-clause-makes g c in
    let w = waiting g here.After-gather-end (first g here.In-Ok) in
    let leaves = rw (same g here.After-gather-end) at c.keep_all.ensures.any_moment in
    let fits = rw (same g here.After-gather-end) at c.keep_all.ensures.fit in
    makes_all d.tells d.moment d.left_since c.args.self.now.journal.disk c.keep_all.new.self.disk s w.0 _
    (λ told. leaves s w.0 told (c.requires.open told) w.1 w.3)
    (λ told. fits s w.0 told (c.requires.open told) w.1 w.3) (record { last = w.2.last; takes = w.2.takes; done = tt })

pub returns-clause-left : goal.returns-clause-left
returns-clause-left g c right =
    let d = g.D.Disk in
    let core = c.args.self.now.core in
    let now = c.keep_all.new.self in
    let here = goal.at.returns-clause-left g c in
    let before = first g here.In-Ok in
    let w = led g here.After-gather-end before in
    let is : c.in-Some.number ≡ c.args.last + 1 = search rules in
    let leaves = rw (same g here.After-gather-end) at c.keep_all.ensures.any_moment in
    let undone = rw (same g here.After-gather-end) at c.in-Err-keep_all.ensures.undone in
    unkept_so c.in-Err-keep_all.stop c.unkept.result (now ≡ c.args.self.now.journal)
    (TakesUpTo c.args.last c.args.payload.now c.args.blocks.now core c.args.self.now.taken)
    (λ x. d.tells → IsOpen d.seen d.images now.log now.disk (summary x)) (StandsForEither d.tells (d.images now.disk) core)
    c.unkept.ensures.is undone
    (takes_up_to c.args.last c.in-Some.number c.args.payload.now c.args.blocks.now c.gather-end.new.blocks core c.take_payload.new.self.core
    c.args.self.now.taken c.take_payload.new.self.taken c.take_payload.new.batch c.gather-end.new.batch _
    is (c.in-Ok.ensures.takes right) (before.takes.leads.right right) c.gather-end.ensures.waiting
    (stands_for_either d.tells d.moment d.left_since d.images g.met.D.Disk.counts_now c.args.self.now.journal.disk
    now.disk core c.gather-end.ensures.waiting.core w.transactions w.takes.leads.came
    (λ told. leaves (summary core) w.transactions told (c.requires.open told) w.put w.fits)))

pub returns-clause-cause : goal.returns-clause-cause
returns-clause-cause g c source =
    let here = goal.at.returns-clause-cause g c in
    c.unkept.ensures.cause source (g.D.Disk.faults c.args.self.now.journal.disk) (g.D.Disk.faults c.keep_all.new.self.disk)
    (rw (same g here.After-gather-end) at c.in-Err-keep_all.ensures.cause)

pub returns-clause-stops : goal.returns-clause-stops
returns-clause-stops g c right =
    let core = c.args.self.now.core in
    let mid = c.take_payload.new.self in
    let is : c.in-Some.number ≡ c.args.last + 1 = search rules in
    let no : c.is_empty.result ≡ false = search rules in
    let takes = subst (λ (n : ℕ). TakesPayload n c.args.payload.now core c.args.self.now.taken mid.core mid.taken) is (c.in-Ok.ensures.takes right) in
    new_stops c.args.place (c.args.last + 1) c.args.payload.now core c.args.self.now.taken mid.core mid.taken c.unkept.result takes
    (λ le.
    let had : c.in-Some.number ≤ core.number = subst (λ (n : ℕ). n ≤ core.number) (sym is) le in
    let none : c.take_payload.new.batch ≡ [] = c.take_payload.ensures.passed had ∙ c.new-batch.ensures in
    let clash : ◌≡◌ {A = Bool} true false = sym (c.is_empty.ensures.1 none) ∙ no in
    absurd (cc))
    (λ t lt admitted. c.unkept.ensures.stops core (c.args.last + 1) t lt admitted)

-- ---- what a crash leaves

pub returns-in_default-clause-stages : goal.returns-in_default-clause-stages
returns-in_default-clause-stages g c right told = left_alone g.D.Disk.tells g.D.Disk.moment g.D.Disk.left_since
    g.D.Disk.seen g.D.Disk.images g.met.D.Disk.only_now c.args.self.now.journal.log c.args.self.now.journal.disk
    (summary c.args.self.now.core) (StandsUpTo c.args.last c.args.payload.now c.args.blocks.now c.args.self.now.core
    c.args.self.now.taken) c.requires.open (λ image stands. inl stands) told

pub returns-in-Err-clause-stages : goal.returns-in-Err-clause-stages
returns-in-Err-clause-stages g c right told = rw c.take_payload.ensures.journal
    (left_alone g.D.Disk.tells g.D.Disk.moment g.D.Disk.left_since g.D.Disk.seen g.D.Disk.images g.met.D.Disk.only_now
    c.args.self.now.journal.log c.args.self.now.journal.disk (summary c.args.self.now.core)
    (StandsUpTo c.args.last c.args.payload.now c.args.blocks.now c.args.self.now.core c.args.self.now.taken)
    c.requires.open (λ image stands. inl stands) told)

pub returns-then-is_empty-clause-stages : goal.returns-then-is_empty-clause-stages
returns-then-is_empty-clause-stages g c right told = rw c.take_payload.ensures.journal
    (left_alone g.D.Disk.tells g.D.Disk.moment g.D.Disk.left_since g.D.Disk.seen g.D.Disk.images g.met.D.Disk.only_now
    c.args.self.now.journal.log c.args.self.now.journal.disk (summary c.args.self.now.core)
    (StandsUpTo c.args.last c.args.payload.now c.args.blocks.now c.args.self.now.core c.args.self.now.taken)
    c.requires.open (λ image stands. inl stands) told)

pub returns-in-Ok-keep_all-clause-stages : goal.returns-in-Ok-keep_all-clause-stages
returns-in-Ok-keep_all-clause-stages g c right told =
    let d = g.D.Disk in
    let core = c.args.self.now.core in
    let here = goal.at.returns-in-Ok-keep_all-clause-stages g c in
    let before = first g here.In-Ok in
    let w = led g here.After-gather-end before in
    let is : c.in-Some.number ≡ c.args.last + 1 = search rules in
    let leaves = rw (same g here.After-gather-end) at c.keep_all.ensures.any_moment in
    leaves_up_to d.moment d.left_since c.args.self.now.journal.disk c.keep_all.new.self.disk
    c.args.last c.in-Some.number c.args.payload.now c.args.blocks.now c.gather-end.new.blocks core
    c.take_payload.new.self.core
    c.args.self.now.taken c.take_payload.new.self.taken c.take_payload.new.batch c.gather-end.new.batch w.transactions
    is (c.in-Ok.ensures.takes right) (before.takes.leads.right right) c.gather-end.ensures.waiting w.takes.leads.came
    (leaves (summary core) w.transactions told (c.requires.open told) w.put w.fits)

pub returns-clause-stages : goal.returns-clause-stages
returns-clause-stages g c right told =
    let d = g.D.Disk in
    let core = c.args.self.now.core in
    let here = goal.at.returns-clause-stages g c in
    let before = first g here.In-Ok in
    let w = led g here.After-gather-end before in
    let is : c.in-Some.number ≡ c.args.last + 1 = search rules in
    let leaves = rw (same g here.After-gather-end) at c.keep_all.ensures.any_moment in
    leaves_up_to d.moment d.left_since c.args.self.now.journal.disk c.keep_all.new.self.disk
    c.args.last c.in-Some.number c.args.payload.now c.args.blocks.now c.gather-end.new.blocks core
    c.take_payload.new.self.core
    c.args.self.now.taken c.take_payload.new.self.taken c.take_payload.new.batch c.gather-end.new.batch w.transactions
    is (c.in-Ok.ensures.takes right) (before.takes.leads.right right) c.gather-end.ensures.waiting w.takes.leads.came
    (leaves (summary core) w.transactions told (c.requires.open told) w.put w.fits)
