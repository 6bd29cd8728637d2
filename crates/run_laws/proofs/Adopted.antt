-- Transactions that a state of the engine adopts are made by commands: so are those with which a stream comes from
-- stage to stage.
use Rattle.std.proofs.Common.{◌≡◌, inl, inr, ℕ, ◌+◌, List, [], ◌∷◌, ◌++◌, refl, sym, ap, subst, arith}
use Rattle.core_laws.specs.RightStates.{IsRightCore}
use Rattle.flow_core.specs.Admitting.{IsAdmitted, IsPlace}
use Rattle.flow_core.specs.declared.judging.Verdict.TheVariants.{Do}
use Rattle.flow_core.specs.declared.state.Core.{Core}
use Rattle.flow_disk.specs.Images.{Image}
use Rattle.flow_model.specs.declared.commands.Command.{Command}
use Rattle.flow_model.specs.declared.transactions.Transaction.{Transaction}
use Rattle.flow_session.specs.Histories.{under}
use Rattle.flow_session.specs.Refusing.{Admits, NoRecord, OneRecord, IsOpenedTo}
use Rattle.flow_session.proofs.Leading.{leads_adopted}
use Rattle.flow_session.proofs.Rights.{begun_right}
use Rattle.flow_txn.specs.Ranges.{IsInRange}
use Rattle.machine.specs.Verdicts.{IsVerdict}
use Rattle.machine_laws.specs.Viewed.{view}
use Rattle.machine_laws.specs.Keyed.{AreKeyed}
use Rattle.machine_laws.proofs.Keyed.{blank_keyed}
use Rattle.reopening_laws.specs.Making.{MadeByCommands}
use Rattle.reopening_laws.proofs.Limits.{keeps_within}
use Rattle.compaction_laws.specs.Compact.{IsMadeAnew}
use Rattle.compaction_laws.proofs.Compact.{step_anew}
use Rattle.compaction_laws.proofs.Opened.{one_adopted}
use Rattle.admission_laws.proofs.Commanded.{next_commanded}
use Rattle.admission_laws.proofs.Histories.{anew_apart}
use Rattle.admission_laws.proofs.Items.{items_apart}
use Rattle.standby.specs.Adopting.{AdoptsNext, AdoptsAll}
use Rattle.standby.specs.Stages.{Adopts, Takes, Stage, Reaches, Here, Further}
use Rattle.run_laws.specs.Follows.{AdoptedAreMade}

-- ---- a state of the engine

-- a state is right, its keys are the machine's, and its live transactions are made again
pub record IsRightAndAnew (c : Core) : Type 0 where
  pub right : IsRightCore c
  pub keyed : AreKeyed c
  pub anew : IsMadeAnew (view c)

-- records lead from a right state to a right one
admits_right : (c : Core) (bytes : List (List ℕ)) (c' : Core) → Admits c bytes c' → IsRightCore c → AreKeyed c
    → IsRightCore c' × AreKeyed c'
admits_right c _ _ NoRecord right keyed = (right, keyed)
admits_right c _ _ (OneRecord {payloads = bytes} {payload} {c'} {c''} admits one) right keyed =
    let before = admits_right c bytes c' admits right keyed in
    let stands = one_adopted c' c'' payload before.0 before.1 one in
    (stands.right, stands.keyed)

-- so a state to which an image is opened is right, and its keys are the machine's
pub opened_right : (image : Image) (c : Core) → IsOpenedTo image c → IsRightCore c × AreKeyed c
opened_right image c opened =
    let h = opened.header in
    let within = keeps_within image opened.slot h opened.payloads opened.end opened.counts in
    let first = opened.leads.0 in
    let begins = opened.leads.1 in
    admits_right first opened.payloads c opened.leads.2
    (begun_right first (under h) begins.blank begins.kept begins.counts within.some_).0
    (blank_keyed first begins.blank)

-- ---- transactions

-- a transaction in range that is admitted next is the one to which a command is judged
commanded : (c : Core) (t : Transaction) → IsRightAndAnew c → IsInRange (c.number + 1) t
    → IsAdmitted c (c.number + 1) t → (command : Command) × IsVerdict (view c) command (Do t)
commanded c t is range admitted =
    let apart = anew_apart (view c) is.anew in
    next_commanded c t is.keyed apart (items_apart (view c) apart) range admitted

-- one is adopted
adopts_next : (c : Core) (t : Transaction) (c' : Core) → IsRightAndAnew c → AdoptsNext c t c'
    → ((command : Command) × IsVerdict (view c) command (Do t)) × IsRightAndAnew c'
adopts_next c t c' is (range, adopts) =
    let judged = commanded c t is range adopts.admitted in
    let leads = leads_adopted c c' (c.number + 1) t adopts.admitted adopts.makes.allowed adopts.applied
    adopts.makes.counts in (
      judged,
      record {
        right = leads.right is.right;
        keyed = leads.keyed is.right is.keyed;
        anew = step_anew (view c) (view c') judged.0 t is.anew judged.1 adopts.steps;
      },
    )

pub adopts_all : (c : Core) (ts : List Transaction) (c' : Core) → IsRightAndAnew c → AdoptsAll c ts c'
    → MadeByCommands (view c) ts (view c') × IsRightAndAnew c'
adopts_all c [] c' is same = (ap view same, subst IsRightAndAnew (sym same) is)
adopts_all c (t ∷ ts) c' is (mid, next, others) =
    let one = adopts_next c t mid is next in
    let rest = adopts_all mid ts c' one.1 others in
    ((one.0.0, view mid, one.0.1, next.1.steps, rest.0), rest.1)

pub adopted_made : AdoptedAreMade
adopted_made c c' ts right keyed anew adopts =
    (adopts_all c ts c' (record { right = right; keyed = keyed; anew = anew }) adopts).0

-- ---- stages

adopts_more : (ts us : List Transaction) (c d e : Core) → AdoptsAll c ts d → AdoptsAll d us e
    → AdoptsAll c (ts ++ us) e
adopts_more [] us c d e first second = subst (λ (x : Core). AdoptsAll x us e) first second
adopts_more (t ∷ ts) us c d e (mid, next, others) second = (mid, next, adopts_more ts us mid d e others second)

-- a transaction that is taken is adopted as the next one, or passed over
takes_next : (number : ℕ) (t : Transaction) (c : Core) (taken : ℕ) (c' : Core) (taken' : ℕ) → IsInRange number t
    → Takes number t c taken c' taken' → (ts : List Transaction) × AdoptsAll c ts c'
takes_next number t c taken c' taken' range (inl passed) = ([], passed.1)
takes_next number t c taken c' taken' range (inr (adopts, count)) =
    let place = next adopts.admitted.place in
    (t ∷ [], (c', subst (λ (k : ℕ). IsInRange k t × Adopts c k t c') place (range, adopts), refl))
  where
    next : IsPlace c number t → number ≡ c.number + 1
    next (inl (kept, kind)) =
        let beyond = adopts.beyond in
        let never : ⊥ = omega (arith, beyond, kept.0, kept.2) in
        absurd never
    next (inr (there, kind)) = there.2

-- transactions lead from a stage to another
reaches_all : (s s' : Stage) → Reaches s s' → (ts : List Transaction) × AdoptsAll s.core ts s'.core
reaches_all s _ Here = ([], refl)
reaches_all s _ (Further {mid} {to} before passes) =
    let so_far = reaches_all s mid before in
    let taken = passes.takes in
    let one = takes_next to.number taken.transaction mid.core mid.taken to.core to.taken taken.is.range taken.takes in
    (so_far.0 ++ one.0, adopts_more so_far.0 one.0 s.core mid.core to.core so_far.1 one.1)

-- so the state at a stage is one to which commands lead, right, and made again
pub reaches_anew : (s s' : Stage) → Reaches s s' → IsRightAndAnew s.core → IsRightAndAnew s'.core
reaches_anew s s' reached is =
    let all = reaches_all s s' reached in
    (adopts_all s.core all.0 s'.core is all.1).1
