-- The transactions of calls, one after the other, and the steps that they are.
use Rattle.std.proofs.Common.{◌≡◌, ℕ, ◌+◌, ◌≤◌, List, [], ◌∷◌, ◌++◌, Result, Ok, Err, OnOk, refl, sym, ap, subst, ◌∙◌}
use Rattle.core_laws.proofs.Making.{core_right}
use Rattle.flow_core.specs.Admitting.{IsAdmitted}
use Rattle.flow_core.specs.Allowing.{IsAllowed, CountsRoot}
use Rattle.flow_core.specs.Judgements.{IsVerdict}
use Rattle.flow_core.specs.Summaries.{Summary, summary}
use Rattle.flow_core.specs.declared.judging.Verdict.{Verdict}
use Rattle.flow_core.specs.declared.judging.Verdict.TheVariants.{Do}
use Rattle.flow_core.specs.declared.state.Core.{Core}
use Rattle.flow_disk.specs.Images.{Image}
use Rattle.flow_model.specs.declared.commands.Command.{Command}
use Rattle.flow_model.specs.declared.transactions.Transaction.{Transaction}
use Rattle.flow_model.specs.declared.transactions.Transaction.TheVariants.{Import, Start, Turn, Claim, Release}
use Rattle.flow_model.specs.declared.transactions.Transaction.TheVariants.{Transfer, Take, Done, Force, Restart}
use Rattle.flow_model.specs.declared.transactions.Transaction.TheVariants.{Suspend, Resume, Terminate, Delete, Clock}
use Rattle.machine.specs.States.{State}
use Rattle.machine.specs.Steps.{Runs, Steps}
use Rattle.machine_laws.proofs.AppliedSteps.{applied_step}
use Rattle.machine_laws.proofs.Good.{verdict_good, admitted_good}
use Rattle.machine_laws.specs.Applied.{Applied}
use Rattle.machine_laws.specs.Right.{HoldsOpen}
use Rattle.machine_laws.specs.Viewed.{view}
use Rattle.machine_laws.proofs.Keyed.{applied_keyed, verdict_free, admitted_free}
use Rattle.worklist_laws.proofs.OpenAsked.{verdict_asks, admitted_asks}
use Rattle.worklist_laws.specs.Asking.{AsksOpen}
use Rattle.flow_session.specs.Histories.{after}
use Rattle.flow_session.specs.Leading.{LeadsBy}
use Rattle.flow_session.specs.Serving.{Makes}
use Rattle.flow_session.proofs.Calls.{after_append, makes_more, makes_so}

-- ---- no transaction, and one behind others

pub leads_none : (c : Core) → LeadsBy c [] c
leads_none c = record { came = refl; right = λ right. right; steps = λ right. refl; keyed = λ right keyed. keyed }

runs_more : (s : State) (ts us : List Transaction) (mid s' : State) → Runs s ts mid → Runs mid us s'
    → Runs s (ts ++ us) s'
runs_more s [] us mid s' first second = subst (λ (x : State). Runs x us s') first second
runs_more s (t ∷ ts) us mid s' first second = (first.0, first.1, runs_more first.0 ts us mid s' first.2 second)

pub leads_more : (c d e : Core) (ts us : List Transaction) → LeadsBy c ts d → LeadsBy d us e → LeadsBy c (ts ++ us) e
leads_more c d e ts us first second = record {
  came = second.came ∙ ap (λ (s : Summary). after s us) first.came ∙ sym (after_append (summary c) ts us);
  right = λ right. second.right (first.right right);
  steps = λ right.
      runs_more (view c) ts us (view d) (view e) (first.steps right) (second.steps (first.right right));
  keyed = λ right keyed. second.keyed (first.right right) (first.keyed right keyed);
}

-- ---- one transaction

-- a run of one transaction is its step
pub one_step : (s : State) (t : Transaction) (s' : State) → Runs s (t ∷ []) s' → Steps s t s'
one_step s t s' run = subst (Steps s t) (sym run.2) run.1

-- what is asked of a change of a hold
pub holds_asked : (c : Core) (t : Transaction) → AsksOpen c t → HoldsOpen c t
holds_asked c (Import text) asks = tt
holds_asked c (Start root process version starter key settings) asks = tt
holds_asked c (Turn queue message) asks = tt
holds_asked c (Claim item who) asks = asks
holds_asked c (Release item who) asks = asks
holds_asked c (Transfer item who to) asks = asks
holds_asked c (Take item take) asks = asks
holds_asked c (Done item who settings) asks = tt
holds_asked c (Force item settings) asks = tt
holds_asked c (Restart item) asks = asks
holds_asked c (Suspend root) asks = tt
holds_asked c (Resume root) asks = tt
holds_asked c (Terminate root) asks = tt
holds_asked c (Delete root) asks = tt
holds_asked c (Clock minutes) asks = tt

-- the transaction to which a command is judged, applied
leads_one : (c c' : Core) (command : Command) (t : Transaction) → IsVerdict c command (Do t) → Applied c t c'
    → CountsRoot c t c' → LeadsBy c (t ∷ []) c'
leads_one c c' command t is applied counts = record {
  came = applied.came;
  right = λ right. core_right c c' t (record {
    allowed = is.2;
    drives = applied.drives;
    counts = counts;
    lives = (c.number + 1, ap (λ (s : Summary). s.live) applied.came);
  }) right;
  steps = λ right. (
    view c',
    applied_step c c' right.0 right.1 t is.2 (holds_asked c t (verdict_asks c command t is))
        (verdict_good c command t is) applied,
    refl,
  );
  keyed = λ right keyed.
      applied_keyed c c' t right.0 right.1 is.2 (verdict_good c command t is)
      (verdict_free c command t is) keyed applied;
}

pub leads_by : (c c' : Core) (command : Command) (v : Verdict) (t : Transaction) → IsVerdict c command v → v ≡ Do t
    → Applied c t c' → CountsRoot c t c' → LeadsBy c (t ∷ []) c'
leads_by c c' command v t verdict is applied counts =
    leads_one c c' command t (subst (IsVerdict c command) is verdict) applied counts

-- the transaction of a record that is admitted, adopted as the next one
pub leads_adopted : (c c' : Core) (number : ℕ) (t : Transaction) → IsAdmitted c number t
    → IsAllowed c t → Applied c t c' → CountsRoot c t c' → LeadsBy c (t ∷ []) c'
leads_adopted c c' number t admitted is applied counts = record {
  came = applied.came;
  right = λ right. core_right c c' t (record {
    allowed = is;
    drives = applied.drives;
    counts = counts;
    lives = (c.number + 1, ap (λ (s : Summary). s.live) applied.came);
  }) right;
  steps = λ right. (
    view c',
    applied_step c c' right.0 right.1 t is (holds_asked c t (admitted_asks c number t admitted))
        (admitted_good c number t admitted) applied,
    refl,
  );
  keyed = λ right keyed.
      applied_keyed c c' t right.0 right.1 is (admitted_good c number t admitted) (admitted_free c number t admitted)
      keyed applied;
}

-- ---- calls

so_ok : {T E P : Type 0} (r : Result T E) → P → OnOk r P
so_ok (Ok x) so = so
so_ok (Err e) so = tt

module _ {J : Type 0} (tells : Type 0) (moment : J → ℕ) (left_since : J → ℕ → Image → Type 0) where
  -- one call after another
  pub leads_on : ((journal : J) (t : ℕ) (c : Image) → t ≤ moment journal → left_since journal (moment journal) c
      → left_since journal t c)
      → (old mid new : J) (c d e : Core)
      → Makes tells moment left_since old mid (summary c) (λ ts. LeadsBy c ts d)
      → Makes tells moment left_since mid new (summary d) (λ ts. LeadsBy d ts e)
      → Makes tells moment left_since old new (summary c) (λ ts. LeadsBy c ts e)
  leads_on counts_now old mid new c d e first second =
      makes_more tells moment left_since counts_now old mid new (summary c) (summary d) (λ ts. LeadsBy c ts d)
      (λ ts. LeadsBy d ts e) (λ ts. LeadsBy c ts e) first (λ ts leads. leads.came) second (λ ts us a b. leads_more c d e ts us a b)

  -- calls that are done, behind which nothing more is made
  pub leads_so : {T E : Type 0} (r : Result T E) (old new : J) (c d : Core)
      → Makes tells moment left_since old new (summary c) (λ ts. LeadsBy c ts d)
      → Makes tells moment left_since old new (summary c) (λ ts. OnOk r (LeadsBy c ts d))
  leads_so r old new c d makes =
      makes_so tells moment left_since old new (summary c) (λ ts. LeadsBy c ts d) (λ ts. OnOk r (LeadsBy c ts d)) makes
      (λ ts leads. so_ok r leads)
