-- The records of transactions that commands make, from a state on whose live transactions are made again, are fit.
use Rattle.std.proofs.Common.{◌≡◌, ℕ, ◌+◌, ◌≤◌, List, [], ◌∷◌, refl, sym, ap, subst, ◌∙◌, arith}
use Rattle.std.specs.List.{All}
use Rattle.std.proofs.lemmas.List.{append-nil}
use Rattle.std.proofs.lemmas.List.Elements.{All-nil, All-weaker}
use Rattle.flow_core.specs.Admitting.{IsAdmitted}
use Rattle.flow_core.specs.Summaries.{Summary, summary}
use Rattle.flow_core.specs.declared.judging.Verdict.TheVariants.{Do}
use Rattle.flow_core.specs.declared.state.Core.{Core}
use Rattle.flow_model.specs.declared.commands.Command.{Command}
use Rattle.flow_model.specs.declared.graphs.Template.{Template}
use Rattle.flow_model.specs.declared.transactions.Numbered.{Numbered}
use Rattle.flow_model.specs.declared.transactions.Transaction.{Transaction}
use Rattle.flow_session.specs.Fitting.{IsFitNext, AreFitAlone, AreFitFrom}
use Rattle.flow_session.specs.Histories.{IsHeaderOf, IsLive, payloads}
use Rattle.flow_session.specs.Keeping.{Brings}
use Rattle.flow_session.specs.Refusing.{Admits, NoRecord, OneRecord, LeadsTo, BreaksAt}
use Rattle.flow_txn.specs.Ranges.{TransactionFits}
use Rattle.flow_txn.specs.Records.{record_bytes}
use Rattle.machine.specs.States.{State, templates}
use Rattle.machine.specs.Verdicts.{IsVerdict}
use Rattle.machine_laws.specs.Viewed.{view}
use Rattle.machine_laws.specs.Keyed.{AreKeyed}
use Rattle.reopening_laws.proofs.Admitted.{command_admitted}
use Rattle.reopening_laws.proofs.Codes.{items_have_codes}
use Rattle.reopening_laws.specs.Codes.{HasCodes, HaveCodes}
use Rattle.reopening_laws.specs.Making.{MadeByCommands}
use Rattle.txn_log.specs.Stored.{InRange}
use Rattle.txn_log.specs.declared.header.Header.{Header}
use Rattle.compaction_laws.specs.Checkpoints.{summary_of}
use Rattle.compaction_laws.specs.Compact.{counted_blank, IsMadeAnew}
use Rattle.compaction_laws.specs.Resuming.{IsCheckpointOf}
use Rattle.compaction_laws.proofs.Compact.{anew_compact, step_anew}
use Rattle.compaction_laws.proofs.Crashed.{summary_next}
use Rattle.compaction_laws.proofs.Images.{Gives, gives_one, leads_gives}
use Rattle.compaction_laws.proofs.Opened.{opened_keyed, opened_one}
use Rattle.compaction_laws.proofs.Resumed.{not_unfit, unbroken}
use Rattle.compaction_laws.proofs.Since.{AreMade, all_since, since_made, step_codes}

-- ---- the live transactions alone

checkpoint_of : (s : State) (h : Header) → IsMadeAnew s → InRange h → IsHeaderOf h (summary_of s)
    → All (IsLive (summary_of s)) s.live → IsCheckpointOf h s
checkpoint_of s h anew range counts live =
    let most = range.limit_high in
    record {
      counts = counts;
      some_ = range.queues_low;
      limit = omega (arith, most);
      anew = anew;
      fit = All-weaker (IsLive (summary_of s)) (λ (n : Numbered). TransactionFits n.transaction)
          (λ n is. is.in_range.1) s.live live;
    }

pub live_fit : (s : State) → IsMadeAnew s → AreFitAlone (summary_of s)
live_fit s anew h place range counts live breaks =
    unbroken h s s [] (checkpoint_of s h anew range counts live) refl (All-nil TransactionFits) place
    (subst (λ (bytes : List (List ℕ)). BreaksAt h bytes place) (sym (append-nil (payloads s.live))) breaks)

-- ---- the next one

-- a state to which records lead has the number up to which they are kept ones of their header
pub admits_kept : (first c : Core) (bytes : List (List ℕ)) → Admits first bytes c → c.kept ≡ first.kept
admits_kept first _ _ NoRecord = refl
admits_kept first _ _ (OneRecord {payloads = bytes} {payload} {c'} {c''} admits one) =
    one.kept ∙ admits_kept first c' bytes admits

leads_kept : (h : Header) (bytes : List (List ℕ)) (c : Core) → LeadsTo h bytes c → c.kept ≡ h.transactions
leads_kept h bytes c (first, begins, admits) = admits_kept first c bytes admits ∙ begins.kept

-- outputs begin with a return code behind records that are made
made_codes : (kept : ℕ) (ns : List Numbered) (s s' : State) → AreMade kept s ns s' → HaveCodes (templates s)
    → HaveCodes (templates s')
made_codes kept [] s s' all coded = subst HaveCodes (sym (ap templates all)) coded
made_codes kept (n ∷ ns) s s' (mid, is, steps, others) coded =
    made_codes kept ns mid s' others (step_codes kept s mid n is steps coded)

-- so they do in a state whose live transactions are made again
pub anew_codes : (s : State) → IsMadeAnew s → HaveCodes (templates s)
anew_codes s anew =
    made_codes s.transactions (all_since s []) (counted_blank s) s
    (since_made s (counted_blank s) s [] refl anew.remade refl)
    (All-nil (λ (t : Template). HasCodes t.graph))

-- records that give the summary of such a state lead to that state
leads_there : (s : State) (h : Header) (bytes : List (List ℕ)) (c : Core) → IsMadeAnew s → InRange h
    → Brings h bytes (summary_of s) → LeadsTo h bytes c → view c ≡ s
leads_there s h bytes c anew range brings leads =
    let gives : Gives h bytes (summary_of s) = record {
      records = brings.records;
      spelled = brings.spelled;
      ranged = brings.fits;
      comes_to = brings.comes_to;
    } in
    opened_one h bytes c s range.queues_low leads (anew_compact s anew)
    (gives_one h bytes (summary c) (summary_of s) (leads_gives h bytes c leads) gives)

-- there the transaction to which a command is judged is admitted
next_admitted : (s : State) (c : Core) (command : Command) (t : Transaction) → view c ≡ s → IsMadeAnew s → AreKeyed c
    → c.kept ≤ s.transactions → IsVerdict s command (Do t) → IsAdmitted c (s.transactions + 1) t
next_admitted s c command t seen anew keyed kept judged =
    let number : c.number ≡ s.transactions = ap (λ (x : State). x.transactions) seen in
    let coded : HaveCodes (templates (view c)) =
    subst (λ (x : State). HaveCodes (templates x)) (sym seen) (anew_codes s anew) in
    let judged_here : IsVerdict (view c) command (Do t) =
    subst (λ (x : State). IsVerdict x command (Do t)) (sym seen) judged in
    subst (λ (k : ℕ). IsAdmitted c (k + 1) t) number
    (command_admitted c keyed (items_have_codes (view c) coded) (omega (arith, kept, number)) command t judged_here)

pub next_fit : (s : State) (command : Command) (t : Transaction) → IsMadeAnew s → IsVerdict s command (Do t)
    → IsFitNext (summary_of s) t
next_fit s command t anew judged h bytes c range brings leads ranged unfit =
    let kept = leads_kept h bytes c leads in
    let later = brings.later in
    not_unfit c (record { number = s.transactions + 1; transaction = t }) (record_bytes (s.transactions + 1) t) refl
    ranged unfit
    (next_admitted s c command t (leads_there s h bytes c anew range brings leads) anew
    (opened_keyed h bytes c range.queues_low leads) (omega (arith, kept, later)) judged)

-- ---- a history

pub history_fit : (ts : List Transaction) (s s' : State) → IsMadeAnew s → MadeByCommands s ts s'
    → AreFitFrom (summary_of s) ts
history_fit [] s s' anew made = live_fit s anew
history_fit (t ∷ ts) s s' anew (command, mid, judged, steps, others) = (
  live_fit s anew,
  next_fit s command t anew judged,
  subst (λ (m : Summary). AreFitFrom m ts) (summary_next s mid t steps)
      (history_fit ts mid s' (step_anew s mid command t anew judged steps) others),
)
