-- What a crash leaves of a history that commands make, also of one that a session makes: the summary of the state after
-- a front part of it.
use Rattle.std.proofs.Common.{◌≡◌, inl, inr, ℕ, zero, suc, ◌+◌, ◌≤◌, not, Option, Some, None, List, [], ◌∷◌, take}
use Rattle.std.proofs.Common.{refl, ap, sym, subst, ◌∙◌}
use Rattle.std.specs.List.{filter}
use Rattle.flow_core.specs.Summaries as of_core
use Rattle.flow_core.specs.Summaries.{Summary, summary, next}
use Rattle.flow_core.specs.declared.state.Core.{Core}
use Rattle.flow_disk.specs.Images.{Image}
use Rattle.flow_disk.specs.declared.disk.Slot.{Slot}
use Rattle.flow_disk.proofs.Runs.{weaker}
use Rattle.flow_model.specs.declared.transactions.Numbered.{Numbered}
use Rattle.flow_model.specs.declared.transactions.Transaction.{Transaction}
use Rattle.flow_model.specs.declared.transactions.Transaction.TheVariants.{Import, Start, Turn, Claim, Release}
use Rattle.flow_model.specs.declared.transactions.Transaction.TheVariants.{Transfer, Take, Done, Force, Restart}
use Rattle.flow_model.specs.declared.transactions.Transaction.TheVariants.{Suspend, Resume, Terminate, Delete, Clock}
use Rattle.flow_session.specs.Refusing.{IsOpenedTo}
use Rattle.flow_session.specs.Histories.{StandsFor, StandsAfterSome, after}
use Rattle.machine.specs.States.{State, blank}
use Rattle.machine.specs.Steps.{root_about, is_root, deleted, started, live_by, last_root_by, Steps}
use Rattle.machine_laws.specs.Viewed.{view}
use Rattle.reopening_laws.specs.Making.{MadeByCommands}
use Rattle.reopening_laws.proofs.Limits.{keeps_within}
use Rattle.reopening_laws.proofs.Sessions.{made_by_commands}
use Rattle.compaction_laws.specs.Checkpoints.{summary_of}
use Rattle.compaction_laws.specs.Compact.{IsCompact}
use Rattle.compaction_laws.specs.Crashes.{IsAfterSome, OpensAfterSome, CallsResume, ScriptsResume}
use Rattle.compaction_laws.specs.Crashes.{IsFirst}
use Rattle.compaction_laws.proofs.Compact.{queues_length, step_compact, blank_anew, anew_compact}
use Rattle.compaction_laws.proofs.Images.{reopened_one}
use Rattle.compaction_laws.proofs.Judged.{ready}
use Rattle.compaction_laws.proofs.Opened.{opened_compact}

-- ---- the machine and the engine name the same parts of a transaction

same_about : (t : Transaction) → root_about t ≡ of_core.root_about t
same_about (Import text) = refl
same_about (Start root process version starter key settings) = refl
same_about (Turn queue message) = refl
same_about (Claim item who) = refl
same_about (Release item who) = refl
same_about (Transfer item who to) = refl
same_about (Take item take) = refl
same_about (Done item who settings) = refl
same_about (Force item settings) = refl
same_about (Restart item) = refl
same_about (Suspend root) = refl
same_about (Resume root) = refl
same_about (Terminate root) = refl
same_about (Delete root) = refl
same_about (Clock minutes) = refl

same_deleted : (t : Transaction) → deleted t ≡ of_core.deleted t
same_deleted (Delete root) = refl
same_deleted t = refl

same_started : (t : Transaction) → started t ≡ of_core.started t
same_started (Start root process version starter key settings) = refl
same_started t = refl

same_root : (root : ℕ) (o : Option ℕ) → is_root root o ≡ of_core.is_root root o
same_root root None = refl
same_root root (Some other) = refl

same_roots : (last : ℕ) (o : Option ℕ) → last_root_by o last ≡ of_core.roots_by o last
same_roots last None = refl
same_roots last (Some root) = refl

same_apart : (root : ℕ) (n : Numbered)
    → is_root root (root_about n.transaction) ≡ of_core.is_root root (of_core.root_about n.transaction)
same_apart root n =
    same_root root (root_about n.transaction) ∙ ap (of_core.is_root root) (same_about n.transaction)

same_live : (number : ℕ) (t : Transaction) (live : List Numbered) (o : Option ℕ)
    → live_by o number t live ≡ of_core.live_by o number t live
same_live number t live None = refl
same_live number t live (Some root) = λ i. filter (λ n. not (same_apart root n i)) live

-- ---- a history

-- a step makes the summary of the next state
pub summary_next : (s mid : State) (t : Transaction) → Steps s t mid → summary_of mid ≡ next t (summary_of s)
summary_next s mid t steps = ap summary_of steps.next ∙ (λ i. record {
  queues = queues_length s t i;
  limit = s.limit;
  transactions = s.transactions + 1;
  roots = (same_roots s.last_root (started t) ∙ ap (λ o. of_core.roots_by o s.last_root) (same_started t)) i;
  live = (same_live (s.transactions + 1) t s.live (deleted t)
      ∙ ap (λ o. of_core.live_by o (s.transactions + 1) t s.live) (same_deleted t)) i;
})

-- the state after the first n transactions of a history
pub record Front (n : ℕ) (ts : List Transaction) (s : State) : Type 0 where
  pub mid : State
  pub made : MadeByCommands s (take n ts) mid
  pub compact : IsCompact mid
  pub summary_is : summary_of mid ≡ after (summary_of s) (take n ts)

pub front : (n : ℕ) (ts : List Transaction) (s s' : State) → IsCompact s → MadeByCommands s ts s' → Front n ts s
front zero ts s s' compact made = record { mid = s; made = refl; compact = compact; summary_is = refl }
front (suc n) [] s s' compact made = record { mid = s; made = refl; compact = compact; summary_is = refl }
front (suc n) (t ∷ ts) s s' compact (command, mid, judged, steps, others) =
    let now = step_compact s mid t compact (ready s t command judged).0 steps in
    let more = front n ts mid s' now others in
    record {
      mid = more.mid;
      made = (command, mid, judged, steps, more.made);
      compact = more.compact;
      summary_is = more.summary_is ∙ ap (λ (m : Summary). after m (take n ts)) (summary_next s mid t steps);
    }

pub crash_resumes : (s s' : State) (ts : List Transaction) (image : Image) (c : Core) → IsCompact s
    → MadeByCommands s ts s' → StandsAfterSome (summary_of s) ts image → IsOpenedTo image c
    → IsAfterSome s ts c
crash_resumes s s' ts image c compact made (n, stands) opened =
    let there = front n ts s s' compact made in
    let stands_there = subst (λ (m : Summary). StandsFor m image) (sym there.summary_is) stands in
    (n, there.mid, there.made, reopened_one there.mid image c there.compact stands_there opened)

-- ---- calls of a session

module _ {J : Type 0} (tells : Type 0) (moment : J → ℕ) (left_since : J → ℕ → Image → Type 0) where
  pub calls_resume : CallsResume tells moment left_since
  calls_resume c s' j j' compact makes told =
      let ts = makes.transactions in
      weaker moment left_since (λ journal image. left_since journal 0 image) j j' (StandsAfterSome (summary c) ts)
      (OpensAfterSome (view c) ts) (makes.any_moment told)
      (λ image stands d opened. crash_resumes (view c) s' ts image d compact makes.ended stands opened)

module _ {J : Type 0} (tells : Type 0) (holds : J → Summary → Type 0) (moment : J → ℕ)
    (left_since : J → ℕ → Image → Type 0) (place : J → Slot × ℕ) (moved : J → J → Summary → Type 0)
    (at_rest : (journal : J) (s : Summary) (c : Image) → tells → holds journal s
    → left_since journal (moment journal) c → StandsFor s c)
    (counts_now : (journal : J) (t : ℕ) (c : Image) → t ≤ moment journal → left_since journal (moment journal) c
    → left_since journal t c) where
  pub scripts_resume : ScriptsResume tells holds moment left_since place moved
  scripts_resume s j inputs replies s' j' held served whole compact =
      let makes = made_by_commands tells holds moment left_since place moved at_rest counts_now s j inputs replies s' j'
      held served whole in
      record {
        transactions = makes.transactions;
        leads = makes.ended.0;
        made = makes.ended.1;
        any_moment = calls_resume tells moment left_since s.core (view s'.core) j j' compact
            (record {
              transactions = makes.transactions;
              any_moment = makes.any_moment;
              fit = makes.fit;
              ended = makes.ended.1;
            });
      }

-- ---- which states of a session are compact

pub history_compact : (ts : List Transaction) (s s' : State) → IsCompact s → MadeByCommands s ts s' → IsCompact s'
history_compact [] s s' compact made = subst IsCompact (sym made) compact
history_compact (t ∷ ts) s s' compact (command, mid, judged, steps, others) =
    history_compact ts mid s' (step_compact s mid t compact (ready s t command judged).0 steps) others

first_compact : (c : Core) → IsFirst c → IsCompact (view c)
first_compact c (inl (queues, limit, seen)) =
    subst IsCompact (sym seen) (anew_compact (blank queues limit) (blank_anew queues limit 0 0))
first_compact c (inr (image, opened)) =
    let within = keeps_within image opened.slot opened.header opened.payloads opened.end opened.counts in
    opened_compact opened.header opened.payloads c within.some_ opened.leads

pub session_compact : (c : Core) (s : State) (ts : List Transaction) → IsFirst c → MadeByCommands (view c) ts s
    → IsCompact s
session_compact c s ts first made = history_compact ts (view c) s (first_compact c first) made
