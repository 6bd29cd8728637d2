-- What a crash leaves of a store that is a state's own is the own one of the state after a front part of what was made.
use Rattle.std.proofs.Common.{◌≡◌, ◌⊎◌, inl, inr, ℕ, ◌≤◌, List, [], ◌∷◌, ◌++◌, take, sym, subst, ◌∙◌, arith}
use Rattle.std.proofs.lemmas.List.{length-replicate}
use Rattle.std.proofs.lemmas.List.Elements.{All-nil}
use Rattle.flow_core.specs.Summaries.{Summary, summary}
use Rattle.flow_disk.specs.Images.{Image}
use Rattle.flow_disk.specs.Moments.{LeavesOnly}
use Rattle.flow_disk.specs.declared.disk.Slot.{Slot}
use Rattle.flow_disk.proofs.Runs.{weaker}
use Rattle.flow_model.specs.declared.instances.Message.{Message}
use Rattle.flow_model.specs.declared.transactions.Numbered.{Numbered}
use Rattle.flow_model.specs.declared.transactions.Transaction.{Transaction}
use Rattle.flow_session.specs.Fitting.{HasFitRecords}
use Rattle.flow_session.specs.Histories.{StandsFor, StandsAfterSome, IsLive, payloads}
use Rattle.flow_txn.specs.Ranges.{IsInRange}
use Rattle.machine.specs.States.{State, blank}
use Rattle.machine_laws.specs.Viewed.{view}
use Rattle.reopening_laws.specs.Making.{MadeByCommands}
use Rattle.reopening_laws.proofs.Sessions.{made_by_commands}
use Rattle.txn_log.specs.Stores.{Counts, store_of}
use Rattle.txn_log.specs.declared.header.Header.{Header}
use Rattle.compaction_laws.specs.Checkpoints.{summary_of}
use Rattle.compaction_laws.specs.Compact.{IsMadeAnew}
use Rattle.compaction_laws.specs.OwnStores.{IsOwnAfterSome, HistoriesAreFit, CrashesAreFit}
use Rattle.compaction_laws.specs.OwnStores.{ScriptsReopen, FitImagesReopen, OwnStoresReopen, OwnStoresStay}
use Rattle.compaction_laws.specs.OwnStores.{OwnStoresGoOn, OwnScriptsStay, NewStoresAreOwn}
use Rattle.compaction_laws.proofs.Compact.{blank_anew, anew_compact, history_anew}
use Rattle.compaction_laws.proofs.Crashed.{front}
use Rattle.compaction_laws.proofs.Fitted.{history_fit}
use Rattle.compaction_laws.proofs.Images.{reopened_one}
use Rattle.compaction_laws.proofs.Resumed.{counts_header}
use Rattle.compaction_laws.proofs.Since.{nothing_is}
use Rattle.compaction_laws.proofs.Unopened.{fit_opens}

-- ---- one image

pub histories_fit : HistoriesAreFit
histories_fit s s' ts anew made = history_fit ts s s' anew made

pub fit_reopens : FitImagesReopen
fit_reopens s image stands fit stop unopened =
    fit_opens image stands.slot stands.header (payloads stands.records) stands.end stands.counts fit stop unopened

pub own_reopens : OwnStoresReopen
own_reopens s image own = (
  λ stop unopened. fit_reopens (summary_of s) image own.stands own.fit stop unopened,
  λ c opened. reopened_one s image c (anew_compact s own.anew) own.stands opened,
)

-- what a crash leaves of a history that commands make, with fit records
own_after : (s s' : State) (ts : List Transaction) (image : Image) → IsMadeAnew s → MadeByCommands s ts s'
    → StandsAfterSome (summary_of s) ts image → HasFitRecords image → IsOwnAfterSome s ts image
own_after s s' ts image anew made (n, stands) fit =
    let there = front n ts s s' (anew_compact s anew) made in (
      n,
      there.mid,
      there.made,
      record {
        anew = history_anew (take n ts) s there.mid anew there.made;
        stands = subst (λ (m : Summary). StandsFor m image) (sym there.summary_is) stands;
        fit = fit;
      },
    )

-- ---- a new store

no_record : (image : Image) (slot : Slot) (h : Header) (end : ℕ) → store_of image ≡ Counts slot h [] end
    → HasFitRecords image
no_record image slot h end counts other place broken =
    let same = counts_header slot other h broken.header [] broken.payloads end broken.end (sym counts ∙ broken.counts)
    in
    split_nothing broken.breaks.front broken.breaks.payload broken.breaks.behind (same.1 ∙ broken.breaks.split)
  where
    split_nothing : (front : List (List ℕ)) (payload : List ℕ) (behind : List (List ℕ))
        → [] ≡ front ++ payload ∷ behind → ⊥
    split_nothing [] payload behind is = nothing_is payload behind is
    split_nothing (x ∷ front) payload behind is = nothing_is x (front ++ payload ∷ behind) is

pub new_own : NewStoresAreOwn
new_own image slot h end counts none no_root =
    let nobody : List Message = [] in
    record {
      anew = blank_anew h.queues h.limit 0 0;
      stands = record {
        slot = slot;
        header = h;
        records = [];
        end = end;
        counts = counts;
        comes_to = λ i. record {
          queues = sym (length-replicate h.queues nobody) i;
          limit = h.limit;
          transactions = none i;
          roots = no_root i;
          live = [];
        };
        fits = All-nil (λ (n : Numbered). IsInRange n.number n.transaction);
        later = omega (arith, none);
        live = All-nil (IsLive (summary_of (blank h.queues h.limit)));
      };
      fit = no_record image slot h end counts;
    }

-- ---- calls of a session

module _ {J : Type 0} (tells : Type 0) (moment : J → ℕ) (left_since : J → ℕ → Image → Type 0) where
  pub crashes_fit : CrashesAreFit tells moment left_since
  crashes_fit c s' j j' anew makes told fit =
      makes.fit told fit (history_fit makes.transactions (view c) s' anew makes.ended)

  -- what holds of each image that a crash leaves, and what else holds of it
  both : (j j' : J) (P Q : Image → Type 0) → LeavesOnly moment left_since j j' P → LeavesOnly moment left_since j j' Q
      → LeavesOnly moment left_since j j' (λ image. P image × Q image)
  both j j' P Q one other = record {
    later = one.later;
    each = λ image left. (one.each image left, other.each image left);
    before = λ t image early left. go image (left_since j t image) (one.before t image early left)
        (other.before t image early left);
  }
    where
      go : (image : Image) (Was : Type 0) → Was ⊎ P image → Was ⊎ Q image → Was ⊎ (P image × Q image)
      go image Was (inl was) second = inl was
      go image Was (inr here) (inl was) = inl was
      go image Was (inr here) (inr there) = inr (here, there)

  pub own_stay : OwnStoresStay tells moment left_since
  own_stay c s' j j' anew own makes told =
      let ts = makes.transactions in
      weaker moment left_since (λ journal image. left_since journal 0 image) j j'
      (λ image. StandsAfterSome (summary c) ts image × HasFitRecords image) (IsOwnAfterSome (view c) ts)
      (both j j' (StandsAfterSome (summary c) ts) HasFitRecords (makes.any_moment told)
      (crashes_fit c s' j j' anew makes told (λ image left. (own image left).fit)))
      (λ image is. own_after (view c) s' ts image anew makes.ended is.0 is.1)

-- ---- scripts, and the end of a call

module _ {J : Type 0} (tells : Type 0) (holds : J → Summary → Type 0) (moment : J → ℕ)
    (left_since : J → ℕ → Image → Type 0) (place : J → Slot × ℕ) (moved : J → J → Summary → Type 0)
    (at_rest : (journal : J) (s : Summary) (c : Image) → tells → holds journal s
    → left_since journal (moment journal) c → StandsFor s c)
    (counts_now : (journal : J) (t : ℕ) (c : Image) → t ≤ moment journal → left_since journal (moment journal) c
    → left_since journal t c) where
  pub own_go_on : OwnStoresGoOn tells holds moment left_since
  own_go_on c c' j j' anew own makes told held image left =
      let fits = crashes_fit tells moment left_since c (view c') j j' anew makes told (λ was here. (own was here).fit)
      in
      record {
        anew = history_anew makes.transactions (view c) (view c') anew makes.ended;
        stands = at_rest j' (summary c') image told held left;
        fit = fits.each image (counts_now j' (moment j) image fits.later left);
      }

  pub scripts_reopen : ScriptsReopen tells holds moment left_since place moved
  scripts_reopen s j inputs replies s' j' held served whole anew told fit =
      let makes = made_by_commands tells holds moment left_since place moved at_rest counts_now s j inputs replies s' j'
      held served whole in
      makes.fit told fit (history_fit makes.transactions (view s.core) (view s'.core) anew makes.ended.1)

  pub scripts_stay : OwnScriptsStay tells holds moment left_since place moved
  scripts_stay s j inputs replies s' j' held served whole anew own =
      let makes = made_by_commands tells holds moment left_since place moved at_rest counts_now s j inputs replies s' j'
      held served whole in
      record {
        transactions = makes.transactions;
        leads = makes.ended.0;
        made = makes.ended.1;
        any_moment = own_stay tells moment left_since s.core (view s'.core) j j' anew own
            (record {
              transactions = makes.transactions;
              any_moment = makes.any_moment;
              fit = makes.fit;
              ended = makes.ended.1;
            });
      }
