-- What a run that follows a stream leaves of an own store: what was there, or what the transactions make that it takes.
use Rattle.std.proofs.Common.{◌≡◌, inl, inr, ℕ, ◌≤◌, List, [], Option, Result, Ok, Err}
use Rattle.std.proofs.Common.{⊎_elim, refl, sym, subst, ◌∙◌}
use Rattle.std.specs.Io.KnownBytes.{prepend_known}
use Rattle.std.specs.Prelude.{MatchResult}
use Rattle.flow_core.specs.Summaries.{summary}
use Rattle.flow_core.specs.declared.state.Core.{Core}
use Rattle.flow_disk.specs.Images.{Image}
use Rattle.flow_disk.specs.Moments.{LeavesOnly, Only}
use Rattle.flow_disk.specs.declared.disk.Disk.{Ghosts}
use Rattle.flow_disk.proofs.Runs.{weaker}
use Rattle.flow_model.specs.declared.transactions.Transaction.{Transaction}
use Rattle.flow_session.specs.Fitting.{HasFitRecords}
use Rattle.flow_session.specs.Histories.{StandsFor}
use Rattle.flow_session.specs.Refusing.{IsUnopened}
use Rattle.flow_session.specs.Serving.{Makes}
use Rattle.flow_words.specs.Correct.{PrintsWord}
use Rattle.flow_words.specs.Crashes.{IsFailing}
use Rattle.flow_words.specs.Following.{PrintsLine, PrintsResult, ComesToResult, PrintsFollowed}
use Rattle.flow_words.specs.Openings.{RefusesStore}
use Rattle.flow_words.specs.Outside.{Channels, files, KeepsFiles}
use Rattle.flow_words.specs.Printed.{Prints}
use Rattle.flow_words.specs.declared.status.Status.{Status}
use Rattle.flow_words.specs.declared.status.Status.TheVariants as status
use Rattle.flow_words.specs.declared.word.Word.{Word}
use Rattle.machine.specs.States.{State}
use Rattle.machine_laws.specs.Viewed.{view}
use Rattle.reopening_laws.specs.Making.{MadeByCommands}
use Rattle.compaction_laws.specs.OwnStores.{IsOwn, IsOwnAfterSome, AreOwnNow}
use Rattle.compaction_laws.proofs.OwnStores.{own_reopens, own_stay}
use Rattle.standby.specs.Adopting.{AdoptsAll}
use Rattle.standby.specs.Followed.{FollowsOpened, IsNotOpened, IsAtStage, StandsForEither}
use Rattle.standby.specs.Stages.{Follows, FollowsSource, IsDone, KeepsAt, PassesFront, Stage, StopsKept, behind}
use Rattle.standby.specs.declared.following.Followed.{Followed}
use Rattle.standby.specs.declared.stops.FollowStop.{FollowStop}
use Rattle.standby.specs.declared.stops.FollowStop.TheVariants as follow
use Rattle.txn_log.specs.declared.stops.LogStop.{LogStop}
use Rattle.txn_log.specs.declared.stops.LogStop.TheVariants as log
use Rattle.run_laws.specs.Follows.{IsOwnAtStage, AreOwnOf, AreOwnOfEither, FollowKeepsOwn}
use Rattle.run_laws.specs.Follows.{FollowsKeepOwn, FollowsReopen, CorrectFollowsKeepOwn}
use Rattle.run_laws.specs.Runs.{IsReopenedAfterSome}
use Rattle.run_laws.proofs.Adopted.{IsRightAndAnew, opened_right, adopts_all, reaches_anew}
use Rattle.run_laws.proofs.Fronts.{some_reopened, both}

-- ---- how such a run ends

failing : (other ended : Status) → (other ≡ status.Done → ⊥) → ended ≡ other → IsFailing ended
failing other ended fails is done = fails (sym is ∙ done)

text_failing : (text : List ℕ) (other : Status) (held held' : Option (List ℕ)) (ended : Status)
    → (other ≡ status.Done → ⊥) → Prints text other held held' ended → IsFailing ended
text_failing text other held held' ended fails (inl (is, put)) = failing other ended fails is
text_failing text other held held' ended fails (inr (is, put)) = failing status.WriteFault ended (λ same. cc) is

line_failing : (line : List ℕ) (held held' : Option (List ℕ)) (ended : Status)
    → PrintsLine line status.Refused held held' ended → IsFailing ended
line_failing line held held' ended (inl (is, keeps)) = failing status.NoMemory ended (λ same. cc) is
line_failing line held held' ended (inr printed) =
    text_failing line status.Refused held held' ended (λ same. cc) printed

store_failing : (stop : LogStop) (held held' : Option (List ℕ)) (ended : Status) → RefusesStore stop held held' ended
    → IsFailing ended
store_failing stop held held' ended (inl (is, keeps)) = failing status.NoMemory ended (λ same. cc) is
store_failing log.Unmade held held' ended (inr printed) =
    text_failing _ status.Store held held' ended (λ same. cc) printed
store_failing log.Made held held' ended (inr printed) =
    text_failing _ status.Store held held' ended (λ same. cc) printed
store_failing (log.Foreign slot) held held' ended (inr printed) =
    text_failing _ status.Store held held' ended (λ same. cc) printed
store_failing (log.Damaged slot place) held held' ended (inr printed) =
    text_failing _ status.Store held held' ended (λ same. cc) printed
store_failing log.StoreFault held held' ended (inr (is, keeps)) = failing status.StoreFault ended (λ same. cc) is
store_failing log.NoMemory held held' ended (inr (is, keeps)) = failing status.NoMemory ended (λ same. cc) is

-- where following stops, the run doesn't end well
stop_failing : (stop : FollowStop) (held held' : Option (List ℕ)) (ended : Status)
    → PrintsResult (Err stop) held held' ended → IsFailing ended
stop_failing (follow.Store stop) held held' ended printed = store_failing stop held held' ended printed
stop_failing follow.ReadFault held held' ended (is, keeps) = failing status.ReadFault ended (λ same. cc) is
stop_failing follow.TooLong held held' ended (is, keeps) = failing status.ScriptTooLong ended (λ same. cc) is
stop_failing follow.NoMemory held held' ended (is, keeps) = failing status.NoMemory ended (λ same. cc) is
stop_failing (follow.Frame place) held held' ended printed = line_failing _ held held' ended printed
stop_failing (follow.Cut number) held held' ended printed = line_failing _ held held' ended printed
stop_failing follow.Other held held' ended printed = line_failing _ held held' ended printed
stop_failing (follow.Gap number) held held' ended printed = line_failing _ held held' ended printed
stop_failing (follow.NotAllowed number) held held' ended printed = line_failing _ held held' ended printed

unopened_failing : (so : LogStop → Type 0) (result : Result Followed FollowStop) (held held' : Option (List ℕ))
    (ended : Status) → MatchResult result (λ _. ⊥) (IsNotOpened so) → PrintsResult result held held' ended
    → IsFailing ended
unopened_failing so (Ok followed) held held' ended never printed = absurd never
unopened_failing so (Err stop) held held' ended unopened printed = stop_failing stop held held' ended printed

-- ---- stages

-- what holds at a last stage, whose state is one to which commands led
passes_anew : (c : Core) (left : Option (List ℕ)) (P Q : Stage → Type 0) → IsRightAndAnew c
    → ((s : Stage) → IsRightAndAnew s.core → P s → Q s) → PassesFront c left P → PassesFront c left Q
passes_anew c left P Q is leads passes =
    let goes = passes.goes in
    record {
      front = passes.front;
      mid = passes.mid;
      read = passes.read;
      judged = passes.judged;
      goes = record {
        last = goes.last;
        reached = goes.reached;
        ended = leads goes.last (reaches_anew (behind c passes.front passes.mid) goes.last goes.reached is) goes.ended;
      };
    }

-- so it is of all that is said of a stream which is followed
module _ (IsKept IsOwned : Core → Type 0) (MayKeep MayOwn : Core → Core → Type 0)
    (kept : (now : Core) → IsRightAndAnew now → IsKept now → IsOwned now)
    (may : (now then : Core) → IsRightAndAnew now → IsRightAndAnew then → MayKeep now then → MayOwn now then) where
  keeps_anew : (s : Stage) (stop : FollowStop) → IsRightAndAnew s.core → KeepsAt IsKept MayKeep s stop
      → KeepsAt IsOwned MayOwn s stop
  keeps_anew s (follow.Store stop) is keeps = record {
    last = keeps.last;
    reached = keeps.reached;
    ended = (
      may s.core keeps.last.core is (reaches_anew s keeps.last keeps.reached is) keeps.ended.0,
      keeps.ended.1,
    );
  }
  keeps_anew s stop is keeps = kept s.core is keeps

  any_anew : (c : Core) → IsRightAndAnew c → (left after : Option (List ℕ)) (result : Result Followed FollowStop)
      → Follows IsKept MayKeep c left after result → Follows IsOwned MayOwn c left after result
  any_anew c is left after (Ok followed) follows =
      passes_anew c left (IsDone IsKept after followed) (IsDone IsOwned after followed) is
      (λ s anew done. record {
        ended = done.ended;
        number = done.number;
        taken = done.taken;
        kept = kept s.core anew done.kept;
      })
      follows
  any_anew c is left after (Err stop) (inl (unread, keeps)) = inl (unread, kept c is keeps)
  any_anew c is left after (Err stop) (inr passes) =
      inr (passes_anew c left (λ s. StopsKept IsKept MayKeep s after stop) (λ s. StopsKept IsOwned MayOwn s after stop)
      is (λ s anew stops. (stops.0, keeps_anew s stop anew stops.1)) passes)

  follows_anew : (c : Core) → IsRightAndAnew c → (left left' : Option (List ℕ)) (result : Result Followed FollowStop)
      → FollowsSource IsKept MayKeep c left left' result → FollowsSource IsOwned MayOwn c left left' result
  follows_anew c is left left' result source = record {
    held = source.held;
    block = source.block;
    follows = any_anew c is left (prepend_known source.held left') result source.follows;
    dry = source.dry;
  }

own_there : (image : Image) → HasFitRecords image → (now : Core) → IsRightAndAnew now → StandsFor (summary now) image
    → IsOwn (view now) image
own_there image fit now is stands = record { anew = is.anew; stands = stands; fit = fit }

at_stage : (c : Core) (left : Option (List ℕ)) (image : Image) → IsRightAndAnew c → HasFitRecords image
    → IsAtStage c left image → IsOwnAtStage c left image
at_stage c left image is fit (inl stands) = inl (own_there image fit c is stands)
at_stage c left image is fit (inr passes) =
    inr (passes_anew c left (λ s. StandsFor (summary s.core) image) (λ s. IsOwn (view s.core) image) is
    (λ s anew stands. own_there image fit s.core anew stands) passes)

-- what is own after some transactions has fit records
after_fit : (s : State) (ts : List Transaction) (image : Image) → IsOwnAfterSome s ts image → HasFitRecords image
after_fit s ts image (n, mid, made, own) = own.fit

-- ---- a stream that is followed

module _ {D : Type 0} (g : Ghosts D)
    (counts_now : (disk : D) (t : ℕ) (image : Image) → t ≤ g.moment disk → g.images disk image
    → g.left_since disk t image)
    (only_now : (disk : D) (image : Image) → g.left_since disk (g.moment disk) image → g.images disk image) where
  -- each image now stands for a state
  abbrev Keeps : D → Core → Type 0
  Keeps disk now = g.tells → (image : Image) → g.images disk image → StandsFor (summary now) image

  module _ (c : Channels) (old new : D) (result : Result Followed FollowStop)
      (w : FollowsOpened g.tells g.moment g.left_since g.seen g.images old new c.left c.left' result)
      (told : g.tells) (only : Only (g.seen old) (g.images old)) (own : IsOwn (view w.core) (g.seen old)) where
    is : IsRightAndAnew w.core
    is =
        let right = opened_right (g.seen old) w.core (w.reached told) in
        record { right = right.0; keyed = right.1; anew = own.anew }

    own_now : AreOwnNow g.moment g.left_since old (view w.core)
    own_now image left = subst (IsOwn (view w.core)) (sym (only image (only_now old image left))) own

    abbrev makes : Makes g.tells g.moment g.left_since old new (summary w.core)
        (λ ts. (last : Core) × AdoptsAll w.core ts last)
    makes = w.makes told only

    -- the state after the transactions
    abbrev last : Core
    last = makes.ended.0

    made : MadeByCommands (view w.core) makes.transactions (view last)
    made = (adopts_all w.core makes.transactions last is makes.ended.1).0

    own_left : LeavesOnly g.moment g.left_since old new (IsOwnAfterSome (view w.core) makes.transactions)
    own_left = own_stay g.tells g.moment g.left_since w.core (view last) old new own.anew own_now (record {
      transactions = makes.transactions;
      any_moment = makes.any_moment;
      fit = makes.fit;
      ended = made;
    }) told

    -- the stages
    stages_left : LeavesOnly g.moment g.left_since old new (IsOwnAtStage w.core c.left)
    stages_left = weaker g.moment g.left_since g.images old new
        (λ image. IsOwnAfterSome (view w.core) makes.transactions image × IsAtStage w.core c.left image)
        (IsOwnAtStage w.core c.left)
        (both g.moment g.left_since old new (IsOwnAfterSome (view w.core) makes.transactions)
        (IsAtStage w.core c.left) own_left (w.stages told only))
        (λ image so. at_stage w.core c.left image is
        (after_fit (view w.core) makes.transactions image so.0) so.1)

    -- what is behind the run
    fit_now : (image : Image) → g.images new image → HasFitRecords image
    fit_now image left =
        after_fit (view w.core) makes.transactions image
        (own_left.each image (counts_now new (g.moment old) image own_left.later left))

    own_of : (now : Core) → IsRightAndAnew now → Keeps new now → AreOwnOf (g.images new) now
    own_of now anew kept image left = own_there image (fit_now image left) now anew (kept told image left)

    own_of_either : (now then : Core) → IsRightAndAnew now → IsRightAndAnew then
        → StandsForEither g.tells (g.images new) now then → AreOwnOfEither (g.images new) now then
    own_of_either now then anew led either image left =
        ⊎_elim (λ here. inl (own_there image (fit_now image left) now anew here))
        (λ there. inr (own_there image (fit_now image left) then led there)) (either told image left)

    over : FollowsSource (AreOwnOf (g.images new)) (AreOwnOfEither (g.images new)) w.core c.left c.left' result
    over =
        follows_anew (Keeps new) (AreOwnOf (g.images new)) (StandsForEither g.tells (g.images new))
        (AreOwnOfEither (g.images new)) own_of own_of_either w.core is c.left c.left' result (w.follows (w.queued told))

    pub stream_keeps : (ended : Status) → PrintsResult result c.held c.held' ended
        → FollowKeepsOwn c (files g old new) (view w.core) ended
    stream_keeps ended printed = record {
      transactions = makes.transactions;
      last = view last;
      made = made;
      any_moment = own_left;
      follows = inr (record {
        core = w.core;
        seen = refl;
        any_moment = stages_left;
        result = result;
        over = over;
        printed = printed;
      });
    }

  -- ---- the laws

  -- a store that isn't opened
  unfollowed_keeps : (c : Channels) (old new : D) (ended : Status) (s : State) → IsOwn s (g.seen old)
      → IsFailing ended → KeepsFiles (files g old new) → FollowKeepsOwn c (files g old new) s ended
  unfollowed_keeps c old new ended s own fails keeps = record {
    transactions = [];
    last = s;
    made = refl;
    any_moment = weaker g.moment g.left_since g.images old new (λ image. image ≡ g.seen old) (IsOwnAfterSome s [])
        keeps (λ image same. (0, s, refl, subst (IsOwn s) (sym same) own));
    follows = inl (fails, keeps);
  }

  pub follows_keep : FollowsKeepOwn g
  follows_keep c old new ended s (told, only) own prints = go prints.comes_to
    where
      go : ComesToResult c (files g old new) prints.result → FollowKeepsOwn c (files g old new) s ended
      go (inl (unopened, unread, keeps)) =
          unfollowed_keeps c old new ended s own
          (unopened_failing (λ stop. g.tells → IsUnopened (g.seen old) stop) prints.result c.held c.held' ended unopened
          prints.printed) (keeps told only)
      go (inr w) =
          let seen : view w.core ≡ s = (own_reopens s (g.seen old) own).1 w.core (w.reached told) in
          subst (λ (x : State). FollowKeepsOwn c (files g old new) x ended) seen
          (stream_keeps c old new prints.result w told only
          (subst (λ (x : State). IsOwn x (g.seen old)) (sym seen) own) ended prints.printed)

  pub follows_reopen : FollowsReopen g
  follows_reopen c old new ended s keeps =
      let ts = keeps.transactions in
      weaker g.moment g.left_since g.images old new (IsOwnAfterSome s ts) (IsReopenedAfterSome s ts) keeps.any_moment
      (some_reopened s ts)

  pub correct_follows : CorrectFollowsKeepOwn g
  correct_follows words c old new ended s settled own correct says =
      let prints : PrintsFollowed c (files g old new) ended =
      subst (λ (o : Option Word). PrintsWord words o c (files g old new) ended) says correct.prints in
      let keeps = follows_keep c old new ended s settled own prints in
      (keeps, follows_reopen c old new ended s keeps)
