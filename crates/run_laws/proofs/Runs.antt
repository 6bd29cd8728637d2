-- What a run over an own store leaves: what was there; then what the answered inputs make; then what the call in which
-- it stops makes.
use Rattle.std.proofs.Common.{◌≡◌, inl, inr, ℕ, ◌≤◌, List, [], ◌++◌, Option}
use Rattle.std.proofs.Common.{Result, Ok, Err, refl, sym, subst, ◌∙◌}
use Rattle.core_laws.specs.RightStates.{IsRightCore}
use Rattle.flow_core.specs.Summaries.{Summary, summary}
use Rattle.flow_disk.specs.Images.{Image}
use Rattle.flow_disk.specs.Moments.{LeavesOnly, Only}
use Rattle.flow_disk.specs.declared.disk.Disk.{Ghosts}
use Rattle.flow_disk.specs.declared.disk.Slot.{Slot}
use Rattle.flow_disk.proofs.Runs.{weaker, joined}
use Rattle.flow_model.specs.declared.transactions.Transaction.{Transaction}
use Rattle.flow_session.specs.Checkpoints.{IsCheckpointed}
use Rattle.flow_session.specs.Histories.{StandsFor}
use Rattle.flow_session.specs.Inputs.{Given, Unended, unended}
use Rattle.flow_session.specs.Keeping.{IsOpen, rests}
use Rattle.flow_session.specs.Leading.{LeadsBy}
use Rattle.flow_session.specs.Scripts.{ServesOne, ServesAll, NoInput, OneMore}
use Rattle.flow_session.specs.Serving.{Makes}
use Rattle.flow_session.specs.declared.serving.Session.{Session}
use Rattle.flow_session.specs.declared.store.Stored.{Stored}
use Rattle.flow_session.proofs.Scripts.{keep_right}
use Rattle.flow_words.specs.Correct.{PrintsWord}
use Rattle.flow_words.specs.Endings.{StopsScript, status_of_stop}
use Rattle.flow_words.specs.Openings.{IsUnserved}
use Rattle.flow_words.specs.Outside.{Channels, files, KeepsFiles}
use Rattle.flow_words.specs.Scripts.{AreUnanswered, ServesStoreScript, RunsStore, EndsAs}
use Rattle.flow_words.specs.declared.status.Status.{Status}
use Rattle.flow_words.specs.declared.status.Status.TheVariants.{Done}
use Rattle.flow_words.specs.declared.word.Word.{Word}
use Rattle.machine.specs.Scripts.{Replies}
use Rattle.machine.specs.States.{State}
use Rattle.machine_laws.specs.Viewed.{view}
use Rattle.machine_laws.specs.Keyed.{AreKeyed}
use Rattle.reopening_laws.specs.Making.{MadeByCommands}
use Rattle.reopening_laws.proofs.Sessions.{made_by_commands}
use Rattle.compaction_laws.specs.Compact.{IsMadeAnew}
use Rattle.compaction_laws.specs.OwnStores.{IsOwn, IsOwnAfterSome, AreOwnNow}
use Rattle.compaction_laws.proofs.Compact.{history_anew}
use Rattle.compaction_laws.proofs.OwnStores.{own_reopens, own_stay, own_go_on}
use Rattle.machine_laws.specs.WholeStates.{IsWhole}
use Rattle.run_laws.specs.Runs.{IsAnswered, RunKeepsOwn, IsReopenedAfterSome, RunsKeepOwn, RunsReopen}
use Rattle.run_laws.specs.Runs.{CorrectRunsKeepOwn}
use Rattle.run_laws.proofs.Fronts.{own_front, own_past, some_reopened}
use Rattle.run_laws.proofs.UnderWay.{input_asks}

-- ---- what is held

module _ {J : Type 0} (tells : Type 0) (holds holds' : J → Summary → Type 0) (moment : J → ℕ)
    (left_since : J → ℕ → Image → Type 0) (place : J → Slot × ℕ) (moved : J → J → Summary → Type 0)
    (less : (j : J) (s : Summary) → holds j s → holds' j s) where
  one_less : (input : Given) (reply : List ℕ) (s s' : Session) (j j' : J)
      → ServesOne tells holds moment left_since place moved input reply s s' j j'
      → ServesOne tells holds' moment left_since place moved input reply s s' j j'
  one_less input reply s s' j j' one = record {
    served = one.served;
    makes = one.makes;
    asked = one.asked;
    kept = λ told. less j' (summary s'.core) (one.kept told);
    right = one.right;
    stays = one.stays;
    moves = one.moves;
  }

  -- inputs are served over a journal of which less is told
  all_less : (s : Session) (j : J) (inputs : List Given) (replies : List (List ℕ)) (s' : Session) (j' : J)
      → ServesAll tells holds moment left_since place moved s j inputs replies s' j'
      → ServesAll tells holds' moment left_since place moved s j inputs replies s' j'
  all_less s j _ _ _ _ NoInput = NoInput
  all_less s j _ _ _ _ (OneMore {inputs} {replies} {input} {reply} {s'} {s''} {j'} {j''} all one) =
      OneMore (all_less s j inputs replies s' j' all) (one_less input reply s' s'' j' j'' one)

  -- what is held at the end
  last_held : (s : Session) (j : J) (inputs : List Given) (replies : List (List ℕ)) (s' : Session) (j' : J)
      → ServesAll tells holds' moment left_since place moved s j inputs replies s' j'
      → (tells → holds' j (summary s.core)) → tells → holds' j' (summary s'.core)
  last_held s j _ _ _ _ NoInput held = held
  last_held s j _ _ _ _ (OneMore {inputs} {replies} {input} {reply} {s'} {s''} {j'} {j''} all one) held = one.kept

-- ---- how a run ends

ok_err : (status : Status) (result : Result (Unit {0}) Status) → result ≡ Ok tt → result ≡ Err status → ⊥
ok_err status result fine failed = let same : Ok tt ≡ Err status = sym fine ∙ failed in cc

stops_done : StopsScript Done → ⊥
stops_done stops = stops

-- a run that ends well has served all
ended_ok : (result : Result (Unit {0}) Status) (ended : Status) → EndsAs result ended → ended ≡ Done → result ≡ Ok tt
ended_ok (Ok tt) ended ends done = refl
ended_ok (Err fault) ended (same, stops) done = absurd (stops_done (subst StopsScript (sym same ∙ done) stops))

-- ---- a run over an opened store

module _ {D : Type 0} (g : Ghosts D)
    (counts_now : (disk : D) (t : ℕ) (image : Image) → t ≤ g.moment disk → g.images disk image
    → g.left_since disk t image)
    (only_now : (disk : D) (image : Image) → g.left_since disk (g.moment disk) image → g.images disk image) where
  abbrev moment : Stored D → ℕ
  moment j = g.moment j.disk

  abbrev left_since : Stored D → ℕ → Image → Type 0
  left_since j = g.left_since j.disk

  -- what a crash leaves now stands for a summary
  abbrev Rests : Stored D → Summary → Type 0
  Rests j s = (image : Image) → left_since j (moment j) image → StandsFor s image

  at_rest : (j : Stored D) (s : Summary) (image : Image) → g.tells → Rests j s → left_since j (moment j) image
      → StandsFor s image
  at_rest j s image told holds left = holds image left

  since : (j : Stored D) (t : ℕ) (image : Image) → t ≤ moment j → left_since j (moment j) image → left_since j t image
  since j t image earlier left = counts_now j.disk t image earlier (only_now j.disk image left)

  abbrev place : Stored D → Slot × ℕ
  place j = (j.log.slot, j.log.generation)

  abbrev moved : Stored D → Stored D → Summary → Type 0
  moved j j' now = IsCheckpointed g.tells g.seen g.images j.log j'.log j'.disk now

  abbrev holds : Stored D → Summary → Type 0
  holds j = IsOpen g.seen g.images j.log j.disk

  open_rests : (j : Stored D) (s : Summary) → holds j s → Rests j s
  open_rests j s is image left = rests g.seen g.images j.log j.disk s image is (only_now j.disk image left)

  -- what a crash leaves of the journals, it leaves of their disks
  of_disks : (j j' : Stored D) (P : Image → Type 0) → LeavesOnly moment left_since j j' P
      → LeavesOnly g.moment g.left_since j.disk j'.disk P
  of_disks j j' P leaves = record { later = leaves.later; each = leaves.each; before = leaves.before }

  module _ (c : Channels) (old new : D) (result : Result (Unit {0}) Status)
      (w : ServesStoreScript c (files g old new) result) (told : g.tells) (only : Only (g.seen old) (g.images old))
      (own : IsOwn (view w.s.core) (g.seen old)) where
    -- the opened store
    stayed : LeavesOnly g.moment g.left_since old w.opened (λ image. image ≡ g.seen old)
    stayed = w.keeps only

    seen_now : (image : Image) → left_since w.serves.journal (moment w.serves.journal) image → image ≡ g.seen old
    seen_now image left =
        let now : g.left_since w.opened (g.moment w.opened) image =
        subst (λ (disk : D). g.left_since disk (g.moment disk) image) w.serves.over.1 left in
        stayed.each image (counts_now w.opened (g.moment old) image stayed.later (only_now w.opened image now))

    began : g.tells → Rests w.serves.journal (summary w.s.core)
    began now image left = subst (StandsFor (summary w.s.core)) (sym (seen_now image left)) (w.stood told)

    own_now : AreOwnNow moment left_since w.serves.journal (view w.s.core)
    own_now image left = subst (IsOwn (view w.s.core)) (sym (seen_now image left)) own

    served : ServesAll g.tells Rests moment left_since place moved w.s w.serves.journal w.serves.script.first
        w.serves.script.replies w.serves.script.last w.serves.script.journal
    served = all_less g.tells holds Rests moment left_since place moved open_rests w.s w.serves.journal
        w.serves.script.first w.serves.script.replies w.serves.script.last w.serves.script.journal
        w.serves.script.served

    whole : IsWhole w.s.core
    whole = w.whole told

    -- what the answered inputs make
    answers : Makes g.tells moment left_since w.serves.journal w.serves.script.journal (summary w.s.core)
        (λ ts. LeadsBy w.s.core ts w.serves.script.last.core
        × MadeByCommands (view w.s.core) ts (view w.serves.script.last.core))
    answers = made_by_commands g.tells Rests moment left_since place moved at_rest since w.s w.serves.journal
        w.serves.script.first w.serves.script.replies w.serves.script.last w.serves.script.journal began served whole

    made_answers : Makes g.tells moment left_since w.serves.journal w.serves.script.journal (summary w.s.core)
        (λ ts. MadeByCommands (view w.s.core) ts (view w.serves.script.last.core))
    made_answers = record {
      transactions = answers.transactions;
      any_moment = answers.any_moment;
      fit = answers.fit;
      ended = answers.ended.1;
    }

    -- the state after them
    abbrev last : State
    last = view w.serves.script.last.core

    last_anew : IsMadeAnew last
    last_anew = history_anew made_answers.transactions (view w.s.core) last own.anew made_answers.ended

    last_own : AreOwnNow moment left_since w.serves.script.journal last
    last_own = own_go_on g.tells Rests moment left_since place moved at_rest since w.s.core w.serves.script.last.core
        w.serves.journal w.serves.script.journal own.anew own_now made_answers told
        (last_held g.tells holds Rests moment left_since place moved open_rests w.s w.serves.journal
        w.serves.script.first w.serves.script.replies w.serves.script.last w.serves.script.journal served began told)

    last_right : IsRightCore w.serves.script.last.core
    last_right = (keep_right g.tells holds moment left_since place moved w.s w.serves.journal w.serves.script.first
        w.serves.script.replies w.serves.script.last w.serves.script.journal w.serves.script.served whole.right).0

    last_keyed : AreKeyed w.serves.script.last.core
    last_keyed = answers.ended.0.keyed whole.right.0 whole.keyed

    -- the transactions of the call in which the run stops
    abbrev us : List Transaction
    us = w.serves.script.under_way.transactions

    stops : (s' : State) × MadeByCommands last us s'
    stops = go us w.serves.script.under_way.ended
      where
        go : (xs : List Transaction) → AreUnanswered g.tells holds moment left_since w.serves.journal'
            w.serves.script.last w.serves.script.others result xs → (s' : State) × MadeByCommands last xs s'
        go xs (inl none) = (last, subst (λ (ts : List Transaction). MadeByCommands last ts last) (sym none) refl)
        go xs (inr stop) = input_asks w.serves.script.last.core last_right last_keyed (unended w.serves.script.last)
            stop.input xs stop.asked

    none_under_way : result ≡ Ok tt → us ≡ []
    none_under_way whole = go us w.serves.script.under_way.ended
      where
        go : (xs : List Transaction) → AreUnanswered g.tells holds moment left_since w.serves.journal'
            w.serves.script.last w.serves.script.others result xs → xs ≡ []
        go xs (inl none) = none
        go xs (inr stop) = absurd (ok_err (status_of_stop stop.stop) result whole stop.status)

    -- what is left behind the answers
    behind : LeavesOnly g.moment g.left_since w.serves.script.journal.disk new (IsOwnAfterSome last us)
    behind = subst (λ (disk : D). LeavesOnly g.moment g.left_since w.serves.script.journal.disk disk
        (IsOwnAfterSome last us)) (sym w.serves.given_back)
        (of_disks w.serves.script.journal w.serves.journal' (IsOwnAfterSome last us)
        (own_stay g.tells moment left_since w.serves.script.last.core stops.0 w.serves.script.journal
        w.serves.journal' last_anew last_own (record {
          transactions = us;
          any_moment = w.serves.script.under_way.any_moment;
          fit = w.serves.script.under_way.fit;
          ended = stops.1;
        }) told))

    -- what is left at any moment
    abbrev ts : List Transaction
    ts = made_answers.transactions

    abbrev Kept : Image → Type 0
    Kept = IsOwnAfterSome (view w.s.core) (ts ++ us)

    first : LeavesOnly g.moment g.left_since old w.opened Kept
    first = weaker g.moment g.left_since g.images old w.opened (λ image. image ≡ g.seen old) Kept stayed
        (λ image same. (0, view w.s.core, refl, subst (IsOwn (view w.s.core)) (sym same) own))

    second : LeavesOnly g.moment g.left_since w.opened w.serves.script.journal.disk Kept
    second = subst (λ (disk : D). LeavesOnly g.moment g.left_since disk w.serves.script.journal.disk Kept)
        w.serves.over.1
        (of_disks w.serves.journal w.serves.script.journal Kept
        (weaker moment left_since (λ journal image. left_since journal 0 image) w.serves.journal w.serves.script.journal
        (IsOwnAfterSome (view w.s.core) ts) Kept
        (own_stay g.tells moment left_since w.s.core last w.serves.journal w.serves.script.journal own.anew own_now
        made_answers told)
        (own_front (view w.s.core) ts us)))

    third : LeavesOnly g.moment g.left_since w.serves.script.journal.disk new Kept
    third = weaker g.moment g.left_since g.images w.serves.script.journal.disk new (IsOwnAfterSome last us) Kept behind
        (own_past (view w.s.core) ts us last made_answers.ended)

    answered : IsAnswered c (view w.s.core) last
    answered = record {
      inputs = w.serves.script.first;
      others = w.serves.script.others;
      replies = w.serves.script.replies;
      unended = unended w.serves.script.last;
      read = w.serves.script.inputs;
      replied = subst (λ (u : Option Unended). Replies (record { state = view w.s.core; unended = u })
          w.serves.script.first w.serves.script.replies
          (record { state = last; unended = unended w.serves.script.last })) w.outside (w.answered told);
      printed = w.serves.script.printed;
    }

    pub script_keeps : (ended : Status) → EndsAs result ended → RunKeepsOwn c (files g old new) (view w.s.core) ended
    script_keeps ended ends = record {
      answered = ts;
      last = last;
      made = made_answers.ended;
      under_way = us;
      behind = stops.0;
      stops = stops.1;
      any_moment = joined g.moment g.left_since g.images old w.serves.script.journal.disk new Kept
          (joined g.moment g.left_since g.images old w.opened w.serves.script.journal.disk Kept first second) third;
      over = λ image left. behind.each image
          (counts_now new (g.moment w.serves.script.journal.disk) image behind.later left);
      done = λ done. none_under_way (ended_ok result ended ends done);
      replies = inr answered;
    }

  -- ---- the laws

  -- a store that isn't opened
  unserved_keeps : (c : Channels) (old new : D) (ended : Status) (s : State) → IsOwn s (g.seen old)
      → IsUnserved (files g old new) c.held c.held' ended → KeepsFiles (files g old new)
      → RunKeepsOwn c (files g old new) s ended
  unserved_keeps c old new ended s own unserved keeps =
      let here : (image : Image) → image ≡ g.seen old → IsOwnAfterSome s [] image =
      λ image same. (0, s, refl, subst (IsOwn s) (sym same) own) in
      record {
        answered = [];
        last = s;
        made = refl;
        under_way = [];
        behind = s;
        stops = refl;
        any_moment = weaker g.moment g.left_since g.images old new (λ image. image ≡ g.seen old)
            (IsOwnAfterSome s []) keeps here;
        over = λ image left. here image
            (keeps.each image (counts_now new (g.moment old) image keeps.later left));
        done = λ done. refl;
        replies = inl unserved;
      }

  pub keep_own : RunsKeepOwn g
  keep_own c old new ended s (told, only) own (inl (unserved, unread, keeps)) =
      unserved_keeps c old new ended s own unserved (keeps told only)
  keep_own c old new ended s (told, only) own (inr (result, w, ends)) =
      let seen : view w.s.core ≡ s = (own_reopens s (g.seen old) own).1 w.s.core (w.reached told) in
      subst (λ (x : State). RunKeepsOwn c (files g old new) x ended) seen
      (script_keeps c old new result w told only (subst (λ (x : State). IsOwn x (g.seen old)) (sym seen) own) ended
      ends)

  pub reopen : RunsReopen g
  reopen c old new ended s keeps =
      let ts = keeps.answered ++ keeps.under_way in
      weaker g.moment g.left_since g.images old new (IsOwnAfterSome s ts) (IsReopenedAfterSome s ts) keeps.any_moment
      (some_reopened s ts)

  pub correct_keep : CorrectRunsKeepOwn g
  correct_keep words c old new ended s settled own correct says =
      let runs : RunsStore c (files g old new) ended =
      subst (λ (o : Option Word). PrintsWord words o c (files g old new) ended) says correct.prints in
      let keeps = keep_own c old new ended s settled own runs in
      (keeps, reopen c old new ended s keeps)
