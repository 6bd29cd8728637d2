-- Along a legal run the scope of a root shows the view, and gives what the run puts.
use Rattle.std.proofs.Common.{◌≡◌, ℕ, suc, ◌+◌, true, false, List, [], ◌∷◌, length, refl, ap, sym, ◌∙◌, subst, arith}
use Rattle.std.proofs.lemmas.List.{length-map}
use Rattle.fate_laws.proofs.ItemsBelow.{items_of, facts_cover}
use Rattle.flow_model.specs.Fates.{is_settled}
use Rattle.flow_model.specs.Scopes.{tree_ends}
use Rattle.flow_model.specs.declared.graphs.Container.{Container}
use Rattle.flow_model.specs.declared.instances.Fact.{Fact}
use Rattle.flow_model.specs.declared.instances.Message.{Message}
use Rattle.blocks_subprocs.specs.Ends.{ends_of}
use Rattle.navigator.specs.Driven.{DoesTurn, DoesComplete, Driven, IsServedRoot, IsDriven}
use Rattle.navigator.specs.Giving.{GivesDue, GivesPut}
use Rattle.navigator.specs.Showing.{IsCounted}
use Rattle.navigator.specs.Views.{Shows}
use Rattle.navigator.specs.declared.scopes.ScopeState.{ScopeState, out-ScopeState}
use Rattle.navigator.proofs.Given.{taken_given, completed_given}
use Rattle.navigator.proofs.OneChanged.{incoming_of, few_of}
use Rattle.navigator.proofs.PutGiven.{put_given}
use Rattle.navigator.proofs.Stepping.{contains_of}
use Rattle.navigator.proofs.TakesShown.{taken_shown, completed_shown}
use Rattle.navigator.proofs.Untouched.{fresh_shows}
use Rattle.view_laws.proofs.NextEvents.{begins_may_come, signals_may_come, ends_may_come, completions_may_come}
use Rattle.view_laws.proofs.NothingDue.{nothing}
use Rattle.view_laws.proofs.WholeRuns.{running_is, sound, quiet}
use Rattle.view_laws.specs.Coming.{Comes, ComesOutput}
use Rattle.view_laws.specs.Laws.{IsQuiet}
use Rattle.view_laws.specs.Learning.{learnt, with_output, with_most}
use Rattle.view_laws.specs.LegalRuns.{IsLegal}
use Rattle.view_laws.specs.Messages.{Note, BeginNote, SignalNote, EndNote}
use Rattle.view_laws.specs.NextEvents.{MayGoOn}
use Rattle.view_laws.specs.Runs.{Root, Event, Started, Turned, Completed, Held, Stopped, is_stopped, running, has_started, facts, seen, fated}

-- ---- what a run counts

counted_run : (h : List Event) → IsCounted (seen h)
counted_run h = record {
  messages = λ p a b o. refl;
  items = items_of (facts h);
  covers = λ p out given. contains_of p (items_of (facts h)) (facts_cover (facts h) p out given);
  enough = let same : length (items_of (facts h)) ≡ length (facts h) = length-map (facts h) (λ f. f.item.parts) in omega arith;
}

runs_before : (e : Event) (h : List Event) → is_stopped (e ∷ h) ≡ false → is_stopped h ≡ false
runs_before Started h is = is
runs_before (Turned m) h is = is
runs_before (Completed f) h is = is
runs_before (Held p b) h is = is
runs_before Stopped h is = let never : true ≡ false = is in cc

legal_before : (r : Root) (q : Note → ℕ) (e : Event) (h : List Event) → IsLegal r q (e ∷ h) → IsLegal r q h
legal_before r q Started h legal = record { fronts = legal.fronts.0; awaited = legal.awaited }
legal_before r q (Turned m) h legal = record { fronts = legal.fronts.0; awaited = legal.awaited }
legal_before r q (Completed f) h legal = record { fronts = legal.fronts.0; awaited = legal.awaited.0 }
legal_before r q (Held p b) h legal = record { fronts = legal.fronts.0; awaited = legal.awaited }
legal_before r q Stopped h legal = record { fronts = legal.fronts.0; awaited = legal.awaited }

module _ (r : Root) (q : Note → ℕ) (root : IsServedRoot r) where
  may_go_on : (e : Event) (h : List Event) → IsLegal r q (e ∷ h) → is_stopped h ≡ false → MayGoOn r q e h
  may_go_on e h legal runs = record { well = root.well; aimed = root.aimed; legal = legal; runs = runs }

  -- a message that is taken comes
  turn_comes : (m : Note) (h : List Event) → IsLegal r q (Turned m ∷ h) → is_stopped h ≡ false
      → Comes r.templates r.depth (seen h) r.graph r.input m (seen (Turned m ∷ h))
  turn_comes (BeginNote p) h legal runs =
      let next = begins_may_come r q h p (may_go_on (Turned (BeginNote p)) h legal runs) in
      (next.may, next.known)
  turn_comes (SignalNote p a b v) h legal runs =
      let next = signals_may_come r q h p a b v (may_go_on (Turned (SignalNote p a b v)) h legal runs) in
      (next.may, next.known)
  turn_comes (EndNote p) h legal runs =
      let next = ends_may_come r q h p (may_go_on (Turned (EndNote p)) h legal runs) in
      (next.path, next.last, next.parts, next.may, next.known)

  -- and so does a completion
  output_comes : (f : Fact) (h : List Event) → IsLegal r q (Completed f ∷ h) → is_stopped h ≡ false
      → ComesOutput r.templates r.depth (seen h) r.graph r.input f.item.parts f.output (seen (Completed f ∷ h))
  output_comes f h legal runs =
      let next = completions_may_come r q h f (may_go_on (Completed f) h legal runs) in
      let one : length (facts h) + 1 ≡ suc (length (facts h)) = omega arith in
      (next.path, next.last, next.parts, next.may, next.known ∙ ap (λ n. with_most n (learnt (with_output next.last f.output) next.path (seen h))) one)

  -- ---- the view

  turn_shows : (m : Note) (h : List Event) (s s' : ScopeState) (given : List Message) → IsLegal r q (Turned m ∷ h) → is_stopped h ≡ false
      → Shows r.templates r.depth (seen h) r.graph r.input s → DoesTurn r m s s' given → Shows r.templates r.depth (seen (Turned m ∷ h)) r.graph r.input s'
  turn_shows m h s s' given legal runs shows does =
      taken_shown r.templates does.0 does.1 r.graph s s' given does.2 does.4 m does.3 r.depth (seen h) (seen (Turned m ∷ h)) r.input root.well root.served (counted_run h)
      (turn_comes m h legal runs) shows

  complete_shows : (f : Fact) (h : List Event) (s s' : ScopeState) (given : List Message) → IsLegal r q (Completed f ∷ h) → is_stopped h ≡ false
      → Shows r.templates r.depth (seen h) r.graph r.input s → DoesComplete r f s s' given → Shows r.templates r.depth (seen (Completed f ∷ h)) r.graph r.input s'
  complete_shows f h s s' given legal runs shows does =
      completed_shown r.templates does.0 f.item.root f.item.parts does.1 r.graph s s' given does.2 does.4 r.depth (seen h) (seen (Completed f ∷ h)) r.input root.well root.served (counted_run h)
      (subst (λ (out : Container). ComesOutput r.templates r.depth (seen h) r.graph r.input f.item.parts out (seen (Completed f ∷ h))) (sym does.3) (output_comes f h legal runs)) shows

  pub shows_run : (h : List Event) (s : ScopeState) → IsLegal r q h → is_stopped h ≡ false → Driven r h s → Shows r.templates r.depth (seen h) r.graph r.input s
  shows_run [] s legal runs driven =
      fresh_shows r.templates r.depth (seen []) r.graph r.input s driven (record { unbegun = refl; unsent = λ a b. refl })
      (incoming_of r.templates r.depth r.graph root.served) (few_of r.templates r.depth r.graph root.served)
  shows_run (Started ∷ h) s legal runs driven =
      subst (λ (t : ScopeState). Shows r.templates r.depth (seen h) r.graph r.input t) (sym driven.2) (shows_run h driven.0 (legal_before r q Started h legal) runs driven.1)
  shows_run (Turned m ∷ h) s legal runs driven =
      turn_shows m h driven.0 s driven.2.0 legal runs (shows_run h driven.0 (legal_before r q (Turned m) h legal) runs driven.1) driven.2.1
  shows_run (Completed f ∷ h) s legal runs driven =
      complete_shows f h driven.0 s driven.2.0 legal runs (shows_run h driven.0 (legal_before r q (Completed f) h legal) runs driven.1) driven.2.1
  shows_run (Held p b ∷ h) s legal runs driven =
      driven.2 r.depth (seen h) r.input (shows_run h driven.0 (legal_before r q (Held p b) h legal) runs driven.1)
  shows_run (Stopped ∷ h) s legal runs driven = let never : true ≡ false = runs in cc

  -- ---- what is given

  started_running : (h : List Event) → is_stopped h ≡ false → has_started h ≡ true → has_started (running h) ≡ true
  started_running h runs started = ap has_started (running_is h runs) ∙ started

  going_on : (h : List Event) (e : Event) (given : List Message) → is_stopped h ≡ false → is_stopped (e ∷ h) ≡ false
      → GivesDue r.templates r.depth r.graph r.input (seen h) (seen (e ∷ h)) given
      → GivesDue r.templates r.depth r.graph r.input (seen (running h)) (seen (running (e ∷ h))) given
  going_on h e given runs runs' gives =
      let due = λ (a b : List Event). GivesDue r.templates r.depth r.graph r.input (seen a) (seen b) given in
      subst (λ (a : List Event). due a (running (e ∷ h))) (sym (running_is h runs)) (subst (λ (b : List Event). due h b) (sym (running_is (e ∷ h) runs')) gives)

  pub turn_gives : (m : Note) (h : List Event) (s s' : ScopeState) (given : List Message) → IsDriven r q h s → has_started h ≡ true → IsLegal r q (Turned m ∷ h)
      → DoesTurn r m s s' given → GivesPut r h (Turned m) given
  turn_gives m h s s' given driven started legal does =
      let shows = shows_run h s driven.legal driven.runs driven.driven in
      let gave = taken_given r.templates does.0 does.1 r.graph s s' given does.2 does.4 m does.3 r.depth (seen h) (seen (Turned m ∷ h)) r.input root.well root.served root.aimed (counted_run h)
      (turn_comes m h legal driven.runs) shows in
      put_given r h (Turned m) given (started_running h driven.runs started)
      (going_on h (Turned m) given driven.runs driven.runs gave.due)

  pub complete_gives : (f : Fact) (h : List Event) (s s' : ScopeState) (given : List Message) → IsDriven r q h s → has_started h ≡ true → IsLegal r q (Completed f ∷ h)
      → DoesComplete r f s s' given → GivesPut r h (Completed f) given
  complete_gives f h s s' given driven started legal does =
      let shows = shows_run h s driven.legal driven.runs driven.driven in
      let comes = subst (λ (out : Container). ComesOutput r.templates r.depth (seen h) r.graph r.input f.item.parts out (seen (Completed f ∷ h))) (sym does.3) (output_comes f h legal driven.runs) in
      let gave = completed_given r.templates does.0 f.item does.1 r.graph s s' given does.2 does.4 r.depth (seen h) (seen (Completed f ∷ h)) r.input root.well root.served root.aimed (counted_run h)
      comes shows in
      put_given r h (Completed f) given (started_running h driven.runs started)
      (going_on h (Completed f) given driven.runs driven.runs gave.due)

  -- ---- what the state says is so

  pub run_is_right : (h : List Event) (s : ScopeState) (a : ℕ) → IsDriven r q h s → is_settled (ends_of (out-ScopeState s).ends.items a) ≡ true
      → ends_of (out-ScopeState s).ends.items a ≡ tree_ends r.templates r.depth (fated h) r.graph r.input a
  run_is_right h s a driven settled =
      let shows = shows_run h s driven.legal driven.runs driven.driven in
      let on = running_is h driven.runs in
      let now : ends_of (out-ScopeState s).ends.items a ≡ tree_ends r.templates r.depth (seen h) r.graph r.input a = shows.ends a in
      let right = (sound r q root.well h driven.legal.fronts (nothing r q)).kept a in
      now ∙ sym (rw on at right (ap is_settled (sym now) ∙ settled))

  pub quiet_is_whole : (h : List Event) (s : ScopeState) (a : ℕ) → IsDriven r q h s → IsQuiet r q h
      → ends_of (out-ScopeState s).ends.items a ≡ tree_ends r.templates r.depth (fated h) r.graph r.input a
  quiet_is_whole h s a driven still =
      let shows = shows_run h s driven.legal driven.runs driven.driven in
      shows.ends a ∙ (quiet r q root.well h still.legal (nothing r q) still.runs still.started still.empty).ends a
