-- What the next event of a run tells, and what it puts.
use Rattle.std.proofs.Common.{◌≡◌, ℕ, suc, ◌+◌, Bool, true, false, not, List, [], ◌∷◌, length, refl, ap, sym, ◌∙◌, subst, arith}
use Rattle.std.proofs.lemmas.List.{length-map}
use Rattle.std.specs.List.{filter}
use Rattle.fate_laws.proofs.ItemsBelow.{items_of, facts_cover}
use Rattle.flow_model.specs.declared.instances.Fact.{Fact}
use Rattle.flow_model.specs.declared.instances.Message.{Message}
use Rattle.navigator.proofs.PutGiven.{put_given}
use Rattle.navigator.proofs.Stepping.{contains_of}
use Rattle.navigator.specs.Driven.{IsServedRoot}
use Rattle.navigator.specs.Giving.{GivesDue, GivesPut}
use Rattle.navigator.specs.Showing.{IsCounted}
use Rattle.view_laws.proofs.NextEvents.{begins_may_come, signals_may_come, ends_may_come, completions_may_come}
use Rattle.view_laws.proofs.NothingDue.{nothing}
use Rattle.view_laws.proofs.SameNotes.{itself}
use Rattle.view_laws.proofs.WholeRuns.{running_is}
use Rattle.view_laws.specs.Coming.{Comes, ComesOutput}
use Rattle.view_laws.specs.Learning.{learnt, with_output, with_most}
use Rattle.view_laws.specs.LegalRuns.{IsLegal}
use Rattle.view_laws.specs.Messages.{Note, BeginNote, SignalNote, EndNote}
use Rattle.view_laws.specs.NextEvents.{MayGoOn}
use Rattle.view_laws.specs.Queues.{has, times, by_kind, put}
use Rattle.view_laws.specs.Runs.{Root, Event, Started, Turned, Completed, is_stopped, running, has_started, facts, seen, due, engine}

pub counted_run : (h : List Event) → IsCounted (seen h)
counted_run h = record {
  messages = λ p a b o. refl;
  items = items_of (facts h);
  covers = λ p out given. contains_of p (items_of (facts h)) (facts_cover (facts h) p out given);
  enough = let same : length (items_of (facts h)) ≡ length (facts h) = length-map (facts h) (λ f. f.item.parts) in omega arith;
}

-- ---- events that tell nothing

-- an event after which the same is known
pub record TellsNothing (e : Event) (h : List Event) : Type 0 where
  pub seen : seen (e ∷ h) ≡ seen h
  pub started : has_started (e ∷ h) ≡ has_started h

pub still_seen : (e : Event) (h : List Event) → seen (e ∷ h) ≡ seen h → seen (running (e ∷ h)) ≡ seen (running h)
still_seen e h same = go (is_stopped h) refl
  where
    go : (b : Bool) → is_stopped h ≡ b → seen (running (e ∷ h)) ≡ seen (running h)
    go true is = rw is refl
    go false is = rw is (same ∙ ap seen (sym (running_is h is)))

still_started : (e : Event) (h : List Event) → has_started (e ∷ h) ≡ has_started h → has_started (running (e ∷ h)) ≡ has_started (running h)
still_started e h same = go (is_stopped h) refl
  where
    go : (b : Bool) → is_stopped h ≡ b → has_started (running (e ∷ h)) ≡ has_started (running h)
    go true is = rw is refl
    go false is = rw is (same ∙ ap has_started (sym (running_is h is)))

-- nothing more is due after it
pub still_due : (r : Root) (e : Event) (h : List Event) → TellsNothing e h → due r (e ∷ h) ≡ due r h
still_due r e h tells = rw (still_started e h tells.started, still_seen e h tells.seen) refl

-- nor is after any event of a run that was stopped
pub stopped_run : (e : Event) (h : List Event) → is_stopped h ≡ true → running (e ∷ h) ≡ running h
stopped_run e h is = rw is refl

-- ---- the start

none_at_all : (r : Root) (q : Note → ℕ) (ms : List Note) → ((m : Note) → times (engine r q) ms m ≡ 0) → ms ≡ []
none_at_all r q [] none = refl
none_at_all r q (m ∷ ms) none =
    let here : times (engine r q) (m ∷ ms) m ≡ 1 + times (engine r q) ms m = rw (itself m) refl in
    let zero_ = none m in
    absurd (omega arith)

-- the start puts the BEGIN of the root
pub start_puts : (r : Root) (q : Note → ℕ) → put (engine r q) Started [] ≡ BeginNote [] ∷ []
start_puts r q = ap (λ ms. by_kind (engine r q) (filter (λ m. not (has (engine r q) ms m)) (BeginNote [] ∷ ms))) (none_at_all r q (due r []) (nothing r q))

-- ---- events that tell something

module _ (r : Root) (q : Note → ℕ) (root : IsServedRoot r) where
  may_go_on : (e : Event) (h : List Event) → IsLegal r q (e ∷ h) → is_stopped h ≡ false → MayGoOn r q e h
  may_go_on e h legal runs = record { well = root.well; aimed = root.aimed; legal = legal; runs = runs }

  -- a message that is taken comes
  pub turn_comes : (m : Note) (h : List Event) → IsLegal r q (Turned m ∷ h) → is_stopped h ≡ false
      → Comes r.templates r.depth (seen h) r.graph r.input m (seen (Turned m ∷ h))
  turn_comes (BeginNote p) h legal runs =
      let next = begins_may_come r q h p (may_go_on (Turned (BeginNote p)) h legal runs) in
      (next.may, next.known)
  turn_comes (SignalNote p a b v) h legal runs =
      let next = signals_may_come r q h p a b v (may_go_on (Turned (SignalNote p a b v)) h legal runs) in
      (next.may, next.known)
  turn_comes (EndNote p) h legal runs =
      let next = ends_may_come r q h p (may_go_on (Turned (EndNote p)) h legal runs) in
      (next.path, next.last, next.parts, next.may, next.known)

  -- and so does a completion
  pub output_comes : (f : Fact) (h : List Event) → IsLegal r q (Completed f ∷ h) → is_stopped h ≡ false
      → ComesOutput r.templates r.depth (seen h) r.graph r.input f.item.parts f.output (seen (Completed f ∷ h))
  output_comes f h legal runs =
      let next = completions_may_come r q h f (may_go_on (Completed f) h legal runs) in
      let one : length (facts h) + 1 ≡ suc (length (facts h)) = omega arith in
      (next.path, next.last, next.parts, next.may, next.known ∙ ap (λ n. with_most n (learnt (with_output next.last f.output) next.path (seen h))) one)

-- what became due by the next event is what it puts
pub gives_put : (r : Root) (h : List Event) (e : Event) (given : List Message) → has_started h ≡ true → is_stopped h ≡ false → running (e ∷ h) ≡ e ∷ h
    → GivesDue r.templates r.depth r.graph r.input (seen h) (seen (e ∷ h)) given → GivesPut r h e given
gives_put r h e given started runs runs' gives =
    let due = λ (a b : List Event). GivesDue r.templates r.depth r.graph r.input (seen a) (seen b) given in
    put_given r h e given (ap has_started (running_is h runs) ∙ started)
    (subst (λ (a : List Event). due a (running (e ∷ h))) (sym (running_is h runs)) (subst (λ (b : List Event). due h b) (sym runs') gives))
