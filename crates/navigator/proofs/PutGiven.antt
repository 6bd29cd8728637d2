-- What became due by the next event of a run is what the event puts.
use Rattle.std.proofs.Common.{◌≡◌, ℕ, ◌+◌, Bool, true, false, if◌then◌else◌, List, [], ◌∷◌, map, Some, refl, ap, sym, ◌∙◌, arith}
use Rattle.std.specs.Prelude.{not}
use Rattle.std.specs.List.{filter}
use Rattle.flow_model.specs.declared.instances.Message.{Message}
use Rattle.navigator.specs.Giving.{came_due, GivesDue, GivesPut}
use Rattle.view_laws.proofs.SameNotes.{itself, one}
use Rattle.view_laws.proofs.Trusting.{no_begin}
use Rattle.view_laws.specs.Messages.{Note, BeginNote, same_note, due_in}
use Rattle.view_laws.specs.Queues.{Engine, has, times, by_kind, put}
use Rattle.view_laws.specs.Runs.{Root, Event, Started, Turned, Completed, Held, Stopped, is_stopped, running, has_started, seen, due, engine}

-- ---- runs

-- a run that wasn't stopped is running
going : (h : List Event) → is_stopped h ≡ false → running h ≡ h
going [] on = refl
going (Started ∷ h) on = rw on refl
going (Turned m ∷ h) on = rw on refl
going (Completed f ∷ h) on = rw on refl
going (Held p b ∷ h) on = rw on refl
going (Stopped ∷ h) on = let never : true ≡ false = on in cc

more_started : (e : Event) (h : List Event) → has_started h ≡ true → has_started (e ∷ h) ≡ true
more_started Started h is = refl
more_started (Turned m) h is = is
more_started (Completed f) h is = is
more_started (Held p b) h is = is
more_started Stopped h is = is

-- what has started has started after a further event
still_started : (e : Event) (h : List Event) → has_started (running h) ≡ true → has_started (running (e ∷ h)) ≡ true
still_started e h is = go (is_stopped h) refl
  where
    go : (b : Bool) → is_stopped h ≡ b → has_started (running (e ∷ h)) ≡ true
    go true stopped = rw stopped is
    go false on = rw on (more_started e h (ap has_started (sym (going h on)) ∙ is))

-- ---- lists of messages

module _ (r : Root) (queue_of : Note → ℕ) where
  abbrev x : Engine Note Event
  x = engine r queue_of

  -- the BEGIN of the root was due before, and stands in no list of what is due in it
  no_root : (olds ns : List Note) → times x ns (BeginNote []) ≡ 0 → filter (λ m. not (has x (BeginNote [] ∷ olds) m)) ns ≡ filter (λ m. not (has x olds m)) ns
  no_root olds [] none = refl
  no_root olds (n ∷ ns) none = go (same_note n (BeginNote [])) refl (no_root olds ns (rest none))
    where
      rest : times x (n ∷ ns) (BeginNote []) ≡ 0 → times x ns (BeginNote []) ≡ 0
      rest none = omega arith

      go : (b : Bool) → same_note n (BeginNote []) ≡ b → filter (λ m. not (has x (BeginNote [] ∷ olds) m)) ns ≡ filter (λ m. not (has x olds m)) ns
          → filter (λ m. not (has x (BeginNote [] ∷ olds) m)) (n ∷ ns) ≡ filter (λ m. not (has x olds m)) (n ∷ ns)
      go true is more =
          let same : n ≡ BeginNote [] = one n (BeginNote []) is in
          let some : same_note (BeginNote []) n ≡ true = ap (same_note (BeginNote [])) same ∙ itself (BeginNote []) in
          let counted : times x (n ∷ ns) (BeginNote []) ≡ 1 + times x ns (BeginNote []) = rw some refl in
          absurd (omega (arith, none, counted))
      go false is more = rw is (tail (has x olds n))
        where
          tail : (b : Bool) → (if not b then n ∷ filter (λ m. not (has x (BeginNote [] ∷ olds) m)) ns else filter (λ m. not (has x (BeginNote [] ∷ olds) m)) ns)
              ≡ (if not b then n ∷ filter (λ m. not (has x olds m)) ns else filter (λ m. not (has x olds m)) ns)
          tail true = more
          tail false = ap (λ l. n ∷ l) more

-- what the next event puts is what became due by it
pub put_came : (r : Root) (queue_of : Note → ℕ) (h : List Event) (e : Event) → has_started (running h) ≡ true
    → put (engine r queue_of) e h
    ≡ by_kind (engine r queue_of) (came_due (engine r queue_of) r.templates r.depth r.graph r.input (seen (running h)) (seen (running (e ∷ h))))
put_came r queue_of h e started =
    let x : Engine Note Event = engine r queue_of in
    let olds : List Note = due_in r.templates r.depth (seen (running h)) r.graph r.input in
    let news : List Note = due_in r.templates r.depth (seen (running (e ∷ h))) r.graph r.input in
    let before : due r h ≡ BeginNote [] ∷ olds = rw started refl in
    let after : due r (e ∷ h) ≡ BeginNote [] ∷ news = let now = still_started e h started in rw now refl in
    ap (λ l. by_kind x (filter (λ m. not (has x l m)) (due r (e ∷ h)))) before
    ∙ ap (λ l. by_kind x (filter (λ m. not (has x (BeginNote [] ∷ olds) m)) l)) after
    ∙ ap (by_kind x) (no_root r queue_of olds news (no_begin r queue_of r.templates r.depth (seen (running (e ∷ h))) r.graph r.input))

-- what became due by the next event of a run that has started is what it puts
pub put_given : (r : Root) (h : List Event) (e : Event) (given : List Message) → has_started (running h) ≡ true
    → GivesDue r.templates r.depth r.graph r.input (seen (running h)) (seen (running (e ∷ h))) given → GivesPut r h e given
put_given r h e given started gives = λ queue_of. gives queue_of ∙ ap (map Some) (sym (put_came r queue_of h e started))
