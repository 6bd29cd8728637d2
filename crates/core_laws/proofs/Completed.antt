-- The completions that count of a run are those that the live transactions of its root tell.
use Rattle.std.proofs.Common.{◌≡◌, ℕ, Bool, true, false, List, [], ◌∷◌, Some, length, refl, ap, ◌∙◌}
use Rattle.flow_core.specs.Answers.{instance_of}
use Rattle.flow_core.specs.Facts.{accepted}
use Rattle.flow_core.specs.declared.state.Core.{Core}
use Rattle.flow_model.specs.Rows.{by_facts}
use Rattle.flow_model.specs.declared.instances.Fact.{Fact}
use Rattle.navigator.specs.declared.instance.Instance.{Instance}
use Rattle.view_laws.specs.LegalRuns.{AreAwaited}
use Rattle.view_laws.specs.Runs.{Root, Event, Started, Turned, Completed, Held, Stopped, is_stopped, running, facts, fated}
use Rattle.core_laws.specs.RightStates.{IsRightState, known_now}

-- none is accepted once the run was stopped
counted_all : (r : Root) (h : List Event) → AreAwaited r h → facts (running h) ≡ facts h
counted_all r [] awaited = refl
counted_all r (Started ∷ h) awaited = go (is_stopped h) refl (counted_all r h awaited)
  where
    go : (b : Bool) → is_stopped h ≡ b → facts (running h) ≡ facts h → facts (running (Started ∷ h)) ≡ facts h
    go true is rest = rw is rest
    go false is rest = rw is refl
counted_all r (Turned m ∷ h) awaited = go (is_stopped h) refl (counted_all r h awaited)
  where
    go : (b : Bool) → is_stopped h ≡ b → facts (running h) ≡ facts h → facts (running (Turned m ∷ h)) ≡ facts h
    go true is rest = rw is rest
    go false is rest = rw is refl
counted_all r (Held p held ∷ h) awaited = go (is_stopped h) refl (counted_all r h awaited)
  where
    go : (b : Bool) → is_stopped h ≡ b → facts (running h) ≡ facts h → facts (running (Held p held ∷ h)) ≡ facts h
    go true is rest = rw is rest
    go false is rest = rw is refl
counted_all r (Stopped ∷ h) awaited = go (is_stopped h) refl (counted_all r h awaited)
  where
    go : (b : Bool) → is_stopped h ≡ b → facts (running h) ≡ facts h → facts (running (Stopped ∷ h)) ≡ facts h
    go true is rest = rw is rest
    go false is rest = rw is refl
counted_all r (Completed f ∷ h) awaited = rw awaited.1 refl

module _ (c : Core) (runs : ℕ → List Event) (right : IsRightState c runs) (root : ℕ) (i : Instance) (live : instance_of c root ≡ Some i) where
  -- the completions that were accepted before a termination are all of them
  pub counted_facts : facts (running (runs root)) ≡ accepted c root
  counted_facts = counted_all _ (runs root) (right.are root i live).right.legal.awaited ∙ (right.told.told root i live).facts

  -- what all completions of the run tell
  pub all_known : fated (runs root) ≡ known_now c root
  all_known = ap (λ (fs : List Fact). by_facts (length fs) fs) (right.told.told root i live).facts

  -- and those that were accepted before a termination
  pub counted_known : fated (running (runs root)) ≡ known_now c root
  counted_known = ap (λ (fs : List Fact). by_facts (length fs) fs) (counted_all _ (runs root) (right.are root i live).right.legal.awaited) ∙ all_known
