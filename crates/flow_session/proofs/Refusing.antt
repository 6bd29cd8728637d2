-- Why a store isn't opened: the record that is unfit, and those before it.
use Rattle.std.proofs.Common.{◌≡◌, ℕ, ◌+◌, List, [], ◌∷◌, ◌++◌, length, sym, ap, subst, ◌∙◌, append_assoc}
use Rattle.std.proofs.lemmas.List.{append-nil}
use Rattle.flow_disk.specs.declared.disk.Slot.{Slot}
use Rattle.txn_log.specs.declared.header.Header.{Header}
use Rattle.txn_log.specs.declared.stops.LogStop.{LogStop}
use Rattle.txn_log.specs.declared.stops.LogStop.TheVariants as log
use Rattle.txn_log.specs.Records.{reach}
use Rattle.txn_log.specs.Walks.{RecordWalk}
use Rattle.txn_log.proofs.Placed.{reach-push}
use Rattle.flow_core.specs.declared.state.Core.{Core}
use Rattle.flow_session.specs.Refusing.{AdmitsOne, OneRecord, LeadsTo, IsUnfit, BreaksAt, StopsAt, StopsIn}

-- ---- the records of a slot

-- one record more is admitted
pub leads_more : (h : Header) (front : List (List ℕ)) (payload : List ℕ) (c c' : Core) → LeadsTo h front c → AdmitsOne c payload c' → LeadsTo h (front ++ payload ∷ []) c'
leads_more h front payload c c' leads one = (leads.0, leads.1, OneRecord leads.2 one)

-- a walk over the records of a slot: those that were passed, and where it stands
pub record Passed (all front : List (List ℕ)) (walk : RecordWalk) : Type 0 where
  pub split : all ≡ front ++ walk.left
  pub gate : walk.place ≡ reach 42 front

-- one more record is passed
pub passed_one : (all front : List (List ℕ)) (payload : List ℕ) (walk walk' : RecordWalk) → Passed all front walk
    → walk.left ≡ payload ∷ walk'.left → walk'.place ≡ walk.place + 5 + length payload
    → Passed all (front ++ payload ∷ []) walk'
passed_one all front payload walk walk' passed is place = record {
  split = passed.split ∙ ap (λ (l : List (List ℕ)). front ++ l) is ∙ sym (append_assoc front (payload ∷ []) walk'.left);
  gate = place ∙ ap (λ (k : ℕ). k + 5 + length payload) passed.gate ∙ sym (reach-push 42 front payload);
}

-- all are passed where none is left
pub passed_all : (all front : List (List ℕ)) (walk : RecordWalk) → Passed all front walk → walk.left ≡ [] → all ≡ front
passed_all all front walk passed none =
    passed.split ∙ ap (λ (l : List (List ℕ)). front ++ l) none ∙ append-nil front

-- a record that is unfit, behind some that are admitted
breaks_at : (h : Header) (all front : List (List ℕ)) (payload : List ℕ) (walk walk' : RecordWalk) (c : Core)
    → Passed all front walk → walk.left ≡ payload ∷ walk'.left → LeadsTo h front c → IsUnfit c payload
    → BreaksAt h all walk.place
breaks_at h all front payload walk walk' c passed is leads unfit = record {
  front = front;
  payload = payload;
  behind = walk'.left;
  split = passed.split ∙ ap (λ (l : List (List ℕ)). front ++ l) is;
  gate = passed.gate;
  state = c;
  leads = leads;
  unfit = unfit;
}

-- where a record isn't taken up, those of the slot aren't
pub stops_in : (slot : Slot) (h : Header) (all front : List (List ℕ)) (payload : List ℕ) (walk walk' : RecordWalk) (c : Core)
    (stop : LogStop) → Passed all front walk → walk.left ≡ payload ∷ walk'.left → LeadsTo h front c
    → StopsAt slot walk.place c payload stop → StopsIn slot h all stop
stops_in slot h all front payload walk walk' c log.Unmade passed is leads stops = stops
stops_in slot h all front payload walk walk' c log.Made passed is leads stops = stops
stops_in slot h all front payload walk walk' c (log.Foreign other) passed is leads stops = stops
stops_in slot h all front payload walk walk' c (log.Damaged other place) passed is leads stops =
    (stops.0, subst (BreaksAt h all) (sym stops.1) (breaks_at h all front payload walk walk' c passed is leads stops.2))
stops_in slot h all front payload walk walk' c log.StoreFault passed is leads stops = stops
stops_in slot h all front payload walk walk' c log.NoMemory passed is leads stops = tt
