-- Where each data line goes along a walk of connectors, an activity whose join is known has all its sources settled.
use Rattle.fate_laws.proofs.Extends.{or_false, both_true}
use Rattle.fate_laws.proofs.Forward.{forward}
use Rattle.fate_laws.proofs.Lines.{same_end_true}
use Rattle.fate_laws.proofs.Rounds.{solved}
use Rattle.fate_laws.specs.Orders.{IsFlow}
use Rattle.fate_laws.specs.Walks.{Walk, IsWired}
use Rattle.flow_model.specs.Fates.{Ends, connector_value, joined, fate_by, ended, is_settled}
use Rattle.flow_model.specs.ScopeContainers.{same_end}
use Rattle.flow_model.specs.Scopes.{Known, Runs, is_ready_source, is_fed, attempts_at, values_at, step, scope_ends}
use Rattle.flow_model.specs.declared.graphs.Activity.{Activity}
use Rattle.flow_model.specs.declared.graphs.Container.{Container}
use Rattle.flow_model.specs.declared.graphs.Control.{Control}
use Rattle.flow_model.specs.declared.graphs.DataLine.{DataLine}
use Rattle.flow_model.specs.declared.graphs.Graph.{Graph, out-Graph}
use Rattle.flow_model.specs.declared.graphs.MapEnd.{MapEnd}
use Rattle.flow_model.specs.declared.graphs.MapEnd.TheVariants.{Border, Activity as At}
use Rattle.flow_model.specs.declared.graphs.Template.{Template}
use Rattle.flow_model.specs.declared.instances.SourceEnd.{SourceEnd}
use Rattle.std.proofs.Common.{◌≡◌, ℕ, zero, suc, ◌≤◌, ◌<◌, ◌==◌, Bool, true, false, if◌then◌else◌, List, [], ◌∷◌, map, length, refl, sym, ap, ◌∙◌, Option, Some, None, arith, inl, inr, get_or}
use Rattle.std.proofs.lemmas.Bool.Decides.{eqb_tells}
use Rattle.std.proofs.lemmas.List.Elements.{All-contains, All-cons}
use Rattle.std.specs.List.{list_any, filter, All}
use Rattle.std.specs.Prelude.{is_none, slice_get}
use Rattle.flow_model.specs.declared.instances.SourceEnd.TheVariants as end

-- every connector that leads to an activity with a known join has a known value, so a settled source where values are honest
known_each : (k : Known) (controls : List Control) (e : Ends) (a : ℕ) (cs : List Control)
    → list_any is_none (map (λ c. k.sent [] c.from c.to (connector_value controls c (e c.from))) (filter (λ c. c.to == a) cs)) ≡ false
    → All (λ c. c.to ≡ a → is_none (k.sent [] c.from c.to (connector_value controls c (e c.from))) ≡ false) cs
known_each k controls e a [] known = λ i d less. absurd (omega arith)
known_each k controls e a (c ∷ cs) known = elim (eqb_tells c.to a) [
  | inl is ↦
      let both = or_false (is_none (k.sent [] c.from c.to (connector_value controls c (e c.from)))) _ (rw is.0 at known) in
      All-cons (λ c. c.to ≡ a → is_none (k.sent [] c.from c.to (connector_value controls c (e c.from))) ≡ false) c cs (λ to. both.0) (known_each k controls e a cs both.1)
  | inr other ↦
      All-cons (λ c. c.to ≡ a → is_none (k.sent [] c.from c.to (connector_value controls c (e c.from))) ≡ false) c cs (λ to. absurd (other.1 to)) (known_each k controls e a cs (rw other.0 at known))
]

settled_of : (all : List Control) (c : Control) (s : SourceEnd) → is_none (connector_value all c s) ≡ false → is_settled s ≡ true
settled_of all c end.Unsettled h = cc
settled_of all c end.Dead h = refl
settled_of all c (end.Finished out) h = refl

none_cases : (j : Option Bool) (o : Option Bool) → ((v : Bool) → o ≡ Some v → j ≡ Some v) → is_none o ≡ false → is_none j ≡ false
none_cases j None h known = cc
none_cases j (Some v) h known = rw (h v refl) refl

known_join : (a : Activity) (v : Option Bool) (outs : List Container) → is_settled (ended (fate_by a v outs) outs) ≡ true → is_none v ≡ false
known_join a None outs h = cc
known_join a (Some b) outs h = refl

pub known_values : (a : Activity) (vs : List (Option Bool)) → is_none (joined a.join vs) ≡ false → list_any is_none vs ≡ false
known_values a vs h = go (list_any is_none vs) refl
  where
    go : (b : Bool) → list_any is_none vs ≡ b → list_any is_none vs ≡ false
    go false is = is
    go true is = let n : is_none (joined a.join vs) ≡ true = rw is refl in let m : true ≡ false = sym n ∙ h in cc

module _ (ts : List Template) (k : Known) (runs : Runs) (g : Graph) (input : Container) (order : List ℕ) (flow : IsFlow g order)
    (told : All (λ c. (v : Bool) → k.sent [] c.from c.to (connector_value (out-Graph g).controls c (scope_ends ts k runs g input c.from)) ≡ Some v
    → connector_value (out-Graph g).controls c (scope_ends ts k runs g input c.from) ≡ Some v) (out-Graph g).controls) where
  abbrev ev : Ends
  ev = scope_ends ts k runs g input

  abbrev controls : List Control
  controls = (out-Graph g).controls

  -- the sources of an activity with a known join are settled
  sources : (a : ℕ) → list_any is_none (values_at k controls ev a) ≡ false → All (λ c. c.to ≡ a → is_settled (ev c.from) ≡ true) controls
  sources a known = λ n d less to.
      let c = get_or controls n d in
      let here = known_each k controls ev a controls known n d less to in
      settled_of controls c (ev c.from) (none_cases _ _ (told n d less) here)

  values_of_step : (a : ℕ) → is_settled (step ts k runs g input ev a) ≡ true → list_any is_none (values_at k controls ev a) ≡ false
  values_of_step a h = go (k.begun []) refl (slice_get (out-Graph g).activities a) refl
    where
      go : (b : Bool) → k.begun [] ≡ b → (o : Option Activity) → slice_get (out-Graph g).activities a ≡ o → list_any is_none (values_at k controls ev a) ≡ false
      go false no_ o is = let n : false ≡ true = rw no_ at h in cc
      go true yes_ None is = let n : false ≡ true = rw (yes_, is) at h in cc
      go true yes_ (Some activity) is =
          known_values activity (values_at k controls ev a) (known_join activity _ (attempts_at ts k runs g input ev a (Some activity)) (rw (yes_, is) at h))

  settled_step : (a : ℕ) → a < length (out-Graph g).activities → is_settled (ev a) ≡ true → is_settled (step ts k runs g input ev a) ≡ true
  settled_step a inside h =
      let place = flow.ordered.covers a inside in
      let long : length order ≤ length (out-Graph g).activities = omega (arith, flow.ordered.long) in
      let now = rw place.2 at (solved (step ts k runs g input) order (forward ts k runs g input order flow) (length (out-Graph g).activities) long place.0 place.1) in
      ap is_settled (sym now) ∙ h

  -- all on a walk to an activity with a known join are settled
  walk_settled : (in_range : (b : ℕ) → is_settled (ev b) ≡ true → b < length (out-Graph g).activities) (n b a : ℕ) → Walk controls (suc n) b a → list_any is_none (values_at k controls ev a) ≡ false → is_settled (ev b) ≡ true
  walk_settled in_range zero b a walk known =
      let c = walk.0 in
      let s = All-contains (λ d. d.to ≡ a → is_settled (ev d.from) ≡ true) controls c (sources a known) walk.1 walk.2 in
      rw (walk.3) s
  walk_settled in_range (suc n) b a walk known =
      let c = walk.0 in
      let s = All-contains (λ d. d.to ≡ a → is_settled (ev d.from) ≡ true) controls c (sources a known) walk.1 walk.2 in
      walk_settled in_range n b c.from walk.3 (values_of_step c.from (settled_step c.from (in_range c.from s) s))

  ready_source : (to from : MapEnd) (a : ℕ) → (to ≡ At a → (b : ℕ) → from ≡ At b → is_settled (ev b) ≡ true) → (if same_end to (At a) then is_ready_source from ev else true) ≡ true
  ready_source to Border a h = go (same_end to (At a))
    where
      go : (s : Bool) → (if s then true else true) ≡ true
      go true = refl
      go false = refl
  ready_source to (At b) a h = go (same_end to (At a)) refl
    where
      go : (s : Bool) → same_end to (At a) ≡ s → (if same_end to (At a) then is_settled (ev b) else true) ≡ true
      go false s = rw s refl
      go true s = rw s (h (same_end_true to (At a) s) b refl)

  fed_by : (lines : List DataLine) (a : ℕ) → All (λ line. line.to ≡ At a → (b : ℕ) → line.from ≡ At b → is_settled (ev b) ≡ true) lines → is_fed lines a ev ≡ true
  fed_by [] a h = refl
  fed_by (l ∷ lines) a h = both_true _ _ (ready_source l.to l.from a (h 0 l (omega arith))) (fed_by lines a (λ n d less. h (suc n) d (omega arith)))

  pub fed_where_known : IsWired g → ((b : ℕ) → is_settled (ev b) ≡ true → b < length (out-Graph g).activities)
      → (a : ℕ) → list_any is_none (values_at k controls ev a) ≡ false → is_fed (out-Graph g).lines a ev ≡ true
  fed_where_known wired in_range a known =
      fed_by (out-Graph g).lines a (λ n d less to b from. let walk = wired.each n d less b a from to in walk_settled in_range walk.0 b a walk.1 known)
