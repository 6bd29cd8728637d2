-- A step looks at the sources of connectors and data lines alone, so in an order at what stands before.
use Rattle.fate_laws.proofs.Lines.{fed_same, same_end_true}
use Rattle.fate_laws.specs.Orders.{IsFlow}
use Rattle.flow_model.specs.Fates.{Ends, connector_value, joined, fate_by, ended, is_settled}
use Rattle.flow_model.specs.ScopeContainers.{same_end, base_of}
use Rattle.flow_model.specs.Scopes.{Known, Runs, is_ready_source, is_fed, tries_on, attempts_at, attempts, fate_at, step}
use Rattle.flow_model.specs.declared.graphs.Activity.{Activity}
use Rattle.flow_model.specs.declared.graphs.Container.{Container}
use Rattle.flow_model.specs.declared.graphs.Control.{Control}
use Rattle.flow_model.specs.declared.graphs.DataLine.{DataLine}
use Rattle.flow_model.specs.declared.graphs.Graph.{Graph, out-Graph}
use Rattle.flow_model.specs.declared.graphs.MapEnd.{MapEnd}
use Rattle.flow_model.specs.declared.graphs.MapEnd.TheVariants.{Border, Activity as At}
use Rattle.flow_model.specs.declared.graphs.Template.{Template}
use Rattle.flow_model.specs.declared.instances.Fate.TheVariants.{Waiting}
use Rattle.std.proofs.Common.{◌≡◌, ℕ, zero, suc, ◌<◌, ◌==◌, Bool, true, false, if◌then◌else◌, List, [], ◌∷◌, map, length, refl, ap, Option, Some, None, arith, inl, inr}
use Rattle.std.proofs.lemmas.Bool.Decides.{eqb_tells}
use Rattle.std.specs.List.{filter, All}
use Rattle.std.specs.Prelude.{slice_get, slice_index}

-- the ends agree on what leads to an activity
abbrev pub SameControls : List Control → ℕ → Ends → Ends → Type 0
SameControls cs a e e' = All (λ c. c.to ≡ a → e c.from ≡ e' c.from) cs

abbrev pub SameLines : List DataLine → ℕ → Ends → Ends → Type 0
SameLines lines a e e' = All (λ line. line.to ≡ At a → (b : ℕ) → line.from ≡ At b → e b ≡ e' b) lines

pub values_same : (k : Known) (controls : List Control) (e e' : Ends) (a : ℕ) (cs : List Control) → SameControls cs a e e'
    → map (λ c. k.sent [] c.from c.to (connector_value controls c (e c.from))) (filter (λ c. c.to == a) cs)
    ≡ map (λ c. k.sent [] c.from c.to (connector_value controls c (e' c.from))) (filter (λ c. c.to == a) cs)
values_same k controls e e' a [] same = refl
values_same k controls e e' a (c ∷ cs) same =
    let rest = values_same k controls e e' a cs (λ i d h. same (suc i) d (omega arith)) in
    elim (eqb_tells c.to a) [
      | inl is ↦
          let first = same zero c (omega arith) is.1 in
          rw is.0 (rw first (ap (λ vs. k.sent [] c.from c.to (connector_value controls c (e' c.from)) ∷ vs) rest))
      | inr other ↦ rw other.0 rest
    ]

source_same : (to from : MapEnd) (a : ℕ) (e e' : Ends) → (to ≡ At a → (b : ℕ) → from ≡ At b → e b ≡ e' b)
    → (if same_end to (At a) then is_ready_source from e else true) ≡ (if same_end to (At a) then is_ready_source from e' else true)
source_same to Border a e e' same = refl
source_same to (At b) a e e' same = go (same_end to (At a)) refl
  where
    go : (s : Bool) → same_end to (At a) ≡ s → (if same_end to (At a) then is_settled (e b) else true) ≡ (if same_end to (At a) then is_settled (e' b) else true)
    go false s = rw s refl
    go true s = rw (s, same (same_end_true to (At a) s) b refl) refl

pub is_fed_same : (lines : List DataLine) (a : ℕ) (e e' : Ends) → SameLines lines a e e' → is_fed lines a e ≡ is_fed lines a e'
is_fed_same [] a e e' same = refl
is_fed_same (l ∷ lines) a e e' same =
    let first = source_same l.to l.from a e e' (same zero l (omega arith)) in
    let rest = is_fed_same lines a e e' (λ i d h. same (suc i) d (omega arith)) in
    rw (first, rest) refl

module _ (ts : List Template) (k : Known) (runs : Runs) (g : Graph) (input : Container) (e e' : Ends) where
  attempts_same : (a : ℕ) → SameLines (out-Graph g).lines a e e' → (o : Option Activity)
      → attempts_at ts k runs g input e a o ≡ attempts_at ts k runs g input e' a o
  attempts_same a lines None = refl
  attempts_same a lines (Some activity) =
      let base : base_of g activity a input e ≡ base_of g activity a input e' = fed_same (out-Graph g).lines (At a) input e' e _ (λ i d h to b from. lines i d h to b from) in
      rw (is_fed_same (out-Graph g).lines a e e' lines) (ap (λ c. if is_fed (out-Graph g).lines a e' then tries_on ts k runs g a activity c else []) base)

  fate_same : (a : ℕ) → SameControls (out-Graph g).controls a e e' → (o : Option Activity) (outs : List Container)
      → fate_at k (out-Graph g).controls e a o outs ≡ fate_at k (out-Graph g).controls e' a o outs
  fate_same a same None outs = refl
  fate_same a same (Some activity) outs = ap (λ vs. fate_by activity (joined activity.join vs) outs) (values_same k (out-Graph g).controls e e' a (out-Graph g).controls same)

  pub step_same : (a : ℕ) → SameControls (out-Graph g).controls a e e' → SameLines (out-Graph g).lines a e e'
      → step ts k runs g input e a ≡ step ts k runs g input e' a
  step_same a controls lines =
      let outs = attempts_same a lines (slice_get (out-Graph g).activities a) in
      let fate = fate_same a controls (slice_get (out-Graph g).activities a) (attempts ts k runs g input e' a) in
      rw outs (ap (λ f. ended (if k.begun [] then f else Waiting) (attempts ts k runs g input e' a)) fate)

-- in an order, only at what stands before
pub forward : (ts : List Template) (k : Known) (runs : Runs) (g : Graph) (input : Container) (order : List ℕ) → IsFlow g order
    → (i : ℕ) → i < length order → (e e' : Ends) → ((j : ℕ) → j < i → e (slice_index order j) ≡ e' (slice_index order j))
    → step ts k runs g input e (slice_index order i) ≡ step ts k runs g input e' (slice_index order i)
forward ts k runs g input order flow i less e e' same =
    step_same ts k runs g input e e' (slice_index order i)
    (λ n d h to. let source = flow.ordered.forward i less n d h to in rw source.2 at (same source.0 source.1))
    (λ n d h to b from. let source = flow.fed i less n d h to b from in rw source.2 at (same source.0 source.1))
