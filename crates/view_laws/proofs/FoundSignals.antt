-- A SIGNAL that is due tells the value of a connector, whose source has ended; and what feeds the activity that it leads to is settled once its join is known.
use Rattle.fate_laws.proofs.Extends.{or_false, and_true, both_true}
use Rattle.fate_laws.proofs.Items.{eqb_one}
use Rattle.fate_laws.proofs.Lines.{same_end_true}
use Rattle.fate_laws.proofs.Solutions.{order_of}
use Rattle.fate_laws.proofs.Wired.{known_values}
use Rattle.fate_laws.specs.Walks.{Walk, IsWired}
use Rattle.fate_laws.specs.WellFormed.{AreSimple, Well}
use Rattle.flow_model.specs.Fates.{Ends, connector_value, joined, fate_by, ended, is_settled}
use Rattle.flow_model.specs.ScopeContainers.{same_end}
use Rattle.flow_model.specs.Scopes.{Known, is_ready_source, is_fed, attempts_at, values_at, output, tree_ends, tree_fate}
use Rattle.flow_model.specs.declared.graphs.Activity.{Activity}
use Rattle.flow_model.specs.declared.graphs.Container.{Container}
use Rattle.flow_model.specs.declared.graphs.Control.{Control}
use Rattle.flow_model.specs.declared.graphs.DataLine.{DataLine}
use Rattle.flow_model.specs.declared.graphs.Graph.{Graph, out-Graph}
use Rattle.flow_model.specs.declared.graphs.MapEnd.{MapEnd}
use Rattle.flow_model.specs.declared.graphs.MapEnd.TheVariants.{Border, Activity as At}
use Rattle.flow_model.specs.declared.graphs.Template.{Template}
use Rattle.flow_model.specs.declared.instances.SourceEnd.{SourceEnd}
use Rattle.flow_model.specs.declared.instances.SourceEnd.TheVariants as end
use Rattle.std.proofs.Common.{◌≡◌, ℕ, zero, suc, ◌≤◌, ◌==◌, Bool, true, false, ◌&&◌, if◌then◌else◌, List, [], ◌∷◌, map, refl, sym, ap, ◌∙◌, Option, Some, None, arith, inl, inr}
use Rattle.std.proofs.lemmas.Bool.{cases_lt}
use Rattle.std.proofs.lemmas.Bool.Decides.{eqb_tells}
use Rattle.std.proofs.lemmas.List.Elements.{All-contains, All-cons}
use Rattle.std.proofs.lemmas.Option.{slice_get_within, unwrap_or-slice_get}
use Rattle.std.specs.List.{list_any, filter, All, Contains}
use Rattle.std.specs.Prelude.{is_none, slice_get, unwrap_or}
use Rattle.view_laws.proofs.Counting.{times-append}
use Rattle.view_laws.proofs.ReadyInView.{IsTold}
use Rattle.view_laws.proofs.SameNotes.{itself, one, truth_one}
use Rattle.view_laws.proofs.Trusting.{note_value, due_own}
use Rattle.view_laws.proofs.Unfinished.{ends_by_fate}
use Rattle.view_laws.specs.Messages.{Note, SignalNote, note_of, notes, due_in, same_note, same_truth}
use Rattle.view_laws.specs.Queues.{Engine, times}
use Rattle.view_laws.specs.Runs.{Root, Event, engine}

-- what stands at a place of a list is among it
pub contains_of : {X : Type 0} (xs : List X) (n : ℕ) (c : X) → slice_get xs n ≡ Some c → Contains xs c
contains_of xs n c is = (n, slice_get_within xs n c is, sym (unwrap_or-slice_get xs n c) ∙ ap (λ o. unwrap_or o c) is)

-- a connector whose value is this
pub record IsSignal (controls cs : List Control) (e : Ends) (a b : ℕ) (v : Bool) : Type 0 where
  pub number : ℕ
  pub connector : Control
  pub among : slice_get cs number ≡ Some connector
  pub from : connector.from ≡ a
  pub to : connector.to ≡ b
  pub value : connector_value controls connector (e connector.from) ≡ Some v

module _ (r : Root) (qf : Note → ℕ) where
  abbrev x : Engine Note Event
  x = engine r qf

  -- a SIGNAL among those of a scope is of one of its connectors
  pub signal_found : (controls cs : List Control) (e : Ends) (a b : ℕ) (v : Bool) → 1 ≤ times x (notes controls cs e) (SignalNote [] a b v) → IsSignal controls cs e a b v
  signal_found controls [] e a b v some = absurd (omega arith)
  signal_found controls (c ∷ cs) e a b v some =
      let all = times-append x itself one (note_of c (connector_value controls c (e c.from))) (notes controls cs e) (SignalNote [] a b v) in
      elim (cases_lt 0 (times x (note_of c (connector_value controls c (e c.from))) (SignalNote [] a b v))) [
        | inl here ↦ at_first (connector_value controls c (e c.from)) refl (omega (arith, here))
        | inr none ↦ later (signal_found controls cs e a b v (omega arith))
      ]
    where
      by : (w : Bool) → connector_value controls c (e c.from) ≡ Some w → (b' : Bool) → same_note (SignalNote [] a b v) (SignalNote [] c.from c.to w) ≡ b'
          → 1 ≤ times x (note_of c (Some w)) (SignalNote [] a b v) → IsSignal controls (c ∷ cs) e a b v
      by w is false miss some' =
          let none : times x (note_of c (Some w)) (SignalNote [] a b v) ≡ 0 = rw miss refl in
          absurd (omega arith)
      by w is true hit some' =
          let both = and_true ((a == c.from) && (b == c.to)) (same_truth v w) hit in
          let more = and_true (a == c.from) (b == c.to) both.0 in
          record {
            number = 0;
            connector = c;
            among = refl;
            from = sym (eqb_one a c.from more.0);
            to = sym (eqb_one b c.to more.1);
            value = is ∙ ap Some (sym (truth_one v w both.1));
          }

      at_first : (o : Option Bool) → connector_value controls c (e c.from) ≡ o → 1 ≤ times x (note_of c (connector_value controls c (e c.from))) (SignalNote [] a b v)
          → IsSignal controls (c ∷ cs) e a b v
      at_first None is some' = let none : times x (note_of c (connector_value controls c (e c.from))) (SignalNote [] a b v) ≡ 0 = rw is refl in absurd (omega arith)
      at_first (Some w) is some' = by w is (same_note (SignalNote [] a b v) (SignalNote [] c.from c.to w)) refl (rw is at some')

      later : IsSignal controls cs e a b v → IsSignal controls (c ∷ cs) e a b v
      later s = record { number = suc s.number; connector = s.connector; among = s.among; from = s.from; to = s.to; value = s.value }

  -- a SIGNAL of a scope that is due is that of one of its connectors
  pub due_signal : (ts : List Template) (depth : ℕ) (k : Known) (g : Graph) (i : Container) (a b : ℕ) (v : Bool) → 1 ≤ times x (due_in ts depth k g i) (SignalNote [] a b v)
      → 1 ≤ times x (notes (out-Graph g).controls (out-Graph g).controls (tree_ends ts depth k g i)) (SignalNote [] a b v)
  due_signal ts zero k g i a b v some = some
  due_signal ts (suc depth) k g i a b v some = let own = due_own r qf ts depth k g i a b v in omega arith

  -- no connector tells two values
  pub one_signal : (controls : List Control) (e : Ends) (a b : ℕ) (v w : Bool) → AreSimple controls
      → 1 ≤ times x (notes controls controls e) (SignalNote [] a b v) → 1 ≤ times x (notes controls controls e) (SignalNote [] a b w) → v ≡ w
  one_signal controls e a b v w simple some some' =
      let s = signal_found controls controls e a b v some in
      let c : Control = s.connector in
      let there : 1 ≤ times x (notes controls controls e) (SignalNote [] c.from c.to w) = rw (s.from, s.to) some' in
      let P : Control → Type 0 = λ d. (u : Bool) → 1 ≤ times x (notes controls controls e) (SignalNote [] d.from d.to u) → connector_value controls d (e d.from) ≡ Some u in
      let value = All-contains P controls c (note_value r qf controls controls e simple) (contains_of controls s.number c s.among) w there in
      let same : Some v ≡ Some w = sym s.value ∙ value in
      cc

-- ---- what counts of each connector into an activity

-- where no value into an activity is unknown, each counts
pub counted_each : (counted : Control → Option Bool) (a : ℕ) (cs : List Control) → list_any is_none (map counted (filter (λ c. c.to == a) cs)) ≡ false
    → All (λ c. c.to ≡ a → is_none (counted c) ≡ false) cs
counted_each counted a [] known = λ i d less. absurd (omega arith)
counted_each counted a (c ∷ cs) known = elim (eqb_tells c.to a) [
  | inl is ↦
      let both = or_false (is_none (counted c)) _ (rw is.0 at known) in
      All-cons (λ d. d.to ≡ a → is_none (counted d) ≡ false) c cs (λ to. both.0) (counted_each counted a cs both.1)
  | inr other ↦
      All-cons (λ d. d.to ≡ a → is_none (counted d) ≡ false) c cs (λ to. absurd (other.1 to)) (counted_each counted a cs (rw other.0 at known))
]

-- a connector has a value only where its source has ended
pub settled_value : (all : List Control) (c : Control) (s : SourceEnd) (v : Bool) → connector_value all c s ≡ Some v → is_settled s ≡ true
settled_value all c end.Unsettled v h = cc
settled_value all c end.Dead v h = refl
settled_value all c (end.Finished out) v h = refl

known_join : (a : Activity) (v : Option Bool) (outs : List Container) → is_settled (ended (fate_by a v outs) outs) ≡ true → is_none v ≡ false
known_join a None outs h = cc
known_join a (Some b) outs h = refl

module _ (ts : List Template) (depth : ℕ) (k : Known) (g : Graph) (i : Container) (well : Well ts depth g) (told : IsTold ts depth k g i) where
  abbrev ev : Ends
  ev = tree_ends ts depth k g i

  abbrev controls : List Control
  controls = (out-Graph g).controls

  -- the source of a connector that counts has ended
  pub counted_settled : (c : Control) → Contains controls c → is_none (k.sent [] c.from c.to (connector_value controls c (ev c.from))) ≡ false → is_settled (ev c.from) ≡ true
  counted_settled c there known = go (k.sent [] c.from c.to (connector_value controls c (ev c.from))) refl
    where
      no_end : true ≡ false → ⊥
      no_end h = cc

      P : Control → Type 0
      P d = (v : Bool) → k.sent [] d.from d.to (connector_value controls d (ev d.from)) ≡ Some v → connector_value controls d (ev d.from) ≡ Some v

      go : (o : Option Bool) → k.sent [] c.from c.to (connector_value controls c (ev c.from)) ≡ o → is_settled (ev c.from) ≡ true
      go None is = absurd (no_end (sym (ap is_none is) ∙ known))
      go (Some v) is = settled_value controls c (ev c.from) v (All-contains P controls c told there v is)

  -- the sources of an activity that has ended have ended
  sources : (a : ℕ) → is_settled (ev a) ≡ true → (c : Control) → Contains controls c → c.to ≡ a → is_settled (ev c.from) ≡ true
  sources a settled c there to = go (k.begun []) refl (slice_get (out-Graph g).activities a) refl
    where
      no_end : false ≡ true → ⊥
      no_end h = cc

      by_step : is_settled (ended (tree_fate ts depth k g i a) (attempts_at ts k (output ts depth) g i ev a (slice_get (out-Graph g).activities a))) ≡ true
      by_step = ap is_settled (sym (ends_by_fate ts depth k g i well a)) ∙ settled

      P : Control → Type 0
      P d = d.to ≡ a → is_none (k.sent [] d.from d.to (connector_value controls d (ev d.from))) ≡ false

      go : (b : Bool) → k.begun [] ≡ b → (o : Option Activity) → slice_get (out-Graph g).activities a ≡ o → is_settled (ev c.from) ≡ true
      go false no_ o is = absurd (no_end (rw no_ at by_step))
      go true yes_ None is = absurd (no_end (rw (yes_, is) at by_step))
      go true yes_ (Some activity) is =
          let known = known_values activity (values_at k controls ev a)
          (known_join activity (joined activity.join (values_at k controls ev a)) (attempts_at ts k (output ts depth) g i ev a (Some activity)) (rw (yes_, is) at by_step)) in
          counted_settled c there
          (All-contains P controls c (counted_each (λ d. k.sent [] d.from d.to (connector_value controls d (ev d.from))) a controls known) there to)

  walk_back : (n b a : ℕ) → Walk controls n b a → is_settled (ev a) ≡ true → is_settled (ev b) ≡ true
  walk_back zero b a walk settled = rw walk settled
  walk_back (suc n) b a walk settled = walk_back n b walk.0.from walk.3 (sources a settled walk.0 walk.1 walk.2)

  ready_source : (to from : MapEnd) (a : ℕ) → (to ≡ At a → (b : ℕ) → from ≡ At b → is_settled (ev b) ≡ true) → (if same_end to (At a) then is_ready_source from ev else true) ≡ true
  ready_source to Border a h = go (same_end to (At a))
    where
      go : (s : Bool) → (if s then true else true) ≡ true
      go true = refl
      go false = refl
  ready_source to (At b) a h = go (same_end to (At a)) refl
    where
      go : (s : Bool) → same_end to (At a) ≡ s → (if same_end to (At a) then is_settled (ev b) else true) ≡ true
      go false s = rw s refl
      go true s = rw s (h (same_end_true to (At a) s) b refl)

  fed_by : (lines : List DataLine) (a : ℕ) → All (λ line. line.to ≡ At a → (b : ℕ) → line.from ≡ At b → is_settled (ev b) ≡ true) lines → is_fed lines a ev ≡ true
  fed_by [] a h = refl
  fed_by (l ∷ lines) a h = both_true _ _ (ready_source l.to l.from a (h 0 l (omega arith))) (fed_by lines a (λ n d less. h (suc n) d (omega arith)))

  -- where all sources of an activity have ended, so has what feeds it
  pub fed_by_sources : (a : ℕ) → ((c : Control) → Contains controls c → c.to ≡ a → is_settled (ev c.from) ≡ true) → is_fed (out-Graph g).lines a ev ≡ true
  fed_by_sources a settled =
      let wired : IsWired g = (order_of ts depth g well).wired in
      fed_by (out-Graph g).lines a
      (λ n d less to b from.
      let walk = wired.each n d less b a from to in
      walk_back walk.0 b walk.1.0.from walk.1.3 (settled walk.1.0 walk.1.1 walk.1.2))
