-- One step in a scope: what it keeps.
use Rattle.fate_laws.proofs.Attempts.{Along, closed, closed_by, Keeps, tries_kept}
use Rattle.fate_laws.proofs.Extends.{joined_kept, and_true, both_true}
use Rattle.fate_laws.proofs.Lines.{fed_same, same_end_true}
use Rattle.flow_model.specs.Conditions.{holds}
use Rattle.flow_model.specs.Fates.{Ends, goes_on, tried, fate_by, ended, is_settled}
use Rattle.flow_model.specs.ScopeContainers.{same_end, base_of}
use Rattle.flow_model.specs.Scopes.{Known, Runs, gives, is_ready_source, is_fed, trial, attempts_at, values_at, step}
use Rattle.flow_model.specs.declared.graphs.Activity.{Activity}
use Rattle.flow_model.specs.declared.graphs.Container.{Container}
use Rattle.flow_model.specs.declared.graphs.DataLine.{DataLine}
use Rattle.flow_model.specs.declared.graphs.Graph.{Graph, out-Graph}
use Rattle.flow_model.specs.declared.graphs.MapEnd.{MapEnd}
use Rattle.flow_model.specs.declared.graphs.MapEnd.TheVariants.{Border, Activity as At}
use Rattle.flow_model.specs.declared.graphs.Template.{Template}
use Rattle.flow_model.specs.declared.graphs.Work.{Work, Program, Block, Process}
use Rattle.std.proofs.Common.{◌≡◌, ℕ, suc, ◌+◌, ◌≤◌, Bool, true, false, if◌then◌else◌, List, [], ◌∷◌, length, refl, Option, Some, None, arith, inl, inr}
use Rattle.std.proofs.lemmas.Bool.Decides.{eqb_tells}
use Rattle.std.proofs.lemmas.List.Elements.{All-cons}
use Rattle.std.specs.List.{list_any, last_or, All}
use Rattle.std.specs.Prelude.{is_none, slice_get}

goes_on_open : (w : Work) (n : ℕ) (outs : List Container) → is_settled (ended (goes_on w n) outs) ≡ true → ⊥
goes_on_open (Program p) n outs h = cc
goes_on_open (Block g) n outs h = cc
goes_on_open (Process t) n outs h = cc

pub closed_of : (a : Activity) (n : ℕ) (outs : List Container) (o : Option Container) → is_settled (ended (tried a n o) outs) ≡ true → closed_by a.exit o ≡ true
closed_of a n outs None h = absurd (goes_on_open a.work 1 outs h)
closed_of a n outs (Some out) h = go (holds a.exit out) refl
  where
    go : (b : Bool) → holds a.exit out ≡ b → holds a.exit out ≡ true
    go true is = is
    go false is = absurd (goes_on_open a.work (n + 1) outs (rw is at h))

by_kept : (a : Activity) (v v' : Option Bool) (outs outs' : List Container) → (is_none v ≡ false → v' ≡ v) → (closed a.exit outs ≡ true → outs' ≡ outs)
    → is_settled (ended (fate_by a v outs) outs) ≡ true → ended (fate_by a v' outs') outs' ≡ ended (fate_by a v outs) outs
by_kept a None v' outs outs' same stay h = cc
by_kept a (Some false) v' outs outs' same stay h = rw (same refl) refl
by_kept a (Some true) v' outs outs' same stay h = rw (same refl, stay (closed_of a (length outs) outs (last_or None outs) h)) refl

module _ (ts : List Template) (k k' : Known) (runs runs' : Runs) (g : Graph) (input : Container) (e e' : Ends) where
  -- a settled activity stays so
  pub step_kept : (a : ℕ) → (k.begun [] ≡ true → k'.begun [] ≡ true)
      → (list_any is_none (values_at k (out-Graph g).controls e a) ≡ false → values_at k' (out-Graph g).controls e' a ≡ values_at k (out-Graph g).controls e a)
      → ((activity : Activity) → slice_get (out-Graph g).activities a ≡ Some activity → closed activity.exit (attempts_at ts k runs g input e a (Some activity)) ≡ true
      → attempts_at ts k' runs' g input e' a (Some activity) ≡ attempts_at ts k runs g input e a (Some activity))
      → is_settled (step ts k runs g input e a) ≡ true → step ts k' runs' g input e' a ≡ step ts k runs g input e a
  step_kept a begun values stay settled = go (k.begun []) refl (slice_get (out-Graph g).activities a) refl
    where
      go : (b : Bool) → k.begun [] ≡ b → (o : Option Activity) → slice_get (out-Graph g).activities a ≡ o → step ts k' runs' g input e' a ≡ step ts k runs g input e a
      go false no_ o is = let n : false ≡ true = rw no_ at settled in cc
      go true yes_ None is = let n : false ≡ true = rw (yes_, is) at settled in cc
      go true yes_ (Some activity) is =
          rw (begun yes_, yes_, is)
          (by_kept activity _ _ _ _ (joined_kept activity.join _ _ values) (stay activity is) (rw (yes_, is) at settled))

-- ---- what feeds an activity

same_itself : (x : ℕ) → same_end (At x) (At x) ≡ true
same_itself x = elim (eqb_tells x x) [ inl is ↦ is.0 | inr other ↦ absurd (other.1 refl) ]

-- the source of a line that feeds the activity
source_true : (to from : MapEnd) (a : ℕ) (e : Ends) → (if same_end to (At a) then is_ready_source from e else true) ≡ true
    → to ≡ At a → (b : ℕ) → from ≡ At b → is_settled (e b) ≡ true
source_true to from a e ok is b of =
    let s : same_end to (At a) ≡ true = rw is (same_itself a) in
    rw (s, of) at ok

pub fed_true : (lines : List DataLine) (a : ℕ) (e : Ends) → is_fed lines a e ≡ true
    → All (λ line. line.to ≡ At a → (b : ℕ) → line.from ≡ At b → is_settled (e b) ≡ true) lines
fed_true [] a e h = λ i d less. absurd (omega arith)
fed_true (l ∷ lines) a e h =
    let both = and_true (if same_end l.to (At a) then is_ready_source l.from e else true) _ h in
    All-cons (λ line. line.to ≡ At a → (b : ℕ) → line.from ≡ At b → is_settled (e b) ≡ true) l lines
    (source_true l.to l.from a e both.0)
    (fed_true lines a e both.1)

-- what feeds an activity and is settled is the same
abbrev pub LinesKept : List DataLine → ℕ → Ends → Ends → Type 0
LinesKept lines a e e' = All (λ line. line.to ≡ At a → (b : ℕ) → line.from ≡ At b → is_settled (e b) ≡ true → e' b ≡ e b) lines

source_kept : (to from : MapEnd) (a : ℕ) (e e' : Ends) → (to ≡ At a → (b : ℕ) → from ≡ At b → is_settled (e b) ≡ true → e' b ≡ e b)
    → (if same_end to (At a) then is_ready_source from e else true) ≡ true → (if same_end to (At a) then is_ready_source from e' else true) ≡ true
source_kept to Border a e e' kept ok = ok
source_kept to (At b) a e e' kept ok = go (same_end to (At a)) refl
  where
    go : (s : Bool) → same_end to (At a) ≡ s → (if same_end to (At a) then is_settled (e' b) else true) ≡ true
    go false s = rw s refl
    go true s =
        let settled : is_settled (e b) ≡ true = rw s at ok in
        rw (s, kept (same_end_true to (At a) s) b refl settled) settled

pub fed_kept : (lines : List DataLine) (a : ℕ) (e e' : Ends) → LinesKept lines a e e' → is_fed lines a e ≡ true → is_fed lines a e' ≡ true
fed_kept [] a e e' kept h = refl
fed_kept (l ∷ lines) a e e' kept h =
    let both = and_true (if same_end l.to (At a) then is_ready_source l.from e else true) _ h in
    both_true _ _ (source_kept l.to l.from a e e' (kept 0 l (omega arith)) both.0)
    (fed_kept lines a e e' (λ i d less. kept (suc i) d (omega arith)) both.1)

pub base_kept : (g : Graph) (activity : Activity) (a : ℕ) (input : Container) (e e' : Ends) → LinesKept (out-Graph g).lines a e e'
    → is_fed (out-Graph g).lines a e ≡ true → base_of g activity a input e' ≡ base_of g activity a input e
base_kept g activity a input e e' kept h =
    fed_same (out-Graph g).lines (At a) input e e' _
    (λ i d less to b from. kept i d less to b from (fed_true (out-Graph g).lines a e h i d less to b from))

module _ (ts : List Template) (k k' : Known) (runs runs' : Runs) (g : Graph) (input : Container) (e e' : Ends) where
  -- attempts that have ended stay
  pub attempts_kept : (a : ℕ) (activity : Activity) → k.most ≤ k'.most → LinesKept (out-Graph g).lines a e e'
      → (is_fed (out-Graph g).lines a e ≡ true
      → Along (Keeps (gives ts k runs activity.name activity.work) (gives ts k' runs' activity.name activity.work)) (gives ts k runs activity.name activity.work)
      (trial g a activity (base_of g activity a input e)) k.most 1 (base_of g activity a input e))
      → closed activity.exit (attempts_at ts k runs g input e a (Some activity)) ≡ true
      → attempts_at ts k' runs' g input e' a (Some activity) ≡ attempts_at ts k runs g input e a (Some activity)
  attempts_kept a activity most lines along done = go (is_fed (out-Graph g).lines a e) refl
    where
      go : (b : Bool) → is_fed (out-Graph g).lines a e ≡ b → attempts_at ts k' runs' g input e' a (Some activity) ≡ attempts_at ts k runs g input e a (Some activity)
      go false is = let n : false ≡ true = rw is at done in cc
      go true is =
          rw (is, fed_kept (out-Graph g).lines a e e' lines is, base_kept g activity a input e e' lines is)
          (tries_kept (gives ts k runs activity.name activity.work) (gives ts k' runs' activity.name activity.work)
          (trial g a activity (base_of g activity a input e)) k.most k'.most 1 (base_of g activity a input e) most (along is) (rw is at done))
