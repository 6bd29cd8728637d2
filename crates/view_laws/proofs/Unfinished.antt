-- Scopes that aren't complete: those that haven't begun, those with an activity that waits or is ready, and those with an attempt that hasn't ended.
use Rattle.fate_laws.proofs.Attempts.{closed}
use Rattle.fate_laws.proofs.Complete.{settled_at}
use Rattle.fate_laws.proofs.Extends.{and_true}
use Rattle.fate_laws.proofs.Solutions.{order_of, step_keeps_ends}
use Rattle.fate_laws.proofs.Steps.{closed_of}
use Rattle.fate_laws.specs.WellFormed.{Well}
use Rattle.flow_model.specs.Fates.{Ends, joined, fate_by, ended, is_settled, is_open}
use Rattle.flow_model.specs.ScopeContainers.{graph_in, base_of, is_complete}
use Rattle.flow_model.specs.Scopes.{Known, Runs, part, scope_gives, gives, is_fed, trial, attempts, attempts_at, values_at, output, tree_ends, tree_fate}
use Rattle.flow_model.specs.declared.graphs.Activity.{Activity}
use Rattle.flow_model.specs.declared.graphs.Container.{Container}
use Rattle.flow_model.specs.declared.graphs.Graph.{Graph, out-Graph}
use Rattle.flow_model.specs.declared.graphs.Template.{Template}
use Rattle.flow_model.specs.declared.graphs.Work.{Work, Program, Block, Process}
use Rattle.flow_model.specs.declared.instances.Fate.TheVariants.{Waiting, Ready}
use Rattle.flow_model.specs.declared.instances.Part.{Part}
use Rattle.flow_model.specs.declared.names.Name.{Name}
use Rattle.std.proofs.Common.{◌≡◌, ℕ, suc, ◌<◌, Bool, true, false, List, [], ◌∷◌, length, refl, sym, ap, ◌∙◌, Option, Some, None, arith, inl, inr}
use Rattle.std.proofs.lemmas.Bool.{cases_lt}
use Rattle.std.proofs.lemmas.Option.{slice_get_past}
use Rattle.std.specs.List.{last_or}
use Rattle.std.specs.Prelude.{slice_get}
use Rattle.view_laws.proofs.Attempts.{reached_open}
use Rattle.view_laws.proofs.StartedParts.{Starts, HasScope}

-- the scope isn't complete
abbrev pub Unfinished : List Template → ℕ → Known → Graph → Container → Type 0
Unfinished ts depth k g i = is_complete g (tree_ends ts depth k g i) ≡ true → ⊥

-- a place with an activity is a place of the graph
pub place_inside : (g : Graph) (a : ℕ) (activity : Activity) → slice_get (out-Graph g).activities a ≡ Some activity → a < length (out-Graph g).activities
place_inside g a activity is = elim (cases_lt a (length (out-Graph g).activities)) [
  | inl less ↦ less
  | inr past ↦ absurd (none_some (sym (slice_get_past (out-Graph g).activities a past) ∙ is))
]
  where
    none_some : None ≡ Some activity → ⊥
    none_some n = cc

-- so it is where an activity hasn't ended
pub unsettled_unfinished : (ts : List Template) (depth : ℕ) (k : Known) (g : Graph) (i : Container) (a : ℕ) → a < length (out-Graph g).activities
    → is_settled (tree_ends ts depth k g i a) ≡ false → Unfinished ts depth k g i
unsettled_unfinished ts depth k g i a inside unsettled = λ whole.
    no_end (sym unsettled ∙ settled_at (tree_ends ts depth k g i) (length (out-Graph g).activities) 0 a whole (omega arith) (omega arith))
  where
    no_end : false ≡ true → ⊥
    no_end h = cc

-- a scope that gives something is complete
pub output_complete : (ts : List Template) (depth : ℕ) (k : Known) (g : Graph) (i out : Container) → output ts (suc depth) k g i ≡ Some out
    → is_complete g (tree_ends ts depth k g i) ≡ true
output_complete ts depth k g i out gave = go (is_complete g (tree_ends ts depth k g i)) refl
  where
    no_some : None ≡ Some out → ⊥
    no_some h = cc

    go : (b : Bool) → is_complete g (tree_ends ts depth k g i) ≡ b → is_complete g (tree_ends ts depth k g i) ≡ true
    go true is = is
    go false is = absurd (no_some (rw is at gave))

-- what an attempt that runs a graph gives
pub gives_scope : (ts : List Template) (k : Known) (runs : Runs) (name : Name) (w : Work) (h : Graph) (j : ℕ) (i : Container) → graph_in ts w ≡ Some h
    → gives ts k runs name w j i ≡ scope_gives k runs (Some h) (part name j) i
gives_scope ts k runs name (Program p) h j i of = absurd (none_some of)
  where
    none_some : None ≡ Some h → ⊥
    none_some n = cc
gives_scope ts k runs name (Block g) h j i of = ap (λ o. scope_gives k runs o (part name j) i) of
gives_scope ts k runs name (Process t) h j i of = ap (λ o. scope_gives k runs o (part name j) i) of

-- an attempt that hasn't told its end gives nothing
pub unclosed_gives : (ts : List Template) (k : Known) (runs : Runs) (name : Name) (w : Work) (h : Graph) (j : ℕ) (i : Container) → graph_in ts w ≡ Some h
    → k.closed (part name j ∷ []) ≡ false → gives ts k runs name w j i ≡ None
unclosed_gives ts k runs name w h j i of unclosed = gives_scope ts k runs name w h j i of ∙ rw unclosed refl

open_joined : (a : Activity) (v : Option Bool) (outs : List Container) → is_open (fate_by a v outs) ≡ true → v ≡ Some true
open_joined a None outs h = cc
open_joined a (Some false) outs h = cc
open_joined a (Some true) outs h = refl

module _ (ts : List Template) (depth : ℕ) (k : Known) (g : Graph) (i : Container) (well : Well ts depth g) where
  abbrev ev : Ends
  ev = tree_ends ts depth k g i

  -- how an activity has ended, by its fate
  pub ends_by_fate : (a : ℕ) → ev a ≡ ended (tree_fate ts depth k g i a) (attempts ts k (output ts depth) g i ev a)
  ends_by_fate a = let has = order_of ts depth g well in step_keeps_ends ts depth k g i has.order has.flow a

  -- an activity that waits hasn't ended
  pub waits_unsettled : (a : ℕ) → tree_fate ts depth k g i a ≡ Waiting → is_settled (ev a) ≡ false
  waits_unsettled a waits = ap is_settled (ends_by_fate a ∙ ap (λ f. ended f (attempts ts k (output ts depth) g i ev a)) waits)

  -- nor has one that is ready
  pub ready_unsettled : (a c : ℕ) → tree_fate ts depth k g i a ≡ Ready c → is_settled (ev a) ≡ false
  ready_unsettled a c ready = ap is_settled (ends_by_fate a ∙ ap (λ f. ended f (attempts ts k (output ts depth) g i ev a)) ready)

  -- in a scope that hasn't begun, all activities wait
  pub unbegun_waits : k.begun [] ≡ false → (a : ℕ) → tree_fate ts depth k g i a ≡ Waiting
  unbegun_waits unbegun a = rw unbegun refl

  -- an activity that has started stands in a scope that has begun, its join is true, and what feeds it is settled
  pub record IsActive (a : ℕ) (activity : Activity) : Type 0 where
    pub begun : k.begun [] ≡ true
    pub join : joined activity.join (values_at k (out-Graph g).controls ev a) ≡ Some true
    pub fed : is_fed (out-Graph g).lines a ev ≡ true

  -- so it is of each activity with an attempt that has started
  pub starts_active : (a : ℕ) (activity : Activity) (c : ℕ) (i' : Container) → Starts ts depth k g i a activity c i' → IsActive a activity
  starts_active a activity c i' s = go (k.begun []) refl
    where
      both : (is_open (tree_fate ts depth k g i a) ≡ true) × (is_fed (out-Graph g).lines a ev ≡ true)
      both = and_true (is_open (tree_fate ts depth k g i a)) _ s.active

      no_end : false ≡ true → ⊥
      no_end h = cc

      go : (b : Bool) → k.begun [] ≡ b → IsActive a activity
      go false no_ = absurd (no_end (sym (ap is_open (unbegun_waits no_ a)) ∙ both.0))
      go true yes_ = record {
        begun = yes_;
        join = open_joined activity (joined activity.join (values_at k (out-Graph g).controls ev a)) (attempts_at ts k (output ts depth) g i ev a (Some activity)) (rw (yes_, s.is) at both.0);
        fed = both.1;
      }

  -- an activity with an attempt that has started and gave nothing hasn't ended
  pub started_unsettled : (a : ℕ) (activity : Activity) (c : ℕ) (i' : Container) → Starts ts depth k g i a activity c i'
      → gives ts k (output ts depth) activity.name activity.work c i' ≡ None → is_settled (ev a) ≡ false
  started_unsettled a activity c i' s none = go (is_settled (ev a)) refl
    where
      go : (b : Bool) → is_settled (ev a) ≡ b → is_settled (ev a) ≡ false
      go false is = is
      go true is =
          let active = starts_active a activity c i' s in
          let outs = attempts_at ts k (output ts depth) g i ev a (Some activity) in
          let base = base_of g activity a i ev in
          let settled = ap is_settled (sym (ends_by_fate a)) ∙ is in
          let by : is_settled (ended (fate_by activity (joined activity.join (values_at k (out-Graph g).controls ev a)) outs) outs) ≡ true = rw (active.begun, s.is) at settled in
          let done : is_settled (ended (fate_by activity (Some true) outs) outs) ≡ true = ap (λ v. is_settled (ended (fate_by activity v outs) outs)) (sym active.join) ∙ by in
          let over : closed activity.exit outs ≡ true = closed_of activity (length outs) outs (last_or None outs) done in
          absurd (reached_open k.most (gives ts k (output ts depth) activity.name activity.work) (trial g a activity base) 1 base c i' s.reach none (rw active.fed at over))

  -- where a scope inside hasn't told its end, the scope isn't complete
  pub scope_unfinished : (q : Part) (scope : HasScope ts depth k g i q) → k.closed (q ∷ []) ≡ false → Unfinished ts depth k g i
  scope_unfinished q scope unclosed =
      let none = unclosed_gives ts k (output ts depth) scope.activity.name scope.activity.work scope.graph scope.attempt scope.input scope.of
      (ap (λ u. k.closed (u ∷ [])) scope.named ∙ unclosed) in
      unsettled_unfinished ts depth k g i scope.place (place_inside g scope.place scope.activity scope.starts.is)
      (started_unsettled scope.place scope.activity scope.attempt scope.input scope.starts none)
