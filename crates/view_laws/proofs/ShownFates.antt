-- The fates that the view shows, where what was sent is so.
use Rattle.fate_laws.proofs.Attempts.{Along, closed, Keeps, along_all}
use Rattle.fate_laws.proofs.Extends.{Extends, joined_kept, and_true, both_true}
use Rattle.fate_laws.proofs.Forward.{forward}
use Rattle.fate_laws.proofs.Rounds.{solved}
use Rattle.fate_laws.proofs.Stays.{unsettled_past, output_kept}
use Rattle.fate_laws.proofs.Steps.{LinesKept, closed_of, attempts_kept, fed_kept, base_kept}
use Rattle.fate_laws.proofs.Wired.{fed_where_known, known_values}
use Rattle.fate_laws.specs.StartedScopes.{Reaches}
use Rattle.fate_laws.specs.WellFormed.{IsWell, Well}
use Rattle.flow_model.specs.Conditions.{holds}
use Rattle.flow_model.specs.Fates.{goes_on, tried, Ends, joined, fate_by, ended, is_settled, is_waiting, is_open}
use Rattle.flow_model.specs.ScopeContainers.{base_of}
use Rattle.flow_model.specs.Scopes.{Known, at, all_of, Gives, Runs, Trial, gives, is_fed, trial, attempts_at, values_at, fate_given, step, scope_ends, output, tree_ends}
use Rattle.flow_model.specs.declared.graphs.Activity.{Activity}
use Rattle.flow_model.specs.declared.graphs.Container.{Container}
use Rattle.flow_model.specs.declared.graphs.Graph.{Graph, out-Graph}
use Rattle.flow_model.specs.declared.graphs.Program.{Program}
use Rattle.flow_model.specs.declared.graphs.Template.{Template}
use Rattle.flow_model.specs.declared.graphs.Work.{Work, Program as RunsProgram, Block, Process}
use Rattle.flow_model.specs.declared.instances.Part.{Part}
use Rattle.std.proofs.Common.{◌≡◌, ℕ, zero, suc, ◌+◌, ◌≤◌, ◌<◌, Bool, true, false, ◌&&◌, List, [], length, refl, sym, ap, ◌∙◌, Option, Some, None, arith, inl, inr}
use Rattle.std.proofs.lemmas.Bool.{cases_lt}
use Rattle.std.specs.List.{list_any, last_or}
use Rattle.std.specs.Prelude.{is_none, slice_get}
use Rattle.view_laws.proofs.Honest.{IfClosed, IsHonest, Honest}
use Rattle.view_laws.proofs.QuietScopes.{Agree, tries_same}
use Rattle.view_laws.proofs.SoundScopes.{values_right, scope_sound, along_map, gives_right, with_well, tree_sound}
use Rattle.view_laws.specs.ScopeFacts.{IsRight, IsReached}

fate_by_kept : (a : Activity) (v v' : Option Bool) (outs outs' : List Container) → (is_none v ≡ false → v' ≡ v) → (closed a.exit outs ≡ true → outs' ≡ outs)
    → is_settled (ended (fate_by a v outs) outs) ≡ true → fate_by a v' outs' ≡ fate_by a v outs
fate_by_kept a None v' outs outs' same stay h = cc
fate_by_kept a (Some false) v' outs outs' same stay h = rw (same refl) refl
fate_by_kept a (Some true) v' outs outs' same stay h = rw (same refl, stay (closed_of a (length outs) outs (last_or None outs) h)) refl

known_of : (a : Activity) (v : Option Bool) (outs : List Container) → is_waiting (fate_by a v outs) ≡ false → is_none v ≡ false
known_of a None outs h = cc
known_of a (Some b) outs h = refl

open_joined : (a : Activity) (v : Option Bool) (outs : List Container) → is_open (fate_by a v outs) ≡ true → v ≡ Some true
open_joined a None outs h = cc
open_joined a (Some false) outs h = cc
open_joined a (Some true) outs h = refl

goes_open : (w : Work) (n : ℕ) → is_open (goes_on w n) ≡ true
goes_open (RunsProgram p) n = refl
goes_open (Block g) n = refl
goes_open (Process t) n = refl

tried_open : (a : Activity) (n : ℕ) (o : Option Container) → is_open (tried a n o) ≡ true
tried_open a n None = goes_open a.work 1
tried_open a n (Some out) = go (holds a.exit out) refl
  where
    go : (b : Bool) → holds a.exit out ≡ b → is_open (tried a n (Some out)) ≡ true
    go true is = rw is refl
    go false is = rw is (goes_open a.work (n + 1))

joined_open : (a : Activity) (v : Option Bool) (outs : List Container) → v ≡ Some true → is_open (fate_by a v outs) ≡ true
joined_open a v outs h = rw h (tried_open a (length outs) (last_or None outs))

some_known : (v : Option Bool) → v ≡ Some true → is_none v ≡ false
some_known v h = rw h refl

-- the newest attempt has given nothing yet, so what is given is asked of those before it
reaches_kept : (given given' : Gives) (t : Trial) (n j : ℕ) (i : Container) (c : ℕ) (i' : Container) → Along (Keeps given given') given t n j i
    → Reaches (suc n) given t j i c i' → Reaches (suc n) given' t j i c i'
reaches_kept given given' t zero j i c i' along (inl r) = inl r
reaches_kept given given' t zero j i c i' along (inr r) = absurd r.3
reaches_kept given given' t (suc n) j i c i' along (inl r) = inl r
reaches_kept given given' t (suc n) j i c i' along (inr r) =
    inr (r.0, along.0 r.0 r.1, r.2, reaches_kept given given' t n (j + 1) (t.loops r.0) c i' (along.1 r.0 r.1 r.2) r.3)

module _ (ts : List Template) (k : Known) (runs runs' : Runs) (g : Graph) (input : Container) (inner : Graph → Type 0) (well : IsWell ts g inner)
    (below : Known → Graph → Container → Type 0) (honest : IsHonest ts k runs g input below)
    (right : (q : Part) (h : Graph) (i out : Container) → below (at q k) h i → runs (at q k) h i ≡ Some out → runs' (all_of (at q k)) h i ≡ Some out) where
  abbrev ev : Ends
  ev = scope_ends ts k runs g input

  abbrev ef : Ends
  ef = scope_ends ts (all_of k) runs' g input

  all_kept : Extends ev ef
  all_kept = scope_sound ts k runs runs' g input well.order well.flow below honest right

  lines : (a : ℕ) → LinesKept (out-Graph g).lines a ev ef
  lines a = λ i d less to b from s. all_kept.kept b s

  values : (a : ℕ) → list_any is_none (values_at k (out-Graph g).controls ev a) ≡ false → values_at (all_of k) (out-Graph g).controls ef a ≡ values_at k (out-Graph g).controls ev a
  values a known = values_right k (out-Graph g).controls ev ef a (out-Graph g).controls honest.told (λ i d less to s. all_kept.kept _ s) known

  inside_of : (b : ℕ) → is_settled (ev b) ≡ true → b < length (out-Graph g).activities
  inside_of b s = elim (cases_lt b (length (out-Graph g).activities)) [
    | inl inside ↦ inside
    | inr past ↦ absurd (no_end (sym (ap is_settled (unsettled_past ts k runs g input (length (out-Graph g).activities) b past)) ∙ s))
  ]
    where
      no_end : false ≡ true → ⊥
      no_end h = cc

  settled_step : (a : ℕ) → is_settled (ev a) ≡ true → is_settled (step ts k runs g input ev a) ≡ true
  settled_step a h =
      let place = well.flow.ordered.covers a (inside_of a h) in
      let long : length well.order ≤ length (out-Graph g).activities = omega (arith, well.flow.ordered.long) in
      let now = rw place.2 at (solved (step ts k runs g input) well.order (forward ts k runs g input well.order well.flow) (length (out-Graph g).activities) long place.0 place.1) in
      ap is_settled (sym now) ∙ h

  pub settled_fate : (a : ℕ) → is_settled (ev a) ≡ true → fate_given ts (all_of k) runs' g input ef a ≡ fate_given ts k runs g input ev a
  settled_fate a h = go (k.begun []) refl (slice_get (out-Graph g).activities a) refl
    where
      settled : is_settled (step ts k runs g input ev a) ≡ true
      settled = settled_step a h

      no_end : false ≡ true → ⊥
      no_end h = cc

      go : (b : Bool) → k.begun [] ≡ b → (o : Option Activity) → slice_get (out-Graph g).activities a ≡ o → fate_given ts (all_of k) runs' g input ef a ≡ fate_given ts k runs g input ev a
      go false no_ o is = absurd (no_end (rw no_ at settled))
      go true yes_ None is = absurd (no_end (rw (yes_, is) at settled))
      go true yes_ (Some activity) is =
          rw (yes_, is)
          (fate_by_kept activity (joined activity.join (values_at k (out-Graph g).controls ev a)) (joined activity.join (values_at (all_of k) (out-Graph g).controls ef a))
          (attempts_at ts k runs g input ev a (Some activity)) (attempts_at ts (all_of k) runs' g input ef a (Some activity))
          (joined_kept activity.join _ _ (values a))
          (attempts_kept ts k (all_of k) runs runs' g input ev ef a activity (omega arith) (lines a)
          (λ fed. along_map (IfClosed below ts k activity.name activity.work) _ _ (trial g a activity (base_of g activity a input ev))
          (gives_right ts k runs runs' g input well.order well.flow below honest right activity.name activity.work)
          k.most 1 (base_of g activity a input ev) (honest.inside a activity is fed)))
          (rw (yes_, is) at settled))

  same_gives : (activity : Activity) (p : Program) → activity.work ≡ RunsProgram p → (j : ℕ) (i : Container)
      → Agree (gives ts k runs activity.name activity.work) (gives ts (all_of k) runs' activity.name activity.work) j i
  same_gives activity p is j i = rw is refl

  pub program_fate : (a : ℕ) (activity : Activity) (p : Program) → slice_get (out-Graph g).activities a ≡ Some activity → activity.work ≡ RunsProgram p
      → is_waiting (fate_given ts k runs g input ev a) ≡ false → fate_given ts (all_of k) runs' g input ef a ≡ fate_given ts k runs g input ev a
  program_fate a activity p is runs_program shown = go (k.begun []) refl
    where
      no_end : true ≡ false → ⊥
      no_end h = cc

      go : (b : Bool) → k.begun [] ≡ b → fate_given ts (all_of k) runs' g input ef a ≡ fate_given ts k runs g input ev a
      go false no_ = absurd (no_end (rw no_ at shown))
      go true yes_ =
          let base = base_of g activity a input ev in
          let known_join = known_of activity (joined activity.join (values_at k (out-Graph g).controls ev a)) (attempts_at ts k runs g input ev a (Some activity)) (rw (yes_, is) at shown) in
          let known = known_values activity (values_at k (out-Graph g).controls ev a) known_join in
          let fed = fed_where_known ts k runs g input well.order well.flow honest.told well.wired inside_of a known in
          let outs : attempts_at ts (all_of k) runs' g input ef a (Some activity) ≡ attempts_at ts k runs g input ev a (Some activity) =
          rw (fed, fed_kept (out-Graph g).lines a ev ef (lines a) fed, base_kept g activity a input ev ef (lines a) fed)
          (tries_same (gives ts k runs activity.name activity.work) (gives ts (all_of k) runs' activity.name activity.work) (trial g a activity base) k.most 1 base
          (along_all (Agree (gives ts k runs activity.name activity.work) (gives ts (all_of k) runs' activity.name activity.work)) (gives ts k runs activity.name activity.work) (trial g a activity base)
          (same_gives activity p runs_program) k.most 1 base))
          in
          rw (yes_, is)
          (ap (λ vs. fate_by activity (joined activity.join vs) (attempts_at ts (all_of k) runs' g input ef a (Some activity))) (values a known)
          ∙ ap (λ l. fate_by activity (joined activity.join (values_at k (out-Graph g).controls ev a)) l) outs)

  pub started_open : (a : ℕ) (activity : Activity) → slice_get (out-Graph g).activities a ≡ Some activity
      → is_open (fate_given ts k runs g input ev a) ≡ true → is_open (fate_given ts (all_of k) runs' g input ef a) ≡ true
  started_open a activity is shown = go (k.begun []) refl
    where
      no_end : false ≡ true → ⊥
      no_end h = cc

      go : (b : Bool) → k.begun [] ≡ b → is_open (fate_given ts (all_of k) runs' g input ef a) ≡ true
      go false no_ = absurd (no_end (rw no_ at shown))
      go true yes_ =
          let join = open_joined activity (joined activity.join (values_at k (out-Graph g).controls ev a)) (attempts_at ts k runs g input ev a (Some activity)) (rw (yes_, is) at shown) in
          let kept = joined_kept activity.join _ _ (values a) (some_known _ join) in
          rw is (joined_open activity _ (attempts_at ts (all_of k) runs' g input ef a (Some activity)) (kept ∙ join))

  pub started_kept : (a : ℕ) (activity : Activity) (c : ℕ) (i' : Container) → slice_get (out-Graph g).activities a ≡ Some activity
      → (is_open (fate_given ts k runs g input ev a) && is_fed (out-Graph g).lines a ev) ≡ true
      → Reaches (suc k.most) (gives ts k runs activity.name activity.work) (trial g a activity (base_of g activity a input ev)) 1 (base_of g activity a input ev) c i'
      → ((is_open (fate_given ts (all_of k) runs' g input ef a) && is_fed (out-Graph g).lines a ef) ≡ true)
      × Reaches (suc k.most) (gives ts (all_of k) runs' activity.name activity.work) (trial g a activity (base_of g activity a input ef)) 1 (base_of g activity a input ef) c i'
  started_kept a activity c i' is active reach =
      let both = and_true (is_open (fate_given ts k runs g input ev a)) _ active in
      let base = base_of g activity a input ev in (
        both_true _ _ (started_open a activity is both.0) (fed_kept (out-Graph g).lines a ev ef (lines a) both.1),
        rw (base_kept g activity a input ev ef (lines a) both.1)
            (reaches_kept (gives ts k runs activity.name activity.work) (gives ts (all_of k) runs' activity.name activity.work) (trial g a activity base) k.most 1 base c i'
            (along_map (IfClosed below ts k activity.name activity.work) _ _ (trial g a activity base)
            (gives_right ts k runs runs' g input well.order well.flow below honest right activity.name activity.work)
            k.most 1 base (honest.inside a activity is both.1))
            reach),
      )

pub tree_right : (ts : List Template) (depth : ℕ) (k : Known) (g : Graph) (i : Container) → Well ts depth g → Honest ts depth k g i → IsRight ts depth k g i
tree_right ts zero k g i well honest = record {
  settled = settled_fate ts k (output ts zero) (output ts zero) g i (λ h. Unit {0}) well (λ k' h j. Unit {0}) honest (λ q h j out ok gave. cc);
  program = program_fate ts k (output ts zero) (output ts zero) g i (λ h. Unit {0}) well (λ k' h j. Unit {0}) honest (λ q h j out ok gave. cc);
}
tree_right ts (suc depth) k g i well honest =
    let honest' = with_well ts k (output ts (suc depth)) g i (Well ts depth) (Honest ts depth) well honest in
    let below : (q : Part) (h : Graph) (j out : Container) → Well ts depth h × Honest ts depth (at q k) h j → output ts (suc depth) (at q k) h j ≡ Some out → output ts (suc depth) (all_of (at q k)) h j ≡ Some out =
    λ q h j out ok gave.
    output_kept h j (tree_ends ts depth (at q k) h j) (tree_ends ts depth (all_of (at q k)) h j) (tree_sound ts depth (at q k) h j ok.0 ok.1)
    (λ b past. unsettled_past ts (all_of (at q k)) (output ts depth) h j _ b past ∙ sym (unsettled_past ts (at q k) (output ts depth) h j _ b past))
    out gave in
    record {
      settled = settled_fate ts k (output ts (suc depth)) (output ts (suc depth)) g i (Well ts depth) well (λ k' h j. Well ts depth h × Honest ts depth k' h j) honest' below;
      program = program_fate ts k (output ts (suc depth)) (output ts (suc depth)) g i (Well ts depth) well (λ k' h j. Well ts depth h × Honest ts depth k' h j) honest' below;
    }

pub tree_reached : (ts : List Template) (depth : ℕ) (k : Known) (g : Graph) (i : Container) → Well ts depth g → Honest ts depth k g i → IsReached ts depth k g i
tree_reached ts zero k g i well honest = λ a activity c h i' s.
    let r = started_kept ts k (output ts zero) (output ts zero) g i (λ h. Unit {0}) well (λ k' h j. Unit {0}) honest (λ q h j out ok gave. cc) a activity c i' s.is s.active s.reach in
    record { is = s.is; of = s.of; active = r.0; reach = r.1 }
tree_reached ts (suc depth) k g i well honest = λ a activity c h i' s.
    let honest' = with_well ts k (output ts (suc depth)) g i (Well ts depth) (Honest ts depth) well honest in
    let below : (q : Part) (h : Graph) (j out : Container) → Well ts depth h × Honest ts depth (at q k) h j → output ts (suc depth) (at q k) h j ≡ Some out → output ts (suc depth) (all_of (at q k)) h j ≡ Some out =
    λ q h j out ok gave.
    output_kept h j (tree_ends ts depth (at q k) h j) (tree_ends ts depth (all_of (at q k)) h j) (tree_sound ts depth (at q k) h j ok.0 ok.1)
    (λ b past. unsettled_past ts (all_of (at q k)) (output ts depth) h j _ b past ∙ sym (unsettled_past ts (at q k) (output ts depth) h j _ b past))
    out gave in
    let r = started_kept ts k (output ts (suc depth)) (output ts (suc depth)) g i (Well ts depth) well (λ k' h j. Well ts depth h × Honest ts depth k' h j) honest' below a activity c i' s.is s.active s.reach in
    record { is = s.is; of = s.of; active = r.0; reach = r.1 }
