-- A scope that hasn't begun shows the view where nothing counts of it.
use Rattle.std.proofs.Common.{◌≡◌, ℕ, zero, suc, ◌+◌, ◌^◌, ◌<◌, ◌≤◌, Bool, true, false, List, [], ◌∷◌, map, length, get_or, replicate, None, cond, refl, ap, sym, ◌∙◌, subst, arith}
use Rattle.std.specs.Prelude.{◌==◌, not, count_by}
use Rattle.std.specs.List.{filter}
use Rattle.std.proofs.lemmas.List.Folds.{sum_by-replicate}
use Rattle.std.proofs.lemmas.List.Sums.{length-filter, count_by-le-length}
use Rattle.std.proofs.lemmas.Option.{slice_get_within, unwrap_or-slice_get}
use Rattle.blocks_subprocs.specs.Ends.{ends_of}
use Rattle.dead_paths.specs.Tallies.{Counts}
use Rattle.flow_model.specs.Fates.{Ends, connector_value, is_settled}
use Rattle.flow_model.specs.Scopes.{Known, Runs, Start, fate_given, started_at, step, rounds, scope_ends, output}
use Rattle.flow_model.specs.Wiring.{places, row_at, IsIncoming}
use Rattle.flow_model.specs.declared.graphs.Activity.{Activity}
use Rattle.flow_model.specs.declared.graphs.Container.{Container}
use Rattle.flow_model.specs.declared.graphs.Control.{Control}
use Rattle.flow_model.specs.declared.graphs.Graph.{Graph, out-Graph}
use Rattle.flow_model.specs.declared.graphs.Template.{Template}
use Rattle.flow_model.specs.declared.graphs.Work.{Work, Program as RunsProgram, Block, Process}
use Rattle.flow_model.specs.declared.instances.Fate.{Fate}
use Rattle.flow_model.specs.declared.instances.Fate.TheVariants.{Waiting}
use Rattle.flow_model.specs.declared.instances.SourceEnd.TheVariants.{Unsettled}
use Rattle.navigator.specs.Fresh.{incoming_count, IsFresh, IsFreshNested, IsFreshWork}
use Rattle.navigator.specs.Views.{ShowsStart, ShowsNested, ShowsWork, Shows}
use Rattle.navigator.specs.declared.scopes.ActivityState.{ActivityState, Program, Nested}
use Rattle.navigator.specs.declared.scopes.NestedState.{NestedState}
use Rattle.navigator.specs.declared.scopes.ScopeState.{ScopeState}
use Rattle.view_laws.specs.Coming.{IsUntouched}

chosen : {X : Type 0} (b : Bool) (n : ℕ) (ps : List ℕ) (x : X) (xs : List X) → length ps ≡ length xs → length (cond b (n ∷ ps) ps) ≡ length (cond b (x ∷ xs) xs)
chosen true n ps x xs same = ap suc same
chosen false n ps x xs same = same

-- as many places as elements that pass the test
places_counted : {X : Type 0} (test : X → Bool) (n : ℕ) (xs : List X) → length (places test n xs) ≡ length (filter test xs)
places_counted test n [] = refl
places_counted test n (x ∷ xs) = chosen (test x) n (places test (n + 1) xs) x (filter test xs) (places_counted test (n + 1) xs)

same_everywhere : {X : Type 0} (n i : ℕ) (x : X) → get_or (replicate n x) i x ≡ x
same_everywhere zero i x = refl
same_everywhere (suc n) zero x = refl
same_everywhere (suc n) (suc i) x = same_everywhere n i x

none_settled : (n a : ℕ) → ends_of (replicate n Unsettled) a ≡ Unsettled
none_settled n a = unwrap_or-slice_get (replicate n Unsettled) a Unsettled ∙ same_everywhere n a Unsettled

-- the tally of an activity counts as many values as connectors lead there
counted : (g : Graph) (a : ℕ) → IsIncoming g → length (out-Graph g).controls < 2 ^ 32 → incoming_count g a ≡ length (filter (λ c. c.to == a) (out-Graph g).controls)
counted g a incoming fits =
    let row : length (row_at (out-Graph g).wiring.incoming a) ≡ length (filter (λ (c : Control). c.to == a) (out-Graph g).controls)
    = ap length (incoming a) ∙ places_counted (λ c. c.to == a) 0 (out-Graph g).controls in
    let less : length (filter (λ (c : Control). c.to == a) (out-Graph g).controls) ≤ length (out-Graph g).controls
    = rw (length-filter (λ c. c.to == a) (out-Graph g).controls) (count_by-le-length (λ c. c.to == a) (out-Graph g).controls) in
    omega arith

fresh_nested : (fate : Fate) (starts : List Start) (shows : ShowsStart) (n : NestedState) → fate ≡ Waiting → starts ≡ [] → IsFreshNested n → ShowsNested fate starts shows n
fresh_nested fate starts shows n waits none fresh = record {
  stands = rw (fresh.stage, waits) refl;
  count = rw (fresh.scopes, none) refl;
  scopes = λ i start s at there. let past : i < length starts = slice_get_within starts i start at in let nothing : length starts ≡ 0 = rw none refl in absurd (omega arith);
}

-- what waits shows an activity that waits
fresh_work : (w : Work) (fate : Fate) (outs : List Container) (starts : List Start) (shows : ShowsStart) (state : ActivityState) → fate ≡ Waiting → starts ≡ []
    → IsFreshWork w state → ShowsWork w fate outs starts shows state
fresh_work (RunsProgram w) fate outs starts shows (Program p) waits none is = record {
  stands = rw (is, waits) refl;
  outputs = λ opened. let never : false ≡ true = rw waits at opened in cc;
}
fresh_work (RunsProgram w) fate outs starts shows (Nested n) waits none is = is
fresh_work (Block g) fate outs starts shows (Program p) waits none is = is
fresh_work (Block g) fate outs starts shows (Nested n) waits none is = fresh_nested fate starts shows n waits none is
fresh_work (Process t) fate outs starts shows (Program p) waits none is = is
fresh_work (Process t) fate outs starts shows (Nested n) waits none is = fresh_nested fate starts shows n waits none is

module _ (ts : List Template) (k : Known) (runs : Runs) (g : Graph) (input : Container) (untouched : IsUntouched k) where
  still : (n a : ℕ) → rounds (step ts k runs g input) n a ≡ Unsettled
  still zero a = refl
  still (suc n) a = rw untouched.unbegun refl

  waits : (e : Ends) (a : ℕ) → fate_given ts k runs g input e a ≡ Waiting
  waits e a = rw untouched.unbegun refl

  unstarted : (e : Ends) (a : ℕ) (activity : Activity) → started_at ts k runs g input e a activity ≡ []
  unstarted e a activity = rw untouched.unbegun refl

  unknown : (controls cs : List Control) (e : Ends) → ((b : ℕ) → e b ≡ Unsettled)
      → map (λ c. k.sent [] c.from c.to (connector_value controls c (e c.from))) cs ≡ replicate (length cs) None
  unknown controls [] e un = refl
  unknown controls (c ∷ cs) e un =
      let one : k.sent [] c.from c.to (connector_value controls c (e c.from)) ≡ None = rw (un c.from) (untouched.unsent c.from c.to) in
      let rest = unknown controls cs e un in
      cc

pub fresh_shows : (ts : List Template) (depth : ℕ) (k : Known) (g : Graph) (input : Container) (s : ScopeState) → IsFresh g input s → IsUntouched k → IsIncoming g
    → length (out-Graph g).controls < 2 ^ 32 → Shows ts depth k g input s
fresh_shows ts depth k g input s fresh untouched incoming fits =
    let runs : Runs = output ts depth in
    let e : Ends = scope_ends ts k runs g input in
    let n = length (out-Graph g).activities in
    record {
      begun = fresh.begun ∙ sym untouched.unbegun;
      reads = fresh.reads;
      tallied = fresh.tallied;
      tallies = λ a t at.
          let unknown_values = unknown ts k runs g input untouched (out-Graph g).controls (filter (λ c. c.to == a) (out-Graph g).controls) e (still ts k runs g input untouched n) in
          subst (λ vs. Counts t vs) (ap (λ m. replicate m None) (counted g a incoming fits) ∙ sym unknown_values) (fresh.tallies a t at);
      ended = rw fresh.ends (lengths n);
      ends = λ a. rw fresh.ends (none_settled n a ∙ sym (still ts k runs g input untouched n a));
      stated = fresh.stated;
      states = λ a activity state at there.
          fresh_work activity.work _ _ _ _ state (waits ts k runs g input untouched e a) (unstarted ts k runs g input untouched e a activity) (fresh.states a activity state at there);
      unsettled = fresh.unsettled ∙ sym (rw fresh.ends (all_count n));
    }
  where
    lengths : (n : ℕ) → length (replicate n Unsettled) ≡ n
    lengths zero = refl
    lengths (suc n) = ap suc (lengths n)

    all_count : (n : ℕ) → count_by (λ x. not (is_settled x)) (replicate n Unsettled) ≡ n
    all_count n = let e = sum_by-replicate (λ x. cond (not (is_settled x)) 1 0) n Unsettled in omega (arith, e)
