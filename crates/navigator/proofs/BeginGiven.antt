-- What a BEGIN gives: the BEGINs of the blocks and process activities to which no connector leads.
use Rattle.std.proofs.Common.{◌≡◌, ℕ, zero, suc, ◌+◌, ◌≤◌, ◌<◌, ◌==◌, Bool, true, false, if◌then◌else◌, List, [], ◌∷◌, ◌++◌, map, length, Option, Some, None, refl, ap, sym, ◌∙◌, subst, arith, inl, inr, append-nil}
use Rattle.std.specs.Prelude.{slice_get}
use Rattle.std.specs.List.{flat_map, filter}
use Rattle.std.proofs.Math.Path.{fun_ext}
use Rattle.std.proofs.lemmas.Bool.{cases_lt}
use Rattle.std.proofs.lemmas.Bool.Decides.{eqb_tells}
use Rattle.std.proofs.lemmas.Option.{slice_get_within}
use Rattle.activity_states.specs.States.{made_ready}
use Rattle.blocks_subprocs.specs.Ends.{ends_of}
use Rattle.fate_laws.specs.WellFormed.{Well}
use Rattle.flow_model.specs.Fates.{Ends, connector_value, joined, is_settled}
use Rattle.flow_model.specs.ScopeContainers.{base_of, graph_in, up_to}
use Rattle.flow_model.specs.Scopes.{Known, at, part, values_at, output, tree_ends}
use Rattle.flow_model.specs.declared.graphs.Activity.{Activity}
use Rattle.flow_model.specs.declared.graphs.Container.{Container}
use Rattle.flow_model.specs.declared.graphs.Control.{Control}
use Rattle.flow_model.specs.declared.graphs.Graph.{Graph, out-Graph}
use Rattle.flow_model.specs.declared.graphs.Join.{Join}
use Rattle.flow_model.specs.declared.graphs.Join.TheVariants.{All, AtLeastOne, AtLeast}
use Rattle.flow_model.specs.declared.graphs.Template.{Template}
use Rattle.flow_model.specs.declared.instances.Message.{Message}
use Rattle.flow_model.specs.declared.instances.Message.TheVariants.{Begin}
use Rattle.flow_model.specs.declared.instances.Part.{Part}
use Rattle.flow_model.specs.declared.instances.Path.{Path}
use Rattle.flow_model.specs.declared.instances.SourceEnd.TheVariants.{Unsettled}
use Rattle.navigator.proofs.DueParts.{own_notes, end_note, is_over, still, scopes_in}
use Rattle.navigator.proofs.FreshHere.{IsGivenAt, begin_notes, Grown, not_over, given_here}
use Rattle.navigator.proofs.Leading.{set_other}
use Rattle.navigator.proofs.Merges.{Merges, merges_same}
use Rattle.navigator.proofs.OneGiven.{grown_scopes, told_begin}
use Rattle.navigator.proofs.Places.{present, set_read}
use Rattle.navigator.proofs.ShownAgain.{IsSameInside}
use Rattle.navigator.proofs.ToldNotes.{AreTold, none_told, told_append}
use Rattle.navigator.specs.Events.{nothing, Receives, Begins as BeginsScope}
use Rattle.navigator.specs.Serving.{Served}
use Rattle.navigator.specs.Steps.{Told, Fields, fields, is_root, with_state, Begins, Opens, Decides, DecidesFirst}
use Rattle.navigator.specs.Views.{Shows}
use Rattle.navigator.specs.declared.scopes.ActivityState.{ActivityState, Program, Nested}
use Rattle.navigator.specs.declared.scopes.NestedState.{out-NestedState}
use Rattle.navigator.specs.declared.scopes.ScopeState.{ScopeState}
use Rattle.view_laws.specs.Coming.{MayBegin}
use Rattle.view_laws.specs.Learning.{with_begin}
use Rattle.view_laws.specs.Messages.{Note}

-- ---- joins of values that aren't known

true_join : (rule : Join) → joined rule [] ≡ Some true
true_join All = refl
true_join AtLeastOne = refl
true_join (AtLeast n) = refl

-- no join is false where no value is known
never_false : {X : Type 0} (rule : Join) (f : X → Option Bool) (xs : List X) → ((x : X) → f x ≡ None) → joined rule (map f xs) ≡ Some false → ⊥
never_false rule f [] none is = let n : Some true ≡ Some false = sym (true_join rule) ∙ is in cc
never_false rule f (x ∷ xs) none is =
    let n : None ≡ Some false = sym (unknown (f x) (none x)) ∙ is in
    cc
  where
    unknown : (o : Option Bool) → o ≡ None → joined rule (o ∷ map f xs) ≡ None
    unknown o is = rw is refl

-- ---- places

up_more : (n j : ℕ) → up_to (suc n) j ≡ up_to n j ++ (n + j) ∷ []
up_more zero j = let e : j ≡ 0 + j = omega arith in ap (λ m. m ∷ []) e
up_more (suc n) j = let e : n + (j + 1) ≡ suc n + j = omega arith in ap (λ l. j ∷ l) (up_more n (j + 1) ∙ ap (λ m. up_to n (j + 1) ++ m ∷ []) e)

flat_end : {X : Type 0} (F : ℕ → List X) (ns : List ℕ) (m : ℕ) → flat_map F (ns ++ m ∷ []) ≡ flat_map F ns ++ F m
flat_end F [] m = append-nil (F m)
flat_end F (n ∷ ns) m = ap (λ l. F n ++ l) (flat_end F ns m) ∙ three (F n) (flat_map F ns) (F m)
  where
    three : {Y : Type 0} (xs ys zs : List Y) → xs ++ (ys ++ zs) ≡ (xs ++ ys) ++ zs
    three [] ys zs = refl
    three (x ∷ xs) ys zs = ap (λ l. x ∷ l) (three xs ys zs)

flat_within : {X : Type 0} (F F' : ℕ → List X) (n j : ℕ) → ((a : ℕ) → j ≤ a → a < n + j → F' a ≡ F a) → flat_map F' (up_to n j) ≡ flat_map F (up_to n j)
flat_within F F' zero j same = refl
flat_within F F' (suc n) j same =
    ap (λ l. l ++ flat_map F' (up_to n (j + 1))) (same j (omega arith) (omega arith))
    ∙ ap (λ l. F j ++ l) (flat_within F F' n (j + 1) (λ a low high. same a (omega arith) (omega arith)))

-- ---- the scope, activity by activity

same_begun : (k : Known) (r : Part) → IsSameInside (at r k) (at r (with_begin k))
same_begun k r = record { most = refl; begun = refl; sent = refl; below = λ p. refl }

peopled_of : (ts : List Template) (depth : ℕ) (g : Graph) → Well ts depth g → 0 < length (out-Graph g).activities
peopled_of ts zero g well = well.peopled
peopled_of ts (suc depth) g well = well.peopled

-- the first m activities were decided
record IsFirst (ts : List Template) (g : Graph) (path : Path) (s : ScopeState) (m : ℕ) (f : Fields) (told : Told) : Type 0 where
  pub opens : ℕ → Option (List Part)
  pub ends : f.ends ≡ (fields s).ends
  pub unsettled : f.unsettled ≡ (fields s).unsettled
  pub grown : (x : ℕ) (y : Activity) (was now : ActivityState) → x < m → slice_get (out-Graph g).activities x ≡ Some y → slice_get (fields s).states x ≡ Some was
      → slice_get f.states x ≡ Some now → Grown ts y was now (opens x)
  pub others : (x : ℕ) → m ≤ x → slice_get f.states x ≡ slice_get (fields s).states x
  pub silent : told.signals ≡ []
  pub begins : AreTold g path told.begins (flat_map (λ x. begin_notes (opens x)) (up_to m 0))
  pub endless : told.ends ≡ []

module _ (ts : List Template) (g : Graph) (path : Path) (s : ScopeState) where
  -- one more was decided
  first_more : (m : ℕ) (middle f : Fields) (so_far told : Told) (o : Option (List Part)) (ms : List Message) → IsFirst ts g path s m middle so_far
      → f.ends ≡ middle.ends → f.unsettled ≡ middle.unsettled
      → ((y : Activity) (was now : ActivityState) → slice_get (out-Graph g).activities m ≡ Some y → slice_get (fields s).states m ≡ Some was → slice_get f.states m ≡ Some now → Grown ts y was now o)
      → ((x : ℕ) → (x ≡ m → ⊥) → slice_get f.states x ≡ slice_get middle.states x)
      → told.signals ≡ so_far.signals → told.begins ≡ so_far.begins ++ ms → AreTold g path ms (begin_notes o) → told.ends ≡ so_far.ends
      → IsFirst ts g path s (suc m) f told
  first_more m middle f so_far told o ms first ends unsettled here elsewhere silent begins said endless = record {
    opens = opens;
    ends = ends ∙ first.ends;
    unsettled = unsettled ∙ first.unsettled;
    grown = grown;
    others = λ x past. elsewhere x (λ same. let e : x ≡ m = same in omega arith) ∙ first.others x (omega arith);
    silent = silent ∙ first.silent;
    begins = subst (λ l. AreTold g path l (flat_map (λ x. begin_notes (opens x)) (up_to (suc m) 0))) (sym begins)
        (subst (AreTold g path (so_far.begins ++ ms)) (sym notes)
        (told_append g path so_far.begins (flat_map (λ x. begin_notes (first.opens x)) (up_to m 0)) ms (begin_notes o) first.begins said));
    endless = endless ∙ first.endless;
  }
    where
      opens : ℕ → Option (List Part)
      opens x = if x == m then o else first.opens x

      at_m : opens m ≡ o
      at_m = elim (eqb_tells m m) [ inl is ↦ rw is.0 refl | inr other ↦ absurd (other.1 refl) ]

      not_m : (x : ℕ) → (x ≡ m → ⊥) → opens x ≡ first.opens x
      not_m x apart = elim (eqb_tells x m) [ inl is ↦ absurd (apart is.1) | inr other ↦ rw other.0 refl ]

      notes : flat_map (λ x. begin_notes (opens x)) (up_to (suc m) 0) ≡ flat_map (λ x. begin_notes (first.opens x)) (up_to m 0) ++ begin_notes o
      notes =
          let last : m + 0 ≡ m = omega arith in
          ap (flat_map (λ x. begin_notes (opens x))) (up_more m 0 ∙ ap (λ c. up_to m 0 ++ c ∷ []) last)
          ∙ flat_end (λ x. begin_notes (opens x)) (up_to m 0) m
          ∙ ap (λ l. l ++ begin_notes (opens m))
          (flat_within (λ x. begin_notes (first.opens x)) (λ x. begin_notes (opens x)) m 0 (λ x low high. ap begin_notes (not_m x (λ same. let e : x ≡ m = same in omega arith))))
          ∙ ap (λ c. flat_map (λ x. begin_notes (first.opens x)) (up_to m 0) ++ begin_notes c) at_m

      grown : (x : ℕ) (y : Activity) (was now : ActivityState) → x < suc m → slice_get (out-Graph g).activities x ≡ Some y → slice_get (fields s).states x ≡ Some was
          → slice_get f.states x ≡ Some now → Grown ts y was now (opens x)
      grown x y was now less is before after = elim (eqb_tells x m) [
        | inl same ↦
            subst (Grown ts y was now) (sym (ap opens same.1 ∙ at_m))
            (here y was now (ap (slice_get (out-Graph g).activities) (sym same.1) ∙ is) (ap (slice_get (fields s).states) (sym same.1) ∙ before) (ap (slice_get f.states) (sym same.1) ∙ after))
        | inr apart ↦
            let a = apart.1 in
            subst (Grown ts y was now) (sym (not_m x apart.1)) (first.grown x y was now (smaller a) is before (sym (elsewhere x apart.1) ∙ after))
      ]
        where
          smaller : (x ≡ m → ⊥) → x < m
          smaller apart = elim (cases_lt x m) [ inl l ↦ l | inr past ↦ (let e : x ≡ m = omega arith in absurd (apart e)) ]

  module _ (m : ℕ) (middle f : Fields) (so_far told : Told) (first : IsFirst ts g path s m middle so_far) (activity : Activity) (is : slice_get (out-Graph g).activities m ≡ Some activity)
      (was : ActivityState) (stands : slice_get (fields s).states m ≡ Some was) where
    stands_still : slice_get middle.states m ≡ Some was
    stands_still = first.others m (omega arith) ∙ stands

    -- it stays as it was
    first_same : f ≡ middle → told ≡ so_far → IsFirst ts g path s (suc m) f told
    first_same same silent =
        first_more m middle f so_far told None [] first (ap (λ (x : Fields). x.ends) same) (ap (λ (x : Fields). x.unsettled) same)
        (λ y old now there before after.
        let both : Some now ≡ Some old = sym after ∙ ap (λ (x : Fields). slice_get x.states m) same ∙ first.others m (omega arith) ∙ before in
        let that : now ≡ old = cc in
        inl (ap scopes_in that, refl))
        (λ x apart. ap (λ (c : Fields). slice_get c.states x) same)
        (ap (λ (t : Told). t.signals) silent) (ap (λ (t : Told). t.begins) silent ∙ sym (append-nil so_far.begins)) refl (ap (λ (t : Told). t.ends) silent)

    -- it has another state
    first_state : (state : ActivityState) (o : Option (List Part)) (ms : List Message) → f ≡ with_state m state middle → Grown ts activity was state o
        → told.signals ≡ so_far.signals → told.begins ≡ so_far.begins ++ ms → AreTold g path ms (begin_notes o) → told.ends ≡ so_far.ends → IsFirst ts g path s (suc m) f told
    first_state state o ms same grows silent begins said endless =
        first_more m middle f so_far told o ms first (ap (λ (x : Fields). x.ends) same) (ap (λ (x : Fields). x.unsettled) same) here
        (λ x apart. ap (λ (c : Fields). slice_get c.states x) same ∙ set_other middle.states m x state apart) silent begins said endless
      where
        here : (y : Activity) (old now : ActivityState) → slice_get (out-Graph g).activities m ≡ Some y → slice_get (fields s).states m ≡ Some old → slice_get f.states m ≡ Some now → Grown ts y old now o
        here y old now there before after =
            let one : Some activity ≡ Some y = sym is ∙ there in
            let two : Some was ≡ Some old = sym stands ∙ before in
            let three : Some state ≡ Some now = sym (set_read middle.states m was state stands_still) ∙ ap (λ (c : Fields). slice_get c.states m) (sym same) ∙ after in
            let that : activity ≡ y = cc in
            let earlier : was ≡ old = cc in
            let later : state ≡ now = cc in
            subst (λ z. Grown ts z old now o) that (subst (λ z. Grown ts activity z now o) earlier (subst (λ z. Grown ts activity was z o) later grows))

    first_opens : (clock : ℕ) (st : ActivityState) → was ≡ st → Opens ts g path clock m activity (Some st) middle f so_far told → IsFirst ts g path s (suc m) f told
    first_opens clock (Program p) of opens =
        first_state (Program (made_ready p clock)) None [] opens.0 (inl (sym (ap scopes_in of), refl)) (ap (λ (t : Told). t.signals) opens.1)
        (ap (λ (t : Told). t.begins) opens.1 ∙ sym (append-nil so_far.begins)) refl (ap (λ (t : Told). t.ends) opens.1)
    first_opens clock (Nested n) of opens = go (graph_in ts activity.work) refl opens
      where
        go : (o : Option Graph) → graph_in ts activity.work ≡ o → Begins o (base_of g activity m middle.input (ends_of middle.ends)) path m activity (Nested n) middle f so_far told
            → IsFirst ts g path s (suc m) f told
        go None none begins = first_same begins.0 begins.1
        go (Some h) runs begins =
            let r : Part = part activity.name (length (out-NestedState n).scopes.items + 1) in
            first_state begins.state (Some (r ∷ [])) (Begin _ ∷ []) begins.scope
            (inr (
              h,
              begins.next,
              runs,
              begins.fresh.begun,
              grown_scopes begins.next n begins.state begins.grows ∙ ap (λ l. l ++ begins.next ∷ []) (sym (ap scopes_in of)),
              ap (λ l. Some (part activity.name (length l + 1) ∷ [])) (sym (ap scopes_in of)),
            ))
            (ap (λ (t : Told). t.signals) begins.tells) (ap (λ (t : Told). t.begins) begins.tells) (told_begin g path r) (ap (λ (t : Told). t.ends) begins.tells)

module _ (ts : List Template) (depth : ℕ) (k : Known) (g : Graph) (input : Container) (s s' : ScopeState) (path : Path) (clock : ℕ) (tells : Told)
    (well : Well ts depth g) (served : Served ts depth g) (may : MayBegin ts depth k g input)
    (shows : Shows ts depth k g input s) (shows_then : Shows ts depth (with_begin k) g input s') (receives : Receives ts path clock BeginsScope nothing tells g s s') where
  abbrev k' : Known
  k' = with_begin k

  abbrev e : Ends
  e = tree_ends ts depth k g input

  abbrev n : ℕ
  n = length (out-Graph g).activities

  abbrev values : ℕ → List (Option Bool)
  values = values_at k (out-Graph g).controls e

  all_open : (x : ℕ) → e x ≡ Unsettled
  all_open x = still ts k (output ts depth) g input may.itself.unbegun n x

  unsent : (c : Control) → k.sent [] c.from c.to (connector_value (out-Graph g).controls c (e c.from)) ≡ None
  unsent c = let open_ = all_open c.from in rw open_ (may.itself.unsent c.from c.to)

  decided : (m : ℕ) → m < n → (middle f : Fields) (so_far told : Told) → IsFirst ts g path s m middle so_far
      → ((activity : Activity) → slice_get (out-Graph g).activities m ≡ Some activity → Decides ts g path clock m activity (joined activity.join (values m)) middle f so_far told)
      → IsFirst ts g path s (suc m) f told
  decided m less middle f so_far told first decides =
      let activity = present (out-Graph g).activities m less in
      let was = present (fields s).states m (let l = shows.stated in omega arith) in
      go activity.0 activity.1 was.0 was.1 (joined activity.0.join (values m)) refl (decides activity.0 activity.1)
    where
      go : (activity : Activity) → slice_get (out-Graph g).activities m ≡ Some activity → (was : ActivityState) → slice_get (fields s).states m ≡ Some was
          → (v : Option Bool) → joined activity.join (values m) ≡ v → Decides ts g path clock m activity v middle f so_far told → IsFirst ts g path s (suc m) f told
      go activity is was stands None v decides = first_same ts g path s m middle f so_far told first activity is was stands decides.0 decides.1
      go activity is was stands (Some false) v decides =
          absurd (never_false activity.join (λ (c : Control). k.sent [] c.from c.to (connector_value (out-Graph g).controls c (e c.from))) (filter (λ c. c.to == m) (out-Graph g).controls) unsent v)
      go activity is was stands (Some true) v decides =
          first_opens ts g path s m middle f so_far told first activity is was stands clock was refl
          (subst (λ o. Opens ts g path clock m activity o middle f so_far told) (first.others m (omega arith) ∙ stands) decides)

  first_all : (m : ℕ) → m ≤ n → (f : Fields) (told : Told) → DecidesFirst ts g path clock values m (record (fields s) { begun = true }) f nothing told → IsFirst ts g path s m f told
  first_all zero le f told is = record {
    opens = λ x. None;
    ends = ap (λ (c : Fields). c.ends) is.0;
    unsettled = ap (λ (c : Fields). c.unsettled) is.0;
    grown = λ x y was now less. absurd (omega arith);
    others = λ x past. ap (λ (c : Fields). slice_get c.states x) is.0;
    silent = ap (λ (t : Told). t.signals) is.1;
    begins = none_told g path told.begins (ap (λ (t : Told). t.begins) is.1);
    endless = ap (λ (t : Told). t.ends) is.1;
  }
  first_all (suc m) le f told is = decided m (omega arith) is.middle f is.so_far told (first_all m (omega arith) is.middle is.so_far is.before) is.decides

  all : IsFirst ts g path s n (fields s') tells
  all = first_all n (omega arith) (fields s') tells (receives values (record { long = shows.tallied; counts = shows.tallies }))

  same_ends : tree_ends ts depth k' g input ≡ e
  same_ends = fun_ext (λ x. sym (shows_then.ends x) ∙ ap (λ es. ends_of es x) all.ends ∙ shows.ends x)

  -- what a BEGIN gives
  pub begin_given : IsGivenAt ts depth k k' g input path tells
  begin_given =
      let before : is_over ts depth k g input ≡ false = let unbegun = may.itself.unbegun in rw unbegun refl in
      let after : is_over ts depth k' g input ≡ false
      = not_over ts depth k' g input 0 (peopled_of ts depth g well) (ap (λ (f : Ends). is_settled (f 0)) same_ends ∙ ap is_settled (all_open 0)) in
      given_here ts depth k k' g input s s' path tells served shows shows_then (same_begun k) []
      (subst (λ (f : Ends). Merges (own_notes g e) [] (own_notes g f)) (sym same_ends) (merges_same (own_notes g e)))
      all.opens (λ x y was now is old new. all.grown x y was now (slice_get_within (out-Graph g).activities x y is) is old new)
      (λ m. either [] (0 == m)) (none_told g path tells.signals all.silent) all.begins false
      (subst (λ b. Merges (end_note b) [] (end_note (is_over ts depth k' g input))) (sym before) (subst (λ b. Merges [] [] (end_note b)) (sym after) (refl, refl)))
      (subst (λ ms. AreTold g path ms (if is_root path.parts then [] else [])) (sym all.endless) (either_back [] (is_root path.parts)))
    where
      either : (l : List Note) (b : Bool) → l ≡ (if b then l else l)
      either l true = refl
      either l false = refl

      either_back : (l : List Note) (b : Bool) → (if b then l else l) ≡ l
      either_back l true = refl
      either_back l false = refl
