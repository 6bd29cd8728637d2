-- To look at more attempts shows nothing else, once as many are looked at as items have outputs.
use Rattle.std.proofs.Common.{◌≡◌, ℕ, zero, suc, ◌+◌, ◌≤◌, ◌<◌, Bool, true, false, ◌&&◌, if◌then◌else◌, List, [], ◌∷◌, length, Option, Some, None, refl, ap, sym, ◌∙◌, subst, arith}
use Rattle.std.specs.Prelude.{slice_get}
use Rattle.std.specs.Option.{option_map}
use Rattle.fate_laws.proofs.EnoughAttempts.{same_tries, fate_same, step_same}
use Rattle.fate_laws.proofs.ItemsBelow.{Covers, among_strip, covers_at, strip, strip_at_most, some_item, count_from, count_at_most, count_split, has_items}
use Rattle.fate_laws.proofs.Peopled.{output_given}
use Rattle.fate_laws.specs.WellFormed.{IsWell, Well}
use Rattle.flow_model.specs.Conditions.{holds}
use Rattle.flow_model.specs.Containers.{with_return_code}
use Rattle.flow_model.specs.Fates.{Ends, is_open}
use Rattle.flow_model.specs.ScopeContainers.{base_of, graph_in, graph_of, output_by}
use Rattle.flow_model.specs.Scopes.{Known, at, part, Gives, Runs, Trial, Start, starts, then_start, scope_gives, gives, is_fed, trial, attempts_at, fate_given, started_at, rounds, scope_ends, tree_ends, output}
use Rattle.flow_model.specs.declared.graphs.Activity.{Activity}
use Rattle.flow_model.specs.declared.graphs.Container.{Container}
use Rattle.flow_model.specs.declared.graphs.Graph.{Graph, out-Graph}
use Rattle.flow_model.specs.declared.graphs.Template.{Template}
use Rattle.flow_model.specs.declared.graphs.Work.{Work, Program, Block, Process}
use Rattle.flow_model.specs.declared.instances.Part.{Part}
use Rattle.flow_model.specs.declared.names.Name.{Name}
use Rattle.navigator.specs.Views.{ShowsScope, shows_attempt, ShowsEnds, ShowsWithin, Shows}
use Rattle.navigator.specs.declared.scopes.ScopeState.{ScopeState}
use Rattle.navigator.proofs.ShownAgain.{shown_again}
use Rattle.view_laws.specs.Coming.{started_in}
use Rattle.view_laws.specs.Learning.{with_most}

no_some : (o : Container) → None ≡ Some o → ⊥
no_some o h = cc

-- ---- attempts that start

module _ (name : Name) (items : List (List Part)) (given given' : Gives) (t : Trial) (same : (j : ℕ) (i : Container) → given' j i ≡ given j i)
    (own : (j : ℕ) (i o : Container) → given j i ≡ Some o → 0 < length (strip (part name j) items)) where
  pub same_starts : (n m j : ℕ) (i : Container) → count_from name j items ≤ n → count_from name j items ≤ m → starts (suc m) given' t j i ≡ starts (suc n) given t j i
  same_starts zero m j i le le' = go (given j i) refl
    where
      go : (o : Option Container) → given j i ≡ o → starts (suc m) given' t j i ≡ starts (suc zero) given t j i
      go None is = rw (same j i, is) refl
      go (Some out) is = let some = own j i out is in let split = count_split name j items in absurd (omega arith)
  same_starts (suc n) zero j i le le' = go (given j i) refl
    where
      go : (o : Option Container) → given j i ≡ o → starts (suc zero) given' t j i ≡ starts (suc (suc n)) given t j i
      go None is = rw (same j i, is) refl
      go (Some out) is = let some = own j i out is in let split = count_split name j items in absurd (omega arith)
  same_starts (suc n) (suc m) j i le le' = go (given j i) refl (λ out. same_starts n m (j + 1) (t.loops out))
    where
      on_exit : (out : Container) (b : Bool) → holds t.exit out ≡ b → starts (suc m) given' t (j + 1) (t.loops out) ≡ starts (suc n) given t (j + 1) (t.loops out)
          → then_start t (Some out) (λ o. starts (suc m) given' t (j + 1) (t.loops o)) ≡ then_start t (Some out) (λ o. starts (suc n) given t (j + 1) (t.loops o))
      on_exit out true is rest = rw is refl
      on_exit out false is rest = rw is rest

      go : (o : Option Container) → given j i ≡ o
          → ((out : Container) → count_from name (j + 1) items ≤ n → count_from name (j + 1) items ≤ m → starts (suc m) given' t (j + 1) (t.loops out) ≡ starts (suc n) given t (j + 1) (t.loops out))
          → starts (suc (suc m)) given' t j i ≡ starts (suc (suc n)) given t j i
      go None is rest = rw (same j i, is) refl
      go (Some out) is rest =
          let some = own j i out is in
          let split = count_split name j items in
          rw (same j i, is) (ap (λ ss. record { attempt = j; input = i } ∷ ss) (on_exit out (holds t.exit out) refl (rest out (omega arith) (omega arith))))

-- ---- one scope

some_given : (f : Container → Container) (r : Option Container) (o : Container) → option_map f r ≡ Some o → (u : Container) × (r ≡ Some u)
some_given f None o h = absurd (no_some o h)
some_given f (Some u) o h = (u, refl)

module _ (ts : List Template) (k : Known) (most : ℕ) (runs : Runs) (inner : Graph → Type 0) (items : List (List Part)) (covers : Covers k items)
    (enough : length items ≤ k.most) (enough' : length items ≤ most)
    (same : (q : Part) (h : Graph) (i : Container) → inner h → runs (at q (with_most most k)) h i ≡ runs (at q k) h i)
    (own : (q : Part) (h : Graph) (i o : Container) → inner h → runs (at q k) h i ≡ Some o → 0 < length (strip q items)) where
  scope_same : (r : Option Graph) → ((h : Graph) → r ≡ Some h → inner h) → (q : Part) (i : Container) → scope_gives (with_most most k) runs r q i ≡ scope_gives k runs r q i
  scope_same None ok q i = refl
  scope_same (Some h) ok q i = ap (λ o. if k.closed (q ∷ []) then option_map with_return_code o else None) (same q h i (ok h refl))

  scope_own : (r : Option Graph) → ((h : Graph) → r ≡ Some h → inner h) → (q : Part) (i o : Container) → scope_gives k runs r q i ≡ Some o → 0 < length (strip q items)
  scope_own None ok q i o gave = absurd (no_some o gave)
  scope_own (Some h) ok q i o gave = go (k.closed (q ∷ [])) refl
    where
      go : (b : Bool) → k.closed (q ∷ []) ≡ b → 0 < length (strip q items)
      go false is = absurd (no_some o (rw is at gave))
      go true is = let u = some_given with_return_code (runs (at q k) h i) o (rw is at gave) in own q h i u.0 (ok h refl) u.1

  work_same : (name : Name) (w : Work) → ((h : Graph) → graph_in ts w ≡ Some h → inner h) → (j : ℕ) (i : Container)
      → gives ts (with_most most k) runs name w j i ≡ gives ts k runs name w j i
  work_same name (Program p) ok j i = refl
  work_same name (Block g) ok j i = scope_same (Some g) ok (part name j) i
  work_same name (Process t) ok j i = scope_same (graph_of ts t) ok (part name j) i

  work_own : (name : Name) (w : Work) → ((h : Graph) → graph_in ts w ≡ Some h → inner h) → (j : ℕ) (i o : Container)
      → gives ts k runs name w j i ≡ Some o → 0 < length (strip (part name j) items)
  work_own name (Program p) ok j i o gave =
      some_item [] (strip (part name j) items) (among_strip (part name j) [] items (covers (part name j ∷ []) o gave))
  work_own name (Block g) ok j i o gave = scope_own (Some g) ok (part name j) i o gave
  work_own name (Process t) ok j i o gave = scope_own (graph_of ts t) ok (part name j) i o gave

  module _ (g : Graph) (well : IsWell ts g inner) (input : Container) where
    outputs_at : (e : Ends) (a : ℕ) (o : Option Activity) → slice_get (out-Graph g).activities a ≡ o
        → attempts_at ts (with_most most k) runs g input e a o ≡ attempts_at ts k runs g input e a o
    outputs_at e a None is = refl
    outputs_at e a (Some activity) is =
        let base : Container = base_of g activity a input e in
        let count = count_at_most activity.name 1 items in
        ap (λ os. if is_fed (out-Graph g).lines a e then os else [])
        (same_tries activity.name items (gives ts k runs activity.name activity.work) (gives ts (with_most most k) runs activity.name activity.work)
        (trial g a activity base)
        (work_same activity.name activity.work (well.inside a activity is))
        (work_own activity.name activity.work (well.inside a activity is))
        k.most most 1 base (omega arith) (omega arith))

    pub most_fate : (e : Ends) (a : ℕ) → fate_given ts (with_most most k) runs g input e a ≡ fate_given ts k runs g input e a
    most_fate e a = fate_same ts k most runs inner items covers enough enough' same own g well input e a

    pub most_starts : (e : Ends) (a : ℕ) (activity : Activity) → slice_get (out-Graph g).activities a ≡ Some activity
        → started_at ts (with_most most k) runs g input e a activity ≡ started_at ts k runs g input e a activity
    most_starts e a activity is =
        let base : Container = base_of g activity a input e in
        let count = count_at_most activity.name 1 items in
        ap (λ f. if is_open f && is_fed (out-Graph g).lines a e then starts (suc most) (gives ts (with_most most k) runs activity.name activity.work) (trial g a activity base) 1 base else []) (most_fate e a)
        ∙ ap (λ ss. if is_open (fate_given ts k runs g input e a) && is_fed (out-Graph g).lines a e then ss else [])
        (same_starts activity.name items (gives ts k runs activity.name activity.work) (gives ts (with_most most k) runs activity.name activity.work)
        (trial g a activity base)
        (work_same activity.name activity.work (well.inside a activity is))
        (work_own activity.name activity.work (well.inside a activity is))
        k.most most 1 base (omega arith) (omega arith))

    pub most_ends : scope_ends ts (with_most most k) runs g input ≡ scope_ends ts k runs g input
    most_ends = ap (λ next. rounds next (length (out-Graph g).activities)) (step_same ts k most runs inner items covers enough enough' same own g well input)

    pub most_scope : (below : ShowsScope) (s : ScopeState)
        → ((q : Part) (h : Graph) (i : Container) (t : ScopeState) → inner h → below (at q k) h i t → below (at q (with_most most k)) h i t)
        → ShowsEnds ts k runs below g input (scope_ends ts k runs g input) s → ShowsEnds ts (with_most most k) runs below g input (scope_ends ts (with_most most k) runs g input) s
    most_scope below s more shows = subst (λ E. ShowsEnds ts (with_most most k) runs below g input E s) (sym most_ends) (by (scope_ends ts k runs g input) shows)
      where
        attempt : (name : Name) (o : Option Graph) → ((h : Graph) → o ≡ Some h → inner h) → (start : Start) (t : ScopeState)
            → shows_attempt below k name o start t → shows_attempt below (with_most most k) name o start t
        attempt name None ok start t is = is
        attempt name (Some h) ok start t is = more (part name start.attempt) h start.input t (ok h refl) is

        by : (e : Ends) → ShowsEnds ts k runs below g input e s → ShowsEnds ts (with_most most k) runs below g input e s
        by e is = record {
          begun = is.begun;
          reads = is.reads;
          tallied = is.tallied;
          tallies = is.tallies;
          ended = is.ended;
          ends = is.ends;
          stated = is.stated;
          states = λ a activity state there found.
              shown_again activity.work _ _ _ _ _ _ (shows_attempt below k activity.name (graph_in ts activity.work)) (shows_attempt below (with_most most k) activity.name (graph_in ts activity.work)) state
              (most_fate e a) (λ opened. outputs_at e a (slice_get (out-Graph g).activities a) refl) (most_starts e a activity there)
              (λ start t. attempt activity.name (graph_in ts activity.work) (well.inside a activity there) start t)
              (is.states a activity state there found);
          unsettled = is.unsettled;
        }

-- ---- to any depth

pub most_output : (ts : List Template) (depth : ℕ) (k : Known) (most : ℕ) (items : List (List Part)) (g : Graph) (i : Container) → Well ts depth g → Covers k items
    → length items ≤ k.most → length items ≤ most → output ts (suc depth) (with_most most k) g i ≡ output ts (suc depth) k g i
most_output ts zero k most items g i well covers enough enough' =
    ap (λ next. output_by g i (rounds next (length (out-Graph g).activities)))
    (step_same ts k most (output ts zero) (λ h. Unit {0}) items covers enough enough' (λ q h c ok. refl) (λ q h c o ok gave. absurd (no_some o gave)) g well i)
most_output ts (suc depth) k most items g i well covers enough enough' =
    go (λ q h c ok. most_output ts depth (at q k) most (strip q items) h c ok (covers_at k items q covers) (fewer q k.most enough) (fewer q most enough'))
  where
    fewer : (q : Part) (n : ℕ) → length items ≤ n → length (strip q items) ≤ n
    fewer q n le = let less = strip_at_most q items in omega arith

    go : ((q : Part) (h : Graph) (c : Container) → Well ts depth h → output ts (suc depth) (at q (with_most most k)) h c ≡ output ts (suc depth) (at q k) h c)
        → output ts (suc (suc depth)) (with_most most k) g i ≡ output ts (suc (suc depth)) k g i
    go same =
        ap (λ next. output_by g i (rounds next (length (out-Graph g).activities)))
        (step_same ts k most (output ts (suc depth)) (Well ts depth) items covers enough enough' same
        (λ q h c o ok gave. has_items (at q k) (strip q items) (covers_at k items q covers) (output_given ts depth (at q k) h c o ok gave)) g well i)

-- a state goes on showing the view where more attempts are looked at, or fewer
pub most_shows : (ts : List Template) (depth : ℕ) (k : Known) (most : ℕ) (items : List (List Part)) (g : Graph) (input : Container) (s : ScopeState) → Well ts depth g → Covers k items
    → length items ≤ k.most → length items ≤ most → Shows ts depth k g input s → Shows ts depth (with_most most k) g input s
most_shows ts zero k most items g input s well covers enough enough' shows =
    most_scope ts k most (output ts zero) (λ h. Unit {0}) items covers enough enough' (λ q h c ok. refl) (λ q h c o ok gave. absurd (no_some o gave)) g well input (ShowsWithin ts zero) s
    (λ q h i t ok is. is) shows
most_shows ts (suc depth) k most items g input s well covers enough enough' shows =
    most_scope ts k most (output ts (suc depth)) (Well ts depth) items covers enough enough'
    (λ q h c ok. most_output ts depth (at q k) most (strip q items) h c ok (covers_at k items q covers) (fewer q k.most enough) (fewer q most enough'))
    (λ q h c o ok gave. has_items (at q k) (strip q items) (covers_at k items q covers) (output_given ts depth (at q k) h c o ok gave))
    g well input (ShowsWithin ts (suc depth)) s
    (λ q h i t ok is. most_shows ts depth (at q k) most (strip q items) h i t ok (covers_at k items q covers) (fewer q k.most enough) (fewer q most enough') is)
    shows
  where
    fewer : (q : Part) (n : ℕ) → length items ≤ n → length (strip q items) ≤ n
    fewer q n le = let less = strip_at_most q items in omega arith

-- ---- a scope where more attempts are looked at

-- the view of a scope is the same
pub record IsSameView (ts : List Template) (depth : ℕ) (k : Known) (most : ℕ) (g : Graph) (input : Container) : Type 0 where
  pub ends : tree_ends ts depth (with_most most k) g input ≡ tree_ends ts depth k g input
  pub fates : (e : Ends) (a : ℕ) → fate_given ts (with_most most k) (output ts depth) g input e a ≡ fate_given ts k (output ts depth) g input e a
  pub starts : (e : Ends) (a : ℕ) (activity : Activity) → slice_get (out-Graph g).activities a ≡ Some activity
      → started_at ts (with_most most k) (output ts depth) g input e a activity ≡ started_at ts k (output ts depth) g input e a activity

pub same_view : (ts : List Template) (depth : ℕ) (k : Known) (most : ℕ) (items : List (List Part)) (g : Graph) (input : Container) → Well ts depth g → Covers k items
    → length items ≤ k.most → length items ≤ most → IsSameView ts depth k most g input
same_view ts zero k most items g input well covers enough enough' =
    record {
      ends = most_ends ts k most (output ts zero) (λ h. Unit {0}) items covers enough enough' (λ q h c ok. refl) (λ q h c o ok gave. absurd (no_some o gave)) g well input;
      fates = most_fate ts k most (output ts zero) (λ h. Unit {0}) items covers enough enough' (λ q h c ok. refl) (λ q h c o ok gave. absurd (no_some o gave)) g well input;
      starts = most_starts ts k most (output ts zero) (λ h. Unit {0}) items covers enough enough' (λ q h c ok. refl) (λ q h c o ok gave. absurd (no_some o gave)) g well input;
    }
same_view ts (suc depth) k most items g input well covers enough enough' =
    by
    (λ q h c ok. most_output ts depth (at q k) most (strip q items) h c ok (covers_at k items q covers) (fewer q k.most enough) (fewer q most enough'))
    (λ q h c o ok gave. has_items (at q k) (strip q items) (covers_at k items q covers) (output_given ts depth (at q k) h c o ok gave))
  where
    fewer : (q : Part) (n : ℕ) → length items ≤ n → length (strip q items) ≤ n
    fewer q n le = let less = strip_at_most q items in omega arith

    by : ((q : Part) (h : Graph) (c : Container) → Well ts depth h → output ts (suc depth) (at q (with_most most k)) h c ≡ output ts (suc depth) (at q k) h c)
        → ((q : Part) (h : Graph) (c o : Container) → Well ts depth h → output ts (suc depth) (at q k) h c ≡ Some o → 0 < length (strip q items))
        → IsSameView ts (suc depth) k most g input
    by same own = record {
      ends = most_ends ts k most (output ts (suc depth)) (Well ts depth) items covers enough enough' same own g well input;
      fates = most_fate ts k most (output ts (suc depth)) (Well ts depth) items covers enough enough' same own g well input;
      starts = most_starts ts k most (output ts (suc depth)) (Well ts depth) items covers enough enough' same own g well input;
    }

-- the same attempts have started
pub starts_most : (ts : List Template) (depth most : ℕ) (k : Known) (g : Graph) (input : Container) → IsSameView ts depth k most g input → (a : ℕ) (activity : Activity)
    → slice_get (out-Graph g).activities a ≡ Some activity → started_in ts depth (with_most most k) g input a activity ≡ started_in ts depth k g input a activity
starts_most ts depth most k g input same a activity is =
    ap (λ e. started_at ts (with_most most k) (output ts depth) g input e a activity) same.ends
    ∙ same.starts (tree_ends ts depth k g input) a activity is
