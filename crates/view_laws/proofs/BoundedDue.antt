-- No more messages are due in a scope than its expanded size, times one more than the items below it; and no more than its size times those items once it is complete.
use Rattle.std.proofs.Common.{◌≡◌, ℕ, zero, suc, ◌+◌, ◌*◌, ◌≤◌, ◌<◌, Bool, true, false, ◌&&◌, if◌then◌else◌, List, [], ◌∷◌, ◌++◌, map, length, refl, ap, sym, ◌∙◌, Option, Some, None, arith, length-append, mul-add, add-mul, mul-le-mul_left, le-mul_of_pos_right}
use Rattle.std.proofs.lemmas.List.{length-map}
use Rattle.std.proofs.lemmas.Option.{slice_get_within}
use Rattle.std.specs.Prelude.{slice_get}
use Rattle.std.specs.List.{flat_map, last_or}
use Rattle.std.specs.Option.{option_map}
use Rattle.flow_model.specs.declared.graphs.Activity.{Activity}
use Rattle.flow_model.specs.declared.graphs.Container.{Container}
use Rattle.flow_model.specs.declared.graphs.Control.{Control}
use Rattle.flow_model.specs.declared.graphs.Graph.{Graph, out-Graph}
use Rattle.flow_model.specs.declared.graphs.Template.{Template}
use Rattle.flow_model.specs.declared.graphs.Work.{Work, Program, Block, Process}
use Rattle.flow_model.specs.declared.instances.Part.{Part}
use Rattle.flow_model.specs.declared.names.Name.{Name}
use Rattle.flow_model.specs.Conditions.{holds}
use Rattle.flow_model.specs.Containers.{with_return_code}
use Rattle.flow_model.specs.Fates.{Ends, connector_value, joined, fate_by, ended, is_settled, is_open}
use Rattle.flow_model.specs.ScopeContainers.{base_of, graph_in, graph_of, is_complete, up_to}
use Rattle.flow_model.specs.Scopes.{Known, at, Gives, Runs, Trial, Start, tries, then_start, starts, part, scope_gives, gives, is_fed, trial, tries_on, attempts_at, values_at, fate_given, step, output, tree_ends, started_at}
use Rattle.fate_laws.specs.WellFormed.{IsWell, Well}
use Rattle.fate_laws.proofs.Attempts.{closed, closed_tail}
use Rattle.fate_laws.proofs.Complete.{settled_at}
use Rattle.fate_laws.proofs.Extends.{and_true}
use Rattle.fate_laws.proofs.Peopled.{output_given}
use Rattle.fate_laws.proofs.Solutions.{order_of, step_keeps_ends}
use Rattle.fate_laws.proofs.Steps.{closed_of}
use Rattle.view_laws.specs.Messages.{Note, BeginNote, EndNote, push, note_of, notes, is_given, due_of, due_with, due_at, due_in}
use Rattle.view_laws.specs.TurnBound.{size_in, sizes, expanded_size}
use Rattle.fate_laws.proofs.ItemsBelow.{Covers, covers_at, strip, count_from, count_at_most, count_split, has_items}

-- ---- attempts

module _ (size : ℕ) (name : Name) (items : List (List Part)) (due_one : Start → List Note) (given : Gives) (t : Trial)
    (each : (j : ℕ) (i : Container) → length (due_one (record { attempt = j; input = i })) ≤ size * (1 + length (strip (part name j) items)))
    (gave : (j : ℕ) (i o : Container) → given j i ≡ Some o → length (due_one (record { attempt = j; input = i })) ≤ size * length (strip (part name j) items)) where
  -- the messages of attempt j and of those after it
  abbrev after : (n j : ℕ) (i : Container) → List Note
  after n j i = flat_map due_one (then_start t (given j i) (λ out. starts n given t (j + 1) (t.loops out)))

  pub all_starts : (n j : ℕ) (i : Container) → length (flat_map due_one (starts n given t j i)) ≤ size * (1 + count_from name j items)
  all_starts zero j i = omega arith
  all_starts (suc n) j i = go (given j i) refl (λ out. all_starts n (j + 1) (t.loops out))
    where
      split : length (strip (part name j) items) + count_from name (j + 1) items ≤ count_from name j items
      split = count_split name j items

      whole : length (flat_map due_one (starts (suc n) given t j i)) ≡ length (due_one (record { attempt = j; input = i })) + length (after n j i)
      whole = length-append (due_one (record { attempt = j; input = i })) (after n j i)

      on_exit : (out : Container) → given j i ≡ Some out → length (flat_map due_one (starts n given t (j + 1) (t.loops out))) ≤ size * (1 + count_from name (j + 1) items)
          → (b : Bool) → holds t.exit out ≡ b → length (due_one (record { attempt = j; input = i })) + length (after n j i) ≤ size * (1 + count_from name j items)
      on_exit out is rest true exits =
          let here = gave j i out is in
          let more = mul-le-mul_left size (let a : length (strip (part name j) items) ≤ 1 + count_from name j items = omega (arith, split) in a) in
          rw (is, exits) (omega arith)
      on_exit out is rest false exits =
          let here = gave j i out is in
          let sum = mul-add size (length (strip (part name j) items)) (1 + count_from name (j + 1) items) in
          let more = mul-le-mul_left size (let a : length (strip (part name j) items) + (1 + count_from name (j + 1) items) ≤ 1 + count_from name j items = omega (arith, split) in a) in
          rw (is, exits) (omega arith)

      go : (o : Option Container) → given j i ≡ o → ((out : Container) → length (flat_map due_one (starts n given t (j + 1) (t.loops out))) ≤ size * (1 + count_from name (j + 1) items))
          → length (flat_map due_one (starts (suc n) given t j i)) ≤ size * (1 + count_from name j items)
      go None is rest =
          let here = each j i in
          let more = mul-le-mul_left size (let a : 1 + length (strip (part name j) items) ≤ 1 + count_from name j items = omega (arith, split) in a) in
          let none : length (after n j i) ≡ 0 = rw is refl in
          rw whole (omega arith)
      go (Some out) is rest = rw whole (on_exit out is (rest out) (holds t.exit out) refl)

  -- attempts that have ended
  pub closed_starts : (m n j : ℕ) (i : Container) → closed t.exit (tries m given t j i) ≡ true → length (flat_map due_one (starts n given t j i)) ≤ size * count_from name j items
  closed_starts m zero j i done = omega arith
  closed_starts zero (suc n) j i done = absurd (no_end done)
    where
      no_end : false ≡ true → ⊥
      no_end h = cc
  closed_starts (suc m) (suc n) j i done = go (given j i) refl (λ out. closed_starts m n (j + 1) (t.loops out))
    where
      no_end : false ≡ true → ⊥
      no_end h = cc

      split : length (strip (part name j) items) + count_from name (j + 1) items ≤ count_from name j items
      split = count_split name j items

      whole : length (flat_map due_one (starts (suc n) given t j i)) ≡ length (due_one (record { attempt = j; input = i })) + length (after n j i)
      whole = length-append (due_one (record { attempt = j; input = i })) (after n j i)

      on_exit : (out : Container) → given j i ≡ Some out
          → (closed t.exit (tries m given t (j + 1) (t.loops out)) ≡ true → length (flat_map due_one (starts n given t (j + 1) (t.loops out))) ≤ size * count_from name (j + 1) items)
          → (b : Bool) → holds t.exit out ≡ b → length (due_one (record { attempt = j; input = i })) + length (after n j i) ≤ size * count_from name j items
      on_exit out is rest true exits =
          let here = gave j i out is in
          let more = mul-le-mul_left size (let a : length (strip (part name j) items) ≤ count_from name j items = omega (arith, split) in a) in
          rw (is, exits) (omega arith)
      on_exit out is rest false exits =
          let here = gave j i out is in
          let tail = rest (closed_tail t.exit out (tries m given t (j + 1) (t.loops out)) exits (rw (is, exits) at done)) in
          let sum = mul-add size (length (strip (part name j) items)) (count_from name (j + 1) items) in
          let more = mul-le-mul_left size split in
          rw (is, exits) (omega arith)

      go : (o : Option Container) → given j i ≡ o
          → ((out : Container) → closed t.exit (tries m given t (j + 1) (t.loops out)) ≡ true → length (flat_map due_one (starts n given t (j + 1) (t.loops out))) ≤ size * count_from name (j + 1) items)
          → length (flat_map due_one (starts (suc n) given t j i)) ≤ size * count_from name j items
      go None is rest = absurd (no_end (rw is at done))
      go (Some out) is rest = rw whole (on_exit out is (rest out) (holds t.exit out) refl)

-- ---- one attempt

of_length : (k : Known) (q : Part) (out : Option Container) (below : List Note) → length (due_of k q out below) ≤ 2 + length below
of_length k q out below = go (k.begun (q ∷ []) && is_given out) (length-map below (push q))
  where
    go : (b : Bool) → length (map (push q) below) ≡ length below → length (BeginNote (q ∷ []) ∷ (if b then EndNote (q ∷ []) ∷ [] else []) ++ map (push q) below) ≤ 2 + length below
    go true e = omega arith
    go false e = omega arith

some_given : (f : Container → Container) (r : Option Container) (o : Container) → option_map f r ≡ Some o → (u : Container) × (r ≡ Some u)
some_given f None o h = absurd (no_some h)
  where
    no_some : None ≡ Some o → ⊥
    no_some h = cc
some_given f (Some u) o h = (u, refl)

scope_gave : (k : Known) (runs : Runs) (r : Option Graph) (h : Graph) (q : Part) (i o : Container) → r ≡ Some h → scope_gives k runs r q i ≡ Some o
    → (u : Container) × (runs (at q k) h i ≡ Some u)
scope_gave k runs r h q i o of gave = go (k.closed (q ∷ [])) refl (rw of at gave)
  where
    no_some : None ≡ Some o → ⊥
    no_some h = cc

    go : (b : Bool) → k.closed (q ∷ []) ≡ b → scope_gives k runs (Some h) q i ≡ Some o → (u : Container) × (runs (at q k) h i ≡ Some u)
    go false is gave = absurd (no_some (rw is at gave))
    go true is gave = some_given with_return_code (runs (at q k) h i) o (rw is at gave)

work_gave : (ts : List Template) (k : Known) (runs : Runs) (name : Name) (w : Work) (h : Graph) (j : ℕ) (i o : Container) → graph_in ts w ≡ Some h
    → gives ts k runs name w j i ≡ Some o → (u : Container) × (runs (at (part name j) k) h i ≡ Some u)
work_gave ts k runs name (Program p) h j i o of gave = absurd (no_some of)
  where
    no_some : None ≡ Some h → ⊥
    no_some h = cc
work_gave ts k runs name (Block g) h j i o of gave = scope_gave k runs (Some g) h (part name j) i o of gave
work_gave ts k runs name (Process t) h j i o of gave = scope_gave k runs (graph_of ts t) h (part name j) i o of gave

-- ---- one scope

note_length : (c : Control) (v : Option Bool) → length (note_of c v) ≤ 1
note_length c None = omega arith
note_length c (Some b) = omega arith

notes_length : (controls cs : List Control) (e : Ends) → length (notes controls cs e) ≤ length cs
notes_length controls [] e = omega arith
notes_length controls (c ∷ cs) e =
    let here = note_length c (connector_value controls c (e c.from)) in
    let rest = notes_length controls cs e in
    let all = length-append (note_of c (connector_value controls c (e c.from))) (notes controls cs e) in
    omega arith

places_length : (size : Graph → ℕ) (ts : List Template) (f : ℕ → List Note) (count : ℕ) (xs : List Activity) (j : ℕ)
    → ((i : ℕ) (x : Activity) → slice_get xs i ≡ Some x → length (f (j + i)) ≤ size_in size (graph_in ts x.work) * count)
    → length (flat_map f (up_to (length xs) j)) ≤ sizes size ts xs * count
places_length size ts f count [] j each = omega arith
places_length size ts f count (x ∷ xs) j each =
    let here : length (f j) ≤ size_in size (graph_in ts x.work) * count = rw (first j) at (each 0 x refl) in
    let rest = places_length size ts f count xs (j + 1) (λ i y is. rw (shifted j i) at (each (suc i) y is)) in
    let all = length-append (f j) (flat_map f (up_to (length xs) (j + 1))) in
    let sum = add-mul (size_in size (graph_in ts x.work)) (sizes size ts xs) count in
    omega arith
  where
    first : (j : ℕ) → j + 0 ≡ j
    first j = omega arith

    shifted : (j i : ℕ) → j + suc i ≡ j + 1 + i
    shifted j i = omega arith

open_joined : (a : Activity) (v : Option Bool) (outs : List Container) → is_open (fate_by a v outs) ≡ true → v ≡ Some true
open_joined a None outs h = cc
open_joined a (Some false) outs h = cc
open_joined a (Some true) outs h = refl

-- the attempts of a settled activity that is open have ended
shut : (ts : List Template) (k : Known) (runs : Runs) (g : Graph) (i : Container) (e : Ends) (a : ℕ) (activity : Activity) → slice_get (out-Graph g).activities a ≡ Some activity
    → is_settled (step ts k runs g i e a) ≡ true → is_open (fate_given ts k runs g i e a) ≡ true → is_fed (out-Graph g).lines a e ≡ true
    → closed activity.exit (tries_on ts k runs g a activity (base_of g activity a i e)) ≡ true
shut ts k runs g i e a activity is settled opens fed = go (k.begun []) refl
  where
    no_end : false ≡ true → ⊥
    no_end h = cc

    outs : List Container
    outs = attempts_at ts k runs g i e a (Some activity)

    v : Option Bool
    v = joined activity.join (values_at k (out-Graph g).controls e a)

    go : (b : Bool) → k.begun [] ≡ b → closed activity.exit (tries_on ts k runs g a activity (base_of g activity a i e)) ≡ true
    go false no_ = absurd (no_end (rw no_ at opens))
    go true yes_ =
        let open_ : v ≡ Some true = open_joined activity v outs (rw (yes_, is) at opens) in
        let s : is_settled (ended (fate_by activity v outs) outs) ≡ true = rw (yes_, is) at settled in
        let t : is_settled (ended (fate_by activity (Some true) outs) outs) ≡ true = ap (λ w. is_settled (ended (fate_by activity w outs) outs)) (sym open_) ∙ s in
        let done : closed activity.exit outs ≡ true = closed_of activity (length outs) outs (last_or None outs) t in
        rw fed at done

module _ (ts : List Template) (k : Known) (runs : Runs) (below : Known → Graph → Container → List Note) (size : Graph → ℕ) (inner : Graph → Type 0)
    (items : List (List Part)) (covers : Covers k items)
    (each : (q : Part) (h : Graph) (i : Container) → inner h → Covers (at q k) (strip q items) → length (below (at q k) h i) + 2 ≤ size h * (1 + length (strip q items)))
    (whole : (q : Part) (h : Graph) (i o : Container) → inner h → Covers (at q k) (strip q items) → runs (at q k) h i ≡ Some o
    → length (below (at q k) h i) + 2 ≤ size h * length (strip q items))
    (g : Graph) (well : IsWell ts g inner) (i : Container) (e : Ends) where
  module _ (a : ℕ) (activity : Activity) (is : slice_get (out-Graph g).activities a ≡ Some activity) where
    abbrev given : Gives
    given = gives ts k runs activity.name activity.work

    abbrev base : Container
    base = base_of g activity a i e

    abbrev test : Bool
    test = is_open (fate_given ts k runs g i e a) && is_fed (out-Graph g).lines a e

    module _ (h : Graph) (of : graph_in ts activity.work ≡ Some h) where
      due_one : Start → List Note
      due_one s = due_of k (part activity.name s.attempt) (runs (at (part activity.name s.attempt) k) h s.input) (below (at (part activity.name s.attempt) k) h s.input)

      one_each : (j : ℕ) (c : Container) → length (due_one (record { attempt = j; input = c })) ≤ size h * (1 + length (strip (part activity.name j) items))
      unfolding due_one
      one_each j c =
          let q : Part = part activity.name j in
          let all = of_length k q (runs (at q k) h c) (below (at q k) h c) in
          let bound = each q h c (well.inside a activity is h of) (covers_at k items q covers) in
          omega arith

      one_whole : (j : ℕ) (c o : Container) → given j c ≡ Some o → length (due_one (record { attempt = j; input = c })) ≤ size h * length (strip (part activity.name j) items)
      unfolding due_one
      one_whole j c o gave =
          let q : Part = part activity.name j in
          let all = of_length k q (runs (at q k) h c) (below (at q k) h c) in
          let u = work_gave ts k runs activity.name activity.work h j c o of gave in
          let bound = whole q h c u.0 (well.inside a activity is h of) (covers_at k items q covers) u.1 in
          omega arith

      starts_length : length (flat_map due_one (starts (suc k.most) given (trial g a activity base) 1 base)) ≤ size h * (1 + length items)
      starts_length =
          let all = all_starts (size h) activity.name items due_one given (trial g a activity base) one_each one_whole (suc k.most) 1 base in
          let most = count_at_most activity.name 1 items in
          let more = mul-le-mul_left (size h) (let m : 1 + count_from activity.name 1 items ≤ 1 + length items = omega arith in m) in
          omega arith

      shut_length : closed activity.exit (tries_on ts k runs g a activity base) ≡ true
          → length (flat_map due_one (starts (suc k.most) given (trial g a activity base) 1 base)) ≤ size h * length items
      shut_length done =
          let all = closed_starts (size h) activity.name items due_one given (trial g a activity base) one_each one_whole k.most (suc k.most) 1 base done in
          let most = count_at_most activity.name 1 items in
          let more = mul-le-mul_left (size h) most in
          omega arith

      with_length : length (due_with runs below k activity.name (Some h) (started_at ts k runs g i e a activity)) ≤ size h * (1 + length items)
      unfolding due_one
      with_length = go test refl
        where
          go : (b : Bool) → test ≡ b → length (due_with runs below k activity.name (Some h) (started_at ts k runs g i e a activity)) ≤ size h * (1 + length items)
          go false no_ = rw no_ (omega arith)
          go true yes_ = rw yes_ starts_length

      with_whole : (test ≡ true → closed activity.exit (tries_on ts k runs g a activity base) ≡ true)
          → length (due_with runs below k activity.name (Some h) (started_at ts k runs g i e a activity)) ≤ size h * length items
      unfolding due_one
      with_whole ends = go test refl
        where
          go : (b : Bool) → test ≡ b → length (due_with runs below k activity.name (Some h) (started_at ts k runs g i e a activity)) ≤ size h * length items
          go false no_ = rw no_ (omega arith)
          go true yes_ = rw yes_ (shut_length (ends yes_))

    pub at_length : length (due_at ts runs below k g i e a (Some activity)) ≤ size_in size (graph_in ts activity.work) * (1 + length items)
    at_length = go (graph_in ts activity.work) refl
      where
        go : (o : Option Graph) → graph_in ts activity.work ≡ o → length (due_at ts runs below k g i e a (Some activity)) ≤ size_in size (graph_in ts activity.work) * (1 + length items)
        go None of = rw of (omega arith)
        go (Some h) of = rw of (with_length h of)

    pub at_whole : (test ≡ true → closed activity.exit (tries_on ts k runs g a activity base) ≡ true)
        → length (due_at ts runs below k g i e a (Some activity)) ≤ size_in size (graph_in ts activity.work) * length items
    at_whole ends = go (graph_in ts activity.work) refl
      where
        go : (o : Option Graph) → graph_in ts activity.work ≡ o → length (due_at ts runs below k g i e a (Some activity)) ≤ size_in size (graph_in ts activity.work) * length items
        go None of = rw of (omega arith)
        go (Some h) of = rw of (with_whole h of ends)

  abbrev controls : List Control
  controls = (out-Graph g).controls

  abbrev activities : List Activity
  activities = (out-Graph g).activities

  abbrev place : ℕ → List Note
  place a = due_at ts runs below k g i e a (slice_get activities a)

  abbrev places : List Note
  places = flat_map place (up_to (length activities) 0)

  places_bound : length places ≤ sizes size ts activities * (1 + length items)
  places_bound = places_length size ts place (1 + length items) activities 0 (λ a x is. rw (plain a, is) (at_length a x is))
    where
      plain : (a : ℕ) → 0 + a ≡ a
      plain a = omega arith

  places_whole : ((a : ℕ) (x : Activity) → slice_get activities a ≡ Some x → is_settled (step ts k runs g i e a) ≡ true) → length places ≤ sizes size ts activities * length items
  places_whole settled =
      places_length size ts place (length items) activities 0
      (λ a x is. rw (plain a, is) (at_whole a x is (λ h. let both = and_true (is_open (fate_given ts k runs g i e a)) _ h in shut ts k runs g i e a x is (settled a x is) both.0 both.1)))
    where
      plain : (a : ℕ) → 0 + a ≡ a
      plain a = omega arith

  pub scope_length : length (notes controls controls e ++ places) + 2 ≤ (length controls + 2 + sizes size ts activities) * (1 + length items)
  scope_length =
      let own = notes_length controls controls e in
      let all = length-append (notes controls controls e) places in
      let inside = places_bound in
      let sum = add-mul (length controls + 2) (sizes size ts activities) (1 + length items) in
      let some : 0 < 1 + length items = omega arith in
      let once = le-mul_of_pos_right (length controls + 2) some in
      omega arith

  pub scope_whole : ((a : ℕ) (x : Activity) → slice_get activities a ≡ Some x → is_settled (step ts k runs g i e a) ≡ true) → 0 < length items
      → length (notes controls controls e ++ places) + 2 ≤ (length controls + 2 + sizes size ts activities) * length items
  scope_whole settled some =
      let own = notes_length controls controls e in
      let all = length-append (notes controls controls e) places in
      let inside = places_whole settled in
      let sum = add-mul (length controls + 2) (sizes size ts activities) (length items) in
      let once = le-mul_of_pos_right (length controls + 2) some in
      omega arith

-- ---- to any depth

pub record IsBounded (ts : List Template) (depth : ℕ) : Type 0 where
  pub each : (k : Known) (items : List (List Part)) (g : Graph) (i : Container) → Well ts depth g → Covers k items
      → length (due_in ts depth k g i) + 2 ≤ expanded_size ts depth g * (1 + length items)
  pub whole : (k : Known) (items : List (List Part)) (g : Graph) (i o : Container) → Well ts depth g → Covers k items → output ts (suc depth) k g i ≡ Some o
      → length (due_in ts depth k g i) + 2 ≤ expanded_size ts depth g * length items

-- the activities of a complete scope are settled
complete_settled : (ts : List Template) (depth : ℕ) (k : Known) (g : Graph) (i o : Container) → Well ts depth g → output ts (suc depth) k g i ≡ Some o
    → (a : ℕ) (x : Activity) → slice_get (out-Graph g).activities a ≡ Some x → is_settled (step ts k (output ts depth) g i (tree_ends ts depth k g i) a) ≡ true
complete_settled ts depth k g i o well done a x is = go (is_complete g (tree_ends ts depth k g i)) refl
  where
    no_some : None ≡ Some o → ⊥
    no_some h = cc

    go : (b : Bool) → is_complete g (tree_ends ts depth k g i) ≡ b → is_settled (step ts k (output ts depth) g i (tree_ends ts depth k g i) a) ≡ true
    go false all = absurd (no_some (rw all at done))
    go true all =
        let has = order_of ts depth g well in
        let inside = slice_get_within (out-Graph g).activities a x is in
        let settled = settled_at (tree_ends ts depth k g i) (length (out-Graph g).activities) 0 a all (omega arith) (omega arith) in
        ap is_settled (sym (step_keeps_ends ts depth k g i has.order has.flow a)) ∙ settled

pub bounds : (ts : List Template) (depth : ℕ) → IsBounded ts depth
bounds ts zero = record {
  each = λ k items g i well covers.
      let own = notes_length (out-Graph g).controls (out-Graph g).controls (tree_ends ts zero k g i) in
      let some : 0 < 1 + length items = omega arith in
      let once = le-mul_of_pos_right (length (out-Graph g).controls + 2) some in
      omega arith;
  whole = λ k items g i o well covers done.
      let own = notes_length (out-Graph g).controls (out-Graph g).controls (tree_ends ts zero k g i) in
      let some = has_items k items covers (output_given ts zero k g i o well done) in
      let once = le-mul_of_pos_right (length (out-Graph g).controls + 2) some in
      omega arith;
}
bounds ts (suc depth) = record {
  each = λ k items g i well covers.
      scope_length ts k (output ts (suc depth)) (due_in ts depth) (expanded_size ts depth) (Well ts depth) items covers
      (λ q h c ok cover. (bounds ts depth).each (at q k) (strip q items) h c ok cover)
      (λ q h c u ok cover gave. (bounds ts depth).whole (at q k) (strip q items) h c u ok cover gave)
      g well i (tree_ends ts (suc depth) k g i);
  whole = λ k items g i o well covers done.
      scope_whole ts k (output ts (suc depth)) (due_in ts depth) (expanded_size ts depth) (Well ts depth) items covers
      (λ q h c ok cover. (bounds ts depth).each (at q k) (strip q items) h c ok cover)
      (λ q h c u ok cover gave. (bounds ts depth).whole (at q k) (strip q items) h c u ok cover gave)
      g well i (tree_ends ts (suc depth) k g i)
      (complete_settled ts (suc depth) k g i o well done)
      (has_items k items covers (output_given ts (suc depth) k g i o well done));
}
