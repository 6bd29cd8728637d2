-- The fate of an activity of a scope that starts is shown by the rows of the root.
use Rattle.std.proofs.Common.{◌≡◌, ℕ, zero, suc, ◌+◌, ◌<◌, ◌≤◌, ◌==◌, Bool, true, false, ◌&&◌, if◌then◌else◌, List, [], ◌∷◌, length, take, Option, Some, None, refl, sym, ap, subst, ◌∙◌, arith, inl, inr}
use Rattle.std.specs.Prelude.{option_and_then, is_some, slice_get, slice_index_or, reverse}
use Rattle.std.specs.List.{All, Contains, flat_map}
use Rattle.std.proofs.lemmas.Bool.{cases_lt, false≢true}
use Rattle.std.proofs.lemmas.Bool.Decides.{eqb_tells}
use Rattle.std.proofs.lemmas.List.{reverse-append, reverse-reverse}
use Rattle.std.proofs.lemmas.List.Elements.{Contains-append_left, Contains-append_right}
use Rattle.std.proofs.lemmas.Option.{same_Some, none-some, slice_get_within, slice_get-get_or}
use Rattle.flow_model.specs.declared.graphs.Activity.{Activity}
use Rattle.flow_model.specs.declared.graphs.Container.{Container}
use Rattle.flow_model.specs.declared.graphs.Graph.{Graph, out-Graph}
use Rattle.flow_model.specs.declared.graphs.Template.{Template}
use Rattle.flow_model.specs.declared.instances.Fate.{Fate}
use Rattle.flow_model.specs.declared.instances.Fate.TheVariants as fate
use Rattle.flow_model.specs.declared.instances.FateRow.{FateRow}
use Rattle.flow_model.specs.declared.instances.Part.{Part}
use Rattle.flow_model.specs.declared.instances.Path.{Path}
use Rattle.flow_model.specs.declared.names.Name.{Name}
use Rattle.flow_model.specs.Conditions.{holds}
use Rattle.flow_model.specs.Fates.{is_open}
use Rattle.flow_model.specs.Rows.{below, rows, rows_below, rows_of}
use Rattle.flow_model.specs.ScopeContainers.{graph_in, up_to}
use Rattle.flow_model.specs.Scopes.{Known, Gives, Start, Trial, at, gives, is_fed, output, part, started_at, starts, then_start, tree_ends, tree_fate}
use Rattle.certificates.specs.declared.lines.CertLine.{CertLine}
use Rattle.certificates.specs.declared.lines.CertLine.TheVariants.{Scope, Dead, Finished, Ended}
use Rattle.certificates.specs.Told.{Basis, Told, Placed, activity_at, line_scope, next, taken}
use Rattle.certificates.specs.Justified.{told, AreJustified}
use Rattle.certificates.proofs.Laid.{stands}
use Rattle.certificate_laws.specs.Standings.{Standing, base_in, fate_in, gives_in, input_in, scope_back, scope_in, step_by, step_down, step_to, trial_in, attempt_input}
use Rattle.certificate_laws.specs.Right.{root_in, rows_in, IsRight}
use Rattle.certificate_laws.proofs.Lines.{HasFate, IsRightThere, and_then_parts, if_parts, map_parts, same}
use Rattle.certificate_laws.proofs.Steps.{name_is}

-- ---- lists

contains_flat : {X Y : Type 0} (f : X → List Y) (xs : List X) (x : X) (y : Y) → Contains xs x → Contains (f x) y → Contains (flat_map f xs) y
contains_flat f [] x y at_x there = absurd (let less = at_x.1 in omega (arith, less))
contains_flat {X = X} {Y = Y} f (z ∷ zs) x y at_x there = go at_x.0 at_x.1 at_x.2 (λ h. contains_flat f zs x y h there)
  where
    go : (k : ℕ) → k < length (z ∷ zs) → slice_index_or (z ∷ zs) k x ≡ x → (Contains zs x → Contains (flat_map f zs) y) → Contains (flat_map f (z ∷ zs)) y
    go zero less is rest = Contains-append_left (f z) (flat_map f zs) y (subst (λ w. Contains (f w) y) (sym is) there)
    go (suc k) less is rest = Contains-append_right (f z) (flat_map f zs) y (rest (k, omega arith, is))

in_up_to : (n k a : ℕ) → k ≤ a → a < n + k → Contains (up_to n k) a
in_up_to zero k a low high = absurd (omega arith)
in_up_to (suc n) k a low high = elim (cases_lt k a) [
  | inl more ↦ Contains-append_right (k ∷ []) (up_to n (k + 1)) a (in_up_to n (k + 1) a (omega arith) (omega arith))
  | inr less ↦ (0, omega arith, omega arith)
]

if_contains : {X : Type 0} (b : Bool) (xs : List X) (x : X) → b ≡ true → Contains xs x → Contains (if b then xs else []) x
if_contains true xs x e there = there
if_contains false xs x e there = absurd (false≢true e)

-- an attempt that has an input is among those that start
starts_contain : (n : ℕ) (gives : Gives) (t : Trial) (j c : ℕ) (i i' : Container) → attempt_input n gives t j i c ≡ Some i' → Contains (starts n gives t j i) (record { attempt = c; input = i' })
starts_contain zero gives t j c i i' is = absurd (none-some i' is)
starts_contain (suc n) gives t j c i i' is = go (j == c) refl is (λ o h. starts_contain n gives t (j + 1) c (t.loops o) i' h)
  where
    start : ℕ → Container → Start
    start a k = record { attempt = a; input = k }

    wanted : Start
    wanted = record { attempt = c; input = i' }

    Rest : Type 0
    Rest = (o : Container) → attempt_input n gives t (j + 1) (t.loops o) c ≡ Some i' → Contains (starts n gives t (j + 1) (t.loops o)) (record { attempt = c; input = i' })

    later : (r : Option Container) → gives j i ≡ r → option_and_then (λ out. if holds t.exit out then None else attempt_input n gives t (j + 1) (t.loops out) c) r ≡ Some i'
        → ((o : Container) → attempt_input n gives t (j + 1) (t.loops o) c ≡ Some i' → Contains (starts n gives t (j + 1) (t.loops o)) (record { attempt = c; input = i' }))
        → Contains (then_start t r (λ out. starts n gives t (j + 1) (t.loops out))) (record { attempt = c; input = i' })
    later None gave h rest = absurd (none-some i' h)
    later (Some o) gave h rest = on_exit (holds t.exit o) refl h
      where
        on_exit : (b : Bool) → holds t.exit o ≡ b → (if b then None else attempt_input n gives t (j + 1) (t.loops o) c) ≡ Some i'
            → Contains (if holds t.exit o then [] else starts n gives t (j + 1) (t.loops o)) (record { attempt = c; input = i' })
        on_exit true e h = absurd (none-some i' h)
        on_exit false e h = rw e (rest o h)

    go : (b : Bool) → (j == c) ≡ b → (if b then Some i else option_and_then (λ out. if holds t.exit out then None else attempt_input n gives t (j + 1) (t.loops out) c) (gives j i)) ≡ Some i'
        → ((o : Container) → attempt_input n gives t (j + 1) (t.loops o) c ≡ Some i' → Contains (starts n gives t (j + 1) (t.loops o)) (record { attempt = c; input = i' }))
        → Contains (starts (suc n) gives t j i) (record { attempt = c; input = i' })
    go true e h rest = (0, omega arith, ap (λ (a : ℕ). let s : Start = record { attempt = a; input = i } in s) (one_number e) ∙ ap (λ (k : Container). let s : Start = record { attempt = c; input = k } in s) (same_Some i i' h))
      where
        one_number : (j == c) ≡ true → j ≡ c
        one_number e = elim (eqb_tells j c) [ inl h ↦ h.1 | inr h ↦ absurd (false≢true (sym h.0 ∙ e)) ]
    go false e h rest =
        Contains-append_right (record { attempt = j; input = i } ∷ []) (then_start t (gives j i) (λ out. starts n gives t (j + 1) (t.loops out))) (record { attempt = c; input = i' })
        (later (gives j i) refl h rest)

-- ---- rows

module _ (ts : List Template) (k : Known) (g : Graph) (i : Container) (s : Path) (a : ℕ) (activity : Activity) (is : slice_get (out-Graph g).activities a ≡ Some activity) where
  in_range : Contains (up_to (length (out-Graph g).activities) 0) a
  in_range = in_up_to (length (out-Graph g).activities) 0 a (omega arith) (let less = slice_get_within (out-Graph g).activities a activity is in omega (arith, less))

  own : ℕ → FateRow
  own depth = record { scope = s; name = activity.name; fate = tree_fate ts depth k g i a }

  of_place : (depth : ℕ) (inner : Known → Graph → Container → Path → List FateRow) (r : FateRow) → Contains (rows_of ts depth inner k g i s a (Some activity)) r
      → Contains (flat_map (λ c. rows_of ts depth inner k g i s c (slice_get (out-Graph g).activities c)) (up_to (length (out-Graph g).activities) 0)) r
  of_place depth inner r there =
      contains_flat (λ c. rows_of ts depth inner k g i s c (slice_get (out-Graph g).activities c)) (up_to (length (out-Graph g).activities) 0) a r in_range
      (subst (λ o. Contains (rows_of ts depth inner k g i s a o) r) (sym is) there)

  -- an activity has a row
  pub own_row : (depth : ℕ) → Contains (rows ts depth k g i s) (record { scope = s; name = activity.name; fate = tree_fate ts depth k g i a })
  own_row zero = of_place zero (λ k' h j p. []) (record { scope = s; name = activity.name; fate = tree_fate ts zero k g i a }) (0, omega arith, refl)
  own_row (suc depth) = of_place (suc depth) (rows ts depth) (record { scope = s; name = activity.name; fate = tree_fate ts (suc depth) k g i a }) (0, omega arith, refl)

  -- so has what is shown below an attempt that starts
  pub row_below : (depth c : ℕ) (h : Graph) (i' : Container) (r : FateRow) → graph_in ts activity.work ≡ Some h
      → Contains (started_at ts k (output ts (suc depth)) g i (tree_ends ts (suc depth) k g i) a activity) (record { attempt = c; input = i' })
      → Contains (rows ts depth (at (part activity.name c) k) h i' (below s (part activity.name c))) r → Contains (rows ts (suc depth) k g i s) r
  row_below depth c h i' r runs started there =
      of_place (suc depth) (rows ts depth) r
      (Contains-append_right (record { scope = s; name = activity.name; fate = tree_fate ts (suc depth) k g i a } ∷ [])
      (rows_below (rows ts depth) k activity (graph_in ts activity.work) (started_at ts k (output ts (suc depth)) g i (tree_ends ts (suc depth) k g i) a activity) s) r
      (subst (λ o. Contains (rows_below (rows ts depth) k activity o (started_at ts k (output ts (suc depth)) g i (tree_ends ts (suc depth) k g i) a activity) s) r) (sym runs)
      (contains_flat (λ (start : Start). rows ts depth (at (part activity.name start.attempt) k) h start.input (below s (part activity.name start.attempt)))
      (started_at ts k (output ts (suc depth)) g i (tree_ends ts (suc depth) k g i) a activity) (record { attempt = c; input = i' }) r started there)))

-- ---- scopes

-- what is shown of a scope
abbrev pub shown_in : List Template → Standing → Path → List FateRow
shown_in ts st s = rows ts st.depth st.known st.graph st.input s

-- the path whose last step comes first
abbrev pub path_back : ℕ → List Part → Path
path_back root [] = record { root = root; parts = [] }
path_back root (q ∷ qs) = below (path_back root qs) q

module _ (ts : List Template) (s : Path) (q : Part) (r : FateRow) where
  -- what is shown one step down is shown
  step_shown : (d : ℕ) (k : Known) (g : Graph) (i : Container) (st : Standing) → step_down ts q (record { depth = d; known = k; graph = g; input = i }) ≡ Some st
      → Contains (shown_in ts st (below s q)) r → Contains (rows ts d k g i s) r
  step_shown zero k g i st is there = absurd (none-some st is)
  step_shown (suc d) k g i st is there =
      let here : Standing = record { depth = suc d; known = k; graph = g; input = i } in
      let a = and_then_parts (step_by ts d q (record { depth = suc d; known = k; graph = g; input = i })) (activity_at g q.name) st is in
      let c = and_then_parts (step_to ts d q (record { depth = suc d; known = k; graph = g; input = i }) a.0) (graph_in ts a.0.activity.work) st a.2 in
      let e = map_parts (λ (j : Container). begins c.0 j) (input_in ts (record { depth = suc d; known = k; graph = g; input = i }) a.0 q.attempt) st c.2 in
      let f = if_parts (is_open (tree_fate ts (suc d) k g i a.0.place) && is_fed (out-Graph g).lines a.0.place (tree_ends ts (suc d) k g i)) (attempt_input (suc k.most) (gives_in ts (record { depth = suc d; known = k; graph = g; input = i }) a.0) (trial_in ts (record { depth = suc d; known = k; graph = g; input = i }) a.0) 1 (base_in ts (record { depth = suc d; known = k; graph = g; input = i }) a.0) q.attempt) e.0 e.1 in
      let named : a.0.activity.name ≡ q.name = name_is g q.name a.0 a.1 in
      row_below ts k g i s a.0.place a.0.activity (stands g q.name a.0 a.1) d q.attempt c.0 e.0 r c.1
      (if_contains _ _ _ f.0 (starts_contain (suc k.most) (gives_in ts (record { depth = suc d; known = k; graph = g; input = i }) a.0) (trial_in ts (record { depth = suc d; known = k; graph = g; input = i }) a.0) 1 q.attempt (base_in ts (record { depth = suc d; known = k; graph = g; input = i }) a.0) e.0 f.1))
      (subst (λ (n : Name). Contains (rows ts d (at (part n q.attempt) k) c.0 e.0 (below s (part n q.attempt))) r) (sym named)
      (subst (λ (u : Standing). Contains (shown_in ts u (below s q)) r) (sym e.2) there))
    where
      begins : Graph → Container → Standing
      begins h j = record { depth = d; known = at q k; graph = h; input = j }

module _ (ts : List Template) (root : Standing) (number : ℕ) (r : FateRow) where
  back_shown : (qs : List Part) (st : Standing) → scope_back ts root qs ≡ Some st → Contains (shown_in ts st (path_back number qs)) r → Contains (shown_in ts root (record { root = number; parts = [] })) r
  back_shown [] st is there = subst (λ (u : Standing). Contains (shown_in ts u (record { root = number; parts = [] })) r) (sym (same_Some root st is)) there
  back_shown (q ∷ qs) st is there =
      let a = and_then_parts (step_down ts q) (scope_back ts root qs) st is in
      back_shown qs a.0 a.1 (step_shown ts (path_back number qs) q r a.0.depth a.0.known a.0.graph a.0.input st a.2 there)

path_of_back : (number : ℕ) (qs : List Part) → path_back number qs ≡ record { root = number; parts = reverse qs }
path_of_back number [] = refl
path_of_back number (q ∷ qs) =
    ap (λ (p : Path). below p q) (path_of_back number qs)
    ∙ ap (λ (l : List Part). let p : Path = record { root = number; parts = l } in p) (sym (reverse-append (q ∷ []) qs))

abbrev row : ℕ → List Part → Name → Fate → FateRow
row number path name f = record { scope = record { root = number; parts = path }; name = name; fate = f }

-- the fate of an activity of a scope at a path is shown
pub fate_shown : (ts : List Template) (root st : Standing) (number : ℕ) (path : List Part) (x : Placed) (name : Name) → scope_in ts root path ≡ Some st → activity_at st.graph name ≡ Some x
    → Contains (shown_in ts root (record { root = number; parts = [] })) (row number path name (fate_in ts st x.place))
fate_shown ts root st number path x name is named =
    back_shown ts root number (row number path name (fate_in ts st x.place)) (reverse path) st is
    (subst (λ (p : Path). Contains (shown_in ts st p) (row number path name (fate_in ts st x.place))) (sym path_there) here)
  where
    path_there : path_back number (reverse path) ≡ record { root = number; parts = path }
    path_there = path_of_back number (reverse path) ∙ ap (λ (l : List Part). let p : Path = record { root = number; parts = l } in p) (reverse-reverse path)

    here : Contains (shown_in ts st (record { root = number; parts = path })) (row number path name (fate_in ts st x.place))
    here =
        subst (λ (n : Name). Contains (shown_in ts st (record { root = number; parts = path })) (row number path n (fate_in ts st x.place))) (name_is st.graph name x named)
        (own_row ts st.known st.graph st.input (record { root = number; parts = path }) x.place x.activity (stands st.graph name x named) st.depth)

-- ---- lines

module _ (b : Basis) (g : Graph) (depth most : ℕ) where
  has_row : (p : Path) (name : Name) (f : Fate) → p.root ≡ b.root → HasFate b.templates (root_in b g depth most) p.parts name f → Contains (rows_in b g depth most) (record { scope = p; name = name; fate = f })
  has_row p name f rooted h =
      subst (λ (k : Fate). Contains (rows_in b g depth most) (record { scope = p; name = name; fate = k })) h.fate
      (subst (λ (n : ℕ). Contains (rows_in b g depth most) (row n p.parts name (fate_in b.templates h.scope h.activity.place))) (sym rooted)
      (fate_shown b.templates (root_in b g depth most) h.scope b.root p.parts h.activity name h.there h.named))

  right_shown : (line : CertLine) → (line_scope line).root ≡ b.root → IsRightThere b.templates (root_in b g depth most) line → IsRight b g depth most line
  right_shown (Scope p) rooted h = h
  right_shown (Dead p name) rooted h = has_row p name fate.Dead rooted h
  right_shown (Finished p name n) rooted h = has_row p name (fate.Finished n) rooted h
  right_shown (Ended p) rooted h = h

  own_line : (t : Told) (line : CertLine) → is_some (taken b t line) ≡ true → (line_scope line).root ≡ b.root
  own_line t line is = go ((line_scope line).root == b.root) refl is
    where
      go : (c : Bool) → ((line_scope line).root == b.root) ≡ c → is_some (if c then next b t line else None) ≡ true → (line_scope line).root ≡ b.root
      go false e h = absurd (false≢true h)
      go true e h = same (line_scope line).root b.root e

  -- where each line is right of the scope at its path, its row is shown
  pub all_shown : (lines : List CertLine) → AreJustified b lines (length lines) → All (IsRightThere b.templates (root_in b g depth most)) lines → All (IsRight b g depth most) lines
  all_shown lines justified right k d less =
      right_shown (slice_index_or lines k d) (own_line (told b (take k lines)) (slice_index_or lines k d) (justified k (slice_index_or lines k d) less (slice_get-get_or lines k d less))) (right k d less)
