-- Scopes one step down.
use Rattle.std.proofs.Common.{◌≡◌, ℕ, zero, suc, ◌+◌, Bool, true, false, not, ◌&&◌, if◌then◌else◌, List, [], ◌∷◌, ◌++◌, length, length-append, append_assoc, Option, Some, None, refl, sym, ap, ◌∙◌, arith}
use Rattle.std.specs.Prelude.{option_map, option_and_then, slice_get, replicate, position, bytes_eq, nat_lt, ◌^◌, IfSome}
use Rattle.std.specs.List.{prefix_len, position_or_len}
use Rattle.std.proofs.lemmas.Bool.{false≢true}
use Rattle.std.proofs.lemmas.List.{reverse-append, length-replicate}
use Rattle.std.proofs.lemmas.Option.{same_Some, none-some, cond_some}
use Rattle.std.proofs.lemmas.Slice.Eq.{bytes_eq-Decides}
use Rattle.flow_model.specs.declared.graphs.Activity.{Activity}
use Rattle.flow_model.specs.declared.graphs.Container.{Container}
use Rattle.flow_model.specs.declared.graphs.Graph.{Graph, out-Graph}
use Rattle.flow_model.specs.declared.graphs.Template.{Template}
use Rattle.flow_model.specs.declared.graphs.Work.{Work, Program, Block, Process}
use Rattle.flow_model.specs.declared.instances.Fact.{Fact}
use Rattle.flow_model.specs.declared.instances.Part.{Part}
use Rattle.flow_model.specs.declared.instances.Path.{Path}
use Rattle.flow_model.specs.declared.instances.SourceEnd.TheVariants as end
use Rattle.flow_model.specs.declared.names.Name.{Name}
use Rattle.flow_model.specs.Containers.{with_return_code}
use Rattle.flow_model.specs.Fates.{is_open, is_settled}
use Rattle.flow_model.specs.Rows.{below, output_of}
use Rattle.flow_model.specs.ScopeContainers.{graph_in}
use Rattle.flow_model.specs.Scopes.{Known, Runs, at, all_of, part, gives, scope_gives, is_fed, output}
use Rattle.blocks_subprocs.specs.Ends.{ends_of}
use Rattle.certificates.specs.Told.{Opened, Placed, opened, placed, activity_at, is_active}
use Rattle.certificates.proofs.Laid.{at_some, and_then_if, cond_if, map_if, stands}
use Rattle.certificate_laws.specs.Standings.{Standing, ends_in, fate_in, gives_in, base_in, trial_in, attempt_input, input_in, step_to, step_by, step_down, scope_back, scope_in}
use Rattle.certificate_laws.proofs.Scopes.{standing_of, RightAt, right_active}

-- ---- names

stops_at : {X : Type 0} (q : X → Bool) (xs : List X) (x : X) → slice_get xs (prefix_len q xs) ≡ Some x → q x ≡ false
stops_at q [] x is = absurd (none-some x is)
stops_at {X = X} q (y ∷ ys) x is = go (q y) refl (λ h. stops_at q ys x h)
  where
    go : (b : Bool) → q y ≡ b → (slice_get ys (prefix_len q ys) ≡ Some x → q x ≡ false) → q x ≡ false
    go true e rest =
        let at_next : slice_get (y ∷ ys) (1 + prefix_len q ys) ≡ Some x = rw e at is in
        let next : 1 + prefix_len q ys ≡ suc (prefix_len q ys) = omega arith in
        rest (ap (slice_get (y ∷ ys)) (sym next) ∙ at_next)
    go false e rest = let same : y ≡ x = same_Some y x (rw e at is) in ap q (sym same) ∙ e

not_false : (b : Bool) → not b ≡ false → b ≡ true
not_false true h = refl
not_false false h = absurd (false≢true (sym h))

-- the activity of a name has this name
pub name_is : (g : Graph) (name : Name) (x : Placed) → activity_at g name ≡ Some x → x.activity.name ≡ name
name_is g name x is =
    at_some (λ (y : Placed). y.activity.name ≡ name) (activity_at g name) x is
    (and_then_if (λ (y : Placed). y.activity.name ≡ name) (placed g) (position (λ (y : Activity). bytes_eq y.name name) (out-Graph g).activities) in_place)
  where
    passes : (a : ℕ) (y : Activity) → position (λ (z : Activity). bytes_eq z.name name) (out-Graph g).activities ≡ Some a → slice_get (out-Graph g).activities a ≡ Some y → y.name ≡ name
    passes a y at_a is =
        let first = cond_some (nat_lt (position_or_len (λ (z : Activity). bytes_eq z.name name) (out-Graph g).activities) (length (out-Graph g).activities)) _ a at_a in
        (bytes_eq-Decides y.name name).0 (not_false (bytes_eq y.name name) (stops_at (λ (z : Activity). not (bytes_eq z.name name)) (out-Graph g).activities y (ap (slice_get (out-Graph g).activities) first.1 ∙ is)))

    in_place : (a : ℕ) → position (λ (y : Activity). bytes_eq y.name name) (out-Graph g).activities ≡ Some a → IfSome (placed g a) (λ (y : Placed). y.activity.name ≡ name)
    in_place a at_a =
        cond_if (λ (y : Placed). y.activity.name ≡ name) (nat_lt a (2 ^ 32)) (option_map (λ y. record { place = a; activity = y }) (slice_get (out-Graph g).activities a)) None
        (map_if (λ (y : Placed). y.activity.name ≡ name) (λ y. record { place = a; activity = y }) (slice_get (out-Graph g).activities a) (λ y is. passes a y at_a is)) tt

-- ---- one step

module _ (ts : List Template) (root : Standing) where
  pub one_down : (path : List Part) (q : Part) → scope_in ts root (path ++ q ∷ []) ≡ option_and_then (step_down ts q) (scope_in ts root path)
  one_down path q = ap (scope_back ts root) (reverse-append path (q ∷ []))

if_true : {X : Type 0} (b : Bool) (x y : X) → b ≡ true → (if b then x else y) ≡ x
if_true true x y e = refl
if_true false x y e = absurd (false≢true e)

pub none_settled : (n a : ℕ) → ends_of (replicate n end.Unsettled) a ≡ end.Unsettled
none_settled zero a = refl
none_settled (suc n) zero = refl
none_settled (suc n) (suc a) = none_settled n a

module _ (ts : List Template) (root : Standing) (facts : List Fact) (most total : ℕ) (p : Path) (s : Opened) (d : ℕ) (base : Known)
    (right : RightAt ts root facts most total p s (suc d) base) (q : Part) (x : Placed) (named : activity_at s.graph q.name ≡ Some x) where
  abbrev here : Standing
  here = standing_of (suc d) base s

  -- an attempt that starts is a scope
  pub opened_right : (h : Graph) (i : Container) → graph_in ts x.activity.work ≡ Some h → is_active s x ≡ true
      → attempt_input (suc base.most) (gives_in ts here x) (trial_in ts here x) 1 (base_in ts here x) q.attempt ≡ Some i
      → RightAt ts root facts most total (below p q) (opened h i) d (at q base)
  opened_right h i runs active input = record {
    there = one_down ts root p.parts q ∙ ap (option_and_then (step_down ts q)) right.there ∙ step;
    deep = let long = length-append p.parts (q ∷ []) in omega (arith, long, right.deep);
    well = right.well.inside x.place x.activity (stands s.graph q.name x named) h runs;
    bound = right.bound;
    given = λ rest. right.given (q ∷ rest) ∙ ap (output_of facts) (sym (append_assoc p.parts (q ∷ []) rest));
    long = length-replicate (length (out-Graph h).activities) end.Unsettled;
    ends = record { kept = λ a settled. absurd (false≢true (ap is_settled (sym (none_settled (length (out-Graph h).activities) a)) ∙ settled)) };
    output = λ out gave. absurd (none-some out gave);
  }
    where
      begins : Container → Standing
      begins j = record { depth = d; known = at q (all_of base); graph = h; input = j }

      started : input_in ts here x q.attempt ≡ Some i
      started =
          if_true (is_open (fate_in ts here x.place) && is_fed (out-Graph s.graph).lines x.place (ends_in ts here))
          (attempt_input (suc base.most) (gives_in ts here x) (trial_in ts here x) 1 (base_in ts here x) q.attempt) None
          (right_active ts (suc d) base s right.well right.ends x (stands s.graph q.name x named) active) ∙ input

      step : step_down ts q here ≡ Some (standing_of d (at q base) (opened h i))
      step =
          ap (option_and_then (step_by ts d q here)) named ∙ ap (option_and_then (step_to ts d q here x)) runs
          ∙ ap (option_map begins) started

-- ---- what a scope that has ended gave

pub record HasGiven (ts : List Template) (here : Standing) (x : Placed) (j : ℕ) (h : Graph) (i out : Container) : Type 0 where
  pub runs : graph_in ts x.activity.work ≡ Some h
  pub input : attempt_input (suc here.known.most) (gives_in ts here x) (trial_in ts here x) 1 (base_in ts here x) j ≡ Some i
  pub gave : gives_in ts here x j i ≡ Some out

-- what an attempt of a block or process activity gives
pub gives_scope : (ts : List Template) (base : Known) (runs : Runs) (name : Name) (w : Work) (h : Graph) (j : ℕ) (i : Container) → graph_in ts w ≡ Some h
    → gives ts (all_of base) runs name w j i ≡ option_map with_return_code (runs (at (part name j) (all_of base)) h i)
gives_scope ts base runs name (Program x) h j i is = absurd (none-some h is)
gives_scope ts base runs name (Block g) h j i is = ap (λ k. scope_gives (all_of base) runs k (part name j) i) is
gives_scope ts base runs name (Process k) h j i is = ap (λ k. scope_gives (all_of base) runs k (part name j) i) is

module _ (ts : List Template) (root : Standing) (facts : List Fact) (most total : ℕ) (p : Path) (s : Opened) (base : Known) (name : Name) (j : ℕ) (x : Placed) (named : activity_at s.graph name ≡ Some x)
    (last : Opened) (d' : ℕ) (base' : Known) (inner : RightAt ts root facts most total (below p (part name j)) last d' base') (out : Container) (gave : last.output ≡ Some out) where
  arrived : (d : ℕ) → RightAt ts root facts most total p s d base → step_down ts (part name j) (standing_of d base s) ≡ Some (standing_of d' base' last)
  arrived d right = sym (ap (option_and_then (step_down ts (part name j))) right.there) ∙ sym (one_down ts root p.parts (part name j)) ∙ inner.there

  pub scope_gave : (d : ℕ) → RightAt ts root facts most total p s d base → HasGiven ts (standing_of d base s) x j last.graph last.input out
  scope_gave zero right = absurd (none-some (standing_of d' base' last) (arrived zero right))
  scope_gave (suc d) right = of_graph (graph_in ts x.activity.work) refl
    where
      after_name : option_and_then (step_to ts d (part name j) (standing_of (suc d) base s) x) (graph_in ts x.activity.work) ≡ Some (standing_of d' base' last)
      after_name = sym (ap (option_and_then (step_by ts d (part name j) (standing_of (suc d) base s))) named) ∙ arrived (suc d) right

      begins : Graph → Container → Standing
      begins h i = record { depth = d; known = at (part name j) (all_of base); graph = h; input = i }

      active : Bool
      active = is_open (fate_in ts (standing_of (suc d) base s) x.place) && is_fed (out-Graph s.graph).lines x.place (ends_in ts (standing_of (suc d) base s))

      by_active : (i : Container) → (b : Bool)
          → (if b then attempt_input (suc base.most) (gives_in ts (standing_of (suc d) base s) x) (trial_in ts (standing_of (suc d) base s) x) 1 (base_in ts (standing_of (suc d) base s) x) j else None) ≡ Some i
          → attempt_input (suc base.most) (gives_in ts (standing_of (suc d) base s) x) (trial_in ts (standing_of (suc d) base s) x) 1 (base_in ts (standing_of (suc d) base s) x) j ≡ Some i
      by_active i true h = h
      by_active i false h = absurd (none-some i h)

      of_input : (h : Graph) → graph_in ts x.activity.work ≡ Some h → (r : Option Container) → input_in ts (standing_of (suc d) base s) x j ≡ r
          → option_map (begins h) r ≡ Some (standing_of d' base' last) → HasGiven ts (standing_of (suc d) base s) x j last.graph last.input out
      of_input h runs None is there = absurd (none-some (standing_of d' base' last) there)
      of_input h runs (Some i) is there =
          let same : begins h i ≡ standing_of d' base' last = same_Some (begins h i) (standing_of d' base' last) there in
          let graphs : h ≡ last.graph = ap (λ (st : Standing). st.graph) same in
          let inputs : i ≡ last.input = ap (λ (st : Standing). st.input) same in
          record {
            runs = runs ∙ ap Some graphs;
            input = by_active last.input (is_open (fate_in ts (standing_of (suc d) base s) x.place) && is_fed (out-Graph s.graph).lines x.place (ends_in ts (standing_of (suc d) base s))) (is ∙ ap Some inputs);
            gave = gives_scope ts base (output ts (suc d)) x.activity.name x.activity.work last.graph j last.input (runs ∙ ap Some graphs)
                ∙ ap (λ (n : Name). option_map with_return_code (output ts (suc d) (at (part n j) (all_of base)) last.graph last.input)) (name_is s.graph name x named)
                ∙ ap (λ (st : Standing). option_map with_return_code (output ts (suc st.depth) st.known last.graph last.input)) same
                ∙ inner.output out gave;
          }

      of_graph : (o : Option Graph) → graph_in ts x.activity.work ≡ o → HasGiven ts (standing_of (suc d) base s) x j last.graph last.input out
      of_graph None runs = absurd (none-some (standing_of d' base' last) (sym (ap (option_and_then (step_to ts d (part name j) (standing_of (suc d) base s) x)) runs) ∙ after_name))
      of_graph (Some h) runs = of_input h runs (input_in ts (standing_of (suc d) base s) x j) refl (sym (ap (option_and_then (step_to ts d (part name j) (standing_of (suc d) base s) x)) runs) ∙ after_name)
