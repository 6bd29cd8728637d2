-- What is told of one scope, and what is so of it.
use Rattle.std.proofs.Common.{◌≡◌, ℕ, suc, ◌+◌, ◌==◌, Bool, true, false, ◌&&◌, if◌then◌else◌, List, [], ◌∷◌, ◌++◌, length, map, Option, Some, None, refl, sym, ap, ◌∙◌}
use Rattle.std.specs.Prelude.{option_map, option_and_then, is_none, slice_get}
use Rattle.std.specs.List.{filter, list_any, last_or}
use Rattle.std.proofs.lemmas.Bool.{false≢true}
use Rattle.std.proofs.lemmas.Option.{same_Some, none-some}
use Rattle.flow_model.specs.declared.graphs.Activity.{Activity}
use Rattle.flow_model.specs.declared.graphs.Container.{Container}
use Rattle.flow_model.specs.declared.graphs.Control.{Control}
use Rattle.flow_model.specs.declared.graphs.Graph.{Graph, out-Graph}
use Rattle.flow_model.specs.declared.graphs.Template.{Template}
use Rattle.flow_model.specs.declared.instances.Fact.{Fact}
use Rattle.flow_model.specs.declared.instances.Fate.{Fate}
use Rattle.flow_model.specs.declared.instances.Fate.TheVariants.{Waiting, Ready, Running, Finished, Dead}
use Rattle.flow_model.specs.declared.instances.Part.{Part}
use Rattle.flow_model.specs.declared.instances.Path.{Path}
use Rattle.flow_model.specs.declared.instances.SourceEnd.TheVariants as end
use Rattle.flow_model.specs.declared.names.Name.{Name}
use Rattle.flow_model.specs.Conditions.{holds}
use Rattle.flow_model.specs.Containers.{with_return_code}
use Rattle.flow_model.specs.Fates.{Ends, is_open}
use Rattle.flow_model.specs.Rows.{output_of}
use Rattle.flow_model.specs.Scopes.{Known, all_of, is_fed, output, tree_ends, tree_fate}
use Rattle.blocks_subprocs.specs.Ends.{ends_of}
use Rattle.fate_laws.specs.Equations.{value_in, values_into, join_of, outputs_of, IsFate, IsEnd, Solves}
use Rattle.fate_laws.specs.WellFormed.{Well}
use Rattle.fate_laws.proofs.Extends.{Extends, value_kept, or_false, joined_kept, and_true, both_true}
use Rattle.fate_laws.proofs.Solutions.{fates_solve, order_of}
use Rattle.fate_laws.proofs.Steps.{LinesKept, fed_kept, base_kept}
use Rattle.certificates.specs.Told.{Opened, Placed, activity_at, join_in, is_known, joined_at, is_active, first_input}
use Rattle.certificate_laws.specs.Standings.{Standing, ends_in, fate_in, base_in, scope_in}

-- ---- joins

values_kept : (controls : List Control) (e e' : Ends) → Extends e e' → (cs : List Control) → list_any is_none (map (value_in controls e) cs) ≡ false
    → map (value_in controls e') cs ≡ map (value_in controls e) cs
values_kept controls e e' x [] known = refl
values_kept controls e e' x (c ∷ cs) known =
    let both = or_false (is_none (value_in controls e c)) _ known in
    let one : value_in controls e' c ≡ value_in controls e c = value_kept controls c (e c.from) (e' c.from) (x.kept c.from) both.0 in
    let rest = values_kept controls e e' x cs both.1 in
    rw (one, rest) refl

pub join_kept : (g : Graph) (e e' : Ends) (a : ℕ) (activity : Activity) (b : Bool) → Extends e e' → join_of g e a activity ≡ Some b → join_of g e' a activity ≡ Some b
join_kept g e e' a activity b x is =
    joined_kept activity.join (values_into (out-Graph g).controls e a) (values_into (out-Graph g).controls e' a)
    (λ known. values_kept (out-Graph g).controls e e' x (filter (λ c. c.to == a) (out-Graph g).controls) known) (ap is_none is) ∙ is

pub known_so : (b : Bool) (v : Option Bool) → is_known b v ≡ true → v ≡ Some b
known_so true None h = absurd (false≢true h)
known_so false None h = absurd (false≢true h)
known_so true (Some v) h = ap Some h
known_so false (Some true) h = absurd (false≢true h)
known_so false (Some false) h = refl

pub lines_kept : (g : Graph) (a : ℕ) (e e' : Ends) → Extends e e' → LinesKept (out-Graph g).lines a e e'
lines_kept g a e e' x = λ i d less to b from settled. x.kept b settled

-- an activity whose join is known to be so
pub joined_parts : (b : Bool) (name : Name) (s : Opened) (x : Placed) → joined_at b name s ≡ Some x → (activity_at s.graph name ≡ Some x) × (join_in s x ≡ Some b)
joined_parts b name s x is = go (activity_at s.graph name) refl is
  where
    go : (o : Option Placed) → activity_at s.graph name ≡ o → option_and_then (λ y. if is_known b (join_in s y) then Some y else None) o ≡ Some x
        → (activity_at s.graph name ≡ Some x) × (join_in s x ≡ Some b)
    go None named h = absurd (none-some x h)
    go (Some y) named h = at (is_known b (join_in s y)) refl
      where
        at : (k : Bool) → is_known b (join_in s y) ≡ k → (activity_at s.graph name ≡ Some x) × (join_in s x ≡ Some b)
        at true k =
            let same : y ≡ x = same_Some y x (rw k at h) in
            (named ∙ ap Some same, ap (join_in s) (sym same) ∙ known_so b (join_in s y) k)
        at false k = absurd (none-some x (rw k at h))

-- ---- what is right of what is told of a scope

abbrev pub standing_of : ℕ → Known → Opened → Standing
standing_of d base s = record { depth = d; known = all_of base; graph = s.graph; input = s.input }

pub record RightAt (ts : List Template) (root : Standing) (facts : List Fact) (most total : ℕ) (p : Path) (s : Opened) (d : ℕ) (base : Known) : Type 0 where
  pub there : scope_in ts root p.parts ≡ Some (standing_of d base s)
  pub deep : d + length p.parts ≡ total
  pub well : Well ts d s.graph
  pub bound : base.most ≡ most
  pub given : (r : List Part) → base.given r ≡ output_of facts (p.parts ++ r)
  pub long : length s.ends ≡ length (out-Graph s.graph).activities
  pub ends : Extends (ends_of s.ends) (ends_in ts (standing_of d base s))
  pub output : (out : Container) → s.output ≡ Some out → option_map with_return_code (output ts (suc d) (all_of base) s.graph s.input) ≡ Some out

pub record RightScope (ts : List Template) (root : Standing) (facts : List Fact) (most total : ℕ) (p : Path) (s : Opened) : Type 0 where
  pub depth : ℕ
  pub base : Known
  pub right : RightAt ts root facts most total p s depth base

module _ (ts : List Template) (d : ℕ) (k : Known) (g : Graph) (i : Container) (well : Well ts d g) where
  pub solves : Solves ts d (all_of k) g i (tree_fate ts d (all_of k) g i) (tree_ends ts d (all_of k) g i)
  solves = let has = order_of ts d g well in fates_solve ts d k g i has.order has.flow has.wired

module _ (ts : List Template) (d : ℕ) (base : Known) (s : Opened) (well : Well ts d s.graph) (ends : Extends (ends_of s.ends) (ends_in ts (standing_of d base s))) where
  abbrev st : Standing
  st = standing_of d base s

  pub right_join : (x : Placed) (b : Bool) → join_in s x ≡ Some b → join_of s.graph (ends_in ts st) x.place x.activity ≡ Some b
  right_join x b is = join_kept s.graph (ends_of s.ends) (ends_in ts st) x.place x.activity b ends is

  fate_of : (x : Placed) → slice_get (out-Graph s.graph).activities x.place ≡ Some x.activity
      → IsFate x.activity (join_of s.graph (ends_in ts st) x.place x.activity) (outputs_of ts d (all_of base) s.graph s.input (ends_in ts st) x.place x.activity) (fate_in ts st x.place)
  fate_of x is = (solves ts d base s.graph s.input well).fate x.place x.activity is

  end_of : (x : Placed) → slice_get (out-Graph s.graph).activities x.place ≡ Some x.activity
      → IsEnd (fate_in ts st x.place) (outputs_of ts d (all_of base) s.graph s.input (ends_in ts st) x.place x.activity) (ends_in ts st x.place)
  end_of x is = (solves ts d base s.graph s.input well).end x.place x.activity is

  -- an activity whose join is told to be false is dead
  pub dead_fate : (x : Placed) → slice_get (out-Graph s.graph).activities x.place ≡ Some x.activity → join_in s x ≡ Some false → fate_in ts st x.place ≡ Dead
  dead_fate x is no_join = (fate_of x is).dead.1 (right_join x false no_join)

  pub dead_end : (x : Placed) → slice_get (out-Graph s.graph).activities x.place ≡ Some x.activity → join_in s x ≡ Some false → ends_in ts st x.place ≡ end.Dead
  dead_end x is no_join = (end_of x is).dead.1 (dead_fate x is no_join)

  -- one whose join is told to be true, with these attempts, is finished
  module _ (x : Placed) (is : slice_get (out-Graph s.graph).activities x.place ≡ Some x.activity) (n : ℕ) (out : Container)
      (counted : length (outputs_of ts d (all_of base) s.graph s.input (ends_in ts st) x.place x.activity) ≡ n)
      (last : last_or None (outputs_of ts d (all_of base) s.graph s.input (ends_in ts st) x.place x.activity) ≡ Some out) (stop : holds x.activity.exit out ≡ true) where
    pub finished_fate : join_in s x ≡ Some true → fate_in ts st x.place ≡ Finished n
    finished_fate join = ((fate_of x is).finished n).1 (right_join x true join, counted, out, last, stop)

    pub finished_end : join_in s x ≡ Some true → ends_in ts st x.place ≡ end.Finished out
    finished_end join = ((end_of x is).finished out).1 (n, finished_fate join, last)

  open_join : (activity : Activity) (outs : List Container) (v : Option Bool) (f : Fate) → IsFate activity v outs f → v ≡ Some true → is_open f ≡ true
  open_join activity outs v Waiting of yes_ = let wrong : None ≡ Some true = sym (of.waiting.0 refl) ∙ yes_ in absurd (none-some true wrong)
  open_join activity outs v Dead of yes_ = let wrong : Some false ≡ Some true = sym (of.dead.0 refl) ∙ yes_ in absurd (false≢true (same_Some false true wrong))
  open_join activity outs v (Ready n) of yes_ = refl
  open_join activity outs v (Running n) of yes_ = refl
  open_join activity outs v (Finished n) of yes_ = refl

  -- attempts that are told to start, start
  pub right_active : (x : Placed) → slice_get (out-Graph s.graph).activities x.place ≡ Some x.activity → is_active s x ≡ true
      → (is_open (fate_in ts st x.place) && is_fed (out-Graph s.graph).lines x.place (ends_in ts st)) ≡ true
  right_active x is active =
      let both = and_true (is_known true (join_in s x)) _ active in
      let join = right_join x true (known_so true (join_in s x) both.0) in
      both_true _ _ (open_join x.activity _ _ (fate_in ts st x.place) (fate_of x is) join)
      (fed_kept (out-Graph s.graph).lines x.place (ends_of s.ends) (ends_in ts st) (lines_kept s.graph x.place (ends_of s.ends) (ends_in ts st) ends) both.1)

  pub right_base : (x : Placed) → is_active s x ≡ true → base_in ts st x ≡ first_input s x
  right_base x active =
      let both = and_true (is_known true (join_in s x)) _ active in
      base_kept s.graph x.activity x.place s.input (ends_of s.ends) (ends_in ts st) (lines_kept s.graph x.place (ends_of s.ends) (ends_in ts st) ends) both.1
