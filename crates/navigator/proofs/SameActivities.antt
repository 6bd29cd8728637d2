-- An activity is as before where its values and what its attempts give are, and what feeds it stays.
use Rattle.std.proofs.Common.{◌≡◌, ℕ, zero, suc, ◌+◌, ◌<◌, ◌≤◌, Bool, true, false, List, [], ◌∷◌, length, Option, Some, None, refl, ap, sym, ◌∙◌, arith, inl, inr}
use Rattle.std.specs.Prelude.{if◌then◌else◌, slice_get, bytes_eq, is_none, nat_lt}
use Rattle.std.specs.List.{position_or_len}
use Rattle.std.proofs.Math.Path.{fun_ext}
use Rattle.std.proofs.lemmas.Bool.{cases_lt}
use Rattle.std.proofs.lemmas.Bool.Decides.{nat_tests}
use Rattle.std.proofs.lemmas.Option.{slice_get_past, slice_get_within}
use Rattle.std.proofs.lemmas.Slice.Eq.{bytes_eq-Decides}
use Rattle.fate_laws.proofs.Extends.{Extends}
use Rattle.fate_laws.proofs.Solutions.{step_keeps_ends, only_ends, order_of}
use Rattle.fate_laws.proofs.Stays.{unsettled_past}
use Rattle.fate_laws.proofs.Steps.{LinesKept, fed_kept, base_kept}
use Rattle.fate_laws.specs.WellFormed.{AreSimple, Well}
use Rattle.flow_model.specs.Fates.{Ends, joined, fate_by, ended, is_open}
use Rattle.flow_model.specs.ScopeContainers.{base_of}
use Rattle.flow_model.specs.Scopes.{Known, Runs, tries, starts, gives, is_fed, trial, values_at, attempts, attempts_at, fate_given, step, started_at, output, tree_ends}
use Rattle.flow_model.specs.declared.graphs.Activity.{Activity}
use Rattle.flow_model.specs.declared.graphs.Container.{Container}
use Rattle.flow_model.specs.declared.graphs.Graph.{Graph, out-Graph}
use Rattle.flow_model.specs.declared.graphs.Template.{Template}
use Rattle.flow_model.specs.declared.instances.Fate.{Fate}
use Rattle.flow_model.specs.declared.instances.Fate.TheVariants.{Waiting}
use Rattle.flow_model.specs.declared.instances.SourceEnd.TheVariants.{Unsettled}
use Rattle.flow_model.specs.declared.names.Name.{Name}
use Rattle.navigator.specs.Reading.{place_of}

-- ---- what a graph has that is well at any depth

-- no two activities have one name
abbrev pub Named : Graph → Type 0
Named g = (a b : ℕ) (x y : Activity) → slice_get (out-Graph g).activities a ≡ Some x → slice_get (out-Graph g).activities b ≡ Some y → x.name ≡ y.name → a ≡ b

pub named_of : (ts : List Template) (depth : ℕ) (g : Graph) → Well ts depth g → Named g
named_of ts zero g well = well.named
named_of ts (suc depth) g well = well.named

pub simple_of : (ts : List Template) (depth : ℕ) (g : Graph) → Well ts depth g → AreSimple (out-Graph g).controls
simple_of ts zero g well = well.simple
simple_of ts (suc depth) g well = well.simple

-- ---- ends by steps

pub step_is : (ts : List Template) (depth : ℕ) (k : Known) (g : Graph) (input : Container) → Well ts depth g → (a : ℕ)
    → tree_ends ts depth k g input a ≡ step ts k (output ts depth) g input (tree_ends ts depth k g input) a
step_is ts depth k g input well a =
    let order = order_of ts depth g well in
    step_keeps_ends ts depth k g input order.order order.flow a

-- only the ends of a scope are kept by a step
pub ends_by_steps : (ts : List Template) (depth : ℕ) (k : Known) (g : Graph) (input : Container) → Well ts depth g → (E : Ends)
    → ((a : ℕ) → E a ≡ step ts k (output ts depth) g input E a) → tree_ends ts depth k g input ≡ E
ends_by_steps ts depth k g input well E solves = fun_ext (λ a. sym (each a))
  where
    waits : (b : Bool) → (if b then Waiting else Waiting) ≡ Waiting
    waits true = refl
    waits false = refl

    past : (a : ℕ) → length (out-Graph g).activities ≤ a → step ts k (output ts depth) g input E a ≡ Unsettled
    past a outside = rw (slice_get_past (out-Graph g).activities a outside, waits (k.begun [])) refl

    each : (a : ℕ) → E a ≡ tree_ends ts depth k g input a
    each a = elim (cases_lt a (length (out-Graph g).activities)) [
      | inl inside ↦
          let order = order_of ts depth g well in
          only_ends ts depth k g input order.order order.flow E (λ b within. solves b) a inside
      | inr outside ↦ solves a ∙ past a outside ∙ sym (unsettled_past ts k (output ts depth) g input (length (out-Graph g).activities) a outside)
    ]

-- ---- one activity

-- by k' and E an activity is as by k and e
pub record IsSameActivity (ts : List Template) (k k' : Known) (runs : Runs) (g : Graph) (input : Container) (e E : Ends) (x : ℕ) (activity : Activity) : Type 0 where
  pub fate : fate_given ts k' runs g input E x ≡ fate_given ts k runs g input e x
  pub outputs : is_open (fate_given ts k runs g input e x) ≡ true → attempts ts k' runs g input E x ≡ attempts ts k runs g input e x
  pub starts : started_at ts k' runs g input E x activity ≡ started_at ts k runs g input e x activity
  pub end : step ts k' runs g input E x ≡ step ts k runs g input e x

-- without its outputs nothing is known of an activity that isn't open
pub record IsAlike (f f' : Fate) (os os' : List Container) : Type 0 where
  pub fate : f' ≡ f
  pub outputs : is_open f ≡ true → os' ≡ os
  pub end : ended f' os' ≡ ended f os

alike : (activity : Activity) (v : Option Bool) (os os' : List Container) → (is_none v ≡ false → os' ≡ os) → IsAlike (fate_by activity v os) (fate_by activity v os') os os'
alike activity None os os' same = record { fate = refl; outputs = λ is. cc; end = refl }
alike activity (Some v) os os' same = rw (same refl) (record { fate = refl; outputs = λ is. refl; end = refl })

-- what is open has a join that is known
pub known_open : (activity : Activity) (v : Option Bool) (os : List Container) → is_open (fate_by activity v os) ≡ true → is_none v ≡ false
known_open activity None os is = cc
known_open activity (Some v) os is = refl

module _ (ts : List Template) (k k' : Known) (runs : Runs) (g : Graph) (input : Container) (e E : Ends) (x : ℕ) (activity : Activity)
    (there : slice_get (out-Graph g).activities x ≡ Some activity)
    (begun : k'.begun [] ≡ k.begun []) (most : k'.most ≡ k.most)
    (values : values_at k' (out-Graph g).controls E x ≡ values_at k (out-Graph g).controls e x)
    (same : gives ts k' runs activity.name activity.work ≡ gives ts k runs activity.name activity.work)
    (fed : is_none (joined activity.join (values_at k (out-Graph g).controls e x)) ≡ false → is_fed (out-Graph g).lines x e ≡ true)
    (extends : Extends e E) where
  abbrev join : Option Bool
  join = joined activity.join (values_at k (out-Graph g).controls e x)

  lines : LinesKept (out-Graph g).lines x e E
  lines = λ i d less to b from s. extends.kept b s

  base : is_none join ≡ false → base_of g activity x input E ≡ base_of g activity x input e
  base known = base_kept g activity x input e E lines (fed known)

  fed_then : is_none join ≡ false → is_fed (out-Graph g).lines x E ≡ true
  fed_then known = fed_kept (out-Graph g).lines x e E lines (fed known)

  outputs_same : is_none join ≡ false → attempts_at ts k' runs g input E x (Some activity) ≡ attempts_at ts k runs g input e x (Some activity)
  outputs_same known =
      rw (fed_then known, fed known, base known)
      (ap (λ n. tries n (gives ts k' runs activity.name activity.work) (trial g x activity (base_of g activity x input e)) 1 (base_of g activity x input e)) most
      ∙ ap (λ give. tries k.most give (trial g x activity (base_of g activity x input e)) 1 (base_of g activity x input e)) same)

  starts_same : is_none join ≡ false
      → starts (suc k'.most) (gives ts k' runs activity.name activity.work) (trial g x activity (base_of g activity x input E)) 1 (base_of g activity x input E)
      ≡ starts (suc k.most) (gives ts k runs activity.name activity.work) (trial g x activity (base_of g activity x input e)) 1 (base_of g activity x input e)
  starts_same known =
      rw (base known)
      (ap (λ n. starts (suc n) (gives ts k' runs activity.name activity.work) (trial g x activity (base_of g activity x input e)) 1 (base_of g activity x input e)) most
      ∙ ap (λ give. starts (suc k.most) give (trial g x activity (base_of g activity x input e)) 1 (base_of g activity x input e)) same)

  abbrev Same : Type 0
  Same = IsSameActivity ts k k' runs g input e E x activity

  unbegun : k.begun [] ≡ false → Same
  unbegun none =
      let none' = begun ∙ none in
      record {
        fate = rw (none, none') refl;
        outputs = λ is. let never : false ≡ true = rw none at is in cc;
        starts = rw (none, none') refl;
        end = rw (none, none') refl;
      }

  begun_same : k.begun [] ≡ true → Same
  begun_same now =
      let now' = begun ∙ now in
      let two = alike activity join (attempts_at ts k runs g input e x (Some activity)) (attempts_at ts k' runs g input E x (Some activity)) outputs_same in
      let old : fate_given ts k runs g input e x ≡ fate_by activity join (attempts_at ts k runs g input e x (Some activity)) = rw (now, there) refl in
      let new : fate_given ts k' runs g input E x ≡ fate_by activity join (attempts_at ts k' runs g input E x (Some activity)) = rw (now', there, values) refl in
      let fate : fate_given ts k' runs g input E x ≡ fate_given ts k runs g input e x = new ∙ two.fate ∙ sym old in
      record {
        fate = fate;
        outputs = λ is. rw there (two.outputs (rw old at is));
        starts = started (is_open (fate_given ts k runs g input e x)) refl fate old;
        end = ap (λ f. ended f (attempts ts k' runs g input E x)) new ∙ rw there (two.end) ∙ ap (λ f. ended f (attempts ts k runs g input e x)) (sym old);
      }
    where
      started : (b : Bool) → is_open (fate_given ts k runs g input e x) ≡ b → fate_given ts k' runs g input E x ≡ fate_given ts k runs g input e x
          → fate_given ts k runs g input e x ≡ fate_by activity join (attempts_at ts k runs g input e x (Some activity))
          → started_at ts k' runs g input E x activity ≡ started_at ts k runs g input e x activity
      started false is fate old =
          let none : is_open (fate_given ts k' runs g input E x) ≡ false = ap is_open fate ∙ is in
          rw (is, none) refl
      started true is fate old =
          let some : is_open (fate_given ts k' runs g input E x) ≡ true = ap is_open fate ∙ is in
          let known = known_open activity join (attempts_at ts k runs g input e x (Some activity)) (ap is_open (sym old) ∙ is) in
          rw (is, some, fed known, fed_then known) (starts_same known)

  pub same_activity : Same
  same_activity = go (k.begun []) refl
    where
      go : (b : Bool) → k.begun [] ≡ b → Same
      go false none = unbegun none
      go true now = begun_same now

-- ---- names

first_place : (name : Name) (list : List Activity) (a : ℕ) (activity : Activity) → slice_get list a ≡ Some activity → activity.name ≡ name
    → ((b : ℕ) (x : Activity) → slice_get list b ≡ Some x → x.name ≡ name → b ≡ a) → position_or_len (λ x. bytes_eq x.name name) list ≡ a
first_place name [] a activity at is only = let never : None ≡ Some activity = at in cc
first_place name (x ∷ xs) zero activity at is only =
    let same : x ≡ activity = cc in
    let hit : bytes_eq x.name name ≡ true = (bytes_eq-Decides x.name name).1 (ap (λ (y : Activity). y.name) same ∙ is) in
    rw hit refl
first_place name (x ∷ xs) (suc a) activity at is only =
    go (bytes_eq x.name name) refl
    (first_place name xs a activity at is (λ b y there same. let e : suc b ≡ suc a = only (suc b) y there same in let f : b ≡ a = omega arith in f))
  where
    go : (b : Bool) → bytes_eq x.name name ≡ b → position_or_len (λ y. bytes_eq y.name name) xs ≡ a → position_or_len (λ y. bytes_eq y.name name) (x ∷ xs) ≡ suc a
    go true hit rest = let e : zero ≡ suc a = only zero x refl ((bytes_eq-Decides x.name name).0 hit) in absurd (omega arith)
    go false hit rest = let e : 1 + a ≡ suc a = omega arith in rw hit (ap (λ n. 1 + n) rest ∙ e)

-- an activity stands where its name leads
pub place_found : (g : Graph) (a : ℕ) (activity : Activity) → Named g → slice_get (out-Graph g).activities a ≡ Some activity → place_of g activity.name ≡ Some a
place_found g a activity named at =
    let first = first_place activity.name (out-Graph g).activities a activity at refl (λ b x there same. named b a x activity there at same) in
    let less : a < length (out-Graph g).activities = slice_get_within (out-Graph g).activities a activity at in
    let within : nat_lt a (length (out-Graph g).activities) ≡ true = grind (arith, nat_tests) in
    rw first (rw within refl)
