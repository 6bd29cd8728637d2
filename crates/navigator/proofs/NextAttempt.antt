-- The view of one activity before and after its last attempt gives an output.
use Rattle.std.proofs.Common.{◌≡◌, ℕ, suc, ◌+◌, ◌≤◌, Bool, true, false, List, [], ◌∷◌, ◌++◌, length, Option, Some, None, cond, refl, ap, sym, ◌∙◌, arith, length-append}
use Rattle.std.specs.Prelude.{slice_get}
use Rattle.std.specs.List.{last_or}
use Rattle.fate_laws.proofs.Attempts.{closed}
use Rattle.fate_laws.proofs.Extends.{Extends}
use Rattle.fate_laws.proofs.Steps.{LinesKept, fed_kept, base_kept}
use Rattle.fate_laws.specs.StartedScopes.{Reaches}
use Rattle.flow_model.specs.Conditions.{holds}
use Rattle.flow_model.specs.Fates.{Ends, joined, goes_on, fate_by, tried, ended, is_open}
use Rattle.flow_model.specs.ScopeContainers.{base_of}
use Rattle.flow_model.specs.Scopes.{Known, Runs, Gives, tries, starts, gives, is_fed, trial, values_at, attempts, attempts_at, fate_given, step, started_at}
use Rattle.flow_model.specs.declared.graphs.Activity.{Activity}
use Rattle.flow_model.specs.declared.graphs.Container.{Container}
use Rattle.flow_model.specs.declared.graphs.Graph.{Graph, out-Graph}
use Rattle.flow_model.specs.declared.graphs.Template.{Template}
use Rattle.flow_model.specs.declared.graphs.Work.{Work, Program as RunsProgram, Block, Process}
use Rattle.flow_model.specs.declared.instances.Fate.{Fate}
use Rattle.flow_model.specs.declared.instances.Fate.TheVariants.{Ready, Finished}
use Rattle.flow_model.specs.declared.instances.SourceEnd.{SourceEnd}
use Rattle.flow_model.specs.declared.instances.SourceEnd.TheVariants as end
use Rattle.navigator.proofs.MoreAttempts.{GivesMore, IsLonger, longer, next_start}

no_end : false ≡ true → ⊥
no_end h = cc

-- ---- the fate by the outputs

last_one : (o : Option Container) (xs : List Container) (y : Container) → last_or o (xs ++ y ∷ []) ≡ Some y
last_one o [] y = refl
last_one o (x ∷ xs) y = last_one (Some x) xs y

some_last : (x : Container) (xs : List Container) → (y : Container) × (last_or (Some x) xs ≡ Some y)
some_last x [] = (x, refl)
some_last x (y ∷ ys) = some_last y ys

going : (activity : Activity) (outs : List Container) → closed activity.exit outs ≡ false → fate_by activity (Some true) outs ≡ goes_on activity.work (length outs + 1)
going activity [] goes = refl
going activity (x ∷ xs) goes = let last = some_last x xs in let fails : holds activity.exit last.0 ≡ false = rw last.1 at goes in rw (last.1, fails) refl

-- the fate after attempt c gave this
abbrev pub fate_then : Activity → ℕ → Container → Fate
fate_then activity c out = cond (holds activity.exit out) (Finished c) (goes_on activity.work (c + 1))

-- how the activity has ended then
abbrev pub end_then : Activity → Container → SourceEnd
end_then activity out = cond (holds activity.exit out) (end.Finished out) end.Unsettled

one_longer : (outs : List Container) (out : Container) → length (outs ++ out ∷ []) ≡ length outs + 1
one_longer outs out = let e = length-append outs (out ∷ []) in omega (arith, e)

then_fate : (activity : Activity) (outs : List Container) (out : Container) (c : ℕ) → length outs + 1 ≡ c → fate_by activity (Some true) (outs ++ out ∷ []) ≡ fate_then activity c out
then_fate activity outs out c counted =
    ap (tried activity (length (outs ++ out ∷ []))) (last_one None outs out)
    ∙ ap (λ n. tried activity n (Some out)) (one_longer outs out ∙ counted)

open_end : (w : Work) (n : ℕ) (outs : List Container) → ended (goes_on w n) outs ≡ end.Unsettled
open_end (RunsProgram p) n outs = refl
open_end (Block g) n outs = refl
open_end (Process t) n outs = refl

open_fate : (w : Work) (n : ℕ) → is_open (goes_on w n) ≡ true
open_fate (RunsProgram p) n = refl
open_fate (Block g) n = refl
open_fate (Process t) n = refl

finished_end : (n : ℕ) (outs : List Container) (out : Container) → last_or None outs ≡ Some out → ended (Finished n) outs ≡ end.Finished out
finished_end n outs out last = rw last refl

then_end : (activity : Activity) (outs : List Container) (out : Container) (c : ℕ) → ended (fate_then activity c out) (outs ++ out ∷ []) ≡ end_then activity out
then_end activity outs out c = go (holds activity.exit out)
  where
    go : (b : Bool) → ended (cond b (Finished c) (goes_on activity.work (c + 1))) (outs ++ out ∷ []) ≡ cond b (end.Finished out) end.Unsettled
    go true = finished_end c (outs ++ out ∷ []) out (last_one None outs out)
    go false = open_end activity.work (c + 1) (outs ++ out ∷ [])

then_open : (activity : Activity) (out : Container) (c : ℕ) → is_open (fate_then activity c out) ≡ true
then_open activity out c = go (holds activity.exit out)
  where
    go : (b : Bool) → is_open (cond b (Finished c) (goes_on activity.work (c + 1))) ≡ true
    go true = refl
    go false = open_fate activity.work (c + 1)

-- a join is true where the activity is open
open_join : (activity : Activity) (v : Option Bool) (outs : List Container) → is_open (fate_by activity v outs) ≡ true → v ≡ Some true
open_join activity None outs is = absurd (no_end is)
open_join activity (Some true) outs is = refl
open_join activity (Some false) outs is = absurd (no_end is)

ready_number : (w : Work) (n c : ℕ) → goes_on w n ≡ Ready c → n ≡ c
ready_number (RunsProgram p) n c is = cc
ready_number (Block g) n c is = let never : ⊥ = cc in absurd never
ready_number (Process t) n c is = let never : ⊥ = cc in absurd never

-- an activity whose attempt c is ready goes on, and has tried all before it
pub record IsReadyNext (activity : Activity) (outs : List Container) (c : ℕ) : Type 0 where
  pub goes : closed activity.exit outs ≡ false
  pub count : length outs + 1 ≡ c

-- so it is where the fate says so
pub ready_next : (activity : Activity) (outs : List Container) (c : ℕ) → fate_by activity (Some true) outs ≡ Ready c → IsReadyNext activity outs c
ready_next activity [] c is = record { goes = refl; count = ready_number activity.work 1 c is }
ready_next activity (x ∷ xs) c is =
    let last = some_last x xs in
    go last.0 last.1 (holds activity.exit last.0) refl (rw last.1 at is)
  where
    go : (y : Container) → last_or (Some x) xs ≡ Some y → (b : Bool) → holds activity.exit y ≡ b
        → cond (holds activity.exit y) (Finished (length (x ∷ xs))) (goes_on activity.work (length (x ∷ xs) + 1)) ≡ Ready c → IsReadyNext activity (x ∷ xs) c
    go y last true exits is = let never : Finished (length (x ∷ xs)) ≡ Ready c = rw exits at is in let wrong : ⊥ = cc in absurd wrong
    go y last false exits is =
        let next : goes_on activity.work (length (x ∷ xs) + 1) ≡ Ready c = rw exits at is in
        record { goes = rw last exits; count = ready_number activity.work (length (x ∷ xs) + 1) c next }

-- ---- the activity

-- its view before and after attempt c gives this
pub record IsNextAttempt (ts : List Template) (k k' : Known) (runs : Runs) (g : Graph) (input : Container) (e E : Ends) (a : ℕ) (activity : Activity) (c : ℕ) (out : Container) : Type 0 where
  pub fate : fate_given ts k runs g input e a ≡ goes_on activity.work c
  pub fate_next : fate_given ts k' runs g input E a ≡ fate_then activity c out
  pub outputs : attempts ts k' runs g input E a ≡ attempts ts k runs g input e a ++ out ∷ []
  pub count : length (attempts ts k runs g input e a) + 1 ≡ c
  pub starts : started_at ts k' runs g input E a activity
      ≡ started_at ts k runs g input e a activity ++ next_start (trial g a activity (base_of g activity a input e)) c out
  pub started : length (started_at ts k runs g input e a activity) ≡ c
  pub end_next : step ts k' runs g input E a ≡ end_then activity out

-- what is known of an activity that is open
pub record IsOpened (ts : List Template) (k : Known) (runs : Runs) (g : Graph) (input : Container) (e : Ends) (a : ℕ) (activity : Activity) : Type 0 where
  pub begun : k.begun [] ≡ true
  pub join : joined activity.join (values_at k (out-Graph g).controls e a) ≡ Some true

-- so it is where the fate is that of an open activity
pub opened_is : (ts : List Template) (k : Known) (runs : Runs) (g : Graph) (input : Container) (e : Ends) (a : ℕ) (activity : Activity)
    → slice_get (out-Graph g).activities a ≡ Some activity → is_open (fate_given ts k runs g input e a) ≡ true → IsOpened ts k runs g input e a activity
opened_is ts k runs g input e a activity there opened = go (k.begun []) refl
  where
    go : (b : Bool) → k.begun [] ≡ b → IsOpened ts k runs g input e a activity
    go false none = let never : false ≡ true = rw none at opened in absurd (no_end never)
    go true now = record { begun = now; join = open_join activity _ _ (rw (now, there) at opened) }

module _ (ts : List Template) (k k' : Known) (runs : Runs) (g : Graph) (input : Container) (e : Ends) (a : ℕ) (activity : Activity) (c : ℕ) (x out : Container)
    (there : slice_get (out-Graph g).activities a ≡ Some activity)
    (begun : k'.begun [] ≡ k.begun []) (most : k'.most ≡ k.most)
    (opened : IsOpened ts k runs g input e a activity)
    (fed : is_fed (out-Graph g).lines a e ≡ true) (within : c ≤ k.most)
    (more : GivesMore (gives ts k runs activity.name activity.work) (gives ts k' runs activity.name activity.work) c x out)
    (reach : Reaches (suc k.most) (gives ts k runs activity.name activity.work) (trial g a activity (base_of g activity a input e)) 1 (base_of g activity a input e) c x) where
  abbrev base : Container
  base = base_of g activity a input e

  abbrev give : Gives
  give = gives ts k runs activity.name activity.work

  abbrev give' : Gives
  give' = gives ts k' runs activity.name activity.work

  abbrev tried_before : List Container
  tried_before = tries k.most give (trial g a activity base) 1 base

  long : IsLonger k.most give give' (trial g a activity base) 1 base c out
  long = longer give give' (trial g a activity base) c x out more k.most 1 base reach (omega arith)

  before : attempts ts k runs g input e a ≡ tried_before
  before = rw (there, fed) refl

  fate_before : fate_given ts k runs g input e a ≡ goes_on activity.work c
  fate_before =
      let counted = long.tried in
      rw (opened.begun, there) (rw (opened.join, fed) (going activity tried_before long.goes ∙ ap (goes_on activity.work) counted))

  starts_before : started_at ts k runs g input e a activity ≡ starts (suc k.most) give (trial g a activity base) 1 base
  starts_before = let is : is_open (fate_given ts k runs g input e a) ≡ true = ap is_open fate_before ∙ open_fate activity.work c in rw (is, fed) refl

  -- it isn't settled before
  pub open_before : step ts k runs g input e a ≡ end.Unsettled
  open_before = ap (λ f. ended f (attempts ts k runs g input e a)) fate_before ∙ open_end activity.work c (attempts ts k runs g input e a)

  module _ (E : Ends) (extends : Extends e E) (values : values_at k' (out-Graph g).controls E a ≡ values_at k (out-Graph g).controls e a) where
    lines : LinesKept (out-Graph g).lines a e E
    lines = λ i d less to b from s. extends.kept b s

    base_then : base_of g activity a input E ≡ base
    base_then = base_kept g activity a input e E lines fed

    fed_then : is_fed (out-Graph g).lines a E ≡ true
    fed_then = fed_kept (out-Graph g).lines a e E lines fed

    after_at : attempts_at ts k' runs g input E a (Some activity) ≡ tried_before ++ out ∷ []
    after_at = rw (fed_then, base_then) (ap (λ n. tries n give' (trial g a activity base) 1 base) most ∙ long.outputs)

    after : attempts ts k' runs g input E a ≡ tried_before ++ out ∷ []
    after = rw there after_at

    fate_after : fate_given ts k' runs g input E a ≡ fate_then activity c out
    fate_after =
        let counted = long.tried in
        rw (begun, opened.begun, there) (rw (values, opened.join) (ap (fate_by activity (Some true)) after_at ∙ then_fate activity tried_before out c counted))

    starts_after : started_at ts k' runs g input E a activity ≡ starts (suc k.most) give' (trial g a activity base) 1 base
    starts_after =
        let is : is_open (fate_given ts k' runs g input E a) ≡ true = ap is_open fate_after ∙ then_open activity out c in
        rw (is, fed_then, base_then) (ap (λ n. starts (suc n) give' (trial g a activity base) 1 base) most)

    -- its view before and after
    pub next_attempt : IsNextAttempt ts k k' runs g input e E a activity c out
    next_attempt =
        let tried = long.tried in
        let started = long.started in
        record {
          fate = fate_before;
          fate_next = fate_after;
          outputs = after ∙ ap (λ os. os ++ out ∷ []) (sym before);
          count = ap (λ os. length os + 1) before ∙ tried;
          starts = starts_after ∙ long.begins ∙ ap (λ ss. ss ++ next_start (trial g a activity base) c out) (sym starts_before);
          started = ap length starts_before ∙ omega (arith, started);
          end_next =
              ap (λ f. ended f (attempts ts k' runs g input E a)) fate_after ∙ ap (ended (fate_then activity c out)) after ∙ then_end activity tried_before out c;
        }
