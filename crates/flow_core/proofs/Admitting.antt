-- How the tests of a record's command say together that it is due.
use Rattle.std.proofs.Common.{◌≡◌, ◌↔◌, ℕ, Bool, true, false, IsTrue, IsFalse, Option, Some, None, is_some, is_none, List, refl, inl, inr, sym, ap, ◌∙◌, subst, Result, Ok, Err, IfOk, OnOk}
use Rattle.flow_model.specs.declared.graphs.Graph.{out-Graph}
use Rattle.flow_model.specs.declared.graphs.PersonDef.{PersonDef}
use Rattle.flow_model.specs.declared.graphs.Template.{Template}
use Rattle.flow_model.specs.declared.instances.Path.{Path}
use Rattle.flow_model.specs.declared.names.Name.{Name}
use Rattle.flow_model.specs.declared.transactions.Setting.{Setting}
use Rattle.flow_model.specs.declared.transactions.Transaction.{Transaction}
use Rattle.flow_model.specs.declared.transactions.Transaction.TheVariants as made
use Rattle.flow_core.specs.Admitting.{all_fit, root_with, IsStartDue, IsDue, IsDueAt, IsItemDue, IsPlace, IsTold, IsAdmitted, IsRefused}
use Rattle.flow_core.specs.Allowing.{Subject, subject_of, IsThere, IsKnown, IsPassed}
use Rattle.flow_core.specs.Refusals.{unless, person_of, person_test, newest_of, IsRuleOf}
use Rattle.flow_core.specs.declared.items.Known.{Known}
use Rattle.flow_core.specs.declared.refusals.Refusal.{Refusal}
use Rattle.flow_core.specs.declared.refusals.Refusal.TheVariants as refused
use Rattle.flow_core.specs.declared.refusals.Stop.{Stop}
use Rattle.flow_core.specs.declared.state.Core.{Core}
use Rattle.flow_core.proofs.OpenItems.{on_passed}

-- ---- tests together

-- what one test tells, where others have been passed on either side of it
pub behind : {E P : Type 0} (test : Option Refusal) (r : Result Bool E) → P → IfOk r (λ b. IsTrue b ↔ (test ≡ None)) → IfOk r (λ b. IsTrue b ↔ (P × (test ≡ None)))
behind test (Ok b) p is = (λ t. (p, is.0 t), λ d. is.1 d.1)
behind test (Err e) p is = tt

pub before : {E P : Type 0} (test : Option Refusal) (r : Result Bool E) → P → IfOk r (λ b. IsTrue b ↔ (test ≡ None)) → IfOk r (λ b. IsTrue b ↔ ((test ≡ None) × P))
before test (Ok b) p is = (λ t. (is.0 t, p), λ d. is.1 d.0)
before test (Err e) p is = tt

pub behind_two : {E P P' : Type 0} (test : Option Refusal) (r : Result Bool E) → P → P' → IfOk r (λ b. IsTrue b ↔ (test ≡ None)) → IfOk r (λ b. IsTrue b ↔ (P × P' × (test ≡ None)))
behind_two test (Ok b) p p' is = (λ t. (p, p', is.0 t), λ d. is.1 d.2)
behind_two test (Err e) p p' is = tt

pub between : {E P P' : Type 0} (test : Option Refusal) (r : Result Bool E) → P → P' → IfOk r (λ b. IsTrue b ↔ (test ≡ None)) → IfOk r (λ b. IsTrue b ↔ (P × (test ≡ None) × P'))
between test (Ok b) p p' is = (λ t. (p, is.0 t, p'), λ d. is.1 d.1)
between test (Err e) p p' is = tt

-- what a call says where it is passed
pub once_passed : {E : Type 0} (P : Type 0) (r : Result (Unit {0}) Stop) (b : Result Bool E) → IfOk b (λ passed. IsTrue passed → IsPassed r) → OnOk r P → IfOk b (λ passed. IsTrue passed → P)
once_passed P r (Ok b) passed holds = λ t. on_passed r (passed t) holds
once_passed P r (Err e) passed holds = tt

-- two that stand in one place
the_same : {T : Type 0} (x y : T) → Some x ≡ Some y → x ≡ y
the_same x y is = cc

-- ---- people

-- a person who is there is declared, and no other
pub is_declared : (c : Core) (name : Name) (person : PersonDef) → Some person ≡ person_of c name → person_test c name ≡ None
is_declared c name person is = ap (λ (o : Option PersonDef). unless (is_some o) (refused.Person name)) (sym is)

-- ---- starts

-- where the other tests have been passed, the settings tell
pub start_due : (c : Core) (process : Name) (version : ℕ) (starter : Name) (key : Option Name) (settings : List Setting) (template : Template) (b : Bool)
    → Some template ≡ newest_of c process → template.version ≡ version → person_test c starter ≡ None → root_with c key ≡ None
    → b ≡ all_fit (out-Graph template.graph).input.leaves settings → IsTrue b ↔ IsStartDue c process version starter key settings
start_due c process version starter key settings template b newest number declared unused fit = (
  λ t. record { template = template; newest = sym newest; number = number; declared = declared; unused = unused; fit = sym fit ∙ t },
  λ d. (let same : template ≡ d.template = the_same template d.template (newest ∙ d.newest) in
      fit ∙ (ap (λ (q : Template). all_fit (out-Graph q.graph).input.leaves settings) same ∙ d.fit)),
)

-- of a version that isn't the newest it is not
pub other_version : (c : Core) (process : Name) (version : ℕ) (starter : Name) (key : Option Name) (settings : List Setting) (template : Template)
    → Some template ≡ newest_of c process → (template.version ≡ version → ⊥) → IsStartDue c process version starter key settings → ⊥
other_version c process version starter key settings template newest other d =
    other (ap (λ (q : Template). q.version) (the_same template d.template (newest ∙ d.newest)) ∙ d.number)

-- ---- items

-- an item is there in one way
pub one_there : (c : Core) (path : Path) (s s' : Subject) → IsThere c path s → IsThere c path s' → s ≡ s'
one_there c path s s' there there' =
    let item : s.item ≡ s'.item = cc in
    let program : s.program ≡ s'.program = cc in
    let mode : s.mode ≡ s'.mode = cc in
    let starter : s.starter ≡ s'.starter = cc in
    let performer : s.performer ≡ s'.performer = cc in
    λ i. record { item = item i; program = program i; mode = mode i; starter = starter i; performer = performer i }

-- the tests at the item that is there tell of the item of the path
pub item_due : {E : Type 0} (c : Core) (path : Path) (t : Transaction) (k : Known) (r : Result Bool E) → IsKnown c path k
    → IfOk r (λ b. IsTrue b ↔ IsDueAt c (subject_of k) t) → IfOk r (λ b. IsTrue b ↔ IsItemDue c path t)
item_due c path t k (Ok b) known is =
    (λ passed. (subject_of k, known, is.0 passed), λ d. is.1 (subst (λ (s : Subject). IsDueAt c s t) (one_there c path d.0 (subject_of k) d.1 known) d.2))
item_due c path t k (Err e) known is = tt

-- ---- records

none_broken : (c : Core) (text : List ℕ) (rule : Option Refusal) → IsRuleOf c text rule → true ≡ is_none rule → IsRuleOf c text None
none_broken c text None judged same = judged
none_broken c text (Some rule) judged same = let n : ⊥ = cc in absurd n

one_broken : (c : Core) (text : List ℕ) (rule : Option Refusal) → IsRuleOf c text rule → false ≡ is_none rule → (r : Refusal) × IsRuleOf c text (Some r)
one_broken c text None judged same = let n : ⊥ = cc in absurd n
one_broken c text (Some rule) judged same = (rule, judged)

told_due : (c : Core) (t : Transaction) → IsTold c t true → IsDue c t
told_due c (made.Import text) told = none_broken c text told.0 told.1 told.2
told_due c t told = told.0 refl

told_not_due : (c : Core) (number : ℕ) (t : Transaction) → IsTold c t false → IsRefused c number t
told_not_due c number (made.Import text) told = inr (one_broken c text told.0 told.1 told.2)
told_not_due c number t told = λ admitted. (let wrong : false ≡ true = told.1 admitted.due in let n : ⊥ = cc in absurd n)

-- a record that has no place is refused
pub no_place : (c : Core) (number : ℕ) (t : Transaction) → (IsPlace c number t → ⊥) → IsRefused c number t
no_place c number (made.Import text) none = inl none
no_place c number t none = λ admitted. none admitted.place

-- where it has one, it is admitted where it is told to be due
pub admitted_there : {E : Type 0} (c : Core) (number : ℕ) (t : Transaction) (r : Result Bool E) → IsPlace c number t → IfOk r (IsTold c t)
    → IfOk r (λ b. IsTrue b → IsAdmitted c number t)
admitted_there c number t (Ok true) place told = λ yes. record { place = place; due = told_due c t told }
admitted_there c number t (Ok false) place told = λ yes. (let n : ⊥ = cc in absurd n)
admitted_there c number t (Err e) place told = tt

-- and refused where it is told not to be
pub refused_there : {E : Type 0} (c : Core) (number : ℕ) (t : Transaction) (r : Result Bool E) → IfOk r (IsTold c t) → IfOk r (λ b. IsFalse b → IsRefused c number t)
refused_there c number t (Ok true) told = λ no. (let n : ⊥ = cc in absurd n)
refused_there c number t (Ok false) told = λ no. told_not_due c number t told
refused_there c number t (Err e) told = tt
