-- How a call stops by the first refusal of its tests.
use Rattle.std.proofs.Common.{◌≡◌, ℕ, Bool, List, [], ◌∷◌, Option, Some, None, refl, sym, ap, subst, ◌∙◌, Result, Ok, Err, inr, IfSome, IfNone, IfOk, OnOk}
use Rattle.std.specs.Option.{option_or}
use Rattle.activity_states.specs.States.{next_take}
use Rattle.flow_model.specs.Paths.{Spells}
use Rattle.containers.specs.Settings.{outcome_by}
use Rattle.flow_model.specs.declared.commands.Command.TheVariants as asked
use Rattle.flow_model.specs.declared.commands.Outcome.{Outcome}
use Rattle.flow_model.specs.declared.commands.RawSetting.{RawSetting}
use Rattle.flow_model.specs.declared.graphs.Graph.{out-Graph}
use Rattle.flow_model.specs.declared.graphs.Template.{Template}
use Rattle.flow_model.specs.declared.instances.Mode.{Mode}
use Rattle.flow_model.specs.declared.instances.Path.{Path}
use Rattle.flow_model.specs.declared.instances.Who.{Who}
use Rattle.flow_model.specs.declared.names.Name.{Name}
use Rattle.flow_model.specs.declared.transactions.Setting.{Setting}
use Rattle.flow_model.specs.declared.transactions.Transaction.{Transaction}
use Rattle.flow_model.specs.declared.transactions.Transaction.TheVariants as made
use Rattle.flow_core.specs.Allowing.{Subject, subject_of, known_entry, IsKnown, IsOpen, IsAllowed}
use Rattle.flow_core.specs.Driving.{item_of}
use Rattle.flow_core.specs.Refusals.{between, first_of, full_test, item_test, on_item, tests_on_item, live_test, RefusesOnItem, newest_of, IsNamed, IsFound, subject_in, IsRuleOf, IsFirstRefusal, StopsBy, StopsAs, IsStop}
use Rattle.flow_core.specs.declared.items.Found.{Found}
use Rattle.flow_core.specs.declared.refusals.Refusal.{Refusal}
use Rattle.flow_core.specs.declared.refusals.Refusal.TheVariants as refused
use Rattle.flow_core.specs.declared.refusals.Stop.{Stop}
use Rattle.flow_core.specs.declared.refusals.Stop.TheVariants.{Refused, NoMemory}
use Rattle.flow_core.specs.Verdicts.{IsFor, IsSetFor, next_root}
use Rattle.flow_core.specs.declared.state.Core.{Core}

-- the refusal of a test is the first, whatever follows it
pub here : (e : Stop) (test rest : Option Refusal) → IsStop test e → IsStop (option_or test rest) e
here (Refused r) test rest is = ap (λ t. option_or t rest) is
here NoMemory test rest is = tt

-- a test that is passed is left behind
pub later : {T : Type 0} (r : Result T Stop) (test rest : Option Refusal) → test ≡ None → StopsBy rest r → StopsBy (option_or test rest) r
later r test rest passed is = subst (λ (t : Option Refusal). StopsBy (option_or t rest) r) (sym passed) is

pub later_stop : (e : Stop) (test rest : Option Refusal) → test ≡ None → IsStop rest e → IsStop (option_or test rest) e
later_stop e test rest passed is = subst (λ (t : Option Refusal). IsStop (option_or t rest) e) (sym passed) is

-- two tests are passed
pub both_passed : (test test' : Option Refusal) → test ≡ None → test' ≡ None → first_of (test ∷ test' ∷ []) ≡ None
both_passed test test' passed passed' = ap (λ t. option_or t (first_of (test' ∷ []))) passed ∙ ap (λ t. option_or t None) passed'

-- the last test alone tells
pub only : {T : Type 0} (r : Result T Stop) (test : Option Refusal) → StopsBy test r → StopsBy (option_or test None) r
only (Ok x) test is = ap (λ t. option_or t None) is
only (Err e) test is = here e test None is

-- a test told by another one that is the same
pub told_as : {T : Type 0} (r : Result T Stop) (test test' : Option Refusal) → test ≡ test' → StopsBy test' r → StopsBy test r
told_as r test test' same is = subst (λ (t : Option Refusal). StopsBy t r) (sym same) is

-- nothing is said without memory
pub unsaid : (P : Option Refusal → Type 0) (e : Stop) → e ≡ NoMemory → StopsAs {T = Unit {0}} P (Err e)
unsaid P e is = subst (λ (s : Stop). StopsAs {T = Unit {0}} P (Err s)) (sym is) tt

-- a refusal that is a value
pub as_value : {T : Type 0} (r : Result T Stop) (test : Option Refusal) → StopsBy test r → StopsAs (λ refusal. refusal ≡ test) r
as_value (Ok x) test is = sym is
as_value (Err (Refused refusal)) test is = sym is
as_value (Err NoMemory) test is = tt

-- ---- items

-- what was found of a token is what it names
pub named : (c : Core) (token : List ℕ) (o : Option Found) → IsFound c token o → IsNamed c token (subject_in o)
named c token None is = is
named c token (Some f) is = (f.path, is.0, is.1)

-- the tests of a command on an item refuse it by the item that its token names
pub as_item : {T : Type 0} (c : Core) (people : Option Refusal) (token : List ℕ) (test : Subject → Option Refusal) (o : Option Found) (r : Result T Stop)
    → IsFound c token o → StopsBy (tests_on_item c people token test (subject_in o)) r → StopsAs (RefusesOnItem c people token test) r
as_item c people token test o (Ok x) found is = (subject_in o, named c token o found, sym is)
as_item c people token test o (Err (Refused refusal)) found is = (subject_in o, named c token o found, sym is)
as_item c people token test o (Err NoMemory) found is = tt

-- where the people are declared and the item is there, the test of the command is left, and that there is room
pub at_item : {T : Type 0} (c : Core) (people : Option Refusal) (token : List ℕ) (test : Subject → Option Refusal) (o : Option Found) (f : Found) (r : Result T Stop)
    → people ≡ None → o ≡ Some f → StopsBy (first_of (test (subject_of f.known) ∷ full_test c ∷ [])) r → StopsBy (tests_on_item c people token test (subject_in o)) r
at_item c people token test o f r passed there is =
    later r people (first_of (item_test token (subject_in o) ∷ on_item test (subject_in o) ∷ full_test c ∷ [])) passed
    (subst (λ (o' : Option Found). StopsBy (first_of (item_test token (subject_in o') ∷ on_item test (subject_in o') ∷ full_test c ∷ [])) r) (sym there) is)

-- where the people aren't declared, that refuses
pub people_stop : {T : Type 0} (c : Core) (people : Option Refusal) (token : List ℕ) (test : Subject → Option Refusal) (o : Option Found) (r : Result T Stop) (y e : Stop)
    → r ≡ Err y → y ≡ e → IsFound c token o → IsStop people e → StopsAs (RefusesOnItem c people token test) r
people_stop {T = T} c people token test o r y e is same found stops =
    subst (λ (s : Result T Stop). StopsAs (RefusesOnItem c people token test) s) (sym (is ∙ ap (λ z. Err z) same))
    (as_item {T = T} c people token test o (Err e) found (here e people (first_of (item_test token (subject_in o) ∷ on_item test (subject_in o) ∷ full_test c ∷ [])) stops))

-- ---- which transaction

-- what was found, where it is this
there_is : (c : Core) (token : List ℕ) (o : Option Found) (f : Found) → IsFound c token o → o ≡ Some f → Spells (between token) f.path × IsKnown c f.path f.known
there_is c token o f found there = subst (λ (o' : Option Found). IsFound c token o') there found

pub take_for : {E : Type 0} (c : Core) (token : List ℕ) (o : Option Found) (f : Found) (r : Result Transaction E) → IsFound c token o → o ≡ Some f
    → IfOk r (λ t. t ≡ made.Take f.path (next_take f.known.item.state.now)) → IfOk r (IsFor c (asked.Take token))
take_for c token o f (Ok t) found there is =
    let at = there_is c token o f found there in
    (f.path, next_take f.known.item.state.now, at.0, record { item = known_entry f.known; there = at.1.there; next = refl }, is)
take_for c token o f (Err e) found there is = tt

-- the settings of a completion are those that its outcome writes
set_there : (c : Core) (token : List ℕ) (o : Option Found) (f : Found) (outcome : Outcome) (settings : List Setting) → IsFound c token o → o ≡ Some f
    → outcome_by f.known.item.activity.now.output outcome.rc outcome.settings ≡ Ok settings → IsSetFor c f.path outcome settings
set_there c token o f outcome settings found there set = record {
  item = known_entry f.known;
  there = (there_is c token o f found there).1.there;
  set = set;
}

-- what an inner call says of the transaction of a completion
abbrev pub Completes : Found → Outcome → (List Setting → Transaction) → Transaction → Type 0
Completes f outcome make t =
    (settings : List Setting) × (outcome_by f.known.item.activity.now.output outcome.rc outcome.settings ≡ Ok settings) × (t ≡ make settings)

pub done_for : {E : Type 0} (c : Core) (token : List ℕ) (o : Option Found) (f : Found) (by : Who) (outcome : Outcome) (r : Result Transaction E) → IsFound c token o → o ≡ Some f
    → IfOk r (Completes f outcome (λ settings. made.Done f.path by settings)) → IfOk r (IsFor c (asked.Done token by outcome))
done_for c token o f by outcome (Ok t) found there is = (f.path, is.0, (there_is c token o f found there).0, set_there c token o f outcome is.0 found there is.1, is.2)
done_for c token o f by outcome (Err e) found there is = tt

pub force_for : {E : Type 0} (c : Core) (token : List ℕ) (o : Option Found) (f : Found) (outcome : Outcome) (r : Result Transaction E) → IsFound c token o → o ≡ Some f
    → IfOk r (Completes f outcome (λ settings. made.Force f.path settings)) → IfOk r (IsFor c (asked.Force token outcome))
force_for c token o f outcome (Ok t) found there is = (f.path, is.0, (there_is c token o f found there).0, set_there c token o f outcome is.0 found there is.1, is.2)
force_for c token o f outcome (Err e) found there is = tt

-- a completion of an item that is open may be
pub done_allowed : {E : Type 0} (c : Core) (f : Found) (by : Who) (outcome : Outcome) (r : Result Transaction E)
    → IfOk r (Completes f outcome (λ settings. made.Done f.path by settings)) → OnOk r (IsOpen c f.path) → IfOk r (IsAllowed c)
done_allowed c f by outcome (Ok t) is opened = subst (λ (t' : Transaction). IsAllowed c t') (sym is.2) (record { asked = opened; free = tt })
done_allowed c f by outcome (Err e) is opened = tt

pub force_allowed : {E : Type 0} (c : Core) (f : Found) (outcome : Outcome) (r : Result Transaction E)
    → IfOk r (Completes f outcome (λ settings. made.Force f.path settings)) → OnOk r (IsOpen c f.path) → IfOk r (IsAllowed c)
force_allowed c f outcome (Ok t) is opened = subst (λ (t' : Transaction). IsAllowed c t') (sym is.2) (record { asked = opened; free = tt })
force_allowed c f outcome (Err e) is opened = tt

-- a START takes the newest version of its process
pub start_for : {E : Type 0} (c : Core) (process starter : Name) (key : Option Name) (written : List RawSetting) (template : Template) (r : Result Transaction E)
    → newest_of c process ≡ Some template
    → IfOk r (λ t. (settings : List Setting) × (outcome_by (out-Graph template.graph).input None written ≡ Ok settings)
    × (t ≡ made.Start (next_root c) process template.version starter key settings)) → IfOk r (IsFor c (asked.Start process starter key written))
start_for c process starter key written template (Ok t) newest is =
    (template.version, is.0, record { template = template; newest = newest; number = refl; set = is.1 }, is.2)
start_for c process starter key written template (Err e) newest is = tt

-- ---- roots

-- a root that isn't live refuses
pub not_live : (allowed : Mode → Bool) (root : ℕ) (mode : Option Mode) (e : Stop) → mode ≡ None → IsStop (Some (refused.Root root)) e → IsStop (live_test allowed root mode) e
not_live allowed root mode e none is = subst (λ (m : Option Mode). IsStop (live_test allowed root m) e) (sym none) is

-- ---- imports

-- the rule that a text breaks refuses it
pub by_rule : (c : Core) (text : List ℕ) (e : Stop) → StopsAs {T = Unit {0}} (IsRuleOf c text) (Err e) → StopsAs {T = Unit {0}} (IsFirstRefusal c (asked.Import text)) (Err e)
by_rule c text (Refused refusal) is = (Some refusal, is, refl)
by_rule c text NoMemory is = tt

-- where it breaks none there has to be room
pub by_room : {T : Type 0} (c : Core) (text : List ℕ) (r : Result T Stop) → IsRuleOf c text None → StopsBy (full_test c) r → StopsAs (IsFirstRefusal c (asked.Import text)) r
by_room c text (Ok x) rule is = (None, rule, sym (ap (λ t. option_or t None) is))
by_room c text (Err (Refused refusal)) rule is = (None, rule, sym (ap (λ t. option_or t None) is))
by_room c text (Err NoMemory) rule is = tt

-- ---- tokens

-- what was looked up at the path that a token spells is what was found of the token
pub found_there : (c : Core) (token : List ℕ) (path : Path) (o : Option Found) → Spells (between token) path → IfNone o (item_of c path ≡ None) → IfSome o (λ f. f.path ≡ path)
    → IfSome o (λ f. IsKnown c path f.known) → IsFound c token o
found_there c token path None spells none same known = inr (path, spells, none)
found_there c token path (Some f) spells none same known =
    (subst (λ (p : Path). Spells (between token) p) (sym same) spells, subst (λ (p : Path). IsKnown c p f.known) (sym same) known)
