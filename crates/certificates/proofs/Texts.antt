-- What is told of each scope, and what was accepted of each item, after a change at one text.
use Rattle.std.proofs.Common.{◌≡◌, ℕ, List, [], ◌∷◌, ◌++◌, ◌+◌, ◌<◌, length, take, get_or, Bool, true, false, cond, if◌then◌else◌, Option, Some, None, refl, sym, ap, ◌∙◌, ⊎_elim}
use Rattle.std.specs.Prelude.{option_map, is_some}
use Rattle.std.specs.Option.{option_or}
use Rattle.std.specs.Borrow.{Bor}
use Rattle.std.specs.Cmp.Lexicographic.{bytes_decides}
use Rattle.std.specs.Str.{bytes_eq}
use Rattle.std.specs.Global.{Vec}
use Rattle.std.specs.HashMap.{HashMap}
use Rattle.std.proofs.lemmas.Bool.{cases_Bool, false≢true}
use Rattle.std.proofs.lemmas.List.{take_more}
use Rattle.flow_model.specs.declared.graphs.Container.{Container}
use Rattle.flow_model.specs.declared.instances.Fact.{Fact}
use Rattle.flow_model.specs.declared.instances.Path.{Path}
use Rattle.flow_model.specs.Paths.{spelling}
use Rattle.certificates.specs.declared.scopes.Begun.{Begun}
use Rattle.certificates.specs.Told.{Opened, beginning, changed, same_path, accepted}
use Rattle.certificates.specs.Kept.{opened_of, told_by, accepted_by}
use Rattle.certificates.proofs.Lookups.{at_text, Writes, written}

-- a choice by a test, where the one way is known to be this
chosen : {X : Type 0} (b : Bool) (x x' y : X) → (b ≡ true → x ≡ x') → cond b x y ≡ cond b x' y
chosen true x x' y e = e refl
chosen false x x' y e = refl

-- a choice read through a function
pushed : {X Y : Type 0} (f : X → Y) (b : Bool) (x y : X) → f (cond b x y) ≡ cond b (f x) (f y)
pushed f true x y = refl
pushed f false x y = refl

kept_either : {X : Type 0} (b : Bool) (x : X) → x ≡ cond b x x
kept_either true x = refl
kept_either false x = refl

pub none_there : {X : Type 0} (o : Option X) → is_some o ≡ false → o ≡ None
none_there None e = refl
none_there (Some x) e = absurd (false≢true (sym e))

some_stays : {X : Type 0} (o : Option X) (x : X) → is_some o ≡ true → o ≡ option_or o (Some x)
some_stays None x some = absurd (false≢true some)
some_stays (Some y) x some = refl

module _ {S : Type 0} (old new : HashMap (Vec ℕ) Begun S) (bs : List ℕ) (scope : Path) (named : bs ≡ spelling scope) where
  same_text : (p : Path) → bytes_eq bs (spelling p) ≡ same_path scope p
  same_text p = ap (λ (l : List ℕ). bytes_eq l (spelling p)) named

  -- what stands at the path, where it is the same
  here : (p : Path) → bytes_eq bs (spelling p) ≡ true → at_text old bs ≡ at_text old (spelling p)
  here p y = ap (at_text old) ((bytes_decides bs (spelling p)).0 y)

  -- a scope that is told of is changed
  pub changed_told : (f : Opened → Opened) (was now : Begun) → Some was ≡ at_text old bs → opened_of now ≡ f (opened_of was) → Writes bs old new (Some now)
      → (p : Path) → told_by new p ≡ changed (told_by old) scope f p
  changed_told f was now found is h p =
      ap (option_map opened_of) (written bs old new (Some now) h (spelling p))
      ∙ pushed (option_map opened_of) (bytes_eq bs (spelling p)) (Some now) (at_text old (spelling p))
      ∙ chosen (bytes_eq bs (spelling p)) (Some (opened_of now)) (option_map f (told_by old p)) (told_by old p)
      (λ y. ap Some is ∙ ap (λ (o : Option Begun). option_map f (option_map opened_of o)) (found ∙ here p y))
      ∙ ap (λ (b : Bool). cond b (option_map f (told_by old p)) (told_by old p)) (same_text p)

  -- no scope is told of there
  pub unchanged_told : (f : Opened → Opened) → None ≡ at_text old bs → (p : Path) → told_by old p ≡ changed (told_by old) scope f p
  unchanged_told f none p =
      kept_either (bytes_eq bs (spelling p)) (told_by old p)
      ∙ chosen (bytes_eq bs (spelling p)) (told_by old p) (option_map f (told_by old p)) (told_by old p)
      (λ y. let o = none ∙ here p y in ap (option_map opened_of) (sym o) ∙ ap (λ (o : Option Begun). option_map f (option_map opened_of o)) o)
      ∙ ap (λ (b : Bool). cond b (option_map f (told_by old p)) (told_by old p)) (same_text p)

  -- a scope begins that wasn't told of
  pub begun_told : (now : Begun) (s : Opened) → opened_of now ≡ s → at_text old bs ≡ None → Writes bs old new (Some now) → (p : Path) → told_by new p ≡ beginning (told_by old) scope s p
  begun_told now s is none h p =
      ap (option_map opened_of) (written bs old new (Some now) h (spelling p))
      ∙ pushed (option_map opened_of) (bytes_eq bs (spelling p)) (Some now) (at_text old (spelling p))
      ∙ chosen (bytes_eq bs (spelling p)) (Some (opened_of now)) (option_or (told_by old p) (Some s)) (told_by old p)
      (λ y. ap Some is ∙ ap (λ (o : Option Begun). option_or (option_map opened_of o) (Some s)) (sym none ∙ here p y))
      ∙ ap (λ (b : Bool). cond b (option_or (told_by old p) (Some s)) (told_by old p)) (same_text p)

  -- what is told of a scope already stays
  pub stays_told : (s : Opened) → is_some (at_text old bs) ≡ true → (p : Path) → told_by old p ≡ beginning (told_by old) scope s p
  stays_told s some p =
      kept_either (bytes_eq bs (spelling p)) (told_by old p)
      ∙ chosen (bytes_eq bs (spelling p)) (told_by old p) (option_or (told_by old p) (Some s)) (told_by old p)
      (λ y. some_stays (told_by old p) s (mapped_some (at_text old (spelling p)) (ap is_some (sym (here p y)) ∙ some)))
      ∙ ap (λ (b : Bool). cond b (option_or (told_by old p) (Some s)) (told_by old p)) (same_text p)
    where
      mapped_some : (o : Option Begun) → is_some o ≡ true → is_some (option_map opened_of o) ≡ true
      mapped_some None e = e
      mapped_some (Some b) e = e

-- ---- accepted outputs

output_now : Bor Container → Container
output_now out = out.now

or_none : {X : Type 0} (o : Option X) → o ≡ option_or o None
or_none None = refl
or_none (Some x) = refl

module _ {S : Type 0} (old new : HashMap (Vec ℕ) (Bor Container) S) (bs : List ℕ) (f : Fact) (named : bs ≡ spelling f.item) where
  -- the output of an item that had none
  pub added_given : (out : Bor Container) → out.now ≡ f.output → at_text old bs ≡ None → Writes bs old new (Some out)
      → (p : Path) → accepted_by new p ≡ option_or (accepted_by old p) (if same_path f.item p then Some f.output else None)
  added_given out is none h p =
      ap (option_map (λ (o : Bor Container). o.now)) (written bs old new (Some out) h (spelling p))
      ∙ ⊎_elim
      (λ y. let o : at_text old (spelling p) ≡ None = sym (ap (at_text old) ((bytes_decides bs (spelling p)).0 y)) ∙ none in
      let same : same_path f.item p ≡ true = ap (λ (l : List ℕ). bytes_eq l (spelling p)) (sym named) ∙ y in
      rw (y, o, same) (ap Some is))
      (λ n. let other : same_path f.item p ≡ false = ap (λ (l : List ℕ). bytes_eq l (spelling p)) (sym named) ∙ n in
      rw (n, other) (or_none (accepted_by old p)))
      (cases_Bool (bytes_eq bs (spelling p)))

  -- the first output of an item stays
  pub stays_given : is_some (at_text old bs) ≡ true
      → (p : Path) → accepted_by old p ≡ option_or (accepted_by old p) (if same_path f.item p then Some f.output else None)
  stays_given some p =
      ⊎_elim
      (λ y. let same : same_path f.item p ≡ true = ap (λ (l : List ℕ). bytes_eq l (spelling p)) (sym named) ∙ y in
      rw same (some_stays (accepted_by old p) f.output (mapped_some (at_text old (spelling p)) (ap is_some (sym (ap (at_text old) ((bytes_decides bs (spelling p)).0 y))) ∙ some))))
      (λ n. let other : same_path f.item p ≡ false = ap (λ (l : List ℕ). bytes_eq l (spelling p)) (sym named) ∙ n in
      rw other (or_none (accepted_by old p)))
      (cases_Bool (bytes_eq bs (spelling p)))
    where
      mapped_some : (o : Option (Bor Container)) → is_some o ≡ true → is_some (option_map (λ (o : Bor Container). o.now) o) ≡ true
      mapped_some None e = e
      mapped_some (Some b) e = e

-- one completion more
pub accepted_more : (fs : List Fact) (f : Fact) (p : Path) → accepted (fs ++ f ∷ []) p ≡ option_or (accepted fs p) (if same_path f.item p then Some f.output else None)
accepted_more [] f p = refl
accepted_more (g ∷ fs) f p = step (same_path g.item p) (accepted_more fs f p)
  where
    step : (b : Bool) → accepted (fs ++ f ∷ []) p ≡ option_or (accepted fs p) (if same_path f.item p then Some f.output else None)
        → (if b then Some g.output else accepted (fs ++ f ∷ []) p) ≡ option_or (if b then Some g.output else accepted fs p) (if same_path f.item p then Some f.output else None)
    step true e = refl
    step false e = e

-- where each completion so far was added, and one more is
pub given_more : {S : Type 0} (old new : HashMap (Vec ℕ) (Bor Container) S) (fs : List Fact) (i : ℕ) (f : Fact) → i < length fs → f ≡ get_or fs i f
    → ((p : Path) → accepted_by old p ≡ accepted (take i fs) p)
    → ((p : Path) → accepted_by new p ≡ option_or (accepted_by old p) (if same_path f.item p then Some f.output else None))
    → (p : Path) → accepted_by new p ≡ accepted (take (i + 1) fs) p
given_more old new fs i f lt is before added p =
    added p ∙ ap (λ (o : Option Container). option_or o (if same_path f.item p then Some f.output else None)) (before p)
    ∙ sym (accepted_more (take i fs) f p)
    ∙ ap (λ (g : Fact). accepted (take i fs ++ g ∷ []) p) is
    ∙ ap (λ (gs : List Fact). accepted gs p) (sym (take_more fs i f lt))
