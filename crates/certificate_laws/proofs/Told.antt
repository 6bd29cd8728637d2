-- What is told of all scopes stays right under each line.
use Rattle.std.proofs.Common.{◌≡◌, ◌⊎◌, ℕ, zero, suc, ◌+◌, ◌<◌, ◌≤◌, Bool, true, false, List, [], ◌∷◌, length, Option, Some, None, refl, sym, ap, subst, ◌∙◌, arith, inl, inr, ⊎_elim}
use Rattle.std.specs.Prelude.{option_map, unwrap_or, slice_set}
use Rattle.std.specs.List.{list_all}
use Rattle.std.specs.Option.{option_or}
use Rattle.std.proofs.lemmas.Bool.{cases_lt, false≢true}
use Rattle.std.proofs.lemmas.List.{length-set}
use Rattle.std.proofs.lemmas.Option.{same_Some, none-some, slice_get_past}
use Rattle.flow_model.specs.declared.graphs.Container.{Container}
use Rattle.flow_model.specs.declared.graphs.Graph.{out-Graph}
use Rattle.flow_model.specs.declared.graphs.MapEnd.TheVariants.{Border}
use Rattle.flow_model.specs.declared.graphs.Template.{Template}
use Rattle.flow_model.specs.declared.instances.Fact.{Fact}
use Rattle.flow_model.specs.declared.instances.Path.{Path}
use Rattle.flow_model.specs.declared.instances.SourceEnd.{SourceEnd}
use Rattle.flow_model.specs.declared.instances.SourceEnd.TheVariants as end
use Rattle.flow_model.specs.Containers.{fresh, with_return_code}
use Rattle.flow_model.specs.Fates.{is_settled}
use Rattle.flow_model.specs.ScopeContainers.{fed, is_complete, up_to}
use Rattle.flow_model.specs.Scopes.{Known, all_of, output}
use Rattle.blocks_subprocs.specs.Ends.{ends_of}
use Rattle.fate_laws.proofs.Complete.{complete_kept}
use Rattle.fate_laws.proofs.Extends.{and_true}
use Rattle.fate_laws.proofs.Stays.{output_kept, unsettled_past}
use Rattle.certificates.specs.Told.{Opened, Told, with_end, with_output, same_path, beginning, changed, scope_gives}
use Rattle.certificate_laws.specs.Standings.{Standing, ends_in}
use Rattle.certificate_laws.specs.Right.{IsRead, HasEnded}
use Rattle.certificate_laws.proofs.Scopes.{standing_of, RightAt, RightScope}

-- ---- lists of ends

set_cases : (l : List SourceEnd) (a c : ℕ) (e : SourceEnd) → ((c ≡ a) × (ends_of (slice_set l a e) c ≡ e)) ⊎ (ends_of (slice_set l a e) c ≡ ends_of l c)
set_cases [] a c e = inr refl
set_cases (x ∷ l) zero zero e = inl (refl, refl)
set_cases (x ∷ l) zero (suc c) e = inr refl
set_cases (x ∷ l) (suc a) zero e = inr refl
set_cases (x ∷ l) (suc a) (suc c) e = ⊎_elim (λ h. inl (ap suc h.0, h.1)) (λ h. inr h) (set_cases l a c e)

all_up : (f : ℕ → Bool) (n k : ℕ) → ((a : ℕ) → k ≤ a → a < n + k → f a ≡ true) → list_all f (up_to n k) ≡ true
all_up f zero k h = refl
all_up f (suc n) k h =
    let here : f k ≡ true = h k (omega arith) (omega arith) in
    let rest : list_all f (up_to n (k + 1)) ≡ true = all_up f n (k + 1) (λ a low high. h a (omega arith) (omega arith)) in
    rw (here, rest) refl

pub all_in : (f : ℕ → Bool) (n k a : ℕ) → list_all f (up_to n k) ≡ true → k ≤ a → a < n + k → f a ≡ true
all_in f zero k a h low high = absurd (omega arith)
all_in f (suc n) k a h low high = go (f k) refl (λ r low_ high_. all_in f n (k + 1) a r low_ high_)
  where
    go : (b : Bool) → f k ≡ b → (list_all f (up_to n (k + 1)) ≡ true → k + 1 ≤ a → a < n + (k + 1) → f a ≡ true) → f a ≡ true
    go false is rest = absurd (false≢true (rw is at h))
    go true is rest = at_least (cases_lt k a)
      where
        at_least : (k < a) ⊎ (a ≤ k) → f a ≡ true
        at_least (inl more) = rest (rw is at h) (omega arith) (omega arith)
        at_least (inr less) = let same : k ≡ a = omega arith in ap f (sym same) ∙ is

settled_each : (l : List SourceEnd) (a : ℕ) → list_all is_settled l ≡ true → a < length l → is_settled (ends_of l a) ≡ true
settled_each [] a h less = absurd (omega arith)
settled_each (x ∷ l) zero h less = (and_true (is_settled x) _ h).0
settled_each (x ∷ l) (suc a) h less = settled_each l a (and_true (is_settled x) _ h).1 (omega arith)

-- ---- one scope

module _ (ts : List Template) (root : Standing) (facts : List Fact) (most total : ℕ) (p : Path) (s : Opened) (d : ℕ) (base : Known)
    (right : RightAt ts root facts most total p s d base) where
  -- one end more
  pub end_right : (a : ℕ) (e : SourceEnd) → ends_in ts (standing_of d base s) a ≡ e → RightScope ts root facts most total p (with_end a e s)
  end_right a e is = record {
    depth = d;
    base = base;
    right = record {
      there = right.there;
      deep = right.deep;
      well = right.well;
      bound = right.bound;
      given = right.given;
      long = length-set s.ends a e ∙ right.long;
      ends = record {
        kept = λ c settled. ⊎_elim
            (λ h. ap (ends_in ts (standing_of d base s)) h.0 ∙ is ∙ sym h.1)
            (λ h. right.ends.kept c (ap is_settled (sym h) ∙ settled) ∙ sym h)
            (set_cases s.ends a c e);
      };
      output = right.output;
    };
  }

  told_complete : list_all is_settled s.ends ≡ true → is_complete s.graph (ends_of s.ends) ≡ true
  told_complete all = all_up (λ a. is_settled (ends_of s.ends a)) (length (out-Graph s.graph).activities) 0 (λ a low high. settled_each s.ends a all (omega (arith, high, right.long)))

  past : (a : ℕ) → length (out-Graph s.graph).activities ≤ a → ends_in ts (standing_of d base s) a ≡ ends_of s.ends a
  past a le =
      unsettled_past ts (all_of base) (output ts d) s.graph s.input (length (out-Graph s.graph).activities) a le
      ∙ ap (λ (o : Option SourceEnd). unwrap_or o end.Unsettled) (sym (slice_get_past s.ends a (omega (arith, le, right.long))))

  -- the output of a scope all of whose ends are told
  module _ (out : Container) (gives : scope_gives s ≡ Some out) where
    all_settled : list_all is_settled s.ends ≡ true
    all_settled = go (list_all is_settled s.ends) refl
      where
        go : (b : Bool) → list_all is_settled s.ends ≡ b → b ≡ true
        go true is = refl
        go false is = absurd (none-some out (rw is at gives))

    abbrev told_output : Container
    told_output = fed (out-Graph s.graph).lines Border s.input (ends_of s.ends) (fresh (out-Graph s.graph).output)

    gives_is : with_return_code told_output ≡ out
    gives_is = same_Some (with_return_code told_output) out (rw all_settled at gives)

    out_is : output ts (suc d) (all_of base) s.graph s.input ≡ Some told_output
    out_is =
        output_kept s.graph s.input (ends_of s.ends) (ends_in ts (standing_of d base s)) right.ends past told_output (rw (told_complete all_settled) refl)

    pub output_right : RightScope ts root facts most total p (with_output out s)
    output_right = record {
      depth = d;
      base = base;
      right = record {
        there = right.there;
        deep = right.deep;
        well = right.well;
        bound = right.bound;
        given = right.given;
        long = right.long;
        ends = right.ends;
        output = λ o is. ap (option_map with_return_code) out_is ∙ ap Some gives_is ∙ is;
      };
    }

    pub has_ended : HasEnded ts root p.parts
    has_ended = record {
      scope = standing_of d base s;
      there = right.there;
      complete = complete_kept (ends_of s.ends) (ends_in ts (standing_of d base s)) right.ends (up_to (length (out-Graph s.graph).activities) 0) (told_complete all_settled);
    }

-- ---- all scopes

module _ (ts : List Template) (root : Standing) (facts : List Fact) (most total : ℕ)
    (apart : (p q : Path) → IsRead most p → IsRead most q → same_path p q ≡ true → p ≡ q) where
  -- what is told of each scope is right
  abbrev pub RightTold : Told → Type 0
  RightTold t = (p : Path) (s : Opened) → IsRead most p → t p ≡ Some s → RightScope ts root facts most total p s

  pub beginning_right : (t : Told) (p : Path) (new : Opened) → IsRead most p → RightTold t → RightScope ts root facts most total p new → RightTold (beginning t p new)
  beginning_right t p new good told right q s read is = go (same_path p q) refl
    where
      either : (o : Option Opened) → t q ≡ o → p ≡ q → option_or o (Some new) ≡ Some s → RightScope ts root facts most total q s
      either (Some old) at_q same h = told q s read (at_q ∙ h)
      either None at_q same h =
          subst (λ r. RightScope ts root facts most total r s) same (subst (λ u. RightScope ts root facts most total p u) (same_Some new s h) right)

      go : (b : Bool) → same_path p q ≡ b → RightScope ts root facts most total q s
      go true e = either (t q) refl (apart p q good read e) (rw e at is)
      go false e = told q s read (rw e at is)

  pub changed_right : (t : Told) (p : Path) (f : Opened → Opened) → IsRead most p → RightTold t
      → ((s : Opened) → t p ≡ Some s → RightScope ts root facts most total p (f s)) → RightTold (changed t p f)
  changed_right t p f good told right q s read is = go (same_path p q) refl
    where
      mapped : (o : Option Opened) → t q ≡ o → p ≡ q → option_map f o ≡ Some s → RightScope ts root facts most total q s
      mapped None at_q same h = absurd (none-some s h)
      mapped (Some old) at_q same h =
          subst (λ r. RightScope ts root facts most total r s) same
          (subst (λ u. RightScope ts root facts most total p u) (same_Some (f old) s h) (right old (ap t same ∙ at_q)))

      go : (b : Bool) → same_path p q ≡ b → RightScope ts root facts most total q s
      go true e = mapped (t q) refl (apart p q good read e) (rw e at is)
      go false e = told q s read (rw e at is)
