-- Where a version of a process stands in a library, by a search for its name and number.
use Rattle.std.proofs.Common.{◌≡◌, ◌⊎◌, ℕ, ◌==◌, ◌≤◌, ◌<◌, ◌&&◌, nat_lt, Bool, true, false, not, cond, List, [], ◌∷◌, length, get_or, Option, Some, None, refl, ap, sym, ◌∙◌, inl, inr, arith}
use Rattle.std.proofs.lemmas.Bool.{ltb-false}
use Rattle.std.proofs.lemmas.Bool.Decides.{eqb_tells}
use Rattle.std.proofs.lemmas.List.Quantifiers.{position-Some}
use Rattle.std.proofs.lemmas.List.Sums.{prefix_len_passes}
use Rattle.std.proofs.lemmas.Option.{none-some, slice_get-get_or, slice_get_within, get_or_from_slice_get}
use Rattle.std.proofs.lemmas.Slice.Eq.{bytes_eq-Decides}
use Rattle.std.specs.List.{position_or_len}
use Rattle.std.specs.Prelude.{bytes_eq, position, slice_get}
use Rattle.flow_model.specs.declared.graphs.Template.{Template}
use Rattle.flow_model.specs.declared.names.Name.{Name}
use Rattle.flow_core.specs.Driving.{IsVersionAt, IsVersionPlace}

-- the test of a template
abbrev is_version : Name → ℕ → Template → Bool
is_version process version t = t.version == version && bytes_eq t.name process

both : (a b : Bool) → a && b ≡ true → (a ≡ true) × (b ≡ true)
both true b is = (refl, is)
both false b is = let n : ⊥ = cc in absurd n

-- a list has a first element, or none
first_or : (ts : List Template) → Template ⊎ (ts ≡ [])
first_or [] = inr refl
first_or (t ∷ ts) = inl t

module _ (ts : List Template) (process : Name) (version : ℕ) where
  -- a template that passes the test is the version
  passes : (place : ℕ) (t : Template) → slice_get ts place ≡ Some t → is_version process version t ≡ true → IsVersionAt ts process version place
  passes place t there is = record {
    template = t;
    there = there;
    name = (bytes_eq-Decides t.name process).0 (both (t.version == version) (bytes_eq t.name process) is).1;
    number = number (both (t.version == version) (bytes_eq t.name process) is).0;
  }
    where
      number : (t.version == version) ≡ true → t.version ≡ version
      number same = elim (eqb_tells t.version version) [ inl e ↦ e.1 | inr no_ ↦ (let n : ⊥ = cc in absurd n) ]

  -- the version passes the test
  passed : (place : ℕ) (at_ : IsVersionAt ts process version place) → is_version process version at_.template ≡ true
  passed place at_ =
      let number : (at_.template.version == version) ≡ true = elim (eqb_tells at_.template.version version) [ inl e ↦ e.0 | inr no_ ↦ absurd (no_.1 at_.number) ] in
      let name : bytes_eq at_.template.name process ≡ true = (bytes_eq-Decides at_.template.name process).1 at_.name in
      ap (λ b. b && bytes_eq at_.template.name process) number ∙ name

  -- where no template passes, none is the version
  none_there : position (is_version process version) ts ≡ None → (place : ℕ) → IsVersionAt ts process version place → ⊥
  none_there none place at_ =
      let n : ℕ = position_or_len (is_version process version) ts in
      let d : Template = at_.template in
      let within : place < length ts = slice_get_within ts place d at_.there in
      let here : get_or ts place d ≡ d = get_or_from_slice_get ts place d d at_.there in
      let true_here : is_version process version (get_or ts place d) ≡ true = ap (is_version process version) here ∙ passed place at_ in
      go (nat_lt n (length ts)) refl within true_here
    where
      go : (b : Bool) → nat_lt (position_or_len (is_version process version) ts) (length ts) ≡ b → place < length ts → is_version process version (get_or ts place at_.template) ≡ true → ⊥
      go true is within true_here = let wrong = sym (ap (λ b. cond b (Some (position_or_len (is_version process version) ts)) None) is) ∙ none in let n : ⊥ = cc in n
      go false is within true_here =
          let long : length ts ≤ position_or_len (is_version process version) ts = ltb-false (position_or_len (is_version process version) ts) (length ts) is in
          let not_here : not (is_version process version (get_or ts place at_.template)) ≡ true
          = prefix_len_passes (λ t. not (is_version process version t)) ts place at_.template (omega arith) in
          let wrong = sym (ap not true_here) ∙ not_here in
          let n : ⊥ = cc in n

  none_some_at : {P : Type 0} (t : Template) (place : ℕ) → slice_get ts place ≡ Some (get_or ts place t) → slice_get ts place ≡ None → P
  none_some_at t place some none = absurd (none-some (get_or ts place t) (sym none ∙ some))

  -- what a search says
  pub searched : (r : Option ℕ) → r ≡ position (is_version process version) ts → IsVersionPlace ts process version r
  searched None exact = none_there (sym exact)
  searched (Some place) exact = found (slice_get ts place) refl
    where
      there : position (is_version process version) ts ≡ Some place
      there = sym exact

      found : (o : Option Template) → slice_get ts place ≡ o → IsVersionAt ts process version place
      found None is = elim (first_or ts) [
        | inl t ↦ none_some_at t place (slice_get-get_or ts place t (position-Some (is_version process version) ts place t there).0) is
        | inr empty ↦ (let wrong = sym (ap (position (is_version process version)) empty) ∙ there in let n : ⊥ = cc in absurd n)
      ]
      found (Some t) is = passes place t is (ap (is_version process version) (sym (get_or_from_slice_get ts place t t is)) ∙ (position-Some (is_version process version) ts place t there).1)
