-- Items are one where the test says so, and a list of completions gives for an item what the first of them that is of it gives.
use Rattle.std.proofs.Common.{◌≡◌, ℕ, suc, ◌==◌, Bool, true, false, List, [], ◌∷◌, ◌++◌, refl, sym, ap, ◌∙◌, Option, Some, None, arith, inl, inr}
use Rattle.std.proofs.Math.Path.{fun_ext}
use Rattle.std.proofs.lemmas.Bool.Decides.{eqb_tells}
use Rattle.std.proofs.lemmas.Slice.Eq.{bytes_eq-Decides}
use Rattle.std.specs.Prelude.{bytes_eq}
use Rattle.std.specs.List.{Contains}
use Rattle.flow_model.specs.declared.graphs.Container.{Container}
use Rattle.flow_model.specs.declared.instances.Fact.{Fact}
use Rattle.flow_model.specs.declared.instances.Part.{Part}
use Rattle.flow_model.specs.Rows.{same_part, same_parts, output_of, by_facts, rows, deepest}
use Rattle.flow_model.specs.Scopes.{Known, at, part, output}
use Rattle.fate_laws.specs.Causes.{at_path, HasGiven, HasFactBelow}
use Rattle.fate_laws.specs.Completions.{TellSame}
use Rattle.fate_laws.proofs.Extends.{and_true}
use Rattle.fate_laws.proofs.Later.{output_of-append}

-- ---- names of items

pub eqb_itself : (a : ℕ) → (a == a) ≡ true
eqb_itself a = elim (eqb_tells a a) [ inl is ↦ is.0 | inr other ↦ absurd (other.1 refl) ]

pub eqb_one : (a b : ℕ) → (a == b) ≡ true → a ≡ b
eqb_one a b h = elim (eqb_tells a b) [ inl is ↦ is.1 | inr other ↦ absurd (no_end (sym other.0 ∙ h)) ]
  where
    no_end : false ≡ true → ⊥
    no_end h = cc

pub part_itself : (p : Part) → same_part p p ≡ true
part_itself p = rw ((bytes_eq-Decides p.name p.name).1 refl, eqb_itself p.attempt) refl

pub part_one : (p q : Part) → same_part p q ≡ true → p ≡ q
part_one p q h =
    let both = and_true (bytes_eq p.name q.name) _ h in
    let name : p.name ≡ q.name = (bytes_eq-Decides p.name q.name).0 both.0 in
    let attempt : p.attempt ≡ q.attempt = eqb_one p.attempt q.attempt both.1 in
    ap (λ n. part n p.attempt) name ∙ ap (λ j. part q.name j) attempt

pub parts_itself : (p : List Part) → same_parts p p ≡ true
parts_itself [] = refl
parts_itself (p ∷ ps) = rw (part_itself p, parts_itself ps) refl

pub parts_one : (p q : List Part) → same_parts p q ≡ true → p ≡ q
parts_one [] [] h = refl
parts_one [] (q ∷ qs) h = cc
parts_one (p ∷ ps) [] h = cc
parts_one (p ∷ ps) (q ∷ qs) h =
    let both = and_true (same_part p q) _ h in
    rw (part_one p q both.0, parts_one ps qs both.1) refl

-- ---- what a list gives

-- what is given for an item was given by a completion of it
given_by : (fs : List Fact) (p : List Part) (out : Container) → output_of fs p ≡ Some out → (f : Fact) × Contains fs f × (f.item.parts ≡ p)
given_by [] p out h = absurd (no_some h)
  where
    no_some : None ≡ Some out → ⊥
    no_some h = cc
given_by (f ∷ fs) p out h = go (same_parts f.item.parts p) refl (given_by fs p out)
  where
    go : (b : Bool) → same_parts f.item.parts p ≡ b → (output_of fs p ≡ Some out → (e : Fact) × Contains fs e × (e.item.parts ≡ p)) → (e : Fact) × Contains (f ∷ fs) e × (e.item.parts ≡ p)
    go true is rest = (f, (0, omega arith, refl), parts_one f.item.parts p is)
    go false is rest = let r = rest (rw is at h) in let there = r.1 in (r.0, (suc there.0, omega (arith, there.1), there.2), r.2)

pub path_given : (path : List Part) (k : Known) (p : List Part) → (at_path path k).given p ≡ k.given (path ++ p)
path_given [] k p = refl
path_given (q ∷ path) k p = path_given path (at q k) p

pub fact_below : (most : ℕ) (fs : List Fact) (path : List Part) → HasGiven (at_path path (by_facts most fs)) → HasFactBelow fs path
fact_below most fs path given =
    let h : output_of fs (path ++ given.0 ∷ given.1) ≡ Some given.2 = sym (path_given path (by_facts most fs) (given.0 ∷ given.1)) ∙ given.3 in
    let f = given_by fs (path ++ given.0 ∷ given.1) given.2 h in
    (f.0, f.1, given.0, given.1, f.2)

-- where the list gives nothing, what follows decides
output_of-append_none : (fs later : List Fact) (p : List Part) → output_of fs p ≡ None → output_of (fs ++ later) p ≡ output_of later p
output_of-append_none [] later p h = refl
output_of-append_none (f ∷ fs) later p h = go (same_parts f.item.parts p) refl (output_of-append_none fs later p)
  where
    go : (b : Bool) → same_parts f.item.parts p ≡ b → (output_of fs p ≡ None → output_of (fs ++ later) p ≡ output_of later p)
        → output_of ((f ∷ fs) ++ later) p ≡ output_of later p
    go true is rest = let wrong : Some f.output ≡ None = rw is at h in let n : ⊥ = cc in absurd n
    go false is rest = rw is (rest (rw is at h))

pub tell_same : (most : ℕ) (fs fs' : List Fact) → ((p : List Part) → output_of fs p ≡ output_of fs' p) → TellSame most fs fs'
tell_same most fs fs' same = record {
  known = known;
  rows = λ ts g root input. ap (λ k. rows ts deepest k g input (record { root = root; parts = [] })) known;
  output = λ ts g input. ap (λ k. output ts (suc deepest) k g input) known;
}
  where
    by_outputs : (List Part → Option Container) → Known
    by_outputs given = record { most = most; begun = λ p. true; closed = λ p. true; sent = λ p a b v. v; given = given }

    known : by_facts most fs' ≡ by_facts most fs
    known = ap by_outputs (sym (fun_ext same))

-- a completion of an item that was accepted adds nothing
pub later_adds_nothing : (fs : List Fact) (f : Fact) (out : Container) → output_of fs f.item.parts ≡ Some out
    → (p : List Part) → output_of fs p ≡ output_of (fs ++ f ∷ []) p
later_adds_nothing fs f out accepted p = go (output_of fs p) refl
  where
    others : (b : Bool) → same_parts f.item.parts p ≡ b → output_of fs p ≡ None → None ≡ output_of (f ∷ []) p
    others false is none = rw is refl
    others true is none =
        let there : output_of fs p ≡ Some out = ap (output_of fs) (sym (parts_one f.item.parts p is)) ∙ accepted in
        let wrong : None ≡ Some out = sym none ∙ there in
        let n : ⊥ = cc in
        absurd n

    go : (o : Option Container) → output_of fs p ≡ o → output_of fs p ≡ output_of (fs ++ f ∷ []) p
    go None is = is ∙ others (same_parts f.item.parts p) refl is ∙ sym (output_of-append_none fs (f ∷ []) p is)
    go (Some o) is = is ∙ sym (output_of-append fs (f ∷ []) p o is)
