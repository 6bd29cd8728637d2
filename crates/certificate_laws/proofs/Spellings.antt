-- Paths that are written alike are one, where their names and numbers are as they are read.
use Rattle.std.proofs.Common.{◌≡◌, ℕ, suc, ◌<◌, ◌≤◌, Bool, true, false, ◌&&◌, List, [], ◌∷◌, ◌++◌, length, append_assoc, decimal, refl, sym, ap, subst, ◌∙◌, arith}
use Rattle.std.specs.Prelude.{bytes_eq, nat_le, ◌^◌, Option, Some, if◌then◌else◌}
use Rattle.std.specs.List.{All, list_all}
use Rattle.std.specs.Char.{is_ascii_alphabetic, digit_value}
use Rattle.std.specs.Str.Parse.{AllDigits}
use Rattle.std.proofs.lemmas.Bool.{false≢true}
use Rattle.std.proofs.lemmas.Fmt.{decimal_injective, decimal_is_IsNumeral}
use Rattle.std.proofs.lemmas.Slice.Eq.{bytes_eq-Decides}
use Rattle.flow_model.specs.declared.graphs.Container.{Container}
use Rattle.flow_model.specs.declared.instances.Fact.{Fact}
use Rattle.flow_model.specs.declared.instances.Part.{Part}
use Rattle.flow_model.specs.declared.instances.Path.{Path}
use Rattle.flow_model.specs.Paths.{parts_spelling, spelling, IsStep}
use Rattle.flow_model.specs.Rows.{same_parts, output_of}
use Rattle.flow_model.specs.Scopes.{part}
use Rattle.flow_model.specs.Words.{is_name, is_name_byte}
use Rattle.fate_laws.proofs.Extends.{and_true}
use Rattle.fate_laws.proofs.Items.{parts_itself, parts_one}
use Rattle.certificates.specs.Told.{same_path, accepted}
use Rattle.certificate_laws.specs.Right.{IsRead, AreOwn}

-- a byte doesn't stand in a list
abbrev pub Lacks : ℕ → List ℕ → Type 0
Lacks c [] = Unit {0}
Lacks c (x ∷ xs) = (x ≡ c → ⊥) × Lacks c xs

head_same : (x y : ℕ) (xs ys : List ℕ) → x ∷ xs ≡ y ∷ ys → x ≡ y
head_same x y xs ys e = cc

tail_same : (x y : ℕ) (xs ys : List ℕ) → x ∷ xs ≡ y ∷ ys → xs ≡ ys
tail_same x y xs ys e = cc

-- lists that end before the first of a byte
pub split_same : (c : ℕ) (xs ys as_ bs : List ℕ) → Lacks c xs → Lacks c ys → xs ++ c ∷ as_ ≡ ys ++ c ∷ bs → (xs ≡ ys) × (as_ ≡ bs)
split_same c [] [] as_ bs l m e = (refl, tail_same c c as_ bs e)
split_same c [] (y ∷ ys) as_ bs l m e = absurd (m.0 (sym (head_same c y as_ (ys ++ c ∷ bs) e)))
split_same c (x ∷ xs) [] as_ bs l m e = absurd (l.0 (head_same x c (xs ++ c ∷ as_) bs e))
split_same c (x ∷ xs) (y ∷ ys) as_ bs l m e =
    let rest = split_same c xs ys as_ bs l.1 m.1 (tail_same x y (xs ++ c ∷ as_) (ys ++ c ∷ bs) e) in
    let first = head_same x y (xs ++ c ∷ as_) (ys ++ c ∷ bs) e in
    (ap (λ z. z ∷ xs) first ∙ ap (λ zs. y ∷ zs) rest.0, rest.1)

lacks_by : (test : ℕ → Bool) (c : ℕ) → test c ≡ false → (xs : List ℕ) → list_all test xs ≡ true → Lacks c xs
lacks_by test c none [] all = tt
lacks_by test c none (x ∷ xs) all =
    let both = and_true (test x) _ all in
    (λ e. false≢true (sym none ∙ ap test (sym e) ∙ both.0), lacks_by test c none xs both.1)

digits_lack : (xs : List ℕ) → AllDigits 10 xs → Lacks 47 xs
digits_lack [] all = tt
digits_lack (x ∷ xs) all = (λ e. not_digit (subst (λ y. digit_value y < 10) e all.0), digits_lack xs all.1)
  where
    not_digit : digit_value 47 < 10 → ⊥
    not_digit h = omega arith

decimal_lacks : (n : ℕ) → n < 2 ^ 64 → Lacks 47 (decimal n)
decimal_lacks n small = digits_lack (decimal n) (decimal_is_IsNumeral n small).0.1

name_lacks : (name : List ℕ) → is_name name ≡ true → Lacks 35 name
name_lacks [] h = tt
name_lacks (x ∷ xs) h =
    let outer = and_true (is_ascii_alphabetic x && nat_le (length xs) 31) (list_all is_name_byte xs) h in
    let first = and_true (is_ascii_alphabetic x) _ outer.0 in
    (λ e. false≢true (ap is_ascii_alphabetic (sym e) ∙ first.0), lacks_by is_name_byte 35 refl xs outer.1)

-- what stands behind the first byte of what is written of parts, with a `/` at the end
abbrev behind : List Part → List ℕ
behind [] = []
behind (q ∷ qs) = q.name ++ 35 ∷ (decimal q.attempt ++ 47 ∷ behind qs)

closed_spelling : (qs : List Part) → parts_spelling qs ++ 47 ∷ [] ≡ 47 ∷ behind qs
closed_spelling [] = refl
closed_spelling (q ∷ qs) =
    ap (λ (l : List ℕ). 47 ∷ l)
    (append_assoc (q.name ++ 35 ∷ decimal q.attempt) (parts_spelling qs) (47 ∷ [])
    ∙ append_assoc q.name (35 ∷ decimal q.attempt) (parts_spelling qs ++ 47 ∷ [])
    ∙ ap (λ (l : List ℕ). q.name ++ 35 ∷ (decimal q.attempt ++ l)) (closed_spelling qs))

pub record IsWritten (q : Part) : Type 0 where
  pub named : is_name q.name ≡ true
  pub small : q.attempt < 2 ^ 64

abbrev AreWritten : List Part → Type 0
AreWritten [] = Unit {0}
AreWritten (q ∷ qs) = IsWritten q × AreWritten qs

not_empty : (xs : List ℕ) (y : ℕ) (ys : List ℕ) → [] ≡ xs ++ y ∷ ys → ⊥
not_empty [] y ys e = cc
not_empty (x ∷ xs) y ys e = cc

behind_same : (ps qs : List Part) → AreWritten ps → AreWritten qs → behind ps ≡ behind qs → ps ≡ qs
behind_same [] [] w v e = refl
behind_same [] (q ∷ qs) w v e = absurd (not_empty q.name 35 _ e)
behind_same (p ∷ ps) [] w v e = absurd (not_empty p.name 35 _ (sym e))
behind_same (p ∷ ps) (q ∷ qs) w v e =
    let first = split_same 35 p.name q.name (decimal p.attempt ++ 47 ∷ behind ps) (decimal q.attempt ++ 47 ∷ behind qs) (name_lacks p.name w.0.named) (name_lacks q.name v.0.named) e in
    let second = split_same 47 (decimal p.attempt) (decimal q.attempt) (behind ps) (behind qs) (decimal_lacks p.attempt w.0.small) (decimal_lacks q.attempt v.0.small) first.1 in
    let attempts = decimal_injective p.attempt q.attempt w.0.small v.0.small second.0 in
    let rest = behind_same ps qs w.1 v.1 second.1 in
    ap (λ n. part n p.attempt ∷ ps) first.0 ∙ ap (λ j. part q.name j ∷ ps) attempts ∙ ap (λ rs. q ∷ rs) rest

module _ (most : ℕ) (bounded : most < 2 ^ 64) where
  written : (qs : List Part) → All IsStep qs → All (λ (q : Part). q.attempt ≤ most) qs → AreWritten qs
  written [] parts few = tt
  written (q ∷ qs) parts few =
      let one = parts 0 q (omega arith) in
      let small = few 0 q (omega arith) in
      (record { named = one.named; small = omega (arith, small) }, written qs (λ k d less. parts (suc k) d (omega arith)) (λ k d less. few (suc k) d (omega arith)))

  spelled_closed : (p : Path) → spelling p ++ 47 ∷ [] ≡ decimal p.root ++ 47 ∷ behind p.parts
  spelled_closed p = append_assoc (decimal p.root) (parts_spelling p.parts) (47 ∷ []) ∙ ap (λ (l : List ℕ). decimal p.root ++ l) (closed_spelling p.parts)

  path_same : (p q : Path) → p.root ≡ q.root → p.parts ≡ q.parts → p ≡ q
  path_same p q roots parts =
      ap (λ (r : ℕ). path r p.parts) roots ∙ ap (λ (l : List Part). path q.root l) parts
    where
      path : ℕ → List Part → Path
      path r l = record { root = r; parts = l }

  pub apart : (p q : Path) → IsRead most p → IsRead most q → same_path p q ≡ true → p ≡ q
  apart p q read read_ same =
      let spelt : spelling p ≡ spelling q = (bytes_eq-Decides (spelling p) (spelling q)).0 same in
      let e = sym (spelled_closed p) ∙ ap (λ (l : List ℕ). l ++ 47 ∷ []) spelt ∙ spelled_closed q in
      let split = split_same 47 (decimal p.root) (decimal q.root) (behind p.parts) (behind q.parts) (decimal_lacks p.root read.path.small) (decimal_lacks q.root read_.path.small) e in
      path_same p q (decimal_injective p.root q.root read.path.small read_.path.small split.0)
      (behind_same p.parts q.parts (written p.parts read.path.steps read.few) (written q.parts read_.path.steps read_.few) split.1)

  module _ (root : ℕ) (p : Path) (read : IsRead most p) (own : p.root ≡ root) where
    same_tests : (f : Fact) → IsRead most f.item × (f.item.root ≡ root) → same_path f.item p ≡ same_parts f.item.parts p.parts
    same_tests f is = go (same_parts f.item.parts p.parts) refl (same_path f.item p) refl
      where
        go : (b : Bool) → same_parts f.item.parts p.parts ≡ b → (c : Bool) → same_path f.item p ≡ c → same_path f.item p ≡ same_parts f.item.parts p.parts
        go true parts c paths =
            let e : f.item ≡ p = path_same f.item p (is.1 ∙ sym own) (parts_one f.item.parts p.parts parts) in
            ap (λ (q : Path). bytes_eq (spelling q) (spelling p)) e ∙ (bytes_eq-Decides (spelling p) (spelling p)).1 refl ∙ sym parts
        go false parts false paths = paths ∙ sym parts
        go false parts true paths =
            let e : f.item ≡ p = apart f.item p is.0 read paths in
            absurd (false≢true (sym parts ∙ ap (λ (q : Path). same_parts q.parts p.parts) e ∙ parts_itself p.parts))

    -- the output that was accepted of an item is that of its parts
    pub accepted_is : (fs : List Fact) → AreOwn most root fs → accepted fs p ≡ output_of fs p.parts
    accepted_is [] all = refl
    accepted_is (f ∷ fs) all =
        ap (λ (b : Bool). if b then Some f.output else accepted fs p) (same_tests f (all 0 f (omega arith)))
        ∙ ap (λ (o : Option Container). if same_parts f.item.parts p.parts then Some f.output else o) (accepted_is fs (λ k d less. all (suc k) d (omega arith)))
