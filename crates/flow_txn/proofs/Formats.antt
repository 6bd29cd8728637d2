-- What it means that a reader reads what was spelled, and how such readers are joined.
use Rattle.std.proofs.Common.{◌≡◌, ℕ, zero, suc, ◌+◌, ◌<◌, Bool, true, false, cond, eqb, List, [], ◌∷◌, ◌++◌, length, get_or, take, drop, Option, Some, None, refl, sym, ap, subst, ◌∙◌, append_assoc, arith, inl, inr}
use Rattle.std.specs.List.{flat_map, AllByRecursion}
use Rattle.std.proofs.lemmas.Bool.{cases_lt, eqb-true, eqb-false}
use Rattle.std.proofs.lemmas.List.{length-take, get_or-drop, get_or-take, get_or_past}
use Rattle.std.proofs.lemmas.List.Concat.{flat_map-cons}
use Rattle.flow_txn.specs.Reading.{◌>>=◌, both, by, checked, made, many}

abbrev pub IsBytes : List ℕ → Type 0
IsBytes bytes = (i : ℕ) → get_or bytes i 0 < 256

pub IsBytes-drop : (n : ℕ) (bytes : List ℕ) → IsBytes bytes → IsBytes (drop n bytes)
IsBytes-drop n bytes h i = rw get_or-drop (h (n + i))

pub IsBytes-take : (n : ℕ) (bytes : List ℕ) → IsBytes bytes → IsBytes (take n bytes)
IsBytes-take n bytes h i =
    elim (cases_lt i n) [
      | inl lt ↦ rw (get_or-take n bytes i 0 lt) (h i)
      | inr le ↦ rw (get_or_past (take n bytes) i 0 (omega (arith, length-take n bytes))) (omega arith)
    ]

-- ---- a step that gave something

pub some_is : {A : Type 0} (x y : A) → Some x ≡ Some y → x ≡ y
some_is x y e = cc

pub bind_some : {A B : Type 0} (r : Option A) (f : A → Option B) (y : B) → (r >>= f) ≡ Some y → (x : A) × (r ≡ Some x) × (f x ≡ Some y)
bind_some (Some x) f y e = (x, refl, e)
bind_some None f y e = absurd cc

pub guard_some : {A : Type 0} (b : Bool) (x y : A) → cond b (Some x) None ≡ Some y → (b ≡ true) × (x ≡ y)
guard_some true x y e = (refl, cc)
guard_some false x y e = absurd cc

pub guard_none : {A : Type 0} (b : Bool) (x y : A) → cond b None (Some x) ≡ Some y → (b ≡ false) × (x ≡ y)
guard_none true x y e = absurd cc
guard_none false x y e = (refl, cc)

-- ---- formats

-- what was taken from the front of bytes: a value that fits and is spelled so, and bytes
pub record Takes {A : Type 0} (spell : A → List ℕ) (Fits : A → Type 0) (bytes : List ℕ) (x : A × List ℕ) : Type 0 where
  pub parts : bytes ≡ spell x.0 ++ x.1
  pub fits : Fits x.0
  pub rest : IsBytes x.1

-- what is read is spelled so and fits, and what is spelled so and fits is read
pub record IsFormat {A : Type 0} (spell : A → List ℕ) (Fits : A → Type 0) (read : List ℕ → Option (A × List ℕ)) : Type 0 where
  pub takes : (bytes : List ℕ) (x : A × List ℕ) → IsBytes bytes → read bytes ≡ Some x → Takes spell Fits bytes x
  pub again : (a : A) (rest : List ℕ) → Fits a → read (spell a ++ rest) ≡ Some (a, rest)

-- another word for what fits
pub IsFormat-fits : {A : Type 0} (spell : A → List ℕ) (F G : A → Type 0) (read : List ℕ → Option (A × List ℕ)) → ((a : A) → F a → G a) → ((a : A) → G a → F a) → IsFormat spell F read → IsFormat spell G read
IsFormat-fits spell F G read to from f = record {
  takes = λ bytes x b e. let t = f.takes bytes x b e in record { parts = t.parts; fits = to x.0 t.fits; rest = t.rest };
  again = λ a rest g. f.again a rest (from a g);
}

-- another word for the spelling, of what fits
pub IsFormat-spell : {A : Type 0} (s t : A → List ℕ) (F : A → Type 0) (read : List ℕ → Option (A × List ℕ)) → ((a : A) → F a → s a ≡ t a) → IsFormat s F read → IsFormat t F read
IsFormat-spell {A} s t F read same f = record {
  takes = λ bytes x b e. let u = f.takes bytes x b e in record { parts = u.parts ∙ ap (λ (w : List ℕ). w ++ x.1) (same x.0 u.fits); fits = u.fits; rest = u.rest };
  again = λ a rest g. ap (λ (w : List ℕ). read (w ++ rest)) (sym (same a g)) ∙ f.again a rest g;
}

-- the same bytes read the same way
pub IsFormat-read : {A : Type 0} (spell : A → List ℕ) (F : A → Type 0) (q r : List ℕ → Option (A × List ℕ)) → ((bytes : List ℕ) → q bytes ≡ r bytes) → IsFormat spell F q → IsFormat spell F r
IsFormat-read spell F q r same f = record {
  takes = λ bytes x b e. f.takes bytes x b (same bytes ∙ e);
  again = λ a rest g. sym (same (spell a ++ rest)) ∙ f.again a rest g;
}

pub IsFormat-both : {A B : Type 0} (sa : A → List ℕ) (sb : B → List ℕ) (FA : A → Type 0) (FB : B → Type 0) (ra : List ℕ → Option (A × List ℕ)) (rb : List ℕ → Option (B × List ℕ))
    → IsFormat sa FA ra → IsFormat sb FB rb → IsFormat (λ (x : A × B). sa x.0 ++ sb x.1) (λ (x : A × B). FA x.0 × FB x.1) (both ra rb)
IsFormat-both {A} {B} sa sb FA FB ra rb f g = record {
  takes = λ bytes x b e.
      let p = bind_some (ra bytes) (λ (a : A × List ℕ). rb a.1 >>= λ (y : B × List ℕ). Some ((a.0, y.0), y.1)) x e in
      let q = bind_some (rb p.0.1) (λ (y : B × List ℕ). Some ((p.0.0, y.0), y.1)) x p.2 in
      let t = f.takes bytes p.0 b p.1 in
      let u = g.takes p.0.1 q.0 t.rest q.1 in
      let whole : bytes ≡ (sa p.0.0 ++ sb q.0.0) ++ q.0.1 = t.parts ∙ ap (λ (w : List ℕ). sa p.0.0 ++ w) u.parts ∙ sym (append_assoc (sa p.0.0) (sb q.0.0) q.0.1) in
      let made' : (A × B) × List ℕ = ((p.0.0, q.0.0), q.0.1) in
      let all : Takes (λ (z : A × B). sa z.0 ++ sb z.1) (λ (z : A × B). FA z.0 × FB z.1) bytes made' = record { parts = whole; fits = (t.fits, u.fits); rest = u.rest } in
      subst (λ (z : (A × B) × List ℕ). Takes (λ (z : A × B). sa z.0 ++ sb z.1) (λ (z : A × B). FA z.0 × FB z.1) bytes z) (some_is made' x q.2) all;
  again = λ a rest h.
      ap (both ra rb) (append_assoc (sa a.0) (sb a.1) rest) ∙ rw (f.again a.0 (sb a.1 ++ rest) h.0, g.again a.1 rest h.1) refl;
}

pub IsFormat-made : {A B : Type 0} (to : A → B) (sa : A → List ℕ) (sb : B → List ℕ) (FA : A → Type 0) (FB : B → Type 0) (ra : List ℕ → Option (A × List ℕ))
    → ((a : A) → FA a → (sb (to a) ≡ sa a) × FB (to a)) → ((b : B) → FB b → (a : A) × (to a ≡ b) × FA a) → IsFormat sa FA ra → IsFormat sb FB (made to ra)
IsFormat-made {A} {B} to sa sb FA FB ra there back f = record {
  takes = λ bytes x b e.
      let p = bind_some (ra bytes) (λ (a : A × List ℕ). Some (to a.0, a.1)) x e in
      let t = f.takes bytes p.0 b p.1 in
      let h = there p.0.0 t.fits in
      let made' : B × List ℕ = (to p.0.0, p.0.1) in
      let all : Takes sb FB bytes made' = record { parts = t.parts ∙ ap (λ (w : List ℕ). w ++ p.0.1) (sym h.0); fits = h.1; rest = t.rest } in
      subst (λ (z : B × List ℕ). Takes sb FB bytes z) (some_is made' x p.2) all;
  again = λ b rest h.
      let k = back b h in
      let same : sb b ≡ sa k.0 = ap sb (sym k.1) ∙ (there k.0 k.2).0 in
      ap (λ (w : List ℕ). made to ra (w ++ rest)) same ∙ rw (f.again k.0 rest k.2) (ap (λ (z : B). Some (z, rest)) k.1);
}

pub IsFormat-checked : {A : Type 0} (test : A → Bool) (sa : A → List ℕ) (FA : A → Type 0) (ra : List ℕ → Option (A × List ℕ)) → IsFormat sa FA ra → IsFormat sa (λ (a : A). FA a × (test a ≡ true)) (checked test ra)
IsFormat-checked {A} test sa FA ra f = record {
  takes = λ bytes x b e.
      let p = bind_some (ra bytes) (λ (a : A × List ℕ). cond (test a.0) (Some a) None) x e in
      let g = guard_some (test p.0.0) p.0 x p.2 in
      let t = f.takes bytes p.0 b p.1 in
      let all : Takes sa (λ (a : A). FA a × (test a ≡ true)) bytes p.0 = record { parts = t.parts; fits = (t.fits, g.0); rest = t.rest } in
      subst (λ (z : A × List ℕ). Takes sa (λ (a : A). FA a × (test a ≡ true)) bytes z) g.1 all;
  again = λ a rest h. rw (f.again a rest h.0, h.1) refl;
}

-- a first part decides how the second one is read; the second has a form for each first
pub IsFormat-by : {A B : Type 0} (tag : B → A) (sa : A → List ℕ) (sb : B → List ℕ) (FA : A → Type 0) (FB : B → Type 0) (ra : List ℕ → Option (A × List ℕ)) (rb : A → List ℕ → Option (B × List ℕ))
    → IsFormat sa FA ra → ((a : A) → FA a → IsFormat sb (λ (b : B). FB b × (tag b ≡ a)) (rb a)) → ((b : B) → FB b → FA (tag b)) → IsFormat (λ (b : B). sa (tag b) ++ sb b) FB (by ra rb)
IsFormat-by {A} {B} tag sa sb FA FB ra rb f g fits = record {
  takes = λ bytes x b e.
      let p = bind_some (ra bytes) (λ (a : A × List ℕ). rb a.0 a.1) x e in
      let t = f.takes bytes p.0 b p.1 in
      let u = (g p.0.0 t.fits).takes p.0.1 x t.rest p.2 in
      record {
        parts = t.parts ∙ ap (λ (w : List ℕ). sa p.0.0 ++ w) u.parts ∙ sym (append_assoc (sa p.0.0) (sb x.0) x.1) ∙ ap (λ (a : A). (sa a ++ sb x.0) ++ x.1) (sym u.fits.1);
        fits = u.fits.0;
        rest = u.rest;
      };
  again = λ b rest h.
      ap (by ra rb) (append_assoc (sa (tag b)) (sb b) rest) ∙ rw (f.again (tag b) (sb b ++ rest) (fits b h)) ((g (tag b) (fits b h)).again b rest (h, refl));
}

-- so many of them
pub IsFormat-many : {A : Type 0} (sa : A → List ℕ) (FA : A → Type 0) (ra : List ℕ → Option (A × List ℕ)) (f : IsFormat sa FA ra) (n : ℕ) → IsFormat (flat_map sa) (λ (xs : List A). AllByRecursion FA xs × (length xs ≡ n)) (many ra n)
IsFormat-many {A} sa FA ra f n = record { takes = many_takes n; again = λ xs rest h. subst (λ (k : ℕ). many ra k (flat_map sa xs ++ rest) ≡ Some (xs, rest)) h.1 (many_again xs rest h.0) }
  where
    many_takes : (n : ℕ) (bytes : List ℕ) (x : List A × List ℕ) → IsBytes bytes → many ra n bytes ≡ Some x → Takes (flat_map sa) (λ (xs : List A). AllByRecursion FA xs × (length xs ≡ n)) bytes x
    many_takes zero bytes x b e =
        subst (λ (z : List A × List ℕ). Takes (flat_map sa) (λ (xs : List A). AllByRecursion FA xs × (length xs ≡ 0)) bytes z) (some_is ([], bytes) x e) (record { parts = refl; fits = (tt, refl); rest = b })
    many_takes (suc n) bytes x b e =
        let p = bind_some (ra bytes) (λ (a : A × List ℕ). many ra n a.1 >>= λ (y : List A × List ℕ). Some (a.0 ∷ y.0, y.1)) x e in
        let q = bind_some (many ra n p.0.1) (λ (y : List A × List ℕ). Some (p.0.0 ∷ y.0, y.1)) x p.2 in
        let t = f.takes bytes p.0 b p.1 in
        let u = many_takes n p.0.1 q.0 t.rest q.1 in
        let made' : List A × List ℕ = (p.0.0 ∷ q.0.0, q.0.1) in
        let whole : bytes ≡ flat_map sa (p.0.0 ∷ q.0.0) ++ q.0.1 = t.parts ∙ ap (λ (w : List ℕ). sa p.0.0 ++ w) u.parts ∙ sym (append_assoc (sa p.0.0) (flat_map sa q.0.0) q.0.1) ∙ ap (λ (w : List ℕ). w ++ q.0.1) (sym (flat_map-cons sa p.0.0 q.0.0)) in
        let all : Takes (flat_map sa) (λ (xs : List A). AllByRecursion FA xs × (length xs ≡ suc n)) bytes made' = record { parts = whole; fits = ((t.fits, u.fits.0), ap suc u.fits.1); rest = u.rest } in
        subst (λ (z : List A × List ℕ). Takes (flat_map sa) (λ (xs : List A). AllByRecursion FA xs × (length xs ≡ suc n)) bytes z) (some_is made' x q.2) all

    many_again : (xs : List A) (rest : List ℕ) → AllByRecursion FA xs → many ra (length xs) (flat_map sa xs ++ rest) ≡ Some (xs, rest)
    many_again [] rest h = refl
    many_again (x ∷ xs) rest h =
        let regrouped : flat_map sa (x ∷ xs) ++ rest ≡ sa x ++ (flat_map sa xs ++ rest) = ap (λ (w : List ℕ). w ++ rest) (flat_map-cons sa x xs) ∙ append_assoc (sa x) (flat_map sa xs) rest in
        ap (many ra (suc (length xs))) regrouped ∙ rw (f.again x (flat_map sa xs ++ rest) h.0, many_again xs rest h.1) refl

-- ---- choices

pub IsFormat-cond : {A : Type 0} (spell : A → List ℕ) (F : A → Type 0) (c : Bool) (q r : List ℕ → Option (A × List ℕ)) → (c ≡ true → IsFormat spell F q) → (c ≡ false → IsFormat spell F r) → IsFormat spell F (λ bytes. cond c (q bytes) (r bytes))
IsFormat-cond spell F true q r f g = f refl
IsFormat-cond spell F false q r f g = g refl

-- what has one tag is read one way, what has another tag another way
pub IsFormat-if : {A : Type 0} (spell : A → List ℕ) (G : ℕ → A → Type 0) (k t : ℕ) (q r : List ℕ → Option (A × List ℕ)) → IsFormat spell (G k) q → ((t ≡ k → ⊥) → IsFormat spell (G t) r) → IsFormat spell (G t) (λ bytes. cond (eqb t k) (q bytes) (r bytes))
IsFormat-if {A} spell G k t q r f g = IsFormat-cond spell (G t) (eqb t k) q r
    (λ e. subst (λ (n : ℕ). IsFormat spell (G n) q) (sym (eqb-true t k e)) f)
    (λ e. g (eqb-false t k e))

-- nothing is read where nothing fits
pub IsFormat-none : {A : Type 0} (spell : A → List ℕ) (F : A → Type 0) → ((a : A) → F a → ⊥) → IsFormat spell F (λ bytes. None)
IsFormat-none spell F never = record { takes = λ bytes x b e. absurd cc; again = λ a rest h. absurd (never a h) }
