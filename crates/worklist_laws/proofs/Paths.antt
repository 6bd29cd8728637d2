-- Whether two paths are one, and what is told of each path but one.
use Rattle.std.proofs.Common.{◌≡◌, ◌≢◌, ℕ, ◌⊎◌, inl, inr, Bool, true, false, cond, List, refl, ap, ap₂, sym, ◌∙◌}
use Rattle.std.specs.Prelude.{◌==◌, ◌&&◌}
use Rattle.fate_laws.proofs.Items.{eqb_itself, eqb_one, parts_itself, parts_one}
use Rattle.flow_model.specs.Rows.{same_parts}
use Rattle.flow_model.specs.declared.instances.Part.{Part}
use Rattle.flow_model.specs.declared.instances.Path.{Path}

-- the paths have the same root and the same parts
abbrev pub same_path : Path → Path → Bool
same_path p q = same_parts p.parts q.parts && (p.root == q.root)

pub path_one : (p q : Path) → p.root ≡ q.root → p.parts ≡ q.parts → p ≡ q
path_one p q roots parts = ap₂ (λ (r : ℕ) (ps : List Part). let x : Path = record { root = r; parts = ps } in x) roots parts

pub path_tells : (p q : Path) → ((same_path p q ≡ true) × (p ≡ q)) ⊎ ((same_path p q ≡ false) × (p ≢ q))
path_tells p q = by (same_parts p.parts q.parts) refl (p.root == q.root) refl
  where
    never : {A : Type 0} → true ≡ false → A
    never n = absurd (let m : ⊥ = cc in m)

    by : (b : Bool) → same_parts p.parts q.parts ≡ b → (d : Bool) → (p.root == q.root) ≡ d → ((same_path p q ≡ true) × (p ≡ q)) ⊎ ((same_path p q ≡ false) × (p ≢ q))
    by true parts true roots = inl (ap₂ (λ b d. b && d) parts roots, path_one p q (eqb_one p.root q.root roots) (parts_one p.parts q.parts parts))
    by true parts false roots = inr (ap₂ (λ b d. b && d) parts roots, λ same. never (sym (eqb_itself p.root) ∙ ap (λ (x : Path). p.root == x.root) same ∙ roots))
    by false parts d roots = inr (ap (λ b. b && (p.root == q.root)) parts, λ same. never (sym (parts_itself p.parts) ∙ ap (λ (x : Path). same_parts p.parts x.parts) same ∙ parts))

-- this is told of one path, and of each other one what was
abbrev pub told_of : {X : Type 0} → Path → X → (Path → X) → Path → X
told_of p x f q = cond (same_path q p) x (f q)

pub told_here : {X : Type 0} (p : Path) (x : X) (f : Path → X) → told_of p x f p ≡ x
told_here p x f = elim (path_tells p p) [ inl is ↦ ap (λ b. cond b x (f p)) is.0 | inr other ↦ absurd (other.1 refl) ]

pub told_other : {X : Type 0} (p : Path) (x : X) (f : Path → X) (q : Path) → q ≢ p → told_of p x f q ≡ f q
told_other p x f q apart = elim (path_tells q p) [ inl is ↦ absurd (apart is.1) | inr other ↦ ap (λ b. cond b x (f q)) other.0 ]
