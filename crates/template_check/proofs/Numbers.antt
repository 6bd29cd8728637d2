-- The persons of a text, and the versions, depths and sizes of its templates, one item after the other.
use Rattle.std.proofs.Common.{◌≡◌, ◌⊎◌, inl, inr, ℕ, zero, suc, ◌+◌, ◌-◌, ◌^◌, ◌<◌, min, List, [], ◌∷◌, ◌++◌, length, get_or, take, map, Some, None, refl, sym, ap, subst, ◌∙◌, arith}
use Rattle.std.specs.Prelude.{slice_get}
use Rattle.std.proofs.lemmas.List.{map-append}
use Rattle.flow_model.specs.declared.graphs.Library.{Library}
use Rattle.flow_model.specs.declared.graphs.PersonDef.{PersonDef}
use Rattle.flow_model.specs.declared.graphs.Template.{Template}
use Rattle.flow_model.specs.declared.trees.ItemTree.{ItemTree}
use Rattle.flow_model.specs.declared.trees.PersonTree.{PersonTree}
use Rattle.flow_model.specs.declared.trees.ProcessTree.{ProcessTree}
use Rattle.process_rules.specs.Imports.{next_version}
use Rattle.process_rules.specs.Shapes.{shape_at, shapes_of, told_shape}
use Rattle.process_rules.specs.declared.sizes.Shape.{Shape}
use Rattle.template_check.specs.Compiling.{declared_person, declared_people, HaveNumbers, HasShape}
use Rattle.template_check.specs.Numbered.{HasToldShape}
use Rattle.text_graphs.specs.Texts.{people_in, person_of, process_of, processes_in}
use Rattle.template_check.proofs.Meaning.{kind_next, kind_past}

-- the versions of templates, and those that come next for processes
abbrev pub versions_of : List Template → List ℕ
versions_of ts = map (λ t. t.version) ts

abbrev pub next_versions : Library → List ProcessTree → List ℕ
next_versions library ps = map (λ p. next_version library p.name.name) ps

-- ---- persons

module _ (items : List ItemTree) (i : ℕ) (x : ItemTree) (less : i < length items) (is : x ≡ get_or items i x) where
  pub people_past : (people : List PersonDef) → person_of x ≡ None → people ≡ declared_people (take i items) → people ≡ declared_people (take (i + 1) items)
  people_past people none so_far = so_far ∙ ap (map declared_person) (sym (kind_past person_of items i x less is none))

  pub people_next : (people next : List PersonDef) (q : PersonDef) (p : PersonTree) → person_of x ≡ Some p → next ≡ people ++ q ∷ [] → q ≡ declared_person p
      → people ≡ declared_people (take i items) → next ≡ declared_people (take (i + 1) items)
  people_next people next q p some now made so_far =
      now ∙ ap (λ (ps : List PersonDef). ps ++ q ∷ []) so_far ∙ ap (λ (r : PersonDef). declared_people (take i items) ++ r ∷ []) made
      ∙ sym (ap (map declared_person) (kind_next person_of items i x p less is some) ∙ map-append declared_person (people_in (take i items)) (p ∷ []))

  -- ---- versions

  pub versions_past : (library : Library) (ts : List Template) → process_of x ≡ None
      → versions_of ts ≡ next_versions library (processes_in (take i items)) → versions_of ts ≡ next_versions library (processes_in (take (i + 1) items))
  versions_past library ts none so_far = so_far ∙ ap (next_versions library) (sym (kind_past process_of items i x less is none))

  pub versions_next : (library : Library) (ts next : List Template) (t : Template) (p : ProcessTree) → process_of x ≡ Some p → next ≡ ts ++ t ∷ []
      → t.version ≡ next_version library p.name.name
      → versions_of ts ≡ next_versions library (processes_in (take i items)) → versions_of next ≡ next_versions library (processes_in (take (i + 1) items))
  versions_next library ts next t p some now version so_far =
      ap versions_of now ∙ map-append (λ (u : Template). u.version) ts (t ∷ []) ∙ ap (λ (ns : List ℕ). ns ++ t.version ∷ []) so_far
      ∙ ap (λ (n : ℕ). next_versions library (processes_in (take i items)) ++ n ∷ []) version
      ∙ sym (ap (next_versions library) (kind_next process_of items i x p less is some)
      ∙ map-append (λ (q : ProcessTree). next_version library q.name.name) (processes_in (take i items)) (p ∷ []))

-- ---- shapes

get_cases : {X : Type 0} (xs : List X) (y : X) (i : ℕ) (x : X) → slice_get (xs ++ y ∷ []) i ≡ Some x → (slice_get xs i ≡ Some x) ⊎ ((i ≡ length xs) × (y ≡ x))
get_cases [] y zero x e = inr (refl, cc)
get_cases [] y (suc i) x e = cc
get_cases (z ∷ xs) y zero x e = inl e
get_cases (z ∷ xs) y (suc i) x e = elim (get_cases xs y i x e) [ inl l ↦ inl l | inr r ↦ inr (ap suc r.0, r.1) ]

-- each template has the shape of its number, as it is told
abbrev pub AreTold : List Shape → List Template → Type 0
AreTold shapes ts = (number : ℕ) (t : Template) → slice_get ts number ≡ Some t → HasToldShape t (shape_at shapes number)

pub told_next : (shapes : List Shape) (ts next : List Template) (t : Template) (number : ℕ) → number ≡ length ts → next ≡ ts ++ t ∷ []
    → HasToldShape t (shape_at shapes number) → AreTold shapes ts → AreTold shapes next
told_next shapes ts next t number at now here so_far k u get =
    elim (get_cases ts t k u (ap (λ (us : List Template). slice_get us k) (sym now) ∙ get)) [
      | inl before ↦ so_far k u before
      | inr last ↦ subst (λ (v : Template). HasToldShape v (shape_at shapes k)) last.1 (subst (λ (n : ℕ). HasToldShape t (shape_at shapes n)) (at ∙ sym last.0) here)
    ]

shape_told : (exact : List Shape) (n : ℕ) → shape_at (map told_shape exact) n ≡ told_shape (shape_at exact n)
shape_told [] n = refl
shape_told (s ∷ exact) zero = refl
shape_told (s ∷ exact) (suc n) = shape_told exact n

has_shape : (t : Template) (told exact : Shape) → told ≡ told_shape exact → HasToldShape t told → HasShape t exact
has_shape t told exact is has = record {
  depth = has.depth ∙ ap (λ (s : Shape). s.depth) is;
  size =
      has.size ∙ ap (λ (s : Shape). min s.size (2 ^ 32 - 1)) is
      ∙ (let e : min (min exact.size (2 ^ 64 - 1)) (2 ^ 32 - 1) ≡ min exact.size (2 ^ 32 - 1) = omega arith in e);
}

-- so templates are numbered
pub all_numbered : (library : Library) (processes : List ProcessTree) (ts : List Template) (shapes : List Shape) → shapes ≡ map told_shape (shapes_of library processes)
    → map (λ t. t.version) ts ≡ map (λ p. next_version library p.name.name) processes → AreTold shapes ts → HaveNumbers library processes ts
all_numbered library processes ts shapes are versions told = record {
  versions = versions;
  shaped = λ number t get.
      has_shape t (shape_at shapes number) (shape_at (shapes_of library processes) number)
      (ap (λ (ss : List Shape). shape_at ss number) are ∙ shape_told (shapes_of library processes) number) (told number t get);
}
