-- A text means one list of templates, and declares one list of people.
use Rattle.std.proofs.Common.{◌≡◌, ℕ, suc, ◌+◌, Some, List, [], ◌∷◌, map, refl, sym, ap, ◌∙◌, subst, arith}
use Rattle.std.specs.Prelude.{slice_get}
use Rattle.flow_model.specs.declared.graphs.Library.{Library}
use Rattle.flow_model.specs.declared.graphs.PersonDef.{PersonDef}
use Rattle.flow_model.specs.declared.graphs.Template.{Template}
use Rattle.flow_model.specs.declared.trees.ItemTree.{ItemTree}
use Rattle.flow_model.specs.declared.trees.ProcessTree.{ProcessTree}
use Rattle.flow_model.specs.declared.trees.Tree.{Tree}
use Rattle.process_rules.specs.Shapes.{shape_at, shapes_of}
use Rattle.process_rules.specs.declared.sizes.Shape.{Shape}
use Rattle.template_check.specs.Compiling.{AreLeavesOf, IsReading, HasShape, HaveNumbers, IsNamedBy, IsMeantBy, HasPeopleOf, template_names, process_names, declared_people}
use Rattle.template_check.specs.Meant.{Reading, AreMeantFrom}
use Rattle.text_graphs.specs.GraphTexts.{process_text}
use Rattle.text_graphs.specs.Texts.{processes_in}
use Rattle.text_laws.proofs.Graphs.{meant_one}
use Rattle.text_laws.proofs.Inside.{StandsIn, process_stands}
use Rattle.text_laws.proofs.Trees.{tree_one}

-- ---- templates

template_one : (t u : Template) → t.name ≡ u.name → t.version ≡ u.version → t.graph ≡ u.graph → t.depth ≡ u.depth
    → t.size ≡ u.size → t ≡ u
template_one t u name version graph depth size =
    λ i. record { name = name i; version = version i; graph = graph i; depth = depth i; size = size i }

-- the first of two rows, and the others
heads : {X Y : Type 0} (f : X → Y) (x y : X) (xs ys : List X) → map f (x ∷ xs) ≡ map f (y ∷ ys) → f x ≡ f y
heads f x y xs ys e = cc

tails : {X Y : Type 0} (f : X → Y) (x y : X) (xs ys : List X) → map f (x ∷ xs) ≡ map f (y ∷ ys) → map f xs ≡ map f ys
tails f x y xs ys e = cc

module _ (items : List ItemTree) (r s : Reading)
    (places : (number : ℕ) (name : List ℕ) → r.place number name ≡ s.place number name)
    (first : AreLeavesOf items r.leaves) (second : AreLeavesOf items s.leaves) where
  templates_from : (number : ℕ) (shape : ℕ → Shape) (ps : List ProcessTree) (ts us : List Template)
      → ((k : ℕ) (p : ProcessTree) → slice_get ps k ≡ Some p → StandsIn items (process_text (number + k) p))
      → AreMeantFrom r number ps ts → AreMeantFrom s number ps us
      → map (λ t. t.name) ts ≡ map (λ t. t.name) us → map (λ t. t.version) ts ≡ map (λ t. t.version) us
      → ((k : ℕ) (t : Template) → slice_get ts k ≡ Some t → HasShape t (shape k))
      → ((k : ℕ) (t : Template) → slice_get us k ≡ Some t → HasShape t (shape k)) → ts ≡ us
  templates_from number shape [] [] [] stands h j names versions hs js = refl
  templates_from number shape [] [] (u ∷ us) stands h j names versions hs js = absurd j
  templates_from number shape [] (t ∷ ts) us stands h j names versions hs js = absurd h
  templates_from number shape (p ∷ ps) [] us stands h j names versions hs js = absurd h
  templates_from number shape (p ∷ ps) (t ∷ ts) [] stands h j names versions hs js = absurd j
  templates_from number shape (p ∷ ps) (t ∷ ts) (u ∷ us) stands h j names versions hs js =
      let none : number + 0 ≡ number = omega arith in
      let here : StandsIn items (process_text number p) = subst (λ (n : ℕ). StandsIn items (process_text n p)) none (stands 0 p refl) in
      let graph : t.graph ≡ u.graph = meant_one items r s places first second (process_text number p) here t.graph u.graph h.0 j.0 in
      let a = hs 0 t refl in
      let b = js 0 u refl in
      let head : t ≡ u = template_one t u (heads (λ (x : Template). x.name) t u ts us names) (heads (λ (x : Template). x.version) t u ts us versions) graph (a.depth ∙ sym b.depth) (a.size ∙ sym b.size) in
      let tail : ts ≡ us = templates_from (number + 1) (λ k. shape (suc k)) ps ts us
      (λ k q is. subst (λ (n : ℕ). StandsIn items (process_text n q)) (let e : number + suc k ≡ number + 1 + k = omega arith in e) (stands (suc k) q is))
      h.1 j.1 (tails (λ (x : Template). x.name) t u ts us names) (tails (λ (x : Template). x.version) t u ts us versions)
      (λ k q is. hs (suc k) q is) (λ k q is. js (suc k) q is) in
      ap (λ (x : Template). x ∷ ts) head ∙ ap (λ (xs : List Template). u ∷ xs) tail

-- the templates of the processes of a text
pub templates_of_items : (items : List ItemTree) (library : Library) (r s : Reading)
    → IsReading library items r → IsReading library items s → (ts us : List Template)
    → template_names ts ≡ process_names items → template_names us ≡ process_names items
    → HaveNumbers library (processes_in items) ts → HaveNumbers library (processes_in items) us
    → AreMeantFrom r 0 (processes_in items) ts → AreMeantFrom s 0 (processes_in items) us → ts ≡ us
templates_of_items items library r s rc rd ts us named named' numbers numbers' h j =
    templates_from items r s (λ number name. rc.places number name ∙ sym (rd.places number name))
    rc.leaves rd.leaves 0 (λ k. shape_at (shapes_of library (processes_in items)) k) (processes_in items) ts us
    (λ k p is. subst (λ (n : ℕ). StandsIn items (process_text n p)) (let e : k ≡ 0 + k = omega arith in e) (process_stands items k p is)) h j (named ∙ sym named') (numbers.versions ∙ sym numbers'.versions) numbers.shaped numbers'.shaped

-- ---- texts

pub templates_one : (text : List ℕ) (library : Library) (ts us : List Template)
    → IsNamedBy text ts → IsNamedBy text us → IsMeantBy text library ts → IsMeantBy text library us → ts ≡ us
templates_one text library ts us n m h j =
    let tree = tree_one text h.tree j.tree h.has j.has in
    let first = tree_one text n.tree j.tree n.has j.has in
    let second = tree_one text m.tree j.tree m.has j.has in
    templates_of_items j.tree.items library h.reading j.reading
    (subst (λ (t : Tree). IsReading library t.items h.reading) tree h.read) j.read ts us
    (n.named ∙ ap (λ (t : Tree). process_names t.items) first) (m.named ∙ ap (λ (t : Tree). process_names t.items) second)
    (subst (λ (t : Tree). HaveNumbers library (processes_in t.items) ts) tree h.numbered) j.numbered
    (subst (λ (t : Tree). AreMeantFrom h.reading 0 (processes_in t.items) ts) tree h.meant) j.meant

pub people_one : (text : List ℕ) (ps qs : List PersonDef) → HasPeopleOf text ps → HasPeopleOf text qs → ps ≡ qs
people_one text ps qs h j =
    h.declared ∙ ap (λ (t : Tree). declared_people t.items) (tree_one text h.tree j.tree h.has j.has) ∙ sym j.declared
