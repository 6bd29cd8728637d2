-- The same lines over the same state have one verdict: they are read in one way, and one count of them is justified.
use Rattle.std.proofs.Common.{◌≡◌, ℕ, suc, ◌<◌, Bool, List, [], ◌∷◌, length, refl, sym, ap₂, ◌∙◌, subst, arith, inl, inr}
use Rattle.std.specs.Global.{Vec}
use Rattle.std.proofs.lemmas.Bool.{cases_lt, false≢true}
use Rattle.std.proofs.lemmas.List.Elements.{All-head, All-tail}
use Rattle.std.proofs.lemmas.Option.{none-some, same_Some, slice_get_within}
use Rattle.flow_model.specs.declared.graphs.Container.{Container}
use Rattle.flow_model.specs.declared.instances.Fact.{Fact}
use Rattle.certificates.specs.declared.lines.CertLine.{CertLine}
use Rattle.certificates.specs.Justified.{AreJustified, IsFirstUnjustified}
use Rattle.certificates.specs.Kept.{AreLaidTemplates}
use Rattle.certificates.specs.Lines.{IsSpellable, Writes}
use Rattle.certificates.specs.Told.{Basis, line_scope}
use Rattle.explain.specs.Certificates.{IsVerdict}
use Rattle.explain.specs.Verified.{AreFirst, AreGood, AreGoodIn, IsNoLine, IsVerified, basis_in}
use Rattle.flow_core.specs.Driving.{templates}
use Rattle.flow_core.specs.Facts.{AreFactsOf}
use Rattle.flow_core.specs.declared.state.Core.{Core}
use Rattle.flow_core.specs.declared.views.RootFacts.{RootFacts}
use Rattle.explanation_laws.proofs.Texts.{lines_one}

-- ---- one reading

-- the first line that is read
first_written : (x : CertLine) (read : List CertLine) (l : Vec ℕ × Bool) (lines : List (Vec ℕ × Bool)) → AreFirst (x ∷ read) (l ∷ lines) → Writes l.0.items x
first_written x read l lines is = record { writable = All-head IsSpellable x read is.writable; text = cc is.written }

-- the others are the first lines of the rest
others_first : (x : CertLine) (read : List CertLine) (l : Vec ℕ × Bool) (lines : List (Vec ℕ × Bool)) → AreFirst (x ∷ read) (l ∷ lines) → AreFirst read lines
others_first x read l lines is = record {
  few = let few = is.few in omega (arith, few);
  writable = All-tail IsSpellable x read is.writable;
  written = cc is.written;
  whole = λ k d less. is.whole (suc k) d (omega (arith, less));
  next = is.next;
}

-- a line of which one is read isn't none
not_none : (x : CertLine) (read : List CertLine) (l : Vec ℕ × Bool) (lines : List (Vec ℕ × Bool)) → AreFirst (x ∷ read) (l ∷ lines) → IsNoLine l → ⊥
not_none x read l lines is (inl long) = false≢true (sym (is.whole 0 l (omega arith)) ∙ long)
not_none x read l lines is (inr none) = none x (first_written x read l lines is)

-- lines are read in one way
reading_one : (read other : List CertLine) (lines : List (Vec ℕ × Bool)) → AreFirst read lines → AreFirst other lines → read ≡ other
reading_one [] [] lines is also = refl
reading_one [] (y ∷ other) [] is also = let few = also.few in absurd (omega (arith, few))
reading_one [] (y ∷ other) (l ∷ lines) is also = absurd (not_none y other l lines also is.next)
reading_one (x ∷ read) other [] is also = let few = is.few in absurd (omega (arith, few))
reading_one (x ∷ read) [] (l ∷ lines) is also = absurd (not_none x read l lines is also.next)
reading_one (x ∷ read) (y ∷ other) (l ∷ lines) is also =
    let first : x ≡ y = lines_one l.0.items y (first_written y other l lines also) x (first_written x read l lines is) in
    let rest = reading_one read other lines (others_first x read l lines is) (others_first y other l lines also) in
    ap₂ (λ (z : CertLine) (zs : List CertLine). z ∷ zs) first rest

-- ---- one count

module _ (b : Basis) (lines : List CertLine) where
  -- no line that is justified is the first that isn't
  not_justified : (m n : ℕ) → AreJustified b lines m → IsFirstUnjustified b lines n → n < m → ⊥
  not_justified m n all none less = false≢true (sym none.unjustified ∙ all n none.line less none.there)

  -- one count of lines is justified
  good_one : (m n : ℕ) → AreGood b lines m → AreGood b lines n → m ≡ n
  good_one m n (inl all) (inl also) = all.0 ∙ sym also.0
  good_one m n (inl all) (inr none) =
      let within = slice_get_within lines n none.line none.there in
      let long = all.0 in
      absurd (not_justified m n all.1 none (omega (arith, within, long)))
  good_one m n (inr none) (inl all) =
      let within = slice_get_within lines m none.line none.there in
      let long = all.0 in
      absurd (not_justified n m all.1 none (omega (arith, within, long)))
  good_one m n (inr none) (inr also) = elim (cases_lt m n) [
    | inl less ↦ absurd (not_justified n m also.before none less)
    | inr most ↦ elim (cases_lt n m) [
      | inl less ↦ absurd (not_justified m n none.before also less)
      | inr least ↦ omega (arith, most, least)
    ]
  ]

-- what the fates of a root follow from is one
facts_one : (c : Core) (root : ℕ) (f g : RootFacts) → AreFactsOf c root f → AreFactsOf c root g → f ≡ g
facts_one c root f g is also =
    let instances = same_Some is.instance also.instance (sym is.live ∙ also.live) in
    let graphs : is.graph ≡ also.graph = same_Some is.graph also.graph (sym is.process ∙ also.process) in
    let numbers : f.root ≡ g.root = is.number ∙ sym also.number in
    let chosen : f.template ≡ g.template = cc (is.template, also.template, instances) in
    let inputs : f.input ≡ g.input = cc (is.input, also.input, graphs) in
    let facts : f.facts ≡ g.facts = is.facts ∙ sym also.facts in
    ap₂ (λ (r t : ℕ). made r t f.input f.facts) numbers chosen
    ∙ ap₂ (λ (i : Container) (l : List Fact). made g.root g.template i l) inputs facts
  where
    made : ℕ → ℕ → Container → List Fact → RootFacts
    made r t i l = record { root = r; template = t; input = i; facts = l }

module _ (c : Core) (laid : AreLaidTemplates (templates c)) where
  -- so is the count of lines that are justified by the root of the first line
  count_one : (read : List CertLine) (m n : ℕ) → AreGoodIn c read m → AreGoodIn c read n → m ≡ n
  count_one [] m n is also = is ∙ sym also
  count_one (first ∷ rest) m n (inl none) (inl also) = none.1 ∙ sym also.1
  count_one (first ∷ rest) m n (inl none) (inr some) = absurd (none-some some.1.graph (sym none.0 ∙ some.1.process))
  count_one (first ∷ rest) m n (inr some) (inl none) = absurd (none-some some.1.graph (sym none.0 ∙ some.1.process))
  count_one (first ∷ rest) m n (inr some) (inr also) =
      let same = facts_one c (line_scope first).root some.0 also.0 some.1 also.1 in
      good_one (basis_in c also.0) (first ∷ rest) m n
      (subst (λ (f : RootFacts). AreGood (basis_in c f) (first ∷ rest) m) same (some.2 laid)) (also.2 laid)

-- ---- one verdict

-- a count has one verdict
verdict_one : (m n total : ℕ) (text other : List ℕ) (refused denied : Bool) → m ≡ n → IsVerdict m total text refused → IsVerdict n total other denied
    → (text ≡ other) × (refused ≡ denied)
verdict_one m n total text other refused denied same is also =
    let moved : IsVerdict n total text refused = subst (λ (k : ℕ). IsVerdict k total text refused) same is in
    (moved.printed ∙ sym also.printed, moved.judged ∙ sym also.judged)

pub verdicts_one : (c : Core) (lines : List (Vec ℕ × Bool)) (text other : List ℕ) (refused denied : Bool) → AreLaidTemplates (templates c)
    → IsVerified c lines text refused → IsVerified c lines other denied → (text ≡ other) × (refused ≡ denied)
verdicts_one c lines text other refused denied laid is also =
    let readings = reading_one is.read also.read lines is.first also.first in
    let judged : AreGoodIn c also.read is.good = subst (λ (r : List CertLine). AreGoodIn c r is.good) readings is.judged in
    verdict_one is.good also.good (length lines) text other refused denied (count_one c laid also.read is.good also.good judged also.judged) is.given also.given
