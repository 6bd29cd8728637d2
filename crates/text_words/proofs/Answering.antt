-- How the answers of the parts of `fate` are answers of the whole.
use Rattle.std.proofs.Common.{◌≡◌, ℕ, ◌-◌, ◌+◌, Option, Some, None, List, [], ◌∷◌, ◌++◌, Result, IfOk, codes, length, slice_get, unwrap_or, inl, inr, ap, sym, subst, ◌∙◌, arith}
use Rattle.std.specs.List.{All}
use Rattle.std.specs.Option.{option_map}
use Rattle.std.proofs.lemmas.Option.{get_or_from_slice_get, slice_get_within}
use Rattle.std.proofs.lemmas.Result.{IfOk-weaker}
use Rattle.fate_eval.specs.Passing.{AreFates}
use Rattle.fate_eval.specs.Refusals.{AreOf, IsWithin, IsBehindReady, IsFirstUnready}
use Rattle.fate_eval.specs.declared.results.FateFault.{FateFault}
use Rattle.fate_eval.specs.declared.results.FateFault.TheVariants.{NotReady}
use Rattle.fate_laws.specs.Layout.{Laid}
use Rattle.fate_laws.specs.WellFormed.{Well}
use Rattle.flow_model.specs.Containers.{fresh}
use Rattle.flow_model.specs.Rows.{deepest, AreReady}
use Rattle.flow_model.specs.declared.graphs.Container.{Container}
use Rattle.flow_model.specs.declared.graphs.Graph.{Graph, out-Graph}
use Rattle.flow_model.specs.declared.graphs.Leaves.{Leaves}
use Rattle.flow_model.specs.declared.graphs.Library.{Library}
use Rattle.flow_model.specs.declared.graphs.Template.{Template}
use Rattle.flow_model.specs.declared.instances.Fact.{Fact}
use Rattle.flow_model.specs.declared.instances.FateRow.{FateRow}
use Rattle.flow_model.specs.declared.trees.ProcessTree.{ProcessTree}
use Rattle.template_check.specs.Built.{AreSound}
use Rattle.process_rules.specs.Calling.{place_among, stored_named, text_or}
use Rattle.template_check.specs.Compiling.{IsNamedBy}
use Rattle.process_rules.specs.Knowing.{place_named}
use Rattle.text_graphs.specs.Texts.{processes_in}
use Rattle.template_store.specs.Store.{AddsText}
use Rattle.template_check.proofs.Together.{laid_together, well_together}
use Rattle.text_words.specs.Answers.{Refuses}
use Rattle.text_words.specs.FateAnswers.{fates_text, fates_by, number_named, TellsFates, IsMeantAlone, IsOfLast}
use Rattle.text_words.specs.declared.check.Answer.{Answer}
use Rattle.text_words.specs.declared.completions.Read.{Read}

-- what holds of all holds of the one at a place
all_there : {X : Type 0} (P : X → Type 0) (xs : List X) (i : ℕ) (x : X) → All P xs → slice_get xs i ≡ Some x → P x
all_there P xs i x all is = subst P (get_or_from_slice_get xs i x x is) (all i x (slice_get_within xs i x is))

-- completions that are all of root 1
pub all_of_one : (facts : List Fact) → All (λ (fact : Fact). fact.item.root ≡ 1) facts → AreOf 1 facts
all_of_one facts all = λ i f is. all_there (λ (fact : Fact). fact.item.root ≡ 1) facts i f all is

-- a process of a text is laid with those that it runs
pub laid_there : (ts : List Template) (n : ℕ) (t : Template) → AreSound ts → slice_get ts n ≡ Some t → Laid ts deepest t.graph
laid_there ts n t alone is = all_there (λ (t : Template). Laid ts deepest t.graph) ts n t (laid_together ts alone deepest) is

-- and it is well formed with them
pub well_there : (ts : List Template) (n : ℕ) (t : Template) → AreSound ts → slice_get ts n ≡ Some t → Well ts deepest t.graph
well_there ts n t alone is = all_there (λ (t : Template). Well ts deepest t.graph) ts n t (well_together ts alone deepest) is

same_text : (of : Leaves) {a b : List FateRow} {o p : Option Container} → a ≡ b → o ≡ p → fates_text of a o ≡ fates_text of b p
same_text of e f = cc

-- what a fault tells
pub record HasFault (ts : List Template) (g : Graph) (input : Container) (facts : List Fact) (fault : FateFault) : Type 0 where
  pub within : IsWithin (length facts) fault
  pub behind : IsBehindReady ts deepest g 1 input facts fault
  pub first : IsFirstUnready ts g 1 input facts fault

-- what fates tell
pub record HasFates (ts : List Template) (g : Graph) (input : Container) (facts : List Fact) (shown : List FateRow) (out : Option Container) : Type 0 where
  pub ready : AreReady ts g 1 input facts (length facts)
  pub fates : AreFates ts deepest g 1 input facts shown out

module _ {E : Type 0} (r : Result Answer E) (ts : List Template) (t : Template) (read : Read) (input : Container) (facts : List Fact) where
  -- a completion isn't ready
  pub answers_not_ready : (fault : FateFault) (n line : ℕ) → slice_get ts (length ts - 1) ≡ Some t → input ≡ fresh (out-Graph t.graph).input → facts ≡ read.counted.facts.items → fault ≡ NotReady n
      → line ≡ unwrap_or (slice_get read.lines.items n) 0 → HasFault ts t.graph input facts fault
      → IfOk r (λ answer. Refuses answer (codes "NOTREADY") (line ∷ []))
      → IfOk r (λ answer. IsOfLast answer ts t read)
  answers_not_ready fault n line there same these is line_is has h =
      let g = t.graph in
      let one = subst (λ (f : FateFault). HasFault ts g input facts f) is has in
      let two = subst (λ (fs : List Fact). HasFault ts g input fs (NotReady n)) these one in
      let three = subst (λ (i : Container). HasFault ts g i read.counted.facts.items (NotReady n)) same two in
      IfOk-weaker r (λ (answer : Answer). Refuses answer (codes "NOTREADY") (line ∷ [])) (λ (answer : Answer). IsOfLast answer ts t read)
      (λ (answer : Answer) says.
      record {
        there = there;
        answers = inr (
          n,
          record {
            within = three.within;
            before = three.behind;
            here = three.first.1;
            refuses = subst (λ (l : ℕ). Refuses answer (codes "NOTREADY") (l ∷ [])) line_is says;
          },
        );
      }) h

  -- the fates are told, or a line can't be accepted
  pub answers_accepted : (shown : List FateRow) (out : Option Container) → slice_get ts (length ts - 1) ≡ Some t → input ≡ fresh (out-Graph t.graph).input → facts ≡ read.counted.facts.items
      → HasFates ts t.graph input facts shown out
      → IfOk r (λ answer. TellsFates answer (fates_text (out-Graph t.graph).output shown out) read.fault)
      → IfOk r (λ answer. IsOfLast answer ts t read)
  answers_accepted shown out there same these has h =
      let g = t.graph in
      let one = subst (λ (fs : List Fact). HasFates ts g input fs shown out) these has in
      let two = subst (λ (i : Container). HasFates ts g i read.counted.facts.items shown out) same one in
      let text : fates_text (out-Graph g).output shown out ≡ fates_by ts g read.counted.facts.items = same_text (out-Graph g).output two.fates.rows two.fates.output in
      IfOk-weaker r (λ (answer : Answer). TellsFates answer (fates_text (out-Graph g).output shown out) read.fault) (λ (answer : Answer). IsOfLast answer ts t read)
      (λ (answer : Answer) says.
      record {
        there = there;
        answers = inl (record { ready = two.ready; tells = subst (λ (l : List ℕ). TellsFates answer l read.fault) text says });
      }) h

-- what an import adds to a library that is empty is all of it
all_added : (text : List ℕ) (old : Library) (new : Library) → old ≡ record { templates = []; people = [] } → (adds : AddsText text old new) → new.templates ≡ adds.added.templates
all_added text old new empty adds =
    ap (λ (l : Library). l.templates) adds.behind ∙ ap (λ (l : Library). l.templates ++ adds.added.templates) empty

-- and so they are the processes of the text
pub named_alone : (text : List ℕ) (old : Library) (new : Library) → old ≡ record { templates = []; people = [] } → AddsText text old new → IsNamedBy text new.templates
named_alone text old new empty adds = subst (IsNamedBy text) (sym (all_added text old new empty adds)) adds.named

-- behind an empty library a process that is named is one of the text, and stands at the place of its number
place_alone : (earlier : Library) (processes : List ProcessTree) (number : ℕ) (name : List ℕ) → earlier ≡ record { templates = []; people = [] }
    → place_named earlier processes number name ≡ number_named processes number name
place_alone earlier processes number name empty = by (number_named processes number name)
  where
    by : (found : Option ℕ) → option_map (place_among earlier) (text_or found (stored_named earlier name)) ≡ found
    by None = ap (λ (l : Library). option_map (place_among earlier) (stored_named l name)) empty
    by (Some before) =
        let behind_none : 0 + before ≡ before = omega arith in
        ap (λ (l : Library). Some (length l.templates + before)) empty ∙ ap (λ (n : ℕ). Some n) behind_none

-- and their graphs are what the text means
pub meant_alone : (text : List ℕ) (old : Library) (new : Library) → old ≡ record { templates = []; people = [] } → AddsText text old new → IsMeantAlone text new.templates
meant_alone text old new empty adds =
    let meant = adds.meant in
    subst (IsMeantAlone text) (sym (all_added text old new empty adds))
    (record {
      tree = meant.tree;
      has = meant.has;
      reading = meant.reading;
      leaves = meant.read.leaves;
      places = λ number name. meant.read.places number name ∙ place_alone old (processes_in meant.tree.items) number name empty;
      meant = meant.meant;
    })
