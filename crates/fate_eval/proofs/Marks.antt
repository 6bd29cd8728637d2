-- The completions that were ready in their turn, marked by their numbers.
use Rattle.std.proofs.Common.{◌≡◌, ℕ, Bool, ◌+◌, ◌≤◌, ◌<◌, ◌⊎◌, zero, suc, true, false, List, [], ◌∷◌, length, take, set, get_or, Some, refl, ap, sym, ◌∙◌, inl, inr, arith}
use Rattle.std.specs.Prelude.{slice_get, Result, Ok, Err, IfErr}
use Rattle.std.specs.List.{All, Contains}
use Rattle.std.proofs.lemmas.Bool.Decides.{eqb_tells}
use Rattle.std.proofs.lemmas.List.{take_more}
use Rattle.std.proofs.lemmas.List.Elements.{All-contains, Contains-append_left, Contains-append_right, Contains-append_cases}
use Rattle.flow_model.specs.Rows.{rows, by_facts, below, deepest, IsReady}
use Rattle.flow_model.specs.declared.graphs.Container.{Container}
use Rattle.flow_model.specs.declared.graphs.Graph.{Graph}
use Rattle.flow_model.specs.declared.graphs.Template.{Template}
use Rattle.flow_model.specs.declared.instances.Fact.{Fact}
use Rattle.flow_model.specs.declared.instances.Part.{Part}
use Rattle.flow_model.specs.declared.instances.Path.{Path}
use Rattle.fate_laws.proofs.Items.{parts_one}
use Rattle.fate_eval.specs.Entries.{dated_in, dated_from, known_after}
use Rattle.fate_eval.specs.Timely.{IsShownReady}
use Rattle.fate_eval.specs.Refusals.{AreOf, AreReadyIn, IsUnreadyIn, AreMarked, IsWithin, IsBehindReady, IsUnready, IsFirstUnready}
use Rattle.fate_eval.specs.declared.results.FateFault.{FateFault}
use Rattle.fate_eval.specs.declared.results.FateFault.TheVariants.{NotReady, NoMemory}
use Rattle.fate_laws.proofs.ReadyItems.{ready_is_new}
use Rattle.fate_laws.specs.WellFormed.{Well}
use Rattle.fate_eval.specs.declared.accepted.Entry.{Entry}
use Rattle.fate_eval.proofs.Behind.{fact_at, first_dated}
use Rattle.fate_eval.proofs.InOrder.{at_other, at_same}
use Rattle.fate_eval.proofs.Seen.{after_facts}

-- one more number is marked
pub marked_more : (marks : List Bool) (ready : List ℕ) (n : ℕ) → n < length ready → ((i : ℕ) → slice_get marks i ≡ Some true → Contains (take n ready) i)
    → (i : ℕ) → slice_get (set marks (get_or ready n 0) true) i ≡ Some true → Contains (take (n + 1) ready) i
marked_more marks ready n less before i is =
    rw (take_more ready n 0 less)
    (elim (eqb_tells i (get_or ready n 0)) [
      | inl same ↦ Contains-append_right (take n ready) (get_or ready n 0 ∷ []) i (0, omega arith, sym same.1)
      | inr other ↦ Contains-append_left (take n ready) (get_or ready n 0 ∷ []) i (before i (sym (at_other marks (get_or ready n 0) i true other.1) ∙ is))
    ])

pub marked_back : (marks : List Bool) (ready : List ℕ) (n count : ℕ) → n < length ready → length marks ≡ count → ((i : ℕ) → i < count → Contains (take n ready) i → slice_get marks i ≡ Some true)
    → (i : ℕ) → i < count → Contains (take (n + 1) ready) i → slice_get (set marks (get_or ready n 0) true) i ≡ Some true
marked_back marks ready n count less long before i inside there =
    elim (eqb_tells i (get_or ready n 0)) [
      | inl same ↦ rw same.1 (at_same marks (get_or ready n 0) true (let e = same.1 in omega (arith, e, long, inside)))
      | inr other ↦ at_other marks (get_or ready n 0) i true other.1 ∙ before i inside (earlier other.1 (Contains-append_cases (take n ready) (get_or ready n 0 ∷ []) i (rw (take_more ready n 0 less) at there)))
    ]
  where
    one : (m : ℕ) → m < 1 → get_or (get_or ready n 0 ∷ []) m i ≡ i → i ≡ get_or ready n 0
    one zero less is = sym is
    one (suc m) less is = absurd (omega arith)

    earlier : (i ≡ get_or ready n 0 → ⊥) → Contains (take n ready) i ⊎ Contains (get_or ready n 0 ∷ []) i → Contains (take n ready) i
    earlier other (inl here) = here
    earlier other (inr last) = absurd (other (one last.0 last.1 last.2))

module _ (ts : List Template) (depth : ℕ) (g : Graph) (root : ℕ) (input : Container) (fs : List Fact) (es : List Entry) (same : (p : List Part) → dated_in es p ≡ dated_from 0 fs p) (of : AreOf root fs) where
  abbrev base : Path
  base = record { root = root; parts = [] }

  -- a completion that is shown ready is the one of its number
  ready_at : (i : ℕ) (f : Fact) → slice_get fs i ≡ Some f → IsShownReady es base (rows ts depth (known_after (length fs) es i) g input base) i
      → IsReady (rows ts depth (by_facts (length fs) (take i fs)) g input base) f.item
  ready_at i f is shown =
      let at_ = fact_at fs shown.rest 0 i shown.output (sym (same shown.rest) ∙ shown.dated) in
      let number : i ≡ at_.0 = omega (arith, at_.1) in
      let one : Some at_.2 ≡ Some f = sym at_.3 ∙ ap (slice_get fs) (sym number) ∙ is in
      let one_ : at_.2 ≡ f = cc in
      let parts : f.item.parts ≡ shown.rest = ap (λ x. x.item.parts) (sym one_) ∙ parts_one at_.2.item.parts shown.rest at_.4 in
      let item : f.item ≡ record { root = root; parts = shown.rest } = rw (← (of i f is), ← parts) refl in
      (shown.scope, shown.last, item ∙ sym shown.item, rw (← (after_facts (length fs) es fs i same)) shown.shown)

  pub all_ready : (marks : List Bool) (ready : List ℕ) (n : ℕ) → ((i : ℕ) → slice_get marks i ≡ Some true → Contains ready i) → AreMarked marks n
      → All (λ i. (0 ≤ i) × IsShownReady es base (rows ts depth (known_after (length fs) es i) g input base) i) ready
      → AreReadyIn ts depth g root input fs n
  all_ready marks ready n told marked all = λ i f less is.
      let here = All-contains (λ x. (0 ≤ x) × IsShownReady es base (rows ts depth (known_after (length fs) es x) g input base) x) ready i all (told i (marked i less)) in
      ready_at i f is here.1

  -- a completion that isn't marked isn't ready, unless its item has an output by then
  pub none_ready : (marks : List Bool) (ready : List ℕ) (n : ℕ) → n < length fs → slice_get marks n ≡ Some false → ((i : ℕ) → i < length fs → Contains ready i → slice_get marks i ≡ Some true)
      → ((i : ℕ) → IsShownReady es base (rows ts depth (known_after (length fs) es i) g input base) i → Contains ready i)
      → IsUnreadyIn ts depth g root input fs n
  none_ready marks ready n inside unmarked marked told = λ f is none shown.
      let item : below shown.0 shown.1 ≡ record { root = root; parts = f.item.parts } = sym shown.2 ∙ ap (λ r. record { root = r; parts = f.item.parts }) (of n f is) in
      let number : 0 + n + 1 ≡ n + 1 = omega arith in
      let dated_ : dated_in es f.item.parts ≡ Some (record { after = n + 1; output = f.output }) = same f.item.parts ∙ rw number at (first_dated fs n f 0 is none) in
      let there : Contains ready n = told n (record {
        scope = shown.0;
        last = shown.1;
        rest = f.item.parts;
        output = f.output;
        item = item;
        dated = dated_;
        shown = rw (after_facts (length fs) es fs n same) shown.3;
      }) in
      let both : Some false ≡ Some true = sym unmarked ∙ marked n inside there in
      no_both both
    where
      no_both : Some false ≡ Some true → ⊥
      no_both h = cc

-- the fault names the first completion that isn't ready
first_fault : (ts : List Template) (g : Graph) (root : ℕ) (input : Container) (fs : List Fact) (fault : FateFault) → Well ts deepest g → IsWithin (length fs) fault
    → IsBehindReady ts deepest g root input fs fault → IsUnready ts deepest g root input fs fault → IsFirstUnready ts g root input fs fault
first_fault ts g root input fs (NotReady n) well within behind unready = (behind, λ f is ready. unready f is (ready_is_new ts g root input fs n f well within ready) ready)
first_fault ts g root input fs NoMemory well within behind unready = tt

pub first_unready : {T : Type 0} (ts : List Template) (g : Graph) (root : ℕ) (input : Container) (fs : List Fact) (r : Result T FateFault) → Well ts deepest g → IfErr r (IsWithin (length fs))
    → IfErr r (IsBehindReady ts deepest g root input fs) → IfErr r (IsUnready ts deepest g root input fs) → IfErr r (IsFirstUnready ts g root input fs)
first_unready ts g root input fs (Ok x) well within behind unready = tt
first_unready ts g root input fs (Err e) well within behind unready = first_fault ts g root input fs e well within behind unready
