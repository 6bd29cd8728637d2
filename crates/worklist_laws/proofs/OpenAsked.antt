-- What a command that isn't refused, and a record that is admitted, have asked of an item or a root.
use Rattle.std.proofs.Common.{◌≡◌, ◌⊎◌, inl, inr, ℕ, Bool, true, false, List, [], ◌∷◌, Option, Some, None, refl, ap, sym, ◌∙◌, subst}
use Rattle.std.specs.Prelude.{Result, Ok, Err, not, option_map}
use Rattle.std.specs.Option.{option_or}
use Rattle.std.proofs.lemmas.Option.{none-some}
use Rattle.flow_core.specs.Admitting.{IsAdmitted}
use Rattle.flow_core.specs.Allowing.{mode_in, Subject, IsThere, IsOpen}
use Rattle.flow_core.specs.Answers.{instance_of}
use Rattle.flow_core.specs.Judgements.{IsVerdict}
use Rattle.flow_core.specs.Refusals.{first_of, unless, between, IsNamed, person_of, person_test, is_active, is_going, is_over, mode_test, live_test, root_test, full_test, item_test, on_item, phase_in, hold_in, staff_refusal, staff_test, is_able, claim_test, release_test, transfer_test, taking_test, restart_test, tests_on_item, RefusesOnItem}
use Rattle.flow_core.specs.declared.judging.Verdict.TheVariants.{Do}
use Rattle.flow_core.specs.declared.refusals.Refusal.{Refusal}
use Rattle.flow_core.specs.declared.refusals.Refusal.TheVariants as refused
use Rattle.flow_core.specs.declared.state.Core.{Core}
use Rattle.flow_model.specs.Paths.{Spells}
use Rattle.flow_model.specs.declared.commands.Command.{Command}
use Rattle.flow_model.specs.declared.commands.Command.TheVariants as asked
use Rattle.flow_model.specs.declared.instances.Hold.{Hold}
use Rattle.flow_model.specs.declared.instances.Mode.{Mode}
use Rattle.flow_model.specs.declared.instances.Mode.TheVariants.{Active, Suspended, Done, Terminated}
use Rattle.flow_model.specs.declared.instances.Path.{Path}
use Rattle.flow_model.specs.declared.instances.Phase.{Phase}
use Rattle.flow_model.specs.declared.instances.Phase.TheVariants as phase
use Rattle.flow_model.specs.declared.names.Name.{Name}
use Rattle.flow_model.specs.declared.transactions.Transaction.{Transaction}
use Rattle.flow_model.specs.declared.transactions.Transaction.TheVariants as made
use Rattle.navigator.specs.Instances.{mode_of}
use Rattle.navigator.specs.declared.instance.Instance.{Instance}
use Rattle.staff_worklists.specs.Rights.{is_running, claim_answer, release_answer, transfer_answer}
use Rattle.staff_worklists.specs.declared.rights.StaffFault.{StaffFault}
use Rattle.staff_worklists.specs.declared.rights.StaffFault.TheVariants as fault
use Rattle.worklist_laws.proofs.Spelled.{spells_one}
use Rattle.worklist_laws.specs.Asking.{IsOver, AsksOpen}

-- ---- tests that don't refuse

none_of_two : (a b : Option Refusal) → option_or a b ≡ None → (a ≡ None) × (b ≡ None)
none_of_two None b none = (refl, none)
none_of_two (Some r) b none = absurd (none-some r (sym none))

passes : (b : Bool) (r : Refusal) → unless b r ≡ None → b ≡ true
passes true r none = refl
passes false r none = absurd (none-some r (sym none))

staff_passes : (hold : Hold) (answer : Result (Unit {0}) StaffFault) → staff_refusal hold answer ≡ None → answer ≡ Ok tt
staff_passes hold (Ok x) none = refl
staff_passes hold (Err (fault.State p)) none = absurd (none-some (refused.State p) (sym none))
staff_passes hold (Err fault.Owner) none = absurd (none-some (refused.Owner hold) (sym none))
staff_passes hold (Err (fault.Take take)) none = absurd (none-some (refused.Take take) (sym none))
staff_passes hold (Err fault.Eligible) none = absurd (none-some refused.Eligible (sym none))

claimed_goes : (p : Phase) (able : Bool) → claim_answer p able ≡ Ok tt → p ≡ phase.Ended → ⊥
claimed_goes p able answer ended = let n : Err (fault.State phase.Ended) ≡ Ok tt = sym (ap (λ q. claim_answer q able) ended) ∙ answer in let m : ⊥ = cc in m

released_goes : (p : Phase) (hold : Hold) (name : Name) → release_answer p hold name ≡ Ok tt → p ≡ phase.Ended → ⊥
released_goes p hold name answer ended = let n : Err (fault.State phase.Ended) ≡ Ok tt = sym (ap (λ q. release_answer q hold name) ended) ∙ answer in let m : ⊥ = cc in m

transferred_goes : (p : Phase) (hold : Hold) (name : Name) (able : Bool) → transfer_answer p hold name able ≡ Ok tt → p ≡ phase.Ended → ⊥
transferred_goes p hold name able answer ended = let n : Err (fault.State phase.Ended) ≡ Ok tt = sym (ap (λ q. transfer_answer q hold name able) ended) ∙ answer in let m : ⊥ = cc in m

running_goes : (p : Phase) → is_running p ≡ true → p ≡ phase.Ended → ⊥
running_goes p runs ended = let n : false ≡ true = sym (ap is_running ended) ∙ runs in let m : ⊥ = cc in m

-- ---- an item

-- of these modes none is that of a root that is terminated
not_terminated : (allowed : Mode → Bool) → allowed Terminated ≡ false → (terminated complete suspended : Bool) → allowed (mode_of terminated complete suspended) ≡ true → terminated ≡ false
not_terminated allowed never true complete suspended is = let n : false ≡ true = sym never ∙ is in let m : ⊥ = cc in absurd m
not_terminated allowed never false complete suspended is = refl

module _ (c : Core) (path : Path) (s : Subject) (is : IsThere c path s) where
  opens : (allowed : Mode → Bool) → allowed Terminated ≡ false → mode_test allowed s.mode ≡ None → (phase_in s ≡ phase.Ended → ⊥) → IsOpen c path
  opens allowed never passed goes = by (instance_of c path.root) refl is.mode
    where
      by : (o : Option Instance) → instance_of c path.root ≡ o → option_map mode_in o ≡ Some s.mode → IsOpen c path
      by None absent none = absurd (none-some s.mode none)
      by (Some i) live shown =
          let mode : mode_in i ≡ s.mode = cc in
          record {
            root = i;
            live = live;
            runs = not_terminated allowed never i.terminated _ i.suspended (ap allowed mode ∙ passes (allowed s.mode) (refused.Mode s.mode) passed);
            item = s.item;
            there = is.there;
            unended = goes;
          }

  claim_opens : (able : Bool) → first_of (mode_test is_active s.mode ∷ staff_test s (claim_answer (phase_in s) able) ∷ []) ≡ None → IsOpen c path
  claim_opens able none =
      let both = none_of_two (mode_test is_active s.mode) _ none in
      let staff = none_of_two (staff_test s (claim_answer (phase_in s) able)) None both.1 in
      opens is_active refl both.0 (claimed_goes (phase_in s) able (staff_passes (hold_in s) (claim_answer (phase_in s) able) staff.0))

  release_opens : (name : Name) → release_test name s ≡ None → IsOpen c path
  release_opens name none =
      let both = none_of_two (mode_test is_going s.mode) _ none in
      let staff = none_of_two (staff_test s (release_answer (phase_in s) (hold_in s) name)) None both.1 in
      opens is_going refl both.0 (released_goes (phase_in s) (hold_in s) name (staff_passes (hold_in s) (release_answer (phase_in s) (hold_in s) name) staff.0))

  transfer_opens : (name : Name) (able : Bool) → first_of (mode_test is_going s.mode ∷ staff_test s (transfer_answer (phase_in s) (hold_in s) name able) ∷ []) ≡ None → IsOpen c path
  transfer_opens name able none =
      let both = none_of_two (mode_test is_going s.mode) _ none in
      let staff = none_of_two (staff_test s (transfer_answer (phase_in s) (hold_in s) name able)) None both.1 in
      opens is_going refl both.0 (transferred_goes (phase_in s) (hold_in s) name able (staff_passes (hold_in s) (transfer_answer (phase_in s) (hold_in s) name able) staff.0))

  restart_opens : restart_test s ≡ None → IsOpen c path
  restart_opens none =
      let both = none_of_two (mode_test is_going s.mode) _ none in
      let running = none_of_two (unless (is_running (phase_in s)) (refused.State (phase_in s))) None both.1 in
      opens is_going refl both.0 (running_goes (phase_in s) (passes (is_running (phase_in s)) (refused.State (phase_in s)) running.0))

-- ---- a root

over_so : (m : Mode) → is_over m ≡ true → (m ≡ Done) ⊎ (m ≡ Terminated)
over_so Active is = let m : ⊥ = cc in absurd m
over_so Suspended is = let m : ⊥ = cc in absurd m
over_so Done is = inl refl
over_so Terminated is = inr refl

root_over : (c : Core) (root : ℕ) → root_test c is_over root ≡ None → IsOver c root
root_over c root none i live =
    let passed : mode_test is_over (mode_in i) ≡ None = sym (ap (λ o. live_test is_over root (option_map mode_in o)) live) ∙ none in
    over_so (mode_in i) (passes (is_over (mode_in i)) (refused.Mode (mode_in i)) passed)

-- ---- a record that is admitted

pub admitted_asks : (c : Core) (number : ℕ) (t : Transaction) → IsAdmitted c number t → AsksOpen c t
admitted_asks c number (made.Import text) is = tt
admitted_asks c number (made.Start root process version starter key settings) is = tt
admitted_asks c number (made.Turn queue message) is = tt
admitted_asks c number (made.Claim item who) is = let due = is.due in claim_opens c item due.0 due.1 (is_able (person_of c who) due.0) due.2.1
admitted_asks c number (made.Release item who) is = let due = is.due in release_opens c item due.0 due.1 who due.2.1
admitted_asks c number (made.Transfer item who to) is = let due = is.due in transfer_opens c item due.0 due.1 who (is_able (person_of c to) due.0) due.2.2
admitted_asks c number (made.Take item take) is = let due = is.due in claim_opens c item due.0 due.1 (not due.0.program.manual) due.2.0
admitted_asks c number (made.Done item by settings) is = tt
admitted_asks c number (made.Force item settings) is = tt
admitted_asks c number (made.Restart item) is = let due = is.due in restart_opens c item due.0 due.1 due.2
admitted_asks c number (made.Suspend root) is = tt
admitted_asks c number (made.Resume root) is = tt
admitted_asks c number (made.Terminate root) is = tt
admitted_asks c number (made.Delete root) is = root_over c root (none_of_two (root_test c is_over root) _ is.due).0
admitted_asks c number (made.Clock minutes) is = tt

-- ---- a command that isn't refused

-- its item is the one that its token spells, and passes its test
named_opens : (c : Core) (people : Option Refusal) (token : List ℕ) (test : Subject → Option Refusal) (path : Path) → Spells (between token) path → RefusesOnItem c people token test None
    → ((s : Subject) → IsThere c path s → test s ≡ None → IsOpen c path) → IsOpen c path
named_opens c people token test path spells refuses passes_open = by refuses.0 refuses.1 (sym refuses.2)
  where
    by : (o : Option Subject) → IsNamed c token o → tests_on_item c people token test o ≡ None → IsOpen c path
    by None named none =
        let item = (none_of_two people (first_of (item_test token None ∷ on_item test None ∷ full_test c ∷ [])) none).1 in
        absurd (none-some (refused.Item token) (sym (none_of_two (item_test token None) (first_of (on_item test None ∷ full_test c ∷ [])) item).0))
    by (Some s) named none =
        let item = (none_of_two people (first_of (item_test token (Some s) ∷ on_item test (Some s) ∷ full_test c ∷ [])) none).1 in
        let tested = (none_of_two (item_test token (Some s)) (first_of (on_item test (Some s) ∷ full_test c ∷ [])) item).1 in
        let passed : test s ≡ None = (none_of_two (on_item test (Some s)) (first_of (full_test c ∷ [])) tested).0 in
        let same : named.0 ≡ path = spells_one (between token) named.0 path named.1 spells in
        passes_open s (subst (λ (p : Path). IsThere c p s) same named.2) passed

pub verdict_asks : (c : Core) (command : Command) (t : Transaction) → IsVerdict c command (Do t) → AsksOpen c t
verdict_asks c (asked.Import text) t is = subst (AsksOpen c) (sym is.1) tt
verdict_asks c (asked.Start process starter key written) t is = subst (AsksOpen c) (sym is.1.3) tt
verdict_asks c (asked.Turn queue) t is = subst (AsksOpen c) (sym is.1.2) tt
verdict_asks c asked.Drain t is = absurd is.1
verdict_asks c (asked.Claim token who) t is =
    subst (AsksOpen c) (sym is.1.2)
    (named_opens c (person_test c who) token (claim_test (person_of c who)) is.1.0 is.1.1 is.4 (λ s there none. claim_opens c is.1.0 s there (is_able (person_of c who) s) none))
verdict_asks c (asked.Release token who) t is =
    subst (AsksOpen c) (sym is.1.2) (named_opens c (person_test c who) token (release_test who) is.1.0 is.1.1 is.4 (λ s there none. release_opens c is.1.0 s there who none))
verdict_asks c (asked.Transfer token who to) t is =
    subst (AsksOpen c) (sym is.1.2)
    (named_opens c (first_of (person_test c who ∷ person_test c to ∷ [])) token (transfer_test who (person_of c to)) is.1.0 is.1.1 is.4
    (λ s there none. transfer_opens c is.1.0 s there who (is_able (person_of c to) s) none))
verdict_asks c (asked.Take token) t is =
    subst (AsksOpen c) (sym is.1.4) (named_opens c None token taking_test is.1.0 is.1.2 is.4 (λ s there none. claim_opens c is.1.0 s there (not s.program.manual) none))
verdict_asks c (asked.Done token who outcome) t is = subst (AsksOpen c) (sym is.1.4) tt
verdict_asks c (asked.Force token outcome) t is = subst (AsksOpen c) (sym is.1.4) tt
verdict_asks c (asked.Restart token) t is =
    subst (AsksOpen c) (sym is.1.2) (named_opens c None token restart_test is.1.0 is.1.1 is.4 (λ s there none. restart_opens c is.1.0 s there none))
verdict_asks c (asked.Suspend root) t is = subst (AsksOpen c) (sym is.1) tt
verdict_asks c (asked.Resume root) t is = subst (AsksOpen c) (sym is.1) tt
verdict_asks c (asked.Terminate root) t is = subst (AsksOpen c) (sym is.1) tt
verdict_asks c (asked.Delete root) t is =
    subst (AsksOpen c) (sym is.1) (root_over c root (none_of_two (root_test c is_over root) _ (sym is.4)).0)
verdict_asks c (asked.Clock minutes) t is = subst (AsksOpen c) (sym is.1) tt
verdict_asks c asked.Checkpoint t is = absurd is.1
verdict_asks c (asked.Ask query) t is = absurd is.1
