-- The open line of an item stays where the item stays as it was, and with it who performed what it asks for.
use Rattle.std.proofs.Common.{◌≡◌, ℕ, Bool, true, false, cond, List, Option, Some, None, refl, ap, ap₂, sym, ◌∙◌}
use Rattle.std.specs.Prelude.{option_and_then}
use Rattle.activity_states.specs.States.{State, fate_of, hold_of}
use Rattle.flow_core.specs.Allowing.{performer_by}
use Rattle.flow_core.specs.Driving.{program_in}
use Rattle.flow_core.specs.Shelving.{line_by, if_manual}
use Rattle.flow_model.specs.declared.graphs.DoneBy.{DoneBy}
use Rattle.flow_model.specs.declared.graphs.DoneBy.TheVariants as by
use Rattle.flow_model.specs.declared.graphs.Activity.{Activity}
use Rattle.flow_model.specs.declared.graphs.Graph.{Graph}
use Rattle.flow_model.specs.declared.graphs.Program.{Program as ProgramOf}
use Rattle.flow_model.specs.declared.graphs.Template.{Template}
use Rattle.flow_model.specs.declared.instances.ItemLine.{ItemLine}
use Rattle.flow_model.specs.declared.instances.Part.{Part}
use Rattle.flow_model.specs.declared.names.Name.{Name}
use Rattle.item_laws.specs.OpenItems.{is_open_phase, open_at}
use Rattle.item_laws.specs.Performers.{IsSettledBy, PerformersStay, KeepsPerformers}
use Rattle.library_laws.proofs.SameGraphs.{and_then_same}
use Rattle.navigator.specs.Items.{Entry, stand, entry_at, phase_of}
use Rattle.navigator.specs.declared.scopes.ScopeState.{ScopeState}
use Rattle.worklist_laws.proofs.OpenLines.{line_of, none_open, open_entry}
use Rattle.worklist_laws.specs.Shelved.{is_open_entry}

-- whoever the program of an item asks for has performed what is settled
abbrev pub AsksSettled : Entry → Type 0
AsksSettled e = (p : ProgramOf) → program_in e.activity.work ≡ Some p → (b : ℕ) → p.by ≡ by.PerformerOf b → IsSettledBy e b

performer_stays : (e e' : Entry) → PerformersStay e e' → (d : DoneBy) → ((b : ℕ) → d ≡ by.PerformerOf b → IsSettledBy e b) → performer_by e' d ≡ performer_by e d
performer_stays e e' stay (by.Role role) settled = refl
performer_stays e e' stay (by.Person name) settled = refl
performer_stays e e' stay by.Starter settled = refl
performer_stays e e' stay (by.PerformerOf place) settled = stay.performers place (settled place refl)

open_stays : (e e' : Entry) → PerformersStay e e' → e'.state ≡ e.state → is_open_entry e' ≡ is_open_entry e
open_stays e e' stay state = ap₂ (λ s j. is_open_phase (phase_of (fate_of s) j)) state stay.attempt

same_line : (starter : Name) (e e' : Entry) → PerformersStay e e' → e'.state ≡ e.state → AsksSettled e → line_of starter e' ≡ line_of starter e
same_line starter e e' stay state settled =
    ap (λ (x : Activity). option_and_then (λ p. cond (is_open_entry e') (if_manual (line_by e' p starter)) None) (program_in x.work)) stay.activity
    ∙ and_then_same (program_in e.activity.work) (λ p. cond (is_open_entry e) (if_manual (line_by e p starter)) None) (λ p. cond (is_open_entry e') (if_manual (line_by e' p starter)) None)
    (λ p runs. ap (λ b. cond b (if_manual (line_by e' p starter)) None) (open_stays e e' stay state) ∙ ap (λ l. cond (is_open_entry e) (if_manual l) None) (line p runs))
  where
    line : (p : ProgramOf) → program_in e.activity.work ≡ Some p → line_by e' p starter ≡ line_by e p starter
    line p runs =
        ap₂ (λ (s : State) (who : Option Name). let l : ItemLine = record { hold = hold_of s; program = p; starter = starter; performer = who } in l) state
        (performer_stays e e' stay p.by (settled p runs))

-- a path whose item is open in the same state, or open in neither
pub line_stays : (ts : List Template) (g : Graph) (s s' : ScopeState) (starter : Name) (parts : List Part) → KeepsPerformers ts g s s'
    → ((e : Entry) → entry_at ts parts (stand g s) ≡ Some e → is_open_entry e ≡ true → AsksSettled e) → open_at ts g s' parts ≡ open_at ts g s parts
    → option_and_then (line_of starter) (entry_at ts parts (stand g s')) ≡ option_and_then (line_of starter) (entry_at ts parts (stand g s))
line_stays ts g s s' starter parts keeps settled same = go (open_at ts g s parts) refl
  where
    go : (o : Option State) → open_at ts g s parts ≡ o → option_and_then (line_of starter) (entry_at ts parts (stand g s')) ≡ option_and_then (line_of starter) (entry_at ts parts (stand g s))
    go None none = none_open starter (entry_at ts parts (stand g s')) (same ∙ none) ∙ sym (none_open starter (entry_at ts parts (stand g s)) none)
    go (Some state) opens =
        let one = open_entry (entry_at ts parts (stand g s)) state opens in
        let one' = open_entry (entry_at ts parts (stand g s')) state (same ∙ opens) in
        ap (option_and_then (line_of starter)) one'.is
        ∙ same_line starter one.entry one'.entry (keeps parts one.entry one'.entry one.is one'.is) (one'.state_is ∙ sym one.state_is) (settled one.entry one.is one.opens)
        ∙ ap (option_and_then (line_of starter)) (sym one.is)

-- ---- manual items

-- an open item has no line where its activity has none
pub manual_stays : (starter : Name) (e e' : Entry) → e'.activity ≡ e.activity → is_open_entry e' ≡ true → line_of starter e' ≡ None → line_of starter e ≡ None
manual_stays starter e e' activity opens none =
    go (program_in e.activity.work) (sym (ap (λ (x : Activity). option_and_then (λ p. cond (is_open_entry e') (if_manual (line_by e' p starter)) None) (program_in x.work)) activity) ∙ none)
  where
    shut : (b : Bool) → ◌≡◌ {A = Option ItemLine} (cond b None None) None
    shut true = refl
    shut false = refl

    by_manual : (p : ProgramOf) (m : Bool) → p.manual ≡ m → if_manual (line_by e' p starter) ≡ None → if_manual (line_by e p starter) ≡ None
    by_manual p false is none = ap (λ m. cond m (Some (line_by e p starter)) None) is
    by_manual p true is none = let n : Some (line_by e' p starter) ≡ None = sym (ap (λ m. cond m (Some (line_by e' p starter)) None) is) ∙ none in let m : ⊥ = cc in absurd m

    go : (o : Option ProgramOf) → option_and_then (λ p. cond (is_open_entry e') (if_manual (line_by e' p starter)) None) o ≡ None
        → option_and_then (λ p. cond (is_open_entry e) (if_manual (line_by e p starter)) None) o ≡ None
    go None none = refl
    go (Some p) none =
        ap (λ l. cond (is_open_entry e) l None) (by_manual p p.manual refl (sym (ap (λ b. cond b (if_manual (line_by e' p starter)) None) opens) ∙ none))
        ∙ shut (is_open_entry e)
