-- The item that a token names, with what its tests ask of it, is the machine's.
use Rattle.std.proofs.Common.{◌≡◌, ℕ, map, List, Option, Some, None, option_map, option_and_then, refl, sym, ap, ◌∙◌}
use Rattle.std.proofs.Common.{inl, inr}
use Rattle.std.specs.Prelude.{slice_get}
use Rattle.std.proofs.lemmas.Option.{none-some}
use Rattle.flow_core.specs.Allowing.{Subject, IsThere, mode_in, performer_by}
use Rattle.flow_core.specs.Answers.{instance_of}
use Rattle.flow_core.specs.Refusals.{IsNamed}
use Rattle.flow_core.specs.declared.state.Core.{Core}
use Rattle.flow_model.specs.declared.graphs.DoneBy.{DoneBy}
use Rattle.flow_model.specs.declared.graphs.DoneBy.TheVariants as by
use Rattle.flow_model.specs.declared.instances.Path.{Path}
use Rattle.flow_model.specs.declared.instances.SourceEnd.{SourceEnd}
use Rattle.flow_model.specs.declared.instances.SourceEnd.TheVariants as end
use Rattle.machine.specs.Items.{program_in}
use Rattle.machine.specs.Rows.{Standing}
use Rattle.machine_scopes.specs.Seen.{standing_of}
use Rattle.machine_scopes.proofs.Lists.{map_read, map_none}
use Rattle.machine.specs.Verdicts as machine
use Rattle.navigator.specs.Items as engine
use Rattle.navigator.specs.declared.instance.Instance.{Instance}
use Rattle.navigator.specs.declared.scopes.ActivityState.{ActivityState, Program, Nested}
use Rattle.navigator.specs.declared.scopes.ScopeState.{out-ScopeState}
use Rattle.machine_laws.specs.Viewed.{view, root_of, entry_of}
use Rattle.machine_laws.proofs.Seen.{items}

-- an item with what its tests ask, as the machine sees it
abbrev pub seen : Subject → machine.Subject
seen s = record {
  item = entry_of s.item;
  program = s.program;
  mode = s.mode;
  starter = s.starter;
  performer = s.performer;
}

-- ---- the mode of a root

pub modes : (o : Option Instance) → option_map machine.mode_in (option_map root_of o) ≡ option_map mode_in o
modes None = refl
modes (Some i) = refl

-- ---- who did it

standing_at : (states : List ActivityState) (a : ℕ) (o : Option ActivityState) → slice_get states a ≡ o
    → slice_get (map standing_of states) a ≡ option_map standing_of o
standing_at states a None none = map_none standing_of states a none
standing_at states a (Some state) there = map_read standing_of states a state there

performers_in : (o : Option ActivityState) → machine.performer_in (option_map standing_of o) ≡ engine.performer_in o
performers_in None = refl
performers_in (Some (Program p)) = refl
performers_in (Some (Nested k)) = refl

performers_if : (ended : Option SourceEnd) (o : Option ActivityState) (y : Option Standing)
    → y ≡ option_map standing_of o → machine.performer_if ended y ≡ engine.performer_if ended o
performers_if None o y same = refl
performers_if (Some end.Unsettled) o y same = refl
performers_if (Some end.Dead) o y same = refl
performers_if (Some (end.Finished output)) o y same = ap machine.performer_in same ∙ performers_in o

pub performers : (e : engine.Entry) (done_by : DoneBy)
    → machine.performer_by (entry_of e) done_by ≡ performer_by e done_by
performers e (by.Role role) = refl
performers e (by.Person name) = refl
performers e by.Starter = refl
performers e (by.PerformerOf place) =
    performers_if (slice_get (out-ScopeState e.scope).ends.items place)
    (slice_get (out-ScopeState e.scope).states.items place)
    (slice_get (map standing_of (out-ScopeState e.scope).states.items) place)
    (standing_at (out-ScopeState e.scope).states.items place
    (slice_get (out-ScopeState e.scope).states.items place) refl)

-- ---- the item of a path

module _ (c : Core) (path : Path) (s : Subject) (is : IsThere c path s) where
  in_root : (o : Option Instance) → option_map mode_in o ≡ Some s.mode → option_map (λ i. i.starter) o ≡ Some s.starter
      → machine.subject_by (entry_of s.item) (Some s.program) (option_map root_of o) ≡ Some (seen s)
  in_root None moded starts = absurd (none-some s.mode moded)
  in_root (Some i) moded starts =
      let mode : machine.mode_in (root_of i) ≡ s.mode = cc in
      let starter : i.starter ≡ s.starter = cc in
      let performer : machine.performer_by (entry_of s.item) s.program.by ≡ s.performer =
      performers s.item s.program.by ∙ sym is.performer in
      λ j. Some (record {
        item = entry_of s.item;
        program = s.program;
        mode = mode j;
        starter = starter j;
        performer = performer j;
      })

  pub subject_seen : machine.subject_of (view c) path ≡ Some (seen s)
  subject_seen =
      ap (option_and_then (λ e. machine.subject_by e (program_in e.activity.work) ((view c).roots path.root)))
      (items c path ∙ ap (option_map entry_of) is.there)
      ∙ (ap (λ p. machine.subject_by (entry_of s.item) p ((view c).roots path.root)) is.program
      ∙ in_root (instance_of c path.root) is.mode is.starter)

-- the item that a token names
pub named_seen : (c : Core) (token : List ℕ) (o : Option Subject) → IsNamed c token o
    → machine.IsNamed (view c) token (option_map seen o)
named_seen c token None (inl spelled_not) = inl spelled_not
named_seen c token None (inr away) = inr (away.0, away.1, items c away.0 ∙ ap (option_map entry_of) away.2)
named_seen c token (Some s) is = (is.0, is.1, subject_seen c is.0 s is.2)
