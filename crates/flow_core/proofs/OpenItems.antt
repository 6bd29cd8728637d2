-- An item whose phase isn't ended, in a root that is active or suspended, is open.
use Rattle.std.proofs.Common.{◌≡◌, ◌&&◌, ◌==◌, Bool, true, false, Option, Some, None, refl, sym, subst, inl, inr, option_map, Result, Ok, Err, OnOk}
use Rattle.std.proofs.lemmas.Option.{none-some}
use Rattle.activity_states.specs.States.{fate_of}
use Rattle.flow_model.specs.declared.instances.Path.{Path}
use Rattle.flow_model.specs.declared.instances.Phase.TheVariants.{Ended}
use Rattle.navigator.specs.Instances.{mode_of}
use Rattle.navigator.specs.Items.{phase_of}
use Rattle.navigator.specs.declared.instance.Instance.{Instance}
use Rattle.navigator.specs.declared.scopes.ScopeState.{out-ScopeState}
use Rattle.flow_core.specs.Allowing.{mode_in, IsRunning, known_entry, IsKnown, IsOpen, IsPassed}
use Rattle.flow_core.specs.Answers.{instance_of}
use Rattle.flow_core.specs.declared.items.Known.{Known}
use Rattle.flow_core.specs.declared.refusals.Stop.{Stop}
use Rattle.flow_core.specs.declared.state.Core.{Core}

-- a root that is active or suspended isn't terminated
runs_on : (terminated complete suspended : Bool) → IsRunning (mode_of terminated complete suspended) → terminated ≡ false
runs_on false complete suspended is = refl
runs_on true complete suspended is = elim is [ inl e ↦ (let n : ⊥ = cc in absurd n) | inr e ↦ (let n : ⊥ = cc in absurd n) ]

pub opens : (c : Core) (path : Path) (k : Known) → IsKnown c path k → IsRunning k.mode → (phase_of (fate_of (known_entry k).state) (known_entry k).attempt ≡ Ended → ⊥) → IsOpen c path
opens c path k known running unended = go (instance_of c path.root) refl known.mode
  where
    go : (o : Option Instance) → instance_of c path.root ≡ o → option_map mode_in o ≡ Some k.mode → IsOpen c path
    go None live mode = absurd (none-some k.mode mode)
    go (Some i) live mode =
        let same : mode_in i ≡ k.mode = cc in
        record {
          root = i;
          live = live;
          runs = runs_on i.terminated ((out-ScopeState i.scope).begun && ((out-ScopeState i.scope).unsettled == 0)) i.suspended (subst IsRunning (sym same) running);
          item = known_entry k;
          there = known.there;
          unended = unended;
        }

-- what a test says where it is passed
pub on_passed : {P : Type 0} (r : Result (Unit {0}) Stop) → IsPassed r → OnOk r P → P
on_passed (Ok x) passed holds = holds
on_passed (Err stop) passed holds = absurd passed
