-- The output of a root that is done.
use Rattle.std.proofs.Common.{◌≡◌, ◌==◌, ◌&&◌, ◌+◌, ℕ, zero, suc, Bool, true, false, Some, List, [], length, refl, arith, subst, sym, ◌∙◌}
use Rattle.std.proofs.lemmas.Bool.{and_parts}
use Rattle.fate_laws.proofs.Stays.{output_kept, unsettled_past}
use Rattle.flow_core.specs.Answers.{mode_now}
use Rattle.flow_core.specs.Containing.{IsOutputOf}
use Rattle.flow_model.specs.ScopeContainers.{is_complete}
use Rattle.flow_model.specs.Scopes.{output, tree_ends}
use Rattle.flow_model.specs.Wiring.{IsSinking}
use Rattle.flow_model.specs.declared.graphs.Container.{Container}
use Rattle.flow_model.specs.declared.graphs.Graph.{Graph, out-Graph}
use Rattle.flow_model.specs.declared.graphs.Template.{Template}
use Rattle.flow_model.specs.declared.instances.Mode.TheVariants.{Done}
use Rattle.navigator.proofs.ReadScopes.{shown_complete}
use Rattle.navigator.specs.Instances.{mode_of}
use Rattle.navigator.specs.Serving.{Served}
use Rattle.navigator.specs.declared.instance.Instance.{Instance}
use Rattle.navigator.specs.declared.scopes.ScopeState.{out-ScopeState}
use Rattle.root_laws.specs.RightRoots.{Queued, root_in, IsRight}
use Rattle.view_laws.proofs.NothingDue.{nothing}
use Rattle.view_laws.proofs.WholeRuns.{sound}
use Rattle.view_laws.specs.Messages.{Note}
use Rattle.view_laws.specs.Runs.{Event, running, seen, fated}

-- what is done is complete
complete_of : (terminated complete suspended : Bool) → mode_of terminated complete suspended ≡ Done → complete ≡ true
complete_of true complete suspended is = cc
complete_of false true suspended is = refl
complete_of false false true is = cc
complete_of false false false is = cc

sinks : (ts : List Template) (depth : ℕ) (g : Graph) → Served ts depth g → IsSinking g
sinks ts zero g served = served.sinking
sinks ts (suc depth) g served = served.sinking

module _ (ts : List Template) (q : Note → ℕ) (h : List Event) (queued : Queued) (input : Container) (i : Instance) (right : IsRight ts q h queued input i) where
  pub done_output : (out : Container) → mode_now i ≡ Done → IsOutputOf ts right.graph i out
      → output ts (suc right.depth) (fated (running h)) right.graph input ≡ Some out
  done_output out done shown =
      let r = root_in ts right.depth right.graph input in
      let k = seen (running h) in
      let begun = (out-ScopeState i.scope).begun in
      let whole : (begun && ((out-ScopeState i.scope).unsettled == 0)) ≡ true = complete_of i.terminated (begun && ((out-ScopeState i.scope).unsettled == 0)) i.suspended done in
      let all = and_parts (k.begun []) (is_complete right.graph (tree_ends ts right.depth k right.graph input))
      (sym (shown_complete ts right.depth k right.graph input i.scope right.shows) ∙ whole) in
      let next : right.depth + 1 ≡ suc right.depth = omega arith in
      let viewed = subst (λ (n : ℕ). output ts n k right.graph input ≡ Some out) next (shown (sinks ts right.depth right.graph right.served.served) right.depth k input right.shows all.1) in
      output_kept right.graph input (tree_ends ts right.depth k right.graph input) (tree_ends ts right.depth (fated (running h)) right.graph input)
      (sound r q right.served.well h right.legal.fronts (nothing r q))
      (λ b past. unsettled_past ts (fated (running h)) (output ts right.depth) right.graph input (length (out-Graph right.graph).activities) b past
      ∙ sym (unsettled_past ts k (output ts right.depth) right.graph input (length (out-Graph right.graph).activities) b past))
      out viewed
