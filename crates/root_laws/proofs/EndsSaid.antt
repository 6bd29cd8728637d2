-- What the state of a right root says of how activities have ended.
use Rattle.std.proofs.Common.{◌≡◌, ℕ, true, false, List, [], map, ap, sym, ◌∙◌}
use Rattle.blocks_subprocs.specs.Ends.{ends_of}
use Rattle.flow_model.specs.Fates.{is_settled}
use Rattle.flow_model.specs.Scopes.{tree_ends}
use Rattle.flow_model.specs.declared.graphs.Container.{Container}
use Rattle.flow_model.specs.declared.graphs.Template.{Template}
use Rattle.navigator.specs.Showing.{note_in}
use Rattle.navigator.specs.declared.instance.Instance.{Instance}
use Rattle.navigator.specs.declared.scopes.ScopeState.{out-ScopeState}
use Rattle.view_laws.proofs.NothingDue.{nothing}
use Rattle.view_laws.proofs.WholeRuns.{running_is, sound, quiet}
use Rattle.view_laws.specs.Messages.{Note}
use Rattle.view_laws.specs.Queues.{queue}
use Rattle.view_laws.specs.Runs.{Event, is_stopped, running, seen, fated, engine}
use Rattle.root_laws.proofs.Putting.{none_stand}
use Rattle.root_laws.specs.RightRoots.{Queued, root_in, IsRight}

module _ (ts : List Template) (q : Note → ℕ) (h : List Event) (queued : Queued) (input : Container) (i : Instance) (a : ℕ) (right : IsRight ts q h queued input i) where
  pub is_sound : is_settled (ends_of (out-ScopeState i.scope).ends.items a) ≡ true
      → ends_of (out-ScopeState i.scope).ends.items a ≡ tree_ends ts right.depth (fated (running h)) right.graph input a
  is_sound settled =
      let r = root_in ts right.depth right.graph input in
      let now : ends_of (out-ScopeState i.scope).ends.items a ≡ tree_ends ts right.depth (seen (running h)) right.graph input a = right.shows.ends a in
      now ∙ sym ((sound r q right.served.well h right.legal.fronts (nothing r q)).kept a (ap is_settled (sym now) ∙ settled))

  pub is_whole : i.terminated ≡ false → ((n : ℕ) → queued n ≡ [])
      → ends_of (out-ScopeState i.scope).ends.items a ≡ tree_ends ts right.depth (fated h) right.graph input a
  is_whole lives empty =
      let r = root_in ts right.depth right.graph input in
      let runs : is_stopped h ≡ false = right.stopped ∙ lives in
      let none : (n : ℕ) → queue (engine r q) h n ≡ []
      = λ n. none_stand (note_in ts right.graph) (queue (engine r q) h n) (sym (ap (map (note_in ts right.graph)) (empty n)) ∙ right.messages n) in
      right.shows.ends a ∙ ap (λ (l : List Event). tree_ends ts right.depth (seen l) right.graph input a) (running_is h runs)
      ∙ (quiet r q right.served.well h right.legal.fronts (nothing r q) runs right.started none).ends a
