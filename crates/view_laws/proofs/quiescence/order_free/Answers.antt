use Rattle.std.proofs.Common.{◌≡◌, ℕ, List, length, Option, true, ap, sym, ◌∙◌}
use Rattle.std.proofs.Math.Path.{fun_ext}
use Rattle.flow_model.specs.declared.graphs.Container.{Container}
use Rattle.flow_model.specs.declared.instances.Part.{Part}
use Rattle.flow_model.specs.Rows.{output_of}
use Rattle.flow_model.specs.Scopes.{Known, tree_fate}
use Rattle.view_laws.specs.Runs.{facts, fated}
use Rattle.view_laws.proofs.WholeRuns.{quiet}
use Rattle.view_laws.proofs.NothingDue.{nothing}
use Rattle.view_laws.proofs.quiescence.order_free.Goals as goal

by_outputs : ℕ → (List Part → Option Container) → Known
by_outputs n given = record { most = n; begun = λ p. true; closed = λ p. true; sent = λ p a b v. v; given = given }

pub returns : goal.returns
unfolding by_outputs
returns c = λ r q q' h h' well is is' count same a.
    let one = (quiet r q well h is.legal (nothing r q) is.runs is.started is.empty).fates a in
    let two = (quiet r q' well h' is'.legal (nothing r q') is'.runs is'.started is'.empty).fates a in
    let known : fated h ≡ fated h' = ap (λ n. by_outputs n (output_of (facts h))) count ∙ ap (by_outputs (length (facts h'))) (fun_ext same) in
    one ∙ ap (λ k. tree_fate r.templates r.depth k r.graph r.input a) known ∙ sym two
