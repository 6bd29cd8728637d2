-- The newest attempt of the computed run has started, before its first completion and before its second, and the laws speak of its scope.
use Rattle.std.proofs.Common.{◌≡◌, ◌==◌, ℕ, false, inl, inr, [], ◌∷◌, refl, sym, ap, ◌∙◌, arith}
use Rattle.std.proofs.lemmas.Bool.Decides.{eqb_tells}
use Rattle.fate_laws.specs.StartedScopes.{HasStarted}
use Rattle.flow_model.specs.declared.graphs.Container.{Container}
use Rattle.flow_model.specs.declared.instances.Fate.TheVariants.{Ready}
use Rattle.flow_model.specs.Scopes.{Known, at, all_of, part, tree_fate}
use Rattle.view_laws.proofs.Example.{opened, inner, repeated, graph, templates, root, scope, begun, begun_again, one_queue, legal, well}
use Rattle.view_laws.proofs.NothingDue.{nothing}
use Rattle.view_laws.proofs.ListedStarts.{started_listed}
use Rattle.view_laws.proofs.WholeRuns.{scopes_right, scopes_reached, scopes_sound, scopes_exact}
use Rattle.view_laws.specs.Laws.{IsQuiet}
use Rattle.view_laws.specs.Queues.{queue, TakesFronts}
use Rattle.view_laws.specs.Runs.{seen, engine}
use Rattle.view_laws.specs.ScopeFacts.{IsSound, IsExact, IsRight}

abbrev empty : Container
empty = record { values = [] }

-- ---- nothing is completed

-- attempt 1 has started, and its scope is looked into
started : HasStarted templates 1 (seen begun) graph empty 0 repeated 1 inner empty
unfolding opened
started = record { is = refl; of = refl; active = refl; reach = inl (refl, refl) }

-- it is the first of those that start
is_listed : HasStarted templates 1 (seen begun) graph empty 0 repeated 1 inner empty
unfolding opened
is_listed = (started_listed templates 1 (seen begun) graph empty).started 0 repeated inner 0 (record { attempt = 1; input = empty }) refl refl refl

-- attempt 2 has not
no_second : (i : Container) → HasStarted templates 1 (seen begun) graph empty 0 repeated 2 inner i → ⊥
no_second i s = elim s.reach [
  | inl r ↦ one_two r.0
  | inr r ↦ r.3
]
  where
    one_two : ◌≡◌ {A = ℕ} 1 2 → ⊥
    one_two h = omega arith

-- ---- what the laws say of its scope

fronts : TakesFronts (engine root one_queue) begun
fronts = legal.0.0.0.0.0.0

nothing_queued : queue (engine root one_queue) begun 1 ≡ []
unfolding opened
nothing_queued = refl

other_queue : (n : ℕ) → (1 == n) ≡ false → queue (engine root one_queue) begun n ≡ []
unfolding opened
other_queue n is = rw is refl

queues : (n : ℕ) → queue (engine root one_queue) begun n ≡ []
queues n = elim (eqb_tells 1 n) [ inl is ↦ ap (queue (engine root one_queue) begun) (sym is.1) ∙ nothing_queued | inr other ↦ other_queue n other.0 ]

quiet : IsQuiet root one_queue begun
quiet = record { legal = fronts; started = refl; runs = refl; empty = queues }

abbrev inside : Known
inside = at (part (65 ∷ []) 1) (seen begun)

sound : IsSound templates 0 inside inner empty
sound = scopes_sound root one_queue well begun fronts (nothing root one_queue) (scope 1) 0 repeated 1 inner empty refl started

exact : IsExact templates 0 inside inner empty
exact = scopes_exact root one_queue well begun quiet.legal (nothing root one_queue) quiet.runs quiet.started quiet.empty (scope 1) 0 repeated 1 inner empty refl started

right : IsRight templates 0 inside inner empty
right = scopes_right root one_queue well begun fronts (nothing root one_queue) (scope 1) 0 repeated 1 inner empty refl started

reached : HasStarted templates 1 (all_of (seen begun)) graph empty 0 repeated 1 inner empty
reached = scopes_reached root one_queue well begun fronts (nothing root one_queue) [] 0 repeated 1 inner empty started

-- its program is shown ready, so it is by the completions alone
shown : tree_fate templates 0 inside inner empty 0 ≡ Ready 1
unfolding opened
shown = refl

ready : tree_fate templates 0 (all_of inside) inner empty 0 ≡ Ready 1
unfolding opened
ready = right.program 0 _ _ refl refl refl ∙ shown

-- ---- after the completion of attempt 1

-- attempt 2 has started
started_again : HasStarted templates 1 (seen begun_again) graph empty 0 repeated 2 inner empty
unfolding opened
started_again = record { is = refl; of = refl; active = refl; reach = inr (_, refl, refl, inl (refl, refl)) }

right_again : IsRight templates 0 (at (part (65 ∷ []) 2) (seen begun_again)) inner empty
right_again =
    scopes_right root one_queue well begun_again legal.0.0.0 (nothing root one_queue) (scope 2) 0 repeated 2 inner empty refl started_again
