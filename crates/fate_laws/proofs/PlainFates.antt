-- The fate of an activity by its join and the outputs of its attempts, in words; and how it has ended.
use Rattle.std.proofs.Common.{◌≡◌, ℕ, ◌+◌, Bool, true, false, if◌then◌else◌, List, [], ◌∷◌, length, refl, sym, ap, ◌∙◌, Option, Some, None}
use Rattle.std.specs.List.{last_or}
use Rattle.flow_model.specs.declared.graphs.Activity.{Activity}
use Rattle.flow_model.specs.declared.graphs.Container.{Container}
use Rattle.flow_model.specs.declared.graphs.Work.{Work, Program as RunsProgram, Block, Process}
use Rattle.flow_model.specs.declared.instances.Fate.{Fate}
use Rattle.flow_model.specs.declared.instances.Fate.TheVariants.{Waiting, Ready, Running, Finished, Dead}
use Rattle.flow_model.specs.declared.instances.SourceEnd.{SourceEnd}
use Rattle.flow_model.specs.declared.instances.SourceEnd.TheVariants as end
use Rattle.flow_model.specs.Conditions.{holds}
use Rattle.flow_model.specs.Fates.{goes_on, fate_by, ended}
use Rattle.fate_laws.specs.Equations.{IsProgram, GoesOn, IsFate, IsEnd}

-- ---- the fate

waiting_fate : (activity : Activity) (outs : List Container) → IsFate activity None outs Waiting
waiting_fate activity outs = record {
  waiting = (λ h. refl, λ h. refl);
  dead = (λ h. cc, λ h. cc);
  finished = λ n. (λ h. let n : ⊥ = cc in absurd n, λ t. let j : None ≡ Some true = t.0 in let n : ⊥ = cc in absurd n);
  ready = λ n. (λ h. let n : ⊥ = cc in absurd n, λ t. let j : None ≡ Some true = t.0 in let n : ⊥ = cc in absurd n);
  running = λ n. (λ h. let n : ⊥ = cc in absurd n, λ t. let j : None ≡ Some true = t.0 in let n : ⊥ = cc in absurd n);
}

dead_fate : (activity : Activity) (outs : List Container) → IsFate activity (Some false) outs Dead
dead_fate activity outs = record {
  waiting = (λ h. cc, λ h. cc);
  dead = (λ h. refl, λ h. refl);
  finished = λ n. (λ h. let n : ⊥ = cc in absurd n, λ t. let j : Some false ≡ Some true = t.0 in let n : ⊥ = cc in absurd n);
  ready = λ n. (λ h. let n : ⊥ = cc in absurd n, λ t. let j : Some false ≡ Some true = t.0 in let n : ⊥ = cc in absurd n);
  running = λ n. (λ h. let n : ⊥ = cc in absurd n, λ t. let j : Some false ≡ Some true = t.0 in let n : ⊥ = cc in absurd n);
}

both : {b : Bool} → b ≡ true → b ≡ false → ⊥
both yes_ no_ = let wrong : true ≡ false = sym yes_ ∙ no_ in cc

finished_fate : (activity : Activity) (outs : List Container) (out : Container) → last_or None outs ≡ Some out → holds activity.exit out ≡ true
    → IsFate activity (Some true) outs (Finished (length outs))
finished_fate activity outs out last exits = record {
  waiting = (λ h. cc, λ h. cc);
  dead = (λ h. cc, λ h. cc);
  finished = λ n. (λ h. let same : length outs ≡ n = cc in (refl, same, out, last, exits), λ t. ap Finished t.1);
  ready = λ n. (λ h. let n : ⊥ = cc in absurd n, λ t. absurd (both exits (t.2 out last)));
  running = λ n. (λ h. let n : ⊥ = cc in absurd n, λ t. absurd (both exits (t.2 out last)));
}

ready_fate : (activity : Activity) (outs : List Container) → GoesOn activity.exit outs → IsProgram activity.work → IsFate activity (Some true) outs (Ready (length outs + 1))
ready_fate activity outs on program = record {
  waiting = (λ h. cc, λ h. cc);
  dead = (λ h. cc, λ h. cc);
  finished = λ n. (λ h. let n : ⊥ = cc in absurd n, λ t. absurd (both t.4 (on t.2 t.3)));
  ready = λ n. (λ h. let same : length outs + 1 ≡ n = cc in (refl, same, on, program), λ t. ap Ready t.1);
  running = λ n. (λ h. let n : ⊥ = cc in absurd n, λ t. absurd (t.3 program));
}

running_fate : (activity : Activity) (outs : List Container) → GoesOn activity.exit outs → (IsProgram activity.work → ⊥) → IsFate activity (Some true) outs (Running (length outs + 1))
running_fate activity outs on none = record {
  waiting = (λ h. cc, λ h. cc);
  dead = (λ h. cc, λ h. cc);
  finished = λ n. (λ h. let n : ⊥ = cc in absurd n, λ t. absurd (both t.4 (on t.2 t.3)));
  ready = λ n. (λ h. let n : ⊥ = cc in absurd n, λ t. absurd (none t.3));
  running = λ n. (λ h. let same : length outs + 1 ≡ n = cc in (refl, same, on, none), λ t. ap Running t.1);
}

next_fate : (activity : Activity) (outs : List Container) → GoesOn activity.exit outs → (w : Work) → activity.work ≡ w → IsFate activity (Some true) outs (goes_on w (length outs + 1))
next_fate activity outs on (RunsProgram p) is = ready_fate activity outs on (p, is)
next_fate activity outs on (Block g) is = running_fate activity outs on (λ q. let wrong : Block g ≡ RunsProgram q.0 = sym is ∙ q.1 in cc)
next_fate activity outs on (Process t) is = running_fate activity outs on (λ q. let wrong : Process t ≡ RunsProgram q.0 = sym is ∙ q.1 in cc)

last_some : (o : Container) (outs : List Container) → last_or (Some o) outs ≡ None → ⊥
last_some o [] h = cc
last_some o (x ∷ outs) h = last_some x outs h

no_last : (outs : List Container) → last_or None outs ≡ None → outs ≡ []
no_last [] h = refl
no_last (o ∷ outs) h = absurd (last_some o outs h)

open_fate : (activity : Activity) (outs : List Container) → IsFate activity (Some true) outs (fate_by activity (Some true) outs)
open_fate activity outs = go (last_or None outs) refl
  where
    on_exit : (out : Container) → last_or None outs ≡ Some out → (b : Bool) → holds activity.exit out ≡ b
        → IsFate activity (Some true) outs (if b then Finished (length outs) else goes_on activity.work (length outs + 1))
    on_exit out last true is = finished_fate activity outs out last is
    on_exit out last false is =
        next_fate activity outs (λ o there. let same : Some out ≡ Some o = sym last ∙ there in let e : out ≡ o = cc in ap (holds activity.exit) (sym e) ∙ is) activity.work refl

    go : (o : Option Container) → last_or None outs ≡ o → IsFate activity (Some true) outs (fate_by activity (Some true) outs)
    go None last =
        let none : length outs + 1 ≡ 1 = rw (no_last outs last) refl in
        let on : GoesOn activity.exit outs = λ o there. let wrong : None ≡ Some o = sym last ∙ there in let n : ⊥ = cc in absurd n in
        rw last (rw none at (next_fate activity outs on activity.work refl))
    go (Some out) last = rw last (on_exit out last (holds activity.exit out) refl)

pub fate_in_words : (activity : Activity) (v : Option Bool) (outs : List Container) → IsFate activity v outs (fate_by activity v outs)
fate_in_words activity None outs = waiting_fate activity outs
fate_in_words activity (Some false) outs = dead_fate activity outs
fate_in_words activity (Some true) outs = open_fate activity outs

pub one_fate : (activity : Activity) (v : Option Bool) (outs : List Container) (f f' : Fate) → IsFate activity v outs f → IsFate activity v outs f' → f ≡ f'
one_fate activity v outs Waiting f' is is' = sym (is'.waiting.1 (is.waiting.0 refl))
one_fate activity v outs Dead f' is is' = sym (is'.dead.1 (is.dead.0 refl))
one_fate activity v outs (Finished n) f' is is' = sym ((is'.finished n).1 ((is.finished n).0 refl))
one_fate activity v outs (Ready n) f' is is' = sym ((is'.ready n).1 ((is.ready n).0 refl))
one_fate activity v outs (Running n) f' is is' = sym ((is'.running n).1 ((is.running n).0 refl))

-- ---- the end

open_end : (f : Fate) (outs : List Container) → (f ≡ Dead → ⊥) → ((n : ℕ) → f ≡ Finished n → ⊥) → IsEnd f outs end.Unsettled
open_end f outs dead finished = record {
  dead = (λ h. let n : ⊥ = cc in absurd n, λ h. absurd (dead h));
  finished = λ out. (λ h. let n : ⊥ = cc in absurd n, λ t. absurd (finished t.0 t.1));
}

pub end_in_words : (f : Fate) (outs : List Container) → IsEnd f outs (ended f outs)
end_in_words Waiting outs = open_end Waiting outs (λ h. cc) (λ n h. cc)
end_in_words (Ready k) outs = open_end (Ready k) outs (λ h. cc) (λ n h. cc)
end_in_words (Running k) outs = open_end (Running k) outs (λ h. cc) (λ n h. cc)
end_in_words Dead outs = record {
  dead = (λ h. refl, λ h. refl);
  finished = λ out. (λ h. let n : ⊥ = cc in absurd n, λ t. let wrong : Dead ≡ Finished t.0 = t.1 in let n : ⊥ = cc in absurd n);
}
end_in_words (Finished k) outs = go (last_or None outs) refl
  where
    no_output : last_or None outs ≡ None → IsEnd (Finished k) outs end.Unsettled
    no_output last = record {
      dead = (λ h. cc, λ h. cc);
      finished = λ out. (λ h. let n : ⊥ = cc in absurd n, λ t. let wrong : None ≡ Some out = sym last ∙ t.2 in let n : ⊥ = cc in absurd n);
    }

    output : (o : Container) → last_or None outs ≡ Some o → IsEnd (Finished k) outs (end.Finished o)
    output o last = record {
      dead = (λ h. cc, λ h. cc);
      finished = λ out. (λ h. let same : o ≡ out = cc in (k, refl, last ∙ ap Some same), λ t. let same : Some o ≡ Some out = sym last ∙ t.2 in let e : o ≡ out = cc in ap end.Finished e);
    }

    go : (o : Option Container) → last_or None outs ≡ o → IsEnd (Finished k) outs (ended (Finished k) outs)
    go None last = rw last (no_output last)
    go (Some o) last = rw last (output o last)

pub one_end : (f : Fate) (outs : List Container) (s s' : SourceEnd) → IsEnd f outs s → IsEnd f outs s' → s ≡ s'
one_end f outs end.Dead s' is is' = sym (is'.dead.1 (is.dead.0 refl))
one_end f outs (end.Finished out) s' is is' = sym ((is'.finished out).1 ((is.finished out).0 refl))
one_end f outs end.Unsettled end.Unsettled is is' = refl
one_end f outs end.Unsettled end.Dead is is' = is.dead.1 (is'.dead.0 refl)
one_end f outs end.Unsettled (end.Finished out) is is' = (is.finished out).1 ((is'.finished out).0 refl)
