-- The data lines that lead to one end bring the same where their sources have ended the same.
use Rattle.flow_model.specs.Fates.{Ends}
use Rattle.flow_model.specs.ScopeContainers.{fed, brought, same_end}
use Rattle.flow_model.specs.declared.graphs.Container.{Container}
use Rattle.flow_model.specs.declared.graphs.DataLine.{DataLine}
use Rattle.flow_model.specs.declared.graphs.MapEnd.{MapEnd}
use Rattle.flow_model.specs.declared.graphs.MapEnd.TheVariants.{Border, Activity as At}
use Rattle.std.proofs.Common.{◌≡◌, ℕ, zero, suc, Bool, true, false, List, [], ◌∷◌, refl, ap, arith, eqb-true}
use Rattle.std.specs.List.{All}

pub same_end_true : (x y : MapEnd) → same_end x y ≡ true → x ≡ y
same_end_true Border Border h = refl
same_end_true Border (At b) h = cc
same_end_true (At a) Border h = cc
same_end_true (At a) (At b) h = ap At (eqb-true a b h)

pub brought_same : (from : MapEnd) (input : Container) (e e' : Ends) → ((b : ℕ) → from ≡ At b → e' b ≡ e b) → brought from input e' ≡ brought from input e
brought_same Border input e e' same = refl
brought_same (At b) input e e' same = rw (same b refl) refl

pub fed_same : (lines : List DataLine) (to : MapEnd) (input : Container) (e e' : Ends) (target : Container)
    → All (λ line. line.to ≡ to → (b : ℕ) → line.from ≡ At b → e' b ≡ e b) lines
    → fed lines to input e' target ≡ fed lines to input e target
fed_same [] to input e e' target same = refl
fed_same (l ∷ lines) to input e e' target same = go (same_end l.to to) refl (λ t. fed_same lines to input e e' t (λ k d h. same (suc k) d (omega arith)))
  where
    go : (b : Bool) → same_end l.to to ≡ b → ((t : Container) → fed lines to input e' t ≡ fed lines to input e t)
        → fed (l ∷ lines) to input e' target ≡ fed (l ∷ lines) to input e target
    go true is rest = rw is (rw (brought_same l.from input e e' (same zero l (omega arith) (same_end_true l.to to is))) (rest _))
    go false is rest = rw is (rest target)
