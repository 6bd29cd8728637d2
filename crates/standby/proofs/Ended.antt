-- What stops following after steps that counted no fault.
use Rattle.std.proofs.Common.{◌≡◌, ℕ, Result, Ok, Err, MatchResult, sym, subst}
use Rattle.std.specs.Result.{IsErrAnd}
use Rattle.standby.specs.declared.stops.FollowStop.{FollowStop}
use Rattle.standby.specs.Endings.{FollowEnd}

-- the counts before what stopped are those at the beginning
pub end_since : (source mid source' disk mid' disk' : ℕ) (stop : FollowStop) → mid ≡ source → mid' ≡ disk → FollowEnd mid source' mid' disk' stop → FollowEnd source source' disk disk' stop
end_since source mid source' disk mid' disk' stop e e' end =
    subst (λ (n : ℕ). FollowEnd n source' disk disk' stop) e (subst (λ (n : ℕ). FollowEnd mid source' n disk' stop) e' end)

-- what the exit of a `?` gives on
pub stops : {T : Type 0} (IsDone : T → Type 0) (IsEnd : FollowStop → Type 0) (r : Result T FollowStop) (stop : FollowStop) → IsErrAnd r (λ y. y ≡ stop) → IsEnd stop → MatchResult r IsDone IsEnd
stops IsDone IsEnd (Ok x) stop is end = absurd is
stops IsDone IsEnd (Err y) stop is end = subst IsEnd (sym is) end
