-- A store that isn't opened ends shipping and following for its cause.
use Rattle.std.proofs.Common.{◌≡◌, ℕ, List, Option, Result, Ok, Err, MatchResult, sym, subst}
use Rattle.txn_log.specs.declared.opening.Opened.{Opened}
use Rattle.txn_log.specs.declared.stops.LogStop.{LogStop}
use Rattle.standby.specs.Endings.{ShipDiskEnd}
use Rattle.standby.specs.Followed.{IsNotOpened}
use Rattle.standby.specs.Followed.{IsEndBy as EndsFollowing}
use Rattle.standby.specs.Shipped.{IsUnopened, Ships}
use Rattle.standby.specs.Shipped.{IsEndBy as EndsShipping}
use Rattle.standby.specs.declared.stops.FollowStop.{FollowStop}
use Rattle.standby.specs.declared.stops.FollowStop.TheVariants as follow
use Rattle.standby.specs.declared.stops.ShipStop.{ShipStop}
use Rattle.standby.specs.declared.stops.ShipStop.TheVariants as ship

module _ (so : LogStop → Type 0) (stop : LogStop) where
  pub not_opened : (end : FollowStop) → EndsFollowing stop end → so stop → IsNotOpened so end
  not_opened (follow.Store other) is h = subst so (sym is) h
  not_opened follow.NoMemory is h = tt
  not_opened (follow.Frame place) is h = is
  not_opened (follow.Cut number) is h = is
  not_opened follow.Other is h = is
  not_opened (follow.Gap number) is h = is
  not_opened (follow.NotAllowed number) is h = is
  not_opened follow.ReadFault is h = is
  not_opened follow.TooLong is h = is

  pub not_shipped : (end : ShipStop) → EndsShipping stop end → so stop → IsUnopened so end
  not_shipped (ship.Store other) is h = subst so (sym is) h
  not_shipped (ship.Gone kept) is h = is
  not_shipped (ship.Ahead number) is h = is
  not_shipped ship.WriteFault is h = is
  not_shipped ship.NoMemory is h = tt

-- an opened store that was shipped, or not, while the count of faults of its disk stayed
pub shipped_disk : (r : Result ℕ ShipStop) (opened : Opened) (number from before now : ℕ) (old new : Option (List ℕ))
    → now ≡ before → Ships opened number from old new r → MatchResult r (λ _. now ≡ before) (ShipDiskEnd before now)
shipped_disk (Ok count) opened number from before now old new same ships = same
shipped_disk (Err (ship.Store stop)) opened number from before now old new same ships = absurd ships
shipped_disk (Err (ship.Gone kept)) opened number from before now old new same ships = same
shipped_disk (Err (ship.Ahead last)) opened number from before now old new same ships = same
shipped_disk (Err ship.WriteFault) opened number from before now old new same ships = same
shipped_disk (Err ship.NoMemory) opened number from before now old new same ships = same
