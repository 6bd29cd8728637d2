-- The lines of the result of following, and of refusals.
use Rattle.std.specs.Prelude.{ℕ, List, [], ◌++◌, codes}
use Rattle.std.specs.Fmt.{decimal}
use Rattle.standby.specs.declared.following.Followed.{Followed}
use Rattle.standby.specs.declared.stops.ShipStop.{ShipStop}
use Rattle.standby.specs.declared.stops.ShipStop.TheVariants as ship
use Rattle.standby.specs.declared.stops.FollowStop.{FollowStop}
use Rattle.standby.specs.declared.stops.FollowStop.TheVariants as follow

-- a line of a word and a number
abbrev pub numbered_line : List ℕ → ℕ → List ℕ
numbered_line word number = word ++ codes " " ++ decimal number ++ codes "\n"

-- the line of a refusal to ship; nothing where the stop is no refusal of a stream's own
abbrev pub ship_refusal_line : ShipStop → List ℕ
ship_refusal_line (ship.Store stop) = []
ship_refusal_line (ship.Gone number) = numbered_line (codes "no GONE") number
ship_refusal_line (ship.Ahead number) = numbered_line (codes "no AHEAD") number
ship_refusal_line ship.WriteFault = []
ship_refusal_line ship.NoMemory = []

-- the line of a refusal to follow; nothing where the stop is no refusal of a stream's own
abbrev pub follow_refusal_line : FollowStop → List ℕ
follow_refusal_line (follow.Store stop) = []
follow_refusal_line (follow.Frame place) = numbered_line (codes "no FRAME") place
follow_refusal_line (follow.Cut number) = numbered_line (codes "no CUT") number
follow_refusal_line follow.Other = codes "no OTHER\n"
follow_refusal_line (follow.Gap number) = numbered_line (codes "no GAP") number
follow_refusal_line (follow.NotAllowed number) = numbered_line (codes "no NOTALLOWED") number
follow_refusal_line follow.ReadFault = []
follow_refusal_line follow.TooLong = []
follow_refusal_line follow.NoMemory = []

-- the line of the result of following: the number of the transactions, and how many were taken
abbrev pub followed_line : Followed → List ℕ
followed_line followed =
    codes "ok FOLLOW " ++ decimal followed.number ++ codes " " ++ decimal followed.taken ++ codes "\n"
