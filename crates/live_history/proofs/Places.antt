-- What places that are written under a root make of those under each.
use Rattle.std.proofs.Common.{◌≡◌, ℕ, ◌==◌, Bool, true, false, if◌then◌else◌, Option, Some, Result, Ok, Err, OnErr, List, [], ◌∷◌, ◌++◌, refl, ap, ◌∙◌}
use Rattle.std.specs.Global.{Vec}
use Rattle.live_history.specs.Rows.{kept_places, places_under}
use Rattle.number_map.specs.Entries.{NumberMap, value_under}
use Rattle.number_map.specs.Lends.{HasWritten}
use Rattle.number_map.proofs.Rows.{same_number}

same_by : (is : Bool) (after : Vec ℕ) (o : Option (Vec ℕ)) → (is ≡ true → after.items ≡ places_under o)
    → places_under (if is then Some after else o) ≡ places_under o
same_by true after o same = same refl
same_by false after o same = refl

-- the same places again change nothing
pub places_same : (root : ℕ) (old new : NumberMap (Vec ℕ)) (before after : Vec ℕ) → HasWritten root old new after → Some before ≡ value_under root old
    → after.items ≡ before.items → (other : ℕ) → kept_places new other ≡ kept_places old other
places_same root old new before after h there same other =
    ap places_under (h other)
    ∙ same_by (root == other) after (value_under other old)
    (λ e. same ∙ ap places_under there ∙ ap (λ (n : ℕ). kept_places old n) (same_number root other e))

more_by : (is : Bool) (after : Vec ℕ) (o : Option (Vec ℕ)) (more : List ℕ) → (is ≡ true → after.items ≡ places_under o ++ more)
    → places_under (if is then Some after else o) ≡ (if is then places_under o ++ more else places_under o)
more_by true after o more is = is refl
more_by false after o more is = refl

-- a place more is one more of that root
pub places_longer : (root place : ℕ) (old new : NumberMap (Vec ℕ)) (before after : Vec ℕ) → HasWritten root old new after → Some before ≡ value_under root old
    → after.items ≡ before.items ++ place ∷ [] → (other : ℕ)
    → kept_places new other ≡ (if root == other then kept_places old other ++ place ∷ [] else kept_places old other)
places_longer root place old new before after h there more other =
    ap places_under (h other)
    ∙ more_by (root == other) after (value_under other old) (place ∷ [])
    (λ e. more ∙ ap (λ (l : List ℕ). l ++ place ∷ []) (ap places_under there ∙ ap (λ (n : ℕ). kept_places old n) (same_number root other e)))

pub at_fault : {T F : Type 0} {P : Type 0} (r : Result T F) → P → OnErr r P
at_fault (Ok x) so = tt
at_fault (Err e) so = so
