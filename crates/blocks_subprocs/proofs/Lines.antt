-- Lines one after the other, as they stand at the places of a row and as the definitions go through them.
use Rattle.std.proofs.Common.{◌≡◌, ℕ, Bool, true, false, List, [], ◌∷◌, Option, Some, None, cond, refl, ap, sym, ◌∙◌}
use Rattle.std.specs.Prelude.{◌==◌, slice_get}
use Rattle.std.specs.List.{filter, fold, cons_option}
use Rattle.std.specs.Option.{option_map_or}
use Rattle.flow_model.specs.Containers.{mapped}
use Rattle.flow_model.specs.Fates.{Ends}
use Rattle.flow_model.specs.ScopeContainers.{brought, mapped_if, same_end, fed, looped}
use Rattle.flow_model.specs.declared.graphs.Container.{Container}
use Rattle.flow_model.specs.declared.graphs.DataLine.{DataLine}
use Rattle.flow_model.specs.declared.graphs.LoopLine.{LoopLine}
use Rattle.flow_model.specs.declared.graphs.MapEnd.{MapEnd}
use Rattle.dead_paths.proofs.Places.{at_places_are}
use Rattle.flow_model.specs.Wiring.{places, at_places}

step_on : {X Y : Type 0} (f : Y → X → Y) (y : Y) (o : Option X) (xs : List X)
    → fold f y (cons_option o xs) ≡ fold f (option_map_or (f y) o y) xs
step_on f y None xs = refl
step_on f y (Some x) xs = refl

-- going through the places is going through what stands there
pub through_places : {X Y : Type 0} (f : Y → X → Y) (y : Y) (xs : List X) (ps : List ℕ)
    → fold (λ z p. option_map_or (f z) (slice_get xs p) z) y ps ≡ fold f y (at_places xs ps)
through_places f y xs [] = refl
through_places f y xs (p ∷ ps) =
    through_places f (option_map_or (f y) (slice_get xs p) y) xs ps ∙ sym (step_on f y (slice_get xs p) (at_places xs ps))

chosen : {X Y : Type 0} (f : Y → X → Y) (b : Bool) (y : Y) (x : X) (xs : List X)
    → fold f (cond b (f y x) y) xs ≡ fold f y (cond b (x ∷ xs) xs)
chosen f true y x xs = refl
chosen f false y x xs = refl

-- a container with one line applied
abbrev pub with_line : Container → Ends → Container → DataLine → Container
with_line input e target line = mapped_if line.maps (brought line.from input e) target

-- the lines that lead to an end
pub fed_by : (lines : List DataLine) (to : MapEnd) (input : Container) (e : Ends) (target : Container)
    → fed lines to input e target ≡ fold (with_line input e) target (filter (λ line. same_end line.to to) lines)
fed_by [] to input e target = refl
fed_by (line ∷ lines) to input e target =
    fed_by lines to input e (cond (same_end line.to to) (with_line input e target line) target)
    ∙ chosen (with_line input e) (same_end line.to to) target line (filter (λ l. same_end l.to to) lines)

-- a container with one LOOP line applied
abbrev pub with_loop : Container → Container → LoopLine → Container
with_loop out target line = mapped line.maps out target

-- the LOOP lines of an activity
pub looped_by : (loops : List LoopLine) (a : ℕ) (out target : Container)
    → looped loops a out target ≡ fold (with_loop out) target (filter (λ line. line.activity == a) loops)
looped_by [] a out target = refl
looped_by (line ∷ loops) a out target =
    looped_by loops a out (cond (line.activity == a) (with_loop out target line) target)
    ∙ chosen (with_loop out) (line.activity == a) target line (filter (λ l. l.activity == a) loops)

-- the lines that the wiring names, one after the other
pub fed_through : (lines : List DataLine) (to : MapEnd) (input : Container) (e : Ends) (target : Container) (ps : List ℕ)
    → ps ≡ places (λ line. same_end line.to to) 0 lines
    → fold (λ d p. option_map_or (with_line input e d) (slice_get lines p) d) target ps ≡ fed lines to input e target
fed_through lines to input e target ps named =
    through_places (with_line input e) target lines ps
    ∙ ap (λ qs. fold (with_line input e) target (at_places lines qs)) named
    ∙ ap (fold (with_line input e) target) (at_places_are (λ line. same_end line.to to) lines)
    ∙ sym (fed_by lines to input e target)

pub looped_through : (loops : List LoopLine) (a : ℕ) (out target : Container) (ps : List ℕ)
    → ps ≡ places (λ line. line.activity == a) 0 loops
    → fold (λ d p. option_map_or (with_loop out d) (slice_get loops p) d) target ps ≡ looped loops a out target
looped_through loops a out target ps named =
    through_places (with_loop out) target loops ps
    ∙ ap (λ qs. fold (with_loop out) target (at_places loops qs)) named
    ∙ ap (fold (with_loop out) target) (at_places_are (λ line. line.activity == a) loops)
    ∙ sym (looped_by loops a out target)
