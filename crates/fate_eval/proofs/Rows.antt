-- What stands at the places of a row, mapped and tested.
use Rattle.std.proofs.Common.{◌≡◌, ℕ, Bool, true, false, ◌&&◌, List, [], ◌∷◌, map, Option, Some, None, cond, refl, ap, sym, ◌∙◌}
use Rattle.std.specs.Prelude.{slice_get}
use Rattle.std.specs.List.{filter, filter_map, cons_option, list_all}
use Rattle.std.specs.Option.{option_map, option_map_or}
use Rattle.flow_model.specs.Wiring.{at_places}
use Rattle.flow_model.specs.Fates.{Ends}
use Rattle.flow_model.specs.ScopeContainers.{same_end}
use Rattle.flow_model.specs.Scopes.{is_fed, is_ready_source}
use Rattle.flow_model.specs.declared.graphs.DataLine.{DataLine}
use Rattle.flow_model.specs.declared.graphs.MapEnd.TheVariants.{Activity as At}

map_cons : {X Y : Type 0} (f : X → Y) (o : Option X) (xs : List X) → map f (cons_option o xs) ≡ cons_option (option_map f o) (map f xs)
map_cons f None xs = refl
map_cons f (Some x) xs = refl

-- a map of what stands at some places, place by place
pub mapped_at : {X Y : Type 0} (f : X → Y) (xs : List X) (ps : List ℕ)
    → filter_map (λ p. option_map f (slice_get xs p)) ps ≡ map f (at_places xs ps)
mapped_at f xs [] = refl
mapped_at f xs (p ∷ ps) =
    ap (cons_option (option_map f (slice_get xs p))) (mapped_at f xs ps) ∙ sym (map_cons f (slice_get xs p) (at_places xs ps))

all_cons : {X : Type 0} (f : X → Bool) (o : Option X) (xs : List X) → list_all f (cons_option o xs) ≡ (option_map_or f o true && list_all f xs)
all_cons f None xs = refl
all_cons f (Some x) xs = refl

-- a test of all that stands at some places, place by place
pub all_at : {X : Type 0} (f : X → Bool) (xs : List X) (ps : List ℕ)
    → list_all (λ p. option_map_or f (slice_get xs p) true) ps ≡ list_all f (at_places xs ps)
all_at f xs [] = refl
all_at f xs (p ∷ ps) =
    ap (λ (b : Bool). option_map_or f (slice_get xs p) true && b) (all_at f xs ps) ∙ sym (all_cons f (slice_get xs p) (at_places xs ps))

all_cond : {X : Type 0} (f : X → Bool) (b : Bool) (x : X) (xs : List X) → (cond b (f x) true && list_all f xs) ≡ list_all f (cond b (x ∷ xs) xs)
all_cond f true x xs = refl
all_cond f false x xs = refl

-- an activity is fed where the sources of the lines that lead to it are settled
pub fed_by_lines : (lines : List DataLine) (a : ℕ) (e : Ends)
    → is_fed lines a e ≡ list_all (λ line. is_ready_source line.from e) (filter (λ line. same_end line.to (At a)) lines)
fed_by_lines [] a e = refl
fed_by_lines (line ∷ lines) a e =
    ap (λ (b : Bool). cond (same_end line.to (At a)) (is_ready_source line.from e) true && b) (fed_by_lines lines a e)
    ∙ all_cond (λ l. is_ready_source l.from e) (same_end line.to (At a)) line (filter (λ l. same_end l.to (At a)) lines)
