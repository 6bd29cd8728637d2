-- The connectors and data lines that lead to an activity, as the rows of the wiring name them.
use Rattle.std.proofs.Common.{◌≡◌, ℕ, Bool, true, false, ◌&&◌, List, [], ◌∷◌, ◌++◌, ◌+◌, ◌<◌, length, take, get_or, Option, Some, None, cond, refl, ap, sym, ◌∙◌, map}
use Rattle.std.specs.Prelude.{slice_get, option_map}
use Rattle.std.specs.List.{filter, filter_map, cons_option, list_all}
use Rattle.std.specs.Option.{option_map_or, option_to_list}
use Rattle.std.proofs.lemmas.List.{take_more}
use Rattle.std.proofs.lemmas.List.Elements.{filter_map-append}
use Rattle.flow_model.specs.Fates.{Ends}
use Rattle.flow_model.specs.ScopeContainers.{same_end}
use Rattle.flow_model.specs.Scopes.{is_fed, is_ready_source}
use Rattle.flow_model.specs.Wiring.{places, at_places}
use Rattle.flow_model.specs.declared.graphs.DataLine.{DataLine}
use Rattle.flow_model.specs.declared.graphs.MapEnd.TheVariants.{Activity as At}
use Rattle.dead_paths.proofs.Places.{at_places_are}

-- the values of what stands at some places
abbrev pub values_of : {X Y : Type 0} → (X → Y) → List X → List ℕ → List Y
values_of f xs ps = filter_map (λ p. option_map f (slice_get xs p)) ps

mapped_cons : {X Y : Type 0} (f : X → Y) (o : Option X) (xs : List X) → map f (cons_option o xs) ≡ cons_option (option_map f o) (map f xs)
mapped_cons f None xs = refl
mapped_cons f (Some x) xs = refl

-- they are the values of those that pass the test which the places are made by
pub values_at_places : {X Y : Type 0} (f : X → Y) (xs : List X) (ps : List ℕ) → values_of f xs ps ≡ map f (at_places xs ps)
values_at_places f xs [] = refl
values_at_places f xs (p ∷ ps) = ap (cons_option (option_map f (slice_get xs p))) (values_at_places f xs ps) ∙ sym (mapped_cons f (slice_get xs p) (at_places xs ps))

pub values_named : {X Y : Type 0} (f : X → Y) (test : X → Bool) (xs : List X) (ps : List ℕ) → ps ≡ places test 0 xs → values_of f xs ps ≡ map f (filter test xs)
values_named f test xs ps named = values_at_places f xs ps ∙ ap (λ qs. map f (at_places xs qs)) named ∙ ap (map f) (at_places_are test xs)

one_value : {X Y : Type 0} (f : X → Y) (xs : List X) (p : ℕ) → values_of f xs (p ∷ []) ≡ option_to_list (option_map f (slice_get xs p))
one_value {Y = Y} f xs p = listed (option_map f (slice_get xs p))
  where
    listed : (o : Option Y) → cons_option o [] ≡ option_to_list o
    listed None = refl
    listed (Some y) = refl

-- one value more
pub values_more : {X Y : Type 0} (f : X → Y) (xs : List X) (ps : List ℕ) (i : ℕ) (old new : List Y) → i < length ps → old ≡ values_of f xs (take i ps)
    → new ≡ old ++ option_to_list (option_map f (slice_get xs (get_or ps i 0))) → new ≡ values_of f xs (take (i + 1) ps)
values_more {Y = Y} f xs ps i old new lt before step =
    step ∙ ap (λ (l : List Y). l ++ option_to_list (option_map f (slice_get xs (get_or ps i 0)))) before
    ∙ ap (λ (l : List Y). values_of f xs (take i ps) ++ l) (sym (one_value f xs (get_or ps i 0)))
    ∙ sym (filter_map-append (λ p. option_map f (slice_get xs p)) (take i ps) (get_or ps i 0 ∷ []))
    ∙ ap (λ (qs : List ℕ). values_of f xs qs) (sym (take_more ps i 0 lt))

all_cons : {X : Type 0} (f : X → Bool) (o : Option X) (xs : List X) → list_all f (cons_option o xs) ≡ (option_map_or f o true && list_all f xs)
all_cons f None xs = refl
all_cons f (Some x) xs = refl

all_at : {X : Type 0} (f : X → Bool) (xs : List X) (ps : List ℕ) → list_all (λ p. option_map_or f (slice_get xs p) true) ps ≡ list_all f (at_places xs ps)
all_at f xs [] = refl
all_at f xs (p ∷ ps) = ap (λ (b : Bool). option_map_or f (slice_get xs p) true && b) (all_at f xs ps) ∙ sym (all_cons f (slice_get xs p) (at_places xs ps))

all_cond : {X : Type 0} (f : X → Bool) (b : Bool) (x : X) (xs : List X) → list_all f (cond b (x ∷ xs) xs) ≡ (cond b (f x) true && list_all f xs)
all_cond f true x xs = refl
all_cond f false x xs = refl

fed_all : (lines : List DataLine) (a : ℕ) (e : Ends) → list_all (λ line. is_ready_source line.from e) (filter (λ line. same_end line.to (At a)) lines) ≡ is_fed lines a e
fed_all [] a e = refl
fed_all (line ∷ lines) a e =
    all_cond (λ l. is_ready_source l.from e) (same_end line.to (At a)) line (filter (λ l. same_end l.to (At a)) lines)
    ∙ ap (λ (b : Bool). cond (same_end line.to (At a)) (is_ready_source line.from e) true && b) (fed_all lines a e)

-- what feeds an activity is settled, as the places tell
pub fed_named : (lines : List DataLine) (a : ℕ) (e : Ends) (ps : List ℕ) → ps ≡ places (λ line. same_end line.to (At a)) 0 lines
    → list_all (λ p. option_map_or (λ line. is_ready_source line.from e) (slice_get lines p) true) ps ≡ is_fed lines a e
fed_named lines a e ps named =
    all_at (λ line. is_ready_source line.from e) lines ps
    ∙ ap (λ qs. list_all (λ line. is_ready_source line.from e) (at_places lines qs)) named
    ∙ ap (list_all (λ line. is_ready_source line.from e)) (at_places_are (λ line. same_end line.to (At a)) lines)
    ∙ fed_all lines a e
