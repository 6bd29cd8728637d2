-- Names of processes lead to the last of each where one more process is met.
use Rattle.std.proofs.Common.{◌≡◌, ℕ, suc, ◌<◌, ◌≤◌, Bool, true, false, List, [], ◌∷◌, ◌++◌, Option, Some, None, cond, get_or, length, map, Bor, refl, sym, ap, ◌∙◌, ◌+◌, ◌⊎◌, inl, inr, arith}
use Rattle.std.specs.Prelude.{◌||◌}
use Rattle.std.specs.List.{list_any}
use Rattle.std.specs.Option.{is_some, option_copied, option_or, option_map, option_and_then}
use Rattle.std.proofs.lemmas.Bool.{or_left}
use Rattle.std.proofs.lemmas.Option.{slice_get_cases}
use Rattle.indexmap.specs.IndexSet.{insert_key}
use Rattle.std.specs.Str.{bytes_eq}
use Rattle.std.specs.Prelude.{slice_get}
use Rattle.std.specs.HashMap as hash
use Rattle.std.specs.HashMap.{HashMap}
use Rattle.std.proofs.lemmas.List.{length-append, map-append}
use Rattle.flow_model.specs.declared.trees.NameAt.{NameAt}
use Rattle.flow_model.specs.declared.trees.PersonTree.{PersonTree}
use Rattle.flow_model.specs.declared.trees.ProcessTree.{ProcessTree}
use Rattle.process_rules.specs.Doers.{is_person}
use Rattle.process_rules.specs.Calling.{before_this, text_or, place_among, place_meant, stored_named, callee_meant}
use Rattle.process_rules.specs.Imports.{last_place, latest_person}
use Rattle.process_rules.specs.Knowing.{AreLast, IsKnowing, ArePeople, callee_named, place_named}
use Rattle.process_rules.specs.declared.people.Callee.{Callee}
use Rattle.process_rules.specs.declared.people.Known.{Known}
use Rattle.process_rules.proofs.Indexing.{last_pushed}
use Rattle.text_graphs.proofs.Again.{known_next}
use Rattle.text_graphs.proofs.Naming.{updated}

-- one more process
pub last_more : {S : Type 0} (ps : List ProcessTree) (p : ProcessTree) (bs : List ℕ) (number : ℕ) (m n : HashMap (Bor (List ℕ)) ℕ S) → AreLast ps m → bs ≡ p.name.name → number ≡ length ps
    → hash.UpdatesBy (λ x y. bytes_eq x.now y.now) (λ k. bytes_eq bs k.now) m n (Some number) → AreLast (ps ++ p ∷ []) n
last_more ps p bs number m n listed named counted h key =
    updated bs m n (Some number) h key
    ∙ ap (λ (o : Option ℕ). cond (bytes_eq bs key) (Some number) o) (listed key)
    ∙ ap (λ (l : List ℕ). cond (bytes_eq l key) (Some number) (last_place (λ q. bytes_eq q.name.name key) ps)) named
    ∙ ap (λ (k : ℕ). cond (bytes_eq p.name.name key) (Some k) (last_place (λ q. bytes_eq q.name.name key) ps)) counted
    ∙ sym (last_pushed (λ q. bytes_eq q.name.name key) ps p)

-- the count goes on
pub counted_more : {B : Type 0} (old new : ℕ) (ps : List B) (p : B) → new ≡ old + 1 → old ≡ length ps → new ≡ length (ps ++ p ∷ [])
counted_more old new ps p now same = now ∙ ap (λ (n : ℕ). n + 1) same ∙ sym (length-append ps (p ∷ []))

-- and the list
pub listed_more : (known next : List (Bor ProcessTree)) (p : Bor ProcessTree) (ps : List ProcessTree) → next ≡ known ++ p ∷ [] → map (λ q. q.now) known ≡ ps → map (λ q. q.now) next ≡ ps ++ p.now ∷ []
listed_more known next p ps now same = ap (map (λ (q : Bor ProcessTree). q.now)) now ∙ map-append (λ (q : Bor ProcessTree). q.now) known (p ∷ []) ∙ ap (λ (xs : List ProcessTree). xs ++ p.now ∷ []) same

-- one more person
pub people_more : (keys next : List (Bor (List ℕ))) (k : Bor (List ℕ)) (people : List PersonTree) (q : PersonTree) → k.now ≡ q.name.name → next ≡ insert_key (λ x y. bytes_eq x.now y.now) keys k
    → ((n : List ℕ) → list_any (λ x. bytes_eq n x.now) keys ≡ list_any (λ m. bytes_eq n m.name) (map (λ x. x.name) people)) → (n : List ℕ) → list_any (λ x. bytes_eq n x.now) next ≡ list_any (λ m. bytes_eq n m.name) (map (λ x. x.name) (people ++ q ∷ []))
people_more keys next k people q named now so_far n =
    known_next keys next k (map (λ (x : PersonTree). x.name) people) q.name named now so_far n
    ∙ ap (list_any (λ (m : NameAt). bytes_eq n m.name)) (sym (map-append (λ (x : PersonTree). x.name) people (q ∷ [])))

-- there is a last place exactly where one passes
some_last : {X : Type 0} (test : X → Bool) (xs : List X) → is_some (last_place test xs) ≡ list_any test xs
some_last test [] = refl
some_last {X} test (x ∷ xs) = go (last_place test xs) (test x) ∙ ap (λ (b : Bool). test x || b) (some_last test xs)
  where
    go : (o : Option ℕ) (b : Bool) → is_some (option_or (option_map (λ place. place + 1) o) (cond b (Some 0) None)) ≡ (b || is_some o)
    go None true = refl
    go None false = refl
    go (Some n) true = refl
    go (Some n) false = refl

last_within : {X : Type 0} (test : X → Bool) (xs : List X) (n : ℕ) → last_place test xs ≡ Some n → n < length xs
last_within test [] n h = cc
last_within {X} test (x ∷ xs) n h = go (last_place test xs) (test x) (last_within test xs) h
  where
    go : (o : Option ℕ) (b : Bool) → ((m : ℕ) → o ≡ Some m → m < length xs) → option_or (option_map (λ place. place + 1) o) (cond b (Some 0) None) ≡ Some n → n < suc (length xs)
    go None true below e = let z : 0 ≡ n = cc in omega arith
    go None false below e = cc
    go (Some m) b below e = let z : m + 1 ≡ n = cc in let less = below m refl in omega arith

-- and then the element is there
some_latest : {X : Type 0} (test : X → Bool) (xs : List X) → is_some (option_and_then (λ place. slice_get xs place) (last_place test xs)) ≡ list_any test xs
some_latest {X} test xs = go (last_place test xs) (last_within test xs) ∙ some_last test xs
  where
    there : (n : ℕ) → n < length xs → is_some (slice_get xs n) ≡ true
    there n less = go_there (slice_get xs n) (slice_get_cases xs n).1
      where
        go_there : (o : Option X) → ((x : X) × (n < length xs) × (o ≡ Some x) × (get_or xs n x ≡ x)) ⊎ ((length xs ≤ n) × (o ≡ None)) → is_some o ≡ true
        go_there o (inl h) = ap is_some h.2
        go_there o (inr h) = absurd (omega (arith, h.0))

    go : (o : Option ℕ) → ((n : ℕ) → o ≡ Some n → n < length xs) → is_some (option_and_then (λ place. slice_get xs place) o) ≡ is_some o
    go None below = refl
    go (Some n) below = there n (below n refl)

pub copied_some : {X : Type 0} (o : Option (Bor X)) → is_some o ≡ is_some (option_copied o)
copied_some None = refl
copied_some (Some x) = refl

-- who is known, is a person of the text or of the library
pub person_known : (known : Known) (people : List PersonTree) → ArePeople known people → (name : List ℕ) → (list_any (λ k. bytes_eq name k.now) known.people.keys || is_some (latest_person known.catalog.now.library name)) ≡ is_person known.catalog.now.library people name
person_known known people are name =
    ap (λ (b : Bool). b || is_some (latest_person known.catalog.now.library name)) (are name)
    ∙ ap (λ (b : Bool). list_any (λ n. bytes_eq name n.name) (map (λ q. q.name) people) || b) (some_latest (λ q. bytes_eq q.name name) known.catalog.now.library.people)

pub person_first : (known : Known) (people : List PersonTree) → ArePeople known people → (name : List ℕ) → list_any (λ k. bytes_eq name k.now) known.people.keys ≡ true → true ≡ is_person known.catalog.now.library people name
person_first known people are name met =
    sym (or_left (list_any (λ k. bytes_eq name k.now) known.people.keys) (is_some (latest_person known.catalog.now.library name)) met) ∙ person_known known people are name

pub person_second : (known : Known) (people : List PersonTree) → ArePeople known people → (name : List ℕ) → list_any (λ k. bytes_eq name k.now) known.people.keys ≡ false → is_some (latest_person known.catalog.now.library name) ≡ is_person known.catalog.now.library people name
person_second known people are name met = ap (λ (b : Bool). b || is_some (latest_person known.catalog.now.library name)) (sym met) ∙ person_known known people are name

-- what a name stands for by what is known, it stands for by the text and the library
pub callee_known : (known : Known) (ps : List ProcessTree) → IsKnowing known ps → (number : ℕ) (name : List ℕ) → callee_meant known number name ≡ callee_named known.catalog.now.library ps number name
callee_known known ps h number name =
    ap (λ (o : Option ℕ). text_or (before_this number o) (stored_named known.catalog.now.library name)) (h.numbered name)

-- so do all names
pub calls_known : (known : Known) (ps : List ProcessTree) → IsKnowing known ps → callee_meant known ≡ callee_named known.catalog.now.library ps
calls_known known ps h = λ j number name. callee_known known ps h number name j

-- and where it leads
pub place_known : (known : Known) (ps : List ProcessTree) → IsKnowing known ps → (number : ℕ) (name : List ℕ) → place_meant known number name ≡ place_named known.catalog.now.library ps number name
place_known known ps h number name = ap (λ (o : Option Callee). option_map (place_among known.catalog.now.library) o) (callee_known known ps h number name)
