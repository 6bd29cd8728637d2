-- The people of a map are those whom a library declares, each by the latest declaration of the name.
use Rattle.std.proofs.Common.{◌≡◌, ℕ, ◌+◌, List, [], ◌∷◌, Bool, true, false, cond, Option, Some, None, refl, sym, ap, subst, ◌∙◌, ◌<◌, ◌≤◌, length, drop, get_or}
use Rattle.std.specs.Option.{option_or, option_map}
use Rattle.std.specs.Str.{bytes_eq}
use Rattle.std.specs.List.{AllByRecursion}
use Rattle.std.specs.List.Sorted.{IsStrictlySortedBy}
use Rattle.std.specs.Ordering.{is_eq, nat_cmp}
use Rattle.std.specs.declared.cmp.Ordering.TheVariants.{Less}
use Rattle.std.specs.Cmp.Lexicographic.{slice_cmp}
use Rattle.std.specs.Map.{lookup, keys_of}
use Rattle.std.specs.Borrow.{Bor}
use Rattle.std.specs.BTreeMap as tree
use Rattle.std.specs.BTreeMap.{BTreeMap}
use Rattle.std.proofs.lemmas.List.{drop_more, drop_all}
use Rattle.std.proofs.lemmas.Map.Text.{is_eq-slice_cmp}
use Rattle.flow_model.specs.declared.graphs.Library.{Library}
use Rattle.flow_model.specs.declared.graphs.PersonDef.{PersonDef}
use Rattle.staff_worklists.proofs.Lookups.{tree_updates}
use Rattle.deadlines.specs.Lateness.{latest, AreDeclared}
use Rattle.deadlines.specs.Rolls.{entries_read, roll}

-- ---- one more declaration

-- who is declared by a name so far
abbrev pub named : BTreeMap (Bor (List ℕ)) (Bor PersonDef) → List ℕ → Option PersonDef
named people name = option_map (λ p. p.now) (tree.get_by (λ k. slice_cmp nat_cmp name k.now) people)

read_cond : (b : Bool) (p : Bor PersonDef) (o : Option (Bor PersonDef)) → option_map (λ q. q.now) (cond b (Some p) o) ≡ cond b (Some p.now) (option_map (λ q. q.now) o)
read_cond true p o = refl
read_cond false p o = refl

declares : (old new : BTreeMap (Bor (List ℕ)) (Bor PersonDef)) (bs : List ℕ) (person : Bor PersonDef)
    → tree.UpdatesBy (λ x y. slice_cmp nat_cmp x.now y.now) (λ k. slice_cmp nat_cmp bs k.now) old new (Some person)
    → (name : List ℕ) → named new name ≡ cond (bytes_eq bs name) (Some person.now) (named old name)
declares old new bs person h name =
    ap (option_map (λ q. q.now)) (tree_updates (λ k. k.now) bs old new (Some person) h name) ∙ read_cond (bytes_eq bs name) person (tree.get_by (λ k. slice_cmp nat_cmp name k.now) old)

next_of : (xs : List PersonDef) (i : ℕ) (x : PersonDef) → i < length xs → x ≡ get_or xs i x → drop i xs ≡ x ∷ drop (i + 1) xs
next_of xs i x within is = drop_more xs i x within ∙ ap (λ y. y ∷ drop (i + 1) xs) (sym is)

taken_up : (o : Option PersonDef) (b : Bool) (x : PersonDef) (old new : Option PersonDef) → new ≡ cond b (Some x) old → option_or o new ≡ option_or (option_or o (cond b (Some x) None)) old
taken_up None true x old new is = is
taken_up None false x old new is = is
taken_up (Some y) b x old new is = refl

-- those that are left give way to none of those so far
abbrev pub AreLeft : List PersonDef → ℕ → BTreeMap (Bor (List ℕ)) (Bor PersonDef) → Type 0
AreLeft all i people = (name : List ℕ) → option_or (latest (drop i all) name) (named people name) ≡ latest all name

pub next_declared : {person : Bor PersonDef} (items all : List PersonDef) (i : ℕ) (x : PersonDef) (bs : List ℕ) (old new : BTreeMap (Bor (List ℕ)) (Bor PersonDef))
    → items ≡ all → i < length items → x ≡ get_or items i x → person.now ≡ x → bs ≡ x.name
    → tree.UpdatesBy (λ x y. slice_cmp nat_cmp x.now y.now) (λ k. slice_cmp nat_cmp bs k.now) old new (Some person)
    → AreLeft all i old → AreLeft all (i + 1) new
next_declared {person} items all i x bs old new whole within is put called h left = λ name.
    let declared : named new name ≡ cond (bytes_eq x.name name) (Some x) (named old name)
    = declares old new bs person h name ∙ ap (λ l. cond (bytes_eq l name) (Some person.now) (named old name)) called ∙ ap (λ (y : PersonDef). cond (bytes_eq x.name name) (Some y) (named old name)) put in
    taken_up (latest (drop (i + 1) all) name) (bytes_eq x.name name) x (named old name) (named new name) declared
    ∙ ap (λ l. option_or (latest l name) (named old name)) (sym (subst (λ l. drop i l ≡ x ∷ drop (i + 1) l) whole (next_of items i x within is)))
    ∙ left name

-- none is left at the end
pub none_left : (items all : List PersonDef) (i : ℕ) (people : BTreeMap (Bor (List ℕ)) (Bor PersonDef)) → items ≡ all → length items ≤ i → AreLeft all i people → (name : List ℕ) → named people name ≡ latest all name
none_left items all i people whole end left name = ap (λ l. option_or (latest l name) (named people name)) (sym (drop_all i all (subst (λ l. length l ≤ i) whole end))) ∙ left name

-- ---- the map, read as a list

above : (k : List ℕ) (es : List (Bor (List ℕ) × Bor PersonDef)) → AllByRecursion (λ y. slice_cmp nat_cmp k y.now ≡ Less) (keys_of es) → AllByRecursion (λ y. slice_cmp nat_cmp k y ≡ Less) (keys_of (entries_read es))
above k [] all = tt
above k (e ∷ es) all = (all.0, above k es all.1)

rising : (es : List (Bor (List ℕ) × Bor PersonDef)) → IsStrictlySortedBy (λ x y. slice_cmp nat_cmp x.now y.now) (keys_of es) → IsStrictlySortedBy (slice_cmp nat_cmp) (keys_of (entries_read es))
unfolding IsStrictlySortedBy
rising [] is = tt
rising (e ∷ es) is = (above e.0.now es is.0, rising es is.1)

looked_up : (name : List ℕ) (es : List (Bor (List ℕ) × Bor PersonDef)) → lookup (bytes_eq name) (entries_read es) ≡ option_map (λ q. q.now) (lookup (λ k. is_eq (slice_cmp nat_cmp name k.now)) es)
looked_up name [] = refl
looked_up name (e ∷ es) =
    ap (λ o. cond (bytes_eq name e.0.now) (Some e.1.now) o) (looked_up name es)
    ∙ ap (λ b. cond b (Some e.1.now) (option_map (λ q. q.now) (lookup (λ k. is_eq (slice_cmp nat_cmp name k.now)) es))) (sym (is_eq-slice_cmp name e.0.now))
    ∙ sym (read_cond (is_eq (slice_cmp nat_cmp name e.0.now)) e.1 (lookup (λ k. is_eq (slice_cmp nat_cmp name k.now)) es))

abbrev pub IsRising : BTreeMap (Bor (List ℕ)) (Bor PersonDef) → Type 0
IsRising people = tree.IsOrdered (λ k l. slice_cmp nat_cmp k.now l.now) people

-- when all are declared, the map has the latest of each name
pub all_declared : (library : Library) (people : BTreeMap (Bor (List ℕ)) (Bor PersonDef)) → IsRising people → ((name : List ℕ) → named people name ≡ latest library.people name) → AreDeclared library (roll people)
all_declared library people ordered is = (rising people.entries ordered, λ name. looked_up name people.entries ∙ is name)
