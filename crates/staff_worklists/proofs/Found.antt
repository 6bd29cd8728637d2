-- What has been found at each rank, while the items of a shelf are added by rising rank.
use Rattle.std.proofs.Common.{◌≡◌, ℕ, List, [], ◌∷◌, Bool, true, false, cond, Option, Some, None, refl, sym, ap, ◌∙◌, ⊎_elim, map}
use Rattle.std.specs.Option.{option_or, option_map}
use Rattle.std.specs.List.{AllByRecursion}
use Rattle.std.specs.List.Sorted.{IsStrictlySortedBy}
use Rattle.std.specs.Ordering.{is_eq, nat_cmp}
use Rattle.std.specs.declared.cmp.Ordering.TheVariants.{Less}
use Rattle.std.specs.Cmp.Lexicographic.{slice_cmp, bytes_decides, nat_list_eq_equiv}
use Rattle.std.specs.Str.{bytes_eq}
use Rattle.std.specs.Map.{lookup, keys_of}
use Rattle.std.specs.Global.{Vec}
use Rattle.std.proofs.lemmas.Bool.{cases_Bool, cond-true, cond-false}
use Rattle.std.proofs.lemmas.Map.Keys.{sorted_head, sorted_tail}
use Rattle.std.proofs.lemmas.Map.Text.{is_eq-slice_cmp}
use Rattle.std.proofs.Common.{Result, Ok, Err, IfOk}
use Rattle.std.specs.Borrow.{Bor}
use Rattle.std.specs.BTreeMap as tree
use Rattle.std.specs.BTreeMap.{BTreeMap}
use Rattle.std.specs.HashMap.{HashMap}
use Rattle.flow_model.specs.declared.graphs.PersonDef.{PersonDef}
use Rattle.flow_model.specs.declared.instances.WorkLine.{WorkLine}
use Rattle.staff_worklists.specs.declared.worklists.Listed.{Listed}
use Rattle.staff_worklists.specs.declared.worklists.Shelf.{Shelf}
use Rattle.staff_worklists.specs.Shelves.{shelves_of}
use Rattle.staff_worklists.specs.Listing.{found_at, line_of, seen_on, IsWorklist}
use Rattle.staff_worklists.proofs.Lookups.{tree_updates}

abbrev pub at : List ℕ → List (Vec ℕ × Listed) → Option Listed
at rank entries = lookup (λ k. is_eq (slice_cmp nat_cmp rank k.items)) entries

abbrev pub IsRising : List (Vec ℕ × Listed) → Type 0
IsRising entries = IsStrictlySortedBy (λ x y. slice_cmp nat_cmp x.items y.items) (keys_of entries)

-- what stands at the rank of a key above it is nothing
none_above : (k : Vec ℕ) (entries : List (Vec ℕ × Listed)) → AllByRecursion (λ y. slice_cmp nat_cmp k.items y.items ≡ Less) (keys_of entries) → at k.items entries ≡ None
none_above k [] all = refl
none_above k (e ∷ entries) all = rw (all.0) (none_above k entries all.1)

-- one more item
pub one_found : (k : Vec ℕ) (v : Listed) (entries : List (Vec ℕ × Listed)) (rank : List ℕ) (old new : Option Listed)
    → IsRising ((k, v) ∷ entries) → new ≡ cond (bytes_eq k.items rank) (Some v) old → option_or (at rank entries) new ≡ option_or (at rank ((k, v) ∷ entries)) old
one_found k v entries rank old new rising next =
    ⊎_elim
    (λ y. here y ((bytes_decides k.items rank).0 y))
    (λ n. ap (λ o. option_or (at rank entries) o) (next ∙ cond-false (bytes_eq k.items rank) (Some v) old n) ∙ ap (λ o. option_or o old) (sym (cond-false (is_eq (slice_cmp nat_cmp rank k.items)) (Some v) (at rank entries) (is_eq-slice_cmp rank k.items ∙ nat_list_eq_equiv.symm rank k.items ∙ n))))
    (cases_Bool (bytes_eq k.items rank))
  where
    none : k.items ≡ rank → at rank entries ≡ None
    none e = ap (λ r. at r entries) (sym e) ∙ none_above k entries (sorted_head (λ x y. slice_cmp nat_cmp x.items y.items) k (keys_of entries) rising)

    here : bytes_eq k.items rank ≡ true → k.items ≡ rank → option_or (at rank entries) new ≡ option_or (at rank ((k, v) ∷ entries)) old
    here y e =
        ap (λ o. option_or o new) (none e) ∙ next ∙ cond-true (bytes_eq k.items rank) (Some v) old y
        ∙ ap (λ o. option_or o old) (sym (cond-true (is_eq (slice_cmp nat_cmp rank k.items)) (Some v) (at rank entries) (is_eq-slice_cmp rank k.items ∙ nat_list_eq_equiv.symm rank k.items ∙ y)))

pub rising_tail : (k : Vec ℕ) (v : Listed) (entries : List (Vec ℕ × Listed)) → IsRising ((k, v) ∷ entries) → IsRising entries
rising_tail k v entries rising = sorted_tail (λ x y. slice_cmp nat_cmp x.items y.items) k (keys_of entries) rising

-- ---- what is found, read as lists

pushed : (b : Bool) (listed : Bor Listed) (o : Option (Bor Listed)) → option_map (λ l. l.now) (cond b (Some listed) o) ≡ cond b (Some listed.now) (option_map (λ l. l.now) o)
pushed true listed o = refl
pushed false listed o = refl

-- one more is found
pub found_next : (old new : BTreeMap (Bor (List ℕ)) (Bor Listed)) (bs : List ℕ) (listed : Bor Listed)
    → tree.UpdatesBy (λ x y. slice_cmp nat_cmp x.now y.now) (λ k. slice_cmp nat_cmp bs k.now) old new (Some listed)
    → (rank : List ℕ) → found_at new rank ≡ cond (bytes_eq bs rank) (Some listed.now) (found_at old rank)
found_next old new bs listed h rank =
    ap (option_map (λ l. l.now)) (tree_updates (λ k. k.now) bs old new (Some listed) h rank) ∙ pushed (bytes_eq bs rank) listed (tree.get_by (λ k. slice_cmp nat_cmp rank k.now) old)

-- nothing is found in an empty map
pub nothing_found : (found : BTreeMap (Bor (List ℕ)) (Bor Listed)) → found.entries ≡ [] → (rank : List ℕ) → found_at found rank ≡ None
nothing_found found empty rank = ap (λ es. option_map (λ l. l.now) (lookup (λ k. is_eq (slice_cmp nat_cmp rank k.now)) es)) empty

abbrev read : List (Bor (List ℕ) × Bor Listed) → List (List ℕ × Listed)
read [] = []
read (e ∷ es) = (e.0.now, e.1.now) ∷ read es

read_above : (k : List ℕ) (es : List (Bor (List ℕ) × Bor Listed)) → AllByRecursion (λ y. slice_cmp nat_cmp k y.now ≡ Less) (keys_of es) → AllByRecursion (λ y. slice_cmp nat_cmp k y ≡ Less) (keys_of (read es))
read_above k [] all = tt
read_above k (e ∷ es) all = (all.0, read_above k es all.1)

read_rising : (es : List (Bor (List ℕ) × Bor Listed)) → IsStrictlySortedBy (λ x y. slice_cmp nat_cmp x.now y.now) (keys_of es) → IsStrictlySortedBy (slice_cmp nat_cmp) (keys_of (read es))
unfolding IsStrictlySortedBy
read_rising [] rising = tt
read_rising (e ∷ es) rising = (read_above e.0.now es rising.0, read_rising es rising.1)

read_lookup : (rank : List ℕ) (es : List (Bor (List ℕ) × Bor Listed)) → lookup (bytes_eq rank) (read es) ≡ option_map (λ l. l.now) (lookup (λ k. is_eq (slice_cmp nat_cmp rank k.now)) es)
read_lookup rank [] = refl
read_lookup rank (e ∷ es) =
    ap (λ o. cond (bytes_eq rank e.0.now) (Some e.1.now) o) (read_lookup rank es)
    ∙ ap (λ b. cond b (Some e.1.now) (option_map (λ l. l.now) (lookup (λ k. is_eq (slice_cmp nat_cmp rank k.now)) es))) (sym (is_eq-slice_cmp rank e.0.now))
    ∙ sym (pushed (is_eq (slice_cmp nat_cmp rank e.0.now)) e.1 (lookup (λ k. is_eq (slice_cmp nat_cmp rank k.now)) es))

read_lines : (es : List (Bor (List ℕ) × Bor Listed)) → map (λ e. line_of e.1.now) es ≡ map (λ e. line_of e.1) (read es)
read_lines [] = refl
read_lines (e ∷ es) = ap (λ (l : List WorkLine). line_of e.1.now ∷ l) (read_lines es)

-- the lines of what was found are the worklist
pub listing : {S E : Type 0} (shelves : HashMap Shelf (BTreeMap (Vec ℕ) Listed) S) (person : PersonDef) (found : BTreeMap (Bor (List ℕ)) (Bor Listed)) (result : Result (List WorkLine) E)
    → ((rank : List ℕ) → found_at found rank ≡ seen_on shelves (shelves_of person) None rank)
    → IfOk result (λ lines. (lines ≡ map (λ e. line_of e.1.now) found.entries) × tree.IsOrdered (λ k l. slice_cmp nat_cmp k.now l.now) found)
    → IfOk result (IsWorklist shelves person)
listing shelves person found (Ok lines) seen made =
    (read found.entries, read_rising found.entries made.1, λ rank. read_lookup rank found.entries ∙ seen rank, made.0 ∙ read_lines found.entries)
listing shelves person found (Err e) seen made = made
