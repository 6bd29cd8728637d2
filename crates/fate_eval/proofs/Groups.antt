-- What each attempt has in a map by attempts, after one more completion.
use Rattle.std.proofs.Common.{◌≡◌, ℕ, ◌+◌, ◌<◌, ◌==◌, ◌&&◌, List, [], ◌∷◌, ◌++◌, length, take, drop, drop-cons, add-one, get_or, ◌≤◌, arith, Bool, true, false, cond, Option, Some, None, refl, sym, ap, subst, ◌∙◌, ⊎_elim}
use Rattle.std.specs.List.{All}
use Rattle.std.proofs.lemmas.List.{take-append-drop, length-take-le}
use Rattle.std.proofs.lemmas.List.Elements.{All-cons, All-head, All-tail}
use Rattle.std.proofs.Math.Seq.{take-append-add}
use Rattle.fate_laws.proofs.Items.{part_itself}
use Rattle.std.specs.Option.{option_map_or, option_or}
use Rattle.std.specs.Cmp.Lexicographic.{bytes_decides}
use Rattle.std.specs.Str.{bytes_eq}
use Rattle.std.specs.Global.{Vec}
use Rattle.std.specs.HashMap.{HashMap, UpdatesBy, get_by}
use Rattle.std.specs.Map.{lookup, IsKeyTest, AreApart, KeepsOthers}
use Rattle.std.proofs.lemmas.Bool.{false≢true}
use Rattle.std.proofs.lemmas.Bool.Decides.{eqb_tells}
use Rattle.flow_model.specs.Rows.{same_part}
use Rattle.flow_model.specs.declared.instances.Part.{Part}
use Rattle.fate_eval.specs.Entries.{dated, dated_in, parts_behind}
use Rattle.fate_eval.specs.Grouped.{Tried, at_part, AreGathered, LeadsBelow}
use Rattle.fate_eval.specs.declared.accepted.Entry.{Entry}
use Rattle.fate_eval.proofs.Behind.{one_below, output_append, output_more, same_none}

-- whether a key is of this name and number
abbrev test : List ℕ → ℕ → Tried → Bool
test bs j k = bytes_eq bs k.0.now && (j == k.1)

abbrev same : Tried → Tried → Bool
same x y = bytes_eq x.0.now y.0.now && (x.1 == y.1)

both : (bs cs : List ℕ) (i j : ℕ) → (bytes_eq bs cs && (i == j)) ≡ true → (bs ≡ cs) × (i ≡ j)
both bs cs i j h = go (bytes_eq bs cs) (i == j) refl refl h
  where
    number : (i == j) ≡ true → i ≡ j
    number is = ⊎_elim (λ u. u.1) (λ u. absurd (false≢true (sym u.0 ∙ is))) (eqb_tells i j)

    go : (a b : Bool) → bytes_eq bs cs ≡ a → (i == j) ≡ b → (a && b) ≡ true → (bs ≡ cs) × (i ≡ j)
    go true true x y h = ((bytes_decides bs cs).0 x, number y)
    go true false x y h = absurd (false≢true h)
    go false b x y h = absurd (false≢true h)

same_number : (n : ℕ) → (n == n) ≡ true
same_number n = ⊎_elim (λ u. u.0) (λ u. absurd (u.1 refl)) (eqb_tells n n)

itself : (cs : List ℕ) (i : ℕ) → (bytes_eq cs cs && (i == i)) ≡ true
itself cs i = rw ((bytes_decides cs cs).1 refl, same_number i) refl

others : {K X : Type 0} (eq : K → K → Bool) (t : K → Bool) (old new : List (K × X)) → KeepsOthers eq t old new → (other : K → Bool) → IsKeyTest eq other → AreApart t other → lookup other new ≡ lookup other old
unfolding KeepsOthers
others eq t old new h = h

is_test : (cs : List ℕ) (i : ℕ) → IsKeyTest same (test cs i)
is_test cs i x y is = let e = both cs x.0.now i x.1 is in ap (λ bs. test bs i y) e.0 ∙ ap (λ n. test x.0.now n y) e.1

apart : (bs cs : List ℕ) (j i : ℕ) → (bytes_eq bs cs && (j == i)) ≡ false → AreApart (test bs j) (test cs i)
apart bs cs j i differ k is = go (test cs i k) refl
  where
    go : (b : Bool) → test cs i k ≡ b → test cs i k ≡ false
    go false h = h
    go true h =
        let e = both bs k.0.now j k.1 is in
        let f = both cs k.0.now i k.1 h in
        let g : (bytes_eq bs cs && (j == i)) ≡ true = ap (λ ds. bytes_eq ds cs && (j == i)) (e.0 ∙ sym f.0) ∙ ap (λ n. bytes_eq cs cs && (n == i)) (e.1 ∙ sym f.1) ∙ itself cs i in
        absurd (false≢true (sym differ ∙ g))

-- completions of one attempt tell nothing of another
none_led : (q r : Part) → same_part q r ≡ false → (es : List Entry) → All (LeadsBelow q) es → (p : List Part) → dated_in es (r ∷ p) ≡ None
none_led q r apart_from [] all p = refl
none_led q r apart_from (e ∷ es) all p =
    let here = All-head (LeadsBelow q) e es all in
    rw (here.1, apart_from) (none_led q r apart_from es (All-tail (LeadsBelow q) e es all) p)

or_none : {X : Type 0} (o : Option X) → o ≡ option_or o None
or_none None = refl
or_none (Some x) = refl

module _ {S : Type 0} (old new : HashMap Tried (Vec Entry) S) (bs : List ℕ) (j : ℕ) where
  written : (w : Option (Vec Entry)) → UpdatesBy same (test bs j) old new w → (cs : List ℕ) (i : ℕ)
      → get_by (test cs i) new ≡ cond (bytes_eq bs cs && (j == i)) w (get_by (test cs i) old)
  written w h cs i = go (bytes_eq bs cs && (j == i)) refl
    where
      go : (b : Bool) → (bytes_eq bs cs && (j == i)) ≡ b → get_by (test cs i) new ≡ cond b w (get_by (test cs i) old)
      go true y = let e = both bs cs j i y in ap (λ ds. get_by (test ds i) new) (sym e.0) ∙ ap (λ n. get_by (test bs n) new) (sym e.1) ∙ h.1
      go false n = others _ _ _ _ h.3 _ (is_test cs i) (apart bs cs j i n)

  -- completions are added to those of an attempt
  pub run_added : (after : Vec Entry) (part : Part) (es : List Entry) → bs ≡ part.name → j ≡ part.attempt → All (LeadsBelow part) es
      → ((p : List Part) → dated_in after.items p ≡ option_or (dated_in (option_map_or (λ group. group.items) (get_by (test bs j) old) []) p) (dated_in es (part ∷ p)))
      → UpdatesBy same (test bs j) old new (Some after) → AreGathered old es new
  run_added after part es name number all now h q p =
      ap (λ o. dated_in (option_map_or (λ (group : Vec Entry). group.items) o []) p) (written (Some after) h q.name q.attempt)
      ∙ go (bytes_eq bs q.name && (j == q.attempt)) refl
    where
      go : (b : Bool) → (bytes_eq bs q.name && (j == q.attempt)) ≡ b
          → dated_in (option_map_or (λ (group : Vec Entry). group.items) (cond b (Some after) (get_by (test q.name q.attempt) old)) []) p ≡ option_or (dated_in (at_part old q) p) (dated_in es (q ∷ p))
      go false n =
          let apart_from : same_part part q ≡ false = ap (λ ds. bytes_eq ds q.name && (part.attempt == q.attempt)) (sym name) ∙ ap (λ i. bytes_eq bs q.name && (i == q.attempt)) (sym number) ∙ n in
          or_none (dated_in (at_part old q) p) ∙ ap (option_or (dated_in (at_part old q) p)) (sym (none_led part q apart_from es all p))
      go true y =
          let is = both bs q.name j q.attempt y in
          let one : part ≡ q = λ i. record { name = (sym name ∙ is.0) i; attempt = (sym number ∙ is.1) i } in
          now p
          ∙ ap (λ ds. option_or (dated_in (option_map_or (λ (group : Vec Entry). group.items) (get_by (test ds j) old) []) p) (dated_in es (part ∷ p))) is.0
          ∙ ap (λ n. option_or (dated_in (option_map_or (λ (group : Vec Entry). group.items) (get_by (test q.name n) old) []) p) (dated_in es (part ∷ p))) is.1
          ∙ ap (λ (r : Part). option_or (dated_in (at_part old q) p) (dated_in es (r ∷ p))) one

-- elements that there are: the first and the rest
pub whole : {X : Type 0} (xs : List X) (first : X) → 1 ≤ length xs → first ≡ get_or xs 0 first → xs ≡ first ∷ drop 1 xs
whole [] first some is = absurd (omega (arith, some))
whole (x ∷ xs) first some is = ap (λ y. y ∷ xs) (sym is)

-- what one completion has below its first step
pub one_led : (before : List Entry) (e inner : Entry) (q : Part) → LeadsBelow q e → inner.parts.now ≡ drop 1 e.parts.now → dated inner ≡ dated e
    → (p : List Part) → dated_in (before ++ inner ∷ []) p ≡ option_or (dated_in before p) (dated_in (e ∷ []) (q ∷ p))
one_led before e inner q led is date p =
    let behind : parts_behind q e.parts.now ≡ Some led.0 = rw (led.1, part_itself q) refl in
    one_below before e inner q p (ap Some (is ∙ ap (drop 1) led.1) ∙ sym behind) date

or_or : {X : Type 0} (a b c : Option X) → option_or (option_or a b) c ≡ option_or a (option_or b c)
or_or None b c = refl
or_or (Some x) b c = refl

-- one more of the completions of an attempt
pub run_more : (old before after es : List Entry) (i : ℕ) (e : Entry) (q : Part) (p : List Part) → i < length es → e ≡ get_or es i e
    → dated_in before p ≡ option_or (dated_in old p) (dated_in (take i es) (q ∷ p))
    → dated_in after p ≡ option_or (dated_in before p) (dated_in (e ∷ []) (q ∷ p))
    → dated_in after p ≡ option_or (dated_in old p) (dated_in (take (i + 1) es) (q ∷ p))
run_more old before after es i e q p less is so_far more =
    more ∙ ap (λ o. option_or o (dated_in (e ∷ []) (q ∷ p))) so_far ∙ or_or (dated_in old p) (dated_in (take i es) (q ∷ p)) (dated_in (e ∷ []) (q ∷ p))
    ∙ ap (option_or (dated_in old p)) (output_more es i e (q ∷ p) less is)

pub led_at : (es : List Entry) (i : ℕ) (e : Entry) (q : Part) → All (LeadsBelow q) es → i < length es → e ≡ get_or es i e → LeadsBelow q e
led_at es i e q all less is = subst (LeadsBelow q) (sym is) (all i e less)

-- the first completion leads to an attempt, and so do these behind it
pub all_led : (es : List Entry) (e : Entry) (q : Part) (n : ℕ) → es ≡ e ∷ drop 1 es → LeadsBelow q e → All (LeadsBelow q) (take n (drop 1 es)) → All (LeadsBelow q) (take (n + 1) es)
all_led es e q n is led all =
    let front : take (n + 1) es ≡ e ∷ take n (drop 1 es) = ap (take (n + 1)) is ∙ ap (λ m. take m (e ∷ drop 1 es)) (add-one n) in
    subst (All (LeadsBelow q)) (sym front) (All-cons (LeadsBelow q) e (take n (drop 1 es)) led all)

-- a completion that leads nowhere below changes nothing
pub none_first : {S : Type 0} (groups : HashMap Tried (Vec Entry) S) (es : List Entry) (e : Entry) → es ≡ e ∷ drop 1 es → e.parts.now ≡ [] → AreGathered groups (take 1 es) groups
none_first groups es e is none q p =
    let nowhere : dated_in (take 1 es) (q ∷ p) ≡ None = ap (λ fs. dated_in (take 1 fs) (q ∷ p)) is ∙ rw none refl in
    or_none (dated_in (at_part groups q) p) ∙ ap (option_or (dated_in (at_part groups q) p)) (sym nowhere)

-- some more completions of a scope
pub grouped_more : {S : Type 0} (before after : HashMap Tried (Vec Entry) S) (es : List Entry) (d n : ℕ) → d ≤ length es
    → ((q : Part) (p : List Part) → dated_in (at_part before q) p ≡ dated_in (take d es) (q ∷ p)) → AreGathered before (take n (drop d es)) after
    → (q : Part) (p : List Part) → dated_in (at_part after q) p ≡ dated_in (take (d + n) es) (q ∷ p)
grouped_more before after es d n within so_far more q p =
    let long : length (take d es) ≡ d = length-take-le d es within in
    let both : take (d + n) es ≡ take d es ++ take n (drop d es) = ap (take (d + n)) (sym (take-append-drop d es)) ∙ ap (λ m. take (m + n) (take d es ++ drop d es)) (sym long) ∙ take-append-add (take d es) (drop d es) n in
    more q p ∙ ap (λ o. option_or o (dated_in (take n (drop d es)) (q ∷ p))) (so_far q p) ∙ sym (output_append (take d es) (take n (drop d es)) (q ∷ p)) ∙ ap (λ fs. dated_in fs (q ∷ p)) (sym both)

-- the first completion of an attempt itself is not one that has more below
pub later_itself : (es : List Entry) (i : ℕ) (e : Entry) → i < length es → e ≡ get_or es i e → (length e.parts.now == 0) ≡ false → dated_in (drop (i + 1) es) [] ≡ dated_in (drop i es) []
later_itself es i e less is more = rw (drop-cons es i e less, sym is, add-one i, same_none e.parts.now, more) refl

-- a completion whose first step is this attempt
pub led_by : (e : Entry) (first q : Part) → e.parts.now ≡ first ∷ drop 1 e.parts.now → first.name ≡ q.name → first.attempt ≡ q.attempt → LeadsBelow q e
led_by e first q is name number =
    let one : first ≡ q = λ i. record { name = name i; attempt = number i } in (drop 1 e.parts.now, is ∙ ap (λ (r : Part). r ∷ drop 1 e.parts.now) one)
