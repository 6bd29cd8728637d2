-- Bytes are cut at the last mark, and in no other way: a name has no `/`, and digits have no blank.
use Rattle.std.proofs.Common.{◌≡◌, ◌≢◌, ℕ, ◌+◌, ◌%◌, ◌<◌, ◌≤◌, ◌^◌, Bool, true, false, List, [], ◌∷◌, ◌++◌, length, get_or, take, drop, decimal, Option, Some, None, refl, sym, ap, ap₂, ◌∙◌, subst, arith, length-drop, take-append-drop, true≢false}
use Rattle.std.specs.Prelude.{◌&&◌, nat_le}
use Rattle.std.specs.Char.{is_ascii_alphabetic}
use Rattle.std.specs.List.{All, list_all}
use Rattle.std.proofs.lemmas.Bool.{and_parts}
use Rattle.std.proofs.lemmas.Fmt.{decimal_by_steps}
use Rattle.std.proofs.lemmas.List.{drop_more, get_or-drop}
use Rattle.std.proofs.lemmas.List.Elements.{All-nil, All-cons, All-head, All-tail, All-push, All-from_get_or}
use Rattle.flow_model.specs.Paths.{spelling, SpellsNoOther}
use Rattle.flow_model.specs.Words.{is_name, is_name_byte}
use Rattle.flow_model.specs.declared.instances.Path.{Path}
use Rattle.certificates.specs.Lines.{activity_in_quotes}
use Rattle.certificates.specs.Naming.{IsCutAt, Lacks, NamesNoOther, NamesNoActivity}
use Rattle.certificates.specs.declared.lines.CertLine.TheVariants.{Finished}

-- ---- bytes without a mark

-- a byte that passes a test which the mark fails
apart : (mark : ℕ) (t : ℕ → Bool) (b : ℕ) → t mark ≡ false → t b ≡ true → b ≡ mark → ⊥
apart mark t b fails passes same = true≢false (sym passes ∙ ap t same ∙ fails)

all_apart : (mark : ℕ) (t : ℕ → Bool) (bs : List ℕ) → t mark ≡ false → list_all t bs ≡ true → Lacks mark bs
all_apart mark t [] fails pass = All-nil (λ (x : ℕ). x ≡ mark → ⊥)
all_apart mark t (b ∷ bs) fails pass =
    let both = and_parts (t b) (list_all t bs) pass in
    All-cons (λ (x : ℕ). x ≡ mark → ⊥) b bs (apart mark t b fails both.0) (all_apart mark t bs fails both.1)

-- no name has a `/`
pub name_lacks : (name : List ℕ) → is_name name ≡ true → Lacks 47 name
name_lacks [] named = All-nil (λ (x : ℕ). x ≡ 47 → ⊥)
name_lacks (b ∷ bs) named =
    let whole = and_parts (is_ascii_alphabetic b && nat_le (length bs) 31) (list_all is_name_byte bs) named in
    let front = and_parts (is_ascii_alphabetic b) (nat_le (length bs) 31) whole.0 in
    All-cons (λ (x : ℕ). x ≡ 47 → ⊥) b bs (apart 47 is_ascii_alphabetic b refl front.0) (all_apart 47 is_name_byte bs refl whole.1)

-- no digits have a blank
pub digits_lack : (n : ℕ) → n < 2 ^ 64 → Lacks 32 (decimal n)
digits_lack n small =
    decimal_by_steps (λ m ds. Lacks 32 ds) (λ m l. All-cons (λ (x : ℕ). x ≡ 32 → ⊥) (48 + m) [] (λ same. omega arith) (All-nil (λ (x : ℕ). x ≡ 32 → ⊥)))
    (λ m ds l none. All-push (λ (x : ℕ). x ≡ 32 → ⊥) ds (48 + m % 10) none (λ same. omega arith)) n small

-- bytes with a mark don't lack it
mark_in : (mark : ℕ) (front back : List ℕ) → Lacks mark (front ++ mark ∷ back) → ⊥
mark_in mark [] back none = All-head (λ (x : ℕ). x ≡ mark → ⊥) mark back none refl
mark_in mark (b ∷ front) back none = mark_in mark front back (All-tail (λ (x : ℕ). x ≡ mark → ⊥) b (front ++ mark ∷ back) none)

-- ---- the cut

-- there is one cut at a mark with none behind it
one_cut : (mark : ℕ) (a b x y : List ℕ) → Lacks mark b → Lacks mark y → a ++ mark ∷ b ≡ x ++ mark ∷ y → (a ≡ x) × (b ≡ y)
one_cut mark [] b [] y lacks_b lacks_y same =
    let tails : b ≡ y = cc same in
    (refl, tails)
one_cut mark [] b (d ∷ x) y lacks_b lacks_y same =
    let tails : b ≡ x ++ mark ∷ y = cc same in
    absurd (mark_in mark x y (subst (Lacks mark) tails lacks_b))
one_cut mark (c ∷ a) b [] y lacks_b lacks_y same =
    let tails : a ++ mark ∷ b ≡ y = cc same in
    absurd (mark_in mark a b (subst (Lacks mark) (sym tails) lacks_y))
one_cut mark (c ∷ a) b (d ∷ x) y lacks_b lacks_y same =
    let heads : c ≡ d = cc same in
    let tails : a ++ mark ∷ b ≡ x ++ mark ∷ y = cc same in
    let rest = one_cut mark a b x y lacks_b lacks_y tails in
    (ap₂ (λ (e : ℕ) (es : List ℕ). e ∷ es) heads rest.0, rest.1)

-- the bytes before the last mark, it, and those behind it
cut_whole : (mark : ℕ) (bytes : List ℕ) (place : ℕ) → place < length bytes → get_or bytes place 0 ≡ mark → take place bytes ++ mark ∷ drop (place + 1) bytes ≡ bytes
cut_whole mark bytes place inside here =
    sym (sym (take-append-drop place bytes) ∙ ap (λ l. take place bytes ++ l) (drop_more bytes place 0 inside ∙ ap (λ b. b ∷ drop (place + 1) bytes) here))

-- all bytes behind a place lack the mark where each that is read isn't it
behind_lacks : (mark : ℕ) (bytes : List ℕ) (place : ℕ) → ((k : ℕ) → place ≤ k → k < length bytes → get_or bytes k 0 ≢ mark) → Lacks mark (drop place bytes)
behind_lacks mark bytes place reads =
    All-from_get_or (λ (x : ℕ). x ≡ mark → ⊥) (drop place bytes) 0 (λ k inside. subst (λ (x : ℕ). x ≡ mark → ⊥) (sym (get_or-drop place bytes k 0)) (reads (place + k) (omega arith) (omega (arith, length-drop place bytes))))

-- bytes with a mark and none behind it are cut there
pub cut_found : (mark : ℕ) (bytes behind : List ℕ) (place : ℕ) → behind ≡ drop (place + 1) bytes → place < length bytes → get_or bytes place 0 ≡ mark → ((k : ℕ) → place + 1 ≤ k → k < length bytes → get_or bytes k 0 ≢ mark)
    → IsCutAt mark bytes (Some (take place bytes, behind))
cut_found mark bytes behind place rest inside here last before tail lacks is =
    let cut = one_cut mark (take place bytes) (drop (place + 1) bytes) before tail (behind_lacks mark bytes (place + 1) last) lacks (cut_whole mark bytes place inside here ∙ sym is) in
    ap₂ (λ (x y : List ℕ). let pair : List ℕ × List ℕ = (x, y) in Some pair) cut.0 (rest ∙ cut.1)

-- and bytes without one aren't
pub cut_missed : (mark : ℕ) (bytes : List ℕ) → ((k : ℕ) → k < length bytes → get_or bytes k 0 ≢ mark) → IsCutAt mark bytes None
cut_missed mark bytes none before tail lacks is =
    absurd (mark_in mark before tail (subst (Lacks mark) (sym is) (All-from_get_or (λ (x : ℕ). x ≡ mark → ⊥) bytes 0 none)))

-- ---- a scope and a name

-- both parts of a pair that is there are these
module _ {X Y : Type 0} (x' : X) (y' : Y) where
  abbrev first_or : Option (X × Y) → X
  first_or None = x'
  first_or (Some pair) = pair.0

  abbrev second_or : Option (X × Y) → Y
  second_or None = y'
  second_or (Some pair) = pair.1

  pub both_parts : (x : X) (y : Y) → ◌≡◌ {A = Option (X × Y)} (Some (x, y)) (Some (x', y')) → (x ≡ x') × (y ≡ y')
  both_parts x y same = (ap first_or same, ap second_or same)

-- a word that is cut so names this scope and this name alone
pub names_one : (word before behind : List ℕ) (p : Path) (name : List ℕ) → IsCutAt 47 word (Some (before, behind)) → SpellsNoOther before p → name ≡ behind → NamesNoOther word p name
names_one word before behind p name cut one is q other names =
    let parts = both_parts (spelling q) other before behind (cut (spelling q) other (name_lacks other names.1) names.2) in
    (one q (record { path = names.0; spelled = parts.0 }), sym (is ∙ parts.1))

-- and none where what stands behind the `/` is no name
pub names_none : (word before behind : List ℕ) → IsCutAt 47 word (Some (before, behind)) → is_name behind ≡ false → NamesNoActivity word
names_none word before behind cut fails p name names =
    let parts = both_parts (spelling p) name before behind (cut (spelling p) name (name_lacks name names.1) names.2) in
    true≢false (sym names.1 ∙ ap is_name (sym parts.1) ∙ fails)

-- ---- what stands behind FINISHED

-- an activity and digits are cut at their blank
finished_cut : (rest : List ℕ) (cut : Option (List ℕ × List ℕ)) → IsCutAt 32 rest cut → (p : Path) (name : List ℕ) (n : ℕ) → n < 2 ^ 64 → rest ≡ activity_in_quotes p name ++ 32 ∷ decimal n
    → cut ≡ Some (activity_in_quotes p name, decimal n)
finished_cut rest cut is p name n small e = is (activity_in_quotes p name) (decimal n) (digits_lack n small) (sym e)

-- so none is there without a blank
pub finished_uncut : (rest : List ℕ) → IsCutAt 32 rest None → (p : Path) (name : List ℕ) (n : ℕ) → n < 2 ^ 64 → rest ≡ activity_in_quotes p name ++ 32 ∷ decimal n → ⊥
finished_uncut rest is p name n small e = cc (finished_cut rest None is p name n small e)

-- what is cut off
pub finished_parts : (rest quoted digits : List ℕ) → IsCutAt 32 rest (Some (quoted, digits)) → (p : Path) (name : List ℕ) (n : ℕ) → n < 2 ^ 64 → rest ≡ activity_in_quotes p name ++ 32 ∷ decimal n
    → (quoted ≡ activity_in_quotes p name) × (digits ≡ decimal n)
finished_parts rest quoted digits is p name n small e =
    both_parts (activity_in_quotes p name) (decimal n) quoted digits (finished_cut rest (Some (quoted, digits)) is p name n small e)

-- where they are read so, they are no other line
pub finished_one : (scope p : Path) (title name : List ℕ) (attempt n : ℕ) → Some attempt ≡ Some n → ◌≡◌ {A = Option (Path × List ℕ)} (Some (scope, title)) (Some (p, name))
    → Some (Finished scope title attempt) ≡ Some (Finished p name n)
finished_one scope p title name attempt n count same =
    let names = both_parts p name scope title same in
    cc (count, names.0, names.1)
