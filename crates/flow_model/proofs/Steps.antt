-- How the bytes of a path are cut into its steps.
use Rattle.std.proofs.Common.{◌≡◌, ℕ, suc, ◌+◌, ◌%◌, ◌<◌, ◌^◌, ◌==◌, Bool, true, false, not, cond, List, [], ◌∷◌, ◌++◌, length, take, drop, decimal, refl, sym, ap, ap₂, ◌∙◌, subst, arith, ne_eqb, eq-eqb, one-add, true≢false, append_assoc, append-nil}
use Rattle.std.specs.Prelude.{◌&&◌, nat_le, nat_lt, position, unwrap_or, Option, Some, None, IfSome}
use Rattle.std.specs.Char.{is_ascii_alphabetic}
use Rattle.std.specs.List.{All, list_all, position_or_len}
use Rattle.std.proofs.lemmas.Bool.{and_parts, ltb-false}
use Rattle.std.proofs.lemmas.Fmt.{decimal_by_steps}
use Rattle.std.proofs.lemmas.List.Sums.{prefix_len-le-length}
use Rattle.std.proofs.lemmas.List.Elements.{All-nil, All-cons, All-head, All-tail, All-append, All-push}
use Rattle.std.proofs.Math.ListN.{take-append-drop}
use Rattle.std.proofs.Math.Seq.{take-append_seam, drop-append_seam}
use Rattle.flow_model.specs.Paths.{part_spelling, parts_spelling, IsStep, Spells}
use Rattle.flow_model.specs.Words.{is_name, is_name_byte}
use Rattle.flow_model.specs.declared.instances.Part.{Part}
use Rattle.flow_model.specs.declared.instances.Path.{Path}

-- ---- bytes before a mark

-- none of these bytes is this one
abbrev pub Lacks : ℕ → List ℕ → Type 0
Lacks e bs = All (λ b. b ≡ e → ⊥) bs

-- what stands before the first mark
pub front_of : (e : ℕ) (front rest : List ℕ) → Lacks e front → position_or_len (λ b. b == e) (front ++ e ∷ rest) ≡ length front
front_of e [] rest none = rw (eq-eqb e e refl) refl
front_of e (b ∷ front) rest none =
    let here : (b == e) ≡ false = ne_eqb b e (All-head (λ (x : ℕ). x ≡ e → ⊥) b front none) in
    rw here (one-add _ ∙ ap suc (front_of e front rest (All-tail (λ (x : ℕ). x ≡ e → ⊥) b front none)))

-- all, where there is no mark
pub front_all : (e : ℕ) (front : List ℕ) → Lacks e front → position_or_len (λ b. b == e) front ≡ length front
front_all e [] none = refl
front_all e (b ∷ front) none =
    let here : (b == e) ≡ false = ne_eqb b e (All-head (λ (x : ℕ). x ≡ e → ⊥) b front none) in
    rw here (one-add _ ∙ ap suc (front_all e front (All-tail (λ (x : ℕ). x ≡ e → ⊥) b front none)))

-- a place, or the length
pub place_or_len : (p : ℕ → Bool) (xs : List ℕ) → unwrap_or (position p xs) (length xs) ≡ position_or_len p xs
place_or_len p xs = go (nat_lt (position_or_len p xs) (length xs)) refl
  where
    go : (b : Bool) → nat_lt (position_or_len p xs) (length xs) ≡ b → unwrap_or (cond b (Some (position_or_len p xs)) None) (length xs) ≡ position_or_len p xs
    go true e = refl
    go false e = omega (arith, ltb-false (position_or_len p xs) (length xs) e, prefix_len-le-length (λ x. not (p x)) xs)

-- ---- bytes of a step

-- a byte that fails a test is none of those that pass it
fails : (t : ℕ → Bool) (e b : ℕ) → t e ≡ false → t b ≡ true → b ≡ e → ⊥
fails t e b no_e yes_b same = true≢false (sym yes_b ∙ ap t same ∙ no_e)

all_fail : (t : ℕ → Bool) (e : ℕ) (bs : List ℕ) → t e ≡ false → list_all t bs ≡ true → Lacks e bs
all_fail t e [] no_e pass = All-nil (λ (x : ℕ). x ≡ e → ⊥)
all_fail t e (b ∷ bs) no_e pass =
    let both = and_parts (t b) (list_all t bs) pass in
    All-cons (λ (x : ℕ). x ≡ e → ⊥) b bs (fails t e b no_e both.0) (all_fail t e bs no_e both.1)

name_lacks : (e : ℕ) (bs : List ℕ) → is_ascii_alphabetic e ≡ false → is_name_byte e ≡ false → is_name bs ≡ true → Lacks e bs
name_lacks e [] first rest named = All-nil (λ (x : ℕ). x ≡ e → ⊥)
name_lacks e (b ∷ bs) first rest named =
    let whole = and_parts (is_ascii_alphabetic b && nat_le (length bs) 31) (list_all is_name_byte bs) named in
    let front = and_parts (is_ascii_alphabetic b) (nat_le (length bs) 31) whole.0 in
    All-cons (λ (x : ℕ). x ≡ e → ⊥) b bs (fails is_ascii_alphabetic e b first front.0) (all_fail is_name_byte e bs rest whole.1)

digits_lack : (e n : ℕ) → e < 48 → n < 2 ^ 64 → Lacks e (decimal n)
digits_lack e n low small =
    decimal_by_steps (λ m ds. Lacks e ds) (λ m l. All-cons (λ (x : ℕ). x ≡ e → ⊥) (48 + m) [] (λ same. omega arith) (All-nil (λ (x : ℕ). x ≡ e → ⊥)))
    (λ m ds l none. All-push (λ (x : ℕ). x ≡ e → ⊥) ds (48 + m % 10) none (λ same. omega arith)) n small

-- a step behind its `/`
abbrev pub inner : Part → List ℕ
inner q = q.name ++ 35 ∷ decimal q.attempt

pub inner_lacks : (q : Part) → IsStep q → Lacks 47 (inner q)
inner_lacks q step =
    All-append (λ (x : ℕ). x ≡ 47 → ⊥) q.name (35 ∷ decimal q.attempt) (name_lacks 47 q.name refl refl step.named)
    (All-cons (λ (x : ℕ). x ≡ 47 → ⊥) 35 (decimal q.attempt) (λ same. omega arith) (digits_lack 47 q.attempt (omega arith) step.small))

-- where the name ends
pub name_end : (q : Part) (bytes : List ℕ) → IsStep q → bytes ≡ inner q → position_or_len (λ b. b == 35) bytes ≡ length q.name
name_end q bytes step is = ap (position_or_len (λ b. b == 35)) is ∙ front_of 35 q.name (decimal q.attempt) (name_lacks 35 q.name refl refl step.named)

-- where a step ends
pub step_end : (q : Part) (more : List Part) (bytes : List ℕ) → IsStep q → bytes ≡ inner q ++ parts_spelling more → position_or_len (λ b. b == 47) bytes ≡ length (inner q)
step_end q [] bytes step is = ap (position_or_len (λ b. b == 47)) (is ∙ append-nil (inner q)) ∙ front_all 47 (inner q) (inner_lacks q step)
step_end q (r ∷ more) bytes step is =
    let behind = (r.name ++ 35 ∷ decimal r.attempt) ++ parts_spelling more in
    ap (position_or_len (λ b. b == 47)) is ∙ front_of 47 (inner q) behind (inner_lacks q step)

-- ---- what is left to be read

-- some steps were read, and these are spelled by what is left
pub record IsLeft (steps : List Part) (rest : List ℕ) (qs : List Part) : Type 0 where
  pub left : List Part
  pub fine : All IsStep left
  pub spelled : rest ≡ parts_spelling left
  pub whole : qs ≡ steps ++ left

-- ---- one step

-- how many bytes the first step takes
pub cut_end : (q : Part) (more : List Part) (bytes tail : List ℕ) (first len : ℕ) → IsStep q → bytes ≡ part_spelling q ++ parts_spelling more → bytes ≡ first ∷ tail → len ≡ position_or_len (λ b. b == 47) tail
    → 1 + len ≡ length (part_spelling q)
cut_end q more bytes tail first len step is cut len_is =
    let rest : tail ≡ inner q ++ parts_spelling more = cc in
    ap (λ n. 1 + n) (len_is ∙ step_end q more tail step rest) ∙ one-add (length (inner q))

-- the name, and the attempt behind its `#`
pub name_cut : (q : Part) (written front back : List ℕ) (len : ℕ) → IsStep q → written ≡ inner q → len ≡ position_or_len (λ b. b == 35) written → front ≡ take len written → back ≡ drop len written
    → (front ≡ q.name) × (back ≡ 35 ∷ decimal q.attempt)
name_cut q written front back len step is len_is front_is back_is =
    let at_name : len ≡ length q.name = len_is ∙ name_end q written step is in (
      front_is ∙ ap (λ n. take n written) at_name ∙ ap (take (length q.name)) is ∙ take-append_seam q.name (35 ∷ decimal q.attempt),
      back_is ∙ ap (λ n. drop n written) at_name ∙ ap (drop (length q.name)) is ∙ drop-append_seam q.name (35 ∷ decimal q.attempt),
    )

-- the first step, and those behind it
step_cut : (q : Part) (more : List Part) (rest front back : List ℕ) (len : ℕ) → rest ≡ part_spelling q ++ parts_spelling more → len ≡ length (part_spelling q) → front ≡ take len rest → back ≡ drop len rest
    → (front ≡ part_spelling q) × (back ≡ parts_spelling more)
step_cut q more rest front back len is at_end front_is back_is = (
  front_is ∙ ap (λ n. take n rest) at_end ∙ ap (take (length (part_spelling q))) is ∙ take-append_seam (part_spelling q) (parts_spelling more),
  back_is ∙ ap (λ n. drop n rest) at_end ∙ ap (drop (length (part_spelling q))) is ∙ drop-append_seam (part_spelling q) (parts_spelling more),
)

-- ---- all steps

-- no bytes are left, and so no steps
pub all_read : (steps : List Part) (rest : List ℕ) (qs : List Part) → IsLeft steps rest qs → length rest ≡ 0 → steps ≡ qs
all_read steps rest qs h none = go h.left h.spelled h.whole
  where
    go : (left : List Part) → rest ≡ parts_spelling left → qs ≡ steps ++ left → steps ≡ qs
    go [] is whole = sym (whole ∙ append-nil steps)
    go (q ∷ left) is whole = absurd (omega (arith, ap length is))

-- a step that is left, and those behind it
record IsNext (steps : List Part) (rest : List ℕ) (qs : List Part) : Type 0 where
  step : Part
  more : List Part
  is_step : IsStep step
  fine : All IsStep more
  spelled : rest ≡ part_spelling step ++ parts_spelling more
  whole : qs ≡ steps ++ step ∷ more

one_left : (steps : List Part) (rest : List ℕ) (qs : List Part) → IsLeft steps rest qs → 0 < length rest → IsNext steps rest qs
one_left steps rest qs h some = go h.left h.fine h.spelled h.whole
  where
    go : (left : List Part) → All IsStep left → rest ≡ parts_spelling left → qs ≡ steps ++ left → IsNext steps rest qs
    go [] fine is whole = absurd (omega (arith, ap length is))
    go (q ∷ left) fine is whole = record { step = q; more = left; is_step = All-head IsStep q left fine; fine = All-tail IsStep q left fine; spelled = is; whole = whole }

-- how the next step is read: how long it is, and what is found in its bytes
pub record Reads (rest front back : List ℕ) (found : Option Part) : Type 0 where
  pub len : ℕ
  pub long : (q : Part) (more : List Part) → IsStep q → rest ≡ part_spelling q ++ parts_spelling more → len ≡ length (part_spelling q)
  pub first : front ≡ take len rest
  pub behind : back ≡ drop len rest
  pub finds : (q : Part) → IsStep q → front ≡ part_spelling q → found ≡ Some q

-- a step that is left is found
pub none_missed : (steps : List Part) (rest front back : List ℕ) (qs : List Part) (found : Option Part) → IsLeft steps rest qs → 0 < length rest → Reads rest front back found → found ≡ None → ⊥
none_missed steps rest front back qs found h some r none =
    let n = one_left steps rest qs h some in
    let cut = step_cut n.step n.more rest front back r.len n.spelled (r.long n.step n.more n.is_step n.spelled) r.first r.behind in
    let is = r.finds n.step n.is_step cut.0 in
    cc

-- one step less is left
pub next_left : (steps new : List Part) (step : Part) (rest front back : List ℕ) (qs : List Part) (found : Option Part) → IsLeft steps rest qs → 0 < length rest → Reads rest front back found → found ≡ Some step → new ≡ steps ++ step ∷ []
    → IsLeft new back qs
next_left steps new step rest front back qs found h some r is_step new_is =
    let n = one_left steps rest qs h some in
    let cut = step_cut n.step n.more rest front back r.len n.spelled (r.long n.step n.more n.is_step n.spelled) r.first r.behind in
    let is = r.finds n.step n.is_step cut.0 in
    let same : step ≡ n.step = cc in
    let grown : new ++ n.more ≡ steps ++ n.step ∷ n.more = ap (λ (l : List Part). l ++ n.more) new_is ∙ append_assoc steps (step ∷ []) n.more ∙ ap (λ (s : Part). steps ++ s ∷ n.more) same in
    record { left = n.more; fine = n.fine; spelled = cut.1; whole = n.whole ∙ sym grown }

-- ---- what was read is what is written

spelled_push : (steps : List Part) (step : Part) → parts_spelling (steps ++ step ∷ []) ≡ parts_spelling steps ++ part_spelling step
spelled_push [] step = append-nil (part_spelling step)
spelled_push (q ∷ steps) step = ap (λ (l : List ℕ). part_spelling q ++ l) (spelled_push steps step) ∙ sym (append_assoc (part_spelling q) (parts_spelling steps) (part_spelling step))

-- one step more was read
pub one_read : (bytes rest front back : List ℕ) (steps new : List Part) (step : Part) (found : Option Part) (len : ℕ) → bytes ≡ parts_spelling steps ++ rest → front ≡ take len rest → back ≡ drop len rest
    → IfSome found (λ q. front ≡ part_spelling q) → found ≡ Some step → new ≡ steps ++ step ∷ [] → bytes ≡ parts_spelling new ++ back
one_read bytes rest front back steps new step found len read first behind sure is new_is =
    let spelled : front ≡ part_spelling step = subst (λ (o : Option Part). IfSome o (λ q. front ≡ part_spelling q)) is sure in
    let cut : rest ≡ part_spelling step ++ back = sym (take-append-drop len rest) ∙ ap₂ (λ (x y : List ℕ). x ++ y) (sym first ∙ spelled) (sym behind) in
    read ∙ ap (λ (l : List ℕ). parts_spelling steps ++ l) cut ∙ sym (append_assoc (parts_spelling steps) (part_spelling step) back)
    ∙ ap (λ (l : List ℕ). l ++ back) (sym (spelled_push steps step) ∙ ap parts_spelling (sym new_is))

-- all of them
pub whole_read : (bytes rest : List ℕ) (steps : List Part) → bytes ≡ parts_spelling steps ++ rest → length rest ≡ 0 → bytes ≡ parts_spelling steps
whole_read bytes [] steps read none = read ∙ append-nil (parts_spelling steps)
whole_read bytes (b ∷ rest) steps read none = absurd (omega (arith, none))

-- ---- a path

-- where the root ends
root_end : (path : Path) (text : List ℕ) → Spells text path → position_or_len (λ b. b == 47) text ≡ length (decimal path.root)
root_end path text h = go path.parts h.spelled
  where
    digits : Lacks 47 (decimal path.root)
    digits = digits_lack 47 path.root (omega arith) h.path.small

    go : (parts : List Part) → text ≡ decimal path.root ++ parts_spelling parts → position_or_len (λ b. b == 47) text ≡ length (decimal path.root)
    go [] is = ap (position_or_len (λ b. b == 47)) (is ∙ append-nil (decimal path.root)) ∙ front_all 47 (decimal path.root) digits
    go (q ∷ more) is = ap (position_or_len (λ b. b == 47)) is ∙ front_of 47 (decimal path.root) (inner q ++ parts_spelling more) digits

-- the root's digits, and the steps behind them
pub root_cut : (path : Path) (text front back : List ℕ) (len : ℕ) → Spells text path → len ≡ position_or_len (λ b. b == 47) text → front ≡ take len text → back ≡ drop len text
    → (front ≡ decimal path.root) × (back ≡ parts_spelling path.parts)
root_cut path text front back len h len_is front_is back_is =
    let at_root : len ≡ length (decimal path.root) = len_is ∙ root_end path text h in (
      front_is ∙ ap (λ n. take n text) at_root ∙ ap (take (length (decimal path.root))) h.spelled ∙ take-append_seam (decimal path.root) (parts_spelling path.parts),
      back_is ∙ ap (λ n. drop n text) at_root ∙ ap (drop (length (decimal path.root))) h.spelled ∙ drop-append_seam (decimal path.root) (parts_spelling path.parts),
    )

-- the path of this root and these steps
pub same_path : (path : Path) (root : ℕ) (parts : List Part) → root ≡ path.root → parts ≡ path.parts → record { root = root; parts = parts } ≡ path
same_path path root parts same_root same_parts = ap₂ (λ (r : ℕ) (ps : List Part). let p : Path = record { root = r; parts = ps } in p) same_root same_parts

-- what two optional texts hold
pub same_some : {x y : List ℕ} → Some x ≡ Some y → x ≡ y
same_some h = cc

-- a step that is found can be written
pub step_found : (o : Option Part) (q : Part) → IfSome o IsStep → o ≡ Some q → IsStep q
step_found o q h is = subst (λ (p : Option Part). IfSome p IsStep) is h
