-- A text is judged in one way: it breaks one rule first, at one place, or none.
use Rattle.std.proofs.Common.{◌≡◌, ◌⊎◌, inl, inr, ℕ, ◌<◌, ◌≤◌, List, [], ◌∷◌, ◌++◌, length, Option, Some, None, refl, sym, ap, ◌∙◌, subst, arith, append_assoc}
use Rattle.fdl_lexer.specs.Tokens.{AreTokens}
use Rattle.fdl_lexer.specs.declared.kinds.Token.{Token}
use Rattle.fdl_parser.specs.Refusing.{IsFirstFault, SomeTree, RefusesFirst, HaveNoTree}
use Rattle.fdl_parser.specs.Stops.{first_and}
use Rattle.fdl_parser.specs.Items.{IsTree}
use Rattle.fdl_parser.specs.Tokens.{Tokens, Spelled, Reading, IsRest, Unread, Less, spell, reading, place_in}
use Rattle.fdl_parser.specs.declared.cursor.SyntaxFault.TheVariants as parsed
use Rattle.flow_model.specs.declared.graphs.Library.{Library}
use Rattle.flow_model.specs.declared.trees.Tree.{Tree}
use Rattle.template_check.specs.Compiling.{HasTree}
use Rattle.template_check.specs.Judged.{IsEarly, TooLong, WrongByte, NoToken, NoTree, IsFaultless, IsBroken, IsRefused, Early, Late}
use Rattle.template_check.specs.Rules.{Rule, IsFirstBroken, later_rules}
use Rattle.text_laws.proofs.Trees.{tokens_one, never_stuck, stuck_one, never_bad, bad_one, tree_one}

-- ---- rules

-- the first rule that is broken is one, and so is its least place
pub found_one : (rules : List Rule) (f g : Option (ℕ × ℕ)) → IsFirstBroken rules f → IsFirstBroken rules g → f ≡ g
found_one [] f g h j = h ∙ sym j
found_one (rule ∷ rules) f g (inl h) (inl j) =
    let less = h.3 j.0 j.2 in
    let more = j.3 h.0 h.2 in
    let same : h.0 ≡ j.0 = omega arith in
    h.1 ∙ ap (λ (p : ℕ). Some (rule.0, p)) same ∙ sym j.1
found_one (rule ∷ rules) f g (inl h) (inr j) = absurd (j.0 h.0 h.2)
found_one (rule ∷ rules) f g (inr h) (inl j) = absurd (h.0 j.0 j.2)
found_one (rule ∷ rules) f g (inr h) (inr j) = found_one rules f g h.1 j.1

none_found : (fault : ℕ × ℕ) → None ≡ Some fault → ⊥
none_found fault e = cc

-- ---- the first token that can't stand there

-- two ways to cut a row: at one place, or the one further on than the other
abbrev Further : Tokens → Tokens → Tokens → Tokens → Type 0
Further front rest front' rest' =
    (t : Spelled) × (ts : Tokens) × (front' ≡ front ++ t ∷ ts) × (rest ≡ t ∷ (ts ++ rest'))

cut_one : (front rest front' rest' : Tokens) → front ++ rest ≡ front' ++ rest'
    → (rest ≡ rest') ⊎ (Further front rest front' rest' ⊎ Further front' rest' front rest)
cut_one [] rest [] rest' same = inl same
cut_one [] rest (t ∷ front') rest' same = inr (inl (t, front', refl, same))
cut_one (t ∷ front) rest [] rest' same = inr (inr (t, front, refl, sym same))
cut_one (t ∷ front) rest (u ∷ front') rest' same =
    let head : t ≡ u = cc in
    let tail : front ++ rest ≡ front' ++ rest' = cc in
    elim (cut_one front rest front' rest' tail) [
      | inl one ↦ inl one
      | inr (inl on) ↦
          inr (inl (on.0, on.1, ap (λ x. x ∷ front') (sym head) ∙ ap (λ xs. t ∷ xs) on.2, on.3))
      | inr (inr on) ↦ inr (inr (on.0, on.1, ap (λ x. x ∷ front) head ∙ ap (λ xs. u ∷ xs) on.2, on.3))
    ]

-- what begins further on goes on where the other is blocked
not_further : (says : Tokens → Type 0) (all rest rest' : Tokens) (f : IsFirstFault says all rest)
    (g : IsFirstFault says all rest') → Further f.front rest g.front rest' → ⊥
not_further says all rest rest' f g on =
    let others = on.1 ++ g.more in
    let row : g.front ++ g.more ≡ f.front ++ first_and rest others
    = ap (λ xs. xs ++ g.more) on.2 ∙ append_assoc f.front (on.0 ∷ on.1) g.more
    ∙ ap (λ r. f.front ++ first_and r others) (sym on.3) in
    f.blocked others (subst says row g.begins)

pub fault_one : (says : Tokens → Type 0) (all rest rest' : Tokens) → IsFirstFault says all rest
    → IsFirstFault says all rest' → rest ≡ rest'
fault_one says all rest rest' f g =
    elim (cut_one f.front rest g.front rest' (sym f.cut ∙ g.cut)) [
      | inl one ↦ one
      | inr (inl on) ↦ absurd (not_further says all rest rest' f g on)
      | inr (inr on) ↦ absurd (not_further says all rest' rest g f on)
    ]

-- what is left has the end of the whole
end_kept : {all : Reading} {rest : Tokens} {end : ℕ} → IsRest all rest end → end ≡ all.end
end_kept Unread = refl
end_kept (Less h) = end_kept h

refusal_one : (text : List ℕ) (ts us : List Token) (p q : ℕ) → AreTokens text ts → AreTokens text us
    → RefusesFirst text ts (parsed.At p) → RefusesFirst text us (parsed.At q) → p ≡ q
refusal_one text ts us p q t u h j =
    let same = tokens_one text ts us t u in
    let a = h t in
    let b = j u in
    let rest : a.0 ≡ b.0 = fault_one SomeTree (spell text us) a.0 b.0
    (subst (λ (xs : List Token). IsFirstFault SomeTree (spell text xs) a.0) same a.4) b.4 in
    let end : a.1 ≡ b.1 = end_kept a.2 ∙ ap (λ (xs : List Token). (reading text xs).end) same ∙ sym (end_kept b.2) in
    a.3 ∙ ap (λ r. place_in r a.1) rest ∙ ap (λ e. place_in b.0 e) end ∙ sym b.3

-- tokens that are refused have no tree
no_tree : (text : List ℕ) (ts us : List Token) (p : ℕ) (tree : Tree) → AreTokens text ts → AreTokens text us
    → HaveNoTree text ts (parsed.At p) → IsTree tree (spell text us) → ⊥
no_tree text ts us p tree t u none is =
    let same = tokens_one text us ts u t in
    let e : parsed.At p ≡ parsed.NoMemory = none t tree (subst (λ (xs : List Token). IsTree tree (spell text xs)) same is) in
    cc

-- ---- texts that have no tree

-- a rule with its place
abbrev pub IsOneRule : ℕ → ℕ → ℕ → ℕ → Type 0
IsOneRule rule place rule' place' = (rule ≡ rule') × (place ≡ place')

long_or_not : (text : List ℕ) → 1048576 < length text → length text ≤ 1048576 → ⊥
long_or_not text more less = omega arith

early_one : (text : List ℕ) (rule place rule' place' : ℕ) → IsEarly text rule place → IsEarly text rule' place'
    → IsOneRule rule place rule' place'
early_one text rule place rule' place' (TooLong long r p) (TooLong long' r' p') = (r ∙ sym r', p ∙ sym p')
early_one text rule place rule' place' (TooLong long r p) (WrongByte short r' f) = absurd (long_or_not text long short)
early_one text rule place rule' place' (TooLong long r p) (NoToken short r' f) = absurd (long_or_not text long short)
early_one text rule place rule' place' (TooLong long r p) (NoTree short r' ts are first none) = absurd (long_or_not text long short)
early_one text rule place rule' place' (WrongByte short r f) (TooLong long r' p') = absurd (long_or_not text long short)
early_one text rule place rule' place' (WrongByte short r f) (WrongByte short' r' f') = (r ∙ sym r', bad_one text place place' f f')
early_one text rule place rule' place' (WrongByte short r f) (NoToken short' r' f') = absurd (never_bad text place f'.allowed f)
early_one text rule place rule' place' (WrongByte short r f) (NoTree short' r' ts are first none) = absurd (never_bad text place are.allowed f)
early_one text rule place rule' place' (NoToken short r f) (TooLong long r' p') = absurd (long_or_not text long short)
early_one text rule place rule' place' (NoToken short r f) (WrongByte short' r' f') = absurd (never_bad text place' f.allowed f')
early_one text rule place rule' place' (NoToken short r f) (NoToken short' r' f') = (r ∙ sym r', stuck_one text place place' f f')
early_one text rule place rule' place' (NoToken short r f) (NoTree short' r' ts are first none) = absurd (never_stuck text ts place are f)
early_one text rule place rule' place' (NoTree short r ts are first none) (TooLong long r' p') = absurd (long_or_not text long short)
early_one text rule place rule' place' (NoTree short r ts are first none) (WrongByte short' r' f') = absurd (never_bad text place' are.allowed f')
early_one text rule place rule' place' (NoTree short r ts are first none) (NoToken short' r' f') = absurd (never_stuck text ts place' are f')
early_one text rule place rule' place' (NoTree short r ts are first none) (NoTree short' r' us are' first' none') =
    (r ∙ sym r', refusal_one text ts us place place' are are' first first')

-- such a text has no tree
early_no_tree : (text : List ℕ) (rule place : ℕ) (tree : Tree) → length text ≤ 1048576 → HasTree text tree → IsEarly text rule place → ⊥
early_no_tree text rule place tree short has (TooLong long r p) = long_or_not text long short
early_no_tree text rule place tree short has (WrongByte short' r f) = never_bad text place has.scanned.allowed f
early_no_tree text rule place tree short has (NoToken short' r f) = never_stuck text has.tokens place has.scanned f
early_no_tree text rule place tree short has (NoTree short' r ts are first none) = no_tree text ts has.tokens place tree are has.scanned none has.parsed

-- ---- all texts

module _ (library : Library) (text : List ℕ) where
  broken_one : (rule place rule' place' : ℕ) → IsBroken library text rule place → IsBroken library text rule' place'
      → IsOneRule rule place rule' place'
  broken_one rule place rule' place' h j =
      let same = tree_one text h.tree j.tree h.has j.has in
      let e : Some (rule, place) ≡ Some (rule', place') = found_one (later_rules library j.tree.items) (Some (rule, place)) (Some (rule', place'))
      (subst (λ (t : Tree). IsFirstBroken (later_rules library t.items) (Some (rule, place))) same h.first) j.first in
      let pair : (rule, place) ≡ (rule', place') = cc in
      (ap (λ (x : ℕ × ℕ). x.0) pair, ap (λ (x : ℕ × ℕ). x.1) pair)

  -- a text is refused by one rule, at one place
  pub refused_one : (rule place rule' place' : ℕ) → IsRefused library text rule place → IsRefused library text rule' place'
      → IsOneRule rule place rule' place'
  refused_one rule place rule' place' (Early h) (Early j) = early_one text rule place rule' place' h j
  refused_one rule place rule' place' (Early h) (Late j) = absurd (early_no_tree text rule place j.tree j.short j.has h)
  refused_one rule place rule' place' (Late h) (Early j) = absurd (early_no_tree text rule' place' h.tree h.short h.has j)
  refused_one rule place rule' place' (Late h) (Late j) = broken_one rule place rule' place' h j

  -- a text that is refused isn't faultless
  pub refused_faultless : (rule place : ℕ) → IsRefused library text rule place → IsFaultless library text → ⊥
  refused_faultless rule place (Early j) h = early_no_tree text rule place h.tree h.short h.has j
  refused_faultless rule place (Late j) h =
      let same = tree_one text h.tree j.tree h.has j.has in
      none_found (rule, place) (found_one (later_rules library j.tree.items) None (Some (rule, place))
      (subst (λ (t : Tree). IsFirstBroken (later_rules library t.items) None) same h.none) j.first)
