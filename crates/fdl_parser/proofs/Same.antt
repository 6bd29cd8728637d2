-- Two readings of the same tokens are the same: what is compared, and the parts of one or two tokens.
use Rattle.std.proofs.Common.{◌≡◌, ℕ, ◌<◌, ◌≤◌, ◌+◌, ◌==◌, true, false, List, [], ◌∷◌, ◌++◌, Option, Some, refl, ap, sym, ◌∙◌, subst, arith}
use Rattle.std.proofs.lemmas.Bool.{eq-eqb}
use Rattle.fdl_lexer.specs.declared.kinds.What.{What}
use Rattle.fdl_lexer.specs.declared.kinds.What.TheVariants.{Word, Name, Rc, Item, Number, Text, Mark}
use Rattle.flow_model.specs.declared.trees.NameAt.{NameAt}
use Rattle.flow_model.specs.declared.trees.NumberAt.{NumberAt}
use Rattle.flow_model.specs.declared.trees.StepTree.{StepTree}
use Rattle.flow_model.specs.declared.trees.StepTree.TheVariants as step
use Rattle.flow_model.specs.declared.trees.LeafAt.{LeafAt}
use Rattle.fdl_parser.specs.Tokens.{Spelled, Tokens, IsToken, IsName, IsQuote, IsNumber, IsSigned, Unsigned, Negative, IsFirstStep, RcFirst, NameFirst, IsNextStep, MemberNext, PlaceNext, IsLeaf, FirstStep, MoreSteps}
use Rattle.fdl_parser.proofs.Numbers.{word_number, mark_number}
use Rattle.fdl_parser.specs.Lexed.{IsQuoted, AreQuoted}
pub use Rattle.fdl_parser.specs.Tiers.{word_tier, mark_tier, kind_tier, tier}

-- a number that tells words, marks and kinds of tokens apart
abbrev pub kind_lead : What → ℕ
kind_lead (Word w) = 100 + word_number w
kind_lead (Mark m) = mark_number m
kind_lead Name = 50
kind_lead Rc = 51
kind_lead Item = 52
kind_lead (Number v) = 53
kind_lead Text = 54

-- that of the first token
abbrev pub lead : Tokens → ℕ
lead [] = 0
lead (t ∷ ts) = kind_lead t.kind

-- two rows of tokens are the same, and what stands in quotes is whole
pub record At (a b : Tokens) : Type 0 where
  pub same : a ≡ b
  pub quoted : AreQuoted a

-- two trees are the same, and so is what is left behind them
pub record Same {A : Type 0} (x y : A) (a b : Tokens) : Type 0 where
  pub tree : x ≡ y
  pub rest : At a b

abbrev tail_of : Tokens → Tokens
tail_of [] = []
tail_of (t ∷ ts) = ts

abbrev head_of : Spelled → Tokens → Spelled
head_of d [] = d
head_of d (t ∷ ts) = t

-- first tokens of the same row
pub record SameToken (s t : Spelled) (a b : Tokens) : Type 0 where
  pub token : s ≡ t
  pub rest : At a b
  pub whole : IsQuoted s.kind s.bytes

pub tokens_same : {s t : Spelled} {a a' b b' : Tokens} → a ≡ s ∷ b → a' ≡ t ∷ b' → At a a' → SameToken s t b b'
tokens_same {s} {t} {a} {a'} {b} {b'} h j at =
    let e : s ∷ b ≡ t ∷ b' = sym h ∙ (at.same ∙ j) in
    let q : AreQuoted (s ∷ b) = subst AreQuoted h at.quoted in
    record { token = ap (head_of s) e; rest = record { same = ap tail_of e; quoted = q.1 }; whole = q.0 }

-- a word or a mark
pub word_same : {k : What} {p q : ℕ} {a a' b b' : Tokens} → IsToken k p a b → IsToken k q a' b' → At a a' → Same p q b b'
word_same h j at =
    let s = tokens_same h.first j.first at in
    record { tree = ap (λ (t : Spelled). t.place) s.token; rest = s.rest }

pub lead_token : {k : What} {p : ℕ} {a b : Tokens} → IsToken k p a b → lead a ≡ kind_lead k
lead_token h = ap lead h.first

pub tier_token : {k : What} {p : ℕ} {a b : Tokens} → IsToken k p a b → tier a ≡ kind_tier k
tier_token h = ap tier h.first

pub calm_token : {k : What} {p n : ℕ} {a b : Tokens} → IsToken k p a b → kind_tier k < n → tier a < n
calm_token {k} {p} {n} h lt = subst (λ (m : ℕ). m < n) (sym (tier_token h)) lt

pub lead_name : {n : NameAt} {a b : Tokens} → IsName n a b → lead a ≡ 50
lead_name h = ap lead h.first

pub tier_name : {n : NameAt} {a b : Tokens} → IsName n a b → tier a ≡ 2
tier_name h = ap tier h.first

pub lead_number : {n : NumberAt} {a b : Tokens} → IsNumber n a b → lead a ≡ 53
lead_number h = lead_token h.first

pub lead_quote : {v : List ℕ} {p : ℕ} {a b : Tokens} → IsQuote v p a b → lead a ≡ 54
lead_quote h = ap lead h.first

-- what begins differently isn't the same
pub apart : {a a' : Tokens} {n m : ℕ} {P : Type 0} → (f : Tokens → ℕ) → f a ≡ n → f a' ≡ m → At a a' → (n == m) ≡ false → P
apart {a} {a'} {n} {m} f h j at ne =
    let e : n ≡ m = sym h ∙ (ap f at.same ∙ j) in
    let k : (n == m) ≡ true = eq-eqb n m e in
    let z : true ≡ false = sym k ∙ ne in
    absurd (true_isnt z)
  where
    true_isnt : true ≡ false → ⊥
    true_isnt z = cc

name_eq : (x y : List ℕ) (p q : ℕ) → x ≡ y → p ≡ q → (let n : NameAt = record { name = x; place = p } in n) ≡ record { name = y; place = q }
name_eq x y p q e f = rw (e, f) refl

pub name_same : {n m : NameAt} {a a' b b' : Tokens} → IsName n a b → IsName m a' b' → At a a' → Same n m b b'
name_same {n} {m} h j at =
    let s = tokens_same h.first j.first at in
    let w = s.whole in
    let b : h.bytes ≡ j.bytes = ap (λ (t : Spelled). t.bytes) s.token in
    let e : n.name ≡ m.name = h.inside w.0 w.1 ∙ sym (j.inside w.0 (sym b ∙ w.1)) in
    record { tree = name_eq n.name m.name n.place m.place e (ap (λ (t : Spelled). t.place) s.token); rest = s.rest }

pub record SameQuote (v w : List ℕ) (p q : ℕ) (a b : Tokens) : Type 0 where
  pub value : v ≡ w
  pub place : p ≡ q
  pub rest : At a b

pub quote_same : {v w : List ℕ} {p q : ℕ} {a a' b b' : Tokens} → IsQuote v p a b → IsQuote w q a' b' → At a a' → SameQuote v w p q b b'
quote_same h j at =
    let s = tokens_same h.first j.first at in
    let w = s.whole in
    let b : h.bytes ≡ j.bytes = ap (λ (t : Spelled). t.bytes) s.token in
    record { value = h.inside w.0 w.1 ∙ sym (j.inside w.0 (sym b ∙ w.1)); place = ap (λ (t : Spelled). t.place) s.token; rest = s.rest }

number_eq : (x y : Option ℕ) (s t p q : ℕ) → x ≡ y → s ≡ t → p ≡ q → (let n : NumberAt = record { minus = x; size = s; place = p } in n) ≡ record { minus = y; size = t; place = q }
number_eq x y s t p q e f g = rw (e, f, g) refl

abbrev size_of : What → ℕ
size_of (Number v) = v
size_of _ = 0

pub number_same : {n m : NumberAt} {a a' b b' : Tokens} → IsNumber n a b → IsNumber m a' b' → At a a' → Same n m b b'
number_same {n} {m} h j at =
    let s = tokens_same h.first.first j.first.first at in
    let z : n.size ≡ m.size = ap (λ (t : Spelled). size_of t.kind) s.token in
    record { tree = number_eq n.minus m.minus n.size m.size n.place m.place (h.unsigned ∙ sym j.unsigned) z (ap (λ (t : Spelled). t.place) s.token); rest = s.rest }

pub signed_same : {n m : NumberAt} {a a' b b' : Tokens} → IsSigned n a b → IsSigned m a' b' → At a a' → Same n m b b'
signed_same (Unsigned h) (Unsigned j) at = number_same h j at
signed_same (Negative {n = n} h1 h2) (Negative {n = m} j1 j2) at =
    let s1 = word_same h1 j1 at in
    let s2 = number_same h2 j2 s1.rest in
    record { tree = number_eq _ _ n.size m.size n.place m.place (ap Some s1.tree) (ap (λ (k : NumberAt). k.size) s2.tree) (ap (λ (k : NumberAt). k.place) s2.tree); rest = s2.rest }
signed_same (Unsigned h) (Negative j1 j2) at = apart lead (lead_number h) (lead_token j1) at refl
signed_same (Negative h1 h2) (Unsigned j) at = apart lead (lead_token h1) (lead_number j) at refl

-- one after another, each as N says
pub data Chain (A : Type 0) (N : A → Tokens → Tokens → Type 0) : List A → Tokens → Tokens → Type 0 where
  Done : {a : Tokens} → Chain A N [] a a
  Link : {x : A} {xs : List A} {a b c : Tokens} → N x a b → Chain A N xs b c → Chain A N (x ∷ xs) a c

pub snoc : {A : Type 0} {N : A → Tokens → Tokens → Type 0} {xs : List A} {x : A} {a b c : Tokens} → Chain A N xs a b → N x b c → Chain A N (xs ++ x ∷ []) a c
snoc Done h = Link h Done
snoc (Link j k) h = Link j (snoc k h)

-- N has one reading, before what goes on less tightly than this
abbrev pub HasOne : (A : Type 0) → (A → Tokens → Tokens → Type 0) → ℕ → Type 0
HasOne A N high = (x y : A) (a a' b b' : Tokens) → N x a b → N y a' b' → tier b < high → tier b' < high → At a a' → Same x y b b'

-- N begins with a token that goes on as tightly
abbrev pub Begins : (A : Type 0) → (A → Tokens → Tokens → Type 0) → ℕ → ℕ → Type 0
Begins A N low high = (x : A) (a b : Tokens) → N x a b → (low ≤ tier a) × (tier a < high)

pub chain_calm : {A : Type 0} {N : A → Tokens → Tokens → Type 0} {xs : List A} {a b : Tokens} → (low high : ℕ) → low ≤ high → Begins A N low high → Chain A N xs a b → tier b < low → tier a < high
chain_calm low high le starts Done calm = omega arith
chain_calm low high le starts (Link h k) calm = (starts _ _ _ h).1

pub chain_same : {A : Type 0} {N : A → Tokens → Tokens → Type 0} {xs ys : List A} {a a' b b' : Tokens} → (low high : ℕ) → low ≤ high → HasOne A N high → Begins A N low high → Chain A N xs a b → Chain A N ys a' b' → tier b < low → tier b' < low → At a a' → Same xs ys b b'
chain_same low high le one starts Done Done c c' at = record { tree = refl; rest = at }
chain_same low high le one starts Done (Link j js) c c' at =
    let s = starts _ _ _ j in let e = ap tier at.same in absurd (omega (arith, s.0, e))
chain_same low high le one starts (Link h hs) Done c c' at =
    let s = starts _ _ _ h in let e = ap tier at.same in absurd (omega (arith, s.0, e))
chain_same low high le one starts (Link h hs) (Link j js) c c' at =
    let s = one _ _ _ _ _ _ h j (chain_calm low high le starts hs c) (chain_calm low high le starts js c') at in
    let t = chain_same low high le one starts hs js c c' s.rest in
    record { tree = rw (s.tree, t.tree) refl; rest = t.rest }

-- behind this token
pub record Behind (A : Type 0) (k : What) (N : A → Tokens → Tokens → Type 0) (x : A) (a b : Tokens) : Type 0 where
  pub place : ℕ
  pub middle : Tokens
  pub token : IsToken k place a middle
  pub item : N x middle b

pub behind_same : (A : Type 0) (N : A → Tokens → Tokens → Type 0) (k : What) (high : ℕ) → HasOne A N high → HasOne A (Behind A k N) high
behind_same A N k high one x y a a' b b' h j c c' at =
    let s = word_same h.token j.token at in
    one x y h.middle j.middle b b' h.item j.item c c' s.rest

pub behind_begins : (A : Type 0) (N : A → Tokens → Tokens → Type 0) (k : What) (low high : ℕ) → low ≤ kind_tier k → kind_tier k < high → Begins A (Behind A k N) low high
behind_begins A N k low high le lt x a b h =
    let e = tier_token h.token in (subst (λ (m : ℕ). low ≤ m) (sym e) le, subst (λ (m : ℕ). m < high) (sym e) lt)

pub record SameStep (s t : StepTree) (p q : ℕ) (a b : Tokens) : Type 0 where
  pub step : s ≡ t
  pub place : p ≡ q
  pub rest : At a b

first_step_same : {s t : StepTree} {p q : ℕ} {a a' b b' : Tokens} → IsFirstStep s p a b → IsFirstStep t q a' b' → At a a' → SameStep s t p q b b'
first_step_same (RcFirst h) (RcFirst j) at = let s = word_same h j at in record { step = refl; place = s.tree; rest = s.rest }
first_step_same (NameFirst h) (NameFirst j) at =
    let s = name_same h j at in
    record { step = ap (λ (n : NameAt). step.Member n.name) s.tree; place = ap (λ (n : NameAt). n.place) s.tree; rest = s.rest }
first_step_same (RcFirst h) (NameFirst j) at = apart lead (lead_token h) (lead_name j) at refl
first_step_same (NameFirst h) (RcFirst j) at = apart lead (lead_name h) (lead_token j) at refl

next_step_same : {x y : StepTree} {a a' b b' : Tokens} → IsNextStep x a b → IsNextStep y a' b' → At a a' → Same x y b b'
next_step_same (MemberNext h1 h2) (MemberNext j1 j2) at =
    let s1 = word_same h1 j1 at in
    let s2 = name_same h2 j2 s1.rest in
    record { tree = ap (λ (n : NameAt). step.Member n.name) s2.tree; rest = s2.rest }
next_step_same (PlaceNext h1 h2 h3) (PlaceNext j1 j2 j3) at =
    let s1 = word_same h1 j1 at in
    let s2 = number_same h2 j2 s1.rest in
    let s3 = word_same h3 j3 s2.rest in
    record { tree = ap (λ (n : NumberAt). step.Place n.size) s2.tree; rest = s3.rest }
next_step_same (MemberNext h1 h2) (PlaceNext j1 j2 j3) at = apart lead (lead_token h1) (lead_token j1) at refl
next_step_same (PlaceNext h1 h2 h3) (MemberNext j1 j2) at = apart lead (lead_token h1) (lead_token j1) at refl

next_step_begins : {x : StepTree} {a b : Tokens} → IsNextStep x a b → (9 ≤ tier a) × (tier a < 10)
next_step_begins (MemberNext h1 h2) = let e = tier_token h1 in (omega (arith, e), omega (arith, e))
next_step_begins (PlaceNext h1 h2 h3) = let e = tier_token h1 in (omega (arith, e), omega (arith, e))

-- a leaf: its first step, and the others as a chain
pub record LeafParts (l : LeafAt) (a b : Tokens) : Type 0 where
  pub first : StepTree
  pub more : List StepTree
  pub middle : Tokens
  pub steps : l.steps ≡ first ∷ more
  pub begins : IsFirstStep first l.place a middle
  pub goes_on : Chain StepTree IsNextStep more middle b

pub leaf_parts : {l : LeafAt} {a b : Tokens} → IsLeaf l a b → LeafParts l a b
leaf_parts (FirstStep {s = s} {b = b} h) = record { first = s; more = []; middle = b; steps = refl; begins = h; goes_on = Done }
leaf_parts (MoreSteps {s = s} h j) =
    let r = leaf_parts h in
    record { first = r.first; more = r.more ++ s ∷ []; middle = r.middle; steps = ap (λ (l : List StepTree). l ++ s ∷ []) r.steps; begins = r.begins; goes_on = snoc r.goes_on j }

leaf_eq : (x y : List StepTree) (p q : ℕ) → x ≡ y → p ≡ q → (let n : LeafAt = record { steps = x; place = p } in n) ≡ record { steps = y; place = q }
leaf_eq x y p q e f = rw (e, f) refl

pub cons_eq : {A : Type 0} (x y : A) (xs ys : List A) → x ≡ y → xs ≡ ys → x ∷ xs ≡ y ∷ ys
cons_eq x y xs ys e f = rw (e, f) refl

pub leaf_same : {l m : LeafAt} {a a' b b' : Tokens} → IsLeaf l a b → IsLeaf m a' b' → tier b < 9 → tier b' < 9 → At a a' → Same l m b b'
leaf_same {l} {m} h j c c' at =
    let p = leaf_parts h in
    let q = leaf_parts j in
    let s1 = first_step_same p.begins q.begins at in
    let s2 = chain_same 9 10 (omega arith) (λ x y a b d e h j c k at. next_step_same h j at) (λ x a b h. next_step_begins h) p.goes_on q.goes_on c c' s1.rest in
    record { tree = leaf_eq l.steps m.steps l.place m.place (p.steps ∙ (cons_eq p.first q.first p.more q.more s1.step s2.tree ∙ sym q.steps)) s1.place; rest = s2.rest }

first_lead : {s : StepTree} {p : ℕ} {a b : Tokens} → (f : ℕ → ℕ) (k : ℕ) → f 50 ≡ k → f 51 ≡ k → IsFirstStep s p a b → f (lead a) ≡ k
first_lead f k n r (RcFirst h) = ap f (lead_token h) ∙ r
first_lead f k n r (NameFirst h) = ap f (lead_name h) ∙ n

pub leaf_lead : {l : LeafAt} {a b : Tokens} → (f : ℕ → ℕ) (k : ℕ) → f 50 ≡ k → f 51 ≡ k → IsLeaf l a b → f (lead a) ≡ k
leaf_lead f k n r h = let p = leaf_parts h in first_lead f k n r p.begins

pub signed_lead : {n : NumberAt} {a b : Tokens} → (f : ℕ → ℕ) (k : ℕ) → f 53 ≡ k → f 16 ≡ k → IsSigned n a b → f (lead a) ≡ k
signed_lead f k v m (Unsigned h) = ap f (lead_number h) ∙ v
signed_lead f k v m (Negative h j) = ap f (lead_token h) ∙ m
