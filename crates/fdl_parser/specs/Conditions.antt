-- The grammar of conditions, with the trees: what stands between two rows of tokens.
use Rattle.std.specs.Prelude.{ℕ, ◌<◌, ◌-◌, List, [], ◌∷◌, ◌++◌, true, false}
use Rattle.flow_table.specs.declared.keyword.Keyword.TheVariants as word
use Rattle.flow_model.specs.declared.graphs.Operator.{Operator}
use Rattle.flow_model.specs.declared.graphs.Operator.TheVariants.{Eq, Ne, Lt, Le, Gt, Ge}
use Rattle.flow_model.specs.declared.trees.NumberAt.{NumberAt}
use Rattle.flow_model.specs.declared.trees.LeafAt.{LeafAt}
use Rattle.flow_model.specs.declared.trees.OperandTree.{OperandTree}
use Rattle.flow_model.specs.declared.trees.OperandTree.TheVariants as operand
use Rattle.flow_model.specs.declared.trees.TermTree.{TermTree}
use Rattle.flow_model.specs.declared.trees.Side.{Side}
use Rattle.flow_model.specs.declared.trees.Side.TheVariants as side
use Rattle.flow_model.specs.declared.trees.Cond.{Cond}
use Rattle.flow_model.specs.declared.trees.Cond.TheVariants as cond
use Rattle.flow_model.specs.declared.trees.CondAt.{CondAt}
use Rattle.fdl_lexer.specs.declared.kinds.Mark.{Mark}
use Rattle.fdl_lexer.specs.declared.kinds.Mark.TheVariants as mark
use Rattle.fdl_parser.specs.Tokens.{Tokens, IsWord, IsMark, IsQuote, IsSigned, IsLeaf}

-- how many levels of NOT and parentheses a condition may have
abbrev pub condition_levels : ℕ
condition_levels = 64

-- the mark of a comparison
abbrev pub mark_of : Operator → Mark
mark_of Eq = mark.Equal
mark_of Ne = mark.NotEqual
mark_of Lt = mark.Less
mark_of Le = mark.AtMost
mark_of Gt = mark.Greater
mark_of Ge = mark.AtLeast

-- operand = leaf | [-] number
pub data IsOperand : OperandTree → Tokens → Tokens → Type 0 where
  LeafOperand : {l : LeafAt} {a b : Tokens} → IsLeaf l a b → IsOperand (operand.Leaf l) a b
  NumberOperand : {n : NumberAt} {a b : Tokens} → IsSigned n a b → IsOperand (operand.Number n) a b

-- an operand behind another one: + operand | - operand
pub data IsNextTerm : TermTree → Tokens → Tokens → Type 0 where
  PlusTerm : {o : OperandTree} {p : ℕ} {a b c : Tokens} → IsMark mark.Plus p a b → IsOperand o b c
      → IsNextTerm (record { minus = false; operand = o }) a c
  MinusTerm : {o : OperandTree} {p : ℕ} {a b c : Tokens} → IsMark mark.Minus p a b → IsOperand o b c
      → IsNextTerm (record { minus = true; operand = o }) a c

-- a sum: operand ((+ | -) operand)*
pub data IsSum : List TermTree → Tokens → Tokens → Type 0 where
  FirstTerm : {o : OperandTree} {a b : Tokens} → IsOperand o a b
      → IsSum (record { minus = false; operand = o } ∷ []) a b
  MoreTerms : {terms : List TermTree} {t : TermTree} {a b c : Tokens} → IsSum terms a b → IsNextTerm t b c
      → IsSum (terms ++ t ∷ []) a c

-- side = Text | sum
pub data IsSide : Side → Tokens → Tokens → Type 0 where
  TextSide : {value : List ℕ} {p : ℕ} {a b : Tokens} → IsQuote value p a b → IsSide (side.Text value p) a b
  SumSide : {terms : List TermTree} {a b : Tokens} → IsSum terms a b → IsSide (side.Sum terms) a b

-- a comparison: side op side
pub data IsComparison : Cond → Tokens → Tokens → Type 0 where
  Compared : {l r : Side} {o : Operator} {p : ℕ} {a b c d : Tokens} → IsSide l a b → IsMark (mark_of o) p b c
      → IsSide r c d → IsComparison (cond.Compare l o r) a d

-- the number says how many levels of NOT and parentheses are left
mutual
  -- neg = comparison | NOT neg | ( cond )
  pub data IsNegation : ℕ → Cond → Tokens → Tokens → Type 0 where
    Comparison : {n : ℕ} {x : Cond} {a b : Tokens} → IsComparison x a b → IsNegation n x a b
    Denied : {n p : ℕ} {x : Cond} {a b c : Tokens} → 0 < n → IsWord word.Not p a b → IsNegation (n - 1) x b c
        → IsNegation n (cond.Not x) a c
    Bracketed : {n p q : ℕ} {x : Cond} {a b c d : Tokens} → 0 < n → IsMark mark.Open p a b → IsDisjunction (n - 1) x b c
        → IsMark mark.Close q c d → IsNegation n x a d

  -- two or more: neg AND neg (AND neg)*
  pub data AreConjoined : ℕ → List Cond → Tokens → Tokens → Type 0 where
    TwoNegations : {n p : ℕ} {x y : Cond} {a b c d : Tokens} → IsNegation n x a b → IsWord word.And p b c
        → IsNegation n y c d → AreConjoined n (x ∷ y ∷ []) a d
    MoreNegations : {n p : ℕ} {xs : List Cond} {x : Cond} {a b c d : Tokens} → AreConjoined n xs a b
        → IsWord word.And p b c → IsNegation n x c d → AreConjoined n (xs ++ x ∷ []) a d

  -- conj = neg (AND neg)*
  pub data IsConjunction : ℕ → Cond → Tokens → Tokens → Type 0 where
    OneNegation : {n : ℕ} {x : Cond} {a b : Tokens} → IsNegation n x a b → IsConjunction n x a b
    Negations : {n : ℕ} {xs : List Cond} {a b : Tokens} → AreConjoined n xs a b → IsConjunction n (cond.And xs) a b

  -- two or more: conj OR conj (OR conj)*
  pub data AreDisjoined : ℕ → List Cond → Tokens → Tokens → Type 0 where
    TwoConjunctions : {n p : ℕ} {x y : Cond} {a b c d : Tokens} → IsConjunction n x a b → IsWord word.Or p b c
        → IsConjunction n y c d → AreDisjoined n (x ∷ y ∷ []) a d
    MoreConjunctions : {n p : ℕ} {xs : List Cond} {x : Cond} {a b c d : Tokens} → AreDisjoined n xs a b
        → IsWord word.Or p b c → IsConjunction n x c d → AreDisjoined n (xs ++ x ∷ []) a d

  -- cond = conj (OR conj)*
  pub data IsDisjunction : ℕ → Cond → Tokens → Tokens → Type 0 where
    OneConjunction : {n : ℕ} {x : Cond} {a b : Tokens} → IsConjunction n x a b → IsDisjunction n x a b
    Conjunctions : {n : ℕ} {xs : List Cond} {a b : Tokens} → AreDisjoined n xs a b → IsDisjunction n (cond.Or xs) a b

-- ( cond ), behind WHEN
pub data IsCondition : CondAt → Tokens → Tokens → Type 0 where
  Whole : {x : Cond} {p q : ℕ} {a b c d : Tokens} → IsMark mark.Open p a b → IsDisjunction condition_levels x b c
      → IsMark mark.Close q c d → IsCondition (record { place = p; cond = x }) a d
