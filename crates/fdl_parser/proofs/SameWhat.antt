-- A test of two tokens tells whether they are the same.
use Rattle.std.proofs.Common.{◌≡◌, ℕ, true, false, eqb-true, refl, ap, sym, ◌∙◌}
use Rattle.std.proofs.lemmas.Bool.{eq-eqb}
use denote.Enum.Bare.{same_true, true_same}
use Rattle.flow_table.specs.declared.keyword.Keyword.{Keyword}
use Rattle.flow_table.specs.contracts.keyword.Keyword as keyword
use Rattle.fdl_lexer.specs.declared.kinds.Mark.{Mark as Sign}
use Rattle.fdl_lexer.specs.contracts.kinds.Mark as sign
use Rattle.fdl_lexer.specs.declared.kinds.What.{What}
use Rattle.fdl_lexer.specs.declared.kinds.What.TheVariants.{Word, Name, Rc, Item, Number, Text, Mark}
use Rattle.fdl_lexer.specs.contracts.kinds.WhatPartialEq.TheImpl.{ghosts}

pub what_same : (a b : What) → ghosts.eq a b ≡ true → a ≡ b
what_same (Word k) (Word l) e = ap (λ (w : Keyword). Word w) (same_true keyword.the_type tt k l e)
what_same (Mark k) (Mark l) e = ap (λ (m : Sign). Mark m) (same_true sign.the_type tt k l e)
what_same (Number k) (Number l) e = ap (λ (n : ℕ). Number n) (eqb-true k l e)
what_same Name Name e = refl
what_same Rc Rc e = refl
what_same Item Item e = refl
what_same Text Text e = refl
what_same a b e = cc

same_what : (a : What) → ghosts.eq a a ≡ true
same_what (Word k) = true_same keyword.the_type k k refl
same_what (Mark k) = true_same sign.the_type k k refl
same_what (Number k) = eq-eqb k k refl
same_what Name = refl
same_what Rc = refl
same_what Item = refl
same_what Text = refl

pub what_apart : (a b : What) → ghosts.eq a b ≡ false → a ≡ b → ⊥
what_apart a b e is =
    let same : true ≡ false = sym (same_what a) ∙ ap (λ (w : What). ghosts.eq a w) is ∙ e in
    cc
