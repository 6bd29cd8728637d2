-- Rows of tokens that are read to their end.
use Rattle.std.proofs.Common.{◌≡◌, ℕ, ◌==◌, Bool, true, List, [], length, sym, ◌∙◌, subst, ◌≤◌, ◌-◌, ◌∷◌, take, drop, min, arith}
use Rattle.std.proofs.Math.Seq.{take-length}
use Rattle.std.proofs.lemmas.Bool.{eqb-true}
use Rattle.std.proofs.lemmas.List.{nil_from_length}
use Rattle.flow_model.specs.declared.trees.ItemTree.{ItemTree}
use Rattle.fdl_lexer.specs.declared.kinds.Token.{Token}
use Rattle.fdl_parser.specs.Tokens.{Tokens, Reading, reading, spell, IsRest, Less}
use Rattle.fdl_parser.specs.Faults.{Names, NamesOne}
use Rattle.fdl_parser.specs.declared.cursor.SyntaxFault.{SyntaxFault}
use Rattle.fdl_parser.specs.declared.cursor.SyntaxFault.TheVariants.{At, NoMemory}
use Rattle.fdl_parser.specs.Items.{AreItems}

-- where no token is left, the items are those of all tokens
pub read_whole : (items : List ItemTree) (a b : Tokens) → AreItems items a b → (ended : Bool) → ended ≡ (length b == 0) → ended ≡ true → AreItems items a []
read_whole items a b read ended is e = subst (AreItems items a) (nil_from_length b (eqb-true (length b) 0 (sym is ∙ e))) read

-- what names the next of some tokens that are left names one of all
pub names_one : (all r : Reading) (e : SyntaxFault) → IsRest all r.left r.end → Names r e → NamesOne all e
names_one all r NoMemory h n = tt
names_one all r (At place) h n = (r.left, r.end, h, n)

-- behind the first token is less
pub rest_less : (all r : Reading) (text : List ℕ) (ts : List Token) → reading text ts ≡ r → 1 ≤ length ts → IsRest all r.left r.end → IsRest all (spell text (take (length ts - 1) (drop 1 ts))) (min (length text) 4294967295)
rest_less all r text [] e le h = absurd (omega (arith, le))
rest_less all r text (t ∷ ts) e le h =
    let k : IsRest all (spell text (t ∷ ts)) (min (length text) 4294967295) = subst (λ (v : Reading). IsRest all v.left v.end) (sym e) h in
    let z : length (t ∷ ts) - 1 ≡ length ts = omega arith in
    rw (z, take-length ts) (Less k)
