-- What reads a canonical text reads the same tree: its tokens have one tree.
use Rattle.std.proofs.Common.{◌≡◌, ℕ, List, length, sym, subst}
use Rattle.flow_model.specs.declared.trees.Tree.{Tree}
use Rattle.fdl_lexer.specs.declared.kinds.Token.{Token as Placed}
use Rattle.fdl_lexer.specs.Tokens.{AreTokens}
use Rattle.fdl_lexer.proofs.SameScan.{one_scan, tokens_done}
use Rattle.fdl_parser.specs.Tokens.{spell}
use Rattle.fdl_parser.specs.Items.{IsTree}
use Rattle.fdl_parser.proofs.SameItems.{trees_are_one}
use Rattle.fdl_print.specs.Same.{SameButPlaces}
use Rattle.fdl_print.specs.Canonical.{canonical_text}
use Rattle.fdl_print.proofs.ShowsItems.{reads_as}

-- each reading of the canonical text is the same tree
pub reads_only : (source : List ℕ) (tokens : List Placed) (tree : Tree) → AreTokens source tokens → IsTree tree (spell source tokens)
    → (others : List Placed) (again : Tree) → AreTokens (canonical_text tree) others → IsTree again (spell (canonical_text tree) others) → SameButPlaces tree again
reads_only source tokens tree are parsed others again lexed read =
    let r = reads_as source tokens tree are parsed in
    let text = canonical_text tree in
    let one : r.tokens ≡ others = (one_scan text 0 r.tokens others r.lexed.end lexed.end (length text) (length text) r.lexed.scanned lexed.scanned (tokens_done text r.tokens r.lexed) (tokens_done text others lexed)).0 in
    let second : IsTree again (spell text r.tokens) = subst (λ (ts : List Placed). IsTree again (spell text ts)) (sym one) read in
    subst (λ (t : Tree). SameButPlaces tree t) (trees_are_one text r.tokens r.again again r.lexed r.parsed second) r.same
