use Rattle.std.proofs.Common.{Bool, true, false, not, ◌≡◌, refl}
use Rattle.std.specs.Prelude.{IsTrue}
use Rattle.leaf_rules.proofs.Rowing.{member_bare}
use Rattle.leaf_rules.proofs.structures.Structures.is_bare.Goals as goal

pub returns-else-element_count-eq0 : goal.returns-else-element_count-eq0
returns-else-element_count-eq0 c = λ none table inner made. member_bare inner c.args.member.now (c.has_leaves.ensures (off c.has_leaves.result none) table inner made)
  where
    off : (b : Bool) → IsTrue (not b) → b ≡ false
    off true e = cc
    off false e = refl
