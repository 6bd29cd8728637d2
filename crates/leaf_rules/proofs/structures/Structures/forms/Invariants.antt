use Rattle.std.proofs.Common.{◌≡◌, map, take, Some}
use Rattle.leaf_rules.specs.Classes.{member_form}
use Rattle.leaf_rules.specs.Structures.{behind}
use Rattle.leaf_rules.proofs.structures.Structures.forms.Given as goal

abbrev pub invariant-loop-member : goal.invariant-loop-member
invariant-loop-member l =
    map (λ form. Some form) l.forms ≡ map (member_form (behind l.self.definitions.items) l.found) (behind (take l.member-index l.members))
