use Rattle.std.proofs.Common.{ℕ, List, rules, slice_index, subst, IsPermutation}
use Rattle.std.proofs.lemmas.List.Sorted.{IsNonDecreasingBy-from_sort_by_key}
use Rattle.connector_rules.proofs.walks.in_order.Goals as goal

pub returns : goal.returns
returns c =
    record {
      grouped = c.requires;
      moved = subst (λ (edges : List (ℕ × ℕ)). IsPermutation edges c.sort_unstable_by_key.new.self.items) c.in_ok-pairs.ensures c.sort_unstable_by_key.ensures.permutation;
      rising = IsNonDecreasingBy-from_sort_by_key (λ (pair : ℕ × ℕ). slice_index c.args.groups.now pair.1) _ c.sort_unstable_by_key.ensures.sorted (λ a r q k. search rules);
    }
