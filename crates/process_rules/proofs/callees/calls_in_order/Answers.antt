use Rattle.std.proofs.Common.{List, rules, map, subst, IsPermutation}
use Rattle.std.proofs.lemmas.List.Sorted.{IsNonDecreasingBy-from_sort_by_key, IsPermutation-map}
use Rattle.flow_model.specs.declared.trees.ActivityTree.{ActivityTree}
use Rattle.process_rules.specs.Callees.{call_at}
use Rattle.process_rules.specs.declared.callees.Call.{Call}
use Rattle.process_rules.specs.declared.people.Callee.{Callee}
use Rattle.process_rules.proofs.callees.calls_in_order.Goals as goal

pub returns : goal.returns
returns c =
    let sorted = c.sort_by_key.new.self.items in
    record {
      moved = subst (λ (calls : List (ActivityTree × Callee)). IsPermutation calls (map call_at sorted)) c.in_ok-calls.ensures (IsPermutation-map call_at c.in_ok-calls.calls.items sorted c.in_ok-sort_by_key.ensures.permutation);
      rising = IsNonDecreasingBy-from_sort_by_key (λ (call : Call). call.activity.now.place) _ c.in_ok-sort_by_key.ensures.sorted (λ a r q k. search rules);
    }
