use Rattle.std.proofs.Common.{◌≡◌, ◌<◌, ℕ, Some, true, length, take}
use Rattle.std.specs.Prelude.{slice_get}
use Rattle.std.specs.List.{Contains}
use Rattle.fate_eval.proofs.passes.marked.Given as goal

abbrev pub invariant-loop-number : goal.invariant-loop-number
invariant-loop-number l = record {
  long : length l.marks.items ≡ l.count;
  ready : (i : ℕ) → slice_get l.marks.items i ≡ Some true → Contains (take l.number-index l.ready) i;
  whole : (i : ℕ) → i < l.count → Contains (take l.number-index l.ready) i → slice_get l.marks.items i ≡ Some true;
}
