use Rattle.std.proofs.Common.{◌≡◌, ◌++◌, ◌∷◌, length, take, min}
use Rattle.std.specs.List.{flat_map}
use Rattle.flow_txn.specs.Records.{u64_bytes, part_bytes}
use Rattle.flow_txn.proofs.writing.put_path.Given as goal

abbrev pub invariant-loop-part : goal.invariant-loop-part
invariant-loop-part l = l.out.items ≡ l.fn.out.items ++ (u64_bytes l.path.root ++ (min (length l.path.parts) 255 ∷ flat_map part_bytes (take l.part-index l.path.parts)))
