use Rattle.std.proofs.Common.{◌≡◌, List, ◌++◌, length, take, sym, ap, ◌∙◌}
use Rattle.flow_model.proofs.Rows.{front}
use Rattle.flow_model.proofs.names.Name.new.Goals as goal

written : {X : Type 0} (xs ys rest : List X) → xs ≡ ys → take (length ys) (xs ++ rest) ≡ ys
written xs ys rest same = ap (λ (zs : List _). take (length ys) (zs ++ rest)) same ∙ front ys rest

pub returns-clause-name : goal.returns-clause-name
returns-clause-name c = (written c.copy_from_slice.new.self c.args.bytes.now _ c.copy_from_slice.ensures.after, sym c.is_name.ensures ∙ c.if-not-is_name.false)
