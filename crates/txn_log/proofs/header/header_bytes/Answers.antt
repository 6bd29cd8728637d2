use Rattle.std.proofs.Common.{◌≡◌, rules, refl, codes}
use Rattle.std.specs.Int.{w64, to_be_bytes}
use Rattle.txn_log.specs.Stored.{header_text}
use Rattle.txn_log.proofs.header.header_bytes.Goals as goal

pub returns : goal.returns
unfolding header_text
returns c =
    let h = c.args.header.now in
    let magic : c.copy_from_slice.new.self ≡ codes "FLOWSTR2" = search rules in
    let generation : c.copy_from_slice-2.new.self ≡ to_be_bytes w64 c.args.header.now.generation = search rules in
    let limit : c.copy_from_slice-3.new.self ≡ to_be_bytes w64 c.args.header.now.limit = search rules in
    let transactions : c.copy_from_slice-4.new.self ≡ to_be_bytes w64 c.args.header.now.transactions = search rules in
    let roots : c.copy_from_slice-5.new.self ≡ to_be_bytes w64 c.args.header.now.roots = search rules in
    rw (magic, generation, limit, transactions, roots) refl
