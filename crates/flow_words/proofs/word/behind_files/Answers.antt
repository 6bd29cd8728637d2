use Rattle.std.proofs.Common.{◌≡◌, ◌≢◌, string_bytes, rules}
use Rattle.flow_words.proofs.Saying.{files_there, files_same}
use Rattle.flow_words.proofs.word.behind_files.Goals as goal

pub returns-then-eq-clause-none : goal.returns-then-eq-clause-none
returns-then-eq-clause-none c so =
    let same : string_bytes c.a-item.result ≡ string_bytes c.b-item.result = search rules in
    files_same c.args.rest.now c.a-item.result c.b-item.result c.a-item.is c.b-item.is same so

pub returns-clause-some : goal.returns-clause-some
returns-clause-some c =
    let apart : string_bytes c.a-item.result ≢ string_bytes c.b-item.result = search rules in
    files_there c.args.rest.now c.a-item.result c.b-item.result c.after_files.result.now c.in-len2-up.len_at_least c.a-item.is c.b-item.is apart c.after_files.ensures
