use Rattle.std.proofs.Common.{◌≡◌, ◌+◌, ◌++◌, ◌∷◌, [], length, take, drop, arith, sym, ap, ◌∙◌, subst, refl, List, ℕ, None, true, false, length-append}
use Rattle.txn_log.specs.declared.outline.Outline.TheVariants.{Good}
use Rattle.txn_log.specs.Outlines.{outline_of}
use Rattle.txn_log.specs.Stored.{Listed, is_whole, length_at, listed, with_header}
use Rattle.txn_log.proofs.Records.{led_all, behind_is, list_ended, list_broken, list_step, list_short}
use Rattle.txn_log.proofs.judging.outline_with.Goals as goal

pub returns-then-bytes-at-ne1 : goal.returns-then-bytes-at-ne1
returns-then-bytes-at-ne1 c =
    let i = c.gates.invariant in
    ap (λ (n : ℕ). Good (record { header = c.args.header; records = n; end = c.gates.at })) i.counted
    ∙ ap (λ (l : Listed). outline_of (with_header None c.args.header l))
    (sym (list_ended c.args.bytes.now c.gates.at i.payloads _ c.gates-test.true c.if-bytes-at-ne1.true i.listed))

pub returns-then-len-eq0 : goal.returns-then-len-eq0
returns-then-len-eq0 c =
    let i = c.gates.invariant in
    ap (λ (l : Listed). outline_of (with_header None c.args.header l))
    (sym (list_broken c.args.bytes.now c.gates.at i.payloads _ c.gates-test.true c.if-bytes-at-ne1.false
    (subst (λ (l : List ℕ). is_whole l ≡ false) (behind_is (c.gates.at + 1) c.args.bytes.now)
    (c.whole_len-len.ensures.none c.if-len-eq0.true)) i.listed))

pub gates-preserved : goal.gates-preserved
gates-preserved c =
    let i = c.gates.invariant in
    let n = c.whole_len-len.result in
    let bytes = c.args.bytes.now in
    let payload = take c.whole_len-len.result (drop (c.gates.at + 5) c.args.bytes.now) in
    let some = c.whole_len-len.ensures.some (omega arith) in
    let rest = behind_is (c.gates.at + 1) c.args.bytes.now in
    let whole = subst (λ (l : List ℕ). is_whole l ≡ true) rest some.0 in
    let size = subst (λ (l : List ℕ). c.whole_len-len.result ≡ length_at l) rest some.1 in
    let step = list_step c.args.bytes.now c.gates.at c.whole_len-len.result i.payloads (take c.whole_len-len.result (drop (c.gates.at + 5) c.args.bytes.now)) _ c.gates-test.true c.if-bytes-at-ne1.false whole size refl i.listed in
    let place : c.gates.at + 5 + c.whole_len-len.result ≡ c.gates.at + (5 + c.whole_len-len.result) = omega arith in
    let count : length (i.payloads ++ take c.whole_len-len.result (drop (c.gates.at + 5) c.args.bytes.now) ∷ []) ≡ length i.payloads + 1 = simp length-append in
    record {
      payloads = i.payloads ++ take c.whole_len-len.result (drop (c.gates.at + 5) c.args.bytes.now) ∷ [];
      listed = step ∙ ap (λ (k : ℕ). led_all (i.payloads ++ take c.whole_len-len.result (drop (c.gates.at + 5) c.args.bytes.now) ∷ []) (listed 0 k (drop k c.args.bytes.now))) place;
      counted = omega (arith, i.counted, count);
      fewer = omega (arith, i.fewer);
    }

pub returns : goal.returns
returns c =
    let i = c.gates.invariant in
    ap (λ (l : Listed). outline_of (with_header None c.args.header l))
    (sym (list_short c.args.bytes.now c.gates.at i.payloads _ c.gates-test.false i.listed))
