use Rattle.std.proofs.Common.{◌≡◌, ◌∷◌, [], codes, decimal, string_bytes, refl, sym, ap₂, ◌∙◌, inl, inr, arith, rules}
use Rattle.flow_words.proofs.Listed.{two_words, four_words}
use Rattle.flow_words.proofs.numbers.settings_of.Goals as goal

pub returns-in_ok-limit-in-len2-clause-some : goal.returns-in_ok-limit-in-len2-clause-some
returns-in_ok-limit-in-len2-clause-some c =
    let names = c.in_ok-limit-in-len2.ensures.some in
    let first : string_bytes c.first-item.result ≡ codes "LIMIT" = search rules in
    let second : string_bytes c.word-item.result ≡ decimal c.in_ok-limit-in-len2.field-0 = sym c.as_str-in-len2.ensures.value ∙ names.spelled in
    record {
      queues_in = (omega arith, omega arith);
      limit_in = (names.low, names.high);
      named = inr (inl (two_words c.args.words.now c.first-item.result c.word-item.result c.first-item.is c.word-item.is c.in-len2.len_at_least c.in-len2.len_below ∙ ap₂ (λ v w. v ∷ w ∷ []) first second, refl));
    }

pub returns-in_ok-queues-in-len2-2-clause-some : goal.returns-in_ok-queues-in-len2-2-clause-some
returns-in_ok-queues-in-len2-2-clause-some c =
    let names = c.in_ok-queues-in-len2-2.ensures.some in
    let a = c.first-item-then-words-lt3 in
    let b = c.word-item-then-words-lt3 in
    let first : string_bytes a.result ≡ codes "QUEUES" = search rules in
    let second : string_bytes b.result ≡ decimal c.in_ok-queues-in-len2-2.field-0 = sym c.as_str-in-len2-2.ensures.value ∙ names.spelled in
    record {
      queues_in = (names.low, names.high);
      limit_in = (omega arith, omega arith);
      named = inr (inr (inl (two_words c.args.words.now a.result b.result a.is b.is (omega arith) (omega arith) ∙ ap₂ (λ v w. v ∷ w ∷ []) first second, refl)));
    }

pub returns-in_ok-limit-in-len4-clause-some : goal.returns-in_ok-limit-in-len4-clause-some
returns-in_ok-limit-in-len4-clause-some c =
    let queues = c.in_ok-queues-in-len4.ensures.some in
    let limit = c.in_ok-limit-in-len4.ensures.some in
    let x = c.first-item-then-words-lt5.result in
    let y = c.word-item-then-words-lt5.result in
    let first : string_bytes x ≡ codes "LIMIT" = search rules in
    let second : string_bytes y ≡ decimal c.in_ok-limit-in-len4.field-0 = sym c.as_str-in-len4-2.ensures.value ∙ limit.spelled in
    let third : string_bytes c.second-item.result ≡ codes "QUEUES" = search rules in
    let fourth : string_bytes c.last-item.result ≡ decimal c.in_ok-queues-in-len4.field-0 = sym c.as_str-in-len4.ensures.value ∙ queues.spelled in
    record {
      queues_in = (queues.low, queues.high);
      limit_in = (limit.low, limit.high);
      named = inr (inr (inr (four_words c.args.words.now x y c.second-item.result c.last-item.result c.first-item-then-words-lt5.is c.word-item-then-words-lt5.is c.second-item.is c.last-item.is c.in-len4.len_at_least c.in-len4.len_below
          ∙ ap₂ (λ v w. v ∷ w ∷ string_bytes c.second-item.result ∷ string_bytes c.last-item.result ∷ []) first second ∙ ap₂ (λ v w. codes "LIMIT" ∷ decimal c.in_ok-limit-in-len4.field-0 ∷ v ∷ w ∷ []) third fourth)));
    }
