-- That lines say what they should: a command whose words are in range, and one on a root 0, whose words aren't.
use Rattle.std.proofs.Common.{ℕ, [], ◌∷◌, Some, None, refl, arith}
use Rattle.std.proofs.lemmas.List.Sums.{AllPass-from_list_all}
use Rattle.std.specs.Prelude.{codes}
use Rattle.command_lang.specs.Grammar as grammar
use Rattle.command_lang.specs.Reading.{SaysCommand}
use Rattle.fdl_lexer.specs.Bytes.{is_allowed}
use Rattle.fdl_lexer.specs.Gaps.{Nothing, Blank}
use Rattle.fdl_lexer.specs.Tokens.{IsNext, AreTokens}
use Rattle.fdl_lexer.specs.declared.kinds.Token.{Token}
use Rattle.fdl_lexer.specs.declared.kinds.What.TheVariants.{Word, Number}
use Rattle.flow_model.specs.declared.commands.Command.TheVariants.{Suspend}
use Rattle.flow_table.specs.declared.keyword.Keyword.TheVariants as keyword
use Rattle.reopening_laws.specs.Ranges.{IsWorded}
use Rattle.range_laws.proofs.Worded.{read_worded}

-- the word SUSPEND
abbrev word : Token
word = record { what = Word keyword.Suspend; from = 0; to = 7 }

-- a number of one digit behind it
abbrev digit : ℕ → Token
digit number = record { what = Number number; from = 8; to = 9 }

-- ---- a root 7

word_next : IsNext (codes "SUSPEND 7") 0 word
word_next =
    record { behind = omega arith; some = omega arith; within = omega arith; gap = Nothing; spelled = (refl, refl, refl) }

seven_next : IsNext (codes "SUSPEND 7") 7 (digit 7)
seven_next = record {
  behind = omega arith;
  some = omega arith;
  within = omega arith;
  gap = Blank 32 [] refl Nothing;
  spelled = (refl, refl, refl, (λ e. refl), refl);
}

seven_tokens : AreTokens (codes "SUSPEND 7") (word ∷ digit 7 ∷ [])
seven_tokens = record {
  allowed = AllPass-from_list_all is_allowed (codes "SUSPEND 7") refl;
  end = 9;
  scanned = (word_next, (seven_next, refl));
  within = omega arith;
  rest = Nothing;
}

seven_said : SaysCommand (codes "SUSPEND 7") (Some (Suspend 7))
seven_said = (
  word ∷ digit 7 ∷ [],
  (refl, seven_tokens),
  grammar.WordAndRest {p = 0} (record { bytes = codes "SUSPEND"; first = refl })
      (grammar.Suspend {n = record { minus = None; size = 7; place = 8 }}
      (record { unsigned = refl; first = record { bytes = codes "7"; first = refl } })),
)

seven_worded : IsWorded (Suspend 7)
seven_worded = read_worded (codes "SUSPEND 7") (Suspend 7) (omega arith) seven_said (omega arith)

-- ---- a root 0

zero_word : IsNext (codes "SUSPEND 0") 0 word
zero_word =
    record { behind = omega arith; some = omega arith; within = omega arith; gap = Nothing; spelled = (refl, refl, refl) }

zero_next : IsNext (codes "SUSPEND 0") 7 (digit 0)
zero_next = record {
  behind = omega arith;
  some = omega arith;
  within = omega arith;
  gap = Blank 32 [] refl Nothing;
  spelled = (refl, refl, refl, (λ e. refl), refl);
}

zero_tokens : AreTokens (codes "SUSPEND 0") (word ∷ digit 0 ∷ [])
zero_tokens = record {
  allowed = AllPass-from_list_all is_allowed (codes "SUSPEND 0") refl;
  end = 9;
  scanned = (zero_word, (zero_next, refl));
  within = omega arith;
  rest = Nothing;
}

-- a line says it
zero_said : SaysCommand (codes "SUSPEND 0") (Some (Suspend 0))
zero_said = (
  word ∷ digit 0 ∷ [],
  (refl, zero_tokens),
  grammar.WordAndRest {p = 0} (record { bytes = codes "SUSPEND"; first = refl })
      (grammar.Suspend {n = record { minus = None; size = 0; place = 8 }}
      (record { unsigned = refl; first = record { bytes = codes "0"; first = refl } })),
)

-- and it isn't in range: so the law asks for a root that is counted from 1
zero_unworded : IsWorded (Suspend 0) → ⊥
zero_unworded fine = let least = fine.0 in absurd (omega (arith, least))
