-- What a word answers: a text, or a refusal with numbers behind its code.
use Rattle.std.specs.Prelude.{◌≡◌, ℕ, true, false, List, [], ◌∷◌, ◌++◌, codes, ◌⊎◌}
use Rattle.std.specs.List.{flat_map}
use Rattle.std.specs.Fmt.{decimal}
use Rattle.fdl_print.specs.Canonical.{canonical_text}
use Rattle.flow_model.specs.declared.graphs.Library.{Library}
use Rattle.flow_model.specs.declared.trees.Tree.{Tree}
use Rattle.template_check.specs.Compiling.{HasTree}
use Rattle.template_check.specs.Judged.{line_at, IsFaultless, IsRefused}
use Rattle.template_check.specs.declared.faults.RuleFault.{RuleFault}
use Rattle.text_words.specs.declared.check.Answer.{Answer}

-- a space and a number
abbrev pub number_text : ℕ → List ℕ
number_text number = 32 ∷ decimal number

-- the line of a refusal: `no`, its code, and its numbers
abbrev pub refusal_text : List ℕ → List ℕ → List ℕ
refusal_text code numbers = codes "no " ++ code ++ flat_map number_text numbers ++ 10 ∷ []

-- the answer refuses, with this code and these numbers
pub record Refuses (answer : Answer) (code numbers : List ℕ) : Type 0 where
  pub text : answer.text.items ≡ refusal_text code numbers
  pub refused : answer.is_refused ≡ true

-- the answer is this text, and no refusal
pub record Tells (answer : Answer) (said : List ℕ) : Type 0 where
  pub text : answer.text.items ≡ said
  pub told : answer.is_refused ≡ false

-- a text breaks a rule at a line
abbrev pub RefusesRule : Answer → RuleFault → Type 0
RefusesRule answer fault = Refuses answer (codes "RULE") (fault.rule ∷ fault.line ∷ [])

-- the library before any import
abbrev pub no_imports : Library
no_imports = record { templates = []; people = [] }

-- the answer refuses a text for the first rule that it breaks, with the line of its least place
pub record RefusesFirst (text : List ℕ) (answer : Answer) : Type 0 where
  pub rule : ℕ
  pub place : ℕ
  pub broken : IsRefused no_imports text rule place
  pub says : Refuses answer (codes "RULE") (rule ∷ line_at text place ∷ [])

-- it breaks none, and the answer is the canonical text of its tree
pub record TellsTree (text : List ℕ) (answer : Answer) : Type 0 where
  pub faultless : IsFaultless no_imports text
  pub tree : Tree
  pub has : HasTree text tree
  pub tells : Tells answer (canonical_text tree)

-- the word `check` answers to a text with its refusal, or with the canonical text of its tree
abbrev pub AnswersTree : List ℕ → Answer → Type 0
AnswersTree text answer = RefusesFirst text answer ⊎ TellsTree text answer
