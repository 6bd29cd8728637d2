-- The tokens of a line say one command at most, and one completion.
use Rattle.std.proofs.Common.{◌≡◌, ℕ, ◌<◌, ◌+◌, ◌==◌, false, List, [], ◌∷◌, ◌++◌, length, Option, Some, None, refl, ap, sym, ◌∙◌, subst, arith}
use Rattle.std.specs.Prelude.{if◌then◌else◌}
use Rattle.flow_table.specs.declared.keyword.Keyword.{Keyword}
use Rattle.flow_table.specs.declared.keyword.Keyword.TheVariants as word
use Rattle.fdl_lexer.specs.declared.kinds.What.TheVariants as what
use Rattle.flow_model.specs.declared.commands.Command.{Command}
use Rattle.flow_model.specs.declared.commands.Command.TheVariants as command
use Rattle.flow_model.specs.declared.commands.Completion.{Completion}
use Rattle.flow_model.specs.declared.commands.Outcome.{Outcome}
use Rattle.flow_model.specs.declared.commands.Query.TheVariants as query
use Rattle.flow_model.specs.declared.commands.RawSetting.{RawSetting}
use Rattle.flow_model.specs.declared.commands.RawValue.{RawValue}
use Rattle.flow_model.specs.declared.commands.RawValue.TheVariants as raw
use Rattle.flow_model.specs.declared.commands.Target.{Target}
use Rattle.flow_model.specs.declared.commands.Target.TheVariants as target
use Rattle.flow_model.specs.declared.instances.Who.{Who}
use Rattle.flow_model.specs.declared.instances.Who.TheVariants as who
use Rattle.flow_model.specs.declared.names.Name.{Name}
use Rattle.flow_model.specs.declared.trees.LeafAt.{LeafAt}
use Rattle.flow_model.specs.declared.trees.NameAt.{NameAt}
use Rattle.flow_model.specs.declared.trees.NumberAt.{NumberAt}
use Rattle.fdl_lexer.specs.declared.kinds.Mark.TheVariants as mark
use Rattle.fdl_parser.specs.Tokens.{Spelled, Tokens, first_kind, IsWord, IsItemToken}
use Rattle.fdl_parser.specs.Lexed.{AreQuoted}
use Rattle.fdl_parser.proofs.Numbers.{word_number}
use Rattle.fdl_parser.proofs.Same.{At, Same, Chain, Done, Behind, tier, lead, tokens_same, word_same, name_same, quote_same, number_same, signed_same, leaf_same, lead_token, lead_name, lead_quote, signed_lead, calm_token, apart, snoc, chain_same, behind_same, behind_begins, cons_eq}
use Rattle.fdl_parser.specs.Tokens.{spell}
use Rattle.fdl_parser.proofs.Quoted.{tokens_quoted}
use Rattle.fdl_lexer.specs.Tokens.{AreTokens}
use Rattle.fdl_lexer.specs.declared.kinds.Token.{Token}
use Rattle.fdl_lexer.proofs.SameScan.{one_scan, tokens_done}
use Rattle.command_lang.specs.Reading.{AreLineTokens, SaysCommand, SaysCompletion, IsOnlyCommand, IsOnlyCompletion}
use Rattle.command_lang.specs.Grammar.{IsNamed, WordAndName, IsValue, NumberValue, TextValue, IsSetting, LeafAndValue, AreSettings, FirstSetting, MoreSettings, IsWith, NoSettings, Settings, IsReturnCode, NoCode, Code, IsOutcome, CodeAndSettings, IsKey, NoKey, Key, IsWho, ByPerson, ByTake, IsBehind, Import, Start, Turn, Drain, Claim, Release, Transfer, Take, Done as DoneItem, Force, Restart, Suspend, Resume, Terminate, Delete, Clock, Checkpoint, Show, Output, Input, Worklist, Queue, Audit, Templates, IsCommand, WordAndRest, IsTarget, ItemTarget, ActivityTarget, IsCompletion, DoneTarget}

turned : {a b : Tokens} → At a b → At b a
turned at = record { same = sym at.same; quoted = subst AreQuoted at.same at.quoted }

named_same : {w : Keyword} {n m : Name} {a a' b b' : Tokens} → IsNamed w n a b → IsNamed w m a' b' → At a a' → Same n m b b'
named_same (WordAndName h1 h2) (WordAndName j1 j2) at =
    let s1 = word_same h1 j1 at in
    let s2 = name_same h2 j2 s1.rest in
    record { tree = ap (λ (x : NameAt). x.name) s2.tree; rest = s2.rest }

named_lead : {w : Keyword} {n : Name} {a b : Tokens} → IsNamed w n a b → lead a ≡ 100 + word_number w
named_lead (WordAndName h1 h2) = lead_token h1

item_same : {x y : List ℕ} {a a' b b' : Tokens} → IsItemToken x a b → IsItemToken y a' b' → At a a' → Same x y b b'
item_same h j at = let s = tokens_same h.first j.first at in record { tree = ap (λ (t : Spelled). t.bytes) s.token; rest = s.rest }

is_text : ℕ → ℕ
is_text n = if n == 54 then 1 else 0

text_eq : (v w : List ℕ) (p q : ℕ) → v ≡ w → p ≡ q → raw.Text v p ≡ raw.Text w q
text_eq v w p q e f = rw (e, f) refl

value_same : {x y : RawValue} {a a' b b' : Tokens} → IsValue x a b → IsValue y a' b' → At a a' → Same x y b b'
unfolding is_text
value_same (NumberValue h) (NumberValue j) at = let s = signed_same h j at in record { tree = ap (λ (n : NumberAt). raw.Number n) s.tree; rest = s.rest }
value_same (TextValue h) (TextValue j) at = let s = quote_same h j at in record { tree = text_eq _ _ _ _ s.value s.place; rest = s.rest }
value_same (NumberValue h) (TextValue j) at = apart (λ ts. is_text (lead ts)) (signed_lead is_text 0 refl refl h) (ap is_text (lead_quote j)) at refl
value_same (TextValue h) (NumberValue j) at = apart (λ ts. is_text (lead ts)) (ap is_text (lead_quote h)) (signed_lead is_text 0 refl refl j) at refl

setting_eq : (l m : LeafAt) (v w : RawValue) → l ≡ m → v ≡ w → (let s : RawSetting = record { leaf = l; value = v } in s) ≡ record { leaf = m; value = w }
setting_eq l m v w e f = rw (e, f) refl

setting_same : {x y : RawSetting} {a a' b b' : Tokens} → IsSetting x a b → IsSetting y a' b' → At a a' → Same x y b b'
setting_same (LeafAndValue h1 h2 h3) (LeafAndValue j1 j2 j3) at =
    let s1 = leaf_same h1 j1 (calm_token h2 (omega arith)) (calm_token j2 (omega arith)) at in
    let s2 = word_same h2 j2 s1.rest in
    let s3 = value_same h3 j3 s2.rest in
    record { tree = setting_eq _ _ _ _ s1.tree s3.tree; rest = s3.rest }

-- settings: the first, and the others as a chain
record SettingParts (ss : List RawSetting) (a b : Tokens) : Type 0 where
  pub first : RawSetting
  pub more : List RawSetting
  pub place : ℕ
  pub start : Tokens
  pub middle : Tokens
  pub are : ss ≡ first ∷ more
  pub opens : IsWord word.With place a start
  pub begins : IsSetting first start middle
  pub goes_on : Chain RawSetting (Behind RawSetting (what.Mark mark.Comma) IsSetting) more middle b

setting_parts : {ss : List RawSetting} {a b : Tokens} → AreSettings ss a b → SettingParts ss a b
setting_parts (FirstSetting {s = s} {p = p} {b = b} {c = c} h j) = record { first = s; more = []; place = p; start = b; middle = c; are = refl; opens = h; begins = j; goes_on = Done }
setting_parts (MoreSettings {s = s} {p = p} {c = c} h k j) =
    let r = setting_parts h in
    record { first = r.first; more = r.more ++ s ∷ []; place = r.place; start = r.start; middle = r.middle; are = ap (λ (l : List RawSetting). l ++ s ∷ []) r.are; opens = r.opens; begins = r.begins; goes_on = snoc r.goes_on (record { place = p; middle = c; token = k; item = j }) }

settings_lead : {ss : List RawSetting} {a b : Tokens} → AreSettings ss a b → lead a ≡ 142
settings_lead h = lead_token (setting_parts h).opens

settings_same : {x y : List RawSetting} {a a' b b' : Tokens} → AreSettings x a b → AreSettings y a' b' → tier b < 5 → tier b' < 5 → At a a' → Same x y b b'
settings_same h j c c' at =
    let p = setting_parts h in
    let q = setting_parts j in
    let starts = behind_begins RawSetting IsSetting (what.Mark mark.Comma) 5 9 (omega arith) (omega arith) in
    let s1 = word_same p.opens q.opens at in
    let s2 = setting_same p.begins q.begins s1.rest in
    let s3 = chain_same 5 9 (omega arith) (behind_same RawSetting IsSetting (what.Mark mark.Comma) 9 (λ x y a b d e h j c k at. setting_same h j at)) starts p.goes_on q.goes_on c c' s2.rest in
    record { tree = p.are ∙ (cons_eq p.first q.first p.more q.more s2.tree s3.tree ∙ sym q.are); rest = s3.rest }

calm_end : (b : Tokens) → b ≡ [] → tier b < 5
calm_end b e = rw e (omega arith)

with_same : {x y : List RawSetting} {a a' b b' : Tokens} → IsWith x a b → IsWith y a' b' → b ≡ [] → b' ≡ [] → At a a' → x ≡ y
with_same NoSettings NoSettings e f at = refl
with_same (Settings h) (Settings j) e f at = (settings_same h j (calm_end _ e) (calm_end _ f) at).tree
with_same NoSettings (Settings j) e f at = apart lead (ap lead e) (settings_lead j) at refl
with_same (Settings h) NoSettings e f at = apart lead (settings_lead h) (ap lead f) at refl

-- no RC and no KEY stand where the settings begin
with_lead : {ss : List RawSetting} {a b : Tokens} → IsWith ss a b → b ≡ [] → ((lead a == 150) ≡ false) × ((lead a == 141) ≡ false)
with_lead NoSettings e = rw e (refl, refl)
with_lead (Settings h) e = rw (settings_lead h) (refl, refl)

code_same : {x y : Option NumberAt} {a a' b b' : Tokens} → IsReturnCode x a b → IsReturnCode y a' b' → (lead b == 150) ≡ false → (lead b' == 150) ≡ false → At a a' → Same x y b b'
code_same NoCode NoCode e f at = record { tree = refl; rest = at }
code_same (Code h1 h2) (Code j1 j2) e f at =
    let s1 = word_same h1 j1 at in
    let s2 = signed_same h2 j2 s1.rest in
    record { tree = ap (λ (n : NumberAt). Some n) s2.tree; rest = s2.rest }
code_same NoCode (Code j1 j2) e f at = apart lead refl (lead_token j1) at e
code_same (Code h1 h2) NoCode e f at = apart lead refl (lead_token h1) (turned at) f

outcome_eq : (r q : Option NumberAt) (s t : List RawSetting) → r ≡ q → s ≡ t → (let o : Outcome = record { rc = r; settings = s } in o) ≡ record { rc = q; settings = t }
outcome_eq r q s t e f = rw (e, f) refl

outcome_same : {x y : Outcome} {a a' b b' : Tokens} → IsOutcome x a b → IsOutcome y a' b' → b ≡ [] → b' ≡ [] → At a a' → x ≡ y
outcome_same (CodeAndSettings h1 h2) (CodeAndSettings j1 j2) e f at =
    let s1 = code_same h1 j1 (with_lead h2 e).0 (with_lead j2 f).0 at in
    outcome_eq _ _ _ _ s1.tree (with_same h2 j2 e f s1.rest)

key_same : {x y : Option Name} {a a' b b' : Tokens} → IsKey x a b → IsKey y a' b' → (lead b == 141) ≡ false → (lead b' == 141) ≡ false → At a a' → Same x y b b'
key_same NoKey NoKey e f at = record { tree = refl; rest = at }
key_same (Key h) (Key j) e f at = let s = named_same h j at in record { tree = ap (λ (n : Name). Some n) s.tree; rest = s.rest }
key_same NoKey (Key j) e f at = apart lead refl (named_lead j) at e
key_same (Key h) NoKey e f at = apart lead refl (named_lead h) (turned at) f

who_same : {x y : Who} {a a' b b' : Tokens} → IsWho x a b → IsWho y a' b' → At a a' → Same x y b b'
who_same (ByPerson h) (ByPerson j) at = let s = named_same h j at in record { tree = ap (λ (n : Name). who.Person n) s.tree; rest = s.rest }
who_same (ByTake h1 h2) (ByTake j1 j2) at =
    let s1 = word_same h1 j1 at in
    let s2 = number_same h2 j2 s1.rest in
    record { tree = ap (λ (n : NumberAt). who.Agent n.size) s2.tree; rest = s2.rest }
who_same (ByPerson h) (ByTake j1 j2) at = apart lead (named_lead h) (lead_token j1) at refl
who_same (ByTake h1 h2) (ByPerson j) at = apart lead (lead_token h1) (named_lead j) at refl

target_same : {x y : Target} {a a' b b' : Tokens} → IsTarget x a b → IsTarget y a' b' → At a a' → Same x y b b'
target_same (ItemTarget h) (ItemTarget j) at = let s = item_same h j at in record { tree = ap (λ (i : List ℕ). target.Item i) s.tree; rest = s.rest }
target_same (ActivityTarget h) (ActivityTarget j) at = let s = name_same h j at in record { tree = ap (λ (n : NameAt). target.Activity n.name) s.tree; rest = s.rest }
target_same (ItemTarget h) (ActivityTarget j) at = apart lead (ap lead h.first) (lead_name j) at refl
target_same (ActivityTarget h) (ItemTarget j) at = apart lead (lead_name h) (ap lead j.first) at refl

completion_eq : (t u : Target) (o p : Outcome) → t ≡ u → o ≡ p → (let c : Completion = record { target = t; outcome = o } in c) ≡ record { target = u; outcome = p }
completion_eq t u o p e f = rw (e, f) refl

-- one completion
completion_same : {x y : Completion} {a a' : Tokens} → IsCompletion x a → IsCompletion y a' → At a a' → x ≡ y
completion_same (DoneTarget h1 h2 h3) (DoneTarget j1 j2 j3) at =
    let s1 = word_same h1 j1 at in
    let s2 = target_same h2 j2 s1.rest in
    completion_eq _ _ _ _ s2.tree (outcome_same h3 j3 refl refl s2.rest)

two : {A B C : Type 0} (f : A → B → C) (x y : A) (u v : B) → x ≡ y → u ≡ v → f x u ≡ f y v
two f x y u v e g = rw (e, g) refl

-- one command behind each word
behind_one : {w : Keyword} {x y : Command} {a a' b b' : Tokens} → IsBehind w x a b → IsBehind w y a' b' → b ≡ [] → b' ≡ [] → At a a' → x ≡ y
behind_one Import Import e f at = refl
behind_one Drain Drain e f at = refl
behind_one Checkpoint Checkpoint e f at = refl
behind_one Templates Templates e f at = refl
behind_one (Turn h) (Turn j) e f at = ap (λ (n : NumberAt). command.Turn n.size) (number_same h j at).tree
behind_one (Suspend h) (Suspend j) e f at = ap (λ (n : NumberAt). command.Suspend n.size) (number_same h j at).tree
behind_one (Resume h) (Resume j) e f at = ap (λ (n : NumberAt). command.Resume n.size) (number_same h j at).tree
behind_one (Terminate h) (Terminate j) e f at = ap (λ (n : NumberAt). command.Terminate n.size) (number_same h j at).tree
behind_one (Delete h) (Delete j) e f at = ap (λ (n : NumberAt). command.Delete n.size) (number_same h j at).tree
behind_one (Clock h) (Clock j) e f at = ap (λ (n : NumberAt). command.Clock n) (number_same h j at).tree
behind_one (Show h) (Show j) e f at = ap (λ (n : NumberAt). command.Ask (query.Show n.size)) (number_same h j at).tree
behind_one (Output h) (Output j) e f at = ap (λ (n : NumberAt). command.Ask (query.Output n.size)) (number_same h j at).tree
behind_one (Queue h) (Queue j) e f at = ap (λ (n : NumberAt). command.Ask (query.Queue n.size)) (number_same h j at).tree
behind_one (Audit h) (Audit j) e f at = ap (λ (n : NumberAt). command.Ask (query.Audit n.size)) (number_same h j at).tree
behind_one (Take h) (Take j) e f at = ap (λ (i : List ℕ). command.Take i) (item_same h j at).tree
behind_one (Restart h) (Restart j) e f at = ap (λ (i : List ℕ). command.Restart i) (item_same h j at).tree
behind_one (Input h) (Input j) e f at = ap (λ (i : List ℕ). command.Ask (query.Input i)) (item_same h j at).tree
behind_one (Worklist h) (Worklist j) e f at = ap (λ (n : NameAt). command.Ask (query.Worklist n.name)) (name_same h j at).tree
behind_one (Claim h1 h2) (Claim j1 j2) e f at =
    let s1 = item_same h1 j1 at in
    two (λ (i : List ℕ) (n : Name). command.Claim i n) _ _ _ _ s1.tree (named_same h2 j2 s1.rest).tree
behind_one (Release h1 h2) (Release j1 j2) e f at =
    let s1 = item_same h1 j1 at in
    two (λ (i : List ℕ) (n : Name). command.Release i n) _ _ _ _ s1.tree (named_same h2 j2 s1.rest).tree
behind_one (Transfer h1 h2 h3) (Transfer j1 j2 j3) e f at =
    let s1 = item_same h1 j1 at in
    let s2 = named_same h2 j2 s1.rest in
    let s3 = named_same h3 j3 s2.rest in
    rw (s1.tree, s2.tree, s3.tree) refl
behind_one (DoneItem h1 h2 h3) (DoneItem j1 j2 j3) e f at =
    let s1 = item_same h1 j1 at in
    let s2 = who_same h2 j2 s1.rest in
    let s3 = outcome_same h3 j3 e f s2.rest in
    rw (s1.tree, s2.tree, s3) refl
behind_one (Force h1 h2) (Force j1 j2) e f at =
    let s1 = item_same h1 j1 at in
    two (λ (i : List ℕ) (o : Outcome). command.Force i o) _ _ _ _ s1.tree (outcome_same h2 j2 e f s1.rest)
behind_one (Start h1 h2 h3 h4) (Start j1 j2 j3 j4) e f at =
    let s1 = name_same h1 j1 at in
    let s2 = named_same h2 j2 s1.rest in
    let s3 = key_same h3 j3 (with_lead h4 e).1 (with_lead j4 f).1 s2.rest in
    let s4 = with_same h4 j4 e f s3.rest in
    rw (s1.tree, s2.tree, s3.tree, s4) refl

-- one command
command_same : {x y : Command} {a a' : Tokens} → IsCommand x a → IsCommand y a' → At a a' → x ≡ y
command_same {x} {y} {a} {a'} (WordAndRest {w = w} {b = b} h1 h2) (WordAndRest {w = v} {p = q} {b = d} j1 j2) at =
    let kinds : Some (what.Word v) ≡ Some (what.Word w) = sym (ap first_kind j1.first) ∙ ap first_kind (sym at.same) ∙ ap first_kind h1.first in
    let same : v ≡ w = cc in
    let word_ : Keyword → Type 0 = λ n. IsWord n q a' d in
    let behind_ : Keyword → Type 0 = λ n. IsBehind n y d [] in
    let s1 = word_same h1 (subst word_ same j1) at in
    behind_one h2 (subst behind_ same j2) refl refl s1.rest

-- ---- of a line

pub one_row : (line : List ℕ) (ts us : List Token) → AreTokens line ts → AreTokens line us → ts ≡ us
one_row line ts us t u = (one_scan line 0 ts us t.end u.end (length line) (length line) t.scanned u.scanned (tokens_done line ts t) (tokens_done line us u)).0

rows_same : (line : List ℕ) (ts us : List Token) → AreTokens line ts → AreTokens line us → At (spell line ts) (spell line us)
rows_same line ts us t u = record { same = ap (spell line) (one_row line ts us t u); quoted = tokens_quoted line ts t }

no_first : (t : Spelled) (ts : Tokens) → [] ≡ t ∷ ts → ⊥
no_first t ts e = cc

nothing_said : (c : Command) → IsCommand c [] → ⊥
nothing_said c (WordAndRest h1 h2) = no_first _ _ h1.first

nothing_done : (c : Completion) → IsCompletion c [] → ⊥
nothing_done c (DoneTarget h1 h2 h3) = no_first _ _ h1.first

pub one_command : (line : List ℕ) (c : Command) → SaysCommand line (Some c) → IsOnlyCommand line (Some c)
one_command line c says other said = command_same said.2 says.2 (rows_same line said.0 says.0 said.1.1 says.1.1)

pub no_command : (line : List ℕ) → AreLineTokens line [] → IsOnlyCommand line None
no_command line are other said =
    let P : Tokens → Type 0 = IsCommand other in
    nothing_said other (subst P (ap (spell line) (one_row line said.0 [] said.1.1 are.1)) said.2)

pub one_completion : (line : List ℕ) (c : Completion) → SaysCompletion line (Some c) → IsOnlyCompletion line (Some c)
one_completion line c says other said = completion_same said.2 says.2 (rows_same line said.0 says.0 said.1.1 says.1.1)

pub no_completion : (line : List ℕ) → AreLineTokens line [] → IsOnlyCompletion line None
no_completion line are other said =
    let P : Tokens → Type 0 = IsCompletion other in
    nothing_done other (subst P (ap (spell line) (one_row line said.0 [] said.1.1 are.1)) said.2)

pub none_of : {X : Type 0} (o : Option X) → ((x : X) → o ≡ Some x → ⊥) → o ≡ None
none_of None none = refl
none_of (Some x) none = absurd (none x refl)
