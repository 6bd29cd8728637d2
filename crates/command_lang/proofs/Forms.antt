-- How far the forms of commands and completions are read.
use Rattle.std.proofs.Common.{◌≡◌, ℕ, List, [], Option, Some, None, refl, ap, sym, ◌∙◌, subst, inl, inr}
use Rattle.std.specs.Prelude.{◌≢◌}
use Rattle.flow_table.specs.declared.keyword.Keyword.{Keyword}
use Rattle.flow_table.specs.declared.keyword.Keyword.TheVariants as word
use Rattle.flow_model.specs.declared.commands.Outcome.{Outcome}
use Rattle.flow_model.specs.declared.commands.RawSetting.{RawSetting}
use Rattle.flow_model.specs.declared.commands.RawValue.{RawValue}
use Rattle.flow_model.specs.declared.commands.RawValue.TheVariants as raw
use Rattle.flow_model.specs.declared.commands.Target.{Target}
use Rattle.flow_model.specs.declared.commands.Target.TheVariants as target
use Rattle.flow_model.specs.declared.instances.Who.{Who}
use Rattle.flow_model.specs.declared.instances.Who.TheVariants as who
use Rattle.flow_model.specs.declared.names.Name.{Name}
use Rattle.flow_model.specs.declared.trees.NumberAt.{NumberAt}
use Rattle.fdl_lexer.specs.declared.kinds.What.{What}
use Rattle.fdl_lexer.specs.declared.kinds.What.TheVariants as what
use Rattle.fdl_lexer.specs.declared.kinds.Mark.{Mark}
use Rattle.fdl_lexer.specs.declared.kinds.Mark.TheVariants as mark
use Rattle.fdl_parser.specs.declared.cursor.SyntaxFault.{SyntaxFault}
use Rattle.fdl_parser.specs.Tokens.{Tokens, first_kind, IsToken, IsName, IsItemToken, IsNumber, IsSigned, Unsigned, Negative, IsLeaf}
use Rattle.fdl_parser.specs.Stops.{Reads, Quotes, NoStep, Anything, AtEnd, IsTaken, Stops}
use Rattle.fdl_parser.proofs.Stops.{CanRead, Seq, Maybe, Either, Star, None as NoMore, More, star_snoc, Opens, Through, stops_form, taken_as, can_as, taken_less, stops_less, can_both, taken_both, stops_first, stops_second, taken_none, taken_some, stops_some, can_none, through_first, through_more, taken_loop, stops_loop, taken_left, taken_right, stops_left, stops_right}
use Rattle.fdl_parser.proofs.StopsTokens.{can_word, can_mark, can_name, can_number, can_signed, can_leaf, taken_word, taken_mark, taken_name, taken_quote, taken_item, taken_number, taken_signed, leaf_so_far, leaf_taken}
use Rattle.command_lang.specs.Refusing.{NoWord}
use Rattle.command_lang.specs.Grammar.{IsNamed, WordAndName, IsValue, NumberValue, TextValue, IsSetting, LeafAndValue, AreSettings, FirstSetting, MoreSettings, IsWith, NoSettings, Settings, IsReturnCode, NoCode, Code, IsOutcome, CodeAndSettings, IsKey, NoKey, Key, IsWho, ByPerson, ByTake, IsTarget, ItemTarget, ActivityTarget}

-- this word
abbrev pub WordForm : Keyword → Tokens → Tokens → Type 0
WordForm w = Reads (IsToken (what.Word w))

abbrev pub MarkForm : Mark → Tokens → Tokens → Type 0
MarkForm m = Reads (IsToken (what.Mark m))

-- ---- a word and a name

named_into : (w : Keyword) (a b : Tokens) → Seq (WordForm w) (Reads IsName) a b → Reads (IsNamed w) a b
named_into w a b h = (h.2.0.name, WordAndName h.1.1 h.2.1)

named_out : (w : Keyword) (a b : Tokens) → Reads (IsNamed w) a b → Seq (WordForm w) (Reads IsName) a b
named_out w a b h = go h.1
  where
    go : {n : Name} → IsNamed w n a b → Seq (WordForm w) (Reads IsName) a b
    go (WordAndName {n = n} {p = p} {b = c} j k) = (c, (p, j), (n, k))

pub named_begins : {w : Keyword} {a b : Tokens} → Reads (IsNamed w) a b → first_kind a ≡ Some (what.Word w)
named_begins {w} {a} {b} h = let s = named_out w a b h in ap first_kind s.1.1.first

pub can_named : (w : Keyword) → CanRead Anything (Reads (IsNamed w))
can_named w = can_as (named_into w) (can_both (λ b c q g. tt) (can_word w) can_name)

pub taken_named : {w : Keyword} {n : Name} {a b : Tokens} → IsNamed w n a b → IsTaken Anything (Reads (IsNamed w)) a b
taken_named {w} (WordAndName h j) = taken_as (named_into w) (named_out w) (taken_both (λ b c q g. tt) (taken_word h) (taken_name j))

pub stops_named_word : (w : Keyword) {a r : Tokens} {e : SyntaxFault} → Stops Anything (WordForm w) a r e → Stops Anything (Reads (IsNamed w)) a r e
stops_named_word w h = stops_form (named_into w) (named_out w) (stops_first (λ b c q g. tt) h can_name)

pub stops_named_name : {w : Keyword} {p : ℕ} {a b r : Tokens} {e : SyntaxFault} → IsToken (what.Word w) p a b → Stops Anything (Reads IsName) b r e → Stops Anything (Reads (IsNamed w)) a r e
stops_named_name {w} t h = stops_form (named_into w) (named_out w) (stops_second (λ b c q g. tt) (taken_word t) h)

-- ---- a value

abbrev TextKind : Option What → Type 0
TextKind k = k ≡ Some what.Text

value_into : (a b : Tokens) → Either Quotes (Reads IsSigned) a b → Reads IsValue a b
value_into a b (inl h) = (raw.Text h.0 h.1, TextValue h.2)
value_into a b (inr h) = (raw.Number h.0, NumberValue h.1)

value_out : (a b : Tokens) → Reads IsValue a b → Either Quotes (Reads IsSigned) a b
value_out a b h = go h.1
  where
    go : {v : RawValue} → IsValue v a b → Either Quotes (Reads IsSigned) a b
    go (NumberValue {n = n} j) = inr (n, j)
    go (TextValue {t = t} {p = p} j) = inl (t, p, j)

quote_begins : (a b : Tokens) → Quotes a b → TextKind (first_kind a)
quote_begins a b h = ap first_kind h.2.first

no_quote_signed : (a b : Tokens) → Reads IsSigned a b → TextKind (first_kind a) → ⊥
no_quote_signed a b h is = go h.1
  where
    unsigned : (n : ℕ) → Some (what.Number n) ≡ Some what.Text → ⊥
    unsigned n e = cc

    minus : Some (what.Mark mark.Minus) ≡ Some what.Text → ⊥
    minus e = cc

    go : {n : NumberAt} → IsSigned n a b → ⊥
    go (Unsigned j) = unsigned _ (sym (ap first_kind j.first.first) ∙ is)
    go (Negative j k) = minus (sym (ap first_kind j.first) ∙ is)

can_value : CanRead Anything (Reads IsValue)
can_value = can_as (λ a b (h : Reads IsSigned a b). value_into a b (inr h)) can_signed

taken_value : {v : RawValue} {a b : Tokens} → IsValue v a b → IsTaken Anything (Reads IsValue) a b
taken_value (NumberValue h) = taken_as value_into value_out (taken_right TextKind quote_begins no_quote_signed (taken_signed h))
taken_value (TextValue h) = taken_as value_into value_out (taken_left TextKind quote_begins no_quote_signed (taken_quote h))

pub stops_text : {a r : Tokens} {e : SyntaxFault} → first_kind a ≡ Some what.Text → Stops Anything Quotes a r e → Stops Anything (Reads IsValue) a r e
stops_text here h = stops_form value_into value_out (stops_left TextKind no_quote_signed here h)

pub stops_number : {a r : Tokens} {e : SyntaxFault} → first_kind a ≢ Some what.Text → Stops Anything (Reads IsSigned) a r e → Stops Anything (Reads IsValue) a r e
stops_number not h = stops_form value_into value_out (stops_right TextKind quote_begins not h)

-- ---- a setting

abbrev ValueForm : Tokens → Tokens → Type 0
ValueForm = Seq (MarkForm mark.Equal) (Reads IsValue)

setting_into : (a b : Tokens) → Seq (Reads IsLeaf) ValueForm a b → Reads IsSetting a b
setting_into a b h = (record { leaf = h.1.0; value = h.2.2.0 }, LeafAndValue h.1.1 h.2.1.1 h.2.2.1)

setting_out : (a b : Tokens) → Reads IsSetting a b → Seq (Reads IsLeaf) ValueForm a b
setting_out a b h = go h.1
  where
    go : {s : RawSetting} → IsSetting s a b → Seq (Reads IsLeaf) ValueForm a b
    go (LeafAndValue {l = l} {v = v} {p = p} {b = c} {c = d} j k m) = (c, (l, j), (d, (p, k), (v, m)))

-- no step of a leaf begins where the = stands
equal_no_step : {p : ℕ} {a b : Tokens} → IsToken (what.Mark mark.Equal) p a b → NoStep a
equal_no_step h = (λ e. dot (sym (ap first_kind h.first) ∙ e), λ e. open_ (sym (ap first_kind h.first) ∙ e))
  where
    dot : Some (what.Mark mark.Equal) ≡ Some (what.Mark mark.Dot) → ⊥
    dot e = cc

    open_ : Some (what.Mark mark.Equal) ≡ Some (what.Mark mark.OpenBracket) → ⊥
    open_ e = cc

can_setting : CanRead Anything (Reads IsSetting)
can_setting = can_as setting_into (can_both (λ b c q g. equal_no_step g.1.1) can_leaf (can_both (λ b c q g. tt) (can_mark mark.Equal) can_value))

taken_setting : {s : RawSetting} {a b : Tokens} → IsSetting s a b → IsTaken Anything (Reads IsSetting) a b
taken_setting (LeafAndValue h j k) =
    taken_as setting_into setting_out (taken_both (λ b c q g. equal_no_step g.1.1) (leaf_taken (leaf_so_far h) (equal_no_step j)) (taken_both (λ b c q g. tt) (taken_mark j) (taken_value k)))

pub stops_leaf : {a r : Tokens} {e : SyntaxFault} → Stops NoStep (Reads IsLeaf) a r e → Stops Anything (Reads IsSetting) a r e
stops_leaf h = stops_form setting_into setting_out (stops_first (λ b c q g. equal_no_step g.1.1) h (can_both (λ b c q g. tt) (can_mark mark.Equal) can_value))

pub stops_equal : {a b r : Tokens} {e : SyntaxFault} → IsTaken NoStep (Reads IsLeaf) a b → Stops Anything (MarkForm mark.Equal) b r e → Stops Anything (Reads IsSetting) a r e
stops_equal l h = stops_form setting_into setting_out (stops_second (λ b c q g. equal_no_step g.1.1) l (stops_first (λ b c q g. tt) h can_value))

pub stops_value : {p : ℕ} {a b c r : Tokens} {e : SyntaxFault} → IsTaken NoStep (Reads IsLeaf) a b → IsToken (what.Mark mark.Equal) p b c → Stops Anything (Reads IsValue) c r e → Stops Anything (Reads IsSetting) a r e
stops_value l m h = stops_form setting_into setting_out (stops_second (λ b c q g. equal_no_step g.1.1) l (stops_second (λ b c q g. tt) (taken_mark m) h))

-- ---- settings

abbrev FirstForm : Tokens → Tokens → Type 0
FirstForm = Seq (WordForm word.With) (Reads IsSetting)

abbrev MoreForm : Tokens → Tokens → Type 0
MoreForm = Seq (MarkForm mark.Comma) (Reads IsSetting)

abbrev WithForm : Tokens → Tokens → Type 0
WithForm = Seq FirstForm (Star MoreForm)

settings_on : {ss : List RawSetting} {a b c : Tokens} → AreSettings ss a b → Star MoreForm b c → Reads AreSettings a c
settings_on {ss} h NoMore = (ss, h)
settings_on h (More g s) = settings_on (MoreSettings h g.1.1 g.2.1) s

settings_form : {ss : List RawSetting} {a b : Tokens} → AreSettings ss a b → WithForm a b
settings_form (FirstSetting {s = s} {p = p} {b = b} {c = c} h j) = (c, (b, (p, h), (s, j)), NoMore)
settings_form (MoreSettings {s = s} {p = p} {c = c} h k j) = let w = settings_form h in (w.0, w.1, star_snoc w.2 (c, (p, k), (s, j)))

with_into : (a b : Tokens) → Maybe WithForm a b → Reads IsWith a b
with_into a b (inl e) = ([], subst (λ (x : Tokens). IsWith [] a x) (sym e) NoSettings)
with_into a b (inr h) = let s = settings_on (FirstSetting h.1.1.1 h.1.2.1) h.2 in (s.0, Settings s.1)

with_out : (a b : Tokens) → Reads IsWith a b → Maybe WithForm a b
with_out a b h = go h.1
  where
    go : {ss : List RawSetting} {a b : Tokens} → IsWith ss a b → Maybe WithForm a b
    go NoSettings = inl refl
    go (Settings j) = inr (settings_form j)

-- a token of this kind doesn't stand at the end
at_end : (k : What) (b : Tokens) → AtEnd b → first_kind b ≡ Some k → ⊥
at_end k b end is = no (ap first_kind (sym end) ∙ is)
  where
    no : None ≡ Some k → ⊥
    no e = cc

abbrev WithKind : Option What → Type 0
WithKind k = k ≡ Some (what.Word word.With)

abbrev CommaKind : Option What → Type 0
CommaKind k = k ≡ Some (what.Mark mark.Comma)

with_opens : Opens WithKind AtEnd WithForm
with_opens = record { begins = λ a b h. ap first_kind h.1.1.1.first; closes = λ b p k. at_end (what.Word word.With) b p k }

more_opens : Opens CommaKind AtEnd MoreForm
more_opens = record { begins = λ a b h. ap first_kind h.1.1.first; closes = λ b p k. at_end (what.Mark mark.Comma) b p k }

-- the settings up to some place
abbrev pub SettingsSoFar : Tokens → Tokens → Type 0
SettingsSoFar a b = Through AtEnd FirstForm MoreForm a b

pub settings_first : {s : RawSetting} {p : ℕ} {a b c : Tokens} → IsToken (what.Word word.With) p a b → IsSetting s b c → SettingsSoFar a c
settings_first t h = through_first (taken_both (λ b c q g. tt) (taken_word t) (taken_setting h))

pub settings_more : {s : RawSetting} {p : ℕ} {a b c d : Tokens} → SettingsSoFar a b → IsToken (what.Mark mark.Comma) p b c → IsSetting s c d → SettingsSoFar a d
settings_more h m j = through_more more_opens h (taken_both (λ b c q g. tt) (taken_mark m) (taken_setting j))

pub with_none : {a : Tokens} → first_kind a ≢ Some (what.Word word.With) → IsTaken AtEnd (Reads IsWith) a a
with_none not = taken_as with_into with_out (taken_none with_opens not)

pub with_some : {a b : Tokens} → SettingsSoFar a b → first_kind b ≢ Some (what.Mark mark.Comma) → IsTaken AtEnd (Reads IsWith) a b
with_some h not = taken_as with_into with_out (taken_some with_opens (taken_loop more_opens h not))

pub stops_first_setting : {p : ℕ} {a b r : Tokens} {e : SyntaxFault} → IsToken (what.Word word.With) p a b → Stops Anything (Reads IsSetting) b r e → Stops AtEnd (Reads IsWith) a r e
stops_first_setting t h =
    stops_form with_into with_out
    (stops_some with_opens (ap first_kind t.first) (stops_first (λ b c q g. tt) (stops_second (λ b c q g. tt) (taken_word t) h) (record { more = []; lexed = tt; reads = λ rest p. NoMore })))

pub stops_next_setting : {p : ℕ} {a b c r : Tokens} {e : SyntaxFault} → first_kind a ≡ Some (what.Word word.With) → SettingsSoFar a b → IsToken (what.Mark mark.Comma) p b c → Stops Anything (Reads IsSetting) c r e
    → Stops AtEnd (Reads IsWith) a r e
stops_next_setting here s m h =
    stops_form with_into with_out (stops_some with_opens here (stops_loop more_opens s (ap first_kind m.first) (stops_second (λ b c q g. tt) (taken_mark m) h)))

pub can_with : CanRead AtEnd (Reads IsWith)
can_with = can_as with_into can_none

-- no other word begins where the settings and the end of the line stand
pub with_no : (w : Keyword) → (what.Word word.With ≡ what.Word w → ⊥) → (b c : Tokens) → AtEnd c → Reads IsWith b c → NoWord w b
with_no w differ b c end h is = go (with_out b c h)
  where
    words : first_kind b ≡ Some (what.Word word.With) → ⊥
    words e = differ (same (sym e ∙ is))
      where
        same : Some (what.Word word.With) ≡ Some (what.Word w) → what.Word word.With ≡ what.Word w
        same f = cc

    go : Maybe WithForm b c → ⊥
    go (inl e) = at_end (what.Word w) b (sym e ∙ end) is
    go (inr f) = words (ap first_kind f.1.1.1.first)

-- ---- a return code, a key

abbrev CodeForm : Tokens → Tokens → Type 0
CodeForm = Seq (WordForm word.Rc) (Reads IsSigned)

code_into : (a b : Tokens) → Maybe CodeForm a b → Reads IsReturnCode a b
code_into a b (inl e) = (None, subst (λ (x : Tokens). IsReturnCode None a x) (sym e) NoCode)
code_into a b (inr h) = (Some h.2.0, Code h.1.1 h.2.1)

code_out : (a b : Tokens) → Reads IsReturnCode a b → Maybe CodeForm a b
code_out a b h = go h.1
  where
    go : {n : Option NumberAt} {a b : Tokens} → IsReturnCode n a b → Maybe CodeForm a b
    go NoCode = inl refl
    go (Code {n = n} {p = p} {b = c} j k) = inr (c, (p, j), (n, k))

abbrev CodeKind : Option What → Type 0
CodeKind k = k ≡ Some (what.Word word.Rc)

code_opens : Opens CodeKind (NoWord word.Rc) CodeForm
code_opens = record { begins = λ a b h. ap first_kind h.1.1.first; closes = λ b p k. p k }

pub code_none : {a : Tokens} → first_kind a ≢ Some (what.Word word.Rc) → IsTaken (NoWord word.Rc) (Reads IsReturnCode) a a
code_none not = taken_as code_into code_out (taken_none code_opens not)

pub code_some : {p : ℕ} {n : NumberAt} {a b c : Tokens} → IsToken (what.Word word.Rc) p a b → IsSigned n b c → IsTaken (NoWord word.Rc) (Reads IsReturnCode) a c
code_some t h = taken_as code_into code_out (taken_some code_opens (taken_both (λ b c q g. tt) (taken_word t) (taken_less (λ x q. tt) (taken_signed h))))

pub stops_code : {p : ℕ} {a b r : Tokens} {e : SyntaxFault} → IsToken (what.Word word.Rc) p a b → Stops Anything (Reads IsSigned) b r e → Stops (NoWord word.Rc) (Reads IsReturnCode) a r e
stops_code t h = stops_form code_into code_out (stops_some code_opens (ap first_kind t.first) (stops_second (λ b c q g. tt) (taken_word t) (stops_less (λ x q. tt) h)))

key_into : (a b : Tokens) → Maybe (Reads (IsNamed word.Key)) a b → Reads IsKey a b
key_into a b (inl e) = (None, subst (λ (x : Tokens). IsKey None a x) (sym e) NoKey)
key_into a b (inr h) = (Some h.0, Key h.1)

key_out : (a b : Tokens) → Reads IsKey a b → Maybe (Reads (IsNamed word.Key)) a b
key_out a b h = go h.1
  where
    go : {n : Option Name} {a b : Tokens} → IsKey n a b → Maybe (Reads (IsNamed word.Key)) a b
    go NoKey = inl refl
    go (Key {n = n} j) = inr (n, j)

abbrev KeyKind : Option What → Type 0
KeyKind k = k ≡ Some (what.Word word.Key)

key_opens : Opens KeyKind (NoWord word.Key) (Reads (IsNamed word.Key))
key_opens = record { begins = λ a b h. named_begins h; closes = λ b p k. p k }

pub key_none : {a : Tokens} → first_kind a ≢ Some (what.Word word.Key) → IsTaken (NoWord word.Key) (Reads IsKey) a a
key_none not = taken_as key_into key_out (taken_none key_opens not)

pub key_some : {n : Name} {a b : Tokens} → IsNamed word.Key n a b → IsTaken (NoWord word.Key) (Reads IsKey) a b
key_some h = taken_as key_into key_out (taken_some key_opens (taken_less (λ x q. tt) (taken_named h)))

pub stops_key : {a r : Tokens} {e : SyntaxFault} → first_kind a ≡ Some (what.Word word.Key) → Stops Anything (Reads (IsNamed word.Key)) a r e → Stops (NoWord word.Key) (Reads IsKey) a r e
stops_key here h = stops_form key_into key_out (stops_some key_opens here (stops_less (λ x q. tt) h))

pub can_key : CanRead (NoWord word.Key) (Reads IsKey)
can_key = can_as key_into can_none

-- ---- the outcome

outcome_into : (a b : Tokens) → Seq (Reads IsReturnCode) (Reads IsWith) a b → Reads IsOutcome a b
outcome_into a b h = (record { rc = h.1.0; settings = h.2.0 }, CodeAndSettings h.1.1 h.2.1)

outcome_out : (a b : Tokens) → Reads IsOutcome a b → Seq (Reads IsReturnCode) (Reads IsWith) a b
outcome_out a b h = go h.1
  where
    go : {o : Outcome} → IsOutcome o a b → Seq (Reads IsReturnCode) (Reads IsWith) a b
    go (CodeAndSettings {rc = n} {ss = ss} {b = c} j k) = (c, (n, j), (ss, k))

no_code : what.Word word.With ≡ what.Word word.Rc → ⊥
no_code e = cc

pub outcome_taken : {a b c : Tokens} → IsTaken (NoWord word.Rc) (Reads IsReturnCode) a b → IsTaken AtEnd (Reads IsWith) b c → IsTaken AtEnd (Reads IsOutcome) a c
outcome_taken f g = taken_as outcome_into outcome_out (taken_both (with_no word.Rc no_code) f g)

pub stops_outcome_code : {a r : Tokens} {e : SyntaxFault} → Stops (NoWord word.Rc) (Reads IsReturnCode) a r e → Stops AtEnd (Reads IsOutcome) a r e
stops_outcome_code h = stops_form outcome_into outcome_out (stops_first (with_no word.Rc no_code) h can_with)

pub stops_outcome_settings : {a b r : Tokens} {e : SyntaxFault} → IsTaken (NoWord word.Rc) (Reads IsReturnCode) a b → Stops AtEnd (Reads IsWith) b r e → Stops AtEnd (Reads IsOutcome) a r e
stops_outcome_settings f h = stops_form outcome_into outcome_out (stops_second (with_no word.Rc no_code) f h)

pub can_outcome : CanRead AtEnd (Reads IsOutcome)
can_outcome = can_as outcome_into (can_both (with_no word.Rc no_code) (can_as code_into can_none) can_with)

-- ---- who completes an item

abbrev ByKind : Option What → Type 0
ByKind k = k ≡ Some (what.Word word.By)

abbrev TakeForm : Tokens → Tokens → Type 0
TakeForm = Seq (WordForm word.Take) (Reads IsNumber)

who_into : (a b : Tokens) → Either (Reads (IsNamed word.By)) TakeForm a b → Reads IsWho a b
who_into a b (inl h) = (who.Person h.0, ByPerson h.1)
who_into a b (inr h) = (who.Agent h.2.0.size, ByTake h.1.1 h.2.1)

who_out : (a b : Tokens) → Reads IsWho a b → Either (Reads (IsNamed word.By)) TakeForm a b
who_out a b h = go h.1
  where
    go : {w : Who} → IsWho w a b → Either (Reads (IsNamed word.By)) TakeForm a b
    go (ByPerson {n = n} j) = inl (n, j)
    go (ByTake {n = n} {p = p} {b = c} j k) = inr (c, (p, j), (n, k))

by_begins : (a b : Tokens) → Reads (IsNamed word.By) a b → ByKind (first_kind a)
by_begins a b h = named_begins h

no_by : (a b : Tokens) → TakeForm a b → ByKind (first_kind a) → ⊥
no_by a b h is = no (sym (ap first_kind h.1.1.first) ∙ is)
  where
    no : Some (what.Word word.Take) ≡ Some (what.Word word.By) → ⊥
    no e = cc

pub taken_who : {w : Who} {a b : Tokens} → IsWho w a b → IsTaken Anything (Reads IsWho) a b
taken_who (ByPerson h) = taken_as who_into who_out (taken_left ByKind by_begins no_by (taken_named h))
taken_who (ByTake h j) = taken_as who_into who_out (taken_right ByKind by_begins no_by (taken_both (λ b c q g. tt) (taken_word h) (taken_number j)))

pub can_who : CanRead Anything (Reads IsWho)
can_who = can_as (λ a b (h : Reads (IsNamed word.By) a b). who_into a b (inl h)) (can_named word.By)

pub stops_person : {a r : Tokens} {e : SyntaxFault} → first_kind a ≡ Some (what.Word word.By) → Stops Anything (Reads (IsNamed word.By)) a r e → Stops Anything (Reads IsWho) a r e
stops_person here h = stops_form who_into who_out (stops_left ByKind no_by here h)

pub stops_take : {a r : Tokens} {e : SyntaxFault} → first_kind a ≢ Some (what.Word word.By) → Stops Anything (WordForm word.Take) a r e → Stops Anything (Reads IsWho) a r e
stops_take not h = stops_form who_into who_out (stops_right ByKind by_begins not (stops_first (λ b c q g. tt) h can_number))

pub stops_take_number : {p : ℕ} {a b r : Tokens} {e : SyntaxFault} → first_kind a ≢ Some (what.Word word.By) → IsToken (what.Word word.Take) p a b → Stops Anything (Reads IsNumber) b r e → Stops Anything (Reads IsWho) a r e
stops_take_number not t h = stops_form who_into who_out (stops_right ByKind by_begins not (stops_second (λ b c q g. tt) (taken_word t) h))

-- ---- what a completion completes

abbrev ItemKind : Option What → Type 0
ItemKind k = k ≡ Some what.Item

target_into : (a b : Tokens) → Either (Reads IsItemToken) (Reads IsName) a b → Reads IsTarget a b
target_into a b (inl h) = (target.Item h.0, ItemTarget h.1)
target_into a b (inr h) = (target.Activity h.0.name, ActivityTarget h.1)

target_out : (a b : Tokens) → Reads IsTarget a b → Either (Reads IsItemToken) (Reads IsName) a b
target_out a b h = go h.1
  where
    go : {t : Target} → IsTarget t a b → Either (Reads IsItemToken) (Reads IsName) a b
    go (ItemTarget {item = i} j) = inl (i, j)
    go (ActivityTarget {n = n} j) = inr (n, j)

item_begins : (a b : Tokens) → Reads IsItemToken a b → ItemKind (first_kind a)
item_begins a b h = ap first_kind h.1.first

no_item : (a b : Tokens) → Reads IsName a b → ItemKind (first_kind a) → ⊥
no_item a b h is = no (sym (ap first_kind h.1.first) ∙ is)
  where
    no : Some what.Name ≡ Some what.Item → ⊥
    no e = cc

pub taken_target : {t : Target} {a b : Tokens} → IsTarget t a b → IsTaken Anything (Reads IsTarget) a b
taken_target (ItemTarget h) = taken_as target_into target_out (taken_left ItemKind item_begins no_item (taken_item h))
taken_target (ActivityTarget h) = taken_as target_into target_out (taken_right ItemKind item_begins no_item (taken_name h))

pub can_target : CanRead Anything (Reads IsTarget)
can_target = can_as (λ a b (h : Reads IsName a b). target_into a b (inr h)) can_name

pub stops_target_item : {a r : Tokens} {e : SyntaxFault} → first_kind a ≡ Some what.Item → Stops Anything (Reads IsItemToken) a r e → Stops Anything (Reads IsTarget) a r e
stops_target_item here h = stops_form target_into target_out (stops_left ItemKind no_item here h)

pub stops_target_name : {a r : Tokens} {e : SyntaxFault} → first_kind a ≢ Some what.Item → Stops Anything (Reads IsName) a r e → Stops Anything (Reads IsTarget) a r e
stops_target_name not h = stops_form target_into target_out (stops_right ItemKind item_begins not h)
