-- The grammar of commands and completions: what is said, the tokens before it, and those behind it. One case for each
-- alternative.
use Rattle.std.specs.Prelude.{ℕ, Option, Some, None, List, [], ◌∷◌, ◌++◌}
use Rattle.flow_table.specs.declared.keyword.Keyword.{Keyword}
use Rattle.flow_table.specs.declared.keyword.Keyword.TheVariants as word
use Rattle.flow_model.specs.declared.commands.Command.{Command}
use Rattle.flow_model.specs.declared.commands.Command.TheVariants as command
use Rattle.flow_model.specs.declared.commands.Completion.{Completion}
use Rattle.flow_model.specs.declared.commands.Outcome.{Outcome}
use Rattle.flow_model.specs.declared.commands.Query.TheVariants as query
use Rattle.flow_model.specs.declared.commands.RawSetting.{RawSetting}
use Rattle.flow_model.specs.declared.commands.RawValue.{RawValue}
use Rattle.flow_model.specs.declared.commands.RawValue.TheVariants as raw
use Rattle.flow_model.specs.declared.commands.Target.{Target}
use Rattle.flow_model.specs.declared.commands.Target.TheVariants as target
use Rattle.flow_model.specs.declared.instances.Who.{Who}
use Rattle.flow_model.specs.declared.instances.Who.TheVariants as who
use Rattle.flow_model.specs.declared.names.Name.{Name}
use Rattle.flow_model.specs.declared.trees.LeafAt.{LeafAt}
use Rattle.flow_model.specs.declared.trees.NameAt.{NameAt}
use Rattle.flow_model.specs.declared.trees.NumberAt.{NumberAt}
use Rattle.fdl_lexer.specs.declared.kinds.Mark.TheVariants as mark
use Rattle.fdl_parser.specs.Tokens.{Tokens, IsWord, IsMark, IsName, IsQuote, IsItemToken, IsNumber, IsSigned, IsLeaf}

-- ---- parts

-- a word and a name
pub data IsNamed (first : Keyword) : Name → Tokens → Tokens → Type 0 where
  WordAndName : {n : NameAt} {p : ℕ} {a b c : Tokens} → IsWord first p a b → IsName n b c → IsNamed first n.name a c

-- value = [-] number | Text
pub data IsValue : RawValue → Tokens → Tokens → Type 0 where
  NumberValue : {n : NumberAt} {a b : Tokens} → IsSigned n a b → IsValue (raw.Number n) a b
  TextValue : {t : List ℕ} {p : ℕ} {a b : Tokens} → IsQuote t p a b → IsValue (raw.Text t p) a b

-- leaf = value
pub data IsSetting : RawSetting → Tokens → Tokens → Type 0 where
  LeafAndValue : {l : LeafAt} {v : RawValue} {p : ℕ} {a b c d : Tokens} → IsLeaf l a b → IsMark mark.Equal p b c
      → IsValue v c d → IsSetting (record { leaf = l; value = v }) a d

-- with = WITH leaf = value (, leaf = value)*
pub data AreSettings : List RawSetting → Tokens → Tokens → Type 0 where
  FirstSetting : {s : RawSetting} {p : ℕ} {a b c : Tokens} → IsWord word.With p a b → IsSetting s b c
      → AreSettings (s ∷ []) a c
  MoreSettings : {ss : List RawSetting} {s : RawSetting} {p : ℕ} {a b c d : Tokens} → AreSettings ss a b
      → IsMark mark.Comma p b c → IsSetting s c d → AreSettings (ss ++ s ∷ []) a d

-- [with]
pub data IsWith : List RawSetting → Tokens → Tokens → Type 0 where
  NoSettings : {a : Tokens} → IsWith [] a a
  Settings : {ss : List RawSetting} {a b : Tokens} → AreSettings ss a b → IsWith ss a b

-- [RC [-] number]
pub data IsReturnCode : Option NumberAt → Tokens → Tokens → Type 0 where
  NoCode : {a : Tokens} → IsReturnCode None a a
  Code : {n : NumberAt} {p : ℕ} {a b c : Tokens} → IsWord word.Rc p a b → IsSigned n b c → IsReturnCode (Some n) a c

-- result = [RC [-] number] [with]
pub data IsOutcome : Outcome → Tokens → Tokens → Type 0 where
  CodeAndSettings : {rc : Option NumberAt} {ss : List RawSetting} {a b c : Tokens} → IsReturnCode rc a b → IsWith ss b c
      → IsOutcome (record { rc = rc; settings = ss }) a c

-- [KEY name]
pub data IsKey : Option Name → Tokens → Tokens → Type 0 where
  NoKey : {a : Tokens} → IsKey None a a
  Key : {n : Name} {a b : Tokens} → IsNamed word.Key n a b → IsKey (Some n) a b

-- BY name | TAKE number
pub data IsWho : Who → Tokens → Tokens → Type 0 where
  ByPerson : {n : Name} {a b : Tokens} → IsNamed word.By n a b → IsWho (who.Person n) a b
  ByTake : {n : NumberAt} {p : ℕ} {a b c : Tokens} → IsWord word.Take p a b → IsNumber n b c
      → IsWho (who.Agent n.size) a c

-- ---- commands, by what stands behind their first word

-- what is behind IMPORT is read from the lines that follow
pub data IsBehind : Keyword → Command → Tokens → Tokens → Type 0 where
  Import : {a : Tokens} → IsBehind word.Import (command.Import []) a a
  Start : {starter : Name} {n : NameAt} {key : Option Name} {ss : List RawSetting} {a b c d e : Tokens}
      → IsName n a b → IsNamed word.By starter b c → IsKey key c d → IsWith ss d e
      → IsBehind word.Start (command.Start n.name starter key ss) a e
  Turn : {n : NumberAt} {a b : Tokens} → IsNumber n a b → IsBehind word.Turn (command.Turn n.size) a b
  Drain : {a : Tokens} → IsBehind word.Drain command.Drain a a
  Claim : {item : List ℕ} {person : Name} {a b c : Tokens} → IsItemToken item a b → IsNamed word.By person b c
      → IsBehind word.Claim (command.Claim item person) a c
  Release : {item : List ℕ} {person : Name} {a b c : Tokens} → IsItemToken item a b → IsNamed word.By person b c
      → IsBehind word.Release (command.Release item person) a c
  Transfer : {item : List ℕ} {from to : Name} {a b c d : Tokens} → IsItemToken item a b → IsNamed word.By from b c
      → IsNamed word.To to c d → IsBehind word.Transfer (command.Transfer item from to) a d
  Take : {item : List ℕ} {a b : Tokens} → IsItemToken item a b → IsBehind word.Take (command.Take item) a b
  Done : {item : List ℕ} {by : Who} {o : Outcome} {a b c d : Tokens} → IsItemToken item a b → IsWho by b c
      → IsOutcome o c d → IsBehind word.Done (command.Done item by o) a d
  Force : {item : List ℕ} {o : Outcome} {a b c : Tokens} → IsItemToken item a b → IsOutcome o b c
      → IsBehind word.Force (command.Force item o) a c
  Restart : {item : List ℕ} {a b : Tokens} → IsItemToken item a b → IsBehind word.Restart (command.Restart item) a b
  Suspend : {n : NumberAt} {a b : Tokens} → IsNumber n a b → IsBehind word.Suspend (command.Suspend n.size) a b
  Resume : {n : NumberAt} {a b : Tokens} → IsNumber n a b → IsBehind word.Resume (command.Resume n.size) a b
  Terminate : {n : NumberAt} {a b : Tokens} → IsNumber n a b → IsBehind word.Terminate (command.Terminate n.size) a b
  Delete : {n : NumberAt} {a b : Tokens} → IsNumber n a b → IsBehind word.Delete (command.Delete n.size) a b
  Clock : {n : NumberAt} {a b : Tokens} → IsNumber n a b → IsBehind word.Clock (command.Clock n) a b
  Checkpoint : {a : Tokens} → IsBehind word.Checkpoint command.Checkpoint a a
  Show : {n : NumberAt} {a b : Tokens} → IsNumber n a b → IsBehind word.Show (command.Ask (query.Show n.size)) a b
  Output : {n : NumberAt} {a b : Tokens} → IsNumber n a b → IsBehind word.Output (command.Ask (query.Output n.size)) a b
  Input : {item : List ℕ} {a b : Tokens} → IsItemToken item a b
      → IsBehind word.Input (command.Ask (query.Input item)) a b
  Worklist : {n : NameAt} {a b : Tokens} → IsName n a b
      → IsBehind word.Worklist (command.Ask (query.Worklist n.name)) a b
  Queue : {n : NumberAt} {a b : Tokens} → IsNumber n a b → IsBehind word.Queue (command.Ask (query.Queue n.size)) a b
  Audit : {n : NumberAt} {a b : Tokens} → IsNumber n a b → IsBehind word.Audit (command.Ask (query.Audit n.size)) a b
  Templates : {a : Tokens} → IsBehind word.Templates (command.Ask query.Templates) a a

-- the whole row says this command
pub data IsCommand : Command → Tokens → Type 0 where
  WordAndRest : {w : Keyword} {c : Command} {p : ℕ} {a b : Tokens} → IsWord w p a b → IsBehind w c b [] → IsCommand c a

-- ---- completions

-- an item | the name of an activity
pub data IsTarget : Target → Tokens → Tokens → Type 0 where
  ItemTarget : {item : List ℕ} {a b : Tokens} → IsItemToken item a b → IsTarget (target.Item item) a b
  ActivityTarget : {n : NameAt} {a b : Tokens} → IsName n a b → IsTarget (target.Activity n.name) a b

-- the whole row says this completion: DONE target result
pub data IsCompletion : Completion → Tokens → Type 0 where
  DoneTarget : {t : Target} {o : Outcome} {p : ℕ} {a b c : Tokens} → IsWord word.Done p a b → IsTarget t b c
      → IsOutcome o c [] → IsCompletion (record { target = t; outcome = o }) a
