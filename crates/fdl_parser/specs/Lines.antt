-- The grammar of CONTROL and DATA lines, with their trees.
use Rattle.std.specs.Prelude.{ℕ, List, [], ◌∷◌, ◌++◌}
use Rattle.flow_table.specs.declared.keyword.Keyword.{Keyword}
use Rattle.flow_table.specs.declared.keyword.Keyword.TheVariants as word
use Rattle.flow_model.specs.declared.trees.NameAt.{NameAt}
use Rattle.flow_model.specs.declared.trees.LeafAt.{LeafAt}
use Rattle.flow_model.specs.declared.trees.CondAt.{CondAt}
use Rattle.flow_model.specs.declared.trees.WhenTree.{WhenTree}
use Rattle.flow_model.specs.declared.trees.WhenTree.TheVariants as when
use Rattle.flow_model.specs.declared.trees.ControlTree.{ControlTree}
use Rattle.flow_model.specs.declared.trees.EndTree.{EndTree}
use Rattle.flow_model.specs.declared.trees.EndTree.TheVariants as end_of
use Rattle.flow_model.specs.declared.trees.EndsTree.{EndsTree}
use Rattle.flow_model.specs.declared.trees.EndsTree.TheVariants as ends_of
use Rattle.flow_model.specs.declared.trees.MapTree.{MapTree}
use Rattle.flow_model.specs.declared.trees.DataTree.{DataTree}
use Rattle.fdl_lexer.specs.declared.kinds.Mark.TheVariants as mark
use Rattle.fdl_parser.specs.Tokens.{Tokens, IsWord, IsMark, IsName, IsLeaf}
use Rattle.fdl_parser.specs.Conditions.{IsCondition}

-- the transition condition: [WHEN ( cond ) | OTHERWISE]
pub data IsTransition : WhenTree → Tokens → Tokens → Type 0 where
  Unconditional : {a : Tokens} → IsTransition when.Always a a
  Otherwise : {p : ℕ} {a b : Tokens} → IsWord word.Otherwise p a b → IsTransition when.Otherwise a b
  Conditional : {x : CondAt} {p : ℕ} {a b c : Tokens} → IsWord word.When p a b → IsCondition x b c
      → IsTransition (when.Cond x) a c

-- control = CONTROL FROM name TO name [WHEN ( cond ) | OTHERWISE]
pub data IsControl : ControlTree → Tokens → Tokens → Type 0 where
  ControlLine : {from to : NameAt} {when : WhenTree} {p q r : ℕ} {a b c d e f g : Tokens} → IsWord word.Control p a b
      → IsWord word.From q b c → IsName from c d → IsWord word.To r d e → IsName to e f → IsTransition when f g
      → IsControl (record { place = p; from = from; to = to; when = when }) a g

-- an end of a DATA line: the word of the border | name
pub data IsEnd (border : Keyword) : EndTree → Tokens → Tokens → Type 0 where
  BorderEnd : {p : ℕ} {a b : Tokens} → IsWord border p a b → IsEnd border end_of.Border a b
  ActivityEnd : {n : NameAt} {a b : Tokens} → IsName n a b → IsEnd border (end_of.Activity n) a b

-- FROM (SOURCE | name) TO (SINK | name) | LOOP name
pub data AreEnds : EndsTree → Tokens → Tokens → Type 0 where
  LoopEnds : {n : NameAt} {p : ℕ} {a b c : Tokens} → IsWord word.Loop p a b → IsName n b c
      → AreEnds (ends_of.Loop n) a c
  LineEnds : {from to : EndTree} {p q : ℕ} {a b c d e : Tokens} → IsWord word.From p a b → IsEnd word.Source from b c
      → IsWord word.To q c d → IsEnd word.Sink to d e → AreEnds (ends_of.Line from to) a e

-- leaf TO leaf
pub data IsMap : MapTree → Tokens → Tokens → Type 0 where
  LeafToLeaf : {from to : LeafAt} {p : ℕ} {a b c d : Tokens} → IsLeaf from a b → IsWord word.To p b c → IsLeaf to c d
      → IsMap (record { from = from; to = to }) a d

-- maps = MAP leaf TO leaf (, leaf TO leaf)*
pub data AreMaps : List MapTree → Tokens → Tokens → Type 0 where
  FirstMap : {m : MapTree} {p : ℕ} {a b c : Tokens} → IsWord word.Map p a b → IsMap m b c → AreMaps (m ∷ []) a c
  MoreMaps : {ms : List MapTree} {m : MapTree} {p : ℕ} {a b c d : Tokens} → AreMaps ms a b → IsMark mark.Comma p b c
      → IsMap m c d → AreMaps (ms ++ m ∷ []) a d

-- dataline = DATA ends maps
pub data IsDataLine : DataTree → Tokens → Tokens → Type 0 where
  DataLine : {ends : EndsTree} {maps : List MapTree} {p : ℕ} {a b c d : Tokens} → IsWord word.Data p a b
      → AreEnds ends b c → AreMaps maps c d → IsDataLine (record { place = p; ends = ends; maps = maps }) a d
