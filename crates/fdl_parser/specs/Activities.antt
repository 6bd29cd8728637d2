-- The grammar of activities with their attributes, and of the elements of a process or a block.
use Rattle.std.specs.Prelude.{ℕ, ◌<◌, ◌-◌, List, [], ◌∷◌, ◌++◌, true, false}
use Rattle.flow_table.specs.declared.keyword.Keyword.TheVariants as word
use Rattle.flow_model.specs.declared.trees.NameAt.{NameAt}
use Rattle.flow_model.specs.declared.trees.NumberAt.{NumberAt}
use Rattle.flow_model.specs.declared.trees.CondAt.{CondAt}
use Rattle.flow_model.specs.declared.trees.JoinTree.{JoinTree}
use Rattle.flow_model.specs.declared.trees.JoinTree.TheVariants as join
use Rattle.flow_model.specs.declared.trees.AttrTree.{AttrTree}
use Rattle.flow_model.specs.declared.trees.AttrTree.TheVariants as attr
use Rattle.flow_model.specs.declared.trees.AttrAt.{AttrAt}
use Rattle.flow_model.specs.declared.trees.ControlTree.{ControlTree}
use Rattle.flow_model.specs.declared.trees.DataTree.{DataTree}
use Rattle.flow_model.specs.declared.trees.WorkTree.TheVariants as work
use Rattle.flow_model.specs.declared.trees.ActivityTree.{ActivityTree}
use Rattle.flow_model.specs.declared.trees.ElementTree.{ElementTree}
use Rattle.flow_model.specs.declared.trees.ElementTree.TheVariants as element
use Rattle.fdl_lexer.specs.declared.kinds.Mark.TheVariants as mark
use Rattle.fdl_parser.specs.Tokens.{Tokens, IsWord, IsMark, IsName, IsNumber}
use Rattle.fdl_parser.specs.Conditions.{IsCondition}
use Rattle.fdl_parser.specs.Lines.{IsControl, IsDataLine}

-- the structures of a container: ( name , name )
pub data AreStructures : NameAt → NameAt → Tokens → Tokens → Type 0 where
  InputOutput : {input output : NameAt} {p q r : ℕ} {a b c d e f : Tokens} → IsMark mark.Open p a b → IsName input b c
      → IsMark mark.Comma q c d → IsName output d e → IsMark mark.Close r e f → AreStructures input output a f

-- END name
pub data IsClosing : NameAt → Tokens → Tokens → Type 0 where
  EndName : {n : NameAt} {p : ℕ} {a b c : Tokens} → IsWord word.End p a b → IsName n b c → IsClosing n a c

-- CONNECTORS TRUE
pub data ConnectorsTrue : Tokens → Tokens → Type 0 where
  BothWords : {p q : ℕ} {a b c : Tokens} → IsWord word.Connectors p a b → IsWord word.True q b c → ConnectorsTrue a c

-- a start condition: ALL CONNECTORS TRUE | AT_LEAST_ONE CONNECTOR TRUE | AT_LEAST number CONNECTORS TRUE
pub data IsJoin : JoinTree → Tokens → Tokens → Type 0 where
  AllTrue : {p : ℕ} {a b c : Tokens} → IsWord word.All p a b → ConnectorsTrue b c → IsJoin join.All a c
  OneTrue : {p q r : ℕ} {a b c d : Tokens} → IsWord word.AtLeastOne p a b → IsWord word.Connector q b c
      → IsWord word.True r c d → IsJoin join.AtLeastOne a d
  SomeTrue : {n : NumberAt} {p : ℕ} {a b c d : Tokens} → IsWord word.AtLeast p a b → IsNumber n b c
      → ConnectorsTrue c d → IsJoin (join.AtLeast n) a d

-- nattr = WHEN join | EXIT WHEN ( cond )
pub data IsCommonAttribute : AttrAt → Tokens → Tokens → Type 0 where
  WhenJoin : {j : JoinTree} {p : ℕ} {a b c : Tokens} → IsWord word.When p a b → IsJoin j b c
      → IsCommonAttribute (record { place = p; what = attr.When j }) a c
  ExitWhen : {x : CondAt} {p q : ℕ} {a b c d : Tokens} → IsWord word.Exit p a b → IsWord word.When q b c
      → IsCondition x c d → IsCommonAttribute (record { place = p; what = attr.Exit x }) a d

-- nattr*
pub data AreCommonAttributes : List AttrAt → Tokens → Tokens → Type 0 where
  NoCommon : {a : Tokens} → AreCommonAttributes [] a a
  MoreCommon : {xs : List AttrAt} {x : AttrAt} {a b c : Tokens} → AreCommonAttributes xs a b → IsCommonAttribute x b c
      → AreCommonAttributes (xs ++ x ∷ []) a c

-- behind DONE_BY: ROLE name | PERSON name | STARTER | PERFORMER OF name
pub data IsDoneBy : AttrTree → Tokens → Tokens → Type 0 where
  ByRole : {n : NameAt} {p : ℕ} {a b c : Tokens} → IsWord word.Role p a b → IsName n b c → IsDoneBy (attr.Role n) a c
  ByPerson : {n : NameAt} {p : ℕ} {a b c : Tokens} → IsWord word.Person p a b → IsName n b c
      → IsDoneBy (attr.Person n) a c
  ByStarter : {p : ℕ} {a b : Tokens} → IsWord word.Starter p a b → IsDoneBy attr.Starter a b
  ByPerformer : {n : NameAt} {p q : ℕ} {a b c d : Tokens} → IsWord word.Performer p a b → IsWord word.Of q b c
      → IsName n c d → IsDoneBy (attr.Performer n) a d

-- behind START: AUTOMATIC | MANUAL
pub data IsStart : AttrTree → Tokens → Tokens → Type 0 where
  Manually : {p : ℕ} {a b : Tokens} → IsWord word.Manual p a b → IsStart (attr.Start true) a b
  Automatically : {p : ℕ} {a b : Tokens} → IsWord word.Automatic p a b → IsStart (attr.Start false) a b

-- attr = nattr | START start | EXPIRES number | DONE_BY person
pub data IsAttribute : AttrAt → Tokens → Tokens → Type 0 where
  CommonAttribute : {x : AttrAt} {a b : Tokens} → IsCommonAttribute x a b → IsAttribute x a b
  StartAttribute : {x : AttrTree} {p : ℕ} {a b c : Tokens} → IsWord word.Start p a b → IsStart x b c
      → IsAttribute (record { place = p; what = x }) a c
  ExpiresAttribute : {n : NumberAt} {p : ℕ} {a b c : Tokens} → IsWord word.Expires p a b → IsNumber n b c
      → IsAttribute (record { place = p; what = attr.Expires n }) a c
  DoneByAttribute : {x : AttrTree} {p : ℕ} {a b c : Tokens} → IsWord word.DoneBy p a b → IsDoneBy x b c
      → IsAttribute (record { place = p; what = x }) a c

-- attr*
pub data AreAttributes : List AttrAt → Tokens → Tokens → Type 0 where
  NoAttribute : {a : Tokens} → AreAttributes [] a a
  MoreAttributes : {xs : List AttrAt} {x : AttrAt} {a b c : Tokens} → AreAttributes xs a b → IsAttribute x b c
      → AreAttributes (xs ++ x ∷ []) a c

-- PROGRAM_ACTIVITY name ( name , name ) attr* END name
pub data IsProgramActivity : ActivityTree → Tokens → Tokens → Type 0 where
  ProgramActivity : {name input output end : NameAt} {attrs : List AttrAt} {p : ℕ} {a b c d e f : Tokens}
      → IsWord word.ProgramActivity p a b → IsName name b c → AreStructures input output c d → AreAttributes attrs d e
      → IsClosing end e f → IsProgramActivity (record {
        place = p;
        work = work.Program;
        name = name;
        input =
            input;
        output = output;
        attrs = attrs;
        end = end;
      }) a f

-- PROCESS_ACTIVITY name ( name , name ) PROCESS name nattr* END name
pub data IsProcessActivity : ActivityTree → Tokens → Tokens → Type 0 where
  ProcessActivity : {name input output process end : NameAt} {attrs : List AttrAt} {p q : ℕ} {a b c d e f g h : Tokens}
      → IsWord word.ProcessActivity p a b → IsName name b c → AreStructures input output c d
      → IsWord word.Process q d e → IsName process e f → AreCommonAttributes attrs f g → IsClosing end g h
      → IsProcessActivity (record {
        place = p;
        work = work.Process process;
        name = name;
        input = input;
        output =
            output;
        attrs = attrs;
        end = end;
      }) a h

-- the number says how many levels of BLOCK are left
mutual
  -- BLOCK name ( name , name ) nattr* element* END name
  pub data IsBlock : ℕ → ActivityTree → Tokens → Tokens → Type 0 where
    BlockActivity : {n : ℕ} {name input output end : NameAt} {attrs : List AttrAt} {elements : List ElementTree} {p : ℕ}
        {a b c d e f g : Tokens} → 0 < n → IsWord word.Block p a b → IsName name b c → AreStructures input output c d
        → AreCommonAttributes attrs d e → AreElements (n - 1) elements e f → IsClosing end f g
        → IsBlock n (record {
          place = p;
          work = work.Block elements;
          name = name;
          input = input;
          output =
              output;
          attrs = attrs;
          end = end;
        }) a g

  -- element = activity | control | dataline
  pub data IsElement : ℕ → ElementTree → Tokens → Tokens → Type 0 where
    BlockElement : {n : ℕ} {x : ActivityTree} {a b : Tokens} → IsBlock n x a b → IsElement n (element.Activity x) a b
    ProcessElement : {n : ℕ} {x : ActivityTree} {a b : Tokens} → IsProcessActivity x a b
        → IsElement n (element.Activity x) a b
    ProgramElement : {n : ℕ} {x : ActivityTree} {a b : Tokens} → IsProgramActivity x a b
        → IsElement n (element.Activity x) a b
    ControlElement : {n : ℕ} {x : ControlTree} {a b : Tokens} → IsControl x a b → IsElement n (element.Control x) a b
    DataElement : {n : ℕ} {x : DataTree} {a b : Tokens} → IsDataLine x a b → IsElement n (element.Line x) a b

  -- element*
  pub data AreElements : ℕ → List ElementTree → Tokens → Tokens → Type 0 where
    NoElement : {n : ℕ} {a : Tokens} → AreElements n [] a a
    MoreElements : {n : ℕ} {xs : List ElementTree} {x : ElementTree} {a b c : Tokens} → AreElements n xs a b
        → IsElement n x b c → AreElements n (xs ++ x ∷ []) a c
