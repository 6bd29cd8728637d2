-- The grammar of a text and its items, with their trees.
use Rattle.std.specs.Prelude.{ℕ, List, [], ◌∷◌, ◌++◌, Option, Some, None}
use Rattle.flow_table.specs.declared.keyword.Keyword.TheVariants as word
use Rattle.flow_model.specs.declared.trees.NameAt.{NameAt}
use Rattle.flow_model.specs.declared.trees.NumberAt.{NumberAt}
use Rattle.flow_model.specs.declared.trees.KindTree.{KindTree}
use Rattle.flow_model.specs.declared.trees.KindTree.TheVariants as kind
use Rattle.flow_model.specs.declared.trees.Member.{Member}
use Rattle.flow_model.specs.declared.trees.StructDef.{StructDef}
use Rattle.flow_model.specs.declared.trees.PersonTree.{PersonTree}
use Rattle.flow_model.specs.declared.trees.ElementTree.{ElementTree}
use Rattle.flow_model.specs.declared.trees.ProcessTree.{ProcessTree}
use Rattle.flow_model.specs.declared.trees.ItemTree.{ItemTree}
use Rattle.flow_model.specs.declared.trees.ItemTree.TheVariants as item
use Rattle.flow_model.specs.declared.trees.Tree.{Tree}
use Rattle.fdl_lexer.specs.declared.kinds.Mark.TheVariants as mark
use Rattle.fdl_parser.specs.Tokens.{Tokens, IsWord, IsMark, IsName, IsNumber}
use Rattle.fdl_parser.specs.Activities.{AreStructures, IsClosing, AreElements}

-- how many levels of BLOCK a text may have
abbrev pub block_levels : ℕ
block_levels = 64

-- the kind of a member: LONG | STRING | name
pub data IsKind : KindTree → Tokens → Tokens → Type 0 where
  LongKind : {p : ℕ} {a b : Tokens} → IsWord word.Long p a b → IsKind kind.Long a b
  StringKind : {p : ℕ} {a b : Tokens} → IsWord word.String p a b → IsKind kind.Str a b
  StructKind : {n : NameAt} {a b : Tokens} → IsName n a b → IsKind (kind.Struct n) a b

-- the count of an array: [ ( number ) ]
pub data IsCount : Option NumberAt → Tokens → Tokens → Type 0 where
  NoCount : {a : Tokens} → IsCount None a a
  OneCount : {n : NumberAt} {p q : ℕ} {a b c d : Tokens} → IsMark mark.Open p a b → IsNumber n b c
      → IsMark mark.Close q c d → IsCount (Some n) a d

-- member = name : kind [ ( number ) ] ;
pub data IsMember : Member → Tokens → Tokens → Type 0 where
  OneMember : {name : NameAt} {k : KindTree} {count : Option NumberAt} {p q : ℕ} {a b c d e f : Tokens}
      → IsName name a b → IsMark mark.Colon p b c → IsKind k c d → IsCount count d e → IsMark mark.Semicolon q e f
      → IsMember (record { name = name; kind = k; count = count }) a f

-- member*
pub data AreMembers : List Member → Tokens → Tokens → Type 0 where
  NoMember : {a : Tokens} → AreMembers [] a a
  MoreMembers : {xs : List Member} {x : Member} {a b c : Tokens} → AreMembers xs a b → IsMember x b c
      → AreMembers (xs ++ x ∷ []) a c

-- STRUCTURE name member* END name
pub data IsStructure : StructDef → Tokens → Tokens → Type 0 where
  OneStructure : {name end : NameAt} {members : List Member} {p : ℕ} {a b c d e : Tokens} → IsWord word.Structure p a b
      → IsName name b c → AreMembers members c d → IsClosing end d e
      → IsStructure (record { name = name; members = members; end = end }) a e

-- ROLES name (, name)*
pub data AreNamed : List NameAt → Tokens → Tokens → Type 0 where
  FirstRole : {n : NameAt} {p : ℕ} {a b c : Tokens} → IsWord word.Roles p a b → IsName n b c → AreNamed (n ∷ []) a c
  NextRole : {ns : List NameAt} {n : NameAt} {p : ℕ} {a b c d : Tokens} → AreNamed ns a b → IsMark mark.Comma p b c
      → IsName n c d → AreNamed (ns ++ n ∷ []) a d

-- the roles of a person, if there are any
pub data AreRoles : List NameAt → Tokens → Tokens → Type 0 where
  NoRoles : {a : Tokens} → AreRoles [] a a
  SomeRoles : {ns : List NameAt} {a b : Tokens} → AreNamed ns a b → AreRoles ns a b

-- PERSON name [ROLES name (, name)*] END name
pub data IsPerson : PersonTree → Tokens → Tokens → Type 0 where
  OnePerson : {name end : NameAt} {roles : List NameAt} {p : ℕ} {a b c d e : Tokens} → IsWord word.Person p a b
      → IsName name b c → AreRoles roles c d → IsClosing end d e
      → IsPerson (record { name = name; roles = roles; end = end }) a e

-- PROCESS name ( name , name ) element* END name
pub data IsProcess : ProcessTree → Tokens → Tokens → Type 0 where
  OneProcess : {name input output end : NameAt} {elements : List ElementTree} {p : ℕ} {a b c d e f : Tokens}
      → IsWord word.Process p a b → IsName name b c → AreStructures input output c d
      → AreElements block_levels elements d e → IsClosing end e f
      → IsProcess (record { place = p; name = name; input = input; output = output; elements = elements; end = end }) a
      f

-- item = structure | person | process
pub data IsItem : ItemTree → Tokens → Tokens → Type 0 where
  StructureItem : {x : StructDef} {a b : Tokens} → IsStructure x a b → IsItem (item.Structure x) a b
  PersonItem : {x : PersonTree} {a b : Tokens} → IsPerson x a b → IsItem (item.Person x) a b
  ProcessItem : {x : ProcessTree} {a b : Tokens} → IsProcess x a b → IsItem (item.Process x) a b

-- item*
pub data AreItems : List ItemTree → Tokens → Tokens → Type 0 where
  NoItem : {a : Tokens} → AreItems [] a a
  MoreItems : {xs : List ItemTree} {x : ItemTree} {a b c : Tokens} → AreItems xs a b → IsItem x b c
      → AreItems (xs ++ x ∷ []) a c

-- text = item*: this is the tree of these tokens
abbrev pub IsTree : Tree → Tokens → Type 0
IsTree tree tokens = AreItems tree.items tokens []
