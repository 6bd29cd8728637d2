-- Trees that are the same but for places.
use Rattle.std.specs.Prelude.{◌≡◌, ℕ, Bool, is_some, Option, Some, None, List, [], ◌∷◌}
use Rattle.flow_model.specs.declared.graphs.Operator.{Operator}
use Rattle.flow_model.specs.declared.trees.NameAt.{NameAt}
use Rattle.flow_model.specs.declared.trees.NumberAt.{NumberAt}
use Rattle.flow_model.specs.declared.trees.LeafAt.{LeafAt}
use Rattle.flow_model.specs.declared.trees.OperandTree.{OperandTree}
use Rattle.flow_model.specs.declared.trees.OperandTree.TheVariants as operand
use Rattle.flow_model.specs.declared.trees.TermTree.{TermTree}
use Rattle.flow_model.specs.declared.trees.Side.{Side}
use Rattle.flow_model.specs.declared.trees.Side.TheVariants as side
use Rattle.flow_model.specs.declared.trees.Cond.{Cond}
use Rattle.flow_model.specs.declared.trees.Cond.TheVariants as cond
use Rattle.flow_model.specs.declared.trees.CondAt.{CondAt}
use Rattle.flow_model.specs.declared.trees.WhenTree.{WhenTree}
use Rattle.flow_model.specs.declared.trees.WhenTree.TheVariants as when
use Rattle.flow_model.specs.declared.trees.ControlTree.{ControlTree}
use Rattle.flow_model.specs.declared.trees.EndTree.{EndTree}
use Rattle.flow_model.specs.declared.trees.EndTree.TheVariants as end
use Rattle.flow_model.specs.declared.trees.EndsTree.{EndsTree}
use Rattle.flow_model.specs.declared.trees.EndsTree.TheVariants as ends
use Rattle.flow_model.specs.declared.trees.MapTree.{MapTree}
use Rattle.flow_model.specs.declared.trees.DataTree.{DataTree}
use Rattle.flow_model.specs.declared.trees.JoinTree.{JoinTree}
use Rattle.flow_model.specs.declared.trees.JoinTree.TheVariants as join
use Rattle.flow_model.specs.declared.trees.AttrTree.{AttrTree}
use Rattle.flow_model.specs.declared.trees.AttrTree.TheVariants as attr
use Rattle.flow_model.specs.declared.trees.AttrAt.{AttrAt}
use Rattle.flow_model.specs.declared.trees.WorkTree.{WorkTree}
use Rattle.flow_model.specs.declared.trees.WorkTree.TheVariants as work
use Rattle.flow_model.specs.declared.trees.ActivityTree.{ActivityTree}
use Rattle.flow_model.specs.declared.trees.ElementTree.{ElementTree}
use Rattle.flow_model.specs.declared.trees.ElementTree.TheVariants as element
use Rattle.flow_model.specs.declared.trees.KindTree.{KindTree}
use Rattle.flow_model.specs.declared.trees.KindTree.TheVariants as kind
use Rattle.flow_model.specs.declared.trees.Member.{Member}
use Rattle.flow_model.specs.declared.trees.StructDef.{StructDef}
use Rattle.flow_model.specs.declared.trees.PersonTree.{PersonTree}
use Rattle.flow_model.specs.declared.trees.ProcessTree.{ProcessTree}
use Rattle.flow_model.specs.declared.trees.ItemTree.{ItemTree}
use Rattle.flow_model.specs.declared.trees.ItemTree.TheVariants as item
use Rattle.flow_model.specs.declared.trees.Tree.{Tree}

-- two lists are so, one by one
pub data Each (A : Type 0) (R : A → A → Type 0) : List A → List A → Type 0 where
  NoneLeft : Each A R [] []
  OneMore : {x y : A} {xs ys : List A} → R x y → Each A R xs ys → Each A R (x ∷ xs) (y ∷ ys)

-- ---- names, numbers, leaves

-- two names
abbrev pub SameName : NameAt → NameAt → Type 0
SameName x y = x.name ≡ y.name

-- two numbers: both have a sign, or neither has one
pub record SameNumber (x y : NumberAt) : Type 0 where
  pub sign : is_some x.minus ≡ is_some y.minus
  pub size : x.size ≡ y.size

-- two leaves
abbrev pub SameLeaf : LeafAt → LeafAt → Type 0
SameLeaf x y = x.steps ≡ y.steps

-- two maps of a data line
pub record SameMap (x y : MapTree) : Type 0 where
  pub from : SameLeaf x.from y.from
  pub to : SameLeaf x.to y.to

-- ---- conditions

-- two operands
pub data SameOperand : OperandTree → OperandTree → Type 0 where
  TwoLeaves : {x y : LeafAt} → SameLeaf x y → SameOperand (operand.Leaf x) (operand.Leaf y)
  TwoNumbers : {x y : NumberAt} → SameNumber x y → SameOperand (operand.Number x) (operand.Number y)

-- two operands with their signs
pub record SameTerm (x y : TermTree) : Type 0 where
  pub sign : x.minus ≡ y.minus
  pub operand : SameOperand x.operand y.operand

-- two sides of a comparison
pub data SameSide : Side → Side → Type 0 where
  TwoTexts : {value : List ℕ} {p q : ℕ} → SameSide (side.Text value p) (side.Text value q)
  TwoSums : {xs ys : List TermTree} → Each TermTree SameTerm xs ys → SameSide (side.Sum xs) (side.Sum ys)

mutual
  -- two conditions
  pub data SameCond : Cond → Cond → Type 0 where
    TwoComparisons : {l r k s : Side} {o : Operator} → SameSide l k → SameSide r s
        → SameCond (cond.Compare l o r) (cond.Compare k o s)
    TwoDenials : {x y : Cond} → SameCond x y → SameCond (cond.Not x) (cond.Not y)
    TwoAnds : {xs ys : List Cond} → SameConds xs ys → SameCond (cond.And xs) (cond.And ys)
    TwoOrs : {xs ys : List Cond} → SameConds xs ys → SameCond (cond.Or xs) (cond.Or ys)

  -- their members
  pub data SameConds : List Cond → List Cond → Type 0 where
    NoConds : SameConds [] []
    MoreConds : {x y : Cond} {xs ys : List Cond} → SameCond x y → SameConds xs ys → SameConds (x ∷ xs) (y ∷ ys)

-- two conditions with their places
abbrev pub SameCondAt : CondAt → CondAt → Type 0
SameCondAt x y = SameCond x.cond y.cond

-- ---- lines

-- two transition conditions
pub data SameWhen : WhenTree → WhenTree → Type 0 where
  TwoAlways : SameWhen when.Always when.Always
  TwoOtherwise : SameWhen when.Otherwise when.Otherwise
  TwoWhen : {x y : CondAt} → SameCondAt x y → SameWhen (when.Cond x) (when.Cond y)

-- two CONTROL lines
pub record SameControl (x y : ControlTree) : Type 0 where
  pub from : SameName x.from y.from
  pub to : SameName x.to y.to
  pub when : SameWhen x.when y.when

-- two ends of DATA lines
pub data SameEnd : EndTree → EndTree → Type 0 where
  TwoBorders : SameEnd end.Border end.Border
  TwoActivities : {x y : NameAt} → SameName x y → SameEnd (end.Activity x) (end.Activity y)

-- both ends of two DATA lines
pub data SameEnds : EndsTree → EndsTree → Type 0 where
  TwoLines : {from to out into : EndTree} → SameEnd from out → SameEnd to into
      → SameEnds (ends.Line from to) (ends.Line out into)
  TwoLoops : {x y : NameAt} → SameName x y → SameEnds (ends.Loop x) (ends.Loop y)

-- two DATA lines
pub record SameData (x y : DataTree) : Type 0 where
  pub ends : SameEnds x.ends y.ends
  pub maps : Each MapTree SameMap x.maps y.maps

-- ---- activities

-- two start conditions
pub data SameJoin : JoinTree → JoinTree → Type 0 where
  TwoAll : SameJoin join.All join.All
  TwoAtLeastOne : SameJoin join.AtLeastOne join.AtLeastOne
  TwoAtLeast : {x y : NumberAt} → SameNumber x y → SameJoin (join.AtLeast x) (join.AtLeast y)

-- two attributes without their places
pub data SameWhat : AttrTree → AttrTree → Type 0 where
  TwoJoins : {x y : JoinTree} → SameJoin x y → SameWhat (attr.When x) (attr.When y)
  TwoExits : {x y : CondAt} → SameCondAt x y → SameWhat (attr.Exit x) (attr.Exit y)
  TwoExpires : {x y : NumberAt} → SameNumber x y → SameWhat (attr.Expires x) (attr.Expires y)
  TwoRoles : {x y : NameAt} → SameName x y → SameWhat (attr.Role x) (attr.Role y)
  TwoPersons : {x y : NameAt} → SameName x y → SameWhat (attr.Person x) (attr.Person y)
  TwoPerformers : {x y : NameAt} → SameName x y → SameWhat (attr.Performer x) (attr.Performer y)
  TwoStarts : {manual : Bool} → SameWhat (attr.Start manual) (attr.Start manual)
  TwoStarters : SameWhat attr.Starter attr.Starter

-- two attributes
abbrev pub SameAttr : AttrAt → AttrAt → Type 0
SameAttr x y = SameWhat x.what y.what

mutual
  -- what two activities do
  pub data SameWork : WorkTree → WorkTree → Type 0 where
    TwoPrograms : SameWork work.Program work.Program
    TwoCalls : {x y : NameAt} → SameName x y → SameWork (work.Process x) (work.Process y)
    TwoBlocks : {xs ys : List ElementTree} → SameElements xs ys → SameWork (work.Block xs) (work.Block ys)

  -- two activities
  pub data SameActivity : ActivityTree → ActivityTree → Type 0 where
    TwoActivityTrees : {x y : ActivityTree} → SameWork x.work y.work → SameName x.name y.name → SameName x.input y.input
        → SameName x.output y.output → Each AttrAt SameAttr x.attrs y.attrs → SameName x.end y.end → SameActivity x y

  -- two elements
  pub data SameElement : ElementTree → ElementTree → Type 0 where
    TwoActs : {x y : ActivityTree} → SameActivity x y → SameElement (element.Activity x) (element.Activity y)
    TwoControls : {x y : ControlTree} → SameControl x y → SameElement (element.Control x) (element.Control y)
    TwoData : {x y : DataTree} → SameData x y → SameElement (element.Line x) (element.Line y)

  -- the elements of two processes or blocks
  pub data SameElements : List ElementTree → List ElementTree → Type 0 where
    NoElements : SameElements [] []
    MoreElements : {x y : ElementTree} {xs ys : List ElementTree} → SameElement x y → SameElements xs ys
        → SameElements (x ∷ xs) (y ∷ ys)

-- ---- items

-- the kinds of two members
pub data SameKind : KindTree → KindTree → Type 0 where
  TwoLong : SameKind kind.Long kind.Long
  TwoString : SameKind kind.Str kind.Str
  TwoStructs : {x y : NameAt} → SameName x y → SameKind (kind.Struct x) (kind.Struct y)

-- the counts of two members
pub data SameCount : Option NumberAt → Option NumberAt → Type 0 where
  NoCounts : SameCount None None
  TwoCounts : {x y : NumberAt} → SameNumber x y → SameCount (Some x) (Some y)

-- two members
pub record SameMember (x y : Member) : Type 0 where
  pub name : SameName x.name y.name
  pub kind : SameKind x.kind y.kind
  pub count : SameCount x.count y.count

-- two structures
pub record SameStructure (x y : StructDef) : Type 0 where
  pub name : SameName x.name y.name
  pub members : Each Member SameMember x.members y.members
  pub end : SameName x.end y.end

-- two persons
pub record SamePerson (x y : PersonTree) : Type 0 where
  pub name : SameName x.name y.name
  pub roles : Each NameAt SameName x.roles y.roles
  pub end : SameName x.end y.end

-- two processes
pub record SameProcess (x y : ProcessTree) : Type 0 where
  pub name : SameName x.name y.name
  pub input : SameName x.input y.input
  pub output : SameName x.output y.output
  pub elements : SameElements x.elements y.elements
  pub end : SameName x.end y.end

-- two items
pub data SameItem : ItemTree → ItemTree → Type 0 where
  TwoStructures : {x y : StructDef} → SameStructure x y → SameItem (item.Structure x) (item.Structure y)
  TwoPeople : {x y : PersonTree} → SamePerson x y → SameItem (item.Person x) (item.Person y)
  TwoProcesses : {x y : ProcessTree} → SameProcess x y → SameItem (item.Process x) (item.Process y)

-- two trees
abbrev pub SameButPlaces : Tree → Tree → Type 0
SameButPlaces x y = Each ItemTree SameItem x.items y.items
