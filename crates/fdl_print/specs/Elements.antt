-- The tokens of activities, connectors, data lines and items, in lines.
use Rattle.std.specs.Prelude.{if◌then◌else◌, Option, Some, None, List, [], ◌∷◌, ◌++◌}
use Rattle.std.specs.List.{flat_map}
use Rattle.fdl_lexer.specs.declared.kinds.Mark.TheVariants as mark
use Rattle.flow_table.specs.declared.keyword.Keyword.{Keyword}
use Rattle.flow_table.specs.declared.keyword.Keyword.TheVariants as keyword
use Rattle.flow_model.specs.declared.trees.NameAt.{NameAt}
use Rattle.flow_model.specs.declared.trees.NumberAt.{NumberAt}
use Rattle.flow_model.specs.declared.trees.JoinTree.{JoinTree}
use Rattle.flow_model.specs.declared.trees.JoinTree.TheVariants as join
use Rattle.flow_model.specs.declared.trees.AttrTree.{AttrTree}
use Rattle.flow_model.specs.declared.trees.AttrTree.TheVariants as attr
use Rattle.flow_model.specs.declared.trees.AttrAt.{AttrAt}
use Rattle.flow_model.specs.declared.trees.WhenTree.{WhenTree}
use Rattle.flow_model.specs.declared.trees.WhenTree.TheVariants as transition
use Rattle.flow_model.specs.declared.trees.ControlTree.{ControlTree}
use Rattle.flow_model.specs.declared.trees.EndTree.{EndTree}
use Rattle.flow_model.specs.declared.trees.EndTree.TheVariants as end
use Rattle.flow_model.specs.declared.trees.EndsTree.{EndsTree}
use Rattle.flow_model.specs.declared.trees.EndsTree.TheVariants as ends
use Rattle.flow_model.specs.declared.trees.MapTree.{MapTree}
use Rattle.flow_model.specs.declared.trees.DataTree.{DataTree}
use Rattle.flow_model.specs.declared.trees.KindTree.{KindTree}
use Rattle.flow_model.specs.declared.trees.KindTree.TheVariants as kind
use Rattle.flow_model.specs.declared.trees.Member.{Member}
use Rattle.flow_model.specs.declared.trees.StructDef.{StructDef}
use Rattle.flow_model.specs.declared.trees.PersonTree.{PersonTree}
use Rattle.fdl_print.specs.Pieces.{Piece, Stop, word, sign, name}
use Rattle.fdl_print.specs.Parts.{number_pieces, leaf_pieces}
use Rattle.fdl_print.specs.Conditions.{condition_pieces}

-- END and the name behind it, as a line
abbrev pub closing_pieces : NameAt → List Piece
closing_pieces end = word keyword.End ∷ name end.name ∷ Stop ∷ []

-- a name and the two structures in their parentheses
abbrev pub heading_pieces : NameAt → NameAt → NameAt → List Piece
heading_pieces title input output =
    name title.name ∷ sign mark.Open ∷ name input.name ∷ sign mark.Comma ∷ name output.name ∷ sign mark.Close ∷ []

-- ---- attributes

-- a start condition, behind WHEN
abbrev pub join_pieces : JoinTree → List Piece
join_pieces join.All = word keyword.When ∷ word keyword.All ∷ word keyword.Connectors ∷ word keyword.True ∷ []
join_pieces join.AtLeastOne = word keyword.When ∷ word keyword.AtLeastOne ∷ word keyword.Connector ∷ word keyword.True
    ∷ []
join_pieces (join.AtLeast number) = word keyword.When ∷ word keyword.AtLeast ∷ number_pieces number
    ++ word keyword.Connectors ∷ word keyword.True ∷ []

-- the tokens of an attribute
abbrev pub attr_pieces : AttrTree → List Piece
attr_pieces (attr.When join) = join_pieces join
attr_pieces (attr.Exit cond) = word keyword.Exit ∷ word keyword.When ∷ condition_pieces cond
attr_pieces (attr.Start manual) = word keyword.Start ∷ word (if manual then keyword.Manual else keyword.Automatic) ∷ []
attr_pieces (attr.Expires minutes) = word keyword.Expires ∷ number_pieces minutes
attr_pieces (attr.Role role) = word keyword.DoneBy ∷ word keyword.Role ∷ name role.name ∷ []
attr_pieces (attr.Person person) = word keyword.DoneBy ∷ word keyword.Person ∷ name person.name ∷ []
attr_pieces attr.Starter = word keyword.DoneBy ∷ word keyword.Starter ∷ []
attr_pieces (attr.Performer activity) = word keyword.DoneBy ∷ word keyword.Performer ∷ word keyword.Of ∷ name
    activity.name ∷ []

-- an attribute as a line
unfoldable pub attr_line : AttrAt → List Piece
attr_line attribute = attr_pieces attribute.what ++ Stop ∷ []

-- ---- connectors and data lines

-- what follows the two names of a connector
abbrev pub when_pieces : WhenTree → List Piece
when_pieces transition.Always = []
when_pieces transition.Otherwise = word keyword.Otherwise ∷ []
when_pieces (transition.Cond cond) = word keyword.When ∷ condition_pieces cond

-- a connector as a line
abbrev pub control_pieces : ControlTree → List Piece
control_pieces control =
    word keyword.Control ∷ word keyword.From ∷ name control.from.name ∷ word keyword.To ∷ name control.to.name ∷
    when_pieces control.when ++ Stop ∷ []

-- an activity's name, or the word of the border
abbrev pub end_piece : EndTree → Keyword → Piece
end_piece end.Border border = word border
end_piece (end.Activity activity) border = name activity.name

-- the two ends of a data line, or the activity of a LOOP
abbrev pub ends_pieces : EndsTree → List Piece
ends_pieces (ends.Line from to) = word keyword.From ∷ end_piece from keyword.Source ∷ word keyword.To ∷ end_piece to
    keyword.Sink ∷ []
ends_pieces (ends.Loop activity) = word keyword.Loop ∷ name activity.name ∷ []

-- one leaf TO another
unfoldable pub map_pieces : MapTree → List Piece
map_pieces m = leaf_pieces m.from ++ word keyword.To ∷ leaf_pieces m.to

-- a later map of a line
unfoldable pub later_map : MapTree → List Piece
later_map m = sign mark.Comma ∷ map_pieces m

-- the maps of a data line, with commas between them
abbrev pub maps_pieces : List MapTree → List Piece
maps_pieces [] = []
maps_pieces (first ∷ later) = map_pieces first ++ flat_map later_map later

-- a data line
abbrev pub data_pieces : DataTree → List Piece
data_pieces line = word keyword.Data ∷ ends_pieces line.ends ++ word keyword.Map ∷ maps_pieces line.maps ++ Stop ∷ []

-- ---- structures and persons

-- the kind of a member
abbrev pub kind_piece : KindTree → Piece
kind_piece kind.Long = word keyword.Long
kind_piece kind.Str = word keyword.String
kind_piece (kind.Struct structure) = name structure.name

-- the count of an array in its parentheses
abbrev pub count_pieces : Option NumberAt → List Piece
count_pieces None = []
count_pieces (Some number) = sign mark.Open ∷ number_pieces number ++ sign mark.Close ∷ []

-- a member as a line
unfoldable pub member_line : Member → List Piece
member_line member = name member.name.name ∷ sign mark.Colon ∷ kind_piece member.kind ∷ count_pieces member.count
    ++ sign mark.Semicolon ∷ Stop ∷ []

-- the lines of a structure
abbrev pub structure_pieces : StructDef → List Piece
structure_pieces structure =
    word keyword.Structure ∷ name structure.name.name ∷ Stop ∷ flat_map member_line structure.members
    ++ closing_pieces structure.end

-- a later role of a person
unfoldable pub later_role : NameAt → List Piece
later_role role = sign mark.Comma ∷ name role.name ∷ []

-- the first role of a person
unfoldable pub first_role : NameAt → List Piece
first_role role = word keyword.Roles ∷ name role.name ∷ []

-- the roles of a person, with commas between them
abbrev pub roles_pieces : List NameAt → List Piece
roles_pieces [] = []
roles_pieces (first ∷ later) = first_role first ++ flat_map later_role later

-- the lines of a person
abbrev pub person_pieces : PersonTree → List Piece
person_pieces person = word keyword.Person ∷ name person.name.name ∷ roles_pieces person.roles
    ++ Stop ∷ closing_pieces person.end
