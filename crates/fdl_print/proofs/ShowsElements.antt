-- Activities, connectors and data lines are read again from their pieces.
use Rattle.std.proofs.Common.{◌≡◌, ℕ, zero, suc, ◌-◌, ◌<◌, true, false, List, [], ◌∷◌, ◌++◌, length, refl, sym, ap, ◌∙◌, subst, arith, append-nil, length-append, append_assoc, flat_map}
use Rattle.flow_table.specs.declared.keyword.Keyword.TheVariants as keyword
use Rattle.flow_model.specs.declared.trees.NameAt.{NameAt}
use Rattle.flow_model.specs.declared.trees.WhenTree.{WhenTree}
use Rattle.flow_model.specs.declared.trees.WhenTree.TheVariants as when
use Rattle.flow_model.specs.declared.trees.ControlTree.{ControlTree}
use Rattle.flow_model.specs.declared.trees.EndTree.{EndTree}
use Rattle.flow_model.specs.declared.trees.EndTree.TheVariants as end_of
use Rattle.flow_model.specs.declared.trees.EndsTree.{EndsTree}
use Rattle.flow_model.specs.declared.trees.EndsTree.TheVariants as ends_of
use Rattle.flow_model.specs.declared.trees.MapTree.{MapTree}
use Rattle.flow_model.specs.declared.trees.DataTree.{DataTree}
use Rattle.flow_model.specs.declared.trees.JoinTree.{JoinTree}
use Rattle.flow_model.specs.declared.trees.JoinTree.TheVariants as join
use Rattle.flow_model.specs.declared.trees.AttrTree.TheVariants as attr
use Rattle.flow_model.specs.declared.trees.AttrAt.{AttrAt}
use Rattle.flow_model.specs.declared.trees.WorkTree.TheVariants as work
use Rattle.flow_model.specs.declared.trees.ActivityTree.{ActivityTree}
use Rattle.flow_model.specs.declared.trees.ElementTree.{ElementTree}
use Rattle.flow_model.specs.declared.trees.ElementTree.TheVariants as element
use Rattle.fdl_lexer.specs.declared.kinds.What.TheVariants.{Word, Mark}
use Rattle.fdl_lexer.specs.declared.kinds.Mark.TheVariants as mark
use Rattle.fdl_parser.specs.Tokens.{Tokens, IsToken, IsName}
use Rattle.fdl_parser.specs.Lines.{IsTransition, Unconditional, Otherwise, Conditional, IsControl, ControlLine, IsEnd, BorderEnd, ActivityEnd, AreEnds, LoopEnds, LineEnds, IsMap, LeafToLeaf, AreMaps, FirstMap, MoreMaps, IsDataLine, DataLine}
use Rattle.fdl_parser.specs.Activities.{AreStructures, InputOutput, IsClosing, EndName, ConnectorsTrue, BothWords, IsJoin, AllTrue, OneTrue, SomeTrue, IsCommonAttribute, WhenJoin, ExitWhen, AreCommonAttributes, NoCommon, MoreCommon, ByRole, ByPerson, ByStarter, ByPerformer, Manually, Automatically, IsAttribute, CommonAttribute, StartAttribute, ExpiresAttribute, DoneByAttribute, AreAttributes, NoAttribute, MoreAttributes, IsProgramActivity, ProgramActivity, IsProcessActivity, ProcessActivity, IsBlock, BlockActivity, IsElement, BlockElement, ProcessElement, ProgramElement, ControlElement, DataElement, AreElements, NoElement, MoreElements}
use Rattle.fdl_print.specs.Pieces.{Piece, Stop, word, sign, name}
use Rattle.fdl_print.specs.Elements.{closing_pieces, heading_pieces, join_pieces, attr_pieces, attr_line, when_pieces, control_pieces, end_piece, ends_pieces, map_pieces, later_map, maps_pieces, data_pieces}
use Rattle.fdl_print.specs.Canonical.{Worked, activity_pieces, element_pieces}
use Rattle.fdl_print.specs.Same.{Each, NoneLeft, OneMore, SameName, SameMap, SameWhen, TwoAlways, TwoOtherwise, TwoWhen, SameControl, SameEnd, TwoBorders, TwoActivities, SameEnds, TwoLines, TwoLoops, SameData, SameJoin, TwoAll, TwoAtLeastOne, TwoAtLeast, TwoJoins, TwoExits, TwoExpires, TwoRoles, TwoPersons, TwoPerformers, TwoStarts, TwoStarters, SameAttr, TwoPrograms, TwoCalls, TwoBlocks, SameActivity, TwoActivityTrees, SameElement, TwoActs, TwoControls, TwoData, SameElements}
use Rattle.fdl_print.specs.Same as same
use Rattle.fdl_print.proofs.Blocks.{worked_program, worked_process, worked_block, element_activity, element_control, element_line}
use Rattle.fdl_print.proofs.Fine.{fine_open, fine_close, fine_comma}
use Rattle.fdl_print.proofs.Shows.{Shows, Again, Then, TokenAt, chain, so, by, line, stop_first, nothing_shows, none_shows, flat_shows, more_shows, more_later, token_shows, word_shows, name_shows, number_shows, leaf_shows}
use Rattle.fdl_print.proofs.ShowsConditions.{condition_shows}

-- ---- lines

transition_shows : {x : WhenTree} {a b : Tokens} → IsTransition x a b → Shows (when_pieces x) (Again WhenTree SameWhen IsTransition x) a b
transition_shows Unconditional = so (λ u v t. record { tree = when.Always; is = subst (λ (z : Tokens). IsTransition when.Always u z) t Unconditional; same = TwoAlways }) nothing_shows
transition_shows (Otherwise h) = so (λ u v t. record { tree = when.Otherwise; is = Otherwise t.is; same = TwoOtherwise }) (word_shows h)
transition_shows (Conditional h j) = so (λ u v t. record { tree = when.Cond t.second.tree; is = Conditional t.first.is t.second.is; same = TwoWhen t.second.same }) (chain (word_shows h) (condition_shows j))

control_shows : {x : ControlTree} {a b : Tokens} → IsControl x a b → Shows (control_pieces x) (Again ControlTree SameControl IsControl x) a b
control_shows (ControlLine h1 h2 h3 h4 h5 h6) =
    line (so (λ u v t. record {
      tree = record { place = t.first.place; from = t.second.second.first.tree; to = t.second.second.second.second.first.tree; when = t.second.second.second.second.second.tree };
      is = ControlLine t.first.is t.second.first.is t.second.second.first.is t.second.second.second.first.is t.second.second.second.second.first.is t.second.second.second.second.second.is;
      same = record { from = t.second.second.first.same; to = t.second.second.second.second.first.same; when = t.second.second.second.second.second.same };
    }) (chain (word_shows h1) (chain (word_shows h2) (chain (name_shows h3) (chain (word_shows h4) (chain (name_shows h5) (transition_shows h6)))))))

source_shows : {x : EndTree} {a b : Tokens} → IsEnd keyword.Source x a b → Shows (end_piece x keyword.Source ∷ []) (Again EndTree SameEnd (IsEnd keyword.Source) x) a b
source_shows (BorderEnd h) = so (λ u v t. record { tree = end_of.Border; is = BorderEnd t.is; same = TwoBorders }) (word_shows h)
source_shows (ActivityEnd h) = so (λ u v t. record { tree = end_of.Activity t.tree; is = ActivityEnd t.is; same = TwoActivities t.same }) (name_shows h)

sink_shows : {x : EndTree} {a b : Tokens} → IsEnd keyword.Sink x a b → Shows (end_piece x keyword.Sink ∷ []) (Again EndTree SameEnd (IsEnd keyword.Sink) x) a b
sink_shows (BorderEnd h) = so (λ u v t. record { tree = end_of.Border; is = BorderEnd t.is; same = TwoBorders }) (word_shows h)
sink_shows (ActivityEnd h) = so (λ u v t. record { tree = end_of.Activity t.tree; is = ActivityEnd t.is; same = TwoActivities t.same }) (name_shows h)

ends_shows : {x : EndsTree} {a b : Tokens} → AreEnds x a b → Shows (ends_pieces x) (Again EndsTree SameEnds AreEnds x) a b
ends_shows (LoopEnds h j) = so (λ u v t. record { tree = ends_of.Loop t.second.tree; is = LoopEnds t.first.is t.second.is; same = TwoLoops t.second.same }) (chain (word_shows h) (name_shows j))
ends_shows (LineEnds h1 h2 h3 h4) =
    so (λ u v t. record { tree = ends_of.Line t.second.first.tree t.second.second.second.tree; is = LineEnds t.first.is t.second.first.is t.second.second.first.is t.second.second.second.is; same = TwoLines t.second.first.same t.second.second.second.same })
    (chain (word_shows h1) (chain (source_shows h2) (chain (word_shows h3) (sink_shows h4))))

map_shows : {x : MapTree} {a b : Tokens} → IsMap x a b → Shows (map_pieces x) (Again MapTree SameMap IsMap x) a b
unfolding map_pieces
map_shows (LeafToLeaf h j k) =
    so (λ u v t. record { tree = record { from = t.first.tree; to = t.second.second.tree }; is = LeafToLeaf t.first.is t.second.first.is t.second.second.is; same = record { from = t.first.same; to = t.second.second.same } })
    (chain (leaf_shows h) (chain (word_shows j) (leaf_shows k)))

maps_some : {ms : List MapTree} {a b : Tokens} → AreMaps ms a b → 0 < length ms
maps_some (FirstMap h j) = omega arith
maps_some (MoreMaps {ms = ms} {m = m} h j k) = omega (arith, length-append ms (m ∷ []))

maps_shows : {ms : List MapTree} {a b : Tokens} → AreMaps ms a b → Shows (word keyword.Map ∷ maps_pieces ms) (Again (List MapTree) (Each MapTree SameMap) AreMaps ms) a b
unfolding later_map
maps_shows (FirstMap {m = m} h j) =
    by (ap (λ (ps : List Piece). word keyword.Map ∷ ps) (sym (append-nil (map_pieces m))))
    (so (λ u v t. record { tree = t.second.tree ∷ []; is = FirstMap t.first.is t.second.is; same = OneMore t.second.same NoneLeft }) (chain (word_shows h) (map_shows j)))
maps_shows (MoreMaps {ms = ms} {m = m} h j k) =
    by (ap (λ (ps : List Piece). word keyword.Map ∷ ps) (more_later map_pieces later_map maps_pieces (λ x xs. refl) ms m (maps_some h)))
    (more_shows {N = λ x u v. Then (TokenAt (Mark mark.Comma)) (IsMap x) u v} (λ ys y u v w i n. MoreMaps i n.first.is n.second) (maps_shows h)
    (so (λ u v t. record { tree = t.second.tree; is = record { mid = t.mid; first = t.first; second = t.second.is }; same = t.second.same }) (chain (token_shows fine_comma j) (map_shows k))))

data_shows : {x : DataTree} {a b : Tokens} → IsDataLine x a b → Shows (data_pieces x) (Again DataTree SameData IsDataLine x) a b
data_shows (DataLine h j k) =
    line (so (λ u v t. record {
      tree = record { place = t.first.place; ends = t.second.first.tree; maps = t.second.second.tree };
      is = DataLine t.first.is t.second.first.is t.second.second.is;
      same = record { ends = t.second.first.same; maps = t.second.second.same };
    }) (chain (word_shows h) (chain (ends_shows j) (maps_shows k))))

-- ---- attributes

pub closing_shows : {n : NameAt} {a b : Tokens} → IsClosing n a b → Shows (closing_pieces n) (Again NameAt SameName IsClosing n) a b
closing_shows (EndName h j) = line (so (λ u v t. record { tree = t.second.tree; is = EndName t.first.is t.second.is; same = t.second.same }) (chain (word_shows h) (name_shows j)))

-- the structures of a container, read again
pub record StructuresAgain (input output : NameAt) (a b : Tokens) : Type 0 where
  pub first : NameAt
  pub second : NameAt
  pub are : AreStructures first second a b
  pub same_input : SameName input first
  pub same_output : SameName output second

structures_shows : {input output : NameAt} {a b : Tokens} → AreStructures input output a b
    → Shows (sign mark.Open ∷ name input.name ∷ sign mark.Comma ∷ name output.name ∷ sign mark.Close ∷ []) (StructuresAgain input output) a b
structures_shows (InputOutput h1 h2 h3 h4 h5) =
    so (λ u v t. record {
      first = t.second.first.tree;
      second = t.second.second.second.first.tree;
      are = InputOutput t.first.is t.second.first.is t.second.second.first.is t.second.second.second.first.is t.second.second.second.second.is;
      same_input = t.second.first.same;
      same_output = t.second.second.second.first.same;
    }) (chain (token_shows fine_open h1) (chain (name_shows h2) (chain (token_shows fine_comma h3) (chain (name_shows h4) (token_shows fine_close h5)))))

-- a name and the two structures in their parentheses
pub heading_shows : {n input output : NameAt} {a b c : Tokens} → IsName n a b → AreStructures input output b c
    → Shows (heading_pieces n input output) (Then (Again NameAt SameName IsName n) (StructuresAgain input output)) a c
heading_shows h j = chain (name_shows h) (structures_shows j)

connectors_shows : {a b : Tokens} → ConnectorsTrue a b → Shows (word keyword.Connectors ∷ word keyword.True ∷ []) ConnectorsTrue a b
connectors_shows (BothWords h j) = so (λ u v t. BothWords t.first.is t.second.is) (chain (word_shows h) (word_shows j))

join_shows : {x : JoinTree} {p : ℕ} {a b c : Tokens} → IsToken (Word keyword.When) p a b → IsJoin x b c → Shows (join_pieces x) (Then (TokenAt (Word keyword.When)) (Again JoinTree SameJoin IsJoin x)) a c
join_shows w (AllTrue h j) = chain (word_shows w) (so (λ u v t. record { tree = join.All; is = AllTrue t.first.is t.second; same = TwoAll }) (chain (word_shows h) (connectors_shows j)))
join_shows w (OneTrue h j k) = chain (word_shows w) (so (λ u v t. record { tree = join.AtLeastOne; is = OneTrue t.first.is t.second.first.is t.second.second.is; same = TwoAtLeastOne }) (chain (word_shows h) (chain (word_shows j) (word_shows k))))
join_shows w (SomeTrue h j k) = chain (word_shows w) (so (λ u v t. record { tree = join.AtLeast t.second.first.tree; is = SomeTrue t.first.is t.second.first.is t.second.second; same = TwoAtLeast t.second.first.same }) (chain (word_shows h) (chain (number_shows j) (connectors_shows k))))

common_shows : {x : AttrAt} {a b : Tokens} → IsCommonAttribute x a b → Shows (attr_pieces x.what) (Again AttrAt SameAttr IsCommonAttribute x) a b
common_shows (WhenJoin h j) = so (λ u v t. record { tree = record { place = t.first.place; what = attr.When t.second.tree }; is = WhenJoin t.first.is t.second.is; same = TwoJoins t.second.same }) (join_shows h j)
common_shows (ExitWhen h j k) =
    so (λ u v t. record { tree = record { place = t.first.place; what = attr.Exit t.second.second.tree }; is = ExitWhen t.first.is t.second.first.is t.second.second.is; same = TwoExits t.second.second.same })
    (chain (word_shows h) (chain (word_shows j) (condition_shows k)))

attribute_shows : {x : AttrAt} {a b : Tokens} → IsAttribute x a b → Shows (attr_pieces x.what) (Again AttrAt SameAttr IsAttribute x) a b
attribute_shows (CommonAttribute h) = so (λ u v t. record { tree = t.tree; is = CommonAttribute t.is; same = t.same }) (common_shows h)
attribute_shows (StartAttribute h (Manually j)) = so (λ u v t. record { tree = record { place = t.first.place; what = attr.Start true }; is = StartAttribute t.first.is (Manually t.second.is); same = TwoStarts }) (chain (word_shows h) (word_shows j))
attribute_shows (StartAttribute h (Automatically j)) = so (λ u v t. record { tree = record { place = t.first.place; what = attr.Start false }; is = StartAttribute t.first.is (Automatically t.second.is); same = TwoStarts }) (chain (word_shows h) (word_shows j))
attribute_shows (ExpiresAttribute h j) = so (λ u v t. record { tree = record { place = t.first.place; what = attr.Expires t.second.tree }; is = ExpiresAttribute t.first.is t.second.is; same = TwoExpires t.second.same }) (chain (word_shows h) (number_shows j))
attribute_shows (DoneByAttribute h (ByRole j k)) = so (λ u v t. record { tree = record { place = t.first.place; what = attr.Role t.second.second.tree }; is = DoneByAttribute t.first.is (ByRole t.second.first.is t.second.second.is); same = TwoRoles t.second.second.same }) (chain (word_shows h) (chain (word_shows j) (name_shows k)))
attribute_shows (DoneByAttribute h (ByPerson j k)) = so (λ u v t. record { tree = record { place = t.first.place; what = attr.Person t.second.second.tree }; is = DoneByAttribute t.first.is (ByPerson t.second.first.is t.second.second.is); same = TwoPersons t.second.second.same }) (chain (word_shows h) (chain (word_shows j) (name_shows k)))
attribute_shows (DoneByAttribute h (ByStarter j)) = so (λ u v t. record { tree = record { place = t.first.place; what = attr.Starter }; is = DoneByAttribute t.first.is (ByStarter t.second.is); same = TwoStarters }) (chain (word_shows h) (word_shows j))
attribute_shows (DoneByAttribute h (ByPerformer j k l)) =
    so (λ u v t. record { tree = record { place = t.first.place; what = attr.Performer t.second.second.second.tree }; is = DoneByAttribute t.first.is (ByPerformer t.second.first.is t.second.second.first.is t.second.second.second.is); same = TwoPerformers t.second.second.second.same })
    (chain (word_shows h) (chain (word_shows j) (chain (word_shows k) (name_shows l))))

commons_shows : {xs : List AttrAt} {a b : Tokens} → AreCommonAttributes xs a b → Shows (flat_map attr_line xs) (Again (List AttrAt) (Each AttrAt SameAttr) AreCommonAttributes xs) a b
unfolding attr_line
commons_shows NoCommon = none_shows (λ b. NoCommon)
commons_shows (MoreCommon h j) = flat_shows attr_line (λ ys y u v w i n. MoreCommon i n) (commons_shows h) (line (common_shows j))

attributes_shows : {xs : List AttrAt} {a b : Tokens} → AreAttributes xs a b → Shows (flat_map attr_line xs) (Again (List AttrAt) (Each AttrAt SameAttr) AreAttributes xs) a b
unfolding attr_line
attributes_shows NoAttribute = none_shows (λ b. NoAttribute)
attributes_shows (MoreAttributes h j) = flat_shows attr_line (λ ys y u v w i n. MoreAttributes i n) (attributes_shows h) (line (attribute_shows j))

-- ---- activities

-- the lines of an activity that does this
activity_text : Worked → NameAt → NameAt → NameAt → List AttrAt → NameAt → List Piece
activity_text w n input output attrs end = word w.opening ∷ heading_pieces n input output ++ w.called ++ Stop ∷ flat_map attr_line attrs ++ w.inside ++ closing_pieces end

program_shows : {x : ActivityTree} {a b : Tokens} → IsProgramActivity x a b → Shows (activity_pieces x) (Again ActivityTree SameActivity IsProgramActivity x) a b
unfolding activity_text
program_shows (ProgramActivity {name = n} {input = input} {output = output} {end = end} {attrs = attrs} h1 h2 h3 h4 h5) =
    by (
    ap (λ (ps : List Piece). (word keyword.ProgramActivity ∷ heading_pieces n input output ++ Stop ∷ []) ++ (ps ++ closing_pieces end)) (sym (append-nil (flat_map attr_line attrs)))
    ∙ ap (λ (w : Worked). activity_text w n input output attrs end) (sym worked_program)
    )
    (so (λ u v t. record {
      tree = record { place = t.first.place; work = work.Program; name = t.second.first.first.tree; input = t.second.first.second.first; output = t.second.first.second.second; attrs = t.second.second.first.tree; end = t.second.second.second.tree };
      is = ProgramActivity t.first.is t.second.first.first.is t.second.first.second.are t.second.second.first.is t.second.second.second.is;
      same = TwoActivityTrees TwoPrograms t.second.first.first.same t.second.first.second.same_input t.second.first.second.same_output t.second.second.first.same t.second.second.second.same;
    }) (chain (word_shows h1) (chain (heading_shows h2 h3) (chain (stop_first (attributes_shows h4)) (closing_shows h5)))))

process_shows : {x : ActivityTree} {a b : Tokens} → IsProcessActivity x a b → Shows (activity_pieces x) (Again ActivityTree SameActivity IsProcessActivity x) a b
unfolding activity_text
process_shows (ProcessActivity {name = n} {input = input} {output = output} {process = process} {end = end} {attrs = attrs} h1 h2 h3 h4 h5 h6 h7) =
    by (
    ap (λ (ps : List Piece). (word keyword.ProcessActivity ∷ heading_pieces n input output ++ word keyword.Process ∷ name process.name ∷ Stop ∷ []) ++ (ps ++ closing_pieces end)) (sym (append-nil (flat_map attr_line attrs)))
    ∙ ap (λ (w : Worked). activity_text w n input output attrs end) (sym (worked_process process))
    )
    (so (λ u v t. record {
      tree = record { place = t.first.place; work = work.Process t.second.second.second.first.tree; name = t.second.first.first.tree; input = t.second.first.second.first; output = t.second.first.second.second; attrs = t.second.second.second.second.first.tree; end = t.second.second.second.second.second.tree };
      is = ProcessActivity t.first.is t.second.first.first.is t.second.first.second.are t.second.second.first.is t.second.second.second.first.is t.second.second.second.second.first.is t.second.second.second.second.second.is;
      same = TwoActivityTrees (TwoCalls t.second.second.second.first.same) t.second.first.first.same t.second.first.second.same_input t.second.first.second.same_output t.second.second.second.second.first.same t.second.second.second.second.second.same;
    }) (chain (word_shows h1) (chain (heading_shows h2 h3) (chain (word_shows h4) (chain (name_shows h5) (chain (stop_first (commons_shows h6)) (closing_shows h7)))))))

-- elements at this level of BLOCK are read again
abbrev pub HasElements : ℕ → Type 0
HasElements n = (xs : List ElementTree) (a b : Tokens) → AreElements n xs a b → Shows (flat_map element_pieces xs) (Again (List ElementTree) SameElements (AreElements n) xs) a b

block_shows : {n : ℕ} {x : ActivityTree} {a b : Tokens} → ((m : ℕ) → n ≡ suc m → HasElements m) → IsBlock n x a b → Shows (activity_pieces x) (Again ActivityTree SameActivity (IsBlock n) x) a b
unfolding activity_text
block_shows {n} rec (BlockActivity {name = nm} {input = input} {output = output} {end = end} {attrs = attrs} {elements = elements} lt h1 h2 h3 h4 h5 h6) =
    let e : n ≡ suc (n - 1) = omega (arith, lt) in
    by (
    ap (λ (ps : List Piece). (word keyword.Block ∷ heading_pieces nm input output ++ Stop ∷ []) ++ ps) (sym (append_assoc (flat_map attr_line attrs) (flat_map element_pieces elements) (closing_pieces end)))
    ∙ ap (λ (w : Worked). activity_text w nm input output attrs end) (sym (worked_block elements))
    )
    (so (λ u v t. record {
      tree = record { place = t.first.place; work = work.Block t.second.second.second.first.tree; name = t.second.first.first.tree; input = t.second.first.second.first; output = t.second.first.second.second; attrs = t.second.second.first.tree; end = t.second.second.second.second.tree };
      is = BlockActivity lt t.first.is t.second.first.first.is t.second.first.second.are t.second.second.first.is t.second.second.second.first.is t.second.second.second.second.is;
      same = TwoActivityTrees (TwoBlocks t.second.second.second.first.same) t.second.first.first.same t.second.first.second.same_input t.second.first.second.same_output t.second.second.first.same t.second.second.second.second.same;
    }) (chain (word_shows h1) (chain (heading_shows h2 h3) (chain (stop_first (commons_shows h4)) (chain (rec (n - 1) e _ _ _ h5) (closing_shows h6))))))

element_shows : {n : ℕ} {x : ElementTree} {a b : Tokens} → ((m : ℕ) → n ≡ suc m → HasElements m) → IsElement n x a b → Shows (element_pieces x) (Again ElementTree SameElement (IsElement n) x) a b
element_shows rec (BlockElement {x = x} h) = by (sym (element_activity x)) (so (λ u v t. record { tree = element.Activity t.tree; is = BlockElement t.is; same = TwoActs t.same }) (block_shows rec h))
element_shows rec (ProcessElement {x = x} h) = by (sym (element_activity x)) (so (λ u v t. record { tree = element.Activity t.tree; is = ProcessElement t.is; same = TwoActs t.same }) (process_shows h))
element_shows rec (ProgramElement {x = x} h) = by (sym (element_activity x)) (so (λ u v t. record { tree = element.Activity t.tree; is = ProgramElement t.is; same = TwoActs t.same }) (program_shows h))
element_shows rec (ControlElement {x = x} h) = by (sym (element_control x)) (so (λ u v t. record { tree = element.Control t.tree; is = ControlElement t.is; same = TwoControls t.same }) (control_shows h))
element_shows rec (DataElement {x = x} h) = by (sym (element_line x)) (so (λ u v t. record { tree = element.Line t.tree; is = DataElement t.is; same = TwoData t.same }) (data_shows h))

each_shows : {n : ℕ} {xs : List ElementTree} {a b : Tokens} → ((m : ℕ) → n ≡ suc m → HasElements m) → AreElements n xs a b → Shows (flat_map element_pieces xs) (Again (List ElementTree) (Each ElementTree SameElement) (AreElements n) xs) a b
each_shows rec NoElement = none_shows (λ b. NoElement)
each_shows rec (MoreElements h j) = flat_shows element_pieces (λ ys y u v w i k. MoreElements i k) (each_shows rec h) (element_shows rec j)

each_element : {xs ys : List ElementTree} → Each ElementTree SameElement xs ys → SameElements xs ys
each_element NoneLeft = same.NoElements
each_element (OneMore h r) = same.MoreElements h (each_element r)

elements_step : (n : ℕ) → ((m : ℕ) → n ≡ suc m → HasElements m) → HasElements n
elements_step n rec xs a b h = so (λ u v t. record { tree = t.tree; is = t.is; same = each_element t.same }) (each_shows rec h)

pub elements_show : (n : ℕ) → HasElements n
elements_show zero = elements_step zero (λ m e. absurd (omega (arith, e)))
elements_show (suc n) = elements_step (suc n) (λ m e. let k : n ≡ m = omega (arith, e) in subst (λ (i : ℕ). HasElements i) k (elements_show n))
