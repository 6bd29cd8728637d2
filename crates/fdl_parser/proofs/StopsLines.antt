-- How far the forms of CONTROL and DATA lines are read.
use Rattle.std.proofs.Common.{ℕ, List, [], ◌∷◌, Some, refl, ap, sym, subst, inl, inr}
use Rattle.std.specs.Prelude.{◌≢◌}
use Rattle.flow_table.specs.declared.keyword.Keyword.{Keyword}
use Rattle.flow_table.specs.declared.keyword.Keyword.TheVariants as word
use Rattle.flow_model.specs.declared.trees.WhenTree.{WhenTree}
use Rattle.flow_model.specs.declared.trees.WhenTree.TheVariants as when
use Rattle.flow_model.specs.declared.trees.ControlTree.{ControlTree}
use Rattle.flow_model.specs.declared.trees.EndTree.{EndTree}
use Rattle.flow_model.specs.declared.trees.EndsTree.{EndsTree}
use Rattle.flow_model.specs.declared.trees.MapTree.{MapTree}
use Rattle.flow_model.specs.declared.trees.DataTree.{DataTree}
use Rattle.fdl_lexer.specs.declared.kinds.What.TheVariants.{Word, Name, Rc, Mark}
use Rattle.fdl_lexer.specs.declared.kinds.Mark.TheVariants as mark
use Rattle.fdl_parser.specs.declared.cursor.SyntaxFault.{SyntaxFault}
use Rattle.fdl_parser.specs.Tokens.{Tokens, first_kind, IsWord, IsMark, IsName, IsLeaf}
use Rattle.fdl_parser.specs.Tiers.{Looser}
use Rattle.fdl_parser.specs.Stops.{Reads, Anything, IsTaken, Stops}
use Rattle.fdl_parser.specs.Conditions.{IsCondition}
use Rattle.fdl_parser.specs.Lines.{IsTransition, Unconditional, Otherwise, Conditional, IsControl, ControlLine, IsEnd, BorderEnd, ActivityEnd, AreEnds, LoopEnds, LineEnds, IsMap, LeafToLeaf, AreMaps, FirstMap, MoreMaps, IsDataLine, DataLine}
use Rattle.fdl_parser.proofs.Stops.{Seq, Either, Maybe, Star, None, More, star_snoc, Through}
use Rattle.fdl_parser.proofs.Shapes.{Shape, Loose, Same, Loops, WordForm, MarkForm, word_shape, mark_shape, name_shape, shape_as, loose_as, takes_as, stops_as, seq, seq_end, sure, stop_now, stop_then, take_then, either, stop_right, maybe, take_none, take_some, stop_some, star, loop_first, loop_more, loop_taken, loop_stops, loop_now, any_stops, free_taken, free_stops}
use Rattle.fdl_parser.proofs.StopsConditions.{leaf_shape, condition_shape}

-- ---- transition conditions

abbrev WhenForm : Tokens → Tokens → Type 0
WhenForm = Seq (WordForm word.When) (Reads IsCondition)

abbrev SomeTransition : Tokens → Tokens → Type 0
SomeTransition = Either (WordForm word.Otherwise) WhenForm

transition_into : (a b : Tokens) → Maybe SomeTransition a b → Reads IsTransition a b
transition_into a b (inl e) = (when.Always, subst (λ (x : Tokens). IsTransition when.Always a x) (sym e) Unconditional)
transition_into a b (inr (inl h)) = (_, Otherwise h.1)
transition_into a b (inr (inr h)) = (_, Conditional h.1.1 h.2.1)

transition_out : (a b : Tokens) → Reads IsTransition a b → Maybe SomeTransition a b
transition_out a b h = go h.1
  where
    go : {w : WhenTree} {a b : Tokens} → IsTransition w a b → Maybe SomeTransition a b
    go Unconditional = inl refl
    go (Otherwise j) = inr (inl (_, j))
    go (Conditional j k) = inr (inr (_, (_, j), (_, k)))

transition_same : Same (Maybe SomeTransition) (Reads IsTransition)
transition_same = record { into = transition_into; out = transition_out }

when_shape : Shape (Word word.When ∷ []) 10 WhenForm
when_shape = seq (word_shape word.When) condition_shape refl

some_shape : Shape (Word word.Otherwise ∷ Word word.When ∷ []) 10 SomeTransition
some_shape = either (word_shape word.Otherwise) when_shape refl

pub transition_loose : Loose (Word word.Otherwise ∷ Word word.When ∷ []) 4 (Reads IsTransition)
transition_loose = loose_as transition_same (maybe some_shape refl refl)

pub transition_none : {a : Tokens} → first_kind a ≢ Some (Word word.Otherwise) → first_kind a ≢ Some (Word word.When) → IsTaken (Looser 4) (Reads IsTransition) a a
transition_none not nor = takes_as transition_same (take_none {n = 10} some_shape refl (not, (nor, tt)))

pub transition_otherwise : {p : ℕ} {a b : Tokens} → IsWord word.Otherwise p a b → IsTaken (Looser 4) (Reads IsTransition) a b
transition_otherwise t = takes_as transition_same (take_some {n = 10} some_shape refl (free_taken (sure some_shape (inl (_, t)))))

pub transition_when : {p : ℕ} {a b c : Tokens} → IsWord word.When p a b → Reads IsCondition b c → IsTaken (Looser 4) (Reads IsTransition) a c
transition_when t h = takes_as transition_same (take_some {n = 10} some_shape refl (free_taken (sure some_shape (inr (_, (_, t), h)))))

pub stops_transition : {p : ℕ} {a b r : Tokens} {e : SyntaxFault} → first_kind a ≢ Some (Word word.Otherwise) → IsWord word.When p a b → Stops Anything (Reads IsCondition) b r e → Stops (Looser 4) (Reads IsTransition) a r e
stops_transition not t h =
    stops_as transition_same
    (stop_some {n = 10} some_shape refl (inr (inl (ap first_kind t.first))) (free_stops (stop_right (word_shape word.Otherwise) (not, tt) (stop_then (word_shape word.When) (_, t) (any_stops h)))))

-- ---- CONTROL lines

abbrev ControlForm : Tokens → Tokens → Type 0
ControlForm = Seq (WordForm word.Control) (Seq (WordForm word.From) (Seq (Reads IsName) (Seq (WordForm word.To) (Seq (Reads IsName) (Reads IsTransition)))))

control_into : (a b : Tokens) → ControlForm a b → Reads IsControl a b
control_into a b h = (_, ControlLine h.1.1 h.2.1.1 h.2.2.1.1 h.2.2.2.1.1 h.2.2.2.2.1.1 h.2.2.2.2.2.1)

control_out : (a b : Tokens) → Reads IsControl a b → ControlForm a b
control_out a b h = go h.1
  where
    go : {x : ControlTree} → IsControl x a b → ControlForm a b
    go (ControlLine j k l m n o) = (_, (_, j), (_, (_, k), (_, (_, l), (_, (_, m), (_, (_, n), (_, o))))))

pub control_same : Same ControlForm (Reads IsControl)
control_same = record { into = control_into; out = control_out }

pub control_to : Shape (Name ∷ []) 4 (Seq (Reads IsName) (Reads IsTransition))
control_to = seq_end name_shape transition_loose refl refl

pub control_target : Shape (Word word.To ∷ []) 4 (Seq (WordForm word.To) (Seq (Reads IsName) (Reads IsTransition)))
control_target = seq (word_shape word.To) control_to refl

pub control_from : Shape (Name ∷ []) 4 (Seq (Reads IsName) (Seq (WordForm word.To) (Seq (Reads IsName) (Reads IsTransition))))
control_from = seq name_shape control_target refl

pub control_source : Shape (Word word.From ∷ []) 4 (Seq (WordForm word.From) (Seq (Reads IsName) (Seq (WordForm word.To) (Seq (Reads IsName) (Reads IsTransition)))))
control_source = seq (word_shape word.From) control_from refl

pub control_shape : Shape (Word word.Control ∷ []) 4 (Reads IsControl)
control_shape = shape_as control_same (seq (word_shape word.Control) control_source refl)

-- ---- the ends of DATA lines

end_into : (w : Keyword) (a b : Tokens) → Either (WordForm w) (Reads IsName) a b → Reads (IsEnd w) a b
end_into w a b (inl h) = (_, BorderEnd h.1)
end_into w a b (inr h) = (_, ActivityEnd h.1)

end_out : (w : Keyword) (a b : Tokens) → Reads (IsEnd w) a b → Either (WordForm w) (Reads IsName) a b
end_out w a b h = go h.1
  where
    go : {x : EndTree} → IsEnd w x a b → Either (WordForm w) (Reads IsName) a b
    go (BorderEnd j) = inl (_, j)
    go (ActivityEnd j) = inr (_, j)

end_same : (w : Keyword) → Same (Either (WordForm w) (Reads IsName)) (Reads (IsEnd w))
end_same w = record { into = end_into w; out = end_out w }

pub source_shape : Shape (Word word.Source ∷ Name ∷ []) 10 (Reads (IsEnd word.Source))
source_shape = shape_as (end_same word.Source) (either (word_shape word.Source) name_shape refl)

pub sink_shape : Shape (Word word.Sink ∷ Name ∷ []) 10 (Reads (IsEnd word.Sink))
sink_shape = shape_as (end_same word.Sink) (either (word_shape word.Sink) name_shape refl)

pub stops_end : (w : Keyword) {a r : Tokens} {e : SyntaxFault} → first_kind a ≢ Some (Word w) → Stops Anything (Reads IsName) a r e → Stops Anything (Reads (IsEnd w)) a r e
stops_end w not h = free_stops (stops_as (end_same w) (stop_right (word_shape w) (not, tt) (any_stops h)))

abbrev LoopForm : Tokens → Tokens → Type 0
LoopForm = Seq (WordForm word.Loop) (Reads IsName)

abbrev LineForm : Tokens → Tokens → Type 0
LineForm = Seq (WordForm word.From) (Seq (Reads (IsEnd word.Source)) (Seq (WordForm word.To) (Reads (IsEnd word.Sink))))

ends_into : (a b : Tokens) → Either LoopForm LineForm a b → Reads AreEnds a b
ends_into a b (inl h) = (_, LoopEnds h.1.1 h.2.1)
ends_into a b (inr h) = (_, LineEnds h.1.1 h.2.1.1 h.2.2.1.1 h.2.2.2.1)

ends_out : (a b : Tokens) → Reads AreEnds a b → Either LoopForm LineForm a b
ends_out a b h = go h.1
  where
    go : {x : EndsTree} → AreEnds x a b → Either LoopForm LineForm a b
    go (LoopEnds j k) = inl (_, (_, j), (_, k))
    go (LineEnds j k l m) = inr (_, (_, j), (_, (_, k), (_, (_, l), (_, m))))

pub ends_same : Same (Either LoopForm LineForm) (Reads AreEnds)
ends_same = record { into = ends_into; out = ends_out }

pub loop_shape : Shape (Word word.Loop ∷ []) 10 LoopForm
loop_shape = seq (word_shape word.Loop) name_shape refl

pub line_to : Shape (Word word.To ∷ []) 10 (Seq (WordForm word.To) (Reads (IsEnd word.Sink)))
line_to = seq (word_shape word.To) sink_shape refl

pub line_ends : Shape (Word word.Source ∷ Name ∷ []) 10 (Seq (Reads (IsEnd word.Source)) (Seq (WordForm word.To) (Reads (IsEnd word.Sink))))
line_ends = seq source_shape line_to refl

pub line_shape : Shape (Word word.From ∷ []) 10 LineForm
line_shape = seq (word_shape word.From) line_ends refl

pub ends_shape : Shape (Word word.Loop ∷ Word word.From ∷ []) 10 (Reads AreEnds)
ends_shape = shape_as ends_same (either loop_shape line_shape refl)

-- ---- maps

abbrev MapForm : Tokens → Tokens → Type 0
MapForm = Seq (Reads IsLeaf) (Seq (WordForm word.To) (Reads IsLeaf))

map_into : (a b : Tokens) → MapForm a b → Reads IsMap a b
map_into a b h = (_, LeafToLeaf h.1.1 h.2.1.1 h.2.2.1)

map_out : (a b : Tokens) → Reads IsMap a b → MapForm a b
map_out a b h = go h.1
  where
    go : {x : MapTree} → IsMap x a b → MapForm a b
    go (LeafToLeaf j k l) = (_, (_, j), (_, (_, k), (_, l)))

pub map_same : Same MapForm (Reads IsMap)
map_same = record { into = map_into; out = map_out }

pub map_to : Shape (Word word.To ∷ []) 9 (Seq (WordForm word.To) (Reads IsLeaf))
map_to = seq (word_shape word.To) leaf_shape refl

map_shape : Shape (Name ∷ Rc ∷ []) 9 (Reads IsMap)
map_shape = shape_as map_same (seq leaf_shape map_to refl)

abbrev pub FirstForm : Tokens → Tokens → Type 0
FirstForm = Seq (WordForm word.Map) (Reads IsMap)

abbrev pub NextForm : Tokens → Tokens → Type 0
NextForm = Seq (MarkForm mark.Comma) (Reads IsMap)

abbrev MapsForm : Tokens → Tokens → Type 0
MapsForm = Seq FirstForm (Star NextForm)

maps_on : {ms : List MapTree} {a b c : Tokens} → AreMaps ms a b → Star NextForm b c → Reads AreMaps a c
maps_on {ms} h None = (ms, h)
maps_on h (More g s) = maps_on (MoreMaps h g.1.1 g.2.1) s

maps_into : (a b : Tokens) → MapsForm a b → Reads AreMaps a b
maps_into a b h = maps_on (FirstMap h.1.1.1 h.1.2.1) h.2

maps_form : {ms : List MapTree} {a b : Tokens} → AreMaps ms a b → MapsForm a b
maps_form (FirstMap t j) = (_, (_, (_, t), (_, j)), None)
maps_form (MoreMaps h m j) = let w = maps_form h in (w.0, w.1, star_snoc w.2 (_, (_, m), (_, j)))

pub maps_same : Same MapsForm (Reads AreMaps)
maps_same = record { into = maps_into; out = λ a b h. maps_form h.1 }

pub first_shape : Shape (Word word.Map ∷ []) 9 FirstForm
first_shape = seq (word_shape word.Map) map_shape refl

pub map_loops : Loops (Mark mark.Comma ∷ []) 9 5 NextForm
map_loops = record { one = seq (mark_shape mark.Comma) map_shape refl; begun = refl; calm = refl; less = refl }

pub maps_shape : Shape (Word word.Map ∷ []) 5 (Reads AreMaps)
maps_shape = shape_as maps_same (seq_end first_shape (star map_loops) refl refl)

-- the maps up to some place
abbrev pub MapsSoFar : Tokens → Tokens → Type 0
MapsSoFar a b = Through (Looser 5) FirstForm NextForm a b

pub maps_first : {p : ℕ} {a b c : Tokens} → IsWord word.Map p a b → IsTaken (Looser 9) (Reads IsMap) b c → MapsSoFar a c
maps_first t h = loop_first map_loops (take_then (word_shape word.Map) (_, t) h)

pub maps_more : {p : ℕ} {a b c d : Tokens} → MapsSoFar a b → IsMark mark.Comma p b c → IsTaken (Looser 9) (Reads IsMap) c d → MapsSoFar a d
maps_more s m h = loop_more map_loops s (take_then (mark_shape mark.Comma) (_, m) h)

pub maps_taken : {a b : Tokens} → MapsSoFar a b → first_kind b ≢ Some (Mark mark.Comma) → IsTaken (Looser 5) (Reads AreMaps) a b
maps_taken s not = takes_as maps_same (loop_taken map_loops s (not, tt))

pub stops_maps : {a r : Tokens} {e : SyntaxFault} → Stops Anything (WordForm word.Map) a r e → Stops (Looser 5) (Reads AreMaps) a r e
stops_maps h = stops_as maps_same (loop_now map_loops (stop_now map_shape.can h))

pub stops_first_map : {p : ℕ} {a b r : Tokens} {e : SyntaxFault} → IsWord word.Map p a b → Stops (Looser 9) (Reads IsMap) b r e → Stops (Looser 5) (Reads AreMaps) a r e
stops_first_map t h = stops_as maps_same (loop_now map_loops (stop_then (word_shape word.Map) (_, t) h))

pub stops_next_map : {p : ℕ} {a b c r : Tokens} {e : SyntaxFault} → MapsSoFar a b → IsMark mark.Comma p b c → Stops (Looser 9) (Reads IsMap) c r e → Stops (Looser 5) (Reads AreMaps) a r e
stops_next_map s m h = stops_as maps_same (loop_stops map_loops s (inl (ap first_kind m.first)) (stop_then (mark_shape mark.Comma) (_, m) h))

-- ---- DATA lines

abbrev DataForm : Tokens → Tokens → Type 0
DataForm = Seq (WordForm word.Data) (Seq (Reads AreEnds) (Reads AreMaps))

data_into : (a b : Tokens) → DataForm a b → Reads IsDataLine a b
data_into a b h = (_, DataLine h.1.1 h.2.1.1 h.2.2.1)

data_out : (a b : Tokens) → Reads IsDataLine a b → DataForm a b
data_out a b h = go h.1
  where
    go : {x : DataTree} → IsDataLine x a b → DataForm a b
    go (DataLine j k l) = (_, (_, j), (_, (_, k), (_, l)))

pub data_same : Same DataForm (Reads IsDataLine)
data_same = record { into = data_into; out = data_out }

pub data_rest : Shape (Word word.Loop ∷ Word word.From ∷ []) 5 (Seq (Reads AreEnds) (Reads AreMaps))
data_rest = seq ends_shape maps_shape refl

pub data_shape : Shape (Word word.Data ∷ []) 5 (Reads IsDataLine)
data_shape = shape_as data_same (seq (word_shape word.Data) data_rest refl)
