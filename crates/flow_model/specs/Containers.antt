-- Containers: a value for each leaf, and maps that copy leaves.
use Rattle.std.specs.Prelude.{ℕ, pos, Option, Some, None, List, [], ◌∷◌, map, slice_get, slice_set}
use Rattle.flow_model.specs.declared.graphs.Container.{Container}
use Rattle.flow_model.specs.declared.graphs.Value.{Value}
use Rattle.flow_model.specs.declared.graphs.Value.TheVariants.{Whole, Text}
use Rattle.flow_model.specs.declared.graphs.Kind.{Kind}
use Rattle.flow_model.specs.declared.graphs.Kind.TheVariants.{Long, Str}
use Rattle.flow_model.specs.declared.graphs.Leaves.{Leaves}
use Rattle.flow_model.specs.declared.graphs.LeafMap.{LeafMap}

-- the value of a leaf in a fresh container: zero, or the empty text
abbrev pub first_value : Kind → Value
first_value Long = Whole (pos 0)
first_value Str = Text []

-- a container in which nothing is set
abbrev pub fresh : Leaves → Container
fresh of = record { values = map (λ leaf. first_value leaf.kind) of.leaves }

-- a value of the output of a block or subprocess has the return code 0 before it
abbrev pub with_return_code : Container → Container
with_return_code c = record { values = Whole (pos 0) ∷ c.values }

-- one leaf is set, where there is a value for it
abbrev pub put : Option Value → ℕ → Container → Container
put None to target = target
put (Some v) to target = record { values = slice_set target.values to v }

-- the maps in text order, so that the later wins
abbrev pub mapped : List LeafMap → Container → Container → Container
mapped [] source target = target
mapped (m ∷ maps) source target = mapped maps source (put (slice_get source.values m.from) m.to target)
