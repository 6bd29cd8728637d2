-- The shape that the code tells of a process, and what its template has of it.
use Rattle.std.specs.Prelude.{◌≡◌, ◌-◌, ◌^◌, min}
use Rattle.flow_model.specs.declared.graphs.Template.{Template}
use Rattle.process_rules.specs.declared.sizes.Shape.{Shape}

-- a template has the depth of this shape, and its size as far as 32 bits tell it
pub record HasToldShape (t : Template) (shape : Shape) : Type 0 where
  pub depth : t.depth ≡ shape.depth
  pub size : t.size ≡ min shape.size (2 ^ 32 - 1)
