-- What is settled by one account of the ends is the same by another, and so are the values and joins that are known.
use Rattle.flow_model.specs.Fates.{Ends, connector_value, joined, is_settled}
use Rattle.flow_model.specs.declared.graphs.Control.{Control}
use Rattle.flow_model.specs.declared.graphs.Join.{Join}
use Rattle.flow_model.specs.declared.instances.SourceEnd.{SourceEnd}
use Rattle.std.proofs.Common.{◌≡◌, ℕ, Bool, true, false, ◌||◌, List, refl, ap, Option, ◌&&◌}
use Rattle.std.specs.List.{list_any}
use Rattle.std.specs.Prelude.{is_none}
use Rattle.flow_model.specs.declared.instances.SourceEnd.TheVariants as end

-- what is settled in e is the same in e'
pub record Extends (e e' : Ends) : Type 0 where
  pub kept : (a : ℕ) → is_settled (e a) ≡ true → e' a ≡ e a

pub value_kept : (controls : List Control) (c : Control) (s s' : SourceEnd) → (is_settled s ≡ true → s' ≡ s)
    → is_none (connector_value controls c s) ≡ false → connector_value controls c s' ≡ connector_value controls c s
value_kept controls c end.Unsettled s' same known = cc
value_kept controls c end.Dead s' same known = ap (connector_value controls c) (same refl)
value_kept controls c (end.Finished out) s' same known = ap (connector_value controls c) (same refl)

pub or_false : (a b : Bool) → (a || b) ≡ false → (a ≡ false) × (b ≡ false)
or_false false b h = (refl, h)
or_false true b h = cc

-- a join that is known is of known values
pub joined_kept : (rule : Join) (vs ws : List (Option Bool)) → (list_any is_none vs ≡ false → ws ≡ vs)
    → is_none (joined rule vs) ≡ false → joined rule ws ≡ joined rule vs
joined_kept rule vs ws same known = go (list_any is_none vs) refl
  where
    go : (b : Bool) → list_any is_none vs ≡ b → joined rule ws ≡ joined rule vs
    go false e = ap (joined rule) (same e)
    go true e = let k : is_none (joined rule vs) ≡ true = rw e refl in cc

pub and_true : (a b : Bool) → (a && b) ≡ true → (a ≡ true) × (b ≡ true)
and_true true b h = (refl, h)
and_true false b h = cc

pub both_true : (a b : Bool) → a ≡ true → b ≡ true → (a && b) ≡ true
both_true a b h i = rw (h, i) refl
