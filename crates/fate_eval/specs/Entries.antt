-- The accepted completions, seen from a scope, and what they tell there.
use Rattle.std.specs.Prelude.{ℕ, ◌+◌, nat_le, true, if◌then◌else◌, Option, Some, None, List, [], ◌∷◌}
use Rattle.std.specs.Option.{option_map}
use Rattle.flow_model.specs.declared.graphs.Container.{Container}
use Rattle.flow_model.specs.declared.instances.Fact.{Fact}
use Rattle.flow_model.specs.declared.instances.Part.{Part}
use Rattle.flow_model.specs.Rows.{same_part, same_parts}
use Rattle.flow_model.specs.Scopes.{Known}
use Rattle.fate_eval.specs.declared.accepted.Entry.{Entry}

-- an output, and the number of completions after which it is known
pub record Dated : Type 0 where
  pub after : ℕ
  pub output : Container

abbrev pub dated : Entry → Dated
dated e = record { after = e.after; output = e.output.now }

-- the first accepted output of an item, whose path is told from the scope on, and when it came
abbrev pub dated_in : List Entry → List Part → Option Dated
dated_in [] p = None
dated_in (e ∷ es) p = if same_parts e.parts.now p then Some (dated e) else dated_in es p

-- the same of the completions of a root, of which this many came before
abbrev pub dated_from : ℕ → List Fact → List Part → Option Dated
dated_from n [] p = None
dated_from n (f ∷ fs) p = if same_parts f.item.parts p then Some
    (record { after = n + 1; output = f.output }) else dated_from (n + 1) fs p

-- the first accepted output of an item
abbrev pub output_in : List Entry → List Part → Option Container
output_in es p = option_map (λ d. d.output) (dated_in es p)

-- an output that is known after this many completions
abbrev pub by_then : ℕ → Option Dated → Option Container
by_then n None = None
by_then n (Some d) = if nat_le d.after n then Some d.output else None

-- what parts have below this part, if they begin with it
abbrev pub parts_behind : Part → List Part → Option (List Part)
parts_behind q [] = None
parts_behind q (p ∷ ps) = if same_part p q then Some ps else None

-- every scope has begun, everything counts at once, and no activity has more attempts than this
abbrev pub known_by : ℕ → (List Part → Option Container) → Known
known_by most given = record {
  most = most;
  begun = λ p. true;
  closed = λ p. true;
  sent = λ p a b v. v;
  given = given;
}

-- what all completions tell
abbrev pub known_in : ℕ → List Entry → Known
known_in most es = known_by most (output_in es)

-- what the first n completions tell
abbrev pub known_after : ℕ → List Entry → ℕ → Known
known_after most es n = known_by most (λ p. by_then n (dated_in es p))
