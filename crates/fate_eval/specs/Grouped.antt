-- The completions of a scope, by the attempts that they lead to.
use Rattle.std.specs.Prelude.{◌≡◌, ℕ, ◌==◌, ◌&&◌, bytes_eq, List, [], ◌∷◌}
use Rattle.std.specs.Borrow.{Bor}
use Rattle.std.specs.Global.{Vec}
use Rattle.std.specs.HashMap.{HashMap, get_by}
use Rattle.std.specs.Option.{option_map_or, option_or}
use Rattle.flow_model.specs.declared.instances.Part.{Part}
use Rattle.fate_eval.specs.Entries.{dated_in}
use Rattle.fate_eval.specs.declared.accepted.Entry.{Entry}

-- the attempt that a part of a path names
abbrev pub Tried : Type 0
Tried = Bor (List ℕ) × ℕ

-- the completions of the attempt that a part names
abbrev pub at_part : {S : Type 0} → HashMap Tried (Vec Entry) S → Part → List Entry
at_part groups q = option_map_or (λ group. group.items)
    (get_by (λ (k : Tried). bytes_eq q.name k.0.now && (q.attempt == k.1)) groups) []

-- a completion leads to this attempt, or below it
abbrev pub LeadsBelow : Part → Entry → Type 0
LeadsBelow q e = (rest : List Part) × (e.parts.now ≡ q ∷ rest)

-- completions of the scope came to those that the attempts had
abbrev pub AreGathered : {S : Type 0} → HashMap Tried (Vec Entry) S → List Entry → HashMap Tried (Vec Entry) S → Type 0
AreGathered old es new = (q : Part) (p : List Part)
    → dated_in (at_part new q) p ≡ option_or (dated_in (at_part old q) p) (dated_in es (q ∷ p))

-- each attempt has the completions of the scope that lead to it, with what is below it
abbrev pub AreByAttempt : {S : Type 0} → HashMap Tried (Vec Entry) S → List Entry → Type 0
AreByAttempt groups es = (q : Part) (p : List Part) → dated_in (at_part groups q) p ≡ dated_in es (q ∷ p)
