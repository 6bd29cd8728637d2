-- The attempts behind those that were completed, by the names of activities of the root scope.
use Rattle.std.specs.Prelude.{◌≡◌, ℕ, ◌+◌, ◌-◌, ◌^◌, min, bytes_eq, unwrap_or, if◌then◌else◌, List, [], ◌∷◌, ◌++◌}
use Rattle.std.specs.Global.{Vec}
use Rattle.std.specs.HashMap.{HashMap, get_by}
use Rattle.flow_model.specs.declared.instances.Fact.{Fact}
use Rattle.text_words.specs.Attempts.{next_attempt}

-- the attempt that is kept for a name, and the first where none is
abbrev pub next_in : {S : Type 0} → HashMap (Vec ℕ) ℕ S → List ℕ → ℕ
next_in nexts name = unwrap_or (get_by (λ k. bytes_eq name k.items) nexts) 1

-- they are the ones behind those that these completions complete
abbrev pub AreNext : {S : Type 0} → HashMap (Vec ℕ) ℕ S → List Fact → Type 0
AreNext nexts facts = (name : List ℕ) → next_in nexts name ≡ next_attempt name facts

-- each name has the same as before
abbrev pub AreSameNexts : {S : Type 0} → HashMap (Vec ℕ) ℕ S → HashMap (Vec ℕ) ℕ S → Type 0
AreSameNexts old new = (name : List ℕ) → next_in new name ≡ next_in old name

-- one attempt more of a name, and the same of others
abbrev pub CountsOne : {S : Type 0} → List ℕ → HashMap (Vec ℕ) ℕ S → HashMap (Vec ℕ) ℕ S → Type 0
CountsOne name old new = (other : List ℕ) → next_in new other
    ≡ (if bytes_eq name other then min (next_in old name + 1) (2 ^ 64 - 1) else next_in old other)

-- one completion more
abbrev pub CountsFact : {S : Type 0} → Fact → HashMap (Vec ℕ) ℕ S → HashMap (Vec ℕ) ℕ S → Type 0
CountsFact fact old new = (facts : List Fact) → AreNext old facts → AreNext new (facts ++ fact ∷ [])
