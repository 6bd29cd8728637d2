-- What a line of a certificate says, is so by the completions alone.
use Rattle.std.specs.Prelude.{◌≡◌, ◌≤◌, ◌<◌, ◌^◌, ℕ, true, Some, is_some, List, length, []}
use Rattle.std.specs.List.{All, Contains}
use Rattle.fate_laws.specs.WellFormed.{Well}
use Rattle.flow_model.specs.declared.graphs.Graph.{Graph}
use Rattle.flow_model.specs.declared.graphs.Template.{Template}
use Rattle.flow_model.specs.declared.instances.Fate.TheVariants as fate
use Rattle.flow_model.specs.declared.instances.Fact.{Fact}
use Rattle.flow_model.specs.declared.instances.FateRow.{FateRow}
use Rattle.flow_model.specs.declared.instances.Part.{Part}
use Rattle.flow_model.specs.declared.instances.Path.{Path}
use Rattle.flow_model.specs.Paths.{IsPath}
use Rattle.flow_model.specs.Rows.{by_facts, rows}
use Rattle.flow_model.specs.ScopeContainers.{is_complete}
use Rattle.flow_model.specs.Words.{is_name}
use Rattle.certificates.specs.declared.lines.CertLine.{CertLine}
use Rattle.certificates.specs.declared.lines.CertLine.TheVariants.{Scope, Dead, Finished, Ended}
use Rattle.certificates.specs.Told.{Basis, root_graph}
use Rattle.certificates.specs.Justified.{AreJustified}
use Rattle.certificate_laws.specs.Standings.{Standing, ends_in, scope_in}

-- the scope of a root, by its completions
abbrev pub root_in : Basis → Graph → ℕ → ℕ → Standing
root_in b g depth most = record { depth = depth; known = by_facts most b.facts; graph = g; input = b.input }

-- the rows of a root by its completions, with scopes to this depth
abbrev pub rows_in : Basis → Graph → ℕ → ℕ → List FateRow
rows_in b g depth most = rows b.templates depth (by_facts most b.facts) g b.input (record { root = b.root; parts = [] })

-- all activities of the scope at this path are settled
pub record HasEnded (ts : List Template) (root : Standing) (path : List Part) : Type 0 where
  pub scope : Standing
  pub there : scope_in ts root path ≡ Some scope
  pub complete : is_complete scope.graph (ends_in ts scope) ≡ true

-- what the line says is so: the scope starts, the row of the activity is shown, the scope is complete
abbrev pub IsRight : Basis → Graph → ℕ → ℕ → CertLine → Type 0
IsRight b g depth most (Scope p) = is_some (scope_in b.templates (root_in b g depth most) p.parts) ≡ true
IsRight b g depth most (Dead p name) = Contains (rows_in b g depth most)
    (record { scope = p; name = name; fate = fate.Dead })
IsRight b g depth most (Finished p name n) = Contains (rows_in b g depth most)
    (record { scope = p; name = name; fate = fate.Finished n })
IsRight b g depth most (Ended p) = HasEnded b.templates (root_in b g depth most) p.parts

-- ---- what is asked of lines and completions, as they are read

-- a path with names and numbers as they are read, and no later attempt than this
pub record IsRead (most : ℕ) (p : Path) : Type 0 where
  pub path : IsPath p
  pub few : All (λ (q : Part). q.attempt ≤ most) p.parts

-- so is a line, which lies no deeper than this
abbrev pub IsLineRead : ℕ → ℕ → CertLine → Type 0
IsLineRead depth most (Scope p) = IsRead most p × (length p.parts ≤ depth)
IsLineRead depth most (Dead p name) = IsRead most p × (is_name name ≡ true)
IsLineRead depth most (Finished p name n) = IsRead most p × (is_name name ≡ true) × (n ≤ most)
IsLineRead depth most (Ended p) = IsRead most p

-- the completions are those of the root
abbrev pub AreOwn : ℕ → ℕ → List Fact → Type 0
AreOwn most root facts = All (λ (f : Fact). IsRead most f.item × (f.item.root ≡ root)) facts

-- each line of a certificate whose lines are justified is right
abbrev pub JustifiedIsRight : Type 0
JustifiedIsRight =
    (b : Basis) (g : Graph) (depth most : ℕ) (lines : List CertLine) → most < 2 ^ 64 → root_graph b ≡ Some g
    → Well b.templates depth g
    → AreOwn most b.root b.facts → All (IsLineRead depth most) lines → AreJustified b lines (length lines)
    → All (IsRight b g depth most) lines
