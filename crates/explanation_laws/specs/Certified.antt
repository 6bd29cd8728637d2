-- What is so by the completions is certified: there are lines, each justified by those before it, the last of which
-- says so.
use Rattle.std.specs.Prelude.{◌≡◌, ◌≢◌, ◌↔◌, ℕ, ◌≤◌, ◌<◌, ◌^◌, true, Some, List, [], ◌∷◌, ◌++◌, length}
use Rattle.std.specs.Prelude.{slice_get}
use Rattle.std.specs.List.{All}
use Rattle.fate_laws.specs.WellFormed.{Well}
use Rattle.flow_model.specs.declared.graphs.Activity.{Activity}
use Rattle.flow_model.specs.declared.graphs.Graph.{Graph, out-Graph}
use Rattle.flow_model.specs.declared.instances.Fate.{Fate}
use Rattle.flow_model.specs.declared.instances.Fate.TheVariants as fate
use Rattle.flow_model.specs.declared.instances.Part.{Part}
use Rattle.flow_model.specs.declared.instances.Path.{Path}
use Rattle.flow_model.specs.declared.names.Name.{Name}
use Rattle.flow_model.specs.Words.{is_name}
use Rattle.certificates.specs.declared.lines.CertLine.{CertLine}
use Rattle.certificates.specs.declared.lines.CertLine.TheVariants.{Dead, Finished, Ended}
use Rattle.certificates.specs.Justified.{AreJustified}
use Rattle.certificates.specs.Told.{Basis, line_scope, root_graph}
use Rattle.certificate_laws.specs.Right.{AreOwn, IsLineRead, IsRead, IsRight, root_in}
use Rattle.certificate_laws.specs.Standings.{Standing, fate_in, scope_in}

-- ---- certificates

-- lines as they are read, each justified by those before it, of which this one is the last
pub record HasCertificate (b : Basis) (depth most : ℕ) (line : CertLine) : Type 0 where
  pub before : List CertLine
  pub read : All (IsLineRead depth most) (before ++ line ∷ [])
  pub justified : AreJustified b (before ++ line ∷ []) (length (before ++ line ∷ []))

-- where this fate of an activity is dead or finished, a certificate says so
pub record IsCertified (b : Basis) (depth most : ℕ) (p : Path) (name : Name) (f : Fate) : Type 0 where
  pub dead : f ≡ fate.Dead → HasCertificate b depth most (Dead p name)
  pub finished : (n : ℕ) → f ≡ fate.Finished n → HasCertificate b depth most (Finished p name n)

-- ---- the roots and scopes of which the laws speak

-- the activities have places of 32 bits and names as they are read
pub record HasReadActivities (g : Graph) : Type 0 where
  pub few : length (out-Graph g).activities ≤ 2 ^ 32
  pub named : (a : ℕ) (x : Activity) → slice_get (out-Graph g).activities a ≡ Some x → is_name x.name ≡ true

-- so have those of each scope that starts by the completions
abbrev pub AreReadScopes : Basis → Graph → ℕ → ℕ → Type 0
AreReadScopes b g depth most =
    (path : List Part) (scope : Standing) → scope_in b.templates (root_in b g depth most) path ≡ Some scope
    → HasReadActivities scope.graph

-- a root of a well-formed process, with completions of its own and no more attempts than this
pub record IsReadRoot (b : Basis) (g : Graph) (depth most : ℕ) : Type 0 where
  pub bounded : most < 2 ^ 64
  pub graph : root_graph b ≡ Some g
  pub well : Well b.templates depth g
  pub own : AreOwn most b.root b.facts
  pub scopes : AreReadScopes b g depth most

-- a scope of it that starts by the completions
pub record IsReadScope (b : Basis) (g : Graph) (depth most : ℕ) (p : Path) (scope : Standing) : Type 0 where
  pub read : IsRead most p
  pub own : p.root ≡ b.root
  pub there : scope_in b.templates (root_in b g depth most) p.parts ≡ Some scope

-- a line of this root, as it is read; that the root itself has ended, no line says
pub record IsOwnLine (b : Basis) (depth most : ℕ) (line : CertLine) : Type 0 where
  pub read : IsLineRead depth most line
  pub own : (line_scope line).root ≡ b.root
  pub inside : (p : Path) → line ≡ Ended p → p.parts ≢ []

-- ---- the laws

-- each settled activity of such a scope is certified
abbrev pub SettledAreCertified : Type 0
SettledAreCertified =
    (b : Basis) (g : Graph) (depth most : ℕ) → IsReadRoot b g depth most
    → (p : Path) (scope : Standing) → IsReadScope b g depth most p scope
    → (a : ℕ) (x : Activity) → slice_get (out-Graph scope.graph).activities a ≡ Some x
    → IsCertified b depth most p x.name (fate_in b.templates scope a)

-- a line has a certificate exactly where what it says is so by the completions
abbrev pub CertifiedAreRight : Type 0
CertifiedAreRight =
    (b : Basis) (g : Graph) (depth most : ℕ) → IsReadRoot b g depth most
    → (line : CertLine) → IsOwnLine b depth most line
    → HasCertificate b depth most line ↔ IsRight b g depth most line
