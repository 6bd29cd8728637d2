-- What `verify` answers: how many of the lines, from the first on, are lines of a certificate that are justified by a
-- root of a state.
use Rattle.std.specs.Prelude.{◌≡◌, ◌⊎◌, ℕ, ◌≤◌, Bool, true, false, None, List, [], ◌∷◌, length, map, take, slice_get}
use Rattle.std.specs.Prelude.{IfSome}
use Rattle.std.specs.Global.{Vec}
use Rattle.std.specs.List.{All}
use Rattle.certificates.specs.Justified.{AreJustified, IsFirstUnjustified}
use Rattle.certificates.specs.Kept.{AreLaidTemplates}
use Rattle.certificates.specs.Lines.{line_text, IsSpellable, WritesNoLine}
use Rattle.certificates.specs.Told.{Basis, line_scope}
use Rattle.certificates.specs.declared.lines.CertLine.{CertLine}
use Rattle.flow_core.specs.Driving.{templates, graph_now}
use Rattle.flow_core.specs.Facts.{AreFactsOf}
use Rattle.flow_core.specs.declared.state.Core.{Core}
use Rattle.flow_core.specs.declared.views.RootFacts.{RootFacts}
use Rattle.explain.specs.Certificates.{IsVerdict}

-- a line that was read, with whether it was too long: it is so, or it is no line of a certificate
abbrev pub IsNoLine : Vec ℕ × Bool → Type 0
IsNoLine line = (line.1 ≡ true) ⊎ WritesNoLine line.0.items

-- these are the first lines of a text, up to the one that is no line of a certificate
pub record AreFirst (read : List CertLine) (lines : List (Vec ℕ × Bool)) : Type 0 where
  pub few : length read ≤ length lines
  pub writable : All IsSpellable read
  pub written : map line_text read ≡ map (λ line. line.0.items) (take (length read) lines)
  pub whole : All (λ line. line.1 ≡ false) (take (length read) lines)
  pub next : IfSome (slice_get lines (length read)) IsNoLine

-- a certificate rests on the library of a state and what the fates of a root follow from
abbrev pub basis_in : Core → RootFacts → Basis
basis_in c f = record {
  templates = templates c;
  root = f.root;
  template = f.template;
  input = f.input;
  facts =
      f.facts;
}

-- this many of the lines, from the first on, are justified, and the next one, if there is one, isn't
abbrev pub AreGood : Basis → List CertLine → ℕ → Type 0
AreGood b lines good = ((good ≡ length lines) × AreJustified b lines good) ⊎ IsFirstUnjustified b lines good

-- they are so by the root of the first line; none is where that isn't live
abbrev pub AreGoodIn : Core → List CertLine → ℕ → Type 0
AreGoodIn c [] good = good ≡ 0
AreGoodIn c (first ∷ rest) good =
    ((graph_now c (line_scope first).root ≡ None) × (good ≡ 0))
    ⊎ ((f : RootFacts) × AreFactsOf c (line_scope first).root f
    × (AreLaidTemplates (templates c) → AreGood (basis_in c f) (first ∷ rest) good))

-- a verdict on lines, and whether it is a refusal
pub record IsVerified (c : Core) (lines : List (Vec ℕ × Bool)) (text : List ℕ) (refused : Bool) : Type 0 where
  pub read : List CertLine
  pub first : AreFirst read lines
  pub good : ℕ
  pub judged : AreGoodIn c read good
  pub given : IsVerdict good (length lines) text refused
