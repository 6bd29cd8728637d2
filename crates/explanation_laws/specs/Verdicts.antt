-- Answers to the verification of lines are one: a text is that of one line, and the same lines over the same state have
-- one verdict.
use Rattle.std.specs.Prelude.{◌≡◌, ℕ, Bool, List}
use Rattle.std.specs.Global.{Vec}
use Rattle.certificates.specs.Kept.{AreLaidTemplates}
use Rattle.certificates.specs.Lines.{Writes, WritesNoOther}
use Rattle.certificates.specs.declared.lines.CertLine.{CertLine}
use Rattle.explain.specs.Verified.{IsVerified}
use Rattle.flow_core.specs.Driving.{templates}
use Rattle.flow_core.specs.declared.state.Core.{Core}

-- a text is that of one line at most
abbrev pub CertLinesAreOne : Type 0
CertLinesAreOne = (bytes : List ℕ) (line : CertLine) → Writes bytes line → WritesNoOther bytes line

-- over templates that are laid out right, what is answered to lines is one text, and refused or not
abbrev pub VerificationsAreOne : Type 0
VerificationsAreOne =
    (c : Core) (lines : List (Vec ℕ × Bool)) (text other : List ℕ) (refused denied : Bool)
    → AreLaidTemplates (templates c) → IsVerified c lines text refused → IsVerified c lines other denied
    → (text ≡ other) × (refused ≡ denied)
