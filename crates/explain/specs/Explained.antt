-- What `explain` answers: a certificate of an activity that holds over a state, or why there is none.
use Rattle.std.specs.Prelude.{◌≡◌, ◌⊎◌, ℕ, ◌-◌, Bool, true, false, Option, Some, None, MatchOption, List, [], ◌∷◌, ◌++◌}
use Rattle.std.specs.Prelude.{length, slice_get, codes, decimal}
use Rattle.certificates.specs.Justified.{AreJustified}
use Rattle.certificates.specs.Kept.{AreLaidTemplates}
use Rattle.certificates.specs.declared.lines.CertLine.{CertLine}
use Rattle.flow_core.specs.Driving.{templates, graph_now}
use Rattle.flow_core.specs.Facts.{AreFactsOf}
use Rattle.flow_core.specs.declared.state.Core.{Core}
use Rattle.flow_core.specs.declared.views.RootFacts.{RootFacts}
use Rattle.flow_model.specs.declared.instances.Fate.{Fate}
use Rattle.flow_model.specs.declared.instances.Path.{Path}
use Rattle.reply_text.specs.Replies.{fate_text}
use Rattle.explain.specs.Certificates.{Settles, IsUnsettled, certificate_printed}
use Rattle.certificates.specs.Naming.{activity_spelling}
use Rattle.explain.specs.Shown.{IsShown}
use Rattle.explain.specs.Verified.{basis_in}
use Rattle.explain.specs.declared.making.ExplainFault.{ExplainFault}
use Rattle.explain.specs.declared.making.ExplainFault.TheVariants.{Root, Activity, Unsettled, NoMemory}

-- ---- a certificate

-- the last of these lines tells that this activity has ended with this fate
abbrev pub EndsWith : Path → List ℕ → Fate → List CertLine → Type 0
EndsWith p name fate lines = MatchOption (slice_get lines (length lines - 1)) ⊥ (Settles p name fate)

-- each of these lines is justified by those before it, over what the fates of a root follow from
abbrev pub AreJustifiedBy : Core → RootFacts → List CertLine → Type 0
AreJustifiedBy c f lines = AreLaidTemplates (templates c) → AreJustified (basis_in c f) lines (length lines)

-- a certificate of this activity over a state: all its lines are justified, and its last one tells the fate that the
-- state shows of it
pub record IsCertificate (c : Core) (p : Path) (name : List ℕ) (lines : List CertLine) : Type 0 where
  pub facts : RootFacts
  pub of_root : AreFactsOf c p.root facts
  pub justified : AreJustifiedBy c facts lines
  pub fate : Fate
  pub shown : IsShown c p.root (activity_spelling p name) (Some fate)
  pub last : EndsWith p name fate lines

-- ---- why there is none

-- why an activity of this scope has no certificate: no root of its number is live; else what is begun of the root has
-- no such
-- activity, or shows it as neither dead nor finished
abbrev pub HasNone : Core → Path → List ℕ → ExplainFault → Type 0
HasNone c p name (Root root) = (root ≡ p.root) × (graph_now c root ≡ None)
HasNone c p name Activity = IsShown c p.root (activity_spelling p name) None
HasNone c p name (Unsettled fate) = IsShown c p.root (activity_spelling p name) (Some fate) × IsUnsettled fate
HasNone c p name NoMemory = Unit {0}

-- the same, of what is shown of the activity of a live root
abbrev pub IsWithout : Option Fate → ExplainFault → Type 0
IsWithout found (Root root) = ⊥
IsWithout found Activity = found ≡ None
IsWithout found (Unsettled fate) = (found ≡ Some fate) × IsUnsettled fate
IsWithout found NoMemory = Unit {0}

-- of what is shown of an activity: it has ended, and so do these lines tell at their end
abbrev pub EndsAs : Option Fate → Path → List ℕ → List CertLine → Type 0
EndsAs found p name lines = (fate : Fate) × (found ≡ Some fate) × EndsWith p name fate lines

-- ---- what is printed

-- what is printed where there is none
abbrev pub IsFaultText : ExplainFault → List ℕ → Type 0
IsFaultText (Root root) text = text ≡ codes "no ROOT " ++ decimal root ++ 10 ∷ []
IsFaultText Activity text = text ≡ codes "no ACTIVITY\n"
IsFaultText (Unsettled fate) text = text ≡ codes "no UNSETTLED " ++ fate_text fate ++ 10 ∷ []
IsFaultText NoMemory text = ⊥

-- the text of a certificate of this activity; or, as a refusal, that of why there is none
abbrev pub IsExplained : Core → Path → List ℕ → List ℕ → Bool → Type 0
IsExplained c p name text refused =
    ((lines : List CertLine) × IsCertificate c p name lines × (text ≡ certificate_printed lines) × (refused ≡ false))
    ⊎ ((fault : ExplainFault) × HasNone c p name fault × IsFaultText fault text × (refused ≡ true))

-- the same of the activity that a word names
abbrev pub ExplainsWord : Core → List ℕ → List ℕ → Bool → Type 0
ExplainsWord c word text refused = (p : Path) × (name : List ℕ) × (activity_spelling p name ≡ word)
    × IsExplained c p name text refused
