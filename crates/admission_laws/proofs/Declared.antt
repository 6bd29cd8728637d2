-- A text that breaks no rule declares no member of a structure twice.
use Rattle.std.proofs.Common.{inl, inr, ℕ, List, [], ◌∷◌, ◌++◌, map, None, refl, sym}
use Rattle.std.proofs.lemmas.List.Elements.{All-nil, All-cons}
use Rattle.std.proofs.lemmas.Option.{none-some}
use Rattle.std.specs.List.{All}
use Rattle.flow_model.specs.declared.graphs.Library.{Library}
use Rattle.flow_model.specs.declared.trees.ItemTree.{ItemTree}
use Rattle.flow_model.specs.declared.trees.ItemTree.TheVariants as item
use Rattle.flow_model.specs.declared.trees.Member.{Member as MemberTree}
use Rattle.flow_model.specs.declared.trees.NameAt.{NameAt}
use Rattle.leaf_rules.specs.Structures.{AreNoContainersIn, NamesNoStructure}
use Rattle.name_rules.specs.Names.{AreActivityEnds, IsEndWrong, IsInsideAgain, IsPartAgain, IsTwice}
use Rattle.template_check.specs.Rules.{Rule, IsFirstBroken, rules_on_structures, from_connectors, later_rules}
use Rattle.text_graphs.specs.Graphs.{InGraphs}
use Rattle.text_graphs.specs.Meeting.{IsAgainAt}
use Rattle.text_graphs.specs.Places.{AnyAt, PairAt}
use Rattle.text_graphs.specs.Texts.{structures_in}
use Rattle.admission_laws.proofs.Structures.{IsOtherMember, DifferInName, DeclareOnce}

-- ---- the rule

passed : (rule : Rule) (rules : List Rule) → IsFirstBroken (rule ∷ rules) None
    → ((p : ℕ) → rule.1 p → ⊥) × IsFirstBroken rules None
passed rule rules (inl here) = absurd (none-some (rule.0, here.0) here.1)
passed rule rules (inr past) = past

-- ---- members

others_named : (name : NameAt) (ms : List MemberTree)
    → ((p : ℕ) → AnyAt (IsAgainAt name) (map (λ m. m.name) ms) p → ⊥) → All (IsOtherMember name.name) ms
others_named name [] none = All-nil (IsOtherMember name.name)
others_named name (m ∷ ms) none =
    All-cons (IsOtherMember name.name) m ms (λ same. none m.name.place (inl (sym same, refl)))
    (others_named name ms (λ p again. none p (inr again)))

members_differ : (ms : List MemberTree) → ((p : ℕ) → PairAt IsAgainAt (map (λ m. m.name) ms) p → ⊥) → DifferInName ms
members_differ [] none = tt
members_differ (m ∷ ms) none =
    (others_named m.name ms (λ p again. none p (inl again)), members_differ ms (λ p again. none p (inr again)))

-- ---- structures

declared_once : (items : List ItemTree) → ((p : ℕ) → AnyAt IsPartAgain items p → ⊥) → DeclareOnce (structures_in items)
declared_once [] none = All-nil _
declared_once (item.Structure s ∷ items) none =
    All-cons (λ x. DifferInName x.members) s (structures_in items)
    (members_differ s.members (λ p again. none p (inl again)))
    (declared_once items (λ p again. none p (inr again)))
declared_once (item.Person q ∷ items) none = declared_once items (λ p again. none p (inr again))
declared_once (item.Process q ∷ items) none = declared_once items (λ p again. none p (inr again))

-- what comes behind the rules on what is declared
abbrev behind_names : Library → List ItemTree → List Rule
behind_names library items =
    (6, NamesNoStructure (structures_in items) (InGraphs items (AreNoContainersIn (structures_in items))))
    ∷ (rules_on_structures items ++ from_connectors library items)

pub declares_once : (library : Library) (items : List ItemTree) → IsFirstBroken (later_rules library items) None
    → DeclareOnce (structures_in items)
declares_once library items none =
    let rule_4 = passed (4, IsEndWrong items (InGraphs items AreActivityEnds))
    ((5, IsTwice items (InGraphs items IsInsideAgain)) ∷ behind_names library items) none in
    let rule_5 = passed (5, IsTwice items (InGraphs items IsInsideAgain)) (behind_names library items) rule_4.1 in
    declared_once items (λ p again. rule_5.0 p (inl (inr again)))
