-- The order of a small graph, and what the empty text means.
use Rattle.std.proofs.Common.{◌≡◌, ℕ, zero, suc, ◌<◌, None, List, [], ◌∷◌, ◌++◌, inl, inr, length}
use Rattle.std.proofs.Common.{get_or, refl, ap, arith}
use Rattle.std.proofs.lemmas.Option.{none-some}
use Rattle.connector_rules.specs.Connectors.{IsEmptyGraph}
use Rattle.fdl_lexer.specs.Gaps.{Nothing}
use Rattle.fdl_parser.specs.Items.{NoItem}
use Rattle.flow_model.specs.declared.graphs.Library.{Library}
use Rattle.graph_check.specs.Walks.{HasEdge, IsWalk, AreNodes}
use Rattle.machine.specs.Imports.{Added, IsMeaning}
use Rattle.name_rules.specs.Names.{IsInsideAgain, IsTwice}
use Rattle.template_check.proofs.FirstBroken.{none_then}
use Rattle.template_check.specs.Compiling.{HasTree}
use Rattle.template_check.specs.Judged.{IsFaultless}
use Rattle.template_check.specs.Rules.{IsFirstBroken, rules_on_names, rules_on_structures, rules_on_connectors}
use Rattle.template_check.specs.Rules.{rules_on_leaves, rules_on_lines, rules_on_callees, rules_on_people}
use Rattle.template_check.specs.Rules.{rules_on_sizes, rules_on_counts, from_sizes, from_callees, from_leaves}
use Rattle.template_check.specs.Rules.{from_connectors, later_rules}
use Rattle.text_graphs.specs.ClosedWalks.{IsAcyclic}
use Rattle.text_graphs.specs.Graphs.{GraphAt, InGraphs, IsGraphOf}
use Rattle.meaning_laws.proofs.Listed.{listed}
use Rattle.meaning_laws.proofs.Orders.{above, filed_to, level_order_there, level_to, levels, rows}
use Rattle.meaning_laws.proofs.Texts.{text_meant}

-- ---- an edge from 0 to 2, and one from 2 to 1

abbrev edges : List (ℕ × ℕ)
edges = (0, 2) ∷ (2, 1) ∷ []

nodes : AreNodes 3 edges
nodes zero d less = (omega arith, omega arith)
nodes (suc zero) d less = (omega arith, omega arith)
nodes (suc (suc k)) d less = absurd (omega (arith, less))

-- how far along each node is
abbrev along : ℕ → ℕ
along zero = 0
along (suc zero) = 2
along (suc (suc a)) = 1

-- an edge goes on
goes_on : (a b : ℕ) → HasEdge edges a b → along a < along b
goes_on a b e = go e.0 e.1 e.2
  where
    pair : (x y : ℕ) → along x < along y → ◌≡◌ {A = ℕ × ℕ} (x, y) (a, b) → along a < along b
    pair x y less same =
        let first : x ≡ a = ap (λ (z : ℕ × ℕ). z.0) same in
        let second : y ≡ b = ap (λ (z : ℕ × ℕ). z.1) same in
        rw (← first, ← second) less

    go : (k : ℕ) → k < length edges → get_or edges k (a, b) ≡ (a, b) → along a < along b
    go zero less same = pair 0 2 (omega arith) same
    go (suc zero) less same = pair 2 1 (omega arith) same
    go (suc (suc k)) less same = absurd (omega (arith, less))

-- and so does a walk
walks_on : (through : List ℕ) (a b : ℕ) → IsWalk edges a through b → along a < along b
walks_on [] a b w = goes_on a b w
walks_on (c ∷ through) a b w = omega (arith, goes_on a c w.0, walks_on through c b w.1)

acyclic : IsAcyclic edges
acyclic a closed = let less = walks_on closed.0 a a closed.1 in omega (arith, less)

-- node 2 is on level 1, and node 1 on level 2
order : (level_order_there 3 edges nodes acyclic).0 ≡ 0 ∷ 2 ∷ 1 ∷ []
unfolding level_order_there rows filed_to levels level_to above listed
order = refl

-- ---- the empty text

-- it has no token and no item
has_tree : HasTree [] (record { items = [] })
has_tree = record {
  tokens = [];
  scanned = record {
    allowed = λ k d less. absurd (omega (arith, less));
    end = 0;
    scanned = refl;
    within = omega arith;
    rest = Nothing;
  };
  parsed = NoItem;
}

-- where there are no items there is no graph
no_graph : (g : GraphAt) → IsGraphOf [] g → ⊥
no_graph g of = none-some of.1 of.2

-- so no rule is broken: none on names
names : IsFirstBroken (rules_on_names []) None
names = inr (
  λ p h. elim h [ inl e ↦ e | inr e ↦ no_graph e.0 e.1 ],
  inr (twice, inr (λ p h. elim h [ inl e ↦ e | inr e ↦ no_graph e.0 e.1 ], refl)),
)
  where
    twice : (p : ℕ) → IsTwice [] (InGraphs [] IsInsideAgain) p → ⊥
    twice p (inl (inl (inl e))) = e
    twice p (inl (inl (inr (inl e)))) = e
    twice p (inl (inl (inr (inr e)))) = e
    twice p (inl (inr e)) = e
    twice p (inr e) = no_graph e.0 e.1

-- on structures
structures : IsFirstBroken (rules_on_structures []) None
structures = inr (λ p h. none-some h.s h.is, inr (λ p h. h, refl))

-- on connectors, leaves, lines, callees and people
connectors : IsFirstBroken (rules_on_connectors []) None
connectors = inr (λ p h. no_graph h.0 h.1, inr (λ p h. no_graph h.0 h.1, inr (λ p h. no_graph h.0 h.1, last)))
  where
    last : IsFirstBroken ((12, InGraphs [] IsEmptyGraph) ∷ []) None
    last = inr (λ p h. no_graph h.0 h.1, refl)

leaves : IsFirstBroken (rules_on_leaves []) None
leaves = inr (λ p h. no_graph h.0 h.1, inr (λ p h. no_graph h.0 h.1, refl))

lines : IsFirstBroken (rules_on_lines []) None
lines = inr (λ p h. no_graph h.0 h.1, inr (λ p h. no_graph h.0 h.1, refl))

callees : (library : Library) → IsFirstBroken (rules_on_callees library []) None
callees library = inr (λ p h. no_graph h.0 h.1, inr (λ p h. no_graph h.0 h.1, refl))

people : (library : Library) → IsFirstBroken (rules_on_people library []) None
people library = inr (λ p h. no_graph h.0 h.1, inr (λ p h. no_graph h.0 h.1, refl))

-- on sizes and counts
sizes : (library : Library) → IsFirstBroken (rules_on_sizes library []) None
sizes library = inr (λ p h. none-some h.1 h.2, inr (λ p h. none-some h.1 h.2, refl))

counts : IsFirstBroken (rules_on_counts []) None
counts = inr (
  λ p h. elim h [ inl e ↦ e | inr e ↦ no_graph e.0 e.1 ],
  inr (λ p h. elim h [ inl e ↦ none-some e.0 e.1 | inr e ↦ no_graph e.0 e.1 ], refl),
)

unbroken : (library : Library) → IsFirstBroken (later_rules library []) None
unbroken library =
    none_then (rules_on_names []) (rules_on_structures [] ++ from_connectors library []) None names
    (none_then (rules_on_structures []) (from_connectors library []) None structures
    (none_then (rules_on_connectors []) (from_leaves library []) None connectors
    (none_then (rules_on_leaves []) (rules_on_lines [] ++ from_callees library []) None leaves
    (none_then (rules_on_lines []) (from_callees library []) None lines
    (none_then (rules_on_callees library []) (rules_on_people library [] ++ from_sizes library []) None
    (callees library)
    (none_then (rules_on_people library []) (from_sizes library []) None (people library)
    (none_then (rules_on_sizes library []) (rules_on_counts []) None (sizes library) counts)))))))

-- so the text is faultless
faultless : (library : Library) → IsFaultless library []
faultless library = record {
  short = omega arith;
  tree = record { items = [] };
  has = has_tree;
  none = unbroken library;
}

-- behind each library the empty text means something
meaning : (library : Library) → (added : Added) × IsMeaning library [] added
meaning library = text_meant library [] (faultless library)
