-- The scopes inside a root: those that its state has, those that the recursion over its graph starts, and what the one
-- says of the other.
use Rattle.std.specs.Prelude.{◌≡◌, ℕ, zero, suc, Option, Some, List, [], ◌∷◌, option_and_then, IsTrue}
use Rattle.blocks_subprocs.specs.Ends.{ends_of}
use Rattle.fate_laws.specs.StartedScopes.{ScopeFact}
use Rattle.flow_model.specs.Fates.{is_settled}
use Rattle.flow_model.specs.Scopes.{Known, at, tree_ends, tree_fate}
use Rattle.flow_model.specs.declared.graphs.Container.{Container}
use Rattle.flow_model.specs.declared.graphs.Graph.{Graph}
use Rattle.flow_model.specs.declared.graphs.Template.{Template}
use Rattle.flow_model.specs.declared.instances.Part.{Part}
use Rattle.navigator.specs.Items.{Stand, into}
use Rattle.navigator.specs.Reading.{fate_in, hold_in, with_hold}
use Rattle.navigator.specs.declared.scopes.ScopeState.{out-ScopeState}
use Rattle.view_laws.specs.LegalRuns.{IsStartedAttempt}

-- the scope of a state to which the parts lead
abbrev pub scope_at : List Template → List Part → Stand → Option Stand
scope_at ts [] at = Some at
scope_at ts (q ∷ qs) at = option_and_then (scope_at ts qs) (into ts at q)

-- the parts lead along attempts that have started to a scope of the recursion of which this holds
abbrev pub LeadsTo : ScopeFact → List Template → ℕ → Known → Graph → Container → List Part → Type 0
LeadsTo fact ts depth k g input [] = fact depth k g input
LeadsTo fact ts zero k g input (q ∷ p) = ⊥
LeadsTo fact ts (suc depth) k g input (q ∷ p) = IsStartedAttempt ts (suc depth) k g input q
    (λ h i. LeadsTo fact ts depth (at q k) h i p)

-- the parts lead to a scope of the recursion
abbrev pub IsStartedScope : List Template → ℕ → Known → Graph → Container → List Part → Type 0
IsStartedScope ts depth k g input parts = LeadsTo (λ d l h i. Unit {0}) ts depth k g input parts

-- what the state of a scope says of activities that have ended is so by the recursion: whether they are dead or
-- finished, with which output and after which attempt
pub record SaysRight (ts : List Template) (here : Stand) (depth : ℕ) (k : Known) (g : Graph)
    (input : Container) : Type 0 where
  pub graph : here.graph ≡ g
  pub ends : (a : ℕ) → IsTrue (is_settled (ends_of (out-ScopeState here.scope).ends.items a))
      → ends_of (out-ScopeState here.scope).ends.items a ≡ tree_ends ts depth k g input a
  pub fates : (a : ℕ) → IsTrue (is_settled (ends_of (out-ScopeState here.scope).ends.items a))
      → fate_in here.scope a ≡ with_hold (hold_in here.scope a) (tree_fate ts depth k g input a)

-- it says all that the recursion tells of the scope, but for who holds an item
pub record SaysAll (ts : List Template) (here : Stand) (depth : ℕ) (k : Known) (g : Graph)
    (input : Container) : Type 0 where
  pub graph : here.graph ≡ g
  pub ends : (a : ℕ) → ends_of (out-ScopeState here.scope).ends.items a ≡ tree_ends ts depth k g input a
  pub fates : (a : ℕ) → fate_in here.scope a ≡ with_hold (hold_in here.scope a) (tree_fate ts depth k g input a)
