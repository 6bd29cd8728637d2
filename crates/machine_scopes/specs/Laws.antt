-- A change of the scope to which parts lead is the same in the navigator and in the machine, if that of one scope is.
use Rattle.std.specs.Prelude.{◌≡◌, List}
use Rattle.flow_model.specs.declared.graphs.Graph.{Graph}
use Rattle.flow_model.specs.declared.graphs.Template.{Template}
use Rattle.flow_model.specs.declared.instances.Part.{Part}
use Rattle.machine.specs.Moves.{Change, Told, changes_at}
use Rattle.navigator.specs.Events.{ScopeChange, ChangesAt}
use Rattle.navigator.specs.declared.scopes.ScopeState.{ScopeState}
use Rattle.machine_scopes.specs.Seen.{scopes_of, Along}

-- where the machine changes one scope as the navigator does, it also changes the scope to which parts lead as that does
abbrev pub GoesIn : Type 1
GoesIn =
    (ts : List Template) (change : ScopeChange) (move : Change) (P : Graph → ScopeState → Type 0) (told : Told)
    → ((h : Graph) (u u' : ScopeState) → P h u → change h u u'
    → move h (scopes_of u) ≡ record { scopes = scopes_of u'; told = told })
    → (parts : List Part) (g : Graph) (s s' : ScopeState) → Along ts P parts g s → ChangesAt ts change parts g s s'
    → changes_at ts move parts g (scopes_of s) ≡ record { scopes = scopes_of s'; told = told }
