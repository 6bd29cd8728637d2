-- The graphs that a pass goes through, and what it finds of an activity and of an attempt.
use Rattle.std.specs.Prelude.{◌≡◌, ℕ, zero, suc, ◌&&◌, true, if◌then◌else◌, Option, Some, None, List, [], ◌∷◌, ◌++◌}
use Rattle.std.specs.Prelude.{length}
use Rattle.std.specs.List.{last_or}
use Rattle.fate_eval.specs.declared.passes.Turn.{Turn}
use Rattle.fate_eval.specs.declared.passes.Turn.TheVariants.{Stops, GoesOn}
use Rattle.flow_model.specs.Conditions.{holds}
use Rattle.flow_model.specs.Fates.{Ends, tried, ended, is_open, goes_on, fate_by}
use Rattle.flow_model.specs.Rows.{by_facts, rows_below, rows as rows_in}
use Rattle.flow_model.specs.ScopeContainers.{graph_in, base_of, looped}
use Rattle.flow_model.specs.Scopes.{Known, Start, part, scope_gives, gives, trial, starts, is_fed, tries_on}
use Rattle.flow_model.specs.Scopes.{attempts_at, fate_at, output as output_of_scope}
use Rattle.flow_model.specs.declared.graphs.Activity.{Activity}
use Rattle.flow_model.specs.declared.graphs.Container.{Container}
use Rattle.flow_model.specs.declared.graphs.Graph.{Graph, out-Graph}
use Rattle.flow_model.specs.declared.graphs.Template.{Template}
use Rattle.flow_model.specs.declared.instances.Fact.{Fact}
use Rattle.flow_model.specs.declared.instances.Fate.{Fate}
use Rattle.flow_model.specs.declared.instances.Fate.TheVariants.{Finished}
use Rattle.flow_model.specs.declared.instances.FateRow.{FateRow}
use Rattle.flow_model.specs.declared.instances.Path.{Path}
use Rattle.flow_model.specs.declared.instances.SourceEnd.{SourceEnd}
use Rattle.flow_model.specs.declared.instances.SourceEnd.TheVariants as end

-- ---- one activity, by how the others have ended

-- the rows of a scope below one that may nest so deep
abbrev pub rows_inside : List Template → ℕ → Known → Graph → Container → Path → List FateRow
rows_inside ts zero k g input s = []
rows_inside ts (suc depth) k g input s = rows_in ts depth k g input s

-- what an attempt gives, and the rows below it
pub record IsAttempt (ts : List Template) (depth : ℕ) (k : Known) (s : Path) (activity : Activity) (j : ℕ)
    (input : Container) (out : Option Container) (rows : List FateRow) : Type 0 where
  pub gave : out ≡ gives ts k (output_of_scope ts depth) activity.name activity.work j input
  pub shown : rows ≡ rows_below (rows_inside ts depth) k activity (graph_in ts activity.work)
      (record { attempt = j; input = input } ∷ []) s

-- what comes of an activity at an attempt that doesn't count, with the rows below those before it
pub record IsLast (ts : List Template) (depth : ℕ) (k : Known) (s : Path) (activity : Activity) (j : ℕ)
    (input : Container) (before : List FateRow) (f : Fate) (e : SourceEnd) (rows : List FateRow) : Type 0 where
  pub fate : f ≡ goes_on activity.work j
  pub ending : e ≡ end.Unsettled
  pub shown : rows ≡ before ++ rows_below (rows_inside ts depth) k activity (graph_in ts activity.work)
      (record { attempt = j; input = input } ∷ []) s

-- what comes of an activity whose attempts start on this input, and the rows below it
pub record AreAttempts (ts : List Template) (depth : ℕ) (k : Known) (g : Graph) (s : Path) (a : ℕ) (activity : Activity)
    (base : Container) (f : Fate) (e : SourceEnd) (rows : List FateRow) : Type 0 where
  pub fate : f ≡ tried activity (length (tries_on ts k (output_of_scope ts depth) g a activity base))
      (last_or None (tries_on ts k (output_of_scope ts depth) g a activity base))
  pub end : e ≡ ended f (tries_on ts k (output_of_scope ts depth) g a activity base)
  pub shown : rows ≡ rows_below (rows_inside ts depth) k activity (graph_in ts activity.work)
      (starts (suc k.most) (gives ts k (output_of_scope ts depth) activity.name activity.work)
      (trial g a activity base) 1 base) s

-- the fate of an activity, by how the others have ended
abbrev pub fate_by_ends : List Template → ℕ → Known → Graph → Container → Ends → ℕ → Option Activity → Fate
fate_by_ends ts depth k g input e a activity =
    fate_at k (out-Graph g).controls e a activity (attempts_at ts k (output_of_scope ts depth) g input e a activity)

-- how it has ended
abbrev pub end_by_ends : List Template → ℕ → Known → Graph → Container → Ends → ℕ → Option Activity → SourceEnd
end_by_ends ts depth k g input e a activity =
    ended (fate_by_ends ts depth k g input e a activity)
    (attempts_at ts k (output_of_scope ts depth) g input e a activity)

-- its attempts that start
abbrev pub starts_by_ends : List Template → ℕ → Known → Graph → Container → Ends → ℕ → Activity → List Start
starts_by_ends ts depth k g input e a activity =
    if is_open (fate_by_ends ts depth k g input e a (Some activity)) && is_fed (out-Graph g).lines a e
    then starts (suc k.most) (gives ts k (output_of_scope ts depth) activity.name activity.work)
    (trial g a activity (base_of g activity a input e)) 1 (base_of g activity a input e)
    else []

-- its row, and those below it
abbrev pub rows_by_ends : List Template → ℕ → Known → Graph → Container → Path → Ends → ℕ → Option Activity
    → List FateRow
rows_by_ends ts depth k g input s e a None = []
rows_by_ends ts depth k g input s e a (Some activity) =
    record { scope = s; name = activity.name; fate = fate_by_ends ts depth k g input e a (Some activity) }
    ∷ rows_below (rows_inside ts depth) k activity (graph_in ts activity.work)
    (starts_by_ends ts depth k g input e a activity) s

-- what is found of the activity at a place
pub record IsFound (ts : List Template) (depth : ℕ) (k : Known) (g : Graph) (input : Container) (s : Path) (e : Ends)
    (a : ℕ) (activity : Option Activity) (end : SourceEnd) (rows : List FateRow) : Type 0 where
  pub ending : end ≡ end_by_ends ts depth k g input e a activity
  pub shown : rows ≡ rows_by_ends ts depth k g input s e a activity

-- what is found of a scope
pub record IsPassed (ts : List Template) (depth : ℕ) (k : Known) (g : Graph) (input : Container) (s : Path)
    (out : Option Container) (rows : List FateRow) : Type 0 where
  pub given : out ≡ output_of_scope ts (suc depth) k g input
  pub shown : rows ≡ rows_in ts depth k g input s

-- what an attempt of a block or process activity gives
pub record IsScopeAttempt (ts : List Template) (depth : ℕ) (k : Known) (s : Path) (activity : Activity) (j : ℕ)
    (input : Container) (out : Option Container) (rows : List FateRow) : Type 0 where
  pub gave : out ≡ scope_gives k (output_of_scope ts depth) (graph_in ts activity.work) (part activity.name j) input
  pub shown : rows ≡ rows_below (rows_inside ts depth) k activity (graph_in ts activity.work)
      (record { attempt = j; input = input } ∷ []) s

-- what follows of an attempt that gave this: the activity stops at a fate and an end, or goes on with an input
abbrev pub turn_of : Graph → ℕ → Activity → Container → ℕ → Option Container → Turn
turn_of g a activity base j None = Stops (goes_on activity.work j) end.Unsettled
turn_of g a activity base j (Some out) =
    if holds activity.exit out then Stops (Finished j) (end.Finished out) else GoesOn
    (looped (out-Graph g).loops a out base)

-- what comes of an activity whose join is true, by how the others have ended
pub record IsOpen (ts : List Template) (depth : ℕ) (k : Known) (g : Graph) (input : Container) (s : Path) (e : Ends)
    (a : ℕ) (activity : Activity) (f : Fate) (end : SourceEnd) (rows : List FateRow) : Type 0 where
  pub fate : f ≡ fate_by activity (Some true) (attempts_at ts k (output_of_scope ts depth) g input e a (Some activity))
  pub ending : end ≡ ended f (attempts_at ts k (output_of_scope ts depth) g input e a (Some activity))
  pub shown : rows ≡ rows_below (rows_inside ts depth) k activity (graph_in ts activity.work)
      (if is_fed (out-Graph g).lines a e
      then starts (suc k.most) (gives ts k (output_of_scope ts depth) activity.name activity.work)
      (trial g a activity (base_of g activity a input e)) 1 (base_of g activity a input e)
      else []) s

-- the rows and the output of a root that nests at most this deep are those of its completions
pub record AreFates (ts : List Template) (depth : ℕ) (g : Graph) (root : ℕ) (input : Container) (fs : List Fact)
    (shown : List FateRow) (out : Option Container) : Type 0 where
  pub rows : shown ≡ rows_in ts depth (by_facts (length fs) fs) g input (record { root = root; parts = [] })
  pub output : out ≡ output_of_scope ts (suc depth) (by_facts (length fs) fs) g input
