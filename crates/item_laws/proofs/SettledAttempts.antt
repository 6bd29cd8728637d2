-- The attempts of an activity that is settled: each has given something.
use Rattle.std.proofs.Common.{◌≡◌, ℕ, Bool, true, false, List, [], length, Option, Some, None, refl}
use Rattle.std.specs.Prelude.{slice_get}
use Rattle.std.specs.List.{last_or}
use Rattle.fate_laws.proofs.Attempts.{closed}
use Rattle.fate_laws.proofs.Extends.{and_true}
use Rattle.fate_laws.proofs.Steps.{closed_of}
use Rattle.flow_model.specs.Fates.{joined, fate_by, ended, is_settled, is_open}
use Rattle.flow_model.specs.ScopeContainers.{base_of}
use Rattle.flow_model.specs.Scopes.{Known, Start, tries, gives, trial, values_at, attempts, attempts_at, fate_given, output, tree_ends}
use Rattle.flow_model.specs.declared.graphs.Activity.{Activity}
use Rattle.flow_model.specs.declared.graphs.Container.{Container}
use Rattle.flow_model.specs.declared.graphs.Graph.{Graph, out-Graph}
use Rattle.flow_model.specs.declared.graphs.Template.{Template}
use Rattle.view_laws.proofs.Attempts.{reached_open}
use Rattle.view_laws.proofs.StartedParts.{Starts, listed_starts}
use Rattle.view_laws.specs.Coming.{started_in}

-- the attempts of an activity that is settled and has some have ended
closed_attempts : (activity : Activity) (v : Option Bool) (outs : List Container) → is_open (fate_by activity v outs) ≡ true → is_settled (ended (fate_by activity v outs) outs) ≡ true
    → closed activity.exit outs ≡ true
closed_attempts activity None outs opens settled = let n : ⊥ = cc in absurd n
closed_attempts activity (Some false) outs opens settled = let n : ⊥ = cc in absurd n
closed_attempts activity (Some true) outs opens settled = closed_of activity (length outs) outs (last_or None outs) settled

module _ (ts : List Template) (depth : ℕ) (k : Known) (g : Graph) (input : Container) (a : ℕ) (activity : Activity) (is : slice_get (out-Graph g).activities a ≡ Some activity)
    (settled : is_settled (ended (fate_given ts k (output ts depth) g input (tree_ends ts depth k g input) a) (attempts ts k (output ts depth) g input (tree_ends ts depth k g input) a)) ≡ true)
    (start : Start) (i : ℕ) (there : slice_get (started_in ts depth k g input a activity) i ≡ Some start) where
  started : Starts ts depth k g input a activity start.attempt start.input
  started = listed_starts ts depth k g input a activity i start is there

  abbrev base : Container
  base = base_of g activity a input (tree_ends ts depth k g input)

  all_closed : closed activity.exit (tries k.most (gives ts k (output ts depth) activity.name activity.work) (trial g a activity base) 1 base) ≡ true
  all_closed = go (k.begun []) refl
    where
      go : (b : Bool) → k.begun [] ≡ b → closed activity.exit (tries k.most (gives ts k (output ts depth) activity.name activity.work) (trial g a activity base) 1 base) ≡ true
      go false unbegun = let n : false ≡ true = rw unbegun at settled in let m : ⊥ = cc in absurd m
      go true begun =
          let both = and_true (is_open (fate_given ts k (output ts depth) g input (tree_ends ts depth k g input) a)) _ started.active in
          rw both.1 at
          (closed_attempts activity (joined activity.join (values_at k (out-Graph g).controls (tree_ends ts depth k g input) a)) (attempts_at ts k (output ts depth) g input (tree_ends ts depth k g input) a (Some activity))
          (rw (begun, is) at both.0) (rw (begun, is) at settled))

  pub each_gave : (out : Container) × (gives ts k (output ts depth) activity.name activity.work start.attempt start.input ≡ Some out)
  each_gave = by (gives ts k (output ts depth) activity.name activity.work start.attempt start.input) refl
    where
      by : (o : Option Container) → gives ts k (output ts depth) activity.name activity.work start.attempt start.input ≡ o
          → (out : Container) × (gives ts k (output ts depth) activity.name activity.work start.attempt start.input ≡ Some out)
      by None none = absurd (reached_open k.most _ _ 1 _ start.attempt start.input started.reach none all_closed)
      by (Some out) some = (out, some)
