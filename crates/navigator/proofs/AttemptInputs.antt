-- The input of an attempt is the base input, with the LOOP maps from the output of the attempt before it.
use Rattle.std.proofs.Common.{◌≡◌, ℕ, zero, suc, ◌+◌, ◌-◌, Bool, true, false, ◌&&◌, List, [], ◌∷◌, map, Option, Some, None, cond, refl, ap, sym, ◌∙◌, arith}
use Rattle.std.specs.Prelude.{slice_get}
use Rattle.std.specs.Option.{option_map}
use Rattle.std.proofs.Math.Path.{fun_ext}
use Rattle.activity_states.specs.States.{State, completions, output_of}
use Rattle.blocks_subprocs.specs.Ends.{ends_of}
use Rattle.fate_laws.proofs.Extends.{and_true}
use Rattle.flow_model.specs.Conditions.{holds}
use Rattle.flow_model.specs.Fates.{is_open}
use Rattle.flow_model.specs.ScopeContainers.{base_of, looped}
use Rattle.flow_model.specs.Scopes.{Gives, Trial, Start, tries, then_start, starts, gives, is_fed, trial, fate_given, output, tree_ends}
use Rattle.flow_model.specs.declared.graphs.Container.{Container}
use Rattle.flow_model.specs.declared.graphs.Graph.{Graph, out-Graph}
use Rattle.flow_model.specs.declared.graphs.Work.{Work, Program as RunsProgram, Block, Process}
use Rattle.flow_model.specs.declared.instances.Fate.{Fate}
use Rattle.navigator.specs.ItemInputs.{ReadsAttempt}
use Rattle.navigator.specs.Items.{base_at, looped_from, item_input}
use Rattle.navigator.specs.Views.{ShowsProgram, ShowsStart, ShowsWork}
use Rattle.navigator.specs.declared.scopes.ActivityState.{Program}
use Rattle.navigator.specs.declared.scopes.ScopeState.{ScopeState, out-ScopeState}
use Rattle.navigator.proofs.RowLists.{started_numbered}

-- ---- attempts that start

-- the first attempt reads the base input, a later one what the LOOP maps make of the output before it
abbrev ReadsBefore : Gives → Trial → ℕ → ℕ → Container → ℕ → Start → Type 0
ReadsBefore give t n j x zero start = start.input ≡ x
ReadsBefore give t n j x (suc m) start = (out : Container) × (slice_get (tries n give t j x) m ≡ Some out) × (start.input ≡ t.loops out)

none_there : {A : Type 0} (start : A) → None ≡ Some start → ⊥
none_there start h = cc

start_reads : (n : ℕ) (give : Gives) (t : Trial) (j : ℕ) (x : Container) (i : ℕ) (start : Start) → slice_get (starts (suc n) give t j x) i ≡ Some start → ReadsBefore give t n j x i start
start_reads n give t j x zero start there =
    let same : record { attempt = j; input = x } ≡ start = cc in
    ap (λ (s : Start). s.input) (sym same)
start_reads zero give t j x (suc m) start there = go (give j x) there
  where
    empty : (b : Bool) → slice_get (cond b [] []) m ≡ Some start → ⊥
    empty true h = none_there start h
    empty false h = none_there start h

    go : (o : Option Container) → slice_get (then_start t o (λ out. starts zero give t (j + 1) (t.loops out))) m ≡ Some start → ReadsBefore give t zero j x (suc m) start
    go None h = absurd (none_there start h)
    go (Some out) h = absurd (empty (holds t.exit out) h)
start_reads (suc n) give t j x (suc m) start there = go (give j x) refl there (λ out. start_reads n give t (j + 1) (t.loops out) m start)
  where
    later : (out : Container) (m : ℕ) → give j x ≡ Some out → holds t.exit out ≡ false → ReadsBefore give t n (j + 1) (t.loops out) m start → ReadsBefore give t (suc n) j x (suc m) start
    later out zero is goes reads = (out, rw is refl, reads)
    later out (suc m) is goes reads = (reads.0, rw (is, goes) reads.1, reads.2)

    exit : (out : Container) → give j x ≡ Some out → (b : Bool) → holds t.exit out ≡ b → slice_get (cond b [] (starts (suc n) give t (j + 1) (t.loops out))) m ≡ Some start
        → (slice_get (starts (suc n) give t (j + 1) (t.loops out)) m ≡ Some start → ReadsBefore give t n (j + 1) (t.loops out) m start) → ReadsBefore give t (suc n) j x (suc m) start
    exit out is true goes h rest = absurd (none_there start h)
    exit out is false goes h rest = later out m is goes (rest h)

    go : (o : Option Container) → give j x ≡ o → slice_get (then_start t o (λ out. starts (suc n) give t (j + 1) (t.loops out))) m ≡ Some start
        → ((out : Container) → slice_get (starts (suc n) give t (j + 1) (t.loops out)) m ≡ Some start → ReadsBefore give t n (j + 1) (t.loops out) m start)
        → ReadsBefore give t (suc n) j x (suc m) start
    go None is h rest = absurd (none_there start h)
    go (Some out) is h rest = exit out is (holds t.exit out) refl h (rest out)

-- ---- one item

shown_program : (w : Work) (fate : Fate) (outs : List Container) (ss : List Start) (shows : ShowsStart) (p : State) → ShowsWork w fate outs ss shows (Program p) → ShowsProgram fate outs p
shown_program (RunsProgram w) fate outs ss shows p is = is
shown_program (Block g) fate outs ss shows p is = absurd is
shown_program (Process t) fate outs ss shows p is = absurd is

mapped_at : {A B : Type 0} (f : A → B) (xs : List A) (i : ℕ) → option_map f (slice_get xs i) ≡ slice_get (map f xs) i
mapped_at f [] i = refl
mapped_at f (x ∷ xs) zero = refl
mapped_at f (x ∷ xs) (suc i) = mapped_at f xs i

if_some : (b : Bool) (ss : List Start) (n : ℕ) (start : Start) → slice_get (cond b ss []) n ≡ Some start → b ≡ true
if_some true ss n start there = refl
if_some false ss n start there = absurd (none_there start there)

pub item_reads : (g : Graph) (s : ScopeState) (a : ℕ) (p : State) (j : ℕ) → ReadsAttempt g s a p j (item_input g s a p j)
item_reads g s a p j = λ ts depth k input activity n start is there shows started number.
    let e = tree_ends ts depth k g input in
    let base : Container = base_of g activity a input e in
    let give : Gives = gives ts k (output ts depth) activity.name activity.work in
    let t : Trial = trial g a activity base in
    let ss = starts (suc k.most) give t 1 base in
    let both = if_some (is_open (fate_given ts k (output ts depth) g input e a) && is_fed (out-Graph g).lines a e) ss n start started in
    let two = and_true (is_open (fate_given ts k (output ts depth) g input e a)) _ both in
    let among : slice_get ss n ≡ Some start = rw both at started in
    let program = shown_program activity.work _ _ _ _ p (shows.states a activity (Program p) is there) in
    let outs : map (λ c. c.output) (completions p) ≡ tries k.most give t 1 base = program.outputs two.0 ∙ rw (is, two.1) refl in
    let j_is : j ≡ n + 1 = sym number ∙ started_numbered ts k (output ts depth) g input e a activity n start started in
    let n_is : j - 1 ≡ n = omega arith in
    let base_is : base_at g s a (slice_get (out-Graph g).activities a) ≡ base
    = ap (base_at g s a) is ∙ ap (λ i. base_of g activity a i (ends_of (out-ScopeState s).ends.items)) shows.reads ∙ ap (base_of g activity a input) (fun_ext shows.ends) in
    ap (λ m. looped_from g a (base_at g s a (slice_get (out-Graph g).activities a)) (output_of p m)) n_is
    ∙ ap (λ b. looped_from g a b (output_of p n)) base_is
    ∙ by n base t give k.most start outs refl (start_reads k.most give t 1 base n start among)
  where
    by : (n : ℕ) (base : Container) (t : Trial) (give : Gives) (most : ℕ) (start : Start) → map (λ c. c.output) (completions p) ≡ tries most give t 1 base
        → t.loops ≡ (λ out. looped (out-Graph g).loops a out base) → ReadsBefore give t most 1 base n start → looped_from g a base (output_of p n) ≡ start.input
    by zero base t give most start outs loops reads = sym reads
    by (suc m) base t give most start outs loops reads =
        let out : output_of p (suc m) ≡ Some reads.0 = mapped_at (λ c. c.output) (completions p) m ∙ ap (λ l. slice_get l m) outs ∙ reads.1 in
        ap (looped_from g a base) out ∙ ap (λ f. f reads.0) (sym loops) ∙ sym reads.2
