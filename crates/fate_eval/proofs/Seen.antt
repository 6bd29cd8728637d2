-- What is known from the scope of an attempt, and by the completions of one activity.
use Rattle.std.proofs.Common.{◌≡◌, ℕ, zero, suc, ◌+◌, true, List, ◌∷◌, take, Option, Some, None, refl, ap, sym, ◌∙◌, subst, arith}
use Rattle.std.proofs.Math.Path.{fun_ext}
use Rattle.std.specs.Prelude.{slice_get, Result, Ok, Err, IfOk}
use Rattle.std.specs.Option.{option_map}
use Rattle.flow_model.specs.Fates.{Ends}
use Rattle.flow_model.specs.Rows.{by_facts}
use Rattle.flow_model.specs.ScopeContainers.{graph_in, base_of}
use Rattle.flow_model.specs.Scopes.{Known, at, is_fed}
use Rattle.flow_model.specs.declared.graphs.Activity.{Activity}
use Rattle.flow_model.specs.declared.graphs.Container.{Container}
use Rattle.flow_model.specs.declared.graphs.Graph.{Graph, out-Graph}
use Rattle.flow_model.specs.declared.graphs.Template.{Template}
use Rattle.flow_model.specs.declared.instances.Fact.{Fact}
use Rattle.flow_model.specs.declared.instances.Fate.{Fate}
use Rattle.flow_model.specs.declared.instances.FateRow.{FateRow}
use Rattle.flow_model.specs.declared.instances.Part.{Part}
use Rattle.flow_model.specs.declared.instances.Path.{Path}
use Rattle.flow_model.specs.declared.instances.SourceEnd.{SourceEnd}
use Rattle.fate_eval.specs.Entries.{dated_in, dated_from, output_in, by_then, known_by, known_in, known_after}
use Rattle.fate_eval.proofs.Behind.{known_from, outputs_from}
use Rattle.fate_laws.specs.Layout.{IsLaid, OfInside, Laid, LaidBelow}
use Rattle.fate_laws.specs.Walks.{IsWired}
use Rattle.fate_laws.specs.WellFormed.{Well}
use Rattle.fate_eval.specs.Whole.{WellBelow}
use Rattle.fate_eval.specs.Passing.{AreAttempts, IsOpen}
use Rattle.fate_eval.specs.declared.accepted.Entry.{Entry}

-- a weaker fact of what a call gave
pub if_ok : {T E : Type 0} {P Q : T → Type 0} (r : Result T E) → IfOk r P → ((x : T) → P x → Q x) → IfOk r Q
if_ok (Ok x) holds weaker = weaker x holds
if_ok (Err e) holds weaker = tt

-- the completions below an attempt tell what is known from its scope
pub seen_by : (most : ℕ) (given inner : List Part → Option Container) (q : Part) → ((p : List Part) → inner p ≡ given (q ∷ p))
    → at q (known_by most given) ≡ known_by most inner
seen_by most given inner q same = sym (ap (known_by most) (fun_ext same))

pub seen_below : (most : ℕ) (es inner : List Entry) (q : Part) → ((p : List Part) → dated_in inner p ≡ dated_in es (q ∷ p))
    → at q (known_in most es) ≡ known_in most inner
seen_below most es inner q same = seen_by most (output_in es) (output_in inner) q (λ p. ap (option_map (λ d. d.output)) (same p))

pub after_below : (most : ℕ) (es inner : List Entry) (q : Part) (n : ℕ) → ((p : List Part) → dated_in inner p ≡ dated_in es (q ∷ p))
    → at q (known_after most es n) ≡ known_after most inner n
after_below most es inner q n same = seen_by most (λ p. by_then n (dated_in es p)) (λ p. by_then n (dated_in inner p)) q (λ p. ap (by_then n) (same p))

-- the completions of a root, as its scope sees them
pub seen_facts : (most : ℕ) (es : List Entry) (fs : List Fact) → ((p : List Part) → dated_in es p ≡ dated_from 0 fs p) → known_in most es ≡ by_facts most fs
seen_facts most es fs same = ap (known_by most) (fun_ext (λ p. ap (option_map (λ d. d.output)) (same p) ∙ outputs_from fs p 0))

pub after_facts : (most : ℕ) (es : List Entry) (fs : List Fact) (n : ℕ) → ((p : List Part) → dated_in es p ≡ dated_from 0 fs p)
    → known_after most es n ≡ by_facts most (take n fs)
after_facts most es fs n same =
    let zero_add : 0 + n ≡ n = omega arith in
    ap (known_by most) (fun_ext (λ p. ap (by_then n) (same p) ∙ rw zero_add at (known_from fs p 0 n)))

-- an activity that is fed has these attempts
pub fed_opens : (ts : List Template) (depth : ℕ) (k : Known) (g : Graph) (input : Container) (s : Path) (e : Ends) (a : ℕ) (activity : Activity) (f : Fate) (end : SourceEnd) (rows : List FateRow)
    → is_fed (out-Graph g).lines a e ≡ true → AreAttempts ts depth k g s a activity (base_of g activity a input e) f end rows
    → IsOpen ts depth k g input s e a activity f end rows
fed_opens ts depth k g input s e a activity f end rows fed attempts =
    record { fate = rw fed attempts.fate; ending = rw fed attempts.end; shown = rw fed attempts.shown }

pub laid_here : (ts : List Template) (depth : ℕ) (g : Graph) → Laid ts depth g → IsLaid g
laid_here ts zero g laid = laid.here
laid_here ts (suc depth) g laid = laid.here

none_inside : (ts : List Template) (o : Option Activity) → OfInside ts (LaidBelow ts zero) o
none_inside ts None = tt
none_inside ts (Some activity) = λ h is d e. absurd (omega (arith, e))

one_inside : (ts : List Template) (depth : ℕ) (o : Option Activity) → OfInside ts (Laid ts depth) o → OfInside ts (LaidBelow ts (suc depth)) o
one_inside ts depth None laid = tt
one_inside ts depth (Some activity) laid = λ h is d e. (let P : ℕ → Type 0 = λ n. Laid ts n h in let same : depth ≡ d = omega (arith, e) in subst P same (laid h is))

pub laid_inside : (ts : List Template) (depth : ℕ) (g : Graph) → Laid ts depth g → (a : ℕ) → OfInside ts (LaidBelow ts depth) (slice_get (out-Graph g).activities a)
laid_inside ts zero g laid a = none_inside ts (slice_get (out-Graph g).activities a)
laid_inside ts (suc depth) g laid a = one_inside ts depth (slice_get (out-Graph g).activities a) (laid.inside a)

-- ---- graphs that are well

pub well_wired : (ts : List Template) (depth : ℕ) (g : Graph) → Well ts depth g → IsWired g
well_wired ts zero g well = well.wired
well_wired ts (suc depth) g well = well.wired

none_well : (ts : List Template) (o : Option Activity) → OfInside ts (WellBelow ts zero) o
none_well ts None = tt
none_well ts (Some activity) = λ h is d e. absurd (omega (arith, e))

one_well : (ts : List Template) (depth : ℕ) (g : Graph) (a : ℕ) (o : Option Activity) → slice_get (out-Graph g).activities a ≡ o
    → ((b : ℕ) (activity : Activity) → slice_get (out-Graph g).activities b ≡ Some activity → (h : Graph) → graph_in ts activity.work ≡ Some h → Well ts depth h) → OfInside ts (WellBelow ts (suc depth)) o
one_well ts depth g a None is inside = tt
one_well ts depth g a (Some activity) is inside = λ h of d e.
    (let P : ℕ → Type 0 = λ n. Well ts n h in let same : depth ≡ d = omega (arith, e) in subst P same (inside a activity is h of))

pub well_inside : (ts : List Template) (depth : ℕ) (g : Graph) → Well ts depth g → (a : ℕ) → OfInside ts (WellBelow ts depth) (slice_get (out-Graph g).activities a)
well_inside ts zero g well a = none_well ts (slice_get (out-Graph g).activities a)
well_inside ts (suc depth) g well a = one_well ts depth g a (slice_get (out-Graph g).activities a) refl well.inside
