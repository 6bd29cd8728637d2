-- The attempts of an activity, one after the other.
use Rattle.std.proofs.Common.{◌≡◌, ℕ, zero, suc, ◌+◌, ◌≤◌, Bool, true, false, List, [], ◌∷◌, ◌++◌, length, Option, Some, None, cond, refl, ap, sym, ◌∙◌, arith, append-nil, append_assoc}
use Rattle.std.specs.Prelude.{if◌then◌else◌}
use Rattle.std.specs.List.{last_or}
use Rattle.flow_model.specs.Conditions.{holds}
use Rattle.flow_model.specs.Fates.{goes_on, tried, ended}
use Rattle.flow_model.specs.Rows.{rows_below, below}
use Rattle.flow_model.specs.ScopeContainers.{graph_in, looped}
use Rattle.flow_model.specs.Scopes.{Known, Gives, Trial, Start, and_then, then_start, tries, starts, gives, trial, tries_on, output, at, part}
use Rattle.flow_model.specs.declared.graphs.Activity.{Activity}
use Rattle.flow_model.specs.declared.graphs.Container.{Container}
use Rattle.flow_model.specs.declared.graphs.Graph.{Graph, out-Graph}
use Rattle.flow_model.specs.declared.graphs.Template.{Template}
use Rattle.flow_model.specs.declared.graphs.Work.{Work, Program, Block, Process}
use Rattle.flow_model.specs.declared.instances.Fate.{Fate}
use Rattle.flow_model.specs.declared.instances.Fate.TheVariants.{Finished}
use Rattle.flow_model.specs.declared.instances.FateRow.{FateRow}
use Rattle.flow_model.specs.declared.instances.Path.{Path}
use Rattle.flow_model.specs.declared.instances.SourceEnd.{SourceEnd}
use Rattle.flow_model.specs.declared.instances.SourceEnd.TheVariants as end
use Rattle.fate_eval.specs.Passing.{IsAttempt, IsLast, AreAttempts, rows_inside, turn_of}
use Rattle.fate_eval.specs.declared.passes.Turn.TheVariants.{Stops, GoesOn}

abbrev pub fate_then : Trial → Work → ℕ → Option Container → (Container → Fate) → Fate
fate_then t work j None next = goes_on work j
fate_then t work j (Some out) next = if holds t.exit out then Finished j else next out

-- the fate from attempt j on, of which at most n count
abbrev pub fate_from : ℕ → Gives → Trial → Work → ℕ → Container → Fate
fate_from zero give t work j input = goes_on work j
fate_from (suc n) give t work j input = fate_then t work j (give j input) (λ out. fate_from n give t work (j + 1) (t.loops out))

abbrev end_then : Trial → Option Container → (Container → SourceEnd) → SourceEnd
end_then t None next = end.Unsettled
end_then t (Some out) next = if holds t.exit out then end.Finished out else next out

-- the end from attempt j on, of which at most n count
abbrev end_from : ℕ → Gives → Trial → ℕ → Container → SourceEnd
end_from zero give t j input = end.Unsettled
end_from (suc n) give t j input = end_then t (give j input) (λ out. end_from n give t (j + 1) (t.loops out))

module _ (activity : Activity) (give : Gives) (t : Trial) (same : t.exit ≡ activity.exit) where
  tried_stop : (j m : ℕ) (prev : Option Container) (out : Container) (ts : List Container) (next : Fate) → m + 1 ≡ j
      → (holds activity.exit out ≡ false → tried activity ((m + 1) + length ts) (last_or (Some out) ts) ≡ next)
      → (b : Bool) → holds activity.exit out ≡ b
      → tried activity (m + length (out ∷ cond b [] ts)) (last_or prev (out ∷ cond b [] ts)) ≡ cond b (Finished j) next
  tried_stop j m prev out ts next is rest true stops = let e : m + suc zero ≡ j = omega arith in rw (stops, e) refl
  tried_stop j m prev out ts next is rest false goes = let e : m + suc (length ts) ≡ (m + 1) + length ts = omega arith in rw e (rest goes)

  tried_step : (j m : ℕ) (prev : Option Container) (later : Container → List Container) (next : Container → Fate) → m + 1 ≡ j
      → tried activity m prev ≡ goes_on activity.work j
      → ((out : Container) → holds activity.exit out ≡ false → tried activity ((m + 1) + length (later out)) (last_or (Some out) (later out)) ≡ next out)
      → (o : Option Container)
      → tried activity (m + length (and_then t o later)) (last_or prev (and_then t o later)) ≡ fate_then t activity.work j o next
  tried_step j m prev later next is before rest None = let e : m + zero ≡ m = omega arith in rw e before
  tried_step j m prev later next is before rest (Some out) =
      rw same (tried_stop j m prev out (later out) (next out) is (rest out) (holds activity.exit out) refl)

  pub tried_from : (n j m : ℕ) (input : Container) (prev : Option Container) → m + 1 ≡ j → tried activity m prev ≡ goes_on activity.work j
      → tried activity (m + length (tries n give t j input)) (last_or prev (tries n give t j input)) ≡ fate_from n give t activity.work j input
  tried_from zero j m input prev is before = let e : m + zero ≡ m = omega arith in rw e before
  tried_from (suc n) j m input prev is before =
      tried_step j m prev (λ out. tries n give t (j + 1) (t.loops out)) (λ out. fate_from n give t activity.work (j + 1) (t.loops out)) is before
      (λ out goes. tried_from n (j + 1) (m + 1) (t.loops out) (Some out) (omega arith)
      (let e : (m + 1) + 1 ≡ j + 1 = omega arith in rw (goes, e) refl))
      (give j input)

  ended_goes : (work : Work) (j : ℕ) (outs : List Container) → ended (goes_on work j) outs ≡ end.Unsettled
  ended_goes (Program p) j outs = refl
  ended_goes (Block g) j outs = refl
  ended_goes (Process k) j outs = refl

  ended_stop : (j : ℕ) (outs : List Container) (out : Container) (ts : List Container) (f : Fate) (e : SourceEnd)
      → (last_or None outs ≡ last_or (Some out) ts → ended f outs ≡ e)
      → (b : Bool) → last_or None outs ≡ last_or (Some out) (cond b [] ts) → ended (cond b (Finished j) f) outs ≡ cond b (end.Finished out) e
  ended_stop j outs out ts f e rest true last = rw last refl
  ended_stop j outs out ts f e rest false last = rest last

  ended_step : (j : ℕ) (outs : List Container) (prev : Option Container) (later : Container → List Container) (next : Container → Fate) (next' : Container → SourceEnd)
      → ((out : Container) → last_or None outs ≡ last_or (Some out) (later out) → ended (next out) outs ≡ next' out)
      → (o : Option Container) → last_or None outs ≡ last_or prev (and_then t o later)
      → ended (fate_then t activity.work j o next) outs ≡ end_then t o next'
  ended_step j outs prev later next next' rest None last = ended_goes activity.work j outs
  ended_step j outs prev later next next' rest (Some out) last = ended_stop j outs out (later out) (next out) (next' out) (rest out) (holds t.exit out) last

  ended_from : (n j : ℕ) (input : Container) (outs : List Container) (prev : Option Container) → last_or None outs ≡ last_or prev (tries n give t j input)
      → ended (fate_from n give t activity.work j input) outs ≡ end_from n give t j input
  ended_from zero j input outs prev last = ended_goes activity.work j outs
  ended_from (suc n) j input outs prev last =
      ended_step j outs prev (λ out. tries n give t (j + 1) (t.loops out)) (λ out. fate_from n give t activity.work (j + 1) (t.loops out)) (λ out. end_from n give t (j + 1) (t.loops out))
      (λ out l. ended_from n (j + 1) (t.loops out) outs (Some out) l) (give j input) last

-- the rows below one attempt, and those below the others
pub rows_cons : (rows : Known → Graph → Container → Path → List FateRow) (k : Known) (activity : Activity) (o : Option Graph) (x : Start) (xs : List Start) (s : Path)
    → rows_below rows k activity o (x ∷ xs) s ≡ rows_below rows k activity o (x ∷ []) s ++ rows_below rows k activity o xs s
rows_cons rows k activity None x xs s = refl
rows_cons rows k activity (Some h) x xs s =
    let first = rows (at (part activity.name x.attempt) k) h x.input (below s (part activity.name x.attempt)) in
    ap (λ r. r ++ rows_below rows k activity (Some h) xs s) (sym (append-nil first))

module _ (ts : List Template) (depth : ℕ) (k : Known) (g : Graph) (s : Path) (a : ℕ) (activity : Activity) (base : Container) where
  abbrev give : Gives
  give = gives ts k (output ts depth) activity.name activity.work

  abbrev rows_of : List Start → List FateRow
  rows_of xs = rows_below (rows_inside ts depth) k activity (graph_in ts activity.work) xs s

  -- attempt j is next, on this input, with these rows below those before it
  pub record Goes (j : ℕ) (input : Container) (rows : List FateRow) : Type 0 where
    pub left : ℕ
    pub count : left + j ≡ suc k.most
    pub fate : fate_from left give (trial g a activity base) activity.work j input ≡ fate_from k.most give (trial g a activity base) activity.work 1 base
    pub end : end_from left give (trial g a activity base) j input ≡ end_from k.most give (trial g a activity base) 1 base
    pub shown : rows ++ rows_of (starts (suc left) give (trial g a activity base) j input) ≡ rows_of (starts (suc k.most) give (trial g a activity base) 1 base)

  pub goes_first : Goes 1 base []
  goes_first = record { left = k.most; count = omega arith; fate = refl; end = refl; shown = refl }

  abbrev t : Trial
  t = trial g a activity base

  stop_then : (j : ℕ) (f : Fate) (e : SourceEnd) (o : Option Container) → turn_of g a activity base j o ≡ Stops f e
      → (nf : Container → Fate) (ne : Container → SourceEnd) (ns : Container → List Start)
      → (fate_then t activity.work j o nf ≡ f) × (end_then t o ne ≡ e) × (then_start t o ns ≡ [])
  stop_then j f e None stops nf ne ns = (cc, cc, refl)
  stop_then j f e (Some out) stops nf ne ns = go (holds activity.exit out) stops
    where
      go : (b : Bool) → cond b (Stops (Finished j) (end.Finished out)) (GoesOn (looped (out-Graph g).loops a out base)) ≡ Stops f e
          → (cond b (Finished j) (nf out) ≡ f) × (cond b (end.Finished out) (ne out) ≡ e) × (cond b [] (ns out) ≡ [])
      go true is = (cc, cc, refl)
      go false is = (cc, cc, cc)

  more_then : (j : ℕ) (next : Container) (o : Option Container) → turn_of g a activity base j o ≡ GoesOn next
      → (nf : Container → Fate) (ne : Container → SourceEnd) (ns : Container → List Start)
      → (fate_then t activity.work j o (λ out. nf (t.loops out)) ≡ nf next) × (end_then t o (λ out. ne (t.loops out)) ≡ ne next) × (then_start t o (λ out. ns (t.loops out)) ≡ ns next)
  more_then j next None goes nf ne ns = (cc, cc, cc)
  more_then j next (Some out) goes nf ne ns = go (holds activity.exit out) goes
    where
      go : (b : Bool) → cond b (Stops (Finished j) (end.Finished out)) (GoesOn (looped (out-Graph g).loops a out base)) ≡ GoesOn next
          → (cond b (Finished j) (nf (looped (out-Graph g).loops a out base)) ≡ nf next) × (cond b (end.Finished out) (ne (looped (out-Graph g).loops a out base)) ≡ ne next)
          × (cond b [] (ns (looped (out-Graph g).loops a out base)) ≡ ns next)
      go true is = (cc, cc, cc)
      go false is = let e : looped (out-Graph g).loops a out base ≡ next = cc in (ap nf e, ap ne e, ap ns e)

  -- the result of all attempts
  come_to : (f : Fate) (e : SourceEnd) (rows : List FateRow)
      → fate_from k.most give t activity.work 1 base ≡ f → end_from k.most give t 1 base ≡ e → rows ≡ rows_of (starts (suc k.most) give t 1 base)
      → AreAttempts ts depth k g s a activity base f e rows
  come_to f e rows fate ending shown =
      let outs = tries_on ts k (output ts depth) g a activity base in
      let zero_add : zero + length outs ≡ length outs = omega arith in
      let tried_is = tried_from activity give t refl k.most 1 0 base None (omega arith) refl in
      let fate_is : f ≡ tried activity (length outs) (last_or None outs) = sym fate ∙ sym (rw zero_add at tried_is) in
      record {
        fate = fate_is;
        end = sym ending ∙ sym (ended_from activity give t refl k.most 1 base outs None refl) ∙ ap (λ x. ended x outs) fate;
        shown = shown;
      }

  -- the attempt stops the activity
  pub goes_stop : (j : ℕ) (input : Container) (rows : List FateRow) (out : Option Container) (r : List FateRow) (f : Fate) (e : SourceEnd)
      → Goes j input rows → j ≤ k.most → IsAttempt ts depth k s activity j input out r → turn_of g a activity base j out ≡ Stops f e
      → AreAttempts ts depth k g s a activity base f e (rows ++ r)
  goes_stop j input rows out r f e goes less attempt stops = go goes.left goes.count goes.fate goes.end goes.shown
    where
      go : (left : ℕ) → left + j ≡ suc k.most → fate_from left give t activity.work j input ≡ fate_from k.most give t activity.work 1 base
          → end_from left give t j input ≡ end_from k.most give t 1 base
          → rows ++ rows_of (starts (suc left) give t j input) ≡ rows_of (starts (suc k.most) give t 1 base)
          → AreAttempts ts depth k g s a activity base f e (rows ++ r)
      go zero count fate ending shown = absurd (omega arith)
      go (suc left) count fate ending shown =
          let is = stop_then j f e out stops (λ o. fate_from left give t activity.work (j + 1) (t.loops o)) (λ o. end_from left give t (j + 1) (t.loops o)) (λ o. starts (suc left) give t (j + 1) (t.loops o)) in
          come_to f e (rows ++ r)
          (sym fate ∙ rw (← attempt.gave) is.0)
          (sym ending ∙ rw (← attempt.gave) is.1)
          (rw attempt.shown (ap (λ xs. rows ++ rows_of (record { attempt = j; input = input } ∷ xs)) (sym (rw (← attempt.gave) is.2)) ∙ shown))

  -- the activity goes on
  pub goes_more : (j : ℕ) (input : Container) (rows : List FateRow) (out : Option Container) (r : List FateRow) (next : Container)
      → Goes j input rows → j ≤ k.most → IsAttempt ts depth k s activity j input out r → turn_of g a activity base j out ≡ GoesOn next
      → Goes (j + 1) next (rows ++ r)
  goes_more j input rows out r next goes less attempt more = go goes.left goes.count goes.fate goes.end goes.shown
    where
      go : (left : ℕ) → left + j ≡ suc k.most → fate_from left give t activity.work j input ≡ fate_from k.most give t activity.work 1 base
          → end_from left give t j input ≡ end_from k.most give t 1 base
          → rows ++ rows_of (starts (suc left) give t j input) ≡ rows_of (starts (suc k.most) give t 1 base)
          → Goes (j + 1) next (rows ++ r)
      go zero count fate ending shown = absurd (omega arith)
      go (suc left) count fate ending shown =
          let is = more_then j next out more (λ i. fate_from left give t activity.work (j + 1) i) (λ i. end_from left give t (j + 1) i) (λ i. starts (suc left) give t (j + 1) i) in
          let start : Start = record { attempt = j; input = input } in
          let later = starts (suc left) give t (j + 1) next in
          let cons : r ++ rows_of later ≡ rows_of (start ∷ later) = rw attempt.shown (sym (rows_cons (rows_inside ts depth) k activity (graph_in ts activity.work) start later s)) in
          record {
            left = left;
            count = omega arith;
            fate = sym (rw (← attempt.gave) is.0) ∙ fate;
            end = sym (rw (← attempt.gave) is.1) ∙ ending;
            shown =
                append_assoc rows r (rows_of later)
                ∙ ap (λ x. rows ++ x) cons
                ∙ ap (λ xs. rows ++ rows_of (start ∷ xs)) (sym (rw (← attempt.gave) is.2)) ∙ shown;
          }

  none : (o : Option Container) → then_start t o (λ out. []) ≡ []
  none None = refl
  none (Some out) = go (holds activity.exit out)
    where
      go : (b : Bool) → cond {A = List Start} b [] [] ≡ []
      go true = refl
      go false = refl

  -- the attempt behind the last one that counts
  pub goes_last : (j : ℕ) (input : Container) (before : List FateRow) (f : Fate) (e : SourceEnd) (r : List FateRow)
      → Goes j input before → j ≡ k.most + 1 → IsLast ts depth k s activity j input before f e r
      → AreAttempts ts depth k g s a activity base f e r
  goes_last j input before f e r goes last is = go goes.left goes.count goes.fate goes.end goes.shown
    where
      go : (left : ℕ) → left + j ≡ suc k.most → fate_from left give t activity.work j input ≡ fate_from k.most give t activity.work 1 base
          → end_from left give t j input ≡ end_from k.most give t 1 base
          → before ++ rows_of (starts (suc left) give t j input) ≡ rows_of (starts (suc k.most) give t 1 base)
          → AreAttempts ts depth k g s a activity base f e r
      go (suc left) count fate ending shown = absurd (omega arith)
      go zero count fate ending shown =
          let start : Start = record { attempt = j; input = input } in
          let no_more : then_start t (give j input) (λ o. starts zero give t (j + 1) (t.loops o)) ≡ [] = none (give j input) in
          come_to f e r (sym fate ∙ sym is.fate) (sym ending ∙ sym is.ending)
          (is.shown ∙ ap (λ xs. before ++ rows_of (start ∷ xs)) (sym no_more) ∙ shown)
