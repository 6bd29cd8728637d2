-- A root that isn't terminated and of which no message is queued: all that is due in its scopes counts.
use Rattle.std.proofs.Common.{◌≡◌, inl, inr, ℕ, zero, suc, ◌-◌, ◌==◌, ◌&&◌, Bool, true, false, cond, List, [], ◌∷◌, length, map}
use Rattle.std.proofs.Common.{refl, ap, sym, ◌∙◌, subst, arith}
use Rattle.std.proofs.lemmas.Bool.Decides.{eqb_tells}
use Rattle.std.proofs.lemmas.List.Sums.{sum_by-cons}
use Rattle.std.specs.List.{filter}
use Rattle.std.specs.Prelude.{slice_index_or}
use Rattle.core_laws.specs.RightStates.{IsRightRoot, input_now, messages_in, note_queue}
use Rattle.flow_core.specs.Driving.{templates}
use Rattle.flow_core.specs.declared.state.Core.{Core}
use Rattle.flow_model.specs.declared.instances.Message.{Message}
use Rattle.navigator.specs.Showing.{note_in}
use Rattle.navigator.specs.Views.{Shows}
use Rattle.navigator.specs.declared.instance.Instance.{Instance}
use Rattle.recover_queue.specs.Queues.{is_quiet, root_of, count_in, count_of_root}
use Rattle.root_laws.proofs.Putting as one
use Rattle.root_laws.specs.RightRoots.{root_in}
use Rattle.view_laws.proofs.WholeRuns.{running_is}
use Rattle.view_laws.specs.Queues.{queue}
use Rattle.view_laws.specs.Runs.{Event, is_stopped, seen, engine}
use Rattle.scope_laws.proofs.Inside.{AreTaken, root_taken}
use Rattle.scope_laws.specs.Laws.{IsQuietRoot}

-- ---- no message of a root is queued

abbrev counts : Bool → ℕ
counts b = cond b 1 0

-- a test that no message passes leaves none
none_pass : (root : ℕ) (ms : List Message) → count_in root ms ≡ 0 → filter (λ m. root_of m == root) ms ≡ []
none_pass root [] none = refl
none_pass root (m ∷ ms) none =
    let more = sum_by-cons (λ (u : Message). counts (root_of u == root)) m ms in
    elim (eqb_tells (root_of m) root) [
      | inl is ↦
          let here : counts (root_of m == root) ≡ 1 = ap counts is.0 in
          absurd (omega (arith, more, none, here))
      | inr other ↦
          let here : counts (root_of m == root) ≡ 0 = ap counts other.0 in
          ap (λ b. cond b (m ∷ filter (λ u. root_of u == root) ms) (filter (λ u. root_of u == root) ms)) other.0
          ∙ none_pass root ms (omega (arith, more, none, here))
    ]

none_at : (root : ℕ) (qs : List (List Message)) → count_of_root root qs ≡ 0 → (k : ℕ)
    → filter (λ m. root_of m == root) (slice_index_or qs k []) ≡ []
none_at root [] none k = refl
none_at root (ms ∷ qs) none zero =
    let more = sum_by-cons (count_in root) ms qs in none_pass root ms (omega (arith, more, none))
none_at root (ms ∷ qs) none (suc k) =
    let more = sum_by-cons (count_in root) ms qs in none_at root qs (omega (arith, more, none)) k

pub none_queued : (root : ℕ) (qs : List (List Message)) → count_of_root root qs ≡ 0 → (n : ℕ)
    → messages_in qs root n ≡ []
none_queued root qs none zero = refl
none_queued root qs none (suc n) = none_at root qs none (suc n - 1)

-- of empty queues none is
pub quiet_root : (root : ℕ) (qs : List (List Message)) → is_quiet qs ≡ true → count_of_root root qs ≡ 0
quiet_root root [] quiet = refl
quiet_root root ([] ∷ qs) quiet =
    let more = sum_by-cons (count_in root) [] qs in
    let rest = quiet_root root qs quiet in
    omega (arith, more, rest)
quiet_root root ((m ∷ ms) ∷ qs) quiet = elim (eqb_tells (length (m ∷ ms)) 0) [
  | inl is ↦ let e = is.1 in absurd (omega arith)
  | inr other ↦ let never : false ≡ true = sym (ap (λ b. b && is_quiet qs) other.0) ∙ quiet in cc
]

-- ---- what is due

module _ (c : Core) (root : ℕ) (h : List Event) (i : Instance) (is : IsRightRoot c root h i) (lives : i.terminated ≡ false) (quiet : IsQuietRoot c root) where
  open_ : is_stopped h ≡ false
  open_ = is.right.stopped ∙ lives

  pub all_taken : AreTaken (root_in (templates c) is.right.depth is.right.graph (input_now c root)) (note_queue c root) (templates c) is.right.depth (seen h) is.right.graph (input_now c root)
  all_taken =
      let r = root_in (templates c) is.right.depth is.right.graph (input_now c root) in
      let q = note_queue c root in
      let none : (n : ℕ) → queue (engine r q) h n ≡ []
      = λ n. one.none_stand (note_in (templates c) is.right.graph) (queue (engine r q) h n)
      (sym (ap (map (note_in (templates c) is.right.graph)) (none_queued root c.queues quiet n)) ∙ is.right.messages n) in
      root_taken r q is.right.served.well h is.right.legal.fronts open_ is.right.started none

  pub shows_now : Shows (templates c) is.right.depth (seen h) is.right.graph (input_now c root) i.scope
  shows_now = subst (λ (l : List Event). Shows (templates c) is.right.depth (seen l) is.right.graph (input_now c root) i.scope) (running_is h open_) is.right.shows
