-- A state without a root, and that what isn't of that root stays.
use Rattle.std.proofs.Common.{◌≡◌, ℕ, ◌==◌, Bool, true, false, not, if◌then◌else◌, Option, Some, None, List}
use Rattle.std.proofs.Common.{refl, ap, sym, ◌∙◌, inl, inr}
use Rattle.std.proofs.lemmas.Bool.Decides.{eqb_tells}
use Rattle.std.specs.List.{filter}
use Rattle.std.specs.Prelude.{option_and_then}
use Rattle.flow_model.specs.declared.graphs.Template.{Template}
use Rattle.flow_model.specs.declared.instances.Path.{Path}
use Rattle.flow_model.specs.declared.transactions.Numbered.{Numbered}
use Rattle.machine.specs.Items.{Entry, program_in}
use Rattle.machine.specs.States.{Root, State, templates, item_of}
use Rattle.machine.specs.Steps.{root_about, is_root}
use Rattle.machine.specs.Verdicts.{Subject, subject_by, subject_of}
use Rattle.compaction_laws.proofs.Alike.{SameAt, item_by}
use Rattle.compaction_laws.proofs.Queues.{passing, is_of_other}

-- ---- tests of numbers

-- a test goes both ways
pub same_test : (x y : ℕ) → (x == y) ≡ (y == x)
same_test x y = elim (eqb_tells x y) [
  | inl is ↦ is.0 ∙ sym (ap (λ k. k == x) (sym is.1) ∙ itself x)
  | inr apart ↦ apart.0 ∙ sym (swapped apart.1)
]
  where
    itself : (k : ℕ) → (k == k) ≡ true
    itself k = elim (eqb_tells k k) [ inl is ↦ is.0 | inr apart ↦ absurd (apart.1 refl) ]

    swapped : (x ≡ y → ⊥) → (y == x) ≡ false
    swapped apart = elim (eqb_tells y x) [ inl is ↦ absurd (apart (sym is.1)) | inr other ↦ other.0 ]

pub never : {A : Type 0} → true ≡ false → A
never both = absurd (let m : ⊥ = cc in m)

-- ---- a state without a root

-- a live transaction isn't about a root
abbrev pub is_apart : ℕ → Numbered → Bool
is_apart r n = not (is_root r (root_about n.transaction))

-- a state without a root: without its messages, and without the live transactions about it
abbrev pub forget : ℕ → State → State
forget r s = record s {
  roots = λ root. if root == r then None else s.roots root;
  queues = passing (is_of_other r) s.queues;
  live = filter (is_apart r) s.live;
}

-- another root stays
pub other_root : (r root : ℕ) (s : State) → (root == r) ≡ false → (forget r s).roots root ≡ s.roots root
other_root r root s apart = ap (λ b. if b then None else s.roots root) apart

pub same_apart : (r : ℕ) (s : State) (o : Option ℕ) → is_root r o ≡ false → SameAt o s (forget r s)
same_apart r s None apart = tt
same_apart r s (Some root) apart = sym (other_root r root s apart)

-- so does its item, and what is asked of that
pub other_item : (r : ℕ) (s : State) (path : Path) → (path.root == r) ≡ false
    → item_of (forget r s) path ≡ item_of s path
other_item r s path apart = ap (item_by (templates s) path) (other_root r path.root s apart)

abbrev subject_with : List Template → Path → Option Root → Option Subject
subject_with ts path o =
    option_and_then (λ (e : Entry). subject_by e (program_in e.activity.work) o) (item_by ts path o)

pub other_subject : (r : ℕ) (s : State) (path : Path) → (path.root == r) ≡ false
    → subject_of (forget r s) path ≡ subject_of s path
other_subject r s path apart = ap (subject_with (templates s) path) (other_root r path.root s apart)
