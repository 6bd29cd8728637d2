-- What a root that is written makes of the instances and the keys of all roots.
use Rattle.std.proofs.Common.{◌≡◌, ℕ, ◌==◌, Bool, true, false, if◌then◌else◌, List, Option, Some, option_map, Result, Ok, Err, IfOk, OnOk, refl, sym, ap, subst, ◌∙◌, arith}
use Rattle.std.proofs.lemmas.Bool.Decides.{nat_tests}
use Rattle.std.specs.Option.{option_and_then}
use Rattle.flow_model.specs.declared.instances.Message.{Message}
use Rattle.navigator.specs.declared.instance.Instance.{Instance}
use Rattle.number_map.specs.Entries.{NumberMap}
use Rattle.number_map.specs.Lends.{HasWritten}
use Rattle.number_map.proofs.Rows.{if_yes, if_no, same_number, same_yes}
use Rattle.flow_core.specs.Answers.{instance_of, root_at}
use Rattle.flow_core.specs.Driving.{ChangesRoot, IfLive}
use Rattle.flow_core.specs.Keys.{key_of, KeepsKeys}
use Rattle.flow_core.specs.declared.state.Core.{Core}
use Rattle.flow_core.specs.declared.state.Root.{Root}

apart_no : (n m : ℕ) → (m ≡ n → ⊥) → (n == m) ≡ false
apart_no n m apart = grind (arith, nat_tests)

module _ (c : Core) (roots : NumberMap Root) (root : ℕ) (was is : Root) (written : HasWritten root c.live_roots roots is)
    (there : Some was ≡ root_at c root) (kept : is.key ≡ was.key) where
  abbrev after : Core
  after = record c { live_roots = roots }

  was_there : Some was.instance ≡ instance_of c root
  was_there = ap (λ (o : Option Root). option_map (λ r. r.instance) o) there

  is_there : Some is.instance ≡ instance_of after root
  is_there =
      sym (ap (λ (o : Option Root). option_map (λ r. r.instance) o)
      (written root ∙ if_yes (root == root) (Some is) (root_at c root) (same_yes root)))

  others : (other : ℕ) → (other ≡ root → ⊥) → instance_of after other ≡ instance_of c other
  others other apart =
      ap (λ (o : Option Root). option_map (λ r. r.instance) o)
      (written other ∙ if_no (root == other) (Some is) (root_at c other) (apart_no root other apart))

  -- what is so of the instance before and after is so of what stands under the number of the root
  pub where_live : (becomes : Option Instance → Option Instance → Type 0) → becomes (Some was.instance) (Some is.instance)
      → becomes (instance_of c root) (instance_of after root)
  where_live becomes so =
      subst (λ (o : Option Instance). becomes o (instance_of after root)) was_there
      (subst (λ (o : Option Instance). becomes (Some was.instance) o) is_there so)

  -- the root alone has changed
  pub root_written : (becomes : Instance → Instance → Type 0) (given : List Message) → becomes was.instance is.instance
      → ChangesRoot root (IfLive becomes given) c after
  root_written becomes given so = record { here = where_live (IfLive becomes given) so; others = others }

  key_by : (other : ℕ) (same : Bool) → (root == other) ≡ same
      → option_and_then (λ r. r.key) (if same then Some is else root_at c other) ≡ key_of c other
  key_by other true e =
      kept ∙ ap (λ (o : Option Root). option_and_then (λ r. r.key) o) there ∙ ap (λ (n : ℕ). key_of c n) (same_number root other e)
  key_by other false e = refl

  -- and its key hasn't
  pub keys_kept : KeepsKeys c after
  keys_kept = record {
    holders = λ key. refl;
    keys = λ other. ap (λ (o : Option Root). option_and_then (λ r. r.key) o) (written other) ∙ key_by other (root == other) refl;
  }

-- what is said of a result says more of it, where it says so of each value
pub if_ok_so : {T F : Type 0} (P Q : T → Type 0) (r : Result T F) → ((x : T) → P x → Q x) → IfOk r P → IfOk r Q
if_ok_so P Q (Ok x) more so = more x so
if_ok_so P Q (Err e) more so = tt

pub on_ok_so : {T F : Type 0} (P Q : Type 0) (r : Result T F) → (P → Q) → OnOk r P → OnOk r Q
on_ok_so P Q (Ok x) more so = more so
on_ok_so P Q (Err e) more so = tt
