-- The attempts that come next, after one more completion.
use Rattle.std.proofs.Common.{◌≡◌, ℕ, ◌+◌, ◌-◌, ◌^◌, List, [], ◌∷◌, ◌++◌, length, get_or, ◌<◌, ◌≤◌, Bool, true, false, cond, Some, refl, sym, ap, ◌∙◌, ⊎_elim, arith}
use Rattle.std.specs.Prelude.{min, unwrap_or}
use Rattle.std.specs.List.{filter}
use Rattle.std.specs.Cmp.Lexicographic.{bytes_decides, nat_list_eq_equiv}
use Rattle.std.specs.Str.{bytes_eq}
use Rattle.std.specs.Global.{Vec}
use Rattle.std.specs.HashMap.{HashMap, UpdatesBy, get_by}
use Rattle.std.specs.Map.{lookup, IsKeyTest, AreApart, KeepsOthers}
use Rattle.std.proofs.lemmas.Bool.{cases_Bool, cond-true, cond-false}
use Rattle.std.proofs.lemmas.List.{length-append}
use Rattle.std.proofs.lemmas.List.Elements.{filter-append}
use Rattle.flow_model.specs.declared.instances.Fact.{Fact}
use Rattle.flow_model.specs.declared.instances.Part.{Part}
use Rattle.text_words.specs.Attempts.{is_step_to, completed}
use Rattle.text_words.specs.Nexts.{next_in, CountsOne, CountsFact, AreSameNexts}

apart : (bs cs ks : List ℕ) → bytes_eq bs cs ≡ false → bytes_eq bs ks ≡ true → bytes_eq cs ks ≡ false
apart bs cs ks n y = nat_list_eq_equiv.symm cs ks ∙ sym (nat_list_eq_equiv.congr bs ks cs y) ∙ n

others : {K X : Type 0} (eq : K → K → Bool) (test : K → Bool) (old new : List (K × X)) → KeepsOthers eq test old new → (other : K → Bool) → IsKeyTest eq other → AreApart test other → lookup other new ≡ lookup other old
unfolding KeepsOthers
others eq test old new h = h

-- a path of one step
pub one_part : (ps : List Part) (p : Part) → 1 ≤ length ps → length ps < 2 → p ≡ get_or ps 0 p → ps ≡ p ∷ []
one_part [] p some short is = absurd (omega (arith, some))
one_part (q ∷ []) p some short is = ap (λ x. x ∷ []) (sym is)
one_part (q ∷ r ∷ ps) p some short is = absurd (omega (arith, short))

module _ {S : Type 0} (old new : HashMap (Vec ℕ) ℕ S) where
  -- one name has another attempt
  pub counts : (key : Vec ℕ) (name : List ℕ) (next : ℕ) → key.items ≡ name → next ≡ min (next_in old name + 1) (2 ^ 64 - 1)
      → UpdatesBy (λ x y. bytes_eq x.items y.items) (λ k. bytes_eq key.items k.items) old new (Some next) → CountsOne name old new
  counts key name next is value h other =
      rw (← is) (⊎_elim
      (λ y.
      ap (λ ds. unwrap_or (get_by (λ k. bytes_eq ds k.items) new) 1) (sym ((bytes_decides key.items other).0 y)) ∙ ap (λ o. unwrap_or o 1) h.1
      ∙ value ∙ ap (λ n. min (next_in old n + 1) (2 ^ 64 - 1)) (sym is)
      ∙ sym (cond-true (bytes_eq key.items other) (min (next_in old key.items + 1) (2 ^ 64 - 1)) (next_in old other) y))
      (λ n.
      ap (λ o. unwrap_or o 1) (others _ _ _ _ h.3 _ (λ x y. nat_list_eq_equiv.congr other x.items y.items) (λ k. apart key.items other k.items n))
      ∙ sym (cond-false (bytes_eq key.items other) (min (next_in old key.items + 1) (2 ^ 64 - 1)) (next_in old other) n))
      (cases_Bool (bytes_eq key.items other)))

  -- nothing was changed
  pub same_nexts : new.entries ≡ old.entries → AreSameNexts old new
  same_nexts e name = ap (λ es. unwrap_or (lookup (λ (k : Vec ℕ). bytes_eq name k.items) es) 1) e

  pub next_stays : (fact : Fact) → AreSameNexts old new → ((name : List ℕ) → is_step_to name fact.item.parts ≡ false) → CountsFact fact old new
  next_stays fact same none facts are name =
      same name ∙ are name ∙ ap (λ n. min (n + 1) (2 ^ 64 - 1)) (sym (stays name facts))
    where
      stays : (name : List ℕ) (facts : List Fact) → completed name (facts ++ fact ∷ []) ≡ completed name facts
      stays name facts = ap length (filter-append (λ (f : Fact). is_step_to name f.item.parts) facts (fact ∷ [])) ∙ length-append (filter (λ (f : Fact). is_step_to name f.item.parts) facts) (filter (λ (f : Fact). is_step_to name f.item.parts) (fact ∷ []))
          ∙ ap (λ b. completed name facts + length (cond b (fact ∷ []) [])) (none name) ∙ omega arith

  pub next_counted : (fact : Fact) (part : Part) → fact.item.parts ≡ part ∷ [] → CountsOne part.name old new → CountsFact fact old new
  next_counted fact part is counts facts are name = counts name ∙ go (bytes_eq part.name name) refl
    where
      more : (b : Bool) → bytes_eq part.name name ≡ b → completed name (facts ++ fact ∷ []) ≡ completed name facts + length (cond b (fact ∷ []) [])
      more b e = ap length (filter-append (λ (f : Fact). is_step_to name f.item.parts) facts (fact ∷ [])) ∙ length-append (filter (λ (f : Fact). is_step_to name f.item.parts) facts) (filter (λ (f : Fact). is_step_to name f.item.parts) (fact ∷ []))
          ∙ ap (λ c. completed name facts + length (cond c (fact ∷ []) [])) (ap (is_step_to name) is ∙ e)

      go : (b : Bool) → bytes_eq part.name name ≡ b → cond b (min (next_in old part.name + 1) (2 ^ 64 - 1)) (next_in old name) ≡ min (completed name (facts ++ fact ∷ []) + 1) (2 ^ 64 - 1)
      go true e =
          ap (λ n. min (next_in old n + 1) (2 ^ 64 - 1)) ((bytes_decides part.name name).0 e) ∙ ap (λ n. min (n + 1) (2 ^ 64 - 1)) (are name)
          ∙ min_twice (completed name facts) (2 ^ 64 - 1) ∙ ap (λ n. min (n + 1) (2 ^ 64 - 1)) (sym (more true e))
        where
          min_twice : (c m : ℕ) → min (min (c + 1) m + 1) m ≡ min (c + 1 + 1) m
          min_twice c m = grind arith
      go false e = are name ∙ ap (λ n. min (n + 1) (2 ^ 64 - 1)) (omega arith ∙ sym (more false e))
