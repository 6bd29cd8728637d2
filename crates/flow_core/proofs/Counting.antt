-- Which numbers of roots are free after a transaction.
use Rattle.std.proofs.Common.{◌≡◌, ◌⊎◌, inl, inr, ℕ, ◌+◌, ◌<◌, ◌≤◌, Option, Some, None, refl, ap, arith, true, false, Result, Ok, Err, OnOk, IfSome}
use Rattle.std.specs.Prelude.{nat_le, unwrap_or, if◌then◌else◌}
use Rattle.std.proofs.lemmas.Bool.Decides.{leb_tells}
use Rattle.flow_model.specs.declared.transactions.Transaction.{Transaction}
use Rattle.flow_core.specs.Allowing.{IsFree, CountsRoot}
use Rattle.flow_core.specs.Summaries.{Summary, summary, noted, with_transaction, started, roots_by, roots_after, Follows}
use Rattle.flow_core.specs.declared.state.Core.{Core}

-- no root is taken away by counting one
roots_grow : (o : Option ℕ) (roots : ℕ) → roots ≤ roots_by o roots
roots_grow None roots = omega arith
roots_grow (Some root) roots = omega arith

-- the one that is counted is reached
root_reached : (o : Option ℕ) (root roots : ℕ) → o ≡ Some root → root ≤ roots_by o roots
root_reached o root roots is = rw is (omega arith)

-- the next transaction
counted_next : (c c' : Core) (t : Transaction) → c'.kept ≡ c.kept → c'.kept_root ≡ c.kept_root → c'.number ≡ c.number + 1 → c'.roots ≡ roots_after t c.roots → CountsRoot c t c'
counted_next c c' t kept kept_root number roots =
    let grow : c.roots ≤ roots_after t c.roots = roots_grow (started t) c.roots in
    record {
      kept = λ before. omega (arith, kept, number, before);
      free = λ root free. elim free as (λ free. IsFree c root) [
        | inl above ↦ inl (omega (arith, above, roots, grow))
        | inr past ↦ inr (omega (arith, past.0, number, kept), omega (arith, past.1, kept_root))
      ];
      used = λ before root is free.
          let reached : root ≤ roots_after t c.roots = root_reached (started t) root c.roots is in
          elim free as (λ free. ⊥) [
            | inl above ↦ omega (arith, above, roots, reached)
            | inr past ↦ omega (arith, past.0, number, kept, before)
          ];
    }

pub counts_next : {T E : Type 0} (r : Result T E) (c c' : Core) (t : Transaction)
    → OnOk r (noted c' ≡ (c.kept, c.kept_number, c.kept_root, with_transaction (c.number + 1) (c.number + 1) t (summary c))) → OnOk r (CountsRoot c t c')
counts_next (Ok x) c c' t is =
    counted_next c c' t (ap (λ (n : ℕ × ℕ × ℕ × Summary). n.0) is) (ap (λ (n : ℕ × ℕ × ℕ × Summary). n.2) is) (ap (λ (n : ℕ × ℕ × ℕ × Summary). n.3.transactions) is) (ap (λ (n : ℕ × ℕ × ℕ × Summary). n.3.roots) is)
counts_next (Err e) c c' t is = tt

-- ---- a record that is taken up

module _ (c c' : Core) (number : ℕ) (t : Transaction) (kept : c'.kept ≡ c.kept) (roots : c'.roots ≡ roots_after t c.roots) where
  -- one that was kept: the number of the last kept root goes on to that of a Start
  kept_one : c'.number ≡ c.number → c'.kept_root ≡ unwrap_or (started t) c.kept_root → roots_after t c.roots ≡ c.roots → IfSome (started t) (IsFree c) → CountsRoot c t c'
  kept_one numbered kept_root same free = record {
    kept = λ before. omega (arith, kept, numbered, before);
    free = λ root is_free. elim is_free as (λ _. IsFree c root) [
      | inl above ↦ inl (omega (arith, above, roots, same))
      | inr past ↦ inr (omega (arith, past.0, numbered, kept), lower root past.1 (started t) refl)
    ];
    used = λ before root is is_free. unused root is is_free;
  }
    where
      lower : (root : ℕ) → c'.kept_root < root → (o : Option ℕ) → started t ≡ o → c.kept_root < root
      lower root past None is = let last : c'.kept_root ≡ c.kept_root = rw is at kept_root in omega (arith, last, past)
      lower root past (Some r) is =
          let last : c'.kept_root ≡ r = rw is at kept_root in
          let was : IsFree c r = rw is at free in
          let reached : r ≤ roots_after t c.roots = root_reached (started t) r c.roots is in
          elim was as (λ _. c.kept_root < root) [ inl above ↦ omega (arith, above, same, reached) | inr below ↦ omega (arith, below.1, last, past) ]

      unused : (root : ℕ) → started t ≡ Some root → IsFree c' root → ⊥
      unused root is is_free =
          let last : c'.kept_root ≡ root = rw is at kept_root in
          let reached : root ≤ roots_after t c.roots = root_reached (started t) root c.roots is in
          elim is_free as (λ _. ⊥) [ inl above ↦ omega (arith, above, roots, reached) | inr past ↦ omega (arith, past.1, last) ]

  -- one that is the next transaction
  later_one : c.kept < number → c'.number ≡ number → number ≡ c.number + 1 → CountsRoot c t c'
  later_one above numbered next = record {
    kept = λ before. omega (arith, kept, numbered, above);
    free = λ root is_free. elim is_free as (λ _. IsFree c root) [
      | inl behind ↦ inl (let grow = roots_grow (started t) c.roots in omega (arith, behind, roots, grow))
      | inr past ↦ absurd (omega (arith, past.0, numbered, kept, above))
    ];
    used = λ before root is is_free.
        let reached : root ≤ roots_after t c.roots = root_reached (started t) root c.roots is in
        elim is_free as (λ _. ⊥) [ inl behind ↦ omega (arith, behind, roots, reached) | inr past ↦ omega (arith, past.0, numbered, kept, above) ];
  }

  pub counts_taken : c'.number ≡ (if nat_le number c.kept then c.number else number) → c'.kept_root ≡ (if nat_le number c.kept then unwrap_or (started t) c.kept_root else c.kept_root)
      → Follows c.kept (summary c) (record { number = number; transaction = t }) → IfSome (started t) (IsFree c) → CountsRoot c t c'
  counts_taken numbered kept_root follows free = go (leb_tells number c.kept)
    where
      go : ((nat_le number c.kept ≡ true) × (number ≤ c.kept)) ⊎ ((nat_le number c.kept ≡ false) × (c.kept < number)) → CountsRoot c t c'
      go (inl low) = elim follows as (λ _. CountsRoot c t c') [
        | inl was ↦ kept_one (rw low.0 at numbered) (rw low.0 at kept_root) was.3 free
        | inr next ↦ absurd (omega (arith, low.1, next.0))
      ]
      go (inr high) = elim follows as (λ _. CountsRoot c t c') [
        | inl was ↦ absurd (omega (arith, high.1, was.0))
        | inr next ↦ later_one high.1 (rw high.0 at numbered) next.1
      ]
