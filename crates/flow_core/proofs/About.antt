-- What is told of the transactions about a root is what is told of all.
use Rattle.std.proofs.Common.{◌≡◌, ℕ, ◌≤◌, Bool, true, false, if◌then◌else◌, None, List, [], ◌∷◌, ◌++◌, length, drop, refl, sym, ap, ◌∙◌}
use Rattle.std.proofs.lemmas.List.{append-nil, drop_all}
use Rattle.std.specs.List.{filter_map, cons_option}
use Rattle.flow_model.specs.declared.instances.Fact.{Fact}
use Rattle.flow_model.specs.declared.transactions.Numbered.{Numbered}
use Rattle.flow_core.specs.Facts.{fact_of, fact_about}
use Rattle.flow_core.specs.declared.state.Core.{Core}
use Rattle.live_history.specs.Transactions.{root_about, is_root, about}

-- a transaction that is about another root tells nothing of this one
told_step : (c : Core) (root : ℕ) (n : Numbered) (found live : List Numbered)
    → filter_map (fact_about c root) found ≡ filter_map (fact_about c root) live → (b : Bool) → is_root root (root_about n.transaction) ≡ b
    → filter_map (fact_about c root) (if b then n ∷ found else found) ≡ filter_map (fact_about c root) (n ∷ live)
told_step c root n found live same true is = ap (cons_option (fact_about c root n)) same
told_step c root n found live same false is =
    same ∙ sym (ap (λ (b : Bool). cons_option (if b then fact_of c n.transaction else None) (filter_map (fact_about c root) live)) is)

pub told_about : (c : Core) (root : ℕ) (live : List Numbered) → filter_map (fact_about c root) (about root live) ≡ filter_map (fact_about c root) live
told_about c root [] = refl
told_about c root (n ∷ live) =
    told_step c root n (about root live) live (told_about c root live) (is_root root (root_about n.transaction)) refl

-- what is told of all transactions about a root, found one after the other
pub all_told : (c : Core) (root : ℕ) (entries : List Numbered) (live : List Numbered) (index : ℕ) (facts : List Fact)
    → entries ≡ about root live → length entries ≤ index
    → facts ++ filter_map (fact_about c root) (drop index entries) ≡ filter_map (fact_about c root) entries
    → facts ≡ filter_map (fact_about c root) live
all_told c root entries live index facts are past so_far =
    sym (append-nil facts)
    ∙ ap (λ (es : List Numbered). facts ++ filter_map (fact_about c root) es) (sym (drop_all index entries past))
    ∙ so_far ∙ ap (filter_map (fact_about c root)) are ∙ told_about c root live
