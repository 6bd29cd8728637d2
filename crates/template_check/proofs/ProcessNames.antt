-- The templates that are built have the names of the processes of the text.
use Rattle.std.proofs.Common.{◌≡◌, ℕ, ◌+◌, ◌<◌, List, [], ◌∷◌, ◌++◌, length, get_or, take, map, append-nil, Option, Some, None, sym, ap, ◌∙◌}
use Rattle.std.specs.List.{cons_option}
use Rattle.std.proofs.lemmas.List.{map-append}
use Rattle.flow_model.specs.declared.graphs.Template.{Template}
use Rattle.flow_model.specs.declared.trees.ItemTree.{ItemTree}
use Rattle.flow_model.specs.declared.trees.ProcessTree.{ProcessTree}
use Rattle.template_check.specs.Compiling.{process_names, template_names}
use Rattle.text_graphs.specs.Texts.{process_of, processes_in}
use Rattle.text_graphs.proofs.Sorting.{one_more}

module _ (items : List ItemTree) (i : ℕ) (x : ItemTree) (less : i < length items) (is : x ≡ get_or items i x) where
  -- one more item may be one more process
  names_more : process_names (take (i + 1) items) ≡ process_names (take i items) ++ map (λ p. p.name.name) (cons_option (process_of x) [])
  names_more =
      let name_of = λ (p : ProcessTree). p.name.name in
      ap (map name_of) (one_more process_of items i x less is) ∙ map-append name_of (processes_in (take i items)) (cons_option (process_of x) [])

  pub named_past : (ts : List Template) → process_of x ≡ None → template_names ts ≡ process_names (take i items) → template_names ts ≡ process_names (take (i + 1) items)
  named_past ts none so_far =
      so_far
      ∙ sym (names_more ∙ ap (λ (o : Option ProcessTree). process_names (take i items) ++ map (λ p. p.name.name) (cons_option o [])) none ∙ append-nil (process_names (take i items)))

  pub named_next : (ts next : List Template) (t : Template) (p : ProcessTree) → process_of x ≡ Some p → next ≡ ts ++ t ∷ [] → t.name ≡ p.name.name
      → template_names ts ≡ process_names (take i items) → template_names next ≡ process_names (take (i + 1) items)
  named_next ts next t p some now named so_far =
      ap template_names now ∙ map-append (λ (u : Template). u.name) ts (t ∷ []) ∙ ap (λ (ns : List (List ℕ)). ns ++ t.name ∷ []) so_far
      ∙ ap (λ (n : List ℕ). process_names (take i items) ++ n ∷ []) named
      ∙ sym (names_more ∙ ap (λ (o : Option ProcessTree). process_names (take i items) ++ map (λ q. q.name.name) (cons_option o [])) some)
