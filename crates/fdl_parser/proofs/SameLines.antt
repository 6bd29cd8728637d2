-- A line's tokens have one tree.
use Rattle.std.proofs.Common.{◌≡◌, ℕ, ◌+◌, ◌<◌, ◌==◌, false, List, [], ◌∷◌, ◌++◌, refl, ap, sym, ◌∙◌, arith}
use Rattle.fdl_lexer.specs.declared.kinds.What.TheVariants.{Mark}
use Rattle.flow_model.specs.declared.trees.NameAt.{NameAt}
use Rattle.flow_model.specs.declared.trees.CondAt.{CondAt}
use Rattle.flow_model.specs.declared.trees.WhenTree.{WhenTree}
use Rattle.flow_model.specs.declared.trees.WhenTree.TheVariants as when
use Rattle.flow_model.specs.declared.trees.ControlTree.{ControlTree}
use Rattle.flow_model.specs.declared.trees.EndTree.{EndTree}
use Rattle.flow_model.specs.declared.trees.EndTree.TheVariants as end_of
use Rattle.flow_model.specs.declared.trees.EndsTree.{EndsTree}
use Rattle.flow_model.specs.declared.trees.EndsTree.TheVariants as ends_of
use Rattle.flow_model.specs.declared.trees.MapTree.{MapTree}
use Rattle.flow_model.specs.declared.trees.DataTree.{DataTree}
use Rattle.fdl_lexer.specs.declared.kinds.Mark.TheVariants as mark
use Rattle.fdl_parser.specs.Tokens.{Tokens, IsWord}
use Rattle.fdl_parser.specs.Lines.{IsTransition, Unconditional, Otherwise, Conditional, IsControl, ControlLine, IsEnd, BorderEnd, ActivityEnd, AreEnds, LoopEnds, LineEnds, IsMap, LeafToLeaf, AreMaps, FirstMap, MoreMaps, IsDataLine, DataLine}
use Rattle.flow_table.specs.declared.keyword.Keyword.{Keyword}
use Rattle.flow_table.specs.declared.keyword.Keyword.TheVariants as word
use Rattle.fdl_parser.proofs.Numbers.{word_number}
use Rattle.fdl_parser.proofs.Same.{tier, lead, At, Same, word_same, lead_token, tier_token, calm_token, lead_name, apart, name_same, leaf_same, Chain, Done, snoc, chain_calm, chain_same, Behind, behind_same, behind_begins, cons_eq}
use Rattle.fdl_parser.proofs.SameConditions.{condition_same}

transition_same : {x y : WhenTree} {a a' b b' : Tokens} → IsTransition x a b → IsTransition y a' b' → tier b < 4 → tier b' < 4 → At a a' → Same x y b b'
transition_same Unconditional Unconditional c c' at = record { tree = refl; rest = at }
transition_same (Otherwise h) (Otherwise j) c c' at = let s = word_same h j at in record { tree = refl; rest = s.rest }
transition_same (Conditional h1 h2) (Conditional j1 j2) c c' at =
    let s1 = word_same h1 j1 at in
    let s2 = condition_same h2 j2 s1.rest in
    record { tree = ap (λ (k : CondAt). when.Cond k) s2.tree; rest = s2.rest }
transition_same Unconditional (Otherwise j) c c' at = let e = ap tier at.same in let f = tier_token j in absurd (omega (arith, e, f))
transition_same Unconditional (Conditional j1 j2) c c' at = let e = ap tier at.same in let f = tier_token j1 in absurd (omega (arith, e, f))
transition_same (Otherwise h) Unconditional c c' at = let e = ap tier at.same in let f = tier_token h in absurd (omega (arith, e, f))
transition_same (Conditional h1 h2) Unconditional c c' at = let e = ap tier at.same in let f = tier_token h1 in absurd (omega (arith, e, f))
transition_same (Otherwise h) (Conditional j1 j2) c c' at = apart lead (lead_token h) (lead_token j1) at refl
transition_same (Conditional h1 h2) (Otherwise j) c c' at = apart lead (lead_token h1) (lead_token j) at refl

pub control_same : {x y : ControlTree} {a a' b b' : Tokens} → IsControl x a b → IsControl y a' b' → tier b < 4 → tier b' < 4 → At a a' → Same x y b b'
control_same (ControlLine h1 h2 h3 h4 h5 h6) (ControlLine j1 j2 j3 j4 j5 j6) c c' at =
    let s1 = word_same h1 j1 at in
    let s2 = word_same h2 j2 s1.rest in
    let s3 = name_same h3 j3 s2.rest in
    let s4 = word_same h4 j4 s3.rest in
    let s5 = name_same h5 j5 s4.rest in
    let s6 = transition_same h6 j6 c c' s5.rest in
    record { tree = rw (s1.tree, s3.tree, s5.tree, s6.tree) refl; rest = s6.rest }

end_same : {x y : EndTree} {a a' b b' : Tokens} (border : Keyword) → (100 + word_number border == 50) ≡ false → (50 == 100 + word_number border) ≡ false → IsEnd border x a b → IsEnd border y a' b' → At a a' → Same x y b b'
end_same border e f (BorderEnd h) (BorderEnd j) at = let s = word_same h j at in record { tree = refl; rest = s.rest }
end_same border e f (ActivityEnd h) (ActivityEnd j) at = let s = name_same h j at in record { tree = ap (λ (n : NameAt). end_of.Activity n) s.tree; rest = s.rest }
end_same border e f (BorderEnd h) (ActivityEnd j) at = apart lead (lead_token h) (lead_name j) at e
end_same border e f (ActivityEnd h) (BorderEnd j) at = apart lead (lead_name h) (lead_token j) at f

line_eq : (x y u v : EndTree) → x ≡ y → u ≡ v → ends_of.Line x u ≡ ends_of.Line y v
line_eq x y u v e f = rw (e, f) refl

ends_same : {x y : EndsTree} {a a' b b' : Tokens} → AreEnds x a b → AreEnds y a' b' → At a a' → Same x y b b'
ends_same (LoopEnds h1 h2) (LoopEnds j1 j2) at =
    let s1 = word_same h1 j1 at in
    let s2 = name_same h2 j2 s1.rest in
    record { tree = ap (λ (n : NameAt). ends_of.Loop n) s2.tree; rest = s2.rest }
ends_same (LineEnds h1 h2 h3 h4) (LineEnds j1 j2 j3 j4) at =
    let s1 = word_same h1 j1 at in
    let s2 = end_same _ refl refl h2 j2 s1.rest in
    let s3 = word_same h3 j3 s2.rest in
    let s4 = end_same _ refl refl h4 j4 s3.rest in
    record { tree = line_eq _ _ _ _ s2.tree s4.tree; rest = s4.rest }
ends_same (LoopEnds h1 h2) (LineEnds j1 j2 j3 j4) at = apart lead (lead_token h1) (lead_token j1) at refl
ends_same (LineEnds h1 h2 h3 h4) (LoopEnds j1 j2) at = apart lead (lead_token h1) (lead_token j1) at refl

map_same : {x y : MapTree} {a a' b b' : Tokens} → IsMap x a b → IsMap y a' b' → tier b < 9 → tier b' < 9 → At a a' → Same x y b b'
map_same (LeafToLeaf h1 h2 h3) (LeafToLeaf j1 j2 j3) c c' at =
    let s1 = leaf_same h1 j1 (calm_token h2 (omega arith)) (calm_token j2 (omega arith)) at in
    let s2 = word_same h2 j2 s1.rest in
    let s3 = leaf_same h3 j3 c c' s2.rest in
    record { tree = rw (s1.tree, s3.tree) refl; rest = s3.rest }

-- maps: the first, and the others as a chain
record MapParts (maps : List MapTree) (a b : Tokens) : Type 0 where
  pub first : MapTree
  pub more : List MapTree
  pub place : ℕ
  pub start : Tokens
  pub middle : Tokens
  pub are : maps ≡ first ∷ more
  pub opens : IsWord word.Map place a start
  pub begins : IsMap first start middle
  pub goes_on : Chain MapTree (Behind MapTree (Mark mark.Comma) IsMap) more middle b

map_parts : {maps : List MapTree} {a b : Tokens} → AreMaps maps a b → MapParts maps a b
map_parts (FirstMap {m = m} {p = p} {b = b} {c = c} h j) = record { first = m; more = []; place = p; start = b; middle = c; are = refl; opens = h; begins = j; goes_on = Done }
map_parts (MoreMaps {m = m} {p = p} {c = c} h k j) =
    let r = map_parts h in
    record { first = r.first; more = r.more ++ m ∷ []; place = r.place; start = r.start; middle = r.middle; are = ap (λ (l : List MapTree). l ++ m ∷ []) r.are; opens = r.opens; begins = r.begins; goes_on = snoc r.goes_on (record { place = p; middle = c; token = k; item = j }) }

maps_same : {x y : List MapTree} {a a' b b' : Tokens} → AreMaps x a b → AreMaps y a' b' → tier b < 5 → tier b' < 5 → At a a' → Same x y b b'
maps_same h j c c' at =
    let p = map_parts h in
    let q = map_parts j in
    let starts = behind_begins MapTree IsMap (Mark mark.Comma) 5 9 (omega arith) (omega arith) in
    let s1 = word_same p.opens q.opens at in
    let s2 = map_same p.begins q.begins (chain_calm 5 9 (omega arith) starts p.goes_on c) (chain_calm 5 9 (omega arith) starts q.goes_on c') s1.rest in
    let s3 = chain_same 5 9 (omega arith) (behind_same MapTree IsMap (Mark mark.Comma) 9 (λ x y a b d e h j c k at. map_same h j c k at)) starts p.goes_on q.goes_on c c' s2.rest in
    record { tree = p.are ∙ (cons_eq p.first q.first p.more q.more s2.tree s3.tree ∙ sym q.are); rest = s3.rest }

pub data_same : {x y : DataTree} {a a' b b' : Tokens} → IsDataLine x a b → IsDataLine y a' b' → tier b < 5 → tier b' < 5 → At a a' → Same x y b b'
data_same (DataLine h1 h2 h3) (DataLine j1 j2 j3) c c' at =
    let s1 = word_same h1 j1 at in
    let s2 = ends_same h2 j2 s1.rest in
    let s3 = maps_same h3 j3 c c' s2.rest in
    record { tree = rw (s1.tree, s2.tree, s3.tree) refl; rest = s3.rest }
