-- The graphs that are listed for a text, and what holds of all of them.
use Rattle.std.proofs.Common.{◌≡◌, ℕ, zero, suc, List, [], ◌∷◌, ◌++◌, Result, Ok, Err, OnOk, sym, ap, subst, ◌∙◌}
use Rattle.std.specs.List.{All, Contains}
use Rattle.std.proofs.lemmas.List.Elements.{All-contains, Contains-append_left, Contains-push}
use Rattle.std.proofs.lemmas.List.{map-append}
use Rattle.flow_model.specs.declared.trees.ActivityTree.{ActivityTree}
use Rattle.flow_model.specs.declared.trees.ElementTree.{ElementTree}
use Rattle.flow_model.specs.declared.trees.ElementTree.TheOpen.{WorkTree-F}
use Rattle.flow_model.specs.declared.trees.WorkTree.{WorkTree, Block, out-WorkTree}
use Rattle.flow_model.specs.declared.trees.WorkTree.TheVariants.{outs-Block}
use Rattle.text_graphs.specs.Texts.{activities_in, IsJudged}
use Rattle.text_graphs.specs.Blocks.{HasBlocks, IsListed, IsCovered, Grows, JudgedTo, lists_of}
use Rattle.text_graphs.specs.declared.scopes.Scope.{Scope}

inside : WorkTree-F ElementTree WorkTree ActivityTree → List ElementTree
inside WorkTree-F.Program = []
inside (WorkTree-F.Process name) = []
inside (WorkTree-F.Block elements) = elements

-- a block has one list of elements
pub block_same : (es fs : List ElementTree) → ◌≡◌ {A = WorkTree} (Block es) (Block fs) → es ≡ fs
unfolding inside
block_same es fs h = ap inside (sym (outs-Block es) ∙ ap out-WorkTree h ∙ outs-Block fs)

-- what is listed stays so where the list grows
pub blocks_stay : (old new : List (List ElementTree)) → Grows old new → (depth : ℕ) (elements : List ElementTree) → HasBlocks old depth elements → HasBlocks new depth elements
blocks_stay old new grows zero elements h = h
blocks_stay old new grows (suc depth) elements h = λ k d less inner is. let here = h k d less inner is in (grows inner here.0, blocks_stay old new grows depth inner here.1)

pub listed_stays : (old new : List (List ElementTree)) → Grows old new → (a : ActivityTree) → IsListed old a → IsListed new a
listed_stays old new grows a h = λ depth inner is. let here = h depth inner is in (grows inner here.0, blocks_stay old new grows depth inner here.1)

-- what holds of each listed graph holds of a graph that is covered, and of those inside it
pub judged_blocks : (lists : List (List ElementTree)) → All IsJudged lists → (depth : ℕ) (elements : List ElementTree) → Contains lists elements → HasBlocks lists depth elements → JudgedTo depth elements
judged_blocks lists all zero elements here inside_ = All-contains IsJudged lists elements all here
judged_blocks lists all (suc depth) elements here inside_ =
    (All-contains IsJudged lists elements all here, λ k d less inner is. let h = inside_ k d less inner is in judged_blocks lists all depth inner h.0 h.1)

pub covered_stays : (old new : List (List ElementTree)) → Grows old new → (elements : List ElementTree) → IsCovered old elements → IsCovered new elements
covered_stays old new grows elements h = (grows elements h.0, λ depth. blocks_stay old new grows depth elements (h.1 depth))

pub all_blocks : (lists : List (List ElementTree)) (elements : List ElementTree) → All (IsListed lists) (activities_in elements) → (depth : ℕ) → HasBlocks lists depth elements
all_blocks lists elements h zero = tt
all_blocks lists elements h (suc depth) = λ k d less inner is. h k d less depth inner is

pub pushed_lists : (scopes next : List Scope) (s : Scope) → next ≡ scopes ++ s ∷ [] → lists_of next ≡ lists_of scopes ++ s.elements.now ∷ []
pushed_lists scopes next s now = ap lists_of now ∙ map-append (λ (x : Scope). x.elements.now) scopes (s ∷ [])

pub grows_pushed : (scopes next : List Scope) (s : Scope) → next ≡ scopes ++ s ∷ [] → Grows (lists_of scopes) (lists_of next)
grows_pushed scopes next s now elements h =
    subst (λ lists. Contains lists elements) (sym (pushed_lists scopes next s now)) (Contains-append_left (lists_of scopes) (s.elements.now ∷ []) elements h)

pub has_pushed : (scopes next : List Scope) (s : Scope) (elements : List ElementTree) → next ≡ scopes ++ s ∷ [] → s.elements.now ≡ elements → Contains (lists_of next) elements
has_pushed scopes next s elements now is =
    subst (λ (es : List ElementTree). Contains (lists_of next) es) is (subst (λ lists. Contains lists s.elements.now) (sym (pushed_lists scopes next s now)) (Contains-push (lists_of scopes) s.elements.now))

pub on_ok : {T E : Type 0} (r : Result T E) {P Q : Type 0} → (P → Q) → OnOk r P → OnOk r Q
on_ok (Ok x) f p = f p
on_ok (Err e) f p = tt

pub on_ok_both : {T E : Type 0} (r : Result T E) {P Q R : Type 0} → (P → Q → R) → OnOk r P → OnOk r Q → OnOk r R
on_ok_both (Ok x) f p q = f p q
on_ok_both (Err e) f p q = tt

-- a graph that was added with those inside it
pub added_graph : (old next lists : List (List ElementTree)) (elements : List ElementTree) → Contains next elements → Grows next lists → ((depth : ℕ) → HasBlocks lists depth elements) → IsCovered lists elements
added_graph old next lists elements here grows blocks = (grows elements here, blocks)

pub listed_block : (lists : List (List ElementTree)) (a : ActivityTree) (elements : List ElementTree) → a.work ≡ Block elements → IsCovered lists elements → IsListed lists a
listed_block lists a elements work covered depth inner is =
    let same = block_same elements inner (sym work ∙ is) in
    subst (λ (es : List ElementTree). Contains lists es × HasBlocks lists depth es) same (covered.0, covered.1 depth)
