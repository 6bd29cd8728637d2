-- A script that is served in memory, one part behind the other.
use Rattle.std.proofs.Common.{◌≡◌, ℕ, suc, ◌+◌, ◌<◌, Result, Ok, Err, IfOk, List, [], ◌∷◌, ◌++◌, length, map, take, get_or, sym, ap, subst, ◌∙◌, append_assoc, append-nil, add-one, arith}
use Rattle.std.specs.Borrow.{Bor}
use Rattle.std.specs.Global.{Vec}
use Rattle.std.proofs.lemmas.List.{length-append, take_more, map-append}
use Rattle.std.proofs.lemmas.Grind.{flat_map-append}
use Rattle.flow_core.specs.declared.state.Core.{Core}
use Rattle.flow_disk.specs.declared.disk.Slot.TheVariants.{A}
use Rattle.flow_session.specs.Inputs.{Given, Line}
use Rattle.flow_session.specs.Scripts.{ServesOne, NoInput, OneMore}
use Rattle.flow_session.specs.declared.journal.NoJournal.{NoJournal}
use Rattle.flow_session.specs.declared.serving.Session.{Session}
use Rattle.flow_words.specs.Loading.{ServesInMemory, Serves, lines, next_number, number_of, amount_by, root_script, roots_script}
use Rattle.flow_words.specs.Loading.{import_script, turns_of, done_in, AreFinished, load_line}
use Rattle.flow_words.specs.Loading.{IsSummary, IsLoaded}
use Rattle.flow_words.specs.Scripts.{all_replies, IsFresh}
use Rattle.flow_words.specs.declared.load.Loading.{Loading}

-- inputs behind others
served_behind : (s : Session) (j : NoJournal) (first : List Given) (replies : List (List ℕ)) (s' : Session) (j' : NoJournal) (inputs : List Given) (more : List (List ℕ)) (s'' : Session) (j'' : NoJournal) → ServesInMemory s j first replies s' j' → ServesInMemory s' j' inputs more s'' j''
    → ServesInMemory s j (first ++ inputs) (replies ++ more) s'' j''
served_behind s j first replies s' j' _ _ _ _ before NoInput = subst (λ (is : List Given). ServesInMemory s j is (replies ++ []) s' j') (sym (append-nil first)) (subst (λ (rs : List (List ℕ)). ServesInMemory s j first rs s' j') (sym (append-nil replies)) before)
served_behind s j first replies s' j' _ _ _ _ before (OneMore {inputs} {replies = more} {input} {reply} {s' = t} {s'' = t'} {j' = k} {j'' = k'} all one) =
    subst (λ (is : List Given). ServesInMemory s j is (replies ++ (more ++ reply ∷ [])) t' k') (append_assoc first inputs (input ∷ []))
    (subst (λ (rs : List (List ℕ)). ServesInMemory s j ((first ++ inputs) ++ input ∷ []) rs t' k') (append_assoc replies more (reply ∷ []))
    (OneMore (served_behind s j first replies s' j' inputs more t k before all) one))

-- nothing is served
pub serves_none : (load : Loading) → Serves [] load load
serves_none load = record { replies = []; served = NoInput; counted = omega arith }

-- one input
pub serves_one : (input : Given) (reply : List ℕ) (old new : Loading) → ServesOne ⊥ (λ _ _. ⊥) (λ _. 0) (λ _ _ _. ⊥) (λ _. (A, 0)) (λ _ _ _. Unit {0}) input reply old.session new.session old.journal new.journal → new.bytes ≡ old.bytes + length reply → Serves (input ∷ []) old new
serves_one input reply old new one counted = record {
  replies = reply ∷ [];
  served = OneMore NoInput one;
  counted = counted ∙ ap (λ (l : List ℕ). old.bytes + length l) (sym (append-nil reply));
}

-- one part behind the other
pub serves_behind : (first inputs : List Given) (old mid new : Loading) → Serves first old mid → Serves inputs mid new → Serves (first ++ inputs) old new
serves_behind first inputs old mid new before after = record {
  replies = before.replies ++ after.replies;
  served = served_behind old.session old.journal first before.replies mid.session mid.journal inputs after.replies new.session new.journal before.served after.served;
  counted =
      let all : all_replies (before.replies ++ after.replies) ≡ all_replies before.replies ++ all_replies after.replies = flat_map-append (λ (r : List ℕ). r) before.replies after.replies in
      after.counted ∙ ap (λ (n : ℕ). n + length (all_replies after.replies)) before.counted ∙ (let l = ap length all ∙ length-append (all_replies before.replies) (all_replies after.replies) in omega (arith, l));
}

-- one line more
lines_more : (ls : List (Bor (List ℕ))) (i : ℕ) (d : Bor (List ℕ)) → i < length ls → lines (map (λ r. r.now) (take (i + 1) ls)) ≡ lines (map (λ r. r.now) (take i ls)) ++ Line (get_or ls i d).now ∷ []
lines_more ls i d within =
    ap (λ (rs : List (Bor (List ℕ))). lines (map (λ r. r.now) rs)) (take_more ls i d within)
    ∙ ap lines (map-append (λ (r : Bor (List ℕ)). r.now) (take i ls) (get_or ls i d ∷ []))
    ∙ map-append Line (map (λ r. r.now) (take i ls)) ((get_or ls i d).now ∷ [])

-- these lines are served up to one, and it is
pub serves_line : (ls : List (Bor (List ℕ))) (i : ℕ) (d : Bor (List ℕ)) (old mid new : Loading) → i < length ls → Serves (lines (map (λ r. r.now) (take i ls))) old mid → Serves (Line (get_or ls i d).now ∷ []) mid new → Serves (lines (map (λ r. r.now) (take (i + 1) ls))) old new
serves_line ls i d old mid new within before one =
    subst (λ (is : List Given). Serves is old new) (sym (lines_more ls i d within)) (serves_behind (lines (map (λ r. r.now) (take i ls))) (Line (get_or ls i d).now ∷ []) old mid new before one)

-- ---- one root more

pub number_more : (seed root x x' : ℕ) → x' ≡ next_number x → x ≡ number_of seed root → x' ≡ number_of seed (root + 1)
number_more seed root x x' next is = next ∙ ap next_number is ∙ ap (number_of seed) (sym (add-one root))

pub serves_root : (seed root amount : ℕ) (old mid new : Loading) → amount ≡ amount_by (number_of seed (root + 1)) → Serves (roots_script seed root) old mid → Serves (root_script (root + 1) amount) mid new → Serves (roots_script seed (root + 1)) old new
serves_root seed root amount old mid new given before one =
    let here : Serves (root_script (suc root) (amount_by (number_of seed (suc root)))) mid new =
    subst (λ (r : ℕ). Serves (root_script r (amount_by (number_of seed r))) mid new) (add-one root) (subst (λ (a : ℕ). Serves (root_script (root + 1) a) mid new) given one) in
    subst (λ (r : ℕ). Serves (roots_script seed r) old new) (sym (add-one root))
    (serves_behind (roots_script seed root) (root_script (suc root) (amount_by (number_of seed (suc root)))) old mid new before here)

-- ---- the line

pub sums_up : {E : Type 0} (r : Result (Vec ℕ) E) (load : Loading) (core : Core) (seed roots number turns done finished : ℕ)
    → core ≡ load.session.core → number ≡ core.number → turns ≡ turns_of core.live.items → AreFinished core roots finished
    → done ≡ done_in core
    → IfOk r (λ text. text.items ≡ load_line (seed ∷ roots ∷ number ∷ turns ∷ done ∷ finished ∷ load.bytes ∷ []))
    → IfOk r (λ text. IsSummary seed roots load text.items)
sums_up (Ok text) load core seed roots number turns done finished same is taken so ended line = record {
  finished = finished;
  counted = subst (λ (c : Core). AreFinished c roots finished) same so;
  told = line
      ∙ ap (λ (n : ℕ). load_line (seed ∷ roots ∷ n ∷ turns ∷ done ∷ finished ∷ load.bytes ∷ [])) (is ∙ ap (λ (c : Core). c.number) same)
      ∙ ap (λ (n : ℕ). load_line (seed ∷ roots ∷ load.session.core.number ∷ n ∷ done ∷ finished ∷ load.bytes ∷ [])) (taken ∙ ap (λ (c : Core). turns_of c.live.items) same)
      ∙ ap (λ (n : ℕ). load_line (seed ∷ roots ∷ load.session.core.number ∷ turns_of load.session.core.live.items ∷ n ∷ finished ∷ load.bytes ∷ [])) (ended ∙ ap done_in same);
}
sums_up (Err e) load core seed roots number turns done finished same is taken so ended line = tt

pub loaded : (seed roots : ℕ) (text : List ℕ) (first mid last : Loading) → IsFresh 4 10000000 first.session
    → first.bytes ≡ 0 → Serves import_script first mid → Serves (roots_script seed roots) mid last
    → IsSummary seed roots last text → IsLoaded seed roots text
loaded seed roots text first mid last fresh none imports serves sums =
    let all = serves_behind import_script (roots_script seed roots) first mid last imports serves in
    record {
      before = first.session;
      after = last.session;
      journal = first.journal;
      journal' = last.journal;
      replies = all.replies;
      fresh = fresh;
      served = all.served;
      finished = sums.finished;
      counted = sums.counted;
      told = sums.told
          ∙ ap (λ (n : ℕ). load_line (seed ∷ roots ∷ last.session.core.number ∷ turns_of last.session.core.live.items ∷ done_in last.session.core ∷ sums.finished ∷ n ∷ [])) (all.counted ∙ (let e : first.bytes + length (all_replies all.replies) ≡ length (all_replies all.replies) = omega (arith, none) in e));
    }
