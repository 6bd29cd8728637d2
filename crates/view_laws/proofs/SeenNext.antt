-- What one more message or completion tells.
use Rattle.fate_laws.proofs.Extends.{and_true}
use Rattle.fate_laws.proofs.Items.{eqb_one, parts_itself, parts_one}
use Rattle.flow_model.specs.declared.instances.Fact.{Fact}
use Rattle.flow_model.specs.declared.instances.Part.{Part}
use Rattle.flow_model.specs.Rows.{same_parts, output_of}
use Rattle.flow_model.specs.Scopes.{Known}
use Rattle.std.proofs.Common.{◌≡◌, ℕ, ◌+◌, ◌==◌, Bool, true, false, ◌&&◌, ◌||◌, if◌then◌else◌, List, [], ◌∷◌, ◌++◌, length, refl, sym, ap, ◌∙◌, Option, Some, None, length-append}
use Rattle.std.specs.List.{list_any}
use Rattle.std.specs.Option.{option_or}
use Rattle.view_laws.proofs.Learnt.{begin_learnt, signal_learnt, end_learnt, output_learnt}
use Rattle.view_laws.specs.Learning.{with_begin, with_signal, with_end, with_output, learnt, with_most}
use Rattle.view_laws.specs.Messages.{Note, BeginNote, SignalNote, EndNote, same_note}
use Rattle.view_laws.specs.Runs.{Event, Turned, Completed, taken, facts, has_note, told_by, told, known, seen}

parts_swap : (p q : List Part) → same_parts p q ≡ same_parts q p
parts_swap p q = go (same_parts p q) refl (same_parts q p) refl
  where
    go : (b : Bool) → same_parts p q ≡ b → (c : Bool) → same_parts q p ≡ c → same_parts p q ≡ same_parts q p
    go true x true y = x ∙ sym y
    go false x false y = x ∙ sym y
    go true x false y =
        let same : p ≡ q = parts_one p q x in
        let there : same_parts q p ≡ true = rw same (parts_itself q) in
        let n : false ≡ true = sym y ∙ there in
        cc
    go false x true y =
        let same : q ≡ p = parts_one q p y in
        let there : same_parts p q ≡ true = rw same (parts_itself p) in
        let n : false ≡ true = sym x ∙ there in
        cc

or_later : (b c d : Bool) → (b || (c || d)) ≡ (c || (b || d))
or_later true true d = refl
or_later true false d = refl
or_later false true d = refl
or_later false false d = refl

any_next : (f : Note → Bool) (ms : List Note) (m : Note) → list_any f (ms ++ m ∷ []) ≡ (f m || list_any f ms)
any_next f [] m = refl
any_next f (n ∷ ms) m = ap (λ b. f n || b) (any_next f ms m) ∙ or_later (f n) (f m) (list_any f ms)

or_assoc : (x y z : Option Bool) → option_or x (option_or y z) ≡ option_or (option_or x y) z
or_assoc None y z = refl
or_assoc (Some b) y z = refl

or_none : (x : Option Bool) → option_or x None ≡ x
or_none None = refl
or_none (Some b) = refl

told_next : (ms : List Note) (m : Note) (p : List Part) (a b : ℕ) → told (ms ++ m ∷ []) p a b ≡ option_or (told ms p a b) (told_by m p a b)
told_next [] m p a b = or_none (told_by m p a b)
told_next (n ∷ ms) m p a b =
    ap (option_or (told_by n p a b)) (told_next ms m p a b) ∙ or_assoc (told_by n p a b) (told ms p a b) (told_by m p a b)

told_other : (ms : List Note) (m : Note) (p : List Part) (a b : ℕ) → told_by m p a b ≡ None → told (ms ++ m ∷ []) p a b ≡ told ms p a b
told_other ms m p a b none = told_next ms m p a b ∙ ap (option_or (told ms p a b)) none ∙ or_none (told ms p a b)

-- ---- the messages

-- a BEGIN
pub seen_begin : (h : List Event) (p : List Part) → seen (Turned (BeginNote p) ∷ h) ≡ learnt with_begin p (seen h)
seen_begin h p =
    begin_learnt p (seen h) (seen (Turned (BeginNote p) ∷ h))
    (record {
      most = refl;
      begun = λ r. any_next (same_note (BeginNote r)) (taken h) (BeginNote p) ∙ ap (λ b. b || has_note (taken h) (BeginNote r)) (parts_swap r p);
      closed = λ r. any_next (same_note (EndNote r)) (taken h) (BeginNote p);
      sent = λ r a b o. told_other (taken h) (BeginNote p) r a b refl;
      given = λ r. refl;
    })

-- an END, of the scope around the attempt
pub seen_end : (h : List Event) (p : List Part) (last : Part) → seen (Turned (EndNote (p ++ last ∷ [])) ∷ h) ≡ learnt (with_end last) p (seen h)
seen_end h p last =
    end_learnt p last (seen h) (seen (Turned (EndNote (p ++ last ∷ [])) ∷ h))
    (record {
      most = refl;
      begun = λ r. any_next (same_note (BeginNote r)) (taken h) (EndNote (p ++ last ∷ []));
      closed = λ r.
          any_next (same_note (EndNote r)) (taken h) (EndNote (p ++ last ∷ []))
          ∙ ap (λ b. b || has_note (taken h) (EndNote r)) (parts_swap r (p ++ last ∷ []));
      sent = λ r a b o. told_other (taken h) (EndNote (p ++ last ∷ [])) r a b refl;
      given = λ r. refl;
    })

-- the first SIGNAL of a connector
pub seen_signal : (h : List Event) (p : List Part) (a b : ℕ) (v : Bool) → (seen h).sent p a b None ≡ None
    → seen (Turned (SignalNote p a b v) ∷ h) ≡ learnt (with_signal a b v) p (seen h)
seen_signal h p a b v unsent =
    signal_learnt p a b v (seen h) (seen (Turned (SignalNote p a b v) ∷ h))
    (record {
      most = refl;
      begun = λ r. any_next (same_note (BeginNote r)) (taken h) (SignalNote p a b v);
      closed = λ r. any_next (same_note (EndNote r)) (taken h) (SignalNote p a b v);
      sent = λ r c d o. told_next (taken h) (SignalNote p a b v) r c d ∙ by r c d (same_parts p r && (a == c) && (b == d)) refl;
      given = λ r. refl;
    })
  where
    by : (r : List Part) (c d : ℕ) (e : Bool) → (same_parts p r && (a == c) && (b == d)) ≡ e
        → option_or (told (taken h) r c d) (told_by (SignalNote p a b v) r c d) ≡ (if same_parts p r && (a == c) && (b == d) then Some v else told (taken h) r c d)
    by r c d false is = rw is (or_none (told (taken h) r c d))
    by r c d true is =
        let both = and_true (same_parts p r && (a == c)) _ is in
        let more = and_true (same_parts p r) _ both.0 in
        let first : told (taken h) r c d ≡ told (taken h) p a b = rw (parts_one p r more.0, eqb_one a c more.1, eqb_one b d both.1) refl in
        let none : told (taken h) r c d ≡ None = first ∙ unsent in
        rw (is, none) refl

-- ---- completions

output_next : (fs : List Fact) (f : Fact) (r : List Part) → output_of fs f.item.parts ≡ None
    → output_of (fs ++ f ∷ []) r ≡ (if same_parts f.item.parts r then Some f.output else output_of fs r)
output_next fs f r none = go (same_parts f.item.parts r) refl
  where
    other : (es : List Fact) → same_parts f.item.parts r ≡ false → output_of (es ++ f ∷ []) r ≡ output_of es r
    other [] is = rw is refl
    other (e ∷ es) is = ap (λ o. if same_parts e.item.parts r then Some e.output else o) (other es is)

    last_of : (es : List Fact) → output_of es r ≡ None → same_parts f.item.parts r ≡ true → output_of (es ++ f ∷ []) r ≡ Some f.output
    last_of [] none' is = rw is refl
    last_of (e ∷ es) none' is = at_first (same_parts e.item.parts r) refl (last_of es)
      where
        at_first : (b : Bool) → same_parts e.item.parts r ≡ b → (output_of es r ≡ None → same_parts f.item.parts r ≡ true → output_of (es ++ f ∷ []) r ≡ Some f.output)
            → output_of ((e ∷ es) ++ f ∷ []) r ≡ Some f.output
        at_first true hit rest = let n : Some e.output ≡ None = rw hit at none' in cc
        at_first false miss rest = rw miss (rest (rw miss at none') is)

    go : (b : Bool) → same_parts f.item.parts r ≡ b → output_of (fs ++ f ∷ []) r ≡ (if same_parts f.item.parts r then Some f.output else output_of fs r)
    go false is = other fs is ∙ rw is refl
    go true is = last_of fs (rw (parts_one f.item.parts r is) at none) is ∙ rw is refl

with_count : ℕ → Known → Known
with_count most k = record k { most = most }

-- the first completion of an item
pub seen_completed : (h : List Event) (f : Fact) (p : List Part) (last : Part) → f.item.parts ≡ p ++ last ∷ [] → (seen h).given (p ++ last ∷ []) ≡ None
    → seen (Completed f ∷ h) ≡ with_most (length (facts h) + 1) (learnt (with_output last f.output) p (seen h))
unfolding with_count
seen_completed h f p last parts ungiven =
    let next : Known = known (taken h) (facts h ++ f ∷ []) in
    let count : length (facts h ++ f ∷ []) ≡ length (facts h) + 1 = length-append (facts h) (f ∷ []) in
    let none : output_of (facts h) f.item.parts ≡ None = ap (output_of (facts h)) parts ∙ ungiven in
    let same : record next { most = length (facts h) } ≡ learnt (with_output last f.output) p (seen h) =
    output_learnt p last f.output (seen h) (record next { most = length (facts h) })
    (record {
      most = refl;
      begun = λ r. refl;
      closed = λ r. refl;
      sent = λ r a b o. refl;
      given = λ r. output_next (facts h) f r none ∙ ap (λ l. if same_parts l r then Some f.output else output_of (facts h) r) parts;
    }) in
    ap (λ m. with_count m next) count ∙ ap (with_count (length (facts h) + 1)) same
