-- How far forms that are made of others are read: one behind the other, one or nothing, one again and again.
use Rattle.std.proofs.Common.{◌≡◌, ℕ, [], ◌∷◌, ◌++◌, Option, refl, ap, sym, ◌∙◌, subst, append_assoc, inl, inr}
use Rattle.std.specs.Prelude.{◌⊎◌, Result, IfErr}
use Rattle.std.specs.Result.{IsErrAnd}
use Rattle.std.proofs.lemmas.Result.{err_from_is_err_and}
use Rattle.fdl_lexer.specs.declared.kinds.What.{What}
use Rattle.fdl_parser.specs.declared.cursor.SyntaxFault.{SyntaxFault}
use Rattle.fdl_parser.specs.declared.cursor.SyntaxFault.TheVariants.{At, NoMemory}
use Rattle.fdl_parser.specs.Lexed.{AreQuoted}
use Rattle.fdl_parser.specs.Tokens.{Tokens, first_kind}
use Rattle.fdl_parser.specs.Stops.{Anything, first_and, IsTaken, IsStop, Stops}

-- ---- rows

-- the second row begins as the first does
first_of : (front a b : Tokens) → first_kind a ≡ first_kind b → first_kind (front ++ a) ≡ first_kind (front ++ b)
first_of [] a b e = e
first_of (t ∷ front) a b e = refl

pub first_kept : (r others : Tokens) → first_kind (first_and r others) ≡ first_kind r
first_kept [] others = refl
first_kept (t ∷ r) others = refl

-- what begins with the first token of what is left begins as that
pub same_first : (a front r others : Tokens) → a ≡ front ++ r → first_kind (front ++ first_and r others) ≡ first_kind a
same_first a front r others cut = first_of front (first_and r others) r (first_kept r others) ∙ ap first_kind (sym cut)

quoted_both : (a b : Tokens) → AreQuoted a → AreQuoted b → AreQuoted (a ++ b)
quoted_both [] b p q = q
quoted_both (t ∷ a) b p q = (p.0, quoted_both a b p.1 q)

quoted_rest : (front b : Tokens) → AreQuoted (front ++ b) → AreQuoted b
quoted_rest [] b q = q
quoted_rest (t ∷ front) b q = quoted_rest front b q.1

-- ---- faults

-- where one form stops, another does
pub stops_as : {P Q : Tokens → Type 0} {F G : Tokens → Tokens → Type 0} {a b r : Tokens} {e : SyntaxFault} → (AreQuoted a → AreQuoted b) → (IsStop P F b r → IsStop Q G a r) → Stops P F b r e → Stops Q G a r e
stops_as quoted as' h = record { stop = λ place is q. as' (h.stop place is (quoted q)) }

-- what the exit of a `?` gives on
pub at_err : {T : Type 0} {P : Tokens → Type 0} {F : Tokens → Tokens → Type 0} {a r : Tokens} → (result : Result T SyntaxFault) (e : SyntaxFault) → IsErrAnd result (λ y. y ≡ e) → Stops P F a r e → IfErr result (Stops P F a r)
at_err {T} {P} {F} {a} {r} result e is h =
    let p = err_from_is_err_and result is in
    rw (p.1, p.2) h

-- want of memory names no place
pub no_memory : {P : Tokens → Type 0} {F : Tokens → Tokens → Type 0} {a r : Tokens} {e : SyntaxFault} → e ≡ NoMemory → Stops P F a r e
no_memory {e = e} none = record { stop = λ place is. absurd (apart place none is) }
  where
    apart : (place : ℕ) → e ≡ NoMemory → e ≡ At place → ⊥
    apart place m n = cc

-- ---- another name for a form

-- less may stand behind
pub taken_less : {P Q : Tokens → Type 0} {F : Tokens → Tokens → Type 0} {a b : Tokens} → ((x : Tokens) → Q x → P x) → IsTaken P F a b → IsTaken Q F a b
taken_less less h = record { front = h.front; cut = h.cut; reads = h.reads; only = λ rest other same q f. h.only rest other same (less other q) f }

pub stops_less : {P Q : Tokens → Type 0} {F : Tokens → Tokens → Type 0} {a r : Tokens} {e : SyntaxFault} → ((x : Tokens) → Q x → P x) → Stops P F a r e → Stops Q F a r e
stops_less less f = record {
  stop = λ place is quoted.
      let h = f.stop place is quoted in
      record { front = h.front; cut = h.cut; more = h.more; lexed = h.lexed; goes_on = λ rest q. h.goes_on rest (less rest q); blocked = λ others rest q g. h.blocked others rest (less rest q) g };
}

pub taken_as : {P : Tokens → Type 0} {F G : Tokens → Tokens → Type 0} {a b : Tokens} → ((a b : Tokens) → F a b → G a b) → ((a b : Tokens) → G a b → F a b) → IsTaken P F a b → IsTaken P G a b
taken_as into out h = record {
  front = h.front;
  cut = h.cut;
  reads = λ rest. into _ _ (h.reads rest);
  only = λ rest other same p g. h.only rest other same p (out _ _ g);
}

pub stop_as : {P : Tokens → Type 0} {F G : Tokens → Tokens → Type 0} {a r : Tokens} → ((a b : Tokens) → F a b → G a b) → ((a b : Tokens) → G a b → F a b) → IsStop P F a r → IsStop P G a r
stop_as into out h = record {
  front = h.front;
  cut = h.cut;
  more = h.more;
  lexed = h.lexed;
  goes_on = λ rest p. into _ _ (h.goes_on rest p);
  blocked = λ others rest p g. h.blocked others rest p (out _ _ g);
}

pub stops_form : {P : Tokens → Type 0} {F G : Tokens → Tokens → Type 0} {a r : Tokens} {e : SyntaxFault} → ((a b : Tokens) → F a b → G a b) → ((a b : Tokens) → G a b → F a b) → Stops P F a r e → Stops P G a r e
stops_form into out h = record { stop = λ place is q. stop_as into out (h.stop place is q) }

-- ---- one behind the other

-- some tokens that make up a form
pub record CanRead (P : Tokens → Type 0) (F : Tokens → Tokens → Type 0) : Type 0 where
  pub more : Tokens
  pub lexed : AreQuoted more
  pub reads : (rest : Tokens) → P rest → F (more ++ rest) rest

pub can_as : {P : Tokens → Type 0} {F G : Tokens → Tokens → Type 0} → ((a b : Tokens) → F a b → G a b) → CanRead P F → CanRead P G
can_as into h = record { more = h.more; lexed = h.lexed; reads = λ rest p. into _ _ (h.reads rest p) }

-- the first form, and then the second
abbrev pub Seq : (Tokens → Tokens → Type 0) → (Tokens → Tokens → Type 0) → Tokens → Tokens → Type 0
Seq F G a c = (b : Tokens) × F a b × G b c

-- what may stand behind the second form begins what may stand behind the first
abbrev pub Follows : (Tokens → Type 0) → (Tokens → Type 0) → (Tokens → Tokens → Type 0) → Type 0
Follows P Q G = (b c : Tokens) → Q c → G b c → P b

pub can_both : {P Q : Tokens → Type 0} {F G : Tokens → Tokens → Type 0} → Follows P Q G → CanRead P F → CanRead Q G → CanRead Q (Seq F G)
can_both {P} {Q} {F} {G} follows f g = record {
  more = f.more ++ g.more;
  lexed = quoted_both f.more g.more f.lexed g.lexed;
  reads = λ rest q.
      let h = g.reads rest q in
      (g.more ++ rest, subst (λ (a : Tokens). F a (g.more ++ rest)) (sym (append_assoc f.more g.more rest)) (f.reads (g.more ++ rest) (follows (g.more ++ rest) rest q h)), h);
}

pub taken_both : {P Q : Tokens → Type 0} {F G : Tokens → Tokens → Type 0} {a b c : Tokens} → Follows P Q G → IsTaken P F a b → IsTaken Q G b c → IsTaken Q (Seq F G) a c
taken_both {P} {Q} {F} {G} {a} {b} {c} follows f g = record {
  front = f.front ++ g.front;
  cut = f.cut ∙ ap (λ (x : Tokens). f.front ++ x) g.cut ∙ sym (append_assoc f.front g.front c);
  reads = λ rest. (g.front ++ rest, subst (λ (x : Tokens). F x (g.front ++ rest)) (sym (append_assoc f.front g.front rest)) (f.reads (g.front ++ rest)), g.reads rest);
  only = λ rest other same q h.
      let begins : first_kind (g.front ++ rest) ≡ first_kind b = first_of g.front rest c same ∙ ap first_kind (sym g.cut) in
      let at : h.0 ≡ g.front ++ rest = f.only (g.front ++ rest) h.0 begins (follows h.0 other q h.2) (subst (λ (x : Tokens). F x h.0) (append_assoc f.front g.front rest) h.1) in
      g.only rest other same q (subst (λ (x : Tokens). G x other) at h.2);
}

pub stop_first : {P Q : Tokens → Type 0} {F G : Tokens → Tokens → Type 0} {a r : Tokens} → Follows P Q G → IsStop P F a r → CanRead Q G → IsStop Q (Seq F G) a r
stop_first {P} {Q} {F} {G} follows f g = record {
  front = f.front;
  cut = f.cut;
  more = f.more ++ g.more;
  lexed = quoted_both f.more g.more f.lexed g.lexed;
  goes_on = λ rest q.
      let h = g.reads rest q in
      (g.more ++ rest, subst (λ (x : Tokens). F (f.front ++ x) (g.more ++ rest)) (sym (append_assoc f.more g.more rest)) (f.goes_on (g.more ++ rest) (follows (g.more ++ rest) rest q h)), h);
  blocked = λ others rest q h. f.blocked others h.0 (follows h.0 rest q h.2) h.1;
}

pub stop_second : {P Q : Tokens → Type 0} {F G : Tokens → Tokens → Type 0} {a b r : Tokens} → Follows P Q G → IsTaken P F a b → IsStop Q G b r → IsStop Q (Seq F G) a r
stop_second {P} {Q} {F} {G} {a} {b} {r} follows f g = record {
  front = f.front ++ g.front;
  cut = f.cut ∙ ap (λ (x : Tokens). f.front ++ x) g.cut ∙ sym (append_assoc f.front g.front r);
  more = g.more;
  lexed = g.lexed;
  goes_on = λ rest q. (g.front ++ (g.more ++ rest), subst (λ (x : Tokens). F x (g.front ++ (g.more ++ rest))) (sym (append_assoc f.front g.front (g.more ++ rest))) (f.reads (g.front ++ (g.more ++ rest))), g.goes_on rest q);
  blocked = λ others rest q h.
      let w = first_and r others in
      let at : h.0 ≡ g.front ++ w = f.only (g.front ++ w) h.0 (same_first b g.front r others g.cut) (follows h.0 rest q h.2) (subst (λ (x : Tokens). F x h.0) (append_assoc f.front g.front w) h.1) in
      g.blocked others rest q (subst (λ (x : Tokens). G x rest) at h.2);
}

-- what is left of tokens of the lexer is of the lexer
pub taken_quoted : {P : Tokens → Type 0} {F : Tokens → Tokens → Type 0} {a b : Tokens} → IsTaken P F a b → AreQuoted a → AreQuoted b
taken_quoted {P} {F} {a} {b} f q = quoted_rest f.front b (subst AreQuoted f.cut q)

-- both with faults
pub stops_first : {P Q : Tokens → Type 0} {F G : Tokens → Tokens → Type 0} {a r : Tokens} {e : SyntaxFault} → Follows P Q G → Stops P F a r e → CanRead Q G → Stops Q (Seq F G) a r e
stops_first follows f g = stops_as (λ q. q) (λ h. stop_first follows h g) f

pub stops_second : {P Q : Tokens → Type 0} {F G : Tokens → Tokens → Type 0} {a b r : Tokens} {e : SyntaxFault} → Follows P Q G → IsTaken P F a b → Stops Q G b r e → Stops Q (Seq F G) a r e
stops_second follows f g = stops_as (taken_quoted f) (λ h. stop_second follows f h) g

-- ---- one or nothing

-- the form or nothing
abbrev pub Maybe : (Tokens → Tokens → Type 0) → Tokens → Tokens → Type 0
Maybe F a b = (b ≡ a) ⊎ F a b

-- a form begins so, and what may stand behind it doesn't
pub record Opens (K : Option What → Type 0) (P : Tokens → Type 0) (F : Tokens → Tokens → Type 0) : Type 0 where
  pub begins : (a b : Tokens) → F a b → K (first_kind a)
  pub closes : (b : Tokens) → P b → K (first_kind b) → ⊥

pub taken_none : {K : Option What → Type 0} {P : Tokens → Type 0} {F : Tokens → Tokens → Type 0} {a : Tokens} → Opens K P F → (K (first_kind a) → ⊥) → IsTaken P (Maybe F) a a
taken_none {K} {P} {F} {a} opens not = record {
  front = [];
  cut = refl;
  reads = λ rest. inl refl;
  only = λ rest other same p h. elim h as (λ h. other ≡ rest) [ inl e ↦ e | inr f ↦ absurd (not (subst K same (opens.begins rest other f))) ];
}

pub taken_some : {K : Option What → Type 0} {P : Tokens → Type 0} {F : Tokens → Tokens → Type 0} {a b : Tokens} → Opens K P F → IsTaken P F a b → IsTaken P (Maybe F) a b
taken_some {K} {P} {F} {a} {b} opens f = record {
  front = f.front;
  cut = f.cut;
  reads = λ rest. inr (f.reads rest);
  only = λ rest other same p h.
      elim h as (λ h. other ≡ rest) [
        | inl e ↦ absurd (opens.closes other p (subst (λ (x : Tokens). K (first_kind x)) (sym e) (opens.begins (f.front ++ rest) rest (f.reads rest))))
        | inr g ↦ f.only rest other same p g
      ];
}

pub stop_some : {K : Option What → Type 0} {P : Tokens → Type 0} {F : Tokens → Tokens → Type 0} {a r : Tokens} → Opens K P F → K (first_kind a) → IsStop P F a r → IsStop P (Maybe F) a r
stop_some {K} {P} {F} {a} {r} opens here f = record {
  front = f.front;
  cut = f.cut;
  more = f.more;
  lexed = f.lexed;
  goes_on = λ rest p. inr (f.goes_on rest p);
  blocked = λ others rest p h.
      elim h as (λ h. ⊥) [
        | inl e ↦ opens.closes rest p (subst (λ (x : Tokens). K (first_kind x)) (sym e) (subst K (sym (same_first a f.front r others f.cut)) here))
        | inr g ↦ f.blocked others rest p g
      ];
}

pub stops_some : {K : Option What → Type 0} {P : Tokens → Type 0} {F : Tokens → Tokens → Type 0} {a r : Tokens} {e : SyntaxFault} → Opens K P F → K (first_kind a) → Stops P F a r e → Stops P (Maybe F) a r e
stops_some opens here f = stops_as (λ q. q) (λ h. stop_some opens here h) f

-- nothing is read where nothing has to be
pub can_none : {P : Tokens → Type 0} {F : Tokens → Tokens → Type 0} → CanRead P (Maybe F)
can_none = record { more = []; lexed = tt; reads = λ rest p. inl refl }

-- ---- one again and again

-- the form some times
pub data Star (G : Tokens → Tokens → Type 0) : Tokens → Tokens → Type 0 where
  None : {a : Tokens} → Star G a a
  More : {a b c : Tokens} → G a b → Star G b c → Star G a c

pub star_snoc : {G : Tokens → Tokens → Type 0} {a b c : Tokens} → Star G a b → G b c → Star G a c
star_snoc None g = More g None
star_snoc (More h s) g = More h (star_snoc s g)

-- a form was read, and then another some times: whatever is read in another way goes on from here
pub record Through (P : Tokens → Type 0) (F G : Tokens → Tokens → Type 0) (a b : Tokens) : Type 0 where
  pub front : Tokens
  pub cut : a ≡ front ++ b
  pub reads : (rest : Tokens) → Seq F (Star G) (front ++ rest) rest
  pub goes : (rest other : Tokens) → first_kind rest ≡ first_kind b → P other → Seq F (Star G) (front ++ rest) other → Star G rest other

pub through_before : {P Q : Tokens → Type 0} {F G : Tokens → Tokens → Type 0} {a b : Tokens} → Follows Q P (Star G) → IsTaken Q F a b → Through P F G a b
through_before {P} {Q} {F} {G} follows f = record {
  front = f.front;
  cut = f.cut;
  reads = λ rest. (rest, f.reads rest, None);
  goes = λ rest other same p h. subst (λ (x : Tokens). Star G x other) (f.only rest h.0 same (follows h.0 other p h.2) h.1) h.2;
}

pub through_first : {P : Tokens → Type 0} {F G : Tokens → Tokens → Type 0} {a b : Tokens} → IsTaken Anything F a b → Through P F G a b
through_first f = through_before (λ b c p s. tt) f

-- a row that begins so goes on
went_on : {K : Option What → Type 0} {P : Tokens → Type 0} {G : Tokens → Tokens → Type 0} {a b : Tokens} → Opens K P G → P b → K (first_kind a) → Star G a b → Seq G (Star G) a b
went_on {K} {P} {G} {a} {b} opens p here None = absurd (opens.closes b p here)
went_on opens p here (More g s) = (_, g, s)

-- one that doesn't ends
ended : {K : Option What → Type 0} {P : Tokens → Type 0} {G : Tokens → Tokens → Type 0} {a b : Tokens} → Opens K P G → (K (first_kind a) → ⊥) → Star G a b → b ≡ a
ended opens not None = refl
ended opens not (More g s) = absurd (not (opens.begins _ _ g))

pub through_on : {K : Option What → Type 0} {P Q : Tokens → Type 0} {F G : Tokens → Tokens → Type 0} {a b c : Tokens} → Opens K P G → Follows Q P (Star G) → Through P F G a b → IsTaken Q G b c → Through P F G a c
through_on {K} {P} {Q} {F} {G} {a} {b} {c} opens follows f g = record {
  front = f.front ++ g.front;
  cut = f.cut ∙ ap (λ (x : Tokens). f.front ++ x) g.cut ∙ sym (append_assoc f.front g.front c);
  reads = λ rest.
      let h = f.reads (g.front ++ rest) in
      (h.0, subst (λ (x : Tokens). F x h.0) (sym (append_assoc f.front g.front rest)) h.1, star_snoc h.2 (g.reads rest));
  goes = λ rest other same p h.
      let begins : first_kind (g.front ++ rest) ≡ first_kind b = first_of g.front rest c same ∙ ap first_kind (sym g.cut) in
      let s = f.goes (g.front ++ rest) other begins p (subst (λ (x : Tokens). Seq F (Star G) x other) (append_assoc f.front g.front rest) h) in
      let t = went_on opens p (opens.begins (g.front ++ rest) rest (g.reads rest)) s in
      subst (λ (x : Tokens). Star G x other) (g.only rest t.0 same (follows t.0 other p t.2) t.1) t.2;
}

pub through_more : {K : Option What → Type 0} {P : Tokens → Type 0} {F G : Tokens → Tokens → Type 0} {a b c : Tokens} → Opens K P G → Through P F G a b → IsTaken Anything G b c → Through P F G a c
through_more opens f g = through_on opens (λ b c p s. tt) f g

pub taken_loop : {K : Option What → Type 0} {P : Tokens → Type 0} {F G : Tokens → Tokens → Type 0} {a b : Tokens} → Opens K P G → Through P F G a b → (K (first_kind b) → ⊥) → IsTaken P (Seq F (Star G)) a b
taken_loop {K} opens f not = record {
  front = f.front;
  cut = f.cut;
  reads = f.reads;
  only = λ rest other same p h. ended opens (λ k. not (subst K same k)) (f.goes rest other same p h);
}

pub stop_loop_on : {K : Option What → Type 0} {P Q : Tokens → Type 0} {F G : Tokens → Tokens → Type 0} {a b r : Tokens} → Opens K P G → Follows Q P (Star G) → Through P F G a b → K (first_kind b) → IsStop Q G b r
    → IsStop P (Seq F (Star G)) a r
stop_loop_on {K} {P} {Q} {F} {G} {a} {b} {r} opens follows f here g = record {
  front = f.front ++ g.front;
  cut = f.cut ∙ ap (λ (x : Tokens). f.front ++ x) g.cut ∙ sym (append_assoc f.front g.front r);
  more = g.more;
  lexed = g.lexed;
  goes_on = λ rest p.
      let h = f.reads (g.front ++ (g.more ++ rest)) in
      (h.0, subst (λ (x : Tokens). F x h.0) (sym (append_assoc f.front g.front (g.more ++ rest))) h.1, star_snoc h.2 (g.goes_on rest (follows rest rest p None)));
  blocked = λ others rest p h.
      let w = first_and r others in
      let begins : first_kind (g.front ++ w) ≡ first_kind b = same_first b g.front r others g.cut in
      let s = f.goes (g.front ++ w) rest begins p (subst (λ (x : Tokens). Seq F (Star G) x rest) (append_assoc f.front g.front w) h) in
      let t = went_on opens p (subst K (sym begins) here) s in
      g.blocked others t.0 (follows t.0 rest p t.2) t.1;
}

pub stops_loop_on : {K : Option What → Type 0} {P Q : Tokens → Type 0} {F G : Tokens → Tokens → Type 0} {a b r : Tokens} {e : SyntaxFault} → Opens K P G → Follows Q P (Star G) → Through P F G a b → K (first_kind b) → Stops Q G b r e
    → Stops P (Seq F (Star G)) a r e
stops_loop_on {K} {P} {Q} {F} {G} {a} {b} opens follows f here g = stops_as (λ q. quoted_rest f.front b (subst AreQuoted f.cut q)) (λ h. stop_loop_on opens follows f here h) g

pub stops_loop : {K : Option What → Type 0} {P : Tokens → Type 0} {F G : Tokens → Tokens → Type 0} {a b r : Tokens} {e : SyntaxFault} → Opens K P G → Through P F G a b → K (first_kind b) → Stops Anything G b r e → Stops P (Seq F (Star G)) a r e
stops_loop opens f here g = stops_loop_on opens (λ b c p s. tt) f here g

pub can_loop : {P : Tokens → Type 0} {F G : Tokens → Tokens → Type 0} → CanRead P F → CanRead P (Seq F (Star G))
can_loop f = record { more = f.more; lexed = f.lexed; reads = λ rest p. (rest, f.reads rest p, None) }

-- nothing is read
abbrev pub Empty : Tokens → Tokens → Type 0
Empty a b = b ≡ a

pub through_none : {P : Tokens → Type 0} {G : Tokens → Tokens → Type 0} {a : Tokens} → Through P Empty G a a
through_none {P} {G} = record {
  front = [];
  cut = refl;
  reads = λ rest. (rest, refl, None);
  goes = λ rest other same p h. subst (λ (x : Tokens). Star G x other) h.1 h.2;
}

many_into : {G : Tokens → Tokens → Type 0} (a b : Tokens) → Seq Empty (Star G) a b → Star G a b
many_into {G} a b h = subst (λ (x : Tokens). Star G x b) h.1 h.2

many_out : {G : Tokens → Tokens → Type 0} (a b : Tokens) → Star G a b → Seq Empty (Star G) a b
many_out a b s = (a, refl, s)

pub taken_many : {P : Tokens → Type 0} {G : Tokens → Tokens → Type 0} {a b : Tokens} → IsTaken P (Seq Empty (Star G)) a b → IsTaken P (Star G) a b
taken_many h = taken_as many_into many_out h

pub stops_many : {P : Tokens → Type 0} {G : Tokens → Tokens → Type 0} {a r : Tokens} {e : SyntaxFault} → Stops P (Seq Empty (Star G)) a r e → Stops P (Star G) a r e
stops_many h = stops_form many_into many_out h

-- ---- two forms that begin with different tokens

-- the first or the second
abbrev pub Either : (Tokens → Tokens → Type 0) → (Tokens → Tokens → Type 0) → Tokens → Tokens → Type 0
Either F G a b = F a b ⊎ G a b

-- only the first begins so
pub taken_left : (K : Option What → Type 0) {P : Tokens → Type 0} {F G : Tokens → Tokens → Type 0} {a b : Tokens} → ((a b : Tokens) → F a b → K (first_kind a)) → ((a b : Tokens) → G a b → K (first_kind a) → ⊥)
    → IsTaken P F a b → IsTaken P (Either F G) a b
taken_left K {P} {F} {G} begins not f = record {
  front = f.front;
  cut = f.cut;
  reads = λ rest. inl (f.reads rest);
  only = λ rest other same p h. elim h as (λ h. other ≡ rest) [ inl x ↦ f.only rest other same p x | inr g ↦ absurd (not _ _ g (begins _ _ (f.reads rest))) ];
}

pub taken_right : (K : Option What → Type 0) {P : Tokens → Type 0} {F G : Tokens → Tokens → Type 0} {a b : Tokens} → ((a b : Tokens) → F a b → K (first_kind a)) → ((a b : Tokens) → G a b → K (first_kind a) → ⊥)
    → IsTaken P G a b → IsTaken P (Either F G) a b
taken_right K {P} {F} {G} begins not g = record {
  front = g.front;
  cut = g.cut;
  reads = λ rest. inr (g.reads rest);
  only = λ rest other same p h. elim h as (λ h. other ≡ rest) [ inl f ↦ absurd (not _ _ (g.reads rest) (begins _ _ f)) | inr x ↦ g.only rest other same p x ];
}

pub stop_left : (K : Option What → Type 0) {P : Tokens → Type 0} {F G : Tokens → Tokens → Type 0} {a r : Tokens} → ((a b : Tokens) → G a b → K (first_kind a) → ⊥) → K (first_kind a)
    → IsStop P F a r → IsStop P (Either F G) a r
stop_left K {P} {F} {G} {a} {r} not here f = record {
  front = f.front;
  cut = f.cut;
  more = f.more;
  lexed = f.lexed;
  goes_on = λ rest p. inl (f.goes_on rest p);
  blocked = λ others rest p h. elim h as (λ h. ⊥) [ inl x ↦ f.blocked others rest p x | inr g ↦ not _ _ g (subst K (sym (same_first a f.front r others f.cut)) here) ];
}

pub stop_right : (K : Option What → Type 0) {P : Tokens → Type 0} {F G : Tokens → Tokens → Type 0} {a r : Tokens} → ((a b : Tokens) → F a b → K (first_kind a)) → (K (first_kind a) → ⊥)
    → IsStop P G a r → IsStop P (Either F G) a r
stop_right K {P} {F} {G} {a} {r} begins not g = record {
  front = g.front;
  cut = g.cut;
  more = g.more;
  lexed = g.lexed;
  goes_on = λ rest p. inr (g.goes_on rest p);
  blocked = λ others rest p h. elim h as (λ h. ⊥) [ inl f ↦ not (subst K (same_first a g.front r others g.cut) (begins _ _ f)) | inr x ↦ g.blocked others rest p x ];
}

pub stops_left : (K : Option What → Type 0) {P : Tokens → Type 0} {F G : Tokens → Tokens → Type 0} {a r : Tokens} {e : SyntaxFault} → ((a b : Tokens) → G a b → K (first_kind a) → ⊥) → K (first_kind a)
    → Stops P F a r e → Stops P (Either F G) a r e
stops_left K not here f = stops_as (λ q. q) (λ h. stop_left K not here h) f

pub stops_right : (K : Option What → Type 0) {P : Tokens → Type 0} {F G : Tokens → Tokens → Type 0} {a r : Tokens} {e : SyntaxFault} → ((a b : Tokens) → F a b → K (first_kind a)) → (K (first_kind a) → ⊥)
    → Stops P G a r e → Stops P (Either F G) a r e
stops_right K begins not g = stops_as (λ q. q) (λ h. stop_right K begins not h) g
