-- What is known after an event is what was known before and what the event tells.
use Rattle.fate_laws.proofs.Items.{part_itself, part_one}
use Rattle.flow_model.specs.declared.graphs.Container.{Container}
use Rattle.flow_model.specs.declared.instances.Part.{Part}
use Rattle.flow_model.specs.Rows.{same_part, same_parts}
use Rattle.flow_model.specs.Scopes.{Known, at}
use Rattle.std.proofs.Common.{◌≡◌, ℕ, ◌==◌, Bool, true, false, ◌&&◌, ◌||◌, if◌then◌else◌, List, [], ◌∷◌, ◌++◌, refl, sym, ap, ◌∙◌, Option, Some}
use Rattle.std.proofs.Math.Path.{fun_ext}
use Rattle.view_laws.specs.Learning.{with_begin, Sent, with_signal, closed_here, with_end, given_here, with_output, instead, with_below, learnt}

-- ---- two records of what is known are one where their fields are

known_by : ℕ → (List Part → Bool) → (List Part → Bool) → Sent → (List Part → Option Container) → Known
known_by most begun closed sent given = record { most = most; begun = begun; closed = closed; sent = sent; given = given }

-- they are the same in each field
pub record IsOneKnown (k k' : Known) : Type 0 where
  pub most : k'.most ≡ k.most
  pub begun : (r : List Part) → k'.begun r ≡ k.begun r
  pub closed : (r : List Part) → k'.closed r ≡ k.closed r
  pub sent : (r : List Part) (a b : ℕ) (o : Option Bool) → k'.sent r a b o ≡ k.sent r a b o
  pub given : (r : List Part) → k'.given r ≡ k.given r

-- so they are one
pub one_known : (k k' : Known) → IsOneKnown k k' → k' ≡ k
unfolding known_by
one_known k k' same =
    ap (λ m. known_by m k'.begun k'.closed k'.sent k'.given) same.most
    ∙ ap (λ f. known_by k.most f k'.closed k'.sent k'.given) (fun_ext same.begun)
    ∙ ap (λ f. known_by k.most k.begun f k'.sent k'.given) (fun_ext same.closed)
    ∙ ap (λ f. known_by k.most k.begun k.closed f k'.given) (fun_ext (λ r. fun_ext (λ a. fun_ext (λ b. fun_ext (λ o. same.sent r a b o)))))
    ∙ ap (λ f. known_by k.most k.begun k.closed k.sent f) (fun_ext same.given)

-- ---- below a part

-- the scope at hand and those below other parts know the same
pub record IsElsewhere (q : Part) (k k' : Known) : Type 0 where
  pub most : k'.most ≡ k.most
  pub begun : (k'.begun [] ≡ k.begun []) × ((s : Part) (r : List Part) → same_part q s ≡ false → k'.begun (s ∷ r) ≡ k.begun (s ∷ r))
  pub closed : (k'.closed [] ≡ k.closed []) × ((s : Part) (r : List Part) → same_part q s ≡ false → k'.closed (s ∷ r) ≡ k.closed (s ∷ r))
  pub sent : ((a b : ℕ) (o : Option Bool) → k'.sent [] a b o ≡ k.sent [] a b o)
      × ((s : Part) (r : List Part) (a b : ℕ) (o : Option Bool) → same_part q s ≡ false → k'.sent (s ∷ r) a b o ≡ k.sent (s ∷ r) a b o)
  pub given : (k'.given [] ≡ k.given []) × ((s : Part) (r : List Part) → same_part q s ≡ false → k'.given (s ∷ r) ≡ k.given (s ∷ r))

instead_is : {X : Type 0} (q : Part) (f f' : List Part → X) → f' [] ≡ f [] → ((s : Part) (r : List Part) → same_part q s ≡ false → f' (s ∷ r) ≡ f (s ∷ r))
    → (r : List Part) → f' r ≡ instead q f (λ p. f' (q ∷ p)) r
instead_is q f f' here other [] = here
instead_is q f f' here other (s ∷ r) = go (same_part q s) refl
  where
    go : (b : Bool) → same_part q s ≡ b → f' (s ∷ r) ≡ (if same_part q s then f' (q ∷ r) else f (s ∷ r))
    go true is = rw is (ap (λ u. f' (u ∷ r)) (sym (part_one q s is)))
    go false is = rw is (other s r is)

below_is : (q : Part) (k k' : Known) → IsElsewhere q k k' → k' ≡ with_below q (at q k') k
below_is q k k' else_ =
    one_known (with_below q (at q k') k) k'
    (record {
      most = else_.most;
      begun = instead_is q k.begun k'.begun else_.begun.0 else_.begun.1;
      closed = instead_is q k.closed k'.closed else_.closed.0 else_.closed.1;
      sent = λ r a b o.
          ap (λ f. f a b o)
          (instead_is q k.sent k'.sent (fun_ext (λ c. fun_ext (λ d. fun_ext (λ u. else_.sent.0 c d u))))
          (λ s p other. fun_ext (λ c. fun_ext (λ d. fun_ext (λ u. else_.sent.1 s p c d u other)))) r);
      given = instead_is q k.given k'.given else_.given.0 else_.given.1;
    })

below_learnt : (change : Known → Known) (q : Part) (p : List Part) (k k' : Known) → IsElsewhere q k k' → at q k' ≡ learnt change p (at q k) → k' ≡ learnt change (q ∷ p) k
below_learnt change q p k k' else_ below = below_is q k k' else_ ∙ ap (λ j. with_below q j k) below

-- ---- the four events

-- only begun differs, at the path
pub record TellsBegin (p : List Part) (k k' : Known) : Type 0 where
  pub most : k'.most ≡ k.most
  pub begun : (r : List Part) → k'.begun r ≡ (same_parts p r || k.begun r)
  pub closed : (r : List Part) → k'.closed r ≡ k.closed r
  pub sent : (r : List Part) (a b : ℕ) (o : Option Bool) → k'.sent r a b o ≡ k.sent r a b o
  pub given : (r : List Part) → k'.given r ≡ k.given r

-- then that scope learns that it has begun
pub begin_learnt : (p : List Part) (k k' : Known) → TellsBegin p k k' → k' ≡ learnt with_begin p k
begin_learnt [] k k' tells = one_known (with_begin k) k' (record { most = tells.most; begun = here; closed = tells.closed; sent = tells.sent; given = tells.given })
  where
    here : (r : List Part) → k'.begun r ≡ (with_begin k).begun r
    here [] = tells.begun []
    here (s ∷ r) = tells.begun (s ∷ r)
begin_learnt (q ∷ p) k k' tells =
    below_learnt with_begin q p k k'
    (record {
      most = tells.most;
      begun = (tells.begun [], λ s r other. rw other at (tells.begun (s ∷ r)));
      closed = (tells.closed [], λ s r other. tells.closed (s ∷ r));
      sent = (tells.sent [], λ s r a b o other. tells.sent (s ∷ r) a b o);
      given = (tells.given [], λ s r other. tells.given (s ∷ r));
    })
    (begin_learnt p (at q k) (at q k')
    (record {
      most = tells.most;
      begun = λ r. rw (part_itself q) at (tells.begun (q ∷ r));
      closed = λ r. tells.closed (q ∷ r);
      sent = λ r. tells.sent (q ∷ r);
      given = λ r. tells.given (q ∷ r);
    }))

-- only what was sent differs, at the connector of the path
pub record TellsSignal (p : List Part) (a b : ℕ) (v : Bool) (k k' : Known) : Type 0 where
  pub most : k'.most ≡ k.most
  pub begun : (r : List Part) → k'.begun r ≡ k.begun r
  pub closed : (r : List Part) → k'.closed r ≡ k.closed r
  pub sent : (r : List Part) (c d : ℕ) (o : Option Bool) → k'.sent r c d o ≡ (if same_parts p r && (a == c) && (b == d) then Some v else k.sent r c d o)
  pub given : (r : List Part) → k'.given r ≡ k.given r

-- then that scope learns the value of the connector
pub signal_learnt : (p : List Part) (a b : ℕ) (v : Bool) (k k' : Known) → TellsSignal p a b v k k' → k' ≡ learnt (with_signal a b v) p k
signal_learnt [] a b v k k' tells =
    one_known (with_signal a b v k) k' (record { most = tells.most; begun = tells.begun; closed = tells.closed; sent = here; given = tells.given })
  where
    here : (r : List Part) (c d : ℕ) (o : Option Bool) → k'.sent r c d o ≡ (with_signal a b v k).sent r c d o
    here [] c d o = tells.sent [] c d o
    here (s ∷ r) c d o = tells.sent (s ∷ r) c d o
signal_learnt (q ∷ p) a b v k k' tells =
    below_learnt (with_signal a b v) q p k k'
    (record {
      most = tells.most;
      begun = (tells.begun [], λ s r other. tells.begun (s ∷ r));
      closed = (tells.closed [], λ s r other. tells.closed (s ∷ r));
      sent = (tells.sent [], λ s r c d o other. rw other at (tells.sent (s ∷ r) c d o));
      given = (tells.given [], λ s r other. tells.given (s ∷ r));
    })
    (signal_learnt p a b v (at q k) (at q k')
    (record {
      most = tells.most;
      begun = λ r. tells.begun (q ∷ r);
      closed = λ r. tells.closed (q ∷ r);
      sent = λ r c d o. rw (part_itself q) at (tells.sent (q ∷ r) c d o);
      given = λ r. tells.given (q ∷ r);
    }))

-- only what is closed differs, at a part of the path
pub record TellsEnd (p : List Part) (last : Part) (k k' : Known) : Type 0 where
  pub most : k'.most ≡ k.most
  pub begun : (r : List Part) → k'.begun r ≡ k.begun r
  pub closed : (r : List Part) → k'.closed r ≡ (same_parts (p ++ last ∷ []) r || k.closed r)
  pub sent : (r : List Part) (a b : ℕ) (o : Option Bool) → k'.sent r a b o ≡ k.sent r a b o
  pub given : (r : List Part) → k'.given r ≡ k.given r

-- then the scope of the path learns that the attempt has told its end
pub end_learnt : (p : List Part) (last : Part) (k k' : Known) → TellsEnd p last k k' → k' ≡ learnt (with_end last) p k
end_learnt [] last k k' tells =
    one_known (with_end last k) k' (record { most = tells.most; begun = tells.begun; closed = here; sent = tells.sent; given = tells.given })
  where
    by : (b x : Bool) → ((b && true) || x) ≡ (if b then true else x)
    by true x = refl
    by false x = refl

    not_both : (b x : Bool) → ((b && false) || x) ≡ x
    not_both true x = refl
    not_both false x = refl

    here : (r : List Part) → k'.closed r ≡ closed_here last k.closed r
    here [] = tells.closed []
    here (s ∷ []) = tells.closed (s ∷ []) ∙ by (same_part last s) (k.closed (s ∷ []))
    here (s ∷ (u ∷ r)) = tells.closed (s ∷ (u ∷ r)) ∙ not_both (same_part last s) (k.closed (s ∷ (u ∷ r)))
end_learnt (q ∷ p) last k k' tells =
    below_learnt (with_end last) q p k k'
    (record {
      most = tells.most;
      begun = (tells.begun [], λ s r other. tells.begun (s ∷ r));
      closed = (tells.closed [], λ s r other. rw other at (tells.closed (s ∷ r)));
      sent = (tells.sent [], λ s r a b o other. tells.sent (s ∷ r) a b o);
      given = (tells.given [], λ s r other. tells.given (s ∷ r));
    })
    (end_learnt p last (at q k) (at q k')
    (record {
      most = tells.most;
      begun = λ r. tells.begun (q ∷ r);
      closed = λ r. rw (part_itself q) at (tells.closed (q ∷ r));
      sent = λ r. tells.sent (q ∷ r);
      given = λ r. tells.given (q ∷ r);
    }))

-- only what is given differs, at a part of the path
pub record TellsOutput (p : List Part) (last : Part) (out : Container) (k k' : Known) : Type 0 where
  pub most : k'.most ≡ k.most
  pub begun : (r : List Part) → k'.begun r ≡ k.begun r
  pub closed : (r : List Part) → k'.closed r ≡ k.closed r
  pub sent : (r : List Part) (a b : ℕ) (o : Option Bool) → k'.sent r a b o ≡ k.sent r a b o
  pub given : (r : List Part) → k'.given r ≡ (if same_parts (p ++ last ∷ []) r then Some out else k.given r)

-- then the scope of the path learns what was given for the item
pub output_learnt : (p : List Part) (last : Part) (out : Container) (k k' : Known) → TellsOutput p last out k k' → k' ≡ learnt (with_output last out) p k
output_learnt [] last out k k' tells =
    one_known (with_output last out k) k' (record { most = tells.most; begun = tells.begun; closed = tells.closed; sent = tells.sent; given = here })
  where
    by : (b : Bool) (x : Option Container) → (if b && true then Some out else x) ≡ (if b then Some out else x)
    by true x = refl
    by false x = refl

    not_both : (b : Bool) (x : Option Container) → (if b && false then Some out else x) ≡ x
    not_both true x = refl
    not_both false x = refl

    here : (r : List Part) → k'.given r ≡ given_here last out k.given r
    here [] = tells.given []
    here (s ∷ []) = tells.given (s ∷ []) ∙ by (same_part last s) (k.given (s ∷ []))
    here (s ∷ (u ∷ r)) = tells.given (s ∷ (u ∷ r)) ∙ not_both (same_part last s) (k.given (s ∷ (u ∷ r)))
output_learnt (q ∷ p) last out k k' tells =
    below_learnt (with_output last out) q p k k'
    (record {
      most = tells.most;
      begun = (tells.begun [], λ s r other. tells.begun (s ∷ r));
      closed = (tells.closed [], λ s r other. tells.closed (s ∷ r));
      sent = (tells.sent [], λ s r a b o other. tells.sent (s ∷ r) a b o);
      given = (tells.given [], λ s r other. rw other at (tells.given (s ∷ r)));
    })
    (output_learnt p last out (at q k) (at q k')
    (record {
      most = tells.most;
      begun = λ r. tells.begun (q ∷ r);
      closed = λ r. tells.closed (q ∷ r);
      sent = λ r. tells.sent (q ∷ r);
      given = λ r. rw (part_itself q) at (tells.given (q ∷ r));
    }))
