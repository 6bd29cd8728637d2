-- Messages that stand in queues where their notes do, through what is put and taken.
use Rattle.std.proofs.Common.{◌≡◌, ℕ, suc, ◌==◌, Bool, true, false, if◌then◌else◌, List, [], ◌∷◌, ◌++◌, map, drop, Option, Some, None, refl, ap, sym, ◌∙◌}
use Rattle.std.proofs.lemmas.List.{map-append}
use Rattle.std.specs.Prelude.{slice_get}
use Rattle.std.specs.List.{filter}
use Rattle.flow_model.specs.declared.instances.Message.{Message}
use Rattle.view_laws.specs.Messages.{Note}
use Rattle.view_laws.specs.Queues.{first}

module _ (note_of : Message → Option Note) where
  -- messages stand where these notes do
  abbrev pub Stand : List Message → List Note → Type 0
  Stand ms ns = map note_of ms ≡ map Some ns

  -- the first of each, and the others
  heads : (m : Message) (n : Note) (ms : List Message) (ns : List Note) → Stand (m ∷ ms) (n ∷ ns) → (note_of m ≡ Some n) × Stand ms ns
  heads m n ms ns stand = (cc, cc)

  pub none_stand : (ns : List Note) → Stand [] ns → ns ≡ []
  none_stand [] stand = refl
  none_stand (n ∷ ns) stand = cc

  pub both_stand : (ms ms' : List Message) (ns ns' : List Note) → Stand ms ns → Stand ms' ns' → Stand (ms ++ ms') (ns ++ ns')
  both_stand ms ms' ns ns' stand stand' =
      map-append note_of ms ms' ∙ ap (λ l. l ++ map note_of ms') stand ∙ ap (λ l. map Some ns ++ l) stand' ∙ sym (map-append Some ns ns')

  -- the front of one is the front of the other
  pub front_stands : (ms : List Message) (ns : List Note) (m : Message) → Stand ms ns → slice_get ms 0 ≡ Some m → (n : Note) × (note_of m ≡ Some n) × (first ns ≡ Some n)
  front_stands [] ns m stand front = let never : None ≡ Some m = front in cc
  front_stands (u ∷ ms) [] m stand front = cc
  front_stands (u ∷ ms) (n ∷ ns) m stand front =
      let same : u ≡ m = cc in
      let both = heads u n ms ns stand in
      (n, ap note_of (sym same) ∙ both.0, refl)

  pub rest_stands : (ms : List Message) (ns : List Note) → Stand ms ns → Stand (drop 1 ms) (drop 1 ns)
  rest_stands [] [] stand = refl
  rest_stands [] (n ∷ ns) stand = cc
  rest_stands (m ∷ ms) [] stand = cc
  rest_stands (m ∷ ms) (n ∷ ns) stand = (heads m n ms ns stand).1

  -- where the front of one queue is taken
  pub taken_stand : (b : Bool) (ms : List Message) (ns : List Note) → Stand ms ns → Stand (if b then drop 1 ms else ms) (if b then drop 1 ns else ns)
  taken_stand true ms ns stand = rest_stands ms ns stand
  taken_stand false ms ns stand = stand

  -- each is put in its queue
  module _ (queue_of : Message → ℕ) (q : Note → ℕ) where
    pub put_stand : (k : ℕ) (ms : List Message) (ns : List Note) → ((j : ℕ) (m : Message) (n : Note) → slice_get ms j ≡ Some m → note_of m ≡ Some n → queue_of m ≡ q n)
        → Stand ms ns → Stand (filter (λ m. queue_of m == k) ms) (filter (λ n. q n == k) ns)
    put_stand k [] [] agrees stand = refl
    put_stand k [] (n ∷ ns) agrees stand = cc
    put_stand k (m ∷ ms) [] agrees stand = cc
    put_stand k (m ∷ ms) (n ∷ ns) agrees stand =
        let both = heads m n ms ns stand in
        go (q n == k) refl (agrees 0 m n refl both.0) both.0 (put_stand k ms ns (λ j. agrees (suc j)) both.1)
      where
        go : (b : Bool) → (q n == k) ≡ b → queue_of m ≡ q n → note_of m ≡ Some n → Stand (filter (λ m. queue_of m == k) ms) (filter (λ n. q n == k) ns)
            → Stand (filter (λ m. queue_of m == k) (m ∷ ms)) (filter (λ n. q n == k) (n ∷ ns))
        go true is same note rest = rw (same, is) (ap (λ o. o ∷ map note_of (filter (λ m. queue_of m == k) ms)) note ∙ ap (λ l. Some n ∷ l) rest)
        go false is same note rest = rw (same, is) rest
