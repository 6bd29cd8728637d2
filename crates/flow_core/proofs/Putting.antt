-- Messages are put in turn, and the number of queues stays.
use Rattle.std.proofs.Common.{◌≡◌, ℕ, zero, suc, ◌-◌, true, List, [], ◌∷◌, ◌++◌, length, refl, sym, ap, ◌∙◌}
use Rattle.std.proofs.lemmas.List.{length-set}
use Rattle.number_map.specs.Entries.{value_under}
use Rattle.std.specs.Prelude.{replicate, option_and_then, option_map}
use Rattle.flow_model.specs.ScopeContainers.{graph_of}
use Rattle.flow_model.specs.declared.instances.Message.{Message}
use Rattle.recover_queue.specs.Queues.{queue, with_queue, root_of, is_quiet}
use Rattle.flow_model.specs.declared.graphs.Library.{Library}
use Rattle.flow_core.specs.Answers.{instance_of}
use Rattle.flow_core.specs.Driving.{put_in, queue_in, queue_now, templates, graph_now}
use Rattle.flow_core.specs.declared.state.Core.{Core}

pub put_behind : (f : Message → ℕ) (xs ys : List Message) (qs : List (List Message)) → put_in f (xs ++ ys) qs ≡ put_in f ys (put_in f xs qs)
put_behind f [] ys qs = refl
put_behind f (x ∷ xs) ys qs = put_behind f xs ys (with_queue qs (f x) (queue qs (f x) ++ x ∷ []))

pub put_length : (f : Message → ℕ) (xs : List Message) (qs : List (List Message)) → length (put_in f xs qs) ≡ length qs
put_length f [] qs = refl
put_length f (x ∷ xs) qs = put_length f xs (with_queue qs (f x) (queue qs (f x) ++ x ∷ [])) ∙ length-set qs (f x - 1) (queue qs (f x) ++ x ∷ [])

-- two states with the same roots and library, and as many queues, put a message into the same queue
pub same_queue : (b c : Core) → b.live_roots ≡ c.live_roots → b.store ≡ c.store → length b.queues ≡ length c.queues → queue_now b ≡ queue_now c
same_queue b c roots store many =
    ap (λ (s : Library). λ m. queue_in s.templates (length b.queues) (option_and_then (λ i. graph_of s.templates i.template) (instance_of b (root_of m))) m) store
    ∙ ap (λ roots. λ m. queue_in (templates c) (length b.queues) (option_and_then (λ i. graph_of (templates c) i.template) (option_map (λ r. r.instance) (value_under (root_of m) roots))) m) roots
    ∙ ap (λ (n : ℕ). λ m. queue_in (templates c) n (graph_now c (root_of m)) m) many

-- what is put after something was put is put by the state before
pub put_next : (c b d : Core) (done : List Message) (m : Message) → b ≡ record c { queues = b.queues } → b.queues ≡ put_in (queue_now c) done c.queues
    → d ≡ record b { queues = d.queues } → d.queues ≡ put_in (queue_now b) (m ∷ []) b.queues
    → (d ≡ record c { queues = d.queues }) × (d.queues ≡ put_in (queue_now c) (done ++ m ∷ []) c.queues)
put_next c b d done m rest queues rest' queues' =
    let many : length b.queues ≡ length c.queues = ap length queues ∙ put_length (queue_now c) done c.queues in
    let same : queue_now b ≡ queue_now c = same_queue b c (ap (λ (k : Core). k.live_roots) rest) (ap (λ (k : Core). k.store) rest) many in (
      rest' ∙ ap (λ (k : Core). record k { queues = d.queues }) rest,
      queues' ∙ ap (λ (f : Message → ℕ). put_in f (m ∷ []) b.queues) same ∙ ap (put_in (queue_now c) (m ∷ [])) queues ∙ sym (put_behind (queue_now c) done (m ∷ []) c.queues),
    )

-- no message is queued in queues that are new
pub none_quiet : (n : ℕ) → is_quiet (replicate n []) ≡ true
none_quiet zero = refl
none_quiet (suc n) = none_quiet n
