-- A scope is complete where each end that is kept of its activities is settled.
use Rattle.std.proofs.Common.{◌≡◌, ℕ, ◌+◌, ◌&&◌, List, [], ◌∷◌, ◌++◌, length, refl, ap, arith, append_assoc, length-append}
use Rattle.std.specs.Prelude.{unwrap_or}
use Rattle.std.specs.List.{list_all}
use Rattle.dead_paths.proofs.Places.{here}
use Rattle.flow_model.specs.Fates.{is_settled}
use Rattle.flow_model.specs.ScopeContainers.{is_complete, up_to}
use Rattle.flow_model.specs.declared.graphs.Graph.{Graph, out-Graph}
use Rattle.flow_model.specs.declared.instances.SourceEnd.{SourceEnd}
use Rattle.flow_model.specs.declared.instances.SourceEnd.TheVariants.{Unsettled}
use Rattle.blocks_subprocs.specs.Ends.{ends_of}

settled_from : (before rest : List SourceEnd) (n : ℕ) → length before ≡ n
    → list_all (λ a. is_settled (ends_of (before ++ rest) a)) (up_to (length rest) n) ≡ list_all is_settled rest
settled_from before [] n long = refl
settled_from before (e ∷ rest) n long =
    let more = settled_from (before ++ e ∷ []) rest (n + 1) (omega (arith, length-append before (e ∷ []))) in
    let first : is_settled (ends_of (before ++ e ∷ rest) n) ≡ is_settled e = ap (λ o. is_settled (unwrap_or o Unsettled)) (here before e rest n long) in
    rw first (ap (λ b. is_settled e && b) (rw append_assoc at more))

pub complete_of : (g : Graph) (ends : List SourceEnd) → length ends ≡ length (out-Graph g).activities → is_complete g (ends_of ends) ≡ list_all is_settled ends
complete_of g ends long = rw (← long) (settled_from [] ends 0 refl)
