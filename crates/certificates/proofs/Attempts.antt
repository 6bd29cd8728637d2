-- What is asked of all attempts, once one of them is passed.
use Rattle.std.proofs.Common.{◌≡◌, ℕ, suc, ◌+◌, ◌-◌, ◌<◌, Bool, true, ◌&&◌, ap, ◌∙◌, arith}
use Rattle.std.specs.List.{list_all}
use Rattle.flow_model.specs.ScopeContainers.{up_to}

pub all_more : (f : ℕ → Bool) (n i : ℕ) → i < n → f i ≡ true → list_all f (up_to (n - i) i) ≡ list_all f (up_to (n - (i + 1)) (i + 1))
all_more f n i lt here =
    let e : n - i ≡ suc (n - (i + 1)) = omega arith in
    ap (λ m. list_all f (up_to m i)) e ∙ ap (λ (b : Bool). b && list_all f (up_to (n - (i + 1)) (i + 1))) here
