-- Lists that grow by one entry, each as it is said of its number.
use Rattle.std.proofs.Common.{◌≡◌, ℕ, ◌+◌, List, [], ◌∷◌, ◌++◌, subst}
use Rattle.call_graph.proofs.Growing.{held_more}
use Rattle.run_costs.specs.CostsOf.{AreEach}

pub each_more : (X : Type 0) (Is : ℕ → X → Type 0) (old new : List X) (x d : X) (n : ℕ) → AreEach n d Is old → new ≡ old ++ x ∷ [] → Is n x → AreEach (n + 1) d Is new
each_more X Is old new x d n are e is = let h = held_more X Is old new x d n are.count are.each e is in record { count = h.count; each = h.each }

pub each_of : (X : Type 0) (Is : ℕ → X → Type 0) (list : List X) (d : X) (n m : ℕ) → n ≡ m → AreEach n d Is list → AreEach m d Is list
each_of X Is list d n m e are = subst (λ k. AreEach k d Is list) e are
