-- Two pieces, one behind the other.
use Rattle.std.proofs.Common.{◌≡◌, ◌∙◌, List, ◌++◌, ap, append_assoc}

pub two_put : {X : Type 0} (old mid new p q : List X) → mid ≡ old ++ p → new ≡ mid ++ q → new ≡ old ++ (p ++ q)
two_put old mid new p q one two = two ∙ (ap (λ l. l ++ q) one ∙ append_assoc old p q)
