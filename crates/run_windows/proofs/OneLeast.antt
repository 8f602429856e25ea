-- One number is the least of its kind.
use Rattle.std.proofs.Common.{◌≡◌, ℕ, Option, Some, None, refl, ap, arith}
use Rattle.run_windows.specs.RunWindows.{IsLeastOf}

pub one_least : (Kind : ℕ → Type 0) (r s : Option ℕ) → IsLeastOf Kind r → IsLeastOf Kind s → r ≡ s
one_least Kind (Some r) (Some s) a b =
    let p = a.1 s b.0 in
    let q = b.1 r a.0 in
    let same : r ≡ s = omega (arith, p, q) in
    ap Some same
one_least Kind (Some r) None a b = absurd (b r a.0)
one_least Kind None (Some s) a b = absurd (a s b.0)
one_least Kind None None a b = refl
