use Rattle.std.proofs.Common.{inl, inr, ◌≡◌, ◌≤◌, ◌+◌, ◌-◌, ℕ, suc, true, false, cond, List, [], ◌∷◌, length, take, drop, refl, sym, ◌∙◌, ap, arith, nat_lt, nat_le}
use Rattle.std.specs.Prelude.{◌&&◌}
use Rattle.std.specs.List.{prefix_len}
use Rattle.std.proofs.lemmas.Bool.Decides.{leb_tells}
use Rattle.std.proofs.lemmas.Bool.{le-ltb, lt-ltb, le-leb, lt-leb}
use Rattle.sloth_base.specs.declared.service.Arrival.{Arrival}
use Rattle.sloth_base.specs.Arrivals.{AreRisingMoments, moments}
use Rattle.observe.specs.Progress.{arrivals_from, arrivals_due, arrivals_behind, arrivals_within}

skips : (from to : ℕ) (arrival : Arrival) (arrivals : List Arrival) → nat_lt arrival.at to ≡ false → moments from to (arrival ∷ arrivals) ≡ moments from to arrivals
skips from to arrival arrivals off = rw off (elim (nat_le from arrival.at) as (λ b. cond (b && false) (arrival ∷ moments from to arrivals) (moments from to arrivals) ≡ moments from to arrivals) [ true ↦ refl | false ↦ refl ])

-- arrivals that begin later
pub moments-later : (before from to : ℕ) (arrivals : List Arrival) → AreRisingMoments before arrivals → to ≤ before → moments from to arrivals ≡ []
moments-later before from to [] up h = refl
moments-later before from to (arrival ∷ arrivals) up h =
    skips from to arrival arrivals (le-ltb arrival.at to (omega arith)) ∙ moments-later arrival.at from to arrivals up.1 (omega arith)

-- no moment lies between a number and itself
pub moments-none : (k : ℕ) (arrivals : List Arrival) → moments k k arrivals ≡ []
moments-none k [] = refl
moments-none k (arrival ∷ arrivals) = elim (leb_tells k arrival.at) [
  | inl late ↦ skips k k arrival arrivals (le-ltb arrival.at k late.1) ∙ moments-none k arrivals
  | inr early ↦ rw early.0 (moments-none k arrivals)
]

pub from-later : (before k : ℕ) (arrivals : List Arrival) → AreRisingMoments before arrivals → k ≤ before → arrivals_from k arrivals ≡ arrivals
from-later before k [] up h = refl
from-later before k (arrival ∷ arrivals) up h =
    let on : nat_le k arrival.at ≡ true = le-leb k arrival.at (omega arith) in
    rw on (ap (λ more. arrival ∷ more) (from-later arrival.at k arrivals up.1 (omega arith)))

take_one : (n : ℕ) (arrival : Arrival) (more : List Arrival) → take (1 + n) (arrival ∷ more) ≡ arrival ∷ take n more
take_one n arrival more = let e : 1 + n ≡ suc n = omega arith in rw e refl

drop_one : (n : ℕ) (arrival : Arrival) (more : List Arrival) → drop (length (take (1 + n) (arrival ∷ more))) (arrival ∷ more) ≡ drop (length (take n more)) more
drop_one n arrival more = let e : 1 + n ≡ suc n = omega arith in rw e refl

pub here-from : (before c : ℕ) (arrivals : List Arrival) → AreRisingMoments before arrivals → arrivals_due c (arrivals_from c arrivals) ≡ moments c (c + 1) arrivals
here-from before c [] up = refl
here-from before c (arrival ∷ arrivals) up = elim (leb_tells c arrival.at) [
  | inr early ↦ (rw early.0 (here-from arrival.at c arrivals up.1))
  | inl late ↦ elim (leb_tells arrival.at c) [
    | inl equal ↦ (let here-is : nat_lt arrival.at (c + 1) ≡ true = lt-ltb arrival.at (c + 1) (omega arith) in
        rw (late.0, equal.0, here-is) (take_one _ arrival _ ∙ ap (λ more. arrival ∷ more) (here-from arrival.at c arrivals up.1)))
    | inr later ↦ (let off : nat_lt arrival.at (c + 1) ≡ false = le-ltb arrival.at (c + 1) (omega arith) in
        rw (late.0, later.0, off) (sym (moments-later arrival.at c (c + 1) arrivals up.1 (omega arith))))
  ]
]

pub behind-from : (before c : ℕ) (arrivals : List Arrival) → AreRisingMoments before arrivals → arrivals_behind c (arrivals_from c arrivals) ≡ arrivals_from (c + 1) arrivals
behind-from before c [] up = refl
behind-from before c (arrival ∷ arrivals) up = elim (leb_tells c arrival.at) [
  | inr early ↦ (let off : nat_le (c + 1) arrival.at ≡ false = lt-leb (c + 1) arrival.at (omega arith) in
      rw (early.0, off) (behind-from arrival.at c arrivals up.1))
  | inl late ↦ elim (leb_tells arrival.at c) [
    | inl equal ↦ (let off : nat_le (c + 1) arrival.at ≡ false = lt-leb (c + 1) arrival.at (omega arith) in
        rw (late.0, equal.0, off) (drop_one (prefix_len (λ (x : Arrival). nat_le x.at c) (arrivals_from c arrivals)) arrival (arrivals_from c arrivals) ∙ behind-from arrival.at c arrivals up.1))
    | inr later ↦ (let on : nat_le (c + 1) arrival.at ≡ true = le-leb (c + 1) arrival.at (omega arith) in
        rw (late.0, later.0, on) (ap (λ more. arrival ∷ more) (from-later arrival.at c arrivals up.1 (omega arith) ∙ sym (from-later arrival.at (c + 1) arrivals up.1 (omega arith)))))
  ]
]

shorter : (b e : ℕ) (arrivals : List Arrival) → b ≤ e → length (arrivals_from e arrivals) ≤ length (arrivals_from b arrivals)
shorter b e [] h = omega arith
shorter b e (arrival ∷ arrivals) h = elim (leb_tells e arrival.at) [
  | inl late ↦ (let on : nat_le b arrival.at ≡ true = le-leb b arrival.at (omega arith) in
      let less : length (arrivals_from e arrivals) ≤ length (arrivals_from b arrivals) = shorter b e arrivals h in
      rw (late.0, on) (omega arith))
  | inr early ↦ elim (leb_tells b arrival.at) [
    | inl on ↦ (let less : length (arrivals_from e arrivals) ≤ length (arrivals_from b arrivals) = shorter b e arrivals h in rw (early.0, on.0) (omega arith))
    | inr off ↦ rw (early.0, off.0) (shorter b e arrivals h)
  ]
]

none_left : (n : ℕ) (arrival : Arrival) (more : List Arrival) → take (suc n - suc n) (arrival ∷ more) ≡ []
none_left n arrival more = let e : suc n - suc n ≡ 0 = omega arith in rw e refl

one_more : (n k : ℕ) (arrival : Arrival) (more : List Arrival) → k ≤ n → take (suc n - k) (arrival ∷ more) ≡ arrival ∷ take (n - k) more
one_more n k arrival more h = let e : suc n - k ≡ suc (n - k) = omega arith in rw e refl

pub within-from : (before b e : ℕ) (arrivals : List Arrival) → AreRisingMoments before arrivals → b ≤ e → arrivals_within (arrivals_from b arrivals) (arrivals_from e arrivals) ≡ moments b e arrivals
within-from before b e [] up h = refl
within-from before b e (arrival ∷ arrivals) up h = elim (leb_tells b arrival.at) [
  | inr early ↦ (let off : nat_le e arrival.at ≡ false = lt-leb e arrival.at (omega arith) in
      rw (early.0, off) (within-from arrival.at b e arrivals up.1 h))
  | inl on ↦ elim (leb_tells e arrival.at) [
    | inr inside ↦ (let here-is : nat_lt arrival.at e ≡ true = lt-ltb arrival.at e (omega arith) in
        rw (on.0, inside.0, here-is) (one_more (length (arrivals_from b arrivals)) (length (arrivals_from e arrivals)) arrival (arrivals_from b arrivals) (shorter b e arrivals h) ∙ ap (λ more. arrival ∷ more) (within-from arrival.at b e arrivals up.1 h)))
    | inl behind-it ↦ (let off : nat_lt arrival.at e ≡ false = le-ltb arrival.at e (omega arith) in
        let same : arrivals_from e arrivals ≡ arrivals_from b arrivals = from-later arrival.at e arrivals up.1 (omega arith) ∙ sym (from-later arrival.at b arrivals up.1 (omega arith)) in
        rw (on.0, behind-it.0, off, same) (none_left (length (arrivals_from b arrivals)) arrival (arrivals_from b arrivals) ∙ sym (moments-later arrival.at b e arrivals up.1 (omega arith))))
  ]
]
