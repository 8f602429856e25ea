-- Whether some number below another passes a test.
use Rattle.std.proofs.Common.{◌≡◌, ℕ, zero, suc, ◌<◌, Bool, true, false, ◌||◌, ◌⊎◌, inl, inr, refl, sym, subst, arith, ⊎_elim}
use Rattle.std.proofs.lemmas.Bool.{cases_lt, or_cases, false≢true, true≢false}
use Rattle.call_graph.specs.Reached.{any_below}

-- one passes the test
pub any_is : (n : ℕ) (test : ℕ → Bool) → any_below n test ≡ true → (i : ℕ) × (i < n) × (test i ≡ true)
any_is zero test e = absurd (false≢true e)
any_is (suc n) test e = ⊎_elim
    (λ h. let f = any_is n test h in let lt = f.1 in (f.0, omega (arith, lt), f.2))
    (λ h. (n, omega arith, h))
    (or_cases (any_below n test) (test n) e)

both_false : (a b : Bool) → (a || b) ≡ false → (a ≡ false) × (b ≡ false)
both_false true b e = absurd (true≢false e)
both_false false b e = (refl, e)

last : (i n : ℕ) → i < suc n → (i < n) ⊎ (i ≡ n)
last i n lt = ⊎_elim inl (λ le. inr (omega (arith, lt, le))) (cases_lt i n)

-- none passes it
pub none_is : (n : ℕ) (test : ℕ → Bool) → any_below n test ≡ false → (i : ℕ) → i < n → test i ≡ false
none_is zero test e i lt = absurd (omega (arith, lt))
none_is (suc n) test e i lt =
    let f = both_false (any_below n test) (test n) e in
    ⊎_elim (λ less. none_is n test f.0 i less) (λ same. subst (λ v. test v ≡ false) (sym same) f.1) (last i n lt)
