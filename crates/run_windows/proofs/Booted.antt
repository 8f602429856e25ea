-- Behind boot an alarm expires as anywhere, but for its time.
use Rattle.std.proofs.Common.{◌≡◌, ◌∙◌, ℕ, ◌+◌, ◌-◌, ◌*◌, ◌/◌, ◌<◌, ◌≤◌, ◌⊎◌, inl, inr, min, Bool, true, false, cond, Some, refl, sym, ap, subst, arith}
use Rattle.std.specs.Prelude.{◌==◌, nat_lt}
use Rattle.std.proofs.Math.Nat.{add-div_right, div-mul-le_self, mul-le-mul_right}
use Rattle.std.proofs.lemmas.Bool.{cases_eq, ltb-true, ltb-false}
use Rattle.std.proofs.lemmas.Bool.Decides.{eqb_tells}
use Rattle.run_windows.specs.declared.costs.AlarmCosts.{AlarmCosts}
use Rattle.run_windows.specs.Arrivals.{arrivals, booted_expiries, cyclic_expiries, expiries}

-- less than a cycle has none
none_within : (cycle : ℕ) → 0 < cycle → (0 + cycle - 1) / cycle ≡ 0
none_within cycle some = by (cases_eq ((0 + cycle - 1) / cycle) 0)
  where
    by : ((0 + cycle - 1) / cycle ≡ 0) ⊎ ((0 + cycle - 1) / cycle ≡ 0 → ⊥) → (0 + cycle - 1) / cycle ≡ 0
    by (inl e) = e
    by (inr more) =
        let le : (0 + cycle - 1) / cycle * cycle ≤ 0 + cycle - 1 = div-mul-le_self (0 + cycle - 1) cycle in
        let one : 1 * cycle ≤ (0 + cycle - 1) / cycle * cycle = mul-le-mul_right cycle (omega (arith, more)) in
        absurd (omega (arith, le, one, some))

-- what is left of the ticks from the one before the first expiry on
booted_is : (time cycle ticks : ℕ) → 0 < time → booted_expiries time cycle ticks ≡ cyclic_expiries cycle (ticks - (time - 1))
booted_is time cycle ticks timed = by (nat_lt ticks time) refl (eqb_tells cycle 0)
  where
    Same : Bool → Bool → Type 0
    Same b c = cond b 0 (cond c 1 (1 + (ticks - time) / cycle)) ≡ cond c (min (ticks - (time - 1)) 1) (arrivals (ticks - (time - 1)) (Some cycle))

    by : (b : Bool) → nat_lt ticks time ≡ b → (((cycle == 0) ≡ true) × (cycle ≡ 0)) ⊎ (((cycle == 0) ≡ false) × (cycle ≡ 0 → ⊥)) → Same b (cycle == 0)
    by true e (inl (zero, is)) = let lt = ltb-true ticks time e in subst (Same true) (sym zero) (omega (arith, lt))
    by true e (inr (some, more)) =
        let lt = ltb-true ticks time e in
        let left : ticks - (time - 1) ≡ 0 = omega (arith, lt) in
        subst (Same true) (sym some) (sym (ap (λ (n : ℕ). arrivals n (Some cycle)) left ∙ none_within cycle (omega (arith, more))))
    by false e (inl (zero, is)) = let ge = ltb-false ticks time e in subst (Same false) (sym zero) (omega (arith, ge, timed))
    by false e (inr (some, more)) =
        let ge = ltb-false ticks time e in
        let left : ticks - (time - 1) + cycle - 1 ≡ ticks - time + cycle = omega (arith, ge, timed) in
        let one : (ticks - (time - 1) + cycle - 1) / cycle ≡ (ticks - time) / cycle + 1 =
        ap (λ (n : ℕ). n / cycle) left ∙ add-div_right (ticks - time) (omega (arith, more)) in
        subst (Same false) (sym some) (omega (arith, one))

pub booted_so : (boot : Bool) (a : AlarmCosts) (ticks behind told : ℕ) → boot ≡ true → a.is_set ≡ false → (a.time ≡ 0 → ⊥) → behind ≡ ticks - (a.time - 1) → told ≡ cyclic_expiries a.cycle behind
    → told ≡ expiries boot a ticks
booted_so boot a ticks behind told booted set timed left e =
    let P : Bool → Type 0 = λ b. told ≡ cond b ticks (cond (a.time == 0) 0 (cond boot (booted_expiries a.time a.cycle ticks) (cyclic_expiries a.cycle ticks))) in
    let R : Bool → Type 0 = λ b. told ≡ cond b (booted_expiries a.time a.cycle ticks) (cyclic_expiries a.cycle ticks) in
    subst P (sym set) (by (eqb_tells a.time 0) (subst R (sym booted) (e ∙ (ap (cyclic_expiries a.cycle) left ∙ sym (booted_is a.time a.cycle ticks (omega (arith, timed)))))))
  where
    Q : Bool → Type 0
    Q b = told ≡ cond b 0 (cond boot (booted_expiries a.time a.cycle ticks) (cyclic_expiries a.cycle ticks))

    by : (((a.time == 0) ≡ true) × (a.time ≡ 0)) ⊎ (((a.time == 0) ≡ false) × (a.time ≡ 0 → ⊥))
        → told ≡ cond boot (booted_expiries a.time a.cycle ticks) (cyclic_expiries a.cycle ticks) → Q (a.time == 0)
    by (inl (zero, is)) k = absurd (timed is)
    by (inr (some, more)) k = subst Q (sym some) k
