-- Numbers that are told.
use Rattle.std.proofs.Common.{◌≡◌, ℕ, ◌+◌, ◌<◌, Bool, true, false, cond, Option, Some, None, ap, subst, arith}
use Rattle.std.specs.Prelude.{nat_lt}
use Rattle.run_windows.specs.Costs.{greatest_sum, capped, reckoned}
use Rattle.run_windows.specs.RunWindows.{IsTold}
use Rattle.run_costs.specs.Rounds.{with_entry}

-- a told number is itself
pub told_number : (n : ℕ) (o : Option ℕ) → o ≡ Some n → IsTold o → reckoned o ≡ n
told_number n o is told =
    let same = ap reckoned is in
    let less : capped n < greatest_sum = subst IsTold is told in
    omega (arith, same, less)

-- what is endless is not told
pub none_told : (o : Option ℕ) → o ≡ None → IsTold o → ⊥
none_told o is told = let less : greatest_sum < greatest_sum = subst IsTold is told in omega (arith, less)

-- so is an entry with so many counts
pub told_entry : (entry own : ℕ) (o : Option ℕ) → o ≡ with_entry entry own → IsTold o → reckoned o ≡ entry + own
told_entry entry own o is told = by (nat_lt 4294967295 (entry + own)) is
  where
    by : (b : Bool) → o ≡ cond b None (Some (entry + own)) → reckoned o ≡ entry + own
    by true e = absurd (none_told o e told)
    by false e = told_number (entry + own) o e told
