-- What a longest window tells: the least number; and one with something in it has a number.
use Rattle.std.proofs.Common.{◌≡◌, ◌∙◌, ◌⊎◌, inl, inr, ℕ, ◌<◌, Bool, true, false, not, length, Option, Some, None, sym, ap, arith}
use Rattle.std.specs.Prelude.{◌==◌}
use Rattle.std.proofs.lemmas.Bool.{cases_eq, eq-eqb, true≢false, false≢true, and_parts}
use Rattle.run_windows.specs.declared.costs.Longest.{Longest}
use Rattle.run_windows.specs.declared.costs.Costs.{Costs}
use Rattle.run_windows.specs.RunWindows.{run_starts, IsRunResponse}
use Rattle.run_windows.specs.Longest.{number_of, IsFirstWindow, IsLongest}
use Rattle.run_windows.specs.declared.costs.RunCosts.{RunCosts}
use Rattle.response_text.specs.Parts.{has_parts, IsNumbered, BeginsInside}
use Rattle.response_text.specs.TaskText.{same_number, shows_behind}
use Rattle.response_text.proofs.Inside.{first_inside}

-- its number is the one that is told
pub told_number : (longest late : ℕ) (costs : Costs) (t : ℕ) (boot : Bool) (l : Option Longest) → IsLongest longest late costs t boot l → IsRunResponse longest late costs t boot (number_of l)
told_number longest late costs t boot (Some l) is = is.0
told_number longest late costs t boot None is = is

pub some_number : (n : ℕ) → not (n == 0) ≡ true → 0 < n
some_number n e = by (cases_eq n 0)
  where
    by : (n ≡ 0) ⊎ (n ≡ 0 → ⊥) → 0 < n
    by (inl zero) = absurd (true≢false (sym e ∙ ap not (eq-eqb n 0 zero)))
    by (inr other) = omega (arith, other)

-- with something in it, it is the first window that has its number
pub first_of : (costs : RunCosts) (h : ℕ) (boot : Bool) (l : Longest) → IsLongest costs.longest costs.late costs.costs h boot (Some l) → 0 < l.number
    → IsFirstWindow costs.longest costs.late costs.costs h (run_starts costs.costs h boot) l
first_of costs h boot l (response, some) lt = by some
  where
    by : (l.number ≡ 0) ⊎ IsFirstWindow costs.longest costs.late costs.costs h (run_starts costs.costs h boot) l
        → IsFirstWindow costs.longest costs.late costs.costs h (run_starts costs.costs h boot) l
    by (inl zero) = absurd (let wrong : ⊥ = omega (arith, zero, lt) in wrong)
    by (inr first) = first

pub numbered : (costs : RunCosts) (h : ℕ) (boot : Bool) (l : Option Longest) → IsLongest costs.longest costs.late costs.costs h boot l → has_parts l ≡ true → IsNumbered costs h l
numbered costs h boot (Some l) longest e = let lt = some_number l.number e in ((first_of costs h boot l longest lt).number, lt)
numbered costs h boot None longest e = absurd (false≢true e)

pub begun_inside : (costs : RunCosts) (h : ℕ) (boot : Bool) (n : ℕ) (l : Option Longest) → length costs.costs.tasks ≡ n → IsLongest costs.longest costs.late costs.costs h boot l
    → has_parts l ≡ true → BeginsInside n l
begun_inside costs h boot n (Some l) count longest e =
    first_inside costs.longest costs.late costs.costs h boot n l count (first_of costs h boot l longest (some_number l.number e))
begun_inside costs h boot n None count longest e = tt

-- what is shown behind boot has something in it
pub shown_parts : (anywhere behind : Option Longest) → shows_behind anywhere behind ≡ true → has_parts behind ≡ true
shown_parts anywhere behind e = (and_parts (has_parts behind) (not (same_number (number_of anywhere) (number_of behind))) e).0
