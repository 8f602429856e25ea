-- Sums over stages, and over tasks and counters.
use Rattle.std.specs.Prelude.{ℕ, zero, suc, ◌+◌, List, Bool, cond, leb, length}
use Rattle.sloth_base.specs.declared.config.Config.{Config}
use Rattle.osek_scheduler.specs.Apart.{static_priority}
use Rattle.run_counts.specs.Stages.{Stage}
use Rattle.run_counts.specs.Rounds.{total}

-- the sum of a number for each stage that passes a test
abbrev pub total_where : (Stage → Bool) → (Stage → ℕ) → List Stage → ℕ
total_where test f xs = total (λ x. cond (test x) (f x) 0) xs

-- how many stages pass a test
abbrev pub count : (Stage → Bool) → List Stage → ℕ
count test xs = total (λ x. cond (test x) 1 0) xs

-- the sum of a number for each number below n
abbrev pub sum_below : ℕ → (ℕ → ℕ) → ℕ
sum_below zero f = 0
sum_below (suc n) f = f n + sum_below n f

-- the static priority of task t is at least that of task h
abbrev pub is_over : Config → (h t : ℕ) → Bool
is_over config h t = leb (static_priority config h) (static_priority config t)

-- the sum of a number for each task of at least the static priority of task h
abbrev pub sum_over : Config → (h : ℕ) → (ℕ → ℕ) → ℕ
sum_over config h f = sum_below (length config.tasks) (λ t. cond (is_over config h t) (f t) 0)

-- the sum of a number for each counter
abbrev pub sum_counters : Config → (ℕ → ℕ) → ℕ
sum_counters config f = sum_below (length config.counters) f
