-- Starts of the windows of a task are of tasks.
use Rattle.std.proofs.Common.{◌≡◌, ℕ, zero, suc, ◌+◌, ◌<◌, ◌==◌, ◌&&◌, Bool, true, false, not, List, [], ◌∷◌, ◌++◌, length, sym, subst, arith}
use Rattle.run_windows.specs.declared.costs.TaskCosts.{TaskCosts}
use Rattle.run_windows.specs.declared.costs.Costs.{Costs}
use Rattle.run_windows.specs.declared.costs.Start.{Start}
use Rattle.run_windows.specs.declared.costs.Start.TheVariants as start
use Rattle.run_windows.specs.declared.costs.Longest.{Longest}
use Rattle.run_windows.specs.Costs.{section}
use Rattle.run_windows.specs.Windows.{is_lower}
use Rattle.run_windows.specs.RunWindows.{is_joined, is_apart, activation_front, setting_front, start_if, start_at, made_start, lower_starts, task_starts, run_task_starts, run_starts}
use Rattle.run_windows.specs.Longest.{IsFirstWindow}
use Rattle.response_reasons.specs.Calls.{StartsInside}

-- all of these starts, with what stands behind the last one
abbrev AreInside : (n : ℕ) → List Start → Type 0
AreInside n ss = (i : ℕ) → StartsInside n (start_at ss i)

none_inside : (n : ℕ) → AreInside n []
none_inside n zero = tt
none_inside n (suc i) = tt

both_inside : (n : ℕ) (xs ys : List Start) → AreInside n xs → AreInside n ys → AreInside n (xs ++ ys)
both_inside n [] ys p q i = q i
both_inside n (x ∷ xs) ys p q zero = p zero
both_inside n (x ∷ xs) ys p q (suc i) = both_inside n xs ys (λ k. p (suc k)) q i

if_inside : (n : ℕ) (b : Bool) (s : Start) → StartsInside n s → AreInside n (start_if b s)
if_inside n true s h zero = h
if_inside n true s h (suc i) = none_inside n i
if_inside n false s h i = none_inside n i

module _ (costs : Costs) (h n : ℕ) where
  task_inside : (j : ℕ) → j < n → AreInside n (task_starts costs h j)
  task_inside j lt =
      both_inside n (made_start costs h j (activation_front costs h j) (start.Activation j))
      (made_start costs h j (setting_front costs h j) (start.Setting j) ++ lower_starts costs h j)
      (if_inside n (not (is_lower costs h j) && not (activation_front costs h j == 0)) (start.Activation j) lt)
      (both_inside n (made_start costs h j (setting_front costs h j) (start.Setting j)) (lower_starts costs h j)
      (if_inside n (not (is_lower costs h j) && not (setting_front costs h j == 0)) (start.Setting j) lt)
      (both_inside n (start_if (is_apart costs h j && (section costs h j).exists) (start.Section j)) (start_if (is_joined costs h j) (start.Round j))
      (if_inside n (is_apart costs h j && (section costs h j).exists) (start.Section j) lt) (if_inside n (is_joined costs h j) (start.Round j) lt)))

  tasks_inside : (j : ℕ) (ts : List TaskCosts) → j + length ts ≡ n → AreInside n (run_task_starts costs h j ts)
  tasks_inside j [] e = none_inside n
  tasks_inside j (t ∷ ts) e =
      both_inside n (task_starts costs h j) (run_task_starts costs h (j + 1) ts) (task_inside j (omega (arith, e))) (tasks_inside (j + 1) ts (omega (arith, e)))

starts_inside : (costs : Costs) (h : ℕ) (boot : Bool) → AreInside (length costs.tasks) (run_starts costs h boot)
starts_inside costs h boot zero = tt
starts_inside costs h boot (suc i) =
    both_inside (length costs.tasks) (start_if boot start.Boot) (run_task_starts costs h 0 costs.tasks) (if_inside (length costs.tasks) boot start.Boot tt)
    (tasks_inside costs h (length costs.tasks) 0 costs.tasks (omega arith)) i

-- so that of the first longest window is
pub first_inside : (longest late : ℕ) (costs : Costs) (h : ℕ) (boot : Bool) (n : ℕ) (l : Longest) → length costs.tasks ≡ n
    → IsFirstWindow longest late costs h (run_starts costs h boot) l → StartsInside n l.start
first_inside longest late costs h boot n l e first =
    subst (λ k. StartsInside k l.start) e (subst (StartsInside (length costs.tasks)) (sym first.is) (starts_inside costs h boot first.place))
