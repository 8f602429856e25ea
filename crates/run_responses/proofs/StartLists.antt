-- Which starts a record has.
use Rattle.std.proofs.Common.{◌≡◌, ℕ, zero, suc, ◌+◌, ◌<◌, ◌≤◌, ◌⊎◌, ◌==◌, ◌&&◌, ◌||◌, ◌++◌, not, Bool, true, false, List, [], ◌∷◌, length, cond, get_or, refl, sym, ap, ◌∙◌, subst, arith, inl, inr}
use Rattle.std.proofs.lemmas.Bool.{cases_lt, eqb-true, true≢false}
use Rattle.std.proofs.lemmas.List.{get_or_past}
use Rattle.run_windows.specs.declared.costs.TaskCosts.{TaskCosts}
use Rattle.run_windows.specs.declared.costs.Services.{Services}
use Rattle.run_windows.specs.declared.costs.Costs.{Costs}
use Rattle.run_windows.specs.declared.costs.Start.{Start}
use Rattle.run_windows.specs.declared.costs.Start.TheVariants as start
use Rattle.run_windows.specs.Costs.{section, no_services, no_task}
use Rattle.run_windows.specs.Windows.{is_lower, is_boot}
use Rattle.run_windows.specs.declared.level.Way.{Way}
use Rattle.run_windows.specs.RunWindows.{is_joined, is_apart, may_serve, services_front, is_made_in_front, activation_front, setting_front, makes, made_start, start_if, start_at, lower_starts, task_starts, run_task_starts, run_starts}

-- ---- a start among others

-- the start is one of these
abbrev pub Has : List Start → Start → Type 0
Has ss s = (i : ℕ) × (i < length ss) × (start_at ss i ≡ s)

has_left : (s : Start) (xs ys : List Start) → Has xs s → Has (xs ++ ys) s
has_left s [] ys (i, lt, e) = absurd (omega (arith, lt))
has_left s (x ∷ xs) ys (zero, lt, e) = (0, omega arith, e)
has_left s (x ∷ xs) ys (suc i, lt, e) = let (k, less, is) = has_left s xs ys (i, omega (arith, lt), e) in (suc k, omega (arith, less), is)

has_right : (s : Start) (xs ys : List Start) → Has ys s → Has (xs ++ ys) s
has_right s [] ys h = h
has_right s (x ∷ xs) ys h = let (k, less, is) = has_right s xs ys h in (suc k, omega (arith, less), is)

has_if : (b : Bool) (s : Start) → b ≡ true → Has (start_if b s) s
has_if true s e = (0, omega arith, refl)
has_if false s e = cc

module _ (costs : Costs) (h : ℕ) where
  abbrev own_starts : ℕ → List Start
  own_starts j = task_starts costs h j

  in_tasks : (s : Start) (first j : ℕ) (ts : List TaskCosts) → j < length ts → Has (own_starts (first + j)) s → Has (run_task_starts costs h first ts) s
  in_tasks s first j [] lt has = absurd (omega (arith, lt))
  in_tasks s first zero (t ∷ ts) lt has =
      let e : first + 0 ≡ first = omega arith in
      has_left s (own_starts first) (run_task_starts costs h (first + 1) ts) (subst (λ k. Has (own_starts k) s) e has)
  in_tasks s first (suc j) (t ∷ ts) lt has =
      let e : first + suc j ≡ first + 1 + j = omega arith in
      has_right s (own_starts first) (run_task_starts costs h (first + 1) ts) (in_tasks s (first + 1) j ts (omega (arith, lt)) (subst (λ k. Has (own_starts k) s) e has))

  of_task : (s : Start) (j : ℕ) → j < length costs.tasks → Has (own_starts j) s → Has (run_starts costs h true) s
  of_task s j lt has =
      let e : j ≡ 0 + j = omega arith in
      has_right s (start.Free ∷ start.Boot ∷ []) (run_task_starts costs h 0 costs.tasks) (in_tasks s 0 j costs.tasks lt (subst (λ k. Has (own_starts k) s) e has))

  pub has_free : Has (run_starts costs h true) start.Free
  has_free = (0, omega arith, refl)

  pub has_boot : Has (run_starts costs h true) start.Boot
  has_boot = (1, omega arith, refl)

  some_front : (upper : Bool) (n : ℕ) → upper ≡ false → 0 < n → (not upper && not (n == 0)) ≡ true
  some_front true n is lt = cc
  some_front false n is lt = by (n == 0) refl
    where
      by : (b : Bool) → (n == 0) ≡ b → not b ≡ true
      by false e = refl
      by true e = let zero = eqb-true n 0 e in absurd (omega (arith, zero, lt))

  pub has_activation : (j : ℕ) → j < length costs.tasks → is_lower costs h j ≡ false → 0 < activation_front costs h j → Has (run_starts costs h true) (start.Activation j)
  has_activation j lt upper some =
      of_task (start.Activation j) j lt
      (has_left (start.Activation j) (made_start costs h j (activation_front costs h j) (start.Activation j))
      (made_start costs h j (setting_front costs h j) (start.Setting j) ++ lower_starts costs h j)
      (has_if (not (is_lower costs h j) && not (activation_front costs h j == 0)) (start.Activation j) (some_front (is_lower costs h j) (activation_front costs h j) upper some)))

  pub has_setting : (j : ℕ) → j < length costs.tasks → is_lower costs h j ≡ false → 0 < setting_front costs h j → Has (run_starts costs h true) (start.Setting j)
  has_setting j lt upper some =
      of_task (start.Setting j) j lt
      (has_right (start.Setting j) (made_start costs h j (activation_front costs h j) (start.Activation j))
      (made_start costs h j (setting_front costs h j) (start.Setting j) ++ lower_starts costs h j)
      (has_left (start.Setting j) (made_start costs h j (setting_front costs h j) (start.Setting j)) (lower_starts costs h j)
      (has_if (not (is_lower costs h j) && not (setting_front costs h j == 0)) (start.Setting j) (some_front (is_lower costs h j) (setting_front costs h j) upper some))))

  of_lower : (s : Start) (k : ℕ) → k < length costs.tasks → Has (lower_starts costs h k) s → Has (run_starts costs h true) s
  of_lower s k lt has =
      of_task s k lt
      (has_right s (made_start costs h k (activation_front costs h k) (start.Activation k)) (made_start costs h k (setting_front costs h k) (start.Setting k) ++ lower_starts costs h k)
      (has_right s (made_start costs h k (setting_front costs h k) (start.Setting k)) (lower_starts costs h k) has))

  pub has_section : (k : ℕ) → k < length costs.tasks → is_apart costs h k ≡ true → (section costs h k).exists ≡ true → Has (run_starts costs h true) (start.Section k)
  has_section k lt alone exists =
      of_lower (start.Section k) k lt
      (has_left (start.Section k) (start_if (is_apart costs h k && (section costs h k).exists) (start.Section k)) (start_if (is_joined costs h k) (start.Round k))
      (has_if (is_apart costs h k && (section costs h k).exists) (start.Section k) (ap (λ b. b && (section costs h k).exists) alone ∙ exists)))

  pub has_round : (k : ℕ) → k < length costs.tasks → is_joined costs h k ≡ true → Has (run_starts costs h true) (start.Round k)
  has_round k lt joined =
      of_lower (start.Round k) k lt
      (has_right (start.Round k) (start_if (is_apart costs h k && (section costs h k).exists) (start.Section k)) (start_if (is_joined costs h k) (start.Round k))
      (has_if (is_joined costs h k) (start.Round k) joined))

  -- where all starts but boot are within something, so is each of all starts that is not boot
  pub by_place : (boot : Bool) (P : Start → Type 0) → ((i : ℕ) → i < length (run_starts costs h boot) → P (start_at (run_starts costs h boot) i))
      → (i : ℕ) → (is_boot (start_at (run_starts costs h true) i) ≡ true → boot ≡ true) → P (start_at (run_starts costs h true) i)
  by_place true P each i may = by (cases_lt i (length (run_starts costs h true)))
    where
      by : (i < length (run_starts costs h true)) ⊎ (length (run_starts costs h true) ≤ i) → P (start_at (run_starts costs h true) i)
      by (inl lt) = each i lt
      by (inr le) = subst P (sym (get_or_past (run_starts costs h true) i start.Free le)) (each 0 (omega arith))
  by_place false P each zero may = each 0 (omega arith)
  by_place false P each (suc zero) may = absurd (true≢false (sym (may refl)))
  by_place false P each (suc (suc i)) may = by (cases_lt i (length (run_task_starts costs h 0 costs.tasks)))
    where
      by : (i < length (run_task_starts costs h 0 costs.tasks)) ⊎ (length (run_task_starts costs h 0 costs.tasks) ≤ i) → P (start_at (run_task_starts costs h 0 costs.tasks) i)
      by (inl lt) = each (suc i) (omega (arith, lt))
      by (inr le) = subst P (sym (get_or_past (run_task_starts costs h 0 costs.tasks) i start.Free le)) (each 0 (omega arith))

-- ---- what makes a task in front

module _ (w : Way) (costs : Costs) (h : ℕ) where
  made_at : (first k : ℕ) (ss : List Services) → k < length ss → may_serve costs h (first + k) ≡ true → makes w (get_or ss k no_services) ≡ true → is_made_in_front w costs h first ss ≡ true
  made_at first k [] lt may does = absurd (omega (arith, lt))
  made_at first zero (s ∷ ss) lt may does =
      let e : first + 0 ≡ first = omega arith in
      by (may_serve costs h first) (makes w s) (is_made_in_front w costs h (first + 1) ss) (subst (λ v. may_serve costs h v ≡ true) e may) does
    where
      by : (a b c : Bool) → a ≡ true → b ≡ true → ((a && b) || c) ≡ true
      by true true c e f = refl
      by true false c e f = cc
      by false b c e f = cc
  made_at first (suc k) (s ∷ ss) lt may does =
      let e : first + suc k ≡ first + 1 + k = omega arith in
      later (may_serve costs h first && makes w s) (is_made_in_front w costs h (first + 1) ss)
      (made_at (first + 1) k ss (omega (arith, lt)) (subst (λ v. may_serve costs h v ≡ true) e may) does)
    where
      later : (b c : Bool) → c ≡ true → (b || c) ≡ true
      later true c e = refl
      later false c e = e

  -- task k makes one Ready whose services these are
  pub made_here : (k : ℕ) (ss : List Services) → k < length ss → may_serve costs h k ≡ true → makes w (get_or ss k no_services) ≡ true → is_made_in_front w costs h 0 ss ≡ true
  made_here k ss lt may does = let e : k ≡ 0 + k = omega arith in made_at 0 k ss lt (subst (λ v. may_serve costs h v ≡ true) e may) does

-- ---- what it takes

module _ (costs : Costs) (h : ℕ) where
  service_at : (first k : ℕ) (ts : List TaskCosts) → k < length ts → may_serve costs h (first + k) ≡ true → (get_or ts k no_task).service ≤ services_front costs h first ts
  service_at first k [] lt may = absurd (omega (arith, lt))
  service_at first zero (t ∷ ts) lt may =
      let e : first + 0 ≡ first = omega arith in
      let here = ap (λ b. cond b t.service 0) (subst (λ v. may_serve costs h v ≡ true) e may) in
      omega (arith, here)
  service_at first (suc k) (t ∷ ts) lt may =
      let e : first + suc k ≡ first + 1 + k = omega arith in
      let le = service_at (first + 1) k ts (omega (arith, lt)) (subst (λ v. may_serve costs h v ≡ true) e may) in
      omega (arith, le)

  -- the services of task k are within the front
  pub service_here : (k : ℕ) → k < length costs.tasks → may_serve costs h k ≡ true → (get_or costs.tasks k no_task).service ≤ services_front costs h 0 costs.tasks
  service_here k lt may = let e : k ≡ 0 + k = omega arith in service_at 0 k costs.tasks lt (subst (λ v. may_serve costs h v ≡ true) e may)
