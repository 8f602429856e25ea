-- The more counts a window has, and the more often tasks are made, the more comes within it.
use Rattle.std.proofs.Common.{◌≡◌, ℕ, ◌+◌, ◌-◌, ◌*◌, ◌/◌, ◌<◌, ◌≤◌, ◌⊎◌, inl, inr, Bool, true, false, cond, List, [], ◌∷◌, Option, Some, None, refl, sym, subst, arith}
use Rattle.std.specs.Prelude.{nat_lt, ◌==◌, unwrap_or}
use Rattle.std.proofs.Math.Nat.{div-zero, div-mul-le_self, mul-le-mul_right}
use Rattle.std.proofs.lemmas.Nat.{le-div}
use Rattle.std.proofs.lemmas.Bool.{cases_eq, ltb-true, ltb-false}
use Rattle.run_windows.specs.declared.costs.TaskCosts.{TaskCosts}
use Rattle.run_windows.specs.declared.costs.CounterCosts.{CounterCosts}
use Rattle.run_windows.specs.declared.costs.AlarmCosts.{AlarmCosts}
use Rattle.run_windows.specs.declared.costs.Makings.{Makings}
use Rattle.run_windows.specs.declared.costs.Costs.{Costs}
use Rattle.run_windows.specs.declared.costs.Window.{Window}
use Rattle.run_windows.specs.declared.costs.Made.{Made}
use Rattle.run_windows.specs.declared.costs.Rule.{Rule}
use Rattle.run_windows.specs.declared.costs.Rule.TheVariants as rule
use Rattle.run_windows.specs.Costs.{reckoned, task, makers}
use Rattle.run_windows.specs.Arrivals.{arrivals, booted_expiries, cyclic_expiries, expiries, acts_on, expiring, ticking, tick_counts}
use Rattle.run_windows.specs.Windows.{Numbers, rule_of, counted, is_boot, span_of, shared, of_makings, round_makings, activations, settings, made_within, round_counts, window_counts, IsAtMost}

-- ---- numbers

cond_more : (b : Bool) {a c x y : ℕ} → a ≤ c → x ≤ y → cond b a x ≤ cond b c y
cond_more true h k = h
cond_more false h k = k

div_more : (k : ℕ) {a b : ℕ} → a ≤ b → a / k ≤ b / k
div_more k {a} {b} h = by (cases_eq k 0)
  where
    by : (k ≡ 0) ⊎ (k ≡ 0 → ⊥) → a / k ≤ b / k
    by (inl e) =
        let P : ℕ → Type 0 = λ n. a / n ≤ b / n in
        let x = div-zero a in
        let y = div-zero b in
        let zeros : a / 0 ≤ b / 0 = omega (arith, x, y) in
        subst P (sym e) zeros
    by (inr n) =
        let pos : 0 < k = omega (arith, n) in
        let le = div-mul-le_self a k in
        le-div (a / k) b k pos (omega (arith, le, h))

-- ---- arrivals and expiries

pub arrivals_more : (distance : Option ℕ) {c d : ℕ} → c ≤ d → arrivals c distance ≤ arrivals d distance
arrivals_more None h = omega arith
arrivals_more (Some k) h = div_more k (omega (arith, h))

booted_more : (time cycle : ℕ) {t u : ℕ} → t ≤ u → booted_expiries time cycle t ≤ booted_expiries time cycle u
booted_more time cycle {t} {u} h = by (nat_lt t time) refl (nat_lt u time) refl
  where
    later : cond (cycle == 0) 1 (1 + (t - time) / cycle) ≤ cond (cycle == 0) 1 (1 + (u - time) / cycle)
    later =
        let le : (t - time) / cycle ≤ (u - time) / cycle = div_more cycle (omega (arith, h)) in
        cond_more (cycle == 0) (omega arith) (omega (arith, le))

    by : (b : Bool) → nat_lt t time ≡ b → (b' : Bool) → nat_lt u time ≡ b'
        → cond b 0 (cond (cycle == 0) 1 (1 + (t - time) / cycle)) ≤ cond b' 0 (cond (cycle == 0) 1 (1 + (u - time) / cycle))
    by true e b' e' = omega arith
    by false e false e' = later
    by false e true e' =
        let ge = ltb-false t time e in
        let lt = ltb-true u time e' in
        absurd (omega (arith, ge, lt, h))

cyclic_more : (cycle : ℕ) {t u : ℕ} → t ≤ u → cyclic_expiries cycle t ≤ cyclic_expiries cycle u
cyclic_more cycle h = cond_more (cycle == 0) (omega (arith, h)) (arrivals_more (Some cycle) h)

pub expiries_more : (boot : Bool) (a : AlarmCosts) {t u : ℕ} → t ≤ u → expiries boot a t ≤ expiries boot a u
expiries_more boot a h =
    cond_more a.is_set h (cond_more (a.time == 0) (omega arith) (cond_more boot (booted_more a.time a.cycle h) (cyclic_more a.cycle h)))

expiring_more : (boot sets : Bool) (c j : ℕ) (alarms : List AlarmCosts) {t u : ℕ} → t ≤ u → expiring boot sets c j t alarms ≤ expiring boot sets c j u alarms
expiring_more boot sets c j [] h = omega arith
expiring_more boot sets c j (a ∷ alarms) {t} {u} h =
    let here : cond (acts_on sets c j a) (expiries boot a t) 0 ≤ cond (acts_on sets c j a) (expiries boot a u) 0 =
    cond_more (acts_on sets c j a) (expiries_more boot a h) (omega arith) in
    let rest = expiring_more boot sets c j alarms h in
    omega (arith, here, rest)

pub ticking_more : (boot sets : Bool) (j : ℕ) (alarms : List AlarmCosts) (c : ℕ) (counters : List CounterCosts) {t u : ℕ} → t ≤ u
    → ticking boot sets j t alarms c counters ≤ ticking boot sets j u alarms c counters
ticking_more boot sets j alarms c [] h = omega arith
ticking_more boot sets j alarms c (counter ∷ counters) {t} {u} h =
    let ticks : arrivals t counter.distance ≤ arrivals u counter.distance = arrivals_more counter.distance h in
    let made = expiring_more boot sets c j alarms ticks in
    let rest = ticking_more boot sets j alarms (c + 1) counters h in
    omega (arith, ticks, made, rest)

pub tick_counts_more : (counters : List CounterCosts) {t u : ℕ} → t ≤ u → tick_counts t counters ≤ tick_counts u counters
tick_counts_more [] h = omega arith
tick_counts_more (counter ∷ counters) {t} {u} h =
    let here : arrivals t counter.distance * counter.tick ≤ arrivals u counter.distance * counter.tick =
    mul-le-mul_right counter.tick (arrivals_more counter.distance h) in
    let rest = tick_counts_more counters h in
    omega (arith, here, rest)

-- ---- rounds

-- more is made of each task
abbrev pub AreAtMost : Numbers → Numbers → Type 0
AreAtMost n m = (k : ℕ) → IsAtMost (n k) (m k)

shared_more : (n m : Made) (first next : Option ℕ) → IsAtMost n m → shared n first next ≤ shared m first next
shared_more n m first next h =
    let a : n.activations * reckoned first ≤ m.activations * reckoned first = mul-le-mul_right (reckoned first) h.activations in
    let s : n.settings * reckoned next ≤ m.settings * reckoned next = mul-le-mul_right (reckoned next) h.settings in
    omega (arith, a, s)

round_makings_more : (sets : Bool) (n m : Numbers) → AreAtMost n m → (k : ℕ) (ms : List Makings) → round_makings sets n k ms ≤ round_makings sets m k ms
round_makings_more sets n m h k [] = omega arith
round_makings_more sets n m h k (x ∷ ms) =
    let here : of_makings sets (n k) x ≤ of_makings sets (m k) x =
    cond_more sets (shared_more (n k) (m k) x.first_settings x.next_settings (h k)) (shared_more (n k) (m k) x.first_activations x.next_activations (h k)) in
    let rest = round_makings_more sets n m h (k + 1) ms in
    omega (arith, here, rest)

round_counts_more : (n m : Numbers) → AreAtMost n m → (k : ℕ) (ts : List TaskCosts) → round_counts n k ts ≤ round_counts m k ts
round_counts_more n m h k [] = omega arith
round_counts_more n m h k (t ∷ ts) =
    let here = shared_more (n k) (m k) t.first t.next (h k) in
    let rest = round_counts_more n m h (k + 1) ts in
    omega (arith, here, rest)

-- ---- windows

pub span_more : (w : Window) {c d : ℕ} → c ≤ d → span_of w c ≤ span_of w d
span_more w {c} {d} h = by w.span
  where
    by : (o : Option ℕ) → unwrap_or o c ≤ unwrap_or o d
    by None = h
    by (Some x) = omega arith

pub counted_more : (r : Rule) {a b s t : ℕ} → a ≤ b → s ≤ t → IsAtMost (counted r a s) (counted r b t)
counted_more rule.Out h k = record { activations = omega arith; settings = omega arith }
counted_more rule.Settings h k = record { activations = omega arith; settings = k }
counted_more rule.Each h k = record { activations = h; settings = k }
counted_more rule.Once h k = record { activations = omega (arith, h, k); settings = omega arith }

module _ (costs : Costs) (w : Window) (n m : Numbers) (c d : ℕ) (h : AreAtMost n m) (more : c ≤ d) where
  activations_more : (j : ℕ) → activations costs w n c j ≤ activations costs w m d j
  activations_more j =
      let a = arrivals_more (task costs j).distance (span_more w more) in
      let t = ticking_more (is_boot w.start) false j costs.alarms 0 costs.counters (span_more w more) in
      let r = round_makings_more false n m h 0 (makers costs j) in
      omega (arith, a, t, r)

  settings_more : (j : ℕ) → settings costs w n c j ≤ settings costs w m d j
  settings_more j =
      let t = ticking_more (is_boot w.start) true j costs.alarms 0 costs.counters (span_more w more) in
      let r = round_makings_more true n m h 0 (makers costs j) in
      omega (arith, t, r)

  pub made_more : (j : ℕ) → IsAtMost (made_within costs w n c j) (made_within costs w m d j)
  made_more j = counted_more (rule_of costs w j) (activations_more j) (settings_more j)

  pub window_more : window_counts costs w n c ≤ window_counts costs w m d
  window_more =
      let r = round_counts_more n m h 0 costs.tasks in
      let t = tick_counts_more costs.counters (span_more w more) in
      omega (arith, r, t)
