-- Where a task has a number, no tick takes longer than from one arrival of its counter to the next; and the number of ticks has room for all of them.
use Rattle.std.proofs.Common.{◌≡◌, ℕ, zero, suc, ◌+◌, ◌-◌, ◌*◌, ◌/◌, ◌<◌, ◌≤◌, ◌⊎◌, List, [], ◌∷◌, true, max, get_or, length, ap, subst, arith, inl, inr, Option, Some, None, le-div_iff_mul-le}
use Rattle.std.proofs.Math.Nat.{le_of_mul-le-mul_left, le-max_left}
use Rattle.std.proofs.lemmas.Bool.{cases_eq, cases_lt}
use Rattle.sloth_base.specs.declared.config.Config.{Config}
use Rattle.sloth_base.specs.declared.app.App.{App}
use Rattle.sloth_base.specs.Owners.{counter_line}
use Rattle.code_lengths.specs.LongestPaths.{tick_path}
use Rattle.load_text.specs.declared.load_line.Entry.{Entry}
use Rattle.load_text.specs.Loads.{distance, filling, arrivals_within}
use Rattle.run_windows.specs.declared.costs.Costs.{Costs}
use Rattle.run_windows.specs.declared.costs.CounterCosts.{CounterCosts}
use Rattle.run_windows.specs.declared.costs.Start.TheVariants as start
use Rattle.run_windows.specs.Arrivals.{arrivals, tick_counts}
use Rattle.run_windows.specs.Windows.{Numbers, round_counts, IsSolution}
use Rattle.run_windows.specs.RunWindows.{margin, front_of, begun_item, run_window, AreRunBounds}
use Rattle.run_responses.specs.TickWindows.{greater_number, IsTickBound, IsTickNumber}
use Rattle.run_costs.specs.CostsOf.{no_counter}
use Rattle.run_costs.specs.RunCosts.{AreRunCosts}
use Rattle.response_laws.specs.Arrivals.{admission_window}
use Rattle.response_laws.specs.Ticking.{HasRoomForTicks}
use Rattle.response_laws.proofs.Sums.{one_more}
use Rattle.run_responses.proofs.Sums.{below_list, ticks_sum}
use Rattle.run_responses.proofs.Windows.{arrivals_same}

-- the ticks of one counter are among those of all
one_counter : (counts : ℕ) (cs : List CounterCosts) (c : ℕ) → c < length cs → arrivals counts (get_or cs c no_counter).distance * (get_or cs c no_counter).tick ≤ tick_counts counts cs
one_counter counts [] c lt = absurd (omega (arith, lt))
one_counter counts (k ∷ cs) zero lt = omega arith
one_counter counts (k ∷ cs) (suc c) lt = let rest = one_counter counts cs c (omega (arith, lt)) in omega (arith, rest)

-- so many distances fill the counts
fill : (counts d : ℕ) → 0 < d → counts ≤ arrivals counts (Some d) * d
fill counts d some = by (cases_lt (arrivals counts (Some d) * d) counts)
  where
    by : (arrivals counts (Some d) * d < counts) ⊎ (counts ≤ arrivals counts (Some d) * d) → counts ≤ arrivals counts (Some d) * d
    by (inr le) = le
    by (inl lt) =
        let more = one_more (arrivals counts (Some d)) d in
        let wrong : 1 + arrivals counts (Some d) ≤ (counts + d - 1) / d = (le-div_iff_mul-le some).1 (omega (arith, lt, more, some)) in
        absurd (omega (arith, wrong))

-- as often as something fits into counts that it fills
at_most : (times tick d counts : ℕ) → 0 < counts → counts ≤ times * d → times * tick ≤ counts → tick ≤ d
at_most times tick d counts some fills fits = le_of_mul-le-mul_left {m = tick} {n = d} {k = times} (omega (arith, fills, fits)) (by (cases_eq times 0))
  where
    by : (times ≡ 0) ⊎ (times ≡ 0 → ⊥) → 0 < times
    by (inr other) = omega (arith, other)
    by (inl none) = let zero = ap (λ m. m * d) none in absurd (omega (arith, some, fills, zero))

module _ (config : Config) (app : App) (load : List Entry) (longest late h r : ℕ) (costs : Costs) (are : AreRunCosts config app load costs) (item : 0 < longest)
    (bounds : AreRunBounds longest late costs h true r) (c d : ℕ) (inside : c < length config.counters) (is : distance load (counter_line c) ≡ Some d) (some : 0 < d) where
  -- a window and the counts that it has room for
  by_window : (n : Numbers) (counts : ℕ) → IsSolution costs (run_window longest late costs h true start.Free) n counts → tick_path config c ≤ d
  by_window n counts solves =
      let filled : margin longest late + (begun_item longest start.Free + front_of true costs h start.Free) + round_counts n 0 costs.tasks + tick_counts counts costs.counters ≤ counts = solves.filled in
      let own = one_counter counts costs.counters c (let count = are.counters.count in omega (arith, count, inside)) in
      let ticks : arrivals counts (distance load (counter_line c)) * tick_path config c ≤ tick_counts counts costs.counters =
      subst (λ (k : CounterCosts). arrivals counts k.distance * k.tick ≤ tick_counts counts costs.counters) (are.counters.each c inside) own in
      let all : arrivals counts (Some d) * tick_path config c ≤ tick_counts counts costs.counters =
      subst (λ o. arrivals counts o * tick_path config c ≤ tick_counts counts costs.counters) is ticks in
      at_most (arrivals counts (Some d)) (tick_path config c) d counts (omega (arith, item, filled)) (fill counts d some) (omega (arith, all, filled))

  pub tick_fits : tick_path config c ≤ d
  tick_fits = let (l, (n, counts, least, few, told), le) = bounds 0 (omega arith) true in by_window n counts least.solves

-- ---- the number of ticks

-- the number that is told has room for all ticks
module _ (config : Config) (app : App) (load : List Entry) (longest late : ℕ) (costs : Costs) (are : AreRunCosts config app load costs) where
  -- so many counts, the margin among them, have
  rooms : (l : ℕ) → margin longest late + (longest + 0) + tick_counts l costs.counters ≤ l → HasRoomForTicks config load longest late (l - margin longest late)
  rooms l filled =
      let e : admission_window late (longest + late) (l - margin longest late) ≡ l = omega (arith, filled) in
      let sum = below_list no_counter (λ c counter. arrivals l counter.distance * counter.tick)
      (λ c. arrivals_within load (admission_window late (longest + late) (l - margin longest late)) (counter_line c) * tick_path config c) (length config.counters) costs.counters
      are.counters.count
      (λ c lt.
      let window = ap (λ m. filling m (distance load (counter_line c)) * tick_path config c) e in
      let same = ap (λ m. m * tick_path config c) (arrivals_same l (distance load (counter_line c))) in
      let own = ap (λ (v : CounterCosts). arrivals l v.distance * v.tick) (are.counters.each c lt) in
      omega (arith, window, same, own)) in
      let all = ticks_sum l 0 costs.counters in
      omega (arith, sum, all, filled)

  pub room_for : (r : ℕ) → IsTickNumber longest late costs (Some r) → (counts : ℕ) × HasRoomForTicks config load longest late counts × (counts + late ≤ r)
  room_for r (opening, serving, one, other, is) = by opening serving one is
    where
      by : (o p : Option ℕ) → IsTickBound longest late costs true o → Some r ≡ greater_number longest late o p
          → (counts : ℕ) × HasRoomForTicks config load longest late counts × (counts + late ≤ r)
      by None p bound same = absurd (none r same)
        where
          none : (m : ℕ) → Some m ≡ None → ⊥
          none m e = cc
      by (Some l) None bound same = absurd (none r same)
        where
          none : (m : ℕ) → Some m ≡ None → ⊥
          none m e = cc
      by (Some l) (Some m) (n, counts, least, few, l_is) same =
          let filled : margin longest late + (longest + 0) + 0 + tick_counts counts costs.counters ≤ counts = least.solves.filled in
          let number : r ≡ max (l + late - margin longest late) (m + 0 - margin longest late) = told_is same in
          let first = le-max_left (l + late - margin longest late) (m + 0 - margin longest late) in
          let room = rooms counts (omega (arith, filled)) in
          (counts - margin longest late, room, omega (arith, number, first, l_is, filled))
        where
          told_is : {a b : ℕ} → Some a ≡ Some b → a ≡ b
          told_is e = cc
