-- Each event counts as an admission, a tick, an entry, a part of a turn, or as another one.
use Rattle.std.proofs.Common.{◌≡◌, ℕ, ◌+◌, ◌<◌, ◌≤◌, ◌⊎◌, ◌==◌, List, [], ◌∷◌, true, false, not, cond, length, refl, ap, arith, inl, inr}
use Rattle.std.specs.List.{AllByRecursion}
use Rattle.std.proofs.lemmas.Bool.{cases_Bool, eq-eqb}
use Rattle.sloth_base.specs.Options.{is_number}
use Rattle.sloth_base.specs.declared.config.Config.{Config}
use Rattle.sloth_base.specs.declared.app.App.{App}
use Rattle.sloth_base.specs.declared.service.Event.{Event}
use Rattle.sloth_base.specs.declared.service.Event.TheVariants as event
use Rattle.osek_scheduler.specs.State.{System}
use Rattle.osek_scheduler.specs.Steps.{OsekStep}
use Rattle.osek_scheduler.specs.InTime.{is_admit}
use Rattle.sloth_base.specs.Events.{admitted_line}
use Rattle.std.specs.Prelude.{is_some}
use Rattle.run_counts.specs.Stages.{is_entry}
use Rattle.run_counts.specs.Stages.{Stage}
use Rattle.run_counts.specs.Rounds.{total}
use Rattle.response_laws.specs.Sums.{total_where, is_over, sum_over, sum_counters}
use Rattle.run_counts.specs.Stages.{turn_task}
use Rattle.response_laws.specs.Turns.{ticking_counter, in_turn, at_entry, at_tick, is_other_event, is_other}
use Rattle.response_laws.proofs.Sums.{sum_below-term, sum_below-join, sum_over-term, sum_over-join}

-- the task or the counter of the event is there
abbrev pub IsDeclared : Config → Event → Type 0
IsDeclared config (event.Enter t) = t < length config.tasks
IsDeclared config (event.Run t func item result) = t < length config.tasks
IsDeclared config (event.Call t served status) = t < length config.tasks
IsDeclared config (event.Left t served) = t < length config.tasks
IsDeclared config (event.Back t) = t < length config.tasks
IsDeclared config (event.Tick c) = c < length config.counters
IsDeclared config _ = Unit {0}

pub declared_by_step : (config : Config) (app : App) (e : Event) (s next : System) → OsekStep config app e s next → IsDeclared config e
declared_by_step config app (event.Enter t) s next h = h.1.declared
declared_by_step config app (event.Run t func item result) s next h = h.1.top.declared
declared_by_step config app (event.Call t served status) s next h = h.1.1.top.declared
declared_by_step config app (event.Left t served) s next h = h.1.1.top.declared
declared_by_step config app (event.Back t) s next h = h.1.declared
declared_by_step config app (event.Tick c) s next h = h.1.declared
declared_by_step config app e s next h = tt

module _ (config : Config) (h : ℕ) where
  -- what a number of an event is at most, by what the event is
  abbrev parts : Event → (v : ℕ) → ℕ
  parts e v =
      cond (is_other_event config h e) v 0 + cond (is_some (admitted_line e)) v 0
      + sum_counters config (λ c. cond (is_number c (ticking_counter e)) v 0)
      + sum_over config h (λ k. cond (is_entry k e) v 0 + cond (is_number k (turn_task e)) v 0)

  -- the share of a task that is there
  shared : (t v rest : ℕ) (f : ℕ → ℕ) → t < length config.tasks → v ≤ f t → v ≤ cond (not (is_over config h t)) v 0 + rest + sum_over config h f
  shared t v rest f lt le = by (cases_Bool (is_over config h t))
    where
      by : (is_over config h t ≡ true) ⊎ (is_over config h t ≡ false) → v ≤ cond (not (is_over config h t)) v 0 + rest + sum_over config h f
      by (inl over) = let term = sum_over-term config h f t lt over in omega (arith, term, le)
      by (inr below) = let here = ap {B = ℕ} (λ b. cond (not b) v 0) below in omega (arith, here)

  entered : (t v more : ℕ) → v ≤ cond (t == t) v 0 + more
  entered t v more = let here = ap {B = ℕ} (λ b. cond b v 0) (eq-eqb t t refl) in omega (arith, here)

  turned : (t v more : ℕ) → v ≤ more + cond (t == t) v 0
  turned t v more = let here = ap {B = ℕ} (λ b. cond b v 0) (eq-eqb t t refl) in omega (arith, here)

  pub attributed : (e : Event) (v : ℕ) → IsDeclared config e → v ≤ parts e v
  attributed (event.Tick c) v d =
      let term = sum_below-term (length config.counters) (λ k. cond (c == k) v 0) c d in
      let here = ap {B = ℕ} (λ b. cond b v 0) (eq-eqb c c refl) in
      omega (arith, term, here)
  attributed (event.Enter t) v d =
      let le = shared t v (0 + sum_counters config (λ c. 0)) (λ k. cond (t == k) v 0 + 0) d (entered t v 0) in omega (arith, le)
  attributed (event.Run t func item result) v d =
      let le = shared t v (0 + sum_counters config (λ c. 0)) (λ k. 0 + cond (t == k) v 0) d (turned t v 0) in omega (arith, le)
  attributed (event.Call t served status) v d =
      let le = shared t v (0 + sum_counters config (λ c. 0)) (λ k. 0 + cond (t == k) v 0) d (turned t v 0) in omega (arith, le)
  attributed (event.Left t served) v d =
      let le = shared t v (0 + sum_counters config (λ c. 0)) (λ k. 0 + cond (t == k) v 0) d (turned t v 0) in omega (arith, le)
  attributed (event.Back t) v d =
      let le = shared t v (0 + sum_counters config (λ c. 0)) (λ k. 0 + cond (t == k) v 0) d (turned t v 0) in omega (arith, le)
  attributed e v d = omega arith

  -- the same of the stages of a list
  abbrev all_parts : (Stage → ℕ) → List Stage → ℕ
  all_parts f xs =
      total_where (is_other config h) f xs + total_where (λ x. is_admit x.stamped) f xs + sum_counters config (λ c. total_where (at_tick c) f xs)
      + sum_over config h (λ k. total_where (at_entry k) f xs + total_where (in_turn k) f xs)

  pub all_attributed : (f : Stage → ℕ) (xs : List Stage) → AllByRecursion (λ x. IsDeclared config x.stamped.event) xs → total f xs ≤ all_parts f xs
  all_attributed f [] each = omega arith
  all_attributed f (x ∷ xs) each =
      let here = attributed x.stamped.event (f x) each.0 in
      let rest = all_attributed f xs each.1 in
      let ticks = sum_below-join (length config.counters) (λ c. cond (at_tick c x) (f x) 0) (λ c. total_where (at_tick c) f xs)
      (λ c. total_where (at_tick c) f (x ∷ xs)) (λ c. omega arith) in
      let turns = sum_over-join config h (λ k. cond (at_entry k x) (f x) 0 + cond (in_turn k x) (f x) 0)
      (λ k. total_where (at_entry k) f xs + total_where (in_turn k) f xs)
      (λ k. total_where (at_entry k) f (x ∷ xs) + total_where (in_turn k) f (x ∷ xs)) (λ k. omega arith) in
      omega (arith, here, rest, ticks, turns)
