-- How a stretch behind boot begins, and what is the most that it may have.
use Rattle.std.proofs.Common.{◌≡◌, ◌≤◌, ◌<◌, ℕ, zero, suc, length, refl, sym, ap, subst, cond, arith, ⊎_elim, Option, Some, None}
use Rattle.std.proofs.lemmas.Bool.{ne_eqb, cases_eq}
use Rattle.std.proofs.Math.Nat.{le-max_left, le-max_right}
use Rattle.sloth_base.specs.declared.config.Config.{Config}
use Rattle.sloth_base.specs.declared.numbers.LineKind.{LineKind}
use Rattle.sloth_base.specs.declared.numbers.LineKind.TheVariants as line_of
use Rattle.sloth_base.specs.declared.numbers.Step.{Step}
use Rattle.sloth_base.specs.Owners.{first_counter_line, counter_line, line_kind, owners_in}
use Rattle.sloth_base.specs.Named.{alarms_of, greatest_value_below, most_alarms}
use Rattle.sloth_base.specs.Stretches.{Boots, Takes, beginning_of, later_beginning, stretch_limit, touch_limit, entry_limit, entry_touches, longest_stretch}
use Rattle.sloth_base.proofs.Owners.{kind_of_task, kind_of_counter, kind_tells}

pub begins_later : (first : Step) → 0 < first.count → beginning_of first ≡ later_beginning first.entered
begins_later first h = ap (λ b. cond b Boots (later_beginning first.entered)) (ne_eqb first.count 0 (λ e. omega arith))

-- ---- the greatest number of alarms

-- a value of a function is at most the greatest
pub at_most_greatest : (n : ℕ) (f : ℕ → ℕ) (k : ℕ) → k < n → f k ≤ greatest_value_below n f
at_most_greatest zero f k h = absurd (omega arith)
at_most_greatest (suc n) f k h =
    let left : f n ≤ greatest_value_below (suc n) f = le-max_left (f n) (greatest_value_below n f) in
    let right : greatest_value_below n f ≤ greatest_value_below (suc n) f = le-max_right (f n) (greatest_value_below n f) in
    ⊎_elim (λ (e : k ≡ n). subst (λ j. f j ≤ greatest_value_below (suc n) f) (sym e) left)
    (λ (e : k ≡ n → ⊥). let earlier = at_most_greatest n f k (omega arith) in omega (arith, earlier, right)) (cases_eq k n)

pub alarms_at_most : (config : Config) (c : ℕ) → c < length config.counters → alarms_of config c ≤ most_alarms config
alarms_at_most config c h = at_most_greatest (length config.counters) (alarms_of config) c h

-- ---- limits

-- no stretch behind boot is longer than the longest
pub within_longest : (config : Config) (entered : Option ℕ) → stretch_limit config (later_beginning entered) ≤ longest_stretch config
within_longest config None = omega arith
within_longest config (Some line) = by (line_kind (owners_in config) line) refl
  where
    by : (kind : LineKind) → line_kind (owners_in config) line ≡ kind → entry_limit config kind ≤ longest_stretch config
    by (line_of.Task t) e = omega arith
    by (line_of.Counter c) e =
        let tells = kind_tells (owners_in config) line (line_of.Counter c) e in
        let most = alarms_at_most config c tells.declared in
        omega (arith, most)
    by line_of.Unused e = omega arith

-- the limit where a task's line is taken
pub task_entry_limit : (config : Config) (t : ℕ) → t < length config.tasks → stretch_limit config (Takes t) ≡ entry_limit config (line_of.Task t)
task_entry_limit config t h = ap (entry_limit config) (kind_of_task (owners_in config) t h)

-- the limits where a counter's line is taken
pub counter_entry_limit : (config : Config) (c : ℕ) → length config.tasks ≤ first_counter_line → c < length config.counters
    → stretch_limit config (Takes (counter_line c)) ≡ entry_limit config (line_of.Counter c)
counter_entry_limit config c few h = ap (entry_limit config) (kind_of_counter (owners_in config) c few h)

pub counter_touches : (config : Config) (c : ℕ) → length config.tasks ≤ first_counter_line → c < length config.counters
    → touch_limit config (Takes (counter_line c)) ≡ entry_touches config (line_of.Counter c)
counter_touches config c few h = ap (entry_touches config) (kind_of_counter (owners_in config) c few h)
