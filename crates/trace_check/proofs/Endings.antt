-- Which arrivals admissions may be of, by numbers.
use Rattle.std.specs.Prelude.{ℕ, ◌≤◌, ◌≡◌, List, true, map, take, drop, length}
use Rattle.sloth_base.specs.declared.service.Arrival.{Arrival}
use Rattle.sloth_base.specs.declared.service.Stamped.{Stamped}
use Rattle.sloth_base.specs.declared.config.Config.{Config}
use Rattle.osek_scheduler.specs.InTime.{longest_cut_off_stretch}
use Rattle.trace_check.specs.Counts.{arrival_number, admit_numbers, SameCounts, last_moment, may_leave}

-- the arrivals that so many admissions may be of, and the others
abbrev pub first_arrivals : List Stamped → List Arrival → List Arrival
first_arrivals events arrivals = take (length (admit_numbers events)) arrivals

abbrev pub other_arrivals : List Stamped → List Arrival → List Arrival
other_arrivals events arrivals = drop (length (admit_numbers events)) arrivals

-- The admissions are the first of the arrivals, moment for moment and line for line, and the others may be left out.
pub record Ending (config : Config) (n : ℕ) (arrivals : List Arrival) (events : List Stamped) (ends : ℕ) : Type 0 where
  pub enough : length (admit_numbers events) ≤ length arrivals
  pub same : SameCounts (admit_numbers events) (map arrival_number (first_arrivals events arrivals))
  pub leaves : may_leave n (longest_cut_off_stretch config events) ends (last_moment (first_arrivals events arrivals)) (other_arrivals events arrivals) ≡ true
