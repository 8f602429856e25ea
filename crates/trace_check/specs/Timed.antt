-- Events looked at one after the other, and what is kept of them to tell whether they are in time.
use Rattle.std.specs.Prelude.{ℕ, ◌<◌, ◌≤◌, ◌≡◌, ◌⊎◌, ◌||◌, List, Bool, true, false, length, ltb, Some, None}
use Rattle.sloth_base.specs.declared.config.Config.{Config}
use Rattle.sloth_base.specs.declared.service.Arrival.{Arrival}
use Rattle.sloth_base.specs.declared.service.Stamped.{Stamped}
use Rattle.sloth_base.specs.Limits.{counter_limit, alarm_limit}
use Rattle.osek_scheduler.specs.InTime.{longest_cut_off_stretch}
use Rattle.trace_check.specs.Scan.{Scan, scan_start, scan_after_events}
use Rattle.trace_check.specs.Counts.{admit_numbers}

-- the configuration has no more counters and alarms than one in range
pub record HasFewClocks (config : Config) : Type 0 where
  pub counters : length config.counters ≤ counter_limit
  pub alarms : length config.alarms ≤ alarm_limit

-- what is kept: the configuration, the number of instructions and the arrivals, where the pass stands, the numbers of the admits, the longest stretch that
-- the end may cut off, and whether the pass stopped at an event
pub record KeptPass : Type 0 where
  pub config : Config
  pub n : ℕ
  pub arrivals : List Arrival
  pub scan : Scan
  pub admits : List ℕ
  pub most : ℕ
  pub stopped : Bool

-- the pass stopped, or there are more admits than arrivals
abbrev pub is_late : KeptPass → Bool
is_late kept = kept.stopped || ltb (length kept.arrivals) (length kept.admits)

-- no events that begin with these are in time
abbrev pub NeverInTime : ℕ → List Arrival → List Stamped → Type 0
NeverInTime n arrivals events = (scan_after_events n (Some (scan_start arrivals)) events ≡ None) ⊎ (length arrivals < length (admit_numbers events))

-- what is kept of events that may be in time
pub record IsTimely (events : List Stamped) (kept : KeptPass) : Type 0 where
  pub scans : scan_after_events kept.n (Some (scan_start kept.arrivals)) events ≡ Some kept.scan
  pub admits : kept.admits ≡ admit_numbers events
  pub most : kept.most ≡ longest_cut_off_stretch kept.config events

-- what is kept of these events
pub record TimedBy (events : List Stamped) (kept : KeptPass) : Type 0 where
  pub late : is_late kept ≡ true → NeverInTime kept.n kept.arrivals events
  pub timely : is_late kept ≡ false → IsTimely events kept
