-- What is seen of the events of a run for one task: its own counts, whether it is made Ready, and from where on its response counts.
use Rattle.std.specs.Prelude.{ℕ, ◌-◌, List, [], ◌∷◌, replicate, set, get_or, Option, Some, None, unwrap_or}
use Rattle.sloth_base.specs.declared.config.Config.{Config}
use Rattle.sloth_base.specs.declared.app.App.{App}
use Rattle.sloth_base.specs.declared.service.Event.{Event}
use Rattle.sloth_base.specs.declared.service.Event.TheVariants as event
use Rattle.sloth_base.specs.declared.service.Stamped.{Stamped}
use Rattle.sloth_base.specs.Limits.{counter_limit}
use Rattle.osek_scheduler.specs.State.{task}
use Rattle.run_counts.specs.Stages.{Stage, own, run_stages}
use Rattle.response_laws.specs.Busy.{is_quiet}
use Rattle.response_laws.specs.Turns.{makes_ready}
use Rattle.run_load.specs.declared.watch.Watched.{Watched}

-- ---- arrivals of counters

-- of each counter the moment of its first arrival since its last tick, if one came
abbrev pub Moments : Type 0
Moments = List (Option ℕ)

abbrev pub no_moments : Moments
no_moments = replicate counter_limit None

-- the moments behind an event that ends at count `at`
abbrev pub noted : Event → (at : ℕ) → Moments → Moments
noted (event.Due c) at moments = set moments c (Some (unwrap_or (get_or moments c None) at))
noted (event.Tick c) at moments = set moments c None
noted _ at moments = moments

-- from where on responses to the event count: of a tick that moment of its counter, else the event's last count
abbrev pub edge : Event → (at : ℕ) → Moments → ℕ
edge (event.Tick c) at moments = unwrap_or (get_or moments c None) at
edge _ at moments = at

-- ---- events

-- what is seen of a stage for task t
abbrev pub watched : Config → (t : ℕ) → Moments → Stage → Watched
watched config t moments x = record {
  event = x.stamped;
  own = own config t x;
  made = makes_ready t x;
  quiet = is_quiet config t x.found;
  edge = edge x.stamped.event x.stamped.stamp.at moments;
}

-- of stages, one behind the other
abbrev pub watched_stages : Config → (t : ℕ) → Moments → List Stage → List Watched
watched_stages config t moments [] = []
watched_stages config t moments (x ∷ xs) =
    watched config t moments x ∷ watched_stages config t (noted x.stamped.event x.stamped.stamp.at moments) xs

-- of the events of a run
abbrev pub watched_run : Config → App → (t : ℕ) → List Stamped → List Watched
watched_run config app t events = watched_stages config t no_moments (run_stages config app events)
