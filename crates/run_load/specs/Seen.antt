-- The longest responses that are seen in a run.
use Rattle.std.specs.Prelude.{ℕ, ◌+◌, ◌-◌, ◌&&◌, ◌||◌, not, max, Bool, false, cond, List, [], ◌∷◌}
use Rattle.sloth_base.specs.declared.config.Config.{Config}
use Rattle.sloth_base.specs.declared.app.App.{App}
use Rattle.sloth_base.specs.declared.service.Stamped.{Stamped}
use Rattle.sloth_base.specs.Events.{is_boot}
use Rattle.osek_scheduler.specs.InTime.{is_admit}
use Rattle.run_counts.specs.Rounds.{is_left}
use Rattle.run_load.specs.declared.watch.Watched.{Watched}
use Rattle.run_load.specs.Watched.{watched_run}

-- The count behind the first of these events with which task t leaves, or, where none does, behind the last one; admissions, which stand in other events,
-- left out. Where there is none it is this count.
abbrev pub end_of_response : (t last : ℕ) → List Watched → ℕ
end_of_response t last [] = last
end_of_response t last (w ∷ ws) =
    cond (is_admit w.event) (end_of_response t last ws)
    (cond (is_left t w.event.event) (w.event.stamp.at + 1) (end_of_response t (w.event.stamp.at + 1) ws))

-- how long the response to an event is, from its edge on, where these are behind it; 0 where there are none
abbrev pub response : (t : ℕ) → Watched → List Watched → ℕ
response t w ws = end_of_response t 0 ws - w.edge

-- behind boot an event up to this one has found a state that is quiet for the task
abbrev pub is_behind : (quiet : Bool) → Watched → Bool
is_behind quiet w = quiet || (not (is_boot w.event.event) && w.quiet)

-- The longest response to an event that makes task t Ready, of all or of those behind boot; 0 where there is none.
abbrev pub longest : (t : ℕ) → (all quiet : Bool) → List Watched → ℕ
longest t all quiet [] = 0
longest t all quiet (w ∷ ws) =
    max (cond (w.made && (all || is_behind quiet w)) (response t w ws) 0) (longest t all (is_behind quiet w) ws)

-- that in a run
abbrev pub longest_seen : Config → App → (t : ℕ) → (all : Bool) → List Stamped → ℕ
longest_seen config app t all events = longest t all false (watched_run config app t events)
