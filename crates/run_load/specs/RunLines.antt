-- The lines of a run beside its load.
use Rattle.std.specs.Prelude.{ℕ, zero, suc, ◌-◌, ◌&&◌, leb, Bool, true, false, cond, List, [], ◌++◌, codes, decimal, length, is_none, is_some, Option, Some, None}
use Rattle.sloth_base.specs.declared.config.Config.{Config}
use Rattle.sloth_base.specs.declared.app.App.{App}
use Rattle.sloth_base.specs.declared.service.Arrival.{Arrival}
use Rattle.sloth_base.specs.declared.service.Stamped.{Stamped}
use Rattle.sloth_base.specs.Named.{declaration, counter_declaration}
use Rattle.sloth_base.specs.Owners.{first_counter_line, counter_line}
use Rattle.load_text.specs.declared.load_line.Entry.{Entry}
use Rattle.load_text.specs.Loads.{distance}
use Rattle.run_windows.specs.declared.costs.Costs.{Costs}
use Rattle.run_windows.specs.Costs.{task}
use Rattle.response_text.specs.declared.task_text.Response.{Response}
use Rattle.response_text.specs.Lines.{number_words, made_words, response_at}
use Rattle.run_load.specs.declared.lines.ToldRun.{ToldRun}
use Rattle.run_load.specs.declared.soon.EarlyArrival.{EarlyArrival}
use Rattle.run_load.specs.declared.work.Excess.{Excess}
use Rattle.run_load.specs.Seen.{longest_seen}
use Rattle.run_load.specs.Soon.{no_lasts, first_soon, line_at}
use Rattle.run_load.specs.Ticks.{longest_tick_seen}
use Rattle.run_load.specs.Work.{above_among}

-- the name of the task or the counter of a line
abbrev pub owner_name : Config → (line : ℕ) → List ℕ
owner_name config line =
    cond (leb first_counter_line line) (counter_declaration config (line - first_counter_line)).name (declaration config line).name

-- how far an arrival is behind the one before, and how far the load says; or that it says of none
abbrev pub gap_words : (distance : Option ℕ) → (gap : ℕ) → List ℕ
gap_words (Some d) gap = (codes " " ++ decimal gap) ++ (codes " " ++ decimal d)
gap_words None gap = codes " never"

-- the first arrival that comes too soon, with its line in the text of arrivals
abbrev pub arrivals_line : Config → List Entry → (arr : List ℕ) → Option EarlyArrival → List ℕ
arrivals_line config load arr (Some s) =
    (codes "arrival " ++ decimal (line_at arr s.place) ++ codes " " ++ owner_name config s.line) ++ (gap_words (distance load s.line) s.gap ++ codes "\n")
arrivals_line config load arr None = codes "arrivals keep\n"

-- the first round above its work: its task, the last count of the event, the own counts up to there and the limit
abbrev pub work_line : Config → Option Excess → List ℕ
work_line config (Some a) =
    codes "work " ++ (declaration config a.task).name ++ codes " " ++ decimal a.at ++ codes " " ++ decimal a.own ++ codes " " ++ decimal a.limit ++ codes "\n"
work_line config None = codes "work keeps\n"

-- of a task that comes, or a counter, these words of its number
abbrev pub told_words : (comes : Bool) → (words : List ℕ) → List ℕ
told_words comes words = cond comes words (codes " never")

-- the longest response of a task that is seen, beside its number, and of those behind boot
abbrev pub seen_line : Config → (t : ℕ) → Response → (all behind : ℕ) → List ℕ
seen_line config t r all behind =
    ((declaration config t).name ++ codes " " ++ decimal all ++ codes " of") ++ (told_words r.comes (number_words r.anywhere)
    ++ ((codes " behind " ++ decimal behind ++ codes " of") ++ (told_words r.comes (made_words r.behind) ++ codes "\n")))

-- those of the first tasks, so many of them
unfoldable pub seen_lines : Config → App → List Stamped → List Response → (count : ℕ) → List ℕ
seen_lines config app events responses zero = []
seen_lines config app events responses (suc t) =
    seen_lines config app events responses t ++ seen_line config t (response_at responses t) (longest_seen config app t true events) (longest_seen config app t false events)

-- the longest time of counter c's ticks that is seen, beside the number of ticks
abbrev pub tick_line : Config → List Entry → List Stamped → (number : Option ℕ) → (c : ℕ) → List ℕ
tick_line config load events n c =
    (codes "tick " ++ (counter_declaration config c).name ++ codes " " ++ decimal (longest_tick_seen c events) ++ codes " of")
    ++ (told_words (is_some (distance load (counter_line c))) (number_words n) ++ codes "\n")

-- those of the first counters, so many of them
unfoldable pub tick_lines : Config → List Entry → List Stamped → (number : Option ℕ) → (count : ℕ) → List ℕ
tick_lines config load events n zero = []
tick_lines config load events n (suc c) = tick_lines config load events n c ++ tick_line config load events n c

-- WaitEvents cut the turns of the task into rounds
abbrev pub cuts_of : Costs → (t : ℕ) → Bool
cuts_of costs t = (task costs t).is_cut

-- what is told, and whether the run keeps the load
abbrev pub told_run : Config → App → List Entry → Costs → (arr : List ℕ) → List Arrival → List Stamped → List Response → (tick : Option ℕ) → ToldRun
told_run config app load costs arr arrivals events responses tick =
    record {
      text = arrivals_line config load arr (first_soon load no_lasts 0 arrivals)
          ++ (work_line config (above_among config app load (cuts_of costs) events (length config.tasks))
          ++ (seen_lines config app events responses (length config.tasks) ++ tick_lines config load events tick (length config.counters)));
      keeps = is_none (first_soon load no_lasts 0 arrivals) && is_none (above_among config app load (cuts_of costs) events (length config.tasks));
    }
