-- What response times are computed from: reading a record of costs.
use Rattle.std.specs.Prelude.{ℕ, ◌&&◌, min, Bool, List, [], get_or, false, Option, Some, None}
use Rattle.run_windows.specs.declared.costs.TaskCosts.{TaskCosts}
use Rattle.run_windows.specs.declared.costs.Makings.{Makings}
use Rattle.run_windows.specs.declared.costs.Services.{Services}
use Rattle.run_windows.specs.declared.costs.SectionCosts.{SectionCosts}
use Rattle.run_windows.specs.declared.costs.SectionMakings.{SectionMakings}
use Rattle.run_windows.specs.declared.costs.Level.{Level}
use Rattle.run_windows.specs.declared.costs.Costs.{Costs}

-- ---- numbers

-- the counts above which a window has no bound
abbrev pub window_limit : ℕ
window_limit = 2147483647

-- what stands for all that is greater, and for what has no limit: it is above all bounds that are told
abbrev pub greatest_sum : ℕ
greatest_sum = 8000000001

abbrev pub capped : ℕ → ℕ
capped n = min n greatest_sum

-- a greatest number as a number of counts
abbrev pub reckoned : Option ℕ → ℕ
reckoned None = greatest_sum
reckoned (Some n) = capped n

-- ---- tasks

-- what stands for a task behind the last one
abbrev pub no_task : TaskCosts
no_task =
    record {
      priority = 0;
      is_entered_once = false;
      is_autostarted = false;
      is_cut = false;
      has_raised_waits = false;
      distance = None;
      first = Some 0;
      next = Some 0;
      raising = 0;
      section_work = None;
      service = 0;
    }

abbrev pub task : Costs → (t : ℕ) → TaskCosts
task costs t = get_or costs.tasks t no_task

-- something may make it Ready
abbrev pub comes : Costs → (t : ℕ) → Bool
comes costs t = get_or costs.comes t false

-- ---- what makes a task

abbrev pub no_makings : Makings
no_makings = record { first_activations = Some 0; first_settings = Some 0; next_activations = Some 0; next_settings = Some 0 }

-- those of task j, by the task that makes it
abbrev pub makers : Costs → (j : ℕ) → List Makings
makers costs j = get_or costs.makings j []

-- those of task j by task k
abbrev pub making : Costs → (k j : ℕ) → Makings
making costs k j = get_or (makers costs j) k no_makings

abbrev pub no_services : Services
no_services = record { activates = false; chains = false; sets_events = false }

-- ---- sections

abbrev pub no_level : Level
no_level = record { sections = []; makings = [] }

abbrev pub level : Costs → (h : ℕ) → Level
level costs h = get_or costs.levels h no_level

abbrev pub no_section : SectionCosts
no_section = record { exists = false; is_endless = false; counts = Some 0 }

-- the sections for task h, by the task whose they are
abbrev pub sections_of : Costs → (h : ℕ) → List SectionCosts
sections_of costs h = (level costs h).sections

-- those of task k
abbrev pub section : Costs → (h k : ℕ) → SectionCosts
section costs h k = get_or (sections_of costs h) k no_section

-- Its sections have no greatest sum, but may wait: its rounds join windows of h in their place.
abbrev pub joins : Costs → (h k : ℕ) → Bool
joins costs h k = (task costs k).has_raised_waits && (section costs h k).is_endless

-- the lesser of two greatest numbers
abbrev pub lesser : Option ℕ → Option ℕ → Option ℕ
lesser (Some own) (Some n) = Some (min own n)
lesser (Some own) None = Some own
lesser None n = n

-- the counts of the longest one: by walks, or by what the load says of the task's work where that is less
abbrev pub section_counts : Costs → (h k : ℕ) → Option ℕ
section_counts costs h k = lesser (task costs k).section_work (section costs h k).counts

abbrev pub no_section_makings : SectionMakings
no_section_makings = record { activations = Some 0; settings = Some 0 }

-- how often the sections for task h make task j, by the task whose they are
abbrev pub section_makers : Costs → (h j : ℕ) → List SectionMakings
section_makers costs h j = get_or (level costs h).makings j []

-- those of task k
abbrev pub section_making : Costs → (h k j : ℕ) → SectionMakings
section_making costs h k j = get_or (section_makers costs h j) k no_section_makings
