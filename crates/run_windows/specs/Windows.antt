-- Windows: how many counts they have, from how often their tasks are made Ready.
use Rattle.std.specs.Prelude.{ℕ, ◌+◌, ◌*◌, ◌<◌, ◌≤◌, ◌≡◌, ◌==◌, ◌&&◌, ◌||◌, not, nat_lt, min, max, cond, Bool, true, false, List, [], ◌∷◌, length, get_or, Option, Some, None, unwrap_or}
use Rattle.run_windows.specs.declared.costs.TaskCosts.{TaskCosts}
use Rattle.run_windows.specs.declared.costs.Makings.{Makings}
use Rattle.run_windows.specs.declared.costs.SectionMakings.{SectionMakings}
use Rattle.run_windows.specs.declared.costs.Costs.{Costs}
use Rattle.run_windows.specs.declared.costs.Start.{Start}
use Rattle.run_windows.specs.declared.costs.Start.TheVariants as start
use Rattle.run_windows.specs.declared.costs.Window.{Window}
use Rattle.run_windows.specs.declared.costs.Made.{Made}
use Rattle.run_windows.specs.declared.costs.Rule.{Rule}
use Rattle.run_windows.specs.declared.costs.Rule.TheVariants as rule
use Rattle.run_windows.specs.Costs.{reckoned, task, comes, makers, making, section_making}
use Rattle.run_windows.specs.Arrivals.{arrivals, ticking, tick_counts}

-- ---- the tasks of a window

-- how often each task is made Ready
abbrev pub Numbers : Type 0
Numbers = ℕ → Made

-- a task of lower priority than h
abbrev pub is_lower : Costs → (h k : ℕ) → Bool
is_lower costs h k = nat_lt (task costs k).priority (task costs h).priority

-- it has no rounds in windows of h: it is lower, or never comes
abbrev pub is_left_out : Costs → (h k : ℕ) → Bool
is_left_out costs h k = is_lower costs h k || not (comes costs k)

-- it is lower than h, and comes
abbrev pub is_below : Costs → (h k : ℕ) → Bool
is_below costs h k = is_lower costs h k && comes costs k

-- a round of j is under way as the window begins
abbrev pub is_round : Start → (j : ℕ) → Bool
is_round (start.Round k) j = k == j
is_round _ j = false

-- which makings of a task count that is left out of the level: settings of one whose round is under way, each of them for a further round
abbrev pub lower_rule : Start → (j : ℕ) → Rule
lower_rule s j = cond (is_round s j) rule.Settings rule.Out

-- which makings of j count in a window of h
abbrev pub level_rule : Costs → (h : ℕ) → Start → (j : ℕ) → Rule
level_rule costs h s j = cond (is_left_out costs h j) (lower_rule s j) (cond ((j == h) && (task costs h).is_entered_once) rule.Once rule.Each)

abbrev pub target_rule : Costs → Option ℕ → Start → (j : ℕ) → Rule
target_rule costs None s j = rule.Each
target_rule costs (Some h) s j = level_rule costs h s j

abbrev pub rule_of : Costs → Window → (j : ℕ) → Rule
rule_of costs w j = target_rule costs w.target w.start j

-- of so many activations and settings these count
abbrev pub counted : Rule → (activations settings : ℕ) → Made
counted rule.Out a s = record { activations = 0; settings = 0 }
counted rule.Settings a s = record { activations = 0; settings = s }
counted rule.Each a s = record { activations = a; settings = s }
counted rule.Once a s = record { activations = min (a + s) 1; settings = 0 }

-- ---- what makes them

abbrev pub none_made : Made
none_made = record { activations = 0; settings = 0 }

-- the numbers of a list of all tasks
abbrev pub numbers_of : List Made → Numbers
numbers_of made k = get_or made k none_made

-- one activation where the test holds
abbrev pub activated_once : Bool → Made
activated_once test = record { activations = cond test 1 0; settings = 0 }

abbrev pub set_once : Bool → Made
set_once test = record { activations = 0; settings = cond test 1 0 }

abbrev pub section_made : SectionMakings → Made
section_made m = record { activations = reckoned m.activations; settings = reckoned m.settings }

-- the greater of two greatest numbers
abbrev pub greater : (one other : Option ℕ) → ℕ
greater one other = max (reckoned one) (reckoned other)

-- what a round of k, of whichever kind, makes of j at most; and of k itself an event may have been set before
abbrev pub round_made : Costs → (k j : ℕ) → Made
round_made costs k j = record {
  activations = greater (making costs k j).first_activations (making costs k j).next_activations;
  settings = greater (making costs k j).first_settings (making costs k j).next_settings + cond (k == j) 1 0;
}

-- what the start of a window makes of j; sections are those for task h
abbrev pub begun_by : Costs → (h : ℕ) → Start → (j : ℕ) → Made
begun_by costs h start.Free j = activated_once false
begun_by costs h start.Boot j = activated_once (task costs j).is_autostarted
begun_by costs h (start.Activation t) j = activated_once (t == j)
begun_by costs h (start.Setting t) j = set_once (t == j)
begun_by costs h (start.Section k) j = section_made (section_making costs h k j)
begun_by costs h (start.Round k) j = round_made costs k j

abbrev pub begun : Costs → Window → (j : ℕ) → Made
begun costs w j = begun_by costs (unwrap_or w.target 0) w.start j

-- behind boot alarms expire by their times
abbrev pub is_boot : Start → Bool
is_boot start.Boot = true
is_boot _ = false

-- the counts within which arrivals are counted, in a window of so many counts
abbrev pub span_of : Window → (counts : ℕ) → ℕ
span_of w counts = unwrap_or w.span counts

-- a number for each activation and one for each setting
abbrev pub shared : Made → (first next : Option ℕ) → ℕ
shared n first next = n.activations * reckoned first + n.settings * reckoned next

-- of a task that is made so often: how often its rounds activate another one, or set its events
abbrev pub of_makings : (sets : Bool) → Made → Makings → ℕ
of_makings sets n m = cond sets (shared n m.first_settings m.next_settings) (shared n m.first_activations m.next_activations)

-- how often the rounds of these tasks, from task k on, do
abbrev pub round_makings : (sets : Bool) → Numbers → (k : ℕ) → List Makings → ℕ
round_makings sets n k [] = 0
round_makings sets n k (m ∷ ms) = of_makings sets (n k) m + round_makings sets n (k + 1) ms

-- how often j is activated within a window of so many counts
abbrev pub activations : Costs → Window → Numbers → (counts j : ℕ) → ℕ
activations costs w n counts j =
    (begun costs w j).activations + arrivals (span_of w counts) (task costs j).distance
    + ticking (is_boot w.start) false j (span_of w counts) costs.alarms 0 costs.counters + round_makings false n 0 (makers costs j)

-- how often its events are set
abbrev pub settings : Costs → Window → Numbers → (counts j : ℕ) → ℕ
settings costs w n counts j =
    (begun costs w j).settings + ticking (is_boot w.start) true j (span_of w counts) costs.alarms 0 costs.counters
    + round_makings true n 0 (makers costs j)

-- those of its makings that count
abbrev pub made_within : Costs → Window → Numbers → (counts j : ℕ) → Made
made_within costs w n counts j = counted (rule_of costs w j) (activations costs w n counts j) (settings costs w n counts j)

-- ---- its counts

-- the counts of the rounds of these tasks, from task k on
abbrev pub round_counts : Numbers → (k : ℕ) → List TaskCosts → ℕ
round_counts n k [] = 0
round_counts n k (t ∷ ts) = shared (n k) t.first t.next + round_counts n (k + 1) ts

-- the counts of a window in which tasks are made that often
abbrev pub window_counts : Costs → Window → Numbers → (counts : ℕ) → ℕ
window_counts costs w n counts =
    w.front + round_counts n 0 costs.tasks + tick_counts (span_of w counts) costs.counters

-- ---- solutions

-- the numbers of one making are at most those of another
pub record IsAtMost (one other : Made) : Type 0 where
  pub activations : one.activations ≤ other.activations
  pub settings : one.settings ≤ other.settings

-- Each task is made so often, and the window has so many counts, where at least so much comes within it.
pub record IsSolution (costs : Costs) (w : Window) (n : Numbers) (counts : ℕ) : Type 0 where
  pub made : (j : ℕ) → j < length costs.tasks
      → IsAtMost (made_within costs w n counts j) (n j)
  pub filled : window_counts costs w n counts ≤ counts

-- the least one
pub record IsLeast (costs : Costs) (w : Window) (n : Numbers) (counts : ℕ) : Type 0 where
  pub solves : IsSolution costs w n counts
  pub least_numbers : (m : Numbers) (more : ℕ) → IsSolution costs w m more → (j : ℕ) → j < length costs.tasks → IsAtMost (n j) (m j)
  pub least_counts : (m : Numbers) (more : ℕ) → IsSolution costs w m more → counts ≤ more

-- the target is made in the window
abbrev pub is_made : Made → Bool
is_made n = not ((n.activations == 0) && (n.settings == 0))

abbrev pub is_target_made : Option ℕ → Numbers → Bool
is_target_made None n = true
is_target_made (Some h) n = is_made (n h)

-- The bound of a window up to a limit: the counts of its least solution, or 0 where its target is not made in it; none where that has more counts than the limit.
abbrev pub IsBound : (limit : ℕ) → Costs → Window → Option ℕ → Type 0
IsBound limit costs w (Some l) =
    (n : Numbers) × (counts : ℕ) × IsLeast costs w n counts × (counts ≤ limit) × (l ≡ cond (is_target_made w.target n) counts 0)
IsBound limit costs w None = (n : Numbers) (counts : ℕ) → IsSolution costs w n counts → limit < counts
