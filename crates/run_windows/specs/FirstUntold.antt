-- What of all that the windows of a task are computed from has no number, and the first of it.
use Rattle.std.specs.Prelude.{ℕ, zero, suc, ◌<◌, ltb, ◌==◌, ◌&&◌, ◌||◌, not, cond, Bool, length, Option, Some, None}
use Rattle.std.specs.Option.{option_or}
use Rattle.run_windows.specs.declared.costs.TaskCosts.{TaskCosts}
use Rattle.run_windows.specs.declared.costs.Makings.{Makings}
use Rattle.run_windows.specs.declared.costs.SectionMakings.{SectionMakings}
use Rattle.run_windows.specs.declared.costs.Costs.{Costs}
use Rattle.run_windows.specs.declared.costs.Untold.{Untold}
use Rattle.run_windows.specs.declared.costs.Untold.TheVariants as untold
use Rattle.run_windows.specs.Costs.{reckoned, task, making, section_counts, section_making}
use Rattle.run_windows.specs.Windows.{is_lower, is_left_out}
use Rattle.run_windows.specs.RunWindows.{is_joined, is_apart}

-- ---- numbers

-- less than what stands for endless
abbrev pub is_told : Option ℕ → Bool
is_told number = ltb (reckoned number) (reckoned None)

abbrev pub are_rounds_told : TaskCosts → Bool
are_rounds_told c = is_told c.first && is_told c.next

abbrev pub are_makings_told : Makings → Bool
are_makings_told m = is_told m.first_activations && (is_told m.first_settings && (is_told m.next_activations && is_told m.next_settings))

abbrev pub are_section_makings_told : SectionMakings → Bool
are_section_makings_told m = is_told m.activations && is_told m.settings

-- what it is of is among the first n tasks
abbrev pub IsInside : (n : ℕ) → Untold → Type 0
IsInside n (untold.Rounds k) = k < n
IsInside n (untold.Makings k j) = (k < n) × (j < n)
IsInside n (untold.Section k) = k < n
IsInside n (untold.SectionMakings k) = k < n

-- ---- the first

-- the first of two, if there is one
abbrev pub earlier : Option Untold → Option Untold → Option Untold
earlier one other = option_or one other

-- the first of what numbers below n say
abbrev pub first_below : (ℕ → Option Untold) → (n : ℕ) → Option Untold
first_below f zero = None
first_below f (suc k) = earlier (first_below f k) (f k)

-- ---- what has no number

-- rounds of task k
abbrev pub untold_rounds : Costs → (k : ℕ) → Option Untold
untold_rounds costs k = cond (are_rounds_told (task costs k)) None (Some (untold.Rounds k))

-- how often they make task j Ready
abbrev pub untold_making : Costs → (k j : ℕ) → Option Untold
untold_making costs k j = cond (are_makings_told (making costs k j)) None (Some (untold.Makings k j))

-- of a task of the level of h that comes
abbrev pub level_rounds : Costs → (h k : ℕ) → Option Untold
level_rounds costs h k = cond (is_left_out costs h k) None (untold_rounds costs k)

abbrev pub level_making : Costs → (h k j : ℕ) → Option Untold
level_making costs h k j = cond (is_left_out costs h k || is_lower costs h j) None (untold_making costs k j)

abbrev pub level_makings : Costs → (h k : ℕ) → Option Untold
level_makings costs h k = first_below (level_making costs h k) (length costs.tasks)

-- of a lower task k whose rounds join: how often they make a task of the level Ready, or k
abbrev pub joined_making : Costs → (h k j : ℕ) → Option Untold
joined_making costs h k j = cond (is_lower costs h j && not (k == j)) None (untold_making costs k j)

-- and how often those of task j of the level make it Ready
abbrev pub making_of_joined : Costs → (h k j : ℕ) → Option Untold
making_of_joined costs h k j = cond (is_left_out costs h j) None (untold_making costs j k)

abbrev pub untold_joined : Costs → (h k : ℕ) → Option Untold
untold_joined costs h k =
    earlier (untold_rounds costs k)
    (earlier (first_below (joined_making costs h k) (length costs.tasks)) (first_below (making_of_joined costs h k) (length costs.tasks)))

-- of another lower task: its sections, or how often they make a task of the level Ready
abbrev pub untold_section : Costs → (h k : ℕ) → Option Untold
untold_section costs h k = cond (is_told (section_counts costs h k)) None (Some (untold.Section k))

abbrev pub untold_section_making : Costs → (h k j : ℕ) → Option Untold
untold_section_making costs h k j =
    cond (is_lower costs h j || are_section_makings_told (section_making costs h k j)) None (Some (untold.SectionMakings k))

abbrev pub untold_apart : Costs → (h k : ℕ) → Option Untold
untold_apart costs h k = earlier (untold_section costs h k) (first_below (untold_section_making costs h k) (length costs.tasks))

-- of a lower task
abbrev pub untold_lower : Costs → (h k : ℕ) → Option Untold
untold_lower costs h k = cond (is_joined costs h k) (untold_joined costs h k) (cond (is_apart costs h k) (untold_apart costs h k) None)

-- The first that has no number: rounds of the level of h, how often they make its tasks Ready, and what is of each lower task in turn.
abbrev pub first_untold : Costs → (h : ℕ) → Option Untold
first_untold costs h =
    earlier (first_below (level_rounds costs h) (length costs.tasks))
    (earlier (first_below (level_makings costs h) (length costs.tasks)) (first_below (untold_lower costs h) (length costs.tasks)))
