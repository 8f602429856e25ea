-- What a load says of the rounds of a task, and where that bounds its sections.
use Rattle.std.specs.Prelude.{ℕ, ◌≤◌, ◌≡◌, List, ◌∷◌, ◌++◌, Bool, true, IfSome, Some}
use Rattle.sloth_base.specs.declared.config.Config.{Config}
use Rattle.sloth_base.specs.declared.app.App.{App}
use Rattle.load_text.specs.declared.load_line.Entry.{Entry}
use Rattle.load_text.specs.Loads.{work}
use Rattle.osek_scheduler.specs.Apart.{static_priority}
use Rattle.osek_blocking.specs.Walks.{Position}
use Rattle.osek_blocking.specs.Sections.{priority_at, operation_at}
use Rattle.walk_sums.specs.Rounds.{Reaches, is_wait}
use Rattle.run_counts.specs.Stages.{Stage, own}
use Rattle.run_counts.specs.Rounds.{opens_round, round_of, total}

-- The run keeps the `work` lines of a load: no round of a task has more counts of its own, finished or not.
abbrev pub KeepsWork : Config → (load : List Entry) → (cuts : ℕ → Bool) → List Stage → Type 0
KeepsWork config load cuts run =
    (t : ℕ) → IfSome (work load t)
    (λ counts. (before behind : List Stage) (opens : Stage) → run ≡ before ++ opens ∷ behind → opens_round (cuts t) t opens.stamped.event ≡ true
    → total (own config t) (round_of (cuts t) t behind) ≤ counts)

-- the load says that a round of task t takes no more counts of its own
abbrev pub WorksWithin : (load : List Entry) → (t most : ℕ) → Type 0
WorksWithin load t most = (counts : ℕ) × (work load t ≡ Some counts) × (counts ≤ most)

-- Where WaitEvents cut the turns of task b, it waits nowhere where it is raised to h: so a section of it lies in one round.
abbrev pub WaitsNowhere : Config → App → (h b : ℕ) → (cuts : Bool) → Type 0
WaitsNowhere config app h b cuts =
    (at : Position) → Reaches app b at → static_priority config h ≤ priority_at config app b at → is_wait (operation_at app at) ≡ true → cuts ≡ true → ⊥
