-- What is kept of the things before one, so that it can be judged without going over them again.
use Rattle.std.specs.Prelude.{◌≡◌, ℕ, Bool, if◌then◌else◌, ◌&&◌, ◌==◌, List, codes, count_by, Option, None}
use Rattle.std.specs.List.{list_any}
use Rattle.std.specs.Str.{bytes_eq}
use Rattle.std.specs.Borrow.{Bor}
use Rattle.indexmap.specs.IndexSet.{IndexSet}
use Rattle.oil_parse.specs.declared.tree.OilObject.{OilObject}
use Rattle.oil_table.specs.Objects.{is_of_kind, is_declared, first_number}
use Rattle.oil_rules.specs.TaskFaults.{has_priority}

-- the priority of a task
abbrev pub priority_of : OilObject → Option ℕ
priority_of object = if is_of_kind (codes "TASK") object then first_number object.attrs (codes "PRIORITY") else None

-- what is kept of the objects before one
pub record IsFront {S R : Type 0} (objects : List OilObject) (names : IndexSet (Bor (List ℕ) × Bor (List ℕ)) S)
    (priorities : IndexSet ℕ R) (tasks resources events counters alarms : ℕ) (has_os : Bool) : Type 0 where
  pub named : (kind name : List ℕ) → list_any (λ k. bytes_eq k.0.now kind && bytes_eq k.1.now name) names.keys ≡ is_declared objects kind name
  pub taken : (priority : ℕ) → list_any (λ given. given == priority) priorities.keys ≡ list_any (has_priority priority) objects
  pub task_count : tasks ≡ count_by (is_of_kind (codes "TASK")) objects
  pub resource_count : resources ≡ count_by (is_of_kind (codes "RESOURCE")) objects
  pub event_count : events ≡ count_by (is_of_kind (codes "EVENT")) objects
  pub counter_count : counters ≡ count_by (is_of_kind (codes "COUNTER")) objects
  pub alarm_count : alarms ≡ count_by (is_of_kind (codes "ALARM")) objects
  pub os : has_os ≡ list_any (is_of_kind (codes "OS")) objects
