-- An arrival of a line that has an owner: its event has the line, and is a step.
use Rattle.std.proofs.Common.{◌≡◌, ◌∙◌, ℕ, ◌+◌, ◌-◌, ◌<◌, ◌≤◌, List, length, refl, sym, ap, subst, arith, true, cond, Some, ⊎_elim}
use Rattle.std.specs.Prelude.{is_some}
use Rattle.std.proofs.lemmas.Bool.{cases_lt, lt-ltb, le-ltb}
use Rattle.sloth_base.specs.declared.app.App.{App}
use Rattle.sloth_base.specs.declared.config.Config.{Config}
use Rattle.sloth_base.specs.declared.service.Arrival.{Arrival}
use Rattle.sloth_base.specs.declared.service.Event.{Event}
use Rattle.sloth_base.specs.declared.service.Event.TheVariants as event
use Rattle.sloth_base.specs.declared.service.Stamped.{Stamped}
use Rattle.sloth_base.specs.Owners.{first_counter_line, owners_in, line_kind, IsOwned}
use Rattle.sloth_base.specs.declared.numbers.Owners.{Owners}
use Rattle.sloth_base.proofs.Owners.{IsCounterLine, kind_of_task, kind_of_counter, owned_cases}
use Rattle.observe.specs.Observe.{arrival_event}
use Rattle.osek_scheduler.specs.State.{System}
use Rattle.osek_scheduler.specs.Steps.{admitted_state, due_state, OsekStep}
use Rattle.sloth_base.specs.Events.{admitted_line}
use Rattle.osek_scheduler.specs.InTime.{is_admit, HasSpanFor, IsOrdered, StandsBefore}
use Rattle.osek_scheduler.specs.Runs.{PassesOverArrivals}
use Rattle.sim_induction.specs.Admits.{line_event, with_arrival, admit_event}

-- ---- the line of a task, and that of a counter

pub task_event : (line : ℕ) → line < first_counter_line → line_event line ≡ event.Admit line
task_event line h = ap (λ b. cond b (event.Admit line) (event.Due (line - first_counter_line))) (lt-ltb line first_counter_line h)

pub task_arrival : (line : ℕ) (s : System) → line < first_counter_line → with_arrival line s ≡ admitted_state line s
task_arrival line s h = ap (λ b. cond b (admitted_state line s) (due_state (line - first_counter_line) s)) (lt-ltb line first_counter_line h)

later_event : (line : ℕ) → first_counter_line ≤ line → line_event line ≡ event.Due (line - first_counter_line)
later_event line h = ap (λ b. cond b (event.Admit line) (event.Due (line - first_counter_line))) (le-ltb line first_counter_line h)

later_arrival : (line : ℕ) (s : System) → first_counter_line ≤ line → with_arrival line s ≡ due_state (line - first_counter_line) s
later_arrival line s h = ap (λ b. cond b (admitted_state line s) (due_state (line - first_counter_line) s)) (le-ltb line first_counter_line h)

-- ---- the event of an arrival

-- by what it is: an activation, or that a counter is due
pub by_event : (P : Event → Type 0) (line : ℕ) → (line < first_counter_line → P (event.Admit line)) → (first_counter_line ≤ line → P (event.Due (line - first_counter_line))) → P (line_event line)
by_event P line f g =
    ⊎_elim (λ (l : line < first_counter_line). subst P (sym (task_event line l)) (f l)) (λ (l : first_counter_line ≤ line). subst P (sym (later_event line l)) (g l))
    (cases_lt line first_counter_line)

-- it has the arrival's line
pub line_back : (line : ℕ) → admitted_line (line_event line) ≡ Some line
line_back line =
    by_event (λ e. admitted_line e ≡ Some line) line (λ l. refl) (λ l. let same : first_counter_line + (line - first_counter_line) ≡ line = omega (arith, l) in ap Some same)

pub is_admitted : (a : Arrival) → is_admit (admit_event a) ≡ true
is_admitted a = ap is_some (line_back a.line)

pub spans_admit : (a : Arrival) → HasSpanFor (admit_event a).event (admit_event a)
spans_admit a = by_event (λ e. HasSpanFor e (admit_event a)) a.line (λ l. refl) (λ l. refl)

-- it stands before another event, or behind it, as an admission does
pub admit_before : (a : Arrival) (z : Stamped) → StandsBefore true (is_admit z) (admit_event a).stamp z.stamp → IsOrdered (admit_event a) z
admit_before a z h = subst (λ b. StandsBefore b (is_admit z) (admit_event a).stamp z.stamp) (sym (is_admitted a)) h

pub admit_behind : (a : Arrival) (z : Stamped) → StandsBefore (is_admit z) true z.stamp (admit_event a).stamp → IsOrdered z (admit_event a)
admit_behind a z h = subst (λ b. StandsBefore (is_admit z) b z.stamp (admit_event a).stamp) (sym (is_admitted a)) h

pub admits_ordered : (a c : Arrival) → IsOrdered (admit_event a) (admit_event c)
admits_ordered a c =
    subst (λ b. StandsBefore b (is_admit (admit_event c)) (admit_event a).stamp (admit_event c).stamp) (sym (is_admitted a))
    (subst (λ b. StandsBefore true b (admit_event a).stamp (admit_event c).stamp) (sym (is_admitted c)) tt)

-- ---- what an arrival does

-- by what it does
pub arrival_cases : (P : System → Type 0) (line : ℕ) (s : System) → P (admitted_state line s) → ((c : ℕ) → P (due_state c s)) → P (with_arrival line s)
arrival_cases P line s f g =
    ⊎_elim (λ (l : line < first_counter_line). subst P (sym (task_arrival line s l)) f)
    (λ (l : first_counter_line ≤ line). subst P (sym (later_arrival line s l)) (g (line - first_counter_line)))
    (cases_lt line first_counter_line)

-- it is a step
pub arrival_steps : (config : Config) (app : App) (line : ℕ) (s : System) → length config.tasks ≤ first_counter_line → IsOwned (owners_in config) line → s.booted ≡ true
    → OsekStep config app (line_event line) s (with_arrival line s)
arrival_steps config app line s few owned booted =
    ⊎_elim
    (λ (l : line < length config.tasks).
    let below : line < first_counter_line = omega (arith, l, few) in
    subst (λ e. OsekStep config app e s (with_arrival line s)) (sym (task_event line below)) (booted, l, task_arrival line s below))
    (λ (found : (c : ℕ) × IsCounterLine (owners_in config) line c).
    let is = found.1.is in
    let declared = found.1.declared in
    let above : first_counter_line ≤ line = omega (arith, is) in
    subst (λ e. OsekStep config app e s (with_arrival line s)) (sym (later_event line above)) (booted, omega (arith, is, declared), later_arrival line s above))
    (owned_cases (owners_in config) line owned)

-- and no other
pub step_arrives : (config : Config) (app : App) (line : ℕ) (s next : System) → OsekStep config app (line_event line) s next → next ≡ with_arrival line s
step_arrives config app line s next step =
    ⊎_elim
    (λ (l : line < first_counter_line).
    let o : OsekStep config app (event.Admit line) s next = subst (λ e. OsekStep config app e s next) (task_event line l) step in o.2 ∙ sym (task_arrival line s l))
    (λ (l : first_counter_line ≤ line).
    let o : OsekStep config app (event.Due (line - first_counter_line)) s next = subst (λ e. OsekStep config app e s next) (later_event line l) step in o.2 ∙ sym (later_arrival line s l))
    (cases_lt line first_counter_line)

-- it passes over no task
pub arrival_passes : (config : Config) (app : App) (past : List Stamped) (line : ℕ) (s : System) (k : ℕ) → PassesOverArrivals config app past s k (line_event line)
arrival_passes config app past line s k = by_event (PassesOverArrivals config app past s k) line (λ l. tt) (λ l. tt)

-- the observer shows the same
pub arrival_shown : (owners : Owners) (line : ℕ) → owners.tasks ≤ first_counter_line → IsOwned owners line → arrival_event (line_kind owners line) ≡ line_event line
arrival_shown owners line few owned =
    ⊎_elim
    (λ (l : line < owners.tasks). ap arrival_event (kind_of_task owners line l) ∙ sym (task_event line (omega (arith, l, few))))
    (λ (found : (c : ℕ) × IsCounterLine owners line c).
    let is = found.1.is in
    let back : line - first_counter_line ≡ found.0 = omega (arith, is) in
    ap arrival_event (ap (line_kind owners) is ∙ kind_of_counter owners found.0 few found.1.declared)
    ∙ sym (later_event line (omega (arith, is)) ∙ ap event.Due back))
    (owned_cases owners line owned)

-- the lines of tasks are below those of counters
pub tasks_below : (config : Config) (line : ℕ) → length config.tasks ≤ first_counter_line → line < length config.tasks → line < first_counter_line
tasks_below config line few l = omega (arith, few, l)
