-- How many counts that show no event stand in front of an entry or a tick.
use Rattle.std.proofs.Common.{◌≡◌, ℕ, ◌+◌, ◌-◌, ◌≤◌, length, true, false, cond, is_some, refl, ap, arith}
use Rattle.std.proofs.lemmas.Bool.{false≢true, and_parts}
use Rattle.sloth_base.specs.declared.config.Config.{Config}
use Rattle.sloth_base.specs.declared.app.App.{App}
use Rattle.sloth_base.specs.declared.service.Event.{Event}
use Rattle.sloth_base.specs.declared.service.Event.TheVariants as event
use Rattle.sloth_base.specs.Events.{admitted_line, is_boot}
use Rattle.osek_scheduler.specs.State.{System, opening}
use Rattle.osek_scheduler.proofs.Apart.{rank_active}
use Rattle.osek_blocking.proofs.Ordering.{opening_ordered, leads_ordered}
use Rattle.osek_blocking.specs.Pace.{takes_line}
use Rattle.sim_induction.specs.Pace.{ItemSizes, gap_counts}
use Rattle.sim_induction.specs.Mirror.{IsRunningTask}
use Rattle.run_counts.specs.Stages.{is_running}
use Rattle.run_counts.specs.OwnCounts.{IsBehindItem, IsGapWithin, RunsHaveShortGaps, RunsPreemptWithinItems}
use Rattle.run_counts.proofs.Running.{Decides-is_running, active_declared}
use Rattle.run_counts.proofs.Staged.{booted_before, all_stages}

-- an entry or a tick is no admission and no boot
pub line_facts : (what : Event) → takes_line what ≡ true → (is_some (admitted_line what) ≡ false) × (is_boot what ≡ false)
line_facts (event.Enter t) takes = (refl, refl)
line_facts (event.Tick c) takes = (refl, refl)
line_facts what takes = absurd (false≢true takes)

-- any item may have begun in front of it
line_gap : (size : ItemSizes) (longest : ℕ) (found : System) (what : Event) → takes_line what ≡ true → gap_counts size longest found what ≡ longest
line_gap size longest found (event.Enter t) takes = refl
line_gap size longest found (event.Tick c) takes = refl
line_gap size longest found what takes = absurd (false≢true takes)

pub short_gaps : RunsHaveShortGaps
short_gaps config app size longest n events run keeps =
    all_stages config app size longest n events keeps (IsGapWithin longest)
    (λ before e start s next led step goes begins takes.
    let facts = line_facts e.event takes in
    let soon = goes.begins facts.0 facts.1 in
    let gap = line_gap size longest s e.event takes in
    let front = ap (λ b. cond b 0 (e.stamp.from - start)) facts.0 in
    let near = begins (booted_before config app e.event s next step facts.1) in
    omega (arith, soon, gap, front, near))
    run

-- a task that runs is Active, of the greatest current priority of the Active ones
pub runs_greatest : (config : Config) (s : System) (t : ℕ) → length s.tasks ≡ length config.tasks → is_running config s t ≡ true → IsRunningTask config s t
runs_greatest config s t count is =
    let runs = (Decides-is_running config s t).0 is in
    record {
      declared = active_declared config s t count runs.0;
      active = runs.0;
      is_greatest = λ u declared active.
          let le = runs.1 u declared active in
          let one = rank_active config s u active in
          let two = rank_active config s t runs.0 in
          omega (arith, le, one, two);
    }

pub preempts_within : RunsPreemptWithinItems
preempts_within config app size longest n t events run keeps =
    all_stages config app size longest n events keeps (IsBehindItem config size t)
    (λ before e start s next led step goes begins is.
    let parts = and_parts (takes_line e.event) (is_running config s t) is in
    let facts = line_facts e.event parts.0 in
    let ordered = leads_ordered config app before (opening config app) s (opening_ordered config app) led in
    let soon = goes.preempts parts.0 t (runs_greatest config s t ordered.count parts.1) in
    let front = ap (λ b. cond b 0 (e.stamp.from - start)) facts.0 in
    let near = begins (booted_before config app e.event s next step facts.1) in
    omega (arith, soon, front, near))
    run
