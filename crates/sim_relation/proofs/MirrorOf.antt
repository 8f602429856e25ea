-- The relation gives the mirror.
use Rattle.std.proofs.Common.{◌≡◌, ℕ, ◌+◌, ◌<◌, List, [], ◌∷◌, length, subst, arith, ⊎_elim, true, eqb}
use Rattle.std.specs.Prelude.{slice_index}
use Rattle.std.proofs.lemmas.Bool.{eqb-true, or_cases, false≢true}
use Rattle.sloth_base.specs.Machine.{State}
use Rattle.sloth_region.specs.Layout.{cur}
use Rattle.rv32_instr.specs.Ram.{word_at}
use Rattle.osek_scheduler.specs.declared.state.TaskState.{TaskState}
use Rattle.osek_scheduler.specs.declared.state.TaskState.TheVariants as mode
use Rattle.osek_scheduler.specs.State.{System, task}
use Rattle.code_rules.specs.Code.{is_in}
use Rattle.sim_induction.specs.Mirror.{Mirror, IsRunningTask, priority_of}
use Rattle.sloth_base.specs.PriorityLevels.{level_of}
use Rattle.sim_relation.specs.Build.{Build}
use Rattle.sim_relation.specs.Context.{RunsFirst}
use Rattle.sim_relation.specs.Stands.{Stands, AreLineBytes, AreActive}
use Rattle.sim_relation.proofs.Tops.{static_le, below_first, falling_head}

line_suspended : (m : TaskState) (pending enabled : ℕ) → m ≡ mode.Suspended → AreLineBytes m pending enabled → (enabled ≡ 1) × (pending ≡ 0)
line_suspended mode.Suspended p e q h = (h.1, h.0)
line_suspended mode.Ready p e q h = cc
line_suspended mode.Active p e q h = cc
line_suspended (mode.Waiting w) p e q h = cc

line_ready : (m : TaskState) (pending enabled : ℕ) → m ≡ mode.Ready → AreLineBytes m pending enabled → (enabled ≡ 1) × (pending ≡ 1)
line_ready mode.Suspended p e q h = cc
line_ready mode.Ready p e q h = (h.1, h.0)
line_ready mode.Active p e q h = cc
line_ready (mode.Waiting w) p e q h = cc

line_waiting : (m : TaskState) (mask pending enabled : ℕ) → m ≡ mode.Waiting mask → AreLineBytes m pending enabled → enabled ≡ 0
line_waiting mode.Suspended mask p e q h = cc
line_waiting mode.Ready mask p e q h = cc
line_waiting mode.Active mask p e q h = cc
line_waiting (mode.Waiting w) mask p e q h = h

-- the task that runs by the abstract machine is the first of the stack
pub first_is : (b : Build) (s : System) (t : ℕ) (below : List ℕ) → AreActive b s (t ∷ below) → (u : ℕ) → IsRunningTask b.config s u → t ≡ u
first_is b s t below a u r =
    ⊎_elim (λ (e : eqb t u ≡ true). eqb-true t u e)
    (λ (k : is_in u below ≡ true).
    let h = falling_head b s t below a.falling in
    let lower = below_first b s t below a.falling u k in
    let most = r.is_greatest t h.declared h.active in
    let q = static_le b.config s t in
    absurd (omega arith))
    (or_cases (eqb t u) (is_in u below) (a.all u r.declared r.active))

runs : (b : Build) (state : State) (s : System) (stack : List ℕ) → AreActive b s stack → RunsFirst b state s stack → (u : ℕ) → IsRunningTask b.config s u
    → (state.core.ilevel ≡ level_of b.config (priority_of b.config s u)) × (word_at state.core.ram cur ≡ u + 1)
runs b state s [] a k u r = let e = a.all u r.declared r.active in absurd (false≢true e)
runs b state s (t ∷ below) a k u r =
    subst (λ v. (state.core.ilevel ≡ level_of b.config (priority_of b.config s v)) × (word_at state.core.ram cur ≡ v + 1)) (first_is b s t below a u r)
    (k.level, k.current)

idles : (b : Build) (state : State) (s : System) (stack : List ℕ) → AreActive b s stack → RunsFirst b state s stack
    → ((t : ℕ) → t < length b.config.tasks → ¬ ((task s t).state ≡ mode.Active)) → (state.core.ilevel ≡ 0) × (word_at state.core.ram cur ≡ 0)
idles b state s [] a k none = (k.level, k.current)
idles b state s (t ∷ below) a k none = let h = falling_head b s t below a.falling in absurd (none t h.declared h.active)

pub mirror_of : (b : Build) (state : State) (s : System) → Stands b state s → Mirror b.config state.core s
mirror_of b state s k = record {
  suspended = λ t h e. line_suspended (task s t).state (slice_index state.core.pending t) (slice_index state.core.enabled t) e (k.lines.each t h);
  ready = λ t h e. line_ready (task s t).state (slice_index state.core.pending t) (slice_index state.core.enabled t) e (k.lines.each t h);
  waiting = λ t mask h e. line_waiting (task s t).state mask (slice_index state.core.pending t) (slice_index state.core.enabled t) e (k.lines.each t h);
  running = λ t r. runs b state s k.stack k.active k.running t r;
  counters = λ c declared. let own = k.lines.counters c declared in (own.enabled, own.pending);
  idle = λ none. idles b state s k.stack k.active k.running none;
}
