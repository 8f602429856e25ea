-- A task's line is raised: it is Ready where it was Suspended, and nothing else has changed.
use Rattle.std.proofs.Common.{◌≡◌, ℕ, ◌<◌, ◌≤◌, [], ◌∷◌, length, refl, sym, ap, ◌∙◌, subst, arith}
use Rattle.std.specs.Prelude.{◌≢◌, slice_index}
use Rattle.sloth_base.specs.Arrive.{state_arrive}
use Rattle.sloth_base.specs.Machine.{State}
use Rattle.sloth_base.specs.MemoryMap.{line_count}
use Rattle.sloth_region.specs.Layout.{active}
use Rattle.rv32_instr.specs.Ram.{word_at}
use Rattle.block_parts.specs.SuspensionTest.{IsFoundSuspended}
use Rattle.osek_scheduler.specs.declared.state.TaskState.{TaskState}
use Rattle.osek_scheduler.specs.declared.state.TaskState.TheVariants as mode
use Rattle.osek_scheduler.specs.State.{System, task}
use Rattle.osek_scheduler.specs.Services.{if_suspended, activated_state, ServiceOutcome}
use Rattle.osek_scheduler.specs.Steps.{admitted_state, settled_state}
use Rattle.sim_relation.specs.Build.{Build}
use Rattle.sim_relation.specs.Progress.{passed_count_of, HasPassed}
use Rattle.sim_relation.specs.ServiceWords.{active_word}
use Rattle.sim_relation.specs.Stands.{Stands, AreLineBytes}
use Rattle.sim_relation.proofs.Arrive.{arrived_one, not_suspended, stands_fresh}
use Rattle.sim_relation.proofs.Parts.{other_task}
use Rattle.sim_relation.proofs.Placed.{active_by_word}

-- what the kernel's words say of a task
looks_of : (m : TaskState) (word pending enabled : ℕ) → word ≡ active_word m → AreLineBytes m pending enabled → m ≡ mode.Suspended → (word ≡ 0) × (pending ≡ 0) × (enabled ≡ 1)
looks_of mode.Suspended word pending enabled w l e = (w, l.0, l.1)
looks_of mode.Ready word pending enabled w l e = cc
looks_of mode.Active word pending enabled w l e = cc
looks_of (mode.Waiting mask) word pending enabled w l e = cc

of_looks : (m : TaskState) (word pending enabled : ℕ) → word ≡ active_word m → AreLineBytes m pending enabled → word ≡ 0 → pending ≡ 0 → enabled ≡ 1 → m ≡ mode.Suspended
of_looks mode.Suspended word pending enabled w l x y z = refl
of_looks mode.Ready word pending enabled w l x y z = let p = l.0 in absurd (omega arith)
of_looks mode.Active word pending enabled w l x y z = absurd (omega arith)
of_looks (mode.Waiting mask) word pending enabled w l x y z = absurd (omega arith)

active_small : (m : TaskState) (word : ℕ) → word ≡ active_word m → word < 2
active_small mode.Suspended word e = omega arith
active_small mode.Ready word e = omega arith
active_small mode.Active word e = omega arith
active_small (mode.Waiting mask) word e = omega arith

enabled_small : (m : TaskState) (pending enabled : ℕ) → AreLineBytes m pending enabled → enabled < 2
enabled_small mode.Suspended pending enabled l = let e = l.1 in omega arith
enabled_small mode.Ready pending enabled l = let e = l.1 in omega arith
enabled_small mode.Active pending enabled l = omega arith
enabled_small (mode.Waiting mask) pending enabled l = omega arith

-- the first or the second outcome
pub first_outcome : (m : TaskState) (first second : ServiceOutcome) → m ≡ mode.Suspended → if_suspended m first second ≡ first
first_outcome m first second e = ap (λ n. if_suspended n first second) e

-- of a task that is not Suspended, the second outcome
pub second_outcome : (m : TaskState) (first second : ServiceOutcome) → (m ≡ mode.Suspended → ⊥) → if_suspended m first second ≡ second
second_outcome mode.Suspended first second n = absurd (n refl)
second_outcome mode.Ready first second n = refl
second_outcome mode.Active first second n = refl
second_outcome (mode.Waiting mask) first second n = refl

module _ (b : Build) (state : State) (s : System) (k : Stands b state s) (u : ℕ) (declared : u < length b.config.tasks) where
  word_is : word_at state.core.ram (active u) ≡ active_word (task s u).state
  word_is = (k.words u declared).activity

  line_is : AreLineBytes (task s u).state (slice_index state.core.pending u) (slice_index state.core.enabled u)
  line_is = k.lines.each u declared

  -- what the code looks at says of a Suspended task that it is
  pub looks : (task s u).state ≡ mode.Suspended → IsFoundSuspended u state.core
  looks e = looks_of (task s u).state (word_at state.core.ram (active u)) (slice_index state.core.pending u) (slice_index state.core.enabled u) word_is line_is e

  -- and of no other
  pub is_so : IsFoundSuspended u state.core → (task s u).state ≡ mode.Suspended
  is_so h = of_looks (task s u).state (word_at state.core.ram (active u)) (slice_index state.core.pending u) (slice_index state.core.enabled u) word_is line_is h.0 h.1 h.2

  -- the words and bytes that it looks at are bits
  pub active_bit : word_at state.core.ram (active u) < 2
  active_bit = active_small (task s u).state (word_at state.core.ram (active u)) word_is

  pub enabled_bit : slice_index state.core.enabled u < 2
  enabled_bit = enabled_small (task s u).state (slice_index state.core.pending u) (slice_index state.core.enabled u) line_is

  module _ (few : length b.config.tasks ≤ line_count) where
    one : Stands b (state_arrive (u ∷ []) state) (admitted_state u s)
    one = arrived_one b state s u k declared few

    -- a Suspended task is Ready now
    pub readied : (task s u).state ≡ mode.Suspended → Stands b (state_arrive (u ∷ []) state) (settled_state (activated_state s u))
    readied e =
        stands_fresh b (state_arrive (u ∷ []) state) (record (activated_state s u) { fresh = u ∷ s.fresh }) []
        (subst (λ x. Stands b (state_arrive (u ∷ []) state) x) (ap (λ m. if_suspended m (record (activated_state s u) { fresh = u ∷ s.fresh }) s) e) one)

    -- and what runs has passed what it had
    pub readied_passed : (task s u).state ≡ mode.Suspended → HasPassed b state s → HasPassed b (state_arrive (u ∷ []) state) (settled_state (activated_state s u))
    readied_passed e ran t named =
        let active = (active_by_word b state s t k named).active in
        let other : t ≢ u = λ same. let asleep : (task s t).state ≡ mode.Suspended = ap (λ x. (task s x).state) same ∙ e in cc in
        subst (λ own. b.passed t ≤ passed_count_of b.app b.places state.pc own) (sym (other_task s u t (record (task s u) { state = mode.Ready }) other)) (ran t named)

    -- any other task stays as it was
    pub stayed : ((task s u).state ≡ mode.Suspended → ⊥) → Stands b (state_arrive (u ∷ []) state) s
    stayed n = subst (λ x. Stands b (state_arrive (u ∷ []) state) x) (not_suspended (task s u).state (record (activated_state s u) { fresh = u ∷ s.fresh }) s n) one
