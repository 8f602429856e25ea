-- GetTaskState is a step, and the relation stands behind it.
use Rattle.std.proofs.Common.{◌≡◌, ℕ, ◌<◌, List, [], ◌∷◌, length, refl, sym, ap, ◌∙◌, subst, arith, true, cond}
use Rattle.std.specs.Prelude.{slice_index, Contains, ◌==◌}
use Rattle.std.specs.List.{AllByRecursion}
use Rattle.std.proofs.lemmas.Bool.{eq-eqb, ne_eqb, ltb-true}
use Rattle.sloth_base.specs.declared.service.Service.TheVariants as service
use Rattle.sloth_base.specs.Machine.{State}
use Rattle.sloth_region.specs.Layout.{active}
use Rattle.rv32_instr.specs.Ram.{word_at}
use Rattle.block_parts.specs.Back.{a1}
use Rattle.service_gen.specs.GetTaskState.{IsStateNumber, GetTaskStateEffect}
use Rattle.service_gen.specs.GetTaskState.IsStateNumber.{running, preempted, waiting, ready, suspended}
use Rattle.osek_scheduler.specs.declared.state.TaskState.{TaskState}
use Rattle.osek_scheduler.specs.declared.state.TaskState.TheVariants as mode
use Rattle.osek_scheduler.specs.State.{Task, System, task}
use Rattle.osek_scheduler.specs.Services.{is_there, state_number}
use Rattle.osek_scheduler.specs.Outcomes.{outcome}
use Rattle.sim_relation.specs.Build.{Build, HasFittingPlaces}
use Rattle.sim_relation.specs.ServiceWords.{active_word}
use Rattle.sim_relation.specs.Stands.{Stands, AreLineBytes}
use Rattle.sim_routines.specs.Served.{IsServiceAnswer}
use Rattle.sim_routines.specs.ServiceSteps.{MayGoOn}
use Rattle.sim_routines.proofs.GoesOn.{answers_number}

-- the number of an Active task's state
active_number : (m : TaskState) (word own object number : ℕ) → word ≡ active_word m → word ≡ 1 → number ≡ cond (object == own) 0 2 → number ≡ state_number own object m
active_number mode.Suspended word own object number w a n = absurd (omega arith)
active_number mode.Ready word own object number w a n = absurd (omega arith)
active_number mode.Active word own object number w a n = n
active_number (mode.Waiting mask) word own object number w a n = absurd (omega arith)

waiting_number : (m : TaskState) (word pending enabled own object : ℕ) → word ≡ active_word m → AreLineBytes m pending enabled → word ≡ 0 → enabled ≡ 0 → 1 ≡ state_number own object m
waiting_number mode.Suspended word pending enabled own object w l a e = let f = l.1 in absurd (omega arith)
waiting_number mode.Ready word pending enabled own object w l a e = let f = l.1 in absurd (omega arith)
waiting_number mode.Active word pending enabled own object w l a e = absurd (omega arith)
waiting_number (mode.Waiting mask) word pending enabled own object w l a e = refl

ready_number : (m : TaskState) (word pending enabled own object : ℕ) → word ≡ active_word m → AreLineBytes m pending enabled → word ≡ 0 → enabled ≡ 1 → pending ≡ 1 → 2 ≡ state_number own object m
ready_number mode.Suspended word pending enabled own object w l a e p = let f = l.0 in absurd (omega arith)
ready_number mode.Ready word pending enabled own object w l a e p = refl
ready_number mode.Active word pending enabled own object w l a e p = absurd (omega arith)
ready_number (mode.Waiting mask) word pending enabled own object w l a e p = absurd (omega arith)

suspended_number : (m : TaskState) (word pending enabled own object : ℕ) → word ≡ active_word m → AreLineBytes m pending enabled → word ≡ 0 → pending ≡ 0 → enabled ≡ 1 → 3 ≡ state_number own object m
suspended_number mode.Suspended word pending enabled own object w l a p e = refl
suspended_number mode.Ready word pending enabled own object w l a p e = let f = l.0 in absurd (omega arith)
suspended_number mode.Active word pending enabled own object w l a p e = absurd (omega arith)
suspended_number (mode.Waiting mask) word pending enabled own object w l a p e = absurd (omega arith)

module _ (b : Build) (state : State) (s : System) (k : Stands b state s) (own object : ℕ) (declared : object < length b.config.tasks) where
  abbrev word : ℕ
  word = word_at state.core.ram (active object)

  abbrev pending : ℕ
  pending = slice_index state.core.pending object

  abbrev enabled : ℕ
  enabled = slice_index state.core.enabled object

  word_is : word ≡ active_word (task s object).state
  word_is = (k.words object declared).activity

  line_is : AreLineBytes (task s object).state pending enabled
  line_is = k.lines.each object declared

  -- what the service tells is the number of the task's state
  number_is : (touched : List ℕ) (number : ℕ) → IsStateNumber object own state.core touched number → number ≡ state_number own object (task s object).state
  number_is touched number (running a same none n) =
      active_number (task s object).state word own object number word_is a (n ∙ sym (ap (λ x. cond x 0 2) (eq-eqb object own same)))
  number_is touched number (preempted a other none n) =
      active_number (task s object).state word own object number word_is a (n ∙ sym (ap (λ x. cond x 0 2) (ne_eqb object own other)))
  number_is touched number (waiting a e none n) = n ∙ waiting_number (task s object).state word pending enabled own object word_is line_is a e
  number_is touched number (ready a e p one n) = n ∙ ready_number (task s object).state word pending enabled own object word_is line_is a e p
  number_is touched number (suspended l one n) = n ∙ suspended_number (task s object).state word pending enabled own object word_is line_is l.0 l.1 l.2

  abbrev AreOne : List ℕ → Type 0
  AreOne touched = AllByRecursion (Contains (object ∷ object ∷ [])) touched

  one : AreOne (object ∷ [])
  one = ((0, (omega arith), refl), tt)

  -- at most the task's line is touched
  touches : (touched : List ℕ) (number : ℕ) → IsStateNumber object own state.core touched number → AreOne touched
  touches touched number (running a same none n) = subst AreOne (sym none) tt
  touches touched number (preempted a other none n) = subst AreOne (sym none) tt
  touches touched number (waiting a e none n) = subst AreOne (sym none) tt
  touches touched number (ready a e p is n) = subst AreOne (sym is) one
  touches touched number (suspended l is n) = subst AreOne (sym is) one

-- the number is that of the task's state
pub tells_state : (b : Build) (state : State) (s : System) (t : ℕ) (own : Task) (object : ℕ) (touched : List ℕ) (end : State) → HasFittingPlaces b
    → MayGoOn b state s t own service.GetTaskState object → GetTaskStateEffect object t touched state end → IsServiceAnswer b s t service.GetTaskState touched end
tells_state b state s t own object touched end fits may told =
    let is = may.is_served in
    let declared = ltb-true object (length b.config.tasks) may.names in
    let number = state_number t object (task s object).state in
    let number_at : slice_index end.core.registers a1 ≡ number = number_is b state s is.stands t object declared touched (slice_index end.core.registers a1) told.number in
    answers_number b state s t own service.GetTaskState is fits touched end object object
    (touches b state s is.stands t object declared touched (slice_index end.core.registers a1) told.number)
    (subst (λ o. is_there b.config own.held service.GetTaskState o ≡ true) (sym may.object_is) may.names)
    may.followed told.back told.status number number_at (ap (λ o. outcome b.config service.GetTaskState o is.opening.block.call.mask t s) may.object_is)
