-- A step of the running task that changes only its own stack and the data is a move.
use Rattle.std.proofs.Common.{inr, ◌≡◌, ℕ, ◌+◌, ◌<◌, ◌≤◌, List, ◌∷◌, length, sym, ap, ◌∙◌, subst, arith, Bool, true, false, cond, max}
use Rattle.std.specs.Prelude.{◌≢◌, map}
use Rattle.sloth_base.specs.Machine.{State}
use Rattle.sloth_base.specs.declared.config.Config.{Config}
use Rattle.sloth_base.specs.declared.config.TaskDecl.{TaskDecl}
use Rattle.sloth_region.specs.Layout.{cur, below_word, active, events, wait, resume, saved_level}
use Rattle.rv32_instr.specs.Ram.{word_at}
use Rattle.osek_scheduler.specs.State.{Frame, Task, System, task}
use Rattle.sloth_base.specs.Named.{declaration}
use Rattle.code_rules.specs.Code.{is_in}
use Rattle.osek_scheduler.specs.Priority.{is_active, highest_priority, ceiling, greatest, current_priority}
use Rattle.sloth_base.specs.PriorityLevels.{level_of}
use Rattle.sim_relation.specs.Build.{Build, HasFittingPlaces}
use Rattle.sim_relation.specs.Context.{RunsFirst, RunsTask, HasOwnContext}
use Rattle.sim_relation.specs.ServiceWords.{AreServiceWords, AreHeldWords, IsWaitWord, active_word}
use Rattle.sim_relation.specs.Stands.{Stands, IsActiveTask, AreActive, IsTidyTask}
use Rattle.sim_relation.specs.Moves.{moved_system, TaskMove, TaskStep}
use Rattle.sim_relation.proofs.ClockKept.{clock_low}
use Rattle.sim_relation.proofs.Framing.{word_kept}
use Rattle.sim_relation.proofs.Parts.{service_kept, held_kept}
use Rattle.sim_relation.proofs.TaskMoves.{task_moves}
use Rattle.sim_relation.proofs.Tops.{falling_head}

-- the priority depends on what is held and raised
pub same_current : (config : Config) (d : TaskDecl) (own new : Task) → new.held ≡ own.held → new.raised ≡ own.raised → current_priority config d new ≡ current_priority config d own
same_current config d own new h r =
    ap (λ (x : List ℕ). max d.priority (max (greatest (map (ceiling config) x)) (cond new.raised (highest_priority config) 0))) h
    ∙ ap (λ (x : Bool). max d.priority (max (greatest (map (ceiling config) own.held)) (cond x (highest_priority config) 0))) r

-- an Active task has 0 as the word of its own context
pub active_resumes : (b : Build) (ram : List ℕ) (t : ℕ) (own : Task) (a : Bool) (frames : List Frame) → a ≡ true → HasOwnContext b ram t own a frames → word_at ram (resume t) ≡ 0
active_resumes b ram t own true frames e h = h
active_resumes b ram t own false frames e h = cc

-- and 0 is right there
pub resumes_active : (b : Build) (ram : List ℕ) (t : ℕ) (own : Task) (a : Bool) (frames : List Frame) → a ≡ true → word_at ram (resume t) ≡ 0 → HasOwnContext b ram t own a frames
resumes_active b ram t own true frames e h = h
resumes_active b ram t own false frames e h = cc

module _ (b : Build) (old now : State) (s : System) (k : Stands b old s) (fits : HasFittingPlaces b) (t : ℕ) (below : List ℕ) (stack_is : k.stack ≡ t ∷ below)
    (own : Task) (symbols : List (List ℕ)) (step : TaskStep b old now s t own symbols) where
  stack : AreActive b s (t ∷ below)
  stack = subst (AreActive b s) stack_is k.active

  run : RunsTask b old s t below
  run = subst (RunsFirst b old s) stack_is k.running

  here : IsActiveTask b s t
  here = falling_head b s t below stack.falling

  low_word : (place : ℕ) → place + 4 ≤ 1024 → word_at now.core.ram place ≡ word_at old.core.ram place
  low_word place h = word_kept old.core.ram now.core.ram 0 1024 place step.low (omega arith) (omega arith)

  held_word : (u : ℕ) → u < length b.config.tasks → (r : ℕ) → is_in r (task s u).held ≡ true → word_at now.core.ram (saved_level r) ≡ word_at old.core.ram (saved_level r)
  held_word u h r a = let l = (k.tidy.each u h).few r a in low_word (saved_level r) (omega arith)

  own_words : AreServiceWords b now.core.ram t own
  own_words =
      let h = here.declared in
      let w = k.words t h in
      let f = fits.few_tasks in
      let a : is_active own.state ≡ true = ap is_active step.active in
      record {
        activity = low_word (active t) (omega arith) ∙ w.activity ∙ ap active_word here.active ∙ sym (ap active_word step.active);
        event_mask = low_word (events t) (omega arith) ∙ w.event_mask ∙ sym step.events;
        wait_mask = subst (λ m. IsWaitWord m (word_at now.core.ram (wait t))) (sym step.active) tt;
        resumption = resumes_active b now.core.ram t own (is_active own.state) own.frames a
            (low_word (resume t) (omega arith)
            ∙ active_resumes b old.core.ram t (task s t) (is_active (task s t).state) (task s t).frames (ap is_active here.active) w.resumption);
        held = subst (λ (v : List ℕ). AreHeldWords b now.core.ram (max (declaration b.config t).priority (cond own.raised (highest_priority b.config) 0)) v) (sym step.held)
            (subst (λ (v : Bool). AreHeldWords b now.core.ram (max (declaration b.config t).priority (cond v (highest_priority b.config) 0)) (task s t).held) (sym step.raised)
            (held_kept b old.core.ram now.core.ram _ (task s t).held (held_word t h) w.held));
      }

  other_words : (u : ℕ) → u < length b.config.tasks → u ≢ t → AreServiceWords b now.core.ram u (task s u)
  other_words u h m =
      let f = fits.few_tasks in
      service_kept b old.core.ram now.core.ram u (task s u)
      (low_word (active u) (omega arith)) (low_word (events u) (omega arith)) (low_word (wait u) (omega arith)) (low_word (resume u) (omega arith))
      (held_word u h) (λ a f. step.others u h m (inr f)) (k.words u h)

  tidy : IsTidyTask own
  tidy = record {
    registers = step.registers;
    at_rest = λ a. let c = ap is_active step.active in cc;
    asleep = λ a. let c = step.active in cc;
    few = λ r a. (k.tidy.each t here.declared).few r (subst (λ l. is_in r l ≡ true) step.held a);
  }

  move : TaskMove b old now s t own symbols
  move =
      record {
        machine = step.machine;
        active = step.active;
        level = step.level ∙ run.level ∙ sym (ap (level_of b.config) (same_current b.config (declaration b.config t) (task s t) own step.held step.raised));
        current = low_word cur (omega arith);
        link = low_word below_word (omega arith);
        idle = λ i x y. step.low i (omega arith) (omega arith);
        code = step.code;
        others = step.others;
        own_words = own_words;
        other_words = other_words;
        tidy = tidy;
        place = step.place;
        context = step.context;
        clock = clock_low b old.core.ram now.core.ram s.clock fits step.low k.clock;
        data_stands = step.data_stands;
      }

  pub task_steps : Stands b now (moved_system s t own symbols)
  task_steps = task_moves b old now s k t below stack_is own symbols move
