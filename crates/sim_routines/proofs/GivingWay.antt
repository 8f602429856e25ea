-- Schedule is a step, and the relation stands behind it: the task owes the way back.
use Rattle.std.proofs.Common.{◌≡◌, ℕ, ◌+◌, ◌<◌, ◌⊎◌, List, [], ◌∷◌, length, set, refl, sym, ap, ◌∙◌, subst, arith, inl, inr, true, false}
use Rattle.std.specs.Prelude.{slice_index, Contains, max, map, cond}
use Rattle.std.specs.List.{AllByRecursion}
use Rattle.std.proofs.lemmas.Bool.{cases_eq}
use Rattle.std.proofs.lemmas.List.{get_or-set_same, get_or-set_other, length-set}
use Rattle.sloth_base.specs.Status.{E_OK}
use Rattle.sloth_base.specs.declared.config.TaskDecl.{TaskDecl}
use Rattle.sloth_base.specs.declared.service.Service.TheVariants as service
use Rattle.sloth_base.specs.Machine.{State}
use Rattle.sloth_base.specs.PriorityLevels.{level_of}
use Rattle.sloth_region.specs.Layout.{cur}
use Rattle.rv32_instr.specs.Ram.{word_at}
use Rattle.service_gen.specs.Schedule.{ScheduleEffect}
use Rattle.osek_scheduler.specs.State.{Task, System, task, with_task}
use Rattle.sloth_base.specs.Named.{declaration}
use Rattle.osek_scheduler.specs.Meaning.{going_on_frame}
use Rattle.osek_scheduler.specs.Priority.{current_priority, greatest, ceiling, highest_priority}
use Rattle.osek_scheduler.specs.Services.{answered_task, is_there, moved_frames}
use Rattle.sim_relation.specs.Build.{Build, HasFittingPlaces}
use Rattle.sim_relation.specs.Context.{RunsTask}
use Rattle.sim_relation.specs.Moves.{moved_system}
use Rattle.sim_relation.specs.Position.{AreFrames, IsPosition, thread_of}
use Rattle.sim_relation.specs.ServiceWords.{AreHeldWords, base_priority}
use Rattle.sim_relation.specs.Stands.{Stands, IsActiveTask}
use Rattle.sim_relation.proofs.Fresh.{start_priority}
use Rattle.sim_routines.specs.Opening.{AtOpening}
use Rattle.sim_routines.specs.Served.{IsServed, IsServiceAnswer}
use Rattle.sim_routines.specs.ServiceSteps.{MayGoOn, MayGiveWay}
use Rattle.sim_routines.proofs.GoesOn.{active, frames_are, stood, long_registers, held_registers, answers_so}
use Rattle.sim_routines.proofs.OtherLevel.{at_other_level}

-- the priority of a task that holds nothing and has no internal resource
plain_priority : (b : Build) (d : TaskDecl) (own : Task) → own.held ≡ [] → own.raised ≡ false → current_priority b.config d own ≡ d.priority
plain_priority b d own h r =
    ap (λ (x : List ℕ). max d.priority (max (greatest (map (ceiling b.config) x)) (cond own.raised (highest_priority b.config) 0))) h
    ∙ ap (λ x. max d.priority (max 0 (cond x (highest_priority b.config) 0))) r
    ∙ (let e : max d.priority (max 0 0) ≡ d.priority = omega arith in e)

module _ (b : Build) (state : State) (s : System) (t : ℕ) (called : Task) (object offset : ℕ) (touched : List ℕ) (end : State) (fits : HasFittingPlaces b)
    (may : MayGoOn b state s t called service.Schedule object) (way : MayGiveWay b t called offset) (effect : ScheduleEffect offset t touched state end) where
  abbrev is : IsServed b state s t called service.Schedule
  is = may.is_served

  abbrev k : Stands b state s
  k = is.stands

  abbrev opening : AtOpening b state t called service.Schedule
  opening = is.opening

  abbrev own : Task
  own = task s t

  abbrev registers : List ℕ
  registers = set own.registers 5 E_OK

  abbrev own_now : Task
  own_now = record (answered_task E_OK own) { raised = false; owed = true }

  here : IsActiveTask b s t
  here = active b state s t called service.Schedule is fits

  holds_nothing : own.held ≡ []
  holds_nothing = ap (λ (o : Task). o.held) is.own_is ∙ way.holds_nothing

  raised : own.raised ≡ (declaration b.config t).non
  raised = ap (λ (o : Task). o.raised) is.own_is ∙ way.raised

  long : length own.registers ≡ 25
  long = long_registers b state s t called service.Schedule is fits

  held : (i : ℕ) → i < 25 → slice_index own.registers i ≡ slice_index state.core.registers (i + 5)
  held = held_registers b state s t called service.Schedule is fits

  same : (i : ℕ) → i < 25 → slice_index registers i ≡ slice_index end.core.registers (i + 5)
  same i l = by (cases_eq i 5)
    where
      by : (i ≡ 5) ⊎ (i ≡ 5 → ⊥) → slice_index registers i ≡ slice_index end.core.registers (i + 5)
      by (inl e) = subst (λ j. slice_index registers j ≡ slice_index end.core.registers (j + 5)) (sym e)
          (get_or-set_same own.registers 5 E_OK 0 (let g = long in omega arith) ∙ sym effect.status)
      by (inr n) =
          get_or-set_other own.registers 5 i E_OK 0 n ∙ held i l
          ∙ sym (effect.kept (i + 5) (omega arith) (λ e. n (omega arith)) (λ e. absurd (omega arith)))

  at_ram : (P : List ℕ → Type 0) → P state.core.ram → P end.core.ram
  at_ram P h = subst P (sym effect.left.ram) h

  position : (below : List ℕ) (run : RunsTask b state s t below) → IsPosition b end.core.ram t own_now (thread_of end) run.place
  position below run =
      record {
        frame = going_on_frame opening.frame;
        outer = opening.outer;
        frames = ap moved_frames (frames_are b state s t called service.Schedule is fits);
        inside = may.followed.more;
        here = inr (inl (record {
          owes = refl;
          frames = at_ram (λ r. AreFrames b r (going_on_frame opening.frame) opening.outer run.place (b.top t))
              (stood b state s t called service.Schedule is fits run.place run.context.position);
          pc = effect.pc ∙ sym way.back;
          returns = effect.kept 31 (omega arith) (λ e. absurd (omega arith)) (λ e. absurd (omega arith)) ∙ opening.block.returns ∙ sym may.followed.adjacent;
          level = effect.level ∙ run.level ∙ ap (level_of b.config) (start_priority b.config t own holds_nothing raised);
        }));
      }

  stands : Stands b end (moved_system s t own_now s.symbols)
  stands =
      at_other_level b state s k fits t opening.current 0 own_now (slice_index state.core.levels t) state.core.ram end
      (record {
        left = effect.left;
        x2 = effect.x2;
        active = here.active;
        events = refl;
        long = length-set own.registers 5 E_OK ∙ long;
        same = same;
        words = subst (λ x. AreHeldWords b state.core.ram (base_priority b t own_now) x) (sym holds_nothing) tt;
        few = (k.tidy.each t here.declared).few;
        ram_long = refl;
        high = λ i h. refl;
        named = λ p a n. refl;
        others = λ u r l n i. refl;
        level_is = λ below run. k.lines.levels t here.declared
            ∙ ap (level_of b.config) (sym (plain_priority b (declaration b.config t) own_now holds_nothing refl));
        position = position;
      })

  pub gives_way : IsServiceAnswer b s t service.Schedule touched end
  gives_way =
      answers_so b state s t called service.Schedule is fits touched end t t
      (subst (AllByRecursion (Contains (t ∷ t ∷ []))) (sym effect.touches) tt)
      (subst (λ o. is_there b.config called.held service.Schedule o ≡ true) (sym may.object_is) may.names)
      E_OK effect.status (with_task s t own_now) refl stands
      (ap (λ r. word_at r cur) effect.left.ram)
