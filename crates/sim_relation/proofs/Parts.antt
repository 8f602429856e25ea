-- What depends on one task alone.
use Rattle.std.proofs.Common.{◌≡◌, ℕ, ◌+◌, ◌*◌, ◌%◌, ◌<◌, List, [], ◌∷◌, length, get_or, set, refl, sym, ap, ◌∙◌, subst, arith, ⊎_elim, inl, inr, Bool, true, false, max}
use Rattle.std.specs.Prelude.{◌⊎◌, ◌≢◌, slice_index}
use Rattle.std.proofs.lemmas.Bool.{cases_eq, cases_order}
use Rattle.std.proofs.lemmas.List.{get_or-set_same, get_or-set_other}
use Rattle.sloth_base.specs.Machine.{State}
use Rattle.sloth_region.specs.Layout.{cur, below_word, active, events, wait, resume, saved_level}
use Rattle.rv32_instr.specs.Ram.{word_at, with_word}
use Rattle.masked_code.proofs.Words.{word_at-other}
use Rattle.osek_scheduler.specs.declared.state.TaskState.{TaskState}
use Rattle.osek_scheduler.specs.declared.state.TaskState.TheVariants as mode
use Rattle.osek_scheduler.specs.State.{Frame, Task, System, sleeping_task, task, with_task}
use Rattle.sloth_base.specs.Named.{declaration}
use Rattle.code_rules.specs.Code.{is_in}
use Rattle.osek_scheduler.specs.Priority.{is_active, ceiling, current_priority}
use Rattle.sloth_base.specs.PriorityLevels.{level_of}
use Rattle.sim_relation.specs.Build.{Build}
use Rattle.sim_relation.specs.Position.{thread_of}
use Rattle.sim_relation.specs.Context.{RunsFirst, IsRested, HasOwnContext}
use Rattle.sim_relation.specs.ServiceWords.{AreServiceWords, AreHeldWords, IsWaitWord, base_priority}
use Rattle.sim_relation.specs.Stands.{IsActiveTask, AreFalling, AreLineBytes}
use Rattle.sim_relation.specs.Framing.{AreSameBytes}
use Rattle.sim_relation.proofs.Alike.{SamePart}
use Rattle.std.specs.List.{AllByRecursion}
use Rattle.sim_relation.proofs.Framing.{word_kept, frames_kept, frames_below}
use Rattle.sim_relation.proofs.Contexts.{context_same, chain_kept}
use Rattle.sim_relation.proofs.Tops.{is_in-head, is_in-tail}

-- ---- one task's record

-- another task's record stays
pub other_task : (s : System) (t u : ℕ) (new : Task) → u ≢ t → task (with_task s t new) u ≡ task s u
other_task s t u new h = get_or-set_other s.tasks t u new sleeping_task h

-- the task's own record is the new one
pub this_task : (s : System) (t : ℕ) (new : Task) → t < length s.tasks → task (with_task s t new) t ≡ new
this_task s t new h = get_or-set_same s.tasks t new sleeping_task h

-- a fact on each element of a list, where one is written
pub by_element : {A : Type 0} (P : ℕ → A → Type 0) (xs : List A) (i : ℕ) (new none : A) → i < length xs → P i new → ((j : ℕ) → j ≢ i → P j (get_or xs j none))
    → (j : ℕ) → P j (get_or (set xs i new) j none)
by_element P xs i new none l here other j =
    ⊎_elim
    (λ (e : j ≡ i). subst (λ x. P x (get_or (set xs i new) x none)) (sym e) (subst (P i) (sym (get_or-set_same xs i new none l)) here))
    (λ (n : j ≡ i → ⊥). subst (P j) (sym (get_or-set_other xs i j new none n)) (other j n))
    (cases_eq j i)

-- a fact on each task, where one task changed
pub by_task : (P : ℕ → Task → Type 0) (s : System) (t : ℕ) (new : Task) → t < length s.tasks → P t new → ((u : ℕ) → u ≢ t → P u (task s u))
    → (u : ℕ) → P u (task (with_task s t new) u)
by_task P s t new l here other = by_element P s.tasks t new sleeping_task l here other

-- ---- the line of a task

-- what a line says of its task's state goes by its two bytes
pub line_same : (m : TaskState) (p q a d : ℕ) → q ≡ p → d ≡ a → AreLineBytes m p a → AreLineBytes m q d
line_same m p q a d e f h = subst (λ x. AreLineBytes m x d) (sym e) (subst (λ x. AreLineBytes m p x) (sym f) h)

pub line_active : (m : TaskState) (p a : ℕ) → m ≡ mode.Active → AreLineBytes m p a → AreLineBytes mode.Active p a
line_active mode.Active p a e h = h
line_active mode.Suspended p a e h = cc
line_active mode.Ready p a e h = cc
line_active (mode.Waiting w) p a e h = cc

-- ---- the stack

active_kept : (b : Build) (s next : System) (t : ℕ) → task next t ≡ task s t → IsActiveTask b s t → IsActiveTask b next t
active_kept b s next t e f = record { declared = f.declared; active = ap (λ v. v.state) e ∙ f.active }

-- priorities fall along the stack where its tasks are as before
pub falling_kept : (b : Build) (s next : System) (stack : List ℕ) → ((u : ℕ) → is_in u stack ≡ true → task next u ≡ task s u) → AreFalling b s stack → AreFalling b next stack
falling_kept b s next [] e f = tt
falling_kept b s next (t ∷ []) e f = active_kept b s next t (e t (is_in-head t [])) f
falling_kept b s next (t ∷ u ∷ below) e f = (
  active_kept b s next t (e t (is_in-head t (u ∷ below))) f.0,
  subst (λ v. current_priority b.config (declaration b.config u) v < (declaration b.config t).priority)
      (sym (e u (is_in-tail t u (u ∷ below) (is_in-head u below)))) f.1,
  falling_kept b s next (u ∷ below) (λ v h. e v (is_in-tail t v (u ∷ below) h)) f.2,
)

-- what holds of each task of the stack, along it
pub each_from : (P : ℕ → Type 0) (stack : List ℕ) → ((u : ℕ) → is_in u stack ≡ true → P u) → AllByRecursion P stack
each_from P [] h = tt
each_from P (t ∷ below) h = (h t (is_in-head t below), each_from P below (λ u k. h u (is_in-tail t u below k)))

-- what runs, and the chain, where the tasks of the stack are the same, as pc, registers, RAM and level are
pub running_tasks : (b : Build) (state now : State) (s next : System) (stack : List ℕ)
    → now.pc ≡ state.pc → now.core.registers ≡ state.core.registers → now.core.ram ≡ state.core.ram → now.core.ilevel ≡ state.core.ilevel
    → ((u : ℕ) → is_in u stack ≡ true → task next u ≡ task s u) → RunsFirst b state s stack → RunsFirst b now next stack
running_tasks b state now s next [] p x r l e k = record {
  level = l ∙ k.level;
  current = ap (λ q. word_at q cur) r ∙ k.current;
  pc = p ∙ k.pc;
  x2 = ap (λ q. slice_index q 2) x ∙ k.x2;
}
running_tasks b state now s next (t ∷ below) p x r l e k =
    let here = e t (is_in-head t below) in
    record {
      level = l ∙ k.level ∙ sym (ap (λ v. level_of b.config (current_priority b.config (declaration b.config t) v)) here);
      current = ap (λ q. word_at q cur) r ∙ k.current;
      place = k.place;
      context = context_same b state.core.ram now.core.ram t (task s t) (task next t) (thread_of state) (thread_of now) k.place here
          (record { pc = p; x2 = ap (λ q. slice_index q 2) x; x = λ i a c. ap (λ q. slice_index q i) x })
          (λ i a c. ap (λ q. slice_index q i) r) k.context;
      next = k.next;
      link = ap (λ q. word_at q below_word) r ∙ k.link;
      chain = chain_kept b state.core.ram now.core.ram s next (λ i a c. ap (λ q. slice_index q i) r) below k.next
          (each_from (SamePart b state.core.ram now.core.ram s next) below
          (λ u h. record { tasks = e u (is_in-tail t u below h); bytes = λ i a c. ap (λ q. slice_index q i) r }))
          k.chain;
    }

-- ---- service words

-- the saved levels stand where their words are the same
pub held_kept : (b : Build) (old new : List ℕ) (priority : ℕ) (held : List ℕ)
    → ((r : ℕ) → is_in r held ≡ true → word_at new (saved_level r) ≡ word_at old (saved_level r)) → AreHeldWords b old priority held → AreHeldWords b new priority held
held_kept b old new priority [] e h = tt
held_kept b old new priority (r ∷ held) e h = (
  e r (is_in-head r held) ∙ h.0,
  held_kept b old new (max priority (ceiling b.config r)) held (λ q k. e q (is_in-tail r q held k)) h.1,
)

rested_kept : (b : Build) (old new : List ℕ) (t : ℕ) (own : Task) (frame : Frame) (outer : List Frame) (place : ℕ)
    → word_at new (resume t) ≡ word_at old (resume t) → AreSameBytes old new (b.low t) (b.top t) → IsRested b old t own frame outer place → IsRested b new t own frame outer place
rested_kept b old new t own frame outer place e a k =
    let low = k.room in
    let top = frames_below b old frame outer (place + 128) (b.top t) k.frames in
    record {
      link = e ∙ k.link;
      inside = k.inside;
      pc = word_kept old new (b.low t) (b.top t) place a (omega arith) (omega arith) ∙ k.pc;
      registers = λ i l. k.registers i l ∙ sym (word_kept old new (b.low t) (b.top t) (place + 4 * (i + 5)) a (omega arith) (omega arith));
      frames = frames_kept b old new (b.low t) (b.top t) a frame outer (place + 128) (omega arith) k.frames;
      room = k.room;
      aligned = k.aligned;
    }

-- a task's word of its own context stands where it and the context are the same
pub resumes_kept : (b : Build) (old new : List ℕ) (t : ℕ) (own : Task) (a : Bool) (frames : List Frame)
    → word_at new (resume t) ≡ word_at old (resume t) → (a ≡ false → frames ≢ [] → AreSameBytes old new (b.low t) (b.top t)) → HasOwnContext b old t own a frames → HasOwnContext b new t own a frames
resumes_kept b old new t own true frames e g h = e ∙ h
resumes_kept b old new t own false [] e g h = e ∙ h
resumes_kept b old new t own false (frame ∷ outer) e g h = (h.0, rested_kept b old new t own frame outer h.0 e (g refl (λ x. cc)) h.1)

-- the service words of a task, where they stay, and its stack where it is to go on from a wait
pub service_kept : (b : Build) (old new : List ℕ) (t : ℕ) (own : Task)
    → word_at new (active t) ≡ word_at old (active t) → word_at new (events t) ≡ word_at old (events t) → word_at new (wait t) ≡ word_at old (wait t)
    → word_at new (resume t) ≡ word_at old (resume t)
    → ((r : ℕ) → is_in r own.held ≡ true → word_at new (saved_level r) ≡ word_at old (saved_level r))
    → (is_active own.state ≡ false → own.frames ≢ [] → AreSameBytes old new (b.low t) (b.top t)) → AreServiceWords b old t own → AreServiceWords b new t own
service_kept b old new t own ea ee ew er eh g k = record {
  activity = ea ∙ k.activity;
  event_mask = ee ∙ k.event_mask;
  wait_mask = subst (IsWaitWord own.state) (sym ew) k.wait_mask;
  resumption = resumes_kept b old new t own (is_active own.state) own.frames er g k.resumption;
  held = held_kept b old new (base_priority b t own) own.held eh k.held;
}

-- words at multiples of 4
pub word_other : (ram : List ℕ) (place value other : ℕ) → other % 4 ≡ 0 → place % 4 ≡ 0 → other ≢ place → word_at (with_word ram place value) other ≡ word_at ram other
word_other ram place value other a c h =
    word_at-other ram place value other
    (⊎_elim (λ (e : other ≡ place). absurd (h e))
    (λ (x : (other < place) ⊎ (place < other)). ⊎_elim (λ (y : other < place). inl (omega arith)) (λ (y : place < other). inr (omega arith)) x)
    (cases_order other place))

-- ---- a task that starts anew

-- a task with no frames has 0 as the word of its own context
pub rests : (b : Build) (ram : List ℕ) (t : ℕ) (own : Task) (a : Bool) (frames : List Frame) → frames ≡ [] → HasOwnContext b ram t own a frames → word_at ram (resume t) ≡ 0
rests b ram t own true frames e h = h
rests b ram t own false [] e h = h
rests b ram t own false (frame ∷ outer) e h = cc

-- and 0 is right there
pub anew : (b : Build) (ram : List ℕ) (t : ℕ) (own : Task) (a : Bool) (frames : List Frame) → frames ≡ [] → word_at ram (resume t) ≡ 0 → HasOwnContext b ram t own a frames
anew b ram t own true frames e h = h
anew b ram t own false [] e h = h
anew b ram t own false (frame ∷ outer) e h = cc
