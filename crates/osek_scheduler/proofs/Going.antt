-- A task that runs goes on.
use Rattle.std.proofs.Common.{◌≡◌, ℕ, ◌<◌, ◌≤◌, ◌⊎◌, List, [], ◌∷◌, ◌++◌, true, false, not, ◌&&◌, length, get_or, set, refl, sym, ap, ◌∙◌, subst, inl, inr, ⊎_elim}
use Rattle.std.proofs.lemmas.Bool.{true≢false, cases_eq, cases_lt}
use Rattle.std.proofs.lemmas.List.{length-set, get_or-set_same, get_or-set_other, set_past}
use Rattle.sloth_base.specs.declared.config.Config.{Config}
use Rattle.sloth_base.specs.declared.app.App.{App}
use Rattle.sloth_base.specs.declared.app.Op.{Op}
use Rattle.osek_scheduler.specs.declared.state.Alarm.{Alarm}
use Rattle.osek_scheduler.specs.declared.state.Counter.{Counter}
use Rattle.osek_scheduler.specs.declared.state.TaskState.TheVariants as mode
use Rattle.osek_scheduler.specs.State.{Frame, Task, Clock, System, sleeping_task, task, with_task, no_counter, with_counter, with_alarm}
use Rattle.osek_scheduler.specs.Meaning.{going_on_frame}
use Rattle.osek_scheduler.specs.Services.{moved_frames}
use Rattle.osek_scheduler.specs.Steps.{settled_state, IsAt}
use Rattle.sloth_base.specs.Named.{declaration, counter_declaration}
use Rattle.code_rules.specs.Code.{IsItem, is_followed, held_after, is_in}
use Rattle.osek_scheduler.proofs.Facts.{Facts}
use Rattle.code_rules.specs.WellFormed.{held_list_before, HasEvents}
use Rattle.osek_scheduler.specs.Valid.{MayHold, IsFrame, IsCalledFrom, AreCalls, held_by, AreDistinct, InState, IsValidTask, IsTimed, IsValid}
use Rattle.osek_scheduler.proofs.Held.{falls_inside, falls_holds}

-- a fact on each thing of a list, where one is written
pub at_set : {A : Type 0} (xs : List A) (t u : ℕ) (new none : A) (P : A → Type 0) → P (get_or xs u none) → (u ≡ t → P new) → P (get_or (set xs t new) u none)
at_set xs t u new none P same here = by (cases_eq u t)
  where
    within : (u < length xs) ⊎ (length xs ≤ u) → u ≡ t → P (get_or (set xs t new) u none)
    within (inl lt) e =
        let Q : ℕ → Type 0 = λ x. x < length xs → P (get_or (set xs t new) x none) in
        subst Q (sym e) (λ l. subst P (sym (get_or-set_same xs t new none l)) (here e)) lt
    within (inr past) e = subst (λ l. P (get_or l u none)) (sym (set_past xs t new (subst (λ x. length xs ≤ x) e past))) same

    by : (u ≡ t) ⊎ (u ≡ t → ⊥) → P (get_or (set xs t new) u none)
    by (inl e) = within (cases_lt u (length xs)) e
    by (inr n) = subst P (sym (get_or-set_other xs t u new none n)) same

-- ---- the whole state

module _ (config : Config) (app : App) where
  -- one task's record changes
  pub keeps : (s : System) (t : ℕ) (new : Task) → IsValid config app s → s.booted ≡ true → t < length config.tasks → IsValidTask config app t new
      → IsValid config app (with_task s t new)
  keeps s t new v booted declared good = record {
    count = length-set s.tasks t new ∙ v.count;
    each = λ u lt.
        ⊎_elim
        (λ (e : u ≡ t).
        subst (λ x. IsValidTask config app x (task (with_task s t new) x)) (sym e)
        (subst (IsValidTask config app t) (sym (get_or-set_same s.tasks t new sleeping_task (subst (λ n. t < n) (sym v.count) declared))) good))
        (λ (n : u ≡ t → ⊥). subst (IsValidTask config app u) (sym (get_or-set_other s.tasks t u new sleeping_task n)) (v.each u lt))
        (cases_eq u t);
    sizes = v.sizes;
    asleep = λ e. absurd (true≢false (sym booted ∙ e));
    clock = v.clock;
  }

  -- the counters and alarms change
  clock_kept : (s : System) (new : Clock) → IsValid config app s → IsTimed config new → IsValid config app (record s { clock = new })
  clock_kept s new v timed = record { count = v.count; each = v.each; sizes = v.sizes; asleep = v.asleep; clock = timed }

  -- one alarm changes
  pub alarm_kept : (s : System) (a : ℕ) (new : Alarm) → IsValid config app s → IsValid config app (with_alarm s a new)
  alarm_kept s a new v =
      clock_kept s (record s.clock { alarms = set s.clock.alarms a new }) v
      (record { counters = v.clock.counters; alarms = length-set s.clock.alarms a new ∙ v.clock.alarms; values = v.clock.values })

  -- one counter changes
  pub counter_kept : (s : System) (c : ℕ) (new : Counter) → IsValid config app s → new.value ≤ (counter_declaration config c).max
      → IsValid config app (with_counter s c new)
  counter_kept s c new v le =
      clock_kept s (record s.clock { counters = set s.clock.counters c new }) v
      (record {
        counters = length-set s.clock.counters c new ∙ v.clock.counters;
        alarms = v.clock.alarms;
        values = λ d. at_set s.clock.counters c d new no_counter (λ (k : Counter). k.value ≤ (counter_declaration config d).max) (v.clock.values d)
            (λ e. subst (λ x. new.value ≤ (counter_declaration config x).max) (sym e) le);
      })

  pub settles : (s : System) → IsValid config app s → IsValid config app (settled_state s)
  settles s v = record { count = v.count; each = v.each; sizes = v.sizes; asleep = v.asleep; clock = v.clock }

-- the state of each task stays where that of the changed one does
pub state_kept : (s : System) (t u : ℕ) (new : Task) → new.state ≡ (task s t).state → (task (with_task s t new) u).state ≡ (task s u).state
state_kept s t u new e =
    at_set s.tasks t u new sleeping_task (λ (k : Task). k.state ≡ (task s u).state) refl (λ is. e ∙ ap (λ x. (task s x).state) (sym is))

-- ---- one task

-- the innermost frame of a task that runs, at an operation
pub record Running (config : Config) (app : App) (t : ℕ) (k : Task) (frame : Frame) (outer : List Frame) (o : Op) : Type 0 where
  pub declared : t < length config.tasks
  pub active : k.state ≡ mode.Active
  pub free : k.owed ≡ false
  pub frames : k.frames ≡ frame ∷ outer
  pub is_frame : IsFrame app frame
  pub called : IsCalledFrom app t frame.func outer
  pub item : IsItem app frame.func frame.item o
  pub held : k.held ≡ held_by app outer ++ held_list_before app frame.func frame.item
  pub raised : k.raised ≡ ((declaration config t).non && not k.owed)
  pub registers : length k.registers ≡ 25
  pub listed : (r : ℕ) → is_in r k.held ≡ true → MayHold config t r
  pub distinct : AreDistinct k.held
  pub events : HasEvents (declaration config t) k.events

pub running : (config : Config) (app : App) (s : System) (t : ℕ) (o : Op) → IsValid config app s → t < length config.tasks → (at : IsAt app s t o)
    → Running config app t (task s t) at.frame at.outer o
running config app s t o v declared at =
    let k = v.each t declared in
    let stack = subst (AreCalls app t) at.frames k.calls in
    let state = subst (InState config t (task s t)) at.active k.in_state in
    record {
      declared = declared;
      active = at.active;
      free = at.free;
      frames = at.frames;
      is_frame = stack.0;
      called = stack.1;
      item = record { known = stack.0.known; inside = at.inside; is = at.next };
      held = k.held ∙ ap (held_by app) at.frames;
      raised = state.1;
      registers = k.registers;
      listed = k.listed;
      distinct = k.distinct;
      events = k.events;
    }

-- a task that runs and owes nothing, with these frames
pub runs_on : (config : Config) (app : App) (t : ℕ) (new : Task) (frame : Frame) (outer : List Frame) → new.state ≡ mode.Active
    → new.frames ≡ frame ∷ outer → IsFrame app frame → IsCalledFrom app t frame.func outer
    → new.held ≡ held_by app outer ++ held_list_before app frame.func frame.item → new.raised ≡ ((declaration config t).non && not new.owed)
    → (new.owed ≡ true → new.held ≡ []) → length new.registers ≡ 25 → ((r : ℕ) → is_in r new.held ≡ true → MayHold config t r) → AreDistinct new.held
    → HasEvents (declaration config t) new.events → IsValidTask config app t new
runs_on config app t new frame outer active frames is_frame called held raised owed registers listed distinct events = record {
  registers = registers;
  events = events;
  calls = subst (AreCalls app t) (sym frames) (is_frame, called);
  held = held ∙ ap (held_by app) (sym frames);
  listed = listed;
  distinct = distinct;
  in_state = subst (InState config t new) (sym active) (λ e. nonempty new.frames frames e, raised, owed);
}
  where
    nonempty : (fs : List Frame) → fs ≡ frame ∷ outer → fs ≡ [] → ⊥
    nonempty [] a b = absurd cc
    nonempty (x ∷ xs) a b = absurd cc

module _ (config : Config) (app : App) (w : Facts config app) (t : ℕ) (k : Task) (frame : Frame) (outer : List Frame) (o : Op)
    (r : Running config app t k frame outer o) where
  -- what is held stays with the next frame where that frame is before the same list
  same_held : (new : List ℕ) (next : Frame) → new ≡ k.held → held_list_before app next.func next.item ≡ held_list_before app frame.func frame.item
      → new ≡ held_by app outer ++ held_list_before app next.func next.item
  same_held new next e h = e ∙ r.held ∙ ap (λ l. held_by app outer ++ l) (sym h)

  -- the next place is fallen into
  pub next_frame : is_followed o ≡ true → IsFrame app (going_on_frame frame)
  next_frame goes = record { known = r.is_frame.known; inside = falls_inside config app w frame.func frame.item o r.item goes; words = r.is_frame.words }

  pub falls_on : (new : Task) → is_followed o ≡ true → new.state ≡ k.state → new.frames ≡ moved_frames k.frames
      → new.held ≡ held_by app outer ++ held_after o (held_list_before app frame.func frame.item) → new.raised ≡ ((declaration config t).non && not new.owed)
      → (new.owed ≡ true → new.held ≡ []) → length new.registers ≡ 25 → ((q : ℕ) → is_in q new.held ≡ true → MayHold config t q) → AreDistinct new.held
      → HasEvents (declaration config t) new.events → IsValidTask config app t new
  falls_on new goes state frames held raised owed registers listed distinct events =
      runs_on config app t new (going_on_frame frame) outer (state ∙ r.active) (frames ∙ ap moved_frames r.frames) (next_frame goes) r.called
      (held ∙ ap (λ l. held_by app outer ++ l) (sym (falls_holds config app w frame.func frame.item o r.item goes)))
      raised owed registers listed distinct events

  -- it goes on with what it holds
  pub goes_on : (new : Task) → is_followed o ≡ true → ((held : List ℕ) → held_after o held ≡ held) → new.state ≡ k.state → new.frames ≡ moved_frames k.frames
      → new.held ≡ k.held → new.raised ≡ k.raised → new.owed ≡ k.owed → length new.registers ≡ 25
      → HasEvents (declaration config t) new.events → IsValidTask config app t new
  goes_on new goes holds state frames held raised owed registers events =
      falls_on new goes state frames (held ∙ r.held ∙ ap (λ l. held_by app outer ++ l) (sym (holds _)))
      (raised ∙ r.raised ∙ ap (λ b. (declaration config t).non && not b) (sym owed))
      (λ e. absurd (true≢false (sym e ∙ owed ∙ r.free))) registers
      (λ q h. r.listed q (sym (ap (is_in q) held) ∙ h)) (subst AreDistinct (sym held) r.distinct) events

  -- it runs on in another frame of the same function, before which the same is held
  pub goes_to : (new : Task) (next : Frame) → new.state ≡ k.state → new.frames ≡ next ∷ outer → next.func ≡ frame.func → IsFrame app next
      → held_list_before app next.func next.item ≡ held_list_before app frame.func frame.item
      → new.held ≡ k.held → new.raised ≡ k.raised → new.owed ≡ k.owed → length new.registers ≡ 25
      → HasEvents (declaration config t) new.events → IsValidTask config app t new
  goes_to new next state frames same is_frame holds held raised owed registers events =
      runs_on config app t new next outer (state ∙ r.active) frames is_frame (subst (λ f. IsCalledFrom app t f outer) (sym same) r.called)
      (same_held new.held next held holds)
      (raised ∙ r.raised ∙ ap (λ b. (declaration config t).non && not b) (sym owed))
      (λ e. absurd (true≢false (sym e ∙ owed ∙ r.free))) registers
      (λ q h. r.listed q (sym (ap (is_in q) held) ∙ h)) (subst AreDistinct (sym held) r.distinct) events
