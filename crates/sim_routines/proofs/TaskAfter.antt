-- The state of a task whose events are set: a task that waits for one of them is Ready.
use Rattle.std.proofs.Common.{◌≡◌, ℕ, ◌<◌, length, refl, sym, ap, ◌∙◌, subst, Bool, true, false, cond}
use Rattle.std.specs.Prelude.{◌≢◌, ◌==◌, bit_and}
use Rattle.std.proofs.lemmas.Bool.{ne_eqb, eq-eqb}
use Rattle.std.proofs.lemmas.List.{set-set}
use Rattle.osek_scheduler.specs.declared.state.TaskState.{TaskState}
use Rattle.osek_scheduler.specs.declared.state.TaskState.TheVariants as mode
use Rattle.osek_scheduler.specs.State.{System, task, with_task}
use Rattle.osek_scheduler.specs.Priority.{is_active}
use Rattle.osek_scheduler.specs.Services.{woken_state, with_events}
use Rattle.osek_scheduler.specs.Steps.{settled_state}
use Rattle.sim_relation.specs.Changes.{system_with_task_state}
use Rattle.sim_relation.specs.ServiceWords.{IsWaitWord}
use Rattle.sim_relation.specs.Stands.{AreLineBytes}
use Rattle.sim_relation.proofs.Parts.{this_task}

abbrev pub state_after : TaskState → ℕ → TaskState
state_after (mode.Waiting mask) now = cond (bit_and now mask == 0) (mode.Waiting mask) mode.Ready
state_after mode.Suspended now = mode.Suspended
state_after mode.Ready now = mode.Ready
state_after mode.Active now = mode.Active

by_active : (c : Bool) (w : ℕ) → is_active (cond c (mode.Waiting w) mode.Ready) ≡ false
by_active true w = refl
by_active false w = refl

-- an Active task stays Active, and no other becomes so
pub after_active : (m : TaskState) (now : ℕ) → is_active (state_after m now) ≡ is_active m
after_active (mode.Waiting w) now = by_active (bit_and now w == 0) w
after_active mode.Suspended now = refl
after_active mode.Ready now = refl
after_active mode.Active now = refl

by_awake : (c : Bool) (w : ℕ) → cond c (mode.Waiting w) mode.Ready ≡ mode.Suspended → ⊥
by_awake true w h = cc
by_awake false w h = cc

-- a task that is not Suspended does not become so
pub after_awake : (m : TaskState) (now : ℕ) → m ≢ mode.Suspended → state_after m now ≢ mode.Suspended
after_awake (mode.Waiting w) now n = by_awake (bit_and now w == 0) w
after_awake mode.Suspended now n = n
after_awake mode.Ready now n = n
after_awake mode.Active now n = n

-- none of the set events is in the word of those that it waits for
pub after_none : (m : TaskState) (now word : ℕ) → bit_and now word ≡ 0 → IsWaitWord m word → state_after m now ≡ m
after_none (mode.Waiting w) now word z h =
    let e : bit_and now w ≡ 0 = ap (bit_and now) (sym h) ∙ z in
    ap (λ (c : Bool). cond c (mode.Waiting w) mode.Ready) (eq-eqb (bit_and now w) 0 e)
after_none mode.Suspended now word z h = refl
after_none mode.Ready now word z h = refl
after_none mode.Active now word z h = refl

-- one is
after_some : (w now word : ℕ) → bit_and now word ≢ 0 → word ≡ w → state_after (mode.Waiting w) now ≡ mode.Ready
after_some w now word z h =
    ap (λ (c : Bool). cond c (mode.Waiting w) mode.Ready) (ne_eqb (bit_and now w) 0 (λ e. z (ap (bit_and now) h ∙ e)))

-- where an awaited event is set the line is pending and enabled
pub some_line : (m : TaskState) (now word : ℕ) → bit_and now word ≢ 0 → IsWaitWord m word → m ≢ mode.Suspended → AreLineBytes (state_after m now) 1 1
some_line (mode.Waiting w) now word z h n = subst (λ m. AreLineBytes m 1 1) (sym (after_some w now word z h)) (refl, refl)
some_line mode.Suspended now word z h n = absurd (n refl)
some_line mode.Ready now word z h n = (refl, refl)
some_line mode.Active now word z h n = refl

-- and the word of awaited events may stay as it is
pub some_word : (m : TaskState) (now word : ℕ) → bit_and now word ≢ 0 → IsWaitWord m word → IsWaitWord (state_after m now) word
some_word (mode.Waiting w) now word z h = subst (λ m. IsWaitWord m word) (sym (after_some w now word z h)) tt
some_word mode.Suspended now word z h = tt
some_word mode.Ready now word z h = tt
some_word mode.Active now word z h = tt

-- ---- the abstract state

by_woken : (s : System) (u now w : ℕ) (c : Bool) → u < length s.tasks → (task s u).state ≡ mode.Waiting w
    → settled_state (cond c (with_events s u now) (with_task (with_events s u now) u (record (task (with_events s u now) u) { state = mode.Ready })))
    ≡ settled_state (with_task s u (record (task s u) { state = cond c (mode.Waiting w) mode.Ready; events = now }))
by_woken s u now w true l e = ap (λ m. settled_state (with_task s u (record (task s u) { state = m; events = now }))) e
by_woken s u now w false l e =
    ap (λ x. settled_state (with_task (with_events s u now) u (record x { state = mode.Ready }))) (this_task s u (record (task s u) { events = now }) l)
    ∙ ap (λ l. settled_state (record s { tasks = l })) (set-set s.tasks u (record (task s u) { events = now }) (record (task s u) { state = mode.Ready; events = now }))

-- the record of the task whose events are set
pub woken_is : (s : System) (u now : ℕ) (m : TaskState) → u < length s.tasks → (task s u).state ≡ m
    → settled_state (woken_state m now u (with_events s u now)) ≡ system_with_task_state s u (state_after m now) now
woken_is s u now (mode.Waiting w) l e = by_woken s u now w (bit_and now w == 0) l e
woken_is s u now mode.Suspended l e = ap (λ m. settled_state (with_task s u (record (task s u) { state = m; events = now }))) e
woken_is s u now mode.Ready l e = ap (λ m. settled_state (with_task s u (record (task s u) { state = m; events = now }))) e
woken_is s u now mode.Active l e = ap (λ m. settled_state (with_task s u (record (task s u) { state = m; events = now }))) e
