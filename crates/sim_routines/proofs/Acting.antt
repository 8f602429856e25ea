-- What an alarm does to the machine as it expires is what it does to the system.
use Rattle.std.proofs.Common.{◌≡◌, ℕ, ◌^◌, ◌<◌, ◌≤◌, List, length, refl, sym, ap, ◌∙◌, subst, arith, ⊎_elim, inr, true, false, cond}
use Rattle.std.specs.Prelude.{◌≢◌, ◌==◌, ◌&&◌, slice_index, slice_set, bit_and, bit_or}
use Rattle.std.proofs.lemmas.Bool.{cases_eq, cases_Bool, eq-eqb, ne_eqb, eqb-true, and_from, and_parts}
use Rattle.std.proofs.lemmas.List.{get_or-set_same, get_or-set_other, length-set}
use Rattle.std.proofs.lemmas.Nat.{or_of_32}
use Rattle.sloth_base.specs.declared.config.Action.{Action}
use Rattle.sloth_base.specs.declared.config.Action.TheVariants.{Activate, Set}
use Rattle.sloth_base.specs.Machine.{State}
use Rattle.sloth_base.specs.Limits.{task_limit}
use Rattle.sloth_base.specs.MemoryMap.{line_count}
use Rattle.sloth_region.specs.Layout.{active, events, wait}
use Rattle.rv32_instr.specs.Ram.{word_at, with_word}
use Rattle.masked_code.proofs.Words.{word_at-same, get_or-with_word, length-with_word, word_below}
use Rattle.block_parts.specs.SuspensionTest.{IsFoundSuspended}
use Rattle.service_gen.specs.Tick.{Ground, core_with_ground}
use Rattle.service_gen.specs.Tick as code
use Rattle.osek_scheduler.specs.declared.state.TaskState.{TaskState}
use Rattle.osek_scheduler.specs.declared.state.TaskState.TheVariants as mode
use Rattle.osek_scheduler.specs.State.{System, task}
use Rattle.osek_scheduler.specs.Priority.{is_active}
use Rattle.osek_scheduler.specs.Services.{if_suspended, activated_state, set_events, acted_state}
use Rattle.osek_scheduler.specs.Steps.{settled_state}
use Rattle.sim_relation.specs.Bounds.{AreBelow}
use Rattle.sim_relation.specs.Build.{Build, HasFittingPlaces}
use Rattle.sim_relation.specs.Changes.{system_with_task_state, TaskChange}
use Rattle.sim_relation.specs.ServiceWords.{IsWaitWord}
use Rattle.sim_relation.specs.Stands.{Stands, AreLineBytes}
use Rattle.sim_relation.proofs.Arrive.{is_suspended, not_suspended}
use Rattle.sim_relation.proofs.Changing.{change_stands}
use Rattle.sim_relation.proofs.Machines.{changed_machine}
use Rattle.sim_relation.proofs.Parts.{word_other}
use Rattle.sim_routines.proofs.Raising.{looks, is_so, readied, stayed}
use Rattle.sim_routines.proofs.TaskAfter.{state_after, after_active, after_awake, after_none, some_line, some_word, woken_is}
use Rattle.sim_routines.proofs.Clocks.{word_bytes}

-- an action names a task, and its events are a word
abbrev pub ActsOn : Build → Action → Type 0
ActsOn b (Activate t) = t < length b.config.tasks
ActsOn b (Set t mask) = (t < length b.config.tasks) × (mask < 2 ^ 32)

-- what the test of the code finds
tests_true : (p e w : ℕ) → ((p == 0) && ((e == 1) && (w == 0))) ≡ true → (w ≡ 0) × (p ≡ 0) × (e ≡ 1)
tests_true p e w h =
    let first = and_parts (p == 0) ((e == 1) && (w == 0)) h in
    let rest = and_parts (e == 1) (w == 0) first.1 in
    (eqb-true w 0 rest.1, eqb-true p 0 first.0, eqb-true e 1 rest.0)

true_tests : (p e w : ℕ) → w ≡ 0 → p ≡ 0 → e ≡ 1 → ((p == 0) && ((e == 1) && (w == 0))) ≡ true
true_tests p e w a c d = and_from (p == 0) ((e == 1) && (w == 0)) (eq-eqb p 0 c) (and_from (e == 1) (w == 0) (eq-eqb e 1 d) (eq-eqb w 0 a))

module _ (b : Build) (end : State) (fits : HasFittingPlaces b) where
  -- the machine at the end, with this ground
  abbrev pub at : Ground → State
  at g = record { pc = end.pc; core = core_with_ground end.core g }

  few_32 : length b.config.tasks ≤ line_count
  few_32 = let f = fits.few_tasks in omega arith

  -- the system stands there
  pub record Holds (g : Ground) (s : System) : Type 0 where
    pub stands : Stands b (at g) (settled_state s)
    pub bytes : AreBelow 256 g.ram

  -- ---- a line is raised

  activate_holds : (t : ℕ) → t < length b.config.tasks → (g : Ground) (s : System) → Holds g s → Holds (code.action_ground (Activate t) g) (acted_state (Activate t) s)
  activate_holds t declared g s h =
      ⊎_elim
      (λ (e : (task s t).state ≡ mode.Suspended).
      subst (λ x. Holds (code.raised_ground t g) x) (sym (ap (λ m. if_suspended m (activated_state s t) s) e))
      (record { stands = readied b (at g) (settled_state s) h.stands t declared few_32 e; bytes = h.bytes }))
      (λ (n : (task s t).state ≡ mode.Suspended → ⊥).
      subst (λ x. Holds (code.raised_ground t g) x) (sym (not_suspended (task s t).state (activated_state s t) s n))
      (record { stands = stayed b (at g) (settled_state s) h.stands t declared few_32 n; bytes = h.bytes }))
      (is_suspended (task s t).state)

  -- ---- events are set

  module _ (t mask : ℕ) (declared : t < length b.config.tasks) (word_mask : mask < 2 ^ 32) (g : Ground) (s : System) (h : Holds g s) where
    abbrev k : Stands b (at g) (settled_state s)
    k = h.stands

    few : t < task_limit
    few = let f = fits.few_tasks in omega arith

    abbrev now : ℕ
    now = bit_or (task s t).events mask

    abbrev word : ℕ
    word = code.grown_events t mask g

    abbrev awaited : ℕ
    awaited = word_at g.ram (wait t)

    word_is : word ≡ now
    word_is = ap (λ x. bit_or x mask) (k.words t declared).event_mask

    small : word < 2 ^ 32
    small = or_of_32 (word_at g.ram (events t)) mask (word_below g.ram (events t) h.bytes) word_mask

    waits : IsWaitWord (task s t).state awaited
    waits = (k.words t declared).wait_mask

    inside : t < length s.tasks
    inside = let v = k.tidy.tasks in omega arith

    -- the task has this state, and its line these bytes
    module _ (m : TaskState) (pending enabled : List ℕ) (awake : m ≢ mode.Suspended) (same_active : is_active m ≡ is_active (task s t).state)
        (own_line : AreLineBytes m (slice_index pending t) (slice_index enabled t)) (own_bit : slice_index pending t < 2) (wait_word : IsWaitWord m awaited)
        (long_p : length pending ≡ length g.pending) (long_e : length enabled ≡ length g.enabled)
        (other_p : (line : ℕ) → line ≢ t → slice_index pending line ≡ slice_index g.pending line)
        (other_e : (line : ℕ) → line ≢ t → slice_index enabled line ≡ slice_index g.enabled line) where
      abbrev after : Ground
      after = record { ram = with_word g.ram (events t) word; pending = pending; enabled = enabled }

      change : TaskChange b (at g) (at after) (settled_state s) t m now
      change =
          let f = few in
          let l = k.fixed.ram in
          record {
            same_active = same_active;
            awake = awake;
            machine = changed_machine b (at g) k.fixed end.pc after.ram pending enabled (length-with_word g.ram (events t) word) long_p long_e;
            pc = refl;
            registers = refl;
            level = refl;
            own_line = own_line;
            own_bit = own_bit;
            other_pending = other_p;
            other_enabled = other_e;
            high = λ i x. get_or-with_word g.ram (events t) word i (inr (omega arith));
            named = λ p x a n. word_other g.ram (events t) word p a (omega arith) n;
            event_word = word_at-same g.ram (events t) word (omega arith) small ∙ word_is;
            wait_word = subst (IsWaitWord m) (sym (word_other g.ram (events t) word (wait t) (omega arith) (omega arith) (λ e. omega arith))) wait_word;
          }

      changed : (next : System) → settled_state next ≡ system_with_task_state s t m now → Holds after next
      changed next e = record {
        stands = subst (Stands b (at after)) (sym e) (change_stands b (at g) (at after) (settled_state s) k fits t declared m now change);
        bytes = word_bytes g.ram (events t) word h.bytes;
      }

    abbrev state : TaskState
    state = (task s t).state

    abbrev both : ℕ
    both = bit_and word awaited

    both_is : both ≡ bit_and now awaited
    both_is = ap (λ x. bit_and x awaited) word_is

    is_next : settled_state (set_events t mask s) ≡ system_with_task_state s t (state_after state now) now
    is_next = woken_is s t now state inside refl

    abbrev set_ground : Ground
    set_ground = code.with_events t word g

    -- the task is not Suspended
    module _ (awake : state ≡ mode.Suspended → ⊥) where
      only_set : both ≡ 0 → Holds set_ground (set_events t mask s)
      only_set z =
          let none : bit_and now awaited ≡ 0 = sym both_is ∙ z in
          let same = after_none state now awaited none waits in
          changed (state_after state now) g.pending g.enabled (after_awake state now awake) (after_active state now)
          (subst (λ y. AreLineBytes y (slice_index g.pending t) (slice_index g.enabled t)) (sym same) (k.lines.each t declared)) (k.lines.bits t declared)
          (subst (λ y. IsWaitWord y awaited) (sym same) waits) refl refl (λ l n. refl) (λ l n. refl) (set_events t mask s) is_next

      also_woken : both ≢ 0 → Holds (code.woken_ground t set_ground) (set_events t mask s)
      also_woken n =
          let some : bit_and now awaited ≢ 0 = λ e. n (both_is ∙ e) in
          let m = state_after state now in
          let c = few in
          let f = k.fixed.pending in
          let e = k.fixed.enabled in
          let pending = slice_set g.pending t 1 in
          let enabled = slice_set g.enabled t 1 in
          let p : slice_index pending t ≡ 1 = get_or-set_same g.pending t 1 0 (omega arith) in
          let q : slice_index enabled t ≡ 1 = get_or-set_same g.enabled t 1 0 (omega arith) in
          changed m pending enabled (after_awake state now awake) (after_active state now)
          (subst (λ (x : ℕ). AreLineBytes m x (slice_index enabled t)) (sym p) (subst (λ (x : ℕ). AreLineBytes m 1 x) (sym q) (some_line state now awaited some waits awake)))
          (omega arith) (some_word state now awaited some waits) (length-set g.pending t 1) (length-set g.enabled t 1)
          (λ l x. get_or-set_other g.pending t l 1 0 x) (λ l x. get_or-set_other g.enabled t l 1 0 x) (set_events t mask s) is_next

      set_awake : Holds (code.with_set t mask g) (set_events t mask s)
      set_awake =
          ⊎_elim
          (λ (z : both ≡ 0). subst (λ x. Holds x (set_events t mask s)) (ap (λ c. cond c set_ground (code.woken_ground t set_ground)) (sym (eq-eqb both 0 z))) (only_set z))
          (λ (n : both ≢ 0). subst (λ x. Holds x (set_events t mask s)) (ap (λ c. cond c set_ground (code.woken_ground t set_ground)) (sym (ne_eqb both 0 n))) (also_woken n))
          (cases_eq both 0)

    set_holds : Holds (code.action_ground (Set t mask) g) (acted_state (Set t mask) s)
    set_holds =
        let p = slice_index g.pending t in
        let e = slice_index g.enabled t in
        let w = word_at g.ram (active t) in
        ⊎_elim
        (λ (y : code.is_suspended_task t g ≡ true).
        let looks_so : IsFoundSuspended t (at g).core = tests_true p e w y in
        let asleep : state ≡ mode.Suspended = is_so b (at g) (settled_state s) k t declared looks_so in
        subst (λ x. Holds (code.action_ground (Set t mask) g) x) (ap (λ m. if_suspended m s (set_events t mask s)) (sym asleep))
        (subst (λ x. Holds x s) (ap (λ c. cond c g (code.with_set t mask g)) (sym y)) h))
        (λ (n : code.is_suspended_task t g ≡ false).
        let awake : state ≡ mode.Suspended → ⊥ = λ z.
        let l = looks b (at g) (settled_state s) k t declared z in
        let y = true_tests p e w l.0 l.1 l.2 in cc
        in
        subst (λ x. Holds (code.action_ground (Set t mask) g) x) (sym (not_suspended state s (set_events t mask s) awake))
        (subst (λ x. Holds x (set_events t mask s)) (ap (λ c. cond c g (code.with_set t mask g)) (sym n)) (set_awake awake)))
        (cases_Bool (code.is_suspended_task t g))

  -- an action on both sides
  pub acts_hold : (action : Action) → ActsOn b action → (g : Ground) (s : System) → Holds g s → Holds (code.action_ground action g) (acted_state action s)
  acts_hold (Activate t) is g s h = activate_holds t is g s h
  acts_hold (Set t mask) is g s h = set_holds t mask is.0 is.1 g s h
