-- What `debug` shows of tasks where the relation stands.
use Rattle.std.proofs.Common.{◌≡◌, ◌≢◌, ℕ, ◌+◌, ◌-◌, ◌*◌, ◌%◌, ◌<◌, ◌≤◌, ◌==◌, ◌||◌, Bool, List, [], ◌∷◌, length, Option, Some, None, true, false, if◌then◌else◌, refl, sym, ap, ◌∙◌, subst, arith, ⊎_elim, eqb}
use Rattle.std.specs.Prelude.{slice_index}
use Rattle.std.proofs.lemmas.Bool.{and_from, cases_Bool, eq-eqb, eqb-true, false≢true, le-leb, lt-leb, lt-ltb, ne_eqb, or_cases}
use Rattle.sloth_base.specs.Limits.{task_limit}
use Rattle.sloth_base.specs.Machine.{State}
use Rattle.sloth_base.specs.MemoryMap.{memory_base, memory_bytes, vectors_base}
use Rattle.sloth_base.specs.Take.{entry_state, execution_state, line_to_take}
use Rattle.sloth_region.specs.Layout.{active, below_word, context_bytes, cur, resume}
use Rattle.code_rules.specs.Code.{is_in}
use Rattle.rv32_instr.specs.Memory.{Memory, memory_of}
use Rattle.rv32_instr.specs.Ram.{word_at}
use Rattle.rv32_expand.specs.Expansion.{item_address}
use Rattle.osek_scheduler.specs.Priority.{is_active}
use Rattle.osek_scheduler.specs.State.{Frame, System, task}
use Rattle.osek_scheduler.specs.declared.state.TaskState.{TaskState}
use Rattle.osek_scheduler.specs.declared.state.TaskState.TheVariants as mode
use Rattle.sim_relation.specs.Build.{Build, HasFittingPlaces, frame_bytes}
use Rattle.sim_relation.specs.Context.{HasOwnContext, IsRested, IsSaved, RunsFirst, RunsTask}
use Rattle.sim_relation.specs.Position.{thread_at, thread_of}
use Rattle.sim_relation.specs.ServiceWords.{active_word}
use Rattle.sim_relation.specs.Stands.{AreActive, Stands}
use Rattle.sim_relation.proofs.Room.{frames_top, funcs_of}
use Rattle.sim_relation.proofs.Tops.{below_other, falling_head, falling_tail}
use Rattle.debug_view.specs.Contexts.{task_context, context_register, fresh_register, is_word, kept_register, chain_context, preempted, register_by, waiting, whole, whole_found, loaded_word, word_or_zero}
use Rattle.debug_view.specs.Looks.{named}
use Rattle.debug_view.specs.Registers.{executed_csr, is_live, machine_register, thread_register}
use Rattle.debug_view.specs.RightValues.{IsHighestActive}
use Rattle.debug_view.specs.TaskRegisters.{AreCalls, HasCalls}
use Rattle.debug_view.proofs.ContextChains.{IsFound, few_active, further, is_there, number_there, walk, word_there}
use Rattle.debug_view.proofs.Open.{first_highest}
use Rattle.debug_view.proofs.Places.{IsAtPlace, at_item, calls, calls_at}

same : (x : Bool) → (x || x) ≡ x
same true = refl
same false = refl

-- an active task is the only kind whose word is 1
other_word : (st : TaskState) → is_active st ≡ false → active_word st ≡ 0
other_word mode.Suspended h = refl
other_word mode.Ready h = refl
other_word mode.Active h = cc
other_word (mode.Waiting mask) h = refl

not_active : (st : TaskState) → is_active st ≡ false → ¬ (st ≡ mode.Active)
not_active st h e = false≢true (sym h ∙ ap is_active e)

is_other : (st : TaskState) → is_active st ≡ true → st ≡ mode.Active
is_other mode.Suspended h = cc
is_other mode.Ready h = cc
is_other mode.Active h = refl
is_other (mode.Waiting mask) h = cc

-- a line that is taken leaves the registers
same_registers : (state : State) (line : Option ℕ) → (entry_state line state).core.registers ≡ state.core.registers
same_registers state None = refl
same_registers state (Some line) = refl

pub rests_so : (st : TaskState) → st ≢ mode.Active → is_active st ≡ false
rests_so mode.Suspended h = refl
rests_so mode.Ready h = refl
rests_so mode.Active h = absurd (h refl)
rests_so (mode.Waiting mask) h = refl

module _ (b : Build) (state : State) (s : System) (fits : HasFittingPlaces b) (k : Stands b state s) (many : ℕ) (all : many ≡ length b.config.tasks)
    (t : ℕ) (declared : t < length b.config.tasks) where
  abbrev memory : Memory
  memory = memory_of state.core

  few : t < task_limit
  few = let f = fits.few_tasks in omega (arith, declared, f)

  -- ---- who runs

  -- a thread is that of the machine where the task is the one that the first word names
  live_is : (n : ℕ) → named many (word_at state.core.ram cur) ≡ n → is_live many None state (t + 2) ≡ (n + 1 == t + 2)
  live_is n is =
      ap (λ x. x || (named many (word_at state.core.ram cur) + 1 == t + 2 || named many (word_at state.core.ram cur) + 1 == t + 2)) (ne_eqb (t + 2) 1 (λ e. omega (arith, e)))
      ∙ same (named many (word_at state.core.ram cur) + 1 == t + 2) ∙ ap (λ v. v + 1 == t + 2) is

  named_is : (r : ℕ) → word_at state.core.ram cur ≡ r → r ≤ length b.config.tasks → named many (word_at state.core.ram cur) ≡ r
  named_is r is l = ap (named many) is ∙ ap (λ x. if x then r else 0) (le-leb r many (omega (arith, l, all)))

  -- each register of what runs is the machine's
  live : (number : ℕ) → word_at state.core.ram cur ≡ t + 1 → thread_register many None state (t + 2) number ≡ Some (machine_register state number)
  live number is =
      let same_thread = live_is (t + 1) (named_is (t + 1) is (omega (arith, declared))) ∙ eq-eqb (t + 1 + 1) (t + 2) (omega arith) in
      ap (λ x. if x then Some (machine_register state number) else kept_register memory many (t + 2 - 2) number) same_thread

  -- one of x5 to x29
  running : (i r : ℕ) → i < 25 → r ≡ t → word_at state.core.ram cur ≡ r + 1
      → thread_register many None state (t + 2) (i + 5) ≡ Some (slice_index state.core.registers (i + 5))
  running i r within is named_so =
      live (i + 5) (named_so ∙ ap (λ n. n + 1) is)
      ∙ ap (λ x. Some (if x then slice_index (entry_state (line_to_take state) state).core.registers (i + 5) else (if i + 5 == 32 then (execution_state state).pc else executed_csr (execution_state state).core (i + 5))))
      (lt-ltb (i + 5) 32 (omega (arith, within)))
      ∙ ap (λ registers. Some (slice_index registers (i + 5))) (same_registers state (line_to_take state))

  -- one that is kept
  kept : (number n : ℕ) → word_at state.core.ram cur ≡ n → n ≤ length b.config.tasks → (n ≡ t + 1 → ⊥)
      → thread_register many None state (t + 2) number ≡ register_by (task_context memory many t) memory t number
  kept number n is l other =
      let live = live_is n (named_is n is l) ∙ ne_eqb (n + 1) (t + 2) (λ e. other (omega (arith, e))) in
      let itself : t + 2 - 2 ≡ t = omega arith in
      ap (λ x. if x then Some (machine_register state number) else kept_register memory many (t + 2 - 2) number) live
      ∙ ap (λ u. kept_register memory many u number) itself
      ∙ ap (λ x. if x then None else register_by (task_context memory many t) memory t number) (lt-leb task_limit t few)

  -- ---- contexts

  -- a register in a context
  in_context : (place i : ℕ) → place % 4 ≡ 0 → place + 128 ≤ memory_bytes → i < 25
      → context_register memory (memory_base + place) (i + 5) ≡ Some (word_at state.core.ram (place + 4 * (i + 5)))
  in_context place i even inside within =
      rw (ne_eqb (i + 5) 0 (λ e. omega (arith, e)), ne_eqb (i + 5) 2 (λ e. omega (arith, e)), le-leb 5 (i + 5) (omega arith), le-leb (i + 5) 31 (omega (arith, within)))
      (ap (λ a. loaded_word memory a) (further state place (4 * (i + 5)) (omega (arith, inside, within)))
      ∙ word_there state (place + 4 * (i + 5)) (omega (arith, even)) (omega (arith, inside, within)))

  -- the pc there
  pc_in_context : (place number : ℕ) → number ≡ 32 → place % 4 ≡ 0 → place + 128 ≤ memory_bytes
      → context_register memory (memory_base + place) number ≡ Some (word_at state.core.ram place)
  pc_in_context place number is even inside =
      rw (ne_eqb number 0 (λ e. omega (arith, e, is)), ne_eqb number 2 (λ e. omega (arith, e, is)), le-leb 5 number (omega (arith, is)), lt-leb number 31 (omega (arith, is)), eq-eqb number 32 is)
      (word_there state place even (omega (arith, inside)))

  whole_there : (place : ℕ) → place % 4 ≡ 0 → place + 128 ≤ memory_bytes → whole memory (memory_base + place) ≡ Some (memory_base + place)
  whole_there place even inside =
      ap (λ x. if x then Some (memory_base + place) else None)
      (and_from _ _ (is_there state place even (omega (arith, inside)))
      (ap (λ a. is_word memory a) (further state place 124 (omega (arith, inside))) ∙ is_there state (place + 124) (omega (arith, even)) (omega (arith, inside))))

  activity : word_or_zero memory (memory_base + active t) ≡ active_word (task s t).state
  activity = number_there state (active t) (omega arith) (omega (arith, few)) ∙ (k.words t declared).activity

  -- ---- of an Active task

  -- of a preempted one
  module _ (r : ℕ) (rest : List ℕ) (runs : RunsTask b state s r rest) (stacked : AreActive b s (r ∷ rest)) (among : is_in t rest ≡ true)
      (is_so : (task s t).state ≡ mode.Active) where
    pub link : IsFound state b s fits (many + 1) runs.next t
    link =
        let falls = falling_tail b s r rest stacked.falling in
        let few_links = few_active b s rest falls in
        walk state b s fits rest runs.next (many + 1) t falls runs.chain (omega (arith, few_links, all)) among

    pub shown_below : (number : ℕ) → thread_register many None state (t + 2) number ≡ context_register memory (memory_base + link.at) number
    shown_below number =
        let head = (falling_head b s r rest stacked.falling).declared in
        let other = below_other b s r rest stacked.falling t among in
        let first : word_or_zero memory (memory_base + below_word) ≡ memory_base + runs.next = number_there state below_word (omega arith) (omega arith) ∙ runs.link in
        let entered : (word_or_zero memory (memory_base + active t) == 1) ≡ true = ap (λ n. n == 1) (activity ∙ ap active_word is_so) in
        kept number (r + 1) runs.current (omega (arith, head)) (λ x. other (omega (arith, x)))
        ∙ ap (λ x. register_by (if x then preempted memory many t else waiting memory t) memory t number) entered
        ∙ ap (λ a. register_by (whole_found (chain_context memory (many + 1) a t) memory) memory t number) first
        ∙ ap (λ found. register_by (whole_found found memory) memory t number) link.found
        ∙ ap (λ found. register_by found memory t number) (whole_there link.at link.even link.inside)

    of_preempted : (i : ℕ) → i < 25 → thread_register many None state (t + 2) (i + 5) ≡ Some (slice_index (task s t).registers i)
    of_preempted i within =
        shown_below (i + 5) ∙ in_context link.at i link.even link.inside within ∙ ap (λ v. Some v) (sym (link.saved.context.registers i within))

  by_stack : (i : ℕ) (stack : List ℕ) → i < 25 → AreActive b s stack → RunsFirst b state s stack → (task s t).state ≡ mode.Active
      → thread_register many None state (t + 2) (i + 5) ≡ Some (slice_index (task s t).registers i)
  by_stack i [] within stacked runs is_so = absurd (false≢true (stacked.all t declared is_so))
  by_stack i (r ∷ stack) within stacked runs is_so =
      ⊎_elim
      (λ (e : eqb r t ≡ true).
      let is = eqb-true r t e in
      let context = subst (λ u. (j : ℕ) → j < 25 → slice_index (task s u).registers j ≡ slice_index state.core.registers (j + 5)) is runs.context.registers in
      running i r within is runs.current ∙ ap (λ v. Some v) (sym (context i within)))
      (λ (among : is_in t stack ≡ true). of_preempted r stack runs stacked among is_so i within)
      (or_cases (eqb r t) (is_in t stack) (stacked.all t declared is_so))

  pub of_active : (i : ℕ) → i < 25 → (task s t).state ≡ mode.Active → thread_register many None state (t + 2) (i + 5) ≡ Some (slice_index (task s t).registers i)
  of_active i within is_so = by_stack i k.stack within k.active k.running is_so

  -- ---- where an Active task stands

  -- what is shown of a preempted one is its context
  record IsBelow : Type 0 where
    at : ℕ
    saved : IsSaved b state.core.ram s t at
    even : at % 4 ≡ 0
    inside : at + 128 ≤ memory_bytes
    shown : (number : ℕ) → thread_register many None state (t + 2) number ≡ context_register memory (memory_base + at) number

  -- the highest Active task is no other than the first of the stack
  none_higher : (h r : ℕ) (stack : List ℕ) → AreActive b s (r ∷ stack) → IsHighestActive b.config s h → r ≢ h → ⊥
  none_higher h r stack stacked highest other =
      let first = first_highest b s r stack stacked in
      let above = first.above h highest.declared highest.active (λ q. other (sym q)) in
      let beneath = highest.above r first.declared first.active other in
      omega (arith, above, beneath)

  below_by_stack : (h : ℕ) (stack : List ℕ) → AreActive b s stack → RunsFirst b state s stack → IsHighestActive b.config s h → t ≢ h
      → (task s t).state ≡ mode.Active → IsBelow
  below_by_stack h [] stacked runs highest other is_so = absurd (false≢true (stacked.all t declared is_so))
  below_by_stack h (r ∷ stack) stacked runs highest other is_so =
      ⊎_elim
      (λ (e : eqb r t ≡ true). (let is = eqb-true r t e in absurd (none_higher h r stack stacked highest (λ q. other (sym is ∙ q)))))
      (λ (among : is_in t stack ≡ true).
      let found = link r stack runs stacked among is_so in record {
        at = found.at;
        saved = found.saved;
        even = found.even;
        inside = found.inside;
        shown = λ number. shown_below r stack runs stacked among is_so number;
      })
      (or_cases (eqb r t) (is_in t stack) (stacked.all t declared is_so))

  module _ (h : ℕ) (frame : Frame) (outer : List Frame) (highest : IsHighestActive b.config s h) (other : t ≢ h) (is_so : (task s t).state ≡ mode.Active)
      (begun : (task s t).frames ≡ frame ∷ outer) where
    below : IsBelow
    below = below_by_stack h k.stack k.active k.running highest other is_so

    pub preempted_pc : (pc : ℕ) × (thread_register many None state (t + 2) 32 ≡ Some pc) × IsAtPlace b (task s t) frame pc
    preempted_pc = (
      word_at state.core.ram below.at,
      below.shown 32 ∙ pc_in_context below.at 32 refl below.even below.inside,
      at_item b state.core.ram t (task s t) (thread_at state.core.ram below.at) (below.at + context_bytes) frame outer below.saved.context.position begun,
    )

    pub preempted_calls : (pc : ℕ) × (place : ℕ) × (thread_register many None state (t + 2) 32 ≡ Some pc)
        × (thread_register many None state (t + 2) 2 ≡ Some (memory_base + place))
        × HasCalls b.app b.places state.core.ram (task s t) frame outer pc place (b.top t)
    preempted_calls = (
      word_at state.core.ram below.at,
      below.at + context_bytes,
      below.shown 32 ∙ pc_in_context below.at 32 refl below.even below.inside,
      below.shown 2 ∙ ap (λ v. Some v) (further state below.at context_bytes (let l = below.inside in omega (arith, l))),
      calls_at b state.core.ram t (task s t) (thread_at state.core.ram below.at) (below.at + context_bytes) frame outer below.saved.context.position begun,
    )

  runs_first : (stack : List ℕ) → AreActive b s stack → RunsFirst b state s stack → IsHighestActive b.config s t → (rest : List ℕ) × RunsTask b state s t rest
  runs_first [] stacked runs highest = absurd (false≢true (stacked.all t declared highest.active))
  runs_first (r ∷ stack) stacked runs highest =
      ⊎_elim
      (λ (e : eqb r t ≡ true). (stack, subst (λ u. RunsTask b state s u stack) (eqb-true r t e) runs))
      (λ (among : is_in t stack ≡ true).
      let other = below_other b s r stack stacked.falling t among in absurd (none_higher t r stack stacked highest (λ q. other (sym q))))
      (or_cases (eqb r t) (is_in t stack) (stacked.all t declared highest.active))

  -- of the running one
  module _ (frame : Frame) (outer : List Frame) (highest : IsHighestActive b.config s t) (begun : (task s t).frames ≡ frame ∷ outer) where
    first : (rest : List ℕ) × RunsTask b state s t rest
    first = runs_first k.stack k.active k.running highest

    abbrev x2_place : ℕ
    x2_place = first.1.place

    pub running_pc : IsAtPlace b (task s t) frame state.pc
        × (line_to_take state ≡ None → thread_register many None state (t + 2) 32 ≡ Some state.pc)
        × ((line : ℕ) → line_to_take state ≡ Some line
        → (thread_register many None state (t + 2) 32 ≡ Some (vectors_base + 4 * line)) × (thread_register many None state (t + 2) 35 ≡ Some state.pc))
    running_pc = (
      at_item b state.core.ram t (task s t) (thread_of state) x2_place frame outer first.1.context.position begun,
      (λ none. live 32 first.1.current ∙ ap (λ line. Some (entry_state line state).pc) none),
      (λ line taken. (
        live 32 first.1.current ∙ ap (λ l. Some (entry_state l state).pc) taken,
        live 35 first.1.current ∙ ap (λ l. Some (entry_state l state).core.mepc) taken,
      )),
    )

    pub running_calls : (place : ℕ) × (thread_register many None state (t + 2) 2 ≡ Some (memory_base + place))
        × HasCalls b.app b.places state.core.ram (task s t) frame outer state.pc place (b.top t)
    running_calls = (
      x2_place,
      live 2 first.1.current ∙ ap (λ registers. Some (slice_index registers 2)) (same_registers state (line_to_take state)) ∙ ap (λ v. Some v) first.1.context.x2,
      calls_at b state.core.ram t (task s t) (thread_of state) x2_place frame outer first.1.context.position begun,
    )

  -- ---- of a task that is not Active

  aside : (number : ℕ) → is_active (task s t).state ≡ false
      → register_by (task_context memory many t) memory t number ≡ register_by (waiting memory t) memory t number
  aside number rests =
      ap (λ x. register_by (if x then preempted memory many t else waiting memory t) memory t number)
      (ap (λ n. n == 1) (activity ∙ other_word (task s t).state rests))

  by_waiting : (number : ℕ) (stack : List ℕ) → is_active (task s t).state ≡ false → AreActive b s stack → RunsFirst b state s stack
      → thread_register many None state (t + 2) number ≡ register_by (waiting memory t) memory t number
  by_waiting number [] rests stacked runs = kept number 0 runs.current (omega arith) (λ e. omega (arith, e)) ∙ aside number rests
  by_waiting number (r ∷ stack) rests stacked runs =
      let head = falling_head b s r stack stacked.falling in
      let l = head.declared in
      kept number (r + 1) runs.current (omega (arith, l)) (λ e. (let is : r ≡ t = omega (arith, e) in
      not_active (task s t).state rests (subst (λ u. (task s u).state ≡ mode.Active) is head.active)))
      ∙ aside number rests

  resting : (number : ℕ) → is_active (task s t).state ≡ false → thread_register many None state (t + 2) number ≡ register_by (waiting memory t) memory t number
  resting number rests = by_waiting number k.stack rests k.active k.running

  resumes : word_or_zero memory (memory_base + resume t) ≡ word_at state.core.ram (resume t)
  resumes = number_there state (resume t) (omega arith) (omega (arith, few))

  -- by its frames
  own_context : (frames : List Frame) → is_active (task s t).state ≡ false → (task s t).frames ≡ frames → HasOwnContext b state.core.ram t (task s t) false frames
  own_context frames rests is =
      subst (λ a. HasOwnContext b state.core.ram t (task s t) a frames) rests
      (subst (λ fs. HasOwnContext b state.core.ram t (task s t) (is_active (task s t).state) fs) is (k.words t declared).resumption)

  -- one that has not begun
  shown_fresh : (number : ℕ) → is_active (task s t).state ≡ false → (task s t).frames ≡ [] → thread_register many None state (t + 2) number ≡ fresh_register t number
  shown_fresh number rests none =
      resting number rests ∙ ap (λ n. register_by (if n == 0 then None else whole memory n) memory t number) (resumes ∙ own_context [] rests none)

  pub of_others : (i : ℕ) → i < 25 → is_active (task s t).state ≡ false → (task s t).frames ≡ [] → thread_register many None state (t + 2) (i + 5) ≡ None
  of_others i within rests none =
      let fresh : ◌≡◌ {A = Option ℕ} (fresh_register t (i + 5)) None =
      rw (ne_eqb (i + 5) 0 (λ e. omega (arith, e)), ne_eqb (i + 5) 32 (λ e. omega (arith, e, within))) refl in
      shown_fresh (i + 5) rests none ∙ fresh

  pub fresh_pc : is_active (task s t).state ≡ false → (task s t).frames ≡ [] → thread_register many None state (t + 2) 32 ≡ Some (vectors_base + 4 * t)
  fresh_pc rests none = shown_fresh 32 rests none

  -- one that is to go on from a wait
  module _ (frame : Frame) (outer : List Frame) (rests : is_active (task s t).state ≡ false) (begun : (task s t).frames ≡ frame ∷ outer) where
    has : (place : ℕ) × IsRested b state.core.ram t (task s t) frame outer place
    has = own_context (frame ∷ outer) rests begun

    abbrev place : ℕ
    place = has.0

    inside : place + 128 ≤ memory_bytes
    inside =
        let top = frames_top b state.core.ram frame outer (place + context_bytes) (b.top t) has.1.frames in
        let end = (fits.to t declared).0 in
        omega (arith, top, end)

    there : ◌≡◌ {A = Option ℕ} (waiting memory t) (Some (memory_base + place))
    there =
        ap (λ n. if n == 0 then None else whole memory n) (resumes ∙ has.1.link)
        ∙ ap (λ x. if x then None else whole memory (memory_base + place)) (ne_eqb (memory_base + place) 0 (λ e. omega (arith, e)))
        ∙ whole_there place has.1.aligned inside

    shown : (number : ℕ) → thread_register many None state (t + 2) number ≡ context_register memory (memory_base + place) number
    shown number = resting number rests ∙ ap (λ found. register_by found memory t number) there

    of_rested : (i : ℕ) → i < 25 → thread_register many None state (t + 2) (i + 5) ≡ Some (slice_index (task s t).registers i)
    of_rested i within = shown (i + 5) ∙ in_context place i has.1.aligned inside within ∙ ap (λ v. Some v) (sym (has.1.registers i within))

    pub waiting_pc : thread_register many None state (t + 2) 32 ≡ Some (item_address b.places frame.func frame.item)
    waiting_pc = shown 32 ∙ pc_in_context place 32 refl has.1.aligned inside ∙ ap (λ v. Some v) has.1.pc

    pub waiting_x2 : (top : ℕ) → b.top t ≡ top - memory_base
        → thread_register many None state (t + 2) 2 ≡ Some (top - frame_bytes b.app frame.func (funcs_of outer))
    waiting_x2 top is =
        let reach = frames_top b state.core.ram frame outer (place + context_bytes) (b.top t) has.1.frames in
        let behind : memory_base + (place + context_bytes) ≡ top - frame_bytes b.app frame.func (funcs_of outer) = omega (arith, reach, is) in
        shown 2 ∙ ap (λ v. Some v) (further state place context_bytes (let l = inside in omega (arith, l)) ∙ behind)

    pub waiting_calls : (at : ℕ) × (thread_register many None state (t + 2) 2 ≡ Some (memory_base + at))
        × AreCalls b.app b.places state.core.ram frame outer at (b.top t)
    waiting_calls = (
      place + context_bytes,
      shown 2 ∙ ap (λ v. Some v) (further state place context_bytes (let l = inside in omega (arith, l))),
      calls b state.core.ram frame outer (place + context_bytes) (b.top t) has.1.frames,
    )

  by_frames : (i : ℕ) (frames : List Frame) → i < 25 → is_active (task s t).state ≡ false → (task s t).frames ≡ frames → frames ≢ []
      → thread_register many None state (t + 2) (i + 5) ≡ Some (slice_index (task s t).registers i)
  by_frames i [] within rests is some = absurd (some refl)
  by_frames i (frame ∷ outer) within rests is some = of_rested frame outer rests is i within

  -- ---- of any task

  pub of_begun : (i : ℕ) → i < 25 → (task s t).frames ≢ [] → thread_register many None state (t + 2) (i + 5) ≡ Some (slice_index (task s t).registers i)
  of_begun i within some =
      ⊎_elim
      (λ (h : is_active (task s t).state ≡ true). of_active i within (is_other (task s t).state h))
      (λ (h : is_active (task s t).state ≡ false). by_frames i (task s t).frames within h refl some)
      (cases_Bool (is_active (task s t).state))
