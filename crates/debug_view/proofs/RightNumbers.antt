-- What each formula shows over memory and controller that have the system is what the attribute is.
use Rattle.std.proofs.Common.{◌≡◌, ℕ, suc, zero, ◌+◌, ◌<◌, ◌≤◌, ◌==◌, Bool, true, false, cond, List, [], ◌∷◌, ◌++◌, length, refl, sym, ap, ◌∙◌, arith, ⊎_elim, inl, inr}
use Rattle.std.specs.Prelude.{All, codes, filter, get_or, map}
use Rattle.std.proofs.lemmas.Bool.{cases_Bool, eq-eqb, eqb-false, eqb-true, ne_eqb}
use Rattle.std.proofs.lemmas.List.Elements.{All-weaker}
use Rattle.std.proofs.Math.ListN.{length-append, length-map}
use Rattle.sloth_base.specs.Limits.{task_limit}
use Rattle.sloth_base.specs.declared.config.Config.{Config}
use Rattle.sloth_base.specs.declared.config.TaskDecl.{TaskDecl}
use Rattle.sloth_region.specs.declared.region.Map.{Map}
use Rattle.sloth_region.specs.Layout.{alarm_cycle, alarm_left, counter_value, cur, events}
use Rattle.mem_map.specs.StackParts.{first_own, no_extent, own_before, stack_number}
use Rattle.mem_map.specs.Zones.{all_stacks, stack_of}
use Rattle.mem_map.proofs.StackCount.{stack_count}
use Rattle.mem_map.proofs.StackNumbers.{number_below}
use Rattle.rv32_instr.specs.Memory.{Memory}
use Rattle.osek_scheduler.specs.Priority.{is_active}
use Rattle.osek_scheduler.specs.Services.{state_number}
use Rattle.osek_scheduler.specs.State.{System, alarm, task}
use Rattle.osek_scheduler.specs.declared.state.TaskState.{TaskState}
use Rattle.osek_scheduler.specs.declared.state.TaskState.TheVariants as mode
use Rattle.orti_text.specs.Attributes.{attributes, object_names, stack_names}
use Rattle.orti_text.specs.ByState.{formula_of_state}
use Rattle.orti_text.specs.Formulas.{Choice, Equal, Formula, Number, value}
use Rattle.orti_text.specs.InReach.{IsInReach}
use Rattle.orti_text.specs.Values.{attribute_value, state_formula, where_in_use, word}
use Rattle.orti_text.specs.declared.attributes.Attribute.{Attribute}
use Rattle.orti_text.specs.declared.attributes.Attribute.TheVariants as attribute
use Rattle.orti_text.specs.declared.attributes.Kind.{Kind}
use Rattle.orti_text.proofs.ByState.{values_by_state, word_value}
use Rattle.orti_text.proofs.Reach.{in_reach}
use Rattle.debug_view.specs.RightValues.{IsRightValue, IsStateNumber, activations, awaited_events, if_in_use}
use Rattle.debug_view.proofs.Open.{HasSystem}
use Rattle.debug_view.proofs.Values.{entered_value, in_use_value, wait_value}

-- ---- how many stacks have a name

own_first : (d : TaskDecl) (ds : List TaskDecl) (t : ℕ) → own_before (d ∷ ds) (suc t) ≡ cond d.extended 1 0 + own_before ds t
own_first d ds zero = omega arith
own_first d ds (suc t) = let h = own_first d ds t in omega (arith, h)

one_more : (b : Bool) (d : TaskDecl) (rest : List TaskDecl) → length (cond b (d ∷ rest) rest) ≡ cond b 1 0 + length rest
one_more true d rest = omega arith
one_more false d rest = omega arith

own_names : (ds : List TaskDecl) → length (filter (λ (d : TaskDecl). d.extended) ds) ≡ own_before ds (length ds)
own_names [] = refl
own_names (d ∷ ds) =
    let h = own_names ds in
    let f = own_first d ds (length ds) in
    let m = one_more d.extended d (filter (λ (x : TaskDecl). x.extended) ds) in
    omega (arith, h, f, m)

shared_name : (b : Bool) → length (cond (cond b 0 1 == 0) [] (codes "shared" ∷ [])) ≡ cond b 0 1
shared_name true = refl
shared_name false = refl

pub stacks_named : (tasks : List TaskDecl) → length (stack_names tasks) ≡ stack_count tasks
stacks_named tasks =
    let own : List TaskDecl = filter (λ (d : TaskDecl). d.extended) tasks in
    let names : List (List ℕ) = map (λ (d : TaskDecl). codes "stack_" ++ d.name) own in
    let joined = length-append (cond (first_own tasks == 0) [] (codes "shared" ∷ [])) names in
    let shared = shared_name (own_before tasks (length tasks) == length tasks) in
    let mapped = length-map own (λ (d : TaskDecl). codes "stack_" ++ d.name) in
    let counted = own_names tasks in
    omega (arith, joined, shared, mapped, counted)

-- ---- the state of a task

-- what an Active task shows where the first word names task r
named : (n r t : ℕ) → n ≡ r + 1 → ◌≡◌ {A = ℕ} (cond (cond (n == t + 1) 1 0 == 0) 2 0) (cond (t == r) 0 2)
named n r t is =
    ⊎_elim
    (λ (e : (t == r) ≡ true). let same = eqb-true t r e in rw (e, eq-eqb n (t + 1) (omega (arith, is, same))) refl)
    (λ (e : (t == r) ≡ false). let other = eqb-false t r e in rw (e, ne_eqb n (t + 1) (λ x. other (omega (arith, is, x)))) refl)
    (cases_Bool (t == r))

-- the formulas of a task's state, of which this one stands where it is Active
abbrev numbers : TaskState → Formula → Formula
numbers st a = formula_of_state st a (Number 2) (Number 3) (Number 1)

numbered : (m : Memory) (st : TaskState) (a : Formula) (r t : ℕ) → (st ≡ mode.Active → value m a ≡ cond (t == r) 0 2)
    → value m (numbers st a) ≡ state_number r t st
numbered m mode.Suspended a r t is = refl
numbered m mode.Ready a r t is = refl
numbered m mode.Active a r t is = is refl
numbered m (mode.Waiting mask) a r t is = refl

small : (m : Memory) (st : TaskState) (a : Formula) → value m a < 4 → value m (numbers st a) < 4
small m mode.Suspended a l = omega arith
small m mode.Ready a l = omega arith
small m mode.Active a l = l
small m (mode.Waiting mask) a l = omega arith

two_or_none : (b : Bool) → cond (cond b 1 0 == 0) 2 0 < 4
two_or_none true = omega arith
two_or_none false = omega arith

activated : (m : Memory) (st : TaskState) → value m (formula_of_state st (Number 1) (Number 1) (Number 0) (Number 1)) ≡ activations st
activated m mode.Suspended = refl
activated m mode.Ready = refl
activated m mode.Active = refl
activated m (mode.Waiting mask) = refl

bit : (b : Bool) → (cond b 1 0 < 2) × (cond b 0 1 < 2)
bit true = (omega arith, omega arith)
bit false = (omega arith, omega arith)

-- ---- the attributes of an object

module _ (config : Config) (m : Map) (memory : Memory) (s : System) (has : HasSystem config memory s) (few : length config.tasks ≤ task_limit)
    (stacks : (t : ℕ) → t < length config.tasks → stack_of m t ≡ get_or (all_stacks m) (stack_number config.tasks t) no_extent) where
  -- what a debugger shows of an attribute of the object of a number
  abbrev Right : ℕ → Attribute → Type 0
  Right n a = IsRightValue memory config m s a n (attribute_value config m a n)

  running : (n : ℕ) → Right n attribute.RunningTask
  running n =
      let names = length-map config.tasks (λ (d : TaskDecl). d.name) in
      let word_is = word_value memory cur in
      ⊎_elim
      (λ runs. let is = runs.2 in let l = runs.1.declared in (inl (runs.0, runs.1, word_is ∙ is), omega (arith, names, word_is, is, l)))
      (λ none. let is = none.1 in (inr (none.0, word_is ∙ is), omega (arith, names, word_is, is)))
      has.runs

  module _ (t : ℕ) (declared : t < length config.tasks) where
    line : t < task_limit
    line = omega (arith, declared, few)

    abbrev if_active : Formula
    if_active = Choice (Equal (word cur) (Number (t + 1))) (Number 0) (Number 2)

    state_is : value memory (state_formula t) ≡ value memory (numbers (task s t).state if_active)
    state_is =
        values_by_state memory t if_active (Number 2) (Number 3) (Number 1) line
        ∙ ap (λ st. value memory (numbers st if_active)) (has.states t declared)

    state_right : Right t attribute.TaskState
    state_right =
        let word_is = word_value memory cur in
        let is = state_is in
        let few_states = small memory (task s t).state if_active (two_or_none (value memory (word cur) == t + 1)) in
        let number : IsStateNumber config s t (value memory (state_formula t)) =
        ⊎_elim
        (λ runs. inl (runs.0, runs.1, is ∙ numbered memory (task s t).state if_active runs.0 t (λ active. named (value memory (word cur)) runs.0 t (word_is ∙ runs.2))))
        (λ none. inr (none.0, (λ r. is ∙ numbered memory (task s t).state if_active r t (λ active. absurd (none.0 t declared active)))))
        has.runs in
        (number, omega (arith, is, few_states))

    entered : Right t attribute.Entered
    entered =
        let is = entered_value memory t ∙ ap (λ st. cond (is_active st) 1 0) (has.states t declared) in
        let one = (bit (is_active (task s t).state)).0 in
        (is, omega (arith, is, one))

    stack : Right t attribute.TaskStack
    stack =
        let many = stacks_named config.tasks in
        let there = number_below config.tasks t declared in
        (sym (stacks t declared), omega (arith, many, there))

    activation : Right t attribute.Activations
    activation = (
      values_by_state memory t (Number 1) (Number 1) (Number 0) (Number 1) line
          ∙ ap (λ st. value memory (formula_of_state st (Number 1) (Number 1) (Number 0) (Number 1))) (has.states t declared) ∙ activated memory (task s t).state,
      tt,
    )

    awaited : Right t attribute.WaitMask
    awaited = (wait_value memory t line ∙ ap awaited_events (has.states t declared), tt)

  used : (a : ℕ) → a < length config.alarms → (f : Formula) (n : ℕ) → value memory f ≡ n → value memory (where_in_use a f) ≡ if_in_use (alarm s a) n
  used a declared f n is =
      in_use_value memory a f ∙ ap (λ left. cond (left == 0) 0 (value memory f)) (has.left a declared) ∙ ap (λ v. if_in_use (alarm s a) v) is

  alarm_state : (a : ℕ) → a < length config.alarms → Right a attribute.AlarmState
  alarm_state a declared =
      let is = used a declared (Number 1) 1 refl in
      let one = (bit ((alarm s a).left == 0)).1 in
      (is, omega (arith, is, one))

  right : (a : Attribute) (n : ℕ) → IsInReach config a n → Right n a
  right attribute.RunningTask n h = running n
  right (attribute.CounterValue c) n h = (word_value memory (counter_value c) ∙ has.values c h, tt)
  right (attribute.EventMask e) n h = (refl, tt)
  right attribute.StaticPriority t h = (refl, tt)
  right attribute.TaskState t h = state_right t h
  right attribute.Entered t h = entered t h
  right attribute.TaskStack t h = stack t h
  right attribute.Activations t h = activation t h
  right attribute.Events t h = (word_value memory (events t) ∙ has.events_set t h, tt)
  right attribute.WaitMask t h = awaited t h
  right attribute.Size k h = (refl, tt)
  right attribute.BaseAddress k h = (refl, tt)
  right attribute.Direction k h = (refl, refl)
  right attribute.AlarmTime a h = (word_value memory (alarm_left a) ∙ has.left a h, tt)
  right attribute.CycleTime a h = (used a h (word (alarm_cycle a)) (alarm s a).cycle (word_value memory (alarm_cycle a) ∙ has.cycles a h), tt)
  right attribute.AlarmState a h = alarm_state a h
  right attribute.Expiry a h = (refl, refl)
  right attribute.AlarmCounter a h = (refl, refl)
  right attribute.Ceiling r h = (refl, tt)

  -- of each object of each kind
  pub attributes_right : (k : Kind) (n : ℕ) → n < length (object_names config k) → All (Right n) (attributes config k)
  attributes_right k n inside =
      All-weaker (λ a. IsInReach config a n) (Right n) (λ a h. right a n h) (attributes config k) (in_reach config n k inside)
