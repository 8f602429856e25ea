-- The code of a tick does what the tick of the counter does.
use Rattle.std.proofs.Common.{◌≡◌, ℕ, ◌+◌, ◌^◌, ◌<◌, ◌≤◌, List, [], ◌∷◌, length, refl, sym, ap, ◌∙◌, subst, arith, ⊎_elim, false, cond}
use Rattle.std.specs.Prelude.{◌≢◌, ◌==◌, slice_index}
use Rattle.std.specs.List.{AllByRecursion}
use Rattle.std.proofs.lemmas.Bool.{cases_eq, eq-eqb, ne_eqb}
use Rattle.std.proofs.lemmas.List.{get_or-set_same, get_or-set_other, length-set}
use Rattle.std.proofs.lemmas.List.Elements.{recursion_from_All}
use Rattle.sloth_base.specs.Arithmetic.{sum32}
use Rattle.sloth_base.specs.ConfigRange.{InRange, IsAction, IsAlarm, no_event}
use Rattle.sloth_base.specs.Machine.{State}
use Rattle.sloth_base.specs.Named.{counter_declaration, undeclared_counter}
use Rattle.sloth_base.specs.Owners.{counter_line}
use Rattle.sloth_base.specs.Take.{take}
use Rattle.sloth_base.specs.declared.config.Action.{Action}
use Rattle.sloth_base.specs.declared.config.Action.TheVariants.{Activate, Set}
use Rattle.sloth_base.specs.declared.config.AlarmDecl.{AlarmDecl}
use Rattle.sloth_base.specs.Limits.{counter_limit}
use Rattle.sloth_region.specs.Layout.{counter_value, below_word}
use Rattle.rv32_instr.specs.Ram.{word_at}
use Rattle.service_gen.specs.Alarms.{counter_alarms}
use Rattle.service_gen.specs.Tick.{Ground, ground}
use Rattle.service_gen.specs.Tick as code
use Rattle.osek_scheduler.specs.declared.state.Counter.{Counter}
use Rattle.osek_scheduler.specs.State.{System, counter, no_counter}
use Rattle.osek_scheduler.specs.Services.{next_value, counted_on_state, ticked_state}
use Rattle.osek_scheduler.specs.Steps.{settled_state}
use Rattle.sim_relation.specs.Build.{Build, HasFittingPlaces}
use Rattle.sim_relation.specs.ClockStands.{CounterLineStands}
use Rattle.sim_relation.specs.Stands.{Stands}
use Rattle.sim_relation.proofs.Beside.{IsBeside, beside}
use Rattle.sim_relation.proofs.ClockKept.{in_range, line_stands, no_task}
use Rattle.sim_relation.proofs.Parts.{by_element}
use Rattle.sim_routines.specs.TickSteps.{MayCount, HasTicked}
use Rattle.sim_routines.proofs.Acting.{ActsOn, at, Holds}
use Rattle.sim_routines.proofs.Alarms.{alarms_hold}
use Rattle.sim_routines.proofs.Clocks.{OneWord, counter_set, written}

-- ---- what a configuration in range says of actions

module _ (b : Build) (range : InRange b.config) where
  acts_on : (action : Action) → IsAction b.config action → ActsOn b action
  acts_on (Activate t) h = h
  acts_on (Set t mask) h =
      let event = h.1 in
      let small = (range.masks event.0 no_event event.1).1 in
      (h.0, subst (λ m. m < 2 ^ 32) (sym event.2) small)

  -- each alarm acts on a task of the configuration
  pub each_acts : AllByRecursion (λ (d : AlarmDecl). ActsOn b d.action) b.config.alarms
  each_acts = by b.config.alarms (recursion_from_All (IsAlarm b.config) b.config.alarms range.alarms)
    where
      by : (ds : List AlarmDecl) → AllByRecursion (IsAlarm b.config) ds → AllByRecursion (λ (d : AlarmDecl). ActsOn b d.action) ds
      by [] h = tt
      by (d ∷ later) h = (acts_on d.action h.0.action, by later h.1)

module _ (b : Build) (old end : State) (s : System) (c : ℕ) (touched : List ℕ) (fits : HasFittingPlaces b) (may : MayCount b old s c) (effect : HasTicked b c touched old end) where
  abbrev k : Stands b old s
  k = may.stands

  abbrev start : State
  start = take (counter_line c) old

  abbrev max : ℕ
  max = (counter_declaration b.config c).max

  abbrev v : ℕ
  v = word_at old.core.ram (counter_value c)

  abbrev value : ℕ
  value = (counter s c).value

  abbrev next : ℕ
  next = code.next_value max v

  abbrev grown : Ground
  grown = code.counted_ground c max (ground start.core)

  abbrev own : Counter
  own = record { value = next_value max value; due = false }

  number : c < counter_limit
  number = let f = fits.few_counters in let l = may.declared in omega (arith, f, l)

  max_small : max < 2 ^ 31
  max_small = let d = may.range.counters c undeclared_counter may.declared in let m = d.max.1 in omega (arith, m)

  v_is : v ≡ value
  v_is = k.clock.values c may.declared

  next_is : (next ≡ next_value max value) × (next < 2 ^ 32)
  next_is =
      let w = may.value in
      let m = max_small in
      let e = v_is in
      let one : sum32 v 1 ≡ value + 1 = omega arith in
      let f : next ≡ next_value max value = ap (λ y. cond (y == max) 0 (sum32 v 1)) e ∙ ap (λ y. cond (value == max) 0 y) one in (
        f,
        ⊎_elim
            (λ (z : value ≡ max). let g : next ≡ 0 = f ∙ ap (λ c. cond c 0 (value + 1)) (eq-eqb value max z) in omega arith)
            (λ (n : value ≢ max). let g : next ≡ value + 1 = f ∙ ap (λ c. cond c 0 (value + 1)) (ne_eqb value max n) in omega arith)
            (cases_eq value max),
      )

  one_word : OneWord (counter_value c) next old.core.ram grown.ram
  one_word = let n = number in written (counter_value c) next old.core.ram (omega arith) (omega arith) next_is.1 k.fixed.ram may.bytes

  abbrev begun : State
  begun = at b end fits grown

  -- the counter's value has grown, and no alarm has acted
  begins : IsBeside b old begun
  begins =
      let l = effect.left in
      let w = one_word in
      let n = number in
      record {
        machine = record {
          ram = w.long;
          registers = l.registers ∙ sym k.fixed.registers;
          zero = l.zero ∙ sym k.fixed.zero;
          pending = length-set old.core.pending (counter_line c) 0;
          enabled = refl;
          levels = l.levels;
          controller = l.controller;
          open_to_lines = l.opened;
          previous = l.previous;
          same_level = l.same_level;
          bases = l.bases;
        };
        pc = effect.pc;
        x2 = effect.x2;
        x = effect.kept;
        level = l.running;
        pending = λ t h. get_or-set_other old.core.pending (counter_line c) t 0 0 (λ e. no_task b old s k c may.declared t h (sym e));
        enabled = refl;
        high = w.high;
        named = λ p a o. w.other p a (λ e. ⊎_elim (λ (y : p < counter_value 0). absurd (omega (arith, e, y))) (λ (y : below_word ≤ p). absurd (omega (arith, e, y, n))) o);
      }

  inside : c < length s.clock.counters
  inside = let l = k.clock.counters in let h = may.declared in omega (arith, l, h)

  cleared : slice_index begun.core.pending (counter_line c) ≡ 0
  cleared = let f = k.fixed.pending in let l = in_range b old s k c may.declared in get_or-set_same old.core.pending (counter_line c) 0 0 (omega (arith, f, l))

  holds_first : Holds b end fits grown (counted_on_state c max s)
  holds_first =
      let w = one_word in
      record {
        stands = beside b old begun s k fits begins (counted_on_state c max s).clock []
            (by_element (λ d (x : Counter). d < length b.config.counters → CounterLineStands b.config begun.core d x.due) s.clock.counters c own no_counter inside
            (λ h. let l = k.lines.counters c h in record { enabled = l.enabled; pending = cleared; level = ap (λ x. slice_index x (counter_line c)) effect.left.levels ∙ l.level })
            (λ d n h. line_stands b.config old.core begun.core d _ refl
            (get_or-set_other old.core.pending (counter_line c) (counter_line d) 0 0 (λ e. n (omega (arith, e)))) effect.left.levels (k.lines.counters d h)))
            (counter_set b old.core.ram grown.ram s.clock c own fits may.declared (w.is ∙ next_is.0) w.other k.clock);
        bytes = w.bytes;
      }

  abbrev last : Ground
  last = code.ticked_ground c max (counter_alarms b.config c) (ground start.core)

  holds_last : Holds b end fits last (ticked_state b.config c s)
  holds_last = alarms_hold b end fits c 0 b.config.alarms (omega arith) (each_acts b may.range) grown (counted_on_state c max s) holds_first

  end_is : at b end fits last ≡ end
  end_is =
      let l = effect.left in
      ap (λ r. at b end fits (record last { ram = r })) (sym l.ram)
      ∙ ap (λ p. at b end fits (record last { ram = end.core.ram; pending = p })) (sym l.pending)
      ∙ ap (λ e. at b end fits (record { ram = end.core.ram; pending = end.core.pending; enabled = e })) (sym l.enabled)

  -- the relation stands behind the tick
  pub ticked_stands : Stands b end (settled_state (ticked_state b.config c s))
  ticked_stands = subst (λ (y : State). Stands b y (settled_state (ticked_state b.config c s))) end_is holds_last.stands
