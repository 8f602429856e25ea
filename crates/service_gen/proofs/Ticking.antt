-- The code of a tick has its effect.
use Rattle.std.proofs.Common.{◌≡◌, ℕ, suc, ◌+◌, ◌*◌, ◌^◌, ◌<◌, ◌≤◌, List, [], ◌∷◌, ◌++◌, length, get_or, refl, ap, subst, arith, ⊎_elim, inl}
use Rattle.std.specs.Prelude.{true, cond, not, ◌≢◌}
use Rattle.std.specs.List.{AllByRecursion}
use Rattle.std.proofs.lemmas.Bool.{cases_eq, eq-eqb, ne_eqb}
use Rattle.std.proofs.lemmas.List.{append-nil}
use Rattle.std.proofs.lemmas.Nat.Bits.{bit_at-zero}
use Rattle.sloth_base.specs.Machine.{Core, State}
use Rattle.sloth_base.specs.Arithmetic.{sum32, hi}
use Rattle.sloth_base.specs.MemoryMap.{memory_base, memory_bytes, controller_base}
use Rattle.sloth_base.specs.Owners.{counter_line}
use Rattle.sloth_base.specs.Limits.{counter_limit}
use Rattle.sloth_region.specs.Layout.{active, counter_value}
use Rattle.rv32_instr.specs.declared.InstrKind.{InstrKind}
use Rattle.rv32_instr.specs.Ram.{word_at, with_word}
use Rattle.masked_code.specs.Masked.{Masked, WithArrivals}
use Rattle.masked_code.proofs.Owes.{◌▸◌, writes, loads, stores, Owes}
use Rattle.masked_code.specs.Place.{offset_state}
use Rattle.masked_code.proofs.Leave.{behind}
use Rattle.masked_code.proofs.Parts.{hi_lo}
use Rattle.masked_code.proofs.Spread.{based, based_is, spread_from, others}
use Rattle.masked_code.proofs.Routines.{jumps_in}
use Rattle.masked_code.proofs.Words.{word_at-other}
use Rattle.block_parts.proofs.Landing.{lands}
use Rattle.service_gen.specs.declared.tick_code.NumberedAlarm.{NumberedAlarm}
use Rattle.service_gen.specs.Alarms.{AreAlarmsInRange, is_target, targets}
use Rattle.service_gen.specs.AlarmPieces.{look_clearing_code, looks_code, basing_code, alarms_code, returning_code, tick_code}
use Rattle.service_gen.specs.Tick.{Ground, vector, next_value, counted_ground, alarms_ground, AreTaskBits, MayTick, TickEffect, IsTickCode}
use Rattle.service_gen.proofs.Looking.{looks_owe}
use Rattle.service_gen.proofs.Acting.{alarms_owe}

-- what tells of tasks are bits behind a counter's new value too
told_counted : (ram enabled pending : List ℕ) (counter v : ℕ) (tasks : List ℕ)
    → AllByRecursion (AreTaskBits (record { ram = ram; pending = pending; enabled = enabled })) tasks
    → AllByRecursion (AreTaskBits (record { ram = with_word ram (counter_value counter) v; pending = pending; enabled = enabled })) tasks
told_counted ram enabled pending counter v [] h = tt
told_counted ram enabled pending counter v (t ∷ tasks) h =
    let few = h.0.is_task in
    let same = word_at-other ram (counter_value counter) v (active t) (inl (omega arith)) in
    let bit = h.0.active_bit in (
      record { is_task = few; active_bit = omega arith; pending_bit = h.0.pending_bit; enabled_bit = h.0.enabled_bit },
      told_counted ram enabled pending counter v tasks h.1,
    )

module _ (counter max : ℕ) (alarms : List NumberedAlarm) (small : counter < counter_limit) (max_fits : max < 2 ^ 32) (numbered : AreAlarmsInRange alarms)
    (offset : ℕ) (c : Core) (h : MayTick offset counter alarms (tick_code counter max alarms) c) where
  abbrev to : ℕ
  to = offset + 4 * length (tick_code counter max alarms)

  abbrev x2 : ℕ
  x2 = get_or c.registers 2 0

  abbrev tail : List ℕ
  tail = spread_from 27 5 c.registers

  abbrev first : State
  first = offset_state (vector (counter_line counter)) (based c)

  abbrev st : List ℕ → State
  st q = record first { core = record first.core { pending = q } }

  abbrev value : ℕ
  value = word_at c.ram (counter_value counter)

  abbrev grown : List ℕ → Ground
  grown q = counted_ground counter max (record { ram = c.ram; pending = q; enabled = c.enabled })

  abbrev mach : Ground → ℕ → ℕ → Core
  mach g x1 x3 = record (based c) { registers = 0 ∷ x1 ∷ x2 ∷ x3 ∷ memory_base ∷ tail; ram = g.ram; pending = g.pending; enabled = g.enabled }

  abbrev behind_count : List InstrKind
  behind_count = look_clearing_code ++ (looks_code alarms ++ (basing_code ++ (alarms_code alarms ++ returning_code)))

  ends : (x1 : ℕ) (q : List ℕ)
      → TickEffect counter max alarms (targets alarms ++ []) (st q) (record {
        pc = c.mepc;
        core = record (mach (alarms_ground alarms (grown q)) x1 controller_base) { ilevel = c.plevel; mie = c.mpie; mpie = true };
      })
  ends x1 q = record {
    touches = append-nil (targets alarms);
    left = record {
      zero = refl;
      registers = refl;
      bases = (refl, refl);
      opened = h.previous;
      previous = refl;
      running = refl;
      same_level = refl;
      pending = refl;
      enabled = refl;
      levels = refl;
      ram = refl;
      scratch = refl;
      controller = refl;
    };
    pc = refl;
    x2 = refl;
    kept = λ i past. others x1 x2 controller_base memory_base (get_or c.registers 1 0) x2 controller_base memory_base tail i past;
  }

  rest_owe : (o x1 x3 : ℕ) → o + 4 * length behind_count ≤ memory_bytes
      → Owes offset to o behind_count 0 (TickEffect counter max alarms) first (mach (grown c.pending) x1 x3)
  rest_owe o x1 x3 fits =
      writes 0 refl
      ▸ looks_owe offset to (basing_code ++ (alarms_code alarms ++ returning_code)) (based c) (grown c.pending) x2 tail first alarms (TickEffect counter max alarms)
      (o + 4) x1 memory_base 0 c.pending (omega arith)
      (told_counted c.ram c.enabled c.pending counter (next_value max value) (targets alarms) h.told)
      h.can_run.lines (λ u k. bit_at-zero u)
      (λ o2 y1 y4 now q f k.
      writes memory_base refl
      ▸ alarms_owe offset to h.can_run.behind (λ u. TickEffect counter max alarms (targets alarms ++ u)) (st q) x2 tail (based c) (λ u. is_target u alarms)
      alarms numbered (λ u l. l) returning_code (grown q) (o2 + 4) y1 now (omega arith) k.knows k.long
      (λ o3 z1 after g k2 l2.
      writes controller_base refl
      ▸ ends z1 q))

  owes : Owes offset to offset (tick_code counter max alarms) 0 (TickEffect counter max alarms) first (based c)
  owes =
      let low = h.can_run.behind in
      let fits = h.can_run.inside in
      let v = value in
      let o7 = behind 7 offset in
      let P : ℕ → Type 0 = λ w. Owes offset to o7 behind_count 0 (TickEffect counter max alarms) first
      (record (based c) { registers = 0 ∷ w ∷ x2 ∷ max ∷ memory_base ∷ tail; ram = with_word c.ram (counter_value counter) w }) in
      let next : P (next_value max v) = rest_owe o7 (next_value max v) max (omega arith) in
      loads (counter_value counter) (record { is = omega arith; aligned = omega arith; inside = omega arith }) v refl
      ▸ writes (hi max * 4096) refl
      ▸ writes max (hi_lo max max_fits)
      ▸ record {
        passed = 1;
        lands = lands (behind 3 offset) 8 1 (omega arith) (omega arith) refl;
        when_taken = λ z. ⊎_elim
            (λ (e : v ≡ max). let f = ap not (eq-eqb v max e) in absurd (cc))
            (λ (n : v ≢ max).
            writes (sum32 v 1) refl
            ▸ stores (counter_value counter) (record { is = omega arith; aligned = omega arith; inside = omega arith }) (inl (omega arith))
            ▸ subst P (ap (λ b. cond b 0 (sum32 v 1)) (ne_eqb v max n)) next)
            (cases_eq v max);
        when_not = λ n. ⊎_elim
            (λ (e : v ≡ max).
            writes 0xffff_ffff refl
            ▸ writes 0 refl
            ▸ stores (counter_value counter) (record { is = omega arith; aligned = omega arith; inside = omega arith }) (inl (omega arith))
            ▸ subst P (ap (λ b. cond b 0 (sum32 v 1)) (eq-eqb v max e)) next)
            (λ (d : v ≢ max). absurd (n (ap not (ne_eqb v max d))))
            (cases_eq v max);
      }

  runs_it : Masked (suc (length (tick_code counter max alarms))) (offset_state (vector (counter_line counter)) c) (WithArrivals (TickEffect counter max alarms) (offset_state (vector (counter_line counter)) c))
  runs_it =
      let can = h.can_run in
      let v = vector (counter_line counter) in
      jumps_in v offset (length (tick_code counter max alarms)) h.jump (tick_code counter max alarms) c (TickEffect counter max alarms) (offset_state v c) (omega arith) h.vector_word h.to_code
      (record { masked = h.masked; there = can.controller; lines = can.lines; aligned = can.aligned; fits = can.inside; placed = can.placed })
      (omega arith)
      (subst (λ x. Owes offset to offset (tick_code counter max alarms) 0 (TickEffect counter max alarms) (offset_state v x) x) (based_is c can.registers can.zero h.bases) owes)

-- from the vector word back to what it interrupts, for each counter with its alarms
pub ticks : (counter max : ℕ) (alarms : List NumberedAlarm) → counter < counter_limit → max < 2 ^ 32 → AreAlarmsInRange alarms
    → IsTickCode counter max alarms (tick_code counter max alarms)
ticks counter max alarms small fits numbered = λ offset core h. runs_it counter max alarms small fits numbered offset core h
