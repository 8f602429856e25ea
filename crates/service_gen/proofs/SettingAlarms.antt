-- The codes of SetRelAlarm and SetAbsAlarm have their effects.
use Rattle.std.proofs.Common.{◌≡◌, ℕ, suc, ◌+◌, ◌-◌, ◌*◌, ◌^◌, ◌<◌, ◌≤◌, List, ◌∷◌, ◌++◌, length, get_or, refl, ap, arith, inl, inr, ⊎_elim}
use Rattle.std.specs.Prelude.{cond, not, ◌≢◌, set, negsuc}
use Rattle.std.proofs.lemmas.Bool.{cases_eq, eq-eqb, ne_eqb, cases_lt, lt-ltb, le-ltb}
use Rattle.sloth_base.specs.Machine.{Core, State}
use Rattle.sloth_base.specs.Status.{E_OK, E_OS_STATE, E_OS_VALUE}
use Rattle.sloth_base.specs.Arithmetic.{hi, lo, plus, difference32}
use Rattle.sloth_base.specs.MemoryMap.{memory_base, memory_bytes, controller_base}
use Rattle.sloth_region.specs.Layout.{counter_value, alarm_left, alarm_cycle}
use Rattle.rv32_instr.specs.declared.InstrKind.{InstrKind}
use Rattle.rv32_instr.specs.declared.InstrKind.TheVariants.{Lui, Addi, Bltu}
use Rattle.rv32_instr.specs.Ram.{word_at}
use Rattle.masked_code.specs.Place.{offset_state}
use Rattle.masked_code.specs.Masked.{FromOpening}
use Rattle.masked_code.specs.Kernel.{masking}
use Rattle.masked_code.proofs.Owes.{◌▸◌, writes, loads, stores, Owes}
use Rattle.masked_code.proofs.Parts.{hi_lo}
use Rattle.masked_code.proofs.Spread.{based, spread_from}
use Rattle.masked_code.proofs.Routines.{masked}
use Rattle.masked_code.proofs.Leave.{behind}
use Rattle.block_parts.proofs.Landing.{lands}
use Rattle.block_parts.proofs.Returning.{goes_back}
use Rattle.block_parts.proofs.Serving.{opens_within}
use Rattle.service_gen.specs.ServicePieces.{unused_alarm_test, cycle_test, alarm_value_test, ticks_test, setting_code, state_refusal_code, refusing_code}
use Rattle.service_gen.specs.CancelAlarm.{MayUse, left_ticks}
use Rattle.service_gen.specs.SetAlarm.{CycleFits, TicksFit, AlarmValueFits, first_operand, ticks_until, with_alarm, SetAlarmEffect, MaySetAbsolute, IsSetRelAlarmCode, IsSetAbsAlarmCode}
use Rattle.block_parts.specs.Alarms.{finding_code}
use Rattle.block_parts.specs.Ticks.{passing_distance}
use Rattle.service_gen.proofs.Passing.{passes}

-- the code of SetRelAlarm behind the masking instruction
abbrev pub rel_body : (alarm max least : ℕ) → List InstrKind
rel_body alarm max least = unused_alarm_test alarm 17 ++ (cycle_test max least 7 ++ (ticks_test 5 ++ (setting_code alarm ++ refusing_code)))

-- that of SetAbsAlarm
abbrev pub abs_body : (alarm counter max least : ℕ) → List InstrKind
abs_body alarm counter max least =
    unused_alarm_test alarm 22 ++ (cycle_test max least 12 ++ (alarm_value_test 11 ++ (finding_code counter ++ (setting_code alarm ++ refusing_code))))

-- ---- the look at the cycle

module _ (from to : ℕ) (E : List ℕ → State → State → Type 0) (start : State) (c : Core) (max least : ℕ) (max_fits : max < 2 ^ 32) (least_fits : least < 2 ^ 32) where
  -- the machine
  abbrev mach : ℕ → Core
  mach x1 = record (masked (based c)) { registers = 0 ∷ x1 ∷ get_or c.registers 2 0 ∷ controller_base ∷ memory_base ∷ spread_from 27 5 c.registers }

  abbrev cycle : ℕ
  cycle = get_or c.registers 11 0

  module _ (ok rest : List InstrKind) (m : ℕ) (size : length ok ≡ m) (few : m ≤ 12) where
    -- at most the greatest value
    most_owes : (o x1 : ℕ) → o + 32 ≤ memory_bytes → (cycle ≤ max → Owes from to (behind 3 o) (ok ++ rest) 0 E start (mach max))
        → (max < cycle → (o2 : ℕ) → Owes from to o2 rest 0 E start (mach max))
        → Owes from to o (Lui 1 (hi max) ∷ Addi 1 1 (lo max) ∷ Bltu 1 11 (passing_distance m) ∷ (ok ++ rest)) 0 E start (mach x1)
    most_owes o x1 small fits none =
        writes (hi max * 4096) refl
        ▸ writes max (hi_lo max max_fits)
        ▸ record {
          passed = m;
          lands = lands (behind 2 o) (4 + 4 * m) m (omega arith) (omega arith) (omega arith);
          when_taken = λ t. ⊎_elim
              (λ (less : max < cycle). passes from to E start ok rest m (behind 3 o) (mach max) size (λ o2 e. none less o2))
              (λ (most : cycle ≤ max). let f = le-ltb max cycle most in absurd (cc))
              (cases_lt max cycle);
          when_not = λ p. ⊎_elim
              (λ (less : max < cycle). absurd (p (lt-ltb max cycle less)))
              (λ (most : cycle ≤ max). fits most)
              (cases_lt max cycle);
        }

    cycle_owes : (o x1 : ℕ) → o + 48 ≤ memory_bytes → (CycleFits max least cycle → (o2 : ℕ) → o2 + 20 ≤ memory_bytes → Owes from to o2 (ok ++ rest) 0 E start (mach max))
        → ((CycleFits max least cycle → ⊥) → (o2 y1 : ℕ) → Owes from to o2 rest 0 E start (mach y1))
        → Owes from to o (cycle_test max least m ++ (ok ++ rest)) 0 E start (mach x1)
    cycle_owes o x1 small fits none = record {
      passed = 3;
      lands = lands o 16 3 (omega arith) (omega arith) refl;
      when_taken = λ t. ⊎_elim
          (λ (z : cycle ≡ 0). most_owes (behind 4 o) x1 (omega arith) (λ most. fits (inl z) (behind 7 o) (omega arith)) (λ less o2. absurd (omega arith)))
          (λ (n : cycle ≢ 0). let f = ne_eqb cycle 0 n in absurd (cc))
          (cases_eq cycle 0);
      when_not = λ y. ⊎_elim
          (λ (z : cycle ≡ 0). absurd (y (eq-eqb cycle 0 z)))
          (λ (n : cycle ≢ 0).
          writes (hi least * 4096) refl
          ▸ writes least (hi_lo least least_fits)
          ▸ record {
            passed = suc (suc (suc m));
            lands = lands (behind 3 o) (4 + 4 * (3 + m)) (suc (suc (suc m))) (omega arith) (omega arith) (omega arith);
            when_taken = λ t. ⊎_elim
                (λ (less : cycle < least).
                passes from to E start ok rest m (behind 7 o) (mach least) size (λ o2 e.
                none (λ f. ⊎_elim (λ (z : cycle ≡ 0). n z) (λ (g : (least ≤ cycle) × (cycle ≤ max)). let k = g.0 in absurd (omega arith)) f) o2 least))
                (λ (enough : least ≤ cycle). let f = le-ltb cycle least enough in absurd (cc))
                (cases_lt cycle least);
            when_not = λ p. ⊎_elim
                (λ (less : cycle < least). absurd (p (lt-ltb cycle least less)))
                (λ (enough : least ≤ cycle).
                most_owes (behind 4 o) least (omega arith) (λ most. fits (inr (enough, most)) (behind 7 o) (omega arith)) (λ less o2.
                none (λ f. ⊎_elim (λ (z : cycle ≡ 0). n z) (λ (g : (least ≤ cycle) × (cycle ≤ max)). let k = g.1 in absurd (omega arith)) f) o2 max))
                (cases_lt cycle least);
          })
          (cases_eq cycle 0);
    }

-- ---- the answers

module _ (offset to alarm : ℕ) (code : List InstrKind) (c : Core) (may : MayUse offset alarm code c) (Fits : Core → Type 0) (ticks : Core → ℕ) where
  abbrev E : List ℕ → State → State → Type 0
  E = SetAlarmEffect alarm Fits ticks

  abbrev x2 : ℕ
  x2 = get_or c.registers 2 0

  abbrev tail : List ℕ
  tail = spread_from 27 5 c.registers

  abbrev v : ℕ
  v = left_ticks alarm c

  abbrev first : State
  first = offset_state offset (based c)

  state_owes : (o x1 : ℕ) → v ≢ 0
      → Owes offset to o state_refusal_code 0 E first (record (masked (based c)) { registers = 0 ∷ x1 ∷ x2 ∷ controller_base ∷ memory_base ∷ tail })
  state_owes o x1 n =
      writes E_OS_STATE refl
      ▸ goes_back offset code c may.goes_back E x1 E_OS_STATE c.pending c.pending c.ram
      (λ last is went. record { touches = refl; done = inl (record { used = n; status = is; back = went }) })

  value_owes : (o x1 : ℕ) → v ≡ 0 → (Fits (based c) → ⊥)
      → Owes offset to o refusing_code 0 E first (record (masked (based c)) { registers = 0 ∷ x1 ∷ x2 ∷ controller_base ∷ memory_base ∷ tail })
  value_owes o x1 z n =
      writes E_OS_VALUE refl
      ▸ goes_back offset code c may.goes_back E x1 E_OS_VALUE c.pending c.pending c.ram
      (λ last is went. record { touches = refl; done = inr (inl (record { unused = z; none = n; status = is; back = went })) })

  -- with the ticks in a0
  sets_owe : (o x1 : ℕ) → v ≡ 0 → Fits (based c)
      → Owes offset to o (setting_code alarm ++ refusing_code) 0 E first
      (record (masked (based c)) { registers = 0 ∷ x1 ∷ x2 ∷ controller_base ∷ memory_base ∷ set tail 5 (ticks (based c)) })
  sets_owe o x1 z f =
      let few = may.is_alarm in
      let low = may.goes_back.can_run.behind in
      stores (alarm_left alarm) (record { is = omega arith; aligned = omega arith; inside = omega arith }) (inl (omega arith))
      ▸ stores (alarm_cycle alarm) (record { is = omega arith; aligned = omega arith; inside = omega arith }) (inl (omega arith))
      ▸ writes E_OK refl
      ▸ goes_back offset code c may.goes_back E x1 E_OK c.pending c.pending (with_alarm c.ram alarm (ticks (based c)) (get_or c.registers 11 0))
      (λ last is went. record { touches = refl; done = inr (inr (record { unused = z; fits = f; status = is; back = went })) })

-- ---- SetRelAlarm

module _ (offset alarm max least : ℕ) (max_fits : max < 2 ^ 32) (least_fits : least < 2 ^ 32) (c : Core)
    (h : MayUse offset alarm (masking ∷ rel_body alarm max least) c) where
  abbrev code1 : List InstrKind
  code1 = masking ∷ rel_body alarm max least

  abbrev Fits1 : Core → Type 0
  Fits1 = TicksFit max least

  abbrev E1 : List ℕ → State → State → Type 0
  E1 = SetAlarmEffect alarm Fits1 first_operand

  abbrev to1 : ℕ
  to1 = offset + 4 + 88

  abbrev first1 : State
  first1 = offset_state offset (based c)

  abbrev left1 : ℕ
  left1 = left_ticks alarm c

  abbrev ticks1 : ℕ
  ticks1 = get_or c.registers 10 0

  -- the look at the ticks
  ticks_owe : left1 ≡ 0 → CycleFits max least (get_or c.registers 11 0) → (o : ℕ) → o + 20 ≤ memory_bytes
      → Owes offset to1 o (ticks_test 5 ++ (setting_code alarm ++ refusing_code)) 0 E1 first1 (mach offset to1 E1 first1 c max least max_fits least_fits max)
  ticks_owe z cycles o small = record {
    passed = 6;
    lands = lands o 28 6 (omega arith) (omega arith) refl;
    when_taken = λ t. ⊎_elim
        (λ (e : ticks1 ≡ 0). value_owes offset to1 alarm code1 c h Fits1 first_operand (behind 7 o) max z (λ f. f.0 e))
        (λ (n : ticks1 ≢ 0). let f = ne_eqb ticks1 0 n in absurd (cc))
        (cases_eq ticks1 0);
    when_not = λ q. ⊎_elim
        (λ (e : ticks1 ≡ 0). absurd (q (eq-eqb ticks1 0 e)))
        (λ (n : ticks1 ≢ 0). record {
          passed = 5;
          lands = lands (o + 4) 24 5 (omega arith) (omega arith) refl;
          when_taken = λ t. ⊎_elim
              (λ (less : max < ticks1). value_owes offset to1 alarm code1 c h Fits1 first_operand (behind 7 o) max z (λ f. let g = f.1 in absurd (omega arith)))
              (λ (most : ticks1 ≤ max). let f = le-ltb max ticks1 most in absurd (cc))
              (cases_lt max ticks1);
          when_not = λ p. ⊎_elim
              (λ (less : max < ticks1). absurd (p (lt-ltb max ticks1 less)))
              (λ (most : ticks1 ≤ max). sets_owe offset to1 alarm code1 c h Fits1 first_operand (behind 2 o) max z (n, most, cycles))
              (cases_lt max ticks1);
        })
        (cases_eq ticks1 0);
  }

  rel_owes : Owes offset to1 (offset + 4) (rel_body alarm max least) 0 E1 first1 (masked (based c))
  rel_owes =
      let few = h.is_alarm in
      let fits = h.goes_back.can_run.inside in
      loads (alarm_left alarm) (record { is = omega arith; aligned = omega arith; inside = omega arith }) left1 refl
      ▸ record {
        passed = 17;
        lands = lands (behind 2 offset) 72 17 (omega arith) (omega arith) refl;
        when_taken = λ t. ⊎_elim
            (λ (z : left1 ≡ 0). let f = ap not (eq-eqb left1 0 z) in absurd (cc))
            (λ (n : left1 ≢ 0). state_owes offset to1 alarm code1 c h Fits1 first_operand (behind 20 offset) left1 n)
            (cases_eq left1 0);
        when_not = λ y. ⊎_elim
            (λ (z : left1 ≡ 0).
            cycle_owes offset to1 E1 first1 c max least max_fits least_fits (ticks_test 5 ++ setting_code alarm) refusing_code 7 refl (omega arith)
            (behind 3 offset) left1 (omega arith) (λ cycles o small. ticks_owe z cycles o small)
            (λ none o y1. value_owes offset to1 alarm code1 c h Fits1 first_operand o y1 z (λ f. none f.2)))
            (λ (n : left1 ≢ 0). absurd (y (ap not (ne_eqb left1 0 n))))
            (cases_eq left1 0);
      }

  runs_rel : FromOpening 16 (offset_state offset c) E1
  runs_rel = opens_within offset 16 (rel_body alarm max least) c E1 h.goes_back.can_run h.goes_back.bases (omega arith) rel_owes

-- ---- SetAbsAlarm

module _ (offset alarm counter max least : ℕ) (max_fits : max < 2 ^ 31) (least_fits : least < 2 ^ 32) (c : Core)
    (h : MaySetAbsolute offset alarm counter max (masking ∷ abs_body alarm counter max least) c) where
  max_word : max < 2 ^ 32
  max_word = omega arith

  abbrev code2 : List InstrKind
  code2 = masking ∷ abs_body alarm counter max least

  abbrev Fits2 : Core → Type 0
  Fits2 = AlarmValueFits max least

  abbrev ticks2 : Core → ℕ
  ticks2 = ticks_until counter max

  abbrev E2 : List ℕ → State → State → Type 0
  E2 = SetAlarmEffect alarm Fits2 ticks2

  abbrev to2 : ℕ
  to2 = offset + 4 + 108

  abbrev first2 : State
  first2 = offset_state offset (based c)

  abbrev left2 : ℕ
  left2 = left_ticks alarm c

  abbrev value : ℕ
  value = word_at c.ram (counter_value counter)

  abbrev to_come : ℕ
  to_come = get_or c.registers 10 0

  -- the ticks to the value that is to come
  finds_owe : left2 ≡ 0 → Fits2 (based c) → (o : ℕ) → o + 16 ≤ memory_bytes
      → Owes offset to2 o (finding_code counter ++ (setting_code alarm ++ refusing_code)) 0 E2 first2 (mach offset to2 E2 first2 c max least max_word least_fits max)
  finds_owe z f o small =
      let is = h.is_counter in
      let below = h.value in
      let word = h.is_word in
      let most = f.0 in
      let t = ticks2 (based c) in
      loads (counter_value counter) (record { is = omega arith; aligned = omega arith; inside = omega arith }) value refl
      ▸ record {
        passed = 2;
        lands = lands (o + 4) 12 2 (omega arith) (omega arith) refl;
        when_taken = λ y. ⊎_elim
            (λ (less : value < to_come).
            let e : t ≡ to_come - value = ap (λ x. cond x (to_come - value) (to_come + (max + 1) - value)) (lt-ltb value to_come less) in
            writes t (omega arith)
            ▸ writes controller_base refl
            ▸ sets_owe offset to2 alarm code2 c h.may_use Fits2 ticks2 (behind 6 o) max z f)
            (λ (ge : to_come ≤ value). let g = le-ltb value to_come ge in absurd (cc))
            (cases_lt value to_come);
        when_not = λ y. ⊎_elim
            (λ (less : value < to_come). absurd (y (lt-ltb value to_come less)))
            (λ (ge : to_come ≤ value).
            let e : t ≡ to_come + (max + 1) - value = ap (λ x. cond x (to_come - value) (to_come + (max + 1) - value)) (le-ltb value to_come ge) in
            writes (difference32 value max) refl
            ▸ writes (plus (difference32 value max) (negsuc 0)) refl
            ▸ writes t (omega arith)
            ▸ writes controller_base refl
            ▸ sets_owe offset to2 alarm code2 c h.may_use Fits2 ticks2 (behind 6 o) max z f)
            (cases_lt value to_come);
      }

  -- the look at that value
  value_owe : left2 ≡ 0 → CycleFits max least (get_or c.registers 11 0) → (o : ℕ) → o + 20 ≤ memory_bytes
      → Owes offset to2 o (alarm_value_test 11 ++ (finding_code counter ++ (setting_code alarm ++ refusing_code))) 0 E2 first2
      (mach offset to2 E2 first2 c max least max_word least_fits max)
  value_owe z cycles o small = record {
    passed = 11;
    lands = lands o 48 11 (omega arith) (omega arith) refl;
    when_taken = λ t. ⊎_elim
        (λ (less : max < to_come). value_owes offset to2 alarm code2 c h.may_use Fits2 ticks2 (behind 12 o) max z (λ f. let g = f.0 in absurd (omega arith)))
        (λ (most : to_come ≤ max). let f = le-ltb max to_come most in absurd (cc))
        (cases_lt max to_come);
    when_not = λ p. ⊎_elim
        (λ (less : max < to_come). absurd (p (lt-ltb max to_come less)))
        (λ (most : to_come ≤ max). finds_owe z (most, cycles) (o + 4) (omega arith))
        (cases_lt max to_come);
  }

  abs_owes : Owes offset to2 (offset + 4) (abs_body alarm counter max least) 0 E2 first2 (masked (based c))
  abs_owes =
      let few = h.may_use.is_alarm in
      let fits = h.may_use.goes_back.can_run.inside in
      loads (alarm_left alarm) (record { is = omega arith; aligned = omega arith; inside = omega arith }) left2 refl
      ▸ record {
        passed = 22;
        lands = lands (behind 2 offset) 92 22 (omega arith) (omega arith) refl;
        when_taken = λ t. ⊎_elim
            (λ (z : left2 ≡ 0). let f = ap not (eq-eqb left2 0 z) in absurd (cc))
            (λ (n : left2 ≢ 0). state_owes offset to2 alarm code2 c h.may_use Fits2 ticks2 (behind 25 offset) left2 n)
            (cases_eq left2 0);
        when_not = λ y. ⊎_elim
            (λ (z : left2 ≡ 0).
            cycle_owes offset to2 E2 first2 c max least max_word least_fits (alarm_value_test 11 ++ (finding_code counter ++ setting_code alarm)) refusing_code 12 refl
            (omega arith) (behind 3 offset) left2 (omega arith) (λ cycles o small. value_owe z cycles o small)
            (λ none o y1. value_owes offset to2 alarm code2 c h.may_use Fits2 ticks2 o y1 z (λ f. none f.1)))
            (λ (n : left2 ≢ 0). absurd (y (ap not (ne_eqb left2 0 n))))
            (cases_eq left2 0);
      }

  runs_abs : FromOpening 21 (offset_state offset c) E2
  runs_abs = opens_within offset 21 (abs_body alarm counter max least) c E2 h.may_use.goes_back.can_run h.may_use.goes_back.bases (omega arith) abs_owes

-- the alarm is set by ticks from now, or is not, with the status that says why
pub sets_relative : (alarm max least : ℕ) → max < 2 ^ 32 → least < 2 ^ 32 → IsSetRelAlarmCode alarm max least (masking ∷ rel_body alarm max least)
sets_relative alarm max least a b =
    record { size = refl; masks = (rel_body alarm max least, refl); runs = λ offset core h. runs_rel offset alarm max least a b core h }

-- the same by a value of its counter
pub sets_absolute : (alarm counter max least : ℕ) → max < 2 ^ 31 → least < 2 ^ 32
    → IsSetAbsAlarmCode alarm counter max least (masking ∷ abs_body alarm counter max least)
sets_absolute alarm counter max least a b =
    record { size = refl; masks = (abs_body alarm counter max least, refl); runs = λ offset core h. runs_abs offset alarm counter max least a b core h }
