-- The looks at the tasks whose events the alarms set.
use Rattle.std.proofs.Common.{◌≡◌, ℕ, zero, suc, ◌+◌, ◌*◌, ◌<◌, ◌≤◌, List, [], ◌∷◌, ◌++◌, length, get_or, refl, sym, ap, ◌∙◌, subst, arith, ⊎_elim}
use Rattle.std.specs.Prelude.{Bool, true, false, cond, ◌==◌, ◌&&◌, ◌||◌, bit_or, bit_xor, ◌≢◌}
use Rattle.std.specs.List.{AllByRecursion}
use Rattle.std.specs.Int.{bit_at}
use Rattle.std.proofs.lemmas.Bool.{cases_eq, eq-eqb, ne_eqb, or_left, or_right}
use Rattle.sloth_base.specs.Machine.{Core, State}
use Rattle.sloth_base.specs.Arrive.{arrive}
use Rattle.sloth_base.specs.Arithmetic.{left_shift}
use Rattle.sloth_base.specs.MemoryMap.{memory_base, memory_bytes, controller_base, line_count}
use Rattle.sloth_region.specs.Layout.{active}
use Rattle.rv32_instr.specs.declared.InstrKind.{InstrKind}
use Rattle.rv32_instr.specs.Ram.{word_at}
use Rattle.masked_code.proofs.Owes.{◌▸◌, writes, loads, loads_byte, Owes, Pending, Enabled}
use Rattle.masked_code.proofs.Arrivals.{length-arrive, other_bytes}
use Rattle.masked_code.proofs.Leave.{behind}
use Rattle.block_parts.proofs.Busy.{bit_arrives}
use Rattle.sloth_base.specs.declared.config.Action.{Action}
use Rattle.sloth_base.specs.declared.config.Action.TheVariants.{Activate, Set}
use Rattle.code_lengths.specs.CodeLengths.{sets_events_of}
use Rattle.service_gen.specs.declared.tick_code.NumberedAlarm.{NumberedAlarm}
use Rattle.service_gen.specs.Alarms.{is_target, targets, tasks_before_later}
use Rattle.block_parts.specs.Ticks.{look_code}
use Rattle.service_gen.specs.AlarmPieces.{look_of, looks_code}
use Rattle.service_gen.specs.Tick.{Ground, is_suspended_task, AreTaskBits}
use Rattle.service_gen.proofs.Flags.{Knows, KnowsAll, suspended_same, added_own, added_other}

-- what the code computes of three bits
abbrev busy_of : ℕ → ℕ → ℕ → ℕ
busy_of e p a = bit_or (bit_or (bit_xor e 1) p) a

found_is : (e p a : ℕ) → e < 2 → p < 2 → a < 2 → busy_of e p a ≡ cond ((p == 0) && ((e == 1) && (a == 0))) 0 1
found_is zero zero zero x y z = refl
found_is zero zero (suc zero) x y z = refl
found_is zero (suc zero) zero x y z = refl
found_is zero (suc zero) (suc zero) x y z = refl
found_is (suc zero) zero zero x y z = refl
found_is (suc zero) zero (suc zero) x y z = refl
found_is (suc zero) (suc zero) zero x y z = refl
found_is (suc zero) (suc zero) (suc zero) x y z = refl
found_is e p (suc (suc a)) x y z = absurd (omega arith)
found_is e (suc (suc p)) a x y z = absurd (omega arith)
found_is (suc (suc e)) p a x y z = absurd (omega arith)

cond_below : (b : Bool) → cond b 0 1 < 2
cond_below true = omega arith
cond_below false = omega arith

-- a task that is one of these or another
either : (t u : ℕ) (b : Bool) → ((t == u) || b) ≡ true → u ≢ t → b ≡ true
either t u b h n = subst (λ x. (x || b) ≡ true) (ne_eqb t u (λ e. n (sym e))) h

neither : (t u : ℕ) (b : Bool) → ((t == u) || b) ≡ false → b ≡ false
neither t u b h = by (t == u) h
  where
    by : (x : Bool) → (x || b) ≡ false → b ≡ false
    by true k = cc
    by false k = k

not_own : (t u : ℕ) (b : Bool) → ((t == u) || b) ≡ false → u ≢ t
not_own t u b h e = let k : (true || b) ≡ false = subst (λ x. (x || b) ≡ false) (eq-eqb t u (sym e)) h in cc

module _ (from to : ℕ) (rest : List InstrKind) (base : Core) (c : Ground) (x2 : ℕ) (tail : List ℕ) (first : State) where
  -- the state at the start, where these lines are pending
  abbrev st : List ℕ → State
  st p = record first { core = record first.core { pending = p } }

  -- the machine
  abbrev mach : ℕ → ℕ → ℕ → List ℕ → Core
  mach x1 x4 flags p = record base { registers = 0 ∷ x1 ∷ x2 ∷ flags ∷ x4 ∷ tail; ram = c.ram; pending = p; enabled = c.enabled }

  -- these tasks have been looked at
  pub record Looked (target : ℕ → Bool) (flags now : ℕ) (p q : List ℕ) : Type 0 where
    pub knows : KnowsAll target now (record c { pending = q })
    pub other : (u : ℕ) → target u ≡ false → (bit_at now u ≡ bit_at flags u) × (get_or q u 0 ≡ get_or p u 0)
    pub long : length q ≡ line_count

  -- what is owed of code that looks at these tasks
  abbrev pub Looks : (ℕ → Bool) → List ℕ → List InstrKind → Type 1
  Looks target ts code =
      (E : List ℕ → State → State → Type 0) (o x1 x4 flags : ℕ) (p : List ℕ) → o + 4 * length (code ++ rest) ≤ memory_bytes
      → AllByRecursion (AreTaskBits (record c { pending = p })) ts → length p ≡ line_count → ((u : ℕ) → target u ≡ true → bit_at flags u ≡ 0)
      → ((o2 y1 y4 now : ℕ) (q : List ℕ) → o2 + 4 * length rest ≤ memory_bytes → Looked target flags now p q → Owes from to o2 rest 0 (λ u. E (ts ++ u)) (st q) (mach y1 y4 now q))
      → Owes from to o (code ++ rest) 0 E (st p) (mach x1 x4 flags p)

  none : Looks (λ u. false) [] []
  none E o x1 x4 flags p fits told long clear go =
      go o x1 x4 flags p fits (record { knows = record { each = λ u h. cc; few = λ u h. cc }; other = λ u h. (refl, refl); long = long })

  -- one that is looked at later
  again : (target : ℕ → Bool) (ts : List ℕ) (code : List InstrKind) (t : ℕ) → target t ≡ true → Looks target ts code
      → Looks (λ u. (t == u) || target u) ts code
  again target ts code t old ih E o x1 x4 flags p fits told long clear go =
      let more : (u : ℕ) → target u ≡ true → ((t == u) || target u) ≡ true = λ u h. or_right (t == u) (target u) h in
      let one : (u : ℕ) → ((t == u) || target u) ≡ true → target u ≡ true = λ u h.
      ⊎_elim (λ (e : u ≡ t). ap target e ∙ old) (λ (n : u ≡ t → ⊥). either t u (target u) h n) (cases_eq u t)
      in
      ih E o x1 x4 flags p fits told long (λ u h. clear u (more u h))
      (λ o2 y1 y4 now q f k. go o2 y1 y4 now q f (record {
        knows = record { each = λ u h. k.knows.each u (one u h); few = λ u h. k.knows.few u (one u h) };
        other = λ u h. k.other u (neither t u (target u) h);
        long = k.long;
      }))

  -- arrivals leave bits
  told_arrives : (ts lines p : List ℕ) → length p ≡ line_count → AllByRecursion (AreTaskBits (record c { pending = p })) ts
      → AllByRecursion (AreTaskBits (record c { pending = arrive lines p })) ts
  told_arrives [] lines p long h = tt
  told_arrives (t ∷ ts) lines p long h =
      let few = h.0.is_task in (
        record {
          is_task = few;
          active_bit = h.0.active_bit;
          pending_bit = bit_arrives lines p t (omega arith) h.0.pending_bit;
          enabled_bit = h.0.enabled_bit;
        },
        told_arrives ts lines p long h.1,
      )

  -- one more
  looked : (target : ℕ → Bool) (ts : List ℕ) (code : List InstrKind) (t : ℕ) → target t ≡ false → Looks target ts code
      → Looks (λ u. (t == u) || target u) (t ∷ ts) (look_code t ++ code)
  looked target ts code t new ih E o x1 x4 flags p fits told long clear go =
      let few = told.0.is_task in
      let e = get_or c.enabled t 0 in
      let a = word_at c.ram (active t) in
      let more : (u : ℕ) → target u ≡ true → ((t == u) || target u) ≡ true = λ u h. or_right (t == u) (target u) h in
      let own : ((t == t) || target t) ≡ true = or_left (t == t) (target t) (eq-eqb t t refl) in
      let not_t : (u : ℕ) → target u ≡ true → u ≢ t = λ u h x. let y : target t ≡ true = ap target (sym x) ∙ h in cc in
      writes controller_base refl
      ▸ loads_byte (Enabled t) (omega arith, omega arith)
      ▸ writes (bit_xor e 1) refl
      ▸ loads_byte (Pending t) (omega arith, omega arith)
      ▸ λ lines only.
      let q = arrive lines p in
      let b = get_or q t 0 in
      let long_q = length-arrive lines p ∙ long in
      let small = bit_arrives lines p t (omega arith) told.0.pending_bit in
      let v = busy_of e b a in
      let d : Ground = record c { pending = q } in
      let found : v ≡ cond (is_suspended_task t d) 0 1 = found_is e b a told.0.enabled_bit small told.0.active_bit in
      let bit : v < 2 = subst (λ x. x < 2) (sym found) (cond_below (is_suspended_task t d)) in
      let now = bit_or flags (left_shift v t) in
      writes (bit_or (bit_xor e 1) b) refl
      ▸ writes memory_base refl
      ▸ loads (active t) (record { is = omega arith; aligned = omega arith; inside = omega arith }) a refl
      ▸ writes v refl
      ▸ writes (left_shift v t) refl
      ▸ writes now refl
      ▸ ih (λ u. E (t ∷ u)) (behind 10 o) (left_shift v t) a now q (omega arith) (told_arrives ts lines p long told.1) long_q
      (λ u h. added_other flags v t u bit (omega arith) (not_t u h) ∙ clear u (more u h))
      (λ o2 y1 y4 after r f k. go o2 y1 y4 after r f (record {
        knows = record {
          each = λ u h. ⊎_elim
              (λ (x : u ≡ t). subst (λ y. Knows after (record c { pending = r }) y) (sym x)
              ((k.other t new).0 ∙ added_own flags v t bit (omega arith) (clear t own) ∙ found
              ∙ ap (λ y. cond y 0 1) (sym (suspended_same t d (record c { pending = r }) (k.other t new).1 refl refl))))
              (λ (n : u ≡ t → ⊥). k.knows.each u (either t u (target u) h n))
              (cases_eq u t);
          few = λ u h. ⊎_elim (λ (x : u ≡ t). omega arith) (λ (n : u ≡ t → ⊥). k.knows.few u (either t u (target u) h n)) (cases_eq u t);
        };
        other = λ u h.
            let n = not_own t u (target u) h in
            let z = k.other u (neither t u (target u) h) in
            (z.0 ∙ added_other flags v t u bit (omega arith) n, z.1 ∙ other_bytes t lines p u only n);
        long = k.long;
      }))

  by_later : (later : List NumberedAlarm) (t : ℕ) → Looks (λ u. is_target u later) (targets later) (looks_code later) → (b : Bool) → is_target t later ≡ b
      → Looks (λ u. (t == u) || is_target u later) (cond b (targets later) (t ∷ targets later)) (cond b [] (look_code t) ++ looks_code later)
  by_later later t ih true e = again (λ u. is_target u later) (targets later) (looks_code later) t e ih
  by_later later t ih false e = looked (λ u. is_target u later) (targets later) (looks_code later) t e ih

  by_action : (action : Action) (later : List NumberedAlarm) → Looks (λ u. is_target u later) (targets later) (looks_code later)
      → Looks (λ u. sets_events_of u action || is_target u later) (tasks_before_later action later (targets later)) (look_of action later ++ looks_code later)
  by_action (Activate t) later ih = ih
  by_action (Set t mask) later ih = by_later later t ih (is_target t later) refl

  -- behind the looks x3 knows of each task that the alarms set events of
  pub looks_owe : (alarms : List NumberedAlarm) → Looks (λ u. is_target u alarms) (targets alarms) (looks_code alarms)
  looks_owe [] = none
  looks_owe (alarm ∷ later) = by_action alarm.action later (looks_owe later)
