-- The code of boot has its effect.
use Rattle.std.proofs.Common.{◌≡◌, ℕ, cond, zero, suc, ◌+◌, ◌*◌, ◌%◌, ◌<◌, ◌≤◌, List, [], ◌∷◌, ◌++◌, length, get_or, refl, ◌⊎◌, sym, ap, ◌∙◌, subst, arith, inl, inr, ⊎_elim, append_assoc, length-append, ◌^◌}
use Rattle.std.specs.Prelude.{Bool, false, true, set, pos}
use Rattle.std.proofs.lemmas.Bool.{cases_eq}
use Rattle.std.proofs.lemmas.List.{length-set, get_or-set_same, get_or-set_other}
use Rattle.sloth_base.specs.declared.config.TaskDecl.{TaskDecl}
use Rattle.sloth_base.specs.Owners.{counter_line, first_counter_line}
use Rattle.sloth_base.specs.Machine.{Core, State}
use Rattle.sloth_region.specs.Layout.{idle_context, context_bytes, enabled_byte}
use Rattle.rv32_instr.specs.declared.InstrKind.{InstrKind}
use Rattle.rv32_instr.specs.declared.InstrKind.TheVariants.{Sb}
use Rattle.sloth_base.specs.Arithmetic.{hi}
use Rattle.sloth_base.specs.MemoryMap.{memory_base, controller_base, line_count}
use Rattle.sloth_base.specs.Limits.{task_limit, counter_limit}
use Rattle.masked_code.specs.Place.{offset_state}
use Rattle.masked_code.specs.Masked.{Masked, WithArrivals}
use Rattle.masked_code.proofs.Owes.{◌▸◌, writes, raises, sets_enabled, sets_level, accesses, Owes}
use Rattle.masked_code.proofs.Parts.{hi_lo}
use Rattle.masked_code.proofs.Spread.{spread, spread_is, spread_from, others}
use Rattle.masked_code.proofs.Routines.{handles}
use Rattle.code_lengths.specs.CodeLengths.{lines_length, boot_length}
use Rattle.block_parts.specs.Boot.{line_code}
use Rattle.vector_gen.specs.Boot.{register_code, line_start_code, lines_code, counters_code, finishing_code, IsUnused, MayBoot, BootEffect, IsBootCode}

-- the lines' bytes after the tasks from this line on
abbrev levels_with : ℕ → List TaskDecl → List ℕ → List ℕ → List ℕ
levels_with line [] levels bytes = bytes
levels_with line (task ∷ tasks) levels bytes = levels_with (suc line) tasks levels (set bytes line (get_or levels line 0))

abbrev enabled_with : ℕ → List TaskDecl → List ℕ → List ℕ
enabled_with line [] bytes = bytes
enabled_with line (task ∷ tasks) bytes = enabled_with (suc line) tasks (set bytes line 1)

abbrev raised_if : Bool → ℕ → List ℕ → List ℕ
raised_if true line bytes = set bytes line 1
raised_if false line bytes = bytes

abbrev pending_with : ℕ → List TaskDecl → List ℕ → List ℕ
pending_with line [] bytes = bytes
pending_with line (task ∷ tasks) bytes = pending_with (suc line) tasks (raised_if task.autostart line bytes)

-- the bytes that so many lines get
abbrev filled : (count line v : ℕ) → List ℕ → List ℕ
filled zero line v bytes = bytes
filled (suc count) line v bytes = filled count (suc line) v (set bytes line v)

module _ (from to : ℕ) (E : List ℕ → State → State → Type 0) (start : State) (x2 : ℕ) (tail levels : List ℕ) (small : (k : ℕ) → get_or levels k 0 < 256) where
  -- with the registers that boot has
  abbrev with_x1 : ℕ → Core → Core
  with_x1 x1 c = record c { registers = 0 ∷ x1 ∷ x2 ∷ controller_base ∷ 1 ∷ tail }

  raises_owe : (auto : Bool) (line o : ℕ) (code : List InstrKind) (c : Core) → line < line_count
      → ((o' : ℕ) → Owes from to o' code 0 E start (record c { pending = raised_if auto line c.pending })) → get_or c.registers 3 0 ≡ controller_base
      → get_or c.registers 4 0 ≡ 1 → Owes from to o (line_code line auto ++ code) 0 E start c
  raises_owe true line o code c h go three four =
      raises line (omega arith, h) (λ e. absurd (omega arith))
      ▸ go (o + 4)
  raises_owe false line o code c h go three four = go o

  starts_owe : (tasks : List TaskDecl) (line o x1 : ℕ) (code : List InstrKind) (c : Core) → line + length tasks ≤ line_count
      → ((o' x1' : ℕ) → Owes from to o' code 0 E start (with_x1 x1' (record c { levels = levels_with line tasks levels c.levels; enabled = enabled_with line tasks c.enabled; pending = pending_with line tasks c.pending })))
      → Owes from to o (lines_code line tasks levels ++ code) 0 E start (with_x1 x1 c)
  starts_owe [] line o x1 code c h go = go o x1
  starts_owe (task ∷ tasks) line o x1 code c h go =
      let v = get_or levels line 0 in
      let below = small line in
      let o2 = o + 4 + 4 in
      let o3 = o2 + 4 in
      let rest = lines_code (suc line) tasks levels ++ code in
      let d = with_x1 v (record c { levels = set c.levels line v; enabled = set c.enabled line 1 }) in
      let e : v % 256 ≡ v = omega arith in
      let raised = raises_owe task.autostart line o3 rest d (omega arith) (λ o'. starts_owe tasks (suc line) o' v code (record c { levels = set c.levels line v; enabled = set c.enabled line 1; pending = raised_if task.autostart line c.pending }) (omega arith) go) refl refl in
      let enabled = subst (λ l. Owes from to o3 l 0 E start d) (sym (append_assoc (line_code line task.autostart) (lines_code (suc line) tasks levels) code)) raised in
      let levelled : Owes from to o2 (Sb 3 4 (pos (enabled_byte line)) ∷ ((line_code line task.autostart ++ lines_code (suc line) tasks levels) ++ code)) 0 E start (with_x1 v (record c { levels = set c.levels line v })) =
      sets_enabled line (omega arith, omega arith)
      ▸ enabled
      in
      writes v (omega arith)
      ▸ sets_level line (omega arith, omega arith)
      ▸ subst (λ b. Owes from to o2 (Sb 3 4 (pos (enabled_byte line)) ∷ ((line_code line task.autostart ++ lines_code (suc line) tasks levels) ++ code)) 0 E start (with_x1 v (record c { levels = set c.levels line b }))) (sym e) levelled

  counters_owe : (count line v o x1 : ℕ) (code : List InstrKind) (c : Core) → line + count ≤ line_count → v < 256
      → ((o' x1' : ℕ) → Owes from to o' code 0 E start (with_x1 x1' (record c { levels = filled count line v c.levels; enabled = filled count line 1 c.enabled })))
      → Owes from to o (counters_code count line v ++ code) 0 E start (with_x1 x1 c)
  counters_owe zero line v o x1 code c h byte go = go o x1
  counters_owe (suc count) line v o x1 code c h byte go =
      let e : v % 256 ≡ v = omega arith in
      let rest = counters_code count (suc line) v ++ code in
      writes v (omega arith)
      ▸ sets_level line (omega arith, omega arith)
      ▸ subst (λ b. Owes from to (o + 4 + 4) (Sb 3 4 (pos (enabled_byte line)) ∷ rest) 0 E start (with_x1 v (record c { levels = set c.levels line b }))) (sym e)
      (sets_enabled line (omega arith, omega arith)
      ▸ counters_owe count (suc line) v (o + 4 + 4 + 4) v code (record c { levels = set c.levels line v; enabled = set c.enabled line 1 }) (omega arith) byte go)

length-filled : (count line v : ℕ) (bytes : List ℕ) → length (filled count line v bytes) ≡ length bytes
length-filled zero line v bytes = refl
length-filled (suc count) line v bytes = length-filled count (suc line) v (set bytes line v) ∙ length-set bytes line v

filled_other : (count line v : ℕ) (bytes : List ℕ) (k : ℕ) → (k < line) ⊎ (line + count ≤ k) → get_or (filled count line v bytes) k 0 ≡ get_or bytes k 0
filled_other zero line v bytes k h = refl
filled_other (suc count) line v bytes k h =
    filled_other count (suc line) v (set bytes line v) k (grind (arith, h))
    ∙ get_or-set_other bytes line k v 0 (λ e. ⊎_elim (λ x. absurd (omega arith)) (λ x. absurd (omega arith)) h)

filled_at : (count line v : ℕ) (bytes : List ℕ) (k : ℕ) → line ≤ k → k < line + count → line + count ≤ length bytes → get_or (filled count line v bytes) k 0 ≡ v
filled_at zero line v bytes k l h long = absurd (omega arith)
filled_at (suc count) line v bytes k l h long =
    let longer = length-set bytes line v in
    ⊎_elim
    (λ e. filled_other count (suc line) v (set bytes line v) k (inl (omega arith)) ∙ ap (λ j. get_or (set bytes line v) j 0) e ∙ get_or-set_same bytes line v 0 (omega arith))
    (λ ne. filled_at count (suc line) v (set bytes line v) k (omega arith) (omega arith) (omega arith))
    (cases_eq k line)

length-counters : (count line v : ℕ) → length (counters_code count line v) ≡ 3 * count
length-counters zero line v = refl
length-counters (suc count) line v =
    let ih = length-counters count (suc line) v in
    let e = length-append (line_start_code line v false) (counters_code count (suc line) v) in
    let three : length (line_start_code line v false) ≡ 3 = refl in
    omega (arith, ih, e, three)

-- ---- line by line

length-levels : (tasks : List TaskDecl) (line : ℕ) (levels bytes : List ℕ) → length (levels_with line tasks levels bytes) ≡ length bytes
length-levels [] line levels bytes = refl
length-levels (task ∷ tasks) line levels bytes = length-levels tasks (suc line) levels (set bytes line (get_or levels line 0)) ∙ length-set bytes line (get_or levels line 0)

levels_other : (tasks : List TaskDecl) (line : ℕ) (levels bytes : List ℕ) (k : ℕ) → (k < line) ⊎ (line + length tasks ≤ k) → get_or (levels_with line tasks levels bytes) k 0 ≡ get_or bytes k 0
levels_other [] line levels bytes k h = refl
levels_other (task ∷ tasks) line levels bytes k h =
    levels_other tasks (suc line) levels (set bytes line (get_or levels line 0)) k (grind (arith, h))
    ∙ get_or-set_other bytes line k (get_or levels line 0) 0 (λ e. ⊎_elim (λ x. absurd (omega arith)) (λ x. absurd (omega arith)) h)

levels_at : (tasks : List TaskDecl) (line : ℕ) (levels bytes : List ℕ) (k : ℕ) → line ≤ k → k < line + length tasks → line + length tasks ≤ length bytes
    → get_or (levels_with line tasks levels bytes) k 0 ≡ get_or levels k 0
levels_at [] line levels bytes k l h long = absurd (omega arith)
levels_at (task ∷ tasks) line levels bytes k l h long =
    let v = get_or levels line 0 in
    let longer = length-set bytes line v in
    ⊎_elim
    (λ e. levels_other tasks (suc line) levels (set bytes line v) k (inl (omega arith)) ∙ ap (λ j. get_or (set bytes line v) j 0) e ∙ get_or-set_same bytes line v 0 (omega arith) ∙ ap (λ j. get_or levels j 0) (sym e))
    (λ ne. levels_at tasks (suc line) levels (set bytes line v) k (omega arith) (omega arith) (omega arith))
    (cases_eq k line)

length-enabled : (tasks : List TaskDecl) (line : ℕ) (bytes : List ℕ) → length (enabled_with line tasks bytes) ≡ length bytes
length-enabled [] line bytes = refl
length-enabled (task ∷ tasks) line bytes = length-enabled tasks (suc line) (set bytes line 1) ∙ length-set bytes line 1

enabled_other : (tasks : List TaskDecl) (line : ℕ) (bytes : List ℕ) (k : ℕ) → (k < line) ⊎ (line + length tasks ≤ k) → get_or (enabled_with line tasks bytes) k 0 ≡ get_or bytes k 0
enabled_other [] line bytes k h = refl
enabled_other (task ∷ tasks) line bytes k h =
    enabled_other tasks (suc line) (set bytes line 1) k (grind (arith, h))
    ∙ get_or-set_other bytes line k 1 0 (λ e. ⊎_elim (λ x. absurd (omega arith)) (λ x. absurd (omega arith)) h)

enabled_at : (tasks : List TaskDecl) (line : ℕ) (bytes : List ℕ) (k : ℕ) → line ≤ k → k < line + length tasks → line + length tasks ≤ length bytes → get_or (enabled_with line tasks bytes) k 0 ≡ 1
enabled_at [] line bytes k l h long = absurd (omega arith)
enabled_at (task ∷ tasks) line bytes k l h long =
    let longer = length-set bytes line 1 in
    ⊎_elim
    (λ e. enabled_other tasks (suc line) (set bytes line 1) k (inl (omega arith)) ∙ ap (λ j. get_or (set bytes line 1) j 0) e ∙ get_or-set_same bytes line 1 0 (omega arith))
    (λ ne. enabled_at tasks (suc line) (set bytes line 1) k (omega arith) (omega arith) (omega arith))
    (cases_eq k line)

length-raised : (auto : Bool) (line : ℕ) (bytes : List ℕ) → length (raised_if auto line bytes) ≡ length bytes
length-raised true line bytes = length-set bytes line 1
length-raised false line bytes = refl

raised_other : (auto : Bool) (line : ℕ) (bytes : List ℕ) (k : ℕ) → (k ≡ line → ⊥) → get_or (raised_if auto line bytes) k 0 ≡ get_or bytes k 0
raised_other true line bytes k ne = get_or-set_other bytes line k 1 0 ne
raised_other false line bytes k ne = refl

raised_same : (auto : Bool) (line : ℕ) (bytes : List ℕ) → line < length bytes → auto ≡ true → get_or (raised_if auto line bytes) line 0 ≡ 1
raised_same true line bytes h e = get_or-set_same bytes line 1 0 h
raised_same false line bytes h e = absurd (cc)

raised_not : (auto : Bool) (line : ℕ) (bytes : List ℕ) → auto ≡ false → get_or (raised_if auto line bytes) line 0 ≡ get_or bytes line 0
raised_not true line bytes e = absurd (cc)
raised_not false line bytes e = refl

length-pending : (tasks : List TaskDecl) (line : ℕ) (bytes : List ℕ) → length (pending_with line tasks bytes) ≡ length bytes
length-pending [] line bytes = refl
length-pending (task ∷ tasks) line bytes = length-pending tasks (suc line) (raised_if task.autostart line bytes) ∙ length-raised task.autostart line bytes

pending_other : (tasks : List TaskDecl) (line : ℕ) (bytes : List ℕ) (k : ℕ) → (k < line) ⊎ (line + length tasks ≤ k) → get_or (pending_with line tasks bytes) k 0 ≡ get_or bytes k 0
pending_other [] line bytes k h = refl
pending_other (task ∷ tasks) line bytes k h =
    pending_other tasks (suc line) (raised_if task.autostart line bytes) k (grind (arith, h))
    ∙ raised_other task.autostart line bytes k (λ e. ⊎_elim (λ x. absurd (omega arith)) (λ x. absurd (omega arith)) h)

pending_raised : (tasks : List TaskDecl) (line : ℕ) (bytes : List ℕ) (j : ℕ) (d : TaskDecl) → j < length tasks → line + length tasks ≤ length bytes
    → (get_or tasks j d).autostart ≡ true → get_or (pending_with line tasks bytes) (line + j) 0 ≡ 1
pending_raised [] line bytes j d h long auto = absurd (omega arith)
pending_raised (task ∷ tasks) line bytes zero d h long auto =
    let e : line + 0 ≡ line = omega arith in
    ap (λ k. get_or (pending_with (suc line) tasks (raised_if task.autostart line bytes)) k 0) e
    ∙ pending_other tasks (suc line) (raised_if task.autostart line bytes) line (inl (omega arith))
    ∙ raised_same task.autostart line bytes (omega arith) auto
pending_raised (task ∷ tasks) line bytes (suc j) d h long auto =
    let e : line + suc j ≡ suc line + j = omega arith in
    let longer = length-raised task.autostart line bytes in
    ap (λ k. get_or (pending_with (suc line) tasks (raised_if task.autostart line bytes)) k 0) e
    ∙ pending_raised tasks (suc line) (raised_if task.autostart line bytes) j d (omega arith) (omega arith) auto

pending_kept : (tasks : List TaskDecl) (line : ℕ) (bytes : List ℕ) (j : ℕ) (d : TaskDecl) → j < length tasks → (get_or tasks j d).autostart ≡ false
    → get_or (pending_with line tasks bytes) (line + j) 0 ≡ get_or bytes (line + j) 0
pending_kept [] line bytes j d h auto = absurd (omega arith)
pending_kept (task ∷ tasks) line bytes zero d h auto =
    let e : line + 0 ≡ line = omega arith in
    ap (λ k. get_or (pending_with (suc line) tasks (raised_if task.autostart line bytes)) k 0) e
    ∙ pending_other tasks (suc line) (raised_if task.autostart line bytes) line (inl (omega arith))
    ∙ raised_not task.autostart line bytes auto
    ∙ ap (λ k. get_or bytes k 0) (sym e)
pending_kept (task ∷ tasks) line bytes (suc j) d h auto =
    let e : line + suc j ≡ suc line + j = omega arith in
    ap (λ k. get_or (pending_with (suc line) tasks (raised_if task.autostart line bytes)) k 0) e
    ∙ pending_kept tasks (suc line) (raised_if task.autostart line bytes) j d (omega arith) auto
    ∙ raised_other task.autostart line bytes (suc line + j) (λ e. absurd (omega arith))
    ∙ ap (λ k. get_or bytes k 0) (sym e)

length-starts : (tasks : List TaskDecl) (line : ℕ) (levels : List ℕ) → length (lines_code line tasks levels) ≡ lines_length tasks
length-starts [] line levels = refl
length-starts (task ∷ tasks) line levels =
    let one = length-one task.autostart line in
    let ih = length-starts tasks (suc line) levels in
    let e = length-append (line_start_code line (get_or levels line 0) task.autostart) (lines_code (suc line) tasks levels) in
    omega (arith, one, ih, e)
  where
    length-one : (auto : Bool) (line : ℕ) → length (line_code line auto) ≡ cond auto 1 0
    length-one true line = refl
    length-one false line = refl

-- the code of boot
abbrev pub boot_code : List TaskDecl → (counters : ℕ) → List ℕ → (top idle : ℕ) → List InstrKind
boot_code tasks counters levels top idle = register_code ++ (lines_code 0 tasks levels ++ (counters_code counters first_counter_line (top + 1) ++ finishing_code idle))

-- the end of the idle loop's context
abbrev idle_end : ℕ
idle_end = memory_base + (idle_context + context_bytes)

module _ (tasks : List TaskDecl) (counters : ℕ) (levels : List ℕ) (top idle : ℕ) (few : length tasks ≤ task_limit) (few_counters : counters ≤ counter_limit) (byte : top + 1 < 256) (small : (k : ℕ) → get_or levels k 0 < 256) (fits : idle < 2 ^ 32)
    (aligned : idle % 4 ≡ 0) (offset : ℕ) (c : Core) (h : MayBoot offset (boot_code tasks counters levels top idle) c) where
  end_owes : (from to o x2 x1 : ℕ)
      → Owes from to o (finishing_code idle) 0 (BootEffect tasks counters levels top idle) (offset_state offset (spread c))
      (record (spread c) { registers = 0 ∷ x1 ∷ x2 ∷ controller_base ∷ 1 ∷ spread_from 27 5 c.registers; levels = filled counters first_counter_line (top + 1) (levels_with 0 tasks levels c.levels); enabled = filled counters first_counter_line 1 (enabled_with 0 tasks c.enabled); pending = pending_with 0 tasks c.pending })
  end_owes from to o x2 x1 =
      let n = length tasks in
      let long_levels = h.levels in
      let long_enabled = h.enabled in
      let long_pending = h.can_run.lines in
      let at_line : (line : ℕ) → 0 + line ≡ line = λ line. omega arith in
      let more_levels = length-levels tasks 0 levels c.levels in
      let more_enabled = length-enabled tasks 0 c.enabled in
      let past : (line : ℕ) → IsUnused (length tasks) counters line → 0 + length tasks ≤ line = λ line unused. let behind = unused.0 in omega arith in
      writes memory_base refl
      ▸ writes idle_end refl
      ▸ writes 128 refl
      ▸ accesses _ refl refl
      ▸ writes (hi idle * 4096) refl
      ▸ writes idle (hi_lo idle fits)
      ▸ accesses c.mepc refl refl
      ▸ record {
        touches = refl;
        level = λ line below.
            filled_other counters first_counter_line (top + 1) (levels_with 0 tasks levels c.levels) line (inl (omega arith))
            ∙ levels_at tasks 0 levels c.levels line (omega arith) (omega arith) (omega arith);
        counter_level = λ counter below.
            filled_at counters first_counter_line (top + 1) (levels_with 0 tasks levels c.levels) (counter_line counter) (omega arith) (omega arith) (omega arith);
        other_levels = λ line unused.
            filled_other counters first_counter_line (top + 1) (levels_with 0 tasks levels c.levels) line unused.1
            ∙ levels_other tasks 0 levels c.levels line (inr (past line unused));
        enabled = λ line below.
            filled_other counters first_counter_line 1 (enabled_with 0 tasks c.enabled) line (inl (omega arith))
            ∙ enabled_at tasks 0 c.enabled line (omega arith) (omega arith) (omega arith);
        counter_enabled = λ counter below. filled_at counters first_counter_line 1 (enabled_with 0 tasks c.enabled) (counter_line counter) (omega arith) (omega arith) (omega arith);
        other_enabled = λ line unused.
            filled_other counters first_counter_line 1 (enabled_with 0 tasks c.enabled) line unused.1
            ∙ enabled_other tasks 0 c.enabled line (inr (past line unused));
        raised = λ line d below auto. subst (λ k. get_or (pending_with 0 tasks c.pending) k 0 ≡ 1) (at_line line) (pending_raised tasks 0 c.pending line d below (omega arith) auto);
        unraised = λ line d below auto. subst (λ k. get_or (pending_with 0 tasks c.pending) k 0 ≡ get_or c.pending k 0) (at_line line) (pending_kept tasks 0 c.pending line d below auto);
        other_pending = λ line past. pending_other tasks 0 c.pending line (inr (omega arith));
        lines = (
          length-pending tasks 0 c.pending ∙ h.can_run.lines,
          length-filled counters first_counter_line 1 (enabled_with 0 tasks c.enabled) ∙ more_enabled ∙ h.enabled,
          length-filled counters first_counter_line (top + 1) (levels_with 0 tasks levels c.levels) ∙ more_levels ∙ h.levels,
        );
        pc = omega arith;
        left = record { zero = refl; registers = refl; bases = (refl, refl); opened = refl; previous = refl; running = refl; same_level = refl; pending = refl; enabled = refl; levels = refl; ram = refl; scratch = refl; controller = refl };
        x2 = refl;
        kept = λ i past. others idle idle_end controller_base memory_base (get_or c.registers 1 0) (get_or c.registers 2 0) (get_or c.registers 3 0) (get_or c.registers 4 0) (spread_from 27 5 c.registers) i past;
      }

  owes : (from to : ℕ) → Owes from to offset (boot_code tasks counters levels top idle) 0 (BootEffect tasks counters levels top idle) (offset_state offset (spread c)) (spread c)
  owes from to =
      writes controller_base refl
      ▸ writes 1 refl
      ▸ starts_owe from to (BootEffect tasks counters levels top idle) (offset_state offset (spread c)) (get_or c.registers 2 0) (spread_from 27 5 c.registers) levels small tasks 0 (offset + 4 + 4) (get_or c.registers 1 0) (counters_code counters first_counter_line (top + 1) ++ finishing_code idle) (spread c) (omega arith)
      (λ o x1. counters_owe from to (BootEffect tasks counters levels top idle) (offset_state offset (spread c)) (get_or c.registers 2 0) (spread_from 27 5 c.registers) levels small counters first_counter_line (top + 1) o x1
      (finishing_code idle) (record (spread c) { levels = levels_with 0 tasks levels c.levels; enabled = enabled_with 0 tasks c.enabled; pending = pending_with 0 tasks c.pending })
      (omega arith) byte
      (λ o2 y1. end_owes from to o2 (get_or c.registers 2 0) y1))

  -- from the first instruction to the idle loop
  pub runs_it : Masked (boot_length tasks counters) (offset_state offset c) (WithArrivals (BootEffect tasks counters levels top idle) (offset_state offset c))
  runs_it =
      let can = h.can_run in
      let to = offset + 4 * length (boot_code tasks counters levels top idle) in
      let long = length-starts tasks 0 levels in
      let all = length-append (lines_code 0 tasks levels) (counters_code counters first_counter_line (top + 1) ++ finishing_code idle) in
      let more = length-append (counters_code counters first_counter_line (top + 1)) (finishing_code idle) in
      let lasts = length-counters counters first_counter_line (top + 1) in
      handles offset (boot_length tasks counters) (boot_code tasks counters levels top idle) c (BootEffect tasks counters levels top idle) (offset_state offset c)
      (record { masked = h.masked; there = can.controller; lines = can.lines; aligned = can.aligned; fits = can.inside; placed = can.placed })
      (omega arith)
      (subst (λ x. Owes offset to offset (boot_code tasks counters levels top idle) 0 (BootEffect tasks counters levels top idle) (offset_state offset x) x) (spread_is c can.registers can.zero) (owes offset to))

-- for each list of tasks and number of counters that it is generated for
pub boots : (tasks : List TaskDecl) (counters : ℕ) (levels : List ℕ) (top idle : ℕ) → length tasks ≤ task_limit → counters ≤ counter_limit → top + 1 < 256
    → ((k : ℕ) → get_or levels k 0 < 256) → idle < 2 ^ 32 → IsBootCode tasks counters levels top idle (boot_code tasks counters levels top idle)
boots tasks counters levels top idle few few_counters byte small fits =
    let long = length-starts tasks 0 levels in
    let lasts = length-counters counters first_counter_line (top + 1) in
    let all = length-append (lines_code 0 tasks levels) (counters_code counters first_counter_line (top + 1) ++ finishing_code idle) in
    let more = length-append (counters_code counters first_counter_line (top + 1)) (finishing_code idle) in
    record {
      size = omega arith;
      runs = λ offset c aligned h. runs_it tasks counters levels top idle few few_counters byte small fits aligned offset c h;
    }
