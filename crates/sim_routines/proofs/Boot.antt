-- The law of boot.
use Rattle.std.proofs.Common.{◌≡◌, ℕ, zero, suc, ◌-◌, ◌<◌, ◌≤◌, List, [], ◌∷◌, ◌++◌, length, refl, sym, ap, ◌∙◌, arith, ⊎_elim, inl, inr, true, false, cond}
use Rattle.std.specs.Prelude.{◌⊎◌, slice_index, replicate}
use Rattle.std.proofs.lemmas.Bool.{cases_Bool, cases_lt}
use Rattle.std.proofs.lemmas.List.{length-append, length-replicate}
use Rattle.sloth_base.specs.declared.service.Event.TheVariants as event
use Rattle.sloth_base.specs.declared.image.Image.{Image}
use Rattle.sloth_base.specs.Machine.{State}
use Rattle.sloth_base.specs.Owners.{first_counter_line, counter_line, line_kind, owners_in}
use Rattle.sloth_base.specs.declared.numbers.LineKind.TheVariants as line_of
use Rattle.sloth_base.specs.declared.numbers.Owners.{Owners}
use Rattle.sloth_base.proofs.Owners.{unused_behind, counter_owned}
use Rattle.machine_memory.specs.Fresh.{ram_of}
use Rattle.rv32_machine.specs.Start.{start}
use Rattle.sloth_base.specs.Named.{declaration}
use Rattle.sloth_base.specs.MemoryMap.{memory_bytes}
use Rattle.osek_scheduler.specs.State.{opening, opening_clock}
use Rattle.osek_scheduler.specs.Steps.{OsekStep}
use Rattle.vector_gen.specs.Boot.{BootEffect}
use Rattle.sim_relation.specs.Build.{Build, HasFittingPlaces}
use Rattle.sim_relation.specs.Stands.{Stands, IsFixed}
use Rattle.sim_relation.specs.Start.{Starts, started_system}
use Rattle.sim_relation.proofs.ClockKept.{clock_kept}
use Rattle.sim_relation.proofs.Framing.{word_kept}
use Rattle.sim_relation.proofs.Starting.{starts_stand}
use Rattle.sim_routines.specs.Boot.{IsImage, AreLevelsOf}
use Rattle.sim_routines.proofs.Spot.{zero_at}

-- zeros behind a list change no element
padded : (bytes : List ℕ) (n i : ℕ) → slice_index (bytes ++ replicate n 0) i ≡ slice_index bytes i
padded [] n i = zero_at n i
padded (byte ∷ bytes) n zero = refl
padded (byte ∷ bytes) n (suc i) = padded bytes n i

-- a byte of RAM at the start is that of the image
pub ram_at : (bytes : List ℕ) (i : ℕ) → slice_index (ram_of bytes) i ≡ slice_index bytes i
unfolding ram_of
ram_at bytes i = padded bytes (memory_bytes - length bytes) i

length-ram : (bytes : List ℕ) → length bytes ≤ memory_bytes → length (ram_of bytes) ≡ memory_bytes
unfolding ram_of
length-ram bytes h =
    let z : List ℕ = replicate (memory_bytes - length bytes) 0 in
    let a = length-append {A = ℕ} bytes z in
    let n = length-replicate {A = ℕ} (memory_bytes - length bytes) 0 in
    omega arith

-- a line that nothing owns is before those of counters or behind them
unused_beside : (owners : Owners) (line : ℕ) → owners.tasks ≤ first_counter_line → line_kind owners line ≡ line_of.Unused
    → (line < first_counter_line) ⊎ (counter_line owners.counters ≤ line)
unused_beside owners line few unused =
    ⊎_elim (λ (l : line < first_counter_line). inl l)
    (λ (g : first_counter_line ≤ line).
    ⊎_elim
    (λ (l : line < counter_line owners.counters).
    let back : counter_line (line - first_counter_line) ≡ line = omega (arith, g) in
    absurd (counter_owned owners (line - first_counter_line) few (omega (arith, g, l)) (ap (line_kind owners) back ∙ unused)))
    (λ (h : counter_line owners.counters ≤ line). inr h)
    (cases_lt line (counter_line owners.counters)))
    (cases_lt line first_counter_line)

module _ (b : Build) (image : Image) (levels : List ℕ) (end : State) (fits : HasFittingPlaces b) (is : IsImage b image) (ranks : AreLevelsOf b levels)
    (effect : BootEffect b.config.tasks (length b.config.counters) levels (length b.config.tasks) b.idle [] (start image) end) where
  ram_is : (i : ℕ) → slice_index end.core.ram i ≡ slice_index b.memory i
  ram_is i = ap (λ r. slice_index r i) effect.left.ram ∙ ram_at image.memory i ∙ ap (λ m. slice_index m i) is.memory

  fixed : IsFixed b end.core
  fixed = record {
    open_to_lines = effect.left.opened;
    previous = effect.left.previous;
    same_level = effect.left.same_level;
    bases = effect.left.bases;
    controller = effect.left.controller;
    registers = effect.left.registers;
    zero = effect.left.zero;
    pending = effect.lines.0;
    enabled = effect.lines.1;
    levels = effect.lines.2;
    ram = ap length effect.left.ram ∙ length-ram image.memory (let m = ap length is.memory in let s = is.size in omega arith);
    code = λ i h. ram_is i;
  }

  pending : (t : ℕ) → t < length b.config.tasks → slice_index end.core.pending t ≡ cond (declaration b.config t).autostart 1 0
  pending t h =
      ⊎_elim
      (λ (a : (declaration b.config t).autostart ≡ true). effect.raised t _ h a ∙ sym (ap (λ v. cond v 1 0) a))
      (λ (a : (declaration b.config t).autostart ≡ false). effect.unraised t _ h a ∙ zero_at 32 t ∙ sym (ap (λ v. cond v 1 0) a))
      (cases_Bool (declaration b.config t).autostart)

  starts : Starts b end
  starts = record {
    pc = effect.pc;
    level = effect.left.running;
    x2 = effect.x2;
    fixed = fixed;
    service_words = λ i h o. ram_is i ∙ is.service_words i h o;
    clock = clock_kept b b.memory end.core.ram (opening_clock b.config) fits
        (λ p from to a. word_kept b.memory end.core.ram 0 1024 p (λ i x y. ram_is i) (omega arith) (omega arith)) is.clock;
    pending = pending;
    enabled = effect.enabled;
    counters = λ c h. record {
      enabled = effect.counter_enabled c h;
      pending = effect.other_pending (counter_line c) (let few = fits.few_tasks in omega (arith, few)) ∙ zero_at 32 (counter_line c);
      level = effect.counter_level c h;
    };
    other_enabled = λ line unused.
        effect.other_enabled line (unused_behind (owners_in b.config) line unused, unused_beside (owners_in b.config) line fits.few_tasks unused) ∙ zero_at 32 line;
    levels = λ t h. effect.level t h ∙ ranks t h;
    data_stands = λ y k h.
        let d = is.data_stands y k h in
        record { from = d.from; is_data = d.is_data; holds = ram_is _ ∙ d.holds };
  }

  -- boot is the event Boot, and the relation stands behind it
  pub boots_law : OsekStep b.config b.app event.Boot (opening b.config b.app) (started_system b) × Stands b end (started_system b)
  boots_law = ((refl, refl), starts_stand b end fits starts)
