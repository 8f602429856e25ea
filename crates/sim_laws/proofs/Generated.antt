-- What the generators' contracts say of the pieces makes a kernel in place.
use Rattle.std.proofs.Common.{◌≡◌, ℕ, zero, suc, ◌+◌, ◌*◌, ◌<◌, ◌≤◌, ℤ, List, [], ◌∷◌, length, sym, ap, ◌∙◌, subst, arith, true}
use Rattle.std.specs.Prelude.{Some, slice_index, slice_index_or}
use Rattle.sloth_base.specs.declared.image.Image.{Image}
use Rattle.sloth_base.specs.Owners.{counter_line}
use Rattle.sloth_base.specs.declared.limits.Levels.{Levels}
use Rattle.sloth_region.specs.declared.region.Map.{Map}
use Rattle.rv32_instr.specs.declared.InstrKind.{InstrKind}
use Rattle.rv32_instr.specs.declared.InstrKind.TheVariants.{Jal, Mret}
use Rattle.sloth_base.specs.Arithmetic.{plus}
use Rattle.rv32_instr.specs.Ram.{word_at}
use Rattle.rv32_instr.specs.Table.{Decode}
use Rattle.masked_code.specs.Place.{InPlace}
use Rattle.sloth_base.specs.Named.{undeclared_task}
use Rattle.sloth_base.specs.MemoryMap.{memory_base, vectors_base, line_count}
use Rattle.vector_gen.specs.Boot.{IsBootCode}
use Rattle.vector_gen.specs.Vectors.{AreJumps}
use Rattle.vector_gen.specs.Fresh.{vector}
use Rattle.sim_relation.specs.Build.{Build}
use Rattle.sim_relation.specs.Placed.{IsPlaced}
use Rattle.sim_routines.specs.Codes.{PrologueStands}
use Rattle.sim_routines.specs.Generated.{IsBuiltFrom}
use Rattle.sim_routines.proofs.Generated.{enters_built}
use Rattle.sim_routines.specs.TickSteps.{TickStands}
use Rattle.sim_laws.specs.Kernel.{Kernel}
use Rattle.sim_laws.specs.Generated.{IsGenerated}

-- one instruction of code in place
in_place_at : (memory : List ℕ) (code : List InstrKind) (offset k : ℕ) (d : InstrKind) → k < length code → InPlace memory offset code
    → Decode (word_at memory (offset + 4 * k)) ≡ Some (slice_index_or code k d)
in_place_at memory [] offset k d l h = absurd (omega arith)
in_place_at memory (kind ∷ code) offset zero d l h =
    let e : offset + 4 * 0 ≡ offset = omega arith in
    ap (λ o. Decode (word_at memory o)) e ∙ h.0
in_place_at memory (kind ∷ code) offset (suc k) d l h =
    let e : offset + 4 * suc k ≡ offset + 4 + 4 * k = omega arith in
    ap (λ o. Decode (word_at memory o)) e ∙ in_place_at memory code (offset + 4) k d (omega arith) h.1

-- the vector word of a line
record HasVector (b : Build) (t target : ℕ) : Type 0 where
  jump : ℤ
  is_code : (i : ℕ) → vector t ≤ i → i < vector t + 4 → b.is_code i ≡ true
  placed : Decode (word_at b.memory (vector t)) ≡ Some (Jal 0 jump)
  target_is : plus (memory_base + vector t) jump ≡ target

vector_of : (b : Build) (handlers : List ℕ) (code : List InstrKind) (t : ℕ) → t < 32 → AreJumps line_count handlers code → IsPlaced b 0x400 code → HasVector b t (slice_index handlers t)
vector_of b handlers code t l jumps p =
    let j = jumps.each t Mret l in
    let many = jumps.many in
    let e : memory_base + vector t ≡ vectors_base + 4 * t = omega arith in
    record {
      jump = j.0;
      is_code = λ i x y. p.is_code i (omega arith) (omega arith);
      placed = in_place_at b.memory code 0x400 t Mret (omega arith) p.placed ∙ ap (λ (k : InstrKind). Some k) j.1;
      target_is = ap (λ a. plus a j.0) e ∙ j.2;
    }

module _ (b : Build) (image : Image) (levels : Levels) (map : Map) (g : IsGenerated b image levels map) where
  built : IsBuiltFrom b levels map
  built = record { places = g.places; idle = g.idle_is; tops = g.tops; ranks = λ t l. g.are_levels.tasks.of_task t undeclared_task l; highest = g.are_levels.top }

  prologue : (t : ℕ) → t < length b.config.tasks → PrologueStands b t
  prologue t l =
      let few = g.fits.few_tasks in
      let p = g.prologues t l in
      let v = vector_of b map.handlers g.vectors t (omega arith) g.jumps g.vectors_placed in
      record {
        offset = p.offset;
        code = p.code;
        enters = enters_built b levels map t p.code g.fits built l p.one_body p.enters;
        placed = p.placed;
        jump = v.jump;
        vector_word = record { aligned = omega arith; inside = omega arith; is_code = v.is_code; placed = (v.placed, tt) };
        to_code = v.target_is ∙ p.is;
        few_words = p.few_words;
        has_item = p.has_item;
      }

  tick : (c : ℕ) → c < length b.config.counters → TickStands b c
  tick c l =
      let few = g.fits.few_counters in
      let p = g.ticks c l in
      let v = vector_of b map.handlers g.vectors (counter_line c) (omega (arith, few, l)) g.jumps g.vectors_placed in
      record {
        code = p.code;
        is_tick = p.is_tick;
        offset = p.offset;
        placed = p.placed;
        jump = v.jump;
        vector_word = record { aligned = omega arith; inside = omega (arith, few, l); is_code = v.is_code; placed = (v.placed, tt) };
        to_code = v.target_is ∙ p.is;
      }

  pub generated_kernel : Kernel b image
  generated_kernel = record {
    fits = g.fits;
    well_formed = g.well_formed;
    tasks = g.tasks;
    counters = g.counters;
    is_image = g.is_image;
    bytes = g.bytes;
    boot = record {
      levels = levels.task;
      ranks = built.ranks;
      code = g.boot;
      boots = subst (λ i. IsBootCode b.config.tasks (length b.config.counters) levels.task (length b.config.tasks) i g.boot) (sym g.idle_is)
          (subst (λ top. IsBootCode b.config.tasks (length b.config.counters) levels.task top map.idle g.boot) built.highest g.boots);
      placed = g.boot_placed;
    };
    idle = g.idle;
    prologues = prologue;
    ticks = tick;
    stacks = g.stacks;
    nested = g.nested;
    items = g.items;
    operations = g.operations;
    way_back = g.way_back;
  }
