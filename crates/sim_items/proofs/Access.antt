-- Loads and stores of RAM, by their width.
use Rattle.std.proofs.Common.{◌≡◌, ℕ, ◌+◌, ◌-◌, ◌%◌, ◌≤◌, ℤ, List, get_or, set, refl, ap, ◌∙◌, arith, cond, Option, None}
use Rattle.std.specs.Prelude.{true, false, Bool, eqb, slice_index}
use Rattle.std.proofs.lemmas.Bool.{eq-eqb}
use Rattle.sloth_base.specs.Arithmetic.{size_of, extended_number, plus, sign_extension}
use Rattle.sloth_base.specs.declared.app.Width.{Width}
use Rattle.sloth_base.specs.declared.app.Width.TheVariants as width
use Rattle.sloth_base.specs.Machine.{Core}
use Rattle.sloth_base.specs.MemoryMap.{memory_base, memory_bytes}
use Rattle.rv32_instr.specs.declared.encoding.Effect.TheVariants.{Load, Store}
use Rattle.rv32_instr.specs.Access.{load, store}
use Rattle.rv32_instr.specs.Ram.{half_at, word_at, with_half, with_word}
use Rattle.rv32_instr.specs.Memory.{memory_of, with_memory, refusal, loaded_number, stored_memory}
use Rattle.rv32_instr.specs.Effect.{effect}
use Rattle.rv32_instr.specs.Execute.{perform, touched_line_by, next_behind, unless_refused, with_register}
use Rattle.masked_code.proofs.Machine.{in_ram_at}
use Rattle.masked_code.proofs.Perform.{no_line}
use Rattle.sim_items.proofs.Bytes.{with_bytes, number_at, low_bytes}

-- the place of an access of this width in RAM
pub record IsPlaceOf (w : Width) (address offset : ℕ) : Type 0 where
  pub is : address ≡ memory_base + offset
  pub aligned : offset % size_of w ≡ 0
  pub inside : offset + size_of w ≤ memory_bytes

aligned_address : (w : Width) (o : ℕ) → o % size_of w ≡ 0 → (memory_base + o) % size_of w ≡ 0
aligned_address width.Byte o h = omega arith
aligned_address width.Half o h = omega arith
aligned_address width.Word o h = omega arith
aligned_address width.ByteU o h = omega arith
aligned_address width.HalfU o h = omega arith

allowed : (c : Core) (w : Width) (o : ℕ) → o % size_of w ≡ 0 → o + size_of w ≤ memory_bytes → refusal (memory_of c) (memory_base + o) w ≡ None
unfolding refusal
allowed c w o h l = rw (eq-eqb ((memory_base + o) % size_of w) 0 (aligned_address w o h), in_ram_at (memory_base + o) (size_of w) (omega arith) (omega arith))

-- ---- what a load gives

base : (o : ℕ) → memory_base + o - memory_base ≡ o
base o = omega arith

half_number : (ram : List ℕ) (o : ℕ) → half_at ram o ≡ number_at ram o 2
unfolding half_at
half_number ram o = omega arith

-- a word is the number in its four bytes
pub word_number : (ram : List ℕ) (o : ℕ) → word_at ram o ≡ number_at ram o 4
unfolding word_at
word_number ram o =
    let a : o + 1 + 1 ≡ o + 2 = omega arith in
    let b : o + 1 + 1 + 1 ≡ o + 3 = omega arith in
    let e = ap (λ p. get_or ram p 0) a in
    let f = ap (λ p. get_or ram p 0) b in
    omega arith

byte_number : (ram : List ℕ) (o : ℕ) → get_or ram o 0 ≡ number_at ram o 1
byte_number ram o = omega arith

gives : (c : Core) (w : Width) (o : ℕ) → o + size_of w ≤ memory_bytes → loaded_number (memory_of c) (memory_base + o) w ≡ extended_number w (number_at c.ram o (size_of w))
unfolding loaded_number
gives c width.Byte o l = rw (in_ram_at (memory_base + o) 1 (omega arith) (omega arith), base o) (ap (sign_extension 8) (byte_number c.ram o))
gives c width.Half o l = rw (base o) (ap (sign_extension 16) (half_number c.ram o))
gives c width.Word o l = rw (base o) (word_number c.ram o)
gives c width.ByteU o l = rw (in_ram_at (memory_base + o) 1 (omega arith) (omega arith), base o) (byte_number c.ram o)
gives c width.HalfU o l = rw (base o) (half_number c.ram o)

load_effect : (w : Width) (rd base : ℕ) (offset : ℤ) (pc : ℕ) (x : List ℕ) → effect (load w rd base offset) pc x ≡ Load w rd (plus (slice_index x base) offset)
load_effect width.Byte rd base offset pc x = refl
load_effect width.Half rd base offset pc x = refl
load_effect width.Word rd base offset pc x = refl
load_effect width.ByteU rd base offset pc x = refl
load_effect width.HalfU rd base offset pc x = refl

-- a load of RAM leaves the number in its bytes, extended as its width says
pub load_performs : (c : Core) (w : Width) (rd address o word pc : ℕ) → IsPlaceOf w address o
    → perform (Load w rd address) word pc c ≡ next_behind pc (with_register c rd (extended_number w (number_at c.ram o (size_of w))))
unfolding perform
load_performs c w rd address o word pc i =
    ap (λ a. unless_refused (refusal (memory_of c) a w) a (next_behind pc (with_register c rd (loaded_number (memory_of c) a w)))) i.is
    ∙ rw (allowed c w o i.aligned i.inside) (ap (λ v. next_behind pc (with_register c rd v)) (gives c w o i.inside))

-- it touches no line
pub load_quiet : (w : Width) (rd address o : ℕ) → IsPlaceOf w address o → touched_line_by (Load w rd address) ≡ None
unfolding touched_line_by
load_quiet w rd address o i = let e = i.is in no_line address (omega arith)

-- the same of a load by a register and an offset
pub load_at : (c : Core) (w : Width) (rd base : ℕ) (offset : ℤ) (o word pc : ℕ) → IsPlaceOf w (plus (slice_index c.registers base) offset) o
    → perform (effect (load w rd base offset) pc c.registers) word pc c ≡ next_behind pc (with_register c rd (extended_number w (number_at c.ram o (size_of w))))
load_at c w rd base offset o word pc i =
    ap (λ e. perform e word pc c) (load_effect w rd base offset pc c.registers) ∙ load_performs c w rd (plus (slice_index c.registers base) offset) o word pc i

-- which touches no line either
pub load_at_quiet : (c : Core) (w : Width) (rd base : ℕ) (offset : ℤ) (o pc : ℕ) → IsPlaceOf w (plus (slice_index c.registers base) offset) o
    → touched_line_by (effect (load w rd base offset) pc c.registers) ≡ None
load_at_quiet c w rd base offset o pc i =
    ap touched_line_by (load_effect w rd base offset pc c.registers) ∙ load_quiet w rd (plus (slice_index c.registers base) offset) o i

-- ---- what a store leaves

two : (ram : List ℕ) (o a b c d : ℕ) → a ≡ c → b ≡ d → set (set ram o a) (o + 1) b ≡ set (set ram o c) (o + 1) d
two ram o a b c d e f = cc

four : (ram : List ℕ) (o p q p' q' a b c d a' b' c' d' : ℕ) → p ≡ p' → q ≡ q' → a ≡ a' → b ≡ b' → c ≡ c' → d ≡ d'
    → set (set (set (set ram o a) (o + 1) b) p c) q d ≡ set (set (set (set ram o a') (o + 1) b') p' c') q' d'
four ram o p q p' q' a b c d a' b' c' d' e f g h i j = cc

half_bytes : (ram : List ℕ) (o value : ℕ) → with_half ram o value ≡ with_bytes ram o (low_bytes width.Half value)
unfolding with_half
half_bytes ram o value = two ram o _ _ _ _ (omega arith) (omega arith)

-- a word is written as its four bytes
pub word_bytes : (ram : List ℕ) (o value : ℕ) → with_word ram o value ≡ with_bytes ram o (low_bytes width.Word value)
unfolding with_word
word_bytes ram o value = four ram o _ _ _ _ _ _ _ _ _ _ _ _ (omega arith) (omega arith) (omega arith) (omega arith) (omega arith) (omega arith)

byte_bytes : (ram : List ℕ) (o value : ℕ) → set ram o (value % 256) ≡ with_bytes ram o (low_bytes width.Byte value)
byte_bytes ram o value = ap (λ v. set ram o v) (omega arith)

leaves : (c : Core) (w : Width) (o value : ℕ) → o + size_of w ≤ memory_bytes
    → with_memory c (stored_memory (memory_of c) (memory_base + o) w value) ≡ record c { ram = with_bytes c.ram o (low_bytes w value) }
unfolding stored_memory
leaves c width.Byte o value l = rw (in_ram_at (memory_base + o) 1 (omega arith) (omega arith), base o) (ap (λ r. record c { ram = r }) (byte_bytes c.ram o value))
leaves c width.Half o value l = rw (base o) (ap (λ r. record c { ram = r }) (half_bytes c.ram o value))
leaves c width.Word o value l = rw (base o) (ap (λ r. record c { ram = r }) (word_bytes c.ram o value))
leaves c width.ByteU o value l = rw (in_ram_at (memory_base + o) 1 (omega arith) (omega arith), base o) (ap (λ r. record c { ram = r }) (byte_bytes c.ram o value))
leaves c width.HalfU o value l = rw (base o) (ap (λ r. record c { ram = r }) (half_bytes c.ram o value))

store_performs : (c : Core) (w : Width) (address value o word pc : ℕ) → IsPlaceOf w address o
    → perform (Store w address value) word pc c ≡ next_behind pc (record c { ram = with_bytes c.ram o (low_bytes w value) })
unfolding perform
store_performs c w address value o word pc i =
    ap (λ a. unless_refused (refusal (memory_of c) a w) a (next_behind pc (with_memory c (stored_memory (memory_of c) a w value)))) i.is
    ∙ rw (allowed c w o i.aligned i.inside) (ap (next_behind pc) (leaves c w o value i.inside))

both_none : (b : Bool) → ◌≡◌ {A = Option ℕ} (cond b None None) None
both_none true = refl
both_none false = refl

store_quiet : (w : Width) (address value o : ℕ) → IsPlaceOf w address o → touched_line_by (Store w address value) ≡ None
unfolding touched_line_by
store_quiet w address value o i =
    let e = i.is in
    ap (λ x. cond (eqb (value % 256) 0) x None) (no_line address (omega arith)) ∙ both_none (eqb (value % 256) 0)

-- the instructions of unsigned widths are those of the others
pub store_at : (c : Core) (w : Width) (rs base : ℕ) (offset : ℤ) (o word pc : ℕ) → IsPlaceOf w (plus (slice_index c.registers base) offset) o
    → perform (effect (store w rs base offset) pc c.registers) word pc c ≡ next_behind pc (record c { ram = with_bytes c.ram o (low_bytes w (slice_index c.registers rs)) })
store_at c width.Byte rs base offset o word pc i = store_performs c width.Byte _ _ o word pc i
store_at c width.Half rs base offset o word pc i = store_performs c width.Half _ _ o word pc i
store_at c width.Word rs base offset o word pc i = store_performs c width.Word _ _ o word pc i
store_at c width.ByteU rs base offset o word pc i = store_performs c width.Byte _ _ o word pc (record { is = i.is; aligned = i.aligned; inside = i.inside })
store_at c width.HalfU rs base offset o word pc i = store_performs c width.Half _ _ o word pc (record { is = i.is; aligned = i.aligned; inside = i.inside })

-- a store of RAM touches no line
pub store_at_quiet : (c : Core) (w : Width) (rs base : ℕ) (offset : ℤ) (o pc : ℕ) → IsPlaceOf w (plus (slice_index c.registers base) offset) o
    → touched_line_by (effect (store w rs base offset) pc c.registers) ≡ None
store_at_quiet c width.Byte rs base offset o pc i = store_quiet width.Byte _ _ o i
store_at_quiet c width.Half rs base offset o pc i = store_quiet width.Half _ _ o i
store_at_quiet c width.Word rs base offset o pc i = store_quiet width.Word _ _ o i
store_at_quiet c width.ByteU rs base offset o pc i = store_quiet width.Byte _ _ o (record { is = i.is; aligned = i.aligned; inside = i.inside })
store_at_quiet c width.HalfU rs base offset o pc i = store_quiet width.Half _ _ o (record { is = i.is; aligned = i.aligned; inside = i.inside })
