-- What the instructions of routines do, whatever has arrived.
use Rattle.std.proofs.Common.{◌≡◌, ℕ, zero, suc, ◌+◌, ◌-◌, ◌%◌, ◌<◌, ◌≤◌, List, get_or, refl, ap, ◌∙◌, arith, Option, Some, None}
use Rattle.std.specs.Prelude.{◌/◌, ◌==◌, Bool, true, false, set, cond, ◌≢◌, eqb}
use Rattle.std.proofs.lemmas.Bool.{le-leb, and_from, eq-eqb, ne_eqb, lt-ltb, le-ltb, and_right}
use Rattle.sloth_base.specs.declared.app.Width.TheVariants as width
use Rattle.sloth_base.specs.Machine.{Core}
use Rattle.sloth_base.specs.Lines.{flag_of}
use Rattle.sloth_base.specs.Arrive.{core_arrive}
use Rattle.sloth_base.specs.MemoryMap.{controller_base, line_count, controller_bytes}
use Rattle.rv32_instr.specs.declared.csr.TheConstants.{MSTATUS, MSCRATCH, MEPC, ILEVEL, PLEVEL}
use Rattle.rv32_instr.specs.declared.encoding.Change.{Change}
use Rattle.rv32_instr.specs.declared.encoding.Change.TheVariants.{Keep, Replace, Set, Clear}
use Rattle.rv32_instr.specs.declared.encoding.Effect.TheVariants.{Load, Store}
use Rattle.rv32_instr.specs.Ram.{word_at, with_word}
use Rattle.rv32_instr.specs.Memory.{memory_of, with_memory, refusal, loaded_number, stored_memory}
use Rattle.rv32_instr.specs.Execute.{perform, touched_line_by, pending_line, next_behind, unless_refused, with_register, with_csr, changed_core}
use Rattle.masked_code.proofs.Owes.{IsWordAt, Pending, Enabled, Level, IsAt}
use Rattle.masked_code.proofs.Machine.{word_allowed, word_loaded, word_stored, byte_allowed, store_allowed, pending_loaded, enabled_loaded, level_loaded, pending_stored, enabled_stored, level_stored}

-- ---- which line an address is the pending byte of

-- the first 32 bytes of the controller
pub a_line : (l : ℕ) → l < line_count → pending_line (controller_base + l) ≡ Some l
a_line l h =
    let e : controller_base + l - controller_base ≡ l = omega arith in
    ap (λ b. cond b (Some (controller_base + l - controller_base)) None) (and_from _ _ (le-leb controller_base (controller_base + l) (omega arith)) (lt-ltb (controller_base + l) (controller_base + line_count) (omega arith)))
    ∙ ap Some e

-- no byte behind them
pub no_line : (a : ℕ) → controller_base + line_count ≤ a → pending_line a ≡ None
no_line a h = ap (λ b. cond b (Some (a - controller_base)) None) (and_right _ _ (le-ltb a (controller_base + line_count) h))

-- ---- words of RAM

-- loads and stores of words of RAM
pub load_word : (c : Core) (rd address place word pc : ℕ) → IsWordAt address place → perform (Load width.Word rd address) word pc c ≡ next_behind pc (with_register c rd (word_at c.ram place))
unfolding perform
load_word c rd address place word pc w =
    ap (λ x. unless_refused (refusal (memory_of c) x width.Word) x (next_behind pc (with_register c rd (loaded_number (memory_of c) x width.Word)))) w.is
    ∙ rw (word_allowed c place w.aligned w.inside, word_loaded c place)

pub store_word : (c : Core) (address place v word pc : ℕ) → IsWordAt address place → perform (Store width.Word address v) word pc c ≡ next_behind pc (record c { ram = with_word c.ram place v })
unfolding perform
store_word c address place v word pc w =
    ap (λ x. unless_refused (refusal (memory_of c) x width.Word) x (next_behind pc (with_memory c (stored_memory (memory_of c) x width.Word v)))) w.is
    ∙ (rw (word_allowed c place w.aligned w.inside))
    ∙ ap (next_behind pc) (word_stored c place v)

both_none : (b : Bool) → ◌≡◌ {A = Option ℕ} (cond b None None) None
both_none true = refl
both_none false = refl

-- they touch no line
pub load_word_quiet : (rd address place : ℕ) → IsWordAt address place → touched_line_by (Load width.Word rd address) ≡ None
unfolding touched_line_by
load_word_quiet rd address place w = let e = w.is in no_line address (omega arith)

pub store_word_quiet : (address place v : ℕ) → IsWordAt address place → touched_line_by (Store width.Word address v) ≡ None
unfolding touched_line_by
store_word_quiet address place v w =
    let e = w.is in
    ap (λ x. cond (eqb (v % 256) 0) x None) (no_line address (omega arith)) ∙ both_none (eqb (v % 256) 0)

-- ---- bytes of the controller

load_byte : (c : Core) (rd address k word pc : ℕ) → c.controller ≡ true → address ≡ controller_base + k → k < controller_bytes → perform (Load width.ByteU rd address) word pc c ≡ next_behind pc (with_register c rd (loaded_number (memory_of c) (controller_base + k) width.ByteU))
unfolding perform
load_byte c rd address k word pc there e h =
    ap (λ x. unless_refused (refusal (memory_of c) x width.ByteU) x (next_behind pc (with_register c rd (loaded_number (memory_of c) x width.ByteU)))) e
    ∙ rw (byte_allowed c k there h)

-- loads of a line's bytes
pub load_pending : (c : Core) (rd address l word pc : ℕ) → c.controller ≡ true → IsAt address (Pending l) → perform (Load width.ByteU rd address) word pc c ≡ next_behind pc (with_register c rd (get_or c.pending l 0))
load_pending c rd address l word pc there i =
    let below = i.1 in
    load_byte c rd address l word pc there i.0 (omega arith) ∙ ap (λ v. next_behind pc (with_register c rd v)) (pending_loaded c l below)

pub load_enabled : (c : Core) (rd address l word pc : ℕ) → c.controller ≡ true → IsAt address (Enabled l) → perform (Load width.ByteU rd address) word pc c ≡ next_behind pc (with_register c rd (get_or c.enabled l 0))
load_enabled c rd address l word pc there i =
    let below = i.1 in
    load_byte c rd address (32 + l) word pc there i.0 (omega arith) ∙ ap (λ v. next_behind pc (with_register c rd v)) (enabled_loaded c l below)

pub load_level : (c : Core) (rd address l word pc : ℕ) → c.controller ≡ true → IsAt address (Level l) → perform (Load width.ByteU rd address) word pc c ≡ next_behind pc (with_register c rd (get_or c.levels l 0))
load_level c rd address l word pc there i =
    let below = i.1 in
    load_byte c rd address (64 + l) word pc there i.0 (omega arith) ∙ ap (λ v. next_behind pc (with_register c rd v)) (level_loaded c l below)

-- a load of a pending byte touches its line
pub load_touches : (rd address l : ℕ) → IsAt address (Pending l) → touched_line_by (Load width.ByteU rd address) ≡ Some l
unfolding touched_line_by
load_touches rd address l i = ap pending_line i.0 ∙ a_line l i.1

-- one of an enable byte or a level touches none
pub load_quiet : (rd address : ℕ) → controller_base + line_count ≤ address → touched_line_by (Load width.ByteU rd address) ≡ None
unfolding touched_line_by
load_quiet rd address h = no_line address h

store_byte : (c : Core) (address k v word pc : ℕ) → c.controller ≡ true → address ≡ controller_base + k → k < controller_bytes → perform (Store width.Byte address v) word pc c ≡ next_behind pc (with_memory c (stored_memory (memory_of c) (controller_base + k) width.Byte v))
unfolding perform
store_byte c address k v word pc there e h =
    ap (λ x. unless_refused (refusal (memory_of c) x width.Byte) x (next_behind pc (with_memory c (stored_memory (memory_of c) x width.Byte v)))) e
    ∙ rw (store_allowed c k there h)

-- stores to a line's bytes
pub store_pending : (c : Core) (address l v word pc : ℕ) → c.controller ≡ true → IsAt address (Pending l) → perform (Store width.Byte address v) word pc c ≡ next_behind pc (record c { pending = set c.pending l (flag_of (v % 256)) })
store_pending c address l v word pc there i =
    let below = i.1 in
    store_byte c address l v word pc there i.0 (omega arith) ∙ ap (next_behind pc) (pending_stored c l v below)

pub store_enabled : (c : Core) (address l v word pc : ℕ) → c.controller ≡ true → IsAt address (Enabled l) → perform (Store width.Byte address v) word pc c ≡ next_behind pc (record c { enabled = set c.enabled l (flag_of (v % 256)) })
store_enabled c address l v word pc there i =
    let below = i.1 in
    store_byte c address (32 + l) v word pc there i.0 (omega arith) ∙ ap (next_behind pc) (enabled_stored c l v below)

pub store_level : (c : Core) (address l v word pc : ℕ) → c.controller ≡ true → IsAt address (Level l) → perform (Store width.Byte address v) word pc c ≡ next_behind pc (record c { levels = set c.levels l (v % 256) })
store_level c address l v word pc there i =
    let below = i.1 in
    store_byte c address (64 + l) v word pc there i.0 (omega arith) ∙ ap (next_behind pc) (level_stored c l v below)

-- a store of 0 to a pending byte touches its line
pub store_touches : (address l v : ℕ) → IsAt address (Pending l) → v % 256 ≡ 0 → touched_line_by (Store width.Byte address v) ≡ Some l
unfolding touched_line_by
store_touches address l v i z = ap (λ b. cond b (pending_line address) None) (eq-eqb (v % 256) 0 z) ∙ ap pending_line i.0 ∙ a_line l i.1

-- one of another value does not, as it does what an arrival does
pub raise_quiet : (address v : ℕ) → v % 256 ≢ 0 → touched_line_by (Store width.Byte address v) ≡ None
unfolding touched_line_by
raise_quiet address v ne = ap (λ b. cond b (pending_line address) None) (ne_eqb (v % 256) 0 ne)

-- nor one to an enable byte or a level
pub store_quiet : (address v : ℕ) → controller_base + line_count ≤ address → touched_line_by (Store width.Byte address v) ≡ None
unfolding touched_line_by
store_quiet address v h = ap (λ x. cond (eqb (v % 256) 0) x None) (no_line address h) ∙ both_none (eqb (v % 256) 0)

-- what a flag keeps of a value
pub flag-zero : (v : ℕ) → v ≡ 0 → flag_of v ≡ 0
flag-zero v e = ap (λ b. cond b 0 1) (eq-eqb v 0 e)

pub flag-other : (v : ℕ) → v ≢ 0 → flag_of v ≡ 1
flag-other v ne = ap (λ b. cond b 0 1) (ne_eqb v 0 ne)

-- ---- registers and CSRs

-- a register may be written before the arrivals
pub with_register-arrive : (c : Core) (rd v : ℕ) (m : List ℕ) → with_register (core_arrive m c) rd v ≡ core_arrive m (with_register c rd v)
with_register-arrive c zero v m = refl
with_register-arrive c (suc rd) v m = refl

-- x is d with these arrivals, and d is c but for CSRs
pub record Changed (m : List ℕ) (c x d : Core) : Type 0 where
  pub arrives : x ≡ core_arrive m d
  pub ram_is : d.ram ≡ c.ram
  pub pending_is : d.pending ≡ c.pending
  pub controller_is : d.controller ≡ c.controller

abbrev written : Bool → Bool → Bool → Bool → Bool → Core → ℕ → Core
written a b d e f c v =
    cond a (record c { mie = v / 8 % 2 == 1; mpie = v / 128 % 2 == 1 })
    (cond b (record c { mscratch = v })
    (cond d (record c { mepc = v - v % 4 })
    (cond e (record c { ilevel = v % 256 })
    (cond f (record c { plevel = v % 256 }) c))))

written_changes : (m : List ℕ) (c : Core) (v : ℕ) (a b d e f : Bool) → Changed m c (written a b d e f (core_arrive m c) v) (written a b d e f c v)
written_changes m c v true b d e f = record { arrives = refl; ram_is = refl; pending_is = refl; controller_is = refl }
written_changes m c v false true d e f = record { arrives = refl; ram_is = refl; pending_is = refl; controller_is = refl }
written_changes m c v false false true e f = record { arrives = refl; ram_is = refl; pending_is = refl; controller_is = refl }
written_changes m c v false false false true f = record { arrives = refl; ram_is = refl; pending_is = refl; controller_is = refl }
written_changes m c v false false false false true = record { arrives = refl; ram_is = refl; pending_is = refl; controller_is = refl }
written_changes m c v false false false false false = record { arrives = refl; ram_is = refl; pending_is = refl; controller_is = refl }

with_csr_changes : (m : List ℕ) (c : Core) (csr v : ℕ) → Changed m c (with_csr (core_arrive m c) csr v) (with_csr c csr v)
with_csr_changes m c csr v = written_changes m c v (csr == MSTATUS) (csr == MSCRATCH) (csr == MEPC) (csr == ILEVEL) (csr == PLEVEL)

-- a change of a CSR may come before the arrivals
pub changed_changes : (m : List ℕ) (c : Core) (change : Change) (csr old : ℕ) → Changed m c (changed_core change csr old (core_arrive m c)) (changed_core change csr old c)
changed_changes m c Keep csr old = record { arrives = refl; ram_is = refl; pending_is = refl; controller_is = refl }
changed_changes m c (Replace v) csr old = with_csr_changes m c csr v
changed_changes m c (Set v) csr old = with_csr_changes m c csr _
changed_changes m c (Clear v) csr old = with_csr_changes m c csr _
