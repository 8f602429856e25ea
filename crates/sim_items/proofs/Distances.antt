-- Where jumps and branches lead.
use Rattle.std.proofs.Common.{◌≡◌, ℕ, ◌+◌, ◌%◌, ◌<◌, ◌≤◌, ℤ, List, [], ◌∷◌, length, Bool, true, false, not, refl, arith}
use Rattle.std.specs.Prelude.{slice_index, ◌==◌, nat_lt}
use Rattle.std.proofs.lemmas.Bool.{eq-eqb}
use Rattle.std.proofs.lemmas.Bool.Decides.{nat_tests}
use Rattle.std.proofs.lemmas.Int.{ints}
use Rattle.sloth_base.specs.Arithmetic.{plus, branch_holds, signed_less}
use Rattle.sloth_base.specs.Machine.{Core}
use Rattle.sloth_base.specs.declared.app.BranchKind.{BranchKind}
use Rattle.sloth_base.specs.declared.app.BranchKind.TheVariants as branch
use Rattle.rv32_instr.specs.declared.InstrKind.{InstrKind}
use Rattle.rv32_instr.specs.declared.encoding.Effect.TheVariants.{Branch}
use Rattle.rv32_instr.specs.Effect.{effect}
use Rattle.rv32_instr.specs.Execute.{Going, next_at_target}
use Rattle.rv32_expand.specs.Expansion.{item_address, is_long, distance, test, opposite, expansion}
use Rattle.rv32_expand.proofs.Counts.{expanded_some}
use Rattle.sloth_base.specs.Named.{operation}
use Rattle.sloth_base.specs.MemoryMap.{memory_base, memory_end}
use Rattle.observe.specs.Observe.{View}
use Rattle.sim_relation.specs.Build.{Build}
use Rattle.sim_items.specs.Place.{HasInstructions, ItemStands}

-- a jump by the distance arrives
pub arrives : (from to : ℕ) → from < 4294967296 → to < 4294967296 → plus from (distance from to) ≡ to
arrives from to l h = grind (arith, nat_tests, ints)

-- a jump to a whole word goes there
pub jumps_to : (target : ℕ) (core : Core) → target % 4 ≡ 0 → next_at_target target core ≡ Going (record { pc = target; core = core })
jumps_to target core a = rw (eq-eqb (target % 4) 0 a) refl

-- an address in RAM
pub record IsInRam (address : ℕ) : Type 0 where
  pub from : memory_base ≤ address
  pub to : address + 4 ≤ memory_end

first_in_ram : (b : Build) (address : ℕ) (code : List InstrKind) → 0 < length code → HasInstructions b address code → IsInRam address
first_in_ram b address [] l h = absurd (omega arith)
first_in_ram b address (kind ∷ code) l h = let i = h.0 in let e = i.is in let t = i.to in record { from = omega arith; to = omega arith }

-- an item that stands is in RAM
pub item_in_ram : (b : Build) (view : View) (func item : ℕ) → ItemStands b view func item → IsInRam (item_address b.places func item)
item_in_ram b view func item h =
    let address = item_address b.places func item in
    first_in_ram b address (expansion b.app b.places func item)
    (expanded_some b.app b.places func address (is_long b.places func item) (operation b.app func item)) h.code

-- ---- tests

-- a branch instruction branches where its test holds
pub test_effect : (kind : BranchKind) (a b : ℕ) (offset : ℤ) (pc : ℕ) (x : List ℕ) → effect (test kind a b offset) pc x ≡ Branch (branch_holds kind (slice_index x a) (slice_index x b)) (plus pc offset)
test_effect branch.Beq a b offset pc x = refl
test_effect branch.Bne a b offset pc x = refl
test_effect branch.Blt a b offset pc x = refl
test_effect branch.Bge a b offset pc x = refl
test_effect branch.Bltu a b offset pc x = refl
test_effect branch.Bgeu a b offset pc x = refl

twice : (x : Bool) → x ≡ not (not x)
twice true = refl
twice false = refl

-- the opposite test holds where the test does not
pub opposite_holds : (kind : BranchKind) (a b : ℕ) → branch_holds (opposite kind) a b ≡ not (branch_holds kind a b)
opposite_holds branch.Beq a b = refl
opposite_holds branch.Bne a b = twice (a == b)
opposite_holds branch.Blt a b = refl
opposite_holds branch.Bge a b = twice (signed_less a b)
opposite_holds branch.Bltu a b = refl
opposite_holds branch.Bgeu a b = twice (nat_lt a b)
