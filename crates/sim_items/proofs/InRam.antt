-- Code of items in RAM.
use Rattle.std.proofs.Common.{◌≡◌, ℕ, ◌+◌, ◌*◌, ◌%◌, ◌≤◌, List, [], ◌∷◌, ◌++◌, length, sym, ap, ◌∙◌, subst, arith, None}
use Rattle.sloth_base.specs.Machine.{State}
use Rattle.sloth_base.specs.MemoryMap.{memory_base, memory_bytes}
use Rattle.rv32_instr.specs.declared.InstrKind.{InstrKind}
use Rattle.rv32_instr.specs.Encode.{Encode}
use Rattle.rv32_instr.specs.Effect.{effect}
use Rattle.rv32_instr.specs.Execute.{Going, step, touched, touched_line_by, perform}
use Rattle.rv32_instr.specs.Table.{Decode}
use Rattle.rv32_instr.proofs.Table.{decode_encode}
use Rattle.masked_code.specs.Place.{offset_state}
use Rattle.masked_code.proofs.Words.{word_at-agree}
use Rattle.masked_code.proofs.Machine.{Here, step_at, touched_at}
use Rattle.rv32_expand.specs.Expansion.{item_address, expansion}
use Rattle.observe.specs.Observe.{View}
use Rattle.osek_scheduler.specs.State.{System}
use Rattle.sim_relation.specs.Build.{Build, HasFittingPlaces}
use Rattle.sim_relation.specs.Stands.{Stands}
use Rattle.sim_items.specs.Place.{HasInstruction, HasInstructions, ItemStands}

-- what the image has stands in RAM
pub code_here : (b : Build) (state : State) (s : System) (address : ℕ) (kind : InstrKind) → Stands b state s
    → (i : HasInstruction b address kind) → Here state.core.ram i.offset kind
code_here b state s address kind k i = (
  ap Decode (word_at-agree state.core.ram b.memory i.offset (λ j x y. k.fixed.code j (i.is_code j x y)) ∙ i.word) ∙ decode_encode kind i.in_range,
  i.to,
)

-- the instruction behind these
pub behind : (b : Build) (before : List InstrKind) (kind : InstrKind) (code : List InstrKind) (address : ℕ) → HasInstructions b address (before ++ (kind ∷ code))
    → HasInstruction b (address + 4 * length before) kind
behind b [] kind code address h = let e : address ≡ address + 4 * 0 = omega arith in subst (λ a. HasInstruction b a kind) e h.0
behind b (first ∷ before) kind code address h =
    let e : address + 4 + 4 * length before ≡ address + 4 * length (first ∷ before) = omega arith in
    subst (λ a. HasInstruction b a kind) e (behind b before kind code (address + 4) h.1)

-- ---- an instruction of an item, where pc stands

module _ (b : Build) (view : View) (state : State) (s : System) (fits : HasFittingPlaces b) (k : Stands b state s) (func item : ℕ) (placed : ItemStands b view func item) (done : ℕ)
    (pc_is : state.pc ≡ item_address b.places func item + 4 * done)
    (before : List InstrKind) (kind : InstrKind) (rest : List InstrKind) (expands : expansion b.app b.places func item ≡ before ++ (kind ∷ rest)) (reached : length before ≡ done) where
  pub instruction : HasInstruction b (item_address b.places func item + 4 * length before) kind
  instruction = behind b before kind rest (item_address b.places func item) (subst (HasInstructions b (item_address b.places func item)) expands placed.code)

  abbrev pub offset : ℕ
  offset = instruction.offset

  pub offset_is : memory_base + offset ≡ item_address b.places func item + 4 * done
  offset_is = let i = instruction.is in let r = reached in omega arith

  pub offset_inside : offset + 4 ≤ memory_bytes
  offset_inside = instruction.to

  pub offset_aligned : offset % 4 ≡ 0
  offset_aligned = let a = fits.items func item in let i = offset_is in omega arith

  code : Here state.core.ram offset kind
  code = code_here b state s (item_address b.places func item + 4 * length before) kind k instruction

  state_is : state ≡ offset_state offset state.core
  state_is = let e : state.pc ≡ memory_base + offset = pc_is ∙ sym offset_is in ap (λ p. record { pc = p; core = state.core }) e

  pub stepped : (next : State) → perform (effect kind (memory_base + offset) state.core.registers) (Encode kind) (memory_base + offset) state.core ≡ Going next → step state ≡ Going next
  stepped next performs = ap step state_is ∙ step_at offset state.core kind code ∙ performs

  pub untouched : touched_line_by (effect kind (memory_base + offset) state.core.registers) ≡ None → touched state ≡ None
  untouched quiet = ap touched state_is ∙ touched_at offset state.core kind code.0 ∙ quiet
