-- Code whose bytes stand in memory is written there.
use Rattle.std.proofs.Common.{◌≡◌, ◌≤◌, ◌<◌, ◌+◌, ◌/◌, ◌%◌, ◌^◌, ℕ, suc, List, [], ◌∷◌, length, refl, ap, ◌∙◌, arith}
use Rattle.std.specs.Prelude.{All, slice_index}
use Rattle.std.proofs.lemmas.List.{length-append, get_or-append-add}
use Rattle.std.proofs.lemmas.Nat.{from_le_bytes-to_le_bytes_4}
use Rattle.std.specs.Int.{to_le_bytes, w32}
use Rattle.rv32_instr.specs.Encode.{Encode}
use Rattle.rv32_instr.specs.Ram.{word_at}
use Rattle.rv32_instr.specs.Range.{InRange}
use Rattle.rv32_instr.specs.declared.InstrKind.{InstrKind}
use Rattle.rv32_instr.specs.declared.block.Block.{Block}
use Rattle.rv32_instr.proofs.Fits.{encode_fits}
use Rattle.masked_code.specs.Place.{AreWritten}
use Rattle.sloth_link.specs.declared.linking.Datum.{Datum}
use Rattle.mem_map.specs.Sections.{code_bytes, block_section}
use Rattle.sloth_link.specs.Linked.{datum_section, sections_of, HasSectionBytes, BlockStands, AreLinked}
use Rattle.sloth_link.proofs.Written.{front_of, back_of, each_of}

-- the word that four bytes are
pub word_of : (memory : List ℕ) (o n : ℕ) → n < 2 ^ 32 → slice_index memory (o + 0) ≡ n % 256 → slice_index memory (o + 1) ≡ n / 256 % 256
    → slice_index memory (o + 2) ≡ n / 65536 % 256 → slice_index memory (o + 3) ≡ n / 16777216 % 256 → word_at memory o ≡ n
unfolding word_at
word_of memory o n fits a b c d =
    let z : slice_index memory (o + 0) ≡ slice_index memory o = ap (slice_index memory) (omega arith) in
    let w = from_le_bytes-to_le_bytes_4 n fits in
    omega (arith, z, a, b, c, d, w)

behind : (memory : List ℕ) (o : ℕ) (kind : InstrKind) (code : List InstrKind) → HasSectionBytes memory (record { offset = o; bytes = code_bytes (kind ∷ code) }) → HasSectionBytes memory (record { offset = o + 4; bytes = code_bytes code })
behind memory o kind code h = λ k l.
    let four : length (to_le_bytes w32 (Encode kind)) ≡ 4 = refl in
    let n = length-append {A = ℕ} (to_le_bytes w32 (Encode kind)) (code_bytes code) in
    let e : o + 4 + k ≡ o + (4 + k) = omega arith in
    ap (slice_index memory) e ∙ h (4 + k) (omega (arith, four, n, l)) ∙ get_or-append-add (to_le_bytes w32 (Encode kind)) (code_bytes code) k 0

-- each instruction is the word at its address
pub written : (code : List InstrKind) (memory : List ℕ) (o : ℕ) → All InRange code → HasSectionBytes memory (record { offset = o; bytes = code_bytes code }) → AreWritten memory o code
written [] memory o r h = tt
written (kind ∷ code) memory o r h =
    let four : length (to_le_bytes w32 (Encode kind)) ≡ 4 = refl in
    let n = length-append {A = ℕ} (to_le_bytes w32 (Encode kind)) (code_bytes code) in
    let b : 4 ≤ length (code_bytes (kind ∷ code)) = omega (arith, four, n) in (
      word_of memory o (Encode kind) (encode_fits kind (r 0 kind (omega arith))) (h 0 (omega (arith, b))) (h 1 (omega (arith, b))) (h 2 (omega (arith, b))) (h 3 (omega (arith, b))),
      written code memory (o + 4) (λ k d below. r (suc k) d (omega arith)) (behind memory o kind code h),
    )

-- ---- every block, and every symbol

stand : (blocks : List Block) (memory : List ℕ) → All (λ b. All InRange b.code) blocks → All (λ b. HasSectionBytes memory (block_section b)) blocks → All (BlockStands memory) blocks
stand blocks memory r h = λ k d l. written _ memory _ (r k d l) (h k d l)

-- the code of each
pub blocks_stand : (size : ℕ) (blocks : List Block) (symbols : List Datum) (memory : List ℕ) → All (λ b. All InRange b.code) blocks → AreLinked size (sections_of blocks symbols) memory → All (BlockStands memory) blocks
blocks_stand size blocks symbols memory r linked = stand blocks memory r (front_of (HasSectionBytes memory) block_section blocks _ linked.hold)

-- the bytes of each
pub symbols_stand : (size : ℕ) (blocks : List Block) (symbols : List Datum) (memory : List ℕ) → AreLinked size (sections_of blocks symbols) memory → All (λ d. HasSectionBytes memory (datum_section d)) symbols
symbols_stand size blocks symbols memory linked = each_of (HasSectionBytes memory) datum_section symbols (back_of (HasSectionBytes memory) _ _ linked.hold)
