-- Instructions as bytes.
use Rattle.std.proofs.Common.{◌≡◌, ◌*◌, ℕ, List, [], ◌∷◌, length, refl, arith}
use Rattle.std.proofs.lemmas.List.{length-append}
use Rattle.std.specs.Int.{to_le_bytes, w32}
use Rattle.rv32_instr.specs.Encode.{Encode}
use Rattle.rv32_instr.specs.declared.InstrKind.{InstrKind}
use Rattle.mem_map.specs.Sections.{code_bytes}

-- four bytes for each instruction
pub code_bytes_length : (code : List InstrKind) → length (code_bytes code) ≡ 4 * length code
code_bytes_length [] = refl
code_bytes_length (kind ∷ code) =
    let n = length-append {A = ℕ} (to_le_bytes w32 (Encode kind)) (code_bytes code) in
    let four : length (to_le_bytes w32 (Encode kind)) ≡ 4 = refl in
    let rest = code_bytes_length code in
    omega (arith, n, four, rest)
