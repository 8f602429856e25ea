-- The code of ClearEvent has its effect.
use Rattle.std.proofs.Common.{◌≡◌, ℕ, zero, suc, ◌+◌, ◌-◌, ◌*◌, ◌/◌, ◌%◌, ◌^◌, ◌<◌, ◌≤◌, List, ◌∷◌, ◌++◌, get_or, refl, sym, ap, ◌∙◌, subst, arith, inl, ⊎_elim}
use Rattle.std.specs.Prelude.{set, max, min, bit_and, bit_or, bit_xor}
use Rattle.std.specs.Int.{bit_at}
use Rattle.std.specs.Int.Bits.{xor_add_and}
use Rattle.std.proofs.lemmas.Bool.{cases_lt}
use Rattle.std.proofs.lemmas.Nat.{and_mask, and_le_r}
use Rattle.std.proofs.lemmas.Nat.Bits.{bit_at_and, bit_at_or, bit_at_xor, bit_at_ones, bit_at_above, bit_at-lt, bit_at_cat_low, bit_at_cat_high, same_from_bits}
use Rattle.sloth_base.specs.Machine.{Core}
use Rattle.sloth_base.specs.Status.{E_OK}
use Rattle.sloth_base.specs.MemoryMap.{controller_base}
use Rattle.sloth_region.specs.Layout.{events}
use Rattle.rv32_instr.specs.declared.InstrKind.{InstrKind}
use Rattle.rv32_instr.specs.Ram.{word_at, with_word}
use Rattle.masked_code.specs.Place.{offset_state}
use Rattle.masked_code.specs.Masked.{FromOpening}
use Rattle.masked_code.specs.Kernel.{masking}
use Rattle.masked_code.proofs.Owes.{◌▸◌, writes, loads, stores, Owes}
use Rattle.masked_code.proofs.Spread.{based, spread_from}
use Rattle.masked_code.proofs.Routines.{masked}
use Rattle.block_parts.proofs.Returning.{goes_back}
use Rattle.block_parts.proofs.Serving.{opens}
use Rattle.block_parts.specs.Back.{BackEffect, a0}
use Rattle.block_parts.specs.Pieces.{back_code}
use Rattle.service_gen.proofs.Finding.{own_end, finds_by_x10}
use Rattle.block_parts.specs.Events.{own_clearing_code}
use Rattle.service_gen.specs.EventPieces.{own_finding_code}
use Rattle.service_gen.specs.ClearEvent.{MayClear, ClearEventEffect, IsClearEventCode, cleared_ram}

-- the code behind the masking instruction
abbrev pub body : List InstrKind
body = own_finding_code 10 ++ (own_clearing_code ++ back_code)

-- the word of all bits that a mask does not have
others_of : (mask : ℕ) → mask < 2 ^ 32 → bit_xor mask 4294967295 ≡ 4294967295 - mask
others_of mask small =
    let sum = xor_add_and mask 4294967295 in
    let both : bit_and mask 4294967295 ≡ mask % 2 ^ 32 = and_mask mask 32 in
    omega (arith, sum, both)

-- ---- what the code computes, bit by bit

low_bit : (a m n : ℕ) → a < 2 → m < 2 → n ≡ (m + 1) % 2 → (max a m + m) % 2 ≡ min a n
low_bit zero zero n x y e = ap (min 0) (sym e)
low_bit zero (suc zero) n x y e = ap (min 0) (sym e)
low_bit (suc zero) zero n x y e = ap (min 1) (sym e)
low_bit (suc zero) (suc zero) n x y e = ap (min 1) (sym e)
low_bit (suc (suc a)) m n x y e = absurd (omega arith)
low_bit a (suc (suc m)) n x y e = absurd (omega arith)

high_bit : (a m : ℕ) → a < 2 → m ≡ 0 → (max a m + m) % 2 ≡ a
high_bit zero m x e = ap (λ k. (max 0 k + k) % 2) e
high_bit (suc zero) m x e = ap (λ k. (max 1 k + k) % 2) e
high_bit (suc (suc a)) m x e = absurd (omega arith)

-- the events less those of the mask; what is above a word stays
module _ (word mask : ℕ) (small : mask < 2 ^ 32) where
  abbrev rest : ℕ
  rest = bit_and word (4294967295 - mask)

  rest_small : rest < 2 ^ 32
  rest_small = let l = and_le_r word (4294967295 - mask) in omega (arith, l)

  split : word / 2 ^ 32 * 2 ^ 32 + word % 2 ^ 32 ≡ word
  split = omega arith

  taken_bit : (i : ℕ) → bit_at (bit_xor (bit_or word mask) mask) i ≡ (max (bit_at word i) (bit_at mask i) + bit_at mask i) % 2
  taken_bit i = bit_at_xor (bit_or word mask) mask i ∙ ap (λ b. (b + bit_at mask i) % 2) (bit_at_or word mask i)

  other_bit : (i : ℕ) → i < 32 → bit_at (4294967295 - mask) i ≡ (bit_at mask i + 1) % 2
  other_bit i l =
      ap (λ n. bit_at n i) (sym (others_of mask small)) ∙ bit_at_xor mask 4294967295 i ∙ ap (λ b. (bit_at mask i + b) % 2) (bit_at_ones 32 i l)

  same_low : (i : ℕ) → i < 32 → bit_at (bit_xor (bit_or word mask) mask) i ≡ bit_at (word / 2 ^ 32 * 2 ^ 32 + rest) i
  same_low i l =
      taken_bit i ∙ low_bit (bit_at word i) (bit_at mask i) (bit_at (4294967295 - mask) i) (bit_at-lt word i) (bit_at-lt mask i) (other_bit i l)
      ∙ sym (bit_at_cat_low (word / 2 ^ 32) 32 rest i l ∙ bit_at_and word (4294967295 - mask) i)

  same_high : (i : ℕ) → 32 ≤ i → bit_at (bit_xor (bit_or word mask) mask) i ≡ bit_at (word / 2 ^ 32 * 2 ^ 32 + rest) i
  same_high i m =
      taken_bit i ∙ high_bit (bit_at word i) (bit_at mask i) (bit_at-lt word i) (bit_at_above mask 32 i small m)
      ∙ ap (λ n. bit_at n i) (sym split) ∙ bit_at_cat_high (word / 2 ^ 32) 32 (word % 2 ^ 32) i (omega arith) m
      ∙ sym (bit_at_cat_high (word / 2 ^ 32) 32 rest i rest_small m)

  taken_out : bit_xor (bit_or word mask) mask ≡ word / 2 ^ 32 * 2 ^ 32 + rest
  taken_out = same_from_bits (bit_xor (bit_or word mask) mask) (word / 2 ^ 32 * 2 ^ 32 + rest) (λ i. ⊎_elim (same_low i) (same_high i) (cases_lt i 32))

-- a word that is stored keeps nothing of what is above it
with_word-low : (ram : List ℕ) (offset high low : ℕ) → with_word ram offset (high * 4294967296 + low) ≡ with_word ram offset low
unfolding with_word
with_word-low ram offset high low =
    let v : ℕ = high * 4294967296 + low in
    let a : v % 256 ≡ low % 256 = omega arith in
    let b : v / 256 % 256 ≡ low / 256 % 256 = omega arith in
    let d : v / 65536 % 256 ≡ low / 65536 % 256 = omega arith in
    let e : v / 16777216 % 256 ≡ low / 16777216 % 256 = omega arith in
    ap (λ x. set (set (set (set ram offset x) (offset + 1) (v / 256 % 256)) (offset + 2) (v / 65536 % 256)) (offset + 3) (v / 16777216 % 256)) a
    ∙ ap (λ x. set (set (set (set ram offset (low % 256)) (offset + 1) x) (offset + 2) (v / 65536 % 256)) (offset + 3) (v / 16777216 % 256)) b
    ∙ ap (λ x. set (set (set (set ram offset (low % 256)) (offset + 1) (low / 256 % 256)) (offset + 2) x) (offset + 3) (v / 16777216 % 256)) d
    ∙ ap (λ x. set (set (set (set ram offset (low % 256)) (offset + 1) (low / 256 % 256)) (offset + 2) (low / 65536 % 256)) (offset + 3) x) e

module _ (offset task : ℕ) (c : Core) (h : MayClear offset task (masking ∷ body) c) where
  abbrev mask : ℕ
  mask = get_or c.registers 30 0

  abbrev word : ℕ
  word = word_at c.ram (events task)

  abbrev cleared : ℕ
  cleared = bit_xor (bit_or word mask) mask

  ram_is : with_word c.ram (events task) cleared ≡ cleared_ram c.ram task mask
  ram_is =
      ap (with_word c.ram (events task)) (taken_out word mask h.is_word)
      ∙ with_word-low c.ram (events task) (word / 4294967296) (bit_and word (4294967295 - mask))

  body_owes : Owes offset (offset + 4 + 48) (offset + 4) body 0 (ClearEventEffect task) (offset_state offset (based c)) (masked (based c))
  body_owes =
      let small = h.is_task in
      let low = h.goes_back.can_run.behind in
      let r : ℕ → ℕ = λ i. get_or c.registers i 0 in
      finds_by_x10 offset (offset + 4 + 48) task (ClearEventEffect task) (offset_state offset (based c)) (own_clearing_code ++ back_code) (masked (based c)) (r 1) (r 2) controller_base
      (spread_from 27 5 c.registers) small h.runs (offset + 4) (r 5) (r 6) (r 7) (r 8) (r 9) (r 10) (spread_from 21 11 c.registers) (
      loads (events task) (record { is = omega arith; aligned = omega arith; inside = omega arith }) word refl
      ▸ writes (bit_or word mask) refl
      ▸ writes cleared refl
      ▸ stores (events task) (record { is = omega arith; aligned = omega arith; inside = omega arith }) (inl (omega arith))
      ▸ writes E_OK refl
      ▸ goes_back offset (masking ∷ body) c h.goes_back (ClearEventEffect task) (own_end task) E_OK c.pending c.pending (with_word c.ram (events task) cleared)
      (λ last is went. record {
        touches = refl;
        status = is;
        back = subst (λ ram. BackEffect a0 (record (based c) { ram = ram }) (offset_state offset (based c)) last) ram_is went;
      }))

  runs_it : FromOpening 12 (offset_state offset c) (ClearEventEffect task)
  runs_it = opens offset 12 body c (ClearEventEffect task) h.goes_back.can_run h.goes_back.bases (omega arith) body_owes

-- the running task's events lose those of the mask
pub clears : IsClearEventCode (masking ∷ body)
clears = record { size = refl; masks = (body, refl); runs = λ offset task core h. runs_it offset task core h }
