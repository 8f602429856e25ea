-- Accesses by an index under a mask: where they lie, and their instructions.
use Rattle.std.proofs.Common.{◌≡◌, ℕ, ◌+◌, ◌*◌, ◌%◌, ◌^◌, ◌<◌, ◌≤◌, Bool, [], ◌∷◌, ◌++◌, cond, ap, ◌∙◌, arith, bit_and}
use Rattle.std.specs.Int.Bits.{and_zero_r}
use Rattle.std.proofs.lemmas.Bool.{le-leb, lt-leb}
use Rattle.std.proofs.lemmas.Nat.{and_le_r, and_mod}
use Rattle.sloth_base.specs.Arithmetic.{hi, lo, plus, size_of, sum32, complement}
use Rattle.sloth_base.specs.declared.app.App.{App}
use Rattle.sloth_base.specs.declared.app.Op.TheVariants as op
use Rattle.sloth_base.specs.declared.app.Width.{Width}
use Rattle.sloth_base.specs.declared.app.Width.TheVariants as width
use Rattle.sloth_base.specs.declared.limits.Places.{Places}
use Rattle.rv32_instr.specs.Access.{load, store}
use Rattle.masked_code.proofs.Parts.{hi_lo}
use Rattle.rv32_expand.specs.FarAccesses.{far_indexed, wide}
use Rattle.rv32_expand.specs.Expansion.{symbol_address, index_code, operation_code}
use Rattle.sim_items.specs.Place.{IsAccess, IsMasked}

masked_even : (v mask k : ℕ) → mask % 2 ^ k ≡ 0 → bit_and v mask % 2 ^ k ≡ 0
masked_even v mask k h = and_mod v mask k ∙ ap (bit_and (v % 2 ^ k)) h ∙ and_zero_r (v % 2 ^ k)

masked_aligned : (w : Width) (v mask : ℕ) → mask % size_of w ≡ 0 → bit_and v mask % size_of w ≡ 0
masked_aligned width.Byte v mask h = omega arith
masked_aligned width.Half v mask h = masked_even v mask 1 h
masked_aligned width.Word v mask h = masked_even v mask 2 h
masked_aligned width.ByteU v mask h = omega arith
masked_aligned width.HalfU v mask h = masked_even v mask 1 h

-- the access lies inside the symbol, whatever the index
pub masked_access : (app : App) (w : Width) (y mask v : ℕ) → IsMasked app w y mask → IsAccess app w y (bit_and v mask)
masked_access app w y mask v h = record {
  inside = let i = h.inside in let l = and_le_r v mask in omega arith;
  aligned = masked_aligned w v mask h.aligned;
}

-- the last instruction adds the low part of the address
pub low_added : (address masked : ℕ) → address + masked < 4294967296 → plus (sum32 masked (hi address * 4096)) (lo address) ≡ address + masked
low_added address masked l =
    let e = hi_lo address (omega arith) in
    let h = hi address * 4096 in
    let c = complement (lo address) in
    sums masked h c address e l
  where
    sums : (m h c a : ℕ) → (h + c) % 4294967296 ≡ a → a + m < 4294967296 → ((m + h) % 4294967296 + c) % 4294967296 ≡ a + m
    sums m h c a e l = omega arith

module _ (app : App) (places : Places) (func address : ℕ) (long : Bool) (w : Width) (r y index mask : ℕ) where
  abbrev base : ℕ
  base = symbol_address places y

  pub load_near : mask ≤ 2047 → operation_code app places func address long (op.LoadAt w r y index mask) ≡ index_code index mask base ++ (load w r 31 (lo base) ∷ [])
  load_near l = ap (λ c. cond c (index_code index mask base ++ (load w r 31 (lo base) ∷ [])) (wide (op.LoadAt w r y index mask) base)) (le-leb mask 2047 l)

  pub load_far : 2048 ≤ mask → operation_code app places func address long (op.LoadAt w r y index mask) ≡ far_indexed index mask base ++ (load w r 31 (lo base) ∷ [])
  load_far l = ap (λ c. cond c (index_code index mask base ++ (load w r 31 (lo base) ∷ [])) (wide (op.LoadAt w r y index mask) base)) (lt-leb mask 2047 l)

  pub store_near : mask ≤ 2047 → operation_code app places func address long (op.StoreAt w r y index mask) ≡ index_code index mask base ++ (store w r 31 (lo base) ∷ [])
  store_near l = ap (λ c. cond c (index_code index mask base ++ (store w r 31 (lo base) ∷ [])) (wide (op.StoreAt w r y index mask) base)) (le-leb mask 2047 l)

  pub store_far : 2048 ≤ mask → operation_code app places func address long (op.StoreAt w r y index mask) ≡ far_indexed index mask base ++ (store w r 31 (lo base) ∷ [])
  store_far l = ap (λ c. cond c (index_code index mask base ++ (store w r 31 (lo base) ∷ [])) (wide (op.StoreAt w r y index mask) base)) (lt-leb mask 2047 l)
