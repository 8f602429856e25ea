-- Registers written out as a list of 32, so that reads and writes of them compute.
use Rattle.std.proofs.Common.{◌≡◌, ℕ, zero, suc, ◌+◌, ◌≤◌, List, [], ◌∷◌, length, get_or, drop, refl, sym, ap, ◌∙◌, arith}
use Rattle.std.proofs.lemmas.List.{drop_more, drop_all}
use Rattle.sloth_base.specs.Machine.{Core}
use Rattle.sloth_base.specs.MemoryMap.{memory_base, controller_base}
use Rattle.masked_code.specs.Kernel.{HasBases}

-- the elements from k on, n of them
abbrev pub spread_from : ℕ → ℕ → List ℕ → List ℕ
spread_from zero k xs = []
spread_from (suc n) k xs = get_or xs k 0 ∷ spread_from n (suc k) xs

spread_list : (n k : ℕ) (xs : List ℕ) → k + n ≡ length xs → drop k xs ≡ spread_from n k xs
spread_list zero k xs h = drop_all k xs (omega arith)
spread_list (suc n) k xs h =
    let e : k + 1 ≡ suc k = omega arith in
    drop_more xs k 0 (omega arith) ∙ ap (λ j. get_or xs k 0 ∷ drop j xs) e ∙ ap (λ l. get_or xs k 0 ∷ l) (spread_list n (suc k) xs (omega arith))

-- a state with its registers written out, x0 being zero
abbrev pub spread : Core → Core
spread c = record c { registers = 0 ∷ spread_from 31 1 c.registers }

-- writing out changes nothing
pub spread_is : (c : Core) → length c.registers ≡ 32 → get_or c.registers 0 0 ≡ 0 → spread c ≡ c
spread_is c n z =
    let e = spread_list 32 0 c.registers (omega arith) in
    let f : c.registers ≡ get_or c.registers 0 0 ∷ spread_from 31 1 c.registers = e in
    ap (λ r. record c { registers = r }) (ap (λ x. x ∷ spread_from 31 1 c.registers) (sym z) ∙ sym f)

-- the same where x3 and x4 hold the bases
abbrev pub based : Core → Core
based c = record c { registers = 0 ∷ get_or c.registers 1 0 ∷ get_or c.registers 2 0 ∷ controller_base ∷ memory_base ∷ spread_from 27 5 c.registers }

-- this changes nothing either
pub based_is : (c : Core) → length c.registers ≡ 32 → get_or c.registers 0 0 ≡ 0 → HasBases c.registers → based c ≡ c
based_is c n z bases =
    let tail : List ℕ = spread_from 27 5 c.registers in
    ap (λ x. record c { registers = 0 ∷ get_or c.registers 1 0 ∷ get_or c.registers 2 0 ∷ x ∷ memory_base ∷ tail }) (sym bases.0)
    ∙ ap (λ x. record c { registers = 0 ∷ get_or c.registers 1 0 ∷ get_or c.registers 2 0 ∷ get_or c.registers 3 0 ∷ x ∷ tail }) (sym bases.1)
    ∙ spread_is c n z

-- the first five registers do not matter for the others
pub others : (a b c d x y z w : ℕ) (tail : List ℕ) (i : ℕ) → 5 ≤ i → get_or (0 ∷ a ∷ b ∷ c ∷ d ∷ tail) i 0 ≡ get_or (0 ∷ x ∷ y ∷ z ∷ w ∷ tail) i 0
others a b c d x y z w tail zero h = absurd (omega arith)
others a b c d x y z w tail (suc zero) h = absurd (omega arith)
others a b c d x y z w tail (suc (suc zero)) h = absurd (omega arith)
others a b c d x y z w tail (suc (suc (suc zero))) h = absurd (omega arith)
others a b c d x y z w tail (suc (suc (suc (suc zero)))) h = absurd (omega arith)
others a b c d x y z w tail (suc (suc (suc (suc (suc i))))) h = refl
