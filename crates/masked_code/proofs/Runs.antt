-- What is owed of runs of instructions over registers.
use Rattle.std.proofs.Common.{◌≡◌, ℕ, zero, suc, ◌+◌, ◌*◌, ◌%◌, ◌<◌, ◌≤◌, List, ◌++◌, length, get_or, refl, sym, ap, ◌∙◌, subst, arith, ◌⊎◌, inl, ⊎_elim}
use Rattle.std.specs.Prelude.{set, replicate}
use Rattle.std.proofs.lemmas.Bool.{cases_eq}
use Rattle.std.proofs.lemmas.List.{get_or-set_same, get_or-set_other, length-set}
use Rattle.sloth_base.specs.Machine.{Core, State}
use Rattle.sloth_base.specs.MemoryMap.{memory_base, memory_bytes}
use Rattle.rv32_instr.specs.declared.InstrKind.{InstrKind}
use Rattle.rv32_instr.specs.Ram.{word_at, with_word, with_words}
use Rattle.masked_code.proofs.Owes.{◌▸◌, writes, loads, stores, Owes}
use Rattle.masked_code.specs.Pieces.{saving_code, restoring_code, clearing_code, words_clearing_code, registers_from}
use Rattle.masked_code.proofs.RegisterCode.{restored_registers, cleared_registers}

-- they are as many as the words
pub length-clears_words : (n k b : ℕ) → length (words_clearing_code n k b) ≡ n
length-clears_words zero k b = refl
length-clears_words (suc n) k b = ap suc (length-clears_words n (suc k) b)

module _ (from to : ℕ) (E : List ℕ → State → State → Type 0) (start : State) (code : List InstrKind) (place : ℕ) (aligned : place % 4 ≡ 0) where
  -- so many registers are saved
  pub saves_owes : (n r base o o' : ℕ) (c : Core) → get_or c.registers base 0 ≡ memory_base + place → o' ≡ o + 4 * n → place + 4 * (r + n) ≤ memory_bytes → (place + 4 * (r + n) ≤ from) ⊎ (to ≤ place) → Owes from to o' code 0 E start (record c { ram = with_words c.ram (place + 4 * r) (registers_from n r c.registers) }) → Owes from to o (saving_code n r base ++ code) 0 E start c
  saves_owes zero r base o o' c e eo fit apart go = let f : o' ≡ o = omega arith in subst (λ x. Owes from to x code 0 E start c) f go
  saves_owes (suc n) r base o o' c e eo fit apart go =
      let p = place + 4 * r in
      let v = get_or c.registers r 0 in
      let d = record c { ram = with_word c.ram p v } in
      let f : p + 4 ≡ place + 4 * suc r = omega arith in
      stores p (record { is = omega arith; aligned = omega arith; inside = omega arith }) (grind (arith, apart))
      ▸ saves_owes n (suc r) base (o + 4) o' d e (omega arith) (omega arith) (grind (arith, apart))
      (subst (λ x. Owes from to o' code 0 E start (record d { ram = with_words d.ram x (registers_from n (suc r) c.registers) })) f go)

  -- so many registers are loaded
  pub restores_owes : (n r base o o' : ℕ) (c : Core) → get_or c.registers base 0 ≡ memory_base + place → base < r → o' ≡ o + 4 * n → place + 4 * (r + n) ≤ memory_bytes → Owes from to o' code 0 E start (record c { registers = restored_registers n r c.ram place c.registers }) → Owes from to o (restoring_code n r base ++ code) 0 E start c
  restores_owes zero r base o o' c e b eo fit go = let f : o' ≡ o = omega arith in subst (λ x. Owes from to x code 0 E start c) f go
  restores_owes (suc n) zero base o o' c e b eo fit go = absurd (omega arith)
  restores_owes (suc n) (suc r) base o o' c e b eo fit go =
      let p = place + 4 * suc r in
      let v = word_at c.ram p in
      let d = record c { registers = set c.registers (suc r) v } in
      let kept : get_or d.registers base 0 ≡ get_or c.registers base 0 = get_or-set_other c.registers (suc r) base v 0 (λ x. absurd (omega arith)) in
      loads p (record { is = omega arith; aligned = omega arith; inside = omega arith }) v refl
      ▸ restores_owes n (suc (suc r)) base (o + 4) o' d (kept ∙ e) (omega arith) (omega arith) (omega arith) go

  -- so many words become 0
  pub clears_words_owes : (n k base o o' : ℕ) (c : Core) → get_or c.registers 0 0 ≡ 0 → get_or c.registers base 0 ≡ memory_base + place → o' ≡ o + 4 * n → place + 4 * (k + n) ≤ memory_bytes → (place + 4 * (k + n) ≤ from) ⊎ (to ≤ place) → Owes from to o' code 0 E start (record c { ram = with_words c.ram (place + 4 * k) (replicate n 0) }) → Owes from to o (words_clearing_code n k base ++ code) 0 E start c
  clears_words_owes zero k base o o' c z e eo fit apart go = let f : o' ≡ o = omega arith in subst (λ x. Owes from to x code 0 E start c) f go
  clears_words_owes (suc n) k base o o' c z e eo fit apart go =
      let p = place + 4 * k in
      let d = record c { ram = with_word c.ram p (get_or c.registers 0 0) } in
      let f : p + 4 ≡ place + 4 * suc k = omega arith in
      let g = subst (λ x. Owes from to o' code 0 E start (record c { ram = with_words (with_word c.ram p 0) x (replicate n 0) })) f go in
      let g0 = subst (λ v. Owes from to o' code 0 E start (record c { ram = with_words (with_word c.ram p v) (place + 4 * suc k) (replicate n 0) })) (sym z) g in
      stores p (record { is = omega arith; aligned = omega arith; inside = omega arith }) (grind (arith, apart))
      ▸ clears_words_owes n (suc k) base (o + 4) o' d z e (omega arith) (omega arith) (grind (arith, apart)) g0

module _ (from to : ℕ) (E : List ℕ → State → State → Type 0) (start : State) (code : List InstrKind) where
  -- so many registers become 0
  pub clears_owes : (n r o o' : ℕ) (c : Core) → get_or c.registers 0 0 ≡ 0 → 1 ≤ r → o' ≡ o + 4 * n → Owes from to o' code 0 E start (record c { registers = cleared_registers n r c.registers }) → Owes from to o (clearing_code n r ++ code) 0 E start c
  clears_owes zero r o o' c z b eo go = let f : o' ≡ o = omega arith in subst (λ x. Owes from to x code 0 E start c) f go
  clears_owes (suc n) zero o o' c z b eo go = absurd (omega arith)
  clears_owes (suc n) (suc r) o o' c z b eo go =
      let d = record c { registers = set c.registers (suc r) 0 } in
      let kept : get_or d.registers 0 0 ≡ get_or c.registers 0 0 = get_or-set_other c.registers (suc r) 0 0 0 (λ x. absurd (omega arith)) in
      writes 0 (omega arith)
      ▸ clears_owes n (suc (suc r)) (o + 4) o' d (kept ∙ z) (omega arith) (omega arith) go

-- ---- registers after them

pub length-restored : (n r : ℕ) (ram : List ℕ) (place : ℕ) (xs : List ℕ) → length (restored_registers n r ram place xs) ≡ length xs
length-restored zero r ram place xs = refl
length-restored (suc n) r ram place xs = length-restored n (suc r) ram place (set xs r (word_at ram (place + 4 * r))) ∙ length-set xs r (word_at ram (place + 4 * r))

-- all other registers stay
pub restored_other : (n r : ℕ) (ram : List ℕ) (place : ℕ) (xs : List ℕ) (i : ℕ) → (i < r) ⊎ (r + n ≤ i) → get_or (restored_registers n r ram place xs) i 0 ≡ get_or xs i 0
restored_other zero r ram place xs i h = refl
restored_other (suc n) r ram place xs i h =
    restored_other n (suc r) ram place (set xs r (word_at ram (place + 4 * r))) i (grind (arith, h))
    ∙ get_or-set_other xs r i (word_at ram (place + 4 * r)) 0 (λ e. ⊎_elim (λ x. absurd (omega arith)) (λ x. absurd (omega arith)) h)

-- and these are the saved words
pub restored_at : (n r : ℕ) (ram : List ℕ) (place : ℕ) (xs : List ℕ) (i : ℕ) → r ≤ i → i < r + n → r + n ≤ length xs → get_or (restored_registers n r ram place xs) i 0 ≡ word_at ram (place + 4 * i)
restored_at zero r ram place xs i l h long = absurd (omega arith)
restored_at (suc n) r ram place xs i l h long =
    let v = word_at ram (place + 4 * r) in
    let longer = length-set xs r v in
    ⊎_elim
    (λ e. restored_other n (suc r) ram place (set xs r v) i (inl (omega arith)) ∙ ap (λ j. get_or (set xs r v) j 0) e ∙ get_or-set_same xs r v 0 (omega arith) ∙ ap (λ j. word_at ram (place + 4 * j)) (sym e))
    (λ ne. restored_at n (suc r) ram place (set xs r v) i (omega arith) (omega arith) (omega arith))
    (cases_eq i r)

pub length-cleared : (n r : ℕ) (xs : List ℕ) → length (cleared_registers n r xs) ≡ length xs
length-cleared zero r xs = refl
length-cleared (suc n) r xs = length-cleared n (suc r) (set xs r 0) ∙ length-set xs r 0

-- all other registers stay
pub cleared_other : (n r : ℕ) (xs : List ℕ) (i : ℕ) → (i < r) ⊎ (r + n ≤ i) → get_or (cleared_registers n r xs) i 0 ≡ get_or xs i 0
cleared_other zero r xs i h = refl
cleared_other (suc n) r xs i h =
    cleared_other n (suc r) (set xs r 0) i (grind (arith, h))
    ∙ get_or-set_other xs r i 0 0 (λ e. ⊎_elim (λ x. absurd (omega arith)) (λ x. absurd (omega arith)) h)

-- and these are 0
pub cleared_at : (n r : ℕ) (xs : List ℕ) (i : ℕ) → r ≤ i → i < r + n → r + n ≤ length xs → get_or (cleared_registers n r xs) i 0 ≡ 0
cleared_at zero r xs i l h long = absurd (omega arith)
cleared_at (suc n) r xs i l h long =
    let longer = length-set xs r 0 in
    ⊎_elim
    (λ e. cleared_other n (suc r) (set xs r 0) i (inl (omega arith)) ∙ ap (λ j. get_or (set xs r 0) j 0) e ∙ get_or-set_same xs r 0 0 (omega arith))
    (λ ne. cleared_at n (suc r) (set xs r 0) i (omega arith) (omega arith) (omega arith))
    (cases_eq i r)
