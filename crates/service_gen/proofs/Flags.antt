-- What the bits of x3 say of the tasks that are looked at.
use Rattle.std.proofs.Common.{◌≡◌, ℕ, zero, suc, ◌^◌, ◌<◌, List, length, get_or, refl, sym, ap, ◌∙◌, subst, arith, ⊎_elim}
use Rattle.std.specs.Prelude.{Bool, true, false, cond, ◌==◌, ◌&&◌, set, bit_or, ◌≢◌}
use Rattle.std.specs.Int.{bit_at}
use Rattle.std.proofs.lemmas.Bool.{cases_eq}
use Rattle.std.proofs.lemmas.List.{get_or-set_same, get_or-set_other}
use Rattle.std.proofs.lemmas.Nat.{pow_below}
use Rattle.std.proofs.lemmas.Nat.Bits.{bit_at_or, bit_at-lt, bit_at-zero, bit_at-pow_same, bit_at-pow_other}
use Rattle.sloth_base.specs.Arithmetic.{left_shift}
use Rattle.sloth_base.specs.Limits.{task_limit}
use Rattle.sloth_region.specs.Layout.{active}
use Rattle.rv32_instr.specs.Ram.{word_at}
use Rattle.service_gen.specs.Tick.{Ground, is_suspended_task}

-- ---- bits

-- a bit at a task's place
pub shifted_one : (t : ℕ) → t < 32 → left_shift 1 t ≡ 2 ^ t
shifted_one t h = let p = pow_below t 32 h in omega arith

-- no bit
pub shifted_zero : (t : ℕ) → left_shift 0 t ≡ 0
shifted_zero t = omega arith

-- a number below 2, shifted
pub own_bit : (v t : ℕ) → v < 2 → t < 32 → bit_at (left_shift v t) t ≡ v
own_bit zero t s h = ap (λ x. bit_at x t) (shifted_zero t) ∙ bit_at-zero t
own_bit (suc zero) t s h = ap (λ x. bit_at x t) (shifted_one t h) ∙ bit_at-pow_same t
own_bit (suc (suc v)) t s h = absurd (omega arith)

-- all other bits are 0
pub other_bit : (v t u : ℕ) → v < 2 → t < 32 → u ≢ t → bit_at (left_shift v t) u ≡ 0
other_bit zero t u s h n = ap (λ x. bit_at x u) (shifted_zero t) ∙ bit_at-zero u
other_bit (suc zero) t u s h n = ap (λ x. bit_at x u) (shifted_one t h) ∙ bit_at-pow_other t u n
other_bit (suc (suc v)) t u s h n = absurd (omega arith)

-- the bits where one more was added
pub added_own : (flags v t : ℕ) → v < 2 → t < 32 → bit_at flags t ≡ 0 → bit_at (bit_or flags (left_shift v t)) t ≡ v
added_own flags v t s h z =
    let e = own_bit v t s h in
    bit_at_or flags (left_shift v t) t ∙ (omega arith)

-- other bits stay
pub added_other : (flags v t u : ℕ) → v < 2 → t < 32 → u ≢ t → bit_at (bit_or flags (left_shift v t)) u ≡ bit_at flags u
added_other flags v t u s h n =
    let e = other_bit v t u s h n in
    bit_at_or flags (left_shift v t) u ∙ (omega arith)

-- the bit is 1, whatever it was
pub added_one : (flags t : ℕ) → t < 32 → bit_at (bit_or flags (left_shift 1 t)) t ≡ 1
added_one flags t h =
    let e = own_bit 1 t (omega arith) h in
    let b = bit_at-lt flags t in
    bit_at_or flags (left_shift 1 t) t ∙ (omega arith)

-- ---- what is known

-- the task's bit says whether it is not Suspended
abbrev pub Knows : ℕ → Ground → ℕ → Type 0
Knows flags core task = bit_at flags task ≡ cond (is_suspended_task task core) 0 1

-- so do those of all of these tasks
pub record KnowsAll (target : ℕ → Bool) (flags : ℕ) (core : Ground) : Type 0 where
  pub each : (task : ℕ) → target task ≡ true → Knows flags core task
  pub few : (task : ℕ) → target task ≡ true → task < task_limit

-- a task is as Suspended as before, where these three stay
pub suspended_same : (task : ℕ) (c d : Ground) → get_or d.pending task 0 ≡ get_or c.pending task 0 → get_or d.enabled task 0 ≡ get_or c.enabled task 0
    → word_at d.ram (active task) ≡ word_at c.ram (active task) → is_suspended_task task d ≡ is_suspended_task task c
suspended_same task c d p e w =
    ap (λ x. (x == 0) && ((get_or d.enabled task 0 == 1) && (word_at d.ram (active task) == 0))) p
    ∙ ap (λ x. (get_or c.pending task 0 == 0) && ((x == 1) && (word_at d.ram (active task) == 0))) e
    ∙ ap (λ x. (get_or c.pending task 0 == 0) && ((get_or c.enabled task 0 == 1) && (x == 0))) w

-- a pending task is not
pub suspended_not : (task : ℕ) (d : Ground) → get_or d.pending task 0 ≡ 1 → is_suspended_task task d ≡ false
suspended_not task d p = ap (λ x. (x == 0) && ((get_or d.enabled task 0 == 1) && (word_at d.ram (active task) == 0))) p

-- knowledge stays where RAM changes beside the words of Active tasks
pub knows_ram : (target : ℕ → Bool) (flags : ℕ) (c : Ground) (ram : List ℕ) → ((task : ℕ) → task < task_limit → word_at ram (active task) ≡ word_at c.ram (active task))
    → KnowsAll target flags c → KnowsAll target flags (record c { ram = ram })
knows_ram target flags c ram same k = record {
  each = λ task h. k.each task h ∙ ap (λ b. cond b 0 1) (sym (suspended_same task c (record c { ram = ram }) refl refl (same task (k.few task h))));
  few = k.few;
}

-- a line is raised, and enabled maybe, and the task's bit is 1
pub knows_raised : (target : ℕ → Bool) (flags flags' t : ℕ) (c : Ground) (enabled : List ℕ) → t < length c.pending → bit_at flags' t ≡ 1
    → ((u : ℕ) → u ≢ t → bit_at flags' u ≡ bit_at flags u) → ((u : ℕ) → u ≢ t → get_or enabled u 0 ≡ get_or c.enabled u 0)
    → KnowsAll target flags c → KnowsAll target flags' (record c { pending = set c.pending t 1; enabled = enabled })
knows_raised target flags flags' t c enabled long own other line k =
    let d : Ground = record c { pending = set c.pending t 1; enabled = enabled } in
    record {
      each = λ u h. ⊎_elim
          (λ (e : u ≡ t).
          subst (λ x. Knows flags' d x) (sym e) (own ∙ ap (λ b. cond b 0 1) (sym (suspended_not t d (get_or-set_same c.pending t 1 0 long)))))
          (λ (n : u ≡ t → ⊥).
          other u n ∙ k.each u h ∙ ap (λ b. cond b 0 1) (sym (suspended_same u c d (get_or-set_other c.pending t u 1 0 n) (line u n) refl)))
          (cases_eq u t);
      few = k.few;
    }
