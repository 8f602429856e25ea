-- The words of a context, and where it is stored.
use Rattle.std.proofs.Common.{◌≡◌, ℕ, zero, suc, ◌+◌, ◌-◌, ◌<◌, ◌≤◌, List, [], ◌∷◌, refl, arith, ⊎_elim, inl, inr, true}
use Rattle.std.specs.Prelude.{◌⊎◌, replicate, slice_index}
use Rattle.sloth_base.specs.Machine.{State}
use Rattle.sloth_base.specs.MemoryMap.{memory_base}
use Rattle.osek_scheduler.specs.State.{System, task}
use Rattle.code_rules.specs.Code.{is_in}
use Rattle.sloth_region.specs.Layout.{idle_context}
use Rattle.sim_relation.specs.Build.{Build, HasFittingPlaces}
use Rattle.sim_relation.specs.Position.{thread_of}
use Rattle.sim_relation.specs.Context.{RunsFirst}
use Rattle.sim_relation.specs.Stands.{AreStacksApart}
use Rattle.sim_relation.proofs.Contexts.{context_below}
use Rattle.sim_relation.proofs.Tops.{is_in-head}

-- ---- lists

-- zeros fit into words
pub zeros_small : (w j : ℕ) → slice_index (replicate w 0) j < 4294967296
zeros_small zero j = omega arith
zeros_small (suc w) zero = omega arith
zeros_small (suc w) (suc j) = zeros_small w j

-- each of them is 0
pub zero_at : (w j : ℕ) → slice_index (replicate w 0) j ≡ 0
zero_at zero j = refl
zero_at (suc w) zero = refl
zero_at (suc w) (suc j) = zero_at w j

-- the words of a context that stand before its registers
abbrev pub context_words : (pc level current below : ℕ) → List ℕ
context_words pc level current below = pc ∷ level ∷ current ∷ below ∷ []

-- the first four words of a context fit into words
pub words_small : (x y z w : ℕ) → x < 4294967296 → y < 4294967296 → z < 4294967296 → w < 4294967296 → (j : ℕ) → slice_index (context_words x y z w) j < 4294967296
words_small x y z w p q r s zero = p
words_small x y z w p q r s (suc zero) = q
words_small x y z w p q r s (suc (suc zero)) = r
words_small x y z w p q r s (suc (suc (suc zero))) = s
words_small x y z w p q r s (suc (suc (suc (suc j)))) = omega arith

-- ---- where a context is stored

-- apart from the part of a task that is apart from those of the Active tasks
pub stored_apart : (b : Build) (state : State) (s : System) (stack : List ℕ) (place u : ℕ) → HasFittingPlaces b
    → slice_index state.core.registers 2 ≡ memory_base + (place + 128) → RunsFirst b state s stack → 1024 ≤ b.low u
    → ((v : ℕ) → is_in v stack ≡ true → AreStacksApart b u v) → (b.top u ≤ place) ⊎ (place + 128 ≤ b.low u)
stored_apart b state s [] place u fits x k low apart = let y = k.x2 in inr (omega arith)
stored_apart b state s (a ∷ stack) place u fits x k low apart =
    let p = k.context.x2 in
    let l = k.context.room in
    let top = context_below b state.core.ram a (task s a) (thread_of state) k.place k.context in
    ⊎_elim (λ (z : b.top u ≤ b.low a). inl (omega arith)) (λ (z : b.top a ≤ b.low u). inr (omega arith)) (apart a (is_in-head a stack))

-- there is room for it directly below x2
pub stored_at : (b : Build) (state : State) (s : System) (stack : List ℕ) → RunsFirst b state s stack
    → (place : ℕ) × (slice_index state.core.registers 2 ≡ memory_base + (place + 128))
stored_at b state s [] k = (idle_context, k.x2)
stored_at b state s (a ∷ stack) k = let p = k.context.x2 in let l = k.context.room in (k.place - 128, omega arith)
