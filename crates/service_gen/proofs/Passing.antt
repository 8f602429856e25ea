-- Code that is passed is owed nothing.
use Rattle.std.proofs.Common.{◌≡◌, ℕ, zero, suc, ◌+◌, ◌*◌, List, [], ◌∷◌, ◌++◌, length, subst, arith}
use Rattle.sloth_base.specs.Machine.{Core, State}
use Rattle.rv32_instr.specs.declared.InstrKind.{InstrKind}
use Rattle.masked_code.proofs.Owes.{Owes}

module _ (from to : ℕ) (E : List ℕ → State → State → Type 0) (start : State) where
  -- what is owed behind it is all
  pub passes : (code rest : List InstrKind) (n o : ℕ) (c : Core) → length code ≡ n → ((o2 : ℕ) → o2 ≡ o + 4 * n → Owes from to o2 rest 0 E start c)
      → Owes from to o (code ++ rest) n E start c
  passes [] rest n o c e go = subst (λ k. Owes from to o rest k E start c) e (go o (omega arith))
  passes (kind ∷ code) rest zero o c e go = absurd (omega arith)
  passes (kind ∷ code) rest (suc n) o c e go = passes code rest n (o + 4) c (omega arith) (λ o2 f. go o2 (omega arith))
