use Rattle.std.proofs.Common.{◌≡◌, ◌++◌, ◌+◌, ◌-◌, ◌*◌, ◌∷◌, length}
use Rattle.std.specs.Prelude.{pos, neg_ℤ}
use Rattle.rv32_instr.specs.declared.InstrKind.TheVariants.{Addi}
use Rattle.rv32_expand.specs.Expansion.{zeros}
use Rattle.rv32_expand.proofs.rows.call.Given as goal

abbrev pub invariant-loop-word : goal.invariant-loop-word
invariant-loop-word l = record {
  is : l.draft ++ zeros (l.words - l.word) l.word ≡ Addi 2 2 (neg_ℤ (pos (4 + 4 * l.words))) ∷ zeros l.words 0;
  count : length l.draft ≡ 1 + l.word;
}
