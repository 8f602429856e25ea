use Rattle.std.proofs.Common.{◌∙◌, arith, subst, List, ap, length}
use Rattle.sloth_base.specs.Order.{IsLeast, NoFault}
use Rattle.asm_lines.specs.declared.source_line.SourceLine.{SourceLine}
use Rattle.asm_lines.specs.Faults.{SourceFault}
use Rattle.asm_lines.proofs.Counts.{lines_few}
use Rattle.asm_lines.proofs.source_line.read.Goals as goal

pub source_fault-requires : goal.source_fault-requires
source_fault-requires c = omega (arith, c.requires, lines_few c.args.text.now, ap length (c.items.ensures ∙ c.in_ok-read.ensures))

pub returns-in-None-clause-none : goal.returns-in-None-clause-none
returns-in-None-clause-none c = subst (λ (xs : List SourceLine). NoFault (SourceFault xs)) (c.items.ensures ∙ c.in_ok-read.ensures) c.in-None.ensures

pub returns-in-Some-clause-refused : goal.returns-in-Some-clause-refused
returns-in-Some-clause-refused c =
    subst (λ (xs : List SourceLine). IsLeast (SourceFault xs) c.in-Some.fault) (c.items.ensures ∙ c.in_ok-read.ensures) c.in-Some.ensures
