use Rattle.std.proofs.Common.{subst, sym, List, ℕ, ◌++◌}
use Rattle.std.specs.Prelude.{All}
use Rattle.std.proofs.lemmas.List.Elements.{All-append}
use Rattle.rv32_instr.specs.Range.{InRange}
use Rattle.rv32_instr.specs.declared.block.Block.{Block}
use Rattle.sloth_link.specs.Linked.{AreLinked, sections_of}
use Rattle.sloth_link.proofs.Stand.{blocks_stand, symbols_stand}
use Rattle.sloth_link.proofs.linking.link_all.Goals as goal

pub returns-clause-range : goal.returns-clause-range
returns-clause-range c =
    All-append (λ (b : Block). All InRange b.code) c.args.blocks.now c.args.items.now c.are_in_range.ensures c.are_in_range-2.ensures

pub returns-clause-code : goal.returns-clause-code
returns-clause-code c =
    let P : List ℕ → Type 0 = λ m. AreLinked c.args.size (sections_of (c.args.blocks.now ++ c.args.items.now) c.args.symbols.now) m in
    blocks_stand c.args.size _ c.args.symbols.now _
    (All-append (λ (b : Block). All InRange b.code) c.args.blocks.now c.args.items.now c.are_in_range.ensures c.are_in_range-2.ensures)
    (subst P (sym c.from_vec.ensures) c.in_ok-memory.ensures)

pub returns-clause-symbols : goal.returns-clause-symbols
returns-clause-symbols c =
    let P : List ℕ → Type 0 = λ m. AreLinked c.args.size (sections_of (c.args.blocks.now ++ c.args.items.now) c.args.symbols.now) m in
    symbols_stand c.args.size (c.args.blocks.now ++ c.args.items.now) _ _ (subst P (sym c.from_vec.ensures) c.in_ok-memory.ensures)
