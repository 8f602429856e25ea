-- Items that are blocks stand.
use Rattle.std.proofs.Common.{◌≡◌, ◌≤◌, ◌<◌, ◌+◌, ◌-◌, ℕ, zero, suc, List, [], ◌∷◌, length, refl, sym, ap, subst, ◌∙◌, arith}
use Rattle.std.specs.Prelude.{All, Contains, slice_index_or}
use Rattle.std.proofs.lemmas.List.Elements.{All-head, All-tail, All-append, All-contains, Contains-append_left, Contains-append_right}
use Rattle.std.proofs.lemmas.List.Sorted.{All-permutation, Contains-permutation}
use Rattle.std.specs.List.Sorted.{IsPermutation}
use Rattle.sloth_base.specs.declared.app.App.{App}
use Rattle.sloth_base.specs.declared.image.Mark.{Mark}
use Rattle.sloth_base.specs.declared.limits.Places.{Places}
use Rattle.sloth_base.specs.MemoryMap.{memory_base}
use Rattle.rv32_instr.specs.declared.InstrKind.{InstrKind}
use Rattle.rv32_instr.specs.declared.block.Block.{Block}
use Rattle.masked_code.specs.Place.{AreWritten}
use Rattle.rv32_instr.specs.Ram.{word_at}
use Rattle.rv32_expand.specs.Expansion.{expansion, item_address}
use Rattle.rv32_expand.specs.InPlace.{CodeAt, item_mark}
use Rattle.sloth_link.specs.Linked.{BlockStands}
use Rattle.mem_map.specs.Sections.{marks_of, block_section, IsSectionInside}
use Rattle.sloth_link.proofs.Written.{code_bytes_length}
use Rattle.sloth_link.specs.Items.{item_block, HaveItems, IsOwnMark, MarksAreOfItems}
use Rattle.sloth_link.specs.Standing.{HasItemsInPlace}

code_at : (code : List InstrKind) (memory : List ℕ) (address offset : ℕ) → address ≡ memory_base + offset → AreWritten memory offset code → CodeAt memory address code
code_at [] memory address offset e w = tt
code_at (kind ∷ code) memory address offset e w =
    let o : address - memory_base ≡ offset = omega (arith, e) in
    (ap (word_at memory) o ∙ w.0, code_at code memory (address + 4) (offset + 4) (omega (arith, e)) w.1)

-- a mark of one of the blocks is one of all marks
pub mark_of_all : (blocks : List Block) (k : ℕ) (block : Block) (mark : Mark) → k < length blocks → slice_index_or blocks k block ≡ block → Contains block.marks mark → Contains (marks_of blocks) mark
mark_of_all [] k block mark l e c = absurd (omega arith)
mark_of_all (b ∷ blocks) zero block mark l e c =
    let P : Block → Type 0 = λ x. Contains x.marks mark in
    Contains-append_left b.marks (marks_of blocks) mark (subst P (sym e) c)
mark_of_all (b ∷ blocks) (suc k) block mark l e c = Contains-append_right b.marks (marks_of blocks) mark (mark_of_all blocks k block mark (omega arith) e c)

-- what is true of the marks of each block is true of all marks
pub all_marks : (P : Mark → Type 0) (blocks : List Block) → All (λ (b : Block). All P b.marks) blocks → All P (marks_of blocks)
all_marks P [] h = λ k d l. absurd (omega arith)
all_marks P (b ∷ blocks) h = All-append P b.marks (marks_of blocks) (All-head (λ (x : Block). All P x.marks) b blocks h) (all_marks P blocks (All-tail (λ (x : Block). All P x.marks) b blocks h))

-- items that were linked, each as a block of its own, stand
pub items_stand : (app : App) (places : Places) (size : ℕ) (blocks : List Block) (memory : List ℕ) (marks : List Mark)
    → HaveItems app places blocks → All (MarksAreOfItems app places) blocks → All (λ b. memory_base ≤ b.at) blocks
    → All (λ b. IsSectionInside size (block_section b)) blocks → length memory ≡ size → All (BlockStands memory) blocks
    → IsPermutation (marks_of blocks) marks → HasItemsInPlace app places memory marks
items_stand app places size blocks memory marks items of above inside n code moved =
    let Inside : Block → Type 0 = λ x. IsSectionInside size (block_section x) in
    let Above : Block → Type 0 = λ x. memory_base ≤ x.at in
    record {
      code = λ func index is.
          let a = All-contains Above blocks (item_block app places func index) above (items func index is) in
          code_at (expansion app places func index) memory (item_address places func index) (item_address places func index - memory_base) (omega (arith, a))
          (All-contains (BlockStands memory) blocks (item_block app places func index) code (items func index is));
      inside = λ func index is.
          let a = All-contains Above blocks (item_block app places func index) above (items func index is) in
          let i = All-contains Inside blocks (item_block app places func index) inside (items func index is) in
          let l = code_bytes_length (expansion app places func index) in
          (a, omega (arith, a, i, l, n));
      marked = λ func index is.
          let c = items func index is in
          Contains-permutation (marks_of blocks) marks (item_mark app places func index) moved
          (mark_of_all blocks c.0 (item_block app places func index) (item_mark app places func index) c.1 c.2 (0, omega arith, refl));
      only = All-permutation (IsOwnMark app places) (marks_of blocks) marks moved (all_marks (IsOwnMark app places) blocks of);
    }
