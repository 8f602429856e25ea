-- Two blocks that were linked share no byte.
use Rattle.std.proofs.Common.{◌≡◌, ◌≢◌, ◌≤◌, ◌<◌, ◌+◌, ℕ, List, ◌++◌, length, get_or, sym, ap, subst, ◌∙◌, inl, inr, ⊎_elim, arith}
use Rattle.std.specs.Prelude.{AllPairs, Contains}
use Rattle.std.specs.Prelude as prelude
use Rattle.std.proofs.lemmas.Bool.{cases_lt}
use Rattle.std.proofs.lemmas.List.{get_or_append_left, get_or_default, length-append}
use Rattle.std.proofs.Math.ListN.{get_or-map, length-map}
use Rattle.rv32_instr.specs.declared.block.Block.{Block}
use Rattle.sloth_link.specs.Linked.{AreSectionsApart}
use Rattle.mem_map.specs.Sections.{Section, block_section}

-- a block by its place among all sections
section_at : (blocks : List Block) (rest : List Section) (k : ℕ) (x : Block) (d : Section) → k < length blocks → get_or blocks k x ≡ x
    → get_or (prelude.map block_section blocks ++ rest) k d ≡ block_section x
section_at blocks rest k x d l e =
    let n = length-map blocks block_section in
    get_or_append_left (prelude.map block_section blocks) rest d k (omega (arith, n, l))
    ∙ get_or_default (prelude.map block_section blocks) k d (block_section x) (omega (arith, n, l))
    ∙ get_or-map block_section blocks k x ∙ ap block_section e

in_order : (blocks : List Block) (rest : List Section) (x y : Block) (i j : ℕ) → AllPairs AreSectionsApart (prelude.map block_section blocks ++ rest) → i < j
    → i < length blocks → j < length blocks → get_or blocks i x ≡ x → get_or blocks j y ≡ y → AreSectionsApart (block_section x) (block_section y)
in_order blocks rest x y i j h lt li lj ei ej =
    let n = length-map blocks block_section in
    let long = length-append (prelude.map block_section blocks) rest in
    let both = h i j (block_section x) lt (omega (arith, n, long, lj)) in
    let P : Section → Type 0 = λ s. AreSectionsApart s (get_or (prelude.map block_section blocks ++ rest) j (block_section x)) in
    subst (AreSectionsApart (block_section x)) (section_at blocks rest j y (block_section x) lj ej) (subst P (section_at blocks rest i x (block_section x) li ei) both)

flipped : (a b : Section) → AreSectionsApart a b → AreSectionsApart b a
flipped a b h = ⊎_elim (λ (x : a.offset + length a.bytes ≤ b.offset). inr x) (λ (x : b.offset + length b.bytes ≤ a.offset). inl x) h

-- at two places
pub apart_at : (blocks : List Block) (rest : List Section) (x y : Block) (i j : ℕ) → AllPairs AreSectionsApart (prelude.map block_section blocks ++ rest)
    → i ≢ j → i < length blocks → j < length blocks → get_or blocks i x ≡ x → get_or blocks j y ≡ y → AreSectionsApart (block_section x) (block_section y)
apart_at blocks rest x y i j h differ li lj ei ej =
    ⊎_elim
    (λ (lt : i < j). in_order blocks rest x y i j h lt li lj ei ej)
    (λ (le : j ≤ i). flipped (block_section y) (block_section x) (in_order blocks rest y x j i h (omega (arith, le, differ)) lj li ej ei))
    (cases_lt i j)

-- that are not the same
pub blocks_apart : (blocks : List Block) (rest : List Section) (x y : Block) → AllPairs AreSectionsApart (prelude.map block_section blocks ++ rest)
    → (x ≡ y → ⊥) → Contains blocks x → Contains blocks y → AreSectionsApart (block_section x) (block_section y)
blocks_apart blocks rest x y h differ (i, li, ei) (j, lj, ej) =
    apart_at blocks rest x y i j h
    (λ same.
    let P : ℕ → Type 0 = λ k. get_or blocks k y ≡ y in
    differ (sym ei ∙ get_or_default blocks i x y li ∙ subst P (sym same) ej))
    li lj ei ej
