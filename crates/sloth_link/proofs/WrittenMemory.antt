-- What is written into zeros has everything in it.
use Rattle.std.proofs.Common.{◌≡◌, ℕ, List, ◌++◌, length, sym, ap, subst, ◌∙◌, arith}
use Rattle.std.specs.Prelude.{All, replicate, take, drop, map}
use Rattle.std.proofs.lemmas.List.{length-replicate, take_at}
use Rattle.rv32_instr.specs.declared.block.Block.{Block}
use Rattle.sloth_link.specs.declared.linking.Datum.{Datum}
use Rattle.mem_map.specs.Sections.{Section, linked_memory, block_section, IsSectionInside}
use Rattle.sloth_link.specs.Linked.{HaveRoom, AreLinked, sections_of, datum_section}
use Rattle.sloth_link.proofs.Written.{are_linked, length-linked, front_of, back_of, each_of}

-- the first so many bytes of what was written are the memory of the image
pub is_linked : (size : ℕ) (blocks : List Block) (symbols : List Datum) (zeros old new : List ℕ) (n : ℕ) → HaveRoom size blocks symbols → zeros ≡ replicate size 0 → n ≡ size → old ≡ zeros → new ≡ linked_memory old (sections_of blocks symbols)
    → AreLinked size (sections_of blocks symbols) (take n (new ++ drop (length new) zeros))
is_linked size blocks symbols zeros old new n room z s o e =
    let all : List Section = sections_of blocks symbols in
    let is : new ≡ linked_memory (replicate size 0) all = e ∙ ap (λ m. linked_memory m all) (o ∙ z) in
    let long : length new ≡ n = ap length is ∙ length-linked all (replicate size 0) ∙ length-replicate {A = ℕ} size 0 ∙ sym s in
    let P : List ℕ → Type 0 = λ m. AreLinked size all m in
    subst P (sym (take_at new (drop (length new) zeros) n long ∙ is)) (are_linked size all room.inside room.apart)

-- the blocks are inside
pub blocks_inside : (size : ℕ) (blocks : List Block) (symbols : List Datum) → HaveRoom size blocks symbols → All (λ b. IsSectionInside size (block_section b)) blocks
blocks_inside size blocks symbols room = front_of (IsSectionInside size) block_section blocks (map datum_section symbols) room.inside

-- and so are the symbols
pub symbols_inside : (size n : ℕ) (blocks : List Block) (symbols : List Datum) → HaveRoom size blocks symbols → n ≡ size → All (λ d. IsSectionInside n (datum_section d)) symbols
symbols_inside size n blocks symbols room e = λ k d l.
    let h = each_of (IsSectionInside size) datum_section symbols (back_of (IsSectionInside size) (map block_section blocks) (map datum_section symbols) room.inside) k d l in
    omega (arith, h, e)
