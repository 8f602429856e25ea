-- Blocks in two lists, one behind the other.
use Rattle.std.proofs.Common.{◌≡◌, ℕ, List, [], ◌∷◌, ◌++◌, refl, sym, ap, ◌∙◌, arith}
use Rattle.std.specs.Prelude.{All, map}
use Rattle.std.proofs.lemmas.List.Elements.{All-cons, All-head, All-tail}
use Rattle.rv32_instr.specs.declared.block.Block.{Block}
use Rattle.sloth_link.specs.declared.linking.Datum.{Datum}
use Rattle.mem_map.specs.Sections.{Section, IsSectionInside, block_section, linked_memory}
use Rattle.sloth_link.specs.Linked.{HaveRoom, datum_section, sections_of}
use Rattle.sloth_link.proofs.Written.{linked_append}
use Rattle.sloth_link.proofs.WrittenMemory.{blocks_inside}

-- what all have, those of the first list have
pub front : {X : Type 0} (P : X → Type 0) (xs ys : List X) → All P (xs ++ ys) → All P xs
front P [] ys h = λ k d l. absurd (omega (arith, l))
front P (x ∷ xs) ys h = All-cons P x xs (All-head P x (xs ++ ys) h) (front P xs ys (All-tail P x (xs ++ ys) h))

-- and those of the second
pub back : {X : Type 0} (P : X → Type 0) (xs ys : List X) → All P (xs ++ ys) → All P ys
back P [] ys h = h
back P (x ∷ xs) ys h = back P xs ys (All-tail P x (xs ++ ys) h)

sections_join : (xs ys : List Block) → map block_section (xs ++ ys) ≡ map block_section xs ++ map block_section ys
sections_join [] ys = refl
sections_join (x ∷ xs) ys = ap (λ l. block_section x ∷ l) (sections_join xs ys)

-- three writings are one
pub written_in_turn : (xs ys : List Block) (symbols : List Datum) (memory : List ℕ)
    → linked_memory (linked_memory (linked_memory memory (map block_section xs)) (map block_section ys)) (map datum_section symbols) ≡ linked_memory memory (sections_of (xs ++ ys) symbols)
written_in_turn xs ys symbols memory =
    ap (λ m. linked_memory m (map datum_section symbols)) (sym (linked_append (map block_section xs) (map block_section ys) memory))
    ∙ ap (λ (s : List Section). linked_memory (linked_memory memory s) (map datum_section symbols)) (sym (sections_join xs ys))
    ∙ sym (linked_append (map block_section (xs ++ ys)) (map datum_section symbols) memory)

-- the blocks of each list lie inside the memory
pub front_inside : (size : ℕ) (xs ys : List Block) (symbols : List Datum) → HaveRoom size (xs ++ ys) symbols → All (λ b. IsSectionInside size (block_section b)) xs
front_inside size xs ys symbols room = front (λ (b : Block). IsSectionInside size (block_section b)) xs ys (blocks_inside size (xs ++ ys) symbols room)

-- and those of the second list
pub back_inside : (size n : ℕ) (xs ys : List Block) (symbols : List Datum) → HaveRoom size (xs ++ ys) symbols → n ≡ size
    → All (λ b. IsSectionInside n (block_section b)) ys
back_inside size n xs ys symbols room e = λ k d l.
    let h = back (λ (b : Block). IsSectionInside size (block_section b)) xs ys (blocks_inside size (xs ++ ys) symbols room) k d l in
    omega (arith, h, e)
