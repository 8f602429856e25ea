-- Marks in the order of their addresses.
use Rattle.std.proofs.Common.{◌≡◌, ◌+◌, ◌++◌, ◌∙◌, ℕ, List, sym, ap, arith, eqb}
use Rattle.std.specs.List.Sorted.{IsPermutation, IsNonDecreasingBy, IsStrictlyIncreasing}
use Rattle.std.proofs.lemmas.List.{get_or-map, length-map}
use Rattle.std.proofs.lemmas.List.Sorted.{IsPermutation-map}
use Rattle.std.proofs.lemmas.Grind.{flat_map-append}
use Rattle.std.proofs.lemmas.Map.Keys.{IsDistinct-IsPermutation}
use Rattle.std.proofs.lemmas.Map.Made.{AllPairs-from_IsDistinct, IsDistinct-from_AllPairs}
use Rattle.std.proofs.lemmas.Bool.Decides.{Decides-eqb, Decides-like, same_from_decides}
use Rattle.sloth_base.specs.declared.image.Mark.{Mark}
use Rattle.sloth_base.specs.declared.image.MarkKind.TheVariants as kind
use Rattle.rv32_instr.specs.declared.block.Block.{Block}
use Rattle.mem_map.specs.Sections.{addresses, marks_of, HaveOwnAddresses}

abbrev none : Mark
none = record { address = 0; kind = kind.Idle; a = 0; b = 0; c = 0 }

flips : (x y : ℕ) → eqb x y ≡ eqb y x
flips x y = same_from_decides (eqb x y) (eqb y x) (Decides-eqb x y) (Decides-like (eqb y x) sym sym (Decides-eqb y x))

-- sorted marks of which each has an address of its own rise
pub ascending : (xs ys : List Mark) → IsPermutation xs ys → HaveOwnAddresses xs → IsNonDecreasingBy (λ (m : Mark). m.address) ys → IsStrictlyIncreasing (addresses ys)
ascending xs ys moved own order = λ k l.
    let f : Mark → ℕ = λ m. m.address in
    let n = length-map ys f in
    let differ = AllPairs-from_IsDistinct Decides-eqb (addresses ys)
    (IsDistinct-IsPermutation eqb flips (addresses xs) (addresses ys) (IsPermutation-map f xs ys moved) (IsDistinct-from_AllPairs Decides-eqb (addresses xs) own)) in
    let a = get_or-map f ys k none 0 (omega (arith, n, l)) in
    let b = get_or-map f ys (k + 1) none 0 (omega (arith, n, l)) in
    let le = order k (k + 1) none (omega arith) (omega (arith, n, l)) in
    let ne = differ k (k + 1) 0 (omega arith) l in
    grind (arith, a, b, le, ne)

-- the marks of both
pub marks_join : (xs ys : List Block) (marks own : List Mark) → marks ≡ marks_of xs → own ≡ marks_of ys → marks ++ own ≡ marks_of (xs ++ ys)
marks_join xs ys marks own e f =
    ap (λ (l : List Mark). l ++ own) e ∙ ap (λ (l : List Mark). marks_of xs ++ l) f ∙ sym (flat_map-append (λ (b : Block). b.marks) xs ys)
