-- A note has one description.
use Rattle.std.proofs.Common.{◌≡◌, ◌<◌, ◌+◌, ◌-◌, ◌%◌, ◌^◌, ℕ, List, [], ◌∷◌, ◌++◌, length, take, drop, sym, ◌∙◌, ap, arith}
use Rattle.std.proofs.Math.Seq.{take-append_seam}
use Rattle.std.proofs.lemmas.List.{length-append, length-take-le}
use Rattle.image_file.specs.Fields.{four_bytes}
use Rattle.image_file.proofs.Unique.{four}
use Rattle.elf_image.specs.ElfText.{note_bytes, owner, padding}

pub length-padding : (n : ℕ) → length (padding n) ≡ (4 - n % 4) % 4
length-padding n = length-take-le ((4 - n % 4) % 4) (0 ∷ 0 ∷ 0 ∷ []) (omega arith)

pub length-note : (d : List ℕ) → length (note_bytes d) ≡ 20 + (length d + length (padding (length d)))
unfolding four_bytes
length-note d = let e = length-append d (padding (length d)) in omega (arith, e)

-- the number in a note is the length of its description
pub size-is : (note d : List ℕ) (n : ℕ) (s : List ℕ) → drop 4 note ≡ four_bytes n ++ s → n < 2 ^ 32 → length d < 2 ^ 32 → note ≡ note_bytes d → n ≡ length d
unfolding four_bytes
size-is note d n s stands small other e =
    let front : drop 4 note ≡ four_bytes (length d) ++ (four_bytes 1 ++ (owner ++ (d ++ padding (length d)))) = ap (λ x. drop 4 x) e in
    (four n (length d) s (four_bytes 1 ++ (owner ++ (d ++ padding (length d)))) small other (sym stands ∙ front)).0

-- which stands behind its head
pub description-is : (note d : List ℕ) → note ≡ note_bytes d → take (length d) (drop 20 note) ≡ d
unfolding four_bytes
description-is note d e =
    let front : drop 20 note ≡ d ++ padding (length d) = ap (λ x. drop 20 x) e in
    ap (λ x. take (length d) x) front ∙ take-append_seam d (padding (length d))

pub one-description : (c d : List ℕ) → length c < 2 ^ 32 → length d < 2 ^ 32 → note_bytes c ≡ note_bytes d → c ≡ d
unfolding four_bytes
one-description c d small other e =
    let front : four_bytes (length c) ++ (four_bytes 1 ++ (owner ++ (c ++ padding (length c)))) ≡ four_bytes (length d) ++ (four_bytes 1 ++ (owner ++ (d ++ padding (length d)))) =
    ap (λ x. drop 4 x) e in
    let same : length c ≡ length d =
    (four (length c) (length d) (four_bytes 1 ++ (owner ++ (c ++ padding (length c)))) (four_bytes 1 ++ (owner ++ (d ++ padding (length d)))) small other front).0 in
    let tail : c ++ padding (length c) ≡ d ++ padding (length d) = ap (λ x. drop 20 x) e in
    sym (take-append_seam c (padding (length c))) ∙ ap (λ x. take (length c) x) tail ∙ ap (λ n. take n (d ++ padding (length d))) same
    ∙ take-append_seam d (padding (length d))
