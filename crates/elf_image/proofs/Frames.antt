-- The numbers that headers say are those that stand in the file.
use Rattle.std.proofs.Common.{◌≡◌, ◌<◌, ◌+◌, ◌^◌, ℕ, List, [], ◌∷◌, ◌++◌, take, drop, sym, ◌∙◌, ap, arith}
use Rattle.std.specs.List.{flat_map}
use Rattle.std.proofs.lemmas.List.{take-append-drop, drop-drop}
use Rattle.sloth_base.specs.MemoryMap.{memory_bytes, memory_base}
use Rattle.image_file.specs.Fields.{four_bytes}
use Rattle.image_file.proofs.Unique.{four}
use Rattle.elf_image.specs.Faults.{HasLoadHeader, HasNoteHeader}

-- the fifth of the numbers that stand at a place
fifth : (file : List ℕ) (at a b c d n m : ℕ) (r s : List ℕ) → take 32 (drop at file) ≡ flat_map four_bytes (a ∷ b ∷ c ∷ d ∷ m ∷ r)
    → drop (at + 16) file ≡ four_bytes n ++ s → n < 2 ^ 32 → m < 2 ^ 32 → n ≡ m
unfolding four_bytes
fifth file at a b c d n m r s e stands small other =
    let whole : drop at file ≡ flat_map four_bytes (a ∷ b ∷ c ∷ d ∷ m ∷ r) ++ drop 32 (drop at file) =
    sym (take-append-drop 32 (drop at file)) ∙ ap (λ x. x ++ drop 32 (drop at file)) e in
    let front : drop (at + 16) file ≡ four_bytes m ++ (flat_map four_bytes r ++ drop 32 (drop at file)) =
    sym (drop-drop 16 at file) ∙ ap (λ x. drop 16 x) whole in
    (four n m s (flat_map four_bytes r ++ drop 32 (drop at file)) small other (sym stands ∙ front)).0

pub load-is : (file : List ℕ) (n m : ℕ) (s : List ℕ) → drop 68 file ≡ four_bytes n ++ s → n < 2 ^ 32 → HasLoadHeader file m → n ≡ m
load-is file n m s stands small has =
    let fits = has.memory.fits in
    fifth file 52 1 116 memory_base memory_base n m (memory_bytes ∷ 7 ∷ 4 ∷ []) s has.header stands small (omega (arith, fits))

pub note-is : (file : List ℕ) (size n m : ℕ) (s : List ℕ) → drop 100 file ≡ four_bytes n ++ s → n < 2 ^ 32 → HasNoteHeader file size m → n ≡ m
note-is file size n m s stands small has =
    fifth file 84 4 (116 + size) 0 0 n m (m ∷ 4 ∷ 4 ∷ []) s has.header stands small has.note_size.word

-- two headers at one place say one number
fifths : (a b c d n a' b' c' d' m : ℕ) (r s : List ℕ) → n < 2 ^ 32 → m < 2 ^ 32
    → flat_map four_bytes (a ∷ b ∷ c ∷ d ∷ n ∷ r) ≡ flat_map four_bytes (a' ∷ b' ∷ c' ∷ d' ∷ m ∷ s) → n ≡ m
unfolding four_bytes
fifths a b c d n a' b' c' d' m r s small other e =
    let rest : four_bytes n ++ flat_map four_bytes r ≡ four_bytes m ++ flat_map four_bytes s = ap (λ x. drop 16 x) e in
    (four n m (flat_map four_bytes r) (flat_map four_bytes s) small other rest).0

pub one-load : (file : List ℕ) (n m : ℕ) → HasLoadHeader file n → HasLoadHeader file m → n ≡ m
one-load file n m h i =
    let a = h.memory.fits in
    let b = i.memory.fits in
    fifths 1 116 memory_base memory_base n 1 116 memory_base memory_base m (memory_bytes ∷ 7 ∷ 4 ∷ []) (memory_bytes ∷ 7 ∷ 4 ∷ []) (omega (arith, a)) (omega (arith, b))
    (sym h.header ∙ i.header)

pub one-note : (file : List ℕ) (size n m : ℕ) → HasNoteHeader file size n → HasNoteHeader file size m → n ≡ m
one-note file size n m h i =
    fifths 4 (116 + size) 0 0 n 4 (116 + size) 0 0 m (n ∷ 4 ∷ 4 ∷ []) (m ∷ 4 ∷ 4 ∷ []) h.note_size.word i.note_size.word (sym h.header ∙ i.header)
