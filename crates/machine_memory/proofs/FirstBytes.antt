-- RAM by its first bytes, where all behind them are zero.
use Rattle.std.proofs.Common.{◌≡◌, ◌∙◌, ◌+◌, ◌-◌, ◌/◌, ◌%◌, ◌≤◌, ◌<◌, ◌++◌, ℕ, zero, suc, List, [], ◌∷◌, length, take, set, refl, sym, ap, arith}
use Rattle.std.specs.Prelude.{slice_index, replicate}
use Rattle.std.proofs.lemmas.List.{append_assoc, length-append, length-replicate, length-set, replicate-append-replicate, set-append_left, take_all}
use Rattle.sloth_base.specs.MemoryMap.{memory_bytes}
use Rattle.rv32_instr.specs.Ram.{word_at, with_byte, with_half, with_word}
use Rattle.machine_memory.specs.Fresh.{ram_of}

-- ---- what is read

-- zero, wherever a zero is read or nothing
zeros_read : (n i : ℕ) → slice_index (replicate n 0) i ≡ 0
zeros_read zero i = refl
zeros_read (suc n) zero = refl
zeros_read (suc n) (suc i) = zeros_read n i

front_read : (bytes : List ℕ) (i n : ℕ) → slice_index (bytes ++ replicate n 0) i ≡ slice_index bytes i
front_read [] i n = zeros_read n i
front_read (b ∷ bytes) zero n = refl
front_read (b ∷ bytes) (suc i) n = front_read bytes i n

pub byte_of_front : (bytes : List ℕ) (i : ℕ) → slice_index (ram_of bytes) i ≡ slice_index bytes i
unfolding ram_of
byte_of_front bytes i = front_read bytes i (memory_bytes - length bytes)

pub word_of_front : (bytes : List ℕ) (i : ℕ) → word_at (ram_of bytes) i ≡ word_at bytes i
unfolding word_at
word_of_front bytes i = rw (byte_of_front bytes i, byte_of_front bytes (i + 1), byte_of_front bytes (i + 2), byte_of_front bytes (i + 3)) refl

-- ---- what is written among them

pub length_with_byte : (bytes : List ℕ) (o value : ℕ) → length (with_byte bytes o value) ≡ length bytes
length_with_byte bytes o value = length-set bytes o (value % 256)

pub length_with_half : (bytes : List ℕ) (o value : ℕ) → length (with_half bytes o value) ≡ length bytes
unfolding with_half
length_with_half bytes o value = length_with_byte (with_byte bytes o value) (o + 1) (value / 256) ∙ length_with_byte bytes o value

pub length_with_word : (bytes : List ℕ) (o value : ℕ) → length (with_word bytes o value) ≡ length bytes
unfolding with_word
length_with_word bytes o value =
    length_with_byte (with_byte (with_byte (with_byte bytes o value) (o + 1) (value / 256)) (o + 2) (value / 65536)) (o + 3) (value / 16777216)
    ∙ length_with_byte (with_byte (with_byte bytes o value) (o + 1) (value / 256)) (o + 2) (value / 65536)
    ∙ length_with_byte (with_byte bytes o value) (o + 1) (value / 256)
    ∙ length_with_byte bytes o value

pub front_with_byte : (bytes : List ℕ) (o value : ℕ) → o < length bytes → ram_of (with_byte bytes o value) ≡ with_byte (ram_of bytes) o value
unfolding ram_of
front_with_byte bytes o value h =
    ap (λ n. set bytes o (value % 256) ++ replicate (memory_bytes - n) 0) (length-set bytes o (value % 256))
    ∙ sym (set-append_left bytes (replicate (memory_bytes - length bytes) 0) o (value % 256) h)

inside : (bytes : List ℕ) (o value i : ℕ) → i < length bytes → i < length (with_byte bytes o value)
inside bytes o value i h = let e = length_with_byte bytes o value in omega (arith, e, h)

pub front_with_half : (bytes : List ℕ) (o value : ℕ) → o + 2 ≤ length bytes → ram_of (with_half bytes o value) ≡ with_half (ram_of bytes) o value
unfolding with_half
front_with_half bytes o value h =
    front_with_byte (with_byte bytes o value) (o + 1) (value / 256) (inside bytes o value (o + 1) (omega (arith, h)))
    ∙ ap (λ ram. with_byte ram (o + 1) (value / 256)) (front_with_byte bytes o value (omega (arith, h)))

pub front_with_word : (bytes : List ℕ) (o value : ℕ) → o + 4 ≤ length bytes → ram_of (with_word bytes o value) ≡ with_word (ram_of bytes) o value
unfolding with_word
front_with_word bytes o value h =
    let one = with_byte bytes o value in
    let two = with_byte one (o + 1) (value / 256) in
    let three = with_byte two (o + 2) (value / 65536) in
    front_with_byte three (o + 3) (value / 16777216)
    (inside two (o + 2) (value / 65536) (o + 3) (inside one (o + 1) (value / 256) (o + 3) (inside bytes o value (o + 3) (omega (arith, h)))))
    ∙ ap (λ ram. with_byte ram (o + 3) (value / 16777216))
    (front_with_byte two (o + 2) (value / 65536) (inside one (o + 1) (value / 256) (o + 2) (inside bytes o value (o + 2) (omega (arith, h))))
    ∙ ap (λ ram. with_byte ram (o + 2) (value / 65536))
    (front_with_byte one (o + 1) (value / 256) (inside bytes o value (o + 1) (omega (arith, h)))
    ∙ ap (λ ram. with_byte ram (o + 1) (value / 256)) (front_with_byte bytes o value (omega (arith, h)))))

-- ---- zeros that are written behind them

longer : (bytes : List ℕ) (k : ℕ) → length bytes + k ≤ memory_bytes → ram_of (bytes ++ replicate k 0) ≡ ram_of bytes
unfolding ram_of
longer bytes k h =
    let many : length (bytes ++ replicate k 0) ≡ length bytes + k = length-append bytes (replicate k 0) ∙ ap (λ n. length bytes + n) (length-replicate k 0) in
    let rest : ℕ = memory_bytes - length (bytes ++ replicate k 0) in
    let sum : k + rest ≡ memory_bytes - length bytes = omega (arith, many, h) in
    append_assoc bytes (replicate k 0) (replicate rest 0)
    ∙ ap (λ zeros. bytes ++ zeros) (replicate-append-replicate k rest 0)
    ∙ ap (λ n. bytes ++ replicate n 0) sum

pub grown : (bytes : List ℕ) (n : ℕ) → length bytes ≤ n → n ≤ memory_bytes → ram_of (take n bytes ++ replicate (n - length bytes) 0) ≡ ram_of bytes
grown bytes n below h =
    ap (λ front. ram_of (front ++ replicate (n - length bytes) 0)) (take_all n bytes below) ∙ longer bytes (n - length bytes) (omega (arith, below, h))
