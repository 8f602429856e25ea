-- A file is an image's ELF file or has one first fault.
use Rattle.std.proofs.Common.{◌≡◌, ◌<◌, ◌≤◌, ◌+◌, ◌^◌, ℕ, zero, suc, List, [], ◌∷◌, ◌++◌, length, take, drop, refl, sym, ◌∙◌, ap, subst, arith, get_or, ◌⊎◌, inl, inr}
use Rattle.std.specs.Prelude.{⊤}
use Rattle.std.specs.List.{flat_map}
use Rattle.std.proofs.lemmas.Bool.{cases_lt}
use Rattle.std.proofs.lemmas.List.{take-append-drop}
use Rattle.sloth_base.specs.declared.image.Image.{Image}
use Rattle.image_file.specs.Fields.{four_bytes, magic_bytes}
use Rattle.image_file.specs.ImageText.{counter_bytes, image_bytes, name_bytes}
use Rattle.image_file.proofs.Images.{image-unique}
use Rattle.elf_image.specs.ElfText.{ElfText, elf_header, note_bytes}
use Rattle.elf_image.specs.Faults.{AreRight, Description, FaultIsOne, IsElfErrorOf, IsFirstElfFault, HasElfHeader, HasElfMagic, HasLoadHeader, HasNote, HasNoteHeader, IsFramed, NoneIsBoth, NoneIsNeither, described_bytes}
use Rattle.image_file.specs.declared.read.ElfFault.{ElfFault}
use Rattle.image_file.specs.declared.read.ElfFault.TheVariants as fault
use Rattle.image_file.specs.declared.read.FileError.{FileError}
use Rattle.image_file.specs.declared.read.FileError.TheVariants as failure
use Rattle.elf_image.proofs.Frames.{one-load, one-note}
use Rattle.elf_image.proofs.Descriptions.{one-described}
use Rattle.elf_image.proofs.Notes.{length-note, one-description}
use Rattle.elf_image.proofs.Whole.{described_of, framed-of, image_of, is-elf, memory_in, memory-of, note-length, note_of, noted-of, right-of}

-- ---- one frame, one description

pub one-size : (file : List ℕ) (n m a b : ℕ) → IsFramed file n a → IsFramed file m b → n ≡ m
one-size file n m a b h i = one-load file n m h.headers.load i.headers.load

pub short-note : (file : List ℕ) (size note : ℕ) (d : Description) → IsFramed file size note → HasNote file size d → length (described_bytes d) < 2 ^ 32
short-note file size note d h has =
    let e = length-note (described_bytes d) in
    let n : length (note_bytes (described_bytes d)) ≡ note = ap (λ x. length x) (sym has.are) ∙ note-length file size note h in
    let word = h.headers.note_size.word in
    omega (arith, e, n, word)

pub one-noted : (file : List ℕ) (size note : ℕ) (d e : Description) → IsFramed file size note → HasNote file size d → HasNote file size e → d ≡ e
one-noted file size note d e h has other =
    one-described d e has.within other.within
    (one-description (described_bytes d) (described_bytes e) (short-note file size note d h has) (short-note file size note e h other) (sym has.are ∙ other.are))

same-noted : (file : List ℕ) (n m a b : ℕ) (d e : Description) → IsFramed file n a → IsFramed file m b → HasNote file n d → HasNote file m e → d ≡ e
same-noted file n m a b d e h i has other =
    let same = one-size file n m a b h i in
    one-noted file n a d e h has (subst (λ x. HasNote file x e) (sym same) other)

-- the bytes of the image file
abbrev image_file_bytes : Description → List ℕ → List ℕ
image_file_bytes d memory =
    (magic_bytes (length d.counters) ++ four_bytes (length d.tasks) ++ four_bytes (length d.funcs) ++ counter_bytes (length d.counters)
    ++ four_bytes (length memory) ++ four_bytes d.count)
    ++ flat_map name_bytes d.tasks ++ flat_map name_bytes d.funcs ++ flat_map name_bytes d.counters ++ memory ++ d.marks

pub elf-unique : (one other : Image) (file : List ℕ) → ElfText file one → ElfText file other → one ≡ other
elf-unique one other file h i =
    let size = one-size file (length one.memory) (length other.memory) (note_of one) (note_of other) (framed-of file one h) (framed-of file other i) in
    let d = same-noted file (length one.memory) (length other.memory) (note_of one) (note_of other) (described_of one) (described_of other)
    (framed-of file one h) (framed-of file other i) (noted-of file one h) (noted-of file other i) in
    let memory : one.memory ≡ other.memory = sym (memory-of file one h) ∙ ap (λ n. memory_in file n) size ∙ memory-of file other i in
    let same : image_bytes one ≡ image_bytes other = ap (λ x. image_file_bytes x one.memory) d ∙ ap (λ m. image_file_bytes (described_of other) m) memory in
    image-unique one other (image_bytes one) (record { in_format = h.in_format; written = refl }) (record { in_format = i.in_format; written = same })

-- ---- an image or a fault

pub none_is_neither : NoneIsNeither
none_is_neither file no_image no_fault =
    no_fault fault.E1 (λ magic. by_length magic (cases_lt (length file) 116))
  where
    framed : (size note : ℕ) → IsFramed file size note → ⊥
    framed size note frame =
        no_fault fault.E7 (
          size,
          note,
          frame,
          λ d has. no_fault fault.E8 (size, note, d, frame, has, λ marks right. no_image (image_of (memory_in file size) d marks) (is-elf file size note d marks frame has right)),
        )

    with_header : HasElfHeader file → ⊥
    with_header elf = no_fault fault.E4 (
      elf,
      λ size load. no_fault fault.E5 (
        size,
        load,
        λ note headers. no_fault fault.E6 (size, note, headers, λ ends. framed size note (record { headers = headers; ends = ends })),
      ),
    )

    by_length : HasElfMagic file → (length file < 116) ⊎ (116 ≤ length file) → ⊥
    by_length magic (inl short) = no_fault fault.E2 (magic, short)
    by_length magic (inr long) = no_fault fault.E3 (magic, long, with_header)

magic-of : (file : List ℕ) → HasElfHeader file → HasElfMagic file
unfolding elf_header
magic-of file h = ap (λ x. take 4 x) (sym (take-append-drop 52 file) ∙ ap (λ x. x ++ drop 52 file) h.header)

-- what a file has that has no fault up to this number
abbrev Passes : ℕ → List ℕ → Type 0
Passes zero file = ⊤
Passes (suc zero) file = HasElfMagic file
Passes (suc (suc zero)) file = HasElfMagic file × (116 ≤ length file)
Passes (suc (suc (suc zero))) file = HasElfHeader file
Passes (suc (suc (suc (suc zero)))) file = (size : ℕ) × HasLoadHeader file size
Passes (suc (suc (suc (suc (suc zero))))) file = (size : ℕ) × (note : ℕ) × HasNoteHeader file size note
Passes (suc (suc (suc (suc (suc (suc zero)))))) file = (size : ℕ) × (note : ℕ) × IsFramed file size note
Passes (suc (suc (suc (suc (suc (suc (suc zero))))))) file = (size : ℕ) × (note : ℕ) × (d : Description) × IsFramed file size note × HasNote file size d
Passes (suc (suc (suc (suc (suc (suc (suc (suc more)))))))) file = (image : Image) × ElfText file image

down : (file : List ℕ) (k : ℕ) → Passes (suc k) file → Passes k file
down file zero p = tt
down file (suc zero) p = p.0
down file (suc (suc zero)) p = (magic-of file p, p.long)
down file (suc (suc (suc zero))) p = p.1.elf
down file (suc (suc (suc (suc zero)))) p = (p.0, p.2.load)
down file (suc (suc (suc (suc (suc zero))))) p = (p.0, p.1, p.2.headers)
down file (suc (suc (suc (suc (suc (suc zero)))))) p = (p.0, p.1, p.3)
down file (suc (suc (suc (suc (suc (suc (suc zero))))))) p =
    (length p.0.memory, note_of p.0, described_of p.0, framed-of file p.0 p.1, noted-of file p.0 p.1)
down file (suc (suc (suc (suc (suc (suc (suc (suc k)))))))) p = p

descend-by : (file : List ℕ) (k i : ℕ) → Passes (suc k) file → (i ≤ k → Passes i file) → i ≤ suc k → (i < suc k) ⊎ (suc k ≤ i) → Passes i file
descend-by file k i p lower le (inl lt) = lower (omega (arith, lt))
descend-by file k i p lower le (inr ge) = let same : suc k ≡ i = omega (arith, le, ge) in subst (λ n. Passes n file) same p

descend : (file : List ℕ) (k i : ℕ) → i ≤ k → Passes k file → Passes i file
descend file zero i le p = let same : zero ≡ i = omega (arith, le) in subst (λ n. Passes n file) same p
descend file (suc k) i le p = descend-by file k i p (λ low. descend file k i low (down file k p)) le (cases_lt i (suc k))

-- the number of a fault, from zero
abbrev number : ElfFault → ℕ
number fault.E1 = zero
number fault.E2 = suc zero
number fault.E3 = suc (suc zero)
number fault.E4 = suc (suc (suc zero))
number fault.E5 = suc (suc (suc (suc zero)))
number fault.E6 = suc (suc (suc (suc (suc zero))))
number fault.E7 = suc (suc (suc (suc (suc (suc zero)))))
number fault.E8 = suc (suc (suc (suc (suc (suc (suc zero))))))

-- a faulty file has no fault of lower number
before : (file : List ℕ) (f : ElfFault) → IsFirstElfFault f file → Passes (number f) file
before file fault.E1 p = tt
before file fault.E2 p = p.0
before file fault.E3 p = (p.0, p.1)
before file fault.E4 p = p.0
before file fault.E5 p = (p.0, p.1)
before file fault.E6 p = (p.0, p.1, p.2)
before file fault.E7 p = (p.0, p.1, p.2)
before file fault.E8 p = (p.0, p.1, p.2, p.3, p.4)

-- and does not pass its own
beyond : (file : List ℕ) (f : ElfFault) → IsFirstElfFault f file → Passes (suc (number f)) file → ⊥
beyond file fault.E1 p q = p q
beyond file fault.E2 p q = let short = p.1 in let long = q.1 in omega (arith, short, long)
beyond file fault.E3 p q = p.2 q
beyond file fault.E4 p q = p.1 q.0 q.1
beyond file fault.E5 p q = p.2 q.1 (subst (λ n. HasNoteHeader file n q.1) (one-load file q.0 p.0 q.2.load p.1) q.2)
beyond file fault.E6 p q =
    let size = one-load file q.0 p.0 q.2.headers.load p.2.load in
    let note = one-note file p.0 q.1 p.1 (subst (λ n. HasNoteHeader file n q.1) size q.2.headers) p.2 in
    p.3 (q.2.ends ∙ ap (λ n. 116 + n + q.1) size ∙ ap (λ n. 116 + p.0 + n) note)
beyond file fault.E7 p q = p.3 q.2 (subst (λ n. HasNote file n q.2) (one-size file q.0 p.0 q.1 p.1 q.3 p.2) q.4)
beyond file fault.E8 p q =
    let frame = framed-of file q.0 q.1 in
    let size = one-size file (length q.0.memory) p.0 (note_of q.0) p.1 frame p.3 in
    let d = same-noted file (length q.0.memory) p.0 (note_of q.0) p.1 (described_of q.0) p.2 frame p.3 (noted-of file q.0 q.1) p.4 in
    p.5 q.0.marks (subst (λ x. AreRight p.0 x q.0.marks) d (subst (λ n. AreRight n (described_of q.0) q.0.marks) size (right-of file q.0 q.1)))

-- the faults in their order
abbrev all_faults : List ElfFault
all_faults = fault.E1 ∷ fault.E2 ∷ fault.E3 ∷ fault.E4 ∷ fault.E5 ∷ fault.E6 ∷ fault.E7 ∷ fault.E8 ∷ []

numbered : (f : ElfFault) → get_or all_faults (number f) fault.E1 ≡ f
numbered fault.E1 = refl
numbered fault.E2 = refl
numbered fault.E3 = refl
numbered fault.E4 = refl
numbered fault.E5 = refl
numbered fault.E6 = refl
numbered fault.E7 = refl
numbered fault.E8 = refl

number-few : (f : ElfFault) → number f ≤ 7
number-few fault.E1 = omega arith
number-few fault.E2 = omega arith
number-few fault.E3 = omega arith
number-few fault.E4 = omega arith
number-few fault.E5 = omega arith
number-few fault.E6 = omega arith
number-few fault.E7 = omega arith
number-few fault.E8 = omega arith

not-lower : (file : List ℕ) (one other : ElfFault) → IsFirstElfFault one file → IsFirstElfFault other file → number one < number other → ⊥
not-lower file one other p q lower = beyond file one p (descend file (number other) (suc (number one)) (omega (arith, lower)) (before file other q))

pub fault_is_one : FaultIsOne
fault_is_one file one other p q = by (cases_lt (number one) (number other)) (cases_lt (number other) (number one))
  where
    by : (number one < number other) ⊎ (number other ≤ number one) → (number other < number one) ⊎ (number one ≤ number other) → one ≡ other
    by (inl lower) r = absurd (not-lower file one other p q lower)
    by (inr a) (inl lower) = absurd (not-lower file other one q p lower)
    by (inr a) (inr b) =
        let same : number one ≡ number other = omega (arith, a, b) in
        sym (numbered one) ∙ ap (λ n. get_or all_faults n fault.E1) same ∙ numbered other

pub none_is_both : NoneIsBoth
none_is_both file image f is bad =
    let few = number-few f in
    beyond file f bad (descend file (suc (suc (suc (suc (suc (suc (suc (suc zero)))))))) (suc (number f)) (omega (arith, few)) (image, is))

-- ---- what a reader may say

pub only_memory : (f : FileError ElfFault) (file : List ℕ) (image : Image) → ElfText file image → IsElfErrorOf f file → f ≡ failure.Memory
only_memory (failure.Fault f) file image is bad = absurd (none_is_both file image f is bad)
only_memory failure.Memory file image is bad = refl

pub this_or_memory : (f : FileError ElfFault) (file : List ℕ) (one : ElfFault) → IsFirstElfFault one file → IsElfErrorOf f file → (f ≡ failure.Fault one) ⊎ (f ≡ failure.Memory)
this_or_memory (failure.Fault f) file one bad told = inl (ap (λ x. failure.Fault x) (fault_is_one file f one told bad))
this_or_memory failure.Memory file one bad told = inr refl
