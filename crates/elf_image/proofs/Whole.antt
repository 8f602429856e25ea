-- A file that is right in its parts is an image's ELF file, and an image's ELF file is right in its parts.
use Rattle.std.proofs.Common.{◌≡◌, ◌≤◌, ◌+◌, ◌-◌, ◌*◌, ◌%◌, ℕ, List, [], ◌∷◌, ◌++◌, length, take, drop, refl, sym, ◌∙◌, ap, subst, arith, All}
use Rattle.std.specs.List.{flat_map, AllByRecursion}
use Rattle.std.proofs.lemmas.List.Elements.{recursion_from_All}
use Rattle.std.proofs.Math.Seq.{take-append_seam, drop-append_seam}
use Rattle.std.proofs.lemmas.List.{take-append-drop, drop-drop, length-append, length-drop, length-take-le}
use Rattle.sloth_base.specs.ImageRange.{InFormat, IsName, IsMark, service_limit}
use Rattle.sloth_base.specs.declared.image.Image.{Image}
use Rattle.sloth_base.specs.declared.image.Mark.{Mark}
use Rattle.sloth_base.specs.MemoryMap.{memory_bytes}
use Rattle.image_file.specs.Fields.{four_bytes, two_bytes}
use Rattle.image_file.specs.ImageText.{mark_bytes, name_bytes}
use Rattle.image_file.proofs.RightParts.{length-marks}
use Rattle.elf_image.specs.ElfText.{ElfText, elf_header, load_header, note_header, note_bytes, file_bytes, description_bytes}
use Rattle.elf_image.specs.Faults.{AreRight, Description, HasNote, IsFramed, IsNoteSize, IsWithin, described_bytes}
use Rattle.elf_image.proofs.Notes.{length-note, length-padding}

-- ---- the lengths of descriptions

names-short : (names : List (List ℕ)) → AllByRecursion IsName names → length (flat_map name_bytes names) ≤ length names * 65
names-short [] h = omega arith
names-short (name ∷ rest) h =
    let e = length-append (name_bytes name) (flat_map name_bytes rest) in
    let more = names-short rest h.1 in
    let short = h.0.short in
    omega (arith, e, more, short)

pub names-length : (names : List (List ℕ)) → All IsName names → length (flat_map name_bytes names) ≤ length names * 65
names-length names h = names-short names (recursion_from_All IsName names h)

-- numbers, names and marks within the limits
pub described-short : (d : Description) → IsWithin d → All IsName d.tasks → All IsName d.funcs → All IsName d.counters → length (described_bytes d) ≤ 300000
unfolding four_bytes
described-short d w t f c =
    let a = names-length d.tasks t in
    let b = names-length d.funcs f in
    let u = names-length d.counters c in
    let few = w.few_tasks in
    let functions = w.few_functions in
    let counters = w.few_counters in
    let marks = w.few_marks in
    let twelve = w.twelve_each in
    let e = length-append (flat_map name_bytes d.tasks) (flat_map name_bytes d.funcs ++ (flat_map name_bytes d.counters ++ d.marks)) in
    let g = length-append (flat_map name_bytes d.funcs) (flat_map name_bytes d.counters ++ d.marks) in
    let h = length-append (flat_map name_bytes d.counters) d.marks in
    omega (arith, a, b, u, few, functions, counters, marks, twelve, e, g, h)

described-long : (d : Description) → 16 ≤ length (described_bytes d)
unfolding four_bytes
described-long d = omega arith

-- ---- from the parts to the file

abbrev pub described_of : Image → Description
described_of image = record {
  tasks = image.tasks;
  funcs = image.funcs;
  counters = image.counters;
  count = length image.marks;
  marks = flat_map mark_bytes image.marks;
}

-- the image of a memory, a description and marks
abbrev pub image_of : List ℕ → Description → List Mark → Image
image_of memory d marks = record { tasks = d.tasks; funcs = d.funcs; counters = d.counters; memory = memory; marks = marks }

-- the memory of a file
abbrev pub memory_in : List ℕ → ℕ → List ℕ
memory_in file size = take size (drop 116 file)

pub memory-size : (file : List ℕ) (size note : ℕ) → IsFramed file size note → length (memory_in file size) ≡ size
memory-size file size note h =
    let ends = h.ends in length-take-le size (drop 116 file) (let e = length-drop 116 file in omega (arith, e, ends))

pub note-length : (file : List ℕ) (size note : ℕ) → IsFramed file size note → length (drop (116 + size) file) ≡ note
note-length file size note h = let ends = h.ends in let e = length-drop (116 + size) file in omega (arith, e, ends)

file-is : (file : List ℕ) (size note : ℕ) → IsFramed file size note
    → file ≡ elf_header ++ (load_header size ++ (note_header size note ++ (memory_in file size ++ drop (116 + size) file)))
file-is file size note h =
    let memory : drop 116 file ≡ memory_in file size ++ drop (116 + size) file =
    sym (take-append-drop size (drop 116 file)) ∙ ap (λ x. memory_in file size ++ x) (drop-drop size 116 file) in
    let second : drop 84 file ≡ note_header size note ++ drop 116 file =
    sym (take-append-drop 32 (drop 84 file)) ∙ ap (λ x. x ++ drop 32 (drop 84 file)) h.headers.header ∙ ap (λ x. note_header size note ++ x) (drop-drop 32 84 file) in
    let first : drop 52 file ≡ load_header size ++ drop 84 file =
    sym (take-append-drop 32 (drop 52 file)) ∙ ap (λ x. x ++ drop 32 (drop 52 file)) h.headers.load.header ∙ ap (λ x. load_header size ++ x) (drop-drop 32 52 file) in
    sym (take-append-drop 52 file) ∙ ap (λ x. x ++ drop 52 file) h.headers.load.elf.header
    ∙ ap (λ x. elf_header ++ x) (first ∙ ap (λ x. load_header size ++ x) (second ∙ ap (λ x. note_header size note ++ x) memory))

pub is-elf : (file : List ℕ) (size note : ℕ) (d : Description) (marks : List Mark) → IsFramed file size note → HasNote file size d → AreRight size d marks
    → ElfText file (image_of (memory_in file size) d marks)
is-elf file size note d marks h has right =
    let w = has.within in
    let count = right.counted in
    let few = w.few_marks in
    let m = memory-size file size note h in
    let memory : size ≡ length (memory_in file size) = sym m in
    let names : List ℕ → List ℕ = λ x. flat_map name_bytes d.tasks ++ (flat_map name_bytes d.funcs ++ (flat_map name_bytes d.counters ++ x)) in
    let is : described_bytes d ≡ description_bytes (image_of (memory_in file size) d marks) =
    ap (λ x. flat_map four_bytes (length d.tasks ∷ length d.funcs ∷ length d.counters ∷ d.count ∷ []) ++ names x) right.written
    ∙ ap (λ n. flat_map four_bytes (length d.tasks ∷ length d.funcs ∷ length d.counters ∷ n ∷ []) ++ names (flat_map mark_bytes marks)) (sym count) in
    let noted : drop (116 + size) file ≡ note_bytes (description_bytes (image_of (memory_in file size) d marks)) = has.are ∙ ap note_bytes is in
    let n : note ≡ length (note_bytes (description_bytes (image_of (memory_in file size) d marks))) = sym (note-length file size note h) ∙ ap (λ x. length x) noted in
    let F : ℕ → ℕ → List ℕ → List ℕ = λ s k x. elf_header ++ (load_header s ++ (note_header s k ++ (memory_in file size ++ x))) in
    record {
      in_format = record {
        few_tasks = w.few_tasks;
        few_functions = w.few_functions;
        few_counters = w.few_counters;
        tasks = right.names.of_tasks;
        functions = right.names.of_functions;
        counters = right.names.of_counters;
        counters_apart = right.names.apart;
        memory_fits = subst (λ x. x ≤ memory_bytes) memory h.headers.load.memory.fits;
        whole_words = ap (λ x. x % 4) m ∙ h.headers.load.memory.whole_words;
        few_marks = omega (arith, count, few);
        marks = subst (λ x. All (IsMark (service_limit (length d.counters)) (length d.funcs) x) marks) memory right.each;
        ascending = right.ascending;
      };
      written = file-is file size note h ∙ ap (F size note) noted
          ∙ ap (λ k. F size k (note_bytes (description_bytes (image_of (memory_in file size) d marks)))) n
          ∙ ap (λ s. F s (length (note_bytes (description_bytes (image_of (memory_in file size) d marks)))) (note_bytes (description_bytes (image_of (memory_in file size) d marks)))) memory;
    }

-- ---- from the file to its parts

within-format : (image : Image) → InFormat image → IsWithin (described_of image)
within-format image r =
    record {
      few_tasks = r.few_tasks;
      few_functions = r.few_functions;
      few_counters = r.few_counters;
      few_marks = r.few_marks;
      twelve_each = length-marks image.marks;
    }

pub description-short : (image : Image) → InFormat image → length (description_bytes image) ≤ 300000
description-short image r = described-short (described_of image) (within-format image r) r.tasks.each r.functions.each r.counters.each

pub within-of : (file : List ℕ) (image : Image) → ElfText file image → IsWithin (described_of image)
within-of file image h = within-format image h.in_format

pub right-of : (file : List ℕ) (image : Image) → ElfText file image → AreRight (length image.memory) (described_of image) image.marks
right-of file image h =
    let r = h.in_format in
    record {
      names = record { of_tasks = r.tasks; of_functions = r.functions; of_counters = r.counters; apart = r.counters_apart };
      counted = refl;
      written = refl;
      each = r.marks;
      ascending = r.ascending;
    }

-- the length of an image's note
abbrev pub note_of : Image → ℕ
note_of image = length (note_bytes (description_bytes image))

padded : (n : ℕ) → (n + (4 - n % 4) % 4) % 4 ≡ 0
padded n = omega arith

note-size : (file : List ℕ) (image : Image) → ElfText file image → IsNoteSize (note_of image)
note-size file image h =
    let long = described-long (described_of image) in
    let short = description-short image h.in_format in
    let e = length-note (description_bytes image) in
    let p = length-padding (length (description_bytes image)) in
    let whole = padded (length (description_bytes image)) in
    record { word = omega (arith, e, p, short); long = omega (arith, e, long); whole_words = omega (arith, e, p, whole) }

length-elf_header : length elf_header ≡ 52
unfolding elf_header four_bytes two_bytes
length-elf_header = refl

length-load_header : (size : ℕ) → length (load_header size) ≡ 32
unfolding four_bytes
length-load_header size = refl

length-note_header : (size note : ℕ) → length (note_header size note) ≡ 32
unfolding four_bytes
length-note_header size note = refl

file-length : (memory d : List ℕ) → length (file_bytes memory d) ≡ 116 + (length memory + length (note_bytes d))
file-length memory d =
    let a = length-append memory (note_bytes d) in
    let b = length-append (note_header (length memory) (length (note_bytes d))) (memory ++ note_bytes d) in
    let c = length-append (load_header (length memory)) (note_header (length memory) (length (note_bytes d)) ++ (memory ++ note_bytes d)) in
    let e = length-append elf_header (load_header (length memory) ++ (note_header (length memory) (length (note_bytes d)) ++ (memory ++ note_bytes d))) in
    let h = length-elf_header in
    let l = length-load_header (length memory) in
    let k = length-note_header (length memory) (length (note_bytes d)) in
    omega (arith, a, b, c, e, h, l, k)

file-whole : (file : List ℕ) (image : Image) → ElfText file image → length file ≡ 116 + (length image.memory + note_of image)
file-whole file image h = ap (λ x. length x) h.written ∙ file-length image.memory (description_bytes image)

pub framed-of : (file : List ℕ) (image : Image) → ElfText file image → IsFramed file (length image.memory) (note_of image)
unfolding elf_header four_bytes two_bytes
framed-of file image h =
    let whole : length file ≡ 116 + (length image.memory + note_of image) = file-whole file image h in
    record {
      headers = record {
        load = record {
          elf = record { long = omega (arith, whole); header = ap (λ x. take 52 x) h.written };
          memory = record { fits = h.in_format.memory_fits; whole_words = h.in_format.whole_words };
          header = ap (λ x. take 32 (drop 52 x)) h.written;
        };
        note_size = note-size file image h;
        header = ap (λ x. take 32 (drop 84 x)) h.written;
      };
      ends = omega (arith, whole);
    }

memory-and-note : (file : List ℕ) (image : Image) → ElfText file image → drop 116 file ≡ image.memory ++ note_bytes (description_bytes image)
unfolding elf_header four_bytes two_bytes
memory-and-note file image h = ap (λ x. drop 116 x) h.written

pub memory-of : (file : List ℕ) (image : Image) → ElfText file image → memory_in file (length image.memory) ≡ image.memory
memory-of file image h =
    ap (λ x. take (length image.memory) x) (memory-and-note file image h) ∙ take-append_seam image.memory (note_bytes (description_bytes image))

pub noted-of : (file : List ℕ) (image : Image) → ElfText file image → HasNote file (length image.memory) (described_of image)
noted-of file image h = record {
  within = within-of file image h;
  are = sym (drop-drop (length image.memory) 116 file) ∙ ap (λ x. drop (length image.memory) x) (memory-and-note file image h)
      ∙ drop-append_seam image.memory (note_bytes (description_bytes image));
}
