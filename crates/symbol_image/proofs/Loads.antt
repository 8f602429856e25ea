-- Each byte of the memory is loaded once, and nothing else is; sections and segments agree.
use Rattle.std.proofs.Common.{◌≡◌, ◌<◌, ◌≤◌, ◌+◌, ◌-◌, ◌%◌, ◌^◌, ◌*◌, ◌∙◌, ◌⊎◌, inl, inr, ℕ, zero, suc, List, [], ◌∷◌, ◌++◌, length, get_or, take, drop, codes, refl, sym, ap, subst, arith, append_assoc}
use Rattle.std.proofs.lemmas.Bool.{cases_lt}
use Rattle.std.proofs.Math.Seq.{take-add}
use Rattle.std.proofs.lemmas.List.{append-nil, drop-drop, drop_at, get_or-drop, get_or_append_left, length-append, length-drop, length-take-le, take-append-drop, take_all}
use Rattle.symbol_image.specs.Fields.{text_bytes}
use Rattle.elf_image.specs.ElfText.{padding}
use Rattle.image_file.proofs.Unique.{four}
use Rattle.image_file.specs.Fields.{four_bytes, two_bytes}
use Rattle.sloth_base.specs.MemoryMap.{memory_base, memory_bytes, vectors_base}
use Rattle.symbol_image.specs.FileParts.{FileParts, MayShow}
use Rattle.symbol_image.specs.Headers.{elf_header, place_of, segment_headers}
use Rattle.symbol_image.specs.Layout.{Laid, Section, all_laid, front, laid_with, none_laid, padded, section_header, strings, whole, with_names}
use Rattle.symbol_image.specs.Loading.{IsLoad, Load, LoadedOnce, Loads, MemoryIsLoaded, NothingElseIsLoaded}
use Rattle.symbol_image.specs.Sections.{IsSection, SectionsAgree, section_flags}
use Rattle.symbol_image.specs.SymbolFile.{debugging_sections, laid_parts, loaded, memory_between, parts_borders, rows_of, stack_section, symbol_file, table_sections}
use Rattle.symbol_image.specs.Symbols.{locals_of, all_symbols}
use Rattle.map_text.specs.declared.piece_starts.Borders.{Borders}

-- ---- headers

-- what a program header says of a segment
abbrev load_of : (from to : ℕ) → Load
load_of from to = record { place = place_of from; address = from; bytes = to - from }

module _ (at : ℕ) (b : Borders) (rest : List ℕ) where
  abbrev file : List ℕ
  file = elf_header at ++ (segment_headers b ++ rest)

  behind : drop 148 file ≡ rest
  unfolding four_bytes two_bytes
  behind = refl

  headers-at : take 4 (drop 32 file) ≡ four_bytes at
  unfolding four_bytes two_bytes
  headers-at = refl

  words_load : IsLoad file 0 (load_of memory_base vectors_base)
  unfolding four_bytes two_bytes
  words_load = record { kind = refl; place = refl; address = refl; bytes = refl }

  code_load : IsLoad file 1 (load_of vectors_base b.code_end)
  unfolding four_bytes two_bytes
  code_load = record { kind = refl; place = refl; address = refl; bytes = refl }

  data_load : IsLoad file 2 (load_of b.code_end b.end)
  unfolding four_bytes two_bytes
  data_load = record { kind = refl; place = refl; address = refl; bytes = refl }

-- ---- the memory begins the sections

-- it is laid behind what is there
grows : (laid : Laid) (s : Section) → (more : List ℕ) × ((laid_with laid s).contents ≡ laid.contents ++ more)
unfolding laid_with
grows laid s = (padding (length laid.contents) ++ s.contents, append_assoc laid.contents (padding (length laid.contents)) s.contents)

grows_all : (laid : Laid) (sections : List Section) → (more : List ℕ) × ((all_laid laid sections).contents ≡ laid.contents ++ more)
grows_all laid [] = ([], sym (append-nil laid.contents))
grows_all laid (s ∷ sections) =
    let one = grows laid s in
    let rest = grows_all (laid_with laid s) sections in
    (one.0 ++ rest.0, rest.1 ∙ ap (λ l. l ++ rest.0) one.1 ∙ append_assoc laid.contents one.0 rest.0)

-- ---- the headers of the sections

-- one is put behind those that are there
heads : (laid : Laid) (s : Section) → (more : List ℕ) × ((laid_with laid s).headers ≡ laid.headers ++ more)
unfolding laid_with
heads laid s = (section_header (length laid.names) (front + length (whole laid.contents)) s, refl)

heads_all : (laid : Laid) (sections : List Section) → (more : List ℕ) × ((all_laid laid sections).headers ≡ laid.headers ++ more)
heads_all laid [] = ([], sym (append-nil laid.headers))
heads_all laid (s ∷ sections) =
    let one = heads laid s in
    let rest = heads_all (laid_with laid s) sections in
    (one.0 ++ rest.0, rest.1 ∙ ap (λ l. l ++ rest.0) one.1 ∙ append_assoc laid.headers one.0 rest.0)

-- the header at a place of these: the flags, the address, the place of the bytes, and how many they are
record HasHeader (headers : List ℕ) (at flags address place bytes : ℕ) : Type 0 where
  flags_are : take 4 (drop (at + 8) headers) ≡ four_bytes flags
  address_is : take 4 (drop (at + 12) headers) ≡ four_bytes address
  place_is : take 4 (drop (at + 16) headers) ≡ four_bytes place
  bytes_are : take 4 (drop (at + 20) headers) ≡ four_bytes bytes

-- the same by other terms for place and number
same-header : (headers : List ℕ) (at flags address place bytes there long : ℕ) → place ≡ there → bytes ≡ long
    → HasHeader headers at flags address place bytes → HasHeader headers at flags address there long
same-header headers at flags address place bytes there long p b h = record {
  flags_are = h.flags_are;
  address_is = h.address_is;
  place_is = h.place_is ∙ ap four_bytes p;
  bytes_are = h.bytes_are ∙ ap four_bytes b;
}

-- those of three sections, behind the header of zeros
module _ (n p m q k r : ℕ) (one two third : Section) (more : List ℕ) where
  abbrev three-heads : List ℕ
  three-heads = (((none_laid.headers ++ section_header n p one) ++ section_header m q two) ++ section_header k r third) ++ more

  one-header : HasHeader three-heads 40 one.flags one.address p one.size
  unfolding four_bytes
  one-header = record { flags_are = refl; address_is = refl; place_is = refl; bytes_are = refl }

  two-header : HasHeader three-heads 80 two.flags two.address q two.size
  unfolding four_bytes
  two-header = record { flags_are = refl; address_is = refl; place_is = refl; bytes_are = refl }

  third-header : HasHeader three-heads 120 third.flags third.address r third.size
  unfolding four_bytes
  third-header = record { flags_are = refl; address_is = refl; place_is = refl; bytes_are = refl }

module _ (memory : List ℕ) (b : Borders) where
  -- words, code and data, and what is laid out with each of them
  abbrev words_section : Section
  words_section = loaded (codes ".words") 3 memory memory_base vectors_base

  abbrev code_section : Section
  code_section = loaded (codes ".text") 6 memory vectors_base b.code_end

  abbrev data_section : Section
  data_section = loaded (codes ".data") 3 memory b.code_end b.end

  abbrev words_laid : Laid
  words_laid = laid_with none_laid words_section

  abbrev code_laid : Laid
  code_laid = laid_with words_laid code_section

  abbrev data_laid : Laid
  data_laid = laid_with code_laid data_section

  -- the headers of these three, and what stands behind them
  abbrev those : (more : List ℕ) → List ℕ
  those more =
      three-heads (length none_laid.names) (front + length (whole none_laid.contents)) (length words_laid.names) (front + length (whole words_laid.contents))
      (length code_laid.names) (front + length (whole code_laid.contents)) words_section code_section data_section more

  those-are : (more : List ℕ) → data_laid.headers ++ more ≡ those more
  unfolding laid_with
  those-are more = refl

  words-said : (more : List ℕ)
      → HasHeader (those more) 40 3 memory_base (front + length (whole none_laid.contents)) (length (memory_between memory memory_base vectors_base))
  words-said more =
      one-header (length none_laid.names) (front + length (whole none_laid.contents)) (length words_laid.names) (front + length (whole words_laid.contents))
      (length code_laid.names) (front + length (whole code_laid.contents)) words_section code_section data_section more

  code-said : (more : List ℕ)
      → HasHeader (those more) 80 6 vectors_base (front + length (whole words_laid.contents)) (length (memory_between memory vectors_base b.code_end))
  code-said more =
      two-header (length none_laid.names) (front + length (whole none_laid.contents)) (length words_laid.names) (front + length (whole words_laid.contents))
      (length code_laid.names) (front + length (whole code_laid.contents)) words_section code_section data_section more

  data-said : (more : List ℕ)
      → HasHeader (those more) 120 3 b.code_end (front + length (whole code_laid.contents)) (length (memory_between memory b.code_end b.end))
  data-said more =
      third-header (length none_laid.names) (front + length (whole none_laid.contents)) (length words_laid.names) (front + length (whole words_laid.contents))
      (length code_laid.names) (front + length (whole code_laid.contents)) words_section code_section data_section more

  all-heads : (sections : List Section)
      → (more : List ℕ) × ((padded (with_names (all_laid none_laid (words_section ∷ code_section ∷ data_section ∷ sections)))).headers
      ≡ data_laid.headers ++ more)
  all-heads sections =
      let rest = heads_all data_laid sections in
      let laid = all_laid data_laid sections in
      let named = heads laid (strings (codes ".shstrtab") (laid.names ++ text_bytes (codes ".shstrtab"))) in
      (rest.0 ++ named.0, named.1 ∙ ap (λ l. l ++ named.0) rest.1 ∙ append_assoc data_laid.headers rest.0 named.0)

-- ---- where the bytes of the sections stand

-- nothing stands behind a multiple of 4
no-padding : (bytes : List ℕ) → length bytes % 4 ≡ 0 → whole bytes ≡ bytes
no-padding bytes even =
    let none : (4 - length bytes % 4) % 4 ≡ 0 = omega (arith, even) in
    ap (λ n. bytes ++ take n (0 ∷ 0 ∷ 0 ∷ [])) none ∙ append-nil bytes

-- three parts side by side, each but the last a multiple of 4 long
three : (w t d : List ℕ) → length w % 4 ≡ 0 → length (w ++ t) % 4 ≡ 0 → whole (whole (whole [] ++ w) ++ t) ++ d ≡ (w ++ t) ++ d
three w t d a b =
    let one : whole (whole [] ++ w) ≡ w = no-padding w a in
    ap (λ l. whole (l ++ t) ++ d) one ∙ ap (λ l. l ++ d) (no-padding (w ++ t) b)

module _ (memory : List ℕ) (b : Borders) (text : vectors_base ≤ b.code_end) (data_behind : b.code_end ≤ b.end) (end : b.end ≡ memory_base + length memory)
    (even : b.code_end % 4 ≡ 0) where
  abbrev words : List ℕ
  words = memory_between memory memory_base vectors_base

  abbrev code : List ℕ
  code = memory_between memory vectors_base b.code_end

  abbrev data_bytes : List ℕ
  data_bytes = memory_between memory b.code_end b.end

  words-are : words ≡ take 1024 memory
  words-are = refl

  code-are : words ++ code ≡ take (b.code_end - memory_base) memory
  code-are =
      let sum : b.code_end - memory_base ≡ 1024 + (b.code_end - vectors_base) = omega (arith, text) in
      sym (ap (λ n. take n memory) sum ∙ take-add 1024 (b.code_end - vectors_base) memory)

  all-are : (words ++ code) ++ data_bytes ≡ memory
  all-are =
      let n = b.code_end - memory_base in
      let left : take (b.end - b.code_end) (drop n memory) ≡ drop n memory =
      take_all (b.end - b.code_end) (drop n memory) (let l = length-drop n memory in omega (arith, l, end, text)) in
      ap (λ l. l ++ data_bytes) code-are ∙ ap (λ l. take n memory ++ l) left ∙ take-append-drop n memory

  front-length : length (words ++ code) ≡ b.code_end - memory_base
  front-length =
      ap (λ (l : List ℕ). length l) code-are
      ∙ length-take-le (b.code_end - memory_base) memory (omega (arith, end, text, data_behind))

  words-length : length words ≡ 1024
  words-length = length-take-le 1024 memory (omega (arith, end, text, data_behind))

  -- words, code and data, laid out, are the memory
  begins : (laid_with (laid_with (laid_with none_laid (loaded (codes ".words") 3 memory memory_base vectors_base))
      (loaded (codes ".text") 6 memory vectors_base b.code_end)) (loaded (codes ".data") 3 memory b.code_end b.end)).contents ≡ memory
  unfolding laid_with
  begins =
      three words code data_bytes (let l = words-length in omega (arith, l)) (let l = front-length in omega (arith, l, even, text))
      ∙ all-are

  all-begin : (sections : List Section)
      → (more : List ℕ) × ((padded (with_names (all_laid none_laid (loaded (codes ".words") 3 memory memory_base vectors_base
      ∷ loaded (codes ".text") 6 memory vectors_base b.code_end ∷ loaded (codes ".data") 3 memory b.code_end b.end ∷ sections)))).contents ≡ memory ++ more)
  all-begin sections =
      let three_laid = laid_with (laid_with (laid_with none_laid (loaded (codes ".words") 3 memory memory_base vectors_base))
      (loaded (codes ".text") 6 memory vectors_base b.code_end)) (loaded (codes ".data") 3 memory b.code_end b.end) in
      let rest = grows_all three_laid sections in
      let laid = all_laid three_laid sections in
      let named = grows laid (strings (codes ".shstrtab") (laid.names ++ text_bytes (codes ".shstrtab"))) in
      let zeros = padding (length (with_names laid).contents) in (
        (rest.0 ++ named.0) ++ zeros,
        ap (λ l. l ++ zeros) (named.1 ∙ ap (λ l. l ++ named.0) (rest.1 ∙ ap (λ l. l ++ rest.0) begins) ∙ append_assoc memory rest.0 named.0)
            ∙ append_assoc memory (rest.0 ++ named.0) zeros,
      )

  code-length : length code ≡ b.code_end - vectors_base
  code-length =
      let l = length-append words code in let w = words-length in let f = front-length in
      omega (arith, l, w, f, text)

  data-length : length data_bytes ≡ b.end - b.code_end
  data-length =
      let a = ap (λ (l : List ℕ). length l) all-are in
      let l = length-append (words ++ code) data_bytes in
      let f = front-length in
      omega (arith, a, l, f, end, text, data_behind)

  -- so each begins where the one before it ends
  words-whole : whole (words_laid memory b).contents ≡ words
  unfolding laid_with
  words-whole = no-padding words (let l = words-length in omega (arith, l))

  code-whole : whole (code_laid memory b).contents ≡ words ++ code
  unfolding laid_with
  code-whole = ap (λ l. whole (l ++ code)) words-whole ∙ no-padding (words ++ code) (let l = front-length in omega (arith, l, even, text))

  -- and has the bytes of a segment
  words-header : (more : List ℕ) → HasHeader ((data_laid memory b).headers ++ more) 40 3 memory_base (place_of memory_base) (vectors_base - memory_base)
  words-header more =
      let place : front + length (whole none_laid.contents) ≡ place_of memory_base = refl in
      subst (λ (h : List ℕ). HasHeader h 40 3 memory_base (place_of memory_base) (vectors_base - memory_base)) (sym (those-are memory b more))
      (same-header (those memory b more) 40 3 memory_base (front + length (whole none_laid.contents)) (length words) (place_of memory_base) (vectors_base - memory_base) place words-length
      (words-said memory b more))

  code-header : (more : List ℕ) → HasHeader ((data_laid memory b).headers ++ more) 80 6 vectors_base (place_of vectors_base) (b.code_end - vectors_base)
  code-header more =
      let place : front + length (whole (words_laid memory b).contents) ≡ place_of vectors_base = (let a = ap (λ (l : List ℕ). length l) words-whole in let l = words-length in omega (arith, a, l)) in
      subst (λ (h : List ℕ). HasHeader h 80 6 vectors_base (place_of vectors_base) (b.code_end - vectors_base)) (sym (those-are memory b more))
      (same-header (those memory b more) 80 6 vectors_base (front + length (whole (words_laid memory b).contents)) (length code) (place_of vectors_base) (b.code_end - vectors_base) place code-length
      (code-said memory b more))

  data-header : (more : List ℕ) → HasHeader ((data_laid memory b).headers ++ more) 120 3 b.code_end (place_of b.code_end) (b.end - b.code_end)
  data-header more =
      let place : front + length (whole (code_laid memory b).contents) ≡ place_of b.code_end = (let a = ap (λ (l : List ℕ). length l) code-whole in let l = front-length in omega (arith, a, l)) in
      subst (λ (h : List ℕ). HasHeader h 120 3 b.code_end (place_of b.code_end) (b.end - b.code_end)) (sym (those-are memory b more))
      (same-header (those memory b more) 120 3 b.code_end (front + length (whole (code_laid memory b).contents)) (length data_bytes) (place_of b.code_end) (b.end - b.code_end) place data-length
      (data-said memory b more))

-- ---- what is loaded

-- one number in four bytes
one-number : (m n : ℕ) → m < 2 ^ 32 → n < 2 ^ 32 → four_bytes m ≡ four_bytes n → m ≡ n
one-number m n hm hn e = (four m n [] [] hm hn (ap (λ l. l ++ []) e)).0

module _ (parts : FileParts) (may : MayShow parts) where
  abbrev b : Borders
  b = parts_borders parts

  abbrev memory : List ℕ
  memory = parts.memory

  text : vectors_base ≤ b.code_end
  text = may.borders.behind_words

  data_behind : b.code_end ≤ b.end
  data_behind = let e = may.borders.ends in omega (arith, e)

  fits : length memory ≤ memory_bytes
  fits = may.borders.fits

  abbrev laid : Laid
  laid = laid_parts parts b (rows_of parts)

  begun : (more : List ℕ) × (laid.contents ≡ memory ++ more)
  begun =
      all-begin memory b text data_behind refl may.borders.even
      (stack_section b ∷ (debugging_sections parts b.code_end (rows_of parts)
      ++ table_sections b (all_symbols parts.config parts.app (rows_of parts)) (length (locals_of parts.config (rows_of parts)))))

  abbrev rest : List ℕ
  rest = laid.contents ++ laid.headers

  abbrev whole_file : List ℕ
  whole_file = elf_header (148 + length laid.contents) ++ (segment_headers b ++ rest)

  file-is : symbol_file parts ≡ whole_file
  unfolding symbol_file
  file-is = refl

  byte-there : (i : ℕ) → i < length memory → get_or whole_file (148 + i) 0 ≡ get_or memory i 0
  byte-there i h =
      let long = ap (λ (l : List ℕ). length l) begun.1 ∙ length-append memory begun.0 in
      sym (get_or-drop 148 whole_file i 0)
      ∙ ap (λ l. get_or l i 0) (behind (148 + length laid.contents) b rest)
      ∙ get_or_append_left laid.contents laid.headers 0 i (omega (arith, h, long))
      ∙ ap (λ l. get_or l i 0) begun.1
      ∙ get_or_append_left memory begun.0 0 i h

  -- a byte is loaded by the segment that has its address
  loads : (number from to i : ℕ) → number < 3 → IsLoad whole_file number (load_of from to) → memory_base ≤ from → to ≤ memory_base + length memory
      → from ≤ memory_base + i → memory_base + i < to → Loads whole_file number (memory_base + i) (get_or memory i 0)
  loads number from to i few is above within low high = record {
    load = load_of from to;
    few = few;
    is = is;
    small = (let f = fits in (omega (arith, f, within, above, low, high), omega (arith, f, within, low, high), omega (arith, f, within, above, low, high)));
    above = low;
    below = omega (arith, low, high);
    there =
        let place : place_of from + (memory_base + i - from) ≡ 148 + i = omega (arith, above, low) in
        ap (λ n. get_or whole_file n 0) place ∙ byte-there i (omega (arith, within, high));
  }

  in-code-or-data : (i : ℕ) → i < length memory → 1024 ≤ i → (memory_base + i < b.code_end) ⊎ (b.code_end ≤ memory_base + i)
      → (number : ℕ) × Loads whole_file number (memory_base + i) (get_or memory i 0)
  in-code-or-data i h high (inl inside) = (
    1,
    loads 1 vectors_base b.code_end i (omega arith) (code_load (148 + length laid.contents) b rest) (omega arith) (let d = data_behind in let e = may.borders.ends in omega (arith, d, e))
        (omega (arith, high)) inside,
  )
  in-code-or-data i h high (inr above) = (
    2,
    loads 2 b.code_end b.end i (omega arith) (data_load (148 + length laid.contents) b rest) (let t = text in omega (arith, t)) (omega arith) above (omega (arith, h)),
  )

  loaded-by : (i : ℕ) → i < length memory → (i < 1024) ⊎ (1024 ≤ i) → (number : ℕ) × Loads whole_file number (memory_base + i) (get_or memory i 0)
  loaded-by i h (inl low) = (
    0,
    loads 0 memory_base vectors_base i (omega arith) (words_load (148 + length laid.contents) b rest) (omega arith) (let t = text in let d = data_behind in omega (arith, t, d))
        (omega arith) (omega (arith, low)),
  )
  loaded-by i h (inr high) = in-code-or-data i h high (cases_lt (memory_base + i) b.code_end)

  -- what a header says is a segment's
  said : (number from to : ℕ) (load : Load) → IsLoad whole_file number (load_of from to) → IsLoad whole_file number load
      → (load.address < 2 ^ 32) × (load.bytes < 2 ^ 32) → (from < 2 ^ 32) × (to - from < 2 ^ 32) → (load.address ≡ from) × (load.bytes ≡ to - from)
  said number from to load own is small limits = (
    one-number load.address from small.0 limits.0 (sym is.address ∙ own.address),
    one-number load.bytes (to - from) small.1 limits.1 (sym is.bytes ∙ own.bytes),
  )

  -- so an address that is loaded lies within the segment of this number
  within : (number address byte : ℕ) → Loads whole_file number address byte
      → ((number ≡ 0) × (memory_base ≤ address) × (address < vectors_base))
      ⊎ (((number ≡ 1) × (vectors_base ≤ address) × (address < b.code_end)) ⊎ ((number ≡ 2) × (b.code_end ≤ address) × (address < b.end)))
  within zero address byte l =
      let at = 148 + length laid.contents in
      let s = said 0 memory_base vectors_base l.load (words_load at b rest) l.is (l.small.1, l.small.2) (omega arith, omega arith) in
      let a = s.0 in let n = s.1 in let above = l.above in let below = l.below in
      inl (refl, omega (arith, a, above), omega (arith, a, n, below))
  within (suc zero) address byte l =
      let at = 148 + length laid.contents in
      let f = fits in let d = data_behind in let t = text in
      let s = said 1 vectors_base b.code_end l.load (code_load at b rest) l.is (l.small.1, l.small.2) (omega arith, omega (arith, f, d)) in
      let a = s.0 in let n = s.1 in let above = l.above in let below = l.below in
      inr (inl (refl, omega (arith, a, above), omega (arith, a, n, below, t)))
  within (suc (suc zero)) address byte l =
      let at = 148 + length laid.contents in
      let f = fits in let d = data_behind in
      let s = said 2 b.code_end b.end l.load (data_load at b rest) l.is (l.small.1, l.small.2) (omega (arith, f, d), omega (arith, f)) in
      let a = s.0 in let n = s.1 in let above = l.above in let below = l.below in
      inr (inr (refl, omega (arith, a, above), omega (arith, a, n, below, d)))
  within (suc (suc (suc k))) address byte l = absurd (let few = l.few in omega (arith, few))

  once : (one other address a c : ℕ) → Loads whole_file one address a → Loads whole_file other address c → one ≡ other
  once one other address a c h k =
      let t = text in let d = data_behind in
      by (within one address a h) (within other address c k) t d
    where
      by : ((one ≡ 0) × (memory_base ≤ address) × (address < vectors_base))
          ⊎ (((one ≡ 1) × (vectors_base ≤ address) × (address < b.code_end)) ⊎ ((one ≡ 2) × (b.code_end ≤ address) × (address < b.end)))
          → ((other ≡ 0) × (memory_base ≤ address) × (address < vectors_base))
          ⊎ (((other ≡ 1) × (vectors_base ≤ address) × (address < b.code_end)) ⊎ ((other ≡ 2) × (b.code_end ≤ address) × (address < b.end)))
          → vectors_base ≤ b.code_end → b.code_end ≤ b.end → one ≡ other
      by (inl x) (inl y) t d = x.0 ∙ sym y.0
      by (inl x) (inr (inl y)) t d = absurd (let p = x.2 in let q = y.1 in omega (arith, p, q))
      by (inl x) (inr (inr y)) t d = absurd (let p = x.2 in let q = y.1 in omega (arith, p, q, t))
      by (inr (inl x)) (inl y) t d = absurd (let p = x.1 in let q = y.2 in omega (arith, p, q))
      by (inr (inl x)) (inr (inl y)) t d = x.0 ∙ sym y.0
      by (inr (inl x)) (inr (inr y)) t d = absurd (let p = x.2 in let q = y.1 in omega (arith, p, q))
      by (inr (inr x)) (inl y) t d = absurd (let p = x.1 in let q = y.2 in omega (arith, p, q, t))
      by (inr (inr x)) (inr (inl y)) t d = absurd (let p = x.1 in let q = y.2 in omega (arith, p, q))
      by (inr (inr x)) (inr (inr y)) t d = x.0 ∙ sym y.0

  no-more : (number address byte : ℕ) → Loads whole_file number address byte → (memory_base ≤ address) × (address < memory_base + length memory)
  no-more number address byte l = by (within number address byte l)
    where
      by : ((number ≡ 0) × (memory_base ≤ address) × (address < vectors_base))
          ⊎ (((number ≡ 1) × (vectors_base ≤ address) × (address < b.code_end)) ⊎ ((number ≡ 2) × (b.code_end ≤ address) × (address < b.end)))
          → (memory_base ≤ address) × (address < memory_base + length memory)
      by (inl x) = let p = x.1 in let q = x.2 in let t = text in let d = data_behind in (p, omega (arith, q, t, d))
      by (inr (inl x)) = let p = x.1 in let q = x.2 in let d = data_behind in (omega (arith, p), omega (arith, q, d))
      by (inr (inr x)) = let p = x.1 in let q = x.2 in let t = text in (omega (arith, p, t), omega (arith, q))

  -- the headers of the sections stand behind their bytes
  behind-bytes : (o : ℕ) → drop (148 + length laid.contents + o) whole_file ≡ drop o laid.headers
  behind-bytes o =
      let n = length laid.contents in
      let on : 148 + n + o ≡ 148 + (n + o) = omega arith in
      ap (λ m. drop m whole_file) on
      ∙ sym (drop-drop (n + o) 148 whole_file)
      ∙ ap (drop (n + o)) (behind (148 + n) b rest)
      ∙ sym (drop-drop o n rest)
      ∙ ap (drop o) (drop_at laid.contents laid.headers n refl)

  section-is : (number flags address place bytes : ℕ) → length whole_file < 2 ^ 32 → HasHeader laid.headers (40 * number) flags address place bytes
      → IsSection whole_file number flags address place bytes
  section-is number flags address place bytes few h =
      let n = 148 + length laid.contents in
      let at : (o : ℕ) → drop (n + 40 * number + o) whole_file ≡ drop (40 * number + o) laid.headers =
      λ o. let on : n + 40 * number + o ≡ n + (40 * number + o) = omega arith in ap (λ m. drop m whole_file) on ∙ behind-bytes (40 * number + o) in
      record {
        headers = n;
        few =
            let long = ap (λ (l : List ℕ). length l) (behind n b rest) in
            let d = length-drop 148 whole_file in
            let a = length-append laid.contents laid.headers in
            omega (arith, long, d, a, few);
        headers_at = headers-at n b rest;
        flags_are = ap (take 4) (at 8) ∙ h.flags_are;
        address_is = ap (take 4) (at 12) ∙ h.address_is;
        place_is = ap (take 4) (at 16) ∙ h.place_is;
        bytes_are = ap (take 4) (at 20) ∙ h.bytes_are;
      }

  heads-begun : (more : List ℕ) × (laid.headers ≡ (data_laid memory b).headers ++ more)
  heads-begun =
      all-heads memory b
      (stack_section b ∷ (debugging_sections parts b.code_end (rows_of parts)
      ++ table_sections b (all_symbols parts.config parts.app (rows_of parts)) (length (locals_of parts.config (rows_of parts)))))

  -- a header among the first three
  among : (at flags address place bytes : ℕ) → HasHeader ((data_laid memory b).headers ++ heads-begun.0) at flags address place bytes
      → HasHeader laid.headers at flags address place bytes
  among at flags address place bytes h = subst (λ (l : List ℕ). HasHeader l at flags address place bytes) (sym heads-begun.1) h

  agree : length whole_file < 2 ^ 32 → (segment : ℕ) → segment < 3
      → (load : Load) × IsLoad whole_file segment load
      × IsSection whole_file (segment + 1) (section_flags segment) load.address load.place load.bytes
  agree few zero h = (
    load_of memory_base vectors_base,
    words_load (148 + length laid.contents) b rest,
    section-is 1 3 memory_base (place_of memory_base) (vectors_base - memory_base) few
        (among 40 3 memory_base (place_of memory_base) (vectors_base - memory_base) (words-header memory b text data_behind refl may.borders.even heads-begun.0)),
  )
  agree few (suc zero) h = (
    load_of vectors_base b.code_end,
    code_load (148 + length laid.contents) b rest,
    section-is 2 6 vectors_base (place_of vectors_base) (b.code_end - vectors_base) few
        (among 80 6 vectors_base (place_of vectors_base) (b.code_end - vectors_base) (code-header memory b text data_behind refl may.borders.even heads-begun.0)),
  )
  agree few (suc (suc zero)) h = (
    load_of b.code_end b.end,
    data_load (148 + length laid.contents) b rest,
    section-is 3 3 b.code_end (place_of b.code_end) (b.end - b.code_end) few
        (among 120 3 b.code_end (place_of b.code_end) (b.end - b.code_end) (data-header memory b text data_behind refl may.borders.even heads-begun.0)),
  )
  agree few (suc (suc (suc k))) h = absurd (omega (arith, h))

pub memory_is_loaded : MemoryIsLoaded
memory_is_loaded parts may i h =
    let one = loaded-by parts may i h (cases_lt i 1024) in
    (one.0, subst (λ (file : List ℕ). Loads file one.0 (memory_base + i) (get_or parts.memory i 0)) (sym (file-is parts may)) one.1)

pub loaded_once : LoadedOnce
loaded_once parts may one other address a c h k =
    once parts may one other address a c (subst (λ (file : List ℕ). Loads file one address a) (file-is parts may) h)
    (subst (λ (file : List ℕ). Loads file other address c) (file-is parts may) k)

pub nothing_else : NothingElseIsLoaded
nothing_else parts may number address byte l =
    no-more parts may number address byte (subst (λ (file : List ℕ). Loads file number address byte) (file-is parts may) l)

pub sections_agree : SectionsAgree
sections_agree parts may few segment h =
    let P : List ℕ → Type 0 = λ file. (load : Load) × IsLoad file segment load
    × IsSection file (segment + 1) (section_flags segment) load.address load.place load.bytes in
    subst P (sym (file-is parts may)) (agree parts may (subst (λ (file : List ℕ). length file < 2 ^ 32) (file-is parts may) few) segment h)
