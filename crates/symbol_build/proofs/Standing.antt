-- Each section stands in the file where its header says.
use Rattle.std.proofs.Common.{◌≡◌, ◌<◌, ◌≤◌, ◌+◌, ◌*◌, ◌^◌, ◌∙◌, ℕ, zero, suc, List, [], ◌∷◌, ◌++◌, length, take, drop, codes, refl, sym, ap, subst, arith, append_assoc}
use Rattle.std.proofs.lemmas.List.{append-nil, drop-drop, drop_at, length-append, length-drop, take-append-drop, take_at}
use Rattle.symbol_image.specs.Fields.{text_bytes}
use Rattle.elf_image.specs.ElfText.{padding}
use Rattle.image_file.specs.Fields.{four_bytes, two_bytes}
use Rattle.map_text.specs.declared.piece_starts.Borders.{Borders}
use Rattle.symbol_image.specs.Headers.{elf_header, segment_headers}
use Rattle.symbol_image.specs.Layout.{Laid, Section, all_laid, front, laid_with, none_laid, padded, section_header, strings, whole}
use Rattle.symbol_image.specs.SymbolFile.{laid_parts, part_sections, parts_borders, rows_of, symbol_file}
use Rattle.symbol_build.specs.StandingSections.{HasName, HasSection, NamesStand, SectionsStand}

-- ---- one section among those that are laid out

-- the header and the bytes of a section, behind what was laid out before it
record Stands (laid final : Laid) (k : ℕ) (s : Section) : Type 0 where
  before : Laid
  long : length before.headers ≡ length laid.headers + 40 * k
  more : List ℕ
  headers_are : final.headers ≡ before.headers ++ (section_header (length before.names) (front + length (whole before.contents)) s ++ more)
  rest : List ℕ
  contents_are : final.contents ≡ whole before.contents ++ (s.contents ++ rest)
  others : List ℕ
  names_are : final.names ≡ before.names ++ (text_bytes s.name ++ others)

header_long : (name at : ℕ) (s : Section) → length (section_header name at s) ≡ 40
unfolding four_bytes
header_long name at s = refl

none_long : length none_laid.headers ≡ 40
unfolding four_bytes
none_long = refl

-- the first of them, where nothing follows
last : (laid : Laid) (s : Section) → Stands laid (laid_with laid s) 0 s
unfolding laid_with
last laid s = record {
  before = laid;
  long = omega arith;
  more = [];
  headers_are = ap (λ l. laid.headers ++ l) (sym (append-nil (section_header (length laid.names) (front + length (whole laid.contents)) s)));
  rest = [];
  contents_are = ap (λ l. whole laid.contents ++ l) (sym (append-nil s.contents));
  others = [];
  names_are = ap (λ l. laid.names ++ l) (sym (append-nil (text_bytes s.name)));
}

-- one more section, and zeros, change nothing of it
longer : (laid final : Laid) (k : ℕ) (s t : Section) → Stands laid final k s → Stands laid (laid_with final t) k s
unfolding laid_with
longer laid final k s t h =
    let header = section_header (length h.before.names) (front + length (whole h.before.contents)) s in
    let next = section_header (length final.names) (front + length (whole final.contents)) t in
    let added = padding (length final.contents) ++ t.contents in
    record {
      before = h.before;
      long = h.long;
      more = h.more ++ next;
      headers_are =
          ap (λ l. l ++ next) h.headers_are ∙ append_assoc h.before.headers (header ++ h.more) next
          ∙ ap (λ l. h.before.headers ++ l) (append_assoc header h.more next);
      rest = h.rest ++ added;
      contents_are =
          append_assoc final.contents (padding (length final.contents)) t.contents
          ∙ ap (λ l. l ++ added) h.contents_are ∙ append_assoc (whole h.before.contents) (s.contents ++ h.rest) added
          ∙ ap (λ l. whole h.before.contents ++ l) (append_assoc s.contents h.rest added);
      others = h.others ++ text_bytes t.name;
      names_are =
          ap (λ l. l ++ text_bytes t.name) h.names_are ∙ append_assoc h.before.names (text_bytes s.name ++ h.others) (text_bytes t.name)
          ∙ ap (λ l. h.before.names ++ l) (append_assoc (text_bytes s.name) h.others (text_bytes t.name));
    }

all-longer : (laid final : Laid) (k : ℕ) (s : Section) (sections : List Section) → Stands laid final k s → Stands laid (all_laid final sections) k s
all-longer laid final k s [] h = h
all-longer laid final k s (t ∷ sections) h = all-longer laid (laid_with final t) k s sections (longer laid final k s t h)

even : (laid final : Laid) (k : ℕ) (s : Section) → Stands laid final k s → Stands laid (padded final) k s
even laid final k s h =
    let zeros = padding (length final.contents) in
    record {
      before = h.before;
      long = h.long;
      more = h.more;
      headers_are = h.headers_are;
      rest = h.rest ++ zeros;
      contents_are =
          ap (λ l. l ++ zeros) h.contents_are ∙ append_assoc (whole h.before.contents) (s.contents ++ h.rest) zeros
          ∙ ap (λ l. whole h.before.contents ++ l) (append_assoc s.contents h.rest zeros);
      others = h.others;
      names_are = h.names_are;
    }

-- what stands behind one more section stands one place later
behind-one : (laid final : Laid) (k : ℕ) (s t : Section) → Stands (laid_with laid t) final k s → Stands laid final (suc k) s
unfolding laid_with
behind-one laid final k s t h =
    let header = section_header (length laid.names) (front + length (whole laid.contents)) t in
    let a = length-append laid.headers header in
    let n = header_long (length laid.names) (front + length (whole laid.contents)) t in
    let l = h.long in
    record {
      before = h.before;
      long = omega (arith, l, a, n);
      more = h.more;
      headers_are = h.headers_are;
      rest = h.rest;
      contents_are = h.contents_are;
      others = h.others;
      names_are = h.names_are;
    }

behind-all : (laid final : Laid) (sections : List Section) (s : Section) → Stands (all_laid laid sections) final 0 s → Stands laid final (length sections) s
behind-all laid final [] s h = h
behind-all laid final (t ∷ sections) s h = behind-one laid final (length sections) s t (behind-all (laid_with laid t) final sections s h)

-- that of a number stands there
stands : (laid : Laid) (sections : List Section) (k : ℕ) (s : Section) → drop k sections ≡ s ∷ drop (k + 1) sections → Stands laid (all_laid laid sections) k s
stands laid [] zero s e = absurd (cc)
stands laid [] (suc k) s e = absurd (cc)
stands laid (t ∷ sections) zero s e =
    let one : zero + 1 ≡ suc zero = omega arith in
    let same : t ∷ sections ≡ s ∷ drop (suc zero) (t ∷ sections) = e ∙ ap (λ n. s ∷ drop n (t ∷ sections)) one in
    let head : t ≡ s = cc in
    subst (λ (x : Section). Stands laid (all_laid (laid_with laid t) sections) 0 x) head (all-longer laid (laid_with laid t) 0 t sections (last laid t))
stands laid (t ∷ sections) (suc k) s e =
    let one : suc k + 1 ≡ suc (k + 1) = omega arith in
    let same : drop k sections ≡ s ∷ drop (k + 1) sections = e ∙ ap (λ n. s ∷ drop n (t ∷ sections)) one in
    behind-one laid (all_laid (laid_with laid t) sections) k s t (stands (laid_with laid t) sections k s same)

-- ---- the file

module _ (at : ℕ) (b : Borders) (rest : List ℕ) where
  abbrev file : List ℕ
  file = elf_header at ++ (segment_headers b ++ rest)

  behind : drop 148 file ≡ rest
  unfolding four_bytes two_bytes
  behind = refl

  headers-at : take 4 (drop 32 file) ≡ four_bytes at
  unfolding four_bytes two_bytes
  headers-at = refl

  names-number : take 2 (drop 50 file) ≡ two_bytes 11
  unfolding four_bytes two_bytes
  names-number = refl

-- the numbers of a header
module _ (name at : ℕ) (s : Section) (more : List ℕ) where
  abbrev header : List ℕ
  header = section_header name at s ++ more

  name-said : take 4 header ≡ four_bytes name
  unfolding four_bytes
  name-said = refl

  kind-said : take 4 (drop 4 header) ≡ four_bytes s.kind
  unfolding four_bytes
  kind-said = refl

  flags-said : take 4 (drop 8 header) ≡ four_bytes s.flags
  unfolding four_bytes
  flags-said = refl

  address-said : take 4 (drop 12 header) ≡ four_bytes s.address
  unfolding four_bytes
  address-said = refl

  place-said : take 4 (drop 16 header) ≡ four_bytes at
  unfolding four_bytes
  place-said = refl

  size-said : take 4 (drop 20 header) ≡ four_bytes s.size
  unfolding four_bytes
  size-said = refl

  link-said : take 4 (drop 24 header) ≡ four_bytes s.link
  unfolding four_bytes
  link-said = refl

  info-said : take 4 (drop 28 header) ≡ four_bytes s.info
  unfolding four_bytes
  info-said = refl

module _ (b : Borders) (laid : Laid) (k : ℕ) (s : Section) (h : Stands none_laid laid k s) where
  abbrev all : List ℕ
  all = elf_header (front + length laid.contents) ++ (segment_headers b ++ (laid.contents ++ laid.headers))

  abbrev n : ℕ
  n = front + length laid.contents

  abbrev place : ℕ
  place = front + length (whole h.before.contents)

  abbrev said : List ℕ
  said = header (length h.before.names) place s h.more

  -- the headers of the sections stand behind their bytes
  headers_behind : (o : ℕ) → drop (n + o) all ≡ drop o laid.headers
  headers_behind o =
      let c = length laid.contents in
      let on : n + o ≡ 148 + (c + o) = omega arith in
      ap (λ m. drop m all) on
      ∙ sym (drop-drop (c + o) 148 all)
      ∙ ap (drop (c + o)) (behind n b (laid.contents ++ laid.headers))
      ∙ sym (drop-drop o c (laid.contents ++ laid.headers))
      ∙ ap (drop o) (drop_at laid.contents laid.headers c refl)

  header_at : (o : ℕ) → drop (n + 40 * (k + 1) + o) all ≡ drop o said
  header_at o =
      let long = h.long in
      let none = none_long in
      let on : n + 40 * (k + 1) + o ≡ n + (length h.before.headers + o) = omega (arith, long, none) in
      ap (λ m. drop m all) on ∙ headers_behind (length h.before.headers + o)
      ∙ ap (drop (length h.before.headers + o)) h.headers_are
      ∙ sym (drop-drop o (length h.before.headers) (h.before.headers ++ said))
      ∙ ap (drop o) (drop_at h.before.headers said (length h.before.headers) refl)

  bytes_there : drop place all ≡ s.contents ++ (h.rest ++ laid.headers)
  bytes_there =
      let w = whole h.before.contents in
      sym (drop-drop (length w) 148 all)
      ∙ ap (drop (length w)) (behind n b (laid.contents ++ laid.headers) ∙ ap (λ l. l ++ laid.headers) h.contents_are ∙ append_assoc w (s.contents ++ h.rest) laid.headers)
      ∙ drop_at w ((s.contents ++ h.rest) ++ laid.headers) (length w) refl
      ∙ append_assoc s.contents h.rest laid.headers

  there : length all < 2 ^ 32 → HasSection all (k + 1) s
  there few =
      let long = ap (λ (l : List ℕ). length l) (behind n b (laid.contents ++ laid.headers)) in
      let d = length-drop 148 all in
      let a = length-append laid.contents laid.headers in
      let c = ap (λ (l : List ℕ). length l) h.contents_are ∙ length-append (whole h.before.contents) (s.contents ++ h.rest) in
      record {
        headers = n;
        place = place;
        few = (omega (arith, long, d, a, few), omega (arith, long, d, a, c, few));
        headers_at = headers-at n b (laid.contents ++ laid.headers);
        kind_is = ap (take 4) (header_at 4) ∙ kind-said (length h.before.names) place s h.more;
        flags_are = ap (take 4) (header_at 8) ∙ flags-said (length h.before.names) place s h.more;
        address_is = ap (take 4) (header_at 12) ∙ address-said (length h.before.names) place s h.more;
        place_is = ap (take 4) (header_at 16) ∙ place-said (length h.before.names) place s h.more;
        size_is = ap (take 4) (header_at 20) ∙ size-said (length h.before.names) place s h.more;
        link_is = ap (take 4) (header_at 24) ∙ link-said (length h.before.names) place s h.more;
        info_is = ap (take 4) (header_at 28) ∙ info-said (length h.before.names) place s h.more;
        bytes_are = ap (take (length s.contents)) bytes_there ∙ take_at s.contents (h.rest ++ laid.headers) (length s.contents) refl;
      }

  -- the name among the names of all sections
  name_there : take (length s.name + 1) (drop (length h.before.names) laid.names) ≡ s.name ++ 0 ∷ []
  name_there =
      let long = length-append s.name (0 ∷ []) in
      ap (λ l. take (length s.name + 1) (drop (length h.before.names) l)) h.names_are
      ∙ ap (take (length s.name + 1)) (drop_at h.before.names (text_bytes s.name ++ h.others) (length h.before.names) refl)
      ∙ take_at (text_bytes s.name) h.others (length s.name + 1) (omega (arith, long))

  named_by : (names : Section) → length all < 2 ^ 32 → names.contents ≡ laid.names → HasSection all 11 names → length names.contents ≤ length all → HasName all (k + 1) s
  named_by names few is stand short =
      let long = ap (λ (l : List ℕ). length l) (behind n b (laid.contents ++ laid.headers)) in
      let d = length-drop 148 all in
      let a = length-append laid.contents laid.headers in
      let all_names = ap (λ (l : List ℕ). length l) is in
      let c = ap (λ (l : List ℕ). length l) h.names_are ∙ length-append h.before.names (text_bytes s.name ++ h.others) in
      let first : n + 40 * (k + 1) ≡ n + 40 * (k + 1) + 0 = omega arith in
      record {
        headers = n;
        name = length h.before.names;
        names_number = 11;
        names = names;
        few = (omega (arith, long, d, a, few), omega (arith, all_names, c, few, short));
        headers_at = headers-at n b (laid.contents ++ laid.headers);
        number_is = names-number n b (laid.contents ++ laid.headers);
        names_stand = stand;
        name_at = ap (λ m. take 4 (drop m all)) first ∙ ap (take 4) (header_at 0) ∙ name-said (length h.before.names) place s h.more;
        name_is = ap (λ l. take (length s.name + 1) (drop (length h.before.names) l)) is ∙ name_there;
      }

-- what stands in a file is no longer than it
pub no-longer : (file : List ℕ) (number : ℕ) (s : Section) → HasSection file number s → length s.contents ≤ length file
no-longer file number s h =
    let n = length s.contents in
    let there = drop h.place file in
    let is = ap (λ (l : List ℕ). length l) h.bytes_are in
    let both = ap (λ (l : List ℕ). length l) (take-append-drop n there) in
    let sum = length-append (take n there) (drop n there) in
    let behind = length-drop h.place file in
    omega (arith, is, both, sum, behind)

pub sections_stand : SectionsStand
unfolding symbol_file
sections_stand parts k s few e =
    let b = parts_borders parts in
    let sections = part_sections parts b (rows_of parts) in
    let laid = all_laid none_laid sections in
    let named = strings (codes ".shstrtab") (laid.names ++ text_bytes (codes ".shstrtab")) in
    let one = stands none_laid sections k s e in
    there b (laid_parts parts b (rows_of parts)) k s (even none_laid (laid_with laid named) k s (longer none_laid laid k s named one)) few

names-are : (laid : Laid) (s : Section) → (padded (laid_with laid s)).names ≡ laid.names ++ text_bytes s.name
unfolding laid_with
names-are laid s = refl

pub names_stand : NamesStand
unfolding symbol_file
names_stand parts k s few e =
    let b = parts_borders parts in
    let sections = part_sections parts b (rows_of parts) in
    let laid = all_laid none_laid sections in
    let named = strings (codes ".shstrtab") (laid.names ++ text_bytes (codes ".shstrtab")) in
    let final = laid_parts parts b (rows_of parts) in
    let one = even none_laid (laid_with laid named) k s (longer none_laid laid k s named (stands none_laid sections k s e)) in
    let own = even none_laid (laid_with laid named) 10 named (behind-all none_laid (laid_with laid named) sections named (last laid named)) in
    let stand = there b final 10 named own few in
    named_by b final k s one named few (sym (names-are laid named)) stand (no-longer (symbol_file parts) 11 named stand)
