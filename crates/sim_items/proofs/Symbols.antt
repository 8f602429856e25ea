-- The bytes of a symbol, and accesses to them.
use Rattle.std.proofs.Common.{◌≡◌, ℕ, ◌+◌, ◌-◌, ◌%◌, ◌<◌, ◌≤◌, List, [], length, get_or, set, sym, ap, ◌∙◌, subst, arith, ⊎_elim, inl, inr, true, false, Some, None, leb, ltb, cond}
use Rattle.std.specs.Prelude.{◌≢◌, slice_index}
use Rattle.std.proofs.lemmas.Bool.{cases_eq, cases_lt, and_from, lt-ltb, le-leb, true≢false}
use Rattle.std.proofs.lemmas.List.{get_or-set_same, get_or-set_other, get_or_past}
use Rattle.sloth_base.specs.Arithmetic.{size_of, extended_number}
use Rattle.sloth_base.specs.declared.app.Width.{Width}
use Rattle.sloth_base.specs.declared.app.Width.TheVariants as width
use Rattle.sloth_base.specs.MemoryMap.{memory_base, memory_bytes}
use Rattle.rv32_expand.specs.Expansion.{symbol_address}
use Rattle.osek_scheduler.specs.Meaning.{loaded_word, bytes_after_store, accessed_bytes}
use Rattle.sim_relation.specs.Build.{Build, HasFittingPlaces}
use Rattle.sim_relation.specs.DataStands.{DataStands, ByteStands}
use Rattle.sim_items.specs.Place.{IsAccess, HasSymbolSizes}
use Rattle.sim_items.proofs.Access.{IsPlaceOf}
use Rattle.sim_items.proofs.Bytes.{with_bytes, length-with_bytes, low_bytes, length-low_bytes, get_or-with_bytes, both_written, stored_bytes, number_at, number_of_part, number_agrees}

some_bytes : (w : Width) → 0 < size_of w
some_bytes width.Byte = omega arith
some_bytes width.Half = omega arith
some_bytes width.Word = omega arith
some_bytes width.ByteU = omega arith
some_bytes width.HalfU = omega arith

aligned_sum : (w : Width) (p o : ℕ) → p % 4 ≡ 0 → o % size_of w ≡ 0 → (p + o) % size_of w ≡ 0
aligned_sum width.Byte p o h l = omega arith
aligned_sum width.Half p o h l = omega arith
aligned_sum width.Word p o h l = omega arith
aligned_sum width.ByteU p o h l = omega arith
aligned_sum width.HalfU p o h l = omega arith

module _ (b : Build) (fits : HasFittingPlaces b) (ram : List ℕ) (symbols : List (List ℕ)) (stands : DataStands b ram symbols) (sizes : HasSymbolSizes b.app symbols)
    (w : Width) (y offset : ℕ) (access : IsAccess b.app w y offset) where
  abbrev pub bytes : List ℕ
  bytes = get_or symbols y []

  abbrev pub address : ℕ
  address = symbol_address b.places y

  abbrev pub place : ℕ
  place = address - memory_base

  pub inside : offset + size_of w ≤ length bytes
  inside = let e = sizes y in let i = access.inside in omega arith

  some : 0 < length bytes
  some = let i = inside in let z = some_bytes w in omega arith

  pub is_place : address ≡ memory_base + place
  is_place = let f = (stands y 0 some).from in omega arith

  byte_place : (k : ℕ) → address + k - memory_base ≡ place + k
  byte_place k = let e = is_place in omega arith

  pub holds : (k : ℕ) → k < length bytes → get_or ram (place + k) 0 ≡ get_or bytes k 0
  holds k l = ap (λ p. get_or ram p 0) (sym (byte_place k)) ∙ (stands y k l).holds

  pub is_data : (k : ℕ) → k < length bytes → b.is_data (place + k) ≡ true
  is_data k l = ap b.is_data (sym (byte_place k)) ∙ (stands y k l).is_data

  pub in_ram : place + length bytes ≤ memory_bytes
  in_ram =
      let z = some in
      let l = fits.data_inside (place + (length bytes - 1)) (is_data (length bytes - 1) (omega arith)) in
      omega arith

  pub reach : address + offset < 4294967296
  reach = let i = inside in let r = in_ram in let p = is_place in omega arith

  -- a sum that is the address
  pub spot : (sum : ℕ) → sum ≡ address + offset → IsPlaceOf w sum (place + offset)
  spot sum e =
      let i = inside in
      let r = in_ram in
      let p = is_place in
      let a = fits.symbols y in
      record {
        is = omega arith;
        aligned = aligned_sum w place offset (omega arith) access.aligned;
        inside = omega arith;
      }

  declared : y < length symbols
  declared =
      ⊎_elim (λ (l : y < length symbols). l)
      (λ (l : length symbols ≤ y). let e = ap (λ (x : List ℕ). length x) (get_or_past symbols y [] l) in let z = some in absurd (omega arith))
      (cases_lt y (length symbols))

  pub accessed_is : accessed_bytes symbols y w offset ≡ Some bytes
  accessed_is =
      ap (λ x. cond x (Some bytes) None)
      (and_from (ltb y (length symbols)) (leb (offset + size_of w) (length bytes)) (lt-ltb y (length symbols) declared) (le-leb (offset + size_of w) (length bytes) inside))

  -- a load gives what it means
  pub load_means : extended_number w (number_at ram (place + offset) (size_of w)) ≡ loaded_word w bytes offset
  load_means =
      ap (extended_number w) (number_agrees ram bytes place holds (size_of w) offset inside ∙ sym (number_of_part bytes offset (size_of w) inside))

  -- ---- a store

  module _ (value : ℕ) (long : length ram ≡ memory_bytes) where
    abbrev pub written : List ℕ
    written = low_bytes w value

    abbrev pub new : List ℕ
    new = with_bytes ram (place + offset) written

    size : length written ≡ size_of w
    size = length-low_bytes w value

    pub stored_long : length new ≡ length ram
    stored_long = length-with_bytes written ram (place + offset)

    -- only bytes of the symbol change
    kept_outside : (i : ℕ) → ((k : ℕ) → k < length bytes → i ≢ place + k) → slice_index new i ≡ slice_index ram i
    kept_outside i h =
        let e = size in
        let l = inside in
        get_or-with_bytes written ram (place + offset) i
        (⊎_elim (λ (x : i < place + offset). inl x)
        (λ (x : place + offset ≤ i).
        ⊎_elim
        (λ (z : i < place + offset + length written). absurd (h (i - place) (omega arith) (omega arith)))
        (λ (z : place + offset + length written ≤ i). inr z)
        (cases_lt i (place + offset + length written)))
        (cases_lt i (place + offset)))

    pub only_data : (i : ℕ) → b.is_data i ≡ false → slice_index new i ≡ slice_index ram i
    only_data i h = kept_outside i (λ k l e. true≢false (sym (is_data k l) ∙ sym (ap b.is_data e) ∙ h))

    abbrev pub symbols_now : List (List ℕ)
    symbols_now = set symbols y (bytes_after_store w bytes offset value)

    same_symbol : (k : ℕ) → k < length (with_bytes bytes offset written) → ByteStands b new (address + k) (slice_index (with_bytes bytes offset written) k)
    same_symbol k l =
        let e = size in
        let i = inside in
        let r = in_ram in
        let n = length-with_bytes written bytes offset in
        let was = stands y k (omega arith) in
        record {
          from = was.from;
          is_data = was.is_data;
          holds = ap (λ p. get_or new p 0) (byte_place k)
              ∙ both_written written ram bytes place offset (omega arith) (omega arith) holds k (omega arith);
        }

    other_symbol : (z : ℕ) → z ≢ y → (k : ℕ) → k < length (get_or symbols z []) → ByteStands b new (symbol_address b.places z + k) (slice_index (get_or symbols z []) k)
    other_symbol z n k l =
        let was = stands z k l in
        let from = was.from in
        let sy = sizes y in
        let sz = sizes z in
        let p = is_place in
        record {
          from = was.from;
          is_data = was.is_data;
          holds = kept_outside (symbol_address b.places z + k - memory_base)
              (λ j m e. fits.symbols_apart y z j k (λ q. n (sym q)) (omega arith) (omega arith) (omega arith)) ∙ was.holds;
        }

    pub data_stands : DataStands b new symbols_now
    data_stands z k l =
        ⊎_elim
        (λ (e : z ≡ y).
        subst (λ v. k < length (get_or symbols_now v []) → ByteStands b new (symbol_address b.places v + k) (slice_index (get_or symbols_now v []) k)) (sym e)
        (subst (λ x. k < length x → ByteStands b new (address + k) (slice_index x k))
        (sym (get_or-set_same symbols y (bytes_after_store w bytes offset value) [] declared ∙ stored_bytes w bytes offset value inside)) (same_symbol k)) l)
        (λ (n : z ≡ y → ⊥).
        subst (λ x. k < length x → ByteStands b new (symbol_address b.places z + k) (slice_index x k))
        (sym (get_or-set_other symbols y z (bytes_after_store w bytes offset value) [] n)) (other_symbol z n k) l)
        (cases_eq z y)
