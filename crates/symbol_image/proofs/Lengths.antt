-- A number in four bytes is that modulo 2^32, and one in two bytes that modulo 2^16; an address in an expression has five bytes.
use Rattle.std.proofs.Common.{◌≡◌, ◌/◌, ◌%◌, ℕ, List, ◌∷◌, ◌++◌, [], refl, sym, ap, ◌∙◌, arith, append_assoc}
use Rattle.image_file.specs.Fields.{four_bytes, two_bytes}
use Rattle.symbol_image.specs.Entries.{at_address}
use Rattle.symbol_image.specs.EntryBytes.{Location, value_bytes}
use Rattle.symbol_image.specs.Fields.{unsigned_leb}

pub four_wrapped : (n : ℕ) → four_bytes (n % 4294967296) ≡ four_bytes n
unfolding four_bytes
four_wrapped n =
    let a : n % 4294967296 % 256 ≡ n % 256 = omega arith in
    let b : n % 4294967296 / 256 % 256 ≡ n / 256 % 256 = omega arith in
    let c : n % 4294967296 / 65536 % 256 ≡ n / 65536 % 256 = omega arith in
    let d : n % 4294967296 / 16777216 % 256 ≡ n / 16777216 % 256 = omega arith in
    cc

pub two_wrapped : (n : ℕ) → two_bytes (n % 65536) ≡ two_bytes n
unfolding two_bytes
two_wrapped n =
    let a : n % 65536 % 256 ≡ n % 256 = omega arith in
    let b : n % 65536 / 256 % 256 ≡ n / 256 % 256 = omega arith in
    cc

located : (address : ℕ) → value_bytes (Location (at_address address)) ≡ 5 ∷ 3 ∷ four_bytes address
unfolding unsigned_leb four_bytes
located address = refl

pub location_put : (address : ℕ) (old middle : List ℕ) → middle ≡ old ++ 5 ∷ 3 ∷ [] → middle ++ four_bytes address ≡ old ++ value_bytes (Location (at_address address))
location_put address old middle e =
    ap (λ l. l ++ four_bytes address) e ∙ (append_assoc old (5 ∷ 3 ∷ []) (four_bytes address) ∙ ap (λ l. old ++ l) (sym (located address)))
