-- Packets that were written are read back.
use Rattle.std.proofs.Common.{◌≡◌, ℕ, suc, ◌+◌, ◌/◌, ◌%◌, ◌<◌, ◌≤◌, ◌∙◌, true, false, length, List, [], ◌∷◌, ◌++◌, sum, fold, add-zero, zero-add, refl, sym, ap, arith, append_assoc, append-nil, length-append, add_assoc}
use Rattle.std.proofs.Math.Nat.{mod-add-mod}
use Rattle.std.specs.Prelude.{not, ◌&&◌, ◌==◌}
use Rattle.std.proofs.lemmas.Bool.{le-leb, not-true, and_parts}
use Rattle.debug_session.specs.declared.session.Place.TheVariants as places
use Rattle.debug_session.specs.Escapes.{escaped, is_unmarked}
use Rattle.debug_session.specs.Framing.{checksum, packet_of, all_framed}
use Rattle.debug_session.specs.Hex.{hex_digit}
use Rattle.debug_session.specs.Messages.{AllFit, Packet, messages, packets_of}
use Rattle.debug_session.specs.Reading.{fresh, opened}
use Rattle.debug_session.proofs.Digits.{sum-told}
use Rattle.debug_session.proofs.Escaping.{escaped_unmarked}

-- a sum goes on
fold-from : (a : ℕ) (xs : List ℕ) → fold (λ x y. x + y) a xs ≡ a + sum xs
fold-from a [] = sym (add-zero a)
fold-from a (x ∷ xs) =
    let h : fold (λ x y. x + y) (a + x) xs ≡ (a + x) + sum xs = fold-from (a + x) xs in
    let i : fold (λ x y. x + y) (0 + x) xs ≡ (0 + x) + sum xs = fold-from (0 + x) xs in
    h ∙ add_assoc a x (sum xs) ∙ ap (λ n. a + n) (sym (i ∙ ap (λ n. n + sum xs) (zero-add x)))

pub sum-cons : (x : ℕ) (xs : List ℕ) → sum (x ∷ xs) ≡ x + sum xs
sum-cons x xs = fold-from (0 + x) xs ∙ ap (λ n. n + sum xs) (zero-add x)

-- there is space for one more byte
shorter : (p n : ℕ) → p + suc n ≤ 16384 → p ≤ 16384
shorter p n h = omega (arith, h)

-- a byte of the data begins and ends nothing
module _ (b : ℕ) (bytes : List ℕ) (unmarked : is_unmarked (b ∷ bytes) ≡ true) where
  all : (not (b == 35) && not (b == 36) && not (b == 42) ≡ true) × (is_unmarked bytes ≡ true)
  all = and_parts (not (b == 35) && not (b == 36) && not (b == 42)) (is_unmarked bytes) unmarked

  front : (not (b == 35) && not (b == 36) ≡ true) × (not (b == 42) ≡ true)
  front = and_parts (not (b == 35) && not (b == 36)) (not (b == 42)) all.0

  pub ends_nothing : (b == 35) ≡ false
  ends_nothing = not-true _ (and_parts (not (b == 35)) (not (b == 36)) front.0).0

  pub begins_nothing : (b == 36) ≡ false
  begins_nothing = not-true _ (and_parts (not (b == 35)) (not (b == 36)) front.0).1

  pub rest_unmarked : is_unmarked bytes ≡ true
  rest_unmarked = all.1

-- the data, read whole
inside : (content before rest : List ℕ) (s : ℕ) → s < 256 → is_unmarked content ≡ true → length before + length content ≤ 16384
    → messages (record { place = places.Inside; content = before; sum = s }) (content ++ rest)
    ≡ messages (record { place = places.Inside; content = before ++ content; sum = (s + sum content) % 256 }) rest
inside [] before rest s below unmarked short =
    ap (λ (c : List ℕ). messages (record { place = places.Inside; content = c; sum = s }) rest) (sym (append-nil before))
    ∙ ap (λ n. messages (record { place = places.Inside; content = before ++ []; sum = n }) rest) (omega (arith, below))
inside (b ∷ content) before rest s below unmarked short =
    let fits : length (before ++ b ∷ []) + length content ≤ 16384 = rw length-append (omega (arith, short)) in
    let more = inside content (before ++ b ∷ []) rest ((s + b) % 256) (omega arith) (rest_unmarked b content unmarked) fits in
    let total : ((s + b) % 256 + sum content) % 256 ≡ (s + sum (b ∷ content)) % 256 =
    mod-add-mod (s + b) 256 (sum content) ∙ ap (λ n. n % 256) (add_assoc s b (sum content) ∙ ap (λ n. s + n) (sym (sum-cons b content))) in
    rw (begins_nothing b content unmarked, ends_nothing b content unmarked, le-leb (length before) 16384 (shorter (length before) (length content) short))
    (more ∙ ap (λ (c : List ℕ). messages (record { place = places.Inside; content = c; sum = ((s + b) % 256 + sum content) % 256 }) rest) (append_assoc before (b ∷ []) content)
    ∙ ap (λ n. messages (record { place = places.Inside; content = before ++ b ∷ content; sum = n }) rest) total)

-- a packet, read whole
one : (content before rest : List ℕ) (s : ℕ) → is_unmarked content ≡ true → length content ≤ 16384
    → messages (record { place = places.Outside; content = before; sum = s }) (packet_of content ++ rest)
    ≡ Packet content ∷ messages (record { place = places.Outside; content = content; sum = checksum content }) rest
one content before rest s unmarked short =
    let n = checksum content in
    let tail : List ℕ = 35 ∷ hex_digit (n / 16) ∷ hex_digit (n % 16) ∷ [] in
    let read = inside content [] (tail ++ rest) 0 (omega arith) unmarked (omega (arith, short)) in
    let none : (0 + sum content) % 256 ≡ n = omega arith in
    ap (messages opened) (append_assoc content tail rest) ∙ read
    ∙ ap (λ m. messages (record { place = places.Inside; content = content; sum = m }) (tail ++ rest)) none
    ∙ rw (sum-told n (omega arith)) refl

from_outside : (contents : List (List ℕ)) (before : List ℕ) (s : ℕ) → AllFit contents
    → messages (record { place = places.Outside; content = before; sum = s }) (all_framed contents) ≡ packets_of contents
from_outside [] before s fit = refl
from_outside (content ∷ contents) before s fit =
    one (escaped content) before (all_framed contents) s (escaped_unmarked content) fit.0
    ∙ ap (λ ms. Packet (escaped content) ∷ ms) (from_outside contents (escaped content) (checksum (escaped content)) fit.1)

pub read_back : (contents : List (List ℕ)) → AllFit contents → messages fresh (all_framed contents) ≡ packets_of contents
read_back contents fit = from_outside contents [] 0 fit
