-- Bytes of memory, one by one.
use Rattle.std.proofs.Common.{◌≡◌, ◌<◌, ◌≤◌, ◌+◌, ◌-◌, ℕ, zero, suc, List, [], ◌∷◌, ◌++◌, Option, Some, None, sym, ◌∙◌, ap, arith, append_assoc, append-nil}
use Rattle.debug_session.specs.Replies.{bytes_from, memory_byte, byte_and}

-- the bytes from a place on are the one there and those behind it
split-at : (byte : ℕ → Option ℕ) (length place address : ℕ) (here : Option ℕ) → place < length → here ≡ memory_byte byte (address + place)
    → bytes_from byte (length - place) (address + place) ≡ byte_and here (bytes_from byte (length - (place + 1)) (address + (place + 1)))
split-at byte length place address here within is =
    let n : length - place ≡ suc (length - (place + 1)) = omega (arith, within) in
    let next : address + place + 1 ≡ address + (place + 1) = omega arith in
    ap (λ k. bytes_from byte k (address + place)) n
    ∙ ap (λ o. byte_and o (bytes_from byte (length - (place + 1)) (address + place + 1))) (sym is)
    ∙ ap (λ a. byte_and here (bytes_from byte (length - (place + 1)) a)) next

-- a byte more
pub one_byte : (byte : ℕ → Option ℕ) (length place address b : ℕ) (here : Option ℕ) (old new all : List ℕ) → place < length
    → here ≡ memory_byte byte (address + place) → here ≡ Some b → new ≡ old ++ b ∷ [] → old ++ bytes_from byte (length - place) (address + place) ≡ all
    → new ++ bytes_from byte (length - (place + 1)) (address + (place + 1)) ≡ all
one_byte byte length place address b here old new all within is there put before =
    let rest : List ℕ = bytes_from byte (length - (place + 1)) (address + (place + 1)) in
    let split : bytes_from byte (length - place) (address + place) ≡ b ∷ rest =
    split-at byte length place address here within is ∙ ap (λ o. byte_and o rest) there in
    ap (λ bytes. bytes ++ rest) put ∙ append_assoc old (b ∷ []) rest ∙ ap (λ bytes. old ++ bytes) (sym split) ∙ before

-- no byte is there
pub no_byte : (byte : ℕ → Option ℕ) (length place address : ℕ) (here : Option ℕ) (old all : List ℕ) → place < length
    → here ≡ memory_byte byte (address + place) → here ≡ None → old ++ bytes_from byte (length - place) (address + place) ≡ all → old ≡ all
no_byte byte length place address here old all within is there before =
    let none : bytes_from byte (length - place) (address + place) ≡ [] =
    split-at byte length place address here within is
    ∙ ap (λ o. byte_and o (bytes_from byte (length - (place + 1)) (address + (place + 1)))) there in
    sym (append-nil old) ∙ ap (λ bytes. old ++ bytes) (sym none) ∙ before

-- all were looked at
pub no_more : (byte : ℕ → Option ℕ) (length place address : ℕ) (old all : List ℕ) → length ≤ place → old ++ bytes_from byte (length - place) (address + place) ≡ all
    → old ≡ all
no_more byte length place address old all over before =
    let n : length - place ≡ zero = omega (arith, over) in
    sym (append-nil old) ∙ ap (λ k. old ++ bytes_from byte k (address + place)) (sym n) ∙ before

-- none was looked at
pub none_yet : (byte : ℕ → Option ℕ) (length address : ℕ) (old : List ℕ) → old ++ bytes_from byte (length - 0) (address + 0) ≡ old ++ bytes_from byte length address
none_yet byte length address old =
    let n : length - 0 ≡ length = omega arith in
    let a : address + 0 ≡ address = omega arith in
    ap (λ k. old ++ bytes_from byte k (address + 0)) n ∙ ap (λ b. old ++ bytes_from byte length b) a
