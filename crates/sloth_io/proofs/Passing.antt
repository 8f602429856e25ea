-- What a writer takes behind a buffer.
use Rattle.std.proofs.Common.{◌≡◌, ◌-◌, ◌≤◌, ◌≢◌, ◌∙◌, ℕ, List, [], ◌∷◌, ◌++◌, length, Option, refl, sym, ap, arith}
use Rattle.std.proofs.Common.{append_assoc, take, drop}
use Rattle.std.proofs.lemmas.List.{take-append-drop, length-drop}
use Rattle.std.specs.Io.KnownBytes.{Appends}
use Rattle.std.proofs.KnownBytes.{Appends-trans}
use Rattle.sloth_io.specs.Buffered.{PassesOn, BreaksOff}

-- not all bytes were taken
pub breaks-short : (old new : Option (List ℕ)) (due : List ℕ) (count : ℕ) → count ≤ length due → (count ≡ length due → ⊥)
    → Appends old new (take count due) → BreaksOff old new due
breaks-short old new due count within short h =
    let left : drop count due ≢ [] = λ none.
    let size : length (drop count due) ≡ length due - count = length-drop count due in
    let empty : length (drop count due) ≡ 0 = ap length none in
    short (omega (arith, size, empty, within)) in
    (take count due, drop count due, sym (take-append-drop count due), left, h)

-- bytes that were written, and then what is due behind them
pub passes-behind : (old mid new : Option (List ℕ)) (front due held : List ℕ) → Appends old mid front → PassesOn mid new due held
    → PassesOn old new (front ++ due) held
passes-behind old mid new front due held h p =
    (front ++ p.0, ap (λ x. front ++ x) p.1 ∙ sym (append_assoc front p.0 held), Appends-trans old mid new front p.0 h p.2)

-- or what is due behind them broke off
pub breaks-behind : (old mid new : Option (List ℕ)) (front due : List ℕ) → Appends old mid front → BreaksOff mid new due → BreaksOff old new (front ++ due)
breaks-behind old mid new front due h b =
    (front ++ b.0, b.1, ap (λ x. front ++ x) b.2 ∙ sym (append_assoc front b.0 b.1), b.3, Appends-trans old mid new front b.0 h b.4)

-- something left is left with more behind it
left-more : (rest more : List ℕ) → rest ≢ [] → (rest ++ more) ≢ []
left-more [] more some = λ none. some refl
left-more (x ∷ rest) more some = λ none. cc

-- what broke off before the last bytes
pub breaks-before : (old new : Option (List ℕ)) (front due : List ℕ) → BreaksOff old new front → BreaksOff old new (front ++ due)
breaks-before old new front due b =
    (b.0, b.1 ++ due, ap (λ x. x ++ due) b.2 ∙ append_assoc b.0 b.1 due, left-more b.1 due b.3, b.4)
