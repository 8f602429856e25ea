-- Each symbol reads back.
use Rattle.std.proofs.Common.{◌≡◌, ◌<◌, ◌+◌, ◌*◌, ◌^◌, ◌∙◌, ℕ, zero, suc, List, [], ◌∷◌, ◌++◌, length, take, drop, refl, sym, ap, arith, append_assoc}
use Rattle.std.specs.List.{flat_map}
use Rattle.std.proofs.lemmas.List.{drop-drop, drop_at, length-append, length-drop, take_at}
use Rattle.symbol_image.specs.Fields.{text_bytes}
use Rattle.image_file.specs.Fields.{four_bytes, two_bytes}
use Rattle.symbol_image.specs.Reading.{ReadsAs, SymbolsReadBack}
use Rattle.symbol_image.specs.SymbolTable.{name_table, no_symbol_bytes, section_number, symbol_bytes, symbol_table, table_from}
use Rattle.map_text.specs.declared.piece_starts.Borders.{Borders}
use Rattle.symbol_image.specs.declared.symbol.Symbol.{Symbol}

-- the names of symbols, each with a zero
abbrev names_of : List Symbol → List ℕ
names_of symbols = flat_map (λ (symbol : Symbol). text_bytes symbol.name) symbols

-- where the name of a symbol stands, whose first one stands at a place
abbrev name_at : (name : ℕ) → List Symbol → ℕ → ℕ
name_at name symbols zero = name
name_at name [] (suc k) = name
name_at name (s ∷ symbols) (suc k) = name_at (name + length (text_bytes s.name)) symbols k

-- a symbol's bytes are 16
behind : (b : Borders) (name : ℕ) (s : Symbol) (rest : List ℕ) → drop 16 (symbol_bytes b name s ++ rest) ≡ rest
unfolding four_bytes two_bytes
behind b name s rest = refl

later : (k : ℕ) (s symbol : Symbol) (symbols : List Symbol) → drop (suc k) (s ∷ symbols) ≡ symbol ∷ drop (suc k + 1) (s ∷ symbols)
    → drop k symbols ≡ symbol ∷ drop (k + 1) symbols
later k s symbol symbols e = let on : suc k + 1 ≡ suc (k + 1) = omega arith in e ∙ ap (λ n. symbol ∷ drop n (s ∷ symbols)) on

none-left : (k : ℕ) (symbol : Symbol) → drop (suc k) [] ≡ symbol ∷ drop (suc k + 1) [] → ⊥
none-left k symbol e = absurd (cc)

-- the bytes of symbol k, and what stands behind them
stands : (b : Borders) (name k : ℕ) (symbols : List Symbol) (symbol : Symbol) → drop k symbols ≡ symbol ∷ drop (k + 1) symbols
    → (rest : List ℕ) × (drop (16 * k) (table_from b name symbols) ≡ symbol_bytes b (name_at name symbols k) symbol ++ rest)
stands b name zero symbols symbol e =
    let none : 16 * zero ≡ zero = omega arith in (
      table_from b (name + length (text_bytes symbol.name)) (drop (zero + 1) symbols),
      ap (λ n. drop n (table_from b name symbols)) none ∙ ap (table_from b name) e,
    )
stands b name (suc k) [] symbol e = absurd (none-left k symbol e)
stands b name (suc k) (s ∷ symbols) symbol e =
    let next = name + length (text_bytes s.name) in
    let h = stands b next k symbols symbol (later k s symbol symbols e) in
    let on : 16 * suc k ≡ 16 + 16 * k = omega arith in (
      h.0,
      ap (λ n. drop n (symbol_bytes b name s ++ table_from b next symbols)) on
          ∙ sym (drop-drop (16 * k) 16 (symbol_bytes b name s ++ table_from b next symbols))
          ∙ ap (drop (16 * k)) (behind b name s (table_from b next symbols)) ∙ h.1,
    )

-- its name, and what stands behind it
named : (front : List ℕ) (k : ℕ) (symbols : List Symbol) (symbol : Symbol) → drop k symbols ≡ symbol ∷ drop (k + 1) symbols
    → (rest : List ℕ) × (drop (name_at (length front) symbols k) (front ++ names_of symbols) ≡ text_bytes symbol.name ++ rest)
named front zero symbols symbol e =
    (names_of (drop (zero + 1) symbols), drop_at front (names_of symbols) (length front) refl ∙ ap names_of e)
named front (suc k) [] symbol e = absurd (none-left k symbol e)
named front (suc k) (s ∷ symbols) symbol e =
    let text = text_bytes s.name in
    let h = named (front ++ text) k symbols symbol (later k s symbol symbols e) in
    let long = length-append front text in (
      h.0,
      ap (λ n. drop (name_at n symbols k) (front ++ (text ++ names_of symbols))) (sym long)
          ∙ ap (drop (name_at (length (front ++ text)) symbols k)) (sym (append_assoc front text (names_of symbols))) ∙ h.1,
    )

module _ (b : Borders) (symbols : List Symbol) (k : ℕ) (symbol : Symbol) (few : length (name_table symbols) < 2 ^ 32)
    (e : drop k symbols ≡ symbol ∷ drop (k + 1) symbols) where
  abbrev name : ℕ
  name = name_at 1 symbols k

  own : (rest : List ℕ) × (drop (16 * k) (table_from b 1 symbols) ≡ symbol_bytes b name symbol ++ rest)
  own = stands b 1 k symbols symbol e

  its-name : (rest : List ℕ) × (drop name (name_table symbols) ≡ text_bytes symbol.name ++ rest)
  unfolding name_table
  its-name = named (0 ∷ []) k symbols symbol e

  at : (o : ℕ) → drop (16 * (k + 1) + o) (symbol_table b symbols) ≡ drop o (symbol_bytes b name symbol ++ own.0)
  unfolding symbol_table
  at o =
      let all = table_from b 1 symbols in
      let on : 16 * (k + 1) + o ≡ 16 + (16 * k + o) = omega arith in
      ap (λ n. drop n (no_symbol_bytes ++ all)) on
      ∙ sym (drop-drop (16 * k + o) 16 (no_symbol_bytes ++ all))
      ∙ sym (drop-drop o (16 * k) all)
      ∙ ap (drop o) own.1

  first : drop (16 * (k + 1)) (symbol_table b symbols) ≡ symbol_bytes b name symbol ++ own.0
  first = let on : 16 * (k + 1) ≡ 16 * (k + 1) + 0 = omega arith in ap (λ n. drop n (symbol_table b symbols)) on ∙ at 0

  small : name < 2 ^ 32
  small =
      let a = ap (λ (l : List ℕ). length l) its-name.1 in
      let d = length-drop name (name_table symbols) in
      let l = length-append (text_bytes symbol.name) its-name.0 in
      let t = length-append symbol.name (0 ∷ []) in
      omega (arith, a, d, l, t, few)

  reads : ReadsAs (symbol_table b symbols) (name_table symbols) (k + 1) (section_number b symbol.address) symbol
  unfolding four_bytes two_bytes
  reads = record {
    name = name;
    few = small;
    there = ap (take 4) first;
    address = ap (take 4) (at 4);
    size = ap (take 4) (at 8);
    kind = ap (take 1) (at 12);
    in_section = ap (take 2) (at 14);
    name_is =
        ap (take (length symbol.name + 1)) its-name.1
        ∙ take_at (text_bytes symbol.name) its-name.0 (length symbol.name + 1) (length-append symbol.name (0 ∷ []));
  }

pub symbols_read_back : SymbolsReadBack
symbols_read_back b symbols k symbol few e = reads b symbols k symbol few e
