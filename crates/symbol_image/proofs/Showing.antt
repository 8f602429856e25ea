-- The section of entries reads by the table of kinds, and shows each symbol and each body.
use Rattle.std.proofs.Common.{◌≡◌, ◌<◌, ◌+◌, ◌-◌, ℕ, zero, suc, Bool, true, false, List, [], ◌∷◌, ◌++◌, All, get_or, length, map, take, refl, sym, ap, ◌∙◌, subst, arith, append_assoc, append-nil}
use Rattle.std.proofs.lemmas.List.{length-append}
use Rattle.std.proofs.lemmas.List.Concat.{flat_map-append}
use Rattle.std.proofs.lemmas.List.Elements.{All-append, All-cons, All-nil, All-weaker}
use Rattle.image_file.specs.Fields.{four_bytes, two_bytes}
use Rattle.sloth_base.specs.Named.{no_function, no_symbol}
use Rattle.sloth_base.specs.declared.app.App.{App}
use Rattle.sloth_base.specs.declared.app.Func.{Func}
use Rattle.sloth_base.specs.declared.app.Label.{Label}
use Rattle.sloth_base.specs.declared.app.Symbol.{Symbol}
use Rattle.sloth_base.specs.declared.limits.Places.{Places}
use Rattle.symbol_image.specs.declared.bodies.Shape.{Shape}
use Rattle.symbol_image.specs.declared.bodies.Shape.TheVariants as shape
use Rattle.symbol_image.specs.declared.bodies.Types.{Types}
use Rattle.symbol_image.specs.Abbreviations.{abbreviations, array_kind, index_kind}
use Rattle.symbol_image.specs.Entries.{all_body_bytes, all_symbol_bytes, array_entries, base_type, body_entries, body_entry, byte_name, end_entries, frame_entries, frame_type_entries, frame_variable_entry, front_bytes, has_below, info_section, inner_labels, label_entry, place_behind, data_shape, symbol_entries, symbols_behind, type_entries, type_place, types_of, unit_bytes, unit_entry, unit_header, variable_entry, word_name}
use Rattle.symbol_image.specs.EntryBytes.{End, DwarfEntry, HasForms, Of, Reference, Word, entries_bytes, entry_bytes}
use Rattle.symbol_image.specs.EntryTree.{HasBodyEntry, HasCodeEntries, HasKindIn, HasSymbolEntry, IsByteType, IsTypeOf, IsWordType}
use Rattle.symbol_image.specs.Fields.{sized}
use Rattle.map_text.specs.LineRows.{item_address, item_count}

-- ---- the entries behind the types

abbrev symbols_of : Types → (lines addresses : List ℕ) → (at number : ℕ) → List Symbol → List DwarfEntry
symbols_of types lines addresses at number [] = []
symbols_of types lines addresses at number (symbol ∷ symbols) =
    symbol_entries types at symbol (get_or lines number 0) (get_or addresses number 0)
    ++ symbols_of types lines addresses
    (at + length (entries_bytes (symbol_entries types at symbol (get_or lines number 0) (get_or addresses number 0)))) (number + 1) symbols

symbols-bytes : (types : Types) (lines addresses : List ℕ) (at number : ℕ) (symbols : List Symbol)
    → entries_bytes (symbols_of types lines addresses at number symbols) ≡ all_symbol_bytes types lines addresses at number symbols
symbols-bytes types lines addresses at number [] = refl
symbols-bytes types lines addresses at number (symbol ∷ symbols) =
    let first : List DwarfEntry = symbol_entries types at symbol (get_or lines number 0) (get_or addresses number 0) in
    flat_map-append entry_bytes first (symbols_of types lines addresses (at + length (entries_bytes first)) (number + 1) symbols)
    ∙ ap (λ b. entries_bytes first ++ b) (symbols-bytes types lines addresses (at + length (entries_bytes first)) (number + 1) symbols)

abbrev bodies_of : Types → Places → (end at number : ℕ) → List Func → List DwarfEntry
bodies_of types places end at number [] = []
bodies_of types places end at number (func ∷ funcs) =
    body_entries types places end at number func
    ++ bodies_of types places end (at + length (entries_bytes (body_entries types places end at number func))) (number + length func.items) funcs

bodies-bytes : (types : Types) (places : Places) (end at number : ℕ) (funcs : List Func)
    → entries_bytes (bodies_of types places end at number funcs) ≡ all_body_bytes types places end at number funcs
bodies-bytes types places end at number [] = refl
bodies-bytes types places end at number (func ∷ funcs) =
    let first : List DwarfEntry = body_entries types places end at number func in
    flat_map-append entry_bytes first (bodies_of types places end (at + length (entries_bytes first)) (number + length func.items) funcs)
    ∙ ap (λ b. entries_bytes first ++ b) (bodies-bytes types places end (at + length (entries_bytes first)) (number + length func.items) funcs)

-- ---- each is of a kind of the table, with values in its forms

abbrev IsRight : DwarfEntry → Type 0
IsRight entry = HasKindIn abbreviations entry × HasForms entry

right-last : All IsRight (End ∷ [])
right-last = All-cons IsRight End [] (tt, tt) (All-nil IsRight)

right-array : (types : Types) (element count : ℕ) → All IsRight (array_entries types element count)
right-array types element count =
    All-cons IsRight (Of array_kind (Reference element ∷ [])) (Of index_kind (Reference types.word ∷ Word (count - 1) ∷ []) ∷ End ∷ [])
    ((2, omega arith, refl), refl)
    (All-cons IsRight (Of index_kind (Reference types.word ∷ Word (count - 1) ∷ [])) (End ∷ []) ((3, omega arith, refl), refl) right-last)

right-type : (types : Types) (s : Shape) → All IsRight (type_entries types s)
right-type types shape.OneWord = All-nil IsRight
right-type types shape.OneByte = All-nil IsRight
right-type types (shape.Words count) = right-array types types.word count
right-type types (shape.Bytes count) = right-array types types.byte count

right-symbol : (types : Types) (at : ℕ) (symbol : Symbol) (line address : ℕ) → All IsRight (symbol_entries types at symbol line address)
right-symbol types at symbol line address =
    let s : Shape = data_shape (length symbol.bytes) in
    All-append IsRight (type_entries types s) (variable_entry symbol line (type_place types s at) address ∷ []) (right-type types s)
    (All-cons IsRight (variable_entry symbol line (type_place types s at) address) [] ((4, omega arith, refl), refl) (All-nil IsRight))

right-symbols : (types : Types) (lines addresses : List ℕ) (at number : ℕ) (symbols : List Symbol)
    → All IsRight (symbols_of types lines addresses at number symbols)
right-symbols types lines addresses at number [] = All-nil IsRight
right-symbols types lines addresses at number (symbol ∷ symbols) =
    let first : List DwarfEntry = symbol_entries types at symbol (get_or lines number 0) (get_or addresses number 0) in
    All-append IsRight first (symbols_of types lines addresses (at + length (entries_bytes first)) (number + 1) symbols)
    (right-symbol types at symbol (get_or lines number 0) (get_or addresses number 0))
    (right-symbols types lines addresses (at + length (entries_bytes first)) (number + 1) symbols)

right-frame-type : (types : Types) (words : ℕ) → All IsRight (frame_type_entries types words)
right-frame-type types zero = All-nil IsRight
right-frame-type types (suc words) = right-array types types.word (suc words)

right-frame : (at words : ℕ) → All IsRight (frame_entries at words)
right-frame at zero = All-nil IsRight
right-frame at (suc words) = All-cons IsRight (frame_variable_entry at) [] ((6, omega arith, refl), refl) (All-nil IsRight)

right-labels : (places : Places) (end number : ℕ) (labels : List Label) → All IsRight (map (label_entry places end number) labels)
right-labels places end number [] = All-nil IsRight
right-labels places end number (label ∷ labels) =
    All-cons IsRight (label_entry places end number label) (map (label_entry places end number) labels) ((7, omega arith, refl), refl)
    (right-labels places end number labels)

right-end : (below : Bool) → All IsRight (end_entries below)
right-end true = right-last
right-end false = All-nil IsRight

right-body-alone : (func : Func) (low high : ℕ) (below : Bool) → has_below func ≡ below → IsRight (body_entry func low high)
right-body-alone func low high true e = rw e ((5, omega arith, refl), refl)
right-body-alone func low high false e = rw e ((8, omega arith, refl), refl)

right-body : (types : Types) (places : Places) (end at number : ℕ) (func : Func) → All IsRight (body_entries types places end at number func)
right-body types places end at number func =
    let body : DwarfEntry = body_entry func (item_address places end number) (item_address places end (number + length func.items)) in
    let labels : List DwarfEntry = map (label_entry places end number) (inner_labels func) in
    let last : List DwarfEntry = end_entries (has_below func) in
    All-append IsRight (frame_type_entries types func.frame_words) (body ∷ (frame_entries at func.frame_words ++ (labels ++ last)))
    (right-frame-type types func.frame_words)
    (All-cons IsRight body (frame_entries at func.frame_words ++ (labels ++ last))
    (right-body-alone func (item_address places end number) (item_address places end (number + length func.items)) (has_below func) refl)
    (All-append IsRight (frame_entries at func.frame_words) (labels ++ last) (right-frame at func.frame_words)
    (All-append IsRight labels last (right-labels places end number (inner_labels func)) (right-end (has_below func)))))

right-bodies : (types : Types) (places : Places) (end at number : ℕ) (funcs : List Func) → All IsRight (bodies_of types places end at number funcs)
right-bodies types places end at number [] = All-nil IsRight
right-bodies types places end at number (func ∷ funcs) =
    let first : List DwarfEntry = body_entries types places end at number func in
    All-append IsRight first (bodies_of types places end (at + length (entries_bytes first)) (number + length func.items) funcs)
    (right-body types places end at number func)
    (right-bodies types places end (at + length (entries_bytes first)) (number + length func.items) funcs)

-- ---- where they stand

-- one of a group, between what stands before the group and behind it
regrouped : (before first : List DwarfEntry) (e : DwarfEntry) (later behind : List DwarfEntry)
    → before ++ ((first ++ (e ∷ later)) ++ behind) ≡ (before ++ first) ++ (e ∷ (later ++ behind))
regrouped before first e later behind =
    ap (λ l. before ++ l) (append_assoc first (e ∷ later) behind) ∙ sym (append_assoc before first (e ∷ (later ++ behind)))

-- the place behind a group
place-behind : (before group : List DwarfEntry) (at : ℕ) → at ≡ 11 + length (entries_bytes before)
    → at + length (entries_bytes group) ≡ 11 + length (entries_bytes (before ++ group))
place-behind before group at e =
    let a : length (entries_bytes (before ++ group)) ≡ length (entries_bytes before) + length (entries_bytes group) =
    ap length (flat_map-append entry_bytes before group) ∙ length-append (entries_bytes before) (entries_bytes group) in
    omega arith

type-stands : (entries : List DwarfEntry) (types : Types) (at : ℕ) (s : Shape) (before behind : List DwarfEntry) → at ≡ 11 + length (entries_bytes before)
    → entries ≡ before ++ (type_entries types s ++ behind) → IsWordType entries types.word → IsByteType entries types.byte
    → IsTypeOf entries (type_place types s at) s
type-stands entries types at shape.OneWord before behind p e w b = w
type-stands entries types at shape.OneByte before behind p e w b = b
type-stands entries types at (shape.Words count) before behind p e w b = record {
  element = types.word;
  index = types.word;
  is_element = w;
  is_index = w;
  before = before;
  behind = behind;
  are = e;
  is = p;
}
type-stands entries types at (shape.Bytes count) before behind p e w b = record {
  element = types.byte;
  index = types.word;
  is_element = b;
  is_index = w;
  before = before;
  behind = behind;
  are = e;
  is = p;
}

-- the entries of a symbol show it
symbol-stands : (entries : List DwarfEntry) (types : Types) (at : ℕ) (symbol : Symbol) (line address : ℕ) (before behind : List DwarfEntry)
    → at ≡ 11 + length (entries_bytes before) → entries ≡ before ++ (symbol_entries types at symbol line address ++ behind)
    → IsWordType entries types.word → IsByteType entries types.byte → HasSymbolEntry entries symbol line address
symbol-stands entries types at symbol line address before behind p e w b =
    let s : Shape = data_shape (length symbol.bytes) in
    let variable : DwarfEntry = variable_entry symbol line (type_place types s at) address in
    record {
      place = 11 + length (entries_bytes (before ++ type_entries types s));
      kind = type_place types s at;
      is_type = type-stands entries types at s before (variable ∷ behind) p
          (e ∙ ap (λ l. before ++ l) (append_assoc (type_entries types s) (variable ∷ []) behind)) w b;
      stands = record {
        before = before ++ type_entries types s;
        behind = behind;
        are = e ∙ regrouped before (type_entries types s) variable [] behind;
        is = refl;
      };
    }

symbols-stand : (entries : List DwarfEntry) (types : Types) (lines addresses : List ℕ) (at number : ℕ) (symbols : List Symbol) (before behind : List DwarfEntry)
    → IsWordType entries types.word → IsByteType entries types.byte
    → at ≡ 11 + length (entries_bytes before) → entries ≡ before ++ (symbols_of types lines addresses at number symbols ++ behind)
    → (k n : ℕ) → n ≡ number + k → k < length symbols → HasSymbolEntry entries (get_or symbols k no_symbol) (get_or lines n 0) (get_or addresses n 0)
symbols-stand entries types lines addresses at number [] before behind w b p e k n is h = absurd (omega arith)
symbols-stand entries types lines addresses at number (symbol ∷ symbols) before behind w b p e zero n is h =
    let first : List DwarfEntry = symbol_entries types at symbol (get_or lines number 0) (get_or addresses number 0) in
    let rest : List DwarfEntry = symbols_of types lines addresses (at + length (entries_bytes first)) (number + 1) symbols in
    let same : number ≡ n = omega arith in
    subst (λ m. HasSymbolEntry entries symbol (get_or lines m 0) (get_or addresses m 0)) same
    (symbol-stands entries types at symbol (get_or lines number 0) (get_or addresses number 0) before (rest ++ behind) p
    (e ∙ ap (λ l. before ++ l) (append_assoc first rest behind)) w b)
symbols-stand entries types lines addresses at number (symbol ∷ symbols) before behind w b p e (suc k) n is h =
    let first : List DwarfEntry = symbol_entries types at symbol (get_or lines number 0) (get_or addresses number 0) in
    let rest : List DwarfEntry = symbols_of types lines addresses (at + length (entries_bytes first)) (number + 1) symbols in
    symbols-stand entries types lines addresses (at + length (entries_bytes first)) (number + 1) symbols (before ++ first) behind w b
    (place-behind before first at p)
    (e ∙ (ap (λ l. before ++ l) (append_assoc first rest behind) ∙ sym (append_assoc before first (rest ++ behind))))
    k n (omega arith) (omega arith)

bodies-stand : (entries : List DwarfEntry) (types : Types) (places : Places) (end at number : ℕ) (funcs : List Func) (before behind : List DwarfEntry)
    → entries ≡ before ++ (bodies_of types places end at number funcs ++ behind)
    → (f n : ℕ) → n ≡ number + item_count (take f funcs) → f < length funcs → HasBodyEntry entries places end n (get_or funcs f no_function)
bodies-stand entries types places end at number [] before behind e f n is h = absurd (omega arith)
bodies-stand entries types places end at number (func ∷ funcs) before behind e zero n is h =
    let body : DwarfEntry = body_entry func (item_address places end number) (item_address places end (number + length func.items)) in
    let first : List DwarfEntry = frame_type_entries types func.frame_words in
    let later : List DwarfEntry = frame_entries at func.frame_words ++ (map (label_entry places end number) (inner_labels func) ++ end_entries (has_below func)) in
    let group : List DwarfEntry = first ++ (body ∷ later) in
    let rest : List DwarfEntry = bodies_of types places end (at + length (entries_bytes group)) (number + length func.items) funcs in
    let same : number ≡ n = omega arith in
    subst (λ m. HasBodyEntry entries places end m func) same (record {
      place = 11 + length (entries_bytes (before ++ first));
      stands = record {
        before = before ++ first;
        behind = later ++ (rest ++ behind);
        are = e ∙ (ap (λ l. before ++ l) (append_assoc group rest behind) ∙ regrouped before first body later (rest ++ behind));
        is = refl;
      };
    })
bodies-stand entries types places end at number (func ∷ funcs) before behind e (suc f) n is h =
    let group : List DwarfEntry = body_entries types places end at number func in
    let rest : List DwarfEntry = bodies_of types places end (at + length (entries_bytes group)) (number + length func.items) funcs in
    bodies-stand entries types places end (at + length (entries_bytes group)) (number + length func.items) funcs (before ++ group) behind
    (e ∙ (ap (λ l. before ++ l) (append_assoc group rest behind) ∙ sym (append_assoc before group (rest ++ behind))))
    f n (omega arith) (omega arith)

-- ---- the section

-- its bytes one behind the other
in-order : (header unit word byte symbols bodies last : List ℕ)
    → ((((header ++ (unit ++ [])) ++ (word ++ (byte ++ []))) ++ symbols) ++ bodies) ++ last
    ≡ header ++ (unit ++ (word ++ (byte ++ (symbols ++ (bodies ++ last)))))
in-order header unit word byte symbols bodies last = simp (append_assoc, append-nil)

seven : length unit_header ≡ 7
unfolding four_bytes two_bytes
seven = refl

-- the place of the first type
first-place : (source : List ℕ) (low high : ℕ)
    → place_behind (unit_bytes source low high) ≡ 11 + length (entries_bytes (unit_entry source low high ∷ []))
first-place source low high =
    let a : length (unit_bytes source low high) ≡ length unit_header + length (entries_bytes (unit_entry source low high ∷ [])) =
    length-append unit_header (entries_bytes (unit_entry source low high ∷ [])) in
    let s : length unit_header ≡ 7 = seven in
    omega arith

-- the place of the symbols
symbols-place : (source : List ℕ) (low high : ℕ)
    → place_behind (front_bytes source low high)
    ≡ 11 + length (entries_bytes (unit_entry source low high ∷ base_type word_name 4 ∷ base_type byte_name 1 ∷ []))
symbols-place source low high =
    let both : List DwarfEntry = base_type word_name 4 ∷ base_type byte_name 1 ∷ [] in
    let a : length (front_bytes source low high) ≡ length (unit_bytes source low high) + length (entries_bytes both) =
    length-append (unit_bytes source low high) (entries_bytes both) in
    let b : place_behind (unit_bytes source low high) + length (entries_bytes both)
    ≡ 11 + length (entries_bytes (unit_entry source low high ∷ both)) =
    place-behind (unit_entry source low high ∷ []) both (place_behind (unit_bytes source low high)) (first-place source low high) in
    omega arith

module _ (source : List ℕ) (app : App) (places : Places) (end : ℕ) (lines : List ℕ) where
  abbrev low : ℕ
  low = item_address places end 0

  abbrev types : Types
  types = types_of source low end

  abbrev front : List DwarfEntry
  front = unit_entry source low end ∷ base_type word_name 4 ∷ base_type byte_name 1 ∷ []

  abbrev symbol-list : List DwarfEntry
  symbol-list = symbols_of types lines places.symbols (place_behind (front_bytes source low end)) 0 app.symbols

  abbrev body-list : List DwarfEntry
  body-list = bodies_of types places end (place_behind (symbols_behind (front_bytes source low end) types app places lines)) 0 app.funcs

  abbrev whole : List DwarfEntry
  whole = front ++ (symbol-list ++ (body-list ++ End ∷ []))

  right : All IsRight whole
  right =
      All-append IsRight front (symbol-list ++ (body-list ++ End ∷ []))
      (All-cons IsRight (unit_entry source low end) (base_type word_name 4 ∷ base_type byte_name 1 ∷ []) ((0, omega arith, refl), refl)
      (All-cons IsRight (base_type word_name 4) (base_type byte_name 1 ∷ []) ((1, omega arith, refl), refl)
      (All-cons IsRight (base_type byte_name 1) [] ((1, omega arith, refl), refl) (All-nil IsRight))))
      (All-append IsRight symbol-list (body-list ++ End ∷ [])
      (right-symbols types lines places.symbols (place_behind (front_bytes source low end)) 0 app.symbols)
      (All-append IsRight body-list (End ∷ [])
      (right-bodies types places end (place_behind (symbols_behind (front_bytes source low end) types app places lines)) 0 app.funcs) right-last))

  behind-types : entries_bytes (symbol-list ++ (body-list ++ End ∷ []))
      ≡ all_symbol_bytes types lines places.symbols (place_behind (front_bytes source low end)) 0 app.symbols
      ++ (all_body_bytes types places end (place_behind (symbols_behind (front_bytes source low end) types app places lines)) 0 app.funcs ++ 0 ∷ [])
  behind-types =
      flat_map-append entry_bytes symbol-list (body-list ++ End ∷ [])
      ∙ (ap (λ b. b ++ entries_bytes (body-list ++ End ∷ [])) (symbols-bytes types lines places.symbols _ 0 app.symbols)
      ∙ ap (λ b. all_symbol_bytes types lines places.symbols (place_behind (front_bytes source low end)) 0 app.symbols ++ b)
      (flat_map-append entry_bytes body-list (End ∷ [])
      ∙ ap (λ b. b ++ 0 ∷ []) (bodies-bytes types places end _ 0 app.funcs)))

  bytes-are : info_section source app places end lines ≡ sized (unit_header ++ entries_bytes whole)
  unfolding info_section
  bytes-are = ap sized (in-order unit_header (entry_bytes (unit_entry source low end)) (entry_bytes (base_type word_name 4)) (entry_bytes (base_type byte_name 1))
      (all_symbol_bytes types lines places.symbols (place_behind (front_bytes source low end)) 0 app.symbols)
      (all_body_bytes types places end (place_behind (symbols_behind (front_bytes source low end) types app places lines)) 0 app.funcs) (0 ∷ [])
      ∙ ap (λ b. unit_header ++ (entry_bytes (unit_entry source low end) ++ (entry_bytes (base_type word_name 4) ++ (entry_bytes (base_type byte_name 1) ++ b))))
      (sym behind-types))

  word : IsWordType whole types.word
  word = record {
    before = unit_entry source low end ∷ [];
    behind = base_type byte_name 1 ∷ (symbol-list ++ (body-list ++ End ∷ []));
    are = refl;
    is = first-place source low end;
  }

  byte : IsByteType whole types.byte
  byte = record {
    before = unit_entry source low end ∷ base_type word_name 4 ∷ [];
    behind = symbol-list ++ (body-list ++ End ∷ []);
    are = refl;
    is = place-behind (unit_entry source low end ∷ []) (base_type word_name 4 ∷ []) types.word (first-place source low end);
  }

  pub info_shows : HasCodeEntries (info_section source app places end lines) app places end lines
  info_shows = record {
    entries = whole;
    read = record {
      are = bytes-are;
      of_kinds = All-weaker IsRight (HasKindIn abbreviations) (λ e r. r.0) whole right;
      forms = All-weaker IsRight HasForms (λ e r. r.1) whole right;
    };
    symbols = λ k h. symbols-stand whole types lines places.symbols (place_behind (front_bytes source low end)) 0 app.symbols front
        (body-list ++ End ∷ []) word byte (symbols-place source low end) refl k k (omega arith) h;
    bodies = λ f h. bodies-stand whole types places end (place_behind (symbols_behind (front_bytes source low end) types app places lines)) 0 app.funcs
        (front ++ symbol-list) (End ∷ []) (sym (append_assoc front symbol-list (body-list ++ End ∷ []))) f (item_count (take f app.funcs)) (omega arith) h;
  }
