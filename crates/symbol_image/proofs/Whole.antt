-- The section of entries is what its parts are one behind the other.
use Rattle.std.proofs.Common.{◌≡◌, ◌≤◌, ◌+◌, ℕ, List, [], ◌∷◌, ◌++◌, drop, length, refl, sym, ap, ◌∙◌, arith, append-nil}
use Rattle.std.specs.List.{flat_map}
use Rattle.std.proofs.lemmas.List.Concat.{flat_map-append}
use Rattle.image_file.specs.Fields.{four_bytes, two_bytes}
use Rattle.sloth_base.specs.declared.app.App.{App}
use Rattle.sloth_base.specs.declared.limits.Places.{Places}
use Rattle.symbol_image.specs.Entries.{all_body_bytes, all_symbol_bytes, base_type, byte_name, info_section, place_behind, types_of, unit_bytes, unit_entry, unit_header, unit_names, unit_places, word_name}
use Rattle.symbol_image.specs.EntryBytes.{entries_bytes, entry_bytes, value_bytes}
use Rattle.symbol_image.specs.Fields.{sized}
use Rattle.map_text.specs.LineRows.{item_address}
use Rattle.symbol_image.specs.declared.bodies.Types.{Types}

header : unit_header ≡ 4 ∷ 0 ∷ 0 ∷ 0 ∷ 0 ∷ 0 ∷ 4 ∷ []
unfolding four_bytes two_bytes
header = refl

-- the unit's header and entry, behind room for its length
pub unit_made : (source : List ℕ) (low high : ℕ) (a b c : List ℕ) → a ≡ 0 ∷ 0 ∷ 0 ∷ 0 ∷ 4 ∷ 0 ∷ 0 ∷ 0 ∷ 0 ∷ 0 ∷ 4 ∷ []
    → b ≡ a ++ 1 ∷ flat_map value_bytes (unit_names source) → c ≡ b ++ flat_map value_bytes (unit_places low high)
    → c ≡ 0 ∷ 0 ∷ 0 ∷ 0 ∷ unit_bytes source low high
unit_made source low high a b c first second third =
    let names : List ℕ = flat_map value_bytes (unit_names source) in
    let places : List ℕ = flat_map value_bytes (unit_places low high) in
    let entry : entries_bytes (unit_entry source low high ∷ []) ≡ 1 ∷ (names ++ places) =
    append-nil (entry_bytes (unit_entry source low high)) ∙ ap (λ l. 1 ∷ l) (flat_map-append value_bytes (unit_names source) (unit_places low high)) in
    third ∙ (ap (λ l. l ++ places) (second ∙ ap (λ l. l ++ 1 ∷ names) first)
    ∙ ap (λ l. 0 ∷ 0 ∷ 0 ∷ 0 ∷ l) (sym (ap (λ l. l ++ entries_bytes (unit_entry source low high ∷ [])) header
    ∙ ap (λ l. 4 ∷ 0 ∷ 0 ∷ 0 ∷ 0 ∷ 0 ∷ 4 ∷ l) entry)))

same-types : (a b : Types) → a.word ≡ b.word → a.byte ≡ b.byte → a ≡ b
same-types a b e f =
    ap (λ (n : ℕ). let t : Types = record { word = n; byte = a.byte } in t) e ∙ ap (λ (n : ℕ). let t : Types = record { word = b.word; byte = n } in t) f

four_more : (a x : List ℕ) → a ≡ 0 ∷ 0 ∷ 0 ∷ 0 ∷ x → length a ≡ place_behind x
four_more a x e = let l : length a ≡ length (0 ∷ 0 ∷ 0 ∷ 0 ∷ x) = ap length e in omega arith

-- room for the length is always there
pub long_enough : (x y z w a b c d e : List ℕ) → a ≡ 0 ∷ 0 ∷ 0 ∷ 0 ∷ x → b ≡ a ++ y → c ≡ b ++ z → d ≡ c ++ w → e ≡ d ++ 0 ∷ [] → 4 ≤ length e
long_enough x y z w a b c d e ha hb hc hd he =
    let whole : e ≡ 0 ∷ 0 ∷ 0 ∷ 0 ∷ ((((x ++ y) ++ z) ++ w) ++ 0 ∷ []) =
    he ∙ ap (λ l. l ++ 0 ∷ []) (hd ∙ ap (λ l. l ++ w) (hc ∙ ap (λ l. l ++ z) (hb ∙ ap (λ l. l ++ y) ha))) in
    let long : length e ≡ 4 + length ((((x ++ y) ++ z) ++ w) ++ 0 ∷ []) = four_more e ((((x ++ y) ++ z) ++ w) ++ 0 ∷ []) whole in
    omega arith

module _ (source : List ℕ) (app : App) (places : Places) (end : ℕ) (lines : List ℕ) where
  abbrev unit : List ℕ
  unit = unit_bytes source (item_address places end 0) end

  abbrev both : List ℕ
  both = entries_bytes (base_type word_name 4 ∷ base_type byte_name 1 ∷ [])

  abbrev symbols-at : Types → ℕ → List ℕ
  symbols-at types at = all_symbol_bytes types lines places.symbols at 0 app.symbols

  abbrev bodies-at : Types → ℕ → List ℕ
  bodies-at types at = all_body_bytes types places end at 0 app.funcs

  pub section_made : (low : ℕ) → low ≡ item_address places end 0 → (types : Types) (a b c d e : List ℕ) → a ≡ 0 ∷ 0 ∷ 0 ∷ 0 ∷ unit_bytes source low end
      → types.word ≡ length a → types.byte ≡ length a + length (entry_bytes (base_type word_name 4)) → b ≡ a ++ both
      → c ≡ b ++ symbols-at types (length b) → d ≡ c ++ bodies-at types (length c) → e ≡ d ++ 0 ∷ []
      → sized (drop 4 e) ≡ info_section source app places end lines
  unfolding info_section
  section_made low is types a b c d e made hw hb h1 h2 h3 h4 =
      let wanted : Types = types_of source (item_address places end 0) end in
      let front : List ℕ = unit ++ both in
      let ha : a ≡ 0 ∷ 0 ∷ 0 ∷ 0 ∷ unit = made ∙ ap (λ n. 0 ∷ 0 ∷ 0 ∷ 0 ∷ unit_bytes source n end) is in
      let long : length a ≡ place_behind unit = four_more a unit ha in
      let same : types ≡ wanted = same-types types wanted (hw ∙ long) (hb ∙ ap (λ n. n + length (entry_bytes (base_type word_name 4))) long) in
      let is-b : b ≡ 0 ∷ 0 ∷ 0 ∷ 0 ∷ front = h1 ∙ ap (λ l. l ++ both) ha in
      let is-c : c ≡ 0 ∷ 0 ∷ 0 ∷ 0 ∷ (front ++ symbols-at types (length b)) = h2 ∙ ap (λ l. l ++ symbols-at types (length b)) is-b in
      let at : length b ≡ place_behind front = four_more b front is-b in
      let symbols : symbols-at types (length b) ≡ symbols-at wanted (place_behind front) =
      ap (λ t. symbols-at t (length b)) same ∙ ap (symbols-at wanted) at in
      let after : length c ≡ place_behind (front ++ symbols-at wanted (place_behind front)) =
      four_more c (front ++ symbols-at wanted (place_behind front)) (is-c ∙ ap (λ s. 0 ∷ 0 ∷ 0 ∷ 0 ∷ (front ++ s)) symbols) in
      ap (λ l. sized (drop 4 l)) (h4 ∙ ap (λ l. l ++ 0 ∷ []) (h3 ∙ ap (λ l. l ++ bodies-at types (length c)) is-c))
      ∙ (ap (λ s. sized (((front ++ s) ++ bodies-at types (length c)) ++ 0 ∷ [])) symbols
      ∙ ap (λ s. sized (((front ++ symbols-at wanted (place_behind front)) ++ s) ++ 0 ∷ []))
      (ap (λ t. bodies-at t (length c)) same ∙ ap (bodies-at wanted) after))
