-- One element more of what loops put.
use Rattle.std.proofs.Common.{◌≡◌, ◌∙◌, ℕ, suc, ◌+◌, ◌-◌, ◌<◌, List, [], ◌∷◌, ◌++◌, append_assoc, arith, drop, get_or, length, map, refl, sym, ap}
use Rattle.std.specs.List.{flat_map, range_with_len}
use Rattle.std.proofs.lemmas.List.{drop_more}
use Rattle.sloth_base.specs.declared.config.Config.{Config}
use Rattle.sloth_region.specs.declared.region.Map.{Map}
use Rattle.orti_text.specs.OrtiTable.{numbered_object, numbered_objects}
use Rattle.orti_text.specs.Tables.{number_line, number_lines, object_text}
use Rattle.orti_text.specs.declared.attributes.Kind.{Kind}

-- a loop over the numbers from 0 to n appends an element of each
pub range_more : {X : Type 0} (f : ℕ → X) (i n : ℕ) (old new all : List X) → i < n → new ≡ old ++ f i ∷ []
    → old ++ map f (range_with_len i (n - i)) ≡ all → new ++ map f (range_with_len (i + 1) (n - (i + 1))) ≡ all
range_more f i n old new all h put before =
    let e : n - i ≡ suc (n - (i + 1)) = omega arith in
    let rest = map f (range_with_len (i + 1) (n - (i + 1))) in
    ap (λ l. l ++ rest) put ∙ append_assoc old (f i ∷ []) rest ∙ ap (λ k. old ++ map f (range_with_len i k)) (sym e) ∙ before

-- a loop over names appends the text of each
step : (text_from : ℕ → List (List ℕ) → List ℕ) (one : ℕ → List ℕ → List ℕ) (names : List (List ℕ)) (i : ℕ) (old new all : List ℕ) → i < length names
    → ((n : ℕ) (name : List ℕ) (rest : List (List ℕ)) → text_from n (name ∷ rest) ≡ one n name ++ text_from (n + 1) rest)
    → new ≡ old ++ one i (get_or names i []) → old ++ text_from i (drop i names) ≡ all → new ++ text_from (i + 1) (drop (i + 1) names) ≡ all
step text_from one names i old new all inside splits put before =
    let rest = text_from (i + 1) (drop (i + 1) names) in
    let name = get_or names i [] in
    ap (λ l. l ++ rest) put ∙ append_assoc old (one i name) rest ∙ ap (λ l. old ++ l) (sym (splits i name (drop (i + 1) names)))
    ∙ ap (λ l. old ++ text_from i l) (sym (drop_more names i [] inside)) ∙ before

pub number_more : (names : List (List ℕ)) (i : ℕ) (old new all : List ℕ) → i < length names → new ≡ old ++ number_line i (get_or names i [])
    → old ++ number_lines i (drop i names) ≡ all → new ++ number_lines (i + 1) (drop (i + 1) names) ≡ all
number_more names i old new all inside put before = step number_lines number_line names i old new all inside (λ n name rest. refl) put before

pub object_more : (config : Config) (m : Map) (k : Kind) (names : List (List ℕ)) (i : ℕ) (old new all : List ℕ) → i < length names
    → new ≡ old ++ object_text (numbered_object config m k i (get_or names i []))
    → old ++ flat_map object_text (numbered_objects config m k i (drop i names)) ≡ all
    → new ++ flat_map object_text (numbered_objects config m k (i + 1) (drop (i + 1) names)) ≡ all
object_more config m k names i old new all inside put before =
    step (λ n l. flat_map object_text (numbered_objects config m k n l)) (λ n name. object_text (numbered_object config m k n name)) names i old new all inside
    (λ n name rest. refl) put before
