-- The places of lines are those that the last comments above them state.
use Rattle.std.proofs.Common.{◌≡◌, ◌≤◌, ◌<◌, ◌∙◌, ◌⊎◌, inl, inr, ℕ, zero, suc, Bool, true, false, cond, List, [], ◌∷◌, ◌++◌, Option, Some, get_or, length, refl, sym, ap, arith, append_assoc}
use Rattle.std.specs.Prelude.{◌&&◌, is_some, not, position}
use Rattle.std.specs.List.{flat_map, list_any}
use Rattle.std.proofs.lemmas.List.{append-nil}
use Rattle.std.specs.Str.{bytes_eq}
use Rattle.std.proofs.lemmas.Slice.Eq.{bytes_eq-Decides}
use Rattle.text_pieces.proofs.Places.{position-any, position_push}
use Rattle.asm_lines.specs.declared.source_line.SourceLine.{SourceLine}
use Rattle.asm_lines.specs.declared.source_line.SourceLine.TheVariants.{Empty}
use Rattle.asm_scopes.specs.Statements.{closes_body}
use Rattle.map_text.specs.LinePlaces.{all_names, file_behind, file_entry, further_files, is_new, is_stated, line_places, names_behind, no_place, number_or, place_behind, place_here, stated_line, stated_name, stated_place}
use Rattle.map_text.specs.StatedPlaces.{FilesAreNames, IsLast, OthersHaveNone, PlacesAreStated}
use Rattle.map_text.specs.declared.line_places.Place.{Place}

-- ---- the number of a name that is known stays

kept : (w : List ℕ) (names : List (List ℕ)) (line : List ℕ) → is_some (position (bytes_eq w) names) ≡ true
    → position (bytes_eq w) (names_behind names line) ≡ position (bytes_eq w) names
unfolding names_behind
kept w names line h = by (is_new names line)
  where
    by : (b : Bool) → position (bytes_eq w) (cond b (names ++ stated_name line ∷ []) names) ≡ position (bytes_eq w) names
    by false = refl
    by true =
        position_push (bytes_eq w) (stated_name line) names
        ∙ ap (λ (t : Bool). cond t (position (bytes_eq w) names) (cond (bytes_eq w (stated_name line)) (Some (length names)) (position (bytes_eq w) names))) h

all-kept : (w : List ℕ) (names lines : List (List ℕ)) → is_some (position (bytes_eq w) names) ≡ true
    → position (bytes_eq w) (all_names names lines) ≡ position (bytes_eq w) names
all-kept w names [] h = refl
all-kept w names (l ∷ ls) h = let k = kept w names l h in all-kept w (names_behind names l) ls (ap is_some k ∙ h) ∙ k

itself : (w : List ℕ) → bytes_eq w w ≡ true
itself w = (bytes_eq-Decides w w).1 refl

known : (names : List (List ℕ)) (line : List ℕ) → is_stated line ≡ true → is_some (position (bytes_eq (stated_name line)) (names_behind names line)) ≡ true
unfolding names_behind
known names line s =
    ap (λ (b : Bool). is_some (position (bytes_eq (stated_name line)) (cond (b && not (list_any (bytes_eq (stated_name line)) names)) (names ++ stated_name line ∷ []) names))) s
    ∙ by (list_any (bytes_eq (stated_name line)) names) refl
  where
    name : List ℕ
    name = stated_name line

    by : (c : Bool) → list_any (bytes_eq name) names ≡ c → is_some (position (bytes_eq name) (cond (not c) (names ++ name ∷ []) names)) ≡ true
    by true e = position-any (bytes_eq name) names ∙ e
    by false e =
        let o = position (bytes_eq name) names in
        ap is_some (position_push (bytes_eq name) name names)
        ∙ ap (λ (t : Bool). is_some (cond t o (cond (bytes_eq name name) (Some (length names)) o))) (position-any (bytes_eq name) names ∙ e)
        ∙ ap (λ (t : Bool). is_some (cond t (Some (length names)) o)) (itself name)

same_place : (names lines : List (List ℕ)) (line : List ℕ) → is_stated line ≡ true
    → stated_place (names_behind names line) line ≡ stated_place (all_names (names_behind names line) lines) line
same_place names lines line s =
    ap (λ (o : Option ℕ). let p : Place = record { file = number_or o; line = stated_line line } in p)
    (sym (all-kept (stated_name line) (names_behind names line) lines (known names line s)))

-- ---- the table of files has the names

entries-more : (names : List (List ℕ)) (name : List ℕ) → flat_map file_entry names ++ file_entry name ≡ flat_map file_entry (names ++ name ∷ [])
entries-more [] name = sym (append-nil (file_entry name))
entries-more (first ∷ names) name =
    append_assoc (file_entry first) (flat_map file_entry names) (file_entry name) ∙ ap (λ b. file_entry first ++ b) (entries-more names name)

entries-behind : (names : List (List ℕ)) (line : List ℕ) → flat_map file_entry names ++ file_behind names line ≡ flat_map file_entry (names_behind names line)
unfolding names_behind file_behind
entries-behind names line = by (is_new names line)
  where
    by : (b : Bool) → flat_map file_entry names ++ cond b (file_entry (stated_name line)) [] ≡ flat_map file_entry (cond b (names ++ stated_name line ∷ []) names)
    by true = entries-more names (stated_name line)
    by false = append-nil (flat_map file_entry names)

entries-all : (names lines : List (List ℕ)) → flat_map file_entry names ++ further_files names lines ≡ flat_map file_entry (all_names names lines)
entries-all names [] = append-nil (flat_map file_entry names)
entries-all names (l ∷ ls) =
    sym (append_assoc (flat_map file_entry names) (file_behind names l) (further_files (names_behind names l) ls))
    ∙ (ap (λ b. b ++ further_files (names_behind names l) ls) (entries-behind names l) ∙ entries-all (names_behind names l) ls)

pub files_are_names : FilesAreNames
files_are_names lines = entries-all [] lines

-- ---- one line

stated-here : (names : List (List ℕ)) (left : Place) (line : List ℕ) → is_stated line ≡ true → place_here names left line ≡ stated_place names line
unfolding place_here
stated-here names left line e = ap (λ (b : Bool). cond b (stated_place names line) left) e

silent-here : (names : List (List ℕ)) (left : Place) (line : List ℕ) → is_stated line ≡ false → place_here names left line ≡ left
unfolding place_here
silent-here names left line e = ap (λ (b : Bool). cond b (stated_place names line) left) e

open-behind : (here : Place) (statement : SourceLine) → closes_body statement ≡ false → place_behind here statement ≡ here
open-behind here statement e = ap (λ (b : Bool). cond b no_place here) e

-- ---- lines that state nothing, in a body

carried : (names : List (List ℕ)) (left : Place) (lines : List (List ℕ)) (statements : List SourceLine) (n : ℕ) → length statements ≡ length lines → n < length lines
    → ((j : ℕ) → j ≤ n → is_stated (get_or lines j []) ≡ false) → ((j : ℕ) → j < n → closes_body (get_or statements j Empty) ≡ false)
    → get_or (line_places names left lines statements) n no_place ≡ left
carried names left [] statements n same below silent inside = absurd (omega (arith, below))
carried names left (l ∷ ls) [] n same below silent inside = absurd (omega (arith, same))
carried names left (l ∷ ls) (s ∷ ss) zero same below silent inside = silent-here (names_behind names l) left l (silent 0 (omega arith))
carried names left (l ∷ ls) (s ∷ ss) (suc n) same below silent inside =
    let here = place_here (names_behind names l) left l in
    carried (names_behind names l) (place_behind here s) ls ss n (omega (arith, same)) (omega (arith, below)) (λ j h. silent (suc j) (omega (arith, h)))
    (λ j h. inside (suc j) (omega (arith, h)))
    ∙ (open-behind here s (inside 0 (omega arith)) ∙ silent-here (names_behind names l) left l (silent 0 (omega arith)))

stated : (names : List (List ℕ)) (left : Place) (lines : List (List ℕ)) (statements : List SourceLine) (k n : ℕ) → length statements ≡ length lines → n < length lines
    → IsLast lines statements k n → get_or (line_places names left lines statements) n no_place ≡ stated_place (all_names names lines) (get_or lines k [])
stated names left [] statements k n same below last = absurd (omega (arith, below))
stated names left (l ∷ ls) [] k n same below last = absurd (omega (arith, same))
stated names left (l ∷ ls) (s ∷ ss) zero zero same below last = stated-here (names_behind names l) left l last.states ∙ same_place names ls l last.states
stated names left (l ∷ ls) (s ∷ ss) zero (suc n) same below last =
    let here = place_here (names_behind names l) left l in
    carried (names_behind names l) (place_behind here s) ls ss n (omega (arith, same)) (omega (arith, below))
    (λ j h. last.silent (suc j) (omega arith) (omega (arith, h))) (λ j h. last.inside (suc j) (omega arith) (omega (arith, h)))
    ∙ (open-behind here s (last.inside 0 (omega arith) (omega arith)) ∙ (stated-here (names_behind names l) left l last.states ∙ same_place names ls l last.states))
stated names left (l ∷ ls) (s ∷ ss) (suc k) zero same below last = let a = last.above in absurd (omega (arith, a))
stated names left (l ∷ ls) (s ∷ ss) (suc k) (suc n) same below last =
    let a = last.above in
    stated (names_behind names l) (place_behind (place_here (names_behind names l) left l) s) ls ss k n (omega (arith, same)) (omega (arith, below))
    (record {
      above = omega (arith, a);
      states = last.states;
      silent = λ j g h. last.silent (suc j) (omega (arith, g)) (omega (arith, h));
      inside = λ j g h. last.inside (suc j) (omega (arith, g)) (omega (arith, h));
    })

pub places_are_stated : PlacesAreStated
places_are_stated lines statements k n same below last = stated [] no_place lines statements k n same below last

-- ---- lines without a place

-- a line has the place that is left in front of all, or one of them is the last that states one, or it has none
record Carries (left place : Place) (lines : List (List ℕ)) (statements : List SourceLine) (n : ℕ) : Type 0 where
  is : place ≡ left
  silent : (j : ℕ) → j ≤ n → is_stated (get_or lines j []) ≡ false
  inside : (j : ℕ) → j < n → closes_body (get_or statements j Empty) ≡ false

abbrev Told : (left place : Place) → List (List ℕ) → List SourceLine → (n : ℕ) → Type 0
Told left place lines statements n = Carries left place lines statements n ⊎ ((k : ℕ) × IsLast lines statements k n) ⊎ (place ≡ no_place)

module _ (l : List ℕ) (s : SourceLine) (ls : List (List ℕ)) (ss : List SourceLine) where
  none-at : is_stated l ≡ false → (n : ℕ) → ((j : ℕ) → j ≤ n → is_stated (get_or ls j []) ≡ false) → (j : ℕ) → j ≤ suc n → is_stated (get_or (l ∷ ls) j []) ≡ false
  none-at e n silent zero h = e
  none-at e n silent (suc j) h = silent j (omega (arith, h))

  open-at : closes_body s ≡ false → (n : ℕ) → ((j : ℕ) → j < n → closes_body (get_or ss j Empty) ≡ false) → (j : ℕ) → j < suc n → closes_body (get_or (s ∷ ss) j Empty) ≡ false
  open-at e n inside zero h = e
  open-at e n inside (suc j) h = inside j (omega (arith, h))

  first-last : is_stated l ≡ true → closes_body s ≡ false → (n : ℕ) → ((j : ℕ) → j ≤ n → is_stated (get_or ls j []) ≡ false)
      → ((j : ℕ) → j < n → closes_body (get_or ss j Empty) ≡ false) → IsLast (l ∷ ls) (s ∷ ss) 0 (suc n)
  first-last e o n silent inside = record {
    above = omega arith;
    states = e;
    silent = silent-by;
    inside = λ j g h. open-at o n inside j h;
  }
    where
      silent-by : (j : ℕ) → 0 < j → j ≤ suc n → is_stated (get_or (l ∷ ls) j []) ≡ false
      silent-by zero g h = absurd (omega (arith, g))
      silent-by (suc j) g h = silent j (omega (arith, h))

  further-last : (k n : ℕ) → IsLast ls ss k n → IsLast (l ∷ ls) (s ∷ ss) (suc k) (suc n)
  further-last k n last = let a = last.above in record { above = omega (arith, a); states = last.states; silent = silent-by; inside = inside-by }
    where
      silent-by : (j : ℕ) → suc k < j → j ≤ suc n → is_stated (get_or (l ∷ ls) j []) ≡ false
      silent-by zero g h = absurd (omega (arith, g))
      silent-by (suc j) g h = last.silent j (omega (arith, g)) (omega (arith, h))

      inside-by : (j : ℕ) → suc k ≤ j → j < suc n → closes_body (get_or (s ∷ ss) j Empty) ≡ false
      inside-by zero g h = absurd (omega (arith, g))
      inside-by (suc j) g h = last.inside j (omega (arith, g)) (omega (arith, h))

  alone : is_stated l ≡ true → IsLast (l ∷ ls) (s ∷ ss) 0 0
  alone e = record {
    above = omega arith;
    states = e;
    silent = λ j g h. absurd (omega (arith, g, h));
    inside = λ j g h. absurd (omega (arith, h));
  }

  first-told : (names : List (List ℕ)) (left : Place) → (b : Bool) → is_stated l ≡ b → Told left (place_here names left l) (l ∷ ls) (s ∷ ss) 0
  first-told names left true e = inr (inl (0, alone e))
  first-told names left false e =
      inl (record { is = silent-here names left l e; silent = at-first; inside = λ j h. absurd (omega (arith, h)) })
    where
      at-first : (j : ℕ) → j ≤ 0 → is_stated (get_or (l ∷ ls) j []) ≡ false
      at-first zero h = e
      at-first (suc j) h = absurd (omega (arith, h))

  next-told : (names : List (List ℕ)) (left place : Place) (n : ℕ) → Told (place_behind (place_here names left l) s) place ls ss n → Told left place (l ∷ ls) (s ∷ ss) (suc n)
  next-told names left place n (inr (inl last)) = inr (inl (suc last.0, further-last last.0 n last.1))
  next-told names left place n (inr (inr none)) = inr (inr none)
  next-told names left place n (inl h) = by (closes_body s) refl (is_stated l) refl
    where
      here : Place
      here = place_here names left l

      by : (b : Bool) → closes_body s ≡ b → (c : Bool) → is_stated l ≡ c → Told left place (l ∷ ls) (s ∷ ss) (suc n)
      by true e c f = inr (inr (h.is ∙ ap (λ (t : Bool). cond t no_place here) e))
      by false e true f = inr (inl (0, first-last f e n h.silent h.inside))
      by false e false f =
          inl (record { is = h.is ∙ (open-behind here s e ∙ silent-here names left l f); silent = none-at f n h.silent; inside = open-at e n h.inside })

told : (names : List (List ℕ)) (left : Place) (lines : List (List ℕ)) (statements : List SourceLine) (n : ℕ)
    → Told left (get_or (line_places names left lines statements) n no_place) lines statements n
told names left [] statements n = inr (inr refl)
told names left (l ∷ ls) [] n = inr (inr refl)
told names left (l ∷ ls) (s ∷ ss) zero = first-told l s ls ss (names_behind names l) left (is_stated l) refl
told names left (l ∷ ls) (s ∷ ss) (suc n) =
    let here = place_here (names_behind names l) left l in
    next-told l s ls ss (names_behind names l) left (get_or (line_places (names_behind names l) (place_behind here s) ls ss) n no_place) n
    (told (names_behind names l) (place_behind here s) ls ss n)

pub others_have_none : OthersHaveNone
others_have_none lines statements n never = by (told [] no_place lines statements n)
  where
    by : Told no_place (get_or (line_places [] no_place lines statements) n no_place) lines statements n → get_or (line_places [] no_place lines statements) n no_place ≡ no_place
    by (inl h) = h.is
    by (inr (inl last)) = absurd (never last.0 last.1)
    by (inr (inr none)) = none
