-- Maps that number names.
use Rattle.std.proofs.Common.{◌≡◌, ◌∙◌, ℕ, Bool, true, false, cond, Some, None, Option, List, [], ◌∷◌, ◌++◌, length, refl, ap, sym}
use Rattle.std.specs.Prelude.{if◌then◌else◌, position, is_some, map}
use Rattle.std.specs.Borrow.{Bor}
use Rattle.std.specs.Str.{bytes_eq}
use Rattle.std.proofs.lemmas.Map.Text.{hash_map_updates_str}
use Rattle.std.proofs.lemmas.Slice.Eq.{bytes_eq-Decides}
use Rattle.indexmap.specs.IndexMap.{IndexMap, UpdatesBy}
use Rattle.text_pieces.specs.Names.{referent, number_in, with_first, AreNumbered}
use Rattle.text_pieces.proofs.Places.{bytes_eq-sym, position_push}

either_same : (o : Option ℕ) → (if is_some o then o else o) ≡ o
either_same None = refl
either_same (Some i) = refl

pub number_more : {S : Type 0} (m n : IndexMap (Bor (List ℕ)) ℕ S) (name : Bor (List ℕ)) (number : ℕ)
    → UpdatesBy (λ (x : Bor (List ℕ)) y. bytes_eq x.now y.now) (λ k. bytes_eq name.now k.now) m n (Some number) → is_some (number_in m name.now) ≡ false
    → (word : List ℕ) → number_in n word ≡ with_first (number_in m) name.now number word
number_more m n name number u none word = hash_map_updates_str name.now m n (Some number) u word ∙ by (bytes_eq name.now word) refl
  where
    by : (b : Bool) → bytes_eq name.now word ≡ b → cond (bytes_eq name.now word) (Some number) (number_in m word) ≡ with_first (number_in m) name.now number word
    by true e =
        let w : name.now ≡ word = (bytes_eq-Decides name.now word).0 e in
        let z : is_some (number_in m word) ≡ false = ap (λ (x : List ℕ). is_some (number_in m x)) (sym w) ∙ none in
        ap (λ b. cond b (Some number) (number_in m word)) e ∙ sym (ap (λ b. cond b (number_in m word) (cond (bytes_eq word name.now) (Some number) (number_in m word))) z
        ∙ ap (λ b. cond b (Some number) (number_in m word)) (bytes_eq-sym word name.now ∙ e))
    by false e =
        ap (λ b. cond b (Some number) (number_in m word)) e
        ∙ sym (ap (λ b. cond (is_some (number_in m word)) (number_in m word) (cond b (Some number) (number_in m word))) (bytes_eq-sym word name.now ∙ e) ∙ either_same (number_in m word))

-- One name more, at the end, has the number of all before it unless it has one.
pub numbered_push : {S : Type 0} (m n : IndexMap (Bor (List ℕ)) ℕ S) (names : List (List ℕ)) (name : List ℕ) (number : ℕ) → number ≡ length names → AreNumbered m names
    → ((word : List ℕ) → number_in n word ≡ with_first (number_in m) name number word) → AreNumbered n (names ++ name ∷ [])
numbered_push m n names name number c a f = λ word.
    f word ∙ ap (λ (o : Option ℕ). if is_some o then o else if bytes_eq word name then Some number else o) (a word)
    ∙ ap (λ k. if is_some (position (bytes_eq word) names) then position (bytes_eq word) names else if bytes_eq word name then Some k else position (bytes_eq word) names) c
    ∙ sym (position_push (bytes_eq word) name names)

pub names_push : (names : List (Bor (List ℕ))) (name : Bor (List ℕ)) → map referent (names ++ name ∷ []) ≡ map referent names ++ name.now ∷ []
names_push [] name = refl
names_push (n ∷ names) name = ap (λ (x : List (List ℕ)). n.now ∷ x) (names_push names name)
