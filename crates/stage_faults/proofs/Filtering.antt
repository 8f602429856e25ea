-- A loop that keeps of faults in order those that are told.
use Rattle.std.proofs.Common.{◌≡◌, ◌∙◌, ℕ, suc, ◌+◌, ◌<◌, Bool, true, false, List, [], ◌∷◌, ◌++◌, drop, get_or, length, ap, sym, append_assoc, add-one}
use Rattle.std.specs.Prelude.{◌||◌, nat_lt, cond}
use Rattle.std.proofs.Math.Seq.{drop-cons}
use Rattle.stage_faults.specs.declared.notes.Note.{Note}
use Rattle.stage_faults.specs.Told.{note_order, told_from}

from_here : (xs : List Note) (i : ℕ) (x : Note) → i < length xs → x ≡ get_or xs i x → drop i xs ≡ x ∷ drop (i + 1) xs
from_here xs i x h e = rw add-one (drop-cons xs i x h ∙ ap (λ (y : Note). y ∷ drop (suc i) xs) (sym e))

-- from here on, by whether this one is left out
told_here : (xs : List Note) (i place : ℕ) (x : Note) (out : Bool) → i < length xs → x ≡ get_or xs i x → (x.follows || nat_lt (note_order x) place) ≡ out
    → told_from place (drop i xs) ≡ cond out (told_from place (drop (i + 1) xs)) (x ∷ told_from (note_order x + 1) (drop (i + 1) xs))
told_here xs i place x out h e test =
    ap (told_from place) (from_here xs i x h e) ∙ ap (λ b. cond b (told_from place (drop (i + 1) xs)) (x ∷ told_from (note_order x + 1) (drop (i + 1) xs))) test

pub left_out_more : (xs : List Note) (i place : ℕ) (x : Note) (list all : List Note) → i < length xs → x ≡ get_or xs i x → (x.follows || nat_lt (note_order x) place) ≡ true
    → list ++ told_from place (drop i xs) ≡ all → list ++ told_from place (drop (i + 1) xs) ≡ all
left_out_more xs i place x list all h e test before = ap (λ t. list ++ t) (sym (told_here xs i place x true h e test)) ∙ before

pub told_more : (xs : List Note) (i place : ℕ) (x : Note) (list new all : List Note) → i < length xs → x ≡ get_or xs i x → (x.follows || nat_lt (note_order x) place) ≡ false
    → new ≡ list ++ x ∷ [] → list ++ told_from place (drop i xs) ≡ all → new ++ told_from (note_order x + 1) (drop (i + 1) xs) ≡ all
told_more xs i place x list new all h e test put before =
    let rest = told_from (note_order x + 1) (drop (i + 1) xs) in
    ap (λ t. t ++ rest) put ∙ append_assoc list (x ∷ []) rest ∙ ap (λ t. list ++ t) (sym (told_here xs i place x false h e test)) ∙ before
