-- The table of the marks finds what a search among them finds.
use Rattle.std.proofs.Common.{◌≡◌, ◌≢◌, ◌∙◌, ℕ, zero, suc, ◌<◌, ◌+◌, ◌-◌, ◌*◌, ◌++◌, List, [], ◌∷◌, length, get_or, set, take, Bool, cond, Option, Some, None, ⊎_elim, refl, sym, ap, subst, arith}
use Rattle.std.specs.Prelude.{find, slice_get, ◌==◌}
use Rattle.std.specs.Option.{option_or}
use Rattle.std.proofs.lemmas.Bool.Decides.{eqb_tells, nat_tests}
use Rattle.std.proofs.lemmas.List.{take_more, get_or-set_same, get_or-set_other}
use Rattle.std.proofs.lemmas.List.Folds.{find-append}
use Rattle.std.proofs.lemmas.Option.{slice_get-get_or}
use Rattle.sloth_base.specs.declared.image.Mark.{Mark}
use Rattle.observe.specs.MarkTable.{entry_place, number_in, mark_of, AreNumbers, IsMarkTable, IsPlaced}

-- an address has its own place
place_is : (from address place : ℕ) → entry_place from address ≡ Some place → address ≡ from + place * 4
place_is from address place e = grind (arith, nat_tests)

one_address : (from a b place : ℕ) → entry_place from a ≡ Some place → entry_place from b ≡ Some place → a ≡ b
one_address from a b place e f = let x = place_is from a place e in let y = place_is from b place f in omega arith

-- a number that is not 0
pub mark_of_number : (marks : List Mark) (number : ℕ) → number ≢ 0 → slice_get marks (number - 1) ≡ mark_of marks number
mark_of_number marks zero some = absurd (some refl)
mark_of_number marks (suc place) some = let e : suc place - 1 ≡ place = omega arith in ap (slice_get marks) e

-- ---- the loop over the marks

-- an element in front of none
or_none : (o : Option Mark) → option_or o None ≡ o
or_none None = refl
or_none (Some mark) = refl

-- the number of another place is as before
others : (from address other place number : ℕ) (old : List ℕ) (o : Option ℕ) → address ≢ other → entry_place from other ≡ Some place → entry_place from address ≡ o
    → number_in (set old place number) o ≡ number_in old o
others from address other place number old None apart e f = refl
others from address other place number old (Some p) apart e f =
    get_or-set_other old place p number 0 (λ (same : p ≡ place). apart (one_address from address other place (f ∙ ap Some same) e))

numbers_more : (marks : List Mark) (from i : ℕ) (old new : List ℕ) (mark d : Mark) → i < length marks → mark ≡ get_or marks i d
    → IsPlaced (entry_place from mark.address) (i + 1) old new → AreNumbers marks from old i → AreNumbers marks from new (i + 1)
numbers_more marks from i old new mark d lt is placed told = by (entry_place from mark.address) refl placed
  where
    by : (o : Option ℕ) → entry_place from mark.address ≡ o → IsPlaced o (i + 1) old new → AreNumbers marks from new (i + 1)
    by None e p = absurd p
    by (Some place) e p = λ address.
        let P : Mark → Bool = λ m. m.address == address in
        let last : find P (mark ∷ []) ≡ cond (mark.address == address) (Some mark) None = refl in
        let whole : find P (take (i + 1) marks) ≡ option_or (find P (take i marks)) (find P (mark ∷ [])) =
        ap (find P) (take_more marks i d lt ∙ ap (λ m. take i marks ++ m ∷ []) (sym is)) ∙ find-append P (take i marks) (mark ∷ []) in
        ⊎_elim
        (λ yes.
        let here : entry_place from address ≡ Some place = ap (entry_place from) (sym yes.1) ∙ e in
        let number : number_in new (entry_place from address) ≡ suc i =
        ap (number_in new) here ∙ ap (λ ns. get_or ns place 0) p.2 ∙ get_or-set_same old place (i + 1) 0 p.0 ∙ omega arith in
        let none : find P (take i marks) ≡ None = sym (told address) ∙ ap (λ o. mark_of marks (number_in old o)) here ∙ ap (mark_of marks) p.1 in
        ap (mark_of marks) number ∙ slice_get-get_or marks i d lt ∙ ap Some (sym is)
        ∙ sym (whole ∙ ap (λ o. option_or o (find P (mark ∷ []))) none ∙ ap (λ b. cond b (Some mark) None) yes.0))
        (λ no.
        let same : number_in new (entry_place from address) ≡ number_in old (entry_place from address) =
        ap (λ ns. number_in ns (entry_place from address)) p.2
        ∙ others from address mark.address place (i + 1) old (entry_place from address) (λ (q : address ≡ mark.address). no.1 (sym q)) e refl in
        ap (mark_of marks) same ∙ told address
        ∙ sym (whole ∙ ap (λ b. option_or (find P (take i marks)) (cond b (Some mark) None)) no.0 ∙ or_none (find P (take i marks))))
        (eqb_tells mark.address address)

pub numbers_placed : (marks : List Mark) (from i : ℕ) (old new : List ℕ) (mark d : Mark) (place : Option ℕ) → i < length marks → mark ≡ get_or marks i d
    → place ≡ entry_place from mark.address → IsPlaced place (i + 1) old new → AreNumbers marks from old i → AreNumbers marks from new (i + 1)
numbers_placed marks from i old new mark d place lt is at placed told =
    let P : Option ℕ → Type 0 = λ o. IsPlaced o (i + 1) old new in
    numbers_more marks from i old new mark d lt is (subst P at placed) told

-- all marks
pub numbers_all : (marks : List Mark) (from n : ℕ) (numbers : List ℕ) → take n marks ≡ marks → AreNumbers marks from numbers n
    → IsMarkTable marks (record { from = from; numbers = numbers })
numbers_all marks from n numbers all told = λ address. told address ∙ ap (find (λ mark. mark.address == address)) all
