-- The lengths of all bodies, one body after the other.
use Rattle.std.proofs.Common.{◌≡◌, ◌∙◌, ℕ, zero, suc, ◌+◌, ◌<◌, ◌≤◌, false, List, [], ◌∷◌, ◌++◌, length, get_or, drop, refl, sym, ap, subst, arith, append_assoc, drop-cons, length-append}
use Rattle.std.proofs.lemmas.List.{append-nil, drop_all, get_or_append_left, get_or-append-add}
use Rattle.sloth_base.specs.Named.{no_function}
use Rattle.sloth_base.specs.declared.app.App.{App}
use Rattle.sloth_base.specs.declared.app.Func.{Func}
use Rattle.rv32_expand.specs.Long.{BranchSet, size_at, AreLongBranches}
use Rattle.rv32_expand.specs.Passes.{AreShortest}
use Rattle.rv32_expand.specs.Sizes.{items_before, AreItemSizes}

-- the lengths of the first body, and those of the others
abbrev pub AreSizesOf : App → List Func → List ℕ → Type 0
AreSizesOf app [] sizes = sizes ≡ []
AreSizesOf app (body ∷ rest) sizes =
    (own : List ℕ) × (others : List ℕ) × (sizes ≡ own ++ others) × AreShortest app body own × AreSizesOf app rest others

-- what comes after the bodies done so far makes the whole
abbrev pub AreSizesTo : App → List Func → ℕ → List ℕ → Type 0
AreSizesTo app bodies i done = (others : List ℕ) → AreSizesOf app (drop i bodies) others → AreSizesOf app bodies (done ++ others)

-- the lengths of one body more
pub one_more : (app : App) (bodies : List Func) (i : ℕ) (done own : List ℕ) (body : Func) → i < length bodies → body ≡ get_or bodies i body
    → AreSizesTo app bodies i done → AreShortest app body own → AreSizesTo app bodies (i + 1) (done ++ own)
one_more app bodies i done own body h e so_far shortest others rest =
    let n : i + 1 ≡ suc i = omega arith in
    let later = subst (λ (k : ℕ). AreSizesOf app (drop k bodies) others) n rest in
    let first = subst (λ (b : Func). AreShortest app b own) e shortest in
    let here : AreSizesOf app (get_or bodies i body ∷ drop (suc i) bodies) (own ++ others) = (own, others, refl, first, later) in
    subst (AreSizesOf app bodies) (sym (append_assoc done own others))
    (so_far (own ++ others) (subst (λ (x : List Func). AreSizesOf app x (own ++ others)) (sym (drop-cons bodies i body h)) here))

counts : (app : App) (bodies : List Func) (sizes : List ℕ) → AreSizesOf app bodies sizes → length sizes ≡ items_before bodies (length bodies)
counts app [] sizes p = ap length p
counts app (body ∷ rest) sizes p =
    let l = ap length p.2 in
    let a = length-append p.0 p.1 in
    let o = p.3.are_lengths.count in
    let r = counts app rest p.1 p.4 in
    omega (arith, l, a, o, r)

long_of : (app : App) (bodies : List Func) (sizes : List ℕ) → AreSizesOf app bodies sizes → ℕ → BranchSet
long_of app [] sizes p func = λ index. false
long_of app (body ∷ rest) sizes p zero = p.3.long
long_of app (body ∷ rest) sizes p (suc func) = long_of app rest p.1 p.4 func

-- the lengths of one body stand at their place
record AreOwn (app : App) (bodies : List Func) (sizes : List ℕ) (func : ℕ) (body : Func) (long : BranchSet) : Type 0 where
  is_least : AreLongBranches app body long
  each : (i : ℕ) → i < length body.items → get_or sizes (items_before bodies func + i) 0 ≡ size_at app body long i

by_item : (app : App) (bodies : List Func) (sizes : List ℕ) (p : AreSizesOf app bodies sizes) (func : ℕ) (d : Func) → func < length bodies
    → AreOwn app bodies sizes func (get_or bodies func d) (long_of app bodies sizes p func)
unfolding long_of
by_item app [] sizes p func d h = absurd (omega arith)
by_item app (body ∷ rest) sizes p zero d h = record {
  is_least = p.3.is_least;
  each = λ i h. let e : 0 + i ≡ i = omega arith in let n = p.3.are_lengths.count in
      ap (λ (k : ℕ). get_or sizes k 0) e ∙ ap (λ (l : List ℕ). get_or l i 0) p.2 ∙ get_or_append_left p.0 p.1 0 i (omega (arith, n, h)) ∙ p.3.are_lengths.each i h;
}
by_item app (body ∷ rest) sizes p (suc func) d h =
    let r = by_item app rest p.1 p.4 func d (omega arith) in
    let o = p.3.are_lengths.count in
    record {
      is_least = r.is_least;
      each = λ i h. let e : length body.items + items_before rest func + i ≡ length p.0 + (items_before rest func + i) = omega (arith, o) in
          ap (λ (k : ℕ). get_or sizes k 0) e ∙ ap (λ (l : List ℕ). get_or l (length p.0 + (items_before rest func + i)) 0) p.2
          ∙ get_or-append-add p.0 p.1 (items_before rest func + i) 0 ∙ r.each i h;
    }

-- behind the last body all lengths are there
pub whole : (app : App) (i : ℕ) (done : List ℕ) → length app.funcs ≤ i → AreSizesTo app app.funcs i done → AreItemSizes app done
whole app i done h so_far =
    let p = subst (AreSizesOf app app.funcs) (append-nil done) (so_far [] (subst (λ (x : List Func). AreSizesOf app x []) (sym (drop_all i app.funcs h)) refl)) in
    record {
      long = long_of app app.funcs done p;
      least = λ func h. (by_item app app.funcs done p func no_function h).is_least;
      count = counts app app.funcs done p;
      each = λ func index item. (by_item app app.funcs done p func no_function item.declared).each index item.inside;
    }
