-- The arrivals of a moment, and of the moments of a stretch.
use Rattle.std.proofs.Common.{◌≡◌, ℕ, suc, ◌+◌, ◌<◌, ◌≤◌, List, [], ◌∷◌, ◌++◌, refl, sym, ap, ◌∙◌, arith, Bool, true, false, cond, nat_le, nat_lt, ⊎_elim}
use Rattle.std.specs.Prelude.{map, All, ◌&&◌}
use Rattle.std.specs.List.{AllByRecursion}
use Rattle.std.proofs.lemmas.Bool.{le-leb, lt-leb, lt-ltb, le-ltb, cases_lt}
use Rattle.sloth_base.specs.declared.service.Arrival.{Arrival}
use Rattle.sloth_base.specs.declared.image.Mark.{Mark}
use Rattle.sloth_base.specs.declared.numbers.Owners.{Owners}
use Rattle.sloth_base.specs.Arrivals.{moments, AreRisingMoments}
use Rattle.sloth_base.specs.Owners.{first_counter_line, owners_in, IsOwned, AreOwned}
use Rattle.observe.specs.Observe.{view_from, admission}
use Rattle.observe.proofs.Moments.{moments-later}
use Rattle.sim_induction.specs.Admits.{Setting, IsSetting, lines_at, admit_event, arrivals_at_moment}
use Rattle.sim_induction.proofs.Lines.{arrival_shown}

pub from_zero : (xs : List Arrival) → AreRisingMoments 1 xs → AreRisingMoments 0 xs
from_zero [] h = tt
from_zero (x ∷ xs) h = (omega arith, h.1)

-- an arrival is of these moments, or not
here : (from to : ℕ) (x : Arrival) (xs : List Arrival) → from ≤ x.at → x.at < to → moments from to (x ∷ xs) ≡ x ∷ moments from to xs
here from to x xs a b = rw (le-leb from x.at a, lt-ltb x.at to b) refl

early_one : (from to : ℕ) (x : Arrival) (xs : List Arrival) → x.at < from → moments from to (x ∷ xs) ≡ moments from to xs
early_one from to x xs a = rw (lt-leb from x.at a) refl

late_one : (b : Bool) (from to : ℕ) (x : Arrival) (xs : List Arrival) → nat_le from x.at ≡ b → to ≤ x.at → moments from to (x ∷ xs) ≡ moments from to xs
late_one true from to x xs e a = rw (e, le-ltb x.at to a) refl
late_one false from to x xs e a = rw e refl

pub moments-split : (before from mid to : ℕ) (xs : List Arrival) → AreRisingMoments before xs → from ≤ mid → mid ≤ to → moments from to xs ≡ moments from mid xs ++ moments mid to xs
moments-split before from mid to [] up a b = refl
moments-split before from mid to (x ∷ xs) up a b =
    let ih = moments-split x.at from mid to xs up.1 a b in
    ⊎_elim
    (λ (l : x.at < mid).
    ⊎_elim
    (λ (f : x.at < from). early_one from to x xs f ∙ ih ∙ sym (ap (λ u. u ++ moments mid to (x ∷ xs)) (early_one from mid x xs f) ∙ ap (λ u. moments from mid xs ++ u) (early_one mid to x xs l)))
    (λ (f : from ≤ x.at). here from to x xs f (omega arith) ∙ ap (λ u. x ∷ u) ih ∙ sym (ap (λ u. u ++ moments mid to (x ∷ xs)) (here from mid x xs f l) ∙ ap (λ u. x ∷ (moments from mid xs ++ u)) (early_one mid to x xs l)))
    (cases_lt x.at from))
    (λ (l : mid ≤ x.at).
    let none : moments from mid (x ∷ xs) ≡ [] = moments-later x.at from mid (x ∷ xs) (omega arith, up.1) l in
    let skip : moments from mid xs ≡ [] = moments-later x.at from mid xs up.1 l in
    let ih2 : moments from to xs ≡ moments mid to xs = ih ∙ ap (λ u. u ++ moments mid to xs) skip in
    ⊎_elim
    (λ (u : x.at < to). here from to x xs (omega arith) u ∙ ap (λ v. x ∷ v) ih2 ∙ sym (here mid to x xs l u) ∙ ap (λ v. v ++ moments mid to (x ∷ xs)) (sym none))
    (λ (u : to ≤ x.at). late_one (nat_le from x.at) from to x xs refl u ∙ ih2 ∙ sym (late_one (nat_le mid x.at) mid to x xs refl u) ∙ ap (λ v. v ++ moments mid to (x ∷ xs)) (sym none))
    (cases_lt x.at to))
    (cases_lt x.at mid)

-- those of one moment are its lines
pub moment_is : (k : ℕ) (xs : List Arrival) → moments k (k + 1) xs ≡ arrivals_at_moment k (lines_at xs k)
moment_is k [] = refl
moment_is k (x ∷ xs) =
    let ih = moment_is k xs in
    ⊎_elim
    (λ (l : x.at < k). early_one k (k + 1) x xs l ∙ ih ∙ sym (ap (λ u. arrivals_at_moment k (map (λ a. a.line) u)) (early_one k (k + 1) x xs l)))
    (λ (l : k ≤ x.at).
    ⊎_elim
    (λ (u : x.at < k + 1).
    let e : x.at ≡ k = omega arith in
    let one : x ≡ record { at = k; line = x.line } = ap (λ (v : ℕ). record { at = v; line = x.line }) e in
    here k (k + 1) x xs l u ∙ ap (λ v. x ∷ v) ih ∙ ap (λ v. v ∷ arrivals_at_moment k (lines_at xs k)) one ∙ sym (ap (λ v. arrivals_at_moment k (map (λ a. a.line) v)) (here k (k + 1) x xs l u)))
    (λ (u : k + 1 ≤ x.at). late_one (nat_le k x.at) k (k + 1) x xs refl u ∙ ih ∙ sym (ap (λ v. arrivals_at_moment k (map (λ a. a.line) v)) (late_one (nat_le k x.at) k (k + 1) x xs refl u)))
    (cases_lt x.at (k + 1)))
    (cases_lt x.at k)

pub lines_back : (k : ℕ) (a : List ℕ) → map (λ x. x.line) (arrivals_at_moment k a) ≡ a
lines_back k [] = refl
lines_back k (l ∷ a) = ap (λ u. l ∷ u) (lines_back k a)

-- ---- what holds of each line

module _ (P : ℕ → Type 0) where
  first_line : (x : Arrival) (xs : List Arrival) → All (λ a. P a.line) (x ∷ xs) → P x.line
  first_line x xs h = h 0 x (omega arith)

  rest_lines : (x : Arrival) (xs : List Arrival) → All (λ a. P a.line) (x ∷ xs) → All (λ a. P a.line) xs
  rest_lines x xs h k d lt = h (suc k) d (omega arith)

  lines_kept : (b : Bool) (x : Arrival) (u : List Arrival) → P x.line → AllByRecursion P (map (λ a. a.line) u) → AllByRecursion P (map (λ a. a.line) (cond b (x ∷ u) u))
  lines_kept true x u l h = (l, h)
  lines_kept false x u l h = h

  pub lines_moments : (from to : ℕ) (xs : List Arrival) → All (λ a. P a.line) xs → AllByRecursion P (map (λ a. a.line) (moments from to xs))
  lines_moments from to [] h = tt
  lines_moments from to (x ∷ xs) h =
      lines_kept (nat_le from x.at && nat_lt x.at to) x (moments from to xs) (first_line x xs h) (lines_moments from to xs (rest_lines x xs h))

-- the lines that arrive before a count have owners
pub owned_at : (given : Setting) → IsSetting given → (k : ℕ) → AreOwned (owners_in given.config) (lines_at given.arrivals k)
owned_at given setting k = lines_moments (IsOwned (owners_in given.config)) k (k + 1) given.arrivals setting.lines

-- the observer's admits of lines that have owners
admits_owned : (owners : Owners) (marks : List Mark) (xs : List Arrival) → owners.tasks ≤ first_counter_line → AreOwned owners (map (λ a. a.line) xs) → map (admission (view_from marks owners)) xs ≡ map admit_event xs
admits_owned owners marks [] few h = refl
admits_owned owners marks (x ∷ xs) few h =
    ap (λ what. record (admit_event x) { event = what } ∷ map (admission (view_from marks owners)) xs) (arrival_shown owners x.line few h.0)
    ∙ ap (λ u. admit_event x ∷ u) (admits_owned owners marks xs few h.1)

pub admits_are : (given : Setting) → IsSetting given → (xs : List Arrival) → AreOwned (owners_in given.config) (map (λ a. a.line) xs) → map (admission given.view) xs ≡ map admit_event xs
admits_are given setting xs h =
    ap (λ owners. map (admission (view_from given.view.marks owners)) xs) setting.owners ∙ admits_owned (owners_in given.config) given.view.marks xs setting.few_tasks h
