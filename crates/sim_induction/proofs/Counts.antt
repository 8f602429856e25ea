-- How often a task is admitted.
use Rattle.std.proofs.Common.{◌≡◌, ℕ, ◌+◌, ◌<◌, ◌≤◌, List, [], ◌∷◌, ◌++◌, refl, sym, ap, ◌∙◌, arith, Bool, true, false, cond, filter, nat_le, nat_lt, ⊎_elim, Option, Some, None}
use Rattle.std.specs.Prelude.{map, ◌&&◌, ◌==◌, not, is_some}
use Rattle.std.proofs.lemmas.Bool.{le-leb, lt-ltb, le-ltb, cases_lt, ne_eqb}
use Rattle.std.proofs.lemmas.List.Sums.{sum_by-cons, sum_by-append}
use Rattle.sloth_base.specs.declared.service.Arrival.{Arrival}
use Rattle.sloth_base.specs.declared.service.Stamped.{Stamped}
use Rattle.sloth_base.specs.Arrivals.{moments}
use Rattle.osek_scheduler.specs.InTime.{is_admit, admits_at, arrivals_at}
use Rattle.sloth_base.specs.Events.{admitted_line}
use Rattle.sloth_base.specs.Options.{is_number}
use Rattle.sim_induction.specs.Admits.{admit_event}
use Rattle.sim_induction.proofs.Lines.{line_back}
use Rattle.std.specs.List.{AllByRecursion}

pub admits-cons : (i t : ℕ) (e : Stamped) (a : List Stamped) → admits_at i t (e ∷ a) ≡ cond (is_number t (admitted_line e.event) && (e.stamp.at == i)) 1 0 + admits_at i t a
admits-cons i t e a = sum_by-cons (λ (e : Stamped). cond (is_number t (admitted_line e.event) && (e.stamp.at == i)) 1 0) e a

pub arrivals-cons : (i t : ℕ) (x : Arrival) (a : List Arrival) → arrivals_at i t (x ∷ a) ≡ cond ((x.line == t) && (x.at == i)) 1 0 + arrivals_at i t a
arrivals-cons i t x a = sum_by-cons (λ (x : Arrival). cond ((x.line == t) && (x.at == i)) 1 0) x a

pub admits-append : (i t : ℕ) (a b : List Stamped) → admits_at i t (a ++ b) ≡ admits_at i t a + admits_at i t b
admits-append i t a b = sum_by-append (λ (e : Stamped). cond (is_number t (admitted_line e.event) && (e.stamp.at == i)) 1 0) a b

pub arrivals-append : (i t : ℕ) (a b : List Arrival) → arrivals_at i t (a ++ b) ≡ arrivals_at i t a + arrivals_at i t b
arrivals-append i t a b = sum_by-append (λ (x : Arrival). cond ((x.line == t) && (x.at == i)) 1 0) a b

-- each arrival is one admit
pub admits_of : (i t : ℕ) (a : List Arrival) → admits_at i t (map admit_event a) ≡ arrivals_at i t a
admits_of i t [] = refl
admits_of i t (x ∷ a) =
    admits-cons i t (admit_event x) (map admit_event a)
    ∙ ap (λ o. cond (is_number t o && (x.at == i)) 1 0 + admits_at i t (map admit_event a)) (line_back x.line) ∙ ap (λ n. cond ((x.line == t) && (x.at == i)) 1 0 + n) (admits_of i t a) ∙ sym (arrivals-cons i t x a)

no_task : (i t at n : ℕ) (o : Option ℕ) → is_some o ≡ false → cond (is_number t o && (at == i)) 1 0 + n ≡ n
no_task i t at n None h = omega arith
no_task i t at n (Some u) h = cc

-- an event that is no admit counts for none
pub other_counts : (i t : ℕ) (e : Stamped) (a : List Stamped) → is_admit e ≡ false → admits_at i t (e ∷ a) ≡ admits_at i t a
other_counts i t e a h = admits-cons i t e a ∙ no_task i t e.stamp.at (admits_at i t a) (admitted_line e.event) h

pub others_count : (i t : ℕ) (a : List Stamped) → AllByRecursion (λ e. is_admit e ≡ false) a → admits_at i t a ≡ 0
others_count i t [] h = refl
others_count i t (e ∷ a) h = other_counts i t e a h.0 ∙ others_count i t a h.1

-- those that pass a test, and the others
pub arrivals_parted : (i t : ℕ) (p : Arrival → Bool) (a : List Arrival) → arrivals_at i t (filter p a) + arrivals_at i t (filter (λ x. not (p x)) a) ≡ arrivals_at i t a
arrivals_parted i t p [] = refl
arrivals_parted i t p (x ∷ a) = by i t x a (p x) (filter p a) (filter (λ x. not (p x)) a) (arrivals_parted i t p a)
  where
    by : (i t : ℕ) (x : Arrival) (a : List Arrival) (b : Bool) (u v : List Arrival) → arrivals_at i t u + arrivals_at i t v ≡ arrivals_at i t a
        → arrivals_at i t (cond b (x ∷ u) u) + arrivals_at i t (cond (not b) (x ∷ v) v) ≡ arrivals_at i t (x ∷ a)
    by i t x a true u v h = let q = arrivals-cons i t x u in let r = arrivals-cons i t x a in ap (λ n. n + arrivals_at i t v) q ∙ omega (arith, q, r, h)
    by i t x a false u v h = let q = arrivals-cons i t x v in let r = arrivals-cons i t x a in ap (λ n. arrivals_at i t u + n) q ∙ omega (arith, q, r, h)

none_here : (b : Bool) (n : ℕ) → cond (b && false) 1 0 + n ≡ n
none_here true n = omega arith
none_here false n = omega arith

pub not_here : (i t : ℕ) (x : Arrival) (u : List Arrival) → (x.at ≡ i → ⊥) → arrivals_at i t (x ∷ u) ≡ arrivals_at i t u
not_here i t x u h = arrivals-cons i t x u ∙ ap (λ b. cond ((x.line == t) && b) 1 0 + arrivals_at i t u) (ne_eqb x.at i h) ∙ none_here (x.line == t) (arrivals_at i t u)

-- of the moments below `to` those of moment i
one_here : (i t to : ℕ) (x : Arrival) (u : List Arrival) → i < to → arrivals_at i t (cond (nat_le 0 x.at && nat_lt x.at to) (x ∷ u) u) ≡ arrivals_at i t (x ∷ u)
one_here i t to x u l =
    ⊎_elim
    (λ (h : x.at < to). ap (λ b. arrivals_at i t (cond (b && nat_lt x.at to) (x ∷ u) u)) (le-leb 0 x.at (omega arith)) ∙ ap (λ b. arrivals_at i t (cond b (x ∷ u) u)) (lt-ltb x.at to h))
    (λ (h : to ≤ x.at).
    ap (λ b. arrivals_at i t (cond (b && nat_lt x.at to) (x ∷ u) u)) (le-leb 0 x.at (omega arith)) ∙ ap (λ b. arrivals_at i t (cond b (x ∷ u) u)) (le-ltb x.at to h)
    ∙ sym (not_here i t x u (λ e. omega arith)))
    (cases_lt x.at to)

pub arrivals_here : (i t to : ℕ) (a : List Arrival) → i < to → arrivals_at i t (moments 0 to a) ≡ arrivals_at i t a
arrivals_here i t to [] l = refl
arrivals_here i t to (x ∷ a) l =
    one_here i t to x (moments 0 to a) l ∙ arrivals-cons i t x (moments 0 to a) ∙ ap (λ n. cond ((x.line == t) && (x.at == i)) 1 0 + n) (arrivals_here i t to a l) ∙ sym (arrivals-cons i t x a)

later_here : (i t : ℕ) (x : Arrival) (p b : Bool) (u : List Arrival) → arrivals_at i t u ≡ 0 → (b ≡ true → x.at ≡ i → ⊥) → arrivals_at i t (cond (p && b) (x ∷ u) u) ≡ 0
later_here i t x false b u h n = h
later_here i t x true false u h n = h
later_here i t x true true u h n = not_here i t x u (n refl) ∙ h

pub arrivals_none : (i t to : ℕ) (a : List Arrival) → to ≤ i → arrivals_at i t (moments 0 to a) ≡ 0
arrivals_none i t to [] l = refl
arrivals_none i t to (x ∷ a) l =
    later_here i t x (nat_le 0 x.at) (nat_lt x.at to) (moments 0 to a) (arrivals_none i t to a l)
    (λ q e. ⊎_elim (λ (h : x.at < to). omega arith) (λ (h : to ≤ x.at). let z : nat_lt x.at to ≡ false = le-ltb x.at to h in cc) (cases_lt x.at to))
