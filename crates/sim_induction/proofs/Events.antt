-- Lists of events.
use Rattle.std.proofs.Common.{◌≡◌, ℕ, ◌+◌, ◌<◌, ◌≤◌, List, [], ◌∷◌, ◌++◌, length, refl, sym, ap, ◌∙◌, subst, arith, Bool, true, false, cond, leb, ltb, filter}
use Rattle.std.specs.Prelude.{map}
use Rattle.std.proofs.lemmas.Bool.{le-leb, lt-leb, lt-ltb, le-ltb}
use Rattle.sloth_base.specs.declared.service.Arrival.{Arrival}
use Rattle.sloth_base.specs.declared.service.Stamped.{Stamped}
use Rattle.sloth_base.specs.Arrivals.{moments}
use Rattle.osek_scheduler.specs.InTime.{IsOrdered}
use Rattle.masked_code.specs.Trace.{Trace, touched_lines_of, untouched_lines_of}
use Rattle.sim_induction.specs.Admits.{admit_event, arrivals_at_moment, lines_at, arrivals_before_event, arrivals_behind_event}
use Rattle.sim_induction.proofs.Lines.{admits_ordered}
use Rattle.sim_induction.proofs.Schedule.{moment_is}
use Rattle.sim_induction.specs.Advances.{EachPair}
use Rattle.std.specs.List.{AllByRecursion}

pub filter_all : (p : Stamped → Bool) (a : List Stamped) → AllByRecursion (λ e. p e ≡ true) a → filter p a ≡ a
filter_all p [] h = refl
filter_all p (x ∷ a) h = ap (λ t. cond t (x ∷ filter p a) (filter p a)) h.0 ∙ ap (λ u. x ∷ u) (filter_all p a h.1)

pub filter_none : (p : Stamped → Bool) (a : List Stamped) → AllByRecursion (λ e. p e ≡ false) a → filter p a ≡ []
filter_none p [] h = refl
filter_none p (x ∷ a) h = ap (λ t. cond t (x ∷ filter p a) (filter p a)) h.0 ∙ filter_none p a h.1

pub each_map : (P Q : Stamped → Type 0) → ((e : Stamped) → P e → Q e) → (a : List Stamped) → AllByRecursion P a → AllByRecursion Q a
each_map P Q f [] h = tt
each_map P Q f (x ∷ a) h = (f x h.0, each_map P Q f a h.1)

pub each-append : (P : Stamped → Type 0) (a b : List Stamped) → AllByRecursion P a → AllByRecursion P b → AllByRecursion P (a ++ b)
each-append P [] b h k = k
each-append P (x ∷ a) b h k = (h.0, each-append P a b h.1 k)

pub each_both : (P Q : Stamped → Type 0) (a : List Stamped) → AllByRecursion P a → AllByRecursion Q a → AllByRecursion (λ e. P e × Q e) a
each_both P Q [] h k = tt
each_both P Q (x ∷ a) h k = ((h.0, k.0), each_both P Q a h.1 k.1)

-- two lists, each event of the one before each of the other
pub pairs-append : (R : Stamped → Stamped → Type 0) (a b : List Stamped) → EachPair R a → EachPair R b → AllByRecursion (λ x. AllByRecursion (R x) b) a → EachPair R (a ++ b)
pairs-append R [] b h k c = k
pairs-append R (x ∷ a) b h k c = (each-append (R x) a b h.0 c.0, pairs-append R a b h.1 k c.1)

pub before : (b : Bool) (at x : ℕ) → at < x → cond b (leb at x) (ltb at x) ≡ true
before true at x h = le-leb at x (omega arith)
before false at x h = lt-ltb at x h

pub behind : (b : Bool) (at x : ℕ) → x ≤ at → (b ≡ true → x < at) → cond b (leb at x) (ltb at x) ≡ false
behind true at x h k = lt-leb at x (k refl)
behind false at x h k = le-ltb at x h

-- ---- admits

pub each_arrival : (P : Stamped → Type 0) (Q : Arrival → Type 0) → ((a : Arrival) → Q a → P (admit_event a)) → (xs : List Arrival) → AllByRecursion Q xs → AllByRecursion P (map admit_event xs)
each_arrival P Q f [] h = tt
each_arrival P Q f (x ∷ xs) h = (f x h.0, each_arrival P Q f xs h.1)

pub admit_pairs : (xs : List Arrival) → EachPair IsOrdered (map admit_event xs)
admit_pairs [] = tt
admit_pairs (x ∷ xs) = (all xs, admit_pairs xs)
  where
    all : (ys : List Arrival) → AllByRecursion (IsOrdered (admit_event x)) (map admit_event ys)
    all [] = tt
    all (y ∷ ys) = (admits_ordered x y, all ys)

-- ---- the moments of arrivals

abbrev pub IsFrom : ℕ → ℕ → Arrival → Type 0
IsFrom from to a = (from ≤ a.at) × (a.at < to)

pub arrivals-join : (Q : Arrival → Type 0) (a b : List Arrival) → AllByRecursion Q a → AllByRecursion Q b → AllByRecursion Q (a ++ b)
arrivals-join Q [] b h k = k
arrivals-join Q (x ∷ a) b h k = (h.0, arrivals-join Q a b h.1 k)

arrivals_of : (Q : Arrival → Type 0) (k : ℕ) (lines : List ℕ) → ((l : ℕ) → Q (record { at = k; line = l })) → AllByRecursion Q (arrivals_at_moment k lines)
arrivals_of Q k [] h = tt
arrivals_of Q k (l ∷ lines) h = (h l, arrivals_of Q k lines h)

pub before_within : (from to k : ℕ) (t : Trace) → from ≤ k → k + length t ≤ to → AllByRecursion (IsFrom from to) (arrivals_before_event k t)
before_within from to k [] l h = tt
before_within from to k (e ∷ t) l h =
    arrivals-join (IsFrom from to) (arrivals_at_moment k (touched_lines_of (e ∷ t) e.0)) (arrivals_before_event (k + 1) t)
    (arrivals_of (IsFrom from to) k (touched_lines_of (e ∷ t) e.0) (λ line. (l, omega arith)))
    (before_within from to (k + 1) t (omega arith) (omega arith))

pub behind_within : (from to k : ℕ) (t : Trace) → from ≤ k → k + length t ≤ to → AllByRecursion (IsFrom from to) (arrivals_behind_event k t)
behind_within from to k [] l h = tt
behind_within from to k (e ∷ t) l h =
    arrivals-join (IsFrom from to) (arrivals_at_moment k (untouched_lines_of (e ∷ t) e.0)) (arrivals_behind_event (k + 1) t)
    (arrivals_of (IsFrom from to) k (untouched_lines_of (e ∷ t) e.0) (λ line. (l, omega arith)))
    (behind_within from to (k + 1) t (omega arith) (omega arith))

pub moment_within : (k : ℕ) (xs : List Arrival) → AllByRecursion (λ a. a.at ≡ k) (moments k (k + 1) xs)
moment_within k xs = subst (AllByRecursion (λ a. a.at ≡ k)) (sym (moment_is k xs)) (arrivals_of (λ a. a.at ≡ k) k (lines_at xs k) (λ l. refl))
