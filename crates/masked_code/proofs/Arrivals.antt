-- Arrivals as sets of lines, and which of them come early.
use Rattle.std.proofs.Common.{◌≡◌, ℕ, ◌<◌, List, [], ◌∷◌, ◌++◌, length, get_or, refl, sym, ap, ◌∙◌, subst, arith, Option, Some, None, ⊎_elim}
use Rattle.std.specs.Prelude.{set, Bool, true, false, cond, ◌||◌, ◌&&◌, not, eqb, ◌≢◌}
use Rattle.std.proofs.lemmas.Bool.{cases_eq, eq-eqb, ne_eqb, cases_Bool}
use Rattle.std.proofs.lemmas.List.{length-set, get_or-set_same, get_or-set_other, ext_get_or, set_comm}
use Rattle.std.proofs.Math.Bool.{or-false, and-false}
use Rattle.sloth_base.specs.Arrive.{arrive}
use Rattle.masked_code.proofs.Owes.{AreOfLine}
use Rattle.masked_code.specs.Trace.{Trace, is_touched_line, touched_lines_of, untouched_lines_of, early_arrivals, late_arrivals}

-- lines that arrive behind others
pub arrive-append : (a b p : List ℕ) → arrive (a ++ b) p ≡ arrive b (arrive a p)
arrive-append [] b p = refl
arrive-append (l ∷ a) b p = arrive-append a b (set p l 1)

-- it does not matter whether a line becomes pending before others arrive or behind them
pub arrive-set : (a p : List ℕ) (t : ℕ) → arrive a (set p t 1) ≡ set (arrive a p) t 1
arrive-set [] p t = refl
arrive-set (l ∷ a) p t =
    let e : set (set p t 1) l 1 ≡ set (set p l 1) t 1 =
    ⊎_elim
    (λ e. ap (λ x. set (set p x 1) l 1) e ∙ ap (λ x. set (set p l 1) x 1) (sym e))
    (λ ne. set_comm p t l 1 1 ne)
    (cases_eq t l)
    in ap (arrive a) e ∙ arrive-set a (set p l 1) t

pub length-arrive : (a p : List ℕ) → length (arrive a p) ≡ length p
length-arrive [] p = refl
length-arrive (l ∷ a) p = length-arrive a (set p l 1) ∙ length-set p l 1

-- whether a line is among these
abbrev pub has : List ℕ → ℕ → Bool
has [] k = false
has (l ∷ a) k = eqb l k || has a k

or_assoc : (x y z : Bool) → ((x || y) || z) ≡ (x || (y || z))
or_assoc true y z = refl
or_assoc false y z = refl

both_one : (b : Bool) → ◌≡◌ {A = ℕ} (cond b 1 1) 1
both_one true = refl
both_one false = refl

-- a line is among both where it is among one of them
pub has-append : (a b : List ℕ) (k : ℕ) → has (a ++ b) k ≡ (has a k || has b k)
has-append [] b k = refl
has-append (l ∷ a) b k = ap (λ x. eqb l k || x) (has-append a b k) ∙ sym (or_assoc (eqb l k) (has a k) (has b k))

-- a pending byte after arrivals
pub byte_after : (a p : List ℕ) (k : ℕ) → k < length p → get_or (arrive a p) k 0 ≡ cond (has a k) 1 (get_or p k 0)
byte_after [] p k h = refl
byte_after (l ∷ a) p k h =
    let n = length-set p l 1 in
    let ih = byte_after a (set p l 1) k (omega arith) in
    ⊎_elim
    (λ e.
    let g : get_or (set p l 1) k 0 ≡ 1 = ap (λ j. get_or (set p j 1) k 0) e ∙ get_or-set_same p k 1 0 h in
    ih ∙ ap (λ v. cond (has a k) 1 v) g ∙ both_one (has a k) ∙ ap (λ b. cond (b || has a k) 1 (get_or p k 0)) (sym (eq-eqb l k e)))
    (λ ne.
    let g = get_or-set_other p l k 1 0 (λ e. ne (sym e)) in
    ih ∙ ap (λ v. cond (has a k) 1 v) g ∙ ap (λ b. cond (b || has a k) 1 (get_or p k 0)) (sym (ne_eqb l k ne)))
    (cases_eq l k)

-- arrivals are a set: their order and number do not matter
pub same_arrivals : (a b p : List ℕ) → ((k : ℕ) → has a k ≡ has b k) → arrive a p ≡ arrive b p
same_arrivals a b p h =
    let na = length-arrive a p in
    let nb = length-arrive b p in
    ext_get_or 0 _ _ (omega arith) (λ k below.
    let inside : k < length p = omega arith in
    byte_after a p k inside ∙ ap (λ x. cond x 1 (get_or p k 0)) (h k) ∙ sym (byte_after b p k inside))

-- of these lines, those that are line k, and the others
abbrev pub of_line : ℕ → List ℕ → List ℕ
of_line k [] = []
of_line k (l ∷ a) = cond (eqb l k) (l ∷ of_line k a) (of_line k a)

-- those that are not line k
abbrev pub not_line : ℕ → List ℕ → List ℕ
not_line k [] = []
not_line k (l ∷ a) = cond (eqb l k) (not_line k a) (l ∷ not_line k a)

-- a line is found among those of line k exactly where it is line k
pub has_of_same : (k : ℕ) (a : List ℕ) → has (of_line k a) k ≡ has a k
has_of_same k [] = refl
has_of_same k (l ∷ a) =
    ⊎_elim
    (λ e. ap (λ b. has (cond b (l ∷ of_line k a) (of_line k a)) k) e ∙ ap (λ x. eqb l k || x) (has_of_same k a))
    (λ e. ap (λ b. has (cond b (l ∷ of_line k a) (of_line k a)) k) e ∙ has_of_same k a ∙ ap (λ b. b || has a k) (sym e))
    (cases_Bool (eqb l k))

pub has_of_other : (k : ℕ) (a : List ℕ) (j : ℕ) → j ≢ k → has (of_line k a) j ≡ false
has_of_other k [] j ne = refl
has_of_other k (l ∷ a) j ne =
    ⊎_elim
    (λ e. ap (λ b. has (cond b (l ∷ of_line k a) (of_line k a)) j) (eq-eqb l k e) ∙ ap (λ x. x || has (of_line k a) j) (ne_eqb l j (λ f. ne (sym f ∙ e))) ∙ has_of_other k a j ne)
    (λ n. ap (λ b. has (cond b (l ∷ of_line k a) (of_line k a)) j) (ne_eqb l k n) ∙ has_of_other k a j ne)
    (cases_eq l k)

pub has_not_same : (k : ℕ) (a : List ℕ) → has (not_line k a) k ≡ false
has_not_same k [] = refl
has_not_same k (l ∷ a) =
    ⊎_elim
    (λ e. ap (λ b. has (cond b (not_line k a) (l ∷ not_line k a)) k) e ∙ has_not_same k a)
    (λ e. ap (λ b. has (cond b (not_line k a) (l ∷ not_line k a)) k) e ∙ ap (λ x. x || has (not_line k a) k) e ∙ has_not_same k a)
    (cases_Bool (eqb l k))

pub has_not_other : (k : ℕ) (a : List ℕ) (j : ℕ) → j ≢ k → has (not_line k a) j ≡ has a j
has_not_other k [] j ne = refl
has_not_other k (l ∷ a) j ne =
    ⊎_elim
    (λ e. ap (λ b. has (cond b (not_line k a) (l ∷ not_line k a)) j) (eq-eqb l k e) ∙ has_not_other k a j ne ∙ ap (λ x. x || has a j) (sym (ne_eqb l j (λ f. ne (sym f ∙ e)))))
    (λ n. ap (λ b. has (cond b (not_line k a) (l ∷ not_line k a)) j) (ne_eqb l k n) ∙ ap (λ x. eqb l j || x) (has_not_other k a j ne))
    (cases_eq l k)

-- those of a line and the others together are all
pub parted : (k : ℕ) (a p : List ℕ) → arrive (not_line k a) (arrive (of_line k a) p) ≡ arrive a p
parted k a p =
    sym (arrive-append (of_line k a) (not_line k a) p)
    ∙ same_arrivals (of_line k a ++ not_line k a) a p (λ j.
    has-append (of_line k a) (not_line k a) j
    ∙ ⊎_elim
    (λ e. ap (λ i. has (of_line k a) i || has (not_line k a) i) e ∙ ap (λ x. has (of_line k a) k || x) (has_not_same k a) ∙ or-false (has (of_line k a) k) ∙ has_of_same k a ∙ ap (has a) (sym e))
    (λ ne. ap (λ x. x || has (not_line k a) j) (has_of_other k a j ne) ∙ has_not_other k a j ne)
    (cases_eq j k))

-- arrivals of other lines leave a byte
pub others_leave : (k : ℕ) (a p : List ℕ) → k < length p → get_or (arrive (not_line k a) p) k 0 ≡ get_or p k 0
others_leave k a p h = byte_after (not_line k a) p k h ∙ ap (λ b. cond b 1 (get_or p k 0)) (has_not_same k a)

-- the byte of a line is what the arrivals of that line alone make it
pub found_of_line : (k : ℕ) (a p : List ℕ) → k < length p → get_or (arrive a p) k 0 ≡ get_or (arrive (of_line k a) p) k 0
found_of_line k a p h =
    let n = length-arrive (of_line k a) p in
    ap (λ q. get_or q k 0) (sym (parted k a p)) ∙ others_leave k a (arrive (of_line k a) p) (omega arith)

-- they may come after a store to it
pub not_line-set : (k v : ℕ) (a p : List ℕ) → arrive (not_line k a) (set p k v) ≡ set (arrive (not_line k a) p) k v
not_line-set k v [] p = refl
not_line-set k v (l ∷ a) p =
    ⊎_elim
    (λ e. ap (λ b. arrive (cond b (not_line k a) (l ∷ not_line k a)) (set p k v)) (eq-eqb l k e) ∙ not_line-set k v a p ∙ ap (λ b. set (arrive (cond b (not_line k a) (l ∷ not_line k a)) p) k v) (sym (eq-eqb l k e)))
    (λ n.
    ap (λ b. arrive (cond b (not_line k a) (l ∷ not_line k a)) (set p k v)) (ne_eqb l k n)
    ∙ ap (arrive (not_line k a)) (set_comm p k l v 1 (λ e. n (sym e)))
    ∙ not_line-set k v a (set p l 1)
    ∙ ap (λ b. set (arrive (cond b (not_line k a) (l ∷ not_line k a)) p) k v) (sym (ne_eqb l k n)))
    (cases_eq l k)

-- a store to the byte of a line comes before the arrivals of all others
pub stored_parted : (k v : ℕ) (a p : List ℕ) → set (arrive a p) k v ≡ arrive (not_line k a) (set (arrive (of_line k a) p) k v)
stored_parted k v a p = ap (λ q. set q k v) (sym (parted k a p)) ∙ sym (not_line-set k v a (arrive (of_line k a) p))

-- ---- arrivals that wait for a touch of their line

-- With arrivals that wait already: those whose line is touched in the rest of a trace, each taken up at the touch,
-- and those that still wait at its end.
abbrev pub taken_at : Option ℕ → List ℕ → (List ℕ → List ℕ) → List ℕ
taken_at None waiting go = go waiting
taken_at (Some k) waiting go = of_line k waiting ++ go (not_line k waiting)

-- the same of those that are left
abbrev pub left_at : Option ℕ → List ℕ → (List ℕ → List ℕ) → List ℕ
left_at None waiting go = go waiting
left_at (Some k) waiting go = go (not_line k waiting)

-- those that a touch in the trace takes up
abbrev pub taken : Trace → List ℕ → List ℕ
taken [] waiting = []
taken (e ∷ t) waiting = taken_at e.1 (waiting ++ e.0) (λ w. taken t w)

-- those that still wait behind the trace
abbrev pub left : Trace → List ℕ → List ℕ
left [] waiting = waiting
left (e ∷ t) waiting = left_at e.1 (waiting ++ e.0) (λ w. left t w)

pick : (b : Bool) (l : ℕ) (x : List ℕ) (k : ℕ) → has (cond b (l ∷ x) x) k ≡ ((b && eqb l k) || has x k)
pick true l x k = refl
pick false l x k = refl

leave_out : (b : Bool) (l : ℕ) (x : List ℕ) (k : ℕ) → has (cond b x (l ∷ x)) k ≡ ((not b && eqb l k) || has x k)
leave_out true l x k = refl
leave_out false l x k = refl

both : (t a : Bool) → ((t && true) || (t && a)) ≡ (t && true)
both true a = refl
both false a = refl

-- a test of the line that is looked for
spread_or : (f : ℕ → Bool) (l k : ℕ) (a : Bool) → ((f l && eqb l k) || (f k && a)) ≡ (f k && (eqb l k || a))
spread_or f l k a =
    ⊎_elim
    (λ e. ap (λ j. (f j && eqb l k) || (f k && a)) e ∙ ap (λ b. (f k && b) || (f k && a)) (eq-eqb l k e) ∙ both (f k) a ∙ ap (λ b. f k && (b || a)) (sym (eq-eqb l k e)))
    (λ n. ap (λ b. (f l && b) || (f k && a)) (ne_eqb l k n) ∙ ap (λ b. b || (f k && a)) (and-false (f l)) ∙ ap (λ b. f k && (b || a)) (sym (ne_eqb l k n)))
    (cases_eq l k)

has_touched : (t : Trace) (a : List ℕ) (k : ℕ) → has (touched_lines_of t a) k ≡ (is_touched_line t k && has a k)
has_touched t [] k = sym (and-false (is_touched_line t k))
has_touched t (l ∷ a) k =
    pick (is_touched_line t l) l (touched_lines_of t a) k
    ∙ ap (λ x. (is_touched_line t l && eqb l k) || x) (has_touched t a k)
    ∙ spread_or (is_touched_line t) l k (has a k)

has_untouched : (t : Trace) (a : List ℕ) (k : ℕ) → has (untouched_lines_of t a) k ≡ (not (is_touched_line t k) && has a k)
has_untouched t [] k = sym (and-false (not (is_touched_line t k)))
has_untouched t (l ∷ a) k =
    leave_out (is_touched_line t l) l (untouched_lines_of t a) k
    ∙ ap (λ x. (not (is_touched_line t l) && eqb l k) || x) (has_untouched t a k)
    ∙ spread_or (λ j. not (is_touched_line t j)) l k (has a k)

-- t: touched later; l, a: waits, arrives; e: is early later
later : (t l a e : Bool) → ((t && (l || a)) || e) ≡ ((t && l) || ((t && a) || e))
later true l a e = or_assoc l a e
later false l a e = refl

here : (t l a e : Bool) → ((l || a) || ((t && false) || e)) ≡ (l || (a || e))
here t l a e = ap (λ x. (l || a) || (x || e)) (and-false t) ∙ or_assoc l a e

taken_has : (t : Trace) (w : List ℕ) (k : ℕ) → has (taken t w) k ≡ ((is_touched_line t k && has w k) || has (early_arrivals t) k)
taken_has [] w k = refl
taken_has ((a, None) ∷ t) w k =
    taken_has t (w ++ a) k
    ∙ ap (λ x. (is_touched_line t k && x) || has (early_arrivals t) k) (has-append w a k)
    ∙ later (is_touched_line t k) (has w k) (has a k) (has (early_arrivals t) k)
    ∙ ap (λ x. (is_touched_line t k && has w k) || (x || has (early_arrivals t) k)) (sym (has_touched ((a, None) ∷ t) a k))
    ∙ ap (λ x. (is_touched_line t k && has w k) || x) (sym (has-append (touched_lines_of ((a, None) ∷ t) a) (early_arrivals t) k))
taken_has ((a, Some j) ∷ t) w k =
    let m = w ++ a in
    let b = is_touched_line ((a, Some j) ∷ t) k in
    let later_too = is_touched_line t k in
    let waits = has w k in
    let arrives = has a k in
    let rest = has (early_arrivals t) k in
    let last : has (early_arrivals ((a, Some j) ∷ t)) k ≡ ((b && arrives) || rest) =
    has-append (touched_lines_of ((a, Some j) ∷ t) a) (early_arrivals t) k ∙ ap (λ x. x || rest) (has_touched ((a, Some j) ∷ t) a k)
    in
    has-append (of_line j m) (taken t (not_line j m)) k
    ∙ ap (λ x. has (of_line j m) k || x) (taken_has t (not_line j m) k)
    ∙ ⊎_elim
    (λ e.
    ap (λ x. x || ((later_too && has (not_line j m) k) || rest)) (ap (λ i. has (of_line i m) k) (sym e) ∙ has_of_same k m ∙ has-append w a k)
    ∙ ap (λ x. (waits || arrives) || ((later_too && x) || rest)) (ap (λ i. has (not_line i m) k) (sym e) ∙ has_not_same k m)
    ∙ here later_too waits arrives rest
    ∙ ap (λ x. ((x || later_too) && waits) || (((x || later_too) && arrives) || rest)) (sym (eq-eqb j k (sym e))))
    (λ n.
    ap (λ x. x || ((later_too && has (not_line j m) k) || rest)) (has_of_other j m k n)
    ∙ ap (λ x. (later_too && x) || rest) (has_not_other j m k n ∙ has-append w a k)
    ∙ later later_too waits arrives rest
    ∙ ap (λ x. ((x || later_too) && waits) || (((x || later_too) && arrives) || rest)) (sym (ne_eqb j k (λ f. n (sym f)))))
    (cases_eq k j)
    ∙ ap (λ x. (b && waits) || x) (sym last)

left_has : (t : Trace) (w : List ℕ) (k : ℕ) → has (left t w) k ≡ ((not (is_touched_line t k) && has w k) || has (late_arrivals t) k)
left_has [] w k = sym (or-false (has w k))
left_has ((a, None) ∷ t) w k =
    left_has t (w ++ a) k
    ∙ ap (λ x. (not (is_touched_line t k) && x) || has (late_arrivals t) k) (has-append w a k)
    ∙ later (not (is_touched_line t k)) (has w k) (has a k) (has (late_arrivals t) k)
    ∙ ap (λ x. (not (is_touched_line t k) && has w k) || (x || has (late_arrivals t) k)) (sym (has_untouched ((a, None) ∷ t) a k))
    ∙ ap (λ x. (not (is_touched_line t k) && has w k) || x) (sym (has-append (untouched_lines_of ((a, None) ∷ t) a) (late_arrivals t) k))
left_has ((a, Some j) ∷ t) w k =
    let m = w ++ a in
    let b = is_touched_line ((a, Some j) ∷ t) k in
    let later_too = is_touched_line t k in
    let waits = has w k in
    let arrives = has a k in
    let rest = has (late_arrivals t) k in
    let last : has (late_arrivals ((a, Some j) ∷ t)) k ≡ ((not b && arrives) || rest) =
    has-append (untouched_lines_of ((a, Some j) ∷ t) a) (late_arrivals t) k ∙ ap (λ x. x || rest) (has_untouched ((a, Some j) ∷ t) a k)
    in
    left_has t (not_line j m) k
    ∙ ⊎_elim
    (λ e.
    ap (λ x. (not later_too && x) || rest) (ap (λ i. has (not_line i m) k) (sym e) ∙ has_not_same k m)
    ∙ ap (λ x. x || rest) (and-false (not later_too))
    ∙ ap (λ x. (not (x || later_too) && waits) || ((not (x || later_too) && arrives) || rest)) (sym (eq-eqb j k (sym e))))
    (λ n.
    ap (λ x. (not later_too && x) || rest) (has_not_other j m k n ∙ has-append w a k)
    ∙ later (not later_too) waits arrives rest
    ∙ ap (λ x. (not (x || later_too) && waits) || ((not (x || later_too) && arrives) || rest)) (sym (ne_eqb j k (λ f. n (sym f)))))
    (cases_eq k j)
    ∙ ap (λ x. (not b && waits) || x) (sym last)

-- with none that wait, those taken up are the early ones, and those left the late ones
pub taken_early : (t : Trace) (p : List ℕ) → arrive (taken t []) p ≡ arrive (early_arrivals t) p
taken_early t p = same_arrivals (taken t []) (early_arrivals t) p (λ k. taken_has t [] k ∙ ap (λ x. x || has (early_arrivals t) k) (and-false (is_touched_line t k)))

-- those that are left are the late ones
pub left_late : (t : Trace) (p : List ℕ) → arrive (left t []) p ≡ arrive (late_arrivals t) p
left_late t p = same_arrivals (left t []) (late_arrivals t) p (λ k. left_has t [] k ∙ ap (λ x. x || has (late_arrivals t) k) (and-false (not (is_touched_line t k))))

-- the arrivals of one line are of that line
pub are_of : (k : ℕ) (a : List ℕ) → AreOfLine k (of_line k a)
are_of k [] = tt
are_of k (l ∷ a) =
    ⊎_elim
    (λ e. subst (λ b. AreOfLine k (cond b (l ∷ of_line k a) (of_line k a))) (sym (eq-eqb l k e)) (e, are_of k a))
    (λ n. subst (λ b. AreOfLine k (cond b (l ∷ of_line k a) (of_line k a))) (sym (ne_eqb l k n)) (are_of k a))
    (cases_eq l k)

-- arrivals of a line leave the bytes of the others
pub other_bytes : (k : ℕ) (a p : List ℕ) (j : ℕ) → AreOfLine k a → j ≢ k → get_or (arrive a p) j 0 ≡ get_or p j 0
other_bytes k [] p j h ne = refl
other_bytes k (l ∷ a) p j h ne = other_bytes k a (set p l 1) j h.1 ne ∙ get_or-set_other p l j 1 0 (λ e. ne (e ∙ h.0))
