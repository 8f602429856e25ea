-- Searches: their steps, and that what they find is the least and the greatest.
use Rattle.std.proofs.Common.{ℕ, zero, suc, ◌≡◌, ◌<◌, ◌≤◌, ◌+◌, ◌-◌, ◌⊎◌, inl, inr, ⊎_elim, ◌∙◌, refl, sym, ap, subst, add-zero, add-suc, arith, Bool, true, false, ◌≢◌}
use Rattle.std.proofs.Math.Dec.{leb, eqb}
use Rattle.std.proofs.lemmas.Bool.Decides.{leb_tells, eqb_tells}
use Rattle.std.specs.Prelude.{Option, Some, IfSome, ◌||◌, if◌then◌else◌, unwrap_or}
use Rattle.debug_ways.specs.declared.standing.Look.{Look}
use Rattle.debug_ways.specs.Runs.{Run}
use Rattle.debug_ways.specs.Ways.{Tests, ends_ahead, ends_back, guards_before, least_behind, greatest_below, last_hit, IsLeast, IsGreatest}

-- ---- forward

least-step : (hit : ℕ → Bool) (from end : ℕ) → from < end
    → least_behind hit (end - from) from ≡ (if hit (from + 1) then from + 1 else least_behind hit (end - (from + 1)) (from + 1))
least-step hit from end below =
    let e : end - from ≡ suc (end - (from + 1)) = omega (arith, below) in
    ap (λ n. least_behind hit n from) e

pub least-on : (hit : ℕ → Bool) (from end : ℕ) → from < end → hit (from + 1) ≡ false
    → least_behind hit (end - (from + 1)) (from + 1) ≡ least_behind hit (end - from) from
least-on hit from end below none =
    sym (least-step hit from end below ∙ ap (λ b. if b then from + 1 else least_behind hit (end - (from + 1)) (from + 1)) none)

pub least-here : (hit : ℕ → Bool) (from end : ℕ) → from < end → hit (from + 1) ≡ true → from + 1 ≡ least_behind hit (end - from) from
least-here hit from end below is =
    sym (least-step hit from end below ∙ ap (λ b. if b then from + 1 else least_behind hit (end - (from + 1)) (from + 1)) is)

-- ---- back

if-some : (b : Bool) (k : ℕ) (o : Option ℕ) (d g : ℕ) → g ≡ unwrap_or o d → (if b then k else g) ≡ unwrap_or (if b then Some k else o) d
if-some true k o d g e = refl
if-some false k o d g e = e

-- the greatest below the end of a window is the last in it, or the greatest below it
pub window : (hit : ℕ → Bool) (n from : ℕ) → greatest_below hit (from + n) ≡ unwrap_or (last_hit hit n from) (greatest_below hit from)
window hit zero from = ap (greatest_below hit) (add-zero from)
window hit (suc n) from =
    ap (greatest_below hit) (add-suc from n)
    ∙ if-some (hit (from + n)) (from + n) (last_hit hit n from) (greatest_below hit from) (greatest_below hit (from + n)) (window hit n from)

pub window-of : (hit : ℕ → Bool) (from to : ℕ) (last : Option ℕ) → from ≤ to → last ≡ last_hit hit (to - from) from
    → greatest_below hit to ≡ unwrap_or last (greatest_below hit from)
window-of hit from to last ordered is =
    let e : to ≡ from + (to - from) = omega (arith, ordered) in
    ap (greatest_below hit) e ∙ window hit (to - from) from ∙ ap (λ o. unwrap_or o (greatest_below hit from)) (sym is)

-- ---- in words

compare_tells : (a b : ℕ) → (a < b) ⊎ ((a ≡ b) ⊎ (b < a))
compare_tells a b = by (leb_tells (a + 1) b) (leb_tells (b + 1) a) where
  by : ((leb (a + 1) b ≡ true) × (a + 1 ≤ b)) ⊎ ((leb (a + 1) b ≡ false) × (b < a + 1))
      → ((leb (b + 1) a ≡ true) × (b + 1 ≤ a)) ⊎ ((leb (b + 1) a ≡ false) × (a < b + 1)) → (a < b) ⊎ ((a ≡ b) ⊎ (b < a))
  by (inl t) _ = inl (omega (arith, t.1))
  by (inr t) (inl u) = inr (inr (omega (arith, u.1)))
  by (inr t) (inr u) = inr (inl (omega (arith, t.1, u.1)))

next : (from k : ℕ) → from < k → (k ≡ from + 1) ⊎ (from + 1 < k)
next from k h = order (eqb_tells k (from + 1)) where
  order : ((eqb k (from + 1) ≡ true) × (k ≡ from + 1)) ⊎ ((eqb k (from + 1) ≡ false) × (k ≢ from + 1)) → (k ≡ from + 1) ⊎ (from + 1 < k)
  order (inl t) = inl t.1
  order (inr t) = inr (omega (arith, h, t.1))

last : (to k : ℕ) → k < suc to → (k ≡ to) ⊎ (k < to)
last to k h = order (eqb_tells k to) where
  order : ((eqb k to ≡ true) × (k ≡ to)) ⊎ ((eqb k to ≡ false) × (k ≢ to)) → (k ≡ to) ⊎ (k < to)
  order (inl t) = inl t.1
  order (inr t) = inr (omega (arith, h, t.1))

-- a greatest hit below d is the one below which there is none
one : (hit : ℕ → Bool) (from found d : ℕ) → from < d → hit from ≡ true → IsGreatest hit d found → ((k : ℕ) → from < k → k < d → hit k ≡ false) → found ≡ from
one hit from found d behind at g none = by (compare_tells found from) where
  above : from < found → found < d → hit found ≡ true → found ≡ from
  above h i it = let e : true ≡ false = sym it ∙ none found h i in absurd cc

  by : (found < from) ⊎ ((found ≡ from) ⊎ (from < found)) → found ≡ from
  by (inl h) = let e : true ≡ false = sym at ∙ g.none from h behind in absurd cc
  by (inr (inl e)) = e
  by (inr (inr h)) = ⊎_elim (λ (t : (found < d) × (hit found ≡ true)). above h t.0 t.1) (λ (t : found ≡ 0). absurd (omega (arith, h, t))) g.there

least-by : (hit : ℕ → Bool) (n from : ℕ) → IsLeast hit (from + 1) ((from + 1) + n) (least_behind hit n (from + 1)) → (b : Bool) → hit (from + 1) ≡ b
    → IsLeast hit from (from + suc n) (if b then from + 1 else least_behind hit n (from + 1))
least-by hit n from m true e = record {
  from_on = omega arith;
  within = omega arith;
  none = λ k h i. absurd (omega (arith, h, i));
  there = inl (omega arith, e);
}
least-by hit n from m false e =
    let d = least_behind hit n (from + 1) in
    let order : (k : ℕ) → from < k → (k ≡ from + 1) ⊎ (from + 1 < k) = λ k h. next from k h in
    record {
      from_on = omega (arith, m.from_on);
      within = omega (arith, m.within);
      none = λ k h i. ⊎_elim (λ (a : k ≡ from + 1). ap hit a ∙ e) (λ (a : from + 1 < k). m.none k a i) (order k h);
      there = ⊎_elim (λ (t : (from + 1 < d) × (hit d ≡ true)). inl (omega (arith, t.0), t.1)) (λ (t : d ≡ (from + 1) + n). inr (t ∙ omega arith)) m.there;
    }

least-is : (hit : ℕ → Bool) (n from : ℕ) → IsLeast hit from (from + n) (least_behind hit n from)
least-is hit zero from = record {
  from_on = omega arith;
  within = omega arith;
  none = λ k h i. absurd (omega (arith, h, i));
  there = inr (sym (add-zero from));
}
least-is hit (suc n) from = least-by hit n from (least-is hit n (from + 1)) (hit (from + 1)) refl

pub found_least : (hit : ℕ → Bool) (from end : ℕ) → from ≤ end → IsLeast hit from end (least_behind hit (end - from) from)
found_least hit from end below =
    let e : from + (end - from) ≡ end = omega (arith, below) in
    let P : ℕ → Type 0 = λ n. IsLeast hit from n (least_behind hit (end - from) from) in
    subst P e (least-is hit (end - from) from)

greatest-by : (hit : ℕ → Bool) (to : ℕ) → IsGreatest hit to (greatest_below hit to) → (b : Bool) → hit to ≡ b
    → IsGreatest hit (suc to) (if b then to else greatest_below hit to)
greatest-by hit to m true e = record {
  below = omega arith;
  none = λ k h i. absurd (omega (arith, h, i));
  there = inl (omega arith, e);
}
greatest-by hit to m false e =
    let d = greatest_below hit to in
    record {
      below = omega (arith, m.below);
      none = λ k h i. ⊎_elim (λ (a : k ≡ to). ap hit a ∙ e) (λ (a : k < to). m.none k h a) (last to k i);
      there = ⊎_elim (λ (t : (d < to) × (hit d ≡ true)). inl (omega (arith, t.0), t.1)) (λ (t : d ≡ 0). inr t) m.there;
    }

pub found_greatest : (hit : ℕ → Bool) (to : ℕ) → IsGreatest hit to (greatest_below hit to)
found_greatest hit zero = record {
  below = omega arith;
  none = λ k h i. absurd (omega (arith, i));
  there = inr refl;
}
found_greatest hit (suc to) = greatest-by hit to (found_greatest hit to) (hit to) refl

-- ---- back to where a way forward began

-- where no hit lies between, a way back from the least hit behind a hit gives that hit
pub mirrored : (hit : ℕ → Bool) (from end : ℕ) → from < end → hit from ≡ true
    → greatest_below hit (least_behind hit (end - from) from) ≡ from
mirrored hit from end below at =
    let l = found_least hit from end (omega (arith, below)) in
    let d = least_behind hit (end - from) from in
    let g = found_greatest hit d in
    let behind : from < d = ⊎_elim (λ (t : (from < d) × (hit d ≡ true)). t.0) (λ (t : d ≡ end). omega (arith, t, below)) l.there in
    one hit from (greatest_below hit d) d behind at g l.none

-- ---- the steps of the loops

-- the end of a way forward, as it is found
pub least_found : (r x : Run) (t : Tests) (end from first : ℕ) (ends : Bool) → ends ≡ ends_ahead x t (from + 1) → x ≡ r → ends ≡ true → from < end
    → least_behind (ends_ahead r t) (end - from) from ≡ least_behind (ends_ahead r t) (end - first) first
    → from + 1 ≡ least_behind (ends_ahead r t) (end - first) first
least_found r x t end from first ends is same found below on =
    let there : ends_ahead r t (from + 1) ≡ true = ap (λ (y : Run). ends_ahead y t (from + 1)) (sym same) ∙ sym is ∙ found in
    least-here (ends_ahead r t) from end below there ∙ on

-- a count that is passed
pub least_passed : (r x : Run) (t : Tests) (end from first : ℕ) (ends : Bool) → ends ≡ ends_ahead x t (from + 1) → x ≡ r → ends ≡ false → from < end
    → least_behind (ends_ahead r t) (end - from) from ≡ least_behind (ends_ahead r t) (end - first) first
    → least_behind (ends_ahead r t) (end - (from + 1)) (from + 1) ≡ least_behind (ends_ahead r t) (end - first) first
least_passed r x t end from first ends is same passed below on =
    let none : ends_ahead r t (from + 1) ≡ false = ap (λ (y : Run). ends_ahead y t (from + 1)) (sym same) ∙ sym is ∙ passed in
    least-on (ends_ahead r t) from end below none ∙ on

-- one more count of a window
pub last_more : (hit : ℕ → Bool) (from count : ℕ) (found : Bool) (last next : Option ℕ) → from ≤ count → found ≡ hit count → last ≡ last_hit hit (count - from) from
    → next ≡ (if found then Some count else last) → next ≡ last_hit hit (count + 1 - from) from
last_more hit from count found last next ordered is before e =
    let n = count - from in
    let more : count + 1 - from ≡ suc n = omega (arith, ordered) in
    let at : from + n ≡ count = omega (arith, ordered) in
    e ∙ ap (λ b. if b then Some count else last) is ∙ ap (λ (o : Option ℕ). if hit count then Some count else o) before
    ∙ ap (λ k. if hit k then Some k else last_hit hit n from) (sym at) ∙ ap (λ m. last_hit hit m from) (sym more)

pub below_more : (found : Bool) (count to : ℕ) (last next : Option ℕ) → next ≡ (if found then Some count else last) → count < to
    → IfSome last (λ k. k < to) → IfSome next (λ k. k < to)
below_more found count to last next e inside before = subst (λ (o : Option ℕ). IfSome o (λ k. k < to)) (sym e) (by found) where
  by : (b : Bool) → IfSome (if b then Some count else last) (λ k. k < to)
  by true = inside
  by false = before

pub guarded_more : (r x : Run) (t : Tests) (count : ℕ) (guards : Bool) → guards ≡ t.guards (x.look count) → x ≡ r → guards ≡ guards_before r t (count + 1)
guarded_more r x t count guards is same =
    let one : suc count ≡ count + 1 = omega arith in
    is ∙ ap (λ (y : Run). t.guards (y.look count)) same ∙ ap (guards_before r t) one

pub ends_back_at : (r x : Run) (t : Tests) (count : ℕ) (stops guarded : Bool) → stops ≡ t.stops (x.look count) → x ≡ r → guarded ≡ guards_before r t count
    → stops || guarded ≡ ends_back r t count
ends_back_at r x t count stops guarded is same before =
    ap (λ b. b || guarded) (is ∙ ap (λ (y : Run). t.stops (y.look count)) same) ∙ ap (λ b. t.stops (r.look count) || b) before
