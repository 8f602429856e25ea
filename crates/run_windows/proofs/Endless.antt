-- What is made round a cycle has no end.
use Rattle.std.proofs.Common.{ap, ◌≡◌, ◌∙◌, ℕ, ◌+◌, ◌*◌, ◌<◌, ◌≤◌, ◌⊎◌, inl, inr, max, Bool, true, false, cond, List, [], ◌∷◌, length, get_or, set, replicate, Option, refl, sym, subst, ap, arith}
use Rattle.std.specs.Prelude.{◌==◌}
use Rattle.std.proofs.Math.Nat.{add-mul, mul-add, mul_assoc, mul-le-mul_left, mul-le-mul_right}
use Rattle.std.proofs.lemmas.Bool.{cases_eq, cases_lt}
use Rattle.std.proofs.lemmas.Bool.Decides.{eqb_tells}
use Rattle.std.proofs.lemmas.List.{get_or-replicate, length-replicate, get_or-set_same, get_or-set_other, get_or_past, length-set}
use Rattle.run_windows.specs.declared.costs.Makings.{Makings}
use Rattle.run_windows.specs.declared.costs.Costs.{Costs}
use Rattle.run_windows.specs.declared.costs.Window.{Window}
use Rattle.run_windows.specs.declared.costs.Made.{Made}
use Rattle.run_windows.specs.declared.costs.Rule.{Rule}
use Rattle.run_windows.specs.declared.costs.Rule.TheVariants as rule
use Rattle.run_windows.specs.Costs.{capped, reckoned, task, makers}
use Rattle.run_windows.specs.Windows.{Numbers, none_made, numbers_of, rule_of, counted, is_boot, span_of, shared, of_makings, round_makings, activations, settings, IsAtMost, IsSolution}
use Rattle.run_windows.specs.Settling.{AreBelow}
use Rattle.run_windows.specs.Cycles.{IsOpen, HasNone, share_of, one_share, multiple, AreMultiples, unmarked, rest}
use Rattle.run_windows.proofs.Settling.{at_most_both}
use Rattle.run_windows.proofs.Monotone.{arrivals_more, ticking_more, span_more}

-- ---- lists of numbers

-- what holds of the numbers so far, of none and of a new one holds of all
pub at_set : (Q : ℕ → Made → Type 0) (made : List Made) (j : ℕ) (v : Made) → Q j none_made → Q j v → ((i : ℕ) → Q i (numbers_of made i)) → (i : ℕ)
    → Q i (numbers_of (set made j v) i)
at_set Q made j v none here old i = by (cases_eq i j) (cases_lt j (length made))
  where
    by : (i ≡ j) ⊎ (i ≡ j → ⊥) → (j < length made) ⊎ (length made ≤ j) → Q i (numbers_of (set made j v) i)
    by (inr other) _ = subst (Q i) (sym (get_or-set_other made j i v none_made other)) (old i)
    by (inl same) (inl lt) = subst (λ k. Q k (numbers_of (set made j v) k)) (sym same) (subst (Q j) (sym (get_or-set_same made j v none_made lt)) here)
    by (inl same) (inr le) =
        let long = length-set made j v in
        subst (λ k. Q k (numbers_of (set made j v) k)) (sym same) (subst (Q j) (sym (get_or_past (set made j v) j none_made (omega (arith, long, le)))) none)

pub nothing_yet : (count i : ℕ) → numbers_of (replicate count none_made) i ≡ none_made
nothing_yet count i = by (cases_lt i count)
  where
    by : (i < count) ⊎ (count ≤ i) → numbers_of (replicate count none_made) i ≡ none_made
    by (inl lt) = get_or-replicate count i none_made none_made lt
    by (inr le) =
        let many = length-replicate count none_made in
        get_or_past (replicate count none_made) i none_made (omega (arith, le, many))

-- ---- products of makings

-- so many times one number, and another besides
pub record AreBoth (x : ℕ) (d y m : Made) : Type 0 where
  pub activations : x * d.activations + y.activations ≤ m.activations
  pub settings : x * d.settings + y.settings ≤ m.settings

pub alone : (x : ℕ) (d m : Made) → IsAtMost (multiple x d) m → AreBoth x d none_made m
alone x d m h = let a = h.activations in let s = h.settings in record { activations = omega (arith, a); settings = omega (arith, s) }

both_product : (x d y m f : ℕ) → x * d + y ≤ m → x * (d * f) + y * f ≤ m * f
both_product x d y m f h =
    let p = mul-le-mul_right f h in
    let q = add-mul (x * d) y f in
    let r = mul_assoc x d f in
    omega (arith, p, q, r)

both_shared : (x : ℕ) (d y m : Made) (first next : Option ℕ) → AreBoth x d y m → x * shared d first next + shared y first next ≤ shared m first next
both_shared x d y m first next h =
    let a = both_product x d.activations y.activations m.activations (reckoned first) h.activations in
    let s = both_product x d.settings y.settings m.settings (reckoned next) h.settings in
    let e = mul-add x (d.activations * reckoned first) (d.settings * reckoned next) in
    omega (arith, a, s, e)

pub both_makings : (sets : Bool) (x : ℕ) (d y m : Numbers) → ((k : ℕ) → AreBoth x (d k) (y k) (m k)) → (k : ℕ) (ms : List Makings)
    → x * round_makings sets d k ms + round_makings sets y k ms ≤ round_makings sets m k ms
both_makings sets x d y m h k [] = omega arith
both_makings sets x d y m h k (q ∷ ms) =
    let here : x * of_makings sets (d k) q + of_makings sets (y k) q ≤ of_makings sets (m k) q = by sets in
    let e = mul-add x (of_makings sets (d k) q) (round_makings sets d (k + 1) ms) in
    let more = both_makings sets x d y m h (k + 1) ms in
    omega (arith, here, e, more)
  where
    by : (b : Bool) → x * of_makings b (d k) q + of_makings b (y k) q ≤ of_makings b (m k) q
    by true = both_shared x (d k) (y k) (m k) q.first_settings q.next_settings (h k)
    by false = both_shared x (d k) (y k) (m k) q.first_activations q.next_activations (h k)

-- those that are not marked come besides
apart_number : (x d n m : ℕ) → x * d ≤ m → n ≤ m → x * d + cond (d == 0) n 0 ≤ m
apart_number x d n m h le = by (eqb_tells d 0)
  where
    P : Bool → Type 0
    P b = x * d + cond b n 0 ≤ m

    by : (((d == 0) ≡ true) × (d ≡ 0)) ⊎ (((d == 0) ≡ false) × (d ≡ 0 → ⊥)) → P (d == 0)
    by (inl (e, zero)) =
        let Q : ℕ → Type 0 = λ k. x * k + n ≤ m in
        let at : x * 0 + n ≤ m = omega (arith, le) in
        subst P (sym e) (subst Q (sym zero) at)
    by (inr (e, some)) = subst P (sym e) (let sum : x * d + 0 ≤ m = omega (arith, h) in sum)

pub apart : (x : ℕ) (d n m : Made) → IsAtMost (multiple x d) m → IsAtMost n m → AreBoth x d (unmarked d n) m
apart x d n m h le = record {
  activations = apart_number x d.activations n.activations m.activations h.activations le.activations;
  settings = apart_number x d.settings n.settings m.settings h.settings le.settings;
}

times_max : (x a b y : ℕ) → x * a ≤ y → x * b ≤ y → x * max a b ≤ y
times_max x a b y p q = by (cases_lt a b)
  where
    P : ℕ → Type 0
    P k = x * k ≤ y

    by : (a < b) ⊎ (b ≤ a) → P (max a b)
    by (inl lt) = let e : b ≡ max a b = omega (arith, lt) in subst P e q
    by (inr le) = let e : a ≡ max a b = omega (arith, le) in subst P e p

-- ---- rules

at_most_share : (sets : Bool) {a b : Made} → IsAtMost a b → share_of sets a ≤ share_of sets b
at_most_share true h = h.settings
at_most_share false h = h.activations

times_counted : (r : Rule) (x a s b t : ℕ) → IsOpen r → x * a ≤ b → x * s ≤ t → IsAtMost (multiple x (counted r a s)) (counted r b t)
times_counted rule.Out x a s b t open_rule p q = record { activations = omega arith; settings = omega arith }
times_counted rule.Settings x a s b t open_rule p q = record { activations = omega arith; settings = q }
times_counted rule.Each x a s b t open_rule p q = record { activations = p; settings = q }
times_counted rule.Once x a s b t open_rule p q = absurd (open_rule refl)

share_counted : (r : Rule) (sets : Bool) (a s : ℕ) → IsOpen r → 1 ≤ share_of sets (counted r 1 1) → cond sets s a ≤ share_of sets (counted r a s)
share_counted rule.Out true a s open_rule some = absurd (omega (arith, some))
share_counted rule.Out false a s open_rule some = absurd (omega (arith, some))
share_counted rule.Settings true a s open_rule some = omega arith
share_counted rule.Settings false a s open_rule some = absurd (omega (arith, some))
share_counted rule.Each true a s open_rule some = omega arith
share_counted rule.Each false a s open_rule some = omega arith
share_counted rule.Once sets a s open_rule some = absurd (open_rule refl)

-- a list of makings as code reads it
pub by_makers : (sets : Bool) (n : Numbers) (x : ℕ) (ms other : List Makings) → ms ≡ other → x ≤ round_makings sets n 0 ms → x ≤ round_makings sets n 0 other
by_makers sets n x ms other e h = subst (λ (v : List Makings). x ≤ round_makings sets n 0 v) e h

-- numbers that code tells up to the greatest sum, of those that count
pub some_capped : (r : Rule) (sets : Bool) (a s : ℕ) → 1 ≤ share_of sets (counted r (capped a) (capped s)) → IsOpen r → 1 ≤ cond sets s a
some_capped rule.Out true a s some open_rule = absurd (omega (arith, some))
some_capped rule.Out false a s some open_rule = absurd (omega (arith, some))
some_capped rule.Settings true a s some open_rule = omega (arith, some)
some_capped rule.Settings false a s some open_rule = absurd (omega (arith, some))
some_capped rule.Each true a s some open_rule = omega (arith, some)
some_capped rule.Each false a s some open_rule = omega (arith, some)
some_capped rule.Once sets a s some open_rule = absurd (open_rule refl)

-- a share that code has told
pub some_share : (sets : Bool) (made is : Made) (n : ℕ) → n ≡ share_of sets made → made ≡ is → (n ≡ 0 → ⊥) → 1 ≤ share_of sets is
some_share sets made is n e same some =
    let all : n ≡ share_of sets is = e ∙ ap (share_of sets) same in
    omega (arith, all, some)

-- ---- a window

module _ (costs : Costs) (w : Window) where
  pub made_open : (m : Numbers) (more j : ℕ) → IsSolution costs w m more → j < length costs.tasks
      → IsAtMost (counted (rule_of costs w j) (activations costs w m more j) (settings costs w m more j)) (m j)
  made_open m more j s lt = s.made j lt

  module _ (sets : Bool) (t : ℕ) where
    -- nothing is made but the task itself
    pub first_mark : (count : ℕ) (v : Made) → v ≡ one_share sets → AreMultiples costs w sets t (set (replicate count none_made) t v)
    first_mark count v e m more solves =
        at_set (λ i n. IsAtMost (multiple x n) (m i)) (replicate count none_made) t v (record { activations = omega arith; settings = omega arith })
        (subst (λ (n : Made). IsAtMost (multiple x n) (m t)) (sym e) (by sets))
        (λ i. subst (λ (n : Made). IsAtMost (multiple x n) (m i)) (sym (nothing_yet count i)) (record { activations = omega arith; settings = omega arith }))
      where
        x : ℕ
        x = share_of sets (m t)

        by : (b : Bool) → IsAtMost (multiple (share_of b (m t)) (one_share b)) (m t)
        by true = record { activations = omega arith; settings = omega arith }
        by false = record { activations = omega arith; settings = omega arith }

    -- what marked ones make is marked
    pub one_mark : (marks : List Made) (j a s : ℕ) (r : Rule) (made v : Made) → AreMultiples costs w sets t marks → j < length costs.tasks → r ≡ rule_of costs w j → IsOpen r
        → a ≤ round_makings false (numbers_of marks) 0 (makers costs j) → s ≤ round_makings true (numbers_of marks) 0 (makers costs j)
        → made ≡ counted r a s
        → v.activations ≡ max (numbers_of marks j).activations made.activations → v.settings ≡ max (numbers_of marks j).settings made.settings
        → AreMultiples costs w sets t (set marks j v)
    one_mark marks j a s r made v are lt is open_rule few fewer e first next m more solves =
        at_set (λ i n. IsAtMost (multiple x n) (m i)) marks j v (record { activations = omega arith; settings = omega arith }) here old
      where
        x : ℕ
        x = share_of sets (m t)

        old : (i : ℕ) → IsAtMost (multiple x (numbers_of marks i)) (m i)
        old = are m more solves

        comes : (b : Bool) → x * round_makings b (numbers_of marks) 0 (makers costs j) ≤ round_makings b m 0 (makers costs j)
        comes b =
            let sum = both_makings b x (numbers_of marks) (λ k. none_made) m (λ k. alone x (numbers_of marks k) (m k) (old k)) 0 (makers costs j) in
            omega (arith, sum)

        acts : x * a ≤ activations costs w m more j
        acts =
            let p : x * a ≤ x * round_makings false (numbers_of marks) 0 (makers costs j) = mul-le-mul_left x few in
            let f = comes false in
            omega (arith, p, f)

        sums : x * s ≤ settings costs w m more j
        sums =
            let p : x * s ≤ x * round_makings true (numbers_of marks) 0 (makers costs j) = mul-le-mul_left x fewer in
            let f = comes true in
            omega (arith, p, f)

        all : IsAtMost (multiple x made) (m j)
        all =
            let P : Rule → Type 0 = λ q. IsAtMost (counted q (activations costs w m more j) (settings costs w m more j)) (m j) in
            let below : P r = subst P (sym is) (made_open m more j solves lt) in
            let own = times_counted r x a s (activations costs w m more j) (settings costs w m more j) open_rule acts sums in
            subst (λ (n : Made). IsAtMost (multiple x n) (m j)) (sym e) (at_most_both own below)

        here : IsAtMost (multiple x v) (m j)
        here =
            let P : ℕ → Type 0 = λ k. x * k ≤ (m j).activations in
            let S : ℕ → Type 0 = λ k. x * k ≤ (m j).settings in
            record {
              activations = subst P (sym first) (times_max x (numbers_of marks j).activations made.activations (m j).activations (old j).activations all.activations);
              settings = subst S (sym next) (times_max x (numbers_of marks j).settings made.settings (m j).settings (old j).settings all.settings);
            }

    -- A task that makes itself, and is made by something else besides.
    endless : (marks : List Made) (y : Numbers) (counts : ℕ) → t < length costs.tasks → IsOpen (rule_of costs w t)
        → 1 ≤ share_of sets (counted (rule_of costs w t) 1 1)
        → 1 ≤ round_makings sets (numbers_of marks) 0 (makers costs t) → 1 ≤ cond sets (settings costs w y counts t) (activations costs w y counts t)
        → (m : Numbers) (more : ℕ) → IsSolution costs w m more → counts ≤ more → ((k : ℕ) → AreBoth (share_of sets (m t)) (numbers_of marks k) (y k) (m k)) → ⊥
    endless marks y counts lt open_rule counts_one again some m more solves le both = by sets refl
      where
        x : ℕ
        x = share_of sets (m t)

        enough : cond sets (settings costs w m more t) (activations costs w m more t) ≤ x
        enough =
            let one = share_counted (rule_of costs w t) sets (activations costs w m more t) (settings costs w m more t) open_rule counts_one in
            let two = at_most_share sets (made_open m more t solves lt) in
            omega (arith, one, two)

        twice : x * 1 ≤ x * round_makings sets (numbers_of marks) 0 (makers costs t)
        twice = mul-le-mul_left x again

        all : x * round_makings sets (numbers_of marks) 0 (makers costs t) + round_makings sets y 0 (makers costs t) ≤ round_makings sets m 0 (makers costs t)
        all = both_makings sets x (numbers_of marks) y m both 0 (makers costs t)

        by : (b : Bool) → sets ≡ b → ⊥
        by true e =
            let S : Bool → Type 0 = λ b. 1 ≤ cond b (settings costs w y counts t) (activations costs w y counts t) in
            let M : Bool → Type 0 = λ b. cond b (settings costs w m more t) (activations costs w m more t) ≤ x in
            let A : Bool → Type 0 = λ b. x * round_makings b (numbers_of marks) 0 (makers costs t) + round_makings b y 0 (makers costs t) ≤ round_makings b m 0 (makers costs t) in
            let W : Bool → Type 0 = λ b. x * 1 ≤ x * round_makings b (numbers_of marks) 0 (makers costs t) in
            let here = subst S e some in
            let sum = subst A e all in
            let two = subst W e twice in
            let ticks = ticking_more (is_boot w.start) true t costs.alarms 0 costs.counters (span_more w le) in
            let made = subst M e enough in
            omega (arith, here, sum, two, ticks, made)
        by false e =
            let S : Bool → Type 0 = λ b. 1 ≤ cond b (settings costs w y counts t) (activations costs w y counts t) in
            let M : Bool → Type 0 = λ b. cond b (settings costs w m more t) (activations costs w m more t) ≤ x in
            let A : Bool → Type 0 = λ b. x * round_makings b (numbers_of marks) 0 (makers costs t) + round_makings b y 0 (makers costs t) ≤ round_makings b m 0 (makers costs t) in
            let W : Bool → Type 0 = λ b. x * 1 ≤ x * round_makings b (numbers_of marks) 0 (makers costs t) in
            let here = subst S e some in
            let sum = subst A e all in
            let two = subst W e twice in
            let come = arrivals_more (task costs t).distance (span_more w le) in
            let ticks = ticking_more (is_boot w.start) false t costs.alarms 0 costs.counters (span_more w le) in
            let made = subst M e enough in
            omega (arith, here, sum, two, come, ticks, made)

    module _ (numbers marks : List Made) (counts : ℕ) (below : AreBelow costs w numbers counts) (are : AreMultiples costs w sets t marks)
        (lt : t < length costs.tasks) (r : Rule) (is : r ≡ rule_of costs w t) (open_rule : IsOpen r) (counts_one : 1 ≤ share_of sets (counted r 1 1)) (again : 1 ≤ round_makings sets (numbers_of marks) 0 (makers costs t)) where
      -- it comes
      pub comes_again : 1 ≤ cond sets (settings costs w (numbers_of []) counts t) (activations costs w (numbers_of []) counts t) → HasNone costs w
      comes_again some m more solves =
          endless marks (numbers_of []) counts lt (subst IsOpen is open_rule) (subst (λ q. 1 ≤ share_of sets (counted q 1 1)) is counts_one) again some m more solves (below.counts_below m more solves)
          (λ k. alone (share_of sets (m t)) (numbers_of marks k) (m k) (are m more solves k))

      -- another task makes it
      pub made_again : 1 ≤ round_makings sets (rest (numbers_of marks) (numbers_of numbers)) 0 (makers costs t) → HasNone costs w
      made_again some m more solves =
          endless marks (rest (numbers_of marks) (numbers_of numbers)) counts lt (subst IsOpen is open_rule) (subst (λ q. 1 ≤ share_of sets (counted q 1 1)) is counts_one) again (by sets some) m more solves (below.counts_below m more solves)
          (λ k. apart (share_of sets (m t)) (numbers_of marks k) (numbers_of numbers k) (m k) (are m more solves k) (below.numbers_below m more solves k))
        where
          y : Numbers
          y = rest (numbers_of marks) (numbers_of numbers)

          by : (b : Bool) → 1 ≤ round_makings b y 0 (makers costs t) → 1 ≤ cond b (settings costs w y counts t) (activations costs w y counts t)
          by true h = omega (arith, h)
          by false h = omega (arith, h)
