-- What comes within windows by rates, and by curves.
use Rattle.std.proofs.Common.{◌≡◌, ◌∙◌, ℕ, ◌+◌, ◌-◌, ◌*◌, ◌/◌, ◌<◌, ◌≤◌, ◌⊎◌, inl, inr, min, Bool, true, false, cond, List, [], ◌∷◌, length, drop, get_or, set, replicate, Option, Some, None, refl, sym, subst, ap, true≢false, arith}
use Rattle.std.specs.Prelude.{◌==◌, unwrap_or, is_some}
use Rattle.std.proofs.Math.Nat.{add-mul, mul-add, mul_assoc, mul_comm, mul_right_comm, mul-le-mul_left, mul-le-mul_right, le_of_mul-le-mul_left, div-mul-le_self, lt-mul-div-succ, div-le_of_le-mul, div-zero}
use Rattle.std.proofs.lemmas.Bool.{cases_lt}
use Rattle.std.proofs.lemmas.Bool.Decides.{eqb_tells}
use Rattle.std.proofs.lemmas.List.{at_drop_more, at_drop_all}
use Rattle.run_windows.specs.declared.costs.AlarmCosts.{AlarmCosts}
use Rattle.run_windows.specs.declared.costs.CounterCosts.{CounterCosts}
use Rattle.run_windows.specs.declared.costs.Makings.{Makings}
use Rattle.run_windows.specs.declared.costs.TaskCosts.{TaskCosts}
use Rattle.run_windows.specs.declared.costs.Costs.{Costs}
use Rattle.run_windows.specs.declared.curves.Curve.{Curve}
use Rattle.run_windows.specs.declared.costs.Window.{Window}
use Rattle.run_windows.specs.declared.costs.Made.{Made}
use Rattle.run_windows.specs.declared.costs.Rule.{Rule}
use Rattle.run_windows.specs.declared.costs.Rule.TheVariants as rule
use Rattle.run_windows.specs.Costs.{capped, reckoned, task, makers}
use Rattle.run_windows.specs.Arrivals.{arrivals, booted_expiries, cyclic_expiries, expiries, acts_on, expiring, ticking, tick_counts}
use Rattle.run_windows.specs.Windows.{Numbers, none_made, numbers_of, rule_of, counted, is_boot, span_of, shared, of_makings, round_makings, activations, settings, round_counts, window_counts, IsAtMost, IsSolution}
use Rattle.run_windows.specs.Cycles.{IsOpen, rate_span, IsRate, AreRatesOf, AreRates, IsCurve}
use Rattle.run_windows.proofs.Endless.{at_set, nothing_yet, made_open}

-- ---- rates

pub lower_rate : (r s c x : ℕ) → r ≤ s → IsRate s c x → IsRate r c x
lower_rate r s c x le h = let p : r * c ≤ s * c = mul-le-mul_right c le in omega (arith, p, h)

pub no_rate : (c x : ℕ) → IsRate 0 c x
no_rate c x = omega arith

-- a rate of a sum that is told up to the greatest one
pub rate_sum : (a b r c x y : ℕ) → r ≡ capped (a + b) → IsRate a c x → IsRate b c y → IsRate r c (x + y)
rate_sum a b r c x y e h k =
    let p : r * c ≤ (a + b) * c = mul-le-mul_right c (omega (arith, e)) in
    let q = add-mul a b c in
    omega (arith, p, q, h, k)

-- the span itself is the rate of the counts
pub whole_rate : (c : ℕ) → IsRate rate_span c c
whole_rate c = omega arith

rate_times : (a f c x : ℕ) → IsRate a c x → IsRate (a * f) c (x * f)
rate_times a f c x h =
    let p : a * c * f ≤ rate_span * x * f = mul-le-mul_right f h in
    let q = mul_right_comm a f c in
    let r = mul_assoc rate_span x f in
    omega (arith, p, q, r)

pub rate_min : (a b r c x y : ℕ) → r ≡ min a b → IsRate a c x → IsRate b c y → IsRate r c (min x y)
rate_min a b r c x y e h k = by (cases_lt x y)
  where
    by : (x < y) ⊎ (y ≤ x) → IsRate r c (min x y)
    by (inl lt) = let is : x ≡ min x y = omega (arith, lt) in subst (λ v. IsRate r c v) is (lower_rate r a c x (omega (arith, e)) h)
    by (inr le) = let is : y ≡ min x y = omega (arith, le) in subst (λ v. IsRate r c v) is (lower_rate r b c y (omega (arith, e)) k)

-- each multiple of a distance
pub divided_rate : (rate d r c x : ℕ) → 0 < d → r ≡ rate / d → IsRate rate c x → IsRate r c (arrivals x (Some d))
divided_rate rate d r c x some e h =
    let n : ℕ = arrivals x (Some d) in
    let up : x + d - 1 < d * (n + 1) = lt-mul-div-succ (x + d - 1) some in
    let one = mul-add d n 1 in
    let few : x ≤ d * n = omega (arith, up, one, some) in
    let scaled : rate_span * x ≤ rate_span * (d * n) = mul-le-mul_left rate_span few in
    let low = div-mul-le_self rate d in
    let part : rate / d * d * c ≤ rate * c = mul-le-mul_right c low in
    let P : ℕ → Type 0 = λ q. q * d * c ≤ rate * c in
    let own : r * d * c ≤ rate * c = subst P (sym e) part in
    let turned : d * (r * c) ≡ r * d * c = sym (mul_assoc d r c) ∙ ap (λ q. q * c) (mul_comm d r) in
    let swapped : d * (rate_span * n) ≡ rate_span * (d * n) = sym (mul_assoc d rate_span n) ∙ (ap (λ q. q * n) (mul_comm d rate_span) ∙ mul_assoc rate_span d n) in
    let all : d * (r * c) ≤ d * (rate_span * n) = omega (arith, turned, swapped, own, h, scaled) in
    le_of_mul-le-mul_left all some

-- ---- alarms

module _ (boot : Bool) (a : AlarmCosts) (c x : ℕ) where
  pub set_rate : (r : ℕ) → a.is_set ≡ true → IsRate r c x → IsRate r c (expiries boot a x)
  set_rate r set h =
      let P : Bool → Type 0 = λ b. IsRate r c (cond b x (cond (a.time == 0) 0 (cond boot (booted_expiries a.time a.cycle x) (cyclic_expiries a.cycle x)))) in
      subst P (sym set) h

  pub cyclic_rate : (r : ℕ) → a.is_set ≡ false → boot ≡ false → (a.time ≡ 0 → ⊥) → IsRate r c (arrivals x (Some a.cycle)) → IsRate r c (expiries boot a x)
  cyclic_rate r set behind timed h =
      let P : Bool → Type 0 = λ b. IsRate r c (cond b x (cond (a.time == 0) 0 (cond boot (booted_expiries a.time a.cycle x) (cyclic_expiries a.cycle x)))) in
      let R : Bool → Type 0 = λ b. IsRate r c (cond b (booted_expiries a.time a.cycle x) (cyclic_expiries a.cycle x)) in
      subst P (sym set) (first (eqb_tells a.time 0) (subst R (sym behind) (last (eqb_tells a.cycle 0))))
    where
      S : Bool → Type 0
      S b = IsRate r c (cond b (min x 1) (arrivals x (Some a.cycle)))

      last : (((a.cycle == 0) ≡ true) × (a.cycle ≡ 0)) ⊎ (((a.cycle == 0) ≡ false) × (a.cycle ≡ 0 → ⊥)) → S (a.cycle == 0)
      last (inl (e, zero)) =
          let D : ℕ → Type 0 = λ k. IsRate r c (arrivals x (Some k)) in
          let at : D 0 = subst D zero h in
          let none = div-zero (x + 0 - 1) in
          let few : IsRate r c (min x 1) = omega (arith, at, none) in
          subst S (sym e) few
      last (inr (e, some)) = subst S (sym e) h

      Q : Bool → Type 0
      Q b = IsRate r c (cond b 0 (cond boot (booted_expiries a.time a.cycle x) (cyclic_expiries a.cycle x)))

      first : (((a.time == 0) ≡ true) × (a.time ≡ 0)) ⊎ (((a.time == 0) ≡ false) × (a.time ≡ 0 → ⊥))
          → IsRate r c (cond boot (booted_expiries a.time a.cycle x) (cyclic_expiries a.cycle x)) → Q (a.time == 0)
      first (inl (e, zero)) _ = absurd (timed zero)
      first (inr (e, some)) k = subst Q (sym e) k

-- ---- rounds

rate_shared : (n m : Made) (c : ℕ) (first next : Option ℕ) → AreRatesOf n c m → IsRate (shared n first next) c (shared m first next)
rate_shared n m c first next h =
    let a = rate_times n.activations (reckoned first) c m.activations h.activations in
    let s = rate_times n.settings (reckoned next) c m.settings h.settings in
    let e = add-mul (n.activations * reckoned first) (n.settings * reckoned next) c in
    omega (arith, a, s, e)

pub makings_rate : (sets : Bool) (c : ℕ) (n m : Numbers) → ((k : ℕ) → AreRatesOf (n k) c (m k)) → (k : ℕ) (ms : List Makings)
    → IsRate (round_makings sets n k ms) c (round_makings sets m k ms)
makings_rate sets c n m h k [] = omega arith
makings_rate sets c n m h k (q ∷ ms) =
    let here : IsRate (of_makings sets (n k) q) c (of_makings sets (m k) q) = by sets in
    let e = add-mul (of_makings sets (n k) q) (round_makings sets n (k + 1) ms) c in
    let more = makings_rate sets c n m h (k + 1) ms in
    omega (arith, here, e, more)
  where
    by : (b : Bool) → IsRate (of_makings b (n k) q) c (of_makings b (m k) q)
    by true = rate_shared (n k) (m k) c q.first_settings q.next_settings (h k)
    by false = rate_shared (n k) (m k) c q.first_activations q.next_activations (h k)

pub no_rates : (costs : Costs) (w : Window) (count : ℕ) → AreRates costs w (replicate count none_made)
no_rates costs w count m more s k =
    subst (λ (n : Made). AreRatesOf n more (m k)) (sym (nothing_yet count k)) (record { activations = no_rate more (m k).activations; settings = no_rate more (m k).settings })

whole_span : (w : Window) (more : ℕ) → w.span ≡ None → span_of w more ≡ more
whole_span w more e = ap (λ (o : Option ℕ). unwrap_or o more) e

more_rate : (r c x y : ℕ) → x ≤ y → IsRate r c x → IsRate r c y
more_rate r c x y le h = omega (arith, le, h)

rates_counted : (r : Rule) (a s b t c : ℕ) → IsOpen r → IsRate a c b → IsRate s c t → AreRatesOf (counted r a s) c (counted r b t)
rates_counted rule.Out a s b t c open_rule p q = record { activations = omega arith; settings = omega arith }
rates_counted rule.Settings a s b t c open_rule p q = record { activations = omega arith; settings = q }
rates_counted rule.Each a s b t c open_rule p q = record { activations = p; settings = q }
rates_counted rule.Once a s b t c open_rule p q = absurd (open_rule refl)

-- the rates of one task, from those of arrivals, ticks and the tasks that make it
pub raised_rates : (costs : Costs) (w : Window) (rates : List Made) (j arrived ticked signalled a s : ℕ) (r : Rule) (v : Made) → w.span ≡ None → AreRates costs w rates
    → j < length costs.tasks → r ≡ rule_of costs w j → IsOpen r
    → ((c : ℕ) → IsRate arrived c (arrivals c (task costs j).distance))
    → ((c : ℕ) → IsRate ticked c (ticking (is_boot w.start) false j c costs.alarms 0 costs.counters))
    → ((c : ℕ) → IsRate signalled c (ticking (is_boot w.start) true j c costs.alarms 0 costs.counters))
    → a ≤ arrived + ticked + round_makings false (numbers_of rates) 0 (makers costs j)
    → s ≤ signalled + round_makings true (numbers_of rates) 0 (makers costs j)
    → v ≡ counted r a s → AreRates costs w (set rates j v)
raised_rates costs w rates j arrived ticked signalled a s r v whole are lt is open_rule come tick sign first next e m more solves =
    at_set (λ i n. AreRatesOf n more (m i)) rates j v (record { activations = no_rate more (m j).activations; settings = no_rate more (m j).settings }) here old
  where
    old : (i : ℕ) → AreRatesOf (numbers_of rates i) more (m i)
    old = are m more solves

    span : span_of w more ≡ more
    span = whole_span w more whole

    T : Bool → ℕ → ℕ → Type 0
    T b q c = IsRate q more (ticking (is_boot w.start) b j c costs.alarms 0 costs.counters)

    A : ℕ → Type 0
    A c = IsRate arrived more (arrivals c (task costs j).distance)

    acts : IsRate a more (activations costs w m more j)
    acts =
        let g : A (span_of w more) = subst A (sym span) (come more) in
        let t : T false ticked (span_of w more) = subst (T false ticked) (sym span) (tick more) in
        let k = makings_rate false more (numbers_of rates) m old 0 (makers costs j) in
        let p : a * more ≤ (arrived + ticked + round_makings false (numbers_of rates) 0 (makers costs j)) * more = mul-le-mul_right more first in
        let cut = add-mul (arrived + ticked) (round_makings false (numbers_of rates) 0 (makers costs j)) more in
        let cut_first = add-mul arrived ticked more in
        omega (arith, g, t, k, p, cut, cut_first)

    sets : IsRate s more (settings costs w m more j)
    sets =
        let t : T true signalled (span_of w more) = subst (T true signalled) (sym span) (sign more) in
        let k = makings_rate true more (numbers_of rates) m old 0 (makers costs j) in
        let p : s * more ≤ (signalled + round_makings true (numbers_of rates) 0 (makers costs j)) * more = mul-le-mul_right more next in
        let cut = add-mul signalled (round_makings true (numbers_of rates) 0 (makers costs j)) more in
        omega (arith, t, k, p, cut)

    here : AreRatesOf v more (m j)
    here =
        let P : Rule → Type 0 = λ q. IsAtMost (counted q (activations costs w m more j) (settings costs w m more j)) (m j) in
        let below : P r = subst P (sym is) (made_open costs w m more j solves lt) in
        let own = rates_counted r a s (activations costs w m more j) (settings costs w m more j) more open_rule acts sets in
        subst (λ (n : Made). AreRatesOf n more (m j)) (sym e) (record {
          activations = more_rate (counted r a s).activations more _ (m j).activations below.activations own.activations;
          settings = more_rate (counted r a s).settings more _ (m j).settings below.settings own.settings;
        })

-- the same of a task as code reads it
pub raised_so : (costs : Costs) (w : Window) (rates : List Made) (j arrived ticked signalled a s : ℕ) (r : Rule) (v : Made) → w.span ≡ None → AreRates costs w rates
    → j < length costs.tasks → r ≡ rule_of costs w j → IsOpen r → (b : Bool) (distance : Option ℕ) → b ≡ is_boot w.start → distance ≡ (task costs j).distance
    → ((c : ℕ) → IsRate arrived c (arrivals c distance)) → ((c : ℕ) → IsRate ticked c (ticking b false j c costs.alarms 0 costs.counters))
    → ((c : ℕ) → IsRate signalled c (ticking b true j c costs.alarms 0 costs.counters))
    → a ≤ arrived + ticked + round_makings false (numbers_of rates) 0 (makers costs j)
    → s ≤ signalled + round_makings true (numbers_of rates) 0 (makers costs j)
    → v ≡ counted r a s → AreRates costs w (set rates j v)
raised_so costs w rates j arrived ticked signalled a s r v whole are lt is open_rule b distance eb ed come tick sign first next e =
    let D : Option ℕ → Type 0 = λ q. (c : ℕ) → IsRate arrived c (arrivals c q) in
    let B : Bool → ℕ → Bool → Type 0 = λ sets k q. (c : ℕ) → IsRate k c (ticking q sets j c costs.alarms 0 costs.counters) in
    raised_rates costs w rates j arrived ticked signalled a s r v whole are lt is open_rule (subst D ed come) (subst (B false ticked) eb tick)
    (subst (B true signalled) eb sign) first next e

-- ---- curves

-- one more part: what is at least a number, or what comes by a rate, of so many counts each
pub curve_burst : (a : Curve) (number f part burst c x y : ℕ) → part ≡ capped (number * f) → burst ≡ capped (a.burst + part) → number ≤ x → IsCurve a c y
    → IsCurve (record { burst = burst; rate = a.rate }) c (y + x * f)
curve_burst a number f part burst c x y e g le h = let p : number * f ≤ x * f = mul-le-mul_right f le in omega (arith, e, g, p, h)

pub curve_rate : (a : Curve) (by f part rate c x y : ℕ) → part ≡ capped (by * f) → rate ≡ capped (a.rate + part) → IsRate by c x → IsCurve a c y
    → IsCurve (record { burst = a.burst; rate = rate }) c (y + x * f)
curve_rate a by f part rate c x y e g is h =
    let own : part * c ≤ rate_span * (x * f) = lower_rate part (by * f) c (x * f) (omega (arith, e)) (rate_times by f c x is) in
    let p : rate * c ≤ (a.rate + part) * c = mul-le-mul_right c (omega (arith, g)) in
    let q = add-mul a.rate part c in
    omega (arith, own, p, q, h)

-- the counts that a curve asks for
pub asked : (a : Curve) (s more : ℕ) → a.rate < rate_span → s ≤ a.burst * rate_span → IsCurve a more more → s / (rate_span - a.rate) ≤ more
asked a s more lt le h =
    let d : ℕ = rate_span - a.rate in
    let is : d + a.rate ≡ rate_span = omega (arith, lt) in
    let cut : (d + a.rate) * more ≡ d * more + a.rate * more = add-mul d a.rate more in
    let P : ℕ → Type 0 = λ q. q * more ≡ d * more + a.rate * more in
    let all : rate_span * more ≡ d * more + a.rate * more = subst P is cut in
    div-le_of_le-mul d (omega (arith, all, le, h))

-- at such a rate nothing holds a burst
pub none_asked : (a : Curve) (more : ℕ) → rate_span ≤ a.rate → 0 < a.burst → IsCurve a more more → ⊥
none_asked a more le some h = let p : rate_span * more ≤ a.rate * more = mul-le-mul_right more le in omega (arith, p, some, h)

-- ---- lists

-- so much has come by a rate, and the rest makes it all
abbrev pub Part : (Is : ℕ → Type 0) → (rest all : ℕ) → Type 0
Part Is rest all = (y : ℕ) × Is y × (y + rest ≡ all)

pub part_end : (Is : ℕ → Type 0) (rest all : ℕ) → rest ≡ 0 → Part Is rest all → Is all
part_end Is rest all none (y, is, e) = let same : y ≡ all = omega (arith, none, e) in subst Is same is

-- one alarm more
pub expiring_step : (boot sets : Bool) (counter task x counts total own new all i : ℕ) (d : AlarmCosts) (alarms : List AlarmCosts) → i < length alarms
    → new ≡ capped (total + own)
    → IsRate own counts (cond (acts_on sets counter task (get_or alarms i d)) (expiries boot (get_or alarms i d) x) 0)
    → Part (IsRate total counts) (expiring boot sets counter task x (drop i alarms)) all
    → Part (IsRate new counts) (expiring boot sets counter task x (drop (i + 1) alarms)) all
expiring_step boot sets counter task x counts total own new all i d alarms lt e here (y, is, sum) =
    let F : List AlarmCosts → ℕ = λ ys. expiring boot sets counter task x ys in
    let cut : F (drop i alarms) ≡ F (get_or alarms i d ∷ drop (i + 1) alarms) = at_drop_more F alarms i d lt in
    let here_is : ℕ = cond (acts_on sets counter task (get_or alarms i d)) (expiries boot (get_or alarms i d) x) 0 in
    (y + here_is, rate_sum total own new counts y here_is e is here, omega (arith, cut, sum))

-- of one that acts, and of one that does not
pub expiring_more : (boot sets : Bool) (counter task x counts total own new all i : ℕ) (d : AlarmCosts) (alarms : List AlarmCosts) → i < length alarms
    → new ≡ capped (total + own) → acts_on sets counter task (get_or alarms i d) ≡ true → IsRate own counts (expiries boot (get_or alarms i d) x)
    → Part (IsRate total counts) (expiring boot sets counter task x (drop i alarms)) all
    → Part (IsRate new counts) (expiring boot sets counter task x (drop (i + 1) alarms)) all
expiring_more boot sets counter task x counts total own new all i d alarms lt e acts is =
    expiring_step boot sets counter task x counts total own new all i d alarms lt e
    (subst (λ (b : Bool). IsRate own counts (cond b (expiries boot (get_or alarms i d) x) 0)) (sym acts) is)

pub expiring_past : (boot sets : Bool) (counter task x counts total all i : ℕ) (d : AlarmCosts) (alarms : List AlarmCosts) → i < length alarms
    → acts_on sets counter task (get_or alarms i d) ≡ false
    → Part (IsRate total counts) (expiring boot sets counter task x (drop i alarms)) all
    → Part (IsRate total counts) (expiring boot sets counter task x (drop (i + 1) alarms)) all
expiring_past boot sets counter task x counts total all i d alarms lt none (y, is, sum) =
    let F : List AlarmCosts → ℕ = λ ys. expiring boot sets counter task x ys in
    let cut : F (drop i alarms) ≡ F (get_or alarms i d ∷ drop (i + 1) alarms) = at_drop_more F alarms i d lt in
    let own = ap (λ b. cond b (expiries boot (get_or alarms i d) x) 0) none in
    (y, is, omega (arith, cut, own, sum))

-- one counter more
pub ticking_step : (boot sets : Bool) (task counts total ticks made own new all i : ℕ) (alarms : List AlarmCosts) (d : CounterCosts) (counters : List CounterCosts)
    → i < length counters → own ≡ min ticks made → new ≡ capped (total + own) → IsRate ticks counts (arrivals counts (get_or counters i d).distance)
    → IsRate made counts (expiring boot sets i task (arrivals counts (get_or counters i d).distance) alarms)
    → Part (IsRate total counts) (ticking boot sets task counts alarms i (drop i counters)) all
    → Part (IsRate new counts) (ticking boot sets task counts alarms (i + 1) (drop (i + 1) counters)) all
ticking_step boot sets task counts total ticks made own new all i alarms d counters lt least e come act (y, is, sum) =
    let F : List CounterCosts → ℕ = λ ys. ticking boot sets task counts alarms i ys in
    let cut : F (drop i counters) ≡ F (get_or counters i d ∷ drop (i + 1) counters) = at_drop_more F counters i d lt in
    let n : ℕ = arrivals counts (get_or counters i d).distance in
    let here : ℕ = min n (expiring boot sets i task n alarms) in
    (y + here, rate_sum total own new counts y here e is (rate_min ticks made own counts n (expiring boot sets i task n alarms) least come act), omega (arith, cut, sum))

pub tick_step : (new : Curve) (more all i z factor : ℕ) (d : CounterCosts) (counters : List CounterCosts) → i < length counters
    → factor ≡ (get_or counters i d).tick → IsCurve new more (z + arrivals more (get_or counters i d).distance * factor)
    → z + tick_counts more (drop i counters) ≡ all → Part (IsCurve new more) (tick_counts more (drop (i + 1) counters)) all
tick_step new more all i z factor d counters lt e is sum =
    let F : List CounterCosts → ℕ = λ ys. tick_counts more ys in
    let cut : F (drop i counters) ≡ F (get_or counters i d ∷ drop (i + 1) counters) = at_drop_more F counters i d lt in
    let n : ℕ = arrivals more (get_or counters i d).distance in
    let same = ap (λ (k : ℕ). n * k) e in
    (z + n * factor, is, omega (arith, cut, same, sum))

-- one task more, of which so much is at least its activations, and its settings
pub round_step : (new : Curve) (m : Numbers) (more all i z f n : ℕ) (d : TaskCosts) (tasks : List TaskCosts) → i < length tasks
    → f ≡ reckoned (get_or tasks i d).first → n ≡ reckoned (get_or tasks i d).next → IsCurve new more (z + (m i).activations * f + (m i).settings * n)
    → z + round_counts m i (drop i tasks) ≡ all → Part (IsCurve new more) (round_counts m (i + 1) (drop (i + 1) tasks)) all
round_step new m more all i z f n d tasks lt e g is sum =
    let F : List TaskCosts → ℕ = λ ys. round_counts m i ys in
    let cut : F (drop i tasks) ≡ F (get_or tasks i d ∷ drop (i + 1) tasks) = at_drop_more F tasks i d lt in
    let same = ap (λ (k : ℕ). (m i).activations * k + (m i).settings * n) e ∙ ap (λ (k : ℕ). (m i).activations * reckoned (get_or tasks i d).first + (m i).settings * k) g in
    (z + (m i).activations * f + (m i).settings * n, is, omega (arith, cut, same, sum))

-- ---- a window

pub no_span : (o : Option ℕ) (b : Bool) → b ≡ is_some o → b ≡ false → o ≡ None
no_span None b e f = refl
no_span (Some x) b e f = absurd (true≢false (sym e ∙ f))

-- the counts of each solution, of one without a span
pub asked_solution : (costs : Costs) (w : Window) (m : Numbers) (more : ℕ) (c : Curve) → w.span ≡ None → IsSolution costs w m more
    → IsCurve c more (w.front + round_counts m 0 costs.tasks + tick_counts more costs.counters) → IsCurve c more more
asked_solution costs w m more c whole s h =
    let same = whole_span w more whole in
    let P : ℕ → Type 0 = λ k. w.front + round_counts m 0 costs.tasks + tick_counts k costs.counters ≤ more in
    let few : P more = subst P same s.filled in
    omega (arith, few, h)

pub front_curve : (front more : ℕ) → IsCurve (record { burst = front; rate = 0 }) more front
front_curve front more = omega arith
