-- Numbers that grow stay below every solution, and where none grows they are one.
use Rattle.std.proofs.Common.{◌≡◌, ℕ, zero, suc, ◌+◌, ◌*◌, ◌<◌, ◌≤◌, ◌⊎◌, inl, inr, max, List, [], ◌∷◌, length, get_or, set, sym, ◌∙◌, subst, arith}
use Rattle.std.proofs.Math.Nat.{mul-le-mul_left}
use Rattle.std.proofs.lemmas.Bool.{cases_eq, cases_lt}
use Rattle.std.proofs.lemmas.List.{get_or-set_same, get_or-set_other, get_or_past, length-set}
use Rattle.run_windows.specs.declared.costs.TaskCosts.{TaskCosts}
use Rattle.run_windows.specs.declared.costs.Costs.{Costs}
use Rattle.run_windows.specs.declared.costs.Window.{Window}
use Rattle.run_windows.specs.declared.costs.Made.{Made}
use Rattle.run_windows.specs.declared.costs.Rule.{Rule}
use Rattle.run_windows.specs.declared.costs.Rule.TheVariants as rule
use Rattle.run_windows.specs.Costs.{greatest_sum, capped, reckoned, no_task}
use Rattle.run_windows.specs.Windows.{Numbers, none_made, numbers_of, rule_of, counted, activations, settings, made_within, round_counts, window_counts, IsAtMost, IsSolution, IsLeast}
use Rattle.run_windows.specs.Settling.{most_made, AreBelow, capped_made, IsMet, TakeCounts}
use Rattle.run_windows.proofs.Monotone.{counted_more, made_more, window_more}

pub at_most_both : {a b c : Made} → IsAtMost a b → IsAtMost b c → IsAtMost a c
at_most_both h k =
    let a = h.activations in
    let b = k.activations in
    let c = h.settings in
    let d = k.settings in
    record { activations = omega (arith, a, b); settings = omega (arith, c, d) }

counted_within : (r : Rule) (a s : ℕ) → IsAtMost (counted r (capped a) (capped s)) most_made
counted_within rule.Out a s = record { activations = omega arith; settings = omega arith }
counted_within rule.Settings a s = record { activations = omega arith; settings = omega arith }
counted_within rule.Each a s = record { activations = omega arith; settings = omega arith }
counted_within rule.Once a s = record { activations = omega arith; settings = omega arith }

counted_exactly : (r : Rule) (a s : ℕ) (n : Made) → n.activations < greatest_sum → n.settings < greatest_sum → IsAtMost (counted r (capped a) (capped s)) n → IsAtMost (counted r a s) n
counted_exactly r a s n ha hs h = by r h.activations h.settings
  where
    by : (r : Rule) → (counted r (capped a) (capped s)).activations ≤ n.activations → (counted r (capped a) (capped s)).settings ≤ n.settings → IsAtMost (counted r a s) n
    by rule.Out x y = record { activations = omega arith; settings = omega arith }
    by rule.Settings x y = record { activations = omega arith; settings = omega (arith, y, hs) }
    by rule.Each x y = record { activations = omega (arith, x, ha); settings = omega (arith, y, hs) }
    by rule.Once x y = record { activations = omega (arith, x); settings = omega arith }

-- each making takes a count
pub rounds_take : (n : Numbers) (k : ℕ) (ts : List TaskCosts) → ((i : ℕ) → i < length ts → (1 ≤ reckoned (get_or ts i no_task).first) × (1 ≤ reckoned (get_or ts i no_task).next))
    → (i j : ℕ) → j ≡ k + i → i < length ts → (n j).activations + (n j).settings ≤ round_counts n k ts
rounds_take n k [] f i j e lt = absurd (omega (arith, lt))
rounds_take n k (t ∷ ts) f zero j e lt =
    let here : 1 ≤ reckoned t.first = (f 0 (omega arith)).0 in
    let next : 1 ≤ reckoned t.next = (f 0 (omega arith)).1 in
    let a : (n k).activations * 1 ≤ (n k).activations * reckoned t.first = mul-le-mul_left (n k).activations here in
    let s : (n k).settings * 1 ≤ (n k).settings * reckoned t.next = mul-le-mul_left (n k).settings next in
    let P : ℕ → Type 0 = λ q. (n q).activations + (n q).settings ≤ round_counts n k (t ∷ ts) in
    let same : k ≡ j = omega (arith, e) in
    let at : (n k).activations + (n k).settings ≤ round_counts n k (t ∷ ts) = omega (arith, a, s) in
    subst P same at
rounds_take n k (t ∷ ts) f (suc i) j e lt =
    let e' : j ≡ (k + 1) + i = omega (arith, e) in
    let rest = rounds_take n (k + 1) ts (λ x h. f (suc x) (omega (arith, h))) i j e' (omega (arith, lt)) in
    omega (arith, rest)

module _ (costs : Costs) (w : Window) where
  -- what comes with numbers that are below comes in every solution
  met_below : (made : List Made) (counts : ℕ) → AreBelow costs w made counts → (m : Numbers) (more : ℕ) → IsSolution costs w m more
      → (j : ℕ) → j < length costs.tasks → IsAtMost (capped_made costs w (numbers_of made) counts j) (m j)
  met_below made counts b m more s j lt =
      let capped_less : IsAtMost (capped_made costs w (numbers_of made) counts j) (made_within costs w (numbers_of made) counts j) =
      counted_more (rule_of costs w j) (omega arith) (omega arith) in
      let less = made_more costs w (numbers_of made) m counts more (b.numbers_below m more s) (b.counts_below m more s) j in
      at_most_both capped_less (at_most_both less (s.made j lt))

  pub filled_below : (made : List Made) (counts : ℕ) → AreBelow costs w made counts → (m : Numbers) (more : ℕ) → IsSolution costs w m more
      → capped (window_counts costs w (numbers_of made) counts) ≤ more
  filled_below made counts b m more s =
      let less = window_more costs w (numbers_of made) m counts more (b.numbers_below m more s) (b.counts_below m more s) in
      let filled = s.filled in
      omega (arith, less, filled)

  -- the numbers of a task that has grown
  abbrev pub greater : Made → Made → Made
  greater old new = record { activations = max old.activations new.activations; settings = max old.settings new.settings }

  greater_within : {a b c : Made} → IsAtMost a c → IsAtMost b c → IsAtMost (greater a b) c
  greater_within h k =
      let a = h.activations in
      let b = k.activations in
      let c = h.settings in
      let d = k.settings in
      record { activations = omega (arith, a, b); settings = omega (arith, c, d) }

  module _ (made : List Made) (counts : ℕ) (b : AreBelow costs w made counts) (j : ℕ) (lt : j < length costs.tasks) where
    abbrev new : Made
    new = capped_made costs w (numbers_of made) counts j

    abbrev pub grown : List Made
    grown = set made j (greater (numbers_of made j) new)

    inside : j < length made
    inside = let e = b.count in omega (arith, e, lt)

    at_j : numbers_of grown j ≡ greater (numbers_of made j) new
    at_j = get_or-set_same made j (greater (numbers_of made j) new) none_made inside

    -- what holds of the numbers so far and of those that have grown
    at : (P : ℕ → Made → Type 0) → ((i : ℕ) → P i (numbers_of made i)) → P j (greater (numbers_of made j) new) → (i : ℕ) → P i (numbers_of grown i)
    at P old here i = by (cases_eq i j)
      where
        by : (i ≡ j) ⊎ (i ≡ j → ⊥) → P i (numbers_of grown i)
        by (inl e) = subst (λ k. P k (numbers_of grown k)) (sym e) (subst (P j) (sym at_j) here)
        by (inr ne) = subst (P i) (sym (get_or-set_other made j i (greater (numbers_of made j) new) none_made ne)) (old i)

    pub grown_below : AreBelow costs w grown counts
    grown_below = record {
      count = length-set made j (greater (numbers_of made j) new) ∙ b.count;
      within =
          at (λ i x. IsAtMost x most_made) b.within
          (greater_within (b.within j)
          (counted_within (rule_of costs w j) (activations costs w (numbers_of made) counts j) (settings costs w (numbers_of made) counts j)));
      numbers_below = λ m more s.
          at (λ i x. IsAtMost x (m i)) (b.numbers_below m more s) (greater_within (b.numbers_below m more s j) (met_below made counts b m more s j lt));
      counts_below = b.counts_below;
    }

    -- the same, as code makes them
    pub grown_so : (made_here : Made) (x y : ℕ) → made_here ≡ new → x ≡ max (numbers_of made j).activations made_here.activations
        → y ≡ max (numbers_of made j).settings made_here.settings → AreBelow costs w (set made j (record { activations = x; settings = y })) counts
    grown_so made_here x y e ex ey =
        let first : Made → Type 0 = λ m. AreBelow costs w (set made j m) counts in
        let with_first : ℕ → Type 0 = λ n. AreBelow costs w (set made j (record { activations = n; settings = y })) counts in
        let with_next : ℕ → Type 0 = λ n. AreBelow costs w (set made j (record { activations = max (numbers_of made j).activations made_here.activations; settings = n })) counts in
        let with_made : Made → Type 0 = λ m. first (greater (numbers_of made j) m) in
        subst with_first (sym ex) (subst with_next (sym ey) (subst with_made (sym e) grown_below))

  -- ---- counts that rise

  pub zeros_below : (made : List Made) → length made ≡ length costs.tasks → ((k : ℕ) → k < length made → numbers_of made k ≡ none_made) → AreBelow costs w made 0
  zeros_below made count zeros = record {
    count = count;
    within = λ j. none (λ x. IsAtMost x most_made) (record { activations = omega arith; settings = omega arith }) j;
    numbers_below = λ m more s j. none (λ x. IsAtMost x (m j)) (record { activations = omega arith; settings = omega arith }) j;
    counts_below = λ m more s. omega arith;
  }
    where
      none : (P : Made → Type 0) → P none_made → (j : ℕ) → P (numbers_of made j)
      none P p j = by (cases_lt j (length made))
        where
          by : (j < length made) ⊎ (length made ≤ j) → P (numbers_of made j)
          by (inl lt) = subst P (sym (zeros j lt)) p
          by (inr le) = subst P (sym (get_or_past made j none_made le)) p

  pub risen : (made : List Made) (counts filled next : ℕ) → AreBelow costs w made counts → filled ≡ capped (window_counts costs w (numbers_of made) counts)
      → next ≡ max counts filled → AreBelow costs w made next
  risen made counts filled next b e n = record {
    count = b.count;
    within = b.within;
    numbers_below = b.numbers_below;
    counts_below = λ m more s.
        let le = filled_below made counts b m more s in
        let so = b.counts_below m more s in
        omega (arith, le, so, e, n);
  }

  -- to counts below which there is no solution
  pub raised : (made : List Made) (counts ahead next : ℕ) → AreBelow costs w made counts → ((m : Numbers) (more : ℕ) → IsSolution costs w m more → ahead ≤ more)
      → next ≡ max counts ahead → AreBelow costs w made next
  raised made counts ahead next b below e = record {
    count = b.count;
    within = b.within;
    numbers_below = b.numbers_below;
    counts_below = λ m more s.
        let so = b.counts_below m more s in
        let least = below m more s in
        omega (arith, so, least, e);
  }

  -- ---- the end

  pub settled : (made : List Made) (counts limit : ℕ) → TakeCounts costs → AreBelow costs w made counts → limit < greatest_sum → counts ≤ limit
      → ((j : ℕ) → j < length costs.tasks → IsMet costs w made counts j) → capped (window_counts costs w (numbers_of made) counts) ≤ counts
      → IsLeast costs w (numbers_of made) counts
  settled made counts limit take b top le met filled = record {
    solves = record { made = made_so; filled = filled_so };
    least_numbers = λ m more s j lt. b.numbers_below m more s j;
    least_counts = b.counts_below;
  }
    where
      filled_so : window_counts costs w (numbers_of made) counts ≤ counts
      filled_so = omega (arith, filled, le, top)

      made_so : (j : ℕ) → j < length costs.tasks → IsAtMost (made_within costs w (numbers_of made) counts j) (numbers_of made j)
      made_so j lt =
          let few = rounds_take (numbers_of made) 0 costs.tasks take j j (omega arith) lt in
          let all = filled_so in
          counted_exactly (rule_of costs w j) (activations costs w (numbers_of made) counts j) (settings costs w (numbers_of made) counts j) (numbers_of made j)
          (omega (arith, few, all, le, top)) (omega (arith, few, all, le, top)) (met j lt)

  -- ---- beyond the limit

  -- more comes than the limit within what each solution has at least: so each has more
  pub above : (made : List Made) (counts limit : ℕ) → limit < greatest_sum → AreBelow costs w made counts → limit < window_counts costs w (numbers_of made) counts
      → (m : Numbers) (more : ℕ) → IsSolution costs w m more → limit < more
  above made counts limit top b over m more s =
      let le = filled_below made counts b m more s in
      omega (arith, le, over, top)

  -- ---- the sum

  -- the least solution has just so many counts as come within it
  pub least_filled : (n : Numbers) (counts : ℕ) → IsLeast costs w n counts → counts ≡ window_counts costs w n counts
  least_filled n counts l =
      let le = l.solves.filled in
      let more = l.least_counts n (window_counts costs w n counts) fewer in
      omega (arith, le, more)
    where
      same : (j : ℕ) → IsAtMost (n j) (n j)
      same j = record { activations = omega arith; settings = omega arith }

      fewer : IsSolution costs w n (window_counts costs w n counts)
      fewer = record {
        made = λ j lt. at_most_both (made_more costs w n n (window_counts costs w n counts) counts same l.solves.filled j) (l.solves.made j lt);
        filled = window_more costs w n n (window_counts costs w n counts) counts same l.solves.filled;
      }
