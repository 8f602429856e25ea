-- What is told of the greatest of sums is told of all parts together.
use Rattle.std.proofs.Common.{ℕ, zero, suc, ◌+◌, ◌<◌, ◌≤◌, ◌⊎◌, inl, inr, max, List, length, get_or, refl, sym, subst, arith, ⊎_elim}
use Rattle.std.proofs.lemmas.Bool.{cases_eq, cases_lt}
use Rattle.sloth_base.specs.declared.config.Config.{Config}
use Rattle.sloth_base.specs.declared.app.App.{App}
use Rattle.sloth_base.specs.Limits.{count_limit}
use Rattle.osek_scheduler.specs.Apart.{static_priority}
use Rattle.osek_blocking.specs.Walks.{Position}
use Rattle.osek_blocking.specs.Sections.{IsSection, IsSectionFor, IsLower}
use Rattle.bound_rules.specs.declared.bound.BodyWeights.{BodyWeights}
use Rattle.walk_sums.specs.declared.sections.Sum.{Sum}
use Rattle.walk_sums.specs.declared.sections.Sum.TheVariants as sum
use Rattle.walk_sums.specs.Told.{NoneIsAbove, SomeReaches, IsGreatestSum, ReachesLimit, IsToldSum}
use Rattle.walk_sums.specs.Sections.{no_sum, AreToldSums, greater, greatest_of}

-- ---- the greater of two

-- the parts of two kinds are those of a third
record AreBoth (One Other Both : List Position → Type 0) : Type 0 where
  from_one : (positions : List Position) → One positions → Both positions
  from_other : (positions : List Position) → Other positions → Both positions
  either : (positions : List Position) → Both positions → One positions ⊎ Other positions

module _ (One Other Both : List Position → Type 0) (weights : List BodyWeights) (are : AreBoth One Other Both) where
  none_above : (n m k : ℕ) → n ≤ k → m ≤ k → NoneIsAbove One weights n → NoneIsAbove Other weights m → NoneIsAbove Both weights k
  none_above n m k le more one other positions p = ⊎_elim
      (λ a. let x = one positions a in omega (arith, x, le))
      (λ b. let y = other positions b in omega (arith, y, more))
      (are.either positions p)

  some_one : (n : ℕ) → SomeReaches One weights n → SomeReaches Both weights n
  some_one n s = (s.0, are.from_one s.0 s.1, s.2)

  some_other : (n : ℕ) → SomeReaches Other weights n → SomeReaches Both weights n
  some_other n s = (s.0, are.from_other s.0 s.1, s.2)

  -- a limit of the parts of which a number is told, and of those that reach one
  huge_one : ReachesLimit One weights count_limit → (m : ℕ) → NoneIsAbove Other weights m → ReachesLimit Both weights count_limit
  huge_one r m other = record {
    some_reaches = some_one count_limit r.some_reaches;
    most = r.most + m;
    none_above = none_above r.most m (r.most + m) (omega arith) (omega arith) r.none_above other;
  }

  huge_other : ReachesLimit Other weights count_limit → (n : ℕ) → NoneIsAbove One weights n → ReachesLimit Both weights count_limit
  huge_other r n one = record {
    some_reaches = some_other count_limit r.some_reaches;
    most = n + r.most;
    none_above = none_above n r.most (n + r.most) (omega arith) (omega arith) one r.none_above;
  }

  counts_both : (n m : ℕ) → IsGreatestSum One weights n → IsGreatestSum Other weights m → (n ≤ m) ⊎ (m ≤ n) → IsGreatestSum Both weights (max n m)
  counts_both n m one other (inl le) = record {
    none_above = none_above n m (max n m) (omega arith) (omega arith) one.none_above other.none_above;
    attained = ⊎_elim
        (λ e. inl (omega (arith, e, le)))
        (λ s. inr (some_other (max n m) (let reach = s.2 in (s.0, s.1, omega (arith, reach, le)))))
        other.attained;
  }
  counts_both n m one other (inr le) = record {
    none_above = none_above n m (max n m) (omega arith) (omega arith) one.none_above other.none_above;
    attained = ⊎_elim
        (λ e. inl (omega (arith, e, le)))
        (λ s. inr (some_one (max n m) (let reach = s.2 in (s.0, s.1, omega (arith, reach, le)))))
        one.attained;
  }

  greater_told : (a b : Sum) → IsToldSum One weights a → IsToldSum Other weights b → IsToldSum Both weights (greater a b)
  greater_told sum.Endless b one other = λ n. some_one n (one n)
  greater_told sum.Huge sum.Endless one other = λ n. some_other n (other n)
  greater_told sum.Huge sum.Huge one other = huge_one one other.most other.none_above
  greater_told sum.Huge (sum.Counts m) one other = huge_one one m other.0.none_above
  greater_told (sum.Counts n) sum.Endless one other = λ k. some_other k (other k)
  greater_told (sum.Counts n) sum.Huge one other = huge_other other n one.0.none_above
  greater_told (sum.Counts n) (sum.Counts m) one other =
      let a = one.1 in
      let b = other.1 in
      (counts_both n m one.0 other.0 (⊎_elim (λ lt. inl (omega (arith, lt))) (λ le. inr le) (cases_lt n m)), omega (arith, a, b))

-- where there is no part, 0 is told
none_told : (Part : List Position → Type 0) (weights : List BodyWeights) → ((positions : List Position) → Part positions → ⊥) → IsToldSum Part weights (sum.Counts 0)
none_told Part weights none = (record { none_above = λ positions p. absurd (none positions p); attained = inl refl }, omega arith)

-- ---- the sections of lower tasks

module _ (config : Config) (app : App) (weights : List BodyWeights) (h : ℕ) (sums : List Sum) (are : AreToldSums config app weights h sums) where
  -- those of the first tasks
  record IsOfFirst (n : ℕ) (positions : List Position) : Type 0 where
    task : ℕ
    first : task < n
    lower : IsLower config h task
    is_section : IsSection config app h task positions

  -- those of one task
  abbrev IsOf : (k : ℕ) (positions : List Position) → Type 0
  IsOf k positions = IsLower config h k × IsSection config app h k positions

  one_told : (k : ℕ) → k < length config.tasks → IsToldSum (IsOf k) weights (get_or sums k no_sum)
  one_told k lt = by (cases_lt (static_priority config k) (static_priority config h))
    where
      told : (s : Sum) → IsToldSum (IsSection config app h k) weights s → IsLower config h k → IsToldSum (IsOf k) weights s
      told (sum.Counts n) t low = (record { none_above = λ positions p. t.0.none_above positions p.1; attained = ⊎_elim inl (λ s. inr (s.0, (low, s.1), s.2)) t.0.attained }, t.1)
      told sum.Huge t low =
          let s = t.some_reaches in
          record { some_reaches = (s.0, (low, s.1), s.2); most = t.most; none_above = λ positions p. t.none_above positions p.1 }
      told sum.Endless t low = λ n. let s = t n in (s.0, (low, s.1), s.2)

      by : (static_priority config k < static_priority config h) ⊎ (static_priority config h ≤ static_priority config k) → IsToldSum (IsOf k) weights (get_or sums k no_sum)
      by (inl low) = told (get_or sums k no_sum) ((are.each k lt).lower (lt, low)) (lt, low)
      by (inr high) =
          let none : ¬ (IsLower config h k) = λ l. let low = l.1 in absurd (let wrong : ⊥ = omega (arith, low, high) in wrong) in
          subst (IsToldSum (IsOf k) weights) (sym ((are.each k lt).other none)) (none_told (IsOf k) weights (λ positions p. none p.0))

  one_more : (n : ℕ) → AreBoth (IsOfFirst n) (IsOf n) (IsOfFirst (suc n))
  one_more n = record {
    from_one = λ positions p. let lt = p.first in record { task = p.task; first = omega (arith, lt); lower = p.lower; is_section = p.is_section };
    from_other = λ positions p. record { task = n; first = omega arith; lower = p.0; is_section = p.1 };
    either = λ positions p. ⊎_elim
        (λ e. inr (subst (λ k. IsOf k positions) e (p.lower, p.is_section)))
        (λ d. let lt = p.first in inl (record { task = p.task; first = omega (arith, lt, d); lower = p.lower; is_section = p.is_section }))
        (cases_eq p.task n);
  }

  first_told : (n : ℕ) → n ≤ length config.tasks → IsToldSum (IsOfFirst n) weights (greatest_of sums n)
  first_told zero le = none_told (IsOfFirst 0) weights (λ positions p. let lt = p.first in let wrong : ⊥ = omega (arith, lt) in wrong)
  first_told (suc n) le =
      greater_told (IsOfFirst n) (IsOf n) (IsOfFirst (suc n)) weights (one_more n) (greatest_of sums n) (get_or sums n no_sum)
      (first_told n (omega (arith, le))) (one_told n (omega (arith, le)))

  all_of : (s : Sum) → IsToldSum (IsOfFirst (length config.tasks)) weights s → IsToldSum (IsSectionFor config app h) weights s
  all_of s = by s
    where
      to : (positions : List Position) → IsOfFirst (length config.tasks) positions → IsSectionFor config app h positions
      to positions p = record { task = p.task; lower = p.lower; is_section = p.is_section }

      from : (positions : List Position) → IsSectionFor config app h positions → IsOfFirst (length config.tasks) positions
      from positions p = record { task = p.task; first = p.lower.0; lower = p.lower; is_section = p.is_section }

      by : (s : Sum) → IsToldSum (IsOfFirst (length config.tasks)) weights s → IsToldSum (IsSectionFor config app h) weights s
      by (sum.Counts n) t = (record { none_above = λ positions p. t.0.none_above positions (from positions p); attained = ⊎_elim inl (λ s. inr (s.0, to s.0 s.1, s.2)) t.0.attained }, t.1)
      by sum.Huge t =
          let s = t.some_reaches in
          record { some_reaches = (s.0, to s.0 s.1, s.2); most = t.most; none_above = λ positions p. t.none_above positions (from positions p) }
      by sum.Endless t = λ n. let s = t n in (s.0, to s.0 s.1, s.2)

  -- what is told of the greatest of all is told of the sections of all lower tasks
  pub greatest_told : IsToldSum (IsSectionFor config app h) weights (greatest_of sums (length sums))
  greatest_told =
      subst (λ n. IsToldSum (IsSectionFor config app h) weights (greatest_of sums n)) (sym are.count)
      (all_of (greatest_of sums (length config.tasks)) (first_told (length config.tasks) (omega arith)))
