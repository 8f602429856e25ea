-- What lower tasks bring in with one event.
use Rattle.std.proofs.Common.{◌≡◌, ℕ, ◌+◌, ◌≤◌, List, [], ◌∷◌, ◌++◌, Bool, true, false, cond, refl, sym, ap, ◌∙◌, arith, append_assoc}
use Rattle.sloth_base.specs.declared.config.Config.{Config}
use Rattle.sloth_base.specs.declared.app.App.{App}
use Rattle.osek_scheduler.specs.InTime.{is_admit}
use Rattle.run_counts.specs.Stages.{Stage, charged}
use Rattle.response_laws.specs.Shares.{lower_own, lower_counts, LowerSpendWithin}
use Rattle.response_laws.proofs.LowerSpending.{own_where_none, admit_counts}
use Rattle.run_counts.specs.Rounds.{total}
use Rattle.response_laws.specs.Sums.{total_where, count}
use Rattle.response_laws.specs.Turns.{is_other}
use Rattle.response_laws.specs.Starts.{OpensSection, AreOfSection, IsAlone, AreOfOne}
use Rattle.response_laws.proofs.Linked.{each_append}
use Rattle.response_laws.proofs.Sums.{total-append}
use Rattle.response_laws.proofs.Lower.{admit_is_none}
use Rattle.response_laws.proofs.Passing.{AreAdmissions}

module _ (config : Config) (h : ℕ) where
  abbrev pub others : (Stage → ℕ) → List Stage → ℕ
  others f xs = total_where (is_other config h) f xs

  -- where none is another one, they have nothing
  pub no_others : (f : Stage → ℕ) (xs : List Stage) → count (is_other config h) xs ≤ 0 → others f xs ≤ 0
  no_others f [] le = omega arith
  no_others f (x ∷ xs) le = by (is_other config h x) le (no_others f xs)
    where
      by : (b : Bool) → cond b 1 0 + count (is_other config h) xs ≤ 0 → (count (is_other config h) xs ≤ 0 → others f xs ≤ 0) → cond b (f x) 0 + others f xs ≤ 0
      by true le rest = absurd (omega (arith, le))
      by false le rest = let none = rest (omega (arith, le)) in omega (arith, none)

  -- of admissions none is another one
  pub no_admissions : (app : App) (f : Stage → ℕ) (xs : List Stage) → AreAdmissions xs → others f xs ≤ 0
  no_admissions app f [] admits = omega arith
  no_admissions app f (x ∷ xs) admits =
      let rest = no_admissions app f xs admits.1 in
      let here = ap {B = ℕ} (λ b. cond b (f x) 0) (admit_is_none config app h x admits.0) in
      omega (arith, rest, here)

  -- the beginning of a section is one
  pub section_front : (b : ℕ) (xs ys : List Stage) → AreOfSection config h b (xs ++ ys) → AreOfSection config h b xs
  section_front b [] ys s = tt
  section_front b (x ∷ xs) ys s = by (is_admit x.stamped) s (section_front b xs ys)
    where
      by : (a : Bool) → OpensSection config h b a (AreOfSection config h b (xs ++ ys)) x (xs ++ ys) → (AreOfSection config h b (xs ++ ys) → AreOfSection config h b xs)
          → OpensSection config h b a (AreOfSection config h b xs) x xs
      by true s again = again s
      by false s again = (s.0, (each_append _ xs ys s.1).0)

  -- ---- one event

  -- no other event is in front of where there is none
  pub none_in_front : (xs ys : List Stage) → count (is_other config h) (xs ++ ys) ≤ 0 → count (is_other config h) xs ≤ 0
  none_in_front xs ys none = let both = total-append (λ x. cond (is_other config h x) 1 0) xs ys in omega (arith, none, both)

  pub one_front : (xs ys : List Stage) → AreOfOne config h (xs ++ ys) → AreOfOne config h xs
  one_front [] ys one = tt
  one_front (x ∷ xs) ys one = by (is_admit x.stamped) one (one_front xs ys)
    where
      by : (a : Bool) → IsAlone config h a (AreOfOne config h (xs ++ ys)) (xs ++ ys) → (AreOfOne config h (xs ++ ys) → AreOfOne config h xs)
          → IsAlone config h a (AreOfOne config h xs) xs
      by true one again = again one
      by false none again = none_in_front xs ys none

  module _ (app : App) (longest : ℕ) (run : List Stage) (brief : LowerSpendWithin config h longest run) where
    -- without an event of a lower task, lower tasks have no more than one item
    pub lower_where_none : (before xs behind : List Stage) → run ≡ before ++ (xs ++ behind) → count (is_other config h) xs ≤ 0 → total (lower_counts config h) xs ≤ longest
    lower_where_none before xs behind is none = let le = own_where_none config h xs none in let most = brief before xs behind is none in omega (arith, le, most)

    -- with one, that and one item
    pub lower_where_one : (before xs behind : List Stage) → run ≡ before ++ (xs ++ behind) → AreOfOne config h xs → total (lower_counts config h) xs ≤ others charged xs + longest
    lower_where_one before [] behind is one = omega arith
    lower_where_one before (x ∷ xs) behind is one = by (is_admit x.stamped) refl one (lower_where_one (before ++ x ∷ []) xs behind further)
      where
        further : run ≡ (before ++ x ∷ []) ++ (xs ++ behind)
        further = is ∙ sym (append_assoc before (x ∷ []) (xs ++ behind))

        alone : (o : Bool) → is_other config h x ≡ o → count (is_other config h) xs ≤ 0 → total (lower_counts config h) (x ∷ xs) ≤ others charged (x ∷ xs) + longest
        alone true on none =
            let rest = lower_where_none (before ++ x ∷ []) xs behind further none in
            let own = ap {B = ℕ} (λ b. cond b (charged x) (lower_own config h x)) on in
            let here = ap {B = ℕ} (λ b. cond b (charged x) 0) on in
            omega (arith, rest, own, here)
        alone false off none =
            let zero = ap {B = ℕ} (λ b. cond b 1 0) off in
            let all = lower_where_none before (x ∷ xs) behind is (omega (arith, none, zero)) in
            omega (arith, all)

        by : (a : Bool) → is_admit x.stamped ≡ a → IsAlone config h a (AreOfOne config h xs) xs
            → (AreOfOne config h xs → total (lower_counts config h) xs ≤ others charged xs + longest) → total (lower_counts config h) (x ∷ xs) ≤ others charged (x ∷ xs) + longest
        by true admits one again =
            let rest = again one in
            let own = ap {B = ℕ} (λ b. cond b (charged x) (lower_own config h x)) (admit_is_none config app h x admits) in
            let zero = admit_counts config app h x admits in
            omega (arith, rest, own, zero)
        by false later none again = alone (is_other config h x) refl none

    -- behind the first of such stages
    pub lower_behind_one : (before : List Stage) (first : Stage) (xs behind : List Stage) → run ≡ before ++ ((first ∷ xs) ++ behind) → AreOfOne config h (first ∷ xs)
        → total (lower_counts config h) xs ≤ others charged xs + longest
    lower_behind_one before first xs behind is one = by (is_admit first.stamped) one
      where
        further : run ≡ (before ++ first ∷ []) ++ (xs ++ behind)
        further = is ∙ sym (append_assoc before (first ∷ []) (xs ++ behind))

        by : (a : Bool) → IsAlone config h a (AreOfOne config h xs) xs → total (lower_counts config h) xs ≤ others charged xs + longest
        by true one = lower_where_one (before ++ first ∷ []) xs behind further one
        by false none = let le = lower_where_none (before ++ first ∷ []) xs behind further none in omega (arith, le)
