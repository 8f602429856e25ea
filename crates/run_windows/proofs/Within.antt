-- The windows of starts are within the greatest of their numbers, and within no less.
use Rattle.std.proofs.Common.{◌≡◌, ◌∙◌, ℕ, ◌+◌, ◌-◌, ◌<◌, ◌≤◌, ◌⊎◌, inl, inr, Bool, true, false, cond, List, length, Some, None, refl, sym, ap, subst, arith}
use Rattle.std.specs.Prelude.{nat_lt}
use Rattle.std.proofs.lemmas.Bool.{cases_eq, ltb-true, ltb-false, true≢false}
use Rattle.run_windows.specs.declared.costs.Costs.{Costs}
use Rattle.run_windows.specs.declared.costs.Start.{Start}
use Rattle.run_windows.specs.declared.costs.Window.{Window}
use Rattle.run_windows.specs.declared.costs.Longest.{Longest}
use Rattle.run_windows.specs.Costs.{window_limit}
use Rattle.run_windows.specs.Windows.{IsBound}
use Rattle.run_windows.specs.RunWindows.{margin, lead_of, start_at, run_window, IsNumber, IsWindowWithin, IsStartWithin}
use Rattle.run_windows.specs.Longest.{ComesBefore, IsFirstWindow, longer, IsNewWindow, IsLonger, IsMost}
use Rattle.run_windows.proofs.OneBound.{one_bound}

module _ (longest late : ℕ) (costs : Costs) (h : ℕ) where
  pub number_some : (opens : Bool) (s : Start) (w : Window) (l x : ℕ) → w ≡ run_window longest late costs h opens s → IsBound window_limit costs w (Some l)
      → x ≡ l + lead_of opens late - margin longest late → IsNumber longest late costs h opens s (Some x)
  number_some opens s w l x is bound e = (l, subst (λ v. IsBound window_limit costs v (Some l)) is bound, e)

  pub number_none : (opens : Bool) (s : Start) (w : Window) → w ≡ run_window longest late costs h opens s → IsBound window_limit costs w None
      → IsNumber longest late costs h opens s None
  number_none opens s w is bound = subst (λ v. IsBound window_limit costs v None) is bound

  -- a window is within its number, and all that is greater
  within_number : (opens : Bool) (s : Start) (x r : ℕ) → IsNumber longest late costs h opens s (Some x) → x ≤ r → IsWindowWithin longest late costs h r opens s
  within_number opens s x r (l, bound, e) le = (l, bound, omega (arith, e, le))

  -- and within no less
  number_least : (opens : Bool) (s : Start) (x r : ℕ) → h < length costs.tasks → IsNumber longest late costs h opens s (Some x) → IsWindowWithin longest late costs h r opens s
      → x ≤ r
  number_least opens s x r there (l, bound, e) (k, other, few) =
      let same : Some l ≡ Some k = one_bound costs (run_window longest late costs h opens s) window_limit (Some l) (Some k) there bound other in
      let is : l ≡ k = cc in
      omega (arith, e, few, is)

  none_within : (opens : Bool) (s : Start) (r : ℕ) → h < length costs.tasks → IsNumber longest late costs h opens s None → IsWindowWithin longest late costs h r opens s → ⊥
  none_within opens s r there bound (k, other, few) =
      let same : None ≡ Some k = one_bound costs (run_window longest late costs h opens s) window_limit None (Some k) there bound other in cc

  -- ---- a start

  pub no_start : (opens : Bool) (s : Start) → h < length costs.tasks → IsNumber longest late costs h opens s None → (r : ℕ) → IsStartWithin longest late costs h r s → ⊥
  no_start opens s there none r within = none_within opens s r there none (within opens)

  -- what holds of the longer of two
  longer_so : (P : Longest → Type 0) (most : Longest) (s : Start) (opens : Bool) (x : ℕ) → (most.number < x → P (record { number = x; start = s; opens = opens }))
      → (x ≤ most.number → P most) → P (longer most s opens x)
  longer_so P most s opens x more few = by (nat_lt most.number x) refl
    where
      by : (t : Bool) → nat_lt most.number x ≡ t → P (cond t (record { number = x; start = s; opens = opens }) most)
      by true e = more (ltb-true most.number x e)
      by false e = few (ltb-false most.number x e)

  pub longer_start : (s : Start) (most one next : Longest) (x y : ℕ) → h < length costs.tasks → IsNumber longest late costs h true s (Some x)
      → IsNumber longest late costs h false s (Some y) → one ≡ longer most s true x → next ≡ longer one s false y → IsLonger longest late costs h s most next
  longer_start s most one next x y there opening serving e f =
      subst (IsLonger longest late costs h s most) (sym f) (longer_so (IsLonger longest late costs h s most) one s false y second first)
    where
      Grown : Longest → Type 0
      Grown m = (most.number ≤ m.number) × (x ≤ m.number) × ((r : ℕ) → most.number ≤ r → IsStartWithin longest late costs h r s → m.number ≤ r)
          × ((m ≡ most) ⊎ IsNewWindow longest late costs h s most m)

      grown : Grown one
      grown =
          subst Grown (sym e)
          (longer_so Grown most s true x
          (λ less. (
            omega (arith, less),
            omega arith,
            (λ r le within. number_least true s x r there opening (within true)),
            inr (record { is = refl; number = opening; more = less; first = λ n e number. absurd (true≢false e) }),
          ))
          (λ few. (omega arith, few, (λ r le within. le), inl refl)))

      both : (r : ℕ) → x ≤ r → y ≤ r → IsStartWithin longest late costs h r s
      both r a b true = within_number true s x r opening a
      both r a b false = within_number false s y r serving b

      second : one.number < y → IsLonger longest late costs h s most (record { number = y; start = s; opens = false })
      second less = record {
        more = let le = grown.0 in omega (arith, le, less);
        within = both y (let le = grown.1 in omega (arith, le, less)) (omega arith);
        least = λ r le within. number_least false s y r there serving (within false);
        some = inr (record {
          is = refl;
          number = serving;
          more = let le = grown.0 in omega (arith, le, less);
          first = λ n e number. let few = number_least true s n x there number (within_number true s x x opening (omega arith)) in let le = grown.1 in omega (arith, few, le, less);
        });
      }

      first : y ≤ one.number → IsLonger longest late costs h s most one
      first few = record { more = grown.0; within = both one.number grown.1 few; least = grown.2; some = grown.3 }

  -- ---- several starts

  wider : (s : Start) (r next : ℕ) → r ≤ next → IsStartWithin longest late costs h r s → IsStartWithin longest late costs h next s
  wider s r next le within opens = let w = within opens in let few = w.2 in (w.0, w.1, omega (arith, few, le))

  pub one_more : (ss : List Start) (count : ℕ) (s : Start) (most next : Longest) → h < length costs.tasks → count < length ss → s ≡ start_at ss count → IsMost longest late costs h ss count most
      → IsLonger longest late costs h s most next → IsMost longest late costs h ss (count + 1) next
  one_more ss count s most next there lt is old own = record {
    within = λ i less. each i less (cases_eq i count);
    least = λ r all.
        own.least r (old.least r (λ i less. all i (omega (arith, less))))
        (subst (IsStartWithin longest late costs h r) (sym is) (all count (omega arith)));
    some = by own.some;
  }
    where
      each : (i : ℕ) → i < count + 1 → (i ≡ count) ⊎ (i ≡ count → ⊥) → IsStartWithin longest late costs h next.number (start_at ss i)
      each i less (inl same) = subst (λ k. IsStartWithin longest late costs h next.number (start_at ss k)) (sym same) (subst (IsStartWithin longest late costs h next.number) is own.within)
      each i less (inr other) = wider (start_at ss i) most.number next.number own.more (old.within i (omega (arith, less, other)))

      Attained : Longest → Type 0
      Attained m = (m.number ≡ 0) ⊎ IsFirstWindow longest late costs h ss m

      before : IsNewWindow longest late costs h s most next → (j : ℕ) (opens : Bool) (n : ℕ) → ComesBefore j opens count next.opens
          → IsNumber longest late costs h opens (start_at ss j) (Some n) → n < next.number
      before new j opens n (inl less) number =
          let few = number_least opens (start_at ss j) n most.number there number (old.within j less opens) in
          let more = new.more in
          omega (arith, few, more)
      before new j opens n (inr (same, stretch, closed)) number =
          new.first n closed
          (subst (λ v. IsNumber longest late costs h v s (Some n)) stretch (subst (λ v. IsNumber longest late costs h opens v (Some n)) (ap (start_at ss) same ∙ sym is) number))

      by : (next ≡ most) ⊎ IsNewWindow longest late costs h s most next → Attained next
      by (inl same) = subst Attained (sym same) old.some
      by (inr new) = inr (record {
        place = count;
        known = lt;
        is = new.is ∙ is;
        number = subst (λ v. IsNumber longest late costs h next.opens v (Some next.number)) (sym new.is) new.number;
        first = λ j opens n known comes number. before new j opens n comes number;
      })
