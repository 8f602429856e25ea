-- The verdict by the list of a symbol's uses is that of the definition.
use Rattle.std.proofs.Common.{◌≡◌, ℕ, zero, suc, ◌<◌, ◌≤◌, ◌⊎◌, inl, inr, Bool, true, false, ◌&&◌, ◌||◌, List, [], ◌∷◌, length, Option, Some, None, refl, sym, ap, ◌∙◌, subst, arith}
use Rattle.std.specs.Prelude.{◌≢◌, ◌==◌, ltb}
use Rattle.std.specs.Int.{bit_at}
use Rattle.std.specs.List.{list_any, list_all}
use Rattle.std.proofs.lemmas.Bool.{false≢true, cases_lt, and_parts, and_from, eq-eqb, eqb-true, eqb-false, lt-ltb, ltb-true}
use Rattle.std.proofs.lemmas.Nat.Bits.{same_from_bits, bit_at-lt, bit_at-zero}
use Rattle.std.proofs.lemmas.Option.{none-some, same_Some}
use Rattle.sloth_base.specs.declared.config.Config.{Config}
use Rattle.sloth_base.specs.declared.config.TaskDecl.{TaskDecl}
use Rattle.sloth_base.specs.declared.app.App.{App}
use Rattle.sloth_base.specs.Limits.{ceiling_count}
use Rattle.sloth_base.specs.Named.{function, item_of}
use Rattle.code_rules.specs.WellFormed.{WellFormed}
use Rattle.osek_scheduler.specs.Apart.{static_priority}
use Rattle.osek_scheduler.proofs.Facts.{facts}
use Rattle.call_graph.specs.Bits.{is_member}
use Rattle.call_graph.proofs.Sets.{has_none}
use Rattle.osek_blocking.specs.Walks.{Place, place}
use Rattle.osek_blocking.specs.Sections.{priority_at}
use Rattle.shares_text.specs.declared.contexts.Contexts.{Contexts}
use Rattle.shares_text.specs.declared.open_pairs.OpenPair.{OpenPair}
use Rattle.shares_text.specs.declared.sites.Access.{Access}
use Rattle.shares_text.specs.declared.contexts.Use.{Use}
use Rattle.shares_text.specs.declared.verdict.Verdict.{Verdict}
use Rattle.shares_text.specs.declared.verdict.Verdict.TheVariants as verdict
use Rattle.shares_text.specs.Accesses.{IsCalledFrom, Uses, IsAlwaysHeld, stores_at}
use Rattle.walk_sums.specs.Ceilings.{AreResourceCeilings}
use Rattle.shares_text.specs.Contexts.{IsUseOf, AreUses, is_use_at}
use Rattle.shares_text.specs.Verdicts.{IsUnused, IsUsedByOne, IsShared, IsOnlyRead, IsWritten, AreUsers, IsGuard, HasGuard, AreGuards, line_at, IsOpenPair, NoOpenPair, is_before, IsFirstOpenPair, IsVerdict}
use Rattle.shares_text.specs.Tables.{AreAccesses, AreAllContexts}
use Rattle.shares_text.specs.Computed.{priority_in, IsPairBy, uses_among}
use Rattle.shares_text.specs.VerdictsBy.{is_of_one, has_store, AreTasksOf, AreCommon, HaveNoCommon, AreOfTwo, IsVerdictBy}
use Rattle.shares_text.proofs.Members.{In, some_is, is_some_of, none_is, each_is, all_are, one_is_not}
use Rattle.shares_text.proofs.Orders.{IsNoLater, is_no_later}
use Rattle.shares_text.proofs.Pairing.{IsPairOf, HasPair, IsFirstPair, found_is}
use Rattle.shares_text.proofs.Using.{uses_are}
use Rattle.shares_text.proofs.Keeping.{Listed, listed, use_is, declared_is, task_uses, keepers_are}

module _ (config : Config) (app : App) (w : WellFormed config app) (y : ℕ) (uses : List Use) (are : AreUses config app y uses) where
  -- ---- who uses it

  unused : uses ≡ [] → IsUnused app y
  unused e t s = false≢true (subst (λ (l : List Use). list_any (is_use_at t s.0.func s.0.item) l ≡ true) e (are.all t s.0.func s.0.item s.1 s.2))

  some_uses : (t : ℕ) → list_any (λ u. u.task == t) uses ≡ true → Uses app y t
  some_uses t h =
      let s = some_is (λ u. u.task == t) uses h in
      subst (Uses app y) (eqb-true s.0.task t s.2) (task_uses config app w y uses are s.0 s.1)

  by_one : (t : ℕ) → list_any (λ u. u.task == t) uses ≡ true → is_of_one uses t ≡ true → IsUsedByOne app y t
  by_one t some all = (some_uses t some, alone)
    where
      alone : (u : ℕ) → Uses app y u → u ≡ t
      alone u s =
          let l = listed config app w y uses are u s.0.func s.0.item s.1 s.2 in
          sym l.task ∙ eqb-true l.entry.task t (each_is (λ v. v.task == t) uses l.entry all l.among)

  shared : AreOfTwo uses → IsShared app y
  shared h =
      let s = one_is_not (λ u. u.task == h.one) uses h.other in
      record {
        one = h.one;
        other = s.0.task;
        differ = λ e. eqb-false s.0.task h.one s.2 (sym e);
        first = some_uses h.one h.some;
        second = task_uses config app w y uses are s.0 s.1;
      }

  same_stores : (u : Use) (t f i : ℕ) → IsUseOf config app y u → u.func ≡ f → u.item ≡ i → u.stores ≡ stores_at app (place f i)
  same_stores u t f i is func item = is.stores ∙ (ap (λ x. stores_at app (place x u.item)) func ∙ ap (λ x. stores_at app (place f x)) item)

  only_read : has_store uses ≡ false → IsOnlyRead app y
  only_read none t here outer is =
      let l = listed config app w y uses are t here.func here.item outer is in
      sym (same_stores l.entry t here.func here.item l.is l.func l.item) ∙ none_is (λ u. u.stores) uses l.entry none l.among

  written : has_store uses ≡ true → IsWritten app y
  written h =
      let s = some_is (λ u. u.stores) uses h in
      let is = use_is config app w y uses are s.0 s.1 in
      record { task = s.0.task; here = place s.0.func s.0.item; outer = is.outer; is = is.is; stores = sym is.stores ∙ s.2 }

  users : (members : ℕ) → AreTasksOf uses members → AreUsers config app y members
  users members h t lt = (
    λ m. some_uses t (sym (h t small) ∙ m),
    λ s.
        let l = listed config app w y uses are t s.0.func s.0.item s.1 s.2 in
        h t small ∙ is_some_of (λ u. u.task == t) uses l.entry l.among (eq-eqb l.entry.task t l.task),
  )
    where
      small : t < 32
      small = let few = (facts config app w).in_range.configuration.few_tasks in omega (arith, lt, few)

  -- ---- guards

  guards : (members : ℕ) → AreCommon uses members → AreGuards app y members
  guards members h r few = (forth, back)
    where
      forth : is_member members r ≡ true → IsGuard app y r
      forth m t here outer is =
          let both = and_parts (ltb r ceiling_count) (list_all (λ u. is_member u.held r) uses) (sym (h r) ∙ m) in
          let l = listed config app w y uses are t here.func here.item outer is in
          let always = (l.is.held r few).0 (each_is (λ u. is_member u.held r) uses l.entry both.1 l.among) in
          let P : ℕ → ℕ → ℕ → Type 0 = λ x f i. IsAlwaysHeld app x (place f i) r in
          let moved = subst (λ x. P x here.func here.item) l.task
          (subst (λ x. P l.entry.task x here.item) l.func (subst (λ x. P l.entry.task l.entry.func x) l.item always)) in
          moved outer is.called

      back : IsGuard app y r → is_member members r ≡ true
      back g =
          h r ∙ and_from (ltb r ceiling_count) (list_all (λ u. is_member u.held r) uses) (lt-ltb r ceiling_count few)
          (all_are (λ u. is_member u.held r) uses each)
        where
          each : (u : Use) → In u uses → is_member u.held r ≡ true
          each u i =
              let is = use_is config app w y uses are u i in
              (is.held r few).1 (λ outer called.
              g u.task (place u.func u.item) outer (record { called = called; inside = is.is.inside; accesses = is.is.accesses }))

  no_guard : HaveNoCommon uses → ¬ (HasGuard app y)
  no_guard h g = false≢true (sym (has_none g.0) ∙ (guards 0 h g.0 g.1).1 g.2)

  no_bit : (members r : ℕ) → is_member members r ≡ false → bit_at members r ≡ bit_at 0 r
  unfolding is_member
  no_bit members r e =
      let lt = bit_at-lt members r in
      let n = eqb-false (bit_at members r) 1 e in
      let z : bit_at members r ≡ 0 = omega (arith, lt, n) in
      z ∙ sym (bit_at-zero r)

  -- a set that has no member is empty
  has_guard : (members : ℕ) → AreCommon uses members → members ≢ 0 → HasGuard app y
  has_guard members h differs = by (any_member ceiling_count)
    where
      any_member : (n : ℕ) → ((r : ℕ) × (r < n) × (is_member members r ≡ true)) ⊎ ((r : ℕ) → r < n → is_member members r ≡ false)
      any_member zero = inr (λ r lt. absurd (omega (arith, lt)))
      any_member (suc n) = at (is_member members n) refl (any_member n)
        where
          at : (b : Bool) → is_member members n ≡ b → ((r : ℕ) × (r < n) × (is_member members r ≡ true)) ⊎ ((r : ℕ) → r < n → is_member members r ≡ false)
              → ((r : ℕ) × (r < suc n) × (is_member members r ≡ true)) ⊎ ((r : ℕ) → r < suc n → is_member members r ≡ false)
          at true e s = inl (n, omega arith, e)
          at false e (inl s) = let lt = s.1 in inl (s.0, omega (arith, lt), s.2)
          at false e (inr none) = inr (λ r lt. last r lt (cases_lt r n))
            where
              last : (r : ℕ) → r < suc n → (r < n) ⊎ (n ≤ r) → is_member members r ≡ false
              last r lt (inl less) = none r less
              last r lt (inr le) = let same : r ≡ n = omega (arith, lt, le) in ap (is_member members) same ∙ e

      past : (r : ℕ) → ceiling_count ≤ r → is_member members r ≡ false
      past r le = h r ∙ ap (λ b. b && list_all (λ u. is_member u.held r) uses) (above (ltb r ceiling_count) refl)
        where
          above : (b : Bool) → ltb r ceiling_count ≡ b → ltb r ceiling_count ≡ false
          above false e = e
          above true e = let lt = ltb-true r ceiling_count e in absurd (omega (arith, lt, le))

      empty : ((r : ℕ) → r < ceiling_count → is_member members r ≡ false) → members ≡ 0
      empty none = same_from_bits members 0 (λ r. no_bit members r (each r (cases_lt r ceiling_count)))
        where
          each : (r : ℕ) → (r < ceiling_count) ⊎ (ceiling_count ≤ r) → is_member members r ≡ false
          each r (inl lt) = none r lt
          each r (inr le) = past r le

      by : ((r : ℕ) × (r < ceiling_count) × (is_member members r ≡ true)) ⊎ ((r : ℕ) → r < ceiling_count → is_member members r ≡ false) → HasGuard app y
      by (inl s) = (s.0, s.1, (guards members h s.0 s.1).0 s.2)
      by (inr none) = absurd (differs (empty none))

  -- ---- open pairs

  open_pair : (u v : Use) (p : OpenPair) → In u uses → In v uses → IsPairOf config.tasks u v p → IsOpenPair config app y p
  open_pair u v p i j pair =
      let low = use_is config app w y uses are u i in
      let high = use_is config app w y uses are v j in
      subst (IsOpenPair config app y) (sym pair.is)
      (record {
        low_place = place u.func u.item;
        low_outer = low.least.outer;
        low = record { called = low.least.called; inside = low.is.inside; accesses = low.is.accesses };
        low_line = low.line;
        high_place = place v.func v.item;
        high_outer = high.outer;
        high = high.is;
        high_line = high.line;
        stores = ap (λ b. b || stores_at app (place v.func v.item)) (sym low.stores) ∙ (ap (λ b. u.stores || b) (sym high.stores) ∙ pair.stores);
        lets_in = subst (λ x. x < static_priority config v.task) (sym low.least.is) pair.lets_in;
      })

  same_line : (u : Use) (here : Place) → IsUseOf config app y u → u.func ≡ here.func → u.item ≡ here.item → u.line ≡ line_at app here
  same_line u here is func item = is.line ∙ (ap (λ x. (item_of (function app x) u.item).line) func ∙ ap (λ x. (item_of (function app here.func) x).line) item)

  pair_open : (p : OpenPair) → IsOpenPair config app y p → HasPair config.tasks uses p
  pair_open p o =
      let a = listed config app w y uses are p.low o.low_place.func o.low_place.item o.low_outer o.low in
      let b = listed config app w y uses are p.high o.high_place.func o.high_place.item o.high_outer o.high in
      let low_stores = same_stores a.entry p.low o.low_place.func o.low_place.item a.is a.func a.item in
      let high_stores = same_stores b.entry p.high o.high_place.func o.high_place.item b.is b.func b.item in (
        a.entry,
        b.entry,
        a.among,
        b.among,
        record {
          lets_in = less a b;
          stores = ap (λ x. x || b.entry.stores) low_stores ∙ (ap (λ x. stores_at app o.low_place || x) high_stores ∙ o.stores);
          is = is a b;
        },
      )
    where
      less : (a : Listed config app w y uses are p.low o.low_place.func o.low_place.item) (b : Listed config app w y uses are p.high o.high_place.func o.high_place.item)
          → a.entry.least < priority_in config.tasks b.entry.task
      less a b =
          let called = subst (λ x. IsCalledFrom app p.low x o.low_outer) (sym a.func) o.low.called in
          let from = subst (λ x. IsCalledFrom app x a.entry.func o.low_outer) (sym a.task) called in
          let le = a.is.least.none_less o.low_outer from in
          let at =
          ap (λ x. priority_at config app x (place a.entry.func a.entry.item ∷ o.low_outer)) a.task
          ∙ (ap (λ x. priority_at config app p.low (place x a.entry.item ∷ o.low_outer)) a.func ∙ ap (λ x. priority_at config app p.low (place o.low_place.func x ∷ o.low_outer)) a.item) in
          let lt = o.lets_in in
          let high = ap (static_priority config) b.task in
          omega (arith, le, at, lt, high)

      is : (a : Listed config app w y uses are p.low o.low_place.func o.low_place.item) (b : Listed config app w y uses are p.high o.high_place.func o.high_place.item)
          → p ≡ record { low = a.entry.task; low_line = a.entry.line; high = b.entry.task; high_line = b.entry.line }
      is a b =
          ap (λ x. record { low = x; low_line = p.low_line; high = p.high; high_line = p.high_line }) (sym a.task)
          ∙ (ap (λ x. record { low = a.entry.task; low_line = x; high = p.high; high_line = p.high_line }) (o.low_line ∙ sym (same_line a.entry o.low_place a.is a.func a.item))
          ∙ (ap (λ x. record { low = a.entry.task; low_line = a.entry.line; high = x; high_line = p.high_line }) (sym b.task)
          ∙ ap (λ x. record { low = a.entry.task; low_line = a.entry.line; high = b.entry.task; high_line = x }) (o.high_line ∙ sym (same_line b.entry o.high_place b.is b.func b.item))))

  first_pair_is : (found : Option OpenPair) → IsPairBy config.tasks uses found → IsFirstPair config.tasks uses found
  first_pair_is found = found_is config.tasks uses found (declared_is config app w y uses are)

  first_open : (p : OpenPair) → IsPairBy config.tasks uses (Some p) → IsFirstOpenPair config app y p
  first_open p h =
      let is = first_pair_is (Some p) h in
      let s = is.some p refl in
      record { is = open_pair s.0 s.1 p s.2 s.3 s.4; first = λ q o. by q (is.first q (pair_open q o)) }
    where
      by : (q : OpenPair) → (x : OpenPair) × (Some p ≡ Some x) × IsNoLater x q → is_before q p ≡ false
      by q s = is_no_later p q (subst (λ x. IsNoLater x q) (sym (same_Some p s.0 s.1)) s.2)

  none_open : IsPairBy config.tasks uses None → NoOpenPair config app y
  none_open h p o = let s = (first_pair_is None h).first p (pair_open p o) in none-some s.0 s.1

  -- ---- the verdict

  pub verdict_is : (ceilings : List ℕ) → length ceilings ≡ ceiling_count → AreResourceCeilings config ceilings → (v : Verdict) → IsVerdictBy config.tasks ceilings uses v
      → IsVerdict config app y v
  verdict_is ceilings count exact verdict.Unused h = unused h
  verdict_is ceilings count exact (verdict.One t) h = by_one t h.0 h.1
  verdict_is ceilings count exact (verdict.Reads members) h = (shared h.0, only_read h.1, users members h.2)
  verdict_is ceilings count exact (verdict.Guarded members) h = (shared h.0, written h.1, has_guard members h.2 h.3, guards members h.2)
  verdict_is ceilings count exact (verdict.Open p) h = (shared h.0, written h.1, no_guard h.2, first_open p h.3)
  verdict_is ceilings count exact (verdict.Ordered list) h =
      (shared h.0, written h.1, no_guard h.2, none_open h.3, keepers_are config app w y uses are ceilings count exact list h.4)

-- of what is computed
pub judged : (config : Config) (app : App) → WellFormed config app → (y : ℕ) (tasks : List Contexts) (accesses : List Access) (uses : List Use) (decls : List TaskDecl) (ceilings : List ℕ)
    → decls ≡ config.tasks → uses ≡ uses_among tasks y accesses → AreAllContexts config app tasks → AreAccesses config app accesses → length ceilings ≡ ceiling_count
    → AreResourceCeilings config ceilings → (v : Verdict) → IsVerdictBy decls ceilings uses v → IsVerdict config app y v
judged config app w y tasks accesses uses decls ceilings d u contexts are count exact v h =
    verdict_is config app w y (uses_among tasks y accesses) (uses_are config app w y tasks accesses contexts are) ceilings count exact v
    (subst (λ (l : List Use). IsVerdictBy config.tasks ceilings l v) u (subst (λ (l : List TaskDecl). IsVerdictBy l ceilings uses v) d h))
