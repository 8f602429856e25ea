-- The parts of response times have one name each.
use Rattle.std.proofs.Common.{◌≡◌, ◌∙◌, ℕ, ◌<◌, List, length, get_or, Bool, true, false, Option, Some, None, refl, sym, ap, subst, arith}
use Rattle.std.proofs.lemmas.List.{ext_get_or}
use Rattle.std.proofs.lemmas.Bool.Decides.{same_from_decides}
use Rattle.sloth_base.specs.declared.config.Config.{Config}
use Rattle.sloth_base.specs.declared.app.App.{App}
use Rattle.sloth_base.specs.declared.service.Service.TheVariants as service
use Rattle.sloth_base.specs.Named.{declaration, body_of}
use Rattle.load_text.specs.declared.load_line.Entry.{Entry}
use Rattle.load_text.specs.Loads.{work}
use Rattle.bound_rules.specs.declared.bound.BodyWeights.{BodyWeights}
use Rattle.walk_sums.specs.declared.counted.Counted.TheVariants as counts
use Rattle.run_windows.specs.declared.costs.Costs.{Costs}
use Rattle.run_windows.specs.declared.costs.Start.{Start}
use Rattle.run_windows.specs.declared.costs.Start.TheVariants as start
use Rattle.run_windows.specs.RunWindows.{IsLeastOf}
use Rattle.run_windows.proofs.OneLeast.{one_least}
use Rattle.run_windows.specs.declared.costs.RunCosts.{RunCosts}
use Rattle.run_costs.specs.Rounds.{AreRounds}
use Rattle.run_costs.specs.Tables.{no_sums}
use Rattle.run_costs.proofs.OneCosts.{one_rounds}
use Rattle.bounds_text.proofs.OneLatency.{same-lengths}
use Rattle.bounds_text.proofs.OneLowerCounts.{same-weights}
use Rattle.response_reasons.specs.Calls.{ComesTo, HasServer, HasFreeServer, HasActivator, IsServiceLine}
use Rattle.response_text.specs.declared.part_lines.Name.{Name}
use Rattle.response_text.specs.declared.part_lines.Name.TheVariants as name
use Rattle.response_text.specs.declared.part_lines.Bounded.{Bounded}
use Rattle.response_text.specs.declared.part_lines.PartNames.{PartNames}
use Rattle.response_text.specs.PartNames.{IsEntry, IsTick, HasHeavyItem, HasLongItem, line_name, IsStretchName, is_boot, is_entry, is_tick, is_item, IsItemName, bounded_by, unbounded, AreBounded, ArePartNames}

some_and_none : (Kind : ℕ → Type 0) (n : ℕ) → IsLeastOf Kind (Some n) → IsLeastOf Kind None → ⊥
some_and_none Kind n some none = none n some.0

same_some : (Kind : ℕ → Type 0) (n m : ℕ) → IsLeastOf Kind (Some n) → IsLeastOf Kind (Some m) → n ≡ m
same_some Kind n m a b = let same = one_least Kind (Some n) (Some m) a b in cc

module _ (config : Config) (app : App) where
  one_stretch : (weights : List BodyWeights) (late : ℕ) (n m : Name) → IsStretchName config app weights late n → IsStretchName config app weights late m → n ≡ m
  one_stretch weights late n m (is_boot e) (is_boot f) = refl
  one_stretch weights late n m (is_boot e) (is_entry t other l) = absurd (other e)
  one_stretch weights late n m (is_boot e) (is_tick c other u v) = absurd (other e)
  one_stretch weights late n m (is_boot e) (is_item l other u v r) = absurd (other e)
  one_stretch weights late n m (is_entry t other l) (is_boot e) = absurd (other e)
  one_stretch weights late n m (is_entry t other l) (is_entry s another k) = ap name.Entry (same_some (IsEntry config app late) t s l k)
  one_stretch weights late n m (is_entry t other l) (is_tick c another u v) = absurd (some_and_none (IsEntry config app late) t l u)
  one_stretch weights late n m (is_entry t other l) (is_item line another u v r) = absurd (some_and_none (IsEntry config app late) t l u)
  one_stretch weights late n m (is_tick c other u v) (is_boot e) = absurd (other e)
  one_stretch weights late n m (is_tick c other u v) (is_entry t another l) = absurd (some_and_none (IsEntry config app late) t l u)
  one_stretch weights late n m (is_tick c other u v) (is_tick d another p q) = ap name.Tick (same_some (IsTick config late) c d v q)
  one_stretch weights late n m (is_tick c other u v) (is_item line another p q r) = absurd (some_and_none (IsTick config late) c v q)
  one_stretch weights late n m (is_item line other u v r) (is_boot e) = absurd (other e)
  one_stretch weights late n m (is_item line other u v r) (is_entry t another l) = absurd (some_and_none (IsEntry config app late) t l u)
  one_stretch weights late n m (is_item line other u v r) (is_tick c another p q) = absurd (some_and_none (IsTick config late) c q v)
  one_stretch weights late n m (is_item line other u v r) (is_item low another p q s) = ap line_name (one_least (HasHeavyItem app weights late) line low r s)

  one_item : (longest : ℕ) (n m : Name) → IsItemName app longest n → IsItemName app longest m → n ≡ m
  one_item longest n m a b =
      let lengths = same-lengths app a.lengths b.lengths a.are_lengths b.are_lengths in
      let least = subst (λ (l : List (List ℕ)). IsLeastOf (HasLongItem app l longest) a.line) lengths a.is_least in
      a.is ∙ (ap line_name (one_least (HasLongItem app b.lengths longest) a.line b.line least b.is_least) ∙ sym b.is)

  one_bounded : (load : List Entry) (weights : List BodyWeights) (x y : List Bounded) → AreBounded config app load weights x → AreBounded config app load weights y → x ≡ y
  one_bounded load weights x y a b =
      ext_get_or unbounded x y (a.each.count ∙ sym b.each.count)
      (λ t h.
      let count = a.each.count in
      let lt : t < length config.tasks = omega (arith, h, count) in
      let extended = (declaration config t).extended in
      let one = get_or a.sums t no_sums in
      let clean = same_from_decides (get_or a.clean t false) (get_or b.clean t false) (a.are_clean t lt) (b.are_clean t lt) in
      let there = subst (λ (v : Bool). AreRounds app v extended t weights one) clean (a.are_sums.each t lt) in
      let sums = one_rounds config app load (get_or b.clean t false) extended t weights one (get_or b.sums t no_sums) there (b.are_sums.each t lt) in
      a.each.each t lt ∙ (ap (bounded_by (work load t)) sums ∙ sym (b.each.each t lt)))

  -- those of all windows
  pub one_names : (load : List Entry) (costs : RunCosts) (x y : PartNames) → ArePartNames config app load costs x → ArePartNames config app load costs y → x ≡ y
  one_names load costs x y a b =
      let weights = same-weights app x.weights y.weights a.counts b.counts in
      let stretch =
      one_stretch y.weights costs.late x.stretch y.stretch (subst (λ (w : List BodyWeights). IsStretchName config app w costs.late x.stretch) weights a.stretch) b.stretch in
      let bounded = one_bounded load y.weights x.bounded y.bounded (subst (λ (w : List BodyWeights). AreBounded config app load w x.bounded) weights a.bounded) b.bounded in
      let E : Name → PartNames = λ n. record { stretch = n; item = x.item; bounded = x.bounded; weights = x.weights } in
      let F : Name → PartNames = λ n. record { stretch = y.stretch; item = n; bounded = x.bounded; weights = x.weights } in
      let G : List Bounded → PartNames = λ l. record { stretch = y.stretch; item = y.item; bounded = l; weights = x.weights } in
      let H : List BodyWeights → PartNames = λ w. record { stretch = y.stretch; item = y.item; bounded = y.bounded; weights = w } in
      ap E stretch ∙ (ap F (one_item costs.longest x.item y.item a.item b.item) ∙ (ap G bounded ∙ ap H weights))

  -- that of the service in front of a window
  pub one_service : (costs : Costs) (h : ℕ) (s : Start) (x y : Option ℕ) → IsServiceLine config app costs h s x → IsServiceLine config app costs h s y → x ≡ y
  one_service costs h start.Free x y a b = one_least (HasFreeServer config app costs h) x y a b
  one_service costs h start.Boot x y a b = a ∙ sym b
  one_service costs h (start.Activation j) x y a b = one_least (HasActivator config app costs h j) x y a b
  one_service costs h (start.Setting j) x y a b = one_least (HasServer config app costs h (counts.Settings j)) x y a b
  one_service costs h (start.Section k) x y a b = one_least (ComesTo app (counts.Calls service.GetResource) (body_of app.funcs k)) x y a b
  one_service costs h (start.Round k) x y a b = a ∙ sym b
