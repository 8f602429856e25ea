-- Texts have one list of lines of the counts of lower tasks at most.
use Rattle.std.proofs.Common.{◌≡◌, ◌∙◌, ℕ, ◌+◌, ◌<◌, List, [], length, get_or, sym, ap, subst, arith, ⊎_elim}
use Rattle.std.proofs.lemmas.Bool.{cases_lt}
use Rattle.std.proofs.lemmas.List.{ext_get_or}
use Rattle.sloth_base.specs.declared.config.Config.{Config}
use Rattle.sloth_base.specs.declared.app.App.{App}
use Rattle.sloth_base.specs.Named.{function, item_of}
use Rattle.sloth_source.proofs.Unique.{one_meaning}
use Rattle.osek_scheduler.specs.Apart.{static_priority}
use Rattle.osek_blocking.specs.Sections.{IsSection, IsLower}
use Rattle.bound_rules.specs.declared.bound.BodyWeights.{BodyWeights}
use Rattle.bound_rules.specs.Weights.{no_weights}
use Rattle.rv32_expand.proofs.Agreeing.{size_same}
use Rattle.rv32_expand.proofs.Least.{least_is_one}
use Rattle.sim_induction.specs.Items.{length_of, AreLengths, going_counts, ending_counts}
use Rattle.walk_sums.specs.declared.sections.Sum.{Sum}
use Rattle.run_counts.specs.Counts.{AreBodyCounts, AreCounts}
use Rattle.walk_sums.specs.Sections.{AreToldSums, AreAllSums, no_sum}
use Rattle.walk_sums.proofs.OneTold.{one_told}
use Rattle.bounds_text.specs.LowerCounts.{count_lines, heaviest, HasLowerCounts, OneLowerCountsText}

-- ---- weights

module _ (app : App) (one other : List (List ℕ)) (a : AreLengths app one) (b : AreLengths app other) where
  -- an item has one length
  pub same-length : (f i : ℕ) → f < length app.funcs → i < length (function app f).items → length_of one f i ≡ length_of other f i
  same-length f i known inside =
      let p = a.each f known in
      let q = b.each f known in
      p.are_lengths.each i inside
      ∙ size_same app (function app f) p.long q.long (λ k t g. least_is_one app (function app f) p.long q.long p.is_least q.is_least k t g) i inside
      ∙ sym (q.are_lengths.each i inside)

  -- and so a body has one list of weights
  same-body : (f : ℕ) → f < length app.funcs → (x y : BodyWeights) → AreBodyCounts one f (function app f) x → AreBodyCounts other f (function app f) y → x ≡ y
  same-body f known x y p q =
      let going : x.going ≡ y.going =
      ext_get_or 0 x.going y.going (p.going_count ∙ sym q.going_count)
      (λ i h.
      let count = p.going_count in
      let inside : i < length (function app f).items = omega (arith, h, count) in
      p.going i inside ∙ ap (λ n. n + going_counts (item_of (function app f) i).op) (same-length f i known inside) ∙ sym (q.going i inside)) in
      let ending : x.ending ≡ y.ending =
      ext_get_or 0 x.ending y.ending (p.ending_count ∙ sym q.ending_count)
      (λ i h.
      let count = p.ending_count in
      let inside : i < length (function app f).items = omega (arith, h, count) in
      p.ending i inside ∙ ap (λ n. n + ending_counts (function app f) (item_of (function app f) i).op) (same-length f i known inside) ∙ sym (q.ending i inside)) in
      let G : List ℕ → BodyWeights = λ l. record { going = l; ending = x.ending } in
      let E : List ℕ → BodyWeights = λ l. record { going = y.going; ending = l } in
      ap G going ∙ ap E ending

pub same-weights : (app : App) (one other : List BodyWeights) → AreCounts app one → AreCounts app other → one ≡ other
same-weights app one other a b =
    ext_get_or no_weights one other (a.2.count ∙ sym b.2.count)
    (λ f h.
    let count = a.2.count in
    let known : f < length app.funcs = omega (arith, h, count) in
    same-body app a.0 b.0 a.1 b.1 f known (get_or one f no_weights) (get_or other f no_weights) (a.2.each f known) (b.2.each f known))

-- ---- sums

module _ (config : Config) (app : App) (weights : List BodyWeights) where
  same-row : (h : ℕ) (one other : List Sum) → AreToldSums config app weights h one → AreToldSums config app weights h other → one ≡ other
  same-row h one other a b =
      ext_get_or no_sum one other (a.count ∙ sym b.count)
      (λ k lt.
      let count = a.count in
      let known : k < length config.tasks = omega (arith, lt, count) in
      ⊎_elim
      (λ low. one_told (IsSection config app h k) weights (get_or one k no_sum) (get_or other k no_sum) ((a.each k known).lower (known, low)) ((b.each k known).lower (known, low)))
      (λ high.
      let none : ¬ (IsLower config h k) = λ l. let low = l.1 in absurd (let wrong : ⊥ = omega (arith, low, high) in wrong) in
      (a.each k known).other none ∙ sym ((b.each k known).other none))
      (cases_lt (static_priority config k) (static_priority config h)))

  pub same-table : (one other : List (List Sum)) → AreAllSums config app weights one → AreAllSums config app weights other → one ≡ other
  same-table one other a b =
      ext_get_or [] one other (a.count ∙ sym b.count)
      (λ h lt.
      let count = a.count in
      let known : h < length config.tasks = omega (arith, lt, count) in
      same-row h (get_or one h []) (get_or other h []) (a.each h known) (b.each h known))

-- ---- lines

same-counts : (config : Config) (app : App) (one other : List ℕ) → HasLowerCounts config app one → HasLowerCounts config app other → one ≡ other
same-counts config app one other a b =
    let weights = same-weights app a.weights b.weights a.are_counts b.are_counts in
    let table =
    same-table config app a.weights a.table b.table a.are_sums (subst (λ w. AreAllSums config app w b.table) (sym weights) b.are_sums) in
    a.lines
    ∙ ap (λ w. count_lines config.tasks (heaviest w) a.table (length config.tasks)) weights
    ∙ ap (λ t. count_lines config.tasks (heaviest b.weights) t (length config.tasks)) table ∙ sym b.lines

pub one_lower_counts_text : OneLowerCountsText
one_lower_counts_text oil src one other a b =
    let same = one_meaning oil src a.config b.config a.app b.app a.accepted b.accepted in
    let there : HasLowerCounts a.config a.app other =
    subst (λ c. HasLowerCounts c a.app other) (sym same.0) (subst (λ x. HasLowerCounts b.config x other) (sym same.1) b.has_counts) in
    same-counts a.config a.app one other a.has_counts there
