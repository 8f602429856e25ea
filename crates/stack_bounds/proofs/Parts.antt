-- The parts of the shared stack: what may stand below a basic task lies above its part.
use Rattle.std.proofs.Common.{◌≡◌, ℕ, zero, suc, ◌+◌, ◌%◌, ◌<◌, ◌≤◌, ⊎_elim, Bool, true, false, List, length, get_or, refl, sym, ◌∙◌, subst, arith}
use Rattle.std.proofs.lemmas.Bool.{cases_lt, cond-true, cond-false}
use Rattle.std.proofs.lemmas.List.{get_or_past}
use Rattle.sloth_base.specs.declared.config.Config.{Config}
use Rattle.sloth_base.specs.declared.app.App.{App}
use Rattle.sloth_base.specs.Named.{declaration}
use Rattle.call_graph.specs.declared.lists.Ranks.{Ranks}
use Rattle.sloth_base.specs.declared.limits.Bounds.{Bounds}
use Rattle.sloth_base.specs.Limits.{task_limit}
use Rattle.stack_bounds.specs.Bounds.{total, IsGreatest, IsBasic, MayBePreempted, AreStacked, AreBounds, AreParts}
use Rattle.call_graph.specs.Tables.{sum_below, most_stacked, AreOffsets}
use Rattle.stack_bounds.proofs.Below.{max_below-at, max_below-le, sum_below-le, sum_below-gain}
use Rattle.stack_bounds.proofs.Rows.{AreRows, length_is, priority, size, counted, counts, under, above, more, best, bests, greatest_shared}

-- a sum of whole words
words_below : (n : ℕ) (some : ℕ → ℕ) → ((i : ℕ) → i < n → some i % 4 ≡ 0) → sum_below n some % 4 ≡ 0
words_below zero some h = refl
words_below (suc n) some h =
    let before = words_below n some (λ i l. h i (omega (arith, l))) in
    let last = h n (omega arith) in
    omega (arith, before, last)

-- there is one greatest size
pub one_greatest : (Kind : List ℕ → Type 0) (size : List ℕ → ℕ) (m n : ℕ) → IsGreatest Kind size m → IsGreatest Kind size n → m ≡ n
one_greatest Kind size m n h k =
    let one = h.none_greater k.some.0 k.some.1 in
    let other = k.none_greater h.some.0 h.some.1 in
    let e = h.some.2 in
    let f = k.some.2 in
    omega (arith, one, other, e, f)

module _ (config : Config) (app : App) (ranks : Ranks) (yielding : List Bool) (bytes : List ℕ)
    (h : AreRows config app ranks yielding bytes) (offsets : List ℕ) (are : AreOffsets config.tasks yielding bytes offsets) where
  abbrev n : ℕ
  n = length config.tasks

  abbrev of : ℕ → ℕ
  of t = size config app ranks yielding bytes h t

  abbrev prior : ℕ → ℕ
  prior t = priority config app ranks yielding bytes h t

  abbrev counted_below : ℕ → ℕ → ℕ
  counted_below = counted config app ranks yielding bytes h

  abbrev lower : ℕ → ℕ
  lower t = sum_below n (counted_below (prior t))

  offset_is : (t : ℕ) → IsBasic config t → get_or offsets t 0 ≡ lower t
  offset_is t basic = are.each t basic.0 ∙ cond-false (declaration config t).extended 0 (lower t) basic.1

  past : (t : ℕ) → n ≤ t → get_or offsets t 0 ≡ 0
  past t l = get_or_past offsets t 0 (let c = are.count in omega (arith, l, c))

  own : (t : ℕ) → (declaration config t).extended ≡ true → get_or offsets t 0 ≡ 0
  own t extended = ⊎_elim
      (λ l. are.each t l ∙ cond-true (declaration config t).extended 0 (lower t) extended)
      (past t)
      (cases_lt t n)

  small_size : (t : ℕ) → t < n → of t ≤ 8572
  small_size t l = (length_is config app ranks yielding bytes h t l).0

  counted_small : (below t : ℕ) → t < n → counted_below below t ≤ 8704
  counted_small below t l = ⊎_elim
      (λ yes. let e = yes.1 in let s = small_size t l in omega (arith, e, s))
      (λ no. omega (arith, no))
      (counts config app ranks yielding bytes h below t l)

  counted_words : (below t : ℕ) → t < n → counted_below below t % 4 ≡ 0
  counted_words below t l = ⊎_elim
      (λ yes. let e = yes.1 in let s = (length_is config app ranks yielding bytes h t l).1 in omega (arith, e, s))
      (λ no. omega (arith, no))
      (counts config app ranks yielding bytes h below t l)

  few : n ≤ task_limit
  few = h.verified.in_range.configuration.few_tasks

  best_small : (t : ℕ) → t < n → best config app ranks yielding bytes h t ≤ 269824
  best_small t l = ⊎_elim
      (λ yes.
      let e = yes.1 in
      let s = small_size t l in
      let all = sum_below-le n (counted_below (prior t)) 8704 (λ i m. counted_small (prior t) i m) in
      let f = few in
      omega (arith, e, s, all, f))
      (λ no. let e = no.1 in omega (arith, e))
      (bests config app ranks yielding bytes h t l)

  inside : (t : ℕ) → IsBasic config t → get_or offsets t 0 + of t ≤ most_stacked config.tasks yielding bytes
  inside t basic = ⊎_elim
      (λ yes.
      let at = max_below-at n (best config app ranks yielding bytes h) t basic.0 in
      let e = yes.1 in
      let o = offset_is t basic in
      omega (arith, at, e, o))
      (λ no. absurd (no.0 basic))
      (bests config app ranks yielding bytes h t basic.0)

  below : (t u : ℕ) → IsBasic config t → IsBasic config u → MayBePreempted config app u → prior u < prior t → get_or offsets u 0 + of u ≤ get_or offsets t 0
  below t u basic lower_basic may less =
      let none = above config app ranks yielding bytes h (prior u) u (omega arith) in
      let all = under config app ranks yielding bytes h (prior t) u (lower_basic, may, less) in
      let gain = sum_below-gain n (counted_below (prior u)) (counted_below (prior t)) u (of u) lower_basic.0
      (λ i l. more config app ranks yielding bytes h (prior u) (prior t) i (omega (arith, less))) (omega (arith, none, all)) in
      let one = offset_is u lower_basic in
      let two = offset_is t basic in
      omega (arith, gain, one, two)

  words : (t : ℕ) → get_or offsets t 0 % 4 ≡ 0
  words t = ⊎_elim
      (λ l. by l)
      (λ l. let e = past t l in omega (arith, e))
      (cases_lt t n)
    where
      by : t < n → get_or offsets t 0 % 4 ≡ 0
      by l = ⊎_elim
          (λ yes. let e = offset_is t yes.0 in let w = words_below n (counted_below (prior t)) (λ i m. counted_words (prior t) i m) in omega (arith, e, w))
          (λ other. let e = own t (not_basic other.0) in omega (arith, e))
          (bests config app ranks yielding bytes h t l)
        where
          not_basic : (IsBasic config t → ⊥) → (declaration config t).extended ≡ true
          not_basic never = by_test (declaration config t).extended refl
            where
              by_test : (b : Bool) → (declaration config t).extended ≡ b → (declaration config t).extended ≡ true
              by_test true e = e
              by_test false e = absurd (never (l, e))

  pub parts : (bounds : Bounds) → bounds.bytes ≡ bytes → AreBounds config app bounds → AreParts config app bounds offsets
  parts bounds e is =
      let same : bounds.shared ≡ most_stacked config.tasks yielding bytes =
      one_greatest _ _ _ _ is.shared (subst (λ (l : List ℕ). IsGreatest (AreStacked config app) (total (λ t. get_or l t 0)) (most_stacked config.tasks yielding bytes)) (sym e)
      (greatest_shared config app ranks yielding bytes h)) in
      let small = max_below-le n (best config app ranks yielding bytes h) 269824 best_small in
      let P : List ℕ → Type 0 = λ l. (t : ℕ) → IsBasic config t → get_or offsets t 0 + get_or l t 0 ≤ bounds.shared in
      let Q : List ℕ → Type 0 = λ l. (t u : ℕ) → IsBasic config t → IsBasic config u → MayBePreempted config app u → prior u < prior t
      → get_or offsets u 0 + get_or l u 0 ≤ get_or offsets t 0 in
      record {
        count = are.count;
        own = own;
        inside = subst P (sym e) (λ t basic. let i = inside t basic in omega (arith, i, same));
        below = subst Q (sym e) below;
        words = words;
        small = omega (arith, small, same);
      }
