-- The summary of a body is right, where those of the functions that it calls are.
use Rattle.std.proofs.Common.{◌≡◌, ℕ, zero, suc, ◌+◌, ◌-◌, ◌<◌, ◌≤◌, ◌⊎◌, inl, inr, Bool, true, false, ltb, ◌&&◌, List, length, get_or, cond, min, max, Option, None, refl, ap, sym, ◌∙◌, subst, arith, ⊎_elim}
use Rattle.std.specs.Prelude.{MatchBool}
use Rattle.std.proofs.lemmas.Bool.{cases_lt, true≢false, false≢true, lt-ltb, ltb-true, cases_Bool}
use Rattle.sloth_base.specs.declared.config.Config.{Config}
use Rattle.sloth_base.specs.declared.app.App.{App}
use Rattle.sloth_base.specs.declared.app.Op.{Op}
use Rattle.sloth_base.specs.declared.app.Op.TheVariants as op
use Rattle.sloth_base.specs.Named.{function, operation}
use Rattle.sloth_base.specs.Limits.{size_limit}
use Rattle.code_rules.specs.Code.{IsItem, HasCall}
use Rattle.call_graph.specs.Tables.{max_below}
use Rattle.stack_bounds.proofs.Below.{max_below-at, max_below-some, last_or_before}
use Rattle.bound_rules.specs.declared.bound.Body.{Body}
use Rattle.bound_rules.specs.declared.bound.Summary.{Summary}
use Rattle.bound_rules.specs.Items.{reaches_level}
use Rattle.bound_rules.specs.declared.bound.BodyWeights.{BodyWeights}
use Rattle.bound_rules.specs.Weights.{joined}
use Rattle.bound_rules.specs.Summaries.{summary_of, unknown}
use Rattle.walk_sums.specs.Activations.{is_raised, called_level, level_behind, ReachesItem, reaches_first, ReachesCall, IsRaisedCall}
use Rattle.walk_sums.specs.Computed.{KnownBody, known_body_of, callee, called_summary, calls_endless, begun, called_most, most_at, most_of, joined_both, called_out, out_at, out_of}
use Rattle.walk_sums.specs.KnownBodies.{IsKnownBody}
use Rattle.walk_sums.proofs.KnownRaised.{known_raised}
use Rattle.walk_sums.proofs.Counting.{any_is, none_is}
use Rattle.walk_sums.specs.declared.levels.Kind.{Kind}
use Rattle.walk_sums.specs.Kinds.{MayBegin, may_begin}
use Rattle.walk_sums.specs.Parts.{SumsBack, SumsOn, SumsOut, SumsWithin, out_here, out_behind, within_here, within_called, within_behind}
use Rattle.walk_sums.specs.Known.{IsGreatestPart, HasLimit, IsExact, IsEndless, IsSummary, IsSummed}
use Rattle.walk_sums.proofs.Beginning.{begins_there, begins_marked}
use Rattle.walk_sums.proofs.Covering.{covered_call}
use Rattle.walk_sums.proofs.Limited.{CalledLimit, has_limit}
use Rattle.walk_sums.proofs.Measured.{Measures, Sizes, on_begins, back_begins, reached_after, on_none, back_none, on_attained, back_attained}

-- ---- the greatest of two at each place

-- what holds of each number above 0, the own one or the called one of a place, holds of the greatest of all
greatest_holds : (P : ℕ → Type 0) (N : ℕ) (own called : ℕ → ℕ) → ((i : ℕ) → i < N → 0 < own i → P (own i)) → ((i : ℕ) → i < N → 0 < called i → P (called i))
    → 0 < max_below N (λ i. max (own i) (called i)) → P (max_below N (λ i. max (own i) (called i)))
greatest_holds P N own called by_own by_called pos = by (max_below-some N (λ i. max (own i) (called i)))
  where
    from : (i : ℕ) → i < N → 0 < max (own i) (called i) → P (max (own i) (called i))
    from i lt some =
        ⊎_elim
        (λ (less : own i < called i). let is : called i ≡ max (own i) (called i) = omega (arith, less) in subst P is (by_called i lt (omega (arith, less))))
        (λ (le : called i ≤ own i). let is : own i ≡ max (own i) (called i) = omega (arith, le) in subst P is (by_own i lt (omega (arith, le, some))))
        (cases_lt (own i) (called i))

    by : (max_below N (λ i. max (own i) (called i)) ≡ 0) ⊎ ((i : ℕ) × (i < N) × (max (own i) (called i) ≡ max_below N (λ i. max (own i) (called i))))
        → P (max_below N (λ i. max (own i) (called i)))
    by (inl none) = absurd (omega (arith, none, pos))
    by (inr at_one) = subst P at_one.2 (from at_one.0 at_one.1 (let e = at_one.2 in omega (arith, e, pos)))

-- the functions that a body calls
pub record Called (config : Config) (app : App) (weights : List BodyWeights) (kind : Kind) (level : Option ℕ) (f : ℕ) (whole own : List Summary) : Type 0 where
  pub whole_is : (g : ℕ) → HasCall app f g → IsSummary config app weights kind None g (summary_of whole g)
  pub own_is : (g : ℕ) → HasCall app f g → IsSummary config app weights kind level g (summary_of own g)

module _ (config : Config) (app : App) (weights : List BodyWeights) (kind : Kind) (level : Option ℕ) (f : ℕ) (there : f < length app.funcs) (body : Body) (is_body : IsKnownBody config app f body)
    (whole own : List Summary) (calls : Called config app weights kind level f whole own) where
  abbrev K : KnownBody
  K = known_body_of (function app f) body level whole own

  abbrev Level : ℕ → Option ℕ
  Level i = level_behind config app level f i

  same_raised : (i : ℕ) → i < length (function app f).items → known_raised K i ≡ is_raised config app level f i
  same_raised i lt = ap (reaches_level level) (is_body.ceilings i lt)

  -- the summary of a function that is called is right at its level
  callee_is : (i g : ℕ) → IsItem app f i (op.Invoke g) → IsSummary config app weights kind (Level i) g (callee K i g)
  callee_is i g item = by (is_raised config app level f i) refl
    where
      P : Bool → Type 0
      P b = IsSummary config app weights kind (called_level b level) g (callee K i g)

      by : (b : Bool) → is_raised config app level f i ≡ b → P (is_raised config app level f i)
      by true e =
          let Q : Bool → Type 0 = λ b. IsSummary config app weights kind None g (cond b (summary_of whole g) (summary_of own g)) in
          subst P (sym e) (subst Q (sym (same_raised i item.inside ∙ e)) (calls.whole_is g (i, item)))
      by false e =
          let Q : Bool → Type 0 = λ b. IsSummary config app weights kind level g (cond b (summary_of whole g) (summary_of own g)) in
          subst P (sym e) (subst Q (sym (same_raised i item.inside ∙ e)) (calls.own_is g (i, item)))

  -- ---- a call of a function in which parts have no limit

  both_so : (b : Bool) (s : Summary) → (cond b s unknown).is_endless ≡ true → (b ≡ true) × (s.is_endless ≡ true)
  both_so true s e = (refl, e)
  both_so false s e = absurd (false≢true e)

  is_endless_call : (i : ℕ) (o : Op) → (called_summary K i o).is_endless ≡ true → (g : ℕ) × (o ≡ op.Invoke g) × (get_or body.reached i false ≡ true) × ((callee K i g).is_endless ≡ true)
  is_endless_call i (op.Invoke g) e = let both = both_so (get_or body.reached i false) (callee K i g) e in (g, refl, both.0, both.1)
  is_endless_call i _ e = absurd (false≢true e)

  pub endless_callee : IsSummed weights kind level → calls_endless K ≡ true → IsEndless config app weights kind level f
  endless_callee summed e n =
      let at = any_is (length (function app f).items) (λ i. (called_summary K i (operation app f i)).is_endless) e in
      let c = is_endless_call at.0 (operation app f at.0) at.2 in
      let item : IsItem app f at.0 (op.Invoke c.0) = record { known = there; inside = at.1; is = c.1 } in
      let P : Bool → Type 0 = λ b. MatchBool b (IsEndless config app weights kind (Level at.0) c.0) (IsExact config app weights kind (Level at.0) c.0 (callee K at.0 c.0)) in
      let endless = subst P c.3 (callee_is at.0 c.0 item) in
      covered_call config app weights kind level f summed at.0 c.0 (record { reached = (is_body.reached at.0).0 c.2; item = item }) endless n

  -- ---- where there is none

  module _ (bounded : calls_endless K ≡ false) where
    -- the summary of a function that is called at a reached item tells the greatest sizes
    pub exact : (i g : ℕ) → ReachesCall app f i g → IsExact config app weights kind (Level i) g (callee K i g)
    exact i g c =
        let none = none_is (length (function app f).items) (λ i. (called_summary K i (operation app f i)).is_endless) bounded i c.item.inside in
        let e : (called_summary K i (op.Invoke g)).is_endless ≡ false = sym (ap (λ (o : Op). (called_summary K i o).is_endless) c.item.is) ∙ none in
        let P : Bool → Type 0 = λ b. MatchBool b (IsEndless config app weights kind (Level i) g) (IsExact config app weights kind (Level i) g (callee K i g)) in
        subst P (second (get_or body.reached i false) (callee K i g) ((is_body.reached i).1 c.reached) e) (callee_is i g c.item)
      where
        second : (b : Bool) (s : Summary) → b ≡ true → (cond b s unknown).is_endless ≡ false → s.is_endless ≡ false
        second true s e f = f
        second false s e f = absurd (false≢true e)

    -- where the task is raised it is that of the functions that are called so
    entered : (i g : ℕ) → ReachesItem app f i → IsRaisedCall config app level f i g → IsExact config app weights kind None g (summary_of whole g)
    entered i g r e =
        let x = exact i g (record { reached = r; item = e.item }) in
        let P : Bool → Type 0 = λ b. IsExact config app weights kind (called_level b level) g (callee K i g) in
        let Q : Bool → Type 0 = λ b. IsExact config app weights kind None g (cond b (summary_of whole g) (summary_of own g)) in
        subst Q (same_raised i e.item.inside ∙ e.raised) (subst P e.raised x)

    pub called_on : (i g : ℕ) → ReachesItem app f i → IsRaisedCall config app level f i g → IsGreatestPart (SumsOn config app weights kind None g 0) (summary_of whole g).on
    called_on i g r e = (entered i g r e).on

    pub called_back : (i g : ℕ) → ReachesItem app f i → IsRaisedCall config app level f i g → IsGreatestPart (SumsBack config app weights kind None g 0) (summary_of whole g).back
    called_back i g r e = (entered i g r e).back

    -- ---- a limit of what is called

    -- of the calls at the first n items
    pub record Below (n : ℕ) : Type 0 where
      pub limit : ℕ
      pub each : (i g : ℕ) → i < n → ReachesCall app f i g → (x : HasLimit config app weights kind (Level i) g) × (x.limit ≤ limit)

    calls_or_not : (o : Op) → ((h : ℕ) × (o ≡ op.Invoke h)) ⊎ ((h : ℕ) → o ≡ op.Invoke h → ⊥)
    calls_or_not (op.Invoke h) = inl (h, refl)
    calls_or_not _ = inr (λ h e. cc)

    same_callee : (o : Op) (g h : ℕ) → o ≡ op.Invoke g → o ≡ op.Invoke h → h ≡ g
    same_callee o g h e d = cc

    reaches_or_not : (n : ℕ) → n < length (function app f).items → ((h : ℕ) × ReachesCall app f n h) ⊎ ((h : ℕ) → ReachesCall app f n h → ⊥)
    reaches_or_not n lt = by (calls_or_not (operation app f n)) (cases_Bool (get_or body.reached n false))
      where
        by : ((h : ℕ) × (operation app f n ≡ op.Invoke h)) ⊎ ((h : ℕ) → operation app f n ≡ op.Invoke h → ⊥)
            → (get_or body.reached n false ≡ true) ⊎ (get_or body.reached n false ≡ false) → ((h : ℕ) × ReachesCall app f n h) ⊎ ((h : ℕ) → ReachesCall app f n h → ⊥)
        by (inl c) (inl r) = inl (c.0, record { reached = (is_body.reached n).0 r; item = record { known = there; inside = lt; is = c.1 } })
        by (inl c) (inr r) = inr (λ h k. true≢false (sym ((is_body.reached n).1 k.reached) ∙ r))
        by (inr no_call) r = inr (λ h k. no_call h k.item.is)

    below : (n : ℕ) → n ≤ length (function app f).items → Below n
    below zero le = record { limit = 0; each = λ i g lt c. absurd (omega (arith, lt)) }
    below (suc n) le = step (below n (omega (arith, le))) (reaches_or_not n (omega (arith, le)))
      where
        step : Below n → ((h : ℕ) × ReachesCall app f n h) ⊎ ((h : ℕ) → ReachesCall app f n h → ⊥) → Below (suc n)
        step b (inr none) = record {
          limit = b.limit;
          each = λ i g lt c. ⊎_elim
              (λ e. absurd (none g (subst (λ v. ReachesCall app f v g) e c)))
              (λ less. b.each i g less c)
              (last_or_before i n lt);
        }
        step b (inl call) =
            let x = (exact n call.0 call.1).limited in
            record {
              limit = b.limit + x.limit;
              each = λ i g lt c. ⊎_elim
                  (λ e.
                  let c' = subst (λ v. ReachesCall app f v g) e c in
                  let same = same_callee (operation app f n) g call.0 c'.item.is call.1.item.is in
                  let P : ℕ → Type 0 = λ v. (y : HasLimit config app weights kind (Level n) v) × (y.limit ≤ b.limit + x.limit) in
                  let Q : ℕ → Type 0 = λ v. (y : HasLimit config app weights kind (Level v) g) × (y.limit ≤ b.limit + x.limit) in
                  subst Q (sym e) (subst P same (x, omega arith)))
                  (λ less. let y = b.each i g less c in let le = y.1 in (y.0, omega (arith, le)))
                  (last_or_before i n lt);
            }

    pub all_calls : Below (length (function app f).items)
    all_calls = below (length (function app f).items) (omega arith)

    entered_limit : (i g : ℕ) → ReachesItem app f i → IsRaisedCall config app level f i g → (x : HasLimit config app weights kind None g) × (x.limit ≤ all_calls.limit)
    entered_limit i g r e =
        let P : Bool → Type 0 = λ b. (x : HasLimit config app weights kind (called_level b level) g) × (x.limit ≤ all_calls.limit) in
        subst P e.raised (all_calls.each i g e.item.inside (record { reached = r; item = e.item }))

    pub called_limit : CalledLimit config app weights kind level f all_calls.limit
    called_limit = record {
      on = λ i g n r e part. let x = entered_limit i g r e in let le = x.0.on n part in let more = x.1 in omega (arith, le, more);
      back = λ i g n r e part. let x = entered_limit i g r e in let le = x.0.back n part in let more = x.1 in omega (arith, le, more);
      most = λ i g n c part. let x = all_calls.each i g c.item.inside c in let le = x.0.most n part in let more = x.1 in omega (arith, le, more);
      out = λ i g n c part. let x = all_calls.each i g c.item.inside c in let le = x.0.out n part in let more = x.1 in omega (arith, le, more);
    }

    -- ---- the greatest sizes of parts that begin anywhere

    module _ (m : Measures config app weights kind level f) (z : Sizes config app weights kind level f m) where
      abbrev AttainsWithin : ℕ → Type 0
      AttainsWithin size = (n : ℕ) × SumsWithin config app weights kind level f n × (min size_limit (n + 1) ≡ size)

      abbrev AttainsOut : ℕ → Type 0
      AttainsOut size = (n : ℕ) × SumsOut config app weights kind level f n × (min size_limit (n + 1) ≡ size)

      abbrev N : ℕ
      N = length (function app f).items

      on_small : (i n : ℕ) → ReachesItem app f i → SumsOn config app weights kind level f i n → min size_limit (n + 1) ≤ get_or z.on i 0
      on_small i n r part = on_none config app weights kind level f i n m z r part

      begins : (i n : ℕ) → SumsOn config app weights kind level f i n → i < N
      begins i n part = (on_begins config app weights kind level f i n part).item.inside

      -- an entry counts where a part may begin
      begun_is : (table : List ℕ) (i : ℕ) → i < N → MayBegin app kind f i → begun K kind table i ≡ get_or table i 0
      begun_is table i lt may = ap (λ b. cond b (get_or table i 0) 0) (begins_marked config app kind f there body is_body i lt may)

      begun_some : (table : List ℕ) (i : ℕ) → i < N → 0 < begun K kind table i → MayBegin app kind f i × (begun K kind table i ≡ get_or table i 0)
      begun_some table i lt pos = by (may_begin kind (function app f) body.reached i) refl
        where
          by : (b : Bool) → may_begin kind (function app f) body.reached i ≡ b → MayBegin app kind f i × (begun K kind table i ≡ get_or table i 0)
          by true e = (begins_there config app kind f there body is_body i lt e, ap (λ b. cond b (get_or table i 0) 0) e)
          by false e = let none : begun K kind table i ≡ 0 = ap (λ b. cond b (get_or table i 0) 0) e in absurd (omega (arith, none, pos))

      both_is : (a b : ℕ) → 0 < a → 0 < b → joined_both a b ≡ joined a (b - 1)
      both_is a b p q =
          ap (λ c. cond (c && ltb 0 b) (joined a (b - 1)) 0) (lt-ltb 0 a p) ∙ ap (λ c. cond c (joined a (b - 1)) 0) (lt-ltb 0 b q)

      both_some : (a b : ℕ) → 0 < joined_both a b → (0 < a) × (0 < b) × (joined_both a b ≡ joined a (b - 1))
      both_some a b pos = by (ltb 0 a) (ltb 0 b) refl refl pos
        where
          by : (c d : Bool) → ltb 0 a ≡ c → ltb 0 b ≡ d → 0 < cond (c && d) (joined a (b - 1)) 0 → (0 < a) × (0 < b) × (joined_both a b ≡ joined a (b - 1))
          by true true e h p = let x = ltb-true 0 a e in let y = ltb-true 0 b h in (x, y, both_is a b x y)
          by true false e h p = absurd (omega (arith, p))
          by false d e h p = absurd (omega (arith, p))

      -- what a reached call adds
      called_most_is : (i g : ℕ) → ReachesCall app f i g
          → called_most K z.on i (operation app f i) ≡ max (callee K i g).most (joined_both (callee K i g).out (get_or z.on (i + 1) 0))
      called_most_is i g c =
          ap (called_most K z.on i) c.item.is
          ∙ ap (λ b. max (cond b (callee K i g) unknown).most (joined_both (cond b (callee K i g) unknown).out (get_or z.on (i + 1) 0))) ((is_body.reached i).1 c.reached)

      called_out_is : (i g : ℕ) → ReachesCall app f i g
          → called_out K z.back i (operation app f i) ≡ joined_both (callee K i g).out (get_or z.back (i + 1) 0)
      called_out_is i g c =
          ap (called_out K z.back i) c.item.is
          ∙ ap (λ b. joined_both (cond b (callee K i g) unknown).out (get_or z.back (i + 1) 0)) ((is_body.reached i).1 c.reached)

      pub most_is : IsGreatestPart (SumsWithin config app weights kind level f) (most_of K kind z.on)
      most_is = record { none_larger = larger; attained = attains }
        where
          at : (i : ℕ) → i < N → most_at K kind z.on i ≤ most_of K kind z.on
          at i lt = max_below-at N (most_at K kind z.on) i lt

          here : (i n : ℕ) → ReachesItem app f i → MayBegin app kind f i → SumsOn config app weights kind level f i n → min size_limit (n + 1) ≤ most_of K kind z.on
          here i n r may part =
              let le = on_small i n r part in
              let more = at i (begins i n part) in
              let is = begun_is z.on i (begins i n part) may in
              omega (arith, le, more, is)

          called : (i g n : ℕ) → ReachesCall app f i g → SumsWithin config app weights kind (Level i) g n → min size_limit (n + 1) ≤ most_of K kind z.on
          called i g n c part =
              let le = (exact i g c).most.none_larger n part in
              let more = at i c.item.inside in
              let is = called_most_is i g c in
              omega (arith, le, more, is)

          behind : (i g n q : ℕ) → ReachesCall app f i g → SumsOut config app weights kind (Level i) g n → SumsOn config app weights kind level f (i + 1) q → min size_limit (n + q + 1) ≤ most_of K kind z.on
          behind i g n q c out part =
              let le = (exact i g c).out.none_larger n out in
              let rest = on_small (i + 1) q (reached_after config app weights kind level f i g n c out) part in
              let more = at i c.item.inside in
              let is = called_most_is i g c in
              let both = both_is (callee K i g).out (get_or z.on (i + 1) 0) (omega (arith, le)) (omega (arith, rest)) in
              omega (arith, le, rest, more, is, both)

          larger : (n : ℕ) → SumsWithin config app weights kind level f n → min size_limit (n + 1) ≤ most_of K kind z.on
          larger n w = cases_of level f n refl refl w
            where
              cases_of : (l : Option ℕ) (h n : ℕ) → l ≡ level → h ≡ f → SumsWithin config app weights kind l h n → min size_limit (n + 1) ≤ most_of K kind z.on
              cases_of l h n e d (within_here a b i q r may part) =
                  here i q (subst (λ v. ReachesItem app v i) d r) (subst (λ v. MayBegin app kind v i) d may) (subst (λ v. SumsOn config app weights kind level v i q) d (subst (λ v. SumsOn config app weights kind v b i q) e part))
              cases_of l h n e d (within_called a b i g q c part) =
                  called i g q (subst (λ v. ReachesCall app v i g) d c)
                  (subst (λ v. SumsWithin config app weights kind (level_behind config app level v i) g q) d (subst (λ v. SumsWithin config app weights kind (level_behind config app v b i) g q) e part))
              cases_of l h n e d (within_behind a b i g q s c out part) =
                  behind i g q s (subst (λ v. ReachesCall app v i g) d c)
                  (subst (λ v. SumsOut config app weights kind (level_behind config app level v i) g q) d (subst (λ v. SumsOut config app weights kind (level_behind config app v b i) g q) e out))
                  (subst (λ v. SumsOn config app weights kind level v (i + 1) s) d (subst (λ v. SumsOn config app weights kind v b (i + 1) s) e part))

          from_on : (i : ℕ) → i < N → 0 < begun K kind z.on i → AttainsWithin (begun K kind z.on i)
          from_on i lt pos =
              let may = begun_some z.on i lt pos in
              let is = may.1 in
              let a = on_attained config app weights kind level f m z i (omega (arith, pos, is)) in
              (a.1.0, within_here level f i a.1.0 a.0.reached may.0 a.1.1, a.1.2 ∙ sym is)

          -- the call that adds something is reached
          adding : (i : ℕ) (o : Op) → i < N → operation app f i ≡ o → 0 < called_most K z.on i o
              → (g : ℕ) × ReachesCall app f i g × (called_most K z.on i o ≡ max (callee K i g).most (joined_both (callee K i g).out (get_or z.on (i + 1) 0)))
          adding i (op.Invoke g) lt e pos = by (get_or body.reached i false) refl
            where
              by : (b : Bool) → get_or body.reached i false ≡ b
                  → (h : ℕ) × ReachesCall app f i h × (called_most K z.on i (op.Invoke g) ≡ max (callee K i h).most (joined_both (callee K i h).out (get_or z.on (i + 1) 0)))
              by true r = (
                g,
                record { reached = (is_body.reached i).0 r; item = record { known = there; inside = lt; is = e } },
                ap (λ b. max (cond b (callee K i g) unknown).most (joined_both (cond b (callee K i g) unknown).out (get_or z.on (i + 1) 0))) r,
              )
              by false r =
                  let none : called_most K z.on i (op.Invoke g) ≡ 0 = ap (λ b. max (cond b (callee K i g) unknown).most (joined_both (cond b (callee K i g) unknown).out (get_or z.on (i + 1) 0))) r in
                  absurd (omega (arith, none, pos))
          adding i _ lt e pos = let none : 0 < 0 = pos in absurd (omega (arith, none))

          from_call : (i g : ℕ) → ReachesCall app f i g → 0 < max (callee K i g).most (joined_both (callee K i g).out (get_or z.on (i + 1) 0))
              → AttainsWithin (max (callee K i g).most (joined_both (callee K i g).out (get_or z.on (i + 1) 0)))
          from_call i g c pos = by (cases_lt (callee K i g).most (joined_both (callee K i g).out (get_or z.on (i + 1) 0)))
            where
              x : IsExact config app weights kind (Level i) g (callee K i g)
              x = exact i g c

              by : ((callee K i g).most < joined_both (callee K i g).out (get_or z.on (i + 1) 0)) ⊎ (joined_both (callee K i g).out (get_or z.on (i + 1) 0) ≤ (callee K i g).most)
                  → AttainsWithin (max (callee K i g).most (joined_both (callee K i g).out (get_or z.on (i + 1) 0)))
              by (inr le) =
                  let a = x.most.attained (omega (arith, pos, le)) in
                  let e = a.2 in
                  (a.0, within_called level f i g a.0 c a.1, omega (arith, e, le))
              by (inl less) =
                  let s = both_some (callee K i g).out (get_or z.on (i + 1) 0) (omega (arith, less)) in
                  let a = x.out.attained s.0 in
                  let b = on_attained config app weights kind level f m z (i + 1) s.1 in
                  let e = a.2 in
                  let d = b.1.2 in
                  let is = s.2 in
                  let p = s.1 in
                  (a.0 + b.1.0, within_behind level f i g a.0 b.1.0 c a.1 b.1.1, omega (arith, e, d, less, is, p))

          attains : 0 < most_of K kind z.on → AttainsWithin (most_of K kind z.on)
          attains =
              greatest_holds AttainsWithin N (begun K kind z.on) (λ i. called_most K z.on i (operation app f i)) from_on
              (λ i lt pos. let a = adding i (operation app f i) lt refl pos in subst AttainsWithin (sym a.2) (from_call i a.0 a.1 (subst (λ n. 0 < n) a.2 pos)))

      pub out_is : IsGreatestPart (SumsOut config app weights kind level f) (out_of K kind z.back)
      out_is = record { none_larger = larger; attained = attains }
        where
          at : (i : ℕ) → i < N → out_at K kind z.back i ≤ out_of K kind z.back
          at i lt = max_below-at N (out_at K kind z.back) i lt

          here : (i n : ℕ) → ReachesItem app f i → MayBegin app kind f i → SumsBack config app weights kind level f i n → min size_limit (n + 1) ≤ out_of K kind z.back
          here i n r may part =
              let le = back_none config app weights kind level f i n m z r part in
              let inside = (back_begins config app weights kind level f i n part).item.inside in
              let more = at i inside in
              let is = begun_is z.back i inside may in
              omega (arith, le, more, is)

          behind : (i g n q : ℕ) → ReachesCall app f i g → SumsOut config app weights kind (Level i) g n → SumsBack config app weights kind level f (i + 1) q → min size_limit (n + q + 1) ≤ out_of K kind z.back
          behind i g n q c out part =
              let le = (exact i g c).out.none_larger n out in
              let rest = back_none config app weights kind level f (i + 1) q m z (reached_after config app weights kind level f i g n c out) part in
              let more = at i c.item.inside in
              let is = called_out_is i g c ∙ both_is (callee K i g).out (get_or z.back (i + 1) 0) (omega (arith, le)) (omega (arith, rest)) in
              omega (arith, le, rest, more, is)

          larger : (n : ℕ) → SumsOut config app weights kind level f n → min size_limit (n + 1) ≤ out_of K kind z.back
          larger n w = cases_of level f n refl refl w
            where
              cases_of : (l : Option ℕ) (h n : ℕ) → l ≡ level → h ≡ f → SumsOut config app weights kind l h n → min size_limit (n + 1) ≤ out_of K kind z.back
              cases_of l h n e d (out_here a b i q r may part) =
                  here i q (subst (λ v. ReachesItem app v i) d r) (subst (λ v. MayBegin app kind v i) d may) (subst (λ v. SumsBack config app weights kind level v i q) d (subst (λ v. SumsBack config app weights kind v b i q) e part))
              cases_of l h n e d (out_behind a b i g q s c out part) =
                  behind i g q s (subst (λ v. ReachesCall app v i g) d c)
                  (subst (λ v. SumsOut config app weights kind (level_behind config app level v i) g q) d (subst (λ v. SumsOut config app weights kind (level_behind config app v b i) g q) e out))
                  (subst (λ v. SumsBack config app weights kind level v (i + 1) s) d (subst (λ v. SumsBack config app weights kind v b (i + 1) s) e part))

          adding : (i : ℕ) (o : Op) → i < N → operation app f i ≡ o → 0 < called_out K z.back i o
              → (g : ℕ) × ReachesCall app f i g × (called_out K z.back i o ≡ joined_both (callee K i g).out (get_or z.back (i + 1) 0))
          adding i (op.Invoke g) lt e pos = by (get_or body.reached i false) refl
            where
              by : (b : Bool) → get_or body.reached i false ≡ b
                  → (h : ℕ) × ReachesCall app f i h × (called_out K z.back i (op.Invoke g) ≡ joined_both (callee K i h).out (get_or z.back (i + 1) 0))
              by true r = (
                g,
                record { reached = (is_body.reached i).0 r; item = record { known = there; inside = lt; is = e } },
                ap (λ b. joined_both (cond b (callee K i g) unknown).out (get_or z.back (i + 1) 0)) r,
              )
              by false r =
                  let none : called_out K z.back i (op.Invoke g) ≡ 0 = ap (λ b. joined_both (cond b (callee K i g) unknown).out (get_or z.back (i + 1) 0)) r in
                  absurd (omega (arith, none, pos))
          adding i _ lt e pos = let none : 0 < 0 = pos in absurd (omega (arith, none))

          from_call : (i g : ℕ) → ReachesCall app f i g → 0 < joined_both (callee K i g).out (get_or z.back (i + 1) 0) → AttainsOut (joined_both (callee K i g).out (get_or z.back (i + 1) 0))
          from_call i g c pos =
              let s = both_some (callee K i g).out (get_or z.back (i + 1) 0) pos in
              let a = (exact i g c).out.attained s.0 in
              let b = back_attained config app weights kind level f m z (i + 1) s.1 in
              let e = a.2 in
              let d = b.1.2 in
              let is = s.2 in
              let p = s.1 in
              (a.0 + b.1.0, out_behind level f i g a.0 b.1.0 c a.1 b.1.1, omega (arith, e, d, is, p))

          from_back : (i : ℕ) → i < N → 0 < begun K kind z.back i → AttainsOut (begun K kind z.back i)
          from_back i lt pos =
              let may = begun_some z.back i lt pos in
              let is = may.1 in
              let a = back_attained config app weights kind level f m z i (omega (arith, pos, is)) in
              (a.1.0, out_here level f i a.1.0 a.0.reached may.0 a.1.1, a.1.2 ∙ sym is)

          attains : 0 < out_of K kind z.back → AttainsOut (out_of K kind z.back)
          attains =
              greatest_holds AttainsOut N (begun K kind z.back) (λ i. called_out K z.back i (operation app f i)) from_back
              (λ i lt pos. let a = adding i (operation app f i) lt refl pos in subst AttainsOut (sym a.2) (from_call i a.0 a.1 (subst (λ n. 0 < n) a.2 pos)))

      -- ---- the summary

      first_is : IsGreatestPart (SumsOn config app weights kind level f 0) (get_or z.on 0 0)
      first_is = record {
        none_larger = λ n part. on_small 0 n (reaches_first f) part;
        attained = λ pos. let a = on_attained config app weights kind level f m z 0 pos in a.1;
      }

      first_back : IsGreatestPart (SumsBack config app weights kind level f 0) (get_or z.back 0 0)
      first_back = record {
        none_larger = λ n part. back_none config app weights kind level f 0 n m z (reaches_first f) part;
        attained = λ pos. let a = back_attained config app weights kind level f m z 0 pos in a.1;
      }

      pub summed : IsExact config app weights kind level f (record { is_endless = false; on = get_or z.on 0 0; back = get_or z.back 0 0; most = most_of K kind z.on; out = out_of K kind z.back })
      summed = record {
        on = first_is;
        back = first_back;
        most = most_is;
        out = out_is;
        limited = has_limit config app weights kind level f m z all_calls.limit called_limit;
      }
