-- The most bytes that chains of calls need are those to a depth that no chain exceeds.
use Rattle.std.proofs.Common.{◌≡◌, ℕ, zero, suc, ◌+◌, ◌*◌, ◌<◌, ◌≤◌, ◌⊎◌, inl, inr, ⊎_elim, Bool, true, false, cond, List, [], ◌∷◌, length, get_or, refl, sym, ap, ◌∙◌, subst, arith}
use Rattle.std.specs.Prelude.{nat_lt}
use Rattle.std.proofs.lemmas.Bool.{lt-ltb, cases_lt, le-ltb}
use Rattle.sloth_base.specs.declared.app.App.{App}
use Rattle.sloth_base.specs.declared.app.Op.{Op}
use Rattle.sloth_base.specs.declared.app.Op.TheVariants as op
use Rattle.sloth_base.specs.Named.{function, operation, body_of}
use Rattle.code_rules.specs.Code.{HasCall, IsCalledBy}
use Rattle.call_graph.specs.declared.lists.Ranks.{Ranks}
use Rattle.call_graph.specs.Ranks.{RanksOf}
use Rattle.stack_bounds.specs.Bounds.{total, frame_bytes, call_bytes, CallsInTurn, IsGreatest}
use Rattle.call_graph.specs.Tables.{sum_below, bytes_called, calls_to_depth, IsKnownCall, AreCallable}
use Rattle.stack_bounds.proofs.Below.{max_below-at, max_below-some, sum_below-gain, sum_below-le}

called_is : (further : ℕ → ℕ) (app : App) (o : Op) → (bytes_called app.funcs further o ≡ 0) ⊎ ((g : ℕ) × (o ≡ op.Invoke g))
called_is further app (op.Invoke g) = inr (g, refl)
called_is further app _ = inl refl

module _ (app : App) where
  -- the same chain of calls, from the body inwards
  pub inwards : (t f : ℕ) (callers chain : List ℕ) → IsCalledBy app t f callers → CallsInTurn app f chain
      → (whole : List ℕ) × CallsInTurn app (body_of app.funcs t) whole
      × (frame_bytes app (body_of app.funcs t) + total (call_bytes app) whole ≡ frame_bytes app f + total (call_bytes app) callers + total (call_bytes app) chain)
  inwards t f [] chain called calls = (
    chain,
    subst (λ (b : ℕ). CallsInTurn app b chain) called calls,
    (let e : frame_bytes app f ≡ frame_bytes app (body_of app.funcs t) = ap (frame_bytes app) called in omega (arith, e)),
  )
  inwards t f (caller ∷ outer) chain called calls =
      let further = inwards t caller outer (f ∷ chain) called.1 (called.0, calls) in
      let e = further.2 in
      (further.0, further.1, omega (arith, e))

  -- whole words
  pub words : (chain : List ℕ) → (n : ℕ) × (total (call_bytes app) chain ≡ 4 * n)
  words [] = (0, refl)
  words (g ∷ chain) =
      let rest = words chain in
      let e = rest.1 in
      (1 + (function app g).frame_words + rest.0, omega (arith, e))

module _ (app : App) (callable : AreCallable app.funcs) where
  -- ---- to a depth

  callee_known : (f g : ℕ) → HasCall app f g → g < length app.funcs
  callee_known f g calls = subst (IsKnownCall app.funcs) calls.1.is (callable.callees f calls.0 calls.1.known calls.1.inside)

  chain_le : (depth f : ℕ) (chain : List ℕ) → length chain ≤ depth → CallsInTurn app f chain → total (call_bytes app) chain ≤ calls_to_depth app.funcs depth f
  chain_le depth f [] l calls = omega arith
  chain_le zero f (g ∷ chain) l calls = absurd (omega (arith, l))
  chain_le (suc depth) f (g ∷ chain) l calls =
      let further : ℕ → ℕ = λ g. calls_to_depth app.funcs depth g in
      let size : ℕ → ℕ = λ i. bytes_called app.funcs further (operation app f i) in
      let item = calls.0.1 in
      let rest = chain_le depth g chain (omega (arith, l)) calls.1 in
      let at = max_below-at (length (function app f).items) size calls.0.0 item.inside in
      let same : size calls.0.0 ≡ call_bytes app g + further g = ap (bytes_called app.funcs further) item.is in
      omega (arith, rest, at, same)

  some_chain : (depth f : ℕ) → f < length app.funcs → (chain : List ℕ) × CallsInTurn app f chain × (total (call_bytes app) chain ≡ calls_to_depth app.funcs depth f)
  some_chain zero f known = ([], tt, refl)
  some_chain (suc depth) f known =
      let further : ℕ → ℕ = λ g. calls_to_depth app.funcs depth g in
      let size : ℕ → ℕ = λ i. bytes_called app.funcs further (operation app f i) in
      ⊎_elim
      (λ none. ([], tt, sym none))
      (λ some. ⊎_elim
      (λ zero_is. ([], tt, sym zero_is ∙ some.2))
      (λ call.
      let calls : HasCall app f call.0 = (some.0, record { known = known; inside = some.1; is = call.1 }) in
      let rest = some_chain depth call.0 (callee_known f call.0 calls) in
      let same : size some.0 ≡ call_bytes app call.0 + further call.0 = ap (bytes_called app.funcs further) call.1 in
      (call.0 ∷ rest.0, (calls, rest.1), ap (λ (x : ℕ). call_bytes app call.0 + x) rest.2 ∙ sym same ∙ some.2))
      (called_is further app (operation app f some.0)))
      (max_below-some (length (function app f).items) size)

  -- ---- no chain is longer than there are functions

  module _ (ranks : Ranks) (belong : RanksOf app ranks) where
    abbrev rank : ℕ → ℕ
    rank f = get_or ranks.rank f 0

    abbrev is_lower : ℕ → ℕ → ℕ
    is_lower f g = cond (nat_lt (rank g) (rank f)) 1 0

    -- the number of functions of lower rank
    abbrev lower : ℕ → ℕ
    lower f = sum_below (length app.funcs) (is_lower f)

    lower_one : (f g : ℕ) → is_lower f g ≤ 1
    lower_one f g = by (nat_lt (rank g) (rank f))
      where
        by : (b : Bool) → cond b 1 0 ≤ 1
        by true = omega arith
        by false = omega arith

    lower_yes : (f g : ℕ) → rank g < rank f → is_lower f g ≡ 1
    lower_yes f g l = ap (λ b. cond b 1 0) (lt-ltb (rank g) (rank f) l)

    lower_no : (f g : ℕ) → rank f ≤ rank g → is_lower f g ≡ 0
    lower_no f g l = ap (λ b. cond b 1 0) (le-ltb (rank g) (rank f) l)

    lower_mono : (f g h : ℕ) → rank g ≤ rank f → is_lower g h ≤ is_lower f h
    lower_mono f g h l = ⊎_elim
        (λ less. let a = lower_yes g h less in let b = lower_yes f h (omega (arith, l, less)) in omega (arith, a, b))
        (λ more. let a = lower_no g h more in omega (arith, a))
        (cases_lt (rank h) (rank g))

    callee_lower : (f g : ℕ) → HasCall app f g → lower g + 1 ≤ lower f
    callee_lower f g calls =
        let above = belong.above f g calls in
        let none = lower_no g g (omega arith) in
        let one = lower_yes f g above in
        sum_below-gain (length app.funcs) (is_lower g) (is_lower f) g 1 (callee_known f g calls) (λ h l. lower_mono f g h (omega (arith, above))) (omega (arith, none, one))

    lower_few : (f : ℕ) → f < length app.funcs → lower f + 1 ≤ length app.funcs
    lower_few f known =
        let none = lower_no f f (omega arith) in
        let more = sum_below-gain (length app.funcs) (is_lower f) (λ h. 1) f 1 known (λ h l. lower_one f h) (omega (arith, none)) in
        let all = sum_below-le (length app.funcs) (λ h. 1) 1 (λ h l. omega arith) in
        omega (arith, more, all)

    chain_short : (f : ℕ) (chain : List ℕ) → CallsInTurn app f chain → length chain ≤ lower f
    chain_short f [] calls = omega arith
    chain_short f (g ∷ chain) calls =
        let rest = chain_short g chain calls.1 in
        let less = callee_lower f g calls.0 in
        omega (arith, rest, less)

    pub longest : (f : ℕ) (chain : List ℕ) → f < length app.funcs → CallsInTurn app f chain → length chain + 1 ≤ length app.funcs
    longest f chain known calls =
        let a = chain_short f chain calls in
        let b = lower_few f known in
        omega (arith, a, b)

    chain_bytes : (f : ℕ) (chain : List ℕ) → CallsInTurn app f chain → total (call_bytes app) chain ≤ 132 * length chain
    chain_bytes f [] calls = omega arith
    chain_bytes f (g ∷ chain) calls =
        let rest = chain_bytes g chain calls.1 in
        let frame = callable.frames g (callee_known f g calls.0) in
        omega (arith, rest, frame)

    pub greatest : (f : ℕ) → f < length app.funcs → IsGreatest (CallsInTurn app f) (total (call_bytes app)) (calls_to_depth app.funcs (length app.funcs) f)
    greatest f known = record {
      some = some_chain (length app.funcs) f known;
      none_greater = λ chain calls. let l = longest f chain known calls in chain_le (length app.funcs) f chain (omega (arith, l)) calls;
    }

    -- at most 63 calls
    pub greatest_small : (f bytes : ℕ) → f < length app.funcs → IsGreatest (CallsInTurn app f) (total (call_bytes app)) bytes → bytes ≤ 8316
    greatest_small f bytes known is =
        let few = callable.few in
        let chain = is.some.0 in
        let short = longest f chain known is.some.1 in
        let long = chain_bytes f chain is.some.1 in
        let e = is.some.2 in
        omega (arith, few, short, long, e)
