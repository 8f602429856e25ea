-- The lengths of the items of each body, one body after the other.
use Rattle.std.proofs.Common.{◌≡◌, ℕ, ◌+◌, ◌<◌, ◌≤◌, ⊎_elim, List, [], ◌∷◌, ◌++◌, length, get_or, sym, subst, below_more, arith}
use Rattle.std.proofs.lemmas.Bool.{cases_lt}
use Rattle.std.proofs.lemmas.List.{get_or_push, get_or_append_left, get_or_past, length_push}
use Rattle.sloth_base.specs.Named.{function, item_of}
use Rattle.sloth_base.specs.declared.app.App.{App}
use Rattle.code_rules.specs.AppRange.{IsTaskCode}
use Rattle.rv32_expand.specs.Passes.{AreShortest}
use Rattle.rv32_expand.proofs.Counts.{size_few}
use Rattle.rv32_expand.proofs.InRangeOf.{frame_of}
use Rattle.sim_induction.specs.Items.{length_of, AreLengths}

-- so far as to a body
pub record AreLengthsTo (app : App) (count : ℕ) (lengths : List (List ℕ)) : Type 0 where
  pub so_many : length lengths ≡ count
  pub each : (f : ℕ) → f < count → AreShortest app (function app f) (get_or lengths f [])

-- one body more
pub one_more : (app : App) (i : ℕ) (lengths : List (List ℕ)) (own : List ℕ) → AreLengthsTo app i lengths → AreShortest app (function app i) own
    → AreLengthsTo app (i + 1) (lengths ++ own ∷ [])
one_more app i lengths own done shortest =
    let n = done.so_many in
    record {
      so_many = let l = length_push lengths own in omega (arith, l, n);
      each = below_more _ _
          (λ f h. subst (AreShortest app (function app f)) (sym (get_or_append_left lengths (own ∷ []) [] f (omega (arith, n, h)))) (done.each f h))
          (subst (AreShortest app (function app i)) (sym (get_or_push lengths own [] i n)) shortest);
    }

-- behind the last body
pub whole : (app : App) (i : ℕ) (lengths : List (List ℕ)) → i ≡ length app.funcs → AreLengthsTo app i lengths → AreLengths app lengths
whole app i lengths e done = record {
  count = let n = done.so_many in omega (arith, n, e);
  each = λ f h. done.each f (omega (arith, h, e));
}

-- no item has more than 36 instructions
pub short : (app : App) → IsTaskCode app → (lengths : List (List ℕ)) → AreLengths app lengths → (f i : ℕ) → length_of lengths f i ≤ 36
short app code lengths are f i = ⊎_elim in_body behind (cases_lt f (length lengths))
  where
    behind : length lengths ≤ f → length_of lengths f i ≤ 36
    behind h = rw (get_or_past lengths f [] h) (omega arith)

    in_body : f < length lengths → length_of lengths f i ≤ 36
    in_body h =
        let c = are.count in
        let own = are.each f (omega (arith, h, c)) in
        let n = own.are_lengths.count in
        ⊎_elim
        (λ (l : i < length (get_or lengths f [])).
        let few = (size_few app (frame_of app code) (own.long i) (item_of (function app f) i).op).few in
        let each = own.are_lengths.each i (omega (arith, l, n)) in
        omega (arith, few, each))
        (λ (l : length (get_or lengths f []) ≤ i). rw (get_or_past (get_or lengths f []) i 0 l) (omega arith))
        (cases_lt i (length (get_or lengths f [])))
