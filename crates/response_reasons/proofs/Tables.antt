-- A table of lines of functions, filled in an order of calls.
use Rattle.std.proofs.Common.{◌≡◌, ℕ, ◌+◌, ◌<◌, ◌≤◌, ◌⊎◌, true, List, [], length, get_or, set, take, Option, None, ap, sym, ◌∙◌, subst, arith, ⊎_elim}
use Rattle.std.proofs.lemmas.Bool.{cases_eq, false≢true}
use Rattle.std.proofs.lemmas.List.{get_or-set_same, get_or-set_other, length-set, take_all}
use Rattle.sloth_base.specs.declared.app.App.{App}
use Rattle.code_rules.specs.Code.{is_in, HasCall}
use Rattle.walk_sums.specs.CallOrder.{IsCallOrder}
use Rattle.walk_sums.proofs.Bodily.{facts_of}
use Rattle.walk_sums.proofs.Ordering.{member, one_more}
use Rattle.walk_sums.proofs.Reached.{called_known}
use Rattle.response_reasons.specs.LoopCode.{LoopCode, IsLoopCode, line_at, IsLeastLine, AreEachLine, AreLeastLines}

-- those of these functions
pub record AreLinesOf (app : App) (IsLine : ℕ → Option ℕ → Type 0) (funcs : List ℕ) (lines : List (Option ℕ)) : Type 0 where
  pub count : length lines ≡ length app.funcs
  pub each : (f : ℕ) → is_in f funcs ≡ true → IsLine f (line_at lines f)

-- the functions that one calls, where all are known
pub known_lines : (c : LoopCode) (level : Option ℕ) → IsLoopCode c → (lines : List (Option ℕ)) (f g : ℕ) → AreLeastLines c level lines → HasCall c.walks.app f g
    → IsLeastLine c level g (line_at lines g)
known_lines c level is lines f g are calls = are.each g (called_known c.walks.config c.walks.app (facts_of c.walks.config c.walks.app is.walked.well_formed) f g calls)

module _ (app : App) (IsLine : ℕ → Option ℕ → Type 0) where
  pub none_yet : (lines : List (Option ℕ)) → length lines ≡ length app.funcs → AreLinesOf app IsLine [] lines
  none_yet lines count = record { count = count; each = λ f h. absurd (false≢true h) }

  module _ (order : List ℕ) (o : IsCallOrder app order) (lines : List (Option ℕ)) (k : ℕ) (s : AreLinesOf app IsLine (take k order) lines) (lt : k < length order) where
    pub next_known : get_or order k 0 < length app.funcs
    next_known = o.inside (get_or order k 0) (member order k lt)

    pub next_inside : get_or order k 0 < length lines
    next_inside = let n = next_known in let count = s.count in omega (arith, n, count)

    pub called_lines : (g : ℕ) → HasCall app (get_or order k 0) g → IsLine g (line_at lines g)
    called_lines g calls = s.each g (o.behind k g lt calls)

    pub one_more_line : (line : Option ℕ) → IsLine (get_or order k 0) line → AreLinesOf app IsLine (take (k + 1) order) (set lines (get_or order k 0) line)
    one_more_line line is = record {
      count = length-set lines x line ∙ s.count;
      each = λ f h. ⊎_elim
          (λ e. subst (λ y. IsLine y (line_at (set lines x line) y)) (sym e) (subst (IsLine x) (sym here) is))
          (λ n. subst (IsLine f) (sym (get_or-set_other lines x f line None n))
          (s.each f (⊎_elim (λ g. g) (λ e. absurd (n (sym e))) (one_more order k f lt h))))
          (cases_eq f x);
    }
      where
        x : ℕ
        x = get_or order k 0

        here : line_at (set lines x line) x ≡ line
        here = get_or-set_same lines x line None next_inside

  pub all_known : (order : List ℕ) → IsCallOrder app order → (lines : List (Option ℕ)) (k : ℕ) → length order ≤ k → AreLinesOf app IsLine (take k order) lines → AreEachLine app IsLine lines
  all_known order o lines k le s = record { count = s.count; each = λ f lt. s.each f (ap (is_in f) (take_all k order le) ∙ o.all f lt) }
