-- In well-formed task code the lists of each body are right.
use Rattle.std.proofs.Common.{◌≡◌, ℕ, ◌<◌, true, List, length, refl, sym, ◌∙◌, subst, arith, ⊎_elim}
use Rattle.std.proofs.lemmas.Bool.{cases_lt, false_from_ne_true}
use Rattle.sloth_base.specs.declared.config.Config.{Config}
use Rattle.sloth_base.specs.declared.app.App.{App}
use Rattle.sloth_base.specs.declared.app.Func.{Func}
use Rattle.sloth_base.specs.declared.app.Call.{Call}
use Rattle.sloth_base.specs.declared.app.Op.{Op}
use Rattle.sloth_base.specs.declared.app.Op.TheVariants as op
use Rattle.sloth_base.specs.declared.service.Service.TheVariants as service
use Rattle.sloth_base.specs.declared.refusal.Code.{Code}
use Rattle.sloth_base.specs.declared.refusal.Code.TheVariants as code
use Rattle.sloth_base.specs.Named.{no_function, function, label_of, item_of, no_item}
use Rattle.code_rules.specs.Code.{is_in, held_list_at}
use Rattle.code_rules.specs.WellFormed.{WellFormed, at_header, at_label, at_item, HasOtherList, falling_in, IsBreach, is_other_list_jump, is_second_take, is_unreached, IsSecondTake, fault_at_line}
use Rattle.task_verify.proofs.Tests.{leads}
use Rattle.holds_infer.specs.Filling.{AreClear, IsFilling}
use Rattle.holds_infer.specs.RightLists.{HasRightLists}
use Rattle.holds_infer.proofs.OneBody.{stable, one_body}
use Rattle.holds_infer.proofs.Bare.{functions_same, count_functions, app_same}

module _ (config : Config) (app : App) (whole : WellFormed config app) (clear : AreClear app) (b : ℕ) (known : b < length app.funcs) where
  abbrev f : Func
  f = function app b

  keeps : (i : ℕ) (c : Code) → i < length f.items → ¬ (IsBreach config app b i c)
  keeps i c l breaks = whole.no_fault (fault_at_line (item_of f i).line c) (b, known, at_item i c l breaks)

  agrees : (k : ℕ) → k < length f.labels → ¬ (HasOtherList f k)
  agrees k l differs = whole.no_fault (fault_at_line (label_of f k).line code.V7) (b, known, at_label k l differs)

  some : (n : ℕ) → length f.items ≡ n → 0 < n
  some n e = ⊎_elim (λ l. l) (λ l. absurd (whole.no_fault (fault_at_line f.line code.V5) (b, known, at_header (omega (arith, e, l))))) (cases_lt 0 n)

  takes : (held : List ℕ) (o : Op) (call : Call) → o ≡ op.Serve call → call.service ≡ service.GetResource → is_in call.object held ≡ true → IsSecondTake app held o
  takes held o call e s t = subst (IsSecondTake app held) (sym e) (s, t)

  pub rightly : HasRightLists f
  rightly = record {
    some = some (length f.items) refl;
    labels = λ i l. leads config app f (item_of f i).op ((whole.in_range.bodies b no_function known).items i no_item l);
    falling = λ k l into. stable _ _ (λ differ. agrees k l (falling_in into differ));
    turning = λ i k l w. stable _ _ (λ differ. keeps i code.V7 l (is_other_list_jump (k, w, differ)));
    taking = λ i call l e s. false_from_ne_true _ (λ t. keeps i code.V9 l (is_second_take (takes (held_list_at f i) (item_of f i).op call e s t)));
    reached = λ i l none. keeps i code.V6 l (is_unreached none);
    clear = clear b;
  }

-- there is at most one filling
pub one_filling : (config : Config) (app one other : App) → IsFilling config app one → IsFilling config app other → one ≡ other
one_filling config app one other h k =
    let same = sym h.same ∙ k.same in
    app_same one other same (λ b l.
    let m : b < length other.funcs = subst (λ (n : ℕ). b < n) (count_functions one other same) l in
    one_body (function one b) (function other b) (functions_same one other same b)
    (rightly config one h.well_formed h.clear b l) (rightly config other k.well_formed k.clear b m))
