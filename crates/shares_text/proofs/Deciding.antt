-- The test of uses decides what is used, and so texts have one list of lines of what is not.
use Rattle.std.proofs.Common.{◌≡◌, ℕ, zero, suc, ◌<◌, Bool, true, false, ◌&&◌, cond, List, [], ◌++◌, length, get_or, refl, sym, ap, ◌∙◌, subst, ⊎_elim}
use Rattle.std.specs.Bool.{Decides}
use Rattle.std.proofs.lemmas.Bool.{false≢true, cases_lt, and_parts, and_from}
use Rattle.std.proofs.lemmas.Bool.Decides.{Decides-or, same_from_decides}
use Rattle.std.proofs.lemmas.List.{get_or_past}
use Rattle.sloth_base.specs.declared.config.Config.{Config}
use Rattle.sloth_base.specs.declared.app.App.{App}
use Rattle.sloth_base.specs.Named.{function, no_function}
use Rattle.code_rules.specs.Code.{TaskReaches}
use Rattle.code_rules.specs.WellFormed.{WellFormed}
use Rattle.call_graph.specs.declared.lists.Ranks.{Ranks}
use Rattle.call_graph.specs.Bits.{is_member}
use Rattle.call_graph.specs.Ranks.{RanksOf}
use Rattle.call_graph.proofs.Itself.{number_found, number_counts}
use Rattle.osek_scheduler.proofs.Facts.{facts}
use Rattle.osek_scheduler.proofs.Tests.{itself}
use Rattle.sloth_source.proofs.Unique.{one_meaning}
use Rattle.shares_text.specs.declared.unused.Kind.{Kind}
use Rattle.shares_text.specs.declared.unused.Kind.TheVariants as kind
use Rattle.shares_text.specs.Uses.{is_declared_use, IsReached, IsUsedByCode, IsUsed}
use Rattle.shares_text.specs.UsesBy.{has_task, is_function_use, is_code_use, is_used_by}
use Rattle.shares_text.specs.UnusedText.{count_of, unused_line, lines_below, lines_of, unused_lines, HasUnused, OneUnusedText}

-- ---- uses

-- a function with an item that uses something is there
function_known : (config : Config) (app : App) (k : Kind) (n f : ℕ) → is_function_use config k n (function app f) ≡ true → f < length app.funcs
function_known config app k n f h = ⊎_elim
    (λ lt. lt)
    (λ le. absurd (false≢true (sym (ap (is_function_use config k n) (get_or_past app.funcs f no_function le)) ∙ h)))
    (cases_lt f (length app.funcs))

module _ (config : Config) (app : App) (ranks : Ranks) (w : WellFormed config app) (belong : RanksOf app ranks) where
  task_known : (t f : ℕ) → TaskReaches app t f → t < length config.tasks
  task_known t f r = (facts config app w).in_range.tasks.declared t r.0 r.1

  Decides-reached : (f : ℕ) → f < length app.funcs → Decides (has_task (length config.tasks) (get_or ranks.users f 0)) (IsReached app f)
  Decides-reached f known = (
    λ h. let x = number_found (λ t. is_member (get_or ranks.users f 0) t) (length config.tasks) h in (x.0, (belong.users f x.0 known).0 x.2),
    λ r. number_counts (λ t. is_member (get_or ranks.users f 0) t) (length config.tasks) r.0 (task_known r.0 f r.1) ((belong.users f r.0 known).1 r.1),
  )

  Decides-code : (k : Kind) (n : ℕ) → Decides (is_code_use config app.funcs ranks.users k n) (IsUsedByCode config app k n)
  Decides-code k n =
      let reached : ℕ → Bool = λ f. has_task (length config.tasks) (get_or ranks.users f 0) in
      let uses : ℕ → Bool = λ f. is_function_use config k n (function app f) in (
        λ h.
            let x = number_found (λ f. reached f && uses f) (length app.funcs) h in
            let parts = and_parts (reached x.0) (uses x.0) x.2 in
            (x.0, (Decides-reached x.0 x.1).0 parts.0, parts.1),
        λ u.
            let known = function_known config app k n u.0 u.2 in
            number_counts (λ f. reached f && uses f) (length app.funcs) u.0 known (and_from (reached u.0) (uses u.0) ((Decides-reached u.0 known).1 u.1) u.2),
      )

  pub Decides-used : (k : Kind) (n : ℕ) → Decides (is_used_by config app ranks.users k n) (IsUsed config app k n)
  Decides-used k n = Decides-or _ _ (itself (is_declared_use config app k n)) (Decides-code k n)

  -- the lines by what is equal to the configuration, the task code and its sets
  pub lines_are : (c : Config) (a : App) (users : List ℕ) → c ≡ config → a ≡ app → users ≡ ranks.users → (text : List ℕ)
      → text ≡ unused_lines c a (is_used_by c a users) → HasUnused config app text
  lines_are c a users config_is app_is users_are text e = record {
    used = is_used_by config app ranks.users;
    decided = Decides-used;
    lines =
        e ∙ (ap (λ (x : Config). unused_lines x a (is_used_by x a users)) config_is
        ∙ (ap (λ (x : App). unused_lines config x (is_used_by config x users)) app_is
        ∙ ap (λ (x : List ℕ). unused_lines config app (is_used_by config app x)) users_are));
  }

-- ---- one text

module _ (config : Config) (app : App) (one other : Kind → ℕ → Bool) (same : (k : Kind) (n : ℕ) → one k n ≡ other k n) where
  below_same : (k : Kind) (n : ℕ) → lines_below config app one k n ≡ lines_below config app other k n
  below_same k zero = refl
  below_same k (suc n) =
      ap (λ l. l ++ cond (one k n) [] (unused_line config app k n)) (below_same k n)
      ∙ ap (λ b. lines_below config app other k n ++ cond b [] (unused_line config app k n)) (same k n)

  abbrev first : Kind → List ℕ
  first k = lines_of config app one k

  abbrev second : Kind → List ℕ
  second k = lines_of config app other k

  kind_same : (k : Kind) → first k ≡ second k
  kind_same k = below_same k (count_of config app k)

  pub lines_same : unused_lines config app one ≡ unused_lines config app other
  lines_same =
      ap (λ l. ((((l ++ first kind.Resource) ++ first kind.Event) ++ first kind.Alarm) ++ first kind.Symbol) ++ first kind.Function) (kind_same kind.Task)
      ∙ (ap (λ l. ((((second kind.Task ++ l) ++ first kind.Event) ++ first kind.Alarm) ++ first kind.Symbol) ++ first kind.Function) (kind_same kind.Resource)
      ∙ (ap (λ l. ((((second kind.Task ++ second kind.Resource) ++ l) ++ first kind.Alarm) ++ first kind.Symbol) ++ first kind.Function) (kind_same kind.Event)
      ∙ (ap (λ l. ((((second kind.Task ++ second kind.Resource) ++ second kind.Event) ++ l) ++ first kind.Symbol) ++ first kind.Function) (kind_same kind.Alarm)
      ∙ (ap (λ l. ((((second kind.Task ++ second kind.Resource) ++ second kind.Event) ++ second kind.Alarm) ++ l) ++ first kind.Function) (kind_same kind.Symbol)
      ∙ ap (λ l. ((((second kind.Task ++ second kind.Resource) ++ second kind.Event) ++ second kind.Alarm) ++ second kind.Symbol) ++ l) (kind_same kind.Function)))))

one_list : (config : Config) (app : App) (one other : List ℕ) → HasUnused config app one → HasUnused config app other → one ≡ other
one_list config app one other a b =
    a.lines ∙ (lines_same config app a.used b.used (λ k n. same_from_decides (a.used k n) (b.used k n) (a.decided k n) (b.decided k n)) ∙ sym b.lines)

pub one_unused_text : OneUnusedText
one_unused_text oil src one other a b =
    let same = one_meaning oil src a.config b.config a.app b.app a.accepted b.accepted in
    let there : HasUnused a.config a.app other = subst (λ c. HasUnused c a.app other) (sym same.0) (subst (λ x. HasUnused b.config x other) (sym same.1) b.has_unused) in
    one_list a.config a.app one other a.has_unused there
