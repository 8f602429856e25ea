-- The users of a symbol from the highest priority down.
use Rattle.std.proofs.Common.{◌≡◌, ℕ, suc, ◌<◌, ◌≤◌, ◌⊎◌, inl, inr, Bool, true, false, ◌&&◌, List, [], ◌∷◌, length, get_or, Option, Some, None, refl, sym, ap, ◌∙◌, subst, arith}
use Rattle.std.specs.Prelude.{◌==◌, not, ltb, leb}
use Rattle.std.specs.Bool.{Decides}
use Rattle.std.proofs.lemmas.Bool.{false≢true, true≢false, cases_lt, cases_eq, and_parts, and_from, eq-eqb, eqb-true, lt-ltb, ltb-true, le-leb, leb-true}
use Rattle.sloth_base.specs.declared.config.Config.{Config}
use Rattle.sloth_base.specs.declared.app.App.{App}
use Rattle.sloth_base.specs.Limits.{ceiling_count}
use Rattle.sloth_base.specs.Named.{declaration, undeclared_task}
use Rattle.code_rules.specs.WellFormed.{WellFormed}
use Rattle.osek_scheduler.specs.Priority.{ceiling}
use Rattle.osek_scheduler.specs.Apart.{static_priority}
use Rattle.osek_scheduler.proofs.Facts.{facts}
use Rattle.call_graph.specs.Bits.{is_member}
use Rattle.osek_blocking.specs.Walks.{Place, Position, place}
use Rattle.shares_text.specs.declared.keepers.Keeper.{Keeper}
use Rattle.shares_text.specs.declared.contexts.Use.{Use}
use Rattle.shares_text.specs.Accesses.{IsUse, Uses, IsAlwaysHeld}
use Rattle.walk_sums.specs.Ceilings.{AreResourceCeilings}
use Rattle.shares_text.specs.Contexts.{IsUseOf, AreUses, is_use_at}
use Rattle.shares_text.specs.Verdicts.{KeepsOut, IsKeeper, AreKeepersBelow, AreKeepers, no_keeper}
use Rattle.shares_text.specs.Computed.{priority_in, is_under, is_user_under, IsNextUser, is_held_at_some, is_reaching, IsKeeperBy, AreKeepersBy}
use Rattle.shares_text.specs.VerdictsBy.{AreTasksOf, AreOrderedBy}
use Rattle.shares_text.proofs.Members.{In, holds, some_is, is_some_of}

module _ (config : Config) (app : App) (w : WellFormed config app) where
  -- tasks of one priority are one
  same_task : (t u : ℕ) → t < length config.tasks → u < length config.tasks → static_priority config t ≡ static_priority config u → t ≡ u
  same_task t u lt lu e = by (cases_eq t u)
    where
      differ : (a b : ℕ) → a < b → b < length config.tasks → static_priority config a ≡ static_priority config b → ⊥
      differ a b less lb same = (facts config app w).in_range.configuration.priorities_differ a b undeclared_task less lb same

      apart : (t ≡ u → ⊥) → (t < u) ⊎ (u ≤ t) → ⊥
      apart n (inl less) = differ t u less lu e
      apart n (inr le) = differ u t (omega (arith, le, n)) lt (sym e)

      by : (t ≡ u) ⊎ (t ≡ u → ⊥) → t ≡ u
      by (inl s) = s
      by (inr n) = absurd (apart n (cases_lt t u))

  module _ (y : ℕ) (uses : List Use) (are : AreUses config app y uses) where
    -- the use in the list of a use of the task code
    pub record Listed (t f i : ℕ) : Type 0 where
      pub entry : Use
      pub among : In entry uses
      pub is : IsUseOf config app y entry
      pub declared : entry.task < length config.tasks
      pub task : entry.task ≡ t
      pub func : entry.func ≡ f
      pub item : entry.item ≡ i

    pub listed : (t f i : ℕ) (outer : Position) → IsUse app y t (place f i) outer → Listed t f i
    listed t f i outer is =
        let s = some_is (is_use_at t f i) uses (are.all t f i outer is) in
        let both = and_parts (s.0.task == t) ((s.0.func == f) && (s.0.item == i)) s.2 in
        let rest = and_parts (s.0.func == f) (s.0.item == i) both.1 in
        record {
          entry = s.0;
          among = s.1;
          is = holds (IsUseOf config app y) uses s.0 are.each s.1;
          declared = holds (λ u. u.task < length config.tasks) uses s.0 are.declared s.1;
          task = eqb-true s.0.task t both.0;
          func = eqb-true s.0.func f rest.0;
          item = eqb-true s.0.item i rest.1;
        }

    pub use_is : (u : Use) → In u uses → IsUseOf config app y u
    use_is u i = holds (IsUseOf config app y) uses u are.each i

    pub declared_is : (u : Use) → In u uses → u.task < length config.tasks
    declared_is u i = holds (λ u. u.task < length config.tasks) uses u are.declared i

    pub task_uses : (u : Use) → In u uses → Uses app y u.task
    task_uses u i = let is = use_is u i in (place u.func u.item, is.outer, is.is)

    -- ---- resources that keep higher users out

    module _ (ceilings : List ℕ) (count : length ceilings ≡ ceiling_count) (exact : AreResourceCeilings config ceilings) where
      held_some : (t r : ℕ) → r < ceiling_count → is_held_at_some uses t r ≡ true
          → (here : Place) × (outer : Position) × IsUse app y t here outer × IsAlwaysHeld app t here r
      held_some t r few h =
          let s = some_is (λ u. (u.task == t) && is_member u.held r) uses h in
          let both = and_parts (s.0.task == t) (is_member s.0.held r) s.2 in
          let is = use_is s.0 s.1 in
          let same = eqb-true s.0.task t both.0 in
          let P : ℕ → Type 0 = λ x. (here : Place) × (outer : Position) × IsUse app y x here outer × IsAlwaysHeld app x here r in
          subst P same (place s.0.func s.0.item, is.outer, is.is, (is.held r few).0 both.1)

      some_held : (t r : ℕ) (here : Place) (outer : Position) → r < ceiling_count → IsUse app y t here outer → IsAlwaysHeld app t here r
          → is_held_at_some uses t r ≡ true
      some_held t r here outer few is always =
          let l = listed t here.func here.item outer is in
          let moved = subst (λ x. IsAlwaysHeld app x here r) (sym l.task) always in
          let there = subst (λ x. IsAlwaysHeld app l.entry.task (place x l.entry.item) r) (sym l.func)
          (subst (λ x. IsAlwaysHeld app l.entry.task (place here.func x) r) (sym l.item) moved) in
          is_some_of (λ u. (u.task == t) && is_member u.held r) uses l.entry l.among
          (and_from (l.entry.task == t) (is_member l.entry.held r) (eq-eqb l.entry.task t l.task) ((l.is.held r few).1 there))

      reaches : (priority r : ℕ) → r < ceiling_count → Decides (is_reaching ceilings priority r) (priority ≤ ceiling config r)
      reaches priority r few =
          let inside : r < length ceilings = omega (arith, few, count) in
          let is = exact r inside in (
            λ h.
                let both = and_parts (ltb r (length ceilings)) (leb priority (get_or ceilings r 0)) h in
                let le = leb-true priority (get_or ceilings r 0) both.1 in
                omega (arith, le, is),
            λ le. and_from (ltb r (length ceilings)) (leb priority (get_or ceilings r 0)) (lt-ltb r (length ceilings) inside) (le-leb priority (get_or ceilings r 0) (omega (arith, le, is))),
          )

      keeper_is : (t priority : ℕ) (k : Keeper) → static_priority config t < priority → IsKeeperBy config.tasks ceilings uses t (Some priority) k
          → IsKeeper config app y (Some priority) k
      keeper_is t priority k lower h = (
        subst (λ x. static_priority config x < priority) (sym h.0) lower,
        h.1 ∙ ap (λ x. (declaration config x).non) (sym h.0),
        λ r few. (forth r few, back r few),
      )
        where
          forth : (r : ℕ) → r < ceiling_count → is_member k.held r ≡ true → (k.non ≡ false) × KeepsOut config app y k.task priority r
          forth r few m =
              let all = sym (h.2 r (omega (arith, few))) ∙ m in
              let both = and_parts (not k.non) (is_held_at_some uses t r && is_reaching ceilings priority r) all in
              let rest = and_parts (is_held_at_some uses t r) (is_reaching ceilings priority r) both.1 in
              let s = held_some t r few rest.0 in
              let P : ℕ → Type 0 = λ x. KeepsOut config app y x priority r in
              (not_not k.non both.0, subst P (sym h.0) (s.0, s.1, s.2, s.3, (reaches priority r few).0 rest.1))
            where
              not_not : (b : Bool) → not b ≡ true → b ≡ false
              not_not false e = refl
              not_not true e = absurd (false≢true e)

          back : (r : ℕ) → r < ceiling_count → (k.non ≡ false) × KeepsOut config app y k.task priority r → is_member k.held r ≡ true
          back r few s =
              let P : ℕ → Type 0 = λ x. KeepsOut config app y x priority r in
              let out = subst P h.0 s.1 in
              h.2 r (omega (arith, few))
              ∙ and_from (not k.non) (is_held_at_some uses t r && is_reaching ceilings priority r) (ap not s.0)
              (and_from (is_held_at_some uses t r) (is_reaching ceilings priority r) (some_held t r out.0 out.1 few out.2 out.3) ((reaches priority r few).1 out.4))

      -- ---- the list

      module _ (users : ℕ) (members : AreTasksOf uses users) where
        user_is : (t : ℕ) → t < length config.tasks → is_member users t ≡ true → Uses app y t
        user_is t lt m =
            let few = (facts config app w).in_range.configuration.few_tasks in
            let s = some_is (λ u. u.task == t) uses (sym (members t (omega (arith, lt, few))) ∙ m) in
            subst (Uses app y) (eqb-true s.0.task t s.2) (task_uses s.0 s.1)

        is_user : (t : ℕ) → Uses app y t → (t < length config.tasks) × (is_member users t ≡ true)
        is_user t s =
            let l = listed t s.0.func s.0.item s.1 s.2 in
            let lt : t < length config.tasks = subst (λ x. x < length config.tasks) l.task l.declared in
            let few = (facts config app w).in_range.configuration.few_tasks in
            (lt, members t (omega (arith, lt, few)) ∙ is_some_of (λ u. u.task == t) uses l.entry l.among (eq-eqb l.entry.task t l.task))

        under : (t priority : ℕ) → is_user_under config.tasks users (Some priority) t ≡ true → static_priority config t < priority
        under t priority h =
            ltb-true (priority_in config.tasks t) priority (and_parts (ltb (priority_in config.tasks t) priority) (is_member users t) h).0

        list_is : (above : Option ℕ) (list : List Keeper) → AreKeepersBy config.tasks ceilings users uses above list → AreKeepersBelow config app y above list
        list_is above [] h = tt
        list_is above (k ∷ rest) h = (
          user_is k.task h.0.0 (and_parts (is_under (priority_in config.tasks k.task) above) (is_member users k.task) h.0.1).1,
          by above h.0 h.1,
          list_is (Some (priority_in config.tasks k.task)) rest h.2,
        )
          where
            by : (a : Option ℕ) → IsNextUser config.tasks users a (length config.tasks) (Some k.task) → IsKeeperBy config.tasks ceilings uses k.task a k
                → IsKeeper config app y a k
            by None next is = (ap (λ (x : Keeper). x.non) is, ap (λ (x : Keeper). x.held) is)
            by (Some priority) next is = keeper_is k.task priority k (under k.task priority next.1) is

        -- each user below is there
        all_below : (above : Option ℕ) (list : List Keeper) → AreKeepersBy config.tasks ceilings users uses above list → (t : ℕ) → t < length config.tasks
            → is_user_under config.tasks users above t ≡ true → (k : ℕ) × (k < length list) × ((get_or list k no_keeper).task ≡ t)
        all_below above [] h t lt under = absurd (true≢false (sym under ∙ h t lt))
        all_below above (k ∷ rest) h t lt under = by (λ u. all_below (Some (priority_in config.tasks k.task)) rest h.2 t lt u) (cases_eq k.task t)
          where
            below : (k.task ≡ t → ⊥) → is_user_under config.tasks users (Some (priority_in config.tasks k.task)) t ≡ true
            below n =
                let le = h.0.2 t lt under in
                let differ : static_priority config t ≡ static_priority config k.task → ⊥ = (λ e. n (sym (same_task t k.task lt h.0.0 e))) in
                and_from (ltb (priority_in config.tasks t) (priority_in config.tasks k.task)) (is_member users t)
                (lt-ltb (priority_in config.tasks t) (priority_in config.tasks k.task) (omega (arith, le, differ)))
                (and_parts (is_under (priority_in config.tasks t) above) (is_member users t) under).1

            by : (is_user_under config.tasks users (Some (priority_in config.tasks k.task)) t ≡ true → (j : ℕ) × (j < length rest) × ((get_or rest j no_keeper).task ≡ t))
                → (k.task ≡ t) ⊎ (k.task ≡ t → ⊥) → (j : ℕ) × (j < length (k ∷ rest)) × ((get_or (k ∷ rest) j no_keeper).task ≡ t)
            by later (inl e) = (0, omega arith, e)
            by later (inr n) =
                let s = later (below n) in
                let less = s.1 in
                (suc s.0, omega (arith, less), s.2)

      pub keepers_are : (list : List Keeper) → AreOrderedBy config.tasks ceilings uses list → AreKeepers config app y list
      keepers_are list h = record {
        below = list_is h.0 h.1 None list h.2;
        all = λ t s. let u = is_user h.0 h.1 t s in all_below h.0 h.1 None list h.2 t u.0 u.1;
      }
