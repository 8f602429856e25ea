-- A line has an owner exactly where it is a task's or a counter's.
use Rattle.std.proofs.Common.{◌≡◌, ◌∙◌, ℕ, ◌-◌, ◌<◌, ◌≤◌, ◌⊎◌, inl, inr, List, [], ◌∷◌, Bool, true, false, refl, sym, ap, subst, cond, arith, ⊎_elim}
use Rattle.std.proofs.lemmas.Bool.{cases_lt, lt-ltb, le-ltb, le-leb, ltb-true, leb-true, and_parts, and_from}
use Rattle.sloth_base.specs.declared.numbers.LineKind.{LineKind}
use Rattle.sloth_base.specs.declared.numbers.LineKind.TheVariants as line_of
use Rattle.sloth_base.specs.declared.numbers.Owners.{Owners}
use Rattle.sloth_base.specs.Owners.{first_counter_line, counter_line, is_counter_line, line_kind, IsOwned, AreOwned, AreTasks}
use Rattle.sloth_base.specs.Limits.{task_limit, counter_limit}
use Rattle.sloth_base.specs.MemoryMap.{line_count}

-- what a line is for that is no task's
abbrev pub later_kind : Owners → ℕ → LineKind
later_kind owners line = cond (is_counter_line owners line) (line_of.Counter (line - first_counter_line)) line_of.Unused

-- a counter of these owners, by its line
pub record IsCounterLine (owners : Owners) (line c : ℕ) : Type 0 where
  pub declared : c < owners.counters
  pub is : line ≡ counter_line c

pub kind_of_task : (owners : Owners) (line : ℕ) → line < owners.tasks → line_kind owners line ≡ line_of.Task line
kind_of_task owners line h = ap (λ b. cond b (line_of.Task line) (later_kind owners line)) (lt-ltb line owners.tasks h)

-- a line that is no task's
kind_behind : (owners : Owners) (line : ℕ) → owners.tasks ≤ line → line_kind owners line ≡ later_kind owners line
kind_behind owners line h = ap (λ b. cond b (line_of.Task line) (later_kind owners line)) (le-ltb line owners.tasks h)

counter_tested : (owners : Owners) (line : ℕ) → first_counter_line ≤ line → line - first_counter_line < owners.counters → is_counter_line owners line ≡ true
counter_tested owners line le lt = and_from _ _ (le-leb first_counter_line line le) (lt-ltb (line - first_counter_line) owners.counters lt)

counter_found : (owners : Owners) (line : ℕ) → is_counter_line owners line ≡ true → IsCounterLine owners line (line - first_counter_line)
counter_found owners line e =
    let both = and_parts _ _ e in
    let le : first_counter_line ≤ line = leb-true first_counter_line line both.0 in
    record { declared = ltb-true (line - first_counter_line) owners.counters both.1; is = omega (arith, le) }

pub kind_of_counter : (owners : Owners) (c : ℕ) → owners.tasks ≤ first_counter_line → c < owners.counters → line_kind owners (counter_line c) ≡ line_of.Counter c
kind_of_counter owners c few h =
    let back : counter_line c - first_counter_line ≡ c = omega arith in
    let tested = counter_tested owners (counter_line c) (omega arith) (omega arith) in
    kind_behind owners (counter_line c) (omega arith)
    ∙ (ap (λ b. cond b (line_of.Counter (counter_line c - first_counter_line)) line_of.Unused) tested ∙ ap line_of.Counter back)

-- what the kind of a line tells: a task's or counter's line, or that it is no task's
abbrev pub KindTells : Owners → ℕ → LineKind → Type 0
KindTells owners line (line_of.Task t) = (t < owners.tasks) × (line ≡ t)
KindTells owners line (line_of.Counter c) = IsCounterLine owners line c
KindTells owners line line_of.Unused = owners.tasks ≤ line

pub kind_tells : (owners : Owners) (line : ℕ) (kind : LineKind) → line_kind owners line ≡ kind → KindTells owners line kind
kind_tells owners line kind e = subst (KindTells owners line) e (by_task (cases_lt line owners.tasks))
  where
    by_counter : (b : Bool) → is_counter_line owners line ≡ b → owners.tasks ≤ line
        → KindTells owners line (cond b (line_of.Counter (line - first_counter_line)) line_of.Unused)
    by_counter true e g = counter_found owners line e
    by_counter false e g = g

    by_task : (line < owners.tasks) ⊎ (owners.tasks ≤ line) → KindTells owners line (line_kind owners line)
    by_task (inl l) = subst (KindTells owners line) (sym (kind_of_task owners line l)) (l, refl)
    by_task (inr g) = subst (KindTells owners line) (sym (kind_behind owners line g)) (by_counter (is_counter_line owners line) refl g)

-- ---- lines with owners

pub task_owned : (owners : Owners) (line : ℕ) → line < owners.tasks → IsOwned owners line
task_owned owners line h = λ e. clash (sym (kind_of_task owners line h) ∙ e)
  where
    clash : line_of.Task line ≡ line_of.Unused → ⊥
    clash e = cc

pub counter_owned : (owners : Owners) (c : ℕ) → owners.tasks ≤ first_counter_line → c < owners.counters → IsOwned owners (counter_line c)
counter_owned owners c few h = λ e. clash (sym (kind_of_counter owners c few h) ∙ e)
  where
    clash : line_of.Counter c ≡ line_of.Unused → ⊥
    clash e = cc

-- an owned line is a task's or a counter's
pub owned_cases : (owners : Owners) (line : ℕ) → IsOwned owners line → (line < owners.tasks) ⊎ ((c : ℕ) × IsCounterLine owners line c)
owned_cases owners line h = by (line_kind owners line) refl
  where
    by : (kind : LineKind) → line_kind owners line ≡ kind → (line < owners.tasks) ⊎ ((c : ℕ) × IsCounterLine owners line c)
    by (line_of.Task t) e = let tells = kind_tells owners line (line_of.Task t) e in inl (subst (λ k. k < owners.tasks) (sym tells.1) tells.0)
    by (line_of.Counter c) e = inr (c, kind_tells owners line (line_of.Counter c) e)
    by line_of.Unused e = absurd (h e)

-- where there is no counter it is a task's
pub owned_task : (owners : Owners) (line : ℕ) → owners.counters ≡ 0 → IsOwned owners line → line < owners.tasks
owned_task owners line none h =
    ⊎_elim (λ (l : line < owners.tasks). l) (λ (found : (c : ℕ) × IsCounterLine owners line c). let d = found.1.declared in absurd (omega (arith, none, d)))
    (owned_cases owners line h)

-- of so few tasks and counters it is one of the controller
pub owned_below : (owners : Owners) (line : ℕ) → owners.tasks ≤ task_limit → owners.counters ≤ counter_limit → IsOwned owners line → line < line_count
owned_below owners line few counters h =
    ⊎_elim (λ (l : line < owners.tasks). omega (arith, l, few))
    (λ (found : (c : ℕ) × IsCounterLine owners line c). let d = found.1.declared in let e = found.1.is in omega (arith, d, e, counters))
    (owned_cases owners line h)

pub owned_tasks : (owners : Owners) (lines : List ℕ) → owners.counters ≡ 0 → AreOwned owners lines → AreTasks owners lines
owned_tasks owners [] none h = tt
owned_tasks owners (line ∷ lines) none h = (owned_task owners line none h.0, owned_tasks owners lines none h.1)

pub tasks_owned : (owners : Owners) (lines : List ℕ) → AreTasks owners lines → AreOwned owners lines
tasks_owned owners [] h = tt
tasks_owned owners (line ∷ lines) h = (task_owned owners line h.0, tasks_owned owners lines h.1)

pub unused_behind : (owners : Owners) (line : ℕ) → line_kind owners line ≡ line_of.Unused → owners.tasks ≤ line
unused_behind owners line e = kind_tells owners line line_of.Unused e
