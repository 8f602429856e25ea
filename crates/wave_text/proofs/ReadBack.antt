-- A dump gives each signal at each count the value that it has in the sample of the count.
use Rattle.std.proofs.Common.{◌≡◌, ◌≤◌, ◌<◌, ◌+◌, ◌∙◌, ℕ, zero, suc, List, [], ◌∷◌, ◌++◌, Option, Some, None, length, refl, sym, ap, subst, arith, append_assoc, ⊎_elim}
use Rattle.std.specs.Prelude.{Bool, true, false, ◌==◌, nat_le, if◌then◌else◌, slice_get}
use Rattle.std.proofs.lemmas.Bool.{cases_lt, false≢true}
use Rattle.std.proofs.lemmas.Bool.Decides.{eqb_tells, leb_tells}
use Rattle.sloth_base.specs.declared.numbers.Owners.{Owners}
use Rattle.sloth_base.specs.Limits.{task_limit, counter_limit}
use Rattle.wave_text.specs.declared.dump.Moment.{Moment}
use Rattle.wave_text.specs.declared.signals.Scope.{Scope}
use Rattle.wave_text.specs.declared.signals.Scope.TheVariants as scope
use Rattle.wave_text.specs.declared.signals.Width.{Width}
use Rattle.wave_text.specs.declared.signals.Width.TheVariants as width
use Rattle.wave_text.specs.Changes.{DumpEntry, same_value, change_entries, kernel_changes, clock_changes, changes, scope_changes, with_moment, entries, entries_from}
use Rattle.wave_text.specs.Reading.{value_behind, value_at, ReadsBack}
use Rattle.wave_text.specs.Signals.{first_code, level_signal, masked_code, signal_count, alarm_count, signal_width, signal_value, level_value, masked_value}

-- ---- tests

is-one : (c : ℕ) → (c == c) ≡ true
is-one c = ⊎_elim (λ h. h.0) (λ h. absurd (h.1 refl)) (eqb_tells c c)

is-other : (c d : ℕ) → (c ≡ d → ⊥) → (c == d) ≡ false
is-other c d apart = ⊎_elim (λ h. absurd (apart h.1)) (λ h. h.0) (eqb_tells c d)

is-within : (a b : ℕ) → a ≤ b → nat_le a b ≡ true
is-within a b le = ⊎_elim (λ h. h.0) (λ h. absurd (let l = h.1 in omega arith)) (leb_tells a b)

is-beyond : (a b : ℕ) → b < a → nat_le a b ≡ false
is-beyond a b lt = ⊎_elim (λ h. absurd (let l = h.1 in omega arith)) (λ h. h.0) (leb_tells a b)

same-values : (x y : Option ℕ) → same_value x y ≡ true → x ≡ y
same-values None None e = refl
same-values None (Some n) e = absurd (false≢true e)
same-values (Some m) None e = absurd (false≢true e)
same-values (Some m) (Some n) e = ⊎_elim (λ h. ap Some h.1) (λ h. absurd (false≢true (sym h.0 ∙ e))) (eqb_tells m n)

module _ (code at : ℕ) where
  abbrev V : Option ℕ → List DumpEntry → Option ℕ
  V = value_behind code at

  -- ---- one signal

  -- another signal's change says nothing
  other-change : (c : ℕ) (w : Width) (x y v : Option ℕ) (rest : List DumpEntry) → (c ≡ code → ⊥) → V v (change_entries c w x y ++ rest) ≡ V v rest
  other-change c w x y v rest apart = by (same_value x y)
    where
      by : (b : Bool) → V v ((if b then [] else DumpEntry.change c w y ∷ []) ++ rest) ≡ V v rest
      by true = refl
      by false = ap (λ d. V (if d then y else v) rest) (is-other c code apart)

  -- its own gives it its value
  own-change : (w : Width) (x y : Option ℕ) (rest : List DumpEntry) → V x (change_entries code w x y ++ rest) ≡ V y rest
  own-change w x y rest = by (same_value x y) refl
    where
      by : (b : Bool) → same_value x y ≡ b → V x ((if b then [] else DumpEntry.change code w y ∷ []) ++ rest) ≡ V y rest
      by true e = ap (λ v. V v rest) (same-values x y e)
      by false e = ap (λ d. V (if d then y else x) rest) (is-one code)

  -- ---- a scope

  task-more : (s : Scope) (old new : Option Moment) (n : ℕ) (rest : List DumpEntry) → scope_changes s old new (suc n) ++ rest
      ≡ scope_changes s old new n ++ (change_entries (first_code s + n) (signal_width s) (signal_value s old n) (signal_value s new n) ++ rest)
  unfolding scope_changes
  task-more s old new n rest = append_assoc (scope_changes s old new n) (change_entries (first_code s + n) (signal_width s) (signal_value s old n) (signal_value s new n)) rest

  no-task : (s : Scope) (old new : Option Moment) (rest : List DumpEntry) → scope_changes s old new 0 ++ rest ≡ rest
  unfolding scope_changes
  no-task s old new rest = refl

  other-scope : (s : Scope) (old new : Option Moment) (n : ℕ) (v : Option ℕ) (rest : List DumpEntry) → ((t : ℕ) → t < n → first_code s + t ≡ code → ⊥)
      → V v (scope_changes s old new n ++ rest) ≡ V v rest
  other-scope s old new zero v rest apart = ap (V v) (no-task s old new rest)
  other-scope s old new (suc n) v rest apart =
      let own : List DumpEntry = change_entries (first_code s + n) (signal_width s) (signal_value s old n) (signal_value s new n) in
      ap (V v) (task-more s old new n rest) ∙ other-scope s old new n v (own ++ rest) (λ t l. apart t (omega arith))
      ∙ other-change (first_code s + n) (signal_width s) (signal_value s old n) (signal_value s new n) v rest (apart n (omega arith))

-- the signal of a task
own-scope : (s : Scope) (old new : Option Moment) (n task at : ℕ) (rest : List DumpEntry) → task < n
    → value_behind (first_code s + task) at (signal_value s old task) (scope_changes s old new n ++ rest) ≡ value_behind (first_code s + task) at (signal_value s new task) rest
own-scope s old new zero task at rest below = absurd (omega arith)
own-scope s old new (suc n) task at rest below =
    let code : ℕ = first_code s + task in
    let last : List DumpEntry = change_entries (first_code s + n) (signal_width s) (signal_value s old n) (signal_value s new n) in
    let V : Option ℕ → List DumpEntry → Option ℕ = value_behind code at in
    ap (V (signal_value s old task)) (task-more code at s old new n rest)
    ∙ ⊎_elim
    (λ (l : task < n).
    own-scope s old new n task at (last ++ rest) l
    ∙ other-change code at (first_code s + n) (signal_width s) (signal_value s old n) (signal_value s new n) (signal_value s new task) rest (λ (e : first_code s + n ≡ first_code s + task). omega arith))
    (λ (l : n ≤ task).
    let same : n ≡ task = omega arith in
    let P : ℕ → Type 0 = λ m. V (signal_value s old task) (change_entries (first_code s + m) (signal_width s) (signal_value s old m) (signal_value s new m) ++ rest) ≡ V (signal_value s new task) rest in
    other-scope code at s old new n (signal_value s old task) (last ++ rest) (λ t below_n (e : first_code s + t ≡ first_code s + task). omega arith)
    ∙ subst P (sym same) (own-change code at (signal_width s) (signal_value s old task) (signal_value s new task) rest))
    (cases_lt task n)

-- ---- all signals

-- a signal whose value this is: the changes from one sample to the next bring it from the one value to the other
pub record IsFollowed (owners : Owners) (code : ℕ) (val : Option Moment → Option ℕ) : Type 0 where
  pub follows : (at : ℕ) (old new : Option Moment) (rest : List DumpEntry) → value_behind code at (val old) (changes owners old new ++ rest) ≡ value_behind code at (val new) rest
  pub unknown : val None ≡ None

parts : (a b c f d e rest : List DumpEntry) → (a ++ b ++ c ++ f ++ d ++ e) ++ rest ≡ a ++ (b ++ (c ++ (f ++ (d ++ (e ++ rest)))))
parts a b c f d e rest = simp append_assoc

module _ (owners : Owners) (few : owners.tasks ≤ task_limit) (at : ℕ) (old new : Option Moment) (rest : List DumpEntry) where
  abbrev A : List DumpEntry
  A = scope_changes scope.State old new owners.tasks

  abbrev B : List DumpEntry
  B = scope_changes scope.Runs old new owners.tasks

  abbrev C : List DumpEntry
  C = scope_changes scope.Pending old new owners.tasks

  abbrev F : List DumpEntry
  F = scope_changes scope.Counters old new owners.counters

  abbrev D : List DumpEntry
  D = change_entries level_signal width.Eight (level_value old) (level_value new)

  abbrev E : List DumpEntry
  E = change_entries masked_code width.One (masked_value old) (masked_value new)

  -- the last ones, for a task's signal
  behind-tasks : (code : ℕ) (v : Option ℕ) → code < 123 → value_behind code at v (F ++ (D ++ (E ++ rest))) ≡ value_behind code at v rest
  behind-tasks code v below =
      other-scope code at scope.Counters old new owners.counters v (D ++ (E ++ rest)) (λ t b (e : 125 + t ≡ code). omega arith)
      ∙ other-change code at level_signal width.Eight (level_value old) (level_value new) v (E ++ rest) (λ (e : 123 ≡ code). omega arith)
      ∙ other-change code at masked_code width.One (masked_value old) (masked_value new) v rest (λ (e : 124 ≡ code). omega arith)

  of-state : (task : ℕ) → task < owners.tasks
      → value_behind (33 + task) at (signal_value scope.State old task) (kernel_changes owners old new ++ rest) ≡ value_behind (33 + task) at (signal_value scope.State new task) rest
  of-state task l =
      let v : Option ℕ = signal_value scope.State new task in
      ap (value_behind (33 + task) at (signal_value scope.State old task)) (parts A B C F D E rest)
      ∙ own-scope scope.State old new owners.tasks task at (B ++ (C ++ (F ++ (D ++ (E ++ rest))))) l
      ∙ other-scope (33 + task) at scope.Runs old new owners.tasks v (C ++ (F ++ (D ++ (E ++ rest)))) (λ t b (e : 63 + t ≡ 33 + task). omega arith)
      ∙ other-scope (33 + task) at scope.Pending old new owners.tasks v (F ++ (D ++ (E ++ rest))) (λ t b (e : 93 + t ≡ 33 + task). omega arith)
      ∙ behind-tasks (33 + task) v (omega arith)

  of-runs : (task : ℕ) → task < owners.tasks
      → value_behind (63 + task) at (signal_value scope.Runs old task) (kernel_changes owners old new ++ rest) ≡ value_behind (63 + task) at (signal_value scope.Runs new task) rest
  of-runs task l =
      let v : Option ℕ = signal_value scope.Runs new task in
      ap (value_behind (63 + task) at (signal_value scope.Runs old task)) (parts A B C F D E rest)
      ∙ other-scope (63 + task) at scope.State old new owners.tasks (signal_value scope.Runs old task) (B ++ (C ++ (F ++ (D ++ (E ++ rest))))) (λ t b (e : 33 + t ≡ 63 + task). omega arith)
      ∙ own-scope scope.Runs old new owners.tasks task at (C ++ (F ++ (D ++ (E ++ rest)))) l
      ∙ other-scope (63 + task) at scope.Pending old new owners.tasks v (F ++ (D ++ (E ++ rest))) (λ t b (e : 93 + t ≡ 63 + task). omega arith)
      ∙ behind-tasks (63 + task) v (omega arith)

  of-pending : (task : ℕ) → task < owners.tasks
      → value_behind (93 + task) at (signal_value scope.Pending old task) (kernel_changes owners old new ++ rest) ≡ value_behind (93 + task) at (signal_value scope.Pending new task) rest
  of-pending task l =
      let v : Option ℕ = signal_value scope.Pending old task in
      ap (value_behind (93 + task) at v) (parts A B C F D E rest)
      ∙ other-scope (93 + task) at scope.State old new owners.tasks v (B ++ (C ++ (F ++ (D ++ (E ++ rest))))) (λ t b (e : 33 + t ≡ 93 + task). omega arith)
      ∙ other-scope (93 + task) at scope.Runs old new owners.tasks v (C ++ (F ++ (D ++ (E ++ rest)))) (λ t b (e : 63 + t ≡ 93 + task). omega arith)
      ∙ own-scope scope.Pending old new owners.tasks task at (F ++ (D ++ (E ++ rest))) l
      ∙ behind-tasks (93 + task) (signal_value scope.Pending new task) (omega arith)

  -- the tasks' scopes, for another signal
  behind-scopes : (code : ℕ) (v : Option ℕ) (more : List DumpEntry) → 123 ≤ code → value_behind code at v (A ++ (B ++ (C ++ more))) ≡ value_behind code at v more
  behind-scopes code v more above =
      other-scope code at scope.State old new owners.tasks v (B ++ (C ++ more)) (λ t b (e : 33 + t ≡ code). omega arith)
      ∙ other-scope code at scope.Runs old new owners.tasks v (C ++ more) (λ t b (e : 63 + t ≡ code). omega arith)
      ∙ other-scope code at scope.Pending old new owners.tasks v more (λ t b (e : 93 + t ≡ code). omega arith)

  of-counter : (counter : ℕ) → counter < owners.counters
      → value_behind (125 + counter) at (signal_value scope.Counters old counter) (kernel_changes owners old new ++ rest) ≡ value_behind (125 + counter) at (signal_value scope.Counters new counter) rest
  of-counter counter l =
      let v : Option ℕ = signal_value scope.Counters new counter in
      ap (value_behind (125 + counter) at (signal_value scope.Counters old counter)) (parts A B C F D E rest)
      ∙ behind-scopes (125 + counter) (signal_value scope.Counters old counter) (F ++ (D ++ (E ++ rest))) (omega arith)
      ∙ own-scope scope.Counters old new owners.counters counter at (D ++ (E ++ rest)) l
      ∙ other-change (125 + counter) at level_signal width.Eight (level_value old) (level_value new) v (E ++ rest) (λ (e : 123 ≡ 125 + counter). omega arith)
      ∙ other-change (125 + counter) at masked_code width.One (masked_value old) (masked_value new) v rest (λ (e : 124 ≡ 125 + counter). omega arith)

  -- the counters' lines, for a signal of the kernel
  behind-counters : (code : ℕ) (v : Option ℕ) (more : List DumpEntry) → 123 ≤ code → code < 125 → value_behind code at v (A ++ (B ++ (C ++ (F ++ more)))) ≡ value_behind code at v more
  behind-counters code v more above below =
      behind-scopes code v (F ++ more) above ∙ other-scope code at scope.Counters old new owners.counters v more (λ t b (e : 125 + t ≡ code). omega arith)

  of-level : value_behind level_signal at (level_value old) (kernel_changes owners old new ++ rest) ≡ value_behind level_signal at (level_value new) rest
  of-level =
      ap (value_behind level_signal at (level_value old)) (parts A B C F D E rest) ∙ behind-counters level_signal (level_value old) (D ++ (E ++ rest)) (omega arith) (omega arith)
      ∙ own-change level_signal at width.Eight (level_value old) (level_value new) (E ++ rest)
      ∙ other-change level_signal at masked_code width.One (masked_value old) (masked_value new) (level_value new) rest (λ (e : 124 ≡ 123). omega arith)

  of-masked : value_behind masked_code at (masked_value old) (kernel_changes owners old new ++ rest) ≡ value_behind masked_code at (masked_value new) rest
  of-masked =
      ap (value_behind masked_code at (masked_value old)) (parts A B C F D E rest) ∙ behind-counters masked_code (masked_value old) (D ++ (E ++ rest)) (omega arith) (omega arith)
      ∙ other-change masked_code at level_signal width.Eight (level_value old) (level_value new) (masked_value old) (E ++ rest) (λ (e : 123 ≡ 124). omega arith)
      ∙ own-change masked_code at width.One (masked_value old) (masked_value new) rest

  -- all of them, for a signal of a counter or alarm
  behind-kernel : (code : ℕ) (v : Option ℕ) → owners.counters ≤ counter_limit → 127 ≤ code → value_behind code at v (kernel_changes owners old new ++ rest) ≡ value_behind code at v rest
  behind-kernel code v counters above =
      ap (value_behind code at v) (parts A B C F D E rest) ∙ behind-scopes code v (F ++ (D ++ (E ++ rest))) (omega arith)
      ∙ other-scope code at scope.Counters old new owners.counters v (D ++ (E ++ rest)) (λ t b (e : 125 + t ≡ code). omega arith)
      ∙ other-change code at level_signal width.Eight (level_value old) (level_value new) v (E ++ rest) (λ (e : 123 ≡ code). omega arith)
      ∙ other-change code at masked_code width.One (masked_value old) (masked_value new) v rest (λ (e : 124 ≡ code). omega arith)

module _ (owners : Owners) (at : ℕ) (old new : Option Moment) (rest : List DumpEntry) where
  abbrev K : List DumpEntry
  K = kernel_changes owners old new

  abbrev G : List DumpEntry
  G = scope_changes scope.Values old new owners.counters

  abbrev H : List DumpEntry
  H = scope_changes scope.Alarms old new (alarm_count owners.counters)

  all-parts : (K ++ (G ++ H)) ++ rest ≡ K ++ (G ++ (H ++ rest))
  all-parts = append_assoc K (G ++ H) rest ∙ ap (λ l. K ++ l) (append_assoc G H rest)

  -- those of counters and alarms, for another signal
  behind-clock : (code : ℕ) (v : Option ℕ) → code < 127 → value_behind code at v (G ++ (H ++ rest)) ≡ value_behind code at v rest
  behind-clock code v below =
      other-scope code at scope.Values old new owners.counters v (H ++ rest) (λ t b (e : 127 + t ≡ code). omega arith)
      ∙ other-scope code at scope.Alarms old new (alarm_count owners.counters) v rest (λ t b (e : 129 + t ≡ code). omega arith)

  -- a signal of the kernel's
  of-kernel : (code : ℕ) (v w : Option ℕ) → code < 127 → value_behind code at v (K ++ (G ++ (H ++ rest))) ≡ value_behind code at w (G ++ (H ++ rest))
      → value_behind code at v (changes owners old new ++ rest) ≡ value_behind code at w rest
  of-kernel code v w below follows = ap (value_behind code at v) all-parts ∙ follows ∙ behind-clock code w below

  of-value : owners.tasks ≤ task_limit → owners.counters ≤ counter_limit → (counter : ℕ) → counter < owners.counters
      → value_behind (127 + counter) at (signal_value scope.Values old counter) (changes owners old new ++ rest) ≡ value_behind (127 + counter) at (signal_value scope.Values new counter) rest
  of-value few counters counter l =
      ap (value_behind (127 + counter) at (signal_value scope.Values old counter)) all-parts
      ∙ behind-kernel owners few at old new (G ++ (H ++ rest)) (127 + counter) (signal_value scope.Values old counter) counters (omega arith)
      ∙ own-scope scope.Values old new owners.counters counter at (H ++ rest) l
      ∙ other-scope (127 + counter) at scope.Alarms old new (alarm_count owners.counters) (signal_value scope.Values new counter) rest (λ t b (e : 129 + t ≡ 127 + counter). omega arith)

  of-alarm : owners.tasks ≤ task_limit → owners.counters ≤ counter_limit → (alarm : ℕ) → alarm < alarm_count owners.counters
      → value_behind (129 + alarm) at (signal_value scope.Alarms old alarm) (changes owners old new ++ rest) ≡ value_behind (129 + alarm) at (signal_value scope.Alarms new alarm) rest
  of-alarm few counters alarm l =
      ap (value_behind (129 + alarm) at (signal_value scope.Alarms old alarm)) all-parts
      ∙ behind-kernel owners few at old new (G ++ (H ++ rest)) (129 + alarm) (signal_value scope.Alarms old alarm) counters (omega arith)
      ∙ other-scope (129 + alarm) at scope.Values old new owners.counters (signal_value scope.Alarms old alarm) (H ++ rest) (λ t b (e : 127 + t ≡ 129 + alarm). omega arith)
      ∙ own-scope scope.Alarms old new (alarm_count owners.counters) alarm at rest l

-- the changes that stand behind those of the kernel's signals
abbrev clock-and : Owners → (old new : Option Moment) → List DumpEntry → List DumpEntry
clock-and owners old new rest =
    scope_changes scope.Values old new owners.counters ++ (scope_changes scope.Alarms old new (alarm_count owners.counters) ++ rest)

scope-followed : (owners : Owners) → owners.tasks ≤ task_limit → owners.counters ≤ counter_limit → (s : Scope) (place : ℕ) → place < signal_count owners s
    → IsFollowed owners (first_code s + place) (λ moment. signal_value s moment place)
scope-followed owners few counters scope.State task l = record {
  follows = λ at old new rest.
      of-kernel owners at old new rest (33 + task) (signal_value scope.State old task) (signal_value scope.State new task) (omega arith)
      (of-state owners few at old new (clock-and owners old new rest) task l);
  unknown = refl;
}
scope-followed owners few counters scope.Runs task l = record {
  follows = λ at old new rest.
      of-kernel owners at old new rest (63 + task) (signal_value scope.Runs old task) (signal_value scope.Runs new task) (omega arith)
      (of-runs owners few at old new (clock-and owners old new rest) task l);
  unknown = refl;
}
scope-followed owners few counters scope.Pending task l = record {
  follows = λ at old new rest.
      of-kernel owners at old new rest (93 + task) (signal_value scope.Pending old task) (signal_value scope.Pending new task) (omega arith)
      (of-pending owners few at old new (clock-and owners old new rest) task l);
  unknown = refl;
}
scope-followed owners few counters scope.Counters counter l = record {
  follows = λ at old new rest.
      of-kernel owners at old new rest (125 + counter) (signal_value scope.Counters old counter) (signal_value scope.Counters new counter) (omega arith)
      (of-counter owners few at old new (clock-and owners old new rest) counter l);
  unknown = refl;
}
scope-followed owners few counters scope.Values counter l = record {
  follows = λ at old new rest. of-value owners at old new rest few counters counter l;
  unknown = refl;
}
scope-followed owners few counters scope.Alarms alarm l = record {
  follows = λ at old new rest. of-alarm owners at old new rest few counters alarm l;
  unknown = refl;
}

level-followed : (owners : Owners) → owners.tasks ≤ task_limit → IsFollowed owners level_signal level_value
level-followed owners few = record {
  follows = λ at old new rest.
      of-kernel owners at old new rest level_signal (level_value old) (level_value new) (omega arith) (of-level owners few at old new (clock-and owners old new rest));
  unknown = refl;
}

masked-followed : (owners : Owners) → owners.tasks ≤ task_limit → IsFollowed owners masked_code masked_value
masked-followed owners few = record {
  follows = λ at old new rest.
      of-kernel owners at old new rest masked_code (masked_value old) (masked_value new) (omega arith) (of-masked owners few at old new (clock-and owners old new rest));
  unknown = refl;
}

-- ---- moments

module _ (code at : ℕ) where
  -- a moment up to this one
  moment-passed : (count : ℕ) (v : Option ℕ) (es rest : List DumpEntry) → count ≤ at → value_behind code at v (with_moment count false es ++ rest) ≡ value_behind code at v (es ++ rest)
  moment-passed count v [] rest le = refl
  moment-passed count v (e ∷ es) rest le = ap (λ b. if b then value_behind code at v (e ∷ es ++ rest) else v) (is-within count at le)

  -- a later one
  moment-beyond : (count : ℕ) (v : Option ℕ) (es rest : List DumpEntry) → at < count → value_behind code at v rest ≡ v → value_behind code at v (with_moment count false es ++ rest) ≡ v
  moment-beyond count v [] rest lt same = same
  moment-beyond count v (e ∷ es) rest lt same = ap (λ b. if b then value_behind code at v (e ∷ es ++ rest) else v) (is-beyond count at lt)

  abbrev last : ℕ → List DumpEntry
  last n = DumpEntry.moment n ∷ []

  -- all samples of later counts
  all-beyond : (owners : Owners) (n count : ℕ) (v : Option ℕ) (old : Option Moment) (xs : List Moment) → at < count → at < n → value_behind code at v (entries_from owners count old xs ++ last n) ≡ v
  all-beyond owners n count v old [] lt ends = ap (λ b. if b then v else v) (is-beyond n at ends)
  all-beyond owners n count v old (x ∷ xs) lt ends =
      let es : List DumpEntry = changes owners old (Some x) in
      let rest : List DumpEntry = entries_from owners (count + 1) (Some x) xs in
      ap (value_behind code at v) (append_assoc (with_moment count false es) rest (last n))
      ∙ moment-beyond count v es (rest ++ last n) lt (all-beyond owners n (count + 1) v (Some x) xs (omega arith) ends)

-- the value of a signal that is followed, at a count
pub value-at : (owners : Owners) (n code : ℕ) (val : Option Moment → Option ℕ) → IsFollowed owners code val → (xs : List Moment) (count k : ℕ) (old : Option Moment) → k < length xs → count + k < n
    → value_behind code (count + k) (val old) (entries_from owners count old xs ++ DumpEntry.moment n ∷ []) ≡ val (slice_get xs k)
value-at owners n code val follow [] count k old below ends = absurd (omega arith)
value-at owners n code val follow (x ∷ xs) count zero old below ends =
    let es : List DumpEntry = changes owners old (Some x) in
    let rest : List DumpEntry = entries_from owners (count + 1) (Some x) xs in
    let at : ℕ = count + 0 in
    ap (value_behind code at (val old)) (append_assoc (with_moment count false es) rest (last code at n))
    ∙ moment-passed code at count (val old) es (rest ++ last code at n) (omega arith)
    ∙ follow.follows at old (Some x) (rest ++ last code at n)
    ∙ all-beyond code at owners n (count + 1) (val (Some x)) (Some x) xs (omega arith) ends
value-at owners n code val follow (x ∷ xs) count (suc k) old below ends =
    let es : List DumpEntry = changes owners old (Some x) in
    let rest : List DumpEntry = entries_from owners (count + 1) (Some x) xs in
    let at : ℕ = count + suc k in
    let P : ℕ → Type 0 = λ m. value_behind code m (val (Some x)) (rest ++ DumpEntry.moment n ∷ []) ≡ val (slice_get xs k) in
    let same : count + 1 + k ≡ count + suc k = omega arith in
    ap (value_behind code at (val old)) (append_assoc (with_moment count false es) rest (last code at n))
    ∙ moment-passed code at count (val old) es (rest ++ last code at n) (omega arith)
    ∙ follow.follows at old (Some x) (rest ++ last code at n)
    ∙ subst P same (value-at owners n code val follow xs (count + 1) k (Some x) (omega arith) (omega arith))

signal-reads : (owners : Owners) (code : ℕ) (val : Option Moment → Option ℕ) → IsFollowed owners code val → (xs : List Moment) (k : ℕ) → k < length xs
    → value_at code k (entries owners xs) ≡ val (slice_get xs k)
signal-reads owners code val follow xs k below =
    let es : List DumpEntry = entries_from owners 0 None xs ++ DumpEntry.moment (length xs) ∷ [] in
    let P : ℕ → Type 0 = λ m. value_behind code m (val None) es ≡ val (slice_get xs k) in
    let same : 0 + k ≡ k = omega arith in
    ap (λ v. value_behind code k v es) (sym follow.unknown) ∙ subst P same (value-at owners (length xs) code val follow xs 0 k None below (omega (arith, below)))

pub reads-back : (owners : Owners) (moments : List Moment) (k : ℕ) → owners.tasks ≤ task_limit → owners.counters ≤ counter_limit → k < length moments → ReadsBack owners moments k
reads-back owners moments k few counters below = record {
  of_scope = λ s place l. signal-reads owners (first_code s + place) (λ moment. signal_value s moment place) (scope-followed owners few counters s place l) moments k below;
  of_level = signal-reads owners level_signal level_value (level-followed owners few) moments k below;
  of_masked = signal-reads owners masked_code masked_value (masked-followed owners few) moments k below;
}
