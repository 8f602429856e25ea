-- What passes over Ready tasks begins before the limit, and nothing else does.
use Rattle.std.proofs.Common.{ℕ, zero, suc, ◌+◌, ◌<◌, ◌≤◌, ◌≡◌, ◌∙◌, ◌⊎◌, inl, inr, List, Bool, true, false, cond, get_or, ltb, length, Option, Some, None, refl, ap, subst, arith}
use Rattle.std.specs.Prelude.{◌&&◌, ◌||◌, ◌==◌, not}
use Rattle.std.proofs.lemmas.Bool.{and_from, and_parts, cases_lt, lt-ltb, le-ltb, ltb-true, ne_eqb, false≢true}
use Rattle.std.specs.Int.{bit_at}
use Rattle.std.proofs.Math.Numerals.{add-one}
use Rattle.sloth_base.specs.MemoryMap.{line_count}
use Rattle.sloth_base.specs.declared.service.Event.{Event}
use Rattle.sloth_base.specs.Events.{served_task}
use Rattle.osek_scheduler.specs.State.{task}
use Rattle.osek_scheduler.specs.Priority.{is_active}
use Rattle.osek_scheduler.specs.Next.{all_below}
use Rattle.osek_machine.specs.Above.{is_line_above}
use Rattle.trace_check.specs.Moments.{all_later}
use Rattle.trace_check.specs.Walk.{Walk, event_passes, served_passes}
use Rattle.trace_check.specs.NextEvents.{IsWithin}
use Rattle.trace_check.specs.Rows.{lesser_limit, least_moment, event_limit, served_limit, leaves_count}

-- ---- the lesser of two

lesser_within : (limit : Option ℕ) (m k : ℕ) → IsWithin limit k → k < m → IsWithin (lesser_limit limit m) k
lesser_within None m k h lt = lt
lesser_within (Some l) m k h lt = by (ltb m l)
  where
    by : (b : Bool) → k < cond b m l
    by true = lt
    by false = h

lesser_parts : (limit : Option ℕ) (m k : ℕ) → IsWithin (lesser_limit limit m) k → (k < m) × IsWithin limit k
lesser_parts None m k h = (h, tt)
lesser_parts (Some l) m k h = by (cases_lt m l)
  where
    by : (m < l) ⊎ (l ≤ m) → (k < m) × (k < l)
    by (inl lt) = let g : k < m = subst (λ (b : Bool). k < cond b m l) (lt-ltb m l lt) h in (g, omega (arith, g, lt))
    by (inr ge) = let g : k < l = subst (λ (b : Bool). k < cond b m l) (le-ltb m l ge) h in (omega (arith, g, ge), g)

-- ---- rows of lines

part_of : (b : Bool) (limit : Option ℕ) (m k : ℕ) → (not b || ltb k m) ≡ true → IsWithin limit k → IsWithin (cond b (lesser_limit limit m) limit) k
part_of true limit m k h within = lesser_within limit m k within (ltb-true k m h)
part_of false limit m k h within = within

parts : (b : Bool) (limit : Option ℕ) (m k : ℕ) → IsWithin (cond b (lesser_limit limit m) limit) k → ((not b || ltb k m) ≡ true) × IsWithin limit k
parts true limit m k h = let both = lesser_parts limit m k h in (lt-ltb k m both.0, both.1)
parts false limit m k h = (refl, h)

module _ (row : ℕ → Bool) (moments : List ℕ) (k : ℕ) where
  abbrev later : ℕ → Bool
  later u = not (row u) || ltb k (get_or moments u 0)

  within_of : (n : ℕ) → all_below n later ≡ true → IsWithin (least_moment n row moments) k
  unfolding least_moment
  within_of zero h = tt
  within_of (suc n) h =
      let both = and_parts (later n) (all_below n later) h in part_of (row n) (least_moment n row moments) (get_or moments n 0) k both.0 (within_of n both.1)

  within_is : (n : ℕ) → IsWithin (least_moment n row moments) k → all_below n later ≡ true
  unfolding least_moment
  within_is zero h = refl
  within_is (suc n) h =
      let both = parts (row n) (least_moment n row moments) (get_or moments n 0) k h in and_from (later n) (all_below n later) both.0 (within_is n both.1)

  later_within : all_later row moments k ≡ true → IsWithin (least_moment line_count row moments) k
  unfolding all_later
  later_within h = within_of 32 h

  within_later : IsWithin (least_moment line_count row moments) k → all_later row moments k ≡ true
  unfolding all_later
  within_later h = within_is 32 h

-- ---- events

module _ (w : Walk) (k : ℕ) where
  cond_within : (b all : Bool) (limit : Option ℕ) → (all ≡ true → IsWithin limit k) → cond b all true ≡ true → IsWithin (cond b limit None) k
  cond_within true all limit f h = f h
  cond_within false all limit f h = tt

  within_cond : (b all : Bool) (limit : Option ℕ) → (IsWithin limit k → all ≡ true) → IsWithin (cond b limit None) k → cond b all true ≡ true
  within_cond true all limit f h = f h
  within_cond false all limit f h = refl

  abbrev runs : ℕ → Bool
  runs t = ltb t (length w.machine.config.tasks) && is_active (task w.machine.system t).state

  abbrev above : ℕ → ℕ → Bool
  above t = is_line_above w.machine.config w.machine.system t

  served_within : (o : Option ℕ) → served_passes w.machine.config w.machine.system w.moments o k ≡ true → IsWithin (served_limit w o) k
  served_within None h = tt
  served_within (Some t) h =
      cond_within (runs t) (all_later (above t) w.moments k) (least_moment line_count (above t) w.moments) (later_within (above t) w.moments k) h

  within_served : (o : Option ℕ) → IsWithin (served_limit w o) k → served_passes w.machine.config w.machine.system w.moments o k ≡ true
  within_served None h = refl
  within_served (Some t) h =
      within_cond (runs t) (all_later (above t) w.moments k) (least_moment line_count (above t) w.moments) (within_later (above t) w.moments k) h

  pub passes_within : (e : Event) → event_passes w.machine.config w.machine.system w.moments e k ≡ true → IsWithin (event_limit w e) k
  passes_within e h = served_within (served_task e) h

  pub within_passes : (e : Event) → IsWithin (event_limit w e) k → event_passes w.machine.config w.machine.system w.moments e k ≡ true
  within_passes e h = within_served (served_task e) h

-- ---- limits that leave a count

pub within_leaves : (limit : Option ℕ) (k : ℕ) → IsWithin limit k → leaves_count limit ≡ true
within_leaves None k h = refl
within_leaves (Some l) k h = ap not (ne_eqb l 0 (λ e. absurd (omega (arith, e, h))))

pub leaves_within : (limit : Option ℕ) → leaves_count limit ≡ true → IsWithin limit 0
leaves_within None h = tt
leaves_within (Some zero) h = absurd (false≢true h)
leaves_within (Some (suc l)) h = omega arith

-- ---- bits in the place of a test

one_bit : (b : Bool) → (cond b 1 0 == 1) ≡ b
one_bit true = refl
one_bit false = refl

same_moment : (n : ℕ) (one other : ℕ → Bool) (moments : List ℕ) → ((u : ℕ) → one u ≡ other u) → least_moment n one moments ≡ least_moment n other moments
unfolding least_moment
same_moment zero one other moments h = refl
same_moment (suc n) one other moments h =
    let rest = same_moment n one other moments h in
    ap (λ (b : Bool). cond b (lesser_limit (least_moment n one moments) (get_or moments n 0)) (least_moment n one moments)) (h n)
    ∙ ap (λ (l : Option ℕ). cond (other n) (lesser_limit l (get_or moments n 0)) l) rest

pub moment_of_row : (row : ℕ) (test : ℕ → Bool) (moments : List ℕ) → ((u : ℕ) → bit_at row u ≡ cond (test u) 1 0)
    → least_moment line_count (λ u. bit_at row u == 1) moments ≡ least_moment line_count test moments
moment_of_row row test moments h = same_moment 32 (λ u. bit_at row u == 1) test moments (λ u. ap (λ n. n == 1) (h u) ∙ one_bit (test u))

pub no_moment : (row : ℕ → Bool) (moments : List ℕ) → least_moment 0 row moments ≡ None
unfolding least_moment
no_moment row moments = refl

pub one_moment_more : (row : ℕ → Bool) (moments : List ℕ) (k : ℕ)
    → least_moment (k + 1) row moments ≡ cond (row k) (lesser_limit (least_moment k row moments) (get_or moments k 0)) (least_moment k row moments)
unfolding least_moment
one_moment_more row moments k = ap (λ n. least_moment n row moments) (add-one k)
