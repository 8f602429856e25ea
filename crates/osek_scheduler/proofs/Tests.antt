-- The tests of the computed step decide the facts of the relation.
use Rattle.std.proofs.Common.{◌≡◌, ℕ, ◌<◌, ◌≤◌, ◌⊎◌, List, Bool, true, false, not, leb, length, Option, Some, None, refl, sym, ◌∙◌, subst, inl, inr}
use Rattle.std.specs.Bool.{Decides}
use Rattle.std.proofs.lemmas.Bool.{leb-true, le-leb, false≢true, true≢false, not-true, not_from_false}
use Rattle.std.proofs.lemmas.Bool.Decides.{Decides-and, Decides-or, Decides-not, Decides-ltb, Decides-like, Decides-below_and}
use Rattle.sloth_base.specs.declared.config.Config.{Config}
use Rattle.osek_scheduler.specs.declared.state.TaskState.{TaskState}
use Rattle.osek_scheduler.specs.declared.state.TaskState.TheVariants as mode
use Rattle.osek_scheduler.specs.State.{System, task, counter}
use Rattle.osek_scheduler.specs.Priority.{rank, is_active, IsDue, NoTicks, IsNextTick, IsTop}
use Rattle.code_rules.specs.Code.{is_in}
use Rattle.osek_scheduler.specs.Next.{is_ready, is_due, all_below, yields_to, no_ticks, is_next_tick, is_top}
use Rattle.osek_scheduler.specs.Meaning.{on_some, if_true}

pub itself : (b : Bool) → Decides b (b ≡ true)
itself b = (λ e. e, λ e. e)

pub Decides-leb : (a b : ℕ) → Decides (leb a b) (a ≤ b)
Decides-leb a b = (leb-true a b, le-leb a b)

pub Decides-is_ready : (m : TaskState) → Decides (is_ready m) (m ≡ mode.Ready)
Decides-is_ready mode.Suspended = (λ e. absurd (false≢true e), λ e. cc)
Decides-is_ready mode.Ready = (λ _. refl, λ _. refl)
Decides-is_ready mode.Active = (λ e. absurd (false≢true e), λ e. cc)
Decides-is_ready (mode.Waiting mask) = (λ e. absurd (false≢true e), λ e. cc)

pub Decides-is_active : (m : TaskState) → Decides (is_active m) (m ≡ mode.Active)
Decides-is_active mode.Suspended = (λ e. absurd (false≢true e), λ e. cc)
Decides-is_active mode.Ready = (λ e. absurd (false≢true e), λ e. cc)
Decides-is_active mode.Active = (λ _. refl, λ _. refl)
Decides-is_active (mode.Waiting mask) = (λ e. absurd (false≢true e), λ e. cc)

pub Decides-is_due : (s : System) (t : ℕ) → Decides (is_due s t) (IsDue s t)
Decides-is_due s t = Decides-or _ _ (Decides-is_ready (task s t).state) (Decides-is_active (task s t).state)

pub Decides-is_false : (b : Bool) → Decides (not b) (b ≡ false)
Decides-is_false b = (not-true b, not_from_false b)

-- ---- counters

-- no counter below n is due
none_due : (s : System) (n : ℕ) → Decides (all_below n (λ c. not (counter s c).due)) ((c : ℕ) → c < n → (counter s c).due ≡ false)
none_due s n =
    Decides-below_and (λ c. not (counter s c).due) (λ c. (counter s c).due ≡ false) (λ m. all_below m (λ c. not (counter s c).due))
    (λ c. Decides-is_false (counter s c).due) refl (λ _. refl) n

pub Decides-no_ticks : (config : Config) (s : System) → Decides (no_ticks config s) (NoTicks config s)
Decides-no_ticks config s = none_due s (length config.counters)

pub Decides-is_next_tick : (config : Config) (s : System) (c : ℕ) → Decides (is_next_tick config s c) (IsNextTick config s c)
Decides-is_next_tick config s c =
    Decides-like _ (λ h. record { declared = h.0; due = h.1.0; is_first = h.1.1 }) (λ h. (h.declared, (h.due, h.is_first)))
    (Decides-and _ _ (Decides-ltb c (length config.counters)) (Decides-and _ _ (itself (counter s c).due) (none_due s c)))

-- ---- tasks

module _ (config : Config) (s : System) (others : List ℕ) (t : ℕ) where
  -- a task yields where, being due and not left out, it has no greater rank
  abbrev pub Yields : ℕ → Type 0
  Yields u = IsDue s u → is_in u others ≡ false → rank config s u ≤ rank config s t

  from_cases : (u : ℕ) → (¬ (IsDue s u)) ⊎ ((is_in u others ≡ true) ⊎ (rank config s u ≤ rank config s t)) → Yields u
  from_cases u (inl idle) due out = absurd (idle due)
  from_cases u (inr (inl here)) due out = absurd (true≢false (sym here ∙ out))
  from_cases u (inr (inr le)) due out = le

  by_in : (u : ℕ) → IsDue s u → Yields u → (b : Bool) → is_in u others ≡ b → (is_in u others ≡ true) ⊎ (rank config s u ≤ rank config s t)
  by_in u due h true e = inl e
  by_in u due h false e = inr (h due e)

  by_due : (u : ℕ) → Yields u → (b : Bool) → is_due s u ≡ b → (¬ (IsDue s u)) ⊎ ((is_in u others ≡ true) ⊎ (rank config s u ≤ rank config s t))
  by_due u h true e = inr (by_in u ((Decides-is_due s u).0 e) h (is_in u others) refl)
  by_due u h false e = inl (λ due. true≢false (sym ((Decides-is_due s u).1 due) ∙ e))

  pub Decides-yields_to : (u : ℕ) → Decides (yields_to config s others t u) (Yields u)
  Decides-yields_to u =
      Decides-like _ (from_cases u) (λ h. by_due u h (is_due s u) refl)
      (Decides-or _ _ (Decides-not _ (Decides-is_due s u)) (Decides-or _ _ (itself (is_in u others)) (Decides-leb (rank config s u) (rank config s t))))

  pub Decides-is_top : Decides (is_top config s others t) (IsTop config s others t)
  Decides-is_top =
      Decides-like _
      (λ h. record { declared = h.0; due = h.1.0; is_not_left_out = h.1.1.0; is_greatest = λ u lt due out. h.1.1.1.0 u lt due out; no_ticks = h.1.1.1.1 })
      (λ top. (top.declared, (top.due, (top.is_not_left_out, ((λ u lt due out. top.is_greatest u lt due out), top.no_ticks)))))
      (Decides-and _ _ (Decides-ltb t (length config.tasks))
      (Decides-and _ _ (Decides-is_due s t)
      (Decides-and _ _ (Decides-is_false (is_in t others))
      (Decides-and _ _
      (Decides-below_and (yields_to config s others t) Yields (λ n. all_below n (yields_to config s others t)) Decides-yields_to refl (λ _. refl) (length config.tasks))
      (Decides-no_ticks config s)))))

-- ---- options

pub some_one : {A : Type 0} (a b : A) → Some a ≡ Some b → a ≡ b
some_one a b e = cc

pub if_true_some : {A : Type 0} (b : Bool) (o : Option A) (a : A) → if_true b o ≡ Some a → (b ≡ true) × (o ≡ Some a)
if_true_some true o a e = (refl, e)
if_true_some false o a e = absurd cc

pub if_true_is : {A : Type 0} (b : Bool) (o : Option A) (a : A) → b ≡ true → o ≡ Some a → if_true b o ≡ Some a
if_true_is true o a e h = h
if_true_is false o a e h = absurd (false≢true e)

pub on_some_from : {A B : Type 0} (o : Option A) (go : A → Option B) (b : B) → on_some o go ≡ Some b → (a : A) × (o ≡ Some a) × (go a ≡ Some b)
on_some_from None go b e = absurd cc
on_some_from (Some a) go b e = (a, refl, e)

pub on_some_is : {A B : Type 0} (o : Option A) (go : A → Option B) (a : A) (r : Option B) → o ≡ Some a → go a ≡ r → on_some o go ≡ r
on_some_is o go a r e h = subst (λ x. on_some x go ≡ r) (sym e) h
