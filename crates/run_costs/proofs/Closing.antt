-- Marks that grow up to the tasks that come.
use Rattle.std.proofs.Common.{◌≡◌, ◌++◌, ℕ, zero, suc, [], ◌∷◌, ◌+◌, ◌<◌, ◌≤◌, ◌⊎◌, ◌&&◌, not, Bool, true, false, cond, List, length, get_or, set, ltb, refl, sym, ap, ◌∙◌, subst, arith, inl, inr}
use Rattle.std.specs.Prelude.{Decides}
use Rattle.std.proofs.lemmas.Bool.{and_parts, cases_eq, cases_lt, true≢false}
use Rattle.std.proofs.lemmas.List.{get_or-set_other}
use Rattle.std.proofs.lemmas.List.Sums.{sum_by-set}
use Rattle.sloth_base.specs.declared.config.Config.{Config}
use Rattle.sloth_base.specs.declared.app.App.{App}
use Rattle.load_text.specs.declared.load_line.Entry.{Entry}
use Rattle.osek_scheduler.proofs.Facts.{Facts}
use Rattle.sloth_base.specs.declared.service.Service.TheVariants as service
use Rattle.walk_sums.specs.declared.counted.Counted.{Counted}
use Rattle.walk_sums.specs.declared.counted.Counted.TheVariants as counts
use Rattle.run_costs.specs.Tops.{AreTaskTops}
use Rattle.run_costs.specs.Coming.{SomeReaches, IsUsed, IsMade, IsClosed, marked, AreInAll, AreComing, IsSettled, unmarked, HasMarked}
use Rattle.run_costs.proofs.Coming.{reaches_decided}

both_true : (a b : Bool) → a ≡ true → b ≡ true → (a && b) ≡ true
both_true true true e f = refl
both_true true false e f = f
both_true false b e f = e

-- ---- tests

-- whether some task that is marked reaches what tops are of
pub some_decided : (config : Config) (app : App) → Facts config app → (marks : List Bool) (tops : List ℕ) (c : Counted) → AreTaskTops config app c tops → (b : Bool)
    → (b ≡ true → (k : ℕ) × (k < length config.tasks) × ((marked marks k && ltb 0 (get_or tops k 0)) ≡ true))
    → ((k : ℕ) → k < length config.tasks → (marked marks k && ltb 0 (get_or tops k 0)) ≡ true → b ≡ true)
    → Decides b (SomeReaches config app (marked marks) c)
some_decided config app w marks tops c are b some none = (
  λ e.
      let s = some e in
      let both = and_parts (marked marks s.0) (ltb 0 (get_or tops s.0 0)) s.2 in
      (s.0, s.1, both.0, (reaches_decided config app w s.0 s.1 c (get_or tops s.0 0) (are.each s.0 s.1)).0 both.1),
  λ (k, lt, mark, reached).
      none k lt (both_true (marked marks k) (ltb 0 (get_or tops k 0)) mark ((reaches_decided config app w k lt c (get_or tops k 0) (are.each k lt)).1 reached)),
)

-- ---- more marks

module _ (config : Config) (app : App) (load : List Entry) where
  -- more is made where more comes
  module _ (comes more : ℕ → Bool) (each : (t : ℕ) → t < length config.tasks → comes t ≡ true → more t ≡ true) where
    more_reaches : (c : Counted) → SomeReaches config app comes c → SomeReaches config app more c
    more_reaches c (k, lt, is, reached) = (k, lt, each k lt is, reached)

    more_used : (a : ℕ) → IsUsed config app comes a → IsUsed config app more a
    more_used a (inl starts) = inl starts
    more_used a (inr (inl sets)) = inr (inl (more_reaches (counts.CallsFor service.SetRelAlarm a) sets))
    more_used a (inr (inr sets)) = inr (inr (more_reaches (counts.CallsFor service.SetAbsAlarm a) sets))

    pub more_made : (t : ℕ) → IsMade config app load comes t → IsMade config app load more t
    more_made t (inl starts) = inl starts
    more_made t (inr (inl arrives)) = inr (inl arrives)
    more_made t (inr (inr (inl reached))) = inr (inr (inl (more_reaches (counts.Activations t) reached)))
    more_made t (inr (inr (inr (a, lt, may, used)))) = inr (inr (inr (a, lt, may, more_used a used)))

  -- no marks are in all sets
  pub none_in : (marks : List Bool) → ((t : ℕ) → marked marks t ≡ false) → AreInAll config app load marks
  none_in marks none = record { each = λ other closed t lt is. absurd (true≢false (sym is ∙ none t)) }

  module _ (marks : List Bool) (t : ℕ) (inside : t < length marks) where
    -- a task that something makes is in all sets
    pub more_in : AreInAll config app load marks → t < length config.tasks → IsMade config app load (marked marks) t → AreInAll config app load (set marks t true)
    more_in within there made = record { each = λ other closed i lt is. by other closed i lt is (cases_eq i t) }
      where
        by : (other : ℕ → Bool) → IsClosed config app load other → (i : ℕ) → i < length config.tasks → marked (set marks t true) i ≡ true → (i ≡ t) ⊎ (i ≡ t → ⊥) → other i ≡ true
        by other closed i lt is (inl e) = closed i lt (subst (IsMade config app load other) (sym e) (more_made (marked marks) other (within.each other closed) t made))
        by other closed i lt is (inr n) = within.each other closed i lt (sym (get_or-set_other marks t i true false n) ∙ is)

    -- one less is unmarked
    pub less_unmarked : marked marks t ≡ false → unmarked (set marks t true) < unmarked marks
    less_unmarked off =
        let s = sum_by-set (λ b. cond {A = ℕ} (not b) 1 0) marks t true false inside in
        let f : cond {A = ℕ} (not (marked marks t)) 1 0 ≡ 1 = ap (λ b. cond {A = ℕ} (not b) 1 0) off in
        omega (arith, s, f)

  -- where one is marked anew, fewer are unmarked than at first
  pub newly_marked : (old mid new : List Bool) (n : ℕ) (grown : Bool) → HasMarked config app load old mid n grown → unmarked new < unmarked mid → unmarked new < unmarked old
  newly_marked old mid new n true less fewer = omega (arith, less, fewer)
  newly_marked old mid new n false (is, each) fewer = subst (λ (l : List Bool). unmarked new < unmarked l) is fewer

  -- where none is marked anew, one more is settled
  pub still_marked : (old mid new : List Bool) (n : ℕ) (grown : Bool) → HasMarked config app load old mid n grown → (new ≡ mid) × IsSettled config app load mid n
      → HasMarked config app load old new (n + 1) grown
  still_marked old mid new n true less (same, here) = subst (λ (l : List Bool). unmarked l < unmarked old) (sym same) less
  still_marked old mid new n false (is, each) (same, here) = (same ∙ is, λ i lt. by i lt (cases_lt i n))
    where
      by : (i : ℕ) → i < n + 1 → (i < n) ⊎ (n ≤ i) → IsSettled config app load old i
      by i lt (inl less) = each i less
      by i lt (inr most) =
          let at : n ≡ i = omega (arith, lt, most) in
          subst (IsSettled config app load old) at (subst (λ (l : List Bool). IsSettled config app load l n) is here)

  -- where all are settled these are the tasks that come
  pub settled_coming : (marks : List Bool) → length marks ≡ length config.tasks → AreInAll config app load marks → ((i : ℕ) → i < length config.tasks → IsSettled config app load marks i)
      → AreComing config app load marks
  settled_coming marks count within settled = record { count = count; closed = settled; least = within }
