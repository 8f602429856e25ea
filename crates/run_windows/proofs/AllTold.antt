-- Nothing is without a number exactly where all that the windows of a task are computed from has one.
use Rattle.std.proofs.Common.{◌≡◌, ℕ, zero, suc, ◌<◌, ◌⊎◌, inl, inr, ◌&&◌, ◌||◌, not, cond, Bool, true, false, ◌==◌, length, Option, Some, None, refl, sym, ap, ◌∙◌, subst, arith, ⊎_elim}
use Rattle.std.specs.Prelude.{Decides, is_none}
use Rattle.std.proofs.lemmas.Bool.{and_parts, ltb-true, lt-ltb, cases_eq, eq-eqb, eqb-true, false≢true}
use Rattle.run_windows.specs.declared.costs.TaskCosts.{TaskCosts}
use Rattle.run_windows.specs.declared.costs.Makings.{Makings}
use Rattle.run_windows.specs.declared.costs.SectionMakings.{SectionMakings}
use Rattle.run_windows.specs.declared.costs.Costs.{Costs}
use Rattle.run_windows.specs.declared.costs.Untold.{Untold}
use Rattle.run_windows.specs.declared.costs.Untold.TheVariants as untold
use Rattle.run_windows.specs.Costs.{reckoned, joins, task, making, section_counts, section_making}
use Rattle.run_windows.specs.Windows.{is_lower, is_left_out, is_below}
use Rattle.run_windows.specs.RunWindows.{is_joined, is_apart, is_counted, is_making_counted, IsTold, AreRoundsTold, AreMakingsTold, AreSectionMakingsTold, AreTold}
use Rattle.run_windows.specs.FirstUntold.{IsInside, is_told, are_rounds_told, are_makings_told, are_section_makings_told, earlier, first_below, untold_rounds, untold_making, level_rounds, level_making, level_makings, joined_making, making_of_joined, untold_joined, untold_section, untold_section_making, untold_apart, untold_lower, first_untold}

-- ---- the first of some

none_both : (one other : Option Untold) → earlier one other ≡ None → (one ≡ None) × (other ≡ None)
none_both (Some u) other e = absurd cc
none_both None other e = (refl, e)

both_none : (one other : Option Untold) → one ≡ None → other ≡ None → earlier one other ≡ None
both_none one other a b = ap (λ x. earlier x other) a ∙ b

none_each : (f : ℕ → Option Untold) (n : ℕ) → first_below f n ≡ None → (k : ℕ) → k < n → f k ≡ None
none_each f zero e k lt = absurd (omega (arith, lt))
none_each f (suc n) e k lt =
    let both = none_both (first_below f n) (f n) e in
    ⊎_elim (λ same. subst (λ v. f v ≡ None) (sym same) both.1) (λ other. none_each f n both.0 k (omega (arith, lt, other))) (cases_eq k n)

each_none : (f : ℕ → Option Untold) (n : ℕ) → ((k : ℕ) → k < n → f k ≡ None) → first_below f n ≡ None
each_none f zero each = refl
each_none f (suc n) each = both_none (first_below f n) (f n) (each_none f n (λ k lt. each k (omega (arith, lt)))) (each n (omega arith))

-- ---- tests

cond_none : (b : Bool) (u : Untold) → cond b None (Some u) ≡ None → b ≡ true
cond_none true u e = refl
cond_none false u e = absurd cc

none_cond : (b : Bool) (u : Untold) → b ≡ true → cond b None (Some u) ≡ None
none_cond b u e = ap {B = Option Untold} (λ c. cond c None (Some u)) e

-- what is asked for where a test does not hold
past : (b : Bool) (o : Option Untold) → cond b None o ≡ None → b ≡ false → o ≡ None
past true o e f = absurd (false≢true (sym f))
past false o e f = e

by_past : (b : Bool) (o : Option Untold) → (b ≡ false → o ≡ None) → cond b None o ≡ None
by_past true o f = refl
by_past false o f = f refl

and_by : (a b : Bool) → a ≡ true → b ≡ true → (a && b) ≡ true
and_by true b e f = f
and_by false b e f = absurd (false≢true e)

or_false : (a b : Bool) → a ≡ false → b ≡ false → (a || b) ≡ false
or_false true b e f = absurd (false≢true (sym e))
or_false false b e f = f

or_parts : (a b : Bool) → (a || b) ≡ false → (a ≡ false) × (b ≡ false)
or_parts true b e = absurd (false≢true (sym e))
or_parts false b e = (refl, e)

-- a test that stands in front does not hold
behind : (a b : Bool) → (a || b) ≡ true → a ≡ false → b ≡ true
behind true b e f = absurd (false≢true (sym f))
behind false b e f = e

or_by : (a b : Bool) → (a ≡ false → b ≡ true) → (a || b) ≡ true
or_by true b f = refl
or_by false b f = f refl

one_of : (a b : Bool) → (a || b) ≡ true → (a ≡ true) ⊎ (b ≡ true)
one_of true b e = inl refl
one_of false b e = inr e

in_front : (a b : Bool) → a ≡ true → (a || b) ≡ true
in_front true b e = refl
in_front false b e = absurd (false≢true e)

at_end : (a b : Bool) → b ≡ true → (a || b) ≡ true
at_end true b e = refl
at_end false b e = e

is_false : (a : Bool) → a ≡ true → not a ≡ false
is_false true e = refl
is_false false e = absurd (false≢true e)

not_so : (a : Bool) → not a ≡ true → a ≡ false
not_so true e = absurd (false≢true e)
not_so false e = refl

so_not : (a : Bool) → a ≡ false → not a ≡ true
so_not true e = absurd (false≢true (sym e))
so_not false e = refl

not_both : (a b : Bool) → (a && b) ≡ false → a ≡ true → b ≡ false
not_both true b e f = e
not_both false b e f = absurd (false≢true f)

and_false : (a b : Bool) → a ≡ false → (a && b) ≡ false
and_false true b e = absurd (false≢true (sym e))
and_false false b e = refl

and_last_false : (a b : Bool) → b ≡ false → (a && b) ≡ false
and_last_false true b e = e
and_last_false false b e = refl

-- one of two that are told by a test
joined_or : (a b : Bool) (x y : Option Untold) → cond a x (cond b y None) ≡ None → (a ≡ true → x ≡ None) × (a ≡ false → b ≡ true → y ≡ None)
joined_or true b x y e = (λ yes. e, λ unset. absurd (false≢true (sym unset)))
joined_or false true x y e = (λ yes. absurd (false≢true yes), λ unset yes. e)
joined_or false false x y e = (λ yes. absurd (false≢true yes), λ unset yes. absurd (false≢true yes))

or_joined : (a b : Bool) (x y : Option Untold) → (a ≡ true → x ≡ None) → (b ≡ true → y ≡ None) → cond a x (cond b y None) ≡ None
or_joined true b x y f g = f refl
or_joined false true x y f g = g refl
or_joined false false x y f g = refl

-- ---- numbers

told : (n : Option ℕ) → is_told n ≡ true → IsTold n
told n e = ltb-true (reckoned n) (reckoned None) e

tells : (n : Option ℕ) → IsTold n → is_told n ≡ true
tells n lt = lt-ltb (reckoned n) (reckoned None) lt

rounds_told : (c : TaskCosts) → are_rounds_told c ≡ true → AreRoundsTold c
rounds_told c e = let both = and_parts (is_told c.first) (is_told c.next) e in record { first = told c.first both.0; next = told c.next both.1 }

tells_rounds : (c : TaskCosts) → AreRoundsTold c → are_rounds_told c ≡ true
tells_rounds c r = and_by (is_told c.first) (is_told c.next) (tells c.first r.first) (tells c.next r.next)

makings_told : (m : Makings) → are_makings_told m ≡ true → AreMakingsTold m
makings_told m e =
    let a = and_parts (is_told m.first_activations) (is_told m.first_settings && (is_told m.next_activations && is_told m.next_settings)) e in
    let b = and_parts (is_told m.first_settings) (is_told m.next_activations && is_told m.next_settings) a.1 in
    let c = and_parts (is_told m.next_activations) (is_told m.next_settings) b.1 in
    record {
      first_activations = told m.first_activations a.0;
      first_settings = told m.first_settings b.0;
      next_activations = told m.next_activations c.0;
      next_settings = told m.next_settings c.1;
    }

tells_makings : (m : Makings) → AreMakingsTold m → are_makings_told m ≡ true
tells_makings m t =
    and_by (is_told m.first_activations) (is_told m.first_settings && (is_told m.next_activations && is_told m.next_settings)) (tells m.first_activations t.first_activations)
    (and_by (is_told m.first_settings) (is_told m.next_activations && is_told m.next_settings) (tells m.first_settings t.first_settings)
    (and_by (is_told m.next_activations) (is_told m.next_settings) (tells m.next_activations t.next_activations) (tells m.next_settings t.next_settings)))

section_makings_told : (m : SectionMakings) → are_section_makings_told m ≡ true → AreSectionMakingsTold m
section_makings_told m e =
    let both = and_parts (is_told m.activations) (is_told m.settings) e in record { activations = told m.activations both.0; settings = told m.settings both.1 }

tells_section_makings : (m : SectionMakings) → AreSectionMakingsTold m → are_section_makings_told m ≡ true
tells_section_makings m t = and_by (is_told m.activations) (is_told m.settings) (tells m.activations t.activations) (tells m.settings t.settings)

-- ---- all

-- lower tasks whose sections count are no joined ones
apart_not_joined : (below joins : Bool) → (below && not joins) ≡ true → (below && joins) ≡ false
apart_not_joined true true e = absurd (false≢true e)
apart_not_joined true false e = refl
apart_not_joined false joins e = refl

module _ (costs : Costs) (h : ℕ) where
  abbrev n : ℕ
  n = length costs.tasks

  abbrev rounds_first : Option Untold
  rounds_first = first_below (level_rounds costs h) n

  abbrev makings_first : Option Untold
  makings_first = first_below (level_makings costs h) n

  abbrev lower_first : Option Untold
  lower_first = first_below (untold_lower costs h) n

  -- ---- nothing is without a number

  module _ (e : first_untold costs h ≡ None) where
    a : (rounds_first ≡ None) × (earlier makings_first lower_first ≡ None)
    a = none_both rounds_first (earlier makings_first lower_first) e

    b : (makings_first ≡ None) × (lower_first ≡ None)
    b = none_both makings_first lower_first a.1

    of_lower : (k : ℕ) → k < n → (is_joined costs h k ≡ true → untold_joined costs h k ≡ None) × (is_joined costs h k ≡ false → is_apart costs h k ≡ true → untold_apart costs h k ≡ None)
    of_lower k lt = joined_or (is_joined costs h k) (is_apart costs h k) (untold_joined costs h k) (untold_apart costs h k) (none_each (untold_lower costs h) n b.1 k lt)

    of_joined : (k : ℕ) → k < n → is_joined costs h k ≡ true
        → (untold_rounds costs k ≡ None) × (earlier (first_below (joined_making costs h k) n) (first_below (making_of_joined costs h k) n) ≡ None)
    of_joined k lt joined = none_both (untold_rounds costs k) (earlier (first_below (joined_making costs h k) n) (first_below (making_of_joined costs h k) n)) ((of_lower k lt).0 joined)

    of_makings : (k : ℕ) → k < n → is_joined costs h k ≡ true → (first_below (joined_making costs h k) n ≡ None) × (first_below (making_of_joined costs h k) n ≡ None)
    of_makings k lt joined = none_both (first_below (joined_making costs h k) n) (first_below (making_of_joined costs h k) n) (of_joined k lt joined).1

    of_apart : (k : ℕ) → k < n → is_apart costs h k ≡ true → (untold_section costs h k ≡ None) × (first_below (untold_section_making costs h k) n ≡ None)
    of_apart k lt apart =
        none_both (untold_section costs h k) (first_below (untold_section_making costs h k) n)
        ((of_lower k lt).1 (apart_not_joined (is_below costs h k) (joins costs h k) apart) apart)

    made : (k j : ℕ) → untold_making costs k j ≡ None → AreMakingsTold (making costs k j)
    made k j none = makings_told (making costs k j) (cond_none (are_makings_told (making costs k j)) (untold.Makings k j) none)

    runs : (k : ℕ) → untold_rounds costs k ≡ None → AreRoundsTold (task costs k)
    runs k none = rounds_told (task costs k) (cond_none (are_rounds_told (task costs k)) (untold.Rounds k) none)

    -- makings of the level, of joined tasks, and of the level of joined ones
    level_made : (k j : ℕ) → k < n → j < n → is_left_out costs h k ≡ false → is_lower costs h j ≡ false → AreMakingsTold (making costs k j)
    level_made k j in_k in_j out low =
        made k j (past (is_left_out costs h k || is_lower costs h j) (untold_making costs k j)
        (none_each (level_making costs h k) n (none_each (level_makings costs h) n b.0 k in_k) j in_j) (or_false (is_left_out costs h k) (is_lower costs h j) out low))

    joined_made : (k j : ℕ) → k < n → j < n → is_joined costs h k ≡ true → (is_lower costs h j && not (k == j)) ≡ false → AreMakingsTold (making costs k j)
    joined_made k j in_k in_j joined unset =
        made k j (past (is_lower costs h j && not (k == j)) (untold_making costs k j) (none_each (joined_making costs h k) n (of_makings k in_k joined).0 j in_j) unset)

    made_joined : (k j : ℕ) → k < n → j < n → is_joined costs h k ≡ true → is_left_out costs h j ≡ false → AreMakingsTold (making costs j k)
    made_joined k j in_k in_j joined out =
        made j k (past (is_left_out costs h j) (untold_making costs j k) (none_each (making_of_joined costs h k) n (of_makings k in_k joined).1 j in_j) out)

    rounds_all : (t : ℕ) → t < n → is_counted costs h t ≡ true → AreRoundsTold (task costs t)
    rounds_all t lt counted =
        ⊎_elim
        (λ level. runs t (past (is_left_out costs h t) (untold_rounds costs t) (none_each (level_rounds costs h) n a.0 t lt) (not_so (is_left_out costs h t) level)))
        (λ joined. runs t (of_joined t lt joined).0)
        (one_of (not (is_left_out costs h t)) (is_joined costs h t) counted)

    makings_all : (j : ℕ) → j < n → (k : ℕ) → k < n → is_making_counted costs h j k ≡ true → AreMakingsTold (making costs k j)
    makings_all j in_j k in_k counted =
        ⊎_elim
        (λ over.
        let both = and_parts (not (is_lower costs h j)) (is_counted costs h k) over in
        ⊎_elim
        (λ level. level_made k j in_k in_j (not_so (is_left_out costs h k) level) (not_so (is_lower costs h j) both.0))
        (λ joined. joined_made k j in_k in_j joined (and_false (is_lower costs h j) (not (k == j)) (not_so (is_lower costs h j) both.0)))
        (one_of (not (is_left_out costs h k)) (is_joined costs h k) both.1))
        (λ lower.
        let both = and_parts (is_joined costs h j) (not (is_left_out costs h k) || (k == j)) lower in
        ⊎_elim
        (λ level. made_joined j k in_j in_k both.0 (not_so (is_left_out costs h k) level))
        (λ same.
        let e = eqb-true k j same in
        joined_made k j in_k in_j (subst (λ v. is_joined costs h v ≡ true) (sym e) both.0) (and_last_false (is_lower costs h j) (not (k == j)) (is_false (k == j) same)))
        (one_of (not (is_left_out costs h k)) (k == j) both.1))
        (one_of (not (is_lower costs h j) && is_counted costs h k) (is_joined costs h j && (not (is_left_out costs h k) || (k == j))) counted)

    all_told : AreTold costs h
    all_told = record {
      rounds = rounds_all;
      makings = makings_all;
      sections = λ k lt apart. told (section_counts costs h k) (cond_none (is_told (section_counts costs h k)) (untold.Section k) (of_apart k lt apart).0);
      section_makings = λ j in_j k in_k low apart. section_makings_told (section_making costs h k j)
          (behind (is_lower costs h j) (are_section_makings_told (section_making costs h k j))
          (cond_none (is_lower costs h j || are_section_makings_told (section_making costs h k j)) (untold.SectionMakings k)
          (none_each (untold_section_making costs h k) n (of_apart k in_k apart).1 j in_j)) low);
    }

  -- ---- all have numbers

  module _ (t : AreTold costs h) where
    no_rounds : (k : ℕ) → k < n → is_counted costs h k ≡ true → untold_rounds costs k ≡ None
    no_rounds k lt counted = none_cond (are_rounds_told (task costs k)) (untold.Rounds k) (tells_rounds (task costs k) (t.rounds k lt counted))

    no_making : (k j : ℕ) → k < n → j < n → is_making_counted costs h j k ≡ true → untold_making costs k j ≡ None
    no_making k j in_k in_j counted = none_cond (are_makings_told (making costs k j)) (untold.Makings k j) (tells_makings (making costs k j) (t.makings j in_j k in_k counted))

    level_counts : (k : ℕ) → is_left_out costs h k ≡ false → is_counted costs h k ≡ true
    level_counts k out = in_front (not (is_left_out costs h k)) (is_joined costs h k) (so_not (is_left_out costs h k) out)

    joined_counts : (k : ℕ) → is_joined costs h k ≡ true → is_counted costs h k ≡ true
    joined_counts k joined = at_end (not (is_left_out costs h k)) (is_joined costs h k) joined

    over_counts : (j k : ℕ) → is_lower costs h j ≡ false → is_counted costs h k ≡ true → is_making_counted costs h j k ≡ true
    over_counts j k low counted =
        in_front (not (is_lower costs h j) && is_counted costs h k) (is_joined costs h j && (not (is_left_out costs h k) || (k == j)))
        (and_by (not (is_lower costs h j)) (is_counted costs h k) (so_not (is_lower costs h j) low) counted)

    lower_counts : (j k : ℕ) → is_joined costs h j ≡ true → (not (is_left_out costs h k) || (k == j)) ≡ true → is_making_counted costs h j k ≡ true
    lower_counts j k joined some =
        at_end (not (is_lower costs h j) && is_counted costs h k) (is_joined costs h j && (not (is_left_out costs h k) || (k == j)))
        (and_by (is_joined costs h j) (not (is_left_out costs h k) || (k == j)) joined some)

    no_joined_making : (k j : ℕ) → k < n → j < n → is_joined costs h k ≡ true → (is_lower costs h j && not (k == j)) ≡ false → untold_making costs k j ≡ None
    no_joined_making k j in_k in_j joined unset = by (is_lower costs h j) refl
      where
        by : (b : Bool) → is_lower costs h j ≡ b → untold_making costs k j ≡ None
        by false low = no_making k j in_k in_j (over_counts j k low (joined_counts k joined))
        by true low =
            let same = same_true (k == j) (not_both (is_lower costs h j) (not (k == j)) unset low) in
            let e = eqb-true k j same in
            no_making k j in_k in_j (lower_counts j k (subst (λ v. is_joined costs h v ≡ true) e joined) (at_end (not (is_left_out costs h k)) (k == j) same))
          where
            same_true : (b : Bool) → not b ≡ false → b ≡ true
            same_true true e = refl
            same_true false e = absurd (false≢true (sym e))

    no_joined : (k : ℕ) → k < n → is_joined costs h k ≡ true → untold_joined costs h k ≡ None
    no_joined k lt joined =
        both_none (untold_rounds costs k) (earlier (first_below (joined_making costs h k) n) (first_below (making_of_joined costs h k) n)) (no_rounds k lt (joined_counts k joined))
        (both_none (first_below (joined_making costs h k) n) (first_below (making_of_joined costs h k) n)
        (each_none (joined_making costs h k) n (λ j in_j. by_past (is_lower costs h j && not (k == j)) (untold_making costs k j) (no_joined_making k j lt in_j joined)))
        (each_none (making_of_joined costs h k) n (λ j in_j. by_past (is_left_out costs h j) (untold_making costs j k) (λ out.
        no_making j k in_j lt (lower_counts k j joined (in_front (not (is_left_out costs h j)) (j == k) (so_not (is_left_out costs h j) out)))))))

    no_apart : (k : ℕ) → k < n → is_apart costs h k ≡ true → untold_apart costs h k ≡ None
    no_apart k lt apart =
        both_none (untold_section costs h k) (first_below (untold_section_making costs h k) n)
        (none_cond (is_told (section_counts costs h k)) (untold.Section k) (tells (section_counts costs h k) (t.sections k lt apart)))
        (each_none (untold_section_making costs h k) n (λ j in_j. none_cond (is_lower costs h j || are_section_makings_told (section_making costs h k j)) (untold.SectionMakings k)
        (or_by (is_lower costs h j) (are_section_makings_told (section_making costs h k j)) (λ low.
        tells_section_makings (section_making costs h k j) (t.section_makings j in_j k lt low apart)))))

    told_all : first_untold costs h ≡ None
    told_all =
        both_none rounds_first (earlier makings_first lower_first)
        (each_none (level_rounds costs h) n (λ k lt. by_past (is_left_out costs h k) (untold_rounds costs k) (λ out. no_rounds k lt (level_counts k out))))
        (both_none makings_first lower_first
        (each_none (level_makings costs h) n (λ k in_k. each_none (level_making costs h k) n (λ j in_j.
        by_past (is_left_out costs h k || is_lower costs h j) (untold_making costs k j) (λ unset.
        let parts = or_parts (is_left_out costs h k) (is_lower costs h j) unset in
        no_making k j in_k in_j (over_counts j k parts.1 (level_counts k parts.0))))))
        (each_none (untold_lower costs h) n (λ k lt.
        or_joined (is_joined costs h k) (is_apart costs h k) (untold_joined costs h k) (untold_apart costs h k) (no_joined k lt) (no_apart k lt))))

  pub all_are_told : Decides (is_none (first_untold costs h)) (AreTold costs h)
  all_are_told = (λ e. all_told (by (first_untold costs h) e), λ t. ap is_none (told_all t))
    where
      by : (o : Option Untold) → is_none o ≡ true → o ≡ None
      by None e = refl
      by (Some u) e = absurd (false≢true e)

-- ---- the first is among the tasks

earlier_is : (one other : Option Untold) (u : Untold) → earlier one other ≡ Some u → (one ≡ Some u) ⊎ (other ≡ Some u)
earlier_is (Some x) other u e = inl e
earlier_is None other u e = inr e

some_is : (x u : Untold) → Some x ≡ Some u → x ≡ u
some_is x u e = cc

-- each that is told is so
abbrev All : (P : Untold → Type 0) → Option Untold → Type 0
All P o = (u : Untold) → o ≡ Some u → P u

below_is : (P : Untold → Type 0) (f : ℕ → Option Untold) (n : ℕ) → ((k : ℕ) → k < n → All P (f k)) → All P (first_below f n)
below_is P f zero each u e = absurd cc
below_is P f (suc n) each u e = ⊎_elim (below_is P f n (λ k lt. each k (omega (arith, lt))) u) (each n (omega arith) u) (earlier_is (first_below f n) (f n) u e)

both_are : (P : Untold → Type 0) (one other : Option Untold) → All P one → All P other → All P (earlier one other)
both_are P one other f g u e = ⊎_elim (f u) (g u) (earlier_is one other u e)

cond_is : (P : Untold → Type 0) (b : Bool) (x : Untold) → P x → All P (cond b None (Some x))
cond_is P true x p u e = absurd cc
cond_is P false x p u e = subst P (some_is x u e) p

past_is : (P : Untold → Type 0) (b : Bool) (o : Option Untold) → All P o → All P (cond b None o)
past_is P true o f u e = absurd cc
past_is P false o f u e = f u e

or_is : (P : Untold → Type 0) (a b : Bool) (x y : Option Untold) → All P x → All P y → All P (cond a x (cond b y None))
or_is P true b x y f g u e = f u e
or_is P false true x y f g u e = g u e
or_is P false false x y f g u e = absurd cc

module _ (costs : Costs) (h : ℕ) where
  abbrev m : ℕ
  m = length costs.tasks

  abbrev In : Option Untold → Type 0
  In o = All (IsInside m) o

  rounds_in : (k : ℕ) → k < m → In (untold_rounds costs k)
  rounds_in k lt = cond_is (IsInside m) (are_rounds_told (task costs k)) (untold.Rounds k) lt

  making_in : (k j : ℕ) → k < m → j < m → In (untold_making costs k j)
  making_in k j in_k in_j = cond_is (IsInside m) (are_makings_told (making costs k j)) (untold.Makings k j) (in_k, in_j)

  joined_in : (k : ℕ) → k < m → In (untold_joined costs h k)
  joined_in k lt =
      both_are (IsInside m) (untold_rounds costs k) (earlier (first_below (joined_making costs h k) m) (first_below (making_of_joined costs h k) m)) (rounds_in k lt)
      (both_are (IsInside m) (first_below (joined_making costs h k) m) (first_below (making_of_joined costs h k) m)
      (below_is (IsInside m) (joined_making costs h k) m (λ j in_j. past_is (IsInside m) (is_lower costs h j && not (k == j)) (untold_making costs k j) (making_in k j lt in_j)))
      (below_is (IsInside m) (making_of_joined costs h k) m (λ j in_j. past_is (IsInside m) (is_left_out costs h j) (untold_making costs j k) (making_in j k in_j lt))))

  apart_in : (k : ℕ) → k < m → In (untold_apart costs h k)
  apart_in k lt =
      both_are (IsInside m) (untold_section costs h k) (first_below (untold_section_making costs h k) m) (cond_is (IsInside m) (is_told (section_counts costs h k)) (untold.Section k) lt)
      (below_is (IsInside m) (untold_section_making costs h k) m (λ j in_j.
      cond_is (IsInside m) (is_lower costs h j || are_section_makings_told (section_making costs h k j)) (untold.SectionMakings k) lt))

  pub first_inside : (u : Untold) → first_untold costs h ≡ Some u → IsInside (length costs.tasks) u
  first_inside =
      both_are (IsInside m) (first_below (level_rounds costs h) m) (earlier (first_below (level_makings costs h) m) (first_below (untold_lower costs h) m))
      (below_is (IsInside m) (level_rounds costs h) m (λ k lt. past_is (IsInside m) (is_left_out costs h k) (untold_rounds costs k) (rounds_in k lt)))
      (both_are (IsInside m) (first_below (level_makings costs h) m) (first_below (untold_lower costs h) m)
      (below_is (IsInside m) (level_makings costs h) m (λ k in_k. below_is (IsInside m) (level_making costs h k) m (λ j in_j.
      past_is (IsInside m) (is_left_out costs h k || is_lower costs h j) (untold_making costs k j) (making_in k j in_k in_j))))
      (below_is (IsInside m) (untold_lower costs h) m (λ k lt.
      or_is (IsInside m) (is_joined costs h k) (is_apart costs h k) (untold_joined costs h k) (untold_apart costs h k) (joined_in k lt) (apart_in k lt))))
