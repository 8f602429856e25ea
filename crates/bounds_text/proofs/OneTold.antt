-- One thing is told of a task.
use Rattle.std.proofs.Common.{◌≡◌, ℕ, ◌≤◌, refl, ap, arith}
use Rattle.sloth_base.specs.declared.config.Config.{Config}
use Rattle.sloth_base.specs.declared.app.App.{App}
use Rattle.osek_blocking.specs.Sections.{IsBound, lowest, above, HasNoBound, ExceedsBound, greatest_told_bound}
use Rattle.bound_rules.specs.declared.bound.Bound.{Bound}
use Rattle.bound_rules.specs.declared.bound.Bound.TheVariants as bound
use Rattle.bounds_text.specs.Bounds.{IsTold}

module _ (config : Config) (app : App) (h : ℕ) where
  one_bound : (n m : ℕ) → IsBound config app h n → IsBound config app h m → n ≡ m
  one_bound n m (lowest none) (lowest other) = refl
  one_bound n m (lowest none) (above k g) = absurd (none g.is_section.task g.is_section.lower)
  one_bound n m (above k g) (lowest none) = absurd (none g.is_section.task g.is_section.lower)
  one_bound n m (above k g) (above j f) =
      let le = g.none_larger f.positions f.is_section in
      let more = f.none_larger g.positions g.is_section in
      let a = g.size in
      let b = f.size in
      omega (arith, le, more, a, b)

  told_or_above : (n : ℕ) → IsBound config app h n → n ≤ greatest_told_bound → ExceedsBound config app h greatest_told_bound → ⊥
  told_or_above n (lowest none) le e = none e.is_section.task e.is_section.lower
  told_or_above n (above k g) le e =
      let more = g.none_larger e.positions e.is_section in
      let large = e.large in
      absurd (omega (arith, le, more, large))

  told_or_none : (n : ℕ) → IsBound config app h n → HasNoBound config app h → ⊥
  told_or_none n (lowest none) e = let s = e 0 in none s.1.task s.1.lower
  told_or_none n (above k g) e =
      let s = e k in
      let le = g.none_larger s.0 s.1 in
      let more = s.2 in
      absurd (omega (arith, le, more))

  above_or_none : ExceedsBound config app h greatest_told_bound → HasNoBound config app h → ⊥
  above_or_none a e =
      let s = e a.most in
      let le = a.none_larger s.0 s.1 in
      let more = s.2 in
      absurd (omega (arith, le, more))

  pub one_told : (one other : Bound) → IsTold config app h one → IsTold config app h other → one ≡ other
  one_told (bound.Items n) (bound.Items m) a b = ap bound.Items (one_bound n m a.0 b.0)
  one_told (bound.Items n) bound.Huge a b = absurd (told_or_above n a.0 a.1 b)
  one_told (bound.Items n) bound.Endless a b = absurd (told_or_none n a.0 b)
  one_told bound.Huge (bound.Items m) a b = absurd (told_or_above m b.0 b.1 a)
  one_told bound.Huge bound.Huge a b = refl
  one_told bound.Huge bound.Endless a b = absurd (above_or_none a b)
  one_told bound.Endless (bound.Items m) a b = absurd (told_or_none m b.0 a)
  one_told bound.Endless bound.Huge a b = absurd (above_or_none b a)
  one_told bound.Endless bound.Endless a b = refl
