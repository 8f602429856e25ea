-- The levels at which functions are called from positions of walks.
use Rattle.std.proofs.Common.{◌≡◌, ℕ, ◌≤◌, ◌<◌, ◌⊎◌, inl, inr, Bool, true, false, ◌||◌, leb, cond, max, List, [], ◌∷◌, ◌++◌, map, Option, Some, refl, sym, ap, ◌∙◌, arith}
use Rattle.std.proofs.lemmas.Bool.{le-leb, lt-leb}
use Rattle.std.proofs.lemmas.Bool.Decides.{leb_tells}
use Rattle.std.proofs.lemmas.List.{map-append}
use Rattle.sloth_base.specs.declared.config.Config.{Config}
use Rattle.sloth_base.specs.declared.app.App.{App}
use Rattle.sloth_base.specs.declared.app.Op.{Op}
use Rattle.sloth_base.specs.declared.app.Op.TheVariants as op
use Rattle.sloth_base.specs.Named.{declaration}
use Rattle.code_rules.specs.WellFormed.{held_list_before}
use Rattle.osek_scheduler.specs.Priority.{greatest, ceiling, highest_priority}
use Rattle.osek_scheduler.specs.Apart.{static_priority}
use Rattle.osek_blocking.specs.Walks.{Position, place, GoesBack, GoesOnInside, LeadsTo}
use Rattle.osek_blocking.specs.Sections.{held_list_along, priority_at}
use Rattle.bound_rules.specs.Items.{reaches_level}
use Rattle.walk_sums.specs.Activations.{ceiling_before, is_raised, called_level, is_plain, level_behind}

-- ---- priorities

greatest-append : (xs ys : List ℕ) → greatest (xs ++ ys) ≡ max (greatest xs) (greatest ys)
greatest-append [] ys = omega arith
greatest-append (x ∷ xs) ys = let e = greatest-append xs ys in omega (arith, e)

leb-max : (p a b : ℕ) → leb p (max a b) ≡ (leb p a || leb p b)
leb-max p a b = by (leb_tells p a) (leb_tells p b)
  where
    by : ((leb p a ≡ true) × (p ≤ a)) ⊎ ((leb p a ≡ false) × (a < p)) → ((leb p b ≡ true) × (p ≤ b)) ⊎ ((leb p b ≡ false) × (b < p))
        → leb p (max a b) ≡ (leb p a || leb p b)
    by (inl x) y = let le = x.1 in le-leb p (max a b) (omega (arith, le)) ∙ ap (λ c. c || leb p b) (sym x.0)
    by (inr x) (inl y) =
        let le = y.1 in
        le-leb p (max a b) (omega (arith, le)) ∙ sym (ap (λ c. c || leb p b) x.0 ∙ y.0)
    by (inr x) (inr y) =
        let l = x.1 in
        let r = y.1 in
        lt-leb p (max a b) (omega (arith, l, r)) ∙ sym (ap (λ c. c || leb p b) x.0 ∙ y.0)

-- ---- where an operation leads

-- a call, a `ret`, or a plain operation
pub leads_cases : (app : App) (o : Op) (f i : ℕ) (outer next : Position) (P : Op → Type 0)
    → (is_plain o ≡ true → GoesOnInside app f i outer next → P o)
    → ((g : ℕ) → o ≡ op.Invoke g → next ≡ place g 0 ∷ place f i ∷ outer → P o)
    → (o ≡ op.Return → GoesBack outer next → P o)
    → LeadsTo app o f i outer next → P o
leads_cases app (op.Invoke g) f i outer next P plain call ret l = call g refl l
leads_cases app op.Return f i outer next P plain call ret l = ret refl l
leads_cases app (op.Alu kind rd a b) f i outer next P plain call ret l = plain refl l
leads_cases app (op.AluImm kind rd a n) f i outer next P plain call ret l = plain refl l
leads_cases app (op.Lui rd n) f i outer next P plain call ret l = plain refl l
leads_cases app (op.Li rd v) f i outer next P plain call ret l = plain refl l
leads_cases app (op.FrameLoad rd word) f i outer next P plain call ret l = plain refl l
leads_cases app (op.FrameStore rs word) f i outer next P plain call ret l = plain refl l
leads_cases app (op.Load w rd y offset) f i outer next P plain call ret l = plain refl l
leads_cases app (op.Store w rs y offset) f i outer next P plain call ret l = plain refl l
leads_cases app (op.LoadAt w rd y index mask) f i outer next P plain call ret l = plain refl l
leads_cases app (op.StoreAt w rs y index mask) f i outer next P plain call ret l = plain refl l
leads_cases app (op.Branch kind a b k) f i outer next P plain call ret l = plain refl l
leads_cases app (op.Jump k) f i outer next P plain call ret l = plain refl l
leads_cases app (op.Serve call) f i outer next P plain call' ret l = plain refl l

-- ---- levels

-- the current priority of task t at the position is at least the static priority of task h
abbrev pub raised_at : Config → App → (h t : ℕ) → Position → Bool
raised_at config app h t at = leb (static_priority config h) (priority_at config app t at)

-- what an innermost function adds
pub raised_at_is : (config : Config) (app : App) (h t f i : ℕ) (outer : Position)
    → raised_at config app h t (place f i ∷ outer) ≡ (raised_at config app h t outer || leb (static_priority config h) (ceiling_before config app f i))
raised_at_is config app h t f i outer =
    let new = ceiling_before config app f i in
    let old = greatest (map (ceiling config) (held_list_along app outer)) in
    let e = ap greatest (map-append (ceiling config) (held_list_along app outer) (held_list_before app f i)) ∙ greatest-append (map (ceiling config) (held_list_along app outer)) (map (ceiling config) (held_list_before app f i)) in
    let same : priority_at config app t (place f i ∷ outer) ≡ max (priority_at config app t outer) new = grouped (static_priority config t) (greatest (map (ceiling config) (held_list_along app outer ++ held_list_before app f i))) old new (cond (declaration config t).non (highest_priority config) 0) e in
    ap (leb (static_priority config h)) same ∙ leb-max (static_priority config h) (priority_at config app t outer) new
  where
    grouped : (d all old new r : ℕ) → all ≡ max old new → max d (max all r) ≡ max (max d (max old r)) new
    grouped d all old new r e = omega (arith, e)

-- the level at which a function is called from a position
abbrev pub level_at : Config → App → (h t : ℕ) → Position → Option ℕ
level_at config app h t outer = called_level (raised_at config app h t outer) (Some (static_priority config h))

module _ (config : Config) (app : App) (h t : ℕ) where
  abbrev pub L : Position → Option ℕ
  L outer = level_at config app h t outer

  pub level_raised : (f i : ℕ) (outer : Position) → raised_at config app h t (place f i ∷ outer) ≡ is_raised config app (L outer) f i
  level_raised f i outer = raised_at_is config app h t f i outer ∙ by (raised_at config app h t outer)
    where
      by : (b : Bool) → (b || leb (static_priority config h) (ceiling_before config app f i))
          ≡ reaches_level (called_level b (Some (static_priority config h))) (ceiling_before config app f i)
      by true = refl
      by false = refl

  -- the level of what is called there
  pub level_called : (f i : ℕ) (outer : Position) → L (place f i ∷ outer) ≡ level_behind config app (L outer) f i
  level_called f i outer =
      ap (λ b. called_level b (Some (static_priority config h))) (raised_at_is config app h t f i outer) ∙ by (raised_at config app h t outer) (leb (static_priority config h) (ceiling_before config app f i)) refl
    where
      by : (b c : Bool) → leb (static_priority config h) (ceiling_before config app f i) ≡ c → called_level (b || c) (Some (static_priority config h))
          ≡ called_level (reaches_level (called_level b (Some (static_priority config h))) (ceiling_before config app f i)) (called_level b (Some (static_priority config h)))
      by true c e = refl
      by false c e = sym (ap (λ d. called_level d (Some (static_priority config h))) e)
