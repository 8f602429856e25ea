-- The arrivals that the end of a run leaves out.
use Rattle.std.proofs.Common.{◌≡◌, ℕ, ◌+◌, ◌<◌, ◌≤◌, List, [], ◌∷◌, refl, sym, ap, ◌∙◌, arith, Bool, true, false, cond, inl, inr, ⊎_elim}
use Rattle.std.specs.Prelude.{◌⊎◌, ◌&&◌, ◌==◌, not}
use Rattle.std.proofs.lemmas.Bool.{cases_lt, eq-eqb}
use Rattle.sloth_base.specs.declared.service.Arrival.{Arrival}
use Rattle.sloth_base.specs.declared.service.Stamped.{Stamped}
use Rattle.sloth_base.specs.Arrivals.{moments, AreRisingMoments}
use Rattle.sloth_base.specs.declared.config.Config.{Config}
use Rattle.osek_scheduler.specs.InTime.{is_admit, admits_at, arrivals_at, AreAllAdmitted, AreLeftOut, others, longest_cut_off_stretch}
use Rattle.std.specs.List.{AllByRecursion}
use Rattle.sim_induction.proofs.Events.{each_map}
use Rattle.std.proofs.lemmas.List.Elements.{All-from_recursion}
use Rattle.sim_induction.proofs.Counts.{arrivals-cons, not_here, arrivals_here, arrivals_none}

-- from one moment to below another nothing arrives, or there is a first moment at which something does
abbrev NoneIn : ℕ → ℕ → List Arrival → Type 0
NoneIn from to arrivals = (i t : ℕ) → from ≤ i → i < to → arrivals_at i t arrivals ≡ 0

record FirstIn (from to : ℕ) (arrivals : List Arrival) : Type 0 where
  at : ℕ
  is_in : (from ≤ at) × (at < to)
  none : NoneIn from at arrivals
  first : (t : ℕ) × (0 < arrivals_at at t arrivals)

none_yet : (from to before : ℕ) (arrivals : List Arrival) → AreRisingMoments before arrivals → to ≤ before → NoneIn from to arrivals
none_yet from to before [] up l i t a b = refl
none_yet from to before (x ∷ arrivals) up l i t a b = not_here i t x arrivals (λ e. let u = up.0 in omega arith) ∙ none_yet from to x.at arrivals up.1 (let u = up.0 in omega arith) i t a b

here_one : (x : Arrival) (arrivals : List Arrival) → 0 < arrivals_at x.at x.line (x ∷ arrivals)
here_one x arrivals =
    let c = arrivals-cons x.at x.line x arrivals in
    let d : ◌≡◌ {A = ℕ} (cond ((x.line == x.line) && (x.at == x.at)) 1 0) 1 = ap {A = Bool} {B = ℕ} (λ b. cond (b && (x.at == x.at)) 1 0) (eq-eqb x.line x.line refl) ∙ ap {A = Bool} {B = ℕ} (λ b. cond b 1 0) (eq-eqb x.at x.at refl) in
    let e : arrivals_at x.at x.line (x ∷ arrivals) ≡ 1 + arrivals_at x.at x.line arrivals = c ∙ ap (λ n. n + arrivals_at x.at x.line arrivals) d in
    omega arith

first_in : (from to before : ℕ) (arrivals : List Arrival) → AreRisingMoments before arrivals → NoneIn from to arrivals ⊎ FirstIn from to arrivals
first_in from to before [] up = inl (λ i t a b. refl)
first_in from to before (x ∷ arrivals) up =
    ⊎_elim
    (λ (l : x.at < from).
    ⊎_elim
    (λ (n : NoneIn from to arrivals). inl (λ i t a b. not_here i t x arrivals (λ e. omega arith) ∙ n i t a b))
    (λ (f : FirstIn from to arrivals). inr (record {
      at = f.at;
      is_in = f.is_in;
      none = λ i t a b. not_here i t x arrivals (λ e. omega arith) ∙ f.none i t a b;
      first = (f.first.0, (let q = f.is_in.0 in let w = f.first.1 in let z = not_here f.at f.first.0 x arrivals (λ e. omega arith) in omega arith));
    }))
    (first_in from to x.at arrivals up.1))
    (λ (l : from ≤ x.at).
    ⊎_elim
    (λ (u : x.at < to). inr (record { at = x.at; is_in = (l, u); none = none_yet from x.at x.at (x ∷ arrivals) (omega arith, up.1) (omega arith); first = (x.line, here_one x arrivals) }))
    (λ (u : to ≤ x.at). inl (none_yet from to x.at (x ∷ arrivals) (omega arith, up.1) u))
    (cases_lt x.at to))
    (cases_lt x.at from)

kept_other : (P : Stamped → Type 0) (b : Bool) (e : Stamped) (u : List Stamped) → (b ≡ false → P e) → AllByRecursion P u → AllByRecursion P (cond (not b) (e ∷ u) u)
kept_other P true e u h k = k
kept_other P false e u h k = (h refl, k)

each_other : (P : Stamped → Type 0) (es : List Stamped) → AllByRecursion (λ e. is_admit e ≡ false → P e) es → AllByRecursion P (others es)
each_other P [] h = tt
each_other P (e ∷ es) h = kept_other P (is_admit e) e (others es) h.0 (each_other P es h.1)

admitted_below : (to m : ℕ) (arrivals : List Arrival) (events : List Stamped) → ((i t : ℕ) → admits_at i t events ≡ arrivals_at i t (moments 0 to arrivals)) → NoneIn to m arrivals → AreAllAdmitted m arrivals events
admitted_below to m arrivals events counted none k t l =
    ⊎_elim
    (λ (u : k < to). counted k t ∙ arrivals_here k t to arrivals u)
    (λ (u : to ≤ k). counted k t ∙ arrivals_none k t to arrivals u ∙ sym (none k t u l))
    (cases_lt k to)

-- the arrivals below the moment `to` are admitted, and no later ones
pub left_out : (config : Config) (n to : ℕ) (arrivals : List Arrival) (events : List Stamped) → AreRisingMoments 0 arrivals → to ≤ n → ((i t : ℕ) → admits_at i t events ≡ arrivals_at i t (moments 0 to arrivals))
    → AllByRecursion (λ e. is_admit e ≡ false → e.stamp.at < to) events → n < to + longest_cut_off_stretch config events → AreAllAdmitted n arrivals events ⊎ ((k : ℕ) × AreLeftOut config n arrivals events k)
left_out config n to arrivals events up le counted ends short =
    ⊎_elim
    (λ (none : NoneIn to n arrivals). inl (admitted_below to n arrivals events counted none))
    (λ (f : FirstIn to n arrivals). inr (
      f.at,
      record {
        admits = admitted_below to f.at arrivals events counted f.none;
        leaves = λ k t l. counted k t ∙ arrivals_none k t to arrivals (let q = f.is_in.0 in omega arith);
        first = f.first;
        inside = f.is_in.1;
        behind = All-from_recursion (λ e. e.stamp.at < f.at) (others events)
            (each_other (λ e. e.stamp.at < f.at) events (each_map (λ e. is_admit e ≡ false → e.stamp.at < to) (λ e. is_admit e ≡ false → e.stamp.at < f.at) (λ e h o. let z = h o in let q = f.is_in.0 in omega arith) events ends));
        short = (let q = f.is_in in omega arith);
      },
    ))
    (first_in to n 0 arrivals up)
