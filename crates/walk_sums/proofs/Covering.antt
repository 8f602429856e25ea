-- A part from an item that walks reach is no larger than some part from the first item, or from where parts may begin.
use Rattle.std.proofs.Common.{◌≡◌, ℕ, suc, ◌+◌, ◌≤◌, ◌⊎◌, inl, inr, Bool, true, false, List, Option, Some, None, refl, ap, sym, ◌∙◌, subst, arith, ⊎_elim}
use Rattle.std.proofs.lemmas.Bool.{false≢true}
use Rattle.sloth_base.specs.declared.config.Config.{Config}
use Rattle.sloth_base.specs.declared.app.App.{App}
use Rattle.sloth_base.specs.declared.app.Op.{Op}
use Rattle.sloth_base.specs.declared.app.Op.TheVariants as op
use Rattle.sloth_base.specs.Named.{function, operation}
use Rattle.sloth_base.specs.Limits.{size_limit}
use Rattle.code_rules.specs.Code.{IsPathStep, way}
use Rattle.bound_rules.specs.declared.bound.BodyWeights.{BodyWeights}
use Rattle.bound_rules.specs.Weights.{going_weight}
use Rattle.walk_sums.specs.Activations.{level_behind, IsInnerStep, ReachesItem, reaches_first, reaches_inside, reaches_behind, ReachesCall}
use Rattle.walk_sums.specs.declared.levels.Kind.{Kind}
use Rattle.walk_sums.specs.declared.levels.Kind.TheVariants as kinds
use Rattle.walk_sums.specs.Rounds.{is_wait}
use Rattle.walk_sums.specs.Kinds.{stops, MayBegin}
use Rattle.walk_sums.specs.Weights.{AreWeightless, SmallEndings}
use Rattle.walk_sums.specs.Parts.{IsOpenStep, SumsBack, SumsOn, SumsOut, SumsWithin, back_returns, back_inside, back_passes, on_ends, on_inside, on_enters, on_passes, out_here, out_behind, within_here, within_called, within_behind}
use Rattle.walk_sums.specs.Known.{SumsAny, endless_kind, IsEndless, IsSummed}

-- a WaitEvent leads to the next item alone
no_way : (o : Op) (k : ℕ) → is_wait o ≡ true → way o ≡ Some k → ⊥
no_way (op.Serve call) k e w = cc
no_way _ k e w = false≢true e

pub waits_next : (app : App) (f i j : ℕ) → is_wait (operation app f i) ≡ true → IsPathStep (function app f) i j → j ≡ i + 1
waits_next app f i j e (inl g) = g.1
waits_next app f i j e (inr g) = absurd (no_way (operation app f i) g.0 e g.1)

module _ (config : Config) (app : App) (weights : List BodyWeights) (kind : Kind) where
  abbrev Any : (level : Option ℕ) → (f n : ℕ) → Type 0
  Any level f n = (k : ℕ) × SumsAny config app weights kind level f k × (n ≤ k)

  -- behind each operation that stops parts may begin
  abbrev Resumes : Type 0
  Resumes = (f i j : ℕ) → ReachesItem app f i → IsInnerStep app f i j → stops kind (operation app f i) ≡ true → MayBegin app kind f j

  module _ (resumes : Resumes) where
    stop_here : (f i j : ℕ) (s : IsInnerStep app f i j) → stops kind s.operation ≡ true → stops kind (operation app f i) ≡ true
    stop_here f i j s e = ap (stops kind) s.item.is ∙ e

    abbrev Back : (g m : ℕ) → Type 0
    Back g m = SumsBack config app weights kind None g 0 m ⊎ SumsOut config app weights kind None g m

    back_all : (g q k : ℕ) → ReachesItem app g q → SumsBack config app weights kind None g q k → (m : ℕ) × Back g m
    back_all g q k (reaches_first h) part = (k, inl part)
    back_all g q k (reaches_inside h i j r s) part = by (stops kind s.operation) refl (λ more. back_all h i (going_weight weights h i + k) r more)
      where
        by : (b : Bool) → stops kind s.operation ≡ b → (SumsBack config app weights kind None h i (going_weight weights h i + k) → (m : ℕ) × Back h m) → (m : ℕ) × Back h m
        by false e again = again (back_inside None h i j k (record { step = s; no_stop = e; raised = refl }) part)
        by true e again = (k, inr (out_here None h j k (reaches_inside h i j r s) (resumes h i j r s (stop_here h i j s e)) part))
    back_all g q k (reaches_behind h i c p r call inner ret) part =
        by (back_all c p (going_weight weights c p) inner (back_returns None c p ret refl)) (λ m more. back_all h i (going_weight weights h i + (m + k)) r more)
      where
        by : (m : ℕ) × Back c m → ((m : ℕ) → SumsBack config app weights kind None h i (going_weight weights h i + (m + k)) → (n : ℕ) × Back h n) → (n : ℕ) × Back h n
        by (m, inl b) again = again m (back_passes None h i c m k (record { item = call; raised = refl }) b part)
        by (m, inr o) again = (m + k, inr (out_behind None h i c m k (record { reached = r; item = call }) o part))

    on_all : (f i n : ℕ) → ReachesItem app f i → SumsOn config app weights kind None f i n → Any None f n
    on_all f i n (reaches_first h) part = (n, inl part, omega arith)
    on_all f i n (reaches_inside h k j r s) part = by (stops kind s.operation) refl (λ more. on_all h k (going_weight weights h k + n) r more)
      where
        by : (b : Bool) → stops kind s.operation ≡ b → (SumsOn config app weights kind None h k (going_weight weights h k + n) → Any None h (going_weight weights h k + n)) → Any None h n
        by false e again =
            let more = again (on_inside None h k j n (record { step = s; no_stop = e; raised = refl }) part) in
            let le = more.2 in
            (more.0, more.1, omega (arith, le))
        by true e again = (n, inr (within_here None h j n (reaches_inside h k j r s) (resumes h k j r s (stop_here h k j s e)) part), omega arith)
    on_all f i n (reaches_behind h k c p r call inner ret) part =
        by (back_all c p (going_weight weights c p) inner (back_returns None c p ret refl)) (λ m more. on_all h k (going_weight weights h k + (m + n)) r more)
      where
        by : (m : ℕ) × Back c m → ((m : ℕ) → SumsOn config app weights kind None h k (going_weight weights h k + (m + n)) → Any None h (going_weight weights h k + (m + n))) → Any None h n
        by (m, inl b) again =
            let more = again m (on_passes None h k c m n (record { item = call; raised = refl }) b part) in
            let le = more.2 in
            (more.0, more.1, omega (arith, le))
        by (m, inr o) again = (m + n, inr (within_behind None h k c m n (record { reached = r; item = call }) o part), omega arith)

  -- ---- weights that are 0 where parts go on

  module _ (none : AreWeightless weights) (small : SmallEndings weights) where
    back_nothing : (level : Option ℕ) (f i n : ℕ) → SumsBack config app weights kind level f i n → n ≡ 0
    back_nothing level f i n (back_returns l g k item raised) = none g k
    back_nothing level f i n (back_inside l g k j m p further) = let e = none g k in let z = back_nothing l g j m further in omega (arith, e, z)
    back_nothing level f i n (back_passes l a k g m q e inner further) =
        let w = none a k in let z = back_nothing None g 0 m inner in let y = back_nothing l a (k + 1) q further in omega (arith, w, z, y)

    on_little : (level : Option ℕ) (f i n : ℕ) → SumsOn config app weights kind level f i n → n ≤ size_limit
    on_little level f i n (on_ends l g k item raised) = small g k
    on_little level f i n (on_inside l g k j m p further) = let e = none g k in let z = on_little l g j m further in omega (arith, e, z)
    on_little level f i n (on_enters l a k g m e inner) = let w = none a k in let z = on_little None g 0 m inner in omega (arith, w, z)
    on_little level f i n (on_passes l a k g m q e inner further) =
        let w = none a k in let z = back_nothing None g 0 m inner in let y = on_little l a (k + 1) q further in omega (arith, w, z, y)

    out_nothing : (level : Option ℕ) (f n : ℕ) → SumsOut config app weights kind level f n → n ≡ 0
    out_nothing level f n (out_here l g i k r may b) = back_nothing l g i k b
    out_nothing level f n (out_behind l a i g k m c inner b) =
        let z = out_nothing (level_behind config app l a i) g k inner in let y = back_nothing l a (i + 1) m b in omega (arith, z, y)

    within_little : (level : Option ℕ) (f n : ℕ) → SumsWithin config app weights kind level f n → n ≤ size_limit
    within_little level f n (within_here l g i k r may part) = on_little l g i k part
    within_little level f n (within_called l a i g k c inner) = within_little (level_behind config app l a i) g k inner
    within_little level f n (within_behind l a i g k m c inner part) =
        let z = out_nothing (level_behind config app l a i) g k inner in let y = on_little l a (i + 1) m part in omega (arith, z, y)

    pub any_little : (level : Option ℕ) (f n : ℕ) → SumsAny config app weights kind level f n → n ≤ size_limit
    any_little level f n (inl on) = on_little level f 0 n on
    any_little level f n (inr within) = within_little level f n within

-- ---- kinds

-- parts of sections that begin early go on as those of all sections
same_stops : (k : Kind) (o : Op) → stops (endless_kind k) o ≡ stops k o
same_stops kinds.Turns o = refl
same_stops kinds.Rounds o = refl
same_stops kinds.Sections o = refl
same_stops (kinds.EarlySections line) o = refl
same_stops (kinds.Uncleared events) o = refl

module _ (config : Config) (app : App) (weights : List BodyWeights) (kind : Kind) where
  open_step : (level : Option ℕ) (f i j : ℕ) → IsOpenStep config app kind level f i j → IsOpenStep config app (endless_kind kind) level f i j
  open_step level f i j s = record { step = s.step; no_stop = same_stops kind s.step.operation ∙ s.no_stop; raised = s.raised }

  back_ever : (level : Option ℕ) (f i n : ℕ) → SumsBack config app weights kind level f i n → SumsBack config app weights (endless_kind kind) level f i n
  back_ever level f i n (back_returns l g k item raised) = back_returns l g k item raised
  back_ever level f i n (back_inside l g k j m p further) = back_inside l g k j m (open_step l g k j p) (back_ever l g j m further)
  back_ever level f i n (back_passes l a k g m q e inner further) = back_passes l a k g m q e (back_ever None g 0 m inner) (back_ever l a (k + 1) q further)

  on_ever : (level : Option ℕ) (f i n : ℕ) → SumsOn config app weights kind level f i n → SumsOn config app weights (endless_kind kind) level f i n
  on_ever level f i n (on_ends l g k item raised) = on_ends l g k item raised
  on_ever level f i n (on_inside l g k j m p further) = on_inside l g k j m (open_step l g k j p) (on_ever l g j m further)
  on_ever level f i n (on_enters l a k g m e inner) = on_enters l a k g m e (on_ever None g 0 m inner)
  on_ever level f i n (on_passes l a k g m q e inner further) = on_passes l a k g m q e (back_ever None g 0 m inner) (on_ever l a (k + 1) q further)

resumes_turns : (app : App) (config : Config) (weights : List BodyWeights) → Resumes config app weights kinds.Turns
resumes_turns app config weights f i j r s e = absurd (false≢true e)

resumes_rounds : (app : App) (config : Config) (weights : List BodyWeights) → Resumes config app weights kinds.Rounds
resumes_rounds app config weights f i j r s e = record {
  wait = i;
  next = waits_next app f i j e s.goes_on;
  reached = r;
  item = record { known = s.item.known; inside = s.item.inside; is = refl };
  waits = e;
}

module _ (config : Config) (app : App) (weights : List BodyWeights) where
  -- where parts from a reached item have no limit
  pub covered : (kind : Kind) (level : Option ℕ) (f : ℕ) → IsSummed weights kind level → (n i k : ℕ) → ReachesItem app f i → SumsOn config app weights kind level f i k → n ≤ k
      → ((m : ℕ) → (q : ℕ) × SumsOn config app weights kind level f i q × (m ≤ q)) → (q : ℕ) × SumsAny config app weights (endless_kind kind) level f q × (n ≤ q)
  covered kind level f (inl is) n i k r part le more =
      (k, inr (within_here level f i k r (subst (λ v. MayBegin app v f i) (sym is) tt) (on_ever config app weights kind level f i k part)), le)
  covered kind level f (inr (inl (is, by))) n i k r part le more = at is
    where
      any : Any config app weights (endless_kind kind) None f k
      any = ⊎_elim
          (λ e. subst (λ v. Any config app weights (endless_kind v) None f k) (sym e) (on_all config app weights kinds.Turns (resumes_turns app config weights) f i k r (subst (λ v. SumsOn config app weights v None f i k) e here)))
          (λ e. subst (λ v. Any config app weights (endless_kind v) None f k) (sym e) (on_all config app weights kinds.Rounds (resumes_rounds app config weights) f i k r (subst (λ v. SumsOn config app weights v None f i k) e here)))
          by
        where
          here : SumsOn config app weights kind None f i k
          here = subst (λ l. SumsOn config app weights kind l f i k) is part

      at : level ≡ None → (q : ℕ) × SumsAny config app weights (endless_kind kind) level f q × (n ≤ q)
      at e =
          let least = any.2 in
          (any.0, subst (λ l. SumsAny config app weights (endless_kind kind) l f any.0) (sym e) any.1, omega (arith, least, le))
  covered kind level f (inr (inr (none, small))) n i k r part le more =
      let large = more (suc size_limit) in
      let little = on_little config app weights kind none small level f i large.0 large.1 in
      let above = large.2 in
      absurd (omega (arith, little, above))

  -- where those of a function that is called have none
  pub covered_call : (kind : Kind) (level : Option ℕ) (f : ℕ) → IsSummed weights kind level → (i g : ℕ) → ReachesCall app f i g → IsEndless config app weights kind (level_behind config app level f i) g
      → IsEndless config app weights kind level f
  covered_call kind level f summed i g c endless n = by summed (endless n)
    where
      inside : (k : ℕ) → SumsWithin config app weights (endless_kind kind) (level_behind config app level f i) g k → n ≤ k
          → (q : ℕ) × SumsAny config app weights (endless_kind kind) level f q × (n ≤ q)
      inside k part le = (k, inr (within_called level f i g k c part), le)

      by : IsSummed weights kind level → (k : ℕ) × SumsAny config app weights (endless_kind kind) (level_behind config app level f i) g k × (n ≤ k)
          → (q : ℕ) × SumsAny config app weights (endless_kind kind) level f q × (n ≤ q)
      by s (k, inr within, le) = inside k within le
      by (inl is) (k, inl on, le) =
          inside k (within_here (level_behind config app level f i) g 0 k (reaches_first g) (subst (λ v. MayBegin app v g 0) (sym is) tt) on) le
      by (inr (inl (is, either))) (k, inl on, le) =
          let none : level_behind config app level f i ≡ None = ap (λ l. level_behind config app l f i) is in
          let inner = subst (λ l. SumsOn config app weights (endless_kind kind) l g 0 k) none on in
          let part = on_enters None f i g k (record { item = c.item; raised = refl }) inner in
          enters (going_weight weights f i + k) part (omega (arith, le))
        where
          enters : (m : ℕ) → SumsOn config app weights (endless_kind kind) None f i m → n ≤ m → (q : ℕ) × SumsAny config app weights (endless_kind kind) level f q × (n ≤ q)
          enters m part le =
              let any = ⊎_elim
              (λ e. subst (λ v. Any config app weights (endless_kind v) None f m) (sym e) (on_all config app weights kinds.Turns (resumes_turns app config weights) f i m c.reached (subst (λ v. SumsOn config app weights (endless_kind v) None f i m) e part)))
              (λ e. subst (λ v. Any config app weights (endless_kind v) None f m) (sym e) (on_all config app weights kinds.Rounds (resumes_rounds app config weights) f i m c.reached (subst (λ v. SumsOn config app weights (endless_kind v) None f i m) e part)))
              either in
              let least = any.2 in
              (any.0, subst (λ l. SumsAny config app weights (endless_kind kind) l f any.0) (sym is) any.1, omega (arith, least, le))
      by (inr (inr (none, small))) (k, inl on, le) =
          let large = endless (suc size_limit) in
          let little = any_little config app weights (endless_kind kind) none small (level_behind config app level f i) g large.0 large.1 in
          let above = large.2 in
          absurd (omega (arith, little, above))
