-- Where parts may begin: the test tells it of items that walks reach.
use Rattle.std.proofs.Common.{◌≡◌, ℕ, ◌+◌, ◌-◌, ◌<◌, Bool, true, false, ltb, ◌&&◌, length, get_or, refl, ap, sym, ◌∙◌, subst, arith}
use Rattle.std.proofs.lemmas.Bool.{false≢true, and_parts, lt-ltb, ltb-true, le-leb, leb-true}
use Rattle.sloth_base.specs.declared.config.Config.{Config}
use Rattle.sloth_base.specs.declared.app.App.{App}
use Rattle.sloth_base.specs.Named.{function, operation, item_of}
use Rattle.bound_rules.specs.declared.bound.Body.{Body}
use Rattle.walk_sums.specs.KnownBodies.{IsKnownBody}
use Rattle.walk_sums.specs.declared.levels.Kind.{Kind}
use Rattle.walk_sums.specs.declared.levels.Kind.TheVariants as kinds
use Rattle.walk_sums.specs.Rounds.{is_wait}
use Rattle.walk_sums.specs.Kinds.{StandsBehindWait, MayBegin, is_behind_wait, may_begin}

module _ (config : Config) (app : App) where
  behind_there : (f : ℕ) → f < length app.funcs → (body : Body) → IsKnownBody config app f body → (i : ℕ) → i < length (function app f).items
      → is_behind_wait (function app f) body.reached i ≡ true → StandsBehindWait app f i
  behind_there f known body is i lt e =
      let front = and_parts (ltb 0 i) (get_or body.reached (i - 1) false && is_wait (operation app f (i - 1))) e in
      let rest = and_parts (get_or body.reached (i - 1) false) (is_wait (operation app f (i - 1))) front.1 in
      let some = ltb-true 0 i front.0 in
      record {
        wait = i - 1;
        next = omega (arith, some);
        reached = (is.reached (i - 1)).0 rest.0;
        item = record { known = known; inside = omega (arith, lt); is = refl };
        waits = rest.1;
      }

  behind_marked : (f : ℕ) (body : Body) → IsKnownBody config app f body → (i : ℕ) → StandsBehindWait app f i → is_behind_wait (function app f) body.reached i ≡ true
  behind_marked f body is i s =
      subst (λ k. is_behind_wait (function app f) body.reached k ≡ true) (sym s.next)
      (marked (get_or body.reached (s.wait + 1 - 1) false) (is_wait (operation app f (s.wait + 1 - 1))) (lt-ltb 0 (s.wait + 1) (omega arith))
      (ap (λ k. get_or body.reached k false) same ∙ (is.reached s.wait).1 s.reached) (ap (λ k. is_wait (operation app f k)) same ∙ s.waits))
    where
      same : s.wait + 1 - 1 ≡ s.wait
      same = omega arith

      marked : (b c : Bool) → ltb 0 (s.wait + 1) ≡ true → b ≡ true → c ≡ true → (ltb 0 (s.wait + 1) && (b && c)) ≡ true
      marked b c x y z = ap (λ v. v && (b && c)) x ∙ ap (λ v. v && c) y ∙ z

  abbrev operation_line : (f i : ℕ) → ℕ
  operation_line f i = (item_of (function app f) i).line

  pub begins_there : (kind : Kind) (f : ℕ) → f < length app.funcs → (body : Body) → IsKnownBody config app f body → (i : ℕ) → i < length (function app f).items
      → may_begin kind (function app f) body.reached i ≡ true → MayBegin app kind f i
  begins_there kinds.Turns f known body is i lt e = absurd (false≢true e)
  begins_there kinds.Rounds f known body is i lt e = behind_there f known body is i lt e
  begins_there kinds.Sections f known body is i lt e = tt
  begins_there (kinds.EarlySections line) f known body is i lt e = leb-true (operation_line f i) line e
  begins_there (kinds.Uncleared events) f known body is i lt e = behind_there f known body is i lt e

  pub begins_marked : (kind : Kind) (f : ℕ) → f < length app.funcs → (body : Body) → IsKnownBody config app f body → (i : ℕ) → i < length (function app f).items
      → MayBegin app kind f i → may_begin kind (function app f) body.reached i ≡ true
  begins_marked kinds.Turns f known body is i lt e = absurd e
  begins_marked kinds.Rounds f known body is i lt e = behind_marked f body is i e
  begins_marked kinds.Sections f known body is i lt e = refl
  begins_marked (kinds.EarlySections line) f known body is i lt e = le-leb (operation_line f i) line e
  begins_marked (kinds.Uncleared events) f known body is i lt e = behind_marked f body is i e
