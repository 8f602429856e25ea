-- What the tests of items say of what a function does itself.
use Rattle.std.proofs.Common.{◌≡◌, ℕ, zero, suc, ◌<◌, ◌⊎◌, inl, inr, ⊎_elim, Bool, true, List, [], ◌∷◌, length, get_or, Some, None, Option, refl, sym, ap, ◌∙◌, arith}
use Rattle.std.specs.Prelude.{◌==◌}
use Rattle.std.specs.Bool.{Decides}
use Rattle.std.specs.List.{list_any}
use Rattle.std.proofs.lemmas.Bool.{false≢true, eqb-true, eq-eqb, cases_eq, or_cases, and_parts, or_left, or_right}
use Rattle.std.proofs.lemmas.List.{get_or_default}
use Rattle.std.proofs.lemmas.List.Folds.{list_any_at}
use Rattle.sloth_base.specs.declared.app.App.{App}
use Rattle.sloth_base.specs.declared.app.Func.{Func}
use Rattle.sloth_base.specs.declared.app.Item.{Item}
use Rattle.sloth_base.specs.declared.app.Op.{Op}
use Rattle.sloth_base.specs.declared.app.Op.TheVariants as op
use Rattle.sloth_base.specs.declared.service.Service.{Service}
use Rattle.sloth_base.specs.declared.service.Service.TheVariants as service
use Rattle.sloth_base.specs.Named.{function, no_function, no_item}
use Rattle.sloth_base.specs.Options.{is_number}
use Rattle.code_rules.specs.Code.{IsItem, service_op, HasCall, IsPausing}
use Rattle.call_graph.specs.Rows.{is_call, is_get, is_taking, is_pausing, is_pause}
use Rattle.call_graph.specs.Reached.{any_below, func_of, is_direct_call, is_direct_taking, is_direct_pause}

-- ---- some item, some number

pub item_found : (p : Item → Bool) (items : List Item) → list_any p items ≡ true → (i : ℕ) × (i < length items) × (p (get_or items i no_item) ≡ true)
item_found p [] h = absurd (false≢true h)
item_found p (x ∷ items) h = ⊎_elim
    (λ a. (0, omega arith, a))
    (λ b. let r = item_found p items b in (suc r.0, omega (arith, r.1), r.2))
    (or_cases (p x) (list_any p items) h)

pub number_found : (test : ℕ → Bool) (n : ℕ) → any_below n test ≡ true → (i : ℕ) × (i < n) × (test i ≡ true)
number_found test zero h = absurd (false≢true h)
number_found test (suc n) h = ⊎_elim
    (λ a. let r = number_found test n a in (r.0, omega (arith, r.1), r.2))
    (λ b. (n, omega arith, b))
    (or_cases (any_below n test) (test n) h)

last_or_before : (i n : ℕ) → i < suc n → (i ≡ n) ⊎ (i < n)
last_or_before i n l = ⊎_elim inl (λ ne. inr (omega (arith, l, ne))) (cases_eq i n)

pub number_counts : (test : ℕ → Bool) (n i : ℕ) → i < n → test i ≡ true → any_below n test ≡ true
number_counts test zero i l h = absurd (omega (arith, l))
number_counts test (suc n) i l h = ⊎_elim
    (λ e. or_right (any_below n test) (test n) (ap test (sym e) ∙ h))
    (λ before. or_left (any_below n test) (test n) (number_counts test n i before h))
    (last_or_before i n l)

-- ---- operations

call_is : (g : ℕ) (o : Op) → is_call g o ≡ true → o ≡ op.Invoke g
call_is g (op.Invoke h) e = ap (λ x. op.Invoke x) (eqb-true h g e)
call_is g _ e = absurd (false≢true e)

pub get_is : (s : Service) → is_get s ≡ true → s ≡ service.GetResource
get_is service.GetResource e = refl
get_is _ e = absurd (false≢true e)

taking_is : (r : ℕ) (o : Op) → is_taking r o ≡ true → (mask : ℕ) × (o ≡ service_op service.GetResource r mask)
taking_is r (op.Serve call) e =
    let parts = and_parts (is_get call.service) (call.object == r) e in (
      call.mask,
      ap (λ s. service_op s call.object call.mask) (get_is call.service parts.0) ∙ ap (λ x. service_op service.GetResource x call.mask) (eqb-true call.object r parts.1),
    )
taking_is r _ e = absurd (false≢true e)

pub pausing_is : (s : Service) → is_pausing s ≡ true → IsPausing s
pausing_is service.WaitEvent e = inl refl
pausing_is service.Schedule e = inr refl
pausing_is _ e = absurd (false≢true e)

pub is_pausing_of : (s : Service) → IsPausing s → is_pausing s ≡ true
is_pausing_of s (inl e) = ap is_pausing e
is_pausing_of s (inr e) = ap is_pausing e

pause_is : (o : Op) → is_pause o ≡ true → (s : Service) × (object : ℕ) × (mask : ℕ) × (o ≡ service_op s object mask) × IsPausing s
pause_is (op.Serve call) e = (call.service, call.object, call.mask, refl, pausing_is call.service e)
pause_is _ e = absurd (false≢true e)

-- ---- functions

module _ (app : App) (f : ℕ) (known : f < length app.funcs) where
  pub Decides-calls : (g : ℕ) → Decides (is_direct_call (function app f) g) (HasCall app f g)
  Decides-calls g = (
    λ h. let r = item_found (λ item. is_call g item.op) (function app f).items h in (r.0, record { known = known; inside = r.1; is = call_is g _ r.2 }),
    λ c. list_any_at (λ item. is_call g item.op) (function app f).items c.0 no_item c.1.inside (ap (is_call g) c.1.is ∙ eq-eqb g g refl),
  )

  pub takes_are : (r : ℕ) → is_direct_taking (function app f) r ≡ true → (i : ℕ) × (mask : ℕ) × IsItem app f i (service_op service.GetResource r mask)
  takes_are r h =
      let x = item_found (λ item. is_taking r item.op) (function app f).items h in
      let y = taking_is r _ x.2 in (x.0, y.0, record { known = known; inside = x.1; is = y.1 })

  pub are_takes : (r i mask : ℕ) → IsItem app f i (service_op service.GetResource r mask) → is_direct_taking (function app f) r ≡ true
  are_takes r i mask is =
      list_any_at (λ item. is_taking r item.op) (function app f).items i no_item is.inside (ap (is_taking r) is.is ∙ eq-eqb r r refl)

  pub pauses_are : is_direct_pause (function app f) ≡ true
      → (i : ℕ) × (s : Service) × (object : ℕ) × (mask : ℕ) × IsItem app f i (service_op s object mask) × IsPausing s
  pauses_are h =
      let x = item_found (λ item. is_pause item.op) (function app f).items h in
      let y = pause_is _ x.2 in (x.0, y.0, y.1, y.2, record { known = known; inside = x.1; is = y.3 }, y.4)

  pub are_pauses : (i object mask : ℕ) (s : Service) → IsItem app f i (service_op s object mask) → IsPausing s → is_direct_pause (function app f) ≡ true
  are_pauses i object mask s is pauses =
      list_any_at (λ item. is_pause item.op) (function app f).items i no_item is.inside (ap is_pause is.is ∙ is_pausing_of s pauses)

pub body_is : (t : ℕ) (o : Option ℕ) → is_number t o ≡ true → o ≡ Some t
body_is t None e = absurd (false≢true e)
body_is t (Some u) e = ap (λ x. Some x) (eqb-true u t e)

pub is_body : (t : ℕ) (o : Option ℕ) → o ≡ Some t → is_number t o ≡ true
is_body t o e = ap (is_number t) e ∙ eq-eqb t t refl

pub func_is : (funcs : List Func) (i : ℕ) (f : Func) → i < length funcs → f ≡ get_or funcs i f → f ≡ func_of funcs i
func_is funcs i f l e = e ∙ get_or_default funcs i f no_function l
