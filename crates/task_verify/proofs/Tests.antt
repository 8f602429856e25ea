-- The tests decide the rules.
use Rattle.std.proofs.Common.{◌≡◌, ℕ, suc, ◌+◌, ◌%◌, ◌<◌, ◌≤◌, ◌⊎◌, inl, inr, Bool, true, false, ◌||◌, ◌&&◌, not, List, [], ◌∷◌, length, get_or, Option, Some, None, refl, sym, ap, subst, arith}
use Rattle.std.specs.Prelude.{◌==◌, ◌≢◌, nat_lt, nat_le, is_some, is_none}
use Rattle.std.specs.Bool.{Decides}
use Rattle.std.proofs.lemmas.Bool.{true≢false, false≢true, leb-true, le-leb, ne_eqb}
use Rattle.std.proofs.lemmas.Bool.Decides.{Decides-and, Decides-or, Decides-not, Decides-ltb, Decides-like, Decides-eqb}
use Rattle.sloth_base.specs.declared.config.Config.{Config}
use Rattle.sloth_base.specs.declared.app.App.{App}
use Rattle.sloth_base.specs.declared.app.Func.{Func}
use Rattle.sloth_base.specs.declared.app.Op.{Op}
use Rattle.sloth_base.specs.declared.app.Op.TheVariants as op
use Rattle.sloth_base.specs.declared.service.Service.{Service}
use Rattle.sloth_base.specs.declared.service.Service.TheVariants as service
use Rattle.sloth_base.specs.Arithmetic.{size_of}
use Rattle.sloth_base.specs.Named.{item_of, label_of, symbol_size}
use Rattle.sloth_base.specs.Limits.{mask_limit}
use Rattle.code_rules.specs.AppRange.{AppInRange, IsOp}
use Rattle.code_rules.specs.Code.{is_followed, way, IsEnding, IsPausing, is_in, is_last}
use Rattle.code_rules.specs.WellFormed.{IsAccessPast, IsUneven, IsMaskPast, IsRunOut, IsWrongRelease, IsSecondTake, IsLeaveWithResource, IsWrongLeave}
use Rattle.call_graph.specs.declared.lists.Ranks.{Ranks}
use Rattle.call_graph.specs.Bits.{is_member}
use Rattle.call_graph.specs.Ranks.{RanksOf}
use Rattle.call_graph.specs.Rows.{is_get, is_pausing}
use Rattle.call_graph.proofs.Itself.{get_is, pausing_is, is_pausing_of}
use Rattle.task_verify.specs.Tests.{is_access_past, is_uneven, is_mask_past, is_label_past, is_run_out, is_ending, is_release, is_any_held, is_wrong_release, is_second_take, is_leave_with_resource, is_wrong_leave}
use Rattle.task_verify.specs.Uses.{OperandsOf}
use Rattle.task_verify.specs.Ways.{HasBodyLabel}
use Rattle.task_verify.proofs.Lists.{number_among, among_number}

pub none : Decides false ⊥
none = (λ e. absurd (false≢true e), λ x. absurd x)

pub itself : (b : Bool) → Decides b (b ≡ true)
itself b = (λ e. e, λ e. e)

pub is_false : (b : Bool) → Decides (not b) (b ≡ false)
is_false true = (λ e. absurd (false≢true e), λ e. absurd (true≢false e))
is_false false = (λ e. refl, λ e. refl)

leb_decides : (a b : ℕ) → Decides (nat_le a b) (a ≤ b)
leb_decides a b = (leb-true a b, le-leb a b)

pub differs_decides : (a b : ℕ) → Decides (not (a == b)) (a ≢ b)
differs_decides a b = Decides-not (a == b) (Decides-eqb a b)

-- ---- accesses

pub Decides-is_access_past : (app : App) (f : Func) (o : Op) → Decides (is_access_past app f o) (IsAccessPast app f o)
Decides-is_access_past app f (op.FrameLoad rd word) = leb_decides f.frame_words word
Decides-is_access_past app f (op.FrameStore rs word) = leb_decides f.frame_words word
Decides-is_access_past app f (op.Load w rd y offset) = Decides-ltb (symbol_size app y) (offset + size_of w)
Decides-is_access_past app f (op.Store w rs y offset) = Decides-ltb (symbol_size app y) (offset + size_of w)
Decides-is_access_past app f _ = none

pub Decides-is_uneven : (o : Op) → Decides (is_uneven o) (IsUneven o)
Decides-is_uneven (op.Load w rd y offset) = differs_decides (offset % size_of w) 0
Decides-is_uneven (op.Store w rs y offset) = differs_decides (offset % size_of w) 0
Decides-is_uneven (op.LoadAt w rd y index mask) = differs_decides (mask % size_of w) 0
Decides-is_uneven (op.StoreAt w rs y index mask) = differs_decides (mask % size_of w) 0
Decides-is_uneven _ = none

mask_decides : (app : App) (mask y w : ℕ) → Decides (nat_lt mask_limit mask || nat_lt (symbol_size app y) (mask + w)) ((mask_limit < mask) ⊎ (symbol_size app y < mask + w))
mask_decides app mask y w = Decides-or (nat_lt mask_limit mask) (nat_lt (symbol_size app y) (mask + w)) (Decides-ltb mask_limit mask) (Decides-ltb (symbol_size app y) (mask + w))

pub Decides-is_mask_past : (app : App) (o : Op) → Decides (is_mask_past app o) (IsMaskPast app o)
Decides-is_mask_past app (op.LoadAt w rd y index mask) = mask_decides app mask y (size_of w)
Decides-is_mask_past app (op.StoreAt w rs y index mask) = mask_decides app mask y (size_of w)
Decides-is_mask_past app _ = none

-- ---- ways out

abbrev LeadsOut : Func → Option ℕ → Type 0
LeadsOut f o = (k : ℕ) × (o ≡ Some k) × (length f.items ≤ (label_of f k).item)

Decides-is_label_past : (f : Func) (o : Option ℕ) → Decides (is_label_past f o) (LeadsOut f o)
Decides-is_label_past f None = (λ e. absurd (false≢true e), λ x. let e = x.1 in absurd cc)
Decides-is_label_past f (Some k) = (
  λ e. (k, refl, leb-true (length f.items) (label_of f k).item e),
  λ x. let e : k ≡ x.0 = cc in le-leb (length f.items) (label_of f k).item (subst (λ (n : ℕ). length f.items ≤ (label_of f n).item) (sym e) x.2),
)

pub Decides-is_run_out : (f : Func) (i : ℕ) → Decides (is_run_out f i) (IsRunOut f i)
Decides-is_run_out f i =
    let o = (item_of f i).op in
    Decides-like (is_run_out f i) to from
    (Decides-or (is_followed o && nat_le (length f.items) (i + 1)) (is_label_past f (way o))
    (Decides-and (is_followed o) (nat_le (length f.items) (i + 1)) (itself (is_followed o)) (leb_decides (length f.items) (i + 1)))
    (Decides-is_label_past f (way o)))
  where
    to : ((is_followed (item_of f i).op ≡ true) × (length f.items ≤ i + 1)) ⊎ LeadsOut f (way (item_of f i).op) → IsRunOut f i
    to (inl a) = (i + 1, inl (a.0, refl), a.1)
    to (inr b) = ((label_of f b.0).item, inr (b.0, b.1, refl), b.2)

    from : IsRunOut f i → ((is_followed (item_of f i).op ≡ true) × (length f.items ≤ i + 1)) ⊎ LeadsOut f (way (item_of f i).op)
    from (j, inl a, l) = inl (a.0, subst (λ (x : ℕ). length f.items ≤ x) a.1 l)
    from (j, inr b, l) = inr (b.0, b.1, subst (λ (x : ℕ). length f.items ≤ x) b.2 l)

-- ---- services

Decides-is_ending : (s : Service) → Decides (is_ending s) (IsEnding s)
Decides-is_ending s = (of s, by)
  where
    of : (s : Service) → is_ending s ≡ true → IsEnding s
    of service.TerminateTask e = inl refl
    of service.ChainTask e = inr refl
    of _ e = absurd (false≢true e)

    by : IsEnding s → is_ending s ≡ true
    by (inl e) = ap is_ending e
    by (inr e) = ap is_ending e

Decides-is_pausing : (s : Service) → Decides (is_pausing s) (IsPausing s)
Decides-is_pausing s = (pausing_is s, is_pausing_of s)

Decides-is_get : (s : Service) → Decides (is_get s) (s ≡ service.GetResource)
Decides-is_get s = (get_is s, λ e. ap is_get e)

Decides-is_release : (s : Service) → Decides (is_release s) (s ≡ service.ReleaseResource)
Decides-is_release s = (of s, λ e. ap is_release e)
  where
    of : (s : Service) → is_release s ≡ true → s ≡ service.ReleaseResource
    of service.ReleaseResource e = refl
    of _ e = absurd (false≢true e)

Decides-is_any_held : (held : List ℕ) → Decides (is_any_held held) (held ≢ [])
Decides-is_any_held [] = (λ e. absurd (false≢true e), λ n. absurd (n refl))
Decides-is_any_held (x ∷ held) = (λ e f. cc, λ n. let l : suc (length held) ≢ 0 = omega arith in ap not (ne_eqb (suc (length held)) 0 l))

-- ---- held resources

pub Decides-is_wrong_release : (held : List ℕ) (o : Op) → Decides (is_wrong_release held o) (IsWrongRelease held o)
Decides-is_wrong_release held (op.Serve call) =
    Decides-and (is_release call.service) (not (is_last call.object held)) (Decides-is_release call.service) (is_false (is_last call.object held))
Decides-is_wrong_release held _ = none

pub Decides-is_wrong_leave : (f : Func) (o : Op) → Decides (is_wrong_leave f o) (IsWrongLeave f o)
Decides-is_wrong_leave f (op.Serve call) = Decides-and (is_ending call.service) (is_none f.task) (Decides-is_ending call.service) (missing f.task)
  where
    missing : (o : Option ℕ) → Decides (is_none o) (o ≡ None)
    missing None = (λ e. refl, λ e. refl)
    missing (Some t) = (λ e. absurd (false≢true e), λ e. absurd cc)
Decides-is_wrong_leave f op.Return = given f.task
  where
    given : (o : Option ℕ) → Decides (is_some o) ((t : ℕ) × (o ≡ Some t))
    given None = (λ e. absurd (false≢true e), λ x. let e = x.1 in absurd cc)
    given (Some t) = (λ e. (t, refl), λ x. refl)
Decides-is_wrong_leave f _ = none

module _ (config : Config) (app : App) (ranks : Ranks) (in_range : AppInRange config app) (belong : RanksOf app ranks) where
  pub Decides-is_second_take : (f : Func) (held : List ℕ) (o : Op) → IsOp config app f o → Decides (is_second_take ranks held o) (IsSecondTake app held o)
  Decides-is_second_take f held (op.Serve call) is = Decides-and (is_get call.service) (is_in call.object held) (Decides-is_get call.service) (itself (is_in call.object held))
  Decides-is_second_take f held (op.Invoke g) is =
      let test : ℕ → Bool = λ r. is_member (get_or ranks.resources g 0) r in (
        λ e. let x = number_among test held e in (x.0, (belong.resources g x.0 is.0).0 x.1, x.2),
        λ x. among_number test held x.0 ((belong.resources g x.0 is.0).1 x.1) x.2,
      )
  Decides-is_second_take f held _ is = none

  pub Decides-is_leave_with_resource : (f : Func) (held : List ℕ) (o : Op) → IsOp config app f o → Decides (is_leave_with_resource ranks held o) (IsLeaveWithResource app held o)
  Decides-is_leave_with_resource f held (op.Serve call) is =
      Decides-and (is_ending call.service || is_pausing call.service) (is_any_held held)
      (Decides-or (is_ending call.service) (is_pausing call.service) (Decides-is_ending call.service) (Decides-is_pausing call.service))
      (Decides-is_any_held held)
  Decides-is_leave_with_resource f held op.Return is = Decides-is_any_held held
  Decides-is_leave_with_resource f held (op.Invoke g) is =
      Decides-and (get_or ranks.pauses g false) (is_any_held held) (belong.pauses g is.0) (Decides-is_any_held held)
  Decides-is_leave_with_resource f held _ is = none

-- ---- what is in range

pub leads : (config : Config) (app : App) (f : Func) (o : Op) → IsOp config app f o → HasBodyLabel f o
leads config app f (op.Branch kind a b l) is k e = let same : l ≡ k = cc in subst (λ (n : ℕ). n < length f.labels) same is.2
leads config app f (op.Jump l) is k e = let same : l ≡ k = cc in subst (λ (n : ℕ). n < length f.labels) same is
leads config app f _ is k e = absurd cc

pub operands : (config : Config) (app : App) (f : Func) (o : Op) → IsOp config app f o → OperandsOf config o
operands config app f (op.Serve call) is = is
operands config app f _ is = tt
