-- Lengths grow with the set of long branches, and distances with them.
use Rattle.std.proofs.Common.{◌≡◌, ℕ, zero, suc, ◌+◌, ◌-◌, ◌*◌, ◌<◌, ◌≤◌, ⊎_elim, Bool, true, false, length, refl, ap, subst, arith}
use Rattle.std.specs.Prelude.{Option, Some, None}
use Rattle.std.proofs.lemmas.List.{get_or_past}
use Rattle.std.proofs.lemmas.Bool.{cases_lt}
use Rattle.sloth_base.specs.Named.{function}
use Rattle.sloth_base.specs.declared.app.App.{App}
use Rattle.sloth_base.specs.declared.app.Func.{Func}
use Rattle.sloth_base.specs.declared.app.Item.{Item}
use Rattle.sloth_base.specs.declared.app.Op.{Op}
use Rattle.sloth_base.specs.declared.app.Op.TheVariants as op
use Rattle.sloth_base.specs.Named.{item_of, no_item}
use Rattle.sloth_base.specs.Limits.{frame_limit}
use Rattle.rv32_expand.specs.Long.{BranchSet, size, size_at, place, target_of, IsNear, IsInSet}
use Rattle.rv32_expand.proofs.Counts.{size_few}

-- only the length of a branch depends on the set
pub size_alike : (app : App) (body : Func) (o : Op) → target_of body o ≡ None → (x y : Bool) → size app x o ≡ size app y o
unfolding size
size_alike app body (op.Alu kind rd rs1 rs2) e x y = refl
size_alike app body (op.AluImm kind rd rs1 number) e x y = refl
size_alike app body (op.Lui rd number) e x y = refl
size_alike app body (op.Li rd value) e x y = refl
size_alike app body (op.FrameLoad rd word) e x y = refl
size_alike app body (op.FrameStore rs word) e x y = refl
size_alike app body (op.Load w rd symbol offset) e x y = refl
size_alike app body (op.Store w rs symbol offset) e x y = refl
size_alike app body (op.LoadAt w rd symbol index mask) e x y = refl
size_alike app body (op.StoreAt w rs symbol index mask) e x y = refl
size_alike app body (op.Branch kind rs1 rs2 label) e x y = absurd cc
size_alike app body (op.Jump label) e x y = refl
size_alike app body (op.Invoke callee) e x y = refl
size_alike app body op.Return e x y = refl
size_alike app body (op.Serve call) e x y = refl

-- a long one is no shorter
size_grown : (app : App) (o : Op) → size app false o ≤ size app true o
unfolding size
size_grown app (op.Alu kind rd rs1 rs2) = omega arith
size_grown app (op.AluImm kind rd rs1 number) = omega arith
size_grown app (op.Lui rd number) = omega arith
size_grown app (op.Li rd value) = omega arith
size_grown app (op.FrameLoad rd word) = omega arith
size_grown app (op.FrameStore rs word) = omega arith
size_grown app (op.Load w rd symbol offset) = omega arith
size_grown app (op.Store w rs symbol offset) = omega arith
size_grown app (op.LoadAt w rd symbol index mask) = omega arith
size_grown app (op.StoreAt w rs symbol index mask) = omega arith
size_grown app (op.Branch kind rs1 rs2 label) = omega arith
size_grown app (op.Jump label) = omega arith
size_grown app (op.Invoke callee) = omega arith
size_grown app op.Return = omega arith
size_grown app (op.Serve call) = omega arith

module _ (app : App) (body : Func) (long : BranchSet) where
  -- the first item stands at the start
  pub place_first : place app body long 0 ≡ 0
  unfolding place
  place_first = refl

  -- the next one behind the instructions of the one before it
  pub place_next : (i : ℕ) → place app body long (i + 1) ≡ place app body long i + size_at app body long i
  unfolding place
  place_next i = let e : i + 1 ≡ suc i = omega arith in rw e refl

  -- later items stand no earlier
  pub place-later : (i k : ℕ) → place app body long i ≤ place app body long (i + k)
  place-later i zero = let e : i + 0 ≡ i = omega arith in rw e (omega arith)
  place-later i (suc k) =
      let e : i + suc k ≡ i + k + 1 = omega arith in
      rw e (let n = place_next (i + k) in let l = place-later i k in omega (arith, n, l))

  -- each item before it has at most 36 instructions
  pub place_few : ((func : ℕ) → (function app func).frame_words ≤ frame_limit) → (i : ℕ) → place app body long i ≤ 36 * i
  place_few frames zero = let f = place_first in omega (arith, f)
  place_few frames (suc i) =
      let e : suc i ≡ i + 1 = omega arith in
      rw e (let n = place_next i in let l = place_few frames i in let w = size_few app frames (long i) (item_of body i).op in omega (arith, n, l, w.few))

module _ (app : App) (body : Func) (a b : BranchSet) (within : IsInSet body a b) where
  grown : (i : ℕ) → i < length body.items → (x y : Bool) → a i ≡ x → b i ≡ y → size app x (item_of body i).op ≤ size app y (item_of body i).op
  grown i h true true u v = omega arith
  grown i h false false u v = omega arith
  grown i h false true u v = size_grown app (item_of body i).op
  grown i h true false u v = by (target_of body (item_of body i).op) refl
    where
      by : (o : Option ℕ) → target_of body (item_of body i).op ≡ o → size app true (item_of body i).op ≤ size app false (item_of body i).op
      by (Some t) e = absurd (let w = within i t (record { inside = h; goes = e }) u in cc)
      by None e = let s = size_alike app body (item_of body i).op e true false in omega (arith, s)

  length-grown : (i : ℕ) → size_at app body a i ≤ size_at app body b i
  length-grown i =
      ⊎_elim
      (λ h. grown i h (a i) (b i) refl refl)
      (λ (h : length body.items ≤ i). let t = beyond h in
      let e = size_alike app body (item_of body i).op t (a i) (b i) in omega (arith, e))
      (cases_lt i (length body.items))
    where
      -- behind the last item there is no branch
      beyond : length body.items ≤ i → target_of body (item_of body i).op ≡ None
      beyond h = ap (λ (x : Item). target_of body x.op) (get_or_past body.items i no_item h)

  -- from an item to a later one it is no farther with the smaller set
  pub span-grown : (i k : ℕ) → place app body b i + place app body a (i + k) ≤ place app body a i + place app body b (i + k)
  span-grown i zero = let e : i + 0 ≡ i = omega arith in rw e (omega arith)
  span-grown i (suc k) =
      let e : i + suc k ≡ i + k + 1 = omega arith in
      rw e (let m = place_next app body a (i + k) in let n = place_next app body b (i + k) in
      let l = length-grown (i + k) in let s = span-grown i k in omega (arith, m, n, l, s))

  -- what is near with the larger set is near with the smaller one
  pub near-stays : (i t : ℕ) → IsNear app body b i t → IsNear app body a i t
  near-stays i t near =
      ⊎_elim
      (λ h. let e : i + (t - i) ≡ t = omega arith in
      let s = subst (λ (x : ℕ). place app body b i + place app body a x ≤ place app body a i + place app body b x) e (span-grown i (t - i)) in
      let l = subst (λ (x : ℕ). place app body a i ≤ place app body a x) e (place-later app body a i (t - i)) in
      (omega (arith, s, l, near.0), omega (arith, s, l)))
      (λ h. let e : t + (i - t) ≡ i = omega arith in
      let s = subst (λ (x : ℕ). place app body b t + place app body a x ≤ place app body a t + place app body b x) e (span-grown t (i - t)) in
      let l = subst (λ (x : ℕ). place app body a t ≤ place app body a x) e (place-later app body a t (i - t)) in
      (omega (arith, s, l), omega (arith, s, l, near.1)))
      (cases_lt i t)
