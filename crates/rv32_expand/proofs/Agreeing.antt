-- Addresses that agree with the lengths of items tell which branches are long.
use Rattle.std.proofs.Common.{◌≡◌, ◌∙◌, ℕ, zero, suc, ◌+◌, ◌*◌, ◌<◌, ◌≤◌, Bool, true, false, ltb, length, refl, sym, ap, arith}
use Rattle.std.specs.Prelude.{Option, Some, None, nat_lt}
use Rattle.std.proofs.lemmas.Bool.{ltb-true, ltb-false}
use Rattle.sloth_base.specs.Named.{function}
use Rattle.sloth_base.specs.declared.app.App.{App}
use Rattle.sloth_base.specs.declared.app.Func.{Func}
use Rattle.sloth_base.specs.declared.app.Op.{Op}
use Rattle.sloth_base.specs.declared.app.Op.TheVariants as op
use Rattle.sloth_base.specs.declared.limits.Places.{Places}
use Rattle.sloth_base.specs.Named.{item_of}
use Rattle.rv32_expand.specs.Expansion.{item_address, is_long, expansion}
use Rattle.sloth_base.specs.Named.{operation}
use Rattle.rv32_expand.specs.InPlace.{IsAppItem}
use Rattle.rv32_expand.specs.Long.{BranchSet, size, size_at, place, target_of, IsBranchTo, IsInBranchReach, AreLongBranches}
use Rattle.rv32_expand.specs.Sizes.{AgreeWithSizes}
use Rattle.rv32_expand.proofs.Counts.{size_is}
use Rattle.rv32_expand.proofs.Growth.{place_first, place_next, size_alike}

abbrev one_or_six : Bool → ℕ
one_or_six true = 6
one_or_six false = 1

-- a branch has one instruction or six
branch_size : (app : App) (body : Func) (o : Op) (target : ℕ) → target_of body o ≡ Some target → (long : Bool) → size app long o ≡ one_or_six long
unfolding size
branch_size app body (op.Branch kind rs1 rs2 label) target e true = refl
branch_size app body (op.Branch kind rs1 rs2 label) target e false = refl
branch_size app body (op.Alu kind rd rs1 rs2) target e long = absurd cc
branch_size app body (op.AluImm kind rd rs1 number) target e long = absurd cc
branch_size app body (op.Lui rd number) target e long = absurd cc
branch_size app body (op.Li rd value) target e long = absurd cc
branch_size app body (op.FrameLoad rd word) target e long = absurd cc
branch_size app body (op.FrameStore rs word) target e long = absurd cc
branch_size app body (op.Load w rd symbol offset) target e long = absurd cc
branch_size app body (op.Store w rs symbol offset) target e long = absurd cc
branch_size app body (op.LoadAt w rd symbol index mask) target e long = absurd cc
branch_size app body (op.StoreAt w rs symbol index mask) target e long = absurd cc
branch_size app body (op.Jump label) target e long = absurd cc
branch_size app body (op.Invoke callee) target e long = absurd cc
branch_size app body op.Return target e long = absurd cc
branch_size app body (op.Serve call) target e long = absurd cc

-- sets that agree on the branches
module _ (app : App) (body : Func) (a b : BranchSet) (same : (index target : ℕ) → IsBranchTo body index target → a index ≡ b index) where
  -- then each item has one length
  pub size_same : (i : ℕ) → i < length body.items → size_at app body a i ≡ size_at app body b i
  size_same i h = by (target_of body (item_of body i).op) refl
    where
      by : (t : Option ℕ) → target_of body (item_of body i).op ≡ t → size_at app body a i ≡ size_at app body b i
      by (Some t) e = ap (λ (long : Bool). size app long (item_of body i).op) (same i t (record { inside = h; goes = e }))
      by None e = size_alike app body (item_of body i).op e (a i) (b i)

  place_same : (i : ℕ) → i ≤ length body.items → place app body a i ≡ place app body b i
  place_same zero h = place_first app body a ∙ sym (place_first app body b)
  place_same (suc i) h =
      let e : suc i ≡ i + 1 = omega arith in
      rw e (let m = place_next app body a i in let n = place_next app body b i in let s = size_same i (omega arith) in let p = place_same i (omega arith) in omega (arith, m, n, s, p))

  -- and if one of them is the least, so is the other
  pub least_same : ((index target : ℕ) → IsBranchTo body index target → target ≤ length body.items) → AreLongBranches app body a → AreLongBranches app body b
  least_same inside l = record {
    suffices = λ i t g e.
        let n = l.suffices i t g (same i t g ∙ e) in
        let from = g.inside in
        let p = place_same i (omega arith) in
        let q = place_same t (inside i t g) in
        (omega (arith, n.0, p, q), omega (arith, n.1, p, q));
    least = λ other s i t g e. l.least other s i t g (same i t g ∙ e);
  }

module _ (app : App) (places : Places) (agree : AgreeWithSizes app places) (func : ℕ) (declared : func < length app.funcs) where
  abbrev body : Func
  body = function app func

  -- the set that the addresses tell
  abbrev pub long : BranchSet
  long = agree.are_sizes.long func

  item : (i : ℕ) → i < length body.items → IsAppItem app func i
  item i h = record { declared = declared; inside = h }

  -- the next item
  next : (i : ℕ) → i + 1 < length body.items → item_address places func (i + 1) ≡ item_address places func i + 4 * size_at app body long i
  next i h =
      let a = agree.adjacent func i (item i (omega arith)) (item (i + 1) h) in
      let s = agree.are_sizes.each func i (item i (omega arith)) in
      a ∙ ap (λ (n : ℕ). item_address places func i + 4 * n) s

  -- an item stands behind all the instructions before it
  pub stands : (i : ℕ) → i < length body.items → item_address places func i ≡ item_address places func 0 + 4 * place app body long i
  stands zero h = let f = place_first app body long in omega (arith, f)
  stands (suc i) h =
      let e : suc i ≡ i + 1 = omega arith in
      let below : i + 1 < length body.items = omega arith in
      rw e (let n = place_next app body long i in let l = stands i (omega arith) in let a = next i below in omega (arith, n, l, a))

  -- the addresses tell which branches are long
  tells : (x : Bool) (n : ℕ) → (b : Bool) → ltb (n + 4) (n + 4 * one_or_six x) ≡ b → b ≡ x
  tells true n true e = refl
  tells false n false e = refl
  tells true n false e = absurd (let l = ltb-false (n + 4) (n + 4 * 6) e in omega arith)
  tells false n true e = absurd (let l = ltb-true (n + 4) (n + 4 * 1) e in omega arith)

  -- a branch is long by the addresses where it is in the set
  pub told : (i target : ℕ) → IsBranchTo body i target → i + 1 < length body.items → is_long places func i ≡ long i
  told i target g h =
      let s = branch_size app body (item_of body i).op target g.goes (long i) in
      ap (λ (n : ℕ). nat_lt (item_address places func i + 4) n) (next i h ∙ ap (λ (n : ℕ). item_address places func i + 4 * n) s)
      ∙ tells (long i) (item_address places func i) (ltb (item_address places func i + 4) (item_address places func i + 4 * one_or_six (long i))) refl

  -- with the addresses a short branch reaches
  pub reaches : (i target : ℕ) → IsBranchTo body i target → target < length body.items → long i ≡ false
      → IsInBranchReach (item_address places func i) (item_address places func target)
  reaches i target g h e =
      let near = (agree.are_sizes.least func declared).suffices i target g e in
      let a = stands i g.inside in
      let b = stands target h in
      (omega (arith, a, b, near.0), omega (arith, a, b, near.1))

  -- each item stands behind the instructions of the one before it
  pub adjacent : (i : ℕ) → i + 1 < length body.items → item_address places func (i + 1) ≡ item_address places func i + 4 * length (expansion app places func i)
  adjacent i h =
      next i h ∙ ap (λ (n : ℕ). item_address places func i + 4 * n)
      (by (target_of body (operation app func i)) refl ∙ sym (size_is app places func (item_address places func i) (is_long places func i) (operation app func i)))
    where
      by : (t : Option ℕ) → target_of body (operation app func i) ≡ t → size app (long i) (operation app func i) ≡ size app (is_long places func i) (operation app func i)
      by (Some t) e = ap (λ (x : Bool). size app x (operation app func i)) (sym (told i t (record { inside = omega arith; goes = e }) h))
      by None e = size_alike app body (operation app func i) e (long i) (is_long places func i)
