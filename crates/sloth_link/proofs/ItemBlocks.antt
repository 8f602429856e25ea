-- Each item is among the blocks of items, with its own mark.
use Rattle.std.proofs.Common.{◌≡◌, ◌+◌, ℕ, [], ◌∷◌, length, get_or, refl, sym, ap, ◌∙◌, subst, arith}
use Rattle.std.specs.Prelude.{All, Contains}
use Rattle.std.proofs.lemmas.List.Elements.{All-nil, All-cons, Contains-get_or}
use Rattle.sloth_base.specs.declared.app.App.{App}
use Rattle.sloth_base.specs.declared.image.Mark.{Mark}
use Rattle.sloth_base.specs.declared.image.MarkKind.{MarkKind}
use Rattle.sloth_base.specs.declared.image.MarkKind.TheVariants as kind
use Rattle.sloth_base.specs.declared.limits.Places.{Places}
use Rattle.rv32_instr.specs.declared.block.Block.{Block}
use Rattle.rv32_expand.specs.InPlace.{IsAppItem, IsOfItem, item_mark}
use Rattle.rv32_expand.specs.Sizes.{items_before}
use Rattle.sloth_link.specs.Items.{IsOwnMark, MarksAreOfItems, item_block, item_blocks}
use Rattle.sloth_link.proofs.Counting.{Located, located, before_within, block_at, length_blocks}

of_fact : (k : MarkKind) (Fact : Type 0) → Fact → IsOfItem k Fact
of_fact kind.Item Fact f = f
of_fact kind.Jump Fact f = f
of_fact kind.Opening Fact f = tt
of_fact kind.Idle Fact f = tt
of_fact kind.Back Fact f = tt

abbrev no_block : Block
no_block = record { at = 0; code = []; marks = [] }

module _ (app : App) (places : Places) where
  -- an item's block is one of them
  pub item_among : (func index : ℕ) → IsAppItem app func index → Contains (item_blocks app places (length app.funcs)) (item_block app places func index)
  item_among func index is =
      let long = length_blocks app places (length app.funcs) in
      let within = before_within app.funcs (length app.funcs) func index is.declared is.inside in
      let k : ℕ = items_before app.funcs func + index in
      let here = Contains-get_or (item_blocks app places (length app.funcs)) k no_block (omega (arith, long, within)) in
      subst (Contains (item_blocks app places (length app.funcs))) (block_at app places (length app.funcs) func index no_block is.declared is.inside) here

  with_one : (b : Block) (m : Mark) → b.marks ≡ m ∷ [] → IsOwnMark app places m → MarksAreOfItems app places b
  with_one b m e o = subst (All (IsOwnMark app places)) (sym e) (All-cons (IsOwnMark app places) m [] o (All-nil (IsOwnMark app places)))

  -- and the marks of each are those of items
  pub items_own : All (MarksAreOfItems app places) (item_blocks app places (length app.funcs))
  items_own = λ k d l.
      let long = length_blocks app places (length app.funcs) in
      let at : Located app.funcs (length app.funcs) k = located app.funcs (length app.funcs) k (omega (arith, l, long)) in
      let is : IsAppItem app at.func at.index = record { declared = at.declared; inside = at.inside } in
      let block : get_or (item_blocks app places (length app.funcs)) k d ≡ item_block app places at.func at.index =
      ap (λ j. get_or (item_blocks app places (length app.funcs)) j d) at.is ∙ block_at app places (length app.funcs) at.func at.index d at.declared at.inside in
      let m : Mark = item_mark app places at.func at.index in
      subst (MarksAreOfItems app places) (sym block)
      (with_one (item_block app places at.func at.index) m refl (of_fact m.kind (IsAppItem app m.b m.c × (m ≡ item_mark app places m.b m.c)) (is, refl)))
