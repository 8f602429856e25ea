-- An item behind which the next one follows is one of ten.
use Rattle.std.proofs.Common.{◌≡◌, ℕ, ℤ, refl}
use Rattle.sloth_base.specs.declared.app.App.{App}
use Rattle.sloth_base.specs.declared.app.Op.{Op}
use Rattle.sloth_base.specs.declared.app.Op.TheVariants as op
use Rattle.sloth_base.specs.declared.app.AluKind.{AluKind}
use Rattle.sloth_base.specs.declared.app.ImmKind.{ImmKind}
use Rattle.sloth_base.specs.declared.app.Width.{Width}
use Rattle.sloth_base.specs.declared.image.MarkKind.TheVariants as kind
use Rattle.rv32_expand.specs.InPlace.{result_register, mark_of}
use Rattle.sim_items.specs.Place.{IsStraight}

-- what is so of each of the ten
pub record OfEachStraight (app : App) (func : ℕ) (P : Op → Type 0) : Type 0 where
  pub registers : (kind : AluKind) (rd rs1 rs2 : ℕ) → IsStraight app func (op.Alu kind rd rs1 rs2) → P (op.Alu kind rd rs1 rs2)
  pub number : (kind : ImmKind) (rd rs1 : ℕ) (number : ℤ) → IsStraight app func (op.AluImm kind rd rs1 number) → P (op.AluImm kind rd rs1 number)
  pub upper : (rd number : ℕ) → IsStraight app func (op.Lui rd number) → P (op.Lui rd number)
  pub constant : (rd value : ℕ) → IsStraight app func (op.Li rd value) → P (op.Li rd value)
  pub frame_load : (rd word : ℕ) → IsStraight app func (op.FrameLoad rd word) → P (op.FrameLoad rd word)
  pub frame_store : (rs word : ℕ) → IsStraight app func (op.FrameStore rs word) → P (op.FrameStore rs word)
  pub load : (w : Width) (rd y offset : ℕ) → IsStraight app func (op.Load w rd y offset) → P (op.Load w rd y offset)
  pub store : (w : Width) (rs y offset : ℕ) → IsStraight app func (op.Store w rs y offset) → P (op.Store w rs y offset)
  pub load_at : (w : Width) (rd y index mask : ℕ) → IsStraight app func (op.LoadAt w rd y index mask) → P (op.LoadAt w rd y index mask)
  pub store_at : (w : Width) (rs y index mask : ℕ) → IsStraight app func (op.StoreAt w rs y index mask) → P (op.StoreAt w rs y index mask)

-- It is so of every item behind which the next one follows.
pub straight_cases : (app : App) (func : ℕ) (P : Op → Type 0) → OfEachStraight app func P → (operation : Op) → IsStraight app func operation → P operation
straight_cases app func P each (op.Alu kind rd rs1 rs2) h = each.registers kind rd rs1 rs2 h
straight_cases app func P each (op.AluImm kind rd rs1 number) h = each.number kind rd rs1 number h
straight_cases app func P each (op.Lui rd number) h = each.upper rd number h
straight_cases app func P each (op.Li rd value) h = each.constant rd value h
straight_cases app func P each (op.FrameLoad rd word) h = each.frame_load rd word h
straight_cases app func P each (op.FrameStore rs word) h = each.frame_store rs word h
straight_cases app func P each (op.Load w rd y offset) h = each.load w rd y offset h
straight_cases app func P each (op.Store w rs y offset) h = each.store w rs y offset h
straight_cases app func P each (op.LoadAt w rd y index mask) h = each.load_at w rd y index mask h
straight_cases app func P each (op.StoreAt w rs y index mask) h = each.store_at w rs y index mask h
straight_cases app func P each (op.Branch kind rs1 rs2 label) h = absurd h
straight_cases app func P each (op.Jump label) h = absurd h
straight_cases app func P each (op.Invoke callee) h = absurd h
straight_cases app func P each op.Return h = absurd h
straight_cases app func P each (op.Serve call) h = absurd h

-- its mark shows its Run event
pub mark_shows : (app : App) (func address index : ℕ) (operation : Op) → IsStraight app func operation
    → mark_of operation address func index ≡ record { address = address; kind = kind.Item; a = result_register operation; b = func; c = index }
mark_shows app func address index =
    straight_cases app func (λ o. mark_of o address func index ≡ record { address = address; kind = kind.Item; a = result_register o; b = func; c = index })
    (record {
      registers = λ kind rd rs1 rs2 h. refl;
      number = λ kind rd rs1 number h. refl;
      upper = λ rd number h. refl;
      constant = λ rd value h. refl;
      frame_load = λ rd word h. refl;
      frame_store = λ rs word h. refl;
      load = λ w rd y offset h. refl;
      store = λ w rs y offset h. refl;
      load_at = λ w rd y index mask h. refl;
      store_at = λ w rs y index mask h. refl;
    })
