-- Items that stand are in place.
use Rattle.std.proofs.Common.{◌≡◌, ℕ, List, [], length, get_or, sym, ap, subst, ◌∙◌, arith}
use Rattle.std.proofs.Math.ListN.{get_or-map, length-map}
use Rattle.sloth_base.specs.Named.{declaration, undeclared_task}
use Rattle.sloth_base.specs.declared.config.TaskDecl.{TaskDecl}
use Rattle.sloth_base.specs.Named.{operation}
use Rattle.rv32_expand.specs.Expansion.{item_address, is_long}
use Rattle.rv32_expand.specs.InPlace.{IsBodyName}
use Rattle.rv32_expand.proofs.Agreeing.{adjacent}
use Rattle.rv32_expand.proofs.Counts.{expanded_some}
use Rattle.rv32_expand.proofs.Verified.{least_told}
use Rattle.rv32_expand.specs.InPlace.{ItemsInPlace}
use Rattle.rv32_expand.specs.Sizes.{AgreeWithSizes}
use Rattle.code_rules.specs.WellFormed.{WellFormed}
use Rattle.sloth_base.specs.declared.app.App.{App}
use Rattle.sloth_base.specs.declared.config.Config.{Config}
use Rattle.sloth_base.specs.declared.image.Image.{Image}
use Rattle.sloth_base.specs.declared.limits.Places.{Places}
use Rattle.sloth_link.specs.Standing.{HasItemsInPlace, HasNames}

abbrev name_of : TaskDecl → List ℕ
name_of d = d.name

-- items that stand, at addresses that agree with their lengths, are in place in an image that has the names
abbrev pub items_are_placed : (image : Image) (config : Config) (app : App) (places : Places) → WellFormed config app → AgreeWithSizes app places
    → HasItemsInPlace app places image.memory image.marks → HasNames image config app → ItemsInPlace image config app
items_are_placed image config app places well agree stand names = record {
  places = places;
  code = stand.code;
  inside = λ func index is.
      let i = stand.inside func index is in
      let some = expanded_some app places func (item_address places func index) (is_long places func index) (operation app func index) in
      (omega (arith, i.0), omega (arith, i.1, some));
  adjacent = λ func index is next. adjacent app places agree func is.declared index next.inside;
  least = λ func l. least_told app (config, well) places agree func l;
  marked = stand.marked;
  only = stand.only;
  functions = names.functions;
  tasks = names.tasks;
  bodies = λ task l.
      let same = names.tasks in
      let n : length image.tasks ≡ length config.tasks = ap length same ∙ length-map config.tasks name_of in
      let is : get_or image.tasks task [] ≡ (declaration config task).name = ap (λ (names : List (List ℕ)). get_or names task []) same ∙ get_or-map name_of config.tasks task undeclared_task in
      subst (IsBodyName app task) (sym is) (names.bodies task (omega (arith, n, l)));
}
