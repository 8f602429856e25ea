-- Places of task code, and the rules that are broken there.
use Rattle.std.specs.Prelude.{ℕ, ◌<◌, ◌≡◌, length}
use Rattle.sloth_base.specs.declared.config.Config.{Config}
use Rattle.sloth_base.specs.declared.app.App.{App}
use Rattle.sloth_base.specs.declared.refusal.Code.TheVariants as code
use Rattle.sloth_base.specs.declared.refusal.Part.TheVariants as part
use Rattle.sloth_base.specs.declared.refusal.Refusal.{Refusal}
use Rattle.sloth_base.specs.Named.{function, item_of, label_of}
use Rattle.code_rules.specs.WellFormed.{IsBreach, HasOtherList}
use Rattle.fault_witnesses.specs.declared.breaches.Place.{Place}
use Rattle.fault_witnesses.specs.declared.breaches.Place.TheVariants as place

-- the task code has this place
abbrev pub IsPlace : App → Place → Type 0
IsPlace app (place.Header b) = b < length app.funcs
IsPlace app (place.Label b k) = (b < length app.funcs) × (k < length (function app b).labels)
IsPlace app (place.Item b i) = (b < length app.funcs) × (i < length (function app b).items)

-- its line in the source
abbrev pub line_of_place : App → Place → ℕ
line_of_place app (place.Header b) = (function app b).line
line_of_place app (place.Label b k) = (label_of (function app b) k).line
line_of_place app (place.Item b i) = (item_of (function app b) i).line

-- the refusal's rule, one of V2 to V12, is broken at the place
abbrev pub IsBrokenAt : Config → App → Refusal → Place → Type 0
IsBrokenAt config app r (place.Header b) = (r.code ≡ code.V5) × (length (function app b).items ≡ 0)
IsBrokenAt config app r (place.Label b k) = (r.code ≡ code.V7) × HasOtherList (function app b) k
IsBrokenAt config app r (place.Item b i) = IsBreach config app b i r.code

-- the place of a fault that is refused so
pub record IsPlaceOfFault (config : Config) (app : App) (r : Refusal) (p : Place) : Type 0 where
  pub is_place : IsPlace app p
  pub part : r.part ≡ part.Src
  pub line : r.line ≡ line_of_place app p
  pub broken : IsBrokenAt config app r p
