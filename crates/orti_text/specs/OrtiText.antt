-- What the command `orti` writes.
use Rattle.std.specs.Prelude.{ℕ, ◌≡◌, List, Some}
use Rattle.sloth_base.specs.declared.app.App.{App}
use Rattle.sloth_base.specs.declared.config.Config.{Config}
use Rattle.sloth_base.specs.declared.limits.Bounds.{Bounds}
use Rattle.sloth_region.specs.declared.region.Map.{Map}
use Rattle.code_rules.specs.WellFormed.{WellFormed}
use Rattle.stack_bounds.specs.Bounds.{AreBounds}
use Rattle.mem_map.specs.Planned.{IsPlanned}
use Rattle.sloth_source.specs.Texts.{AreAccepted}
use Rattle.orti_text.specs.OrtiTable.{orti_table}
use Rattle.orti_text.specs.TableReading.{read_file}
use Rattle.orti_text.specs.Tables.{table_text}

-- this is the file of the map that is planned for task code
pub record HasTable (config : Config) (app : App) (bounds : Bounds) (text : List ℕ) : Type 0 where
  pub plan : Map
  pub planned : IsPlanned config app bounds plan
  pub is : text ≡ table_text (orti_table config plan)

-- the texts are accepted, and this is the file of what they mean
pub record IsOrtiText (oil src text : List ℕ) : Type 0 where
  pub config : Config
  pub app : App
  pub accepted : AreAccepted oil src config app
  pub well_formed : WellFormed config app
  pub bounds : Bounds
  pub are_bounds : AreBounds config app bounds
  pub has_table : HasTable config app bounds text

-- texts have one file at most
abbrev pub OneText : Type 0
OneText = (oil src one other : List ℕ) → IsOrtiText oil src one → IsOrtiText oil src other → one ≡ other

-- the file is read as the table that it is the text of
abbrev pub FilesReadBack : Type 0
FilesReadBack = (oil src text : List ℕ) (h : IsOrtiText oil src text) → read_file text ≡ Some (orti_table h.config h.has_table.plan)
