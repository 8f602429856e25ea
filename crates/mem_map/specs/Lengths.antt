-- How long the code of an image is.
use Rattle.std.specs.Prelude.{ℕ, ◌<◌, ◌≡◌, cond, length, get_or}
use Rattle.sloth_base.specs.Blocks.{block_count}
use Rattle.sloth_base.specs.declared.app.App.{App}
use Rattle.sloth_base.specs.declared.config.Config.{Config}
use Rattle.code_lengths.specs.CodeLengths.{boot_length, tick_length, block_length, IsPrologueLength}
use Rattle.rv32_expand.specs.Sizes.{AreItemSizes}
use Rattle.mem_map.specs.declared.all_lengths.CodeLengths.{CodeLengths}
use Rattle.mem_map.specs.Wanted.{is_wanted}

-- what the code at a place in the table of blocks has: nothing where no item calls it
abbrev pub wanted_length : App → ℕ → ℕ
wanted_length app number = cond (is_wanted number app) (block_length number) 0

-- The lengths are those of the table, each piece's own: boot, a prologue for each task, a tick for each counter, the services that items call, and the items.
pub record AreLengths (config : Config) (app : App) (lengths : CodeLengths) : Type 0 where
  pub boot : lengths.boot ≡ boot_length config.tasks (length config.counters)
  pub prologues : length lengths.prologues ≡ length config.tasks
  pub each_prologue : (t : ℕ) → t < length config.tasks → IsPrologueLength t config app (get_or lengths.prologues t 0)
  pub ticks : length lengths.ticks ≡ length config.counters
  pub each_tick : (c : ℕ) → c < length config.counters → get_or lengths.ticks c 0 ≡ tick_length c config.alarms
  pub services : length lengths.services ≡ block_count
  pub each_service : (number : ℕ) → number < block_count → get_or lengths.services number 0 ≡ wanted_length app number
  pub items : AreItemSizes app lengths.items
