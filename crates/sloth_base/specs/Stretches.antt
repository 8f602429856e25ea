-- How long generated code may keep interrupts masked, and how many lines it may touch, by how it begins.
use Rattle.std.specs.Prelude.{ℕ, ◌+◌, ◌*◌, ◌==◌, if◌then◌else◌, Option, Some, None}
use Rattle.sloth_base.specs.declared.config.Config.{Config}
use Rattle.sloth_base.specs.declared.numbers.LineKind.{LineKind}
use Rattle.sloth_base.specs.declared.numbers.LineKind.TheVariants as line_of
use Rattle.sloth_base.specs.declared.numbers.Step.{Step}
use Rattle.sloth_base.specs.Owners.{line_kind, owners_in}
use Rattle.sloth_base.specs.Named.{alarms_of, most_alarms}
use Rattle.sloth_base.specs.Limits.{stretch_instructions, alarm_instructions, boot_instructions}

-- how a stretch begins: boot at count 0, with the taking of a line, or with the instruction that masks interrupts
pub data Beginning : Type 0 where
  Boots : Beginning
  Takes : ℕ → Beginning
  Masks : Beginning

-- the beginning of a stretch behind boot
abbrev pub later_beginning : Option ℕ → Beginning
later_beginning (Some line) = Takes line
later_beginning None = Masks

-- the beginning of the stretch whose first step this is
abbrev pub beginning_of : Step → Beginning
beginning_of first = if first.count == 0 then Boots else later_beginning first.entered

-- the most instructions of a stretch that begins with the taking of a line of this kind
abbrev pub entry_limit : Config → LineKind → ℕ
entry_limit config (line_of.Task t) = stretch_instructions
entry_limit config (line_of.Counter c) = stretch_instructions + alarm_instructions * alarms_of config c
entry_limit config line_of.Unused = stretch_instructions

-- the most instructions of a stretch
abbrev pub stretch_limit : Config → Beginning → ℕ
stretch_limit config Boots = boot_instructions
stretch_limit config (Takes line) = entry_limit config (line_kind (owners_in config) line)
stretch_limit config Masks = stretch_instructions

-- the most lines whose pending bytes a stretch touches that begins with the taking of a line of this kind
abbrev pub entry_touches : Config → LineKind → ℕ
entry_touches config (line_of.Task t) = 2
entry_touches config (line_of.Counter c) = alarms_of config c
entry_touches config line_of.Unused = 2

-- the most lines whose pending bytes a stretch touches
abbrev pub touch_limit : Config → Beginning → ℕ
touch_limit config Boots = 0
touch_limit config (Takes line) = entry_touches config (line_kind (owners_in config) line)
touch_limit config Masks = 2

-- the most instructions of any stretch behind boot
abbrev pub longest_stretch : Config → ℕ
longest_stretch config = stretch_instructions + alarm_instructions * most_alarms config
