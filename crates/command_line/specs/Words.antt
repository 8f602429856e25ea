-- The command that given words are.
use Rattle.std.specs.Prelude.{Option, Some, None}
use Rattle.std.specs.Option.{option_map}
use Rattle.command_line.specs.Command.{Command, Building, Execution, Run, Builds, Executes, Lists, Samples, Uses, words_of}
use Rattle.command_line.specs.Tools.{ToolUse, ToolRow}
use Rattle.command_line.specs.declared.tool.Row.{Row}
use Rattle.command_line.specs.declared.tool.ToolWords.{ToolWords}
use Rattle.command_line.specs.declared.command.BuildWords.{BuildWords}
use Rattle.command_line.specs.declared.command.ExecWords.{ExecWords}
use Rattle.command_line.specs.declared.command.CommandWords.{CommandWords}
use Rattle.command_line.specs.declared.command.CommandWords.TheVariants as words
use Rattle.command_line.specs.declared.command.RunWords.{RunWords}

-- a run as the words say
abbrev pub run_of : Option RunWords → Option Run
run_of None = None
run_of (Some r) = Some (record { form = r.form; arr = r.arr.now; n = r.n })

-- what is built as the words say
abbrev pub building_of : BuildWords → Building
building_of b = record { oil = b.oil.now; src = b.src.now; img = b.img.now; run = run_of b.run }

-- a run of an image file as the words say
abbrev pub execution_of : ExecWords → Execution
execution_of e = record { img = e.img.now; arr = e.arr.now; n = e.n }

-- a row of the table of tools as the program has it
abbrev pub row_of : Row → ToolRow
row_of r = record { word = r.word.now; inputs = r.inputs; further = option_map (λ word. word.now) r.further; limit = r.limit; writes = r.writes }

-- a tool as the words say
abbrev pub use_of : ToolWords → ToolUse
use_of t = record { tool = t.tool; inputs = words_of t.inputs.now; counts = t.counts; output = option_map (λ name. name.now) t.output }

-- a command as the words say
abbrev pub command_of : CommandWords → Command
command_of (words.Build b) = Builds (building_of b)
command_of (words.Exec e) = Executes (execution_of e)
command_of (words.List img) = Lists img.now
command_of (words.Sample seed img) = Samples seed img.now
command_of (words.Tool t) = Uses (use_of t)
