-- A program without tools, and what its answers are to one that has some.
use Rattle.std.proofs.Common.{◌≡◌, ◌⊎◌, inl, inr, ℕ, List, refl}
use Rattle.std.specs.Prelude.{codes}
use Rattle.sloth_base.specs.declared.refusal.Refusal.{Refusal}
use Rattle.sloth_io.specs.Sink.{Output}
use Rattle.sloth_io.specs.Store.{Files, call_files}
use Rattle.command_line.specs.Command.{Command, Builds, Executes, Lists, Samples, Uses, IsCommand, IsNoTool, NoTool}
use Rattle.command_line.specs.declared.answer.ToolAnswer.TheVariants as tool_answer
use Rattle.command_line.specs.declared.answer.Status.{Status}
use Rattle.command_line.specs.declared.answer.Status.TheVariants as status
use Rattle.core_commands.specs.CommandFiles.{inputs_of, IsUsageCause, ReadsInOrder}
use Rattle.core_commands.specs.NoTools.{NoOwnCommand}
use Rattle.core_commands.specs.ToolTables.{LacksTools, ToolTable}
use Rattle.core_commands.specs.Top.{World, world, IsCommandDone, IsCommandRefused, IsCommandUnwritten, IsCommandStopped, IsPutAnswer, IsRequired, IsTopAnswer, LacksTask}
use Rattle.core_commands.proofs.Causes.{usage-ends}
use Rattle.core_commands.proofs.ImageComplete.{KnowsAnyImage}
use Rattle.core_commands.proofs.InOrder.{none-delivered}
use Rattle.core_commands.proofs.OwnOutput.{none-asked}
use Rattle.core_commands.proofs.ToolEnds.{FaultsAreOfImages}

-- ---- the words of a tool

-- no answer of such a program says that a file is no image's
pub lacks-faults : FaultsAreOfImages LacksTools
lacks-faults files u fault is h = absurd (other h)
  where
    other : tool_answer.NotAnImage fault ≡ tool_answer.NoTask → ⊥
    other e = cc

-- nothing was read and nothing written
pub lacking-ends : (words : List (List ℕ)) (files : Files) (sink out : Output) (answer : Status) → NoOwnCommand words
    → IsPutAnswer status.Usage answer sink out (codes "usage\n") → IsTopAnswer LacksTools words (world (call_files files files) sink) (world files out) answer
lacking-ends words files sink out answer (inl none) put = usage-ends LacksTools words files files sink out answer (none-asked files files refl) (inl none) put
lacking-ends words files sink out answer (inr h) put = record {
  wanted = status.Usage;
  text = codes "usage\n";
  required = (inr (h.0, h.1, refl), refl, (λ name. refl, refl));
  puts = put;
}

pub lacking-reads : (words : List (List ℕ)) (files : Files) → NoOwnCommand words → ReadsInOrder words files files
lacking-reads words files (inl none) = inr (none, refl)
lacking-reads words files (inr h) = inl (Uses h.0, h.1, none-delivered files files (inputs_of (Uses h.0)) refl)

-- of a command that is no tool nothing is to be known of a tool's image
pub plain-knows : (tools : ToolTable) (old : Files) (c : Command) → IsNoTool c → KnowsAnyImage tools old c
plain-knows tools old (Builds b) plain file tells i = tt
plain-knows tools old (Executes e) plain file tells i = tt
plain-knows tools old (Lists img) plain file tells i = tt
plain-knows tools old (Samples seed img) plain file tells i = tt
plain-knows tools old (Uses u) plain file tells i = absurd plain

-- ---- all other words: the answer is that of a program with any tools

module _ (tools : ToolTable) (words : List (List ℕ)) (none : NoTool words) where
  done-anyway : (c : Command) (old new : Files) (text : List ℕ) → IsCommand words c → IsCommandDone LacksTools old new c text → IsCommandDone tools old new c text
  done-anyway (Builds b) old new text is h = h
  done-anyway (Executes e) old new text is h = h
  done-anyway (Lists img) old new text is h = h
  done-anyway (Samples seed img) old new text is h = h
  done-anyway (Uses u) old new text is h = absurd (none u is)

  refused-anyway : (c : Command) (old : Files) (r : Refusal) → IsCommand words c → IsCommandRefused LacksTools old c r → IsCommandRefused tools old c r
  refused-anyway (Builds b) old r is h = h
  refused-anyway (Executes e) old r is h = h
  refused-anyway (Lists img) old r is h = h
  refused-anyway (Samples seed img) old r is h = h
  refused-anyway (Uses u) old r is h = absurd (none u is)

  unwritten-anyway : (c : Command) (old new : Files) → IsCommand words c → IsCommandUnwritten LacksTools old new c → IsCommandUnwritten tools old new c
  unwritten-anyway (Builds b) old new is h = h
  unwritten-anyway (Executes e) old new is h = h
  unwritten-anyway (Lists img) old new is h = h
  unwritten-anyway (Samples seed img) old new is h = h
  unwritten-anyway (Uses u) old new is h = absurd (none u is)

  stopped-anyway : (c : Command) (old new : Files) (text : List ℕ) → IsCommand words c → IsCommandStopped LacksTools old new c text
      → IsCommandStopped tools old new c text
  stopped-anyway (Builds b) old new text is h = h
  stopped-anyway (Executes e) old new text is h = h
  stopped-anyway (Lists img) old new text is h = h
  stopped-anyway (Samples seed img) old new text is h = h
  stopped-anyway (Uses u) old new text is h = absurd (none u is)

  required-anyway : (s : Status) (old new : Files) (text : List ℕ) → IsRequired LacksTools s words old new text → IsRequired tools s words old new text
  required-anyway status.Done old new text q = (q.0, q.1, done-anyway q.0 old new text q.1 q.2)
  required-anyway status.Usage old new text q = (by q.0, q.1, q.2)
    where
      by : IsUsageCause words old new ⊎ LacksTask LacksTools words old → IsUsageCause words old new ⊎ LacksTask tools words old
      by (inl h) = inl h
      by (inr h) = absurd (none h.0 h.1)
  required-anyway status.Refused old new text q = (q.0, q.1, q.2, refused-anyway q.0 old q.2 q.1 q.3, q.4, q.5)
  required-anyway status.ReadFault old new text q = q
  required-anyway status.WriteFault old new text q = (q.0, q.1, unwritten-anyway q.0 old new q.1 q.2, q.3)
  required-anyway status.NoMemory old new text q = q
  required-anyway status.TooLong old new text q = q
  required-anyway status.Stopped old new text q = (q.0, q.1, stopped-anyway q.0 old new text q.1 q.2)
  required-anyway status.NotAnImage old new text q = q
  required-anyway status.NotAnElf old new text q = absurd (none q.0 q.1)
  required-anyway (status.Explained kind) old new text q = absurd (none q.0 q.1)
  required-anyway status.BadTrace old new text q = absurd (none q.0 q.1)
  required-anyway status.NoHolds old new text q = absurd (none q.0 q.1)
  required-anyway status.Unmet old new text q = absurd (none q.0 q.1)

  pub answered-anyway : (old new : World) (answer : Status) → IsTopAnswer LacksTools words old new answer → IsTopAnswer tools words old new answer
  answered-anyway old new answer h = record {
    wanted = h.wanted;
    text = h.text;
    required = required-anyway h.wanted old.files new.files h.text h.required;
    puts = h.puts;
  }
