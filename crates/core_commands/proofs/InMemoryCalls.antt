-- Calls of a store and a sink in memory that do not fail.
use Rattle.std.proofs.Common.{inr, ℕ, List, Some, refl, sym, subst}
use Rattle.std.specs.Prelude.{IsTrue, codes}
use Rattle.sloth_base.specs.declared.config.Config.{Config}
use Rattle.sloth_base.specs.declared.app.App.{App}
use Rattle.sloth_base.specs.declared.service.Arrival.{Arrival}
use Rattle.sloth_io.specs.Store.{call_files}
use Rattle.sloth_io.specs.MemStore.{is_sure, shown_files as store_shown}
use Rattle.sloth_io.specs.MemSink.{taken_by, told_space, shown_output as sink_shown}
use Rattle.sloth_io.specs.declared.mem_store.MemStore.{MemStore}
use Rattle.sloth_io.specs.declared.mem_sink.MemSink.{MemSink}
use Rattle.command_line.specs.Command.{Building}
use Rattle.core_commands.specs.Samples.{sample_arrivals, sample_text}
use Rattle.core_commands.specs.Top.{World, world, HasSpace, CallsWork, done_text}
use Rattle.core_commands.specs.ImageAnswers.{LinesWork}
use Rattle.core_commands.specs.SampleAnswers.{SampleWorks}
use Rattle.core_commands.specs.InMemory.{HasSinkRoom, NoneFails, AreEnough, AreEnoughForLines, AreEnoughForSample}

-- a store without failing calls is sure
sure-of : (store : MemStore) (sink : MemSink) → NoneFails store sink → IsTrue (is_sure store.fails.items)
sure-of store sink none = subst (λ (f : List ℕ). IsTrue (is_sure f)) (sym none.store_calls) refl

-- a sink without failing calls tells its space
room : (store : MemStore) (sink : MemSink) (text : List ℕ) → NoneFails store sink → HasSinkRoom sink text
    → HasSpace (Some (taken_by sink)) (told_space sink.buffer.space sink.fails.items) text
room store sink text none enough =
    subst (λ (f : List (ℕ × ℕ)). HasSpace (Some (taken_by sink)) (told_space sink.buffer.space f) text) (sym none.sink_calls) enough

pub calls-work : (store : MemStore) (sink : MemSink) (c : Building) (config : Config) (app : App) (arrivals : List Arrival) (new : World)
    → AreEnough store sink c config app arrivals → CallsWork c config app arrivals (world (call_files (store_shown store) new.files) (sink_shown sink)) new
calls-work store sink c config app arrivals new enough =
    let none = enough.calls in
    let sure = sure-of store sink none in
    record {
      reads = inr sure;
      write = λ image is. inr (sure, enough.file image is);
      lines = λ image is. inr (room store sink (done_text image arrivals c.run) none (enough.lines image is));
      last_line = inr (room store sink (codes "no memory\n") none none.last_line);
    }

pub lines-work : (store : MemStore) (sink : MemSink) (text : List ℕ) (new : World)
    → AreEnoughForLines store sink text → LinesWork (world (call_files (store_shown store) new.files) (sink_shown sink)) new text
lines-work store sink text new enough =
    let none = enough.calls in
    record {
      reads = inr (sure-of store sink none);
      lines = inr (room store sink text none enough.lines);
      last_line = inr (room store sink (codes "no memory\n") none none.last_line);
    }

pub sample-works : (store : MemStore) (sink : MemSink) (seed : ℕ) (img : List ℕ) (config : Config) (app : App) (new : World)
    → AreEnoughForSample store sink seed img config app → SampleWorks seed img config app (world (call_files (store_shown store) new.files) (sink_shown sink)) new
sample-works store sink seed img config app new enough =
    let none = enough.calls in
    record {
      write = λ image is. inr (sure-of store sink none, enough.file image is);
      lines = λ image is. inr (room store sink (sample_text image (sample_arrivals seed)) none (enough.lines image is));
      last_line = inr (room store sink (codes "no memory\n") none none.last_line);
    }
