-- What the command promises, over the system's files and standard output.
use Rattle.std.proofs.Common.{◌≡◌, ◌∙◌, inl, inr, ℕ, List, [], ap, subst}
use Rattle.sloth_io.specs.Buffered.{IsPrefix}
use Rattle.sloth_io.specs.FileStore.{untold_files}
use Rattle.sloth_io.specs.Sink.{Output}
use Rattle.sloth_io.specs.Store.{Files}
use Rattle.command_line.specs.declared.answer.Status.{Status}
use Rattle.debug_command.specs.DebugAnswers.{Heard, IsUnserved, IsTextsAnswer, IsDebugAnswer}
use Rattle.debug_command.specs.DebugRun.{IsDebugRun, put_output}
use Rattle.debug_command.specs.Words.{Debugging}
use Rattle.debug_command.specs.declared.command.Cause.{Cause}

-- an answer of which another thing tells that what was put was handed on
unserved-by : (P Q : Type 0) → (P → Q) → (why : Cause) (bytes : Heard) (before now : Output) (answer : Status) → IsUnserved why bytes before now P answer → IsUnserved why bytes before now Q answer
unserved-by P Q f why bytes before now answer h = record { said = h.said; unheard = h.unheard; passed_on = λ other. f (h.passed_on other) }

texts-by : (P Q : Type 0) → (P → Q) → (img arr : List ℕ) (bytes : Heard) (before now : Output) (answer : Status)
    → IsTextsAnswer img arr bytes before now P answer → IsTextsAnswer img arr bytes before now Q answer
texts-by P Q f img arr bytes before now answer (inl h) = inl (h.0, h.1, unserved-by P Q f h.0 bytes before now answer h.2)
texts-by P Q f img arr bytes before now answer (inr h) =
    inr (record {
      image = h.image;
      arrivals = h.arrivals;
      meant = h.meant;
      ended = h.ended;
      passed_on = λ other. f (h.passed_on other);
    })

answered-by : (P Q : Type 0) → (P → Q) → (d : Debugging) (old new : Files) (bytes : Heard) (before now : Output) (answer : Status)
    → IsDebugAnswer d old new bytes before now P answer → IsDebugAnswer d old new bytes before now Q answer
answered-by P Q f d old new bytes before now answer (inl h) = inl (h.0, h.1, h.2, unserved-by P Q f h.0 bytes before now answer h.3)
answered-by P Q f d old new bytes before now answer (inr h) = inr (h.0, h.1, h.2, texts-by P Q f h.0 h.1 bytes before now answer h.3)

pub debug_ran : (d : Debugging) (bytes : Heard) (old new : Files) (before now : Output) (was text given : List ℕ) (P : Type 0) (answer : Status)
    → before ≡ put_output was before.faults → was ≡ [] → now ≡ put_output text now.faults → before.faults ≡ 0 → old ≡ untold_files 0 0 0 [] [] []
    → IsPrefix given text → (P → given ≡ text) → new.writes ≡ [] → IsDebugAnswer d old new bytes before now P answer → IsDebugRun d bytes new given now.faults answer
debug_ran d bytes old new before now was text given P answer begins none shows faultless fresh front passed unwritten h =
    let first : before ≡ put_output [] 0 = begins ∙ ap (λ (xs : List ℕ). put_output xs before.faults) none ∙ ap (put_output []) faultless in
    let O : Files → Type 0 = λ files. IsDebugAnswer d files new bytes before now (given ≡ text) answer in
    let B : Output → Type 0 = λ out. IsDebugAnswer d (untold_files 0 0 0 [] [] []) new bytes out now (given ≡ text) answer in
    let N : Output → Type 0 = λ out. IsDebugAnswer d (untold_files 0 0 0 [] [] []) new bytes (put_output [] 0) out (given ≡ text) answer in
    record {
      text = text;
      answered = subst N shows (subst B first (subst O fresh (answered-by P (given ≡ text) passed d old new bytes before now answer h)));
      front = front;
      unwritten = unwritten;
    }
