-- That each line of a tool's answer is one put.
use Rattle.std.proofs.Common.{◌≡◌, ◌∙◌, inl, inr, ℕ, List, [], ◌∷◌, ◌++◌, refl, sym, ap, subst, append-nil}
use Rattle.std.specs.Prelude.{Result, Ok, Err, IfOk, IfErr, OnOk, codes}
use Rattle.sloth_io.specs.Sink.{Output, GainsPart, FailsToPassOn}
use Rattle.sloth_io.specs.Lines.{lines_in, BreaksOffInLine}
use Rattle.sloth_io.proofs.Gains.{gains-nil}
use Rattle.sloth_io.specs.Store.{Files, KeepsFiles, call_files}
use Rattle.command_line.specs.Command.{Uses, IsCommand}
use Rattle.command_line.specs.Tools.{ToolUse}
use Rattle.command_line.proofs.Commands.{one-command}
use Rattle.command_line.specs.Lines.{tool_text}
use Rattle.command_line.specs.declared.answer.ToolAnswer.{ToolAnswer}
use Rattle.command_line.specs.Statuses.{tool_status}
use Rattle.command_line.specs.declared.answer.Status.{Status}
use Rattle.command_line.specs.declared.answer.Status.TheVariants as status
use Rattle.core_commands.specs.CommandFiles.{IsOnlyAsked, IsUsageCause}
use Rattle.core_commands.specs.Top.{World, world, FilesAfter, IsRequired, IsTextTaken, IsPutAnswer, IsCloseAnswer, IsToolEnd}
use Rattle.core_commands.specs.Failures.{IsReadFailure, IsTellFailure, IsCommandFailure, IsFailureEnd}
use Rattle.sloth_commands.specs.ToolFiles.{IsToolAnswer}
use Rattle.sloth_commands.specs.ToolLines.{ArePutByLine, IsLineAnswer, HasToolLines, IsToldByLine, IsToolUntold, IsAnswerUntold}
use Rattle.core_commands.specs.Failures.{last_lines}
use Rattle.core_commands.specs.declared.failure.Failure.{Failure}
use Rattle.core_commands.specs.declared.failure.Failure.TheVariants as failure
use Rattle.core_commands.proofs.CallFiles.{still}
use Rattle.core_commands.proofs.Causes.{usage-required}
use Rattle.sloth_commands.proofs.ToolCauses.{after-kept, no-image-file}
use Rattle.core_commands.proofs.ToolEnds.{end-required}

-- ---- a tool's own text

module _ (old mid : Files) (sink : Output) (new : World) (before after : List (List ℕ)) (u : ToolUse) (kept : KeepsFiles old mid)
    (same : new.files.reads ≡ mid.reads) where
  ended : (s : Status) (a : ToolAnswer) → IsToolAnswer (call_files old mid) u a → s ≡ tool_status a → FilesAfter a mid new.files u.output
      → IsToolEnd IsToolAnswer s (call_files old new.files) new.files u (tool_text a)
  ended s a is status_is files = record {
    answer = a;
    is = still (λ (x : Files). IsToolAnswer x u a) old mid new.files same is;
    status_is = status_is;
    text_is = refl;
    files = after-kept a old mid new.files u.output kept files;
  }

  pub untold : (f : Failure) (a : ToolAnswer) → IsToolAnswer (call_files old mid) u a → IsTellFailure f a (world mid sink) new u.output
      → IsAnswerUntold f sink new.sink before after (tool_text a) → IsToolUntold f (world (call_files old new.files) sink) new before after u
  untold failure.Put a is h broken = (tool_status a, tool_text a, ended (tool_status a) a is refl h.0, broken)
  untold failure.WriteFile a is h none = none
  untold (failure.Refused r) a is h none = none
  untold failure.ReadFault a is h none = absurd none
  untold failure.TooLong a is h none = absurd none
  untold (failure.NotAnImage e) a is h none = none
  untold failure.NoMemory a is h none = absurd none

  pub told : (s : Status) (a : ToolAnswer) → IsToolAnswer (call_files old mid) u a → s ≡ tool_status a → IsTextTaken sink new.sink (tool_text a)
      → FilesAfter a mid new.files u.output → after ≡ before ++ lines_in (tool_text a)
      → IsToldByLine s (world (call_files old new.files) sink) new before after u
  told s a is status_is text files lines = (tool_text a, ended s a is status_is files, text, lines)

-- files that were not read: nothing was put
pub read-untold : (f : Failure) (files now : Files) (names : List (List ℕ)) (old new : World) (pieces : List (List ℕ)) (u : ToolUse)
    → IsReadFailure f files now names → IsToolUntold f old new pieces pieces u
read-untold failure.ReadFault files now names old new pieces u h = refl
read-untold failure.TooLong files now names old new pieces u h = refl
read-untold failure.NoMemory files now names old new pieces u h = refl
read-untold (failure.Refused r) files now names old new pieces u h = absurd h
read-untold (failure.NotAnImage e) files now names old new pieces u h = absurd h
read-untold failure.WriteFile files now names old new pieces u h = absurd h
read-untold failure.Put files now names old new pieces u h = absurd h

-- four facts of a call that succeeds
pub four-told : {T E : Type 0} (r : Result T E) (P : T → Type 0) (Q R S : Type 0) (W : T → Type 0) → ((t : T) → P t → Q → R → S → W t) → IfOk r P → OnOk r Q
    → OnOk r R → OnOk r S → IfOk r W
four-told (Ok t) P Q R S W f p q r s = f t p q r s
four-told (Err e) P Q R S W f p q r s = tt

-- two facts of a call that fails
pub both-err : {T E : Type 0} (r : Result T E) (P Q W : E → Type 0) → ((e : E) → P e → Q e → W e) → IfErr r P → IfErr r Q → IfErr r W
both-err (Ok t) P Q W f p q = tt
both-err (Err e) P Q W f p q = f e p q

-- ---- a last line

-- a text of one line, which was one put
one-line : (wanted answer : Status) (old new : Output) (before after : List (List ℕ)) (text : List ℕ) → lines_in text ≡ text ∷ []
    → IsPutAnswer wanted answer old new text → after ≡ before ++ text ∷ [] → ArePutByLine wanted answer old new before after text
one-line wanted answer old new before after text one (inl p) put = inl (p.0, p.1, put ∙ ap (λ x. before ++ x) (sym one))
one-line wanted answer old new before after text one (inr p) put =
    let P : Output → Type 0 = λ x. GainsPart x new text in
    inr (
      p.0,
      inl (record {
        done = [];
        line = text;
        rest = [];
        cut = one;
        pieces = put;
        taken = subst P (sym (gains-nil old)) p.1;
      }),
    )

-- an answer whose text is one line, which was one put behind a command that put nothing
line-answer : (wanted : Status) (words : List (List ℕ)) (old : World) (files : Files) (mid new : Output) (before among after : List (List ℕ)) (answer : Status)
    (text : List ℕ) → IsRequired IsToolAnswer wanted words old.files files text → lines_in text ≡ text ∷ [] → mid ≡ old.sink → IsPutAnswer wanted answer mid new text
    → among ≡ before → after ≡ among ++ text ∷ [] → IsLineAnswer words old (world files new) before after answer
line-answer wanted words old files mid new before among after answer text required one same puts none put =
    let P : Output → Type 0 = λ x. IsPutAnswer wanted answer x new text in
    record {
      wanted = wanted;
      text = text;
      required = required;
      puts = one-line wanted answer old.sink new before after text one (subst P same puts) (put ∙ ap (λ x. x ++ text ∷ []) none);
    }

pub usage-lines : (words : List (List ℕ)) (old new : Files) (sink out : Output) (before after : List (List ℕ)) (answer : Status) → IsOnlyAsked old new
    → IsUsageCause words old new → IsPutAnswer status.Usage answer sink out (codes "usage\n") → after ≡ before ++ codes "usage\n" ∷ []
    → HasToolLines words (world (call_files old new) sink) (world new out) before after answer
usage-lines words old new sink out before after answer only cause put pieces u is =
    line-answer status.Usage words (world (call_files old new) sink) new sink out before before after answer (codes "usage\n")
    (usage-required IsToolAnswer words old new only cause) refl refl put refl pieces

-- behind a tool that put nothing, or whose text broke off
tool-finished : (f : Failure) (words : List (List ℕ)) (u : ToolUse) (old : World) (files : Files) (mid new : Output) (before among after : List (List ℕ))
    (answer : Status) → IsCommand words (Uses u) → IsCommandFailure IsToolAnswer f old (world files mid) (Uses u) → IsToolUntold f old (world files mid) before among u
    → IsFailureEnd f answer mid new → after ≡ among ++ last_lines f → IsLineAnswer words old (world files new) before after answer
tool-finished failure.Put words u old files mid new before among after answer is h broken d put =
    let P : Output → Type 0 = λ x. BreaksOffInLine old.sink x before among broken.1 in
    let Q : List (List ℕ) → Type 0 = λ x. BreaksOffInLine old.sink new before x broken.1 in
    record {
      wanted = broken.0;
      text = broken.1;
      required = end-required IsToolAnswer no-image-file broken.0 words u old.files files broken.1 is broken.2;
      puts = inr (d.0, inl (subst Q (sym (put ∙ append-nil among)) (subst P (sym d.1) broken.3)));
    }
tool-finished failure.ReadFault words u old files mid new before among after answer is h none d put =
    line-answer status.ReadFault words old files mid new before among after answer (codes "read fault\n") (Uses u, is, h.0, refl, h.1) refl h.2 d none put
tool-finished failure.TooLong words u old files mid new before among after answer is h none d put =
    line-answer status.TooLong words old files mid new before among after answer (codes "too long\n") (Uses u, is, h.0, refl, h.1) refl h.2 d none put
tool-finished failure.NoMemory words u old files mid new before among after answer is h none d put =
    line-answer status.NoMemory words old files mid new before among after answer (codes "no memory\n") (Uses u, is, refl, h.0) refl h.1 d none put
tool-finished failure.WriteFile words u old files mid new before among after answer is h none d put =
    line-answer status.WriteFault words old files mid new before among after answer (codes "write fault\n") (Uses u, is, h.0, refl) refl h.1 d none put
tool-finished (failure.Refused r) words u old files mid new before among after answer is h none d put = absurd none
tool-finished (failure.NotAnImage e) words u old files mid new before among after answer is h none d put = absurd none

-- words are those of one tool
same-use : (words : List (List ℕ)) (v u : ToolUse) → IsCommand words (Uses v) → IsCommand words (Uses u) → v ≡ u
same-use words v u is also = let same : Uses v ≡ Uses u = one-command words (Uses v) (Uses u) is also in cc

pub finished-lines : (f : Failure) (words : List (List ℕ)) (v : ToolUse) (old : World) (files : Files) (mid new : Output) (before among after : List (List ℕ))
    (answer : Status) → IsCommand words (Uses v) → IsCommandFailure IsToolAnswer f old (world files mid) (Uses v) → IsToolUntold f old (world files mid) before among v
    → IsFailureEnd f answer mid new → after ≡ among ++ last_lines f → HasToolLines words old (world files new) before after answer
finished-lines f words v old files mid new before among after answer is h untold_so d put u also =
    let same = same-use words v u is also in
    let P : ToolUse → Type 0 = λ x. IsCommandFailure IsToolAnswer f old (world files mid) (Uses x) in
    let Q : ToolUse → Type 0 = λ x. IsToolUntold f old (world files mid) before among x in
    tool-finished f words u old files mid new before among after answer also (subst P same h) (subst Q same untold_so) d put

-- behind a tool that was done
tool-closed : (s : Status) (words : List (List ℕ)) (u : ToolUse) (old : World) (files : Files) (mid new : Output) (before among : List (List ℕ))
    (answer : Status) → IsCommand words (Uses u) → IsToldByLine s old (world files mid) before among u → IsCloseAnswer s answer mid new
    → IsLineAnswer words old (world files new) before among answer
tool-closed s words u old files mid new before among answer is h (inl done) = record {
  wanted = s;
  text = h.0;
  required = end-required IsToolAnswer no-image-file s words u old.files files h.0 is h.1;
  puts = inl (done.0, done.1 ∙ h.2, h.3);
}
tool-closed s words u old files mid new before among answer is h (inr failed) =
    let P : Output → Type 0 = λ x. FailsToPassOn x new in
    record {
      wanted = s;
      text = h.0;
      required = end-required IsToolAnswer no-image-file s words u old.files files h.0 is h.1;
      puts = inr (failed.0, inr (subst P h.2 failed.1, h.3));
    }

pub closed-lines : (s : Status) (words : List (List ℕ)) (v : ToolUse) (old : World) (files : Files) (mid new : Output) (before among after : List (List ℕ))
    (answer : Status) → IsCommand words (Uses v) → IsToldByLine s old (world files mid) before among v → IsCloseAnswer s answer mid new → after ≡ among
    → HasToolLines words old (world files new) before after answer
closed-lines s words v old files mid new before among after answer is h d put u also =
    let P : ToolUse → Type 0 = λ x. IsToldByLine s old (world files mid) before among x in
    let Q : List (List ℕ) → Type 0 = λ x. IsLineAnswer words old (world files new) before x answer in
    subst Q (sym put) (tool-closed s words u old files mid new before among answer also (subst P (same-use words v u is also) h) d)
