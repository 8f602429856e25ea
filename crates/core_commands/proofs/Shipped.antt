-- What the top call promises, over the system's files and standard output.
use Rattle.std.proofs.Common.{◌≡◌, ◌≢◌, ◌∙◌, inl, inr, ℕ, List, [], ◌++◌, Option, Some, sym, ap, subst, length, take, drop, append_assoc, arith}
use Rattle.std.proofs.lemmas.List.{take-append-drop}
use Rattle.std.proofs.Math.Seq.{take-append_seam}
use Rattle.sloth_io.specs.Sink.{Output, longer_bytes}
use Rattle.sloth_io.specs.Counts.{Rose}
use Rattle.sloth_io.specs.Store.{Files, call_files}
use Rattle.sloth_io.specs.Buffered.{IsPrefix}
use Rattle.sloth_io.specs.FileStore.{untold_files}
use Rattle.core_commands.specs.CommandFiles.{ReadsInOrder}
use Rattle.core_commands.proofs.Complete.{counted-put}
use Rattle.core_commands.specs.Top.{world, IsRequired, IsPutAnswer, IsTopAnswer}
use Rattle.command_line.specs.declared.answer.Status.{Status}
use Rattle.command_line.specs.declared.answer.Status.TheVariants as status
use Rattle.core_commands.specs.ProgramRun.{IsProgramRun}
use Rattle.core_commands.specs.ToolTables.{ToolTable}

-- the first bytes of a first part are those of the whole
front-of : (given part rest text : List ℕ) → IsPrefix given part → text ≡ part ++ rest → IsPrefix given text
front-of given part rest text front e =
    let parted : given ++ drop (length given) part ≡ part =
    ap (λ (xs : List ℕ). xs ++ drop (length given) part) (sym front) ∙ take-append-drop (length given) part in
    let all : text ≡ given ++ (drop (length given) part ++ rest) =
    e ∙ ap (λ (xs : List ℕ). xs ++ rest) (sym parted) ∙ append_assoc given (drop (length given) part) rest in
    ap (take (length given)) all ∙ take-append_seam given (drop (length given) part ++ rest)

-- what a sink that had taken nothing has taken, if it tells that
taken-is : (was now : Output) (accepted part : List ℕ) → was.taken ≡ Some [] → now.taken ≡ Some accepted
    → now.taken ≡ longer_bytes was.taken part → accepted ≡ part
taken-is was now accepted part w n h = some (sym n ∙ h ∙ ap (λ (t : Option (List ℕ)). longer_bytes t part) w)
  where
    some : Some accepted ≡ Some part → accepted ≡ part
    some e = cc

-- a count that rose from 0 is not 0
unrisen : (n : ℕ) → Rose 0 n → n ≡ 0 → ⊥
unrisen n rose is = omega (arith, rose, is)

module _ (tools : ToolTable) (words : List (List ℕ)) (after : Files) (was now : Output) (accepted given : List ℕ) (answer : Status) (w : was.taken ≡ Some [])
    (none : was.faults ≡ 0) (n : now.taken ≡ Some accepted) (front : IsPrefix given accepted) (passed : answer ≢ status.WriteFault → given ≡ accepted)
    (handed : now.faults ≡ 0 → given ≡ accepted)
    (in_order : ReadsInOrder words (untold_files 0 0 0 [] [] []) after) where
  ran-by : (wanted : Status) (text : List ℕ) → IsRequired tools wanted words (untold_files 0 0 0 after.reads [] []) after text → IsPutAnswer wanted answer was now text
      → IsProgramRun tools words after given now.faults answer
  ran-by wanted text q (inl p) =
      let is : accepted ≡ text = taken-is was now accepted text w n (ap (λ (o : Output). o.taken) p.1) in
      record {
        wanted = wanted;
        text = text;
        in_order = in_order;
        required = q;
        told = inl p.0;
        front = subst (IsPrefix given) is front;
        whole = λ no. passed no ∙ is;
        handed = λ none_failed. handed none_failed ∙ is;
      }
  ran-by wanted text q (inr p) =
      let is : accepted ≡ p.1.0 = taken-is was now accepted p.1.0 w n (ap (λ (o : Output). o.taken) p.1.3) in
      let rose : Rose 0 now.faults = subst (λ (k : ℕ). Rose k now.faults) none (counted-put was now text p.1) in
      record {
        wanted = wanted;
        text = text;
        in_order = in_order;
        required = q;
        told = inr (p.0, rose);
        front = front-of given p.1.0 p.1.1 text (subst (IsPrefix given) is front) p.1.2;
        whole = λ no. absurd (no p.0);
        handed = λ none_failed. absurd (unrisen now.faults rose none_failed);
      }

  pub ran : (old : Files) → old ≡ untold_files 0 0 0 [] [] [] → IsTopAnswer tools words (world (call_files old after) was) (world after now) answer
      → IsProgramRun tools words after given now.faults answer
  ran old fresh a =
      ran-by a.wanted a.text
      (subst (λ (files : Files). IsRequired tools a.wanted words (call_files files after) after a.text) fresh a.required) a.puts
