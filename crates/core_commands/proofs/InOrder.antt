-- What commands read: the first of their files, in the order of their words.
use Rattle.std.proofs.Common.{◌≡◌, ◌∙◌, ℕ, List, [], ◌∷◌, ◌++◌, Option, Some, None, refl, sym, ap, append-nil, append_assoc}
use Rattle.std.specs.Prelude.{Result, Ok, Err, IfErr}
use Rattle.sloth_io.specs.Store.{Files, AreDelivered}
use Rattle.command_line.specs.Command.{Building, Execution, Run, Builds, Executes}
use Rattle.core_commands.specs.CommandFiles.{arrivals_named, inputs_of, AreFirstDelivered}
use Rattle.core_commands.specs.ImageFiles.{exec_deliveries}
use Rattle.core_commands.specs.ToolInputs.{AreToolInputs, input_deliveries}
use Rattle.core_commands.specs.Top.{arrival_deliveries, text_deliveries}

-- what holds anyway holds of an error
pub err-anyway : {T E : Type 0} (r : Result T E) (P : Type 0) → P → IfErr r (λ _. P)
err-anyway (Ok t) P p = tt
err-anyway (Err e) P p = p

no-inputs : (names : List (List ℕ)) → input_deliveries names [] ≡ []
no-inputs [] = refl
no-inputs (name ∷ names) = refl

-- nothing was read
pub none-delivered : (old new : Files) (names : List (List ℕ)) → new.reads ≡ old.reads → AreFirstDelivered old new names
none-delivered old new names same =
    ([], same ∙ sym (append-nil old.reads) ∙ ap (λ (xs : List (List ℕ × List ℕ)). old.reads ++ xs) (sym (no-inputs names)))

-- nothing more was read
pub still-delivered : (old mid new : Files) (names : List (List ℕ)) → new.reads ≡ mid.reads → AreFirstDelivered old mid names → AreFirstDelivered old new names
still-delivered old mid new names same h = (h.0, same ∙ h.1)

-- a file more
pub next-delivered : (old mid new : Files) (ds es : List (List ℕ × List ℕ)) → AreDelivered old mid ds → AreDelivered mid new es → AreDelivered old new (ds ++ es)
next-delivered old mid new ds es h k =
    k ∙ ap (λ (xs : List (List ℕ × List ℕ)). xs ++ es) h ∙ append_assoc old.reads ds es

-- two files were read, and then none
pub two-delivered : (old new : Files) (one two : List ℕ) (rest : List (List ℕ)) (a b : List ℕ) → AreDelivered old new ((one, a) ∷ (two, b) ∷ [])
    → AreFirstDelivered old new (one ∷ two ∷ rest)
two-delivered old new one two rest a b h =
    (a ∷ b ∷ [], h ∙ ap (λ (xs : List (List ℕ × List ℕ)). old.reads ++ (one, a) ∷ (two, b) ∷ xs) (sym (no-inputs rest)))

-- inputs that end before the names do
front-deliveries : (files : Files) (before rest inputs : List (List ℕ)) → AreToolInputs files before inputs
    → input_deliveries (before ++ rest) inputs ≡ input_deliveries before inputs
front-deliveries files [] rest [] h = no-inputs rest
front-deliveries files [] rest (b ∷ inputs) h = absurd h
front-deliveries files (n ∷ before) rest [] h = absurd h
front-deliveries files (n ∷ before) rest (b ∷ inputs) h =
    ap (λ (xs : List (List ℕ × List ℕ)). (n, b) ∷ xs) (front-deliveries files before rest inputs h.1)

pub front-delivered : (old new : Files) (before rest all inputs : List (List ℕ)) → before ++ rest ≡ all → AreToolInputs old before inputs
    → AreDelivered old new (input_deliveries before inputs) → AreFirstDelivered old new all
front-delivered old new before rest all inputs e are h = (
  inputs,
  h ∙ ap (λ (xs : List (List ℕ × List ℕ)). old.reads ++ xs) (sym (front-deliveries old before rest inputs are))
      ∙ ap (λ (xs : List (List ℕ)). old.reads ++ input_deliveries xs inputs) e,
)

-- all of them
arrivals-delivered : (run : Option Run) (arr : List ℕ) → input_deliveries (arrivals_named run) (arr ∷ []) ≡ arrival_deliveries run arr
arrivals-delivered None arr = refl
arrivals-delivered (Some run) arr = refl

pub texts-delivered : (old new : Files) (c : Building) (oil src arr : List ℕ) → AreDelivered old new (text_deliveries c oil src arr)
    → AreFirstDelivered old new (inputs_of (Builds c))
texts-delivered old new c oil src arr h = (
  oil ∷ src ∷ arr ∷ [],
  h ∙ ap (λ (xs : List (List ℕ × List ℕ)). old.reads ++ (c.oil, oil) ∷ (c.src, src) ∷ xs) (sym (arrivals-delivered c.run arr)),
)

pub exec-delivered : (old new : Files) (e : Execution) (file arr : List ℕ) → AreDelivered old new (exec_deliveries e file arr)
    → AreFirstDelivered old new (inputs_of (Executes e))
exec-delivered old new e file arr h = (file ∷ arr ∷ [], h)
