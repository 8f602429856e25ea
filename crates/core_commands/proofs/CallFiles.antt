-- What a store showed before a call, with what was read in it.
use Rattle.std.proofs.Common.{◌≡◌, ◌∙◌, inl, inr, ℕ, List, [], ◌∷◌, Option, Some, None, refl, sym, ap, subst, length, drop}
use Rattle.std.proofs.lemmas.List.{drop_at}
use Rattle.sloth_io.specs.Store.{Files, KeepsFiles, AreDelivered, call_files}
use Rattle.command_line.specs.Command.{Building, Execution, Run}
use Rattle.core_commands.specs.FileInputs.{IsInput}
use Rattle.core_commands.specs.ToolInputs.{AreToolInputs}
use Rattle.core_commands.specs.ImageFiles.{AreExecInputs}
use Rattle.core_commands.specs.Top.{AreInputs, HoldsArrivals, FirstUnread, AreFilesSame}

-- exactly what was delivered was read
pub delivered-in_call : (old new : Files) (ds : List (List ℕ × List ℕ)) → AreDelivered old new ds → (call_files old new).reads ≡ ds
delivered-in_call old new ds h = ap (λ (xs : List (List ℕ × List ℕ)). drop (length old.reads) xs) h ∙ drop_at old.reads ds (length old.reads) refl

-- what holds behind the last read holds at the end, if nothing more is read
pub still : (P : Files → Type 0) (old mid new : Files) → new.reads ≡ mid.reads → P (call_files old mid) → P (call_files old new)
still P old mid new same h = subst (λ (xs : List (List ℕ × List ℕ)). P (record old { reads = drop (length old.reads) xs })) (sym same) h

-- no file has changed, and nothing was written, since before the reads
pub stays-kept : (old new : Files) → KeepsFiles old new → AreFilesSame old new
stays-kept old new kept = (kept.holds, kept.writes)

pub stays-behind : (old mid new : Files) → KeepsFiles old mid → AreFilesSame mid new → AreFilesSame old new
stays-behind old mid new kept h = (λ name. h.0 name ∙ kept.holds name, h.1 ∙ kept.writes)

pub unread-in_call : (old new : Files) (P : List ℕ → Type 0) (names : List (List ℕ)) → FirstUnread old P names → FirstUnread (call_files old new) P names
unread-in_call old new P [] h = h
unread-in_call old new P (n ∷ names) (inl h) = inl h
unread-in_call old new P (n ∷ names) (inr h) = inr (h.0, unread-in_call old new P names h.1)

arrivals-in_call : (old new : Files) (run : Option Run) (arr : List ℕ) → HoldsArrivals old run arr → HoldsArrivals (call_files old new) run arr
arrivals-in_call old new None arr h = h
arrivals-in_call old new (Some run) arr h = h

pub inputs-in_call : (old new : Files) (c : Building) (oil src arr : List ℕ) → AreInputs old c oil src arr → AreInputs (call_files old new) c oil src arr
inputs-in_call old new c oil src arr i = record {
  oil_read = i.oil_read;
  src_read = i.src_read;
  arr_read = arrivals-in_call old new c.run arr i.arr_read;
  oil_short = i.oil_short;
  src_short = i.src_short;
  arr_short = i.arr_short;
}

pub input-in_call : (old new : Files) (name bytes : List ℕ) → IsInput old name bytes → IsInput (call_files old new) name bytes
input-in_call old new name bytes i = record { read = i.read; short = i.short }

pub exec-inputs-in_call : (old new : Files) (e : Execution) (file arr : List ℕ) → AreExecInputs old e file arr → AreExecInputs (call_files old new) e file arr
exec-inputs-in_call old new e file arr i =
    record { image_file = input-in_call old new e.img file i.image_file; arrivals_file = input-in_call old new e.arr arr i.arrivals_file }

pub tool-inputs-in_call : (old new : Files) (names inputs : List (List ℕ)) → AreToolInputs old names inputs → AreToolInputs (call_files old new) names inputs
tool-inputs-in_call old new [] [] h = tt
tool-inputs-in_call old new [] (b ∷ inputs) h = absurd h
tool-inputs-in_call old new (n ∷ names) [] h = absurd h
tool-inputs-in_call old new (n ∷ names) (b ∷ inputs) h = (input-in_call old new n b h.0, tool-inputs-in_call old new names inputs h.1)
