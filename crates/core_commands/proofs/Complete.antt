-- Which answer comes, where the inputs are told.
use Rattle.std.proofs.Common.{◌≡◌, ◌≤◌, ◌<◌, ◌+◌, ◌∙◌, inl, inr, ℕ, List, ◌∷◌, Option, None, Some, sym, ap, subst, arith, min, length}
use Rattle.std.specs.Prelude.{IsTrue, ◌⊎◌}
use Rattle.std.proofs.Math.Nat.{min-eq_left}
use Rattle.sloth_base.specs.declared.config.Config.{Config}
use Rattle.sloth_base.specs.declared.app.App.{App}
use Rattle.sloth_base.specs.declared.service.Arrival.{Arrival}
use Rattle.sloth_base.specs.Order.{NoFault}
use Rattle.trace_text.specs.ArrivalsText.{arrivals_in, ArrivalsFault}
use Rattle.sloth_base.specs.declared.image.Image.{Image}
use Rattle.sloth_base.specs.declared.refusal.Refusal.{Refusal}
use Rattle.sloth_base.specs.Limits.{file_limit}
use Rattle.sloth_io.specs.Counts.{Rose, Stays}
use Rattle.sloth_io.specs.Sink.{Output, HasNoSpace}
use Rattle.sloth_io.specs.Store.{Files, Holds, IsMissing, IsTooLong, IsUnwritten}
use Rattle.image_file.specs.ImageText.{image_bytes}
use Rattle.sloth_source.specs.Texts.{AreAccepted}
use Rattle.sloth_source.proofs.Unique.{one_meaning}
use Rattle.command_line.specs.LastLine.{refusal_line}
use Rattle.command_line.specs.Command.{Command, Building, Run, Builds, Uses, IsCommand, IsNoTool, NoCommand}
use Rattle.command_line.specs.Tools.{ToolUse}
use Rattle.run_inputs.specs.Inputs.{AreArrivalsOf}
use Rattle.core_commands.specs.ImageFiles.{IsNoImage}
use Rattle.command_line.specs.declared.answer.Status.{Status}
use Rattle.command_line.specs.declared.answer.Status.TheVariants as status
use Rattle.core_commands.specs.Top.{World, FirstUnread, AreInputs, HoldsArrivals, AreThere, IsFailedRead, IsLongRead}
use Rattle.core_commands.specs.CommandFiles.{arrivals_named, inputs_of, OverwritesInput, IsUsageCause}
use Rattle.core_commands.specs.Top.{IsCommandDone, IsCommandRefused, IsCommandUnwritten, IsCommandStopped, done_text, IsRefused, IsAccepted, IsBuiltImage, IsRequired, IsPutAnswer, IsTextTaken, IsTextBrokenOff, IsFullAnswer, IsTopAnswer}
use Rattle.run_inputs.specs.Inputs.{IsRefusal}
use Rattle.sloth_base.specs.DeclaredNames.{task_names, counter_names}
use Rattle.core_commands.specs.Top.{IsUsageAnswer, IsRefusalAnswer, ReadsWork, WritesWork, HasSpace, PutsWork, CallsWork, HasUsageAnswer, HasRefusalAnswer, IsComplete, LacksTask}
use Rattle.command_line.proofs.Commands.{one-command}
use Rattle.core_commands.proofs.OwnOutput.{keeps-inputs, no-usage}
use Rattle.run_inputs.proofs.Refused.{not-refused, one-way}
use Rattle.core_commands.specs.ToolTables.{ToolTable}

pub stays : (a b : ℕ) → Stays a b → Rose a b → ⊥
stays a b s r =
    let whole : min (a + 1) 18446744073709551615 ≡ a + 1 = min-eq_left (let l = s.1 in omega (arith, l)) in
    let same = s.0 in omega (arith, whole, same, r)

-- ---- the inputs that are told

pub told : (files : Files) (name one other : List ℕ) → IsTrue files.tells → Holds files name one → Holds files name other → one ≡ other
told files name one other tells h i = let a = h tells in let b = i tells in cc

told-arrivals : (files : Files) (run : Option Run) (one other : List ℕ) → IsTrue files.tells → HoldsArrivals files run one → HoldsArrivals files run other → one ≡ other
told-arrivals files None one other tells h i = h ∙ sym i
told-arrivals files (Some run) one other tells h i = told files run.arr one other tells h i

-- of inputs that are there, none is the first that is not read
no-arrivals : (P : List ℕ → Type 0) (old : Files) (run : Option Run) (arr : List ℕ) → HoldsArrivals old run arr → length arr ≤ file_limit
    → ((name bytes : List ℕ) → Holds old name bytes → length bytes ≤ file_limit → P name → ⊥) → FirstUnread old P (arrivals_named run) → ⊥
no-arrivals P old None arr holds short f h = h
no-arrivals P old (Some run) arr holds short f (inl h) = f run.arr arr holds short h
no-arrivals P old (Some run) arr holds short f (inr h) = h.1

none-unread : (P : List ℕ → Type 0) (old : Files) (c : Building) (oil src arr : List ℕ) → AreInputs old c oil src arr
    → ((name bytes : List ℕ) → Holds old name bytes → length bytes ≤ file_limit → P name → ⊥) → FirstUnread old P (inputs_of (Builds c)) → ⊥
none-unread P old c oil src arr i f (inl h) = f c.oil oil i.oil_read i.oil_short h
none-unread P old c oil src arr i f (inr h) = behind h.1
  where
    behind : FirstUnread old P (c.src ∷ arrivals_named c.run) → ⊥
    behind (inl h) = f c.src src i.src_read i.src_short h
    behind (inr h) = no-arrivals P old c.run arr i.arr_read i.arr_short f h.1

-- a file that is there is not missing, where reads work
pub not-missing : (old new : Files) (name bytes : List ℕ) → IsTrue old.tells → ReadsWork old new → Holds old name bytes → IsMissing old new name → ⊥
not-missing old new name bytes tells (inl stay) holds (inl h) = stays old.failed_reads new.failed_reads stay h.0
not-missing old new name bytes tells (inr sure) holds (inl h) = let a : IsTrue old.sure = sure in let b = h.1 in cc
not-missing old new name bytes tells works holds (inr h) = let a = holds tells in let b = h.1 in cc

-- and not too long, where it is short enough
pub not-long : (old new : Files) (name bytes : List ℕ) → IsTrue old.tells → Holds old name bytes → length bytes ≤ file_limit
    → IsTooLong old new name file_limit → ⊥
not-long old new name bytes tells holds short h =
    let long = h.1 tells in
    let same : bytes ≡ long.0 = told old name bytes long.0 tells holds (λ yes. long.1) in
    let m : length bytes ≤ file_limit = short in
    let k : file_limit < length bytes = subst (λ x. file_limit < length x) (sym same) long.2 in omega (arith, m, k)

no-failed-read : (old new : Files) (c : Building) (oil src arr : List ℕ) → AreThere old c oil src arr → ReadsWork old new → IsFailedRead old new (Builds c) → ⊥
no-failed-read old new c oil src arr there works =
    none-unread (IsMissing old new) old c oil src arr there.inputs (λ name bytes holds short. not-missing old new name bytes there.tells works holds)

no-long-read : (old new : Files) (c : Building) (oil src arr : List ℕ) → AreThere old c oil src arr → IsLongRead old new (Builds c) → ⊥
no-long-read old new c oil src arr there =
    none-unread (λ name. IsTooLong old new name file_limit) old c oil src arr there.inputs
    (λ name bytes holds short. not-long old new name bytes there.tells holds short)

one-verdict : (old : Files) (c : Building) (config : Config) (app : App) (arrivals : List Arrival) (oil src arr : List ℕ) (r : Refusal)
    → AreThere old c oil src arr → IsAccepted old c config app arrivals → IsRefusal oil src arr r → ⊥
one-verdict old c config app arrivals oil src arr r there h refusal =
    let i = h.inputs in
    let oil_is : oil ≡ h.oil = told old c.oil oil h.oil there.tells there.inputs.oil_read i.oil_read in
    let src_is : src ≡ h.src = told old c.src src h.src there.tells there.inputs.src_read i.src_read in
    let arr_is : arr ≡ h.arr = told-arrivals old c.run arr h.arr there.tells there.inputs.arr_read i.arr_read in
    let by_arr : IsRefusal oil src h.arr r = subst (λ x. IsRefusal oil src x r) arr_is refusal in
    let by_src : IsRefusal oil h.src h.arr r = subst (λ x. IsRefusal oil x h.arr r) src_is by_arr in
    not-refused h.oil h.src h.arr config app r h.accepted h.read.no_fault (subst (λ x. IsRefusal x h.src h.arr r) oil_is by_src)

told-refusal : (old : Files) (c : Building) (oil src arr : List ℕ) (r s : Refusal) → AreThere old c oil src arr → IsRefused old c r → IsRefusal oil src arr s → r ≡ s
told-refusal old c oil src arr r s there refused refusal =
    let i = refused.inputs in
    let oil_is : oil ≡ refused.oil = told old c.oil oil refused.oil there.tells there.inputs.oil_read i.oil_read in
    let src_is : src ≡ refused.src = told old c.src src refused.src there.tells there.inputs.src_read i.src_read in
    let arr_is : arr ≡ refused.arr = told-arrivals old c.run arr refused.arr there.tells there.inputs.arr_read i.arr_read in
    let by_arr : IsRefusal oil src refused.arr s = subst (λ x. IsRefusal oil src x s) arr_is refusal in
    let by_src : IsRefusal oil refused.src refused.arr s = subst (λ x. IsRefusal oil x refused.arr s) src_is by_arr in
    one-way refused.oil refused.src refused.arr r s refused.is (subst (λ x. IsRefusal x refused.src refused.arr s) oil_is by_src)

refused-verdict : (old : Files) (c : Building) (config : Config) (app : App) (oil src arr : List ℕ) (r : Refusal)
    → AreThere old c oil src arr → AreAccepted oil src config app → NoFault (ArrivalsFault (task_names config) (counter_names config) arr) → IsRefused old c r → ⊥
refused-verdict old c config app oil src arr r there h none refused =
    let i = refused.inputs in
    let oil_is : refused.oil ≡ oil = told old c.oil refused.oil oil there.tells i.oil_read there.inputs.oil_read in
    let src_is : refused.src ≡ src = told old c.src refused.src src there.tells i.src_read there.inputs.src_read in
    let arr_is : refused.arr ≡ arr = told-arrivals old c.run refused.arr arr there.tells i.arr_read there.inputs.arr_read in
    let by_arr : IsRefusal refused.oil refused.src arr r = subst (λ x. IsRefusal refused.oil refused.src x r) arr_is refused.is in
    let by_src : IsRefusal refused.oil src arr r = subst (λ x. IsRefusal refused.oil x arr r) src_is by_arr in
    not-refused oil src arr config app r h none (subst (λ x. IsRefusal x src arr r) oil_is by_src)

-- ---- puts and writes

-- a put that broke off is counted
pub counted-put : (old new : Output) (text : List ℕ) → IsTextBrokenOff old new text → Rose old.faults new.faults
counted-put old new text h = let rose : new.faults ≡ min (old.faults + 1) 18446744073709551615 = ap (λ (o : Output). o.faults) h.3 in omega (arith, rose)

full : (taken : Option (List ℕ)) (space : Option ℕ) (text : List ℕ) → HasSpace taken space text → HasNoSpace taken space text → ⊥
full taken None text h n = h
full None (Some space) text h n = h
full (Some taken) (Some space) text h n =
    let room : length taken + length text ≤ space = h in let over : space < length taken + length text = n in omega (arith, room, over)

pub no-broken-put : (old new : Output) (text : List ℕ) → PutsWork old new text → IsTextBrokenOff old new text → ⊥
no-broken-put old new text (inl stay) h = stays old.faults new.faults stay (counted-put old new text h)
no-broken-put old new text (inr room) h = full old.taken old.space text room h.4

pub no-failed-write : (old new : Files) (name : List ℕ) (size : ℕ) → WritesWork old new name size → IsUnwritten old new name size → ⊥
no-failed-write old new name size (inl stay) h = stays old.failed_writes new.failed_writes stay h.0
no-failed-write old new name size (inr works) h = let a = h.1 works.0 in let b = works.1 in cc

-- words of a tool are those of no other command
pub no-tool : (words : List (List ℕ)) (u : ToolUse) (c : Command) → IsCommand words (Uses u) → IsCommand words c → IsNoTool c → ⊥
no-tool words u c used is other = subst IsNoTool (one-command words c (Uses u) is used) other

-- the words of a command that is none, and whose output has a name of its own, are not answered by `usage`
pub never-usage : (tools : ToolTable) (words : List (List ℕ)) (old new : Files) (c : Command) → IsNoTool c → IsCommand words c → (OverwritesInput old new c → ⊥)
    → IsUsageCause words old new ⊎ LacksTask tools words old → ⊥
never-usage tools words old new c plain is keeps (inl h) = no-usage words old new c is keeps h
never-usage tools words old new c plain is keeps (inr h) = no-tool words h.0 c h.1 is plain

-- ---- Usage

usage-by : (tools : ToolTable) (wanted answer : Status) (words : List (List ℕ)) (old new : World) (text : List ℕ) → IsRequired tools wanted words old.files new.files text
    → IsPutAnswer wanted answer old.sink new.sink text → NoCommand words → IsUsageAnswer old new answer
usage-by tools status.Usage answer words old new text r (inl p) none = inl p.0
usage-by tools status.Usage answer words old new text r (inr p) none = inr (p.0, counted-put old.sink new.sink text p.1)
usage-by tools status.Done answer words old new text r p none = absurd (none r.0 r.1)
usage-by tools status.Refused answer words old new text r p none = absurd (none r.0 r.1)
usage-by tools status.ReadFault answer words old new text r p none = absurd (none r.0 r.1)
usage-by tools status.WriteFault answer words old new text r p none = absurd (none r.0 r.1)
usage-by tools status.NoMemory answer words old new text r p none = absurd (none r.0 r.1)
usage-by tools status.TooLong answer words old new text r p none = absurd (none r.0 r.1)
usage-by tools status.Stopped answer words old new text r p none = absurd (none r.0 r.1)
usage-by tools status.NotAnImage answer words old new text r p none = absurd (none r.0 r.1)
usage-by tools status.NotAnElf answer words old new text r p none = absurd (none (Uses r.0) r.1)
usage-by tools (status.Explained kind) answer words old new text r p none = absurd (none (Uses r.0) r.1)
usage-by tools status.BadTrace answer words old new text r p none = absurd (none (Uses r.0) r.1)
usage-by tools status.NoHolds answer words old new text r p none = absurd (none (Uses r.0) r.1)
usage-by tools status.Unmet answer words old new text r p none = absurd (none (Uses r.0) r.1)

pub tells-usage : (tools : ToolTable) (words : List (List ℕ)) (old new : World) (answer : Status) → IsTopAnswer tools words old new answer → HasUsageAnswer words old new answer
tells-usage tools words old new answer h none = usage-by tools h.wanted answer words old new h.text h.required h.puts none

-- the line was put, or broke off
pub usage-of-put : (old new : Output) (answer : Status) (text : List ℕ) → IsPutAnswer status.Usage answer old new text
    → (answer ≡ status.Usage) ⊎ ((answer ≡ status.WriteFault) × Rose old.faults new.faults)
usage-of-put old new answer text (inl p) = inl p.0
usage-of-put old new answer text (inr p) = inr (p.0, counted-put old new text p.1)

-- ---- Refused

refused-by : (tools : ToolTable) (wanted answer : Status) (words : List (List ℕ)) (old new : World) (text : List ℕ) (c : Building) (oil src arr : List ℕ) (r : Refusal)
    → IsRequired tools wanted words old.files new.files text → IsPutAnswer wanted answer old.sink new.sink text
    → IsCommand words (Builds c) → AreThere old.files c oil src arr → ReadsWork old.files new.files → IsRefusal oil src arr r → IsRefusalAnswer old new r answer
refused-by tools status.Refused answer words old new text c oil src arr r q (inl p) is there works refusal =
    let same : q.2 ≡ r =
    told-refusal old.files c oil src arr q.2 r there (subst (λ x. IsCommandRefused tools old.files x q.2) (one-command words q.0 (Builds c) q.1 is) q.3) refusal in
    inl (p.0, subst (λ x. IsTextTaken old.sink new.sink x) (q.4 ∙ ap refusal_line same) p.1)
refused-by tools status.Refused answer words old new text c oil src arr r q (inr p) is there works refusal =
    inr (inr (p.0, counted-put old.sink new.sink text p.1))
refused-by tools status.NoMemory answer words old new text c oil src arr r q (inl p) is there works refusal = inr (inl p.0)
refused-by tools status.NoMemory answer words old new text c oil src arr r q (inr p) is there works refusal =
    inr (inr (p.0, counted-put old.sink new.sink text p.1))
refused-by tools status.Usage answer words old new text c oil src arr r q p is there works refusal =
    absurd (never-usage tools words old.files new.files (Builds c) tt is (keeps-inputs old.files new.files (Builds c) there.tells there.own_output) q.0)
refused-by tools status.Done answer words old new text c oil src arr r q p is there works refusal =
    let d = subst (λ x. IsCommandDone tools old.files new.files x text) (one-command words q.0 (Builds c) q.1 is) q.2 in
    absurd (one-verdict old.files c d.config d.app d.arrivals oil src arr r there d.accepted refusal)
refused-by tools status.ReadFault answer words old new text c oil src arr r q p is there works refusal =
    absurd (no-failed-read old.files new.files c oil src arr there works (subst (IsFailedRead old.files new.files) (one-command words q.0 (Builds c) q.1 is) q.2))
refused-by tools status.WriteFault answer words old new text c oil src arr r q p is there works refusal =
    let d = subst (IsCommandUnwritten tools old.files new.files) (one-command words q.0 (Builds c) q.1 is) q.2 in
    absurd (one-verdict old.files c d.config d.app d.arrivals oil src arr r there d.accepted refusal)
refused-by tools status.TooLong answer words old new text c oil src arr r q p is there works refusal =
    absurd (no-long-read old.files new.files c oil src arr there (subst (IsLongRead old.files new.files) (one-command words q.0 (Builds c) q.1 is) q.2))
refused-by tools status.Stopped answer words old new text c oil src arr r q p is there works refusal =
    absurd (subst (λ x. IsCommandStopped tools old.files new.files x text) (one-command words q.0 (Builds c) q.1 is) q.2)
refused-by tools status.NotAnImage answer words old new text c oil src arr r q p is there works refusal =
    absurd (subst (λ x. IsNoImage old.files x q.2) (one-command words q.0 (Builds c) q.1 is) q.3).inputs
refused-by tools status.NotAnElf answer words old new text c oil src arr r q p is there works refusal = absurd (no-tool words q.0 (Builds c) q.1 is tt)
refused-by tools (status.Explained kind) answer words old new text c oil src arr r q p is there works refusal = absurd (no-tool words q.0 (Builds c) q.1 is tt)
refused-by tools status.BadTrace answer words old new text c oil src arr r q p is there works refusal = absurd (no-tool words q.0 (Builds c) q.1 is tt)
refused-by tools status.NoHolds answer words old new text c oil src arr r q p is there works refusal = absurd (no-tool words q.0 (Builds c) q.1 is tt)
refused-by tools status.Unmet answer words old new text c oil src arr r q p is there works refusal = absurd (no-tool words q.0 (Builds c) q.1 is tt)

pub tells-refused : (tools : ToolTable) (words : List (List ℕ)) (old new : World) (answer : Status) → IsTopAnswer tools words old new answer → HasRefusalAnswer words old new answer
tells-refused tools words old new answer h c is oil src arr there works r refusal =
    refused-by tools h.wanted answer words old new h.text c oil src arr r h.required h.puts is there works refusal

-- ---- Done

-- no put failed, so the answer is the one that was wanted
pub stands : (tools : ToolTable) (wanted answer : Status) (words : List (List ℕ)) (old new : World) (text : List ℕ) → PutsWork old.sink new.sink text
    → IsRequired tools wanted words old.files new.files text → IsPutAnswer wanted answer old.sink new.sink text → IsFullAnswer tools wanted words old new answer
stands tools wanted answer words old new text w q (inl p) = (p.0, (text, q, p.1))
stands tools wanted answer words old new text w q (inr p) = absurd (no-broken-put old.sink new.sink text w p.1)

-- the inputs have one meaning
one-app : (old : Files) (c : Building) (oil src arr : List ℕ) (config other : Config) (app another : App) (arrivals others : List Arrival)
    → AreThere old c oil src arr → AreAccepted oil src config app → AreArrivalsOf (task_names config) (counter_names config) arr arrivals → IsAccepted old c other another others
    → (other ≡ config) × (another ≡ app) × (others ≡ arrivals)
one-app old c oil src arr config other app another arrivals others there h read g =
    let i = g.inputs in
    let oil_is : g.oil ≡ oil = told old c.oil g.oil oil there.tells i.oil_read there.inputs.oil_read in
    let src_is : g.src ≡ src = told old c.src g.src src there.tells i.src_read there.inputs.src_read in
    let arr_is : g.arr ≡ arr = told-arrivals old c.run g.arr arr there.tells i.arr_read there.inputs.arr_read in
    let by_src : AreAccepted g.oil src other another = subst (λ x. AreAccepted g.oil x other another) src_is g.accepted in
    let same = one_meaning oil src other config another app (subst (λ x. AreAccepted x src other another) oil_is by_src) h in
    let by_names = ap (λ (k : Config). arrivals_in (task_names k) (counter_names k) g.arr) same.0 in
    let by_text = ap (λ x. arrivals_in (task_names config) (counter_names config) x) arr_is in
    (same.0, same.1, g.read.arrivals_are ∙ (by_names ∙ (by_text ∙ sym read.arrivals_are)))

-- an image of one is an image of the other
pub image-of : (config other : Config) (app another : App) (image : Image) → (other ≡ config) × (another ≡ app) → IsBuiltImage other another image
    → IsBuiltImage config app image
image-of config other app another image same h =
    subst (λ x. IsBuiltImage config x image) same.1 (subst (λ x. IsBuiltImage x another image) same.0 h)

module _ (tools : ToolTable) (old new : World) (c : Building) (oil src arr : List ℕ) (config : Config) (app : App) (arrivals : List Arrival)
    (there : AreThere old.files c oil src arr) (h : AreAccepted oil src config app) (read : AreArrivalsOf (task_names config) (counter_names config) arr arrivals)
    (works : CallsWork c config app arrivals old new) where
  complete-by : (wanted answer : Status) (words : List (List ℕ)) (text : List ℕ) → IsRequired tools wanted words old.files new.files text
      → IsPutAnswer wanted answer old.sink new.sink text → IsCommand words (Builds c)
      → IsFullAnswer tools status.Done words old new answer ⊎ IsFullAnswer tools status.NoMemory words old new answer
  complete-by status.Done answer words text q p is =
      let d = subst (λ x. IsCommandDone tools old.files new.files x text) (one-command words q.0 (Builds c) q.1 is) q.2 in
      let same = one-app old.files c oil src arr config d.config app d.app arrivals d.arrivals there h read d.accepted in
      let lines = works.lines d.image (image-of config d.config app d.app d.image (same.0, same.1) d.is_image) in
      let text_is : text ≡ done_text d.image arrivals c.run = d.text_is ∙ ap (λ (xs : List Arrival). done_text d.image xs c.run) same.2 in
      inl (stands tools status.Done answer words old new text (subst (λ x. PutsWork old.sink new.sink x) (sym text_is) lines) q p)
  complete-by status.NoMemory answer words text q p is =
      inr (stands tools status.NoMemory answer words old new text (subst (λ x. PutsWork old.sink new.sink x) (sym q.2) works.last_line) q p)
  complete-by status.Usage answer words text q p is =
      absurd (never-usage tools words old.files new.files (Builds c) tt is (keeps-inputs old.files new.files (Builds c) there.tells there.own_output) q.0)
  complete-by status.Refused answer words text q p is =
      absurd (refused-verdict old.files c config app oil src arr q.2 there h read.no_fault
      (subst (λ x. IsCommandRefused tools old.files x q.2) (one-command words q.0 (Builds c) q.1 is) q.3))
  complete-by status.ReadFault answer words text q p is =
      absurd (no-failed-read old.files new.files c oil src arr there works.reads (subst (IsFailedRead old.files new.files) (one-command words q.0 (Builds c) q.1 is) q.2))
  complete-by status.WriteFault answer words text q p is =
      let d = subst (IsCommandUnwritten tools old.files new.files) (one-command words q.0 (Builds c) q.1 is) q.2 in
      let same = one-app old.files c oil src arr config d.config app d.app arrivals d.arrivals there h read d.accepted in
      let image = image-of config d.config app d.app d.image (same.0, same.1) d.is_image in
      absurd (no-failed-write old.files new.files c.img (length (image_bytes d.image)) (works.write d.image image) d.failed)
  complete-by status.TooLong answer words text q p is =
      absurd (no-long-read old.files new.files c oil src arr there (subst (IsLongRead old.files new.files) (one-command words q.0 (Builds c) q.1 is) q.2))
  complete-by status.Stopped answer words text q p is =
      absurd (subst (λ x. IsCommandStopped tools old.files new.files x text) (one-command words q.0 (Builds c) q.1 is) q.2)
  complete-by status.NotAnImage answer words text q p is =
      absurd (subst (λ x. IsNoImage old.files x q.2) (one-command words q.0 (Builds c) q.1 is) q.3).inputs
  complete-by status.NotAnElf answer words text q p is = absurd (no-tool words q.0 (Builds c) q.1 is tt)
  complete-by (status.Explained kind) answer words text q p is = absurd (no-tool words q.0 (Builds c) q.1 is tt)
  complete-by status.BadTrace answer words text q p is = absurd (no-tool words q.0 (Builds c) q.1 is tt)
  complete-by status.NoHolds answer words text q p is = absurd (no-tool words q.0 (Builds c) q.1 is tt)
  complete-by status.Unmet answer words text q p is = absurd (no-tool words q.0 (Builds c) q.1 is tt)

pub is-complete : (tools : ToolTable) (words : List (List ℕ)) (old new : World) (answer : Status) → IsTopAnswer tools words old new answer → IsComplete tools words old new answer
is-complete tools words old new answer a c is oil src arr there config app accepted arrivals read works =
    complete-by tools old new c oil src arr config app arrivals there accepted read works a.wanted answer words a.text a.required a.puts is
