-- What each instruction of a jump or a branch does.
use Rattle.std.proofs.Common.{◌≡◌, ℕ, zero, suc, ◌+◌, ◌-◌, ◌*◌, ◌%◌, ◌<◌, ◌≤◌, ℤ, pos, List, [], ◌∷◌, ◌++◌, length, refl, sym, ap, ◌∙◌, arith, Bool, true, false, not, cond, Some, None}
use Rattle.std.specs.Prelude.{slice_index}
use Rattle.std.proofs.lemmas.Option.{slice_get-get_or}
use Rattle.sloth_base.specs.Arithmetic.{hi, lo, plus, branch_holds}
use Rattle.sloth_base.specs.Machine.{State}
use Rattle.sloth_base.specs.Named.{function, label_of, no_label}
use Rattle.sloth_base.specs.declared.app.App.{App}
use Rattle.sloth_base.specs.declared.app.BranchKind.{BranchKind}
use Rattle.sloth_base.specs.declared.app.Label.{Label}
use Rattle.sloth_base.specs.declared.app.Op.{Op}
use Rattle.sloth_base.specs.declared.app.Op.TheVariants as op
use Rattle.sloth_base.specs.declared.image.MarkKind.TheVariants as mark_kind
use Rattle.code_rules.specs.AppRange.{IsRegister}
use Rattle.sloth_base.specs.MemoryMap.{memory_bytes, memory_base}
use Rattle.rv32_instr.specs.declared.InstrKind.{InstrKind}
use Rattle.rv32_instr.specs.declared.InstrKind.TheVariants.{Lui, Addi, Jal, Jalr}
use Rattle.rv32_instr.specs.declared.encoding.Effect.TheVariants.{Branch, Write}
use Rattle.rv32_instr.specs.Effect.{effect}
use Rattle.rv32_instr.specs.Execute.{Going, perform, touched_line_by, next_at_target}
use Rattle.masked_code.specs.Place.{offset_state}
use Rattle.masked_code.proofs.Machine.{next_at, jump_at}
use Rattle.masked_code.proofs.Parts.{hi_lo}
use Rattle.rv32_expand.specs.Expansion.{item_address, label_address, distance, test, opposite, operation_code}
use Rattle.rv32_expand.specs.InPlace.{result_register, mark_of}
use Rattle.observe.specs.Observe.{View}
use Rattle.osek_scheduler.specs.State.{Frame}
use Rattle.osek_scheduler.specs.Meaning.{meaning, register, target, jump_meaning, on_some}
use Rattle.sim_relation.specs.Build.{Build, HasFittingPlaces}
use Rattle.sim_relation.specs.Position.{Thread, HasTarget, HasScratch, thread_of}
use Rattle.sim_items.specs.Place.{FunctionStands, IsTarget, IsFlow}
use Rattle.sim_items.proofs.Distances.{arrives, jumps_to, IsInRam, item_in_ram, test_effect, opposite_holds}
use Rattle.sim_items.proofs.Preparing.{Prepares, prepares}
use Rattle.sim_items.proofs.Values.{own_meaning}

module _ (app : App) (func item : ℕ) (P : Op → Type 0)
    (jump : (label : ℕ) → IsFlow app func item (op.Jump label) → P (op.Jump label))
    (branch : (kind : BranchKind) (rs1 rs2 label : ℕ) → IsFlow app func item (op.Branch kind rs1 rs2 label) → P (op.Branch kind rs1 rs2 label)) where
  -- an item of these is a label, a jump or a branch
  pub flow_cases : (operation : Op) → IsFlow app func item operation → P operation
  flow_cases (op.Jump label) h = jump label h
  flow_cases (op.Branch kind rs1 rs2 label) h = branch kind rs1 rs2 label h
  flow_cases (op.Alu kind rd rs1 rs2) h = absurd h
  flow_cases (op.AluImm kind rd rs1 number) h = absurd h
  flow_cases (op.Lui rd number) h = absurd h
  flow_cases (op.Li rd value) h = absurd h
  flow_cases (op.FrameLoad rd word) h = absurd h
  flow_cases (op.FrameStore rs word) h = absurd h
  flow_cases (op.Load w rd y offset) h = absurd h
  flow_cases (op.Store w rs y offset) h = absurd h
  flow_cases (op.LoadAt w rd y index mask) h = absurd h
  flow_cases (op.StoreAt w rs y index mask) h = absurd h
  flow_cases (op.Invoke callee) h = absurd h
  flow_cases op.Return h = absurd h
  flow_cases (op.Serve call) h = absurd h

-- its mark shows its Run event
pub flow_mark : (app : App) (func item address : ℕ) (o : Op) → IsFlow app func item o
    → mark_of o address func item ≡ record { address = address; kind = mark_kind.Item; a = result_register o; b = func; c = item }
flow_mark app func item address =
    flow_cases app func item (λ o. mark_of o address func item ≡ record { address = address; kind = mark_kind.Item; a = result_register o; b = func; c = item })
    (λ label h. refl) (λ kind rs1 rs2 label h. refl)

-- none of them has a result
pub no_result : (app : App) (func item : ℕ) (o : Op) → IsFlow app func item o → result_register o ≡ 0
no_result app func item = flow_cases app func item (λ o. result_register o ≡ 0) (λ label h. refl) (λ kind rs1 rs2 label h. refl)

-- the last instruction goes on at an item of the function, and changes nothing else
pub record Turns (b : Build) (state : State) (own : List ℕ) (symbols : List (List ℕ)) (frame : Frame) (outer : List Frame) (long : Bool) (operation : Op) (done : ℕ) : Type 0 where
  pub before : List InstrKind
  pub kind : InstrKind
  pub expands : operation_code b.app b.places frame.func (item_address b.places frame.func frame.item) long operation ≡ before ++ (kind ∷ [])
  pub reached : length before ≡ done
  pub item : ℕ
  pub exists : item < length (function b.app frame.func).items
  pub performs : (offset word : ℕ) → memory_base + offset ≡ item_address b.places frame.func frame.item + 4 * done → offset + 4 ≤ memory_bytes
      → perform (effect kind (memory_base + offset) state.core.registers) word (memory_base + offset) state.core ≡ Going (record { pc = item_address b.places frame.func item; core = state.core })
  pub quiet : (pc : ℕ) → touched_line_by (effect kind pc state.core.registers) ≡ None
  pub means : meaning b.app operation own frame outer symbols
      ≡ Some (record { registers = own; frames = record frame { item = item } ∷ outer; symbols = symbols; result = 0 })

module _ (b : Build) (view : View) (fits : HasFittingPlaces b) (state : State) (own : List ℕ) (symbols : List (List ℕ)) (frame : Frame) (outer : List Frame) (wide : length state.core.registers ≡ 32)
    (agree : (r : ℕ) → IsRegister r → slice_index state.core.registers r ≡ register own r) (inside : frame.item < length (function b.app frame.func).items)
    (stand : FunctionStands b view frame.func) where
  abbrev x : List ℕ
  x = state.core.registers

  abbrev address : ℕ
  address = item_address b.places frame.func frame.item

  abbrev expansion_of : Bool → Op → List InstrKind
  expansion_of long o = operation_code b.app b.places frame.func address long o

  -- the next item stands behind this one
  abbrev IsAdjacent : Bool → Op → Type 0
  IsAdjacent long o = frame.item + 1 < length (function b.app frame.func).items → item_address b.places frame.func (frame.item + 1) ≡ address + 4 * length (expansion_of long o)

  abbrev Last : Bool → Op → Type 0
  Last long o = (done : ℕ) → HasScratch b own frame o done (thread_of state) → IsAdjacent long o → done + 1 ≡ length (expansion_of long o) → Turns b state own symbols frame outer long o done

  abbrev Inner : Bool → Op → Type 0
  Inner long o = (done : ℕ) → HasScratch b own frame o done (thread_of state) → done + 1 < length (expansion_of long o) → Prepares b state own frame long o done

  abbrev label_item : ℕ → ℕ
  label_item label = (label_of (function b.app frame.func) label).item

  abbrev lands : ℕ → ℕ
  lands label = label_address b.app b.places frame.func label

  here_ram : IsInRam address
  here_ram = item_in_ram b view frame.func frame.item (stand frame.item inside)

  label_ram : (label : ℕ) → IsTarget b.app frame.func label → IsInRam (lands label)
  label_ram label h = item_in_ram b view frame.func (label_item label) (stand (label_item label) h.inside)

  arrives_at : (label : ℕ) → IsTarget b.app frame.func label → plus address (distance address (lands label)) ≡ lands label
  arrives_at label h = let f = here_ram.to in let t = (label_ram label h).to in arrives address (lands label) (omega arith) (omega arith)

  jumps_item : (item : ℕ) → next_at_target (item_address b.places frame.func item) state.core ≡ Going (record { pc = item_address b.places frame.func item; core = state.core })
  jumps_item item = jumps_to (item_address b.places frame.func item) state.core (fits.items frame.func item)

  target_is : (label : ℕ) → IsTarget b.app frame.func label → target b.app frame label ≡ Some (label_item label)
  target_is label h = ap (λ found. on_some found (λ (l : Label). Some l.item)) (slice_get-get_or (function b.app frame.func).labels label no_label h.known)

  -- ---- a jump

  of_jump : (long : Bool) (label : ℕ) → IsTarget b.app frame.func label → Last long (op.Jump label)
  unfolding perform touched_line_by
  of_jump long label h done scratch adjacent last = record {
    before = [];
    kind = Jal 0 (distance address (lands label));
    expands = refl;
    reached = omega arith;
    item = label_item label;
    exists = h.inside;
    performs = performs;
    quiet = quiet;
    means = ap (λ found. on_some found (λ item. jump_meaning item own frame outer symbols)) (target_is label h);
  }
    where
      performs : (offset word : ℕ) → memory_base + offset ≡ address + 4 * done → offset + 4 ≤ memory_bytes
          → perform (effect (Jal 0 (distance address (lands label))) (memory_base + offset) x) word (memory_base + offset) state.core ≡ Going (record { pc = lands label; core = state.core })
      performs offset word e l =
          let f : memory_base + offset ≡ address = omega arith in
          ap (λ p. next_at_target (plus p (distance address (lands label))) state.core) f ∙ ap (λ p. next_at_target p state.core) (arrives_at label h) ∙ jumps_item (label_item label)

      quiet : (pc : ℕ) → touched_line_by (effect (Jal 0 (distance address (lands label))) pc x) ≡ None
      quiet pc = refl

  -- ---- a branch

  module _ (kind : BranchKind) (rs1 rs2 label : ℕ) (h : IsFlow b.app frame.func frame.item (op.Branch kind rs1 rs2 label)) where
    abbrev this : Op
    this = op.Branch kind rs1 rs2 label

    abbrev holds : Bool
    holds = branch_holds kind (register own rs1) (register own rs2)

    -- the item where it goes on
    abbrev chosen : Bool → ℕ
    chosen taken = cond taken (label_item label) (frame.item + 1)

    exists : (taken : Bool) → chosen taken < length (function b.app frame.func).items
    exists true = h.2.inside
    exists false = h.3

    means : (taken : Bool) → holds ≡ taken → meaning b.app this own frame outer symbols
        ≡ Some (record { registers = own; frames = record frame { item = chosen taken } ∷ outer; symbols = symbols; result = 0 })
    means taken e =
        own_meaning b.app this own frame outer symbols (h.0, (h.1, tt))
        ∙ ap (λ found. on_some found (λ item. jump_meaning (cond holds item (frame.item + 1)) own frame outer symbols)) (target_is label h.2)
        ∙ ap (λ t. jump_meaning (cond t (label_item label) (frame.item + 1)) own frame outer symbols) e

    -- the test of the machine's registers
    tests : branch_holds kind (slice_index x rs1) (slice_index x rs2) ≡ holds
    tests = ap (λ v. branch_holds kind v (slice_index x rs2)) (agree rs1 h.0) ∙ ap (λ v. branch_holds kind (register own rs1) v) (agree rs2 h.1)

    quiet_test : (k : BranchKind) (offset : ℤ) (pc : ℕ) → touched_line_by (effect (test k rs1 rs2 offset) pc x) ≡ None
    unfolding touched_line_by
    quiet_test k offset pc = ap touched_line_by (test_effect k rs1 rs2 offset pc x)

    -- short
    short_performs : (taken : Bool) → holds ≡ taken → IsAdjacent false this → (offset word : ℕ) → memory_base + offset ≡ address → offset + 4 ≤ memory_bytes
        → perform (effect (test kind rs1 rs2 (distance address (lands label))) (memory_base + offset) x) word (memory_base + offset) state.core
        ≡ Going (record { pc = item_address b.places frame.func (chosen taken); core = state.core })
    unfolding perform
    short_performs true e adjacent offset word f l =
        ap (λ v. perform v word (memory_base + offset) state.core)
        (test_effect kind rs1 rs2 (distance address (lands label)) (memory_base + offset) x ∙ ap (λ v. Branch v (plus (memory_base + offset) (distance address (lands label)))) (tests ∙ e))
        ∙ ap (λ p. next_at_target (plus p (distance address (lands label))) state.core) f ∙ ap (λ p. next_at_target p state.core) (arrives_at label h.2) ∙ jumps_item (label_item label)
    short_performs false e adjacent offset word f l =
        let a = adjacent h.3 in
        let q : memory_base + (offset + 4) ≡ item_address b.places frame.func (frame.item + 1) = omega arith in
        ap (λ v. perform v word (memory_base + offset) state.core)
        (test_effect kind rs1 rs2 (distance address (lands label)) (memory_base + offset) x ∙ ap (λ v. Branch v (plus (memory_base + offset) (distance address (lands label)))) (tests ∙ e))
        ∙ next_at offset state.core l ∙ ap (λ p. Going (record { pc = p; core = state.core })) q

    short : Last false this
    short done scratch adjacent last = record {
      before = [];
      kind = test kind rs1 rs2 (distance address (lands label));
      expands = refl;
      reached = omega arith;
      item = chosen holds;
      exists = exists holds;
      performs = λ offset word e l. short_performs holds refl adjacent offset word (omega arith) l;
      quiet = quiet_test kind (distance address (lands label));
      means = means holds refl;
    }

    -- long
    abbrev next : ℕ
    next = address + 24

    abbrev first : List InstrKind
    first = Lui 31 (hi next) ∷ Addi 31 31 (lo next) ∷ []

    abbrev tested : InstrKind
    tested = test (opposite kind) rs1 rs2 (pos 12)

    abbrev second : List InstrKind
    second = Lui 31 (hi (lands label)) ∷ Addi 31 31 (lo (lands label)) ∷ []

    chosen_address : (taken : Bool) → IsAdjacent true this → cond taken (lands label) next ≡ item_address b.places frame.func (chosen taken)
    chosen_address true adjacent = refl
    chosen_address false adjacent = let a : item_address b.places frame.func (frame.item + 1) ≡ address + 4 * 6 = adjacent h.3 in omega arith

    even : (a : ℕ) → a < 4294967296 → a % 4 ≡ 0 → plus a (pos 0) - plus a (pos 0) % 2 ≡ a
    even a l m = omega arith

    abbrev goal : ℕ
    goal = item_address b.places frame.func (chosen holds)

    long : Last true this
    unfolding perform touched_line_by
    long done scratch adjacent last = record {
      before = first ++ (tested ∷ second);
      kind = Jalr 0 31 (pos 0);
      expands = refl;
      reached = omega arith;
      item = chosen holds;
      exists = exists holds;
      performs = performs;
      quiet = quiet;
      means = means holds refl;
    }
      where
        x31 : slice_index x 31 ≡ goal
        x31 = scratch.chosen (omega arith) ∙ chosen_address holds adjacent

        goal_ram : IsInRam goal
        goal_ram = item_in_ram b view frame.func (chosen holds) (stand (chosen holds) (exists holds))

        performs : (offset word : ℕ) → memory_base + offset ≡ address + 4 * done → offset + 4 ≤ memory_bytes
            → perform (effect (Jalr 0 31 (pos 0)) (memory_base + offset) x) word (memory_base + offset) state.core ≡ Going (record { pc = goal; core = state.core })
        performs offset word e l =
            let r = goal_ram.to in
            ap (λ v. next_at_target (plus v (pos 0) - plus v (pos 0) % 2) state.core) x31
            ∙ ap (λ p. next_at_target p state.core) (even goal (omega arith) (fits.items frame.func (chosen holds))) ∙ jumps_item (chosen holds)

        quiet : (pc : ℕ) → touched_line_by (effect (Jalr 0 31 (pos 0)) pc x) ≡ None
        quiet pc = refl

    -- the instruction in the middle
    opposite_tests : (taken : Bool) → holds ≡ taken → branch_holds (opposite kind) (slice_index x rs1) (slice_index x rs2) ≡ not taken
    opposite_tests taken e = opposite_holds kind (slice_index x rs1) (slice_index x rs2) ∙ ap not (tests ∙ e)

    goes_inside : (taken : Bool) → holds ≡ taken → (offset word : ℕ) → offset + 4 ≤ memory_bytes → offset % 4 ≡ 0
        → perform (effect tested (memory_base + offset) x) word (memory_base + offset) state.core ≡ Going (offset_state (offset + 4 * cond taken 1 3) state.core)
    unfolding perform
    goes_inside true e offset word l a =
        ap (λ v. perform v word (memory_base + offset) state.core)
        (test_effect (opposite kind) rs1 rs2 (pos 12) (memory_base + offset) x ∙ ap (λ v. Branch v (plus (memory_base + offset) (pos 12))) (opposite_tests true e))
        ∙ next_at offset state.core l
    goes_inside false e offset word l a =
        let q : plus (memory_base + offset) (pos 12) ≡ memory_base + (offset + 12) = omega arith in
        ap (λ v. perform v word (memory_base + offset) state.core)
        (test_effect (opposite kind) rs1 rs2 (pos 12) (memory_base + offset) x ∙ ap (λ v. Branch v (plus (memory_base + offset) (pos 12))) (opposite_tests false e))
        ∙ ap (λ p. next_at_target p state.core) q ∙ jump_at (offset + 12) state.core (omega arith)

    abbrev Has : ℕ → Thread → Type 0
    Has d th = HasTarget holds next (lands label) d th

    behind_test : (taken : Bool) → holds ≡ taken → Has 2 (thread_of state) → (offset : ℕ) → Has (2 + cond taken 1 3) (thread_of (offset_state offset state.core))
    behind_test true e scratch offset = record {
      upper_next = λ c. absurd (omega arith);
      next_one = λ c d. scratch.next_one (omega arith) (omega arith);
      taken = λ c d. e;
      upper_target = λ c. absurd (omega arith);
      chosen = λ c. absurd (omega arith);
    }
    behind_test false e scratch offset = record {
      upper_next = λ c. absurd (omega arith);
      next_one = λ c d. absurd (omega arith);
      taken = λ c d. absurd (omega arith);
      upper_target = λ c. absurd (omega arith);
      chosen = λ c. scratch.next_one (omega arith) (omega arith) ∙ sym (ap (λ v. cond v (lands label) next) e);
    }

    fewer : (taken : Bool) → (0 < cond taken 1 3) × (2 + cond taken 1 3 < 6)
    fewer true = (omega arith, omega arith)
    fewer false = (omega arith, omega arith)

    in_the_middle : Has 2 (thread_of state) → Prepares b state own frame true this 2
    in_the_middle scratch = record {
      before = first;
      kind = tested;
      rest = second ++ (Jalr 0 31 (pos 0) ∷ []);
      expands = refl;
      reached = refl;
      steps = cond holds 1 3;
      some = (fewer holds).0;
      within = (fewer holds).1;
      registers = x;
      same = record { long = refl; same = λ i l. refl };
      performs = goes_inside holds refl;
      quiet = quiet_test (opposite kind) (pos 12);
      scratch = behind_test holds refl scratch;
    }

    inner : Inner true this
    inner zero scratch l =
        prepares b state own frame true wide agree this 0 [] (Lui 31 (hi next)) _ refl refl l 31 (hi next * 4096) (omega arith) (omega arith) (λ pc. refl)
        (λ th k. record {
          upper_next = λ c. k.is;
          next_one = λ c d. absurd (omega arith);
          taken = λ c d. absurd (omega arith);
          upper_target = λ c. absurd (omega arith);
          chosen = λ c. absurd (omega arith);
        })
    inner (suc zero) scratch l =
        prepares b state own frame true wide agree this 1 (Lui 31 (hi next) ∷ []) (Addi 31 31 (lo next)) _ refl refl l 31 next (omega arith) (omega arith)
        (λ pc. ap (λ v. Write 31 (plus v (lo next))) (scratch.upper_next refl) ∙ ap (λ v. Write 31 v) (hi_lo next (let r = here_ram.to in omega arith)))
        (λ th k. record {
          upper_next = λ c. absurd (omega arith);
          next_one = λ c d. k.is;
          taken = λ c d. absurd (omega arith);
          upper_target = λ c. absurd (omega arith);
          chosen = λ c. absurd (omega arith);
        })
    inner (suc (suc zero)) scratch l = in_the_middle scratch
    inner (suc (suc (suc zero))) scratch l =
        prepares b state own frame true wide agree this 3 (first ++ (tested ∷ [])) (Lui 31 (hi (lands label))) _ refl refl l 31 (hi (lands label) * 4096) (omega arith) (omega arith) (λ pc. refl)
        (λ th k. record {
          upper_next = λ c. absurd (omega arith);
          next_one = λ c d. absurd (omega arith);
          taken = λ c d. scratch.taken (omega arith) (omega arith);
          upper_target = λ c. k.is;
          chosen = λ c. absurd (omega arith);
        })
    inner (suc (suc (suc (suc zero)))) scratch l =
        prepares b state own frame true wide agree this 4 (first ++ (tested ∷ Lui 31 (hi (lands label)) ∷ [])) (Addi 31 31 (lo (lands label))) _ refl refl l 31 (lands label) (omega arith) (omega arith)
        (λ pc. ap (λ v. Write 31 (plus v (lo (lands label)))) (scratch.upper_target refl)
        ∙ ap (λ v. Write 31 v) (hi_lo (lands label) (let r = (label_ram label h.2).to in omega arith)))
        (λ th k. record {
          upper_next = λ c. absurd (omega arith);
          next_one = λ c d. absurd (omega arith);
          taken = λ c d. absurd (omega arith);
          upper_target = λ c. absurd (omega arith);
          chosen = λ c. k.is ∙ sym (ap (λ v. cond v (lands label) next) (scratch.taken (omega arith) (omega arith)));
        })
    inner (suc (suc (suc (suc (suc done))))) scratch l = absurd (omega arith)

    branch_last : (l : Bool) → Last l this
    branch_last true = long
    branch_last false = short

    branch_inner : (l : Bool) → Inner l this
    branch_inner true = inner
    branch_inner false = λ done scratch l. absurd (omega arith)

  -- the last instruction of each
  pub last_of : (long : Bool) (o : Op) → IsFlow b.app frame.func frame.item o → Last long o
  last_of long = flow_cases b.app frame.func frame.item (Last long) (λ label h. of_jump long label h) (λ kind rs1 rs2 label h. branch_last kind rs1 rs2 label h long)

  -- the instruction before the last one, where there is one
  pub inner_of : (long : Bool) (o : Op) → IsFlow b.app frame.func frame.item o → Inner long o
  inner_of long =
      flow_cases b.app frame.func frame.item (Inner long) (λ label h done scratch l. absurd (omega arith)) (λ kind rs1 rs2 label h. branch_inner kind rs1 rs2 label h long)
