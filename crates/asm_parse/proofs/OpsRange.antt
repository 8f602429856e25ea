-- A statement that was read, whose names are known, is an operation in range.
use Rattle.std.proofs.Common.{true≢false, ◌≡◌, sym, subst, refl, ⊎_elim, inl, ℕ, ℤ, pos, negsuc, ◌-◌, ◌≤◌, Bool, true, false, List, [], ◌∷◌, length, Some, arith}
use Rattle.std.specs.Prelude.{◌==◌, ◌||◌, not, nat_le, nat_lt, int_lt, if◌then◌else◌}
use Rattle.std.proofs.lemmas.Bool.{eqb-true, leb-true, ltb-false, not-true, or_parts, and_parts}
use Rattle.std.proofs.lemmas.Bool.Decides.{leb_tells, eqb_tells}
use Rattle.sloth_base.specs.Limits.{operand_limit}
use Rattle.sloth_base.specs.declared.app.App.{App}
use Rattle.sloth_base.specs.declared.app.Func.{Func}
use Rattle.sloth_base.specs.declared.app.Op.{Op}
use Rattle.sloth_base.specs.declared.app.Op.TheVariants as op
use Rattle.sloth_base.specs.declared.app.AluKind.{AluKind}
use Rattle.sloth_base.specs.declared.app.ImmKind.{ImmKind}
use Rattle.sloth_base.specs.declared.app.ImmKind.TheVariants.{Addi}
use Rattle.sloth_base.specs.declared.app.BranchKind.{BranchKind}
use Rattle.sloth_base.specs.declared.app.Width.{Width}
use Rattle.sloth_base.specs.declared.app.Width.TheVariants as width
use Rattle.sloth_base.specs.declared.config.Config.{Config}
use Rattle.sloth_base.specs.declared.service.Service.{Service}
use Rattle.sloth_base.specs.declared.service.Service.TheVariants as service
use Rattle.asm_lines.specs.declared.operands.Operand.{Operand}
use Rattle.asm_lines.specs.declared.operands.Operand.TheVariants.{Register, Number, Name, Frame, Direct, Indexed}
use Rattle.asm_lines.specs.declared.forms.Mnemonic.{Mnemonic}
use Rattle.asm_lines.specs.declared.forms.Mnemonic.TheVariants as m
use Rattle.asm_lines.specs.Numbers.{is_within}
use Rattle.asm_lines.specs.declared.forms.Form.TheVariants as form
use Rattle.asm_lines.specs.Forms.{is_operand_count, form_of}
use Rattle.asm_scopes.specs.declared.scope.Kind.TheVariants as kind
use Rattle.asm_scopes.specs.declared.scope.Scope.{Scope}
use Rattle.asm_scopes.specs.Statements.{is_action, written_name}
use Rattle.asm_scopes.specs.Scopes.{is_named, is_lacking, any_unknown, kind_of, service_kind}
use Rattle.asm_parse.specs.declared.operations.Access.{Access}
use Rattle.asm_parse.specs.declared.operations.Access.TheVariants.{Load, Store}
use Rattle.asm_parse.specs.Operations.{as_word, as_short, number_of, frame_op, symbol_op, element_op, access_op, op_by, call_of, mask_of}
use Rattle.code_rules.specs.AppRange.{IsRegister, IsShort, IsAmount, IsNumberOf, IsStored, IsSymbol, IsMask, IsOp}
use Rattle.asm_parse.proofs.Fit.{FitsForm, FitsRegister, FitsPlace, FitsWord, AllFit}
use Rattle.asm_parse.proofs.MnemonicKinds.{HasKind}
use Rattle.asm_parse.proofs.Known.{IsKnown}
use Rattle.asm_parse.proofs.Operands.{register_case, registers_case, name_case, number_case, none_of, one_of, two_of, three_of, some_of, some_two_of, does_exist, names, all_names}
use Rattle.asm_parse.proofs.MasksRange.{is_mask}

-- ---- numbers

-- a natural number from low to high is at most high
pub at_most : (low : ℤ) (k n : ℕ) → is_within low (pos k) (pos n) ≡ true → n ≤ k
at_most low k n e = ltb-false k n (not-true (nat_lt k n) (and_parts (not (int_lt (pos n) low)) (not (nat_lt k n)) e).1)

is_short : (n : ℤ) → IsShort (as_short n)
is_short n = by n (is_within (negsuc 2047) (pos 2047) n) refl
  where
    by : (n : ℤ) (b : Bool) → is_within (negsuc 2047) (pos 2047) n ≡ b → IsShort (if b then n else pos 0)
    by (pos n) true e = at_most (negsuc 2047) 2047 n e
    by (negsuc n) true e = ltb-false 2047 n (not-true (nat_lt 2047 n) (and_parts (not (nat_lt 2047 n)) _ e).0)
    by n false e = omega arith

small : (b : Bool) (n k : ℕ) → n ≤ k → (if b then n else 0) ≤ k
small true n k h = h
small false n k h = omega arith

amount : (n : ℤ) → is_within (pos 0) (pos 31) n ≡ true → IsAmount (as_short n)
amount (pos n) e = by (is_within (negsuc 2047) (pos 2047) (pos n))
  where
    by : (b : Bool) → IsAmount (if b then pos n else pos 0)
    by true = at_most (pos 0) 31 n e
    by false = omega arith
amount (negsuc n) e = cc

upper : (n : ℤ) → is_within (pos 0) (pos 1048575) n ≡ true → as_word n ≤ 1048575
upper (pos n) e = small (nat_le n 4294967295) n 1048575 (at_most (pos 0) 1048575 n e)
upper (negsuc n) e = cc

word : (n : ℤ) → as_word n ≤ 4294967295
word (pos n) = ⊎_elim (λ t. rw t.0 t.1) (λ t. rw t.0 (omega arith)) (leb_tells n 4294967295)
word (negsuc n) = small (nat_lt n 2147483648) (4294967295 - n) 4294967295 (omega arith)

-- ---- statements

module _ (config : Config) (app : App) (f : Func) (scope : Scope) (labels : List (List ℕ)) (known : IsKnown config app f scope labels) where
  -- the operation that a statement is, in range
  abbrev pub Ranged : Mnemonic → List Operand → Type 0
  Ranged m os = (o : Op) × (op_by config scope labels m os ≡ Some o) × IsOp config app f o

  -- a statement of operands that fit it, whose names exist
  abbrev Ranges : Mnemonic → List Operand → Type 0
  Ranges m os = AllFit m 0 os → any_unknown scope labels m 0 os ≡ false → Ranged m os

  alu_range : (k : AluKind) (a b c : Operand) → Ranges (m.Alu k) (a ∷ b ∷ c ∷ [])
  alu_range k a b c h u =
      registers_case (λ a b. Ranged (m.Alu k) (a ∷ b ∷ c ∷ []))
      (λ d r x y. register_case (λ c. Ranged (m.Alu k) (Register d ∷ Register r ∷ c ∷ [])) (λ s z. (op.Alu k d r s, refl, (x, y, z))) c h.1.1.0)
      a b h.0 h.1.0

  -- an operation on a register and a number from low to high
  amount_range : (w : Mnemonic) (k : ImmKind) (low high : ℤ) → ((d r : ℕ) (n : ℤ) → op_by config scope labels w (Register d ∷ Register r ∷ Number n ∷ []) ≡ Some (op.AluImm k d r (as_short n)))
      → ((n : ℤ) → is_within low high n ≡ true → IsNumberOf k (as_short n))
      → (a b c : Operand) → FitsRegister a → FitsRegister b → FitsForm (form.Number low high) c → Ranged w (a ∷ b ∷ c ∷ [])
  amount_range w k low high is are a b c h g e =
      registers_case (λ a b. Ranged w (a ∷ b ∷ c ∷ []))
      (λ d r x y. number_case low high (λ c. Ranged w (Register d ∷ Register r ∷ c ∷ [])) (λ n z. (op.AluImm k d r (as_short n), is d r n, (x, y, are n z))) c e)
      a b h g

  imm_range : (k : ImmKind) → HasKind (m.Imm k) → (a b c : Operand) → Ranges (m.Imm k) (a ∷ b ∷ c ∷ [])
  imm_range k g a b c h u = amount_range (m.Imm k) k (negsuc 2047) (pos 2047) (λ d r n. refl) (λ n z. g (as_short n) (is_short n)) a b c h.0 h.1.0 h.1.1.0

  shift_range : (k : ImmKind) → HasKind (m.Shift k) → (a b c : Operand) → Ranges (m.Shift k) (a ∷ b ∷ c ∷ [])
  shift_range k g a b c h u = amount_range (m.Shift k) k (pos 0) (pos 31) (λ d r n. refl) (λ n z. g (as_short n) (amount n z)) a b c h.0 h.1.0 h.1.1.0

  -- a register that gets a number from low to high as a word
  word_range : (w : Mnemonic) (low high : ℤ) (made : ℕ → ℕ → Op) → ((d : ℕ) (n : ℤ) → op_by config scope labels w (Register d ∷ Number n ∷ []) ≡ Some (made d (as_word n)))
      → ((d : ℕ) (n : ℤ) → IsRegister d → is_within low high n ≡ true → IsOp config app f (made d (as_word n)))
      → (a b : Operand) → FitsRegister a → FitsForm (form.Number low high) b → Ranged w (a ∷ b ∷ [])
  word_range w low high made is are a b h e =
      register_case (λ a. Ranged w (a ∷ b ∷ []))
      (λ d x. number_case low high (λ b. Ranged w (Register d ∷ b ∷ [])) (λ n z. (made d (as_word n), is d n, are d n x z)) b e) a h

  lui_range : (a b : Operand) → Ranges m.Lui (a ∷ b ∷ [])
  lui_range a b h u = word_range m.Lui (pos 0) (pos 1048575) op.Lui (λ d n. refl) (λ d n x z. (x, upper n z)) a b h.0 h.1.0

  li_range : (a b : Operand) → Ranges m.Li (a ∷ b ∷ [])
  li_range a b h u = word_range m.Li (negsuc 2147483647) (pos 4294967295) op.Li (λ d n. refl) (λ d n x z. (x, word n)) a b h.0 h.1.0

  move_range : (a b : Operand) → Ranges m.Move (a ∷ b ∷ [])
  move_range a b h u = registers_case (λ a b. Ranged m.Move (a ∷ b ∷ [])) (λ d r x y. (op.AluImm Addi d r (pos 0), refl, (x, y, omega arith))) a b h.0 h.1.0

  -- ---- accesses

  -- the operation of a load or store, in range
  abbrev Accessed : Access → Width → List Operand → Type 0
  Accessed a w os = (o : Op) × (access_op scope.symbols a w os ≡ Some o) × IsOp config app f o

  -- a width that this access has
  abbrev HasWidth : Access → Width → Type 0
  HasWidth Load w = Unit {0}
  HasWidth Store w = IsStored w

  frame_range : (a : Access) (s k : ℕ) → IsRegister s → k ≤ operand_limit → IsOp config app f (frame_op a s k)
  frame_range Load s k r h = (r, h)
  frame_range Store s k r h = (r, h)

  symbol_range : (a : Access) (w : Width) (s y k : ℕ) → HasWidth a w → IsRegister s → IsSymbol app y → k ≤ operand_limit → IsOp config app f (symbol_op a w s y k)
  symbol_range Load w s y k g r e h = (r, e, h)
  symbol_range Store w s y k g r e h = (g, r, e, h)

  element_range : (a : Access) (w : Width) (s y i k : ℕ) → HasWidth a w → IsRegister s → IsSymbol app y → IsRegister i → k ≤ operand_limit
      → IsOp config app f (element_op a w s y i k)
  element_range Load w s y i k g r e j h = (r, e, j, h)
  element_range Store w s y i k g r e j h = (g, r, e, j, h)

  -- what a name that exists and stands for a symbol is
  is_symbol : (name : List ℕ) → (not (is_named scope labels kind.Symbol name) || false) ≡ false → IsSymbol app (number_of scope.symbols name)
  is_symbol name u = known.symbol name (does_exist (is_named scope labels kind.Symbol name) false u)

  -- loads and stores use the same operands
  place_range : (a : Access) (w : Width) (s : ℕ) (p : Operand) → HasWidth a w → IsRegister s → FitsPlace p
      → any_unknown scope labels (m.Load w) 0 (Register s ∷ p ∷ []) ≡ false → Accessed a w (Register s ∷ p ∷ [])
  place_range a w s (Direct name k) g r h u =
      (symbol_op a w s (number_of scope.symbols name) k, refl, symbol_range a w s (number_of scope.symbols name) k g r (is_symbol name u) h.1)
  place_range a w s (Indexed name i k) g r h u =
      (element_op a w s (number_of scope.symbols name) i k, refl, element_range a w s (number_of scope.symbols name) i k g r (is_symbol name u) h.1 h.2)
  place_range a w s o g r h u = absurd h

  place_or_frame : (a : Access) (s : ℕ) (p : Operand) → HasWidth a width.Word → IsRegister s → FitsWord p
      → any_unknown scope labels (m.Load width.Word) 0 (Register s ∷ p ∷ []) ≡ false → Accessed a width.Word (Register s ∷ p ∷ [])
  place_or_frame a s (Frame k) g r h u = (frame_op a s k, refl, frame_range a s k r h)
  place_or_frame a s (Direct name k) g r h u = place_range a width.Word s (Direct name k) g r h u
  place_or_frame a s (Indexed name i k) g r h u = place_range a width.Word s (Indexed name i k) g r h u
  place_or_frame a s o g r h u = absurd h

  access_range : (a : Access) (w : Width) → HasWidth a w → (x p : Operand) → AllFit (m.Load w) 0 (x ∷ p ∷ [])
      → any_unknown scope labels (m.Load w) 0 (x ∷ p ∷ []) ≡ false → Accessed a w (x ∷ p ∷ [])
  access_range a w g x p h = register_case (λ x. any_unknown scope labels (m.Load w) 0 (x ∷ p ∷ []) ≡ false → Accessed a w (x ∷ p ∷ [])) (λ s r. by w s r g h.1) x h.0
    where
      by : (w : Width) (s : ℕ) → IsRegister s → HasWidth a w → AllFit (m.Load w) 1 (p ∷ []) → any_unknown scope labels (m.Load w) 0 (Register s ∷ p ∷ []) ≡ false
          → Accessed a w (Register s ∷ p ∷ [])
      by width.Byte s r g h = place_range a width.Byte s p g r h.0
      by width.Half s r g h = place_range a width.Half s p g r h.0
      by width.Word s r g h = place_or_frame a s p g r h.0
      by width.ByteU s r g h = place_range a width.ByteU s p g r h.0
      by width.HalfU s r g h = place_range a width.HalfU s p g r h.0

  -- ---- ways

  branch_range : (k : BranchKind) (a b c : Operand) → Ranges (m.Branch k) (a ∷ b ∷ c ∷ [])
  branch_range k a b c h =
      registers_case (λ a b. any_unknown scope labels (m.Branch k) 0 (a ∷ b ∷ c ∷ []) ≡ false → Ranged (m.Branch k) (a ∷ b ∷ c ∷ []))
      (λ d r x y. name_case (λ c. any_unknown scope labels (m.Branch k) 0 (Register d ∷ Register r ∷ c ∷ []) ≡ false → Ranged (m.Branch k) (Register d ∷ Register r ∷ c ∷ []))
      (λ n w v. (op.Branch k d r (number_of labels n), refl, (x, y, known.label n (does_exist (is_named scope labels kind.Label n) false v)))) c h.1.1.0)
      a b h.0 h.1.0

  -- a statement of one operand, the name of an object
  name_range : (w : Mnemonic) → form_of w 0 ≡ form.Name → ((n : List ℕ) → is_named scope labels (kind_of w 0) n ≡ true → Ranged w (Name n ∷ [])) → (a : Operand) → Ranges w (a ∷ [])
  name_range w form made a h u =
      let n = names scope labels (kind_of w 0) a (subst (λ F. FitsForm F a) form h.0) (or_parts (is_lacking scope labels (kind_of w 0) (written_name a)) false u).0 in
      subst (λ a. Ranged w (a ∷ [])) (sym n.1) (made n.0 n.2)

  jump_range : (a : Operand) → Ranges m.Jump (a ∷ [])
  jump_range = name_range m.Jump refl (λ n e. (op.Jump (number_of labels n), refl, known.label n e))

  invoke_range : (a : Operand) → Ranges m.Invoke (a ∷ [])
  invoke_range = name_range m.Invoke refl (λ n e. (op.Invoke (number_of scope.functions n), refl, known.function n e))

  -- ---- services

  not_first : (j : ℕ) → 1 ≤ j → (if j == 0 then kind.Task else kind.Event) ≡ kind.Event
  not_first j h = ⊎_elim (λ t. absurd (let e = t.1 in omega (arith, e, h))) (λ t. rw t.0 refl) (eqb_tells j 0)

  -- a service of one operand, the name of its object
  object_range : (s : Service) → ((n : List ℕ) → is_named scope labels (service_kind s 0) n ≡ true → IsOp config app f (op.Serve (call_of config scope s (Name n ∷ []))))
      → (os : List Operand) → (length os == 1) ≡ true → Ranges (m.Serve s) os
  object_range s are os t = one_of (Ranges (m.Serve s)) (name_range (m.Serve s) refl (λ n e. (_, refl, are n e))) os (eqb-true (length os) 1 t)

  -- a service of one operand or more, each the name of an event
  events_range : (s : Service) → ((j : ℕ) → service_kind s j ≡ kind.Event)
      → ((a : Operand) (os : List Operand) → IsMask config (mask_of config scope (a ∷ os)) → IsOp config app f (op.Serve (call_of config scope s (a ∷ os))))
      → (os : List Operand) → nat_le 1 (length os) ≡ true → Ranges (m.Serve s) os
  events_range s all are os t =
      some_of (Ranges (m.Serve s))
      (λ a os h u. (_, refl, are a os (is_mask config scope labels known.event a os (all_names scope labels kind.Event (m.Serve s) 0 (a ∷ os) (λ j l. (refl, all j)) h u))))
      os (leb-true 1 (length os) t)

  serve_range : (s : Service) (os : List Operand) → is_operand_count (m.Serve s) (length os) ≡ true → Ranges (m.Serve s) os
  serve_range service.TerminateTask os t h u = (_, refl, (refl, refl))
  serve_range service.Schedule os t h u = (_, refl, (refl, refl))
  serve_range service.GetTaskID os t h u = (_, refl, (refl, refl))
  serve_range service.ActivateTask os t h u = object_range service.ActivateTask (λ n e. (known.task n e, refl)) os t h u
  serve_range service.ChainTask os t h u = object_range service.ChainTask (λ n e. (known.task n e, refl)) os t h u
  serve_range service.GetTaskState os t h u = object_range service.GetTaskState (λ n e. (known.task n e, refl)) os t h u
  serve_range service.GetEvent os t h u = object_range service.GetEvent (λ n e. (known.task n e, refl)) os t h u
  serve_range service.GetResource os t h u = object_range service.GetResource (λ n e. (known.resource n e, refl)) os t h u
  serve_range service.ReleaseResource os t h u = object_range service.ReleaseResource (λ n e. (known.resource n e, refl)) os t h u
  serve_range service.SetEvent os t h u =
      some_two_of (Ranges (m.Serve service.SetEvent))
      (λ a b os h. name_case (λ a. any_unknown scope labels (m.Serve service.SetEvent) 0 (a ∷ b ∷ os) ≡ false → Ranged (m.Serve service.SetEvent) (a ∷ b ∷ os))
      (λ n w v.
      let rest = any_unknown scope labels (m.Serve service.SetEvent) 1 (b ∷ os) in (
        _,
        refl,
        (
          known.task n (does_exist (is_named scope labels kind.Task n) rest v),
          is_mask config scope labels known.event b os
              (all_names scope labels kind.Event (m.Serve service.SetEvent) 1 (b ∷ os) (λ j l. (refl, not_first j l)) h.1 (or_parts (not (is_named scope labels kind.Task n)) rest v).1),
        ),
      ))
      a h.0)
      os (leb-true 2 (length os) t) h u
  serve_range service.ClearEvent os t h u = events_range service.ClearEvent (λ j. refl) (λ a os is. (refl, is)) os t h u
  serve_range service.WaitEvent os t h u = events_range service.WaitEvent (λ j. refl) (λ a os is. (refl, is)) os t h u
  serve_range service.SetRelAlarm os t h u = object_range service.SetRelAlarm (λ n e. (known.alarm n e, refl)) os t h u
  serve_range service.SetAbsAlarm os t h u = object_range service.SetAbsAlarm (λ n e. (known.alarm n e, refl)) os t h u
  serve_range service.CancelAlarm os t h u = object_range service.CancelAlarm (λ n e. (known.alarm n e, refl)) os t h u
  serve_range service.GetAlarm os t h u = object_range service.GetAlarm (λ n e. (known.alarm n e, refl)) os t h u

  -- ---- all

  pub ranged : (m : Mnemonic) (os : List Operand) → is_action m ≡ true → is_operand_count m (length os) ≡ true → HasKind m → Ranges m os
  ranged m.Data os d t g = absurd (true≢false (sym d))
  ranged m.Task os d t g = absurd (true≢false (sym d))
  ranged m.Func os d t g = absurd (true≢false (sym d))
  ranged m.End os d t g = absurd (true≢false (sym d))
  ranged m.Label os d t g = absurd (true≢false (sym d))
  ranged (m.Alu k) os d t g = three_of (Ranges (m.Alu k)) (alu_range k) os (eqb-true (length os) 3 t)
  ranged (m.Imm k) os d t g = three_of (Ranges (m.Imm k)) (imm_range k g) os (eqb-true (length os) 3 t)
  ranged (m.Shift k) os d t g = three_of (Ranges (m.Shift k)) (shift_range k g) os (eqb-true (length os) 3 t)
  ranged m.Lui os d t g = two_of (Ranges m.Lui) lui_range os (eqb-true (length os) 2 t)
  ranged m.Li os d t g = two_of (Ranges m.Li) li_range os (eqb-true (length os) 2 t)
  ranged m.Move os d t g = two_of (Ranges m.Move) move_range os (eqb-true (length os) 2 t)
  ranged m.Nop os d t g = none_of (Ranges m.Nop) (λ h u. (op.AluImm Addi 0 0 (pos 0), refl, (inl refl, inl refl, omega arith))) os (eqb-true (length os) 0 t)
  ranged (m.Load w) os d t g = two_of (Ranges (m.Load w)) (access_range Load w tt) os (eqb-true (length os) 2 t)
  ranged (m.Store w) os d t g = two_of (Ranges (m.Store w)) (access_range Store w g) os (eqb-true (length os) 2 t)
  ranged (m.Branch k) os d t g = three_of (Ranges (m.Branch k)) (branch_range k) os (eqb-true (length os) 3 t)
  ranged m.Jump os d t g = one_of (Ranges m.Jump) jump_range os (eqb-true (length os) 1 t)
  ranged m.Invoke os d t g = one_of (Ranges m.Invoke) invoke_range os (eqb-true (length os) 1 t)
  ranged m.Return os d t g = none_of (Ranges m.Return) (λ h u. (op.Return, refl, tt)) os (eqb-true (length os) 0 t)
  ranged (m.Serve s) os d t g = serve_range s os t
