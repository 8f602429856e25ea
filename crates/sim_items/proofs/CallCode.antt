-- The instructions of calls and returns.
use Rattle.std.proofs.Common.{◌≡◌, ℕ, zero, suc, ◌+◌, ◌-◌, ◌*◌, ◌<◌, pos, List, [], ◌∷◌, ◌++◌, length, sym, ap, ◌∙◌, arith}
use Rattle.std.specs.Prelude.{neg_ℤ}
use Rattle.std.proofs.lemmas.List.{append_assoc, length-append}
use Rattle.sloth_base.specs.Named.{operation, function}
use Rattle.sloth_base.specs.declared.app.Op.TheVariants as op
use Rattle.rv32_instr.specs.declared.InstrKind.{InstrKind}
use Rattle.rv32_instr.specs.declared.InstrKind.TheVariants.{Auipc, Sw, Jal, Addi}
use Rattle.rv32_expand.specs.Expansion.{item_address, distance, zeros, call_code, is_long, operation_code, expansion}
use Rattle.rv32_expand.proofs.Counts.{zeros_length, calls_length}
use Rattle.sim_relation.specs.Build.{Build}

-- x2 is lowered
abbrev pub lowers : ℕ → InstrKind
lowers words = Addi 2 2 (neg_ℤ (pos (4 + 4 * words)))

-- a word of the new frame
abbrev pub clears : ℕ → InstrKind
clears word = Sw 2 0 (pos (4 * word))

abbrev pub links : InstrKind
links = Auipc 31 0

abbrev pub stores_link : ℕ → InstrKind
stores_link words = Sw 2 31 (pos (4 * words))

abbrev pub jumps_away : (address words target : ℕ) → InstrKind
jumps_away address words target = Jal 0 (distance (address + 4 * (words + 3)) target)

abbrev pub last_three : (address words target : ℕ) → List InstrKind
last_three address words target = links ∷ stores_link words ∷ jumps_away address words target ∷ []

-- the instructions of a call, by the callee's frame
pub call_expands : (b : Build) (func item callee : ℕ) → operation b.app func item ≡ op.Invoke callee
    → expansion b.app b.places func item ≡ call_code (item_address b.places func item) (function b.app callee).frame_words (item_address b.places callee 0)
call_expands b func item callee is = ap (λ o. operation_code b.app b.places func (item_address b.places func item) (is_long b.places func item) o) is

zeros_split : (d m n k : ℕ) → n ≡ d + m + 1 → zeros n k ≡ zeros d k ++ (clears (k + d) ∷ zeros m (k + d + 1))
zeros_split d m zero k e = absurd (omega arith)
zeros_split zero m (suc n) k e =
    let f : k ≡ k + 0 = omega arith in
    let g : n ≡ m = omega arith in
    ap (λ v. clears k ∷ zeros v (k + 1)) g ∙ ap (λ v. clears v ∷ zeros m (v + 1)) f
zeros_split (suc d) m (suc n) k e =
    let f : k + 1 + d ≡ k + suc d = omega arith in
    ap (λ c. clears k ∷ c) (zeros_split d m n (k + 1) (omega arith) ∙ ap (λ v. zeros d (k + 1) ++ (clears v ∷ zeros m (v + 1))) f)

-- a call at one of its words
pub record AtWord (address words target word : ℕ) : Type 0 where
  pub rest : List InstrKind
  pub is : call_code address words target ≡ (lowers words ∷ zeros word 0) ++ (clears word ∷ rest)
  pub long : length (lowers words ∷ zeros word 0) ≡ word + 1

pub at_word : (address words target word : ℕ) → word < words → AtWord address words target word
at_word address words target word l =
    let m = words - (word + 1) in
    let e : 0 + word ≡ word = omega arith in
    record {
      rest = zeros m (0 + word + 1) ++ last_three address words target;
      is = ap (λ c. lowers words ∷ (c ++ last_three address words target)) (zeros_split word m words 0 (omega arith) ∙ ap (λ v. zeros word 0 ++ (clears v ∷ zeros m (0 + word + 1))) e)
          ∙ ap (λ c. lowers words ∷ c) (append_assoc (zeros word 0) (clears word ∷ zeros m (0 + word + 1)) (last_three address words target));
      long = let z = zeros_length word 0 in omega arith;
    }

-- a call behind its words
pub behind_words : (words : ℕ) → length (lowers words ∷ zeros words 0) ≡ words + 1
behind_words words = let z = zeros_length words 0 in omega arith

pub at_store : (address words target : ℕ) → call_code address words target ≡ (lowers words ∷ (zeros words 0 ++ (links ∷ []))) ++ (stores_link words ∷ jumps_away address words target ∷ [])
at_store address words target = ap (λ c. lowers words ∷ c) (sym (append_assoc (zeros words 0) (links ∷ []) (stores_link words ∷ jumps_away address words target ∷ [])))

pub behind_link : (words : ℕ) → length (lowers words ∷ (zeros words 0 ++ (links ∷ []))) ≡ words + 2
behind_link words = let z = zeros_length words 0 in let a = length-append (zeros words 0) (links ∷ []) in omega arith

pub at_jump : (address words target : ℕ) → call_code address words target ≡ (lowers words ∷ (zeros words 0 ++ (links ∷ stores_link words ∷ []))) ++ (jumps_away address words target ∷ [])
at_jump address words target = ap (λ c. lowers words ∷ c) (sym (append_assoc (zeros words 0) (links ∷ stores_link words ∷ []) (jumps_away address words target ∷ [])))

pub behind_store : (words : ℕ) → length (lowers words ∷ (zeros words 0 ++ (links ∷ stores_link words ∷ []))) ≡ words + 3
behind_store words = let z = zeros_length words 0 in let a = length-append (zeros words 0) (links ∷ stores_link words ∷ []) in omega arith

-- how many they are
pub call_size : (b : Build) (func item callee : ℕ) → operation b.app func item ≡ op.Invoke callee → length (expansion b.app b.places func item) ≡ 4 + (function b.app callee).frame_words
call_size b func item callee is =
    ap length (call_expands b func item callee is) ∙ calls_length (item_address b.places func item) (function b.app callee).frame_words (item_address b.places callee 0)
