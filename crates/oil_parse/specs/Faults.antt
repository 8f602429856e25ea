-- What is wrong with tokens that are no file.
use Rattle.std.specs.Prelude.{◌≡◌, ℕ, ◌<◌, List, [], ◌∷◌, ◌++◌, ◌⊎◌}
use Rattle.sloth_base.specs.declared.refusal.Part.TheVariants.{Oil}
use Rattle.sloth_base.specs.declared.refusal.Code.TheVariants as code
use Rattle.sloth_base.specs.declared.refusal.Refusal.{Refusal}
use Rattle.oil_parse.specs.Tokens.{Lexeme}
use Rattle.oil_parse.specs.declared.machine.Key.TheVariants.{Cpu}
use Rattle.oil_parse.specs.declared.machine.Shape.{Shape}
use Rattle.oil_parse.specs.declared.machine.Shape.TheVariants.{Word, Number}
use Rattle.oil_parse.specs.declared.tree.OilTree.{OilTree}
use Rattle.oil_parse.specs.Shapes.{shape}
use Rattle.oil_parse.specs.Grammar.{IsImplementation, IsHead, IsFile}

-- Some file begins so.
abbrev pub IsViable : List Lexeme → Type 0
IsViable ts = (more : List Lexeme) × (tree : OilTree) × IsFile (ts ++ more) tree

-- The tokens go on behind the word CPU, so they have left the section IMPLEMENTATION.
abbrev pub InCpu : List Lexeme → Type 0
InCpu ts = (hs xs front : List Lexeme) × (c : Lexeme) × (ts ≡ hs ++ (xs ++ c ∷ front)) × IsHead hs × IsImplementation xs × (shape c ≡ Word Cpu)

-- a number above 2^32 - 1
abbrev pub IsTooBig : Shape → Type 0
IsTooBig (Number n) = 4294967295 < n
IsTooBig _ = ⊥

-- the line of the last token, or n
abbrev pub last_line : ℕ → List Lexeme → ℕ
last_line n [] = n
last_line n (t ∷ ts) = last_line t.line ts

-- A number above the greatest, where the grammar allows a number, outside a section IMPLEMENTATION.
pub record NumberFault (ts : List Lexeme) (r : Refusal) : Type 0 where
  pub before : List Lexeme
  pub at : Lexeme
  pub behind : List Lexeme
  pub place : ts ≡ before ++ at ∷ behind
  pub inside : InCpu before
  pub allowed : IsViable (before ++ at ∷ [])
  pub too_big : IsTooBig (shape at)
  pub is : r ≡ record { part = Oil; line = at.line; code = code.O4 }

-- The first token that the grammar does not allow there.
pub record TokenFault (ts : List Lexeme) (r : Refusal) : Type 0 where
  pub before : List Lexeme
  pub at : Lexeme
  pub behind : List Lexeme
  pub place : ts ≡ before ++ at ∷ behind
  pub allowed : IsViable before
  pub refused : IsViable (before ++ at ∷ []) → ⊥
  pub is : r ≡ record { part = Oil; line = at.line; code = code.O5 }

-- The tokens end before the grammar does.
pub record EndFault (ts : List Lexeme) (r : Refusal) : Type 0 where
  pub allowed : IsViable ts
  pub unfinished : (tree : OilTree) → IsFile ts tree → ⊥
  pub is : r ≡ record { part = Oil; line = last_line 1 ts; code = code.O6 }

-- a fault of the grammar
abbrev pub GrammarFault : List Lexeme → Refusal → Type 0
GrammarFault ts r = NumberFault ts r ⊎ (TokenFault ts r ⊎ EndFault ts r)
