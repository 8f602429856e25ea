-- The parser's machine over lists of tokens.
use Rattle.std.proofs.Common.{◌≡◌, ℕ, ◌<◌, List, [], ◌∷◌, ◌++◌, ◌⊎◌, Option, Some, None, refl, sym}
use Rattle.sloth_base.specs.declared.refusal.Part.TheVariants.{Oil}
use Rattle.sloth_base.specs.declared.refusal.Code.TheVariants as code
use Rattle.sloth_base.specs.declared.refusal.Refusal.{Refusal}
use Rattle.oil_parse.specs.Tokens.{Lexeme}
use Rattle.oil_parse.specs.declared.machine.Shape.{Shape}
use Rattle.oil_parse.specs.declared.machine.Shape.TheVariants.{Number}
use Rattle.oil_parse.specs.declared.machine.Expect.{Expect}
use Rattle.oil_parse.specs.declared.machine.Expect.TheVariants.{AttrValue, Done}
use Rattle.oil_parse.specs.Shapes.{shape}
use Rattle.oil_parse.specs.Steps.{next}
use Rattle.oil_parse.specs.Machine.{partial_tree_after, PartialTree}

-- what is to come behind these tokens
abbrev pub step : Option Expect → List Lexeme → Option Expect
step o [] = o
step None (t ∷ ts) = None
step (Some e) (t ∷ ts) = step (next e (shape t)) ts

-- what these tokens add
abbrev pub build : Option Expect → PartialTree → List Lexeme → PartialTree
build o b [] = b
build None b (t ∷ ts) = b
build (Some e) b (t ∷ ts) = build (next e (shape t)) (partial_tree_after e (shape t) t b) ts

-- a value above the greatest number, as a fault
abbrev pub TooBig : Expect → Shape → Lexeme → Refusal → Type 0
TooBig (AttrValue d) (Number v) t r = (4294967295 < v) × (r ≡ record { part = Oil; line = t.line; code = code.O4 })
TooBig _ _ t r = ⊥

-- A fault of tokens that begin in a state, behind a token on line n.
abbrev pub MachineFault : Expect → ℕ → List Lexeme → Refusal → Type 0
MachineFault e n [] r = (e ≡ Done → ⊥) × (r ≡ record { part = Oil; line = n; code = code.O6 })
MachineFault e n (t ∷ ts) r = elim (next e (shape t)) [
  | None ↦ r ≡ record { part = Oil; line = t.line; code = code.O5 }
  | Some e' ↦ TooBig e (shape t) t r ⊎ MachineFault e' t.line ts r
]

pub step_none : (ts : List Lexeme) → step None ts ≡ None
step_none [] = refl
step_none (t ∷ ts) = refl

pub none_done : (ts : List Lexeme) → step None ts ≡ Some Done → ⊥
none_done [] h = cc
none_done (t ∷ ts) h = cc

pub step_append : (o : Option Expect) (ts us : List Lexeme) → step o (ts ++ us) ≡ step (step o ts) us
step_append o [] us = refl
step_append None (t ∷ ts) us = sym (step_none us)
step_append (Some e) (t ∷ ts) us = step_append (next e (shape t)) ts us
