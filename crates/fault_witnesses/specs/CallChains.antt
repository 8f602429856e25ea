-- Chains of calls: each call is an item of the body that was called before.
use Rattle.std.specs.Prelude.{ℕ, zero, suc, ◌<◌, ◌≡◌, List, length, get_or}
use Rattle.sloth_base.specs.declared.app.App.{App}
use Rattle.sloth_base.specs.declared.app.Op.TheVariants as op
use Rattle.sloth_base.specs.Named.{function, item_of}
use Rattle.code_rules.specs.Code.{IsItem}
use Rattle.fault_witnesses.specs.declared.chains.Link.{Link}

-- what stands in the place of a call that is not there
abbrev pub no_link : Link
no_link = record { func = 0; line = 0 }

-- an item of body f on the link's line calls the link's function
abbrev pub IsCallOn : App → ℕ → Link → Type 0
IsCallOn app f link = (i : ℕ) × IsItem app f i (op.Invoke link.func) × ((item_of (function app f) i).line ≡ link.line)

-- the body in which call n of a chain stands: the start, or what the call before calls; behind the last one what that calls
abbrev pub caller_at : ℕ → List Link → ℕ → ℕ
caller_at start links zero = start
caller_at start links (suc n) = (get_or links n no_link).func

-- the function that the last call calls, or the start
abbrev pub chain_end : ℕ → List Link → ℕ
chain_end start links = caller_at start links (length links)

-- each call stands in the body before
abbrev pub IsChain : App → (start : ℕ) → List Link → Type 0
IsChain app start links = (n : ℕ) → n < length links → IsCallOn app (caller_at start links n) (get_or links n no_link)

-- the calls lead from the function back to it
pub record IsCycle (app : App) (f : ℕ) (links : List Link) : Type 0 where
  pub some : 0 < length links
  pub chain : IsChain app f links
  pub ends : chain_end f links ≡ f
