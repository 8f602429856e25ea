-- What comes from an input.
use Rattle.std.specs.Prelude.{◌≡◌, ℕ, List, [], ◌++◌, Option, None, Some, Bool}

-- the bytes that come, and whether a fault stands behind them in the place of the end
pub record Coming : Type 0 where
  pub bytes : List ℕ
  pub broken : Bool

-- these bytes came first; of an input that does not tell what comes nothing is known
abbrev pub Gives : Option Coming → Option Coming → List ℕ → Type 0
Gives None new bytes = new ≡ None
Gives (Some old) new bytes = (rest : List ℕ) × (old.bytes ≡ bytes ++ rest) × (new ≡ Some (record { bytes = rest; broken = old.broken }))

-- no byte comes any more, but the end, or a fault, again and again
abbrev pub Ends : Option Coming → Option Coming → Bool → Type 0
Ends None new broken = new ≡ None
Ends (Some old) new broken = (old.bytes ≡ []) × (old.broken ≡ broken) × (new ≡ Some old)
