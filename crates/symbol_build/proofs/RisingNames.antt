-- Symbols whose places rise have names that differ.
use Rattle.std.proofs.Common.{◌<◌, ◌≤◌, ◌+◌, ℕ, List, [], ◌∷◌, ◌++◌, arith}
use Rattle.std.specs.Prelude.{◌≢◌, All, AllPairs}
use Rattle.std.proofs.lemmas.List.Elements.{All-cons}
use Rattle.std.proofs.lemmas.List.Kept.{AllPairs-cons}
use Rattle.sloth_base.specs.ConfigRange.{InRange}
use Rattle.sloth_base.specs.declared.config.Config.{Config}
use Rattle.symbol_image.specs.declared.symbol.Symbol.{Symbol}
use Rattle.symbol_build.proofs.LocalNames.{IsLocal, one-key}

-- a symbol has a place not below this, and what follows rises behind it
pub record Rise (config : Config) (from : ℕ) (symbol : Symbol) (Rest : ℕ → Type 0) : Type 0 where
  pub key : ℕ
  pub above : from ≤ key
  pub is : IsLocal config key symbol
  pub rest : Rest (key + 1)

-- the places of symbols rise from one to below another
abbrev pub Rises : Config → (from to : ℕ) → List Symbol → Type 0
Rises config from to [] = from ≤ to
Rises config from to (s ∷ symbols) = Rise config from s (λ next. Rises config next to symbols)

-- they may begin later
pub rise_from : (config : Config) (from next to : ℕ) (symbols : List Symbol) → from ≤ next → Rises config next to symbols → Rises config from to symbols
rise_from config from next to [] le h = omega (arith, le, h)
rise_from config from next to (s ∷ symbols) le h =
    let above = h.above in record { key = h.key; above = omega (arith, le, above); is = h.is; rest = h.rest }

-- and end later
pub rise_to : (config : Config) (from to last : ℕ) (symbols : List Symbol) → to ≤ last → Rises config from to symbols → Rises config from last symbols
rise_to config from to last [] le h = omega (arith, le, h)
rise_to config from to last (s ∷ symbols) le h = record { key = h.key; above = h.above; is = h.is; rest = rise_to config (h.key + 1) to last symbols le h.rest }

-- those of two lists, one behind the other
pub rise_both : (config : Config) (from mid to : ℕ) (one other : List Symbol) → Rises config from mid one → Rises config mid to other
    → Rises config from to (one ++ other)
rise_both config from mid to [] other h k = rise_from config from mid to other h k
rise_both config from mid to (s ∷ one) other h k =
    record { key = h.key; above = h.above; is = h.is; rest = rise_both config (h.key + 1) mid to one other h.rest k }

module _ (config : Config) (range : InRange config) where
  others : (key from to : ℕ) (s : Symbol) (symbols : List Symbol) → IsLocal config key s → key < from → Rises config from to symbols
      → All (λ (t : Symbol). s.name ≢ t.name) symbols
  others key from to s [] is below h = λ k d l. absurd (omega (arith, l))
  others key from to s (t ∷ symbols) is below h =
      let above = h.above in
      All-cons (λ (u : Symbol). s.name ≢ u.name) t symbols
      (λ e. let same = one-key config range key h.key s t is h.is e in omega (arith, same, above, below))
      (others key (h.key + 1) to s symbols is (omega (arith, above, below)) h.rest)

  pub names_differ : (from to : ℕ) (symbols : List Symbol) → Rises config from to symbols → AllPairs (λ (s t : Symbol). s.name ≢ t.name) symbols
  names_differ from to [] h = λ i j d less within. absurd (omega (arith, within))
  names_differ from to (s ∷ symbols) h =
      AllPairs-cons (λ (t u : Symbol). t.name ≢ u.name) s symbols (others h.key (h.key + 1) to s symbols h.is (omega arith) h.rest)
      (names_differ (h.key + 1) to symbols h.rest)
