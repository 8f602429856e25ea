-- The mask of events that operands name.
use Rattle.std.proofs.Common.{◌≡◌, ◌∙◌, ap, sym, subst, ℕ, ◌<◌, true, List, [], ◌∷◌, length, get_or, arith}
use Rattle.std.specs.Prelude.{bit_or, All}
use Rattle.std.specs.Int.Bits.{or_zero_l, or_zero_r}
use Rattle.std.specs.List.{fold, AllByRecursion}
use Rattle.std.proofs.lemmas.Nat.Bits.{bit_at_or, same_from_bits}
use Rattle.std.proofs.lemmas.List.Elements.{All-nil, All-cons}
use Rattle.sloth_base.specs.declared.config.Config.{Config}
use Rattle.asm_lines.specs.declared.operands.Operand.{Operand}
use Rattle.asm_scopes.specs.declared.scope.Kind.TheVariants as kind
use Rattle.asm_scopes.specs.declared.scope.Scope.{Scope}
use Rattle.asm_scopes.specs.Scopes.{is_named}
use Rattle.asm_parse.specs.Operations.{mask_named}
use Rattle.asm_parse.specs.Operations.{mask_of as mask_read}
use Rattle.code_rules.specs.AppRange.{IsMask, mask_of}
use Rattle.sloth_base.specs.ConfigRange.{no_event}
use Rattle.asm_parse.proofs.Known.{IsEvent}
use Rattle.asm_parse.proofs.Operands.{Names}

bit_or-assoc : (a b c : ℕ) → bit_or (bit_or a b) c ≡ bit_or a (bit_or b c)
bit_or-assoc a b c = same_from_bits (bit_or (bit_or a b) c) (bit_or a (bit_or b c)) (λ i.
    let p = bit_at_or (bit_or a b) c i in
    let q = bit_at_or a b i in
    let r = bit_at_or a (bit_or b c) i in
    let s = bit_at_or b c i in
    omega (arith, p, q, r, s))

module _ (config : Config) (scope : Scope) (labels : List (List ℕ)) (known : (name : List ℕ) → is_named scope labels kind.Event name ≡ true → IsEvent config scope name) where
  -- the events of these operands
  record Events (os : List Operand) : Type 0 where
    places : List ℕ
    declared : All (λ e. e < length config.events) places
    folded : (a : ℕ) → fold (λ mask x. bit_or mask (mask_named config scope x)) a os ≡ bit_or a (mask_of config places)

  event_of : (x : Operand) → Names scope labels kind.Event x → (e : ℕ) × (e < length config.events) × (mask_named config scope x ≡ (get_or config.events e no_event).mask)
  event_of x n = subst (λ x. (e : ℕ) × (e < length config.events) × (mask_named config scope x ≡ (get_or config.events e no_event).mask)) (sym n.1)
      (let k = known n.0 n.2 in (k.place, k.declared, k.same))

  events : (os : List Operand) → AllByRecursion (Names scope labels kind.Event) os → Events os
  events [] h = record { places = []; declared = All-nil (λ e. e < length config.events); folded = λ a. sym (or_zero_r a) }
  events (x ∷ os) h =
      let e = event_of x h.0 in
      let rest = events os h.1 in
      record {
        places = e.0 ∷ rest.places;
        declared = All-cons (λ e. e < length config.events) e.0 rest.places e.1 rest.declared;
        folded = λ a.
            rest.folded (bit_or a (mask_named config scope x)) ∙ bit_or-assoc a (mask_named config scope x) (mask_of config rest.places)
            ∙ ap (λ n. bit_or a (bit_or n (mask_of config rest.places))) e.2;
      }

  pub is_mask : (x : Operand) (os : List Operand) → AllByRecursion (Names scope labels kind.Event) (x ∷ os) → IsMask config (mask_read config scope (x ∷ os))
  is_mask x os h =
      let e = event_of x h.0 in
      let rest = events os h.1 in
      record {
        first = e.0;
        more = rest.places;
        declared = All-cons (λ e. e < length config.events) e.0 rest.places e.1 rest.declared;
        is =
            rest.folded (bit_or 0 (mask_named config scope x)) ∙ ap (λ n. bit_or n (mask_of config rest.places)) (or_zero_l (mask_named config scope x) ∙ e.2);
      }
