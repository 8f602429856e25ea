-- The jump of a call of a service: with a mask of events, or without.
use Rattle.std.proofs.Common.{◌≡◌, ℕ, ◌+◌, ◌*◌, ◌<◌, ◌≤◌, Bool, true, false, List, [], ◌∷◌, length, get_or, refl, sym, ap, ◌∙◌, subst, arith, inl, inr}
use Rattle.std.specs.Prelude.{◌⊎◌, All}
use Rattle.std.proofs.lemmas.Bool.{cond_both}
use Rattle.std.proofs.lemmas.List.Elements.{All-head, All-tail}
use Rattle.std.proofs.lemmas.Nat.{or_of_32}
use Rattle.sloth_base.specs.ConfigRange.{InRange}
use Rattle.sloth_base.specs.declared.app.Call.{Call}
use Rattle.sloth_base.specs.declared.app.Op.TheVariants as op
use Rattle.sloth_base.specs.declared.config.Config.{Config}
use Rattle.sloth_base.specs.declared.service.Service.{Service}
use Rattle.sloth_base.specs.ServiceCodes.{has_mask}
use Rattle.code_rules.specs.AppRange.{AreOperands, AreEvents, IsMask}
use Rattle.sloth_base.specs.ConfigRange.{no_event}
use Rattle.sloth_base.specs.MemoryMap.{memory_base}
use Rattle.code_rules.specs.AppRange as ranges
use Rattle.code_rules.specs.Code.{IsItem}
use Rattle.rv32_instr.specs.declared.InstrKind.{InstrKind}
use Rattle.rv32_expand.specs.Expansion.{item_address, mask_of, number_in, is_long, operation_code, expansion}
use Rattle.rv32_expand.proofs.Counts.{served_length}
use Rattle.observe.specs.Observe.{View}
use Rattle.osek_scheduler.proofs.Facts.{Facts}
use Rattle.sim_relation.specs.Build.{Build}
use Rattle.sim_items.specs.Outside.{mask_register, JumpsToService, JumpsWithMask}
use Rattle.sim_laws.specs.Kernel.{IsServiceItem}

-- ---- the mask of a call is a word

module _ (config : Config) (range : InRange config) where
  union_small : (events : List ℕ) → All (λ e. e < length config.events) events → ranges.mask_of config events < 4294967296
  union_small [] all = omega arith
  union_small (e ∷ events) all =
      or_of_32 (get_or config.events e no_event).mask (ranges.mask_of config events)
      (range.masks e no_event (All-head (λ e. e < length config.events) e events all)).1
      (union_small events (All-tail (λ e. e < length config.events) e events all))

  mask_small : (mask : ℕ) → IsMask config mask → mask < 4294967296
  mask_small mask m = subst (λ x. x < 4294967296) (sym m.is) (union_small (m.first ∷ m.more) m.declared)

  events_small : (has : Bool) (mask : ℕ) → AreEvents config has mask → mask < 4294967296
  events_small true mask is = mask_small mask is
  events_small false mask is = omega (arith, is)

  operands_small : (s : Service) (object mask : ℕ) → AreOperands config s object mask → mask < 4294967296
  operands_small s object mask is = events_small (has_mask s) mask is.1

-- a call's mask fits into a word
pub is_word : (b : Build) → Facts b.config b.app → (func item : ℕ) (call : Call) → IsItem b.app func item (op.Serve call) → call.mask < 4294967296
is_word b w func item call is = operands_small b.config w.in_range.configuration call.service call.object call.mask (w.items func item (op.Serve call) is)

-- ---- the two kinds of jumps

mask_cases : (s : Service) (mask : ℕ) → (mask_of s mask ≡ []) ⊎ (mask_of s mask ≡ number_in mask_register mask)
mask_cases s mask =
    cond_both (has_mask s) (number_in mask_register mask) [] (λ (xs : List InstrKind). (xs ≡ []) ⊎ (xs ≡ number_in mask_register mask)) (λ _. inr refl)
    (λ _. inl refl)

module _ (b : Build) (view : View) (func item : ℕ) (h : IsServiceItem b view func item) (small : h.call.mask < 4294967296) where
  abbrev address : ℕ
  address = item_address b.places func item

  abbrev size : ℕ
  size = length (expansion b.app b.places func item)

  size_is : (mask : List InstrKind) → mask_of h.call.service h.call.mask ≡ mask → size ≡ length mask + 1
  size_is mask e =
      ap (λ o. length (operation_code b.app b.places func address (is_long b.places func item) o)) h.is
      ∙ served_length b.places h.call address ∙ ap (λ (m : List InstrKind). length m + 1) e

  apart : (n : ℕ) → size ≡ n → (memory_base + h.block.offset < address) ⊎ (address + 4 * n ≤ memory_base + h.block.offset)
  apart n e = subst (λ k. (memory_base + h.block.offset < address) ⊎ (address + 4 * k ≤ memory_base + h.block.offset)) e h.apart

  by : (mask_of h.call.service h.call.mask ≡ []) ⊎ (mask_of h.call.service h.call.mask ≡ number_in mask_register h.call.mask)
      → JumpsToService b func item ⊎ JumpsWithMask b func item
  by (inl none) = inl (record {
    call = h.call;
    is = h.is;
    no_mask = none;
    block = h.block.offset;
    block_is = h.block.is;
    in_ram = h.in_ram;
    apart = apart 1 (size_is [] none);
  })
  by (inr some) = inr (record {
    call = h.call;
    is = h.is;
    has_mask = some;
    is_word = small;
    block = h.block.offset;
    block_is = h.block.is;
    in_ram = h.in_ram;
    apart = apart 3 (size_is (number_in mask_register h.call.mask) some);
  })

  -- which of the two it is
  pub call_jumps : JumpsToService b func item ⊎ JumpsWithMask b func item
  call_jumps = by (mask_cases h.call.service h.call.mask)
