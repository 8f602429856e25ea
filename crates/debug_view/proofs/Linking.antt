-- The chain of contexts, link by link.
use Rattle.std.proofs.Common.{◌≡◌, ◌<◌, ◌+◌, ◌-◌, ◌==◌, ℕ, zero, suc, Some, None, Bool, true, false, if◌then◌else◌, refl, sym, ◌∙◌, ap, arith}
use Rattle.sloth_base.specs.Arithmetic.{sum32}
use Rattle.rv32_instr.specs.Memory.{Memory}
use Rattle.sloth_region.specs.Layout.{context_cur, context_below}
use Rattle.debug_view.specs.Contexts.{word_or_zero, is_link, chain_context}

by-link : (memory : Memory) (left address task : ℕ) (there named : Bool) → is_link memory address ≡ there
    → (word_or_zero memory (sum32 address context_cur) == task + 1) ≡ named
    → chain_context memory (suc left) address task ≡ (if there then (if named then Some address else chain_context memory left (word_or_zero memory (sum32 address context_below)) task) else None)
by-link memory left address task there named is told =
    ap (λ b. if b then (if word_or_zero memory (sum32 address context_cur) == task + 1 then Some address
    else chain_context memory left (word_or_zero memory (sum32 address context_below)) task) else None) is
    ∙ ap (λ b. if there then (if b then Some address else chain_context memory left (word_or_zero memory (sum32 address context_below)) task) else None) told

-- another link follows
pub link_more : (memory : Memory) (left address task : ℕ) → 0 < left → is_link memory address ≡ true
    → (word_or_zero memory (sum32 address context_cur) == task + 1) ≡ false
    → chain_context memory (left - 1) (word_or_zero memory (sum32 address context_below)) task ≡ chain_context memory left address task
link_more memory left address task some is other =
    let e : left ≡ suc (left - 1) = omega arith in
    sym (ap (λ n. chain_context memory n address task) e ∙ by-link memory (left - 1) address task true false is other)

-- the link is the task's
pub link_found : (memory : Memory) (left address task : ℕ) → 0 < left → is_link memory address ≡ true
    → (word_or_zero memory (sum32 address context_cur) == task + 1) ≡ true → chain_context memory left address task ≡ Some address
link_found memory left address task some is own =
    let e : left ≡ suc (left - 1) = omega arith in
    ap (λ n. chain_context memory n address task) e ∙ by-link memory (left - 1) address task true true is own

-- none follows
pub link_none : (memory : Memory) (left address task : ℕ) → is_link memory address ≡ false → chain_context memory left address task ≡ None
link_none memory zero address task off = refl
link_none memory (suc left) address task off = ap (λ b. if b then (if word_or_zero memory (sum32 address context_cur) == task + 1 then Some address
    else chain_context memory left (word_or_zero memory (sum32 address context_below)) task) else None) off
