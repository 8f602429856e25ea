-- What is left of RAM where a task has gone to wait: its context, three words of its own, and those of what runs.
use Rattle.std.proofs.Common.{◌≡◌, ℕ, ◌+◌, ◌*◌, ◌%◌, ◌<◌, ◌≤◌, List, length, ◌∙◌, arith, ⊎_elim, inl, inr}
use Rattle.std.specs.Prelude.{◌≢◌, ◌⊎◌, slice_index}
use Rattle.sloth_base.specs.Limits.{task_limit}
use Rattle.sloth_base.specs.MemoryMap.{memory_bytes, memory_base}
use Rattle.sloth_region.specs.Layout.{cur, below_word, active, wait, resume, idle_context, context_bytes}
use Rattle.rv32_instr.specs.Ram.{word_at, with_word, with_words}
use Rattle.masked_code.proofs.Words.{word_at-same, word_at-other, word_at-others, word_at-with_words, word_at-agree, get_or-with_word, get_or-with_words, length-with_word, length-with_words}
use Rattle.sim_relation.proofs.Parts.{word_other}

pub record WaitRam (old new registers : List ℕ) (t own mask pc current link : ℕ) : Type 0 where
  pub long : length new ≡ memory_bytes
  pub high : (i : ℕ) → idle_context ≤ i → (i < own) ⊎ (own + context_bytes ≤ i) → slice_index new i ≡ slice_index old i
  pub pc_word : word_at new own ≡ pc
  pub register_word : (j : ℕ) → j < 27 → word_at new (own + 4 * 5 + 4 * j) ≡ slice_index registers j
  pub named : (p : ℕ) → p + 4 ≤ idle_context → p % 4 ≡ 0 → p ≢ cur → p ≢ below_word → p ≢ active t → p ≢ wait t → p ≢ resume t → word_at new p ≡ word_at old p
  pub activity : word_at new (active t) ≡ 0
  pub wait_word : word_at new (wait t) ≡ mask
  pub resume_word : word_at new (resume t) ≡ memory_base + own
  pub current_word : word_at new cur ≡ current
  pub link_word : word_at new below_word ≡ link

module _ (old registers : List ℕ) (t own mask pc current link : ℕ) (long : length old ≡ memory_bytes) (rest : length registers ≡ 27) (few : t < task_limit)
    (behind : 1024 ≤ own) (aligned : own % 4 ≡ 0) (inside : own + context_bytes ≤ memory_bytes) (mask_in : mask < 4294967296) (pc_in : pc < 4294967296)
    (current_in : current < 4294967296) (link_in : link < 4294967296) (registers_in : (i : ℕ) → slice_index registers i < 4294967296) where
  abbrev ram1 : List ℕ
  ram1 = with_word old (active t) 0

  abbrev ram2 : List ℕ
  ram2 = with_word ram1 (wait t) mask

  abbrev ram3 : List ℕ
  ram3 = with_words ram2 (own + 4 * 5) registers

  abbrev ram4 : List ℕ
  ram4 = with_word ram3 own pc

  abbrev ram5 : List ℕ
  ram5 = with_word ram4 (resume t) (memory_base + own)

  abbrev ram6 : List ℕ
  ram6 = with_word ram5 cur current

  abbrev new : List ℕ
  new = with_word ram6 below_word link

  long1 : length ram1 ≡ memory_bytes
  long1 = length-with_word old (active t) 0 ∙ long

  long2 : length ram2 ≡ memory_bytes
  long2 = length-with_word ram1 (wait t) mask ∙ long1

  long3 : length ram3 ≡ memory_bytes
  long3 = length-with_words registers ram2 (own + 4 * 5) ∙ long2

  long4 : length ram4 ≡ memory_bytes
  long4 = length-with_word ram3 own pc ∙ long3

  long5 : length ram5 ≡ memory_bytes
  long5 = length-with_word ram4 (resume t) (memory_base + own) ∙ long4

  long6 : length ram6 ≡ memory_bytes
  long6 = length-with_word ram5 cur current ∙ long5

  long7 : length new ≡ memory_bytes
  long7 = length-with_word ram6 below_word link ∙ long6

  -- from idle_context on only the context is written
  above : (i : ℕ) → idle_context ≤ i → slice_index new i ≡ slice_index ram4 i
  above i h =
      get_or-with_word ram6 below_word link i (inr (omega arith)) ∙ get_or-with_word ram5 cur current i (inr (omega arith))
      ∙ get_or-with_word ram4 (resume t) (memory_base + own) i (inr (omega arith))

  above_word : (p : ℕ) → idle_context ≤ p → word_at new p ≡ word_at ram4 p
  above_word p h = word_at-agree new ram4 p (λ i x y. above i (omega arith))

  high : (i : ℕ) → idle_context ≤ i → (i < own) ⊎ (own + context_bytes ≤ i) → slice_index new i ≡ slice_index old i
  high i h x =
      above i h
      ∙ get_or-with_word ram3 own pc i (⊎_elim (λ (z : i < own). inl (omega arith)) (λ (z : own + context_bytes ≤ i). inr (omega arith)) x)
      ∙ get_or-with_words registers ram2 (own + 4 * 5) i (⊎_elim (λ (z : i < own). inl (omega arith)) (λ (z : own + context_bytes ≤ i). inr (omega arith)) x)
      ∙ get_or-with_word ram1 (wait t) mask i (inr (omega arith)) ∙ get_or-with_word old (active t) 0 i (inr (omega arith))

  -- the words below idle_context before those of the context
  low_word : (p : ℕ) → p + 4 ≤ idle_context → word_at ram4 p ≡ word_at ram2 p
  low_word p h = word_at-other ram3 own pc p (inl (omega arith)) ∙ word_at-others registers ram2 (own + 4 * 5) p (inl (omega arith))

  late : (p : ℕ) → p % 4 ≡ 0 → p ≢ cur → p ≢ below_word → p ≢ resume t → word_at new p ≡ word_at ram4 p
  late p h n0 n1 n2 =
      word_other ram6 below_word link p h (omega arith) n1 ∙ word_other ram5 cur current p h (omega arith) n0 ∙ word_other ram4 (resume t) (memory_base + own) p h (omega arith) n2

  -- those words, and no other byte
  pub wait_ram : WaitRam old new registers t own mask pc current link
  wait_ram =
      let k1 = long1 in let k2 = long2 in let k3 = long3 in let k4 = long4 in let k5 = long5 in let k6 = long6 in
      record {
        long = long7;
        high = high;
        pc_word = above_word own (omega arith) ∙ word_at-same ram3 own pc (omega arith) pc_in;
        register_word = λ j h. above_word (own + 4 * 5 + 4 * j) (omega arith) ∙ word_at-other ram3 own pc (own + 4 * 5 + 4 * j) (inr (omega arith))
            ∙ word_at-with_words registers ram2 (own + 4 * 5) j (omega arith) (omega arith) registers_in;
        named = λ p l h n0 n1 n2 n3 n4. late p h n0 n1 n4 ∙ low_word p l
            ∙ word_other ram1 (wait t) mask p h (omega arith) n3 ∙ word_other old (active t) 0 p h (omega arith) n2;
        activity = late (active t) (omega arith) (λ e. omega arith) (λ e. omega arith) (λ e. omega arith) ∙ low_word (active t) (omega arith)
            ∙ word_other ram1 (wait t) mask (active t) (omega arith) (omega arith) (λ e. omega arith) ∙ word_at-same old (active t) 0 (omega arith) (omega arith);
        wait_word = late (wait t) (omega arith) (λ e. omega arith) (λ e. omega arith) (λ e. omega arith) ∙ low_word (wait t) (omega arith)
            ∙ word_at-same ram1 (wait t) mask (omega arith) mask_in;
        resume_word = word_other ram6 below_word link (resume t) (omega arith) (omega arith) (λ e. omega arith) ∙ word_other ram5 cur current (resume t) (omega arith) (omega arith) (λ e. omega arith)
            ∙ word_at-same ram4 (resume t) (memory_base + own) (omega arith) (omega arith);
        current_word = word_other ram6 below_word link 0 (omega arith) (omega arith) (λ e. omega arith) ∙ word_at-same ram5 cur current (omega arith) current_in;
        link_word = word_at-same ram6 below_word link (omega arith) link_in;
      }
