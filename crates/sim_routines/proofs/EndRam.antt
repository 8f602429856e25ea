-- What is left of RAM where a task has ended: four words are written, all below the contexts.
use Rattle.std.proofs.Common.{◌≡◌, ℕ, ◌%◌, ◌<◌, ◌≤◌, List, length, ◌∙◌, arith, inr}
use Rattle.std.specs.Prelude.{◌≢◌, slice_index}
use Rattle.sloth_base.specs.Limits.{task_limit}
use Rattle.sloth_base.specs.MemoryMap.{memory_bytes}
use Rattle.sloth_region.specs.Layout.{cur, below_word, active, events, idle_context}
use Rattle.rv32_instr.specs.Ram.{word_at, with_word}
use Rattle.masked_code.proofs.Words.{word_at-same, get_or-with_word, length-with_word}
use Rattle.sim_relation.proofs.Parts.{word_other}

pub record EndRam (old new : List ℕ) (t current link : ℕ) : Type 0 where
  pub long : length new ≡ memory_bytes
  pub high : (i : ℕ) → idle_context ≤ i → slice_index new i ≡ slice_index old i
  pub named : (place : ℕ) → place % 4 ≡ 0 → place ≢ cur → place ≢ below_word → place ≢ active t → place ≢ events t → word_at new place ≡ word_at old place
  pub activity : word_at new (active t) ≡ 0
  pub event_mask : word_at new (events t) ≡ 0
  pub current_word : word_at new cur ≡ current
  pub link_word : word_at new below_word ≡ link

module _ (old : List ℕ) (t current link : ℕ) (long : length old ≡ memory_bytes) (few : t < task_limit) (current_in : current < 4294967296) (link_in : link < 4294967296) where
  abbrev first : List ℕ
  first = with_word old (active t) 0

  abbrev second : List ℕ
  second = with_word first (events t) 0

  abbrev third : List ℕ
  third = with_word second cur current

  abbrev new : List ℕ
  new = with_word third below_word link

  long1 : length first ≡ memory_bytes
  long1 = length-with_word old (active t) 0 ∙ long

  long2 : length second ≡ memory_bytes
  long2 = length-with_word first (events t) 0 ∙ long1

  long3 : length third ≡ memory_bytes
  long3 = length-with_word second cur current ∙ long2

  long4 : length new ≡ memory_bytes
  long4 = length-with_word third below_word link ∙ long3

  high : (i : ℕ) → idle_context ≤ i → slice_index new i ≡ slice_index old i
  high i h =
      get_or-with_word third below_word link i (inr (omega arith)) ∙ get_or-with_word second cur current i (inr (omega arith))
      ∙ get_or-with_word first (events t) 0 i (inr (omega arith)) ∙ get_or-with_word old (active t) 0 i (inr (omega arith))

  named : (p : ℕ) → p % 4 ≡ 0 → p ≢ cur → p ≢ below_word → p ≢ active t → p ≢ events t → word_at new p ≡ word_at old p
  named p m n0 n1 n2 n3 =
      word_other third below_word link p m (omega arith) n1 ∙ word_other second cur current p m (omega arith) n0
      ∙ word_other first (events t) 0 p m (omega arith) n3 ∙ word_other old (active t) 0 p m (omega arith) n2

  activity : word_at new (active t) ≡ 0
  activity =
      word_other third below_word link (active t) (omega arith) (omega arith) (λ e. omega arith) ∙ word_other second cur current (active t) (omega arith) (omega arith) (λ e. omega arith)
      ∙ word_other first (events t) 0 (active t) (omega arith) (omega arith) (λ e. omega arith) ∙ word_at-same old (active t) 0 (omega arith) (omega arith)

  event_mask : word_at new (events t) ≡ 0
  event_mask =
      let l = long1 in
      word_other third below_word link (events t) (omega arith) (omega arith) (λ e. omega arith) ∙ word_other second cur current (events t) (omega arith) (omega arith) (λ e. omega arith)
      ∙ word_at-same first (events t) 0 (omega arith) (omega arith)

  current_word : word_at new cur ≡ current
  current_word = let l = long2 in word_other third below_word link cur (omega arith) (omega arith) (omega arith) ∙ word_at-same second cur current (omega arith) current_in

  link_word : word_at new below_word ≡ link
  link_word = let l = long3 in word_at-same third below_word link (omega arith) link_in

  -- those four words, and no other byte
  pub end_ram : EndRam old new t current link
  end_ram = record { long = long4; high = high; named = named; activity = activity; event_mask = event_mask; current_word = current_word; link_word = link_word }
