-- The RAM that an entry leaves: a context, the words of the entry, and a frame.
use Rattle.std.proofs.Common.{◌≡◌, ℕ, suc, ◌+◌, ◌*◌, ◌%◌, ◌<◌, ◌≤◌, List, [], ◌∷◌, length, ◌∙◌, arith, ⊎_elim, inl, inr}
use Rattle.std.specs.Prelude.{◌⊎◌, ◌≢◌, slice_index}
use Rattle.sloth_base.specs.Limits.{task_limit}
use Rattle.sloth_base.specs.MemoryMap.{memory_base, memory_bytes}
use Rattle.sloth_region.specs.Layout.{cur, below_word, active, idle_context, context_bytes}
use Rattle.rv32_instr.specs.Ram.{word_at, with_word, with_words}
use Rattle.masked_code.proofs.Words.{word_at-same, word_at-others, get_or-with_word, get_or-with_words, word_at-with_words, length-with_word, length-with_words, word_at-agree}
use Rattle.sim_relation.specs.Position.{AreWords}
use Rattle.sim_relation.proofs.Parts.{word_other}

-- words in place after they were written
pub written : (words ram : List ℕ) (place : ℕ) → place + 4 * length words ≤ length ram → ((i : ℕ) → slice_index words i < 4294967296) → AreWords (with_words ram place words) place words
written [] ram place h s = tt
written (word ∷ words) ram place h s =
    let n = length-with_word ram place word in (
      word_at-others words (with_word ram place word) (place + 4) place (inl (omega arith)) ∙ word_at-same ram place word (omega arith) (s 0),
      written words (with_word ram place word) (place + 4) (omega arith) (λ i. s (suc i)),
    )

-- `words` and `registers` are stored in the context at `place`, and `zeros` in the frame
abbrev pub stored : (ram words registers zeros : List ℕ) (place t frame : ℕ) → List ℕ
stored ram words registers zeros place t frame =
    with_words
    (with_word (with_word (with_word (with_words (with_words ram (place + 20) registers) place words) below_word (memory_base + place)) cur (t + 1)) (active t) 1)
    frame zeros

-- what the bytes are then
pub record IsStored (ram words registers zeros : List ℕ) (place t frame : ℕ) (new : List ℕ) : Type 0 where
  pub long : length new ≡ memory_bytes
  pub outside : (i : ℕ) → idle_context ≤ i → (i < place) ⊎ (place + context_bytes ≤ i) → (i < frame) ⊎ (frame + 4 * length zeros ≤ i) → slice_index new i ≡ slice_index ram i
  pub word_is : (j : ℕ) → j < 4 → word_at new (place + 4 * j) ≡ slice_index words j
  pub register_is : (j : ℕ) → j < length registers → word_at new (place + 20 + 4 * j) ≡ slice_index registers j
  pub frame_words : AreWords new frame zeros
  pub named : (p : ℕ) → p + 4 ≤ idle_context → p % 4 ≡ 0 → p ≢ cur → p ≢ below_word → p ≢ active t → word_at new p ≡ word_at ram p
  pub current : word_at new cur ≡ t + 1
  pub link : word_at new below_word ≡ memory_base + place
  pub activity : word_at new (active t) ≡ 1

-- what such stores need: room for the context and the frame, apart from each other and behind the named words, and words to store
pub record MayStore (ram words registers zeros : List ℕ) (place t frame : ℕ) : Type 0 where
  pub size : length ram ≡ memory_bytes
  pub four : length words ≡ 4
  pub rest : length registers ≤ 27
  pub declared : t < task_limit
  pub behind : idle_context ≤ place
  pub aligned : place % 4 ≡ 0
  pub inside : place + context_bytes ≤ memory_bytes
  pub frame_from : 1024 ≤ frame
  pub frame_inside : frame + 4 * length zeros ≤ memory_bytes
  pub apart : (place + context_bytes ≤ frame) ⊎ (frame + 4 * length zeros ≤ place)
  pub small_words : (i : ℕ) → slice_index words i < 4294967296
  pub small_registers : (i : ℕ) → slice_index registers i < 4294967296
  pub small_zeros : (i : ℕ) → slice_index zeros i < 4294967296

module _ (ram words registers zeros : List ℕ) (place t frame : ℕ) (may : MayStore ram words registers zeros place t frame) where
  abbrev ram1 : List ℕ
  ram1 = with_words ram (place + 20) registers

  abbrev ram2 : List ℕ
  ram2 = with_words ram1 place words

  abbrev ram3 : List ℕ
  ram3 = with_word ram2 below_word (memory_base + place)

  abbrev ram4 : List ℕ
  ram4 = with_word ram3 cur (t + 1)

  abbrev ram5 : List ℕ
  ram5 = with_word ram4 (active t) 1

  abbrev new : List ℕ
  new = stored ram words registers zeros place t frame

  long1 : length ram1 ≡ memory_bytes
  long1 = length-with_words registers ram (place + 20) ∙ may.size

  long2 : length ram2 ≡ memory_bytes
  long2 = length-with_words words ram1 place ∙ long1

  long5 : length ram5 ≡ memory_bytes
  long5 = length-with_word ram4 (active t) 1 ∙ length-with_word ram3 cur (t + 1) ∙ length-with_word ram2 below_word (memory_base + place) ∙ long2

  long_new : length new ≡ memory_bytes
  long_new = length-with_words zeros ram5 frame ∙ long5

  -- bytes above the named words: outside the context and the frame they stay
  high5 : (i : ℕ) → idle_context ≤ i → slice_index ram5 i ≡ slice_index ram2 i
  high5 i h =
      get_or-with_word ram4 (active t) 1 i (inr (omega arith)) ∙ get_or-with_word ram3 cur (t + 1) i (inr (omega arith)) ∙ get_or-with_word ram2 below_word (memory_base + place) i (inr (omega arith))

  outside : (i : ℕ) → idle_context ≤ i → (i < place) ⊎ (place + context_bytes ≤ i) → (i < frame) ⊎ (frame + 4 * length zeros ≤ i) → slice_index new i ≡ slice_index ram i
  outside i h a b =
      get_or-with_words zeros ram5 frame i b ∙ high5 i h
      ∙ get_or-with_words words ram1 place i (⊎_elim (λ (x : i < place). inl (omega arith)) (λ (x : place + context_bytes ≤ i). inr (omega arith)) a)
      ∙ get_or-with_words registers ram (place + 20) i (⊎_elim (λ (x : i < place). inl (omega arith)) (λ (x : place + context_bytes ≤ i). inr (omega arith)) a)

  -- the context
  in_context : (i : ℕ) → place ≤ i → i < place + context_bytes → slice_index new i ≡ slice_index ram2 i
  in_context i x y =
      get_or-with_words zeros ram5 frame i (⊎_elim (λ (z : place + context_bytes ≤ frame). inl (omega arith)) (λ (z : frame + 4 * length zeros ≤ place). inr (omega arith)) may.apart) ∙ high5 i (omega arith)

  context_word : (p : ℕ) → place ≤ p → p + 4 ≤ place + context_bytes → word_at new p ≡ word_at ram2 p
  context_word p x y = word_at-agree new ram2 p (λ i a b. in_context i (omega arith) (omega arith))

  word_is : (j : ℕ) → j < 4 → word_at new (place + 4 * j) ≡ slice_index words j
  word_is j h =
      let n = long1 in
      context_word (place + 4 * j) (omega arith) (omega arith)
      ∙ word_at-with_words words ram1 place j (omega arith) (omega arith) may.small_words

  register_is : (j : ℕ) → j < length registers → word_at new (place + 20 + 4 * j) ≡ slice_index registers j
  register_is j h =
      context_word (place + 20 + 4 * j) (omega arith) (omega arith)
      ∙ word_at-others words ram1 place (place + 20 + 4 * j) (inr (omega arith))
      ∙ word_at-with_words registers ram (place + 20) j (omega arith) (omega arith) may.small_registers

  -- the frame
  frame_words : AreWords new frame zeros
  frame_words = let n = long5 in written zeros ram5 frame (omega arith) may.small_zeros

  -- the named words
  low_word : (p : ℕ) → p + 4 ≤ idle_context → word_at new p ≡ word_at ram5 p
  low_word p h = word_at-others zeros ram5 frame p (inl (omega arith))

  low_two : (p : ℕ) → p + 4 ≤ idle_context → word_at ram2 p ≡ word_at ram p
  low_two p h = word_at-others words ram1 place p (inl (omega arith)) ∙ word_at-others registers ram (place + 20) p (inl (omega arith))

  named : (p : ℕ) → p + 4 ≤ idle_context → p % 4 ≡ 0 → p ≢ cur → p ≢ below_word → p ≢ active t → word_at new p ≡ word_at ram p
  named p h a n0 n1 n2 =
      low_word p h ∙ word_other ram4 (active t) 1 p a (omega arith) n2 ∙ word_other ram3 cur (t + 1) p a (omega arith) n0 ∙ word_other ram2 below_word (memory_base + place) p a (omega arith) n1 ∙ low_two p h

  current_is : word_at new cur ≡ t + 1
  current_is =
      let n = length-with_word ram2 below_word (memory_base + place) in
      let l = long2 in
      low_word 0 (omega arith) ∙ word_other ram4 (active t) 1 0 (omega arith) (omega arith) (omega arith) ∙ word_at-same ram3 cur (t + 1) (omega arith) (omega arith)

  link_is : word_at new below_word ≡ memory_base + place
  link_is =
      let l = long2 in
      low_word below_word (omega arith) ∙ word_other ram4 (active t) 1 below_word (omega arith) (omega arith) (λ e. omega arith) ∙ word_other ram3 cur (t + 1) below_word (omega arith) (omega arith) (omega arith) ∙ word_at-same ram2 below_word (memory_base + place) (omega arith) (omega arith)

  activity_is : word_at new (active t) ≡ 1
  activity_is =
      let l = long2 in
      let n3 = length-with_word ram2 below_word (memory_base + place) in
      let n4 = length-with_word ram3 cur (t + 1) in
      low_word (active t) (omega arith) ∙ word_at-same ram4 (active t) 1 (omega arith) (omega arith)

  -- what is stored is found again
  pub is_stored : IsStored ram words registers zeros place t frame (stored ram words registers zeros place t frame)
  is_stored = record {
    long = long_new;
    outside = outside;
    word_is = word_is;
    register_is = register_is;
    frame_words = frame_words;
    named = named;
    current = current_is;
    link = link_is;
    activity = activity_is;
  }
