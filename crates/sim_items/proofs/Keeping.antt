-- What an item that writes to RAM leaves there.
use Rattle.std.proofs.Common.{◌≡◌, ℕ, zero, suc, ◌+◌, ◌*◌, ◌<◌, ◌≤◌, List, [], ◌∷◌, length, get_or, set, refl, sym, ap, ◌∙◌, subst, arith, ⊎_elim, inl, inr, true, false}
use Rattle.std.specs.Prelude.{◌⊎◌, slice_index}
use Rattle.std.proofs.lemmas.Bool.{cases_eq, cases_lt, false_from_ne_true}
use Rattle.std.proofs.lemmas.List.{get_or-set_same, get_or-set_other, length-set}
use Rattle.sloth_base.specs.MemoryMap.{memory_bytes}
use Rattle.rv32_instr.specs.Ram.{word_at, with_word}
use Rattle.masked_code.proofs.Words.{length-with_word, get_or-with_word, word_at-other, word_at-same}
use Rattle.osek_scheduler.specs.State.{Frame, System, task}
use Rattle.sim_relation.specs.Build.{Build, HasFittingPlaces}
use Rattle.sim_relation.specs.Position.{AreWords, AreFrames, AreOuterFrames}
use Rattle.sim_relation.specs.DataStands.{DataStands}
use Rattle.sim_relation.specs.Framing.{AreSameBytes}
use Rattle.sim_relation.specs.Moves.{AreOthersSame}
use Rattle.sim_relation.specs.Stands.{IsAlive, StacksApart}
use Rattle.sim_relation.proofs.Contexts.{data_kept}
use Rattle.sim_relation.proofs.Framing.{outer_below, outer_kept}

-- the service words, the code, and the stacks of other tasks stay
pub record Keeps (b : Build) (old new : List ℕ) (s : System) (t : ℕ) : Type 0 where
  pub long : length new ≡ length old
  pub low : AreSameBytes old new 0 1024
  pub code : (i : ℕ) → b.is_code i ≡ true → slice_index new i ≡ slice_index old i
  pub others : AreOthersSame b old new s t

-- what writes nothing keeps all
pub same_keeps : (b : Build) (ram : List ℕ) (s : System) (t : ℕ) → Keeps b ram ram s t
same_keeps b ram s t = record { long = refl; low = λ i x y. refl; code = λ i h. refl; others = λ u h n a i x y. refl }

-- ---- writes to data

module _ (b : Build) (fits : HasFittingPlaces b) (old new : List ℕ) (only : (i : ℕ) → b.is_data i ≡ false → slice_index new i ≡ slice_index old i) where
  -- a task's part of the stacks
  pub stack_stays : (u : ℕ) → u < length b.config.tasks → AreSameBytes old new (b.low u) (b.top u)
  stack_stays u h i x y =
      only i (false_from_ne_true (b.is_data i) (λ d. ⊎_elim (λ (l : i < b.low u). omega arith) (λ (l : b.top u ≤ i). omega arith) (fits.outside u i h (inr d))))

  pub data_keeps : (s : System) (t : ℕ) → length new ≡ length old → Keeps b old new s t
  data_keeps s t long = record {
    long = long;
    low = λ i x y. only i (false_from_ne_true (b.is_data i) (λ d. (let l = fits.elsewhere i (inr d) in omega arith)));
    code = λ i h. only i (fits.apart i h);
    others = λ u h n a. stack_stays u h;
  }

-- ---- a word of a frame

-- words in place, each by its number
pub words_at : (ram words : List ℕ) (place k : ℕ) → k < length words → AreWords ram place words → word_at ram (place + 4 * k) ≡ get_or words k 0
words_at ram [] place k l h = absurd (omega arith)
words_at ram (w ∷ words) place zero l h = let e : place + 4 * 0 ≡ place = omega arith in ap (word_at ram) e ∙ h.0
words_at ram (w ∷ words) place (suc k) l h =
    let e : place + 4 * suc k ≡ place + 4 + 4 * k = omega arith in
    ap (word_at ram) e ∙ words_at ram words (place + 4) k (omega arith) h.1

-- words that are there one by one are in place
pub words_from : (ram words : List ℕ) (place : ℕ) → ((k : ℕ) → k < length words → word_at ram (place + 4 * k) ≡ get_or words k 0) → AreWords ram place words
words_from ram [] place h = tt
words_from ram (w ∷ words) place h =
    let e : place + 4 * 0 ≡ place = omega arith in (
      sym (ap (word_at ram) e) ∙ h 0 (omega arith),
      words_from ram words (place + 4)
          (λ k l. let f : place + 4 + 4 * k ≡ place + 4 * suc k = omega arith in ap (word_at ram) f ∙ h (suc k) (omega arith)),
    )

-- a word of a task's part of the stacks
module _ (b : Build) (fits : HasFittingPlaces b) (ram : List ℕ) (s : System) (t : ℕ) (inside : t < length b.config.tasks) (alive : IsAlive (task s t)) (apart : StacksApart b s)
    (spot value : ℕ) (low : b.low t ≤ spot) (high : spot + 4 ≤ b.top t) where
  -- what lies outside that part stays
  pub outside_part : (i : ℕ) → (i < b.low t) ⊎ (b.top t ≤ i) → slice_index (with_word ram spot value) i ≡ slice_index ram i
  outside_part i h =
      get_or-with_word ram spot value i
      (⊎_elim (λ (l : i < b.low t). inl (omega arith)) (λ (l : b.top t ≤ i). inr (omega arith)) h)

  -- a word of the task's own part is written: all else stays
  pub part_keeps : Keeps b ram (with_word ram spot value) s t
  part_keeps = record {
    long = length-with_word ram spot value;
    low = λ i x y. outside_part i (inl (let l = fits.from t inside in omega arith));
    code = λ i h. outside_part i (fits.outside t i inside (inl h));
    others = λ u h n a i x y.
        outside_part i
        (⊎_elim (λ (l : b.top t ≤ b.low u). inr (omega arith)) (λ (l : b.top u ≤ b.low t). inl (omega arith)) (apart t u inside h (λ e. n (sym e)) alive a));
  }

  -- and so do the bytes of the symbols
  pub part_data : (i : ℕ) → b.is_data i ≡ true → slice_index (with_word ram spot value) i ≡ slice_index ram i
  part_data i d = outside_part i (fits.outside t i inside (inr d))

module _ (b : Build) (fits : HasFittingPlaces b) (ram : List ℕ) (s : System) (t : ℕ) (inside : t < length b.config.tasks) (alive : IsAlive (task s t)) (apart : StacksApart b s)
    (long : length ram ≡ memory_bytes) (frame : Frame) (outer : List Frame) (place : ℕ) (room : b.low t + 128 ≤ place) (stood : AreFrames b ram frame outer place (b.top t))
    (word value : ℕ) (here : word < length frame.words) (small : value < 4294967296) where
  abbrev spot : ℕ
  spot = place + 4 * word

  abbrev new : List ℕ
  new = with_word ram spot value

  -- it lies in the task's part of the stacks
  pub in_part : (b.low t ≤ spot) × (spot + 4 ≤ b.top t)
  in_part = let l = outer_below b ram outer (place + 4 * length frame.words) (b.top t) stood.2 in (omega arith, omega arith)

  -- a word of the frame is written: all else stays
  pub frame_keeps : Keeps b ram new s t
  frame_keeps = part_keeps b fits ram s t inside alive apart spot value in_part.0 in_part.1

  -- so do the symbols
  pub frame_data : (symbols : List (List ℕ)) → DataStands b ram symbols → DataStands b new symbols
  frame_data symbols = data_kept b ram new symbols (part_data b fits ram s t inside alive apart spot value in_part.0 in_part.1)

  -- and the frame has the word
  pub frame_stood : (item : ℕ) → AreFrames b new (record frame { item = item; words = set frame.words word value }) outer place (b.top t)
  frame_stood item =
      let size = length-set frame.words word value in
      let to = fits.to t inside in
      let part = in_part in
      let top = to.0 in
      let high = part.1 in
      let end : place + 4 * length (set frame.words word value) ≡ place + 4 * length frame.words = ap (λ n. place + 4 * n) size in (
        size ∙ stood.0,
        words_from new (set frame.words word value) place
            (λ k l.
            ⊎_elim
            (λ (e : k ≡ word).
            let f : place + 4 * k ≡ spot = omega arith in
            ap (word_at new) f ∙ word_at-same ram spot value (omega arith) small
            ∙ sym (ap (λ v. get_or (set frame.words word value) v 0) e ∙ get_or-set_same frame.words word value 0 here))
            (λ (e : k ≡ word → ⊥).
            word_at-other ram spot value (place + 4 * k) (apart_words k e)
            ∙ words_at ram frame.words place k (omega arith) stood.1
            ∙ sym (get_or-set_other frame.words word k value 0 e))
            (cases_eq k word)),
        subst (λ p. AreOuterFrames b new outer p (b.top t)) (sym end)
            (outer_kept b ram new (place + 4 * length frame.words) (b.top t)
            (λ i x y. get_or-with_word ram spot value i (inr (omega arith)))
            outer (place + 4 * length frame.words) (omega arith) stood.2),
      )
    where
      apart_words : (k : ℕ) → (k ≡ word → ⊥) → (place + 4 * k + 4 ≤ spot) ⊎ (spot + 4 ≤ place + 4 * k)
      apart_words k e = ⊎_elim (λ (l : k < word). inl (omega arith)) (λ (l : word ≤ k). inr (omega (arith, e))) (cases_lt k word)
