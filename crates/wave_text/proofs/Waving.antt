-- The waves of a run, sample after sample.
use Rattle.std.proofs.Common.{◌≡◌, ◌≤◌, ◌<◌, ◌+◌, ◌∙◌, ℕ, suc, List, [], ◌∷◌, ◌++◌, Option, Some, None, length, refl, sym, ap, subst, arith, append_assoc, append-nil, ⊎_elim}
use Rattle.std.specs.Prelude.{Bool, true, false, ◌==◌, if◌then◌else◌, map}
use Rattle.std.proofs.lemmas.Bool.{cases_lt}
use Rattle.std.proofs.lemmas.Bool.Decides.{eqb_tells}
use Rattle.std.proofs.lemmas.List.{length-append, length-map, map-append}
use Rattle.sloth_base.specs.declared.service.Arrival.{Arrival}
use Rattle.sloth_base.specs.declared.image.Image.{Image}
use Rattle.sloth_base.specs.declared.numbers.Owners.{Owners}
use Rattle.sloth_base.specs.Owners.{owners_named}
use Rattle.rv32_machine.specs.Start.{start}
use Rattle.rv32_machine.proofs.Runs.{stop_none}
use Rattle.sloth_runner.specs.Runner.{HasRun, run_end, end_of}
use Rattle.sloth_runner.specs.Moments.{sloth_state}
use Rattle.sloth_runner.specs.declared.runner.RunEnd.TheVariants as ends
use Rattle.run_samples.specs.declared.samples.Sample.{Sample}
use Rattle.run_samples.specs.declared.samples.Sampler.{Sampler}
use Rattle.run_samples.specs.Samples.{AreSamples, IsSample, IsSampling, sampled_image, sampled_arrivals, sampled_count}
use Rattle.sloth_runner.specs.TaskStates.{AreMasked, AreLastStates, IsLast}
use Rattle.run_samples.specs.ServiceWords.{words_behind}
use Rattle.sloth_runner.specs.declared.task_states.Seen.{Seen}
use Rattle.run_samples.proofs.OneSample.{samples-more}
use Rattle.sloth_runner.proofs.RunStates.{one-last}
use Rattle.sloth_inspect.specs.declared.service_words.ServiceWords.{ServiceWords}
use Rattle.wave_text.specs.declared.dump.Dump.{Dump}
use Rattle.wave_text.specs.declared.dump.Moment.{Moment}
use Rattle.wave_text.specs.Changes.{DumpEntry, changes, entries_from, with_moment}
use Rattle.wave_text.specs.Header.{header}
use Rattle.wave_text.specs.Text.{entry_line, entry_lines}
use Rattle.wave_text.specs.Moments.{no_words, seen_words, moment_of, moments_of, is_open, words_behind_look}
use Rattle.wave_text.specs.Waves.{AreWavesOf}
use Rattle.wave_text.proofs.Dumping.{lines-append}

-- the last of moments behind another, if there is one
abbrev pub last_of : Option Moment → List Moment → Option Moment
last_of old [] = old
last_of old (x ∷ xs) = last_of (Some x) xs

last-more : (old : Option Moment) (xs : List Moment) (x : Moment) → last_of old (xs ++ x ∷ []) ≡ Some x
last-more old [] x = refl
last-more old (y ∷ ys) x = last-more (Some y) ys x

-- one moment more
entries-more : (owners : Owners) (k : ℕ) (old : Option Moment) (xs : List Moment) (x : Moment) → entries_from owners k old (xs ++ x ∷ [])
    ≡ entries_from owners k old xs ++ with_moment (k + length xs) false (changes owners (last_of old xs) (Some x))
entries-more owners k old [] x =
    append-nil (with_moment k false (changes owners old (Some x)))
    ∙ ap (λ n. with_moment n false (changes owners old (Some x))) (let e : k ≡ k + 0 = omega arith in e)
entries-more owners k old (y ∷ ys) x =
    let front : List DumpEntry = with_moment k false (changes owners old (Some y)) in
    let W : ℕ → List DumpEntry = λ n. with_moment n false (changes owners (last_of (Some y) ys) (Some x)) in
    let n : k + 1 + length ys ≡ k + suc (length ys) = omega arith in
    ap (λ l. front ++ l) (entries-more owners (k + 1) (Some y) ys x ∙ ap (λ m. entries_from owners (k + 1) (Some y) ys ++ W m) n)
    ∙ sym (append_assoc front (entries_from owners (k + 1) (Some y) ys) (W (k + suc (length ys))))

-- ---- the words that go with what was seen of the tasks

module _ (image : Image) (A : List Arrival) (k : ℕ) where
  -- what was seen at an earlier count was seen last in front of this one
  seen-earlier : (seen : Seen) → AreLastStates image A (k + 1) seen → seen.count < k → IsLast image A k (Some seen)
  seen-earlier seen is earlier = record {
    state = is.state;
    within = earlier;
    after = is.after;
    enabled = is.enabled;
    tasks = is.tasks;
    running = is.running;
    last = λ count state f l found. is.last count state f (omega arith) found;
  }

  -- nothing was seen up to this count
  none-earlier : IsLast image A (k + 1) None → IsLast image A k None
  none-earlier masked count state f l found = masked count state f (omega arith) found

  look-words : (last seen : Option Seen) (words now : ServiceWords) → IsLast image A k last → IsLast image A (k + 1) seen → words ≡ seen_words image A last
      → now ≡ words_behind image A k → (if is_open seen k then now else words) ≡ seen_words image A seen
  look-words last None words now before is words_are read = words_are ∙ ap (seen_words image A) (sym (one-last image A k None last (none-earlier is) before))
  look-words last (Some seen) words now before is words_are read =
      ⊎_elim
      (λ h. ap (λ (b : Bool). if b then now else words) h.0 ∙ read ∙ ap (words_behind image A) (sym h.1))
      (λ h.
      let within : seen.count < k + 1 = is.within in
      let other : seen.count ≡ k → ⊥ = h.1 in
      let earlier : seen.count < k = lesser seen.count k within other in
      ap (λ (b : Bool). if b then now else words) h.0 ∙ words_are ∙ ap (seen_words image A) (sym (one-last image A k (Some seen) last (seen-earlier seen is earlier) before)))
      (eqb_tells seen.count k)
    where
      lesser : (m n : ℕ) → m < n + 1 → (m ≡ n → ⊥) → m < n
      lesser m n below other = ⊎_elim (λ (l : m < n). l) (λ (l : n ≤ m). absurd (other (omega arith))) (cases_lt m n)

-- a dump that has the waves of the counts before this one
pub record IsDumping (image : Image) (arrivals : List Arrival) (k : ℕ) (sampler : Sampler) (dump : Dump) (last : Option Moment) (words : ServiceWords) : Type 0 where
  pub sampling : IsSampling sampler
  pub image_is : sampled_image sampler ≡ image
  pub arrivals_are : sampled_arrivals sampler ≡ arrivals
  pub count : sampled_count sampler ≡ k
  pub samples : List Sample
  pub counted : length samples ≡ k
  pub are_samples : AreSamples image arrivals 0 samples
  pub text : dump.text.items ≡ header image ++ entry_lines (entries_from (owners_named image) 0 None (moments_of image arrivals samples))
  pub last_is : last ≡ last_of None (moments_of image arrivals samples)
  pub seen : Option Seen
  pub seen_last : IsLast image arrivals k seen
  pub words_are : words ≡ seen_words image arrivals seen

pub dumping-none : (image : Image) (A : List Arrival) (s : Sampler) (d : Dump) (words : ServiceWords) → IsSampling s → sampled_image s ≡ image → sampled_arrivals s ≡ A
    → sampled_count s ≡ 0 → d.text.items ≡ header image → words ≡ no_words → IsDumping image A 0 s d None words
dumping-none image A s d words sampling i a count text none = record {
  sampling = sampling;
  image_is = i;
  arrivals_are = a;
  count = count;
  samples = [];
  counted = refl;
  are_samples = tt;
  text = text ∙ sym (append-nil (header image));
  last_is = refl;
  seen = None;
  seen_last = λ n state f l found. absurd (omega arith);
  words_are = none;
}

pub dumping-more : (image : Image) (A : List Arrival) (k : ℕ) (r s t : Sampler) (d e : Dump) (old : Option Moment) (x : Sample) (words now more : ServiceWords)
    → IsDumping image A k r d old words → s ≡ r → IsSampling t → IsSample (sampled_image s) (sampled_arrivals s) (sampled_count s) x → sampled_image t ≡ sampled_image s
    → sampled_arrivals t ≡ sampled_arrivals s → sampled_count t ≡ sampled_count s + 1 → now ≡ words_behind (sampled_image r) (sampled_arrivals r) (sampled_count r)
    → more ≡ words_behind_look x k words now
    → e.text.items ≡ d.text.items ++ entry_lines (with_moment k false (changes (owners_named image) old (Some (record { sample = x; words = more }))))
    → IsDumping image A (k + 1) t e (Some (record { sample = x; words = more })) more
dumping-more image A k r s t d e old x words now more before same sampling sample i a count read looked text =
    let R : Sampler → Type 0 = λ y. IsDumping image A k y d old words in
    let h : IsDumping image A k s d old words = subst R (sym same) before in
    let xs : List Sample = h.samples in
    let ms : List Moment = moments_of image A xs in
    let m : Moment = record { sample = x; words = more } in
    let owners : Owners = owners_named image in
    let front : List ℕ = entry_lines (entries_from owners 0 None ms) in
    let W : ℕ → Option Moment → List DumpEntry = λ n o. with_moment n false (changes owners o (Some m)) in
    let S : Image → Type 0 = λ j. IsSample j (sampled_arrivals s) (sampled_count s) x in
    let T : List Arrival → Type 0 = λ B. IsSample image B (sampled_count s) x in
    let U : ℕ → Type 0 = λ n. IsSample image A n x in
    let place : k ≡ 0 + length xs = (let c = h.counted in omega (arith, c)) in
    let here : k ≡ 0 + length ms = (let c = h.counted in let l = length-map xs (moment_of image A) in omega (arith, c, l)) in
    let at : IsSample image A k x = subst U h.count (subst T h.arrivals_are (subst S h.image_is sample)) in
    let mine : IsSample image A (0 + length xs) x = subst U place at in
    let told : now ≡ words_behind image A k =
    read ∙ ap (λ j. words_behind j (sampled_arrivals r) (sampled_count r)) before.image_is ∙ ap (λ B. words_behind image B (sampled_count r)) before.arrivals_are
    ∙ ap (words_behind image A) before.count in
    let words_are : more ≡ seen_words image A x.seen = looked ∙ look-words image A k h.seen x.seen words now h.seen_last at.seen h.words_are told in
    let is_moment : m ≡ moment_of image A x = ap (λ (w : ServiceWords). record { sample = x; words = w }) words_are in
    let longer : moments_of image A (xs ++ x ∷ []) ≡ ms ++ m ∷ [] = map-append (moment_of image A) xs (x ∷ []) ∙ ap (λ (y : Moment). ms ++ y ∷ []) (sym is_moment) in
    record {
      sampling = sampling;
      image_is = i ∙ h.image_is;
      arrivals_are = a ∙ h.arrivals_are;
      count = count ∙ ap (λ n. n + 1) h.count;
      samples = xs ++ x ∷ [];
      counted = length-append xs (x ∷ []) ∙ ap (λ n. n + 1) h.counted;
      are_samples = samples-more image A 0 xs x h.are_samples mine;
      text = text ∙ ap (λ l. l ++ entry_lines (W k old)) h.text ∙ append_assoc (header image) front (entry_lines (W k old))
          ∙ ap (λ l. header image ++ (front ++ l)) (ap (λ o. entry_lines (W k o)) h.last_is ∙ ap (λ n. entry_lines (W n (last_of None ms))) here)
          ∙ ap (λ l. header image ++ l)
          (sym (ap (λ l. entry_lines (entries_from owners 0 None l)) longer ∙ ap entry_lines (entries-more owners 0 None ms m)
          ∙ lines-append (entries_from owners 0 None ms) (W (0 + length ms) (last_of None ms))));
      last_is = sym (ap (last_of None) longer ∙ last-more None ms m);
      seen = x.seen;
      seen_last = at.seen;
      words_are = words_are;
    }

-- the waves are whole behind the line of the end
pub waves-whole : (image : Image) (A : List Arrival) (n : ℕ) (s : Sampler) (d e : Dump) (old : Option Moment) (words : ServiceWords) → IsDumping image A n s d old words
    → e.text.items ≡ d.text.items ++ entry_line (DumpEntry.moment n) → AreWavesOf image A n e.text.items
waves-whole image A n s d e old words h text =
    let ms : List Moment = moments_of image A h.samples in
    let shown : List DumpEntry = entries_from (owners_named image) 0 None ms in
    let counted : length ms ≡ n = length-map h.samples (moment_of image A) ∙ h.counted in
    let R : Image → Type 0 = λ i. HasRun s.runner i (sampled_count s) in
    let ran : HasRun s.runner image (sampled_count s) = subst R h.image_is h.sampling.ran in
    let E : ℕ → List Arrival → Type 0 = λ k B. run_end image B k ≡ ends.Whole in
    let whole : E (sampled_count s) (sampled_arrivals s) = ap end_of (stop_none (sampled_count s) (sampled_arrivals s) 0 (start image) (sloth_state s.runner.machine) ran.after) in
    record {
      whole = subst (λ k. E k A) h.count (subst (E (sampled_count s)) h.arrivals_are whole);
      samples = h.samples;
      counted = h.counted;
      are_samples = h.are_samples;
      is = text ∙ ap (λ l. l ++ entry_line (DumpEntry.moment n)) h.text ∙ append_assoc (header image) (entry_lines shown) (entry_line (DumpEntry.moment n))
          ∙ ap (λ l. header image ++ (entry_lines shown ++ l)) (sym (append-nil (entry_line (DumpEntry.moment n))))
          ∙ ap (λ k. header image ++ (entry_lines shown ++ (entry_line (DumpEntry.moment k) ++ []))) (sym counted)
          ∙ ap (λ l. header image ++ l) (sym (lines-append shown (DumpEntry.moment (length ms) ∷ [])));
    }
