-- A run that is watched for one count more.
use Rattle.std.proofs.Common.{◌≡◌, ◌∙◌, ◌≤◌, ◌+◌, ◌-◌, zero, suc, ℕ, List, [], ◌∷◌, ◌++◌, length, get_or, refl, sym, ap, arith}
use Rattle.std.proofs.lemmas.List.{length-append, get_or_append_left}
use Rattle.std.proofs.Math.Seq.{get_or-append_seam}
use Rattle.sloth_base.specs.declared.service.Arrival.{Arrival}
use Rattle.sloth_base.specs.declared.image.Image.{Image}
use Rattle.sloth_inspect.specs.declared.service_words.ServiceWords.{ServiceWords}
use Rattle.run_samples.specs.declared.samples.Sample.{Sample}
use Rattle.run_samples.specs.declared.samples.Sampler.{Sampler}
use Rattle.run_samples.specs.Samples.{no_sample, sampled_image, sampled_arrivals, sampled_count}
use Rattle.run_samples.specs.Addresses.{address_behind}
use Rattle.run_samples.specs.ServiceWords.{words_behind}
use Rattle.schedule_picture.specs.Marks.{Watch, no_watch, watched, run_watch}

-- the ticks that alarms have left at a count
abbrev alarms_at : Image → List Arrival → ℕ → List ℕ
alarms_at image arrivals n = (words_behind image arrivals n).alarms

module _ (image : Image) (A : List Arrival) (from : ℕ) where
  none : (xs : List Sample) → run_watch image A xs from 0 ≡ no_watch A
  unfolding run_watch
  none xs = refl

  pub watch_none : (xs : List Sample) → no_watch A ≡ run_watch image A xs from (from - from)
  watch_none xs = sym (ap (run_watch image A xs from) (let e : from - from ≡ 0 = omega arith in e) ∙ none xs)

  -- with one sample more it is the same
  same_watch : (xs : List Sample) (x : Sample) (n : ℕ) → from + n ≤ length xs → run_watch image A xs from n ≡ run_watch image A (xs ++ x ∷ []) from n
  unfolding run_watch
  same_watch xs x zero few = refl
  same_watch xs x (suc n) few =
      let at : get_or xs (from + n) no_sample ≡ get_or (xs ++ x ∷ []) (from + n) no_sample =
      sym (get_or_append_left xs (x ∷ []) no_sample (from + n) (omega (arith, few))) in
      ap (λ (w : Watch). watched w (get_or xs (from + n) no_sample) (alarms_at image A (from + n)) (address_behind image A (from + n))) (same_watch xs x n (omega (arith, few)))
      ∙ ap (λ (y : Sample). watched (run_watch image A (xs ++ x ∷ []) from n) y (alarms_at image A (from + n)) (address_behind image A (from + n))) at

  more : (xs : List Sample) (n : ℕ) → run_watch image A xs from (suc n)
      ≡ watched (run_watch image A xs from n) (get_or xs (from + n) no_sample) (alarms_at image A (from + n)) (address_behind image A (from + n))
  unfolding run_watch
  more xs n = refl

  pub watch_more : (k : ℕ) (s : Sampler) (xs : List Sample) (x : Sample) (words : ServiceWords) (address : ℕ) (old new : Watch) → from ≤ k → sampled_image s ≡ image
      → sampled_arrivals s ≡ A → sampled_count s ≡ k → length xs ≡ k → old ≡ run_watch image A xs from (k - from)
      → words ≡ words_behind (sampled_image s) (sampled_arrivals s) (sampled_count s) → address ≡ address_behind (sampled_image s) (sampled_arrivals s) (sampled_count s)
      → new ≡ watched old x words.alarms address
      → new ≡ run_watch image A (xs ++ x ∷ []) from (k + 1 - from)
  watch_more k s xs x words address old new past image_is arrivals_are count counted is read stood shows =
      let ys : List Sample = xs ++ x ∷ [] in
      let n : k + 1 - from ≡ suc (k - from) = omega (arith, past) in
      let back : from + (k - from) ≡ k = omega (arith, past) in
      let here : sampled_count s ≡ from + (k - from) = count ∙ sym back in
      let found : words ≡ words_behind image A (from + (k - from)) =
      read ∙ ap (λ i. words_behind i (sampled_arrivals s) (sampled_count s)) image_is ∙ ap (λ B. words_behind image B (sampled_count s)) arrivals_are
      ∙ ap (words_behind image A) here in
      let there : address ≡ address_behind image A (from + (k - from)) =
      stood ∙ ap (λ i. address_behind i (sampled_arrivals s) (sampled_count s)) image_is ∙ ap (λ B. address_behind image B (sampled_count s)) arrivals_are
      ∙ ap (address_behind image A) here in
      let seam : get_or ys (from + (k - from)) no_sample ≡ x = ap (λ m. get_or ys m no_sample) (back ∙ sym counted) ∙ get_or-append_seam xs x [] no_sample in
      let before : old ≡ run_watch image A ys from (k - from) = is ∙ same_watch xs x (k - from) (omega (arith, back, counted)) in
      let P : ℕ = address_behind image A (from + (k - from)) in
      shows ∙ ap (watched old x words.alarms) there ∙ ap (λ (w : ServiceWords). watched old x w.alarms P) found
      ∙ ap (λ (w : Watch). watched w x (alarms_at image A (from + (k - from))) P) before
      ∙ ap (λ (y : Sample). watched (run_watch image A ys from (k - from)) y (alarms_at image A (from + (k - from))) P) (sym seam)
      ∙ sym (more ys (k - from)) ∙ sym (ap (run_watch image A ys from) n)

  -- there is an address for each count
  pub addresses_counted : (xs : List Sample) (n : ℕ) → length (run_watch image A xs from n).addresses ≡ n
  addresses_counted xs zero = ap (λ (w : Watch). length w.addresses) (none xs)
  addresses_counted xs (suc n) =
      let h = addresses_counted xs n in
      ap (λ (w : Watch). length w.addresses) (more xs n) ∙ length-append (run_watch image A xs from n).addresses (address_behind image A (from + n) ∷ []) ∙ omega (arith, h)
