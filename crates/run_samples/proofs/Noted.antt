-- What became of the arrivals of one count more.
use Rattle.std.proofs.Common.{◌≡◌, ◌∙◌, ◌≤◌, ◌+◌, ◌-◌, zero, suc, ℕ, List, [], ◌∷◌, ◌++◌, length, get_or, refl, sym, ap, arith}
use Rattle.std.proofs.lemmas.List.{get_or_append_left}
use Rattle.std.proofs.Math.Seq.{get_or-append_seam}
use Rattle.sloth_base.specs.declared.service.Arrival.{Arrival}
use Rattle.sloth_base.specs.declared.image.Image.{Image}
use Rattle.rv32_machine.specs.Start.{start}
use Rattle.rv32_machine.specs.Run.{state_after}
use Rattle.run_samples.specs.Accesses.{accesses_at}
use Rattle.run_samples.specs.declared.accesses.Access.{Access}
use Rattle.run_samples.specs.declared.samples.Sample.{Sample}
use Rattle.run_samples.specs.declared.samples.Sampler.{Sampler}
use Rattle.run_samples.specs.Admissions.{Notes, no_notes, with_accesses, with_sample, run_notes}
use Rattle.run_samples.specs.Samples.{no_sample, sampled_image, sampled_arrivals, sampled_count}

-- what the arrivals of a count of a run find
abbrev pub found_at : Image → List Arrival → ℕ → List Access
found_at image arrivals count = accesses_at arrivals count (state_after count arrivals (start image))

module _ (image : Image) (A : List Arrival) (from : ℕ) where
  none : (xs : List Sample) → run_notes image A xs from 0 ≡ no_notes
  unfolding run_notes
  none xs = refl

  pub notes_none : (xs : List Sample) → no_notes ≡ run_notes image A xs from (from - from)
  notes_none xs = sym (ap (run_notes image A xs from) (let e : from - from ≡ 0 = omega arith in e) ∙ none xs)

  -- with one sample more they are the same
  same_notes : (xs : List Sample) (x : Sample) (n : ℕ) → from + n ≤ length xs → run_notes image A xs from n ≡ run_notes image A (xs ++ x ∷ []) from n
  unfolding run_notes
  same_notes xs x zero few = refl
  same_notes xs x (suc n) few =
      let found : List Access = found_at image A (from + n) in
      let at : get_or xs (from + n) no_sample ≡ get_or (xs ++ x ∷ []) (from + n) no_sample =
      sym (get_or_append_left xs (x ∷ []) no_sample (from + n) (omega (arith, few))) in
      ap (λ (o : Notes). with_sample (with_accesses o found) (get_or xs (from + n) no_sample)) (same_notes xs x n (omega (arith, few)))
      ∙ ap (λ (y : Sample). with_sample (with_accesses (run_notes image A (xs ++ x ∷ []) from n) found) y) at

  more : (xs : List Sample) (n : ℕ) → run_notes image A xs from (suc n)
      ≡ with_sample (with_accesses (run_notes image A xs from n) (found_at image A (from + n))) (get_or xs (from + n) no_sample)
  unfolding run_notes
  more xs n = refl

  pub notes_more : (k : ℕ) (s : Sampler) (xs : List Sample) (x : Sample) (old between new : Notes) → from ≤ k → sampled_image s ≡ image → sampled_arrivals s ≡ A
      → sampled_count s ≡ k → length xs ≡ k → old ≡ run_notes image A xs from (k - from) → between ≡ with_accesses old (found_at (sampled_image s) (sampled_arrivals s) (sampled_count s))
      → new ≡ with_sample between x → new ≡ run_notes image A (xs ++ x ∷ []) from (k + 1 - from)
  notes_more k s xs x old between new past image_is arrivals_are count counted is finds shows =
      let ys : List Sample = xs ++ x ∷ [] in
      let n : k + 1 - from ≡ suc (k - from) = omega (arith, past) in
      let back : from + (k - from) ≡ k = omega (arith, past) in
      let here : sampled_count s ≡ from + (k - from) = count ∙ sym back in
      let found : found_at (sampled_image s) (sampled_arrivals s) (sampled_count s) ≡ found_at image A (from + (k - from)) =
      ap (λ i. found_at i (sampled_arrivals s) (sampled_count s)) image_is ∙ ap (λ B. found_at image B (sampled_count s)) arrivals_are
      ∙ ap (found_at image A) here in
      let seam : get_or ys (from + (k - from)) no_sample ≡ x = ap (λ m. get_or ys m no_sample) (back ∙ sym counted) ∙ get_or-append_seam xs x [] no_sample in
      let before : old ≡ run_notes image A ys from (k - from) = is ∙ same_notes xs x (k - from) (omega (arith, back, counted)) in
      shows
      ∙ ap (λ (b : Notes). with_sample b x) (finds ∙ ap (λ (o : Notes). with_accesses o (found_at (sampled_image s) (sampled_arrivals s) (sampled_count s))) before
      ∙ ap (with_accesses (run_notes image A ys from (k - from))) found)
      ∙ ap (λ (y : Sample). with_sample (with_accesses (run_notes image A ys from (k - from)) (found_at image A (from + (k - from)))) y) (sym seam)
      ∙ sym (more ys (k - from)) ∙ sym (ap (run_notes image A ys from) n)
