-- Files have one answer of `wave`.
use Rattle.std.proofs.Common.{◌∙◌, ℕ, List, sym, ap}
use Rattle.sloth_base.specs.declared.service.Arrival.{Arrival}
use Rattle.sloth_base.specs.declared.image.Image.{Image}
use Rattle.run_samples.proofs.OneSample.{one-samples}
use Rattle.wave_text.specs.Moments.{moments_of}
use Rattle.wave_text.specs.Waves.{AreWavesOf, waves_text}
use Rattle.tool_commands.proofs.RunAnswers.{IsOneText}

-- the waves of a run
abbrev pub Waves : ℕ → Image → List Arrival → List ℕ → Type 0
Waves n = λ image arrivals file. AreWavesOf image arrivals n file

pub one_waves : (n : ℕ) → IsOneText (Waves n) n
one_waves n = record {
  one = λ image arrivals file other h k.
      let samples = one-samples image arrivals 0 h.samples k.samples h.are_samples k.are_samples (h.counted ∙ sym k.counted) in
      h.is ∙ ap (λ xs. waves_text image (moments_of image arrivals xs)) samples ∙ sym k.is;
  whole = λ image arrivals file h. h.whole;
}
