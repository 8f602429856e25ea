-- Files have one answer of `picture`.
use Rattle.std.proofs.Common.{ℕ, List}
use Rattle.sloth_base.specs.declared.service.Arrival.{Arrival}
use Rattle.sloth_base.specs.declared.image.Image.{Image}
use Rattle.schedule_picture.specs.Picture.{IsPictureOf}
use Rattle.schedule_picture.proofs.OnePicture.{one_picture}
use Rattle.tool_commands.proofs.RunAnswers.{IsOneText}

-- the picture of a part of a run
abbrev pub Pictures : (from to : ℕ) → Image → List Arrival → List ℕ → Type 0
Pictures from to = λ image arrivals file. IsPictureOf image arrivals from to file

pub one_pictures : (from to : ℕ) → IsOneText (Pictures from to) to
one_pictures from to = record {
  one = λ image arrivals file other h k. one_picture image arrivals from to file other h k;
  whole = λ image arrivals file h. h.whole;
}
