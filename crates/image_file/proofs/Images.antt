-- An image is determined by its bytes, and by any bytes that begin with them.
use Rattle.std.proofs.Common.{◌≡◌, ℕ, List, [], ◌++◌, length, All, sym, ◌∙◌, ap, append_assoc, append-nil}
use Rattle.std.specs.List.{flat_map}
use Rattle.image_file.specs.Fields.{four_bytes, magic_bytes}
use Rattle.image_file.specs.ImageText.{ImageText, counter_bytes, image_bytes, mark_bytes, name_bytes}
use Rattle.image_file.specs.Limits.{SizesFit}
use Rattle.image_file.specs.Parts.{header_before}
use Rattle.image_file.specs.declared.header.Sizes.{Sizes}
use Rattle.sloth_base.specs.ImageRange.{InFormat, service_limit}
use Rattle.sloth_base.specs.declared.image.Image.{Image}
use Rattle.sloth_base.specs.declared.image.Mark.{Mark}
use Rattle.image_file.proofs.Headers.{same_sizes, words_fit}
use Rattle.image_file.proofs.Unique.{FitsBytes, Splits, any_name, each_fits, front, lists, mark, name}

-- the numbers of an image
abbrev pub image_sizes : Image → Sizes
image_sizes image = record {
  tasks = length image.tasks;
  funcs = length image.funcs;
  counters = length image.counters;
  memory = length image.memory;
  marks = length image.marks;
}

pub sizes_fit : (image : Image) → InFormat image → SizesFit (image_sizes image)
sizes_fit image range = record {
  few_tasks = range.few_tasks;
  few_functions = range.few_functions;
  few_counters = range.few_counters;
  memory_fits = range.memory_fits;
  whole_words = range.whole_words;
  few_marks = range.few_marks;
}

marks_fit : (image : Image) → InFormat image → All FitsBytes image.marks
marks_fit image range =
    each_fits (service_limit (length image.counters)) (length image.funcs) (length image.memory) image.marks range.few_functions range.memory_fits range.marks

image_parts : (p a b u c d t f v m k r : List ℕ)
    → ((((((((((p ++ a) ++ b) ++ u) ++ c) ++ d) ++ t) ++ f) ++ v) ++ m) ++ k) ++ r
    ≡ p ++ (a ++ (b ++ (u ++ (c ++ (d ++ (t ++ (f ++ (v ++ (m ++ (k ++ r))))))))))
image_parts p a b u c d t f v m k r = simp append_assoc

image_of : List (List ℕ) → List (List ℕ) → List (List ℕ) → List ℕ → List Mark → Image
image_of tasks functions counters memory marks = record { tasks = tasks; funcs = functions; counters = counters; memory = memory; marks = marks }

same_image : (t t' f f' c c' : List (List ℕ)) (m m' : List ℕ) (k k' : List Mark) → t ≡ t' → f ≡ f' → c ≡ c' → m ≡ m' → k ≡ k'
    → image_of t f c m k ≡ image_of t' f' c' m' k'
same_image t t' f f' c c' m m' k k' p q r u v = cc

-- an image's bytes: its header, and what stands behind it
pub nested_bytes : (image : Image) (r : List ℕ) → image_bytes image ++ r
    ≡ header_before (image_sizes image) (flat_map name_bytes image.tasks ++ (flat_map name_bytes image.funcs ++ (flat_map name_bytes image.counters
    ++ (image.memory ++ (flat_map mark_bytes image.marks ++ r)))))
nested_bytes image r =
    image_parts (magic_bytes (length image.counters)) (four_bytes (length image.tasks)) (four_bytes (length image.funcs)) (counter_bytes (length image.counters))
    (four_bytes (length image.memory)) (four_bytes (length image.marks)) (flat_map name_bytes image.tasks) (flat_map name_bytes image.funcs)
    (flat_map name_bytes image.counters) image.memory (flat_map mark_bytes image.marks) r

-- images whose bytes begin alike are the same, and so is what follows
pub image-splits : (one other : Image) (r s : List ℕ) → InFormat one → InFormat other
    → image_bytes one ++ r ≡ image_bytes other ++ s → Splits one other r s
unfolding image_of
image-splits one other r s p q e =
    let header = same_sizes (image_sizes one) (image_sizes other) _ _ (words_fit (image_sizes one) (sizes_fit one p)) (words_fit (image_sizes other) (sizes_fit other q))
    (sym (nested_bytes one r) ∙ e ∙ nested_bytes other s) in
    let is : image_sizes one ≡ image_sizes other = header.0 in
    let tasks = lists (λ x. Unit {0}) name_bytes name one.tasks other.tasks _ _ (ap (λ (x : Sizes). x.tasks) is) (any_name one.tasks) (any_name other.tasks) header.1 in
    let functions = lists (λ x. Unit {0}) name_bytes name one.funcs other.funcs _ _ (ap (λ (x : Sizes). x.funcs) is) (any_name one.funcs) (any_name other.funcs) tasks.1 in
    let counters = lists (λ x. Unit {0}) name_bytes name one.counters other.counters _ _ (ap (λ (x : Sizes). x.counters) is) (any_name one.counters) (any_name other.counters) functions.1 in
    let memory = front one.memory other.memory _ _ (ap (λ (x : Sizes). x.memory) is) counters.1 in
    let marks = lists FitsBytes mark_bytes mark one.marks other.marks r s (ap (λ (x : Sizes). x.marks) is) (marks_fit one p) (marks_fit other q) memory.1 in (
      same_image one.tasks other.tasks one.funcs other.funcs one.counters other.counters one.memory other.memory one.marks other.marks
          tasks.0 functions.0 counters.0 memory.0 marks.0,
      marks.1,
    )

-- no two images have the same bytes
pub image-unique : (one other : Image) (file : List ℕ) → ImageText file one → ImageText file other → one ≡ other
image-unique one other file p q =
    (image-splits one other [] [] p.in_format q.in_format
    (append-nil (image_bytes one) ∙ sym p.written ∙ q.written ∙ sym (append-nil (image_bytes other)))).0

-- no image's bytes are followed by more bytes in another's
pub image-ends : (one other : Image) (file rest : List ℕ) → ImageText file one → ImageText (file ++ rest) other → rest ≡ []
image-ends one other file rest p q =
    (image-splits one other rest [] p.in_format q.in_format
    (ap (λ x. x ++ rest) (sym p.written) ∙ q.written ∙ sym (append-nil (image_bytes other)))).1
