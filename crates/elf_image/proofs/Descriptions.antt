-- A description has its parts once, and what is read of it is it.
use Rattle.std.proofs.Common.{◌≡◌, ◌≢◌, ◌≤◌, ◌+◌, ◌-◌, ◌*◌, ℕ, List, [], ◌∷◌, ◌++◌, length, take, drop, refl, sym, ◌∙◌, ap, subst, arith, append-nil}
use Rattle.std.specs.List.{flat_map}
use Rattle.std.proofs.lemmas.List.{drop_all, length-take-le, length-drop}
use Rattle.std.proofs.Math.Seq.{take-append_seam}
use Rattle.sloth_base.specs.ImageRange.{IsMark}
use Rattle.sloth_base.specs.declared.image.Image.{Image}
use Rattle.sloth_base.specs.declared.image.Mark.{Mark}
use Rattle.sloth_base.specs.Limits.{body_limit}
use Rattle.sloth_base.specs.MemoryMap.{memory_bytes}
use Rattle.image_file.specs.Fields.{four_bytes}
use Rattle.image_file.specs.ImageText.{mark_bytes, name_bytes}
use Rattle.image_file.specs.Limits.{SizesFit}
use Rattle.image_file.specs.Parts.{Parts, PartsStand, body_bytes}
use Rattle.image_file.specs.Reading.{MarksStand, NamedPartsStand, parts_at}
use Rattle.image_file.specs.declared.header.Sizes.{Sizes}
use Rattle.image_file.proofs.Headers.{FitWords, same_with, words_fit}
use Rattle.image_file.proofs.Unique.{Splits, four, lists, mark, mark_fits}
use Rattle.image_file.proofs.Faulted.{one_body}
use Rattle.elf_image.specs.Faults.{AreRight, Description, IsWithin, described_bytes}
use Rattle.elf_image.specs.Reading.{AreNamesAndMarks, HasDescriptionSizes, IsDescription, description_at, numbers_before}

-- its numbers, and its parts: there is no memory
abbrev pub sizes_of : Description → Sizes
sizes_of d = record { tasks = length d.tasks; funcs = length d.funcs; counters = length d.counters; memory = 0; marks = d.count }

abbrev pub parts_of : Description → Parts
parts_of d = record { tasks = d.tasks; funcs = d.funcs; counters = d.counters; memory = []; count = d.count; marks = d.marks }

sizes-fit : (d : Description) → IsWithin d → SizesFit (sizes_of d)
sizes-fit d w = record {
  few_tasks = w.few_tasks;
  few_functions = w.few_functions;
  few_counters = w.few_counters;
  memory_fits = omega arith;
  whole_words = refl;
  few_marks = w.few_marks;
}

pub begins : (d : Description) → IsWithin d → HasDescriptionSizes (described_bytes d) (sizes_of d)
unfolding four_bytes
begins d w = record { within = sizes-fit d w; no_memory = refl; long = omega arith; are = refl }

-- its numbers are one
same-numbers : (s t : Sizes) (rest : List ℕ) → FitWords s → FitWords t → s.memory ≡ t.memory → numbers_before s rest ≡ numbers_before t rest → s ≡ t
unfolding four_bytes
same-numbers s t rest p q memory same =
    let e : four_bytes s.tasks ++ (four_bytes s.funcs ++ (four_bytes s.counters ++ (four_bytes s.marks ++ rest)))
    ≡ four_bytes t.tasks ++ (four_bytes t.funcs ++ (four_bytes t.counters ++ (four_bytes t.marks ++ rest))) = same in
    let a = four s.tasks t.tasks _ _ p.tasks q.tasks e in
    let b = four s.funcs t.funcs _ _ p.funcs q.funcs a.1 in
    let c = four s.counters t.counters _ _ p.counters q.counters b.1 in
    let k = four s.marks t.marks rest rest p.marks q.marks c.1 in
    same_with s.tasks t.tasks s.funcs t.funcs s.counters t.counters s.memory t.memory s.marks t.marks a.0 b.0 c.0 memory k.0

pub one-numbers : (description : List ℕ) (s t : Sizes) → HasDescriptionSizes description s → HasDescriptionSizes description t → s ≡ t
one-numbers description s t h i =
    same-numbers s t (drop 16 description) (words_fit s h.within) (words_fit t i.within) (h.no_memory ∙ sym i.no_memory) (sym h.are ∙ i.are)

-- numbers that are out of the limits are no description's
pub no-numbers : (description : List ℕ) (s : Sizes) → FitWords s → s.memory ≡ 0 → description ≡ numbers_before s (drop 16 description) → (SizesFit s → ⊥)
    → (t : Sizes) → ¬ (HasDescriptionSizes description t)
no-numbers description s fit none are out t has =
    let same = same-numbers s t (drop 16 description) fit (words_fit t has.within) (none ∙ sym has.no_memory) (sym are ∙ has.are) in
    out (subst SizesFit (sym same) has.within)

-- four numbers that stand one behind the other
pub numbers-stand : (description : List ℕ) (t f c k : ℕ) → description ≡ four_bytes t ++ drop 4 description → drop 4 description ≡ four_bytes f ++ drop 8 description
    → drop 8 description ≡ four_bytes c ++ drop 12 description → drop 12 description ≡ four_bytes k ++ drop 16 description
    → description ≡ numbers_before (record { tasks = t; funcs = f; counters = c; memory = 0; marks = k }) (drop 16 description)
unfolding four_bytes
numbers-stand description t f c k a b d e =
    a ∙ ap (λ x. four_bytes t ++ x) (b ∙ ap (λ x. four_bytes f ++ x) (d ∙ ap (λ x. four_bytes c ++ x) e))

behind-numbers : (d : Description) → drop 16 (described_bytes d) ≡ flat_map name_bytes d.tasks ++ (flat_map name_bytes d.funcs ++ (flat_map name_bytes d.counters ++ d.marks))
unfolding four_bytes
behind-numbers d = refl

-- its parts stand behind its numbers
pub stands : (description : List ℕ) (s : Sizes) (d : Description) → HasDescriptionSizes description s → IsWithin d → description ≡ described_bytes d
    → PartsStand description 16 s (parts_of d) []
stands description s d has w e =
    let P : List ℕ → Type 0 = λ x. HasDescriptionSizes x (sizes_of d) in
    let same : sizes_of d ≡ s = one-numbers description (sizes_of d) s (subst P (sym e) (begins d w)) has in
    record {
      tasks = ap (λ (x : Sizes). x.tasks) same;
      funcs = ap (λ (x : Sizes). x.funcs) same;
      counters = ap (λ (x : Sizes). x.counters) same;
      memory = ap (λ (x : Sizes). x.memory) same;
      marks = ap (λ (x : Sizes). x.marks) same;
      twelve_each = w.twelve_each;
      are = ap (λ x. drop 16 x) e ∙ behind-numbers d
          ∙ ap (λ x. flat_map name_bytes d.tasks ++ (flat_map name_bytes d.funcs ++ (flat_map name_bytes d.counters ++ x))) (sym (append-nil d.marks));
    }

-- a description has its parts once
pub one-described : (d e : Description) → IsWithin d → IsWithin e → described_bytes d ≡ described_bytes e → d ≡ e
one-described d e w v same =
    let parts = one_body (described_bytes d) 16 (sizes_of d) (parts_of d) (parts_of e) [] [] (stands (described_bytes d) (sizes_of d) d (begins d w) w refl)
    (stands (described_bytes d) (sizes_of d) e (begins d w) v same) in
    ap (λ (p : Parts). record { tasks = p.tasks; funcs = p.funcs; counters = p.counters; count = p.count; marks = p.marks }) parts.0

pub marks-here : (file : List ℕ) (at count : ℕ) → at + count * 12 ≡ length file → length (take (count * 12) (drop (at + 0) file)) ≡ count * 12
marks-here file at count ends = length-take-le (count * 12) (drop (at + 0) file) (let e = length-drop (at + 0) file in omega (arith, e, ends))

module _ (description : List ℕ) (s : Sizes) (tasks funcs counters : List (List ℕ)) (at : ℕ) (has : HasDescriptionSizes description s)
    (read : NamedPartsStand description 16 s tasks funcs counters at) where
  -- what was read up to the end is the description
  pub description-is : (count : ℕ) → count ≡ s.marks → at + count * 12 ≡ length description → IsDescription description tasks funcs counters at count
  unfolding four_bytes
  description-is count counted ends =
      let w = has.within in
      let p = read.parts in
      let marks : List ℕ = take (count * 12) (drop (at + 0) description) in
      let a = w.few_tasks in let b = w.few_functions in let c = w.few_counters in let k = w.few_marks in
      let t = p.tasks in let f = p.funcs in let u = p.counters in
      let Q : ℕ → ℕ → Type 0 = λ m n. drop 16 description ≡ body_bytes (parts_at description tasks funcs counters at m n) (drop (at + m + n * 12) description) in
      let body : Q 0 count = subst (λ n. Q 0 n) (sym counted) (subst (λ m. Q m s.marks) has.no_memory p.are) in
      let none : drop (at + 0 + count * 12) description ≡ [] = drop_all (at + 0 + count * 12) description (omega (arith, ends)) in
      let F : ℕ → ℕ → ℕ → ℕ → List ℕ → List ℕ = λ t f c n x. flat_map four_bytes (t ∷ f ∷ c ∷ n ∷ []) ++ x in
      let names : List ℕ → List ℕ = λ x. flat_map name_bytes tasks ++ (flat_map name_bytes funcs ++ (flat_map name_bytes counters ++ x)) in
      record {
        within = record {
          few_tasks = omega (arith, a, t);
          few_functions = omega (arith, b, f);
          few_counters = omega (arith, c, u);
          few_marks = omega (arith, k, counted);
          twelve_each = marks-here description at count ends;
        };
        are = has.are ∙ ap (λ x. numbers_before s x) (body ∙ ap (λ x. names (marks ++ x)) none ∙ ap names (append-nil marks))
            ∙ ap (λ n. F n s.funcs s.counters s.marks (names marks)) (sym t) ∙ ap (λ n. F (length tasks) n s.counters s.marks (names marks)) (sym f)
            ∙ ap (λ n. F (length tasks) (length funcs) n s.marks (names marks)) (sym u)
            ∙ ap (λ n. F (length tasks) (length funcs) (length counters) n (names marks)) (sym counted);
        ends = ends;
      }

  -- and where the marks are not its end it is none
  pub no-end : (count : ℕ) → count ≡ s.marks → (at + count * 12 ≡ length description → ⊥) → (d : Description) → IsWithin d → description ≢ described_bytes d
  no-end count counted differs d w e =
      let same = one_body description 16 s (parts_at description tasks funcs counters at s.memory s.marks) (parts_of d)
      (drop (at + s.memory + s.marks * 12) description) [] read.parts (stands description s d has w e) in
      let none : length description - (at + s.memory + s.marks * 12) ≡ 0 =
      sym (length-drop (at + s.memory + s.marks * 12) description) ∙ ap (λ x. length x) same.1 in
      let long = read.long in
      let memory = has.no_memory in
      let twelve : count * 12 ≡ s.marks * 12 = ap (λ n. n * 12) counted in
      differs (omega (arith, none, long, memory, twelve))

-- marks that were read are those of the description, and the other way round
all-marks : (file : List ℕ) (at count : ℕ) → at + count * 12 ≡ length file → take (count * 12) (drop (at + 0) file) ≡ drop at file
all-marks file at count ends =
    let zero : at + 0 ≡ at = omega arith in
    let n : count * 12 ≡ length (drop at file) = (let e = length-drop at file in omega (arith, e, ends)) in
    ap (λ k. take (count * 12) (drop k file)) zero ∙ ap (λ k. take k (drop at file)) n ∙ take_whole (drop at file)
  where
    take_whole : (xs : List ℕ) → take (length xs) xs ≡ xs
    take_whole xs = ap (λ x. take (length xs) x) (sym (append-nil xs)) ∙ take-append_seam xs []

pub right-read : (file : List ℕ) (tasks funcs counters : List (List ℕ)) (at count size : ℕ) (image : Image) → IsDescription file tasks funcs counters at count
    → AreNamesAndMarks file tasks funcs counters at count size image → AreRight size (description_at file tasks funcs counters at count) image.marks
right-read file tasks funcs counters at count size image is read =
    let ends = is.ends in
    let counted : length image.marks * 12 ≡ count * 12 = ap (λ n. n * 12) read.counted in
    let none : drop (at + length image.marks * 12) file ≡ [] = drop_all (at + length image.marks * 12) file (omega (arith, counted, ends)) in
    record {
      names = read.names;
      counted = read.counted;
      written = all-marks file at count ends ∙ read.marks.are ∙ ap (λ x. flat_map mark_bytes image.marks ++ x) none
          ∙ append-nil (flat_map mark_bytes image.marks);
      each = read.marks.right;
      ascending = read.ascending;
    }

pub read-right : (file : List ℕ) (tasks funcs counters : List (List ℕ)) (at count size : ℕ) (memory : List ℕ) (marks : List Mark) → IsDescription file tasks funcs counters at count
    → AreRight size (description_at file tasks funcs counters at count) marks
    → AreNamesAndMarks file tasks funcs counters at count size (record { tasks = tasks; funcs = funcs; counters = counters; memory = memory; marks = marks })
read-right file tasks funcs counters at count size memory marks is right =
    let ends = is.ends in
    let counted : length marks * 12 ≡ count * 12 = ap (λ n. n * 12) right.counted in
    let none : drop (at + length marks * 12) file ≡ [] = drop_all (at + length marks * 12) file (omega (arith, counted, ends)) in
    record {
      tasks_are = refl;
      funcs_are = refl;
      counters_are = refl;
      names = right.names;
      marks = record {
        are = sym (all-marks file at count ends) ∙ right.written ∙ sym (append-nil (flat_map mark_bytes marks))
            ∙ ap (λ x. flat_map mark_bytes marks ++ x) (sym none);
        right = right.each;
      };
      counted = right.counted;
      ascending = right.ascending;
    }

-- marks that stand at a place are one list
pub one-marks : (file : List ℕ) (at services funcs size : ℕ) (ms ns : List Mark) → funcs ≤ body_limit → size ≤ memory_bytes → MarksStand file at services funcs size ms → MarksStand file at services funcs size ns
    → length ms ≡ length ns → ms ≡ ns
one-marks file at services funcs size ms ns few fits h i same =
    let P : Mark → Type 0 = IsMark services funcs size in
    let each : (m n : Mark) (r s : List ℕ) → P m → P n → mark_bytes m ++ r ≡ mark_bytes n ++ s → Splits m n r s =
    λ m n r s a b. mark m n r s (mark_fits services funcs size m few fits a) (mark_fits services funcs size n few fits b) in
    (lists P mark_bytes each ms ns _ _ same h.right i.right (sym h.are ∙ i.are)).0
