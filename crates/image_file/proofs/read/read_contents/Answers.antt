use Rattle.std.proofs.Common.{◌≡◌, ◌+◌, ◌-◌, ◌*◌, ◌∙◌, ℕ, List, take, drop, sym, ap, subst, arith}
use Rattle.sloth_base.specs.declared.image.Mark.{Mark}
use Rattle.image_file.specs.ImageText.{ImageText}
use Rattle.image_file.specs.Reading.{parts_at}
use Rattle.image_file.proofs.RightParts.{image_of, is_image}
use Rattle.image_file.proofs.read.read_contents.Goals as goal

pub returns-clause-read : goal.returns-clause-read
returns-clause-read c =
    let file = c.args.bytes.now in
    let p = c.args.outline in
    let last = c.in_ok-marks.ensures.read in
    let parts = parts_at file p.tasks.items p.funcs.items p.counters.items p.memory p.size p.count in
    let rest = drop (p.memory + p.size + p.count * 12) file in
    let image = is_image file parts rest c.in_ok-marks.marks.items c.requires.parts last.right last.ascending last.ends in
    let Q : List (List ℕ) → List (List ℕ) → List (List ℕ) → List ℕ → List Mark → Type 0 = λ t f v m k. ImageText file (image_of t f v m k) in
    let size : p.memory + p.size - p.memory ≡ p.size = omega arith in
    let m : c.from_vec-4.result ≡ take p.size (drop p.memory file) = c.from_vec-4.ensures ∙ c.in_ok-memory.ensures.items ∙ ap (λ n. take n (drop p.memory file)) size in
    subst (λ x. Q x c.from_vec-2.result c.from_vec-3.result c.from_vec-4.result c.from_vec-5.result) (sym c.from_vec.ensures)
    (subst (λ x. Q p.tasks.items x c.from_vec-3.result c.from_vec-4.result c.from_vec-5.result) (sym c.from_vec-2.ensures)
    (subst (λ x. Q p.tasks.items p.funcs.items x c.from_vec-4.result c.from_vec-5.result) (sym c.from_vec-3.ensures)
    (subst (λ x. Q p.tasks.items p.funcs.items p.counters.items x c.from_vec-5.result) (sym m)
    (subst (λ x. Q p.tasks.items p.funcs.items p.counters.items (take p.size (drop p.memory file)) x) (sym c.from_vec-5.ensures) image))))
