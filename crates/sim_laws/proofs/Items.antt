-- Items of task code in an image are those of a kernel in place.
use Rattle.std.proofs.Common.{◌≡◌, ℕ, zero, suc, ◌+◌, ◌-◌, ◌*◌, ◌<◌, ◌≤◌, List, [], ◌∷◌, length, refl, sym, ap, ◌∙◌, subst, arith, true, Some, None}
use Rattle.std.specs.Prelude.{◌≢◌, cond, map, All, find, eqb, slice_index_or, Contains}
use Rattle.std.proofs.lemmas.Bool.{ne_eqb}
use Rattle.std.proofs.lemmas.Bool.Decides.{nat_tests}
use Rattle.std.proofs.lemmas.List.Kept.{AllPairs-from_increasing}
use Rattle.std.proofs.Math.ListN.{get_or-map, length-map}
use Rattle.sloth_base.specs.declared.image.Image.{Image}
use Rattle.sloth_base.specs.declared.image.Mark.{Mark}
use Rattle.sloth_base.specs.declared.limits.Places.{Places}
use Rattle.rv32_instr.specs.declared.InstrKind.{InstrKind}
use Rattle.rv32_instr.specs.Ram.{word_at}
use Rattle.rv32_instr.specs.Range.{InRange}
use Rattle.rv32_expand.specs.Expansion.{item_address, expansion}
use Rattle.rv32_expand.specs.InPlace.{IsAppItem, CodeAt, item_mark, last_address}
use Rattle.observe.specs.Observe.{mark_at, view_of_image}
use Rattle.sloth_base.specs.ImageRange.{AreAscending}
use Rattle.sloth_base.specs.MemoryMap.{memory_bytes, memory_base}
use Rattle.sim_relation.specs.Build.{Build}
use Rattle.sim_items.specs.Place.{HasInstructions, ItemStands}
use Rattle.sim_laws.specs.Items.{HasItems}

-- ---- marks

find_first : (marks : List Mark) (mark : Mark) (k : ℕ) → k < length marks → slice_index_or marks k mark ≡ mark
    → ((j : ℕ) (d : Mark) → j < k → (slice_index_or marks j d).address < mark.address) → find (λ (m : Mark). eqb m.address mark.address) marks ≡ Some mark
find_first [] mark k l e h = absurd (omega arith)
find_first (m ∷ marks) mark zero l e h = let a : m.address ≡ mark.address = ap (λ (x : Mark). x.address) e in grind (arith, nat_tests, a, e)
find_first (m ∷ marks) mark (suc k) l e h =
    let a : m.address < mark.address = h 0 mark (omega arith) in
    grind (arith, nat_tests, a, find_first marks mark k (omega arith) e (λ j d i. h (suc j) d (omega arith)))

rises : (marks : List Mark) → AreAscending marks → (i j : ℕ) (d : Mark) → i < j → j < length marks → (slice_index_or marks i d).address < (slice_index_or marks j d).address
rises marks up i j d lt in_range =
    let addresses : List ℕ = map (λ (mark : Mark). mark.address) marks in
    let long : length addresses ≡ length marks = length-map marks (λ (mark : Mark). mark.address) in
    let apart : slice_index_or addresses i d.address < slice_index_or addresses j d.address = AllPairs-from_increasing addresses up i j d.address lt (omega arith) in
    let one : slice_index_or addresses i d.address ≡ (slice_index_or marks i d).address = get_or-map (λ (mark : Mark). mark.address) marks i d in
    let other : slice_index_or addresses j d.address ≡ (slice_index_or marks j d).address = get_or-map (λ (mark : Mark). mark.address) marks j d in
    omega arith

same_default : (marks : List Mark) (j : ℕ) (d e : Mark) → j < length marks → slice_index_or marks j d ≡ slice_index_or marks j e
same_default [] j d e l = absurd (omega arith)
same_default (m ∷ marks) zero d e l = refl
same_default (m ∷ marks) (suc j) d e l = same_default marks j d e (omega arith)

-- in a list in order the mark of an address is found
pub marks_found : (image : Image) (mark : Mark) → AreAscending image.marks → Contains image.marks mark → mark_at (view_of_image image) mark.address ≡ Some mark
marks_found image mark up h =
    find_first image.marks mark h.0 h.1 h.2
    (λ j d l.
    let r = rises image.marks up j h.0 mark l h.1 in
    let s = ap (λ (x : Mark). x.address) (same_default image.marks j d mark (omega arith)) in
    let e = ap (λ (x : Mark). x.address) h.2 in
    omega arith)

none_found : (marks : List Mark) (address : ℕ) → All (λ (m : Mark). m.address ≢ address) marks → find (λ (m : Mark). eqb m.address address) marks ≡ None
none_found [] address h = refl
none_found (m ∷ marks) address h =
    ap (λ b. cond b (Some m) (find (λ (x : Mark). eqb x.address address) marks)) (ne_eqb m.address address (h 0 m (omega arith)))
    ∙ none_found marks address (λ k d l. h (suc k) d (omega arith))

-- ---- an item

-- code at an address in the image
in_image : (b : Build) (image : Image) (address : ℕ) (code : List InstrKind) → image.memory ≡ b.memory → length b.memory ≤ memory_bytes
    → memory_base < address + 1 → address + 4 * length code < memory_base + length image.memory + 1
    → ((i : ℕ) → address ≤ memory_base + i → memory_base + i < address + 4 * length code → b.is_code i ≡ true)
    → All InRange code → CodeAt image.memory address code → HasInstructions b address code
in_image b image address [] same size low high is_code range h = tt
in_image b image address (kind ∷ code) same size low high is_code range h =
    let n = ap (λ (m : List ℕ). length m) same in (
      record {
        offset = address - memory_base;
        is = omega arith;
        to = omega arith;
        is_code = λ i x y. is_code i (omega arith) (omega arith);
        word = ap (λ (m : List ℕ). word_at m (address - memory_base)) (sym same) ∙ h.0;
        in_range = range 0 kind (omega arith);
      },
      in_image b image (address + 4) code same size (omega arith) (omega arith) (λ i x y. is_code i (omega arith) (omega arith)) (λ i d l. range (suc i) d (omega arith)) h.1,
    )

record InImage (b : Build) (image : Image) (places : Places) (func item : ℕ) : Type 0 where
  code : CodeAt image.memory (item_address places func item) (expansion b.app places func item)
  inside : (memory_base < item_address places func item + 1) × (last_address b.app places func item + 4 < memory_base + length image.memory + 1)
  adjacent : IsAppItem b.app func (item + 1) → item_address places func (item + 1) ≡ item_address places func item + 4 * length (expansion b.app places func item)
  marked : Contains image.marks (item_mark b.app places func item)

-- each item stands, with its mark on its last instruction
pub item_stands : (b : Build) (image : Image) (func item : ℕ) → HasItems b image → IsAppItem b.app func item → All InRange (expansion b.app b.places func item)
    → ItemStands b (view_of_image image) func item
item_stands b image func item h is range =
    let g = h.in_place in
    let found : InImage b image b.places func item =
    subst (λ p. InImage b image p func item) h.places
    (record { code = g.code func item is; inside = g.inside func item is; adjacent = λ next. g.adjacent func item is next; marked = g.marked func item is }) in
    let high = found.inside.1 in
    record {
      code = in_image b image (item_address b.places func item) (expansion b.app b.places func item) h.memory h.size found.inside.0 (omega arith) (λ i x y. h.is_code func item i is x y) range found.code;
      marked = marks_found image (item_mark b.app b.places func item) h.rising found.marked;
      unmarked = λ i l. none_found image.marks (item_address b.places func item + 4 * i) (h.unmarked func item i is l);
      adjacent = λ more. found.adjacent (record { declared = is.declared; inside = more });
    }
