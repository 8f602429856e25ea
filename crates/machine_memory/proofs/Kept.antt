-- Kept instructions stay those of their words.
use Rattle.std.proofs.Common.{◌≡◌, ◌∙◌, ◌+◌, ◌*◌, ◌/◌, ◌%◌, ℕ, zero, suc, List, [], ◌∷◌, get_or, set, Option, Some, None, ⊎_elim, refl, sym, ap, arith}
use Rattle.std.specs.Prelude.{◌≢◌, slice_index}
use Rattle.std.proofs.lemmas.Bool.Decides.{eqb_tells}
use Rattle.std.proofs.lemmas.List.{get_or-set_other}
use Rattle.sloth_base.specs.declared.app.Width.{Width}
use Rattle.sloth_base.specs.declared.app.Width.TheVariants as width
use Rattle.sloth_base.specs.Arithmetic.{size_of}
use Rattle.rv32_instr.specs.Ram.{word_at, with_byte, with_half, with_word}
use Rattle.rv32_instr.specs.Table.{Decode}
use Rattle.rv32_instr.specs.declared.InstrKind.{InstrKind}
use Rattle.machine_memory.specs.Place.{with_bytes}
use Rattle.machine_memory.specs.CodeRam.{AreDecoded}

-- ---- an aligned store leaves each word but the one that it meets

-- a byte that is not written
byte_kept : (ram : List ℕ) (o value i : ℕ) → i ≢ o → slice_index (with_byte ram o value) i ≡ slice_index ram i
byte_kept ram o value i apart = get_or-set_other ram o i (value % 256) 0 apart

half_kept : (ram : List ℕ) (o value i : ℕ) → i ≢ o → i ≢ o + 1 → slice_index (with_half ram o value) i ≡ slice_index ram i
unfolding with_half
half_kept ram o value i first second = byte_kept (with_byte ram o value) (o + 1) (value / 256) i second ∙ byte_kept ram o value i first

whole_kept : (ram : List ℕ) (o value i : ℕ) → i ≢ o → i ≢ o + 1 → i ≢ o + 2 → i ≢ o + 3 → slice_index (with_word ram o value) i ≡ slice_index ram i
unfolding with_word
whole_kept ram o value i first second third fourth =
    byte_kept (with_byte (with_byte (with_byte ram o value) (o + 1) (value / 256)) (o + 2) (value / 65536)) (o + 3) (value / 16777216) i fourth
    ∙ byte_kept (with_byte (with_byte ram o value) (o + 1) (value / 256)) (o + 2) (value / 65536) i third
    ∙ byte_kept (with_byte ram o value) (o + 1) (value / 256) i second
    ∙ byte_kept ram o value i first

-- bytes of two words differ
apart_from : (o p i s : ℕ) → p / 4 ≡ o / 4 → i / 4 ≡ s → s ≢ o / 4 → i ≢ p
apart_from o p i s same at apart e = apart (sym at ∙ ap (λ n. n / 4) e ∙ same)

-- a byte of another word than the one that is met
bytes_kept : (ram : List ℕ) (o : ℕ) (w : Width) (value i s : ℕ) → o % size_of w ≡ 0 → i / 4 ≡ s → s ≢ o / 4
    → slice_index (with_bytes ram o w value) i ≡ slice_index ram i
bytes_kept ram o width.Byte value i s aligned at apart = byte_kept ram o value i (apart_from o o i s refl at apart)
bytes_kept ram o width.ByteU value i s aligned at apart = byte_kept ram o value i (apart_from o o i s refl at apart)
bytes_kept ram o width.Half value i s aligned at apart =
    half_kept ram o value i (apart_from o o i s refl at apart) (apart_from o (o + 1) i s (omega (arith, aligned)) at apart)
bytes_kept ram o width.HalfU value i s aligned at apart =
    half_kept ram o value i (apart_from o o i s refl at apart) (apart_from o (o + 1) i s (omega (arith, aligned)) at apart)
bytes_kept ram o width.Word value i s aligned at apart =
    whole_kept ram o value i (apart_from o o i s refl at apart)
    (apart_from o (o + 1) i s (omega (arith, aligned)) at apart)
    (apart_from o (o + 2) i s (omega (arith, aligned)) at apart)
    (apart_from o (o + 3) i s (omega (arith, aligned)) at apart)

-- a word is that of its four bytes
word_kept : (old new : List ℕ) (p : ℕ) → slice_index new p ≡ slice_index old p → slice_index new (p + 1) ≡ slice_index old (p + 1)
    → slice_index new (p + 2) ≡ slice_index old (p + 2) → slice_index new (p + 3) ≡ slice_index old (p + 3) → word_at new p ≡ word_at old p
unfolding word_at
word_kept old new p first second third fourth = rw (first, second, third, fourth) refl

other_word : (ram : List ℕ) (o : ℕ) (w : Width) (value s : ℕ) → o % size_of w ≡ 0 → s ≢ o / 4
    → word_at (with_bytes ram o w value) (s * 4) ≡ word_at ram (s * 4)
other_word ram o w value s aligned apart =
    word_kept ram (with_bytes ram o w value) (s * 4)
    (bytes_kept ram o w value (s * 4) s aligned (omega arith) apart)
    (bytes_kept ram o w value (s * 4 + 1) s aligned (omega arith) apart)
    (bytes_kept ram o w value (s * 4 + 2) s aligned (omega arith) apart)
    (bytes_kept ram o w value (s * 4 + 3) s aligned (omega arith) apart)

-- ---- the list of instructions

-- a place that is dropped
dropped : (kept : List (Option InstrKind)) (word : ℕ) → get_or (set kept word None) word None ≡ None
dropped [] word = refl
dropped (k ∷ kept) zero = refl
dropped (k ∷ kept) (suc word) = dropped kept word

-- a place that is given an instruction, if it is there
placed : (kept : List (Option InstrKind)) (word : ℕ) (given : Option InstrKind) (found : InstrKind) → get_or (set kept word given) word None ≡ Some found → given ≡ Some found
placed [] word given found e = absurd cc
placed (k ∷ kept) zero given found e = e
placed (k ∷ kept) (suc word) given found e = placed kept word given found e

-- behind a store
pub kept_behind : (ram : List ℕ) (kept : List (Option InstrKind)) (o : ℕ) (w : Width) (value : ℕ) → o % size_of w ≡ 0 → AreDecoded ram kept
    → AreDecoded (with_bytes ram o w value) (set kept (o / 4) None)
kept_behind ram kept o w value aligned are = record { each = by }
  where
    by : (word : ℕ) (instr : InstrKind) → get_or (set kept (o / 4) None) word None ≡ Some instr → Decode (word_at (with_bytes ram o w value) (word * 4)) ≡ Some instr
    by word instr e =
        ⊎_elim
        (λ yes. let d = dropped kept (o / 4) in let f : get_or (set kept (o / 4) None) (o / 4) None ≡ Some instr = ap (λ n. get_or (set kept (o / 4) None) n None) (sym yes.1) ∙ e in absurd cc)
        (λ no. ap Decode (other_word ram o w value word aligned no.1) ∙ are.each word instr (sym (get_or-set_other kept (o / 4) word None None no.1) ∙ e))
        (eqb_tells word (o / 4))

-- behind one that is kept anew
pub kept_more : (ram : List ℕ) (kept : List (Option InstrKind)) (o : ℕ) (instr : Option InstrKind) → o % 4 ≡ 0 → Decode (word_at ram o) ≡ instr → AreDecoded ram kept
    → AreDecoded ram (set kept (o / 4) instr)
kept_more ram kept o instr aligned is are = record { each = by }
  where
    by : (word : ℕ) (found : InstrKind) → get_or (set kept (o / 4) instr) word None ≡ Some found → Decode (word_at ram (word * 4)) ≡ Some found
    by word found e =
        ⊎_elim
        (λ yes.
        let f : get_or (set kept (o / 4) instr) (o / 4) None ≡ Some found = ap (λ n. get_or (set kept (o / 4) instr) n None) (sym yes.1) ∙ e in
        let same : word * 4 ≡ o = omega (arith, yes.1, aligned) in
        ap (λ p. Decode (word_at ram p)) same ∙ is ∙ placed kept (o / 4) instr found f)
        (λ no. are.each word found (sym (get_or-set_other kept (o / 4) word instr None no.1) ∙ e))
        (eqb_tells word (o / 4))

-- what is kept of a word
pub kept_is : (ram : List ℕ) (kept : List (Option InstrKind)) (o : ℕ) (instr : InstrKind) → o % 4 ≡ 0 → AreDecoded ram kept → get_or kept (o / 4) None ≡ Some instr
    → Decode (word_at ram o) ≡ Some instr
kept_is ram kept o instr aligned are e =
    let same : o / 4 * 4 ≡ o = omega (arith, aligned) in
    ap (λ p. Decode (word_at ram p)) (sym same) ∙ are.each (o / 4) instr e
