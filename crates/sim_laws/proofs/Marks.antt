-- No mark stands inside a block but those of the block.
use Rattle.std.proofs.Common.{◌≡◌, ◌≢◌, ◌≤◌, ◌<◌, ◌+◌, ◌-◌, ◌*◌, ◌⊎◌, ℕ, List, [], ◌∷◌, ◌++◌, length, get_or, sym, subst, ◌∙◌, inl, inr, ⊎_elim, arith}
use Rattle.std.specs.Prelude.{All, AllPairs, Contains}
use Rattle.std.specs.Prelude as prelude
use Rattle.std.proofs.lemmas.Bool.{cases_lt}
use Rattle.std.proofs.lemmas.List.{get_or_default}
use Rattle.std.proofs.lemmas.List.Elements.{All-nil, All-cons}
use Rattle.sloth_base.specs.declared.image.Mark.{Mark}
use Rattle.sloth_base.specs.MemoryMap.{memory_base}
use Rattle.rv32_instr.specs.declared.block.Block.{Block}
use Rattle.sloth_link.specs.Linked.{AreSectionsApart}
use Rattle.mem_map.specs.Sections.{Section, block_section, code_bytes}
use Rattle.sloth_link.proofs.Written.{code_bytes_length}
use Rattle.sim_laws.specs.Rooms.{HasOwnMarks}
use Rattle.sim_laws.proofs.Apart.{apart_at}

module _ (blocks : List Block) (rest : List Section) (own : Block) (mark : Mark) (i : ℕ) (apart : AllPairs AreSectionsApart (prelude.map block_section blocks ++ rest))
    (above : All (λ (b : Block). memory_base ≤ b.at) blocks) (marks : All HasOwnMarks blocks) (among : Contains blocks own) (only : own.marks ≡ mark ∷ [])
    (last : mark.address ≡ own.at + 4 * (length own.code - 1)) (inner : i + 1 < length own.code) where
  abbrev Elsewhere : Mark → Type 0
  Elsewhere m = m.address ≢ own.at + 4 * i

  own_elsewhere : All Elsewhere own.marks
  own_elsewhere =
      let P : List Mark → Type 0 = λ ms. All Elsewhere ms in
      subst P (sym only) (All-cons Elsewhere mark [] (omega (arith, last, inner)) (All-nil Elsewhere))

  other : (k : ℕ) (x : Block) → k ≢ among.0 → k < length blocks → get_or blocks k x ≡ x → memory_base ≤ x.at → memory_base ≤ own.at → HasOwnMarks x → All Elsewhere x.marks
  other k x differ l e up own_up h = λ n d ln.
      let m = h n d ln in
      let a = apart_at blocks rest x own k among.0 apart differ l among.1 e among.2 in
      let nx = code_bytes_length x.code in
      let no = code_bytes_length own.code in
      ⊎_elim
      (λ (before : (x.at - memory_base) + length (code_bytes x.code) ≤ own.at - memory_base). omega (arith, before, nx, m.1, up, own_up))
      (λ (behind : (own.at - memory_base) + length (code_bytes own.code) ≤ x.at - memory_base). omega (arith, behind, no, m.0, up, own_up, inner))
      a

  pub not_inside : All (λ (b : Block). All Elsewhere b.marks) blocks
  not_inside = λ k d l.
      let own_up : memory_base ≤ own.at = subst (λ (b : Block). memory_base ≤ b.at) among.2 (above among.0 own among.1) in
      by k d l own_up (cases_lt k among.0) (cases_lt among.0 k)
    where
      by : (k : ℕ) (d : Block) → k < length blocks → memory_base ≤ own.at → (k < among.0) ⊎ (among.0 ≤ k) → (among.0 < k) ⊎ (k ≤ among.0) → All Elsewhere (get_or blocks k d).marks
      by k d l own_up (inl lt) h = other k (get_or blocks k d) (omega (arith, lt)) l (get_or_default blocks k (get_or blocks k d) d l) (above k d l) own_up (marks k d l)
      by k d l own_up (inr le) (inl lt) = other k (get_or blocks k d) (omega (arith, lt)) l (get_or_default blocks k (get_or blocks k d) d l) (above k d l) own_up (marks k d l)
      by k d l own_up (inr le) (inr ge) =
          let same : among.0 ≡ k = omega (arith, le, ge) in
          let P : ℕ → Type 0 = λ j. All Elsewhere (get_or blocks j d).marks in
          let Q : Block → Type 0 = λ b. All Elsewhere b.marks in
          subst P same (subst Q (sym (get_or_default blocks among.0 d own among.1 ∙ among.2)) own_elsewhere)
