-- The words of alarms have room among the service words, where all else that is linked stands behind these.
use Rattle.std.proofs.Common.{◌≡◌, ◌≤◌, ◌+◌, ◌-◌, ◌*◌, ℕ, suc, List, [], ◌∷◌, ◌++◌, length, refl, sym, ap, subst, inl, inr, arith}
use Rattle.std.specs.Prelude.{All, AllPairs, map}
use Rattle.std.proofs.lemmas.List.Elements.{All-cons, All-append}
use Rattle.std.proofs.lemmas.List.Kept.{AllPairs-cons}
use Rattle.sloth_base.specs.declared.config.AlarmDecl.{AlarmDecl}
use Rattle.sloth_base.specs.Limits.{alarm_limit}
use Rattle.sloth_base.specs.MemoryMap.{memory_base, vectors_base}
use Rattle.rv32_instr.specs.declared.block.Block.{Block}
use Rattle.sloth_link.specs.declared.linking.Datum.{Datum}
use Rattle.sloth_link.specs.Symbols.{alarm_bytes, alarm_data}
use Rattle.mem_map.specs.Sections.{Section, IsSectionInside, block_section}
use Rattle.sloth_link.specs.Linked.{AreSectionsApart, HaveRoom, sections_of, datum_section}
use Rattle.sloth_link.proofs.Joined.{front, back}

-- the sections of alarms
abbrev alarm_sections : ℕ → List AlarmDecl → List Section
alarm_sections first alarms = map datum_section (alarm_data first alarms)

-- a section between two offsets
abbrev IsBetween : ℕ → ℕ → Section → Type 0
IsBetween from to section = (from ≤ section.offset) × (section.offset + length section.bytes ≤ to)

-- the words of alarms stand one behind the other
between : (first : ℕ) (alarms : List AlarmDecl) → All (IsBetween (372 + 8 * first) (372 + 8 * (first + length alarms))) (alarm_sections first alarms)
between first [] = λ k d l. absurd (omega (arith, l))
between first (alarm ∷ later) =
    let eight : length (alarm_bytes alarm) ≡ 8 = refl in
    let rest = between (first + 1) later in
    All-cons (IsBetween (372 + 8 * first) (372 + 8 * (first + length (alarm ∷ later)))) (datum_section _) (alarm_sections (first + 1) later)
    (omega arith, omega (arith, eight))
    (λ k d l. let r = rest k d l in (omega (arith, r.0), omega (arith, r.1)))

-- and apart from one another, and from sections behind the service words
alarms_apart : (first : ℕ) (alarms : List AlarmDecl) (others : List Section) → first + length alarms ≤ alarm_limit → All (λ s. 1024 ≤ s.offset) others
    → AllPairs AreSectionsApart others → AllPairs AreSectionsApart (alarm_sections first alarms ++ others)
alarms_apart first [] others few behind apart = apart
alarms_apart first (alarm ∷ later) others few behind apart =
    let eight : length (alarm_bytes alarm) ≡ 8 = refl in
    let rest = between (first + 1) later in
    let own : Section = datum_section (record { at = memory_base + (372 + 8 * first); bytes = alarm_bytes alarm }) in
    AllPairs-cons AreSectionsApart own (alarm_sections (first + 1) later ++ others)
    (All-append (AreSectionsApart own) (alarm_sections (first + 1) later) others
    (λ k d l. let r = (rest k d l).0 in inl (omega (arith, r, eight)))
    (λ k d l. let b = behind k d l in inl (omega (arith, b, eight, few))))
    (alarms_apart (first + 1) later others (omega (arith, few)) behind apart)

-- sections put in between
put_between : (xs ys zs : List Section) → AllPairs AreSectionsApart (xs ++ zs) → AllPairs AreSectionsApart (ys ++ zs) → All (λ x. All (AreSectionsApart x) ys) xs
    → AllPairs AreSectionsApart (xs ++ (ys ++ zs))
put_between [] ys zs p q h = q
put_between (x ∷ xs) ys zs p q h =
    let later : All (AreSectionsApart x) (xs ++ zs) = λ k d l. p 0 (suc k) d (omega arith) (omega (arith, l)) in
    AllPairs-cons AreSectionsApart x (xs ++ (ys ++ zs))
    (All-append (AreSectionsApart x) xs (ys ++ zs) (front (AreSectionsApart x) xs zs later)
    (All-append (AreSectionsApart x) ys zs (h 0 x (omega arith)) (back (AreSectionsApart x) xs zs later)))
    (put_between xs ys zs (λ i j d l m. p (suc i) (suc j) d (omega (arith, l)) (omega (arith, m))) q (λ k d l. h (suc k) d (omega (arith, l))))

sections_behind : {X : Type 0} (f : X → Section) (address : X → ℕ) → ((x : X) → (f x).offset ≡ address x - memory_base) → (xs : List X)
    → All (λ x. vectors_base ≤ address x) xs → All (λ s. 1024 ≤ s.offset) (map f xs)
sections_behind f address is [] h = λ k d l. absurd (omega (arith, l))
sections_behind f address is (x ∷ xs) h =
    All-cons (λ s. 1024 ≤ s.offset) (f x) (map f xs) (let e = is x in let a = h 0 x (omega arith) in omega (arith, e, a))
    (sections_behind f address is xs (λ k d l. h (suc k) d (omega (arith, l))))

data_join : (xs ys : List Datum) → map datum_section (xs ++ ys) ≡ map datum_section xs ++ map datum_section ys
data_join [] ys = refl
data_join (x ∷ xs) ys = ap (λ l. datum_section x ∷ l) (data_join xs ys)

alarms_above : (first : ℕ) (alarms : List AlarmDecl) → All (λ d. memory_base ≤ d.at) (alarm_data first alarms)
alarms_above first [] = λ k d l. absurd (omega (arith, l))
alarms_above first (alarm ∷ later) =
    All-cons (λ (d : Datum). memory_base ≤ d.at) _ (alarm_data (first + 1) later) (omega arith) (alarms_above (first + 1) later)

-- so the alarms' words may be linked with all else
pub alarms_have_room : (size : ℕ) (blocks : List Block) (symbols : List Datum) (alarms : List AlarmDecl) → length alarms ≤ alarm_limit → 1024 ≤ size
    → All (λ b. vectors_base ≤ b.at) blocks → All (λ d. vectors_base ≤ d.at) symbols → HaveRoom size blocks symbols
    → HaveRoom size blocks (alarm_data 0 alarms ++ symbols)
alarms_have_room size blocks symbols alarms few large blocks_behind symbols_behind room =
    let xs : List Section = map block_section blocks in
    let ys : List Section = alarm_sections 0 alarms in
    let zs : List Section = map datum_section symbols in
    let all : xs ++ (ys ++ zs) ≡ sections_of blocks (alarm_data 0 alarms ++ symbols) = ap (λ l. xs ++ l) (sym (data_join (alarm_data 0 alarms) symbols)) in
    let low = between 0 alarms in
    let first_behind = sections_behind block_section (λ (b : Block). b.at) (λ b. refl) blocks blocks_behind in
    let last_behind = sections_behind datum_section (λ (d : Datum). d.at) (λ d. refl) symbols symbols_behind in
    let last_apart : AllPairs AreSectionsApart zs = back_pairs xs zs room.apart in
    record {
      blocks_above = room.blocks_above;
      symbols_above = All-append (λ (d : Datum). memory_base ≤ d.at) (alarm_data 0 alarms) symbols (alarms_above 0 alarms) room.symbols_above;
      inside = subst (All (IsSectionInside size)) all
          (All-append (IsSectionInside size) xs (ys ++ zs) (front (IsSectionInside size) xs zs room.inside)
          (All-append (IsSectionInside size) ys zs (λ k d l. let r = (low k d l).1 in omega (arith, r, few, large)) (back (IsSectionInside size) xs zs room.inside)));
      apart = subst (AllPairs AreSectionsApart) all
          (put_between xs ys zs room.apart (alarms_apart 0 alarms zs (omega (arith, few)) last_behind last_apart)
          (λ k d l. λ i e m. let f = first_behind k d l in let r = (low i e m).1 in inr (omega (arith, f, r, few))));
    }
  where
    back_pairs : (xs zs : List Section) → AllPairs AreSectionsApart (xs ++ zs) → AllPairs AreSectionsApart zs
    back_pairs [] zs p = p
    back_pairs (x ∷ xs) zs p = back_pairs xs zs (λ i j d l m. p (suc i) (suc j) d (omega (arith, l)) (omega (arith, m)))
