-- What is linked is an image of what is built.
use Rattle.std.proofs.Common.{◌≡◌, ◌≤◌, ◌<◌, ◌+◌, ◌-◌, ℕ, zero, suc, ◌^◌, ◌⊎◌, List, [], ◌∷◌, ◌++◌, length, get_or, refl, sym, ap, subst, ◌∙◌, inl, inr, ⊎_elim, arith}
use Rattle.std.specs.Prelude.{All, slice_index}
use Rattle.std.specs.Prelude as prelude
use Rattle.std.proofs.lemmas.List.Elements.{All-append, All-map, All-nil, All-cons, All-head, All-tail}
use Rattle.std.proofs.Math.ListN.{get_or-map, length-map}
use Rattle.sloth_base.specs.ConfigRange.{InRange}
use Rattle.sloth_base.specs.Named.{undeclared_alarm, undeclared_counter}
use Rattle.sloth_base.specs.declared.config.AlarmDecl.{AlarmDecl}
use Rattle.sloth_base.specs.declared.config.CounterDecl.{CounterDecl}
use Rattle.sloth_base.specs.declared.app.App.{App}
use Rattle.sloth_base.specs.declared.app.Symbol.{Symbol}
use Rattle.sloth_base.specs.declared.config.Config.{Config}
use Rattle.sloth_region.specs.declared.region.Map.{Map}
use Rattle.sloth_region.specs.Layout.{counter_value, alarm_left, alarm_cycle, below_word}
use Rattle.rv32_instr.specs.Ram.{word_at}
use Rattle.rv32_instr.specs.declared.block.Block.{Block}
use Rattle.osek_scheduler.specs.State.{no_counter}
use Rattle.osek_scheduler.specs.declared.state.Alarm.{Alarm}
use Rattle.osek_scheduler.specs.declared.state.Counter.{Counter}
use Rattle.sim_relation.specs.Build.{Build}
use Rattle.sim_relation.specs.DataStands.{ByteStands}
use Rattle.sim_relation.proofs.Starting.{zero_word}
use Rattle.sloth_link.specs.declared.linking.Datum.{Datum}
use Rattle.mem_map.specs.Sections.{block_section}
use Rattle.sloth_link.specs.Linked.{datum_section, sections_of, HasSectionBytes, IsOutsideSection}
use Rattle.sloth_link.specs.Image.{all_data}
use Rattle.sloth_link.proofs.Joined.{front}
use Rattle.sloth_link.proofs.Stand.{symbols_stand, word_of}
use Rattle.mem_map.specs.Zones.{HasZones, data_zone}
use Rattle.sloth_base.specs.declared.limits.Bounds.{Bounds}
use Rattle.sloth_base.specs.Limits.{alarm_limit}
use Rattle.sloth_base.specs.MemoryMap.{vectors_base, memory_base}
use Rattle.sim_laws.specs.Zones.{IsInCode, build_of}
use Rattle.sloth_link.specs.Symbols.{alarm_bytes, alarm_data, data_of}
use Rattle.sim_laws.specs.Symbols.{IsInData}
use Rattle.sim_laws.specs.LinkedImages.{LinkedIsImage}
use Rattle.sim_laws.proofs.Data.{symbols_are_in_data}
use Rattle.sim_laws.proofs.Fitting.{here, code_from, code_to}

abbrev bytes_of : Symbol → List ℕ
bytes_of s = s.bytes

nothing_at : (y k : ℕ) (P : Type 0) → k < length (get_or {A = List ℕ} [] y []) → P
nothing_at zero k P l = absurd (omega arith)
nothing_at (suc y) k P l = absurd (omega arith)

-- an alarm as the system starts
abbrev opening_alarm : AlarmDecl → Alarm
opening_alarm d = record { left = d.time; cycle = d.cycle }

-- an offset before the words of alarms, or behind them
abbrev IsOther : ℕ → Type 0
IsOther i = (i < alarm_left 0) ⊎ (below_word ≤ i)

-- what holds of all elements holds of the last ones
behind : {X : Type 0} (P : X → Type 0) (xs ys : List X) → All P (xs ++ ys) → All P ys
behind P [] ys h = h
behind P (x ∷ xs) ys h = behind P xs ys (All-tail P x (xs ++ ys) h)

module _ (map : Map) (config : Config) (app : App) (bounds : Bounds) (back : ℕ) (memory : List ℕ) (z : HasZones map config) where
  abbrev b : Build
  b = build_of config app map bounds back memory

  data_from : vectors_base ≤ (data_zone map).base
  data_from = let f = code_from config app map bounds back memory z in let t = code_to config app map bounds back memory z in omega (arith, f, t)

  byte : (d : Datum) (k : ℕ) → IsInData map d → HasSectionBytes memory (datum_section d) → k < length d.bytes → ByteStands b memory (d.at + k) (slice_index d.bytes k)
  byte d k i h l =
      let f = data_from in
      let from = i.from in
      let to = i.to in
      let e : d.at + k - memory_base ≡ d.at - memory_base + k = omega (arith, f, from) in
      record {
        from = omega (arith, f, from);
        is_data = here (data_zone map) (d.at + k - memory_base) (omega (arith, f, from)) (omega (arith, f, from, to, l));
        holds = ap (slice_index memory) e ∙ h k l;
      }

  bytes_stand : (addresses : List ℕ) (symbols : List Symbol) → length addresses ≡ length symbols → All (IsInData map) (data_of addresses symbols) → All (λ d. HasSectionBytes memory (datum_section d)) (data_of addresses symbols)
      → (y k : ℕ) → k < length (get_or (prelude.map bytes_of symbols) y []) → ByteStands b memory (get_or addresses y 0 + k) (slice_index (get_or (prelude.map bytes_of symbols) y []) k)
  bytes_stand [] [] n i h y k l = nothing_at y k _ l
  bytes_stand [] (s ∷ symbols) n i h y k l = absurd (omega (arith, n))
  bytes_stand (a ∷ addresses) [] n i h y k l = absurd (omega (arith, n))
  bytes_stand (a ∷ addresses) (s ∷ symbols) n i h zero k l =
      byte (record { at = a; bytes = s.bytes }) k (i 0 (record { at = 0; bytes = [] }) (omega arith)) (h 0 (record { at = 0; bytes = [] }) (omega arith)) l
  bytes_stand (a ∷ addresses) (s ∷ symbols) n i h (suc y) k l =
      bytes_stand addresses symbols (omega (arith, n)) (λ j d m. i (suc j) d (omega arith)) (λ j d m. h (suc j) d (omega arith)) y k l

  miss_blocks : (blocks : List Block) (i : ℕ) → i < 1024 → All (IsInCode map) blocks → All (λ p. IsOutsideSection i p) (prelude.map block_section blocks)
  miss_blocks blocks i l c = All-map (IsOutsideSection i) block_section blocks (λ k d m. let from = (c k d m).from in let f = code_from config app map bounds back memory z in inl (omega (arith, l, from, f)))

  miss_symbols : (symbols : List Datum) (i : ℕ) → i < 1024 → All (IsInData map) symbols → All (λ d. IsOutsideSection i (datum_section d)) symbols
  miss_symbols symbols i l c = λ k d m. let from = (c k d m).from in let f = data_from in inl (omega (arith, l, from, f))

  miss_alarms : (first : ℕ) (alarms : List AlarmDecl) (i : ℕ) → first + length alarms ≤ alarm_limit → IsOther i → All (λ d. IsOutsideSection i (datum_section d)) (alarm_data first alarms)
  miss_alarms first [] i few o = All-nil (λ (d : Datum). IsOutsideSection i (datum_section d))
  miss_alarms first (alarm ∷ later) i few o =
      let size : length (alarm_bytes alarm) ≡ 8 = refl in
      All-cons (λ (d : Datum). IsOutsideSection i (datum_section d)) _ (alarm_data (first + 1) later)
      (⊎_elim (λ (x : i < alarm_left 0). inl (omega (arith, x))) (λ (x : below_word ≤ i). inr (omega (arith, x, few, size))) o)
      (miss_alarms (first + 1) later i (omega (arith, few)) o)

  -- no section has such a byte
  missed : (blocks : List Block) (i : ℕ) → i < 1024 → IsOther i → length config.alarms ≤ alarm_limit → All (IsInCode map) blocks
      → All (IsInData map) (data_of map.places.symbols app.symbols) → All (IsOutsideSection i) (sections_of blocks (all_data config app map))
  missed blocks i l o few code in_data =
      All-append (IsOutsideSection i) (prelude.map block_section blocks) (prelude.map datum_section (all_data config app map)) (miss_blocks blocks i l code)
      (All-map (IsOutsideSection i) datum_section (all_data config app map)
      (All-append (λ (d : Datum). IsOutsideSection i (datum_section d)) (alarm_data 0 config.alarms) (data_of map.places.symbols app.symbols)
      (miss_alarms 0 config.alarms i (omega (arith, few)) o) (miss_symbols (data_of map.places.symbols app.symbols) i l in_data)))

-- ---- the words of alarms

-- the declared numbers of an alarm are words
abbrev AreWords : AlarmDecl → Type 0
AreWords alarm = (alarm.time < 2 ^ 32) × (alarm.cycle < 2 ^ 32)

-- the words of an alarm are the declared numbers
abbrev HasWords : List ℕ → ℕ → AlarmDecl → Type 0
HasWords memory a alarm = (word_at memory (alarm_left a) ≡ alarm.time) × (word_at memory (alarm_cycle a) ≡ alarm.cycle)

alarm_words : (memory : List ℕ) (a : ℕ) (alarm : AlarmDecl) → AreWords alarm
    → HasSectionBytes memory (datum_section (record { at = memory_base + alarm_left a; bytes = alarm_bytes alarm })) → HasWords memory a alarm
alarm_words memory a alarm small h =
    let size : length (alarm_bytes alarm) ≡ 8 = refl in
    let at : (k : ℕ) → slice_index memory (alarm_left a + k) ≡ slice_index memory (memory_base + alarm_left a - memory_base + k) =
    λ k. let e : alarm_left a + k ≡ memory_base + alarm_left a - memory_base + k = omega arith in ap (slice_index memory) e
    in
    let later : (k : ℕ) → slice_index memory (alarm_cycle a + k) ≡ slice_index memory (alarm_left a + (4 + k)) =
    λ k. let e : alarm_cycle a + k ≡ alarm_left a + (4 + k) = omega arith in ap (slice_index memory) e
    in (
      word_of memory (alarm_left a) alarm.time small.0 (at 0 ∙ h 0 (omega (arith, size))) (at 1 ∙ h 1 (omega (arith, size))) (at 2 ∙ h 2 (omega (arith, size))) (at 3 ∙ h 3 (omega (arith, size))),
      word_of memory (alarm_cycle a) alarm.cycle small.1 (later 0 ∙ at 4 ∙ h 4 (omega (arith, size))) (later 1 ∙ at 5 ∙ h 5 (omega (arith, size)))
          (later 2 ∙ at 6 ∙ h 6 (omega (arith, size))) (later 3 ∙ at 7 ∙ h 7 (omega (arith, size))),
    )

each_alarm : (memory : List ℕ) (first : ℕ) (alarms : List AlarmDecl) → ((a : ℕ) → a < length alarms → AreWords (get_or alarms a undeclared_alarm))
    → All (λ d. HasSectionBytes memory (datum_section d)) (alarm_data first alarms) → (a : ℕ) → a < length alarms → HasWords memory (first + a) (get_or alarms a undeclared_alarm)
each_alarm memory first [] small h a l = absurd (omega (arith, l))
each_alarm memory first (alarm ∷ later) small h zero l =
    let e : first ≡ first + 0 = omega arith in
    subst (λ n. HasWords memory n alarm) e
    (alarm_words memory first alarm (small zero (omega arith)) (All-head (λ (d : Datum). HasSectionBytes memory (datum_section d)) _ (alarm_data (first + 1) later) h))
each_alarm memory first (alarm ∷ later) small h (suc a) l =
    let e : first + 1 + a ≡ first + suc a = omega arith in
    subst (λ n. HasWords memory n (get_or later a undeclared_alarm)) e
    (each_alarm memory (first + 1) later (λ b m. small (suc b) (omega (arith, m))) (All-tail (λ (d : Datum). HasSectionBytes memory (datum_section d)) _ (alarm_data (first + 1) later) h) a (omega (arith, l)))

-- each alarm's numbers are words
words_in_range : (config : Config) → InRange config → (a : ℕ) → a < length config.alarms → AreWords (get_or config.alarms a undeclared_alarm)
words_in_range config range a l =
    let own = range.alarms a undeclared_alarm l in
    let max = (range.counters _ undeclared_counter own.counter).max.1 in
    let time = own.time in (
      omega (arith, time, max),
      ⊎_elim (λ (z : (get_or config.alarms a undeclared_alarm).cycle ≡ 0). omega (arith, z)) (λ h. let m = h.1 in omega (arith, m, max)) own.cycle,
    )

pub linked_is_image : LinkedIsImage
linked_is_image map config app bounds size blocks symbols image back range h =
    let memory : List ℕ = image.memory in
    let z = h.zones in
    let in_data = symbols_are_in_data map app h.has_symbols in
    let few = range.few_alarms in
    let counters = range.few_counters in
    let long = h.linked.size_is in
    let most = h.small in
    let stand : All (λ (d : Datum). HasSectionBytes memory (datum_section d)) (all_data config app map) =
    subst (All (λ (d : Datum). HasSectionBytes memory (datum_section d))) h.data_are (symbols_stand size blocks symbols memory h.linked)
    in
    let zero : (i : ℕ) → i < 1024 → IsOther i → slice_index memory i ≡ 0 = λ i l o.
    h.linked.zeros i (subst (λ ds. All (IsOutsideSection i) (sections_of blocks ds)) (sym h.data_are) (missed map config app bounds back memory z blocks i l o few h.in_code in_data))
    in
    let words : (a : ℕ) → a < length config.alarms → HasWords memory a (get_or config.alarms a undeclared_alarm) = λ a l.
    let none : 0 + a ≡ a = omega arith in
    subst (λ n. HasWords memory n (get_or config.alarms a undeclared_alarm)) none
    (each_alarm memory 0 config.alarms (words_in_range config range) (front (λ (d : Datum). HasSectionBytes memory (datum_section d)) (alarm_data 0 config.alarms) _ stand) a l)
    in
    record {
      memory = refl;
      size = omega (arith, long, most);
      service_words = λ i l o. zero i (omega (arith, l)) (⊎_elim (λ (x : i < counter_value 0). inl (omega (arith, x))) (λ (x : below_word ≤ i). inr x) o);
      clock = record {
        counters = length-map config.counters (λ (_ : CounterDecl). no_counter);
        alarms = length-map config.alarms opening_alarm;
        values = λ c l.
            zero_word memory (counter_value c) (λ i from to. zero i (omega (arith, to, counters, l)) (inl (omega (arith, to, counters, l))))
            ∙ ap (λ (x : Counter). x.value) (sym (get_or-map (λ (_ : CounterDecl). no_counter) config.counters c undeclared_counter));
        left = λ a l. (words a l).0 ∙ ap (λ (x : Alarm). x.left) (sym (get_or-map opening_alarm config.alarms a undeclared_alarm));
        cycles = λ a l. (words a l).1 ∙ ap (λ (x : Alarm). x.cycle) (sym (get_or-map opening_alarm config.alarms a undeclared_alarm));
      };
      data_stands = bytes_stand map config app bounds back memory z map.places.symbols app.symbols h.has_symbols.count in_data
          (behind (λ (d : Datum). HasSectionBytes memory (datum_section d)) (alarm_data 0 config.alarms) (data_of map.places.symbols app.symbols) stand);
    }
