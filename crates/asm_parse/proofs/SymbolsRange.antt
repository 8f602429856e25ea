-- The symbols of lines that were read, where no name and no limit is at fault.
use Rattle.std.proofs.Common.{◌≡◌, ◌∙◌, ap, sym, refl, ⊎_elim, inl, inr, ℕ, ◌+◌, ◌<◌, ◌≤◌, Bool, true, false, cond, List, length, map, take, get_or, true≢false, arith, count_by}
use Rattle.std.specs.Prelude.{◌==◌, ◌||◌, ◌&&◌, nat_lt, if◌then◌else◌, codes, All, filter, sum}
use Rattle.std.specs.List.{list_any, sum_by}
use Rattle.std.specs.Str.{bytes_eq}
use Rattle.std.proofs.lemmas.Bool.{eqb-false, ltb-false, cases_lt, or_parts}
use Rattle.std.proofs.lemmas.List.{get_or_default}
use Rattle.std.proofs.lemmas.List.Sums.{sum-map}
use Rattle.text_pieces.proofs.Tests.{All-kept}
use Rattle.sloth_base.specs.ImageRange.{IsName, AreNames}
use Rattle.sloth_base.specs.declared.app.Symbol.{Symbol}
use Rattle.sloth_base.specs.declared.refusal.Code.TheVariants.{A5, A6}
use Rattle.sloth_base.specs.declared.refusal.Part.TheVariants.{Src}
use Rattle.sloth_base.specs.Limits.{symbol_limit, data_limit}
use Rattle.sloth_base.specs.Order.{NoFault}
use Rattle.sloth_base.specs.Search.{Somewhere}
use Rattle.sloth_base.proofs.Nowhere.{nowhere, case_false}
use Rattle.asm_lines.specs.declared.source_line.SourceLine.{SourceLine}
use Rattle.asm_lines.specs.declared.source_line.SourceLine.TheVariants.{Empty}
use Rattle.asm_scopes.specs.Statements.{is_data, name_of, number_of, symbol_names}
use Rattle.asm_parse.specs.NameFaults.{has_long, bytes_of, is_taken, is_too_much, DataFault}
use Rattle.asm_parse.specs.Apps.{symbol_of}
use Rattle.asm_parse.proofs.Declared.{data_or, data_name, data_size}
use Rattle.asm_parse.proofs.Growth.{within, sum_kept, Apart, kept_apart}
use Rattle.asm_parse.proofs.Read.{IsRead}

-- a symbol is as long as the number behind its name
long_as_said : (l : SourceLine) → IsRead l → (is_data l ≡ true → length (symbol_of l).bytes ≡ bytes_of l) × (is_data l ≡ false → bytes_of l ≡ 0)
long_as_said l h =
    data_or (λ l. IsRead l → (is_data l ≡ true → length (symbol_of l).bytes ≡ bytes_of l) × (is_data l ≡ false → bytes_of l ≡ 0))
    (λ os h. (λ t. (data_size os h).0, λ t. absurd (true≢false t)))
    (λ l e h. (λ t. absurd (true≢false (sym t ∙ e)), λ t. ap (λ b. if b then number_of l else 0) t))
    l h

module _ (ls : List SourceLine) (read : All IsRead ls) (none : NoFault (Somewhere DataFault ls)) where
  abbrev at : ℕ → SourceLine
  at i = get_or ls i Empty

  not_taken : (i : ℕ) → i < length ls → is_taken (symbol_names (take i ls)) (at i) ≡ false
  not_taken i h = case_false Src (is_taken (symbol_names (take i ls)) (at i)) (length (take i ls) + 1) A5 (λ r x. nowhere DataFault ls none i Empty h r (inl x))

  not_much : (i : ℕ) → i < length ls → is_too_much (count_by is_data (take i ls)) (sum_by bytes_of (take i ls)) (at i) ≡ false
  not_much i h =
      case_false Src (is_too_much (count_by is_data (take i ls)) (sum_by bytes_of (take i ls)) (at i)) (length (take i ls) + 1) A6
      (λ r x. nowhere DataFault ls none i Empty h r (inr x))

  -- ---- names

  apart : Apart (symbol_names ls)
  apart = kept_apart is_data name_of ls Empty
      (λ i h t.
      let new = list_any (bytes_eq (name_of (at i))) (symbol_names (take i ls)) in
      (or_parts new (bytes_eq (name_of (at i)) (codes "frame")) (ap (λ b. b && (new || bytes_eq (name_of (at i)) (codes "frame"))) (sym t) ∙ not_taken i h)).0)

  -- the test of a `data` alone
  of_data : (i : ℕ) → i < length ls → is_data (at i) ≡ true
      → ((count_by is_data (take i ls) == symbol_limit) || (nat_lt data_limit (sum_by bytes_of (take i ls) + number_of (at i)) || has_long (at i))) ≡ false
  of_data i h t =
      ap (λ b. b && ((count_by is_data (take i ls) == symbol_limit) || (nat_lt data_limit (sum_by bytes_of (take i ls) + number_of (at i)) || has_long (at i)))) (sym t) ∙ not_much i h

  is_short : (i : ℕ) → i < length ls → is_data (at i) ≡ true → has_long (at i) ≡ false
  is_short i h t =
      (or_parts (nat_lt data_limit (sum_by bytes_of (take i ls) + number_of (at i))) (has_long (at i)) (or_parts (count_by is_data (take i ls) == symbol_limit) _ (of_data i h t)).1).1

  each : All IsName (symbol_names ls)
  each = All-kept is_data name_of IsName ls (λ i d h. by i d h (read i d h))
    where
      by : (i : ℕ) (d : SourceLine) → i < length ls → IsRead (get_or ls i d) → is_data (get_or ls i d) ≡ true → IsName (name_of (get_or ls i d))
      by i d h r t = name (get_or ls i d) r t (short t)
        where
          same : get_or ls i d ≡ at i
          same = get_or_default ls i d Empty h

          short : is_data (get_or ls i d) ≡ true → has_long (get_or ls i d) ≡ false
          short t = ap has_long same ∙ is_short i h (ap is_data (sym same) ∙ t)

          name : (l : SourceLine) → IsRead l → is_data l ≡ true → has_long l ≡ false → IsName (name_of l)
          name l r t s = data_or (λ l. IsRead l → is_data l ≡ true → has_long l ≡ false → IsName (name_of l)) (λ os r t s. data_name os r s) (λ l e r t s. absurd (true≢false (sym t ∙ e))) l r t s

  pub names : AreNames (symbol_names ls)
  names = record { each = each; distinct = apart }

  -- ---- limits

  pub few_symbols : count_by is_data ls ≤ symbol_limit
  few_symbols = let w = within (λ l. cond (is_data l) 1 0) 0 symbol_limit ls Empty (λ i h few. by i h few (is_data (at i)) refl) (omega arith) in omega (arith, w)
    where
      by : (i : ℕ) → i < length ls → 0 + count_by is_data (take i ls) ≤ symbol_limit → (b : Bool) → is_data (at i) ≡ b → 0 + count_by is_data (take i ls) + cond (is_data (at i)) 1 0 ≤ symbol_limit
      by i h few true t =
          let n = eqb-false (count_by is_data (take i ls)) symbol_limit (or_parts (count_by is_data (take i ls) == symbol_limit) _ (of_data i h t)).0 in
          rw t (⊎_elim (λ l. omega (arith, l)) (λ l. absurd (n (omega (arith, l, few)))) (cases_lt (count_by is_data (take i ls)) symbol_limit))
      by i h few false t = rw t (omega (arith, few))

  few_bytes_said : sum_by bytes_of ls ≤ data_limit
  few_bytes_said = let w = within bytes_of 0 data_limit ls Empty (λ i h few. by i h few (is_data (at i)) refl) (omega arith) in omega (arith, w)
    where
      by : (i : ℕ) → i < length ls → 0 + sum_by bytes_of (take i ls) ≤ data_limit → (b : Bool) → is_data (at i) ≡ b → 0 + sum_by bytes_of (take i ls) + bytes_of (at i) ≤ data_limit
      by i h few true t =
          let n = ltb-false data_limit (sum_by bytes_of (take i ls) + number_of (at i))
          (or_parts (nat_lt data_limit (sum_by bytes_of (take i ls) + number_of (at i))) (has_long (at i)) (or_parts (count_by is_data (take i ls) == symbol_limit) _ (of_data i h t)).1).0 in
          rw t (omega (arith, n))
      by i h few false t = rw t (omega (arith, few))

  pub few_bytes : sum (map (λ (y : Symbol). length y.bytes) (map symbol_of (filter is_data ls))) ≤ data_limit
  few_bytes =
      let s = sum-map (λ (y : Symbol). length y.bytes) (map symbol_of (filter is_data ls)) in
      let k = sum_kept symbol_of (λ (y : Symbol). length y.bytes) bytes_of is_data ls (λ i d h. long_as_said (get_or ls i d) (read i d h)) in
      let f = few_bytes_said in
      omega (arith, s, k, f)

  pub some_bytes : All (λ (y : Symbol). 0 < length y.bytes) (map symbol_of (filter is_data ls))
  some_bytes = All-kept is_data symbol_of (λ (y : Symbol). 0 < length y.bytes) ls (λ i d h t. by (get_or ls i d) (read i d h) t)
    where
      by : (l : SourceLine) → IsRead l → is_data l ≡ true → 0 < length (symbol_of l).bytes
      by l r t = data_or (λ l. IsRead l → is_data l ≡ true → 0 < length (symbol_of l).bytes)
          (λ os r t. let s = data_size os r in let e = s.0 in let p = s.1 in omega (arith, e, p)) (λ l e r t. absurd (true≢false (sym t ∙ e))) l r t
