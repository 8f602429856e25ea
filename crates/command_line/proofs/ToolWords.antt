-- The words of a tool are those of one use.
use Rattle.std.proofs.Common.{Global, zero, suc, ◌≡◌, ◌≤◌, ◌+◌, ◌-◌, ◌∙◌, ℕ, List, [], ◌∷◌, ◌++◌, Option, None, Some, refl, sym, ap, subst, get_or, arith, length, take, drop}
use Rattle.std.specs.Prelude.{decimal, Bool, true, false, ◌==◌, IfNone, IfSome, slice_get, string_bytes, String, option_to_list, cond}
use Rattle.std.specs.Str.{bytes_eq}
use Rattle.std.proofs.Math.Dec.{leb}
use Rattle.std.proofs.lemmas.Slice.Eq.{bytes_eq-Decides}
use Rattle.std.proofs.Math.Seq.{take-append_seam, drop-append_seam}
use Rattle.std.proofs.lemmas.Bool.{false≢true, leb-true, and_parts, eqb-true}
use Rattle.std.proofs.lemmas.List.{length-append, length-map, length-take-le, drop-map, take-map}
use Rattle.std.proofs.Math.Numerals.{add-one}
use Rattle.std.proofs.lemmas.Fmt.{decimal_injective}
use Rattle.command_line.specs.declared.counts.Counts.{Counts}
use Rattle.command_line.specs.declared.counts.Counts.TheVariants as counts
use Rattle.command_line.specs.declared.counts.Limit.{Limit}
use Rattle.command_line.specs.declared.counts.Limit.TheVariants as limit
use Rattle.command_line.specs.declared.counts.Window.{Window}
use Rattle.command_line.specs.declared.tool.Tool.{Tool}
use Rattle.command_line.specs.declared.tool.Tool.TheVariants as tool
use Rattle.command_line.specs.Command.{IsCommand, NoTool, Uses, words_of}
use Rattle.command_line.specs.Tools.{ToolUse, asks_second, IsAskedFor, is_meant, is_called, tools, tool_among, tool_called, number_count, tool_word, tool_words, input_count, file_count, file_names, further_word, closing_word, word_count, counts_limit, writes_file, counts_words, output_words, last_words, AreCounts, IsOutput, IsToolUse, IsWindow}

found : (t : Tool) (asks : Bool) → IsAskedFor t asks → tool_called (tool_word t) (word_count t) asks ≡ Some t
unfolding tool_called
found tool.Latency true h = absurd (false≢true h)
found tool.Latency false h = refl
found tool.LowerCounts true h = refl
found tool.LowerCounts false h = absurd (false≢true h)
found tool.TaskBound true h = absurd (false≢true h)
found tool.TaskBound false h = refl
found tool.Labels true h = refl
found tool.Labels false h = absurd (false≢true h)
found t asks h = refl

-- the first of some that is called so is called so
among : (ts : List Tool) (word : List ℕ) (count : ℕ) (asks : Bool) (t : Tool) → tool_among ts word count asks ≡ Some t → is_called t word count asks ≡ true
among [] word count asks t e = absurd cc
among (u ∷ rest) word count asks t e = by (is_called u word count asks) refl e (among rest word count asks t)
  where
    by : (b : Bool) → is_called u word count asks ≡ b → cond b (Some u) (tool_among rest word count asks) ≡ Some t
        → (tool_among rest word count asks ≡ Some t → is_called t word count asks ≡ true) → is_called t word count asks ≡ true
    by true is e further = let same : u ≡ t = cc in subst (λ v. is_called v word count asks ≡ true) same is
    by false is e further = further e

-- a tool that is called so has the word and so many words, and is the one that is asked for
pub called : (o : Option Tool) (word : List ℕ) (count : ℕ) (asks : Bool) → o ≡ tool_called word count asks
    → IfSome o (λ t. (word ≡ tool_word t) × (count ≡ word_count t) × IsAskedFor t asks)
unfolding tool_called
called None word count asks e = tt
called (Some t) word count asks e =
    let parts = and_parts (bytes_eq word (tool_word t)) _ (among tools word count asks t (sym e)) in
    let rest = and_parts (count == word_count t) (is_meant t asks) parts.1 in
    ((bytes_eq-Decides word (tool_word t)).0 parts.0, eqb-true count (word_count t) rest.0, rest.1)

-- some tool is called as each is
abbrev is_some : Option Tool → Bool
is_some None = false
is_some (Some t) = true

some-called : (t : Tool) (asks : Bool) → is_some (tool_called (tool_word t) (word_count t) asks) ≡ true
unfolding tool_called
some-called tool.Elf true = refl
some-called t true = refl
some-called tool.Elf false = refl
some-called t false = refl

pub none-called : (o : Option Tool) (word : List ℕ) (count : ℕ) (asks : Bool) → o ≡ tool_called word count asks
    → IfNone o ((t : Tool) → word ≡ tool_word t → count ≡ word_count t → ⊥)
none-called (Some t) word count asks e = tt
none-called None word count asks e =
    λ t w n.
    let some : is_some (tool_called word count asks) ≡ true =
    ap (λ v. is_some (tool_called v count asks)) w ∙ (ap (λ k. is_some (tool_called (tool_word t) k asks)) n ∙ some-called t asks) in
    false≢true (ap is_some e ∙ some)

pub same-tool : (t u : Tool) (asks : Bool) → IsAskedFor t asks → IsAskedFor u asks → tool_word t ≡ tool_word u → word_count t ≡ word_count u → t ≡ u
same-tool t u asks a b e n =
    let both : Some t ≡ Some u =
    sym (found t asks a)
    ∙ (ap (λ w. tool_called w (word_count t) asks) e ∙ (ap (λ k. tool_called (tool_word u) k asks) n ∙ found u asks b)) in cc

-- the tool of some words is the one that they ask for
pub asked-for : (u : ToolUse) → IsToolUse u → IsAskedFor u.tool (asks_second (tool_words u))
asked-for u is = is.asked

-- the limits of counts are words of 32 bits
abbrev IsWordLimit : Option Limit → Type 0
IsWordLimit None = Unit {0}
IsWordLimit (Some (limit.One most)) = most ≤ 4294967295
IsWordLimit (Some (limit.Window most apart)) = most ≤ 4294967295

abbrev is_word_limit : Option Limit → Bool
is_word_limit None = true
is_word_limit (Some (limit.One most)) = leb most 4294967295
is_word_limit (Some (limit.Window most apart)) = leb most 4294967295

limit-tells : (l : Option Limit) → is_word_limit l ≡ true → IsWordLimit l
limit-tells None h = tt
limit-tells (Some (limit.One most)) h = leb-true most 4294967295 h
limit-tells (Some (limit.Window most apart)) h = leb-true most 4294967295 h

has-word-limit : (t : Tool) → is_word_limit (counts_limit t) ≡ true
has-word-limit tool.Elf = refl
has-word-limit t = refl

word-limit : (t : Tool) → IsWordLimit (counts_limit t)
word-limit t = limit-tells (counts_limit t) (has-word-limit t)

-- two lists of one length in front of others
fronts : (xs ys : List (List ℕ)) (r s : List (List ℕ)) → length xs ≡ length ys → xs ++ r ≡ ys ++ s → (xs ≡ ys) × (r ≡ s)
fronts xs ys r s same e =
    let Q : ℕ → Type 0 = λ n. take n (ys ++ s) ≡ ys in
    let R : ℕ → Type 0 = λ n. drop n (ys ++ s) ≡ s in (
      sym (take-append_seam xs r) ∙ ap (λ l. take (length xs) l) e ∙ subst Q (sym same) (take-append_seam ys s),
      sym (drop-append_seam xs r) ∙ ap (λ l. drop (length xs) l) e ∙ subst R (sym same) (drop-append_seam ys s),
    )

same-output : (writes : Bool) (o p : Option (List ℕ)) → IsOutput writes o → IsOutput writes p → output_words o ≡ output_words p → o ≡ p
same-output false None None h i e = refl
same-output false (Some o) p h i e = absurd h
same-output false None (Some p) h i e = absurd i
same-output true None p h i e = absurd h
same-output true (Some o) None h i e = absurd i
same-output true (Some o) (Some p) h i e = let a : o ∷ [] ≡ p ∷ [] = e in let same : o ≡ p = cc in ap Some same

-- words of numbers that are words of 32 bits
same-number : (n m most : ℕ) → most ≤ 4294967295 → n ≤ most → m ≤ most → decimal n ≡ decimal m → n ≡ m
same-number n m most l h i e = decimal_injective n m (omega (arith, l, h)) (omega (arith, l, i)) e

-- the ends of a window in words
pub same-ends : (from to most apart : ℕ) (w : Window) → most ≤ 4294967295 → from ≤ most → to ≤ most → IsWindow most apart w → decimal from ≡ decimal w.from
    → decimal to ≡ decimal w.to → (from ≡ w.from) × (to ≡ w.to)
same-ends from to most apart w l h i is f t =
    let ordered = is.ordered in
    let within = is.within in
    (same-number from w.from most l h (omega (arith, ordered, within)) f, same-number to w.to most l i within t)

same-window : (v w : Window) → v.from ≡ w.from → v.to ≡ w.to → v ≡ w
same-window v w f t = ap (λ x. record { from = x; to = v.to }) f ∙ ap (λ x. record { from = w.from; to = x }) t

pub same-behind : (limit : Option Limit) (c d : Option Counts) (r s : List (List ℕ)) → IsWordLimit limit → AreCounts limit c → AreCounts limit d
    → counts_words c ++ r ≡ counts_words d ++ s → (c ≡ d) × (r ≡ s)
same-behind None None None r s l h i e = (refl, e)
same-behind None (Some c) d r s l h i e = absurd h
same-behind None None (Some d) r s l h i e = absurd i
same-behind (Some limit) None d r s l h i e = absurd h
same-behind (Some limit) (Some c) None r s l h i e = absurd i
same-behind (Some (limit.One most)) (Some (counts.One n)) (Some (counts.One m)) r s l h i e =
    let words : decimal n ∷ r ≡ decimal m ∷ s = e in
    let digits : decimal n ≡ decimal m = cc in
    let rest : r ≡ s = cc in
    (ap (λ x. Some (counts.One x)) (same-number n m most l h i digits), rest)
same-behind (Some (limit.One most)) (Some (counts.One n)) (Some (counts.Window w)) r s l h i e = absurd i
same-behind (Some (limit.One most)) (Some (counts.Window v)) (Some d) r s l h i e = absurd h
same-behind (Some (limit.Window most apart)) (Some (counts.One n)) (Some d) r s l h i e = absurd h
same-behind (Some (limit.Window most apart)) (Some (counts.Window v)) (Some (counts.One m)) r s l h i e = absurd i
same-behind (Some (limit.Window most apart)) (Some (counts.Window v)) (Some (counts.Window w)) r s l h i e =
    let words : decimal v.from ∷ decimal v.to ∷ r ≡ decimal w.from ∷ decimal w.to ∷ s = e in
    let first : decimal v.from ≡ decimal w.from = cc in
    let second : decimal v.to ≡ decimal w.to = cc in
    let rest : r ≡ s = cc in
    let ordered = h.ordered in
    let within = h.within in
    let ends = same-ends v.from v.to most apart w l (omega (arith, ordered, within)) within i first second in
    (ap (λ x. Some (counts.Window x)) (same-window v w ends.0 ends.1), rest)

same-parts : (u w : ToolUse) → u.tool ≡ w.tool → u.inputs ≡ w.inputs → u.counts ≡ w.counts → u.output ≡ w.output → u ≡ w
same-parts u w a b c d =
    ap (λ x. record { tool = x; inputs = u.inputs; counts = u.counts; output = u.output }) a
    ∙ ap (λ x. record { tool = w.tool; inputs = x; counts = u.counts; output = u.output }) b
    ∙ ap (λ x. record { tool = w.tool; inputs = w.inputs; counts = x; output = u.output }) c
    ∙ ap (λ x. record { tool = w.tool; inputs = w.inputs; counts = w.counts; output = x }) d

-- ---- how many words it has

counts-counted : (limit : Option Limit) (c : Option Counts) → AreCounts limit c → length (counts_words c) ≡ number_count limit
counts-counted None None h = refl
counts-counted None (Some c) h = absurd h
counts-counted (Some l) None h = absurd h
counts-counted (Some (limit.One most)) (Some (counts.One n)) h = refl
counts-counted (Some (limit.One most)) (Some (counts.Window w)) h = absurd h
counts-counted (Some (limit.Window most apart)) (Some (counts.One n)) h = absurd h
counts-counted (Some (limit.Window most apart)) (Some (counts.Window w)) h = refl

output-counted : (writes : Bool) (o : Option (List ℕ)) → IsOutput writes o → length (output_words o) ≡ cond writes 1 0
output-counted false None h = refl
output-counted false (Some name) h = absurd h
output-counted true None h = absurd h
output-counted true (Some name) h = refl

-- the count of its words is that of its parts
counted : (t : Tool) → word_count t ≡ 1 + (input_count t + (length (option_to_list (further_word t)) + (number_count (counts_limit t) + (length (option_to_list (closing_word t)) + cond (writes_file t) 1 0))))
counted t = refl

pub words-counted : (u : ToolUse) → IsToolUse u → length (tool_words u) ≡ word_count u.tool
words-counted u is =
    let further = option_to_list (further_word u.tool) in
    let inputs : length (u.inputs ++ (further ++ (counts_words u.counts ++ last_words u.tool u.output)))
    ≡ length u.inputs + length (further ++ (counts_words u.counts ++ last_words u.tool u.output)) = length-append u.inputs _ in
    let behind : length (further ++ (counts_words u.counts ++ last_words u.tool u.output))
    ≡ length further + length (counts_words u.counts ++ last_words u.tool u.output) = length-append further _ in
    let last : length (counts_words u.counts ++ last_words u.tool u.output) ≡ length (counts_words u.counts) + length (last_words u.tool u.output) =
    length-append (counts_words u.counts) _ in
    let closing : length (last_words u.tool u.output) ≡ length (option_to_list (closing_word u.tool)) + length (output_words u.output) =
    length-append (option_to_list (closing_word u.tool)) _ in
    let number = counts-counted (counts_limit u.tool) u.counts is.counts in
    let output = output-counted (writes_file u.tool) u.output is.output in
    let all = counted u.tool in
    let given = is.counted in
    omega (arith, inputs, behind, last, closing, number, output, all, given)

-- ---- one use

-- behind the same word
pub same-rest : (t : Tool) (xs ys : List (List ℕ)) (n m : Option Counts) (o p : Option (List ℕ)) → length xs ≡ input_count t → length ys ≡ input_count t
    → AreCounts (counts_limit t) n → AreCounts (counts_limit t) m → IsOutput (writes_file t) o → IsOutput (writes_file t) p
    → xs ++ (option_to_list (further_word t) ++ (counts_words n ++ last_words t o)) ≡ ys ++ (option_to_list (further_word t) ++ (counts_words m ++ last_words t p))
    → (xs ≡ ys) × (n ≡ m) × (o ≡ p)
same-rest t xs ys n m o p a b h i j k e =
    let further : List (List ℕ) = option_to_list (further_word t) in
    let inputs = fronts xs ys _ _ (a ∙ sym b) e in
    let closing : List (List ℕ) = option_to_list (closing_word t) in
    let behind = fronts further further (counts_words n ++ last_words t o) (counts_words m ++ last_words t p) refl inputs.1 in
    let numbers = same-behind (counts_limit t) n m _ _ (word-limit t) h i behind.1 in
    let outputs = fronts closing closing (output_words o) (output_words p) refl numbers.1 in
    (inputs.0, numbers.0, same-output (writes_file t) o p j k outputs.1)

-- what stands behind the word of a use
abbrev rest_words : Tool → ToolUse → List (List ℕ)
rest_words t u = u.inputs ++ (option_to_list (further_word t) ++ (counts_words u.counts ++ last_words t u.output))

pub same-use : (u w : ToolUse) → tool_words u ≡ tool_words w → IsToolUse u → IsToolUse w → u ≡ w
same-use u w e l m =
    let words : tool_word u.tool ∷ rest_words u.tool u ≡ tool_word w.tool ∷ rest_words w.tool w = e in
    let first : tool_word u.tool ≡ tool_word w.tool = cc in
    let behind : rest_words u.tool u ≡ rest_words w.tool w = cc in
    let many : word_count u.tool ≡ word_count w.tool = sym (words-counted u l) ∙ ap (λ (x : List (List ℕ)). length x) e ∙ words-counted w m in
    let asked : IsAskedFor w.tool (asks_second (tool_words u)) = subst (λ words. IsAskedFor w.tool (asks_second words)) (sym e) (asked-for w m) in
    let t : u.tool ≡ w.tool = same-tool u.tool w.tool (asks_second (tool_words u)) (asked-for u l) asked first many in
    let rest : rest_words u.tool u ≡ rest_words u.tool w = behind ∙ ap (λ x. rest_words x w) (sym t) in
    let counted : length w.inputs ≡ input_count u.tool = m.counted ∙ ap input_count (sym t) in
    let counts = subst (λ x. AreCounts (counts_limit x) w.counts) (sym t) m.counts in
    let output = subst (λ x. IsOutput (writes_file x) w.output) (sym t) m.output in
    let same = same-rest u.tool u.inputs w.inputs u.counts w.counts u.output w.output l.counted counted l.counts counts l.output output rest in
    same-parts u w t same.0 same.1 same.2

-- what stands in the words of a tool behind the files that it reads
pub record Behind (words : List (List ℕ)) (t : Tool) (u : ToolUse) : Type 0 where
  pub tool_is : u.tool ≡ t
  pub long : input_count t + 1 ≤ length words
  pub rest : drop (input_count t + 1) words ≡ option_to_list (further_word t) ++ (counts_words u.counts ++ last_words t u.output)

-- the words are so many as tool t has, the first one is its, and of two of one word it is the one that they ask for
pub record Begins (words : List (List ℕ)) (t : Tool) : Type 0 where
  pub first : get_or words 0 [] ≡ tool_word t
  pub many : length words ≡ word_count t
  pub asked : IsAskedFor t (asks_second words)

pub begins-as : (words : List (List ℕ)) (t : Tool) (u : ToolUse) → Begins words t → words ≡ tool_words u → IsToolUse u → u.tool ≡ t
begins-as words t u b e is =
    same-tool u.tool t (asks_second words) (subst (λ w. IsAskedFor u.tool (asks_second w)) (sym e) (asked-for u is)) b.asked
    (ap (λ w. get_or w 0 []) (sym e) ∙ b.first) (sym (words-counted u is) ∙ ap (λ (w : List (List ℕ)). length w) (sym e) ∙ b.many)

pub behind-inputs : (words : List (List ℕ)) (t : Tool) (u : ToolUse) → Begins words t → words ≡ tool_words u → IsToolUse u → Behind words t u
behind-inputs words t u b e is =
    let same : u.tool ≡ t = begins-as words t u b e is in
    let rest : List (List ℕ) = option_to_list (further_word u.tool) ++ (counts_words u.counts ++ last_words u.tool u.output) in
    let counted : length u.inputs ≡ input_count t = is.counted ∙ ap input_count same in
    let n : input_count t + 1 ≡ length (tool_word u.tool ∷ u.inputs) = omega (arith, counted) in
    let long : length words ≡ length (tool_word u.tool ∷ u.inputs) + length rest =
    ap (λ w. length w) e ∙ length-append (tool_word u.tool ∷ u.inputs) rest in
    record {
      tool_is = same;
      long = omega (arith, n, long);
      rest = ap (λ w. drop (input_count t + 1) w) e ∙ ap (λ k. drop k ((tool_word u.tool ∷ u.inputs) ++ rest)) n
          ∙ drop-append_seam (tool_word u.tool ∷ u.inputs) rest
          ∙ ap (λ x. option_to_list (further_word x) ++ (counts_words u.counts ++ last_words x u.output)) same;
    }

-- words behind which the further word of the tool does not stand are no tool's
pub without-further : (words : List (List ℕ)) (t : Tool) → Begins words t
    → ((rest : List (List ℕ)) → drop (input_count t + 1) words ≡ option_to_list (further_word t) ++ rest → ⊥) → NoTool words
without-further words t first none used h =
    let b = behind-inputs words t used first h.0 h.1 in none (counts_words used.counts ++ last_words t used.output) b.rest

-- nor are those behind which no counts stand that the tool takes
pub without-counts : (words : List (List ℕ)) (t : Tool) (behind : List (List ℕ)) → Begins words t
    → drop (input_count t + 1) words ≡ option_to_list (further_word t) ++ behind
    → ((n : Option Counts) (rest : List (List ℕ)) → AreCounts (counts_limit t) n → behind ≡ counts_words n ++ rest → ⊥) → NoTool words
without-counts words t behind first e none used h =
    let b = behind-inputs words t used first h.0 h.1 in
    let N : Tool → Type 0 = λ x. AreCounts (counts_limit x) used.counts in
    let further : List (List ℕ) = option_to_list (further_word t) in
    let same = fronts further further behind (counts_words used.counts ++ last_words t used.output) refl (sym e ∙ b.rest) in
    none used.counts (last_words t used.output) (subst N b.tool_is h.1.counts) same.1

-- what stands behind its counts
last-behind : (words : List (List ℕ)) (t : Tool) (n : Option Counts) (behind rest : List (List ℕ)) → Begins words t → AreCounts (counts_limit t) n
    → drop (input_count t + 1) words ≡ option_to_list (further_word t) ++ behind → behind ≡ counts_words n ++ rest
    → (u : ToolUse) → words ≡ tool_words u → IsToolUse u → rest ≡ last_words t u.output
last-behind words t n behind rest first number e f u words_are is =
    let b = behind-inputs words t u first words_are is in
    let N : Tool → Type 0 = λ x. AreCounts (counts_limit x) u.counts in
    let further : List (List ℕ) = option_to_list (further_word t) in
    let front = fronts further further behind (counts_words u.counts ++ last_words t u.output) refl (sym e ∙ b.rest) in
    let same = same-behind (counts_limit t) n u.counts rest (last_words t u.output) (word-limit t) number (subst N b.tool_is is.counts) (sym f ∙ front.1) in
    same.1

-- nor are those behind which its closing word does not stand
pub without-closing : (words : List (List ℕ)) (t : Tool) (n : Option Counts) (behind rest : List (List ℕ)) → Begins words t → AreCounts (counts_limit t) n
    → drop (input_count t + 1) words ≡ option_to_list (further_word t) ++ behind → behind ≡ counts_words n ++ rest
    → ((closed : List (List ℕ)) → rest ≡ option_to_list (closing_word t) ++ closed → ⊥) → NoTool words
without-closing words t n behind rest first number e f none used h =
    none (output_words used.output) (last-behind words t n behind rest first number e f used h.0 h.1)

-- nor are those behind which no file stands that it writes
pub without-output : (words : List (List ℕ)) (t : Tool) (n : Option Counts) (behind rest closed : List (List ℕ)) → Begins words t → AreCounts (counts_limit t) n
    → drop (input_count t + 1) words ≡ option_to_list (further_word t) ++ behind → behind ≡ counts_words n ++ rest
    → rest ≡ option_to_list (closing_word t) ++ closed
    → ((o : Option (List ℕ)) → IsOutput (writes_file t) o → closed ≡ output_words o → ⊥) → NoTool words
without-output words t n behind rest closed first number e f g none used h =
    let b = behind-inputs words t used first h.0 h.1 in
    let O : Tool → Type 0 = λ x. IsOutput (writes_file x) used.output in
    let closing : List (List ℕ) = option_to_list (closing_word t) in
    let same = fronts closing closing closed (output_words used.output) refl (sym g ∙ last-behind words t n behind rest first number e f used h.0 h.1) in
    none used.output (subst O b.tool_is h.1.output) same.1

-- what holds anyway
pub if-none : {X : Type 0} (x : Option X) (P : Type 0) → P → IfNone x P
if-none None P p = p
if-none (Some x) P p = tt

-- the first word
pub first-word : (words : List (String Global)) (word : String Global) → Some word ≡ slice_get words 0 → get_or (words_of words) 0 [] ≡ string_bytes word
first-word [] word e = absurd cc
first-word (x ∷ xs) word e = let same : word ≡ x = cc in ap (λ (w : String Global). string_bytes w) (sym same)

-- where no tool has the first word and as many words, the words are no tool's
pub no-tool-named : (words : List (String Global)) (word : String Global) (named : List ℕ) → Some word ≡ slice_get words 0 → named ≡ string_bytes word
    → ((tool : Tool) → named ≡ tool_word tool → length words ≡ word_count tool → ⊥) → NoTool (words_of words)
no-tool-named words word named first is none used h =
    none used.tool (is ∙ sym (first-word words word first) ∙ ap (λ w. get_or w 0 []) h.0)
    (sym (length-map words (λ (w : String Global). string_bytes w)) ∙ ap (λ (w : List (List ℕ)). length w) h.0 ∙ words-counted used h.1)

-- the words behind others
pub behind-words : (words rest : List (String Global)) (n : ℕ) → rest ≡ drop n words → words_of rest ≡ drop n (words_of words)
behind-words words rest n e = ap words_of e ∙ sym (drop-map (λ (w : String Global). string_bytes w) n words)

-- how the words begin
pub begin : (words : List (String Global)) (word : String Global) (t : Tool) → Some word ≡ slice_get words 0 → string_bytes word ≡ tool_word t
    → length words ≡ word_count t → IsAskedFor t (asks_second (words_of words)) → Begins (words_of words) t
begin words word t first is many asked = record {
  first = first-word words word first ∙ is;
  many = length-map words (λ (w : String Global). string_bytes w) ∙ many;
  asked = asked;
}

-- the words behind the files that it reads
pub words-behind : (words behind : List (String Global)) (t : Tool) (n : ℕ) → n ≡ input_count t → behind ≡ drop (n + 1) words
    → words_of behind ≡ drop (input_count t + 1) (words_of words)
words-behind words behind t n same e = behind-words words behind (n + 1) e ∙ ap (λ k. drop (k + 1) (words_of words)) same

-- ---- the words that are a tool's

words-parted : (k : ℕ) (words : List (String Global)) → words_of words ≡ words_of (take k words) ++ drop k (words_of words)
words-parted zero words = refl
words-parted (suc k) [] = refl
words-parted (suc k) (w ∷ words) = ap (λ l. string_bytes w ∷ l) (words-parted k words)

words-taken : (k : ℕ) (words : List (String Global)) → k ≤ length words → length (words_of (take k words)) ≡ k
words-taken zero words h = refl
words-taken (suc k) [] h = absurd (let wrong : ⊥ = omega (arith, h) in wrong)
words-taken (suc k) (w ∷ words) h = ap suc (words-taken k words (omega (arith, h)))

-- words that begin as those of a tool, so many files, and behind them what it takes
pub is-tool : (words : List (String Global)) (t : Tool) (count : ℕ) (n : Option Counts) (o : Option (List ℕ)) (behind rest closed : List (List ℕ))
    → Begins (words_of words) t → count ≡ input_count t → count + 1 ≤ length words
    → drop (input_count t + 1) (words_of words) ≡ option_to_list (further_word t) ++ behind → behind ≡ counts_words n ++ rest
    → rest ≡ option_to_list (closing_word t) ++ closed → closed ≡ output_words o
    → AreCounts (counts_limit t) n → IsOutput (writes_file t) o
    → IsCommand (words_of words) (Uses (record { tool = t; inputs = words_of (take (count + 1 - 1) (drop 1 words)); counts = n; output = o }))
is-tool [] t count n o behind rest closed begins same long further counted closing output are writes = absurd (let wrong : ⊥ = omega (arith, long) in wrong)
is-tool (w ∷ words) t count n o behind rest closed begins same long further counted closing output are writes =
    let V = words_of words in
    let k : count + 1 - 1 ≡ count = omega arith in
    let first : string_bytes w ≡ tool_word t = begins.first in
    let last : drop (input_count t) V ≡ option_to_list (further_word t) ++ (counts_words n ++ last_words t o) =
    sym (ap (λ j. drop j (string_bytes w ∷ V)) (add-one (input_count t))) ∙ further
    ∙ ap (λ b. option_to_list (further_word t) ++ b) (counted ∙ ap (λ r. counts_words n ++ r) (closing ∙ ap (λ r. option_to_list (closing_word t) ++ r) output)) in
    let parted : V ≡ words_of (take (count + 1 - 1) words) ++ drop (input_count t) V =
    words-parted count words ∙ ap (λ j. words_of (take j words) ++ drop count V) (sym k)
    ∙ ap (λ j. words_of (take (count + 1 - 1) words) ++ drop j V) same in
    let used : ToolUse = record { tool = t; inputs = words_of (take (count + 1 - 1) words); counts = n; output = o } in
    let is : string_bytes w ∷ V ≡ tool_words used =
    ap (λ x. x ∷ V) first ∙ ap (λ l. tool_word t ∷ l) (parted ∙ ap (λ l. words_of (take (count + 1 - 1) words) ++ l) last) in (
      is,
      record {
        asked = subst (λ l. IsAskedFor t (asks_second l)) is begins.asked;
        counted = ap (λ j. length (words_of (take j words))) k ∙ words-taken count words (omega (arith, long)) ∙ same;
        counts = are;
        output = writes;
      },
    )

-- ---- the files that it reads

few-files : (t : Tool) → file_count t ≤ input_count t
few-files tool.Elf = omega arith
few-files t = omega arith

-- as many names are those of files as it reads
pub files-counted : (u : ToolUse) → length u.inputs ≡ input_count u.tool → length (file_names u) ≡ file_count u.tool
files-counted u counted =
    let few = few-files u.tool in
    length-take-le (file_count u.tool) u.inputs (omega (arith, counted, few))

-- they are the first of its names
pub first-names : (names first : List (String Global)) (k n : ℕ) → k ≡ n → first ≡ take k names → words_of first ≡ take n (words_of names)
first-names names first k n e is =
    ap words_of is ∙ (sym (take-map (λ (w : String Global). string_bytes w) k names) ∙ ap (λ j. take j (words_of names)) e)
