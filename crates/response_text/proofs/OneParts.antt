-- The parts of a response time have one text.
use Rattle.std.proofs.Common.{◌≡◌, ◌∙◌, ◌⊎◌, inl, inr, ℕ, zero, suc, ◌+◌, ◌<◌, ◌≤◌, ◌==◌, ◌&&◌, List, [], ◌++◌, codes, length, Bool, true, false, not, Option, Some, None, refl, sym, ap, subst, arith}
use Rattle.std.proofs.lemmas.Bool.{cases_lt, false≢true}
use Rattle.sloth_base.specs.declared.config.Config.{Config}
use Rattle.sloth_base.specs.declared.app.App.{App}
use Rattle.sloth_base.specs.Named.{declaration}
use Rattle.run_windows.specs.declared.costs.Costs.{Costs}
use Rattle.run_windows.specs.declared.costs.Made.{Made}
use Rattle.run_windows.specs.declared.costs.Start.{Start}
use Rattle.run_windows.specs.declared.costs.Start.TheVariants as start
use Rattle.run_windows.specs.declared.costs.Longest.{Longest}
use Rattle.run_windows.specs.declared.responses.Parts.{Parts}
use Rattle.run_windows.specs.Costs.{task, section, section_counts, reckoned, capped}
use Rattle.run_windows.specs.Windows.{IsAtMost, numbers_of}
use Rattle.run_windows.specs.RunWindows.{IsLeastOf, IsNumber, IsRunBound, start_at, start_counts, run_starts}
use Rattle.run_windows.specs.Longest.{number_of, ComesBefore, IsFirstWindow, IsLongest, AreParts}
use Rattle.run_windows.proofs.OneLeast.{one_least}
use Rattle.run_windows.specs.declared.costs.RunCosts.{RunCosts}
use Rattle.response_reasons.specs.EarlySections.{BeginsSection}
use Rattle.response_text.specs.declared.part_lines.Name.{Name}
use Rattle.response_text.specs.declared.part_lines.Name.TheVariants as name
use Rattle.response_text.specs.declared.part_lines.FrontNames.{FrontNames}
use Rattle.response_text.specs.declared.part_lines.PartNames.{PartNames}
use Rattle.response_text.specs.PartNames.{line_name, IsSectionName, IsBegunName, AreFrontNames}
use Rattle.response_text.specs.Parts.{front_line, front_lines, section_of, start_line, begun_line, part_line, first_word, work_name, bounded_at, round_lines, tick_lines, part_lines, has_parts, IsPartText}
use Rattle.response_text.specs.TaskText.{same_number, shows_behind, AreBothParts}
use Rattle.response_text.proofs.OneNames.{one_service}
use Rattle.response_text.proofs.Numbered.{told_number, first_of, some_number, shown_parts}

-- ---- windows

module _ (longest late : ℕ) (costs : Costs) (h : ℕ) (ss : List Start) where
  never_before : (l k : Longest) → l.number ≡ k.number → (a : IsFirstWindow longest late costs h ss l) (b : IsFirstWindow longest late costs h ss k)
      → ComesBefore a.place l.opens b.place k.opens → ⊥
  never_before l k e a b before =
      let lt = b.first a.place l.opens l.number a.known before (subst (λ (s : Start). IsNumber longest late costs h l.opens s (Some l.number)) a.is a.number) in
      omega (arith, lt, e)

  -- one window is the first with its number
  one_first : (l k : Longest) → l.number ≡ k.number → IsFirstWindow longest late costs h ss l → IsFirstWindow longest late costs h ss k → l ≡ k
  one_first l k e a b =
      let E : ℕ → Longest = λ n. record { number = n; start = l.start; opens = l.opens } in
      let F : Start → Longest = λ s. record { number = k.number; start = s; opens = l.opens } in
      let G : Bool → Longest = λ o. record { number = k.number; start = k.start; opens = o } in
      ap E e ∙ (ap F (a.is ∙ (ap (start_at ss) place ∙ sym b.is)) ∙ ap G (opens l.opens k.opens refl refl))
    where
      by : (a.place < b.place) ⊎ (b.place ≤ a.place) → (b.place < a.place) ⊎ (a.place ≤ b.place) → a.place ≡ b.place
      by (inl lt) other = absurd (never_before l k e a b (inl lt))
      by (inr le) (inl lt) = absurd (never_before k l (sym e) b a (inl lt))
      by (inr le) (inr ge) = omega (arith, le, ge)

      place : a.place ≡ b.place
      place = by (cases_lt a.place b.place) (cases_lt b.place a.place)

      opens : (x y : Bool) → l.opens ≡ x → k.opens ≡ y → x ≡ y
      opens true true p q = refl
      opens true false p q = absurd (never_before l k e a b (inr (place, p, q)))
      opens false true p q = absurd (never_before k l (sym e) b a (inr (sym place, q, p)))
      opens false false p q = refl

module _ (costs : RunCosts) (h : ℕ) (boot : Bool) where
  abbrev Is : Option Longest → Type 0
  Is l = IsLongest costs.longest costs.late costs.costs h boot l

  pub same_told_number : (l k : Option Longest) → Is l → Is k → number_of l ≡ number_of k
  same_told_number l k a b =
      one_least (IsRunBound costs.longest costs.late costs.costs h boot) (number_of l) (number_of k) (told_number costs.longest costs.late costs.costs h boot l a)
      (told_number costs.longest costs.late costs.costs h boot k b)

  -- with something in it there is one
  pub one_window : (l k : Option Longest) → Is l → Is k → has_parts l ≡ true → l ≡ k
  one_window (Some l) (Some k) a b e =
      let told = same_told_number (Some l) (Some k) a b in
      let same : l.number ≡ k.number = cc in
      let lt = some_number l.number e in
      ap Some (one_first costs.longest costs.late costs.costs h (run_starts costs.costs h boot) l k same (first_of costs h boot l a lt)
      (first_of costs h boot k b (subst (λ n. 0 < n) same lt)))
  one_window (Some l) None a b e = let told = same_told_number (Some l) None a b in cc
  one_window None k a b e = absurd (false≢true e)

-- ---- in front of a window

same_section_of : (s : Start) (p q : Parts) → p.section ≡ q.section → section_of s p ≡ section_of s q
same_section_of start.Free p q e = e
same_section_of start.Boot p q e = e
same_section_of (start.Activation j) p q e = e
same_section_of (start.Setting j) p q e = e
same_section_of (start.Section k) p q e = e
same_section_of (start.Round k) p q e = refl

module _ (config : Config) (app : App) (costs : Costs) (names : PartNames) (h : ℕ) where
  abbrev section_line : ℕ → Name → List ℕ
  section_line counts n = front_line config (codes "section") counts n

  no_line : (counts : ℕ) (n : Name) → counts ≡ 0 → section_line counts n ≡ []
  no_line counts n e = ap (λ c. section_line c n) e

  module _ (k counts : ℕ) (is : counts ≡ reckoned (section_counts costs h k)) where
    abbrev IsOf : Name → Type 0
    IsOf n = IsSectionName config app names.weights costs h k n

    same_begin : (one other : ℕ) → IsOf (name.Line one) → IsOf (name.Line other) → one ≡ other
    same_begin one other a b =
        let both : Some a.0 ≡ Some b.0 = sym a.1 ∙ b.1 in
        let same : a.0 ≡ b.0 = cc in
        let there : IsLeastOf (BeginsSection config app names.weights h k b.0) (Some one) =
        subst (λ n. IsLeastOf (BeginsSection config app names.weights h k n) (Some one)) same a.3 in
        let least = one_least (BeginsSection config app names.weights h k b.0) (Some one) (Some other) there b.3 in
        cc

    -- what is not known of one that takes nothing is not told
    mixed : (line : ℕ) → IsOf (name.Line line) → IsOf name.Work → section_line counts (name.Line line) ≡ section_line counts name.Work
    mixed line a (inl none) =
        let least : capped 0 ≡ 0 = omega arith in
        let zero : counts ≡ 0 = is ∙ (ap reckoned none ∙ least) in
        no_line counts (name.Line line) zero ∙ sym (no_line counts name.Work zero)
    mixed line a (inr (inl other)) = absurd (other (a.2 ∙ sym a.1))
    mixed line a (inr (inr none)) = let clash = sym a.1 ∙ none in cc

    one_section : (n m : Name) → IsOf n → IsOf m → section_line counts n ≡ section_line counts m
    one_section (name.Line one) (name.Line other) a b = ap (λ l. section_line counts (name.Line l)) (same_begin one other a b)
    one_section (name.Line line) name.Work a b = mixed line a b
    one_section name.Work (name.Line line) a b = sym (mixed line b a)
    one_section name.Work name.Work a b = refl
    one_section name.Boot m a b = absurd a
    one_section (name.Entry t) m a b = absurd a
    one_section (name.Tick c) m a b = absurd a
    one_section name.Nothing m a b = absurd a
    one_section n name.Boot a b = absurd b
    one_section n (name.Entry t) a b = absurd b
    one_section n (name.Tick c) a b = absurd b
    one_section n name.Nothing a b = absurd b

  one_begun : (s : Start) (p : Parts) (n m : Name) → p.section ≡ start_counts costs h s → IsBegunName config app names.weights costs h s n → IsBegunName config app names.weights costs h s m
      → section_line (section_of s p) n ≡ section_line (section_of s p) m
  one_begun start.Free p n m e a b = ap (section_line p.section) (a ∙ sym b)
  one_begun start.Boot p n m e a b = ap (section_line p.section) (a ∙ sym b)
  one_begun (start.Activation j) p n m e a b = ap (section_line p.section) (a ∙ sym b)
  one_begun (start.Setting j) p n m e a b = ap (section_line p.section) (a ∙ sym b)
  one_begun (start.Section k) p n m e a b = one_section k p.section e n m a b
  one_begun (start.Round k) p n m e a b = ap (section_line 0) (a ∙ sym b)

-- ---- the lines of a window

same_made : (a b : Made) → IsAtMost a b → IsAtMost b a → a ≡ b
same_made a b h g =
    let p = h.activations in
    let q = g.activations in
    let r = h.settings in
    let s = g.settings in
    let acts : a.activations ≡ b.activations = omega (arith, p, q) in
    let sets : a.settings ≡ b.settings = omega (arith, r, s) in
    let E : ℕ → Made = λ n. record { activations = n; settings = a.settings } in
    let F : ℕ → Made = λ n. record { activations = b.activations; settings = n } in
    ap E acts ∙ ap F sets

module _ (config : Config) (app : App) (costs : RunCosts) (names : PartNames) (h : ℕ) (l : Longest) (p q : Parts) (a : AreParts costs.longest costs.late costs.costs h l p)
    (b : AreParts costs.longest costs.late costs.costs h l q) where
  same_section : p.section ≡ q.section
  same_section = a.section ∙ sym b.section

  same_counts : p.counts ≡ q.counts
  same_counts =
      let r = a.least.least_counts (numbers_of q.numbers) q.counts b.least.solves in
      let s = b.least.least_counts (numbers_of p.numbers) p.counts a.least.solves in
      omega (arith, r, s)

  same_numbers : (t : ℕ) → t < length costs.costs.tasks → numbers_of p.numbers t ≡ numbers_of q.numbers t
  same_numbers t lt =
      same_made (numbers_of p.numbers t) (numbers_of q.numbers t) (a.least.least_numbers (numbers_of q.numbers) q.counts b.least.solves t lt)
      (b.least.least_numbers (numbers_of p.numbers) p.counts a.least.solves t lt)

  -- of a task that is made so often
  abbrev lines_by : (counts : ℕ) → Made → (t : ℕ) → List ℕ
  lines_by counts made t =
      (begun_line config l.start counts (bounded_at names.bounded t) t
      ++ part_line config (declaration config t).name (first_word (task costs.costs t).is_cut) made.activations (task costs.costs t).first (work_name (bounded_at names.bounded t).first))
      ++ part_line config (declaration config t).name (codes " next") made.settings (task costs.costs t).next (work_name (bounded_at names.bounded t).next)

  same_rounds : (count : ℕ) → count ≤ length costs.costs.tasks
      → round_lines config costs.costs names.bounded l.start p count ≡ round_lines config costs.costs names.bounded l.start q count
  unfolding round_lines
  same_rounds zero le = refl
  same_rounds (suc t) le =
      ap (λ r. r ++ lines_by p.section (numbers_of p.numbers t) t) (same_rounds t (omega (arith, le)))
      ∙ (ap (λ n. round_lines config costs.costs names.bounded l.start q t ++ lines_by n (numbers_of p.numbers t) t) same_section
      ∙ ap (λ m. round_lines config costs.costs names.bounded l.start q t ++ lines_by q.section m t) (same_numbers t (omega (arith, le))))

  same_fronts : (f g : FrontNames) → AreFrontNames config app costs.costs names h l.start f → AreFrontNames config app costs.costs names h l.start g
      → front_lines config l.start p f ≡ front_lines config l.start q g
  same_fronts f g c d =
      let line : List ℕ → ℕ → Name → List ℕ = λ w n m. front_line config w n m in
      let stretch : line (codes "stretch") p.stretch f.stretch ≡ line (codes "stretch") q.stretch g.stretch =
      ap (λ n. line (codes "stretch") n f.stretch) (a.stretch ∙ sym b.stretch) ∙ ap (line (codes "stretch") q.stretch) (c.stretch ∙ sym d.stretch) in
      let called = one_service config app costs.costs h l.start c.line d.line c.is_line d.is_line in
      let service : line (codes "service") p.service f.service ≡ line (codes "service") q.service g.service =
      ap (λ n. line (codes "service") n f.service) (a.service ∙ sym b.service)
      ∙ ap (line (codes "service") q.service) (c.service ∙ (ap line_name called ∙ sym d.service)) in
      let item : line (codes "item") p.item f.item ≡ line (codes "item") q.item g.item =
      ap (λ n. line (codes "item") n f.item) (a.item ∙ sym b.item) ∙ ap (line (codes "item") q.item) (c.item ∙ sym d.item) in
      let section : line (codes "section") (section_of l.start p) f.section ≡ line (codes "section") (section_of l.start q) g.section =
      one_begun config app costs.costs names h l.start p f.section g.section a.section c.section d.section
      ∙ ap (λ n. line (codes "section") n g.section) (same_section_of l.start p q same_section) in
      let E : List ℕ → List ℕ =
      λ x. (x ++ line (codes "service") p.service f.service) ++ (line (codes "item") p.item f.item ++ line (codes "section") (section_of l.start p) f.section) in
      let F : List ℕ → List ℕ =
      λ x. (line (codes "stretch") q.stretch g.stretch ++ x) ++ (line (codes "item") p.item f.item ++ line (codes "section") (section_of l.start p) f.section) in
      let G : List ℕ → List ℕ =
      λ x. (line (codes "stretch") q.stretch g.stretch ++ line (codes "service") q.service g.service) ++ (x ++ line (codes "section") (section_of l.start p) f.section) in
      let H : List ℕ → List ℕ =
      λ x. (line (codes "stretch") q.stretch g.stretch ++ line (codes "service") q.service g.service) ++ (line (codes "item") q.item g.item ++ x) in
      ap E stretch ∙ (ap F service ∙ (ap G item ∙ ap H section))

  same_lines : (f g : FrontNames) → length config.tasks ≤ length costs.costs.tasks → AreFrontNames config app costs.costs names h l.start f
      → AreFrontNames config app costs.costs names h l.start g
      → part_lines config costs.costs names.bounded l.start p f ≡ part_lines config costs.costs names.bounded l.start q g
  same_lines f g le c d =
      let rounds : Parts → List ℕ = λ x. round_lines config costs.costs names.bounded l.start x (length config.tasks) in
      let ticks : ℕ → List ℕ = λ n. tick_lines config costs.costs n (length config.counters) in
      let first = start_line config l.start in
      ap (λ x. ((first ++ x) ++ rounds p) ++ ticks p.counts) (same_fronts f g c d)
      ∙ (ap (λ x. ((first ++ front_lines config l.start q g) ++ x) ++ ticks p.counts) (same_rounds (length config.tasks) le)
      ∙ ap (λ n. ((first ++ front_lines config l.start q g) ++ rounds q) ++ ticks n) same_counts)

-- ---- the text

module _ (config : Config) (app : App) (costs : RunCosts) (names : PartNames) (h : ℕ) (le : length config.tasks ≤ length costs.costs.tasks) where
  one_part_text : (shown : Bool) (l : Option Longest) (x y : List ℕ) → IsPartText config app costs names h shown l x → IsPartText config app costs names h shown l y → x ≡ y
  one_part_text false l x y a b = a ∙ sym b
  one_part_text true (Some l) x y a b = a.4 ∙ (same_lines config app costs names h l a.0 b.0 a.2 b.2 a.1 b.1 le a.3 b.3 ∙ sym b.4)
  one_part_text true None x y a b = absurd a

  -- of the same window, where it is shown
  of_window : (shown : Bool) (l k : Option Longest) (x : List ℕ) → (shown ≡ true → l ≡ k) → IsPartText config app costs names h shown l x → IsPartText config app costs names h shown k x
  of_window true l k x same a = subst (λ (w : Option Longest). IsPartText config app costs names h true w x) (same refl) a
  of_window false l k x same a = a

  has_number : (l k : Option Longest) → number_of l ≡ number_of k → has_parts l ≡ has_parts k
  has_number (Some l) (Some k) e = let same : l.number ≡ k.number = cc in ap (λ n. not (n == 0)) same
  has_number (Some l) None e = cc
  has_number None (Some k) e = cc
  has_number None None e = refl

  pub one_both_parts : (l k m n : Option Longest) (x y : List ℕ) → IsLongest costs.longest costs.late costs.costs h true l → IsLongest costs.longest costs.late costs.costs h true k
      → IsLongest costs.longest costs.late costs.costs h false m → IsLongest costs.longest costs.late costs.costs h false n
      → AreBothParts config app costs names h l m x → AreBothParts config app costs names h k n y → x ≡ y
  one_both_parts l k m n x y is other behind further a b =
      let numbers = same_told_number costs h true l k is other in
      let later = same_told_number costs h false m n behind further in
      let shown = has_number l k numbers in
      let shows : shows_behind l m ≡ shows_behind k n =
      ap (λ v. v && not (same_number (number_of l) (number_of m))) (has_number m n later)
      ∙ (ap (λ u. has_parts n && not (same_number u (number_of m))) numbers ∙ ap (λ u. has_parts n && not (same_number (number_of k) u)) later) in
      let one : a.parts ≡ b.parts =
      one_part_text (has_parts l) k a.parts b.parts (of_window (has_parts l) l k a.parts (λ e. one_window costs h true l k is other e) a.are_parts)
      (subst (λ v. IsPartText config app costs names h v k b.parts) (sym shown) b.are_parts) in
      let two : a.further ≡ b.further =
      one_part_text (shows_behind l m) n a.further b.further
      (of_window (shows_behind l m) m n a.further (λ e. one_window costs h false m n behind further (shown_parts l m e)) a.are_further)
      (subst (λ v. IsPartText config app costs names h v n b.further) (sym shows) b.are_further) in
      a.is ∙ (ap (λ t. t ++ a.further) one ∙ (ap (λ t. b.parts ++ t) two ∙ sym b.is))
