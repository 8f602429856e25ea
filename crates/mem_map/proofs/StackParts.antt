-- The stacks of a map, and the parts of the tasks in them.
use Rattle.std.proofs.Common.{◌≡◌, ◌≢◌, ℕ, suc, ◌+◌, ◌%◌, ◌<◌, ◌≤◌, ◌⊎◌, inl, inr, ⊎_elim, Bool, true, false, List, [], ◌∷◌, length, get_or, refl, sym, ap, ◌∙◌, subst, arith}
use Rattle.std.specs.Prelude.{All, map}
use Rattle.std.proofs.lemmas.Bool.{cases_Bool, cases_lt}
use Rattle.std.proofs.Math.ListN.{get_or-map}
use Rattle.std.proofs.lemmas.List.{length-map, get_or_default}
use Rattle.sloth_base.specs.Named.{declaration, body_of}
use Rattle.sloth_base.specs.declared.app.App.{App}
use Rattle.sloth_base.specs.declared.config.Config.{Config}
use Rattle.sloth_base.specs.declared.config.TaskDecl.{TaskDecl}
use Rattle.sloth_base.specs.declared.limits.Bounds.{Bounds}
use Rattle.sloth_base.specs.MemoryMap.{memory_end, words_base}
use Rattle.sloth_region.specs.declared.region.Extent.{Extent}
use Rattle.sloth_region.specs.declared.region.Map.{Map}
use Rattle.sloth_region.specs.Region.{AreApartWithin, IsBelow}
use Rattle.stack_bounds.specs.Bounds.{IsBasic, MayBePreempted, MayMeet, bytes_of, offset_of}
use Rattle.stack_bounds.specs.Bounds.MayMeet.{waits, meets_waiting, is_over, is_under}
use Rattle.mem_map.specs.Run.{run}
use Rattle.mem_map.specs.Zones.{data_zone, stack_of, all_stacks}
use Rattle.mem_map.specs.StackParts.{no_extent, is_extended, first_own, stack_number, HasStack}
use Rattle.mem_map.specs.Plan.{AreNeeds}
use Rattle.mem_map.specs.Stacks.{shared_length, AreStackLengths, AreStacksBefore, top_of, address_behind_data, PartsApart, HasStacks}
use Rattle.mem_map.proofs.StackCount.{stack_count}
use Rattle.mem_map.proofs.StackNumbers.{number_own, number_shared, number_below, shares, differ, has_basic, found}

clash : {X : Type 0} → true ≡ false → X
clash e = cc

module _ (config : Config) (app : App) (bounds : Bounds) (offsets : List ℕ) (needs : AreNeeds config app bounds offsets) where
  abbrev tasks : List TaskDecl
  tasks = config.tasks

  abbrev n : ℕ
  n = length config.tasks

  -- whole words for a context, and no more than its stack has room for
  pub record IsPart (t : ℕ) : Type 0 where
    pub some : 128 ≤ bytes_of bounds t
    pub small : bytes_of bounds t ≤ 8572
    pub words : bytes_of bounds t % 4 ≡ 0

  -- each task's bytes are so
  pub part : (t : ℕ) → t < n → IsPart t
  part t l =
      let count = needs.are_bounds.count in
      let is = needs.are_bounds.lengths t 0 (omega (arith, l, count)) in
      let room = needs.are_bounds.room t (body_of app.funcs t) [] l refl in
      record { some = omega (arith, room); small = is.0; words = is.1 }

  -- the shared stack is there where some task is basic
  pub shared_some : 0 < first_own tasks → 1 ≤ bounds.shared
  shared_some some =
      let has = has_basic config.tasks some in
      let s = (part has.0 has.1).some in
      let i = needs.parts.inside has.0 (has.1, has.2) in
      omega (arith, s, i)

  -- ---- the stacks, one behind the other

  module _ (from : ℕ) (lengths : List ℕ) (all : List Extent) (are : AreStackLengths tasks bounds n lengths) (lens : map (λ (e : Extent). e.len) all ≡ lengths)
      (apart : AreApartWithin from memory_end all) (aligned : All (λ (e : Extent). e.base % 16 ≡ 0) all) where
    count : length all ≡ stack_count tasks
    count = sym (length-map all (λ (e : Extent). e.len)) ∙ ap length lens ∙ are.count

    abbrev own : ℕ → Extent
    own t = get_or all (stack_number tasks t) no_extent

    there : (t : ℕ) → t < n → stack_number tasks t < length all
    there t l = let b = number_below tasks t l in let c = count in omega (arith, b, c)

    len_is : (k : ℕ) → (get_or all k no_extent).len ≡ get_or lengths k 0
    len_is k = sym (get_or-map (λ (e : Extent). e.len) all k no_extent) ∙ ap (λ (l : List ℕ). get_or l k 0) lens

    shared_len : (t : ℕ) → IsBasic config t → (own t).len ≡ shared_length bounds
    shared_len t basic =
        let e = number_shared tasks t basic.1 in
        let s = shares tasks t basic.0 basic.1 in
        len_is (stack_number tasks t) ∙ ap (λ k. get_or lengths k 0) e ∙ are.shared (omega (arith, s))

    own_len : (t : ℕ) → t < n → is_extended tasks t ≡ true → (own t).len ≡ bytes_of bounds t
    own_len t l e = len_is (stack_number tasks t) ∙ ap (λ k. get_or lengths k 0) (number_own tasks t e) ∙ are.own t l e

    offset_none : (t : ℕ) → is_extended tasks t ≡ true → offset_of offsets t ≡ 0
    offset_none t e = needs.parts.own t e

    fits : (t : ℕ) → t < n → offset_of offsets t + bytes_of bounds t ≤ (own t).len
    fits t l = ⊎_elim
        (λ yes. let e = own_len t l yes in let o = offset_none t yes in omega (arith, e, o))
        (λ no. let e = shared_len t (l, no) in let i = needs.parts.inside t (l, no) in omega (arith, e, i))
        (cases_Bool (is_extended tasks t))

    whole : (t : ℕ) → t < n → (own t).len % 4 ≡ 0
    whole t l = ⊎_elim
        (λ yes. let e = own_len t l yes in let w = (part t l).words in omega (arith, e, w))
        (λ no. let e = shared_len t (l, no) in omega (arith, e))
        (cases_Bool (is_extended tasks t))

    inside : (t : ℕ) → t < n → (from ≤ (own t).base) × ((own t).base + (own t).len ≤ memory_end)
    inside t l = let i = apart.inside (stack_number tasks t) no_extent (there t l) in (i.0, i.2)

    -- each task has its stack among these
    pub has_stack : (t : ℕ) → t < n → HasStack tasks all offsets t
    has_stack t l =
        let f = fits t l in
        let i = (inside t l).1 in
        record { there = there t l; below = omega (arith, f); short = omega (arith, i) }

    apart_at : (j k : ℕ) → j < length all → k < length all → j ≢ k → IsBelow (get_or all j no_extent) (get_or all k no_extent) ⊎ IsBelow (get_or all k no_extent) (get_or all j no_extent)
    apart_at j k lj lk ne = ⊎_elim
        (λ l. inl (apart.apart j k no_extent l lk))
        (λ l. inr (apart.apart k j no_extent (omega (arith, l, ne)) lj))
        (cases_lt j k)

    -- ---- a map with these

    module _ (plan : Map) (is : AreStacksBefore tasks all offsets n plan.stacks plan.tops) (all_is : all_stacks plan ≡ all) (behind : ℕ)
        (run_is : all ≡ run 16 behind lengths) (data_is : address_behind_data plan ≡ behind) where
      stack_is : (t : ℕ) → t < n → stack_of plan t ≡ own t
      stack_is t l = is.stack t l

      base_is : (t : ℕ) → t < n → (stack_of plan t).base ≡ (own t).base
      base_is t l = ap (λ (e : Extent). e.base) (stack_is t l)

      len_of : (t : ℕ) → t < n → (stack_of plan t).len ≡ (own t).len
      len_of t l = ap (λ (e : Extent). e.len) (stack_is t l)

      top_is : (t : ℕ) → t < n → top_of plan t + offset_of offsets t ≡ (own t).base + (own t).len
      top_is t l = is.top t l

      -- the parts of tasks in different stacks
      other : (t u : ℕ) → t < n → u < n → stack_number tasks t ≢ stack_number tasks u → PartsApart bounds plan t u
      other t u lt lu ne =
          let ft = fits t lt in
          let fu = fits u lu in
          let et = top_is t lt in
          let eu = top_is u lu in
          ⊎_elim
          (λ (b : IsBelow (own t) (own u)). inl (omega (arith, b, ft, fu, et, eu)))
          (λ (b : IsBelow (own u) (own t)). inr (omega (arith, b, ft, fu, et, eu)))
          (apart_at (stack_number tasks t) (stack_number tasks u) (there t lt) (there u lu) ne)

      -- the same end of both parts' stack
      same_end : (t u : ℕ) → IsBasic config t → IsBasic config u → top_of plan t + offset_of offsets t ≡ top_of plan u + offset_of offsets u
      same_end t u bt bu =
          let P : ℕ → Type 0 = λ k. (get_or all (stack_number tasks t) no_extent).base + (get_or all (stack_number tasks t) no_extent).len ≡ (get_or all k no_extent).base + (get_or all k no_extent).len in
          let e : (own t).base + (own t).len ≡ (own u).base + (own u).len = subst P (number_shared tasks t bt.1 ∙ sym (number_shared tasks u bu.1)) refl in
          top_is t bt.0 ∙ e ∙ sym (top_is u bu.0)

      over : (t u : ℕ) → IsBasic config t → IsBasic config u → MayBePreempted config app u → (declaration config u).priority < (declaration config t).priority
          → top_of plan t + bytes_of bounds u ≤ top_of plan u
      over t u bt bu may less =
          let b = needs.parts.below t u bt bu may less in
          let e = same_end t u bt bu in
          omega (arith, b, e)

      meet : (t u : ℕ) → t < n → u < n → t ≢ u → MayMeet config app t u → PartsApart bounds plan t u
      meet t u lt lu ne may = by (is_extended tasks t) refl (is_extended tasks u) refl may
        where
          by : (a : Bool) → is_extended tasks t ≡ a → (b : Bool) → is_extended tasks u ≡ b → MayMeet config app t u → PartsApart bounds plan t u
          by true e b f m = other t u lt lu (differ tasks t u lt lu ne e)
          by false e true f m = other t u lt lu (λ same. differ tasks u t lu lt (λ x. ne (sym x)) f (sym same))
          by false e false f (waits x) = clash (sym x ∙ e)
          by false e false f (meets_waiting x) = clash (sym x ∙ f)
          by false e false f (is_over may less) = inl (over t u (lt, e) (lu, f) may less)
          by false e false f (is_under may less) = inr (over u t (lu, f) (lt, e) may less)

      -- the parts of all tasks have room, and two that may be in use at once are apart
      pub has_stacks : HasStacks config app bounds plan
      has_stacks = record {
        count = is.stacks_count;
        tops = is.tops_count;
        shared = λ t u bt bu.
            stack_is t bt.0 ∙ ap (λ k. get_or all k no_extent) (number_shared tasks t bt.1 ∙ sym (number_shared tasks u bu.1)) ∙ sym (stack_is u bu.0);
        shared_long = λ t basic. len_of t basic.0 ∙ shared_len t basic;
        own_long = λ t l e. len_of t l ∙ own_len t l e;
        own = λ t u lt lu ne e.
            let P : Extent → Type 0 = λ x. IsBelow x (stack_of plan u) ⊎ IsBelow (stack_of plan u) x in
            let Q : Extent → Type 0 = λ x. IsBelow (own t) x ⊎ IsBelow x (own t) in
            subst P (sym (stack_is t lt)) (subst Q (sym (stack_is u lu)) (apart_at (stack_number tasks t) (stack_number tasks u) (there t lt) (there u lu) (differ tasks t u lt lu ne e)));
        aligned = λ k d l.
            let c = is.stacks_count in
            let k_below : k < n = omega (arith, c, l) in
            let a = aligned (stack_number tasks k) no_extent (there k k_below) in
            let b = base_is k k_below in
            let s = ap (λ (e : Extent). e.base) (get_or_default plan.stacks k no_extent d l) in
            omega (arith, a, b, s);
        placed = all_is ∙ run_is ∙ ap (λ k. run 16 k lengths) (sym data_is) ∙ ap (run 16 (address_behind_data plan)) are.is;
        number = λ t l. stack_is t l ∙ sym (ap (λ (l : List Extent). get_or l (stack_number tasks t) no_extent) all_is);
        among = λ t l.
            let same = ap length all_is in
            let b = there t l in
            (stack_number tasks t, omega (arith, same, b), stack_is t l ∙ sym (ap (λ (l : List Extent). get_or l (stack_number tasks t) no_extent) all_is));
        no_other = λ k l.
            let c = count in
            let same = ap length all_is in
            let f = found tasks k (omega (arith, c, same, l)) in
            (f.0, f.1, stack_is f.0 f.1 ∙ ap (λ j. get_or all j no_extent) f.2 ∙ sym (ap (λ (l : List Extent). get_or l k no_extent) all_is));
        above = λ t l. let f = fits t l in let e = top_is t l in let b = base_is t l in omega (arith, f, e, b);
        within = λ t l. let e = top_is t l in let b = base_is t l in let m = len_of t l in omega (arith, e, b, m);
        whole = λ t l.
            let e = top_is t l in
            let w = whole t l in
            let a = aligned (stack_number tasks t) no_extent (there t l) in
            let o = needs.parts.words t in
            omega (arith, e, w, a, o);
        apart = meet;
        nested = over;
      }

-- ---- as the calls give them

-- the extents behind the third
behind_three : (from end : ℕ) (words code data_extent : Extent) (extents all : List Extent) → extents ≡ words ∷ code ∷ data_extent ∷ all → AreApartWithin from end extents
    → AreApartWithin from end all
behind_three from end words code data_extent extents all is apart =
    let h = subst (AreApartWithin from end) is apart in
    record {
      apart = λ i j d l m. h.apart (suc (suc (suc i))) (suc (suc (suc j))) d (omega (arith, l)) (omega (arith, m));
      inside = λ k d l. h.inside (suc (suc (suc k))) d (omega (arith, l));
    }

-- what the calls give: the lengths, and the stacks behind the data
pub record ArePlaced (config : Config) (bounds : Bounds) (declared : List TaskDecl) (lengths : List ℕ) (extents all : List Extent) : Type 0 where
  pub declared_is : declared ≡ config.tasks
  pub are : AreStackLengths declared bounds (length declared) lengths
  pub words : Extent
  pub code : Extent
  pub data_extent : Extent
  pub extents_are : extents ≡ words ∷ code ∷ data_extent ∷ all
  pub apart : AreApartWithin words_base memory_end extents
  pub lens : map (λ (e : Extent). e.len) all ≡ lengths
  pub run_is : all ≡ run 16 (data_extent.base + data_extent.len) lengths
  pub aligned : All (λ (e : Extent). e.base % 16 ≡ 0) all

module _ (config : Config) (app : App) (bounds : Bounds) (offsets : List ℕ) (needs : AreNeeds config app bounds offsets) (declared : List TaskDecl) (lengths : List ℕ) (extents all : List Extent)
    (h : ArePlaced config bounds declared lengths extents all) (slice : List Extent) (slice_is : slice ≡ all) where
  are : AreStackLengths config.tasks bounds (length config.tasks) lengths
  are = subst (λ (l : List TaskDecl). AreStackLengths l bounds (length l) lengths) h.declared_is h.are

  apart : AreApartWithin words_base memory_end all
  apart = behind_three words_base memory_end h.words h.code h.data_extent extents all h.extents_are h.apart

  -- each task has its stack among those that are placed
  pub fit : (t : ℕ) → t < length declared → HasStack declared slice offsets t
  fit =
      subst (λ (l : List TaskDecl). (t : ℕ) → t < length l → HasStack l slice offsets t) (sym h.declared_is)
      (subst (λ (x : List Extent). (t : ℕ) → t < length config.tasks → HasStack config.tasks x offsets t) (sym slice_is)
      (has_stack config app bounds offsets needs words_base lengths all are h.lens apart h.aligned))

  -- so a map with these has the stacks of all tasks
  pub placed : (plan : Map) → AreStacksBefore declared slice offsets (length declared) plan.stacks plan.tops → all_stacks plan ≡ all → data_zone plan ≡ h.data_extent
      → HasStacks config app bounds plan
  placed plan is all_is data_is =
      has_stacks config app bounds offsets needs words_base lengths all are h.lens apart h.aligned plan
      (subst (λ (x : List Extent). AreStacksBefore config.tasks x offsets (length config.tasks) plan.stacks plan.tops) slice_is
      (subst (λ (l : List TaskDecl). AreStacksBefore l slice offsets (length l) plan.stacks plan.tops) h.declared_is is))
      all_is (h.data_extent.base + h.data_extent.len) h.run_is (ap (λ (e : Extent). e.base + e.len) data_is)
