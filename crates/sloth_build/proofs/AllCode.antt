-- All routines of an image are gathered.
use Rattle.std.proofs.Common.{◌≡◌, ◌≤◌, ◌<◌, ◌+◌, ◌%◌, ℕ, zero, suc, Bool, true, false, List, [], ◌∷◌, ◌++◌, length, get_or, refl, sym, ap, ◌∙◌, subst, inl, inr, arith}
use Rattle.std.specs.Prelude.{All, Contains, slice_index}
use Rattle.std.specs.List.{AllZip}
use Rattle.std.proofs.lemmas.List.{append_assoc, length-append}
use Rattle.std.proofs.lemmas.Slice.Zip.{AllZip-long}
use Rattle.std.proofs.lemmas.List.Sums.{sum-map}
use Rattle.std.proofs.lemmas.List.Elements.{All-nil, All-cons, All-append, Contains-get_or, Contains-append_left, Contains-append_right}
use Rattle.std.proofs.lemmas.Option.{same_Some}
use Rattle.sloth_base.specs.ImageRange.{AreFields, service_limit}
use Rattle.sloth_base.specs.Named.{function, no_function, no_item, operation}
use Rattle.sloth_base.proofs.Services.{of_code}
use Rattle.sloth_base.specs.ServiceCodes.{code_of, service_of}
use Rattle.sloth_base.specs.declared.app.App.{App}
use Rattle.sloth_base.specs.declared.app.Call.{Call}
use Rattle.sloth_base.specs.declared.app.Func.{Func}
use Rattle.sloth_base.specs.declared.app.Op.{Op}
use Rattle.sloth_base.specs.declared.app.Op.TheVariants as op
use Rattle.sloth_base.specs.declared.config.Config.{Config}
use Rattle.sloth_base.specs.declared.image.Mark.{Mark}
use Rattle.sloth_base.specs.declared.limits.Levels.{Levels}
use Rattle.sloth_base.specs.declared.service.Service.{Service}
use Rattle.sloth_base.specs.declared.service.Service.TheVariants as service
use Rattle.sloth_region.specs.declared.region.Map.{Map}
use Rattle.code_rules.specs.AppRange.{IsOp, IsRegister}
use Rattle.rv32_instr.specs.declared.InstrKind.{InstrKind}
use Rattle.rv32_instr.specs.declared.block.Block.{Block}
use Rattle.rv32_expand.specs.Expansion.{block_address}
use Rattle.rv32_expand.specs.InPlace.{IsAppItem, item_mark, mark_kind, mark_number}
use Rattle.rv32_expand.specs.Sizes.{items_before}
use Rattle.service_gen.specs.TaskBlock.{further_marks}
use Rattle.block_parts.specs.Marks.{opening, back_mark}
use Rattle.service_gen.specs.Calls.{IsAnyServiceBlock}
use Rattle.service_gen.specs.Schedule.{way_back}
use Rattle.sloth_base.specs.Arithmetic.{sum32}
use Rattle.sloth_base.specs.Blocks.{block_number, block_code, block_object}
use Rattle.sloth_base.specs.MemoryMap.{vectors_base, boot_base, line_count}
use Rattle.vector_gen.specs.Boot.{IsBootCode}
use Rattle.vector_gen.specs.Idle.{IsIdleCode, idle_mark}
use Rattle.vector_gen.specs.Vectors.{AreJumps}
use Rattle.mem_map.proofs.Bounds.{before_all}
use Rattle.mem_map.proofs.Wanting.{all_places}
use Rattle.mem_map.specs.Starts.{code_byte_count}
use Rattle.mem_map.specs.Plan.{code_end, code_extents, idle_bytes}
use Rattle.mem_map.specs.Wanted.{wanted_blocks}
use Rattle.sim_laws.specs.GeneratedZones.{HasBlockWith, HasCode, HasItemBlocks}
use Rattle.sim_laws.specs.Rooms.{FitRooms, FitsRoom, FollowClosely}
use Rattle.sim_laws.proofs.Housed.{blocks_follow_closely}
use Rattle.sloth_build.specs.Gathered.{MayGenerate, IsGathered, IsInFormat, MarksInFormat}
use Rattle.sloth_link.specs.Image.{all_blocks}
use Rattle.sloth_link.specs.Items.{HaveItems, IsOwnMark, MarksAreOfItems, item_block, item_blocks}
use Rattle.sloth_link.proofs.ItemBlocks.{item_among, items_own}
use Rattle.sloth_link.proofs.Joined.{front}
use Rattle.sloth_build.specs.Prologues.{Each, IsPrologue}
use Rattle.sloth_build.specs.Ticks.{IsTickBlock}
use Rattle.sloth_build.specs.Services.{AreServices, IsService, wanted_services_from}
use Rattle.sloth_build.proofs.Called.{called_with, calls, in_marks}
use Rattle.sloth_build.proofs.Places.{code_found}
use Rattle.sloth_link.proofs.Counting.{Located, few_items, located, block_at, length_blocks}
use Rattle.sloth_build.proofs.Each.{zip_append}
use Rattle.sloth_build.proofs.Rooming.{none, plain, marked, prologues_fit, ticks_fit, services_fit, items_fit}

-- ---- services by their numbers

-- a wanted one is there
found : (R : ℕ → Block → Type 0) (n : ℕ) (wanted : List Bool) (blocks : List Block) (k : ℕ) → get_or wanted k false ≡ true → AllZip R (wanted_services_from n wanted) blocks
    → (block : Block) × Contains blocks block × R (n + k) block
found R n [] blocks zero e h = absurd cc
found R n [] blocks (suc k) e h = absurd cc
found R n (true ∷ wanted) [] k e h = absurd h
found R n (true ∷ wanted) (b ∷ blocks) zero e h = let same : n ≡ n + 0 = omega arith in (b, (0, omega arith, refl), subst (λ m. R m b) same h.0)
found R n (true ∷ wanted) (b ∷ blocks) (suc k) e h =
    let r = found R (n + 1) wanted blocks k e h.1 in
    let same : (n + 1) + k ≡ n + suc k = omega arith in
    (r.0, Contains-append_right (b ∷ []) blocks r.0 r.1, subst (λ m. R m r.0) same r.2)
found R n (false ∷ wanted) blocks zero e h = absurd cc
found R n (false ∷ wanted) blocks (suc k) e h =
    let r = found R (n + 1) wanted blocks k e h in
    let same : (n + 1) + k ≡ n + suc k = omega arith in
    (r.0, r.1, subst (λ m. R m r.0) same r.2)

-- what is so place by place is so at each place
zip_at : {A B : Type 0} (R : A → B → Type 0) (xs : List A) (ys : List B) (k : ℕ) (d : A) (e : B) → AllZip R xs ys → k < length xs → R (get_or xs k d) (get_or ys k e)
zip_at R [] ys k d e h l = absurd (omega (arith, l))
zip_at R (x ∷ xs) [] k d e h l = absurd h
zip_at R (x ∷ xs) (y ∷ ys) zero d e h l = h.0
zip_at R (x ∷ xs) (y ∷ ys) (suc k) d e h l = zip_at R xs ys k d e h.1 (omega (arith, l))

pub even_at : (xs : List ℕ) (k : ℕ) → All (λ address. address % 4 ≡ 0) xs → get_or xs k 0 % 4 ≡ 0
even_at [] zero h = refl
even_at [] (suc k) h = refl
even_at (x ∷ xs) zero h = h 0 0 (omega arith)
even_at (x ∷ xs) (suc k) h = even_at xs k (λ j d l. h (suc j) d (omega (arith, l)))

-- ---- marks

pub zip_all : {A B : Type 0} (R : A → B → Type 0) (P : B → Type 0) (xs : List A) (ys : List B) → ((x : A) (y : B) → R x y → P y) → AllZip R xs ys → All P ys
zip_all R P [] [] f h = All-nil P
zip_all R P [] (y ∷ ys) f h = absurd h
zip_all R P (x ∷ xs) [] f h = absurd h
zip_all R P (x ∷ xs) (y ∷ ys) f h = All-cons P y ys (f x y h.0) (zip_all R P xs ys f h.1)

wanted_long : (n : ℕ) (wanted : List Bool) → length (wanted_services_from n wanted) ≤ length wanted
wanted_long n [] = omega arith
wanted_long n (true ∷ wanted) = let h = wanted_long (n + 1) wanted in omega (arith, h)
wanted_long n (false ∷ wanted) = let h = wanted_long (n + 1) wanted in omega (arith, h)

-- ---- the fields of marks

small_register : (r : ℕ) → IsRegister r → r < 32
small_register r (inl e) = omega (arith, e)
small_register r (inr h) = let a = h.1 in omega (arith, a)

fields_of : (config : Config) (app : App) (f : Func) (o : Op) (limit functions func index : ℕ) → IsOp config app f o → func < functions → index ≤ 4095
    → ((call : Call) → o ≡ op.Serve call → code_of call.service < limit) → AreFields limit functions (mark_kind o) (mark_number o) func index
fields_of config app f (op.Alu k rd a b) c n func index h l m called = (small_register rd h.0, l, m)
fields_of config app f (op.AluImm k rd a number) c n func index h l m called = (small_register rd h.0, l, m)
fields_of config app f (op.Lui rd number) c n func index h l m called = (small_register rd h.0, l, m)
fields_of config app f (op.Li rd value) c n func index h l m called = (small_register rd h.0, l, m)
fields_of config app f (op.FrameLoad rd word) c n func index h l m called = (small_register rd h.0, l, m)
fields_of config app f (op.FrameStore rs word) c n func index h l m called = (small_register rs h.0, l, m)
fields_of config app f (op.Load w rd y offset) c n func index h l m called = (small_register rd h.0, l, m)
fields_of config app f (op.Store w rs y offset) c n func index h l m called = (small_register rs h.1, l, m)
fields_of config app f (op.LoadAt w rd y i mask) c n func index h l m called = (small_register rd h.0, l, m)
fields_of config app f (op.StoreAt w rs y i mask) c n func index h l m called = (small_register rs h.1, l, m)
fields_of config app f (op.Branch k a b label) c n func index h l m called = (omega arith, l, m)
fields_of config app f (op.Jump label) c n func index h l m called = (omega arith, l, m)
fields_of config app f (op.Invoke callee) c n func index h l m called = (omega arith, l, m)
fields_of config app f op.Return c n func index h l m called = (omega arith, l, m)
fields_of config app f (op.Serve call) c n func index h l m called = (called call refl, l, m)

-- a fact on the marks behind the opening, of which there is one alone
by_further : (P : Mark → Type 0) (s : Service) (at : ℕ) → P (back_mark (sum32 at way_back)) → All P (further_marks s at)
by_further P service.Schedule at back = All-cons P (back_mark (sum32 at way_back)) [] back (All-nil P)
by_further P service.ActivateTask at back = All-nil P
by_further P s at back = All-nil P

module _ (config : Config) (app : App) (levels : Levels) (map : Map) (may : MayGenerate config app levels map) where
  -- those of services
  served_format : (served : List Block) → AreServices config levels map (wanted_blocks app) served → All (MarksInFormat config app) served
  served_format served serve = λ k d l.
      let numbers : List ℕ = wanted_services_from 0 (wanted_blocks app) in
      let long = AllZip-long (IsService config levels map) numbers served serve in
      let h = zip_at (IsService config levels map) numbers served k 0 d serve (omega (arith, l, long)) in
      let b : Block = get_or served k d in
      let P : List Mark → Type 0 = λ marks. All (IsInFormat config app) marks in
      let n : ℕ = get_or numbers k 0 in
      let found = code_found (block_code n) h.service h.is in
      let code = in_marks config may.well_formed.in_range.configuration h.service (block_object n) h.called_with in
      let at = h.at in
      let even = blocks_even n in
      subst P (sym h.marks) (All-cons (IsInFormat config app) (opening b.at (block_code n)) (further_marks h.service b.at)
      (omega (arith, at, even), (omega (arith, code, found), refl, refl))
      (by_further (IsInFormat config app) h.service b.at (omega (arith, at, even), (refl, refl, refl))))
    where
      blocks_even : (k : ℕ) → slice_index map.places.blocks k % 4 ≡ 0
      blocks_even k = even_at map.places.blocks k may.planned.zones.blocks_aligned

-- A block at this address, with these marks, whose code does this.
pub record IsMade (address : ℕ) (marks : List Mark) (Effect : List InstrKind → Type 0) (block : Block) : Type 0 where
  pub at : block.at ≡ address
  pub marks_are : block.marks ≡ marks
  pub effect : Effect block.code

-- All blocks of an image, each made as it should be: the vectors, boot, the idle loop, a prologue for each task, a tick for each counter, the
-- services that are called, and the items.
pub record AreMade (config : Config) (app : App) (levels : Levels) (map : Map) (vectors boot idle : Block) (starts counted served own : List Block) : Type 0 where
  pub vectors_made : IsMade vectors_base [] (AreJumps line_count map.handlers) vectors
  pub boot_made : IsMade boot_base [] (IsBootCode config.tasks (length config.counters) levels.task levels.top map.idle) boot
  pub idle_made : IsMade map.idle (idle_mark map.idle ∷ []) IsIdleCode idle
  pub count : length starts ≡ length config.tasks
  pub each : Each (IsPrologue config app levels map) starts
  pub counted_long : length counted ≡ length config.counters
  pub each_tick : Each (IsTickBlock config map) counted
  pub serve : AreServices config levels map (wanted_blocks app) served
  pub items : own ≡ item_blocks app map.places (length app.funcs)

module _ (config : Config) (app : App) (levels : Levels) (map : Map) (may : MayGenerate config app levels map)
    (vectors boot idle : Block) (starts counted served own : List Block) (made : AreMade config app levels map vectors boot idle starts counted served own) where
  abbrev wanted : List Bool
  wanted = wanted_blocks app

  abbrev all : List Block
  all = vectors ∷ boot ∷ idle ∷ (starts ++ (counted ++ (served ++ own)))

  in_starts : (b : Block) → Contains starts b → Contains all b
  in_starts b c = Contains-append_right (vectors ∷ boot ∷ idle ∷ []) (starts ++ (counted ++ (served ++ own))) b (Contains-append_left starts (counted ++ (served ++ own)) b c)

  in_counted : (b : Block) → Contains counted b → Contains all b
  in_counted b c =
      Contains-append_right (vectors ∷ boot ∷ idle ∷ []) (starts ++ (counted ++ (served ++ own))) b
      (Contains-append_right starts (counted ++ (served ++ own)) b (Contains-append_left counted (served ++ own) b c))

  in_served : (b : Block) → Contains served b → Contains all b
  in_served b c =
      Contains-append_right (vectors ∷ boot ∷ idle ∷ []) (starts ++ (counted ++ (served ++ own))) b
      (Contains-append_right starts (counted ++ (served ++ own)) b (Contains-append_right counted (served ++ own) b (Contains-append_left served own b c)))

  in_own : (b : Block) → Contains own b → Contains all b
  in_own b c =
      Contains-append_right (vectors ∷ boot ∷ idle ∷ []) (starts ++ (counted ++ (served ++ own))) b
      (Contains-append_right starts (counted ++ (served ++ own)) b (Contains-append_right counted (served ++ own) b (Contains-append_right served own b c)))

  has_service : (func item : ℕ) (call : Call) → IsAppItem app func item → operation app func item ≡ op.Serve call
      → HasBlockWith all (block_address map.places call.service call.object)
      (opening (block_address map.places call.service call.object) (code_of call.service) ∷ further_marks call.service (block_address map.places call.service call.object))
      (IsAnyServiceBlock config call.service call.object levels)
  has_service func item call is e =
      let c = calls config app may.well_formed func item call is e in
      let number : ℕ = block_number call.service call.object in
      let small = c.0 in
      let r = found (IsService config levels map) 0 wanted served number c.1 made.serve in
      let same : 0 + number ≡ number = omega arith in
      let h : IsService config levels map number r.0 = subst (λ n. IsService config levels map n r.0) same r.2 in
      let code : block_code number ≡ code_of call.service = omega (arith, small) in
      let object : block_object number ≡ call.object = omega (arith, small) in
      let its : h.service ≡ call.service = same_Some h.service call.service (sym h.is ∙ ap service_of code ∙ of_code call.service) in
      let place : r.0.at ≡ block_address map.places call.service call.object = h.at in
      let P : Service → Type 0 = λ s. IsAnyServiceBlock config s (block_object number) levels r.0.code in
      let Q : ℕ → Type 0 = λ n. IsAnyServiceBlock config call.service n levels r.0.code in
      record {
        block = r.0;
        among = in_served r.0 r.1;
        at = place;
        marks_are =
            h.marks ∙ ap (λ v. opening r.0.at (block_code number) ∷ further_marks v r.0.at) its
            ∙ ap (λ n. opening r.0.at n ∷ further_marks call.service r.0.at) code ∙ ap (λ n. opening n (code_of call.service) ∷ further_marks call.service n) place;
        does = subst Q object (subst P its h.serves);
      }

  has_code : HasCode config app levels map all
  has_code = record {
    vectors = record { block = vectors; among = (0, omega arith, refl); at = made.vectors_made.at; marks_are = made.vectors_made.marks_are; does = made.vectors_made.effect };
    boot = record { block = boot; among = (1, omega arith, refl); at = made.boot_made.at; marks_are = made.boot_made.marks_are; does = made.boot_made.effect };
    idle = record { block = idle; among = (2, omega arith, refl); at = made.idle_made.at; marks_are = made.idle_made.marks_are; does = made.idle_made.effect };
    prologues = λ t l.
        let m : t < length starts = omega (arith, made.count, l) in
        let p = made.each t none m in
        record { block = get_or starts t none; among = in_starts (get_or starts t none) (Contains-get_or starts t none m); at = p.at; marks_are = p.marks; does = p.enters };
    ticks = λ k l.
        let m : k < length counted = omega (arith, made.counted_long, l) in
        let t = made.each_tick k none m in
        record { block = get_or counted k none; among = in_counted (get_or counted k none) (Contains-get_or counted k none m); at = t.at; marks_are = t.marks; does = t.is_tick };
    services = has_service;
  }

  have_items : HaveItems app map.places all
  have_items func index is =
      in_own (item_block app map.places func index)
      (subst (λ bs. Contains bs (item_block app map.places func index)) (sym made.items) (item_among app map.places func index is))

  without : (b : Block) → b.marks ≡ [] → MarksAreOfItems app map.places b
  without b e = subst (All (IsOwnMark app map.places)) (sym e) (All-nil (IsOwnMark app map.places))

  with_one : (b : Block) (m : Mark) → b.marks ≡ m ∷ [] → IsOwnMark app map.places m → MarksAreOfItems app map.places b
  with_one b m e o = subst (All (IsOwnMark app map.places)) (sym e) (All-cons (IsOwnMark app map.places) m [] o (All-nil (IsOwnMark app map.places)))

  each_block : (P : Block → Type 0) → P vectors → P boot → P idle → All P starts → All P counted → All P served → All P own → All P all
  each_block P v b i s t r o =
      All-cons P vectors (boot ∷ idle ∷ (starts ++ (counted ++ (served ++ own)))) v
      (All-cons P boot (idle ∷ (starts ++ (counted ++ (served ++ own)))) b
      (All-cons P idle (starts ++ (counted ++ (served ++ own))) i (All-append P starts (counted ++ (served ++ own)) s (All-append P counted (served ++ own) t (All-append P served own r o)))))

  all_own : All (MarksAreOfItems app map.places) all
  all_own =
      each_block (MarksAreOfItems app map.places) (without vectors made.vectors_made.marks_are) (without boot made.boot_made.marks_are) (with_one idle (idle_mark map.idle) made.idle_made.marks_are tt)
      (λ k d l. without (get_or starts k d) (made.each k d l).marks)
      (λ k d l. without (get_or counted k d) (made.each_tick k d l).marks)
      (zip_all (IsService config levels map) (MarksAreOfItems app map.places) (wanted_services_from 0 wanted) served
      (λ n b h. subst (All (IsOwnMark app map.places)) (sym h.marks)
      (All-cons (IsOwnMark app map.places) (opening b.at (block_code n)) (further_marks h.service b.at) tt (by_further (IsOwnMark app map.places) h.service b.at tt))) made.serve)
      (subst (All (MarksAreOfItems app map.places)) (sym made.items) (items_own app map.places))

  -- ---- the format of images

  abbrev InFormat : Mark → Type 0
  InFormat = IsInFormat config app

  no_mark : (b : Block) → b.marks ≡ [] → MarksInFormat config app b
  no_mark b e = subst (All InFormat) (sym e) (All-nil InFormat)

  one_mark : (b : Block) (m : Mark) → b.marks ≡ m ∷ [] → InFormat m → MarksInFormat config app b
  one_mark b m e o = subst (All InFormat) (sym e) (All-cons InFormat m [] o (All-nil InFormat))

  item_format : (func index : ℕ) → IsAppItem app func index → MarksInFormat config app (item_block app map.places func index)
  item_format func index is =
      let word = may.planned.covers.items func index is in
      let few = few_items app (config, may.well_formed) func is.declared in
      let inside = is.inside in
      let own = (may.well_formed.in_range.bodies func no_function is.declared).items index no_item is.inside in
      one_mark (item_block app map.places func index) (item_mark app map.places func index) refl (
        (let even = word.2 in omega (arith, even)),
        fields_of config app (function app func) (operation app func index) (service_limit (length config.counters)) (length app.funcs) func index own is.declared (omega (arith, few, inside))
            (λ call e. in_marks config may.well_formed.in_range.configuration call.service call.object (called_with config app may.well_formed func index call is e)),
      )

  items_format : All (MarksInFormat config app) (item_blocks app map.places (length app.funcs))
  items_format = λ k d l.
      let long = length_blocks app map.places (length app.funcs) in
      let at : Located app.funcs (length app.funcs) k = located app.funcs (length app.funcs) k (omega (arith, l, long)) in
      let block : get_or (item_blocks app map.places (length app.funcs)) k d ≡ item_block app map.places at.func at.index =
      ap (λ j. get_or (item_blocks app map.places (length app.funcs)) j d) at.is ∙ block_at app map.places (length app.funcs) at.func at.index d at.declared at.inside in
      subst (MarksInFormat config app) (sym block) (item_format at.func at.index (record { declared = at.declared; inside = at.inside }))

  all_format : All (MarksInFormat config app) all
  all_format =
      let even = may.planned.zones.idle_aligned in
      each_block (MarksInFormat config app) (no_mark vectors made.vectors_made.marks_are) (no_mark boot made.boot_made.marks_are) (one_mark idle (idle_mark map.idle) made.idle_made.marks_are (even, (refl, refl, refl)))
      (λ k d l. no_mark (get_or starts k d) (made.each k d l).marks)
      (λ k d l. no_mark (get_or counted k d) (made.each_tick k d l).marks)
      (served_format config app levels map may served made.serve)
      (subst (All (MarksInFormat config app)) (sym made.items) items_format)

  few_blocks : length all ≤ 8192
  few_blocks =
      let few = may.well_formed.in_range.configuration.few_tasks in
      let numbers = all_places app in
      let wanted_few = wanted_long 0 wanted in
      let served_long = AllZip-long (IsService config levels map) (wanted_services_from 0 wanted) served made.serve in
      let own_long : length own ≡ items_before app.funcs (length app.funcs) = ap length made.items ∙ length_blocks app map.places (length app.funcs) in
      let total = before_all app.funcs in
      let sum = sum-map (λ (f : Func). length f.items) app.funcs in
      let most = may.well_formed.in_range.limits.few_items in
      let rest = length-append starts (counted ++ (served ++ own)) in
      let middle = length-append counted (served ++ own) in
      let counters = may.well_formed.in_range.configuration.few_counters in
      let last = length-append served own in
      omega (arith, few, numbers, wanted_few, served_long, own_long, total, sum, most, rest, middle, last, counters, made.counted_long, made.count)

  rooms : FitRooms (code_extents map (length config.tasks) may.planned.lengths) all
  rooms =
      let many = made.vectors_made.effect.many in
      let few = made.boot_made.effect.size in
      let told = may.planned.are_lengths.boot in
      let word = made.idle_made.effect.word in
      let is = may.planned.addresses.idle in
      let even = may.planned.zones.idle_aligned in
      let first = plain (record { base = vectors_base; len = 128 }) vectors made.vectors_made.at (omega arith) refl (omega (arith, many)) made.vectors_made.marks_are in
      let second = plain (record { base = boot_base; len = code_byte_count may.planned.lengths.boot }) boot made.boot_made.at (omega arith) refl (omega (arith, few, told)) made.boot_made.marks_are in
      let third = marked (record { base = map.idle; len = idle_bytes }) idle (idle_mark map.idle) made.idle_made.at (omega (arith, is)) even (omega (arith, word)) made.idle_made.marks_are
      (omega (arith, made.idle_made.at)) (omega (arith, made.idle_made.at, word)) in
      let rest = zip_append FitsRoom _ starts _ (counted ++ (served ++ own)) (prologues_fit config app levels map may starts made.count made.each)
      (zip_append FitsRoom _ counted _ (served ++ own) (ticks_fit config app levels map may counted made.counted_long made.each_tick)
      (zip_append FitsRoom _ served _ own (services_fit config app levels map may served made.serve)
      (subst (FitRooms _) (sym made.items) (items_fit config app levels map may)))) in
      (first, (second, (third, rest)))

  pub gathered : (blocks : List Block) → blocks ≡ ((vectors ∷ boot ∷ idle ∷ starts) ++ counted) ++ served → IsGathered config app levels map blocks
  gathered blocks e =
      let items : List Block = item_blocks app map.places (length app.funcs) in
      let same : all_blocks app map blocks ≡ all =
      ap (λ (bs : List Block). bs ++ items) e ∙ append_assoc ((vectors ∷ boot ∷ idle ∷ starts) ++ counted) served items
      ∙ append_assoc (vectors ∷ boot ∷ idle ∷ starts) counted (served ++ items)
      ∙ ap (λ (bs : List Block). vectors ∷ boot ∷ idle ∷ (starts ++ (counted ++ (served ++ bs)))) (sym made.items) in
      record {
        code = subst (HasCode config app levels map) (sym same) has_code;
        items = subst (HasItemBlocks config app map.places) (sym same)
            (record { well_formed = may.well_formed; agree = may.planned.agree; items = have_items; own = all_own });
        routines = front (MarksAreOfItems app map.places) blocks items (subst (All (MarksAreOfItems app map.places)) (sym same) all_own);
        bounds = may.bounds;
        are_bounds = may.are_bounds;
        planned = may.planned;
        rooms = subst (FitRooms (code_extents map (length config.tasks) may.planned.lengths)) (sym same) rooms;
        close = subst (FollowClosely vectors_base (code_end may.planned.lengths)) (sym same)
            (blocks_follow_closely vectors_base (code_end may.planned.lengths) (code_extents map (length config.tasks) may.planned.lengths) all may.planned.code_close rooms);
        few = subst (λ (bs : List Block). length bs ≤ 8192) (sym same) few_blocks;
        format = subst (All (MarksInFormat config app)) (sym same) all_format;
      }
