use Rattle.std.proofs.Common.{◌≡◌, sym, ◌∙◌, ◌++◌, ap, drop, take, codes, arith, inl, inr}
use Rattle.std.proofs.lemmas.Bool.{true≢false}
use Rattle.image_file.specs.Fields.{four_bytes}
use Rattle.image_file.proofs.Failing.{none_unless}
use Rattle.image_file.proofs.Headers.{counted_before, counted_long, counted_magic, counted_stands, no_sizes, none_counted, plain_stands, sizes_with}
use Rattle.image_file.proofs.header.read_sizes.Goals as goal

pub returns-then-has_plain_magic-clause-none : goal.returns-then-has_plain_magic-clause-none
returns-then-has_plain_magic-clause-none c =
    let file = c.args.bytes.now in
    let magic = c.has_plain_magic.ensures.0 c.if-has_plain_magic.true in
    let t = c.read_u32 in
    let f = c.read_u32-then-has_plain_magic in
    let m = c.read_u32-then-has_plain_magic-2 in
    let k = c.read_u32-then-has_plain_magic-3 in
    rw c.then_some.ensures (none_unless c.are_within.result _ (λ wrong.
    no_sizes file (sizes_with t.result f.result 0 m.result k.result) (drop 24 file)
    (record { tasks = t.type_inv; funcs = f.type_inv; counters = omega arith; memory = m.type_inv; marks = k.type_inv })
    (plain_stands file t.result f.result m.result k.result magic t.ensures.stands f.ensures.stands m.ensures.stands k.ensures.stands)
    (λ fits. true≢false (sym (c.are_within.ensures.1 fits) ∙ wrong))))

pub returns-then-sizes-eq0-clause-none : goal.returns-then-sizes-eq0-clause-none
returns-then-sizes-eq0-clause-none c =
    let file = c.args.bytes.now in
    let magic = counted_magic file c.requires (λ plain. true≢false (sym (c.has_plain_magic.ensures.1 plain) ∙ c.if-has_plain_magic.false)) in
    let t = c.read_u32-2 in
    let f = c.read_u32-3 in
    let n = c.read_u32-4 in
    let m = c.read_u32-5 in
    let k = c.read_u32-6 in
    none_counted file t.result f.result (four_bytes m.result ++ (four_bytes k.result ++ drop 28 file)) t.type_inv f.type_inv
    (counted_stands file t.result f.result n.result m.result k.result magic t.ensures.stands f.ensures.stands n.ensures.stands m.ensures.stands k.ensures.stands
    ∙ ap (λ x. codes "SLOTHIM2" ++ (four_bytes t.result ++ (four_bytes f.result ++ (four_bytes x ++ (four_bytes m.result ++ (four_bytes k.result ++ drop 28 file))))))
    c.if-sizes-eq0.true)

pub returns-clause-none : goal.returns-clause-none
returns-clause-none c =
    let file = c.args.bytes.now in
    let magic = counted_magic file c.requires (λ plain. true≢false (sym (c.has_plain_magic.ensures.1 plain) ∙ c.if-has_plain_magic.false)) in
    let t = c.read_u32-2 in
    let f = c.read_u32-3 in
    let n = c.read_u32-4 in
    let m = c.read_u32-5 in
    let k = c.read_u32-6 in
    let some = c.if-sizes-eq0.false in
    rw c.then_some-2.ensures (none_unless c.are_within-2.result _ (λ wrong.
    no_sizes file (sizes_with t.result f.result n.result m.result k.result) (drop 28 file)
    (record { tasks = t.type_inv; funcs = f.type_inv; counters = n.type_inv; memory = m.type_inv; marks = k.type_inv })
    (counted_stands file t.result f.result n.result m.result k.result magic t.ensures.stands f.ensures.stands n.ensures.stands m.ensures.stands k.ensures.stands
    ∙ counted_before t.result f.result n.result m.result k.result (drop 28 file) some)
    (λ fits. true≢false (sym (c.are_within-2.ensures.1 fits) ∙ wrong))))
