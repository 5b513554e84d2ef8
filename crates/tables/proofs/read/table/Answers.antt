use Rattle.std.proofs.Common.{◌<◌, ◌≤◌, length, sym, refl, ap, ◌∙◌, arith}
use Rattle.std.proofs.lemmas.Bool.{ltb-true, ltb-false}
use Rattle.std.proofs.lemmas.Result.{err_from_is_err_and}
use Rattle.codec.specs.declared.fault.Refusal.TheVariants.{BytesOver}
use Rattle.lfpl.specs.Reading.{functions_of}
use Rattle.tables.specs.Listed.{names_for}
use Rattle.tables.proofs.Tabled.{types_refused, signatures_refused, bodies_refused, bytes_over, all_read, count_types, named}
use Rattle.tables.proofs.read.table.Goals as goal

pub returns-in_err-type_count : goal.returns-in_err-type_count
returns-in_err-type_count c z of =
    let p = err_from_is_err_and c.from_residual.result c.from_residual.ensures.1 in
    rw (p.1, p.2) (types_refused c.args.bytes.now c.args.cursor.now c.requires z of c.in_err-type_count.field-0.0 c.in_err-type_count.ensures.gives)

pub returns-in_err-function_count : goal.returns-in_err-function_count
returns-in_err-function_count c z of =
    let p = err_from_is_err_and c.from_residual-in_err-function_count.result c.from_residual-in_err-function_count.ensures.1 in
    let a = c.in_ok-type_count.ensures in
    let g = a.gives in
    let l = count_types c.types.new.slots c.in_ok-type_count.type_count g.0 g.2 (omega (arith, c.types.auto.slots, a.bound)) in
    rw (p.1, p.2) (signatures_refused c.args.bytes.now c.args.cursor.now c.requires z of g.0 g.1 c.in_err-function_count.field-0.0 (c.in_err-function_count.ensures.gives g.0 l))

pub returns-in_err-count : goal.returns-in_err-count
returns-in_err-count c z of =
    let p = err_from_is_err_and c.from_residual-in_err-count.result c.from_residual-in_err-count.ensures.1 in
    let a = c.in_ok-type_count.ensures in
    let g = a.gives in
    let l = count_types c.types.new.slots c.in_ok-type_count.type_count g.0 g.2 (omega (arith, c.types.auto.slots, a.bound)) in
    let f = c.in_ok-function_count.ensures.gives g.0 l in
    let k = named c.in_ok-type_count.type_count c.in_ok-function_count.function_count c.signatures.new.slots g.0 f.0 l f.2 in
    rw (p.1, p.2)
    (bodies_refused c.args.bytes.now c.args.cursor.now c.requires z of g.0 g.1 f.0 f.1 c.in_err-count.field-0.0 (c.in_err-count.ensures.gives (names_for g.0 f.0) k))

pub returns-then-is_within : goal.returns-then-is_within
returns-then-is_within c z of =
    let a = c.in_ok-type_count.ensures in
    let g = a.gives in
    let l = count_types c.types.new.slots c.in_ok-type_count.type_count g.0 g.2 (omega (arith, c.types.auto.slots, a.bound)) in
    let f = c.in_ok-function_count.ensures.gives g.0 l in
    let k = named c.in_ok-type_count.type_count c.in_ok-function_count.function_count c.signatures.new.slots g.0 f.0 l f.2 in
    let e = c.in_ok-count.ensures.gives (names_for g.0 f.0) k in
    let h : c.expressions.new.cursor.at < length c.args.bytes.now = omega (arith, c.place-place.ensures, ltb-true _ _ (sym c.if-is_within.ensures)) in
    bytes_over c.args.bytes.now c.args.cursor.now c.requires z of g.0 g.1 f.0 f.1 e.0 e.1 h c.fault.result
    (c.fault.ensures ∙ ap (λ n. record { refusal = BytesOver; place = n; part = c.expressions.new.cursor.part }) c.place-place.ensures)

pub returns : goal.returns
returns c z of =
    let a = c.in_ok-type_count.ensures in
    let g = a.gives in
    let l = count_types c.types.new.slots c.in_ok-type_count.type_count g.0 g.2 (omega (arith, c.types.auto.slots, a.bound)) in
    let b = c.in_ok-function_count.ensures in
    let f = b.gives g.0 l in
    let k = named c.in_ok-type_count.type_count c.in_ok-function_count.function_count c.signatures.new.slots g.0 f.0 l f.2 in
    let e = c.in_ok-count.ensures.gives (names_for g.0 f.0) k in
    let h : length c.args.bytes.now ≤ c.expressions.new.cursor.at = omega (arith, c.place-place.ensures, ltb-false _ _ (sym c.if-is_within.ensures)) in (
      record { types = g.0; functions = functions_of f.0 e.0 },
      c.expressions.new.cursor.at,
      all_read c.args.bytes.now c.args.cursor.now c.requires z of g.0 g.1 f.0 f.1 e.0 e.1 h,
      record {
        signatures = f.0;
        bodies = e.0;
        functions = refl;
        few_types = a.bound;
        few_functions = b.bound.0;
        few_nodes = c.in_ok-count.ensures.bound;
        types = g.2;
        sign = f.2;
        stand = e.2;
      },
    )
