use Rattle.std.proofs.Common.{◌≡◌, ◌<◌, [], ◌∷◌, ◌++◌, length, take, sym, refl, ◌∙◌, subst, arith, length-set, length-take}
use Rattle.std.proofs.lemmas.Result.{err_from_is_err_and}
use Rattle.std.proofs.lemmas.List.{take_more_set}
use Rattle.codec.specs.Reading.{within_at}
use Rattle.codec.proofs.Takings.{takes_break, takes_on, all, many_begins, many_again, many_breaks, many_ends}
use Rattle.lfpl.specs.Reading.{types_at}
use Rattle.tables.specs.Listed.{Types}
use Rattle.tables.proofs.Typed.{entry_each, types_is, no_types}
use Rattle.tables.proofs.types.types.Goals as goal

pub returns-in_err-count : goal.returns-in_err-count
returns-in_err-count c =
    let p = err_from_is_err_and c.from_residual.result c.from_residual.ensures.1 in
    rw (p.1, p.2)
    record {
      gives = takes_break (within_at 1 65) types_at (all entry_each) c.args.cursor.now (types_is _ _) c.within.new.self c.in_err-count.field-0.0 c.in_err-count.ensures.takes;
      bound = tt;
    }

pub loop-i-init : goal.loop-i-init
loop-i-init c = (c.requires, omega (arith, c.in_ok-count.ensures.bound), [], no_types, many_begins entry_each c.in_ok-count.field-0 c.within.new.self)

pub slice_bounds-entry-end : goal.slice_bounds-entry-end
slice_bounds-entry-end c = omega (arith, c.loop-i.invariant.0, c.loop-i.invariant.1, c.loop-i-test.true)

pub entry-requires : goal.entry-requires
entry-requires c = omega (arith, length-take c.loop-i.i c.loop-i.slots, c.loop-i.invariant.0, c.loop-i.invariant.1, c.loop-i-test.true)

pub bounds-slots-i : goal.bounds-slots-i
bounds-slots-i c = omega (arith, c.loop-i.invariant.0, c.loop-i.invariant.1, c.loop-i-test.true)

pub shape_of-slots : goal.shape_of-slots
shape_of-slots c = c.loop-i.invariant.0 ∙ sym c.requires

pub loop-i-preserved : goal.loop-i-preserved
loop-i-preserved c =
    let i = c.loop-i.i in
    let slots = c.loop-i.slots in
    let e = c.in_ok-slots.field-0 in
    let s = c.loop-i.invariant in
    let ts = s.2 in
    let l : i < length slots = omega (arith, s.0, s.1, c.loop-i-test.true) in
    let g = c.in_ok-slots.ensures ts s.3 in (
      length-set slots i e ∙ s.0,
      s.1,
      ts ++ g.0 ∷ [],
      subst (λ es. Types es (ts ++ g.0 ∷ [])) (sym (take_more_set slots i e l)) g.2,
      many_again entry_each c.in_ok-count.field-0 i ts c.loop-i.cursor c.within.new.self s.4 g.0 (ts ++ g.0 ∷ []) c.entry.new.cursor c.loop-i-test.true g.1 refl,
    )

pub returns-in_err-slots : goal.returns-in_err-slots
returns-in_err-slots c =
    let p = err_from_is_err_and c.from_residual-in_err-slots.result c.from_residual-in_err-slots.ensures.1 in
    let n = c.in_ok-count.field-0 in
    let s = c.loop-i.invariant in
    let t = c.in_err-slots.ensures s.2 s.3 in
    rw (p.1, p.2)
    record {
      gives = takes_on (within_at 1 65) types_at (all entry_each) c.args.cursor.now (types_is _ _) c.within.new.self n c.in_ok-count.ensures.takes _ _
          (many_breaks entry_each n c.loop-i.i s.2 c.loop-i.cursor c.within.new.self s.4 c.in_err-slots.field-0.0 c.entry.new.cursor c.loop-i-test.true t);
      bound = tt;
    }

pub returns : goal.returns
returns c =
    let n = c.in_ok-count.field-0 in
    let s = c.loop-i.invariant in
    let z : c.loop-i.i ≡ n = omega (arith, c.loop-i.auto.i-end, c.loop-i-test.false) in
    record {
      gives = (
        s.2,
        takes_on (within_at 1 65) types_at (all entry_each) c.args.cursor.now (types_is _ _) c.within.new.self n c.in_ok-count.ensures.takes _ _
            (many_ends entry_each n c.loop-i.i s.2 c.loop-i.cursor c.within.new.self s.4 c.loop-i-test.false),
        subst (λ n. Types (take n c.loop-i.slots) s.2) z s.3,
      );
      bound = s.1;
    }
