use Rattle.std.proofs.Common.{Ok, ◌≡◌, ◌<◌, [], ◌∷◌, ◌++◌, length, take, drop, sym, refl, ap, ◌∙◌, subst, arith, length-set}
use Rattle.std.proofs.lemmas.Result.{err_from_is_err_and}
use Rattle.std.proofs.lemmas.List.{take-append-le}
use Rattle.codec.specs.Reading.{Takes, within_at}
use Rattle.codec.proofs.Takings.{all, many_again, many_breaks, many_ends}
use Rattle.lfpl.specs.Reading.{type_ref}
use Rattle.lfpl.specs.Typing.{type_at}
use Rattle.tables.specs.Inner.{Numbered}
use Rattle.tables.proofs.Givings.{on}
use Rattle.tables.proofs.Signed.{type_each, numbered_more}
use Rattle.tables.proofs.signatures.parameters.Goals as goal

pub returns-in_err-slot-clause-gives : goal.returns-in_err-slot-clause-gives
returns-in_err-slot-clause-gives c ts l =
    let p = err_from_is_err_and c.from_residual-in_err-slot.result c.from_residual-in_err-slot.ensures.1 in
    let n = c.in_ok-arity.field-0 in
    let g = c.loop-slot.invariant.read ts l in
    let h : c.loop-slot.slot-index < n = omega (arith, c.loop-slot.auto.slot-items, c.loop-slot.invariant.long, c.loop-slot-test.true) in
    rw (p.1, p.2)
    (on (within_at 0 7) (all (type_each ts)) n c.in_ok-arity.ensures.takes _ _
    (many_breaks (type_each ts) n c.loop-slot.slot-index g.0 c.loop-slot.cursor c.within.new.self g.2 c.in_err-slot.field-0.0 c.type_number.new.cursor h
    (c.in_err-slot.ensures.gives ts l)))

pub loop-slot-preserved : goal.loop-slot-preserved
loop-slot-preserved c =
    let i = c.loop-slot.slot-index in
    let items = c.loop-slot.slot-items in
    let j = c.in_ok-slot.field-0 in
    let s = c.loop-slot.invariant in
    let n = c.in_ok-arity.field-0 in
    let h : i < length items = omega (arith, c.loop-slot.auto.slot-items, c.loop-slot-test.true) in
    let k : i < n = omega (arith, s.long) in
    record {
      long = length-set items i j ∙ s.long;
      few = s.few;
      read = λ ts l.
          let g = s.read ts l in
          let e = c.in_ok-slot.ensures.gives ts l in (
            g.0 ++ type_at ts j ∷ [],
            numbered_more ts items i g.0 j h g.1 e.2.0,
            many_again (type_each ts) n i g.0 c.loop-slot.cursor c.within.new.self g.2 (type_at ts j) (g.0 ++ type_at ts j ∷ []) c.type_number.new.cursor k
                (subst (λ A. Takes (type_ref ts) c.loop-slot.cursor (Ok A) c.type_number.new.cursor) e.2.1 e.1) refl,
          );
    }

pub returns-clause-gives : goal.returns-clause-gives
returns-clause-gives c ts l =
    let n = c.in_ok-arity.field-0 in
    let i = c.loop-slot.slot-index in
    let items = c.loop-slot.slot-items in
    let g = c.loop-slot.invariant.read ts l in
    let z : i ≡ n = omega (arith, c.loop-slot.auto.slot-index-end, c.loop-slot-test.false, c.loop-slot.auto.slot-items, c.loop-slot.invariant.long) in
    let t : take n (items ++ drop n c.args.slots.now) ≡ take i items = take-append-le n items _ (omega arith) ∙ ap (λ n. take n items) (sym z) in (
      g.0,
      on (within_at 0 7) (all (type_each ts)) n c.in_ok-arity.ensures.takes _ _ (many_ends (type_each ts) n i g.0 c.loop-slot.cursor c.within.new.self g.2 (omega arith)),
      subst (λ ns. Numbered ts ns g.0) (sym t) g.1,
    )
