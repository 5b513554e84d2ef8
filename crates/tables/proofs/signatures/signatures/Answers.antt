use Rattle.std.proofs.Common.{◌≡◌, ◌<◌, [], ◌∷◌, ◌++◌, length, take, drop, sym, refl, ap, ◌∙◌, subst, arith, length-set}
use Rattle.std.proofs.lemmas.Result.{err_from_is_err_and}
use Rattle.std.proofs.lemmas.List.{take-append-le}
use Rattle.codec.specs.Reading.{within_at}
use Rattle.codec.proofs.Takings.{takes_break, takes_on, all, many_again, many_breaks, many_ends}
use Rattle.lfpl.specs.Reading.{signatures_at}
use Rattle.tables.specs.Listed.{AllSign}
use Rattle.tables.proofs.Signed.{signature_each, signatures_is, sign_more, few_more}
use Rattle.tables.proofs.signatures.signatures.Goals as goal

pub returns-in_err-count-clause-gives : goal.returns-in_err-count-clause-gives
returns-in_err-count-clause-gives c ts l =
    let p = err_from_is_err_and c.from_residual.result c.from_residual.ensures.1 in
    rw (p.1, p.2)
    (takes_break (within_at 1 33) (signatures_at ts) (all (signature_each ts)) c.args.cursor.now (signatures_is ts _ _) c.within.new.self c.in_err-count.field-0.0 c.in_err-count.ensures.takes)

pub returns-in_err-slot-clause-gives : goal.returns-in_err-slot-clause-gives
returns-in_err-slot-clause-gives c ts l =
    let p = err_from_is_err_and c.from_residual-in_err-slot.result c.from_residual-in_err-slot.ensures.1 in
    let n = c.in_ok-count.field-0 in
    let g = c.loop-slot.invariant.read ts l in
    let h : c.loop-slot.slot-index < n = omega (arith, c.loop-slot.auto.slot-items, c.loop-slot.invariant.long, c.loop-slot-test.true) in
    rw (p.1, p.2)
    (takes_on (within_at 1 33) (signatures_at ts) (all (signature_each ts)) c.args.cursor.now (signatures_is ts _ _) c.within.new.self n c.in_ok-count.ensures.takes _ _
    (many_breaks (signature_each ts) n c.loop-slot.slot-index g.0 c.loop-slot.cursor c.within.new.self g.2 c.in_err-slot.field-0.0 c.signature.new.cursor h
    (c.in_err-slot.ensures.gives ts l)))

pub loop-slot-preserved : goal.loop-slot-preserved
loop-slot-preserved c =
    let i = c.loop-slot.slot-index in
    let items = c.loop-slot.slot-items in
    let f = c.in_ok-slot.field-0 in
    let s = c.loop-slot.invariant in
    let n = c.in_ok-count.field-0 in
    let h : i < length items = omega (arith, c.loop-slot.auto.slot-items, c.loop-slot-test.true) in
    let k : i < n = omega (arith, s.long) in
    record {
      long = length-set items i f ∙ s.long;
      few = s.few;
      each = few_more items i f h s.each c.in_ok-slot.ensures.bound;
      read = λ ts l.
          let g = s.read ts l in
          let r = c.in_ok-slot.ensures.gives ts l in (
            g.0 ++ r.0 ∷ [],
            sign_more ts items i g.0 f r.0 h g.1 r.2,
            many_again (signature_each ts) n i g.0 c.loop-slot.cursor c.within.new.self g.2 r.0 (g.0 ++ r.0 ∷ []) c.signature.new.cursor k r.1 refl,
          );
    }

pub returns-clause-gives : goal.returns-clause-gives
returns-clause-gives c ts l =
    let n = c.in_ok-count.field-0 in
    let i = c.loop-slot.slot-index in
    let items = c.loop-slot.slot-items in
    let g = c.loop-slot.invariant.read ts l in
    let z : i ≡ n = omega (arith, c.loop-slot.auto.slot-index-end, c.loop-slot-test.false, c.loop-slot.auto.slot-items, c.loop-slot.invariant.long) in
    let t : take n (items ++ drop n c.args.slots.now) ≡ take i items = take-append-le n items _ (omega arith) ∙ ap (λ n. take n items) (sym z) in (
      g.0,
      takes_on (within_at 1 33) (signatures_at ts) (all (signature_each ts)) c.args.cursor.now (signatures_is ts _ _) c.within.new.self n c.in_ok-count.ensures.takes _ _
          (many_ends (signature_each ts) n i g.0 c.loop-slot.cursor c.within.new.self g.2 (omega arith)),
      subst (λ fs. AllSign ts fs g.0) (sym t) g.1,
    )
