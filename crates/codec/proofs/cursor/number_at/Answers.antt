use Rattle.std.proofs.Common.{◌≤◌, length, inl, inr, arith}
use Rattle.codec.specs.Number.{ended, overlong}
use Rattle.codec.proofs.Numbers.{sofar_none, sofar_more, sofar_end, sofar_last, sofar_over, not_fifth, rest_byte, more_fits, last_fits, finds_none, finds_in, finds_number}
use Rattle.codec.proofs.cursor.number_at.Goals as goal

pub returns-in_default : goal.returns-in_default
returns-in_default c =
    let past : length c.args.bytes.now ≤ c.args.start = elim c.in_default.ensures.lookup.0 [ inl l ↦ omega arith | inr l ↦ absurd (omega arith) ] in
    finds_none _ _ past

pub loop-k-init : goal.loop-k-init
loop-k-init c = sofar_none _

pub returns-then-not-fits : goal.returns-then-not-fits
returns-then-not-fits c =
    let s = c.loop-k.invariant in
    let large = c.if-not-fits.ensures in
    finds_in _ _ c.in-Some.rest.now overlong c.in-Some.ensures.lookup.0.2 (sofar_over _ _ _ _ s (omega (arith, large.0, s.few)) c.loop-k-test.true large.1)

pub overflow_mul-result : goal.overflow_mul-result
overflow_mul-result c = (last_fits _ _ _ _ _ c.loop-k.invariant c.if-not-continues.ensures (λ e. c.if-not-fits.ensures (omega arith))).0

pub overflow_add-result : goal.overflow_add-result
overflow_add-result c = (last_fits _ _ _ _ _ c.loop-k.invariant c.if-not-continues.ensures (λ e. c.if-not-fits.ensures (omega arith))).1

pub returns-then-not-continues : goal.returns-then-not-continues
returns-then-not-continues c =
    finds_number _ _ c.in-Some.rest.now _ _ _ c.in-Some.ensures.lookup.0.2
    (sofar_last _ _ _ _ c.loop-k.invariant c.loop-k-test.true c.if-not-continues.ensures (λ e. c.if-not-fits.ensures (omega arith))) (omega arith)

pub overflow_mul-value : goal.overflow_mul-value
overflow_mul-value c = (more_fits _ _ _ _ _ c.loop-k.invariant (not_fifth _ _ c.if-not-fits.ensures c.if-not-continues.ensures) (omega (arith, rest_byte _ _ _ c.loop-k.k c.in-Some.ensures.lookup.0.2 c.type_inv.bytes))).0

pub overflow_add-value : goal.overflow_add-value
overflow_add-value c = (more_fits _ _ _ _ _ c.loop-k.invariant (not_fifth _ _ c.if-not-fits.ensures c.if-not-continues.ensures) (omega (arith, rest_byte _ _ _ c.loop-k.k c.in-Some.ensures.lookup.0.2 c.type_inv.bytes))).1

pub overflow_mul-scale : goal.overflow_mul-scale
overflow_mul-scale c = (more_fits _ _ _ _ 0 c.loop-k.invariant (not_fifth _ _ c.if-not-fits.ensures c.if-not-continues.ensures) (omega arith)).2

pub loop-k-preserved : goal.loop-k-preserved
loop-k-preserved c =
    sofar_more _ _ _ _ c.loop-k.invariant (not_fifth _ _ c.if-not-fits.ensures c.if-not-continues.ensures) c.loop-k-test.true c.if-not-continues.ensures
    (omega (arith, rest_byte _ _ _ c.loop-k.k c.in-Some.ensures.lookup.0.2 c.type_inv.bytes))

pub returns : goal.returns
returns c = finds_in _ _ c.in-Some.rest.now ended c.in-Some.ensures.lookup.0.2 (sofar_end _ _ _ _ c.loop-k.invariant c.loop-k-test.false)
