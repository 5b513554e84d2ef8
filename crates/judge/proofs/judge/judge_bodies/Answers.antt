use Rattle.std.proofs.Common.{◌+◌, arith}
use Rattle.std.proofs.lemmas.Result.{err_from_is_err_and}
use Rattle.lfpl.specs.Typing.{fun_at}
use Rattle.judge.specs.Admitting.{start_of}
use Rattle.judge.proofs.Bodied.{upto_none, upto_more, upto_all, body_posed, body_fault}
use Rattle.judge.proofs.Passing.{faulted_by}
use Rattle.judge.proofs.judge.judge_bodies.Goals as goal

pub loop-f-init : goal.loop-f-init
loop-f-init c p h = upto_none p c.args.notes.now c.args.starts.now

pub judge_body-requires : goal.judge_body-requires
judge_body-requires c =
    let p = c.requires.holds.0 in
    let h = c.requires.holds.1 in
    let n = c.loop-f.auto.notes in
    let m = c.requires.notes in
    record {
      long = omega arith;
      posed = record { ts = p.types; fs = p.functions; g = fun_at p.functions c.loop-f.f; j = start_of p.functions (c.loop-f.f + 1); is = body_posed c.args.listing.now p h c.loop-f.notes c.loop-f.starts c.loop-f.f c.loop-f.at (c.loop-f.invariant p h) c.loop-f-test.true };
    }

pub returns-in_err-end : goal.returns-in_err-end
returns-in_err-end c p h =
    let r = err_from_is_err_and c.from_residual.result c.from_residual.ensures.1 in
    rw (r.1, r.2) (faulted_by
    (c.in_err-end.ensures p.types p.functions (fun_at p.functions c.loop-f.f) (start_of p.functions (c.loop-f.f + 1))
    (body_posed c.args.listing.now p h c.loop-f.notes c.loop-f.starts c.loop-f.f c.loop-f.at (c.loop-f.invariant p h) c.loop-f-test.true))
    (body_fault c.args.listing.now p h c.loop-f.notes c.loop-f.starts c.loop-f.f c.loop-f.at (c.loop-f.invariant p h) c.loop-f-test.true))

pub loop-f-preserved : goal.loop-f-preserved
loop-f-preserved c p h =
    let s = c.loop-f.auto.starts in
    let t = c.requires.starts in
    upto_more c.args.listing.now p h c.loop-f.notes c.loop-f.starts c.loop-f.f c.loop-f.at (c.loop-f.invariant p h) c.loop-f-test.true
    c.judge_body.new.notes c.in_ok-end.end c.judge_body.auto.notes (omega arith)
    (c.in_ok-end.ensures p.types p.functions (fun_at p.functions c.loop-f.f) (start_of p.functions (c.loop-f.f + 1))
    (body_posed c.args.listing.now p h c.loop-f.notes c.loop-f.starts c.loop-f.f c.loop-f.at (c.loop-f.invariant p h) c.loop-f-test.true))

pub returns : goal.returns
returns c p h = upto_all c.args.listing.now p h c.loop-f.notes c.loop-f.starts c.loop-f.f c.loop-f.at (c.loop-f.invariant p h) c.loop-f-test.false
