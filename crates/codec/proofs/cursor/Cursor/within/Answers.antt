use Rattle.std.proofs.Common.{ap, ◌∙◌}
use Rattle.std.proofs.lemmas.Result.{err_from_is_err_and}
use Rattle.codec.specs.Reading.{number_at, within_at}
use Rattle.codec.specs.declared.fault.Refusal.TheVariants.{OutOfRange}
use Rattle.codec.proofs.Takings.{takes_break, takes_on, takes_done, takes_fault, tested, within_splits, test_passes, within_fails, put_back}
use Rattle.codec.proofs.cursor.Cursor.within.Goals as goal

pub returns-in_err-n-clause-takes : goal.returns-in_err-n-clause-takes
returns-in_err-n-clause-takes c =
    let p = err_from_is_err_and c.from_residual.result c.from_residual.ensures.1 in
    let start = c.args.self.now in
    rw (p.1, p.2)
    (takes_break number_at (within_at c.args.low c.args.high) (tested c.args.low c.args.high start.at) start (within_splits _ _ _ _) c.number.new.self c.in_err-n.field-0.0
    c.in_err-n.ensures.takes)

pub returns-then-not-in_range : goal.returns-then-not-in_range
returns-then-not-in_range c =
    let start = c.args.self.now in
    let t = c.in_ok-n.ensures.takes in
    let fails = within_fails c.args.low c.args.high start c.number.new.self c.in_ok-n.n t c.if-not-in_range.ensures in
    let refused = takes_fault (within_at c.args.low c.args.high) start c.fault.result OutOfRange start.at fails
    (c.fault.ensures ∙ ap (λ p. record { refusal = OutOfRange; place = start.at; part = p }) t.part) in
    record { takes = record { bytes = t.bytes; part = t.part; answer = refused.answer }; stays = put_back start c.number.new.self t.bytes t.part; bound = tt }

pub returns-clause-takes : goal.returns-clause-takes
returns-clause-takes c =
    let start = c.args.self.now in
    let n = c.in_ok-n.n in
    takes_on number_at (within_at c.args.low c.args.high) (tested c.args.low c.args.high start.at) start (within_splits _ _ _ _) c.number.new.self n c.in_ok-n.ensures.takes _ _
    (takes_done (tested c.args.low c.args.high start.at n) c.number.new.self n (test_passes c.args.low c.args.high start.at n _ _ c.if-not-in_range.ensures))
