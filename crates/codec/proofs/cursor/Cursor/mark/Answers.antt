use Rattle.std.proofs.Common.{refl}
use Rattle.std.proofs.lemmas.Result.{err_from_is_err_and}
use Rattle.codec.specs.Reading.{within_at, mark_at}
use Rattle.codec.proofs.Takings.{takes_break, takes_on, takes_done, marks, mark_splits}
use Rattle.codec.proofs.cursor.Cursor.mark.Goals as goal

pub returns-in_err-within-clause-takes : goal.returns-in_err-within-clause-takes
returns-in_err-within-clause-takes c =
    let p = err_from_is_err_and c.from_residual.result c.from_residual.ensures.1 in
    rw (p.1, p.2) (takes_break (within_at 0 2) mark_at marks c.args.self.now (mark_splits _ _) c.within.new.self c.in_err-within.field-0.0 c.in_err-within.ensures.takes)

pub returns-clause-takes : goal.returns-clause-takes
returns-clause-takes c =
    takes_on (within_at 0 2) mark_at marks c.args.self.now (mark_splits _ _) c.within.new.self c.in_ok-within.field-0 c.in_ok-within.ensures.takes _ _
    (takes_done (marks c.in_ok-within.field-0) c.within.new.self _ refl)
