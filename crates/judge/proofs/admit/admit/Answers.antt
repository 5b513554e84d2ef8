use Rattle.lfpl.proofs.Admitted.{admission_is_typing}
use Rattle.std.proofs.lemmas.Result.{err_from_is_err_and}
use Rattle.judge.proofs.Bodied.{read_refused, judged_admits, judged_over}
use Rattle.judge.proofs.admit.admit.Goals as goal

pub returns-in_err-listing : goal.returns-in_err-listing
returns-in_err-listing c =
    let r = err_from_is_err_and c.from_residual.result c.from_residual.ensures.1 in
    record {
      answers = rw (r.1, r.2) (read_refused c.args.bytes.now _ c.in_err-listing.ensures);
      typing = admission_is_typing c.args.bytes.now;
      words = rw r.1 tt;
    }

pub returns : goal.returns
returns c =
    let R = c.in_ok-listing.ensures in
    let A = c.judge_listing.ensures R.0 R.3 in
    record {
      answers = judged_admits c.args.bytes.now R.0 R.1 R.2 c.judge_listing.result A;
      typing = admission_is_typing c.args.bytes.now;
      words = judged_over c.args.bytes.now R.0 R.1 R.2 c.judge_listing.result A;
    }
