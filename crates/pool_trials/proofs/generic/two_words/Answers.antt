use Rattle.pool.proofs.Laws.{never_none}
use Rattle.pool_trials.proofs.Kept.{kept}
use Rattle.pool_trials.proofs.generic.two_words.Goals as goal

pub returns-in_err-first : goal.returns-in_err-first
returns-in_err-first g c =
    absurd (never_none _ _ c.in_err-first.ensures (kept _ _ _ _ _ _ _ _ _ c.in_ok-cell.ensures c.write.ensures c.write-2.ensures).first)

pub returns-in_err-second : goal.returns-in_err-second
returns-in_err-second g c =
    absurd (never_none _ _ c.in_err-second.ensures (kept _ _ _ _ _ _ _ _ _ c.in_ok-cell.ensures c.write.ensures c.write-2.ensures).second)

pub returns : goal.returns
returns g c =
    let k = kept _ _ _ _ _ _ _ _ _ c.in_ok-cell.ensures c.write.ensures c.write-2.ensures in
    record { same = k.back _ _ c.give.ensures; back = (cc (c.in_ok-first.ensures, k.first), cc (c.in_ok-second.ensures, k.second)) }
