use Rattle.std.proofs.Common.{refl}
use Rattle.std.proofs.lemmas.Result.{err_from_is_err_and}
use Rattle.programmer.proofs.Calls.{empty_refused, emptied}
use Rattle.programmer.proofs.Programmer.empty.Goals as goal

pub returns-in_err-stored : goal.returns-in_err-stored
returns-in_err-stored g c =
    let p = err_from_is_err_and c.from_residual.result c.from_residual.ensures.1 in
    rw (p.1, p.2) (record { keeps = λ made l a. empty_refused made _ l _ c.args.shelf a _ c.in_err-stored.ensures.is; still = (refl, refl) })

pub returns : goal.returns
returns g c =
    record {
      keeps = λ made l a.
          emptied made _ l _ c.args.shelf a c.in_ok-stored.stored c.in_ok-stored.ensures.within c.in_ok-stored.ensures.is _ _ c.entries_of-entries.ensures.is c.release.ensures;
      still = tt;
    }
