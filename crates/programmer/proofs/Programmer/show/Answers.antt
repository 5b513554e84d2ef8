use Rattle.std.proofs.Common.{refl}
use Rattle.std.proofs.lemmas.Result.{err_from_is_err_and}
use Rattle.programmer.proofs.Calls.{show_refused, shown_as, left_short}
use Rattle.programmer.proofs.Programmer.show.Goals as goal

pub returns-in_err-stored : goal.returns-in_err-stored
returns-in_err-stored g c =
    let p = err_from_is_err_and c.from_residual.result c.from_residual.ensures.1 in
    rw (p.1, p.2) (record { keeps = λ made l a. show_refused made _ l _ c.args.shelf a _ c.args.area.now c.in_err-stored.ensures.is; left = refl })

pub returns : goal.returns
returns g c =
    let f = c.refusal.ensures in
    let e = c.ok_or.ensures.value in
    rw (e, f) (record {
      keeps = λ made l a.
          shown_as made _ l _ c.args.shelf a c.in_ok-stored.stored c.in_ok-stored.ensures.within c.in_ok-stored.ensures.is _
          c.args.area.now c.show-count.new.area c.show-count.result c.entries_of-entries.ensures.is c.show-count.ensures.written;
      left = left_short c.show-count.result _ c.args.area.now c.show-count.new.area c.show-count.ensures.left;
    })
