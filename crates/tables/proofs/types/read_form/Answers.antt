use Rattle.std.proofs.lemmas.Result.{err_from_is_err_and}
use Rattle.std.proofs.Common.{refl, ap}
use Rattle.codec.proofs.Takings.{takes_done}
use Rattle.lfpl.specs.Reading.{pure, type_ref}
use Rattle.lfpl.specs.Syntax.{list_of}
use Rattle.tables.proofs.Givings.{break, on}
use Rattle.tables.proofs.Typed.{form_on}
use Rattle.tables.proofs.types.read_form.Goals as goal

pub returns-in_err-type_number-in-2-clause-gives : goal.returns-in_err-type_number-in-2-clause-gives
returns-in_err-type_number-in-2-clause-gives c ts l =
    let p = err_from_is_err_and c.from_residual-in_err-type_number-in-2.result c.from_residual-in_err-type_number-in-2.ensures.1 in
    rw (p.1, p.2)
    (form_on ts _ 2 c.in_ok-within.ensures.takes c.in-2.is _ _ (break (type_ref ts) (λ A. pure (list_of A)) c.in_err-type_number-in-2.field-0.0 (c.in_err-type_number-in-2.ensures.gives ts l)))

pub returns-in_ok-type_number-in-2-clause-gives : goal.returns-in_ok-type_number-in-2-clause-gives
returns-in_ok-type_number-in-2-clause-gives c ts l =
    let g = c.in_ok-type_number-in-2.ensures.gives ts l in (
      list_of g.0,
      form_on ts _ 2 c.in_ok-within.ensures.takes c.in-2.is _ _ (on (type_ref ts) (λ A. pure (list_of A)) g.0 g.1 _ _ (takes_done (pure (list_of g.0)) c.type_number.new.cursor (list_of g.0) refl)),
      record { refers = g.2.0; type = ap list_of g.2.1 },
    )
