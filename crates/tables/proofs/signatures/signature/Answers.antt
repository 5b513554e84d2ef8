use Rattle.std.proofs.Common.{refl}
use Rattle.std.proofs.lemmas.Result.{err_from_is_err_and}
use Rattle.codec.proofs.Takings.{takes_break, takes_on, takes_done}
use Rattle.lfpl.specs.Reading.{Signature, type_ref, pure, signature_at}
use Rattle.tables.specs.Inner.{parameters_at}
use Rattle.tables.proofs.Givings.{break, on}
use Rattle.tables.proofs.Signed.{result_at, signature_is}
use Rattle.tables.proofs.signatures.signature.Goals as goal

pub returns-in_err-arity : goal.returns-in_err-arity
returns-in_err-arity c =
    let p = err_from_is_err_and c.from_residual.result c.from_residual.ensures.1 in
    rw (p.1, p.2)
    record {
      gives = λ ts l. takes_break (parameters_at ts) (signature_at ts) (result_at ts) c.args.cursor.now (signature_is ts _ _) c.parameters.new.cursor c.in_err-arity.field-0.0 (c.in_err-arity.ensures.gives ts l);
      bound = tt;
    }

pub returns-in_err-result : goal.returns-in_err-result
returns-in_err-result c =
    let p = err_from_is_err_and c.from_residual-in_err-result.result c.from_residual-in_err-result.ensures.1 in
    rw (p.1, p.2)
    record {
      gives = λ ts l.
          let a = c.in_ok-arity.ensures.gives ts l in
          takes_on (parameters_at ts) (signature_at ts) (result_at ts) c.args.cursor.now (signature_is ts _ _) c.parameters.new.cursor a.0 a.1 _ _
          (break (type_ref ts) (λ B. pure (record { params = a.0; result = B })) c.in_err-result.field-0.0 (c.in_err-result.ensures.gives ts l));
      bound = tt;
    }

pub returns : goal.returns
returns c =
    let few = c.in_ok-arity.ensures.bound in
    record {
      gives = λ ts l.
          let a = c.in_ok-arity.ensures.gives ts l in
          let b = c.in_ok-result.ensures.gives ts l in
          let s : Signature = record { params = a.0; result = b.0 } in (
            s,
            takes_on (parameters_at ts) (signature_at ts) (result_at ts) c.args.cursor.now (signature_is ts _ _) c.parameters.new.cursor a.0 a.1 _ _
                (on (type_ref ts) (λ B. pure (record { params = a.0; result = B })) b.0 b.1 _ _ (takes_done (pure s) c.type_number.new.cursor s refl)),
            record { few = few; full = c.parameters.auto.slots; numbers = a.2.0; params = a.2.1; number = b.2.0; result = b.2.1 },
          );
      bound = few;
    }
