use Rattle.std.proofs.Common.{◌≡◌, List, length, refl, ap, arith}
use Rattle.std.proofs.lemmas.Result.{err_from_is_err_and}
use Rattle.tables.specs.declared.listing.Entry.{Entry}
use Rattle.programmer.proofs.Calls.{put_refused, put_unknown, put_unread, put_granted, unread_same}
use Rattle.programmer.proofs.Programmer.put.Goals as goal

pub returns-in_err-vacant : goal.returns-in_err-vacant
returns-in_err-vacant g c =
    let p = err_from_is_err_and c.from_residual.result c.from_residual.ensures.1 in
    rw (p.1, p.2) (record { keeps = λ made l a. put_refused made _ l _ c.args.shelf c.args.type_number c.args.bytes.now a _ c.in_err-vacant.ensures.is; still = (refl, refl) })

pub returns-then-type_number-entries : goal.returns-then-type_number-entries
returns-then-type_number-entries g c =
    let f = c.refusal.ensures in
    let n : length c.entries_of-entries.result.now ≡ _ = ap (λ (es : List Entry). length es) c.entries_of-entries.ensures.is in
    rw f (record {
      keeps = λ made l a. put_unknown made _ l _ c.args.shelf c.args.type_number c.args.bytes.now a c.in_ok-vacant.ensures.within c.in_ok-vacant.ensures.is (omega (arith, n, c.if-type_number-entries.true));
      still = (refl, refl);
    })

pub returns-in_err-words : goal.returns-in_err-words
returns-in_err-words g c =
    let p = err_from_is_err_and c.from_residual-in_err-words.result c.from_residual-in_err-words.ensures.1 in
    let n : length c.entries_of-entries.result.now ≡ _ = ap (λ (es : List Entry). length es) c.entries_of-entries.ensures.is in
    rw (p.1, p.2) (record {
      keeps = λ made l a.
          put_unread made _ l _ c.args.shelf c.args.type_number c.args.bytes.now a c.in_ok-vacant.ensures.within c.in_ok-vacant.ensures.is
          (omega (arith, n, c.if-type_number-entries.false)) _ c.spare-spare.result c.spare-spare.ensures.is _ _ c.entries_of-entries.ensures.is c.in_err-words.ensures;
      still = (unread_same c.args.bytes.now c.args.type_number _ _ _ _ _ c.entries_of-entries.ensures.listed c.in_err-words.ensures, refl);
    })

pub returns : goal.returns
returns g c =
    let n : length c.entries_of-entries.result.now ≡ _ = ap (λ (es : List Entry). length es) c.entries_of-entries.ensures.is in
    record {
      keeps = λ made l a.
          put_granted made _ l _ c.args.shelf c.args.type_number c.args.bytes.now a c.in_ok-vacant.ensures.within c.in_ok-vacant.ensures.is
          (omega (arith, n, c.if-type_number-entries.false)) _ c.spare-spare.result c.spare-spare.ensures.is _
          (record { type_number = c.args.type_number; words = c.in_ok-words.words }) c.entries_of-entries.ensures.is refl c.in_ok-words.ensures;
      still = tt;
    }
