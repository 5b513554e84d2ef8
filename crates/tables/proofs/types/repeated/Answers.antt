use Rattle.std.proofs.Common.{◌≡◌, ◌≢◌, rules, tests}
use Rattle.std.proofs.lemmas.Iterator.{cases_from_any, YieldsList-from_slice}
use Rattle.tables.specs.declared.listing.Entry.{Entry}
use Rattle.tables.proofs.Typed.{member_is}
use Rattle.tables.proofs.types.repeated.Goals as goal

pub returns : goal.returns
returns c ts A t m =
    let es = c.args.entries.now in
    let f = c.args.form in
    member_is es ts t f A m _
    (cases_from_any _ _ _ (λ (e : Entry). e.form ≡ f) (λ (e : Entry). e.form ≢ f) c.any.ensures.ran (YieldsList-from_slice es cc) (λ x q k. search (rules, tests)) (λ x q k. search (rules, tests)))
