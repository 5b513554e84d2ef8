use Rattle.std.proofs.Common.{◌≡◌, true, false, is_some, None, refl, rules}
use Rattle.std.specs.Prelude.{position}
use Rattle.std.proofs.lemmas.Result.{err_from_is_err_and}
use Rattle.programmer.proofs.Calls.{adopt_running, adopt_filled, adopt_refused, adopt_granted, none_filled}
use Rattle.programmer.proofs.Programmer.adopt.Goals as goal

pub returns-then-is_some : goal.returns-then-is_some
returns-then-is_some g c =
    let f = c.refusal.ensures in
    let e : is_some c.args.self.now.run ≡ true = search rules in
    rw f (record { keeps = λ made l a. adopt_running made _ l _ c.args.bytes.now a e; still = (refl, refl) })

pub returns-in-Some : goal.returns-in-Some
returns-in-Some g c =
    let f = c.refusal-in-Some.ensures in
    let e : is_some c.args.self.now.run ≡ false = search rules in
    rw f (record { keeps = λ made l a. adopt_filled made _ l _ c.args.bytes.now c.in-Some.lowest a e c.in-Some.ensures; still = (refl, refl) })

pub returns-in_err-table : goal.returns-in_err-table
returns-in_err-table g c =
    let p = err_from_is_err_and c.from_residual.result c.from_residual.ensures.1 in
    let e : is_some c.args.self.now.run ≡ false = search rules in
    let n : None ≡ position is_some c.args.self.now.shelves.places = search rules in
    rw (p.1, p.2) (record { keeps = λ made l a. adopt_refused made _ l _ c.args.bytes.now _ a e n c.in_err-table.ensures.answers; still = (refl, refl) })

pub returns : goal.returns
returns g c =
    let e : is_some c.args.self.now.run ≡ false = search rules in
    let n : None ≡ position is_some c.args.self.now.shelves.places = search rules in
    record { keeps = λ made l a. adopt_granted made _ l _ c.args.bytes.now c.in_ok-table.table a e n c.in_ok-table.ensures.answers; still = tt }

pub invariant_of-self-2 : goal.invariant_of-self-2
invariant_of-self-2 g c =
    let n : None ≡ position is_some c.args.self.now.shelves.places = search rules in
    record { of_table = λ k d l x e. absurd (none_filled _ n k d x l e) }
