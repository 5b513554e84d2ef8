-- What the rules' table says.
use Rattle.std.proofs.Common.{◌≡◌, List, length, take, ap, arith, length-take}
use lib.ListN.{length-map}
use Rattle.lfpl.specs.Reading.{Signature as TypeOf}
use Rattle.lfpl.specs.Syntax.{Ty}
use Rattle.lfpl.specs.Typing.{type_at}
use Rattle.tables.specs.Listed.{Signs}
use Rattle.tables.specs.declared.listing.Signature.{Signature}

-- a function has as many parameters as its signature says
pub arity_is : (ts : List Ty) (f : Signature) (s : TypeOf) → Signs ts f s → f.arity ≡ length s.params
arity_is ts f s g =
    let a = ap length g.params in
    let b = length-map (take f.arity f.params) (type_at ts) in
    let c = length-take f.arity f.params in
    let d = g.few in
    let e = g.full in
    omega arith
