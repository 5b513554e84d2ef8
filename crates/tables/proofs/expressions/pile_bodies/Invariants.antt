use Rattle.std.proofs.Common.{◌≡◌, map, reverse, length}
use Rattle.codec.specs.Stack.{held, room}
use Rattle.tables.specs.Inner.{waiting}
use Rattle.tables.specs.declared.listing.Signature.{Signature}
use Rattle.tables.proofs.expressions.pile_bodies.Given as goal

-- the bodies of the functions met so far are piled up
abbrev pub invariant-loop-f : goal.invariant-loop-f
invariant-loop-f l = record {
  waiting : waiting (held l.pile) ≡ map (λ (f : Signature). f.arity) (reverse (map (λ f. f.now) l.yielded));
  deep : length (held l.pile) ≡ length l.yielded;
  room : room l.pile ≡ 544;
  same : l.pile.slots.ghost_name ≡ l.initial.pile.slots.ghost_name;
}
