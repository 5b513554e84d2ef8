use Rattle.std.proofs.Common.{◌≡◌, ℕ, ◌+◌, ◌*◌, ◌≤◌, List, ◌++◌, length, take}
use Rattle.lfpl.specs.Syntax.{Ty}
use Rattle.typing.specs.Codes.{Typed, Encodes}
use Rattle.typing.specs.Scopes.{Scopes, widths, offsets}
use Rattle.typing.proofs.scope.extend_all.Given as goal

abbrev pub invariant-loop-code : goal.invariant-loop-code
invariant-loop-code l = record {
  count : length l.scope.variables.items ≡ length l.fn.scope.variables.items + l.code-index;
  low : l.end ≤ l.fn.over + 255 * l.code-index;
  over : (ts As : List Ty) → Typed l.listing ts → Encodes ts l.fn.row As → l.end ≡ l.fn.over + widths (take l.code-index As);
  scopes : (ts Γ As : List Ty) (ps : List ℕ) → Typed l.listing ts → Encodes ts l.fn.row As → Scopes ts l.fn.scope Γ ps
      → Scopes ts l.scope (Γ ++ take l.code-index As) (ps ++ offsets l.fn.over (take l.code-index As));
}
