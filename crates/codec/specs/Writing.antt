-- Bytes written into an area from a place on.
use Rattle.std.specs.Prelude.{◌≡◌, ℕ, ◌+◌, ◌<◌, ◌≤◌, List, length, Some, None, Option}
use Rattle.std.proofs.lemmas.List.Edits.{sets}

-- The bytes are written into the area from `start` on and the answer is the place after them; or they do not fit, and the area is left as it was.
abbrev pub Writes : List ℕ → ℕ → List ℕ → Option ℕ → List ℕ → Type 0
Writes bytes start area (Some end) area' = (end ≡ start + length bytes) × (end ≤ length area) × (area' ≡ sets area start bytes)
Writes bytes start area None area' = (length area < start + length bytes) × (area' ≡ area)
