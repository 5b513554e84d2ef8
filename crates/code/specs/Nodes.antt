-- Expressions by their numbers.
use Rattle.std.specs.Prelude.{ℕ, ◌%◌, slice_index, slice_index_or}
use Rattle.code.specs.declared.Code.{Code}
use Rattle.code.specs.declared.Node.{Node}
use Rattle.code.specs.declared.Op.TheVariants.{Variable}

-- what stands where there is no expression
abbrev pub no_node : Node
no_node = record { op = Variable 0 0; over = 0; arms = 0; end = 0 }

-- the expression with the number n
abbrev pub node_at : Code → ℕ → Node
node_at c n = slice_index_or c.nodes (n % 512) no_node

-- where the body of the function f begins
abbrev pub start_at : Code → ℕ → ℕ
start_at c f = slice_index c.starts (f % 32)
