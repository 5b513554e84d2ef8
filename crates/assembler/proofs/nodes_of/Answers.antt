use Rattle.std.proofs.Common.{rules, ◌≡◌, ℕ, ◌%◌, get_or, refl, ap, subst}
use Rattle.code.specs.Nodes.{no_node}
use Rattle.judge.specs.declared.table.Table.{Table}
use Rattle.assembler.specs.Making.{Made}
use Rattle.assembler.proofs.Makes.{given_all, own}
use Rattle.assembler.proofs.nodes_of.Goals as goal

pub returns : goal.returns
returns c n h =
    subst (λ (m : ℕ). Made c.args.table.now m (get_or c.from_fn.result n no_node)) (own n h)
    (given_all _ (λ f. f.0 ≡ c.args.table) (λ m. Made c.args.table.now (m % 512))
    (λ f f' i x p e. (search rules, subst (λ (t : Table). Made t (i % 512) x) (ap (λ b. b.now) p) (search rules))) _ _ 512 refl
    c.from_fn.ensures.items n no_node h)
