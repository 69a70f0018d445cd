use Rattle.std.proofs.Common.{rules, ℕ}
use Rattle.std.specs.Prelude.{nat_lt}
use Rattle.std.proofs.lemmas.List.Sorted.{IsPartitionPoint-from_clause, IsPartitionedBy-ltb}
use Rattle.dx_definitions.proofs.Looking.{all_before}
use Rattle.dx_definitions.proofs.definitions.count_before.Goals as goal

pub returns-then-positions-count-clause-parts : goal.returns-then-positions-count-clause-parts
returns-then-positions-count-clause-parts c = all_before c.args.positions.now c.args.position c.requires c.if-count-gt0.true c.if-positions-count.true

pub returns-clause-parts : goal.returns-clause-parts
returns-clause-parts c =
    IsPartitionPoint-from_clause (λ (p : ℕ). nat_lt p c.args.position) c.args.positions.now c.partition_point.result c.partition_point.ensures.partitioned
    (IsPartitionedBy-ltb (λ (p : ℕ). p) c.args.positions.now c.args.position c.requires)
    (λ a r f k. search rules)
