use Rattle.std.proofs.Math.Logic.{∥∥₁_map}
use Rattle.dx_macros.proofs.Defining.{lawful_push}
use Rattle.dx_macros.proofs.dictionary.Dictionary.add.Goals as goal

pub invariant_of-self : goal.invariant_of-self
invariant_of-self c = record {
  lawful_macros = c.args.self.now.lawful_macros;
  lawful_definitions = ∥∥₁_map c.args.self.now.lawful_definitions (λ all. lawful_push c.push.result _ c.push.new.self.items c.args.s all c.requires c.push.ensures.ok c.push.ensures.err);
}
