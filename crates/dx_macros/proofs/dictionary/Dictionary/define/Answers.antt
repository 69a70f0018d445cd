use Rattle.std.proofs.Common.{ap, Some, map}
use Rattle.std.proofs.Math.Logic.{∥∥₁_map}
use Rattle.dx_base.specs.NameTable.{under_name}
use Rattle.dx_base.proofs.NameTables.{under_changed}
use Rattle.dx_macros.specs.Dictionary.{Dictionary, Macros}
use Rattle.dx_definitions.specs.Index.{text_of}
use Rattle.dx_macros.proofs.Defining.{lawful_insert, on_ok, macros_changed}
use Rattle.dx_macros.proofs.dictionary.Dictionary.define.Goals as goal

pub invariant_of-self : goal.invariant_of-self
invariant_of-self c = record {
  lawful_macros = ∥∥₁_map c.args.self.now.lawful_macros
      (λ all. lawful_insert c.insert.result c.args.self.now.macros c.insert.new.self c.bytes.result.now c.args.m all c.requires
      (on_ok c.insert.result (λ u. under_changed c.args.self.now.macros c.insert.new.self c.bytes.result.now (Some c.args.m) c.in_ok-key.key c.in_ok-key.ensures.items u) c.insert.ensures.updates)
      c.insert.ensures.err);
  lawful_definitions = c.args.self.now.lawful_definitions;
}

pub returns-clause-ok : goal.returns-clause-ok
returns-clause-ok c =
    let old = c.args.self.now in
    let with : Macros → Dictionary = λ macros. record { macros = macros; definitions = map text_of old.definitions.items } in
    ap with (macros_changed (under_name old.macros) (under_name c.insert.new.self) c.bytes.result.now c.args.m c.bytes.ensures
    (under_changed old.macros c.insert.new.self c.bytes.result.now (Some c.args.m) c.in_ok-key.key c.in_ok-key.ensures.items c.in_ok-insert.ensures.updates))
