-- What is kept of the inputs where an effect's arguments come to this.
use Rattle.std.proofs.Common.{List, length}
use Rattle.std.specs.Prelude.{Result, Ok, Err, IfOk}
use Rattle.dx_objects.specs.Runs.{Values}
use Rattle.dx_macros.specs.Tree.{Trees, NoTree}
use Rattle.dx_graph.specs.Graph.{Node}
use Rattle.dx_graph.specs.declared.node.Input.{Input}
use Rattle.dx_tags.specs.declared.term.ValueTag.{ValueTag}
use Rattle.dx_getting.specs.declared.fail.GetFail.{GetFail}
use Rattle.dx_getting.specs.declared.fail.GetFail.TheVariants as fail
use Rattle.dx_meaning.specs.Scan.{Sight}
use Rattle.dx_demand.specs.Memo.{Answers}
use Rattle.dx_demand.specs.Calling.{AreValued}
use Rattle.dx_performing.specs.Kept.{Kept}
use Rattle.dx_performing.specs.Course.{Fixed}
use Rattle.dx_looking.specs.Setting.{nodes_in, sight_in}
use Rattle.dx_looking.specs.declared.cut.Cut.{Cut}
use Rattle.dx_looking.specs.declared.setup.Setup.{Setup}
use Rattle.dx_looking.specs.declared.progress.Progress.{Progress}
use Rattle.dx_effects.specs.Coming.{ArgumentsAlike, ArgumentsValued, ArgumentsHalted, came_so}
use Rattle.dx_effects.specs.declared.came.Arguments.{Arguments}
use Rattle.dx_effects.specs.declared.came.Arguments.TheVariants as arguments

valued_of : (answers : Answers) (is : List Input) → AreValued answers is (length is) → (how : Arguments) → ArgumentsValued answers is how
valued_of answers is v (arguments.Values ts vs) = v
valued_of answers is v arguments.Off = tt
valued_of answers is v (arguments.Halt n code) = tt
valued_of answers is v (arguments.SelectorRefused n r) = tt
valued_of answers is v (arguments.Refused r) = v

pub valued_so : (answers : Answers) (is : List Input) → AreValued answers is (length is) → (r : Result Arguments Cut) → IfOk r (λ how. ArgumentsValued answers is how)
valued_so answers is v (Ok how) = valued_of answers is v how
valued_so answers is v (Err cut) = tt

-- getting values refuses no selector
pub came_halted : (s : Sight) (nodes : List Node) (ts : Trees) (terms : List ValueTag) (r : Result Values GetFail) → IfOk (came_so terms r) (λ how. ArgumentsHalted s nodes ts how)
came_halted s nodes ts terms (Ok values) = tt
came_halted s nodes ts terms (Err (fail.Refused tag code)) = tt
came_halted s nodes ts terms (Err fail.ReadFault) = tt
came_halted s nodes ts terms (Err fail.Memory) = tt

got_alike_so : (setup : Setup) (x : Fixed) (k : Kept) (ts : Trees) (at : Progress) (how : Arguments) → ArgumentsHalted (sight_in setup at) (nodes_in setup) NoTree how → ArgumentsAlike setup x k ts (Ok how) at
got_alike_so setup x k ts at (arguments.Values us vs) h = tt
got_alike_so setup x k ts at arguments.Off h = tt
got_alike_so setup x k ts at (arguments.Halt m code) h = tt
got_alike_so setup x k ts at (arguments.SelectorRefused m r) h = (let none = h.0.1 in cc)
got_alike_so setup x k ts at (arguments.Refused r) h = tt

pub got_alike : (setup : Setup) (x : Fixed) (k : Kept) (ts : Trees) (at : Progress) (r : Result Arguments Cut) → IfOk r (λ how. ArgumentsHalted (sight_in setup at) (nodes_in setup) NoTree how) → ArgumentsAlike setup x k ts r at
got_alike setup x k ts at (Ok how) h = got_alike_so setup x k ts at how h
got_alike setup x k ts at (Err cut) h = tt
