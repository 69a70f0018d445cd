use Rattle.std.proofs.Common.{◌≡◌, ◌++◌, drop}
use Rattle.dx_telling.specs.AtHand.{event_lines}
use Rattle.dx_telling.proofs.events.push_events.Given as goal

abbrev pub invariant-loop-event : goal.invariant-loop-event
invariant-loop-event l = l.out.items ++ event_lines (drop l.event-index l.events) ≡ l.initial.out.items ++ event_lines l.events
