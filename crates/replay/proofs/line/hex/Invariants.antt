use Rattle.std.proofs.Common.{◌≡◌, ◌*◌, ◌^◌, ◌<◌, drop}
use Rattle.replay.specs.Lines.{hex_from}
use Rattle.replay.proofs.line.hex.Given as goal

abbrev pub invariant-loop-b : goal.invariant-loop-b
invariant-loop-b l = (l.value < 2 ^ (4 * l.b-index)) × (hex_from l.value (drop l.b-index l.digits) ≡ hex_from 0 l.digits)
