-- The measure is the length of the node's part of the script.
use Rattle.std.proofs.Common.{length}
use Rattle.typing.proofs.+type_node.Given as goal

abbrev pub decreases-type_node : goal.decreases-type_node
decreases-type_node l = length l.part.now
