-- Some node is where a tree stands. Assumes nothing.
use Rattle.brackets.proofs.MarkingEdges.{top_here}
use Rattle.brackets.proofs.edges.top_at.Goals as goal

pub unwrap-requires : goal.unwrap-requires
unwrap-requires c = top_here c.requires c.node_at.ensures
