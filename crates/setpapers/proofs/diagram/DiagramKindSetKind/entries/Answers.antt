use Rattle.std.proofs.Common.{◌∙◌}
use Rattle.setpapers.specs.Diagrams.{entries}
use Rattle.setpapers.proofs.Chunks.{chunks_row}
use Rattle.setpapers.proofs.diagram.DiagramKindSetKind.entries.Goals as goal

pub returns : goal.returns
returns c = c.as_chunks.ensures.front ∙ chunks_row 5 (entries c.args.body.now) c.args.body.now
