use Rattle.std.proofs.Common.{◌∙◌}
use Rattle.setpapers.specs.Lists.{states}
use Rattle.setpapers.proofs.Chunks.{chunks_row}
use Rattle.setpapers.proofs.list.ListKindSetKind.entries.Goals as goal

pub returns : goal.returns
returns c = c.as_chunks.ensures.front ∙ chunks_row 8 (states c.args.body.now) c.args.body.now
