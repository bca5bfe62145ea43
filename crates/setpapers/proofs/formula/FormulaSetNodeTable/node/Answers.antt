use Rattle.std.proofs.Common.{◌≡◌, ◌<◌, ◌≤◌, get_or, length, ap, ◌∙◌, rules}
use Rattle.std.specs.Prelude.{unwrap_or}
use Rattle.formulas.specs.declared.node.Node.TheVariants.{False}
use Rattle.setpapers.proofs.Rooted.{node_read, node_missing}
use Rattle.setpapers.proofs.formula.FormulaSetNodeTable.node.Goals as goal

pub returns-in-Some : goal.returns-in-Some
returns-in-Some c =
    let rows = c.entries.result.now in
    let below : c.args.at < length rows = search rules in
    let got : c.in-Some.bytes.now ≡ get_or rows c.args.at c.in-Some.bytes.now = search rules in
    c.unwrap_or.ensures ∙ ap (λ o. unwrap_or o False) c.decode.ensures ∙ node_read c.args.self.now.body.now c.args.at rows c.entries.ensures c.in-Some.bytes.now below got

pub returns-in-None : goal.returns-in-None
returns-in-None c =
    let past : length c.entries.result.now ≤ c.args.at = search rules in
    node_missing c.args.self.now.body.now c.args.at c.entries.result.now c.entries.ensures past
