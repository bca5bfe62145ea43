use Rattle.std.proofs.Common.{rules, sym}
use Rattle.logic.specs.Contained.{truth_high}
use Rattle.logic.specs.Views.{partial, fine}
use Rattle.logic.proofs.cube.Cube.truth_of.Goals.{then-v-self-via-then-v-self, then-v-self-via-else-v-self+then-not-has}
use Rattle.logic.proofs.cube.Cube.truth_of.Goals as goal

pub returns-then-v-self : goal.returns-then-v-self
returns-then-v-self c =
    let self = c.args.self.now in
    elim c.then-v-self.branch [
      | then-v-self-via-then-v-self w ↦ sym (truth_high (partial self) (fine self) c.args.v w.if-v-self.true)
      | then-v-self-via-else-v-self+then-not-has w ↦ search rules
    ]
